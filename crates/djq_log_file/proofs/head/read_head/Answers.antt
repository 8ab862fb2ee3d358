-- The gate, the length and the digest stand one behind another.
use Rattle.std.proofs.Common.{◌+◌, drop, arith}
use Rattle.djq_disk.specs.declared.filling.Filled.TheVariants.{Whole, Short}
use Rattle.djq_log_file.specs.Window.{FillsPart}
use Rattle.djq_log_file.specs.Entries.{IsRecordHead}
use Rattle.djq_log_file.specs.declared.damage.Damage.TheVariants.{Cut, Length}
use Rattle.djq_log_file.specs.declared.head.Head.TheVariants.{Record, Damaged}
use Rattle.djq_log_file.proofs.Through.{reads_both}
use Rattle.djq_log_file.proofs.Heads.{head_none, head_record, head_short}
use Rattle.djq_log_file.proofs.head.read_head.Goals as goal

pub returns-in-None-clause-told : goal.returns-in-None-clause-told
returns-in-None-clause-told g c =
    let at = c.args.at in
    let gate = c.fill.new.buf in
    let stored = c.fill-2.new.buf in
    reads_both _ _ _ _ _ _ (FillsPart Whole at gate) (FillsPart Whole (at + 1) stored)
    (λ bytes. IsRecordHead (Damaged Length) (drop at bytes))
    (λ bytes one two. head_none at bytes gate stored c.fill.auto.buf one c.if-gate-eq0.false c.fill-2.auto.buf two
    (λ n some e. c.in-None.ensures.none n e))
    c.in-Whole.ensures.told c.in-Whole-fill.ensures.told

pub returns-then-size-eq0-clause-told : goal.returns-then-size-eq0-clause-told
returns-then-size-eq0-clause-told g c =
    let at = c.args.at in
    let gate = c.fill.new.buf in
    let stored = c.fill-2.new.buf in
    reads_both _ _ _ _ _ _ (FillsPart Whole at gate) (FillsPart Whole (at + 1) stored)
    (λ bytes. IsRecordHead (Damaged Length) (drop at bytes))
    (λ bytes one two. head_none at bytes gate stored c.fill.auto.buf one c.if-gate-eq0.false c.fill-2.auto.buf two
    (λ n some e. omega (arith, some, e, c.in-Some.ensures.some, c.if-size-eq0.true)))
    c.in-Whole.ensures.told c.in-Whole-fill.ensures.told

pub returns-in-Whole-fill-2-clause-told : goal.returns-in-Whole-fill-2-clause-told
returns-in-Whole-fill-2-clause-told g c =
    let at = c.args.at in
    let gate = c.fill.new.buf in
    let stored = c.fill-2.new.buf in
    let noted = c.fill-3.new.buf in
    let size = c.in-Some.size in
    let digest = c.decode_digest.result in
    reads_both _ _ _ _ _ _ (λ bytes. FillsPart Whole at gate bytes × FillsPart Whole (at + 1) stored bytes)
    (FillsPart Whole (at + 9) noted) (λ bytes. IsRecordHead (Record size digest) (drop at bytes))
    (λ bytes both three. head_record at size digest bytes gate stored noted c.fill.auto.buf both.0 c.if-gate-eq0.false
    c.fill-2.auto.buf both.1 c.in-Some.ensures.encoded c.fill-3.auto.buf three c.decode_digest.ensures.encoded)
    (reads_both _ _ _ _ _ _ (FillsPart Whole at gate) (FillsPart Whole (at + 1) stored)
    (λ bytes. FillsPart Whole at gate bytes × FillsPart Whole (at + 1) stored bytes) (λ bytes one two. (one, two))
    c.in-Whole.ensures.told c.in-Whole-fill.ensures.told)
    c.in-Whole-fill-2.ensures.told

pub returns-in-Whole-fill-2-clause-fits : goal.returns-in-Whole-fill-2-clause-fits
returns-in-Whole-fill-2-clause-fits g c = (
  omega (arith, c.if-size-eq0.false),
  c.in-Some.ensures.short,
  c.decode_digest.ensures.fits,
  omega (arith, c.in-Whole-fill-2.ensures.within, c.fill-3.auto.buf),
)

pub returns-in-Short-fill-2-clause-told : goal.returns-in-Short-fill-2-clause-told
returns-in-Short-fill-2-clause-told g c =
    let at = c.args.at in
    let gate = c.fill.new.buf in
    let stored = c.fill-2.new.buf in
    let noted = c.fill-3.new.buf in
    reads_both _ _ _ _ _ _ (FillsPart Whole at gate) (FillsPart Short (at + 9) noted)
    (λ bytes. IsRecordHead (Damaged Cut) (drop at bytes))
    (λ bytes one three. head_short at 17 bytes gate c.fill.auto.buf one c.if-gate-eq0.false
    (omega (arith, three, c.fill-3.auto.buf)) (omega arith))
    (reads_both _ _ _ _ _ _ (FillsPart Whole at gate) (FillsPart Whole (at + 1) stored) (FillsPart Whole at gate)
    (λ bytes one two. one) c.in-Whole.ensures.told c.in-Whole-fill.ensures.told)
    c.in-Short-fill-2.ensures.told
