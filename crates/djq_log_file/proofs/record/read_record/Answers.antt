-- The head says how long the body is, and which digest it has.
use Rattle.std.proofs.Common.{◌+◌, drop, arith}
use Rattle.djq_log_file.specs.Entries.{IsRecordHead, IsBody, StandsAtGate}
use Rattle.djq_log_file.specs.declared.damage.Damage.TheVariants.{Cut, Lines as BadLines, Digest}
use Rattle.djq_log_file.specs.declared.body.Body.TheVariants.{Lines, NoLines, Short}
use Rattle.djq_log_file.specs.declared.head.Head.TheVariants.{Record, Damaged}
use Rattle.djq_log_file.specs.declared.record.Found.TheVariants.{Group, Bad}
use Rattle.djq_log_file.proofs.Through.{reads_so, reads_both}
use Rattle.djq_log_file.proofs.Heads.{record_found, record_differs, record_no_lines, record_cut, head_damaged}
use Rattle.djq_log_file.proofs.record.read_record.Goals as goal

pub returns-in-Damaged-clause-told : goal.returns-in-Damaged-clause-told
returns-in-Damaged-clause-told g c =
    let at = c.args.at in
    let reason = c.in-Damaged.reason in
    reads_so _ _ _ _ (λ bytes. IsRecordHead (Damaged reason) (drop at bytes))
    (λ bytes. StandsAtGate (Bad reason) c.args.digest (drop at bytes))
    (λ bytes head. head_damaged reason c.args.digest (drop at bytes) (omega (arith, c.ranges.digest)) head)
    c.in-Damaged.ensures.told

pub returns-then-after-stored-clause-told : goal.returns-then-after-stored-clause-told
returns-then-after-stored-clause-told g c =
    let at = c.args.at in
    let size = c.in-Record.size in
    let stored = c.in-Record.stored in
    let after = c.in-Lines.after in
    let fits = c.in-Record.ensures.fits in
    reads_both _ _ _ _ _ _ (λ bytes. IsRecordHead (Record size stored) (drop at bytes))
    (λ bytes. IsBody (Lines after) c.args.digest size (drop (at + 17) bytes))
    (λ bytes. StandsAtGate (Group size stored) c.args.digest (drop at bytes))
    (λ bytes head body. record_found at size stored c.args.digest after bytes head fits.0 fits.1 body
    c.if-after-stored.true)
    c.in-Record.ensures.told c.in-Lines.ensures.told

pub returns-else-after-stored-clause-told : goal.returns-else-after-stored-clause-told
returns-else-after-stored-clause-told g c =
    let at = c.args.at in
    let size = c.in-Record.size in
    let stored = c.in-Record.stored in
    let after = c.in-Lines.after in
    let fits = c.in-Record.ensures.fits in
    reads_both _ _ _ _ _ _ (λ bytes. IsRecordHead (Record size stored) (drop at bytes))
    (λ bytes. IsBody (Lines after) c.args.digest size (drop (at + 17) bytes))
    (λ bytes. StandsAtGate (Bad Digest) c.args.digest (drop at bytes))
    (λ bytes head body. record_differs at size stored c.args.digest after bytes head fits.1 fits.2
    (omega (arith, c.ranges.digest)) body c.if-after-stored.false)
    c.in-Record.ensures.told c.in-Lines.ensures.told

pub returns-in-NoLines-clause-told : goal.returns-in-NoLines-clause-told
returns-in-NoLines-clause-told g c =
    let at = c.args.at in
    let size = c.in-Record.size in
    let stored = c.in-Record.stored in
    let fits = c.in-Record.ensures.fits in
    reads_both _ _ _ _ _ _ (λ bytes. IsRecordHead (Record size stored) (drop at bytes))
    (λ bytes. IsBody NoLines c.args.digest size (drop (at + 17) bytes))
    (λ bytes. StandsAtGate (Bad BadLines) c.args.digest (drop at bytes))
    (λ bytes head body. record_no_lines at size stored c.args.digest bytes head fits.1 (omega (arith, c.ranges.digest)) body)
    c.in-Record.ensures.told c.in-NoLines.ensures.told

pub returns-in-Short-clause-told : goal.returns-in-Short-clause-told
returns-in-Short-clause-told g c =
    let at = c.args.at in
    let size = c.in-Record.size in
    let stored = c.in-Record.stored in
    let fits = c.in-Record.ensures.fits in
    reads_both _ _ _ _ _ _ (λ bytes. IsRecordHead (Record size stored) (drop at bytes))
    (λ bytes. IsBody Short c.args.digest size (drop (at + 17) bytes))
    (λ bytes. StandsAtGate (Bad Cut) c.args.digest (drop at bytes))
    (λ bytes head body. record_cut at size stored c.args.digest bytes head fits.1 (omega (arith, c.ranges.digest)) body)
    c.in-Record.ensures.told c.in-Short.ensures.told
