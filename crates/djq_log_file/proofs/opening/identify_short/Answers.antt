-- All bytes of the file were read, and a header begins with them or doesn't.
use Rattle.std.proofs.Common.{◌≡◌, length, inl, inr, true, false, sym, arith, length-take, ◌∙◌}
use Rattle.std.proofs.lemmas.List.{take_at}
use Rattle.std.proofs.lemmas.Slice.Eq.{bytes_eq-Decides}
use Rattle.djq_disk.specs.Filling.{FillsBuffer}
use Rattle.djq_disk.specs.declared.filling.Filled.TheVariants.{Whole}
use Rattle.djq_disk.proofs.Files.{told_so}
use Rattle.djq_log_file.specs.Opening.{Identifies}
use Rattle.djq_log_file.specs.declared.opening.LogOpened.TheVariants.{Unbegun, Unknown}
use Rattle.djq_log_file.proofs.Opens.{short_unbegun, short_unknown}
use Rattle.djq_log_file.proofs.opening.identify_short.Goals as goal

pub returns-then-eq-clause-told : goal.returns-then-eq-clause-told
returns-then-eq-clause-told g c =
    let size = c.args.size in
    let got = c.fill.new.buf in
    let long : length got ≡ size = omega (arith, c.fill.auto.buf ∙ length-take size _, c.requires.few) in
    told_so _ _ (FillsBuffer Whole 0 got) (λ o n. size ≡ length o.file.bytes → Identifies Unbegun o n)
    (λ o n fills is. short_unbegun size got o n c.requires.few is long
    (inl (sym (take_at got _ size long) ∙ (bytes_eq-Decides _ _).0 (sym c.if-eq.ensures))) fills)
    c.in-Whole.ensures.told

pub returns-then-eq-2-clause-told : goal.returns-then-eq-2-clause-told
returns-then-eq-2-clause-told g c =
    let size = c.args.size in
    let got = c.fill.new.buf in
    let long : length got ≡ size = omega (arith, c.fill.auto.buf ∙ length-take size _, c.requires.few) in
    told_so _ _ (FillsBuffer Whole 0 got) (λ o n. size ≡ length o.file.bytes → Identifies Unbegun o n)
    (λ o n fills is. short_unbegun size got o n c.requires.few is long
    (inr (sym (take_at got _ size long) ∙ (bytes_eq-Decides _ _).0 (sym c.if-eq-2.ensures))) fills)
    c.in-Whole.ensures.told

pub returns-else-eq-2-clause-told : goal.returns-else-eq-2-clause-told
returns-else-eq-2-clause-told g c =
    let size = c.args.size in
    let got = c.fill.new.buf in
    let long : length got ≡ size = omega (arith, c.fill.auto.buf ∙ length-take size _, c.requires.few) in
    told_so _ _ (FillsBuffer Whole 0 got) (λ o n. size ≡ length o.file.bytes → Identifies Unknown o n)
    (λ o n fills is. short_unknown size got o n c.requires.few is long
    (λ e. let wrong : false ≡ true = c.if-eq.ensures ∙ (bytes_eq-Decides _ _).1 (take_at got _ size long ∙ e) in cc)
    (λ e. let wrong : false ≡ true = c.if-eq-2.ensures ∙ (bytes_eq-Decides _ _).1 (take_at got _ size long ∙ e) in cc)
    fills)
    c.in-Whole.ensures.told
