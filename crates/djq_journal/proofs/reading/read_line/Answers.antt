-- The head says the length and the bytes behind it are the line, so its record stands at the gate.
use Rattle.std.proofs.Common.{◌≡◌, ℕ, ◌+◌, [], ◌∷◌, ◌++◌, List, length, take, drop, sym, subst, ◌∙◌, arith, length-take}
use Rattle.std.proofs.lemmas.List.{take_at}
use Rattle.djq_disk.specs.History.{History}
use Rattle.djq_disk.specs.Filling.{FillsBuffer}
use Rattle.djq_disk.specs.declared.filling.Filled.TheVariants.{Whole}
use Rattle.djq_disk.proofs.Files.{told_both}
use Rattle.djq_journal.specs.Standing.{IsAtGate}
use Rattle.djq_journal.specs.Reading.{IsHead}
use Rattle.djq_journal.specs.declared.reading.Head.TheVariants.{Open}
use Rattle.djq_journal.proofs.Records.{line_read}
use Rattle.djq_journal.proofs.reading.read_line.Goals as goal

pub returns-in-Whole-clause-told : goal.returns-in-Whole-clause-told
returns-in-Whole-clause-told g c lines =
    let gate = c.args.gate in
    let n = c.in-Open.n in
    let got = c.fill.new.buf in
    let behind = drop n c.args.buf.now in
    let size : length got
    ≡ n = omega (arith, c.fill.auto.buf, length-take n c.args.buf.now, c.requires.room, c.in-Open.ensures.fits.1) in
    told_both _ _ _ (λ o m. IsHead (Open n) (drop gate o.file.bytes) × (m ≡ o)) (FillsBuffer Whole (gate + 3) got)
    (λ o k. (k ≡ o)
    × (IsAtGate lines gate o.file → IsAtGate (lines ++ take n (got ++ behind) ∷ []) (gate + (3 + n)) o.file))
    (λ o m k head fills. (
      fills.1 ∙ head.1,
      λ at.
          subst (λ (line : List ℕ). IsAtGate (lines ++ line ∷ []) (gate + (3 + n)) o.file)
          (sym (take_at got behind n size))
          (line_read lines gate n got o.file at head.0 c.in-Open.ensures.fits.0 c.in-Open.ensures.fits.1 size
          (subst (λ (h : History). got ≡ take (length got) (drop (gate + 3) h.file.bytes)) head.1 fills.0)),
    ))
    c.in-Open.ensures.told c.in-Whole.ensures.told
