-- Cutting the buffer at its ends gives one text for each end.
use Rattle.std.proofs.Common.{length, sym, ◌∙◌, ap}
use Rattle.djq_dictionary.specs.Buffer.{Shelf}
use Rattle.djq_dictionary.proofs.Dictionary.{length-pieces}
use Rattle.djq_dictionary.proofs.texts.Texts.len.Goals as goal

pub returns : goal.returns
returns c =
    let t = c.self.inside in
    c.len.ensures ∙ t.ends.ok.0 ∙ sym (length-pieces t.bytes.items 0 t.ends.items)
    ∙ ap (λ (s : Shelf). length s.texts) c.self.view_is
