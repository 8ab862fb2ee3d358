-- A text's number is its place among the known texts, since none of them stands there twice.
use Rattle.std.proofs.Common.{◌∙◌, ap, subst}
use Rattle.std.specs.Prelude.{Some}
use Rattle.djq_model.specs.Data.{Bytes}
use Rattle.djq_dictionary.specs.Known.{IsUnknown}
use Rattle.djq_database.proofs.Interning.{told_text, untold_text}
use Rattle.djq_database.proofs.catalog.Catalog.cell.Goals as goal

pub returns-in-Some : goal.returns-in-Some
returns-in-Some c = rw (← c.self.view_is)
    (told_text c.self.inside.texts c.args.value.now c.in-Text.text c.in-Some.number c.in-Text.is
    c.find.ensures.different
    (c.in-Some.ensures.known ∙ ap (λ (t : Bytes). Some t) c.as_bytes.ensures.bytes))

pub returns-in-None : goal.returns-in-None
returns-in-None c = rw (← c.self.view_is)
    (untold_text c.self.inside.texts c.args.value.now c.in-Text.text c.in-Text.is
    (subst (λ (t : Bytes). IsUnknown c.self.inside.texts t) c.as_bytes.ensures.bytes
    c.in-None.ensures.unknown))
