-- By the invariant the names are those of the relations, in order, so a name's number is a relation's place.
use Rattle.std.proofs.Common.{◌∙◌, ap, refl, subst}
use Rattle.std.specs.Prelude.{Some}
use Rattle.djq_model.specs.Data.{Bytes}
use Rattle.djq_dictionary.specs.Known.{IsUnknown}
use Rattle.djq_database.proofs.Catalogs.{found_in, none_in}
use Rattle.djq_database.proofs.catalog.Catalog.id.Goals as goal

pub returns-in-Some : goal.returns-in-Some
returns-in-Some c = rw (← c.self.view_is)
    (found_in c.self.inside c.args.name.now c.in-Some.number (record { at = c.in-Some.number })
    c.self.invariant
    (c.in-Some.ensures.known ∙ ap (λ (t : Bytes). Some t) c.as_bytes.ensures.bytes) refl)

pub returns-in-None : goal.returns-in-None
returns-in-None c = rw (← c.self.view_is)
    (none_in c.self.inside c.args.name.now c.self.invariant (subst (λ (t : Bytes). IsUnknown
    c.self.inside.names t) c.as_bytes.ensures.bytes c.in-None.ensures.unknown))
