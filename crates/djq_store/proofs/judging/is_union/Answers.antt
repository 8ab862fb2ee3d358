-- A union that is found in a slot by its name is registered under it; where none is, no union is.
use Rattle.std.proofs.Common.{◌≡◌, Bool, true, false, refl, sym, ◌∙◌}
use Rattle.djq_model.specs.Listed.{listed_of}
use Rattle.djq_store_spec.specs.Union.{is_union}
use Rattle.djq_store.specs.Places.{store_kept_in}
use Rattle.djq_store.proofs.Lookups.{union_there, no_union_there}
use Rattle.djq_store.proofs.Places.{sought_none, sought_some}
use Rattle.djq_store.proofs.judging.is_union.Goals as goal

pub returns : goal.returns
returns c = by_found c.is_some.result refl
  where
    by_found : (x : Bool) → c.is_some.result ≡ x
        → c.is_some.result ≡ is_union (listed_of (store_kept_in c.args.parts.now).store.queries c.args.name.now)
    by_found true f =
        let p = c.args.parts.now in
        let u = sought_some p.unions.items c.as_slice.result.now c.args.name.now c.as_slice.ensures.value
        c.find_union.result c.find_union.ensures (sym c.is_some.ensures ∙ f) in
        f ∙ sym (union_there p.engine c.laws.ensures p.unions.items p.order.items p.sessions.items
        p.affected.items c.requires.listed c.args.name.now u.0 u.1)
    by_found false f =
        let p = c.args.parts.now in
        f ∙ sym (no_union_there p.engine c.laws.ensures p.unions.items p.order.items p.sessions.items
        p.affected.items c.requires.listed c.args.name.now
        (sought_none p.unions.items c.as_slice.result.now c.args.name.now c.as_slice.ensures.value c.find_union.result
        c.find_union.ensures (sym c.is_some.ensures ∙ f)))
