-- The group is found, or is the last one.
use Rattle.std.proofs.Common.{◌∙◌, ap, sym, inl, refl}
use Rattle.std.specs.Prelude.{List, position, ◌==◌}
use Rattle.djq_reach.specs.declared.group.Group.{Group}
use Rattle.djq_transaction.proofs.groups.place_group.Goals as goal

pub returns-in-Some : goal.returns-in-Some
returns-in-Some c = inl (
  sym (c.in-Some.ensures
      ∙ ap (λ (gs : List Group). position (λ (g : Group). g.relation.at == c.args.relation.at) gs) c.as_slice.ensures.value),
  refl,
)
