-- A relation changes if it has a group of the one list or of the other.
use Rattle.std.proofs.Common.{◌≡◌, ◌<◌, ◌∙◌, sym, ap, true, false, Bool, List, length}
use Rattle.std.specs.Prelude.{◌==◌, ◌||◌}
use Rattle.std.specs.List.{list_any}
use Rattle.djq_reach.specs.declared.group.Group.{Group}
use Rattle.djq_engine.proofs.ReachedQueries.{grouped_is}
use Rattle.djq_engine.proofs.carrying.is_changed.Goals as goal

pub returns-then-has_group : goal.returns-then-has_group
returns-then-has_group c = λ test k.
    let at = c.in-Some.id.at in
    let gone = list_any (λ (g : Group). g.relation.at == at) c.args.groups.now.gone.items in
    let e = c.in-Some.ensures in
    let some : list_any (λ (g : Group). g.relation.at == at) c.args.groups.now.come.items ≡ true =
    ap (λ (gs : List Group). list_any (λ (g : Group). g.relation.at == at) gs) (sym c.as_slice.ensures.value)
    ∙ sym c.has_group.ensures ∙ c.if-has_group.true in
    c.if-has_group.true ∙ sym (ap (λ b. b || gone) some)
    ∙ grouped_is c.args.catalog.now.relations c.args.groups.now.come.items c.args.groups.now.gone.items test at
    c.args.relation.now k e.0 e.1

pub returns-else-has_group : goal.returns-else-has_group
returns-else-has_group c = λ test k.
    let at = c.in-Some.id.at in
    let gone = list_any (λ (g : Group). g.relation.at == at) c.args.groups.now.gone.items in
    let e = c.in-Some.ensures in
    let none : list_any (λ (g : Group). g.relation.at == at) c.args.groups.now.come.items ≡ false =
    ap (λ (gs : List Group). list_any (λ (g : Group). g.relation.at == at) gs) (sym c.as_slice.ensures.value)
    ∙ sym c.has_group.ensures ∙ c.if-has_group.false in
    c.has_group-else-has_group.ensures
    ∙ ap (λ (gs : List Group). list_any (λ (g : Group). g.relation.at == at) gs) c.as_slice-else-has_group.ensures.value
    ∙ sym (ap (λ b. b || gone) none)
    ∙ grouped_is c.args.catalog.now.relations c.args.groups.now.come.items c.args.groups.now.gone.items test at
    c.args.relation.now k e.0 e.1
