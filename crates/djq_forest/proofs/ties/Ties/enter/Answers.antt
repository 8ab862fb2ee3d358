-- A slot that is in no list comes before the first one of its list.
use Rattle.std.proofs.Common.{sym, ◌∙◌, ap, subst, arith, ℕ, List, Option, length, length-set, slice_set}
use Rattle.djq_arena.specs.Chains.{IsSlotBelow}
use Rattle.djq_forest.specs.declared.ties.Tie.{Tie}
use Rattle.djq_forest.proofs.Links.{length-tos}
use Rattle.djq_forest.proofs.TieChanges.{Enters, to_inside, head_within, enters_sound, enters_seen, told_empty}
use Rattle.djq_forest.proofs.ties.Ties.enter.Goals as goal

pub tie_of-to-requires : goal.tie_of-to-requires
tie_of-to-requires c = rw (← c.self.view_is, length-tos) at c.requires.within

pub head_of-next-requires : goal.head_of-next-requires
head_of-next-requires c = to_inside c.self.inside.ties.items c.self.inside.heads.items c.args.slot c.tie_of-to.result
    c.tie_of-to.ensures (rw (← c.self.view_is) at c.requires.to)

pub set_beside-requires : goal.set_beside-requires
set_beside-requires c = rw (← c.self.view_is, length-tos) at c.requires.within

pub to-requires : goal.to-requires
to-requires c =
    let within = rw (← c.self.view_is, length-tos) at c.requires.within in
    omega (arith, within, c.self.invariant.few)

pub set_prev-requires : goal.set_prev-requires
set_prev-requires c =
    let inside = to_inside c.self.inside.ties.items c.self.inside.heads.items c.args.slot c.tie_of-to.result
    c.tie_of-to.ensures (rw (← c.self.view_is) at c.requires.to) in
    subst (λ (o : Option ℕ). IsSlotBelow (length c.set_beside.new.ties.items) o) (sym c.head_of-next.ensures)
    (head_within c.self.inside.ties.items c.self.inside.heads.items c.tie_of-to.result.to
    (length c.set_beside.new.ties.items) c.self.invariant inside
    (sym (ap (λ (ts : List Tie). length ts) c.set_beside.ensures ∙ length-set c.self.inside.ties.items c.args.slot _)))

pub index_mut-requires : goal.index_mut-requires
index_mut-requires c =
    let inside = to_inside c.self.inside.ties.items c.self.inside.heads.items c.args.slot c.tie_of-to.result
    c.tie_of-to.ensures (rw (← c.self.view_is) at c.requires.to) in
    omega (arith, inside, c.self.inside.heads.ok.0)

-- where the slot comes, and what is known of it
enters : (c : goal.After-is_none) → Enters c.self.inside.ties.items c.set_prev.new.ties.items c.self.inside.heads.items
    (slice_set c.self.inside.heads.items c.tie_of-to.result.to c.to-2.result) c.args.slot c.tie_of-to.result.to
enters c = record {
  to = sym (ap (λ (t : Tie). t.to) c.tie_of-to.ensures);
  ties = rw (c.set_beside.ensures, c.none-prev.ensures, c.head_of-next.ensures, c.to.ensures) at c.set_prev.ensures;
  heads_are = ap (λ (o : Option ℕ). slice_set c.self.inside.heads.items c.tie_of-to.result.to o) c.to-2.ensures;
}

pub invariant_of-self : goal.invariant_of-self
invariant_of-self c =
    let within = rw (← c.self.view_is, length-tos) at c.requires.within in
    let inside = to_inside c.self.inside.ties.items c.self.inside.heads.items c.args.slot c.tie_of-to.result
    c.tie_of-to.ensures (rw (← c.self.view_is) at c.requires.to) in
    enters_sound c.self.inside.ties.items _ c.self.inside.heads.items _ c.args.slot c.tie_of-to.result.to c.self.invariant
    within inside (rw (← c.self.view_is) at c.requires.out) (enters c)

pub returns-clause-entered : goal.returns-clause-entered
returns-clause-entered c =
    let within = rw (← c.self.view_is, length-tos) at c.requires.within in
    let inside = to_inside c.self.inside.ties.items c.self.inside.heads.items c.args.slot c.tie_of-to.result
    c.tie_of-to.ensures (rw (← c.self.view_is) at c.requires.to) in
    rw (← c.self.view_is)
    (enters_seen c.self.inside.ties.items _ c.self.inside.heads.items _ c.args.slot c.tie_of-to.result.to c.self.invariant
    within inside (rw (← c.self.view_is) at c.requires.out) (enters c))

pub returns-clause-first : goal.returns-clause-first
returns-clause-first c =
    let inside = to_inside c.self.inside.ties.items c.self.inside.heads.items c.args.slot c.tie_of-to.result
    c.tie_of-to.ensures (rw (← c.self.view_is) at c.requires.to) in
    rw (← c.self.view_is)
    (told_empty c.self.inside.ties.items c.self.inside.heads.items c.args.slot c.tie_of-to.result c.is_none.result
    c.get.result c.self.invariant c.tie_of-to.ensures inside c.is_none.ensures (c.get.ensures ∙ c.head_of-next.ensures))
