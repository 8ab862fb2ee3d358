-- A slot of a list stands between its neighbours, which are linked to each other then.
use Rattle.std.proofs.Common.{◌≡◌, sym, ◌∙◌, ap, refl, arith, ℕ, List, Option, length}
use Rattle.std.proofs.Common.{slice_set}
use Rattle.std.specs.Prelude.{is_none}
use Rattle.djq_forest.specs.declared.ties.Tie.{Tie}
use Rattle.djq_forest.specs.Ties.{tie_in}
use Rattle.djq_forest.proofs.TieChanges.{Leaves, listed_place, place_within, prev_within, next_within}
use Rattle.djq_forest.proofs.TieChanges.{leaves_sound, leaves_seen, left_some, left_none, length-next_set, head_stays, head_moves, told_none}
use Rattle.djq_forest.proofs.ties.Ties.leave.Goals as goal

pub tie_of-to-requires : goal.tie_of-to-requires
tie_of-to-requires c = place_within c.self.inside.ties.items c.self.inside.heads.items c.args.slot _
    (listed_place c.self.inside.ties.items c.self.inside.heads.items c.args.slot c.self.invariant
    (rw (← c.self.view_is) at c.requires))

pub set_next-requires : goal.set_next-requires
set_next-requires c = rw c.tie_of-to.ensures
    (prev_within c.self.inside.ties.items c.self.inside.heads.items c.args.slot _ (length c.self.inside.ties.items)
    (listed_place c.self.inside.ties.items c.self.inside.heads.items c.args.slot c.self.invariant
    (rw (← c.self.view_is) at c.requires)) refl)

pub set_prev-requires : goal.set_prev-requires
set_prev-requires c = rw c.tie_of-to.ensures
    (next_within c.self.inside.ties.items c.self.inside.heads.items c.args.slot _ (length c.set_next.new.ties.items)
    (listed_place c.self.inside.ties.items c.self.inside.heads.items c.args.slot c.self.invariant
    (rw (← c.self.view_is) at c.requires))
    (sym (ap (λ (ts : List Tie). length ts) c.set_next.ensures ∙ length-next_set _ _ c.self.inside.ties.items)))

-- what is known where the slot stood behind another one
behind : (c : goal.In-Some) → Leaves c.self.inside.ties.items c.set_prev.new.ties.items c.self.inside.heads.items
    c.self.inside.heads.items c.args.slot
behind c = record {
  ties = rw (c.set_next.ensures, c.tie_of-to.ensures) at c.set_prev.ensures;
  heads_are = head_stays c.tie_of-to.result _ c.self.inside.heads.items c.in-Some._before c.tie_of-to.ensures
      (sym c.get.ensures ∙ c.in-Some.is);
}

-- what is known where it stood first
at_front : (c : goal.After-is_none) → Leaves c.self.inside.ties.items c.set_prev.new.ties.items c.self.inside.heads.items
    (slice_set c.self.inside.heads.items c.tie_of-to.result.to c.tie_of-to.result.beside.next) c.args.slot
at_front c = record {
  ties = rw (c.set_next.ensures, c.tie_of-to.ensures) at c.set_prev.ensures;
  heads_are = head_moves c.tie_of-to.result _ c.self.inside.heads.items c.tie_of-to.ensures
      (sym c.get.ensures ∙ c.in-None.is);
}

pub invariant_of-self : goal.invariant_of-self
invariant_of-self c = leaves_sound c.self.inside.ties.items _ c.self.inside.heads.items _ c.args.slot c.self.invariant
    (listed_place c.self.inside.ties.items c.self.inside.heads.items c.args.slot c.self.invariant
    (rw (← c.self.view_is) at c.requires)) (behind c)

pub index_mut-requires : goal.index_mut-requires
index_mut-requires c =
    let p = listed_place c.self.inside.ties.items c.self.inside.heads.items c.args.slot c.self.invariant
    (rw (← c.self.view_is) at c.requires) in
    let to : c.tie_of-to.result.to ≡ (tie_in c.self.inside.ties.items c.args.slot).to =
    ap (λ (t : Tie). t.to) c.tie_of-to.ensures in
    omega (arith, p.inside, to, c.self.inside.heads.ok.0)

pub invariant_of-self-in-None : goal.invariant_of-self-in-None
invariant_of-self-in-None c = leaves_sound c.self.inside.ties.items _ c.self.inside.heads.items _ c.args.slot
    c.self.invariant
    (listed_place c.self.inside.ties.items c.self.inside.heads.items c.args.slot c.self.invariant
    (rw (← c.self.view_is) at c.requires)) (at_front c)

pub returns-in-Some-clause-left : goal.returns-in-Some-clause-left
returns-in-Some-clause-left c = rw (← c.self.view_is)
    (leaves_seen c.self.inside.ties.items _ c.self.inside.heads.items _ c.args.slot c.self.invariant
    (listed_place c.self.inside.ties.items c.self.inside.heads.items c.args.slot c.self.invariant
    (rw (← c.self.view_is) at c.requires)) (behind c))

pub returns-in-Some-clause-last : goal.returns-in-Some-clause-last
returns-in-Some-clause-last c = rw (← c.self.view_is)
    (left_some c.self.inside.ties.items _ c.self.inside.heads.items _ c.args.slot c.in-Some._before c.self.invariant
    (listed_place c.self.inside.ties.items c.self.inside.heads.items c.args.slot c.self.invariant
    (rw (← c.self.view_is) at c.requires)) (behind c)
    (ap (λ (t : Tie). t.beside.prev) (sym c.tie_of-to.ensures) ∙ sym c.get.ensures ∙ c.in-Some.is))

pub returns-in-None-clause-left : goal.returns-in-None-clause-left
returns-in-None-clause-left c = rw (← c.self.view_is)
    (leaves_seen c.self.inside.ties.items _ c.self.inside.heads.items _ c.args.slot c.self.invariant
    (listed_place c.self.inside.ties.items c.self.inside.heads.items c.args.slot c.self.invariant
    (rw (← c.self.view_is) at c.requires)) (at_front c))

pub returns-in-None-clause-last : goal.returns-in-None-clause-last
returns-in-None-clause-last c = rw (← c.self.view_is)
    (told_none c.is_none.result _ c.is_none.ensures
    ∙ ap (λ (o : Option ℕ). is_none o) (c.get-in-None.ensures ∙ ap (λ (t : Tie). t.beside.next) c.tie_of-to.ensures)
    ∙ left_none c.self.inside.ties.items _ c.self.inside.heads.items _ c.args.slot c.self.invariant
    (listed_place c.self.inside.ties.items c.self.inside.heads.items c.args.slot c.self.invariant
    (rw (← c.self.view_is) at c.requires)) (at_front c)
    (ap (λ (t : Tie). t.beside.prev) (sym c.tie_of-to.ensures) ∙ sym c.get.ensures ∙ c.in-None.is))
