-- New slots have empty lists, and the others' lists stay.
use Rattle.std.proofs.Common.{ℕ, List, Option, sym, subst}
use Rattle.std.proofs.lemmas.Result.{IfOk-weaker, on_err_weaker}
use Rattle.djq_arena.proofs.Slots.{either}
use Rattle.djq_forest.specs.Ties.{TiesAreSound}
use Rattle.djq_forest.proofs.TieGrowth.{more_lists_sound, more_lists_seen, same_heads_seen}
use Rattle.djq_forest.proofs.ties.Ties.grow_lists.Goals as goal

pub invariant_of-self : goal.invariant_of-self
invariant_of-self c =
    let ts = c.self.inside.ties.items in
    let heads = c.self.inside.heads.items in
    either c.resize_heads.result _ _ (TiesAreSound ts c.resize_heads.new.heads.items) c.resize_heads.ensures.more
    c.resize_heads.ensures.refused
    (λ _ is. more_lists_sound ts heads c.resize_heads.new.heads.items c.args.slots c.self.invariant is)
    (λ same. subst (λ (hs : List (Option ℕ)). TiesAreSound ts hs) (sym same) c.self.invariant)

pub returns-clause-grown : goal.returns-clause-grown
returns-clause-grown c = rw (← c.self.view_is)
    (IfOk-weaker c.resize_heads.result _ _
    (λ _ is. more_lists_seen c.self.inside.ties.items c.self.inside.heads.items c.resize_heads.new.heads.items c.args.slots
    c.self.invariant is) c.resize_heads.ensures.more)

pub returns-clause-refused : goal.returns-clause-refused
returns-clause-refused c = rw (← c.self.view_is)
    (on_err_weaker c.resize_heads.result
    (same_heads_seen c.self.inside.ties.items c.self.inside.heads.items c.resize_heads.new.heads.items)
    c.resize_heads.ensures.refused)
