-- The ids that are kept are those of the sessions, so the one that is there is found.
use Rattle.std.proofs.Common.{ℕ, ◌∙◌, List, length, get_or, sym, ap, subst, arith}
use Rattle.std.specs.Prelude.{Contains}
use Rattle.djq_commands.specs.Sound.{Rises}
use Rattle.djq_core.proofs.Placed.{seen_ids, seen_length, stands_there}
use Rattle.djq_core.proofs.sessions.Sessions.find.Goals as goal

pub place_from-requires : goal.place_from-requires
place_from-requires c = subst Rises (sym c.as_slice.ensures.value) c.self.invariant.0.rising

pub returns-clause-within : goal.returns-clause-within
returns-clause-within c =
    let same = seen_ids _ _ _ _ _ _ c.self.invariant.0 c.self.view_is ∙ sym c.as_slice.ensures.value in
    let there = stands_there c.as_slice.result.now c.args.id c.place_from.result
    (subst Rises (sym c.as_slice.ensures.value) c.self.invariant.0.rising)
    (subst (λ (ns : List ℕ). Contains ns c.args.id) same c.requires) c.place_from.ensures in
    omega (
      arith,
      there.0,
      ap length c.as_slice.ensures.value,
      seen_length _ _ _ _ _ _ c.self.invariant.0 c.self.view_is,
    )

pub returns-clause-there : goal.returns-clause-there
returns-clause-there c =
    let same = seen_ids _ _ _ _ _ _ c.self.invariant.0 c.self.view_is ∙ sym c.as_slice.ensures.value in
    let there = stands_there c.as_slice.result.now c.args.id c.place_from.result
    (subst Rises (sym c.as_slice.ensures.value) c.self.invariant.0.rising)
    (subst (λ (ns : List ℕ). Contains ns c.args.id) same c.requires) c.place_from.ensures in
    ap (λ (ns : List ℕ). get_or ns c.place_from.result 0) same ∙ there.1
