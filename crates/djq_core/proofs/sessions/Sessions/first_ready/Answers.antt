-- Ids rise, so those in front of the place are lower; each one behind it is looked at in turn.
use Rattle.std.proofs.Common.{ℕ, suc, ◌≡◌, ◌+◌, ◌<◌, ◌∙◌, List, find, drop, length, get_or, sym, ap, subst, arith}
use Rattle.djq_commands.specs.Sound.{Rises}
use Rattle.djq_core.proofs.Placed.{passes_from, is_found, key_is, low_le, passed_low, passed_lower}
use Rattle.djq_core.proofs.Placed.{passed_quiet, seen_ids, seen_length}
use Rattle.djq_core.proofs.Quiet.{ends_at, starts_at}
use Rattle.djq_commands.specs.declared.open.OpenSession.{OpenSession}
use Rattle.djq_core.specs.Sessions.{QuietOutside}
use Rattle.djq_core.proofs.sessions.Sessions.first_ready.Goals.{else-from-via-then-from+else-is_ready}
use Rattle.djq_core.proofs.sessions.Sessions.first_ready.Goals.{else-from-via-else-from}
use Rattle.djq_session.specs.Dialog.{dialog_is_ready}
use Rattle.djq_core.proofs.sessions.Sessions.first_ready.Goals as goal

pub place_from-requires : goal.place_from-requires
place_from-requires c = subst Rises (sym c.as_slice.ensures.value) c.self.invariant.0.rising

pub loop-at-init : goal.loop-at-init
loop-at-init c =
    let same = seen_ids _ _ _ _ _ _ c.self.invariant.0 c.self.view_is ∙ sym c.as_slice.ensures.value in
    let low = low_le c.try_from.result c.args.from c.try_from.ensures in
    let quiet = subst (λ (xs : List OpenSession). QuietOutside xs c.self.inside.ready_from c.self.inside.ready_to)
    c.self.view_is c.self.invariant.1 in
    let passed = passed_low dialog_is_ready c.args.self.now c.args.from c.place_from.result
    (λ at l. omega (
      arith,
      c.place_from.ensures.below at l,
      ap (λ (ns : List ℕ). get_or ns at 0) same,
      low,
      c.unwrap_or-low.ensures,
    ))
    (omega (
      arith,
      c.place_from.ensures.within,
      ap length c.as_slice.ensures.value,
      seen_length _ _ _ _ _ _ c.self.invariant.0 c.self.view_is,
    )) in
    starts_at c.args.self.now c.args.from c.self.inside.ready_from c.self.inside.ready_to c.place_from.result
    c.max-start.result quiet (omega (arith, c.max-start.ensures)) (λ k above below. omega (arith, below, above, c.max-start.ensures)) passed

pub get-requires : goal.get-requires
get-requires c = omega (
  arith,
  c.loop-at-test.true,
  c.min-end.ensures,
  c.len.ensures,
  c.self.inside.ids.ok.0,
  seen_length _ _ _ _ _ _ c.self.invariant.0 c.self.view_is,
)

pub returns-then-is_ready : goal.returns-then-is_ready
returns-then-is_ready c =
    let within : c.loop-at.at < length c.self.inside.ids.items = omega
    (arith, c.loop-at-test.true, c.min-end.ensures, c.len.ensures, c.self.inside.ids.ok.0) in
    let same = ap (λ (ns : List ℕ). get_or ns c.loop-at.at 0) (seen_ids _ _ _ _ _ _ c.self.invariant.0 c.self.view_is)
    ∙ key_is c.self.inside.ids.items c.loop-at.at c.index-id.result.now within c.index-id.ensures in
    is_found dialog_is_ready c.args.self.now c.args.from c.loop-at.at c.index-id.result.now c.get.result.now c.loop-at.invariant
    c.get.ensures same (omega (arith, c.if-from.true, c.from.ensures)) (sym c.is_ready.ensures ∙ c.if-is_ready.true)

pub loop-at-preserved : goal.loop-at-preserved
loop-at-preserved c =
    let within : c.loop-at.at < length c.self.inside.ids.items = omega
    (arith, c.loop-at-test.true, c.min-end.ensures, c.len.ensures, c.self.inside.ids.ok.0) in
    let same = ap (λ (ns : List ℕ). get_or ns c.loop-at.at 0) (seen_ids _ _ _ _ _ _ c.self.invariant.0 c.self.view_is)
    ∙ key_is c.self.inside.ids.items c.loop-at.at c.index-id.result.now within c.index-id.ensures in
    let next : suc c.loop-at.at ≡ c.loop-at.at + 1 = omega arith in
    subst (λ (at : ℕ). find (passes_from dialog_is_ready c.args.from) c.args.self.now
    ≡ find (passes_from dialog_is_ready c.args.from) (drop at c.args.self.now)) next
    (c.loop-at.invariant ∙ elim c.else-from.branch [
      | else-from-via-then-from+else-is_ready w ↦
          passed_quiet dialog_is_ready c.args.self.now c.args.from c.loop-at.at w.get.result.now w.get.ensures
          (sym w.is_ready.ensures ∙ w.if-is_ready.false)
      | else-from-via-else-from w ↦
          passed_lower dialog_is_ready c.args.self.now c.args.from c.loop-at.at
          (omega (arith, within, seen_length _ _ _ _ _ _ c.self.invariant.0 c.self.view_is))
          (omega (arith, same, w.if-from.false, c.from.ensures))
    ])

pub returns : goal.returns
returns c =
    let quiet = subst (λ (xs : List OpenSession). QuietOutside xs c.self.inside.ready_from c.self.inside.ready_to)
    c.self.view_is c.self.invariant.1 in
    ends_at c.args.self.now c.args.from c.self.inside.ready_from c.self.inside.ready_to c.loop-at.at quiet
    (λ k above below. omega (
      arith,
      above,
      below,
      c.loop-at-test.false,
      c.min-end.ensures,
      c.len.ensures,
      seen_length _ _ _ _ _ _ c.self.invariant.0 c.self.view_is,
    )) c.loop-at.invariant
