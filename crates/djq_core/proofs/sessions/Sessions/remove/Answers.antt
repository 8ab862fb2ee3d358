-- The slot of the key at the place is emptied, and its id and key are gone.
use Rattle.std.proofs.Common.{arith, sym, subst, List}
use Rattle.djq_commands.specs.declared.open.OpenSession.{OpenSession}
use Rattle.djq_core.specs.Sessions.{QuietOutside}
use Rattle.djq_core.proofs.Placed.{key_holds, key_within, remove_placed, seen_length}
use Rattle.djq_core.proofs.Quiet.{quiet_gone}
use Rattle.djq_core.proofs.sessions.Sessions.remove.Goals as goal

pub remove-id-requires : goal.remove-id-requires
remove-id-requires c = omega (
  arith,
  c.requires,
  seen_length _ _ _ _ _ _ c.self.invariant.0 c.self.view_is,
  c.self.inside.ids.ok.0,
)

pub remove-key-requires : goal.remove-key-requires
remove-key-requires c = omega (
  arith,
  key_within _ _ _ _ _ _ c.args.at c.self.invariant.0 c.self.view_is c.requires,
  c.self.inside.keys.ok.0,
)

pub remove-closed-requires : goal.remove-closed-requires
remove-closed-requires c = key_holds _ _ _ _ _ _ c.args.at c.remove-key.result c.self.invariant.0 c.self.view_is
    c.requires c.remove-key.ensures.value

pub invariant_of-self : goal.invariant_of-self
invariant_of-self c =
    let gone = remove_placed _ _ _ _ _ _ _ _ _ _ _ c.args.at c.remove-key.result c.self.invariant.0 c.self.view_is
    c.requires c.remove-key.ensures.value c.remove-closed.ensures.updates c.remove-closed.ensures.len
    c.remove-closed.ensures.capacity c.remove-id.ensures.items c.remove-key.ensures.items c.remove-id.ensures.capacity
    c.remove-key.ensures.capacity in
    let quiet = subst (λ (xs : List OpenSession). QuietOutside xs c.self.inside.ready_from c.self.inside.ready_to)
    c.self.view_is c.self.invariant.1 in (
      gone.1,
      subst (λ (xs : List OpenSession). QuietOutside xs c.saturating_sub-self-inside.result c.self.inside.ready_to) (sym gone.0)
          (quiet_gone c.args.self.now c.args.at c.self.inside.ready_from c.self.inside.ready_to c.saturating_sub-self-inside.result
          quiet (λ k l. omega (arith, l, c.saturating_sub-self-inside.ensures))),
    )

pub returns : goal.returns
returns c = (remove_placed _ _ _ _ _ _ _ _ _ _ _ c.args.at c.remove-key.result c.self.invariant.0 c.self.view_is
    c.requires c.remove-key.ensures.value c.remove-closed.ensures.updates c.remove-closed.ensures.len
    c.remove-closed.ensures.capacity c.remove-id.ensures.items c.remove-key.ensures.items c.remove-id.ensures.capacity
    c.remove-key.ensures.capacity).0
