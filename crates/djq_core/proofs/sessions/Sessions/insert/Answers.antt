-- An empty slot is taken, and its key stands last, as the id does.
use Rattle.std.proofs.Common.{arith, sym, subst, List}
use Rattle.djq_commands.specs.declared.open.OpenSession.{OpenSession}
use Rattle.djq_core.specs.Sessions.{QuietOutside}
use Rattle.djq_core.proofs.Placed.{insert_placed, room_placed, seen_length}
use Rattle.djq_core.proofs.Quiet.{quiet_push}
use Rattle.djq_core.proofs.sessions.Sessions.insert.Goals as goal

pub insert_reserved-key-requires : goal.insert_reserved-key-requires
insert_reserved-key-requires c = (room_placed _ _ _ _ _ _ c.self.invariant.0 c.self.view_is c.requires.few).0

pub include-requires : goal.include-requires
include-requires c = omega (arith, c.len.ensures, c.self.inside.ids.ok.0)

pub push_reserved-requires : goal.push_reserved-requires
push_reserved-requires c = omega (
  arith,
  (room_placed _ _ _ _ _ _ c.self.invariant.0 c.self.view_is c.requires.few).1,
  c.self.inside.ids.ok.0,
)

pub push_reserved-requires-2 : goal.push_reserved-requires-2
push_reserved-requires-2 c = omega (
  arith,
  (room_placed _ _ _ _ _ _ c.self.invariant.0 c.self.view_is c.requires.few).2,
  c.self.inside.keys.ok.0,
)

pub invariant_of-self : goal.invariant_of-self
invariant_of-self c =
    let put = insert_placed _ _ _ _ _ _ _ _ _ _ _ c.args.opened.id c.insert_reserved-key.result
    c.args.opened.session c.self.invariant.0 c.self.view_is c.requires.last c.insert_reserved-key.ensures.was_vacant
    c.insert_reserved-key.ensures.updates c.insert_reserved-key.ensures.len c.insert_reserved-key.ensures.capacity
    c.push_reserved.ensures.items c.push_reserved-2.ensures.items c.push_reserved.ensures.capacity
    c.push_reserved-2.ensures.capacity in
    let quiet = subst (λ (xs : List OpenSession). QuietOutside xs c.self.inside.ready_from c.self.inside.ready_to)
    c.self.view_is c.self.invariant.1 in
    let l = seen_length _ _ _ _ _ _ c.self.invariant.0 c.self.view_is in (
      put.1,
      subst (λ (xs : List OpenSession). QuietOutside xs c.include.new.from c.include.new.to) (sym put.0)
          (quiet_push c.args.self.now c.args.opened c.self.inside.ready_from c.self.inside.ready_to c.include.new.from
          c.include.new.to quiet c.include.ensures.low.0 c.include.ensures.high.0
          (omega (arith, c.include.ensures.low.1, c.len.ensures, l))
          (omega (arith, c.include.ensures.high.1, c.len.ensures, l))),
    )

pub returns : goal.returns
returns c = (insert_placed _ _ _ _ _ _ _ _ _ _ _ c.args.opened.id c.insert_reserved-key.result
    c.args.opened.session c.self.invariant.0 c.self.view_is c.requires.last c.insert_reserved-key.ensures.was_vacant
    c.insert_reserved-key.ensures.updates c.insert_reserved-key.ensures.len c.insert_reserved-key.ensures.capacity
    c.push_reserved.ensures.items c.push_reserved-2.ensures.items c.push_reserved.ensures.capacity
    c.push_reserved-2.ensures.capacity).0
