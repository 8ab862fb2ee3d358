-- Each turn goes on from those before it, of which none ended the gathering.
use Rattle.std.proofs.Common.{◌≡◌, ◌<◌, arith, rules}
use Rattle.djq_serve.specs.declared.rest.Rest.TheVariants.{Nothing}
use Rattle.djq_serve.proofs.Turns.{turns_begun, turn_more, turns_done, counts_then}
use Rattle.djq_serve.proofs.gathering.gather.Goals as goal

pub turns-init : goal.turns-init
turns-init g c =
    let state = g.M.Machine.state in
    record {
      gathering = turns_begun c.args.limit c.take_turn-rest.result _ _ (state c.args.machine.now)
          (state c.take_turn-rest.new.machine) c.take_turn-rest.ensures.takes;
      some = omega arith;
      within = omega (arith, c.requires.some);
      agrees = c.take_turn-rest.ensures.agrees;
      hold = c.take_turn-rest.ensures.hold;
      counts = c.take_turn-rest.ensures.faults;
      room = c.take_turn-rest.ensures.room;
    }

pub turns-preserved : goal.turns-preserved
turns-preserved g c =
    let state = g.M.Machine.state in
    let faults = g.H.Hub.faults in
    let inv = c.turns.invariant in
    let took = c.take_turn-rest-in-turns in
    let none : c.turns.rest ≡ Nothing = search rules in
    let few : c.turns.taken < c.args.limit = search rules in
    record {
      gathering = turn_more c.args.limit c.turns.taken c.turns.rest took.result _ _ _ (state c.args.machine.now)
          (state c.turns.machine) (state took.new.machine) inv.gathering none few took.ensures.takes;
      some = omega arith;
      within = omega (arith, few);
      agrees = took.ensures.agrees;
      hold = took.ensures.hold;
      counts = counts_then c.turns.rest took.result (faults c.args.hub.now) (faults c.turns.hub) (faults took.new.hub)
          none inv.counts took.ensures.faults;
      room = took.ensures.room;
    }

-- No turn is at hand, the gathering ended, or as many were taken as may be.

pub returns-else-at_hand-clause-gathers : goal.returns-else-at_hand-clause-gathers
returns-else-at_hand-clause-gathers g c =
    let state = g.M.Machine.state in
    let inv = c.turns.invariant in
    turns_done c.args.limit c.turns.taken c.turns.rest _ _ (state c.args.machine.now) (state c.turns.machine)
    inv.gathering inv.some inv.within

pub returns-else-eq-clause-gathers : goal.returns-else-eq-clause-gathers
returns-else-eq-clause-gathers g c =
    let state = g.M.Machine.state in
    let inv = c.turns.invariant in
    turns_done c.args.limit c.turns.taken c.turns.rest _ _ (state c.args.machine.now) (state c.turns.machine)
    inv.gathering inv.some inv.within

pub returns-after-turns-clause-gathers : goal.returns-after-turns-clause-gathers
returns-after-turns-clause-gathers g c =
    let state = g.M.Machine.state in
    let inv = c.turns.invariant in
    turns_done c.args.limit c.turns.taken c.turns.rest _ _ (state c.args.machine.now) (state c.turns.machine)
    inv.gathering inv.some inv.within
