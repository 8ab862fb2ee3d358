-- The moves so far go on by those of each round.
use Rattle.std.proofs.Common.{◌≡◌, ◌∙◌, ◌≤◌, ◌-◌, ◌+◌, ◌<◌, refl, arith, rules}
use Rattle.std.specs.Prelude.{Some}
use Rattle.djq_machine.specs.Call.{counts}
use Rattle.djq_serve.proofs.LoggedGroups.{still_open, disk_faults}
use Rattle.djq_serve.proofs.Rounds.{taking_begun, round_more, round_stops_it, all_taken, faults_stay, round_counts}
use Rattle.djq_serve.proofs.serving.take_rounds.Goals as goal

pub rounds-init : goal.rounds-init
rounds-init g c = record {
  agrees = c.requires.agrees;
  hold = c.requires.hold;
  within = omega arith;
  taking = taking_begun c.args.most _ (counts c.args.steps.now.listing c.args.steps.now.update c.args.steps.now.rows)
      (g.M.Machine.state c.args.machine.now) _ (c.args.turns - c.args.turns) (omega arith);
  faults = refl;
  disk = refl;
  is_open = refl;
  nowhere = λ none. none;
  room = c.requires.room;
}

pub gather-gathered-requires-clause-some : goal.gather-gathered-requires-clause-some
gather-gathered-requires-clause-some g c =
    let left : 0 < c.rounds.left = search rules in
    omega (arith, c.requires.some, left, c.min.ensures)

pub end_round-requires-clause-is_open : goal.end_round-requires-clause-is_open
end_round-requires-clause-is_open g c =
    let inv = c.rounds.invariant in
    still_open c.args.log.now c.rounds.log _ _ inv.nowhere inv.is_open c.requires.is_open

pub rounds-preserved : goal.rounds-preserved
rounds-preserved g c =
    let state = g.M.Machine.state in
    let inv = c.rounds.invariant in
    let turned = c.gather-gathered in
    let taken = turned.result.taken in
    let gathers = turned.ensures.gathers in
    let ended = c.in-None.ensures in
    let limit = c.min.result in
    let within : limit ≤ c.args.most = omega (arith, c.min.ensures) in
    let few : taken ≤ c.rounds.left = omega (arith, c.min.ensures, gathers.within) in
    let all : c.args.turns - (c.rounds.left - taken) ≡ (c.args.turns - c.rounds.left) + taken =
    omega (arith, few, inv.within) in
    record {
      agrees = ended.agrees;
      hold = ended.hold;
      within = omega (arith, inv.within);
      taking = round_more c.args.most limit (c.args.turns - c.rounds.left) taken
          (c.args.turns - (c.rounds.left - taken)) turned.result.rest _ _ _ _ _ _ _ (state c.args.machine.now)
          (state c.rounds.machine) (state turned.new.machine) (state c.end_round.new.machine) _ _ _ inv.taking within
          gathers ended.ends all;
      faults = ended.faults ∙ faults_stay turned.result.rest _ _ turned.ensures.faults ended.answer ∙ inv.faults;
      disk = ended.disk ∙ inv.disk;
      is_open = ended.is_open ∙ inv.is_open;
      nowhere = λ none. (ended.nowhere (inv.nowhere none)).1;
      room = turned.ensures.room;
    }

-- A round ends the serving.

pub returns-in-Some-clause-took : goal.returns-in-Some-clause-took
returns-in-Some-clause-took g c =
    let state = g.M.Machine.state in
    let inv = c.rounds.invariant in
    let turned = c.gather-gathered in
    let taken = turned.result.taken in
    let gathers = turned.ensures.gathers in
    let limit = c.min.result in
    let within : limit ≤ c.args.most = omega (arith, c.min.ensures) in
    let few : (c.args.turns - c.rounds.left) + taken ≤ c.args.turns =
    omega (arith, c.min.ensures, gathers.within, inv.within) in
    round_stops_it c.in-Some.served c.args.turns c.args.most limit (c.args.turns - c.rounds.left) taken
    turned.result.rest _ _ _ _ _ _ _ (state c.args.machine.now) (state c.rounds.machine) (state turned.new.machine)
    (state c.end_round.new.machine) _ _ _ inv.taking within gathers c.in-Some.ensures.ends c.in-Some.ensures.answer few

pub returns-in-Some-clause-faults : goal.returns-in-Some-clause-faults
returns-in-Some-clause-faults g c =
    round_counts c.in-Some.served c.gather-gathered.result.rest _ _ _ _ c.rounds.invariant.faults
    c.gather-gathered.ensures.faults c.in-Some.ensures.faults c.in-Some.ensures.answer

pub returns-in-Some-clause-disk : goal.returns-in-Some-clause-disk
returns-in-Some-clause-disk g c = disk_faults (Some c.in-Some.served) _ _ _ c.rounds.invariant.disk
    c.in-Some.ensures.disk

pub returns-in-Some-clause-nowhere : goal.returns-in-Some-clause-nowhere
returns-in-Some-clause-nowhere g c none = (c.in-Some.ensures.nowhere (c.rounds.invariant.nowhere none)).0

-- No turn is left.

pub returns-clause-took : goal.returns-clause-took
returns-clause-took g c =
    let state = g.M.Machine.state in
    let inv = c.rounds.invariant in
    let none : c.rounds.left ≤ 0 = search rules in
    all_taken c.args.turns c.args.most (c.args.turns - c.rounds.left) _ _ _ _ (state c.args.machine.now)
    (state c.rounds.machine) _ _ inv.taking (omega (arith, none))
