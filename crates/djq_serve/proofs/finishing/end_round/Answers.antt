-- No line of the round is run where a turn failed; else all are, and it is finished.
use Rattle.std.proofs.Common.{◌≡◌, refl, rules}
use Rattle.std.specs.Prelude.{Some}
use Rattle.djq_serve.specs.declared.rest.Rest.TheVariants.{Failed}
use Rattle.djq_serve.proofs.LoggedGroups.{still_open, disk_faults, some_isnt_none}
use Rattle.djq_serve.proofs.Rounds.{round_fails, round_stops, round_ends, lost_finishes, finish_ends, fails_ends}
use Rattle.djq_serve.proofs.finishing.end_round.Goals as goal

pub returns-then-eq-clause-ends : goal.returns-then-eq-clause-ends
returns-then-eq-clause-ends g c =
    let failed : c.args.rest ≡ Failed = search rules in
    round_fails c.args.rest _ _ (g.M.Machine.state c.args.machine.now) _ failed

pub returns-then-eq-clause-answer : goal.returns-then-eq-clause-answer
returns-then-eq-clause-answer g c =
    let failed : c.args.rest ≡ Failed = search rules in
    fails_ends c.args.rest failed

pub finish_round-requires-clause-none_left : goal.finish_round-requires-clause-none_left
finish_round-requires-clause-none_left g c = c.in-None.ensures.none_left refl

pub finish_round-requires-clause-lines : goal.finish_round-requires-clause-lines
finish_round-requires-clause-lines g c = c.in-None.ensures.lines refl

pub finish_round-requires-clause-is_open : goal.finish_round-requires-clause-is_open
finish_round-requires-clause-is_open g c =
    still_open c.args.log.now c.run_lines.new.log _ _ (λ none. (c.in-None.ensures.nowhere none).1)
    c.in-None.ensures.is_open c.requires.is_open

-- A commit of it can't be logged.

pub returns-in-Some-clause-ends : goal.returns-in-Some-clause-ends
returns-in-Some-clause-ends g c =
    let state = g.M.Machine.state in
    round_stops c.in-Some.served c.args.rest _ _ _ _ (state c.args.machine.now) (state c.run_lines.new.machine) _ _ _
    (search rules) c.in-Some.ensures.runs

pub returns-in-Some-clause-answer : goal.returns-in-Some-clause-answer
returns-in-Some-clause-answer g c =
    finish_ends c.args.rest (Some c.in-Some.served) (search rules)
    (lost_finishes (Some c.in-Some.served) c.in-Some.ensures.answer)

pub returns-in-Some-clause-nowhere : goal.returns-in-Some-clause-nowhere
returns-in-Some-clause-nowhere g c none = absurd (some_isnt_none c.in-Some.served (c.in-Some.ensures.nowhere none).0)

-- It is finished.

pub returns-in-None-clause-ends : goal.returns-in-None-clause-ends
returns-in-None-clause-ends g c =
    let state = g.M.Machine.state in
    round_ends c.finish_round.result c.args.rest _ _ _ _ _ (state c.args.machine.now) (state c.run_lines.new.machine)
    (state c.finish_round.new.machine) _ _ _ _ (search rules) c.in-None.ensures.runs c.finish_round.ensures.finishes

pub returns-in-None-clause-answer : goal.returns-in-None-clause-answer
returns-in-None-clause-answer g c =
    finish_ends c.args.rest c.finish_round.result (search rules) c.finish_round.ensures.answer

pub returns-in-None-clause-disk : goal.returns-in-None-clause-disk
returns-in-None-clause-disk g c = disk_faults c.finish_round.result _ _ _ c.in-None.ensures.disk
    c.finish_round.ensures.disk

pub returns-in-None-clause-nowhere : goal.returns-in-None-clause-nowhere
returns-in-None-clause-nowhere g c none = c.finish_round.ensures.nowhere (c.in-None.ensures.nowhere none).1
