-- The input of a session ends where no line is left, and then the last commit is made.
use Rattle.std.proofs.Common.{◌≡◌, ◌∙◌, sym, rules}
use Rattle.std.specs.Prelude.{Some, true, false}
use Rattle.djq_serve.specs.declared.rest.Rest.TheVariants.{Over}
use Rattle.djq_serve.specs.Parts.{rest_to_last}
use Rattle.djq_serve.proofs.Rounds.{ends_agrees, ends_holds, finish_lost, finish_stopped, finish_over, finish_round}
use Rattle.djq_serve.proofs.Rounds.{lost_finishes}
use Rattle.djq_serve.proofs.finishing.finish_round.Goals as goal

pub commit-requires-clause-agrees : goal.commit-requires-clause-agrees
commit-requires-clause-agrees g c =
    let state = g.M.Machine.state in
    ends_agrees (rest_to_last c.args.rest) (state c.args.machine.now) (state c.end_input.new.machine)
    (g.H.Hub.ids c.args.hub.now) c.end_input.ensures.ends c.requires.agrees

pub commit-requires-clause-lines : goal.commit-requires-clause-lines
commit-requires-clause-lines g c = rw c.end_input.ensures.commit c.requires.lines

-- It can't be logged.

pub returns-in-Some-clause-finishes : goal.returns-in-Some-clause-finishes
returns-in-Some-clause-finishes g c =
    let state = g.M.Machine.state in
    rw (sym c.end_input.ensures.commit)
    (finish_lost c.in-Some.served c.args.rest _ _ (state c.args.machine.now) (state c.end_input.new.machine)
    (state c.commit.new.machine) _ _ _ c.end_input.ensures.ends c.in-Some.ensures.makes)

pub returns-in-Some-clause-hold : goal.returns-in-Some-clause-hold
returns-in-Some-clause-hold g c =
    let state = g.M.Machine.state in
    c.in-Some.ensures.spares.lines (ends_holds (rest_to_last c.args.rest) (state c.args.machine.now)
    (state c.end_input.new.machine) c.end_input.ensures.ends c.requires.hold)

pub returns-in-Some-clause-answer : goal.returns-in-Some-clause-answer
returns-in-Some-clause-answer g c = lost_finishes (Some c.in-Some.served) c.in-Some.ensures.answer

-- A session sent `stop`.

pub returns-in-None-clause-finishes : goal.returns-in-None-clause-finishes
returns-in-None-clause-finishes g c =
    let state = g.M.Machine.state in
    let stop : c.stopped.result ≡ true = search rules in
    rw (sym c.end_input.ensures.commit)
    (finish_stopped c.args.rest _ _ (state c.args.machine.now) (state c.end_input.new.machine)
    (state c.commit.new.machine) _ _ _ c.end_input.ensures.ends c.in-None.ensures.makes (sym c.stopped.ensures ∙ stop))

pub returns-in-None-clause-hold : goal.returns-in-None-clause-hold
returns-in-None-clause-hold g c =
    let state = g.M.Machine.state in
    c.in-None.ensures.spares.lines (ends_holds (rest_to_last c.args.rest) (state c.args.machine.now)
    (state c.end_input.new.machine) c.end_input.ensures.ends c.requires.hold)

-- The hub is over.

pub returns-in-None-2-clause-finishes : goal.returns-in-None-2-clause-finishes
returns-in-None-2-clause-finishes g c =
    let state = g.M.Machine.state in
    let going : c.stopped.result ≡ false = search rules in
    let over : c.args.rest ≡ Over = search rules in
    rw (sym c.end_input.ensures.commit)
    (finish_over c.args.rest _ _ (state c.args.machine.now) (state c.end_input.new.machine)
    (state c.commit.new.machine) _ _ _ c.end_input.ensures.ends c.in-None.ensures.makes (sym c.stopped.ensures ∙ going)
    over)

pub returns-in-None-2-clause-hold : goal.returns-in-None-2-clause-hold
returns-in-None-2-clause-hold g c =
    let state = g.M.Machine.state in
    c.in-None.ensures.spares.lines (ends_holds (rest_to_last c.args.rest) (state c.args.machine.now)
    (state c.end_input.new.machine) c.end_input.ensures.ends c.requires.hold)

-- The next round follows.

pub returns-in-None-3-clause-finishes : goal.returns-in-None-3-clause-finishes
returns-in-None-3-clause-finishes g c =
    let state = g.M.Machine.state in
    let going : c.stopped.result ≡ false = search rules in
    rw (sym c.end_input.ensures.commit)
    (finish_round c.args.rest _ _ (state c.args.machine.now) (state c.end_input.new.machine)
    (state c.commit.new.machine) _ _ _ c.end_input.ensures.ends c.in-None.ensures.makes (sym c.stopped.ensures ∙ going)
    (search rules))

pub returns-in-None-3-clause-hold : goal.returns-in-None-3-clause-hold
returns-in-None-3-clause-hold g c =
    let state = g.M.Machine.state in
    c.in-None.ensures.spares.lines (ends_holds (rest_to_last c.args.rest) (state c.args.machine.now)
    (state c.end_input.new.machine) c.end_input.ensures.ends c.requires.hold)
