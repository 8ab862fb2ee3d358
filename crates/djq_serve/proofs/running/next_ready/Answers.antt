-- The first session from there on, or else the first of all.
use Rattle.std.proofs.Common.{◌≡◌, ◌∙◌, sym, ap, rules, ℕ}
use Rattle.std.specs.Prelude.{Option, None}
use Rattle.djq_machine.specs.Call.{first_ready}
use Rattle.djq_serve.specs.Server.{or_else}
use Rattle.djq_serve.proofs.running.next_ready.Goals as goal

pub returns-in-Some : goal.returns-in-Some
returns-in-Some g c =
    let st = g.M.Machine.state c.args.machine.now in
    sym (ap (λ (o : Option ℕ). or_else o (first_ready st 0)) (sym c.ready.ensures ∙ c.in-Some.is))

pub returns-in-None : goal.returns-in-None
returns-in-None g c =
    let st = g.M.Machine.state c.args.machine.now in
    let none : c.ready.result ≡ None = search rules in
    c.ready-in-None.ensures
    ∙ sym (ap (λ (o : Option ℕ). or_else o (first_ready st 0)) (sym c.ready.ensures ∙ none))
