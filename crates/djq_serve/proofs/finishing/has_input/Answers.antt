-- A session is open exactly where its id is among those that the machine lists.
use Rattle.std.proofs.Common.{ℕ, List, ◌∙◌, nat_eq, sym, ap}
use Rattle.std.specs.List.{list_any}
use Rattle.djq_serve.proofs.Rounds.{input_by}
use Rattle.djq_serve.proofs.finishing.has_input.Goals as goal

pub returns-then-not-stopped : goal.returns-then-not-stopped
returns-then-not-stopped g c =
    input_by (g.M.Machine.state c.args.machine.now) c.args.id c.contains.result
    (c.contains.ensures.value ∙ ap (λ (is : List ℕ). list_any (λ i. nat_eq i c.args.id) is) c.ids.ensures)
    (sym c.if-not-stopped.ensures)
