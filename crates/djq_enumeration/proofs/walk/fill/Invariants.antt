use Rattle.std.proofs.Common.{◌≡◌, ◌+◌, length}
use Rattle.djq_enumeration.specs.Walk.{ChoicesStand, answers_ahead, blank}
use Rattle.djq_enumeration.proofs.walk.fill.Given as goal

abbrev pub invariant-loop-at : goal.invariant-loop-at
invariant-loop-at g l = record {
  is : l.at ≡ length l.places;
  stands : ChoicesStand l.reducts (g.C.Choices.menu l.choices l.reducts) l.places l.answer;
  ahead : answers_ahead l.reducts (g.C.Choices.menu l.choices l.reducts) (blank l.reducts.tree)
      l.places ≡ answers_ahead l.reducts (g.C.Choices.menu l.choices l.reducts) (blank l.reducts.tree)
      l.fn.places;
  counted : l.listing + length l.fn.places ≡ l.fn.listing + l.at;
}
