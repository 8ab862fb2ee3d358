use Rattle.std.proofs.Common.{take}
use Rattle.std.specs.Prelude.{All}
use Rattle.djq_query.specs.Pattern.{Passes}
use Rattle.djq_query.proofs.pattern.Pattern.passes.Given as goal

abbrev pub invariant-tests : goal.invariant-tests
invariant-tests l = All (Passes l.tuple) (take l.i l.self.tests)
