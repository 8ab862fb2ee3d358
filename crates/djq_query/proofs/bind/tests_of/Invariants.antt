use Rattle.std.proofs.Common.{◌≡◌, ◌++◌, drop}
use Rattle.djq_query.specs.Pattern.{tests_of}
use Rattle.djq_query.proofs.bind.tests_of.Given as goal

abbrev pub invariant-comparisons : goal.invariant-comparisons
invariant-comparisons l = l.tests.items ++ tests_of l.members (drop l.i l.comparisons) (drop l.i l.constants)
    ≡ tests_of l.members l.comparisons l.constants
