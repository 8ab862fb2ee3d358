use Rattle.std.proofs.Common.{◌≡◌, ℕ, List, length, take}
use Rattle.djq_query.specs.Pattern.{filled}
use Rattle.djq_query.proofs.pattern.is_plain.Given as goal

abbrev pub invariant-columns : goal.invariant-columns
invariant-columns l = (u : List ℕ) → length u ≡ l.width → filled u (take l.i l.slots) ≡ take l.i u
