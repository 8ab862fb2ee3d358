-- Which term brings a further variable.
use Rattle.std.specs.Prelude.{ℕ, ◌≡◌, ◌≤◌, ◌<◌, List, ◌||◌, Bool, true, false, not}
use Rattle.std.specs.List.{list_any}
use Rattle.djq_model.specs.declared.query.Atom.{Atom}
use Rattle.djq_model.specs.declared.query.Term.{Term}
use Rattle.djq_model.specs.declared.query.Term.TheVariants.{Variable, Hole, Constant}
use Rattle.djq_protocol.specs.declared.limits.TheConstants.{VARIABLES}
use Rattle.djq_protocol.specs.Variables.{is_variable, stands_in}

-- whether a term is a variable that is neither in the atoms before nor among the terms before it
-- in its atom
abbrev pub is_fresh : List Atom → List Term → Term → Bool
is_fresh before beside (Variable x) = not (stands_in before x || list_any (is_variable x) beside)
is_fresh before beside Hole = true
is_fresh before beside (Constant v) = false

-- a count that is right up to the limit, and above the limit if there are more
pub record CountsUpTo (number count : ℕ) : Type 0 where
  pub few : count ≤ VARIABLES → count ≡ number
  pub many : VARIABLES < count → VARIABLES < number
