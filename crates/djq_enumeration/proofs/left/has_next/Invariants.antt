use Rattle.std.proofs.Common.{◌≡◌, ◌+◌, ◌≤◌, [], ◌∷◌, ◌++◌, length}
use Rattle.std.specs.Prelude.{take}
use Rattle.djq_tree.specs.Levels.{levels}
use Rattle.djq_enumeration.specs.Walk.{GoesThrough, ahead_of, blank, made_by}
use Rattle.djq_enumeration.proofs.Menus.{given_to}
use Rattle.djq_enumeration.proofs.left.has_next.Given as goal

abbrev pub invariant-loop-at : goal.invariant-loop-at
invariant-loop-at g l =
    let r = l.reducts in
    let menu = g.C.Choices.menu l.choices r in
    let n = length r.tree.nodes in
    record {
      within : l.at ≤ length l.fn.places;
      follows : GoesThrough r menu n (blank r.tree) (take l.at l.fn.places);
      given : given_to r menu n (blank r.tree) (take l.at l.fn.places)
          ≡ ahead_of r menu l.fn.places ++ made_by r l.fn.places ∷ [];
      counted : l.listing + l.at ≡ l.fn.listing + length (levels r.tree);
    }

abbrev pub decreases-loop-at : goal.decreases-loop-at
decreases-loop-at g l = l.at
