use Rattle.std.proofs.Common.{◌≡◌, ◌++◌, drop, List}
use Rattle.std.specs.List.{fold}
use Rattle.djq_query.specs.declared.numbered.NumberedAtom.{NumberedAtom}
use Rattle.djq_query.specs.Numbered.{labels, with_columns, AreNumbered}
use Rattle.djq_query.proofs.numbering.number_body.Given as goal

abbrev pub invariant-atoms : goal.invariant-atoms
invariant-atoms g l = let rs = g.R.Relations.relations l.relations in record {
  atoms : (ns : List NumberedAtom) → AreNumbered rs (labels l.known) (drop l.i l.atoms) ns
      → AreNumbered rs (labels l.fn.known) l.atoms (l.numbered ++ ns);
  known : fold (with_columns rs) l.known (drop l.i l.atoms) ≡ fold (with_columns rs) l.fn.known l.atoms;
}
