use Rattle.std.proofs.Common.{◌≡◌, take}
use Rattle.std.specs.Prelude.{Ok}
use Rattle.djq_binder.specs.Planning.{InternsConstants}
use Rattle.djq_binder.proofs.Interning.{constants_up}
use Rattle.djq_binder.proofs.constants.intern_constants.Given as goal

abbrev pub invariant-atoms : goal.invariant-atoms
invariant-atoms l = record {
  known : InternsConstants l.fn.catalog.texts
      (constants_up 0 (take l.i l.atoms) l.comparisons) (Ok tt) l.catalog.texts;
  relations : l.catalog.relations ≡ l.fn.catalog.relations;
}
