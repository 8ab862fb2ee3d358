use Rattle.std.proofs.Common.{◌≡◌, take}
use Rattle.std.specs.Prelude.{Ok}
use Rattle.djq_protocol.specs.Variables.{compared_last}
use Rattle.djq_binder.specs.Planning.{InternsConstants}
use Rattle.djq_binder.proofs.constants.intern_last.Given as goal

abbrev pub invariant-comparisons : goal.invariant-comparisons
invariant-comparisons l = record {
  known : InternsConstants l.fn.catalog.texts (compared_last l.fn.count (take l.i l.comparisons)) (Ok tt)
      l.catalog.texts;
  relations : l.catalog.relations ≡ l.fn.catalog.relations;
  same : l.count ≡ l.fn.count;
}
