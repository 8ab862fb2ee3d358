use Rattle.std.proofs.Common.{◌≡◌, take}
use Rattle.std.specs.Prelude.{Ok}
use Rattle.djq_protocol.specs.Variables.{compared_behind}
use Rattle.djq_binder.specs.Planning.{InternsConstants}
use Rattle.djq_binder.proofs.constants.intern_behind.Given as goal

abbrev pub invariant-comparisons : goal.invariant-comparisons
invariant-comparisons l = record {
  known : InternsConstants l.fn.catalog.texts (compared_behind l.fn.count (take l.i l.comparisons)) (Ok tt)
      l.catalog.texts;
  relations : l.catalog.relations ≡ l.fn.catalog.relations;
  same : l.count ≡ l.fn.count;
}
