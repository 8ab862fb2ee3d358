use Rattle.std.proofs.Common.{◌≡◌, take}
use Rattle.std.specs.Prelude.{Ok}
use Rattle.std.specs.List.{flat_map}
use Rattle.djq_protocol.specs.Variables.{constant_of}
use Rattle.djq_binder.specs.Planning.{InternsConstants}
use Rattle.djq_binder.proofs.constants.intern_terms.Given as goal

abbrev pub invariant-terms : goal.invariant-terms
invariant-terms l = record {
  known : InternsConstants l.fn.catalog.texts (flat_map constant_of (take l.i l.terms)) (Ok tt)
      l.catalog.texts;
  relations : l.catalog.relations ≡ l.fn.catalog.relations;
}
