use Rattle.std.proofs.Common.{◌≡◌, take, false, length}
use Rattle.std.specs.Prelude.{not, ◌==◌}
use Rattle.std.specs.List.{list_any}
use Rattle.djq_protocol.specs.Columns.{columns_of}
use Rattle.djq_query.proofs.places.has_wrong_arity.Given as goal

abbrev pub invariant-loop-atom : goal.invariant-loop-atom
invariant-loop-atom g l = list_any
    (λ a. not (length a.terms == length (columns_of (g.R.Relations.relations l.relations) a.relation)))
    (take l.atom-index l.atoms) ≡ false
