use Rattle.std.proofs.Common.{◌≡◌, take, false}
use Rattle.std.specs.Prelude.{is_none}
use Rattle.std.specs.List.{list_any}
use Rattle.djq_model.specs.Data.{relation_of}
use Rattle.djq_query.proofs.places.reads_unknown.Given as goal

abbrev pub invariant-loop-atom : goal.invariant-loop-atom
invariant-loop-atom g l = list_any (λ a. is_none (relation_of (g.R.Relations.relations l.relations) a.relation))
    (take l.atom-index l.atoms) ≡ false
