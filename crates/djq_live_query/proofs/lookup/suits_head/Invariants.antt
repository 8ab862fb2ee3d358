use Rattle.std.proofs.Common.{◌≡◌, map}
use Rattle.djq_model.specs.Typed.{fits}
use Rattle.djq_binder.specs.Asked.{column_of}
use Rattle.djq_live_query.proofs.HeadTuples.{fits_from}
use Rattle.djq_live_query.proofs.lookup.suits_head.Given as goal

abbrev pub invariant-loop-at : goal.invariant-loop-at
invariant-loop-at l =
    fits (map (column_of l.variables) l.head) l.tuple
    ≡ fits_from l.variables l.head l.tuple l.at
