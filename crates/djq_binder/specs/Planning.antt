-- What the planning of a query answers, and what registering it needs.
use Rattle.std.specs.Prelude.{ℕ, List, Result, Ok, Err, ⊤}
use Rattle.djq_model.specs.declared.relation.Relation.{Relation}
use Rattle.djq_model.specs.declared.query.Query.{Query}
use Rattle.djq_model.specs.Data.{Bytes, Tuple}
use Rattle.djq_model.specs.Known.{texts_in}
use Rattle.djq_hypergraph.specs.JoinTree.{IsFreeConnex}
use Rattle.djq_hypergraph.specs.Refusing.{IsCyclic, IsNotConnex}
use Rattle.djq_tree.specs.Growing.{IsTreeOf}
use Rattle.djq_protocol.specs.Hypergraph.{edges_of, head_of}
use Rattle.djq_query.specs.Numbered.{IsNumbered}
use Rattle.djq_protocol.specs.Rest.{IsNamedRest}
use Rattle.djq_dictionary.specs.declared.refusal.InternRefusal.{InternRefusal}
use Rattle.djq_dictionary.specs.declared.refusal.InternRefusal.TheVariants.{
  Full as TextsFull,
  NoMem as NoMemForTexts,
}
use Rattle.djq_database.specs.Cells.{HaveCells}
use Rattle.djq_store_spec.specs.Relations.{LearnsFirst, FindsNoPlace, LearnsAll}
use Rattle.djq_binder.specs.declared.plan.PlannedQuery.{PlannedQuery}
use Rattle.djq_binder.specs.declared.plan.Unplanned.{Unplanned}
use Rattle.djq_binder.specs.declared.plan.Unplanned.TheVariants.{Cyclic, NotConnex, NoMem}

-- The query is free-connex, and this is its tree.
pub record IsPlanned (relations : List Relation) (q : Query) (p : PlannedQuery)
    : Type 0 where
  pub numbered : IsNumbered relations q p.numbered
  pub connex : IsFreeConnex (edges_of q) (head_of q)
  pub named : IsTreeOf (edges_of q) (head_of q) p.tree

-- Why a query isn't planned. The first two exclude each other and a free-connex query.
abbrev pub IsUnplanned : Query → Unplanned → Type 0
IsUnplanned q (Cyclic rest) =
    (R : List (List ℕ)) × IsCyclic (edges_of q) R × IsNamedRest q R rest
IsUnplanned q (NotConnex rest) =
    (R : List (List ℕ)) × IsNotConnex (edges_of q) (head_of q) R × IsNamedRest q R rest
IsUnplanned q NoMem = ⊤

-- Constants become known, one after another, up to the end or to a refusal.
abbrev pub InternsConstants : List Bytes → Tuple → Result ⊤ InternRefusal → List Bytes → Type 0
InternsConstants old constants (Ok done) new =
    LearnsAll old (texts_in constants) new × HaveCells new constants
InternsConstants old constants (Err TextsFull) new = FindsNoPlace old (texts_in constants) new
InternsConstants old constants (Err NoMemForTexts) new = LearnsFirst old (texts_in constants) new
