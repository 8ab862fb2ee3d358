-- The data of a store, whoever changes it, and how far a cursor is.
use Rattle.std.specs.Prelude.{ℕ, List, [], Bool}
use Rattle.djq_model.specs.declared.relation.Relation.{Relation}
use Rattle.djq_model.specs.Data.{Bytes, Tuple}
use Rattle.djq_model.specs.Listed.{Listed}

-- The data, whoever changes it.
pub record Store : Type 0 where
  pub relations : List Relation
  -- the texts that are known
  pub texts : List Bytes
  -- in order of registration
  pub queries : List Listed
  -- the number of accepted changes of rows
  pub seq : ℕ

-- How far a cursor is.
pub data Position : Type 0 where
  -- the answers that it has given, and whether it was answered `end` last
  open_at : List Tuple → Bool → Position
  -- the relation whose change made it stale, and the number of that change
  stale : Bytes → ℕ → Position

-- the store in which nothing has happened
abbrev pub empty_store : Store
empty_store = record { relations = []; texts = []; queries = []; seq = 0 }
