-- Which queries read a relation, and which positions a change makes stale.
use Rattle.std.specs.Prelude.{ℕ, List, Bool, Option, None, Some, if◌then◌else◌}
use Rattle.std.specs.List.{list_any}
use Rattle.djq_model.specs.declared.query.Query.{Query}
use Rattle.djq_model.specs.Data.{Bytes, bytes_eq}
use Rattle.djq_model.specs.Listed.{Listed, a_query, a_union, listed_of}
use Rattle.djq_store_spec.specs.Store.{Position, open_at, stale}

-- whether a query reads a relation
abbrev pub reads : Query → Bytes → Bool
reads q relation = list_any (λ a. bytes_eq a.relation relation) q.atoms

-- whether what is registered does: a union reads what its members read
abbrev pub listed_reads : Listed → Bytes → Bool
listed_reads (a_query q) relation = reads q relation
listed_reads (a_union name qs) relation = list_any (λ q. reads q relation) qs

-- An open cursor that a relation outdates becomes stale by its change; a stale one has still the change that made it so.
abbrev pub outdated : Option Bytes → ℕ → Position → Position
outdated None n p = p
outdated (Some relation) n (open_at given ended) = stale relation n
outdated (Some relation) n (stale r m) = stale r m

-- the relation that outdates the answers of a query of this name, if one does
abbrev pub outdater_of : List Listed → (Listed → Option Bytes) → Bytes → Option Bytes
outdater_of queries outdater name = outdater_in (listed_of queries name)
  where
    outdater_in : Option Listed → Option Bytes
    outdater_in None = None
    outdater_in (Some q) = outdater q

-- A change of one relation outdates the queries that read it.
abbrev pub by_relation : Bytes → Listed → Option Bytes
by_relation relation q = if listed_reads q relation then Some relation else None
