-- How the answers of queries change with a change of rows, and what listing that may cost.
use Rattle.std.specs.Prelude.{ℕ, List, [], ◌∷◌, ◌≡◌, ◌+◌, ◌*◌, Bool, Option, None, Some, length, map, filter, sum_by}
use Rattle.std.specs.Prelude.{All, MatchOption, ⊤}
use Rattle.std.specs.List.{list_any}
use Rattle.djq_model.specs.declared.relation.Relation.{Relation}
use Rattle.djq_model.specs.declared.query.Query.{Query}
use Rattle.djq_model.specs.Answer.{IsAnswer}
use Rattle.djq_model.specs.Listed.{Listed, a_query, a_union, members_of, AnswersOf}
use Rattle.djq_store_spec.specs.Registering.{most_steps, atoms_of}
use Rattle.djq_store_spec.specs.Changes.{RowsChange, Halves}
use Rattle.djq_store_spec.specs.Delta.{Change, IsDelta}

-- a member of a union, how its answers changed, and how many were listed
pub record Part : Type 0 where
  pub query : Query
  pub changes : List Change
  pub listed : ℕ

-- what is registered, how its answers changed, and how many of a query were listed; of a union also how the answers of
-- its members changed
pub record Delta : Type 0 where
  pub query : Listed
  pub changes : List Change
  pub listed : ℕ
  pub parts : List Part

-- whether a query reads a relation that changes
abbrev pub is_touched : RowsChange → Query → Bool
is_touched change q = list_any (λ a. change.touches a.relation) q.atoms

-- So many answers of a query were listed: those added by the rows that are inserted, and those removed by the rows that
-- are deleted.
pub record ListsHalves (before mid after : List Relation) (q : Query) (listed : ℕ) : Type 0 where
  pub came : List Change
  pub went : List Change
  pub inserts : IsDelta (IsAnswer before q) (IsAnswer mid q) came
  pub deletes : IsDelta (IsAnswer mid q) (IsAnswer after q) went
  pub count : listed ≡ length came + length went

-- So many answers of a query were listed, of which these changed: no others, if rows are only inserted or only deleted.
abbrev pub ListsAnswers : List Relation → RowsChange → Query → List Change → ℕ → Type 0
ListsAnswers before change q changes listed = MatchOption change.halves
    (listed ≡ length changes) (λ h. ListsHalves before h.mid change.after q listed)

-- So many were listed for a delta. Of a union none is listed but those of its members.
abbrev pub ListsDelta : List Relation → RowsChange → Delta → Type 0
ListsDelta before change d = ListsIt d.query
  where
    ListsIt : Listed → Type 0
    ListsIt (a_query q) = ListsAnswers before change q d.changes d.listed
    ListsIt (a_union name qs) = ⊤

-- The parts of a delta are the deltas of the members that read a relation that changes, in order.
pub record ArePartsOf (before : List Relation) (change : RowsChange) (d : Delta) : Type 0 where
  pub of_members : map (λ p. p.query) d.parts ≡ filter (is_touched change) (members_of d.query)
  pub are_deltas : All (λ p. IsDelta (IsAnswer before p.query) (IsAnswer change.after p.query) p.changes)
      d.parts
  pub list : All (λ p. ListsAnswers before change p.query p.changes p.listed) d.parts

-- The deltas of these, in order, as a change makes other relations of some.
pub record AreDeltas (before : List Relation) (change : RowsChange) (queries : List Listed)
    (deltas : List Delta) : Type 0 where
  pub of_queries : map (λ d. d.query) deltas ≡ queries
  pub are_deltas : All (λ d. IsDelta (AnswersOf before d.query) (AnswersOf change.after d.query) d.changes)
      deltas
  pub have_parts : All (ArePartsOf before change) deltas
  pub list : All (ListsDelta before change) deltas

-- The deltas of the queries that a change affects, made or only tried; none if there was none.
abbrev pub ListsDeltas : List Relation → (RowsChange → List Listed) → Option RowsChange → List Delta
    → Type 0
ListsDeltas before affected None deltas = deltas ≡ []
ListsDeltas before affected (Some change) deltas =
    AreDeltas before change (affected change) deltas

-- how many atoms of a query are over a relation of which rows are inserted and others deleted
abbrev pub atoms_both : Option Halves → Query → ℕ
atoms_both None q = 0
atoms_both (Some h) q = length (filter (λ a. h.both a.relation) q.atoms)

-- The most lookups and links that listing this many answers of a query costs: as many as an answer for each of them;
-- for each atom over a relation that changes; and again for each atom over one of which rows are inserted and others
-- deleted.
abbrev pub changes_steps : RowsChange → Query → ℕ → ℕ
changes_steps change q count =
    (count + length (filter (λ a. change.touches a.relation) q.atoms) + atoms_both change.halves q)
    * most_steps (length q.head)

-- the same of a union's members; and for each answer a test of whether the others have it
abbrev pub parts_steps : RowsChange → ℕ → List Part → ℕ
parts_steps change asking [] = 0
parts_steps change asking (p ∷ ps) = changes_steps change p.query p.listed
    + p.listed * asking + parts_steps change asking ps

-- the most that listing a delta costs, by whose it is
abbrev pub listed_steps : RowsChange → Listed → ℕ → List Part → ℕ
listed_steps change (a_query q) count parts = changes_steps change q count
listed_steps change (a_union name qs) count parts = parts_steps change (atoms_of qs) parts

-- the most that listing this delta costs
abbrev pub delta_steps : RowsChange → Delta → ℕ
delta_steps change d = listed_steps change d.query d.listed d.parts

-- the most that listing all of them costs
abbrev pub deltas_steps : Option RowsChange → List Delta → ℕ
deltas_steps None deltas = 0
deltas_steps (Some change) deltas = sum_by (delta_steps change) deltas
