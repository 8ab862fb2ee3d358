-- The rows that are inserted and those that are deleted, by their relations.
use Rattle.std.specs.Prelude.{List, [], ◌∷◌, ◌++◌, ◌≡◌, ◌⊎◌, ◌==◌, ℕ, Some, None, if◌then◌else◌, filter, fold, length}
use Rattle.std.specs.Prelude.{map, position, All}
use Rattle.std.specs.List.{list_any}
use Rattle.djq_model.specs.declared.relation.Relation.{Relation}
use Rattle.djq_model.specs.Data.{Bytes, bytes_eq}
use Rattle.djq_database.specs.declared.relation_id.RelationId.{RelationId}
use Rattle.djq_database.specs.Cells.{cells_of}
use Rattle.djq_reach.specs.declared.group.Group.{Group}
use Rattle.djq_store_spec.specs.Held.{HeldLine}
use Rattle.djq_store_spec.specs.Lines.{lines_come, lines_go}
use Rattle.djq_transaction.specs.declared.groups.Groups.{Groups}
use Rattle.djq_transaction.specs.Net.{relation_place, Suits}

-- the names, and that of a line's relation after them if it isn't among them
abbrev pub with_relation_named : List Bytes → HeldLine → List Bytes
with_relation_named names h = if list_any (λ n. bytes_eq n h.relation) names then names else names ++ h.relation ∷ []

-- the relations that lines name, in the order in which they first do
abbrev pub relations_named : List HeldLine → List Bytes
relations_named lines = fold with_relation_named [] lines

-- the cells of the lines' rows that are of a relation
abbrev pub cells_in_relation : List Bytes → List HeldLine → Bytes → List (List ℕ)
cells_in_relation texts lines name = map (λ h. cells_of texts h.row) (filter (λ h. bytes_eq h.relation name) lines)

-- these lines' rows that are of a relation
abbrev pub grouped_in : List Relation → List Bytes → List HeldLine → Bytes → Group
grouped_in relations texts some name = record {
  relation = record { at = relation_place relations name };
  rows = cells_in_relation texts some name;
}

-- These lines' rows: a group of each relation that they name, in the order in which they first do.
abbrev pub grouped_rows : List Relation → List Bytes → List HeldLine → List Group
grouped_rows relations texts some = map (grouped_in relations texts some) (relations_named some)

-- The rows that lines insert, each once: a group of each relation of which there is one, in the order of their first
-- lines, and in it the rows, in the order of theirs.
abbrev pub inserted_groups : List Relation → List Bytes → List HeldLine → List Group
inserted_groups relations texts lines = grouped_rows relations texts (lines_come relations lines)

-- the same of the rows that they delete
abbrev pub deleted_groups : List Relation → List Bytes → List HeldLine → List Group
deleted_groups relations texts lines = grouped_rows relations texts (lines_go relations lines)

-- The groups are those of the rows that lines insert and of those that they delete.
pub record AreItsGroups (relations : List Relation) (texts : List Bytes) (lines : List HeldLine) (groups : Groups)
    : Type 0 where
  pub come : groups.come.items ≡ inserted_groups relations texts lines
  pub gone : groups.gone.items ≡ deleted_groups relations texts lines

-- a group without rows
abbrev pub bare_group : RelationId → Group
bare_group id = record { relation = id; rows = [] }

-- The group of a relation is at a place: the first that it has, or one without rows after the others.
abbrev pub HasGroupAt : RelationId → List Group → ℕ → List Group → Type 0
HasGroupAt id old at new =
    ((position (λ (g : Group). g.relation.at == id.at) old ≡ Some at) × (new ≡ old))
    ⊎ ((position (λ (g : Group). g.relation.at == id.at) old ≡ None) × (at ≡ length old)
    × (new ≡ old ++ bare_group id ∷ []))

-- A line's row, by its relation and its cells.
pub record IsEntryOf (relations : List Relation) (texts : List Bytes) (h : HeldLine) (id : RelationId) (cells : List ℕ)
    : Type 0 where
  pub suits : Suits relations h
  pub place : id.at ≡ relation_place relations h.relation
  pub cells_are : cells ≡ cells_of texts h.row

-- Over whatever lines groups are of, they are of one more.
abbrev pub JoinsGroups : List Group → RelationId → List ℕ → List Group → Type 0
JoinsGroups old id cells new = (relations : List Relation) (texts : List Bytes) (some : List HeldLine) (h : HeldLine)
    → All (Suits relations) some → IsEntryOf relations texts h id cells
    → old ≡ grouped_rows relations texts some → new ≡ grouped_rows relations texts (some ++ h ∷ [])
