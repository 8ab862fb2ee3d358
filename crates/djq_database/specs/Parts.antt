-- A catalog's parts, and the catalog that they are.
use Rattle.std.specs.Prelude.{
  ◌≡◌,
  ℕ,
  ◌≤◌,
  ◌<◌,
  ◌^◌,
  ⊤,
  List,
  [],
  ◌∷◌,
  map,
  length,
  slice_index_or,
}
use Rattle.std.specs.List.{AllByRecursion}
use Rattle.std.specs.Int.{w64, cast_signed}
use Rattle.djq_model.specs.declared.value.Value.{Value}
use Rattle.djq_model.specs.declared.value.Value.TheVariants.{Int, Text}
use Rattle.djq_model.specs.declared.relation.ColumnType.{ColumnType}
use Rattle.djq_model.specs.declared.relation.ColumnType.TheVariants.{
  Int as IntColumn,
  Text as
      TextColumn,
}
use Rattle.djq_model.specs.declared.relation.Relation.{Relation}
use Rattle.djq_model.specs.declared.relation.CountedRow.{CountedRow}
use Rattle.djq_model.specs.Data.{Bytes, Tuple}
use Rattle.djq_protocol.specs.declared.limits.TheConstants.{COLUMNS, RELATIONS, ROWS, COPIES}
use Rattle.djq_dictionary.specs.Known.{AllDifferent}
use Rattle.djq_index.specs.Entries.{Entry}
use Rattle.djq_index.specs.Table.{TuplesDiffer}
use Rattle.djq_database.specs.declared.kept.Kept.{Kept}
use Rattle.djq_database.specs.declared.catalog.Catalog.TheInside.{Inside}
use Rattle.djq_database.specs.Catalog.{Catalog}

-- the value of a cell of a column
abbrev pub value_of : List Bytes → ColumnType → ℕ → Value
value_of texts IntColumn cell = Int (cast_signed w64 cell)
value_of texts TextColumn cell = Text (slice_index_or texts cell [])

-- the row of cells
unfoldable pub row_of : List Bytes → List ColumnType → List ℕ → Tuple
row_of texts [] cells = []
row_of texts (t ∷ ts) [] = []
row_of texts (t ∷ ts) (c ∷ cs) = value_of texts t c ∷ row_of texts ts cs

-- the tuples of entries
unfoldable pub tuples_of : List Entry → List (List ℕ)
tuples_of es = map (λ e. e.tuple) es

-- the row of an entry, whose supports are its copies
unfoldable pub counted_row : List Bytes → List ColumnType → Entry → CountedRow
counted_row texts types e = record { row = row_of texts types e.tuple; copies = e.supports }

-- the relation that is stored so
unfoldable pub relation_in : List Bytes → Kept → Relation
relation_in texts k = record {
  name = k.name;
  types = k.types;
  rows = map (counted_row texts k.types)
      k.rows.entries;
}

-- the relations that are stored so
abbrev pub relations_of : List Bytes → List Kept → List Relation
relations_of texts ks = map (relation_in texts) ks

-- a stored relation in place of one past the last
abbrev pub no_kept : Kept
no_kept = record { name = []; types = []; rows = record { width = 0; entries = [] } }

-- the relation that is stored at a place
abbrev pub kept_at : List Kept → ℕ → Kept
kept_at ks at = slice_index_or ks at no_kept

-- the catalog that has these parts
abbrev pub catalog_of : Inside → Catalog
catalog_of p = record { relations = relations_of p.texts p.kept.items; texts = p.texts }

-- a cell that may be in a column
abbrev pub CellFits : List Bytes → ColumnType → ℕ → Type 0
CellFits texts IntColumn cell = cell < 2 ^ 64
CellFits texts TextColumn cell = cell < length texts

-- cells that may be in columns of these types
unfoldable pub AreWithin : List Bytes → List ColumnType → List ℕ → Type 0
AreWithin texts [] [] = ⊤
AreWithin texts (t ∷ ts) (c ∷ cs) = CellFits texts t c × AreWithin texts ts cs
AreWithin texts [] (c ∷ cs) = ⊥
AreWithin texts (t ∷ ts) [] = ⊥

-- an entry with a support at least, and no more than a row may have copies
abbrev pub IsCopied : Entry → Type 0
IsCopied e = (1 ≤ e.supports) × (e.supports ≤ COPIES)

-- what holds of each relation that is stored
pub record RelationIsSound (texts : List Bytes) (k : Kept) : Type 0 where
  pub some : 0 < length k.types
  pub narrow : length k.types ≤ COLUMNS
  pub width : k.rows.width ≡ length k.types
  pub apart : TuplesDiffer k.rows.entries
  pub within : AllByRecursion (AreWithin texts k.types) (tuples_of k.rows.entries)
  pub few : length k.rows.entries ≤ ROWS
  pub copied : AllByRecursion IsCopied k.rows.entries

-- what holds of a catalog's parts
pub record IsParts (p : Inside) : Type 0 where
  pub few : length p.kept.items ≤ RELATIONS
  pub names : p.names ≡ map (λ (k : Kept). k.name) p.kept.items
  pub named : AllDifferent p.names
  pub different : AllDifferent p.texts
  pub sound : AllByRecursion (RelationIsSound p.texts) p.kept.items
