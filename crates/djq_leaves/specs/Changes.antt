-- How a registered query changes with rows that are inserted or deleted.
use Rattle.std.specs.Prelude.{
  ◌≡◌,
  ◌≢◌,
  ◌↔◌,
  ◌⊎◌,
  ⊤,
  ℕ,
  ◌<◌,
  ◌≤◌,
  List,
  [],
  ◌∷◌,
  ◌++◌,
  length,
  Some,
  Contains,
  map,
  slice_get,
}
use Rattle.djq_model.specs.declared.query.Query.{Query}
use Rattle.djq_model.specs.Data.{Bytes, Tuple, without_row, with_row, with_copies, without_copies}
use Rattle.djq_index.specs.Entries.{Entry, count_of}
use Rattle.djq_reduct.specs.Tables.{entries_at}
use Rattle.djq_reduct.specs.Reducts.{Reducts, IsReducts}
use Rattle.djq_query.specs.declared.numbered.NumberedAtom.{NumberedAtom}
use Rattle.djq_query.specs.Numbered.{Numbered}
use Rattle.djq_query.specs.Pattern.{Shape}
use Rattle.djq_database.specs.Cells.{cells_of}
use Rattle.djq_database.specs.Catalog.{
  Catalog,
  IsCatalog,
  StandForRow,
  relation_at,
  counted_at,
  rows_at,
  with_rows_at,
}
use Rattle.djq_leaves.specs.Leaves.{GivesOne, Holds, IsOver}

-- A later catalog: the relations are there with their names and types, and further relations and
-- texts may be.
pub record IsLater (c d : Catalog) : Type 0 where
  pub catalog : IsCatalog d
  pub more : List Bytes
  pub texts : d.texts ≡ c.texts ++ more
  pub long : length c.relations ≤ length d.relations
  pub named : (at : ℕ) → at < length c.relations
      → (relation_at d.relations at).name ≡ (relation_at c.relations at).name
  pub typed : (at : ℕ) → at < length c.relations
      → (relation_at d.relations at).types ≡ (relation_at c.relations at).types

-- cells represent rows of the relation at a place, one for one
abbrev pub StandForRows : Catalog → ℕ → List (List ℕ) → List Tuple → Type 0
StandForRows c at [] [] = ⊤
StandForRows c at (k ∷ cells) (row ∷ rows) = StandForRow c at k row × StandForRows c at cells rows
StandForRows c at [] (row ∷ rows) = ⊥
StandForRows c at (k ∷ cells) [] = ⊥

-- no relation has other rows
pub record HasSameRows (c d : Catalog) : Type 0 where
  pub later : IsLater c d
  pub same : (at : ℕ) → at < length c.relations → rows_at d.relations at ≡ rows_at c.relations at

-- rows with these cells, one for one, were inserted into the relation at a place
pub record CameAll (c d : Catalog) (at : ℕ) (cells : List (List ℕ)) (new : List Tuple) : Type 0
  where
    pub later : IsLater c d
    pub stand : StandForRows d at cells new
    pub rows : rows_at d.relations at ≡ rows_at c.relations at ++ new
    pub others : (k : ℕ) → k < length c.relations → k ≢ at
        → rows_at d.relations k ≡ rows_at c.relations k

-- one row with these cells was inserted
abbrev pub Came : Catalog → Catalog → ℕ → List ℕ → Tuple → Type 0
Came c d at cells row = CameAll c d at (cells ∷ []) (row ∷ [])

-- the rows without these, one after another
abbrev pub without_rows : List Tuple → List Tuple → List Tuple
without_rows rows [] = rows
without_rows rows (row ∷ gone) = without_rows (without_row rows row) gone

-- rows with these cells, one for one, were deleted from the relation at a place
pub record WentAll (c d : Catalog) (at : ℕ) (cells : List (List ℕ)) (gone : List Tuple) : Type 0
  where
    pub later : IsLater c d
    pub stand : StandForRows d at cells gone
    pub rows : rows_at d.relations at ≡ without_rows (rows_at c.relations at) gone
    pub others : (k : ℕ) → k < length c.relations → k ≢ at
        → rows_at d.relations k ≡ rows_at c.relations k

-- one row with these cells was deleted
abbrev pub Went : Catalog → Catalog → ℕ → List ℕ → Tuple → Type 0
Went c d at cells row = WentAll c d at (cells ∷ []) (row ∷ [])

-- the entries gained the tuples that put into the atom give one of these rows of cells
abbrev pub GainsAll : Shape → List (List ℕ) → List Entry → List Entry → Type 0
GainsAll p rows old new = (u : List ℕ)
    → (0 < count_of new u) ↔ ((0 < count_of old u) ⊎ GivesOne (Contains rows) p u)

-- they gained the tuple that gives these cells, of which there is one at most
abbrev pub GainsTuple : Shape → List ℕ → List Entry → List Entry → Type 0
GainsTuple p cells old new = GainsAll p (cells ∷ []) old new

-- the entries lost the tuples that put into the atom give one of these rows of cells
abbrev pub LosesAll : Shape → List (List ℕ) → List Entry → List Entry → Type 0
LosesAll p rows old new = (u : List ℕ)
    → (0 < count_of new u) ↔ ((0 < count_of old u) × (GivesOne (Contains rows) p u → ⊥))

-- they lost the tuple that gives these cells, of which there is one at most
abbrev pub Loses : Shape → List ℕ → List Entry → List Entry → Type 0
Loses p cells old new = LosesAll p (cells ∷ []) old new

-- the entries hold the same tuples
abbrev pub KeepsTuples : List Entry → List Entry → Type 0
KeepsTuples old new = (u : List ℕ) → count_of new u ≡ count_of old u

-- the leaves of the atoms over the relation at a place changed so, and the others hold the same
pub record EachLeafChanges (Changes : Shape → List Entry → List Entry → Type 0) (at : ℕ)
    (n : Numbered) (ps : List Shape) (r s : Reducts) : Type 0 where
  pub reducts : IsReducts s
  pub tree : s.tree ≡ r.tree
  pub over : (j : ℕ) (m : NumberedAtom) (p : Shape) → slice_get n.atoms j ≡ Some m
      → slice_get ps j ≡ Some p → m.relation ≡ at
      → Changes p (entries_at r.tables j) (entries_at s.tables j)
  pub others : (j : ℕ) (m : NumberedAtom) → slice_get n.atoms j ≡ Some m → m.relation ≢ at
      → KeepsTuples (entries_at r.tables j) (entries_at s.tables j)

-- If no rows change, the reducts stay those of the query.
abbrev pub OverStays : Type 0
OverStays = (c d : Catalog) (q : Query) (n : Numbered) (ps : List Shape) (r : Reducts)
    → IsOver c q n ps r → HasSameRows c d → IsOver d q n ps r

-- If rows were inserted, they are once the leaves have gained their tuples.
abbrev pub OverGains : Type 0
OverGains = (c d : Catalog) (q : Query) (n : Numbered) (ps : List Shape) (r s : Reducts) (at : ℕ)
    (cells : List (List ℕ)) (new : List Tuple) → IsOver c q n ps r → CameAll c d at cells new
    → EachLeafChanges (λ p old new. GainsAll p cells old new) at n ps r s → IsOver d q n ps s

-- If rows were deleted, they are once the leaves have lost their tuples.
abbrev pub OverLoses : Type 0
OverLoses = (c d : Catalog) (q : Query) (n : Numbered) (ps : List Shape) (r s : Reducts) (at : ℕ)
    (cells : List (List ℕ)) (gone : List Tuple) → IsOver c q n ps r → WentAll c d at cells gone
    → EachLeafChanges (λ p old new. LosesAll p cells old new) at n ps r s → IsOver d q n ps s

-- Adding a row to a catalog, if it wasn't there, is an insertion.
abbrev pub AddedCame : Type 0
AddedCame = (c d : Catalog) (at : ℕ) (cells : List ℕ) (row : Tuple) → IsCatalog d
    → at < length c.relations → StandForRow c at cells row → d.texts ≡ c.texts
    → d.relations ≡ with_rows_at c.relations at (with_row (counted_at c.relations at) row)
    → Came c d at cells row

-- Deleting all copies of a row from a catalog is a deletion.
abbrev pub DeletedWent : Type 0
DeletedWent = (c d : Catalog) (at : ℕ) (cells : List ℕ) (row : Tuple) → IsCatalog d
    → at < length c.relations → StandForRow c at cells row → d.texts ≡ c.texts
    → d.relations ≡ with_rows_at c.relations at (without_copies (counted_at c.relations at) row)
    → Went c d at cells row

-- A deletion after others of the relation is one of them all.
abbrev pub FurtherWent : Type 0
FurtherWent = (c d e : Catalog) (at : ℕ) (cells : List (List ℕ)) (gone : List Tuple) (k : List ℕ)
    (row : Tuple) → at < length c.relations → e.texts ≡ d.texts → WentAll c d at cells gone
    → Went d e at k row → WentAll c e at (cells ++ k ∷ []) (gone ++ row ∷ [])

-- If a row only has another number of copies, no relation has other rows.
abbrev pub CopiesKeepRows : Type 0
CopiesKeepRows = (c d : Catalog) (at : ℕ) (row : Tuple) (n : ℕ) → IsCatalog d
    → at < length c.relations → d.texts ≡ c.texts
    → d.relations ≡ with_rows_at c.relations at (with_copies (counted_at c.relations at) row n)
    → HasSameRows c d

-- a leaf's entries hold the tuples that put into the atom give one of these rows of cells, and no others
abbrev pub HoldsThese : List (List ℕ) → Shape → List Entry → Type 0
HoldsThese rows p es = (u : List ℕ) → (0 < count_of es u) ↔ GivesOne (Contains rows) p u

-- A leaf is filled row by row: without tuples it holds those of no rows, more rows make it gain
-- their tuples, and with all rows of a relation it holds what it should.
abbrev pub LeafIsEmpty : Type 0
LeafIsEmpty = (p : Shape) (es : List Entry) → ((u : List ℕ) → count_of es u ≡ 0) → HoldsThese [] p es

-- A leaf that holds the tuples of some rows and gains those of more holds those of all of them.
abbrev pub LeafGains : Type 0
LeafGains = (rows more : List (List ℕ)) (p : Shape) (old new : List Entry)
    → HoldsThese rows p old → GainsAll p more old new → HoldsThese (rows ++ more) p new

-- A leaf that holds the tuples of all rows of a relation holds what it should.
abbrev pub LeafIsFilled : Type 0
LeafIsFilled = (c : Catalog) (at : ℕ) (p : Shape) (es : List Entry)
    → HoldsThese (map (cells_of c.texts) (rows_at c.relations at)) p es → Holds c at p es
