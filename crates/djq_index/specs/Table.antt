-- A table: different tuples of one width, in groups by the cells of their key.
use Rattle.std.specs.Prelude.{◌≡◌, ◌≢◌, ⊤, ℕ, ◌<◌, true, false, List, [], ◌∷◌, ◌++◌, length}
use Rattle.djq_index.specs.declared.place.Place.{Place}
use Rattle.djq_index.specs.Tuple.{pick}
use Rattle.djq_index.specs.Entries.{Entry, supports_of, count_of, group_size, plain, is_marked}
use Rattle.djq_index.specs.declared.table.TheConstants.{SUPPORTS}

-- a table's width, the columns of its key, and its entries, the oldest first
pub record Table : Type 0 where
  pub width : ℕ
  pub key : List ℕ
  pub entries : List Entry

-- no tuple occurs twice
unfoldable pub TuplesDiffer : List Entry → Type 0
TuplesDiffer [] = ⊤
TuplesDiffer (e ∷ es) = (count_of es e.tuple ≡ 0) × TuplesDiffer es

-- an entry that lies at p isn't among these
unfoldable pub IsElsewhere : Place → List Entry → Type 0
IsElsewhere p [] = ⊤
IsElsewhere p (e ∷ es) = (e.at ≢ p) × IsElsewhere p es

-- no two entries lie at one place
unfoldable pub ArePlaced : List Entry → Type 0
ArePlaced [] = ⊤
ArePlaced (e ∷ es) = IsElsewhere e.at es × ArePlaced es

-- no unmarked entry of a group follows a marked one: in each group the marked ones are a suffix
unfoldable pub AreLast : List ℕ → List Entry → Type 0
AreLast key [] = ⊤
AreLast key (e ∷ es) = (e.marked ≡ true → group_size key (plain es) (pick key e.tuple) ≡ 0) × AreLast key es

-- each tuple has this many cells
unfoldable pub AreWide : ℕ → List Entry → Type 0
AreWide width [] = ⊤
AreWide width (e ∷ es) = (length e.tuple ≡ width) × AreWide width es

-- each of these columns is below the width
unfoldable pub AreColumns : ℕ → List ℕ → Type 0
AreColumns width [] = ⊤
AreColumns width (c ∷ cs) = (c < width) × AreColumns width cs

-- each tuple has a support at least
unfoldable pub AreSupported : List Entry → Type 0
AreSupported [] = ⊤
AreSupported (e ∷ es) = (0 < e.supports) × AreSupported es

-- what holds of every table
pub record IsTable (t : Table) : Type 0 where
  pub apart : TuplesDiffer t.entries
  pub placed : ArePlaced t.entries
  pub last : AreLast t.key t.entries
  pub wide : AreWide t.width t.entries
  pub columns : AreColumns t.width t.key

-- the tuple u lies at p
pub record IsAt (es : List Entry) (p : Place) (u : List ℕ) : Type 0 where
  pub front : List Entry
  pub back : List Entry
  pub entry : Entry
  pub is : es ≡ front ++ entry ∷ back
  pub tuple : entry.tuple ≡ u
  pub at : entry.at ≡ p

-- a tuple lies at p
pub record IsOccupied (es : List Entry) (p : Place) : Type 0 where
  pub tuple : List ℕ
  pub is_at : IsAt es p tuple

-- an unmarked tuple lies at p
pub record IsUnmarked (es : List Entry) (p : Place) : Type 0 where
  pub tuple : List ℕ
  pub is_at : IsAt es p tuple
  pub plain : is_marked es tuple ≡ false

-- a tuple that can have one more support lies at p
pub record IsRaisable (es : List Entry) (p : Place) : Type 0 where
  pub tuple : List ℕ
  pub is_at : IsAt es p tuple
  pub room : supports_of es tuple < SUPPORTS

-- a tuple with a support lies at p
pub record IsLowerable (es : List Entry) (p : Place) : Type 0 where
  pub tuple : List ℕ
  pub is_at : IsAt es p tuple
  pub some : 0 < supports_of es tuple
