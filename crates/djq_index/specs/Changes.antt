-- How one call changes the entries of a table. The place of an inserted entry in the list is stated only
-- within its group: after all others of it.
use Rattle.std.specs.Prelude.{◌≡◌, ℕ, Bool, true, false, List, ◌∷◌, ◌++◌}
use Rattle.djq_index.specs.Tuple.{pick}
use Rattle.djq_index.specs.Entries.{Entry, group_size}

-- the tuple u was inserted, marked or not and with one support, as the last of its group
pub record InsertedAs (mark : Bool) (key : List ℕ) (old new : List Entry) (u : List ℕ) : Type 0 where
  pub front : List Entry
  pub back : List Entry
  pub entry : Entry
  pub was : old ≡ front ++ back
  pub is : new ≡ front ++ entry ∷ back
  pub tuple : entry.tuple ≡ u
  pub supports : entry.supports ≡ 1
  pub marked : entry.marked ≡ mark
  pub last : group_size key back (pick key u) ≡ 0

-- it was inserted marked
abbrev pub Inserted : List ℕ → List Entry → List Entry → List ℕ → Type 0
Inserted key old new u = InsertedAs true key old new u

-- the tuple u was removed
pub record Removed (old new : List Entry) (u : List ℕ) : Type 0 where
  pub front : List Entry
  pub back : List Entry
  pub entry : Entry
  pub was : old ≡ front ++ entry ∷ back
  pub is : new ≡ front ++ back
  pub tuple : entry.tuple ≡ u

-- the tuple u was unmarked, and is now marked and the last of its group
pub record Touched (key : List ℕ) (old new : List Entry) (u : List ℕ) : Type 0 where
  pub front : List Entry
  pub back : List Entry
  pub before : Entry
  pub after : Entry
  pub fore : List Entry
  pub rest : List Entry
  pub was : old ≡ front ++ before ∷ back
  pub between : front ++ back ≡ fore ++ rest
  pub is : new ≡ fore ++ after ∷ rest
  pub tuple : before.tuple ≡ u
  pub same_tuple : after.tuple ≡ u
  pub same_place : after.at ≡ before.at
  pub same_supports : after.supports ≡ before.supports
  pub plain : before.marked ≡ false
  pub marked : after.marked ≡ true
  pub last : group_size key rest (pick key u) ≡ 0

-- the tuple u, which had `from` supports, has `to`
pub record Supported (old new : List Entry) (u : List ℕ) (from to : ℕ) : Type 0 where
  pub front : List Entry
  pub back : List Entry
  pub before : Entry
  pub after : Entry
  pub was : old ≡ front ++ before ∷ back
  pub is : new ≡ front ++ after ∷ back
  pub tuple : before.tuple ≡ u
  pub same_tuple : after.tuple ≡ u
  pub same_place : after.at ≡ before.at
  pub same_mark : after.marked ≡ before.marked
  pub had : before.supports ≡ from
  pub has : after.supports ≡ to
