-- What is gathered of some deltas: their different tuples, each with the deltas in which it occurs, and its signs.
use Rattle.std.specs.Prelude.{
  ◌≡◌,
  ◌⊎◌,
  ℕ,
  Bool,
  true,
  false,
  not,
  ◌||◌,
  List,
  [],
  ◌∷◌,
  ◌++◌,
  ◌==◌,
  if◌then◌else◌,
  map,
  replicate,
  AllPairs,
  Contains,
  slice_index_or,
  slice_set,
}
use Rattle.djq_arena.specs.Rows.{Row, IsAbsent}
use Rattle.djq_protocol.specs.declared.answer.Sign.{Sign}
use Rattle.djq_protocol.specs.declared.answer.Sign.TheVariants.{Came, Went}
use Rattle.djq_gains.specs.declared.marks.Marks.{Marks}

-- A tuple: the slot in which it lies, its cells, and its marks.
pub record Gain : Type 0 where
  pub slot : ℕ
  pub cells : List ℕ
  pub marks : Marks

-- how many cells a tuple has, and the tuples in order of insertion
pub record Gathered : Type 0 where
  pub width : ℕ
  pub gains : List Gain

-- the marks of a tuple that occurs in no delta
abbrev pub in_no_delta : Marks
in_no_delta = record { stands = replicate 8 false; came = false; went = false }

-- the marks of one that occurs in the nth delta too, with this sign
abbrev pub also_in : ℕ → Bool → Marks → Marks
also_in nth came m = record {
  stands = slice_set m.stands nth true;
  came = m.came || came;
  went = m.went || not came;
}

-- One mark: that a tuple occurs in the nth delta, or that it occurs in some delta with this sign.
pub data Mark : Type 0 where
  in_delta : ℕ → Mark
  with_sign : Sign → Mark

-- whether a tuple has a mark
abbrev pub has_mark : Marks → Mark → Bool
has_mark m (in_delta nth) = slice_index_or m.stands nth false
has_mark m (with_sign Came) = m.came
has_mark m (with_sign Went) = m.went

-- A tuple has this mark, if it occurs in the nth delta with this sign.
abbrev pub IsMarkOf : Mark → ℕ → Sign → Type 0
IsMarkOf (in_delta k) nth sign = k ≡ nth
IsMarkOf (with_sign s) nth sign = s ≡ sign

-- the marks of a slot
abbrev pub marks_at : List Marks → ℕ → Marks
marks_at marks slot = slice_index_or marks slot in_no_delta

-- the rows of an arena, with the marks of their slots
abbrev pub gain_of : List Marks → Row → Gain
gain_of marks r = record { slot = r.slot; cells = r.cells; marks = marks_at marks r.slot }

-- rows of an arena, each with the marks of its slot
abbrev pub gains_in : List Marks → List Row → List Gain
gains_in marks rows = map (gain_of marks) rows

-- the slots of the tuples
abbrev pub slots_in : List Gain → List ℕ
slots_in gains = map (λ g. g.slot) gains

-- the cells of the tuples
abbrev pub cells_in : List Gain → List (List ℕ)
cells_in gains = map (λ g. g.cells) gains

-- These are the cells of a tuple that has a mark.
pub record Stand (gains : List Gain) (mark : Mark) (cells : List ℕ) : Type 0 where
  pub gain : Gain
  pub there : Contains gains gain
  pub is : gain.cells ≡ cells
  pub marked : has_mark gain.marks mark ≡ true

-- No two tuples are the same.
abbrev pub GainsDiffer : List Gain → Type 0
GainsDiffer gains = AllPairs (λ t u. t ≡ u → ⊥) (cells_in gains)

-- Each occurs in some delta.
abbrev pub StandSomewhere : List Gain → Type 0
StandSomewhere gains = (g : Gain) → Contains gains g → (nth : ℕ) × (has_mark g.marks (in_delta nth) ≡ true)

-- a tuple lies in this slot
pub record IsIn (gains : List Gain) (slot : ℕ) : Type 0 where
  pub front : List Gain
  pub gain : Gain
  pub back : List Gain
  pub is : gains ≡ front ++ gain ∷ back
  pub at : gain.slot ≡ slot

-- what holds of the tuple in a slot
abbrev pub AtSlot : List Gain → ℕ → (Gain → Type 0) → Type 0
AtSlot gains slot P = (front : List Gain) (g : Gain) (back : List Gain) → gains ≡ front ++ g ∷ back
    → g.slot ≡ slot → P g

-- what lies in a slot, as a tuple of the nth delta too, with this sign
abbrev pub with_mark : ℕ → ℕ → Bool → Gain → Gain
with_mark slot nth came g = if g.slot == slot then record g { marks = also_in nth came g.marks } else g

-- the tuples once that in a slot occurs in the nth delta too, with this sign
abbrev pub marked_in : ℕ → ℕ → Bool → List Gain → List Gain
marked_in slot nth came gains = map (with_mark slot nth came) gains

-- A tuple has a slot: it was there, or it was inserted, and occurs in no delta yet.
abbrev pub Seats : List Row → List Gain → ℕ → List ℕ → List Gain → Type 0
Seats rows old slot cells new = (new ≡ old)
    ⊎ (IsAbsent rows cells × (new ≡ old ++ record { slot = slot; cells = cells; marks = in_no_delta } ∷ []))
