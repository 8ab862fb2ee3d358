-- Cursors in their slots, whatever they list.
use Rattle.std.specs.Prelude.{
  ℕ,
  List,
  ◌==◌,
  ◌≡◌,
  ◌≢◌,
  ⊤,
  Bool,
  false,
  Option,
  None,
  Some,
  is_some,
  count_by,
  option_map,
  map,
  slice_index_or,
}
use Rattle.djq_model.specs.Data.{Bytes}
use Rattle.djq_cursors.specs.declared.progress.Progress.{Progress}
use Rattle.djq_cursors.specs.declared.progress.Progress.TheVariants.{Open, Stale}

module _ {C : Type 0} where
  -- the cursor in a slot, if there is one
  abbrev pub slot_at : List (Option (Progress C)) → ℕ → Option (Progress C)
  slot_at slots k = slice_index_or slots k None

  -- whether no slot has a cursor
  abbrev pub are_vacant : List (Option (Progress C)) → Bool
  are_vacant slots = count_by is_some slots == 0

  -- the cursor isn't stale
  abbrev pub IsOpen : Progress C → Type 0
  IsOpen (Open cursor ended) = ⊤
  IsOpen (Stale relation n) = ⊥

  -- This cursor is in a slot, and isn't stale.
  abbrev pub HasOpen : List (Option (Progress C)) → ℕ → C → Type 0
  HasOpen slots k cursor = (ended : Bool) × (slot_at slots k ≡ Some (Open cursor ended))

  -- a cursor that isn't stale is in a slot
  abbrev pub IsOpenIn : List (Option (Progress C)) → ℕ → Type 0
  IsOpenIn slots k = (cursor : C) × HasOpen slots k cursor

  -- One slot becomes this, and all others are as before.
  pub record SetsSlot (old : List (Option (Progress C))) (k : ℕ) (slot : Option (Progress C))
      (new : List (Option (Progress C))) : Type 0 where
    pub there : slot_at new k ≡ slot
    pub others : (j : ℕ) → j ≢ k → slot_at new j ≡ slot_at old j

  -- A cursor is in a slot that was empty, and all others are as before.
  pub record OpensSlot (old : List (Option (Progress C))) (k : ℕ) (cursor : C)
      (new : List (Option (Progress C))) : Type 0 where
    pub free : slot_at old k ≡ None
    pub sets : SetsSlot old k (Some (Open cursor false)) new

  -- An open cursor becomes stale by a change of this number; a stale one has still the change that
  -- made it so.
  abbrev pub outdated_progress : Bytes → ℕ → Progress C → Progress C
  outdated_progress relation n (Open cursor ended) = Stale relation n
  outdated_progress relation n (Stale r m) = Stale r m

  -- all cursors after such a change
  abbrev pub outdated_slots : Bytes → ℕ → List (Option (Progress C))
      → List (Option (Progress C))
  outdated_slots relation n slots = map (option_map (outdated_progress relation n)) slots

  -- each cursor in a slot is of this kind
  pub record EachIs (P : Progress C → Type 0) (slots : List (Option (Progress C))) : Type 0 where
    pub each : (k : ℕ) (p : Progress C) → slot_at slots k ≡ Some p → P p
