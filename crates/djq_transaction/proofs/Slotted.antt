-- A key written over zeros, and keys before the first.
use Rattle.std.specs.Prelude.{ℕ, zero, suc, List, [], ◌∷◌, ◌≡◌, ◌+◌, ◌-◌, ◌++◌, ◌≤◌, Option, None, Some, length, drop}
use Rattle.std.specs.Prelude.{take, replicate}
use Rattle.std.proofs.Common.{refl, sym, ap, ◌∙◌, arith}
use Rattle.std.proofs.lemmas.List.{take-replicate, drop-replicate}
use Rattle.std.proofs.Math.Seq.{take-append-add}
use Rattle.djq_arena.specs.Rows.{Row, SlotRows, AreRows, AreWideRows, IsAbsent, slots}
use Rattle.djq_arena.specs.Chains.{AreDistinctSlots, AreBelow}
use Rattle.djq_transaction.specs.Keys.{keys_in}
use Rattle.djq_transaction.specs.Net.{key_cells}

-- the cells of a row, written over zeros behind the place of its relation
pub key_written_over : (width place : ℕ) (row : List ℕ) → 1 + length row ≤ width → width ≤ 17
    → take width (place ∷ row ++ drop (length row) (replicate 16 0)) ≡ key_cells width place row
key_written_over zero place row wide narrow = absurd (omega (arith, wide))
key_written_over (suc width) place row wide narrow =
    let more : width ≡ length row + (width - length row) = omega (arith, wide) in
    let zeros : take (width - length row) (drop (length row) (replicate 16 0)) ≡ replicate (width - length row) 0 =
    ap (λ (zs : List ℕ). take (width - length row) zs) (drop-replicate (length row) 16 0)
    ∙ take-replicate (width - length row) (16 - length row) 0 (omega (arith, wide, narrow)) in
    ap (λ (cells : List ℕ). place ∷ cells)
    (ap (λ (n : ℕ). take n (row ++ drop (length row) (replicate 16 0))) more
    ∙ take-append-add row (drop (length row) (replicate 16 0)) (width - length row)
    ∙ ap (λ (zs : List ℕ). row ++ zs) zeros)

pub no_rows : (width : ℕ) → AreRows (record { width = width; room = 0; rows = [] })
unfolding slots AreDistinctSlots AreBelow AreWideRows
no_rows width = record { different = tt; below = tt; numbers = omega arith; wide = tt }

pub none_absent : (key : List ℕ) → IsAbsent [] key
unfolding IsAbsent
none_absent key = tt

pub written : (width place : ℕ) (xs row : List ℕ) → xs ≡ row → 1 + length row ≤ width → width ≤ 17
    → take width (place ∷ (xs ++ drop ((1 + length row) - 1) (replicate 16 0))) ≡ key_cells width place row
written width place xs row same wide narrow =
    let one_less : (1 + length row) - 1 ≡ length row = omega arith in
    ap (λ (n : ℕ). take width (place ∷ (xs ++ drop n (replicate 16 0)))) one_less
    ∙ ap (λ (cells : List ℕ). take width (place ∷ (cells ++ drop (length row) (replicate 16 0)))) same
    ∙ key_written_over width place row wide narrow

pub no_keys : (width : ℕ) (o : Option SlotRows) (a : SlotRows) → keys_in width o ≡ a → o ≡ None
    → a ≡ record { width = width; room = 0; rows = [] }
no_keys width o a view none = sym view ∙ ap (λ (p : Option SlotRows). keys_in width p) none

pub none_left : (o : Option SlotRows) → ((a : SlotRows) → o ≡ Some a → ⊥) → o ≡ None
none_left None other = refl
none_left (Some a) other = absurd (other a refl)

pub nothing_in : (rows front back : List Row) (r : Row) → rows ≡ [] → rows ≡ front ++ r ∷ back → ⊥
nothing_in rows [] back r none is = cc (sym none ∙ is)
nothing_in rows (f ∷ front) back r none is = cc (sym none ∙ is)
