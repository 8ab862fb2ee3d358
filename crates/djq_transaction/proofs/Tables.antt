-- Keys in slots by their places.
use Rattle.std.specs.Prelude.{ℕ, zero, suc, List, [], ◌∷◌, ◌≡◌, ◌≢◌, ◌⊎◌, ◌+◌, ◌++◌, ◌<◌, ◌≤◌, Option, None, Some}
use Rattle.std.specs.Prelude.{length, map, max, ◌==◌, ◌&&◌, Bool, cond, filter, min, slice_get, slice_index_or, take}
use Rattle.std.specs.Prelude.{Contains}
use Rattle.std.specs.List.{zip}
use Rattle.std.proofs.Common.{refl, sym, ap, ap₂, ◌∙◌, subst, inl, inr, arith, length-append}
use Rattle.std.proofs.lemmas.Bool.{cases_lt}
use Rattle.std.proofs.lemmas.List.{map-append, take_all}
use Rattle.std.proofs.lemmas.List.Filters.{length-filter_more}
use Rattle.std.proofs.lemmas.Option.{slice_get-get_or, slice_get_within, get_or_from_slice_get}
use Rattle.std.proofs.lemmas.Slice.Zip.{length-zip, get_or-zip}
use Rattle.std.proofs.Math.Nat.{max-eq_right, min-eq_left}
use Rattle.djq_arena.specs.Rows.{Row, SlotRows, IsRow, IsRowHeld, IsAbsent, AreRows, AreWideRows, slots}
use Rattle.djq_arena.specs.Chains.{AreDistinctSlots, IsOut}
use Rattle.djq_answer_laws.proofs.Lists.{nothing_there, first_or_later}
use Rattle.djq_transaction.specs.declared.net.Copies.{Copies}
use Rattle.djq_transaction.specs.declared.net.Net.{Net}
use Rattle.djq_transaction.specs.Net.{in_slots, key_relation, no_entry, is_new_in, IsNetTable, SetsCopies}

abbrev pub cells_in : List Row → List (List ℕ)
cells_in rows = map (λ (r : Row). r.cells) rows

-- the cells of in_slots keys are the keys
pub cells_numbered : (n : ℕ) (ks : List (List ℕ)) → cells_in (in_slots n ks) ≡ ks
unfolding in_slots
cells_numbered n [] = refl
cells_numbered n (k ∷ ks) = ap (λ (us : List (List ℕ)). k ∷ us) (cells_numbered (n + 1) ks)

pub numbered_append : (n : ℕ) (ks : List (List ℕ)) (k : List ℕ)
    → in_slots n (ks ++ k ∷ []) ≡ in_slots n ks ++ record { slot = n + length ks; cells = k } ∷ []
unfolding in_slots
numbered_append n [] k = ap (λ (i : ℕ). record { slot = i; cells = k } ∷ []) (omega arith)
numbered_append n (j ∷ ks) k = ap (λ (rs : List Row). record { slot = n; cells = j } ∷ rs)
    (numbered_append (n + 1) ks k
    ∙ ap (λ (i : ℕ). in_slots (n + 1) ks ++ record { slot = i; cells = k } ∷ []) (omega arith))

-- a row in a slot is the key at its place
pub record StandsAt (n : ℕ) (ks : List (List ℕ)) (slot : ℕ) (key : List ℕ) : Type 0 where
  pub place : ℕ
  pub is : slot ≡ n + place
  pub key_there : slice_get ks place ≡ Some key

stands : (n : ℕ) (ks : List (List ℕ)) (front back : List Row) (slot : ℕ) (key : List ℕ)
    → in_slots n ks ≡ front ++ record { slot = slot; cells = key } ∷ back → StandsAt n ks slot key
unfolding in_slots
stands n [] [] back slot key e = absurd (cc e)
stands n [] (f ∷ front) back slot key e = absurd (cc e)
stands n (k ∷ ks) [] back slot key e = record {
  place = 0;
  is = omega (arith, ap (λ (rs : List Row). slot_of rs) e);
  key_there = ap (λ (rs : List Row). Some (cells_of_first rs)) e;
}
  where
    slot_of : List Row → ℕ
    slot_of [] = 0
    slot_of (r ∷ rs) = r.slot

    cells_of_first : List Row → List ℕ
    cells_of_first [] = []
    cells_of_first (r ∷ rs) = r.cells
stands n (k ∷ ks) (f ∷ front) back slot key e =
    let s = stands (n + 1) ks front back slot key (ap rest e) in
    record { place = suc s.place; is = omega (arith, s.is); key_there = s.key_there }
  where
    rest : List Row → List Row
    rest [] = []
    rest (r ∷ rs) = rs

pub found_at : (ks : List (List ℕ)) (rows : List Row) (slot : ℕ) (key : List ℕ) → rows ≡ in_slots 0 ks
    → IsRow rows slot key → slice_get ks slot ≡ Some key
found_at ks rows slot key e h =
    let s = stands 0 ks h.front h.back slot key (sym e ∙ h.is) in
    subst (λ (i : ℕ). slice_get ks i ≡ Some key) (omega (arith, s.is)) s.key_there

-- a key that no row has isn't there
lacks : (n : ℕ) (ks : List (List ℕ)) (key : List ℕ) → IsAbsent (in_slots n ks) key → Contains ks key → ⊥
unfolding in_slots IsAbsent
lacks n [] key h k = nothing_there key k
lacks n (j ∷ ks) key h k = step (first_or_later j ks key k) (λ c. lacks (n + 1) ks key h.1 c)
  where
    step : (j ≡ key) ⊎ Contains ks key → (Contains ks key → ⊥) → ⊥
    step (inl same) more = h.0 same
    step (inr c) more = more c

pub not_found : (ks : List (List ℕ)) (rows : List Row) (key : List ℕ) → rows ≡ in_slots 0 ks → IsAbsent rows key
    → Contains ks key → ⊥
not_found ks rows key e h = lacks 0 ks key (subst (λ (rs : List Row). IsAbsent rs key) e h)

-- the key at a place lies in its slot
pub numbered_at : (n : ℕ) (ks : List (List ℕ)) (i : ℕ) (key : List ℕ) → slice_get ks i ≡ Some key
    → IsRow (in_slots n ks) (n + i) key
unfolding in_slots
numbered_at n [] i key e = absurd (cc e)
numbered_at n (k ∷ ks) zero key e = record {
  front = [];
  back = in_slots (n + 1) ks;
  is = ap₂ (λ (s : ℕ) (u : List ℕ). record { slot = s; cells = u } ∷ in_slots (n + 1) ks) (omega arith) (first e);
}
  where
    first : Some k ≡ Some key → k ≡ key
    first f = cc f
numbered_at n (k ∷ ks) (suc i) key e =
    let r = numbered_at (n + 1) ks i key e in
    record {
      front = record { slot = n; cells = k } ∷ r.front;
      back = r.back;
      is = ap (λ (rs : List Row). record { slot = n; cells = k } ∷ rs) (r.is
          ∙ ap (λ (s : ℕ). r.front ++ record { slot = s; cells = key } ∷ r.back) (omega arith));
    }

pub key_at : (ks : List (List ℕ)) (rows : List Row) (i : ℕ) → rows ≡ in_slots 0 ks → i < length ks → IsRowHeld rows i
key_at ks rows i e less = record {
  cells = _;
  row = subst (λ (rs : List Row). IsRow rs i (slice_index_or ks i [])) (sym e)
      (subst (λ (s : ℕ). IsRow (in_slots 0 ks) s (slice_index_or ks i [])) (omega arith)
      (numbered_at 0 ks i (slice_index_or ks i []) (slice_get-get_or ks i [] less)));
}

pub key_cells_at : (ks : List (List ℕ)) (rows : List Row) (i : ℕ) (cells : List ℕ) (e : rows ≡ in_slots 0 ks)
    (less : i < length ks)
    → ((xs : List Row) (r : Row) (ys : List Row) → rows ≡ xs ++ r ∷ ys → r.slot ≡ i → cells ≡ r.cells)
    → slice_get ks i ≡ Some cells
unfolding key_at
key_cells_at ks rows i cells e less says =
    let r = key_at ks rows i e less in
    slice_get-get_or ks i [] less ∙ ap (λ (k : List ℕ). Some k) (sym (says r.row.front _ r.row.back r.row.is refl))

wide_row : (width : ℕ) (rows front back : List Row) (r : Row) → rows ≡ front ++ r ∷ back → AreWideRows width rows
    → length r.cells ≡ width
unfolding AreWideRows
wide_row width [] [] back r e h = absurd (cc e)
wide_row width [] (f ∷ front) back r e h = absurd (cc e)
wide_row width (q ∷ rows) [] back r e h = ap (λ (rs : List Row). long rs) (sym e) ∙ h.0
  where
    long : List Row → ℕ
    long [] = 0
    long (k ∷ ks) = length k.cells
wide_row width (q ∷ rows) (f ∷ front) back r e h =
    wide_row width rows front back r (ap (λ (rs : List Row). rest rs) e) h.1
  where
    rest : List Row → List Row
    rest [] = []
    rest (k ∷ ks) = ks

pub key_wide : (ks : List (List ℕ)) (rows : List Row) (width i : ℕ) (cells : List ℕ) (e : rows ≡ in_slots 0 ks)
    (less : i < length ks)
    → ((xs : List Row) (r : Row) (ys : List Row) → rows ≡ xs ++ r ∷ ys → r.slot ≡ i → cells ≡ r.cells)
    → AreWideRows width rows → length cells ≡ width
key_wide ks rows width i cells e less says wide =
    let r = key_at ks rows i e less in
    ap (λ (k : List ℕ). length k) (says r.row.front _ r.row.back r.row.is refl)
    ∙ wide_row width rows r.row.front r.row.back _ r.row.is wide

-- a slot that no other row has, and no further than the number of in_slots keys, is that number
out_last : (rows : List Row) (r : Row) (i : ℕ) → IsOut i (slots (rows ++ r ∷ [])) → r.slot ≢ i
unfolding slots IsOut
out_last [] r i h = h.0
out_last (q ∷ rows) r i h = out_last rows r i h.1

pub next_slot : (n : ℕ) (ks : List (List ℕ)) (slot : ℕ) (key : List ℕ)
    → AreDistinctSlots (slots (in_slots n ks ++ record { slot = slot; cells = key } ∷ []))
    → n ≤ slot → slot ≤ n + length ks → slot ≡ n + length ks
unfolding in_slots AreDistinctSlots slots
next_slot n [] slot key d low high = omega (arith, low, high)
next_slot n (k ∷ ks) slot key d low high =
    let apart : slot ≢ n = out_last (in_slots (n + 1) ks) (record { slot = slot; cells = key }) n d.0 in
    elim (cases_lt n slot) [
      | inl less ↦ omega (arith, next_slot (n + 1) ks slot key d.1 (omega (arith, less)) (omega (arith, high)))
      | inr none ↦ absurd (apart (omega (arith, low, none)))
    ]

-- a table without keys, and one with a key more
pub empty_table : (width : ℕ) (net : Net) → net.keys ≡ record { width = width; room = 0; rows = [] }
    → net.copies.items ≡ [] → IsNetTable width net
unfolding in_slots
empty_table width net e none = record {
  rows = subst (λ (a : SlotRows). a.rows ≡ in_slots 0 (cells_in a.rows)) (sym e) refl;
  room = subst (λ (a : SlotRows). a.room ≡ length (cells_in a.rows)) (sym e) refl;
  wide = ap (λ (a : SlotRows). a.width) e;
  long = ap (λ (cs : List Copies). length cs) none
      ∙ subst (λ (a : SlotRows). 0 ≡ length (cells_in a.rows)) (sym e) refl;
}

pub one_key_more : (old : List Row) (key : List ℕ) (slot : ℕ)
    → cells_in (old ++ record { slot = slot; cells = key } ∷ []) ≡ cells_in old ++ key ∷ []
one_key_more old key slot = map-append (λ (r : Row). r.cells) old (record { slot = slot; cells = key } ∷ [])

pub pushed_table : (width : ℕ) (old new : Net) (key : List ℕ) (slot : ℕ) (c : Copies) → IsNetTable width old
    → new.keys.rows ≡ old.keys.rows ++ record { slot = slot; cells = key } ∷ []
    → new.keys.room ≡ max old.keys.room (slot + 1) → slot ≤ old.keys.room → new.keys.width ≡ old.keys.width
    → AreRows new.keys → new.copies.items ≡ old.copies.items ++ c ∷ [] → IsNetTable width new
pushed_table width old new key slot c t rows room low wide laws copies =
    let ks = cells_in old.keys.rows in
    let all : new.keys.rows ≡ in_slots 0 ks ++ record { slot = slot; cells = key } ∷ [] =
    rows ∙ ap (λ (rs : List Row). rs ++ record { slot = slot; cells = key } ∷ []) t.rows in
    let here : slot ≡ 0 + length ks = next_slot 0 ks slot key
    (subst (λ (rs : List Row). AreDistinctSlots (slots rs)) all laws.different) (omega arith)
    (omega (arith, low, t.room)) in
    let more : cells_in new.keys.rows ≡ ks ++ key ∷ [] =
    ap (λ (rs : List Row). cells_in rs) rows ∙ one_key_more old.keys.rows key slot in
    let longer : length (cells_in new.keys.rows) ≡ length ks + 1 =
    ap (λ (us : List (List ℕ)). length us) more ∙ length-append ks (key ∷ []) in
    record {
      rows = all ∙ ap (λ (i : ℕ). in_slots 0 ks ++ record { slot = i; cells = key } ∷ []) here
          ∙ sym (numbered_append 0 ks key) ∙ ap (λ (us : List (List ℕ)). in_slots 0 us) (sym more);
      room = room ∙ max_of old.keys.room slot low (omega (arith, here, t.room)) ∙ omega (arith, here, longer);
      wide = wide ∙ t.wide;
      long = ap (λ (cs : List Copies). length cs) copies ∙ length-append old.copies.items (c ∷ [])
          ∙ omega (arith, t.long, longer);
    }
  where
    max_of : (r s : ℕ) → s ≤ r → r ≤ s → max r (s + 1) ≡ s + 1
    max_of r s low high = max-eq_right (omega (arith, high))

pub new_copies : (width : ℕ) (old new : Net) (key : List ℕ) (slot : ℕ) (place : Option ℕ) (c : Copies)
    → ((p : ℕ) → place ≡ Some p → ⊥) → IsNetTable width old
    → new.keys.rows ≡ old.keys.rows ++ record { slot = slot; cells = key } ∷ []
    → new.keys.room ≡ max old.keys.room (slot + 1) → slot ≤ old.keys.room → new.keys.width ≡ old.keys.width
    → AreRows new.keys → new.copies.items ≡ old.copies.items ++ c ∷ [] → SetsCopies width key old place c new
new_copies width old new key slot (Some p) c none t rows room low wide laws copies = absurd (none p refl)
new_copies width old new key slot None c none t rows room low wide laws copies = (
  pushed_table width old new key slot c t rows room low wide laws copies,
  ap (λ (rs : List Row). cells_in rs) rows ∙ one_key_more old.keys.rows key slot,
  copies,
)

-- ---- new rows of a relation

-- a row of a table, by its key and its copies
pub entry_new : (relation : ℕ) (ks : List (List ℕ)) (cs : List Copies) (i : ℕ) (key : List ℕ) (c : Copies)
    → slice_get ks i ≡ Some key → 0 < length key → slice_get cs i ≡ Some c
    → ((slice_index_or key 0 0 == relation) && (c.before == 0))
    ≡ is_new_in relation (slice_index_or (zip ks cs) i no_entry)
entry_new relation ks cs i key c k some e =
    ap₂ (λ (u : ℕ) (n : ℕ). (u == relation) && (n == 0))
    (head key some ∙ ap (λ (u : List ℕ). key_relation u) (sym (get_or_from_slice_get ks i key no_entry.0 k)))
    (ap (λ (d : Copies). d.before) (sym (get_or_from_slice_get cs i c no_entry.1 e)))
    ∙ ap (λ (p : List ℕ × Copies). is_new_in relation p)
    (sym (get_or-zip ks cs i no_entry (slice_get_within ks i key k) (slice_get_within cs i c e)))
  where
    head : (u : List ℕ) → 0 < length u → slice_index_or u 0 0 ≡ key_relation u
    head [] l = absurd (omega (arith, l))
    head (x ∷ u) l = refl

-- the rows up to a place, and one more
pub count_more : (relation : ℕ) (es : List (List ℕ × Copies)) (i n m : ℕ) (b : Bool) → i < length es
    → b ≡ is_new_in relation (slice_index_or es i no_entry) → n ≡ length (filter (is_new_in relation) (take i es))
    → m ≡ n + cond b 1 0 → m ≡ length (filter (is_new_in relation) (take (i + 1) es))
count_more relation es i n m b less e before is =
    is ∙ ap₂ (λ (k : ℕ) (t : Bool). k + cond t 1 0) before e
    ∙ sym (length-filter_more (is_new_in relation) es i no_entry less)

pub entries_long : (ks : List (List ℕ)) (cs : List Copies) → length cs ≡ length ks → length (zip ks cs) ≡ length cs
entries_long ks cs e = length-zip ks cs ∙ ap (λ (n : ℕ). min n (length cs)) (sym e) ∙ same (length cs)
  where
    same : (n : ℕ) → min n n ≡ n
    same n = min-eq_left (omega arith)

pub count_all : (relation : ℕ) (ks : List (List ℕ)) (cs : List Copies) (i n : ℕ) → length cs ≡ length ks
    → length cs ≤ i → n ≡ length (filter (is_new_in relation) (take i (zip ks cs)))
    → n ≡ length (filter (is_new_in relation) (zip ks cs))
count_all relation ks cs i n e high is =
    is ∙ ap (λ (es : List (List ℕ × Copies)). length (filter (is_new_in relation) es))
    (take_all i (zip ks cs) (omega (arith, entries_long ks cs e, high)))
