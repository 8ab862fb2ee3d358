-- Entries as the rows of an arena with their notes.
use Rattle.std.proofs.Common.{◌≡◌, ℕ, ◌<◌, List, [], ◌∷◌, ◌++◌, length, Option, Some, None, refl, ap, ap₂, subst, sym}
use Rattle.std.proofs.Common.{◌∙◌, arith, append_assoc, inl, inr, eq-eqb}
use Rattle.std.proofs.lemmas.List.{map-append, reverse-append}
use Rattle.std.proofs.lemmas.Bool.{cases_Bool, ne_eqb, cases_eq}
use Rattle.djq_arena.specs.declared.chain.Pair.{Pair}
use Rattle.djq_arena.specs.Rows.{Row, IsAbsent, IsRow, IsRowHeld, slots}
use Rattle.djq_arena.specs.Chains.{Linked, first_of, last_of, AreDistinctSlots, AreBelow, IsOut, pair_at}
use Rattle.djq_arena.specs.Store.{ends_of}
use Rattle.djq_arena.proofs.Chains.{last_append, below_here, prev_here, next_here}
use Rattle.djq_arena.proofs.Rows.{slots-append}
use Rattle.djq_index.specs.declared.place.Place.{Place}
use Rattle.djq_index.specs.declared.raw.Note.{Note}
use Rattle.djq_index.specs.declared.raw.Raw.{Raw}
use Rattle.djq_index.specs.Tuple.{same}
use Rattle.djq_index.specs.Entries.{Entry, supports_of, count_of, group_size, group_of, marks, plain, is_marked}
use Rattle.djq_index.specs.Entries.{head_at, last_at}
use Rattle.djq_index.specs.Table.{TuplesDiffer, IsAt, IsOccupied}
use Rattle.djq_index.specs.Raw.{note_at, entry_of, entries_in, entries_of, slots_at, row_at, AreAllMarked, AreTrailing}
use Rattle.djq_index.specs.Raw.{HoldsTuples, place_of}
use Rattle.djq_index.proofs.Tuples.{same_other, one_false, is_same, length_grp, supp_at, there}
use Rattle.djq_index.proofs.Groups.{marks_yes, marks_no, plain_yes, plain_no, is_marked_here, is_marked_else}

pub entries_in-append : (notes : List Note) (rs ss : List Row) → entries_in notes (rs ++ ss)
    ≡ entries_in notes rs ++ entries_in notes ss
unfolding entries_in
entries_in-append notes rs ss = map-append (entry_of notes) rs ss

pub entries_in_cons : (notes : List Note) (r : Row) (rs : List Row) → entries_in notes (r ∷ rs)
    ≡ entry_of notes r ∷ entries_in notes rs
unfolding entries_in
entries_in_cons notes r rs = refl

-- a cut of the entries is a cut of the rows
pub record RowCut (notes : List Note) (rows : List Row) (xs : List Entry) (e : Entry) (ys : List Entry) : Type 0 where
  pub front : List Row
  pub row : Row
  pub back : List Row
  pub is : rows ≡ front ++ row ∷ back
  pub xs_is : xs ≡ entries_in notes front
  pub e_is : e ≡ entry_of notes row
  pub ys_is : ys ≡ entries_in notes back

no_entries : (notes : List Note) (xs : List Entry) (e : Entry) (ys : List Entry) → entries_in notes [] ≡ xs ++ e ∷ ys
    → ⊥
unfolding entries_in
no_entries notes [] e ys h = cc
no_entries notes (x ∷ xs) e ys h = cc

pub entries_nil : (notes : List Note) → entries_in notes [] ≡ []
unfolding entries_in
entries_nil notes = refl

pub cut_entries : (notes : List Note) (rows : List Row) (xs : List Entry) (e : Entry) (ys : List Entry)
    → entries_in notes rows ≡ xs ++ e ∷ ys → RowCut notes rows xs e ys
cut_entries notes [] xs e ys h = absurd (no_entries notes xs e ys h)
cut_entries notes (r ∷ rs) [] e ys h =
    let both : entry_of notes r ∷ entries_in notes rs ≡ e ∷ ys = sym (entries_in_cons notes r rs) ∙ h in
    record { front = []; row = r; back = rs; is = refl; xs_is = sym (entries_nil notes); e_is = cc; ys_is = cc }
cut_entries notes (r ∷ rs) (x ∷ xs) e ys h =
    let both : entry_of notes r ∷ entries_in notes rs ≡ x ∷ (xs ++ e ∷ ys) = sym (entries_in_cons notes r rs) ∙ h in
    let first : x ≡ entry_of notes r = cc in
    let rest : entries_in notes rs ≡ xs ++ e ∷ ys = cc in
    let c = cut_entries notes rs xs e ys rest in
    record {
      front = r ∷ c.front;
      row = c.row;
      back = c.back;
      is = ap (λ (qs : List Row). r ∷ qs) c.is;
      xs_is = ap₂
          (λ (d : Entry) (ds : List Entry). d ∷ ds) first c.xs_is
          ∙ sym (entries_in_cons notes r c.front);
      e_is = c.e_is;
      ys_is = c.ys_is;
    }

pub entry_tuple : (notes : List Note) (r : Row) → (entry_of notes r).tuple ≡ r.cells
unfolding entry_of
entry_tuple notes r = refl

pub entry_at : (notes : List Note) (r : Row) → (entry_of notes r).at ≡ record { slot = r.slot }
unfolding entry_of
entry_at notes r = refl

pub entry_supports : (notes : List Note) (r : Row) → (entry_of notes r).supports ≡ (note_at notes r.slot).supports
unfolding entry_of
entry_supports notes r = refl

pub entry_marked : (notes : List Note) (r : Row) → (entry_of notes r).marked ≡ (note_at notes r.slot).marked
unfolding entry_of
entry_marked notes r = refl

pub absent_cnt : (notes : List Note) (rows : List Row) (u : List ℕ) → IsAbsent rows u
    → count_of (entries_in notes rows) u
    ≡ 0
unfolding IsAbsent entries_in count_of entry_of
absent_cnt notes [] u h = refl
absent_cnt notes (r ∷ rs) u h = omega
    (arith, one_false (same r.cells u) (same_other r.cells u h.0), absent_cnt notes rs u h.1)

pub row_is_at : (notes : List Note) (rows : List Row) (i : ℕ) (u : List ℕ) → IsRow rows i u
    → IsAt (entries_in notes rows) (record { slot = i }) u
row_is_at notes rows i u h = record {
  front = entries_in notes h.front;
  back = entries_in notes h.back;
  entry = entry_of notes (record { slot = i; cells = u });
  is = ap (entries_in notes) h.is ∙ entries_in-append notes h.front (record { slot = i; cells = u } ∷ h.back)
      ∙ ap (λ (es : List Entry). entries_in notes h.front ++ es)
      (entries_in_cons notes (record { slot = i; cells = u }) h.back);
  tuple = entry_tuple notes (record { slot = i; cells = u });
  at = entry_at notes (record { slot = i; cells = u });
}

-- a cut at a place, with what is known of the row
pub record PlaceCut (notes : List Note) (rows : List Row) (p : Place) (u : List ℕ) : Type 0 where
  pub front : List Row
  pub back : List Row
  pub is : rows ≡ front ++ record { slot = p.slot; cells = u } ∷ back

pub cut_at : (notes : List Note) (rows : List Row) (p : Place) (u : List ℕ) → IsAt (entries_in notes rows) p u
    → PlaceCut notes rows p u
cut_at notes rows p u a =
    let c = cut_entries notes rows a.front a.entry a.back a.is in
    let cells : c.row.cells ≡ u = sym (entry_tuple notes c.row) ∙ ap (λ (e : Entry). e.tuple) (sym c.e_is) ∙ a.tuple in
    let slot : c.row.slot
    ≡ p.slot = ap (λ (q : Place). q.slot)
    (sym (entry_at notes c.row) ∙ ap (λ (e : Entry). e.at) (sym c.e_is) ∙ a.at) in
    record {
      front = c.front;
      back = c.back;
      is = c.is
          ∙ ap₂ (λ (i : ℕ) (v : List ℕ). c.front ++ record { slot = i; cells = v } ∷ c.back) slot cells;
    }

pub at_row : (notes : List Note) (rows : List Row) (p : Place) (u : List ℕ) → IsAt (entries_in notes rows) p u
    → IsRow rows p.slot u
at_row notes rows p u a = let c = cut_at notes rows p u a in record { front = c.front; back = c.back; is = c.is }

pub live_held : (notes : List Note) (rows : List Row) (p : Place) → IsOccupied (entries_in notes rows) p
    → IsRowHeld rows p.slot
live_held notes rows p l = record { cells = l.tuple; row = at_row notes rows p l.tuple l.is_at }

-- slots
pub slots_at-append : (xs ys : List Entry) → slots_at (xs ++ ys) ≡ slots_at xs ++ slots_at ys
unfolding slots_at
slots_at-append xs ys = map-append (λ (e : Entry). e.at.slot) xs ys

pub slots_at_cons : (e : Entry) (es : List Entry) → slots_at (e ∷ es) ≡ e.at.slot ∷ slots_at es
unfolding slots_at
slots_at_cons e es = refl

pub slots_at_middle : (xs : List Entry) (e : Entry) (ys : List Entry) → slots_at (xs ++ e ∷ ys)
    ≡ slots_at xs ++ e.at.slot ∷ slots_at ys
slots_at_middle xs e ys = slots_at-append xs (e ∷ ys) ∙ ap (λ (zs : List ℕ). slots_at xs ++ zs) (slots_at_cons e ys)

pub slots_are : (notes : List Note) (rows : List Row) → slots_at (entries_in notes rows) ≡ slots rows
unfolding slots_at entries_in slots entry_of
slots_are notes [] = refl
slots_are notes (r ∷ rs) = ap (λ (zs : List ℕ). r.slot ∷ zs) (slots_are notes rs)

pub head_place : (es : List Entry) → head_at es ≡ place_of (first_of (slots_at es))
unfolding head_at slots_at
head_place [] = refl
head_place (e ∷ es) = refl

-- the last of a list
last_snoc : (es : List Entry) (e : Entry) → last_at (es ++ e ∷ []) ≡ Some e.at
unfolding last_at head_at
last_snoc es e = rw (reverse-append es (e ∷ [])) refl

pub slots_nil : slots_at [] ≡ []
unfolding slots_at
slots_nil = refl

last_nil : last_at [] ≡ None
unfolding last_at head_at
last_nil = refl

last_slot : (es : List Entry) (e : Entry) → last_of (slots_at (es ++ e ∷ [])) ≡ Some e.at.slot
last_slot es e = ap last_of (slots_at_middle es e [] ∙ ap (λ (zs : List ℕ). slots_at es ++ e.at.slot ∷ zs) slots_nil)
    ∙ last_append None (slots_at es) (e.at.slot ∷ [])

record Snoc (es : List Entry) : Type 0 where
  front : List Entry
  end : Entry
  is : es ≡ front ++ end ∷ []

snoc : (e : Entry) (es : List Entry) → Snoc (e ∷ es)
snoc e [] = record { front = []; end = e; is = refl }
snoc e (f ∷ es) = let s = snoc f es in record
    { front = e ∷ s.front; end = s.end; is = ap (λ (ds : List Entry). e ∷ ds) s.is }

pub last_place : (es : List Entry) → last_at es ≡ place_of (last_of (slots_at es))
last_place [] = last_nil ∙ sym (ap (λ (zs : List ℕ). place_of (last_of zs)) slots_nil)
last_place (e ∷ es) =
    let s = snoc e es in
    rw s.is (last_snoc s.front s.end ∙ sym (ap place_of (last_slot s.front s.end)))

-- the neighbours in a group
pub group_next : (links : List Pair) (g xs : List Entry) (e : Entry) (ys : List Entry)
    → Linked links None (slots_at g) None → g ≡ xs ++ e ∷ ys → place_of (pair_at links e.at.slot).next ≡ head_at ys
group_next links g xs e ys h is =
    ap place_of (next_here links (slots_at xs) e.at.slot (slots_at ys)
    (subst (λ zs. Linked links None zs None) (ap slots_at is ∙ slots_at_middle xs e ys) h)) ∙ sym (head_place ys)

pub group_prev : (links : List Pair) (g xs : List Entry) (e : Entry) (ys : List Entry)
    → Linked links None (slots_at g) None → g ≡ xs ++ e ∷ ys → place_of (pair_at links e.at.slot).prev ≡ last_at xs
group_prev links g xs e ys h is =
    ap place_of (prev_here links (slots_at xs) e.at.slot (slots_at ys)
    (subst (λ zs. Linked links None zs None) (ap slots_at is ∙ slots_at_middle xs e ys) h)) ∙ sym (last_place xs)

-- heads
slot_first : (r : Row) (rs : List Row) → slots (r ∷ rs) ≡ r.slot ∷ slots rs
unfolding slots
slot_first r rs = refl

pub row_at_first : (r : Row) (rs : List Row) (i : ℕ) → r.slot ≡ i → row_at (r ∷ rs) i ≡ Some r.cells
unfolding row_at
row_at_first r rs i h = rw (eq-eqb r.slot i h) refl

pub row_at_other : (r : Row) (rs : List Row) (i : ℕ) → (r.slot ≡ i → ⊥) → row_at (r ∷ rs) i ≡ row_at rs i
unfolding row_at
row_at_other r rs i h = rw (ne_eqb r.slot i h) refl

pub row_at_nil : (i : ℕ) → row_at [] i ≡ None
unfolding row_at
row_at_nil i = refl

different_head : (x : ℕ) (xs : List ℕ) → AreDistinctSlots (x ∷ xs) → IsOut x xs × AreDistinctSlots xs
unfolding AreDistinctSlots
different_head x xs h = h

out_middle : (x : ℕ) (xs : List ℕ) (i : ℕ) (ys : List ℕ) → IsOut x (xs ++ i ∷ ys) → i ≡ x → ⊥
unfolding IsOut
out_middle x [] i ys h same = h.0 same
out_middle x (z ∷ xs) i ys h same = out_middle x xs i ys h.1 same

not_first : (r : Row) (rs : List Row) (i : ℕ) (u : List ℕ) (ss : List Row)
    → AreDistinctSlots (slots (r ∷ (rs ++ record { slot = i; cells = u } ∷ ss))) → r.slot ≡ i → ⊥
not_first r rs i u ss d same =
    let h = (different_head r.slot (slots (rs ++ record { slot = i; cells = u } ∷ ss))
    (subst AreDistinctSlots (slot_first r (rs ++ record { slot = i; cells = u } ∷ ss)) d)).0 in
    out_middle r.slot (slots rs) i (slots ss)
    (subst (IsOut r.slot)
    (slots-append rs (record { slot = i; cells = u } ∷ ss)
    ∙ ap (λ (zs : List ℕ). slots rs ++ zs) (slot_first (record { slot = i; cells = u }) ss)) h) (sym same)

pub row_at_middle : (rs : List Row) (i : ℕ) (u : List ℕ) (ss : List Row)
    → AreDistinctSlots (slots (rs ++ record { slot = i; cells = u } ∷ ss))
    → row_at (rs ++ record { slot = i; cells = u } ∷ ss) i ≡ Some u
row_at_middle [] i u ss d = row_at_first (record { slot = i; cells = u }) ss i refl
row_at_middle (r ∷ rs) i u ss d =
    row_at_other r (rs ++ record { slot = i; cells = u } ∷ ss) i (not_first r rs i u ss d)
    ∙ row_at_middle rs i u ss
    (different_head r.slot (slots (rs ++ record { slot = i; cells = u } ∷ ss))
    (subst AreDistinctSlots (slot_first r (rs ++ record { slot = i; cells = u } ∷ ss)) d)).1

pub row_at_row : (rows : List Row) (i : ℕ) (u : List ℕ) → AreDistinctSlots (slots rows) → IsRow rows i u → row_at rows i
    ≡ Some u
row_at_row rows i u d h = ap (λ (rs : List Row). row_at rs i) h.is
    ∙ row_at_middle h.front i u h.back (subst (λ rs. AreDistinctSlots (slots rs)) h.is d)

more_row : (r : Row) (rs : List Row) (i : ℕ) (u : List ℕ) → IsRow rs i u → IsRow (r ∷ rs) i u
more_row r rs i u h = record { front = r ∷ h.front; back = h.back; is = ap (λ (qs : List Row). r ∷ qs) h.is }

pub row_from_at : (rows : List Row) (i : ℕ) (u : List ℕ) → row_at rows i ≡ Some u → IsRow rows i u
row_from_at [] i u h = absurd (let k : None ≡ Some u = sym (row_at_nil i) ∙ h in cc)
row_from_at (r ∷ rs) i u h =
    elim (cases_eq r.slot i) [
      | inl here ↦ (let k : Some r.cells ≡ Some u = sym (row_at_first r rs i here) ∙ h in let cells : r.cells
          ≡ u = cc in
          record {
            front = [];
            back = rs;
            is = ap₂ (λ (j : ℕ) (v : List ℕ). record { slot = j; cells = v } ∷ rs) here
                cells;
          })
      | inr other ↦ more_row r rs i u (row_from_at rs i u (sym (row_at_other r rs i other) ∙ h))
    ]

-- bounds
pub row_below : (n : ℕ) (rows : List Row) (i : ℕ) (u : List ℕ) → AreBelow n (slots rows) → IsRow rows i u → i < n
row_below n rows i u b h =
    below_here n (slots h.front) i (slots h.back)
    (subst (AreBelow n) (ap slots h.is ∙ slots-append h.front (record { slot = i; cells = u } ∷ h.back)
    ∙ ap (λ (zs : List ℕ). slots h.front ++ zs) (slot_first (record { slot = i; cells = u }) h.back)) b)

pub live_below : (r : Raw) (p : Place) → HoldsTuples r → IsOccupied (entries_of r) p → p.slot < r.rows.room
live_below r p h l = row_below r.rows.room r.rows.rows p.slot l.tuple h.rows.below
    (at_row r.notes.items r.rows.rows p l.tuple l.is_at)

-- a group without a head is empty
pub nil_from_length : (es : List Entry) → length es ≡ 0 → es ≡ []
nil_from_length [] h = refl
nil_from_length (e ∷ es) h = absurd (omega (arith, h))

pub no_group : (key : List ℕ) (es : List Entry) (w : List ℕ) → group_size key es w ≡ 0 → group_of key es w ≡ []
no_group key es w h = nil_from_length (group_of key es w) (length_grp key es w ∙ h)

pub no_ends : (key : List ℕ) (es : List Entry) (w : List ℕ) → group_size key es w ≡ 0
    → ends_of (slots_at (group_of key es w))
    ≡ record { first = None; last = None }
no_ends key es w h = ap (λ (g : List Entry). ends_of (slots_at g)) (no_group key es w h) ∙ ap ends_of slots_nil

-- marks
marks_nil : marks [] ≡ []
unfolding marks
marks_nil = refl

pub all_marks : (es : List Entry) → AreAllMarked es → marks es ≡ es
unfolding AreAllMarked
all_marks [] h = marks_nil
all_marks (e ∷ es) h = marks_yes e es h.0 ∙ ap (λ (ds : List Entry). e ∷ ds) (all_marks es h.1)

plain_nil : plain [] ≡ []
unfolding plain
plain_nil = refl

pub all_plain : (es : List Entry) → AreAllMarked es → plain es ≡ []
unfolding AreAllMarked
all_plain [] h = plain_nil
all_plain (e ∷ es) h = plain_yes e es h.0 ∙ all_plain es h.1

pub trailing_split : (es : List Entry) → AreTrailing es → es ≡ plain es ++ marks es
unfolding AreTrailing
trailing_split [] h = sym (ap₂ (λ (f g : List Entry). f ++ g) plain_nil marks_nil)
trailing_split (e ∷ es) h =
    elim (cases_Bool e.marked) [
      | inl here ↦ rw (marks_yes e es here, plain_yes e es here, all_plain es (h.0 here), all_marks es (h.0 here)) refl
      | inr other ↦ rw (marks_no e es other, plain_no e es other)
          (ap (λ (ds : List Entry). e ∷ ds) (trailing_split es h.1))
    ]

apart_first : (x : Entry) (es : List Entry) → TuplesDiffer (x ∷ es) → (count_of es x.tuple ≡ 0) × TuplesDiffer es
unfolding TuplesDiffer
apart_first x es h = h

not_there : (xs : List Entry) (e : Entry) (ys : List Entry) (t : List ℕ) → e.tuple ≡ t → count_of (xs ++ e ∷ ys) t ≡ 0
    → ⊥
not_there xs e ys t same_one none = let some = there (xs ++ e ∷ ys) xs e ys t refl same_one in omega (arith, some, none)

marked_middle : (xs : List Entry) (e : Entry) (ys : List Entry) (u : List ℕ) → TuplesDiffer (xs ++ e ∷ ys) → e.tuple ≡ u
    → is_marked (xs ++ e ∷ ys) u ≡ e.marked
marked_middle [] e ys u apart here = is_marked_here e ys u (is_same e.tuple u here)
marked_middle (x ∷ xs) e ys u apart here =
    let h = apart_first x (xs ++ e ∷ ys) apart in
    is_marked_else x (xs ++ e ∷ ys) u
    (same_other x.tuple u (λ same_one. not_there xs e ys x.tuple (here ∙ sym same_one) h.0))
    ∙ marked_middle xs e ys u h.1 here

pub marked_at : (es xs : List Entry) (e : Entry) (ys : List Entry) (u : List ℕ) → TuplesDiffer es → es ≡ xs ++ e ∷ ys
    → e.tuple ≡ u → is_marked es u ≡ e.marked
marked_at es xs e ys u apart is here = ap (λ (ds : List Entry). is_marked ds u) is
    ∙ marked_middle xs e ys u (subst TuplesDiffer is apart) here

pub entry_of_row : (notes : List Note) (e : Entry) (r : Row) (p : Place) → e ≡ entry_of notes r → e.at ≡ p → r.slot
    ≡ p.slot
entry_of_row notes e r p h at = ap (λ (q : Place). q.slot)
    (sym (entry_at notes r) ∙ ap (λ (d : Entry). d.at) (sym h) ∙ at)

-- what a note says of its tuple
pub note_supports : (r : Raw) (p : Place) (u : List ℕ) → HoldsTuples r → IsAt (entries_of r) p u
    → (note_at r.notes.items p.slot).supports ≡ supports_of (entries_of r) u
note_supports r p u h a =
    let c = cut_entries r.notes.items r.rows.rows a.front a.entry a.back a.is in
    ap (λ (i : ℕ). (note_at r.notes.items i).supports) (sym (entry_of_row r.notes.items a.entry c.row p c.e_is a.at))
    ∙ sym (entry_supports r.notes.items c.row) ∙ ap (λ (d : Entry). d.supports) (sym c.e_is)
    ∙ sym (supp_at (entries_of r) a.front a.entry a.back u h.apart a.is a.tuple)

pub note_marked : (r : Raw) (p : Place) (u : List ℕ) → HoldsTuples r → IsAt (entries_of r) p u
    → (note_at r.notes.items p.slot).marked ≡ is_marked (entries_of r) u
note_marked r p u h a =
    let c = cut_entries r.notes.items r.rows.rows a.front a.entry a.back a.is in
    ap (λ (i : ℕ). (note_at r.notes.items i).marked) (sym (entry_of_row r.notes.items a.entry c.row p c.e_is a.at))
    ∙ sym (entry_marked r.notes.items c.row) ∙ ap (λ (d : Entry). d.marked) (sym c.e_is)
    ∙ sym (marked_at (entries_of r) a.front a.entry a.back u h.apart a.is a.tuple)

-- the next marked one is the next of all
pub marked_next : (r : Raw) (o : Option ℕ) (xs : List Entry) (e : Entry) (ys : List Entry) → AreTrailing (entries_of r)
    → marks (entries_of r) ≡ xs ++ e ∷ ys
    → ((rs : List Row) (q : Row) (ss : List Row) → r.rows.rows ≡ rs ++ q ∷ ss → q.slot ≡ e.at.slot → o
    ≡ first_of (slots ss)) → place_of o ≡ head_at ys
marked_next r o xs e ys t is next =
    let es = entries_of r in
    let all : es ≡ (plain es ++ xs) ++ e ∷ ys = trailing_split es t ∙ ap (λ (ms : List Entry). plain es ++ ms) is
    ∙ sym (append_assoc (plain es) xs (e ∷ ys)) in
    let c = cut_entries r.notes.items r.rows.rows (plain es ++ xs) e ys all in
    ap place_of (next c.front c.row c.back c.is (entry_of_row r.notes.items e c.row e.at c.e_is refl)
    ∙ ap first_of (sym (slots_are r.notes.items c.back) ∙ ap slots_at (sym c.ys_is))) ∙ sym (head_place ys)
