-- The rows of a relation as the rows of an arena, with their copies by slot.
use Rattle.std.proofs.Common.{◌≡◌, ℕ, ◌<◌, ◌≤◌, false, List, [], ◌∷◌, ◌++◌, length, slice_set, Option, Some, None, refl}
use Rattle.std.proofs.Common.{ap, ap₂, subst, sym, ◌∙◌, arith}
use Rattle.std.specs.Prelude.{MatchOption}
use Rattle.std.proofs.lemmas.List.{append-nil, length-map, map-append, length-set, get_or-set_same, get_or-set_other}
use Rattle.djq_arena.specs.Rows.{Row, SlotRows, AreRows, IsAbsent, IsRow, IsRowHeld, slots}
use Rattle.djq_arena.specs.Chains.{first_of, AreDistinctSlots, AreBelow, IsOut}
use Rattle.djq_arena.proofs.Chains.{below_here, different_here, out_front, out_back}
use Rattle.djq_index.specs.declared.place.Place.{Place}
use Rattle.djq_index.specs.Tuple.{same}
use Rattle.djq_index.specs.Entries.{Entry, supports_of, count_of, head_at}
use Rattle.djq_index.specs.Table.{TuplesDiffer, IsAt, IsOccupied}
use Rattle.djq_index.specs.Changes.{Supported}
use Rattle.djq_index.proofs.Tuples.{same_other, one_false, supp_at, apart_in, apart_out}
use Rattle.djq_index.proofs.Groups.{supported_apart}
use Rattle.djq_index.proofs.PartChanges.{slots_row}
use Rattle.djq_database.specs.Rows.{copies_at, entry_with_copies, entries_with_copies, row_place, row_place_of}
use Rattle.djq_database.specs.Rows.{CopiesAreKept}
use Rattle.djq_database.specs.Tuples.{Appended, Dropped}

-- lists of entries

pub entries_nil : (copies : List ℕ) → entries_with_copies copies [] ≡ []
unfolding entries_with_copies
entries_nil copies = refl

pub entries_cons : (copies : List ℕ) (r : Row) (rs : List Row)
    → entries_with_copies copies (r ∷ rs) ≡ entry_with_copies copies r ∷ entries_with_copies copies rs
unfolding entries_with_copies
entries_cons copies r rs = refl

entries-append : (copies : List ℕ) (rs ss : List Row)
    → entries_with_copies copies (rs ++ ss) ≡ entries_with_copies copies rs ++ entries_with_copies copies ss
unfolding entries_with_copies
entries-append copies rs ss = map-append (entry_with_copies copies) rs ss

pub entries_middle : (copies : List ℕ) (rs : List Row) (r : Row) (ss : List Row)
    → entries_with_copies copies (rs ++ r ∷ ss)
    ≡ entries_with_copies copies rs ++ entry_with_copies copies r ∷ entries_with_copies copies ss
entries_middle copies rs r ss =
    entries-append copies rs (r ∷ ss)
    ∙ ap (λ (es : List Entry). entries_with_copies copies rs ++ es) (entries_cons copies r ss)

pub entries_long : (copies : List ℕ) (rows : List Row)
    → length rows ≡ length (entries_with_copies copies rows)
unfolding entries_with_copies
entries_long copies rows = sym (length-map rows (entry_with_copies copies))

-- an entry

entry_tuple : (copies : List ℕ) (r : Row) → (entry_with_copies copies r).tuple ≡ r.cells
unfolding entry_with_copies
entry_tuple copies r = refl

entry_at : (copies : List ℕ) (r : Row) → (entry_with_copies copies r).at ≡ row_place r.slot
unfolding entry_with_copies
entry_at copies r = refl

entry_supports : (copies : List ℕ) (r : Row)
    → (entry_with_copies copies r).supports ≡ copies_at copies r.slot
unfolding entry_with_copies
entry_supports copies r = refl

entry_marked : (copies : List ℕ) (r : Row) → (entry_with_copies copies r).marked ≡ false
unfolding entry_with_copies
entry_marked copies r = refl

entry_like : (old new : List ℕ) (r : Row) → copies_at new r.slot ≡ copies_at old r.slot
    → entry_with_copies new r ≡ entry_with_copies old r
unfolding entry_with_copies
entry_like old new r h = ap (λ (n : ℕ). record {
  at = record { slot = r.slot };
  tuple = r.cells;
  supports = n;
  marked = false;
}) h

-- a cut of the entries is a cut of the rows

pub record RowCut (copies : List ℕ) (rows : List Row) (xs : List Entry) (e : Entry)
    (ys : List Entry) : Type 0 where
  pub front : List Row
  pub row : Row
  pub back : List Row
  pub is : rows ≡ front ++ row ∷ back
  pub e_is : e ≡ entry_with_copies copies row
  pub ys_is : ys ≡ entries_with_copies copies back

no_entries : (copies : List ℕ) (xs : List Entry) (e : Entry) (ys : List Entry)
    → entries_with_copies copies [] ≡ xs ++ e ∷ ys → ⊥
unfolding entries_with_copies
no_entries copies [] e ys h = cc
no_entries copies (x ∷ xs) e ys h = cc

pub cut_entries : (copies : List ℕ) (rows : List Row) (xs : List Entry) (e : Entry)
    (ys : List Entry) → entries_with_copies copies rows ≡ xs ++ e ∷ ys → RowCut copies rows xs e ys
cut_entries copies [] xs e ys h = absurd (no_entries copies xs e ys h)
cut_entries copies (r ∷ rs) [] e ys h =
    let both : entry_with_copies copies r ∷ entries_with_copies copies rs ≡ e ∷ ys =
    sym (entries_cons copies r rs) ∙ h in
    record { front = []; row = r; back = rs; is = refl; e_is = cc; ys_is = cc }
cut_entries copies (r ∷ rs) (x ∷ xs) e ys h =
    let both : entry_with_copies copies r ∷ entries_with_copies copies rs ≡ x ∷ (xs ++ e ∷ ys) =
    sym (entries_cons copies r rs) ∙ h in
    let rest : entries_with_copies copies rs ≡ xs ++ e ∷ ys = cc in
    let c = cut_entries copies rs xs e ys rest in
    record {
      front = r ∷ c.front;
      row = c.row;
      back = c.back;
      is = ap (λ (qs : List Row). r ∷ qs) c.is;
      e_is = c.e_is;
      ys_is = c.ys_is;
    }

pub entry_row : (copies : List ℕ) (e : Entry) (r : Row) (slot : ℕ) → e ≡ entry_with_copies copies r
    → e.at ≡ row_place slot → r.slot ≡ slot
entry_row copies e r slot h at =
    ap (λ (p : Place). p.slot) (sym (entry_at copies r) ∙ ap (λ (d : Entry). d.at) (sym h) ∙ at)

-- what lies in a slot

pub at_row : (copies : List ℕ) (rows : List Row) (slot : ℕ) (u : List ℕ)
    → IsAt (entries_with_copies copies rows) (row_place slot) u → IsRow rows slot u
at_row copies rows slot u a =
    let c = cut_entries copies rows a.front a.entry a.back a.is in
    let cells : c.row.cells ≡ u =
    sym (entry_tuple copies c.row) ∙ ap (λ (e : Entry). e.tuple) (sym c.e_is) ∙ a.tuple in
    record {
      front = c.front;
      back = c.back;
      is = c.is ∙ ap₂ (λ (i : ℕ) (v : List ℕ). c.front ++ record { slot = i; cells = v } ∷ c.back)
          (entry_row copies a.entry c.row slot c.e_is a.at) cells;
    }

pub row_at : (copies : List ℕ) (rows : List Row) (slot : ℕ) (u : List ℕ) → IsRow rows slot u
    → IsAt (entries_with_copies copies rows) (row_place slot) u
row_at copies rows slot u h = record {
  front = entries_with_copies copies h.front;
  back = entries_with_copies copies h.back;
  entry = entry_with_copies copies (record { slot = slot; cells = u });
  is = ap (entries_with_copies copies) h.is
      ∙ entries_middle copies h.front (record { slot = slot; cells = u }) h.back;
  tuple = entry_tuple copies (record { slot = slot; cells = u });
  at = entry_at copies (record { slot = slot; cells = u });
}

pub live_held : (copies : List ℕ) (rows : List Row) (slot : ℕ)
    → IsOccupied (entries_with_copies copies rows) (row_place slot) → IsRowHeld rows slot
live_held copies rows slot l = record {
  cells = l.tuple;
  row = at_row copies rows slot l.tuple l.is_at;
}

absent : (copies : List ℕ) (rows : List Row) (u : List ℕ) → IsAbsent rows u
    → count_of (entries_with_copies copies rows) u ≡ 0
unfolding IsAbsent entries_with_copies count_of entry_with_copies
absent copies [] u h = refl
absent copies (r ∷ rs) u h =
    omega (arith, one_false (same r.cells u) (same_other r.cells u h.0), absent copies rs u h.1)

pub finds : (copies : List ℕ) (rows : List Row) (u : List ℕ) (result : Option ℕ)
    → MatchOption result (IsAbsent rows u) (λ slot. IsRow rows slot u)
    → MatchOption result (count_of (entries_with_copies copies rows) u ≡ 0)
    (λ slot. IsAt (entries_with_copies copies rows) (row_place slot) u)
finds copies rows u None h = absent copies rows u h
finds copies rows u (Some slot) h = row_at copies rows slot u h

pub first_place : (copies : List ℕ) (rows : List Row)
    → row_place_of (first_of (slots rows)) ≡ head_at (entries_with_copies copies rows)
unfolding head_at slots entries_with_copies entry_with_copies
first_place copies [] = refl
first_place copies (r ∷ rs) = refl

pub next_place : (copies : List ℕ) (rows : List Row) (xs : List Entry) (e : Entry)
    (ys : List Entry) (slot : ℕ) (next : Option ℕ) → entries_with_copies copies rows ≡ xs ++ e ∷ ys
    → e.at ≡ row_place slot
    → ((rs : List Row) (r : Row) (ss : List Row) → rows ≡ rs ++ r ∷ ss → r.slot ≡ slot
    → next ≡ first_of (slots ss)) → row_place_of next ≡ head_at ys
next_place copies rows xs e ys slot next is at h =
    let c = cut_entries copies rows xs e ys is in
    ap row_place_of (h c.front c.row c.back c.is (entry_row copies e c.row slot c.e_is at))
    ∙ first_place copies c.back ∙ ap head_at (sym c.ys_is)

-- a slot is one of the room, so it has copies
pub live_below : (rows : SlotRows) (copies : List ℕ) (slot : ℕ) → CopiesAreKept rows copies
    → IsOccupied (entries_with_copies copies rows.rows) (row_place slot) → slot < length copies
live_below rows copies slot h l =
    let r = at_row copies rows.rows slot l.tuple l.is_at in
    omega (
      arith,
      h.copied,
      below_here rows.room (slots r.front) slot (slots r.back) (subst (AreBelow rows.room)
          (ap slots r.is ∙ slots_row r.front (record { slot = slot; cells = l.tuple }) r.back)
          h.rows.below),
    )

pub its_copies : (rows : SlotRows) (copies : List ℕ) (slot : ℕ) (u : List ℕ) → CopiesAreKept rows copies
    → IsAt (entries_with_copies copies rows.rows) (row_place slot) u
    → copies_at copies slot ≡ supports_of (entries_with_copies copies rows.rows) u
its_copies rows copies slot u h a =
    let c = cut_entries copies rows.rows a.front a.entry a.back a.is in
    ap (copies_at copies) (sym (entry_row copies a.entry c.row slot c.e_is a.at))
    ∙ sym (entry_supports copies c.row) ∙ ap (λ (d : Entry). d.supports) (sym c.e_is)
    ∙ sym (supp_at (entries_with_copies copies rows.rows) a.front a.entry a.back u h.apart a.is a.tuple)

-- other copies of a slot

same_entries : (old new : List ℕ) (slot : ℕ) (rows : List Row) → IsOut slot (slots rows)
    → ((k : ℕ) → (k ≡ slot → ⊥) → copies_at new k ≡ copies_at old k)
    → entries_with_copies new rows ≡ entries_with_copies old rows
unfolding IsOut slots entries_with_copies
same_entries old new slot [] o h = refl
same_entries old new slot (r ∷ rs) o h =
    ap₂ (λ (e : Entry) (es : List Entry). e ∷ es) (entry_like old new r (h r.slot o.0))
    (same_entries old new slot rs o.1 h)

-- the entries but for one, whose copies have changed
changed : (old new : List ℕ) (rs : List Row) (r : Row) (ss : List Row)
    → AreDistinctSlots (slots (rs ++ r ∷ ss))
    → ((k : ℕ) → (k ≡ r.slot → ⊥) → copies_at new k ≡ copies_at old k)
    → entries_with_copies new (rs ++ r ∷ ss)
    ≡ entries_with_copies old rs ++ entry_with_copies new r ∷ entries_with_copies old ss
changed old new rs r ss d h =
    let out = different_here (slots rs) r.slot (slots ss)
    (subst AreDistinctSlots (slots_row rs r ss) d) in
    entries_middle new rs r ss
    ∙ ap₂ (λ (xs ys : List Entry). xs ++ entry_with_copies new r ∷ ys)
    (same_entries old new r.slot rs (out_front r.slot (slots rs) (slots ss) out) h)
    (same_entries old new r.slot ss (out_back r.slot (slots rs) (slots ss) out) h)

-- a row comes

pub came : (old new : SlotRows) (copies more : List ℕ) (slot : ℕ) (u : List ℕ) → AreRows new
    → new.rows ≡ old.rows ++ record { slot = slot; cells = u } ∷ []
    → copies_at more slot ≡ 1
    → ((k : ℕ) → (k ≡ slot → ⊥) → copies_at more k ≡ copies_at copies k)
    → Appended (entries_with_copies copies old.rows) (entries_with_copies more new.rows) u
came old new copies more slot u law is one others =
    let r : Row = record { slot = slot; cells = u } in
    record {
      entry = entry_with_copies more r;
      tuple = entry_tuple more r;
      single = entry_supports more r ∙ one;
      is = ap (entries_with_copies more) is
          ∙ changed copies more old.rows r [] (subst (λ (rs : List Row). AreDistinctSlots (slots rs)) is
          law.different) others
          ∙ ap (λ (es : List Entry). entries_with_copies copies old.rows ++ entry_with_copies more r ∷ es)
          (entries_nil copies);
    }

came_apart : (old new : List Entry) (u : List ℕ) → Appended old new u → TuplesDiffer old
    → count_of old u ≡ 0 → TuplesDiffer new
came_apart old new u a h none =
    let all : old ++ [] ≡ old = append-nil old in
    subst TuplesDiffer (sym a.is) (apart_in old a.entry [] (subst TuplesDiffer (sym all) h)
    (ap (λ (es : List Entry). count_of es a.entry.tuple) all ∙ ap (count_of old) a.tuple ∙ none))

pub came_kept : (old new : SlotRows) (copies more : List ℕ) (u : List ℕ) → CopiesAreKept old copies
    → AreRows new → Appended (entries_with_copies copies old.rows) (entries_with_copies more new.rows) u
    → new.room ≤ length more → count_of (entries_with_copies copies old.rows) u ≡ 0 → CopiesAreKept new more
came_kept old new copies more u h law a room none = record {
  rows = law;
  copied = room;
  apart = came_apart (entries_with_copies copies old.rows) (entries_with_copies more new.rows) u a h.apart none;
}

-- a row goes

pub went : (old new : SlotRows) (copies : List ℕ) (slot : ℕ) (u : List ℕ)
    → IsAt (entries_with_copies copies old.rows) (row_place slot) u
    → ((xs : List Row) (r : Row) (ys : List Row) → old.rows ≡ xs ++ r ∷ ys → r.slot ≡ slot
    → new.rows ≡ xs ++ ys)
    → Dropped (entries_with_copies copies old.rows) (entries_with_copies copies new.rows) u
went old new copies slot u at removed =
    let c = at_row copies old.rows slot u at in
    let r : Row = record { slot = slot; cells = u } in
    record {
      front = entries_with_copies copies c.front;
      back = entries_with_copies copies c.back;
      entry = entry_with_copies copies r;
      tuple = entry_tuple copies r;
      was = ap (entries_with_copies copies) c.is ∙ entries_middle copies c.front r c.back;
      is = ap (entries_with_copies copies) (removed c.front r c.back c.is refl)
          ∙ entries-append copies c.front c.back;
    }

pub went_apart : (old new : List Entry) (u : List ℕ) → Dropped old new u → TuplesDiffer old
    → TuplesDiffer new
went_apart old new u d h =
    subst TuplesDiffer (sym d.is) (apart_out d.front d.entry d.back (subst TuplesDiffer d.was h))

-- a row has other copies

set_here : (copies : List ℕ) (slot n : ℕ) → slot < length copies
    → copies_at (slice_set copies slot n) slot ≡ n
set_here copies slot n h = get_or-set_same copies slot n 0 h

set_else : (copies : List ℕ) (slot n k : ℕ) → (k ≡ slot → ⊥)
    → copies_at (slice_set copies slot n) k ≡ copies_at copies k
set_else copies slot n k h = get_or-set_other copies slot k n 0 h

pub recounted : (rows : SlotRows) (copies : List ℕ) (slot n : ℕ) (u : List ℕ) → CopiesAreKept rows copies
    → slot < length copies → IsAt (entries_with_copies copies rows.rows) (row_place slot) u
    → Supported (entries_with_copies copies rows.rows) (entries_with_copies (slice_set copies slot n) rows.rows) u
    (supports_of (entries_with_copies copies rows.rows) u) n
recounted rows copies slot n u h below at =
    let c = at_row copies rows.rows slot u at in
    let r : Row = record { slot = slot; cells = u } in
    let more = slice_set copies slot n in
    record {
      front = entries_with_copies copies c.front;
      back = entries_with_copies copies c.back;
      before = entry_with_copies copies r;
      after = entry_with_copies more r;
      was = ap (entries_with_copies copies) c.is ∙ entries_middle copies c.front r c.back;
      is = ap (entries_with_copies more) c.is
          ∙ changed copies more c.front r c.back (subst (λ (rs : List Row). AreDistinctSlots (slots rs))
          c.is h.rows.different) (set_else copies slot n);
      tuple = entry_tuple copies r;
      same_tuple = entry_tuple more r;
      same_place = entry_at more r ∙ sym (entry_at copies r);
      same_mark = entry_marked more r ∙ sym (entry_marked copies r);
      had = entry_supports copies r ∙ its_copies rows copies slot u h at;
      has = entry_supports more r ∙ set_here copies slot n below;
    }

pub recounted_kept : (rows : SlotRows) (copies : List ℕ) (slot n : ℕ) → CopiesAreKept rows copies
    → IsOccupied (entries_with_copies copies rows.rows) (row_place slot) → CopiesAreKept rows (slice_set copies slot n)
recounted_kept rows copies slot n h l = record {
  rows = h.rows;
  copied = omega (arith, h.copied, length-set copies slot n);
  apart = supported_apart (entries_with_copies copies rows.rows)
      (entries_with_copies (slice_set copies slot n) rows.rows) l.tuple
      (supports_of (entries_with_copies copies rows.rows) l.tuple) n
      (recounted rows copies slot n l.tuple h (live_below rows copies slot h l) l.is_at) h.apart;
}

-- no rows

pub no_apart : TuplesDiffer []
unfolding TuplesDiffer
no_apart = tt

pub none_kept : (rows : SlotRows) (copies : List ℕ) → AreRows rows → rows.room ≡ 0 → rows.rows ≡ []
    → CopiesAreKept rows copies
none_kept rows copies law room none = record {
  rows = law;
  copied = omega (arith, room);
  apart = subst TuplesDiffer (sym (ap (entries_with_copies copies) none ∙ entries_nil copies)) no_apart;
}
