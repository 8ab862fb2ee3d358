-- Marks are taken away one after the other.
use Rattle.std.proofs.Common.{◌≡◌, ℕ, zero, suc, ◌+◌, ◌≤◌, ◌<◌, List, [], ◌∷◌, ◌++◌, length, take, drop, slice_set}
use Rattle.std.proofs.Common.{Option, Some, None, refl, ap, ap₂, subst, sym, ◌∙◌, arith, append_assoc, Bool, false, inl}
use Rattle.std.proofs.Common.{inr, length-set, add-one, get_or-set_same, get_or-set_other}
use Rattle.std.proofs.lemmas.List.{append-nil, map-append, take_all}
use Rattle.std.proofs.lemmas.Bool.{cases_Bool, cases_eq, false≢true}
use Rattle.djq_arena.specs.Rows.{Row, SlotRows, AreRows, IsRowHeld, slots}
use Rattle.djq_arena.specs.Chains.{first_of, AreDistinctSlots}
use Rattle.djq_index.specs.declared.place.Place.{Place}
use Rattle.djq_index.specs.declared.raw.Note.{Note}
use Rattle.djq_index.specs.declared.raw.Raw.{Raw}
use Rattle.djq_index.specs.Entries.{Entry, marks, plain, bare, unmarked}
use Rattle.djq_index.specs.Raw.{note_at, entry_of, entries_in, entries_of, slots_at, AreTrailing, IsRaw, HoldsTuples}
use Rattle.djq_index.specs.Raw.{AreHeads, without_mark}
use Rattle.djq_index.proofs.Groups.{marks_yes, marks_no, plain_yes, plain_no, unmarked_cons, unmarked_marks}
use Rattle.djq_index.proofs.Parts.{slots_are, cut_entries, slots_nil, trailing_split, entry_at, row_below}
use Rattle.djq_index.proofs.PartChanges.{entries_set, groups_like, groups_alike, alike_notes, alike_apart, AreAlike}
use Rattle.djq_index.proofs.PartChanges.{kind_kept}

-- in the middle of it: the first j marks are gone
pub record Clearing (old now : List Note) (rows : List Row) (next : Option ℕ) (j : ℕ) : Type 0 where
  pub is : entries_in now rows
      ≡ plain (entries_in old rows) ++
      (unmarked (take j (marks (entries_in old rows))) ++ drop j (marks (entries_in old rows)))
  pub at : next ≡ first_of (slots_at (drop j (marks (entries_in old rows))))
  pub heads : (k : ℕ) → (note_at now k).head ≡ (note_at old k).head
  pub long : length now ≡ length old
  pub room : j ≤ length (marks (entries_in old rows))

unmarked_nil : unmarked [] ≡ []
unfolding unmarked
unmarked_nil = refl

pub clearing : (old : List Note) (rows : List Row) (first : Option ℕ) → AreTrailing (entries_in old rows) → first
    ≡ first_of (slots_at (marks (entries_in old rows))) → Clearing old old rows first 0
clearing old rows first t at = record {
  is = trailing_split (entries_in old rows) t
      ∙ ap (λ (es : List Entry). plain (entries_in old rows) ++ (es ++ marks (entries_in old rows))) (sym unmarked_nil);
  at = at;
  heads = λ k. refl;
  long = refl;
  room = omega arith;
}

-- the list at its j-th entry
record EntryCut (ms : List Entry) (j i : ℕ) : Type 0 where
  entry : Entry
  slot : entry.at.slot ≡ i
  drops : drop j ms ≡ entry ∷ drop (j + 1) ms
  takes : take (j + 1) ms ≡ take j ms ++ entry ∷ []
  within : j < length ms

cut_suc : (ms : List Entry) (j i : ℕ) → first_of (slots_at (drop j ms)) ≡ Some i → (e : Entry) × (e.at.slot ≡ i)
    × (drop j ms ≡ e ∷ drop (suc j) ms) × (take (suc j) ms ≡ take j ms ++ e ∷ []) × (j < length ms)
unfolding slots_at
cut_suc [] zero i h = absurd cc
cut_suc [] (suc j) i h = absurd cc
cut_suc (e ∷ ms) zero i h = let s : e.at.slot ≡ i = cc in (e, s, refl, refl, omega arith)
cut_suc (x ∷ ms) (suc j) i h = let c = cut_suc ms j i h in
    (c.0, c.1, c.2, ap (λ (es : List Entry). x ∷ es) c.3, omega (arith, c.4))

cut_at_slot : (ms : List Entry) (j i : ℕ) → first_of (slots_at (drop j ms)) ≡ Some i → EntryCut ms j i
cut_at_slot ms j i h = let c = cut_suc ms j i h in record
    { entry = c.0; slot = c.1; drops = rw add-one c.2; takes = rw add-one c.3; within = c.4 }

cut_none : (ms : List Entry) (j : ℕ) → j ≤ length ms → first_of (slots_at (drop j ms)) ≡ None → j ≡ length ms
unfolding slots_at
cut_none [] j h k = omega (arith, h)
cut_none (e ∷ ms) zero h k = absurd cc
cut_none (e ∷ ms) (suc j) h k = let n = cut_none ms j (omega (arith, h)) k in omega (arith, n)

unmarked-append : (xs ys : List Entry) → unmarked (xs ++ ys) ≡ unmarked xs ++ unmarked ys
unfolding unmarked
unmarked-append xs ys = map-append bare xs ys

bare_plain : (e : Entry) → e.marked ≡ false → bare e ≡ e
unfolding bare
bare_plain e h = ap (λ (b : Bool). record e { marked = b }) (sym h)

plain_nil : plain [] ≡ []
unfolding plain
plain_nil = refl

unmarked_plain_of : (es : List Entry) → unmarked (plain es) ≡ plain es
unmarked_plain_of [] = ap unmarked plain_nil ∙ unmarked_nil ∙ sym plain_nil
unmarked_plain_of (e ∷ es) =
    elim (cases_Bool e.marked) [
      | inl here ↦ rw (plain_yes e es here) (unmarked_plain_of es)
      | inr other ↦ rw (plain_no e es other, unmarked_cons, unmarked_plain_of es, bare_plain e other) refl
    ]

pub cleared : (old now : List Note) (rows : List Row) (next : Option ℕ) (j : ℕ) → AreTrailing (entries_in old rows)
    → Clearing old now rows next j → j ≡ length (marks (entries_in old rows)) → entries_in now rows
    ≡ unmarked (entries_in old rows)
cleared old now rows next j t c over =
    c.is
    ∙ ap₂ (λ (f g : List Entry). plain (entries_in old rows) ++ (unmarked f ++ g))
    (ap (λ (k : ℕ). take k (marks (entries_in old rows))) over
    ∙ take_all (length (marks (entries_in old rows))) (marks (entries_in old rows)) (omega arith))
    (ap (λ (k : ℕ). drop k (marks (entries_in old rows))) over ∙ drop_whole (marks (entries_in old rows)))
    ∙ ap (λ (es : List Entry). plain (entries_in old rows) ++ es) (append-nil (unmarked (marks (entries_in old rows))))
    ∙ ap (λ (es : List Entry). es ++ unmarked (marks (entries_in old rows)))
    (sym (unmarked_plain_of (entries_in old rows)))
    ∙ sym (unmarked-append (plain (entries_in old rows)) (marks (entries_in old rows)))
    ∙ ap unmarked (sym (trailing_split (entries_in old rows) t))
  where
    drop_whole : (es : List Entry) → drop (length es) es ≡ []
    drop_whole [] = refl
    drop_whole (e ∷ es) = drop_whole es

pub over_none : (old now : List Note) (rows : List Row) (next : Option ℕ) (j : ℕ) → Clearing old now rows next j → next
    ≡ None → j ≡ length (marks (entries_in old rows))
over_none old now rows next j c none = cut_none (marks (entries_in old rows)) j c.room (sym c.at ∙ none)

marks_none : marks [] ≡ []
unfolding marks
marks_none = refl

pub length_marks : (es : List Entry) → length (marks es) ≤ length es
length_marks [] = omega (arith, ap (λ (ms : List Entry). length ms) marks_none)
length_marks (e ∷ es) =
    elim (cases_Bool e.marked) [
      | inl here ↦ rw (marks_yes e es here) (omega (arith, length_marks es))
      | inr other ↦ rw (marks_no e es other) (omega (arith, length_marks es))
    ]

length_entries : (notes : List Note) (rows : List Row) → length (entries_in notes rows) ≡ length rows
unfolding entries_in
length_entries notes [] = refl
length_entries notes (r ∷ rs) = ap suc (length_entries notes rs)

pub over_all : (old now : List Note) (rows : List Row) (next : Option ℕ) (j : ℕ) → Clearing old now rows next j
    → length rows ≤ j → j ≡ length (marks (entries_in old rows))
over_all old now rows next j c h = omega (arith, c.room, length_marks (entries_in old rows), length_entries old rows, h)

-- a step
record StepRow (now : List Note) (rows : List Row) (i : ℕ) (front : List Entry) (e : Entry) (rest : List Entry) : Type 0
  where
    rs : List Row
    r : Row
    ss : List Row
    is : rows ≡ rs ++ r ∷ ss
    slot : r.slot ≡ i
    front_is : front ≡ entries_in now rs
    entry_is : e ≡ entry_of now r
    rest_is : rest ≡ entries_in now ss

step_row : (now : List Note) (rows : List Row) (i : ℕ) (front : List Entry) (e : Entry) (rest : List Entry)
    → entries_in now rows ≡ front ++ e ∷ rest → e.at.slot ≡ i → StepRow now rows i front e rest
step_row now rows i front e rest h at =
    let k = cut_entries now rows front e rest h in
    record {
      rs = k.front;
      r = k.row;
      ss = k.back;
      is = k.is;
      slot = ap (λ (q : Place). q.slot)
          (sym (entry_at now k.row) ∙ ap (λ (d : Entry). d.at) (sym k.e_is))
          ∙ at;
      front_is = k.xs_is;
      entry_is = k.e_is;
      rest_is = k.ys_is;
    }

bare_note : (now : List Note) (r : Row) (i : ℕ) → r.slot ≡ i
    → record {
      at = record { slot = i };
      tuple = r.cells;
      supports = (without_mark (note_at now i)).supports;
      marked =
          (without_mark (note_at now i)).marked;
    } ≡ bare (entry_of now r)
unfolding bare entry_of
bare_note now r i h = ap
    (λ (k : ℕ). record {
      at = record { slot = k };
      tuple = r.cells;
      supports = (note_at now k).supports;
      marked = false;
    }) (sym h)

head_same : (now : List Note) (i k : ℕ) → i < length now
    → (note_at (slice_set now i (without_mark (note_at now i))) k).head ≡ (note_at now k).head
head_same now i k within = elim (cases_eq k i) [
  | inl here ↦ rw here (ap (λ (m : Note). m.head)
      (get_or-set_same now i (without_mark (note_at now i)) (record { supports = 0; head = 0; marked = false }) within))
  | inr other ↦ ap (λ (m : Note). m.head)
      (get_or-set_other now i k (without_mark (note_at now i)) (record { supports = 0; head = 0; marked = false })
      other)
]

middle : (ps us : List Entry) (e : Entry) (rest : List Entry) → (ps ++ us) ++ e ∷ rest ≡ ps ++ ((us ++ e ∷ []) ++ rest)
middle ps us e rest = append_assoc ps us (e ∷ rest)
    ∙ ap (λ (es : List Entry). ps ++ es) (sym (append_assoc us (e ∷ []) rest))

module _ (old now : List Note) (rows : SlotRows) (i j : ℕ) (law : AreRows rows) (fits : rows.room ≤ length old)
    (c : Clearing old now rows.rows (Some i) j) where
  ms : List Entry
  ms = marks (entries_in old rows.rows)

  ps : List Entry
  ps = plain (entries_in old rows.rows)

  here : EntryCut ms j i
  unfolding ms
  here = cut_at_slot (marks (entries_in old rows.rows)) j i (sym c.at)

  now_is : entries_in now rows.rows ≡ (ps ++ unmarked (take j ms)) ++ here.entry ∷ drop (j + 1) ms
  unfolding ms ps
  now_is = c.is ∙ ap (λ (es : List Entry). plain (entries_in old rows.rows) ++
      (unmarked (take j (marks (entries_in old rows.rows))) ++ es)) here.drops
      ∙ sym (append_assoc (plain (entries_in old rows.rows)) (unmarked (take j (marks (entries_in old rows.rows))))
      (here.entry ∷ drop (j + 1) (marks (entries_in old rows.rows))))

  row : StepRow now rows.rows i (ps ++ unmarked (take j ms)) here.entry (drop (j + 1) ms)
  row = step_row now rows.rows i (ps ++ unmarked (take j ms)) here.entry (drop (j + 1) ms) now_is here.slot

  pub step_held : IsRowHeld rows.rows i
  step_held = record {
    cells = row.r.cells;
    row = record {
      front = row.rs;
      back = row.ss;
      is = row.is
          ∙ ap (λ (k : ℕ). row.rs ++ record { slot = k; cells = row.r.cells } ∷ row.ss) row.slot;
    };
  }

  pub step_within : i < length now
  step_within = omega (arith, row_below rows.room rows.rows i step_held.cells law.below step_held.row, fits, c.long)

  pub cleared_more : (new : List Note) (next : Option ℕ) → new ≡ slice_set now i (without_mark (note_at now i))
      → ((rs : List Row) (r : Row) (ss : List Row) → rows.rows ≡ rs ++ r ∷ ss → r.slot ≡ i → next ≡ first_of (slots ss))
      → Clearing old new rows.rows next (j + 1)
  unfolding ms ps
  cleared_more new next is follows = record {
    is = ap (λ (ns : List Note). entries_in ns rows.rows) is
        ∙ ap (entries_in (slice_set now i (without_mark (note_at now i)))) row.is
        ∙ entries_set now i (without_mark (note_at now i)) row.rs row.r row.ss row.slot step_within
        (subst (λ rs. AreDistinctSlots (slots rs)) row.is law.different)
        ∙ ap₂ (λ (f g : List Entry). f ++ record {
          at = record { slot = i };
          tuple = row.r.cells;
          supports = (without_mark (note_at now i)).supports;
          marked
              = (without_mark (note_at now i)).marked;
        } ∷ g) (sym row.front_is) (sym row.rest_is)
        ∙ ap (λ (e : Entry). (ps ++ unmarked (take j ms)) ++ e ∷ drop (j + 1) ms)
        (bare_note now row.r i row.slot ∙ ap bare (sym row.entry_is))
        ∙ middle (plain (entries_in old rows.rows)) (unmarked (take j (marks (entries_in old rows.rows))))
        (bare here.entry) (drop (j + 1) (marks (entries_in old rows.rows)))
        ∙ ap (λ (us : List Entry). plain (entries_in old rows.rows) ++
        (us ++ drop (j + 1) (marks (entries_in old rows.rows)))) (sym more);
    at = follows row.rs row.r row.ss row.is row.slot
        ∙ ap first_of (sym (slots_are now row.ss) ∙ ap slots_at (sym row.rest_is));
    heads = λ k. ap (λ (ns : List Note). (note_at ns k).head) is ∙ head_same now i k step_within ∙ c.heads k;
    long = ap (λ (ns : List Note). length ns) is ∙ length-set now i (without_mark (note_at now i)) ∙ c.long;
    room = omega (arith, here.within);
  }
    where
      more : unmarked (take (j + 1) (marks (entries_in old rows.rows)))
          ≡ unmarked (take j (marks (entries_in old rows.rows))) ++ bare here.entry ∷ []
      more = ap unmarked here.takes ∙ unmarked-append (take j (marks (entries_in old rows.rows))) (here.entry ∷ [])
          ∙ ap (λ (es : List Entry). unmarked (take j (marks (entries_in old rows.rows))) ++ es)
          (unmarked_cons here.entry [] ∙ ap (λ (es : List Entry). bare here.entry ∷ es) unmarked_nil)

-- without marks
trailing_unmarked : (es : List Entry) → AreTrailing (unmarked es)
unfolding unmarked AreTrailing bare
trailing_unmarked [] = tt
trailing_unmarked (e ∷ es) = ((λ h. absurd (false≢true h)), trailing_unmarked es)

notes_alike : (a b : Raw) → b.rows ≡ a.rows → AreAlike (entries_of a) (entries_of b)
notes_alike a b rows = subst (λ rs. AreAlike (entries_of a) (entries_in b.notes.items rs.rows)) (sym rows)
    (alike_notes a.notes.items b.notes.items a.rows.rows)

pub cleared_bare : (a b : Raw) → HoldsTuples a → b.kind ≡ a.kind → b.key.items ≡ a.key.items → b.rows ≡ a.rows
    → length b.notes.items ≡ length a.notes.items → b.marked ≡ None → entries_of b ≡ unmarked (entries_of a)
    → HoldsTuples b
cleared_bare a b raw kind key rows long marked is = record {
  rows = rw rows raw.rows;
  columns = rw (key, rows) raw.columns;
  kind = kind_kept a.kind b.kind a.rows.width b.rows.width a.key.items b.key.items kind
      (ap (λ (rs : SlotRows). rs.width) rows) key raw.kind;
  notes = rw (rows, long) raw.notes;
  apart = alike_apart (entries_of a) (entries_of b) (notes_alike a b rows) raw.apart;
  trailing = subst AreTrailing (sym is) (trailing_unmarked (entries_of a));
  marked = marked ∙ sym
      (ap (λ (es : List Entry). first_of (slots_at (marks es))) is
      ∙ ap (λ (ms : List Entry). first_of (slots_at ms)) (unmarked_marks (entries_of a)) ∙ ap first_of slots_nil);
}

pub cleared_heads : (a b : Raw) → AreHeads a → b.key.items ≡ a.key.items → b.rows ≡ a.rows
    → ((k : ℕ) → (note_at b.notes.items k).head ≡ (note_at a.notes.items k).head)
    → b.links.items ≡ a.links.items → b.keys ≡ a.keys → b.ends.items ≡ a.ends.items → AreHeads b
cleared_heads a b hs key rows heads links keys ends = record {
  keys = rw keys hs.keys;
  key_width = rw (key, keys) hs.key_width;
  links = rw (rows, links) hs.links;
  ends = rw (keys, ends) hs.ends;
  groups = groups_alike b.key.items b.notes.items b.links.items b.keys.rows b.ends.items (entries_of a) (entries_of b)
      (notes_alike a b rows)
      (rw (key, links, keys, ends)
      (groups_like a.key.items a.notes.items b.notes.items a.links.items a.links.items a.keys.rows a.ends.items
      a.ends.items (entries_of a) hs.groups heads (λ k. refl) (λ k. refl)));
}

pub cleared_raw : (a b : Raw) → IsRaw a → b.kind ≡ a.kind → b.key.items ≡ a.key.items → b.rows ≡ a.rows
    → ((k : ℕ) → (note_at b.notes.items k).head ≡ (note_at a.notes.items k).head) → length b.notes.items
    ≡ length a.notes.items
    → b.links.items ≡ a.links.items → b.keys ≡ a.keys → b.ends.items ≡ a.ends.items → b.marked ≡ None → entries_of b
    ≡ unmarked (entries_of a) → IsRaw b
cleared_raw a b raw kind key rows heads long links keys ends marked is = record {
  bare = cleared_bare a b raw.bare kind key rows long marked is;
  heads = λ k. cleared_heads a b (raw.heads (sym kind ∙ k)) key rows heads links keys ends;
}
