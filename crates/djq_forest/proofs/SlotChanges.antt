-- How the entries of a knot change in their slots.
use Rattle.std.specs.Prelude.{◌≡◌, ◌≢◌, ◌⊎◌, ℕ, zero, suc, ◌+◌, ◌*◌, ◌-◌, ◌<◌, ◌≤◌, Bool, true, false, cond, ◌==◌}
use Rattle.std.specs.Prelude.{List, [], ◌∷◌, ◌++◌, map, take, drop, length, replicate, slice_index, slice_index_or}
use Rattle.std.specs.Prelude.{slice_set, Option, Some, None, is_some, not}
use Rattle.std.proofs.Common.{refl, sym, ◌∙◌, ap, ap₂, arith, rules, inl, inr, length-set, length-append, length-take, length-drop}
use Rattle.std.proofs.Common.{get_or-set_same, get_or-set_other}
use Rattle.std.proofs.lemmas.Bool.{cases_eq, cases_lt, cases_order, eq-eqb, ne_eqb}
use Rattle.std.proofs.lemmas.List.{places, same_lists, length-map, map-set, map-append, length-replicate, get_or-map}
use Rattle.std.proofs.lemmas.List.{get_or_append_left, get_or-append_right, get_or-replicate, get_or_past, get_or_push, set-get_or}
use Rattle.std.proofs.lemmas.List.{length_push}
use Rattle.djq_arena.specs.Store.{cells_at}
use Rattle.djq_arena.proofs.Slots.{row_fits}
use Rattle.djq_hypergraph.specs.Hypergraph.{numbers_below}
use Rattle.djq_forest.specs.declared.slots.Note.{Note}
use Rattle.djq_forest.specs.declared.slots.TheConstants.{OUT}
use Rattle.djq_forest.specs.SlotEntries.{SlotEntries, with_slots, with_entry, with_free, with_numbers}
use Rattle.djq_forest.specs.SlotEntries.{with_unmet, with_refs, marked_by}
use Rattle.djq_forest.specs.SlotEntries.{AreSlotEntries}
use Rattle.djq_forest.specs.Slots.{free_note, note_in, tuple_in, slot_tuples, missing_in, refs_in, marks_in, SlotsAreSound}

-- ---- what lies in each slot

number_length : (n : ℕ) → length (numbers_below n) ≡ n
number_length zero = refl
number_length (suc n) = omega (arith, number_length n, length_push (numbers_below n) n)

number_at : (n i d : ℕ) → i < n → slice_index_or (numbers_below n) i d ≡ i
number_at zero i d l = absurd (omega arith)
number_at (suc n) i d l =
    elim (cases_eq i n) [
      | inl last ↦ get_or_push (numbers_below n) n d i (number_length n ∙ sym last) ∙ sym last
      | inr other ↦ get_or_append_left (numbers_below n) (n ∷ []) d i (omega (arith, number_length n)) ∙ number_at n i d (omega arith)
    ]

pub length-tuples : (w : ℕ) (cells : List ℕ) (ns : List Note) → length (slot_tuples w cells ns) ≡ length ns
unfolding slot_tuples
length-tuples w cells ns = length-map (numbers_below (length ns)) (tuple_in w cells ns) ∙ number_length (length ns)

pub tuples_at : (w : ℕ) (cells : List ℕ) (ns : List Note) (x : ℕ) (d : Option (List ℕ)) → x < length ns
    → slice_index_or (slot_tuples w cells ns) x d ≡ tuple_in w cells ns x
unfolding slot_tuples
tuples_at w cells ns x d l =
    get_or-map (tuple_in w cells ns) (numbers_below (length ns)) x 0 d (omega (arith, l, number_length (length ns)))
    ∙ ap (tuple_in w cells ns) (number_at (length ns) x 0 l)

abbrev pub value : ℕ → List ℕ → List Note → SlotEntries
value w cells ns = record { width = w; tuples = slot_tuples w cells ns; missing = missing_in ns; refs = refs_in ns; marks = marks_in ns }

pub record Taken (w : ℕ) (cells : List ℕ) (ns : List Note) (x : ℕ) : Type 0 where
  pub within : x < length ns
  pub some : (note_in ns x).missing ≢ OUT
  pub is : slice_index_or (slot_tuples w cells ns) x None ≡ Some (cells_at w cells x)

tuple_case : (w : ℕ) (cells : List ℕ) (ns : List Note) (x : ℕ)
    → ((note_in ns x).missing ≡ OUT) ⊎ ((note_in ns x).missing ≢ OUT)
tuple_case w cells ns x = cases_eq (note_in ns x).missing OUT

pub tuple_none : (w : ℕ) (cells : List ℕ) (ns : List Note) (x : ℕ) → (note_in ns x).missing ≡ OUT → tuple_in w cells ns x ≡ None
unfolding tuple_in
tuple_none w cells ns x h = rw (eq-eqb (note_in ns x).missing OUT h) refl

pub tuple_some : (w : ℕ) (cells : List ℕ) (ns : List Note) (x : ℕ) → (note_in ns x).missing ≢ OUT
    → tuple_in w cells ns x ≡ Some (cells_at w cells x)
unfolding tuple_in
tuple_some w cells ns x h = rw (ne_eqb (note_in ns x).missing OUT h) refl

none_not : (o : Option (List ℕ)) → o ≡ None → is_some o ≡ true → ⊥
none_not None h k = cc
none_not (Some u) h k = cc

pub taken : (w : ℕ) (cells : List ℕ) (ns : List Note) (x : ℕ) → is_some (slice_index_or (slot_tuples w cells ns) x None) ≡ true
    → Taken w cells ns x
taken w cells ns x h =
    elim (cases_lt x (length ns)) [
      | inl l ↦
          elim (tuple_case w cells ns x) [
            | inl out ↦ absurd (none_not _ (tuples_at w cells ns x None l ∙ tuple_none w cells ns x out) h)
            | inr here ↦ record { within = l; some = here; is = tuples_at w cells ns x None l ∙ tuple_some w cells ns x here }
          ]
      | inr past ↦ absurd (none_not _ (get_or_past (slot_tuples w cells ns) x None (omega (arith, past, length-tuples w cells ns))) h)
    ]

told_some : (b : Bool) (u : List ℕ) → not b ≡ is_some (cond b None (Some u))
told_some true u = refl
told_some false u = refl

pub has_is : (w : ℕ) (cells : List ℕ) (ns : List Note) (x : ℕ) → x < length ns
    → not ((note_in ns x).missing == OUT) ≡ is_some (slice_index_or (slot_tuples w cells ns) x None)
unfolding tuple_in
has_is w cells ns x l = told_some ((note_in ns x).missing == OUT) (cells_at w cells x)
    ∙ ap (λ (o : Option (List ℕ)). is_some o) (sym (tuples_at w cells ns x None l))

-- ---- cells that are written over those of a slot

pub length_written : (cells : List ℕ) (from : ℕ) (u : List ℕ) → from + length u ≤ length cells
    → length (take from cells ++ u ++ drop (from + length u) cells) ≡ length cells
length_written cells from u h = simp (length-append, length-take, length-drop) (omega (arith, h))

part_before : (cells : List ℕ) (from : ℕ) (u : List ℕ) (j w : ℕ) → from + length u ≤ length cells → j + w ≤ from
    → take w (drop j (take from cells ++ u ++ drop (from + length u) cells)) ≡ take w (drop j cells)
part_before cells from u j w h k = same_lists _ _ (search (rules, places)) (λ i d l. grind (arith, places))

part_after : (cells : List ℕ) (from : ℕ) (u : List ℕ) (j w : ℕ) → from + length u ≤ length cells → from + length u ≤ j
    → take w (drop j (take from cells ++ u ++ drop (from + length u) cells)) ≡ take w (drop j cells)
part_after cells from u j w h k = same_lists _ _ (search (rules, places)) (λ i d l. grind (arith, places))

part_here : (cells : List ℕ) (from : ℕ) (u : List ℕ) (w : ℕ) → from + length u ≤ length cells → length u ≡ w
    → take w (drop from (take from cells ++ u ++ drop (from + length u) cells)) ≡ u
part_here cells from u w h k = same_lists _ _ (search (rules, places)) (λ i d l. grind (arith, places))

part_more : (cells rs : List ℕ) (j w : ℕ) → j + w ≤ length cells → take w (drop j (cells ++ rs)) ≡ take w (drop j cells)
part_more cells rs j w h = same_lists _ _ (search (rules, places)) (λ i d l. grind (arith, places))

-- ---- tuples, as slots and cells change

same_tuples : (w : ℕ) (cells more : List ℕ) (ns ms : List Note) (ts : List (Option (List ℕ))) → length ms ≡ length ts
    → ((x : ℕ) (d : Option (List ℕ)) → x < length ms → tuple_in w more ms x ≡ slice_index_or ts x d)
    → slot_tuples w more ms ≡ ts
same_tuples w cells more ns ms ts long h =
    same_lists (slot_tuples w more ms) ts (length-tuples w more ms ∙ long)
    (λ x d l. let within : x < length ms = omega (arith, l, length-tuples w more ms) in
    tuples_at w more ms x d within ∙ h x d within)

tuple_kept : (w : ℕ) (cells more : List ℕ) (ns ms : List Note) (x : ℕ) → note_in ms x ≡ note_in ns x
    → cells_at w more x ≡ cells_at w cells x → tuple_in w more ms x ≡ tuple_in w cells ns x
unfolding tuple_in
tuple_kept w cells more ns ms x h k = ap₂ (λ (n : Note) (u : List ℕ). cond (n.missing == OUT) None (Some u)) h k

-- the note of slot x is another one, and the cells of the other slots stay
set_tuples : (w : ℕ) (cells more : List ℕ) (ns : List Note) (x : ℕ) (n : Note) (t : Option (List ℕ)) → x < length ns
    → ((y : ℕ) → y < length ns → y ≢ x → cells_at w more y ≡ cells_at w cells y)
    → tuple_in w more (slice_set ns x n) x ≡ t → slot_tuples w more (slice_set ns x n) ≡ slice_set (slot_tuples w cells ns) x t
set_tuples w cells more ns x n t within other here =
    same_tuples w cells more ns (slice_set ns x n) (slice_set (slot_tuples w cells ns) x t)
    (length-set ns x n ∙ sym (length-tuples w cells ns) ∙ sym (length-set (slot_tuples w cells ns) x t))
    (λ y d l. let inside : y < length ns = omega (arith, l, length-set ns x n) in
    elim (cases_eq y x) [
      | inl at ↦ ap (λ (i : ℕ). tuple_in w more (slice_set ns x n) i) at ∙ here
          ∙ sym (ap (λ (i : ℕ). slice_index_or (slice_set (slot_tuples w cells ns) x t) i d) at
          ∙ get_or-set_same (slot_tuples w cells ns) x t d (omega (arith, within, length-tuples w cells ns)))
      | inr away ↦
          tuple_kept w cells more ns (slice_set ns x n) y (get_or-set_other ns x y n free_note away) (other y inside away)
          ∙ sym (tuples_at w cells ns y d inside) ∙ sym (get_or-set_other (slot_tuples w cells ns) x y t d away)
    ])

at_some : (w : ℕ) (more : List ℕ) (ns : List Note) (x : ℕ) (n : Note) (u : List ℕ) → x < length ns → n.missing ≢ OUT
    → cells_at w more x ≡ u → tuple_in w more (slice_set ns x n) x ≡ Some u
at_some w more ns x n u within some is =
    let at = get_or-set_same ns x n free_note within in
    tuple_some w more (slice_set ns x n) x (λ h. some (ap (λ (m : Note). m.missing) (sym at) ∙ h))
    ∙ ap (λ (v : List ℕ). Some v) is

at_none : (w : ℕ) (more : List ℕ) (ns : List Note) (x : ℕ) (n : Note) → x < length ns → n.missing ≡ OUT
    → tuple_in w more (slice_set ns x n) x ≡ None
at_none w more ns x n within none =
    tuple_none w more (slice_set ns x n) x (ap (λ (m : Note). m.missing) (get_or-set_same ns x n free_note within) ∙ none)

-- an entry's cells are written
row_kept : (w : ℕ) (cells : List ℕ) (x : ℕ) (u : List ℕ) (n y : ℕ) → n * w ≤ length cells → length u ≡ w → x < n → y < n
    → y ≢ x → cells_at w (take (x * w) cells ++ u ++ drop (x * w + length u) cells) y ≡ cells_at w cells y
unfolding cells_at
row_kept w cells x u n y long wide within inside other =
    let fits : x * w + length u ≤ length cells = omega (arith, row_fits x n w within, long, wide) in
    elim (cases_order y x) [
      | inl same ↦ absurd (other same)
      | inr (inl before) ↦ part_before cells (x * w) u (y * w) w fits (row_fits y x w before)
      | inr (inr after) ↦ part_after cells (x * w) u (y * w) w fits (omega (arith, row_fits x y w after, wide))
    ]

row_here : (w : ℕ) (cells : List ℕ) (x : ℕ) (u : List ℕ) (n : ℕ) → n * w ≤ length cells → length u ≡ w → x < n
    → cells_at w (take (x * w) cells ++ u ++ drop (x * w + length u) cells) x ≡ u
unfolding cells_at
row_here w cells x u n long wide within = part_here cells (x * w) u w
    (omega (arith, row_fits x n w within, long, wide)) wide

pub entry_fits : (w : ℕ) (cells : List ℕ) (ns : List Note) (x m : ℕ) → SlotsAreSound w cells ns → x < length ns → m ≡ w
    → x * w + m ≤ length cells
entry_fits w cells ns x m s within wide = omega (arith, row_fits x (length ns) w within, s.long, wide)

missing_set : (ns : List Note) (x : ℕ) (n : Note) → missing_in (slice_set ns x n) ≡ slice_set (missing_in ns) x n.missing
unfolding missing_in
missing_set ns x n = map-set (λ (n : Note). n.missing) ns x n

refs_set : (ns : List Note) (x : ℕ) (n : Note) → refs_in (slice_set ns x n) ≡ slice_set (refs_in ns) x n.refs
unfolding refs_in
refs_set ns x n = map-set (λ (n : Note). n.refs) ns x n

marks_set : (ns : List Note) (x : ℕ) (n : Note) → marks_in (slice_set ns x n) ≡ slice_set (marks_in ns) x n.mark
unfolding marks_in
marks_set ns x n = map-set (λ (n : Note). n.mark) ns x n

abbrev entries : ℕ → List (Option (List ℕ)) → List ℕ → List ℕ → List ℕ → SlotEntries
entries w ts ms rs ks = record { width = w; tuples = ts; missing = ms; refs = rs; marks = ks }

-- what is seen where a slot has another note
set_seen : (w : ℕ) (more : List ℕ) (ns : List Note) (x : ℕ) (n : Note) (ts : List (Option (List ℕ)))
    → slot_tuples w more (slice_set ns x n) ≡ ts → value w more (slice_set ns x n)
    ≡ entries w ts (slice_set (missing_in ns) x n.missing) (slice_set (refs_in ns) x n.refs) (slice_set (marks_in ns) x n.mark)
set_seen w more ns x n ts h = rw (h, missing_set ns x n, refs_set ns x n, marks_set ns x n) refl

pub put_seen : (w : ℕ) (cells more : List ℕ) (ns ms : List Note) (x : ℕ) (u : List ℕ) (missing : ℕ)
    → SlotsAreSound w cells ns → x < length ns → length u ≡ w → missing ≢ OUT
    → more ≡ take (x * w) cells ++ u ++ drop (x * w + length u) cells
    → ms ≡ slice_set ns x (record { missing = missing; refs = 0; mark = 0 })
    → value w more ms ≡ with_entry (value w cells ns) x u missing
put_seen w cells more ns ms x u missing s within wide some is note = rw (is, note)
    (set_seen w (take (x * w) cells ++ u ++ drop (x * w + length u) cells) ns x (record { missing = missing; refs = 0; mark = 0 })
    (slice_set (slot_tuples w cells ns) x (Some u))
    (set_tuples w cells (take (x * w) cells ++ u ++ drop (x * w + length u) cells) ns x (record { missing = missing; refs = 0; mark = 0 })
    (Some u) within (λ y l other. row_kept w cells x u (length ns) y s.long wide within l other)
    (at_some w (take (x * w) cells ++ u ++ drop (x * w + length u) cells) ns x (record { missing = missing; refs = 0; mark = 0 }) u within
    some (row_here w cells x u (length ns) s.long wide within))))

pub put_sound : (w : ℕ) (cells more : List ℕ) (ns ms : List Note) (x : ℕ) (u : List ℕ) (n : Note)
    → SlotsAreSound w cells ns → x < length ns → length u ≡ w
    → more ≡ take (x * w) cells ++ u ++ drop (x * w + length u) cells → ms ≡ slice_set ns x n → SlotsAreSound w more ms
put_sound w cells more ns ms x u n s within wide is note =
    let same = length_written cells (x * w) u (entry_fits w cells ns x (length u) s within wide) in
    rw (is, note) (record { long = rw (length-set, same) s.long; few = rw length-set s.few })

pub note_sound : (w : ℕ) (cells : List ℕ) (ns ms : List Note) (x : ℕ) (n : Note) → SlotsAreSound w cells ns
    → ms ≡ slice_set ns x n → SlotsAreSound w cells ms
note_sound w cells ns ms x n s note = rw note (record { long = rw length-set s.long; few = rw length-set s.few })

pub free_seen : (w : ℕ) (cells : List ℕ) (ns ms : List Note) (x : ℕ) → x < length ns → ms ≡ slice_set ns x free_note
    → value w cells ms ≡ with_free (value w cells ns) x
free_seen w cells ns ms x within note = rw note
    (set_seen w cells ns x free_note (slice_set (slot_tuples w cells ns) x None)
    (set_tuples w cells cells ns x free_note None within (λ y l other. refl) (at_none w cells ns x free_note within refl)))

pub numbers_seen : (w : ℕ) (cells : List ℕ) (ns ms : List Note) (x : ℕ) (n : Note) → Taken w cells ns x → n.missing ≢ OUT
    → ms ≡ slice_set ns x n → value w cells ms ≡ with_numbers (value w cells ns) x n.missing n.refs n.mark
numbers_seen w cells ns ms x n t some note = rw note
    (set_seen w cells ns x n (slot_tuples w cells ns)
    (set_tuples w cells cells ns x n (Some (cells_at w cells x)) t.within (λ y l other. refl)
    (at_some w cells ns x n (cells_at w cells x) t.within some refl)
    ∙ ap (λ (o : Option (List ℕ)). slice_set (slot_tuples w cells ns) x o) (sym t.is)
    ∙ set-get_or (slot_tuples w cells ns) x None))

-- ---- more slots

kept_more : (w : ℕ) (cells rs : List ℕ) (n y : ℕ) → n * w ≤ length cells → y < n
    → cells_at w (cells ++ rs) y ≡ cells_at w cells y
unfolding cells_at
kept_more w cells rs n y long l = part_more cells rs (y * w) w (omega (arith, row_fits y n w l, long))

more_tuples : (w : ℕ) (cells rs : List ℕ) (ns : List Note) (m : ℕ) → length ns * w ≤ length cells
    → slot_tuples w (cells ++ rs) (ns ++ replicate m free_note) ≡ slot_tuples w cells ns ++ replicate m None
more_tuples w cells rs ns m long =
    same_tuples w cells (cells ++ rs) ns (ns ++ replicate m free_note) (slot_tuples w cells ns ++ replicate m None)
    (length-append ns (replicate m free_note) ∙ ap₂ (λ (a b : ℕ). a + b) (sym (length-tuples w cells ns))
    (length-replicate m free_note ∙ sym (length-replicate m no_tuple))
    ∙ sym (length-append (slot_tuples w cells ns) (replicate m None)))
    (λ y d l. elim (cases_lt y (length ns)) [
      | inl old ↦
          tuple_kept w cells (cells ++ rs) ns (ns ++ replicate m free_note) y
          (get_or_append_left ns (replicate m free_note) free_note y old) (kept_more w cells rs (length ns) y long old)
          ∙ sym (tuples_at w cells ns y d old)
          ∙ sym (get_or_append_left (slot_tuples w cells ns) (replicate m None) d y (omega (arith, old, length-tuples w cells ns)))
      | inr new ↦
          let fresh : y - length ns < m = omega (arith, l, new, length-append ns (replicate m free_note), length-replicate m free_note) in
          tuple_none w (cells ++ rs) (ns ++ replicate m free_note) y
          (ap (λ (n : Note). n.missing) (get_or-append_right ns (replicate m free_note) (length ns) y free_note refl new
          ∙ get_or-replicate m (y - length ns) free_note free_note fresh))
          ∙ sym (get_or-append_right (slot_tuples w cells ns) (replicate m None) (length ns) y d (length-tuples w cells ns) new
          ∙ get_or-replicate m (y - length ns) no_tuple d fresh)
    ])
  where
    no_tuple : Option (List ℕ)
    no_tuple = None

map_free : {B : Type 0} (h : Note → B) (m : ℕ) → map h (replicate m free_note) ≡ replicate m (h free_note)
map_free h zero = refl
map_free h (suc m) = ap (λ (bs : List _). h free_note ∷ bs) (map_free h m)

missing_more : (ns : List Note) (m : ℕ) → missing_in (ns ++ replicate m free_note) ≡ missing_in ns ++ replicate m OUT
unfolding missing_in
missing_more ns m = map-append (λ (n : Note). n.missing) ns (replicate m free_note)
    ∙ ap (λ (ms : List ℕ). map (λ (n : Note). n.missing) ns ++ ms) (map_free (λ (n : Note). n.missing) m)

refs_more : (ns : List Note) (m : ℕ) → refs_in (ns ++ replicate m free_note) ≡ refs_in ns ++ replicate m 0
unfolding refs_in
refs_more ns m = map-append (λ (n : Note). n.refs) ns (replicate m free_note)
    ∙ ap (λ (ms : List ℕ). map (λ (n : Note). n.refs) ns ++ ms) (map_free (λ (n : Note). n.refs) m)

marks_more : (ns : List Note) (m : ℕ) → marks_in (ns ++ replicate m free_note) ≡ marks_in ns ++ replicate m 0
unfolding marks_in
marks_more ns m = map-append (λ (n : Note). n.mark) ns (replicate m free_note)
    ∙ ap (λ (ms : List ℕ). map (λ (n : Note). n.mark) ns ++ ms) (map_free (λ (n : Note). n.mark) m)

pub more_seen : (w : ℕ) (cells rs more : List ℕ) (ns ms : List Note) (n : ℕ) → SlotsAreSound w cells ns
    → more ≡ cells ++ rs → ms ≡ ns ++ replicate (n - length ns) free_note
    → value w more ms ≡ with_slots (value w cells ns) n
more_seen w cells rs more ns ms n s is note = rw (
  is,
  note,
  length-tuples w cells ns,
  more_tuples w cells rs ns (n - length ns) s.long,
  missing_more ns (n - length ns),
  refs_more ns (n - length ns),
  marks_more ns (n - length ns),
) refl

pub more_cells_seen : (w : ℕ) (cells rs more : List ℕ) (ns : List Note) → SlotsAreSound w cells ns → more ≡ cells ++ rs
    → value w more ns ≡ value w cells ns
more_cells_seen w cells rs more ns s is = rw is
    (ap (λ (ts : List (Option (List ℕ))). entries w ts (missing_in ns) (refs_in ns) (marks_in ns))
    (same_tuples w cells (cells ++ rs) ns ns (slot_tuples w cells ns) (sym (length-tuples w cells ns))
    (λ y d l. tuple_kept w cells (cells ++ rs) ns ns y refl (kept_more w cells rs (length ns) y s.long l)
    ∙ sym (tuples_at w cells ns y d l))))

-- ---- what holds of all slots

wide_at : (w : ℕ) (cells : List ℕ) (n x : ℕ) → n * w ≤ length cells → x < n → length (cells_at w cells x) ≡ w
unfolding cells_at
wide_at w cells n x long l = simp (length-take, length-drop) (omega (arith, row_fits x n w l, long))

pub laws : (w : ℕ) (cells : List ℕ) (ns : List Note) → SlotsAreSound w cells ns → AreSlotEntries (value w cells ns)
unfolding missing_in refs_in marks_in
laws w cells ns s = record {
  missing = length-map ns (λ (n : Note). n.missing) ∙ sym (length-tuples w cells ns);
  refs = length-map ns (λ (n : Note). n.refs) ∙ sym (length-tuples w cells ns);
  marks = length-map ns (λ (n : Note). n.mark) ∙ sym (length-tuples w cells ns);
  wide = λ x u h.
      let t = taken w cells ns x (ap (λ (o : Option (List ℕ)). is_some o) h) in
      let same : cells_at w cells x ≡ u = let k = sym t.is ∙ h in cc in
      ap (λ (v : List ℕ). length v) (sym same) ∙ wide_at w cells (length ns) x s.long t.within;
  few = omega (arith, s.few, length-tuples w cells ns);
}

-- ---- no slots

pub none_sound : (w : ℕ) → SlotsAreSound w [] []
none_sound w = record { long = omega arith; few = omega arith }

pub none_seen : (w : ℕ) → value w [] [] ≡ record { width = w; tuples = []; missing = []; refs = []; marks = [] }
unfolding slot_tuples missing_in refs_in marks_in
none_seen w = refl

-- ---- what is read

pub note_missing : (ns : List Note) (x : ℕ) (n : Note) → x < length ns → n ≡ note_in ns x → n.missing ≡ slice_index (missing_in ns) x
unfolding missing_in
note_missing ns x n l is = ap (λ (n : Note). n.missing) is ∙ sym (get_or-map (λ (n : Note). n.missing) ns x free_note 0 l)

pub note_refs : (ns : List Note) (x : ℕ) (n : Note) → x < length ns → n ≡ note_in ns x → n.refs ≡ slice_index (refs_in ns) x
unfolding refs_in
note_refs ns x n l is = ap (λ (n : Note). n.refs) is ∙ sym (get_or-map (λ (n : Note). n.refs) ns x free_note 0 l)

pub note_mark : (ns : List Note) (x : ℕ) (n : Note) → x < length ns → n ≡ note_in ns x → n.mark ≡ slice_index (marks_in ns) x
unfolding marks_in
note_mark ns x n l is = ap (λ (n : Note). n.mark) is ∙ sym (get_or-map (λ (n : Note). n.mark) ns x free_note 0 l)

-- ---- one of an entry's numbers is another one

same_missing : (ns : List Note) (x : ℕ) → x < length ns → slice_set (missing_in ns) x (note_in ns x).missing ≡ missing_in ns
same_missing ns x l = ap (λ (m : ℕ). slice_set (missing_in ns) x m) (note_missing ns x (note_in ns x) l refl)
    ∙ set-get_or (missing_in ns) x 0

same_refs : (ns : List Note) (x : ℕ) → x < length ns → slice_set (refs_in ns) x (note_in ns x).refs ≡ refs_in ns
same_refs ns x l = ap (λ (m : ℕ). slice_set (refs_in ns) x m) (note_refs ns x (note_in ns x) l refl) ∙ set-get_or (refs_in ns) x 0

same_marks : (ns : List Note) (x : ℕ) → x < length ns → slice_set (marks_in ns) x (note_in ns x).mark ≡ marks_in ns
same_marks ns x l = ap (λ (m : ℕ). slice_set (marks_in ns) x m) (note_mark ns x (note_in ns x) l refl) ∙ set-get_or (marks_in ns) x 0

-- the note that was read, and the one that is written
pub record Writes (w : ℕ) (cells : List ℕ) (ns ms : List Note) (x : ℕ) (old new : Note) : Type 0 where
  pub taken : Taken w cells ns x
  pub some : new.missing ≢ OUT
  pub read : old ≡ note_in ns x
  pub written : ms ≡ slice_set ns x new

pub unmet_seen : (w : ℕ) (cells : List ℕ) (ns ms : List Note) (x m : ℕ) (old new : Note) → Writes w cells ns ms x old new
    → new.missing ≡ m → new.refs ≡ old.refs → new.mark ≡ old.mark → value w cells ms ≡ with_unmet (value w cells ns) x m
unmet_seen w cells ns ms x m old new h is refs mark =
    numbers_seen w cells ns ms x new h.taken h.some h.written
    ∙ ap (λ (n : ℕ). entries w (slot_tuples w cells ns) (slice_set (missing_in ns) x n) (slice_set (refs_in ns) x new.refs)
    (slice_set (marks_in ns) x new.mark)) is
    ∙ ap₂ (λ (rs ks : List ℕ). entries w (slot_tuples w cells ns) (slice_set (missing_in ns) x m) rs ks)
    (ap (λ (n : ℕ). slice_set (refs_in ns) x n) (refs ∙ ap (λ (n : Note). n.refs) h.read) ∙ same_refs ns x h.taken.within)
    (ap (λ (n : ℕ). slice_set (marks_in ns) x n) (mark ∙ ap (λ (n : Note). n.mark) h.read) ∙ same_marks ns x h.taken.within)

pub refs_seen : (w : ℕ) (cells : List ℕ) (ns ms : List Note) (x m : ℕ) (old new : Note) → Writes w cells ns ms x old new
    → new.refs ≡ m → new.missing ≡ old.missing → new.mark ≡ old.mark → value w cells ms ≡ with_refs (value w cells ns) x m
refs_seen w cells ns ms x m old new h is missing mark =
    numbers_seen w cells ns ms x new h.taken h.some h.written
    ∙ ap (λ (n : ℕ). entries w (slot_tuples w cells ns) (slice_set (missing_in ns) x new.missing) (slice_set (refs_in ns) x n)
    (slice_set (marks_in ns) x new.mark)) is
    ∙ ap₂ (λ (ms ks : List ℕ). entries w (slot_tuples w cells ns) ms (slice_set (refs_in ns) x m) ks)
    (ap (λ (n : ℕ). slice_set (missing_in ns) x n) (missing ∙ ap (λ (n : Note). n.missing) h.read) ∙ same_missing ns x h.taken.within)
    (ap (λ (n : ℕ). slice_set (marks_in ns) x n) (mark ∙ ap (λ (n : Note). n.mark) h.read) ∙ same_marks ns x h.taken.within)

pub mark_seen : (w : ℕ) (cells : List ℕ) (ns ms : List Note) (x m : ℕ) (old new : Note) → Writes w cells ns ms x old new
    → new.mark ≡ m → new.missing ≡ old.missing → new.refs ≡ old.refs → value w cells ms ≡ marked_by (value w cells ns) x m
mark_seen w cells ns ms x m old new h is missing refs =
    numbers_seen w cells ns ms x new h.taken h.some h.written
    ∙ ap (λ (n : ℕ). entries w (slot_tuples w cells ns) (slice_set (missing_in ns) x new.missing) (slice_set (refs_in ns) x new.refs)
    (slice_set (marks_in ns) x n)) is
    ∙ ap₂ (λ (ms rs : List ℕ). entries w (slot_tuples w cells ns) ms rs (slice_set (marks_in ns) x m))
    (ap (λ (n : ℕ). slice_set (missing_in ns) x n) (missing ∙ ap (λ (n : Note). n.missing) h.read) ∙ same_missing ns x h.taken.within)
    (ap (λ (n : ℕ). slice_set (refs_in ns) x n) (refs ∙ ap (λ (n : Note). n.refs) h.read) ∙ same_refs ns x h.taken.within)

-- the number of unmet needs that was read isn't that of a free slot
pub read_some : (w : ℕ) (cells : List ℕ) (ns : List Note) (x : ℕ) (old : Note) → Taken w cells ns x → old ≡ note_in ns x
    → old.missing ≢ OUT
read_some w cells ns x old t is = λ h. t.some (ap (λ (n : Note). n.missing) (sym is) ∙ h)
