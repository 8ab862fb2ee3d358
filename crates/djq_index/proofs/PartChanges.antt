-- What a change of a table's parts leaves as it was.
use Rattle.std.proofs.Common.{◌≡◌, ℕ, ◌+◌, ◌<◌, List, [], ◌∷◌, ◌++◌, length, slice_set, Option, Some, None, refl, ap}
use Rattle.std.proofs.Common.{ap₂, subst, sym, ◌∙◌, Bool, true, false, cond, inl, inr, get_or-set_same}
use Rattle.std.proofs.Common.{get_or-set_other, eq-eqb}
use Rattle.std.proofs.lemmas.Bool.{cases_Bool, false≢true, cases_eq, ne_eqb}
use Rattle.djq_arena.specs.declared.chain.Pair.{Pair}
use Rattle.djq_arena.specs.declared.chain.Ends.{Ends}
use Rattle.djq_arena.specs.Rows.{Row, slots}
use Rattle.djq_arena.specs.Chains.{Linked, first_of, AreDistinctSlots, IsOut, Agree, Differs, pair_at}
use Rattle.djq_arena.specs.Store.{ends_of, beside}
use Rattle.djq_arena.proofs.Chains.{different_here, out_front, out_back, first_differs, linked_same}
use Rattle.djq_arena.proofs.Rows.{slots-append}
use Rattle.djq_index.specs.declared.place.Place.{Place}
use Rattle.djq_index.specs.declared.kind.Kind.{Kind}
use Rattle.djq_index.specs.declared.raw.Note.{Note}
use Rattle.djq_index.specs.Tuple.{same, pick, one_if}
use Rattle.djq_index.specs.Entries.{Entry, count_of, group_size, group_of, marks, plain}
use Rattle.djq_index.specs.Table.{TuplesDiffer, AreLast}
use Rattle.djq_index.specs.Raw.{note_at, entry_of, entries_in, slots_at, row_at, AreSeated, ends_at, AreGroups}
use Rattle.djq_index.specs.Raw.{AreAllMarked, AreTrailing, passed, IsKind}
use Rattle.djq_index.proofs.Groups.{marks_yes, marks_no, marks-append}
use Rattle.djq_index.proofs.Parts.{entries_in-append, entries_in_cons, entries_nil, slots_at_middle, slots_at_cons}
use Rattle.djq_index.proofs.Parts.{slots_nil, all_marks, all_plain}

-- notes and links that read alike
entry_like : (notes more : List Note) (r : Row) → note_at more r.slot ≡ note_at notes r.slot → entry_of more r
    ≡ entry_of notes r
unfolding entry_of
entry_like notes more r h = ap
    (λ (n : Note). record { at = record { slot = r.slot }; tuple = r.cells; supports = n.supports; marked = n.marked })
    h

pub entries_like : (notes more : List Note) (rows : List Row) → ((k : ℕ) → note_at more k ≡ note_at notes k)
    → entries_in more rows ≡ entries_in notes rows
unfolding entries_in
entries_like notes more [] h = refl
entries_like notes more (r ∷ rs) h = ap₂ (λ (e : Entry) (es : List Entry). e ∷ es) (entry_like notes more r (h r.slot))
    (entries_like notes more rs h)

seated_like : (key : List ℕ) (notes more : List Note) (keys : List Row) (es : List Entry)
    → ((k : ℕ) → (note_at more k).head ≡ (note_at notes k).head) → AreSeated key notes keys es
    → AreSeated key more keys es
unfolding AreSeated
seated_like key notes more keys [] h s = tt
seated_like key notes more keys (e ∷ es) h s =
    (ap (row_at keys) (h e.at.slot) ∙ s.0, seated_like key notes more keys es h s.1)

agree_all : (ls ms : List Pair) (xs : List ℕ) → ((k : ℕ) → pair_at ms k ≡ pair_at ls k) → Agree ls ms xs
unfolding Agree
agree_all ls ms [] h = tt
agree_all ls ms (x ∷ xs) h = (h x, agree_all ls ms xs h)

pub groups_like : (key : List ℕ) (notes more : List Note) (links new : List Pair) (keys : List Row)
    (ends known : List Ends) (es : List Entry)
    → AreGroups key notes links keys ends es → ((k : ℕ) → (note_at more k).head ≡ (note_at notes k).head)
    → ((k : ℕ) → pair_at new k ≡ pair_at links k) → ((k : ℕ) → ends_at known k ≡ ends_at ends k)
    → AreGroups key more new keys known es
groups_like key notes more links new keys ends known es g n l e = record {
  chained = λ w. linked_same links new None (slots_at (group_of key es w)) None
      (agree_all links new (slots_at (group_of key es w)) l) (g.chained w);
  headed = λ h w r. e h ∙ g.headed h w r;
  some = g.some;
  none = g.none;
  once = g.once;
  seated = seated_like key notes more keys es n g.seated;
}

-- a note that changes
note_same : (notes : List Note) (i : ℕ) (n : Note) → i < length notes → note_at (slice_set notes i n) i ≡ n
note_same notes i n h = get_or-set_same notes i n (record { supports = 0; head = 0; marked = false }) h

note_other : (notes : List Note) (i k : ℕ) (n : Note) → (k ≡ i → ⊥) → note_at (slice_set notes i n) k ≡ note_at notes k
note_other notes i k n h = get_or-set_other notes i k n (record { supports = 0; head = 0; marked = false }) h

out_more : (i x : ℕ) (xs : List ℕ) → (x ≡ i → ⊥) → IsOut i xs → IsOut i (x ∷ xs)
unfolding IsOut
out_more i x xs h k = (h, k)

out_cons : (i x : ℕ) (xs : List ℕ) → IsOut i (x ∷ xs) → (x ≡ i → ⊥) × IsOut i xs
unfolding IsOut
out_cons i x xs h = h

slots_first : (r : Row) (rs : List Row) → slots (r ∷ rs) ≡ r.slot ∷ slots rs
unfolding slots
slots_first r rs = refl

pub entries_out : (notes : List Note) (i : ℕ) (n : Note) (rows : List Row) → IsOut i (slots rows)
    → entries_in (slice_set notes i n) rows ≡ entries_in notes rows
entries_out notes i n [] h = entries_nil (slice_set notes i n) ∙ sym (entries_nil notes)
entries_out notes i n (r ∷ rs) h =
    let o = out_cons i r.slot (slots rs) (subst (IsOut i) (slots_first r rs) h) in
    entries_in_cons (slice_set notes i n) r rs
    ∙ ap₂ (λ (e : Entry) (es : List Entry). e ∷ es)
    (entry_like notes (slice_set notes i n) r (note_other notes i r.slot n o.0)) (entries_out notes i n rs o.1)
    ∙ sym (entries_in_cons notes r rs)

noted : (notes : List Note) (r : Row) (n : Note) → note_at notes r.slot ≡ n → entry_of notes r
    ≡ record { at = record { slot = r.slot }; tuple = r.cells; supports = n.supports; marked = n.marked }
unfolding entry_of
noted notes r n h = ap
    (λ (m : Note). record { at = record { slot = r.slot }; tuple = r.cells; supports = m.supports; marked = m.marked })
    h

pub slots_row : (rs : List Row) (r : Row) (ss : List Row) → slots (rs ++ r ∷ ss) ≡ slots rs ++ r.slot ∷ slots ss
slots_row rs r ss = slots-append rs (r ∷ ss) ∙ ap (λ (zs : List ℕ). slots rs ++ zs) (slots_first r ss)

pub rows_apart : (rs : List Row) (r : Row) (ss : List Row) (i : ℕ) → r.slot ≡ i
    → AreDistinctSlots (slots (rs ++ r ∷ ss))
    → IsOut i (slots rs) × IsOut i (slots ss)
rows_apart rs r ss i at d =
    let o = subst (λ j. IsOut j (slots rs ++ slots ss)) at
    (different_here (slots rs) r.slot (slots ss) (subst AreDistinctSlots (slots_row rs r ss) d)) in
    (out_front i (slots rs) (slots ss) o, out_back i (slots rs) (slots ss) o)

pub entries_set : (notes : List Note) (i : ℕ) (n : Note) (rs : List Row) (r : Row) (ss : List Row) → r.slot ≡ i
    → i < length notes → AreDistinctSlots (slots (rs ++ r ∷ ss))
    → entries_in (slice_set notes i n) (rs ++ r ∷ ss)
    ≡ entries_in notes rs ++ record
    { at = record { slot = i }; tuple = r.cells; supports = n.supports; marked = n.marked } ∷ entries_in notes ss
entries_set notes i n rs r ss at within d =
    let o = rows_apart rs r ss i at d in
    entries_in-append (slice_set notes i n) rs (r ∷ ss)
    ∙ ap₂ (λ (f g : List Entry). f ++ g) (entries_out notes i n rs o.0)
    (entries_in_cons (slice_set notes i n) r ss ∙ ap₂ (λ (e : Entry) (es : List Entry). e ∷ es)
    (noted (slice_set notes i n) r n (ap (note_at (slice_set notes i n)) at ∙ note_same notes i n within)
    ∙ ap (λ (j : ℕ). record { at = record { slot = j }; tuple = r.cells; supports = n.supports; marked = n.marked })
    at)
    (entries_out notes i n ss o.1))

head_kept : (notes : List Note) (i : ℕ) (n : Note) → n.head ≡ (note_at notes i).head → i < length notes → (k : ℕ)
    → (note_at (slice_set notes i n) k).head ≡ (note_at notes k).head
head_kept notes i n h within k = elim (cases_eq k i) [
  | inl here ↦ rw here (ap (λ (m : Note). m.head) (note_same notes i n within) ∙ h)
  | inr other ↦ ap (λ (m : Note). m.head) (note_other notes i k n other)
]

pub groups_noted : (key : List ℕ) (notes : List Note) (i : ℕ) (n : Note) (links : List Pair) (keys : List Row)
    (ends : List Ends) (es : List Entry)
    → n.head ≡ (note_at notes i).head → i < length notes → AreGroups key notes links keys ends es
    → AreGroups key (slice_set notes i n) links keys ends es
groups_noted key notes i n links keys ends es h within g =
    groups_like key notes (slice_set notes i n) links links keys ends ends es g (head_kept notes i n h within)
    (λ k. refl) (λ k. refl)

pub seated_out : (key : List ℕ) (notes : List Note) (i : ℕ) (n : Note) (keys : List Row) (es : List Entry)
    → IsOut i (slots_at es) → AreSeated key notes keys es → AreSeated key (slice_set notes i n) keys es
unfolding AreSeated
seated_out key notes i n keys [] o s = tt
seated_out key notes i n keys (e ∷ es) o s =
    let k = out_cons i e.at.slot (slots_at es) (subst (IsOut i) (slots_at_cons e es) o) in (
      ap (λ (m : Note). row_at keys m.head) (note_other notes i e.at.slot n k.0)
          ∙ s.0,
      seated_out key notes i n keys es k.1 s.1,
    )

pub seat_noted : (notes : List Note) (i : ℕ) (n : Note) → i < length notes → (note_at (slice_set notes i n) i).head
    ≡ n.head
seat_noted notes i n within = ap (λ (m : Note). m.head) (note_same notes i n within)

-- marks
all_first : (e : Entry) (es : List Entry) → AreAllMarked (e ∷ es) → (e.marked ≡ true) × AreAllMarked es
unfolding AreAllMarked
all_first e es h = h

all_push : (es : List Entry) (e : Entry) → AreAllMarked es → e.marked ≡ true → AreAllMarked (es ++ e ∷ [])
unfolding AreAllMarked
all_push [] e h m = (m, tt)
all_push (x ∷ es) e h m = (h.0, all_push es e h.1 m)

pub trailing_push : (es : List Entry) (e : Entry) → AreTrailing es → e.marked ≡ true → AreTrailing (es ++ e ∷ [])
unfolding AreTrailing AreAllMarked
trailing_push [] e h m = ((λ k. tt), tt)
trailing_push (x ∷ es) e h m = ((λ k. all_push es e (h.0 k) m), trailing_push es e h.1 m)

all_out : (xs : List Entry) (e : Entry) (ys : List Entry) → AreAllMarked (xs ++ e ∷ ys) → AreAllMarked (xs ++ ys)
unfolding AreAllMarked
all_out [] e ys h = h.1
all_out (x ∷ xs) e ys h = (h.0, all_out xs e ys h.1)

pub trailing_out : (xs : List Entry) (e : Entry) (ys : List Entry) → AreTrailing (xs ++ e ∷ ys) → AreTrailing (xs ++ ys)
unfolding AreTrailing
trailing_out [] e ys h = h.1
trailing_out (x ∷ xs) e ys h = ((λ k. all_out xs e ys (h.0 k)), trailing_out xs e ys h.1)

all_same : (xs : List Entry) (d e : Entry) (ys : List Entry) → e.marked ≡ d.marked → AreAllMarked (xs ++ d ∷ ys)
    → AreAllMarked (xs ++ e ∷ ys)
unfolding AreAllMarked
all_same [] d e ys m h = (m ∙ h.0, h.1)
all_same (x ∷ xs) d e ys m h = (h.0, all_same xs d e ys m h.1)

pub trailing_same : (xs : List Entry) (d e : Entry) (ys : List Entry) → e.marked ≡ d.marked → AreTrailing (xs ++ d ∷ ys)
    → AreTrailing (xs ++ e ∷ ys)
unfolding AreTrailing
trailing_same [] d e ys m h = ((λ k. h.0 (sym m ∙ k)), h.1)
trailing_same (x ∷ xs) d e ys m h = ((λ k. all_same xs d e ys m (h.0 k)), trailing_same xs d e ys m h.1)

-- behind a marked one all are marked, so the suffix of marks is one of each group
many_none : (key : List ℕ) (w : List ℕ) → group_size key [] w ≡ 0
unfolding group_size
many_none key w = refl

group_plain : (key : List ℕ) (es : List Entry) (w : List ℕ) → AreAllMarked es → group_size key (plain es) w ≡ 0
group_plain key es w h = ap (λ (ds : List Entry). group_size key ds w) (all_plain es h) ∙ many_none key w

pub trailing_last : (key : List ℕ) (es : List Entry) → AreTrailing es → AreLast key es
unfolding AreTrailing AreLast
trailing_last key [] h = tt
trailing_last key (e ∷ es) h = ((λ m. group_plain key es (pick key e.tuple) (h.0 m)), trailing_last key es h.1)

-- the first mark
first_push : (xs : List ℕ) (i : ℕ) → beside (first_of xs) (Some i) (first_of xs) ≡ first_of (xs ++ i ∷ [])
first_push [] i = refl
first_push (x ∷ xs) i = refl

marks_none : marks [] ≡ []
unfolding marks
marks_none = refl

pub mark_push : (es : List Entry) (e : Entry) (i : ℕ) → e.marked ≡ true → e.at.slot ≡ i
    → beside (first_of (slots_at (marks es))) (Some i) (first_of (slots_at (marks es)))
    ≡ first_of (slots_at (marks (es ++ e ∷ [])))
mark_push es e i m at =
    first_push (slots_at (marks es)) i
    ∙ ap first_of (ap (λ (j : ℕ). slots_at (marks es) ++ j ∷ []) (sym at)
    ∙ sym (ap (λ (zs : List ℕ). slots_at (marks es) ++ e.at.slot ∷ zs) slots_nil)
    ∙ sym (slots_at_middle (marks es) e []))
    ∙ ap (λ (ms : List Entry). first_of (slots_at ms))
    (ap (λ (ms : List Entry). marks es ++ ms) (sym (marks_yes e [] m ∙ ap (λ (ms : List Entry). e ∷ ms) marks_none))
    ∙ sym (marks-append es (e ∷ [])))

-- an entry that comes unmarked, where none is marked
no_marks_first : (e : Entry) (es : List Entry) → marks (e ∷ es) ≡ [] → (e.marked ≡ false) × (marks es ≡ [])
no_marks_first e es h = elim (cases_Bool e.marked) [
  | inl here ↦ absurd (cons_none e (marks es) (sym (marks_yes e es here) ∙ h))
  | inr other ↦ (other, sym (marks_no e es other) ∙ h)
]
  where
    cons_none : (x : Entry) (xs : List Entry) → x ∷ xs ≡ [] → ⊥
    cons_none x xs k = cc

trailing_none : (es : List Entry) → marks es ≡ [] → AreTrailing es
unfolding AreTrailing
trailing_none [] h = tt
trailing_none (e ∷ es) h = let n = no_marks_first e es h in
    ((λ k. absurd (false≢true (sym n.0 ∙ k))), trailing_none es n.1)

none_push : (es : List Entry) (e : Entry) → e.marked ≡ false → marks es ≡ [] → marks (es ++ e ∷ []) ≡ []
none_push es e m h = marks-append es (e ∷ []) ∙ ap₂ (λ (xs ys : List Entry). xs ++ ys) h (marks_no e [] m ∙ marks_none)

pub trailing_put : (es : List Entry) (e : Entry) → AreTrailing es → (e.marked ≡ false → marks es ≡ [])
    → AreTrailing (es ++ e ∷ [])
trailing_put es e h plain = elim (cases_Bool e.marked) [
  | inl here ↦ trailing_push es e h here
  | inr other ↦ trailing_none (es ++ e ∷ []) (none_push es e other (plain other))
]

abbrev first_mark : List Entry → Option ℕ
first_mark es = first_of (slots_at (marks es))

pub mark_put : (es : List Entry) (e : Entry) (i : ℕ) → (e.marked ≡ false → marks es ≡ []) → e.at.slot ≡ i
    → cond e.marked (beside (first_of (slots_at (marks es))) (Some i) (first_of (slots_at (marks es))))
    (first_of (slots_at (marks es))) ≡ first_of (slots_at (marks (es ++ e ∷ [])))
mark_put es e i plain at = elim (cases_Bool e.marked) [
  | inl here ↦ ap (λ (b : Bool). cond b (beside (first_mark es) (Some i) (first_mark es)) (first_mark es)) here
      ∙ mark_push es e i here at
  | inr other ↦ ap (λ (b : Bool). cond b (beside (first_mark es) (Some i) (first_mark es)) (first_mark es)) other
      ∙ ap (λ (ms : List Entry). first_of (slots_at ms)) (plain other ∙ sym (none_push es e other (plain other)))
]

-- entries that differ in supports and marks alone
unfoldable pub AreAlike : List Entry → List Entry → Type 0
AreAlike [] [] = Unit {0}
AreAlike (d ∷ ds) (e ∷ es) = (e.at ≡ d.at) × (e.tuple ≡ d.tuple) × AreAlike ds es
AreAlike [] (e ∷ es) = ⊥
AreAlike (d ∷ ds) [] = ⊥

pub alike_notes : (notes more : List Note) (rows : List Row) → AreAlike (entries_in notes rows) (entries_in more rows)
unfolding AreAlike entries_in entry_of
alike_notes notes more [] = tt
alike_notes notes more (r ∷ rs) = (refl, refl, alike_notes notes more rs)

alike_cond : (b c : Bool) (d e : Entry) (ds es : List Entry) → b ≡ c → e.at ≡ d.at → slots_at ds ≡ slots_at es
    → slots_at (cond b (d ∷ ds) ds) ≡ slots_at (cond c (e ∷ es) es)
unfolding slots_at
alike_cond true true d e ds es h at s = ap₂ (λ (p : Place) (zs : List ℕ). p.slot ∷ zs) (sym at) s
alike_cond false false d e ds es h at s = s
alike_cond true false d e ds es h at s = absurd (false≢true (sym h))
alike_cond false true d e ds es h at s = absurd (false≢true h)

alike_groups : (key : List ℕ) (ds es : List Entry) (w : List ℕ) → AreAlike ds es → slots_at (group_of key ds w)
    ≡ slots_at (group_of key es w)
unfolding AreAlike group_of
alike_groups key [] [] w h = refl
alike_groups key (d ∷ ds) (e ∷ es) w h = alike_cond (same (pick key d.tuple) w) (same (pick key e.tuple) w) d e
    (group_of key ds w) (group_of key es w) (ap (λ (u : List ℕ). same (pick key u) w) (sym h.1)) h.0
    (alike_groups key ds es w h.2)
alike_groups key [] (e ∷ es) w h = absurd h
alike_groups key (d ∷ ds) [] w h = absurd h

alike_many : (key : List ℕ) (ds es : List Entry) (w : List ℕ) → AreAlike ds es → group_size key ds w ≡ group_size key
    es w
unfolding AreAlike group_size
alike_many key [] [] w h = refl
alike_many key (d ∷ ds) (e ∷ es) w h = ap₂ (λ (u : List ℕ) (n : ℕ). one_if (same (pick key u) w) + n) (sym h.1)
    (alike_many key ds es w h.2)
alike_many key [] (e ∷ es) w h = absurd h
alike_many key (d ∷ ds) [] w h = absurd h

alike_cnt : (ds es : List Entry) (u : List ℕ) → AreAlike ds es → count_of ds u ≡ count_of es u
unfolding AreAlike count_of
alike_cnt [] [] u h = refl
alike_cnt (d ∷ ds) (e ∷ es) u h = ap₂ (λ (v : List ℕ) (n : ℕ). one_if (same v u) + n) (sym h.1) (alike_cnt ds es u h.2)
alike_cnt [] (e ∷ es) u h = absurd h
alike_cnt (d ∷ ds) [] u h = absurd h

pub alike_apart : (ds es : List Entry) → AreAlike ds es → TuplesDiffer ds → TuplesDiffer es
unfolding AreAlike TuplesDiffer
alike_apart [] [] h a = a
alike_apart (d ∷ ds) (e ∷ es) h a =
    (ap (λ (u : List ℕ). count_of es u) h.1 ∙ sym (alike_cnt ds es d.tuple h.2) ∙ a.0, alike_apart ds es h.2 a.1)
alike_apart [] (e ∷ es) h a = absurd h
alike_apart (d ∷ ds) [] h a = absurd h

alike_seated : (key : List ℕ) (notes : List Note) (keys : List Row) (ds es : List Entry) → AreAlike ds es
    → AreSeated key notes keys ds → AreSeated key notes keys es
unfolding AreAlike AreSeated
alike_seated key notes keys [] [] h s = tt
alike_seated key notes keys (d ∷ ds) (e ∷ es) h s = (
  ap (λ (p : Place). row_at keys (note_at notes p.slot).head) h.0 ∙ s.0
      ∙ ap (λ (u : List ℕ). Some (pick key u)) (sym h.1),
  alike_seated key notes keys ds es h.2 s.1,
)
alike_seated key notes keys [] (e ∷ es) h s = absurd h
alike_seated key notes keys (d ∷ ds) [] h s = absurd h

pub groups_alike : (key : List ℕ) (notes : List Note) (links : List Pair) (keys : List Row) (ends : List Ends)
    (ds es : List Entry) → AreAlike ds es → AreGroups key notes links keys ends ds
    → AreGroups key notes links keys ends es
groups_alike key notes links keys ends ds es h g = record {
  chained = λ w. subst (λ zs. Linked links None zs None) (alike_groups key ds es w h) (g.chained w);
  headed = λ k w r. g.headed k w r ∙ ap ends_of (alike_groups key ds es w h);
  some = λ k w r. subst (λ n. 0 < n) (alike_many key ds es w h) (g.some k w r);
  none = λ w absent. sym (alike_many key ds es w h) ∙ g.none w absent;
  once = g.once;
  seated = alike_seated key notes keys ds es h g.seated;
}

-- the first mark, once a slot is gone
passed_other : (o : Option ℕ) (i : ℕ) (n : Option ℕ) → Differs o i → passed o i n ≡ o
passed_other None i n h = refl
passed_other (Some m) i n h = rw (ne_eqb m i h) refl

passed_here : (i : ℕ) (n : Option ℕ) → passed (Some i) i n ≡ n
passed_here i n = rw (eq-eqb i i refl) refl

marks_out : (i : ℕ) (es : List Entry) → IsOut i (slots_at es) → IsOut i (slots_at (marks es))
marks_out i [] h = subst (λ ms. IsOut i (slots_at ms)) (sym marks_none) h
marks_out i (e ∷ es) h =
    let k = out_cons i e.at.slot (slots_at es) (subst (IsOut i) (slots_at_cons e es) h) in
    elim (cases_Bool e.marked) [
      | inl here ↦ rw (marks_yes e es here, slots_at_cons)
          (out_more i e.at.slot (slots_at (marks es)) k.0 (marks_out i es k.1))
      | inr other ↦ rw (marks_no e es other) (marks_out i es k.1)
    ]

first_differs_of : (xs : List ℕ) (i : ℕ) → IsOut i xs → Differs (first_of xs) i
first_differs_of xs i h = first_differs xs None i tt h

trailing_first : (e : Entry) (es : List Entry) → AreTrailing (e ∷ es) → (e.marked ≡ true → AreAllMarked es)
    × AreTrailing es
unfolding AreTrailing
trailing_first e es h = h

different_cons : (x : ℕ) (xs : List ℕ) → AreDistinctSlots (x ∷ xs) → IsOut x xs × AreDistinctSlots xs
unfolding AreDistinctSlots
different_cons x xs h = h

out_of_middle : (x : ℕ) (xs : List ℕ) (i : ℕ) (ys : List ℕ) → IsOut x (xs ++ i ∷ ys) → x ≡ i → ⊥
unfolding IsOut
out_of_middle x [] i ys h same_one = h.0 (sym same_one)
out_of_middle x (z ∷ xs) i ys h same_one = out_of_middle x xs i ys h.1 same_one

pub mark_out : (xs : List Entry) (e : Entry) (ys : List Entry) (i : ℕ) → AreTrailing (xs ++ e ∷ ys)
    → AreDistinctSlots (slots_at (xs ++ e ∷ ys)) → e.at.slot ≡ i
    → passed (first_of (slots_at (marks (xs ++ e ∷ ys)))) i (first_of (slots_at ys))
    ≡ first_of (slots_at (marks (xs ++ ys)))
mark_out [] e ys i t d at =
    let out = subst (λ j. IsOut j (slots_at ys)) at
    (different_cons e.at.slot (slots_at ys) (subst AreDistinctSlots (slots_at_cons e ys) d)).0 in
    elim (cases_Bool e.marked) [
      | inl here ↦ (let all = all_marks ys ((trailing_first e ys t).0 here) in
          ap (λ (ms : List Entry). passed (first_of (slots_at ms)) i (first_of (slots_at ys))) (marks_yes e ys here)
          ∙ ap (λ (zs : List ℕ). passed (first_of zs) i (first_of (slots_at ys))) (slots_at_cons e (marks ys))
          ∙ ap (λ (j : ℕ). passed (Some j) i (first_of (slots_at ys))) at ∙ passed_here i (first_of (slots_at ys))
          ∙ ap (λ (ms : List Entry). first_of (slots_at ms)) (sym all))
      | inr other ↦ ap (λ (ms : List Entry). passed (first_of (slots_at ms)) i (first_of (slots_at ys)))
          (marks_no e ys other)
          ∙ passed_other (first_of (slots_at (marks ys))) i (first_of (slots_at ys))
          (first_differs_of (slots_at (marks ys)) i (marks_out i ys out))
    ]
mark_out (x ∷ xs) e ys i t d at =
    let k = different_cons x.at.slot (slots_at (xs ++ e ∷ ys))
    (subst AreDistinctSlots (slots_at_cons x (xs ++ e ∷ ys)) d)
    in
    let apart = out_of_middle x.at.slot (slots_at xs) e.at.slot (slots_at ys)
    (subst (IsOut x.at.slot) (slots_at_middle xs e ys) k.0) in
    elim (cases_Bool x.marked) [
      | inl here ↦
          ap (λ (ms : List Entry). passed (first_of (slots_at ms)) i (first_of (slots_at ys)))
          (marks_yes x (xs ++ e ∷ ys) here)
          ∙ ap (λ (zs : List ℕ). passed (first_of zs) i (first_of (slots_at ys)))
          (slots_at_cons x (marks (xs ++ e ∷ ys)))
          ∙ passed_other (Some x.at.slot) i (first_of (slots_at ys)) (λ q. apart (q ∙ sym at))
          ∙ sym (ap first_of (slots_at_cons x (marks (xs ++ ys))))
          ∙ ap (λ (ms : List Entry). first_of (slots_at ms)) (sym (marks_yes x (xs ++ ys) here))
      | inr other ↦
          ap (λ (ms : List Entry). passed (first_of (slots_at ms)) i (first_of (slots_at ys)))
          (marks_no x (xs ++ e ∷ ys) other)
          ∙ mark_out xs e ys i (trailing_first x (xs ++ e ∷ ys) t).1 k.1 at
          ∙ ap (λ (ms : List Entry). first_of (slots_at ms)) (sym (marks_no x (xs ++ ys) other))
    ]

-- the kind of groups stays right
pub kind_kept : (k l : Kind) (m n : ℕ) (xs ys : List ℕ) → l ≡ k → n ≡ m → ys ≡ xs → IsKind k m xs → IsKind l n ys
kind_kept k l m n xs ys kl mn xy h = subst (λ c. IsKind c n ys) (sym kl)
    (subst (λ i. IsKind k i ys) (sym mn) (subst (λ zs. IsKind k m zs) (sym xy) h))
