-- A table of its parts, its bounds, and its heads.
use Rattle.std.proofs.Common.{◌≡◌, ℕ, suc, List, [], ◌∷◌, length, Some, None, refl, ap, sym, ◌∙◌, arith, zero, ◌≤◌}
use Rattle.std.proofs.Common.{◌++◌, subst, ◌⊎◌, inl, inr, length-append, ◌+◌, ◌<◌, slice_index_or, get_or, Option, ap₂}
use Rattle.std.proofs.lemmas.Bool.{cases_eq}
use Rattle.std.proofs.lemmas.List.{length-map, ext_get_or, get_or-map}
use Rattle.std.specs.Prelude.{MatchOption}
use Rattle.djq_arena.specs.declared.chain.Pair.{Pair}
use Rattle.djq_arena.specs.declared.chain.Ends.{Ends}
use Rattle.djq_arena.specs.Rows.{Row, SlotRows, AreRows, slots, AreWideRows, IsAbsent, IsRow}
use Rattle.djq_arena.specs.Chains.{Linked, first_of, AreDistinctSlots, IsOut, AreBelow, last_of}
use Rattle.djq_arena.proofs.Chains.{different_out, different_here}
use Rattle.djq_index.specs.declared.place.Place.{Place}
use Rattle.djq_index.specs.declared.raw.Note.{Note}
use Rattle.djq_index.specs.declared.raw.Raw.{Raw}
use Rattle.djq_index.specs.declared.kind.Kind.TheVariants.{One, Each}
use Rattle.djq_index.specs.Entries.{Entry, group_of, group_size, marks, count_of, head_at, last_at}
use Rattle.djq_index.specs.Table.{Table, TuplesDiffer, ArePlaced, IsElsewhere, AreWide, AreColumns, IsTable}
use Rattle.djq_index.specs.Raw.{entry_of, entries_in, entries_of, slots_at, row_at, AreSeated, AreGroups, AreTrailing}
use Rattle.djq_index.specs.Raw.{IsRaw, HoldsTuples, AreHeads, IsKind, place_of, KeyIsWhole, note_at}
use Rattle.djq_index.specs.Tuple.{same, pick, one_if}
use Rattle.djq_index.proofs.Parts.{entries_nil, slots_are, slots_nil, slots_at_cons, cut_entries, head_place}
use Rattle.djq_index.proofs.Parts.{last_place, absent_cnt, row_is_at, no_group, entry_of_row, row_at_first}
use Rattle.djq_index.proofs.Parts.{row_at_other}
use Rattle.djq_index.proofs.PartChanges.{trailing_last, kind_kept}
use Rattle.djq_index.proofs.Tuples.{is_same, same_other, same_cases, one_other, pick_nil, length_pick, length_grp}
use Rattle.djq_index.proofs.Tuples.{many_cons, cnt_once}
use Rattle.djq_index.proofs.Groups.{grp_yes, grp_no}
use Rattle.djq_index.proofs.GroupChanges.{group_middle}

-- ---- A table's parts make a table.

elsewhere_from : (i : ℕ) (notes : List Note) (rows : List Row) → IsOut i (slots rows)
    → IsElsewhere (record { slot = i }) (entries_in notes rows)
unfolding IsOut slots IsElsewhere entries_in entry_of
elsewhere_from i notes [] h = tt
elsewhere_from i notes (r ∷ rs) h = ((λ k. h.0 (ap (λ (p : Place). p.slot) k)), elsewhere_from i notes rs h.1)

placed_from : (notes : List Note) (rows : List Row) → AreDistinctSlots (slots rows) → ArePlaced (entries_in notes rows)
unfolding AreDistinctSlots slots ArePlaced entries_in entry_of
placed_from notes [] h = tt
placed_from notes (r ∷ rs) h = (elsewhere_from r.slot notes rs h.0, placed_from notes rs h.1)

pub wide_from : (width : ℕ) (notes : List Note) (rows : List Row) → AreWideRows width rows
    → AreWide width (entries_in notes rows)
unfolding AreWideRows AreWide entries_in entry_of
wide_from width notes [] h = tt
wide_from width notes (r ∷ rs) h = (h.0, wide_from width notes rs h.1)

pub raw_table : (r : Raw) → IsRaw r
    → IsTable (record { width = r.rows.width; key = r.key.items; entries = entries_of r })
raw_table r h = record {
  apart = h.bare.apart;
  placed = placed_from r.notes.items r.rows.rows h.bare.rows.different;
  last = trailing_last r.key.items (entries_of r) h.bare.trailing;
  wide = wide_from r.rows.width r.notes.items r.rows.rows h.bare.rows.wide;
  columns = h.bare.columns;
}

pub length_entries : (notes : List Note) (rows : List Row) → length (entries_in notes rows) ≡ length rows
unfolding entries_in
length_entries notes [] = refl
length_entries notes (r ∷ rs) = ap suc (length_entries notes rs)

-- a table without tuples
no_chain : (key : List ℕ) (links : List Pair) (w : List ℕ) → Linked links None (slots_at (group_of key [] w)) None
unfolding group_of slots_at Linked
no_chain key links w = tt

no_many : (key : List ℕ) (w : List ℕ) → group_size key [] w ≡ 0
unfolding group_size
no_many key w = refl

no_head : (h : ℕ) (w : List ℕ) → row_at [] h ≡ Some w → ⊥
unfolding row_at
no_head h w k = cc

no_seats : (key : List ℕ) (notes : List Note) → AreSeated key notes [] []
unfolding AreSeated
no_seats key notes = tt

no_groups : (key : List ℕ) (notes : List Note) (links : List Pair) (ends : List Ends)
    → AreGroups key notes links [] ends []
no_groups key notes links ends = record {
  chained = no_chain key links;
  headed = λ h w r. absurd (no_head h w r);
  some = λ h w r. absurd (no_head h w r);
  none = λ w absent. no_many key w;
  once = λ j k w p q. absurd (no_head j w p);
  seated = no_seats key notes;
}

no_apart : TuplesDiffer []
unfolding TuplesDiffer
no_apart = tt

no_trail : AreTrailing []
unfolding AreTrailing
no_trail = tt

no_marks : first_of (slots_at (marks [])) ≡ None
unfolding marks slots_at
no_marks = refl

pub empty_entries : (b : Raw) → b.rows.rows ≡ [] → entries_of b ≡ []
empty_entries b h = ap (entries_in b.notes.items) h ∙ entries_nil b.notes.items

pub empty_bare : (b : Raw) (width : ℕ) (key : List ℕ) → b.key.items ≡ key → b.rows
    ≡ record { width = width; room = 0; rows = [] } → AreRows b.rows → AreColumns width key → IsKind b.kind width key
    → b.marked ≡ None → HoldsTuples b
empty_bare b width key key_is rows law columns kind marked = record {
  rows = law;
  columns = rw (key_is, rows) columns;
  kind = kind_kept b.kind b.kind width b.rows.width key b.key.items refl (ap (λ (r : SlotRows). r.width) rows) key_is
      kind;
  notes = rw rows (omega arith);
  apart = rw none no_apart;
  trailing = rw none no_trail;
  marked = marked ∙ sym (ap (λ (es : List Entry). first_of (slots_at (marks es))) none ∙ no_marks);
}
  where
    none : entries_of b ≡ []
    none = empty_entries b (ap (λ (r : SlotRows). r.rows) rows)

pub empty_heads : (b : Raw) (width : ℕ) (key : List ℕ) → b.key.items ≡ key → b.rows
    ≡ record { width = width; room = 0; rows = [] } → b.keys ≡ record { width = length key; room = 0; rows = [] }
    → AreRows b.keys → AreHeads b
empty_heads b width key key_is rows keys law = record {
  keys = law;
  key_width = rw (keys, key_is) refl;
  links = rw rows (omega arith);
  ends = rw keys (omega arith);
  groups = rw (empty_entries b (ap (λ (r : SlotRows). r.rows) rows), keys)
      (no_groups b.key.items b.notes.items b.links.items b.ends.items);
}

pub empty_raw : (b : Raw) (width : ℕ) (key : List ℕ) → b.key.items ≡ key → b.rows
    ≡ record { width = width; room = 0; rows = [] } → b.keys ≡ record { width = length key; room = 0; rows = [] }
    → AreRows b.rows → AreRows b.keys → AreColumns width key → IsKind b.kind width key → b.marked ≡ None → IsRaw b
empty_raw b width key key_is rows keys law heads columns kind marked = record {
  bare = empty_bare b width key key_is rows law columns kind marked;
  heads = λ k. empty_heads b width key key_is rows keys heads;
}

abbrev table_with : ℕ → List ℕ → List Entry → Table
table_with width key entries = record { width = width; key = key; entries = entries }

pub new_table : (notes : List Note) (rows : SlotRows) (width : ℕ) (key held : List ℕ) → held ≡ key → rows
    ≡ record { width = width; room = 0; rows = [] }
    → table_with rows.width held (entries_in notes rows.rows) ≡ table_with width key []
new_table notes rows width key held key_is is = rw (is, key_is, entries_nil notes) refl

-- ---- A table has at most as many tuples as there are numbers for slots.

pub record Split (i : ℕ) (xs : List ℕ) : Type 0 where
  pub front : List ℕ
  pub back : List ℕ
  pub is : xs ≡ front ++ i ∷ back

split_next : (i x : ℕ) (xs : List ℕ) → (IsOut i xs) ⊎ Split i xs → (IsOut i (x ∷ xs)) ⊎ Split i (x ∷ xs)
unfolding IsOut
split_next i x xs (inr s) = inr (record { front = x ∷ s.front; back = s.back; is = ap (λ (l : List ℕ). x ∷ l) s.is })
split_next i x xs (inl out) = elim (cases_eq x i) [
  | inl same ↦ inr (record { front = []; back = xs; is = ap (λ (y : ℕ). y ∷ xs) same })
  | inr apart ↦ inl (apart, out)
]

split_at : (i : ℕ) (xs : List ℕ) → (IsOut i xs) ⊎ Split i xs
unfolding IsOut
split_at i [] = inl tt
split_at i (x ∷ xs) = split_next i x xs (split_at i xs)

below_less : (n : ℕ) (xs : List ℕ) → AreBelow (suc n) xs → IsOut n xs → AreBelow n xs
unfolding AreBelow IsOut
below_less n [] b o = tt
below_less n (x ∷ xs) b o = ((let low = b.0 in let apart = o.0 in omega arith), below_less n xs b.1 o.1)

below_out : (n : ℕ) (xs : List ℕ) (y : ℕ) (ys : List ℕ) → AreBelow n (xs ++ y ∷ ys) → AreBelow n (xs ++ ys)
unfolding AreBelow
below_out n [] y ys h = h.1
below_out n (x ∷ xs) y ys h = (h.0, below_out n xs y ys h.1)

none_below : (xs : List ℕ) → AreBelow 0 xs → length xs ≤ 0
unfolding AreBelow
none_below [] h = omega arith
none_below (x ∷ xs) h = absurd (let low = h.0 in omega arith)

-- different numbers below n are n at most
length_below : (n : ℕ) (xs : List ℕ) → AreDistinctSlots xs → AreBelow n xs → length xs ≤ n
length_below zero xs d b = none_below xs b
length_below (suc n) xs d b =
    elim (split_at n xs) [
      | inl out ↦ (let h = length_below n xs d (below_less n xs b out) in omega arith)
      | inr s ↦ (
          let d2 : AreDistinctSlots (s.front ++ n ∷ s.back) = subst AreDistinctSlots s.is d in
          let b2 : AreBelow (suc n) (s.front ++ n ∷ s.back) = subst (λ (l : List ℕ). AreBelow (suc n) l) s.is b in
          let h = length_below n (s.front ++ s.back) (different_out s.front n s.back d2)
          (below_less n (s.front ++ s.back) (below_out (suc n) s.front n s.back b2)
          (different_here s.front n s.back d2)) in
          omega (
            arith,
            ap (λ (l : List ℕ). length l) s.is,
            length-append s.front (n ∷ s.back),
            length-append s.front
                s.back,
          ))
    ]

pub slots_length : (rows : List Row) → length (slots rows) ≡ length rows
unfolding slots
slots_length rows = length-map rows (λ r. r.slot)

pub entries_length : (r : Raw) → length (entries_of r) ≡ length r.rows.rows
entries_length r = length_entries r.notes.items r.rows.rows

pub few_entries : (r : Raw) → IsRaw r → length (entries_of r) ≤ 4294967295
few_entries r h =
    let n = h.bare.rows.numbers in
    omega (
      arith,
      entries_length r,
      slots_length r.rows.rows,
      length_below r.rows.room (slots r.rows.rows)
          h.bare.rows.different h.bare.rows.below,
    )

-- ---- Groups that need no heads: one group of all, and groups of one tuple each.

grp_nil : (key w : List ℕ) → group_of key [] w ≡ []
unfolding group_of
grp_nil key w = refl

pub nil_not : (xs : List Entry) (e : Entry) (ys : List Entry) → [] ≡ xs ++ e ∷ ys → ⊥
nil_not [] e ys h = cc
nil_not (x ∷ xs) e ys h = cc

-- what the kind says of the key
pub key_none : (r : Raw) → HoldsTuples r → r.kind ≡ One → r.key.items ≡ []
key_none r raw k = subst (λ c. IsKind c r.rows.width r.key.items) k raw.kind

pub key_whole : (r : Raw) → HoldsTuples r → r.kind ≡ Each → KeyIsWhole r.rows.width r.key.items
key_whole r raw k = subst (λ c. IsKind c r.rows.width r.key.items) k raw.kind

-- with an empty key all are one group
one_group : (es : List Entry) → group_of [] es [] ≡ es
one_group [] = grp_nil [] []
one_group (e ∷ es) = grp_yes [] e es [] (is_same (pick [] e.tuple) [] (pick_nil e.tuple))
    ∙ ap (λ (ds : List Entry). e ∷ ds) (one_group es)

cells_not : (u : List ℕ) (c : ℕ) (cs : List ℕ) → pick [] u ≡ c ∷ cs → ⊥
cells_not u c cs h = let k : [] ≡ c ∷ cs = sym (pick_nil u) ∙ h in cc

no_other : (es : List Entry) (c : ℕ) (cs : List ℕ) → group_of [] es (c ∷ cs) ≡ []
no_other [] c cs = grp_nil [] (c ∷ cs)
no_other (e ∷ es) c cs = grp_no [] e es (c ∷ cs) (same_other (pick [] e.tuple) (c ∷ cs)
    (cells_not e.tuple c cs)) ∙ no_other es c cs

pub one_end : (r : Raw) (f : List ℕ → Option ℕ) (w : List ℕ) (o : Option ℕ) → f [] ≡ None
    → r.key.items ≡ [] → (w ≡ [] → o ≡ f (slots r.rows.rows)) → ((w ≡ [] → ⊥) → o ≡ None)
    → o ≡ f (slots_at (group_of r.key.items (entries_of r) w))
one_end r f [] o none key here other =
    here refl ∙ sym (ap f (ap slots_at (ap (λ (k : List ℕ). group_of k (entries_of r) []) key
    ∙ one_group (entries_of r)) ∙ slots_are r.notes.items r.rows.rows))
one_end r f (c ∷ cs) o none key here other =
    other (λ h. cc)
    ∙ sym (ap f (ap slots_at (ap (λ (k : List ℕ). group_of k (entries_of r) (c ∷ cs)) key
    ∙ no_other (entries_of r) c cs) ∙ slots_nil) ∙ none)

-- a cut of the one group is a cut of all
one_cut : (r : Raw) (w : List ℕ) (xs : List Entry) (e : Entry) (ys : List Entry)
    → r.key.items ≡ [] → group_of r.key.items (entries_of r) w ≡ xs ++ e ∷ ys
    → entries_of r ≡ xs ++ e ∷ ys
one_cut r [] xs e ys key is = sym (ap (λ (k : List ℕ). group_of k (entries_of r) []) key
    ∙ one_group (entries_of r)) ∙ is
one_cut r (c ∷ cs) xs e ys key is = absurd (nil_not xs e ys (sym (ap (λ (k : List ℕ). group_of k
    (entries_of r) (c ∷ cs)) key ∙ no_other (entries_of r) c cs) ∙ is))

pub one_next : (r : Raw) (w : List ℕ) (xs : List Entry) (e : Entry) (ys : List Entry)
    (o : Option ℕ) → r.key.items ≡ [] → group_of r.key.items (entries_of r) w ≡ xs ++ e ∷ ys
    → ((rs : List Row) (q : Row) (ss : List Row) → r.rows.rows ≡ rs ++ q ∷ ss → q.slot ≡ e.at.slot
    → o ≡ first_of (slots ss)) → place_of o ≡ head_at ys
one_next r w xs e ys o key is next =
    let c = cut_entries r.notes.items r.rows.rows xs e ys (one_cut r w xs e ys key is) in
    ap place_of (next c.front c.row c.back c.is
    (entry_of_row r.notes.items e c.row e.at c.e_is refl)
    ∙ ap first_of (sym (slots_are r.notes.items c.back) ∙ ap slots_at (sym c.ys_is)))
    ∙ sym (head_place ys)

pub one_prev : (r : Raw) (w : List ℕ) (xs : List Entry) (e : Entry) (ys : List Entry)
    (o : Option ℕ) → r.key.items ≡ [] → group_of r.key.items (entries_of r) w ≡ xs ++ e ∷ ys
    → ((rs : List Row) (q : Row) (ss : List Row) → r.rows.rows ≡ rs ++ q ∷ ss → q.slot ≡ e.at.slot
    → o ≡ last_of (slots rs)) → place_of o ≡ last_at xs
one_prev r w xs e ys o key is prev =
    let c = cut_entries r.notes.items r.rows.rows xs e ys (one_cut r w xs e ys key is) in
    ap place_of (prev c.front c.row c.back c.is
    (entry_of_row r.notes.items e c.row e.at c.e_is refl)
    ∙ ap last_of (sym (slots_are r.notes.items c.front) ∙ ap slots_at (sym c.xs_is)))
    ∙ sym (last_place xs)

-- with a key of all columns a group is what has the same tuple
pick_at : (key u : List ℕ) (i : ℕ) → i < length key
    → get_or (pick key u) i 0 ≡ slice_index_or u (slice_index_or key i 0) 0
unfolding pick
pick_at key u i h = get_or-map (λ (c : ℕ). slice_index_or u c 0) key i 0 0 h

pick_whole : (key u : List ℕ) → KeyIsWhole (length u) key → pick key u ≡ u
pick_whole key u h =
    ext_get_or 0 (pick key u) u (length_pick key u ∙ h.long)
    (λ i below. let inside : i < length key = omega
    (arith, below, length_pick key u) in let fits : i < length u = omega
    (arith, inside, h.long) in
    pick_at key u i inside ∙ ap (λ (c : ℕ). slice_index_or u c 0) (h.each i fits))

wide_pick : (width : ℕ) (key u : List ℕ) → KeyIsWhole width key → length u ≡ width → pick key u ≡ u
wide_pick width key u h wide = pick_whole key u (subst (λ n. KeyIsWhole n key) (sym wide) h)

each_many : (width : ℕ) (key : List ℕ) (es : List Entry) (w : List ℕ) → KeyIsWhole width key
    → AreWide width es → group_size key es w ≡ count_of es w
unfolding AreWide group_size count_of
each_many width key [] w h wide = refl
each_many width key (e ∷ es) w h wide = ap₂ (λ (u : List ℕ) (n : ℕ). one_if (same u w) + n)
    (wide_pick width key e.tuple h wide.0) (each_many width key es w h wide.1)

wide_middle : (width : ℕ) (xs : List Entry) (e : Entry) (ys : List Entry)
    → AreWide width (xs ++ e ∷ ys) → length e.tuple ≡ width
unfolding AreWide
wide_middle width [] e ys h = h.0
wide_middle width (x ∷ xs) e ys h = wide_middle width xs e ys h.1

alone : (xs : List Entry) (e : Entry) (ys : List Entry) → length (xs ++ e ∷ ys) ≤ 1
    → (xs ≡ []) × (ys ≡ [])
alone [] e [] h = (refl, refl)
alone [] e (y ∷ ys) h = absurd (omega (arith, h))
alone (x ∷ xs) e ys h = absurd (omega (arith, h, length-append xs (e ∷ ys)))

head_nil : head_at [] ≡ None
unfolding head_at
head_nil = refl

last_nil : last_at [] ≡ None
unfolding last_at head_at
last_nil = refl

module _ (r : Raw) (raw : HoldsTuples r) (whole : KeyIsWhole r.rows.width r.key.items) where
  all_wide : AreWide r.rows.width (entries_of r)
  all_wide = wide_from r.rows.width r.notes.items r.rows.rows raw.rows.wide

  counted : (w : List ℕ) → group_size r.key.items (entries_of r) w ≡ count_of (entries_of r) w
  counted w = each_many r.rows.width r.key.items (entries_of r) w whole all_wide

  few : (w : List ℕ) → length (group_of r.key.items (entries_of r) w) ≤ 1
  few w = omega (
    arith,
    length_grp r.key.items (entries_of r) w,
    counted w,
    cnt_once
        (entries_of r) w raw.apart,
  )

  pub each_next : (w : List ℕ) (xs : List Entry) (e : Entry) (ys : List Entry)
      → group_of r.key.items (entries_of r) w ≡ xs ++ e ∷ ys → None ≡ head_at ys
  each_next w xs e ys is = sym (ap head_at (alone xs e ys (subst (λ
      (g : List Entry). length g ≤ 1) is (few w))).1 ∙ head_nil)

  pub each_prev : (w : List ℕ) (xs : List Entry) (e : Entry) (ys : List Entry)
      → group_of r.key.items (entries_of r) w ≡ xs ++ e ∷ ys → None ≡ last_at xs
  each_prev w xs e ys is = sym (ap last_at (alone xs e ys (subst (λ
      (g : List Entry). length g ≤ 1) is (few w))).0 ∙ last_nil)

  -- the group of a row is that row
  each_slots : (w : List ℕ) (i : ℕ) → IsRow r.rows.rows i w
      → slots_at (group_of r.key.items (entries_of r) w) ≡ i ∷ []
  each_slots w i row =
      let a = row_is_at r.notes.items r.rows.rows i w row in
      let its = wide_pick r.rows.width r.key.items a.entry.tuple whole
      (wide_middle r.rows.width a.front a.entry a.back (subst
      (AreWide r.rows.width) a.is all_wide)) ∙ a.tuple in
      let cut : group_of r.key.items
      (entries_of r) w ≡ group_of r.key.items a.front w ++ a.entry ∷ group_of r.key.items a.back w = ap
      (λ (es : List Entry). group_of r.key.items es w) a.is
      ∙ group_middle r.key.items a.front a.entry a.back w its in
      let none = alone (group_of r.key.items a.front w) a.entry (group_of r.key.items a.back w) (subst (λ
      (g : List Entry). length g ≤ 1) cut (few w)) in
      ap slots_at (cut ∙ ap₂ (λ (f g : List Entry). f ++ a.entry ∷ g) none.0 none.1)
      ∙ slots_at_cons a.entry [] ∙ ap₂ (λ (p : Place) (zs : List ℕ). p.slot ∷ zs) a.at slots_nil

  pub each_end : (f : List ℕ → Option ℕ) (w : List ℕ) (o : Option ℕ) → f [] ≡ None → ((i : ℕ)
      → f (i ∷ []) ≡ Some i) → MatchOption o (IsAbsent r.rows.rows w) (λ i. IsRow r.rows.rows i w)
      → o ≡ f (slots_at (group_of r.key.items (entries_of r) w))
  each_end f w None none only h = sym (ap f (ap slots_at (no_group r.key.items (entries_of r) w
      (counted w ∙ absent_cnt r.notes.items r.rows.rows w h)) ∙ slots_nil) ∙ none)
  each_end f w (Some i) none only h = sym (ap f (each_slots w i h) ∙ only i)

-- ---- A table has at most as many heads as tuples.

-- x is in the list
abbrev pub IsIn : ℕ → List ℕ → Type 0
IsIn x [] = ⊥
IsIn x (y ∷ ys) = (y ≡ x) ⊎ IsIn x ys

-- the list without an x, which is shorter by one and keeps all others
pub record Without (x : ℕ) (ys : List ℕ) : Type 0 where
  pub rest : List ℕ
  pub shorter : length ys ≡ length rest + 1
  pub others : (z : ℕ) → (z ≡ x → ⊥) → IsIn z ys → IsIn z rest

kept_here : (x y : ℕ) (ys : List ℕ) (z : ℕ) → y ≡ x → (z ≡ x → ⊥) → (y ≡ z) ⊎ IsIn z ys → IsIn z ys
kept_here x y ys z same other (inl it) = absurd (other (sym it ∙ same))
kept_here x y ys z same other (inr h) = h

kept_later : (x y : ℕ) (ys : List ℕ) (w : Without x ys) (z : ℕ) → (z ≡ x → ⊥) → (y ≡ z) ⊎ IsIn z ys
    → (y ≡ z) ⊎ IsIn z w.rest
kept_later x y ys w z other (inl it) = inl it
kept_later x y ys w z other (inr h) = inr (w.others z other h)

without : (x : ℕ) (ys : List ℕ) → IsIn x ys → Without x ys
without x [] h = absurd h
without x (y ∷ ys) (inl same) = record
    { rest = ys; shorter = omega arith; others = λ z other h. kept_here x y ys z same other h }
without x (y ∷ ys) (inr h) =
    let w = without x ys h in
    record {
      rest = y ∷ w.rest;
      shorter = omega (arith, w.shorter);
      others = λ z other k. kept_later x y ys w z other k;
    }

out_in : (x : ℕ) (xs : List ℕ) → IsOut x xs → IsIn x xs → ⊥
unfolding IsOut
out_in x [] o h = h
out_in x (y ∷ ys) o (inl same) = o.0 same
out_in x (y ∷ ys) o (inr h) = out_in x ys o.1 h

-- different numbers that are all in a list are at most as many as its items
fewer : (xs ys : List ℕ) → AreDistinctSlots xs → ((z : ℕ) → IsIn z xs → IsIn z ys) → length xs ≤ length ys
unfolding AreDistinctSlots
fewer [] ys d h = omega arith
fewer (x ∷ xs) ys d h =
    let w = without x ys (h x (inl refl)) in
    let k = fewer xs w.rest d.1
    (λ z m. w.others z (λ same. out_in x xs d.0 (subst (λ (n : ℕ). IsIn n xs) same m)) (h z (inr m))) in
    omega (arith, w.shorter, k)

-- the head of each entry
abbrev pub heads_of : List Note → List Entry → List ℕ
heads_of notes [] = []
heads_of notes (e ∷ es) = (note_at notes e.at.slot).head ∷ heads_of notes es

length_heads : (notes : List Note) (es : List Entry) → length (heads_of notes es) ≡ length es
length_heads notes [] = refl
length_heads notes (e ∷ es) = ap suc (length_heads notes es)

none_many : (key : List ℕ) (w : List ℕ) → 0 < group_size key [] w → ⊥
unfolding group_size
none_many key w h = omega arith

-- the head of a group that has a tuple is the head of an entry
is_head : (key : List ℕ) (notes : List Note) (keys : List Row) (es : List Entry) (h : ℕ) (w : List ℕ)
    → ((j k : ℕ) (v : List ℕ) → row_at keys j ≡ Some v → row_at keys k ≡ Some v → j ≡ k)
    → AreSeated key notes keys es → row_at keys h ≡ Some w → 0 < group_size key es w → IsIn h (heads_of notes es)
unfolding AreSeated
is_head key notes keys [] h w once s at some = none_many key w some
is_head key notes keys (e ∷ es) h w once s at some =
    elim (same_cases (pick key e.tuple) w) [
      | inl here ↦ inl (once (note_at notes e.at.slot).head h w (s.0 ∙ ap Some here) at)
      | inr other ↦ inr (is_head key notes keys es h w once s.1 at
          (omega (arith, some, many_cons key e es w, one_other (pick key e.tuple) w other)))
    ]

-- what stands in a row's slot
pub record IsKept (rows : List Row) (i : ℕ) : Type 0 where
  pub cells : List ℕ
  pub at : row_at rows i ≡ Some cells

later : (r : Row) (rs : List Row) (i : ℕ) → (r.slot ≡ i → ⊥) → (r.slot ≡ i) ⊎ IsIn i (slots rs) → IsIn i (slots rs)
later r rs i other (inl same) = absurd (other same)
later r rs i other (inr h) = h

row_in : (rows : List Row) (i : ℕ) → IsIn i (slots rows) → IsKept rows i
unfolding slots
row_in [] i h = absurd h
row_in (r ∷ rs) i h =
    elim (cases_eq r.slot i) [
      | inl same ↦ record { cells = r.cells; at = row_at_first r rs i same }
      | inr other ↦ (let k = row_in rs i (later r rs i other h) in record
          { cells = k.cells; at = row_at_other r rs i other ∙ k.at })
    ]

pub few_heads : (r : Raw) → AreHeads r → length r.keys.rows ≤ length (entries_of r)
few_heads r h =
    let among = λ (i : ℕ) (m : IsIn i (slots r.keys.rows)).
    (let k = row_in r.keys.rows i m in
    is_head r.key.items r.notes.items r.keys.rows (entries_of r) i k.cells h.groups.once h.groups.seated k.at
    (h.groups.some i k.cells k.at)) in
    omega (
      arith,
      slots_length r.keys.rows,
      length_heads r.notes.items (entries_of r),
      fewer (slots r.keys.rows)
          (heads_of r.notes.items (entries_of r)) h.keys.different among,
    )
