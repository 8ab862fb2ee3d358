-- How groups change.
use Rattle.std.proofs.Common.{◌≡◌, ◌≢◌, ℕ, zero, suc, ◌+◌, ◌<◌, List, [], ◌∷◌, ◌++◌, length, slice_set, Option, Some}
use Rattle.std.proofs.Common.{None, refl, ap, ap₂, subst, sym, ◌∙◌, arith, inl, inr, get_or-set_same, get_or-set_other}
use Rattle.std.proofs.lemmas.List.{append-nil}
use Rattle.std.proofs.lemmas.Bool.{cases_Bool, cases_eq}
use Rattle.djq_arena.specs.declared.chain.Pair.{Pair}
use Rattle.djq_arena.specs.declared.chain.Ends.{Ends}
use Rattle.djq_arena.specs.Rows.{Row, IsAbsent, slots}
use Rattle.djq_arena.specs.Chains.{Linked, first_of, last_of, AreDistinctSlots, AreBelow, IsOut, AreOut, Avoids}
use Rattle.djq_arena.specs.Chains.{pair_at, entered, chain_without}
use Rattle.djq_arena.specs.Store.{ends_of, extended, shrunk}
use Rattle.djq_arena.proofs.Chains.{different_front, different_back, different_append, different_here, outs_swap}
use Rattle.djq_arena.proofs.Chains.{last_avoids, first_avoids, avoids_none, linked_same, entered_linked, entered_agree}
use Rattle.djq_arena.proofs.Chains.{left_linked, left_agree, prev_here, next_here}
use Rattle.djq_arena.proofs.Stores.{extended_is, shrunk_is}
use Rattle.djq_arena.proofs.Rows.{slots-append}
use Rattle.djq_index.specs.declared.raw.Note.{Note}
use Rattle.djq_index.specs.Tuple.{same, pick, one_if}
use Rattle.djq_index.specs.Entries.{Entry, group_size, group_of}
use Rattle.djq_index.specs.Raw.{note_at, slots_at, row_at, AreSeated, ends_at, AreGroups}
use Rattle.djq_index.proofs.Tuples.{is_same, same_cases, same_other, one_true, one_false, other_same, length_grp}
use Rattle.djq_index.proofs.Tuples.{many_middle, many_cons}
use Rattle.djq_index.proofs.Groups.{group_of-append, grp_yes, grp_no}
use Rattle.djq_index.proofs.Parts.{slots_at-append, slots_at_middle, slots_at_cons, no_group, no_ends, row_from_at}
use Rattle.djq_index.proofs.Parts.{row_at_nil, row_at_other, row_at_first, row_at_middle, slots_nil}

-- a group is among all
out_first : (i x : ℕ) (xs : List ℕ) → IsOut i (x ∷ xs) → (x ≡ i → ⊥) × IsOut i xs
unfolding IsOut
out_first i x xs h = h

out_more : (i x : ℕ) (xs : List ℕ) → (x ≡ i → ⊥) → IsOut i xs → IsOut i (x ∷ xs)
unfolding IsOut
out_more i x xs h k = (h, k)

out_nil : (i : ℕ) → IsOut i []
unfolding IsOut
out_nil i = tt

grp_nil : (key : List ℕ) (w : List ℕ) → group_of key [] w ≡ []
unfolding group_of
grp_nil key w = refl

pub group_out : (i : ℕ) (key : List ℕ) (es : List Entry) (w : List ℕ) → IsOut i (slots_at es)
    → IsOut i (slots_at (group_of key es w))
group_out i key [] w h = rw (grp_nil key w, slots_nil) (out_nil i)
group_out i key (e ∷ es) w h =
    let k = out_first i e.at.slot (slots_at es) (subst (IsOut i) (slots_at_cons e es) h) in
    elim (cases_Bool (same (pick key e.tuple) w)) [
      | inl here ↦ rw (grp_yes key e es w here, slots_at_cons)
          (out_more i e.at.slot (slots_at (group_of key es w)) k.0 (group_out i key es w k.1))
      | inr other ↦ rw (grp_no key e es w other) (group_out i key es w k.1)
    ]

different_first : (x : ℕ) (xs : List ℕ) → AreDistinctSlots (x ∷ xs) → IsOut x xs × AreDistinctSlots xs
unfolding AreDistinctSlots
different_first x xs h = h

different_more : (x : ℕ) (xs : List ℕ) → IsOut x xs → AreDistinctSlots xs → AreDistinctSlots (x ∷ xs)
unfolding AreDistinctSlots
different_more x xs h k = (h, k)

different_nil : AreDistinctSlots []
unfolding AreDistinctSlots
different_nil = tt

pub group_different : (key : List ℕ) (es : List Entry) (w : List ℕ) → AreDistinctSlots (slots_at es)
    → AreDistinctSlots (slots_at (group_of key es w))
group_different key [] w h = rw (grp_nil key w, slots_nil) different_nil
group_different key (e ∷ es) w h =
    let k = different_first e.at.slot (slots_at es) (subst AreDistinctSlots (slots_at_cons e es) h) in
    elim (cases_Bool (same (pick key e.tuple) w)) [
      | inl here ↦ rw (grp_yes key e es w here, slots_at_cons)
          (different_more e.at.slot (slots_at (group_of key es w)) (group_out e.at.slot key es w k.0)
          (group_different key es w k.1))
      | inr other ↦ rw (grp_no key e es w other) (group_different key es w k.1)
    ]

below_first : (n x : ℕ) (xs : List ℕ) → AreBelow n (x ∷ xs) → (x < n) × AreBelow n xs
unfolding AreBelow
below_first n x xs h = h

below_more : (n x : ℕ) (xs : List ℕ) → x < n → AreBelow n xs → AreBelow n (x ∷ xs)
unfolding AreBelow
below_more n x xs h k = (h, k)

below_nil : (n : ℕ) → AreBelow n []
unfolding AreBelow
below_nil n = tt

pub group_below : (n : ℕ) (key : List ℕ) (es : List Entry) (w : List ℕ) → AreBelow n (slots_at es)
    → AreBelow n (slots_at (group_of key es w))
group_below n key [] w h = rw (grp_nil key w, slots_nil) (below_nil n)
group_below n key (e ∷ es) w h =
    let k = below_first n e.at.slot (slots_at es) (subst (AreBelow n) (slots_at_cons e es) h) in
    elim (cases_Bool (same (pick key e.tuple) w)) [
      | inl here ↦ rw (grp_yes key e es w here, slots_at_cons)
          (below_more n e.at.slot (slots_at (group_of key es w)) k.0 (group_below n key es w k.1))
      | inr other ↦ rw (grp_no key e es w other) (group_below n key es w k.1)
    ]

-- two groups have no slot in common
outs_nil : (ys : List ℕ) → AreOut [] ys
unfolding AreOut
outs_nil ys = tt

outs_more : (x : ℕ) (xs ys : List ℕ) → IsOut x ys → AreOut xs ys → AreOut (x ∷ xs) ys
unfolding AreOut
outs_more x xs ys h k = (h, k)

pub groups_apart : (key : List ℕ) (es : List Entry) (v w : List ℕ) → (v ≡ w → ⊥) → AreDistinctSlots (slots_at es)
    → AreOut (slots_at (group_of key es v)) (slots_at (group_of key es w))
groups_apart key [] v w other h = rw (grp_nil key v, slots_nil) (outs_nil (slots_at (group_of key [] w)))
groups_apart key (e ∷ es) v w other h =
    let k = different_first e.at.slot (slots_at es) (subst AreDistinctSlots (slots_at_cons e es) h) in
    let rest = groups_apart key es v w other k.1 in
    elim (same_cases (pick key e.tuple) v) [
      | inl here ↦ rw (
        grp_yes key e es v (is_same (pick key e.tuple) v here),
        grp_no key e es w
            (same_other (pick key e.tuple) w (λ there_too. other (sym here ∙ there_too))),
        slots_at_cons,
      )
          (outs_more e.at.slot (slots_at (group_of key es v)) (slots_at (group_of key es w))
          (group_out e.at.slot key es w k.0)
          rest)
      | inr no_v ↦ elim (cases_Bool (same (pick key e.tuple) w)) [
        | inl in_w ↦ rw (grp_no key e es v no_v, grp_yes key e es w in_w, slots_at_cons)
            (outs_swap (e.at.slot ∷ slots_at (group_of key es w)) (slots_at (group_of key es v))
            (outs_more e.at.slot (slots_at (group_of key es w)) (slots_at (group_of key es v))
            (group_out e.at.slot key es v k.0)
            (outs_swap (slots_at (group_of key es v)) (slots_at (group_of key es w)) rest)))
        | inr no_w ↦ rw (grp_no key e es v no_v, grp_no key e es w no_w) rest
      ]
    ]

-- all groups are right, but that of w, whose head is h, may be empty
pub record AreGroupsBut (key : List ℕ) (notes : List Note) (links : List Pair) (keys : List Row) (ends : List Ends)
    (es : List Entry) (w : List ℕ) (h : ℕ) : Type 0 where
  pub chained : (v : List ℕ) → Linked links None (slots_at (group_of key es v)) None
  pub headed : (k : ℕ) (v : List ℕ) → row_at keys k ≡ Some v → ends_at ends k ≡ ends_of (slots_at (group_of key es v))
  pub some : (k : ℕ) (v : List ℕ) → row_at keys k ≡ Some v → (v ≡ w → ⊥) → 0 < group_size key es v
  pub none : (v : List ℕ) → IsAbsent keys v → group_size key es v ≡ 0
  pub once : (j k : ℕ) (v : List ℕ) → row_at keys j ≡ Some v → row_at keys k ≡ Some v → j ≡ k
  pub seated : AreSeated key notes keys es
  pub mine : row_at keys h ≡ Some w

pub but : (key : List ℕ) (notes : List Note) (links : List Pair) (keys : List Row) (ends : List Ends) (es : List Entry)
    (w : List ℕ) (h : ℕ) → AreGroups key notes links keys ends es → row_at keys h ≡ Some w
    → AreGroupsBut key notes links keys ends es w h
but key notes links keys ends es w h g mine = record {
  chained = g.chained;
  headed = g.headed;
  some = λ k v r other. g.some k v r;
  none = g.none;
  once = g.once;
  seated =
      g.seated;
  mine = mine;
}

one_row : (keys : List Row) (k : ℕ) (u v : List ℕ) → row_at keys k ≡ Some u → row_at keys k ≡ Some v → u ≡ v
one_row keys k u v h l = let e : Some u ≡ Some v = sym h ∙ l in cc

seated_push : (key : List ℕ) (notes : List Note) (keys : List Row) (es : List Entry) (e : Entry)
    → AreSeated key notes keys es → row_at keys (note_at notes e.at.slot).head ≡ Some (pick key e.tuple)
    → AreSeated key notes keys (es ++ e ∷ [])
unfolding AreSeated
seated_push key notes keys [] e h k = (k, tt)
seated_push key notes keys (x ∷ es) e h k = (h.0, seated_push key notes keys es e h.1 k)

seated_out : (key : List ℕ) (notes : List Note) (keys : List Row) (xs : List Entry) (e : Entry) (ys : List Entry)
    → AreSeated key notes keys (xs ++ e ∷ ys) → AreSeated key notes keys (xs ++ ys)
    × (row_at keys (note_at notes e.at.slot).head ≡ Some (pick key e.tuple))
unfolding AreSeated
seated_out key notes keys [] e ys h = (h.1, h.0)
seated_out key notes keys (x ∷ xs) e ys h = let k = seated_out key notes keys xs e ys h.1 in ((h.0, k.0), k.1)

pub seat_of : (key : List ℕ) (notes : List Note) (keys : List Row) (xs : List Entry) (e : Entry) (ys : List Entry)
    → AreSeated key notes keys (xs ++ e ∷ ys) → row_at keys (note_at notes e.at.slot).head ≡ Some (pick key e.tuple)
seat_of key notes keys xs e ys h = (seated_out key notes keys xs e ys h).1

group_push : (key : List ℕ) (es : List Entry) (e : Entry) (w : List ℕ) → pick key e.tuple ≡ w
    → group_of key (es ++ e ∷ []) w
    ≡ group_of key es w ++ e ∷ []
group_push key es e w h = group_of-append key es (e ∷ []) w
    ∙ ap (λ (g : List Entry). group_of key es w ++ g)
    (grp_yes key e [] w (is_same (pick key e.tuple) w h) ∙ ap (λ (g : List Entry). e ∷ g) (grp_nil key w))

group_else : (key : List ℕ) (es : List Entry) (e : Entry) (v : List ℕ) → (pick key e.tuple ≡ v → ⊥)
    → group_of key (es ++ e ∷ []) v ≡ group_of key es v
group_else key es e v h = group_of-append key es (e ∷ []) v
    ∙ ap (λ (g : List Entry). group_of key es v ++ g) (grp_no key e [] v (same_other (pick key e.tuple) v h) ∙ grp_nil
    key v)
    ∙ append-nil (group_of key es v)

many_push : (key : List ℕ) (es : List Entry) (e : Entry) (v : List ℕ) → group_size key (es ++ e ∷ []) v
    ≡ group_size key es v + one_if (same (pick key e.tuple) v)
many_push key es e v = omega (
  arith,
  many_middle key es e [] v,
  ap (λ (ds : List Entry). group_size key ds v)
      (append-nil es),
)

slots_push : (g : List Entry) (e : Entry) (i : ℕ) → e.at.slot ≡ i → slots_at (g ++ e ∷ []) ≡ slots_at g ++ i ∷ []
slots_push g e i h = slots_at_middle g e [] ∙ ap₂ (λ (j : ℕ) (zs : List ℕ). slots_at g ++ j ∷ zs) h slots_nil

avoid_last : (xs zs : List ℕ) → AreDistinctSlots xs → AreDistinctSlots zs → AreOut xs zs → Avoids (last_of xs) zs
avoid_last xs zs d e o = last_avoids None xs zs (avoids_none zs) (different_append xs zs d e o)

avoid_first : (xs zs : List ℕ) → AreDistinctSlots xs → AreDistinctSlots zs → AreOut xs zs → Avoids (first_of xs) zs
avoid_first xs zs d e o = first_avoids xs zs (different_append xs zs d e o)

absent_first : (r : Row) (rs : List Row) (u : List ℕ) → IsAbsent (r ∷ rs) u → (r.cells ≡ u → ⊥) × IsAbsent rs u
unfolding IsAbsent
absent_first r rs u h = h

absent_middle : (rs : List Row) (r : Row) (ss : List Row) (u : List ℕ) → r.cells ≡ u → IsAbsent (rs ++ r ∷ ss) u → ⊥
absent_middle [] r ss u h k = (absent_first r ss u k).0 h
absent_middle (q ∷ rs) r ss u h k = absent_middle rs r ss u h (absent_first q (rs ++ r ∷ ss) u k).1

-- a head's cells aren't absent
pub present : (keys : List Row) (h : ℕ) (w v : List ℕ) → row_at keys h ≡ Some w → w ≡ v → IsAbsent keys v → ⊥
present keys h w v r same_one absent =
    let row = row_from_at keys h w r in
    absent_middle row.front (record { slot = h; cells = w }) row.back v same_one
    (subst (λ rs. IsAbsent rs v) row.is absent)

-- a slot joins its group
module _ (key : List ℕ) (notes more : List Note) (links : List Pair) (keys : List Row) (ends : List Ends)
    (es : List Entry) (w : List ℕ) (h : ℕ) (e : Entry) (i : ℕ)
    (g : AreGroupsBut key notes links keys ends es w h) (its : pick key e.tuple ≡ w) (at : e.at.slot ≡ i)
    (out : IsOut i (slots_at es)) (d : AreDistinctSlots (slots_at es)) (b : AreBelow (length links) (slots_at es))
    (within : i < length links) (inside : h < length ends)
    (seats : AreSeated key more keys es) (seat : (note_at more i).head ≡ h) where
  joined : List Pair
  joined = entered (ends_at ends h).last i links

  last_is : (ends_at ends h).last ≡ last_of (slots_at (group_of key es w))
  last_is = ap (λ (v : Ends). v.last) (g.headed h w g.mine)

  join_mine : Linked joined None (slots_at (group_of key (es ++ e ∷ []) w)) None
  unfolding joined
  join_mine = rw (group_push key es e w its, slots_push (group_of key es w) e i at, last_is)
      (entered_linked links (slots_at (group_of key es w)) i (group_different key es w d)
      (group_below (length links) key es w b) (group_out i key es w out) within (g.chained w))

  join_other : (v : List ℕ) → (v ≡ w → ⊥) → Linked joined None (slots_at (group_of key (es ++ e ∷ []) v)) None
  unfolding joined
  join_other v other = rw (group_else key es e v (λ k. other (sym k ∙ its)), last_is)
      (linked_same links (entered (last_of (slots_at (group_of key es w))) i links) None
      (slots_at (group_of key es v)) None
      (entered_agree links (last_of (slots_at (group_of key es w))) i (slots_at (group_of key es v))
      (avoid_last (slots_at (group_of key es w)) (slots_at (group_of key es v)) (group_different key es w d)
      (group_different key es v d) (groups_apart key es w v (λ k. other (sym k)) d))
      (group_out i key es v out))
      (g.chained v))

  join_chained : (v : List ℕ) → Linked joined None (slots_at (group_of key (es ++ e ∷ []) v)) None
  join_chained v = elim (same_cases v w) [
    | inl here ↦ subst (λ u. Linked joined None (slots_at (group_of key (es ++ e ∷ []) u)) None) (sym here) join_mine
    | inr
        other ↦ join_other v (other_same v w other)
  ]

  join_headed : (k : ℕ) (v : List ℕ) → row_at keys k ≡ Some v
      → ends_at (slice_set ends h (extended i (ends_at ends h))) k ≡ ends_of (slots_at (group_of key (es ++ e ∷ []) v))
  join_headed k v r = elim (cases_eq k h) [
    | inl here ↦ (let same_key : v ≡ w = one_row keys h v w (subst (λ j. row_at keys j ≡ Some v) here r) g.mine in
        rw (here, same_key, group_push key es e w its, slots_push (group_of key es w) e i at)
        (get_or-set_same ends h (extended i (ends_at ends h)) (record { first = None; last = None }) inside
        ∙ ap (extended i) (g.headed h w g.mine) ∙ extended_is (slots_at (group_of key es w)) i))
    | inr other ↦ rw (group_else key es e v
        (λ q. other (g.once k h w (subst (λ u. row_at keys k ≡ Some u) (sym q ∙ its) r) g.mine)))
        (get_or-set_other ends h k (extended i (ends_at ends h)) (record { first = None; last = None }) other
        ∙ g.headed k v r)
  ]

  pub join_groups : AreGroups key more (entered (ends_at ends h).last i links) keys
      (slice_set ends h (extended i (ends_at ends h))) (es ++ e ∷ [])
  unfolding joined
  join_groups = record {
    chained = join_chained;
    headed = join_headed;
    some = λ k v r. elim (same_cases v w) [
      | inl here ↦ omega (
        arith,
        many_push key es e v,
        one_true (same (pick key e.tuple) v)
            (is_same (pick key e.tuple) v (its ∙ sym here)),
      )
      | inr other ↦ (let old = g.some k v r (other_same v w other) in omega (arith, many_push key es e v, old))
    ];
    none = λ v absent. omega (
      arith,
      many_push key es e v,
      g.none v absent,
      one_false (same (pick key e.tuple) v)
          (same_other (pick key e.tuple) v (λ q. present keys h w v g.mine (sym its ∙ q) absent)),
    );
    once = g.once;
    seated = seated_push key more keys es e seats
        (ap (λ (j : ℕ). row_at keys (note_at more j).head) at ∙ ap (row_at keys) seat ∙ g.mine ∙ ap Some (sym its));
  }

outs_front : (xs ys zs : List ℕ) → AreOut (xs ++ ys) zs → AreOut xs zs
unfolding AreOut
outs_front [] ys zs h = tt
outs_front (x ∷ xs) ys zs h = (h.0, outs_front xs ys zs h.1)

outs_back : (xs : List ℕ) (i : ℕ) (ys zs : List ℕ) → AreOut (xs ++ i ∷ ys) zs → AreOut ys zs
unfolding AreOut
outs_back [] i ys zs h = h.1
outs_back (x ∷ xs) i ys zs h = outs_back xs i ys zs h.1

different_rest : (x : ℕ) (xs : List ℕ) → AreDistinctSlots (x ∷ xs) → AreDistinctSlots xs
unfolding AreDistinctSlots
different_rest x xs h = h.1

no_slots : (es : List Entry) → first_of (slots_at es) ≡ None → es ≡ []
unfolding slots_at
no_slots [] h = refl
no_slots (e ∷ es) h = absurd cc

-- a slot leaves its group
pub group_middle : (key : List ℕ) (xs : List Entry) (e : Entry) (ys : List Entry) (w : List ℕ) → pick key e.tuple ≡ w
    → group_of key (xs ++ e ∷ ys) w ≡ group_of key xs w ++ e ∷ group_of key ys w
group_middle key xs e ys w h = group_of-append key xs (e ∷ ys) w
    ∙ ap (λ (g : List Entry). group_of key xs w ++ g) (grp_yes key e ys w (is_same (pick key e.tuple) w h))

group_past : (key : List ℕ) (xs : List Entry) (e : Entry) (ys : List Entry) (v : List ℕ) → (pick key e.tuple ≡ v → ⊥)
    → group_of key (xs ++ e ∷ ys) v ≡ group_of key (xs ++ ys) v
group_past key xs e ys v h = group_of-append key xs (e ∷ ys) v
    ∙ ap (λ (g : List Entry). group_of key xs v ++ g) (grp_no key e ys v (same_other (pick key e.tuple) v h))
    ∙ sym (group_of-append key xs ys v)

slots_cut : (f : List Entry) (e : Entry) (g : List Entry) (i : ℕ) → e.at.slot ≡ i → slots_at (f ++ e ∷ g)
    ≡ slots_at f ++ i ∷ slots_at g
slots_cut f e g i h = slots_at_middle f e g ∙ ap (λ (j : ℕ). slots_at f ++ j ∷ slots_at g) h

module _ (key : List ℕ) (notes : List Note) (links : List Pair) (keys : List Row) (ends : List Ends) (xs : List Entry)
    (e : Entry) (ys : List Entry) (h i : ℕ)
    (g : AreGroups key notes links keys ends (xs ++ e ∷ ys)) (at : e.at.slot ≡ i) (seat : (note_at notes i).head ≡ h)
    (d : AreDistinctSlots (slots_at (xs ++ e ∷ ys))) (b : AreBelow (length links) (slots_at (xs ++ e ∷ ys)))
    (inside : h < length ends) where
  its_key : List ℕ
  its_key = pick key e.tuple

  parted : List Pair
  parted = chain_without (pair_at links i) links

  its_head : row_at keys h ≡ Some its_key
  unfolding its_key
  its_head = ap (row_at keys) (sym seat ∙ ap (λ (j : ℕ). (note_at notes j).head) (sym at))
      ∙ seat_of key notes keys xs e ys g.seated

  its_chain : Linked links None (slots_at (group_of key xs its_key) ++ i ∷ slots_at (group_of key ys its_key)) None
  unfolding its_key
  its_chain = subst (λ zs. Linked links None zs None)
      (ap slots_at (group_middle key xs e ys (pick key e.tuple) refl)
      ∙ slots_cut (group_of key xs (pick key e.tuple)) e (group_of key ys (pick key e.tuple)) i at)
      (g.chained (pick key e.tuple))

  its_prev : (pair_at links i).prev ≡ last_of (slots_at (group_of key xs its_key))
  its_prev = prev_here links (slots_at (group_of key xs its_key)) i (slots_at (group_of key ys its_key)) its_chain

  its_next : (pair_at links i).next ≡ first_of (slots_at (group_of key ys its_key))
  its_next = next_here links (slots_at (group_of key xs its_key)) i (slots_at (group_of key ys its_key)) its_chain

  its_slots : slots_at (group_of key (xs ++ e ∷ ys) its_key)
      ≡ slots_at (group_of key xs its_key) ++ i ∷ slots_at (group_of key ys its_key)
  unfolding its_key
  its_slots = ap slots_at (group_middle key xs e ys (pick key e.tuple) refl)
      ∙ slots_cut (group_of key xs (pick key e.tuple)) e (group_of key ys (pick key e.tuple)) i at

  rest_slots : slots_at (group_of key (xs ++ ys) its_key) ≡ slots_at (group_of key xs its_key) ++ slots_at
      (group_of key ys its_key)
  rest_slots = ap slots_at (group_of-append key xs ys its_key) ∙ slots_at-append (group_of key xs its_key)
      (group_of key ys its_key)

  part_mine : Linked parted None (slots_at (group_of key (xs ++ ys) its_key)) None
  unfolding parted
  part_mine = rw rest_slots (left_linked links (slots_at (group_of key xs its_key)) i
      (slots_at (group_of key ys its_key))
      (subst AreDistinctSlots its_slots (group_different key (xs ++ e ∷ ys) its_key d))
      (subst (AreBelow (length links)) its_slots (group_below (length links) key (xs ++ e ∷ ys) its_key b)) its_chain)

  mine_out : (v : List ℕ) → (v ≡ its_key → ⊥)
      → AreOut (slots_at (group_of key xs its_key) ++ i ∷ slots_at (group_of key ys its_key))
      (slots_at (group_of key (xs ++ e ∷ ys) v))
  mine_out v other = subst (λ zs. AreOut zs (slots_at (group_of key (xs ++ e ∷ ys) v))) its_slots
      (groups_apart key (xs ++ e ∷ ys) its_key v (λ k. other (sym k)) d)

  part_other : (v : List ℕ) → (v ≡ its_key → ⊥) → Linked parted None (slots_at (group_of key (xs ++ ys) v)) None
  unfolding parted its_key
  part_other v other = rw (← (group_past key xs e ys v (λ k. other (sym k))))
      (linked_same links (chain_without (pair_at links i) links) None (slots_at (group_of key (xs ++ e ∷ ys) v)) None
      (left_agree links (pair_at links i) (slots_at (group_of key (xs ++ e ∷ ys) v))
      (rw its_prev (avoid_last (slots_at (group_of key xs its_key)) (slots_at (group_of key (xs ++ e ∷ ys) v))
      (group_different key xs its_key
      (different_front (slots_at xs) (slots_at (e ∷ ys)) (subst AreDistinctSlots (slots_at-append xs (e ∷ ys)) d)))
      (group_different key (xs ++ e ∷ ys) v d)
      (outs_front (slots_at (group_of key xs its_key)) (i ∷ slots_at (group_of key ys its_key))
      (slots_at (group_of key (xs ++ e ∷ ys) v)) (mine_out v other))))
      (rw its_next (avoid_first (slots_at (group_of key ys its_key)) (slots_at (group_of key (xs ++ e ∷ ys) v))
      (group_different key ys its_key
      (different_rest e.at.slot (slots_at ys)
      (subst AreDistinctSlots (slots_at_cons e ys)
      (different_back (slots_at xs) (slots_at (e ∷ ys)) (subst AreDistinctSlots (slots_at-append xs (e ∷ ys)) d)))))
      (group_different key (xs ++ e ∷ ys) v d)
      (outs_back (slots_at (group_of key xs its_key)) i (slots_at (group_of key ys its_key))
      (slots_at (group_of key (xs ++ e ∷ ys) v))
      (mine_out v other)))))
      (g.chained v))

  part_chained : (v : List ℕ) → Linked parted None (slots_at (group_of key (xs ++ ys) v)) None
  part_chained v = elim (same_cases v its_key) [
    | inl here ↦ subst (λ u. Linked parted None (slots_at (group_of key (xs ++ ys) u)) None) (sym here) part_mine
    | inr
        other ↦ part_other v (other_same v its_key other)
  ]

  part_headed : (k : ℕ) (v : List ℕ) → row_at keys k ≡ Some v
      → ends_at (slice_set ends h (shrunk (pair_at links i) (ends_at ends h))) k
      ≡ ends_of (slots_at (group_of key (xs ++ ys) v))
  unfolding its_key
  part_headed k v r = elim (cases_eq k h) [
    | inl here ↦ (let same_key : v
        ≡ pick key e.tuple = one_row keys h v (pick key e.tuple) (subst (λ j. row_at keys j ≡ Some v) here r) its_head
        in
        rw (here, same_key, rest_slots)
        (get_or-set_same ends h (shrunk (pair_at links i) (ends_at ends h)) (record { first = None; last = None })
        inside
        ∙ ap (shrunk (pair_at links i)) (g.headed h (pick key e.tuple) its_head ∙ ap ends_of its_slots)
        ∙ shrunk_is (pair_at links i) (slots_at (group_of key xs (pick key e.tuple))) i
        (slots_at (group_of key ys (pick key e.tuple))) its_prev its_next))
    | inr other ↦ rw (← (group_past key xs e ys v
        (λ q. other (g.once k h (pick key e.tuple) (subst (λ u. row_at keys k ≡ Some u) (sym q) r) its_head))))
        (get_or-set_other ends h k (shrunk (pair_at links i) (ends_at ends h)) (record { first = None; last = None })
        other ∙ g.headed k v r)
  ]

  pub part_groups : AreGroupsBut key notes (chain_without (pair_at links i) links) keys
      (slice_set ends h (shrunk (pair_at links i) (ends_at ends h))) (xs ++ ys) (pick key e.tuple) h
  unfolding its_key parted
  part_groups = record {
    chained = part_chained;
    headed = part_headed;
    some = λ k v r other.
        (let old = g.some k v r in omega (
          arith,
          many_middle key xs e ys v,
          old,
          one_false (same (pick key e.tuple) v)
              (same_other (pick key e.tuple) v (λ q. other (sym q))),
        ));
    none = λ v absent. omega (arith, many_middle key xs e ys v, g.none v absent);
    once = g.once;
    seated = (seated_out key notes keys xs e ys g.seated).0;
    mine = its_head;
  }

-- a head goes with its last tuple
slots_first : (q : Row) (qs : List Row) → slots (q ∷ qs) ≡ q.slot ∷ slots qs
unfolding slots
slots_first q qs = refl

row_gone : (ks : List Row) (r : Row) (ls : List Row) (k : ℕ) → (k ≡ r.slot → ⊥) → row_at (ks ++ ls) k
    ≡ row_at (ks ++ r ∷ ls) k
row_gone [] r ls k other = sym (row_at_other r ls k (λ q. other (sym q)))
row_gone (q ∷ ks) r ls k other =
    elim (cases_eq q.slot k) [
      | inl here ↦ row_at_first q (ks ++ ls) k here ∙ sym (row_at_first q (ks ++ r ∷ ls) k here)
      | inr no_q ↦ row_at_other q (ks ++ ls) k no_q ∙ row_gone ks r ls k other
          ∙ sym (row_at_other q (ks ++ r ∷ ls) k no_q)
    ]

no_row : (rs : List Row) (k : ℕ) → IsOut k (slots rs) → row_at rs k ≡ None
no_row [] k h = row_at_nil k
no_row (r ∷ rs) k h = let o = out_first k r.slot (slots rs) (subst (IsOut k) (slots_first r rs) h) in row_at_other r rs
    k o.0 ∙ no_row rs k o.1

out_of_rest : (ks : List Row) (r : Row) (ls : List Row) → AreDistinctSlots (slots (ks ++ r ∷ ls))
    → IsOut r.slot (slots (ks ++ ls))
out_of_rest ks r ls d = subst (IsOut r.slot) (sym (slots-append ks ls))
    (different_here (slots ks) r.slot (slots ls)
    (subst AreDistinctSlots (slots-append ks (r ∷ ls) ∙ ap (λ (zs : List ℕ). slots ks ++ zs) (slots_first r ls)) d))

absent_in : (ks : List Row) (r : Row) (ls : List Row) (v : List ℕ) → (r.cells ≡ v → ⊥) → IsAbsent (ks ++ ls) v
    → IsAbsent (ks ++ r ∷ ls) v
unfolding IsAbsent
absent_in [] r ls v h k = (h, k)
absent_in (q ∷ ks) r ls v h k = (k.0, absent_in ks r ls v h k.1)

none_some : {A : Type 0} (o : Option A) (x : A) → o ≡ None → o ≡ Some x → ⊥
none_some o x h k = let e : None ≡ Some x = sym h ∙ k in cc

many_first : (key : List ℕ) (e : Entry) (es : List Entry) (w : List ℕ) → group_size key (e ∷ es) w ≡ 0
    → (pick key e.tuple ≡ w → ⊥) × (group_size key es w ≡ 0)
many_first key e es w h = (
  (λ q. omega (
    arith,
    h,
    many_cons key e es w,
    one_true (same (pick key e.tuple) w)
        (is_same (pick key e.tuple) w q),
  )),
  omega (arith, h, many_cons key e es w),
)

seated_first : (key : List ℕ) (notes : List Note) (keys : List Row) (e : Entry) (es : List Entry)
    → AreSeated key notes keys (e ∷ es) → (row_at keys (note_at notes e.at.slot).head ≡ Some (pick key e.tuple))
    × AreSeated key notes keys es
unfolding AreSeated
seated_first key notes keys e es h = h

seated_more : (key : List ℕ) (notes : List Note) (keys : List Row) (e : Entry) (es : List Entry)
    → row_at keys (note_at notes e.at.slot).head ≡ Some (pick key e.tuple) → AreSeated key notes keys es
    → AreSeated key notes keys (e ∷ es)
unfolding AreSeated
seated_more key notes keys e es h k = (h, k)

seated_none : (key : List ℕ) (notes : List Note) (keys : List Row) → AreSeated key notes keys []
unfolding AreSeated
seated_none key notes keys = tt

seated_gone : (key : List ℕ) (notes : List Note) (ks : List Row) (r : Row) (ls : List Row) (es : List Entry)
    → row_at (ks ++ r ∷ ls) r.slot ≡ Some r.cells → group_size key es r.cells ≡ 0
    → AreSeated key notes (ks ++ r ∷ ls) es → AreSeated key notes (ks ++ ls) es
seated_gone key notes ks r ls [] mine none h = seated_none key notes (ks ++ ls)
seated_gone key notes ks r ls (e ∷ es) mine none h =
    let s = seated_first key notes (ks ++ r ∷ ls) e es h in
    let m = many_first key e es r.cells none in
    seated_more key notes (ks ++ ls) e es
    (row_gone ks r ls (note_at notes e.at.slot).head
    (λ q. m.0 (one_row (ks ++ r ∷ ls) r.slot (pick key e.tuple) r.cells
    (subst (λ j. row_at (ks ++ r ∷ ls) j ≡ Some (pick key e.tuple)) q s.0) mine)) ∙ s.0)
    (seated_gone key notes ks r ls es mine m.1 s.1)

pub pruned : (key : List ℕ) (notes : List Note) (links : List Pair) (ks : List Row) (r : Row) (ls : List Row)
    (ends : List Ends) (es : List Entry) (w : List ℕ) (h : ℕ)
    → AreGroupsBut key notes links (ks ++ r ∷ ls) ends es w h → r.slot ≡ h → AreDistinctSlots (slots (ks ++ r ∷ ls))
    → group_size key es w ≡ 0 → AreGroups key notes links (ks ++ ls) ends es
pruned key notes links ks r ls ends es w h g at d empty = record {
  chained = g.chained;
  headed = λ k v q. g.headed k v (back k v q);
  some = λ k v q. g.some k v (back k v q)
      (λ s. other k v q (g.once k h w (subst (λ u. row_at (ks ++ r ∷ ls) k ≡ Some u) s (back k v q)) g.mine));
  none = λ v absent. elim (same_cases v w) [
    | inl here ↦ subst (λ u. group_size key es u ≡ 0) (sym here) empty
    | inr no_w ↦ g.none v
        (absent_in ks r ls v (λ q. other_same v w no_w (sym (sym cells ∙ q))) absent)
  ];
  once = λ j k v p q. g.once j k v (back j v p) (back k v q);
  seated = seated_gone key notes ks r ls es (subst (λ j. row_at (ks ++ r ∷ ls) j ≡ Some r.cells) refl mine)
      (subst (λ u. group_size key es u ≡ 0) (sym cells) empty) g.seated;
}
  where
    mine : row_at (ks ++ r ∷ ls) r.slot ≡ Some r.cells
    mine = row_at_middle ks r.slot r.cells ls d

    cells : r.cells ≡ w
    cells = one_row (ks ++ r ∷ ls) r.slot r.cells w mine (subst (λ j. row_at (ks ++ r ∷ ls) j ≡ Some w) (sym at) g.mine)

    gone : row_at (ks ++ ls) h ≡ None
    gone = subst (λ j. row_at (ks ++ ls) j ≡ None) at (no_row (ks ++ ls) r.slot (out_of_rest ks r ls d))

    other : (k : ℕ) (v : List ℕ) → row_at (ks ++ ls) k ≡ Some v → k ≡ h → ⊥
    other k v q s = none_some (row_at (ks ++ ls) h) v gone (subst (λ j. row_at (ks ++ ls) j ≡ Some v) s q)

    back : (k : ℕ) (v : List ℕ) → row_at (ks ++ ls) k ≡ Some v → row_at (ks ++ r ∷ ls) k ≡ Some v
    back k v q = sym (row_gone ks r ls k (λ s. other k v q (s ∙ at))) ∙ q

-- where the head knows an end, its group isn't empty
first_none : (es : List Entry) → es ≡ [] → first_of (slots_at es) ≡ None
first_none es h = ap (λ (g : List Entry). first_of (slots_at g)) h ∙ ap first_of slots_nil

pub kept : (key : List ℕ) (notes : List Note) (links : List Pair) (keys : List Row) (ends : List Ends) (es : List Entry)
    (w : List ℕ) (h : ℕ)
    → AreGroupsBut key notes links keys ends es w h → ((ends_at ends h).first ≡ None → ⊥)
    → AreGroups key notes links keys ends es
kept key notes links keys ends es w h g some_end = record {
  chained = g.chained;
  headed = g.headed;
  none = g.none;
  once = g.once;
  seated = g.seated;
  some = λ k v q. elim (same_cases v w) [
    | inl here ↦ subst (λ u. 0 < group_size key es u) (sym here) (positive (group_size key es w) refl)
    | inr other ↦ g.some k v q
        (other_same v w other)
  ];
}
  where
    positive : (n : ℕ) → group_size key es w ≡ n → 0 < group_size key es w
    positive zero k = absurd
        (some_end (ap (λ (v : Ends). v.first) (g.headed h w g.mine) ∙ first_none (group_of key es w)
        (no_group key es w k)))
    positive (suc n) k = omega (arith, k)

pub emptied : (key : List ℕ) (es : List Entry) (w : List ℕ) (o : Option ℕ)
    → o ≡ first_of (slots_at (group_of key es w)) → o
    ≡ None → group_size key es w ≡ 0
emptied key es w o h none = sym (length_grp key es w)
    ∙ ap (λ (g : List Entry). length g) (no_slots (group_of key es w) (sym h ∙ none))

-- a new head
row_push : (keys : List Row) (r : Row) (k : ℕ) → (k ≡ r.slot → ⊥) → row_at (keys ++ r ∷ []) k ≡ row_at keys k
row_push keys r k other = sym (row_gone keys r [] k other) ∙ ap (λ (rs : List Row). row_at rs k) (append-nil keys)

seated_found : (key : List ℕ) (notes : List Note) (keys : List Row) (r : Row) (es : List Entry) → row_at keys r.slot
    ≡ None → AreSeated key notes keys es → AreSeated key notes (keys ++ r ∷ []) es
seated_found key notes keys r [] none h = seated_none key notes (keys ++ r ∷ [])
seated_found key notes keys r (e ∷ es) none h =
    let s = seated_first key notes keys e es h in
    seated_more key notes (keys ++ r ∷ []) e es
    (row_push keys r (note_at notes e.at.slot).head
    (λ q. none_some (row_at keys r.slot) (pick key e.tuple) none
    (subst (λ j. row_at keys j ≡ Some (pick key e.tuple)) q s.0)) ∙ s.0)
    (seated_found key notes keys r es none s.1)

absent_push : (keys : List Row) (r : Row) (v : List ℕ) → IsAbsent (keys ++ r ∷ []) v → IsAbsent keys v
unfolding IsAbsent
absent_push [] r v h = tt
absent_push (q ∷ keys) r v h = (h.0, absent_push keys r v h.1)

pub founded : (key : List ℕ) (notes : List Note) (links : List Pair) (keys : List Row) (h : ℕ) (w : List ℕ)
    (ends more : List Ends) (es : List Entry)
    → AreGroups key notes links keys ends es → IsAbsent keys w
    → AreDistinctSlots (slots (keys ++ record { slot = h; cells = w } ∷ []))
    → ends_at more h ≡ record { first = None; last = None } → ((k : ℕ) → k ≢ h → ends_at more k ≡ ends_at ends k)
    → AreGroupsBut key notes links (keys ++ record { slot = h; cells = w } ∷ []) more es w h
founded key notes links keys h w ends more es g absent d blank others = record {
  chained = g.chained;
  headed = λ k v q. elim (cases_eq k h) [
    | inl here ↦ (let same_key : v
        ≡ w = one_row (keys ++ r ∷ []) h v w (subst (λ j. row_at (keys ++ r ∷ []) j ≡ Some v) here q) mine in
        rw (here, same_key) (blank ∙ sym (no_ends key es w (g.none w absent))))
    | inr other ↦ others k other ∙ g.headed k v (sym (row_push keys r k other) ∙ q)
  ];
  some = λ k v q no_w. elim (cases_eq k h) [
    | inl here ↦ absurd (no_w
        (one_row (keys ++ r ∷ []) h v w (subst (λ j. row_at (keys ++ r ∷ []) j ≡ Some v) here q) mine))
    | inr other ↦ g.some k v (sym (row_push keys r k other) ∙ q)
  ];
  none = λ v none. g.none v (absent_push keys r v none);
  once = λ j k v p q. elim (cases_eq j h) [
    | inl j_is ↦ elim (cases_eq k h) [
      | inl k_is ↦ j_is ∙ sym k_is
      | inr k_not ↦ absurd (present keys k v w (sym (row_push keys r k k_not) ∙ q)
          (one_row (keys ++ r ∷ []) h v w (subst (λ i. row_at (keys ++ r ∷ []) i ≡ Some v) j_is p) mine) absent)
    ]
    | inr j_not ↦ elim (cases_eq k h) [
      | inl k_is ↦ absurd (present keys j v w (sym (row_push keys r j j_not) ∙ p)
          (one_row (keys ++ r ∷ []) h v w (subst (λ i. row_at (keys ++ r ∷ []) i ≡ Some v) k_is q) mine) absent)
      | inr k_not ↦ g.once j k v (sym (row_push keys r j j_not) ∙ p) (sym (row_push keys r k k_not) ∙ q)
    ]
  ];
  seated = seated_found key notes keys r es gone g.seated;
  mine = mine;
}
  where
    r : Row
    r = record { slot = h; cells = w }

    mine : row_at (keys ++ r ∷ []) h ≡ Some w
    mine = row_at_middle keys h w [] d

    gone : row_at keys h ≡ None
    gone = no_row keys h (subst (IsOut h) (ap slots (append-nil keys)) (out_of_rest keys r [] d))
