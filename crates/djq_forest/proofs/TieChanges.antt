-- How ties change, as their callers see them.
use Rattle.std.specs.Prelude.{◌≡◌, ℕ, ◌<◌, ◌≤◌, Bool, true, false, ◌||◌, ◌==◌, List, [], ◌∷◌, ◌++◌}
use Rattle.std.specs.Prelude.{length, slice_index, slice_index_or, slice_set, Option, Some, None, is_none, is_some, not}
use Rattle.std.proofs.Common.{refl, sym, ◌∙◌, ap, ap₂, subst, arith, inl, inr, length-set, get_or-set_same}
use Rattle.std.proofs.lemmas.Bool.{cases_lt, eqb-false, ne_eqb, eq-eqb}
use Rattle.std.proofs.lemmas.List.{length-map, get_or_past}
use Rattle.djq_arena.specs.declared.chain.Pair.{Pair}
use Rattle.djq_arena.specs.declared.link.TheConstants.{SLOTS}
use Rattle.djq_arena.specs.Chains.{first_of, last_of, IsOut, AreDistinctSlots, AreBelow, pair_at}
use Rattle.djq_arena.specs.Chains.{set_prev, chain_without, IsSlotBelow}
use Rattle.djq_arena.specs.Buckets.{reheaded}
use Rattle.djq_arena.specs.Store.{HoldsSlot}
use Rattle.djq_arena.proofs.Chains.{in_or_out, below_here, first_within, last_within}
use Rattle.djq_arena.proofs.Stores.{some_last}
use Rattle.djq_arena.proofs.Chains.{prev_here, next_here, below_front, below_back, different_here, out_front}
use Rattle.djq_hypergraph.specs.Hypergraph.{member}
use Rattle.djq_forest.specs.declared.ties.Tie.{Tie}
use Rattle.djq_forest.specs.Invariants.{is_empty}
use Rattle.djq_forest.specs.TieLists.{TieLists, AreTieLists, tie_at, list_at, is_in_list, put_in_front, taken_out, list_less}
use Rattle.djq_forest.specs.Ties.{tie_in, head_in, tos, pairs, list_from, lists_in, prev_set, next_set, beside_set}
use Rattle.djq_forest.specs.Ties.{AreTiedTo, IsTieList, AreLinked, TiesAreSound, fronted}
use Rattle.djq_forest.proofs.Links.{length-tos, tos_at, pairs_at, tos-prev_set, tos-next_set, tos-beside_set}
use Rattle.djq_forest.proofs.Links.{pairs-prev_set, pairs-next_set, pairs-beside_set, lists_are, enters, leaves}
use Rattle.djq_forest.proofs.Links.{same_count}

-- ---- whether a slot is in a list

or_first : (a b : Bool) → (a || b) ≡ false → a ≡ false
or_first true b h = h
or_first false b h = refl

or_second : (a b : Bool) → (a || b) ≡ false → b ≡ false
or_second true b h = absurd cc
or_second false b h = h

pub member_not : (x : ℕ) (xs : List ℕ) → member x xs ≡ false → IsOut x xs
unfolding IsOut
member_not x [] h = tt
member_not x (y ∷ ys) h =
    ((λ e. eqb-false x y (or_first (x == y) (member x ys) h) (sym e)), member_not x ys (or_second (x == y) (member x ys) h))

pub not_member : (x : ℕ) (xs : List ℕ) → IsOut x xs → member x xs ≡ false
unfolding IsOut
not_member x [] h = refl
not_member x (y ∷ ys) h = rw (ne_eqb x y (λ e. h.0 (sym e)), not_member x ys h.1) refl

pub member_held : (x : ℕ) (xs : List ℕ) → member x xs ≡ true → HoldsSlot xs x
member_held x xs h =
    elim (in_or_out x xs) [ inl held ↦ held | inr out ↦ absurd (let k = not_member x xs out in cc) ]

-- ---- what is seen of ties

abbrev pub value : List Tie → List (Option ℕ) → TieLists
value ts heads = record { ties = tos ts; lists = lists_in ts heads }

pub seen : (ts : List Tie) (heads : List (Option ℕ)) (lists : List (List ℕ)) → AreLinked ts heads lists
    → length ts ≤ SLOTS → TiesAreSound ts heads
seen ts heads lists h few = record {
  linked = subst (λ (ls : List (List ℕ)). AreLinked ts heads ls) (sym (lists_are ts heads lists h)) h;
  few = few;
}

pub length-lists : (ts : List Tie) (heads : List (Option ℕ)) → length (lists_in ts heads) ≡ length heads
unfolding lists_in
length-lists ts heads = length-map heads (list_from ts)

tied_here : (ts : List Tie) (y : ℕ) (xs : List ℕ) (x : ℕ) (ys : List ℕ) → AreTiedTo ts y (xs ++ x ∷ ys) → (tie_in ts x).to ≡ y
unfolding AreTiedTo
tied_here ts y [] x ys h = h.0
tied_here ts y (z ∷ xs) x ys h = tied_here ts y xs x ys h.1

-- a slot that is in the list of slot y
pub record Place (ts : List Tie) (heads : List (Option ℕ)) (x y : ℕ) : Type 0 where
  pub front : List ℕ
  pub back : List ℕ
  pub inside : y < length heads
  pub is : slice_index_or (lists_in ts heads) y [] ≡ front ++ x ∷ back
  pub list : IsTieList ts y (head_in heads y) (front ++ x ∷ back)

place_in : (ts : List Tie) (heads : List (Option ℕ)) (x y : ℕ) → TiesAreSound ts heads → y < length heads
    → HoldsSlot (slice_index_or (lists_in ts heads) y []) x → Place ts heads x y
place_in ts heads x y s inside held = record {
  front = held.front;
  back = held.back;
  inside = inside;
  is = held.is;
  list = subst (λ (l : List ℕ). IsTieList ts y (head_in heads y) l) held.is (s.linked.each y inside);
}

pub place : (ts : List Tie) (heads : List (Option ℕ)) (x y : ℕ) → TiesAreSound ts heads
    → member x (list_at (value ts heads) y) ≡ true → Place ts heads x y
place ts heads x y s h =
    elim (cases_lt y (length heads)) [
      | inl inside ↦ place_in ts heads x y s inside (member_held x (list_at (value ts heads) y) h)
      | inr beyond ↦ absurd (let k : list_at (value ts heads) y ≡ [] = get_or_past (lists_in ts heads) y []
          (omega (arith, beyond, length-lists ts heads)) in
          let m : member x [] ≡ true = subst (λ (l : List ℕ). member x l ≡ true) k h in cc)
    ]

pub place_within : (ts : List Tie) (heads : List (Option ℕ)) (x y : ℕ) → Place ts heads x y → x < length ts
place_within ts heads x y p = below_here (length ts) p.front x p.back p.list.below

pub place_its : (ts : List Tie) (heads : List (Option ℕ)) (x y : ℕ) → Place ts heads x y → (tie_in ts x).to ≡ y
place_its ts heads x y p = tied_here ts y p.front x p.back p.list.tied

once_each : (ts : List Tie) (heads : List (Option ℕ)) (y : ℕ) → TiesAreSound ts heads
    → AreDistinctSlots (list_at (value ts heads) y)
unfolding AreDistinctSlots
once_each ts heads y s =
    elim (cases_lt y (length heads)) [
      | inl inside ↦ (s.linked.each y inside).once
      | inr beyond ↦ rw (get_or_past (lists_in ts heads) y [] (omega (arith, beyond, length-lists ts heads))) tt
    ]

pub laws : (ts : List Tie) (heads : List (Option ℕ)) → TiesAreSound ts heads → AreTieLists (value ts heads)
laws ts heads s = record {
  within = λ x y h. rw length-tos (place_within ts heads x y (place ts heads x y s h));
  its = λ x y h. tos_at ts x ∙ place_its ts heads x y (place ts heads x y s h);
  once = λ y. once_each ts heads y s;
}

abbrev both : List ℕ → List (List ℕ) → TieLists
both ns ls = record { ties = ns; lists = ls }

pub seen_same : (ns ms : List ℕ) (ls ks : List (List ℕ)) → ns ≡ ms → ls ≡ ks → both ns ls ≡ both ms ks
seen_same ns ms ls ks h k = ap₂ both h k

-- the slot that slot x is tied to, and where its list begins
pub to_inside : (ts : List Tie) (heads : List (Option ℕ)) (x : ℕ) (t : Tie) → t ≡ tie_in ts x
    → tie_at (value ts heads) x < length (value ts heads).lists → t.to < length heads
to_inside ts heads x t is h =
    let k : t.to ≡ slice_index (tos ts) x = ap (λ (t : Tie). t.to) is ∙ sym (tos_at ts x) in
    omega (arith, k, h, length-lists ts heads)

pub head_within : (ts : List Tie) (heads : List (Option ℕ)) (y n : ℕ) → TiesAreSound ts heads → y < length heads
    → length ts ≡ n → IsSlotBelow n (head_in heads y)
head_within ts heads y n s inside same =
    let here = s.linked.each y inside in
    subst (λ (o : Option ℕ). IsSlotBelow n o) (sym here.first)
    (subst (λ (m : ℕ). IsSlotBelow m (first_of (slice_index_or (lists_in ts heads) y []))) same
    (first_within (length ts) (slice_index_or (lists_in ts heads) y []) here.below))

-- slot x came first in the list of slot y
pub record Enters (ts us : List Tie) (heads more : List (Option ℕ)) (x y : ℕ) : Type 0 where
  pub to : (tie_in ts x).to ≡ y
  pub ties : us ≡ prev_set (head_in heads y) (Some x) (beside_set x (record { prev = None; next = head_in heads y }) ts)
  pub heads_are : more ≡ slice_set heads y (Some x)

enters_pairs : (ts us : List Tie) (heads more : List (Option ℕ)) (x y : ℕ) → Enters ts us heads more x y
    → pairs us ≡ fronted (head_in heads y) x (pairs ts)
unfolding fronted
enters_pairs ts us heads more x y e =
    let first = head_in heads y in
    ap pairs e.ties ∙ pairs-prev_set first (Some x) (beside_set x (record { prev = None; next = first }) ts)
    ∙ ap (λ (ps : List Pair). set_prev first (Some x) ps) (pairs-beside_set x (record { prev = None; next = first }) ts)

enters_tos : (ts us : List Tie) (heads more : List (Option ℕ)) (x y : ℕ) → Enters ts us heads more x y → tos us ≡ tos ts
enters_tos ts us heads more x y e =
    let first = head_in heads y in
    ap tos e.ties ∙ tos-prev_set first (Some x) (beside_set x (record { prev = None; next = first }) ts)
    ∙ tos-beside_set x (record { prev = None; next = first }) ts

enters_linked : (ts us : List Tie) (heads more : List (Option ℕ)) (x y : ℕ) → TiesAreSound ts heads → x < length ts
    → y < length heads → is_in_list (value ts heads) x ≡ false → Enters ts us heads more x y
    → AreLinked us more (slice_set (lists_in ts heads) y (x ∷ slice_index_or (lists_in ts heads) y []))
enters_linked ts us heads more x y s within inside out e =
    let free : IsOut x (slice_index_or (lists_in ts heads) y []) = member_not x _
    (subst (λ (i : ℕ). member x (list_at (value ts heads) i) ≡ false) (tos_at ts x ∙ e.to) out) in
    rw e.heads_are (enters ts us heads (lists_in ts heads) x y s.linked within e.to inside free
    (enters_pairs ts us heads more x y e) (enters_tos ts us heads more x y e))

pub enters_sound : (ts us : List Tie) (heads more : List (Option ℕ)) (x y : ℕ) → TiesAreSound ts heads → x < length ts
    → y < length heads → is_in_list (value ts heads) x ≡ false → Enters ts us heads more x y → TiesAreSound us more
enters_sound ts us heads more x y s within inside out e = seen us more _
    (enters_linked ts us heads more x y s within inside out e)
    (rw (same_count ts us (enters_tos ts us heads more x y e)) s.few)

pub enters_seen : (ts us : List Tie) (heads more : List (Option ℕ)) (x y : ℕ) → TiesAreSound ts heads → x < length ts
    → y < length heads → is_in_list (value ts heads) x ≡ false → Enters ts us heads more x y
    → value us more ≡ put_in_front (value ts heads) x
enters_seen ts us heads more x y s within inside out e =
    seen_same (tos us) (tos ts) (lists_in us more) _ (enters_tos ts us heads more x y e)
    (lists_are us more _ (enters_linked ts us heads more x y s within inside out e)
    ∙ ap (λ (i : ℕ). slice_set (lists_in ts heads) i (x ∷ slice_index_or (lists_in ts heads) i [])) (sym (tos_at ts x ∙ e.to)))

none_first : (xs : List ℕ) → is_none (first_of xs) ≡ is_empty xs
none_first [] = refl
none_first (x ∷ xs) = refl

pub empty_head : (ts : List Tie) (heads : List (Option ℕ)) (y : ℕ) → TiesAreSound ts heads → y < length heads
    → is_none (head_in heads y) ≡ is_empty (list_at (value ts heads) y)
empty_head ts heads y s inside = ap (λ (o : Option ℕ). is_none o) (s.linked.each y inside).first
    ∙ none_first (slice_index_or (lists_in ts heads) y [])

-- ---- slot x left the list of slot y

without_here : (x : ℕ) (xs ys : List ℕ) → IsOut x xs → list_less x (xs ++ x ∷ ys) ≡ xs ++ ys
unfolding IsOut
without_here x [] ys h = rw (eq-eqb x x refl) refl
without_here x (z ∷ xs) ys h = rw (ne_eqb x z (λ e. h.0 (sym e)), without_here x xs ys h.1) refl

pub listed_place : (ts : List Tie) (heads : List (Option ℕ)) (x : ℕ) → TiesAreSound ts heads
    → is_in_list (value ts heads) x ≡ true → Place ts heads x (tie_in ts x).to
listed_place ts heads x s h = place ts heads x (tie_in ts x).to s
    (subst (λ (i : ℕ). member x (list_at (value ts heads) i) ≡ true) (tos_at ts x) h)

pub prev_is : (ts : List Tie) (heads : List (Option ℕ)) (x y : ℕ) → (p : Place ts heads x y)
    → (tie_in ts x).beside.prev ≡ last_of p.front
prev_is ts heads x y p = ap (λ (b : Pair). b.prev) (sym (pairs_at ts x)) ∙ prev_here (pairs ts) p.front x p.back p.list.linked

pub next_is : (ts : List Tie) (heads : List (Option ℕ)) (x y : ℕ) → (p : Place ts heads x y)
    → (tie_in ts x).beside.next ≡ first_of p.back
next_is ts heads x y p = ap (λ (b : Pair). b.next) (sym (pairs_at ts x)) ∙ next_here (pairs ts) p.front x p.back p.list.linked

pub prev_within : (ts : List Tie) (heads : List (Option ℕ)) (x y n : ℕ) → Place ts heads x y → length ts ≡ n
    → IsSlotBelow n (tie_in ts x).beside.prev
prev_within ts heads x y n p same = subst (λ (o : Option ℕ). IsSlotBelow n o) (sym (prev_is ts heads x y p))
    (last_within n None p.front tt (below_front n p.front (x ∷ p.back) (subst (λ (m : ℕ). AreBelow m (p.front ++ x ∷ p.back)) same p.list.below)))

pub next_within : (ts : List Tie) (heads : List (Option ℕ)) (x y n : ℕ) → Place ts heads x y → length ts ≡ n
    → IsSlotBelow n (tie_in ts x).beside.next
next_within ts heads x y n p same = subst (λ (o : Option ℕ). IsSlotBelow n o) (sym (next_is ts heads x y p))
    (first_within n p.back (below_back n (x ∷ []) p.back (below_back n p.front (x ∷ p.back)
    (subst (λ (m : ℕ). AreBelow m (p.front ++ x ∷ p.back)) same p.list.below))))

pub record Leaves (ts us : List Tie) (heads more : List (Option ℕ)) (x : ℕ) : Type 0 where
  pub ties : us ≡ prev_set (tie_in ts x).beside.next (tie_in ts x).beside.prev
      (next_set (tie_in ts x).beside.prev (tie_in ts x).beside.next ts)
  pub heads_are : more ≡ reheaded (tie_in ts x).beside.prev (tie_in ts x).to (tie_in ts x).beside.next heads

leaves_pairs : (ts us : List Tie) (heads more : List (Option ℕ)) (x : ℕ) → Leaves ts us heads more x
    → pairs us ≡ chain_without (pair_at (pairs ts) x) (pairs ts)
unfolding chain_without
leaves_pairs ts us heads more x e =
    let b = (tie_in ts x).beside in
    rw pairs_at (ap pairs e.ties ∙ pairs-prev_set b.next b.prev (next_set b.prev b.next ts)
    ∙ ap (λ (ps : List Pair). set_prev b.next b.prev ps) (pairs-next_set b.prev b.next ts))

leaves_tos : (ts us : List Tie) (heads more : List (Option ℕ)) (x : ℕ) → Leaves ts us heads more x → tos us ≡ tos ts
leaves_tos ts us heads more x e =
    let b = (tie_in ts x).beside in
    ap tos e.ties ∙ tos-prev_set b.next b.prev (next_set b.prev b.next ts) ∙ tos-next_set b.prev b.next ts

leaves_linked : (ts us : List Tie) (heads more : List (Option ℕ)) (x : ℕ) → TiesAreSound ts heads → (p : Place ts heads x (tie_in ts x).to)
    → Leaves ts us heads more x → AreLinked us more (slice_set (lists_in ts heads) (tie_in ts x).to (p.front ++ p.back))
leaves_linked ts us heads more x s p e =
    rw (e.heads_are, prev_is ts heads x (tie_in ts x).to p, next_is ts heads x (tie_in ts x).to p)
    (leaves ts us heads (lists_in ts heads) x (tie_in ts x).to p.front p.back s.linked p.inside p.is
    (leaves_pairs ts us heads more x e) (leaves_tos ts us heads more x e))

pub leaves_sound : (ts us : List Tie) (heads more : List (Option ℕ)) (x : ℕ) → TiesAreSound ts heads
    → Place ts heads x (tie_in ts x).to → Leaves ts us heads more x → TiesAreSound us more
leaves_sound ts us heads more x s p e = seen us more _ (leaves_linked ts us heads more x s p e)
    (rw (same_count ts us (leaves_tos ts us heads more x e)) s.few)

left_list : (ts : List Tie) (heads : List (Option ℕ)) (x y : ℕ) → (p : Place ts heads x y)
    → list_less x (slice_index_or (lists_in ts heads) y []) ≡ p.front ++ p.back
left_list ts heads x y p = ap (λ (l : List ℕ). list_less x l) p.is
    ∙ without_here x p.front p.back (out_front x p.front p.back (different_here p.front x p.back p.list.once))

pub leaves_seen : (ts us : List Tie) (heads more : List (Option ℕ)) (x : ℕ) → TiesAreSound ts heads
    → Place ts heads x (tie_in ts x).to → Leaves ts us heads more x → value us more ≡ taken_out (value ts heads) x
leaves_seen ts us heads more x s p e =
    let y = (tie_in ts x).to in
    seen_same (tos us) (tos ts) (lists_in us more) _ (leaves_tos ts us heads more x e)
    (lists_are us more _ (leaves_linked ts us heads more x s p e)
    ∙ ap (λ (l : List ℕ). slice_set (lists_in ts heads) y l) (sym (left_list ts heads x y p))
    ∙ ap (λ (i : ℕ). slice_set (lists_in ts heads) i (list_less x (slice_index_or (lists_in ts heads) i []))) (sym (tos_at ts x)))

-- what is listed for the slot then
pub left_is : (ts us : List Tie) (heads more : List (Option ℕ)) (x : ℕ) → TiesAreSound ts heads
    → (p : Place ts heads x (tie_in ts x).to) → Leaves ts us heads more x
    → list_at (value us more) (tie_at (value ts heads) x) ≡ p.front ++ p.back
left_is ts us heads more x s p e =
    ap (λ (i : ℕ). list_at (value us more) i) (tos_at ts x)
    ∙ ap (λ (ls : List (List ℕ)). slice_index_or ls (tie_in ts x).to []) (lists_are us more _ (leaves_linked ts us heads more x s p e))
    ∙ get_or-set_same (lists_in ts heads) (tie_in ts x).to (p.front ++ p.back) [] (omega (arith, p.inside, length-lists ts heads))

empty_front : (xs ys : List ℕ) (i : ℕ) → last_of xs ≡ Some i → is_empty (xs ++ ys) ≡ false
empty_front [] ys i h = absurd cc
empty_front (x ∷ xs) ys i h = refl

none_front : (xs : List ℕ) → last_of xs ≡ None → xs ≡ []
none_front [] h = refl
none_front (x ∷ xs) h = absurd (some_last x xs h)

pub left_some : (ts us : List Tie) (heads more : List (Option ℕ)) (x i : ℕ) → TiesAreSound ts heads
    → Place ts heads x (tie_in ts x).to → Leaves ts us heads more x → (tie_in ts x).beside.prev ≡ Some i
    → false ≡ is_empty (list_at (value us more) (tie_at (value ts heads) x))
left_some ts us heads more x i s p e h = rw (left_is ts us heads more x s p e)
    (sym (empty_front p.front p.back i (sym (prev_is ts heads x (tie_in ts x).to p) ∙ h)))

pub left_none : (ts us : List Tie) (heads more : List (Option ℕ)) (x : ℕ) → TiesAreSound ts heads
    → Place ts heads x (tie_in ts x).to → Leaves ts us heads more x → (tie_in ts x).beside.prev ≡ None
    → is_none (tie_in ts x).beside.next ≡ is_empty (list_at (value us more) (tie_at (value ts heads) x))
left_none ts us heads more x s p e h = rw (
  left_is ts us heads more x s p e,
  none_front p.front (sym (prev_is ts heads x (tie_in ts x).to p) ∙ h),
  next_is ts heads x (tie_in ts x).to p,
)
    (none_first p.back)

-- what is linked behind a slot of a list
pub next_by : (ts : List Tie) (heads : List (Option ℕ)) (x : ℕ) (xs ys : List ℕ) → TiesAreSound ts heads
    → is_in_list (value ts heads) x ≡ true → list_at (value ts heads) (tie_at (value ts heads) x) ≡ xs ++ x ∷ ys
    → (tie_in ts x).beside.next ≡ first_of ys
next_by ts heads x xs ys s h is =
    let y = (tie_in ts x).to in
    let p = listed_place ts heads x s h in
    let list : slice_index_or (lists_in ts heads) y [] ≡ xs ++ x ∷ ys =
    ap (λ (i : ℕ). list_at (value ts heads) i) (sym (tos_at ts x)) ∙ is in
    let here : IsTieList ts y (head_in heads y) (xs ++ x ∷ ys) =
    subst (λ (l : List ℕ). IsTieList ts y (head_in heads y) l) list (s.linked.each y p.inside) in
    ap (λ (b : Pair). b.next) (sym (pairs_at ts x)) ∙ next_here (pairs ts) xs x ys here.linked

pub length-next_set : (at to : Option ℕ) (ts : List Tie) → length (next_set at to ts) ≡ length ts
length-next_set None to ts = refl
length-next_set (Some i) to ts = length-set ts i _

-- where lists begin once a slot left that stood behind another one, or first
pub head_stays : (t u : Tie) (heads : List (Option ℕ)) (i : ℕ) → t ≡ u → t.beside.prev ≡ Some i
    → heads ≡ reheaded u.beside.prev u.to u.beside.next heads
head_stays t u heads i is h = rw (← is, h) refl

pub head_moves : (t u : Tie) (heads : List (Option ℕ)) → t ≡ u → t.beside.prev ≡ None
    → slice_set heads t.to t.beside.next ≡ reheaded u.beside.prev u.to u.beside.next heads
head_moves t u heads is h = rw (← is, h) refl

-- what a test for none tells
pub told_none : (r : Bool) (o : Option ℕ) → is_some o ≡ not r → r ≡ is_none o
told_none true None h = refl
told_none true (Some i) h = absurd cc
told_none false None h = absurd cc
told_none false (Some i) h = refl

pub told_empty : (ts : List Tie) (heads : List (Option ℕ)) (x : ℕ) (t : Tie) (r : Bool) (o : Option ℕ)
    → TiesAreSound ts heads → t ≡ tie_in ts x → t.to < length heads → is_some o ≡ not r → o ≡ head_in heads t.to
    → r ≡ is_empty (list_at (value ts heads) (tie_at (value ts heads) x))
told_empty ts heads x t r o s is inside test at =
    told_none r o test ∙ ap (λ (o : Option ℕ). is_none o) at ∙ empty_head ts heads t.to s inside
    ∙ ap (λ (i : ℕ). is_empty (list_at (value ts heads) i)) (ap (λ (t : Tie). t.to) is ∙ sym (tos_at ts x))
