-- How the ties of an edge change.
use Rattle.std.specs.Prelude.{◌≡◌, ℕ, zero, suc, ◌<◌, ◌≤◌, ◌≢◌, List, [], ◌∷◌, ◌++◌, map, length, slice_index_or, slice_set}
use Rattle.std.specs.Prelude.{Option, Some, None}
use Rattle.std.proofs.Common.{refl, sym, ◌∙◌, ap, subst, arith, inl, inr, length-set}
use Rattle.std.proofs.Common.{get_or-set_same, get_or-set_other}
use Rattle.std.proofs.lemmas.List.{length-map, map-set, get_or_default, same_lists, get_or-map}
use Rattle.std.proofs.lemmas.Bool.{cases_eq}
use Rattle.djq_arena.specs.declared.chain.Pair.{Pair}
use Rattle.djq_arena.specs.Chains.{first_of, last_of, last_from, Linked, IsOut, AreDistinctSlots, AreBelow, AreOut, Avoids}
use Rattle.djq_arena.specs.Chains.{Agree, trail, pair_at, set_prev, set_next, chain_without}
use Rattle.djq_arena.proofs.Chains.{linked_same, agree_set, agree_prev, agree_trans, start_set, pair_same, prev_other}
use Rattle.djq_arena.proofs.Chains.{first_differs, different_append, first_avoids, last_avoids, avoids_none, left_linked}
use Rattle.djq_arena.proofs.Chains.{left_agree, no_longer, different_front, different_back, different_out, below_out, outs}
use Rattle.djq_arena.proofs.Chains.{length-set_prev, prev_here, next_here}
use Rattle.djq_arena.proofs.Stores.{some_last}
use Rattle.djq_forest.specs.declared.ties.Tie.{Tie}
use Rattle.djq_forest.specs.Ties.{tie_in, head_in, tos, pairs, list_from, lists_in, prev_set, next_set, beside_set}
use Rattle.djq_forest.specs.Ties.{AreTiedTo, IsTieList, AreLinked, fronted}
use Rattle.djq_arena.specs.Buckets.{reheaded}

-- ---- ties and their parts, one array after the other

pub length-tos : (ts : List Tie) → length (tos ts) ≡ length ts
unfolding tos
length-tos ts = length-map ts (λ (t : Tie). t.to)

pub length-pairs : (ts : List Tie) → length (pairs ts) ≡ length ts
unfolding pairs
length-pairs ts = length-map ts (λ (t : Tie). t.beside)

pub tos_at : (ts : List Tie) (x : ℕ) → slice_index_or (tos ts) x 0 ≡ (tie_in ts x).to
unfolding tos
tos_at [] x = refl
tos_at (t ∷ ts) zero = refl
tos_at (t ∷ ts) (suc x) = tos_at ts x

pub pairs_at : (ts : List Tie) (x : ℕ) → pair_at (pairs ts) x ≡ (tie_in ts x).beside
unfolding pairs
pairs_at [] x = refl
pairs_at (t ∷ ts) zero = refl
pairs_at (t ∷ ts) (suc x) = pairs_at ts x

-- a slot's own slot that it is tied to, written once more
tos_kept : (ts : List Tie) (x : ℕ) (p : Pair) → tos (slice_set ts x (record { to = (tie_in ts x).to; beside = p })) ≡ tos ts
unfolding tos
tos_kept [] x p = refl
tos_kept (t ∷ ts) zero p = refl
tos_kept (t ∷ ts) (suc x) p = ap (λ (ns : List ℕ). t.to ∷ ns) (tos_kept ts x p)

pairs_set : (ts : List Tie) (x : ℕ) (t : Tie) → pairs (slice_set ts x t) ≡ slice_set (pairs ts) x t.beside
unfolding pairs
pairs_set ts x t = map-set (λ (t : Tie). t.beside) ts x t

pub tos-prev_set : (at to : Option ℕ) (ts : List Tie) → tos (prev_set at to ts) ≡ tos ts
tos-prev_set None to ts = refl
tos-prev_set (Some i) to ts = tos_kept ts i (record { prev = to; next = (tie_in ts i).beside.next })

pub tos-next_set : (at to : Option ℕ) (ts : List Tie) → tos (next_set at to ts) ≡ tos ts
tos-next_set None to ts = refl
tos-next_set (Some i) to ts = tos_kept ts i (record { prev = (tie_in ts i).beside.prev; next = to })

pub pairs-prev_set : (at to : Option ℕ) (ts : List Tie) → pairs (prev_set at to ts) ≡ set_prev at to (pairs ts)
pairs-prev_set None to ts = refl
pairs-prev_set (Some i) to ts = pairs_set ts i _
    ∙ ap (λ (p : Pair). slice_set (pairs ts) i (record { prev = to; next = p.next })) (sym (pairs_at ts i))

pub pairs-next_set : (at to : Option ℕ) (ts : List Tie) → pairs (next_set at to ts) ≡ set_next at to (pairs ts)
pairs-next_set None to ts = refl
pairs-next_set (Some i) to ts = pairs_set ts i _
    ∙ ap (λ (p : Pair). slice_set (pairs ts) i (record { prev = p.prev; next = to })) (sym (pairs_at ts i))

pub tos-beside_set : (i : ℕ) (p : Pair) (ts : List Tie) → tos (beside_set i p ts) ≡ tos ts
tos-beside_set i p ts = tos_kept ts i p

pub pairs-beside_set : (i : ℕ) (p : Pair) (ts : List Tie) → pairs (beside_set i p ts) ≡ slice_set (pairs ts) i p
pairs-beside_set i p ts = pairs_set ts i _

-- ---- a list of slots is as long as its links are followed

down : ℕ → List ℕ
down zero = []
down (suc n) = n ∷ down n

down_length : (n : ℕ) → length (down n) ≡ n
unfolding down
down_length zero = refl
down_length (suc n) = omega (arith, down_length n)

down_out : (n i : ℕ) → IsOut i (down n) → n ≤ i
unfolding down IsOut
down_out zero i h = omega arith
down_out (suc n) i h = let k = down_out n i h.1 in let m = h.0 in omega (arith, k, m)

below_all : (n i : ℕ) (xs : List ℕ) → AreBelow n xs → n ≤ i → IsOut i xs
unfolding AreBelow IsOut
below_all n i [] h l = tt
below_all n i (x ∷ xs) h l = ((λ e. omega (arith, h.0, e)), below_all n i xs h.1 l)

pub short : (n : ℕ) (xs : List ℕ) → AreDistinctSlots xs → AreBelow n xs → length xs ≤ n
short n xs d b = let k = no_longer xs (down n) d (λ i out. below_all n i xs b (down_out n i out)) in
    omega (arith, k, down_length n)

trail_long : (n : ℕ) (links : List Pair) (o : Option ℕ) (xs : List ℕ) → length xs ≤ n → Linked links o xs None
    → trail n links (first_of xs) ≡ xs
unfolding Linked trail
trail_long zero links o [] l h = refl
trail_long zero links o (x ∷ xs) l h = absurd (omega arith)
trail_long (suc n) links o [] l h = refl
trail_long (suc n) links o (x ∷ xs) l h =
    rw h.1 (ap (λ (zs : List ℕ). x ∷ zs) (trail_long n links (Some x) xs (omega arith) h.2))

pub list_is : (ts : List Tie) (y : ℕ) (head : Option ℕ) (xs : List ℕ) → IsTieList ts y head xs → list_from ts head ≡ xs
unfolding list_from
list_is ts y head xs h = rw h.first
    (trail_long (length ts) (pairs ts) None xs (short (length ts) xs h.once h.below) h.linked)

pub lists_are : (ts : List Tie) (heads : List (Option ℕ)) (lists : List (List ℕ)) → AreLinked ts heads lists
    → lists_in ts heads ≡ lists
unfolding lists_in
lists_are ts heads lists h =
    same_lists (map (list_from ts) heads) lists (length-map heads (list_from ts) ∙ sym h.long)
    (λ k d l.
    let inside : k < length heads = omega (arith, l, length-map heads (list_from ts)) in
    get_or-map (list_from ts) heads k None d inside ∙ list_is ts k (head_in heads k) (slice_index_or lists k [])
    (h.each k inside) ∙ get_or_default lists k [] d (omega (arith, inside, h.long)))

-- ---- a slot comes first in a list

fronted_linked : (links : List Pair) (xs : List ℕ) (x : ℕ) → AreDistinctSlots xs → AreBelow (length links) xs → IsOut x xs
    → x < length links → Linked links None xs None → Linked (fronted (first_of xs) x links) None (x ∷ xs) None
unfolding fronted Linked
fronted_linked links xs x d b out within h =
    let here : Pair = record { prev = None; next = first_of xs } in
    let mid = slice_set links x here in
    let at = prev_other (first_of xs) (Some x) mid x (first_differs xs None x tt out) ∙ pair_same links x here within in (
      ap (λ (p : Pair). p.prev) at,
      ap (λ (p : Pair). p.next) at,
      start_set mid None xs None (Some x) d (rw length-set b) (linked_same links mid None xs None (agree_set links x here xs out) h),
    )

fronted_agree : (links : List Pair) (first : Option ℕ) (x : ℕ) (zs : List ℕ) → IsOut x zs → Avoids first zs
    → Agree links (fronted first x links) zs
unfolding fronted
fronted_agree links first x zs out a =
    let here : Pair = record { prev = None; next = first } in
    agree_trans links (slice_set links x here) (set_prev first (Some x) (slice_set links x here)) zs
    (agree_set links x here zs out) (agree_prev first (Some x) (slice_set links x here) zs a)

pub length-fronted : (first : Option ℕ) (x : ℕ) (links : List Pair) → length (fronted first x links) ≡ length links
unfolding fronted
length-fronted first x links = length-set_prev first (Some x) (slice_set links x (record { prev = None; next = first }))
    ∙ length-set links x (record { prev = None; next = first })

-- ---- whose lists slots are in

pub tied_all : (ts us : List Tie) (y : ℕ) (xs : List ℕ) → tos us ≡ tos ts → AreTiedTo ts y xs → AreTiedTo us y xs
unfolding AreTiedTo
tied_all ts us y [] same h = tt
tied_all ts us y (x ∷ xs) same h = (
  sym (tos_at us x) ∙ ap (λ (ns : List ℕ). slice_index_or ns x 0) same ∙ tos_at ts x ∙ h.0,
  tied_all ts us y xs same h.1,
)

pub tied_out : (ts : List Tie) (y x : ℕ) (xs : List ℕ) → AreTiedTo ts y xs → (tie_in ts x).to ≢ y → IsOut x xs
unfolding AreTiedTo IsOut
tied_out ts y x [] h n = tt
tied_out ts y x (z ∷ xs) h n =
    ((λ e. n (ap (λ (i : ℕ). (tie_in ts i).to) (sym e) ∙ h.0)), tied_out ts y x xs h.1 n)

-- lists of different slots have nothing in common
tied_apart : (ts : List Tie) (y z : ℕ) (xs zs : List ℕ) → y ≢ z → AreTiedTo ts y xs → AreTiedTo ts z zs → AreOut xs zs
unfolding AreTiedTo AreOut
tied_apart ts y z [] zs n h k = tt
tied_apart ts y z (x ∷ xs) zs n h k =
    (tied_out ts z x zs k (λ e. n (sym h.0 ∙ e)), tied_apart ts y z xs zs n h.1 k)

lists_apart : (ts : List Tie) (y z : ℕ) (o p : Option ℕ) (xs zs : List ℕ) → y ≢ z → IsTieList ts y o xs
    → IsTieList ts z p zs → AreDistinctSlots (xs ++ zs)
lists_apart ts y z o p xs zs n h k = different_append xs zs h.once k.once (tied_apart ts y z xs zs n h.tied k.tied)

apart_more : (x : ℕ) (xs : List ℕ) → IsOut x xs → AreDistinctSlots xs → AreDistinctSlots (x ∷ xs)
unfolding AreDistinctSlots
apart_more x xs h k = (h, k)

below_more_one : (n x : ℕ) (xs : List ℕ) → x < n → AreBelow n xs → AreBelow n (x ∷ xs)
unfolding AreBelow
below_more_one n x xs h k = (h, k)

tied_more : (ts : List Tie) (y x : ℕ) (xs : List ℕ) → (tie_in ts x).to ≡ y → AreTiedTo ts y xs → AreTiedTo ts y (x ∷ xs)
unfolding AreTiedTo
tied_more ts y x xs h k = (h, k)

-- as many ties as before, since each is tied as before
pub same_count : (ts us : List Tie) → tos us ≡ tos ts → length us ≡ length ts
same_count ts us h = sym (length-tos us) ∙ ap (λ (ns : List ℕ). length ns) h ∙ length-tos ts

enters_here : (ts us : List Tie) (y x : ℕ) (head : Option ℕ) (xs : List ℕ) → IsTieList ts y head xs → x < length ts
    → (tie_in ts x).to ≡ y → IsOut x xs → pairs us ≡ fronted head x (pairs ts) → tos us ≡ tos ts
    → IsTieList us y (Some x) (x ∷ xs)
enters_here ts us y x head xs h within to out links same = record {
  first = refl;
  linked = rw (links, h.first) (fronted_linked (pairs ts) xs x h.once (rw length-pairs h.below) out (rw length-pairs within) h.linked);
  once = apart_more x xs out h.once;
  below = rw (same_count ts us same) (below_more_one (length ts) x xs within h.below);
  tied = tied_all ts us y (x ∷ xs) same (tied_more ts y x xs to h.tied);
}

enters_other : (ts us : List Tie) (y z x : ℕ) (head first : Option ℕ) (xs zs : List ℕ) → y ≢ z → IsTieList ts y head xs
    → IsTieList ts z first zs → (tie_in ts x).to ≡ y → pairs us ≡ fronted head x (pairs ts) → tos us ≡ tos ts
    → IsTieList us z first zs
enters_other ts us y z x head first xs zs n h k to links same = record {
  first = k.first;
  linked = rw links (linked_same (pairs ts) (fronted head x (pairs ts)) None zs None
      (fronted_agree (pairs ts) head x zs (tied_out ts z x zs k.tied (λ e. n (sym to ∙ e)))
      (rw h.first (first_avoids xs zs (lists_apart ts y z head first xs zs n h k)))) k.linked);
  once = k.once;
  below = rw (same_count ts us same) k.below;
  tied = tied_all ts us z zs same k.tied;
}

-- a slot that was in no list came first in that of the slot that it is tied to
pub enters : (ts us : List Tie) (heads : List (Option ℕ)) (lists : List (List ℕ)) (x y : ℕ) → AreLinked ts heads lists
    → x < length ts → (tie_in ts x).to ≡ y → y < length heads → IsOut x (slice_index_or lists y [])
    → pairs us ≡ fronted (head_in heads y) x (pairs ts) → tos us ≡ tos ts
    → AreLinked us (slice_set heads y (Some x)) (slice_set lists y (x ∷ slice_index_or lists y []))
enters ts us heads lists x y h within to inside out links same = record {
  long = length-set lists y (x ∷ slice_index_or lists y []) ∙ h.long ∙ sym (length-set heads y (Some x));
  each = λ z l.
      let below : z < length heads = omega (arith, l, length-set heads y (Some x)) in
      elim (cases_eq z y) [
        | inl here ↦ subst (λ (i : ℕ). IsTieList us i (head_in (slice_set heads y (Some x)) i)
            (slice_index_or (slice_set lists y (x ∷ slice_index_or lists y [])) i [])) (sym here)
            (rw (
              get_or-set_same heads y (Some x) None inside,
              get_or-set_same lists y (x ∷ slice_index_or lists y []) [] (omega (arith, inside, h.long)),
            )
            (enters_here ts us y x (head_in heads y) (slice_index_or lists y []) (h.each y inside) within to out links same))
        | inr other ↦ rw (
          get_or-set_other heads y z (Some x) None other,
          get_or-set_other lists y z (x ∷ slice_index_or lists y []) [] other,
        )
            (enters_other ts us y z x (head_in heads y) (head_in heads z) (slice_index_or lists y []) (slice_index_or lists z [])
            (λ e. other (sym e)) (h.each y inside) (h.each z below) to links same)
      ];
}

-- ---- a slot leaves its list

tied_front : (ts : List Tie) (y : ℕ) (xs ys : List ℕ) → AreTiedTo ts y (xs ++ ys) → AreTiedTo ts y xs
unfolding AreTiedTo
tied_front ts y [] ys h = tt
tied_front ts y (x ∷ xs) ys h = (h.0, tied_front ts y xs ys h.1)

tied_less : (ts : List Tie) (y : ℕ) (xs : List ℕ) (x : ℕ) (ys : List ℕ) → AreTiedTo ts y (xs ++ x ∷ ys)
    → AreTiedTo ts y (xs ++ ys)
unfolding AreTiedTo
tied_less ts y [] x ys h = h.1
tied_less ts y (z ∷ xs) x ys h = (h.0, tied_less ts y xs x ys h.1)

out_front_all : (xs ys zs : List ℕ) → AreOut (xs ++ ys) zs → AreOut xs zs
unfolding AreOut
out_front_all [] ys zs h = tt
out_front_all (x ∷ xs) ys zs h = (h.0, out_front_all xs ys zs h.1)

out_back_all : (xs ys zs : List ℕ) → AreOut (xs ++ ys) zs → AreOut ys zs
unfolding AreOut
out_back_all [] ys zs h = h
out_back_all (x ∷ xs) ys zs h = out_back_all xs ys zs h.1

head_kept : (o : Option ℕ) (k : ℕ) (to : Option ℕ) (heads : List (Option ℕ)) → (o ≡ None → ⊥) → reheaded o k to heads ≡ heads
head_kept None k to heads h = absurd (h refl)
head_kept (Some i) k to heads h = refl

-- where the list begins then
left_head : (heads : List (Option ℕ)) (y : ℕ) (xs : List ℕ) (x : ℕ) (ys : List ℕ) → y < length heads
    → head_in heads y ≡ first_of (xs ++ x ∷ ys)
    → head_in (reheaded (last_of xs) y (first_of ys) heads) y ≡ first_of (xs ++ ys)
left_head heads y [] x ys inside h = get_or-set_same heads y (first_of ys) None inside
left_head heads y (z ∷ xs) x ys inside h = rw (head_kept (last_from (Some z) xs) y (first_of ys) heads (some_last z xs)) h

left_other : (heads : List (Option ℕ)) (y z : ℕ) (o to : Option ℕ) → z ≢ y → head_in (reheaded o y to heads) z ≡ head_in heads z
left_other heads y z None to n = get_or-set_other heads y z to None n
left_other heads y z (Some i) to n = refl

pub length-reheaded : (heads : List (Option ℕ)) (y : ℕ) (o to : Option ℕ) → length (reheaded o y to heads) ≡ length heads
length-reheaded heads y None to = length-set heads y to
length-reheaded heads y (Some i) to = refl

leaves_here : (ts us : List Tie) (y x : ℕ) (head first : Option ℕ) (xs ys : List ℕ) → IsTieList ts y head (xs ++ x ∷ ys)
    → first ≡ first_of (xs ++ ys) → pairs us ≡ chain_without (pair_at (pairs ts) x) (pairs ts) → tos us ≡ tos ts
    → IsTieList us y first (xs ++ ys)
leaves_here ts us y x head first xs ys h begins links same = record {
  first = begins;
  linked = rw links (left_linked (pairs ts) xs x ys h.once (rw length-pairs h.below) h.linked);
  once = different_out xs x ys h.once;
  below = rw (same_count ts us same) (below_out (length ts) xs x ys h.below);
  tied = tied_all ts us y (xs ++ ys) same (tied_less ts y xs x ys h.tied);
}

leaves_other : (ts us : List Tie) (y z x : ℕ) (head first : Option ℕ) (xs ys zs : List ℕ) → y ≢ z
    → IsTieList ts y head (xs ++ x ∷ ys) → IsTieList ts z first zs
    → pairs us ≡ chain_without (pair_at (pairs ts) x) (pairs ts) → tos us ≡ tos ts → IsTieList us z first zs
leaves_other ts us y z x head first xs ys zs n h k links same =
    let apart : AreDistinctSlots ((xs ++ x ∷ ys) ++ zs) = lists_apart ts y z head first (xs ++ x ∷ ys) zs n h k in
    let front : AreDistinctSlots (xs ++ zs) = different_append xs zs (different_front xs (x ∷ ys) h.once) k.once
    (out_front_all xs (x ∷ ys) zs (outs (xs ++ x ∷ ys) zs apart)) in
    let back : AreDistinctSlots (ys ++ zs) = different_append ys zs
    (different_back (x ∷ []) ys (different_back xs (x ∷ ys) h.once)) k.once
    (out_back_all (x ∷ []) ys zs (out_back_all xs (x ∷ ys) zs (outs (xs ++ x ∷ ys) zs apart))) in
    record {
      first = k.first;
      linked = rw links (linked_same (pairs ts) (chain_without (pair_at (pairs ts) x) (pairs ts)) None zs None
          (left_agree (pairs ts) (pair_at (pairs ts) x) zs
          (rw (prev_here (pairs ts) xs x ys h.linked) (last_avoids None xs zs (avoids_none zs) front))
          (rw (next_here (pairs ts) xs x ys h.linked) (first_avoids ys zs back))) k.linked);
      once = k.once;
      below = rw (same_count ts us same) k.below;
      tied = tied_all ts us z zs same k.tied;
    }

pub leaves : (ts us : List Tie) (heads : List (Option ℕ)) (lists : List (List ℕ)) (x y : ℕ) (xs ys : List ℕ)
    → AreLinked ts heads lists → y < length heads → slice_index_or lists y [] ≡ xs ++ x ∷ ys
    → pairs us ≡ chain_without (pair_at (pairs ts) x) (pairs ts) → tos us ≡ tos ts
    → AreLinked us (reheaded (last_of xs) y (first_of ys) heads) (slice_set lists y (xs ++ ys))
leaves ts us heads lists x y xs ys h inside was links same =
    let here : IsTieList ts y (head_in heads y) (xs ++ x ∷ ys) =
    subst (λ (l : List ℕ). IsTieList ts y (head_in heads y) l) was (h.each y inside) in
    record {
      long = rw (length-set, length-reheaded) h.long;
      each = λ z l.
          let below : z < length heads = omega (arith, l, length-reheaded heads y (last_of xs) (first_of ys)) in
          elim (cases_eq z y) [
            | inl at ↦ subst (λ (i : ℕ). IsTieList us i (head_in (reheaded (last_of xs) y (first_of ys) heads) i)
                (slice_index_or (slice_set lists y (xs ++ ys)) i [])) (sym at)
                (rw (get_or-set_same lists y (xs ++ ys) [] (omega (arith, inside, h.long)))
                (leaves_here ts us y x (head_in heads y) (head_in (reheaded (last_of xs) y (first_of ys) heads) y) xs ys here
                (left_head heads y xs x ys inside here.first) links same))
            | inr other ↦ rw (
              left_other heads y z (last_of xs) (first_of ys) other,
              get_or-set_other lists y z (xs ++ ys) [] other,
            )
                (leaves_other ts us y z x (head_in heads y) (head_in heads z) xs ys (slice_index_or lists z [])
                (λ e. other (sym e)) here (h.each z below) links same)
          ];
    }
