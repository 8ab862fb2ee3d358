-- Lists of slots as chains, and how they change.
use Rattle.std.proofs.Common.{◌≡◌, ◌⊎◌, ℕ, ◌≤◌, ◌<◌, List, [], ◌∷◌, ◌++◌, length, Option, Some, None, refl, ap, subst}
use Rattle.std.proofs.Common.{sym, arith, inl, inr, length-append, ◌≢◌, slice_set, ◌∙◌, length-set, get_or-set_same}
use Rattle.std.proofs.Common.{get_or-set_other}
use Rattle.std.proofs.lemmas.Bool.{cases_eq}
use Rattle.djq_arena.specs.declared.chain.Pair.{Pair}
use Rattle.djq_arena.specs.Chains.{first_or, last_from, first_of, last_of, IsOut, AreDistinctSlots, AreBelow}
use Rattle.djq_arena.specs.Chains.{IsSlotBelow, Differs, Avoids, AreOut, pair_at, Linked, Onward, set_prev, set_next}
use Rattle.djq_arena.specs.Chains.{entered, chain_without, Agree, trail}
use Rattle.djq_arena.specs.Store.{HoldsSlot}

-- ---- Lists of slots: who stands in them, and who stands first and last.

pub first_append : (xs ys : List ℕ) (o : Option ℕ) → first_or (xs ++ ys) o ≡ first_or xs (first_or ys o)
first_append [] ys o = refl
first_append (x ∷ xs) ys o = refl

pub last_append : (o : Option ℕ) (xs ys : List ℕ) → last_from o (xs ++ ys) ≡ last_from (last_from o xs) ys
last_append o [] ys = refl
last_append o (x ∷ xs) ys = last_append (Some x) xs ys

pub out_append : (i : ℕ) (xs ys : List ℕ) → IsOut i xs → IsOut i ys → IsOut i (xs ++ ys)
unfolding IsOut
out_append i [] ys h k = k
out_append i (x ∷ xs) ys h k = (h.0, out_append i xs ys h.1 k)

pub out_front : (i : ℕ) (xs ys : List ℕ) → IsOut i (xs ++ ys) → IsOut i xs
unfolding IsOut
out_front i [] ys h = tt
out_front i (x ∷ xs) ys h = (h.0, out_front i xs ys h.1)

pub out_back : (i : ℕ) (xs ys : List ℕ) → IsOut i (xs ++ ys) → IsOut i ys
unfolding IsOut
out_back i [] ys h = h
out_back i (x ∷ xs) ys h = out_back i xs ys h.1

pub out_middle : (i : ℕ) (xs : List ℕ) (y : ℕ) (ys : List ℕ) → (y ≡ i → ⊥) → IsOut i (xs ++ ys) → IsOut i (xs ++ y ∷ ys)
unfolding IsOut
out_middle i [] y ys h k = (h, k)
out_middle i (x ∷ xs) y ys h k = (k.0, out_middle i xs y ys h k.1)

pub out_less : (i : ℕ) (xs : List ℕ) (y : ℕ) (ys : List ℕ) → IsOut i (xs ++ y ∷ ys) → IsOut i (xs ++ ys)
unfolding IsOut
out_less i [] y ys k = k.1
out_less i (x ∷ xs) y ys k = (k.0, out_less i xs y ys k.1)

pub out_here : (i : ℕ) (xs : List ℕ) (ys : List ℕ) → IsOut i (xs ++ i ∷ ys) → ⊥
unfolding IsOut
out_here i [] ys k = k.0 refl
out_here i (x ∷ xs) ys k = out_here i xs ys k.1

pub out_swap : (i : ℕ) (xs ys : List ℕ) → IsOut i (xs ++ ys) → IsOut i (ys ++ xs)
out_swap i xs ys h = out_append i ys xs (out_back i xs ys h) (out_front i xs ys h)

pub different_front : (xs ys : List ℕ) → AreDistinctSlots (xs ++ ys) → AreDistinctSlots xs
unfolding AreDistinctSlots
different_front [] ys h = tt
different_front (x ∷ xs) ys h = (out_front x xs ys h.0, different_front xs ys h.1)

pub different_back : (xs ys : List ℕ) → AreDistinctSlots (xs ++ ys) → AreDistinctSlots ys
unfolding AreDistinctSlots
different_back [] ys h = h
different_back (x ∷ xs) ys h = different_back xs ys h.1

pub different_out : (xs : List ℕ) (y : ℕ) (ys : List ℕ) → AreDistinctSlots (xs ++ y ∷ ys) → AreDistinctSlots (xs ++ ys)
unfolding AreDistinctSlots
different_out [] y ys h = h.1
different_out (x ∷ xs) y ys h = (out_less x xs y ys h.0, different_out xs y ys h.1)

unlike_middle : (x : ℕ) (xs : List ℕ) (y : ℕ) (ys : List ℕ) → IsOut x (xs ++ y ∷ ys) → y ≡ x → ⊥
unfolding IsOut
unlike_middle x [] y ys h = h.0
unlike_middle x (z ∷ xs) y ys h = unlike_middle x xs y ys h.1

pub different_here : (xs : List ℕ) (y : ℕ) (ys : List ℕ) → AreDistinctSlots (xs ++ y ∷ ys) → IsOut y (xs ++ ys)
unfolding AreDistinctSlots IsOut
different_here [] y ys h = h.0
different_here (x ∷ xs) y ys h = ((λ k. unlike_middle x xs y ys h.0 (sym k)), different_here xs y ys h.1)

pub out_first : (x : ℕ) (xs : List ℕ) (y : ℕ) → IsOut y (x ∷ xs) → x ≡ y → ⊥
unfolding IsOut
out_first x xs y h = h.0

pub out_rest : (x : ℕ) (xs : List ℕ) (y : ℕ) → IsOut y (x ∷ xs) → IsOut y xs
unfolding IsOut
out_rest x xs y h = h.1

pub different_in : (xs : List ℕ) (y : ℕ) (ys : List ℕ) → AreDistinctSlots (xs ++ ys) → IsOut y (xs ++ ys)
    → AreDistinctSlots (xs ++ y ∷ ys)
unfolding AreDistinctSlots
different_in [] y ys h k = (k, h)
different_in (x ∷ xs) y ys h k = (
  out_middle x xs y ys (λ same. out_first x (xs ++ ys) y k (sym same)) h.0,
  different_in xs y ys h.1
      (out_rest x (xs ++ ys) y k),
)

pub different_append : (xs ys : List ℕ) → AreDistinctSlots xs → AreDistinctSlots ys → AreOut xs ys
    → AreDistinctSlots (xs ++ ys)
unfolding AreDistinctSlots AreOut
different_append [] ys h k o = k
different_append (x ∷ xs) ys h k o = (out_append x xs ys h.0 o.0, different_append xs ys h.1 k o.1)

pub outs : (xs ys : List ℕ) → AreDistinctSlots (xs ++ ys) → AreOut xs ys
unfolding AreDistinctSlots AreOut
outs [] ys h = tt
outs (x ∷ xs) ys h = (out_back x xs ys h.0, outs xs ys h.1)

outs_nil : (xs : List ℕ) → AreOut xs []
unfolding AreOut IsOut
outs_nil [] = tt
outs_nil (x ∷ xs) = (tt, outs_nil xs)

outs_cons : (y : ℕ) (xs ys : List ℕ) → IsOut y xs → AreOut xs ys → AreOut xs (y ∷ ys)
unfolding AreOut IsOut
outs_cons y [] ys h k = tt
outs_cons y (x ∷ xs) ys h k = (((λ e. h.0 (sym e)), k.0), outs_cons y xs ys h.1 k.1)

pub outs_swap : (xs ys : List ℕ) → AreOut xs ys → AreOut ys xs
unfolding AreOut
outs_swap [] ys h = outs_nil ys
outs_swap (x ∷ xs) ys h = outs_cons x ys xs h.0 (outs_swap xs ys h.1)

pub different_swap : (xs ys : List ℕ) → AreDistinctSlots (xs ++ ys) → AreDistinctSlots (ys ++ xs)
different_swap xs ys h = different_append ys xs (different_back xs ys h) (different_front xs ys h)
    (outs_swap xs ys (outs xs ys h))

pub below_append : (n : ℕ) (xs ys : List ℕ) → AreBelow n xs → AreBelow n ys → AreBelow n (xs ++ ys)
unfolding AreBelow
below_append n [] ys h k = k
below_append n (x ∷ xs) ys h k = (h.0, below_append n xs ys h.1 k)

pub below_front : (n : ℕ) (xs ys : List ℕ) → AreBelow n (xs ++ ys) → AreBelow n xs
unfolding AreBelow
below_front n [] ys h = tt
below_front n (x ∷ xs) ys h = (h.0, below_front n xs ys h.1)

pub below_back : (n : ℕ) (xs ys : List ℕ) → AreBelow n (xs ++ ys) → AreBelow n ys
unfolding AreBelow
below_back n [] ys h = h
below_back n (x ∷ xs) ys h = below_back n xs ys h.1

pub below_here : (n : ℕ) (xs : List ℕ) (y : ℕ) (ys : List ℕ) → AreBelow n (xs ++ y ∷ ys) → y < n
unfolding AreBelow
below_here n [] y ys h = h.0
below_here n (x ∷ xs) y ys h = below_here n xs y ys h.1

pub below_out : (n : ℕ) (xs : List ℕ) (y : ℕ) (ys : List ℕ) → AreBelow n (xs ++ y ∷ ys) → AreBelow n (xs ++ ys)
unfolding AreBelow
below_out n [] y ys h = h.1
below_out n (x ∷ xs) y ys h = (h.0, below_out n xs y ys h.1)

pub below_in : (n : ℕ) (xs : List ℕ) (y : ℕ) (ys : List ℕ) → y < n → AreBelow n (xs ++ ys) → AreBelow n (xs ++ y ∷ ys)
unfolding AreBelow
below_in n [] y ys k h = (k, h)
below_in n (x ∷ xs) y ys k h = (h.0, below_in n xs y ys k h.1)

pub below_more : (m n : ℕ) (xs : List ℕ) → m ≤ n → AreBelow m xs → AreBelow n xs
unfolding AreBelow
below_more m n [] h k = tt
below_more m n (x ∷ xs) h k = (omega (arith, k.0), below_more m n xs h k.1)

-- a number that all of a list are below isn't in it
pub below_unlike : (n : ℕ) (xs : List ℕ) → AreBelow n xs → IsOut n xs
unfolding AreBelow IsOut
below_unlike n [] h = tt
below_unlike n (x ∷ xs) h = ((λ k. omega (arith, k, h.0)), below_unlike n xs h.1)

-- the ends of a list
pub last_within : (n : ℕ) (o : Option ℕ) (xs : List ℕ) → IsSlotBelow n o → AreBelow n xs
    → IsSlotBelow n (last_from o xs)
unfolding AreBelow
last_within n o [] h k = h
last_within n o (x ∷ xs) h k = last_within n (Some x) xs k.0 k.1

pub first_within : (n : ℕ) (xs : List ℕ) → AreBelow n xs → IsSlotBelow n (first_of xs)
unfolding AreBelow
first_within n [] k = tt
first_within n (x ∷ xs) k = k.0

pub last_differs : (o : Option ℕ) (xs : List ℕ) (x : ℕ) → Differs o x → IsOut x xs → Differs (last_from o xs) x
unfolding IsOut
last_differs o [] x h k = h
last_differs o (y ∷ xs) x h k = last_differs (Some y) xs x k.0 k.1

pub first_differs : (xs : List ℕ) (o : Option ℕ) (x : ℕ) → Differs o x → IsOut x xs → Differs (first_or xs o) x
unfolding IsOut
first_differs [] o x h k = h
first_differs (y ∷ xs) o x h k = k.0

-- what isn't in a list avoids it
pub avoids_none : (xs : List ℕ) → Avoids None xs
unfolding Avoids
avoids_none [] = tt
avoids_none (x ∷ xs) = (tt, avoids_none xs)

pub avoids_some : (i : ℕ) (xs : List ℕ) → IsOut i xs → Avoids (Some i) xs
unfolding Avoids IsOut
avoids_some i [] h = tt
avoids_some i (x ∷ xs) h = ((λ k. h.0 (sym k)), avoids_some i xs h.1)

-- the last of one list avoids a list that has none of it
pub last_avoids : (o : Option ℕ) (xs zs : List ℕ) → Avoids o zs → AreDistinctSlots (xs ++ zs)
    → Avoids (last_from o xs) zs
unfolding AreDistinctSlots
last_avoids o [] zs h k = h
last_avoids o (x ∷ xs) zs h k = last_avoids (Some x) xs zs (avoids_some x zs (out_back x xs zs k.0)) k.1

pub first_avoids : (xs : List ℕ) (zs : List ℕ) → AreDistinctSlots (xs ++ zs) → Avoids (first_of xs) zs
unfolding AreDistinctSlots
first_avoids [] zs k = avoids_none zs
first_avoids (x ∷ xs) zs k = avoids_some x zs (out_back x xs zs k.0)

-- the last of a list, seen from behind
pub record Ending (xs : List ℕ) (i : ℕ) : Type 0 where
  pub front : List ℕ
  pub is : xs ≡ front ++ i ∷ []

pub ending : (xs : List ℕ) (i : ℕ) (x : ℕ) → last_from (Some x) xs ≡ Some i → Ending (x ∷ xs) i
ending [] i x h = let k : x ≡ i = cc in record { front = []; is = ap (λ (n : ℕ). n ∷ []) k }
ending (y ∷ xs) i x h = let e = ending xs i y h in record
    { front = x ∷ e.front; is = ap (λ (zs : List ℕ). x ∷ zs) e.is }

pub ends_with : (xs : List ℕ) (i : ℕ) → last_of xs ≡ Some i → Ending xs i
ends_with [] i h = absurd cc
ends_with (x ∷ xs) i h = ending xs i x h

-- a list that starts with i
pub record Starting (xs : List ℕ) (i : ℕ) : Type 0 where
  pub back : List ℕ
  pub is : xs ≡ i ∷ back

pub starts_with : (xs : List ℕ) (i : ℕ) → first_of xs ≡ Some i → Starting xs i
starts_with [] i h = cc
starts_with (x ∷ xs) i h = record { back = xs; is = cc }

pub starts_empty : (xs : List ℕ) → first_of xs ≡ None → xs ≡ []
starts_empty [] h = refl
starts_empty (x ∷ xs) h = absurd cc

-- without the part in the middle
pub out_middles : (i : ℕ) (xs ys zs : List ℕ) → IsOut i (xs ++ (ys ++ zs)) → IsOut i (xs ++ zs)
out_middles i xs ys zs h = out_append i xs zs (out_front i xs (ys ++ zs) h)
    (out_back i ys zs (out_back i xs (ys ++ zs) h))

pub without_middle : (xs ys zs : List ℕ) → AreDistinctSlots (xs ++ (ys ++ zs)) → AreDistinctSlots (xs ++ zs)
unfolding AreDistinctSlots
without_middle [] ys zs h = different_back ys zs h
without_middle (x ∷ xs) ys zs h = (out_middles x xs ys zs h.0, without_middle xs ys zs h.1)

-- a slot is in a list, or out of it
holds_more : (x : ℕ) (xs : List ℕ) (i : ℕ) → HoldsSlot xs i → HoldsSlot (x ∷ xs) i
holds_more x xs i h = record { front = x ∷ h.front; back = h.back; is = ap (λ (zs : List ℕ). x ∷ zs) h.is }

pub in_or_out : (i : ℕ) (xs : List ℕ) → HoldsSlot xs i ⊎ IsOut i xs
unfolding IsOut
in_or_out i [] = inr tt
in_or_out i (x ∷ xs) =
    elim (cases_eq x i) [
      | inl here ↦ inl (record { front = []; back = xs; is = ap (λ (n : ℕ). n ∷ xs) here })
      | inr other ↦ elim (in_or_out i xs) [ inl later ↦ inl (holds_more x xs i later) | inr out ↦ inr (other, out) ]
    ]

pub holds_in : (i : ℕ) (xs : List ℕ) → (IsOut i xs → ⊥) → HoldsSlot xs i
holds_in i xs h = elim (in_or_out i xs) [ inl held ↦ held | inr out ↦ absurd (h out) ]

pub held_not_out : (i : ℕ) (xs : List ℕ) → HoldsSlot xs i → IsOut i xs → ⊥
held_not_out i xs held out = out_here i held.front held.back (subst (IsOut i) held.is out)

pub not_first_out : (x : ℕ) (xs : List ℕ) → IsOut x (x ∷ xs) → ⊥
unfolding IsOut
not_first_out x xs h = h.0 refl

pub out_more : (i x : ℕ) (xs : List ℕ) → (x ≡ i → ⊥) → IsOut i xs → IsOut i (x ∷ xs)
unfolding IsOut
out_more i x xs h k = (h, k)

pub below_at : (n i : ℕ) (xs : List ℕ) → AreBelow n xs → (IsOut i xs → ⊥) → i < n
below_at n i xs b h = let held = holds_in i xs h in below_here n held.front i held.back (subst (AreBelow n) held.is b)

pub all_below : (n : ℕ) (zs xs : List ℕ) → ((i : ℕ) → IsOut i xs → IsOut i zs) → AreBelow n xs → AreBelow n zs
unfolding AreBelow IsOut
all_below n [] xs h b = tt
all_below n (z ∷ zs) xs h b = (below_at n z xs b (λ out. (h z out).0 refl), all_below n zs xs (λ i out. (h i out).1) b)

-- a list without repeats is no longer than one that has all of it
pub no_longer : (zs ys : List ℕ) → AreDistinctSlots zs → ((i : ℕ) → IsOut i ys → IsOut i zs) → length zs ≤ length ys
unfolding AreDistinctSlots IsOut
no_longer [] ys d h = omega arith
no_longer (z ∷ zs) ys d h =
    let held = holds_in z ys (λ out. (h z out).0 refl) in
    let rest = no_longer zs (held.front ++ held.back) d.1 (λ i out.
    elim (cases_eq z i) [
      | inl same ↦ subst (λ n. IsOut n zs) same d.0
      | inr other ↦ (h i (subst (IsOut i) (sym held.is) (out_middle i held.front z held.back other out))).1
    ]) in
    omega (
      arith,
      rest,
      ap (λ (xs : List ℕ). length xs) held.is,
      length-append held.front (z ∷ held.back),
      length-append
          held.front held.back,
    )

-- out of a list, wherever one of it stands
pub out_last : (j i : ℕ) (xs : List ℕ) → IsOut j (i ∷ xs) → IsOut j (xs ++ i ∷ [])
out_last j i xs h = out_swap j (i ∷ []) xs h

pub out_to_front : (j : ℕ) (xs : List ℕ) (i : ℕ) (ys : List ℕ) → IsOut j (xs ++ i ∷ ys) → IsOut j (i ∷ (xs ++ ys))
out_to_front j xs i ys h = out_more j i (xs ++ ys) (out_first i ys j (out_back j xs (i ∷ ys) h)) (out_less j xs i ys h)

-- ---- How chains change.

pub pair_same : (links : List Pair) (i : ℕ) (p : Pair) → i < length links → pair_at (slice_set links i p) i ≡ p
pair_same links i p h = get_or-set_same links i p (record { prev = None; next = None }) h

pub pair_other : (links : List Pair) (i j : ℕ) (p : Pair) → j ≢ i → pair_at (slice_set links i p) j ≡ pair_at links j
pair_other links i j p h = get_or-set_other links i j p (record { prev = None; next = None }) h

pub next_other : (at to : Option ℕ) (links : List Pair) (x : ℕ) → Differs at x → pair_at (set_next at to links) x
    ≡ pair_at links x
next_other None to links x h = refl
next_other (Some i) to links x h = pair_other links i x (record { prev = (pair_at links i).prev; next = to })
    (λ k. h (sym k))

pub prev_other : (at to : Option ℕ) (links : List Pair) (x : ℕ) → Differs at x → pair_at (set_prev at to links) x
    ≡ pair_at links x
prev_other None to links x h = refl
prev_other (Some i) to links x h = pair_other links i x (record { prev = to; next = (pair_at links i).next })
    (λ k. h (sym k))

pub length-set_next : (at to : Option ℕ) (links : List Pair) → length (set_next at to links) ≡ length links
length-set_next None to links = refl
length-set_next (Some i) to links = length-set links i (record { prev = (pair_at links i).prev; next = to })

pub length-set_prev : (at to : Option ℕ) (links : List Pair) → length (set_prev at to links) ≡ length links
length-set_prev None to links = refl
length-set_prev (Some i) to links = length-set links i (record { prev = to; next = (pair_at links i).next })

-- two arrays that agree on a list chain it alike
pub linked_same : (ls ms : List Pair) (o : Option ℕ) (xs : List ℕ) (z : Option ℕ) → Agree ls ms xs → Linked ls o xs z
    → Linked ms o xs z
unfolding Linked Agree
linked_same ls ms o [] z a h = tt
linked_same ls ms o (x ∷ xs) z a h =
    (ap (λ (p : Pair). p.prev) a.0 ∙ h.0, ap (λ (p : Pair). p.next) a.0 ∙ h.1, linked_same ls ms (Some x) xs z a.1 h.2)

pub agree_next : (at to : Option ℕ) (links : List Pair) (xs : List ℕ) → Avoids at xs
    → Agree links (set_next at to links) xs
unfolding Agree Avoids
agree_next at to links [] h = tt
agree_next at to links (x ∷ xs) h = (next_other at to links x h.0, agree_next at to links xs h.1)

pub agree_prev : (at to : Option ℕ) (links : List Pair) (xs : List ℕ) → Avoids at xs
    → Agree links (set_prev at to links) xs
unfolding Agree Avoids
agree_prev at to links [] h = tt
agree_prev at to links (x ∷ xs) h = (prev_other at to links x h.0, agree_prev at to links xs h.1)

pub agree_set : (links : List Pair) (i : ℕ) (p : Pair) (xs : List ℕ) → IsOut i xs → Agree links (slice_set links i p) xs
unfolding Agree IsOut
agree_set links i p [] h = tt
agree_set links i p (x ∷ xs) h = (pair_other links i x p h.0, agree_set links i p xs h.1)

pub onward_same : (ls ms : List Pair) (xs : List ℕ) → Agree ls ms xs → Onward ls xs → Onward ms xs
unfolding Onward Agree
onward_same ls ms [] a h = tt
onward_same ls ms (x ∷ xs) a h = (ap (λ (p : Pair). p.next) a.0 ∙ h.0, onward_same ls ms xs a.1 h.1)

-- another slot before the first one
pub onward_in : (links : List Pair) (xs : List ℕ) (i : ℕ) → IsOut i xs → i < length links → Onward links xs
    → Onward (set_next (Some i) (first_of xs) links) (i ∷ xs)
unfolding Onward
onward_in links xs i out within h =
    let to : Pair = record { prev = (pair_at links i).prev; next = first_of xs } in (
      ap (λ (p : Pair). p.next) (pair_same links i to within),
      onward_same links (slice_set links i to) xs
          (agree_set links i to xs out) h,
    )

-- the first one goes
pub onward_next : (links : List Pair) (x : ℕ) (xs : List ℕ) → Onward links (x ∷ xs) → (pair_at links x).next
    ≡ first_of xs
unfolding Onward
onward_next links x xs h = h.0

pub onward_rest : (links : List Pair) (x : ℕ) (xs : List ℕ) → Onward links (x ∷ xs) → Onward links xs
unfolding Onward
onward_rest links x xs h = h.1

pub agree_trans : (ls ms ns : List Pair) (xs : List ℕ) → Agree ls ms xs → Agree ms ns xs → Agree ls ns xs
unfolding Agree
agree_trans ls ms ns [] h k = tt
agree_trans ls ms ns (x ∷ xs) h k = (k.0 ∙ h.0, agree_trans ls ms ns xs h.1 k.1)

-- a chain in two parts
pub join : (links : List Pair) (o : Option ℕ) (xs ys : List ℕ) (z : Option ℕ) → Linked links o xs (first_or ys z)
    → Linked links (last_from o xs) ys z → Linked links o (xs ++ ys) z
unfolding Linked
join links o [] ys z h k = k
join links o (x ∷ xs) ys z h k = (h.0, h.1 ∙ sym (first_append xs ys z), join links (Some x) xs ys z h.2 k)

pub part_front : (links : List Pair) (o : Option ℕ) (xs ys : List ℕ) (z : Option ℕ) → Linked links o (xs ++ ys) z
    → Linked links o xs (first_or ys z)
unfolding Linked
part_front links o [] ys z h = tt
part_front links o (x ∷ xs) ys z h = (h.0, h.1 ∙ first_append xs ys z, part_front links (Some x) xs ys z h.2)

pub part_back : (links : List Pair) (o : Option ℕ) (xs ys : List ℕ) (z : Option ℕ) → Linked links o (xs ++ ys) z
    → Linked links (last_from o xs) ys z
unfolding Linked
part_back links o [] ys z h = h
part_back links o (x ∷ xs) ys z h = part_back links (Some x) xs ys z h.2

linked_first : (links : List Pair) (o : Option ℕ) (x : ℕ) (xs : List ℕ) (z : Option ℕ) → Linked links o (x ∷ xs) z
    → ((pair_at links x).prev ≡ o) × ((pair_at links x).next ≡ first_or xs z)
unfolding Linked
linked_first links o x xs z h = (h.0, h.1)

-- the neighbours of a slot in the middle
pub prev_here : (links : List Pair) (xs : List ℕ) (i : ℕ) (ys : List ℕ) → Linked links None (xs ++ i ∷ ys) None
    → (pair_at links i).prev ≡ last_of xs
prev_here links xs i ys h = (linked_first links (last_of xs) i ys None (part_back links None xs (i ∷ ys) None h)).0

pub next_here : (links : List Pair) (xs : List ℕ) (i : ℕ) (ys : List ℕ) → Linked links None (xs ++ i ∷ ys) None
    → (pair_at links i).next ≡ first_of ys
next_here links xs i ys h = (linked_first links (last_of xs) i ys None (part_back links None xs (i ∷ ys) None h)).1

-- another slot behind the last one
below_first : (n : ℕ) (x : ℕ) (xs : List ℕ) → AreBelow n (x ∷ xs) → x < n
unfolding AreBelow
below_first n x xs h = h.0

below_rest : (n : ℕ) (x : ℕ) (xs : List ℕ) → AreBelow n (x ∷ xs) → AreBelow n xs
unfolding AreBelow
below_rest n x xs h = h.1

different_first : (x : ℕ) (xs : List ℕ) → AreDistinctSlots (x ∷ xs) → IsOut x xs
unfolding AreDistinctSlots
different_first x xs h = h.0

different_rest : (x : ℕ) (xs : List ℕ) → AreDistinctSlots (x ∷ xs) → AreDistinctSlots xs
unfolding AreDistinctSlots
different_rest x xs h = h.1

last_unlike : (x y : ℕ) (ys : List ℕ) → IsOut x (y ∷ ys) → Differs (last_from (Some y) ys) x
unfolding IsOut
last_unlike x y ys h = last_differs (Some y) ys x h.0 h.1

set_end : (links : List Pair) (o : Option ℕ) (x : ℕ) (xs : List ℕ) (z v : Option ℕ) → AreDistinctSlots (x ∷ xs)
    → AreBelow (length links) (x ∷ xs) → Linked links o (x ∷ xs) z
    → Linked (set_next (last_from (Some x) xs) v links) o (x ∷ xs) v
unfolding Linked
set_end links o x [] z v d b h =
    let same = pair_same links x (record { prev = (pair_at links x).prev; next = v })
    (below_first (length links) x [] b) in
    (ap (λ (p : Pair). p.prev) same ∙ h.0, ap (λ (p : Pair). p.next) same, tt)
set_end links o x (y ∷ ys) z v d b h =
    let other = next_other (last_from (Some y) ys) v links x (last_unlike x y ys (different_first x (y ∷ ys) d)) in (
      ap (λ (p : Pair). p.prev) other ∙ h.0,
      ap (λ (p : Pair). p.next) other
          ∙ h.1,
      set_end links (Some x) y ys z v (different_rest x (y ∷ ys) d) (below_rest (length links) x (y ∷ ys) b)
          h.2,
    )

pub end_set : (links : List Pair) (xs : List ℕ) (z v : Option ℕ) → AreDistinctSlots xs → AreBelow (length links) xs
    → Linked links None xs z → Linked (set_next (last_of xs) v links) None xs v
unfolding Linked
end_set links [] z v d b h = tt
end_set links (x ∷ xs) z v d b h = set_end links None x xs z v d b h

pub start_set : (links : List Pair) (o : Option ℕ) (xs : List ℕ) (z v : Option ℕ) → AreDistinctSlots xs
    → AreBelow (length links) xs → Linked links o xs z → Linked (set_prev (first_of xs) v links) v xs z
unfolding Linked
start_set links o [] z v d b h = tt
start_set links o (x ∷ xs) z v d b h =
    let same = pair_same links x (record { prev = v; next = (pair_at links x).next })
    (below_first (length links) x xs b) in (
      ap (λ (p : Pair). p.prev) same,
      ap (λ (p : Pair). p.next) same ∙ h.1,
      linked_same links (set_prev (Some x) v links) (Some x) xs z
          (agree_set links x (record { prev = v; next = (pair_at links x).next }) xs (different_first x xs d)) h.2,
    )

alone : (links : List Pair) (o : Option ℕ) (i : ℕ) → (pair_at links i).prev ≡ o → (pair_at links i).next ≡ None
    → Linked links o (i ∷ []) None
unfolding Linked
alone links o i h k = (h, k, tt)

pub entered_linked : (links : List Pair) (xs : List ℕ) (i : ℕ) → AreDistinctSlots xs → AreBelow (length links) xs
    → IsOut i xs → i < length links → Linked links None xs None
    → Linked (entered (last_of xs) i links) None (xs ++ i ∷ []) None
unfolding entered
entered_linked links xs i d b out within h =
    let mid = set_next (last_of xs) (Some i) links in
    let here = pair_same mid i (record { prev = last_of xs; next = None })
    (rw (length-set_next (last_of xs) (Some i) links) within) in
    join (slice_set mid i (record { prev = last_of xs; next = None })) None xs (i ∷ []) None
    (linked_same mid (slice_set mid i (record { prev = last_of xs; next = None })) None xs (Some i)
    (agree_set mid i (record { prev = last_of xs; next = None }) xs out) (end_set links xs None (Some i) d b h))
    (alone (slice_set mid i (record { prev = last_of xs; next = None })) (last_of xs) i (ap (λ (p : Pair). p.prev) here)
    (ap (λ (p : Pair). p.next) here))

pub entered_agree : (links : List Pair) (last : Option ℕ) (i : ℕ) (zs : List ℕ) → Avoids last zs → IsOut i zs
    → Agree links (entered last i links) zs
unfolding entered
entered_agree links last i zs a out =
    agree_trans links (set_next last (Some i) links)
    (slice_set (set_next last (Some i) links) i (record { prev = last; next = None })) zs
    (agree_next last (Some i) links zs a)
    (agree_set (set_next last (Some i) links) i (record { prev = last; next = None }) zs out)

pub length-entered : (links : List Pair) (last : Option ℕ) (i : ℕ) → length (entered last i links) ≡ length links
unfolding entered
length-entered links last i = length-set (set_next last (Some i) links) i (record { prev = last; next = None })
    ∙ length-set_next last (Some i) links

-- a slot goes
linked_rest : (links : List Pair) (o : Option ℕ) (x : ℕ) (xs : List ℕ) (z : Option ℕ) → Linked links o (x ∷ xs) z
    → Linked links (Some x) xs z
unfolding Linked
linked_rest links o x xs z h = h.2

left_parts : (links : List Pair) (xs : List ℕ) (i : ℕ) (ys : List ℕ) → AreDistinctSlots (xs ++ i ∷ ys)
    → AreBelow (length links) (xs ++ i ∷ ys) → Linked links None xs (Some i) → Linked links (Some i) ys None
    → Linked (set_prev (first_of ys) (last_of xs) (set_next (last_of xs) (first_of ys) links)) None (xs ++ ys) None
left_parts links xs i ys d b h k =
    let both : AreDistinctSlots (xs ++ ys) = different_out xs i ys d in
    let below : AreBelow (length links) (xs ++ ys) = below_out (length links) xs i ys b in
    let mid = set_next (last_of xs) (first_of ys) links in
    let front : Linked mid None xs (first_of ys) = end_set links xs (Some i) (first_of ys) (different_front xs ys both)
    (below_front (length links) xs ys below) h in
    let back : Linked mid (Some i) ys None = linked_same links mid (Some i) ys None
    (agree_next (last_of xs) (first_of ys) links ys (last_avoids None xs ys (avoids_none ys) both)) k in
    let swapped : AreDistinctSlots (ys ++ xs) = different_swap xs ys both in
    join (set_prev (first_of ys) (last_of xs) mid) None xs ys None
    (linked_same mid (set_prev (first_of ys) (last_of xs) mid) None xs (first_of ys)
    (agree_prev (first_of ys) (last_of xs) mid xs (first_avoids ys xs swapped)) front)
    (start_set mid (Some i) ys None (last_of xs) (different_back xs ys both)
    (rw (length-set_next (last_of xs) (first_of ys) links) (below_back (length links) xs ys below)) back)

pub left_linked : (links : List Pair) (xs : List ℕ) (i : ℕ) (ys : List ℕ) → AreDistinctSlots (xs ++ i ∷ ys)
    → AreBelow (length links) (xs ++ i ∷ ys) → Linked links None (xs ++ i ∷ ys) None
    → Linked (chain_without (pair_at links i) links) None (xs ++ ys) None
unfolding chain_without
left_linked links xs i ys d b h =
    rw (prev_here links xs i ys h, next_here links xs i ys h)
    (left_parts links xs i ys d b (part_front links None xs (i ∷ ys) None h)
    (linked_rest links (last_of xs) i ys None (part_back links None xs (i ∷ ys) None h)))

pub left_agree : (links : List Pair) (p : Pair) (zs : List ℕ) → Avoids p.prev zs → Avoids p.next zs
    → Agree links (chain_without p links) zs
unfolding chain_without
left_agree links p zs a b =
    agree_trans links (set_next p.prev p.next links) (set_prev p.next p.prev (set_next p.prev p.next links)) zs
    (agree_next p.prev p.next links zs a) (agree_prev p.next p.prev (set_next p.prev p.next links) zs b)

pub length-left : (links : List Pair) (p : Pair) → length (chain_without p links) ≡ length links
unfolding chain_without
length-left links p = length-set_prev p.next p.prev (set_next p.prev p.next links) ∙ length-set_next p.prev p.next links

-- a walk along a chain gives its list
pub trail_is : (links : List Pair) (o : Option ℕ) (xs : List ℕ) → Linked links o xs None
    → trail (length xs) links (first_of xs) ≡ xs
unfolding Linked trail
trail_is links o [] h = refl
trail_is links o (x ∷ xs) h = rw h.1 (ap (λ (zs : List ℕ). x ∷ zs) (trail_is links (Some x) xs h.2))

pub onward_trail : (links : List Pair) (xs : List ℕ) → Onward links xs → trail (length xs) links (first_of xs) ≡ xs
unfolding Onward trail
onward_trail links [] h = refl
onward_trail links (x ∷ xs) h = rw h.0 (ap (λ (zs : List ℕ). x ∷ zs) (onward_trail links xs h.1))
