-- Chains of single links, and the slots of one bucket among all.
use Rattle.std.proofs.Common.{◌≡◌, ℕ, ◌+◌, ◌<◌, List, [], ◌∷◌, ◌++◌, length, slice_set, Option, Some, None, refl, ap}
use Rattle.std.proofs.Common.{subst, sym, ◌∙◌, arith, append_assoc, length-append, get_or-set_same, get_or-set_other}
use Rattle.std.proofs.Common.{◌≢◌, ◌≤◌, replicate, inl, inr, length-set}
use Rattle.std.proofs.lemmas.List.{get_or_append_left, get_or-replicate}
use Rattle.std.proofs.lemmas.Option.{same_Some}
use Rattle.std.proofs.lemmas.Bool.{cases_eq}
use Rattle.djq_arena.specs.Chains.{last_from, last_of, IsOut, AreDistinctSlots, AreBelow, Differs}
use Rattle.djq_arena.specs.Buckets.{link_at, Chained, StandsInChain, IsBehind, relinked, reheaded, IsBucket, AreBuckets}
use Rattle.djq_arena.specs.Buckets.{IsUnlisted}
use Rattle.djq_arena.proofs.Chains.{last_append, last_differs, out_front, out_here, below_here, below_front, below_back}
use Rattle.djq_arena.proofs.Chains.{ends_with, different_back, out_less, out_middle, different_out, different_here}
use Rattle.djq_arena.proofs.Chains.{in_or_out, holds_in, held_not_out, out_first, out_rest, out_more, all_below}
use Rattle.djq_arena.proofs.Chains.{no_longer}

-- ---- How chains of single links change.

-- two arrays have the same link for each slot of the list
pub Keeps : List (Option ℕ) → List (Option ℕ) → List ℕ → Type 0
Keeps links more xs = (i : ℕ) → (IsOut i xs → ⊥) → link_at more i ≡ link_at links i

keeps_more : (links more : List (Option ℕ)) (x : ℕ) (xs : List ℕ) → Keeps links more (x ∷ xs)
    → (link_at more x ≡ link_at links x) × Keeps links more xs
unfolding Keeps IsOut
keeps_more links more x xs k = (k x (λ out. out.0 refl), (λ i h. k i (λ out. h out.1)))

pub keeps_all : (links more : List (Option ℕ)) (xs zs : List ℕ) → ((i : ℕ) → IsOut i xs → IsOut i zs)
    → Keeps links more xs → Keeps links more zs
unfolding Keeps
keeps_all links more xs zs h k = (λ i other. k i (λ out. other (h i out)))

pub keeps_set : (links : List (Option ℕ)) (i : ℕ) (o : Option ℕ) (xs : List ℕ) → IsOut i xs
    → Keeps links (slice_set links i o) xs
unfolding Keeps
keeps_set links i o xs out =
    (λ j other. get_or-set_other links i j o None (λ same. other (subst (λ n. IsOut n xs) (sym same) out)))

pub keeps_append : (links : List (Option ℕ)) (o : Option ℕ) (xs : List ℕ)
    → ((i : ℕ) → (IsOut i xs → ⊥) → i < length links) → Keeps links (links ++ o ∷ []) xs
unfolding Keeps
keeps_append links o xs below = (λ i other. get_or_append_left links (o ∷ []) None i (below i other))

pub keeps_self : (links : List (Option ℕ)) (xs : List ℕ) → Keeps links links xs
unfolding Keeps
keeps_self links xs = (λ i other. refl)

-- the same links chain the same list
pub chained_same : (links more : List (Option ℕ)) (at : Option ℕ) (xs : List ℕ) → Keeps links more xs
    → Chained links at xs → Chained more at xs
unfolding Chained
chained_same links more at [] k h = h
chained_same links more at (x ∷ xs) k h =
    let both = keeps_more links more x xs k in
    (h.0, rw (both.0) (chained_same links more (link_at links x) xs both.1 h.1))

-- the first of a chain, and the rest of it
pub chained_rest : (links : List (Option ℕ)) (at : Option ℕ) (x : ℕ) (xs : List ℕ) → Chained links at (x ∷ xs)
    → Chained links (link_at links x) xs
unfolding Chained
chained_rest links at x xs h = h.1

pub chained_first : (links : List (Option ℕ)) (at : Option ℕ) (x : ℕ) (xs : List ℕ) → Chained links at (x ∷ xs) → at
    ≡ Some x
unfolding Chained
chained_first links at x xs h = h.0

pub chained_over : (links : List (Option ℕ)) (xs : List ℕ) → Chained links None xs → xs ≡ []
unfolding Chained
chained_over links [] h = refl
chained_over links (x ∷ xs) h = absurd cc

-- the list of a chain from a slot on
pub record Ahead (links : List (Option ℕ)) (i : ℕ) (xs : List ℕ) : Type 0 where
  pub rest : List ℕ
  pub is : xs ≡ i ∷ rest
  pub chained : Chained links (link_at links i) rest

pub ahead : (links : List (Option ℕ)) (i : ℕ) (xs : List ℕ) → Chained links (Some i) xs → Ahead links i xs
unfolding Chained
ahead links i [] h = absurd cc
ahead links i (x ∷ xs) h =
    let same : x ≡ i = cc in
    record {
      rest = xs;
      is = ap (λ (n : ℕ). n ∷ xs) same;
      chained = subst (λ n. Chained links (link_at links n) xs) same
          h.1;
    }

-- a chain gives its list
pub chained_one : (links : List (Option ℕ)) (at : Option ℕ) (xs ys : List ℕ) → Chained links at xs → Chained links at ys
    → xs ≡ ys
unfolding Chained
chained_one links at [] [] h k = refl
chained_one links at [] (y ∷ ys) h k = absurd cc
chained_one links at (x ∷ xs) [] h k = absurd cc
chained_one links at (x ∷ xs) (y ∷ ys) h k =
    let same : x ≡ y = cc in
    ap (λ (n : ℕ). n ∷ xs) same
    ∙ ap (λ (zs : List ℕ). y ∷ zs)
    (chained_one links (link_at links y) xs ys (subst (λ n. Chained links (link_at links n) xs) same h.1) k.1)

-- a slot comes in as the first
pub chained_more : (links : List (Option ℕ)) (i : ℕ) (at : Option ℕ) (xs : List ℕ) → i < length links → IsOut i xs
    → Chained links at xs → Chained (slice_set links i at) (Some i) (i ∷ xs)
unfolding Chained
chained_more links i at xs within out h = (
  refl,
  rw (get_or-set_same links i at None within)
      (chained_same links (slice_set links i at) at xs (keeps_set links i at xs out) h),
)

-- a slot goes
relinked_other : (o to : Option ℕ) (links : List (Option ℕ)) (x : ℕ) → Differs o x → link_at (relinked o to links) x
    ≡ link_at links x
relinked_other None to links x h = refl
relinked_other (Some i) to links x h = get_or-set_other links i x to None (λ k. h (sym k))

apart_first : (x : ℕ) (xs : List ℕ) → AreDistinctSlots (x ∷ xs) → IsOut x xs × AreDistinctSlots xs
unfolding AreDistinctSlots
apart_first x xs h = h

below_both : (n x : ℕ) (xs : List ℕ) → AreBelow n (x ∷ xs) → (x < n) × AreBelow n xs
unfolding AreBelow
below_both n x xs h = h

out_both : (i x : ℕ) (xs : List ℕ) → IsOut i (x ∷ xs) → (x ≡ i → ⊥) × IsOut i xs
unfolding IsOut
out_both i x xs h = h

passed_over : (links : List (Option ℕ)) (at : Option ℕ) (x : ℕ) (xs : List ℕ) (i : ℕ) (ys : List ℕ)
    → AreDistinctSlots (x ∷ (xs ++ i ∷ ys)) → AreBelow (length links) (x ∷ (xs ++ i ∷ ys))
    → Chained links at (x ∷ (xs ++ i ∷ ys))
    → Chained (relinked (last_from (Some x) xs) (link_at links i) links) at (x ∷ (xs ++ ys))
unfolding Chained
passed_over links at x [] i ys d b h =
    let out = (out_both x i ys (apart_first x (i ∷ ys) d).0).1 in (
      h.0,
      rw (get_or-set_same links x (link_at links i) None (below_both (length links) x (i ∷ ys) b).0)
          (chained_same links (slice_set links x (link_at links i)) (link_at links i) ys
          (keeps_set links x (link_at links i) ys out) h.1.1),
    )
passed_over links at x (y ∷ xs) i ys d b h =
    let out = out_both x y xs (out_front x (y ∷ xs) (i ∷ ys) (apart_first x (y ∷ (xs ++ i ∷ ys)) d).0) in (
      h.0,
      rw (relinked_other (last_from (Some y) xs) (link_at links i) links x (last_differs (Some y) xs x out.0 out.1))
          (passed_over links (link_at links x) y xs i ys (apart_first x (y ∷ (xs ++ i ∷ ys)) d).1
          (below_both (length links) x (y ∷ (xs ++ i ∷ ys)) b).1 h.1),
    )

not_none : (x : ℕ) (xs : List ℕ) → last_from (Some x) xs ≡ None → ⊥
not_none x [] h = cc
not_none x (y ∷ xs) h = not_none y xs h

head_kept : (o : Option ℕ) (k : ℕ) (to : Option ℕ) (heads : List (Option ℕ)) → (o ≡ None → ⊥) → reheaded o k to heads
    ≡ heads
head_kept None k to heads h = absurd (h refl)
head_kept (Some i) k to heads h = refl

pub chained_without : (links heads : List (Option ℕ)) (k : ℕ) (xs : List ℕ) (i : ℕ) (ys : List ℕ) → k < length heads
    → AreDistinctSlots (xs ++ i ∷ ys) → AreBelow (length links) (xs ++ i ∷ ys)
    → Chained links (link_at heads k) (xs ++ i ∷ ys)
    → Chained (relinked (last_of xs) (link_at links i) links)
    (link_at (reheaded (last_of xs) k (link_at links i) heads) k) (xs ++ ys)
chained_without links heads k [] i ys inside d b h =
    rw (get_or-set_same heads k (link_at links i) None inside) (chained_rest links (link_at heads k) i ys h)
chained_without links heads k (x ∷ xs) i ys inside d b h =
    rw (head_kept (last_from (Some x) xs) k (link_at links i) heads (not_none x xs))
    (passed_over links (link_at heads k) x xs i ys d b h)

-- the walk from a head to the slot before this one
pub record Searching (links : List (Option ℕ)) (head : Option ℕ) (i : ℕ) (before at : Option ℕ) (step : ℕ) : Type 0
  where
    pub front : List ℕ
    pub middle : List ℕ
    pub back : List ℕ
    pub chained : Chained links head (front ++ (middle ++ i ∷ back))
    pub different : AreDistinctSlots (front ++ (middle ++ i ∷ back))
    pub below : AreBelow (length links) (front ++ (middle ++ i ∷ back))
    pub short : length front + length middle < length links
    pub ahead : Chained links at (middle ++ i ∷ back)
    pub is : before ≡ last_of front
    pub steps : length front ≡ step

pub searching : (links : List (Option ℕ)) (head : Option ℕ) (i : ℕ) (before : Option ℕ)
    → StandsInChain links head i → before
    ≡ None → Searching links head i before head 0
searching links head i before s none = record {
  front = [];
  middle = s.front;
  back = s.back;
  chained = s.chained;
  different = s.different;
  below = s.below;
  short = omega (arith, s.short);
  ahead = s.chained;
  is = none;
  steps = refl;
}

no_end : (links : List (Option ℕ)) (xs : List ℕ) (i : ℕ) (ys : List ℕ) → Chained links None (xs ++ i ∷ ys) → ⊥
unfolding Chained
no_end links [] i ys h = cc
no_end links (x ∷ xs) i ys h = cc

pub search_on : (links : List (Option ℕ)) (head : Option ℕ) (i : ℕ) (before : Option ℕ) (step : ℕ)
    → Searching links head i before None step → ⊥
search_on links head i before step s = no_end links s.middle i s.back s.ahead

pub search_within : (links : List (Option ℕ)) (head : Option ℕ) (i : ℕ) (before : Option ℕ) (here step : ℕ)
    → Searching links head i before (Some here) step → here < length links
search_within links head i before here step s =
    let a = ahead links here (s.middle ++ i ∷ s.back) s.ahead in
    (below_both (length links) here a.rest
    (subst (AreBelow (length links)) a.is (below_back (length links) s.front (s.middle ++ i ∷ s.back) s.below))).0

-- the parts of a walk that has come to a slot
search_ends : (links : List (Option ℕ)) (head : Option ℕ) (i : ℕ) (before : Option ℕ) (here : ℕ)
    (front middle back : List ℕ)
    → Chained links head (front ++ (middle ++ i ∷ back)) → AreDistinctSlots (front ++ (middle ++ i ∷ back))
    → AreBelow (length links) (front ++ (middle ++ i ∷ back)) → length front + length middle < length links
    → Chained links (Some here) (middle ++ i ∷ back) → before ≡ last_of front → here ≡ i → IsBehind links head i before
search_ends links head i before here front [] back c d b s a is same =
    record {
      place = record
          { front = front; back = back; chained = c; different = d; below = b; short = omega (arith, s) };
      is = is;
    }
search_ends links head i before here front (y ∷ middle) back c d b s a is same =
    let first : y ≡ i = sym (same_Some here y (chained_first links (Some here) y (middle ++ i ∷ back) a)) ∙ same in
    absurd (out_here i middle back
    (subst (λ n. IsOut n (middle ++ i ∷ back)) first
    (apart_first y (middle ++ i ∷ back) (different_back front (y ∷ (middle ++ i ∷ back)) d)).0))

pub searched : (links : List (Option ℕ)) (head : Option ℕ) (i : ℕ) (before : Option ℕ) (here step : ℕ)
    → Searching links head i before (Some here) step → here ≡ i → IsBehind links head i before
searched links head i before here step s same = search_ends links head i before here s.front s.middle s.back s.chained
    s.different s.below s.short s.ahead s.is same

last_put : (xs : List ℕ) (i : ℕ) → last_of (xs ++ i ∷ []) ≡ Some i
last_put xs i = last_append None xs (i ∷ [])

search_steps : (links : List (Option ℕ)) (head : Option ℕ) (i : ℕ) (here : ℕ) (front middle back : List ℕ) (step : ℕ)
    → Chained links head (front ++ (middle ++ i ∷ back)) → AreDistinctSlots (front ++ (middle ++ i ∷ back))
    → AreBelow (length links) (front ++ (middle ++ i ∷ back)) → length front + length middle < length links
    → Chained links (Some here) (middle ++ i ∷ back) → length front ≡ step → (here ≡ i → ⊥)
    → Searching links head i (Some here) (link_at links here) (step + 1)
search_steps links head i here front [] back step c d b s a steps other = absurd
    (other (same_Some here i (chained_first links (Some here) i back a)))
search_steps links head i here front (y ∷ middle) back step c d b s a steps other =
    let first : here ≡ y = same_Some here y (chained_first links (Some here) y (middle ++ i ∷ back) a) in
    let more = append_assoc front (y ∷ []) (middle ++ i ∷ back) in
    record {
      front = front ++ y ∷ [];
      middle = middle;
      back = back;
      chained = rw more c;
      different = rw more d;
      below = rw more b;
      short = omega (arith, s, length-append front (y ∷ []));
      ahead = rw first (chained_rest links (Some here) y (middle ++ i ∷ back) a);
      is = ap (λ (n : ℕ). Some n) first ∙ sym (last_put front y);
      steps = length-append front (y ∷ []) ∙ omega (arith, steps);
    }

pub search_further : (links : List (Option ℕ)) (head : Option ℕ) (i : ℕ) (before : Option ℕ) (here : ℕ)
    (next : Option ℕ) (step : ℕ) → Searching links head i before (Some here) step → (here ≡ i → ⊥) → next
    ≡ link_at links here
    → Searching links head i (Some here) next (step + 1)
search_further links head i before here next step s other is =
    subst (λ (o : Option ℕ). Searching links head i (Some here) o (step + 1)) (sym is)
    (search_steps links head i here s.front s.middle s.back step s.chained s.different s.below s.short s.ahead
    s.steps other)

pub search_over : (links : List (Option ℕ)) (head : Option ℕ) (i : ℕ) (before at : Option ℕ) (step : ℕ)
    → Searching links head i before at step → length links < step + 1 → ⊥
search_over links head i before at step s over = omega (arith, s.short, s.steps, over)

pub stands_within : (links : List (Option ℕ)) (head : Option ℕ) (i : ℕ) → StandsInChain links head i → i < length links
stands_within links head i s = below_here (length links) s.front i s.back s.below

pub behind_within : (links : List (Option ℕ)) (head : Option ℕ) (i : ℕ) (before : Option ℕ) (x : ℕ)
    → IsBehind links head i before → before ≡ Some x → x < length links
behind_within links head i before x h is =
    let e = ends_with h.place.front x (sym h.is ∙ is) in
    below_here (length links) e.front x []
    (subst (AreBelow (length links)) e.is
    (below_front (length links) h.place.front (i ∷ h.place.back) h.place.below))

-- ---- The slots of one bucket among all.

-- the same slots in another order
pub buckets_same : (falls : ℕ → ℕ) (links heads : List (Option ℕ)) (xs ys : List ℕ) → AreBuckets falls links heads xs
    → ((i : ℕ) → IsOut i xs → IsOut i ys) → ((i : ℕ) → IsOut i ys → IsOut i xs) → AreBuckets falls links heads ys
buckets_same falls links heads xs ys b there back = record {
  each = λ k inside.
      let c = b.each k inside in
      record {
        slots = c.slots;
        chained = c.chained;
        different = c.different;
        all = λ i its out. there i (c.all i its out);
        only = λ i out. c.only i (back i out);
        its = c.its;
      };
}

-- the same slots where the links and the buckets of these stay
pub buckets_kept : (falls others : ℕ → ℕ) (links more heads : List (Option ℕ)) (xs : List ℕ)
    → AreBuckets falls links heads xs → ((i : ℕ) → (IsOut i xs → ⊥) → others i ≡ falls i) → Keeps links more xs
    → AreBuckets others more heads xs
buckets_kept falls others links more heads xs b same keeps = record {
  each = λ k inside.
      let c = b.each k inside in
      record {
        slots = c.slots;
        chained = chained_same links more (link_at heads k) c.slots (keeps_all links more xs c.slots c.only keeps)
            c.chained;
        different = c.different;
        all = λ i its out. elim (in_or_out i xs)
            [ inl held ↦ c.all i (sym (same i (held_not_out i xs held)) ∙ its) out | inr away ↦ away ];
        only = c.only;
        its = λ i other. elim (in_or_out i xs)
            [ inl held ↦ c.its i (λ here. other (same i (held_not_out i xs held) ∙ here)) | inr away ↦ c.only i away ];
      };
}

-- buckets without slots
pub empty_buckets : (falls : ℕ → ℕ) (links heads : List (Option ℕ)) → heads ≡ replicate (length heads) None
    → AreBuckets falls links heads []
unfolding Chained AreDistinctSlots IsOut
empty_buckets falls links heads h = record {
  each = λ k inside. record {
    slots = [];
    chained = ap (λ (os : List (Option ℕ)). link_at os k) h ∙ get_or-replicate (length heads) k None None inside;
    different = tt;
    all = λ i its out. tt;
    only = λ i out. tt;
    its = λ i other. tt;
  };
}

pub bucket_short : (falls : ℕ → ℕ) (k : ℕ) (links : List (Option ℕ)) (head : Option ℕ) (xs : List ℕ)
    → (b : IsBucket falls k links head xs) → length b.slots ≤ length xs
bucket_short falls k links head xs b = no_longer b.slots xs b.different b.only

different_more : (i : ℕ) (xs : List ℕ) → IsOut i xs → AreDistinctSlots xs → AreDistinctSlots (i ∷ xs)
unfolding AreDistinctSlots
different_more i xs h k = (h, k)

different_first : (i : ℕ) (xs : List ℕ) → AreDistinctSlots (i ∷ xs) → IsOut i xs
unfolding AreDistinctSlots
different_first i xs h = h.0

-- a slot comes in as the first of its bucket
more_mine : (falls : ℕ → ℕ) (k : ℕ) (links : List (Option ℕ)) (head : Option ℕ) (xs : List ℕ) (i : ℕ)
    → IsBucket falls k links head xs → IsOut i xs → i < length links → falls i ≡ k
    → IsBucket falls k (slice_set links i head) (Some i) (i ∷ xs)
more_mine falls k links head xs i b out within here = record {
  slots = i ∷ b.slots;
  chained = chained_more links i head b.slots within (b.only i out) b.chained;
  different = different_more i b.slots (b.only i out) b.different;
  all = λ j its away. out_more j i xs (out_first i b.slots j away) (b.all j its (out_rest i b.slots j away));
  only = λ j away. out_more j i b.slots (out_first i xs j away) (b.only j (out_rest i xs j away));
  its = λ j other. out_more j i b.slots (λ same. other (ap falls (sym same) ∙ here)) (b.its j other);
}

more_other : (falls : ℕ → ℕ) (k : ℕ) (links : List (Option ℕ)) (head to : Option ℕ) (xs : List ℕ) (i : ℕ)
    → IsBucket falls k links head xs → IsOut i xs → falls i ≢ k
    → IsBucket falls k (slice_set links i to) head (i ∷ xs)
more_other falls k links head to xs i b out elsewhere = record {
  slots = b.slots;
  chained = chained_same links (slice_set links i to) head b.slots (keeps_set links i to b.slots (b.only i out))
      b.chained;
  different = b.different;
  all = λ j its away. out_more j i xs (λ same. elsewhere (ap falls same ∙ its)) (b.all j its away);
  only = λ j away. b.only j (out_rest i xs j away);
  its = b.its;
}

pub listed_buckets : (falls : ℕ → ℕ) (links heads : List (Option ℕ)) (xs : List ℕ) (i k : ℕ)
    → AreBuckets falls links heads xs → IsOut i xs → i < length links → k < length heads → falls i ≡ k
    → AreBuckets falls (slice_set links i (link_at heads k)) (slice_set heads k (Some i)) (i ∷ xs)
listed_buckets falls links heads xs i k b out within inside here = record {
  each = λ j h. elim (cases_eq j k) [
    | inl same ↦ subst (λ n. IsBucket falls n (slice_set links i (link_at heads k))
        (link_at (slice_set heads k (Some i)) n) (i ∷ xs)) (sym same)
        (rw (get_or-set_same heads k (Some i) None inside)
        (more_mine falls k links (link_at heads k) xs i (b.each k inside) out within here))
    | inr other ↦ rw (get_or-set_other heads k j (Some i) None other)
        (more_other falls j links (link_at heads j) (link_at heads k) xs i
        (b.each j (subst (λ n. j < n) (length-set heads k (Some i)) h)) out
        (λ elsewhere. other (sym elsewhere ∙ here)))
  ];
}

-- a slot stands in its bucket
pub bucket_stands : (falls : ℕ → ℕ) (k : ℕ) (links : List (Option ℕ)) (head : Option ℕ) (xs : List ℕ) (i : ℕ)
    → IsBucket falls k links head xs → (IsOut i xs → ⊥) → falls i ≡ k → AreBelow (length links) xs
    → length xs ≤ length links → StandsInChain links head i
bucket_stands falls k links head xs i b held here below few =
    let place = holds_in i b.slots (λ out. held (b.all i here out)) in
    record {
      front = place.front;
      back = place.back;
      chained = subst (Chained links head) place.is b.chained;
      different = subst AreDistinctSlots place.is b.different;
      below = subst (AreBelow (length links)) place.is (all_below (length links) b.slots xs b.only below);
      short = omega (
        arith,
        bucket_short falls k links head xs b,
        few,
        ap (λ (zs : List ℕ). length zs) place.is,
        length-append place.front (i ∷ place.back),
      );
    }

-- a slot goes out of its bucket
less_mine : (falls : ℕ → ℕ) (k : ℕ) (links heads : List (Option ℕ)) (xs : List ℕ) (i : ℕ) (before : Option ℕ)
    → IsBucket falls k links (link_at heads k) (i ∷ xs) → IsOut i xs → k < length heads → falls i ≡ k
    → IsBehind links (link_at heads k) i before
    → IsBucket falls k (relinked before (link_at links i) links) (link_at (reheaded before k (link_at links i) heads) k)
    xs
less_mine falls k links heads xs i before b out inside here behind = record {
  slots = front ++ back;
  chained = subst (λ (o : Option ℕ). Chained (relinked o (link_at links i) links)
      (link_at (reheaded o k (link_at links i) heads) k) (front ++ back)) (sym behind.is)
      (chained_without links heads k front i back inside place.different place.below place.chained);
  different = different_out front i back place.different;
  all = λ j its away. elim (cases_eq i j) [
    | inl same ↦ subst (λ n. IsOut n xs) same out
    | inr other ↦ out_rest i xs j (b.all j its (subst (IsOut j) (sym slots_are) (out_middle j front i back other away)))
  ];
  only = λ j away. elim (cases_eq i j) [
    | inl same ↦ subst (λ n. IsOut n (front ++ back)) same (different_here front i back place.different)
    | inr other ↦ out_less j front i back (subst (IsOut j) slots_are (b.only j (out_more j i xs other away)))
  ];
  its = λ j other. out_less j front i back (subst (IsOut j) slots_are (b.its j other));
}
  where
    place : StandsInChain links (link_at heads k) i
    place = behind.place

    front : List ℕ
    front = place.front

    back : List ℕ
    back = place.back

    slots_are : b.slots ≡ front ++ i ∷ back
    slots_are = chained_one links (link_at heads k) b.slots (front ++ i ∷ back) b.chained place.chained

less_keeps : (o to : Option ℕ) (links : List (Option ℕ)) (zs : List ℕ) → ((x : ℕ) → o ≡ Some x → IsOut x zs)
    → Keeps links (relinked o to links) zs
less_keeps None to links zs h = keeps_self links zs
less_keeps (Some x) to links zs h = keeps_set links x to zs (h x refl)

less_other : (falls : ℕ → ℕ) (k : ℕ) (links : List (Option ℕ)) (head before to : Option ℕ) (xs : List ℕ) (i : ℕ)
    → IsBucket falls k links head (i ∷ xs) → falls i ≢ k → ((x : ℕ) → before ≡ Some x → falls x ≢ k)
    → IsBucket falls k (relinked before to links) head xs
less_other falls k links head before to xs i b elsewhere apart = record {
  slots = b.slots;
  chained = chained_same links (relinked before to links) head b.slots
      (less_keeps before to links b.slots (λ x is. b.its x (apart x is))) b.chained;
  different = b.different;
  all = λ j its away. out_rest i xs j (b.all j its away);
  only = λ j away. elim (cases_eq i j) [
    | inl same ↦ b.its j (λ here. elsewhere (ap falls same ∙ here))
    | inr other ↦ b.only j (out_more j i xs other away)
  ];
  its = b.its;
}

-- the slot before one of bucket k is of bucket k
before_falls : (falls : ℕ → ℕ) (k : ℕ) (links : List (Option ℕ)) (head : Option ℕ) (xs : List ℕ) (i : ℕ)
    (before : Option ℕ) (x : ℕ) → IsBucket falls k links head xs → IsBehind links head i before → before ≡ Some x
    → falls x ≡ k
before_falls falls k links head xs i before x b behind is =
    elim (cases_eq (falls x) k) [
      | inl here ↦ here
      | inr other ↦ absurd (stands_there (b.its x other))
    ]
  where
    stands_there : IsOut x b.slots → ⊥
    stands_there out =
        let place = behind.place in
        let e = ends_with place.front x (sym behind.is ∙ is) in
        let front = out_front x place.front (i ∷ place.back)
        (subst (IsOut x) (chained_one links head b.slots (place.front ++ i ∷ place.back) b.chained place.chained)
        out) in
        out_here x e.front [] (subst (IsOut x) e.is front)

length_reheaded : (o : Option ℕ) (k : ℕ) (to : Option ℕ) (heads : List (Option ℕ)) → length (reheaded o k to heads)
    ≡ length heads
length_reheaded None k to heads = length-set heads k to
length_reheaded (Some x) k to heads = refl

length_relinked : (o to : Option ℕ) (links : List (Option ℕ)) → length (relinked o to links) ≡ length links
length_relinked None to links = refl
length_relinked (Some x) to links = length-set links x to

reheaded_other : (o : Option ℕ) (k : ℕ) (to : Option ℕ) (heads : List (Option ℕ)) (j : ℕ) → (j ≡ k → ⊥)
    → link_at (reheaded o k to heads) j ≡ link_at heads j
reheaded_other None k to heads j h = get_or-set_other heads k j to None h
reheaded_other (Some x) k to heads j h = refl

pub unlisted_links : (links more heads others : List (Option ℕ)) (k i : ℕ) → IsUnlisted links more heads others k i
    → length more ≡ length links
unlisted_links links more heads others k i u = ap (λ (os : List (Option ℕ)). length os) u.links_are
    ∙ length_relinked u.before (link_at links i) links

pub unlisted_heads : (links more heads others : List (Option ℕ)) (k i : ℕ) → IsUnlisted links more heads others k i
    → length others ≡ length heads
unlisted_heads links more heads others k i u = ap (λ (os : List (Option ℕ)). length os) u.heads_are
    ∙ length_reheaded u.before k (link_at links i) heads

pub unlisted_buckets : (falls : ℕ → ℕ) (links more heads others : List (Option ℕ)) (xs : List ℕ) (i k : ℕ)
    → AreBuckets falls links heads (i ∷ xs) → IsOut i xs → k < length heads → falls i ≡ k
    → IsUnlisted links more heads others k i
    → AreBuckets falls more others xs
unlisted_buckets falls links more heads others xs i k b out inside here u = record {
  each = λ j h. rw (u.links_are, u.heads_are) (elim (cases_eq j k) [
    | inl same ↦ subst (λ n. IsBucket falls n (relinked u.before (link_at links i) links)
        (link_at (reheaded u.before k (link_at links i) heads) n) xs) (sym same)
        (less_mine falls k links heads xs i u.before (b.each k inside) out inside here u.behind)
    | inr other ↦ rw (reheaded_other u.before k (link_at links i) heads j other)
        (less_other falls j links (link_at heads j) u.before (link_at links i) xs i
        (b.each j (subst (λ n. j < n) (unlisted_heads links more heads others k i u) h))
        (λ elsewhere. other (sym elsewhere ∙ here))
        (λ x is elsewhere. other
        (sym elsewhere ∙ before_falls falls k links (link_at heads k) (i ∷ xs) i u.before x (b.each k inside)
        u.behind is)))
  ]);
}
