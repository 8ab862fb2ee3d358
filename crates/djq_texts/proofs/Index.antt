-- How the index of the numbers changes: one moves from a bucket to another, or comes.
use Rattle.std.proofs.Common.{◌≡◌, ℕ, suc, ◌+◌, ◌-◌, ◌<◌, ◌≤◌, List, [], ◌∷◌, ◌++◌, length, Option, Some, None, IsSome}
use Rattle.std.proofs.Common.{refl, sym, ◌∙◌, subst, arith, inl, inr, ap, slice_set}
use Rattle.std.proofs.Common.{length-set, length-append, replicate}
use Rattle.std.proofs.lemmas.Bool.{cases_eq}
use Rattle.std.proofs.lemmas.Nat.{and_le_r}
use Rattle.djq_arena.specs.Chains.{IsOut}
use Rattle.djq_arena.specs.Buckets.{link_at, AreBuckets, StandsInChain, IsUnlisted, Chained}
use Rattle.djq_arena.specs.declared.link.TheConstants.{SLOTS}
use Rattle.djq_arena.proofs.Buckets.{buckets_same, buckets_kept, keeps_self, keeps_append, bucket_stands, listed_buckets}
use Rattle.djq_arena.proofs.Buckets.{unlisted_buckets, unlisted_links, unlisted_heads, empty_buckets, chained_over, ahead}
use Rattle.djq_arena.proofs.Chains.{not_first_out}
use Rattle.djq_texts.specs.Known.{Known, known_at}
use Rattle.djq_texts.specs.Hash.{text_hash}
use Rattle.djq_texts.specs.Index.{text_bucket, place, falls, numbers, IsTextIndex}
use Rattle.djq_texts.proofs.Numbers.{numbers_out, numbers_in, numbers_below, length-numbers, not_out_below, others}
use Rattle.djq_texts.proofs.Known.{set_sets, append_sets}

pub bucket_inside : (m hash : ℕ) → 1 < m → text_bucket m hash < m
unfolding text_bucket
bucket_inside m hash h = omega (arith, and_le_r hash (m - 2), h)

pub place_inside : (m : ℕ) (o : Option Known) → 1 < m → place m o < m
place_inside m None h = omega (arith, h)
place_inside m (Some k) h = bucket_inside m (text_hash k.bytes) h

pub falls_inside : (known : List (Option Known)) (links heads : List (Option ℕ)) (i k : ℕ) → IsTextIndex known links heads
    → k ≡ falls (length heads) known i → k < length heads
falls_inside known links heads i k x here =
    subst (λ n. n < length heads) (sym here) (place_inside (length heads) (known_at known i) x.some)

-- a number stands in the bucket that it falls into
pub stands : (known : List (Option Known)) (links heads : List (Option ℕ)) (i k : ℕ) → IsTextIndex known links heads
    → i < length known → k ≡ falls (length heads) known i → StandsInChain links (link_at heads k) i
stands known links heads i k x within here =
    let inside = subst (λ n. n < length heads) (sym here) (place_inside (length heads) (known_at known i) x.some) in
    bucket_stands (falls (length heads) known) k links (link_at heads k) (numbers (length known)) i
    (x.buckets.each k inside) (numbers_in i (length known) within) (sym here)
    (rw x.linked (numbers_below (length known)))
    (rw (x.linked, length-numbers (length known)) (omega arith))

-- a number moves to the bucket of what it stands for from now on
pub moved : (known : List (Option Known)) (o : Option Known) (links more heads rest : List (Option ℕ)) (i k l : ℕ)
    → IsTextIndex known links heads → i < length known → k ≡ falls (length heads) known i → l ≡ place (length heads) o
    → IsUnlisted links more heads rest k i
    → IsTextIndex (slice_set known i o) (slice_set more i (link_at rest l)) (slice_set rest l (Some i))
moved known o links more heads rest i k l x within from to u =
    let m = length heads in
    let s = set_sets known i o within in
    let e = others i (length known) within in
    let inside = subst (λ n. n < m) (sym from) (place_inside m (known_at known i) x.some) in
    let many = unlisted_heads links more heads rest k i u in
    let long = unlisted_links links more heads rest k i u in
    let first = buckets_same (falls m known) links heads (numbers (length known)) (i ∷ e.rest) x.buckets e.more e.less in
    let gone = unlisted_buckets (falls m known) links more heads rest e.rest i k first e.out inside (sym from) u in
    let same = buckets_kept (falls m known) (falls m (slice_set known i o)) more more rest e.rest gone
    (λ j held. ap (λ (e : Option Known). place m e) (s.others j (λ is. held (subst (λ n. IsOut n e.rest) (sym is) e.out))))
    (keeps_self more e.rest) in
    let come = listed_buckets (falls m (slice_set known i o)) more rest e.rest i l same e.out
    (omega (arith, within, long, x.linked)) (subst (λ n. l < n) (sym many) (subst (λ n. n < m) (sym to) (place_inside m o x.some)))
    (ap (λ (e : Option Known). place m e) s.here ∙ sym to) in
    let all = buckets_same (falls m (slice_set known i o)) (slice_set more i (link_at rest l)) (slice_set rest l (Some i))
    (i ∷ e.rest) (numbers (length known)) come e.less e.more in
    let heads_now : length (slice_set rest l (Some i)) ≡ m = length-set rest l (Some i) ∙ many in
    record {
      buckets = rw (heads_now, length-set known i o) all;
      linked = length-set more i (link_at rest l) ∙ long ∙ x.linked ∙ sym (length-set known i o);
      some = rw heads_now x.some;
      few = rw (length-set known i o) x.few;
    }

one_more_number : (n : ℕ) → n ∷ numbers n ≡ numbers (suc n)
unfolding numbers
one_more_number n = refl

-- a number comes, behind all others
pub came : (known : List (Option Known)) (o : Option Known) (links heads : List (Option ℕ)) (l : ℕ)
    → IsTextIndex known links heads → length known < SLOTS → l ≡ place (length heads) o
    → IsTextIndex (known ++ o ∷ []) (slice_set (links ++ None ∷ []) (length known) (link_at heads l))
    (slice_set heads l (Some (length known)))
came known o links heads l x few to =
    let m = length heads in
    let n = length known in
    let s = append_sets known o in
    let long : length (links ++ None ∷ []) ≡ n + 1 = length-append links (None ∷ []) ∙ omega (arith, x.linked) in
    let more : length (known ++ o ∷ []) ≡ suc n = length-append known (o ∷ []) ∙ omega arith in
    let same = buckets_kept (falls m known) (falls m (known ++ o ∷ [])) links (links ++ None ∷ []) heads (numbers n)
    x.buckets
    (λ j held. ap (λ (e : Option Known). place m e) (s.others j (λ is. held (numbers_out j n (omega (arith, is))))))
    (keeps_append links None (numbers n) (λ i held. omega (arith, not_out_below i n held, x.linked))) in
    let come = listed_buckets (falls m (known ++ o ∷ [])) (links ++ None ∷ []) heads (numbers n) n l same
    (numbers_out n n (omega arith)) (omega (arith, long)) (subst (λ k. k < m) (sym to) (place_inside m o x.some))
    (ap (λ (e : Option Known). place m e) s.here ∙ sym to) in
    let heads_now : length (slice_set heads l (Some n)) ≡ m = length-set heads l (Some n) in
    record {
      buckets = rw (heads_now, more, ← one_more_number n) come;
      linked = length-set (links ++ None ∷ []) n (link_at heads l) ∙ long ∙ omega (arith, more);
      some = rw heads_now x.some;
      few = omega (arith, more, few);
    }

-- the numbers below j are in their buckets
pub AreListed : List (Option Known) → List (Option ℕ) → List (Option ℕ) → ℕ → Type 0
AreListed known links heads j = AreBuckets (falls (length heads) known) links heads (numbers j)

pub none_listed : (known : List (Option Known)) (links heads : List (Option ℕ)) → heads ≡ replicate (length heads) None
    → AreListed known links heads 0
unfolding AreListed numbers
none_listed known links heads empty = empty_buckets (falls (length heads) known) links heads empty

pub listed_more : (known : List (Option Known)) (links heads : List (Option ℕ)) (j k : ℕ)
    → AreListed known links heads j → j < length links → k < length heads → k ≡ falls (length heads) known j
    → AreListed known (slice_set links j (link_at heads k)) (slice_set heads k (Some j)) (j + 1)
unfolding AreListed
listed_more known links heads j k b within inside here =
    let next : j + 1 ≡ suc j = omega arith in
    rw (length-set heads k (Some j), next, ← one_more_number j)
    (listed_buckets (falls (length heads) known) links heads (numbers j) j k b (numbers_out j j (omega arith)) within
    inside (sym here))

pub all_listed : (known : List (Option Known)) (links heads : List (Option ℕ)) → AreListed known links heads (length known)
    → length links ≡ length known → 1 < length heads → length known ≤ SLOTS → IsTextIndex known links heads
unfolding AreListed
all_listed known links heads b linked some few = record { buckets = b; linked = linked; some = some; few = few }

-- the bucket of what was read
pub read_falls : (known : List (Option Known)) (heads : List (Option ℕ)) (m j k : ℕ) (o : Option Known)
    → m ≡ length heads → known_at known j ≡ o → k ≡ place m o → k ≡ falls (length heads) known j
read_falls known heads m j k o many read is =
    is ∙ ap (λ (x : ℕ). place x o) many ∙ ap (λ (e : Option Known). place (length heads) e) (sym read)

-- where all numbers fall into the buckets that they are in, the index is theirs
pub reindexed : (known new : List (Option Known)) (links heads : List (Option ℕ)) → IsTextIndex known links heads
    → length new ≡ length known → ((j : ℕ) → falls (length heads) new j ≡ falls (length heads) known j)
    → IsTextIndex new links heads
reindexed known new links heads x long same = record {
  buckets = rw long (buckets_kept (falls (length heads) known) (falls (length heads) new) links links heads
      (numbers (length known)) x.buckets (λ j held. same j) (keeps_self links (numbers (length known))));
  linked = omega (arith, x.linked, long);
  some = x.some;
  few = omega (arith, x.few, long);
}

-- ---- The free numbers.

out_of_none : (i : ℕ) → IsOut i []
unfolding IsOut
out_of_none i = tt

-- where the first bucket is empty, all numbers are in use
pub all_used : (known : List (Option Known)) (links heads : List (Option ℕ)) → IsTextIndex known links heads
    → link_at heads 0 ≡ None → (n : ℕ) → n < length known → IsSome (known_at known n)
all_used known links heads x empty n within = used (known_at known n) refl
  where
    used : (o : Option Known) → known_at known n ≡ o → IsSome o
    used (Some k) at = refl
    used None at =
        let b = x.buckets.each 0 (omega (arith, x.some)) in
        let nothing = chained_over links b.slots (subst (λ (h : Option ℕ). Chained links h b.slots) empty b.chained) in
        let out : IsOut n b.slots = subst (IsOut n) (sym nothing) (out_of_none n) in
        absurd (numbers_in n (length known) within
        (b.all n (ap (λ (e : Option Known). place (length heads) e) at) out))

-- the first number of the first bucket is free
pub record IsFreeNumber (known : List (Option Known)) (n : ℕ) : Type 0 where
  pub given : n < length known
  pub free : known_at known n ≡ None

text_buckets : (m : ℕ) (o : Option Known) → place m o ≡ 0 → o ≡ None
unfolding text_bucket
text_buckets m None h = refl
text_buckets m (Some k) h = absurd (omega (arith, h))

pub first_free : (known : List (Option Known)) (links heads : List (Option ℕ)) (n : ℕ) → IsTextIndex known links heads
    → link_at heads 0 ≡ Some n → IsFreeNumber known n
first_free known links heads n x first =
    let b = x.buckets.each 0 (omega (arith, x.some)) in
    let a = ahead links n b.slots (subst (λ (h : Option ℕ). Chained links h b.slots) first b.chained) in
    let held : IsOut n b.slots → ⊥ = λ out. not_first_out n a.rest (subst (IsOut n) a.is out) in
    record {
      given = not_out_below n (length known) (λ out. held (b.only n out));
      free = text_buckets (length heads) (known_at known n) (elim (cases_eq (falls (length heads) known n) 0) [
        | inl here ↦ here
        | inr other ↦ absurd (held (b.its n other))
      ]);
    }
