-- The walk through a bucket to the number of a text.
use Rattle.std.proofs.Common.{◌≡◌, ℕ, zero, suc, ◌+◌, ◌<◌, ◌≤◌, List, [], ◌∷◌, length, Option, Some, None}
use Rattle.std.proofs.Common.{refl, sym, subst, arith, inl, inr, ap}
use Rattle.std.proofs.lemmas.Bool.{cases_eq}
use Rattle.djq_arena.specs.Chains.{IsOut}
use Rattle.djq_arena.specs.Buckets.{link_at, Chained}
use Rattle.djq_arena.proofs.Chains.{not_first_out, out_more, out_rest}
use Rattle.djq_arena.proofs.Buckets.{chained_over, ahead, bucket_short}
use Rattle.djq_texts.specs.Known.{Known, HasNumber, HasNoNumber}
use Rattle.djq_texts.specs.Hash.{text_hash}
use Rattle.djq_texts.specs.Index.{text_bucket, place, falls, numbers, IsTextIndex}
use Rattle.djq_texts.proofs.Numbers.{numbers_in, length-numbers, not_out_below}
use Rattle.djq_texts.proofs.Known.{known_within}
use Rattle.djq_texts.proofs.Index.{bucket_inside}

-- in the middle of the walk: what isn't ahead is another text
pub record Seeking (known : List (Option Known)) (links : List (Option ℕ)) (text : List ℕ) (at : Option ℕ) : Type 0
  where
    pub ahead : List ℕ
    pub chained : Chained links at ahead
    pub below : (i : ℕ) → (IsOut i ahead → ⊥) → i < length known
    pub misses : (i : ℕ) → IsOut i ahead → HasNumber known i text → ⊥
    pub room : length ahead ≤ length known

pub seeking : (known : List (Option Known)) (links heads : List (Option ℕ)) (text : List ℕ) (at : Option ℕ)
    → IsTextIndex known links heads → at ≡ link_at heads (text_bucket (length heads) (text_hash text))
    → Seeking known links text at
seeking known links heads text at x head =
    let m = length heads in
    let k = text_bucket m (text_hash text) in
    let b = x.buckets.each k (bucket_inside m (text_hash text) x.some) in
    record {
      ahead = b.slots;
      chained = rw head b.chained;
      below = λ i held. not_out_below i (length known) (λ out. held (b.only i out));
      misses = λ i out num.
          let within = known_within known i (record { bytes = text; uses = num.0 }) num.1 in
          numbers_in i (length known) within (b.all i (ap (λ (e : Option Known). place m e) num.1) out);
      room = omega (
        arith,
        bucket_short (falls m known) k links (link_at heads k) (numbers (length known)) b,
        length-numbers (length known),
      );
    }

-- how many numbers are in the chain from one on, up to n
unfoldable pub chain_length : ℕ → List (Option ℕ) → Option ℕ → ℕ
chain_length zero links at = 0
chain_length (suc n) links None = 0
chain_length (suc n) links (Some i) = chain_length n links (link_at links i) + 1

chain_is : (n : ℕ) (links : List (Option ℕ)) (at : Option ℕ) (xs : List ℕ) → Chained links at xs → length xs ≤ n
    → chain_length n links at ≡ length xs
unfolding Chained chain_length
chain_is zero links at [] h few = refl
chain_is zero links at (x ∷ xs) h few = absurd (omega (arith, few))
chain_is (suc n) links None [] h few = refl
chain_is (suc n) links (Some i) [] h few = absurd cc
chain_is (suc n) links None (x ∷ xs) h few = absurd cc
chain_is (suc n) links (Some i) (x ∷ xs) h few =
    let same : i ≡ x = cc in
    omega (
      arith,
      chain_is n links (link_at links i) xs (subst (λ m. Chained links (link_at links m) xs) (sym same) h.1)
          (omega (arith, few)),
    )

out_nil : (i : ℕ) → IsOut i []
unfolding IsOut
out_nil i = tt

pub over : (known : List (Option Known)) (links : List (Option ℕ)) (text : List ℕ) (at : Option ℕ)
    → Seeking known links text at → at ≡ None → HasNoNumber known text
over known links text at s none = λ n num.
    let empty = chained_over links s.ahead (subst (λ (o : Option ℕ). Chained links o s.ahead) none s.chained) in
    s.misses n (subst (IsOut n) (sym empty) (out_nil n)) num

pub stop_within : (known : List (Option Known)) (links : List (Option ℕ)) (text : List ℕ) (at : Option ℕ) (i : ℕ)
    → Seeking known links text at → at ≡ Some i → i < length known
stop_within known links text at i s here =
    let a = ahead links i s.ahead (subst (λ (o : Option ℕ). Chained links o s.ahead) here s.chained) in
    s.below i (λ out. not_first_out i a.rest (subst (IsOut i) a.is out))

-- the walk goes on
pub onward : (known : List (Option Known)) (links : List (Option ℕ)) (text : List ℕ) (at : Option ℕ) (i : ℕ)
    (next : Option ℕ) → Seeking known links text at → at ≡ Some i → (HasNumber known i text → ⊥)
    → next ≡ link_at links i → Seeking known links text next
onward known links text at i next s here other is =
    let a = ahead links i s.ahead (subst (λ (o : Option ℕ). Chained links o s.ahead) here s.chained) in
    record {
      ahead = a.rest;
      chained = rw is a.chained;
      below = λ j held. s.below j (λ out. held (out_rest i a.rest j (subst (IsOut j) a.is out)));
      misses = λ j out num. elim (cases_eq i j) [
        | inl same ↦ other (subst (λ (n : ℕ). HasNumber known n text) (sym same) num)
        | inr unlike ↦ s.misses j (subst (IsOut j) (sym a.is) (out_more j i a.rest unlike out)) num
      ];
      room = omega (arith, s.room, ap (λ (xs : List ℕ). length xs) a.is);
    }

-- less is ahead
pub nearer : (known : List (Option Known)) (links : List (Option ℕ)) (text : List ℕ) (at : Option ℕ) (i : ℕ)
    (next : Option ℕ) → Seeking known links text at → at ≡ Some i → next ≡ link_at links i
    → chain_length (length known) links next < chain_length (length known) links at
nearer known links text at i next s here is =
    let a = ahead links i s.ahead (subst (λ (o : Option ℕ). Chained links o s.ahead) here s.chained) in
    let long = ap (λ (xs : List ℕ). length xs) a.is in
    omega (
      arith,
      s.room,
      long,
      chain_is (length known) links at s.ahead s.chained s.room,
      chain_is (length known) links next a.rest (rw is a.chained) (omega (arith, s.room, long)),
    )
