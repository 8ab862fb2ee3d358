-- Deltas of consecutive changes, where answers only go.
use Rattle.std.proofs.Common.{List, [], ◌∷◌, ◌++◌, ◌+◌, ◌≡◌, refl, sym, ap, subst, inl, inr, length, map, arith}
use Rattle.std.specs.Prelude.{All, Contains}
use Rattle.std.proofs.lemmas.List.{length-map, map-append}
use Rattle.std.proofs.lemmas.List.Elements.{All-nil, All-cons, All-head, All-tail, All-append}
use Rattle.std.proofs.lemmas.List.Elements.{Contains-append_left, Contains-append_right}
use Rattle.djq_model.specs.Data.{Tuple}
use Rattle.djq_model.specs.Answer.{AreDifferent}
use Rattle.djq_protocol.specs.declared.answer.Sign.{Sign}
use Rattle.djq_protocol.specs.declared.answer.Sign.TheVariants.{Came, Went}
use Rattle.djq_store_spec.specs.Delta.{Change, HasChanged, IsDelta}
use Rattle.djq_answer_laws.specs.Decided.{Decided}
use Rattle.djq_answer_laws.specs.Net.{opposite, opposite_sign}
use Rattle.djq_answer_laws.proofs.Lists.{pairs_join, mapped_there}
use Rattle.djq_reach.specs.Growing.{Grows}
use Rattle.djq_reach.proofs.RowChanges.{early_delta, early_part, late_delta, late_part, parts_long}

abbrev answers_in : List Change → List Tuple
answers_in cs = map (λ (c : Change). c.answer) cs

-- what holds of all changes holds of their answers
answers_hold : (P : Change → Type 0) (Q : Tuple → Type 0) (cs : List Change) → ((c : Change) → P c → Q c.answer)
    → All P cs → All Q (answers_in cs)
answers_hold P Q [] f h = All-nil Q
answers_hold P Q (c ∷ cs) f h = All-cons Q c.answer (answers_in cs) (f c (All-head P c cs h))
    (answers_hold P Q cs f (All-tail P c cs h))

changed_as : (P Q : Change → Type 0) (cs : List Change) → ((c : Change) → P c → Q c) → All P cs → All Q cs
changed_as P Q cs f h = λ k d low. f _ (h k d low)

-- ---- the other way

-- the opposite of a delta is the delta the other way
pub flipped : (A B : Tuple → Type 0) (xs : List Change) → IsDelta A B xs → IsDelta B A (map opposite xs)
flipped A B xs h = record {
  different = subst (λ (ts : List Tuple). AreDifferent ts) (sym (answers_same xs)) h.different;
  changed = turned xs h.changed;
  complete = there;
}
  where
    answers_same : (cs : List Change) → answers_in (map opposite cs) ≡ answers_in cs
    answers_same [] = refl
    answers_same (c ∷ cs) = ap (λ (ts : List Tuple). c.answer ∷ ts) (answers_same cs)

    turn : (s : Sign) (t : Tuple) → HasChanged A B s t → HasChanged B A (opposite_sign s) t
    turn Came t k = k
    turn Went t k = k

    turned : (cs : List Change) → All (λ c. HasChanged A B c.sign c.answer) cs
        → All (λ c. HasChanged B A c.sign c.answer) (map opposite cs)
    turned [] k = All-nil (λ (c : Change). HasChanged B A c.sign c.answer)
    turned (c ∷ cs) k = All-cons (λ (c : Change). HasChanged B A c.sign c.answer) (opposite c) (map opposite cs)
        (turn c.sign c.answer (All-head (λ (c : Change). HasChanged A B c.sign c.answer) c cs k))
        (turned cs (All-tail (λ (c : Change). HasChanged A B c.sign c.answer) c cs k))

    there : (s : Sign) (t : Tuple) → HasChanged B A s t → Contains (map opposite xs) (record { sign = s; answer = t })
    there Came t k = mapped_there opposite xs (record { sign = Went; answer = t }) (h.complete Went t k)
    there Went t k = mapped_there opposite xs (record { sign = Came; answer = t }) (h.complete Came t k)

-- The changes of a delta whose answers aren't there in between, and those whose answers are.
module _ (B : Tuple → Type 0) (decided : (t : Tuple) → Decided (B t)) where
  abbrev pub first_gone : List Change → List Change
  first_gone zs = map opposite (late_part B decided (map opposite zs))

  abbrev pub last_gone : List Change → List Change
  last_gone zs = map opposite (early_part B decided (map opposite zs))

  pub gone_long : (zs : List Change) → length (first_gone zs) + length (last_gone zs) ≡ length zs
  gone_long zs =
      let a = length-map (late_part B decided (map opposite zs)) opposite in
      let b = length-map (early_part B decided (map opposite zs)) opposite in
      let both = parts_long B decided (map opposite zs) in
      let whole = length-map zs opposite in
      omega (arith, a, b, both, whole)

-- ---- two changes

module _ (A B C : Tuple → Type 0) (down : Grows B A) (more : Grows C B) (decided : (t : Tuple) → Decided (B t)) where
  only_went : (s : Sign) (t : Tuple) → HasChanged A B s t → A t × (B t → ⊥)
  only_went Went t h = h
  only_went Came t h = absurd (h.1 (down t h.0))

  only_later : (s : Sign) (t : Tuple) → HasChanged B C s t → B t × (C t → ⊥)
  only_later Went t h = h
  only_later Came t h = absurd (h.1 (more t h.0))

  first_both : (s : Sign) (t : Tuple) → HasChanged A B s t → HasChanged A C s t
  first_both Went t h = (h.0, λ c. h.1 (more t c))
  first_both Came t h = absurd (h.1 (down t h.0))

  last_both : (s : Sign) (t : Tuple) → HasChanged B C s t → HasChanged A C s t
  last_both Went t h = (down t h.0, h.1)
  last_both Came t h = absurd (h.1 (more t h.0))

  pub deltas_fall : (xs ys : List Change) → IsDelta A B xs → IsDelta B C ys → IsDelta A C (xs ++ ys)
  deltas_fall xs ys x y = record {
    different = subst (λ (ts : List Tuple). AreDifferent ts) (sym (map-append (λ (c : Change). c.answer) xs ys))
        (pairs_join (λ (s t : Tuple). s ≡ t → ⊥) (answers_in xs) (answers_in ys) x.different y.different
        (answers_hold (λ c. HasChanged A B c.sign c.answer) (λ s. All (λ t. s ≡ t → ⊥) (answers_in ys)) xs
        (λ c h. answers_hold (λ d. HasChanged B C d.sign d.answer) (λ t. c.answer ≡ t → ⊥) ys
        (λ d k same. (only_went c.sign c.answer h).1 (subst B (sym same) (only_later d.sign d.answer k).0)) y.changed)
        x.changed));
    changed = All-append (λ c. HasChanged A C c.sign c.answer) xs ys
        (changed_as (λ c. HasChanged A B c.sign c.answer) (λ c. HasChanged A C c.sign c.answer) xs
        (λ c h. first_both c.sign c.answer h) x.changed)
        (changed_as (λ c. HasChanged B C c.sign c.answer) (λ c. HasChanged A C c.sign c.answer) ys
        (λ c h. last_both c.sign c.answer h) y.changed);
    complete = there;
  }
    where
      there : (s : Sign) (t : Tuple) → HasChanged A C s t → Contains (xs ++ ys) (record { sign = s; answer = t })
      there Came t h = absurd (h.1 (down t (more t h.0)))
      there Went t h = by (decided t)
        where
          by : Decided (B t) → Contains (xs ++ ys) (record { sign = Went; answer = t })
          by (inl b) = Contains-append_right xs ys (record { sign = Went; answer = t }) (y.complete Went t (b, h.1))
          by (inr none) = Contains-append_left xs ys (record { sign = Went; answer = t })
              (x.complete Went t (h.0, none))

  pub first_falls : (zs : List Change) → IsDelta A C zs → IsDelta A B (first_gone B decided zs)
  first_falls zs z = flipped B A (late_part B decided (map opposite zs))
      (late_delta C B A more down decided (map opposite zs) (flipped A C zs z))

  pub last_falls : (zs : List Change) → IsDelta A C zs → IsDelta B C (last_gone B decided zs)
  last_falls zs z = flipped C B (early_part B decided (map opposite zs))
      (early_delta C B A more down decided (map opposite zs) (flipped A C zs z))
