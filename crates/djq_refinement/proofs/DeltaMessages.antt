-- The machine's delta of a query as the core's.
use Rattle.std.specs.Prelude.{List, [], ◌∷◌, ◌≡◌, ◌⊎◌, Bool, true, false, cond, All, AllPairs, Contains, map}
use Rattle.std.proofs.Common.{refl, ap, ◌∙◌, subst, inl, inr}
use Rattle.std.proofs.lemmas.List.Elements.{All-nil, All-cons, All-head, All-tail, All-weaker}
use Rattle.std.proofs.lemmas.List.Kept.{AllPairs-cons}
use Rattle.djq_model.specs.Data.{Tuple}
use Rattle.djq_model.specs.Listed.{Listed, AnswersOf}
use Rattle.djq_protocol.specs.declared.answer.Sign.{Sign}
use Rattle.djq_protocol.specs.declared.answer.Sign.TheVariants.{Came, Went}
use Rattle.djq_store_spec.specs.Store.{Store}
use Rattle.djq_store_spec.specs.Delta.{Change, HasChanged, IsDelta}
use Rattle.djq_answer_laws.proofs.Lists.{nothing_there, first_or_later, first_there, later_there, pairs_head, pairs_tail}
use Rattle.djq_answer_laws.proofs.Decisions.{answers_are_decided}
use Rattle.djq_run_laws.specs.Added.{same_sign, of_sign}
use Rattle.djq_run_laws.specs.Sound.{IsSoundStore}
use Rattle.djq_abstract.specs.Rows.{AnswersOver}
use Rattle.djq_abstract.specs.Deltas.{AnswerDelta, IsDeltaBetween}
use Rattle.djq_refinement.specs.View.{database_of}
use Rattle.djq_refinement.proofs.Stores.{answer_seen, answer_back}

-- the core's delta of these changes
abbrev pub delta_seen : List Change → AnswerDelta
delta_seen changes = record { inserted = of_sign Came changes; deleted = of_sign Went changes }

-- ---- the answers of a sign

sign_is : (s r : Sign) → same_sign s r ≡ true → r ≡ s
sign_is Came Came h = refl
sign_is Went Went h = refl
sign_is Came Went h = absurd cc
sign_is Went Came h = absurd cc

sign_same : (s : Sign) → same_sign s s ≡ true
sign_same Came = refl
sign_same Went = refl

sign_within : (P : Tuple → Type 0) (s : Sign) (cs : List Change) → All P (map (λ (c : Change). c.answer) cs)
    → All P (of_sign s cs)
sign_within P s [] h = All-nil P
sign_within P s (c ∷ cs) h =
    by (same_sign s c.sign) (sign_within P s cs (All-tail P c.answer (map (λ (d : Change). d.answer) cs) h))
  where
    by : (b : Bool) → All P (of_sign s cs) → All P (cond b (c.answer ∷ of_sign s cs) (of_sign s cs))
    by true rest = All-cons P c.answer (of_sign s cs) (All-head P c.answer (map (λ (d : Change). d.answer) cs) h) rest
    by false rest = rest

sign_different : (R : Tuple → Tuple → Type 0) (s : Sign) (cs : List Change)
    → AllPairs R (map (λ (c : Change). c.answer) cs) → AllPairs R (of_sign s cs)
sign_different R s [] h = h
sign_different R s (c ∷ cs) h =
    let answers = map (λ (d : Change). d.answer) cs in
    by (same_sign s c.sign) (sign_within (R c.answer) s cs (pairs_head R c.answer answers h))
    (sign_different R s cs (pairs_tail R c.answer answers h))
  where
    by : (b : Bool) → All (R c.answer) (of_sign s cs) → AllPairs R (of_sign s cs)
        → AllPairs R (cond b (c.answer ∷ of_sign s cs) (of_sign s cs))
    by true first rest = AllPairs-cons R c.answer (of_sign s cs) first rest
    by false first rest = rest

sign_changed : (Before After : Tuple → Type 0) (s : Sign) (cs : List Change)
    → All (λ (c : Change). HasChanged Before After c.sign c.answer) cs → All (HasChanged Before After s) (of_sign s cs)
sign_changed Before After s [] h = All-nil (HasChanged Before After s)
sign_changed Before After s (c ∷ cs) h =
    by (same_sign s c.sign) refl (All-head (λ (d : Change). HasChanged Before After d.sign d.answer) c cs h)
    (sign_changed Before After s cs (All-tail (λ (d : Change). HasChanged Before After d.sign d.answer) c cs h))
  where
    by : (b : Bool) → same_sign s c.sign ≡ b → HasChanged Before After c.sign c.answer
        → All (HasChanged Before After s) (of_sign s cs)
        → All (HasChanged Before After s) (cond b (c.answer ∷ of_sign s cs) (of_sign s cs))
    by true e first rest = All-cons (HasChanged Before After s) c.answer (of_sign s cs)
        (subst (λ (r : Sign). HasChanged Before After r c.answer) (sign_is s c.sign e) first) rest
    by false e first rest = rest

sign_there : (s : Sign) (t : Tuple) (cs : List Change) → Contains cs (record { sign = s; answer = t })
    → Contains (of_sign s cs) t
sign_there s t [] h = absurd (nothing_there (record { sign = s; answer = t }) h)
sign_there s t (c ∷ cs) h = by (first_or_later c cs (record { sign = s; answer = t }) h) (λ k. sign_there s t cs k)
  where
    later : (b : Bool) → Contains (of_sign s cs) t → Contains (cond b (c.answer ∷ of_sign s cs) (of_sign s cs)) t
    later true k = later_there c.answer (of_sign s cs) t k
    later false k = k

    here : (b : Bool) → b ≡ true → c.answer ≡ t → Contains (cond b (c.answer ∷ of_sign s cs) (of_sign s cs)) t
    here true e same = first_there c.answer (of_sign s cs) t same
    here false e same = absurd cc

    by : (c ≡ record { sign = s; answer = t }) ⊎ Contains cs (record { sign = s; answer = t })
        → (Contains cs (record { sign = s; answer = t }) → Contains (of_sign s cs) t)
        → Contains (of_sign s (c ∷ cs)) t
    by (inl e) more = here (same_sign s c.sign) (ap (λ (d : Change). same_sign s d.sign) e ∙ sign_same s)
        (ap (λ (d : Change). d.answer) e)
    by (inr k) more = later (same_sign s c.sign) (more k)

-- ---- between two stores

module _ (old new : Store) (before : IsSoundStore old) (after : IsSoundStore new) (q : Listed) (changes : List Change)
    (h : IsDelta (AnswersOf old.relations q) (AnswersOf new.relations q) changes) where
  came_all : (t : Tuple) → AnswersOver (database_of new.relations) q t
      → AnswersOver (database_of old.relations) q t ⊎ Contains (of_sign Came changes) t
  came_all t a = by (answers_are_decided old.relations q t)
    where
      by : AnswersOf old.relations q t ⊎ (AnswersOf old.relations q t → ⊥)
          → AnswersOver (database_of old.relations) q t ⊎ Contains (of_sign Came changes) t
      by (inl was) = inl (answer_seen old before q t was)
      by (inr not) = inr (sign_there Came t changes (h.complete Came t (answer_back new after q t a, not)))

  went_all : (t : Tuple) → AnswersOver (database_of old.relations) q t
      → AnswersOver (database_of new.relations) q t ⊎ Contains (of_sign Went changes) t
  went_all t a = by (answers_are_decided new.relations q t)
    where
      by : AnswersOf new.relations q t ⊎ (AnswersOf new.relations q t → ⊥)
          → AnswersOver (database_of new.relations) q t ⊎ Contains (of_sign Went changes) t
      by (inl is) = inl (answer_seen new after q t is)
      by (inr not) = inr (sign_there Went t changes (h.complete Went t (answer_back old before q t a, not)))

  pub delta_between : IsDeltaBetween (AnswersOver (database_of old.relations) q)
      (AnswersOver (database_of new.relations) q) (delta_seen changes)
  delta_between = record {
    inserted = record {
      different = sign_different (λ s t. s ≡ t → ⊥) Came changes h.different;
      gained = All-weaker (HasChanged (AnswersOf old.relations q) (AnswersOf new.relations q) Came)
          (λ t. AnswersOver (database_of new.relations) q t × (AnswersOver (database_of old.relations) q t → ⊥))
          (λ t k. (answer_seen new after q t k.0, λ a. k.1 (answer_back old before q t a))) (of_sign Came changes)
          (sign_changed (AnswersOf old.relations q) (AnswersOf new.relations q) Came changes h.changed);
      complete = came_all;
    };
    deleted = record {
      different = sign_different (λ s t. s ≡ t → ⊥) Went changes h.different;
      gained = All-weaker (HasChanged (AnswersOf old.relations q) (AnswersOf new.relations q) Went)
          (λ t. AnswersOver (database_of old.relations) q t × (AnswersOver (database_of new.relations) q t → ⊥))
          (λ t k. (answer_seen old before q t k.0, λ a. k.1 (answer_back new after q t a))) (of_sign Went changes)
          (sign_changed (AnswersOf old.relations q) (AnswersOf new.relations q) Went changes h.changed);
      complete = went_all;
    };
  }
