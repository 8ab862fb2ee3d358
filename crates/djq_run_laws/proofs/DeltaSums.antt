-- A listing and the deltas behind it come to a listing.
use Rattle.std.specs.Prelude.{List, [], ◌∷◌, ◌≡◌, ◌⊎◌, Bool, true, false, not, cond, filter, map, All, AllPairs}
use Rattle.std.specs.Prelude.{Contains, ℕ, ◌==◌, ◌<◌, ◌≤◌, ◌+◌, ◌++◌, ◌&&◌}
use Rattle.std.proofs.Common.{refl, ap, ◌∙◌, subst, inl, inr, sym, ap₂, append_assoc, arith}
use Rattle.std.proofs.lemmas.List.Elements.{All-nil, All-cons, All-head, All-tail, All-append, All-contains}
use Rattle.std.proofs.lemmas.List.Elements.{Contains-append_left, Contains-append_right, All-weaker}
use Rattle.std.proofs.lemmas.List.Kept.{AllPairs-filter, AllPairs-cons}
use Rattle.std.specs.List.{flat_map}
use Rattle.std.proofs.lemmas.Bool.{eq-eqb, ne_eqb}
use Rattle.std.proofs.lemmas.Grind.{flat_map-append}
use Rattle.djq_model.specs.Data.{Tuple, has_row, Bytes}
use Rattle.djq_model.specs.Answer.{IsListing}
use Rattle.djq_model.specs.Listed.{AnswersOf, Listed, listed_name}
use Rattle.djq_protocol.specs.declared.answer.Sign.{Sign}
use Rattle.djq_protocol.specs.declared.answer.Sign.TheVariants.{Came, Went}
use Rattle.djq_store_spec.specs.Delta.{Change, HasChanged, IsDelta}
use Rattle.djq_store_spec.specs.Store.{Store}
use Rattle.djq_answer_laws.specs.Decided.{Decided}
use Rattle.djq_answer_laws.proofs.Lists.{nothing_there, first_or_later, first_there, later_there, row_found, row_there}
use Rattle.djq_answer_laws.proofs.Lists.{kept_hold, kept_there, pairs_head, pairs_tail, pairs_join, mapped_there}
use Rattle.djq_answer_laws.proofs.Decisions.{answers_are_decided}
use Rattle.djq_machine.specs.State.{State}
use Rattle.djq_machine.specs.Step.{Event}
use Rattle.djq_machine.specs.Run.{Did, to_session, out}
use Rattle.djq_run_laws.specs.Added.{same_sign, of_sign, added_up, DeltasAddUp}
use Rattle.djq_run_laws.specs.Watched.{WatchesAlong, event_changes, number_by, numbers_along, parts_for, parts_to}
use Rattle.djq_run_laws.specs.Watched.{AreAmong, Told, told_text, DeltasAreTold, WatchersHaveAnswers}
use Rattle.djq_run_laws.proofs.RegisteredQueries.{SameAnswers}
use Rattle.djq_run_laws.proofs.Deltas.{StepTells, is_quiet, is_told, step_tells}

-- ---- A listing and a delta come to a listing.

-- the answers of a sign
sign_is : (s r : Sign) → same_sign s r ≡ true → r ≡ s
sign_is Came Came h = refl
sign_is Went Went h = refl
sign_is Came Went h = absurd (cc)
sign_is Went Came h = absurd (cc)

sign_same : (s : Sign) → same_sign s s ≡ true
sign_same Came = refl
sign_same Went = refl

sign_within : (P : Tuple → Type 0) (s : Sign) (cs : List Change) → All P (map (λ (c : Change). c.answer) cs)
    → All P (of_sign s cs)
sign_within P s [] h = All-nil P
sign_within P s (c ∷ cs) h =
    step (same_sign s c.sign) (sign_within P s cs (All-tail P c.answer (map (λ (c : Change). c.answer) cs) h))
  where
    step : (b : Bool) → All P (of_sign s cs) → All P (cond b (c.answer ∷ of_sign s cs) (of_sign s cs))
    step true rest = All-cons P c.answer (of_sign s cs) (All-head P c.answer (map (λ (c : Change). c.answer) cs) h) rest
    step false rest = rest

sign_different : (R : Tuple → Tuple → Type 0) (s : Sign) (cs : List Change)
    → AllPairs R (map (λ (c : Change). c.answer) cs) → AllPairs R (of_sign s cs)
sign_different R s [] h = h
sign_different R s (c ∷ cs) h =
    let answers = map (λ (c : Change). c.answer) cs in
    step (same_sign s c.sign) (sign_within (R c.answer) s cs (pairs_head R c.answer answers h))
    (sign_different R s cs (pairs_tail R c.answer answers h))
  where
    step : (b : Bool) → All (R c.answer) (of_sign s cs) → AllPairs R (of_sign s cs)
        → AllPairs R (cond b (c.answer ∷ of_sign s cs) (of_sign s cs))
    step true first rest = AllPairs-cons R c.answer (of_sign s cs) first rest
    step false first rest = rest

sign_changed : (Before After : Tuple → Type 0) (s : Sign) (cs : List Change)
    → All (λ (c : Change). HasChanged Before After c.sign c.answer) cs → All (HasChanged Before After s) (of_sign s cs)
sign_changed Before After s [] h = All-nil (HasChanged Before After s)
sign_changed Before After s (c ∷ cs) h =
    step (same_sign s c.sign) refl (All-head (λ (c : Change). HasChanged Before After c.sign c.answer) c cs h)
    (sign_changed Before After s cs (All-tail (λ (c : Change). HasChanged Before After c.sign c.answer) c cs h))
  where
    step : (b : Bool) → same_sign s c.sign ≡ b → HasChanged Before After c.sign c.answer
        → All (HasChanged Before After s) (of_sign s cs)
        → All (HasChanged Before After s) (cond b (c.answer ∷ of_sign s cs) (of_sign s cs))
    step true e first rest = All-cons (HasChanged Before After s) c.answer (of_sign s cs)
        (subst (λ (r : Sign). HasChanged Before After r c.answer) (sign_is s c.sign e) first) rest
    step false e first rest = rest

sign_there : (s : Sign) (t : Tuple) (cs : List Change) → Contains cs (record { sign = s; answer = t })
    → Contains (of_sign s cs) t
sign_there s t [] h = absurd (nothing_there (record { sign = s; answer = t }) h)
sign_there s t (c ∷ cs) h = by (first_or_later c cs (record { sign = s; answer = t }) h) (λ k. sign_there s t cs k)
  where
    later : (b : Bool) → Contains (of_sign s cs) t → Contains (cond b (c.answer ∷ of_sign s cs) (of_sign s cs)) t
    later true k = later_there c.answer (of_sign s cs) t k
    later false k = k

    here : (b : Bool) → b ≡ true → c.answer ≡ t → Contains (cond b (c.answer ∷ of_sign s cs) (of_sign s cs)) t
    here true e same = first_there c.answer (of_sign s cs) t same
    here false e same = absurd (cc)

    by : (c ≡ record { sign = s; answer = t }) ⊎ Contains cs (record { sign = s; answer = t })
        → (Contains cs (record { sign = s; answer = t }) → Contains (of_sign s cs) t)
        → Contains (of_sign s (c ∷ cs)) t
    by (inl e) more = here (same_sign s c.sign) (ap (λ (d : Change). same_sign s d.sign) e ∙ sign_same s)
        (ap (λ (d : Change). d.answer) e)
    by (inr k) more = later (same_sign s c.sign) (more k)

-- of a listing and a delta, where it is decided what an answer behind it is
module _ (Before After : Tuple → Type 0) (ts : List Tuple) (changes : List Change)
    (decided : (t : Tuple) → Decided (After t)) (listing : IsListing Before ts) (delta : IsDelta Before After changes)
  where
    came_changed : All (HasChanged Before After Came) (of_sign Came changes)
    came_changed = sign_changed Before After Came changes delta.changed

    went_changed : All (HasChanged Before After Went) (of_sign Went changes)
    went_changed = sign_changed Before After Went changes delta.changed

    -- an answer before that didn't go is one afterwards
    stays : (t : Tuple) → not (has_row (of_sign Went changes) t) ≡ true → Before t → After t
    stays t e before = by (decided t)
      where
        by : Decided (After t) → After t
        by (inl after) = after
        by (inr none) =
            let went : has_row (of_sign Went changes) t
            ≡ true = row_found (of_sign Went changes) t
            (sign_there Went t changes (delta.complete Went t (before, none))) in
            let no : not (has_row (of_sign Went changes) t) ≡ false = ap not went in
            absurd (cc (no, e))

    -- an answer afterwards is one that was listed and is left, or came
    is_listed : (t : Tuple) → After t → Contains (added_up ts changes) t
    is_listed t after = by (has_row ts t) refl
      where
        not_gone : (b : Bool) → has_row (of_sign Went changes) t ≡ b → not b ≡ true
        not_gone true k = absurd
            ((All-contains (HasChanged Before After Went) (of_sign Went changes) t went_changed
            (row_there (of_sign Went changes) t k)).1 after)
        not_gone false k = refl

        by : (b : Bool) → has_row ts t ≡ b → Contains (added_up ts changes) t
        by true k =
            Contains-append_left (filter (λ t. not (has_row (of_sign Went changes) t)) ts) (of_sign Came changes) t
            (kept_there (λ t. not (has_row (of_sign Went changes) t)) ts t
            (not_gone (has_row (of_sign Went changes) t) refl) (row_there ts t k))
        by false k =
            Contains-append_right (filter (λ t. not (has_row (of_sign Went changes) t)) ts) (of_sign Came changes) t
            (sign_there Came t changes
            (delta.complete Came t (
              after,
              λ b. let yes : has_row ts t
                  ≡ true = row_found ts t (listing.complete t b) in absurd (cc (yes, k)),
            )))

    apart : All (λ x. All (λ y. x ≡ y → ⊥) (of_sign Came changes))
        (filter (λ t. not (has_row (of_sign Went changes) t)) ts)
    apart = kept_hold Before (λ x. All (λ y. x ≡ y → ⊥) (of_sign Came changes))
        (λ t. not (has_row (of_sign Went changes) t)) ts
        (λ x e before. λ k d lt same. (came_changed k d lt).1 (subst Before same before)) listing.answers

    pub adds_up : IsListing After (added_up ts changes)
    adds_up = record {
      different = pairs_join (λ (s t : Tuple). s ≡ t → ⊥) (filter (λ t. not (has_row (of_sign Went changes) t)) ts)
          (of_sign Came changes)
          (AllPairs-filter (λ (s t : Tuple). s ≡ t → ⊥) (λ t. not (has_row (of_sign Went changes) t)) ts
          listing.different)
          (sign_different (λ (s t : Tuple). s ≡ t → ⊥) Came changes delta.different) apart;
      answers = All-append After (filter (λ t. not (has_row (of_sign Went changes) t)) ts) (of_sign Came changes)
          (kept_hold Before After (λ t. not (has_row (of_sign Went changes) t)) ts stays listing.answers)
          (λ k d lt. (came_changed k d lt).0);
      complete = is_listed;
    }

pub deltas_add_up : DeltasAddUp
deltas_add_up before after q ts changes listing delta = adds_up (AnswersOf before q) (AnswersOf after q) ts changes
    (answers_are_decided after q) listing delta

-- ---- A session that watches a query all along a run adds up what it is told.

-- Parts that are among others.
parts_around : {A : Type 0} (xs : List A) (x : A) → Contains xs x → (before : List A) × (behind : List A)
    × (xs ≡ before ++ x ∷ behind)
parts_around [] x h = absurd (nothing_there x h)
parts_around {A = A} (y ∷ ys) x h = step (first_or_later y ys x h) (λ k. parts_around ys x k)
  where
    step : (y ≡ x) ⊎ Contains ys x
        → (Contains ys x → (before : List A) × (behind : List A) × (ys ≡ before ++ x ∷ behind))
        → (before : List A) × (behind : List A) × (y ∷ ys ≡ before ++ x ∷ behind)
    step (inl e) more = ([], ys, ap (λ z. z ∷ ys) e)
    step (inr c) more = let r = more c in (y ∷ r.0, r.1, ap (λ zs. y ∷ zs) r.2)

among_later : (ts front parts : List Bytes) → AreAmong ts parts → AreAmong ts (front ++ parts)
among_later [] front parts h = tt
among_later (t ∷ ts) front parts h =
    (front ++ h.0, h.1, ap (λ ps. front ++ ps) h.2 ∙ sym (append_assoc front h.0 (t ∷ h.1)), h.3)

among_first : (t : Bytes) (ts front parts : List Bytes) → Contains front t → AreAmong ts parts
    → AreAmong (t ∷ ts) (front ++ parts)
among_first t ts front parts c h =
    let r = parts_around front t c in
    (r.0, r.1 ++ parts, ap (λ ps. ps ++ parts) r.2 ∙ append_assoc r.0 (t ∷ r.1) parts, among_later ts r.1 parts h)

part_there : (s : ℕ) (queued : List (ℕ × Bytes)) (part : Bytes) → Contains queued (s, part)
    → Contains (parts_for s queued) part
part_there s queued part c =
    let here : ℕ × Bytes = (s, part) in
    mapped_there (λ (p : ℕ × Bytes). p.1) (filter (λ (p : ℕ × Bytes). p.0 == s) queued) here
    (kept_there (λ (p : ℕ × Bytes). p.0 == s) queued here (eq-eqb s s refl) c)

-- The parts are all that is queued.
parts_whole : (s : ℕ) (queued : List (ℕ × Bytes)) → flat_map (λ part. part) (parts_for s queued) ≡ to_session s queued
parts_whole s [] = refl
parts_whole s (p ∷ ps) = step (p.0 == s) (parts_whole s ps)
  where
    step : (b : Bool) → flat_map (λ part. part) (parts_for s ps) ≡ to_session s ps
        → flat_map (λ part. part)
        (map (λ (q : ℕ × Bytes). q.1)
        (cond b (p ∷ filter (λ (q : ℕ × Bytes). q.0 == s) ps) (filter (λ (q : ℕ × Bytes). q.0 == s) ps)))
        ≡ cond b p.1 [] ++ to_session s ps
    step true h = ap (λ bytes. p.1 ++ bytes) h
    step false h = h

parts_out : (s : ℕ) (done : List Did) → flat_map (λ part. part) (parts_to s done) ≡ out s done
parts_out s [] = refl
parts_out s (d ∷ done) =
    flat_map-append (λ part. part) (parts_for s d.effect.queued) (parts_to s done)
    ∙ ap₂ (λ (xs ys : Bytes). xs ++ ys) (parts_whole s d.effect.queued) (parts_out s done)

-- Numbers of changes.
pub number_none : (q : Listed) (old : State) (event : Event) (new : State)
    → (new.store.seq ≡ old.store.seq) ⊎ ((new.store.seq ≡ old.store.seq + 1) × (event_changes q old event ≡ false))
    → number_by q old event new ≡ []
number_none q old event new (inl e) = let same = eq-eqb new.store.seq old.store.seq e in rw same refl
number_none q old event new (inr h) = step (not (new.store.seq == old.store.seq)) (event_changes q old event) h.1
  where
    step : (a b : Bool) → b ≡ false → cond (a && b) (new.store.seq ∷ []) [] ≡ []
    step true true e = absurd cc
    step true false e = refl
    step false b e = refl

pub number_one : (q : Listed) (old : State) (event : Event) (new : State) → new.store.seq ≡ old.store.seq + 1
    → event_changes q old event ≡ true → number_by q old event new ≡ new.store.seq ∷ []
number_one q old event new e k =
    let apart : (new.store.seq == old.store.seq)
    ≡ false = ne_eqb new.store.seq old.store.seq (λ same. omega (arith, e, same)) in
    rw (apart, k) refl

number_above : (old new : Store) (b : Bool) → old.seq < new.seq → All (λ n. old.seq < n) (cond b (new.seq ∷ []) [])
number_above old new true lt = All-cons (λ n. old.seq < n) new.seq [] lt (All-nil (λ n. old.seq < n))
number_above old new false lt = All-nil (λ n. old.seq < n)

numbers_step : (q : Listed) (s : ℕ) (old : State) (event : Event) (new : State) (queued : List (ℕ × Bytes))
    → StepTells q s old.store new.store queued (event_changes q old event)
    → (old.store.seq ≤ new.store.seq) × All (λ n. old.store.seq < n) (number_by q old event new)
numbers_step q s old event new queued (is_quiet same seq) = (
  at_most seq,
  subst (λ (ns : List ℕ). All (λ n. old.store.seq < n) ns) (sym (number_none q old event new seq))
      (All-nil (λ n. old.store.seq < n)),
)
  where
    at_most : (new.store.seq ≡ old.store.seq) ⊎
        ((new.store.seq ≡ old.store.seq + 1) × (event_changes q old event ≡ false)) → old.store.seq ≤ new.store.seq
    at_most (inl e) = omega (arith, e)
    at_most (inr h) = omega (arith, h.0)
numbers_step q s old event new queued (is_told delta seq counts) = (
  omega (arith, seq),
  number_above old.store new.store
      (not (new.store.seq == old.store.seq) && event_changes q old event) (omega (arith, seq)),
)

numbers_above : (q : Listed) (s : ℕ) (old : State) (done : List Did) (new : State)
    (walk : WatchesAlong q s old done new) → All (λ n. old.store.seq < n) (numbers_along q s old done new walk)
numbers_above q s old [] new walk = All-nil (λ n. old.store.seq < n)
numbers_above q s old (d ∷ done) new walk =
    let mid = walk.0 in
    let h = walk.1 in
    let k = numbers_step q s old d.event mid d.effect.queued
    (step_tells q s old d.event d.effect mid h.step h.before h.behind) in
    All-append (λ n. old.store.seq < n) (number_by q old d.event mid) (numbers_along q s mid done new walk.2) k.1
    (All-weaker (λ n. mid.store.seq < n) (λ n. old.store.seq < n) (λ n lt. omega (arith, lt, k.0))
    (numbers_along q s mid done new walk.2) (numbers_above q s mid done new walk.2))

-- A listing stays one where the answers do.
pub listing_stays : (old new : Store) (q : Listed) (ts : List Tuple) → SameAnswers old.relations new.relations q
    → IsListing (AnswersOf old.relations q) ts → IsListing (AnswersOf new.relations q) ts
listing_stays old new q ts same h = record {
  different = h.different;
  answers = All-weaker (AnswersOf old.relations q) (AnswersOf new.relations q) same.there ts h.answers;
  complete = λ t a. h.complete t (same.back t a);
}

-- one step more in front
told_more : (q : Listed) (s : ℕ) (old : State) (d : Did) (done : List Did) (new : State)
    (walk : WatchesAlong q s old (d ∷ done) new)
    → StepTells q s old.store walk.0.store d.effect.queued (event_changes q old d.event)
    → DeltasAreTold q s walk.0 done new walk.2 → DeltasAreTold q s old (d ∷ done) new walk
told_more q s old d done new walk (is_quiet same seq) h = record {
  told = h.told;
  whole = parts_out s (d ∷ done);
  among = among_later (map (told_text (listed_name q)) h.told) (parts_for s d.effect.queued) (parts_to s done) h.among;
  numbers = h.numbers ∙ ap (λ ns. ns ++ numbers_along q s walk.0 done new walk.2)
      (sym (number_none q old d.event walk.0 seq));
  rising = h.rising;
  adds_up = λ ts l. h.adds_up ts (listing_stays old.store walk.0.store q ts same l);
}
told_more q s old d done new walk (is_told delta seq counts) h =
    let mid = walk.0 in
    let first : Told = record { number = mid.store.seq; changes = delta.changes } in
    let above : All (λ n. mid.store.seq < n) (map (λ (t : Told). t.number) h.told) =
    subst (λ (ns : List ℕ). All (λ n. mid.store.seq < n) ns) (sym h.numbers) (numbers_above q s mid done new walk.2) in
    record {
      told = first ∷ h.told;
      whole = parts_out s (d ∷ done);
      among = among_first (told_text (listed_name q) first) (map (told_text (listed_name q)) h.told)
          (parts_for s d.effect.queued) (parts_to s done)
          (part_there s d.effect.queued (told_text (listed_name q) first) delta.told) h.among;
      numbers = ap (λ ns. mid.store.seq ∷ ns) h.numbers
          ∙ ap (λ ns. ns ++ numbers_along q s mid done new walk.2) (sym (number_one q old d.event mid seq counts));
      rising = AllPairs-cons (λ m n. m < n) mid.store.seq (map (λ (t : Told). t.number) h.told) above h.rising;
      adds_up = λ ts l. h.adds_up (added_up ts delta.changes)
          (deltas_add_up old.store.relations mid.store.relations q ts delta.changes l delta.delta);
    }

pub watchers_have_answers : WatchersHaveAnswers
watchers_have_answers q s old [] new walk = record {
  told = [];
  whole = refl;
  among = tt;
  numbers = refl;
  rising = λ i j d lt within. absurd (omega arith);
  adds_up = λ ts l. subst (λ (st : State). IsListing (AnswersOf st.store.relations q) ts) (sym walk) l;
}
watchers_have_answers q s old (d ∷ done) new walk =
    let h = walk.1 in
    told_more q s old d done new walk (step_tells q s old d.event d.effect walk.0 h.step h.before h.behind)
    (watchers_have_answers q s walk.0 done new walk.2)
