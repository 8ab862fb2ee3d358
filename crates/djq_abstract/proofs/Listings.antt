-- Lists without repeats, and a listing to which a delta is applied.
use Rattle.std.specs.Prelude.{List, [], ◌∷◌, ◌++◌, ◌≡◌, ◌⊎◌, Bool, true, false, not, cond, filter, All, AllPairs, Contains}
use Rattle.std.specs.Prelude.{zero, suc, Option, None, Some, IsSomeAnd}
use Rattle.std.proofs.Common.{refl, sym, ap, subst, inl, inr, arith}
use Rattle.std.proofs.lemmas.List.Elements.{All-nil, All-cons, All-head, All-tail, All-append, All-contains}
use Rattle.std.proofs.lemmas.List.Elements.{Contains-append_left, Contains-append_right, Contains-append_cases}
use Rattle.std.proofs.lemmas.List.Kept.{AllPairs-filter, AllPairs-cons}
use Rattle.djq_model.specs.Data.{Tuple, tuple_eq, has_row}
use Rattle.djq_model.specs.Answer.{IsListing}
use Rattle.djq_model.specs.Equality.{tuple_eq-decides}
use Rattle.djq_abstract.specs.Deltas.{AnswerDelta, IsDeltaBetween, delta_applied}

-- ---- what a list contains

pub nothing_there : {A : Type 0} (x : A) → Contains [] x → ⊥
nothing_there x h = absurd (omega (arith, h.1))

only_one : {A : Type 0} (y x : A) → Contains (y ∷ []) x → y ≡ x
only_one y x (zero, l, e) = e
only_one y x (suc k, l, e) = absurd (omega (arith, l))

pub first_or_later : {A : Type 0} (y : A) (ys : List A) (x : A) → Contains (y ∷ ys) x → (y ≡ x) ⊎ Contains ys x
first_or_later y ys x h = step (Contains-append_cases (y ∷ []) ys x h)
  where
    step : Contains (y ∷ []) x ⊎ Contains ys x → (y ≡ x) ⊎ Contains ys x
    step (inl k) = inl (only_one y x k)
    step (inr k) = inr k

pub first_there : {A : Type 0} (y : A) (ys : List A) (x : A) → y ≡ x → Contains (y ∷ ys) x
first_there y ys x e = (0, omega arith, e)

later_there : {A : Type 0} (y : A) (ys : List A) (x : A) → Contains ys x → Contains (y ∷ ys) x
later_there y ys x h = Contains-append_right (y ∷ []) ys x h

-- whether a row is among rows
row_found : (ts : List Tuple) (t : Tuple) → Contains ts t → has_row ts t ≡ true
row_found [] t h = absurd (nothing_there t h)
row_found (r ∷ rs) t h = step (first_or_later r rs t h) (tuple_eq r t) refl (λ k. row_found rs t k)
  where
    step : (r ≡ t) ⊎ Contains rs t → (b : Bool) → tuple_eq r t ≡ b → (Contains rs t → has_row rs t ≡ true)
        → cond b true (has_row rs t) ≡ true
    step o true e more = refl
    step (inl same) false e more = let so : tuple_eq r t ≡ true = (tuple_eq-decides r t).1 same in absurd (cc (so, e))
    step (inr k) false e more = more k

row_there : (ts : List Tuple) (t : Tuple) → has_row ts t ≡ true → Contains ts t
row_there [] t h = absurd (cc)
row_there (r ∷ rs) t h = step (tuple_eq r t) refl h (λ k. row_there rs t k)
  where
    step : (b : Bool) → tuple_eq r t ≡ b → cond b true (has_row rs t) ≡ true → (has_row rs t ≡ true → Contains rs t)
        → Contains (r ∷ rs) t
    step true e k more = first_there r rs t ((tuple_eq-decides r t).0 e)
    step false e k more = later_there r rs t (more k)

-- what a filter keeps
kept_hold : {A : Type 0} (P Q : A → Type 0) (p : A → Bool) (xs : List A) → ((x : A) → p x ≡ true → P x → Q x)
    → All P xs → All Q (filter p xs)
kept_hold P Q p [] f h = All-nil Q
kept_hold P Q p (x ∷ xs) f h = step (p x) refl (kept_hold P Q p xs f (All-tail P x xs h))
  where
    step : (b : Bool) → p x ≡ b → All Q (filter p xs) → All Q (cond b (x ∷ filter p xs) (filter p xs))
    step true e rest = All-cons Q x (filter p xs) (f x e (All-head P x xs h)) rest
    step false e rest = rest

kept_there : {A : Type 0} (p : A → Bool) (xs : List A) (x : A) → p x ≡ true → Contains xs x → Contains (filter p xs) x
kept_there p [] x e h = absurd (nothing_there x h)
kept_there p (y ∷ ys) x e h = step (p y) refl (first_or_later y ys x h) (λ k. kept_there p ys x e k)
  where
    step : (b : Bool) → p y ≡ b → (y ≡ x) ⊎ Contains ys x → (Contains ys x → Contains (filter p ys) x)
        → Contains (cond b (y ∷ filter p ys) (filter p ys)) x
    step true k (inl same) more = first_there y (filter p ys) x same
    step true k (inr c) more = later_there y (filter p ys) x (more c)
    step false k (inl same) more = let so : p y ≡ true = subst (λ z. p z ≡ true) (sym same) e in absurd (cc (so, k))
    step false k (inr c) more = more c

-- pairs of two lists
pairs_join : {A : Type 0} (R : A → A → Type 0) (xs ys : List A) → AllPairs R xs → AllPairs R ys
    → All (λ x. All (R x) ys) xs → AllPairs R (xs ++ ys)
pairs_join R [] ys h k apart = k
pairs_join R (x ∷ xs) ys h k apart =
    AllPairs-cons R x (xs ++ ys)
    (All-append (R x) xs ys (λ k d lt. h 0 (suc k) d (omega arith) (omega (arith, lt)))
    (All-head (λ z. All (R z) ys) x xs apart))
    (pairs_join R xs ys (λ i j d lt within. h (suc i) (suc j) d (omega (arith, lt)) (omega (arith, within))) k
    (All-tail (λ z. All (R z) ys) x xs apart))

-- ---- options

pub some_there : {A : Type 0} (o : Option A) (P : A → Type 0) → IsSomeAnd o P → (x : A) × (o ≡ Some x) × P x
some_there None P h = absurd h
some_there (Some x) P h = (x, refl, h)

pub and_some : {A : Type 0} (o : Option A) (P : A → Type 0) (x : A) → o ≡ Some x → P x → IsSomeAnd o P
and_some o P x e h = rw e h

-- ---- a listing and a delta

module _ (Before After : Tuple → Type 0) (ts : List Tuple) (d : AnswerDelta) (listing : IsListing Before ts)
    (delta : IsDeltaBetween Before After d)
  where
    stays : (t : Tuple) → not (has_row d.deleted t) ≡ true → Before t → After t
    stays t e before = by (delta.deleted.complete t before)
      where
        by : After t ⊎ Contains d.deleted t → After t
        by (inl after) = after
        by (inr went) =
            let gone : has_row d.deleted t ≡ true = row_found d.deleted t went in
            let no : not (has_row d.deleted t) ≡ false = ap not gone in
            absurd (cc (no, e))

    not_gone : (t : Tuple) → After t → (b : Bool) → has_row d.deleted t ≡ b → not b ≡ true
    not_gone t after true k =
        absurd ((All-contains (λ u. Before u × (After u → ⊥)) d.deleted t delta.deleted.gained
        (row_there d.deleted t k)).1 after)
    not_gone t after false k = refl

    is_listed : (t : Tuple) → After t → Contains (delta_applied d ts) t
    is_listed t after = by (delta.inserted.complete t after)
      where
        by : Before t ⊎ Contains d.inserted t → Contains (delta_applied d ts) t
        by (inl before) =
            Contains-append_left (filter (λ t. not (has_row d.deleted t)) ts) d.inserted t
            (kept_there (λ t. not (has_row d.deleted t)) ts t (not_gone t after (has_row d.deleted t) refl)
            (listing.complete t before))
        by (inr came) = Contains-append_right (filter (λ t. not (has_row d.deleted t)) ts) d.inserted t came

    pub applied_lists : IsListing After (delta_applied d ts)
    applied_lists = record {
      different = pairs_join (λ (s t : Tuple). s ≡ t → ⊥) (filter (λ t. not (has_row d.deleted t)) ts) d.inserted
          (AllPairs-filter (λ (s t : Tuple). s ≡ t → ⊥) (λ t. not (has_row d.deleted t)) ts listing.different)
          delta.inserted.different
          (kept_hold Before (λ x. All (λ y. x ≡ y → ⊥) d.inserted) (λ t. not (has_row d.deleted t)) ts
          (λ x e before. λ k u lt same. (delta.inserted.gained k u lt).1 (subst Before same before)) listing.answers);
      answers = All-append After (filter (λ t. not (has_row d.deleted t)) ts) d.inserted
          (kept_hold Before After (λ t. not (has_row d.deleted t)) ts stays listing.answers)
          (λ k u lt. (delta.inserted.gained k u lt).0);
      complete = is_listed;
    }
