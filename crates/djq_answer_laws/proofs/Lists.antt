-- What lists contain, lists without repeats, and what tests and options give.
use Rattle.std.specs.Prelude.{◌≡◌, ◌&&◌, Bool, true, false, Option, None, Some, IsSomeAnd, is_some, zero, suc, List, []}
use Rattle.std.specs.Prelude.{◌∷◌, ◌++◌, ◌⊎◌, cond, filter, map, All, AllPairs, Any, Contains}
use Rattle.std.specs.Option.{option_or}
use Rattle.std.proofs.Common.{refl, sym, ap, ◌∙◌, subst, inl, inr, arith}
pub use Rattle.std.proofs.lemmas.Bool.{not-false as not_false}
pub use Rattle.std.proofs.Math.Bool.{or-false as or_false}
use Rattle.std.proofs.lemmas.List.Elements.{All-nil, All-cons, All-head, All-tail, All-append, All-weaker}
use Rattle.std.proofs.lemmas.List.Elements.{All-contains_itself, Contains-append_right, Contains-append_cases}
use Rattle.std.proofs.lemmas.List.Kept.{AllPairs-cons}
use Rattle.djq_model.specs.Data.{Tuple, tuple_eq, has_row}
use Rattle.djq_model.specs.Answer.{AreDifferent}
use Rattle.djq_model.specs.Equality.{tuple_eq-decides}

-- ---- What tests and options tell, where the proofs above meet it and no lemma of the standard library says it.

-- ---- tests

pub first_holds : (a b : Bool) → (a && b) ≡ true → a ≡ true
first_holds true b h = refl
first_holds false b h = h

pub same_tests : (a b : Bool) → (a ≡ true → b ≡ true) → (b ≡ true → a ≡ true) → a ≡ b
same_tests true b to from = sym (to refl)
same_tests false true to from = from refl
same_tests false false to from = refl

-- ---- options

pub some_there : {A : Type 0} (o : Option A) (P : A → Type 0) → IsSomeAnd o P → (x : A) × (o ≡ Some x) × P x
some_there None P h = absurd h
some_there (Some x) P h = (x, refl, h)

pub some_as : {A : Type 0} (o : Option A) (P Q : A → Type 0) → ((x : A) → P x → Q x) → IsSomeAnd o P → IsSomeAnd o Q
some_as None P Q f h = h
some_as (Some x) P Q f h = f x h

pub none_some : {A : Type 0} (o : Option A) (x : A) → o ≡ None → o ≡ Some x → ⊥
none_some None x n s = cc
none_some (Some y) x n s = cc

pub nothing_of : {A : Type 0} (o : Option A) → is_some o ≡ false → o ≡ None
nothing_of None h = refl
nothing_of (Some x) h = absurd cc

pub or_none : {A : Type 0} (o : Option A) → option_or o None ≡ o
or_none None = refl
or_none (Some x) = refl

-- ---- What lists contain, and lists without repeats.

-- what a list contains
pub nothing_there : {A : Type 0} (x : A) → Contains [] x → ⊥
nothing_there x h = absurd (omega (arith, h.1))

only_one : {A : Type 0} (y x : A) → Contains (y ∷ []) x → y ≡ x
only_one y x (zero, l, e) = e
only_one y x (suc k, l, e) = absurd (omega (arith, l))

pub first_or_later : {A : Type 0} (y : A) (ys : List A) (x : A) → Contains (y ∷ ys) x → (y ≡ x) ⊎ Contains ys x
first_or_later y ys x h = step (Contains-append_cases (y ∷ []) ys x h)
  where
    step : Contains (y ∷ []) x ⊎ Contains ys x → (y ≡ x) ⊎ Contains ys x
    step (inl k) = inl (only_one y x k)
    step (inr k) = inr k

pub first_there : {A : Type 0} (y : A) (ys : List A) (x : A) → y ≡ x → Contains (y ∷ ys) x
first_there y ys x e = (0, omega arith, e)

pub later_there : {A : Type 0} (y : A) (ys : List A) (x : A) → Contains ys x → Contains (y ∷ ys) x
later_there y ys x h = Contains-append_right (y ∷ []) ys x h

-- what some of a list has
pub some_one : {A : Type 0} (P : A → Type 0) (xs : List A) → Any P xs → (x : A) × Contains xs x × P x
some_one P xs (k, x, l, e, h) = (x, (k, l, e), h)

pub one_there : {A : Type 0} (P : A → Type 0) (xs : List A) (x : A) → Contains xs x → P x → Any P xs
one_there P xs x (k, l, e) h = (k, x, l, e, h)

-- whether a row is among rows
pub row_found : (ts : List Tuple) (t : Tuple) → Contains ts t → has_row ts t ≡ true
row_found [] t h = absurd (nothing_there t h)
row_found (r ∷ rs) t h = step (first_or_later r rs t h) (tuple_eq r t) refl (λ k. row_found rs t k)
  where
    step : (r ≡ t) ⊎ Contains rs t → (b : Bool) → tuple_eq r t ≡ b → (Contains rs t → has_row rs t ≡ true)
        → cond b true (has_row rs t) ≡ true
    step o true e more = refl
    step (inl same) false e more = let so : tuple_eq r t ≡ true = (tuple_eq-decides r t).1 same in absurd (cc (so, e))
    step (inr k) false e more = more k

pub row_there : (ts : List Tuple) (t : Tuple) → has_row ts t ≡ true → Contains ts t
row_there [] t h = absurd (cc)
row_there (r ∷ rs) t h = step (tuple_eq r t) refl h (λ k. row_there rs t k)
  where
    step : (b : Bool) → tuple_eq r t ≡ b → cond b true (has_row rs t) ≡ true → (has_row rs t ≡ true → Contains rs t)
        → Contains (r ∷ rs) t
    step true e k more = first_there r rs t ((tuple_eq-decides r t).0 e)
    step false e k more = later_there r rs t (more k)

-- what a filter keeps
pub kept_hold : {A : Type 0} (P Q : A → Type 0) (p : A → Bool) (xs : List A) → ((x : A) → p x ≡ true → P x → Q x)
    → All P xs → All Q (filter p xs)
kept_hold P Q p [] f h = All-nil Q
kept_hold P Q p (x ∷ xs) f h = step (p x) refl (kept_hold P Q p xs f (All-tail P x xs h))
  where
    step : (b : Bool) → p x ≡ b → All Q (filter p xs) → All Q (cond b (x ∷ filter p xs) (filter p xs))
    step true e rest = All-cons Q x (filter p xs) (f x e (All-head P x xs h)) rest
    step false e rest = rest

pub kept_there : {A : Type 0} (p : A → Bool) (xs : List A) (x : A) → p x ≡ true → Contains xs x
    → Contains (filter p xs) x
kept_there p [] x e h = absurd (nothing_there x h)
kept_there p (y ∷ ys) x e h = step (p y) refl (first_or_later y ys x h) (λ k. kept_there p ys x e k)
  where
    step : (b : Bool) → p y ≡ b → (y ≡ x) ⊎ Contains ys x → (Contains ys x → Contains (filter p ys) x)
        → Contains (cond b (y ∷ filter p ys) (filter p ys)) x
    step true k (inl same) more = first_there y (filter p ys) x same
    step true k (inr c) more = later_there y (filter p ys) x (more c)
    step false k (inl same) more = let so : p y ≡ true = ap p same ∙ e in absurd (cc (so, k))
    step false k (inr c) more = more c

-- what a list is mapped to
pub mapped_there : {A B : Type 0} (f : A → B) (xs : List A) (x : A) → Contains xs x → Contains (map f xs) (f x)
mapped_there f [] x h = absurd (nothing_there x h)
mapped_there f (y ∷ ys) x h = step (first_or_later y ys x h) (λ k. mapped_there f ys x k)
  where
    step : (y ≡ x) ⊎ Contains ys x → (Contains ys x → Contains (map f ys) (f x)) → Contains (f y ∷ map f ys) (f x)
    step (inl e) more = first_there (f y) (map f ys) (f x) (ap f e)
    step (inr c) more = later_there (f y) (map f ys) (f x) (more c)

-- pairs of a list
pub pairs_head : {A : Type 0} (R : A → A → Type 0) (x : A) (xs : List A) → AllPairs R (x ∷ xs) → All (R x) xs
pairs_head R x xs h = λ k d lt. h 0 (suc k) d (omega arith) (omega (arith, lt))

pub pairs_tail : {A : Type 0} (R : A → A → Type 0) (x : A) (xs : List A) → AllPairs R (x ∷ xs) → AllPairs R xs
pairs_tail R x xs h = λ i j d lt within. h (suc i) (suc j) d (omega (arith, lt)) (omega (arith, within))

pub pairs_join : {A : Type 0} (R : A → A → Type 0) (xs ys : List A) → AllPairs R xs → AllPairs R ys
    → All (λ x. All (R x) ys) xs → AllPairs R (xs ++ ys)
pairs_join R [] ys h k apart = k
pairs_join R (x ∷ xs) ys h k apart =
    AllPairs-cons R x (xs ++ ys)
    (All-append (R x) xs ys (pairs_head R x xs h) (All-head (λ z. All (R z) ys) x xs apart))
    (pairs_join R xs ys (pairs_tail R x xs h) k (All-tail (λ z. All (R z) ys) x xs apart))

-- what holds of each of a list
pub hold_each : {A : Type 0} (P : A → Type 0) (xs : List A) → ((x : A) → Contains xs x → P x) → All P xs
hold_each P xs f = All-weaker (Contains xs) P f xs (All-contains_itself xs)

-- a list without repeats
abbrev pub once : List Tuple → List Tuple
once [] = []
once (t ∷ ts) = cond (has_row (once ts) t) (once ts) (t ∷ once ts)

pub once_hold : (P : Tuple → Type 0) (ts : List Tuple) → All P ts → All P (once ts)
once_hold P [] h = All-nil P
once_hold P (t ∷ ts) h = step (has_row (once ts) t) (once_hold P ts (All-tail P t ts h))
  where
    step : (b : Bool) → All P (once ts) → All P (cond b (once ts) (t ∷ once ts))
    step true rest = rest
    step false rest = All-cons P t (once ts) (All-head P t ts h) rest

pub once_there : (ts : List Tuple) (u : Tuple) → Contains ts u → Contains (once ts) u
once_there [] u h = h
once_there (t ∷ ts) u h = step (has_row (once ts) t) refl (first_or_later t ts u h) (λ k. once_there ts u k)
  where
    step : (b : Bool) → has_row (once ts) t ≡ b → (t ≡ u) ⊎ Contains ts u → (Contains ts u → Contains (once ts) u)
        → Contains (cond b (once ts) (t ∷ once ts)) u
    step true e (inl same) more = subst (λ (v : Tuple). Contains (once ts) v) same (row_there (once ts) t e)
    step true e (inr k) more = more k
    step false e (inl same) more = first_there t (once ts) u same
    step false e (inr k) more = later_there t (once ts) u (more k)

pub once_differ : (ts : List Tuple) → AreDifferent (once ts)
once_differ [] = λ i j d lt within. absurd (omega (arith, lt, within))
once_differ (t ∷ ts) = step (has_row (once ts) t) refl (once_differ ts)
  where
    step : (b : Bool) → has_row (once ts) t ≡ b → AreDifferent (once ts) → AreDifferent (cond b (once ts) (t ∷ once ts))
    step true e rest = rest
    step false e rest =
        AllPairs-cons (λ (r s : Tuple). r ≡ s → ⊥) t (once ts)
        (hold_each (λ (s : Tuple). t ≡ s → ⊥) (once ts)
        (λ s k same. let so : has_row (once ts) t
        ≡ true = row_found (once ts) t (subst (λ (v : Tuple). Contains (once ts) v) (sym same) k) in absurd
        (cc (so, e)))) rest
