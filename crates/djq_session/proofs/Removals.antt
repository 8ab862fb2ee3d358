-- The first of a list that passes a test is found, and taken out.
use Rattle.std.proofs.Common.{ℕ, zero, suc, ◌<◌, ◌≤◌, ◌≡◌, ◌||◌, Bool, true, false, cond, ltb, List, [], ◌∷◌, length}
use Rattle.std.proofs.Common.{take, drop, get_or, find, position, Option, None, Some, refl, sym, subst, ap, ◌∙◌, arith}
use Rattle.std.proofs.Common.{length-append, length-take, length-drop}
use Rattle.std.specs.List.{list_any, position_or_len, remove, slice_get}
use Rattle.std.specs.Option.{is_some, IfSome, IsSomeAnd}
use Rattle.std.proofs.lemmas.List.Quantifiers.{position-Some}
use Rattle.std.proofs.lemmas.List.Folds.{find_at, list_any_at}
use Rattle.std.proofs.lemmas.Option.{slice_get_past, slice_get-get_or}
use Rattle.std.proofs.lemmas.Bool.{cond-true, cond-false, ltb-false}
use Rattle.djq_model.specs.Data.{drop_first}
use Rattle.djq_session.specs.declared.named.NamedCursor.{NamedCursor}
use Rattle.djq_session.specs.Dialog.{Dialog}

-- ---- The first of a list that passes a test: found, and taken out.

-- where none is found, none passes
pub none_passes : {A : Type 0} (p : A → Bool) (xs : List A) → find p xs ≡ None → (k : ℕ) (d : A) → k < length xs
    → p (get_or xs k d) ≡ false
none_passes p [] h k d l = absurd (omega arith)
none_passes p (x ∷ xs) h k d l = step (p x) k refl h (λ rest j m. none_passes p xs rest j d m) l
  where
    step : (b : Bool) (k : ℕ) → p x ≡ b → cond b (Some x) (find p xs) ≡ None
        → (find p xs ≡ None → (j : ℕ) → j < length xs → p (get_or xs j d) ≡ false)
        → k < suc (length xs) → p (get_or (x ∷ xs) k d) ≡ false
    step true k e h below l = absurd (cc)
    step false zero e h below l = e
    step false (suc k) e h below l = below h k (omega arith)

-- where none is found, there is no place
pub not_found : {A : Type 0} (p : A → Bool) (xs : List A) → position p xs ≡ None → find p xs ≡ None
not_found p xs h = find_at p xs
    ∙ slice_get_past xs (position_or_len p xs)
    (ltb-false (position_or_len p xs) (length xs)
    (isnt (ltb (position_or_len p xs) (length xs)) (position_or_len p xs) h))
  where
    isnt : (b : Bool) (i : ℕ) → cond b (Some i) None ≡ None → b ≡ false
    isnt true i h = cc
    isnt false i h = refl

drop_at : {A : Type 0} (p : A → Bool) (xs : List A) (i : ℕ) (d : A) → i < length xs → p (get_or xs i d) ≡ true
    → ((k : ℕ) → k < i → p (get_or xs k d) ≡ false) → remove xs i ≡ drop_first p xs
drop_at p [] i d l h before = absurd (omega arith)
drop_at p (x ∷ xs) zero d l h before = sym (cond-true _ _ _ h)
drop_at p (x ∷ xs) (suc i) d l h before =
    ap (λ r. x ∷ r) (drop_at p xs i d (omega arith) h (λ k m. before (suc k) (omega arith)))
    ∙ sym (cond-false _ _ _ (before 0 (omega arith)))

-- Taking out where the first stands is dropping the first.
pub removed_first : {A : Type 0} (p : A → Bool) (xs : List A) (i : ℕ) → position p xs ≡ Some i → remove xs i
    ≡ drop_first p xs
removed_first p [] i h = absurd (cc)
removed_first p (x ∷ xs) i h = let at = position-Some p (x ∷ xs) i x h in drop_at p (x ∷ xs) i x at.0 at.1 at.2

-- where none is found, none is dropped
pub none_dropped : {A : Type 0} (p : A → Bool) (xs : List A) → find p xs ≡ None → drop_first p xs ≡ xs
none_dropped p [] h = refl
none_dropped p (x ∷ xs) h = step (p x) (λ rest. none_dropped p xs rest) h
  where
    step : (b : Bool) → (find p xs ≡ None → drop_first p xs ≡ xs) → cond b (Some x) (find p xs) ≡ None
        → cond b xs (x ∷ drop_first p xs) ≡ x ∷ xs
    step true rest h = absurd (cc)
    step false rest h = ap (λ r. x ∷ r) (rest h)

-- a list is no longer without one
pub few_left : {A : Type 0} (xs : List A) (i most : ℕ) → length xs ≤ most → length (remove xs i) ≤ most
few_left xs i most h = omega
    (arith, length-append (take i xs) (drop (suc i) xs), length-take i xs, length-drop (suc i) xs)

none_any : {A : Type 0} (p : A → Bool) (xs : List A) → find p xs ≡ None → list_any p xs ≡ false
none_any p [] h = refl
none_any p (x ∷ xs) h = step (p x) (λ rest. none_any p xs rest) h
  where
    step : (b : Bool) → (find p xs ≡ None → list_any p xs ≡ false) → cond b (Some x) (find p xs) ≡ None
        → (b || list_any p xs) ≡ false
    step true rest h = absurd (cc)
    step false rest h = rest h

any_at : {A : Type 0} (p : A → Bool) (xs : List A) (i : ℕ) → position p xs ≡ Some i → list_any p xs ≡ true
any_at p [] i h = absurd (cc)
any_at p (x ∷ xs) i h = let at = position-Some p (x ∷ xs) i x h in list_any_at p (x ∷ xs) i x at.0 at.1

-- There is a place exactly where one passes.
pub placed_any : {A : Type 0} (p : A → Bool) (xs : List A) (place : Option ℕ) → place ≡ position p xs → is_some place
    ≡ list_any p xs
placed_any p xs None e = sym (none_any p xs (not_found p xs (sym e)))
placed_any p xs (Some i) e = sym (any_at p xs i (sym e))

-- What stands at such a place passes.
pub placed_there : {A : Type 0} (p : A → Bool) (xs : List A) (place : Option ℕ) → place ≡ position p xs
    → IfSome place (λ k. IsSomeAnd (slice_get xs k) (λ x. p x ≡ true))
placed_there p xs None e = tt
placed_there p [] (Some i) e = absurd (cc)
placed_there {A = A} p (x ∷ xs) (Some i) e =
    let at = position-Some p (x ∷ xs) i x (sym e) in
    subst (λ (o : Option A). IsSomeAnd o (λ y. p y ≡ true)) (sym (slice_get-get_or (x ∷ xs) i x at.0)) at.1

-- ---- A session from which nothing was dropped is as it was.

pub no_cursor_dropped : {C Q : Type 0} (p : NamedCursor C → Bool) (d : Dialog C Q) (names : List (NamedCursor C))
    → names ≡ d.cursors → position p names ≡ None
    → d ≡ record d { cursors = drop_first p d.cursors }
no_cursor_dropped p d names e h = ap (λ cs. record d { cursors = cs })
    (sym (none_dropped p d.cursors (subst (λ xs. find p xs ≡ None) e (not_found p names h))))

pub no_watch_dropped : {C Q : Type 0} (p : Q → Bool) (d : Dialog C Q) (watched : List Q) → watched ≡ d.watches
    → position p watched ≡ None
    → d ≡ record d { watches = drop_first p d.watches }
no_watch_dropped p d watched e h = ap (λ qs. record d { watches = qs })
    (sym (none_dropped p d.watches (subst (λ xs. find p xs ≡ None) e (not_found p watched h))))
