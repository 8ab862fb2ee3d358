-- Lists of things with names: what is found, changed and refused there.
use Rattle.std.specs.Prelude.{List, [], ◌∷◌, ◌++◌, ◌≡◌, ◌≢◌, Bool, true, false, cond, None, Some, find, map}
use Rattle.std.specs.Prelude.{All, Contains}
use Rattle.std.specs.List.{list_any}
use Rattle.std.proofs.Common.{refl, sym, ap, ◌∙◌, subst}
use Rattle.std.proofs.lemmas.Bool.{or_from}
use Rattle.std.proofs.lemmas.List.Elements.{All-contains, All-head, All-tail, All-weaker, Contains-append_right}
use Rattle.djq_model.specs.Data.{Bytes, Tuple, bytes_eq, change_first, has_row, tuple_eq}
use Rattle.djq_model.specs.Answer.{AreDifferent}
use Rattle.djq_model.specs.Equality.{bytes_eq-decides, tuple_eq-decides}
use Rattle.djq_protocol.specs.declared.answer.Refusal.{Refusal}
use Rattle.djq_protocol.specs.Conditions.{first_refusal}
use Rattle.djq_store_spec.specs.Union.{stands_twice}
use Rattle.djq_answer_laws.proofs.Lists.{first_there, mapped_there, pairs_head, pairs_tail}
use Rattle.djq_run_laws.specs.Sound.{AreApart}
use Rattle.djq_run_laws.proofs.Forms.{AllFail}

-- ---- what is between others in a list

pub it_is_there : {A : Type 0} (zs xs : List A) (y : A) (ys : List A) → zs ≡ xs ++ y ∷ ys → Contains zs y
it_is_there zs xs y ys e =
    subst (λ l. Contains l y) (sym e) (Contains-append_right xs (y ∷ ys) y (first_there y ys y refl))

pub holds_of_it : {A : Type 0} (P : A → Type 0) (zs xs : List A) (y : A) (ys : List A) → zs ≡ xs ++ y ∷ ys → All P zs
    → P y
holds_of_it P zs xs y ys e h = All-contains P zs y h (it_is_there zs xs y ys e)

-- it is found, and changed, if none before it passes
pub found_at : {A : Type 0} (p : A → Bool) (xs : List A) (y : A) (ys : List A) → find p xs ≡ None → p y ≡ true
    → find p (xs ++ y ∷ ys) ≡ Some y
found_at p [] y ys none e = ap (λ b. cond b (Some y) (find p ys)) e
found_at p (x ∷ xs) y ys none e = by (p x) none (λ k. found_at p xs y ys k e)
  where
    by : (b : Bool) → cond b (Some x) (find p xs) ≡ None → (find p xs ≡ None → find p (xs ++ y ∷ ys) ≡ Some y)
        → cond b (Some x) (find p (xs ++ y ∷ ys)) ≡ Some y
    by true k rest = absurd cc
    by false k rest = rest k

pub changed_at : {A : Type 0} (p : A → Bool) (f : A → A) (xs : List A) (y : A) (ys : List A) → find p xs ≡ None
    → p y ≡ true → change_first p f (xs ++ y ∷ ys) ≡ xs ++ f y ∷ ys
changed_at p f [] y ys none e = ap (λ b. cond b (f y ∷ ys) (y ∷ change_first p f ys)) e
changed_at p f (x ∷ xs) y ys none e = by (p x) none (λ k. changed_at p f xs y ys k e)
  where
    by : (b : Bool) → cond b (Some x) (find p xs) ≡ None
        → (find p xs ≡ None → change_first p f (xs ++ y ∷ ys) ≡ xs ++ f y ∷ ys)
        → cond b (f x ∷ (xs ++ y ∷ ys)) (x ∷ change_first p f (xs ++ y ∷ ys)) ≡ x ∷ (xs ++ f y ∷ ys)
    by true k rest = absurd cc
    by false k rest = ap (λ l. x ∷ l) (rest k)

-- of names that are apart none before it is its own
pub none_before : {A : Type 0} (name_of : A → Bytes) (xs : List A) (y : A) (ys : List A)
    → AreApart (map name_of (xs ++ y ∷ ys)) → find (λ x. bytes_eq (name_of x) (name_of y)) xs ≡ None
none_before name_of [] y ys h = refl
none_before name_of (x ∷ xs) y ys h =
    by (bytes_eq (name_of x) (name_of y)) refl
    (All-contains (λ n. name_of x ≢ n) (map name_of (xs ++ y ∷ ys)) (name_of y)
    (pairs_head (λ a b. a ≢ b) (name_of x) (map name_of (xs ++ y ∷ ys)) h)
    (mapped_there name_of (xs ++ y ∷ ys) y (it_is_there (xs ++ y ∷ ys) xs y ys refl)))
    (none_before name_of xs y ys (pairs_tail (λ a b. a ≢ b) (name_of x) (map name_of (xs ++ y ∷ ys)) h))
  where
    by : (b : Bool) → bytes_eq (name_of x) (name_of y) ≡ b → name_of x ≢ name_of y
        → find (λ z. bytes_eq (name_of z) (name_of y)) xs ≡ None
        → cond b (Some x) (find (λ z. bytes_eq (name_of z) (name_of y)) xs) ≡ None
    by true e other rest = absurd (other ((bytes_eq-decides (name_of x) (name_of y)).0 e))
    by false e other rest = rest

-- of different rows none before it is the same
pub not_before : (xs : List Tuple) (y : Tuple) (ys : List Tuple) → AreDifferent (xs ++ y ∷ ys) → has_row xs y ≡ false
not_before [] y ys h = refl
not_before (x ∷ xs) y ys h =
    by (tuple_eq x y) refl
    (All-contains (λ n. x ≡ n → ⊥) (xs ++ y ∷ ys) y (pairs_head (λ a b. a ≡ b → ⊥) x (xs ++ y ∷ ys) h)
    (it_is_there (xs ++ y ∷ ys) xs y ys refl))
    (not_before xs y ys (pairs_tail (λ a b. a ≡ b → ⊥) x (xs ++ y ∷ ys) h))
  where
    by : (b : Bool) → tuple_eq x y ≡ b → (x ≡ y → ⊥) → has_row xs y ≡ false → cond b true (has_row xs y) ≡ false
    by true e other rest = absurd (other ((tuple_eq-decides x y).0 e))
    by false e other rest = rest

-- ---- what no element of a list passes

pub any_none : {A : Type 0} (p : A → Bool) (xs : List A) → All (λ x. p x ≡ false) xs → list_any p xs ≡ false
any_none p [] h = refl
any_none p (x ∷ xs) h =
    or_from (p x) (list_any p xs) (All-head (λ y. p y ≡ false) x xs h)
    (any_none p xs (All-tail (λ y. p y ≡ false) x xs h))

pub not_twice : (ns : List Bytes) → AreApart ns → stands_twice ns ≡ false
not_twice [] h = refl
not_twice (n ∷ ns) h =
    or_from (list_any (λ m. bytes_eq m n) ns) (stands_twice ns)
    (any_none (λ m. bytes_eq m n) ns
    (All-weaker (λ m. n ≢ m) (λ m. bytes_eq m n ≡ false) (λ m other. by m (bytes_eq m n) refl other) ns
    (pairs_head (λ a b. a ≢ b) n ns h)))
    (not_twice ns (pairs_tail (λ a b. a ≢ b) n ns h))
  where
    by : (m : Bytes) (b : Bool) → bytes_eq m n ≡ b → n ≢ m → b ≡ false
    by m true e other = absurd (other (sym ((bytes_eq-decides m n).0 e)))
    by m false e other = refl

-- ---- conditions of which none holds

pub none_refuses : (cs : List (Bool × Refusal)) → AllFail cs → first_refusal cs ≡ None
none_refuses [] h = refl
none_refuses (c ∷ cs) h = ap (λ b. cond b (Some c.1) (first_refusal cs)) h.0 ∙ none_refuses cs h.1

pub both_fail : (cs ds : List (Bool × Refusal)) → AllFail cs → AllFail ds → AllFail (cs ++ ds)
both_fail [] ds h k = k
both_fail (c ∷ cs) ds h k = (h.0, both_fail cs ds h.1 k)
