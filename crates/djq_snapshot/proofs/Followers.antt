-- Stores that follow others, and the texts that they know.
use Rattle.std.proofs.Common.{List, [], ◌∷◌, ◌++◌, ◌≡◌, ◌≤◌, ◌||◌, Bool, true, false, cond, length, refl, sym, ap, ◌∙◌}
use Rattle.std.proofs.Common.{subst}
use Rattle.std.specs.Prelude.{◌&&◌, All, IsPermutation, Option, None, Some}
use Rattle.std.specs.List.{list_any}
use Rattle.std.proofs.lemmas.Bool.{false≢true}
use Rattle.std.proofs.lemmas.Cmp.{nat_list_eq_equiv}
use Rattle.std.proofs.lemmas.Map.Made.{length-le_from_is_member, IsDistinct-from_AllPairs}
use Rattle.std.proofs.lemmas.List.Elements.{All-cons, All-head, All-tail}
use Rattle.std.proofs.lemmas.List.Sorted.{IsPermutation-refl, IsPermutation-sym, IsPermutation-trans}
use Rattle.djq_model.specs.declared.relation.Relation.{Relation}
use Rattle.djq_model.specs.declared.relation.CountedRow.{CountedRow}
use Rattle.djq_model.specs.Data.{Bytes, Tuple, bytes_eq, relation_of, tuples_in, plain_of, counted_in, rows_of}
use Rattle.djq_model.specs.Answer.{AreDifferent}
use Rattle.djq_model.specs.Equality.{bytes_eq-decides}
use Rattle.djq_model.specs.Known.{knows, knows_all, learned, all_learned}
use Rattle.djq_model.proofs.Copies.{tuples_moved, differ_moved}
use Rattle.djq_store_spec.specs.Store.{Store}
use Rattle.djq_store_spec.specs.Relations.{with_rows}
use Rattle.djq_machine.specs.Step.{SameRelations}
use Rattle.djq_run_laws.specs.Sound.{AreApart}
use Rattle.djq_run_laws.proofs.Lists.{all_changed, all_found, nothing_apart}
use Rattle.djq_log_laws.specs.Kept.{AreKnown, HasRowsOnce, StoreFollows}

-- ---- The same relations, with their rows in any order.

pub same_itself : (us : List Relation) → SameRelations us us
same_itself [] = tt
same_itself (a ∷ us) = (refl, refl, IsPermutation-refl a.rows, same_itself us)

pub same_turned : (us bs : List Relation) → SameRelations us bs → SameRelations bs us
same_turned [] [] h = tt
same_turned (a ∷ us) (b ∷ bs) h =
    (sym h.0, sym h.1, IsPermutation-sym a.rows b.rows h.2, same_turned us bs h.3)
same_turned [] (b ∷ bs) h = absurd h
same_turned (a ∷ us) [] h = absurd h

pub same_on : (us bs cs : List Relation) → SameRelations us bs → SameRelations bs cs → SameRelations us cs
same_on [] [] [] h k = tt
same_on (a ∷ us) (b ∷ bs) (c ∷ cs) h k =
    (k.0 ∙ h.0, k.1 ∙ h.1, IsPermutation-trans a.rows b.rows c.rows h.2 k.2, same_on us bs cs h.3 k.3)
same_on [] [] (c ∷ cs) h k = absurd k
same_on (a ∷ us) (b ∷ bs) [] h k = absurd k
same_on [] (b ∷ bs) cs h k = absurd h
same_on (a ∷ us) [] cs h k = absurd h

-- no row twice in any of them, in any order
pub once_in_order : (us bs : List Relation) → SameRelations us bs → All HasRowsOnce us → All HasRowsOnce bs
once_in_order [] [] h once = once
once_in_order (a ∷ us) (b ∷ bs) h once =
    All-cons HasRowsOnce b bs
    (differ_moved (tuples_in a) (tuples_in b) (tuples_moved a.rows b.rows h.2) (All-head HasRowsOnce a us once))
    (once_in_order us bs h.3 (All-tail HasRowsOnce a us once))
once_in_order [] (b ∷ bs) h once = absurd h
once_in_order (a ∷ us) [] h once = absurd h

once_found : (us : List Relation) (n : Bytes) (o : Option Relation) → relation_of us n ≡ o → All HasRowsOnce us
    → AreDifferent (plain_of (counted_in o))
once_found us n None e once = nothing_apart (λ (s t : Tuple). s ≡ t → ⊥)
once_found us n (Some a) e once = all_found HasRowsOnce (λ (r : Relation). bytes_eq r.name n) us a once e

pub rows_once : (us : List Relation) (n : Bytes) → All HasRowsOnce us → AreDifferent (rows_of us n)
rows_once us n once = once_found us n (relation_of us n) refl once

-- other rows in the one of a name
pub once_changed : (us : List Relation) (n : Bytes) (rows : List CountedRow) → AreDifferent (plain_of rows)
    → All HasRowsOnce us → All HasRowsOnce (with_rows us n rows)
once_changed us n rows differ once =
    all_changed HasRowsOnce (λ (r : Relation). bytes_eq r.name n) (λ (r : Relation). record r { rows = rows }) us once
    (λ x found k. differ)

pub same_changed : (us bs : List Relation) (n : Bytes) (xs ys : List CountedRow) → IsPermutation xs ys
    → SameRelations us bs → SameRelations (with_rows us n xs) (with_rows bs n ys)
same_changed [] [] n xs ys p h = tt
same_changed (a ∷ us) (b ∷ bs) n xs ys p h =
    subst (λ (c : Bool). SameRelations (with_rows (a ∷ us) n xs)
    (cond c (record b { rows = ys } ∷ bs) (b ∷ with_rows bs n ys)))
    (ap (λ (x : Bytes). bytes_eq x n) (sym h.0)) (by (bytes_eq a.name n) (same_changed us bs n xs ys p h.3))
  where
    by : (c : Bool) → SameRelations (with_rows us n xs) (with_rows bs n ys)
        → SameRelations (cond c (record a { rows = xs } ∷ us) (a ∷ with_rows us n xs))
        (cond c (record b { rows = ys } ∷ bs) (b ∷ with_rows bs n ys))
    by true rest = (h.0, h.1, p, h.3)
    by false rest = (h.0, h.1, h.2, rest)
same_changed [] (b ∷ bs) n xs ys p h = absurd h
same_changed (a ∷ us) [] n xs ys p h = absurd h

-- A store that follows another does so with its rows in another order.
pub follows_in_order : (to n : Store) (rs : List Relation) → SameRelations n.relations rs → StoreFollows to n
    → StoreFollows to (record n { relations = rs })
follows_in_order to n rs h f = record {
  same = record {
    relations = same_on to.relations n.relations rs f.same.relations h;
    queries = f.same.queries;
    seq = f.same.seq;
  };
  rows = once_in_order n.relations rs h f.rows;
  among = f.among;
  once = f.once;
}

-- ---- Texts that are known.

pub both_hold : (a b : Bool) → (a && b) ≡ true → (a ≡ true) × (b ≡ true)
both_hold true b e = (refl, e)
both_hold false b e = absurd (false≢true e)

-- Those that are known already make no more.
pub all_there : (known texts : List Bytes) → knows_all known texts ≡ true → all_learned known texts ≡ known
all_there known [] h = refl
all_there known (t ∷ ts) h =
    let k = both_hold (knows known t) (knows_all known ts) h in
    ap (λ (b : Bool). all_learned (cond b known (known ++ t ∷ [])) ts) k.0 ∙ all_there known ts k.1

-- one more, which the others know
known_or_last : (xs a : List Bytes) (s t : Bytes) → AreKnown xs a → knows a s ≡ true → knows (xs ++ s ∷ []) t ≡ true
    → knows a t ≡ true
known_or_last [] a s t f k h = by (bytes_eq s t) refl h
  where
    by : (b : Bool) → bytes_eq s t ≡ b → cond b true false ≡ true → knows a t ≡ true
    by true e g = subst (λ (r : Bytes). knows a r ≡ true) ((bytes_eq-decides s t).0 e) k
    by false e g = absurd (false≢true g)
known_or_last (x ∷ xs) a s t f k h =
    by (bytes_eq x t) refl h (λ g. known_or_last xs a s t (λ r e. f r (later r e)) k g)
  where
    later : (r : Bytes) → knows xs r ≡ true → knows (x ∷ xs) r ≡ true
    later r e = on (bytes_eq x r)
      where
        on : (b : Bool) → cond b true (knows xs r) ≡ true
        on true = refl
        on false = e

    by : (b : Bool) → bytes_eq x t ≡ b → cond b true (knows (xs ++ s ∷ []) t) ≡ true
        → (knows (xs ++ s ∷ []) t ≡ true → knows a t ≡ true) → knows a t ≡ true
    by true e g rest = f t (ap (λ (b : Bool). cond b true (knows xs t)) e)
    by false e g rest = rest g

one_among : (b a : List Bytes) (t : Bytes) → AreKnown b a → knows a t ≡ true → AreKnown (learned b t) a
one_among b a t f k s h = by (knows b t) h
  where
    by : (c : Bool) → knows (cond c b (b ++ t ∷ [])) s ≡ true → knows a s ≡ true
    by true g = f s g
    by false g = known_or_last b a t s f k g

pub all_among : (b a ts : List Bytes) → AreKnown b a → knows_all a ts ≡ true → AreKnown (all_learned b ts) a
all_among b a [] f k = f
all_among b a (t ∷ ts) f k =
    let both = both_hold (knows a t) (knows_all a ts) k in
    all_among (learned b t) a ts (one_among b a t f both.0) both.1

-- A list without repeats whose texts are all known to another is no longer than that.
knows_member : (ts : List Bytes) (t : Bytes) → list_any (bytes_eq t) ts ≡ knows ts t
knows_member [] t = refl
knows_member (s ∷ ts) t = by (bytes_eq s t) refl (knows_member ts t)
  where
    turned : (b : Bool) → bytes_eq s t ≡ b → bytes_eq t s ≡ b
    turned true e = (bytes_eq-decides t s).1 (sym ((bytes_eq-decides s t).0 e))
    turned false e = at (bytes_eq t s) refl
      where
        at : (c : Bool) → bytes_eq t s ≡ c → c ≡ false
        at false f = refl
        at true f = absurd (false≢true (sym e ∙ (bytes_eq-decides s t).1 (sym ((bytes_eq-decides t s).0 f))))

    by : (b : Bool) → bytes_eq s t ≡ b → list_any (bytes_eq t) ts ≡ knows ts t
        → (bytes_eq t s || list_any (bytes_eq t) ts) ≡ cond b true (knows ts t)
    by true e h = ap (λ (c : Bool). c || list_any (bytes_eq t) ts) (turned true e)
    by false e h = ap (λ (c : Bool). c || list_any (bytes_eq t) ts) (turned false e) ∙ h

pub no_longer : (b a : List Bytes) → AreKnown b a → AreApart b → length b ≤ length a
no_longer b a among once =
    length-le_from_is_member nat_list_eq_equiv b a (IsDistinct-from_AllPairs bytes_eq-decides b once)
    (λ t h. knows_member a t ∙ among t (sym (knows_member b t) ∙ h))
