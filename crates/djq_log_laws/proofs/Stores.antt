-- Stores with the same data, and which texts they know.
use Rattle.std.proofs.Common.{List, [], ◌∷◌, ◌++◌, ◌≡◌, ◌≤◌, ◌||◌, Bool, true, false, cond, length, refl, sym, ap, ◌∙◌}
use Rattle.std.proofs.Common.{subst, arith, ℕ, map, ap₂}
use Rattle.std.specs.List.{list_any}
use Rattle.std.proofs.lemmas.Bool.{false≢true}
use Rattle.std.proofs.lemmas.List.{length-append}
use Rattle.std.proofs.lemmas.Cmp.{nat_list_eq_equiv}
use Rattle.std.proofs.lemmas.Map.Made.{length-le_from_is_member, IsDistinct-from_AllPairs}
use Rattle.std.specs.Prelude.{◌==◌, ◌&&◌, not, nat_le, nat_lt, Option, None, Some, is_some, is_none, unwrap_or}
use Rattle.std.specs.Prelude.{IsPermutation, All}
use Rattle.std.proofs.lemmas.List.Elements.{All-cons, All-head, All-tail}
use Rattle.std.proofs.lemmas.List.Sorted.{IsPermutation-refl, IsPermutation-sym, IsPermutation-trans}
use Rattle.std.proofs.lemmas.List.Sorted.{length_permutation}
use Rattle.djq_model.specs.declared.relation.Relation.{Relation}
use Rattle.djq_model.specs.declared.relation.ColumnType.{ColumnType}
use Rattle.djq_model.specs.declared.query.Query.{Query}
use Rattle.djq_model.specs.declared.query.Atom.{Atom}
use Rattle.djq_model.specs.declared.query.Comparison.{Comparison}
use Rattle.djq_model.specs.declared.query.Term.{Term}
use Rattle.djq_model.specs.declared.relation.CountedRow.{CountedRow}
use Rattle.djq_model.specs.Data.{Bytes, bytes_eq, Tuple, relation_of, tuples_in, plain_of, counted_in, counted_of}
use Rattle.djq_model.specs.Data.{rows_of, has_row}
use Rattle.djq_model.specs.Equality.{bytes_eq-decides}
use Rattle.djq_model.specs.Known.{knows, learned, all_learned}
use Rattle.djq_model.specs.Answer.{AreDifferent}
use Rattle.djq_model.specs.Listed.{Listed, a_query, a_union, listed_of}
use Rattle.djq_model.specs.Typed.{fits}
use Rattle.djq_model.proofs.Copies.{tuples_moved, has_moved, differ_moved, copies_moved}
use Rattle.djq_protocol.specs.declared.limits.TheConstants.{TEXTS, COLUMNS, RELATIONS, ROWS, COPIES, LAST_SEQ, QUERIES}
use Rattle.djq_protocol.specs.declared.limits.TheConstants.{MEMBERS}
use Rattle.djq_protocol.specs.declared.answer.Refusal.{Refusal}
use Rattle.djq_protocol.specs.declared.answer.Refusal.TheVariants.{Taken, NoRelation, NoQuery, Arity, WrongType}
use Rattle.djq_protocol.specs.declared.answer.Refusal.TheVariants.{VariableType, Unbound, HeadRepeated, HeadUnbound}
use Rattle.djq_protocol.specs.declared.answer.Refusal.TheVariants.{Member, Limit}
use Rattle.djq_protocol.specs.Columns.{types_of, columns_of}
use Rattle.djq_protocol.specs.QueryFault.{any_column, any_place, is_misfit, is_clash, is_miscompared, reads_unknown}
use Rattle.djq_protocol.specs.QueryFault.{has_wrong_arity, has_misfit, has_clash, compares_unbound, has_miscompared}
use Rattle.djq_protocol.specs.QueryFault.{repeats_head, has_unbound_head, is_too_large}
use Rattle.djq_protocol.specs.Conditions.{first_refusal}
use Rattle.djq_store_spec.specs.Relations.{LearnsFirst, FindsNoPlace, with_rows, rel_refusal}
use Rattle.djq_store_spec.specs.Store.{Store}
use Rattle.djq_store_spec.specs.Rows.{copies_of, add_refusal, delete_refusal}
use Rattle.djq_store_spec.specs.Registering.{query_refusal}
use Rattle.djq_store_spec.specs.Asking.{type_among, variable_type, answer_types, listed_types}
use Rattle.djq_store_spec.specs.Union.{stands_twice, is_union, same_types, types_under, types_differ, union_refusal}
use Rattle.djq_store_spec.specs.Held.{HeldTransaction, has_room}
use Rattle.djq_store_spec.specs.Transaction.{hold_refusal}
use Rattle.djq_machine.specs.Step.{SameRelations}
use Rattle.djq_run_laws.specs.Sound.{AreApart}
use Rattle.djq_run_laws.proofs.Lists.{texts_apart, nothing_apart, all_changed, all_found}
use Rattle.djq_run_laws.proofs.Batches.{learned_append}
use Rattle.djq_run_laws.proofs.RegisteredQueries.{reordered_counted, reordered_rows}
use Rattle.djq_log_laws.specs.Kept.{AreKnown, IsSameStore, HasRowsOnce, StoreFollows, FollowersHaveCopies}

-- ---- Which texts are known, in a store and in one that follows it.

pub known_refl : (ts : List Bytes) → AreKnown ts ts
known_refl ts t h = h

pub known_trans : (a b c : List Bytes) → AreKnown a b → AreKnown b c → AreKnown a c
known_trans a b c f g t h = g t (f t h)

same_text : (t : Bytes) → bytes_eq t t ≡ true
same_text t = (bytes_eq-decides t t).1 refl

-- what is known of a list with another behind it
known_front : (xs ys : List Bytes) (t : Bytes) → knows xs t ≡ true → knows (xs ++ ys) t ≡ true
known_front [] ys t h = absurd (false≢true h)
known_front (x ∷ xs) ys t h = by (bytes_eq x t) h (λ k. known_front xs ys t k)
  where
    by : (b : Bool) → cond b true (knows xs t) ≡ true → (knows xs t ≡ true → knows (xs ++ ys) t ≡ true)
        → cond b true (knows (xs ++ ys) t) ≡ true
    by true k rest = refl
    by false k rest = rest k

known_last : (xs : List Bytes) (t : Bytes) → knows (xs ++ t ∷ []) t ≡ true
known_last [] t = ap (λ (b : Bool). cond b true false) (same_text t)
known_last (x ∷ xs) t = by (bytes_eq x t) (known_last xs t)
  where
    by : (b : Bool) → knows (xs ++ t ∷ []) t ≡ true → cond b true (knows (xs ++ t ∷ []) t) ≡ true
    by true rest = refl
    by false rest = rest

known_either : (xs : List Bytes) (s t : Bytes) → knows (xs ++ s ∷ []) t ≡ true → knows xs t ≡ false → s ≡ t
known_either [] s t h k = by (bytes_eq s t) refl h
  where
    by : (b : Bool) → bytes_eq s t ≡ b → cond b true false ≡ true → s ≡ t
    by true e f = (bytes_eq-decides s t).0 e
    by false e f = absurd (false≢true f)
known_either (x ∷ xs) s t h k = by (bytes_eq x t) h k (λ f g. known_either xs s t f g)
  where
    by : (b : Bool) → cond b true (knows (xs ++ s ∷ []) t) ≡ true → cond b true (knows xs t) ≡ false
        → (knows (xs ++ s ∷ []) t ≡ true → knows xs t ≡ false → s ≡ t) → s ≡ t
    by true f g rest = absurd (false≢true (sym g))
    by false f g rest = rest f g

-- one text more
pub learned_known : (ts : List Bytes) (t : Bytes) → AreKnown ts (learned ts t)
learned_known ts t s h = by (knows ts t)
  where
    by : (b : Bool) → knows (cond b ts (ts ++ t ∷ [])) s ≡ true
    by true = h
    by false = known_front ts (t ∷ []) s h

learned_itself : (ts : List Bytes) (t : Bytes) → knows (learned ts t) t ≡ true
learned_itself ts t = by (knows ts t) refl
  where
    by : (b : Bool) → knows ts t ≡ b → knows (cond b ts (ts ++ t ∷ [])) t ≡ true
    by true e = e
    by false e = known_last ts t

among_learned : (b a : List Bytes) (t : Bytes) → AreKnown b a → AreKnown (learned b t) (learned a t)
among_learned b a t f s h = by (knows b s) refl
  where
    new : (c : Bool) → knows b t ≡ c → knows (cond c b (b ++ t ∷ [])) s ≡ true → knows b s ≡ false
        → knows (learned a t) s ≡ true
    new true e k none = absurd (false≢true (sym none ∙ k))
    new false e k none = subst (λ (r : Bytes). knows (learned a t) r ≡ true) (known_either b t s k none)
        (learned_itself a t)

    by : (c : Bool) → knows b s ≡ c → knows (learned a t) s ≡ true
    by true e = learned_known a t s (f s e)
    by false e = new (knows b t) refl h e

-- all texts of a list more
pub all_known : (ts more : List Bytes) → AreKnown ts (all_learned ts more)
all_known ts [] s h = h
all_known ts (t ∷ more) s h = all_known (learned ts t) more s (learned_known ts t s h)

pub among_all : (b a more : List Bytes) → AreKnown b a → AreKnown (all_learned b more) (all_learned a more)
among_all b a [] f = f
among_all b a (t ∷ more) f = among_all (learned b t) (learned a t) more (among_learned b a t f)

-- A list without repeats whose texts are all known to another is no longer than that.
knows_member : (ts : List Bytes) (t : Bytes) → list_any (bytes_eq t) ts ≡ knows ts t
knows_member [] t = refl
knows_member (s ∷ ts) t = by (bytes_eq s t) refl (knows_member ts t)
  where
    turned : (b : Bool) → bytes_eq s t ≡ b → bytes_eq t s ≡ b
    turned true e = (bytes_eq-decides t s).1 (sym ((bytes_eq-decides s t).0 e))
    turned false e = at (bytes_eq t s) refl
      where
        at : (c : Bool) → bytes_eq t s ≡ c → c ≡ false
        at false f = refl
        at true f = absurd (false≢true (sym e ∙ (bytes_eq-decides s t).1 (sym ((bytes_eq-decides t s).0 f))))

    by : (b : Bool) → bytes_eq s t ≡ b → list_any (bytes_eq t) ts ≡ knows ts t
        → (bytes_eq t s || list_any (bytes_eq t) ts) ≡ cond b true (knows ts t)
    by true e h = ap (λ (c : Bool). c || list_any (bytes_eq t) ts) (turned true e)
    by false e h = ap (λ (c : Bool). c || list_any (bytes_eq t) ts) (turned false e) ∙ h

pub as_many : (b a : List Bytes) → AreKnown b a → AreApart b → length b ≤ length a
as_many b a among once =
    length-le_from_is_member nat_list_eq_equiv b a (IsDistinct-from_AllPairs bytes_eq-decides b once)
    (λ t h. knows_member a t ∙ among t (sym (knows_member b t) ∙ h))

-- the texts that are known grow no shorter
learned_longer : (ts : List Bytes) (t : Bytes) → length ts ≤ length (learned ts t)
learned_longer ts t = by (knows ts t)
  where
    by : (b : Bool) → length ts ≤ length (cond b ts (ts ++ t ∷ []))
    by true = omega arith
    by false = let e = length-append ts (t ∷ []) in omega (arith, e)

all_longer : (ts more : List Bytes) → length ts ≤ length (all_learned ts more)
all_longer ts [] = omega arith
all_longer ts (t ∷ more) = let a = learned_longer ts t in let b = all_longer (learned ts t) more in omega (arith, a, b)

-- Where the texts find a place in a store, they do in one that follows it.
pub room_too : (b a ts : List Bytes) → AreKnown b a → AreApart b → length (all_learned a ts) ≤ TEXTS
    → length (all_learned b ts) ≤ TEXTS
room_too b a ts among once room =
    let k = as_many (all_learned b ts) (all_learned a ts) (among_all b a ts among) (texts_apart b ts once) in omega
    (arith, k, room)

pub place_too : (b a ts new : List Bytes) → AreKnown b a → AreApart b → length (all_learned a ts) ≤ TEXTS
    → FindsNoPlace b ts new → ⊥
place_too b a ts new among once room f =
    let parts : all_learned b ts ≡ all_learned (learned new f.next) f.rest =
    ap (all_learned b) f.parts ∙ learned_append b f.first (f.next ∷ f.rest)
    ∙ ap (λ (k : List Bytes). all_learned (learned k f.next) f.rest) (sym f.learned) in
    let more : learned new f.next ≡ new ++ f.next ∷ [] = ap (λ (c : Bool). cond c new (new ++ f.next ∷ [])) f.unknown in
    let one = length-append new (f.next ∷ []) in
    let longer = all_longer (learned new f.next) f.rest in
    let few = room_too b a ts among once room in
    omega (arith, ap length parts, ap length more, one, longer, few, f.full)

-- what a late refusal leaves known
pub first_known : (ts more new : List Bytes) → LearnsFirst ts more new → AreKnown ts new
first_known ts more new f = subst (λ (k : List Bytes). AreKnown ts k) (sym f.learned) (all_known ts f.first)

pub full_known : (ts more new : List Bytes) → FindsNoPlace ts more new → AreKnown ts new
full_known ts more new f = subst (λ (k : List Bytes). AreKnown ts k) (sym f.learned) (all_known ts f.first)

-- ---- Stores with the same data.

-- ---- relations

pub same_refl : (us : List Relation) → SameRelations us us
same_refl [] = tt
same_refl (a ∷ us) = (refl, refl, IsPermutation-refl a.rows, same_refl us)

pub same_sym : (us bs : List Relation) → SameRelations us bs → SameRelations bs us
same_sym [] [] h = tt
same_sym (a ∷ us) (b ∷ bs) h = (sym h.0, sym h.1, IsPermutation-sym a.rows b.rows h.2, same_sym us bs h.3)
same_sym [] (b ∷ bs) h = absurd h
same_sym (a ∷ us) [] h = absurd h

pub same_trans : (us bs cs : List Relation) → SameRelations us bs → SameRelations bs cs → SameRelations us cs
same_trans [] [] [] h k = tt
same_trans (a ∷ us) (b ∷ bs) (c ∷ cs) h k =
    (k.0 ∙ h.0, k.1 ∙ h.1, IsPermutation-trans a.rows b.rows c.rows h.2 k.2, same_trans us bs cs h.3 k.3)
same_trans [] [] (c ∷ cs) h k = absurd k
same_trans (a ∷ us) (b ∷ bs) [] h k = absurd k
same_trans [] (b ∷ bs) cs h k = absurd h
same_trans (a ∷ us) [] cs h k = absurd h

pub same_more : (us bs : List Relation) (r : Relation) → SameRelations us bs
    → SameRelations (us ++ r ∷ []) (bs ++ r ∷ [])
same_more [] [] r h = (refl, refl, IsPermutation-refl r.rows, tt)
same_more (a ∷ us) (b ∷ bs) r h = (h.0, h.1, h.2, same_more us bs r h.3)
same_more [] (b ∷ bs) r h = absurd h
same_more (a ∷ us) [] r h = absurd h

same_length : (us bs : List Relation) → SameRelations us bs → length bs ≡ length us
same_length [] [] h = refl
same_length (a ∷ us) (b ∷ bs) h = let rest = same_length us bs h.3 in omega (arith, rest)
same_length [] (b ∷ bs) h = absurd h
same_length (a ∷ us) [] h = absurd h

-- the same relation, where one is found
abbrev IsSameFound : Option Relation → Option Relation → Type 0
IsSameFound None None = Unit {0}
IsSameFound (Some a) (Some b) = (b.name ≡ a.name) × (b.types ≡ a.types) × IsPermutation a.rows b.rows
IsSameFound None (Some b) = ⊥
IsSameFound (Some a) None = ⊥

same_found : (us bs : List Relation) (n : Bytes) → SameRelations us bs
    → IsSameFound (relation_of us n) (relation_of bs n)
same_found [] [] n h = tt
same_found (a ∷ us) (b ∷ bs) n h =
    subst (λ (c : Bool). IsSameFound (cond (bytes_eq a.name n) (Some a) (relation_of us n))
    (cond c (Some b) (relation_of bs n)))
    (ap (λ (x : Bytes). bytes_eq x n) (sym h.0)) (by (bytes_eq a.name n) (same_found us bs n h.3))
  where
    by : (c : Bool) → IsSameFound (relation_of us n) (relation_of bs n)
        → IsSameFound (cond c (Some a) (relation_of us n)) (cond c (Some b) (relation_of bs n))
    by true rest = (h.0, h.1, h.2)
    by false rest = rest
same_found [] (b ∷ bs) n h = absurd h
same_found (a ∷ us) [] n h = absurd h

found_some : (o p : Option Relation) → IsSameFound o p → is_some p ≡ is_some o
found_some None None h = refl
found_some (Some a) (Some b) h = refl
found_some None (Some b) h = absurd h
found_some (Some a) None h = absurd h

found_none : (o p : Option Relation) → IsSameFound o p → is_none p ≡ is_none o
found_none None None h = refl
found_none (Some a) (Some b) h = refl
found_none None (Some b) h = absurd h
found_none (Some a) None h = absurd h

found_types : (o p : Option Relation) → IsSameFound o p → types_of p ≡ types_of o
found_types None None h = refl
found_types (Some a) (Some b) h = h.1
found_types None (Some b) h = absurd h
found_types (Some a) None h = absurd h

-- no row twice in any of them, in any order
pub once_moved : (us bs : List Relation) → SameRelations us bs → All HasRowsOnce us → All HasRowsOnce bs
once_moved [] [] h once = once
once_moved (a ∷ us) (b ∷ bs) h once =
    All-cons HasRowsOnce b bs
    (differ_moved (tuples_in a) (tuples_in b) (tuples_moved a.rows b.rows h.2) (All-head HasRowsOnce a us once))
    (once_moved us bs h.3 (All-tail HasRowsOnce a us once))
once_moved [] (b ∷ bs) h once = absurd h
once_moved (a ∷ us) [] h once = absurd h

-- in the one of a name
once_found : (us : List Relation) (n : Bytes) (o : Option Relation) → relation_of us n ≡ o → All HasRowsOnce us
    → AreDifferent (plain_of (counted_in o))
once_found us n None e once = nothing_apart (λ (s t : Tuple). s ≡ t → ⊥)
once_found us n (Some a) e once = all_found HasRowsOnce (λ (r : Relation). bytes_eq r.name n) us a once e

pub rows_once : (us : List Relation) (n : Bytes) → All HasRowsOnce us → AreDifferent (rows_of us n)
rows_once us n once = once_found us n (relation_of us n) refl once

-- with other rows in one of them
pub once_with : (us : List Relation) (n : Bytes) (rows : List CountedRow) → AreDifferent (plain_of rows)
    → All HasRowsOnce us → All HasRowsOnce (with_rows us n rows)
once_with us n rows differ once =
    all_changed HasRowsOnce (λ (r : Relation). bytes_eq r.name n) (λ (r : Relation). record r { rows = rows }) us once
    (λ x found k. differ)

-- other rows in one of them
pub same_with : (us bs : List Relation) (n : Bytes) (xs ys : List CountedRow) → IsPermutation xs ys
    → SameRelations us bs → SameRelations (with_rows us n xs) (with_rows bs n ys)
same_with [] [] n xs ys p h = tt
same_with (a ∷ us) (b ∷ bs) n xs ys p h =
    subst (λ (c : Bool). SameRelations (with_rows (a ∷ us) n xs)
    (cond c (record b { rows = ys } ∷ bs) (b ∷ with_rows bs n ys)))
    (ap (λ (x : Bytes). bytes_eq x n) (sym h.0)) (by (bytes_eq a.name n) (same_with us bs n xs ys p h.3))
  where
    by : (c : Bool) → SameRelations (with_rows us n xs) (with_rows bs n ys)
        → SameRelations (cond c (record a { rows = xs } ∷ us) (a ∷ with_rows us n xs))
        (cond c (record b { rows = ys } ∷ bs) (b ∷ with_rows bs n ys))
    by true rest = (h.0, h.1, p, h.3)
    by false rest = (h.0, h.1, h.2, rest)
same_with [] (b ∷ bs) n xs ys p h = absurd h
same_with (a ∷ us) [] n xs ys p h = absurd h

-- ---- conditions

abbrev rel_by : Bool → ℕ → List ColumnType → Option Refusal
rel_by taken long types = first_refusal
    ((taken, Taken) ∷ (nat_lt COLUMNS (length types), Limit) ∷ (nat_le RELATIONS long, Limit) ∷ [])

pub rel_same : (a b : Store) (n : Bytes) (types : List ColumnType) → IsSameStore a b → rel_refusal b n types
    ≡ rel_refusal a n types
rel_same a b n types h =
    ap (λ (t : Bool). rel_by t (length b.relations) types)
    (found_some _ _ (same_found a.relations b.relations n h.relations))
    ∙ ap (λ (k : ℕ). rel_by (is_some (relation_of a.relations n)) k types)
    (same_length a.relations b.relations h.relations)

-- the rows of a relation, and the copies of each
module _ (a b : Store) (n : Bytes) (row : Tuple) (f : StoreFollows a b) where
  pub moved : IsPermutation (counted_of a.relations n) (counted_of b.relations n)
  moved = reordered_counted a.relations b.relations n f.same.relations

  pub before_once : AreDifferent (rows_of a.relations n)
  before_once =
      differ_moved (rows_of b.relations n) (rows_of a.relations n)
      (IsPermutation-sym (rows_of a.relations n) (rows_of b.relations n)
      (reordered_rows a.relations b.relations n f.same.relations))
      (rows_once b.relations n f.rows)

  pub same_has : has_row (rows_of b.relations n) row ≡ has_row (rows_of a.relations n) row
  same_has = has_moved (rows_of a.relations n) (rows_of b.relations n) row
      (reordered_rows a.relations b.relations n f.same.relations)

  pub same_copies : copies_of b n row ≡ copies_of a n row
  same_copies = copies_moved (counted_of a.relations n) (counted_of b.relations n) row before_once moved

pub followers_have_copies : FollowersHaveCopies
followers_have_copies a b f n row = same_copies a b n row f

-- why a row doesn't suit a relation, and what else refuses it
abbrev row_by : Bool → List ColumnType → Tuple → List (Bool × Refusal) → Option Refusal
row_by none types row more = first_refusal (
    (none, NoRelation)
    ∷ (not (length row == length types), Arity)
    ∷ (not (fits types row), WrongType)
    ∷ more)

row_same : (a b : Store) (n : Bytes) (row : Tuple) (more : List (Bool × Refusal)) → StoreFollows a b
    → row_by (is_none (relation_of b.relations n)) (types_of (relation_of b.relations n)) row more
    ≡ row_by (is_none (relation_of a.relations n)) (types_of (relation_of a.relations n)) row more
row_same a b n row more h =
    let f = same_found a.relations b.relations n h.same.relations in
    ap (λ (x : Bool). row_by x (types_of (relation_of b.relations n)) row more) (found_none _ _ f)
    ∙ ap (λ (x : List ColumnType). row_by (is_none (relation_of a.relations n)) x row more) (found_types _ _ f)

abbrev add_more : ℕ → Bool → ℕ → ℕ → List (Bool × Refusal)
add_more copies has long seq =
    (nat_le COPIES copies, Limit)
    ∷ (not has && nat_le ROWS long, Limit)
    ∷ (not has && nat_le LAST_SEQ seq, Limit)
    ∷ []

-- what else refuses a copy more
module _ (a b : Store) (n : Bytes) (row : Tuple) (h : StoreFollows a b) where
  abbrev more_in : Store → List (Bool × Refusal)
  more_in st = let rows = rows_of st.relations n in
      add_more (copies_of st n row) (has_row rows row) (length rows) st.seq

  more_same : more_in b ≡ more_in a
  more_same =
      let has = has_row (rows_of b.relations n) row in
      let long = length (rows_of b.relations n) in
      ap (λ (x : ℕ). add_more x has long b.seq) (same_copies a b n row h)
      ∙ ap (λ (x : Bool). add_more (copies_of a n row) x long b.seq) (same_has a b n row h)
      ∙ ap (λ (x : ℕ). add_more (copies_of a n row) (has_row (rows_of a.relations n) row) x b.seq)
      (length_permutation (rows_of a.relations n) (rows_of b.relations n)
      (reordered_rows a.relations b.relations n h.same.relations))
      ∙ ap (λ (x : ℕ).
      add_more (copies_of a n row) (has_row (rows_of a.relations n) row) (length (rows_of a.relations n)) x)
      h.same.seq

  pub add_same : add_refusal b n row ≡ add_refusal a n row
  add_same =
      let left = relation_of a.relations n in
      row_same a b n row (more_in b) h
      ∙ ap (λ (x : List (Bool × Refusal)). row_by (is_none left) (types_of left) row x) more_same

  -- so of a line that a batch is to hold
  pub hold_same : (held : HeldTransaction) (l : Bytes) → hold_refusal b held l n row ≡ hold_refusal a held l n row
  hold_same held l = row_same a b n row ((not (has_room held (length l)), Limit) ∷ []) h

abbrev delete_more : ℕ → ℕ → List (Bool × Refusal)
delete_more copies seq = ((copies == 1) && nat_le LAST_SEQ seq, Limit) ∷ []

pub delete_same : (a b : Store) (n : Bytes) (row : Tuple) → StoreFollows a b
    → delete_refusal b n row ≡ delete_refusal a n row
delete_same a b n row h =
    let left = relation_of a.relations n in
    let by : List (Bool × Refusal) → Option Refusal = row_by (is_none left) (types_of left) row in
    row_same a b n row (delete_more (copies_of b n row) b.seq) h
    ∙ ap (λ (x : ℕ). by (delete_more x b.seq)) (same_copies a b n row h)
    ∙ ap (λ (x : ℕ). by (delete_more (copies_of a n row) x)) h.same.seq

-- the faults of a query
any_same : {A : Type 0} (p q : A → Bool) (xs : List A) → ((x : A) → p x ≡ q x) → list_any p xs ≡ list_any q xs
any_same p q [] h = refl
any_same p q (x ∷ xs) h = ap (λ (b : Bool). b || list_any p xs) (h x) ∙ ap (λ (b : Bool). q x || b) (any_same p q xs h)

any_column_same : (p q : Term → ColumnType → Bool) (ts : List Term) (cs : List ColumnType)
    → ((t : Term) (c : ColumnType) → p t c ≡ q t c)
    → any_column p ts cs ≡ any_column q ts cs
any_column_same p q [] cs h = refl
any_column_same p q (t ∷ ts) [] h = refl
any_column_same p q (t ∷ ts) (c ∷ cs) h =
    ap (λ (b : Bool). b || any_column p ts cs) (h t c) ∙ ap (λ (b : Bool). q t c || b) (any_column_same p q ts cs h)

module _ (us bs : List Relation) (h : SameRelations us bs) where
  columns_same : (n : Bytes) → columns_of bs n ≡ columns_of us n
  columns_same n = found_types _ _ (same_found us bs n h)

  any_place_same : (p q : Term → ColumnType → Bool) (atoms : List Atom) → ((t : Term) (c : ColumnType) → p t c ≡ q t c)
      → any_place p bs atoms ≡ any_place q us atoms
  any_place_same p q atoms k =
      any_same (λ (a : Atom). any_column p a.terms (columns_of bs a.relation))
      (λ (a : Atom). any_column q a.terms (columns_of us a.relation)) atoms
      (λ a. ap (any_column p a.terms) (columns_same a.relation)
      ∙ any_column_same p q a.terms (columns_of us a.relation) k)

  unknown_same : (q : Query) → reads_unknown bs q ≡ reads_unknown us q
  unknown_same q = any_same (λ (a : Atom). is_none (relation_of bs a.relation))
      (λ (a : Atom). is_none (relation_of us a.relation)) q.atoms
      (λ a. found_none _ _ (same_found us bs a.relation h))

  arity_same : (q : Query) → has_wrong_arity bs q ≡ has_wrong_arity us q
  arity_same q = any_same (λ (a : Atom). not (length a.terms == length (columns_of bs a.relation)))
      (λ (a : Atom). not (length a.terms == length (columns_of us a.relation))) q.atoms
      (λ a. ap (λ (cs : List ColumnType). not (length a.terms == length cs)) (columns_same a.relation))

  misfit_same : (q : Query) → has_misfit bs q ≡ has_misfit us q
  misfit_same q = any_place_same is_misfit is_misfit q.atoms (λ t c. refl)

  clash_same : (q : Query) → has_clash bs q ≡ has_clash us q
  clash_same q = any_place_same (λ t c. any_place (is_clash t c) bs q.atoms)
      (λ t c. any_place (is_clash t c) us q.atoms) q.atoms
      (λ t c. any_place_same (is_clash t c) (is_clash t c) q.atoms (λ u d. refl))

  miscompared_same : (q : Query) → has_miscompared bs q ≡ has_miscompared us q
  miscompared_same q =
      any_same (λ (c : Comparison). any_place (is_miscompared c) bs q.atoms)
      (λ (c : Comparison). any_place (is_miscompared c) us q.atoms) q.comparisons
      (λ c. any_place_same (is_miscompared c) (is_miscompared c) q.atoms (λ t d. refl))

  -- the types of its answers
  variable_same : (atoms : List Atom) (x : Bytes) → variable_type bs atoms x ≡ variable_type us atoms x
  variable_same [] x = refl
  variable_same (a ∷ more) x =
      ap₂ (λ (cs : List ColumnType) (rest : ColumnType). unwrap_or (type_among cs a.terms x) rest)
      (columns_same a.relation) (variable_same more x)

  answers_same : (q : Query) → answer_types bs q ≡ answer_types us q
  answers_same q = over q.head
    where
      over : (xs : List Bytes) → map (variable_type bs q.atoms) xs ≡ map (variable_type us q.atoms) xs
      over [] = refl
      over (x ∷ xs) =
          ap₂ (λ (c : ColumnType) (cs : List ColumnType). c ∷ cs) (variable_same q.atoms x) (over xs)

  listed_types_same : (o : Option Listed) → listed_types bs o ≡ listed_types us o
  listed_types_same None = refl
  listed_types_same (Some (a_query q)) = answers_same q
  listed_types_same (Some (a_union name [])) = refl
  listed_types_same (Some (a_union name (q ∷ qs))) = answers_same q

abbrev query_by : List Listed → Bool → Bool → Bool → Bool → Bool → Query → Option Refusal
query_by queries unknown arity misfits clash miscompared q = first_refusal (
    (is_some (listed_of queries q.name), Taken)
    ∷ (unknown, NoRelation)
    ∷ (arity, Arity)
    ∷ (misfits, WrongType)
    ∷ (clash, VariableType)
    ∷ (compares_unbound q, Unbound)
    ∷ (miscompared, WrongType)
    ∷ (repeats_head q, HeadRepeated)
    ∷ (has_unbound_head q, HeadUnbound)
    ∷ (is_too_large q, Limit)
    ∷ (nat_le QUERIES (length queries), Limit)
    ∷ [])

pub query_same : (a b : Store) (q : Query) → IsSameStore a b → query_refusal b q ≡ query_refusal a q
query_same a b q h =
    let us = a.relations in
    let bs = b.relations in
    ap (λ (qs : List Listed). query_by qs (reads_unknown bs q) (has_wrong_arity bs q) (has_misfit bs q) (has_clash bs q)
    (has_miscompared bs q) q) h.queries
    ∙ ap (λ (x : Bool). query_by a.queries x (has_wrong_arity bs q) (has_misfit bs q) (has_clash bs q)
    (has_miscompared bs q) q) (unknown_same us bs h.relations q)
    ∙ ap (λ (x : Bool). query_by a.queries (reads_unknown us q) x (has_misfit bs q) (has_clash bs q)
    (has_miscompared bs q) q) (arity_same us bs h.relations q)
    ∙ ap (λ (x : Bool). query_by a.queries (reads_unknown us q) (has_wrong_arity us q) x (has_clash bs q)
    (has_miscompared bs q) q) (misfit_same us bs h.relations q)
    ∙ ap (λ (x : Bool). query_by a.queries (reads_unknown us q) (has_wrong_arity us q) (has_misfit us q) x
    (has_miscompared bs q) q) (clash_same us bs h.relations q)
    ∙ ap (λ (x : Bool). query_by a.queries (reads_unknown us q) (has_wrong_arity us q) (has_misfit us q)
    (has_clash us q)
    x q) (miscompared_same us bs h.relations q)

-- the conditions of a union
under_same : (a b : Store) → IsSameStore a b → (n : Bytes) → types_under b n ≡ types_under a n
under_same a b h n =
    ap (λ (qs : List Listed). listed_types b.relations (listed_of qs n)) h.queries
    ∙ listed_types_same a.relations b.relations h.relations (listed_of a.queries n)

differ_same : (a b : Store) → IsSameStore a b → (ns : List Bytes) → types_differ b ns ≡ types_differ a ns
differ_same a b h [] = refl
differ_same a b h (n ∷ ns) =
    any_same (λ (m : Bytes). not (same_types (types_under b n) (types_under b m)))
    (λ (m : Bytes). not (same_types (types_under a n) (types_under a m))) ns
    (λ m. ap₂ (λ (cs ds : List ColumnType). not (same_types cs ds)) (under_same a b h n) (under_same a b h m))

abbrev union_by : List Listed → Bool → Bytes → List Bytes → Option Refusal
union_by queries differ name members = first_refusal (
    (is_some (listed_of queries name), Taken)
    ∷ (list_any (λ n. is_none (listed_of queries n)) members, NoQuery)
    ∷ (stands_twice members || list_any (λ n. is_union (listed_of queries n)) members || differ, Member)
    ∷ (nat_lt MEMBERS (length members), Limit)
    ∷ (nat_le QUERIES (length queries), Limit)
    ∷ [])

pub union_same : (a b : Store) (name : Bytes) (members : List Bytes) → IsSameStore a b
    → union_refusal b name members ≡ union_refusal a name members
union_same a b name members h =
    ap (λ (qs : List Listed). union_by qs (types_differ b members) name members) h.queries
    ∙ ap (λ (differ : Bool). union_by a.queries differ name members) (differ_same a b h members)
