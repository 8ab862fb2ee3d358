-- The answers of a query, each from a choice of rows, and how they follow rows.
use Rattle.std.specs.Prelude.{ℕ, suc, List, [], ◌∷◌, ◌≡◌, ◌+◌, ◌*◌, ◌≤◌, ◌++◌, ◌⊎◌, Bool, true, false, cond, pos}
use Rattle.std.specs.Prelude.{length, map, All, Any, Contains, Option, None, Some, option_map}
use Rattle.std.proofs.Common.{refl, sym, ap, ap₂, ◌∙◌, subst, inl, inr, length-append, arith}
use Rattle.std.proofs.lemmas.List.{length-map}
use Rattle.std.proofs.lemmas.List.Elements.{All-head, All-tail, All-weaker, All-contains, Contains-append_left}
use Rattle.std.proofs.lemmas.List.Elements.{Contains-append_right, All-nil, All-cons}
use Rattle.std.specs.List.{list_any, slice_index_or}
use Rattle.std.proofs.lemmas.Bool.{or_parts}
use Rattle.djq_model.specs.declared.value.Value.{Value}
use Rattle.djq_model.specs.declared.value.Value.TheVariants.{Int}
use Rattle.djq_model.specs.declared.relation.Relation.{Relation}
use Rattle.djq_model.specs.declared.query.Query.{Query}
use Rattle.djq_model.specs.declared.query.Atom.{Atom}
use Rattle.djq_model.specs.declared.query.Term.{Term}
use Rattle.djq_model.specs.declared.query.Term.TheVariants.{Variable, Hole, Constant}
use Rattle.djq_model.specs.declared.relation.CountedRow.{CountedRow}
use Rattle.djq_model.specs.Data.{Bytes, Tuple, bytes_eq, tuple_eq, rows_of, drop_first, relation_of, plain_of}
use Rattle.djq_model.specs.Data.{counted_in, counted_of, without_row, with_row, without_copies}
use Rattle.djq_model.specs.Answer.{Assignment, StandForAll, Satisfies, IsAnswer, AreDifferent}
use Rattle.djq_model.specs.Listed.{a_query, a_union, AnswersOf}
use Rattle.djq_model.specs.Equality.{bytes_eq-decides, tuple_eq-decides}
use Rattle.djq_model.proofs.Copies.{tuples_with_row, tuples_without}
use Rattle.djq_protocol.specs.declared.answer.Sign.{Sign}
use Rattle.djq_protocol.specs.declared.answer.Sign.TheVariants.{Came, Went}
use Rattle.djq_store_spec.specs.Relations.{with_rows}
use Rattle.djq_store_spec.specs.Delta.{HasChanged}
use Rattle.djq_store_spec.proofs.Relations.{relation_here, rows_apart}
use Rattle.djq_answer_laws.specs.Bounded.{choices, all_choices as choices_of_all, AnswersAreBounded}
use Rattle.djq_answer_laws.specs.Finite.{IsBound}
use Rattle.djq_answer_laws.specs.Growing.{HaveRows, AnswersStay, AnswersCome, AnswersGo, RowComes, RowGoes}
use Rattle.djq_answer_laws.specs.Growing.{ChangesSpareOthers, AnswersRest}
use Rattle.djq_answer_laws.proofs.Lists.{nothing_there, first_or_later, first_there, later_there, mapped_there}
use Rattle.djq_answer_laws.proofs.Lists.{pairs_head, pairs_tail, hold_each, some_one, one_there}

-- ---- The answers of a query, each from a choice of a row for each atom.

-- A list of different tuples that another contains is no longer.
without : List Tuple → Tuple → List Tuple
without us t = drop_first (λ u. tuple_eq u t) us

one_less : (us : List Tuple) (t : Tuple) → Contains us t → length us ≡ suc (length (without us t))
unfolding without
one_less [] t h = absurd (nothing_there t h)
one_less (u ∷ us) t h = step (tuple_eq u t) refl (first_or_later u us t h) (λ k. one_less us t k)
  where
    step : (b : Bool) → tuple_eq u t ≡ b → (u ≡ t) ⊎ Contains us t
        → (Contains us t → length us ≡ suc (length (without us t)))
        → suc (length us) ≡ suc (length (cond b us (u ∷ without us t)))
    step true e o more = refl
    step false e (inl same) more = let so : tuple_eq u t ≡ true = (tuple_eq-decides u t).1 same in absurd (cc (so, e))
    step false e (inr k) more = ap suc (more k)

others_there : (us : List Tuple) (t s : Tuple) → Contains us s → (t ≡ s → ⊥) → Contains (without us t) s
unfolding without
others_there [] t s h apart = absurd (nothing_there s h)
others_there (u ∷ us) t s h apart = step (tuple_eq u t) refl (first_or_later u us s h)
    (λ k. others_there us t s k apart)
  where
    step : (b : Bool) → tuple_eq u t ≡ b → (u ≡ s) ⊎ Contains us s → (Contains us s → Contains (without us t) s)
        → Contains (cond b us (u ∷ without us t)) s
    step true e (inl same) more = absurd (apart (sym ((tuple_eq-decides u t).0 e) ∙ same))
    step true e (inr k) more = k
    step false e (inl same) more = first_there u (without us t) s same
    step false e (inr k) more = later_there u (without us t) s (more k)

fewer : (ts us : List Tuple) → AreDifferent ts → All (Contains us) ts → length ts ≤ length us
fewer [] us differ there = omega arith
fewer (t ∷ ts) us differ there =
    let apart = pairs_head (λ (r s : Tuple). r ≡ s → ⊥) t ts differ in
    let rest = fewer ts (without us t) (pairs_tail (λ (r s : Tuple). r ≡ s → ⊥) t ts differ)
    (hold_each (Contains (without us t)) ts
    (λ s k. others_there us t s (All-contains (Contains us) ts s (All-tail (Contains us) t ts there) k)
    (All-contains (λ (r : Tuple). t ≡ r → ⊥) ts s apart k))) in
    omega (arith, rest, one_less us t (All-head (Contains us) t ts there))

-- The value of a variable, by the row that was chosen for the first atom where it stands.
value_in : List Term → Tuple → Bytes → Value → Value
value_in (Variable y ∷ ts) (v ∷ vs) x other = cond (bytes_eq y x) v (value_in ts vs x other)
value_in (Hole ∷ ts) (v ∷ vs) x other = value_in ts vs x other
value_in (Constant c ∷ ts) (v ∷ vs) x other = value_in ts vs x other
value_in [] vs x other = other
value_in (t ∷ ts) [] x other = other

value_of : List Atom → List Tuple → Assignment
value_of (m ∷ ms) (r ∷ rs) x = value_in m.terms r x (value_of ms rs x)
value_of [] rs x = Int (pos 0)
value_of (m ∷ ms) [] x = Int (pos 0)

-- Where an assignment has it behind this atom, it has it in front of that.
still_so : (a : Assignment) (ts : List Term) (vs : Tuple) (x : Bytes) (other : Value) → StandForAll a ts vs → other
    ≡ a x → value_in ts vs x other ≡ a x
unfolding value_in
still_so a [] vs x other h e = e
still_so a (t ∷ ts) [] x other h e = absurd h
still_so a (Hole ∷ ts) (v ∷ vs) x other h e = still_so a ts vs x other h.1 e
still_so a (Constant c ∷ ts) (v ∷ vs) x other h e = still_so a ts vs x other h.1 e
still_so a (Variable y ∷ ts) (v ∷ vs) x other h e = step (bytes_eq y x) refl (still_so a ts vs x other h.1 e)
  where
    step : (b : Bool) → bytes_eq y x ≡ b → value_in ts vs x other ≡ a x → cond b v (value_in ts vs x other) ≡ a x
    step true same more = sym h.0 ∙ ap a ((bytes_eq-decides y x).0 same)
    step false same more = more

-- the value of a variable that stands among the terms
so_there : (a : Assignment) (ts : List Term) (vs : Tuple) (x : Bytes) (other : Value) → StandForAll a ts vs
    → Contains ts (Variable x) → value_in ts vs x other ≡ a x
unfolding value_in
so_there a [] vs x other h k = absurd (nothing_there (Variable x) k)
so_there a (t ∷ ts) [] x other h k = absurd h
so_there a (Hole ∷ ts) (v ∷ vs) x other h k = step (first_or_later Hole ts (Variable x) k)
    (λ d. so_there a ts vs x other h.1 d)
  where
    step : (Hole ≡ Variable x) ⊎ Contains ts (Variable x) → (Contains ts (Variable x) → value_in ts vs x other ≡ a x)
        → value_in ts vs x other ≡ a x
    step (inl e) more = absurd cc
    step (inr d) more = more d
so_there a (Constant c ∷ ts) (v ∷ vs) x other h k = step (first_or_later (Constant c) ts (Variable x) k)
    (λ d. so_there a ts vs x other h.1 d)
  where
    step : (Constant c ≡ Variable x) ⊎ Contains ts (Variable x)
        → (Contains ts (Variable x) → value_in ts vs x other ≡ a x) → value_in ts vs x other ≡ a x
    step (inl e) more = absurd cc
    step (inr d) more = more d
so_there a (Variable y ∷ ts) (v ∷ vs) x other h k = step (bytes_eq y x) refl
    (first_or_later (Variable y) ts (Variable x) k) (λ d. so_there a ts vs x other h.1 d)
  where
    named : Variable y ≡ Variable x → y ≡ x
    named e = cc

    step : (b : Bool) → bytes_eq y x ≡ b → (Variable y ≡ Variable x) ⊎ Contains ts (Variable x)
        → (Contains ts (Variable x) → value_in ts vs x other ≡ a x)
        → cond b v (value_in ts vs x other) ≡ a x
    step true same o more = sym h.0 ∙ ap a ((bytes_eq-decides y x).0 same)
    step false same (inl e) more = let so : bytes_eq y x
        ≡ true = (bytes_eq-decides y x).1 (named e) in absurd (cc (so, same))
    step false same (inr d) more = more d

-- A row was chosen for each atom.
AreChosen : Assignment → List Atom → List Tuple → Type 0
AreChosen a [] [] = Unit {0}
AreChosen a (m ∷ ms) (r ∷ rs) = StandForAll a m.terms r × AreChosen a ms rs
AreChosen a [] (r ∷ rs) = ⊥
AreChosen a (m ∷ ms) [] = ⊥

value_is : (a : Assignment) (ms : List Atom) (rs : List Tuple) (m : Atom) (x : Bytes) → AreChosen a ms rs
    → Contains ms m → Contains m.terms (Variable x)
    → value_of ms rs x ≡ a x
unfolding value_of AreChosen
value_is a [] rs m x h k c = absurd (nothing_there m k)
value_is a (n ∷ ms) [] m x h k c = absurd h
value_is a (n ∷ ms) (r ∷ rs) m x h k c = step (first_or_later n ms m k) (λ d. value_is a ms rs m x h.1 d c)
  where
    step : (n ≡ m) ⊎ Contains ms m → (Contains ms m → value_of ms rs x ≡ a x) → value_in n.terms r x (value_of ms rs x)
        ≡ a x
    step (inl e) more = so_there a n.terms r x (value_of ms rs x) h.0
        (subst (λ (o : Atom). Contains o.terms (Variable x)) (sym e) c)
    step (inr d) more = still_so a n.terms r x (value_of ms rs x) h.0 (more d)

-- All choices.
each : {A B : Type 0} → (A → List B) → List A → List B
each f [] = []
each f (v ∷ vs) = f v ++ each f vs

each_there : {A B : Type 0} (f : A → List B) (vs : List A) (v : A) (t : B) → Contains vs v → Contains (f v) t
    → Contains (each f vs) t
unfolding each
each_there f [] v t k c = absurd (nothing_there v k)
each_there {A = A} f (w ∷ vs) v t k c = step (first_or_later w vs v k) (λ d. each_there f vs v t d c)
  where
    step : (w ≡ v) ⊎ Contains vs v → (Contains vs v → Contains (each f vs) t) → Contains (f w ++ each f vs) t
    step (inl e) more = Contains-append_left (f w) (each f vs) t (subst (λ (u : A). Contains (f u) t) (sym e) c)
    step (inr d) more = Contains-append_right (f w) (each f vs) t (more d)

one_more : (n k : ℕ) → n + k * n ≡ suc k * n
one_more n k = omega arith

each_length : {A B : Type 0} (f : A → List B) (n : ℕ) → ((v : A) → length (f v) ≡ n) → (vs : List A)
    → length (each f vs) ≡ length vs * n
unfolding each
each_length f n are [] = omega arith
each_length f n are (v ∷ vs) = length-append (f v) (each f vs)
    ∙ ap₂ (λ (i j : ℕ). i + j) (are v) (each_length f n are vs) ∙ one_more n (length vs)

all_choices : List Relation → List Atom → List (List Tuple)
all_choices relations [] = [] ∷ []
all_choices relations (m ∷ ms) = each (λ (r : Tuple). map (λ (rs : List Tuple). r ∷ rs) (all_choices relations ms))
    (rows_of relations m.relation)

so_many : (relations : List Relation) (ms : List Atom) → length (all_choices relations ms) ≡ choices relations ms
unfolding all_choices
so_many relations [] = refl
so_many relations (m ∷ ms) = each_length (λ (r : Tuple). map (λ (rs : List Tuple). r ∷ rs) (all_choices relations ms))
    (choices relations ms)
    (λ r. length-map (all_choices relations ms) (λ (rs : List Tuple). r ∷ rs) ∙ so_many relations ms)
    (rows_of relations m.relation)

record Chosen (relations : List Relation) (a : Assignment) (ms : List Atom) : Type 0 where
  rows : List Tuple
  there : Contains (all_choices relations ms) rows
  are : AreChosen a ms rows

chosen : (relations : List Relation) (a : Assignment) (ms : List Atom) → All (Satisfies relations a) ms
    → Chosen relations a ms
unfolding all_choices AreChosen
chosen relations a [] h = record { rows = []; there = first_there [] [] [] refl; are = tt }
chosen relations a (m ∷ ms) h =
    let s = All-head (Satisfies relations a) m ms h in
    let more = chosen relations a ms (All-tail (Satisfies relations a) m ms h) in
    record {
      rows = s.row ∷ more.rows;
      there = each_there (λ (r : Tuple). map (λ (rs : List Tuple). r ∷ rs) (all_choices relations ms))
          (rows_of relations m.relation) s.row (s.row ∷ more.rows) s.is_there
          (mapped_there (λ (rs : List Tuple). s.row ∷ rs) (all_choices relations ms) more.rows more.there);
      are = (s.stands, more.are);
    }

-- The answer of each choice.
same_values : (a b : Assignment) (xs : List Bytes) → ((x : Bytes) → Contains xs x → a x ≡ b x) → map a xs ≡ map b xs
same_values a b [] same = refl
same_values a b (x ∷ xs) same = ap₂ (λ (v : Value) (vs : Tuple). v ∷ vs) (same x (first_there x xs x refl))
    (same_values a b xs (λ y k. same y (later_there x xs y k)))

answer_of : Query → List Tuple → Tuple
answer_of q rows = map (value_of q.atoms rows) q.head

is_there_choosing : (relations : List Relation) (q : Query) → IsBound q → (t : Tuple) → IsAnswer relations q t
    → Contains (map (answer_of q) (all_choices relations q.atoms)) t
unfolding answer_of
is_there_choosing relations q bound t h =
    let c = chosen relations h.assignment q.atoms h.satisfies in
    let same : answer_of q c.rows ≡ t =
    same_values (value_of q.atoms c.rows) h.assignment q.head
    (λ x k. let m = bound x k in value_is h.assignment q.atoms c.rows m.0 x c.are m.1 m.2) ∙ sym h.on_head in
    subst (λ (u : Tuple). Contains (map (answer_of q) (all_choices relations q.atoms)) u) same
    (mapped_there (answer_of q) (all_choices relations q.atoms) c.rows c.there)

-- the answers of all choices, and those of queries together
chosen_answers : List Relation → Query → List Tuple
chosen_answers relations q = map (answer_of q) (all_choices relations q.atoms)

so_many_answers : (relations : List Relation) (q : Query)
    → length (chosen_answers relations q) ≡ choices relations q.atoms
unfolding chosen_answers
so_many_answers relations q = length-map (all_choices relations q.atoms) (answer_of q) ∙ so_many relations q.atoms

so_many_of_all : (relations : List Relation) (qs : List Query)
    → length (each (chosen_answers relations) qs) ≡ choices_of_all relations qs
unfolding each
so_many_of_all relations [] = refl
so_many_of_all relations (q ∷ qs) = length-append (chosen_answers relations q) (each (chosen_answers relations) qs)
    ∙ ap₂ (λ (i j : ℕ). i + j) (so_many_answers relations q) (so_many_of_all relations qs)

-- Different answers that are all among so many are no more.
no_more : (Answer : Tuple → Type 0) (all : List Tuple) (n : ℕ) → length all ≡ n
    → ((t : Tuple) → Answer t → Contains all t)
    → (ts : List Tuple) → AreDifferent ts → All Answer ts → length ts ≤ n
no_more Answer all n count there ts differ answers =
    subst (λ (m : ℕ). length ts ≤ m) count (fewer ts all differ (All-weaker Answer (Contains all) there ts answers))

pub answers_are_bounded : AnswersAreBounded
unfolding chosen_answers
answers_are_bounded relations (a_query q) bound =
    no_more (IsAnswer relations q) (chosen_answers relations q) (choices relations q.atoms)
    (so_many_answers relations q) (is_there_choosing relations q bound)
answers_are_bounded relations (a_union name qs) bound =
    no_more (λ t. Any (λ (q : Query). IsAnswer relations q t) qs) (each (chosen_answers relations) qs)
    (choices_of_all relations qs) (so_many_of_all relations qs)
    (λ t h. let o = some_one (λ (q : Query). IsAnswer relations q t) qs h in
    each_there (chosen_answers relations) qs o.0 t o.1
    (is_there_choosing relations o.0 (All-contains IsBound qs o.0 bound o.1) t o.2))

-- ---- Where rows only come, each answer stays one; where they only go, none comes.

-- ---- answers over more rows

query_stays : (few many : List Relation) (q : Query) (t : Tuple) → HaveRows few many → IsAnswer few q t
    → IsAnswer many q t
query_stays few many q t more h = record {
  assignment = h.assignment;
  satisfies = λ k d lt.
      let s = h.satisfies k d lt in
      let a = slice_index_or q.atoms k d in
      record { row = s.row; is_there = more a.relation s.row s.is_there; stands = s.stands };
  compared = h.compared;
  on_head = h.on_head;
}

pub answer_stays : AnswersStay
answer_stays few many (a_query q) t more h = query_stays few many q t more h
answer_stays few many (a_union name qs) t more h =
    let o = some_one (λ (q : Query). IsAnswer few q t) qs h in
    one_there (λ (q : Query). IsAnswer many q t) qs o.0 o.1 (query_stays few many o.0 t more o.2)

pub answers_come : AnswersCome
answers_come before after q changes more d =
    All-weaker (λ c. HasChanged (AnswersOf before q) (AnswersOf after q) c.sign c.answer) (λ c. c.sign ≡ Came)
    (λ c h. by c.sign c.answer h) changes d.changed
  where
    by : (s : Sign) (t : Tuple) → HasChanged (AnswersOf before q) (AnswersOf after q) s t → s ≡ Came
    by Came t h = refl
    by Went t h = absurd (h.1 (answer_stays before after q t more h.0))

pub answers_go : AnswersGo
answers_go before after q changes more d =
    All-weaker (λ c. HasChanged (AnswersOf before q) (AnswersOf after q) c.sign c.answer) (λ c. c.sign ≡ Went)
    (λ c h. by c.sign c.answer h) changes d.changed
  where
    by : (s : Sign) (t : Tuple) → HasChanged (AnswersOf before q) (AnswersOf after q) s t → s ≡ Went
    by Came t h = absurd (h.1 (answer_stays after before q t more h.0))
    by Went t h = refl

-- ---- rows that come, and rows that go

-- a relation has more rows
more_rows : (rs : List Relation) (name : Bytes) (rows : List CountedRow)
    → ((row : Tuple) → Contains (rows_of rs name) row → Contains (plain_of rows) row)
    → HaveRows rs (with_rows rs name rows)
more_rows rs name rows more n row h = by (bytes_eq n name) refl
  where
    -- there are rows only where there is a relation
    here : (o : Option Relation) → Contains (plain_of (counted_in o)) row → Contains (plain_of rows) row
        → Contains (plain_of (counted_in (option_map (λ (r : Relation). record r { rows = rows }) o))) row
    here None k c = absurd (nothing_there row k)
    here (Some r) k c = c

    by : (b : Bool) → bytes_eq n name ≡ b → Contains (rows_of (with_rows rs name rows) n) row
    by true e =
        let same : n ≡ name = (bytes_eq-decides n name).0 e in
        let k : Contains (rows_of rs name) row = subst (λ (m : Bytes). Contains (rows_of rs m) row) same h in
        subst (λ (m : Bytes). Contains (rows_of (with_rows rs name rows) m) row) (sym same)
        (subst (λ (o : Option Relation). Contains (plain_of (counted_in o)) row) (sym (relation_here rs name rows))
        (here (relation_of rs name) k (more row k)))
    by false e = subst (λ (ts : List Tuple). Contains ts row) (sym (rows_apart rs name rows n e)) h

-- a relation has fewer
fewer_rows : (rs : List Relation) (name : Bytes) (rows : List CountedRow)
    → ((row : Tuple) → Contains (plain_of rows) row → Contains (rows_of rs name) row)
    → HaveRows (with_rows rs name rows) rs
fewer_rows rs name rows fewer n row h = by (bytes_eq n name) refl
  where
    here : (o : Option Relation)
        → Contains (plain_of (counted_in (option_map (λ (r : Relation). record r { rows = rows }) o))) row
        → Contains (plain_of rows) row
    here None k = absurd (nothing_there row k)
    here (Some r) k = k

    by : (b : Bool) → bytes_eq n name ≡ b → Contains (rows_of rs n) row
    by true e =
        let same : n ≡ name = (bytes_eq-decides n name).0 e in
        let k : Contains (rows_of (with_rows rs name rows) name) row =
        subst (λ (m : Bytes). Contains (rows_of (with_rows rs name rows) m) row) same h in
        subst (λ (m : Bytes). Contains (rows_of rs m) row) (sym same)
        (fewer row (here (relation_of rs name)
        (subst (λ (o : Option Relation). Contains (plain_of (counted_in o)) row) (relation_here rs name rows) k)))
    by false e = subst (λ (ts : List Tuple). Contains ts row) (rows_apart rs name rows n e) h

with_one : (rs : List Relation) (name : Bytes) (row : Tuple)
    → HaveRows rs (with_rows rs name (with_row (counted_of rs name) row))
with_one rs name row = more_rows rs name (with_row (counted_of rs name) row)
    (λ r h. subst (λ (ts : List Tuple). Contains ts r) (sym (tuples_with_row (counted_of rs name) row))
    (Contains-append_left (rows_of rs name) (row ∷ []) r h))

pub row_comes : RowComes
row_comes relations name row = with_one relations name row

-- what is left was there
left_there : (ts : List Tuple) (row r : Tuple) → Contains (without_row ts row) r → Contains ts r
left_there [] row r h = h
left_there (t ∷ ts) row r h = by (tuple_eq t row) h (λ k. left_there ts row r k)
  where
    tail : t ≡ r ⊎ Contains (without_row ts row) r → (Contains (without_row ts row) r → Contains ts r)
        → Contains (t ∷ ts) r
    tail (inl e) more = first_there t ts r e
    tail (inr c) more = later_there t ts r (more c)

    by : (b : Bool) → Contains (cond b ts (t ∷ without_row ts row)) r
        → (Contains (without_row ts row) r → Contains ts r) → Contains (t ∷ ts) r
    by true k more = later_there t ts r k
    by false k more = tail (first_or_later t (without_row ts row) r k) more

pub row_goes : RowGoes
row_goes relations name row = fewer_rows relations name (without_copies (counted_of relations name) row)
    (λ r h. left_there (rows_of relations name) row r
    (subst (λ (ts : List Tuple). Contains ts r) (tuples_without (counted_of relations name) row) h))

-- ---- relations that a change doesn't touch

pub one_spares : ChangesSpareOthers
one_spares relations name row = (
  λ n e. rows_apart relations name (with_row (counted_of relations name) row) n e,
  λ n e. rows_apart relations name (without_copies (counted_of relations name) row) n e,
)

-- a test that fails of all of a list fails of each
pub none_any : {A : Type 0} (p : A → Bool) (xs : List A) → list_any p xs ≡ false → All (λ x. p x ≡ false) xs
none_any p [] e = All-nil (λ x. p x ≡ false)
none_any p (x ∷ xs) e = let both = or_parts (p x) (list_any p xs) e in
    All-cons (λ y. p y ≡ false) x xs both.0 (none_any p xs both.1)

query_rests : (before after : List Relation) (q : Query) (t : Tuple)
    → All (λ (a : Atom). rows_of after a.relation ≡ rows_of before a.relation) q.atoms
    → IsAnswer before q t → IsAnswer after q t
query_rests before after q t same h = record {
  assignment = h.assignment;
  satisfies = λ k d lt.
      let s = h.satisfies k d lt in
      record {
        row = s.row;
        is_there = subst (λ (ts : List Tuple). Contains ts s.row) (sym (same k d lt)) s.is_there;
        stands = s.stands;
      };
  compared = h.compared;
  on_head = h.on_head;
}

pub answers_rest : AnswersRest
answers_rest before change q spares none t =
    let untouched = none_any (λ (a : Atom). change.touches a.relation) q.atoms none in (
      query_rests before change.after q t
          (All-weaker (λ (a : Atom). change.touches a.relation ≡ false)
          (λ (a : Atom). rows_of change.after a.relation ≡ rows_of before a.relation)
          (λ a e. spares a.relation e) q.atoms untouched),
      query_rests change.after before q t
          (All-weaker (λ (a : Atom). change.touches a.relation ≡ false)
          (λ (a : Atom). rows_of before a.relation ≡ rows_of change.after a.relation)
          (λ a e. sym (spares a.relation e)) q.atoms untouched),
    )
