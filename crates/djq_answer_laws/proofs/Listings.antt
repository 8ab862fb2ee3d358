-- A listing of answers, found by deciding each tuple, and the delta between two.
use Rattle.std.specs.Prelude.{List, [], ◌∷◌, ◌≡◌, ◌++◌, ◌⊎◌, Bool, true, false, filter, map, All, Contains, not, Any}
use Rattle.std.proofs.Common.{refl, sym, subst, inl, inr, ap, ◌∙◌}
use Rattle.std.proofs.lemmas.List.Elements.{All-head, All-tail, Contains-append_left, Contains-append_right, All-nil}
use Rattle.std.proofs.lemmas.List.Elements.{All-cons, All-append, All-weaker, All-contains}
use Rattle.std.proofs.lemmas.List.{map-append}
use Rattle.std.proofs.lemmas.List.Kept.{AllPairs-filter}
use Rattle.djq_model.specs.declared.value.Value.{Value}
use Rattle.djq_model.specs.declared.relation.Relation.{Relation}
use Rattle.djq_model.specs.declared.query.Query.{Query}
use Rattle.djq_model.specs.declared.query.Atom.{Atom}
use Rattle.djq_model.specs.declared.query.Term.{Term}
use Rattle.djq_model.specs.declared.query.Term.TheVariants.{Variable}
use Rattle.djq_model.specs.Data.{Bytes, Tuple, rows_of, has_row}
use Rattle.djq_model.specs.Answer.{Assignment, StandsFor, StandForAll, Satisfies, IsAnswer, IsListing, AreDifferent}
use Rattle.djq_model.specs.Listed.{a_query, a_union, AnswersOf}
use Rattle.djq_protocol.specs.declared.answer.Sign.{Sign}
use Rattle.djq_protocol.specs.declared.answer.Sign.TheVariants.{Came, Went}
use Rattle.djq_store_spec.specs.Delta.{Change, HasChanged, IsDelta}
use Rattle.djq_answer_laws.specs.Decided.{Decided}
use Rattle.djq_answer_laws.specs.Finite.{IsBound, AnswersAreFinite, DeltasExist}
use Rattle.djq_answer_laws.proofs.Lists.{nothing_there, first_or_later, first_there, later_there, kept_hold, kept_there}
use Rattle.djq_answer_laws.proofs.Lists.{mapped_there, row_found, row_there, pairs_join, hold_each, some_one, one_there}
use Rattle.djq_answer_laws.proofs.Lists.{once, once_hold, once_there, once_differ}
use Rattle.djq_answer_laws.proofs.Decisions.{query_decided}

-- ---- The answers of a query, found by deciding each tuple of the values that its relations have.

-- The values that the relations of atoms have.
abbrev values_in : List Tuple → List Value
values_in [] = []
values_in (r ∷ rs) = r ++ values_in rs

abbrev pub values : List Relation → List Atom → List Value
values relations [] = []
values relations (m ∷ ms) = values_in (rows_of relations m.relation) ++ values relations ms

of_row : (rs : List Tuple) (r : Tuple) (v : Value) → Contains rs r → Contains r v → Contains (values_in rs) v
of_row [] r v k c = absurd (nothing_there r k)
of_row (s ∷ rs) r v k c = step (first_or_later s rs r k) (λ d. of_row rs r v d c)
  where
    step : (s ≡ r) ⊎ Contains rs r → (Contains rs r → Contains (values_in rs) v) → Contains (s ++ values_in rs) v
    step (inl e) more = Contains-append_left s (values_in rs) v (subst (λ (t : Tuple). Contains t v) (sym e) c)
    step (inr d) more = Contains-append_right s (values_in rs) v (more d)

its_cell : (b : Assignment) (ts : List Term) (vs : Tuple) (x : Bytes) → StandForAll b ts vs → Contains ts (Variable x)
    → Contains vs (b x)
its_cell b [] vs x h k = absurd (nothing_there (Variable x) k)
its_cell b (t ∷ ts) [] x h k = absurd h
its_cell b (t ∷ ts) (v ∷ vs) x h k = step (first_or_later t ts (Variable x) k) (λ c. its_cell b ts vs x h.1 c)
  where
    step : (t ≡ Variable x) ⊎ Contains ts (Variable x) → (Contains ts (Variable x) → Contains vs (b x))
        → Contains (v ∷ vs) (b x)
    step (inl e) more = first_there v vs (b x) (sym (subst (λ (u : Term). StandsFor b u v) e h.0))
    step (inr c) more = later_there v vs (b x) (more c)

pub its_value : (relations : List Relation) (b : Assignment) (ms : List Atom) (m : Atom) (x : Bytes)
    → All (Satisfies relations b) ms
    → Contains ms m → Contains m.terms (Variable x) → Contains (values relations ms) (b x)
its_value relations b [] m x h k c = absurd (nothing_there m k)
its_value relations b (n ∷ ms) m x h k c =
    step (first_or_later n ms m k) (λ d. its_value relations b ms m x (All-tail (Satisfies relations b) n ms h) d c)
  where
    s : Satisfies relations b n
    s = All-head (Satisfies relations b) n ms h

    step : (n ≡ m) ⊎ Contains ms m → (Contains ms m → Contains (values relations ms) (b x))
        → Contains (values_in (rows_of relations n.relation) ++ values relations ms) (b x)
    step (inl e) more =
        Contains-append_left (values_in (rows_of relations n.relation)) (values relations ms) (b x)
        (of_row (rows_of relations n.relation) s.row (b x) s.is_there
        (its_cell b n.terms s.row x s.stands (subst (λ (o : Atom). Contains o.terms (Variable x)) (sym e) c)))
    step (inr d) more = Contains-append_right (values_in (rows_of relations n.relation)) (values relations ms) (b x)
        (more d)

-- The tuples of these values, as long as a head.
abbrev each : (Value → List Tuple) → List Value → List Tuple
each f [] = []
each f (v ∷ vs) = f v ++ each f vs

abbrev tuples : List Value → List Bytes → List Tuple
tuples vs [] = [] ∷ []
tuples vs (x ∷ xs) = each (λ (v : Value). map (λ (t : Tuple). v ∷ t) (tuples vs xs)) vs

each_there : (f : Value → List Tuple) (vs : List Value) (v : Value) (t : Tuple) → Contains vs v → Contains (f v) t
    → Contains (each f vs) t
each_there f [] v t k c = absurd (nothing_there v k)
each_there f (w ∷ vs) v t k c = step (first_or_later w vs v k) (λ d. each_there f vs v t d c)
  where
    step : (w ≡ v) ⊎ Contains vs v → (Contains vs v → Contains (each f vs) t) → Contains (f w ++ each f vs) t
    step (inl e) more = Contains-append_left (f w) (each f vs) t (subst (λ (u : Value). Contains (f u) t) (sym e) c)
    step (inr d) more = Contains-append_right (f w) (each f vs) t (more d)

tuples_there : (vs : List Value) (a : Assignment) (xs : List Bytes) → ((x : Bytes) → Contains xs x → Contains vs (a x))
    → Contains (tuples vs xs) (map a xs)
tuples_there vs a [] ranges = first_there [] [] [] refl
tuples_there vs a (x ∷ xs) ranges =
    each_there (λ (v : Value). map (λ (t : Tuple). v ∷ t) (tuples vs xs)) vs (a x) (map a (x ∷ xs))
    (ranges x (first_there x xs x refl))
    (mapped_there (λ (t : Tuple). a x ∷ t) (tuples vs xs) (map a xs)
    (tuples_there vs a xs (λ y k. ranges y (later_there x xs y k))))

-- Those of them that are answers.
abbrev holds : {A : Type 0} → Decided A → Bool
holds (inl a) = true
holds (inr never) = false

it_holds : {A : Type 0} (d : Decided A) → holds d ≡ true → A
it_holds (inl a) e = a
it_holds (inr never) e = absurd cc

is_held : {A : Type 0} (d : Decided A) → A → holds d ≡ true
is_held (inl a) h = refl
is_held (inr never) h = absurd (never h)

module _ (relations : List Relation) (q : Query) where
  abbrev is_answer : Tuple → Bool
  is_answer t = holds (query_decided relations q t)

  abbrev candidates : List Tuple
  candidates = tuples (values relations q.atoms) q.head

  abbrev pub listed : List Tuple
  listed = filter is_answer candidates

  pub all_hold : All (IsAnswer relations q) listed
  all_hold = kept_hold (λ (t : Tuple). Unit {0}) (IsAnswer relations q) is_answer candidates
      (λ t e u. it_holds (query_decided relations q t) e) (λ k d lt. tt)

  pub all_there : IsBound q → (t : Tuple) → IsAnswer relations q t → Contains listed t
  all_there bound t h =
      kept_there is_answer candidates t (is_held (query_decided relations q t) h)
      (subst (λ (u : Tuple). Contains candidates u) (sym h.on_head)
      (tuples_there (values relations q.atoms) h.assignment q.head
      (λ x k. let m = bound x k in its_value relations h.assignment q.atoms m.0 x h.satisfies m.1 m.2)))

-- ---- A listing of answers, and the delta between two: a union lists its members' listings, each answer once.

-- the answers of queries, one query behind another
abbrev listed_of_all : List Relation → List Query → List Tuple
listed_of_all relations [] = []
listed_of_all relations (q ∷ qs) = listed relations q ++ listed_of_all relations qs

-- A tuple is an answer of one of these queries.
abbrev IsAnswerOfSome : List Relation → List Query → Tuple → Type 0
IsAnswerOfSome relations qs t = Any (λ (q : Query). IsAnswer relations q t) qs

all_of_some : (relations : List Relation) (qs : List Query)
    → All (IsAnswerOfSome relations qs) (listed_of_all relations qs)
all_of_some relations [] = All-nil (IsAnswerOfSome relations [])
all_of_some relations (q ∷ qs) =
    All-append (IsAnswerOfSome relations (q ∷ qs)) (listed relations q) (listed_of_all relations qs)
    (All-weaker (IsAnswer relations q) (IsAnswerOfSome relations (q ∷ qs))
    (λ t h. one_there (λ (p : Query). IsAnswer relations p t) (q ∷ qs) q (first_there q qs q refl) h)
    (listed relations q) (all_hold relations q))
    (All-weaker (IsAnswerOfSome relations qs) (IsAnswerOfSome relations (q ∷ qs))
    (λ t h. let o = some_one (λ (p : Query). IsAnswer relations p t) qs h in
    one_there (λ (p : Query). IsAnswer relations p t) (q ∷ qs) o.0 (later_there q qs o.0 o.1) o.2)
    (listed_of_all relations qs) (all_of_some relations qs))

some_of_all : (relations : List Relation) (qs : List Query) (q : Query) (t : Tuple) → All IsBound qs → Contains qs q
    → IsAnswer relations q t → Contains (listed_of_all relations qs) t
some_of_all relations [] q t bound k h = absurd (nothing_there q k)
some_of_all relations (p ∷ qs) q t bound k h =
    step (first_or_later p qs q k) (λ c. some_of_all relations qs q t (All-tail IsBound p qs bound) c h)
  where
    step : (p ≡ q) ⊎ Contains qs q → (Contains qs q → Contains (listed_of_all relations qs) t)
        → Contains (listed relations p ++ listed_of_all relations qs) t
    step (inl e) more = Contains-append_left (listed relations p) (listed_of_all relations qs) t
        (all_there relations p (All-head IsBound p qs bound) t
        (subst (λ (r : Query). IsAnswer relations r t) (sym e) h))
    step (inr c) more = Contains-append_right (listed relations p) (listed_of_all relations qs) t (more c)

pub answers_are_finite : AnswersAreFinite
answers_are_finite relations (a_query q) bound = (
  once (listed relations q),
  record {
    different = once_differ (listed relations q);
    answers = once_hold (IsAnswer relations q) (listed relations q) (all_hold relations q);
    complete = λ t h. once_there (listed relations q) t (all_there relations q bound t h);
  },
)
answers_are_finite relations (a_union name qs) bound = (
  once (listed_of_all relations qs),
  record {
    different = once_differ (listed_of_all relations qs);
    answers = once_hold (IsAnswerOfSome relations qs) (listed_of_all relations qs) (all_of_some relations qs);
    complete = λ t h. let o = some_one (λ (q : Query). IsAnswer relations q t) qs h in
        once_there (listed_of_all relations qs) t (some_of_all relations qs o.0 t bound o.1 o.2);
  },
)

-- the answers of a list, with a sign
abbrev signed : Sign → List Tuple → List Change
signed s [] = []
signed s (t ∷ ts) = record { sign = s; answer = t } ∷ signed s ts

unsigned : (s : Sign) (ts : List Tuple) → map (λ (c : Change). c.answer) (signed s ts) ≡ ts
unsigned s [] = refl
unsigned s (t ∷ ts) = ap (λ (us : List Tuple). t ∷ us) (unsigned s ts)

signed_hold : (P : Change → Type 0) (s : Sign) (ts : List Tuple)
    → All (λ (t : Tuple). P (record { sign = s; answer = t })) ts → All P (signed s ts)
signed_hold P s [] h = All-nil P
signed_hold P s (t ∷ ts) h = All-cons P (record { sign = s; answer = t }) (signed s ts)
    (All-head (λ (t : Tuple). P (record { sign = s; answer = t })) t ts h)
    (signed_hold P s ts (All-tail (λ (t : Tuple). P (record { sign = s; answer = t })) t ts h))

signed_there : (s : Sign) (ts : List Tuple) (t : Tuple) → Contains ts t
    → Contains (signed s ts) (record { sign = s; answer = t })
signed_there s [] t k = absurd (nothing_there t k)
signed_there s (u ∷ ts) t k = step (first_or_later u ts t k) (λ c. signed_there s ts t c)
  where
    step : (u ≡ t) ⊎ Contains ts t → (Contains ts t → Contains (signed s ts) (record { sign = s; answer = t }))
        → Contains (record { sign = s; answer = u } ∷ signed s ts) (record { sign = s; answer = t })
    step (inl e) more = first_there (record { sign = s; answer = u }) (signed s ts) (record { sign = s; answer = t })
        (ap (λ (v : Tuple). record { sign = s; answer = v }) e)
    step (inr c) more = later_there (record { sign = s; answer = u }) (signed s ts) (record { sign = s; answer = t })
        (more c)

-- of two lists, what the one lacks of the other
abbrev lacked : List Tuple → List Tuple → List Tuple
lacked has of = filter (λ (t : Tuple). not (has_row has t)) of

not_there : (ts : List Tuple) (t : Tuple) → not (has_row ts t) ≡ true → Contains ts t → ⊥
not_there ts t e k = let so : not (has_row ts t) ≡ false = ap not (row_found ts t k) in absurd (cc (so, e))

is_not_there : (ts : List Tuple) (t : Tuple) → (Contains ts t → ⊥) → not (has_row ts t) ≡ true
is_not_there ts t lacks = step (has_row ts t) refl
  where
    step : (b : Bool) → has_row ts t ≡ b → not b ≡ true
    step true e = absurd (lacks (row_there ts t e))
    step false e = refl

module _ (Before After : Tuple → Type 0) (bs fs : List Tuple) (earlier : IsListing Before bs)
    (later : IsListing After fs) where
  abbrev came : List Tuple
  came = lacked bs fs

  abbrev went : List Tuple
  went = lacked fs bs

  abbrev delta : List Change
  delta = signed Came came ++ signed Went went

  came_are : All (λ (t : Tuple). After t × (Before t → ⊥)) came
  came_are = kept_hold After (λ (t : Tuple). After t × (Before t → ⊥)) (λ (t : Tuple). not (has_row bs t)) fs
      (λ t e h. (h, λ b. not_there bs t e (earlier.complete t b))) later.answers

  went_are : All (λ (t : Tuple). Before t × (After t → ⊥)) went
  went_are = kept_hold Before (λ (t : Tuple). Before t × (After t → ⊥)) (λ (t : Tuple). not (has_row fs t)) bs
      (λ t e h. (h, λ a. not_there fs t e (later.complete t a))) earlier.answers

  apart : All (λ x. All (λ y. x ≡ y → ⊥) went) came
  apart = hold_each (λ x. All (λ y. x ≡ y → ⊥) went) came
      (λ x k. hold_each (λ y. x ≡ y → ⊥) went
      (λ y l same.
      (All-contains (λ (t : Tuple). Before t × (After t → ⊥)) went y went_are l).1
      (subst After same (All-contains (λ (t : Tuple). After t × (Before t → ⊥)) came x came_are k).0)))

  differ : AreDifferent (came ++ went)
  differ = pairs_join (λ (s t : Tuple). s ≡ t → ⊥) came went
      (AllPairs-filter (λ (s t : Tuple). s ≡ t → ⊥) (λ (t : Tuple). not (has_row bs t)) fs later.different)
      (AllPairs-filter (λ (s t : Tuple). s ≡ t → ⊥) (λ (t : Tuple). not (has_row fs t)) bs earlier.different)
      apart

  answers_are : map (λ (c : Change). c.answer) delta ≡ came ++ went
  answers_are =
      map-append (λ (c : Change). c.answer) (signed Came came) (signed Went went)
      ∙ ap (λ (ts : List Tuple). ts ++ map (λ (c : Change). c.answer) (signed Went went)) (unsigned Came came)
      ∙ ap (λ (ts : List Tuple). came ++ ts) (unsigned Went went)

  all_there_are : (sign : Sign) (t : Tuple) → HasChanged Before After sign t
      → Contains delta (record { sign = sign; answer = t })
  all_there_are Came t h =
      Contains-append_left (signed Came came) (signed Went went) (record { sign = Came; answer = t })
      (signed_there Came came t (kept_there (λ (t : Tuple). not (has_row bs t)) fs t
      (is_not_there bs t (λ k. h.1 (All-contains Before bs t earlier.answers k))) (later.complete t h.0)))
  all_there_are Went t h =
      Contains-append_right (signed Came came) (signed Went went) (record { sign = Went; answer = t })
      (signed_there Went went t (kept_there (λ (t : Tuple). not (has_row fs t)) bs t
      (is_not_there fs t (λ k. h.1 (All-contains After fs t later.answers k))) (earlier.complete t h.0)))

  pub is_delta : IsDelta Before After delta
  is_delta = record {
    different = subst AreDifferent (sym answers_are) differ;
    changed = All-append (λ (c : Change). HasChanged Before After c.sign c.answer) (signed Came came) (signed Went went)
        (signed_hold (λ (c : Change). HasChanged Before After c.sign c.answer) Came came came_are)
        (signed_hold (λ (c : Change). HasChanged Before After c.sign c.answer) Went went went_are);
    complete = all_there_are;
  }

pub deltas_exist : DeltasExist
deltas_exist before after q bound =
    let e = answers_are_finite before q bound in
    let l = answers_are_finite after q bound in (
      delta (AnswersOf before q) (AnswersOf after q) e.0 l.0 e.1 l.1,
      is_delta (AnswersOf before q) (AnswersOf after q)
          e.0 l.0 e.1 l.1,
    )
