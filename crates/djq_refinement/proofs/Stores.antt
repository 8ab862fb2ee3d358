-- What the core sees of a store: rows with their copies, answers, and what is registered.
use Rattle.std.specs.Prelude.{ℕ, List, [], ◌∷◌, ◌++◌, ◌≡◌, ◌≢◌, Bool, true, false, not, cond, Option, None, Some}
use Rattle.std.specs.Prelude.{nat_le, nat_lt, All, map, filter}
use Rattle.std.proofs.Common.{refl, sym, ap, ap₂, ◌∙◌, subst, arith}
use Rattle.std.proofs.lemmas.Bool.{lt-ltb, le-ltb, leb-true, leb-false}
use Rattle.std.proofs.lemmas.List.Elements.{All-nil, All-cons, All-head, All-tail, All-weaker}
use Rattle.djq_model.specs.declared.relation.Relation.{Relation}
use Rattle.djq_model.specs.declared.query.Query.{Query}
use Rattle.djq_model.specs.Data.{Bytes, Tuple, bytes_eq, relation_of, rows_of, counted_of, counted_in, copies_among, has_row}
use Rattle.djq_model.specs.Data.{drop_first, plain_of}
use Rattle.djq_model.specs.Answer.{AreDifferent, Satisfies, IsAnswer}
use Rattle.djq_model.specs.Listed.{Listed, a_query, a_union, listed_name, listed_of, AnswersOf}
use Rattle.djq_model.proofs.Copies.{copies_moved}
use Rattle.djq_protocol.specs.Hypergraph.{edges_of, head_of}
use Rattle.djq_hypergraph.specs.JoinTree.{IsFreeConnex}
use Rattle.djq_store_spec.specs.Store.{Store}
use Rattle.djq_store_spec.specs.Union.{AreUnder}
use Rattle.djq_answer_laws.proofs.Lists.{row_found, row_there, pairs_head, pairs_tail}
use Rattle.djq_machine.specs.Step.{SameRelations}
use Rattle.djq_run_laws.specs.Sound.{AreApart, IsSoundRelation, IsSoundStore, IsConnex}
use Rattle.djq_run_laws.proofs.Lists.{all_found, nothing_apart}
use Rattle.djq_run_laws.proofs.Copies.{rows_have_copies}
use Rattle.djq_run_laws.proofs.RegisteredQueries.{under_registered}
use Rattle.djq_abstract.specs.Rows.{is_present, Matches, IsAnswerOver, AnswersOver}
use Rattle.djq_abstract.specs.Clients.{IsAdmitted, HaveOwnNames}
use Rattle.djq_abstract.proofs.Names.{same_name}
use Rattle.djq_refinement.specs.View.{database_of, query_under, queries_under}

-- ---- rows that are present

one_below : (n : ℕ) → nat_le 1 n ≡ nat_lt 0 n
one_below n = by (nat_le 1 n) refl
  where
    by : (b : Bool) → nat_le 1 n ≡ b → b ≡ nat_lt 0 n
    by true e = let k = leb-true 1 n e in sym (lt-ltb 0 n (omega (arith, k)))
    by false e = let k = leb-false 1 n e in sym (le-ltb 0 n (omega (arith, k)))

pub present_row : (st : Store) → IsSoundStore st → (name : Bytes) (row : Tuple)
    → has_row (rows_of st.relations name) row ≡ is_present (database_of st.relations) name row
present_row st sound name row = rows_have_copies st sound name row
    ∙ one_below (copies_among (counted_of st.relations name) row)

-- ---- answers

module _ (st : Store) (sound : IsSoundStore st) where
  query_seen : (q : Query) (t : Tuple) → IsAnswer st.relations q t → IsAnswerOver (database_of st.relations) q t
  query_seen q t h = record {
    assignment = h.assignment;
    matches = All-weaker (Satisfies st.relations h.assignment) (Matches (database_of st.relations) h.assignment)
        (λ a k. record {
          row = k.row;
          present = sym (present_row st sound a.relation k.row)
              ∙ row_found (rows_of st.relations a.relation) k.row k.is_there;
          stands = k.stands;
        }) q.atoms h.satisfies;
    compared = h.compared;
    on_head = h.on_head;
  }

  query_back : (q : Query) (t : Tuple) → IsAnswerOver (database_of st.relations) q t → IsAnswer st.relations q t
  query_back q t h = record {
    assignment = h.assignment;
    satisfies = All-weaker (Matches (database_of st.relations) h.assignment) (Satisfies st.relations h.assignment)
        (λ a k. record {
          row = k.row;
          is_there = row_there (rows_of st.relations a.relation) k.row
              (present_row st sound a.relation k.row ∙ k.present);
          stands = k.stands;
        }) q.atoms h.matches;
    compared = h.compared;
    on_head = h.on_head;
  }

  pub answer_seen : (q : Listed) (t : Tuple) → AnswersOf st.relations q t
      → AnswersOver (database_of st.relations) q t
  answer_seen (a_query q) t h = query_seen q t h
  answer_seen (a_union name qs) t (k, q, l, e, h) = (k, q, l, e, query_seen q t h)

  pub answer_back : (q : Listed) (t : Tuple) → AnswersOver (database_of st.relations) q t
      → AnswersOf st.relations q t
  answer_back (a_query q) t h = query_back q t h
  answer_back (a_union name qs) t (k, q, l, e, h) = (k, q, l, e, query_back q t h)

-- ---- rows in another order

differ_in : (o : Option Relation) → ((x : Relation) → o ≡ Some x → IsSoundRelation x)
    → AreDifferent (plain_of (counted_in o))
differ_in None h = nothing_apart (λ (s t : Tuple). s ≡ t → ⊥)
differ_in (Some x) h = (h x refl).once

pub reordered_copies : (rs moved : List Relation) → All IsSoundRelation rs → SameRelations rs moved → (n : Bytes)
    (row : Tuple) → copies_among (counted_of moved n) row ≡ copies_among (counted_of rs n) row
reordered_copies [] [] sound h n row = refl
reordered_copies [] (m ∷ ms) sound h n row = absurd h
reordered_copies (r ∷ rs) [] sound h n row = absurd h
reordered_copies (r ∷ rs) (m ∷ ms) sound h n row =
    by (bytes_eq r.name n) refl (reordered_copies rs ms (All-tail IsSoundRelation r rs sound) h.3 n row)
  where
    by : (b : Bool) → bytes_eq r.name n ≡ b
        → copies_among (counted_of ms n) row ≡ copies_among (counted_of rs n) row
        → copies_among (counted_of (m ∷ ms) n) row
        ≡ copies_among (counted_in (cond b (Some r) (relation_of rs n))) row
    by true e rest =
        let k : bytes_eq m.name n ≡ true = ap (λ (i : Bytes). bytes_eq i n) h.0 ∙ e in
        ap (λ (b : Bool). copies_among (counted_in (cond b (Some m) (relation_of ms n))) row) k
        ∙ copies_moved r.rows m.rows row (All-head IsSoundRelation r rs sound).once h.2
    by false e rest =
        let k : bytes_eq m.name n ≡ false = ap (λ (i : Bytes). bytes_eq i n) h.0 ∙ e in
        ap (λ (b : Bool). copies_among (counted_in (cond b (Some m) (relation_of ms n))) row) k ∙ rest

-- a relation more, without rows
pub copies_with_new : (rs : List Relation) (more : Relation) → more.rows ≡ [] → (n : Bytes) (row : Tuple)
    → copies_among (counted_of (rs ++ more ∷ []) n) row ≡ copies_among (counted_of rs n) row
copies_with_new [] more none n row = by (bytes_eq more.name n)
  where
    by : (b : Bool) → copies_among (counted_in (cond b (Some more) None)) row ≡ 0
    by true = ap (λ rows. copies_among rows row) none
    by false = refl
copies_with_new (r ∷ rs) more none n row = by (bytes_eq r.name n) (copies_with_new rs more none n row)
  where
    by : (b : Bool) → copies_among (counted_of (rs ++ more ∷ []) n) row ≡ copies_among (counted_of rs n) row
        → copies_among (counted_in (cond b (Some r) (relation_of (rs ++ more ∷ []) n))) row
        ≡ copies_among (counted_in (cond b (Some r) (relation_of rs n))) row
    by true rest = refl
    by false rest = rest

-- ---- what is registered

abbrev pub IsFreeConnexQuery : Query → Type 0
IsFreeConnexQuery q = IsFreeConnex (edges_of q) (head_of q)

pub under_seen : (ls : List Listed) (ns : List Bytes) (qs : List Query) → AreUnder ls ns qs
    → queries_under ls ns ≡ qs
under_seen ls [] [] e = refl
under_seen ls [] (q ∷ qs) e = absurd cc
under_seen ls (n ∷ ns) [] e = absurd cc
under_seen ls (n ∷ ns) (q ∷ qs) e =
    let first : listed_of ls n ≡ Some (a_query q) = cc in
    let rest : AreUnder ls ns qs = cc in
    ap₂ (λ (a b : List Query). a ++ b) (ap query_under first) (under_seen ls ns qs rest)

pub union_admitted : (st : Store) → IsSoundStore st → (name : Bytes) (ns : List Bytes) (qs : List Query)
    → AreUnder st.queries ns qs → IsAdmitted (a_union name qs)
union_admitted st sound name ns qs under =
    All-weaker (λ (q : Query). listed_of st.queries q.name ≡ Some (a_query q)) IsFreeConnexQuery
    (λ q e. all_found IsConnex (λ l. bytes_eq (listed_name l) q.name) st.queries (a_query q) sound.connex e)
    qs (under_registered st.queries ns qs under)

pub query_admitted : (q : Query) → IsFreeConnexQuery q → IsAdmitted (a_query q)
query_admitted q h = All-cons IsFreeConnexQuery q [] h (All-nil IsFreeConnexQuery)

pub admitted_query : (q : Query) → IsAdmitted (a_query q) → IsFreeConnexQuery q
admitted_query q h = All-head IsFreeConnexQuery q [] h

-- names apart: none is found under the name of another
none_of_name : (qs : List Listed) (n : Bytes) → All (λ m. n ≢ m) (map listed_name qs) → listed_of qs n ≡ None
none_of_name [] n h = refl
none_of_name (q ∷ qs) n h = by (bytes_eq (listed_name q) n) refl
    (none_of_name qs n (All-tail (λ m. n ≢ m) (listed_name q) (map listed_name qs) h))
  where
    by : (b : Bool) → bytes_eq (listed_name q) n ≡ b → listed_of qs n ≡ None → cond b (Some q) (listed_of qs n) ≡ None
    by true e rest = absurd (All-head (λ m. n ≢ m) (listed_name q) (map listed_name qs) h
        (sym (same_name (listed_name q) n e)))
    by false e rest = rest

pub own_names : (qs : List Listed) → AreApart (map listed_name qs) → HaveOwnNames qs
own_names [] h = tt
own_names (q ∷ qs) h = (
  none_of_name qs (listed_name q) (pairs_head (λ a b. a ≢ b) (listed_name q) (map listed_name qs) h),
  own_names qs (pairs_tail (λ a b. a ≢ b) (listed_name q) (map listed_name qs) h),
)

-- what is dropped, where names are apart
kept_all : (qs : List Listed) (n : Bytes) → listed_of qs n ≡ None
    → filter (λ l. not (bytes_eq (listed_name l) n)) qs ≡ qs
kept_all [] n h = refl
kept_all (q ∷ qs) n h = by (bytes_eq (listed_name q) n) h (λ k. kept_all qs n k)
  where
    by : (b : Bool) → cond b (Some q) (listed_of qs n) ≡ None
        → (listed_of qs n ≡ None → filter (λ l. not (bytes_eq (listed_name l) n)) qs ≡ qs)
        → cond (not b) (q ∷ filter (λ l. not (bytes_eq (listed_name l) n)) qs)
        (filter (λ l. not (bytes_eq (listed_name l) n)) qs) ≡ q ∷ qs
    by true e rest = absurd cc
    by false e rest = ap (λ (ls : List Listed). q ∷ ls) (rest e)

pub dropped_seen : (qs : List Listed) (n : Bytes) → HaveOwnNames qs
    → drop_first (λ l. bytes_eq (listed_name l) n) qs ≡ filter (λ l. not (bytes_eq (listed_name l) n)) qs
dropped_seen [] n h = refl
dropped_seen (q ∷ qs) n h = by (bytes_eq (listed_name q) n) refl (dropped_seen qs n h.1)
  where
    by : (b : Bool) → bytes_eq (listed_name q) n ≡ b
        → drop_first (λ l. bytes_eq (listed_name l) n) qs ≡ filter (λ l. not (bytes_eq (listed_name l) n)) qs
        → cond b qs (q ∷ drop_first (λ l. bytes_eq (listed_name l) n) qs)
        ≡ cond (not b) (q ∷ filter (λ l. not (bytes_eq (listed_name l) n)) qs)
        (filter (λ l. not (bytes_eq (listed_name l) n)) qs)
    by true e rest = sym (kept_all qs n (subst (λ (m : Bytes). listed_of qs m ≡ None)
        (same_name (listed_name q) n e) h.0))
    by false e rest = ap (λ (ls : List Listed). q ∷ ls) rest
