-- The session of README.
use Rattle.std.specs.Prelude.{ℕ, suc, List, [], ◌∷◌, ◌++◌, ◌≡◌, ◌⊎◌, ◌==◌, ◌&&◌, Bool, true, false, cond, filter, pos}
use Rattle.std.specs.Prelude.{None, Some, IsSomeAnd, MatchOption, map, codes, nat_lt, All, if◌then◌else◌}
use Rattle.std.proofs.Common.{refl, sym, ap, ap₂, ◌∙◌, subst, inl, inr, arith}
use Rattle.std.proofs.lemmas.Bool.{eqb-true}
use Rattle.std.proofs.lemmas.List.Elements.{All-nil, All-cons}
use Rattle.djq_hypergraph.specs.JoinTree.{IsFreeConnex}
use Rattle.djq_hypergraph.proofs.Labels.{count_self}
use Rattle.djq_hypergraph.proofs.LabelTrees.{Rooted, hung_on}
use Rattle.djq_hypergraph.proofs.JoinTrees.{free_connex_from}
use Rattle.djq_protocol.specs.Hypergraph.{edges_of, head_of, edges_from, numbers_in}
use Rattle.djq_model.specs.declared.value.Value.TheVariants.{Int, Text}
use Rattle.djq_model.specs.declared.query.Query.{Query}
use Rattle.djq_model.specs.declared.query.Atom.{Atom}
use Rattle.djq_model.specs.declared.query.Term.TheVariants.{Variable, Hole, Constant}
use Rattle.djq_model.specs.Data.{Bytes, Tuple, bytes_eq, tuple_eq}
use Rattle.djq_model.specs.Answer.{StandForAll, HoldsOf}
use Rattle.djq_model.specs.Equality.{tuple_eq-decides}
use Rattle.djq_model.specs.Listed.{Listed, a_query, listed_name, listed_of}
use Rattle.djq_abstract.specs.Rows.{Database, is_present, Matches, IsAnswerOver, AnswersOver, copies_set}
use Rattle.djq_abstract.specs.Rows.{ReadsRelation, AreRowsChanged, IsAffected}
use Rattle.djq_abstract.specs.Deltas.{AnswerDelta, IsDeltaBetween}
use Rattle.djq_abstract.specs.Clients.{valid, Client, Core, nobody, with_client, client_with_cursor, with_subscription, client_overtaken, IsAdmitted, CoreCommand, edit, register, open_cursor, next, subscribe, ask, CoreMessage, ok, refused, not_free_connex, replied, page, delta, says, Sent, only_sent}
use Rattle.djq_abstract.specs.Moves.{IsPage, StaysConnected, ChangesDatabase, Edits, OnlyReplies, Accepts, RefusesCommand}
use Rattle.djq_abstract.specs.Moves.{CoreStep, ReturnsPage}
use Rattle.djq_abstract.specs.Worked.{one_client, machine_row, job_row, inserting, waiting_query, waiting_answer, ReadmeHappens, ReadmeOnlySo}
use Rattle.djq_abstract.proofs.Listings.{some_there}
use Rattle.djq_abstract.proofs.Live.{refusals}

-- ---- the query is free-connex

abbrev m_j : List ℕ
m_j = 0 ∷ 2 ∷ []

no_labels : (F : List ℕ) → Rooted F []
no_labels F = record { order = []; those = λ a. refl; tree = tt }

waiting_connex : IsFreeConnex ((0 ∷ 1 ∷ []) ∷ m_j ∷ []) m_j
waiting_connex =
    free_connex_from ((0 ∷ 1 ∷ []) ∷ m_j ∷ []) m_j
    (hung_on [] (0 ∷ 1 ∷ []) m_j ((0 ∷ 1 ∷ []) ∷ m_j ∷ []) (m_j ∷ [])
    (hung_on [] m_j [] (m_j ∷ []) [] (no_labels []) (λ a. refl) (count_self [] []) (λ x within below. absurd (omega arith)))
    (λ a. refl) (let k = count_self m_j [] in omega arith) (λ x within below. omega arith))
    (hung_on m_j (0 ∷ 1 ∷ []) m_j ((0 ∷ 1 ∷ []) ∷ m_j ∷ []) (m_j ∷ [])
    (hung_on m_j m_j m_j (m_j ∷ []) [] (no_labels m_j) (λ a. refl) (count_self m_j []) (λ x within below. within))
    (λ a. refl) (count_self m_j (m_j ∷ [])) (λ x within below. omega arith))

waiting_edges : edges_of waiting_query ≡ (0 ∷ 1 ∷ []) ∷ m_j ∷ []
unfolding edges_from numbers_in
waiting_edges = refl

waiting_admitted : IsAdmitted (a_query waiting_query)
waiting_admitted = All-cons (λ (m : Query). IsFreeConnex (edges_of m) (head_of m)) waiting_query []
    (subst (λ E. IsFreeConnex E m_j) (sym waiting_edges) waiting_connex)
    (All-nil (λ (m : Query). IsFreeConnex (edges_of m) (head_of m)))

-- ---- rows and answers

abbrev pub no_rows : Database
no_rows = λ relation row. 0

abbrev pub with_machine : Database
with_machine = copies_set no_rows (codes "machines") machine_row 1

abbrev pub with_job : Database
with_job = copies_set with_machine (codes "jobs") job_row 1

positive : (b : Bool) → nat_lt 0 (cond b 1 0) ≡ true → b ≡ true
positive true h = refl
positive false h = absurd (cc)

-- the one job is the one row
job_is : (row : Tuple) → is_present with_job (codes "jobs") row ≡ true → job_row ≡ row
job_is row h = (tuple_eq-decides job_row row).0 (positive (tuple_eq job_row row) h)

machines_atom : Atom
machines_atom = record { relation = codes "machines"; terms = Variable (codes "m") ∷ Hole ∷ [] }

answer_is : (t : Tuple) → IsAnswerOver with_job waiting_query t → t ≡ waiting_answer
answer_is t h =
    let job = h.matches 1 machines_atom (omega arith) in
    let stands : StandForAll h.assignment
    (Variable (codes "j") ∷ Variable (codes "m") ∷ Constant (Text (codes "waiting")) ∷ []) job_row =
    subst (λ (row : Tuple). StandForAll h.assignment
    (Variable (codes "j") ∷ Variable (codes "m") ∷ Constant (Text (codes "waiting")) ∷ []) row)
    (sym (job_is job.row job.present)) job.stands in
    h.on_head ∙ ap₂ (λ v w. v ∷ w ∷ []) stands.1.0 stands.0

none_before : (t : Tuple) → IsAnswerOver with_machine waiting_query t → ⊥
none_before t h = let job = h.matches 1 machines_atom (omega arith) in
    let no : false ≡ true = job.present in absurd (cc)

the_answer : IsAnswerOver with_job waiting_query waiting_answer
the_answer = record {
  assignment = λ x. cond (bytes_eq x (codes "m")) (Int (pos 2)) (Int (pos 12));
  matches = All-cons (Matches with_job (λ x. cond (bytes_eq x (codes "m")) (Int (pos 2)) (Int (pos 12))))
      (record { relation = codes "machines"; terms = Variable (codes "m") ∷ Hole ∷ [] })
      (record {
        relation = codes "jobs";
        terms = Variable (codes "j") ∷ Variable (codes "m") ∷ Constant (Text (codes "waiting")) ∷ [];
      } ∷ [])
      (record { row = machine_row; present = refl; stands = (refl, (tt, tt)) })
      (All-cons (Matches with_job (λ x. cond (bytes_eq x (codes "m")) (Int (pos 2)) (Int (pos 12))))
      (record {
        relation = codes "jobs";
        terms = Variable (codes "j") ∷ Variable (codes "m") ∷ Constant (Text (codes "waiting")) ∷ [];
      }) []
      (record { row = job_row; present = refl; stands = (refl, (refl, (refl, tt))) })
      (All-nil (Matches with_job (λ x. cond (bytes_eq x (codes "m")) (Int (pos 2)) (Int (pos 12))))));
  compared = All-nil (HoldsOf (λ x. cond (bytes_eq x (codes "m")) (Int (pos 2)) (Int (pos 12))));
  on_head = refl;
}

-- ---- the changes of rows

is_new : (q : Listed) → cond (bytes_eq (codes "waiting") (codes "waiting")) (Some (a_query waiting_query)) None ≡ Some q
    → a_query waiting_query ≡ q
is_new q e = cc

reads_jobs : ReadsRelation (a_query waiting_query) (codes "jobs")
reads_jobs = record {
  query = waiting_query;
  is_member = (0, omega arith, refl);
  atom = record {
    relation = codes "jobs";
    terms = Variable (codes "j") ∷ Variable (codes "m") ∷ Constant (Text (codes "waiting")) ∷ [];
  };
  is_atom = (1, omega arith, refl);
  is_over = refl;
}

job_comes : IsAffected with_machine with_job (a_query waiting_query)
job_comes = (codes "jobs", job_row, reads_jobs, λ e. let no : false ≡ true = e in cc)

answer_comes : IsDeltaBetween (AnswersOver with_machine (a_query waiting_query))
    (AnswersOver with_job (a_query waiting_query)) (record { inserted = waiting_answer ∷ []; deleted = [] })
answer_comes = record {
  inserted = record {
    different = λ i j d lt within. absurd (omega (arith, lt, within));
    gained = All-cons (λ t. IsAnswerOver with_job waiting_query t × (IsAnswerOver with_machine waiting_query t → ⊥))
        waiting_answer [] (the_answer, none_before waiting_answer)
        (All-nil (λ t. IsAnswerOver with_job waiting_query t × (IsAnswerOver with_machine waiting_query t → ⊥)));
    complete = λ t h. inr (0, omega arith, sym (answer_is t h));
  };
  deleted = record {
    different = λ i j d lt within. absurd (omega (arith, within));
    gained = All-nil (λ t. IsAnswerOver with_machine waiting_query t × (IsAnswerOver with_job waiting_query t → ⊥));
    complete = λ t h. absurd (none_before t h);
  };
}

-- ---- it happens

-- only client 1 is connected
abbrev pub IsAlone : Core → Type 0
IsAlone st = (t : ℕ) → (t == 1) ≡ false → st.client t ≡ nobody

still_alone : (x : Client) (st : Core) → IsAlone st → IsAlone (with_client 1 x st)
still_alone x st alone t e = ap (λ b. cond b x (st.client t)) e ∙ alone t e

-- the state after a row is inserted, and what client 1 is sent
abbrev pub inserted_state : Database → Core → Core
inserted_state db old = record {
  db = db;
  queries = old.queries;
  seq = suc old.seq;
  client = λ t. if t == 1 then client_overtaken (λ n. true) (old.client 1) else nobody;
}

abbrev pub inserted_sent : AnswerDelta → Core → Sent
inserted_sent d old = λ t. if t == 1 then map (λ n. delta n d (suc old.seq))
    (filter (λ n. true && (old.client 1).subscribed n) (map listed_name old.queries)) ++ ok ∷ [] else []

-- what becomes of a client
abbrev pub Fares : Core → Database → AnswerDelta → ℕ → Type 0
Fares old db d t =
    StaysConnected old (λ n. true) (inserted_state db old) t (inserted_sent d old t) (only_sent 1 (ok ∷ []) t)
    ⊎ (((inserted_state db old).client t ≡ nobody) × ((old.client t).connected ≡ false → inserted_sent d old t ≡ []))

insert_changes : (old : Core) (db : Database) (d : AnswerDelta) → (old.client 1).connected ≡ true → IsAlone old
    → AreRowsChanged old.db db
    → ((n : Bytes) (q : Listed) → listed_of old.queries n ≡ Some q
    → IsAffected old.db db q × IsDeltaBetween (AnswersOver old.db q) (AnswersOver db q) d)
    → ChangesDatabase old 1 db (inserted_sent d old) (inserted_state db old)
insert_changes old db d connected alone changed each = record {
  db_is = refl;
  queries_stay = refl;
  counts = true;
  counts_if = (λ e. changed, λ h. refl);
  seq_is = refl;
  affected = λ n. true;
  affected_if = λ n q found. (λ e. (each n q found).0, λ h. refl);
  clients = λ t. at t (t == 1) refl;
}
  where
    at : (t : ℕ) (b : Bool) → (t == 1) ≡ b → Fares old db d t
    at t true e = subst (λ (k : ℕ). Fares old db d k) (sym (eqb-true t 1 e)) (inl (record {
      was_connected = connected;
      becomes = refl;
      delta_of = λ n. d;
      are_deltas = λ n q found due. (each n q found).1;
      is_sent = refl;
    }))
    at t false e = inr (
      ap (λ b. cond b (client_overtaken (λ n. true) (old.client 1)) nobody) e,
      λ h. ap (λ b. cond b (map (λ n. delta n d (suc old.seq))
          (filter (λ n. true && (old.client 1).subscribed n) (map listed_name old.queries)) ++ ok ∷ []) []) e,
    )

inserted_alone : (db : Database) (old : Core) → IsAlone (inserted_state db old)
inserted_alone db old t e = ap (λ b. cond b (client_overtaken (λ n. true) (old.client 1)) nobody) e

-- the states, one after the other
abbrev st_0 : Core
st_0 = one_client

abbrev st_1 : Core
st_1 = with_client 1 (st_0.client 1) st_0

abbrev st_2 : Core
st_2 = with_client 1 (st_1.client 1) st_1

abbrev st_3 : Core
st_3 = inserted_state with_machine st_2

abbrev st_4 : Core
st_4 = record st_3 { queries = st_3.queries ++ a_query waiting_query ∷ [] }

abbrev st_5 : Core
st_5 = with_client 1 (with_subscription (codes "waiting") true (st_4.client 1)) st_4

abbrev st_6 : Core
st_6 = inserted_state with_job st_5

abbrev st_7 : Core
st_7 = with_client 1 (client_with_cursor (codes "c") (Some (valid (codes "waiting") [] false)) (st_6.client 1)) st_6

abbrev st_8 : Core
st_8 = with_client 1
    (client_with_cursor (codes "c") (Some (valid (codes "waiting") ([] ++ waiting_answer ∷ []) true)) (st_7.client 1)) st_7

alone_2 : IsAlone st_2
alone_2 t e = ap (λ b. cond b (st_1.client 1) (cond b (st_0.client 1) (cond b (record nobody { connected = true }) nobody))) e

alone_5 : IsAlone st_5
alone_5 = still_alone (with_subscription (codes "waiting") true (st_4.client 1)) st_4 (inserted_alone with_machine st_2)

machine_inserted : ChangesDatabase st_2 1 with_machine (inserted_sent (record { inserted = []; deleted = [] }) st_2) st_3
machine_inserted = insert_changes st_2 with_machine (record { inserted = []; deleted = [] }) refl alone_2
    (codes "machines", machine_row, λ e. let no : false ≡ true = e in cc)
    (λ n q found. absurd (let no : None ≡ Some q = found in cc))

job_inserted : ChangesDatabase st_5 1 with_job
    (inserted_sent (record { inserted = waiting_answer ∷ []; deleted = [] }) st_5) st_6
job_inserted = insert_changes st_5 with_job (record { inserted = waiting_answer ∷ []; deleted = [] }) refl alone_5
    (codes "jobs", job_row, λ e. let no : false ≡ true = e in cc)
    (λ n q found. by q (bytes_eq (codes "waiting") n) found)
  where
    by : (q : Listed) (b : Bool) → cond b (Some (a_query waiting_query)) None ≡ Some q
        → IsAffected with_machine with_job q
        × IsDeltaBetween (AnswersOver with_machine q) (AnswersOver with_job q)
        (record { inserted = waiting_answer ∷ []; deleted = [] })
    by q true e = let same : a_query waiting_query ≡ q = cc in
        subst (λ (q : Listed). IsAffected with_machine with_job q
        × IsDeltaBetween (AnswersOver with_machine q) (AnswersOver with_job q)
        (record { inserted = waiting_answer ∷ []; deleted = [] })) same (job_comes, answer_comes)
    by q false e = absurd (cc)

the_page : IsPage (AnswersOver with_job (a_query waiting_query)) [] (waiting_answer ∷ []) 10 true
the_page = record {
  answers = All-cons (IsAnswerOver with_job waiting_query) waiting_answer [] the_answer
      (All-nil (IsAnswerOver with_job waiting_query));
  different = λ i j d lt within. absurd (omega (arith, lt, within));
  at_most = omega arith;
  full = λ e. absurd (cc);
  last_is = (λ e t h. (0, omega arith, sym (answer_is t h)), λ h. refl);
}

pub readme_happens : ReadmeHappens
readme_happens = (
  only_sent 1 (replied ∷ []),
  st_1,
  (refl, inl (refl, refl)),
  refl,
  (
    only_sent 1 (replied ∷ []),
    st_2,
    (refl, inl (refl, refl)),
    refl,
    (
      inserted_sent (record { inserted = []; deleted = [] }) st_2,
      st_3,
      (refl, inl machine_inserted),
      refl,
      (
        only_sent 1 (ok ∷ []),
        st_4,
        (refl, inl (waiting_admitted, refl, (refl, refl))),
        refl,
        (
          only_sent 1 (ok ∷ []),
          st_5,
          (refl, inl (refl, (refl, refl))),
          refl,
          (
            inserted_sent (record { inserted = waiting_answer ∷ []; deleted = [] }) st_5,
            st_6,
            (refl, inl job_inserted),
            refl,
            (
              only_sent 1 (ok ∷ []),
              st_7,
              (refl, inl (refl, refl, (refl, refl))),
              refl,
              (
                only_sent 1 (page (waiting_answer ∷ []) true ∷ []),
                st_8,
                (refl, inl (waiting_answer ∷ [], true, the_page, (refl, refl))),
                refl,
                tt,
              ),
            ),
          ),
        ),
      ),
    ),
  ),
)

-- ---- it happens only so

-- what is known of a state
pub record Stands (st : Core) (db : Database) (qs : List Listed) (x : Client) : Type 0 where
  pub db_is : st.db ≡ db
  pub queries_is : st.queries ≡ qs
  pub client_is : st.client 1 ≡ x

refusal_is : (m : CoreMessage) (c : CoreCommand) (old : Core) (sent : Sent) (new : Core) (ms : List CoreMessage)
    → RefusesCommand old 1 c sent new → sent 1 ≡ m ∷ ms → (m ≡ refused) ⊎ (m ≡ not_free_connex)
refusal_is m c old sent new ms h e =
    let said : h.message ∷ [] ≡ m ∷ ms = sym (ap (λ (f : Sent). f 1) h.is_sent) ∙ e in
    let same : h.message ≡ m = cc in
    subst (λ k. (k ≡ refused) ⊎ (k ≡ not_free_connex)) same (refusals c h.message h.may)

accepted : (old : Core) (c : CoreCommand) (sent : Sent) (new : Core) (m : CoreMessage) (ms : List CoreMessage)
    → CoreStep old (says 1 c) sent new → sent 1 ≡ m ∷ ms → (m ≡ refused → ⊥) → (m ≡ not_free_connex → ⊥)
    → Accepts old 1 c sent new
accepted old c sent new m ms h e plain free = by h.1
  where
    neither : (m ≡ refused) ⊎ (m ≡ not_free_connex) → ⊥
    neither (inl k) = plain k
    neither (inr k) = free k

    by : Accepts old 1 c sent new ⊎ RefusesCommand old 1 c sent new → Accepts old 1 c sent new
    by (inl k) = k
    by (inr k) = absurd (neither (refusal_is m c old sent new ms k e))

reply_stands : (old : Core) (m : CoreMessage) (f : Client → Client) (sent : Sent) (new : Core) (db : Database)
    (qs : List Listed) (x : Client) → OnlyReplies old 1 m (f (old.client 1)) sent new → Stands old db qs x
    → Stands new db qs (f x)
reply_stands old m f sent new db qs x r h = record {
  db_is = ap (λ (st : Core). st.db) r.1 ∙ h.db_is;
  queries_is = ap (λ (st : Core). st.queries) r.1 ∙ h.queries_is;
  client_is = ap (λ (st : Core). st.client 1) r.1 ∙ ap f h.client_is;
}

-- an insert is a change
insert_is : (old : Core) (relation : Bytes) (row : Tuple) (sent : Sent) (new : Core) (m : CoreMessage)
    (ms : List CoreMessage) (db : Database) (qs : List Listed) (x : Client) → Stands old db qs x → x.batch ≡ None
    → CoreStep old (says 1 (edit (inserting relation row))) sent new → sent 1 ≡ m ∷ ms
    → (m ≡ refused → ⊥) → (m ≡ not_free_connex → ⊥)
    → ChangesDatabase old 1 (copies_set db relation row (suc (db relation row))) sent new
insert_is old relation row sent new m ms db qs x st none h e plain free =
    let none_open : (old.client 1).batch ≡ None = ap (λ (y : Client). y.batch) st.client_is ∙ none in
    let edits : Edits old 1 (inserting relation row ∷ []) sent new =
    subst (λ o. MatchOption o (Edits old 1 (inserting relation row ∷ []) sent new)
    (λ es. OnlyReplies old 1 ok (record (old.client 1) { batch = Some (es ++ inserting relation row ∷ []) }) sent new))
    none_open (accepted old (edit (inserting relation row)) sent new m ms h e plain free) in
    subst (λ (d : Database). ChangesDatabase old 1 (copies_set d relation row (suc (d relation row))) sent new) st.db_is edits

-- and its client goes on, if it is connected afterwards
goes_on : (old : Core) (db : Database) (sent : Sent) (new : Core) (h : ChangesDatabase old 1 db sent new)
    → (new.client 1).connected ≡ true → StaysConnected old h.affected new 1 (sent 1) (ok ∷ [])
goes_on old db sent new h there = by (h.clients 1)
  where
    by : StaysConnected old h.affected new 1 (sent 1) (only_sent 1 (ok ∷ []) 1)
        ⊎ ((new.client 1 ≡ nobody) × ((old.client 1).connected ≡ false → sent 1 ≡ []))
        → StaysConnected old h.affected new 1 (sent 1) (ok ∷ [])
    by (inl g) = g
    by (inr g) = let no : (new.client 1).connected ≡ false = ap (λ (y : Client). y.connected) g.0 in absurd (cc (no, there))

change_stands : (old : Core) (db : Database) (sent : Sent) (new : Core) (h : ChangesDatabase old 1 db sent new)
    (before : Database) (qs : List Listed) (x : Client) → Stands old before qs x → (new.client 1).connected ≡ true
    → Stands new db qs (client_overtaken h.affected x)
change_stands old db sent new h before qs x st there = record {
  db_is = h.db_is;
  queries_is = h.queries_stay ∙ st.queries_is;
  client_is = (goes_on old db sent new h there).becomes ∙ ap (client_overtaken h.affected) st.client_is;
}

abbrev pub fresh : Client
fresh = record nobody { connected = true }

abbrev pub subscriber : Client
subscriber = with_subscription (codes "waiting") true fresh

abbrev pub readers : List Listed
readers = a_query waiting_query ∷ []

-- the delta of the job has the one answer
delta_is : (old : Core) (sent : Sent) (new : Core) (inserted : Tuple) → Stands old with_machine readers subscriber
    → (h : ChangesDatabase old 1 with_job sent new) → (new.client 1).connected ≡ true
    → sent 1 ≡ delta (codes "waiting") (record { inserted = inserted ∷ []; deleted = [] }) 2 ∷ ok ∷ []
    → inserted ≡ waiting_answer
delta_is old sent new inserted st h there e =
    let g = goes_on old with_job sent new h there in
    let w : Bytes = codes "waiting" in
    let found : listed_of old.queries w ≡ Some (a_query waiting_query) = ap (λ qs. listed_of qs w) st.queries_is in
    let comes : IsAffected old.db with_job (a_query waiting_query) =
    subst (λ (d : Database). IsAffected d with_job (a_query waiting_query)) (sym st.db_is) job_comes in
    let yes : h.affected w ≡ true = (h.affected_if w (a_query waiting_query) found).1 comes in
    let reads : (old.client 1).subscribed w ≡ true = ap (λ (y : Client). y.subscribed w) st.client_is in
    let due : (h.affected w && (old.client 1).subscribed w) ≡ true = ap₂ (λ b c. b && c) yes reads in
    let all : sent 1 ≡ delta w (g.delta_of w) new.seq ∷ ok ∷ [] =
    g.is_sent
    ∙ ap (λ qs. map (λ n. delta n (g.delta_of n) new.seq)
    (filter (λ n. h.affected n && (old.client 1).subscribed n) (map listed_name qs)) ++ ok ∷ []) st.queries_is
    ∙ ap (λ b. map (λ n. delta n (g.delta_of n) new.seq) (cond b (w ∷ []) []) ++ ok ∷ []) due in
    let both : delta w (g.delta_of w) new.seq ∷ ok ∷ []
    ≡ delta w (record { inserted = inserted ∷ []; deleted = [] }) 2 ∷ ok ∷ [] = sym all ∙ e in
    let same : g.delta_of w ≡ record { inserted = inserted ∷ []; deleted = [] } = cc in
    let is : IsDeltaBetween (AnswersOver old.db (a_query waiting_query)) (AnswersOver new.db (a_query waiting_query))
    (record { inserted = inserted ∷ []; deleted = [] }) =
    subst (λ d. IsDeltaBetween (AnswersOver old.db (a_query waiting_query))
    (AnswersOver new.db (a_query waiting_query)) d) same (g.are_deltas w (a_query waiting_query) found due) in
    answer_is inserted (subst (λ (d : Database). IsAnswerOver d waiting_query inserted) h.db_is
    (is.inserted.gained 0 inserted (omega arith)).0)

-- and so has the page
page_is : (old : Core) (sent : Sent) (new : Core) (listed : Tuple) (x : Client)
    → Stands old with_job readers (client_with_cursor (codes "c") (Some (valid (codes "waiting") [] false)) x)
    → CoreStep old (says 1 (next (codes "c") 10)) sent new → sent 1 ≡ page (listed ∷ []) true ∷ []
    → listed ≡ waiting_answer
page_is old sent new listed x st h e =
    let c : Bytes = codes "c" in
    let a : Accepts old 1 (next c 10) sent new =
    accepted old (next c 10) sent new (page (listed ∷ []) true) [] h e (λ k. cc) (λ k. cc) in
    let cursor_is : (old.client 1).cursor c ≡ Some (valid (codes "waiting") [] false) =
    ap (λ (y : Client). y.cursor c) st.client_is in
    let r : ReturnsPage old 1 c 10 (valid (codes "waiting") [] false) sent new =
    subst (λ o. IsSomeAnd o (λ k. ReturnsPage old 1 c 10 k sent new)) cursor_is a in
    let f = some_there (listed_of old.queries (codes "waiting")) (λ l.
    (ts : List Tuple) × (last : Bool) × IsPage (AnswersOver old.db l) [] ts 10 last
    × OnlyReplies old 1 (page ts last)
    (client_with_cursor c (Some (valid (codes "waiting") ([] ++ ts) last)) (old.client 1)) sent new) r in
    let found : listed_of old.queries (codes "waiting") ≡ Some (a_query waiting_query) =
    ap (λ qs. listed_of qs (codes "waiting")) st.queries_is in
    let some : Some f.0 ≡ Some (a_query waiting_query) = sym f.1 ∙ found in
    let query_is : f.0 ≡ a_query waiting_query = cc in
    let paged : IsPage (AnswersOver old.db f.0) [] f.2.0 10 f.2.1 = f.2.2 in
    let said : page f.2.0 f.2.1 ∷ [] ≡ page (listed ∷ []) true ∷ [] = sym (ap (λ (k : Sent). k 1) f.2.3.0) ∙ e in
    let one : f.2.0 ≡ listed ∷ [] = cc in
    let answers : All (AnswersOver old.db f.0) (listed ∷ []) =
    subst (λ ts. All (AnswersOver old.db f.0) ts) one paged.answers in
    answer_is listed (subst (λ (d : Database). IsAnswerOver d waiting_query listed) st.db_is
    (subst (λ q. AnswersOver old.db q listed) query_is (answers 0 listed (omega arith))))

start_stands : Stands one_client no_rows [] fresh
start_stands = record { db_is = refl; queries_is = refl; client_is = refl }

pub readme_only_so : ReadmeOnlySo
readme_only_so inserted listed d1 =
    let d2 = d1.4 in
    let d3 = d2.4 in
    let d4 = d3.4 in
    let d5 = d4.4 in
    let d6 = d5.4 in
    let d7 = d6.4 in
    let d8 = d7.4 in
    let s1 : Stands d1.1 no_rows [] fresh = reply_stands one_client replied (λ x. x) d1.0 d1.1 no_rows [] fresh
    (accepted one_client ask d1.0 d1.1 replied [] d1.2 d1.3 (λ k. cc) (λ k. cc)) start_stands in
    let s2 : Stands d2.1 no_rows [] fresh = reply_stands d1.1 replied (λ x. x) d2.0 d2.1 no_rows [] fresh
    (accepted d1.1 ask d2.0 d2.1 replied [] d2.2 d2.3 (λ k. cc) (λ k. cc)) s1 in
    let h3 : ChangesDatabase d2.1 1 with_machine d3.0 d3.1 =
    insert_is d2.1 (codes "machines") machine_row d3.0 d3.1 ok [] no_rows [] fresh s2 refl d3.2 d3.3
    (λ k. cc) (λ k. cc) in
    let s3 : Stands d3.1 with_machine [] fresh =
    change_stands d2.1 with_machine d3.0 d3.1 h3 no_rows [] fresh s2 d4.2.0 in
    let a4 : Accepts d3.1 1 (register (a_query waiting_query)) d4.0 d4.1 =
    accepted d3.1 (register (a_query waiting_query)) d4.0 d4.1 ok [] d4.2 d4.3 (λ k. cc) (λ k. cc) in
    let r4 : d4.1 ≡ record d3.1 { queries = (d3.1).queries ++ a_query waiting_query ∷ [] } = a4.2.1 in
    let s4 : Stands d4.1 with_machine readers fresh = record {
      db_is = ap (λ (st : Core). st.db) r4 ∙ s3.db_is;
      queries_is = ap (λ (st : Core). st.queries) r4 ∙ ap (λ qs. qs ++ a_query waiting_query ∷ []) s3.queries_is;
      client_is = ap (λ (st : Core). st.client 1) r4 ∙ s3.client_is;
    } in
    let a5 : Accepts d4.1 1 (subscribe (codes "waiting")) d5.0 d5.1 =
    accepted d4.1 (subscribe (codes "waiting")) d5.0 d5.1 ok [] d5.2 d5.3 (λ k. cc) (λ k. cc) in
    let s5 : Stands d5.1 with_machine readers subscriber =
    reply_stands d4.1 ok (with_subscription (codes "waiting") true) d5.0 d5.1 with_machine readers fresh a5.1 s4 in
    let h6 : ChangesDatabase d5.1 1 with_job d6.0 d6.1 =
    insert_is d5.1 (codes "jobs") job_row d6.0 d6.1
    (delta (codes "waiting") (record { inserted = inserted ∷ []; deleted = [] }) 2) (ok ∷ []) with_machine readers
    subscriber s5 refl d6.2 d6.3 (λ k. cc) (λ k. cc) in
    let s6 : Stands d6.1 with_job readers subscriber =
    change_stands d5.1 with_job d6.0 d6.1 h6 with_machine readers subscriber s5 d7.2.0 in
    let a7 : Accepts d6.1 1 (open_cursor (codes "c") (codes "waiting")) d7.0 d7.1 =
    accepted d6.1 (open_cursor (codes "c") (codes "waiting")) d7.0 d7.1 ok [] d7.2 d7.3 (λ k. cc) (λ k. cc) in
    let s7 : Stands d7.1 with_job readers
    (client_with_cursor (codes "c") (Some (valid (codes "waiting") [] false)) subscriber) =
    reply_stands d6.1 ok (client_with_cursor (codes "c") (Some (valid (codes "waiting") [] false))) d7.0 d7.1 with_job readers
    subscriber a7.2 s6 in
    (delta_is d5.1 d6.0 d6.1 inserted s5 h6 d7.2.0 d6.3, page_is d7.1 d8.0 d8.1 listed subscriber s7 d8.2 d8.3)
