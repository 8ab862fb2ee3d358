-- What the lines that are loaded make of a store whose snapshot restores it.
use Rattle.std.proofs.Common.{ℕ, List, [], ◌∷◌, ◌++◌, ◌≡◌, Bool, true, false, length, refl}
use Rattle.std.proofs.Common.{sym, ◌∙◌, subst}
use Rattle.std.specs.Prelude.{Option, None, Some, All, nat_le, is_some}
use Rattle.std.proofs.lemmas.List.Elements.{All-nil, All-cons, All-head, All-tail, All-weaker, All-push}
use Rattle.std.proofs.lemmas.List.Sorted.{All-permutation}
use Rattle.djq_model.specs.declared.relation.ColumnType.{ColumnType}
use Rattle.djq_model.specs.declared.relation.Relation.{Relation}
use Rattle.djq_model.specs.declared.relation.CountedRow.{CountedRow}
use Rattle.djq_model.specs.declared.query.Query.{Query}
use Rattle.djq_model.specs.Data.{Bytes, Tuple, bytes_eq, drop_first, tuple_eq, relation_of, tuples_in, plain_of}
use Rattle.djq_model.specs.Data.{counted_in, counted_of, rows_of, with_row, with_copies, without_copies}
use Rattle.djq_model.specs.Known.{texts_in, knows_all, all_learned}
use Rattle.djq_model.specs.Listed.{Listed, a_query, a_union, listed_name, listed_of, queries_of}
use Rattle.djq_model.proofs.Copies.{tuples_with_row, tuples_with_copies, tuples_without, tuples_moved}
use Rattle.djq_protocol.specs.declared.limits.TheConstants.{QUERIES}
use Rattle.djq_protocol.specs.declared.answer.Refusal.{Refusal}
use Rattle.djq_protocol.specs.declared.answer.Refusal.TheVariants.{Taken, Limit}
use Rattle.djq_protocol.specs.QueryFault.{query_faults, query_fault}
use Rattle.djq_protocol.specs.Variables.{constants_of}
use Rattle.djq_store_spec.specs.Relations.{with_rows}
use Rattle.djq_store_spec.specs.Registering.{query_refusal, is_member}
use Rattle.djq_store_spec.specs.Rows.{with_copies_of}
use Rattle.djq_store_spec.specs.Store.{Store}
use Rattle.djq_store_spec.specs.Union.{AreUnder}
use Rattle.djq_machine.specs.Step.{SameRelations}
use Rattle.djq_run_laws.specs.Form.{listed_texts}
use Rattle.djq_run_laws.proofs.Forms.{AllFail, all_fail}
use Rattle.djq_run_laws.proofs.Lists.{all_changed, all_dropped, all_found, without_dropped}
use Rattle.djq_run_laws.proofs.RegisteredQueries.{under_registered}
use Rattle.djq_run_laws.proofs.RowCommands.{more_types, types_with_rows, types_moved}
use Rattle.djq_run_laws.proofs.SoundStores.{TypesStay}
use Rattle.djq_log_laws.specs.Kept.{AreKnown}
use Rattle.djq_snapshot.specs.Restorable.{HasNoFault, KnowsRows, IsRestorable}
use Rattle.djq_snapshot.proofs.Faults.{no_fault_still}
use Rattle.djq_snapshot.proofs.Names.{none_refuses}
use Rattle.djq_snapshot.proofs.Order.{still_known, all_still, learned_each, follow_more, follow_dropped}

-- ---- parts of it

-- all texts of a row are known
abbrev pub KnowsRow : List Bytes → Tuple → Type 0
KnowsRow texts row = knows_all texts (texts_in row) ≡ true

abbrev KnowsConstants : List Bytes → Listed → Type 0
KnowsConstants texts l = knows_all texts (listed_texts l) ≡ true

pub rows_still : (a b : List Bytes) → AreKnown a b → (rows : List Tuple) → All (KnowsRow a) rows → All (KnowsRow b) rows
rows_still a b f rows h = All-weaker (KnowsRow a) (KnowsRow b) (λ row k. all_still a b (texts_in row) f k) rows h

constants_still : (a b : List Bytes) → AreKnown a b → (ls : List Listed) → All (KnowsConstants a) ls
    → All (KnowsConstants b) ls
constants_still a b f ls h =
    All-weaker (KnowsConstants a) (KnowsConstants b) (λ l k. all_still a b (listed_texts l) f k) ls h

-- the rows of the relation of a name
rows_in : (rs : List Relation) (n : Bytes) (texts : List Bytes) (o : Option Relation) → relation_of rs n ≡ o
    → All (KnowsRows texts) rs → All (KnowsRow texts) (plain_of (counted_in o))
rows_in rs n texts None e h = All-nil (KnowsRow texts)
rows_in rs n texts (Some r) e h = all_found (KnowsRows texts) (λ (x : Relation). bytes_eq x.name n) rs r h e

pub rows_known : (st : Store) (n : Bytes) → IsRestorable st → All (KnowsRow st.texts) (rows_of st.relations n)
rows_known st n w = rows_in st.relations n st.texts (relation_of st.relations n) refl w.rows

faults_still : (rs rs' : List Relation) → TypesStay rs rs' → (ls : List Listed) → All (HasNoFault rs) ls
    → All (HasNoFault rs') ls
faults_still rs rs' still ls h =
    All-weaker (HasNoFault rs) (HasNoFault rs')
    (λ l k. All-weaker (λ (q : Query). query_fault rs q ≡ None) (λ (q : Query). query_fault rs' q ≡ None)
    (λ q none. no_fault_still rs rs' still q none) (queries_of l) k) ls h

-- ---- a relation more, and other rows in one

pub made_restorable : (st : Store) (name : Bytes) (types : List ColumnType) → IsRestorable st
    → IsRestorable (record st { relations = st.relations ++ record { name = name; types = types; rows = [] } ∷ [] })
made_restorable st name types w = record {
  faults = faults_still st.relations (st.relations ++ record { name = name; types = types; rows = [] } ∷ [])
      (λ n known. more_types st.relations (record { name = name; types = types; rows = [] }) n known) st.queries
      w.faults;
  order = w.order;
  rows = All-push (KnowsRows st.texts) st.relations (record { name = name; types = types; rows = [] }) w.rows
      (All-nil (KnowsRow st.texts));
  constants = w.constants;
}

pub changed_restorable : (st : Store) (name : Bytes) (rows : List CountedRow) (more : List Bytes) (n : ℕ)
    → All (KnowsRow (all_learned st.texts more)) (plain_of rows) → IsRestorable st
    → IsRestorable (record st {
      relations = with_rows st.relations name rows;
      texts = all_learned st.texts more;
      seq = n;
    })
changed_restorable st name rows more n known w =
    let texts = all_learned st.texts more in
    let still = still_known st.texts more in
    record {
      faults = faults_still st.relations (with_rows st.relations name rows)
          (λ m there. types_with_rows st.relations name rows m) st.queries w.faults;
      order = w.order;
      rows = all_changed (KnowsRows texts) (λ (r : Relation). bytes_eq r.name name)
          (λ (r : Relation). record r { rows = rows }) st.relations
          (All-weaker (KnowsRows st.texts) (KnowsRows texts)
          (λ r h. rows_still st.texts texts still (tuples_in r) h) st.relations w.rows) (λ x found h. known);
      constants = constants_still st.texts texts still st.queries w.constants;
    }

-- one that wasn't there
pub added_restorable : (st : Store) (name : Bytes) (row : Tuple) (n : ℕ) → IsRestorable st
    → IsRestorable (record st {
      relations = with_rows st.relations name (with_row (counted_of st.relations name) row);
      texts = all_learned st.texts (texts_in row);
      seq = n;
    })
added_restorable st name row n w =
    let texts = all_learned st.texts (texts_in row) in
    changed_restorable st name (with_row (counted_of st.relations name) row) (texts_in row) n
    (subst (All (KnowsRow texts)) (sym (tuples_with_row (counted_of st.relations name) row))
    (All-push (KnowsRow texts) (rows_of st.relations name) row
    (rows_still st.texts texts (still_known st.texts (texts_in row)) (rows_of st.relations name) (rows_known st name w))
    (learned_each st.texts (texts_in row)))) w

-- another number of copies
pub copied_restorable : (st : Store) (name : Bytes) (row : Tuple) (k : ℕ) → IsRestorable st
    → IsRestorable (record st { relations = with_copies_of st.relations name row k })
copied_restorable st name row k w =
    changed_restorable st name (with_copies (counted_of st.relations name) row k) [] st.seq
    (subst (All (KnowsRow st.texts)) (sym (tuples_with_copies (counted_of st.relations name) row k))
    (rows_known st name w)) w

-- none any more
pub gone_restorable : (st : Store) (name : Bytes) (row : Tuple) (n : ℕ) → IsRestorable st
    → IsRestorable (record st {
      relations = with_rows st.relations name (without_copies (counted_of st.relations name) row);
      seq = n;
    })
gone_restorable st name row n w =
    changed_restorable st name (without_copies (counted_of st.relations name) row) [] n
    (subst (All (KnowsRow st.texts))
    (sym (tuples_without (counted_of st.relations name) row ∙ without_dropped (rows_of st.relations name) row))
    (all_dropped (KnowsRow st.texts) (λ r. tuple_eq r row) (rows_of st.relations name) (rows_known st name w))) w

-- rows in another order
pub moved_restorable : (st : Store) (rs : List Relation) → SameRelations st.relations rs → IsRestorable st
    → IsRestorable (record st { relations = rs })
moved_restorable st rs h w = record {
  faults = faults_still st.relations rs (λ n there. types_moved st.relations rs h n) st.queries w.faults;
  order = w.order;
  rows = all_moved st.relations rs h w.rows;
  constants = w.constants;
}
  where
    all_moved : (us bs : List Relation) → SameRelations us bs → All (KnowsRows st.texts) us
        → All (KnowsRows st.texts) bs
    all_moved [] [] k all = all
    all_moved (a ∷ us) (b ∷ bs) k all =
        All-cons (KnowsRows st.texts) b bs
        (All-permutation (KnowsRow st.texts) (tuples_in a) (tuples_in b) (tuples_moved a.rows b.rows k.2)
        (All-head (KnowsRows st.texts) a us all))
        (all_moved us bs k.3 (All-tail (KnowsRows st.texts) a us all))
    all_moved [] (b ∷ bs) k all = absurd k
    all_moved (a ∷ us) [] k all = absurd k

-- and more texts that are known
pub known_restorable : (st : Store) (texts : List Bytes) → AreKnown st.texts texts → IsRestorable st
    → IsRestorable (record st { texts = texts })
known_restorable st texts still w = record {
  faults = w.faults;
  order = w.order;
  rows = All-weaker (KnowsRows st.texts) (KnowsRows texts)
      (λ r h. rows_still st.texts texts still (tuples_in r) h) st.relations w.rows;
  constants = constants_still st.texts texts still st.queries w.constants;
}

-- ---- what is registered

front_fails : (cs ds : List (Bool × Refusal)) → AllFail (cs ++ ds) → AllFail cs
front_fails [] ds h = tt
front_fails (c ∷ cs) ds h = (h.0, front_fails cs ds h.1)

no_fault : (st : Store) (q : Query) → query_refusal st q ≡ None → query_fault st.relations q ≡ None
no_fault st q none =
    none_refuses (query_faults st.relations q)
    (front_fails (query_faults st.relations q) ((nat_le QUERIES (length st.queries), Limit) ∷ [])
    (all_fail ((is_some (listed_of st.queries q.name), Taken) ∷ query_faults st.relations q
    ++ (nat_le QUERIES (length st.queries), Limit) ∷ []) none).1)

pub query_restorable : (st : Store) (q : Query) → query_refusal st q ≡ None → IsRestorable st
    → IsRestorable (record st {
      texts = all_learned st.texts (texts_in (constants_of q));
      queries = st.queries ++ a_query q ∷ [];
    })
query_restorable st q none w =
    let texts = all_learned st.texts (texts_in (constants_of q)) in
    let still = still_known st.texts (texts_in (constants_of q)) in
    record {
      faults = All-push (HasNoFault st.relations) st.queries (a_query q) w.faults
          (All-cons (λ (p : Query). query_fault st.relations p ≡ None) q [] (no_fault st q none)
          (All-nil (λ (p : Query). query_fault st.relations p ≡ None)));
      order = follow_more [] st.queries (a_query q) w.order
          (All-nil (λ (p : Query). listed_of st.queries p.name ≡ Some (a_query p)));
      rows = All-weaker (KnowsRows st.texts) (KnowsRows texts)
          (λ r h. rows_still st.texts texts still (tuples_in r) h) st.relations w.rows;
      constants = All-push (KnowsConstants texts) st.queries (a_query q)
          (constants_still st.texts texts still st.queries w.constants)
          (learned_each st.texts (texts_in (constants_of q)));
    }

pub union_restorable : (st : Store) (name : Bytes) (members : List Bytes) (qs : List Query)
    → AreUnder st.queries members qs → IsRestorable st
    → IsRestorable (record st { queries = st.queries ++ a_union name qs ∷ [] })
union_restorable st name members qs under w =
    let registered = under_registered st.queries members qs under in
    record {
      faults = All-push (HasNoFault st.relations) st.queries (a_union name qs) w.faults
          (All-weaker (λ (q : Query). listed_of st.queries q.name ≡ Some (a_query q))
          (λ (q : Query). query_fault st.relations q ≡ None)
          (λ q is. All-head (λ (p : Query). query_fault st.relations p ≡ None) q []
          (all_found (HasNoFault st.relations) (λ (l : Listed). bytes_eq (listed_name l) q.name) st.queries (a_query q)
          w.faults is)) qs registered);
      order = follow_more [] st.queries (a_union name qs) w.order registered;
      rows = w.rows;
      constants = All-push (KnowsConstants st.texts) st.queries (a_union name qs) w.constants refl;
    }

pub drop_restorable : (st : Store) (name : Bytes) → is_member st.queries name ≡ false → IsRestorable st
    → IsRestorable (record st { queries = drop_first (λ l. bytes_eq (listed_name l) name) st.queries })
drop_restorable st name free w = record {
  faults = all_dropped (HasNoFault st.relations) (λ (l : Listed). bytes_eq (listed_name l) name) st.queries w.faults;
  order = follow_dropped name st.queries free w.order;
  rows = w.rows;
  constants = all_dropped (KnowsConstants st.texts) (λ (l : Listed). bytes_eq (listed_name l) name) st.queries
      w.constants;
}
