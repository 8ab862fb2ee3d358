-- A worked example: the snapshot of a store with one relation, two rows and one query, and that it restores it.
use Rattle.std.specs.Prelude.{ℕ, List, [], ◌∷◌, ◌≡◌, ◌≢◌, true, None, Some, pos, codes, AllPairs}
use Rattle.std.proofs.Common.{refl, sym, subst, arith}
use Rattle.std.proofs.lemmas.List.Elements.{All-nil, All-cons}
use Rattle.std.proofs.lemmas.List.Kept.{AllPairs-cons}
use Rattle.djq_hypergraph.specs.JoinTree.{IsFreeConnex}
use Rattle.djq_hypergraph.proofs.Labels.{count_self}
use Rattle.djq_hypergraph.proofs.LabelTrees.{Rooted, hung_on}
use Rattle.djq_hypergraph.proofs.JoinTrees.{free_connex_from}
use Rattle.djq_model.specs.declared.relation.ColumnType.TheVariants.{Int as IntColumn}
use Rattle.djq_model.specs.declared.relation.Relation.{Relation}
use Rattle.djq_model.specs.declared.relation.CountedRow.{CountedRow}
use Rattle.djq_model.specs.declared.query.Query.{Query}
use Rattle.djq_model.specs.declared.query.Term.TheVariants.{Variable}
use Rattle.djq_model.specs.declared.value.Value.TheVariants.{Int}
use Rattle.djq_model.specs.Data.{Bytes, Tuple}
use Rattle.djq_model.specs.Known.{knows_all, texts_in}
use Rattle.djq_model.specs.Listed.{a_query, listed_of}
use Rattle.djq_model.specs.Typed.{fits}
use Rattle.djq_protocol.specs.Hypergraph.{edges_of, edges_from, numbers_in}
use Rattle.djq_protocol.specs.QueryFault.{query_fault}
use Rattle.djq_store_spec.specs.Store.{Store}
use Rattle.djq_run_laws.specs.Form.{listed_texts}
use Rattle.djq_run_laws.specs.Sound.{AreApart, IsConnex, IsCopyCount, IsSoundRelation, IsWithinLimits, AreWithinLimits}
use Rattle.djq_run_laws.specs.Sound.{IsSoundListed, IsSoundStore}
use Rattle.djq_run_laws.proofs.Lists.{nothing_apart}
use Rattle.djq_snapshot.specs.Snapshot.{SnapshotLine, says_relation, says_row, says_query, says_changes, snapshot_of}
use Rattle.djq_snapshot.specs.Snapshot.{RestoresTo}
use Rattle.djq_snapshot.specs.Restorable.{HasNoFault, KnowsRows, IsRestorable}
use Rattle.djq_snapshot.proofs.Parts.{snapshot_restores}

-- the row 7 twice and the row 8 once in `r`, over which `q(x) <- r(x)` is registered, after five changes
abbrev seven : CountedRow
seven = record { row = Int (pos 7) ∷ []; copies = 2 }

abbrev eight : CountedRow
eight = record { row = Int (pos 8) ∷ []; copies = 1 }

abbrev r : Relation
r = record { name = codes "r"; types = IntColumn ∷ []; rows = seven ∷ eight ∷ [] }

abbrev q : Query
q = record {
  name = codes "q";
  head = codes "x" ∷ [];
  atoms = record { relation = codes "r"; terms = Variable (codes "x") ∷ [] } ∷ [];
  comparisons = [];
}

abbrev store : Store
store = record { relations = r ∷ []; texts = []; queries = a_query q ∷ []; seq = 5 }

-- its snapshot
abbrev lines : List SnapshotLine
lines =
    says_relation (codes "r") (IntColumn ∷ [])
    ∷ says_row (codes "r") seven
    ∷ says_row (codes "r") eight
    ∷ says_query q
    ∷ says_changes 5
    ∷ []

says_this : snapshot_of store ≡ lines
says_this = refl

-- ---- the query is free-connex

abbrev edge : List ℕ
edge = 0 ∷ []

no_labels : (F : List ℕ) → Rooted F []
no_labels F = record { order = []; those = λ a. refl; tree = tt }

one_connex : IsFreeConnex (edge ∷ []) edge
one_connex =
    free_connex_from (edge ∷ []) edge
    (hung_on [] edge [] (edge ∷ []) [] (no_labels []) (λ a. refl) (count_self [] [])
    (λ x within below. absurd (omega arith)))
    (hung_on edge edge edge (edge ∷ []) [] (no_labels edge) (λ a. refl) (count_self edge [])
    (λ x within below. within))

edges_are : edges_of q ≡ edge ∷ []
unfolding edges_from numbers_in
edges_are = refl

is_connex : IsConnex (a_query q)
is_connex = subst (λ E. IsFreeConnex E edge) (sym edges_are) one_connex

-- ---- the store is sound

rows_differ : (seven.row ≡ eight.row) → ⊥
rows_differ e = absurd (cc (e))

r_sound : IsSoundRelation r
r_sound = record {
  some = omega arith;
  columns = omega arith;
  few = omega arith;
  typed = All-cons (λ t. fits r.types t ≡ true) seven.row (eight.row ∷ []) refl
      (All-cons (λ t. fits r.types t ≡ true) eight.row [] refl (All-nil (λ t. fits r.types t ≡ true)));
  once = AllPairs-cons (λ (s t : Tuple). s ≡ t → ⊥) seven.row (eight.row ∷ [])
      (All-cons (λ (t : Tuple). seven.row ≡ t → ⊥) eight.row [] rows_differ
      (All-nil (λ (t : Tuple). seven.row ≡ t → ⊥)))
      (one_alone (λ (s t : Tuple). s ≡ t → ⊥) eight.row);
  copies = All-cons (λ (c : CountedRow). IsCopyCount c.copies) seven (eight ∷ []) (omega arith, omega arith)
      (All-cons (λ (c : CountedRow). IsCopyCount c.copies) eight [] (omega arith, omega arith)
      (All-nil (λ (c : CountedRow). IsCopyCount c.copies)));
}
  where
    one_alone : {A : Type 0} (R : A → A → Type 0) (x : A) → AllPairs R (x ∷ [])
    one_alone R x = AllPairs-cons R x [] (All-nil (R x)) (nothing_apart R)

q_within : IsWithinLimits q
q_within =
    record { atoms = omega arith; variables = omega arith; head = omega arith; comparisons = omega arith }

is_sound : IsSoundStore store
is_sound = record {
  relations = one_name (codes "r");
  rows = All-cons IsSoundRelation r [] r_sound (All-nil IsSoundRelation);
  texts = nothing_apart (λ (a b : Bytes). a ≢ b);
  queries = one_name (codes "q");
  connex = All-cons IsConnex (a_query q) [] is_connex (All-nil IsConnex);
  listed = All-cons (IsSoundListed (r ∷ []) (a_query q ∷ [])) (a_query q) [] refl
      (All-nil (IsSoundListed (r ∷ []) (a_query q ∷ [])));
  limits = All-cons AreWithinLimits (a_query q) []
      (All-cons IsWithinLimits q [] q_within (All-nil IsWithinLimits)) (All-nil AreWithinLimits);
  numbers = record { relations = omega arith; texts = omega arith; queries = omega arith; seq = omega arith };
}
  where
    one_name : (n : Bytes) → AreApart (n ∷ [])
    one_name n = AllPairs-cons (λ a b. a ≢ b) n [] (All-nil (λ b. n ≢ b)) (nothing_apart (λ (a b : Bytes). a ≢ b))

is_restorable : IsRestorable store
is_restorable = record {
  faults = All-cons (HasNoFault (r ∷ [])) (a_query q) []
      (All-cons (λ p. query_fault (r ∷ []) p ≡ None) q [] refl (All-nil (λ p. query_fault (r ∷ []) p ≡ None)))
      (All-nil (HasNoFault (r ∷ [])));
  order = (All-nil (λ p. listed_of [] p.name ≡ Some (a_query p)), tt);
  rows = All-cons (KnowsRows []) r []
      (All-cons (λ t. knows_all [] (texts_in t) ≡ true) seven.row (eight.row ∷ []) refl
      (All-cons (λ t. knows_all [] (texts_in t) ≡ true) eight.row [] refl
      (All-nil (λ t. knows_all [] (texts_in t) ≡ true)))) (All-nil (KnowsRows []));
  constants = All-cons (λ l. knows_all [] (listed_texts l) ≡ true) (a_query q) [] refl
      (All-nil (λ l. knows_all [] (listed_texts l) ≡ true));
}

-- These five lines restore it.
pub example_restores : RestoresTo lines store
example_restores = subst (λ (ls : List SnapshotLine). RestoresTo ls store) says_this
    (snapshot_restores store is_sound is_restorable)
