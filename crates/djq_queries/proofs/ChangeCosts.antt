-- What a change of groups that come and groups that go counts: the queries between have the numbers of those before.
use Rattle.std.proofs.Common.{ℕ, List, [], ◌∷◌, ◌+◌, ◌*◌, ◌≡◌, ◌≤◌, Bool, true, false, refl, sym, ap, ◌∙◌, subst}
use Rattle.std.proofs.Common.{arith, length}
use Rattle.std.specs.Prelude.{Option, None, Some, IsSomeAnd, Contains, filter, if◌then◌else◌, sum_by}
use Rattle.std.proofs.lemmas.List.Sums.{sum_by-cons}
use Rattle.djq_model.specs.declared.query.Query.{Query}
use Rattle.djq_model.specs.Answer.{IsAnswer}
use Rattle.djq_store_spec.specs.Delta.{Change, IsDelta}
use Rattle.djq_store_spec.specs.Registering.{most_steps}
use Rattle.djq_hypergraph.specs.Flat.{IsFlat}
use Rattle.djq_protocol.specs.Hypergraph.{edges_of, head_of}
use Rattle.djq_query.specs.Numbered.{Numbered}
use Rattle.djq_database.specs.Catalog.{Catalog}
use Rattle.djq_live_query.specs.Live.{Live, IsKept, SameQuery}
use Rattle.djq_live_query.specs.Updating.{IsDeltaOf, HasFewRows, LeavesAreSmall}
use Rattle.djq_reach.specs.declared.group.Group.{Group}
use Rattle.djq_reach.specs.Places.{place_at, is_reader, readers_at, watched_at}
use Rattle.djq_reach.specs.Reaching.{DoneAt, Reach, AllAt}
use Rattle.djq_reach.specs.Tending.{DeltasOf, IsBounded}
use Rattle.djq_reach.specs.Grouping.{batch_cost, batch_cost_at}
use Rattle.djq_reach.proofs.Batches.{sums_under}
use Rattle.djq_queries.specs.Going.{BoundedAt, gone_group_work}
use Rattle.djq_queries.specs.Changing.{IsBoundedIn}
use Rattle.djq_queries.proofs.Works.{gone_group}

module _ (ps : List ℕ) (gs mid : List (Option Live)) (same : Reach ps SameQuery gs mid) where
  -- a delta of a query is one of it as it is between
  pub deltas_mid : (places ws : List ℕ) (c d : Catalog) (f : ℕ → List Change) → DeltasOf places ws gs c d f
      → DeltasOf places ws mid c d f
  deltas_mid places ws c d f h i m e w there = by (is_reader ps i) (place_at gs i) refl (place_at mid i) there (same.each i)
    where
      by : (b : Bool) (p : Option Live) → place_at gs i ≡ p → (q : Option Live) → q ≡ Some m → DoneAt SameQuery b p q
          → IsDeltaOf m c d (f i)
      by false p ep q eq t = h i m e w (ep ∙ sym t ∙ eq)
      by true None ep None eq t = absurd cc
      by true None ep (Some x) eq t = absurd t
      by true (Some l) ep None eq t = absurd t
      by true (Some l) ep (Some x) eq t =
          subst (λ (o : Option Live). IsSomeAnd o (λ y. IsDeltaOf y c d (f i))) eq
          (subst (λ (q : Query). IsDelta (IsAnswer c.relations q) (IsAnswer d.relations q) (f i)) (sym t.query)
          (h i l e w ep))

  cost_same : (ats : List ℕ) (cs : List Change) (i : ℕ) → batch_cost ats cs (place_at mid i)
      ≡ batch_cost ats cs (place_at gs i)
  cost_same ats cs i = by (is_reader ps i) (place_at gs i) (place_at mid i) (same.each i)
    where
      by : (b : Bool) (p q : Option Live) → DoneAt SameQuery b p q → batch_cost ats cs q ≡ batch_cost ats cs p
      by false p q e = ap (batch_cost ats cs) e
      by true None None t = refl
      by true None (Some m) t = absurd t
      by true (Some l) None t = absurd t
      by true (Some l) (Some m) t =
          ap (λ (n : Numbered). (length cs + length (filter (λ a. is_reader ats a.relation) n.atoms))
          * most_steps (length m.query.head)) t.numbered
          ∙ ap (λ (q : Query). (length cs + length (filter (λ a. is_reader ats a.relation) l.numbered.atoms))
          * most_steps (length q.head)) t.query

  -- listing counts the same of them
  pub costs_mid : (ws ats : List ℕ) (f : ℕ → List Change) (xs : List ℕ)
      → sum_by (batch_cost_at ws mid ats f) xs ≤ sum_by (batch_cost_at ws gs ats f) xs
  costs_mid ws ats f xs = sums_under (batch_cost_at ws mid ats f) (batch_cost_at ws gs ats f) xs
      (λ i e.
      let one = ap (λ (k : ℕ). if watched_at ws i then k else 0) (cost_same ats (f i) i) in
      omega (arith, one))

  -- and so do updates
  pub works_mid : (readers : List (List ℕ)) (n : ℕ) (flat : ℕ → Bool) (groups : List Group)
      → sum_by (gone_group_work readers mid n flat) groups ≤ sum_by (gone_group_work readers gs n flat) groups
  works_mid readers n flat [] = omega arith
  works_mid readers n flat (g ∷ groups) =
      let rest = works_mid readers n flat groups in
      let one = gone_group readers ps gs mid g n flat (readers_at readers g.relation.at) g.rows same refl refl in
      omega (
        arith,
        rest,
        one,
        sum_by-cons (gone_group_work readers mid n flat) g groups,
        sum_by-cons (gone_group_work readers gs n flat) g groups,
      )

  -- what bounds the queries by the catalog between bounds them there
  pub bounded_mid : (places : List ℕ) (e : Catalog) (n : ℕ) (flat : ℕ → Bool) → LeavesAreSmall
      → AllAt places mid (λ m. IsKept e m)
      → ((i : ℕ) → is_reader places i ≡ true → IsSomeAnd (place_at gs i) (IsBoundedIn e n (flat i)))
      → BoundedAt places mid n flat
  bounded_mid places e n flat law kept all i at =
      by (is_reader ps i) (place_at gs i) (place_at mid i) (same.each i) (kept i at) (all i at)
    where
      few : (l m : Live) → m.query ≡ l.query → HasFewRows e l n → HasFewRows e m n
      few l m is h = record {
        each = λ a there. h.each a (subst (λ (x : Query). Contains x.atoms a) is there);
      }

      one : (f : Bool) (l m : Live) → m.query ≡ l.query → IsKept e m → IsBoundedIn e n f l → IsBounded n f m
      one true l m is k h = subst (λ (x : Query). IsFlat (edges_of x) (head_of x)) (sym is) h
      one false l m is k h = law e m n k (few l m is h)

      by : (b : Bool) (p q : Option Live) → DoneAt SameQuery b p q → IsSomeAnd q (λ m. IsKept e m)
          → IsSomeAnd p (IsBoundedIn e n (flat i)) → IsSomeAnd q (IsBounded n (flat i))
      by b p None t k h = absurd k
      by b None (Some m) t k h = absurd h
      by false (Some l) (Some m) t k h =
          subst (λ (o : Option Live). IsSomeAnd o (IsBounded n (flat i))) (sym t)
          (one (flat i) l l refl (subst (λ (o : Option Live). IsSomeAnd o (λ x. IsKept e x)) t k) h)
      by true (Some l) (Some m) t k h = one (flat i) l m t.query k h
