-- Rows that go out of a relation: the rows of each relation, the answers of each query, and the queries that don't
-- read the relation.
use Rattle.std.proofs.Common.{ℕ, zero, suc, List, [], ◌∷◌, ◌++◌, ◌+◌, ◌≡◌, ◌<◌, ◌⊎◌, Bool, true, false, cond, refl, sym}
use Rattle.std.proofs.Common.{ap, ◌∙◌, subst, length, arith, inl, inr, append-nil}
use Rattle.std.specs.Prelude.{Option, None, Some, Contains, slice_get}
use Rattle.std.specs.List.{list_any}
use Rattle.std.proofs.lemmas.Bool.{cases_eq, false≢true, or_parts}
use Rattle.std.proofs.lemmas.List.{length-append}
use Rattle.std.proofs.lemmas.List.Elements.{Contains-append_left}
use Rattle.std.proofs.lemmas.Option.{same_Some}
use Rattle.djq_model.specs.declared.relation.Relation.{Relation}
use Rattle.djq_model.specs.declared.query.Query.{Query}
use Rattle.djq_model.specs.declared.query.Atom.{Atom}
use Rattle.djq_model.specs.Data.{Bytes, Tuple, bytes_eq, tuple_eq, plain_of, counted_in, relation_of, rows_of, without_row}
use Rattle.djq_model.specs.Answer.{IsAnswer}
use Rattle.djq_model.specs.Equality.{bytes_eq-decides}
use Rattle.djq_model.specs.Listed.{a_query}
use Rattle.djq_store_spec.specs.Stale.{reads}
use Rattle.djq_database.specs.Catalog.{Catalog, IsCatalog, relation_at, rows_at}
use Rattle.djq_query.specs.declared.numbered.Variable.{Variable}
use Rattle.djq_query.specs.declared.numbered.NumberedAtom.{NumberedAtom}
use Rattle.djq_answer_laws.specs.Growing.{HaveRows}
use Rattle.djq_store_spec.specs.Changes.{one_change}
use Rattle.djq_answer_laws.proofs.Choices.{answer_stays, answers_rest}
use Rattle.djq_answer_laws.proofs.Lists.{first_or_later, first_there, later_there}
use Rattle.djq_binder.specs.Asked.{AreAtomsOf}
use Rattle.djq_leaves.specs.Changes.{IsLater, WentAll, LosesAll, EachLeafChanges, without_rows}
use Rattle.djq_live_query.specs.Live.{Live, IsKept}
use Rattle.djq_live_query.proofs.Atoms.{found_at}
use Rattle.djq_live_query.proofs.Catalogs.{over_loses}
use Rattle.djq_reach.specs.Batching.{RowsCameIn}
use Rattle.djq_reach.specs.Growing.{Grows}
use Rattle.djq_reach.proofs.CatalogChains.{Names}
use Rattle.djq_queries.specs.Going.{RowsWentOut}

-- ---- names and texts

-- two catalogs, each later than the other, have the same texts
pub texts_same : (c d : Catalog) → IsLater c d → IsLater d c → d.texts ≡ c.texts
texts_same c d later back =
    later.texts ∙ ap (λ (ts : List Bytes). c.texts ++ ts) (none later.more (omega (arith, a, b, long, more)))
    ∙ append-nil c.texts
  where
    a : length d.texts ≡ length (c.texts ++ later.more)
    a = ap length later.texts

    b : length c.texts ≡ length (d.texts ++ back.more)
    b = ap length back.texts

    long : length (c.texts ++ later.more) ≡ length c.texts + length later.more
    long = length-append c.texts later.more

    more : length (d.texts ++ back.more) ≡ length d.texts + length back.more
    more = length-append d.texts back.more

    none : (xs : List Bytes) → length xs ≡ 0 → xs ≡ []
    none [] e = refl
    none (x ∷ xs) e = absurd (omega (arith, e))

pub names_same : (c d : Catalog) → IsLater c d → IsLater d c → Names c d
names_same c d later back = record {
  long = omega (arith, later.long, back.long);
  named = λ r low. later.named r low;
  texts = texts_same c d later back;
}

-- ---- rows by the name of their relation

found : (rs : List Relation) (name : Bytes)
    → ((k : ℕ) × (k < length rs) × ((relation_at rs k).name ≡ name)) ⊎ (relation_of rs name ≡ None)
found [] name = inr refl
found (r ∷ rs) name = step (bytes_eq r.name name) refl (found rs name)
  where
    step : (b : Bool) → bytes_eq r.name name ≡ b
        → ((k : ℕ) × (k < length rs) × ((relation_at rs k).name ≡ name)) ⊎ (relation_of rs name ≡ None)
        → ((k : ℕ) × (k < length (r ∷ rs)) × ((relation_at (r ∷ rs) k).name ≡ name)) ⊎ (relation_of (r ∷ rs) name ≡ None)
    step true e more = inl (zero, omega arith, (bytes_eq-decides r.name name).0 e)
    step false e (inl k) = inl (suc k.0, omega (arith, k.1), k.2)
    step false e (inr none) = inr (rw e none)

-- what holds of the rows of each place, and of none, holds of those of a name
pub by_name : (c d : Catalog) → IsCatalog c → IsCatalog d → Names c d → (name : Bytes)
    → (P : List Tuple → List Tuple → Type 0) → P [] []
    → ((k : ℕ) → k < length c.relations → (relation_at c.relations k).name ≡ name
    → P (rows_at c.relations k) (rows_at d.relations k))
    → P (rows_of c.relations name) (rows_of d.relations name)
by_name c d hc hd n name P empty each = step (found c.relations name) (found d.relations name)
  where
    at_place : (e : Catalog) → IsCatalog e → (k : ℕ) → k < length e.relations → (relation_at e.relations k).name ≡ name
        → rows_of e.relations name ≡ rows_at e.relations k
    at_place e h k low named = ap (λ (o : Option Relation). plain_of (counted_in o))
        (found_at e.relations name k h.names low named)

    here : (k : ℕ) → k < length c.relations → (relation_at c.relations k).name ≡ name
        → P (rows_of c.relations name) (rows_of d.relations name)
    here k low named =
        subst (λ (xs : List Tuple). P xs (rows_of d.relations name)) (sym (at_place c hc k low named))
        (subst (λ (ys : List Tuple). P (rows_at c.relations k) ys)
        (sym (at_place d hd k (omega (arith, low, n.long)) (n.named k low ∙ named))) (each k low named))

    step : ((k : ℕ) × (k < length c.relations) × ((relation_at c.relations k).name ≡ name))
        ⊎ (relation_of c.relations name ≡ None)
        → ((k : ℕ) × (k < length d.relations) × ((relation_at d.relations k).name ≡ name))
        ⊎ (relation_of d.relations name ≡ None)
        → P (rows_of c.relations name) (rows_of d.relations name)
    step (inl k) o = here k.0 k.1 k.2
    step (inr none) (inl k) =
        let low : k.0 < length c.relations = omega (arith, k.1, n.long) in
        here k.0 low (sym (n.named k.0 low) ∙ k.2)
    step (inr none) (inr neither) =
        subst (λ (o : Option Relation). P (plain_of (counted_in o)) (rows_of d.relations name)) (sym none)
        (subst (λ (o : Option Relation). P [] (plain_of (counted_in o))) (sym neither) empty)

-- ---- rows that come

-- each relation has the rows that it had
pub rows_more : (c d : Catalog) (at : ℕ) (cells : List (List ℕ)) (rows : List Tuple) → RowsCameIn c d at cells rows
    → HaveRows c.relations d.relations
rows_more c d at cells rows h name row =
    by_name c d h.back.catalog h.came.later.catalog (names_same c d h.came.later h.back) name
    (λ (xs : List Tuple) (ys : List Tuple). Contains xs row → Contains ys row) (λ k. k)
    (λ k low named there. elim (cases_eq k at) [
      | inl same ↦ subst (λ (j : ℕ). Contains (rows_at d.relations j) row) (sym same)
          (subst (λ (xs : List Tuple). Contains xs row) (sym h.came.rows)
          (Contains-append_left (rows_at c.relations at) rows row
          (subst (λ (j : ℕ). Contains (rows_at c.relations j) row) same there)))
      | inr other ↦ subst (λ (xs : List Tuple). Contains xs row) (sym (h.came.others k low other)) there
    ])

-- ---- rows that go

in_less : (rows : List Tuple) (row x : Tuple) → Contains (without_row rows row) x → Contains rows x
in_less [] row x k = k
in_less (y ∷ ys) row x k = step (tuple_eq y row) k (λ h. in_less ys row x h)
  where
    later : (y ≡ x) ⊎ Contains (without_row ys row) x → (Contains (without_row ys row) x → Contains ys x)
        → Contains (y ∷ ys) x
    later (inl e) more = first_there y ys x e
    later (inr h) more = later_there y ys x (more h)

    step : (b : Bool) → Contains (cond b ys (y ∷ without_row ys row)) x
        → (Contains (without_row ys row) x → Contains ys x) → Contains (y ∷ ys) x
    step true h more = later_there y ys x h
    step false h more = later (first_or_later y (without_row ys row) x h) more

in_fewer : (gone rows : List Tuple) (x : Tuple) → Contains (without_rows rows gone) x → Contains rows x
in_fewer [] rows x k = k
in_fewer (g ∷ gone) rows x k = in_less rows g x (in_fewer gone (without_row rows g) x k)

module _ (c d : Catalog) (at : ℕ) (cells : List (List ℕ)) (rows : List Tuple) (h : RowsWentOut c d at cells rows) where
  pub names_went : Names c d
  names_went = names_same c d h.went.later h.back

  -- each relation has no row that it didn't have
  pub rows_fewer : HaveRows d.relations c.relations
  rows_fewer name row =
      by_name c d h.back.catalog h.went.later.catalog names_went name
      (λ (xs : List Tuple) (ys : List Tuple). Contains ys row → Contains xs row) (λ k. k)
      (λ k low named there. elim (cases_eq k at) [
        | inl same ↦ subst (λ (j : ℕ). Contains (rows_at c.relations j) row) (sym same)
            (in_fewer rows (rows_at c.relations at) row (subst (λ (xs : List Tuple). Contains xs row) h.went.rows
            (subst (λ (j : ℕ). Contains (rows_at d.relations j) row) same there)))
        | inr other ↦ subst (λ (xs : List Tuple). Contains xs row) (h.went.others k low other) there
      ])

  spared : (name : Bytes) → bytes_eq name (relation_at c.relations at).name ≡ false
      → rows_of d.relations name ≡ rows_of c.relations name
  spared name isnt =
      by_name c d h.back.catalog h.went.later.catalog names_went name
      (λ (xs : List Tuple) (ys : List Tuple). ys ≡ xs) refl
      (λ k low named. h.went.others k low (λ same.
      false≢true (sym isnt ∙ (bytes_eq-decides name (relation_at c.relations at).name).1
      (sym named ∙ ap (λ (j : ℕ). (relation_at c.relations j).name) same))))

  -- so answers only go
  pub went_falls : (q : Query) → Grows (IsAnswer d.relations q) (IsAnswer c.relations q)
  went_falls q t is = answer_stays d.relations c.relations (a_query q) t rows_fewer is

  -- and stay where the relation isn't read
  pub went_rests : (q : Query) → reads q (relation_at c.relations at).name ≡ false
      → Grows (IsAnswer c.relations q) (IsAnswer d.relations q)
  went_rests q none t is = (answers_rest c.relations
      (one_change (relation_at c.relations at).name d.relations) q spared none t).0 is

-- ---- a query that doesn't read the relation is kept

-- no atom of it is over the relation
unread : (c : Catalog) (vs : List Variable) (atoms : List Atom) (ms : List NumberedAtom) (at j : ℕ) (m : NumberedAtom)
    → AreAtomsOf c vs atoms ms
    → list_any (λ (a : Atom). bytes_eq a.relation (relation_at c.relations at).name) atoms ≡ false
    → slice_get ms j ≡ Some m → m.relation ≡ at → ⊥
unread c vs [] [] at j m h none e same = absurd cc
unread c vs [] (n ∷ ms) at j m h none e same = absurd h
unread c vs (a ∷ atoms) [] at j m h none e same = absurd h
unread c vs (a ∷ atoms) (n ∷ ms) at zero m h none e same =
    let is : n ≡ m = same_Some n m e in
    let named : (relation_at c.relations at).name ≡ a.relation =
    ap (λ (k : ℕ). (relation_at c.relations k).name) (sym same ∙ ap (λ (x : NumberedAtom). x.relation) (sym is))
    ∙ h.0.named in
    let equal = (bytes_eq-decides a.relation (relation_at c.relations at).name).1 (sym named) in
    let other = (or_parts (bytes_eq a.relation (relation_at c.relations at).name)
    (list_any (λ (b : Atom). bytes_eq b.relation (relation_at c.relations at).name) atoms) none).0 in
    absurd (false≢true (sym other ∙ equal))
unread c vs (a ∷ atoms) (n ∷ ms) at (suc j) m h none e same =
    unread c vs atoms ms at j m h.1
    (or_parts (bytes_eq a.relation (relation_at c.relations at).name)
    (list_any (λ (b : Atom). bytes_eq b.relation (relation_at c.relations at).name) atoms) none).1 e same

pub went_past : (c d : Catalog) (at : ℕ) (cells : List (List ℕ)) (rows : List Tuple) (l : Live)
    → WentAll c d at cells rows → reads l.query (relation_at c.relations at).name ≡ false → IsKept c l → IsKept d l
went_past c d at cells rows l went none k = record {
  over = over_loses c d l.query l.numbered l.patterns l.reducts l.reducts at cells rows k.over went unchanged;
  named = k.named;
  bare = k.bare;
}
  where
    unchanged : EachLeafChanges (λ p old new. LosesAll p cells old new) at l.numbered l.patterns l.reducts l.reducts
    unchanged = record {
      reducts = k.over.reducts;
      tree = refl;
      over = λ j m p e f same. absurd (unread c l.numbered.variables l.query.atoms l.numbered.atoms at j m
          k.over.asked.atoms none e same);
      others = λ j m e apart. λ u. refl;
    }
