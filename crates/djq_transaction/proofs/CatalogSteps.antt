-- Catalogs that lead from one to another with the same headings, relation after relation.
use Rattle.std.proofs.Common.{ℕ, List, [], ◌∷◌, ◌++◌, ◌≡◌, ◌<◌, ◌≤◌, Bool, true, false, refl, sym, ap, ap₂, ◌∙◌, subst}
use Rattle.std.proofs.Common.{length, length-set, ◌≢◌, get_or, arith, append-nil}
use Rattle.std.specs.Prelude.{◌==◌, ◌||◌, cond, All, AllPairs, Contains}
use Rattle.std.proofs.lemmas.Bool.{false≢true, eqb-true, eq-eqb}
use Rattle.std.proofs.lemmas.List.{get_or-set_same, get_or-set_other, get_or_default, ext_get_or}
use Rattle.std.proofs.lemmas.List.Elements.{All-head, All-tail}
use Rattle.djq_model.specs.declared.relation.Relation.{Relation}
use Rattle.djq_model.specs.declared.relation.CountedRow.{CountedRow}
use Rattle.djq_model.specs.declared.relation.ColumnType.{ColumnType}
use Rattle.djq_model.specs.Data.{Bytes, Tuple, plain_of, tuples_in}
use Rattle.djq_model.specs.Answer.{AreDifferent}
use Rattle.djq_model.specs.Typed.{fits}
use Rattle.djq_protocol.specs.declared.limits.TheConstants.{COPIES}
use Rattle.djq_database.specs.Catalog.{Catalog, IsCatalog, IsKeptRelation, no_relation, relation_at, counted_at, rows_at}
use Rattle.djq_database.specs.Catalog.{with_rows_at}
use Rattle.djq_database.specs.Cells.{HaveCells, StandFor}
use Rattle.djq_leaves.specs.Changes.{IsLater, StandForRows, without_rows}
use Rattle.djq_reach.specs.declared.group.Group.{Group}
use Rattle.djq_reach.specs.Places.{is_reader, AreOnce}
use Rattle.djq_reach.specs.Grouping.{ComesBy, group_relations}
use Rattle.djq_queries.specs.Going.{GoesBy}
use Rattle.djq_transaction.specs.Leading.{HasHeadings}

-- ---- other rows in one relation

rows_with : (rs : List Relation) (at : ℕ) (rows : List CountedRow) → at < length rs
    → counted_at (with_rows_at rs at rows) at ≡ rows
rows_with rs at rows low = ap (λ (r : Relation). r.rows)
    (get_or-set_same rs at (let r = relation_at rs at in record r { rows = rows }) no_relation low)

other_at : (rs : List Relation) (at : ℕ) (rows : List CountedRow) (k : ℕ) → k ≢ at
    → relation_at (with_rows_at rs at rows) k ≡ relation_at rs k
other_at rs at rows k d = get_or-set_other rs at k (let r = relation_at rs at in record r { rows = rows }) no_relation d

field_with : {A : Type 0} (f : Relation → A) (rs : List Relation) (at : ℕ) (rows : List CountedRow) → at < length rs
    → f (let r = relation_at rs at in record r { rows = rows }) ≡ f (relation_at rs at)
    → (k : ℕ) → f (relation_at (with_rows_at rs at rows) k) ≡ f (relation_at rs k)
field_with f rs at rows low e k = by_place (k == at) refl
  where
    by_place : (b : Bool) → (k == at) ≡ b → f (relation_at (with_rows_at rs at rows) k) ≡ f (relation_at rs k)
    by_place true h =
        let s = eqb-true k at h in
        ap (λ (j : ℕ). f (relation_at (with_rows_at rs at rows) j)) s
        ∙ ap f (get_or-set_same rs at (let r = relation_at rs at in record r { rows = rows }) no_relation low) ∙ e
        ∙ ap (λ (j : ℕ). f (relation_at rs j)) (sym s)
    by_place false h = ap f (other_at rs at rows k (λ s. false≢true (sym h ∙ eq-eqb k at s)))

long_with : (rs : List Relation) (at : ℕ) (rows : List CountedRow) → length (with_rows_at rs at rows) ≡ length rs
long_with rs at rows = length-set rs at (let r = relation_at rs at in record r { rows = rows })

kept_as : (texts : List Bytes) (r s : Relation) → s.types ≡ r.types → s.rows ≡ r.rows → IsKeptRelation texts r
    → IsKeptRelation texts s
kept_as texts r s types rows k = record {
  some = subst (λ (ts : List ColumnType). 0 < length ts) (sym types) k.some;
  narrow = omega (arith, k.narrow, ap (λ (ts : List ColumnType). length ts) types);
  typed = subst (λ (ts : List ColumnType). All (λ row. fits ts row ≡ true) (tuples_in s)) (sym types)
      (subst (λ (xs : List CountedRow). All (λ row. fits r.types row ≡ true) (plain_of xs)) (sym rows) k.typed);
  differ = subst (λ (xs : List CountedRow). AllPairs (λ s t. s ≡ t → ⊥) (plain_of xs)) (sym rows) k.differ;
  cells = subst (λ (xs : List CountedRow). All (HaveCells texts) (plain_of xs)) (sym rows) k.cells;
  few = omega (arith, k.few, ap (λ (xs : List CountedRow). length (plain_of xs)) rows);
  counted = subst (λ (xs : List CountedRow). All (λ c. (1 ≤ c.copies) × (c.copies ≤ COPIES)) xs) (sym rows) k.counted;
}

pub catalog_with : (e : Catalog) (at : ℕ) (rows : List CountedRow) → IsCatalog e → at < length e.relations
    → IsKeptRelation e.texts (let r = relation_at e.relations at in record r { rows = rows })
    → IsCatalog (record e { relations = with_rows_at e.relations at rows })
catalog_with e at rows ie low k = record {
  few = omega (arith, ie.few, long_with e.relations at rows);
  names = λ i j d l m same.
      let high : j < length e.relations = omega (arith, m, long_with e.relations at rows) in
      ie.names i j no_relation l high
      (sym (name_is i) ∙ sym (at_default i d (omega (arith, l, m))) ∙ same ∙ at_default j d m ∙ name_is j);
  kept = λ i d l. subst (λ (r : Relation). IsKeptRelation e.texts r)
      (sym (get_or_default (with_rows_at e.relations at rows) i d no_relation l))
      (kept_at i (i == at) refl (omega (arith, l, long_with e.relations at rows)));
  many = ie.many;
  texts = ie.texts;
}
  where
    name_is : (i : ℕ) → (relation_at (with_rows_at e.relations at rows) i).name ≡ (relation_at e.relations i).name
    name_is i = field_with (λ x. x.name) e.relations at rows low refl i

    at_default : (i : ℕ) (d : Relation) → i < length (with_rows_at e.relations at rows)
        → (get_or (with_rows_at e.relations at rows) i d).name ≡ (relation_at (with_rows_at e.relations at rows) i).name
    at_default i d l = ap (λ (r : Relation). r.name)
        (get_or_default (with_rows_at e.relations at rows) i d no_relation l)

    kept_at : (i : ℕ) (b : Bool) → (i == at) ≡ b → i < length e.relations
        → IsKeptRelation e.texts (relation_at (with_rows_at e.relations at rows) i)
    kept_at i true f l =
        subst (λ (r : Relation). IsKeptRelation e.texts r)
        (sym (ap (relation_at (with_rows_at e.relations at rows)) (eqb-true i at f)
        ∙ get_or-set_same e.relations at (let r = relation_at e.relations at in record r { rows = rows })
        no_relation low)) k
    kept_at i false f l =
        subst (λ (r : Relation). IsKeptRelation e.texts r)
        (sym (other_at e.relations at rows i (λ s. false≢true (sym f ∙ eq-eqb i at s)))) (ie.kept i no_relation l)

stand_as : (d e : Catalog) (at : ℕ) → e.texts ≡ d.texts → (relation_at e.relations at).types
    ≡ (relation_at d.relations at).types → (cells : List (List ℕ)) (rows : List Tuple)
    → StandForRows d at cells rows → StandForRows e at cells rows
stand_as d e at texts types [] [] h = tt
stand_as d e at texts types [] (row ∷ rows) h = absurd h
stand_as d e at texts types (k ∷ cells) [] h = absurd h
stand_as d e at texts types (k ∷ cells) (row ∷ rows) h = (
  subst (λ (ts : List ColumnType). StandFor e.texts ts k row) (sym types)
      (subst (λ (xs : List Bytes). StandFor xs (relation_at d.relations at).types k row) (sym texts) h.0),
  stand_as d e at texts types cells rows h.1,
)

-- ---- the chain

module _ (c d : Catalog) (ic : IsCatalog c) (id : IsCatalog d) (has : HasHeadings c d) where
  -- the catalog in which the relations of groups have the rows that they had
  start_of : List Group → Catalog
  start_of [] = d
  start_of (g ∷ groups) =
      (let e = start_of groups in record e
      { relations = with_rows_at e.relations g.relation.at (counted_at c.relations g.relation.at) })

  abbrev pub AreWithin : List Group → Type 0
  AreWithin groups = All (λ g. g.relation.at < length c.relations) groups

  start_texts : (groups : List Group) → (start_of groups).texts ≡ d.texts
  unfolding start_of
  start_texts [] = refl
  start_texts (g ∷ groups) = start_texts groups

  start_long : (groups : List Group) → length (start_of groups).relations ≡ length c.relations
  unfolding start_of
  start_long [] = has.long
  start_long (g ∷ groups) = long_with (start_of groups).relations g.relation.at (counted_at c.relations g.relation.at)
      ∙ start_long groups

  first_low : (g : Group) (groups : List Group) → AreWithin (g ∷ groups) → g.relation.at < length (start_of groups).relations
  first_low g groups w = omega (
    arith,
    All-head (λ (x : Group). x.relation.at < length c.relations) g groups w,
    start_long groups,
  )

  later_low : (g : Group) (groups : List Group) → AreWithin (g ∷ groups) → AreWithin groups
  later_low g groups w = All-tail (λ (x : Group). x.relation.at < length c.relations) g groups w

  start_names : (groups : List Group) → AreWithin groups → (r : ℕ) → (relation_at (start_of groups).relations r).name
      ≡ (relation_at c.relations r).name
  unfolding start_of
  start_names [] w r = has.named r
  start_names (g ∷ groups) w r =
      field_with (λ x. x.name) (start_of groups).relations g.relation.at (counted_at c.relations g.relation.at)
      (first_low g groups w) refl r
      ∙ start_names groups (later_low g groups w) r

  start_types : (groups : List Group) → AreWithin groups → (r : ℕ) → (relation_at (start_of groups).relations r).types
      ≡ (relation_at c.relations r).types
  unfolding start_of
  start_types [] w r = has.typed r
  start_types (g ∷ groups) w r =
      field_with (λ x. x.types) (start_of groups).relations g.relation.at (counted_at c.relations g.relation.at)
      (first_low g groups w) refl r
      ∙ start_types groups (later_low g groups w) r

  -- the relations of groups have the rows that they had, and the others those that they have
  start_counted : (groups : List Group) → AreWithin groups → (r : ℕ) → counted_at (start_of groups).relations r
      ≡ cond (is_reader (group_relations groups) r) (counted_at c.relations r) (counted_at d.relations r)
  unfolding start_of
  start_counted [] w r = refl
  start_counted (g ∷ groups) w r = by (g.relation.at == r) refl (start_counted groups (later_low g groups w) r)
    where
      by : (b : Bool) → (g.relation.at == r) ≡ b
          → counted_at (start_of groups).relations r
          ≡ cond (is_reader (group_relations groups) r) (counted_at c.relations r) (counted_at d.relations r)
          → counted_at (with_rows_at (start_of groups).relations g.relation.at (counted_at c.relations g.relation.at)) r
          ≡ cond (b || is_reader (group_relations groups) r) (counted_at c.relations r) (counted_at d.relations r)
      by true e more =
          let s = eqb-true g.relation.at r e in
          ap (counted_at (with_rows_at (start_of groups).relations g.relation.at
          (counted_at c.relations g.relation.at))) (sym s)
          ∙ rows_with (start_of groups).relations g.relation.at (counted_at c.relations g.relation.at)
          (first_low g groups w)
          ∙ ap (counted_at c.relations) s
      by false e more =
          ap (λ (x : Relation). x.rows)
          (other_at (start_of groups).relations g.relation.at (counted_at c.relations g.relation.at) r
          (λ s. false≢true (sym e ∙ eq-eqb g.relation.at r (sym s))))
          ∙ more

  start_catalog : (groups : List Group) → AreWithin groups → IsCatalog (start_of groups)
  unfolding start_of
  start_catalog [] w = id
  start_catalog (g ∷ groups) w =
      let low = All-head (λ (x : Group). x.relation.at < length c.relations) g groups w in
      catalog_with (start_of groups) g.relation.at (counted_at c.relations g.relation.at)
      (start_catalog groups (later_low g groups w)) (first_low g groups w)
      (kept_as (start_of groups).texts (relation_at c.relations g.relation.at)
      (let r = relation_at (start_of groups).relations g.relation.at in record r
      { rows = counted_at c.relations g.relation.at })
      (start_types groups (later_low g groups w) g.relation.at) refl
      (subst (λ (ts : List Bytes). IsKeptRelation ts (relation_at c.relations g.relation.at))
      (sym (start_texts groups ∙ has.texts)) (ic.kept g.relation.at no_relation low)))

  -- From one catalog of the chain to the next the rows of one relation become those that it has in the end.
  record Turns (at : ℕ) (f e : Catalog) : Type 0 where
    later : IsLater f e
    back : IsLater e f
    was : counted_at f.relations at ≡ counted_at c.relations at
    now : counted_at e.relations at ≡ counted_at d.relations at
    others : (k : ℕ) → k < length f.relations → k ≢ at → rows_at e.relations k ≡ rows_at f.relations k
    typed : (relation_at e.relations at).types ≡ (relation_at d.relations at).types

  turns : (g : Group) (groups : List Group) → AreWithin (g ∷ groups) → AreOnce (group_relations (g ∷ groups))
      → Turns g.relation.at (start_of (g ∷ groups)) (start_of groups)
  unfolding start_of
  turns g groups w once =
      let at = g.relation.at in
      let e = start_of groups in
      let wr = later_low g groups w in
      let low = first_low g groups w in
      let rows = counted_at c.relations at in
      let long_is = long_with e.relations at rows in
      record {
        later = record {
          catalog = start_catalog groups wr;
          more = [];
          texts = sym (append-nil e.texts);
          long = omega (arith, long_is);
          named = λ k l. sym (field_with (λ x. x.name) e.relations at rows low refl k);
          typed = λ k l. sym (field_with (λ x. x.types) e.relations at rows low refl k);
        };
        back = record {
          catalog = start_catalog (g ∷ groups) w;
          more = [];
          texts = sym (append-nil e.texts);
          long = omega (arith, long_is);
          named = λ k l. field_with (λ x. x.name) e.relations at rows low refl k;
          typed = λ k l. field_with (λ x. x.types) e.relations at rows low refl k;
        };
        was = rows_with e.relations at rows low;
        now = start_counted groups wr at
            ∙ ap (λ b. cond b (counted_at c.relations at) (counted_at d.relations at)) once.0;
        others = λ k l apart. sym (ap tuples_in (other_at e.relations at rows k apart));
        typed = start_types groups wr at ∙ sym (has.typed at);
      }

  -- Rows came into the relation of a group, and others went out of it.
  abbrev pub HasCome : Group → Type 0
  HasCome g = (rows : List Tuple)
      × (rows_at d.relations g.relation.at ≡ rows_at c.relations g.relation.at ++ rows)
      × StandForRows d g.relation.at g.rows rows

  abbrev pub HasGone : Group → Type 0
  HasGone g = (rows : List Tuple)
      × (rows_at d.relations g.relation.at ≡ without_rows (rows_at c.relations g.relation.at) rows)
      × StandForRows d g.relation.at g.rows rows
      × ((row : Tuple) → Contains rows row → Contains (rows_at c.relations g.relation.at) row)
      × AreDifferent rows

  start_comes : (groups : List Group) → AreWithin groups → AreOnce (group_relations groups) → All HasCome groups
      → ComesBy (start_of groups) groups d
  unfolding start_of
  start_comes [] w once h = refl
  start_comes (g ∷ groups) w once h =
      let at = g.relation.at in
      let e = start_of groups in
      let t = turns g groups w once in
      let here = All-head HasCome g groups h in (
        e,
        here.0,
        record {
          came = record {
            later = t.later;
            stand = stand_as d e at (start_texts groups) t.typed g.rows here.0 here.2;
            rows = ap plain_of t.now ∙ here.1 ∙ ap (λ (xs : List CountedRow). plain_of xs ++ here.0) (sym t.was);
            others = t.others;
          };
          back = t.back;
        },
        start_comes groups (later_low g groups w) once.1 (All-tail HasCome g groups h),
      )

  start_goes : (groups : List Group) → AreWithin groups → AreOnce (group_relations groups) → All HasGone groups
      → GoesBy (start_of groups) groups d
  unfolding start_of
  start_goes [] w once h = refl
  start_goes (g ∷ groups) w once h =
      let at = g.relation.at in
      let e = start_of groups in
      let t = turns g groups w once in
      let here = All-head HasGone g groups h in (
        e,
        here.0,
        record {
          went = record {
            later = t.later;
            stand = stand_as d e at (start_texts groups) t.typed g.rows here.0 here.2;
            rows = ap plain_of t.now ∙ here.1
                ∙ ap (λ (xs : List CountedRow). without_rows (plain_of xs) here.0) (sym t.was);
            others = t.others;
          };
          back = t.back;
          there = λ row k. subst (λ (xs : List CountedRow). Contains (plain_of xs) row) (sym t.was) (here.3 row k);
          differ = here.4;
        },
        start_goes groups (later_low g groups w) once.1 (All-tail HasGone g groups h),
      )

  -- no relation without a group has other rows
  abbrev pub OthersRest : List Group → Type 0
  OthersRest groups = (r : ℕ) → r < length c.relations → is_reader (group_relations groups) r ≡ false
      → counted_at d.relations r ≡ counted_at c.relations r

  start_is : (groups : List Group) → AreWithin groups → OthersRest groups → start_of groups ≡ c
  start_is groups w rest = ap₂ (λ (rs : List Relation) (ts : List Bytes). let x : Catalog = record {
    relations = rs;
    texts = ts;
  } in x) (ext_get_or no_relation (start_of groups).relations c.relations (start_long groups) same)
      (start_texts groups ∙ has.texts)
    where
      rows_same : (r : ℕ) (b : Bool) → is_reader (group_relations groups) r ≡ b → r < length c.relations
          → cond b (counted_at c.relations r) (counted_at d.relations r) ≡ counted_at c.relations r
      rows_same r true e low = refl
      rows_same r false e low = rest r low e

      same : (r : ℕ) → r < length (start_of groups).relations
          → relation_at (start_of groups).relations r ≡ relation_at c.relations r
      same r low =
          let rows : counted_at (start_of groups).relations r ≡ counted_at c.relations r =
          start_counted groups w r
          ∙ rows_same r (is_reader (group_relations groups) r) refl (omega (arith, low, start_long groups)) in
          ap₂ (λ (n : Bytes) (ts : List ColumnType). let x : Relation = record {
            name = n;
            types = ts;
            rows = counted_at (start_of groups).relations r;
          } in x) (start_names groups w r) (start_types groups w r)
          ∙ ap (λ (rs : List CountedRow). let x : Relation = record {
            name = (relation_at c.relations r).name;
            types = (relation_at c.relations r).types;
            rows = rs;
          } in x) rows

  pub leads_in : (groups : List Group) → AreWithin groups → AreOnce (group_relations groups) → All HasCome groups
      → OthersRest groups → ComesBy c groups d
  leads_in groups w once come rest =
      subst (λ (x : Catalog). ComesBy x groups d) (start_is groups w rest) (start_comes groups w once come)

  pub leads_out : (groups : List Group) → AreWithin groups → AreOnce (group_relations groups) → All HasGone groups
      → OthersRest groups → GoesBy c groups d
  leads_out groups w once gone rest =
      subst (λ (x : Catalog). GoesBy x groups d) (start_is groups w rest) (start_goes groups w once gone)
