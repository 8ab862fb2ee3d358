-- Tuples of many rows are marked in a leaf, one after another, and then go.
use Rattle.std.proofs.Common.{◌≡◌, ℕ, ◌+◌, ◌*◌, ◌<◌, ◌≤◌, List, [], ◌∷◌, ◌++◌, length, take, ap, sym, subst, ◌∙◌, inl, inr}
use Rattle.std.proofs.Common.{refl, arith, length-append, mul-le-mul_left, mul-le-mul_right}
use Rattle.std.specs.Prelude.{◌↔◌, Some, None, Contains, slice_index_or}
use Rattle.std.proofs.lemmas.Bool.{cases_eq, cases_lt}
use Rattle.std.proofs.lemmas.List.{take_all}
use Rattle.std.proofs.lemmas.Option.{same_Some, none-some}
use Rattle.djq_index.specs.Entries.{Entry, count_of, marks}
use Rattle.djq_index.proofs.Tuples.{cnt_once, cnt_split}
use Rattle.djq_index.proofs.ClearedMarks.{length_marks}
use Rattle.djq_tree.specs.Flat.{HasEqualMeets}
use Rattle.djq_tree.specs.Tree.{Tree}
use Rattle.djq_union.proofs.Merges.{none_contained}
use Rattle.djq_reduct.specs.Tables.{entries_at}
use Rattle.djq_reduct.specs.Reducts.{Reducts, IsReducts, SameTables}
use Rattle.djq_reduct.specs.Marks.{IsBare}
use Rattle.djq_reduct.proofs.Assignments.{apart_at}
use Rattle.djq_propagate.specs.Touches.{HaveMarksUpTo}
use Rattle.djq_propagate.specs.Updates.{HasAtMost, HasDropped, HasMarkedAbove, HasMarkedMore, paths}
use Rattle.djq_propagate.proofs.Batches.{few_none}
use Rattle.djq_propagate.proofs.Costs.{length_even}
use Rattle.djq_propagate.proofs.Removals.{bare_only}
use Rattle.djq_query.specs.Pattern.{Shape}
use Rattle.djq_binder.proofs.EdgeOrder.{in_left, in_last, in_pushed}
use Rattle.djq_leaves.specs.Leaves.{GivesOne}
use Rattle.djq_leaves.specs.Changes.{KeepsTuples, LosesAll}
use Rattle.djq_leaves.specs.Stepping.{HasMore, HasAll, ChangesAt}
use Rattle.djq_leaves.specs.Batching.{AreDistinct, HasMarkedRows, BoundsRows, CountsGone}
use Rattle.djq_leaves.proofs.LeafRows.{gives_once, gives_same, one_as}
use Rattle.djq_leaves.proofs.LeafUpdates.{IsOnly}
use Rattle.djq_leaves.proofs.Batches.{fresh_row, rows_next}
use Rattle.djq_leaves.proofs.Costs.{fewer_stay, some_path, sum_next_crowding}

-- ---- which tuples are marked

none_marked : (p : Shape) (j : ℕ) (r : Reducts) → IsReducts r → IsBare r.tables → HasMarkedRows [] p j r r
none_marked p j r sound bare = record {
  sound = sound;
  tree = refl;
  tables = record { tuples = λ k u. refl; supports = λ k u. refl };
  marked = λ u. (
    λ some. absurd (let z = bare.none j u in omega arith),
    λ given. absurd (none_contained given.cells given.row),
  );
  few = few_none 0 (marks (entries_at r.tables j)) (λ v. bare.none j v);
  only = bare_only r.tables j bare;
}

pub marks_none : (rows : List (List ℕ)) (p : Shape) (j : ℕ) (r : Reducts) → IsReducts r → IsBare r.tables
    → HasMarkedRows (take 0 rows) p j r r
marks_none [] p j r sound bare = none_marked p j r sound bare
marks_none (row ∷ rows) p j r sound bare = none_marked p j r sound bare

marks_pushed : (front : List (List ℕ)) (row u : List ℕ) (p : Shape) (j : ℕ) (old mid new : Reducts)
    → IsOnly (Some u) p row → HasMarkedRows front p j old mid → HasMarkedMore mid new j u
    → HasMarkedRows (front ++ row ∷ []) p j old new
marks_pushed front row u p j old mid new only h m = record {
  sound = m.sound;
  tree = m.tree ∙ h.tree;
  tables = record {
    tuples = λ k v. m.tables.tuples k v ∙ h.tables.tuples k v;
    supports = λ k v. m.tables.supports k v ∙ h.tables.supports k v;
  };
  marked = λ v. (
    λ some.
        elim ((m.marked v).0 some) [
          | inl before ↦
              one_as (Contains front) (Contains (front ++ row ∷ [])) p v (λ x is. in_left x front (row ∷ []) is)
              ((h.marked v).0 before)
          | inr e ↦ record {
            cells = row;
            row = in_last row front;
            gives = (only v).0 (ap (λ (w : List ℕ). Some w) e);
          }
        ],
    λ given.
        elim (in_pushed row given.cells front given.row) [
          | inl before ↦ (m.marked v).1
              (inl ((h.marked v).1 (record { cells = given.cells; row = before; gives = given.gives })))
          | inr e ↦ (m.marked v).1
              (inr (same_Some u v ((only v).1 (gives_same p v given.cells row (sym e) given.gives))))
        ],
  );
  few = (let a = m.few in let b = h.few in let c = length-append front (row ∷ []) in omega arith);
  only = m.only;
}

marks_passed : (front : List (List ℕ)) (row : List ℕ) (p : Shape) (j : ℕ) (old mid : Reducts)
    → IsOnly None p row → HasMarkedRows front p j old mid → HasMarkedRows (front ++ row ∷ []) p j old mid
marks_passed front row p j old mid only h = record {
  sound = h.sound;
  tree = h.tree;
  tables = h.tables;
  marked = λ v. (
    λ some. one_as (Contains front) (Contains (front ++ row ∷ [])) p v (λ x is. in_left x front (row ∷ []) is)
        ((h.marked v).0 some),
    λ given.
        elim (in_pushed row given.cells front given.row) [
          | inl before ↦ (h.marked v).1 (record { cells = given.cells; row = before; gives = given.gives })
          | inr e ↦ absurd (none-some v ((only v).1 (gives_same p v given.cells row (sym e) given.gives)))
        ],
  );
  few = (let b = h.few in let c = length-append front (row ∷ []) in omega arith);
  only = h.only;
}

pub marks_more : (rows : List (List ℕ)) (i : ℕ) (row u : List ℕ) (p : Shape) (j : ℕ) (old mid new : Reducts)
    → i < length rows → row ≡ slice_index_or rows i row → IsOnly (Some u) p row
    → HasMarkedRows (take i rows) p j old mid → HasMarkedMore mid new j u
    → HasMarkedRows (take (i + 1) rows) p j old new
marks_more rows i row u p j old mid new low e only h m =
    subst (λ (front : List (List ℕ)). HasMarkedRows front p j old new) (rows_next rows i row low e)
    (marks_pushed (take i rows) row u p j old mid new only h m)

pub marks_skip : (rows : List (List ℕ)) (i : ℕ) (row : List ℕ) (p : Shape) (j : ℕ) (old mid : Reducts)
    → i < length rows → row ≡ slice_index_or rows i row → IsOnly None p row
    → HasMarkedRows (take i rows) p j old mid → HasMarkedRows (take (i + 1) rows) p j old mid
marks_skip rows i row p j old mid low e only h =
    subst (λ (front : List (List ℕ)). HasMarkedRows front p j old mid) (rows_next rows i row low e)
    (marks_passed (take i rows) row p j old mid only h)

pub marks_all : (rows : List (List ℕ)) (i : ℕ) (p : Shape) (j : ℕ) (old mid : Reducts) → length rows ≤ i
    → HasMarkedRows (take i rows) p j old mid → HasMarkedRows rows p j old mid
marks_all rows i p j old mid high h =
    subst (λ (front : List (List ℕ)). HasMarkedRows front p j old mid) (take_all i rows high) h

-- the tuple of a row that comes later isn't marked yet, and stands in the leaf
pub mark_fresh : (rows : List (List ℕ)) (i : ℕ) (row u : List ℕ) (p : Shape) (j : ℕ) (old mid : Reducts)
    → AreDistinct rows → i < length rows → row ≡ slice_index_or rows i row → IsOnly (Some u) p row
    → HasMarkedRows (take i rows) p j old mid → count_of (marks (entries_at mid.tables j)) u ≡ 0
mark_fresh rows i row u p j old mid distinct low e only h =
    elim (cases_lt 0 (count_of (marks (entries_at mid.tables j)) u)) [
      | inr none ↦ omega arith
      | inl some ↦
          let given = (h.marked u).0 some in
          let same = gives_once p u given.cells row given.gives ((only u).0 refl) in
          absurd (fresh_row rows i row distinct low e (subst (λ (x : List ℕ). Contains (take i rows) x) same given.row))
    ]

pub mark_there : (rows : List (List ℕ)) (i : ℕ) (row u : List ℕ) (p : Shape) (j : ℕ) (old mid : Reducts)
    → i < length rows → row ≡ slice_index_or rows i row → IsOnly (Some u) p row
    → HasAll rows p (entries_at old.tables j) → SameTables old mid → 0 < count_of (entries_at mid.tables j) u
mark_there rows i row u p j old mid low e only has same =
    let k = has u (record { cells = row; row = (i, low, sym e); gives = (only u).0 refl }) in
    let t = same.tuples j u in
    omega arith

-- no table has more marks than rows
pub marks_up_to : (rows : List (List ℕ)) (p : Shape) (j : ℕ) (old mid : Reducts) → HasMarkedRows rows p j old mid
    → HaveMarksUpTo (length rows) mid.tables
marks_up_to rows p j old mid h = record {
  each = λ i. elim (cases_eq i j) [
    | inl here ↦ subst (λ (k : ℕ). length (marks (entries_at mid.tables k)) ≤ length rows) (sym here) h.few
    | inr apart ↦ few_none (length rows) (marks (entries_at mid.tables i)) (λ v. h.only.none i apart v)
  ];
}

-- ---- what goes

abbrev pub AreMarkedOf : List (List ℕ) → Shape → ℕ → Reducts → Type 0
AreMarkedOf rows p j r = (u : List ℕ) → (0 < count_of (marks (entries_at r.tables j)) u) ↔ GivesOne (Contains rows) p u

pub marked_still : (rows : List (List ℕ)) (p : Shape) (j : ℕ) (old mid up : Reducts) → HasMarkedRows rows p j old mid
    → HasMarkedAbove mid up j → AreMarkedOf rows p j up
marked_still rows p j old mid up h a v =
    let e = a.marked v in (
      λ some. (h.marked v).0 (omega arith),
      λ given. (let k = (h.marked v).1 given in omega arith),
    )

pub tables_both : (r s t : Reducts) → SameTables r s → SameTables s t → SameTables r t
tables_both r s t a b = record {
  tuples = λ k v. b.tuples k v ∙ a.tuples k v;
  supports = λ k v. b.supports k v ∙ a.supports k v;
}

pub rows_lost : (rows : List (List ℕ)) (p : Shape) (j : ℕ) (old mid new : Reducts) → IsReducts mid
    → mid.tree ≡ old.tree → SameTables old mid → AreMarkedOf rows p j mid → HasDropped mid new j
    → ChangesAt (λ q es fs. LosesAll q rows es fs) p j old new
rows_lost rows p j old mid new sound tree same marked d = record {
  sound = d.sound;
  tree = d.without.tree ∙ tree;
  bare = d.bare;
  leaf = λ v.
      let left = d.without.leaf v in
      let split = cnt_split (entries_at mid.tables j) v in
      let once = cnt_once (entries_at mid.tables j) v (apart_at mid.tables j (sound.family.sound j)) in
      let was = same.tuples j v in (
        λ there. (
          omega arith,
          λ given. (let k = (marked v).1 given in omega arith),
        ),
        λ both.
            elim (cases_lt 0 (count_of (marks (entries_at mid.tables j)) v)) [
              | inl some ↦ absurd (both.1 ((marked v).0 some))
              | inr none ↦ (let before = both.0 in omega arith)
            ],
      );
  others = λ i low apart v.
      d.without.others i v (subst (λ (t : Tree). i < t.leaves) (sym tree) low) apart ∙ same.tuples i v;
}

-- where there are no rows, nothing goes
pub none_lost : (rows : List (List ℕ)) (p : Shape) (j : ℕ) (r : Reducts) → length rows ≡ 0 → IsReducts r
    → IsBare r.tables → ChangesAt (λ q es fs. LosesAll q rows es fs) p j r r
none_lost rows p j r none sound bare = record {
  sound = sound;
  tree = refl;
  bare = bare;
  leaf = λ v. (λ there. (there, λ given. absurd (let low = given.row.1 in omega arith)), λ both. both.0);
  others = λ i low apart v. refl;
}

-- ---- what it counts

-- marks there are no more than tuples
pub marks_most : (rows : List (List ℕ)) (p : Shape) (j n : ℕ) (old mid : Reducts) → HasMarkedRows rows p j old mid
    → j < old.tree.leaves → HasAtMost old n
    → length (marks (entries_at mid.tables j)) ≤ n
marks_most rows p j n old mid h low most =
    let a = length_marks (entries_at mid.tables j) in
    let b = length_even (entries_at mid.tables j) (entries_at old.tables j) (h.tables.tuples j) in
    let c = most.each j low in
    omega arith

pub still_most : (n : ℕ) (old mid : Reducts) → mid.tree ≡ old.tree → SameTables old mid → HasAtMost old n
    → HasAtMost mid n
still_most n old mid tree same most = record {
  each = λ i low.
      let a = most.each i (subst (λ (t : Tree). i < t.leaves) tree low) in
      let b = length_even (entries_at mid.tables i) (entries_at old.tables i) (same.tuples i) in
      omega arith;
}

sum_rows : (p n b k w x y z : ℕ) → 0 < p → k ≤ n → 16 * (p * (n + 1)) ≤ b → x ≤ w + 2 * k
    → y ≤ x + p * (1 + 5 * n) → z ≤ y + 1 + 5 * (p * n) + p * (1 + n) → z ≤ w + 1 * b
sum_rows p n b k w x y z some few bounds first second third =
    let a : p * (n + 1) ≡ p * n + p = omega arith in
    let c : p * (1 + n) ≡ p * n + p = omega arith in
    let d : p * (1 + 5 * n) ≡ p + 5 * (p * n) = omega arith in
    let e = mul-le-mul_right n some in
    omega arith

sum_flat : (p m b k w x y z : ℕ) → 0 < p → 0 < m → k ≤ m → 16 * (m * p) ≤ b → x ≤ w + 2 * k
    → y ≤ x + p * (1 + 5 * m) → z ≤ y + 1 + 5 * (p * m) + p * (1 + m) → z ≤ w + 1 * b
sum_flat p m b k w x y z some rows few bounds first second third =
    let a : m * p ≡ p * m = omega arith in
    let c : p * (1 + m) ≡ p * m + p = omega arith in
    let d : p * (1 + 5 * m) ≡ p + 5 * (p * m) = omega arith in
    let e = mul-le-mul_right m some in
    let f = mul-le-mul_left p rows in
    omega arith

-- marked, and what goes with them too or not, and taken out
pub rows_count : (rows : List (List ℕ)) (p : Shape) (j : ℕ) (old mid up : Reducts) (w x y z : ℕ) → IsReducts old
    → j < old.tree.leaves → 0 < length rows → HasMarkedRows rows p j old mid → mid.tree ≡ old.tree
    → up.tree ≡ old.tree → SameTables old up
    → x ≤ w + 2 * length (marks (entries_at mid.tables j))
    → ((n : ℕ) → HasAtMost mid n → y ≤ x + paths mid.tree * (1 + 5 * n))
    → ((n : ℕ) → HasEqualMeets mid.tree → HaveMarksUpTo n mid.tables → y ≤ x + paths mid.tree * (1 + 5 * n))
    → ((n : ℕ) → HasEqualMeets mid.tree → HaveMarksUpTo n mid.tables → HaveMarksUpTo n up.tables)
    → ((n : ℕ) → HasAtMost up n → z ≤ y + 1 + 5 * (paths up.tree * n) + paths up.tree * (1 + n))
    → ((n : ℕ) → HasEqualMeets up.tree → HaveMarksUpTo n up.tables
    → z ≤ y + 1 + 5 * (paths up.tree * n) + paths up.tree * (1 + n))
    → CountsGone (length rows) old 1 w z
rows_count rows p j old mid up w x y z sound low some h tree high same first second even few third flat = λ n b most bounds.
    let k = length (marks (entries_at mid.tables j)) in
    let path = some_path old sound in
    elim bounds [
      | inl linear ↦
          sum_rows (paths old.tree) n b k w x y z path (marks_most rows p j n old mid h low most) linear first
          (subst (λ (t : Tree). y ≤ x + paths t * (1 + 5 * n)) tree
          (second n (still_most n old mid tree h.tables most)))
          (subst (λ (t : Tree). z ≤ y + 1 + 5 * (paths t * n) + paths t * (1 + n)) high
          (third n (still_most n old up high same most)))
      | inr meets ↦
          let m = length rows in
          let all = marks_up_to rows p j old mid h in
          let here = subst HasEqualMeets (sym tree) meets.0 in
          sum_flat (paths old.tree) m b k w x y z path some h.few meets.1 first
          (subst (λ (t : Tree). y ≤ x + paths t * (1 + 5 * m)) tree (even m here all))
          (subst (λ (t : Tree). z ≤ y + 1 + 5 * (paths t * m) + paths t * (1 + m)) high
          (flat m (subst HasEqualMeets (sym high) meets.0) (few m here all)))
    ]

-- ---- leaf after leaf

pub gone_none : (k : ℕ) (r : Reducts) (i x : ℕ) → CountsGone k r i x x
gone_none k r i x = λ n b most bounds. omega arith

pub gone_as : (k : ℕ) (r : Reducts) (i j x y : ℕ) → i ≡ j → CountsGone k r i x y → CountsGone k r j x y
gone_as k r i j x y e h = subst (λ (n : ℕ). CountsGone k r n x y) e h

pub gone_more : (k : ℕ) (r s : Reducts) (i j x y z : ℕ) → IsReducts s → HasMore s r → i + 1 ≡ j
    → CountsGone k r i x y → CountsGone k s 1 y z → CountsGone k r j x z
gone_more k r s i j x y z h more e first second = λ n b most bounds.
    sum_next_crowding i j b 1 x y z e (first n b most bounds)
    (second n b (fewer_stay s r n h more most) (subst (λ (t : Tree). BoundsRows k t n b) more.tree bounds))

pub all_stay : (rows : List (List ℕ)) (p : Shape) (es fs : List Entry) → KeepsTuples es fs → HasAll rows p es
    → HasAll rows p fs
all_stay rows p es fs keeps h u given = subst (λ (n : ℕ). 0 < n) (sym (keeps u)) (h u given)
