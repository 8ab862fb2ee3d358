-- How long leaves get in an update, and how much it counts.
use Rattle.std.proofs.Common.{◌≡◌, ℕ, ◌+◌, ◌*◌, ◌<◌, ◌≤◌, List, ◌∷◌, length, ap, sym, subst, inl, inr, arith}
use Rattle.std.proofs.Common.{mul-le-mul_left}
use Rattle.std.specs.Prelude.{◌≢◌, ◌==◌, Some, filter, slice_get, slice_index_or}
use Rattle.std.proofs.lemmas.Bool.{cases_eq, cases_lt}
use Rattle.std.proofs.Math.Seq.{take-length}
use Rattle.djq_index.specs.Tuple.{same, one_if}
use Rattle.djq_index.specs.Entries.{Entry, count_of}
use Rattle.djq_index.proofs.Tuples.{cnt_cons, cnt_once, stands, one_same}
use Rattle.djq_tree.specs.Flat.{HasEqualMeets}
use Rattle.djq_tree.specs.Tree.{Tree}
use Rattle.djq_reduct.specs.Tables.{entries_at}
use Rattle.djq_reduct.specs.Reducts.{Reducts, IsReducts}
use Rattle.djq_reduct.proofs.Assignments.{apart_at}
use Rattle.djq_propagate.specs.Touches.{HaveFew, HaveMarksUpTo}
use Rattle.djq_propagate.specs.Updates.{HasInserted, HasMarked, HasKept, HasGained, HasAtMost, paths}
use Rattle.djq_propagate.specs.Batches.{HasInsertedAll, HasGainedAll}
use Rattle.djq_propagate.proofs.Updates.{inserted_gained, inserted_gained_all}
use Rattle.djq_propagate.proofs.Costs.{length_even, length_less}
use Rattle.djq_propagate.proofs.Batches.{longer_by}
use Rattle.djq_query.specs.declared.numbered.NumberedAtom.{NumberedAtom}
use Rattle.djq_leaves.specs.Stepping.{HasMore, ChangesBelow, LeavesHaveRoom, GrowsAt, GrowsByOne, CountsLeaf}
use Rattle.djq_leaves.specs.Stepping.{CountsLeaves, BoundsLeaf, atoms_below}
use Rattle.djq_leaves.specs.Batching.{HasFew, GainsTuples, GrowsBy, CountsTuples, CountsMany, CountsGiven}
use Rattle.djq_leaves.specs.Batching.{CountsFlatTuples, CountsFlatMany}
use Rattle.djq_leaves.proofs.LeafUpdates.{counts_over, part_few}

-- ---- How long leaves get in an update, and how much it counts.

-- ---- a tuple comes

longer_leaf : (j : ℕ) (u : List ℕ) (old new : Reducts) → HasGained old new j u
    → length (entries_at new.tables j) ≤ length (entries_at old.tables j) + 1
longer_leaf j u old new came =
    let es = entries_at new.tables j in
    let ds = entries_at old.tables j in
    let s = stands es u (let c = came.leaf u in let here = one_same u in omega arith) in
    let more : length es ≤ length (s.entry ∷ ds) =
    length_less es (s.entry ∷ ds)
    (λ v.
    let first = cnt_cons s.entry ds v in
    let is : one_if (same s.entry.tuple v) ≡ one_if (same u v) =
    ap (λ (w : List ℕ). one_if (same w v)) s.tuple in
    let leaf = came.leaf v in
    omega arith) in
    omega arith

same_leaf : (j : ℕ) (u : List ℕ) (old new : Reducts) (i : ℕ) → HasGained old new j u
    → i < old.tree.leaves → i ≢ j
    → length (entries_at new.tables i) ≡ length (entries_at old.tables i)
same_leaf j u old new i came low apart =
    length_even (entries_at new.tables i) (entries_at old.tables i)
    (λ v. came.others i v low apart)

pub gained_grows : (j : ℕ) (u : List ℕ) (old new : Reducts) → HasGained old new j u
    → GrowsAt j old new
gained_grows j u old new came = record {
  leaf = longer_leaf j u old new came;
  others = λ i low apart. (let a = same_leaf j u old new i came low apart in omega arith);
}

-- ---- what it counts

sum_inserted : (p n b x y z : ℕ) → 16 * (p * (n + 1)) ≤ b → y ≤ x + 10 * (p * (n + 1))
    → z ≤ y + p * (1 + (n + 1)) → z ≤ x + 1 * b
sum_inserted p n b x y z bounds first second =
    let a : p * (n + 1) ≡ p * n + p = omega arith in
    let b : p * (1 + (n + 1)) ≡ p * n + 2 * p = omega arith in
    omega arith

sum_removed : (p n b x y z : ℕ) → 0 < p → 16 * (p * (n + 1)) ≤ b → y ≤ x + 6 * (p * n)
    → z ≤ y + 1 + 5 * (p * n) + p * (1 + n) → z ≤ x + 1 * b
sum_removed p n b x y z some bounds first second =
    let a : p * (n + 1) ≡ p * n + p = omega arith in
    let b : p * (1 + n) ≡ p * n + p = omega arith in
    omega arith

room_after : (j : ℕ) (u : List ℕ) (n : ℕ) (old new : Reducts) → HasGained old new j u
    → LeavesHaveRoom old j n → HasAtMost new (n + 1)
room_after j u n old new came room = record {
  each = λ i low.
      let lower : i < old.tree.leaves = subst (λ (t : Tree). i < t.leaves) came.tree low in
      elim (cases_eq i j) [
        | inl here ↦
            subst (λ (k : ℕ). length (entries_at new.tables k) ≤ n + 1) (sym here)
            (let a = longer_leaf j u old new came in let b = room.leaf in omega arith)
        | inr apart ↦
            let a = same_leaf j u old new i came lower apart in
            let b = room.all.each i lower in
            omega arith
      ];
}

pub kept_most : (old new : Reducts) (n : ℕ) → HasKept old new → HasAtMost new n → HasAtMost old n
kept_most old new n kept few = record {
  each = λ i low.
      let a = few.each i (subst (λ (t : Tree). i < t.leaves) (sym kept.tree) low) in
      let b = length_even (entries_at new.tables i) (entries_at old.tables i)
      (kept.tables.tuples i) in
      omega arith;
}

pub insertion_counts : (j : ℕ) (u : List ℕ) (old mid new : Reducts) (x y z : ℕ)
    → HasInserted old mid j u → HasKept mid new
    → ((n : ℕ) → HasAtMost mid n → y ≤ x + 10 * (paths old.tree * n))
    → ((n : ℕ) → HasAtMost mid n → z ≤ y + paths mid.tree * (1 + n))
    → (HasEqualMeets old.tree → HaveFew mid.tables)
    → (HasEqualMeets old.tree → y ≤ x + 10 * (paths old.tree * 1))
    → ((n : ℕ) → HaveMarksUpTo n mid.tables → z ≤ y + paths mid.tree * (1 + n)) → CountsLeaf old j 1 x z
insertion_counts j u old mid new x y z came kept first second marked flat cleared = λ n b room bounds.
    elim bounds [
      | inl linear ↦
          let few = kept_most mid new (n + 1) kept
          (room_after j u n old new (inserted_gained old mid new j u came kept) room) in
          sum_inserted (paths old.tree) n b x y z linear (first (n + 1) few)
          (subst (λ (t : Tree). z ≤ y + paths t * (1 + (n + 1))) (sym came.without.tree)
          (second (n + 1) few))
      | inr even ↦
          let a = flat even.0 in
          let c : z ≤ y + paths old.tree * (1 + 1) =
          subst (λ (t : Tree). z ≤ y + paths t * (1 + 1)) (sym came.without.tree)
          (cleared 1 (marked even.0)) in
          let d = even.1 in
          omega arith
    ]

-- without marks
pub addition_counts : (j : ℕ) (u : List ℕ) (old new : Reducts) (x z : ℕ)
    → HasGained old new j u
    → ((n : ℕ) → HasAtMost new n → z ≤ x + 4 * (paths old.tree * n))
    → (HasEqualMeets old.tree → z ≤ x + 4 * (paths old.tree * 1)) → CountsLeaf old j 1 x z
addition_counts j u old new x z came counted flat = λ n b room bounds.
    elim bounds [
      | inl linear ↦ (let a = counted (n + 1) (room_after j u n old new came room) in omega arith)
      | inr even ↦ (let a = flat even.0 in let d = even.1 in omega arith)
    ]

pub some_path : (r : Reducts) → IsReducts r → 0 < paths r.tree
some_path r h = let some = h.family.is_tree.some in omega arith

pub removal_counts : (j : ℕ) (u : List ℕ) (old mid : Reducts) (x y z : ℕ) → IsReducts old
    → HasMarked old mid j u
    → ((n : ℕ) → HasAtMost old n → y ≤ x + 6 * (paths old.tree * n))
    → ((n : ℕ) → HasAtMost mid n
    → z ≤ y + 1 + 5 * (paths mid.tree * n) + paths mid.tree * (1 + n))
    → (HasEqualMeets old.tree → HaveFew mid.tables)
    → (HasEqualMeets old.tree → y ≤ x + 6 * (paths old.tree * 1))
    → ((n : ℕ) → HasEqualMeets mid.tree → HaveMarksUpTo n mid.tables
    → z ≤ y + 1 + 5 * (paths mid.tree * n) + paths mid.tree * (1 + n))
    → CountsLeaves old 1 x z
removal_counts j u old mid x y z sound marked first second few_marks flat dropped = λ n b few bounds.
    let some = some_path old sound in
    elim bounds [
      | inl linear ↦
          let still : HasAtMost mid n = record {
            each = λ i low.
                let a = few.each i (subst (λ (t : Tree). i < t.leaves) marked.tree low) in
                let b = length_even (entries_at mid.tables i) (entries_at old.tables i)
                (marked.tables.tuples i) in
                omega arith;
          } in
          sum_removed (paths old.tree) n b x y z some linear (first n few)
          (subst (λ (t : Tree). z ≤ y + 1 + 5 * (paths t * n) + paths t * (1 + n)) marked.tree
          (second n still))
      | inr even ↦
          let a = flat even.0 in
          let c : z ≤ y + 1 + 5 * (paths old.tree * 1) + paths old.tree * (1 + 1) =
          subst (λ (t : Tree). z ≤ y + 1 + 5 * (paths t * 1) + paths t * (1 + 1)) marked.tree
          (dropped 1 (subst HasEqualMeets (sym marked.tree) even.0) (few_marks even.0)) in
          let d = even.1 in
          omega arith
    ]

-- ---- leaf after leaf

pub counts_as : (r : Reducts) (j k x y : ℕ) → j ≡ k → CountsLeaves r j x y
    → CountsLeaves r k x y
counts_as r j k x y e h = subst (λ (i : ℕ). CountsLeaves r i x y) e h

sum_next : (j k b x y z : ℕ) → j + 1 ≡ k → y ≤ x + j * b → z ≤ y + 1 * b → z ≤ x + k * b
sum_next j k b x y z e first second =
    subst (λ (i : ℕ). z ≤ x + i * b) e
    (let a : (j + 1) * b ≡ j * b + b = omega arith in omega arith)

bounds_as : (r s : Reducts) (n b : ℕ) → s.tree ≡ r.tree → BoundsLeaf r.tree n b
    → BoundsLeaf s.tree n b
bounds_as r s n b e h = subst (λ (t : Tree). BoundsLeaf t n b) (sym e) h

-- with fewer tuples there are at most as many
pub fewer_stay : (small big : Reducts) (n : ℕ) → IsReducts small → HasMore small big
    → HasAtMost big n → HasAtMost small n
fewer_stay small big n h more few = record {
  each = λ j low.
      let es = entries_at small.tables j in
      let ds = entries_at big.tables j in
      let a = few.each j (subst (λ (t : Tree). j < t.leaves) (sym more.tree) low) in
      let b = length_less es ds
      (λ v. elim (cases_lt 0 (count_of es v)) [
        | inl some ↦
            let there = more.more j v low some in
            let once = cnt_once es v (apart_at small.tables j (h.family.sound j)) in
            omega arith
        | inr none ↦ omega arith
      ]) in
      omega arith;
}

pub counts_fewer : (r s : Reducts) (j k x y z : ℕ) → IsReducts s → HasMore s r → j + 1 ≡ k
    → CountsLeaves r j x y → CountsLeaves s 1 y z → CountsLeaves r k x z
counts_fewer r s j k x y z h more e first second = λ n b few bounds.
    sum_next j k b x y z e (first n b few bounds)
    (second n b (fewer_stay s r n h more few) (bounds_as r s n b (sym more.tree) bounds))

pub all_grown : (r s : Reducts) (n : ℕ) → s.tree ≡ r.tree → GrowsByOne r s → HasAtMost r n
    → HasAtMost s (n + 1)
all_grown r s n e grows few = record {
  each = λ j low.
      let lower : j < r.tree.leaves = subst (λ (t : Tree). j < t.leaves) e low in
      let a = grows.each j lower in
      let b = few.each j lower in
      omega arith;
}

-- the next leaf is as long as before all
pub still_long : {A : Type 0} (Changes : A → List Entry → List Entry → Type 0) (at : ℕ)
    (atoms : List NumberedAtom) (ps : List A) (k : ℕ) (m : NumberedAtom) (r s : Reducts)
    → slice_get atoms k ≡ Some m → ChangesBelow Changes at atoms ps k r s
    → length (entries_at s.tables k) ≡ length (entries_at r.tables k)
still_long Changes at atoms ps k m r s e h =
    length_even (entries_at s.tables k) (entries_at r.tables k)
    (h.others k m e (λ low. absurd (omega arith)))

room_for : {A : Type 0} (Changes : A → List Entry → List Entry → Type 0) (at : ℕ)
    (atoms : List NumberedAtom) (ps : List A) (k : ℕ) (m : NumberedAtom) (r s : Reducts)
    (n : ℕ) → slice_get atoms k ≡ Some m → k < r.tree.leaves
    → ChangesBelow Changes at atoms ps k r s → GrowsByOne r s → HasAtMost r n → LeavesHaveRoom s k n
room_for Changes at atoms ps k m r s n e low h grows few = record {
  leaf = (let a = still_long Changes at atoms ps k m r s e h in
      let b = few.each k low in
      omega arith);
  all = all_grown r s n h.tree grows few;
}

pub grows_next : {A : Type 0} (Changes : A → List Entry → List Entry → Type 0) (at : ℕ)
    (atoms : List NumberedAtom) (ps : List A) (k : ℕ) (m : NumberedAtom) (r s t : Reducts)
    → slice_get atoms k ≡ Some m → ChangesBelow Changes at atoms ps k r s → GrowsByOne r s
    → GrowsAt k s t → GrowsByOne r t
grows_next Changes at atoms ps k m r s t e h grows step = record {
  each = λ j low.
      elim (cases_eq j k) [
        | inl here ↦
            subst (λ (i : ℕ). length (entries_at t.tables i) ≤ length (entries_at r.tables i) + 1)
            (sym here)
            (let a = still_long Changes at atoms ps k m r s e h in
            let b = step.leaf in
            omega arith)
        | inr apart ↦
            let a = step.others j (subst (λ (x : Tree). j < x.leaves) (sym h.tree) low) apart in
            let b = grows.each j low in
            omega arith
      ];
}

pub counts_next : {A : Type 0} (Changes : A → List Entry → List Entry → Type 0) (at : ℕ)
    (atoms : List NumberedAtom) (ps : List A) (k : ℕ) (m : NumberedAtom) (r s : Reducts)
    (i j x y z : ℕ) → slice_get atoms k ≡ Some m → k < r.tree.leaves
    → ChangesBelow Changes at atoms ps k r s → GrowsByOne r s → i + 1 ≡ j
    → CountsLeaves r i x y → CountsLeaf s k 1 y z → CountsLeaves r j x z
counts_next Changes at atoms ps k m r s i j x y z e low h grows one_if first second = λ n b few bounds.
    sum_next i j b x y z one_if (first n b few bounds)
    (second n b (room_for Changes at atoms ps k m r s n e low h grows few)
    (bounds_as r s n b h.tree bounds))

-- ---- a leaf that is refused

pub kept_grows : (r s t : Reducts) → s.tree ≡ r.tree → GrowsByOne r s → HasKept s t
    → GrowsByOne r t
kept_grows r s t e grows kept = record {
  each = λ j low.
      let a = grows.each j low in
      let b = length_even (entries_at t.tables j) (entries_at s.tables j) (kept.tables.tuples j) in
      omega arith;
}

sum_last : (i b x y z : ℕ) → y ≤ x + i * b → z ≤ y + 2 * b → z ≤ x + (i + 2) * b
sum_last i b x y z first second =
    let a : (i + 2) * b ≡ i * b + 2 * b = omega arith in
    omega arith

pub counts_last : {A : Type 0} (Changes : A → List Entry → List Entry → Type 0) (at : ℕ)
    (atoms : List NumberedAtom) (ps : List A) (k : ℕ) (m : NumberedAtom) (r s : Reducts)
    (i x y z : ℕ) → slice_get atoms k ≡ Some m → k < r.tree.leaves
    → ChangesBelow Changes at atoms ps k r s → GrowsByOne r s → CountsLeaves r i x y
    → CountsLeaf s k 2 y z → CountsLeaves r (i + 2) x z
counts_last Changes at atoms ps k m r s i x y z e low h grows first second = λ n b few bounds.
    sum_last i b x y z (first n b few bounds)
    (second n b (room_for Changes at atoms ps k m r s n e low h grows few)
    (bounds_as r s n b h.tree bounds))

-- the leaf that is refused is one more over the relation
pub one_more : (at : ℕ) (atoms : List NumberedAtom) (k : ℕ) (m : NumberedAtom)
    → k < length atoms → m ≡ slice_index_or atoms k m → m.relation ≡ at
    → atoms_below at atoms k + 1 ≤ atoms_below at atoms (length atoms)
one_more at atoms k m low e on =
    let next = counts_over at atoms k m low e on in
    let few = part_few (λ (a : NumberedAtom). a.relation == at) atoms (k + 1) in
    let all = ap (λ (l : List NumberedAtom). length (filter (λ a. a.relation == at) l))
    (take-length atoms) in
    omega arith

-- ---- How much it counts where many tuples come to leaves, and how much where they go.

-- ---- one leaf

longer_leaf_crowding : (j : ℕ) (us : List (List ℕ)) (old new : Reducts) → HasGainedAll old new j us
    → length (entries_at new.tables j) ≡ length (entries_at old.tables j) + length us
longer_leaf_crowding j us old new came = longer_by us (entries_at old.tables j) (entries_at new.tables j) came.leaf

same_leaf_crowding : (j : ℕ) (us : List (List ℕ)) (old new : Reducts) (i : ℕ) → HasGainedAll old new j us
    → i < old.tree.leaves → i ≢ j
    → length (entries_at new.tables i) ≡ length (entries_at old.tables i)
same_leaf_crowding j us old new i came low apart =
    length_even (entries_at new.tables i) (entries_at old.tables i)
    (λ v. came.others i v low apart)

room_after_crowding : (j : ℕ) (us : List (List ℕ)) (n : ℕ) (old new : Reducts)
    → HasGainedAll old new j us → HasAtMost old n
    → length (entries_at old.tables j) + length us ≤ n → HasAtMost new n
room_after_crowding j us n old new came few room = record {
  each = λ i low.
      let lower : i < old.tree.leaves = subst (λ (t : Tree). i < t.leaves) came.tree low in
      elim (cases_eq i j) [
        | inl here ↦
            subst (λ (k : ℕ). length (entries_at new.tables k) ≤ n) (sym here)
            (let a = longer_leaf_crowding j us old new came in omega arith)
        | inr apart ↦
            let a = same_leaf_crowding j us old new i came lower apart in
            let b = few.each i lower in
            omega arith
      ];
}

sum_inserted_crowding : (p n b x y z : ℕ) → 0 < n → 16 * (p * n) ≤ b → y ≤ x + 10 * (p * n)
    → z ≤ y + p * (1 + n) → z ≤ x + 1 * b
sum_inserted_crowding p n b x y z some bounds first second =
    let a = mul-le-mul_left p some in
    let c : p * (1 + n) ≡ p + p * n = omega arith in
    let d : p * 1 ≡ p = omega arith in
    omega arith

pub insertions_count : (j : ℕ) (us : List (List ℕ)) (old mid new : Reducts) (x y z : ℕ)
    → HasInsertedAll old mid j us → HasKept mid new
    → ((n : ℕ) → 0 < n → HasAtMost mid n → y ≤ x + 10 * (paths old.tree * n))
    → ((n : ℕ) → HasAtMost mid n → z ≤ y + paths mid.tree * (1 + n))
    → CountsTuples old j (length us) 1 x z
insertions_count j us old mid new x y z came kept first second = λ n b some most room bounds.
    let few = kept_most mid new n kept
    (room_after_crowding j us n old new (inserted_gained_all old mid new j us came kept) most room) in
    sum_inserted_crowding (paths old.tree) n b x y z some bounds (first n some few)
    (subst (λ (t : Tree). z ≤ y + paths t * (1 + n)) (sym came.without.tree) (second n few))

pub additions_count : (j : ℕ) (us : List (List ℕ)) (old new : Reducts) (x z : ℕ)
    → HasGainedAll old new j us
    → ((n : ℕ) → HasAtMost new n → z ≤ x + 4 * (paths old.tree * n))
    → CountsTuples old j (length us) 1 x z
additions_count j us old new x z came counted = λ n b some most room bounds.
    let a = counted n (room_after_crowding j us n old new came most room) in
    omega arith

pub refusals_count : (j more : ℕ) (old : Reducts) (x y : ℕ)
    → ((n : ℕ) → HasAtMost old n → length (entries_at old.tables j) + more ≤ n
    → y ≤ x + 18 * (paths old.tree * n))
    → CountsTuples old j more 2 x y
refusals_count j more old x y bounded = λ n b some most room bounds.
    let a = bounded n most room in
    omega arith

-- ---- over equal meets

sum_flat_tuples : (p k m b x y z : ℕ) → 0 < m → m ≤ k → 16 * (k * p) ≤ b → y ≤ x + 10 * (p * k) → z ≤ y + p * (1 + m)
    → z ≤ x + b
sum_flat_tuples p k m b x y z some room bounds first second =
    let a : k * p ≡ p * k = omega arith in
    let c : p * (1 + m) ≡ p + p * m = omega arith in
    let d = mul-le-mul_left p room in
    let e = mul-le-mul_left p some in
    let f : p * 1 ≡ p = omega arith in
    omega arith

pub insertions_flat : (j : ℕ) (us : List (List ℕ)) (old mid : Reducts) (x y z : ℕ) → 0 < length us
    → HasInsertedAll old mid j us
    → ((n : ℕ) → 0 < n → length us ≤ n → HasEqualMeets old.tree → y ≤ x + 10 * (paths old.tree * n))
    → (HasEqualMeets old.tree → HaveMarksUpTo (length us) mid.tables)
    → ((n : ℕ) → HaveMarksUpTo n mid.tables → z ≤ y + paths mid.tree * (1 + n))
    → CountsFlatTuples old (length us) x z
insertions_flat j us old mid x y z some came first few second = λ k b room meets bounds.
    sum_flat_tuples (paths old.tree) k (length us) b x y z some room bounds (first k (omega arith) room meets)
    (subst (λ (t : Tree). z ≤ y + paths t * (1 + length us)) (sym came.without.tree) (second (length us) (few meets)))

pub additions_flat : (us : List (List ℕ)) (old : Reducts) (x z : ℕ)
    → ((n : ℕ) → length us ≤ n → HasEqualMeets old.tree → z ≤ x + 4 * (paths old.tree * n))
    → CountsFlatTuples old (length us) x z
additions_flat us old x z counted = λ k b room meets bounds.
    let a = counted k room meets in
    let c : k * paths old.tree ≡ paths old.tree * k = omega arith in
    omega arith

pub droppings_count : (old : Reducts) (x z : ℕ)
    → ((n : ℕ) → HasAtMost old n → z ≤ x + 5 * (paths old.tree * n)) → CountsGiven old 1 x z
droppings_count old x z counted = λ n b most bounds. (let a = counted n most in omega arith)

-- ---- leaf after leaf

pub grown_none : (more : ℕ) (r : Reducts) → GrowsBy more r r
grown_none more r = record { each = λ j low. omega arith }

pub grown_next : (at : ℕ) (atoms : List NumberedAtom) (batch : List (List (List ℕ)))
    (k more : ℕ) (m : NumberedAtom) (us : List (List ℕ)) (r s t : Reducts)
    → slice_get atoms k ≡ Some m → slice_get batch k ≡ Some us → HasFew more batch
    → ChangesBelow (λ x es fs. GainsTuples x es fs) at atoms batch k r s → GrowsBy more r s
    → HasGainedAll s t k us → GrowsBy more r t
grown_next at atoms batch k more m us r s t e f few h grows came = record {
  each = λ j low.
      elim (cases_eq j k) [
        | inl here ↦
            subst (λ (i : ℕ). length (entries_at t.tables i) ≤ length (entries_at r.tables i) + more)
            (sym here)
            (let a = still_long (λ x es fs. GainsTuples x es fs) at atoms batch k m r s e h in
            let b = longer_leaf_crowding k us s t came in
            let c = few.each k us f in
            omega arith)
        | inr apart ↦
            let a = same_leaf_crowding k us s t j came (subst (λ (x : Tree). j < x.leaves) (sym h.tree) low)
            apart in
            let b = grows.each j low in
            omega arith
      ];
}

pub grown_kept : (more : ℕ) (r s t : Reducts) → GrowsBy more r s → HasKept s t
    → GrowsBy more r t
grown_kept more r s t grows kept = record {
  each = λ j low.
      let a = grows.each j low in
      let b = length_even (entries_at t.tables j) (entries_at s.tables j) (kept.tables.tuples j) in
      omega arith;
}

pub all_grown_crowding : (more : ℕ) (r s : Reducts) (n : ℕ) → s.tree ≡ r.tree → GrowsBy more r s
    → HasAtMost r n → HasAtMost s (n + more)
all_grown_crowding more r s n e grows most = record {
  each = λ j low.
      let lower : j < r.tree.leaves = subst (λ (t : Tree). j < t.leaves) e low in
      let a = grows.each j lower in
      let b = most.each j lower in
      omega arith;
}

pub one_larger : (r : Reducts) (n : ℕ) → HasAtMost r n → HasAtMost r (n + 1)
one_larger r n most = record { each = λ j low. (let a = most.each j low in omega arith) }

pub counted_none : (more : ℕ) (r : Reducts) (i x : ℕ) → CountsMany more r i x x
counted_none more r i x = λ n b most bounds. omega arith

pub counted_as : (more : ℕ) (r : Reducts) (i j x y : ℕ) → i ≡ j → CountsMany more r i x y
    → CountsMany more r j x y
counted_as more r i j x y e h = subst (λ (k : ℕ). CountsMany more r k x y) e h

pub sum_next_crowding : (i j b c x y z : ℕ) → i + c ≡ j → y ≤ x + i * b → z ≤ y + c * b → z ≤ x + j * b
sum_next_crowding i j b c x y z e first second =
    subst (λ (k : ℕ). z ≤ x + k * b) e
    (let a : (i + c) * b ≡ i * b + c * b = omega arith in omega arith)

-- a leaf more, which counts so many times a bound
pub counted_more : (at : ℕ) (atoms : List NumberedAtom) (batch : List (List (List ℕ)))
    (k more : ℕ) (m : NumberedAtom) (us : List (List ℕ)) (r s : Reducts) (c i j x y z : ℕ)
    → slice_get atoms k ≡ Some m → slice_get batch k ≡ Some us → HasFew more batch
    → k < r.tree.leaves → ChangesBelow (λ v es fs. GainsTuples v es fs) at atoms batch k r s
    → GrowsBy more r s → i + c ≡ j → CountsMany more r i x y
    → CountsTuples s k (length us) c y z → CountsMany more r j x z
counted_more at atoms batch k more m us r s c i j x y z e f few low h grows sums first second =
    λ n b most bounds.
    let long = still_long (λ v es fs. GainsTuples v es fs) at atoms batch k m r s e h in
    let before = most.each k low in
    let size = few.each k us f in
    sum_next_crowding i j b c x y z sums (first n b most bounds)
    (second (n + more + 1) b (omega arith)
    (one_larger s (n + more) (all_grown_crowding more r s n h.tree grows most)) (omega arith)
    (subst (λ (t : Tree). 16 * (paths t * (n + more + 1)) ≤ b) (sym h.tree) bounds))

pub flat_none : (more : ℕ) (r : Reducts) (i x : ℕ) → CountsFlatMany more r i x x
flat_none more r i x = λ b meets bounds. omega arith

pub flat_as : (more : ℕ) (r : Reducts) (i j x y : ℕ) → i ≡ j → CountsFlatMany more r i x y
    → CountsFlatMany more r j x y
flat_as more r i j x y e h = subst (λ (k : ℕ). CountsFlatMany more r k x y) e h

pub flat_more : (batch : List (List (List ℕ))) (k more : ℕ) (us : List (List ℕ)) (r s : Reducts) (i j x y z : ℕ)
    → slice_get batch k ≡ Some us → HasFew more batch → s.tree ≡ r.tree → i + 1 ≡ j → CountsFlatMany more r i x y
    → CountsFlatTuples s (length us) y z → CountsFlatMany more r j x z
flat_more batch k more us r s i j x y z f few tree sums first second = λ b meets bounds.
    let last = second more b (few.each k us f) (subst HasEqualMeets (sym tree) meets)
    (subst (λ (t : Tree). 16 * (more * paths t) ≤ b) (sym tree) bounds) in
    sum_next_crowding i j b 1 x y z sums (first b meets bounds) (omega arith)

-- ---- giving back

pub given_as : (r : Reducts) (i j x y : ℕ) → i ≡ j → CountsGiven r i x y → CountsGiven r j x y
given_as r i j x y e h = subst (λ (k : ℕ). CountsGiven r k x y) e h

pub given_more : (r s : Reducts) (i j x y z : ℕ) → IsReducts s → HasMore s r → i + 1 ≡ j
    → CountsGiven r i x y → CountsGiven s 1 y z → CountsGiven r j x z
given_more r s i j x y z h more e first second = λ n b most bounds.
    sum_next_crowding i j b 1 x y z e (first n b most bounds)
    (second n b (fewer_stay s r n h more most)
    (subst (λ (t : Tree). 16 * (paths t * n) ≤ b) more.tree bounds))
