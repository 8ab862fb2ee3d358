-- Tuples of a leaf are marked, one after another, then what goes with them, and then they go.
use Rattle.std.proofs.Common.{◌≡◌, ◌≢◌, ℕ, ◌+◌, ◌*◌, ◌<◌, ◌≤◌, true, List, ◌∷◌, length, refl, ap, subst, sym, ◌∙◌}
use Rattle.std.proofs.Common.{arith, inl, inr, mul-le-mul_right}
use Rattle.std.specs.Prelude.{◌⊎◌}
use Rattle.std.proofs.lemmas.Bool.{cases_eq, cases_lt}
use Rattle.djq_index.specs.Tuple.{same, one_if}
use Rattle.djq_index.specs.Entries.{Entry, supports_of, count_of, marks}
use Rattle.djq_index.specs.Table.{Table}
use Rattle.djq_index.proofs.Tuples.{cnt_cons, cnt_split, is_same, one_other, one_true, same_cases, same_is}
use Rattle.djq_index.proofs.Tuples.{Stands, stands, true_from_one}
use Rattle.djq_index.proofs.Groups.{removed_cnt}
use Rattle.djq_tree.specs.Tree.{Tree}
use Rattle.djq_tree.specs.Flat.{HasEqualMeets}
use Rattle.djq_reduct.specs.Tables.{entries_at}
use Rattle.djq_reduct.specs.Reducts.{Reducts, IsReducts}
use Rattle.djq_reduct.specs.Marks.{IsBare, AreOnPath}
use Rattle.djq_propagate.specs.Sizes.{size}
use Rattle.djq_propagate.specs.Walks.{RemovedUpwards, Fewer}
use Rattle.djq_propagate.specs.Touches.{IsTouched, IsTouchedUp, CanWalk, IsWalked, HaveMarksOnlyAt}
use Rattle.djq_propagate.specs.Updates.{HasMarked, HasMarkedMore, HasMarkedAbove, steps}
use Rattle.djq_propagate.proofs.Families.{once}
use Rattle.djq_propagate.proofs.PathMarks.{on_high, on_within}
use Rattle.djq_propagate.proofs.Costs.{length_less, path_size}
use Rattle.djq_propagate.proofs.RefusedCosts.{one_longer, more_length}
use Rattle.djq_propagate.proofs.Updates.{both, leaf_below, reducts_died, reducts_same, tables_same}
use Rattle.djq_propagate.proofs.Batches.{marks_once, one_died}

-- ---- a tuple more is marked

pub touched_supports : (t : Tree) (old mid : List Table) (a : ℕ) (f : List ℕ → ℕ) → IsTouched t old mid a f → (i : ℕ)
    (v : List ℕ) → supports_of (entries_at mid i) v ≡ supports_of (entries_at old i) v
touched_supports t old mid a f y i v =
    elim (cases_eq i a) [
      | inl here ↦ subst (λ (z : ℕ). supports_of (entries_at mid z) v ≡ supports_of (entries_at old z) v) (sym here)
          (y.supports v)
      | inr apart ↦ ap (λ (es : List Entry). supports_of es v) (y.others i apart)
    ]

pub bare_only : (ts : List Table) (a : ℕ) → IsBare ts → HaveMarksOnlyAt ts a
bare_only ts a b = record { none = λ i apart v. b.none i v }

pub only_touched : (t : Tree) (old mid : List Table) (a : ℕ) (f : List ℕ → ℕ) → HaveMarksOnlyAt old a
    → IsTouched t old mid a f → HaveMarksOnlyAt mid a
only_touched t old mid a f o y = record {
  none = λ i apart v. ap (λ (es : List Entry). count_of (marks es) v) (y.others i apart) ∙ o.none i apart v;
}

pub marked_more : (t : Tree) (old mid : List Table) (a : ℕ) (u : List ℕ) → IsReducts (both t old)
    → HaveMarksOnlyAt old a → 0 < count_of (entries_at old a) u → IsTouched t old mid a (λ v. one_if (same u v))
    → HasMarkedMore (both t old) (both t mid) a u
marked_more t old mid a u r o has y = record {
  sound = reducts_same t old mid r y.family all;
  tree = refl;
  tables = tables_same t old mid r.family y.family all;
  marked = λ v. (from v, to v);
  few = one_longer (marks (entries_at old a)) (marks (entries_at mid a)) (record {
    tuple = u;
    only = λ v some none. sym (here v (omega (arith, y.only v some)));
  }) (marks_once t mid a y.family);
  more = λ fresh. longer (stands (entries_at old a) u has) fresh;
  only = only_touched t old mid a (λ v. one_if (same u v)) o y;
}
  where
    all : (i : ℕ) (v : List ℕ) → supports_of (entries_at mid i) v ≡ supports_of (entries_at old i) v
    all i v = touched_supports t old mid a (λ w. one_if (same u w)) y i v

    here : (v : List ℕ) → 0 < one_if (same u v) → u ≡ v
    here v some = same_is u v (true_from_one (same u v) some)

    from : (v : List ℕ) → 0 < count_of (marks (entries_at mid a)) v
        → (0 < count_of (marks (entries_at old a)) v) ⊎ (u ≡ v)
    from v some =
        elim (cases_lt 0 (count_of (marks (entries_at old a)) v)) [
          | inl before ↦ inl before
          | inr none ↦ inr (here v (omega (arith, y.only v some)))
        ]

    to : (v : List ℕ) → (0 < count_of (marks (entries_at old a)) v) ⊎ (u ≡ v)
        → 0 < count_of (marks (entries_at mid a)) v
    to v h =
        elim h [
          | inl before ↦ omega (arith, y.keeps v)
          | inr e ↦
              let test = one_true (same u v) (is_same u v e) in
              y.comes v (subst (λ (w : List ℕ). 0 < count_of (entries_at old a) w) e has) (omega arith)
        ]

    longer : Stands (entries_at old a) u → count_of (marks (entries_at old a)) u ≡ 0
        → length (marks (entries_at old a)) + 1 ≤ length (marks (entries_at mid a))
    longer s fresh =
        let less = length_less (s.entry ∷ marks (entries_at old a)) (marks (entries_at mid a)) (λ v.
        let first = cnt_cons s.entry (marks (entries_at old a)) v in
        let is : one_if (same s.entry.tuple v) ≡ one_if (same u v) = ap (λ (w : List ℕ). one_if (same w v)) s.tuple in
        elim (same_cases u v) [
          | inl e ↦
              let test = one_true (same u v) (is_same u v e) in
              let z : count_of (marks (entries_at old a)) v ≡ 0 = subst
              (λ (w : List ℕ). count_of (marks (entries_at old a)) w ≡ 0) e fresh in
              let m = to v (inr e) in
              omega arith
          | inr other ↦ omega (arith, one_other u v other, y.keeps v)
        ]) in
        omega arith

-- ---- what goes with the marked tuples

pub can_mark : (t : Tree) (ts : List Table) (a : ℕ) → IsReducts (both t ts) → a < t.leaves → HaveMarksOnlyAt ts a
    → CanWalk t ts a true
can_mark t ts a r h o = record {
  reduced = r.reduced;
  covered = λ k high on. record {
    each = λ w some. absurd
        (let up = on_high t a k r.family.is_tree on in omega (arith, o.none k (omega arith) w));
  };
  bare = λ e i apart v. o.none i apart v;
}

pub marked_above : (t : Tree) (mid new : List Table) (a : ℕ) → IsReducts (both t mid) → a < t.leaves
    → HaveMarksOnlyAt mid a → IsTouchedUp t mid new a → IsWalked t mid new a true (length t.nodes)
    → HasMarkedAbove (both t mid) (both t new) a
marked_above t mid new a r h o x walk = record {
  sound = reducts_same t mid new r x.family x.supports;
  tree = refl;
  tables = tables_same t mid new r.family x.family x.supports;
  marked = λ v. ap (λ (es : List Entry). count_of (marks es) v) (x.leaves a h);
  are_marks = record {
    path = record {
      off = λ i off v. ap (λ (es : List Entry). count_of (marks es) v) (x.off i off) ∙ o.none i off.0 v;
    };
    low = λ k second on. walk.low k (on_within t a k on) second refl on;
    high = λ k second on. walk.high k (on_within t a k on) second on;
  };
}

-- before that, too, marks stand on the leaf's path alone
pub marks_on_path : (r : Reducts) (a : ℕ) → HaveMarksOnlyAt r.tables a → AreOnPath r.tree r.tables a
marks_on_path r a o = record { off = λ i off v. o.none i off.0 v }

-- ---- one tuple, and what goes with it

pub can_remove : (t : Tree) (old mid : List Table) (a : ℕ) (u : List ℕ) → IsReducts (both t old) → a < t.leaves
    → IsBare old → 0 < count_of (entries_at old a) u → IsTouched t old mid a (λ v. one_if (same u v))
    → CanWalk t mid a true
can_remove t old mid a u r h b has y =
    let m = marked_more t old mid a u r (bare_only old a b) has y in
    can_mark t mid a m.sound h m.only

pub marked_all : (t : Tree) (old mid new : List Table) (a : ℕ) (u : List ℕ) → IsReducts (both t old) → a < t.leaves
    → IsBare old → 0 < count_of (entries_at old a) u → IsTouched t old mid a (λ v. one_if (same u v))
    → IsTouchedUp t mid new a
    → IsWalked t mid new a true (length t.nodes) → HasMarked (both t old) (both t new) a u
marked_all t old mid new a u r h b has y x walk =
    let m = marked_more t old mid a u r (bare_only old a b) has y in
    let up = marked_above t mid new a m.sound h m.only x walk in
    record {
      sound = up.sound;
      tree = refl;
      tables = record {
        tuples = λ i v. up.tables.tuples i v ∙ m.tables.tuples i v;
        supports = λ i v. up.tables.supports i v ∙ m.tables.supports i v;
      };
      marked = λ v. up.marked v ∙ mark v;
      are_marks = up.are_marks;
    }
  where
    mark : (v : List ℕ) → count_of (marks (entries_at mid a)) v ≡ one_if (same u v)
    mark v =
        elim (same_cases u v) [
          | inl here ↦ (
              let test = one_true (same u v) (is_same u v here) in
              let some : 0 < count_of (entries_at old a) v = subst (λ (w : List ℕ). 0 < count_of (entries_at old a) w)
              here has
              in
              omega (arith, y.comes v some (omega arith), marks_once t mid a y.family v))
          | inr other ↦ (
              let test = one_other u v other in
              elim (cases_lt 0 (count_of (marks (entries_at mid a)) v)) [
                | inl some ↦ absurd (omega (arith, y.only v some, b.none a v))
                | inr none ↦ omega arith
              ])
        ]

-- ---- a marked tuple goes

-- the leaf has one mark fewer
pub mark_gone : (t : Tree) (mid new : List Table) (a : ℕ) (u : List ℕ) → IsReducts (both t mid)
    → RemovedUpwards t mid new a u → Fewer mid new → 0 < count_of (marks (entries_at mid a)) u
    → length (marks (entries_at new a)) + 1 ≤ length (marks (entries_at mid a))
mark_gone t mid new a u r d w marked =
    let extra = d.loses.entry in
    let less = length_less (extra ∷ marks (entries_at new a)) (marks (entries_at mid a)) (λ v.
    elim (same_cases extra.tuple v) [
      | inl here ↦
          let e : u ≡ v = sym d.loses.tuple ∙ here in
          let some : 0 < count_of (marks (entries_at mid a)) v = subst
          (λ (x : List ℕ). 0 < count_of (marks (entries_at mid a)) x) e marked in
          let test = one_true (same u v) (is_same u v e) in
          omega (
            arith,
            cnt_cons extra (marks (entries_at new a)) v,
            one_true (same extra.tuple v) (is_same extra.tuple v here),
            once t mid r.family a v,
            cnt_split (entries_at new a) v,
            removed_cnt (entries_at mid a) (entries_at new a) u d.loses v,
          )
      | inr other ↦
          omega (arith, cnt_cons extra (marks (entries_at new a)) v, one_other extra.tuple v other, w.marked a v)
    ]) in
    omega arith

-- over equal meets no table on the path loses more than one tuple by it
pub size_gone : (t : Tree) (mid new : List Table) (a : ℕ) (u : List ℕ) → HasEqualMeets t → IsReducts (both t mid)
    → a < t.leaves → RemovedUpwards t mid new a u
    → size mid ≤ size new + (1 + steps t.nodes a (length t.nodes))
size_gone t mid new a u meets r h d =
    let s = reducts_died t mid new a u r h d in
    let same_leaf = λ (j : ℕ) (v : List ℕ) (low : j < t.leaves) (apart : j ≢ a). sym
    (ap (λ (es : List Entry). count_of es v) (d.below j (leaf_below t a j r.family.is_tree low apart))) in
    let p = path_size t new mid a 1 s r same_leaf
    (more_length t new mid a meets s r same_leaf (one_died t mid new a u d)) in
    omega arith

pub size_next : (i S x y z : ℕ) → x ≤ y + i * (1 + S) → y ≤ z + (1 + S) → x ≤ z + (i + 1) * (1 + S)
size_next i S x y z first second = let e : (i + 1) * (1 + S) ≡ i * (1 + S) + (1 + S) = omega arith in omega arith

pub size_done : (i m S x y : ℕ) → i ≤ m → x ≤ y + i * (1 + S) → x ≤ y + m * (1 + S)
size_done i m S x y few first = let k = mul-le-mul_right (1 + S) few in omega arith
