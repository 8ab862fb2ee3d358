-- From the walks to the calls of an update.
use Rattle.std.proofs.Common.{◌≡◌, ◌≢◌, ℕ, suc, ◌+◌, ◌<◌, true, false, List, [], ◌∷◌, length, Some, refl, ap, subst}
use Rattle.std.proofs.Common.{sym, ◌∙◌, arith, inl, inr}
use Rattle.std.proofs.lemmas.Bool.{cases_eq, cases_lt, cases_Bool, false≢true}
use Rattle.djq_index.specs.declared.place.Place.{Place}
use Rattle.djq_index.specs.Tuple.{one_if, same}
use Rattle.djq_index.specs.Entries.{Entry, supports_of, count_of, marks, plain, head_at}
use Rattle.djq_index.specs.Table.{Table, IsAt}
use Rattle.djq_index.proofs.Tuples.{cnt_split, cnt_length, cnt_cons, same_cases, one_other, one_same}
use Rattle.djq_index.proofs.Groups.{inserted_cnt, inserted_supp, removed_cnt, removed_supp}
use Rattle.djq_tree.specs.declared.node.Node.{Node}
use Rattle.djq_tree.specs.declared.node.Node.TheVariants.{Leaf}
use Rattle.djq_tree.specs.Tree.{Tree, IsTree, node_at}
use Rattle.djq_tree.proofs.Paths.{rising_of}
use Rattle.djq_reduct.specs.Tables.{entries_at, key_at}
use Rattle.djq_reduct.specs.Reducts.{Reducts, IsReducts, IsReductOf, IsFamily, AreReduced, SameTables}
use Rattle.djq_reduct.specs.Marks.{on_path, IsOff, IsBare, AreOnPath, IsWithout}
use Rattle.djq_reduct.proofs.Assignments.{leaf_law, one_family}
use Rattle.djq_propagate.specs.Walks.{Ready, InsertedUpwards, RemovedUpwards, Refused, Fewer, CameAs, IsBelowParent}
use Rattle.djq_propagate.specs.Touches.{IsTouchedUp, CanWalk, IsWalked}
use Rattle.djq_propagate.specs.Batches.{times, HaveCome, HasInsertedAll, HasGainedAll}
use Rattle.djq_propagate.specs.Updates.{HasInserted, HasMarked, HasKept, HasDropped, HasTaken, HasCleared, HasGained}
use Rattle.djq_propagate.specs.Updates.{HasLost}
use Rattle.djq_propagate.proofs.Families.{once, apart_of, tuples_same, reduced_same}
use Rattle.djq_propagate.proofs.PathMarks.{cond_one, fewer_refl, fewer_trans, inner_high, off_same, on_within}
use Rattle.djq_propagate.proofs.Walks.{mark_at}
use Rattle.djq_propagate.proofs.Marks.{covered_new, plain_new}

-- a tree and its tables
abbrev pub both : Tree → List Table → Reducts
both t ts = record { tree = t; tables = ts }

-- what else holds of reducts speaks of the tree alone
pub rest_kept : {A B C D E : Type 0} → A × B × C × D → E → E × B × C × D
rest_kept held e = (e, held.1, held.2, held.3)

pub leaf_within : (t : Tree) (a : ℕ) → IsTree t → a < t.leaves → a < length t.nodes
leaf_within t a s h = let f = s.fits in omega arith

pub ready_leaf : (t : Tree) (ts : List Table) (a : ℕ) → IsReducts (both t ts) → a < t.leaves → Ready t ts a
ready_leaf t ts a r h = record {
  family = r.family;
  within = leaf_within t a r.family.is_tree h;
  reduced = record { at = λ k low within. r.reduced.at k (omega arith) within };
}

-- other leaves are below
pub leaf_below : (t : Tree) (a i : ℕ) → IsTree t → i < t.leaves → i ≢ a → IsBelowParent t a i
leaf_below t a i s h apart = (apart, (λ k child. let high = inner_high t k a s child in omega arith))

leaf_supp : (t : Tree) (ts : List Table) (i : ℕ) → IsReducts (both t ts) → i < t.leaves → (v : List ℕ)
    → supports_of (entries_at ts i) v ≡ count_of (entries_at ts i) v
leaf_supp t ts i r h v = leaf_law (node_at t.nodes i) i ts i (r.family.is_tree.leaf i h)
    (r.reduced.at i (omega arith) (leaf_within t i r.family.is_tree h)) v

from_leaf : (n : Node) (i : ℕ) (ts : List Table) → n ≡ Leaf i
    → ((v : List ℕ) → supports_of (entries_at ts i) v ≡ count_of (entries_at ts i) v) → IsReductOf n ts i
unfolding IsReductOf
from_leaf n i ts e h = subst (λ (m : Node). IsReductOf m ts i) (sym e) h

-- the tables are reducts again once a leaf's tuple has gone up
reducts_from : (t : Tree) (old new : List Table) (a : ℕ) → IsReducts (both t old) → a < t.leaves → IsFamily t new
    → AreReduced t new (a + 1) → ((i : ℕ) → IsBelowParent t a i → entries_at new i ≡ entries_at old i)
    → ((v : List ℕ) → supports_of (entries_at new a) v ≡ count_of (entries_at new a) v) → IsReducts (both t new)
reducts_from t old new a r h f up below here = record {
  family = f;
  reduced = record {
    at = λ k low within. elim (cases_lt a k) [
      | inl above ↦ up.at k (omega arith) within
      | inr under ↦ elim (cases_eq k a) [
        | inl same_one ↦ subst (λ (z : ℕ). IsReductOf (node_at t.nodes z) new z) (sym same_one)
            (from_leaf (node_at t.nodes a) a new (r.family.is_tree.leaf a h) here)
        | inr apart ↦
            (let e = below k (leaf_below t a k r.family.is_tree (omega arith) apart) in
            from_leaf (node_at t.nodes k) k new (r.family.is_tree.leaf k (omega arith))
            (λ v. ap (λ (es : List Entry). supports_of es v) e ∙ leaf_supp t old k r (omega arith) v
            ∙ ap (λ (es : List Entry). count_of es v) (sym e)))
      ]
    ];
  };
}

pub reducts_lived : (t : Tree) (old new : List Table) (a : ℕ) (u : List ℕ) → IsReducts (both t old) → a < t.leaves
    → InsertedUpwards t old new a u → IsReducts (both t new)
reducts_lived t old new a u r h l =
    reducts_from t old new a r h l.family l.reduced l.below
    (λ v. omega (
      arith,
      inserted_supp (key_at old a) (entries_at old a) (entries_at new a) u l.gains v,
      inserted_cnt
          (key_at old a) (entries_at old a) (entries_at new a) u l.gains v,
      leaf_supp t old a r h v,
    ))

pub reducts_died : (t : Tree) (old new : List Table) (a : ℕ) (u : List ℕ) → IsReducts (both t old) → a < t.leaves
    → RemovedUpwards t old new a u → IsReducts (both t new)
reducts_died t old new a u r h d =
    let unit : supports_of (entries_at old a) u
    ≡ 1 = omega (
      arith,
      leaf_supp t old a r h u,
      removed_cnt (entries_at old a) (entries_at new a) u d.loses u,
      one_same u,
      once t old r.family a u,
    ) in
    reducts_from t old new a r h d.family d.reduced d.below
    (λ v. omega (
      arith,
      removed_supp (entries_at old a) (entries_at new a) u d.loses (apart_of t old r.family a) v,
      cond_one (same u v) (supports_of (entries_at old a) u) unit,
      removed_cnt (entries_at old a) (entries_at new a) u
          d.loses v,
      leaf_supp t old a r h v,
    ))

pub reducts_same : (t : Tree) (old new : List Table) → IsReducts (both t old) → IsFamily t new
    → ((i : ℕ) (v : List ℕ) → supports_of (entries_at new i) v ≡ supports_of (entries_at old i) v)
    → IsReducts (both t new)
reducts_same t old new r f h = record { family = f; reduced = reduced_same t old new 0 r.family f h r.reduced }

pub tables_same : (t : Tree) (old new : List Table) → IsFamily t old → IsFamily t new
    → ((i : ℕ) (v : List ℕ) → supports_of (entries_at new i) v ≡ supports_of (entries_at old i) v)
    → SameTables (both t old) (both t new)
tables_same t old new f g h = record { tuples = λ i v. tuples_same t old new f g i (h i) v; supports = h }

-- marks of tuples that stay
pub bare_same : (t : Tree) (old new : List Table) → IsFamily t old → IsFamily t new
    → ((i : ℕ) (v : List ℕ) → supports_of (entries_at new i) v ≡ supports_of (entries_at old i) v)
    → CameAs true old new → IsBare old
    → IsBare new
bare_same t old new f g h p b = record {
  none = λ i v. omega (
    arith,
    tuples_same t old new f g i (h i) v,
    p.same i v,
    b.none i v,
    cnt_split (entries_at old i)
        v,
    cnt_split (entries_at new i) v,
  );
}

pub refused_kept : (t : Tree) (old new : List Table) (a : ℕ) → IsReducts (both t old) → Refused t old new a → IsBare new
    → HasKept (both t old) (both t new)
refused_kept t old new a r x b = record {
  sound = reducts_same t old new r x.family x.supports;
  tree = refl;
  tables = tables_same t old new r.family x.family x.supports;
  bare = b;
}

-- an update without marks
pub gained_all : (t : Tree) (old new : List Table) (a : ℕ) (u : List ℕ) → IsReducts (both t old) → a < t.leaves
    → IsBare new → InsertedUpwards t old new a u → HasGained (both t old) (both t new) a u
gained_all t old new a u r h b l = record {
  sound = reducts_lived t old new a u r h l;
  tree = refl;
  leaf = inserted_cnt (key_at old a) (entries_at old a) (entries_at new a) u l.gains;
  others = λ j v low apart. ap (λ (es : List Entry). count_of es v)
      (l.below j (leaf_below t a j r.family.is_tree low apart));
  bare = b;
}

pub lost_all : (t : Tree) (old new : List Table) (a : ℕ) (u : List ℕ) → IsReducts (both t old) → a < t.leaves
    → IsBare new → RemovedUpwards t old new a u → HasLost (both t old) (both t new) a u
lost_all t old new a u r h b d = record {
  sound = reducts_died t old new a u r h d;
  tree = refl;
  leaf = removed_cnt (entries_at old a) (entries_at new a) u d.loses;
  others = λ j v low apart. ap (λ (es : List Entry). count_of es v)
      (d.below j (leaf_below t a j r.family.is_tree low apart));
  bare = b;
}

-- what came, as a list
pub times_one : (u v : List ℕ) → times (u ∷ []) v ≡ one_if (same u v)
unfolding times
times_one u v = omega arith

pub lived_come : (t : Tree) (old new : List Table) (a : ℕ) (u : List ℕ) → IsReducts (both t old) → a < t.leaves
    → InsertedUpwards t old new a u → HaveCome t old new a (u ∷ [])
lived_come t old new a u r h l = record {
  sound = reducts_lived t old new a u r h l;
  leaf = λ v. omega (
    arith,
    inserted_cnt (key_at old a) (entries_at old a) (entries_at new a) u l.gains v,
    times_one u
        v,
  );
  others = λ j v low apart. ap (λ (es : List Entry). count_of es v)
      (l.below j (leaf_below t a j r.family.is_tree low apart));
}

-- before the walk
pub can_come : (t : Tree) (old mid : List Table) (a : ℕ) (us : List (List ℕ)) → IsReducts (both t old) → IsBare old
    → HaveCome t old mid a us → CameAs true old mid → CanWalk t mid a false
can_come t old mid a us r b x p = record {
  reduced = x.sound.reduced;
  covered = λ k high on. covered_new t old mid a k r x.sound b p x.others on;
  bare = λ e. absurd (false≢true e);
}

pub can_insert : (t : Tree) (old mid : List Table) (a : ℕ) (u : List ℕ) → IsReducts (both t old) → a < t.leaves
    → IsBare old → InsertedUpwards t old mid a u → CameAs true old mid → CanWalk t mid a false
can_insert t old mid a u r h b l p = can_come t old mid a (u ∷ []) r b (lived_come t old mid a u r h l) p

-- an insertion
pub all_inserted : (t : Tree) (old mid new : List Table) (a : ℕ) (us : List (List ℕ)) → IsReducts (both t old)
    → a < t.leaves → IsBare old → HaveCome t old mid a us → CameAs true old mid → IsTouchedUp t mid new a
    → IsWalked t mid new a false (length t.nodes)
    → HasInsertedAll (both t old) (both t new) a us
all_inserted t old mid new a us r h b come p x walk = record {
  sound = reducts_same t mid new come.sound x.family x.supports;
  without = record {
    tree = refl;
    leaf = λ v. omega (
      arith,
      ap (λ (es : List Entry). count_of (plain es) v) (x.leaves a h),
      p.same a v,
      b.none a v,
      cnt_split (entries_at old a) v,
    );
    others = λ j v low apart. sym (ap (λ (es : List Entry). count_of es v) (x.leaves j low) ∙ come.others j v low
        apart);
  };
  marked = λ v. omega (
    arith,
    ap (λ (es : List Entry). count_of (marks es) v) (x.leaves a h),
    come.leaf v,
    p.same a v,
    cnt_split (entries_at old a) v,
    cnt_split (entries_at mid a) v,
    b.none a v,
  );
  are_marks = record {
    path = record {
      off = λ i off v.
          omega (
            arith,
            ap (λ (es : List Entry). count_of (marks es) v) (x.off i off),
            p.same i v,
            b.none i v,
            cnt_split (entries_at old i) v,
            cnt_split (entries_at mid i) v,
            tuples_same t old mid r.family come.sound.family i
                (off_same t old mid a r.family come.sound.family r.reduced come.sound.reduced come.others (suc i) i
                (omega arith) off) v,
          );
    };
    low = λ k second on.
        plain_new t old new k (node_at t.nodes k) r.family x.family (r.reduced.at k (omega arith) (on_within t a k on))
        (λ i less v. omega (
          arith,
          ap (λ (es : List Entry). count_of (plain es) v) (walk.skipped refl i (omega arith)),
          p.same i v,
          b.none i v,
          cnt_split (entries_at old i) v,
        )) (rising_of t r.family.is_tree k);
    high = λ k second on. walk.high k (on_within t a k on) second on;
  };
}

-- of one tuple
pub inserted_one : (old new : Reducts) (a : ℕ) (u : List ℕ) → HasInsertedAll old new a (u ∷ [])
    → HasInserted old new a u
inserted_one old new a u x = record
    { sound = x.sound; without = x.without; marked = λ v. x.marked v ∙ times_one u v; are_marks = x.are_marks }

pub inserted_all : (t : Tree) (old mid new : List Table) (a : ℕ) (u : List ℕ) → IsReducts (both t old) → a < t.leaves
    → IsBare old → InsertedUpwards t old mid a u → CameAs true old mid → IsTouchedUp t mid new a
    → IsWalked t mid new a false (length t.nodes) → HasInserted (both t old) (both t new) a u
inserted_all t old mid new a u r h b l p x walk = inserted_one (both t old) (both t new) a u
    (all_inserted t old mid new a (u ∷ []) r h b (lived_come t old mid a u r h l) p x walk)

-- the marked tuples go, one after another
pub record IsTaking (t : Tree) (old new : List Table) (a : ℕ) : Type 0 where
  pub sound : IsReducts (both t new)
  pub unmarked : (v : List ℕ) → count_of (plain (entries_at new a)) v ≡ count_of (plain (entries_at old a)) v
  pub others : (j : ℕ) (v : List ℕ) → j < t.leaves → j ≢ a → count_of (entries_at new j) v ≡ count_of
      (entries_at old j) v
  pub lesser : Fewer old new

pub taking_none : (t : Tree) (ts : List Table) (a : ℕ) → IsReducts (both t ts) → IsTaking t ts ts a
taking_none t ts a r = record
    { sound = r; unmarked = λ v. refl; others = λ j v low apart. refl; lesser = fewer_refl ts }

pub taking_more : (t : Tree) (old mid new : List Table) (a : ℕ) (u : List ℕ) → a < t.leaves → IsTaking t old mid a
    → RemovedUpwards t mid new a u → Fewer mid new → 0 < count_of (marks (entries_at mid a)) u → IsTaking t old new a
taking_more t old mid new a u h x d w marked = record {
  sound = reducts_died t mid new a u x.sound h d;
  unmarked = λ v. stays v ∙ x.unmarked v;
  others = λ j v low apart. ap (λ (es : List Entry). count_of es v)
      (d.below j (leaf_below t a j x.sound.family.is_tree low apart)) ∙ x.others j v low apart;
  lesser = fewer_trans old mid new x.lesser w;
}
  where
    stays : (v : List ℕ) → count_of (plain (entries_at new a)) v ≡ count_of (plain (entries_at mid a)) v
    stays v =
        elim (same_cases u v) [
          | inl here ↦ (
              let some : 0 < count_of (marks (entries_at mid a)) v = subst
              (λ (y : List ℕ). 0 < count_of (marks (entries_at mid a)) y) here marked in
              omega (arith, once t mid x.sound.family a v, cnt_split (entries_at mid a) v, w.unmarked a v))
          | inr other ↦ omega (
            arith,
            one_other u v other,
            removed_cnt (entries_at mid a) (entries_at new a) u d.loses
                v,
            cnt_split (entries_at mid a) v,
            cnt_split (entries_at new a) v,
            w.unmarked a v,
            w.marked a v,
          )
        ]

pub taking_done : (t : Tree) (old new : List Table) (a : ℕ) → IsTaking t old new a
    → ((v : List ℕ) → count_of (marks (entries_at new a)) v ≡ 0) → HasTaken (both t old) (both t new) a
taking_done t old new a x none = record {
  sound = x.sound;
  without = record {
    tree = refl;
    leaf = λ v. omega (arith, x.unmarked v, none v, cnt_split (entries_at new a) v);
    others = x.others;
  };
  fewer = x.lesser;
}

pub no_mark : (es : List Entry) (v : List ℕ) → marks es ≡ [] → count_of (marks es) v ≡ 0
unfolding count_of
no_mark es v h = ap (λ (xs : List Entry). count_of xs v) h

pub no_entry : (es : List Entry) (v : List ℕ) → length es ≡ 0 → count_of (marks es) v ≡ 0
no_entry es v h = omega (arith, cnt_length es v, cnt_split es v)

-- the first marked one
pub record IsMarkedAt (es : List Entry) (p : Place) : Type 0 where
  pub tuple : List ℕ
  pub is_at : IsAt es p tuple
  pub some : 0 < count_of (marks es) tuple

first_cons : (g : List Entry) (p : Place) → head_at g ≡ Some p → (e : Entry) × (rest : List Entry) × (g ≡ e ∷ rest)
    × (e.at ≡ p)
unfolding head_at
first_cons [] p h = absurd cc
first_cons (e ∷ g) p h = (e, g, refl, cc)

pub first_mark : (es : List Entry) (p : Place) → head_at (marks es) ≡ Some p → IsMarkedAt es p
first_mark es p h =
    let c = first_cons (marks es) p h in
    record {
      tuple = c.0.tuple;
      is_at = subst (λ (q : Place). IsAt es q c.0.tuple) c.3 (mark_at es [] c.0 c.1 c.2);
      some = omega (
        arith,
        ap (λ (xs : List Entry). count_of xs c.0.tuple) c.2,
        cnt_cons c.0 c.1 c.0.tuple,
        one_same
            c.0.tuple,
      );
    }

-- the endings
bare_all : (t : Tree) (old new : List Table) (a : ℕ) → HasCleared t old new a (length t.nodes)
    → ((i : ℕ) → IsOff t.nodes a i → (v : List ℕ) → count_of (marks (entries_at new i)) v ≡ 0) → IsBare new
bare_all t old new a x off = record {
  none = λ i v. elim (cases_eq i a) [
    | inl here ↦ subst (λ (z : ℕ). count_of (marks (entries_at new z)) v ≡ 0) (sym here) (x.leaf v)
    | inr apart ↦ elim (cases_Bool (on_path t.nodes a i)) [
      | inl on ↦ x.path i (on_within t a i on) on v
      | inr none ↦ off i (apart, none) v
    ]
  ];
}

pub kept_all : (t : Tree) (old new : List Table) (a : ℕ) → IsReducts (both t old) → AreOnPath t old a
    → HasCleared t old new a (length t.nodes) → HasKept (both t old) (both t new)
kept_all t old new a r p x = record {
  sound = reducts_same t old new r x.family x.supports;
  tree = refl;
  tables = tables_same t old new r.family x.family x.supports;
  bare = bare_all t old new a x (λ i off v. ap (λ (es : List Entry). count_of (marks es) v) (x.off i off) ∙ p.off i
      off v);
}

pub dropped_all : (t : Tree) (old mid new : List Table) (a : ℕ) → a < t.leaves → AreOnPath t old a
    → HasTaken (both t old) (both t mid) a → HasCleared t mid new a (length t.nodes)
    → HasDropped (both t old) (both t new) a
dropped_all t old mid new a h p y x = record {
  sound = reducts_same t mid new y.sound x.family x.supports;
  without = record {
    tree = refl;
    leaf = λ v. tuples_same t mid new y.sound.family x.family a (x.supports a) v ∙ y.without.leaf v;
    others = λ j v low apart. tuples_same t mid new y.sound.family x.family j (x.supports j) v
        ∙ y.without.others j v low apart;
  };
  bare = bare_all t mid new a x
      (λ i off v. omega (
        arith,
        ap (λ (es : List Entry). count_of (marks es) v) (x.off i off),
        y.fewer.marked i v,
        p.off i
            off v,
      ));
}

-- undone
pub undone : (before middle after : Reducts) (a : ℕ) → IsReducts before → IsReducts after → IsWithout middle before a
    → IsWithout middle after a → SameTables before after
undone before middle after a r s x y = one_family before after r s (record {
  same_tree = y.tree ∙ sym x.tree;
  same = λ j u low. elim (cases_eq j a) [
    | inl here ↦ subst (λ (z : ℕ). count_of (entries_at after.tables z) u ≡ count_of (entries_at before.tables z) u)
        (sym here)
        (y.leaf u ∙ sym (x.leaf u))
    | inr apart ↦ (let low2 : j < middle.tree.leaves = subst (λ (t : Tree). j < t.leaves) x.tree low in y.others j u
        low2 apart ∙ sym (x.others j u low2 apart))
  ];
})

-- an update with marks leaves what one without them does, once it is ended
pub inserted_gained : (old mid new : Reducts) (a : ℕ) (u : List ℕ) → HasInserted old mid a u → HasKept mid new
    → HasGained old new a u
inserted_gained old mid new a u x k = record {
  sound = k.sound;
  tree = k.tree ∙ sym x.without.tree;
  leaf = λ v. omega (arith, k.tables.tuples a v, cnt_split (entries_at mid.tables a) v, x.without.leaf v, x.marked v);
  others = λ j v low apart. k.tables.tuples j v
      ∙ sym (x.without.others j v (subst (λ (t : Tree). j < t.leaves) x.without.tree low) apart);
  bare = k.bare;
}

pub inserted_gained_all : (old mid new : Reducts) (a : ℕ) (us : List (List ℕ)) → HasInsertedAll old mid a us
    → HasKept mid new → HasGainedAll old new a us
inserted_gained_all old mid new a us x k = record {
  sound = k.sound;
  tree = k.tree ∙ sym x.without.tree;
  leaf = λ v. omega (arith, k.tables.tuples a v, cnt_split (entries_at mid.tables a) v, x.without.leaf v, x.marked v);
  others = λ j v low apart. k.tables.tuples j v
      ∙ sym (x.without.others j v (subst (λ (t : Tree). j < t.leaves) x.without.tree low) apart);
  bare = k.bare;
}

pub marked_lost : (old mid new : Reducts) (a : ℕ) (u : List ℕ) → HasMarked old mid a u → HasDropped mid new a
    → HasLost old new a u
marked_lost old mid new a u x d = record {
  sound = d.sound;
  tree = d.without.tree ∙ x.tree;
  leaf = λ v. omega (arith, x.tables.tuples a v, cnt_split (entries_at mid.tables a) v, d.without.leaf v, x.marked v);
  others = λ j v low apart. d.without.others j v (subst (λ (t : Tree). j < t.leaves) (sym x.tree) low) apart
      ∙ x.tables.tuples j v;
  bare = d.bare;
}

-- reducts without tuples have no marks
pub bare_empty : (ts : List Table) → ((k : ℕ) → entries_at ts k ≡ []) → IsBare ts
unfolding count_of marks
bare_empty ts h = record { none = λ i v. ap (λ (es : List Entry). count_of (marks es) v) (h i) }
