-- Many tuples come to a leaf or go from it, and how few they mark over equal meets.
use Rattle.std.proofs.Common.{◌≡◌, ℕ, ◌+◌, ◌*◌, ◌<◌, ◌≤◌, Bool, true, false, List, [], ◌∷◌, ◌++◌, length, take, drop}
use Rattle.std.proofs.Common.{slice_index_or, refl, ap, subst, sym, ◌∙◌, arith, inl, inr, length-take-le}
use Rattle.std.proofs.Common.{take-append-drop, mul-le-mul_right, ◌≢◌, cond}
use Rattle.std.proofs.lemmas.Bool.{cases_eq, cases_lt, cases_Bool}
use Rattle.std.proofs.lemmas.List.{take_more, take-take}
use Rattle.std.specs.Prelude.{◌==◌}
use Rattle.djq_index.specs.Tuple.{same, one_if, pick}
use Rattle.djq_index.specs.Entries.{Entry, count_of, group_size, marks, unmarked}
use Rattle.djq_index.specs.Table.{Table, TuplesDiffer}
use Rattle.djq_index.proofs.Tuples.{stands, cnt_supp, cnt_middle, cnt_cons, cnt_split, one_same, same_cases, same_is}
use Rattle.djq_index.proofs.Tuples.{true_from_one, one_other}
use Rattle.djq_index.proofs.Groups.{inserted_cnt, removed_cnt, length_middle, unmarked_marks}
use Rattle.djq_tree.specs.declared.node.Node.{Node}
use Rattle.djq_tree.specs.declared.node.Node.TheVariants.{Leaf, Trim, Meet}
use Rattle.djq_tree.specs.Tree.{Tree, node_at, has_child}
use Rattle.djq_tree.specs.Flat.{HasEqualMeets}
use Rattle.djq_reduct.specs.Tables.{entries_at, key_at}
use Rattle.djq_reduct.specs.Reducts.{IsReducts, SameTables, IsReductOf, IsFamily}
use Rattle.djq_reduct.specs.Marks.{IsBare, path_at, agreeing}
use Rattle.djq_reduct.proofs.Assignments.{one_family}
use Rattle.djq_propagate.specs.Sizes.{size, AreAtMost}
use Rattle.djq_propagate.specs.Walks.{InsertedUpwards, RemovedUpwards, Refused, Fewer, CameAs, ChangedOneTable}
use Rattle.djq_propagate.specs.Updates.{HasAtMost, HasKept, paths, HasTaken}
use Rattle.djq_propagate.specs.Batches.{times, AreNew, AreThere, HaveCome, HaveGone, HasGainedAll, HasLostAll}
use Rattle.djq_propagate.specs.Touches.{IsTouched, IsTouchedUp, HaveFew, HaveMarksUpTo, CanWalk, IsWalked, IsStepUp, reach, cost}
use Rattle.djq_propagate.proofs.Families.{tuples_same, once, reduced_same}
use Rattle.djq_propagate.proofs.Costs.{length_even, sized, length_less, keys_length}
use Rattle.djq_propagate.proofs.PathMarks.{back_same, still_bare, fewer_bare, inner_high}
use Rattle.djq_propagate.proofs.RefusedCosts.{same_size, few_nodes, spread, OneMore, whole_key, group_single, one_more}
use Rattle.djq_propagate.proofs.Updates.{both, leaf_below, reducts_lived, reducts_died, reducts_same, bare_same}
use Rattle.djq_propagate.proofs.Updates.{times_one}
use Rattle.djq_propagate.proofs.Marks.{times_turn, reach_agrees, guard_some, bare_mid, covered_mid}
use Rattle.djq_propagate.proofs.Touches.{groups, cost_leaf_all, cost_trim_all, cost_guard_all, cost_side_all}

-- ---- Many tuples come to a leaf, one after another, or go from it.

-- how often a tuple stands among the first ones
pub times-append : (us vs : List (List ℕ)) (v : List ℕ) → times (us ++ vs) v ≡ times us v + times vs v
unfolding times
times-append [] vs v = omega arith
times-append (u ∷ us) vs v = omega (arith, times-append us vs v)

pub times_next : (us : List (List ℕ)) (i : ℕ) (u v : List ℕ) → i < length us → times (take (i + 1) us) v
    ≡ times (take i us) v + one_if (same (slice_index_or us i u) v)
times_next us i u v less =
    ap (λ (xs : List (List ℕ)). times xs v) (take_more us i u less)
    ∙ times-append (take i us) (slice_index_or us i u ∷ []) v
    ∙ ap (λ (n : ℕ). times (take i us) v + n) (times_one (slice_index_or us i u) v)

pub times_first : (us : List (List ℕ)) (i : ℕ) (v : List ℕ) → times (take i us) v ≤ times us v
times_first us i v = omega
    (arith, ap (λ (xs : List (List ℕ)). times xs v) (take-append-drop i us), times-append (take i us) (drop i us) v)

-- what a list has at a place, by another name
pub read_as : (us : List (List ℕ)) (i : ℕ) (u v : List ℕ) → v ≡ u → u ≡ slice_index_or us i u → v
    ≡ slice_index_or us i v
read_as us i u v e h = subst (λ (w : List ℕ). w ≡ slice_index_or us i w) (sym e) h

-- so many tuples more, so much longer
pub longer_by : (us : List (List ℕ)) (es fs : List Entry) → ((v : List ℕ) → count_of fs v ≡ count_of es v + times us v)
    → length fs ≡ length es + length us
unfolding times
longer_by [] es fs h = omega (arith, length_even fs es (λ v. omega (arith, h v)))
longer_by (u ∷ us) es fs h =
    let s = stands fs u (omega (arith, h u, one_same u)) in
    let rest = longer_by us es (s.front ++ s.back)
    (λ v. omega (
      arith,
      h v,
      ap (λ (xs : List Entry). count_of xs v) s.is,
      cnt_middle s.front s.entry s.back v,
      ap
          (λ (w : List ℕ). one_if (same w v)) s.tuple,
    )) in
    omega (arith, rest, ap (λ (xs : List Entry). length xs) s.is, length_middle s.front s.entry s.back)

-- they come
pub come_none : (t : Tree) (ts : List Table) (a : ℕ) (us : List (List ℕ)) → IsReducts (both t ts)
    → HaveCome t ts ts a (take 0 us)
unfolding times
come_none t ts a [] r = record { sound = r; leaf = λ v. omega arith; others = λ j v low apart. refl }
come_none t ts a (u ∷ us) r = record { sound = r; leaf = λ v. omega arith; others = λ j v low apart. refl }

pub come_more : (t : Tree) (old mid new : List Table) (a i : ℕ) (us : List (List ℕ)) (u : List ℕ) → a < t.leaves
    → i < length us → u ≡ slice_index_or us i u → HaveCome t old mid a (take i us) → InsertedUpwards t mid new a u
    → HaveCome t old new a (take (i + 1) us)
come_more t old mid new a i us u h less e x l = record {
  sound = reducts_lived t mid new a u x.sound h l;
  leaf = λ v. omega (
    arith,
    inserted_cnt (key_at mid a) (entries_at mid a) (entries_at new a) u l.gains v,
    x.leaf v,
    times_next us i u v less,
    ap (λ (w : List ℕ). one_if (same w v)) e,
  );
  others = λ j v low apart. ap (λ (es : List Entry). count_of es v)
      (l.below j (leaf_below t a j x.sound.family.is_tree low apart)) ∙ x.others j v low apart;
}

pub come_refused : (t : Tree) (old mid new : List Table) (a : ℕ) (us : List (List ℕ)) → HaveCome t old mid a us
    → Refused t mid new a → HaveCome t old new a us
come_refused t old mid new a us x r = record {
  sound = reducts_same t mid new x.sound r.family r.supports;
  leaf = λ v. tuples_same t mid new x.sound.family r.family a (r.supports a) v ∙ x.leaf v;
  others = λ j v low apart. tuples_same t mid new x.sound.family r.family j (r.supports j) v ∙ x.others j v low apart;
}

-- the next one
pub next_there : (us : List (List ℕ)) (i : ℕ) (u : List ℕ) → i < length us → u ≡ slice_index_or us i u
    → times (take i us) u + 1 ≤ times us u
next_there us i u less e = omega
    (arith, times_first us (i + 1) u, times_next us i u u less, ap (λ (w : List ℕ). one_if (same w u)) e, one_same u)

pub next_absent : (t : Tree) (old mid : List Table) (a i w : ℕ) (us : List (List ℕ)) (u : List ℕ)
    → AreNew w (entries_at old a) us → HaveCome t old mid a (take i us) → i < length us → u ≡ slice_index_or us i u
    → count_of (entries_at mid a) u ≡ 0
next_absent t old mid a i w us u n x less e =
    let there = next_there us i u less e in
    omega (arith, x.leaf u, n.differ u, n.absent u (omega arith))

pub next_wide : (i w : ℕ) (es : List Entry) (us : List (List ℕ)) (u : List ℕ) → AreNew w es us → i < length us → u
    ≡ slice_index_or us i u → length u ≡ w
next_wide i w es us u n less e = n.wide u (let there = next_there us i u less e in omega arith)

pub come_length : (t : Tree) (old mid : List Table) (a i : ℕ) (us : List (List ℕ)) → HaveCome t old mid a (take i us)
    → i ≤ length us → length (entries_at mid a) ≡ length (entries_at old a) + i
come_length t old mid a i us x less = omega
    (arith, longer_by (take i us) (entries_at old a) (entries_at mid a) x.leaf, length-take-le i us less)

-- while they do, no leaf has more than it is to have
pub come_most : (t : Tree) (old mid : List Table) (a i n : ℕ) (us : List (List ℕ)) → HaveCome t old mid a (take i us)
    → i < length us → HasAtMost (both t old) n → length (entries_at old a) + length us ≤ n → AreAtMost mid n
come_most t old mid a i n us x less few room = record {
  each = sized t mid n x.sound (record {
    each = λ j low. elim (cases_eq j a) [
      | inl here ↦ subst (λ (k : ℕ). length (entries_at mid k) ≤ n) (sym here)
          (omega (arith, come_length t old mid a i us x (omega arith)))
      | inr apart ↦ omega (
        arith,
        few.each j low,
        length_even (entries_at mid j) (entries_at old j)
            (λ v. x.others j v low apart),
      )
    ];
  });
}

-- they go
pub gone_none : (t : Tree) (ts : List Table) (a : ℕ) (us : List (List ℕ)) → IsReducts (both t ts)
    → HaveGone t ts ts a (take 0 us)
unfolding times
gone_none t ts a [] r = record { sound = r; leaf = λ v. omega arith; others = λ j v low apart. refl }
gone_none t ts a (u ∷ us) r = record { sound = r; leaf = λ v. omega arith; others = λ j v low apart. refl }

pub gone_more : (t : Tree) (old mid new : List Table) (a i : ℕ) (us : List (List ℕ)) (u : List ℕ) → a < t.leaves
    → i < length us → u ≡ slice_index_or us i u → HaveGone t old mid a (take i us) → RemovedUpwards t mid new a u
    → HaveGone t old new a (take (i + 1) us)
gone_more t old mid new a i us u h less e x d = record {
  sound = reducts_died t mid new a u x.sound h d;
  leaf = λ v. omega (
    arith,
    removed_cnt (entries_at mid a) (entries_at new a) u d.loses v,
    x.leaf v,
    times_next us i u v
        less,
    ap (λ (w : List ℕ). one_if (same w v)) e,
  );
  others = λ j v low apart. ap (λ (es : List Entry). count_of es v)
      (d.below j (leaf_below t a j x.sound.family.is_tree low apart)) ∙ x.others j v low apart;
}

-- of the first ones there are fewer
pub first_less : (us : List (List ℕ)) (i n : ℕ) (v : List ℕ) → i ≤ n → times (take i us) v ≤ times (take n us) v
first_less us i n v less = omega
    (arith, times_first (take n us) i v, ap (λ (xs : List (List ℕ)). times xs v) (take-take i n us less))

pub next_held : (t : Tree) (old mid : List Table) (a i n : ℕ) (us : List (List ℕ)) (u : List ℕ)
    → AreThere (entries_at old a) (take n us) → HaveGone t old mid a (take i us) → i < n → n ≤ length us → u
    ≡ slice_index_or us i u → 0 < count_of (entries_at mid a) u
next_held t old mid a i n us u h x less long e =
    omega (
      arith,
      h.each u,
      x.leaf u,
      first_less us (i + 1) n u (omega arith),
      times_next us i u u (omega arith),
      ap
          (λ (w : List ℕ). one_if (same w u)) e,
      one_same u,
    )

-- those that came are there
pub come_there : (t : Tree) (old mid : List Table) (a : ℕ) (us : List (List ℕ)) → HaveCome t old mid a us
    → AreThere (entries_at mid a) us
come_there t old mid a us x = record { each = λ v. omega (arith, x.leaf v) }

-- what came and went again
pub come_back : (t : Tree) (old mid new : List Table) (a : ℕ) (us : List (List ℕ)) → IsReducts (both t old)
    → HaveCome t old mid a us → HaveGone t mid new a us → SameTables (both t old) (both t new)
come_back t old mid new a us r x y = one_family (both t old) (both t new) r y.sound (record {
  same_tree = refl;
  same = λ j u low. elim (cases_eq j a) [
    | inl here ↦ subst (λ (z : ℕ). count_of (entries_at new z) u ≡ count_of (entries_at old z) u) (sym here)
        (omega (arith, x.leaf u, y.leaf u))
    | inr apart ↦ y.others j u low apart ∙ x.others j u low apart
  ];
})

back_bare : (m : Bool) (t : Tree) (old mid new : List Table) (a : ℕ) (us : List (List ℕ)) → IsReducts (both t old)
    → HaveCome t old mid a us → HaveGone t mid new a us → CameAs m old mid → Fewer mid new → IsBare old → IsBare new
back_bare true t old mid new a us r x y c f b =
    let same_ones = come_back t old mid new a us r x y in
    bare_same t old new r.family y.sound.family same_ones.supports
    (back_same t old mid new r.family x.sound.family y.sound.family c f same_ones.supports) b
back_bare false t old mid new a us r x y c f b = fewer_bare mid new f (still_bare false old mid c (λ e. b) refl)

pub back_kept : {m : Bool} (t : Tree) (old mid new : List Table) (a : ℕ) (us : List (List ℕ)) → IsReducts (both t old)
    → HaveCome t old mid a us → HaveGone t mid new a us → CameAs m old mid → Fewer mid new → IsBare old
    → HasKept (both t old) (both t new)
back_kept {m} t old mid new a us r x y c f b = record {
  sound = y.sound;
  tree = refl;
  tables = come_back t old mid new a us r x y;
  bare = back_bare m t old mid new a us r x y c f b;
}

-- what a refusal counts: those before it came and went, and the tables are as large as before
pub refused_counted : (t : Tree) (old mid after new : List Table) (a i n w x y z : ℕ) (us : List (List ℕ))
    → IsReducts (both t old) → HaveCome t old mid a (take i us) → Refused t mid after a
    → HaveGone t after new a (take i us)
    → i < length us → HasAtMost (both t old) n → length (entries_at old a) + length us ≤ n
    → x + 4 * size old ≤ w + 4 * size mid
    → ((m : ℕ) → AreAtMost mid m → length (entries_at mid a) < m → y + 9 * size mid ≤ x + 9 * (m * length t.nodes))
    → z + 5 * size new ≤ y + 5 * size after → z + 9 * size old ≤ w + 9 * (n * length t.nodes)
refused_counted t old mid after new a i n w x y z us r c f g less few room first second third =
    let p = same_size t mid after c.sound.family f.family f.supports in
    let q = same_size t old new r.family g.sound.family
    (come_back t old after new a (take i us) r (come_refused t old mid after a (take i us) c f) g).supports in
    let s = second n (come_most t old mid a i n us c less few room)
    (omega (arith, come_length t old mid a i us c (omega arith))) in
    omega arith

pub refusal_bounded : (t : Tree) (old : List Table) (n x z : ℕ) → IsReducts (both t old)
    → z + 9 * size old ≤ x + 9 * (n * length t.nodes) → z ≤ x + 18 * (paths t * n)
refusal_bounded t old n x z r first =
    let m = mul-le-mul_right n (few_nodes t r.family.is_tree) in
    omega (arith, times_turn (length t.nodes) n, spread (paths t) n)

-- without marks
pub all_gained : (t : Tree) (old new : List Table) (a : ℕ) (us : List (List ℕ)) → IsBare new → HaveCome t old new a us
    → HasGainedAll (both t old) (both t new) a us
all_gained t old new a us b x = record { sound = x.sound; tree = refl; leaf = x.leaf; others = x.others; bare = b }

pub all_lost : (t : Tree) (old new : List Table) (a : ℕ) (us : List (List ℕ)) → IsBare new → HaveGone t old new a us
    → HasLostAll (both t old) (both t new) a us
all_lost t old new a us b x = record { sound = x.sound; tree = refl; leaf = x.leaf; others = x.others; bare = b }

-- ---- Over equal meets an update marks one tuple at most in each table.

-- ---- lists of one tuple at most

few_same : (es : List Entry) → ((v : List ℕ) → count_of es v ≤ 1) → ((u v : List ℕ) → 0 < count_of es u
    → 0 < count_of es v → u ≡ v)
    → length es ≤ 1
few_same [] most h = omega arith
few_same (e ∷ []) most h = omega arith
few_same (e ∷ f ∷ es) most h =
    let a = cnt_cons e (f ∷ es) e.tuple in let b = cnt_cons f es e.tuple in
    let c = cnt_cons e (f ∷ es) f.tuple in let d = cnt_cons f es f.tuple in
    let x = one_same e.tuple in let y = one_same f.tuple in
    let twice : one_if (same f.tuple e.tuple)
    ≡ 1 = ap (λ (w : List ℕ). one_if (same f.tuple w)) (h e.tuple f.tuple (omega arith) (omega arith)) ∙ y in
    let m = most e.tuple in
    absurd (omega arith)

lone : (es : List Entry) (u v : List ℕ) → length es ≤ 1 → 0 < count_of es u → 0 < count_of es v → u ≡ v
unfolding count_of
lone [] u v few a b = absurd (omega arith)
lone (e ∷ []) u v few a b = sym (same_is e.tuple u (true_from_one (same e.tuple u) (omega arith)))
    ∙ same_is e.tuple v (true_from_one (same e.tuple v) (omega arith))
lone (e ∷ f ∷ es) u v few a b = absurd (omega arith)

lone_many : (ks : List ℕ) (es : List Entry) (u v : List ℕ) → length es ≤ 1 → 0 < group_size ks es u
    → 0 < group_size ks es v → u ≡ v
unfolding group_size
lone_many ks [] u v few a b = absurd (omega arith)
lone_many ks (e ∷ []) u v few a b = sym
    (same_is (pick ks e.tuple) u (true_from_one (same (pick ks e.tuple) u) (omega arith)))
    ∙ same_is (pick ks e.tuple) v (true_from_one (same (pick ks e.tuple) v) (omega arith))
lone_many ks (e ∷ f ∷ es) u v few a b = absurd (omega arith)

cnt_nothing : (v : List ℕ) → count_of [] v ≡ 0
unfolding count_of
cnt_nothing v = refl

pub few_none : (n : ℕ) (es : List Entry) → ((v : List ℕ) → count_of es v ≡ 0) → length es ≤ n
few_none n [] h = omega arith
few_none n (e ∷ es) h = absurd (omega (arith, h e.tuple, cnt_cons e es e.tuple, one_same e.tuple))

pub marks_once : (t : Tree) (ts : List Table) (k : ℕ) → IsFamily t ts → (v : List ℕ) → count_of (marks (entries_at ts k))
    v ≤ 1
marks_once t ts k f v = omega (arith, once t ts f k v, cnt_split (entries_at ts k) v)

-- ---- where marks begin

pub one_lived : (t : Tree) (old new : List Table) (a : ℕ) (u : List ℕ) → InsertedUpwards t old new a u
    → OneMore (entries_at old a) (entries_at new a)
one_lived t old new a u l = record {
  tuple = u;
  only = λ v some none. elim (same_cases u v) [
    | inl here ↦ sym here
    | inr other ↦ absurd (omega
        (arith, inserted_cnt (key_at old a) (entries_at old a) (entries_at new a) u l.gains v, one_other u v other))
  ];
}

pub one_died : (t : Tree) (old new : List Table) (a : ℕ) (u : List ℕ) → RemovedUpwards t old new a u
    → OneMore (entries_at new a) (entries_at old a)
one_died t old new a u d = record {
  tuple = u;
  only = λ v some none. elim (same_cases u v) [
    | inl here ↦ sym here
    | inr other ↦ absurd (omega
        (arith, removed_cnt (entries_at old a) (entries_at new a) u d.loses v, one_other u v other))
  ];
}

-- what came is marked, and that is one tuple in each table
pub few_lived : (t : Tree) (old new : List Table) (a : ℕ) (u : List ℕ) → HasEqualMeets t → IsReducts (both t old)
    → a < t.leaves → IsBare old → InsertedUpwards t old new a u → CameAs true old new → HaveFew new
few_lived t old new a u meets r leaf bare l p =
    let s = reducts_lived t old new a u r leaf l in
    let one_at = one_more t old new a meets r s
    (λ j v low apart. ap (λ (es : List Entry). count_of es v) (l.below j (leaf_below t a j r.family.is_tree low apart)))
    (one_lived t old new a u l) in
    record {
      each = λ i.
          let only : (v : List ℕ) → 0 < count_of (marks (entries_at new i)) v → v ≡ (one_at i).tuple =
          λ v some.
          let none = new_count i v s some in
          (one_at i).only v (omega (arith, cnt_split (entries_at new i) v)) none in
          few_same (marks (entries_at new i)) (marks_once t new i l.family) (λ v w x y. only v x ∙ sym (only w y));
    }
  where
    new_count : (i : ℕ) (v : List ℕ) → IsReducts (both t new) → 0 < count_of (marks (entries_at new i)) v
        → count_of (entries_at old i) v ≡ 0
    new_count i v s some = omega (
      arith,
      once t new s.family i v,
      cnt_split (entries_at new i) v,
      p.same i v,
      cnt_split (entries_at old i) v,
      bare.none i v,
    )

pub few_marked : (t : Tree) (old new : List Table) (a : ℕ) (u : List ℕ) → IsBare old
    → IsTouched t old new a (λ v. one_if (same u v)) → HaveFew new
few_marked t old new a u bare x = record {
  each = λ i. elim (cases_eq i a) [
    | inl here ↦
        let only : (v : List ℕ) → 0 < count_of (marks (entries_at new a)) v → u ≡ v =
        λ v some. let o = x.only v some in let b = bare.none a v in same_is u v (true_from_one (same u v) (omega arith))
        in
        subst (λ (k : ℕ). length (marks (entries_at new k)) ≤ 1) (sym here)
        (few_same (marks (entries_at new a)) (marks_once t new a x.family) (λ v w p q. sym (only v p) ∙ only w q))
    | inr apart ↦ few_none 1 (marks (entries_at new i))
        (λ v. ap (λ (es : List Entry). count_of (marks es) v) (x.others i apart) ∙ bare.none i v)
  ];
}

-- ---- a step

apart_once : (es : List Entry) → ((v : List ℕ) → count_of es v ≤ 1) → TuplesDiffer es
unfolding TuplesDiffer
apart_once [] h = tt
apart_once (e ∷ es) h = (
  omega (arith, h e.tuple, cnt_cons e es e.tuple, one_same e.tuple),
  apart_once es (λ v. omega (arith, h v, cnt_cons e es v)),
)

among : (es fs : List Entry) → ((v : List ℕ) → count_of es v ≤ 1) → ((v : List ℕ) → 0 < count_of es v
    → 0 < count_of fs v) → length es ≤ length fs
among es fs most h = length_less es fs (λ v. elim (cases_lt 0 (count_of es v)) [
  | inl some ↦ omega (arith, most v, h v some)
  | inr none ↦ omega arith
])

-- what agrees with some tuples is no more than they are
agree_few : (n : Node) (j : ℕ) (ts : List Table) (es fs : List Entry) → ((v : List ℕ) → count_of fs v ≤ 1)
    → ((v : List ℕ) → 0 < count_of fs v → 0 < agreeing n j ts es v)
    → ((g d : ℕ) → n ≡ Meet g d → (v : List ℕ) → 0 < count_of fs v → pick (key_at ts g) v ≡ v)
    → length fs ≤ length es
unfolding agreeing
agree_few (Leaf a) j ts es fs most agrees whole = among fs es most (λ v some. absurd (let z = agrees v some in omega
    arith))
agree_few (Trim c) j ts es fs most agrees whole = keys_length (key_at ts c) fs es (apart_once fs most) agrees
agree_few (Meet g d) j ts es fs most agrees whole = among fs es most (λ v some. by_side (g == j) v some (agrees v some))
  where
    by_side : (b : Bool) (v : List ℕ) → 0 < count_of fs v → 0 < cond b (count_of es v) (count_of es
        (pick (key_at ts g) v)) → 0 < count_of es v
    by_side true v some x = x
    by_side false v some x = subst (λ (w : List ℕ). 0 < count_of es w) (whole g d refl v some) x

few_touched : (n : ℕ) (t : Tree) (mid new : List Table) (j k : ℕ) (f : List ℕ → ℕ) → HasEqualMeets t → IsFamily t mid
    → k < length t.nodes → IsReductOf (node_at t.nodes k) mid k → IsTouched t mid new k f
    → ((w : List ℕ) → 0 < count_of (marks (entries_at new k)) w
    → 0 < agreeing (node_at t.nodes k) j mid (marks (entries_at mid j)) w)
    → HaveMarksUpTo n mid → HaveMarksUpTo n new
few_touched n t mid new j k f meets family within law x agrees few = record {
  each = λ i. elim (cases_eq i k) [
    | inr apart ↦ let m = few.each i in subst (λ (es : List Entry). length (marks es) ≤ n) (sym (x.others i apart)) m
    | inl here ↦
        subst (λ (q : ℕ). length (marks (entries_at new q)) ≤ n) (sym here)
        (let a = agree_few (node_at t.nodes k) j mid (marks (entries_at mid j)) (marks (entries_at new k))
        (marks_once t new k x.family) agrees (λ g d e w some. whole w g d e some) in
        let m = few.each j in
        omega arith)
  ];
}
  where
    whole : (w : List ℕ) (g d : ℕ) → node_at t.nodes k ≡ Meet g d → 0 < count_of (marks (entries_at new k)) w
        → pick (key_at mid g) w ≡ w
    whole w g d e some =
        let was : 0 < count_of (entries_at mid k) w = omega
        (arith, cnt_split (entries_at new k) w, tuples_same t mid new family x.family k x.supports w) in
        whole_key t mid k g d w meets family e within
        (guard_some (node_at t.nodes k) mid k w law (cnt_supp (entries_at mid k) w (family.supported k) was) g d e)

pub few_more : (n : ℕ) (t : Tree) (old mid new : List Table) (a k j : ℕ) (removal : Bool) → HasEqualMeets t → IsFamily t old
    → a < t.leaves → CanWalk t old a removal → k < length t.nodes → IsTouchedUp t old mid a
    → IsWalked t old mid a removal k → j ≡ path_at t.nodes a k
    → (has_child (node_at t.nodes k) j ≡ true → t.second_stage ≤ k
    → IsTouched t mid new k (λ v. reach (node_at t.nodes k) false j mid (marks (entries_at mid j)) v))
    → (has_child (node_at t.nodes k) j ≡ true → k < t.second_stage → removal ≡ true
    → IsTouched t mid new k (λ v. reach (node_at t.nodes k) true j mid (marks (entries_at mid j)) v))
    → (k < t.second_stage → removal ≡ false → new ≡ mid) → (has_child (node_at t.nodes k) j ≡ false → new ≡ mid)
    → HaveMarksUpTo n mid → HaveMarksUpTo n new
few_more n t old mid new a k j removal meets f leaf can within up x at above below idle apart few =
    elim (cases_Bool (has_child (node_at t.nodes k) j)) [
      | inr none ↦ subst (λ (ts : List Table). HaveMarksUpTo n ts) (sym (apart none)) few
      | inl child ↦ elim (cases_lt k t.second_stage) [
        | inl low ↦ elim (cases_Bool removal) [
          | inr coming ↦ subst (λ (ts : List Table). HaveMarksUpTo n ts) (sym (idle low coming)) few
          | inl going ↦
              let y = below child low going in
              let other : k ≢ a = λ (e : k ≡ a). let h = inner_high t k j f.is_tree child in absurd (omega arith) in
              few_touched n t mid new j k (λ v. reach (node_at t.nodes k) true j mid (marks (entries_at mid j)) v) meets
              up.family within law y
              (λ w some. reach_agrees (node_at t.nodes k) true j mid (marks (entries_at mid j)) w
              (let o = y.only w some in let b = bare_mid t old mid a k k removal x can other going (omega arith) w
              in omega arith)) few
        ]
        | inr high ↦
            let y = above child high in
            let c = covered_mid t old mid a k j removal f up x can at child high in
            few_touched n t mid new j k (λ v. reach (node_at t.nodes k) false j mid (marks (entries_at mid j)) v) meets
            up.family within law y
            (λ w some. elim (cases_lt 0 (count_of (marks (entries_at mid k)) w)) [
              | inl before ↦ c.each w before
              | inr new_one ↦ reach_agrees (node_at t.nodes k) false j mid (marks (entries_at mid j)) w
                  (let o = y.only w some in omega arith)
            ]) few
      ]
    ]
  where
    law : IsReductOf (node_at t.nodes k) mid k
    law = (reduced_same t old mid 0 f up.family up.supports can.reduced).at k (omega arith) within

-- what it counts
few_groups : (ks : List ℕ) (gs es : List Entry) → ((u : List ℕ) → group_size ks gs u ≤ 1)
    → groups ks gs es ≤ length es
unfolding groups
few_groups ks gs [] h = omega arith
few_groups ks gs (e ∷ es) h = omega (arith, h e.tuple, few_groups ks gs es h)

few_cost : (m : ℕ) (t : Tree) (ts : List Table) (n : Node) (j k : ℕ) → HasEqualMeets t → IsFamily t ts
    → node_at t.nodes k ≡ n → k < length t.nodes → length (marks (entries_at ts j)) ≤ m
    → cost n j ts (marks (entries_at ts j)) ≤ 5 * m
few_cost m t ts (Leaf b) j k meets f e within few = omega (arith, cost_leaf_all b j ts (marks (entries_at ts j)))
few_cost m t ts (Trim c) j k meets f e within few = omega (arith, cost_trim_all c j ts (marks (entries_at ts j)))
few_cost m t ts (Meet g d) j k meets f e within few =
    elim (cases_eq g j) [
      | inl here ↦ omega (arith, cost_guard_all g d j ts (marks (entries_at ts j)) here)
      | inr other ↦
          omega (
            arith,
            cost_side_all g d j ts (marks (entries_at ts j)) other,
            few_groups (key_at ts g) (entries_at ts g) (marks (entries_at ts j))
                (λ u. group_single t ts k g d u meets f e within),
          )
    ]

pub step_few : (m : ℕ) (t : Tree) (ts : List Table) (j k : ℕ) → HasEqualMeets t → IsStepUp t ts j k
    → length (marks (entries_at ts j)) ≤ m → cost (node_at t.nodes k) j ts (marks (entries_at ts j)) ≤ 5 * m
step_few m t ts j k meets s few = few_cost m t ts (node_at t.nodes k) j k meets s.family refl s.within few

-- ---- the marks go

bare_marks : (es : List Entry) → length (marks (unmarked es)) ≡ 0
bare_marks es = ap (λ (xs : List Entry). length xs) (unmarked_marks es)

pub few_cleared : (n : ℕ) (old new : List Table) (k : ℕ) → ChangedOneTable old new k
    → entries_at new k ≡ unmarked (entries_at old k)
    → HaveMarksUpTo n old → HaveMarksUpTo n new
few_cleared n old new k c e few = record {
  each = λ i. elim (cases_eq i k) [
    | inl here ↦ subst (λ (q : ℕ). length (marks (entries_at new q)) ≤ n) (sym here)
        (let b = bare_marks (entries_at old k) in let l = ap (λ (es : List Entry). length (marks es)) e in omega arith)
    | inr apart ↦ subst (λ (es : List Entry). length (marks es) ≤ n) (sym (c.others i apart)) (few.each i)
  ];
}

pub few_clear_more : (m : ℕ) (n : Node) (mid new : List Table) (j k : ℕ)
    → (has_child n j ≡ true → entries_at new k ≡ unmarked (entries_at mid k))
    → (has_child n j ≡ true → ChangedOneTable mid new k) → (has_child n j ≡ false → new ≡ mid)
    → HaveMarksUpTo m mid → HaveMarksUpTo m new
few_clear_more m n mid new j k clear change apart few =
    elim (cases_Bool (has_child n j)) [
      | inl child ↦ few_cleared m mid new k (change child) (clear child) few
      | inr none ↦ subst (λ (ts : List Table). HaveMarksUpTo m ts) (sym (apart none)) few
    ]

pub few_taken : (n : ℕ) (t : Tree) (old new : List Table) (a : ℕ) → HasTaken (both t old) (both t new) a
    → HaveMarksUpTo n old → HaveMarksUpTo n new
few_taken n t old new a x few = record {
  each = λ i. omega (
    arith,
    length_less (marks (entries_at new i)) (marks (entries_at old i)) (x.fewer.marked i),
    few.each i,
  );
}
