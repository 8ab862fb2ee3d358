-- What a walk meets on its way.
use Rattle.std.proofs.Common.{◌≡◌, ℕ, ◌+◌, ◌<◌, Bool, true, false, List, [], ◌∷◌, ◌++◌, length, take, drop, Option}
use Rattle.std.proofs.Common.{Some, refl, ap, ap₂, subst, sym, ◌∙◌, arith, inl, inr}
use Rattle.std.specs.Prelude.{slice_index_or, ◌||◌, ◌==◌, Result, Ok, Err, OnErr, IfOk}
use Rattle.std.proofs.lemmas.Bool.{cases_eq, cases_Bool, eqb-true, eq-eqb, ne_eqb, false≢true}
use Rattle.djq_index.specs.declared.place.Place.{Place}
use Rattle.djq_index.specs.Tuple.{same, pick}
use Rattle.djq_index.specs.Entries.{Entry, supports_of, count_of, group_of, marks, head_at}
use Rattle.djq_index.specs.Table.{Table, IsAt, IsOccupied}
use Rattle.djq_index.proofs.Groups.{grp_yes, grp_no, marks_yes, marks_no, WalkCut, walk_cut}
use Rattle.djq_tree.specs.declared.node.Node.{Node}
use Rattle.djq_tree.specs.declared.node.Node.TheVariants.{Leaf, Trim, Meet}
use Rattle.djq_tree.specs.Tree.{Tree, IsTree, node_at, has_child, parent}
use Rattle.djq_tree.proofs.Paths.{parent_above, rising_of}
use Rattle.djq_reduct.specs.Tables.{entries_at, key_at, width_at}
use Rattle.djq_reduct.specs.Reducts.{IsFamily}
use Rattle.djq_propagate.specs.Walks.{ChangedOneTable, IsParentOf, Refused, CameAs, unlike}
use Rattle.djq_propagate.proofs.Families.{same_keys, IsRead, family_read}

pub has_table : (t : Tree) (ts : List Table) (k : ℕ) → IsFamily t ts → k < length t.nodes → k < length ts
has_table t ts k f h = let l = f.long in omega arith

pub wide_now : (t : Tree) (ts us : List Table) (k : ℕ) → IsFamily t ts → IsFamily t us → k < length t.nodes
    → width_at us k ≡ width_at ts k
wide_now t ts us k f g h = (g.keyed k h).width ∙ sym (f.keyed k h).width

-- the node above, by its kind
child_at : (t : Tree) (j k : ℕ) (o : Option ℕ) → IsTree t → o ≡ parent t.nodes j → o ≡ Some k
    → has_child (node_at t.nodes k) j ≡ true
child_at t j k o s up is = (parent_above t.nodes j k (rising_of t s) (sym up ∙ is)).2

pub under_leaf : (t : Tree) (j k a : ℕ) (o : Option ℕ) (n : Node) → IsTree t → o ≡ parent t.nodes j → o ≡ Some k → n
    ≡ node_at t.nodes k → n ≡ Leaf a → ⊥
under_leaf t j k a o n s up is here e =
    let h : has_child (Leaf a) j
    ≡ true = subst (λ (m : Node). has_child m j ≡ true) (sym here ∙ e) (child_at t j k o s up is) in
    false≢true h

pub trim_same : (c j : ℕ) → has_child (Trim c) j ≡ true → c ≡ j
trim_same c j h = eqb-true c j h

pub under_trim : (t : Tree) (j k c : ℕ) (o : Option ℕ) (n : Node) → IsTree t → o ≡ parent t.nodes j → o ≡ Some k
    → k < length t.nodes → n ≡ node_at t.nodes k → n ≡ Trim c → IsParentOf t k (Trim j) j
under_trim t j k c o n s up is within here e =
    let at : node_at t.nodes k ≡ Trim c = sym here ∙ e in
    let h : has_child (Trim c) j ≡ true = subst (λ (m : Node). has_child m j ≡ true) at (child_at t j k o s up is) in
    let same_one = trim_same c j h in
    record {
      within = within;
      node = at
          ∙ ap (λ (x : ℕ). Trim x) same_one;
      child = subst (λ (x : ℕ). has_child (Trim x) j ≡ true) same_one h;
    }

pub under_guard : (t : Tree) (j k g d : ℕ) (o : Option ℕ) (n : Node) → IsTree t → o ≡ parent t.nodes j → o ≡ Some k
    → k < length t.nodes → n ≡ node_at t.nodes k → n ≡ Meet g d → g ≡ j → IsParentOf t k (Meet j d) j
under_guard t j k g d o n s up is within here e same_one =
    let at : node_at t.nodes k ≡ Meet g d = sym here ∙ e in
    let h : has_child (Meet g d) j ≡ true = subst (λ (m : Node). has_child m j ≡ true) at (child_at t j k o s up is) in
    record {
      within = within;
      node = at
          ∙ ap (λ (x : ℕ). Meet x d) same_one;
      child = subst (λ (x : ℕ). has_child (Meet x d) j ≡ true) same_one h;
    }

or_right : (a b : Bool) → a ≡ false → a || b ≡ true → b ≡ true
or_right false b e h = h
or_right true b e h = absurd (false≢true (sym e))

pub under_side : (t : Tree) (j k g d : ℕ) (o : Option ℕ) (n : Node) → IsTree t → o ≡ parent t.nodes j → o ≡ Some k
    → k < length t.nodes → n ≡ node_at t.nodes k → n ≡ Meet g d → (g ≡ j → ⊥) → IsParentOf t k (Meet g j) j
under_side t j k g d o n s up is within here e apart =
    let at : node_at t.nodes k ≡ Meet g d = sym here ∙ e in
    let h : has_child (Meet g d) j ≡ true = subst (λ (m : Node). has_child m j ≡ true) at (child_at t j k o s up is) in
    let same_one : d ≡ j = eqb-true d j (or_right (g == j) (d == j) (ne_eqb g j apart) h) in
    record {
      within = within;
      node = at
          ∙ ap (λ (x : ℕ). Meet g x) same_one;
      child = subst (λ (x : ℕ). has_child (Meet g x) j ≡ true) same_one h;
    }

-- the other child of a meet
pub guard_under : (t : Tree) (k g d j : ℕ) → IsParentOf t k (Meet g d) j → IsParentOf t k (Meet g d) g
guard_under t k g d j u = record { within = u.within; node = u.node; child = guard_has g d }
  where
    guard_has : (x y : ℕ) → has_child (Meet x y) x ≡ true
    guard_has x y = rw (eq-eqb x x refl) refl

-- each entry of a group, and each marked one, lies at its place
further : (x : Entry) (es : List Entry) (p : Place) (u : List ℕ) → IsAt es p u → IsAt (x ∷ es) p u
further x es p u a = record {
  front = x ∷ a.front;
  back = a.back;
  entry = a.entry;
  is = ap (λ (zs : List Entry). x ∷ zs) a.is;
  tuple = a.tuple;
  at = a.at;
}

first_at : (x : Entry) (es zs : List Entry) (xs : List Entry) (e : Entry) (ys : List Entry)
    → ((fs : List Entry) → zs ≡ fs ++ e ∷ ys → IsAt es e.at e.tuple) → x ∷ zs ≡ xs ++ e ∷ ys
    → IsAt (x ∷ es) e.at e.tuple
first_at x es zs [] e ys rest h =
    let first : x ≡ e = cc in
    record {
      front = [];
      back = es;
      entry = x;
      is = refl;
      tuple = ap (λ (d : Entry). d.tuple) first;
      at = ap
          (λ (d : Entry). d.at) first;
    }
first_at x es zs (f ∷ fs) e ys rest h = let k : zs ≡ fs ++ e ∷ ys = cc in further x es e.at e.tuple (rest fs k)

no_group : (key : List ℕ) (w : List ℕ) (xs : List Entry) (e : Entry) (ys : List Entry) → group_of key [] w ≡ xs ++ e
    ∷ ys → ⊥
unfolding group_of
no_group key w [] e ys h = cc
no_group key w (x ∷ xs) e ys h = cc

pub group_at : (key : List ℕ) (es : List Entry) (w : List ℕ) (xs : List Entry) (e : Entry) (ys : List Entry)
    → group_of key es w ≡ xs ++ e ∷ ys → IsAt es e.at e.tuple
group_at key [] w xs e ys h = absurd (no_group key w xs e ys h)
group_at key (x ∷ es) w xs e ys h =
    elim (cases_Bool (same (pick key x.tuple) w)) [
      | inl here ↦ first_at x es (group_of key es w) xs e ys (λ fs k. group_at key es w fs e ys k)
          (sym (grp_yes key x es w here) ∙ h)
      | inr other ↦ further x es e.at e.tuple (group_at key es w xs e ys (sym (grp_no key x es w other) ∙ h))
    ]

no_marks : (xs : List Entry) (e : Entry) (ys : List Entry) → marks [] ≡ xs ++ e ∷ ys → ⊥
unfolding marks
no_marks [] e ys h = cc
no_marks (x ∷ xs) e ys h = cc

pub mark_at : (es : List Entry) (xs : List Entry) (e : Entry) (ys : List Entry) → marks es ≡ xs ++ e ∷ ys
    → IsAt es e.at e.tuple
mark_at [] xs e ys h = absurd (no_marks xs e ys h)
mark_at (x ∷ es) xs e ys h =
    elim (cases_Bool x.marked) [
      | inl here ↦ first_at x es (marks es) xs e ys (λ fs k. mark_at es fs e ys k) (sym (marks_yes x es here) ∙ h)
      | inr other ↦ further x es e.at e.tuple (mark_at es xs e ys (sym (marks_no x es other) ∙ h))
    ]

-- what an index reads at a meet's guard
pub guard_read : (t : Tree) (ts : List Table) (j k g : ℕ) (x : Table) → IsFamily t ts → IsParentOf t k (Meet g j) j
    → x ≡ slice_index_or ts g x → IsRead ts g x
guard_read t ts j k g x f u e =
    let m = f.is_tree.meet k g j u.node in
    let low = m.guard_lower in
    let within = u.within in
    family_read t ts g x f (omega arith) e

-- where a walk along a group stands
pub cut_of : (g : List Entry) (i : ℕ) (o : Option Place) (p : Place) → o ≡ head_at (drop i g) → o ≡ Some p
    → WalkCut g i p
cut_of g i o p next is = walk_cut g i p (sym next ∙ is)

pub cut_at : (ks : List ℕ) (es : List Entry) (w : List ℕ) (i : ℕ) (p : Place) (k : WalkCut (group_of ks es w) i p)
    → IsAt es p k.entry.tuple
cut_at ks es w i p k = subst (λ (q : Place). IsAt es q k.entry.tuple) k.at
    (group_at ks es w (take i (group_of ks es w)) k.entry (drop (i + 1) (group_of ks es w)) k.is)

pub as_live : (es : List Entry) (p : Place) (u : List ℕ) → IsAt es p u → IsOccupied es p
as_live es p u a = record { tuple = u; is_at = a }

pub moved_at : (es ds : List Entry) (p : Place) (u : List ℕ) → ds ≡ es → IsAt es p u → IsAt ds p u
moved_at es ds p u e a = subst (λ (fs : List Entry). IsAt fs p u) (sym e) a

-- the group stands still while the meet changes
pub group_still : (t : Tree) (ts us : List Table) (g : ℕ) (w : List ℕ) → IsFamily t ts → IsFamily t us → entries_at us g
    ≡ entries_at ts g → group_of (key_at us g) (entries_at us g) w ≡ group_of (key_at ts g) (entries_at ts g) w
group_still t ts us g w f h e = ap₂ (λ (ks : List ℕ) (es : List Entry). group_of ks es w) (same_keys t ts us f h g) e

-- answers of either kind
pub on_err : {A E : Type 0} (r : Result A E) (P : Type 0) → P → OnErr r P
on_err (Ok a) P p = tt
on_err (Err e) P p = p

pub ok_map : {A E : Type 0} (r : Result A E) (P Q : Type 0) → (P → Q) → IfOk r (λ a. P) → IfOk r (λ a. Q)
ok_map (Ok a) P Q f h = f h
ok_map (Err e) P Q f h = tt

pub err_map : {A E : Type 0} (r : Result A E) (P Q : Type 0) → (P → Q) → OnErr r P → OnErr r Q
err_map (Ok a) P Q f h = tt
err_map (Err e) P Q f h = f h

-- nothing came
pub refused_none : (t : Tree) (old new : List Table) (j : ℕ) → IsFamily t old → ChangedOneTable old new j
    → entries_at new j
    ≡ entries_at old j → Refused t old new j
refused_none t old new j f c e = record {
  family = c.family t f;
  supports = λ i v. ap (λ (es : List Entry). supports_of es v) (all i);
  below = λ i h. all i;
}
  where
    all : (i : ℕ) → entries_at new i ≡ entries_at old i
    all i = elim (cases_eq i j) [
      | inl here ↦ subst (λ (x : ℕ). entries_at new x ≡ entries_at old x) (sym here) e
      | inr apart ↦ c.others i apart
    ]

pub plain_none : {m : Bool} (old new : List Table) (j : ℕ) → ChangedOneTable old new j
    → entries_at new j ≡ entries_at old j
    → CameAs m old new
plain_none {m} old new j c e = record { same = λ i v. ap (λ (es : List Entry). count_of (unlike m es) v) (all i) }
  where
    all : (i : ℕ) → entries_at new i ≡ entries_at old i
    all i = elim (cases_eq i j) [
      | inl here ↦ subst (λ (x : ℕ). entries_at new x ≡ entries_at old x) (sym here) e
      | inr apart ↦ c.others i apart
    ]

-- the first of a group in the whole list
cons_split : (x : Entry) (es : List Entry) (e : Entry) → (xs : List Entry) × (ys : List Entry) × (es ≡ xs ++ e ∷ ys)
    → (xs : List Entry) × (ys : List Entry) × (x ∷ es ≡ xs ++ e ∷ ys)
cons_split x es e s = (x ∷ s.0, s.1, ap (λ (zs : List Entry). x ∷ zs) s.2)

pub group_split : (key : List ℕ) (es : List Entry) (w : List ℕ) (e : Entry) (rest : List Entry) → group_of key es w
    ≡ e ∷ rest → (xs : List Entry) × (ys : List Entry) × (es ≡ xs ++ e ∷ ys)
group_split key [] w e rest h = absurd (no_group key w [] e rest h)
group_split key (x ∷ es) w e rest h =
    elim (cases_Bool (same (pick key x.tuple) w)) [
      | inl here ↦ (let both : x ∷ group_of key es w ≡ e ∷ rest = sym (grp_yes key x es w here) ∙ h in let first : x
          ≡ e = cc in ([], es, ap (λ (y : Entry). y ∷ es) first))
      | inr other ↦ cons_split x es e (group_split key es w e rest (sym (grp_no key x es w other) ∙ h))
    ]
