-- Families of tables, and how one table changes among many.
use Rattle.std.proofs.Common.{◌≡◌, ◌≢◌, ℕ, zero, suc, ◌+◌, ◌*◌, ◌<◌, ◌≤◌, true, List, [], length, refl, ap, ap₂, subst}
use Rattle.std.proofs.Common.{sym, ◌∙◌, arith, inl, inr, Bool, ◌∷◌, slice_index}
use Rattle.std.proofs.lemmas.Bool.{cases_eq, cases_lt, eq-eqb}
use Rattle.std.proofs.lemmas.List.{get_or_past, get_or_read, get_or-set_same, get_or-set_other, length-set, set-get_or}
use Rattle.std.proofs.Math.Bool.{or-true}
use Rattle.std.specs.Prelude.{◌==◌, slice_index_or, slice_set, ◌++◌, Result, Ok, Err, IfOk, OnErr}
use Rattle.std.proofs.lemmas.List.Sums.{sum_by-set}
use Rattle.djq_index.specs.declared.place.Place.{Place}
use Rattle.djq_index.specs.Tuple.{pick}
use Rattle.djq_index.specs.Entries.{Entry, supports_of, count_of, group_size, bare, unmarked, marks, group_of}
use Rattle.djq_index.specs.Table.{Table, TuplesDiffer, IsTable, AreSupported, AreWide, IsAt, IsOccupied}
use Rattle.djq_index.specs.Changes.{InsertedAs, Touched, Supported}
use Rattle.djq_index.proofs.Groups.{cnt_same, many_even, inserted_supported}
use Rattle.djq_index.proofs.Tuples.{cnt_once, supported_in, supported_out}
use Rattle.djq_tree.specs.declared.node.Node.{Node}
use Rattle.djq_tree.specs.declared.node.Node.TheVariants.{Leaf, Trim, Meet}
use Rattle.djq_tree.specs.Tree.{Tree, IsTree, node_at, has_child}
use Rattle.djq_tree.proofs.Paths.{rising_of}
use Rattle.djq_reduct.specs.Tables.{no_table, table_at, entries_at, key_at, width_at}
use Rattle.djq_reduct.specs.Reducts.{IsReductOf, IsFamily, AreReduced}
use Rattle.djq_reduct.proofs.Assignments.{apart_at, entries_past}
use Rattle.djq_propagate.specs.Walks.{ChangedOneTable, Ready, ChangedOnlyAt, ReducedAbove, IsParentOf, Refused}
use Rattle.djq_propagate.specs.Walks.{UnchangedAbove}
use Rattle.djq_propagate.specs.Sizes.{size}

-- ---- Families of tables, and the equations that go on holding when a few tables change.

-- in one family each tuple stands once at most in a table
pub apart_of : (t : Tree) (ts : List Table) → IsFamily t ts → (k : ℕ) → TuplesDiffer (entries_at ts k)
apart_of t ts f k = apart_at ts k (f.sound k)

pub once : (t : Tree) (ts : List Table) → IsFamily t ts → (k : ℕ) (u : List ℕ) → count_of (entries_at ts k) u ≤ 1
once t ts f k u = cnt_once (entries_at ts k) u (apart_of t ts f k)

key_past : (ts : List Table) (k : ℕ) → length ts ≤ k → key_at ts k ≡ []
unfolding key_at table_at
key_past ts k h = ap (λ (t : Table). t.key) (get_or_past ts k no_table h)

-- two families of one tree have the same keys
pub same_keys : (t : Tree) (ts us : List Table) → IsFamily t ts → IsFamily t us → (k : ℕ) → key_at us k ≡ key_at ts k
same_keys t ts us f g k =
    elim (cases_lt k (length t.nodes)) [
      | inl within ↦ (g.keyed k within).key ∙ sym (f.keyed k within).key
      | inr past ↦ (let a = f.long in let b = g.long in key_past us k (omega arith) ∙ sym (key_past ts k (omega arith)))
    ]

-- the same supports are the same tuples
pub tuples_same : (t : Tree) (ts us : List Table) → IsFamily t ts → IsFamily t us → (k : ℕ)
    → ((v : List ℕ) → supports_of (entries_at us k) v ≡ supports_of (entries_at ts k) v) → (v : List ℕ)
    → count_of (entries_at us k) v
    ≡ count_of (entries_at ts k) v
tuples_same t ts us f g k h = cnt_same (entries_at us k) (entries_at ts k) (apart_of t us g k) (apart_of t ts f k)
    (g.supported k) (f.supported k) h

pub trim_has : (c : ℕ) → has_child (Trim c) c ≡ true
trim_has c = eq-eqb c c refl

pub guard_has : (g s : ℕ) → has_child (Meet g s) g ≡ true
guard_has g s = rw (eq-eqb g g refl) refl

pub side_has : (g s : ℕ) → has_child (Meet g s) s ≡ true
side_has g s = rw (eq-eqb s s refl) (or-true (g == s))

-- a node's equation goes on holding where its supports and its children's tuples stay
pub reduct_keeps : (n : Node) (old new : List Table) (k : ℕ) → IsReductOf n old k
    → ((v : List ℕ) → supports_of (entries_at new k) v ≡ supports_of (entries_at old k) v)
    → ((v : List ℕ) → count_of (entries_at new k) v ≡ count_of (entries_at old k) v)
    → ((c : ℕ) → has_child n c ≡ true → (v : List ℕ) → count_of (entries_at new c) v ≡ count_of (entries_at old c) v)
    → ((c : ℕ) → key_at new c ≡ key_at old c) → IsReductOf n new k
unfolding IsReductOf
reduct_keeps (Leaf a) old new k h s own kids keys = λ w. s w ∙ h w ∙ sym (own w)
reduct_keeps (Trim c) old new k h s own kids keys = λ w.
    s w ∙ h w ∙ ap (λ (ks : List ℕ). group_size ks (entries_at old c) w) (sym (keys c))
    ∙ sym (many_even (key_at new c) (entries_at new c) (entries_at old c) (kids c (trim_has c)) w)
reduct_keeps (Meet g d) old new k h s own kids keys = λ w.
    s w ∙ h w
    ∙ ap₂ (λ (a b : ℕ). a * b) (sym (kids g (guard_has g d) w))
    (ap (λ (ks : List ℕ). count_of (entries_at old d) (pick ks w)) (sym (keys g))
    ∙ sym (kids d (side_has g d) (pick (key_at new g) w)))

-- so do all of them where no supports change
pub reduced_same : (t : Tree) (ts us : List Table) (from : ℕ) → IsFamily t ts → IsFamily t us
    → ((i : ℕ) (v : List ℕ) → supports_of (entries_at us i) v ≡ supports_of (entries_at ts i) v) → AreReduced t ts from
    → AreReduced t us from
reduced_same t ts us from f g h r = record {
  at = λ k low within.
      reduct_keeps (node_at t.nodes k) ts us k (r.at k low within) (h k) (tuples_same t ts us f g k (h k))
      (λ c child v. tuples_same t ts us f g c (h c) v) (same_keys t ts us f g);
}

-- two families agree above where they agree below
agree_node : (t : Tree) (ts us : List Table) (from k : ℕ) (n : Node) → IsFamily t ts → IsFamily t us → t.leaves ≤ from
    → node_at t.nodes k ≡ n → from ≤ k → k < length t.nodes
    → IsReductOf n ts k → IsReductOf n us k
    → ((i : ℕ) → i < k → (v : List ℕ) → count_of (entries_at us i) v ≡ count_of (entries_at ts i) v) → (v : List ℕ)
    → supports_of (entries_at us k) v ≡ supports_of (entries_at ts k) v
unfolding IsReductOf
agree_node t ts us from k (Leaf a) f g high e low within ha hb below v = absurd
    (let leaf = f.is_tree.inner k a within e in omega arith)
agree_node t ts us from k (Trim c) f g high e low within ha hb below v =
    hb v ∙ ap (λ (ks : List ℕ). group_size ks (entries_at us c) v) (same_keys t ts us f g c)
    ∙ many_even (key_at ts c) (entries_at us c) (entries_at ts c) (below c (f.is_tree.trim k c e).lower) v
    ∙ sym (ha v)
agree_node t ts us from k (Meet c d) f g high e low within ha hb below v =
    let m = f.is_tree.meet k c d e in
    hb v
    ∙ ap₂ (λ (a b : ℕ). a * b) (below c m.guard_lower v)
    (ap (λ (ks : List ℕ). count_of (entries_at us d) (pick ks v)) (same_keys t ts us f g c)
    ∙ below d m.side_lower (pick (key_at ts c) v))
    ∙ sym (ha v)

past_agree : (t : Tree) (ts us : List Table) → IsFamily t ts → IsFamily t us → (k : ℕ) → length t.nodes ≤ k
    → (v : List ℕ) → supports_of (entries_at us k) v ≡ supports_of (entries_at ts k) v
past_agree t ts us f g k past v =
    let a = f.long in
    let b = g.long in
    ap (λ (es : List Entry). supports_of es v) (entries_past us k (omega arith) ∙ sym (entries_past ts k (omega arith)))

pub agree_from : (t : Tree) (ts us : List Table) (from : ℕ) → IsFamily t ts → IsFamily t us → t.leaves ≤ from
    → AreReduced t ts from → AreReduced t us from
    → ((i : ℕ) → i < from → (v : List ℕ) → supports_of (entries_at us i) v ≡ supports_of (entries_at ts i) v)
    → (n k : ℕ) → k < n
    → (v : List ℕ) → supports_of (entries_at us k) v ≡ supports_of (entries_at ts k) v
agree_from t ts us from f g high ra rb low zero k under v = absurd (omega arith)
agree_from t ts us from f g high ra rb low (suc n) k under v =
    elim (cases_lt k from) [
      | inl below ↦ low k below v
      | inr above ↦ elim (cases_lt k (length t.nodes)) [
        | inl within ↦
            agree_node t ts us from k (node_at t.nodes k) f g high refl above within (ra.at k above within)
            (rb.at k above within)
            (λ i less. tuples_same t ts us f g i (agree_from t ts us from f g high ra rb low n i (omega arith))) v
        | inr past ↦ past_agree t ts us f g k past v
      ]
    ]

-- the parent of a node
pub child_of : (t : Tree) (k : ℕ) (n : Node) (j : ℕ) → IsParentOf t k n j → has_child (node_at t.nodes k) j ≡ true
child_of t k n j u = subst (λ (m : Node). has_child m j ≡ true) (sym u.node) u.child

pub lower_of : (t : Tree) (k : ℕ) (n : Node) (j : ℕ) → IsTree t → IsParentOf t k n j → j < k
lower_of t k n j s u = rising_of t s k j (child_of t k n j u)

-- a child of another node isn't j
pub other_child : (t : Tree) (k : ℕ) (n : Node) (j i c : ℕ) → IsTree t → IsParentOf t k n j → i ≢ k
    → has_child (node_at t.nodes i) c ≡ true → c ≡ j → ⊥
other_child t k n j i c s u apart child same = apart
    (s.one_parent j i k (subst (λ (x : ℕ). has_child (node_at t.nodes i) x ≡ true) same child) (child_of t k n j u))

-- the equations of the nodes other than j and its parent don't read the table of j
pub apart_keeps : (t : Tree) (was now new : List Table) (j k : ℕ) (n : Node) (i : ℕ) → ChangedOnlyAt t was now j
    → IsParentOf t k n j → IsFamily t new → i ≢ k → i ≢ j → j < i → i < length t.nodes
    → ((v : List ℕ) → supports_of (entries_at new i) v ≡ supports_of (entries_at now i) v)
    → ((v : List ℕ) → count_of (entries_at new i) v ≡ count_of (entries_at now i) v)
    → ((c : ℕ) → c < i → c ≢ j → (v : List ℕ) → count_of (entries_at new c) v ≡ count_of (entries_at now c) v)
    → IsReductOf (node_at t.nodes i) new i
apart_keeps t was now new j k n i b u f not_k not_j above within s own kids =
    let tree = b.ready.family.is_tree in
    let same : entries_at now i ≡ entries_at was i = b.changed.others i not_j in
    reduct_keeps (node_at t.nodes i) was new i (b.ready.reduced.at i (omega arith) within)
    (λ v. s v ∙ ap (λ (es : List Entry). supports_of es v) same)
    (λ v. own v ∙ ap (λ (es : List Entry). count_of es v) same)
    (λ c child v. let other = other_child t k n j i c tree u not_k child in kids c (rising_of t tree i c child) other v
    ∙ ap (λ (es : List Entry). count_of es v) (b.changed.others c other))
    (same_keys t was new b.ready.family f)

pub now_family : (t : Tree) (was now : List Table) (j : ℕ) → ChangedOnlyAt t was now j → IsFamily t now
now_family t was now j b = b.changed.family t b.ready.family

-- above the parent all is as it was
pub ready_up : (t : Tree) (was now : List Table) (j k : ℕ) (n : Node) → ChangedOnlyAt t was now j → IsParentOf t k n j
    → Ready t now k
ready_up t was now j k n b u =
    let low = lower_of t k n j b.ready.family.is_tree u in
    record {
      family = now_family t was now j b;
      within = u.within;
      reduced = record {
        at = λ i from within.
            apart_keeps t was now now j k n i b u (now_family t was now j b) (omega arith) (omega arith) (omega arith)
            within (λ v. refl) (λ v. refl) (λ c less other v. refl);
      };
    }

-- where the parent's tuples stay, so do the equations above it
pub above_same : (t : Tree) (was now new : List Table) (j k : ℕ) (n : Node) → ChangedOnlyAt t was now j
    → IsParentOf t k n j
    → ChangedOneTable now new k → ((v : List ℕ) → count_of (entries_at new k) v ≡ count_of (entries_at now k) v)
    → AreReduced t new (k + 1)
above_same t was now new j k n b u c same =
    let low = lower_of t k n j b.ready.family.is_tree u in
    record {
      at = λ i from within.
          apart_keeps t was now new j k n i b u (c.family t (now_family t was now j b)) (omega arith) (omega arith)
          (omega arith) within
          (λ v. ap (λ (es : List Entry). supports_of es v) (c.others i (omega arith)))
          (λ v. ap (λ (es : List Entry). count_of es v) (c.others i (omega arith)))
          (λ d less other v. elim (cases_eq d k) [
            | inl here ↦ subst (λ (x : ℕ). count_of (entries_at new x) v ≡ count_of (entries_at now x) v) (sym here)
                (same v)
            | inr apart ↦ ap (λ (es : List Entry). count_of es v) (c.others d apart)
          ]);
    }

-- the node k, the parent of j, is right again, and so are those above it: so all above j are
pub righted : (t : Tree) (was now new : List Table) (j k : ℕ) (n : Node) → ChangedOnlyAt t was now j
    → IsParentOf t k n j
    → IsFamily t new → ((i : ℕ) → i < k → entries_at new i ≡ entries_at now i)
    → IsReductOf n new k → AreReduced t new (k + 1) → ReducedAbove t now new j
righted t was now new j k n b u f low here above =
    let lower = lower_of t k n j b.ready.family.is_tree u in
    record {
      family = f;
      at = low j lower;
      below = λ i h. low i (h.1 k (child_of t k n j u));
      reduced = record {
        at = λ i from within. elim (cases_lt i k) [
          | inl less ↦ apart_keeps t was now new j k n i b u f (omega arith) (omega arith) (omega arith) within
              (λ v. ap (λ (es : List Entry). supports_of es v) (low i less))
              (λ v. ap (λ (es : List Entry). count_of es v) (low i less))
              (λ c under other v. ap (λ (es : List Entry). count_of es v) (low c (omega arith)))
          | inr rest ↦ elim (cases_eq i k) [
            | inl same ↦ subst (λ (x : ℕ). IsReductOf (node_at t.nodes x) new x) (sym same)
                (subst (λ (m : Node). IsReductOf m new k) (sym u.node) here)
            | inr apart ↦ above.at i (omega arith) within
          ]
        ];
      };
    }

-- nothing is to be done at the parent
pub idle : (t : Tree) (was now : List Table) (j k : ℕ) (n : Node) → ChangedOnlyAt t was now j → IsParentOf t k n j
    → IsReductOf n now k → ReducedAbove t now now j
idle t was now j k n b u here = righted t was now now j k n b u (now_family t was now j b) (λ i less. refl) here
    (ready_up t was now j k n b u).reduced

-- or there is no parent
pub topmost : (t : Tree) (was now : List Table) (j : ℕ) → ChangedOnlyAt t was now j → j + 1 ≡ length t.nodes
    → ReducedAbove t now now j
topmost t was now j b top = record {
  family = now_family t was now j b;
  at = refl;
  below = λ i h. refl;
  reduced = record { at = λ i from within. absurd (omega arith) };
}

-- a refusal above is one here
pub stayed : (t : Tree) (now new : List Table) (j k : ℕ) (n : Node) → IsTree t → IsParentOf t k n j
    → Refused t now new k
    → UnchangedAbove t now new j
stayed t now new j k n s u r =
    let lower = lower_of t k n j s u in
    let under : (i : ℕ) → i < k → entries_at new i
    ≡ entries_at now i = (λ (i : ℕ) (h : i < k). r.below i (
      (λ (e : i ≡ k). absurd (omega arith)),
      (λ (x : ℕ) (child : has_child (node_at t.nodes x) k ≡ true). let up = rising_of t s x k child in omega arith),
    ))
    in
    record {
      family = r.family;
      at = under j lower;
      supports = r.supports;
      below = λ i h. under i
          (h.1 k (child_of t k n j u));
    }

-- what is below the parent is below
pub below_up : (t : Tree) (k i : ℕ) → IsTree t → i < k → (i ≢ k)
    × ((x : ℕ) → has_child (node_at t.nodes x) k ≡ true → i < x)
below_up t k i s h = ((λ e. absurd (omega arith)), (λ x child. let up = rising_of t s x k child in omega arith))

-- ---- One table changes among many.

-- the table that an index reads is the node's
pub record IsRead (ts : List Table) (k : ℕ) (t : Table) : Type 0 where
  pub within : k < length ts
  pub is : t ≡ slice_index_or ts k t
  pub entries : t.entries ≡ entries_at ts k
  pub key : t.key ≡ key_at ts k
  pub width : t.width ≡ width_at ts k

pub is_read : (ts : List Table) (k : ℕ) (t : Table) → k < length ts → t ≡ slice_index_or ts k t → IsRead ts k t
unfolding table_at entries_at key_at width_at
is_read ts k t h e =
    let r : t ≡ slice_index_or ts k no_table = get_or_read ts k t h e no_table in
    record {
      within = h;
      is = e;
      entries = ap (λ (u : Table). u.entries) r;
      key = ap (λ (u : Table). u.key) r;
      width = ap (λ (u : Table). u.width) r;
    }

pub family_read : (r : Tree) (ts : List Table) (k : ℕ) (t : Table) → IsFamily r ts → k < length r.nodes
    → t ≡ slice_index_or ts k t → IsRead ts k t
family_read r ts k t f h e = is_read ts k t (let l = f.long in omega arith) e

pub length_read : {ts : List Table} {k : ℕ} {t : Table} → IsRead ts k t → length t.entries ≡ length (entries_at ts k)
length_read r = ap (λ (es : List Entry). length es) r.entries

pub marks_read : {ts : List Table} {k : ℕ} {t : Table} → IsRead ts k t → marks t.entries ≡ marks (entries_at ts k)
marks_read r = ap (λ (es : List Entry). marks es) r.entries

pub group_read : {ts : List Table} {k : ℕ} {t : Table} (w : List ℕ) → IsRead ts k t
    → group_of t.key t.entries w ≡ group_of (key_at ts k) (entries_at ts k) w
group_read {ts} {k} {t} w r = ap (λ (es : List Entry). group_of t.key es w) r.entries
    ∙ ap (λ (ks : List ℕ). group_of ks (entries_at ts k) w) r.key

-- what holds of the table that is read holds of the node's, and the other way round
pub of_read : {ts : List Table} {k : ℕ} {t : Table} (P : List Entry → Type 0) → IsRead ts k t → P t.entries
    → P (entries_at ts k)
of_read P r p = subst P r.entries p

pub to_read : {ts : List Table} {k : ℕ} {t : Table} (P : List Entry → Type 0) → IsRead ts k t → P (entries_at ts k)
    → P t.entries
to_read P r p = subst P (sym r.entries) p

pub at_read : {ts : List Table} {k : ℕ} {t : Table} {p : Place} {u : List ℕ} → IsRead ts k t
    → IsAt (entries_at ts k) p u → IsAt t.entries p u
at_read {ts} {k} {t} {p} {u} r a = subst (λ (es : List Entry). IsAt es p u) (sym r.entries) a

pub live_read : {ts : List Table} {k : ℕ} {t : Table} {p : Place} {u : List ℕ} → IsRead ts k t
    → IsAt (entries_at ts k) p u → IsOccupied t.entries p
live_read {ts} {k} {t} {p} {u} r a = record { tuple = u; is_at = at_read r a }

-- what a write leaves
pub same_set : {ts : List Table} {k : ℕ} {t : Table} → IsRead ts k t → slice_set ts k t ≡ ts
same_set {ts} {k} {t} r = ap (λ (u : Table). slice_set ts k u) r.is ∙ set-get_or ts k t

set_table : (ts : List Table) (k : ℕ) (t : Table) → k < length ts → table_at (slice_set ts k t) k ≡ t
unfolding table_at
set_table ts k t h = get_or-set_same ts k t no_table h

other_table : (ts : List Table) (k i : ℕ) (t : Table) → i ≢ k → table_at (slice_set ts k t) i ≡ table_at ts i
unfolding table_at
other_table ts k i t h = get_or-set_other ts k i t no_table h

set_entries : (ts : List Table) (k : ℕ) (t : Table) → k < length ts → entries_at (slice_set ts k t) k ≡ t.entries
unfolding entries_at
set_entries ts k t h = ap (λ (u : Table). u.entries) (set_table ts k t h)

other_entries : (ts : List Table) (k i : ℕ) (t : Table) → i ≢ k → entries_at (slice_set ts k t) i ≡ entries_at ts i
unfolding entries_at
other_entries ts k i t h = ap (λ (u : Table). u.entries) (other_table ts k i t h)

set_size : (ts : List Table) (k : ℕ) (t : Table) → k < length ts → size (slice_set ts k t) + length (entries_at ts k)
    ≡ size ts + length t.entries
unfolding size entries_at table_at
set_size ts k t h = sum_by-set (λ (u : Table). length u.entries) ts k t no_table h

-- at each place: what holds of the new table at k and of the others as they were
at_each : (P : Table → Type 0) (ts : List Table) (k : ℕ) (t : Table) → k < length ts → P t → (i : ℕ) → P (table_at ts i)
    → P (table_at (slice_set ts k t) i)
at_each P ts k t h here i there =
    elim (cases_eq i k) [
      | inl same ↦ subst (λ (j : ℕ). P (table_at (slice_set ts k t) j)) (sym same)
          (subst P (sym (set_table ts k t h)) here)
      | inr apart ↦ subst P (sym (other_table ts k i t apart)) there
    ]

keyed_set : (ts : List Table) (k : ℕ) (t : Table) → k < length ts → t.key ≡ key_at ts k → t.width ≡ width_at ts k
    → (i : ℕ) → (key_at (slice_set ts k t) i ≡ key_at ts i) × (width_at (slice_set ts k t) i ≡ width_at ts i)
unfolding key_at width_at
keyed_set ts k t h key width i =
    elim (cases_eq i k) [
      | inl same ↦ subst (λ (j : ℕ). ((table_at (slice_set ts k t) j).key ≡ (table_at ts j).key)
          × ((table_at (slice_set ts k t) j).width ≡ (table_at ts j).width)) (sym same) (
            ap (λ (u : Table). u.key) (set_table ts k t h) ∙ key,
            ap (λ (u : Table). u.width) (set_table ts k t h)
                ∙ width,
          )
      | inr apart ↦ (
        ap (λ (u : Table). u.key) (other_table ts k i t apart),
        ap (λ (u : Table). u.width)
            (other_table ts k i t apart),
      )
    ]

supported_set : (ts : List Table) (k : ℕ) (t : Table) → k < length ts
    → (AreSupported (entries_at ts k) → AreSupported t.entries) → ((i : ℕ) → AreSupported (entries_at ts i)) → (i : ℕ)
    → AreSupported (entries_at (slice_set ts k t) i)
unfolding entries_at
supported_set ts k t h up all i = at_each (λ (u : Table). AreSupported u.entries) ts k t h (up (all k)) i (all i)

changed_set : (ts : List Table) (k : ℕ) (t : Table) → k < length ts → IsTable t → t.key ≡ key_at ts k → t.width
    ≡ width_at ts k → (AreSupported (entries_at ts k) → AreSupported t.entries)
    → ChangedOneTable ts (slice_set ts k t) k
changed_set ts k t h sound key width supported = record {
  others = λ i apart. other_entries ts k i t apart;
  family = λ r f. record {
    is_tree = f.is_tree;
    narrow = f.narrow;
    long = length-set ts k t ∙ f.long;
    sound = λ i. at_each IsTable ts k t h sound i (f.sound i);
    keyed = λ i within. let s = keyed_set ts k t h key width i in record
        { width = s.1 ∙ (f.keyed i within).width; key = s.0 ∙ (f.keyed i within).key };
    supported = supported_set ts k t h supported f.supported;
  };
  size = sized;
}
  where
    sized : size (slice_set ts k t) + length (entries_at ts k) ≡ size ts + length (entries_at (slice_set ts k t) k)
    sized = set_size ts k t h ∙ ap (λ (es : List Entry). size ts + length es) (sym (set_entries ts k t h))

-- what holds of the table that was read and of the one written back
pub onto : {ts : List Table} {k : ℕ} {t : Table} (P : List Entry → List Entry → Type 0) (s : Table) → IsRead ts k t
    → P t.entries s.entries → P (entries_at ts k) (entries_at (slice_set ts k s) k)
onto {ts} {k} {t} P s r p =
    subst (λ (fs : List Entry). P (entries_at ts k) fs) (sym (set_entries ts k s r.within))
    (subst (λ (es : List Entry). P es s.entries) r.entries p)

pub onto_key : {ts : List Table} {k : ℕ} {t : Table} (P : List ℕ → List Entry → List Entry → Type 0) (s : Table)
    → IsRead ts k t → P t.key t.entries s.entries → P (key_at ts k) (entries_at ts k) (entries_at (slice_set ts k s) k)
onto_key {ts} {k} {t} P s r p =
    onto (P (key_at ts k)) s r (subst (λ (ks : List ℕ). P ks t.entries s.entries) r.key p)

pub changed_into : {ts : List Table} {k : ℕ} {t s : Table} → IsRead ts k t → IsTable s → s.key ≡ t.key
    → s.width ≡ t.width → (AreSupported t.entries → AreSupported s.entries) → ChangedOneTable ts (slice_set ts k s) k
changed_into {ts} {k} {t} {s} r sound key width up =
    changed_set ts k s r.within sound (key ∙ r.key) (width ∙ r.width) (λ a. up (to_read AreSupported r a))

-- each change of a table keeps tuples supported
pub supported_middle : (xs : List Entry) (e : Entry) (ys : List Entry) → AreSupported (xs ++ e ∷ ys) → 0 < e.supports
unfolding AreSupported
supported_middle [] e ys h = h.0
supported_middle (x ∷ xs) e ys h = supported_middle xs e ys h.1

pub insert_supported : {A E : Type 0} (m : Bool) (r : Result A E) (key : List ℕ) (old new : List Entry) (u : List ℕ)
    → IfOk r (λ p. InsertedAs m key old new u) → OnErr r (new ≡ old) → AreSupported old → AreSupported new
insert_supported m (Ok p) key old new u i e h = inserted_supported key old new u i h
insert_supported m (Err x) key old new u i e h = subst AreSupported (sym e) h

supports_supported : (old new : List Entry) (u : List ℕ) (from to : ℕ) → Supported old new u from to → 0 < to
    → AreSupported old → AreSupported new
supports_supported old new u from to s pos h =
    let has = s.has in
    subst AreSupported (sym s.is)
    (supported_in s.front s.after s.back (omega arith)
    (supported_out s.front s.before s.back (subst AreSupported s.was h)))

pub touched_supported : (key : List ℕ) (old new : List Entry) (u : List ℕ) → Touched key old new u → AreSupported old
    → AreSupported new
touched_supported key old new u t h =
    let was : AreSupported (t.front ++ t.before ∷ t.back) = subst AreSupported t.was h in
    let some = supported_middle t.front t.before t.back was in
    let same = t.same_supports in
    subst AreSupported (sym t.is)
    (supported_in t.fore t.after t.rest (omega arith)
    (subst AreSupported t.between (supported_out t.front t.before t.back was)))

unmarked_supported : (es : List Entry) → AreSupported es → AreSupported (unmarked es)
unfolding AreSupported unmarked bare
unmarked_supported [] h = h
unmarked_supported (e ∷ es) h = (h.0, unmarked_supported es h.1)

-- the marks of a table went, and no other table changed
pub record IsCleared (old new : List Table) (k : ℕ) : Type 0 where
  pub changed : ChangedOneTable old new k
  pub cleared : entries_at new k ≡ unmarked (entries_at old k)

pub cleared_into : {ts : List Table} {k : ℕ} {t s : Table} → IsRead ts k t → IsTable s → s.key ≡ t.key
    → s.width ≡ t.width → s.entries ≡ unmarked t.entries → IsCleared ts (slice_set ts k s) k
cleared_into {ts} {k} {t} {s} r sound key width is = record {
  changed = changed_into r sound key width (λ h. subst AreSupported (sym is) (unmarked_supported t.entries h));
  cleared = onto (λ es fs. fs ≡ unmarked es) s r is;
}

-- the supports of a tuple of a table changed by f, and no other table did
pub record IsResupported (old new : List Table) (k : ℕ) (u : List ℕ) (f : ℕ → ℕ) : Type 0 where
  pub changed : ChangedOneTable old new k
  pub supported : Supported (entries_at old k) (entries_at new k) u (supports_of (entries_at old k) u)
      (f (supports_of (entries_at old k) u))

pub supported_into : {ts : List Table} {k : ℕ} {t s : Table} (f : ℕ → ℕ) (u : List ℕ) → IsRead ts k t → IsTable s
    → s.key ≡ t.key → s.width ≡ t.width
    → Supported t.entries s.entries u (supports_of t.entries u) (f (supports_of t.entries u))
    → 0 < f (supports_of t.entries u) → IsResupported ts (slice_set ts k s) k u f
supported_into {ts} {k} {t} {s} f u r sound key width is some = record {
  changed = changed_into r sound key width
      (λ h. supports_supported t.entries s.entries u (supports_of t.entries u) (f (supports_of t.entries u)) is some h);
  supported = onto (λ es fs. Supported es fs u (supports_of es u) (f (supports_of es u))) s r is;
}

-- the width of a tuple that lies somewhere
wide_middle : (width : ℕ) (xs : List Entry) (e : Entry) (ys : List Entry) → AreWide width (xs ++ e ∷ ys)
    → length e.tuple ≡ width
unfolding AreWide
wide_middle width [] e ys h = h.0
wide_middle width (x ∷ xs) e ys h = wide_middle width xs e ys h.1

pub wide_at : (width : ℕ) (es : List Entry) (p : Place) (u : List ℕ) → AreWide width es → IsAt es p u → length u ≡ width
wide_at width es p u h a = ap (λ (v : List ℕ). length v) (sym a.tuple)
    ∙ wide_middle width a.front a.entry a.back (subst (λ (xs : List Entry). AreWide width xs) a.is h)

pub wide_family : (t : Tree) (ts : List Table) (k : ℕ) (p : Place) (u : List ℕ) → IsFamily t ts
    → IsAt (entries_at ts k) p u → length u ≡ width_at ts k
unfolding entries_at width_at
wide_family t ts k p u f a = wide_at (table_at ts k).width (table_at ts k).entries p u (f.sound k).wide a

-- the part of a tuple at one column
pub part_one : (key : List ℕ) (c : ℕ) (u : List ℕ) → key ≡ c ∷ [] → slice_index u c ∷ [] ≡ pick key u
unfolding pick
part_one key c u is = rw is refl

-- a list of one number
pub only_one : (ks : List ℕ) → length ks ≡ 1 → ks ≡ slice_index_or ks 0 0 ∷ []
only_one [] h = absurd (omega (arith, h))
only_one (k ∷ []) h = refl
only_one (k ∷ j ∷ ks) h = absurd (omega (arith, h))

-- the part of a tuple at no column
pub part_none : (key : List ℕ) (u : List ℕ) → key ≡ [] → [] ≡ pick key u
unfolding pick
part_none key u is = rw is refl

pub is_none : (ks : List ℕ) → length ks ≡ 0 → ks ≡ []
is_none [] h = refl
is_none (k ∷ ks) h = absurd (omega (arith, h))
