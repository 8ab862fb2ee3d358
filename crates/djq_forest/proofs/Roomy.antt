-- A forest with more room is folded alike, and stands for the same reducts.
use Rattle.std.specs.Prelude.{true, ◌≡◌, ◌<◌, ℕ, zero, suc, Bool, cond, ◌&&◌, List, [], ◌∷◌, ◌++◌, length, replicate}
use Rattle.std.specs.Prelude.{Option, Some, None}
use Rattle.std.proofs.Common.{refl, sym, ◌∙◌, ap, ap₂, subst, arith, inl, inr}
use Rattle.djq_arena.specs.Chains.{AreBelow}
use Rattle.djq_tree.specs.declared.node.Node.{Node}
use Rattle.djq_tree.specs.declared.node.Node.TheVariants.{Leaf, Trim, Meet}
use Rattle.djq_tree.specs.Tree.{Tree, node_at}
use Rattle.djq_forest.specs.Forest.{Knot, Forest, nth_knot, nth_edge}
use Rattle.djq_forest.specs.Shape.{AreAlong}
use Rattle.djq_forest.specs.Reducts.{TableEntry}
use Rattle.djq_forest.specs.Fold.{Fold, IsFoldOf, IsFed, Represents, HasSide, IsOne, AreAllNeeds, knot_of, needs_of}
use Rattle.djq_forest.specs.Fold.{meets_needs, supports_at, entries_from, node_entries, tables_of, reducts_of}
use Rattle.djq_forest.specs.Room.{IsRoomier, RoomKeeps}
use Rattle.djq_forest.specs.TreeForest.{TreeForest, IsTreeForest}
use Rattle.djq_forest.proofs.Alike.{EntriesAlike, ReadsAlike, roomier_alike, roomier_forest, same_is_need, same_gift}

-- ---- the fold

needs_alike : (f g : Forest) (k : ℕ) (ns : List ℕ) → EntriesAlike f g → AreAllNeeds f.edges k ns → AreAllNeeds g.edges k ns
needs_alike f g k ns r h = record {
  all = λ j l. same_is_need f g j k r ∙ h.all j (let e = r.edges in omega arith);
  below = subst (λ (n : ℕ). AreBelow n ns) (sym r.edges) h.below;
}

fed_alike : (f g : Forest) (o : Fold) (c e v : ℕ) (columns : List ℕ) → EntriesAlike f g → IsFed f o c e v columns
    → IsFed g o c e v columns
fed_alike f g o c e v columns r h = record {
  edge = let k = r.edges in let l = h.edge in omega arith;
  feeds = r.feeds e ∙ h.feeds;
  big = r.big e ∙ h.big;
  small = r.small e ∙ h.small;
  columns_are = r.columns e ∙ h.columns_are;
  whole = needs_alike f g (knot_of o c) (needs_of o c) r h.whole;
}

represents_alike : (t : Tree) (f g : Forest) (o : Fold) (j k : ℕ) (ns : List ℕ) → EntriesAlike f g → Represents t f o j k ns
    → Represents t g o j k ns
represents_alike t f g o j k ns r h =
    elim h [ inl own ↦ inl own | inr fed ↦ inr (fed.0, fed.1, fed_alike f g o j fed.0 k _ r fed.2) ]

side_alike : (t : Tree) (f g : Forest) (o : Fold) (k a b : ℕ) → EntriesAlike f g → HasSide t f o k a b → HasSide t g o k a b
side_alike t f g o k a b r h = record {
  edge = h.edge;
  within = let e = r.edges in let l = h.within in omega arith;
  has = r.feeds h.edge ∙ h.has;
  big = r.big h.edge ∙ h.big;
  columns_are = r.columns h.edge ∙ h.columns_are;
  side_needs = h.side_needs;
  side = subst (λ (n : ℕ). Represents t g o b n h.side_needs) (sym (r.small h.edge))
      (represents_alike t f g o b (nth_edge f.edges h.edge).small h.side_needs r h.side);
  whole = subst (λ (n : ℕ). AreAllNeeds g.edges n h.side_needs) (sym (r.small h.edge))
      (needs_alike f g (nth_edge f.edges h.edge).small h.side_needs r h.whole);
  knot = h.knot;
  needs = h.needs;
}

one_alike : (t : Tree) (f g : Forest) (o : Fold) (k a b : ℕ) → EntriesAlike f g → IsOne t f o k a b → IsOne t g o k a b
one_alike t f g o k a b r h = record {
  labels = h.labels;
  guard_needs = h.guard_needs;
  side_needs = h.side_needs;
  guard = represents_alike t f g o a (knot_of o k) h.guard_needs r h.guard;
  side = represents_alike t f g o b (knot_of o k) h.side_needs r h.side;
  needs = h.needs;
}

pub fold_alike : (t : Tree) (f g : Forest) (o : Fold) → EntriesAlike f g → IsFoldOf t f o → IsFoldOf t g o
fold_alike t f g o r h = record {
  long = h.long;
  width = λ k l. r.width (knot_of o k) ∙ h.width k l;
  leaf = h.leaf;
  leaf_knot = λ k a l is. r.leaf (knot_of o k) ∙ h.leaf_knot k a l is;
  trim = λ k c l is. let fold = h.trim k c l is in (fold.0, fed_alike f g o c fold.0 (knot_of o k) _ r fold.1, fold.2);
  meet = λ k a b l is. elim (h.meet k a b l is) [
    | inl side ↦ inl (side_alike t f g o k a b r side)
    | inr one ↦ inr (one_alike t f g o k a b r one)
  ];
}

-- ---- the tables

meets_alike : (f g : Forest) (ns : List ℕ) (x : ℕ) → ReadsAlike f g → meets_needs g ns x ≡ meets_needs f ns x
meets_alike f g [] x r = refl
meets_alike f g (j ∷ js) x r = ap₂ (λ (a b : Bool). a && b) (same_gift f g j x r) (meets_alike f g js x r)

supports_alike : (f g : Forest) (n : Node) (ns : List ℕ) (x : ℕ) → ReadsAlike f g → supports_at g n ns x ≡ supports_at f n ns x
supports_alike f g (Leaf a) ns x r = refl
supports_alike f g (Trim c) [] x r = refl
supports_alike f g (Trim c) (j ∷ js) x r = ap (λ (ys : List ℕ). length ys) (r.list j x)
supports_alike f g (Meet a b) ns x r = refl

-- an entry, if it is one of the table, before the others
abbrev listed_if : Bool → TableEntry → List TableEntry → List TableEntry
listed_if b e es = cond b (e ∷ es) es

abbrev table_entry : ℕ → List ℕ → ℕ → TableEntry
table_entry x u s = record { slot = x; tuple = u; supports = s }

if_alike : (x : ℕ) (u : List ℕ) (a b : Bool) (s p : ℕ) (es ds : List TableEntry) → b ≡ a → p ≡ s → ds ≡ es
    → listed_if b (table_entry x u p) ds ≡ listed_if a (table_entry x u s) es
if_alike x u a b s p es ds e h k = rw (e, h, k) refl

entries_alike : (f g : Forest) (n : Node) (ns : List ℕ) (x : ℕ) (us : List (Option (List ℕ))) → ReadsAlike f g
    → entries_from g n ns x us ≡ entries_from f n ns x us
entries_alike f g n ns x [] r = refl
entries_alike f g n ns x (None ∷ us) r = entries_alike f g n ns (suc x) us r
entries_alike f g n ns x (Some u ∷ us) r = if_alike x u (meets_needs f ns x) (meets_needs g ns x) (supports_at f n ns x)
    (supports_at g n ns x) (entries_from f n ns (suc x) us) (entries_from g n ns (suc x) us) (meets_alike f g ns x r)
    (supports_alike f g n ns x r) (entries_alike f g n ns (suc x) us r)

none_more : (f : Forest) (n : Node) (ns : List ℕ) (x m : ℕ) → entries_from f n ns x (replicate m None) ≡ []
none_more f n ns x zero = refl
none_more f n ns x (suc m) = none_more f n ns (suc x) m

entries_past : (f : Forest) (n : Node) (ns : List ℕ) (x m : ℕ) (us : List (Option (List ℕ)))
    → entries_from f n ns x (us ++ replicate m None) ≡ entries_from f n ns x us
entries_past f n ns x m [] = none_more f n ns x m
entries_past f n ns x m (None ∷ us) = entries_past f n ns (suc x) m us
entries_past f n ns x m (Some u ∷ us) =
    ap (λ (es : List TableEntry). listed_if (meets_needs f ns x) (table_entry x u (supports_at f n ns x)) es)
    (entries_past f n ns (suc x) m us)

node_alike : (t : Tree) (f g : Forest) (o : Fold) (j : ℕ) → ReadsAlike f g → IsRoomier f g
    → node_entries t g o j ≡ node_entries t f o j
node_alike t f g o j r more =
    let n = node_at t.nodes j in
    let ns = needs_of o j in
    let k = nth_knot f.knots (knot_of o j) in
    let room = more.knots.each (knot_of o j) in
    ap (λ (a : Knot). entries_from g n ns 0 a.tuples) room.1 ∙ entries_past g n ns 0 room.0 k.tuples
    ∙ entries_alike f g n ns 0 k.tuples r

tables_alike : (t : Tree) (f g : Forest) (o : Fold) (n : ℕ) → ReadsAlike f g → IsRoomier f g
    → tables_of t g o n ≡ tables_of t f o n
tables_alike t f g o zero r more = refl
tables_alike t f g o (suc n) r more = ap₂ (λ (ts : List (List TableEntry)) (es : List TableEntry). ts ++ es ∷ [])
    (tables_alike t f g o n r more) (node_alike t f g o n r more)

pub reducts_alike : (t : Tree) (f g : Forest) (o : Fold) → IsRoomier f g → AreAlong f.knots f.edges
    → reducts_of t g o ≡ reducts_of t f o
reducts_alike t f g o more along = ap (λ (ts : List (List TableEntry)). record { tree = t; tables = ts })
    (tables_alike t f g o (length t.nodes) (roomier_alike f g along more) more)

pub room_keeps : RoomKeeps
room_keeps = record {
  forest = roomier_forest;
  fold = λ t f g o more along h. fold_alike t f g o (roomier_alike f g along more).entries h;
  reducts = reducts_alike;
}

-- the forest of a tree with more room is one of that tree
pub sound_still : (x : TreeForest) (g : Forest) → IsRoomier x.forest g → AreAlong g.knots g.edges → IsTreeForest x
    → IsTreeForest (record { tree = x.tree; forest = g; fold = x.fold })
sound_still x g more along h = record {
  is_tree = h.is_tree;
  forest = roomier_forest x.forest g more along h.forest;
  fold = fold_alike x.tree x.forest g x.fold (roomier_alike x.forest g h.forest.entries.along more).entries h.fold;
}

-- the knot with a leaf's number is a leaf
pub leaf_knot_at : (x : TreeForest) (j : ℕ) → IsTreeForest x → j < x.tree.leaves → (nth_knot x.forest.knots j).leaf ≡ true
leaf_knot_at x j h l =
    let inside : j < length x.tree.nodes = let fits = h.is_tree.fits in omega arith in
    let is = h.is_tree.leaf j l in
    subst (λ (k : ℕ). (nth_knot x.forest.knots k).leaf ≡ true) (h.fold.leaf j j inside is).0
    (h.fold.leaf_knot j j inside is)
