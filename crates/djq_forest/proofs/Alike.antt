-- Forests of which the same is read are forests alike: so a forest with more room is one.
use Rattle.std.specs.Prelude.{◌≡◌, ℕ, zero, suc, ◌+◌, ◌-◌, ◌<◌, ◌≤◌, Bool, true, false, cond, not, ◌==◌, ◌&&◌, List, [], ◌∷◌}
use Rattle.std.specs.Prelude.{length, slice_index, slice_index_or, is_some, Option, None}
use Rattle.std.specs.List.{sum_by}
use Rattle.std.proofs.Common.{refl, sym, ◌∙◌, ap, ap₂, arith}
use Rattle.std.proofs.lemmas.List.{get_or_append_left}
use Rattle.std.proofs.lemmas.List.Sums.{sum_by-cons}
use Rattle.djq_arena.specs.Chains.{AreDistinctSlots}
use Rattle.djq_hypergraph.specs.Hypergraph.{member, one}
use Rattle.djq_tree.specs.Counts.{how_many}
use Rattle.djq_forest.specs.Tuple.{projection}
use Rattle.djq_forest.specs.Forest.{Knot, Edge, Forest, nth_knot, nth_edge, slot_at, tuple_cells, has_entry, entry_tuple}
use Rattle.djq_forest.specs.Forest.{missing_at, refs_at, lives, tie_of, list_of}
use Rattle.djq_forest.specs.Shape.{AreAlong, upper, lower, is_need}
use Rattle.djq_forest.specs.Invariants.{AreEntries, IsForest, gives, is_empty, is_to_list, unmet, tied_by, tied_to}
use Rattle.djq_forest.specs.Room.{IsRoomier}
use Rattle.djq_forest.proofs.Checking.{slot_within}
use Rattle.djq_forest.proofs.Rooms.{more_read, knot_longer}
use Rattle.djq_forest.proofs.Tellings.{many_same}

-- the same is read of the entries of the forest g as of those of f, and of how they are tied; g may have more slots,
-- without entries
pub record EntriesAlike (f g : Forest) : Type 0 where
  pub knots : length g.knots ≡ length f.knots
  pub edges : length g.edges ≡ length f.edges
  pub longer : (k : ℕ) → length (nth_knot f.knots k).tuples ≤ length (nth_knot g.knots k).tuples
  pub leaf : (k : ℕ) → (nth_knot g.knots k).leaf ≡ (nth_knot f.knots k).leaf
  pub width : (k : ℕ) → (nth_knot g.knots k).width ≡ (nth_knot f.knots k).width
  pub rank : (k : ℕ) → (nth_knot g.knots k).rank ≡ (nth_knot f.knots k).rank
  pub slot : (k x : ℕ) → slot_at g.knots k x ≡ slot_at f.knots k x
  pub refs : (k x : ℕ) → refs_at g.knots k x ≡ refs_at f.knots k x
  pub big : (j : ℕ) → (nth_edge g.edges j).big ≡ (nth_edge f.edges j).big
  pub small : (j : ℕ) → (nth_edge g.edges j).small ≡ (nth_edge f.edges j).small
  pub feeds : (j : ℕ) → (nth_edge g.edges j).feeds ≡ (nth_edge f.edges j).feeds
  pub columns : (j : ℕ) → (nth_edge g.edges j).columns ≡ (nth_edge f.edges j).columns
  pub tie : (j x : ℕ) → tie_of (nth_edge g.edges j) x ≡ tie_of (nth_edge f.edges j) x

-- and of which of them live
pub record ReadsAlike (f g : Forest) : Type 0 where
  pub entries : EntriesAlike f g
  pub missing : (k x : ℕ) → has_entry f.knots k x ≡ true → missing_at g.knots k x ≡ missing_at f.knots k x
  pub list : (j y : ℕ) → list_of (nth_edge g.edges j) y ≡ list_of (nth_edge f.edges j) y

-- ---- more room

pub roomier_alike : (f g : Forest) → AreAlong f.knots f.edges → IsRoomier f g → ReadsAlike f g
roomier_alike f g along r = record {
  entries = record {
    knots = r.knots.long;
    edges = r.edges.long;
    longer = λ k. knot_longer (nth_knot f.knots k) (nth_knot g.knots k) (r.knots.each k);
    leaf = λ k. ap (λ (a : Knot). a.leaf) (r.knots.each k).1;
    width = λ k. ap (λ (a : Knot). a.width) (r.knots.each k).1;
    rank = λ k. ap (λ (a : Knot). a.rank) (r.knots.each k).1;
    slot = λ k x. ap (λ (a : Knot). slice_index_or a.tuples x None) (r.knots.each k).1
        ∙ more_read (nth_knot f.knots k).tuples None (r.knots.each k).0 x;
    refs = λ k x. ap (λ (a : Knot). slice_index a.refs x) (r.knots.each k).1
        ∙ more_read (nth_knot f.knots k).refs 0 (r.knots.each k).0 x;
    big = λ j. ap (λ (a : Edge). a.big) (r.edges.each j).2;
    small = λ j. ap (λ (a : Edge). a.small) (r.edges.each j).2;
    feeds = λ j. ap (λ (a : Edge). a.feeds) (r.edges.each j).2;
    columns = λ j. ap (λ (a : Edge). a.columns) (r.edges.each j).2;
    tie = λ j x. ap (λ (a : Edge). tie_of a x) (r.edges.each j).2
        ∙ more_read (nth_edge f.edges j).ties 0 (r.edges.each j).0 x;
  };
  missing = λ k x i. ap (λ (a : Knot). slice_index a.missing x) (r.knots.each k).1
      ∙ get_or_append_left (nth_knot f.knots k).missing _ 0 x
      (let l = slot_within f.knots k x i in let m = along.missing k in omega (arith, l, m));
  list = λ j y. ap (λ (a : Edge). list_of a y) (r.edges.each j).2
      ∙ more_read (nth_edge f.edges j).lists [] (r.edges.each j).1 y;
}

-- ---- entries

pub same_entry_at : (f g : Forest) (k x : ℕ) → EntriesAlike f g → has_entry g.knots k x ≡ has_entry f.knots k x
same_entry_at f g k x r = ap (λ (o : Option (List ℕ)). is_some o) (r.slot k x)

pub same_tuple_at : (f g : Forest) (k x : ℕ) → EntriesAlike f g → entry_tuple g.knots k x ≡ entry_tuple f.knots k x
same_tuple_at f g k x r = ap tuple_cells (r.slot k x)

-- there is an entry in g, so there is one in f
pub entry_back : (f g : Forest) (k x : ℕ) → EntriesAlike f g → has_entry g.knots k x ≡ true → has_entry f.knots k x ≡ true
entry_back f g k x r h = sym (same_entry_at f g k x r) ∙ h

and_alike : (a b p q : Bool) → b ≡ a → (a ≡ true → p ≡ q) → (b && p) ≡ (a && q)
and_alike true true p q e h = h refl
and_alike true false p q e h = absurd cc
and_alike false true p q e h = absurd cc
and_alike false false p q e h = refl

pub same_life : (f g : Forest) (k x : ℕ) → ReadsAlike f g → lives g.knots k x ≡ lives f.knots k x
same_life f g k x r = and_alike (has_entry f.knots k x) (has_entry g.knots k x) (missing_at g.knots k x == 0)
    (missing_at f.knots k x == 0) (same_entry_at f g k x r.entries) (λ i. ap (λ (n : ℕ). n == 0) (r.missing k x i))

-- ---- edges

edge_life : (f g : Forest) (k l x y : ℕ) → ReadsAlike f g → l ≡ k → y ≡ x → lives g.knots l y ≡ lives f.knots k x
edge_life f g k l x y r e h = ap₂ (λ (i z : ℕ). lives g.knots i z) e h ∙ same_life f g k x r

pub edge_entry : (f g : Forest) (k l x y : ℕ) → EntriesAlike f g → l ≡ k → y ≡ x → has_entry g.knots l y ≡ has_entry f.knots k x
edge_entry f g k l x y r e h = ap₂ (λ (i z : ℕ). has_entry g.knots i z) e h ∙ same_entry_at f g k x r

cond_alike : (a b p q s t : Bool) → b ≡ a → p ≡ q → s ≡ t → cond b p s ≡ cond a q t
cond_alike a b p q s t e h i = rw (e, h, i) refl

pub same_gift : (f g : Forest) (j x : ℕ) → ReadsAlike f g
    → gives g.knots (nth_edge g.edges j) x ≡ gives f.knots (nth_edge f.edges j) x
same_gift f g j x r = cond_alike (nth_edge f.edges j).feeds (nth_edge g.edges j).feeds
    (not (is_empty (list_of (nth_edge g.edges j) x))) (not (is_empty (list_of (nth_edge f.edges j) x)))
    (lives g.knots (nth_edge g.edges j).small (tie_of (nth_edge g.edges j) x))
    (lives f.knots (nth_edge f.edges j).small (tie_of (nth_edge f.edges j) x))
    (r.entries.feeds j) (ap (λ (ns : List ℕ). not (is_empty ns)) (r.list j x))
    (edge_life f g _ _ _ _ r (r.entries.small j) (r.entries.tie j x))

same_choice : (a b : Bool) (m n i j : ℕ) → b ≡ a → m ≡ n → i ≡ j → cond b m i ≡ cond a n j
same_choice a b m n i j e h k = rw (e, h, k) refl

pub same_upper : (f g : Forest) (j : ℕ) → EntriesAlike f g → upper (nth_edge g.edges j) ≡ upper (nth_edge f.edges j)
same_upper f g j r = same_choice (nth_edge f.edges j).feeds (nth_edge g.edges j).feeds _ _ _ _ (r.feeds j) (r.small j) (r.big j)

pub same_lower : (f g : Forest) (j : ℕ) → EntriesAlike f g → lower (nth_edge g.edges j) ≡ lower (nth_edge f.edges j)
same_lower f g j r = same_choice (nth_edge f.edges j).feeds (nth_edge g.edges j).feeds _ _ _ _ (r.feeds j) (r.big j) (r.small j)

pub same_is_need : (f g : Forest) (j k : ℕ) → EntriesAlike f g
    → is_need k (nth_edge g.edges j) ≡ is_need k (nth_edge f.edges j)
same_is_need f g j k r = ap (λ (n : ℕ). n == k) (same_upper f g j r)

same_to_list : (f g : Forest) (j x y : ℕ) → ReadsAlike f g
    → is_to_list g.knots (nth_edge g.edges j) x y ≡ is_to_list f.knots (nth_edge f.edges j) x y
same_to_list f g j x y r = ap₂ (λ (a b : Bool). a && b) (ap (λ (n : ℕ). n == y) (r.entries.tie j x))
    (cond_alike (nth_edge f.edges j).feeds (nth_edge g.edges j).feeds (lives g.knots (nth_edge g.edges j).big x)
    (lives f.knots (nth_edge f.edges j).big x) (has_entry g.knots (nth_edge g.edges j).big x)
    (has_entry f.knots (nth_edge f.edges j).big x) (r.entries.feeds j) (edge_life f g _ _ x x r (r.entries.big j) refl)
    (edge_entry f g _ _ x x r.entries (r.entries.big j) refl))

-- ---- sums

sums_alike : (p q : Edge → ℕ) (es gs : List Edge) → length gs ≡ length es
    → ((j : ℕ) → j < length es → q (nth_edge gs j) ≡ p (nth_edge es j)) → sum_by q gs ≡ sum_by p es
sums_alike p q [] [] l h = refl
sums_alike p q [] (g ∷ gs) l h = absurd (omega arith)
sums_alike p q (e ∷ es) [] l h = absurd (omega arith)
sums_alike p q (e ∷ es) (g ∷ gs) l h =
    let here : q g ≡ p e = h 0 (omega arith) in
    let rest = sums_alike p q es gs (omega arith) (λ j m. h (suc j) (omega arith)) in
    omega (arith, sum_by-cons p e es, sum_by-cons q g gs, here, rest)

same_unmet : (f g : Forest) (k x : ℕ) → ReadsAlike f g → unmet g k x ≡ unmet f k x
same_unmet f g k x r = sums_alike (λ e. one (is_need k e && not (gives f.knots e x)))
    (λ e. one (is_need k e && not (gives g.knots e x))) f.edges g.edges r.entries.edges
    (λ j l. ap₂ (λ (a b : Bool). one (a && not b)) (same_is_need f g j k r.entries) (same_gift f g j x r))

off_past : (f : Forest) (k x : ℕ) (b : Bool) → length (nth_knot f.knots k).tuples ≤ x → (has_entry f.knots k x && b) ≡ false
off_past f k x b l = off (has_entry f.knots k x) b (λ h. let m = slot_within f.knots k x h in omega arith)
  where
    off : (a b : Bool) → (a ≡ true → ⊥) → (a && b) ≡ false
    off true b h = absurd (h refl)
    off false b h = refl

many_past : (p : ℕ → Bool) (n d : ℕ) → ((x : ℕ) → n ≤ x → p x ≡ false) → how_many p (n + d) ≡ how_many p n
many_past p n zero off = ap (how_many p) (let e : n + 0 ≡ n = omega arith in e)
many_past p n (suc d) off =
    let rest = many_past p n d off in
    let none : one (p (n + d)) ≡ 0 = ap one (off (n + d) (omega arith)) in
    let longer : n + suc d ≡ suc (n + d) = omega arith in
    let last : how_many p (n + d) + one (p (n + d)) ≡ how_many p n = omega (arith, rest, none) in
    ap (how_many p) longer ∙ last

many_longer : (p : ℕ → Bool) (m n : ℕ) → m ≤ n → ((x : ℕ) → m ≤ x → p x ≡ false) → how_many p n ≡ how_many p m
many_longer p m n l off = ap (λ (i : ℕ). how_many p i) (let e : n ≡ m + (n - m) = omega arith in e)
    ∙ many_past p m (n - m) off

same_tied_by : (f g : Forest) (j y : ℕ) → EntriesAlike f g
    → tied_by g.knots (nth_edge g.edges j) y ≡ tied_by f.knots (nth_edge f.edges j) y
same_tied_by f g j y r =
    let e = nth_edge f.edges j in
    let d = nth_edge g.edges j in
    ap (λ (b : ℕ). how_many (λ x. has_entry g.knots b x && (tie_of d x == y)) (length (nth_knot g.knots b).tuples)) (r.big j)
    ∙ many_same (λ x. has_entry g.knots e.big x && (tie_of d x == y)) (λ x. has_entry f.knots e.big x && (tie_of e x == y))
    (length (nth_knot g.knots e.big).tuples)
    (λ x l. ap₂ (λ (a : Bool) (n : ℕ). a && (n == y)) (same_entry_at f g e.big x r) (r.tie j x))
    ∙ many_longer (λ x. has_entry f.knots e.big x && (tie_of e x == y)) (length (nth_knot f.knots e.big).tuples)
    (length (nth_knot g.knots e.big).tuples) (r.longer e.big) (λ x l. off_past f e.big x (tie_of e x == y) l)

same_tied_to : (f g : Forest) (k y : ℕ) → EntriesAlike f g → tied_to g k y ≡ tied_to f k y
same_tied_to f g k y r = sums_alike (λ e. cond (e.small == k) (tied_by f.knots e y) 0)
    (λ e. cond (e.small == k) (tied_by g.knots e y) 0) f.edges g.edges r.edges
    (λ j l. same_choice ((nth_edge f.edges j).small == k) ((nth_edge g.edges j).small == k) _ _ 0 0
    (ap (λ (n : ℕ). n == k) (r.small j)) (same_tied_by f g j y r) refl)

-- ---- what holds

pub entries_alike : (f g : Forest) → EntriesAlike f g → AreAlong g.knots g.edges → AreEntries f → AreEntries g
entries_alike f g r along h = record {
  shape = record {
    big = λ j l. let b = h.shape.big j (let e = r.edges in omega arith) in let s = r.big j in let e = r.knots in omega
        (arith, b, s, e);
    small = λ j l. let b = h.shape.small j (let e = r.edges in omega arith) in let s = r.small j in let e = r.knots in omega
        (arith, b, s, e);
    view = λ j l. ap (λ (n : ℕ). (nth_knot g.knots n).leaf) (r.small j) ∙ r.leaf (nth_edge f.edges j).small
        ∙ h.shape.view j (let e = r.edges in omega arith);
    rises = λ j l.
        let b = h.shape.rises j (let e = r.edges in omega arith) in
        let low = ap (λ (n : ℕ). (nth_knot g.knots n).rank) (same_lower f g j r) ∙ r.rank (lower (nth_edge f.edges j)) in
        let up = ap (λ (n : ℕ). (nth_knot g.knots n).rank) (same_upper f g j r) ∙ r.rank (upper (nth_edge f.edges j)) in
        omega (arith, b, low, up);
    one_upper = λ i j l m e. h.shape.one_upper i j (let k = r.edges in omega arith) (let k = r.edges in omega arith)
        (sym (same_lower f g i r) ∙ e ∙ same_lower f g j r);
    columns = λ j l. ap (λ (cs : List ℕ). length cs) (r.columns j) ∙ h.shape.columns j (let e = r.edges in omega arith)
        ∙ sym (ap (λ (n : ℕ). (nth_knot g.knots n).width) (r.small j) ∙ r.width (nth_edge f.edges j).small);
  };
  along = along;
  wide = λ k x i. ap (λ (u : List ℕ). length u) (same_tuple_at f g k x r) ∙ h.wide k x (entry_back f g k x r i)
      ∙ sym (r.width k);
  differ = λ k x y i j e. h.differ k x y (entry_back f g k x r i) (entry_back f g k y r j)
      (sym (same_tuple_at f g k x r) ∙ e ∙ same_tuple_at f g k y r);
  tied = λ j x l i. edge_entry f g _ _ _ _ r (r.small j) (r.tie j x)
      ∙ h.tied j x (let e = r.edges in omega arith) (sym (edge_entry f g _ _ x x r (r.big j) refl) ∙ i);
  projected = λ j x l i. ap₂ (λ (k y : ℕ). entry_tuple g.knots k y) (r.small j) (r.tie j x)
      ∙ same_tuple_at f g (nth_edge f.edges j).small (tie_of (nth_edge f.edges j) x) r
      ∙ h.projected j x (let e = r.edges in omega arith) (sym (edge_entry f g _ _ x x r (r.big j) refl) ∙ i)
      ∙ sym (ap₂ (λ (cs u : List ℕ). projection cs u) (r.columns j)
      (ap (λ (k : ℕ). entry_tuple g.knots k x) (r.big j) ∙ same_tuple_at f g (nth_edge f.edges j).big x r));
  refs = λ k y i. r.refs k y ∙ h.refs k y (entry_back f g k y r i) ∙ sym (same_tied_to f g k y r);
  held = λ k y i view.
      let some = h.held k y (entry_back f g k y r i) (sym (r.leaf k) ∙ view) in
      let same = r.refs k y in
      omega (arith, some, same);
}

pub forest_alike : (f g : Forest) → ReadsAlike f g → AreAlong g.knots g.edges → IsForest f → IsForest g
unfolding AreDistinctSlots
forest_alike f g r along h = record {
  entries = entries_alike f g r.entries along h.entries;
  listed = λ j x y l. ap (λ (ns : List ℕ). member x ns) (r.list j y) ∙ h.listed j x y (let e = r.entries.edges in omega arith)
      ∙ sym (same_to_list f g j x y r);
  once = λ j y l. rw (r.list j y) (h.once j y (let e = r.entries.edges in omega arith));
  missing = λ k x i. r.missing k x (entry_back f g k x r.entries i) ∙ h.missing k x (entry_back f g k x r.entries i)
      ∙ sym (same_unmet f g k x r);
}

-- a forest with more room is one
pub roomier_forest : (f g : Forest) → IsRoomier f g → AreAlong g.knots g.edges → IsForest f → IsForest g
roomier_forest f g r along h = forest_alike f g (roomier_alike f g h.entries.along r) along h
