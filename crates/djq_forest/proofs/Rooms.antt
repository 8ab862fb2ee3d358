-- What stays if a forest gets more room.
use Rattle.std.specs.Prelude.{◌≡◌, ℕ, zero, suc, ◌+◌, ◌-◌, ◌<◌, ◌≤◌, Bool, true, List, [], ◌∷◌, ◌++◌, length}
use Rattle.std.specs.Prelude.{replicate, slice_index_or, slice_set, Option, None}
use Rattle.std.proofs.Common.{refl, sym, ◌∙◌, ap, ap₂, subst, arith, inl, inr, length-set, length-append}
use Rattle.std.proofs.Common.{get_or-set_same, get_or-set_other}
use Rattle.std.proofs.lemmas.Bool.{cases_eq, cases_lt}
use Rattle.std.proofs.lemmas.List.{get_or_append_left, get_or-append_right, get_or-replicate, get_or_past, get_or_default}
use Rattle.std.proofs.lemmas.List.{length-replicate, append_assoc, append-nil, replicate-append-replicate, set-get_or}
use Rattle.djq_forest.specs.declared.slots.TheConstants.{OUT}
use Rattle.djq_forest.specs.TieLists.{with_ties, with_lists}
use Rattle.djq_forest.specs.SlotEntries.{with_slots}
use Rattle.djq_forest.specs.Forest.{Knot, Edge, nth_knot, nth_edge}
use Rattle.djq_forest.specs.Index.{HasFreeSlot}
use Rattle.djq_forest.specs.KnotSlots.{knot_slots, put_slots}
use Rattle.djq_forest.specs.EdgeTies.{edge_ties, put_ties}
use Rattle.djq_forest.specs.Room.{knot_with_room, edge_with_room, IsRoomierKnot, IsRoomierEdge, AreRoomierKnots, AreRoomierEdges}
use Rattle.djq_forest.specs.Room.{HasPlacesFor, HavePlacesFor, HasRoomAsView, HaveRoomAsViews}
use Rattle.djq_forest.specs.Shape.{AreAlong}

-- ---- lists that grew

pub more_more : {A : Type 0} (xs : List A) (d : A) (m n : ℕ) → xs ++ replicate m d ++ replicate n d ≡ xs ++ replicate (m + n) d
more_more {A = A} xs d m n = append_assoc xs (replicate m d) (replicate n d)
    ∙ ap (λ (ys : List A). xs ++ ys) (replicate-append-replicate m n d)

pub more_length : {A : Type 0} (xs : List A) (d : A) (n : ℕ) → length (xs ++ replicate n d) ≡ length xs + n
more_length xs d n = length-append xs (replicate n d) ∙ ap (λ (k : ℕ). length xs + k) (length-replicate n d)

nothing_at : {A : Type 0} (d : A) (n x : ℕ) → slice_index_or (replicate n d) x d ≡ d
nothing_at d n x = elim (cases_lt x n) [
  | inl l ↦ get_or-replicate n x d d l
  | inr past ↦ get_or_past (replicate n d) x d (omega (arith, past, length-replicate n d))
]

-- past the end there is what is read there in any case
pub more_read : {A : Type 0} (xs : List A) (d : A) (n x : ℕ) → slice_index_or (xs ++ replicate n d) x d ≡ slice_index_or xs x d
more_read xs d n x =
    elim (cases_lt x (length xs)) [
      | inl l ↦ get_or_append_left xs (replicate n d) d x l
      | inr past ↦ get_or-append_right xs (replicate n d) (length xs) x d refl past
          ∙ nothing_at d n (x - length xs) ∙ sym (get_or_past xs x d past)
    ]

-- ---- knots

abbrev knot_by : Bool → ℕ → ℕ → List (Option (List ℕ)) → List ℕ → List ℕ → List ℕ → Knot
knot_by l w r ts ms rs ks = record { leaf = l; width = w; rank = r; tuples = ts; missing = ms; refs = rs; marks = ks }

same_knot : (l : Bool) (w r : ℕ) (ts us : List (Option (List ℕ))) (ms ns rs ss ks js : List ℕ) → ts ≡ us → ms ≡ ns → rs ≡ ss
    → ks ≡ js → knot_by l w r ts ms rs ks ≡ knot_by l w r us ns ss js
same_knot l w r ts us ms ns rs ss ks js a b c d =
    ap₂ (λ (t : List (Option (List ℕ))) (m : List ℕ). knot_by l w r t m rs ks) a b
    ∙ ap₂ (λ (s k : List ℕ). knot_by l w r us ns s k) c d

pub roomier_knot_self : (k : Knot) → IsRoomierKnot k k
roomier_knot_self k = (
  0,
  same_knot k.leaf k.width k.rank k.tuples (k.tuples ++ []) k.missing (k.missing ++ []) k.refs (k.refs ++ []) k.marks
      (k.marks ++ []) (sym (append-nil k.tuples)) (sym (append-nil k.missing)) (sym (append-nil k.refs))
      (sym (append-nil k.marks)),
)

pub roomier_knot_on : (a b c : Knot) → IsRoomierKnot a b → IsRoomierKnot b c → IsRoomierKnot a c
roomier_knot_on a b c p q = (
  p.0 + q.0,
  q.1 ∙ ap (λ (k : Knot). knot_with_room k q.0) p.1
      ∙ same_knot a.leaf a.width a.rank _ _ _ _ _ _ _ _ (more_more a.tuples None p.0 q.0) (more_more a.missing OUT p.0 q.0)
      (more_more a.refs 0 p.0 q.0) (more_more a.marks 0 p.0 q.0),
)

pub knot_grown : (k h : Knot) (n : ℕ) → h ≡ put_slots k (with_slots (knot_slots k) n) → IsRoomierKnot k h
knot_grown k h n is = (n - length k.tuples, is)

pub grown_length : (k h : Knot) (n : ℕ) → length k.tuples ≤ n → h ≡ put_slots k (with_slots (knot_slots k) n)
    → length h.tuples ≡ n
grown_length k h n more is = ap (λ (a : Knot). length a.tuples) is ∙ more_length k.tuples None (n - length k.tuples)
    ∙ omega (arith, more)

pub knot_longer : (k h : Knot) → IsRoomierKnot k h → length k.tuples ≤ length h.tuples
knot_longer k h p =
    let long : length h.tuples ≡ length k.tuples + p.0 =
    ap (λ (a : Knot). length a.tuples) p.1 ∙ more_length k.tuples None p.0 in
    omega (arith, long)

-- what is free stays free
pub free_still : (k h : Knot) → IsRoomierKnot k h → HasFreeSlot k.tuples → HasFreeSlot h.tuples
free_still k h p f = (
  f.0,
  (
    let l = knot_longer k h p in omega (arith, l, f.1.0),
    ap (λ (a : Knot). slice_index_or a.tuples f.0 None) p.1 ∙ more_read k.tuples None p.0 f.0 ∙ f.1.1,
  ),
)

pub room_still : (k h : Knot) → IsRoomierKnot k h → HasRoomAsView k → HasRoomAsView h
room_still k h p room = λ view. free_still k h p (room (sym (ap (λ (a : Knot). a.leaf) p.1) ∙ view))

-- ---- edges

abbrev edge_by : Edge → List ℕ → List (List ℕ) → Edge
edge_by e ts ls = record { big = e.big; small = e.small; feeds = e.feeds; columns = e.columns; ties = ts; lists = ls }

same_edge : (e : Edge) (ts us : List ℕ) (ls ms : List (List ℕ)) → ts ≡ us → ls ≡ ms → edge_by e ts ls ≡ edge_by e us ms
same_edge e ts us ls ms a b = ap₂ (λ (t : List ℕ) (l : List (List ℕ)). edge_by e t l) a b

pub roomier_edge_self : (e : Edge) → IsRoomierEdge e e
roomier_edge_self e = (
  0,
  0,
  same_edge e e.ties (e.ties ++ []) e.lists (e.lists ++ []) (sym (append-nil e.ties)) (sym (append-nil e.lists)),
)

pub roomier_edge_on : (a b c : Edge) → IsRoomierEdge a b → IsRoomierEdge b c → IsRoomierEdge a c
roomier_edge_on a b c p q = (
  p.0 + q.0,
  p.1 + q.1,
  q.2 ∙ ap (λ (e : Edge). edge_with_room e q.0 q.1) p.2
      ∙ same_edge a _ _ _ _ (more_more a.ties 0 p.0 q.0) (more_more a.lists [] p.1 q.1),
)

pub ties_grown : (e g : Edge) (n : ℕ) → g ≡ put_ties e (with_ties (edge_ties e) n) → IsRoomierEdge e g
ties_grown e g n is = (
  n - length e.ties,
  0,
  is ∙ same_edge e _ _ e.lists (e.lists ++ []) refl (sym (append-nil e.lists)),
)

pub ties_enough : (e g : Edge) (n : ℕ) → g ≡ put_ties e (with_ties (edge_ties e) n) → n ≤ length g.ties
ties_enough e g n is =
    let long : length g.ties ≡ length e.ties + (n - length e.ties) =
    ap (λ (a : Edge). length a.ties) is ∙ more_length e.ties 0 (n - length e.ties) in
    omega (arith, long)

pub lists_grown : (e g : Edge) (n : ℕ) → g ≡ put_ties e (with_lists (edge_ties e) n) → IsRoomierEdge e g
lists_grown e g n is = (
  0,
  n - length e.lists,
  is ∙ same_edge e e.ties (e.ties ++ []) _ _ (sym (append-nil e.ties)) refl,
)

no_slots : List ℕ
no_slots = []

pub lists_enough : (e g : Edge) (n : ℕ) → g ≡ put_ties e (with_lists (edge_ties e) n) → n ≤ length g.lists
lists_enough e g n is =
    let long : length g.lists ≡ length e.lists + (n - length e.lists) =
    ap (λ (a : Edge). length a.lists) is ∙ more_length e.lists [] (n - length e.lists) in
    omega (arith, long)

pub edge_ties_longer : (e g : Edge) → IsRoomierEdge e g → length e.ties ≤ length g.ties
edge_ties_longer e g p =
    let long : length g.ties ≡ length e.ties + p.0 = ap (λ (a : Edge). length a.ties) p.2 ∙ more_length e.ties 0 p.0 in
    omega (arith, long)

pub edge_lists_longer : (e g : Edge) → IsRoomierEdge e g → length e.lists ≤ length g.lists
edge_lists_longer e g p =
    let long : length g.lists ≡ length e.lists + p.1 =
    ap (λ (a : Edge). length a.lists) p.2 ∙ more_length e.lists [] p.1 in
    omega (arith, long)

pub same_big : (e g : Edge) → IsRoomierEdge e g → g.big ≡ e.big
same_big e g p = ap (λ (a : Edge). a.big) p.2

pub same_small : (e g : Edge) → IsRoomierEdge e g → g.small ≡ e.small
same_small e g p = ap (λ (a : Edge). a.small) p.2

pub places_still : (k n : ℕ) (e g : Edge) → IsRoomierEdge e g → HasPlacesFor k n e → HasPlacesFor k n g
places_still k n e g p h = record {
  ties = λ is. let had = h.ties (sym (same_big e g p) ∙ is) in let l = edge_ties_longer e g p in omega (arith, had, l);
  lists = λ is. let had = h.lists (sym (same_small e g p) ∙ is) in let l = edge_lists_longer e g p in omega (arith, had, l);
}

-- places on the side of the big knot stay while some are made on the small one's
pub both_places : (k n : ℕ) (e g : Edge) → IsRoomierEdge e g → (e.big ≡ k → n ≤ length e.ties)
    → (g.small ≡ k → n ≤ length g.lists) → HasPlacesFor k n g
both_places k n e g p ties lists = record {
  ties = λ is. let had = ties (sym (same_big e g p) ∙ is) in let l = edge_ties_longer e g p in omega (arith, had, l);
  lists = lists;
}

-- ---- all knots, and all edges

pub roomier_knots_self : (ks : List Knot) → AreRoomierKnots ks ks
roomier_knots_self ks = record { long = refl; each = λ k. roomier_knot_self (nth_knot ks k) }

pub roomier_knots_on : (ks hs gs : List Knot) → AreRoomierKnots ks hs → AreRoomierKnots hs gs → AreRoomierKnots ks gs
roomier_knots_on ks hs gs p q = record {
  long = q.long ∙ p.long;
  each = λ k. roomier_knot_on (nth_knot ks k) (nth_knot hs k) (nth_knot gs k) (p.each k) (q.each k);
}

pub read_knot : (ks : List Knot) (k : ℕ) (h : Knot) → k < length ks → h ≡ slice_index_or ks k h → h ≡ nth_knot ks k
read_knot ks k h l is = is ∙ get_or_default ks k h _ l

pub roomier_knots_set : (ks : List Knot) (k : ℕ) (h : Knot) → k < length ks → IsRoomierKnot (nth_knot ks k) h
    → AreRoomierKnots ks (slice_set ks k h)
roomier_knots_set ks k h l p = record {
  long = length-set ks k h;
  each = λ i. elim (cases_eq i k) [
    | inl here ↦ subst (λ (n : ℕ). IsRoomierKnot (nth_knot ks n) (nth_knot (slice_set ks k h) n)) (sym here)
        (subst (λ (a : Knot). IsRoomierKnot (nth_knot ks k) a) (sym (get_or-set_same ks k h _ l)) p)
    | inr other ↦ subst (λ (a : Knot). IsRoomierKnot (nth_knot ks i) a) (sym (get_or-set_other ks k i h _ other))
        (roomier_knot_self (nth_knot ks i))
  ];
}

-- what is written over a knot is that one grown, or that one
pub knot_came : (ks : List Knot) (k n : ℕ) (a h : Knot) → k < length ks → a ≡ slice_index_or ks k a
    → h ≡ put_slots a (with_slots (knot_slots a) n) → AreRoomierKnots ks (slice_set ks k h)
knot_came ks k n a h l is grown = roomier_knots_set ks k h l
    (knot_grown (nth_knot ks k) h n
    (subst (λ (b : Knot). h ≡ put_slots b (with_slots (knot_slots b) n)) (read_knot ks k a l is) grown))

pub knot_kept : (ks : List Knot) (k : ℕ) (a h : Knot) → k < length ks → a ≡ slice_index_or ks k a → h ≡ a
    → AreRoomierKnots ks (slice_set ks k h)
knot_kept ks k a h l is same = roomier_knots_set ks k h l
    (subst (λ (b : Knot). IsRoomierKnot (nth_knot ks k) b) (sym (same ∙ read_knot ks k a l is))
    (roomier_knot_self (nth_knot ks k)))

-- one view more has a free slot
pub rooms_more : (ks hs : List Knot) (k : ℕ) → AreRoomierKnots ks hs → HaveRoomAsViews ks k → HasRoomAsView (nth_knot hs k)
    → HaveRoomAsViews hs (k + 1)
rooms_more ks hs k p had has i below =
    elim (cases_eq i k) [
      | inl here ↦ subst (λ (n : ℕ). HasRoomAsView (nth_knot hs n)) (sym here) has
      | inr other ↦ room_still (nth_knot ks i) (nth_knot hs i) (p.each i) (had i (omega arith))
    ]

pub roomier_edges_self : (es : List Edge) → AreRoomierEdges es es
roomier_edges_self es = record { long = refl; each = λ j. roomier_edge_self (nth_edge es j) }

pub roomier_edges_on : (es fs gs : List Edge) → AreRoomierEdges es fs → AreRoomierEdges fs gs → AreRoomierEdges es gs
roomier_edges_on es fs gs p q = record {
  long = q.long ∙ p.long;
  each = λ j. roomier_edge_on (nth_edge es j) (nth_edge fs j) (nth_edge gs j) (p.each j) (q.each j);
}

pub read_edge : (es : List Edge) (j : ℕ) (e : Edge) → j < length es → e ≡ slice_index_or es j e → e ≡ nth_edge es j
read_edge es j e l is = is ∙ get_or_default es j e _ l

pub roomier_edges_set : (es : List Edge) (j : ℕ) (g : Edge) → j < length es → IsRoomierEdge (nth_edge es j) g
    → AreRoomierEdges es (slice_set es j g)
roomier_edges_set es j g l p = record {
  long = length-set es j g;
  each = λ i. elim (cases_eq i j) [
    | inl here ↦ subst (λ (n : ℕ). IsRoomierEdge (nth_edge es n) (nth_edge (slice_set es j g) n)) (sym here)
        (subst (λ (a : Edge). IsRoomierEdge (nth_edge es j) a) (sym (get_or-set_same es j g _ l)) p)
    | inr other ↦ subst (λ (a : Edge). IsRoomierEdge (nth_edge es i) a) (sym (get_or-set_other es j i g _ other))
        (roomier_edge_self (nth_edge es i))
  ];
}

-- the next edge has been written
pub edges_next : (es fs : List Edge) (j : ℕ) (e g : Edge) → AreRoomierEdges es fs → j < length fs
    → e ≡ slice_index_or fs j e → IsRoomierEdge e g → AreRoomierEdges es (slice_set fs j g)
edges_next es fs j e g p l is q = roomier_edges_on es fs (slice_set fs j g) p
    (roomier_edges_set fs j g l (subst (λ (a : Edge). IsRoomierEdge a g) (read_edge fs j e l is) q))

-- one edge more has its places
pub places_more : (k n : ℕ) (es : List Edge) (j : ℕ) (g : Edge) → j < length es → HavePlacesFor k n es j
    → HasPlacesFor k n g → HavePlacesFor k n (slice_set es j g) (j + 1)
places_more k n es j g l had has i below =
    elim (cases_eq i j) [
      | inl here ↦ subst (λ (m : ℕ). HasPlacesFor k n (nth_edge (slice_set es j g) m)) (sym here)
          (subst (HasPlacesFor k n) (sym (get_or-set_same es j g _ l)) has)
      | inr other ↦ subst (HasPlacesFor k n) (sym (get_or-set_other es j i g _ other)) (had i (omega arith))
    ]

-- ---- arrays that go side by side

pub along_edges : (ks : List Knot) (es gs : List Edge) → AreAlong ks es → AreRoomierEdges es gs → AreAlong ks gs
along_edges ks es gs a p = record {
  missing = a.missing;
  refs = a.refs;
  marks = a.marks;
  ties = λ j l.
      let had = a.ties j (let e = p.long in omega (arith, e, l)) in
      let m = edge_ties_longer (nth_edge es j) (nth_edge gs j) (p.each j) in
      let same = ap (λ (n : ℕ). length (nth_knot ks n).tuples) (same_big (nth_edge es j) (nth_edge gs j) (p.each j)) in
      omega (arith, had, m, same);
  lists = λ j l.
      let had = a.lists j (let e = p.long in omega (arith, e, l)) in
      let m = edge_lists_longer (nth_edge es j) (nth_edge gs j) (p.each j) in
      let same = ap (λ (n : ℕ). length (nth_knot ks n).tuples) (same_small (nth_edge es j) (nth_edge gs j) (p.each j)) in
      omega (arith, had, m, same);
}

along_knot : (g : Knot → ℕ) (k h : Knot) (n : ℕ) → g (knot_with_room k n) ≡ g k + n → length k.tuples ≡ g k
    → h ≡ knot_with_room k n → g h ≡ length h.tuples
along_knot g k h n more same is =
    let a : g h ≡ g k + n = ap g is ∙ more in
    let b : length h.tuples ≡ length k.tuples + n = ap (λ (a : Knot). length a.tuples) is ∙ more_length k.tuples None n in
    omega (arith, a, b, same)

-- a knot's arrays have grown alike
pub along_knots : (ks hs : List Knot) (es : List Edge) → AreAlong ks es → AreRoomierKnots ks hs
    → (((k : ℕ) → length (nth_knot hs k).missing ≡ length (nth_knot hs k).tuples)
    × ((k : ℕ) → length (nth_knot hs k).refs ≡ length (nth_knot hs k).tuples)
    × ((k : ℕ) → length (nth_knot hs k).marks ≡ length (nth_knot hs k).tuples))
along_knots ks hs es a p = (
  λ k. along_knot (λ (n : Knot). length n.missing) (nth_knot ks k) (nth_knot hs k) (p.each k).0
      (more_length (nth_knot ks k).missing OUT (p.each k).0) (sym (a.missing k)) (p.each k).1,
  λ k. along_knot (λ (n : Knot). length n.refs) (nth_knot ks k) (nth_knot hs k) (p.each k).0
      (more_length (nth_knot ks k).refs 0 (p.each k).0) (sym (a.refs k)) (p.each k).1,
  λ k. along_knot (λ (n : Knot). length n.marks) (nth_knot ks k) (nth_knot hs k) (p.each k).0
      (more_length (nth_knot ks k).marks 0 (p.each k).0) (sym (a.marks k)) (p.each k).1,
)

place_for : (ks : List Knot) (k : ℕ) (h : Knot) (b n m : ℕ) → k < length ks → length h.tuples ≡ n
    → length (nth_knot ks b).tuples ≤ m → (b ≡ k → n ≤ m) → length (nth_knot (slice_set ks k h) b).tuples ≤ m
place_for ks k h b n m l long had enough =
    elim (cases_eq b k) [
      | inl here ↦
          let at = ap (λ (i : ℕ). length (nth_knot (slice_set ks k h) i).tuples) here in
          let new : length (nth_knot (slice_set ks k h) k).tuples ≡ length h.tuples =
          ap (λ (a : Knot). length a.tuples) (get_or-set_same ks k h _ l) in
          let e = enough here in
          omega (arith, at, new, long, e)
      | inr other ↦
          let old : length (nth_knot (slice_set ks k h) b).tuples ≡ length (nth_knot ks b).tuples =
          ap (λ (a : Knot). length a.tuples) (get_or-set_other ks k b h _ other) in
          omega (arith, old, had)
    ]

-- a knot has grown for which there were places
pub along_grown : (ks : List Knot) (gs : List Edge) (k n : ℕ) (h : Knot) → AreAlong ks gs → k < length ks
    → length (nth_knot ks k).tuples ≤ n → h ≡ put_slots (nth_knot ks k) (with_slots (knot_slots (nth_knot ks k)) n)
    → HavePlacesFor k n gs (length gs) → AreAlong (slice_set ks k h) gs
along_grown ks gs k n h a l more is places =
    let long = grown_length (nth_knot ks k) h n more is in
    let arrays = along_knots ks (slice_set ks k h) gs a (roomier_knots_set ks k h l (knot_grown (nth_knot ks k) h n is)) in
    record {
      missing = arrays.0;
      refs = arrays.1;
      marks = arrays.2;
      ties = λ j low. place_for ks k h (nth_edge gs j).big n (length (nth_edge gs j).ties) l long (a.ties j low)
          (places j low).ties;
      lists = λ j low. place_for ks k h (nth_edge gs j).small n (length (nth_edge gs j).lists) l long (a.lists j low)
          (places j low).lists;
    }

-- a knot has grown that was read, or it hasn't
pub along_came : (ks : List Knot) (gs : List Edge) (k n : ℕ) (a h : Knot) → AreAlong ks gs → k < length ks
    → a ≡ slice_index_or ks k a → length (nth_knot ks k).tuples ≤ n → h ≡ put_slots a (with_slots (knot_slots a) n)
    → HavePlacesFor k n gs (length gs) → AreAlong (slice_set ks k h) gs
along_came ks gs k n a h along l is more grown places = along_grown ks gs k n h along l more
    (subst (λ (b : Knot). h ≡ put_slots b (with_slots (knot_slots b) n)) (read_knot ks k a l is) grown) places

pub along_kept : (ks : List Knot) (gs : List Edge) (k : ℕ) (a h : Knot) → AreAlong ks gs → k < length ks
    → a ≡ slice_index_or ks k a → h ≡ a → AreAlong (slice_set ks k h) gs
along_kept ks gs k a h along l is same = subst (λ (hs : List Knot). AreAlong hs gs)
    (sym (ap (λ (b : Knot). slice_set ks k b) (same ∙ read_knot ks k a l is) ∙ set-get_or ks k _)) along

-- a leaf is one of the knots
pub leaf_within : (ks : List Knot) (k : ℕ) → (nth_knot ks k).leaf ≡ true → k < length ks
leaf_within [] k h = absurd cc
leaf_within (a ∷ ks) zero h = omega arith
leaf_within (a ∷ ks) (suc k) h = omega (arith, leaf_within ks k h)

-- a leaf's slot stays while views get room
pub slot_still : (ks hs : List Knot) (k x : ℕ) → AreRoomierKnots ks hs → x < length (nth_knot ks k).tuples
    → x < length (nth_knot hs k).tuples
slot_still ks hs k x p l = let m = knot_longer (nth_knot ks k) (nth_knot hs k) (p.each k) in omega (arith, l, m)
