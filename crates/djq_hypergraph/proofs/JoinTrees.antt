-- Join trees: by their leaves, link by link from the root on, and as trees of labels.
use Rattle.std.specs.Prelude.{◌≡◌, ℕ, zero, suc, ◌+◌, ◌-◌, ◌<◌, ◌≤◌, Bool, true, false, not, ◌==◌, ◌&&◌, nat_lt, List}
use Rattle.std.specs.Prelude.{[], ◌∷◌, ◌++◌, map, length, take, refl, ◌↔◌, min, IsTrue, ◌||◌, drop, reverse}
use Rattle.std.specs.Prelude.{slice_index_or, ◌⊎◌}
use Rattle.std.proofs.Common.{sym, ap, ◌∙◌, subst, arith, inl, inr, lt-ltb, le-ltb, take_all, ltb-true, ltb-false}
use Rattle.std.proofs.Common.{take-append-drop}
use Rattle.std.proofs.lemmas.Bool.{cases_lt, cases_eq, eq-eqb, ne_eqb}
use Rattle.std.proofs.lemmas.List.{take_more, reverse-append, length-reverse, get_or_read_under}
use Rattle.std.specs.List.{list_any}
use Rattle.djq_hypergraph.specs.declared.join_tree.Link.{Link}
use Rattle.djq_hypergraph.specs.Hypergraph.{member, one, degree, edge_at, subset, intersection}
pub use Rattle.djq_hypergraph.specs.JoinTree.{link_edges}
use Rattle.djq_hypergraph.specs.JoinTree.{places, parent_edge, IsUnder, IsOrder, tops, IsJoinTree, IsRootedAt}
use Rattle.djq_hypergraph.specs.JoinTree.{HasJoinTree, HasJoinTreeFrom, IsFreeConnex}
use Rattle.djq_hypergraph.specs.Checking.{FitsTree}
use Rattle.djq_hypergraph.proofs.Sets.{has_bit, one_le, one_true, from_true, subset_from, subset_says, has_intersection}
use Rattle.djq_hypergraph.proofs.Labels.{labels, numbers, times, times_append, Bag, map_same, full, length_same}
use Rattle.djq_hypergraph.proofs.Labels.{times_itself, same_item, from_map, drawn, count, Same, count_self, degree_same}
use Rattle.djq_hypergraph.proofs.LabelTrees.{Tree, Rooted, rerooted}

-- ---- A join tree by its leaves: each link's edge shares with those behind it only what its parent has.

-- the leaf form, for all links
abbrev pub Keeps : List (List ℕ) → List Link → Type 0
Keeps E [] = Unit {0}
Keeps E (k ∷ R) =
    ((x : ℕ) → 0 < has_bit x (edge_at E k.edge) → 0 < degree x (link_edges E R) → 0 < has_bit x (parent_edge E k R))
    × Keeps E R

top_one : (a b : Bool) → one (a && not b) ≡ one a - one b
top_one true true = refl
top_one true false = refl
top_one false true = refl
top_one false false = refl

pub tops_step : (x : ℕ) (E : List (List ℕ)) (k : Link) (R : List Link) → tops x E (k ∷ R)
    ≡ (has_bit x (edge_at E k.edge) - has_bit x (parent_edge E k R)) + tops x E R
tops_step x E k R = ap (λ n. n + tops x E R) (top_one (member x (edge_at E k.edge)) (member x (parent_edge E k R)))

pub place_below : (p x : ℕ) (E : List (List ℕ)) (R : List Link) → 0 < places p R → 0 < has_bit x (edge_at E p)
    → 0 < degree x (link_edges E R)
place_below p x E [] stands within = absurd (omega arith)
place_below p x E (k ∷ R) stands within =
    elim (cases_eq p k.edge) [
      | inl same ↦ let s : has_bit x (edge_at E p)
          ≡ has_bit x (edge_at E k.edge) = ap (λ (q : ℕ). has_bit x (edge_at E q)) same in omega arith
      | inr apart ↦
          let here : one (p == k.edge) ≡ 0 = rw (ne_eqb p k.edge apart) refl in
          omega (arith, place_below p x E R (omega arith) within)
    ]

pub place_counts : (p : ℕ) (E : List (List ℕ)) (R : List Link) → 0 < places p R
    → 0 < count (edge_at E p) (link_edges E R)
place_counts p E [] stands = absurd (omega arith)
place_counts p E (k ∷ R) stands =
    elim (cases_eq p k.edge) [
      | inl same ↦
          let s : edge_at E k.edge ≡ edge_at E p = ap (λ (q : ℕ). edge_at E q) (sym same) in
          subst (λ (l : List ℕ). 0 < count l (edge_at E k.edge ∷ link_edges E R)) s
          (count_self (edge_at E k.edge) (link_edges E R))
      | inr apart ↦
          let here : one (p == k.edge) ≡ 0 = rw (ne_eqb p k.edge apart) refl in
          omega (arith, place_counts p E R (omega arith))
    ]

over_below : (x : ℕ) (E : List (List ℕ)) (k : Link) (R : List Link) → IsUnder k R → 0 < has_bit x (parent_edge E k R)
    → 0 < degree x (link_edges E R)
over_below x E k [] under within = absurd (omega arith)
over_below x E k (j ∷ R) under within = place_below k.parent x E (j ∷ R) under within

-- a variable that lies in an edge has a topmost one
pub some_top : (x : ℕ) (E : List (List ℕ)) (R : List Link) → IsOrder R → 0 < degree x (link_edges E R) → 1 ≤ tops x E R
some_top x E [] ordered lies = absurd (omega arith)
some_top x E (k ∷ R) ordered lies =
    let step = tops_step x E k R in
    elim (cases_lt 0 (degree x (link_edges E R))) [
      | inl c ↦ omega (arith, some_top x E R ordered.2 c)
      | inr c ↦
          elim (cases_lt 0 (has_bit x (parent_edge E k R))) [
            | inl d ↦ absurd (let q = over_below x E k R ordered.1 d in omega arith)
            | inr d ↦ omega arith
          ]
    ]

pub no_top : (x : ℕ) (E : List (List ℕ)) (R : List Link) → degree x (link_edges E R) ≡ 0 → tops x E R ≡ 0
no_top x E [] none = refl
no_top x E (k ∷ R) none = omega (arith, tops_step x E k R, no_top x E R (omega arith))

pub keeps_from : (E : List (List ℕ)) (R : List Link) → IsOrder R → ((x : ℕ) → tops x E R ≤ 1) → Keeps E R
keeps_from E [] ordered h = tt
keeps_from E (k ∷ R) ordered h = (
  λ x within below. let step = tops_step x E k R in let q = some_top x E R ordered.2 below in let p = h x in omega
      arith,
  keeps_from E R ordered.2 (λ x. let step = tops_step x E k R in let p = h x in omega arith),
)

pub tops_from : (E : List (List ℕ)) (R : List Link) → IsOrder R → Keeps E R → (x : ℕ) → tops x E R ≤ 1
tops_from E [] ordered h x = omega arith
tops_from E (k ∷ R) ordered h x =
    let step = tops_step x E k R in
    let most = one_le (member x (edge_at E k.edge)) in
    elim (cases_lt 0 (degree x (link_edges E R))) [
      | inl c ↦ grind (arith, tops_from E R ordered.2 h.1 x, h.0 x)
      | inr c ↦ let none = no_top x E R (omega arith) in omega arith
    ]

-- ---- each edge stands once

-- the positions that the links stand for, and those below a number
abbrev pub spots : List Link → List ℕ
spots [] = []
spots (k ∷ R) = k.edge ∷ spots R

abbrev pub upto : ℕ → List ℕ
upto zero = []
upto (suc n) = n ∷ upto n

pub times_spots : (p : ℕ) (R : List Link) → times numbers p (spots R) ≡ places p R
times_spots p [] = refl
times_spots p (k ∷ R) = ap (λ n. one (p == k.edge) + n) (times_spots p R)

pub times_upto : (p n : ℕ) → times numbers p (upto n) ≡ one (nat_lt p n)
times_upto p zero = rw (le-ltb p 0 (omega arith)) refl
times_upto p (suc n) =
    elim (cases_lt p n) [
      | inl low ↦
          let a : one (p == n) ≡ 0 = rw (ne_eqb p n (λ e. omega arith)) refl in
          let b : one (nat_lt p n) ≡ 1 = rw (lt-ltb p n low) refl in
          let c : one (nat_lt p (suc n)) ≡ 1 = rw (lt-ltb p (suc n) (omega arith)) refl in
          omega (arith, times_upto p n)
      | inr high ↦
          let b : one (nat_lt p n) ≡ 0 = rw (le-ltb p n high) refl in
          elim (cases_eq p n) [
            | inl same ↦
                let a : one (p == n) ≡ 1 = rw (eq-eqb p n same) refl in
                let c : one (nat_lt p (suc n)) ≡ 1 = rw (lt-ltb p (suc n) (omega arith)) refl in
                omega (arith, times_upto p n)
            | inr apart ↦
                let a : one (p == n) ≡ 0 = rw (ne_eqb p n apart) refl in
                let c : one (nat_lt p (suc n)) ≡ 0 = rw (le-ltb p (suc n) (omega arith)) refl in
                omega (arith, times_upto p n)
          ]
    ]

pub edges_map : (E : List (List ℕ)) (R : List Link) → link_edges E R ≡ map (λ p. edge_at E p) (spots R)
edges_map E [] = refl
edges_map E (k ∷ R) = ap (λ (L : List (List ℕ)). edge_at E k.edge ∷ L) (edges_map E R)

-- the edges below a position are the list's first ones
upto_take : (E : List (List ℕ)) (n : ℕ) → n ≤ length E → Same (map (λ p. edge_at E p) (upto n)) (take n E)
upto_take E zero within a = refl
upto_take E (suc n) within a =
    let next : suc n ≡ n + 1 = omega arith in
    let more : take (suc n) E ≡ take n E ++ edge_at E n ∷ [] = ap (λ (m : ℕ). take m E) next
    ∙ take_more E n [] (omega arith) in
    let q = upto_take E n (omega arith) a in
    let w : count a (take (suc n) E)
    ≡ count a (take n E ++ edge_at E n ∷ []) = ap (λ (L : List (List ℕ)). count a L) more in
    omega (arith, times_append labels a (take n E) (edge_at E n ∷ []))

pub upto_same : (E : List (List ℕ)) → Same (map (λ p. edge_at E p) (upto (length E))) E
upto_same E a = upto_take E (length E) (omega arith) a
    ∙ ap (λ (L : List (List ℕ)). count a L) (take_all (length E) E (omega arith))

pub edges_same : (E : List (List ℕ)) (R : List Link) → ((p : ℕ) → places p R ≡ one (nat_lt p (length E)))
    → Same (link_edges E R) E
edges_same E R covers a =
    let spots_same : Bag numbers (spots R) (upto (length E)) = λ p. times_spots p R ∙ covers p
    ∙ sym (times_upto p (length E)) in
    ap (λ (L : List (List ℕ)). count a L) (edges_map E R)
    ∙ map_same numbers labels (λ p. edge_at E p) (spots R) (upto (length E)) spots_same a
    ∙ upto_same E a

-- ---- the two forms

pub keeps_of : (E : List (List ℕ)) (R : List Link) → IsJoinTree E R → Keeps E R
keeps_of E R t =
    keeps_from E R t.ordered (λ x.
    let same = degree_same x (link_edges E R) E (edges_same E R t.covers) in
    elim (cases_lt 0 (degree x E)) [
      | inl c ↦ let q = t.one_top x c in omega arith
      | inr c ↦ let q = no_top x E R (omega arith) in omega arith
    ])

pub join_tree_of : (E : List (List ℕ)) (R : List Link) → ((p : ℕ) → places p R ≡ one (nat_lt p (length E))) → IsOrder R
    → Keeps E R → IsJoinTree E R
join_tree_of E R covers ordered keeps =
    record {
      covers = covers;
      ordered = ordered;
      one_top = λ x lies.
          let same = degree_same x (link_edges E R) E (edges_same E R covers) in
          let low = some_top x E R ordered (omega arith) in
          let high = tops_from E R ordered keeps x in
          omega arith;
    }

-- ---- A proposed tree, link by link, from the root on.

-- ---- the other direction of a list

places_append : (p : ℕ) (P Q : List Link) → places p (P ++ Q) ≡ places p P + places p Q
places_append p [] Q = omega arith
places_append p (k ∷ P) Q = omega (arith, places_append p P Q)

below_append : (x : ℕ) (E : List (List ℕ)) (P Q : List Link) → degree x (link_edges E (P ++ Q))
    ≡ degree x (link_edges E P) + degree x (link_edges E Q)
below_append x E [] Q = omega arith
below_append x E (k ∷ P) Q = omega (arith, below_append x E P Q)

reverse_head : (k : Link) (P : List Link) → reverse (k ∷ P) ≡ reverse P ++ k ∷ []
reverse_head k P = reverse-append (k ∷ []) P

pub places_reverse : (p : ℕ) (P : List Link) → places p (reverse P) ≡ places p P
places_reverse p [] = refl
places_reverse p (k ∷ P) = ap (λ (Q : List Link). places p Q) (reverse_head k P)
    ∙ omega (arith, places_append p (reverse P) (k ∷ []), places_reverse p P)

pub below_reverse : (x : ℕ) (E : List (List ℕ)) (P : List Link) → degree x (link_edges E (reverse P))
    ≡ degree x (link_edges E P)
below_reverse x E [] = refl
below_reverse x E (k ∷ P) = ap (λ (Q : List Link). degree x (link_edges E Q)) (reverse_head k P)
    ∙ omega (arith, below_append x E (reverse P) (k ∷ []), below_reverse x E P)

pub reverse_last : (P : List Link) (k : Link) → reverse (P ++ k ∷ []) ≡ k ∷ reverse P
reverse_last P k = reverse-append P (k ∷ [])

-- ---- the links so far

pub record SoFar (E : List (List ℕ)) (P : List Link) : Type 0 where
  pub ordered : IsOrder (reverse P)
  pub keeps : Keeps E (reverse P)
  pub below : (p : ℕ) → 0 < places p P → p < length E

under_of : (k : Link) (R : List Link) → (0 < length R → 0 < places k.parent R) → IsUnder k R
under_of k [] h = tt
under_of k (j ∷ R) h = h (omega arith)

under_says : (k : Link) (R : List Link) → IsUnder k R → 0 < length R → 0 < places k.parent R
under_says k [] h some = absurd (omega arith)
under_says k (j ∷ R) h some = h

over_of : (E : List (List ℕ)) (k : Link) (R : List Link) → 0 < length R → parent_edge E k R ≡ edge_at E k.parent
over_of E k [] some = absurd (omega arith)
over_of E k (j ∷ R) some = refl

below_some : (x : ℕ) (E : List (List ℕ)) (R : List Link) → 0 < degree x (link_edges E R) → 0 < length R
below_some x E [] h = absurd (omega arith)
below_some x E (k ∷ R) h = omega arith

-- a link that fits is put behind them
pub so_far_more : (E : List (List ℕ)) (P : List Link) (k : Link) → SoFar E P → FitsTree E P k → SoFar E (P ++ k ∷ [])
so_far_more E P k s f =
    let n = length-reverse P in
    let turned : k ∷ reverse P ≡ reverse (P ++ k ∷ []) = sym (reverse_last P k) in
    let ordered : IsOrder (k ∷ reverse P) = (
      places_reverse k.edge P ∙ f.fresh,
      under_of k (reverse P)
          (λ some. let q = f.under (omega arith) in let w = places_reverse k.parent P in omega arith),
      s.ordered,
    ) in
    let keeps : Keeps E (k ∷ reverse P) = (
      λ x within below.
          let w = below_reverse x E P in
          let some = below_some x E (reverse P) below in
          let q = f.keeps (omega arith) x within (omega arith) in
          let o : has_bit x (parent_edge E k (reverse P))
          ≡ has_bit x (edge_at E k.parent) = ap (λ (z : List ℕ). has_bit x z) (over_of E k (reverse P) some) in
          omega arith,
      s.keeps,
    ) in
    record {
      ordered = subst (λ (R : List Link). IsOrder R) turned ordered;
      keeps = subst (λ (R : List Link). Keeps E R) turned keeps;
      below = λ p h.
          elim (cases_eq p k.edge) [
            | inl same ↦ let w = f.below in omega arith
            | inr apart ↦
                let here : one (p == k.edge) ≡ 0 = rw (ne_eqb p k.edge apart) refl in
                s.below p (omega (arith, places_append p P (k ∷ [])))
          ];
    }

-- ---- each position once

once_of : (p : ℕ) (R : List Link) → IsOrder R → places p R ≤ 1
once_of p [] ordered = omega arith
once_of p (k ∷ R) ordered =
    elim (cases_eq p k.edge) [
      | inl same ↦
          let none : places p R ≡ 0 = ap (λ (q : ℕ). places q R) same ∙ ordered.0 in
          omega (arith, one_le (p == k.edge))
      | inr apart ↦
          let here : one (p == k.edge) ≡ 0 = rw (ne_eqb p k.edge apart) refl in
          omega (arith, once_of p R ordered.2)
    ]

length_spots : (R : List Link) → length (spots R) ≡ length R
length_spots [] = refl
length_spots (k ∷ R) = omega (arith, length_spots R)

length_upto : (n : ℕ) → length (upto n) ≡ n
length_upto zero = refl
length_upto (suc n) = omega (arith, length_upto n)

-- as many links as edges are a join tree
pub so_far_all : (E : List (List ℕ)) (B : List Link) → SoFar E B → length B ≡ length E → IsJoinTree E (reverse B)
so_far_all E B s same =
    let R = reverse B in
    let most : (p : ℕ) → times numbers p (spots R) ≤ times numbers p (upto (length E)) = λ p.
    let a = times_spots p R in
    let b = times_upto p (length E) in
    let c = once_of p R s.ordered in
    elim (cases_lt 0 (places p R)) [
      | inl some ↦
          let low : p < length E = s.below p (omega (arith, places_reverse p B)) in
          let d : one (nat_lt p (length E)) ≡ 1 = rw (lt-ltb p (length E) low) refl in
          omega arith
      | inr none ↦ omega arith
    ] in
    let size : length (spots R)
    ≡ length (upto (length E)) = omega (arith, length_spots R, length-reverse B, length_upto (length E)) in
    let like = full numbers (spots R) (upto (length E)) most size in
    join_tree_of E R (λ p. sym (times_spots p R) ∙ like p ∙ times_upto p (length E)) s.ordered s.keeps

-- ---- a join tree's links all fit

pub length_of : (E : List (List ℕ)) (B : List Link) → IsJoinTree E (reverse B) → length B ≡ length E
length_of E B t =
    let like : Bag numbers (spots (reverse B)) (upto (length E)) = λ p. times_spots p (reverse B) ∙ t.covers p
    ∙ sym (times_upto p (length E)) in
    omega (
      arith,
      length_same numbers (spots (reverse B)) (upto (length E)) like,
      length_spots (reverse B),
      length-reverse B,
      length_upto (length E),
    )

order_rest : (Q R : List Link) → IsOrder (Q ++ R) → IsOrder R
order_rest [] R h = h
order_rest (k ∷ Q) R h = order_rest Q R h.2

keeps_rest : (E : List (List ℕ)) (Q R : List Link) → Keeps E (Q ++ R) → Keeps E R
keeps_rest E [] R h = h
keeps_rest E (k ∷ Q) R h = keeps_rest E Q R h.1

split_at : (B : List Link) (i : ℕ) (d : Link) → i < length B → (Y : List Link)
    × (reverse B ≡ Y ++ slice_index_or B i d ∷ reverse (take i B))
split_at B i d within =
    let whole : B ≡ (take i B ++ slice_index_or B i d ∷ []) ++ drop (i + 1) B =
    sym (take-append-drop (i + 1) B) ∙ ap (λ (P : List Link). P ++ drop (i + 1) B) (take_more B i d within) in (
      reverse (drop (i + 1) B),
      ap (λ (P : List Link). reverse P) whole ∙ reverse-append (take i B ++ slice_index_or B i d ∷ []) (drop (i + 1) B)
          ∙ ap (λ (P : List Link). reverse (drop (i + 1) B) ++ P) (reverse_last (take i B) (slice_index_or B i d)),
    )

pub all_fit : (E : List (List ℕ)) (B : List Link) (i : ℕ) (d : Link) → i < length B → IsJoinTree E (reverse B)
    → FitsTree E (take i B) (slice_index_or B i d)
all_fit E B i d within t =
    let s = split_at B i d within in
    let k = slice_index_or B i d in
    let P = take i B in
    let ordered : IsOrder (k ∷ reverse P) = order_rest s.0 (k ∷ reverse P)
    (subst (λ (R : List Link). IsOrder R) s.1 t.ordered) in
    let keeps : Keeps E (k ∷ reverse P) = keeps_rest E s.0 (k ∷ reverse P)
    (subst (λ (R : List Link). Keeps E R) s.1 (keeps_of E (reverse B) t)) in
    let n = length-reverse P in
    record {
      below =
          let here : one (k.edge == k.edge) ≡ 1 = rw (eq-eqb k.edge k.edge refl) refl in
          let c = t.covers k.edge in
          let w : places k.edge (reverse B)
          ≡ places k.edge (s.0 ++ k ∷ reverse P) = ap (λ (R : List Link). places k.edge R) s.1 in
          ltb-true k.edge (length E)
          (one_true (nat_lt k.edge (length E)) (omega (arith, places_append k.edge s.0 (k ∷ reverse P))));
      fresh = sym (places_reverse k.edge P) ∙ ordered.0;
      under = λ some. let q = under_says k (reverse P) ordered.1 (omega arith) in let w = places_reverse k.parent P in
          omega arith;
      keeps = λ some x within below.
          let w = below_reverse x E P in
          let q = keeps.0 x within (omega arith) in
          let o : has_bit x (parent_edge E k (reverse P))
          ≡ has_bit x (edge_at E k.parent) = ap (λ (z : List ℕ). has_bit x z) (over_of E k (reverse P) (omega arith)) in
          omega arith;
    }

-- ---- what the code asks

any_step : (b c : Bool) (n : ℕ) → c ≡ nat_lt 0 n → b || c ≡ nat_lt 0 (one b + n)
any_step true c n f = sym (lt-ltb 0 (1 + n) (omega arith))
any_step false c n f =
    let e : 0 + n ≡ n = omega arith in
    rw e f

pub any_places : (p : ℕ) (P : List Link) → list_any (λ k. p == k.edge) P ≡ nat_lt 0 (places p P)
any_places p [] = sym (le-ltb 0 0 (omega arith))
any_places p (k ∷ P) = any_step (p == k.edge) (list_any (λ k. p == k.edge) P) (places p P) (any_places p P)

pub any_some : (p : ℕ) (P : List Link) → list_any (λ k. p == k.edge) P ≡ true → 0 < places p P
any_some p P h = ltb-true 0 (places p P) (sym (any_places p P) ∙ h)

pub any_none : (p : ℕ) (P : List Link) → list_any (λ k. p == k.edge) P ≡ false → places p P ≡ 0
any_none p P h = let q = ltb-false 0 (places p P) (sym (any_places p P) ∙ h) in omega arith

-- the variables seen are those of the links before
has_seen : (x n : ℕ) (seen : List ℕ) → member x seen ≡ nat_lt 0 n → (0 < has_bit x seen → 0 < n)
    × (0 < n → 0 < has_bit x seen)
has_seen x n seen h =
    (λ m. ltb-true 0 n (sym h ∙ one_true (member x seen) m), λ m. from_true (member x seen) (h ∙ lt-ltb 0 n m))

-- the last test: what the edge shares with those before lies in its parent
pub last_test : (E : List (List ℕ)) (P : List Link) (k : Link) (seen : List ℕ) (test : Bool)
    → ((x : ℕ) → member x seen ≡ nat_lt 0 (degree x (link_edges E P)))
    → k.edge < length E → places k.edge P ≡ 0 → 0 < length P → 0 < places k.parent P → test
    ≡ subset (intersection (edge_at E k.edge) seen) (edge_at E k.parent) → IsTrue test ↔ FitsTree E P k
last_test E P k seen test saw below fresh some under is = (
  λ holds. record {
    below = below;
    fresh = fresh;
    under = λ _. under;
    keeps = λ _ x within lies.
        let q = subset_says (intersection (edge_at E k.edge) seen) (edge_at E k.parent) (sym is ∙ holds) x in
        let w = has_intersection x (edge_at E k.edge) seen in
        let s = (has_seen x (degree x (link_edges E P)) seen (saw x)).1 lies in
        omega arith;
  },
  λ f. is ∙ subset_from (intersection (edge_at E k.edge) seen) (edge_at E k.parent) (λ x.
      let w = has_intersection x (edge_at E k.edge) seen in
      let s = has_seen x (degree x (link_edges E P)) seen (saw x) in
      let low = one_le (member x (edge_at E k.edge)) in
      elim (cases_lt 0 (min (has_bit x (edge_at E k.edge)) (has_bit x seen))) [
        | inl m ↦ let q = f.keeps some x (omega arith) (s.0 (omega arith)) in omega arith
        | inr none ↦ omega arith
      ]),
)

pub refused : (P : Type 0) → (P → ⊥) → IsTrue false ↔ P
refused P h = (λ t. absurd cc, λ p. absurd (h p))

-- what an index of the code gave is the edge at the position
pub read_at : (E : List (List ℕ)) (p : ℕ) (e : List ℕ) → p < length E → e ≡ slice_index_or E p e → e ≡ edge_at E p
read_at E p e within is = get_or_read_under E p (length E) e [] is within refl

-- the variables of the links so far and of one more
pub seen_more : (E : List (List ℕ)) (P Q : List Link) (k : Link) (old new : List ℕ) → Q ≡ P ++ k ∷ []
    → ((x : ℕ) → member x old ≡ nat_lt 0 (degree x (link_edges E P)))
    → ((x : ℕ) → member x new ≡ (member x old || member x (edge_at E k.edge))) → (x : ℕ) → member x new
    ≡ nat_lt 0 (degree x (link_edges E Q))
seen_more E P Q k old new is saw union x =
    let more : degree x (link_edges E Q)
    ≡ degree x (link_edges E P) + has_bit x (edge_at E k.edge) = ap (λ (R : List Link). degree x (link_edges E R)) is
    ∙ omega (arith, below_append x E P (k ∷ [])) in
    union x ∙ or_more (member x old) (member x (edge_at E k.edge)) (degree x (link_edges E P))
    (degree x (link_edges E Q))
    (saw x) more
  where
    or_more : (a b : Bool) (m n : ℕ) → a ≡ nat_lt 0 m → n ≡ m + one b → (a || b) ≡ nat_lt 0 n
    or_more true b m n e f = let some = ltb-true 0 m (sym e) in sym (lt-ltb 0 n (omega arith))
    or_more false true m n e f = sym (lt-ltb 0 n (omega arith))
    or_more false false m n e f = let none = ltb-false 0 m (sym e) in sym (le-ltb 0 n (omega arith))

-- the same lists under other names
pub tree_moved : (E D : List (List ℕ)) (B C : List Link) → E ≡ D → B ≡ C → IsJoinTree E (reverse B)
    → IsJoinTree D (reverse C)
tree_moved E D B C e f t = subst (λ (X : List (List ℕ)). IsJoinTree X (reverse C)) e
    (subst (λ (P : List Link). IsJoinTree E (reverse P)) f t)

-- ---- Join trees are trees of labels: below the empty root, or with a given edge as the root.

-- ---- from links to labels

over_counts : (E : List (List ℕ)) (k : Link) (R : List Link) → IsUnder k R
    → 0 < count (parent_edge E k R) ([] ∷ link_edges E R)
over_counts E k [] under = count_self [] []
over_counts E k (j ∷ R) under = omega (arith, place_counts k.parent E (j ∷ R) under)

tree_of : (E : List (List ℕ)) (R : List Link) → IsOrder R → Keeps E R → Tree [] (link_edges E R)
tree_of E [] ordered keeps = tt
tree_of E (k ∷ R) ordered keeps = (
  parent_edge E k R,
  record
      { stands = over_counts E k R ordered.1; keeps = λ x within below. keeps.0 x within (omega arith) },
  tree_of E R
      ordered.2 keeps.1,
)

pub rooted_of : (E : List (List ℕ)) (R : List Link) → IsJoinTree E R → Rooted [] E
rooted_of E R t = record
    { order = link_edges E R; those = edges_same E R t.covers; tree = tree_of E R t.ordered (keeps_of E R t) }

-- an edge followed by the others with any join tree roots the others
pub rooted_at : (F : List ℕ) (E : List (List ℕ)) → HasJoinTree (F ∷ E) → Rooted F E
rooted_at F E h = rerooted F E (rooted_of (F ∷ E) h.0 h.1)

-- ---- from labels to links

-- links for the positions qs
pub record Linked (E : List (List ℕ)) (qs : List ℕ) : Type 0 where
  pub links : List Link
  pub stand : spots links ≡ qs
  pub ordered : IsOrder links
  pub keeps : Keeps E links

linked_places : (E : List (List ℕ)) (qs : List ℕ) (r : Linked E qs) (p : ℕ) → places p r.links ≡ times numbers p qs
linked_places E qs r p = sym (times_spots p r.links) ∙ ap (λ (l : List ℕ). times numbers p l) r.stand

linked_degrees : (E : List (List ℕ)) (qs : List ℕ) (r : Linked E qs) (x : ℕ) → degree x (link_edges E r.links)
    ≡ degree x (map (λ p. edge_at E p) qs)
linked_degrees E qs r x = ap (λ (L : List (List ℕ)). degree x L)
    (edges_map E r.links ∙ ap (λ (l : List ℕ). map (λ p. edge_at E p) l) r.stand)

under_from : (k : Link) (R : List Link) → (R ≡ []) ⊎ (0 < places k.parent R) → IsUnder k R
under_from k [] h = tt
under_from k (j ∷ R) h = elim h [ inl e ↦ absurd cc | inr s ↦ s ]

over_is : (E : List (List ℕ)) (k : Link) (R : List Link) → 0 < places k.parent R → parent_edge E k R
    ≡ edge_at E k.parent
over_is E k [] stands = absurd (omega arith)
over_is E k (j ∷ R) stands = refl

-- any position, if there is one
any_place : (R : List Link) → (q : ℕ) × ((R ≡ []) ⊎ (0 < places q R))
any_place [] = (0, inl refl)
any_place (k ∷ R) = (
  k.edge,
  inr
      (let here : one (k.edge == k.edge) ≡ 1 = rw (eq-eqb k.edge k.edge refl) refl in omega arith),
)

link_on : (E : List (List ℕ)) (k : Link) (qs : List ℕ) (r : Linked E qs) → times numbers k.edge qs ≡ 0
    → IsUnder k r.links
    → ((x : ℕ) → 0 < has_bit x (edge_at E k.edge) → 0 < degree x (map (λ p. edge_at E p) qs)
    → 0 < has_bit x (parent_edge E k r.links)) → Linked E (k.edge ∷ qs)
link_on E k qs r fresh under keep =
    record {
      links = k ∷ r.links;
      stand = ap (λ (l : List ℕ). k.edge ∷ l) r.stand;
      ordered = (linked_places E qs r k.edge ∙ fresh, under, r.ordered);
      keeps = (λ x within below. keep x within (let q = linked_degrees E qs r x in omega arith), r.keeps);
    }

-- the link on a position that has the label f
link_to : (E : List (List ℕ)) (p q : ℕ) (qs : List ℕ) (r : Linked E qs) (f : List ℕ) → times numbers p qs ≡ 0
    → 0 < times numbers q qs → f ≡ edge_at E q
    → ((x : ℕ) → 0 < has_bit x (edge_at E p) → 0 < degree x (map (λ p. edge_at E p) qs) → 0 < has_bit x f)
    → Linked E (p ∷ qs)
link_to E p q qs r f fresh stands is keep =
    let k : Link = record { edge = p; parent = q } in
    let s : 0 < places q r.links = let w = linked_places E qs r q in omega arith in
    link_on E k qs r fresh (under_from k r.links (inr s)) (λ x within below.
    let w : has_bit x f
    ≡ has_bit x (parent_edge E k r.links) = ap (λ (z : List ℕ). has_bit x z) (is ∙ sym (over_is E k r.links s))
    in
    let m = keep x within below in
    omega arith)

link_up : (E : List (List ℕ)) (ps : List ℕ) → ((p : ℕ) → times numbers p ps ≤ 1) → Tree [] (map (λ p. edge_at E p) ps)
    → Linked E ps
link_up E [] once t = record { links = []; stand = refl; ordered = tt; keeps = tt }
link_up E (p ∷ ps) once t =
    let r : Linked E ps = link_up E ps (λ q. let w = once q in omega arith) t.2 in
    let fresh : times numbers p ps ≡ 0 = omega (arith, once p, times_itself numbers p) in
    elim (cases_lt 0 (count t.0 (map (λ p. edge_at E p) ps))) [
      | inl c ↦
          let q = from_map numbers labels (λ p. edge_at E p) t.0 ps c in
          link_to E p q.0 ps r t.0 fresh q.2 q.1 (λ x within below. t.1.keeps x within (omega arith))
      | inr c ↦
          let w = t.1.stands in
          let none : t.0 ≡ [] = same_item labels t.0 [] (omega arith) in
          let a = any_place r.links in
          let k : Link = record { edge = p; parent = a.0 } in
          link_on E k ps r fresh (under_from k r.links a.1) (λ x within below.
          let s : has_bit x t.0 ≡ 0 = ap (λ (z : List ℕ). has_bit x z) none in
          let m = t.1.keeps x within (omega arith) in
          absurd (omega arith))
    ]

pub join_tree_from : (E : List (List ℕ)) → Rooted [] E → HasJoinTree E
join_tree_from E r =
    let positions = drawn numbers labels (λ p. edge_at E p) r.order (upto (length E))
    (λ a. r.those a ∙ sym (upto_same E a)) in
    linked_up positions.0 positions.1 positions.2
  where
    linked_up : (ps : List ℕ) → Bag numbers ps (upto (length E)) → map (λ p. edge_at E p) ps ≡ r.order → HasJoinTree E
    linked_up ps those images =
        let l : Linked E ps = link_up E ps
        (λ p. omega (arith, those p, times_upto p (length E), one_le (nat_lt p (length E))))
        (subst (λ (L : List (List ℕ)). Tree [] L) (sym images) r.tree) in (
          l.links,
          join_tree_of E l.links (λ p. linked_places E ps l p ∙ those p ∙ times_upto p (length E)) l.ordered
              l.keeps,
        )

-- ---- with the edge at position 0 as the root

no_end : (ps : List ℕ) (q : ℕ) → [] ≡ ps ++ q ∷ [] → ⊥
no_end [] q e = absurd cc
no_end (p ∷ ps) q e = absurd cc

root_is : (R : List Link) (ps : List ℕ) (q : ℕ) → spots R ≡ ps ++ q ∷ [] → IsRootedAt q R
root_is [] ps q e = no_end ps q e
root_is (k ∷ []) [] q e = cc
root_is (k ∷ []) (p ∷ ps) q e = absurd (no_end ps q cc)
root_is (k ∷ j ∷ R) [] q e = absurd cc
root_is (k ∷ j ∷ R) (p ∷ ps) q e = root_is (j ∷ R) ps q cc

root_degree : (x : ℕ) (F : List ℕ) (E : List (List ℕ)) (qs : List ℕ)
    → degree x (map (λ p. edge_at (F ∷ E) p) (qs ++ 0 ∷ [])) ≡ degree x (F ∷ map (λ p. edge_at (F ∷ E) p) qs)
root_degree x F E [] = refl
root_degree x F E (q ∷ qs) = let w = root_degree x F E qs in omega arith

-- every position is put before the root's
link_from : (F : List ℕ) (E : List (List ℕ)) (ps : List ℕ) → ((p : ℕ) → times numbers p (ps ++ 0 ∷ []) ≤ 1)
    → Tree F (map (λ p. edge_at (F ∷ E) p) ps) → Linked (F ∷ E) (ps ++ 0 ∷ [])
link_from F E [] once t =
    record {
      links = record { edge = 0; parent = 0 } ∷ [];
      stand = refl;
      ordered = (refl, tt, tt);
      keeps = (λ x within below. absurd (omega arith), tt);
    }
link_from F E (p ∷ ps) once t =
    let r = link_from F E ps (λ q. let w = once q in omega arith) t.2 in
    let fresh : times numbers p (ps ++ 0 ∷ []) ≡ 0 = omega (arith, once p, times_itself numbers p) in
    elim (cases_lt 0 (count t.0 (map (λ p. edge_at (F ∷ E) p) ps))) [
      | inl c ↦
          let q = from_map numbers labels (λ p. edge_at (F ∷ E) p) t.0 ps c in
          link_to (F ∷ E) p q.0 (ps ++ 0 ∷ []) r t.0 fresh (omega (arith, q.2, times_append numbers q.0 ps (0 ∷ [])))
          q.1
          (λ x within below. let w = root_degree x F E ps in t.1.keeps x within (omega arith))
      | inr c ↦
          let w = t.1.stands in
          let is_root : t.0 ≡ F = same_item labels t.0 F (omega arith) in
          link_to (F ∷ E) p 0 (ps ++ 0 ∷ []) r t.0 fresh
          (omega (arith, times_append numbers 0 ps (0 ∷ []), times_itself numbers 0)) is_root
          (λ x within below. let w = root_degree x F E ps in t.1.keeps x within (omega arith))
    ]

-- the positions after the first, and then the first
after_first : (n : ℕ) → map (λ p. suc p) (upto n) ++ 0 ∷ [] ≡ upto (suc n)
after_first zero = refl
after_first (suc n) = ap (λ (l : List ℕ). suc n ∷ l) (after_first n)

times_after : (p n : ℕ) → times numbers p (map (λ p. suc p) (upto n) ++ 0 ∷ []) ≡ one (nat_lt p (suc n))
times_after p n = ap (λ (l : List ℕ). times numbers p l) (after_first n) ∙ times_upto p (suc n)

edges_after : (F : List ℕ) (E : List (List ℕ)) (n : ℕ) → map (λ p. edge_at (F ∷ E) p) (map (λ p. suc p) (upto n))
    ≡ map (λ p. edge_at E p) (upto n)
edges_after F E zero = refl
edges_after F E (suc n) = ap (λ (L : List (List ℕ)). edge_at E n ∷ L) (edges_after F E n)

pub tree_at : (F : List ℕ) (E : List (List ℕ)) → Rooted F E → HasJoinTreeFrom F E
tree_at F E r =
    let after = map (λ p. suc p) (upto (length E)) in
    let positions = drawn numbers labels (λ p. edge_at (F ∷ E) p) r.order after
    (λ a. r.those a ∙ sym (upto_same E a)
    ∙ sym (ap (λ (L : List (List ℕ)). count a L) (edges_after F E (length E)))) in
    linked_from positions.0 positions.1 positions.2
  where
    linked_from : (ps : List ℕ) → Bag numbers ps (map (λ p. suc p) (upto (length E))) → map (λ p. edge_at (F ∷ E) p) ps
        ≡ r.order → HasJoinTreeFrom F E
    linked_from ps those images =
        let covers : (p : ℕ) → times numbers p (ps ++ 0 ∷ []) ≡ one (nat_lt p (suc (length E))) = λ p.
        omega (
          arith,
          those p,
          times_append numbers p ps (0 ∷ []),
          times_append numbers p
              (map (λ p. suc p) (upto (length E))) (0 ∷ []),
          times_after p (length E),
        ) in
        let l = link_from F E ps (λ p. omega (arith, covers p, one_le (nat_lt p (suc (length E)))))
        (subst (λ (L : List (List ℕ)). Tree F L) (sym images) r.tree) in (
          l.links,
          join_tree_of (F ∷ E) l.links (λ p. linked_places (F ∷ E) (ps ++ 0 ∷ []) l p ∙ covers p) l.ordered
              l.keeps,
          root_is l.links ps 0 l.stand,
        )

-- a query is free-connex where its edges have a tree below the empty root and one below its head
pub free_connex_from : (E : List (List ℕ)) (F : List ℕ) → Rooted [] E → Rooted F E → IsFreeConnex E F
free_connex_from E F r s = (join_tree_from E r, tree_at F E s)

-- if the head followed by the edges has any join tree, then it has one with the head as its root
pub join_tree_turned : (F : List ℕ) (E : List (List ℕ)) → HasJoinTree (F ∷ E) → HasJoinTreeFrom F E
join_tree_turned F E h = tree_at F E (rooted_at F E h)
