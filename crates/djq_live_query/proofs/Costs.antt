-- How much an update of a registered query counts, measured by its atoms and variables.
use Rattle.std.proofs.Common.{◌≡◌, ℕ, zero, suc, ◌+◌, ◌*◌, ◌<◌, ◌≤◌, true, List, [], ◌∷◌, length, ap, sym, subst, inl}
use Rattle.std.proofs.Common.{inr, arith, mul-le-mul_left, mul-le-mul_right}
use Rattle.std.specs.Prelude.{◌==◌, None, Some}
use Rattle.std.specs.List.{list_any}
use Rattle.std.proofs.lemmas.Bool.{cases_eq, eqb-true, false≢true, or_cases}
use Rattle.std.proofs.lemmas.List.{length-map}
use Rattle.std.proofs.lemmas.Option.{slice_get_within}
use Rattle.djq_hypergraph.specs.Flat.{IsFlat}
use Rattle.djq_hypergraph.specs.Hypergraph.{numbers_below}
use Rattle.djq_model.specs.declared.query.Query.{Query}
use Rattle.djq_model.specs.declared.query.Term.{Term}
use Rattle.djq_model.specs.declared.query.Term.TheVariants.{Variable as Named, Hole, Constant}
use Rattle.djq_index.specs.Table.{Table}
use Rattle.djq_tree.specs.Tree.{Tree}
use Rattle.djq_tree.proofs.Nodes.{all_trims_of}
use Rattle.djq_plan.proofs.FlatQueries.{equal_meets}
use Rattle.djq_plan.proofs.GrowthSteps.{length_below}
use Rattle.djq_protocol.specs.Hypergraph.{edges_of, head_of}
use Rattle.djq_protocol.specs.Variables.{Label}
use Rattle.djq_reduct.specs.Reducts.{Reducts}
use Rattle.djq_reduct.specs.Tables.{entries_at}
use Rattle.djq_database.specs.Catalog.{Catalog}
use Rattle.djq_propagate.specs.Updates.{HasAtMost, paths}
use Rattle.djq_propagate.proofs.Costs.{part}
use Rattle.djq_query.specs.declared.numbered.Variable.{Variable}
use Rattle.djq_query.specs.declared.numbered.NumberedTerm.{NumberedTerm}
use Rattle.djq_query.specs.declared.numbered.NumberedTerm.TheVariants.{Variable as Number, Constant as Fixed}
use Rattle.djq_query.specs.declared.numbered.NumberedAtom.{NumberedAtom}
use Rattle.djq_query.specs.Numbered.{Numbered, labels, is_number}
use Rattle.djq_query.specs.Meaning.{TermIsShown, TermsAreShown}
use Rattle.djq_query.specs.Pattern.{Shape}
use Rattle.djq_binder.specs.Asked.{IsAsked}
use Rattle.djq_binder.proofs.Hypergraphs.{below_has}
use Rattle.djq_leaves.specs.Leaves.{IsOver}
use Rattle.djq_leaves.specs.Stepping.{GrowsByOne, CountsLeaves, BoundsLeaf, atoms_below}
use Rattle.djq_leaves.specs.Batching.{GrowsBy, CountsMany, CountsFlatMany, CountsGiven, CountsGone}
use Rattle.djq_leaves.proofs.LeafRows.{InAtom, leaf_with, leaf_atom}
use Rattle.djq_leaves.proofs.LeafUpdates.{part_few}
use Rattle.djq_leaves.proofs.Costs.{one_larger, all_grown_crowding as many_grown, all_grown}
use Rattle.djq_live_query.specs.Live.{Live, IsKept, IsKeptSomewhere}
use Rattle.djq_live_query.specs.Updating.{CountsBatchAt, CountsUpdate, CountsFlat, CountsFlatRows}
use Rattle.djq_live_query.specs.Updating.{FlatMeetsAreEqual, atoms_over}
use Rattle.djq_live_query.specs.Updating.{update_bound, flat_bound}
use Rattle.djq_live_query.proofs.Catalogs.{atom_at}

-- ---- paths are no longer than there are atoms and variables

number_low : (ls : List Label) (t : Term) (n : NumberedTerm) (x : ℕ) → TermIsShown ls t n
    → is_number x n ≡ true → x < length ls
number_low ls (Named y) (Number k) x shown is =
    let low = slice_get_within ls k (Some y) shown in
    let e = eqb-true x k is in
    omega arith
number_low ls Hole (Number k) x shown is =
    let low = slice_get_within ls k None shown in
    let e = eqb-true x k is in
    omega arith
number_low ls (Constant v) (Number k) x shown is = absurd shown
number_low ls (Named y) (Fixed w) x shown is = absurd shown
number_low ls Hole (Fixed w) x shown is = absurd shown
number_low ls (Constant v) (Fixed w) x shown is = absurd (false≢true is)

numbers_low : (ls : List Label) (ts : List Term) (ns : List NumberedTerm) (x : ℕ)
    → TermsAreShown ls ts ns → list_any (is_number x) ns ≡ true → x < length ls
numbers_low ls [] [] x shown has = absurd (false≢true has)
numbers_low ls [] (n ∷ ns) x shown has = absurd shown
numbers_low ls (t ∷ ts) [] x shown has = absurd shown
numbers_low ls (t ∷ ts) (n ∷ ns) x shown has =
    elim (or_cases (is_number x n) (list_any (is_number x) ns) has) [
      | inl here ↦ number_low ls t n x shown.0 here
      | inr there ↦ numbers_low ls ts ns x shown.1 there
    ]

variable_low : (c : Catalog) (q : Query) (n : Numbered) (x : ℕ) → IsAsked c q n → InAtom n x
    → x < length n.variables
variable_low c q n x h at =
    let a = atom_at c n.variables q.atoms n.atoms at.place at.atom h.atoms at.at in
    let low = numbers_low (labels n.variables) a.atom.terms at.atom.terms x a.is.shown at.has in
    let long = length-map n.variables (λ (v : Variable). v.name) in
    omega arith

-- each trim drops a variable that no other one drops
few_paths : (c : Catalog) (q : Query) (n : Numbered) (ps : List Shape) (r : Reducts)
    → IsOver c q n ps r → paths r.tree ≤ length n.atoms + length n.variables
few_paths c q n ps r h =
    let v = length n.variables in
    let few = all_trims_of r.tree h.reducts.family.is_tree (numbers_below v)
    (λ x d. below_has v x
    (variable_low c q n x h.asked (leaf_atom c q n ps r x h (leaf_with r.tree x d)))) in
    let long = length_below v in
    let leaves = h.long in
    omega arith

path_bounds : (c : Catalog) (l : Live) (n : ℕ) → IsKept c l
    → 16 * (paths (l.reducts).tree * (n + 1)) ≤ update_bound l n
path_bounds c l n h =
    let few = few_paths c l.query l.numbered l.patterns l.reducts h.over in
    let product = mul-le-mul_right (n + 1) few in
    omega arith

update_bounds : (c : Catalog) (l : Live) (n : ℕ) → IsKept c l
    → BoundsLeaf (l.reducts).tree n (update_bound l n)
update_bounds c l n h = inl (path_bounds c l n h)

-- the meets of a flat query's tree are equal
pub flat_meets : FlatMeetsAreEqual
flat_meets c l h flat = equal_meets (edges_of l.query) (head_of l.query) (l.reducts).tree h.named
    h.over.reducts.family.is_tree flat

flat_bounds : (c : Catalog) (l : Live) (n : ℕ) → IsKept c l
    → IsFlat (edges_of l.query) (head_of l.query) → BoundsLeaf (l.reducts).tree n (flat_bound l)
flat_bounds c l n h flat =
    let few = few_paths c l.query l.numbered l.patterns l.reducts h.over in
    inr (flat_meets c l h flat, omega arith)

-- some number bounds the tuples of each leaf
length_part : (ts : List Table) (j k : ℕ) → j < k → length (entries_at ts j) ≤ part ts k
unfolding part
length_part ts j zero low = absurd (omega arith)
length_part ts j (suc k) low =
    elim (cases_eq j k) [
      | inl here ↦ (let e = ap (λ (i : ℕ). length (entries_at ts i)) here in omega arith)
      | inr apart ↦ (let r = length_part ts j k (omega arith) in omega arith)
    ]

all_most : (r : Reducts) → HasAtMost r (part r.tables r.tree.leaves)
all_most r = record { each = λ j low. length_part r.tables j r.tree.leaves low }

-- ---- what a call counts

below_over : (l : Live) (at : ℕ) (atoms : List NumberedAtom) (k : ℕ)
    → atoms ≡ (l.numbered).atoms → atoms_below at atoms k ≤ atoms_over l at
below_over l at atoms k e =
    subst (λ (a : List NumberedAtom). atoms_below at a k ≤ atoms_over l at) (sym e)
    (part_few (λ (a : NumberedAtom). a.relation == at) (l.numbered).atoms k)

sum_all : (j o u x y : ℕ) → j ≤ o → y ≤ x + j * u → y ≤ x + 1 * (o * u)
sum_all j o u x y few first =
    let product = mul-le-mul_right u few in
    omega arith

pub counts_all : (l self : Live) (at : ℕ) (atoms : List NumberedAtom) (k x y : ℕ) → l ≡ self
    → atoms ≡ (l.numbered).atoms → IsKeptSomewhere l
    → CountsLeaves l.reducts (atoms_below at atoms k) x y → CountsUpdate 1 self at x y
counts_all l self at atoms k x y e a kept counts =
    subst (λ (z : Live). CountsUpdate 1 z at x y) e
    (λ n few. sum_all (atoms_below at atoms k) (atoms_over l at) (update_bound l n) x y
    (below_over l at atoms k a)
    (counts n (update_bound l n) few (update_bounds kept.0 l n kept.1)))

pub counts_flat : (l self : Live) (at : ℕ) (atoms : List NumberedAtom) (k x y : ℕ) → l ≡ self
    → atoms ≡ (l.numbered).atoms → IsKeptSomewhere l
    → CountsLeaves l.reducts (atoms_below at atoms k) x y → CountsFlat 1 self at x y
counts_flat l self at atoms k x y e a kept counts =
    subst (λ (z : Live). CountsFlat 1 z at x y) e
    (λ flat.
    let n = part (l.reducts).tables (l.reducts).tree.leaves in
    sum_all (atoms_below at atoms k) (atoms_over l at) (flat_bound l) x y
    (below_over l at atoms k a)
    (counts n (flat_bound l) (all_most l.reducts) (flat_bounds kept.0 l n kept.1 flat)))

-- giving back counts at most twice what taking in does, since a leaf has one tuple more
twice_bounds : (t : Tree) (n b : ℕ) → BoundsLeaf t n b → BoundsLeaf t (n + 1) (2 * b)
twice_bounds t n b h =
    elim h [
      | inl linear ↦ inl (twice (paths t) n linear)
      | inr even ↦ inr (even.0, let d = even.1 in omega arith)
    ]
  where
    twice : (p m : ℕ) → 16 * (p * (m + 1)) ≤ b → 16 * (p * (m + 1 + 1)) ≤ 2 * b
    twice p m bounds =
        let a : p * (m + 1) ≡ p * m + p = omega arith in
        let d : p * (m + 1 + 1) ≡ p * m + 2 * p = omega arith in
        omega arith

sum_back : (j o u x y z : ℕ) → j + 1 ≤ o → y ≤ x + (j + 2) * u → z ≤ y + j * (2 * u)
    → z ≤ x + 3 * (o * u)
sum_back j o u x y z few first second =
    let p = mul-le-mul_right u few in
    let e : (j + 2) * u ≡ j * u + 2 * u = omega arith in
    let f : j * (2 * u) ≡ 2 * (j * u) = omega arith in
    let g : (j + 1) * u ≡ j * u + u = omega arith in
    omega arith

sum_twice : (j o u x y z : ℕ) → j + 1 ≤ o → y ≤ x + (j + 2) * u → z ≤ y + j * u
    → z ≤ x + 2 * (o * u)
sum_twice j o u x y z few first second =
    let p = mul-le-mul_right u few in
    let e : (j + 2) * u ≡ j * u + 2 * u = omega arith in
    let g : (j + 1) * u ≡ j * u + u = omega arith in
    omega arith

pub counts_back : (l self : Live) (s : Reducts) (at : ℕ) (atoms : List NumberedAtom)
    (k x y z : ℕ) → l ≡ self → atoms ≡ (l.numbered).atoms → IsKeptSomewhere l
    → s.tree ≡ (l.reducts).tree → GrowsByOne l.reducts s
    → atoms_below at atoms k + 1 ≤ atoms_below at atoms (length atoms)
    → CountsLeaves l.reducts (atoms_below at atoms k + 2) x y
    → CountsLeaves s (atoms_below at atoms k) y z → CountsUpdate 3 self at x z
counts_back l self s at atoms k x y z e a kept tree grows more first second =
    subst (λ (v : Live). CountsUpdate 3 v at x z) e
    (λ n few.
    let u = update_bound l n in
    let bounds = update_bounds kept.0 l n kept.1 in
    let over = below_over l at atoms (length atoms) a in
    sum_back (atoms_below at atoms k) (atoms_over l at) u x y z (omega arith)
    (first n u few bounds)
    (second (n + 1) (2 * u) (all_grown l.reducts s n tree grows few)
    (subst (λ (t : Tree). BoundsLeaf t (n + 1) (2 * u)) (sym tree)
    (twice_bounds (l.reducts).tree n u bounds))))

-- over equal meets giving back counts no more than taking in does
pub flat_back : (l self : Live) (s : Reducts) (at : ℕ) (atoms : List NumberedAtom)
    (k x y z : ℕ) → l ≡ self → atoms ≡ (l.numbered).atoms → IsKeptSomewhere l
    → s.tree ≡ (l.reducts).tree → GrowsByOne l.reducts s
    → atoms_below at atoms k + 1 ≤ atoms_below at atoms (length atoms)
    → CountsLeaves l.reducts (atoms_below at atoms k + 2) x y
    → CountsLeaves s (atoms_below at atoms k) y z → CountsFlat 2 self at x z
flat_back l self s at atoms k x y z e a kept tree grows more first second =
    subst (λ (v : Live). CountsFlat 2 v at x z) e
    (λ flat.
    let n = part (l.reducts).tables (l.reducts).tree.leaves in
    let u = flat_bound l in
    let few = all_most l.reducts in
    let over = below_over l at atoms (length atoms) a in
    sum_twice (atoms_below at atoms k) (atoms_over l at) u x y z (omega arith)
    (first n u few (flat_bounds kept.0 l n kept.1 flat))
    (second (n + 1) u (all_grown l.reducts s n tree grows few)
    (subst (λ (t : Tree). BoundsLeaf t (n + 1) u) (sym tree)
    (flat_bounds kept.0 l (n + 1) kept.1 flat))))

-- ---- many rows at once

pub counts_batch : (l self : Live) (at : ℕ) (atoms : List NumberedAtom) (k more x y : ℕ)
    → l ≡ self → atoms ≡ (l.numbered).atoms → IsKeptSomewhere l
    → CountsMany more l.reducts (atoms_below at atoms k) x y → CountsBatchAt more 1 self at x y
counts_batch l self at atoms k more x y e a kept counts =
    subst (λ (z : Live). CountsBatchAt more 1 z at x y) e
    (λ n few. sum_all (atoms_below at atoms k) (atoms_over l at) (update_bound l (n + more)) x y
    (below_over l at atoms k a)
    (counts n (update_bound l (n + more)) few (path_bounds kept.0 l (n + more) kept.1)))

pub batch_back : (l self : Live) (s : Reducts) (at : ℕ) (atoms : List NumberedAtom)
    (k more x y z : ℕ) → l ≡ self → atoms ≡ (l.numbered).atoms → IsKeptSomewhere l
    → s.tree ≡ (l.reducts).tree → GrowsBy more l.reducts s
    → atoms_below at atoms k + 1 ≤ atoms_below at atoms (length atoms)
    → CountsMany more l.reducts (atoms_below at atoms k + 2) x y
    → CountsGiven s (atoms_below at atoms k) y z → CountsBatchAt more 2 self at x z
batch_back l self s at atoms k more x y z e a kept tree grows left first second =
    subst (λ (v : Live). CountsBatchAt more 2 v at x z) e
    (λ n few.
    let u = update_bound l (n + more) in
    let bounds = path_bounds kept.0 l (n + more) kept.1 in
    let over = below_over l at atoms (length atoms) a in
    let most = many_grown more l.reducts s n tree grows few in
    sum_twice (atoms_below at atoms k) (atoms_over l at) u x y z (omega arith)
    (first n u few bounds)
    (second (n + more + 1) u (one_larger s (n + more) most)
    (subst (λ (t : Tree). 16 * (paths t * (n + more + 1)) ≤ u) (sym tree) bounds)))

-- ---- many rows go at once

pub counts_gone : (l self : Live) (at : ℕ) (atoms : List NumberedAtom) (rows k x y : ℕ) → l ≡ self
    → atoms ≡ (l.numbered).atoms → IsKeptSomewhere l
    → CountsGone rows l.reducts (atoms_below at atoms k) x y → CountsUpdate 1 self at x y
counts_gone l self at atoms rows k x y e a kept counts =
    subst (λ (z : Live). CountsUpdate 1 z at x y) e
    (λ n few. sum_all (atoms_below at atoms k) (atoms_over l at) (update_bound l n) x y
    (below_over l at atoms k a)
    (counts n (update_bound l n) few (inl (path_bounds kept.0 l n kept.1))))

scaled : (p q : ℕ) → p * (16 * q) ≡ 16 * (p * q)
scaled p q = omega arith

-- b bounds what so many rows of a flat query count at a leaf
rows_bound : (c : Catalog) (l : Live) (rows : ℕ) → IsKept c l
    → 16 * (rows * paths (l.reducts).tree) ≤ rows * flat_bound l
rows_bound c l rows h =
    let few = few_paths c l.query l.numbered l.patterns l.reducts h.over in
    let most = mul-le-mul_left rows few in
    let turn = scaled rows (length (l.numbered).atoms + length (l.numbered).variables) in
    omega arith

pub flat_gone : (l self : Live) (at : ℕ) (atoms : List NumberedAtom) (rows k x y : ℕ) → l ≡ self
    → atoms ≡ (l.numbered).atoms → IsKeptSomewhere l
    → CountsGone rows l.reducts (atoms_below at atoms k) x y → CountsFlatRows rows self at x y
flat_gone l self at atoms rows k x y e a kept counts =
    subst (λ (z : Live). CountsFlatRows rows z at x y) e
    (λ flat.
    let u = rows * flat_bound l in
    let sum = sum_all (atoms_below at atoms k) (atoms_over l at) u x y (below_over l at atoms k a)
    (counts (part (l.reducts).tables (l.reducts).tree.leaves) u (all_most l.reducts)
    (inr (flat_meets kept.0 l kept.1 flat, rows_bound kept.0 l rows kept.1))) in
    omega arith)

pub flat_come : (l self : Live) (at : ℕ) (atoms : List NumberedAtom) (rows k x y : ℕ) → l ≡ self
    → atoms ≡ (l.numbered).atoms → IsKeptSomewhere l
    → CountsFlatMany rows l.reducts (atoms_below at atoms k) x y → CountsFlatRows rows self at x y
flat_come l self at atoms rows k x y e a kept counts =
    subst (λ (z : Live). CountsFlatRows rows z at x y) e
    (λ flat.
    let u = rows * flat_bound l in
    let sum = sum_all (atoms_below at atoms k) (atoms_over l at) u x y (below_over l at atoms k a)
    (counts u (flat_meets kept.0 l kept.1 flat) (rows_bound kept.0 l rows kept.1)) in
    omega arith)
