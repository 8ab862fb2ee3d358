-- The tuples of many rows, and what they do to leaves.
use Rattle.std.proofs.Common.{◌≡◌, ◌≢◌, ℕ, ◌+◌, ◌<◌, ◌≤◌, List, length, refl, ap, sym, subst, ◌∙◌, inl, inr, arith}
use Rattle.std.proofs.Common.{zero, suc, [], ◌∷◌, ◌++◌, take, ◌⊎◌, length-append}
use Rattle.std.specs.Prelude.{Some, slice_get, Option, None, Contains, slice_index_or, option_map}
use Rattle.std.proofs.lemmas.Bool.{cases_eq, cases_lt}
use Rattle.std.proofs.lemmas.Option.{same_Some, slice_get_within, none-some, slice_get-map}
use Rattle.std.proofs.lemmas.List.{take_more, take_all, length-map}
use Rattle.djq_index.specs.Entries.{Entry, count_of}
use Rattle.djq_index.specs.Tuple.{same}
use Rattle.djq_index.proofs.Tuples.{same_cases, is_same, one_true, one_other, one_le}
use Rattle.djq_tree.specs.Tree.{Tree}
use Rattle.djq_tree.specs.Labels.{label_at}
use Rattle.djq_union.proofs.Merges.{none_contained}
use Rattle.djq_reduct.specs.Tables.{entries_at}
use Rattle.djq_reduct.specs.Reducts.{Reducts, IsReducts}
use Rattle.djq_reduct.specs.Marks.{IsBare}
use Rattle.djq_propagate.specs.Updates.{HasKept}
use Rattle.djq_propagate.specs.Batches.{times, AreNew, AreThere, HasGainedAll, HasLostAll}
use Rattle.djq_propagate.proofs.Batches.{times-append, next_there}
use Rattle.djq_propagate.proofs.Costs.{length_even}
use Rattle.djq_propagate.proofs.Updates.{times_one}
use Rattle.djq_query.specs.declared.numbered.NumberedAtom.{NumberedAtom}
use Rattle.djq_query.specs.Pattern.{Shape}
use Rattle.djq_binder.proofs.EdgeOrder.{in_cons, in_rest, in_left, in_last, in_pushed}
use Rattle.djq_leaves.specs.Changes.{GainsAll, LosesAll, KeepsTuples}
use Rattle.djq_leaves.specs.Stepping.{HasMore, ChangesAt, ChangesBelow, HoldBelow}
use Rattle.djq_leaves.specs.Batching.{AreDistinct, AreTuplesOf, AreTuples, HasFew, CanTake, GainsTuples, LosesTuples}
use Rattle.djq_leaves.specs.Batching.{row_tuples, batch_tuples}
use Rattle.djq_leaves.proofs.LeafRows.{gives_once, gives_same, one_as, has_at}
use Rattle.djq_leaves.proofs.LeafUpdates.{IsOnly, got}

-- ---- Leaves that change one after another.

-- what holds the same before and after may stand in a change's place
abbrev pub IsStable : {A : Type 0} → (A → List Entry → List Entry → Type 0) → Type 0
IsStable {A} Changes = (p : A) (ds es fs gs : List Entry) → KeepsTuples ds es → Changes p es fs
    → KeepsTuples fs gs → Changes p ds gs

pub gains_stable : (rows : List (List ℕ)) → IsStable (λ p old new. GainsAll p rows old new)
gains_stable rows p ds es fs gs early g late = λ u.
    let a = early u in
    let b = late u in (
      λ there.
          elim ((g u).0 (omega arith)) [
            | inl before ↦ inl (omega arith)
            | inr is ↦ inr is
          ],
      λ either.
          elim either [
            | inl before ↦ (let k = (g u).1 (inl (omega arith)) in omega arith)
            | inr is ↦ (let k = (g u).1 (inr is) in omega arith)
          ],
    )

pub loses_stable : (rows : List (List ℕ)) → IsStable (λ p old new. LosesAll p rows old new)
loses_stable rows p ds es fs gs early g late = λ u.
    let a = early u in
    let b = late u in (
      λ there.
          let k = (g u).0 (omega arith) in
          let l = k.0 in
          (omega arith, k.1),
      λ both.
          let l = both.0 in
          let k = (g u).1 (omega arith, both.1) in
          omega arith,
    )

keeps_itself : (es : List Entry) → KeepsTuples es es
keeps_itself es u = refl

pub keeps_both : (es fs gs : List Entry) → KeepsTuples es fs → KeepsTuples fs gs → KeepsTuples es gs
keeps_both es fs gs h k u = k u ∙ h u

pub below_none : {A : Type 0} (Changes : A → List Entry → List Entry → Type 0) (at : ℕ)
    (atoms : List NumberedAtom) (ps : List A) (r : Reducts) → IsReducts r → IsBare r.tables
    → ChangesBelow Changes at atoms ps 0 r r
below_none {A} Changes at atoms ps r sound bare = record {
  sound = sound;
  tree = refl;
  bare = bare;
  over = λ j m p low e f is. absurd (omega arith);
  others = λ j m e out u. refl;
}

pub below_skip : {A : Type 0} (Changes : A → List Entry → List Entry → Type 0) (at : ℕ)
    (atoms : List NumberedAtom) (ps : List A) (k : ℕ) (m : NumberedAtom) (r s : Reducts)
    → slice_get atoms k ≡ Some m → m.relation ≢ at → ChangesBelow Changes at atoms ps k r s
    → ChangesBelow Changes at atoms ps (k + 1) r s
below_skip {A} Changes at atoms ps k m r s e out h = record {
  sound = h.sound;
  tree = h.tree;
  bare = h.bare;
  over = λ j n p low f g is.
      elim (cases_eq j k) [
        | inl here ↦ absurd
            (out
            (ap (λ (a : NumberedAtom). a.relation)
            (same_Some m n (sym e ∙ ap (λ (i : ℕ). slice_get atoms i) (sym here) ∙ f)) ∙ is))
        | inr apart ↦ h.over j n p (omega arith) f g is
      ];
  others = λ j n f other. h.others j n f (λ low. other (omega arith));
}

low_in : (atoms : List NumberedAtom) (r s : Reducts) (j : ℕ) (m : NumberedAtom)
    → r.tree.leaves ≡ length atoms → s.tree ≡ r.tree → slice_get atoms j ≡ Some m
    → j < s.tree.leaves
low_in atoms r s j m long e f =
    let low = slice_get_within atoms j m f in
    subst (λ (t : Tree). j < t.leaves) (sym e) (omega arith)

pub below_step : {A : Type 0} (Changes : A → List Entry → List Entry → Type 0) (at : ℕ)
    (atoms : List NumberedAtom) (ps : List A) (k : ℕ) (m : NumberedAtom) (p : A)
    (r s t : Reducts) → IsStable Changes → r.tree.leaves ≡ length atoms
    → slice_get atoms k ≡ Some m → slice_get ps k ≡ Some p → m.relation ≡ at
    → ChangesBelow Changes at atoms ps k r s → ChangesAt Changes p k s t
    → ChangesBelow Changes at atoms ps (k + 1) r t
below_step {A} Changes at atoms ps k m p r s t stable long e f on h step = record {
  sound = step.sound;
  tree = step.tree ∙ h.tree;
  bare = step.bare;
  over = λ j n q low a b is.
      elim (cases_eq j k) [
        | inl here ↦
            let is_one : p ≡ q = same_Some p q
            (sym f ∙ ap (λ (i : ℕ). slice_get ps i) (sym here) ∙ b) in
            subst (λ (i : ℕ). Changes q (entries_at r.tables i) (entries_at t.tables i)) (sym here)
            (subst (λ (x : A). Changes x (entries_at r.tables k) (entries_at t.tables k)) is_one
            (stable p (entries_at r.tables k) (entries_at s.tables k) (entries_at t.tables k)
            (entries_at t.tables k) (h.others k m e (λ l. absurd (omega arith))) step.leaf
            (keeps_itself (entries_at t.tables k))))
        | inr apart ↦
            stable q (entries_at r.tables j) (entries_at r.tables j) (entries_at s.tables j)
            (entries_at t.tables j) (keeps_itself (entries_at r.tables j))
            (h.over j n q (omega arith) a b is)
            (step.others j (low_in atoms r s j n long h.tree a) apart)
      ];
  others = λ j n a other.
      elim (cases_eq j k) [
        | inl here ↦ absurd
            (other (omega arith)
            (ap (λ (x : NumberedAtom). x.relation)
            (same_Some n m (sym a ∙ ap (λ (i : ℕ). slice_get atoms i) here ∙ e)) ∙ on))
        | inr apart ↦
            keeps_both (entries_at r.tables j) (entries_at s.tables j) (entries_at t.tables j)
            (h.others j n a (λ low. other (omega arith)))
            (step.others j (low_in atoms r s j n long h.tree a) apart)
      ];
}

pub below_kept : {A : Type 0} (Changes : A → List Entry → List Entry → Type 0) (at : ℕ)
    (atoms : List NumberedAtom) (ps : List A) (k : ℕ) (r s t : Reducts) → IsStable Changes
    → ChangesBelow Changes at atoms ps k r s → HasKept s t
    → ChangesBelow Changes at atoms ps k r t
below_kept {A} Changes at atoms ps k r s t stable h kept = record {
  sound = kept.sound;
  tree = kept.tree ∙ h.tree;
  bare = kept.bare;
  over = λ j m p low e f is.
      stable p (entries_at r.tables j) (entries_at r.tables j) (entries_at s.tables j)
      (entries_at t.tables j) (keeps_itself (entries_at r.tables j)) (h.over j m p low e f is)
      (kept.tables.tuples j);
  others = λ j m e out.
      keeps_both (entries_at r.tables j) (entries_at s.tables j) (entries_at t.tables j)
      (h.others j m e out) (kept.tables.tuples j);
}

-- ---- leaves still to come

pub leaves_stay : {A : Type 0} (Changes : A → List Entry → List Entry → Type 0)
    (Holds : A → List Entry → Type 0) (at : ℕ) (atoms : List NumberedAtom) (ps : List A)
    (k n : ℕ) (m : NumberedAtom) (p : A) (r s : Reducts)
    → ((es fs : List Entry) → KeepsTuples es fs → Holds p es → Holds p fs) → k < n
    → HoldBelow Holds at atoms ps n r → ChangesBelow Changes at atoms ps k r s
    → slice_get atoms k ≡ Some m → slice_get ps k ≡ Some p → m.relation ≡ at
    → Holds p (entries_at s.tables k)
leaves_stay Changes Holds at atoms ps k n m p r s stays low holds h e f on =
    stays (entries_at r.tables k) (entries_at s.tables k)
    (h.others k m e (λ l. absurd (omega arith))) (holds.each k m p low e f on)

-- ---- more and more tuples, and fewer and fewer

pub gains_more : (rows : List (List ℕ)) (p : Shape) (k : ℕ) (s t : Reducts)
    → ChangesAt (λ q es fs. GainsAll q rows es fs) p k s t → HasMore s t
gains_more rows p k s t step = record {
  tree = step.tree;
  more = λ j u low there.
      elim (cases_eq j k) [
        | inl here ↦
            let at = subst (λ (i : ℕ). 0 < count_of (entries_at s.tables i) u) here there in
            subst (λ (i : ℕ). 0 < count_of (entries_at t.tables i) u) (sym here)
            ((step.leaf u).1 (inl at))
        | inr apart ↦ (let e = step.others j low apart u in omega arith)
      ];
}

pub loses_more : (rows : List (List ℕ)) (p : Shape) (k : ℕ) (s t : Reducts)
    → ChangesAt (λ q es fs. LosesAll q rows es fs) p k s t → HasMore t s
loses_more rows p k s t step = record {
  tree = sym step.tree;
  more = λ j u low there.
      let lower = subst (λ (x : Tree). j < x.leaves) step.tree low in
      elim (cases_eq j k) [
        | inl here ↦
            let at = subst (λ (i : ℕ). 0 < count_of (entries_at t.tables i) u) here there in
            subst (λ (i : ℕ). 0 < count_of (entries_at s.tables i) u) (sym here)
            ((step.leaf u).0 at).0
        | inr apart ↦ (let e = step.others j lower apart u in omega arith)
      ];
}

pub below_at : {A : Type 0} (Changes : A → List Entry → List Entry → Type 0) (at : ℕ)
    (atoms : List NumberedAtom) (ps : List A) (k n : ℕ) (r s : Reducts) → k ≤ n → n ≤ k
    → ChangesBelow Changes at atoms ps k r s → ChangesBelow Changes at atoms ps n r s
below_at {A} Changes at atoms ps k n r s low high h =
    subst (λ (i : ℕ). ChangesBelow Changes at atoms ps i r s) (omega arith) h

-- ---- The tuples of many rows, and what they do to leaves.

-- ---- how often a row stands among others

pub in_times : (rows : List (List ℕ)) (x : List ℕ) → Contains rows x → 0 < times rows x
unfolding times
in_times [] x c = absurd (none_contained x c)
in_times (r ∷ rows) x c =
    elim (in_cons r x rows c) [
      | inl here ↦ omega (arith, one_true (same r x) (is_same r x here))
      | inr there ↦ (let i = in_times rows x there in omega arith)
    ]

pub times_in : (rows : List (List ℕ)) (x : List ℕ) → 0 < times rows x → Contains rows x
unfolding times
times_in [] x h = absurd (omega arith)
times_in (r ∷ rows) x h =
    elim (same_cases r x) [
      | inl here ↦ (0, omega arith, here)
      | inr other ↦ in_rest r x rows (times_in rows x (omega (arith, one_other r x other)))
    ]

pub fresh_row : (rows : List (List ℕ)) (i : ℕ) (row : List ℕ) → AreDistinct rows → i < length rows
    → row ≡ slice_index_or rows i row → Contains (take i rows) row → ⊥
fresh_row rows i row distinct low e c =
    let a = in_times (take i rows) row c in
    let b = next_there rows i row low e in
    let d = distinct.each row in
    absurd (omega arith)

-- ---- the tuples of rows, row by row

pub tuples_none : (rows : List (List ℕ)) (p : Shape) → AreTuplesOf (take 0 rows) p []
unfolding times
tuples_none [] p = record {
  exact = λ u. (λ there. absurd (omega arith), λ given. absurd (none_contained given.cells given.row));
  differ = λ u. omega arith;
  few = omega arith;
}
tuples_none (r ∷ rows) p = record {
  exact = λ u. (λ there. absurd (omega arith), λ given. absurd (none_contained given.cells given.row));
  differ = λ u. omega arith;
  few = omega arith;
}

tuples_pushed : (front us : List (List ℕ)) (row u : List ℕ) (p : Shape)
    → (Contains front row → ⊥) → IsOnly (Some u) p row → AreTuplesOf front p us
    → AreTuplesOf (front ++ row ∷ []) p (us ++ u ∷ [])
tuples_pushed front us row u p fresh only h = record {
  exact = λ v.
      let sum = times-append us (u ∷ []) v in
      let last = times_one u v in (
        λ there.
            elim (same_cases u v) [
              | inl is ↦ record {
                cells = row;
                row = in_last row front;
                gives = (only v).0 (ap (λ (w : List ℕ). Some w) is);
              }
              | inr other ↦
                  one_as (Contains front) (Contains (front ++ row ∷ [])) p v
                  (λ x is. in_left x front (row ∷ []) is)
                  ((h.exact v).0 (let o = one_other u v other in omega arith))
            ],
        λ given.
            elim (in_pushed row given.cells front given.row) [
              | inl before ↦
                  let k = (h.exact v).1
                  (record { cells = given.cells; row = before; gives = given.gives }) in
                  omega arith
              | inr e ↦
                  let is = same_Some u v
                  ((only v).1 (gives_same p v given.cells row (sym e) given.gives)) in
                  let o = one_true (same u v) (is_same u v is) in
                  omega arith
            ],
      );
  differ = λ v.
      let sum = times-append us (u ∷ []) v in
      let last = times_one u v in
      let most = h.differ v in
      elim (same_cases u v) [
        | inr other ↦ (let o = one_other u v other in omega arith)
        | inl is ↦
            let few = one_le (same u v) in
            elim (cases_lt 0 (times us v)) [
              | inr none ↦ omega arith
              | inl some ↦
                  let given = (h.exact v).0 some in
                  let e = gives_once p v given.cells row given.gives
                  ((only v).0 (ap (λ (w : List ℕ). Some w) is)) in
                  absurd (fresh (subst (λ (x : List ℕ). Contains front x) e given.row))
            ]
      ];
  few = (let a = length-append us (u ∷ []) in let b = length-append front (row ∷ []) in let few = h.few in omega arith);
}

tuples_passed : (front us : List (List ℕ)) (row : List ℕ) (p : Shape) → IsOnly None p row
    → AreTuplesOf front p us → AreTuplesOf (front ++ row ∷ []) p us
tuples_passed front us row p only h = record {
  exact = λ v. (
    λ there. one_as (Contains front) (Contains (front ++ row ∷ [])) p v
        (λ x is. in_left x front (row ∷ []) is) ((h.exact v).0 there),
    λ given.
        elim (in_pushed row given.cells front given.row) [
          | inl before ↦ (h.exact v).1
              (record { cells = given.cells; row = before; gives = given.gives })
          | inr e ↦ absurd
              (none-some v ((only v).1 (gives_same p v given.cells row (sym e) given.gives)))
        ],
  );
  differ = h.differ;
  few = (let b = length-append front (row ∷ []) in let few = h.few in omega arith);
}

pub rows_next : (rows : List (List ℕ)) (i : ℕ) (row : List ℕ) → i < length rows
    → row ≡ slice_index_or rows i row → take i rows ++ row ∷ [] ≡ take (i + 1) rows
rows_next rows i row low e =
    ap (λ (x : List ℕ). take i rows ++ x ∷ []) e ∙ sym (take_more rows i row low)

pub tuples_more : (rows us : List (List ℕ)) (i : ℕ) (row u : List ℕ) (p : Shape)
    → AreDistinct rows → i < length rows → row ≡ slice_index_or rows i row
    → IsOnly (Some u) p row → AreTuplesOf (take i rows) p us
    → AreTuplesOf (take (i + 1) rows) p (us ++ u ∷ [])
tuples_more rows us i row u p distinct low e only h =
    subst (λ (front : List (List ℕ)). AreTuplesOf front p (us ++ u ∷ [])) (rows_next rows i row low e)
    (tuples_pushed (take i rows) us row u p (fresh_row rows i row distinct low e) only h)

pub tuples_skip : (rows us : List (List ℕ)) (i : ℕ) (row : List ℕ) (p : Shape)
    → i < length rows → row ≡ slice_index_or rows i row → IsOnly None p row
    → AreTuplesOf (take i rows) p us → AreTuplesOf (take (i + 1) rows) p us
tuples_skip rows us i row p low e only h =
    subst (λ (front : List (List ℕ)). AreTuplesOf front p us) (rows_next rows i row low e)
    (tuples_passed (take i rows) us row p only h)

pub tuples_all : (rows us : List (List ℕ)) (i : ℕ) (p : Shape) → length rows ≤ i
    → AreTuplesOf (take i rows) p us → AreTuplesOf rows p us
tuples_all rows us i p high h =
    subst (λ (front : List (List ℕ)). AreTuplesOf front p us) (take_all i rows high) h

-- ---- rows that are their own tuples

pub own_none : (rows : List (List ℕ)) (p : Shape) → AreTuplesOf (take 0 rows) p (take 0 rows)
own_none [] p = tuples_none [] p
own_none (r ∷ rows) p = tuples_none (r ∷ rows) p

pub own_more : (rows : List (List ℕ)) (i : ℕ) (row : List ℕ) (p : Shape)
    → AreDistinct rows → i < length rows → row ≡ slice_index_or rows i row
    → IsOnly (Some row) p row → AreTuplesOf (take i rows) p (take i rows)
    → AreTuplesOf (take (i + 1) rows) p (take (i + 1) rows)
own_more rows i row p distinct low e only h =
    subst (λ (us : List (List ℕ)). AreTuplesOf (take (i + 1) rows) p us) (rows_next rows i row low e)
    (tuples_more rows (take i rows) i row row p distinct low e only h)

pub own_all : (rows : List (List ℕ)) (i : ℕ) (p : Shape) → length rows ≤ i
    → AreTuplesOf (take i rows) p (take i rows) → AreTuplesOf rows p rows
own_all rows i p high h = subst (λ (us : List (List ℕ)). AreTuplesOf us p us) (take_all i rows high) h

-- the row at a place is one of them
pub row_at : (rows : List (List ℕ)) (i : ℕ) (row : List ℕ) → i < length rows
    → row ≡ slice_index_or rows i row → Contains rows row
row_at rows i row low e = (i, low, sym e)

-- ---- the tuples for each atom

pub pushed_at : {A : Type 0} (xs : List A) (x : A) (j : ℕ) (y : A)
    → slice_get (xs ++ x ∷ []) j ≡ Some y → (slice_get xs j ≡ Some y) ⊎ ((j ≡ length xs) × (x ≡ y))
pushed_at [] x zero y e = inr (refl, same_Some x y e)
pushed_at [] x (suc j) y e = absurd (none-some y e)
pushed_at (z ∷ xs) x zero y e = inl e
pushed_at (z ∷ xs) x (suc j) y e =
    elim (pushed_at xs x j y e) [
      | inl before ↦ inl before
      | inr last ↦ inr (omega (arith, last.0), last.1)
    ]

-- of the first atoms
pub record AreSoFar (at : ℕ) (rows : List (List ℕ)) (atoms : List NumberedAtom)
    (ps : List Shape) (k : ℕ) (batch : List (List (List ℕ))) : Type 0 where
  pub long : length batch ≡ k
  pub few : HasFew (length rows) batch
  pub each : (j : ℕ) (m : NumberedAtom) (p : Shape) (us : List (List ℕ))
      → slice_get atoms j ≡ Some m → slice_get ps j ≡ Some p → slice_get batch j ≡ Some us
      → m.relation ≡ at → AreTuplesOf rows p us

pub batch_none : (at : ℕ) (rows : List (List ℕ)) (atoms : List NumberedAtom) (ps : List Shape)
    → AreSoFar at rows atoms ps 0 []
batch_none at rows atoms ps = record {
  long = refl;
  few = record { each = λ j us e. absurd (let low = slice_get_within [] j us e in omega arith) };
  each = λ j m p us e f g on. absurd (let low = slice_get_within [] j us g in omega arith);
}

pub batch_more : (at : ℕ) (rows : List (List ℕ)) (atoms : List NumberedAtom) (ps : List Shape)
    (k : ℕ) (batch : List (List (List ℕ))) (m : NumberedAtom) (p : Shape) (us : List (List ℕ))
    → slice_get atoms k ≡ Some m → slice_get ps k ≡ Some p
    → (m.relation ≡ at → AreTuplesOf rows p us) → length us ≤ length rows
    → AreSoFar at rows atoms ps k batch → AreSoFar at rows atoms ps (k + 1) (batch ++ us ∷ [])
batch_more at rows atoms ps k batch m p us e f tuples few h = record {
  long = (let l = length-append batch (us ∷ []) in let long = h.long in omega arith);
  few = record {
    each = λ j vs g.
        elim (pushed_at batch us j vs g) [
          | inl before ↦ h.few.each j vs before
          | inr last ↦ subst (λ (x : List (List ℕ)). length x ≤ length rows) last.1 few
        ];
  };
  each = λ j n q vs a b g on.
      elim (pushed_at batch us j vs g) [
        | inl before ↦ h.each j n q vs a b before on
        | inr last ↦
            let place : j ≡ k = last.0 ∙ h.long in
            let atom : m ≡ n = same_Some m n
            (sym e ∙ ap (λ (i : ℕ). slice_get atoms i) (sym place) ∙ a) in
            let shape : p ≡ q = same_Some p q
            (sym f ∙ ap (λ (i : ℕ). slice_get ps i) (sym place) ∙ b) in
            subst (λ (x : Shape). AreTuplesOf rows x vs) shape
            (subst (λ (x : List (List ℕ)). AreTuplesOf rows p x) last.1
            (tuples (ap (λ (x : NumberedAtom). x.relation) atom ∙ on)))
      ];
}

pub batch_all : (at : ℕ) (rows : List (List ℕ)) (atoms : List NumberedAtom) (ps : List Shape)
    (k : ℕ) (batch : List (List (List ℕ))) → k ≡ length atoms
    → AreSoFar at rows atoms ps k batch → AreTuples at rows atoms ps batch
batch_all at rows atoms ps k batch e h = record { long = h.long ∙ e; few = h.few; each = h.each }

-- ---- one leaf

pub all_gained : (us : List (List ℕ)) (j : ℕ) (old new : Reducts) → HasGainedAll old new j us
    → ChangesAt (λ x es fs. GainsTuples x es fs) us j old new
all_gained us j old new came = record {
  sound = came.sound;
  tree = came.tree;
  bare = came.bare;
  leaf = came.leaf;
  others = λ i low apart u. came.others i u low apart;
}

-- no tuple came
pub none_gained : (us : List (List ℕ)) (j : ℕ) (r : Reducts) → length us ≡ 0 → IsReducts r → IsBare r.tables
    → HasGainedAll r r j us
unfolding times
none_gained [] j r none sound bare = record {
  sound = sound;
  tree = refl;
  leaf = λ v. omega arith;
  others = λ i v low apart. refl;
  bare = bare;
}
none_gained (u ∷ us) j r none sound bare = absurd (omega arith)

pub all_lost : (us : List (List ℕ)) (j : ℕ) (old new : Reducts) → HasLostAll old new j us
    → ChangesAt (λ x es fs. LosesTuples x es fs) us j old new
all_lost us j old new went = record {
  sound = went.sound;
  tree = went.tree;
  bare = went.bare;
  leaf = went.leaf;
  others = λ i low apart u. went.others i u low apart;
}

pub adds_stable : IsStable (λ (us : List (List ℕ)) old new. GainsTuples us old new)
adds_stable us ds es fs gs early g late = λ u.
    let a = early u in
    let b = late u in
    let c = g u in
    omega arith

pub drops_stable : IsStable (λ (us : List (List ℕ)) old new. LosesTuples us old new)
drops_stable us ds es fs gs early g late = λ u.
    let a = early u in
    let b = late u in
    let c = g u in
    omega arith

pub adds_more : (us : List (List ℕ)) (k : ℕ) (s t : Reducts)
    → ChangesAt (λ x es fs. GainsTuples x es fs) us k s t → HasMore s t
adds_more us k s t step = record {
  tree = step.tree;
  more = λ j u low there.
      elim (cases_eq j k) [
        | inl here ↦
            let at = subst (λ (i : ℕ). 0 < count_of (entries_at s.tables i) u) here there in
            subst (λ (i : ℕ). 0 < count_of (entries_at t.tables i) u) (sym here)
            (let e = step.leaf u in omega arith)
        | inr apart ↦ (let e = step.others j low apart u in omega arith)
      ];
}

pub drops_more : (us : List (List ℕ)) (k : ℕ) (s t : Reducts)
    → ChangesAt (λ x es fs. LosesTuples x es fs) us k s t → HasMore t s
drops_more us k s t step = record {
  tree = sym step.tree;
  more = λ j u low there.
      let lower = subst (λ (x : Tree). j < x.leaves) step.tree low in
      elim (cases_eq j k) [
        | inl here ↦
            let at = subst (λ (i : ℕ). 0 < count_of (entries_at t.tables i) u) here there in
            subst (λ (i : ℕ). 0 < count_of (entries_at s.tables i) u) (sym here)
            (let e = step.leaf u in omega arith)
        | inr apart ↦ (let e = step.others j lower apart u in omega arith)
      ];
}

-- ---- leaves that can take tuples still can, and those that have them still have

pub fresh_stays : (w : ℕ) (us : List (List ℕ)) (es fs : List Entry) → KeepsTuples es fs
    → AreNew w es us → AreNew w fs us
fresh_stays w us es fs keeps h = record {
  wide = h.wide;
  differ = h.differ;
  absent = λ v some. keeps v ∙ h.absent v some;
}

pub next_fresh : (at : ℕ) (atoms : List NumberedAtom) (batch : List (List (List ℕ))) (k : ℕ)
    (m : NumberedAtom) (us : List (List ℕ)) (r s : Reducts) → CanTake at atoms batch r
    → ChangesBelow (λ x es fs. GainsTuples x es fs) at atoms batch k r s → slice_get atoms k ≡ Some m
    → slice_get batch k ≡ Some us → m.relation ≡ at
    → AreNew (length (label_at s.tree.labels k)) (entries_at s.tables k) us
next_fresh at atoms batch k m us r s can h e f on =
    fresh_stays (length (label_at s.tree.labels k)) us (entries_at r.tables k) (entries_at s.tables k)
    (h.others k m e (λ low. absurd (omega arith)))
    (subst (λ (t : Tree). AreNew (length (label_at t.labels k)) (entries_at r.tables k) us)
    (sym h.tree) (can.fresh k m us e f on))

pub next_room : (at : ℕ) (atoms : List NumberedAtom) (batch : List (List (List ℕ))) (k : ℕ)
    (m : NumberedAtom) (us : List (List ℕ)) (r s : Reducts) → CanTake at atoms batch r
    → ChangesBelow (λ x es fs. GainsTuples x es fs) at atoms batch k r s → slice_get atoms k ≡ Some m
    → slice_get batch k ≡ Some us → m.relation ≡ at
    → length (entries_at s.tables k) + length us ≤ 4294967295
next_room at atoms batch k m us r s can h e f on =
    let long = length_even (entries_at s.tables k) (entries_at r.tables k)
    (h.others k m e (λ low. absurd (omega arith))) in
    let room = can.room k m us e f on in
    omega arith

pub there_stays : (us : List (List ℕ)) (es fs : List Entry) → KeepsTuples es fs → AreThere es us
    → AreThere fs us
there_stays us es fs keeps h = record { each = λ v. (let a = keeps v in let b = h.each v in omega arith) }

pub all_there : (at : ℕ) (atoms : List NumberedAtom) (batch : List (List (List ℕ))) (k : ℕ)
    (r s : Reducts) → ChangesBelow (λ x es fs. GainsTuples x es fs) at atoms batch k r s
    → HoldBelow (λ us es. AreThere es us) at atoms batch k s
all_there at atoms batch k r s h = record {
  each = λ j m us low e f on. record {
    each = λ v. (let a = h.over j m us low e f on v in omega arith);
  };
}

-- ---- by the rows

pub all_gains : (at : ℕ) (rows : List (List ℕ)) (atoms : List NumberedAtom) (ps : List Shape)
    (batch : List (List (List ℕ))) (k : ℕ) (r s : Reducts) → AreTuples at rows atoms ps batch
    → ChangesBelow (λ x es fs. GainsTuples x es fs) at atoms batch k r s
    → ChangesBelow (λ p es fs. GainsAll p rows es fs) at atoms ps k r s
all_gains at rows atoms ps batch k r s tuples h = record {
  sound = h.sound;
  tree = h.tree;
  bare = h.bare;
  over = λ j m p low e f on.
      let us = has_at batch j
      (let a = slice_get_within atoms j m e in let b = tuples.long in omega arith) in
      let of = tuples.each j m p us.element e f us.is on in λ u.
      let sum = h.over j m us.element low e us.is on u in (
        λ there.
            elim (cases_lt 0 (times us.element u)) [
              | inl some ↦ inr ((of.exact u).0 some)
              | inr none ↦ inl (omega arith)
            ],
        λ either.
            elim either [
              | inl before ↦ omega arith
              | inr given ↦ (let some = (of.exact u).1 given in omega arith)
            ],
      );
  others = h.others;
}

-- the tuples that it has for a leaf, which were made or are the rows
pub got_in : (rows : List (List ℕ)) (made : List (Option (List (List ℕ)))) (i : ℕ) (x : Option (List (List ℕ)))
    (y : List (List ℕ))
    → y ≡ row_tuples rows x → i < length (batch_tuples rows made) → x ≡ slice_index_or made i x
    → slice_get (batch_tuples rows made) i ≡ Some y
got_in rows made i x y e low is =
    slice_get-map (row_tuples rows) made i
    ∙ ap (option_map (row_tuples rows))
    (got made i x (subst (λ (n : ℕ). i < n) (length-map made (row_tuples rows)) low) is)
    ∙ ap (λ z. Some z) (sym e)
