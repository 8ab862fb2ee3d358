-- What updates count where rows go out of the queries in places, one after another.
use Rattle.std.proofs.Common.{ℕ, List, [], ◌∷◌, ◌++◌, ◌+◌, ◌*◌, ◌≡◌, ◌<◌, ◌≤◌, Bool, true, false, refl, sym, ap, ◌∙◌}
use Rattle.std.proofs.Common.{subst, length, get_or, take, arith}
use Rattle.std.specs.Prelude.{◌==◌, ◌||◌, Option, None, Some, IsSomeAnd, filter, sum_by}
use Rattle.std.proofs.lemmas.Bool.{eqb-true, eq-eqb}
use Rattle.std.proofs.lemmas.List.{take_more}
use Rattle.std.proofs.lemmas.List.Sums.{sum_by-cons, sum_by-append, sum_by-take-le}
use Rattle.djq_query.specs.Numbered.{Numbered}
use Rattle.djq_live_query.specs.Live.{Live, IsKept, SameQuery}
use Rattle.djq_live_query.specs.Updating.{CanDeleteAll, CountsFlatRows, CountsUpdate}
use Rattle.djq_reach.specs.declared.group.Group.{Group}
use Rattle.djq_reach.specs.Places.{place_at, is_reader, readers_at, AreOnce}
use Rattle.djq_reach.specs.Reaching.{DoneAt, Reach, AllAt}
use Rattle.djq_reach.specs.Tending.{IsBounded}
use Rattle.djq_reach.proofs.Batches.{sums_under}
use Rattle.djq_reach.proofs.Logs.{unreached}
use Rattle.djq_reach.proofs.PlacedQueries.{only, or_true, reader_front, reader_more, some_as}
use Rattle.djq_queries.specs.Going.{CanGoOutAll, WorksGone, gone_group_work, gone_work_at, gone_work_of}

-- what the conditions of a loop give each query
pub all_leave : (places : List ℕ) (at : ℕ) (cells : List (List ℕ)) (gs : List (Option Live))
    → CanGoOutAll places at cells gs → AllAt places gs (λ l. CanDeleteAll l at cells)
all_leave places at cells gs h i e = some_as (place_at gs i) (λ l. IsKept h.before l) (λ l. CanDeleteAll l at cells)
    (λ l k. record {
      before = h.before;
      after = h.after;
      rows = h.rows;
      kept = k;
      there = h.goes.there;
      differ = h.goes.differ;
      went = h.goes.went;
    }) (h.kept i e)

-- ---- places one after another

pub gone_none : (gs : List (Option Live)) (at rows x : ℕ) → WorksGone [] gs at rows x x
gone_none gs at rows x n flat few = omega arith

pub gone_one : (gs : List (Option Live)) (at rows i : ℕ) (l : Live) (x y : ℕ) → place_at gs i ≡ Some l
    → CountsUpdate 1 l at x y → CountsFlatRows rows l at x y → WorksGone (i ∷ []) gs at rows x y
gone_one gs at rows i l x y there one many n flat few =
    let k : IsBounded n (flat i) l =
    subst (λ (o : Option Live). IsSomeAnd o (IsBounded n (flat i))) there (few i (only i i ∙ eq-eqb i i refl)) in
    let single : sum_by (gone_work_at gs at rows n flat) (i ∷ []) ≡ gone_work_at gs at rows n flat i =
    omega (arith, sum_by-cons (gone_work_at gs at rows n flat) i []) in
    subst (λ (w : ℕ). y ≤ x + w) (sym (single ∙ ap (gone_work_of at rows n (flat i)) there)) (chosen (flat i) k)
  where
    chosen : (b : Bool) → IsBounded n b l → y ≤ x + gone_work_of at rows n b (Some l)
    chosen true flat_one = many flat_one
    chosen false small = let h = one n small in omega (arith, h)

gone_more : (done : List ℕ) (i : ℕ) (gs hs : List (Option Live)) (at rows x y z : ℕ) → place_at hs i ≡ place_at gs i
    → WorksGone done gs at rows x y → WorksGone (i ∷ []) hs at rows y z → WorksGone (done ++ i ∷ []) gs at rows x z
gone_more done i gs hs at rows x y z same a b n flat few =
    let first = a n flat (λ j e. few j (reader_more done i j ∙ ap (λ t. t || (i == j)) e)) in
    let at_end : is_reader (done ++ i ∷ []) i ≡ true =
    reader_more done i i ∙ ap (λ t. is_reader done i || t) (eq-eqb i i refl) ∙ or_true (is_reader done i) in
    let second = b n flat (λ j e.
    subst (λ (k : ℕ). IsSomeAnd (place_at hs k) (IsBounded n (flat k))) (eqb-true i j (sym (only i j) ∙ e))
    (subst (λ (o : Option Live). IsSomeAnd o (IsBounded n (flat i))) (sym same) (few i at_end))) in
    let one : sum_by (gone_work_at hs at rows n flat) (i ∷ []) ≡ gone_work_at gs at rows n flat i =
    omega (arith, sum_by-cons (gone_work_at hs at rows n flat) i [], ap (gone_work_of at rows n (flat i)) same) in
    omega (
      arith,
      first,
      second,
      one,
      sum_by-append (gone_work_at gs at rows n flat) done (i ∷ []),
      sum_by-cons (gone_work_at gs at rows n flat) i [],
    )

pub gone_next : (R : Live → Live → Type 0) (places : List ℕ) (k d : ℕ) (gs hs : List (Option Live))
    (at rows x y z : ℕ) → AreOnce places → k < length places → Reach (take k places) R gs hs
    → WorksGone (take k places) gs at rows x y → WorksGone (get_or places k d ∷ []) hs at rows y z
    → WorksGone (take (k + 1) places) gs at rows x z
gone_next R places k d gs hs at rows x y z o low r a b =
    subst (λ (ps : List ℕ). WorksGone ps gs at rows x z) (sym (take_more places k d low))
    (gone_more (take k places) (get_or places k d) gs hs at rows x y z (unreached R places k d gs hs o low r) a b)

-- the front of the places counts no more than all
pub gone_front : (places : List ℕ) (k : ℕ) (gs : List (Option Live)) (at rows x y : ℕ)
    → WorksGone (take k places) gs at rows x y → WorksGone places gs at rows x y
gone_front places k gs at rows x y h n flat few =
    let part = h n flat (λ j e. few j (reader_front places k j e)) in
    omega (arith, part, sum_by-take-le (gone_work_at gs at rows n flat) places k)

-- ---- groups one after another

-- what a query counts depends on its numbers alone
gone_same : (ps : List ℕ) (gs hs : List (Option Live)) (at rows n i : ℕ) (f : Bool) → Reach ps SameQuery gs hs
    → gone_work_of at rows n f (place_at hs i) ≡ gone_work_of at rows n f (place_at gs i)
gone_same ps gs hs at rows n i f r = by (is_reader ps i) (place_at gs i) (place_at hs i) (r.each i)
  where
    numbers : (f : Bool) (l m : Live) → m.numbered ≡ l.numbered
        → gone_work_of at rows n f (Some m) ≡ gone_work_of at rows n f (Some l)
    numbers true l m e = ap (λ (x : Numbered). length (filter (λ a. a.relation == at) x.atoms)
        * (rows * (16 * (length x.atoms + length x.variables)))) e
    numbers false l m e = ap (λ (x : Numbered). length (filter (λ a. a.relation == at) x.atoms)
        * (16 * ((length x.atoms + length x.variables) * (n + 1)))) e

    by : (b : Bool) (p q : Option Live) → DoneAt SameQuery b p q → gone_work_of at rows n f q
        ≡ gone_work_of at rows n f p
    by false p q e = ap (gone_work_of at rows n f) e
    by true None None t = refl
    by true None (Some m) t = absurd t
    by true (Some l) None t = absurd t
    by true (Some l) (Some m) t = numbers f l m t.numbered

-- a group counts by the queries as they were
pub gone_group : (readers : List (List ℕ)) (ps : List ℕ) (gs hs : List (Option Live)) (g : Group) (n : ℕ)
    (flat : ℕ → Bool) (places : List ℕ) (cells : List (List ℕ)) → Reach ps SameQuery gs hs
    → places ≡ readers_at readers g.relation.at → cells ≡ g.rows
    → sum_by (gone_work_at hs g.relation.at (length cells) n flat) places ≤ gone_group_work readers gs n flat g
gone_group readers ps gs hs g n flat places cells same are rows =
    let even : sum_by (gone_work_at gs g.relation.at (length cells) n flat) places ≡ gone_group_work readers gs n flat g =
    ap (λ (xs : List ℕ). sum_by (gone_work_at gs g.relation.at (length cells) n flat) xs) are
    ∙ ap (λ (xs : List (List ℕ)). sum_by (gone_work_at gs g.relation.at (length xs) n flat)
    (readers_at readers g.relation.at)) rows in
    let less = sums_under (gone_work_at hs g.relation.at (length cells) n flat)
    (gone_work_at gs g.relation.at (length cells) n flat) places
    (λ i e. let one = gone_same ps gs hs g.relation.at (length cells) n i (flat i) same in omega (arith, one)) in
    omega (arith, even, less)
