-- How a union goes on, from each of its members on, and what it counts.
use Rattle.std.proofs.Common.{◌≡◌, ◌+◌, ◌≤◌, Bool, true, false, ◌⊎◌, inl, inr, List, [], ◌∷◌, ◌++◌, length, refl, ap}
use Rattle.std.proofs.Common.{sym, subst, ◌∙◌, arith, ℕ, zero, suc, ◌<◌, drop, set, get_or, ap₂, ◌-◌, ◌*◌}
use Rattle.std.specs.Prelude.{⊤, ◌↔◌, ◌||◌, Contains, filter, Option, None, Some, IfSome, All}
use Rattle.std.specs.Bool.{OnTrue, OnFalse}
use Rattle.std.proofs.lemmas.Bool.{false≢true, OnTrue_at, OnFalse_at, cases_Bool, or_left, or_right, both_ways}
use Rattle.std.proofs.lemmas.List.{length_push, drop-set, drop_more}
use Rattle.std.proofs.lemmas.List.Elements.{All-nil, All-contains, Contains-push, All-head, All-tail}
use Rattle.std.specs.List.{slice_get, sum_by}
use Rattle.std.proofs.Math.Seq.{drop-cons}
use Rattle.std.proofs.lemmas.Option.{slice_get_within, get_or_from_slice_get}
use Rattle.std.proofs.lemmas.List.Sums.{sum_by-cons}
use Rattle.djq_union.specs.Answers.{AreSomeCells, AreAllCells, IsListingOfCells}
use Rattle.djq_union.specs.Order.{merged}
use Rattle.djq_union.specs.Union.{some_has, given_at, union_given, FitsFirst, UnionFits}
use Rattle.djq_union.specs.Going.{AnswersGoOn, MemberGoesOn, UnionGoesOn, MovesAt}
use Rattle.djq_union.specs.Steps.{union_steps, union_most}
use Rattle.djq_union.proofs.Merges.{all_of, AreOnce, once_of, different_of, once_left, counted_last, uncounted_last}
use Rattle.djq_union.proofs.Merges.{pigeons, reached, own_last, shared_last, later_last, has_later, has_own}
use Rattle.djq_union.proofs.Merges.{own_or_later, merged_once}

-- ---- How a union goes on, by how its first member and the later ones do.

or_own : (a b : Bool) → (a || b) ≡ true → b ≡ false → a ≡ true
or_own true b e f = refl
or_own false b e f = absurd (both_ways b f e)

module _ {A : Type 0} where
  -- ---- different answers

  pub none_given : (has : A → Bool) → AreSomeCells has []
  none_given has =
      record { different = different_of [] tt; answers = All-nil (λ (t : A). has t ≡ true) }

  some_by : (has : A → Bool) (ts : List A) → AreOnce ts
      → ((t : A) → Contains ts t → has t ≡ true) → AreSomeCells has ts
  some_by has ts once only =
      record { different = different_of ts once; answers = all_of (λ (t : A). has t ≡ true) ts only }

  only_has : (has : A → Bool) (ts : List A) → AreSomeCells has ts → (t : A) → Contains ts t
      → has t ≡ true
  only_has has ts some t there = All-contains (λ (t : A). has t ≡ true) ts t some.answers there

  once_has : (has : A → Bool) (ts : List A) → AreSomeCells has ts → AreOnce ts
  once_has has ts some = once_of ts some.different

  -- where one more was given some was left
  pub one_left : (has : A → Bool) (old new : List A) (a : A) → AreSomeCells has new
      → new ≡ old ++ a ∷ [] → AreAllCells has old → ⊥
  one_left has old new a some one all =
      once_left old a (subst (λ (l : List A). AreOnce l) one (once_has has new some))
      (all a (only_has has new some a
      (subst (λ (l : List A). Contains l a) (sym one) (Contains-push old a))))

  -- ---- one call

  pub all_at_end : (has : A → Bool) (given : List A) (more : Bool)
      → (more ≡ false) ↔ IsListingOfCells has given → OnFalse more (AreAllCells has given)
  all_at_end has given true h = tt
  all_at_end has given false h = (h.0 refl).all

  pub end_of : (has : A → Bool) (old new : List A) (more : Bool) (out : A) → AreSomeCells has old
      → AnswersGoOn has old new more out → (more ≡ false) ↔ IsListingOfCells has old
  end_of has old new true out some g = (
    λ e. absurd (false≢true (sym e)),
    λ listing. absurd (one_left has old new out g.some g.one listing.all),
  )
  end_of has old new false out some g =
      (λ e. record { some = some; all = g.all }, λ listing. refl)

  -- two calls, of which the first changed no more than the list's name
  pub goes_along : (has : A → Bool) (old same new : List A) (more : Bool) (out : A) → old ≡ same
      → AnswersGoOn has old new more out → AnswersGoOn has same new more out
  goes_along has old same new more out e g =
      subst (λ (l : List A). AnswersGoOn has l new more out) e g

module _ {M S A : Type 0} (has : M → A → Bool) (given : M → S → List A) (fits : M → S → Type 0) where
  -- ---- a member

  pub member_starts : (m : M) (old : Option S) (s t : S) (more : Bool) (out : A) → old ≡ None
      → given m s ≡ [] → fits m t → OnTrue more (given m t ≡ given m s ++ out ∷ [])
      → OnFalse more (given m t ≡ given m s) → AreSomeCells (has m) (given m t)
      → (more ≡ false) ↔ IsListingOfCells (has m) (given m s)
      → MemberGoesOn has given fits m old (Some t) more out
  member_starts m old s t more out isnt none fit one same some end =
      subst (λ (o : Option S). MemberGoesOn has given fits m o (Some t) more out) (sym isnt)
      (record {
        fit = fit;
        goes = goes_along (has m) (given m s) [] (given m t) more out none
            (record {
              one = one;
              same = same;
              some = some;
              all = all_at_end (has m) (given m s) more end;
            });
      })

  -- ---- a cursor that has given nothing

  abbrev pub AreNone : List (Option S) → Type 0
  AreNone [] = ⊤
  AreNone (s ∷ ss) = (s ≡ None) × AreNone ss

  pub none_union : (ms : List M) (ss : List (Option S)) → AreNone ss
      → union_given has given ms ss ≡ []
  none_union [] ss h = refl
  none_union (m ∷ ms) [] h = refl
  none_union (m ∷ ms) (s ∷ ss) h =
      ap (λ (o : Option S). merged (some_has has ms) (given_at given m o)
      (union_given has given ms ss)) h.0
      ∙ none_union ms ss h.1

  fits_first : (m : M) (s : Option S) (later : A → Bool) (rest : List A) → s ≡ None → rest ≡ []
      → FitsFirst has given fits m s later rest
  fits_first m s later rest e none =
      subst (λ (o : Option S). FitsFirst has given fits m o later rest) (sym e)
      (subst (λ (l : List A). FitsFirst has given fits m None later l) (sym none)
      (record {
        fit = tt;
        some = none_given (has m);
        step = record { never_behind = omega arith; even = λ left. refl };
      }))

  pub none_fits : (ms : List M) (ss : List (Option S)) → length ms ≤ length ss → AreNone ss
      → UnionFits has given fits ms ss
  none_fits [] ss few h = tt
  none_fits (m ∷ ms) [] few h = absurd (omega (arith, few))
  none_fits (m ∷ ms) (s ∷ ss) few h = (
    fits_first m s (some_has has ms) (union_given has given ms ss) h.0 (none_union ms ss h.1),
    none_fits ms ss (omega (arith, few)) h.1,
  )

  -- ---- what members give is what their union gives

  merged_some : (m : M) (ms : List M) (xs ds : List A) → AreSomeCells (has m) xs
      → AreSomeCells (some_has has ms) ds
      → AreSomeCells (some_has has (m ∷ ms)) (merged (some_has has ms) xs ds)
  merged_some m ms xs ds first rest =
      some_by (some_has has (m ∷ ms)) (merged (some_has has ms) xs ds)
      (merged_once (some_has has ms) xs ds (once_has (has m) xs first)
      (once_has (some_has has ms) ds rest) (only_has (some_has has ms) ds rest))
      (λ t there. elim (own_or_later (some_has has ms) xs ds t there) [
        | inl own ↦ or_left (has m t) (some_has has ms t) (only_has (has m) xs first t own.0)
        | inr told ↦ or_right (has m t) (some_has has ms t)
            (only_has (some_has has ms) ds rest t told)
      ])

  merged_all : (m : M) (ms : List M) (xs ds : List A) → AreAllCells (has m) xs
      → AreAllCells (some_has has ms) ds
      → AreAllCells (some_has has (m ∷ ms)) (merged (some_has has ms) xs ds)
  merged_all m ms xs ds first rest t is = elim (cases_Bool (some_has has ms t)) [
    | inl later ↦ has_later (some_has has ms) xs ds t (rest t later)
    | inr own ↦ has_own (some_has has ms) xs ds t own
        (first t (or_own (has m t) (some_has has ms t) is own))
  ]

  pub union_some : (ms : List M) (ss : List (Option S)) → UnionFits has given fits ms ss
      → AreSomeCells (some_has has ms) (union_given has given ms ss)
  union_some [] ss h = none_given (some_has has [])
  union_some (m ∷ ms) [] h = absurd h
  union_some (m ∷ ms) (s ∷ ss) h = merged_some m ms (given_at given m s)
      (union_given has given ms ss) h.0.some (union_some ms ss h.1)

  -- ---- going on: an answer that no later member has

  pub goes_own : (m : M) (ms : List M) (s moved : Option S) (ss : List (Option S)) (more : Bool)
      (a : A) → UnionFits has given fits (m ∷ ms) (s ∷ ss)
      → MemberGoesOn has given fits m s moved more a → more ≡ true → some_has has ms a ≡ false
      → UnionGoesOn has given fits (m ∷ ms) (s ∷ ss) (moved ∷ ss) true a
  goes_own m ms s moved ss more a h g is own =
      let later = some_has has ms in
      let old = given_at given m s in
      let new = given_at given m moved in
      let rest = union_given has given ms ss in
      let one : new ≡ old ++ a ∷ [] = OnTrue_at is g.goes.one in
      let even : length rest ≡ length (filter later old) =
      h.0.step.even (one_left (has m) old new a g.goes.some one) in
      let count : length (filter later new) ≡ length (filter later old) =
      ap (λ (l : List A). length (filter later l)) one ∙ uncounted_last later old a own in
      record {
        fit = (
          record {
            fit = g.fit;
            some = g.goes.some;
            step = record {
              never_behind = omega (arith, even, count);
              even = λ left. even ∙ sym count;
            };
          },
          h.1,
        );
        goes = record {
          one = ap (λ (l : List A). merged later l rest) one ∙ own_last later old rest a own even;
          same = tt;
          some = merged_some m ms new rest g.goes.some (union_some ms ss h.1);
          all = tt;
        };
      }

  -- ---- going on: an answer that the later ones have, so that their union has one left

  pub goes_shared : (m : M) (ms : List M) (s moved : Option S) (ss rests : List (Option S))
      (more next : Bool) (a b : A) → UnionFits has given fits (m ∷ ms) (s ∷ ss)
      → MemberGoesOn has given fits m s moved more a → more ≡ true → some_has has ms a ≡ true
      → UnionGoesOn has given fits ms ss rests next b
      → UnionGoesOn has given fits (m ∷ ms) (s ∷ ss) (moved ∷ rests) next b
  goes_shared m ms s moved ss rests more true a b h g is shared r =
      let later = some_has has ms in
      let old = given_at given m s in
      let new = given_at given m moved in
      let rest = union_given has given ms ss in
      let told = union_given has given ms rests in
      let one : new ≡ old ++ a ∷ [] = OnTrue_at is g.goes.one in
      let even : length rest ≡ length (filter later old) =
      h.0.step.even (one_left (has m) old new a g.goes.some one) in
      let count : length (filter later new) ≡ length (filter later old) + 1 =
      ap (λ (l : List A). length (filter later l)) one ∙ counted_last later old a shared in
      let gained : length told ≡ length rest + 1 =
      ap (λ (l : List A). length l) r.goes.one ∙ length_push rest b in
      record {
        fit = (
          record {
            fit = g.fit;
            some = g.goes.some;
            step = record {
              never_behind = omega (arith, even, count, gained);
              even = λ left. omega (arith, even, count, gained);
            };
          },
          r.fit,
        );
        goes = record {
          one = ap (λ (l : List A). merged later l told) one
              ∙ ap (λ (l : List A). merged later (old ++ a ∷ []) l) r.goes.one
              ∙ shared_last later old rest a b shared even;
          same = tt;
          some = merged_some m ms new told g.goes.some r.goes.some;
          all = tt;
        };
      }
  goes_shared m ms s moved ss rests more false a b h g is shared r =
      let later = some_has has ms in
      let old = given_at given m s in
      let new = given_at given m moved in
      let rest = union_given has given ms ss in
      let one : new ≡ old ++ a ∷ [] = OnTrue_at is g.goes.one in
      let even : length rest ≡ length (filter later old) =
      h.0.step.even (one_left (has m) old new a g.goes.some one) in
      let count : length (filter later new) ≡ length (filter later old) + 1 =
      ap (λ (l : List A). length (filter later l)) one ∙ counted_last later old a shared in
      let enough = pigeons later new rest (once_has (has m) new g.goes.some)
      (λ t there has_it. r.goes.all t has_it) in
      absurd (omega (arith, even, count, enough))

  -- ---- going on: the rest of the later ones

  pub goes_rest : (m : M) (ms : List M) (s moved : Option S) (ss rests : List (Option S))
      (more next : Bool) (a b : A) → UnionFits has given fits (m ∷ ms) (s ∷ ss)
      → MemberGoesOn has given fits m s moved more a → more ≡ false
      → UnionGoesOn has given fits ms ss rests next b
      → UnionGoesOn has given fits (m ∷ ms) (s ∷ ss) (moved ∷ rests) next b
  goes_rest m ms s moved ss rests more true a b h g isnt r =
      let later = some_has has ms in
      let old = given_at given m s in
      let new = given_at given m moved in
      let rest = union_given has given ms ss in
      let told = union_given has given ms rests in
      let same : new ≡ old = OnFalse_at isnt g.goes.same in
      let all : AreAllCells (has m) old = OnFalse_at isnt g.goes.all in
      let ahead = h.0.step.never_behind in
      let count : length (filter later new) ≡ length (filter later old) =
      ap (λ (l : List A). length (filter later l)) same in
      let gained : length told ≡ length rest + 1 =
      ap (λ (l : List A). length l) r.goes.one ∙ length_push rest b in
      record {
        fit = (
          record {
            fit = g.fit;
            some = g.goes.some;
            step = record {
              never_behind = omega (arith, ahead, count, gained);
              even = λ left. absurd
                  (left (subst (λ (l : List A). AreAllCells (has m) l) (sym same) all));
            };
          },
          r.fit,
        );
        goes = record {
          one = ap (λ (l : List A). merged later l told) same
              ∙ ap (λ (l : List A). merged later old l) r.goes.one
              ∙ later_last later old rest b ahead;
          same = tt;
          some = merged_some m ms new told g.goes.some r.goes.some;
          all = tt;
        };
      }
  goes_rest m ms s moved ss rests more false a b h g isnt r =
      let later = some_has has ms in
      let old = given_at given m s in
      let new = given_at given m moved in
      let rest = union_given has given ms ss in
      let told = union_given has given ms rests in
      let same : new ≡ old = OnFalse_at isnt g.goes.same in
      let all : AreAllCells (has m) old = OnFalse_at isnt g.goes.all in
      let ahead = h.0.step.never_behind in
      let count : length (filter later new) ≡ length (filter later old) =
      ap (λ (l : List A). length (filter later l)) same in
      let stays : length told ≡ length rest = ap (λ (l : List A). length l) r.goes.same in
      record {
        fit = (
          record {
            fit = g.fit;
            some = g.goes.some;
            step = record {
              never_behind = omega (arith, ahead, count, stays);
              even = λ left. absurd
                  (left (subst (λ (l : List A). AreAllCells (has m) l) (sym same) all));
            };
          },
          r.fit,
        );
        goes = record {
          one = tt;
          same = ap (λ (l : List A). merged later l told) same
              ∙ ap (λ (l : List A). merged later old l) r.goes.same;
          some = merged_some m ms new told g.goes.some r.goes.some;
          all = merged_all m ms old rest all r.goes.all;
        };
      }

  -- ---- whether one is left: exactly where one of the first member is, or of the later ones

  pub all_apart : (m : M) (ms : List M) (s : Option S) (ss : List (Option S))
      → UnionFits has given fits (m ∷ ms) (s ∷ ss)
      → AreAllCells (some_has has (m ∷ ms)) (union_given has given (m ∷ ms) (s ∷ ss))
      → AreAllCells (some_has has ms) (union_given has given ms ss)
  all_apart m ms s ss h all t is =
      elim (own_or_later (some_has has ms) (given_at given m s) (union_given has given ms ss) t
      (all t (or_right (has m t) (some_has has ms t) is))) [
        | inl own ↦ absurd (both_ways (some_has has ms t) own.1 is)
        | inr told ↦ told
      ]

  left_first : (m : M) (ms : List M) (s : Option S) (ss : List (Option S))
      → UnionFits has given fits (m ∷ ms) (s ∷ ss) → (AreAllCells (has m) (given_at given m s) → ⊥)
      → AreAllCells (some_has has (m ∷ ms)) (union_given has given (m ∷ ms) (s ∷ ss))
      → AreAllCells (has m) (given_at given m s)
  left_first m ms s ss h left all t is =
      let later = some_has has ms in
      let old = given_at given m s in
      let rest = union_given has given ms ss in
      let rests = all_apart m ms s ss h all in
      let even = h.0.step.even left in
      elim (cases_Bool (later t)) [
        | inl shared ↦
            elim (reached later old rest (once_has (has m) old h.0.some)
            (λ u there has_it. rests u has_it) t (rests t shared)) [
              | inl found ↦ found
              | inr less ↦ absurd (omega (arith, even, less))
            ]
        | inr own ↦
            elim (own_or_later later old rest t (all t (or_left (has m t) (later t) is))) [
              | inl here ↦ here.0
              | inr told ↦ absurd
                  (both_ways (later t) own (only_has later rest (union_some ms ss h.1) t told))
            ]
      ]

  pub left_here : (m : M) (ms : List M) (s : Option S) (ss : List (Option S)) (b : Bool)
      → UnionFits has given fits (m ∷ ms) (s ∷ ss) → b ≡ true
      → (b ≡ false) ↔ AreAllCells (has m) (given_at given m s)
      → (true ≡ false) ↔ AreAllCells (some_has has (m ∷ ms)) (union_given has given (m ∷ ms) (s ∷ ss))
  left_here m ms s ss b h is one =
      let left : AreAllCells (has m) (given_at given m s) → ⊥ = λ all. both_ways b (one.1 all) is in (
        λ e. absurd (false≢true (sym e)),
        λ all. absurd (left (left_first m ms s ss h left all)),
      )

  pub left_later : (m : M) (ms : List M) (s : Option S) (ss : List (Option S)) (b r : Bool)
      → UnionFits has given fits (m ∷ ms) (s ∷ ss) → b ≡ false
      → (b ≡ false) ↔ AreAllCells (has m) (given_at given m s)
      → (r ≡ false) ↔ AreAllCells (some_has has ms) (union_given has given ms ss)
      → (r ≡ false) ↔ AreAllCells (some_has has (m ∷ ms)) (union_given has given (m ∷ ms) (s ∷ ss))
  left_later m ms s ss b r h isnt one rest = (
    λ e. merged_all m ms (given_at given m s) (union_given has given ms ss) (one.0 isnt) (rest.0 e),
    λ all. rest.1 (all_apart m ms s ss h all),
  )

  -- ---- what it contains

  pub union_contains : (m : M) (ms : List M) (s : Option S) (ss : List (Option S)) (t : A)
      → Contains (union_given has given (m ∷ ms) (s ∷ ss)) t
      ↔ ((Contains (given_at given m s) t × (some_has has ms t ≡ false))
      ⊎ Contains (union_given has given ms ss) t)
  union_contains m ms s ss t =
      let later = some_has has ms in
      let old = given_at given m s in
      let rest = union_given has given ms ss in (
        own_or_later later old rest t,
        λ h. elim h [
          | inl own ↦ has_own later old rest t own.1 own.0
          | inr told ↦ has_later later old rest t told
        ],
      )

-- ---- A union from its i-th member on.

module _ {X : Type 0} where
  pub at_place : (xs : List X) (i : ℕ) (x : X) → slice_get xs i ≡ Some x
      → drop i xs ≡ x ∷ drop (i + 1) xs
  at_place xs i x e =
      let next : suc i ≡ i + 1 = omega arith in
      drop-cons xs i x (slice_get_within xs i x e)
      ∙ ap₂ (λ (y : X) (l : List X). y ∷ l) (get_or_from_slice_get xs i x x e)
      (ap (λ (n : ℕ). drop n xs) next)

  get_set : (xs : List X) (i : ℕ) (y : X) → i < length xs → slice_get (set xs i y) i ≡ Some y
  get_set [] i y low = absurd (omega (arith, low))
  get_set (x ∷ xs) zero y low = refl
  get_set (x ∷ xs) (suc i) y low = get_set xs i y (omega (arith, low))

  get_set_other : (xs : List X) (i k : ℕ) (y : X) → k < i
      → slice_get (set xs i y) k ≡ slice_get xs k
  get_set_other [] i k y less = refl
  get_set_other (x ∷ xs) zero k y less = absurd (omega (arith, less))
  get_set_other (x ∷ xs) (suc i) zero y less = refl
  get_set_other (x ∷ xs) (suc i) (suc k) y less = get_set_other xs i k y (omega (arith, less))

module _ {M S A : Type 0} (has : M → A → Bool) (given : M → S → List A) (fits : M → S → Type 0) where
  low_by : (m : M) (ms : List M) (os : List (Option S)) (i : ℕ)
      → UnionFits has given fits (m ∷ ms) (drop i os) → i < length os
  low_by m ms [] zero h = absurd h
  low_by m ms [] (suc i) h = absurd h
  low_by m ms (o ∷ os) zero h = omega arith
  low_by m ms (o ∷ os) (suc i) h = let low = low_by m ms os i h in omega (arith, low)

  -- the i-th member and the state of its listing, with those behind it
  pub record IsPlace (ms : List M) (os : List (Option S)) (i : ℕ) (m : M) : Type 0 where
    pub members : drop i ms ≡ m ∷ drop (i + 1) ms
    pub states : drop i os ≡ get_or os i None ∷ drop (i + 1) os
    pub low : i < length os
    pub fit : UnionFits has given fits (m ∷ drop (i + 1) ms) (get_or os i None ∷ drop (i + 1) os)

  pub place_of : (ms : List M) (os : List (Option S)) (i : ℕ) (m : M) → slice_get ms i ≡ Some m
      → UnionFits has given fits (drop i ms) (drop i os) → IsPlace ms os i m
  place_of ms os i m e h =
      let members = at_place ms i m e in
      let here = subst (λ (l : List M). UnionFits has given fits l (drop i os)) members h in
      let low = low_by m (drop (i + 1) ms) os i here in
      let states = drop_more os i None low in
      record {
        members = members;
        states = states;
        low = low;
        fit = subst (λ (l : List (Option S)). UnionFits has given fits (m ∷ drop (i + 1) ms) l)
            states here;
      }

  pub fit_here : (ms : List M) (os : List (Option S)) (i : ℕ) (m : M) → slice_get ms i ≡ Some m
      → UnionFits has given fits (drop i ms) (drop i os)
      → IfSome (get_or os i None) (λ begun. fits m begun)
  fit_here ms os i m e h = (place_of ms os i m e h).fit.0.fit

  pub fit_state : (ms : List M) (os : List (Option S)) (i : ℕ) (m : M) (o : Option S)
      → slice_get ms i ≡ Some m → UnionFits has given fits (drop i ms) (drop i os)
      → o ≡ get_or os i None → IfSome o (λ begun. fits m begun)
  fit_state ms os i m o e h same =
      subst (λ (p : Option S). IfSome p (λ begun. fits m begun)) (sym same) (fit_here ms os i m e h)

  -- what a call leaves that goes on from the i-th member
  placed : (ms : List M) (os ns : List (Option S)) (i : ℕ) (m : M) (moved : Option S)
      (rests : List (Option S)) (more : Bool) (out : A) → IsPlace ms os i m
      → drop i ns ≡ moved ∷ rests
      → UnionGoesOn has given fits (m ∷ drop (i + 1) ms) (get_or os i None ∷ drop (i + 1) os)
      (moved ∷ rests) more out
      → UnionGoesOn has given fits (drop i ms) (drop i os) (drop i ns) more out
  placed ms os ns i m moved rests more out p e g =
      subst (λ (l : List M). UnionGoesOn has given fits l (drop i os) (drop i ns) more out)
      (sym p.members)
      (subst (λ (l : List (Option S)). UnionGoesOn has given fits (m ∷ drop (i + 1) ms) l
      (drop i ns) more out) (sym p.states)
      (subst (λ (l : List (Option S)). UnionGoesOn has given fits (m ∷ drop (i + 1) ms)
      (get_or os i None ∷ drop (i + 1) os) l more out) (sym e) g))

  -- ---- a call at the i-th member

  low_set : (os mid : List (Option S)) (i : ℕ) (moved : Option S) → i < length os
      → mid ≡ set os i moved → i < length mid
  low_set os mid i moved low e =
      slice_get_within mid i moved
      (ap (λ (l : List (Option S)). slice_get l i) e ∙ get_set os i moved low)

  tail_same : (x y : Option S) (xs ys : List (Option S)) → x ∷ xs ≡ y ∷ ys → xs ≡ ys
  tail_same x y xs ys e = ap (λ (l : List (Option S)). drop 1 l) e

  -- the states behind the i-th stay
  later_stay : (os mid : List (Option S)) (i : ℕ) (moved : Option S) → i < length os
      → mid ≡ set os i moved → drop (i + 1) mid ≡ drop (i + 1) os
  later_stay os mid i moved low e =
      let low_mid : i < length mid = low_set os mid i moved low e in
      tail_same (get_or mid i None) moved (drop (i + 1) mid) (drop (i + 1) os)
      (sym (drop_more mid i None low_mid)
      ∙ ap (λ (l : List (Option S)). drop i l) e ∙ drop-set os i moved low)

  pub kept_by : (m : M) (os mid : List (Option S)) (i : ℕ) (more : Bool) (out : A)
      → MovesAt has given fits m i os mid more out → (k : ℕ) → k < i
      → slice_get mid k ≡ slice_get os k
  kept_by m os mid i more out moves k less =
      ap (λ (l : List (Option S)). slice_get l k) moves.1 ∙ get_set_other os i k moves.0 less

  pub fit_moved : (ms : List M) (os mid : List (Option S)) (i : ℕ) (m : M) (more : Bool) (out : A)
      → slice_get ms i ≡ Some m → UnionFits has given fits (drop i ms) (drop i os)
      → MovesAt has given fits m i os mid more out
      → UnionFits has given fits (drop (i + 1) ms) (drop (i + 1) mid)
  fit_moved ms os mid i m more out e h moves =
      let p = place_of ms os i m e h in
      subst (λ (l : List (Option S)). UnionFits has given fits (drop (i + 1) ms) l)
      (sym (later_stay os mid i moves.0 p.low moves.1)) p.fit.1

  pub goes_own_at : (ms : List M) (os mid : List (Option S)) (i : ℕ) (m : M) (more asked : Bool)
      (out : A) → slice_get ms i ≡ Some m → UnionFits has given fits (drop i ms) (drop i os)
      → MovesAt has given fits m i os mid more out → more ≡ true
      → asked ≡ some_has has (drop (i + 1) ms) out → asked ≡ false
      → UnionGoesOn has given fits (drop i ms) (drop i os) (drop i mid) true out
  goes_own_at ms os mid i m more asked out e h moves is own isnt =
      let p = place_of ms os i m e h in
      placed ms os mid i m moves.0 (drop (i + 1) os) true out p
      (ap (λ (l : List (Option S)). drop i l) moves.1 ∙ drop-set os i moves.0 p.low)
      (goes_own has given fits m (drop (i + 1) ms) (get_or os i None) moves.0 (drop (i + 1) os)
      more out p.fit moves.2 is (sym own ∙ isnt))

  -- the states from the i-th on, once later ones went on
  from_moved : (os mid ns : List (Option S)) (i : ℕ) (moved : Option S) → i < length os
      → mid ≡ set os i moved → ((k : ℕ) → k < i + 1 → slice_get ns k ≡ slice_get mid k)
      → drop i ns ≡ moved ∷ drop (i + 1) ns
  from_moved os mid ns i moved low e kept =
      at_place ns i moved
      (kept i (omega arith) ∙ ap (λ (l : List (Option S)). slice_get l i) e
      ∙ get_set os i moved low)

  pub kept_both : (m : M) (os mid ns : List (Option S)) (i : ℕ) (more : Bool) (out : A)
      → MovesAt has given fits m i os mid more out
      → ((k : ℕ) → k < i + 1 → slice_get ns k ≡ slice_get mid k) → (k : ℕ) → k < i
      → slice_get ns k ≡ slice_get os k
  kept_both m os mid ns i more out moves kept k less =
      kept k (omega (arith, less)) ∙ kept_by m os mid i more out moves k less

  along_later : (ms : List M) (os mid ns : List (Option S)) (i : ℕ) (more : Bool) (out : A)
      → drop (i + 1) mid ≡ drop (i + 1) os
      → UnionGoesOn has given fits (drop (i + 1) ms) (drop (i + 1) mid) (drop (i + 1) ns) more out
      → UnionGoesOn has given fits (drop (i + 1) ms) (drop (i + 1) os) (drop (i + 1) ns) more out
  along_later ms os mid ns i more out e g =
      subst (λ (l : List (Option S)). UnionGoesOn has given fits (drop (i + 1) ms) l
      (drop (i + 1) ns) more out) e g

  pub goes_shared_at : (ms : List M) (os mid ns : List (Option S)) (i : ℕ) (m : M)
      (more next asked : Bool) (first out : A) → slice_get ms i ≡ Some m
      → UnionFits has given fits (drop i ms) (drop i os)
      → MovesAt has given fits m i os mid more first → more ≡ true
      → asked ≡ some_has has (drop (i + 1) ms) first → asked ≡ true
      → ((k : ℕ) → k < i + 1 → slice_get ns k ≡ slice_get mid k)
      → UnionGoesOn has given fits (drop (i + 1) ms) (drop (i + 1) mid) (drop (i + 1) ns) next out
      → UnionGoesOn has given fits (drop i ms) (drop i os) (drop i ns) next out
  goes_shared_at ms os mid ns i m more next asked first out e h moves is shared has_it kept g =
      let p = place_of ms os i m e h in
      placed ms os ns i m moves.0 (drop (i + 1) ns) next out p
      (from_moved os mid ns i moves.0 p.low moves.1 kept)
      (goes_shared has given fits m (drop (i + 1) ms) (get_or os i None) moves.0 (drop (i + 1) os)
      (drop (i + 1) ns) more next first out p.fit moves.2 is (sym shared ∙ has_it)
      (along_later ms os mid ns i next out (later_stay os mid i moves.0 p.low moves.1) g))

  pub goes_rest_at : (ms : List M) (os mid ns : List (Option S)) (i : ℕ) (m : M)
      (more next : Bool) (first out : A) → slice_get ms i ≡ Some m
      → UnionFits has given fits (drop i ms) (drop i os)
      → MovesAt has given fits m i os mid more first → more ≡ false
      → ((k : ℕ) → k < i + 1 → slice_get ns k ≡ slice_get mid k)
      → UnionGoesOn has given fits (drop (i + 1) ms) (drop (i + 1) mid) (drop (i + 1) ns) next out
      → UnionGoesOn has given fits (drop i ms) (drop i os) (drop i ns) next out
  goes_rest_at ms os mid ns i m more next first out e h moves isnt kept g =
      let p = place_of ms os i m e h in
      placed ms os ns i m moves.0 (drop (i + 1) ns) next out p
      (from_moved os mid ns i moves.0 p.low moves.1 kept)
      (goes_rest has given fits m (drop (i + 1) ms) (get_or os i None) moves.0 (drop (i + 1) os)
      (drop (i + 1) ns) more next first out p.fit moves.2 isnt
      (along_later ms os mid ns i next out (later_stay os mid i moves.0 p.low moves.1) g))

  -- ---- a test at the i-th member

  pub has_here : (ms : List M) (i : ℕ) (m : M) (t : A) (b : Bool) → slice_get ms i ≡ Some m
      → b ≡ has m t → b ≡ true → b ≡ some_has has (drop i ms) t
  has_here ms i m t b e same is =
      is ∙ sym (ap (λ (l : List M). some_has has l t) (at_place ms i m e)
      ∙ ap (λ (r : Bool). r || some_has has (drop (i + 1) ms) t) (sym same ∙ is))

  -- ---- whether one is left, from the i-th member on

  left_placed : (ms : List M) (os : List (Option S)) (i : ℕ) (m : M) (r : Bool)
      → IsPlace ms os i m
      → (r ≡ false) ↔ AreAllCells (some_has has (m ∷ drop (i + 1) ms))
      (union_given has given (m ∷ drop (i + 1) ms) (get_or os i None ∷ drop (i + 1) os))
      → (r ≡ false) ↔ AreAllCells (some_has has (drop i ms))
      (union_given has given (drop i ms) (drop i os))
  left_placed ms os i m r p h =
      subst (λ (l : List M). (r ≡ false) ↔ AreAllCells (some_has has l)
      (union_given has given l (drop i os))) (sym p.members)
      (subst (λ (l : List (Option S)). (r ≡ false) ↔ AreAllCells (some_has has (m ∷ drop (i + 1) ms))
      (union_given has given (m ∷ drop (i + 1) ms) l)) (sym p.states) h)

  one_along : (m : M) (o p : Option S) (b : Bool) → o ≡ p
      → (b ≡ false) ↔ AreAllCells (has m) (given_at given m o)
      → (b ≡ false) ↔ AreAllCells (has m) (given_at given m p)
  one_along m o p b same one =
      subst (λ (q : Option S). (b ≡ false) ↔ AreAllCells (has m) (given_at given m q)) same one

  pub left_here_at : (ms : List M) (os : List (Option S)) (i : ℕ) (m : M) (o : Option S) (b : Bool)
      → slice_get ms i ≡ Some m → UnionFits has given fits (drop i ms) (drop i os)
      → o ≡ get_or os i None → b ≡ true → (b ≡ false) ↔ AreAllCells (has m) (given_at given m o)
      → (true ≡ false) ↔ AreAllCells (some_has has (drop i ms))
      (union_given has given (drop i ms) (drop i os))
  left_here_at ms os i m o b e h same is one =
      let p = place_of ms os i m e h in
      left_placed ms os i m true p
      (left_here has given fits m (drop (i + 1) ms) (get_or os i None) (drop (i + 1) os) b p.fit is
      (one_along m o (get_or os i None) b same one))

  pub left_later_at : (ms : List M) (os : List (Option S)) (i : ℕ) (m : M) (o : Option S)
      (b r : Bool) → slice_get ms i ≡ Some m → UnionFits has given fits (drop i ms) (drop i os)
      → o ≡ get_or os i None → b ≡ false → (b ≡ false) ↔ AreAllCells (has m) (given_at given m o)
      → (r ≡ false) ↔ AreAllCells (some_has has (drop (i + 1) ms))
      (union_given has given (drop (i + 1) ms) (drop (i + 1) os))
      → (r ≡ false) ↔ AreAllCells (some_has has (drop i ms))
      (union_given has given (drop i ms) (drop i os))
  left_later_at ms os i m o b r e h same isnt one rest =
      let p = place_of ms os i m e h in
      left_placed ms os i m r p
      (left_later has given fits m (drop (i + 1) ms) (get_or os i None) (drop (i + 1) os) b r p.fit
      isnt (one_along m o (get_or os i None) b same one) rest)

-- ---- What a union counts at most.

module _ {M : Type 0} (most asks : M → ℕ) where
  pub sum_here : (ms : List M) (i : ℕ) (m : M) → slice_get ms i ≡ Some m
      → sum_by asks (drop i ms) ≡ asks m + sum_by asks (drop (i + 1) ms)
  sum_here ms i m e =
      ap (λ (l : List M). sum_by asks l) (at_place ms i m e) ∙ sum_by-cons asks m (drop (i + 1) ms)

  grown : (j c first asked rest steps : ℕ) → first ≤ c → steps ≤ (j + 1) * c + j * rest
      → first + rest + steps ≤ (j + 1 + 1) * c + (j + 1) * (asked + rest)
  grown j c first asked rest steps one more = omega (arith, one, more)

  steps_by : (c : ℕ) (m : M) (ms : List M) → All (λ n. most n ≤ c) (m ∷ ms)
      → union_steps most asks (m ∷ ms) ≤ (length ms + 1) * c + length ms * sum_by asks (m ∷ ms)
  steps_by c m [] h =
      let first = All-head (λ (n : M). most n ≤ c) m [] h in
      omega (arith, first)
  steps_by c m (n ∷ ms) h =
      let here = All-head (λ (l : M). most l ≤ c) m (n ∷ ms) h in
      let rest = steps_by c n ms (All-tail (λ (l : M). most l ≤ c) m (n ∷ ms) h) in
      let more = grown (length ms) c (most m) (asks m) (sum_by asks (n ∷ ms))
      (union_steps most asks (n ∷ ms)) here rest in
      let sum = sum_by-cons asks m (n ∷ ms) in
      let long : length (n ∷ ms) ≡ length ms + 1 = omega arith in
      subst (λ (k : ℕ). union_steps most asks (m ∷ n ∷ ms) ≤ (k + 1) * c
      + k * sum_by asks (m ∷ n ∷ ms)) (sym long)
      (subst (λ (s : ℕ). union_steps most asks (m ∷ n ∷ ms) ≤ (length ms + 1 + 1) * c
      + (length ms + 1) * s) (sym sum) more)

  pub steps_within : (c : ℕ) (ms : List M) → All (λ n. most n ≤ c) ms
      → union_steps most asks ms ≤ union_most asks ms c
  steps_within c [] h = omega arith
  steps_within c (m ∷ ms) h =
      let long : length (m ∷ ms) ≡ length ms + 1 = omega arith in
      let less : length (m ∷ ms) - 1 ≡ length ms = omega arith in
      subst (λ (k : ℕ). union_steps most asks (m ∷ ms) ≤ k * c
      + (length (m ∷ ms) - 1) * sum_by asks (m ∷ ms)) (sym long)
      (subst (λ (k : ℕ). union_steps most asks (m ∷ ms) ≤ (length ms + 1) * c
      + k * sum_by asks (m ∷ ms)) (sym less) (steps_by c m ms h))
