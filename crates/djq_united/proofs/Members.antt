-- The members of a union: their places, their heads, and the values of their cells.
use Rattle.std.proofs.Common.{◌≡◌, ℕ, Bool, true, List, [], ◌∷◌, map, ◌⊎◌, inl, inr, refl, ap, ap₂, sym, subst, ◌∙◌}
use Rattle.std.proofs.Common.{◌++◌, zero, suc, ◌+◌, ◌<◌, ◌≤◌, false, length, take, arith, append_assoc, ◌-◌, ◌*◌}
use Rattle.std.specs.Prelude.{Any, Contains, ⊤, All, Option, None, Some, IsSomeAnd, option_to_list, ◌&&◌, ◌||◌, not}
use Rattle.std.specs.Prelude.{slice_get, slice_index}
use Rattle.std.specs.List.{list_any, AllByRecursion, AllZip, sum_by}
use Rattle.std.proofs.lemmas.Bool.{cases_Bool, false≢true, or_cases, or_left, or_right}
use Rattle.std.proofs.lemmas.List.Elements.{Contains-append_cases}
use Rattle.std.proofs.lemmas.List.{take_more, take_all, length-map}
use Rattle.std.proofs.lemmas.Option.{same_Some}
use Rattle.std.proofs.lemmas.List.Sums.{sum_by-cons}
use Rattle.djq_model.specs.declared.relation.ColumnType.{ColumnType}
use Rattle.djq_model.specs.declared.relation.ColumnType.TheVariants.{Int, Text}
use Rattle.djq_model.specs.declared.query.Query.{Query}
use Rattle.djq_model.specs.Typed.{same_type}
use Rattle.djq_model.specs.Data.{Tuple}
use Rattle.djq_model.specs.Answer.{IsAnswer}
use Rattle.djq_index.specs.Tuple.{same}
use Rattle.djq_index.proofs.Tuples.{same_is, is_same}
use Rattle.djq_union.specs.Answers.{AreAllCells}
use Rattle.djq_union.specs.Union.{some_has}
use Rattle.djq_union.specs.Steps.{union_most}
use Rattle.djq_union.proofs.Merges.{none_contained, at_head, in_tail, head_or_tail, all_of}
use Rattle.djq_database.specs.Catalog.{Catalog}
use Rattle.djq_database.specs.Cells.{StandFor}
use Rattle.djq_enumeration.specs.Menus.{has_tuple}
use Rattle.djq_enumeration.proofs.Menus.{contains_of}
use Rattle.djq_store_spec.specs.Union.{same_types}
use Rattle.djq_store_spec.specs.Asking.{answer_types, variable_type}
use Rattle.djq_store_spec.specs.Listing.{IsLeft, AreAll}
use Rattle.djq_store_spec.specs.Registering.{most_steps, width_of, atoms_of}
use Rattle.djq_binder.specs.Asked.{column_of}
use Rattle.djq_leaves.proofs.TreeAnswers.{in_image, image_of}
use Rattle.djq_live_query.specs.Live.{Live, IsKept, IsKeptSomewhere, IsShowable, values_of}
use Rattle.djq_live_query.specs.Member.{query_at, queries_at, head_types, AreAlike, has_cells, in_tree}
use Rattle.djq_live_query.specs.Order.{cell_of_variable}
use Rattle.djq_live_query.proofs.Catalogs.{nth_is, nth_has}
use Rattle.djq_live_query.proofs.TreeAnswers.{tree_stand}
use Rattle.djq_live_query.proofs.HeadAnswers.{are_had, cells_tell, had_stand, have_cells, head_are, had_from}
use Rattle.djq_united.specs.United.{AreKept, heads_differ, first_of_members, AtFirst, shown_cells}
use Rattle.djq_united.specs.Staying.{KeepMembers}
use Rattle.djq_united.specs.Reading.{IsShownBy}
use Rattle.djq_united.specs.Advancing.{most_of}

-- ---- Lists, by what they contain.

module _ {A : Type 0} where
  -- ---- a test that some element passes

  -- an element that passes
  pub record HasOne (p : A → Bool) (xs : List A) : Type 0 where
    pub one : A
    pub there : Contains xs one
    pub is : p one ≡ true

  pub has_one : (p : A → Bool) (xs : List A) → list_any p xs ≡ true → HasOne p xs
  has_one p [] h = absurd (false≢true h)
  has_one p (x ∷ xs) h = elim (or_cases (p x) (list_any p xs) h) [
    | inl here ↦ record { one = x; there = at_head x xs; is = here }
    | inr later ↦
        let r = has_one p xs later in
        record { one = r.one; there = in_tail x xs r.one r.there; is = r.is }
  ]

  pub one_has : (p : A → Bool) (xs : List A) (x : A) → Contains xs x → p x ≡ true
      → list_any p xs ≡ true
  one_has p [] x there is = absurd (none_contained x there)
  one_has p (y ∷ ys) x there is = elim (head_or_tail y ys x there) [
    | inl here ↦ or_left (p y) (list_any p ys) (ap p here ∙ is)
    | inr later ↦ or_right (p y) (list_any p ys) (one_has p ys x later is)
  ]

  pub some_one : (P : A → Type 0) (xs : List A) → Any P xs → (x : A) × Contains xs x × P x
  some_one P xs (k, x, low, e, h) = (x, (k, low, e), h)

  pub one_there : (P : A → Type 0) (xs : List A) (x : A) → Contains xs x → P x → Any P xs
  one_there P xs x (k, low, e) h = (k, x, low, e, h)

module _ {A B : Type 0} (f : A → B) where
  -- ---- what a function makes of a list

  pub same_images : (g : A → B) (xs : List A) → ((x : A) → Contains xs x → f x ≡ g x)
      → map f xs ≡ map g xs
  same_images g [] h = refl
  same_images g (x ∷ xs) h =
      ap₂ (λ (b : B) (bs : List B). b ∷ bs) (h x (at_head x xs))
      (same_images g xs (λ y there. h y (in_tail x xs y there)))

-- ---- tuples of cells that are in a list, and those that aren't

pub found : (us : List (List ℕ)) (t : List ℕ) → Contains us t → has_tuple us t ≡ true
found [] t there = absurd (none_contained t there)
found (u ∷ us) t there = elim (head_or_tail u us t there) [
  | inl here ↦ or_left (same u t) (has_tuple us t) (is_same u t here)
  | inr later ↦ or_right (same u t) (has_tuple us t) (found us t later)
]

-- either each tuple that passes a test is in a list, or one of them isn't
pub record IsMissing (p : List ℕ → Bool) (us : List (List ℕ)) : Type 0 where
  pub cells : List ℕ
  pub is : p cells ≡ true
  pub fresh : Contains us cells → ⊥

pub missing : (us xs : List (List ℕ))
    → ((t : List ℕ) → has_tuple xs t ≡ true → Contains us t) ⊎ IsMissing (has_tuple xs) us
missing us [] = inl (λ t h. absurd (false≢true h))
missing us (x ∷ xs) = elim (missing us xs) [
  | inl all ↦ elim (cases_Bool (has_tuple us x)) [
    | inl given ↦ inl (λ t h. elim (or_cases (same x t) (has_tuple xs t) h) [
      | inl here ↦ subst (λ (u : List ℕ). Contains us u) (same_is x t here) (contains_of us x given)
      | inr later ↦ all t later
    ])
    | inr new ↦ inr (record {
      cells = x;
      is = or_left (same x x) (has_tuple xs x) (is_same x x refl);
      fresh = λ there. false≢true (sym new ∙ found us x there);
    })
  ]
  | inr m ↦ inr (record {
    cells = m.cells;
    is = or_right (same x m.cells) (has_tuple xs m.cells) m.is;
    fresh = m.fresh;
  })
]

-- ---- The members of a union, among the queries in their places.

-- the place of a member
pub record IsPlaced (qs : List (Option Live)) (ks : List ℕ) (l : Live) : Type 0 where
  pub place : ℕ
  pub there : Contains ks place
  pub is : query_at qs place ≡ Some l

pub placed : (qs : List (Option Live)) (ks : List ℕ) (l : Live) → Contains (queries_at qs ks) l
    → IsPlaced qs ks l
placed qs [] l there = absurd (none_contained l there)
placed qs (k ∷ ks) l there =
    elim (Contains-append_cases (option_to_list (query_at qs k)) (queries_at qs ks) l there) [
      | inl here ↦ record { place = k; there = at_head k ks; is = only (query_at qs k) here }
      | inr later ↦
          let r = placed qs ks l later in
          record { place = r.place; there = in_tail k ks r.place r.there; is = r.is }
    ]
  where
    only : (o : Option Live) → Contains (option_to_list o) l → o ≡ Some l
    only None none = absurd (none_contained l none)
    only (Some m) one = elim (head_or_tail m [] l one) [
      | inl same ↦ cc
      | inr none ↦ absurd (none_contained l none)
    ]

-- Members are kept over the catalog over which the queries in all places are.
pub member_kept : (c : Catalog) (qs : List (Option Live)) (ks : List ℕ) (l : Live)
    → AreKept c qs → Contains (queries_at qs ks) l → IsKept c l
member_kept c qs ks l kept there =
    let p = placed qs ks l there in
    kept.each p.place l p.is

pub members_ready : (c : Catalog) (qs : List (Option Live)) (ks : List ℕ) → AreKept c qs
    → All IsKeptSomewhere (queries_at qs ks)
members_ready c qs ks kept =
    all_of IsKeptSomewhere (queries_at qs ks) (λ l there. (c, member_kept c qs ks l kept there))

-- ---- the same places later

zip_more : (Same : Live → Live → Type 0) (o n : Option Live) (ls ms : List Live)
    → IsSomeAnd o (λ l. ⊤) → ((l : Live) → o ≡ Some l → IsSomeAnd n (Same l))
    → AllZip Same ls ms → AllZip Same (option_to_list o ++ ls) (option_to_list n ++ ms)
zip_more Same None n ls ms there h rest = absurd there
zip_more Same (Some l) None ls ms there h rest = absurd (h l refl)
zip_more Same (Some l) (Some m) ls ms there h rest = (h l refl, rest)

some_more : (Same : Live → Live → Type 0) (o n : Option Live) → IsSomeAnd o (λ l. ⊤)
    → ((l : Live) → o ≡ Some l → IsSomeAnd n (Same l)) → IsSomeAnd n (λ l. ⊤)
some_more Same None n there h = absurd there
some_more Same (Some l) None there h = absurd (h l refl)
some_more Same (Some l) (Some m) there h = tt

keep_tail : (Same : Live → Live → Type 0) (old new : List (Option Live)) (k : ℕ) (ks : List ℕ)
    → KeepMembers Same old new (k ∷ ks) → KeepMembers Same old new ks
keep_tail Same old new k ks keep =
    record { each = λ j l there. keep.each j l (in_tail k ks j there) }

-- members one by one, before and later
pub members_zip : (Same : Live → Live → Type 0) (old new : List (Option Live)) (ks : List ℕ)
    → KeepMembers Same old new ks
    → AllByRecursion (λ k. IsSomeAnd (query_at old k) (λ l. ⊤)) ks
    → AllZip Same (queries_at old ks) (queries_at new ks)
members_zip Same old new [] keep have = tt
members_zip Same old new (k ∷ ks) keep have =
    zip_more Same (query_at old k) (query_at new k) (queries_at old ks) (queries_at new ks)
    have.0 (λ l. keep.each k l (at_head k ks))
    (members_zip Same old new ks (keep_tail Same old new k ks keep) have.1)

pub still_have : (Same : Live → Live → Type 0) (old new : List (Option Live)) (ks : List ℕ)
    → KeepMembers Same old new ks
    → AllByRecursion (λ k. IsSomeAnd (query_at old k) (λ l. ⊤)) ks
    → AllByRecursion (λ k. IsSomeAnd (query_at new k) (λ l. ⊤)) ks
still_have Same old new [] keep have = tt
still_have Same old new (k ∷ ks) keep have = (
  some_more Same (query_at old k) (query_at new k) have.0 (λ l. keep.each k l (at_head k ks)),
  still_have Same old new ks (keep_tail Same old new k ks keep) have.1,
)

-- ---- Whether the answers of queries have the same types.

-- ---- types

one_type : (c d : ColumnType) → same_type c d ≡ true → c ≡ d
one_type Int Int e = refl
one_type Text Text e = refl
one_type Int Text e = absurd cc
one_type Text Int e = absurd cc

pub all_types : (cs ds : List ColumnType) → same_types cs ds ≡ true → cs ≡ ds
all_types [] [] e = refl
all_types [] (d ∷ ds) e = absurd cc
all_types (c ∷ cs) [] e = absurd cc
all_types (c ∷ cs) (d ∷ ds) e = by (same_type c d) refl e (λ h. all_types cs ds h)
  where
    by : (b : Bool) → same_type c d ≡ b → (b && same_types cs ds) ≡ true
        → (same_types cs ds ≡ true → cs ≡ ds) → c ∷ cs ≡ d ∷ ds
    by false k h more = absurd cc
    by true k h more =
        ap₂ (λ (x : ColumnType) (xs : List ColumnType). x ∷ xs) (one_type c d k) (more h)

own_type : (c : ColumnType) → same_type c c ≡ true
own_type Int = refl
own_type Text = refl

own_types : (cs : List ColumnType) → same_types cs cs ≡ true
own_types [] = refl
own_types (c ∷ cs) = ap (λ (b : Bool). b && same_types cs cs) (own_type c) ∙ own_types cs

-- ---- heads

-- whether a query's answers have other types
abbrev pub differs : Live → Live → Bool
differs l m = not (same_types (head_types l) (head_types m))

not_own : (l : Live) → differs l l ≡ false
not_own l = ap (λ (b : Bool). not b) (own_types (head_types l))

alike_first : (l m : Live) → differs l m ≡ false → head_types l ≡ head_types m
alike_first l m e = all_types (head_types l) (head_types m)
    (none_other (same_types (head_types l) (head_types m)) e)
  where
    none_other : (b : Bool) → not b ≡ false → b ≡ true
    none_other true e = refl
    none_other false e = absurd cc

-- The first one may be compared with itself, too.
with_first : (l : Live) (ls : List Live)
    → heads_differ (l ∷ ls) ≡ list_any (differs l) (l ∷ ls)
with_first l ls = sym (ap (λ (b : Bool). b || list_any (differs l) ls) (not_own l))

none_differs : (l : Live) (ls : List Live) → list_any (differs l) (l ∷ ls) ≡ false → (m : Live)
    → Contains (l ∷ ls) m → head_types l ≡ head_types m
none_differs l ls none m there = elim (cases_Bool (differs l m)) [
  | inl other ↦ absurd (false≢true (sym none ∙ one_has (differs l) (l ∷ ls) m there other))
  | inr same ↦ alike_first l m same
]

are_alike : (l : Live) (ls : List Live) → list_any (differs l) (l ∷ ls) ≡ false
    → AreAlike (l ∷ ls)
are_alike l ls none = record {
  each = λ m n there later. sym (none_differs l ls none m there) ∙ none_differs l ls none n later;
}

-- ---- of queries in places, one after another

places_append : (qs : List (Option Live)) (js ks : List ℕ)
    → queries_at qs (js ++ ks) ≡ queries_at qs js ++ queries_at qs ks
places_append qs [] ks = refl
places_append qs (j ∷ js) ks =
    ap (λ (ls : List Live). option_to_list (query_at qs j) ++ ls) (places_append qs js ks)
    ∙ sym (append_assoc (option_to_list (query_at qs j)) (queries_at qs js) (queries_at qs ks))

-- the query in one more place
one_more : (qs : List (Option Live)) (k : ℕ) (m : Live) → query_at qs k ≡ Some m
    → queries_at qs (k ∷ []) ≡ m ∷ []
one_more qs k m e = ap (λ (o : Option Live). option_to_list o ++ []) e

any_last : (p : Live → Bool) (ls : List Live) (m : Live) → list_any p ls ≡ false → p m ≡ false
    → list_any p (ls ++ m ∷ []) ≡ false
any_last p [] m none last = ap (λ (b : Bool). b || false) last
any_last p (l ∷ ls) m none last = by (p l) none (λ h. any_last p ls m h last)
  where
    by : (b : Bool) → (b || list_any p ls) ≡ false
        → (list_any p ls ≡ false → list_any p (ls ++ m ∷ []) ≡ false)
        → (b || list_any p (ls ++ m ∷ [])) ≡ false
    by true e more = absurd cc
    by false e more = more e

pub none_yet : (qs : List (Option Live)) (ks : List ℕ) (i : ℕ) (f m : Live) → i < length ks
    → query_at qs (slice_index ks i) ≡ Some m → differs f m ≡ false
    → list_any (differs f) (queries_at qs (take i ks)) ≡ false
    → list_any (differs f) (queries_at qs (take (i + 1) ks)) ≡ false
none_yet qs ks i f m low there same none =
    ap (λ (js : List ℕ). list_any (differs f) (queries_at qs js)) (take_more ks i 0 low)
    ∙ ap (list_any (differs f))
    (places_append qs (take i ks) (slice_index ks i ∷ [])
    ∙ ap (λ (ls : List Live). queries_at qs (take i ks) ++ ls)
    (one_more qs (slice_index ks i) m there))
    ∙ any_last (differs f) (queries_at qs (take i ks)) m none same

nth_in : (ls : List Live) (i : ℕ) (m : Live) → slice_get ls i ≡ Some m → Contains ls m
nth_in [] zero m e = absurd cc
nth_in [] (suc i) m e = absurd cc
nth_in (l ∷ ls) zero m e = subst (λ (n : Live). Contains (l ∷ ls) n) (same_Some l m e) (at_head l ls)
nth_in (l ∷ ls) (suc i) m e = in_tail l ls m (nth_in ls i m e)

-- the first place has the first of them
heads_as : (f : Live) (ls : List Live) → slice_get ls 0 ≡ Some f
    → heads_differ ls ≡ list_any (differs f) ls
heads_as f [] e = absurd cc
heads_as f (l ∷ ls) e = subst (λ (n : Live). heads_differ (l ∷ ls) ≡ list_any (differs n) (l ∷ ls))
    (same_Some l f e) (with_first l ls)

alike_as : (f : Live) (ls : List Live) → slice_get ls 0 ≡ Some f
    → list_any (differs f) ls ≡ false → AreAlike ls
alike_as f [] e none = absurd cc
alike_as f (l ∷ ls) e none =
    are_alike l ls (subst (λ (n : Live). list_any (differs n) (l ∷ ls) ≡ false)
    (sym (same_Some l f e)) none)

abbrev Have : List (Option Live) → List ℕ → Type 0
Have qs ks = AllByRecursion (λ k. IsSomeAnd (query_at qs k) (λ l. ⊤)) ks

pub one_differs : (qs : List (Option Live)) (ks : List ℕ) (i : ℕ) (f m : Live) → Have qs ks
    → i < length ks → query_at qs (slice_index ks 0) ≡ Some f
    → query_at qs (slice_index ks i) ≡ Some m → differs f m ≡ true
    → heads_differ (queries_at qs ks) ≡ true
one_differs qs ks i f m have low first there other =
    heads_as f (queries_at qs ks) (nth_is qs ks 0 have (omega arith) ∙ first)
    ∙ one_has (differs f) (queries_at qs ks) m
    (nth_in (queries_at qs ks) i m (nth_is qs ks i have low ∙ there)) other

all_same : (qs : List (Option Live)) (ks : List ℕ) (f : Live) → Have qs ks
    → 0 < length ks → query_at qs (slice_index ks 0) ≡ Some f
    → list_any (differs f) (queries_at qs ks) ≡ false
    → (heads_differ (queries_at qs ks) ≡ false) × AreAlike (queries_at qs ks)
all_same qs ks f have low first none =
    let here = nth_is qs ks 0 have low ∙ first in (
      heads_as f (queries_at qs ks) here ∙ none,
      alike_as f (queries_at qs ks) here none,
    )

-- ---- behind the last one

there_is : (o : Option Live) → IsSomeAnd o (λ l. ⊤) → (f : Live) × (o ≡ Some f)
there_is None h = absurd h
there_is (Some f) h = (f, refl)

pub finished : (qs : List (Option Live)) (ks : List ℕ) (i first : ℕ) → Have qs ks
    → 0 < length ks → first ≡ slice_index ks 0 → length ks ≤ i
    → ((f : Live) → query_at qs first ≡ Some f
    → list_any (differs f) (queries_at qs (take i ks)) ≡ false)
    → (heads_differ (queries_at qs ks) ≡ false) × AreAlike (queries_at qs ks)
finished qs ks i first have low e end none =
    let t = there_is (query_at qs (slice_index ks 0)) (nth_has qs ks 0 have low) in
    all_same qs ks t.0 have low t.1
    (sym (ap (λ (js : List ℕ). list_any (differs t.0) (queries_at qs js)) (take_all i ks end))
    ∙ none t.0 (ap (query_at qs) e ∙ t.1))

-- ---- From cells of a union's answers to values. Members have the same types of answers, so what stands for a tuple as
-- the cells of one of them does so as cells of the first.

-- members that are alike, over one catalog
pub record AreOver (c : Catalog) (ls : List Live) : Type 0 where
  pub kept : (l : Live) → Contains ls l → IsKept c l
  pub alike : AreAlike ls

-- some member has the tuple as an answer
abbrev pub IsAnswerOfSome : Catalog → List Live → Tuple → Type 0
IsAnswerOfSome c ls t = Any (λ q. IsAnswer c.relations q t) (map (λ l. l.query) ls)

-- the cells pass as those of an answer of some member
abbrev pub IsHad : List Live → List ℕ → Type 0
IsHad ls t = some_has has_cells ls t ≡ true

-- these cells show an answer, as the first member shows them
record Shows (c : Catalog) (first : Live) (ls : List Live) (t : List ℕ) : Type 0 where
  pub answer : IsAnswerOfSome c ls (values_of c.texts first (in_tree first t))
  pub stands : StandFor c.texts (answer_types c.relations first.query) t
      (values_of c.texts first (in_tree first t))
  pub showable : IsShowable c.texts first (in_tree first t)

module _ (c : Catalog) (first : Live) (rest : List Live) (over : AreOver c (first ∷ rest)) where
  abbrev group : List Live
  group = first ∷ rest

  abbrev show : List ℕ → Tuple
  show t = values_of c.texts first (in_tree first t)

  abbrev types : Live → List ColumnType
  types l = answer_types c.relations l.query

  first_kept : IsKept c first
  first_kept = over.kept first (at_head first rest)

  same_types_values : (l : Live) → Contains group l → types l ≡ types first
  same_types_values l there =
      sym (head_are c l (over.kept l there))
      ∙ over.alike.each l first there (at_head first rest)
      ∙ head_are c first first_kept

  -- what stands for a tuple is shown by the first member so
  shown_as : (t : List ℕ) (v : Tuple) → StandFor c.texts (types first) t v
      → IsShownBy c.texts first (in_tree first t) v
  shown_as t v stand =
      let s = tree_stand c first first_kept t v
      (subst (λ (cs : List ColumnType). StandFor c.texts cs t v)
      (sym (head_are c first first_kept)) stand) in
      record { showable = s.showable; is = sym s.shows }

  shows : (t : List ℕ) → IsHad group t → Shows c first group t
  shows t had =
      let h = has_one (λ l. has_cells l t) group had in
      let kept = over.kept h.one h.there in
      let v = had_stand c h.one kept t h.is in
      let is = (are_had c h.one kept t v.0 v.1).0 h.is in
      let stand = subst (λ (cs : List ColumnType). StandFor c.texts cs t v.0)
      (same_types_values h.one h.there) v.1 in
      let s = shown_as t v.0 stand in
      record {
        answer = one_there (λ q. IsAnswer c.relations q (show t)) (map (λ l. l.query) group)
            h.one.query (in_image (λ (l : Live). l.query) group h.one h.there)
            (subst (IsAnswer c.relations h.one.query) s.is is);
        stands = subst (StandFor c.texts (types first) t) s.is stand;
        showable = s.showable;
      }

  -- each answer has cells
  answer_had : (v : Tuple) → IsAnswerOfSome c group v
      → (t : List ℕ) × IsHad group t × (show t ≡ v)
  answer_had v is =
      let q = some_one (λ q. IsAnswer c.relations q v) (map (λ l. l.query) group) is in
      let i = image_of (λ (l : Live). l.query) group q.0 q.1 in
      let l = i.of in
      let kept = over.kept l i.there in
      let answer : IsAnswer c.relations l.query v =
      subst (λ (p : Query). IsAnswer c.relations p v) i.is q.2 in
      let t = have_cells c l kept v answer in
      let stand = subst (λ (cs : List ColumnType). StandFor c.texts cs t.0 v)
      (same_types_values l i.there) t.1 in (
        t.0,
        one_has (λ m. has_cells m t.0) group l i.there ((are_had c l kept t.0 v t.1).1 answer),
        sym (shown_as t.0 v stand).is,
      )

  -- different cells show different tuples
  shown_apart : (t u : List ℕ) → IsHad group t → IsHad group u → show t ≡ show u → t ≡ u
  shown_apart t u a b e =
      (cells_tell c first first refl t u (show t) (show u) (shows t a).stands (shows u b).stands).1
      e

  shows_left : (us : List (List ℕ)) (u : List ℕ) → ((t : List ℕ) → Contains us t → IsHad group t)
      → IsHad group u → (Contains us u → ⊥) → IsLeft (IsAnswerOfSome c group) (map show us) (show u)
  shows_left us u each had fresh = (
    (shows u had).answer,
    λ there.
        let i = image_of show us (show u) there in
        fresh (subst (λ (t : List ℕ). Contains us t)
        (sym (shown_apart u i.of had (each i.of i.there) i.is)) i.there),
  )

  shows_all : (us : List (List ℕ)) → AreAllCells (some_has has_cells group) us
      → AreAll (IsAnswerOfSome c group) (map show us)
  shows_all us all v is =
      let t = answer_had v is in
      subst (λ (w : Tuple). Contains (map show us) w) t.2
      (in_image show us t.0 (all t.0 t.1))

-- ---- of any members

none_had : (t : List ℕ) → IsHad [] t → ⊥
none_had t had = false≢true had

pub left_shown : (c : Catalog) (ls : List Live) (us : List (List ℕ)) (u : List ℕ) → AreOver c ls
    → ((t : List ℕ) → Contains us t → IsHad ls t) → IsHad ls u → (Contains us u → ⊥)
    → IsLeft (IsAnswerOfSome c ls) (map (shown_cells c.texts ls) us) (shown_cells c.texts ls u)
left_shown c [] us u over each had fresh = absurd (none_had u had)
left_shown c (l ∷ ls) us u over each had fresh = shows_left c l ls over us u each had fresh

pub all_shown : (c : Catalog) (ls : List Live) (us : List (List ℕ)) → AreOver c ls
    → AreAllCells (some_has has_cells ls) us
    → AreAll (IsAnswerOfSome c ls) (map (shown_cells c.texts ls) us)
all_shown c [] us over all = λ v is.
    let q = some_one (λ (q : Query). IsAnswer c.relations q v) [] is in
    absurd (none_contained q.0 q.1)
all_shown c (l ∷ ls) us over all = shows_all c l ls over us all

-- the first member shows the values
pub first_shows : (c : Catalog) (ls : List Live) (t answer : List ℕ) → AreOver c ls → IsHad ls t
    → AtFirst ls (λ l. answer ≡ in_tree l t)
    → AtFirst ls (λ l. IsShownBy c.texts l answer (shown_cells c.texts ls t))
first_shows c [] t answer over had is = absurd is
first_shows c (l ∷ ls) t answer over had is = record {
  showable = subst (IsShowable c.texts l) (sym is) (shows c l ls over t had).showable;
  is = ap (values_of c.texts l) (sym is);
}

-- it can show them
pub first_showable : (c : Catalog) (l : Live) (ls : List Live) (t : List ℕ) → AreOver c (l ∷ ls)
    → IsHad (l ∷ ls) t → IsShowable c.texts l (in_tree l t)
first_showable c l ls t over had = (shows c l ls over t had).showable

-- ---- the first member, as it is lent

pub first_at : (l : Live) (ls : List Live) → slice_get ls 0 ≡ Some l → first_of_members ls ≡ Some l
first_at l [] e = absurd cc
first_at l (m ∷ ms) e = e

pub at_first : (P : Live → Type 0) (l : Live) (ls : List Live) → slice_get ls 0 ≡ Some l → P l
    → AtFirst ls P
at_first P l ls e h =
    subst (λ (o : Option Live). IsSomeAnd o P) (sym (first_at l ls e)) h

pub first_in : (l : Live) (ls : List Live) → slice_get ls 0 ≡ Some l → Contains ls l
first_in l [] e = absurd cc
first_in l (m ∷ ms) e =
    subst (λ (n : Live). Contains (m ∷ ms) n) (same_Some m l e) (at_head m ms)

-- ---- What a union's calls count.

abbrev queries : List Live → List Query
queries ls = map (λ l. l.query) ls

-- a query's head is as wide as its answers
pub head_wide : (c : Catalog) (l : Live) → IsKept c l
    → length (l.query).head ≡ length (head_types l)
head_wide c l kept =
    sym (ap (λ (cs : List ColumnType). length cs) (head_are c l kept)
    ∙ length-map (l.query).head (variable_type c.relations (l.query).atoms))

-- Cells of an answer are as many as the head of any member has variables.
pub cells_wide : (c : Catalog) (ls : List Live) (m : Live) (t : List ℕ) → AreOver c ls
    → Contains ls m → IsHad ls t → length t ≡ length (m.query).head
cells_wide c ls m t over there had =
    let h = has_one (λ l. has_cells l t) ls had in
    let kept = over.kept h.one h.there in
    let from = had_from h.one t (c, kept) h.is in
    ap (λ (cells : List ℕ). length cells) (sym from.is)
    ∙ length-map (h.one.numbered).head (cell_of_variable (h.one.reducts).tree.head from.from)
    ∙ sym (length-map (h.one.numbered).head (column_of (h.one.numbered).variables))
    ∙ ap (λ (cs : List ColumnType). length cs) (over.alike.each h.one m h.there there)
    ∙ sym (head_wide c m (over.kept m there))

-- each is as wide as the first
as_wide : (c : Catalog) (l : Live) (ls : List Live) → AreOver c (l ∷ ls) → (m : Live)
    → Contains (l ∷ ls) m → length (m.query).head ≡ length (l.query).head
as_wide c l ls over m there =
    head_wide c m (over.kept m there)
    ∙ ap (λ (cs : List ColumnType). length cs) (over.alike.each m l there (at_head l ls))
    ∙ sym (head_wide c l (over.kept l (at_head l ls)))

pub all_within : (c : Catalog) (ls : List Live) → AreOver c ls
    → All (λ m. most_steps (length m.query.head) ≤ most_steps (width_of (queries ls))) ls
all_within c [] over = λ k d low. absurd (omega arith)
all_within c (l ∷ ls) over =
    all_of (λ (m : Live). most_steps (length m.query.head) ≤ most_steps (length l.query.head))
    (l ∷ ls) (λ m there. let e = as_wide c l ls over m there in omega arith)

pub atoms_are : (ls : List Live) → sum_by (λ l. length l.query.atoms) ls ≡ atoms_of (queries ls)
atoms_are [] = refl
atoms_are (l ∷ ls) =
    sum_by-cons (λ (m : Live). length m.query.atoms) l ls
    ∙ ap (λ (n : ℕ). length l.query.atoms + n) (atoms_are ls)

pub most_are : (ls : List Live)
    → union_most (λ l. length l.query.atoms) ls (most_steps (width_of (queries ls))) ≡ most_of ls
most_are ls =
    ap₂ (λ (n a : ℕ). n * most_steps (width_of (queries ls)) + (n - 1) * a)
    (sym (length-map ls (λ (l : Live). l.query))) (atoms_are ls)

-- ---- what calls of a union's cursor say

-- the most that any member counts is what the first counts
pub most_counted : (c : Catalog) (ls : List Live) (before now : ℕ) → AreOver c ls
    → ((n : ℕ) → All (λ m. most_steps (length m.query.head) ≤ n) ls
    → now ≤ before + union_most (λ l. length l.query.atoms) ls n) → now ≤ before + most_of ls
most_counted c ls before now over h =
    subst (λ (n : ℕ). now ≤ before + n) (most_are ls)
    (h (most_steps (width_of (queries ls))) (all_within c ls over))

more : (now before x y : ℕ) → now ≤ before + x → now ≤ before + (x + y)
more now before x y h = omega arith

pub left_counted : (c : Catalog) (ls : List Live) (before now : ℕ) → AreOver c ls
    → ((n : ℕ) → All (λ m. most_steps (length m.query.head) ≤ n) ls
    → now ≤ before + length ls * n) → now ≤ before + most_of ls
left_counted c ls before now over h =
    let n = most_steps (width_of (queries ls)) in
    more now before (length (queries ls) * n)
    ((length (queries ls) - 1) * atoms_of (queries ls))
    (subst (λ (k : ℕ). now ≤ before + k * n) (sym (length-map ls (λ (l : Live). l.query)))
    (h n (all_within c ls over)))
