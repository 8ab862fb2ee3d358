-- Rows that come and go again, the answers over them, and deltas of consecutive changes.
use Rattle.std.proofs.Common.{ℕ, List, [], ◌∷◌, ◌++◌, ◌+◌, ◌≡◌, ◌<◌, ◌⊎◌, Bool, true, false, refl, sym, ap, ◌∙◌, subst}
use Rattle.std.proofs.Common.{inl, inr, arith, length, zero, suc, ◌≢◌, ◌≤◌, ap₂, get_or, set, length-set, append-nil}
use Rattle.std.proofs.Common.{append_assoc}
use Rattle.std.specs.Prelude.{All, AllPairs, Contains, not, cond, filter, map, slice_set, ◌||◌}
use Rattle.std.proofs.lemmas.List.{map-append, get_or_append_left, get_or-set_same, get_or-set_other, get_or_past}
use Rattle.std.proofs.lemmas.List.{length-append, length-map}
use Rattle.std.proofs.lemmas.List.Elements.{All-nil, All-cons, All-head, All-tail, All-append, All-contains}
use Rattle.std.proofs.lemmas.List.Elements.{Contains-append_left, Contains-append_right}
use Rattle.std.proofs.lemmas.List.Kept.{AllPairs-cons}
use Rattle.std.proofs.lemmas.Bool.{cases_eq, cases_lt, false≢true}
use Rattle.std.specs.List.{list_any}
use Rattle.djq_model.specs.declared.relation.Relation.{Relation}
use Rattle.djq_model.specs.declared.relation.CountedRow.{CountedRow}
use Rattle.djq_model.specs.declared.relation.ColumnType.{ColumnType}
use Rattle.djq_model.specs.declared.query.Query.{Query}
use Rattle.djq_model.specs.declared.query.Atom.{Atom}
use Rattle.djq_model.specs.Data.{Tuple, Bytes, tuple_eq, plain_of, tuples_in, without_row, bytes_eq, rows_of}
use Rattle.djq_model.specs.Data.{relation_of, counted_in}
use Rattle.djq_model.specs.Answer.{AreDifferent, Assignment, Satisfies, IsAnswer}
use Rattle.djq_model.specs.Equality.{tuple_eq-decides, bytes_eq-decides}
use Rattle.djq_model.specs.Typed.{fits}
use Rattle.djq_protocol.specs.declared.answer.Sign.{Sign}
use Rattle.djq_protocol.specs.declared.answer.Sign.TheVariants.{Came, Went}
use Rattle.djq_database.specs.Cells.{HaveCells, StandFor}
use Rattle.djq_database.specs.Catalog.{Catalog, IsCatalog, IsKeptRelation, CopiesAreInRange, StandForRow, no_relation}
use Rattle.djq_database.specs.Catalog.{relation_at, counted_at, rows_at, with_rows_at}
use Rattle.djq_query.specs.declared.numbered.Variable.{Variable}
use Rattle.djq_query.specs.declared.numbered.NumberedAtom.{NumberedAtom}
use Rattle.djq_query.specs.Numbered.{Numbered}
use Rattle.djq_store_spec.specs.Delta.{Change, HasChanged, IsDelta}
use Rattle.djq_store_spec.specs.Stale.{reads}
use Rattle.djq_answer_laws.specs.Decided.{Decided}
use Rattle.djq_answer_laws.proofs.Lists.{pairs_head, pairs_tail, pairs_join, kept_hold, kept_there}
use Rattle.djq_binder.specs.Asked.{IsAtomOf, AreAtomsOf, IsAsked}
use Rattle.djq_binder.proofs.EdgeOrder.{in_last}
use Rattle.djq_leaves.specs.Changes.{IsLater, CameAll, Went as ChangesWent, StandForRows, HasSameRows}
use Rattle.djq_live_query.proofs.Atoms.{found_at, rows_are}
use Rattle.djq_reach.specs.Growing.{Grows}
use Rattle.djq_reach.specs.Batching.{RowsCameIn}

-- ---- Deltas of consecutive changes, where answers only come.

abbrev answers_in : List Change → List Tuple
answers_in cs = map (λ (c : Change). c.answer) cs

-- what holds of all changes holds of their answers
answers_hold : (P : Change → Type 0) (Q : Tuple → Type 0) (cs : List Change) → ((c : Change) → P c → Q c.answer)
    → All P cs → All Q (answers_in cs)
answers_hold P Q [] f h = All-nil Q
answers_hold P Q (c ∷ cs) f h = All-cons Q c.answer (answers_in cs) (f c (All-head P c cs h))
    (answers_hold P Q cs f (All-tail P c cs h))

changed_as : (P Q : Change → Type 0) (cs : List Change) → ((c : Change) → P c → Q c) → All P cs → All Q cs
changed_as P Q cs f h = λ k d low. f _ (h k d low)

-- ---- some of the changes
kept_within : (P : Tuple → Type 0) (p : Change → Bool) (cs : List Change) → All P (answers_in cs)
    → All P (answers_in (filter p cs))
kept_within P p [] h = All-nil P
kept_within P p (c ∷ cs) h = step (p c) (kept_within P p cs (All-tail P c.answer (answers_in cs) h))
  where
    step : (b : Bool) → All P (answers_in (filter p cs)) → All P (answers_in (cond b (c ∷ filter p cs) (filter p cs)))
    step true rest = All-cons P c.answer (answers_in (filter p cs)) (All-head P c.answer (answers_in cs) h) rest
    step false rest = rest

kept_different : (p : Change → Bool) (cs : List Change) → AreDifferent (answers_in cs)
    → AreDifferent (answers_in (filter p cs))
kept_different p [] h = h
kept_different p (c ∷ cs) h =
    step (p c) (kept_within (λ t. c.answer ≡ t → ⊥) p cs
    (pairs_head (λ (s t : Tuple). s ≡ t → ⊥) c.answer (answers_in cs) h))
    (kept_different p cs (pairs_tail (λ (s t : Tuple). s ≡ t → ⊥) c.answer (answers_in cs) h))
  where
    step : (b : Bool) → All (λ t. c.answer ≡ t → ⊥) (answers_in (filter p cs)) → AreDifferent (answers_in (filter p cs))
        → AreDifferent (answers_in (cond b (c ∷ filter p cs) (filter p cs)))
    step true first rest = AllPairs-cons (λ (s t : Tuple). s ≡ t → ⊥) c.answer (answers_in (filter p cs)) first rest
    step false first rest = rest

kept_parts : {A : Type 0} (p : A → Bool) (xs : List A) → length (filter p xs) + length (filter (λ x. not (p x)) xs)
    ≡ length xs
kept_parts p [] = refl
kept_parts p (x ∷ xs) = step (p x) (kept_parts p xs)
  where
    step : (b : Bool) → length (filter p xs) + length (filter (λ x. not (p x)) xs) ≡ length xs
        → length (cond b (x ∷ filter p xs) (filter p xs)) + length
        (cond (not b) (x ∷ filter (λ x. not (p x)) xs) (filter (λ x. not (p x)) xs)) ≡ length (x ∷ xs)
    step true e = omega (arith, e)
    step false e = omega (arith, e)

-- ---- what is decided
abbrev holds : {P : Type 0} → Decided P → Bool
holds (inl p) = true
holds (inr none) = false

held : {P : Type 0} (o : Decided P) → holds o ≡ true → P
held (inl p) e = p
held (inr none) e = absurd cc

not_held : {P : Type 0} (o : Decided P) → not (holds o) ≡ true → P → ⊥
not_held (inl p) e = absurd cc
not_held (inr none) e = none

is_held : {P : Type 0} (o : Decided P) → P → holds o ≡ true
is_held (inl p) q = refl
is_held (inr none) q = absurd (none q)

isnt_held : {P : Type 0} (o : Decided P) → (P → ⊥) → not (holds o) ≡ true
isnt_held (inl p) n = absurd (n p)
isnt_held (inr none) n = refl

-- The changes of a delta whose answers are there in between, and those whose answers aren't.
module _ (B : Tuple → Type 0) (decided : (t : Tuple) → Decided (B t)) where
  abbrev pub is_early : Change → Bool
  is_early c = holds (decided c.answer)

  abbrev pub early_part : List Change → List Change
  early_part zs = filter is_early zs

  abbrev pub late_part : List Change → List Change
  late_part zs = filter (λ c. not (is_early c)) zs

  pub parts_long : (zs : List Change) → length (early_part zs) + length (late_part zs) ≡ length zs
  parts_long zs = kept_parts is_early zs

-- ---- two changes
module _ (A B C : Tuple → Type 0) (up : Grows A B) (more : Grows B C) (decided : (t : Tuple) → Decided (B t)) where
  only_came : (s : Sign) (t : Tuple) → HasChanged A B s t → B t × (A t → ⊥)
  only_came Came t h = h
  only_came Went t h = absurd (h.1 (up t h.0))

  only_later : (s : Sign) (t : Tuple) → HasChanged B C s t → C t × (B t → ⊥)
  only_later Came t h = h
  only_later Went t h = absurd (h.1 (more t h.0))

  first_both : (s : Sign) (t : Tuple) → HasChanged A B s t → HasChanged A C s t
  first_both Came t h = (more t h.0, h.1)
  first_both Went t h = absurd (h.1 (up t h.0))

  last_both : (s : Sign) (t : Tuple) → HasChanged B C s t → HasChanged A C s t
  last_both Came t h = (h.0, λ a. h.1 (up t a))
  last_both Went t h = absurd (h.1 (more t h.0))

  pub deltas_join : (xs ys : List Change) → IsDelta A B xs → IsDelta B C ys → IsDelta A C (xs ++ ys)
  deltas_join xs ys x y = record {
    different = subst (λ (ts : List Tuple). AreDifferent ts) (sym (map-append (λ (c : Change). c.answer) xs ys))
        (pairs_join (λ (s t : Tuple). s ≡ t → ⊥) (answers_in xs) (answers_in ys) x.different y.different
        (answers_hold (λ c. HasChanged A B c.sign c.answer) (λ s. All (λ t. s ≡ t → ⊥) (answers_in ys)) xs
        (λ c h. answers_hold (λ d. HasChanged B C d.sign d.answer) (λ t. c.answer ≡ t → ⊥) ys
        (λ d k same. (only_later d.sign d.answer k).1 (subst B same (only_came c.sign c.answer h).0)) y.changed)
        x.changed));
    changed = All-append (λ c. HasChanged A C c.sign c.answer) xs ys
        (changed_as (λ c. HasChanged A B c.sign c.answer) (λ c. HasChanged A C c.sign c.answer) xs
        (λ c h. first_both c.sign c.answer h) x.changed)
        (changed_as (λ c. HasChanged B C c.sign c.answer) (λ c. HasChanged A C c.sign c.answer) ys
        (λ c h. last_both c.sign c.answer h) y.changed);
    complete = there;
  }
    where
      there : (s : Sign) (t : Tuple) → HasChanged A C s t → Contains (xs ++ ys) (record { sign = s; answer = t })
      there Went t h = absurd (h.1 (more t (up t h.0)))
      there Came t h = by (decided t)
        where
          by : Decided (B t) → Contains (xs ++ ys) (record { sign = Came; answer = t })
          by (inl b) = Contains-append_left xs ys (record { sign = Came; answer = t }) (x.complete Came t (b, h.1))
          by (inr none) = Contains-append_right xs ys (record { sign = Came; answer = t })
              (y.complete Came t (h.0, none))

  early : (c : Change) → is_early B decided c ≡ true → HasChanged A C c.sign c.answer → HasChanged A B c.sign c.answer
  early c e h = by c.sign h
    where
      by : (s : Sign) → HasChanged A C s c.answer → HasChanged A B s c.answer
      by Came h = (held (decided c.answer) e, h.1)
      by Went h = absurd (h.1 (more c.answer (up c.answer h.0)))

  late : (c : Change) → not (is_early B decided c) ≡ true → HasChanged A C c.sign c.answer
      → HasChanged B C c.sign c.answer
  late c e h = by c.sign h
    where
      by : (s : Sign) → HasChanged A C s c.answer → HasChanged B C s c.answer
      by Came h = (h.0, not_held (decided c.answer) e)
      by Went h = absurd (h.1 (more c.answer (up c.answer h.0)))

  pub early_delta : (zs : List Change) → IsDelta A C zs → IsDelta A B (early_part B decided zs)
  early_delta zs z = record {
    different = kept_different (is_early B decided) zs z.different;
    changed = kept_hold (λ c. HasChanged A C c.sign c.answer) (λ c. HasChanged A B c.sign c.answer) (is_early B decided)
        zs early z.changed;
    complete = λ s t h. kept_there (is_early B decided) zs (record { sign = s; answer = t })
        (is_held (decided t) (only_came s t h).0) (z.complete s t (first_both s t h));
  }

  pub late_delta : (zs : List Change) → IsDelta A C zs → IsDelta B C (late_part B decided zs)
  late_delta zs z = record {
    different = kept_different (λ c. not (is_early B decided c)) zs z.different;
    changed = kept_hold (λ c. HasChanged A C c.sign c.answer) (λ c. HasChanged B C c.sign c.answer)
        (λ c. not (is_early B decided c)) zs late z.changed;
    complete = λ s t h. kept_there (λ c. not (is_early B decided c)) zs (record { sign = s; answer = t })
        (isnt_held (decided t) (only_later s t h).1) (z.complete s t (last_both s t h));
  }

-- where nothing changes, nothing is told
pub delta_none : (A B : Tuple → Type 0) → Grows A B → Grows B A → IsDelta A B []
delta_none A B up down = record {
  different = λ i j d low within. absurd (omega (arith, low, within));
  changed = All-nil (λ c. HasChanged A B c.sign c.answer);
  complete = there;
}
  where
    there : (s : Sign) (t : Tuple) → HasChanged A B s t → Contains {X = Change} [] (record { sign = s; answer = t })
    there Came t h = absurd (h.1 (down t h.0))
    there Went t h = absurd (h.1 (up t h.0))

-- a delta is one between any sets of the same answers
pub delta_as : (A B C D : Tuple → Type 0) → Grows A B → Grows B A → Grows C D → Grows D C → (xs : List Change)
    → IsDelta A C xs → IsDelta B D xs
delta_as A B C D ab ba cd dc xs x = record {
  different = x.different;
  changed = changed_as (λ c. HasChanged A C c.sign c.answer) (λ c. HasChanged B D c.sign c.answer) xs
      (λ c h. forth c.sign c.answer h) x.changed;
  complete = λ s t h. x.complete s t (back s t h);
}
  where
    forth : (s : Sign) (t : Tuple) → HasChanged A C s t → HasChanged B D s t
    forth Came t h = (cd t h.0, λ b. h.1 (ba t b))
    forth Went t h = (ab t h.0, λ d. h.1 (dc t d))

    back : (s : Sign) (t : Tuple) → HasChanged B D s t → HasChanged A C s t
    back Came t h = (dc t h.0, λ a. h.1 (ab t a))
    back Went t h = (ba t h.0, λ c. h.1 (cd t c))

-- ---- Rows that came go again, the last one first: there is a catalog that has one row less.

-- ---- lists and their last item

record Ends {A : Type 0} (P : List A → Type 0) (f : A → Type 0) (xs : List A) : Type 0 where
  front : List A
  last : A
  is : xs ≡ front ++ last ∷ []
  before : P front
  there : f last

pub all_front : {A : Type 0} (P : A → Type 0) (xs ys : List A) → All P (xs ++ ys) → All P xs
all_front P xs ys h = λ k d low. subst P (get_or_append_left xs ys d k low)
    (h k d (omega (arith, low, length-append xs ys)))

pairs_front : {A : Type 0} (R : A → A → Type 0) (xs ys : List A) → AllPairs R (xs ++ ys) → AllPairs R xs
pairs_front R xs ys h = λ i j d less low.
    subst (λ x. R x (get_or xs j d)) (get_or_append_left xs ys d i (omega (arith, less, low)))
    (subst (λ y. R (get_or (xs ++ ys) i d) y) (get_or_append_left xs ys d j low)
    (h i j d less (omega (arith, low, length-append xs ys))))

rest_of : List Tuple → List Tuple
rest_of [] = []
rest_of (x ∷ xs) = xs

first_or : Tuple → List Tuple → Tuple
first_or d [] = d
first_or d (x ∷ xs) = x

first_same : (x y : Tuple) (xs ys : List Tuple) → x ∷ xs ≡ y ∷ ys → x ≡ y
unfolding first_or
first_same x y xs ys e = ap (first_or x) e

rest_same : (x y : Tuple) (xs ys : List Tuple) → x ∷ xs ≡ y ∷ ys → xs ≡ ys
unfolding rest_of
rest_same x y xs ys e = ap rest_of e

-- counted rows whose rows end so
counted_ends : (ks : List CountedRow) (xs : List Tuple) (row : Tuple) → plain_of ks ≡ xs ++ row ∷ []
    → Ends (λ fs. plain_of fs ≡ xs) (λ k. k.row ≡ row) ks
counted_ends [] [] row e = absurd cc
counted_ends [] (x ∷ xs) row e = absurd cc
counted_ends (k ∷ []) [] row e = record
    { front = []; last = k; is = refl; before = refl; there = first_same k.row row [] [] e }
counted_ends (k ∷ j ∷ ks) [] row e = absurd cc
counted_ends (k ∷ ks) (x ∷ xs) row e =
    let more = counted_ends ks xs row (rest_same k.row x (plain_of ks) (xs ++ row ∷ []) e) in
    let first : k.row ≡ x = first_same k.row x (plain_of ks) (xs ++ row ∷ []) e in
    record {
      front = k ∷ more.front;
      last = more.last;
      is = ap (λ (ys : List CountedRow). k ∷ ys) more.is;
      before = ap (λ (y : Tuple). y ∷ plain_of more.front) first ∙ ap (λ (ys : List Tuple). x ∷ ys) more.before;
      there = more.there;
    }

-- cells that end so stand for rows that do
record StandEnds (c : Catalog) (at : ℕ) (cells : List (List ℕ)) (cell : List ℕ) (rows : List Tuple) : Type 0 where
  front : List Tuple
  last : Tuple
  is : rows ≡ front ++ last ∷ []
  before : StandForRows c at cells front
  there : StandForRow c at cell last

stand_ends : (c : Catalog) (at : ℕ) (cells : List (List ℕ)) (cell : List ℕ) (rows : List Tuple)
    → StandForRows c at (cells ++ cell ∷ []) rows → StandEnds c at cells cell rows
stand_ends c at [] cell [] h = absurd h
stand_ends c at [] cell (row ∷ []) h = record { front = []; last = row; is = refl; before = tt; there = h.0 }
stand_ends c at [] cell (row ∷ other ∷ rows) h = absurd h.1
stand_ends c at (k ∷ cells) cell [] h = absurd h
stand_ends c at (k ∷ cells) cell (row ∷ rows) h =
    let more = stand_ends c at cells cell rows h.1 in
    record {
      front = row ∷ more.front;
      last = more.last;
      is = ap (λ rs. row ∷ rs) more.is;
      before = (h.0, more.before);
      there = more.there;
    }

stand_as : (c d : Catalog) (at : ℕ) (cells : List (List ℕ)) (rows : List Tuple) → d.texts ≡ c.texts
    → (relation_at d.relations at).types ≡ (relation_at c.relations at).types
    → StandForRows c at cells rows → StandForRows d at cells rows
stand_as c d at [] [] texts types h = tt
stand_as c d at [] (row ∷ rows) texts types h = absurd h
stand_as c d at (k ∷ cells) [] texts types h = absurd h
stand_as c d at (k ∷ cells) (row ∷ rows) texts types h =
    (stand_one c d at k row texts types h.0, stand_as c d at cells rows texts types h.1)
  where
    stand_one : (c d : Catalog) (at : ℕ) (k : List ℕ) (row : Tuple) → d.texts ≡ c.texts
        → (relation_at d.relations at).types ≡ (relation_at c.relations at).types
        → StandForRow c at k row → StandForRow d at k row
    stand_one c d at k row texts types h =
        subst (λ (ts : List Bytes). StandFor ts (relation_at d.relations at).types k row) (sym texts)
        (subst (λ (ts : List ColumnType). StandFor c.texts ts k row) (sym types) h)

-- the last of different rows
without_last : (xs : List Tuple) (row : Tuple) → AreDifferent (xs ++ row ∷ []) → without_row (xs ++ row ∷ []) row ≡ xs
without_last [] row h = ap (λ (b : Bool). cond b [] (row ∷ [])) ((tuple_eq-decides row row).1 refl)
without_last (x ∷ xs) row h =
    ap (λ (b : Bool). cond b (xs ++ row ∷ []) (x ∷ without_row (xs ++ row ∷ []) row)) (apart (tuple_eq x row) refl)
    ∙ ap (λ ys. x ∷ ys) (without_last xs row
    (λ i j d less low. h (suc i) (suc j) d (omega (arith, less)) (omega (arith, low))))
  where
    apart : (b : Bool) → tuple_eq x row ≡ b → b ≡ false
    apart false e = refl
    apart true e =
        let low : suc (length xs) < length (x ∷ xs ++ row ∷ []) = omega (arith, length-append xs (row ∷ [])) in
        let differ : x ≡ get_or (xs ++ row ∷ []) (length xs) row → ⊥ = h 0 (suc (length xs)) row (omega arith) low in
        absurd (differ ((tuple_eq-decides x row).0 e ∙ sym (end xs)))
      where
        end : (ys : List Tuple) → get_or (ys ++ row ∷ []) (length ys) row ≡ row
        end [] = refl
        end (y ∷ ys) = end ys

-- ---- a catalog with fewer rows in a relation

module _ (d : Catalog) (at : ℕ) (fs : List CountedRow) (low : at < length d.relations) where
  abbrev fewer : Catalog
  fewer = record d { relations = with_rows_at d.relations at fs }

  abbrev one : Relation
  one = let r = relation_at d.relations at in record r { rows = fs }

  here : (x : Relation) → get_or (set d.relations at one) at x ≡ one
  here x = get_or-set_same d.relations at one x low

  long : length fewer.relations ≡ length d.relations
  long = length-set d.relations at one

  -- what is the same of the relation with fewer rows is the same of each
  field : {A : Type 0} (f : Relation → A) → f one ≡ f (relation_at d.relations at) → (x : Relation) (k : ℕ)
      → k < length d.relations
      → f (get_or fewer.relations k x) ≡ f (get_or d.relations k x)
  field f e x k within = elim (cases_eq k at) [
    | inl same ↦ subst (λ (j : ℕ). f (get_or fewer.relations j x) ≡ f (get_or d.relations j x)) (sym same)
        (ap f (here x) ∙ e ∙ ap f (default d.relations at low no_relation x))
    | inr other ↦ ap f (get_or-set_other d.relations at k one x other)
  ]
    where
      default : (rs : List Relation) (k : ℕ) → k < length rs → (x y : Relation) → get_or rs k x ≡ get_or rs k y
      default [] k l x y = absurd (omega (arith, l))
      default (r ∷ rs) zero l x y = refl
      default (r ∷ rs) (suc k) l x y = default rs k (omega (arith, l)) x y

  pub fewer_catalog : IsCatalog d → (ks : List CountedRow) → counted_at d.relations at ≡ fs ++ ks → IsCatalog fewer
  fewer_catalog h ks e = record {
    few = omega (arith, long, h.few);
    names = λ i j x less within.
        let within' : j < length d.relations = omega (arith, within, long) in
        let a = field (λ r. r.name) refl x i (omega (arith, less, within')) in
        let b = field (λ r. r.name) refl x j within' in
        λ same. h.names i j x less within' (sym a ∙ same ∙ b);
    kept = λ k x within. relation_kept k x (omega (arith, within, long));
    many = h.many;
    texts = h.texts;
  }
    where
      whole : tuples_in (relation_at d.relations at) ≡ plain_of fs ++ plain_of ks
      whole = ap plain_of e ∙ both fs ks
        where
          both : (xs ys : List CountedRow) → plain_of (xs ++ ys) ≡ plain_of xs ++ plain_of ys
          both [] ys = refl
          both (x ∷ xs) ys = ap (λ (ts : List Tuple). x.row ∷ ts) (both xs ys)

      old : IsKeptRelation d.texts (relation_at d.relations at)
      old = h.kept at no_relation low

      one_kept : IsKeptRelation d.texts one
      one_kept = record {
        some = old.some;
        narrow = old.narrow;
        typed = all_front (λ row. fits (relation_at d.relations at).types row ≡ true) (plain_of fs) (plain_of ks)
            (subst (λ (ts : List Tuple). All (λ row. fits (relation_at d.relations at).types row ≡ true) ts) whole
            old.typed);
        differ = pairs_front (λ (s t : Tuple). s ≡ t → ⊥) (plain_of fs) (plain_of ks)
            (subst (λ (ts : List Tuple). AreDifferent ts) whole old.differ);
        cells = all_front (HaveCells d.texts) (plain_of fs) (plain_of ks)
            (subst (λ (ts : List Tuple). All (HaveCells d.texts) ts) whole old.cells);
        few = let a = length-append (plain_of fs) (plain_of ks) in
            omega (arith, old.few, ap length whole, a);
        counted = all_front CopiesAreInRange fs ks
            (subst (λ (xs : List CountedRow). All CopiesAreInRange xs) e old.counted);
      }

      relation_kept : (k : ℕ) (x : Relation) → k < length d.relations
          → IsKeptRelation d.texts (get_or fewer.relations k x)
      relation_kept k x within = elim (cases_eq k at) [
        | inl same ↦ subst (λ (j : ℕ). IsKeptRelation d.texts (get_or fewer.relations j x)) (sym same)
            (subst (λ (r : Relation). IsKeptRelation d.texts r) (sym (here x)) one_kept)
        | inr other ↦ subst (λ (r : Relation). IsKeptRelation d.texts r)
            (sym (get_or-set_other d.relations at k one x other)) (h.kept k x within)
      ]

  pub later_fewer : (c : Catalog) → IsCatalog fewer → IsLater c d → IsLater c fewer
  later_fewer c h l = record {
    catalog = h;
    more = l.more;
    texts = l.texts;
    long = omega (arith, long, l.long);
    named = λ k within. field (λ r. r.name) refl no_relation k (omega (arith, within, l.long)) ∙ l.named k within;
    typed = λ k within. field (λ r. r.types) refl no_relation k (omega (arith, within, l.long)) ∙ l.typed k within;
  }

  pub fewer_later : (c : Catalog) → IsLater d c → IsLater fewer c
  fewer_later c l = record {
    catalog = l.catalog;
    more = l.more;
    texts = l.texts;
    long = omega (arith, long, l.long);
    named = λ k within.
        let within' : k < length d.relations = omega (arith, within, long) in
        l.named k within' ∙ sym (field (λ r. r.name) refl no_relation k within');
    typed = λ k within.
        let within' : k < length d.relations = omega (arith, within, long) in
        l.typed k within' ∙ sym (field (λ r. r.types) refl no_relation k within');
  }

  pub rows_here : rows_at fewer.relations at ≡ plain_of fs
  rows_here = ap (λ (r : Relation). tuples_in r) (here no_relation)

  pub rows_elsewhere : (k : ℕ) → k ≢ at → rows_at fewer.relations k ≡ rows_at d.relations k
  rows_elsewhere k other = ap (λ (r : Relation). tuples_in r) (get_or-set_other d.relations at k one no_relation other)

  pub types_here : (relation_at fewer.relations at).types ≡ (relation_at d.relations at).types
  types_here = ap (λ (r : Relation). r.types) (here no_relation)

-- a relation with a row is there
within_rows : (d : Catalog) (at : ℕ) (xs : List Tuple) (row : Tuple) → rows_at d.relations at ≡ xs ++ row ∷ []
    → at < length d.relations
within_rows d at xs row e = elim (cases_lt at (length d.relations)) [
  | inl low ↦ low
  | inr high ↦
      let none : rows_at d.relations at
      ≡ [] = ap (λ (r : Relation). tuples_in r) (get_or_past d.relations at no_relation high) in
      let long = length-append xs (row ∷ []) in
      absurd (omega (arith, ap length (sym none ∙ e), long))
]

later_itself : (c : Catalog) → IsCatalog c → IsLater c c
later_itself c h = record {
  catalog = h;
  more = [];
  texts = sym (append-nil c.texts);
  long = omega arith;
  named = λ k low. refl;
  typed = λ k low. refl;
}

-- Behind rows that came there is a catalog with all of them but the last one, which goes to it.
pub record OneLess (c d : Catalog) (at : ℕ) (cells : List (List ℕ)) (cell : List ℕ) : Type 0 where
  pub middle : Catalog
  pub rows : List Tuple
  pub row : Tuple
  pub comes : RowsCameIn c middle at cells rows
  pub went : ChangesWent d middle at cell row
  pub there : Contains (rows_at d.relations at) row

pub one_less : (c d : Catalog) (at : ℕ) (cells : List (List ℕ)) (cell : List ℕ) (rows : List Tuple)
    → RowsCameIn c d at (cells ++ cell ∷ []) rows → OneLess c d at cells cell
one_less c d at cells cell rows h = record {
  middle = fewer d at fs within;
  rows = ends.front;
  row = ends.last;
  comes = record {
    came = record {
      later = later_fewer d at fs within c catalog h.came.later;
      stand = stand_as d (fewer d at fs within) at cells ends.front refl (types_here d at fs within) ends.before;
      rows = rows_here d at fs within ∙ counted.before;
      others = λ k low other. rows_elsewhere d at fs within k other ∙ h.came.others k low other;
    };
    back = fewer_later d at fs within c h.back;
  };
  went = record {
    later = later_fewer d at fs within d catalog (later_itself d h.came.later.catalog);
    stand = (
      subst (λ (ts : List ColumnType). StandFor d.texts ts cell ends.last) (sym (types_here d at fs within)) ends.there,
      tt,
    );
    rows = rows_here d at fs within ∙ counted.before
        ∙ sym (ap (λ (ts : List Tuple). without_row ts ends.last) shape
        ∙ without_last (rows_at c.relations at ++ ends.front) ends.last
        (subst (λ (ts : List Tuple). AreDifferent ts) shape (h.came.later.catalog.kept at no_relation within).differ));
    others = λ k low other. rows_elsewhere d at fs within k other;
  };
  there = subst (λ (ts : List Tuple). Contains ts ends.last) (sym shape)
      (in_last ends.last (rows_at c.relations at ++ ends.front));
}
  where
    ends : StandEnds d at cells cell rows
    ends = stand_ends d at cells cell rows h.came.stand

    shape : rows_at d.relations at ≡ (rows_at c.relations at ++ ends.front) ++ ends.last ∷ []
    shape = h.came.rows ∙ ap (λ (ts : List Tuple). rows_at c.relations at ++ ts) ends.is
        ∙ sym (append_assoc (rows_at c.relations at) ends.front (ends.last ∷ []))

    within : at < length d.relations
    within = within_rows d at (rows_at c.relations at ++ ends.front) ends.last shape

    counted : Ends (λ fs. plain_of fs ≡ rows_at c.relations at ++ ends.front) (λ k. k.row ≡ ends.last)
        (counted_at d.relations at)
    counted = counted_ends (counted_at d.relations at) (rows_at c.relations at ++ ends.front) ends.last shape

    fs : List CountedRow
    fs = counted.front

    catalog : IsCatalog (fewer d at fs within)
    catalog = fewer_catalog d at fs within h.came.later.catalog (counted.last ∷ []) counted.is

-- Where no rows came, the catalogs have the same rows.
pub none_came : (c d : Catalog) (at : ℕ) (rows : List Tuple) → RowsCameIn c d at [] rows → HasSameRows d c
none_came c d at rows h = record {
  later = h.back;
  same = λ k low. elim (cases_eq k at) [
    | inl e ↦ subst (λ (j : ℕ). rows_at c.relations j ≡ rows_at d.relations j) (sym e)
        (sym (h.came.rows ∙ ap (λ (ts : List Tuple). rows_at c.relations at ++ ts) (none rows h.came.stand)
        ∙ append-nil (rows_at c.relations at)))
    | inr other ↦ sym (h.came.others k (omega (arith, low, h.back.long)) other)
  ];
}
  where
    none : (rs : List Tuple) → StandForRows d at [] rs → rs ≡ []
    none [] s = refl
    none (r ∷ rs) s = absurd s

-- ---- Answers of a query where rows come into a relation: they only come, and where the query doesn't read the
-- relation they stay.

-- each row of an atom's relation stays one
abbrev Stays : List Relation → List Relation → Atom → Type 0
Stays rs ss a = (row : Tuple) → Contains (rows_of rs a.relation) row → Contains (rows_of ss a.relation) row

answers_stay : (rs ss : List Relation) (q : Query) → All (Stays rs ss) q.atoms → Grows (IsAnswer rs q) (IsAnswer ss q)
answers_stay rs ss q stay t h = record {
  assignment = h.assignment;
  satisfies = λ k d low. satisfied (stay k d low) (h.satisfies k d low);
  compared = h.compared;
  on_head = h.on_head;
}
  where
    satisfied : {a : Atom} → Stays rs ss a → Satisfies rs h.assignment a → Satisfies ss h.assignment a
    satisfied more s = record { row = s.row; is_there = more s.row s.is_there; stands = s.stands }

-- the rows of an atom's relation in a later catalog
rows_later : (c d : Catalog) (vs : List Variable) (a : Atom) (m : NumberedAtom) → IsLater c d → IsAtomOf c vs a m
    → rows_of d.relations a.relation ≡ rows_at d.relations m.relation
rows_later c d vs a m later is =
    ap (λ o. plain_of (counted_in o))
    (found_at d.relations a.relation m.relation later.catalog.names
    (let low = is.below in let long = later.long in omega (arith, low, long))
    (later.named m.relation is.below ∙ is.named))

module _ (c d : Catalog) (at : ℕ) (cells : List (List ℕ)) (new : List Tuple) (vs : List Variable)
    (catalog : IsCatalog c)
    (came : CameAll c d at cells new) where
  atoms_stay : (atoms : List Atom) (ms : List NumberedAtom) → AreAtomsOf c vs atoms ms
      → All (Stays c.relations d.relations) atoms
  atoms_stay [] [] h = All-nil (Stays c.relations d.relations)
  atoms_stay [] (m ∷ ms) h = absurd h
  atoms_stay (a ∷ atoms) [] h = absurd h
  atoms_stay (a ∷ atoms) (m ∷ ms) h =
      All-cons (Stays c.relations d.relations) a atoms
      (λ row there. subst (λ (rows : List Tuple). Contains rows row) (sym (rows_later c d vs a m came.later h.0))
      (more row (subst (λ (rows : List Tuple). Contains rows row) (rows_are c vs a m catalog h.0) there)))
      (atoms_stay atoms ms h.1)
    where
      more : (row : Tuple) → Contains (rows_at c.relations m.relation) row
          → Contains (rows_at d.relations m.relation) row
      more row there = elim (cases_eq m.relation at) [
        | inl same ↦ subst (λ (k : ℕ). Contains (rows_at d.relations k) row) (sym same)
            (subst (λ (rows : List Tuple). Contains rows row) (sym came.rows)
            (Contains-append_left (rows_at c.relations at) new row
            (subst (λ (k : ℕ). Contains (rows_at c.relations k) row) same there)))
        | inr other ↦ subst (λ (rows : List Tuple). Contains rows row) (sym (came.others m.relation h.0.below other))
            there
      ]

  atoms_back : (atoms : List Atom) (ms : List NumberedAtom) → AreAtomsOf c vs atoms ms
      → list_any (λ (a : Atom). bytes_eq a.relation (relation_at c.relations at).name) atoms ≡ false
      → All (Stays d.relations c.relations) atoms
  atoms_back [] [] h none = All-nil (Stays d.relations c.relations)
  atoms_back [] (m ∷ ms) h none = absurd h
  atoms_back (a ∷ atoms) [] h none = absurd h
  atoms_back (a ∷ atoms) (m ∷ ms) h none =
      let parts = either (bytes_eq a.relation (relation_at c.relations at).name)
      (list_any (λ (b : Atom). bytes_eq b.relation (relation_at c.relations at).name) atoms) none in
      All-cons (Stays d.relations c.relations) a atoms
      (λ row there. subst (λ (rows : List Tuple). Contains rows row) (sym (rows_are c vs a m catalog h.0))
      (subst (λ (rows : List Tuple). Contains rows row) (came.others m.relation h.0.below (other parts.0))
      (subst (λ (rows : List Tuple). Contains rows row) (rows_later c d vs a m came.later h.0) there)))
      (atoms_back atoms ms h.1 parts.1)
    where
      either : (b e : Bool) → (b || e) ≡ false → (b ≡ false) × (e ≡ false)
      either true e f = absurd (false≢true (sym f))
      either false e f = (refl, f)

      other : bytes_eq a.relation (relation_at c.relations at).name ≡ false → m.relation ≡ at → ⊥
      other isnt same =
          let named : a.relation ≡ (relation_at c.relations at).name =
          sym h.0.named ∙ ap (λ (k : ℕ). (relation_at c.relations k).name) same in
          false≢true (sym isnt ∙ (bytes_eq-decides a.relation (relation_at c.relations at).name).1 named)

-- answers only come
pub came_grows : (c d : Catalog) (at : ℕ) (cells : List (List ℕ)) (new : List Tuple) (q : Query) (n : Numbered)
    → IsAsked c q n
    → CameAll c d at cells new → Grows (IsAnswer c.relations q) (IsAnswer d.relations q)
came_grows c d at cells new q n asked came =
    answers_stay c.relations d.relations q
    (atoms_stay c d at cells new n.variables asked.catalog came q.atoms n.atoms asked.atoms)

-- and stay where the relation isn't read
pub came_stays : (c d : Catalog) (at : ℕ) (cells : List (List ℕ)) (new : List Tuple) (q : Query) (n : Numbered)
    → IsAsked c q n
    → CameAll c d at cells new → reads q (relation_at c.relations at).name ≡ false
    → Grows (IsAnswer d.relations q) (IsAnswer c.relations q)
came_stays c d at cells new q n asked came none =
    answers_stay d.relations c.relations q
    (atoms_back c d at cells new n.variables asked.catalog came q.atoms n.atoms asked.atoms none)
