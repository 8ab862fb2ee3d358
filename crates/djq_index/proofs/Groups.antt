-- Groups of tuples, the marked ones at their ends, and walks along them.
use Rattle.std.proofs.Common.{◌≡◌, ℕ, zero, suc, ◌+◌, ◌*◌, ◌≤◌, Bool, true, false, cond, List, [], ◌∷◌, ◌++◌, refl, ap}
use Rattle.std.proofs.Common.{subst, sym, ◌∙◌, arith, inl, inr, ◌<◌, length, length-append, take, drop, Option, Some}
use Rattle.std.proofs.Common.{None, append_assoc, add-one}
use Rattle.std.proofs.lemmas.Bool.{cases_Bool, false≢true}
use Rattle.std.proofs.lemmas.List.{reverse-append}
use Rattle.djq_index.specs.declared.place.Place.{Place}
use Rattle.djq_index.specs.Tuple.{same, pick, one_if}
use Rattle.djq_index.specs.Entries.{Entry, supports_of, count_of, group_size, group_of, marks, plain, is_marked, bare}
use Rattle.djq_index.specs.Entries.{unmarked, head_at, last_at}
use Rattle.djq_index.specs.Table.{TuplesDiffer, AreSupported, AreLast, IsOccupied}
use Rattle.djq_index.specs.Changes.{Inserted, InsertedAs, Removed, Touched, Supported}
use Rattle.djq_index.proofs.Tuples.{same_cases, one_same, one_other, one_true, one_false, same_is, is_same, cnt_cons}
use Rattle.djq_index.proofs.Tuples.{many_cons, cnt_middle, many_middle, cnt_split, many_split, supp_middle, stands}
use Rattle.djq_index.proofs.Tuples.{cnt_once, supp_none, cnt_supp, apart_same, supp_at, supported_in, supported_out}

-- ---- Groups, and tables that hold the same tuples.

append_cond : (b : Bool) (e : Entry) (xs ys : List Entry) → cond b (e ∷ (xs ++ ys)) (xs ++ ys)
    ≡ cond b (e ∷ xs) xs ++ ys
append_cond true e xs ys = refl
append_cond false e xs ys = refl

pub group_of-append : (key : List ℕ) (xs ys : List Entry) (w : List ℕ) → group_of key (xs ++ ys) w ≡ group_of key xs w
    ++ group_of key ys w
unfolding group_of
group_of-append key [] ys w = refl
group_of-append key (e ∷ xs) ys w = rw (group_of-append key xs ys w)
    (append_cond (same (pick key e.tuple) w) e (group_of key xs w) (group_of key ys w))

pub grp_yes : (key : List ℕ) (e : Entry) (es : List Entry) (w : List ℕ) → same (pick key e.tuple) w ≡ true
    → group_of key (e ∷ es) w ≡ e ∷ group_of key es w
unfolding group_of
grp_yes key e es w h = rw h refl

pub grp_no : (key : List ℕ) (e : Entry) (es : List Entry) (w : List ℕ) → same (pick key e.tuple) w ≡ false
    → group_of key (e ∷ es) w ≡ group_of key es w
unfolding group_of
grp_no key e es w h = rw h refl

times : (e u w : List ℕ) (key : List ℕ) → same (pick key e) u ≡ true → one_if (same e w)
    ≡ one_if (same e w) * one_if (same (pick key w) u)
times e u w key h =
    elim (same_cases e w) [
      | inl here ↦ (let k : one_if (same (pick key w) u)
          ≡ 1 = one_true (same (pick key w) u) (subst (λ v. same (pick key v) u ≡ true) here h) in rw k (omega arith))
      | inr other ↦ rw (one_other e w other) (omega arith)
    ]

no_times : (e u w : List ℕ) (key : List ℕ) → same (pick key e) u ≡ false
    → one_if (same e w) * one_if (same (pick key w) u)
    ≡ 0
no_times e u w key h =
    elim (same_cases e w) [
      | inl here ↦ (let k : one_if (same (pick key w) u)
          ≡ 0 = one_false (same (pick key w) u) (subst (λ v. same (pick key v) u ≡ false) here h) in rw k (omega arith))
      | inr other ↦ rw (one_other e w other) (omega arith)
    ]

no_group : (key : List ℕ) (u w : List ℕ) → count_of (group_of key [] u) w ≡ count_of [] w * one_if (same (pick key w) u)
unfolding group_of count_of
no_group key u w = omega arith

-- of a group's tuples each is counted as in the whole
pub cnt_grp : (key : List ℕ) (es : List Entry) (u w : List ℕ) → count_of (group_of key es u) w
    ≡ count_of es w * one_if (same (pick key w) u)
cnt_grp key [] u w = no_group key u w
cnt_grp key (e ∷ es) u w =
    elim (cases_Bool (same (pick key e.tuple) u)) [
      | inl here ↦ rw (grp_yes key e es u here)
          (omega (
            arith,
            cnt_cons e (group_of key es u) w,
            cnt_cons e es w,
            cnt_grp key es u w,
            times e.tuple u w key here,
            distributes (one_if (same e.tuple w)) (count_of es w) (one_if (same (pick key w) u)),
            ap
                (λ n. n * one_if (same (pick key w) u)) (cnt_cons e es w),
          ))
      | inr other ↦ rw (grp_no key e es u other)
          (omega (
            arith,
            cnt_grp key es u w,
            no_times e.tuple u w key other,
            distributes (one_if (same e.tuple w))
                (count_of es w) (one_if (same (pick key w) u)),
            ap (λ n. n * one_if (same (pick key w) u)) (cnt_cons e es w),
          ))
    ]
  where
    distributes : (a b c : ℕ) → (a + b) * c ≡ a * c + b * c
    distributes a b c = omega arith

many_nil : (key : List ℕ) (w : List ℕ) → group_size key [] w ≡ 0
unfolding group_size
many_nil key w = refl

-- what has no more of each tuple has no longer groups
pub many_sub : (key : List ℕ) (es fs : List Entry) → ((v : List ℕ) → count_of es v ≤ count_of fs v) → (w : List ℕ)
    → group_size key es w ≤ group_size key fs w
many_sub key [] fs h w = omega (arith, many_nil key w)
many_sub key (e ∷ es) fs h w =
    let s = stands fs e.tuple (omega (arith, h e.tuple, cnt_cons e es e.tuple, one_same e.tuple)) in
    let rest : (v : List ℕ)
    → count_of es v ≤ count_of (s.front ++ s.back) v =
    (λ v. omega (
      arith,
      h v,
      cnt_cons e es v,
      cnt_middle s.front s.entry s.back v,
      ap (λ xs. count_of xs v) s.is,
      ap
          (λ t. one_if (same t v)) s.tuple,
    )) in
    omega (
      arith,
      many_sub key es (s.front ++ s.back) rest w,
      many_cons key e es w,
      ap (λ xs. group_size key xs w) s.is,
      many_middle key s.front s.entry s.back w,
      ap (λ t. one_if (same (pick key t) w)) s.tuple,
    )

pub many_even : (key : List ℕ) (es fs : List Entry) → ((v : List ℕ) → count_of es v ≡ count_of fs v) → (w : List ℕ)
    → group_size key es w ≡ group_size key fs w
many_even key es fs h w = omega
    (arith, many_sub key es fs (λ v. omega (arith, h v)) w, many_sub key fs es (λ v. omega (arith, h v)) w)

-- tables with the same supports hold the same tuples
pub cnt_same : (es fs : List Entry) → TuplesDiffer es → TuplesDiffer fs → AreSupported es → AreSupported fs
    → ((v : List ℕ) → supports_of es v ≡ supports_of fs v) → (v : List ℕ) → count_of es v ≡ count_of fs v
cnt_same es fs a b s t h v = by_cases (count_of es v) (count_of fs v) refl refl
  where
    by_cases : (m n : ℕ) → count_of es v ≡ m → count_of fs v ≡ n → count_of es v ≡ count_of fs v
    by_cases zero zero k l = k ∙ sym l
    by_cases (suc m) (suc n) k l = omega (arith, cnt_once es v a, cnt_once fs v b, k, l)
    by_cases zero (suc n) k l = absurd (omega (arith, h v, supp_none es v k, cnt_supp fs v t (omega (arith, l))))
    by_cases (suc m) zero k l = absurd (omega (arith, h v, supp_none fs v l, cnt_supp es v s (omega (arith, k))))

pub many_same : (key : List ℕ) (es fs : List Entry) → TuplesDiffer es → TuplesDiffer fs → AreSupported es
    → AreSupported fs
    → ((v : List ℕ) → supports_of es v ≡ supports_of fs v) → (w : List ℕ) → group_size key es w ≡ group_size key fs w
many_same key es fs a b s t h w = many_even key es fs (cnt_same es fs a b s t h) w

-- ---- Marked entries, which are the last of their groups.

pub marks_yes : (e : Entry) (es : List Entry) → e.marked ≡ true → marks (e ∷ es) ≡ e ∷ marks es
unfolding marks
marks_yes e es h = rw h refl

pub marks_no : (e : Entry) (es : List Entry) → e.marked ≡ false → marks (e ∷ es) ≡ marks es
unfolding marks
marks_no e es h = rw h refl

pub plain_yes : (e : Entry) (es : List Entry) → e.marked ≡ true → plain (e ∷ es) ≡ plain es
unfolding plain
plain_yes e es h = rw h refl

pub plain_no : (e : Entry) (es : List Entry) → e.marked ≡ false → plain (e ∷ es) ≡ e ∷ plain es
unfolding plain
plain_no e es h = rw h refl

pub marks-append : (xs ys : List Entry) → marks (xs ++ ys) ≡ marks xs ++ marks ys
unfolding marks
marks-append [] ys = refl
marks-append (e ∷ xs) ys = rw (marks-append xs ys) (spread e.marked e (marks xs) (marks ys))
  where
    spread : (b : Bool) (d : Entry) (cs bs : List Entry) → cond b (d ∷ (cs ++ bs)) (cs ++ bs) ≡ cond b (d ∷ cs) cs ++ bs
    spread true d cs bs = refl
    spread false d cs bs = refl

pub plain-append : (xs ys : List Entry) → plain (xs ++ ys) ≡ plain xs ++ plain ys
unfolding plain
plain-append [] ys = refl
plain-append (e ∷ xs) ys = rw (plain-append xs ys) (spread e.marked e (plain xs) (plain ys))
  where
    spread : (b : Bool) (d : Entry) (cs bs : List Entry) → cond b (cs ++ bs) (d ∷ (cs ++ bs)) ≡ cond b cs (d ∷ cs) ++ bs
    spread true d cs bs = refl
    spread false d cs bs = refl

-- an unmarked entry more or less is no change of the marked ones, and a marked one none of the others
pub marks_middle : (xs : List Entry) (e : Entry) (ys : List Entry) → e.marked ≡ false → marks (xs ++ e ∷ ys)
    ≡ marks (xs ++ ys)
marks_middle xs e ys h = rw (marks-append, marks-append, marks_no e ys h) refl

pub plain_middle : (xs : List Entry) (e : Entry) (ys : List Entry) → e.marked ≡ true → plain (xs ++ e ∷ ys)
    ≡ plain (xs ++ ys)
plain_middle xs e ys h = rw (plain-append, plain-append, plain_yes e ys h) refl

-- a marked entry may come anywhere behind its group
pub last_in : (key : List ℕ) (xs : List Entry) (e : Entry) (ys : List Entry) → e.marked ≡ true
    → group_size key ys (pick key e.tuple) ≡ 0 → AreLast key (xs ++ ys) → AreLast key (xs ++ e ∷ ys)
unfolding AreLast
last_in key [] e ys m none h = ((λ k. omega (arith, none, many_split key ys (pick key e.tuple))), h)
last_in key (x ∷ xs) e ys m none h = ((λ k. rw (plain_middle xs e ys m) (h.0 k)), last_in key xs e ys m none h.1)

plain_alike : (b c : Bool) (d e : Entry) (es : List Entry) → d.marked ≡ b → e.marked ≡ c → b ≡ c → (key w : List ℕ)
    → pick key d.tuple ≡ pick key e.tuple → group_size key (plain (d ∷ es)) w ≡ group_size key (plain (e ∷ es)) w
plain_alike true true d e es h k same_mark key w p = rw (plain_yes d es h, plain_yes e es k) refl
plain_alike false false d e es h k same_mark key w p = rw (plain_no d es h, plain_no e es k, many_cons, many_cons, p)
    refl
plain_alike true false d e es h k same_mark key w p = absurd (false≢true (sym same_mark))
plain_alike false true d e es h k same_mark key w p = absurd (false≢true same_mark)

-- a group whose first entry is marked is marked whole
pub last_rest : (key : List ℕ) (e : Entry) (es : List Entry) → AreLast key (e ∷ es) → AreLast key es
unfolding AreLast
last_rest key e es h = h.1

last_first : (key : List ℕ) (e : Entry) (es : List Entry) → AreLast key (e ∷ es) → e.marked ≡ true
    → group_size key (plain es) (pick key e.tuple) ≡ 0
unfolding AreLast
last_first key e es h = h.0

empty_no_cons : (e : Entry) (xs : List Entry) → ([] ≡ e ∷ xs) → ⊥
empty_no_cons e xs h = cc

nothing : (key : List ℕ) (w : List ℕ) (e : Entry) (rest : List Entry) → group_of key [] w ≡ e ∷ rest → ⊥
unfolding group_of
nothing key w e rest h = empty_no_cons e rest h

pub whole_group : (key : List ℕ) (es : List Entry) (w : List ℕ) (e : Entry) (rest : List Entry) → AreLast key es
    → group_of key es w ≡ e ∷ rest → e.marked ≡ true → group_size key (plain es) w ≡ 0
whole_group key [] w e rest h is m = absurd (nothing key w e rest is)
whole_group key (x ∷ es) w e rest h is m =
    elim (cases_Bool (same (pick key x.tuple) w)) [
      | inl here ↦ (let front : x
          ≡ e = (let both : x ∷ group_of key es w ≡ e ∷ rest = sym (grp_yes key x es w here) ∙ is in cc) in
          let marked : x.marked ≡ true = ap (λ (d : Entry). d.marked) front ∙ m in
          rw (plain_yes x es marked)
          (subst (λ v. group_size key (plain es) v ≡ 0) (same_is (pick key x.tuple) w here)
          (last_first key x es h marked)))
      | inr other ↦ (let rest_is = sym (grp_no key x es w other) ∙ is in
          let none = whole_group key es w e rest (last_rest key x es h) rest_is m in
          elim (cases_Bool x.marked) [
            | inl marked ↦ rw (plain_yes x es marked) none
            | inr unmarked_one ↦ rw (plain_no x es unmarked_one)
                (omega (arith, none, many_cons key x (plain es) w, one_false (same (pick key x.tuple) w) other))
          ])
    ]

pub part_group : (key : List ℕ) (es : List Entry) (w : List ℕ) (e : Entry) (rest : List Entry)
    → group_of key es w ≡ e ∷ rest
    → e.marked ≡ false → 0 < group_size key (plain es) w
part_group key [] w e rest is m = absurd (nothing key w e rest is)
part_group key (x ∷ es) w e rest is m =
    elim (cases_Bool (same (pick key x.tuple) w)) [
      | inl here ↦ (let front : x
          ≡ e = (let both : x ∷ group_of key es w ≡ e ∷ rest = sym (grp_yes key x es w here) ∙ is in cc) in
          let unmarked_one : x.marked ≡ false = ap (λ (d : Entry). d.marked) front ∙ m in
          rw (plain_no x es unmarked_one)
          (omega (arith, many_cons key x (plain es) w, one_true (same (pick key x.tuple) w) here)))
      | inr other ↦ (let some = part_group key es w e rest (sym (grp_no key x es w other) ∙ is) m in
          elim (cases_Bool x.marked) [
            | inl marked ↦ rw (plain_yes x es marked) some
            | inr unmarked_one ↦ rw (plain_no x es unmarked_one) (omega (arith, some, many_cons key x (plain es) w))
          ])
    ]

-- in a table, a marked tuple is counted once among the marked ones
pub is_marked_here : (e : Entry) (es : List Entry) (u : List ℕ) → same e.tuple u ≡ true → is_marked (e ∷ es) u
    ≡ e.marked
unfolding is_marked
is_marked_here e es u h = rw h refl

pub is_marked_else : (e : Entry) (es : List Entry) (u : List ℕ) → same e.tuple u ≡ false → is_marked (e ∷ es) u
    ≡ is_marked es u
unfolding is_marked
is_marked_else e es u h = rw h refl

marks_cons : (e : Entry) (es : List Entry) (u : List ℕ) → count_of (marks (e ∷ es)) u
    ≡ cond e.marked (one_if (same e.tuple u)) 0 + count_of (marks es) u
unfolding count_of
marks_cons e es u = elim (cases_Bool e.marked) [
  | inl marked ↦ rw (marks_yes e es marked, marked) (cnt_cons e (marks es) u)
  | inr other ↦ rw (marks_no e es other, other) (omega arith)
]

unmarked_none : (u : List ℕ) → count_of (marks []) u ≡ one_if (is_marked [] u)
unfolding count_of marks one_if is_marked
unmarked_none u = refl

by_test : (b : Bool) (n : ℕ) → n ≡ 0 → cond b n 0 ≡ 0
by_test true n h = h
by_test false n h = refl

cond_one : (b : Bool) (n : ℕ) → n ≡ 1 → cond b n 0 ≡ one_if b
unfolding one_if
cond_one true n h = h
cond_one false n h = refl

pub marked_cnt : (es : List Entry) (u : List ℕ) → TuplesDiffer es → count_of (marks es) u ≡ one_if (is_marked es u)
unfolding TuplesDiffer
marked_cnt [] u h = unmarked_none u
marked_cnt (e ∷ es) u h =
    elim (same_cases e.tuple u) [
      | inl here ↦ (let absent : count_of es u ≡ 0 = subst (λ v. count_of es v ≡ 0) here h.0 in
          let test : same e.tuple u ≡ true = is_same e.tuple u here in
          rw (is_marked_here e es u test)
          (omega (
            arith,
            marks_cons e es u,
            cnt_split es u,
            absent,
            cond_one e.marked (one_if (same e.tuple u))
                (one_true (same e.tuple u) test),
          )))
      | inr other ↦ rw (is_marked_else e es u other)
          (omega (
            arith,
            marks_cons e es u,
            marked_cnt es u h.1,
            by_test e.marked (one_if (same e.tuple u))
                (one_other e.tuple u other),
          ))
    ]

-- without marks
pub unmarked_cons : (e : Entry) (es : List Entry) → unmarked (e ∷ es) ≡ bare e ∷ unmarked es
unfolding unmarked
unmarked_cons e es = refl

pub unmarked_supp : (es : List Entry) (u : List ℕ) → supports_of (unmarked es) u ≡ supports_of es u
unfolding unmarked supports_of bare
unmarked_supp [] u = refl
unmarked_supp (e ∷ es) u = ap (λ n. cond (same e.tuple u) e.supports 0 + n) (unmarked_supp es u)

pub unmarked_marks : (es : List Entry) → marks (unmarked es) ≡ []
unfolding unmarked marks bare
unmarked_marks [] = refl
unmarked_marks (e ∷ es) = unmarked_marks es

pub length_unmarked : (es : List Entry) → length (unmarked es) ≡ length es
unfolding unmarked
length_unmarked [] = refl
length_unmarked (e ∷ es) = ap suc (length_unmarked es)

-- ---- What a change of a table does to its numbers.

pub length_middle : (xs : List Entry) (e : Entry) (ys : List Entry) → length (xs ++ e ∷ ys) ≡ length (xs ++ ys) + 1
length_middle xs e ys = omega (arith, length-append xs (e ∷ ys), length-append xs ys)

one_of : (e : Entry) (u v : List ℕ) → e.tuple ≡ u → one_if (same e.tuple v) ≡ one_if (same u v)
one_of e u v h = ap (λ w. one_if (same w v)) h

one_key : (key : List ℕ) (e : Entry) (u w : List ℕ) → e.tuple ≡ u → one_if (same (pick key e.tuple) w)
    ≡ one_if (same (pick key u) w)
one_key key e u w h = ap (λ v. one_if (same (pick key v) w)) h

cond_of : (e : Entry) (u v : List ℕ) (n : ℕ) → e.tuple ≡ u → e.supports ≡ n → cond (same e.tuple v) e.supports 0
    ≡ cond (same u v) n 0
cond_of e u v n h k = rw (h, k) refl

cond_unit : (u v : List ℕ) → cond (same u v) 1 0 ≡ one_if (same u v)
unfolding one_if
cond_unit u v = refl

-- an insertion
pub inserted_cnt : {m : Bool} (key : List ℕ) (old new : List Entry) (u : List ℕ) → InsertedAs m key old new u
    → (v : List ℕ) → count_of new v ≡ count_of old v + one_if (same u v)
inserted_cnt {m} key old new u i v = rw (i.was, i.is)
    (omega (arith, cnt_middle i.front i.entry i.back v, one_of i.entry u v i.tuple))

pub inserted_supp : {m : Bool} (key : List ℕ) (old new : List Entry) (u : List ℕ) → InsertedAs m key old new u
    → (v : List ℕ) → supports_of new v ≡ supports_of old v + one_if (same u v)
inserted_supp {m} key old new u i v = rw (i.was, i.is)
    (omega (arith, supp_middle i.front i.entry i.back v, cond_of i.entry u v 1 i.tuple i.supports, cond_unit u v))

pub inserted_many : {m : Bool} (key : List ℕ) (old new : List Entry) (u : List ℕ) → InsertedAs m key old new u
    → (columns w : List ℕ) → group_size columns new w ≡ group_size columns old w + one_if (same (pick columns u) w)
inserted_many {m} key old new u i columns w = rw (i.was, i.is)
    (omega (arith, many_middle columns i.front i.entry i.back w, one_key columns i.entry u w i.tuple))

pub inserted_length : {m : Bool} (key : List ℕ) (old new : List Entry) (u : List ℕ) → InsertedAs m key old new u
    → length new ≡ length old + 1
inserted_length {m} key old new u i = rw (i.was, i.is) (length_middle i.front i.entry i.back)

pub inserted_plain : (key : List ℕ) (old new : List Entry) (u : List ℕ) → Inserted key old new u → plain new ≡ plain old
inserted_plain key old new u i = rw (i.was, i.is) (plain_middle i.front i.entry i.back i.marked)

pub inserted_supported : {m : Bool} (key : List ℕ) (old new : List Entry) (u : List ℕ) → InsertedAs m key old new u
    → AreSupported old → AreSupported new
inserted_supported {m} key old new u i h =
    subst AreSupported (sym i.is)
    (supported_in i.front i.entry i.back (omega (arith, i.supports)) (subst AreSupported i.was h))

-- a removal
pub removed_cnt : (old new : List Entry) (u : List ℕ) → Removed old new u → (v : List ℕ) → count_of old v
    ≡ count_of new v + one_if (same u v)
removed_cnt old new u r v = rw (r.was, r.is)
    (omega (arith, cnt_middle r.front r.entry r.back v, one_of r.entry u v r.tuple))

pub removed_many : (old new : List Entry) (u : List ℕ) → Removed old new u → (columns w : List ℕ)
    → group_size columns old w
    ≡ group_size columns new w + one_if (same (pick columns u) w)
removed_many old new u r columns w = rw (r.was, r.is)
    (omega (arith, many_middle columns r.front r.entry r.back w, one_key columns r.entry u w r.tuple))

pub removed_length : (old new : List Entry) (u : List ℕ) → Removed old new u → length old ≡ length new + 1
removed_length old new u r = rw (r.was, r.is) (length_middle r.front r.entry r.back)

pub removed_supported : (old new : List Entry) (u : List ℕ) → Removed old new u → AreSupported old → AreSupported new
removed_supported old new u r h = subst AreSupported (sym r.is)
    (supported_out r.front r.entry r.back (subst AreSupported r.was h))

pub removed_supp : (old new : List Entry) (u : List ℕ) → Removed old new u → TuplesDiffer old → (v : List ℕ)
    → supports_of old v
    ≡ supports_of new v + cond (same u v) (supports_of old u) 0
removed_supp old new u r h v =
    let here : supports_of old u ≡ r.entry.supports = supp_at old r.front r.entry r.back u h r.was r.tuple in
    let sum : supports_of old v ≡ cond (same r.entry.tuple v) r.entry.supports 0 + supports_of new v = rw (r.was, r.is)
    (supp_middle r.front r.entry r.back v) in
    omega (arith, sum, cond_of r.entry u v (supports_of old u) r.tuple (sym here))

-- a change of supports
pub supported_cnt : (old new : List Entry) (u : List ℕ) (from to : ℕ) → Supported old new u from to → (v : List ℕ)
    → count_of new v ≡ count_of old v
supported_cnt old new u from to s v =
    rw (s.was, s.is) (omega (
      arith,
      cnt_middle s.front s.before s.back v,
      cnt_middle s.front s.after s.back v,
      one_of s.before u v s.tuple,
      one_of s.after u v s.same_tuple,
    ))

pub supported_length : (old new : List Entry) (u : List ℕ) (from to : ℕ) → Supported old new u from to → length new
    ≡ length old
supported_length old new u from to s = rw (s.was, s.is)
    (omega (arith, length_middle s.front s.before s.back, length_middle s.front s.after s.back))

pub supported_supp : (old new : List Entry) (u : List ℕ) (from to : ℕ) → Supported old new u from to → (v : List ℕ)
    → supports_of new v + cond (same u v) from 0 ≡ supports_of old v + cond (same u v) to 0
supported_supp old new u from to s v =
    rw (s.was, s.is) (omega (
      arith,
      supp_middle s.front s.before s.back v,
      supp_middle s.front s.after s.back v,
      cond_of s.before u v from
          s.tuple s.had,
      cond_of s.after u v to s.same_tuple s.has,
    ))

step_up : (b : Bool) (n : ℕ) → cond b (n + 1) 0 ≡ cond b n 0 + one_if b
unfolding one_if
step_up true n = refl
step_up false n = refl

pub raised_supp : (old new : List Entry) (u : List ℕ) (n : ℕ) → Supported old new u n (n + 1) → (v : List ℕ)
    → supports_of new v ≡ supports_of old v + one_if (same u v)
raised_supp old new u n s v = omega (arith, supported_supp old new u n (n + 1) s v, step_up (same u v) n)

pub supported_apart : (old new : List Entry) (u : List ℕ) (from to : ℕ) → Supported old new u from to → TuplesDiffer old
    → TuplesDiffer new
supported_apart old new u from to s h =
    subst TuplesDiffer (sym s.is)
    (apart_same s.front s.before s.after s.back (s.same_tuple ∙ sym s.tuple) (subst TuplesDiffer s.was h))

pub touched_supp : (key : List ℕ) (old new : List Entry) (u : List ℕ) → Touched key old new u → (v : List ℕ)
    → supports_of new v ≡ supports_of old v
touched_supp key old new u t v =
    rw (t.was, t.is) (omega (
      arith,
      supp_middle t.front t.before t.back v,
      supp_middle t.fore t.after t.rest v,
      ap (λ es. supports_of es v)
          t.between,
      cond_of t.before u v t.before.supports t.tuple refl,
      cond_of t.after u v t.before.supports
          t.same_tuple t.same_supports,
    ))

pub touched_length : (key : List ℕ) (old new : List Entry) (u : List ℕ) → Touched key old new u → length new
    ≡ length old
touched_length key old new u t = rw (t.was, t.is)
    (omega (
      arith,
      length_middle t.front t.before t.back,
      length_middle t.fore t.after t.rest,
      ap
          (λ (es : List Entry). length es) t.between,
    ))

pub touched_marks : (key : List ℕ) (old new : List Entry) (u : List ℕ) → Touched key old new u → (v : List ℕ)
    → count_of (marks new) v ≡ count_of (marks old) v + one_if (same u v)
touched_marks key old new u t v =
    let less : marks old ≡ marks (t.fore ++ t.rest) = rw
    (t.was, marks_middle t.front t.before t.back t.plain, t.between) refl in
    let more : plain new ≡ plain (t.fore ++ t.rest) = rw t.is (plain_middle t.fore t.after t.rest t.marked) in
    rw (t.is, less) (omega (
      arith,
      cnt_middle t.fore t.after t.rest v,
      cnt_split (t.fore ++ t.after ∷ t.rest) v,
      cnt_split
          (t.fore ++ t.rest) v,
      ap (λ es. count_of (plain es) v) (sym t.is),
      ap (λ es. count_of es v) more,
      one_of t.after u v
          t.same_tuple,
    ))

-- ---- Walks along groups and marks: each place that they come to is live.

more_live : (x : Entry) (es : List Entry) (p : Place) → IsOccupied es p → IsOccupied (x ∷ es) p
more_live x es p l = record {
  tuple = l.tuple;
  is_at = record {
    front = x ∷ l.is_at.front;
    back = l.is_at.back;
    entry = l.is_at.entry;
    is = ap (λ (zs : List Entry). x ∷ zs)
        l.is_at.is;
    tuple = l.is_at.tuple;
    at = l.is_at.at;
  };
}

first_live : (x : Entry) (es zs : List Entry) (xs : List Entry) (e : Entry) (ys : List Entry)
    → ((fs : List Entry) → zs ≡ fs ++ e ∷ ys → IsOccupied es e.at) → x ∷ zs ≡ xs ++ e ∷ ys → IsOccupied (x ∷ es) e.at
first_live x es zs [] e ys rest h =
    let first : e ≡ x = cc in
    record {
      tuple = x.tuple;
      is_at = record
          { front = []; back = es; entry = x; is = refl; tuple = refl; at = ap (λ (d : Entry). d.at) (sym first) };
    }
first_live x es zs (f ∷ fs) e ys rest h = let k : zs ≡ fs ++ e ∷ ys = cc in more_live x es e.at (rest fs k)

no_group_walking : (key : List ℕ) (w : List ℕ) (xs : List Entry) (e : Entry) (ys : List Entry) → group_of key [] w ≡ xs ++ e
    ∷ ys → ⊥
unfolding group_of
no_group_walking key w [] e ys h = cc
no_group_walking key w (x ∷ xs) e ys h = cc

-- each entry of a group is live
pub group_live : (key : List ℕ) (es : List Entry) (w : List ℕ) (xs : List Entry) (e : Entry) (ys : List Entry)
    → group_of key es w ≡ xs ++ e ∷ ys → IsOccupied es e.at
group_live key [] w xs e ys h = absurd (no_group_walking key w xs e ys h)
group_live key (x ∷ es) w xs e ys h =
    elim (cases_Bool (same (pick key x.tuple) w)) [
      | inl here ↦ first_live x es (group_of key es w) xs e ys (λ fs k. group_live key es w fs e ys k)
          (sym (grp_yes key x es w here) ∙ h)
      | inr other ↦ more_live x es e.at (group_live key es w xs e ys (sym (grp_no key x es w other) ∙ h))
    ]

no_marks : (xs : List Entry) (e : Entry) (ys : List Entry) → marks [] ≡ xs ++ e ∷ ys → ⊥
unfolding marks
no_marks [] e ys h = cc
no_marks (x ∷ xs) e ys h = cc

-- each marked entry is live
pub marks_live : (es : List Entry) (xs : List Entry) (e : Entry) (ys : List Entry) → marks es ≡ xs ++ e ∷ ys
    → IsOccupied es e.at
marks_live [] xs e ys h = absurd (no_marks xs e ys h)
marks_live (x ∷ es) xs e ys h =
    elim (cases_Bool x.marked) [
      | inl here ↦ first_live x es (marks es) xs e ys (λ fs k. marks_live es fs e ys k) (sym (marks_yes x es here) ∙ h)
      | inr other ↦ more_live x es e.at (marks_live es xs e ys (sym (marks_no x es other) ∙ h))
    ]

-- a list at the place where a walk stands after j steps
pub record WalkCut (g : List Entry) (j : ℕ) (p : Place) : Type 0 where
  pub entry : Entry
  pub at : entry.at ≡ p
  pub is : g ≡ take j g ++ entry ∷ drop (j + 1) g

cut_suc : (g : List Entry) (j : ℕ) (p : Place) → head_at (drop j g) ≡ Some p → (e : Entry) × (e.at ≡ p)
    × (g ≡ take j g ++ e ∷ drop (suc j) g)
unfolding head_at
cut_suc [] zero p h = absurd cc
cut_suc [] (suc j) p h = absurd cc
cut_suc (e ∷ g) zero p h = let s : e.at ≡ p = cc in (e, s, refl)
cut_suc (x ∷ g) (suc j) p h = let c = cut_suc g j p h in (c.0, c.1, ap (λ (es : List Entry). x ∷ es) c.2)

pub walk_cut : (g : List Entry) (j : ℕ) (p : Place) → head_at (drop j g) ≡ Some p → WalkCut g j p
walk_cut g j p h = let c = cut_suc g j p h in record { entry = c.0; at = c.1; is = rw add-one c.2 }

-- the last of a list, seen from behind
pub record BackCut (g : List Entry) (p : Place) : Type 0 where
  pub front : List Entry
  pub entry : Entry
  pub at : entry.at ≡ p
  pub is : g ≡ front ++ entry ∷ []

record Snoc (e : Entry) (es : List Entry) : Type 0 where
  front : List Entry
  end : Entry
  is : e ∷ es ≡ front ++ end ∷ []

snoc : (e : Entry) (es : List Entry) → Snoc e es
snoc e [] = record { front = []; end = e; is = refl }
snoc e (f ∷ es) = let s = snoc f es in record
    { front = e ∷ s.front; end = s.end; is = ap (λ (ds : List Entry). e ∷ ds) s.is }

last_snoc : (es : List Entry) (e : Entry) → last_at (es ++ e ∷ []) ≡ Some e.at
unfolding last_at head_at
last_snoc es e = rw (reverse-append es (e ∷ [])) refl

last_nil : last_at [] ≡ None
unfolding last_at head_at
last_nil = refl

pub back_cut : (g : List Entry) (p : Place) → last_at g ≡ Some p → BackCut g p
back_cut [] p h = absurd (let k : None ≡ Some p = sym last_nil ∙ h in cc)
back_cut (e ∷ es) p h =
    let s = snoc e es in
    let k : Some s.end.at ≡ Some p = sym (last_snoc s.front s.end) ∙ ap last_at (sym s.is) ∙ h in
    let at : s.end.at ≡ p = cc in
    record { front = s.front; entry = s.end; at = at; is = s.is }

-- in the middle of a walk backwards
pub record Backing (g : List Entry) (next : Option Place) : Type 0 where
  pub front : List Entry
  pub back : List Entry
  pub is : g ≡ front ++ back
  pub last : next ≡ last_at front

pub backing_cut : (g : List Entry) (p : Place) → Backing g (Some p) → (xs : List Entry) × (e : Entry)
    × (ys : List Entry) × (g ≡ xs ++ e ∷ ys) × (e.at ≡ p)
backing_cut g p b =
    let c = back_cut b.front p (sym b.last) in (
      c.front,
      c.entry,
      b.back,
      b.is ∙ ap (λ (es : List Entry). es ++ b.back) c.is
          ∙ append_assoc c.front (c.entry ∷ []) b.back,
      c.at,
    )
