-- The marked part of a group, and its tuples by their places.
use Rattle.std.proofs.Common.{◌≡◌, ℕ, zero, suc, ◌*◌, ◌<◌, ◌≤◌, true, List, [], ◌∷◌, ◌++◌, length, reverse, refl, ap}
use Rattle.std.proofs.Common.{sym, ◌∙◌, inl, inr, arith, ◌-◌, Bool, false, cond, Option, Some, None, is_some, subst}
use Rattle.std.proofs.Math.Nat.{zero-mul, mul-zero}
use Rattle.std.proofs.lemmas.Bool.{cases_Bool, false≢true, lt-ltb, le-ltb}
use Rattle.std.proofs.lemmas.List.{length-reverse, length-map, reverse-append}
use Rattle.std.specs.Prelude.{◌||◌, nat_lt, IfSome, IfNone, MatchOption}
use Rattle.djq_index.specs.declared.place.Place.{Place}
use Rattle.djq_index.specs.Tuple.{same, pick, one_if}
use Rattle.djq_index.specs.Entries.{Entry, count_of, group_size, group_of, marks, head_at}
use Rattle.djq_index.specs.Table.{TuplesDiffer, IsAt}
use Rattle.djq_index.proofs.Tuples.{one_same, one_le, same_is, same_refl, cnt_cons, count_of-append, cnt_split}
use Rattle.djq_index.proofs.Tuples.{length_grp, cnt_once, there, at_of, live}
use Rattle.djq_index.proofs.Groups.{cnt_grp, grp_yes, grp_no, marks_yes, marks_no}
use Rattle.djq_index.proofs.Tables.{nil_not}
use Rattle.djq_reduct.specs.Tables.{entries_at, key_at}
use Rattle.djq_reduct.specs.Reducts.{Reducts, IsReducts}
use Rattle.djq_reduct.proofs.Assignments.{apart_at}
use Rattle.djq_enumeration.specs.declared.places.Choice.{Choice}
use Rattle.djq_enumeration.specs.Menus.{has_tuple, TuplesOnce, tuples_behind}
use Rattle.djq_enumeration.specs.Told.{marked_or}
use Rattle.djq_enumeration.specs.Levels.{source, group_at}
use Rattle.djq_enumeration.specs.Walk.{IsAlive, IsFirstAt, chosen}
use Rattle.djq_enumeration.specs.Given.{has_root}
use Rattle.djq_enumeration.proofs.Menus.{tuples, has_cnt, cnt_has, both_positive, product_positive, grp_nil, apart_head}
use Rattle.djq_enumeration.proofs.Menus.{apart_tail}
use Rattle.djq_enumeration.proofs.LevelChoices.{tuple_at_is, placed_in, chosen_at}

-- ---- The marked part of a group, the last first.

no_cnt : (u : List ℕ) → count_of [] u ≡ 0
unfolding count_of
no_cnt u = refl

pub cnt_reverse : (es : List Entry) (u : List ℕ) → count_of (reverse es) u ≡ count_of es u
cnt_reverse [] u = refl
cnt_reverse (e ∷ es) u =
    let last : count_of (reverse (e ∷ es)) u ≡ count_of (reverse es ++ e ∷ []) u = ap
    (λ (fs : List Entry). count_of fs u) (reverse-append (e ∷ []) es) in
    let a = count_of-append (reverse es) (e ∷ []) u in
    let c = cnt_cons e [] u in
    let n = no_cnt u in
    let d = cnt_cons e es u in
    let r = cnt_reverse es u in
    omega arith

-- each tuple once, by counts
pub once_by : (es : List Entry) → ((u : List ℕ) → count_of es u ≤ 1) → TuplesOnce (tuples es)
once_by [] h = tt
once_by (e ∷ es) h = (
  elim (cases_Bool (has_tuple (tuples es) e.tuple)) [
    | inl is ↦ absurd
        (let p = has_cnt es e.tuple is in let c = cnt_cons e es e.tuple in let o = one_same
        e.tuple in let l = h e.tuple in omega arith)
    | inr isnt ↦ isnt
  ],
  once_by es (λ u. let c = cnt_cons e es u in let l = h u in omega arith),
)

-- the marked ones of a group are the group of the marked ones
marks_nil : marks [] ≡ []
unfolding marks
marks_nil = refl

pub marks_grp : (key : List ℕ) (es : List Entry) (w : List ℕ)
    → marks (group_of key es w) ≡ group_of key (marks es) w
marks_grp key [] w = ap marks (grp_nil key w) ∙ marks_nil
    ∙ sym (ap (λ (fs : List Entry). group_of key fs w) marks_nil ∙ grp_nil key w)
marks_grp key (e ∷ es) w =
    let r = marks_grp key es w in
    elim (cases_Bool (same (pick key e.tuple) w)) [
      | inl in_group ↦
          elim (cases_Bool e.marked) [
            | inl marked ↦
                ap marks (grp_yes key e es w in_group) ∙ marks_yes e (group_of key es w) marked
                ∙ ap (λ (fs : List Entry). e ∷ fs) r
                ∙ sym (ap (λ (fs : List Entry). group_of key fs w) (marks_yes e es marked)
                ∙ grp_yes key e (marks es) w in_group)
            | inr unmarked ↦
                ap marks (grp_yes key e es w in_group) ∙ marks_no e (group_of key es w) unmarked ∙ r
                ∙ sym (ap (λ (fs : List Entry). group_of key fs w) (marks_no e es unmarked))
          ]
      | inr other ↦
          elim (cases_Bool e.marked) [
            | inl marked ↦
                ap marks (grp_no key e es w other) ∙ r
                ∙ sym (ap (λ (fs : List Entry). group_of key fs w) (marks_yes e es marked)
                ∙ grp_no key e (marks es) w other)
            | inr unmarked ↦ ap marks (grp_no key e es w other) ∙ r
                ∙ sym (ap (λ (fs : List Entry). group_of key fs w) (marks_no e es unmarked))
          ]
    ]

-- ---- the part

abbrev pub part : List Entry → List Entry
part g = reverse (marked_or (marks g) g)

or_few : (ms g : List Entry) (u : List ℕ) → count_of ms u ≤ count_of g u → count_of (marked_or ms g) u ≤ count_of g u
or_few [] g u h = omega arith
or_few (m ∷ ms) g u h = h

or_some : (ms g : List Entry) → 0 < length g → 0 < length (marked_or ms g)
or_some [] g h = h
or_some (m ∷ ms) g h = omega arith

or_marked : (ms g : List Entry) → 0 < length ms → marked_or ms g ≡ ms
or_marked [] g h = absurd (omega arith)
or_marked (m ∷ ms) g h = refl

-- it has no tuple that the group lacks, nor one twice
pub part_few : (g : List Entry) (u : List ℕ) → count_of (part g) u ≤ count_of g u
part_few g u =
    let r = cnt_reverse (marked_or (marks g) g) u in
    let s = cnt_split g u in
    let f = or_few (marks g) g u (omega arith) in
    omega arith

pub part_in : (g : List Entry) (u : List ℕ) → has_tuple (tuples (part g)) u ≡ true
    → has_tuple (tuples g) u ≡ true
part_in g u h = cnt_has g u (let p = has_cnt (part g) u h in let f = part_few g u in omega arith)

pub part_once : (g : List Entry) → ((u : List ℕ) → count_of g u ≤ 1) → TuplesOnce (tuples (part g))
part_once g h = once_by (part g) (λ u. let f = part_few g u in let l = h u in omega arith)

-- it isn't empty where the group isn't
pub part_filled : (g : List Entry) → 0 < length g → tuples (part g) ≡ [] → ⊥
part_filled g h e =
    let z : length (tuples (part g)) ≡ 0 = ap (λ (us : List (List ℕ)). length us) e in
    let m : length (tuples (part g)) ≡ length (part g) = length-map (part g)
    (λ (e : Entry). e.tuple) in
    let r = length-reverse (marked_or (marks g) g) in
    let s = or_some (marks g) g h in
    omega arith

-- where there are marks it has the marked ones, and else all
pub part_marked : (g : List Entry) (u : List ℕ) → 0 < length (marks g)
    → has_tuple (tuples (part g)) u ≡ true → 0 < count_of (marks g) u
part_marked g u some h =
    let p = has_cnt (part g) u h in
    let r = cnt_reverse (marked_or (marks g) g) u in
    let e : count_of (marked_or (marks g) g) u ≡ count_of (marks g) u = ap (λ (es : List Entry). count_of es u)
    (or_marked (marks g) g some) in
    omega arith

part_cases : (ms g : List Entry) (u : List ℕ) → 0 < count_of g u → (0 < length ms → 0 < count_of ms u)
    → 0 < count_of (marked_or ms g) u
part_cases [] g u h k = h
part_cases (m ∷ ms) g u h k = k (omega arith)

pub in_part : (g : List Entry) (u : List ℕ) → 0 < count_of g u
    → (0 < length (marks g) → 0 < count_of (marks g) u) → has_tuple (tuples (part g)) u ≡ true
in_part g u h k = cnt_has (part g) u
    (let c = part_cases (marks g) g u h k in let r = cnt_reverse (marked_or (marks g) g) u in omega
    arith)

-- ---- in a group of a table

pub group_few : (key : List ℕ) (es : List Entry) (w u : List ℕ) → TuplesDiffer es
    → count_of (group_of key es w) u ≤ 1
group_few key es w u h =
    let c = cnt_grp key es w u in
    let o = cnt_once es u h in
    let l = one_le (same (pick key u) w) in
    let p = small_product (count_of es u) (one_if (same (pick key u) w)) o l in
    omega arith
  where
    small_product : (a b : ℕ) → a ≤ 1 → b ≤ 1 → a * b ≤ 1
    small_product zero b h k = omega (arith, zero-mul b)
    small_product (suc a) zero h k = omega (arith, mul-zero (suc a))
    small_product (suc zero) (suc zero) h k = omega arith
    small_product (suc (suc a)) (suc b) h k = absurd (omega arith)
    small_product (suc zero) (suc (suc b)) h k = absurd (omega arith)

pub marked_group : (key : List ℕ) (es : List Entry) (w : List ℕ)
    → length (marks (group_of key es w)) ≡ group_size key (marks es) w
marked_group key es w = ap (λ (fs : List Entry). length fs) (marks_grp key es w)
    ∙ length_grp key (marks es) w

pub marked_in_group : (key : List ℕ) (es : List Entry) (w u : List ℕ)
    → 0 < count_of (marks (group_of key es w)) u → 0 < count_of (marks es) u
marked_in_group key es w u h =
    let e : count_of (marks (group_of key es w)) u ≡ count_of (group_of key (marks es) w) u = ap
    (λ (fs : List Entry). count_of fs u) (marks_grp key es w) in
    let c = cnt_grp key (marks es) w u in
    (both_positive (count_of (marks es) u) (one_if (same (pick key u) w)) (omega arith)).0

pub group_marked : (key : List ℕ) (es : List Entry) (w u : List ℕ) → 0 < count_of (marks es) u
    → 0 < one_if (same (pick key u) w) → 0 < count_of (marks (group_of key es w)) u
group_marked key es w u h k =
    let e : count_of (marks (group_of key es w)) u ≡ count_of (group_of key (marks es) w) u = ap
    (λ (fs : List Entry). count_of fs u) (marks_grp key es w) in
    let c = cnt_grp key (marks es) w u in
    let p = product_positive (count_of (marks es) u) (one_if (same (pick key u) w)) h k in
    omega arith

-- ---- Tuples of a group by their places.

-- an entry stands in a list
pub record Inside (es : List Entry) (e : Entry) : Type 0 where
  pub front : List Entry
  pub back : List Entry
  pub is : es ≡ front ++ e ∷ back

pub further : (d : Entry) (es : List Entry) (e : Entry) → Inside es e → Inside (d ∷ es) e
further d es e i =
    record { front = d ∷ i.front; back = i.back; is = ap (λ (l : List Entry). d ∷ l) i.is }

inside_kept : (d : Entry) (es g xs : List Entry) (e : Entry) (ys : List Entry)
    → d ∷ g ≡ xs ++ e ∷ ys → ((zs : List Entry) → g ≡ zs ++ e ∷ ys → Inside es e)
    → Inside (d ∷ es) e
inside_kept d es g [] e ys h r =
    record {
      front = [];
      back = es;
      is = (let same : d ≡ e = cc in ap (λ (x : Entry). x ∷ es) same);
    }
inside_kept d es g (x ∷ xs) e ys h r = further d es e (r xs (cc))

-- what stands in a group stands in the table
pub inside_group : (key : List ℕ) (es : List Entry) (w : List ℕ) (xs : List Entry) (e : Entry)
    (ys : List Entry) → group_of key es w ≡ xs ++ e ∷ ys → Inside es e
inside_group key [] w xs e ys h = absurd (nil_not xs e ys (sym (grp_nil key w) ∙ h))
inside_group key (d ∷ es) w xs e ys h =
    elim (cases_Bool (same (pick key d.tuple) w)) [
      | inl here ↦ inside_kept d es (group_of key es w) xs e ys (sym (grp_yes key d es w here) ∙ h)
          (λ zs k. inside_group key es w zs e ys k)
      | inr other ↦ further d es e
          (inside_group key es w xs e ys (sym (grp_no key d es w other) ∙ h))
    ]

pub at_inside : (es : List Entry) (e : Entry) → Inside es e → IsAt es e.at e.tuple
at_inside es e i = at_of es i.front e i.back i.is

-- ---- a tuple lies at one place

abbrev place_in : List Entry → List ℕ → Option Place
place_in [] u = None
place_in (e ∷ es) u = cond (same e.tuple u) (Some e.at) (place_in es u)

place_else : (e : Entry) (es : List Entry) (u : List ℕ) → (e.tuple ≡ u → ⊥)
    → place_in (e ∷ es) u ≡ place_in es u
place_else e es u h =
    elim (cases_Bool (same e.tuple u)) [
      | inl here ↦ absurd (h (same_is e.tuple u here))
      | inr other ↦ ap (λ (b : Bool). cond b (Some e.at) (place_in es u)) other
    ]

place_middle : (xs : List Entry) (e : Entry) (ys : List Entry) → TuplesDiffer (xs ++ e ∷ ys)
    → place_in (xs ++ e ∷ ys) e.tuple ≡ Some e.at
place_middle [] e ys h = ap (λ (b : Bool). cond b (Some e.at) (place_in ys e.tuple))
    (same_refl e.tuple)
place_middle (x ∷ xs) e ys h =
    place_else x (xs ++ e ∷ ys) e.tuple
    (λ same_tuple. let z = apart_head x (xs ++ e ∷ ys) h in let s = there (xs ++ e ∷ ys) xs e ys
    x.tuple refl (sym same_tuple) in omega arith)
    ∙ place_middle xs e ys (apart_tail x (xs ++ e ∷ ys) h)

pub place_is : (es : List Entry) (p : Place) (u : List ℕ) → TuplesDiffer es → IsAt es p u
    → place_in es u ≡ Some p
place_is es p u h a =
    ap (λ (fs : List Entry). place_in fs u) a.is
    ∙ ap (λ (v : List ℕ). place_in (a.front ++ a.entry ∷ a.back) v) (sym a.tuple)
    ∙ place_middle a.front a.entry a.back (subst TuplesDiffer a.is h)
    ∙ ap (λ (q : Place). Some q) a.at

pub one_place : (es : List Entry) (p q : Place) (u : List ℕ) → TuplesDiffer es → IsAt es p u
    → IsAt es q u → p ≡ q
one_place es p q u h a b = let e : Some p ≡ Some q = sym (place_is es p u h a)
    ∙ place_is es q u h b in cc

-- ---- the tuple behind one

pub record Stood (g : List Entry) (u : List ℕ) : Type 0 where
  pub front : List Entry
  pub entry : Entry
  pub back : List Entry
  pub is : g ≡ front ++ entry ∷ back
  pub tuple : entry.tuple ≡ u
  pub later : tuples_behind (tuples g) u ≡ tuples back

stood_step : (b : Bool) (d : Entry) (g : List Entry) (u : List ℕ) → same d.tuple u ≡ b
    → (b || has_tuple (tuples g) u) ≡ true → (has_tuple (tuples g) u ≡ true → Stood g u) → Stood (d ∷ g) u
stood_step true d g u e h r =
    record {
      front = [];
      entry = d;
      back = g;
      is = refl;
      tuple = same_is d.tuple u e;
      later = ap
          (λ (b : Bool). cond b (tuples g) (tuples_behind (tuples g) u)) e;
    }
stood_step false d g u e h r =
    let s = r h in
    record {
      front = d ∷ s.front;
      entry = s.entry;
      back = s.back;
      is = ap (λ (l : List Entry). d ∷ l) s.is;
      tuple = s.tuple;
      later = ap (λ (b : Bool). cond b (tuples g) (tuples_behind (tuples g) u)) e ∙ s.later;
    }

pub stood : (g : List Entry) (u : List ℕ) → has_tuple (tuples g) u ≡ true → Stood g u
stood [] u h = absurd (false≢true h)
stood (d ∷ g) u h = stood_step (same d.tuple u) d g u refl h (stood g u)

-- ---- the first of some entries of a table

pub none_of : (es : List Entry) → head_at es ≡ None → tuples es ≡ []
unfolding head_at
none_of [] h = refl
none_of (e ∷ es) h = absurd cc

pub first_of : (r : Reducts) (k : ℕ) (es : List Entry) (p : Place) → IsReducts r
    → ((xs : List Entry) (e : Entry) (ys : List Entry) → es ≡ xs ++ e ∷ ys
    → Inside (entries_at r.tables (source r.tree k)) e) → head_at es ≡ Some p
    → IsFirstAt r (tuples es) (record { level = k; place = p })
unfolding head_at chosen
first_of r k [] p h inside e = absurd cc
first_of r k (d ∷ es) p h inside e =
    let same : d.at ≡ p = cc in
    let a : IsAt (entries_at r.tables (source r.tree k)) p d.tuple =
    subst (λ (q : Place). IsAt (entries_at r.tables (source r.tree k)) q d.tuple) same
    (at_inside (entries_at r.tables (source r.tree k)) d (inside [] d es refl)) in
    record {
      live = live (entries_at r.tables (source r.tree k)) p d.tuple a;
      first = sym (tuple_at_is (entries_at r.tables (source r.tree k)) p d.tuple
          (placed_in r (source r.tree k) h) a);
    }

-- ---- a level's group

abbrev pub group_entries : Reducts → ℕ → List ℕ → List Entry
group_entries r k w = group_of (key_at r.tables (source r.tree k))
    (entries_at r.tables (source r.tree k)) w

pub first_some : (r : Reducts) (k : ℕ) (w : List ℕ) (o : Option Place) (p : Place) → IsReducts r
    → o ≡ head_at (group_entries r k w) → o ≡ Some p
    → IsFirstAt r (group_at r k w) (record { level = k; place = p })
unfolding group_at
first_some r k w o p h e is =
    first_of r k (group_entries r k w) p h
    (λ xs d ys i. inside_group (key_at r.tables (source r.tree k))
    (entries_at r.tables (source r.tree k)) w xs d ys i) (sym e ∙ is)

pub first_none : (r : Reducts) (k : ℕ) (w : List ℕ) (o : Option Place)
    → o ≡ head_at (group_entries r k w) → o ≡ None → group_at r k w ≡ []
unfolding group_at
first_none r k w o e is = none_of (group_entries r k w) (sym e ∙ is)

-- what `next` of a table says, at the group in which the tuple stands
pub record Later (r : Reducts) (c : Choice) (w : List ℕ) (o : Option Place) : Type 0 where
  pub back : List Entry
  pub head : o ≡ head_at back
  pub later : tuples_behind (group_at r c.level w) (chosen r c) ≡ tuples back
  pub inside : (xs : List Entry) (e : Entry) (ys : List Entry) → back ≡ xs ++ e ∷ ys
      → Inside (entries_at r.tables (source r.tree c.level)) e

regroup : (f : List Entry) (d : Entry) (xs : List Entry) (e : Entry) (ys : List Entry)
    → f ++ d ∷ (xs ++ e ∷ ys) ≡ (f ++ d ∷ xs) ++ e ∷ ys
regroup [] d xs e ys = refl
regroup (x ∷ f) d xs e ys = ap (λ (l : List Entry). x ∷ l) (regroup f d xs e ys)

pub later : (r : Reducts) (c : Choice) (w : List ℕ) (o : Option Place) → IsReducts r → IsAlive r c
    → has_tuple (group_at r c.level w) (chosen r c) ≡ true
    → ((v : List ℕ) (xs : List Entry) (e : Entry) (ys : List Entry)
    → group_entries r c.level v ≡ xs ++ e ∷ ys → e.at ≡ c.place → o ≡ head_at ys)
    → Later r c w o
unfolding group_at
later r c w o h l on says =
    let n = source r.tree c.level in
    let es = entries_at r.tables n in
    let s = stood (group_entries r c.level w) (chosen r c) on in
    let i = inside_group (key_at r.tables n) es w s.front s.entry s.back s.is in
    let mine : IsAt es c.place (chosen r c) = subst (λ (u : List ℕ). IsAt es c.place u)
    (sym (chosen_at r c l h)) l.live.is_at in
    let its : IsAt es s.entry.at (chosen r c) = subst (λ (u : List ℕ). IsAt es s.entry.at u) s.tuple
    (at_inside es s.entry i) in
    record {
      back = s.back;
      head = says w s.front s.entry s.back s.is
          (one_place es s.entry.at c.place (chosen r c) (apart_at r.tables n (h.family.sound n)) its
          mine);
      later = s.later;
      inside = λ xs e ys k.
          inside_group (key_at r.tables n) es w (s.front ++ s.entry ∷ xs) e ys
          (s.is ∙ ap (λ (b : List Entry). s.front ++ s.entry ∷ b) k
          ∙ regroup s.front s.entry xs e ys);
    }

pub next_some : (r : Reducts) (c : Choice) (w : List ℕ) (o : Option Place) (p : Place) → IsReducts r
    → Later r c w o → o ≡ Some p
    → IsFirstAt r (tuples_behind (group_at r c.level w) (chosen r c))
    (record { level = c.level; place = p })
next_some r c w o p h l is = subst
    (λ (us : List (List ℕ)). IsFirstAt r us (record { level = c.level; place = p })) (sym l.later)
    (first_of r c.level l.back p h l.inside (sym l.head ∙ is))

pub next_none : (r : Reducts) (c : Choice) (w : List ℕ) (o : Option Place) → Later r c w o
    → o ≡ None → tuples_behind (group_at r c.level w) (chosen r c) ≡ []
next_none r c w o l is = l.later ∙ none_of l.back (sym l.head ∙ is)

-- ---- the root

pub root_found : (r : Reducts) (es : List Entry) (o : Option Place)
    → es ≡ entries_at r.tables (length r.tree.nodes - 1)
    → MatchOption o (count_of es [] ≡ 0) (λ p. IsAt es p []) → is_some o ≡ has_root r
unfolding has_root
root_found r es None e h = sym
    (ap (λ (fs : List Entry). nat_lt 0 (count_of fs [])) (sym e) ∙ le-ltb 0 (count_of es []) (omega arith))
root_found r es (Some p) e h = sym
    (ap (λ (fs : List Entry). nat_lt 0 (count_of fs [])) (sym e)
    ∙ lt-ltb 0 (count_of es []) (there es h.front h.entry h.back [] h.is h.tuple))

-- ---- the same in the words of the code, which reads a table of its own

pub same_group : (r : Reducts) (k n : ℕ) (key : List ℕ) (es : List Entry) (w : List ℕ)
    → n ≡ source r.tree k → key ≡ key_at r.tables n → es ≡ entries_at r.tables n
    → group_of key es w ≡ group_entries r k w
same_group r k n key es w at same_key same =
    ap (λ (l : List ℕ). group_of l es w) same_key
    ∙ ap (λ (fs : List Entry). group_of (key_at r.tables n) fs w) same
    ∙ ap (λ (i : ℕ). group_of (key_at r.tables i) (entries_at r.tables i) w) at

pub if_first : (r : Reducts) (k n : ℕ) (key : List ℕ) (es : List Entry) (w : List ℕ)
    (o : Option Place) → IsReducts r → n ≡ source r.tree k → key ≡ key_at r.tables n
    → es ≡ entries_at r.tables n → o ≡ head_at (group_of key es w)
    → IfSome o (λ p. IsFirstAt r (group_at r k w) (record { level = k; place = p }))
if_first r k n key es w None h at same_key same e = tt
if_first r k n key es w (Some p) h at same_key same e = first_some r k w (Some p) p h
    (e ∙ ap (λ (g : List Entry). head_at g) (same_group r k n key es w at same_key same)) refl

pub if_empty : (r : Reducts) (k n : ℕ) (key : List ℕ) (es : List Entry) (w : List ℕ)
    (o : Option Place) → n ≡ source r.tree k → key ≡ key_at r.tables n → es ≡ entries_at r.tables n
    → o ≡ head_at (group_of key es w)
    → IfNone o (group_at r k w ≡ [])
if_empty r k n key es w None at same_key same e = first_none r k w None
    (e ∙ ap (λ (g : List Entry). head_at g) (same_group r k n key es w at same_key same)) refl
if_empty r k n key es w (Some p) at same_key same e = tt

-- what the table says of the next place
abbrev pub SaysNext : List ℕ → List Entry → Place → Option Place → Type 0
SaysNext key es p o = (w : List ℕ) (xs : List Entry) (e : Entry) (ys : List Entry)
    → group_of key es w ≡ xs ++ e ∷ ys → e.at ≡ p → o ≡ head_at ys

later_in : (r : Reducts) (c : Choice) (n : ℕ) (key : List ℕ) (es : List Entry) (w : List ℕ)
    (o : Option Place) → IsReducts r → IsAlive r c → n ≡ source r.tree c.level
    → key ≡ key_at r.tables n → es ≡ entries_at r.tables n
    → SaysNext key es c.place o → has_tuple (group_at r c.level w) (chosen r c) ≡ true → Later r c w o
later_in r c n key es w o h l at same_key same says on = later r c w o h l on
    (λ v xs e ys g p. says v xs e ys (same_group r c.level n key es v at same_key same ∙ g) p)

pub if_next : (r : Reducts) (c : Choice) (n : ℕ) (key : List ℕ) (es : List Entry) (o : Option Place)
    → IsReducts r → IsAlive r c → n ≡ source r.tree c.level → key ≡ key_at r.tables n
    → es ≡ entries_at r.tables n
    → SaysNext key es c.place o
    → IfSome o (λ p. (w : List ℕ) → has_tuple (group_at r c.level w) (chosen r c) ≡ true
    → IsFirstAt r (tuples_behind (group_at r c.level w) (chosen r c))
    (record { level = c.level; place = p }))
if_next r c n key es None h l at same_key same says = tt
if_next r c n key es (Some p) h l at same_key same says = λ w on. next_some r c w (Some p) p h
    (later_in r c n key es w (Some p) h l at same_key same says on) refl

pub if_last : (r : Reducts) (c : Choice) (n : ℕ) (key : List ℕ) (es : List Entry) (o : Option Place)
    → IsReducts r → IsAlive r c → n ≡ source r.tree c.level → key ≡ key_at r.tables n
    → es ≡ entries_at r.tables n
    → SaysNext key es c.place o
    → IfNone o
    ((w : List ℕ) → has_tuple (group_at r c.level w) (chosen r c) ≡ true
    → tuples_behind (group_at r c.level w) (chosen r c) ≡ [])
if_last r c n key es None h l at same_key same says = λ w on. next_none r c w None
    (later_in r c n key es w None h l at same_key same says on) refl
if_last r c n key es (Some p) h l at same_key same says = tt
