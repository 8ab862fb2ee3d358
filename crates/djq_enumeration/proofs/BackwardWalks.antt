-- A group is gone through from its last tuple backwards, as long as its tuples are marked.
use Rattle.std.proofs.Common.{◌≡◌, ℕ, zero, suc, ◌-◌, ◌<◌, Bool, true, false, cond, List, [], ◌∷◌, ◌++◌, length}
use Rattle.std.proofs.Common.{reverse, Option, Some, None, refl, ap, sym, subst, ◌∙◌, inl, inr, arith, append_assoc}
use Rattle.std.specs.Prelude.{◌&&◌, not, nat_lt, IfSome, IfNone}
use Rattle.std.proofs.lemmas.Bool.{cases_Bool, cases_lt, lt-ltb, le-ltb}
use Rattle.std.proofs.lemmas.List.{reverse-append, reverse-reverse, length-reverse, append-nil}
use Rattle.djq_index.specs.declared.place.Place.{Place}
use Rattle.djq_index.specs.Tuple.{same, pick, one_if}
use Rattle.djq_index.specs.Entries.{Entry, count_of, group_size, group_of, marks, plain, is_marked, head_at, last_at}
use Rattle.djq_index.specs.Table.{TuplesDiffer, AreLast, IsAt, IsOccupied}
use Rattle.djq_index.proofs.Tuples.{same_is, is_same, one_true, one_false, true_from_one, cnt_split, cnt_length}
use Rattle.djq_index.proofs.Tuples.{length_grp, there, cnt_once, live}
use Rattle.djq_index.proofs.Groups.{cnt_grp, grp_yes, grp_no, marks_yes, marks_no, plain_yes, plain_no, marked_cnt}
use Rattle.djq_index.proofs.Groups.{last_rest, back_cut}
use Rattle.djq_index.proofs.GroupChanges.{group_middle}
use Rattle.djq_index.proofs.Parts.{nil_from_length}
use Rattle.djq_reduct.specs.Tables.{entries_at, key_at}
use Rattle.djq_reduct.specs.Reducts.{Reducts, IsReducts}
use Rattle.djq_reduct.proofs.Assignments.{apart_at}
use Rattle.djq_enumeration.specs.declared.places.Choice.{Choice}
use Rattle.djq_enumeration.specs.Menus.{has_tuple, tuples_behind}
use Rattle.djq_enumeration.specs.Levels.{source}
use Rattle.djq_enumeration.specs.Walk.{IsAlive, IsFirstAt, chosen}
use Rattle.djq_enumeration.specs.Told.{marked_or, changed_at, root_marked, kept}
use Rattle.djq_enumeration.proofs.Menus.{tuples, cnt_has, grp_nil, both_positive, group_says}
use Rattle.djq_enumeration.proofs.LevelChoices.{chosen_at}
use Rattle.djq_enumeration.proofs.MarkedGroups.{Inside, inside_group, at_inside, one_place, Stood, stood, none_of}
use Rattle.djq_enumeration.proofs.MarkedGroups.{first_of, group_entries, same_group, part, part_in, part_marked}
use Rattle.djq_enumeration.proofs.MarkedGroups.{group_marked, marked_in_group}

-- ---- in a group the marked ones are the last

marks_nil : marks [] ≡ []
unfolding marks
marks_nil = refl

plain_nil : plain [] ≡ []
unfolding plain
plain_nil = refl

plain_grp : (key : List ℕ) (es : List Entry) (w : List ℕ)
    → plain (group_of key es w) ≡ group_of key (plain es) w
plain_grp key [] w = ap plain (grp_nil key w) ∙ plain_nil
    ∙ sym (ap (λ (fs : List Entry). group_of key fs w) plain_nil ∙ grp_nil key w)
plain_grp key (e ∷ es) w =
    let r = plain_grp key es w in
    elim (cases_Bool (same (pick key e.tuple) w)) [
      | inl in_group ↦
          elim (cases_Bool e.marked) [
            | inl marked ↦ ap plain (grp_yes key e es w in_group)
                ∙ plain_yes e (group_of key es w) marked ∙ r
                ∙ sym (ap (λ (fs : List Entry). group_of key fs w) (plain_yes e es marked))
            | inr unmarked ↦
                ap plain (grp_yes key e es w in_group) ∙ plain_no e (group_of key es w) unmarked
                ∙ ap (λ (fs : List Entry). e ∷ fs) r
                ∙ sym (ap (λ (fs : List Entry). group_of key fs w) (plain_no e es unmarked)
                ∙ grp_yes key e (plain es) w in_group)
          ]
      | inr other ↦
          elim (cases_Bool e.marked) [
            | inl marked ↦ ap plain (grp_no key e es w other) ∙ r
                ∙ sym (ap (λ (fs : List Entry). group_of key fs w) (plain_yes e es marked))
            | inr unmarked ↦ ap plain (grp_no key e es w other) ∙ r
                ∙ sym (ap (λ (fs : List Entry). group_of key fs w) (plain_no e es unmarked)
                ∙ grp_no key e (plain es) w other)
          ]
    ]

last_first : (key : List ℕ) (e : Entry) (es : List Entry) → AreLast key (e ∷ es) → e.marked ≡ true
    → group_size key (plain es) (pick key e.tuple) ≡ 0
unfolding AreLast
last_first key e es h = h.0

pub trail : (key : List ℕ) (es : List Entry) (w : List ℕ) → AreLast key es
    → group_of key es w ≡ plain (group_of key es w) ++ marks (group_of key es w)
trail key [] w h = subst (λ (g : List Entry). g ≡ plain g ++ marks g) (sym (grp_nil key w))
    (sym (ap (λ (p : List Entry). p ++ marks []) plain_nil ∙ marks_nil))
trail key (e ∷ es) w h =
    let g = group_of key es w in
    let r = trail key es w (last_rest key e es h) in
    elim (cases_Bool (same (pick key e.tuple) w)) [
      | inl in_group ↦
          subst (λ (f : List Entry). f ≡ plain f ++ marks f) (sym (grp_yes key e es w in_group))
          (elim (cases_Bool e.marked) [
            | inl marked ↦
                let none : group_size key (plain es) w ≡ 0 = ap (λ (v : List ℕ). group_size key (plain es) v)
                (sym (same_is (pick key e.tuple) w in_group)) ∙ last_first key e es h marked in
                let bare : plain g ≡ [] = nil_from_length (plain g)
                (ap (λ (l : List Entry). length l) (plain_grp key es w)
                ∙ length_grp key (plain es) w ∙ none) in
                ap (λ (l : List Entry). e ∷ l) (r ∙ ap (λ (p : List Entry). p ++ marks g) bare)
                ∙ sym (ap (λ (p : List Entry). p ++ marks (e ∷ g)) (plain_yes e g marked ∙ bare)
                ∙ marks_yes e g marked)
            | inr unmarked ↦
                ap (λ (l : List Entry). e ∷ l) r
                ∙ sym (ap (λ (p : List Entry). p ++ marks (e ∷ g)) (plain_no e g unmarked)
                ∙ ap (λ (m : List Entry). (e ∷ plain g) ++ m) (marks_no e g unmarked))
          ])
      | inr other ↦ subst (λ (f : List Entry). f ≡ plain f ++ marks f)
          (sym (grp_no key e es w other)) r
    ]

-- ---- the last of a group is the last of its part

head_front : (xs ys : List Entry) → 0 < length xs → head_at (xs ++ ys) ≡ head_at xs
unfolding head_at
head_front [] ys h = absurd (omega arith)
head_front (x ∷ xs) ys h = refl

last_parts : (p m : List Entry) → 0 < length m → last_at (p ++ m) ≡ head_at (reverse m)
unfolding last_at
last_parts p m h = ap head_at (reverse-append p m)
    ∙ head_front (reverse m) (reverse p) (let l = length-reverse m in omega arith)

last_cases : (ms g : List Entry) → (0 < length ms → last_at g ≡ head_at (reverse ms))
    → last_at g ≡ head_at (reverse (marked_or ms g))
unfolding last_at
last_cases [] g h = refl
last_cases (m ∷ ms) g h = h (omega arith)

last_part : (g : List Entry) → g ≡ plain g ++ marks g → last_at g ≡ head_at (part g)
last_part g split = last_cases (marks g) g
    (λ some. ap last_at split ∙ last_parts (plain g) (marks g) some)

-- ---- what stands in the part stands in the table

flip : (l xs : List Entry) (e : Entry) (ys : List Entry) → reverse l ≡ xs ++ e ∷ ys
    → l ≡ reverse ys ++ e ∷ reverse xs
flip l xs e ys h =
    sym (reverse-reverse l) ∙ ap (λ (k : List Entry). reverse k) h ∙ reverse-append xs (e ∷ ys)
    ∙ ap (λ (k : List Entry). k ++ reverse xs) (reverse-append (e ∷ []) ys)
    ∙ append_assoc (reverse ys) (e ∷ []) (reverse xs)

-- the split of a group at an entry of its part
pub record Cut (g : List Entry) (e : Entry) (front back : List Entry) : Type 0 where
  pub marked : 0 < length (marks g) → marks g ≡ front ++ e ∷ back
  pub all : length (marks g) ≡ 0 → g ≡ front ++ e ∷ back

cut_of : (ms g front : List Entry) (e : Entry) (back : List Entry) → ms ≡ marks g
    → marked_or ms g ≡ front ++ e ∷ back → Cut g e front back
cut_of [] g front e back is h =
    record {
      marked = λ some. absurd
          (let z : 0 ≡ length (marks g) = ap (λ (l : List Entry). length l) is in omega arith);
      all =
          λ none. h;
    }
cut_of (m ∷ ms) g front e back is h =
    record {
      marked = λ some. sym is
          ∙ h;
      all = λ none. absurd
          (let z : suc (length ms) ≡ length (marks g) = ap (λ (l : List Entry). length l) is in
          omega
          arith);
    }

part_cut : (g xs : List Entry) (e : Entry) (ys : List Entry) → part g ≡ xs ++ e ∷ ys
    → Cut g e (reverse ys) (reverse xs)
part_cut g xs e ys h = cut_of (marks g) g (reverse ys) e (reverse xs) refl
    (flip (marked_or (marks g) g) xs e ys h)

beside : (p front : List Entry) (e : Entry) (back : List Entry)
    → p ++ (front ++ e ∷ back) ≡ (p ++ front) ++ e ∷ back
beside p front e back = sym (append_assoc p front (e ∷ back))

-- at which place of the group it stands
pub record Stands (g : List Entry) (e : Entry) (front : List Entry) : Type 0 where
  pub before : List Entry
  pub after : List Entry
  pub is : g ≡ before ++ e ∷ after
  pub marked : 0 < length (marks g) → before ≡ plain g ++ front
  pub all : length (marks g) ≡ 0 → before ≡ front

stands_cases : (g front : List Entry) (e : Entry) (back : List Entry) (n : ℕ) → length (marks g) ≡ n
    → g ≡ plain g ++ marks g → Cut g e front back → Stands g e front
stands_cases g front e back zero many_marks split c =
    record {
      before = front;
      after = back;
      is = c.all many_marks;
      marked = λ some. absurd
          (omega arith);
      all = λ none. refl;
    }
stands_cases g front e back (suc n) many_marks split c = record {
  before = plain g ++ front;
  after = back;
  is = split ∙ ap (λ (l : List Entry). plain g ++ l) (c.marked (omega arith))
      ∙ beside (plain g) front e back;
  marked = λ some. refl;
  all = λ none. absurd (omega arith);
}

stands_in : (g xs : List Entry) (e : Entry) (ys : List Entry) → g ≡ plain g ++ marks g
    → part g ≡ xs ++ e ∷ ys → Stands g e (reverse ys)
stands_in g xs e ys split h = stands_cases g (reverse ys) e (reverse xs) (length (marks g)) refl
    split (part_cut g xs e ys h)

-- ---- a level's group

last_in : (r : Reducts) (j : ℕ) → IsReducts r → AreLast (key_at r.tables j) (entries_at r.tables j)
unfolding entries_at key_at
last_in r j h = (h.family.sound j).last

split_group : (r : Reducts) (k : ℕ) (w : List ℕ) → IsReducts r
    → group_entries r k w ≡ plain (group_entries r k w) ++ marks (group_entries r k w)
split_group r k w h = trail (key_at r.tables (source r.tree k))
    (entries_at r.tables (source r.tree k)) w (last_in r (source r.tree k) h)

inside_part : (r : Reducts) (k : ℕ) (w : List ℕ) → IsReducts r
    → (xs : List Entry) (e : Entry) (ys : List Entry) → part (group_entries r k w) ≡ xs ++ e ∷ ys
    → Inside (entries_at r.tables (source r.tree k)) e
inside_part r k w h xs e ys is =
    let s = stands_in (group_entries r k w) xs e ys (split_group r k w h) is in
    inside_group (key_at r.tables (source r.tree k)) (entries_at r.tables (source r.tree k)) w
    s.before e s.after s.is

pub last_some : (r : Reducts) (k : ℕ) (w : List ℕ) (o : Option Place) (p : Place) → IsReducts r
    → o ≡ last_at (group_entries r k w) → o ≡ Some p
    → IsFirstAt r (changed_at r k w) (record { level = k; place = p })
unfolding changed_at
last_some r k w o p h e is = first_of r k (part (group_entries r k w)) p h
    (λ xs d ys i. inside_part r k w h xs d ys i)
    (sym (last_part (group_entries r k w) (split_group r k w h)) ∙ sym e ∙ is)

pub last_none : (r : Reducts) (k : ℕ) (w : List ℕ) (o : Option Place) → IsReducts r
    → o ≡ last_at (group_entries r k w) → o ≡ None → changed_at r k w ≡ []
unfolding changed_at
last_none r k w o h e is = none_of (part (group_entries r k w))
    (sym (last_part (group_entries r k w) (split_group r k w h)) ∙ sym e ∙ is)

-- ---- one step backwards

-- whether a tuple is marked, by counts
marked_by : (es : List Entry) (u : List ℕ) → TuplesDiffer es → 0 < count_of (marks es) u
    → is_marked es u ≡ true
marked_by es u h some = (let c = marked_cnt es u h in true_from_one (is_marked es u) (omega arith))

unmarked_by : (es : List Entry) (u : List ℕ) → TuplesDiffer es → count_of (marks es) u ≡ 0
    → is_marked es u ≡ false
unmarked_by es u h none =
    let c = marked_cnt es u h in
    elim (cases_Bool (is_marked es u)) [
      | inl is ↦ absurd (let o = one_true (is_marked es u) is in omega arith)
      | inr isnt ↦ isnt
    ]

kept_plain : (o : Option Place) (here before : Bool) → here ≡ false → kept o here before ≡ o
kept_plain None here before e = refl
kept_plain (Some q) here before e = ap (λ (b : Bool). cond (b && not before) None (Some q)) e

kept_marked : (o : Option Place) (q : Place) (here before : Bool) → o ≡ Some q → before ≡ true
    → kept o here before ≡ Some q
kept_marked o q here before e is = ap (λ (p : Option Place). kept p here before) e
    ∙ ap (λ (b : Bool). cond (here && not b) None (Some q)) is ∙ none_true here q
  where
    none_true : (here : Bool) (q : Place) → cond (here && not true) None (Some q) ≡ Some q
    none_true true q = refl
    none_true false q = refl

kept_end : (o : Option Place) (here before : Bool) → here ≡ true
    → ((q : Place) → o ≡ Some q → before ≡ false) → kept o here before ≡ None
kept_end None here before e h = refl
kept_end (Some q) here before e h = ap (λ (b : Bool). cond (b && not before) None (Some q)) e
    ∙ ap (λ (b : Bool). cond (not b) None (Some q)) (h q refl)

-- what is said of the marks of a place and of the one before it
pub record Marked (r : Reducts) (c : Choice) (o : Option Place) (here before : Bool) : Type 0 where
  pub at : here ≡ is_marked (entries_at r.tables (source r.tree c.level)) (chosen r c)
  pub prior : (q : Place) (v : List ℕ) → o ≡ Some q
      → IsAt (entries_at r.tables (source r.tree c.level)) q v
      → before ≡ is_marked (entries_at r.tables (source r.tree c.level)) v

-- what a table says of the place before
abbrev pub SaysPrev : List ℕ → List Entry → Place → Option Place → Type 0
SaysPrev key es p o = (w : List ℕ) (xs : List Entry) (e : Entry) (ys : List Entry)
    → group_of key es w ≡ xs ++ e ∷ ys → e.at ≡ p → o ≡ last_at xs

-- in a group's part, what comes behind the choice
pub record Later (r : Reducts) (c : Choice) (w : List ℕ) (o : Option Place) : Type 0 where
  pub back : List Entry
  pub head : o ≡ head_at back
  pub later : tuples_behind (changed_at r c.level w) (chosen r c) ≡ tuples back
  pub inside : (xs : List Entry) (e : Entry) (ys : List Entry) → back ≡ xs ++ e ∷ ys
      → Inside (entries_at r.tables (source r.tree c.level)) e

last_back : (l : List Entry) → last_at (reverse l) ≡ head_at l
unfolding last_at
last_back l = ap head_at (reverse-reverse l)

head_some : (b : Entry) (bs : List Entry) → head_at (b ∷ bs) ≡ Some b.at
unfolding head_at
head_some b bs = refl

head_none : head_at [] ≡ None
unfolding head_at
head_none = refl

-- with no marks in the group
step_all : (r : Reducts) (c : Choice) (w : List ℕ) (o : Option Place) (here before : Bool)
    (back : List Entry) → IsReducts r → Marked r c o here before
    → length (marks (group_entries r c.level w)) ≡ 0
    → has_tuple (tuples (group_entries r c.level w)) (chosen r c) ≡ true → o ≡ last_at (reverse back)
    → kept o here before ≡ head_at back
step_all r c w o here before back h m none on e =
    let n = source r.tree c.level in
    let es = entries_at r.tables n in
    let key = key_at r.tables n in
    let g = group_entries r c.level w in
    let u = chosen r c in
    let in_group = group_says key es w u on in
    let unmarked : count_of (marks es) u ≡ 0 =
    elim (cases_lt 0 (count_of (marks es) u)) [
      | inl some ↦ absurd
          (let p = group_marked key es w u some
          (let o = one_true (same (pick key u) w) (is_same (pick key u) w in_group.1) in omega
          arith) in let few = cnt_length (marks g) u in omega arith)
      | inr few ↦ omega arith
    ] in
    kept_plain o here before
    (m.at ∙ unmarked_by es u (apart_at r.tables n (h.family.sound n)) unmarked) ∙ e
    ∙ last_back back

-- with marks in it
step_some : (r : Reducts) (c : Choice) (w : List ℕ) (o : Option Place) (here before : Bool)
    (front : List Entry) (e : Entry) (back : List Entry) → IsReducts r → Marked r c o here before
    → 0 < length (marks (group_entries r c.level w))
    → has_tuple (tuples (part (group_entries r c.level w))) (chosen r c) ≡ true
    → part (group_entries r c.level w) ≡ front ++ e ∷ back
    → o ≡ last_at (plain (group_entries r c.level w) ++ reverse back)
    → kept o here before ≡ head_at back
step_some r c w o here before front e [] h m some on is says =
    let n = source r.tree c.level in
    let es = entries_at r.tables n in
    let key = key_at r.tables n in
    let g = group_entries r c.level w in
    let apart = apart_at r.tables n (h.family.sound n) in
    let mine = marked_by es (chosen r c) apart
    (marked_in_group key es w (chosen r c) (part_marked g (chosen r c) some on)) in
    kept_end o here before (m.at ∙ mine)
    (λ q found.
    let b = back_cut (plain g) q (ap last_at (sym (append-nil (plain g))) ∙ sym says ∙ found) in
    let whole : g ≡ b.front ++ b.entry ∷ marks g = split_group r c.level w h
    ∙ ap (λ (p : List Entry). p ++ marks g) b.is
    ∙ append_assoc b.front (b.entry ∷ []) (marks g) in
    let i = inside_group key es w b.front b.entry (marks g) whole in
    let a = subst (λ (p : Place). IsAt es p b.entry.tuple) b.at (at_inside es b.entry i) in
    let in_plain : 0 < count_of (plain g) b.entry.tuple = there (plain g) b.front b.entry []
    b.entry.tuple b.is refl in
    let groups : count_of (plain g) b.entry.tuple ≡ count_of (group_of key (plain es) w) b.entry.tuple = ap
    (λ (l : List Entry). count_of l b.entry.tuple) (plain_grp key es w) in
    let product = cnt_grp key (plain es) w b.entry.tuple in
    let in_table =
    (both_positive (count_of (plain es) b.entry.tuple) (one_if (same (pick key b.entry.tuple) w))
    (omega arith)).0 in
    let split = cnt_split es b.entry.tuple in
    let once = cnt_once es b.entry.tuple apart in
    m.prior q b.entry.tuple found a ∙ unmarked_by es b.entry.tuple apart (omega arith))
    ∙ sym head_none
step_some r c w o here before front e (b ∷ bs) h m some on is says =
    let n = source r.tree c.level in
    let es = entries_at r.tables n in
    let key = key_at r.tables n in
    let g = group_entries r c.level w in
    let apart = apart_at r.tables n (h.family.sound n) in
    let split : part g ≡ (front ++ e ∷ []) ++ b ∷ bs = is
    ∙ sym (append_assoc front (e ∷ []) (b ∷ bs)) in
    let i = inside_part r c.level w h (front ++ e ∷ []) b bs split in
    let found : o ≡ Some b.at = says
    ∙ last_parts (plain g) (reverse (b ∷ bs)) (let l = length-reverse (b ∷ bs) in omega arith)
    ∙ ap head_at (reverse-reverse (b ∷ bs)) ∙ head_some b bs in
    let in_part_there = cnt_has (part g) b.tuple
    (there (part g) (front ++ e ∷ []) b bs b.tuple split refl) in
    let its = marked_by es b.tuple apart
    (marked_in_group key es w b.tuple (part_marked g b.tuple some in_part_there)) in
    kept_marked o b.at here before found (m.prior b.at b.tuple found (at_inside es b i) ∙ its)
    ∙ sym (head_some b bs)

step_cases : (r : Reducts) (c : Choice) (w : List ℕ) (o : Option Place) (here before : Bool) (n : ℕ)
    → length (marks (group_entries r c.level w)) ≡ n → IsReducts r → Marked r c o here before
    → (s : Stood (part (group_entries r c.level w)) (chosen r c))
    → has_tuple (tuples (part (group_entries r c.level w))) (chosen r c) ≡ true
    → (t : Stands (group_entries r c.level w) s.entry (reverse s.back)) → o ≡ last_at t.before
    → kept o here before ≡ head_at s.back
step_cases r c w o here before zero many_marks h m s on t says =
    step_all r c w o here before s.back h m many_marks
    (part_in (group_entries r c.level w) (chosen r c) on) (says ∙ ap last_at (t.all many_marks))
step_cases r c w o here before (suc n) many_marks h m s on t says =
    step_some r c w o here before s.front s.entry s.back h m (omega arith) on s.is
    (says ∙ ap last_at (t.marked (omega arith)))

later : (r : Reducts) (c : Choice) (w : List ℕ) (o : Option Place) (here before : Bool)
    → IsReducts r → IsAlive r c → Marked r c o here before
    → has_tuple (changed_at r c.level w) (chosen r c) ≡ true
    → SaysPrev (key_at r.tables (source r.tree c.level))
    (entries_at r.tables (source r.tree c.level)) c.place o → Later r c w (kept o here before)
unfolding changed_at
later r c w o here before h l m on says =
    let n = source r.tree c.level in
    let es = entries_at r.tables n in
    let g = group_entries r c.level w in
    let s = stood (part g) (chosen r c) on in
    let t = stands_in g s.front s.entry s.back (split_group r c.level w h) s.is in
    let i = inside_part r c.level w h s.front s.entry s.back s.is in
    let mine : IsAt es c.place (chosen r c) = subst (λ (u : List ℕ). IsAt es c.place u)
    (sym (chosen_at r c l h)) l.live.is_at in
    let its : IsAt es s.entry.at (chosen r c) = subst (λ (u : List ℕ). IsAt es s.entry.at u) s.tuple
    (at_inside es s.entry i) in
    let place = one_place es s.entry.at c.place (chosen r c)
    (apart_at r.tables n (h.family.sound n)) its mine in
    record {
      back = s.back;
      head = step_cases r c w o here before (length (marks g)) refl h m s on t
          (says w t.before s.entry t.after t.is place);
      later = s.later;
      inside = λ xs e ys k.
          inside_part r c.level w h (s.front ++ s.entry ∷ xs) e ys
          (s.is ∙ ap (λ (b : List Entry). s.front ++ s.entry ∷ b) k
          ∙ beside_back s.front s.entry xs e ys);
    }
  where
    beside_back : (f : List Entry) (d : Entry) (xs : List Entry) (e : Entry) (ys : List Entry)
        → f ++ d ∷ (xs ++ e ∷ ys) ≡ (f ++ d ∷ xs) ++ e ∷ ys
    beside_back f d xs e ys = sym (append_assoc f (d ∷ xs) (e ∷ ys))

-- ---- the same in the words of the code, which reads a table of its own

says_in : (r : Reducts) (c : Choice) (n : ℕ) (key : List ℕ) (es : List Entry) (o : Option Place)
    → n ≡ source r.tree c.level → key ≡ key_at r.tables n → es ≡ entries_at r.tables n
    → SaysPrev key es c.place o
    → SaysPrev (key_at r.tables (source r.tree c.level))
    (entries_at r.tables (source r.tree c.level)) c.place o
says_in r c n key es o at same_key same says w xs e ys is p = says w xs e ys
    (same_group r c.level n key es w at same_key same ∙ is) p

pub if_next : (r : Reducts) (c : Choice) (n : ℕ) (key : List ℕ) (es : List Entry)
    (o result : Option Place) (here before : Bool) → IsReducts r → IsAlive r c
    → n ≡ source r.tree c.level → key ≡ key_at r.tables n → es ≡ entries_at r.tables n
    → SaysPrev key es c.place o → Marked r c o here before → result ≡ kept o here before
    → IfSome result (λ p. (w : List ℕ) → has_tuple (changed_at r c.level w) (chosen r c) ≡ true
    → IsFirstAt r (tuples_behind (changed_at r c.level w) (chosen r c))
    (record { level = c.level; place = p }))
if_next r c n key es o None here before h l at same_key same says m is = tt
if_next r c n key es o (Some p) here before h l at same_key same says m is = λ w on.
    let t = later r c w o here before h l m on (says_in r c n key es o at same_key same says) in
    subst (λ (us : List (List ℕ)). IsFirstAt r us (record { level = c.level; place = p }))
    (sym t.later) (first_of r c.level t.back p h t.inside (sym t.head ∙ sym is))

pub if_last : (r : Reducts) (c : Choice) (n : ℕ) (key : List ℕ) (es : List Entry)
    (o result : Option Place) (here before : Bool) → IsReducts r → IsAlive r c
    → n ≡ source r.tree c.level → key ≡ key_at r.tables n → es ≡ entries_at r.tables n
    → SaysPrev key es c.place o → Marked r c o here before → result ≡ kept o here before
    → IfNone result
    ((w : List ℕ) → has_tuple (changed_at r c.level w) (chosen r c) ≡ true
    → tuples_behind (changed_at r c.level w) (chosen r c) ≡ [])
if_last r c n key es o None here before h l at same_key same says m is = λ w on.
    let t = later r c w o here before h l m on (says_in r c n key es o at same_key same says) in
    t.later ∙ none_of t.back (sym t.head ∙ sym is)
if_last r c n key es o (Some p) here before h l at same_key same says m is = tt

pub if_first : (r : Reducts) (k n : ℕ) (key : List ℕ) (es : List Entry) (w : List ℕ)
    (o : Option Place) → IsReducts r → n ≡ source r.tree k → key ≡ key_at r.tables n
    → es ≡ entries_at r.tables n → o ≡ last_at (group_of key es w)
    → IfSome o (λ p. IsFirstAt r (changed_at r k w) (record { level = k; place = p }))
if_first r k n key es w None h at same_key same e = tt
if_first r k n key es w (Some p) h at same_key same e = last_some r k w (Some p) p h
    (e ∙ ap last_at (same_group r k n key es w at same_key same)) refl

pub if_empty : (r : Reducts) (k n : ℕ) (key : List ℕ) (es : List Entry) (w : List ℕ)
    (o : Option Place) → IsReducts r → n ≡ source r.tree k → key ≡ key_at r.tables n
    → es ≡ entries_at r.tables n → o ≡ last_at (group_of key es w)
    → IfNone o (changed_at r k w ≡ [])
if_empty r k n key es w None h at same_key same e = last_none r k w None h
    (e ∙ ap last_at (same_group r k n key es w at same_key same)) refl
if_empty r k n key es w (Some p) h at same_key same e = tt

-- the place before is live
pub prior_live : (key : List ℕ) (es : List Entry) (p q : Place) (o : Option Place) → IsOccupied es p
    → SaysPrev key es p o → o ≡ Some q → IsOccupied es q
prior_live key es p q o l says found =
    let a = l.is_at in
    let w = pick key a.entry.tuple in
    let split : group_of key es w ≡ group_of key a.front w ++ a.entry ∷ group_of key a.back w = ap
    (λ (fs : List Entry). group_of key fs w) a.is ∙ group_middle key a.front a.entry a.back w refl in
    let b = back_cut (group_of key a.front w) q
    (sym (says w (group_of key a.front w) a.entry (group_of key a.back w) split a.at) ∙ found) in
    let whole : group_of key es w ≡ b.front ++ b.entry ∷ (a.entry ∷ group_of key a.back w) = split
    ∙ ap (λ (f : List Entry). f ++ a.entry ∷ group_of key a.back w) b.is
    ∙ append_assoc b.front (b.entry ∷ []) (a.entry ∷ group_of key a.back w) in
    let i = inside_group key es w b.front b.entry (a.entry ∷ group_of key a.back w) whole in
    subst (λ (x : Place). IsOccupied es x) b.at
    (live es b.entry.at b.entry.tuple (at_inside es b.entry i))

-- what the table says of the two marks
pub marks_say : (r : Reducts) (c : Choice) (n : ℕ) (es : List Entry) (o : Option Place)
    (here before : Bool) → IsReducts r → IsAlive r c → n ≡ source r.tree c.level
    → es ≡ entries_at r.tables n
    → ((u : List ℕ) → IsAt es c.place u → here ≡ is_marked es u)
    → ((q : Place) (v : List ℕ) → o ≡ Some q → IsAt es q v → before ≡ is_marked es v)
    → Marked r c o here before
marks_say r c n es o here before h l at same says prior =
    let e : es ≡ entries_at r.tables (source r.tree c.level) = same
    ∙ ap (λ (i : ℕ). entries_at r.tables i) at in
    let mine = subst (λ (u : List ℕ). IsAt (entries_at r.tables (source r.tree c.level)) c.place u)
    (sym (chosen_at r c l h)) l.live.is_at in
    record {
      at = says (chosen r c)
          (subst (λ (fs : List Entry). IsAt fs c.place (chosen r c)) (sym e) mine)
          ∙ ap (λ (fs : List Entry). is_marked fs (chosen r c)) e;
      prior = λ q v found is. prior q v found (subst (λ (fs : List Entry). IsAt fs q v) (sym e) is)
          ∙ ap (λ (fs : List Entry). is_marked fs v) e;
    }

pub marks_none : (r : Reducts) (c : Choice)
    → Marked r c None (is_marked (entries_at r.tables (source r.tree c.level)) (chosen r c)) false
marks_none r c =
    record { at = refl; prior = λ q v found is. absurd (let e : None ≡ Some q = found in cc) }

pub live_in : (r : Reducts) (c : Choice) (n : ℕ) (es : List Entry) → IsAlive r c
    → n ≡ source r.tree c.level → es ≡ entries_at r.tables n → IsOccupied es c.place
live_in r c n es l at same = subst (λ (fs : List Entry). IsOccupied fs c.place)
    (sym (same ∙ ap (λ (i : ℕ). entries_at r.tables i) at)) l.live

-- ---- the root

pub root_none : (r : Reducts) (es : List Entry) → es ≡ entries_at r.tables (length r.tree.nodes - 1)
    → count_of es [] ≡ 0 → root_marked r ≡ false
unfolding root_marked
root_none r es e none =
    ap (λ (fs : List Entry). nat_lt 0 (count_of (marks fs) [])) (sym e)
    ∙ le-ltb 0 (count_of (marks es) []) (let s = cnt_split es [] in omega arith)

pub root_found : (r : Reducts) (es : List Entry) (b : Bool) → IsReducts r
    → es ≡ entries_at r.tables (length r.tree.nodes - 1) → b ≡ is_marked es [] → b ≡ root_marked r
unfolding root_marked
root_found r es b h e is =
    let n = length r.tree.nodes - 1 in
    let apart : TuplesDiffer es = subst TuplesDiffer (sym e) (apart_at r.tables n (h.family.sound n)) in
    let c = marked_cnt es [] apart in
    is
    ∙ elim (cases_Bool (is_marked es [])) [
      | inl yes_mark ↦ yes_mark
          ∙ sym (lt-ltb 0 (count_of (marks es) [])
          (let o = one_true (is_marked es []) yes_mark in omega arith))
      | inr no_mark ↦ no_mark
          ∙ sym (le-ltb 0 (count_of (marks es) [])
          (let o = one_false (is_marked es []) no_mark in omega arith))
    ]
    ∙ ap (λ (fs : List Entry). nat_lt 0 (count_of (marks fs) [])) e
