-- Tuples and their places, and lists of entries: their numbers, and that no tuple stands twice.
use Rattle.std.proofs.Common.{◌≡◌, ◌<◌, ◌+◌, ◌++◌, ◌∷◌, [], refl, ◌∙◌, ap, length, List, ℕ, zero, suc, slice_index_or}
use Rattle.std.proofs.Common.{take, arith, map, add-one, subst, sym, ◌≤◌, Bool, true, false, ◌⊎◌, inl, inr, cond}
use Rattle.std.proofs.lemmas.List.{map-append}
use Rattle.std.proofs.lemmas.Bool.{cases_Bool, false≢true, false_from_ne_true}
use Rattle.std.proofs.lemmas.Slice.Eq.{bytes_eq-Decides}
use Rattle.djq_index.specs.declared.place.Place.{Place}
use Rattle.djq_index.specs.Tuple.{pick, same, one_if}
use Rattle.djq_index.specs.Table.{AreColumns, IsElsewhere, ArePlaced, IsAt, IsOccupied, TuplesDiffer, AreSupported}
use Rattle.djq_index.specs.Entries.{Entry, supports_of, count_of, group_size, marks, plain, group_of}

-- ---- The columns of a key.

pub pick_nil : (u : List ℕ) → pick [] u ≡ []
unfolding pick
pick_nil u = refl

pub length_pick : (columns u : List ℕ) → length (pick columns u) ≡ length columns
unfolding pick
length_pick [] u = refl
length_pick (c ∷ cs) u = ap suc (length_pick cs u)

pub pick_one : (columns u : List ℕ) → length columns ≡ 1 → pick columns u
    ≡ slice_index_or u (slice_index_or columns 0 0) 0 ∷ []
unfolding pick
pick_one [] u h = absurd (omega (arith, h))
pick_one (c ∷ []) u h = refl
pick_one (c ∷ d ∷ cs) u h = absurd (omega (arith, h))

take_suc : (xs : List ℕ) (i : ℕ) → i < length xs → take (suc i) xs ≡ take i xs ++ slice_index_or xs i 0 ∷ []
take_suc [] i h = absurd (omega (arith, h))
take_suc (x ∷ xs) zero h = refl
take_suc (x ∷ xs) (suc i) h = ap (λ (ys : List ℕ). x ∷ ys) (take_suc xs i (omega (arith, h)))

pub pick_more : (columns : List ℕ) (i : ℕ) (u : List ℕ) → i < length columns → pick (take (i + 1) columns) u
    ≡ pick (take i columns) u ++ slice_index_or u (slice_index_or columns i 0) 0 ∷ []
unfolding pick
pick_more columns i u h =
    rw add-one (ap (map (λ c. slice_index_or u c 0)) (take_suc columns i h)
    ∙ map-append (λ (c : ℕ). slice_index_or u c 0) (take i columns) (slice_index_or columns i 0 ∷ []))

pub column_below : (width : ℕ) (columns : List ℕ) (i : ℕ) → AreColumns width columns → i < length columns
    → slice_index_or columns i 0 < width
unfolding AreColumns
column_below width [] i h k = absurd (omega (arith, k))
column_below width (c ∷ cs) zero h k = h.0
column_below width (c ∷ cs) (suc i) h k = column_below width cs i h.1 (omega (arith, k))

-- ---- Places: each names one entry.

pub elsewhere_middle : (p : Place) (xs : List Entry) (e : Entry) (ys : List Entry) → IsElsewhere p (xs ++ e ∷ ys) → e.at
    ≡ p → ⊥
unfolding IsElsewhere
elsewhere_middle p [] e ys h = h.0
elsewhere_middle p (x ∷ xs) e ys h = elsewhere_middle p xs e ys h.1

-- two splits at one place are one split
pub record SameSplit (xs : List Entry) (d : Entry) (ys : List Entry) (cs : List Entry) (e : Entry) (bs : List Entry) :
    Type 0 where
  pub front : cs ≡ xs
  pub entry : e ≡ d
  pub back : bs ≡ ys

pub split_once : (xs : List Entry) (d : Entry) (ys : List Entry) (cs : List Entry) (e : Entry) (bs : List Entry)
    → ArePlaced (xs ++ d ∷ ys) → xs ++ d ∷ ys ≡ cs ++ e ∷ bs → e.at ≡ d.at → SameSplit xs d ys cs e bs
unfolding ArePlaced
split_once [] d ys [] e bs h is at = record { front = refl; entry = cc; back = cc }
split_once [] d ys (a ∷ cs) e bs h is at =
    let rest : ys ≡ cs ++ e ∷ bs = cc in absurd (elsewhere_middle d.at cs e bs (subst (IsElsewhere d.at) rest h.0) at)
split_once (x ∷ xs) d ys [] e bs h is at =
    let first : x ≡ e = cc in absurd (elsewhere_middle x.at xs d ys h.0 (sym at ∙ ap (λ (f : Entry). f.at) (sym first)))
split_once (x ∷ xs) d ys (a ∷ cs) e bs h is at =
    let first : a ≡ x = cc in
    let rest : xs ++ d ∷ ys ≡ cs ++ e ∷ bs = cc in
    let s = split_once xs d ys cs e bs h.1 rest at in
    record { front = (let front : cs ≡ xs = s.front in cc); entry = s.entry; back = s.back }

-- one place names one tuple
pub one_tuple : (es : List Entry) (p : Place) (u v : List ℕ) → ArePlaced es → IsAt es p u → IsAt es p v → u ≡ v
one_tuple es p u v h a b =
    let s = split_once a.front a.entry a.back b.front b.entry b.back (subst ArePlaced a.is h) (sym a.is ∙ b.is)
    (b.at ∙ sym a.at) in
    sym a.tuple ∙ ap (λ (e : Entry). e.tuple) (sym s.entry) ∙ b.tuple

pub elsewhere_in : (p : Place) (xs : List Entry) (e : Entry) (ys : List Entry) → (e.at ≡ p → ⊥)
    → IsElsewhere p (xs ++ ys) → IsElsewhere p (xs ++ e ∷ ys)
unfolding IsElsewhere
elsewhere_in p [] e ys k h = (k, h)
elsewhere_in p (x ∷ xs) e ys k h = (h.0, elsewhere_in p xs e ys k h.1)

elsewhere_first : (x : Entry) (p : Place) (xs : List Entry) → IsElsewhere p (x ∷ xs) → x.at ≡ p → ⊥
unfolding IsElsewhere
elsewhere_first x p xs h = h.0

elsewhere_rest : (x : Entry) (p : Place) (xs : List Entry) → IsElsewhere p (x ∷ xs) → IsElsewhere p xs
unfolding IsElsewhere
elsewhere_rest x p xs h = h.1

pub placed_in : (xs : List Entry) (e : Entry) (ys : List Entry) → ArePlaced (xs ++ ys) → IsElsewhere e.at (xs ++ ys)
    → ArePlaced (xs ++ e ∷ ys)
unfolding ArePlaced
placed_in [] e ys h k = (k, h)
placed_in (x ∷ xs) e ys h k = (
  elsewhere_in x.at xs e ys (λ same. elsewhere_first x e.at (xs ++ ys) k (sym same)) h.0,
  placed_in xs e ys h.1
      (elsewhere_rest x e.at (xs ++ ys) k),
)

pub live : (es : List Entry) (p : Place) (u : List ℕ) → IsAt es p u → IsOccupied es p
live es p u a = record { tuple = u; is_at = a }

-- a tuple that stands in the middle lies at its place
pub is_here : (xs : List Entry) (e : Entry) (ys : List Entry) → IsAt (xs ++ e ∷ ys) e.at e.tuple
is_here xs e ys = record { front = xs; back = ys; entry = e; is = refl; tuple = refl; at = refl }

pub at_of : (es xs : List Entry) (e : Entry) (ys : List Entry) → es ≡ xs ++ e ∷ ys → IsAt es e.at e.tuple
at_of es xs e ys is = record { front = xs; back = ys; entry = e; is = is; tuple = refl; at = refl }

further : (x : Entry) (es : List Entry) (p : Place) (u : List ℕ) → IsAt es p u → IsAt (x ∷ es) p u
further x es p u a = record {
  front = x ∷ a.front;
  back = a.back;
  entry = a.entry;
  is = ap (λ (zs : List Entry). x ∷ zs) a.is;
  tuple = a.tuple;
  at = a.at;
}

-- the first one, or one of the rest
at_first : (x : Entry) (zs vs : List Entry) (p : Place) (u : List ℕ) → (IsAt zs p u → IsAt vs p u)
    → (cs : List Entry) (e : Entry) (bs : List Entry) → x ∷ zs ≡ cs ++ e ∷ bs → e.tuple ≡ u → e.at ≡ p
    → IsAt (x ∷ vs) p u
at_first x zs vs p u k [] e bs is t q =
    let first : x ≡ e = cc in
    record {
      front = [];
      back = vs;
      entry = x;
      is = refl;
      tuple = ap (λ (f : Entry). f.tuple) first
          ∙ t;
      at = ap (λ (f : Entry). f.at) first ∙ q;
    }
at_first x zs vs p u k (c ∷ cs) e bs is t q =
    let rest : zs ≡ cs ++ e ∷ bs = cc in
    further x vs p u (k (record { front = cs; back = bs; entry = e; is = rest; tuple = t; at = q }))

-- who is there when an entry comes in is there still
pub at_in : (xs : List Entry) (d : Entry) (ys : List Entry) (p : Place) (u : List ℕ) → IsAt (xs ++ ys) p u
    → IsAt (xs ++ d ∷ ys) p u
at_in [] d ys p u a = further d ys p u a
at_in (x ∷ xs) d ys p u a = at_first x (xs ++ ys) (xs ++ d ∷ ys) p u (at_in xs d ys p u) a.front a.entry a.back a.is
    a.tuple a.at

no_first : (d : Entry) (ys : List Entry) (p : Place) (u : List ℕ) → (d.at ≡ p → ⊥)
    → (cs : List Entry) (e : Entry) (bs : List Entry) → d ∷ ys ≡ cs ++ e ∷ bs → e.tuple ≡ u → e.at ≡ p → IsAt ys p u
no_first d ys p u h [] e bs is t q = let first : d ≡ e = cc in absurd (h (ap (λ (f : Entry). f.at) first ∙ q))
no_first d ys p u h (c ∷ cs) e bs is t q =
    let rest : ys ≡ cs ++ e ∷ bs = cc in
    record { front = cs; back = bs; entry = e; is = rest; tuple = t; at = q }

-- and when another one goes
pub at_out : (xs : List Entry) (d : Entry) (ys : List Entry) (p : Place) (u : List ℕ) → (d.at ≡ p → ⊥)
    → IsAt (xs ++ d ∷ ys) p u → IsAt (xs ++ ys) p u
at_out [] d ys p u h a = no_first d ys p u h a.front a.entry a.back a.is a.tuple a.at
at_out (x ∷ xs) d ys p u h a = at_first x (xs ++ d ∷ ys) (xs ++ ys) p u (at_out xs d ys p u h) a.front a.entry a.back
    a.is a.tuple a.at

swap_first : (d e : Entry) (ys : List Entry) (p : Place) (u : List ℕ) → e.tuple ≡ d.tuple → e.at ≡ d.at
    → (cs : List Entry) (f : Entry) (bs : List Entry) → d ∷ ys ≡ cs ++ f ∷ bs → f.tuple ≡ u → f.at ≡ p
    → IsAt (e ∷ ys) p u
swap_first d e ys p u h k [] f bs is t q =
    let first : d ≡ f = cc in
    record {
      front = [];
      back = ys;
      entry = e;
      is = refl;
      tuple = h ∙ ap (λ (g : Entry). g.tuple) first ∙ t;
      at = k
          ∙ ap (λ (g : Entry). g.at) first ∙ q;
    }
swap_first d e ys p u h k (c ∷ cs) f bs is t q =
    let rest : ys ≡ cs ++ f ∷ bs = cc in
    record { front = e ∷ cs; back = bs; entry = f; is = ap (λ (zs : List Entry). e ∷ zs) rest; tuple = t; at = q }

-- and when an entry changes but for its tuple and its place
pub at_same : (xs : List Entry) (d e : Entry) (ys : List Entry) (p : Place) (u : List ℕ) → e.tuple ≡ d.tuple → e.at
    ≡ d.at → IsAt (xs ++ d ∷ ys) p u → IsAt (xs ++ e ∷ ys) p u
at_same [] d e ys p u h k a = swap_first d e ys p u h k a.front a.entry a.back a.is a.tuple a.at
at_same (x ∷ xs) d e ys p u h k a = at_first x (xs ++ d ∷ ys) (xs ++ e ∷ ys) p u (at_same xs d e ys p u h k) a.front
    a.entry a.back a.is a.tuple a.at

-- a place that names an entry names its tuple
pub at_here : (xs : List Entry) (e : Entry) (ys : List Entry) (u : List ℕ) → ArePlaced (xs ++ e ∷ ys)
    → IsAt (xs ++ e ∷ ys) e.at u → e.tuple ≡ u
at_here xs e ys u h a = one_tuple (xs ++ e ∷ ys) e.at e.tuple u h (is_here xs e ys) a

-- ---- Tests of tuples.

-- a test that holds is an equation, and the other way
pub same_is : (u v : List ℕ) → same u v ≡ true → u ≡ v
unfolding same
same_is u v h = (bytes_eq-Decides u v).0 h

pub is_same : (u v : List ℕ) → u ≡ v → same u v ≡ true
unfolding same
is_same u v h = (bytes_eq-Decides u v).1 h

pub same_refl : (u : List ℕ) → same u u ≡ true
same_refl u = is_same u u refl

pub same_other : (u v : List ℕ) → (u ≡ v → ⊥) → same u v ≡ false
same_other u v h = false_from_ne_true (same u v) (λ e. h (same_is u v e))

pub other_same : (u v : List ℕ) → same u v ≡ false → u ≡ v → ⊥
other_same u v h e = false≢true (sym h ∙ is_same u v e)

pub same_cases : (u v : List ℕ) → (u ≡ v) ⊎ (same u v ≡ false)
same_cases u v = elim (cases_Bool (same u v)) [ inl here ↦ inl (same_is u v here) | inr other ↦ inr other ]

flip : (u v : List ℕ) (b c : Bool) → same u v ≡ b → same v u ≡ c → b ≡ c
flip u v true true h k = refl
flip u v false false h k = refl
flip u v true false h k = absurd (other_same v u k (sym (same_is u v h)))
flip u v false true h k = absurd (other_same u v h (sym (same_is v u k)))

pub same_sym : (u v : List ℕ) → same u v ≡ same v u
same_sym u v = flip u v (same u v) (same v u) refl refl

-- a test counts one or nothing
pub one_true : (b : Bool) → b ≡ true → one_if b ≡ 1
unfolding one_if
one_true b h = rw h refl

pub one_false : (b : Bool) → b ≡ false → one_if b ≡ 0
unfolding one_if
one_false b h = rw h refl

pub one_le : (b : Bool) → one_if b ≤ 1
unfolding one_if
one_le true = omega arith
one_le false = omega arith

pub one_same : (u : List ℕ) → one_if (same u u) ≡ 1
one_same u = one_true (same u u) (same_refl u)

pub one_other : (u v : List ℕ) → same u v ≡ false → one_if (same u v) ≡ 0
one_other u v h = one_false (same u v) h

pub true_from_one : (b : Bool) → 0 < one_if b → b ≡ true
unfolding one_if
true_from_one true h = refl
true_from_one false h = absurd (omega arith)

-- ---- The numbers of a list of entries, as sums.

pub supports_of-append : (xs ys : List Entry) (u : List ℕ) → supports_of (xs ++ ys) u ≡ supports_of xs u + supports_of
    ys u
unfolding supports_of
supports_of-append [] ys u = omega arith
supports_of-append (e ∷ xs) ys u = omega (arith, supports_of-append xs ys u)

pub count_of-append : (xs ys : List Entry) (u : List ℕ) → count_of (xs ++ ys) u ≡ count_of xs u + count_of ys u
unfolding count_of
count_of-append [] ys u = omega arith
count_of-append (e ∷ xs) ys u = omega (arith, count_of-append xs ys u)

pub group_size-append : (key : List ℕ) (xs ys : List Entry) (w : List ℕ) → group_size key (xs ++ ys) w
    ≡ group_size key xs w + group_size key ys w
unfolding group_size
group_size-append key [] ys w = omega arith
group_size-append key (e ∷ xs) ys w = omega (arith, group_size-append key xs ys w)

pub cnt_cons : (e : Entry) (es : List Entry) (u : List ℕ)
    → count_of (e ∷ es) u ≡ one_if (same e.tuple u) + count_of es u
unfolding count_of
cnt_cons e es u = refl

pub supp_cons : (e : Entry) (es : List Entry) (u : List ℕ) → supports_of (e ∷ es) u
    ≡ cond (same e.tuple u) e.supports 0 + supports_of es u
unfolding supports_of
supp_cons e es u = refl

pub many_cons : (key : List ℕ) (e : Entry) (es : List Entry) (w : List ℕ) → group_size key (e ∷ es) w
    ≡ one_if (same (pick key e.tuple) w) + group_size key es w
unfolding group_size
many_cons key e es w = refl

-- an entry in the middle is one summand
pub cnt_middle : (xs : List Entry) (e : Entry) (ys : List Entry) (u : List ℕ) → count_of (xs ++ e ∷ ys) u
    ≡ one_if (same e.tuple u) + count_of (xs ++ ys) u
cnt_middle xs e ys u = omega (arith, count_of-append xs (e ∷ ys) u, count_of-append xs ys u, cnt_cons e ys u)

pub supp_middle : (xs : List Entry) (e : Entry) (ys : List Entry) (u : List ℕ) → supports_of (xs ++ e ∷ ys) u
    ≡ cond (same e.tuple u) e.supports 0 + supports_of (xs ++ ys) u
supp_middle xs e ys u = omega (arith, supports_of-append xs (e ∷ ys) u, supports_of-append xs ys u, supp_cons e ys u)

pub many_middle : (key : List ℕ) (xs : List Entry) (e : Entry) (ys : List Entry) (w : List ℕ)
    → group_size key (xs ++ e ∷ ys) w ≡ one_if (same (pick key e.tuple) w) + group_size key (xs ++ ys) w
many_middle key xs e ys w = omega (
  arith,
  group_size-append key xs (e ∷ ys) w,
  group_size-append key xs ys w,
  many_cons key e ys w,
)

-- marked and unmarked entries make all
by_mark : (b : Bool) (f : List Entry → ℕ) (e : Entry) (es : List Entry) (n : ℕ)
    → ((xs : List Entry) → f (e ∷ xs) ≡ n + f xs) → f es ≡ f (plain es) + f (marks es)
    → n + f es ≡ f (cond b (plain es) (e ∷ plain es)) + f (cond b (e ∷ marks es) (marks es))
by_mark true f e es n h k = omega (arith, h (marks es), k)
by_mark false f e es n h k = omega (arith, h (plain es), k)

pub cnt_split : (es : List Entry) (u : List ℕ) → count_of es u ≡ count_of (plain es) u + count_of (marks es) u
unfolding count_of plain marks
cnt_split [] u = omega arith
cnt_split (e ∷ es) u =
    by_mark e.marked (λ xs. count_of xs u) e es (one_if (same e.tuple u)) (λ xs. refl) (cnt_split es u)

pub many_split : (key : List ℕ) (es : List Entry) (w : List ℕ) → group_size key es w
    ≡ group_size key (plain es) w + group_size key (marks es) w
unfolding group_size plain marks
many_split key [] w = omega arith
many_split key (e ∷ es) w = by_mark e.marked (λ xs. group_size key xs w) e es (one_if (same (pick key e.tuple) w))
    (λ xs. refl)
    (many_split key es w)

length_one : (b : Bool) (e : Entry) (es : List Entry) (n : ℕ) → length es ≡ n
    → length (cond b (e ∷ es) es) ≡ one_if b + n
unfolding one_if
length_one true e es n h = omega arith
length_one false e es n h = omega arith

-- a group is as long as its number says
pub length_grp : (key : List ℕ) (es : List Entry) (w : List ℕ) → length (group_of key es w) ≡ group_size key es w
unfolding group_of group_size
length_grp key [] w = refl
length_grp key (e ∷ es) w = length_one (same (pick key e.tuple) w) e (group_of key es w) (group_size key es w)
    (length_grp key es w)

-- no number is larger than the list is long
pub cnt_length : (es : List Entry) (u : List ℕ) → count_of es u ≤ length es
unfolding count_of
cnt_length [] u = omega arith
cnt_length (e ∷ es) u = omega (arith, one_le (same e.tuple u), cnt_length es u)

pub many_length : (key : List ℕ) (es : List Entry) (w : List ℕ) → group_size key es w ≤ length es
unfolding group_size
many_length key [] w = omega arith
many_length key (e ∷ es) w = omega (arith, one_le (same (pick key e.tuple) w), many_length key es w)

-- ---- Lists in which no tuple stands twice.

-- where a tuple is among the entries, it stands somewhere
pub record Stands (es : List Entry) (u : List ℕ) : Type 0 where
  pub front : List Entry
  pub back : List Entry
  pub entry : Entry
  pub is : es ≡ front ++ entry ∷ back
  pub tuple : entry.tuple ≡ u

further_apart : (e : Entry) (es : List Entry) (u : List ℕ) → Stands es u → Stands (e ∷ es) u
further_apart e es u s = record
    { front = e ∷ s.front; back = s.back; entry = s.entry; is = ap (λ (xs : List Entry). e ∷ xs) s.is; tuple = s.tuple }

none : (u : List ℕ) → 0 < count_of [] u → ⊥
unfolding count_of
none u h = omega arith

pub stands : (es : List Entry) (u : List ℕ) → 0 < count_of es u → Stands es u
stands [] u h = absurd (none u h)
stands (e ∷ es) u h =
    elim (same_cases e.tuple u) [
      | inl here ↦ record { front = []; back = es; entry = e; is = refl; tuple = here }
      | inr other ↦ further_apart e es u (stands es u (omega (arith, h, cnt_cons e es u, one_other e.tuple u other)))
    ]

-- each tuple stands once at most
pub cnt_once : (es : List Entry) (u : List ℕ) → TuplesDiffer es → count_of es u ≤ 1
unfolding TuplesDiffer count_of
cnt_once [] u h = omega arith
cnt_once (e ∷ es) u h =
    elim (same_cases e.tuple u) [
      | inl here ↦ let none : count_of es u
          ≡ 0 = subst (λ v. count_of es v ≡ 0) here h.0 in omega (arith, none, one_le (same e.tuple u))
      | inr other ↦ omega (arith, one_other e.tuple u other, cnt_once es u h.1)
    ]

-- an entry goes in where its tuple is absent, and out anywhere
flipped : (u v : List ℕ) → same u v ≡ false → same v u ≡ false
flipped u v h = sym (same_sym u v) ∙ h

unlike : (u v : List ℕ) (n : ℕ) → one_if (same u v) + n ≡ 0 → same u v ≡ false
unlike u v n h = elim (same_cases u v)
    [ inl here ↦ absurd (omega (arith, h, one_true (same u v) (is_same u v here))) | inr other ↦ other ]

pub apart_in : (xs : List Entry) (e : Entry) (ys : List Entry) → TuplesDiffer (xs ++ ys)
    → count_of (xs ++ ys) e.tuple ≡ 0
    → TuplesDiffer (xs ++ e ∷ ys)
unfolding TuplesDiffer
apart_in [] e ys h none = (none, h)
apart_in (x ∷ xs) e ys h none =
    let apart : same x.tuple e.tuple
    ≡ false = unlike x.tuple e.tuple (count_of (xs ++ ys) e.tuple) (sym (cnt_cons x (xs ++ ys) e.tuple) ∙ none) in
    let swapped : one_if (same e.tuple x.tuple) ≡ 0 = one_other e.tuple x.tuple (flipped x.tuple e.tuple apart) in (
      omega (arith, cnt_middle xs e ys x.tuple, h.0, swapped),
      apart_in xs e ys h.1
          (omega (arith, none, cnt_cons x (xs ++ ys) e.tuple)),
    )

pub apart_out : (xs : List Entry) (e : Entry) (ys : List Entry) → TuplesDiffer (xs ++ e ∷ ys) → TuplesDiffer (xs ++ ys)
unfolding TuplesDiffer
apart_out [] e ys h = h.1
apart_out (x ∷ xs) e ys h = (omega (arith, h.0, cnt_middle xs e ys x.tuple), apart_out xs e ys h.1)

-- apart from an entry its tuple is absent
pub apart_here : (xs : List Entry) (e : Entry) (ys : List Entry) → TuplesDiffer (xs ++ e ∷ ys)
    → count_of (xs ++ ys) e.tuple ≡ 0
apart_here xs e ys h = omega (arith, cnt_once (xs ++ e ∷ ys) e.tuple h, cnt_middle xs e ys e.tuple, one_same e.tuple)

-- only the tuples matter
pub apart_same : (xs : List Entry) (d e : Entry) (ys : List Entry) → e.tuple ≡ d.tuple → TuplesDiffer (xs ++ d ∷ ys)
    → TuplesDiffer (xs ++ e ∷ ys)
apart_same xs d e ys h apart = apart_in xs e ys (apart_out xs d ys apart)
    (subst (λ u. count_of (xs ++ ys) u ≡ 0) (sym h) (apart_here xs d ys apart))

-- an absent tuple has no supports
pub supp_none : (es : List Entry) (u : List ℕ) → count_of es u ≡ 0 → supports_of es u ≡ 0
unfolding supports_of count_of
supp_none [] u h = refl
supp_none (e ∷ es) u h =
    elim (same_cases e.tuple u) [
      | inl here ↦ absurd (omega
          (arith, h, one_true (same e.tuple u) (subst (λ v. same e.tuple v ≡ true) here (same_refl e.tuple))))
      | inr other ↦ rw other (omega (arith, supp_none es u (omega (arith, h))))
    ]

pub supp_here : (xs : List Entry) (e : Entry) (ys : List Entry) → TuplesDiffer (xs ++ e ∷ ys)
    → supports_of (xs ++ e ∷ ys) e.tuple
    ≡ e.supports
supp_here xs e ys h = rw (supp_middle, same_refl) (omega (arith, supp_none (xs ++ ys) e.tuple (apart_here xs e ys h)))

pub supp_at : (es : List Entry) (xs : List Entry) (e : Entry) (ys : List Entry) (u : List ℕ) → TuplesDiffer es → es
    ≡ xs ++ e ∷ ys → e.tuple ≡ u → supports_of es u ≡ e.supports
supp_at es xs e ys u apart is here = rw (is, ← here) (supp_here xs e ys (subst TuplesDiffer is apart))

pub cnt_here : (xs : List Entry) (e : Entry) (ys : List Entry) → 0 < count_of (xs ++ e ∷ ys) e.tuple
cnt_here xs e ys = omega (arith, cnt_middle xs e ys e.tuple, one_same e.tuple)

pub there : (es : List Entry) (xs : List Entry) (e : Entry) (ys : List Entry) (u : List ℕ) → es ≡ xs ++ e ∷ ys → e.tuple
    ≡ u → 0 < count_of es u
there es xs e ys u is here = rw (is, ← here) (cnt_here xs e ys)

-- where each tuple has a support, a tuple without one is absent
pub cnt_none : (es : List Entry) (u : List ℕ) → AreSupported es → supports_of es u ≡ 0 → count_of es u ≡ 0
unfolding supports_of count_of AreSupported
cnt_none [] u s h = refl
cnt_none (e ∷ es) u s h =
    elim (same_cases e.tuple u) [
      | inl here ↦ absurd (let k : e.supports + supports_of es u
          ≡ 0 = subst (λ b. cond b e.supports 0 + supports_of es u ≡ 0)
          (subst (λ v. same e.tuple v ≡ true) here (same_refl e.tuple)) h in let pos : 0 < e.supports = s.0 in omega
          arith)
      | inr other ↦ let k : cond false e.supports 0 + supports_of es u
          ≡ 0 = subst (λ b. cond b e.supports 0 + supports_of es u ≡ 0) other h in omega
          (arith, one_other e.tuple u other, cnt_none es u s.1 (omega (arith, k)))
    ]

pub supported_out : (xs : List Entry) (e : Entry) (ys : List Entry) → AreSupported (xs ++ e ∷ ys)
    → AreSupported (xs ++ ys)
unfolding AreSupported
supported_out [] e ys h = h.1
supported_out (x ∷ xs) e ys h = (h.0, supported_out xs e ys h.1)

pub supported_in : (xs : List Entry) (e : Entry) (ys : List Entry) → 0 < e.supports → AreSupported (xs ++ ys)
    → AreSupported (xs ++ e ∷ ys)
unfolding AreSupported
supported_in [] e ys s h = (s, h)
supported_in (x ∷ xs) e ys s h = (h.0, supported_in xs e ys s h.1)

pub cnt_supp : (es : List Entry) (u : List ℕ) → AreSupported es → 0 < count_of es u → 0 < supports_of es u
cnt_supp es u s h = elim (supports_of es u) as (λ n. supports_of es u ≡ n → 0 < n)
    [ zero ↦ (λ k. absurd (let none = cnt_none es u s k in omega arith)) | suc n ↦ (λ k. omega arith) ] refl
