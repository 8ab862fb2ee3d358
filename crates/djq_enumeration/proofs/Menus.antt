-- Groups of a table as menus, and how a listing goes on among them.
use Rattle.std.proofs.Common.{◌≡◌, ℕ, zero, suc, ◌*◌, ◌<◌, true, false, List, [], ◌∷◌, length, map, refl, ap, sym}
use Rattle.std.proofs.Common.{subst, ◌∙◌, inl, inr, arith, Bool, cond, ◌++◌, ◌⊎◌, ◌+◌, ap₂}
use Rattle.std.proofs.Math.Nat.{suc-mul, mul-zero, zero-mul}
use Rattle.std.proofs.lemmas.Bool.{cases_Bool, cases_lt, false≢true, or_cases, or_left, or_right, or_parts}
use Rattle.std.proofs.lemmas.List.{length-map, append-nil, append_assoc}
use Rattle.std.specs.Prelude.{◌||◌, flat_map, All, Contains}
use Rattle.std.proofs.lemmas.List.Elements.{All-nil, All-cons}
use Rattle.std.proofs.lemmas.List.Kept.{AllPairs-cons}
use Rattle.std.proofs.Math.Bool.{or_assoc}
use Rattle.std.proofs.lemmas.Grind.{flat_map-append}
use Rattle.djq_index.specs.Tuple.{same, pick, one_if}
use Rattle.djq_index.specs.Entries.{Entry, count_of, group_size, group_of}
use Rattle.djq_index.specs.Table.{TuplesDiffer, IsOccupied}
use Rattle.djq_index.proofs.Tuples.{same_is, is_same, one_true, one_false, true_from_one, same_refl, cnt_cons}
use Rattle.djq_index.proofs.Tuples.{length_grp}
use Rattle.djq_index.proofs.Groups.{cnt_grp, grp_yes, grp_no}
use Rattle.djq_tree.specs.Levels.{levels_below}
use Rattle.djq_reduct.specs.Tables.{entries_at}
use Rattle.djq_reduct.specs.Reducts.{Reducts}
use Rattle.djq_enumeration.specs.declared.places.Choice.{Choice}
use Rattle.djq_enumeration.specs.Menus.{has_tuple, TuplesOnce, tuples_ahead, tuples_behind, IsFirstTuple}
use Rattle.djq_enumeration.specs.Listing.{AreDistinctTuples}
use Rattle.djq_enumeration.specs.Levels.{IsNextLevel, source, step}
use Rattle.djq_enumeration.specs.Walk.{Menu, menu_at, chosen, leaves, here, answers_ahead, reached_level, GoesThrough}
use Rattle.djq_enumeration.specs.Walk.{MenusAreOpen}

-- ---- Groups of a table as menus.

-- the tuples of entries
abbrev pub tuples : List Entry → List (List ℕ)
tuples es = map (λ (e : Entry). e.tuple) es

no_cnt : (u : List ℕ) → count_of [] u ≡ 0
unfolding count_of
no_cnt u = refl

pub has_cnt : (es : List Entry) (u : List ℕ) → has_tuple (tuples es) u ≡ true → 0 < count_of es u
has_cnt [] u h = absurd (false≢true h)
has_cnt (e ∷ es) u h =
    let c = cnt_cons e es u in
    elim (or_cases (same e.tuple u) (has_tuple (tuples es) u) h) [
      | inl here ↦ (let o = one_true (same e.tuple u) here in omega arith)
      | inr there ↦ (let r = has_cnt es u there in omega arith)
    ]

pub cnt_has : (es : List Entry) (u : List ℕ) → 0 < count_of es u → has_tuple (tuples es) u ≡ true
cnt_has [] u h = absurd (let n = no_cnt u in omega arith)
cnt_has (e ∷ es) u h =
    elim (cases_Bool (same e.tuple u)) [
      | inl here ↦ or_left (same e.tuple u) (has_tuple (tuples es) u) here
      | inr other ↦ or_right (same e.tuple u) (has_tuple (tuples es) u)
          (cnt_has es u
          (let c = cnt_cons e es u in let o = one_false (same e.tuple u) other in omega arith))
    ]

positive : (a b : ℕ) → 0 < a → 0 < b → 0 < a * b
positive zero b h k = absurd (omega arith)
positive (suc a) zero h k = absurd (omega arith)
positive (suc a) (suc b) h k = let e = suc-mul a (suc b) in omega arith

none_by : (a b : ℕ) → b ≡ 0 → a * b ≡ 0
none_by a b e = ap (λ (n : ℕ). a * n) e ∙ mul-zero a

none_of : (a b : ℕ) → a ≡ 0 → a * b ≡ 0
none_of a b e = ap (λ (n : ℕ). n * b) e ∙ zero-mul b

pub both_positive : (a b : ℕ) → 0 < a * b → (0 < a) × (0 < b)
both_positive a b h = (
  elim (cases_lt 0 a)
      [ inl low ↦ low | inr high ↦ absurd (let z = none_of a b (omega arith) in omega arith) ],
  elim (cases_lt 0 b)
      [ inl low ↦ low | inr high ↦ absurd (let z = none_by a b (omega arith) in omega arith) ],
)

pub product_positive : (a b : ℕ) → 0 < a → 0 < b → 0 < a * b
product_positive a b h k = positive a b h k

-- a group has the tuples of the table with its cells
pub group_says : (key : List ℕ) (es : List Entry) (w u : List ℕ)
    → has_tuple (tuples (group_of key es w)) u ≡ true → (0 < count_of es u) × (pick key u ≡ w)
group_says key es w u h =
    let c = cnt_grp key es w u in
    let p = both_positive (count_of es u) (one_if (same (pick key u) w))
    (let q = has_cnt (group_of key es w) u h in omega arith) in
    (p.0, same_is (pick key u) w (true_from_one (same (pick key u) w) p.1))

pub group_has : (key : List ℕ) (es : List Entry) (w u : List ℕ) → 0 < count_of es u → pick key u ≡ w
    → has_tuple (tuples (group_of key es w)) u ≡ true
group_has key es w u h e =
    cnt_has (group_of key es w) u
    (let o = one_true (same (pick key u) w) (is_same (pick key u) w e) in
    let p = product_positive (count_of es u) (one_if (same (pick key u) w)) h (omega arith) in
    let c = cnt_grp key es w u in omega arith)

pub apart_head : (e : Entry) (es : List Entry) → TuplesDiffer (e ∷ es) → count_of es e.tuple ≡ 0
unfolding TuplesDiffer
apart_head e es h = h.0

pub apart_tail : (e : Entry) (es : List Entry) → TuplesDiffer (e ∷ es) → TuplesDiffer es
unfolding TuplesDiffer
apart_tail e es h = h.1

pub grp_nil : (key w : List ℕ) → group_of key [] w ≡ []
unfolding group_of
grp_nil key w = refl

-- no tuple stands twice in it
pub group_once : (key : List ℕ) (es : List Entry) (w : List ℕ) → TuplesDiffer es
    → TuplesOnce (tuples (group_of key es w))
group_once key [] w h = subst (λ (es : List Entry). TuplesOnce (tuples es)) (sym (grp_nil key w)) tt
group_once key (e ∷ es) w h =
    let r = group_once key es w (apart_tail e es h) in
    elim (cases_Bool (same (pick key e.tuple) w)) [
      | inl here ↦ subst (λ (fs : List Entry). TuplesOnce (tuples fs)) (sym (grp_yes key e es w here))
          (fresh, r)
      | inr other ↦ subst (λ (fs : List Entry). TuplesOnce (tuples fs)) (sym (grp_no key e es w other))
          r
    ]
  where
    fresh : has_tuple (tuples (group_of key es w)) e.tuple ≡ false
    fresh =
        elim (cases_Bool (has_tuple (tuples (group_of key es w)) e.tuple)) [
          | inl is ↦ absurd
              (let g = (group_says key es w e.tuple is).0 in let z = apart_head e es h in omega
              arith)
          | inr isnt ↦ isnt
        ]

pub group_filled : (key : List ℕ) (es : List Entry) (w : List ℕ) → 0 < group_size key es w
    → tuples (group_of key es w) ≡ [] → ⊥
group_filled key es w h e =
    let l = length_grp key es w in
    let m : length (tuples (group_of key es w)) ≡ length (group_of key es w) = length-map (group_of key es w)
    (λ (e : Entry). e.tuple) in
    let z : length (tuples (group_of key es w)) ≡ 0 = ap (λ (us : List (List ℕ)). length us) e in
    omega arith

some_nil : (es : List Entry) → (tuples es ≡ [] → ⊥) → 0 < length es
some_nil [] h = absurd (h refl)
some_nil (e ∷ es) h = omega arith

-- a tuple of the table makes a group
pub many_of : (key : List ℕ) (es : List Entry) (w u : List ℕ) → 0 < count_of es u → pick key u ≡ w
    → 0 < group_size key es w
many_of key es w u h e =
    let g = group_has key es w u h e in
    let l = length_grp key es w in
    let s = some_nil (group_of key es w)
    (λ z. false≢true (ap (λ (us : List (List ℕ)). has_tuple us u) (sym z) ∙ g)) in
    omega arith

-- ---- Menus split at a choice, and the members of joined menus.

pub has_here : (u : List ℕ) (xs : List (List ℕ)) → has_tuple (u ∷ xs) u ≡ true
has_here u xs = or_left (same u u) (has_tuple xs u) (same_refl u)

has_front : (xs ys : List (List ℕ)) (v : List ℕ) → xs ≡ v ∷ ys → has_tuple xs v ≡ true
has_front xs ys v e = ap (λ (l : List (List ℕ)). has_tuple l v) e ∙ has_here v ys

-- ---- a choice

split_step : (b : Bool) (x : List ℕ) (xs : List (List ℕ)) (u : List ℕ) → same x u ≡ b
    → (b || has_tuple xs u) ≡ true → (has_tuple xs u ≡ true → xs ≡ tuples_ahead xs u ++ u ∷ tuples_behind xs u)
    → x ∷ xs ≡ cond b [] (x ∷ tuples_ahead xs u) ++ u ∷ cond b xs (tuples_behind xs u)
split_step true x xs u e h r = ap (λ (y : List ℕ). y ∷ xs) (same_is x u e)
split_step false x xs u e h r = ap (λ (l : List (List ℕ)). x ∷ l) (r h)

pub menu_split : (xs : List (List ℕ)) (u : List ℕ) → has_tuple xs u ≡ true
    → xs ≡ tuples_ahead xs u ++ u ∷ tuples_behind xs u
menu_split [] u h = absurd (false≢true h)
menu_split (x ∷ xs) u h = split_step (same x u) x xs u refl h (menu_split xs u)

-- the next choice is on the menu
next_has_step : (b : Bool) (x : List ℕ) (xs ys : List (List ℕ)) (u v : List ℕ)
    → cond b xs (tuples_behind xs u) ≡ v ∷ ys → (tuples_behind xs u ≡ v ∷ ys → has_tuple xs v ≡ true)
    → has_tuple (x ∷ xs) v ≡ true
next_has_step true x xs ys u v e r = or_right (same x v) (has_tuple xs v) (has_front xs ys v e)
next_has_step false x xs ys u v e r = or_right (same x v) (has_tuple xs v) (r e)

pub next_has : (xs ys : List (List ℕ)) (u v : List ℕ) → tuples_behind xs u ≡ v ∷ ys → has_tuple xs v ≡ true
next_has [] ys u v e = absurd cc
next_has (x ∷ xs) ys u v e = next_has_step (same x u) x xs ys u v e (next_has xs ys u v)

apart : (x : List ℕ) (xs : List (List ℕ)) (v : List ℕ) → has_tuple xs x ≡ false → has_tuple xs v ≡ true
    → same x v ≡ false
apart x xs v h k =
    elim (cases_Bool (same x v)) [
      | inl is ↦ absurd (false≢true (sym h ∙ ap (λ (y : List ℕ). has_tuple xs y) (same_is x v is) ∙ k))
      | inr isnt ↦ isnt
    ]

ahead_else : (x : List ℕ) (xs : List (List ℕ)) (v : List ℕ) → same x v ≡ false
    → tuples_ahead (x ∷ xs) v ≡ x ∷ tuples_ahead xs v
ahead_else x xs v e = rw e refl

ahead_here : (v : List ℕ) (xs : List (List ℕ)) → tuples_ahead (v ∷ xs) v ≡ []
ahead_here v xs = rw (same_refl v) refl

next_ahead_step : (b : Bool) (x : List ℕ) (xs ys : List (List ℕ)) (u v : List ℕ) → same x u ≡ b
    → has_tuple xs x ≡ false → cond b xs (tuples_behind xs u) ≡ v ∷ ys
    → (tuples_behind xs u ≡ v ∷ ys → tuples_ahead xs v ≡ tuples_ahead xs u ++ u ∷ [])
    → tuples_ahead (x ∷ xs) v ≡ cond b [] (x ∷ tuples_ahead xs u) ++ u ∷ []
next_ahead_step true x xs ys u v b fresh e r =
    ahead_else x xs v (apart x xs v fresh (has_front xs ys v e))
    ∙ ap (λ (l : List (List ℕ)). x ∷ l) (ap (λ (l : List (List ℕ)). tuples_ahead l v) e ∙ ahead_here v ys)
    ∙ ap (λ (y : List ℕ). y ∷ []) (same_is x u b)
next_ahead_step false x xs ys u v b fresh e r =
    ahead_else x xs v (apart x xs v fresh (next_has xs ys u v e))
    ∙ ap (λ (l : List (List ℕ)). x ∷ l) (r e)

-- what is ahead of the next choice
pub next_ahead : (xs ys : List (List ℕ)) (u v : List ℕ) → TuplesOnce xs → tuples_behind xs u ≡ v ∷ ys
    → tuples_ahead xs v ≡ tuples_ahead xs u ++ u ∷ []
next_ahead [] ys u v once e = absurd cc
next_ahead (x ∷ xs) ys u v once e = next_ahead_step (same x u) x xs ys u v refl once.0 e
    (next_ahead xs ys u v once.1)

-- where the choice is the last one
pub last_split : (xs : List (List ℕ)) (u : List ℕ) → has_tuple xs u ≡ true → tuples_behind xs u ≡ []
    → tuples_ahead xs u ++ u ∷ [] ≡ xs
last_split xs u h e = ap (λ (l : List (List ℕ)). tuples_ahead xs u ++ u ∷ l) (sym e)
    ∙ sym (menu_split xs u h)

-- the first choice
pub first_has : (xs : List (List ℕ)) (u : List ℕ) → IsFirstTuple xs u → has_tuple xs u ≡ true
first_has [] u h = absurd h
first_has (x ∷ xs) u h = or_left (same x u) (has_tuple xs u) (is_same x u h)

pub first_ahead : (xs : List (List ℕ)) (u : List ℕ) → IsFirstTuple xs u → tuples_ahead xs u ≡ []
first_ahead [] u h = absurd h
first_ahead (x ∷ xs) u h = rw (is_same x u h) refl

pub next_first : (xs : List (List ℕ)) (v : List ℕ) → IsFirstTuple xs v → (ys : List (List ℕ))
    × (xs ≡ v ∷ ys)
next_first [] v h = absurd h
next_first (x ∷ xs) v h = (xs, ap (λ (y : List ℕ). y ∷ xs) h)

-- ---- members

pub has-append : (xs ys : List (List ℕ)) (a : List ℕ) → has_tuple (xs ++ ys) a ≡ (has_tuple xs a || has_tuple ys a)
has-append [] ys a = refl
has-append (x ∷ xs) ys a = ap (λ (b : Bool). same x a || b) (has-append xs ys a)
    ∙ sym (or_assoc (same x a) (has_tuple xs a) (has_tuple ys a))

pub has_cases : (xs ys : List (List ℕ)) (a : List ℕ) → has_tuple (xs ++ ys) a ≡ true
    → (has_tuple xs a ≡ true) ⊎ (has_tuple ys a ≡ true)
has_cases xs ys a h = or_cases (has_tuple xs a) (has_tuple ys a) (sym (has-append xs ys a) ∙ h)

pub has_left : (xs ys : List (List ℕ)) (a : List ℕ) → has_tuple xs a ≡ true → has_tuple (xs ++ ys) a ≡ true
has_left xs ys a h = has-append xs ys a ∙ or_left (has_tuple xs a) (has_tuple ys a) h

pub has_right : (xs ys : List (List ℕ)) (a : List ℕ) → has_tuple ys a ≡ true → has_tuple (xs ++ ys) a ≡ true
has_right xs ys a h = has-append xs ys a ∙ or_right (has_tuple xs a) (has_tuple ys a) h

-- the branch that a member of joined lists is in
pub record Branch (f : List ℕ → List (List ℕ)) (us : List (List ℕ)) (a : List ℕ) : Type 0 where
  pub branch : List ℕ
  pub on : has_tuple us branch ≡ true
  pub holds : has_tuple (f branch) a ≡ true

deeper : (f : List ℕ → List (List ℕ)) (u : List ℕ) (us : List (List ℕ)) (a : List ℕ) → Branch f us a
    → Branch f (u ∷ us) a
deeper f u us a b =
    record {
      branch = b.branch;
      on = or_right (same u b.branch) (has_tuple us b.branch) b.on;
      holds =
          b.holds;
    }

pub branch_of : (f : List ℕ → List (List ℕ)) (us : List (List ℕ)) (a : List ℕ)
    → has_tuple (flat_map f us) a ≡ true → Branch f us a
branch_of f [] a h = absurd (false≢true h)
branch_of f (u ∷ us) a h =
    elim (has_cases (f u) (flat_map f us) a h) [
      | inl first ↦ record { branch = u; on = has_here u us; holds = first }
      | inr later ↦ deeper f u us a (branch_of f us a later)
    ]

pub has_branch : (f : List ℕ → List (List ℕ)) (us : List (List ℕ)) (u a : List ℕ) → has_tuple us u ≡ true
    → has_tuple (f u) a ≡ true → has_tuple (flat_map f us) a ≡ true
has_branch f [] u a h k = absurd (false≢true h)
has_branch f (v ∷ us) u a h k =
    elim (or_cases (same v u) (has_tuple us u) h) [
      | inl first ↦ has_left (f v) (flat_map f us) a
          (ap (λ (y : List ℕ). has_tuple (f y) a) (same_is v u first) ∙ k)
      | inr later ↦ has_right (f v) (flat_map f us) a (has_branch f us u a later k)
    ]

none_in : (xs ys : List (List ℕ)) (a : List ℕ) → has_tuple xs a ≡ false → (has_tuple ys a ≡ true → ⊥)
    → has_tuple (xs ++ ys) a ≡ false
none_in xs ys a h k =
    elim (cases_Bool (has_tuple (xs ++ ys) a)) [
      | inl is ↦ absurd
          (elim (has_cases xs ys a is) [ inl l ↦ false≢true (sym h ∙ l) | inr r ↦ k r ])
      | inr isnt ↦ isnt
    ]

pub once_append : (xs ys : List (List ℕ)) → TuplesOnce xs → TuplesOnce ys
    → ((a : List ℕ) → has_tuple xs a ≡ true → has_tuple ys a ≡ true → ⊥) → TuplesOnce (xs ++ ys)
once_append [] ys h k alone = k
once_append (x ∷ xs) ys h k alone = (
  none_in xs ys x h.0 (alone x (has_here x xs)),
  once_append xs ys h.1 k
      (λ a l r. alone a (or_right (same x a) (has_tuple xs a) l) r),
)

pub once_front : (xs ys : List (List ℕ)) → TuplesOnce (xs ++ ys) → TuplesOnce xs
once_front [] ys h = tt
once_front (x ∷ xs) ys h =
    ((or_parts (has_tuple xs x) (has_tuple ys x) (sym (has-append xs ys x) ∙ h.0)).0, once_front xs ys h.1)

fresh_of : (u : List ℕ) (us : List (List ℕ)) (v : List ℕ) → has_tuple us u ≡ false → has_tuple us v ≡ true
    → u ≡ v → ⊥
fresh_of u us v h k e = false≢true (sym h ∙ ap (λ (y : List ℕ). has_tuple us y) e ∙ k)

pub once_flat : (f : List ℕ → List (List ℕ)) (us : List (List ℕ)) → TuplesOnce us
    → ((u : List ℕ) → has_tuple us u ≡ true → TuplesOnce (f u))
    → ((u v a : List ℕ) → has_tuple us u ≡ true → has_tuple us v ≡ true → has_tuple (f u) a ≡ true
    → has_tuple (f v) a ≡ true → u ≡ v) → TuplesOnce (flat_map f us)
once_flat f [] once each one = tt
once_flat f (u ∷ us) once each one =
    once_append (f u) (flat_map f us) (each u (has_here u us))
    (once_flat f us once.1 (λ v h. each v (or_right (same u v) (has_tuple us v) h))
    (λ v w a h k l m. one v w a (or_right (same u v) (has_tuple us v) h)
    (or_right (same u w) (has_tuple us w) k) l m))
    (λ a l r.
    let b = branch_of f us a r in
    fresh_of u us b.branch once.0 b.on
    (one u b.branch a (has_here u us) (or_right (same u b.branch) (has_tuple us b.branch) b.on) l
    b.holds))

-- ---- in the words of std

pub all_of : (P : List ℕ → Type 0) (xs : List (List ℕ)) → ((a : List ℕ) → has_tuple xs a ≡ true → P a)
    → All P xs
all_of P [] h = All-nil P
all_of P (x ∷ xs) h = All-cons P x xs (h x (has_here x xs))
    (all_of P xs (λ a k. h a (or_right (same x a) (has_tuple xs a) k)))

pub different_of : (xs : List (List ℕ)) → TuplesOnce xs → AreDistinctTuples xs
different_of [] h = λ i j d l m. absurd (omega arith)
different_of (x ∷ xs) h = AllPairs-cons (λ (s t : List ℕ). s ≡ t → ⊥) x xs
    (all_of (λ (t : List ℕ). x ≡ t → ⊥) xs (λ a k e. fresh_of x xs a h.0 k e)) (different_of xs h.1)

pub contains_of : (xs : List (List ℕ)) (a : List ℕ) → has_tuple xs a ≡ true → Contains xs a
contains_of [] a h = absurd (false≢true h)
contains_of (x ∷ xs) a h =
    elim (or_cases (same x a) (has_tuple xs a) h) [
      | inl first ↦ (0, omega arith, same_is x a first)
      | inr later ↦ (let r = contains_of xs a later in (suc r.0, omega (arith, r.1), r.2))
    ]

-- ---- A listing goes on by one choice more, or one less.

-- the answers below a level's choice
abbrev pub branch : Reducts → Menu → ℕ → List ℕ → List ℕ → List (List ℕ)
branch r menu k s u = leaves r.tree menu (levels_below r.tree k) (step r.tree k s u)

-- the menu of a choice that comes behind others
abbrev pub menu_on : Reducts → Menu → List ℕ → List Choice → ℕ → List (List ℕ)
menu_on r menu s cs k = menu_at r.tree menu k (here r s cs)

pub reached_push : (n : ℕ) (cs : List Choice) (c : Choice) → reached_level n (cs ++ c ∷ []) ≡ c.level
reached_push n [] c = refl
reached_push n (d ∷ cs) c = reached_push d.level cs c

pub here_push : (r : Reducts) (s : List ℕ) (cs : List Choice) (c : Choice)
    → here r s (cs ++ c ∷ []) ≡ step r.tree c.level (here r s cs) (chosen r c)
here_push r s [] c = refl
here_push r s (d ∷ cs) c = here_push r (step r.tree d.level s (chosen r d)) cs c

pub before_push : (r : Reducts) (menu : Menu) (s : List ℕ) (cs : List Choice) (c : Choice)
    → answers_ahead r menu s (cs ++ c ∷ []) ≡ answers_ahead r menu s cs ++ flat_map
    (branch r menu c.level (here r s cs)) (tuples_ahead (menu_on r menu s cs c.level) (chosen r c))
before_push r menu s [] c = append-nil
    (flat_map (branch r menu c.level s) (tuples_ahead (menu_at r.tree menu c.level s) (chosen r c)))
before_push r menu s (d ∷ cs) c =
    let front = flat_map (branch r menu d.level s)
    (tuples_ahead (menu_at r.tree menu d.level s) (chosen r d)) in
    ap (λ (l : List (List ℕ)). front ++ l)
    (before_push r menu (step r.tree d.level s (chosen r d)) cs c)
    ∙ sym (append_assoc front (answers_ahead r menu (step r.tree d.level s (chosen r d)) cs)
    (flat_map (branch r menu c.level (here r s (d ∷ cs)))
    (tuples_ahead (menu_on r menu s (d ∷ cs) c.level) (chosen r c))))

-- what a choice behind others needs
pub record Joins (r : Reducts) (menu : Menu) (n : ℕ) (s : List ℕ) (cs : List Choice) (c : Choice) :
    Type 0 where
  pub next : IsNextLevel r.tree (reached_level n cs) c.level
  pub live : IsOccupied (entries_at r.tables (source r.tree c.level)) c.place
  pub on : has_tuple (menu_on r menu s cs c.level) (chosen r c) ≡ true

pub follows_push : (r : Reducts) (menu : Menu) (n : ℕ) (s : List ℕ) (cs : List Choice) (c : Choice)
    → GoesThrough r menu n s cs → Joins r menu n s cs c → GoesThrough r menu n s (cs ++ c ∷ [])
follows_push r menu n s [] c f j = (j.next, j.live, j.on, tt)
follows_push r menu n s (d ∷ cs) c f j = (
  f.0,
  f.1,
  f.2,
  follows_push r menu d.level (step r.tree d.level s (chosen r d)) cs c f.3
      (record { next = j.next; live = j.live; on = j.on }),
)

joins_deeper : (r : Reducts) (menu : Menu) (n : ℕ) (s : List ℕ) (d : Choice) (cs : List Choice)
    (c : Choice) → Joins r menu d.level (step r.tree d.level s (chosen r d)) cs c
    → Joins r menu n s (d ∷ cs) c
joins_deeper r menu n s d cs c j = record { next = j.next; live = j.live; on = j.on }

pub follows_pop : (r : Reducts) (menu : Menu) (n : ℕ) (s : List ℕ) (cs : List Choice) (c : Choice)
    → GoesThrough r menu n s (cs ++ c ∷ []) → GoesThrough r menu n s cs × Joins r menu n s cs c
follows_pop r menu n s [] c f = (tt, record { next = f.0; live = f.1; on = f.2 })
follows_pop r menu n s (d ∷ cs) c f =
    let p = follows_pop r menu d.level (step r.tree d.level s (chosen r d)) cs c f.3 in
    ((f.0, f.1, f.2, p.0), joins_deeper r menu n s d cs c p.1)

-- behind choices that follow an open listing it is still open
pub still_open : (r : Reducts) (menu : Menu) (n : ℕ) (s : List ℕ) (cs : List Choice)
    → GoesThrough r menu n s cs → MenusAreOpen r.tree menu (levels_below r.tree n) s
    → MenusAreOpen r.tree menu (levels_below r.tree (reached_level n cs)) (here r s cs)
still_open r menu n s [] f o = o
still_open r menu n s (c ∷ cs) f o =
    let p = subst (λ (ks : List ℕ). MenusAreOpen r.tree menu ks s) f.0 o in
    still_open r menu c.level (step r.tree c.level s (chosen r c)) cs f.3 (p.1 (chosen r c) f.2)

-- so the next menu has a first tuple
pub next_filled : (r : Reducts) (menu : Menu) (n k : ℕ) (s : List ℕ) (cs : List Choice)
    → GoesThrough r menu n s cs → MenusAreOpen r.tree menu (levels_below r.tree n) s
    → IsNextLevel r.tree (reached_level n cs) k
    → menu_on r menu s cs k ≡ [] → ⊥
next_filled r menu n k s cs f o e =
    let p = subst (λ (ks : List ℕ). MenusAreOpen r.tree menu ks (here r s cs)) e
    (still_open r menu n s cs f o) in p.0

-- as many levels as choices and levels without one
pub length_levels : (r : Reducts) (menu : Menu) (n : ℕ) (s : List ℕ) (cs : List Choice)
    → GoesThrough r menu n s cs → length cs + length (levels_below r.tree (reached_level n cs)) ≡ length
    (levels_below r.tree n)
length_levels r menu n s [] f = omega arith
length_levels r menu n s (c ∷ cs) f =
    let i = length_levels r menu c.level (step r.tree c.level s (chosen r c)) cs f.3 in
    let e : length (levels_below r.tree n) ≡ suc (length (levels_below r.tree c.level)) = ap
    (λ (ks : List ℕ). length ks) f.0 in
    omega arith

-- the answers through the levels below n, where the next one is k
pub leaves_next : (r : Reducts) (menu : Menu) (n k : ℕ) (s : List ℕ) → IsNextLevel r.tree n k
    → leaves r.tree menu (levels_below r.tree n) s ≡ flat_map (branch r menu k s)
    (menu_at r.tree menu k s)
leaves_next r menu n k s e = ap (λ (ks : List ℕ). leaves r.tree menu ks s) e

-- the answers are those ahead of the choices, those below them, and others
pub record Splits (r : Reducts) (menu : Menu) (n : ℕ) (s : List ℕ) (cs : List Choice) : Type 0 where
  pub rest : List (List ℕ)
  pub all : leaves r.tree menu (levels_below r.tree n)
      s ≡ (answers_ahead r menu s cs ++ leaves r.tree menu (levels_below r.tree (reached_level n cs))
      (here r s cs)) ++ rest

joined : (f : List ℕ → List (List ℕ)) (xs ys : List (List ℕ)) (u : List ℕ)
    → flat_map f (xs ++ u ∷ ys) ≡ flat_map f xs ++ (f u ++ flat_map f ys)
joined f xs ys u = flat_map-append f xs (u ∷ ys)

pub leaves_split : (r : Reducts) (menu : Menu) (n : ℕ) (s : List ℕ) (cs : List Choice)
    → GoesThrough r menu n s cs → Splits r menu n s cs
leaves_split r menu n s [] f =
    record { rest = []; all = sym (append-nil (leaves r.tree menu (levels_below r.tree n) s)) }
leaves_split r menu n s (c ∷ cs) f =
    let k = c.level in
    let u = chosen r c in
    let m = menu_at r.tree menu k s in
    let g = branch r menu k s in
    let i = leaves_split r menu k (step r.tree k s u) cs f.3 in
    let front = flat_map g (tuples_ahead m u) in
    let back = flat_map g (tuples_behind m u) in
    let b = answers_ahead r menu (step r.tree k s u) cs in
    let l = leaves r.tree menu (levels_below r.tree (reached_level k cs))
    (here r (step r.tree k s u) cs) in
    record {
      rest = i.rest ++ back;
      all =
          leaves_next r menu n k s f.0
          ∙ ap (λ (us : List (List ℕ)). flat_map g us) (menu_split m u f.2)
          ∙ joined g (tuples_ahead m u) (tuples_behind m u) u
          ∙ ap (λ (xs : List (List ℕ)). front ++ (xs ++ back)) i.all
          ∙ regroup_split front b l i.rest back;
    }
  where
    regroup_split : (a b c d e : List (List ℕ))
        → a ++ (((b ++ c) ++ d) ++ e) ≡ ((a ++ b) ++ c) ++ (d ++ e)
    regroup_split a b c d e = simp append_assoc

-- ---- a choice is made

-- the first of a menu comes behind the others: nothing more is ahead of it
pub before_first : (r : Reducts) (menu : Menu) (s : List ℕ) (cs : List Choice) (c : Choice)
    → IsFirstTuple (menu_on r menu s cs c.level) (chosen r c)
    → answers_ahead r menu s (cs ++ c ∷ []) ≡ answers_ahead r menu s cs
before_first r menu s cs c h =
    before_push r menu s cs c
    ∙ ap (λ (us : List (List ℕ)). answers_ahead r menu s cs ++ flat_map
    (branch r menu c.level (here r s cs)) us)
    (first_ahead (menu_on r menu s cs c.level) (chosen r c) h)
    ∙ append-nil (answers_ahead r menu s cs)

-- what was given while the choices are taken away from behind: all that is ahead of them, and all
-- below them
abbrev pub given_to : Reducts → Menu → ℕ → List ℕ → List Choice → List (List ℕ)
given_to r menu n s cs = answers_ahead r menu s cs ++ leaves r.tree menu
    (levels_below r.tree (reached_level n cs)) (here r s cs)

-- with the choices at all levels it ends with the answer that they make
pub given_whole : (r : Reducts) (menu : Menu) (n : ℕ) (s : List ℕ) (cs : List Choice)
    → levels_below r.tree (reached_level n cs) ≡ []
    → given_to r menu n s cs ≡ answers_ahead r menu s cs ++ here r s cs ∷ []
given_whole r menu n s cs e = ap
    (λ (ks : List ℕ). answers_ahead r menu s cs ++ leaves r.tree menu ks (here r s cs)) e

below_push : (r : Reducts) (menu : Menu) (n : ℕ) (s : List ℕ) (cs : List Choice) (c : Choice)
    → leaves r.tree menu (levels_below r.tree (reached_level n (cs ++ c ∷ [])))
    (here r s (cs ++ c ∷ [])) ≡ branch r menu c.level (here r s cs) (chosen r c)
below_push r menu n s cs c = ap₂
    (λ (k : ℕ) (a : List ℕ). leaves r.tree menu (levels_below r.tree k) a) (reached_push n cs c)
    (here_push r s cs c)

branches_on : (f : List ℕ → List (List ℕ)) (us : List (List ℕ)) (u : List ℕ)
    → flat_map f us ++ f u ≡ flat_map f (us ++ u ∷ [])
branches_on f us u = sym
    (flat_map-append f us (u ∷ [])
    ∙ ap (λ (l : List (List ℕ)). flat_map f us ++ l) (append-nil (f u)))

-- the same, as what is ahead of and up to the last choice
given_upto : (r : Reducts) (menu : Menu) (n : ℕ) (s : List ℕ) (cs : List Choice) (c : Choice)
    → given_to r menu n s (cs ++ c ∷ []) ≡ answers_ahead r menu s cs ++ flat_map
    (branch r menu c.level (here r s cs))
    (tuples_ahead (menu_on r menu s cs c.level) (chosen r c) ++ chosen r c ∷ [])
given_upto r menu n s cs c =
    let g = branch r menu c.level (here r s cs) in
    let us = tuples_ahead (menu_on r menu s cs c.level) (chosen r c) in
    ap₂ (λ (a b : List (List ℕ)). a ++ b) (before_push r menu s cs c) (below_push r menu n s cs c)
    ∙ append_assoc (answers_ahead r menu s cs) (flat_map g us) (g (chosen r c))
    ∙ ap (λ (l : List (List ℕ)). answers_ahead r menu s cs ++ l) (branches_on g us (chosen r c))

-- where the last choice has no next one, all below those ahead of it was given
pub given_last : (r : Reducts) (menu : Menu) (n : ℕ) (s : List ℕ) (cs : List Choice) (c : Choice)
    → Joins r menu n s cs c → tuples_behind (menu_on r menu s cs c.level) (chosen r c) ≡ []
    → given_to r menu n s (cs ++ c ∷ []) ≡ given_to r menu n s cs
given_last r menu n s cs c j e =
    given_upto r menu n s cs c
    ∙ ap (λ (us : List (List ℕ)). answers_ahead r menu s cs ++ flat_map
    (branch r menu c.level (here r s cs)) us)
    (last_split (menu_on r menu s cs c.level) (chosen r c) j.on e)
    ∙ ap (λ (l : List (List ℕ)). answers_ahead r menu s cs ++ l)
    (sym (leaves_next r menu (reached_level n cs) c.level (here r s cs) j.next))

-- where it has, what was given is ahead of the next one
pub given_next : (r : Reducts) (menu : Menu) (n : ℕ) (s : List ℕ) (cs : List Choice) (c d : Choice)
    → TuplesOnce (menu_on r menu s cs c.level) → d.level ≡ c.level
    → IsFirstTuple (tuples_behind (menu_on r menu s cs c.level) (chosen r c)) (chosen r d)
    → given_to r menu n s (cs ++ c ∷ []) ≡ answers_ahead r menu s (cs ++ d ∷ [])
given_next r menu n s cs c d once same h =
    let m = menu_on r menu s cs c.level in
    let f = next_first (tuples_behind m (chosen r c)) (chosen r d) h in
    given_upto r menu n s cs c
    ∙ ap (λ (us : List (List ℕ)). answers_ahead r menu s cs ++ flat_map
    (branch r menu c.level (here r s cs)) us)
    (sym (next_ahead m f.0 (chosen r c) (chosen r d) once f.1))
    ∙ ap (λ (k : ℕ). answers_ahead r menu s cs ++ flat_map (branch r menu k (here r s cs))
    (tuples_ahead (menu_on r menu s cs k) (chosen r d))) (sym same)
    ∙ sym (before_push r menu s cs d)

-- the next one joins the same choices
pub joins_next : (r : Reducts) (menu : Menu) (n : ℕ) (s : List ℕ) (cs : List Choice) (c d : Choice)
    → Joins r menu n s cs c → d.level ≡ c.level
    → IsFirstTuple (tuples_behind (menu_on r menu s cs c.level) (chosen r c)) (chosen r d)
    → IsOccupied (entries_at r.tables (source r.tree d.level)) d.place → Joins r menu n s cs d
joins_next r menu n s cs c d j same h live =
    let m = menu_on r menu s cs c.level in
    let f = next_first (tuples_behind m (chosen r c)) (chosen r d) h in
    record {
      next = subst (λ (k : ℕ). IsNextLevel r.tree (reached_level n cs) k) (sym same) j.next;
      live = live;
      on = ap (λ (k : ℕ). has_tuple (menu_on r menu s cs k) (chosen r d)) same
          ∙ next_has m f.0 (chosen r c) (chosen r d) f.1;
    }

pub joins_first : (r : Reducts) (menu : Menu) (n : ℕ) (s : List ℕ) (cs : List Choice) (c : Choice)
    → IsNextLevel r.tree (reached_level n cs) c.level
    → IsOccupied (entries_at r.tables (source r.tree c.level)) c.place
    → IsFirstTuple (menu_on r menu s cs c.level) (chosen r c) → Joins r menu n s cs c
joins_first r menu n s cs c next live h =
    record { next = next; live = live; on = first_has (menu_on r menu s cs c.level) (chosen r c) h }
