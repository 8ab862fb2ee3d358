-- Whether a tuple is an answer is decided, comparisons included.
use Rattle.std.specs.Prelude.{ℕ, zero, suc, List, [], ◌∷◌, ◌≡◌, ◌+◌, ◌<◌, ◌≤◌, ◌++◌, ◌⊎◌, Bool, true, false, not, cond}
use Rattle.std.specs.Prelude.{nat_lt, ℤ, pos, negsuc, map, All, Contains, Any}
use Rattle.std.specs.Int.Signed.{lt_z}
use Rattle.std.specs.Ordering.{int_eq}
use Rattle.std.proofs.Common.{refl, sym, ap, ap₂, ◌∙◌, subst, inl, inr, arith}
use Rattle.std.proofs.lemmas.Bool.{lt-ltb, le-ltb, ltb-false, ltb-true}
use Rattle.std.proofs.lemmas.Bool.Decides.{Decides-int_eq}
use Rattle.std.proofs.lemmas.List.Elements.{All-head, All-tail, Contains-append_left, Contains-append_right, All-nil}
use Rattle.std.proofs.lemmas.List.Elements.{All-cons, All-contains}
use Rattle.djq_model.specs.declared.value.Value.{Value}
use Rattle.djq_model.specs.declared.value.Value.TheVariants.{Int, Text}
use Rattle.djq_model.specs.declared.query.Operator.{Operator}
use Rattle.djq_model.specs.declared.query.Operator.TheVariants.{Less, LessOrEqual, Greater, GreaterOrEqual, Equal}
use Rattle.djq_model.specs.declared.query.Operator.TheVariants.{NotEqual}
use Rattle.djq_model.specs.declared.query.Comparison.{Comparison}
use Rattle.djq_model.specs.declared.relation.Relation.{Relation}
use Rattle.djq_model.specs.declared.query.Query.{Query}
use Rattle.djq_model.specs.declared.query.Atom.{Atom}
use Rattle.djq_model.specs.declared.query.Term.{Term}
use Rattle.djq_model.specs.declared.query.Term.TheVariants.{Variable, Hole, Constant}
use Rattle.djq_model.specs.Data.{Bytes, bytes_eq, value_eq, Tuple, rows_of}
use Rattle.djq_model.specs.Answer.{Assignment, compares, HoldsOf, StandForAll, Satisfies, IsAnswer}
use Rattle.djq_model.specs.Equality.{bytes_eq-decides, value_eq-decides}
use Rattle.djq_model.specs.Listed.{a_query, a_union}
use Rattle.djq_answer_laws.specs.Decided.{Decided, AnswersAreDecided}
use Rattle.djq_answer_laws.proofs.Lists.{nothing_there, first_or_later, first_there, later_there, hold_each, some_one}
use Rattle.djq_answer_laws.proofs.Lists.{one_there}

-- ---- A variable that comparisons alone bind: where any value passes them, one of finitely many does.

-- how far a number is from zero
abbrev size : Value → ℕ
size (Int (pos n)) = n
size (Int (negsuc n)) = suc n
size (Text t) = 0

-- a number that is further from zero than each constant
abbrev past : List Comparison → ℕ
past [] = 0
past (c ∷ cs) = suc (size c.constant) + past cs

-- A comparison with a number, by how two numbers stand to each other.
by_order : Operator → Bool → Bool → Bool → Bool
by_order Less same less greater = less
by_order LessOrEqual same less greater = not greater
by_order Greater same less greater = greater
by_order GreaterOrEqual same less greater = not less
by_order Equal same less greater = same
by_order NotEqual same less greater = not same

is_by_order : (o : Operator) (i j : ℤ) → compares o (Int i) (Int j) ≡ by_order o (int_eq i j) (lt_z i j) (lt_z j i)
unfolding by_order
is_by_order Less i j = refl
is_by_order LessOrEqual i j = refl
is_by_order Greater i j = refl
is_by_order GreaterOrEqual i j = refl
is_by_order Equal i j = refl
is_by_order NotEqual i j = refl

-- two numbers that stand to a third alike
alike : (o : Operator) (i k j : ℤ) → int_eq i j ≡ int_eq k j → lt_z i j ≡ lt_z k j → lt_z j i ≡ lt_z j k
    → compares o (Int i) (Int j) ≡ compares o (Int k) (Int j)
alike o i k j e l g =
    is_by_order o i j
    ∙ ap₂ (λ (x y : Bool). by_order o x y (lt_z j i)) e l
    ∙ ap (λ (z : Bool). by_order o (int_eq k j) (lt_z k j) z) g
    ∙ sym (is_by_order o k j)

-- to a text all numbers stand alike
beside_text : (o : Operator) (i k : ℤ) (t : Bytes) → compares o (Int i) (Text t) ≡ compares o (Int k) (Text t)
beside_text Less i k t = refl
beside_text LessOrEqual i k t = refl
beside_text Greater i k t = refl
beside_text GreaterOrEqual i k t = refl
beside_text Equal i k t = refl
beside_text NotEqual i k t = refl

unequal : (i j : ℤ) → (i ≡ j → ⊥) → int_eq i j ≡ false
unequal i j apart = step (int_eq i j) refl
  where
    step : (b : Bool) → int_eq i j ≡ b → b ≡ false
    step true e = absurd (apart ((Decides-int_eq i j).0 e))
    step false e = refl

above : (n : ℕ) (j : ℤ) → size (Int j) < n → (int_eq (pos n) j ≡ false) × (lt_z (pos n) j ≡ false)
    × (lt_z j (pos n) ≡ true)
above n (pos k) far = (
  unequal (pos n) (pos k) (λ e. let same : n ≡ k = cc in absurd (omega (arith, far, same))),
  le-ltb n k (omega (arith, far)),
  lt-ltb k n far,
)
above n (negsuc k) far = (unequal (pos n) (negsuc k) (λ e. absurd cc), refl, refl)

below : (n : ℕ) (j : ℤ) → size (Int j) < suc n → (int_eq (negsuc n) j ≡ false) × (lt_z (negsuc n) j ≡ true)
    × (lt_z j (negsuc n) ≡ false)
below n (pos k) far = (unequal (negsuc n) (pos k) (λ e. absurd cc), refl, refl)
below n (negsuc k) far = (
  unequal (negsuc n) (negsuc k) (λ e. let same : n ≡ k = cc in absurd (omega (arith, far, same))),
  lt-ltb k n (omega (arith, far)),
  le-ltb n k (omega (arith, far)),
)

-- All numbers above a constant stand to it alike, ..
above_alike : (o : Operator) (n m : ℕ) (c : Value) → size c < n → size c < m
    → compares o (Int (pos n)) c ≡ compares o (Int (pos m)) c
above_alike o n m (Int j) fn fm =
    let a = above n j fn in
    let b = above m j fm in
    alike o (pos n) (pos m) j (a.0 ∙ sym b.0) (a.1 ∙ sym b.1) (a.2 ∙ sym b.2)
above_alike o n m (Text t) fn fm = beside_text o (pos n) (pos m) t

-- .. and all below it.
below_alike : (o : Operator) (n m : ℕ) (c : Value) → size c < suc n → size c < suc m
    → compares o (Int (negsuc n)) c ≡ compares o (Int (negsuc m)) c
below_alike o n m (Int j) fn fm =
    let a = below n j fn in
    let b = below m j fm in
    alike o (negsuc n) (negsuc m) j (a.0 ∙ sym b.0) (a.1 ∙ sym b.1) (a.2 ∙ sym b.2)
below_alike o n m (Text t) fn fm = beside_text o (negsuc n) (negsuc m) t

-- What holds of a text that is another one than the constant holds of a number above it.
for_text : (o : Operator) (t : Bytes) (c : Value) (n : ℕ) → size c < n → value_eq (Text t) c ≡ false
    → compares o (Text t) c ≡ true → compares o (Int (pos n)) c ≡ true
for_text Equal t c n far apart h = absurd (cc (h, apart))
for_text NotEqual t (Int j) n far apart h = ap not (above n j far).0
for_text NotEqual t (Text s) n far apart h = refl
for_text Less t (Int j) n far apart h = absurd cc
for_text Less t (Text s) n far apart h = absurd cc
for_text LessOrEqual t (Int j) n far apart h = absurd cc
for_text LessOrEqual t (Text s) n far apart h = absurd cc
for_text Greater t (Int j) n far apart h = absurd cc
for_text Greater t (Text s) n far apart h = absurd cc
for_text GreaterOrEqual t (Int j) n far apart h = absurd cc
for_text GreaterOrEqual t (Text s) n far apart h = absurd cc

-- whether a value of a variable passes the comparisons on it
abbrev passes : Comparison → Bytes → Value → Bool
passes c x v = cond (bytes_eq c.variable x) (compares c.operator v c.constant) true

abbrev suits : List Comparison → Bytes → Value → Bool
suits [] x v = true
suits (c ∷ cs) x v = cond (passes c x v) (suits cs x v) false

both : (a b : Bool) → cond a b false ≡ true → (a ≡ true) × (b ≡ true)
both true b h = (refl, h)
both false b h = absurd cc

suits_above : (cs : List Comparison) (x : Bytes) (n m : ℕ) → past cs ≤ n → past cs ≤ m
    → suits cs x (Int (pos n)) ≡ suits cs x (Int (pos m))
suits_above [] x n m fn fm = refl
suits_above (c ∷ cs) x n m fn fm =
    ap₂ (λ (a b : Bool). cond (cond (bytes_eq c.variable x) a true) b false)
    (above_alike c.operator n m c.constant (omega (arith, fn)) (omega (arith, fm)))
    (suits_above cs x n m (omega (arith, fn)) (omega (arith, fm)))

suits_below : (cs : List Comparison) (x : Bytes) (n m : ℕ) → past cs ≤ n → past cs ≤ m
    → suits cs x (Int (negsuc n)) ≡ suits cs x (Int (negsuc m))
suits_below [] x n m fn fm = refl
suits_below (c ∷ cs) x n m fn fm =
    ap₂ (λ (a b : Bool). cond (cond (bytes_eq c.variable x) a true) b false)
    (below_alike c.operator n m c.constant (omega (arith, fn)) (omega (arith, fm)))
    (suits_below cs x n m (omega (arith, fn)) (omega (arith, fm)))

abbrev constants : List Comparison → List Value
constants cs = map (λ (c : Comparison). c.constant) cs

-- A text is a constant, or a number suits where it does.
suits_text : (cs : List Comparison) (x t : Bytes) (n : ℕ) → past cs ≤ n → suits cs x (Text t) ≡ true
    → Contains (constants cs) (Text t) ⊎ (suits cs x (Int (pos n)) ≡ true)
suits_text [] x t n far h = inr refl
suits_text (c ∷ cs) x t n far h =
    let parts = both (passes c x (Text t)) (suits cs x (Text t)) h in
    step (value_eq (Text t) c.constant) refl parts.0 (suits_text cs x t n (omega (arith, far)) parts.1)
  where
    number : (b : Bool) → value_eq (Text t) c.constant ≡ false
        → cond b (compares c.operator (Text t) c.constant) true ≡ true
        → cond b (compares c.operator (Int (pos n)) c.constant) true ≡ true
    number true apart p = for_text c.operator t c.constant n (omega (arith, far)) apart p
    number false apart p = refl

    step : (b : Bool) → value_eq (Text t) c.constant ≡ b → passes c x (Text t) ≡ true
        → Contains (constants cs) (Text t) ⊎ (suits cs x (Int (pos n)) ≡ true)
        → Contains (constants (c ∷ cs)) (Text t) ⊎ (suits (c ∷ cs) x (Int (pos n)) ≡ true)
    step true e p more =
        inl (first_there c.constant (constants cs) (Text t) (sym ((value_eq-decides (Text t) c.constant).0 e)))
    step false e p (inl k) = inl (later_there c.constant (constants cs) (Text t) k)
    step false e p (inr s) = inr (ap₂ (λ (a b : Bool). cond a b false) (number (bytes_eq c.variable x) e p) s)

-- The values to try: the constants, and the numbers as far as the first that is past them.
abbrev numbers : ℕ → List Value
numbers zero = Int (pos 0) ∷ Int (negsuc 0) ∷ []
numbers (suc n) = Int (pos (suc n)) ∷ Int (negsuc (suc n)) ∷ numbers n

abbrev to_try : List Comparison → List Value
to_try cs = constants cs ++ numbers (past cs)

number_there : (v : ℕ → Value) → ((n : ℕ) → Contains (numbers n) (v n)) → (n m : ℕ) → n ≤ m
    → Contains (numbers m) (v n)
number_there v there n zero within =
    let e : n ≡ 0 = omega (arith, within) in
    subst (λ (k : ℕ). Contains (numbers 0) (v k)) (sym e) (there 0)
number_there v there n (suc m) within = step (nat_lt n (suc m)) refl (λ le. number_there v there n m le)
  where
    step : (b : Bool) → nat_lt n (suc m) ≡ b → (n ≤ m → Contains (numbers m) (v n)) → Contains (numbers (suc m)) (v n)
    step true e more =
        later_there (Int (pos (suc m))) (Int (negsuc (suc m)) ∷ numbers m) (v n)
        (later_there (Int (negsuc (suc m))) (numbers m) (v n)
        (more (let lt : n < suc m = ltb-true n (suc m) e in omega (arith, lt))))
    step false e more =
        let same : suc m ≡ n = (let ge : suc m ≤ n = ltb-false n (suc m) e in omega (arith, ge, within)) in
        subst (λ (k : ℕ). Contains (numbers (suc m)) (v k)) same (there (suc m))

last_above : (n : ℕ) → Contains (numbers n) (Int (pos n))
last_above zero = first_there (Int (pos 0)) (Int (negsuc 0) ∷ []) (Int (pos 0)) refl
last_above (suc n) = first_there (Int (pos (suc n))) (Int (negsuc (suc n)) ∷ numbers n) (Int (pos (suc n))) refl

last_below : (n : ℕ) → Contains (numbers n) (Int (negsuc n))
last_below zero =
    later_there (Int (pos 0)) (Int (negsuc 0) ∷ []) (Int (negsuc 0))
    (first_there (Int (negsuc 0)) [] (Int (negsuc 0)) refl)
last_below (suc n) =
    later_there (Int (pos (suc n))) (Int (negsuc (suc n)) ∷ numbers n) (Int (negsuc (suc n)))
    (first_there (Int (negsuc (suc n))) (numbers n) (Int (negsuc (suc n))) refl)

-- the first of these values that passes a test; some value where none does
abbrev tried : (Value → Bool) → List Value → Value
tried p [] = Int (pos 0)
tried p (v ∷ vs) = cond (p v) v (tried p vs)

tried_passes : (p : Value → Bool) (vs : List Value) (v : Value) → Contains vs v → p v ≡ true
    → p (tried p vs) ≡ true
tried_passes p [] v k h = absurd (nothing_there v k)
tried_passes p (w ∷ vs) v k h = step (p w) refl (first_or_later w vs v k) (λ c. tried_passes p vs v c h)
  where
    step : (b : Bool) → p w ≡ b → (w ≡ v) ⊎ Contains vs v → (Contains vs v → p (tried p vs) ≡ true)
        → p (cond b w (tried p vs)) ≡ true
    step true e o more = e
    step false e (inl same) more = let so : p w ≡ true = ap p same ∙ h in absurd (cc (so, e))
    step false e (inr c) more = more c

-- The value that a variable is given where nothing else binds it.
pub pick : List Comparison → Assignment
pick cs x = tried (suits cs x) (to_try cs)

picked_number : (cs : List Comparison) (x : Bytes) (v : ℕ → Value) → ((n : ℕ) → Contains (numbers n) (v n))
    → ((n : ℕ) → past cs ≤ n → suits cs x (v n) ≡ suits cs x (v (past cs))) → (n : ℕ)
    → suits cs x (v n) ≡ true → suits cs x (pick cs x) ≡ true
unfolding pick
picked_number cs x v there far n h = step (nat_lt (past cs) n) refl
  where
    by : (m : ℕ) → m ≤ past cs → suits cs x (v m) ≡ true → suits cs x (tried (suits cs x) (to_try cs)) ≡ true
    by m within s =
        tried_passes (suits cs x) (to_try cs) (v m)
        (Contains-append_right (constants cs) (numbers (past cs)) (v m) (number_there v there m (past cs) within)) s

    step : (b : Bool) → nat_lt (past cs) n ≡ b → suits cs x (tried (suits cs x) (to_try cs)) ≡ true
    step true e =
        let lt : past cs < n = ltb-true (past cs) n e in
        by (past cs) (omega arith) (sym (far n (omega (arith, lt))) ∙ h)
    step false e = by n (ltb-false (past cs) n e) h

-- Where any value suits, it does.
picked : (cs : List Comparison) (x : Bytes) (v : Value) → suits cs x v ≡ true → suits cs x (pick cs x) ≡ true
unfolding pick
picked cs x (Int (pos n)) h =
    picked_number cs x (λ m. Int (pos m)) last_above (λ m far. suits_above cs x m (past cs) far (omega arith)) n h
picked cs x (Int (negsuc n)) h =
    picked_number cs x (λ m. Int (negsuc m)) last_below (λ m far. suits_below cs x m (past cs) far (omega arith)) n h
picked cs x (Text t) h = step (suits_text cs x t (past cs) (omega arith) h)
  where
    step : Contains (constants cs) (Text t) ⊎ (suits cs x (Int (pos (past cs))) ≡ true)
        → suits cs x (tried (suits cs x) (to_try cs)) ≡ true
    step (inl k) =
        tried_passes (suits cs x) (to_try cs) (Text t)
        (Contains-append_left (constants cs) (numbers (past cs)) (Text t) k) h
    step (inr s) =
        tried_passes (suits cs x) (to_try cs) (Int (pos (past cs)))
        (Contains-append_right (constants cs) (numbers (past cs)) (Int (pos (past cs))) (last_above (past cs))) s

-- An assignment of which comparisons hold gives each variable a value that suits.
suits_all : (a : Assignment) (cs : List Comparison) (x : Bytes) → All (HoldsOf a) cs → suits cs x (a x) ≡ true
suits_all a [] x h = refl
suits_all a (c ∷ cs) x h =
    ap₂ (λ (p q : Bool). cond p q false) (step (bytes_eq c.variable x) refl)
    (suits_all a cs x (All-tail (HoldsOf a) c cs h))
  where
    step : (b : Bool) → bytes_eq c.variable x ≡ b → cond b (compares c.operator (a x) c.constant) true ≡ true
    step true e =
        ap (λ (y : Bytes). compares c.operator (a y) c.constant) (sym ((bytes_eq-decides c.variable x).0 e))
        ∙ All-head (HoldsOf a) c cs h
    step false e = refl

suited : (cs : List Comparison) (c : Comparison) (v : Value) → Contains cs c → suits cs c.variable v ≡ true
    → compares c.operator v c.constant ≡ true
suited [] c v k h = absurd (nothing_there c k)
suited (d ∷ cs) c v k h =
    let parts = both (passes d c.variable v) (suits cs c.variable v) h in
    step (first_or_later d cs c k) parts.0 (λ l. suited cs c v l parts.1)
  where
    itself : (b : Bool) → bytes_eq c.variable c.variable ≡ b → cond b (compares c.operator v c.constant) true ≡ true
        → compares c.operator v c.constant ≡ true
    itself true e p = p
    itself false e p =
        let so : bytes_eq c.variable c.variable ≡ true = (bytes_eq-decides c.variable c.variable).1 refl in
        absurd (cc (so, e))

    step : (d ≡ c) ⊎ Contains cs c → passes d c.variable v ≡ true
        → (Contains cs c → compares c.operator v c.constant ≡ true)
        → compares c.operator v c.constant ≡ true
    step (inl same) p more =
        itself (bytes_eq c.variable c.variable) refl
        (subst (λ (e : Comparison). passes e c.variable v ≡ true) same p)
    step (inr l) p more = more l

-- So where comparisons hold of an assignment, each holds of what is picked for its variable.
pub picked_holds : (a : Assignment) (cs : List Comparison) (c : Comparison) → All (HoldsOf a) cs → Contains cs c
    → HoldsOf (pick cs) c
picked_holds a cs c h k =
    suited cs c (pick cs c.variable) k (picked cs c.variable (a c.variable) (suits_all a cs c.variable h))

-- ---- Whether a tuple is an answer is decided: of a query, one of finitely many choices of rows shows it, or none
-- does; of a union it is decided for each member.

decided_as : {A B : Type 0} → (A → B) → (B → A) → Decided A → Decided B
decided_as to back (inl a) = inl (to a)
decided_as to back (inr never) = inr (λ b. never (back b))

-- a variable and its value
abbrev Binding : Type 0
Binding = Bytes × Value

-- An assignment gives each of these variables its value.
abbrev Holds : Assignment → List Binding → Type 0
Holds a [] = Unit {0}
Holds a (b ∷ bs) = (a b.0 ≡ b.1) × Holds a bs

-- There is such an assignment, of which something else holds too.
record Sat (P : Assignment → Type 0) (bs : List Binding) : Type 0 where
  assignment : Assignment
  holds : Holds assignment bs
  rest : P assignment

-- the assignment of the first values, and of others where there are none
bound : Assignment → List Binding → Assignment
bound others [] x = others x
bound others (b ∷ bs) x = cond (bytes_eq b.0 x) b.1 (bound others bs x)

behind_first : (a : Assignment) (b : Binding) (f : Assignment) (bs : List Binding) → a b.0 ≡ b.1 → Holds a bs
    → Holds f bs
    → Holds (λ x. cond (bytes_eq b.0 x) b.1 (f x)) bs
behind_first a b f [] h k l = tt
behind_first a b f (c ∷ cs) h k l = (step (bytes_eq b.0 c.0) refl, behind_first a b f cs h k.1 l.1)
  where
    step : (t : Bool) → bytes_eq b.0 c.0 ≡ t → cond t b.1 (f c.0) ≡ c.1
    step true e = sym h ∙ ap a ((bytes_eq-decides b.0 c.0).0 e) ∙ k.0
    step false e = l.0

-- where there is one, the assignment of the first values is one
bound_holds : (others a : Assignment) (bs : List Binding) → Holds a bs → Holds (bound others bs) bs
unfolding bound
bound_holds others a [] h = tt
bound_holds others a (b ∷ bs) h =
    let same : bytes_eq b.0 b.0 ≡ true = (bytes_eq-decides b.0 b.0).1 refl in (
      ap (λ t. cond t b.1 (bound others bs b.0)) same,
      behind_first a b (bound others bs) bs h.0 h.1
          (bound_holds others a bs h.1),
    )

-- and it has each value from there or from the others
bound_is : (others a : Assignment) (bs : List Binding) (x : Bytes) → Holds a bs
    → (a x ≡ bound others bs x) ⊎ (others x ≡ bound others bs x)
unfolding bound
bound_is others a [] x h = inr refl
bound_is others a (b ∷ bs) x h = step (bytes_eq b.0 x) refl (bound_is others a bs x h.1)
  where
    step : (t : Bool) → bytes_eq b.0 x ≡ t → (a x ≡ bound others bs x) ⊎ (others x ≡ bound others bs x)
        → (a x ≡ cond t b.1 (bound others bs x)) ⊎ (others x ≡ cond t b.1 (bound others bs x))
    step true e o = inl (sym (ap a ((bytes_eq-decides b.0 x).0 e)) ∙ h.0)
    step false e o = o

holds_decided : (a : Assignment) (bs : List Binding) → Decided (Holds a bs)
holds_decided a [] = inl tt
holds_decided a (b ∷ bs) = step (value_eq (a b.0) b.1) refl (holds_decided a bs)
  where
    step : (t : Bool) → value_eq (a b.0) b.1 ≡ t → Decided (Holds a bs) → Decided (Holds a (b ∷ bs))
    step true e d = decided_as (λ h. ((value_eq-decides (a b.0) b.1).0 e, h)) (λ h. h.1) d
    step false e d = inr (λ h. let yes : value_eq (a b.0) b.1
        ≡ true = (value_eq-decides (a b.0) b.1).1 h.0 in absurd (cc (yes, e)))

-- Where what else holds is decided under any values, it is with the terms of an atom against a row, ..
module _ (P : Assignment → Type 0) (decided : (bs : List Binding) → Decided (Sat P bs)) where
  terms_decided : (terms : List Term) (row : Tuple) (bs : List Binding)
      → Decided (Sat (λ a. StandForAll a terms row × P a) bs)
  terms_decided [] [] bs =
      decided_as (λ s. record { assignment = s.assignment; holds = s.holds; rest = (tt, s.rest) })
      (λ s. record { assignment = s.assignment; holds = s.holds; rest = s.rest.1 }) (decided bs)
  terms_decided [] (v ∷ vs) bs = inr (λ s. absurd s.rest.0)
  terms_decided (t ∷ ts) [] bs = inr (λ s. absurd s.rest.0)
  terms_decided (Variable x ∷ ts) (v ∷ vs) bs =
      decided_as (λ s. record
      { assignment = s.assignment; holds = s.holds.1; rest = ((s.holds.0, s.rest.0), s.rest.1) })
      (λ s. record { assignment = s.assignment; holds = (s.rest.0.0, s.holds); rest = (s.rest.0.1, s.rest.1) })
      (terms_decided ts vs ((x, v) ∷ bs))
  terms_decided (Hole ∷ ts) (v ∷ vs) bs =
      decided_as (λ s. record { assignment = s.assignment; holds = s.holds; rest = ((tt, s.rest.0), s.rest.1) })
      (λ s. record { assignment = s.assignment; holds = s.holds; rest = (s.rest.0.1, s.rest.1) })
      (terms_decided ts vs bs)
  terms_decided (Constant c ∷ ts) (v ∷ vs) bs = step (value_eq c v) refl (terms_decided ts vs bs)
    where
      step : (t : Bool) → value_eq c v ≡ t → Decided (Sat (λ a. StandForAll a ts vs × P a) bs)
          → Decided (Sat (λ a. StandForAll a (Constant c ∷ ts) (v ∷ vs) × P a) bs)
      step true e d =
          decided_as (λ s. record
          { assignment = s.assignment; holds = s.holds; rest = (((value_eq-decides c v).0 e, s.rest.0), s.rest.1) })
          (λ s. record { assignment = s.assignment; holds = s.holds; rest = (s.rest.0.1, s.rest.1) }) d
      step false e d = inr (λ s. let yes : value_eq c v
          ≡ true = (value_eq-decides c v).1 s.rest.0.0 in absurd (cc (yes, e)))

  -- .. with those of an atom against some row, ..
  abbrev RowFor : List Term → List Tuple → Assignment → Type 0
  RowFor terms rows a = (row : Tuple) × Contains rows row × StandForAll a terms row

  rows_decided : (terms : List Term) (rows : List Tuple) (bs : List Binding)
      → Decided (Sat (λ a. RowFor terms rows a × P a) bs)
  rows_decided terms [] bs = inr (λ s. nothing_there s.rest.0.0 s.rest.0.1)
  rows_decided terms (r ∷ rs) bs = step (terms_decided terms r bs) (rows_decided terms rs bs)
    where
      later : (a : Assignment) → RowFor terms rs a × P a → RowFor terms (r ∷ rs) a × P a
      later a h = ((h.0.0, later_there r rs h.0.0 h.0.1, h.0.2), h.1)

      either : (s : Sat (λ a. RowFor terms (r ∷ rs) a × P a) bs) → (r ≡ s.rest.0.0) ⊎ Contains rs s.rest.0.0
          → Sat (λ a. StandForAll a terms r × P a) bs ⊎ Sat (λ a. RowFor terms rs a × P a) bs
      either s (inl e) = inl
          (record { assignment = s.assignment; holds = s.holds; rest = (rw e (s.rest.0.2), s.rest.1) })
      either s (inr c) = inr
          (record { assignment = s.assignment; holds = s.holds; rest = ((s.rest.0.0, c, s.rest.0.2), s.rest.1) })

      neither : {A B : Type 0} → (A → ⊥) → (B → ⊥) → A ⊎ B → ⊥
      neither f g (inl a) = f a
      neither f g (inr b) = g b

      step : Decided (Sat (λ a. StandForAll a terms r × P a) bs) → Decided (Sat (λ a. RowFor terms rs a × P a) bs)
          → Decided (Sat (λ a. RowFor terms (r ∷ rs) a × P a) bs)
      step (inl s) d = inl (record
          { assignment = s.assignment; holds = s.holds; rest = ((r, first_there r rs r refl, s.rest.0), s.rest.1) })
      step (inr never) (inl s) = inl
          (record { assignment = s.assignment; holds = s.holds; rest = later s.assignment s.rest })
      step (inr never) (inr none) = inr (λ s. neither never none (either s (first_or_later r rs s.rest.0.0 s.rest.0.1)))

  -- .. and with a tuple against the head
  head_decided : (head : List Bytes) (t : Tuple) (bs : List Binding) → Decided (Sat (λ a. (t ≡ map a head) × P a) bs)
  head_decided [] [] bs =
      decided_as (λ s. record { assignment = s.assignment; holds = s.holds; rest = (refl, s.rest) })
      (λ s. record { assignment = s.assignment; holds = s.holds; rest = s.rest.1 }) (decided bs)
  head_decided [] (v ∷ vs) bs = inr (λ s. let e = s.rest.0 in absurd cc)
  head_decided (x ∷ xs) [] bs = inr (λ s. let e = s.rest.0 in absurd cc)
  head_decided (x ∷ xs) (v ∷ vs) bs =
      decided_as (λ s. record {
        assignment = s.assignment;
        holds = s.holds.1;
        rest =
            (ap₂ (λ (w : Value) (ws : Tuple). w ∷ ws) (sym s.holds.0) s.rest.0, s.rest.1);
      })
      (λ s. record {
        assignment = s.assignment;
        holds = (first_of s.assignment s.rest.0, s.holds);
        rest =
            (rest_of s.assignment s.rest.0, s.rest.1);
      })
      (head_decided xs vs ((x, v) ∷ bs))
    where
      first_of : (a : Assignment) → v ∷ vs ≡ a x ∷ map a xs → a x ≡ v
      first_of a e = cc

      rest_of : (a : Assignment) → v ∷ vs ≡ a x ∷ map a xs → vs ≡ map a xs
      rest_of a e = cc

-- Whether there is an assignment of which comparisons hold is decided: a value that the first values don't give is
-- picked.
compared_hold : (a : Assignment) (cs : List Comparison) (bs : List Binding) → Holds a bs → All (HoldsOf a) cs
    → All (HoldsOf (bound (pick cs) bs)) cs
compared_hold a cs bs h k = hold_each (HoldsOf (bound (pick cs) bs)) cs
    (λ c there. step c there (bound_is (pick cs) a bs c.variable h))
  where
    step : (c : Comparison) → Contains cs c
        → (a c.variable ≡ bound (pick cs) bs c.variable) ⊎ (pick cs c.variable ≡ bound (pick cs) bs c.variable)
        → HoldsOf (bound (pick cs) bs) c
    step c there (inl e) = ap (λ (v : Value). compares c.operator v c.constant) (sym e)
        ∙ All-contains (HoldsOf a) cs c k there
    step c there (inr e) = ap (λ (v : Value). compares c.operator v c.constant) (sym e) ∙ picked_holds a cs c k there

all_decided : (a : Assignment) (cs : List Comparison) → Decided (All (HoldsOf a) cs)
all_decided a [] = inl (All-nil (HoldsOf a))
all_decided a (c ∷ cs) = step (compares c.operator (a c.variable) c.constant) refl (all_decided a cs)
  where
    step : (t : Bool) → compares c.operator (a c.variable) c.constant ≡ t → Decided (All (HoldsOf a) cs)
        → Decided (All (HoldsOf a) (c ∷ cs))
    step true e d = decided_as (λ h. All-cons (HoldsOf a) c cs e h) (λ h. All-tail (HoldsOf a) c cs h) d
    step false e d = inr (λ h. let yes : compares c.operator (a c.variable) c.constant
        ≡ true = All-head (HoldsOf a) c cs h in absurd (cc (yes, e)))

comparisons_decided : (cs : List Comparison) (bs : List Binding) → Decided (Sat (λ a. All (HoldsOf a) cs) bs)
comparisons_decided cs bs = step (holds_decided (bound (pick cs) bs) bs) (all_decided (bound (pick cs) bs) cs)
  where
    step : Decided (Holds (bound (pick cs) bs) bs) → Decided (All (HoldsOf (bound (pick cs) bs)) cs)
        → Decided (Sat (λ a. All (HoldsOf a) cs) bs)
    step (inl h) (inl k) = inl (record { assignment = bound (pick cs) bs; holds = h; rest = k })
    step (inl h) (inr never) = inr (λ s. never (compared_hold s.assignment cs bs s.holds s.rest))
    step (inr never) d = inr (λ s. never (bound_holds (pick cs) s.assignment bs s.holds))

atoms_decided : (relations : List Relation) (cs : List Comparison) (atoms : List Atom) (bs : List Binding)
    → Decided (Sat (λ a. All (Satisfies relations a) atoms × All (HoldsOf a) cs) bs)
atoms_decided relations cs [] bs =
    decided_as (λ s. record
    { assignment = s.assignment; holds = s.holds; rest = (All-nil (Satisfies relations s.assignment), s.rest) })
    (λ s. record { assignment = s.assignment; holds = s.holds; rest = s.rest.1 }) (comparisons_decided cs bs)
atoms_decided relations cs (a ∷ more) bs =
    decided_as
    (λ s. record {
      assignment = s.assignment;
      holds = s.holds;
      rest = (
        All-cons (Satisfies relations s.assignment) a more
            (record { row = s.rest.0.0; is_there = s.rest.0.1; stands = s.rest.0.2 }) s.rest.1.0,
        s.rest.1.1,
      );
    })
    (λ s. let first = All-head (Satisfies relations s.assignment) a more s.rest.0 in
    record {
      assignment = s.assignment;
      holds = s.holds;
      rest = (
        (first.row, first.is_there, first.stands),
        (All-tail (Satisfies relations s.assignment) a more s.rest.0, s.rest.1),
      );
    })
    (rows_decided (λ f. All (Satisfies relations f) more × All (HoldsOf f) cs)
    (λ ds. atoms_decided relations cs more ds) a.terms
    (rows_of relations a.relation) bs)

pub query_decided : (relations : List Relation) (q : Query) (t : Tuple) → Decided (IsAnswer relations q t)
query_decided relations q t =
    decided_as (λ s. record
    { assignment = s.assignment; satisfies = s.rest.1.0; compared = s.rest.1.1; on_head = s.rest.0 })
    (λ h. record { assignment = h.assignment; holds = tt; rest = (h.on_head, (h.satisfies, h.compared)) })
    (head_decided (λ f. All (Satisfies relations f) q.atoms × All (HoldsOf f) q.comparisons)
    (λ bs. atoms_decided relations q.comparisons q.atoms bs) q.head t [])

-- Whether some of a list has it is decided where it is of each.
any_decided : {A : Type 0} (P : A → Type 0) → ((x : A) → Decided (P x)) → (xs : List A) → Decided (Any P xs)
any_decided P decided [] = inr (λ h. let o = some_one P [] h in nothing_there o.0 o.1)
any_decided {A = A} P decided (x ∷ xs) = step (decided x) (any_decided P decided xs)
  where
    step : Decided (P x) → Decided (Any P xs) → Decided (Any P (x ∷ xs))
    step (inl h) d = inl (one_there P (x ∷ xs) x (first_there x xs x refl) h)
    step (inr never) (inl k) = let o = some_one P xs k in inl (one_there P (x ∷ xs) o.0 (later_there x xs o.0 o.1) o.2)
    step (inr never) (inr none) =
        inr (λ h. let o = some_one P (x ∷ xs) h in either o.0 o.2 (first_or_later x xs o.0 o.1))
      where
        either : (y : A) → P y → (x ≡ y) ⊎ Contains xs y → ⊥
        either y h (inl e) = never (subst P (sym e) h)
        either y h (inr c) = none (one_there P xs y c h)

pub answers_are_decided : AnswersAreDecided
answers_are_decided relations (a_query q) t = query_decided relations q t
answers_are_decided relations (a_union name qs) t =
    any_decided (λ (q : Query). IsAnswer relations q t) (λ (q : Query). query_decided relations q t) qs
