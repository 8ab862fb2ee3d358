-- What all needs of a knot are met for lives.
use Rattle.std.specs.Prelude.{◌≡◌, ◌⊎◌, ℕ, zero, suc, ◌<◌, Bool, true, false, not, ◌==◌, ◌&&◌, ◌||◌}
use Rattle.std.specs.Prelude.{List, [], ◌∷◌, length}
use Rattle.std.specs.List.{count_by}
use Rattle.std.proofs.lemmas.List.Sums.{sum_by-cons}
use Rattle.std.proofs.Common.{refl, sym, ◌∙◌, ap, subst, arith, inl, inr}
use Rattle.std.proofs.lemmas.Bool.{cases_eq, eq-eqb, ne_eqb}
use Rattle.djq_arena.specs.Chains.{AreBelow}
use Rattle.djq_arena.proofs.Chains.{below_here}
use Rattle.djq_hypergraph.specs.Hypergraph.{member, one}
use Rattle.djq_forest.specs.Forest.{Edge, Forest, nth_edge, has_entry, missing_at}
use Rattle.djq_forest.specs.Forest.{lives}
use Rattle.djq_forest.specs.Shape.{is_need}
use Rattle.djq_forest.specs.Invariants.{IsForest, gives, unmet}
use Rattle.djq_forest.specs.Fold.{AreAllNeeds}
use Rattle.djq_forest.specs.Fold.{meets_needs}
use Rattle.djq_forest.proofs.TieChanges.{member_held}

pub or_true : (a b : Bool) → b ≡ true → (a || b) ≡ true
or_true true b h = refl
or_true false b h = h

pub and_true : (b : Bool) → (b && true) ≡ b
and_true true = refl
and_true false = refl

pub and_swap : (a b : Bool) → (a && b) ≡ (b && a)
and_swap true b = sym (and_true b)
and_swap false true = refl
and_swap false false = refl

pub untrue : (b : Bool) → (b ≡ true → ⊥) → b ≡ false
untrue true h = absurd (h refl)
untrue false h = refl

pub member_or : (j i : ℕ) (is : List ℕ) → member j (i ∷ is) ≡ true → (j ≡ i) ⊎ (member j is ≡ true)
member_or j i is h = elim (cases_eq j i) [
  | inl here ↦ inl here
  | inr other ↦ inr (rw (ne_eqb j i other) at h)
]

pub and_left : (a b : Bool) → (a && b) ≡ true → a ≡ true
and_left true b h = refl
and_left false b h = absurd cc

pub and_right : (a b : Bool) → (a && b) ≡ true → b ≡ true
and_right true b h = h
and_right false b h = absurd cc

pub met_each : (f : Forest) (ns : List ℕ) (x j : ℕ) → meets_needs f ns x ≡ true → member j ns ≡ true
    → gives f.knots (nth_edge f.edges j) x ≡ true
met_each f [] x j h m = absurd cc
met_each f (i ∷ is) x j h m =
    elim (member_or j i is m) [
      | inl here ↦ subst (λ (k : ℕ). gives f.knots (nth_edge f.edges k) x ≡ true) (sym here)
          (and_left (gives f.knots (nth_edge f.edges i) x) (meets_needs f is x) h)
      | inr later ↦ met_each f is x j (and_right (gives f.knots (nth_edge f.edges i) x) (meets_needs f is x) h) later
    ]

-- a need that isn't met
pub record Unmet (f : Forest) (ns : List ℕ) (x : ℕ) : Type 0 where
  pub need : ℕ
  pub among : member need ns ≡ true
  pub fails : gives f.knots (nth_edge f.edges need) x ≡ false

pub member_here : (j : ℕ) (js : List ℕ) → member j (j ∷ js) ≡ true
member_here j js = rw (eq-eqb j j refl) refl

pub member_later : (j i : ℕ) (is : List ℕ) → member j is ≡ true → member j (i ∷ is) ≡ true
member_later j i is h = or_true (j == i) (member j is) h

pub unmet_on : (f : Forest) (i : ℕ) (is : List ℕ) (x : ℕ) (b : Bool) → gives f.knots (nth_edge f.edges i) x ≡ b
    → (b && meets_needs f is x) ≡ false → (meets_needs f is x ≡ false → Unmet f is x) → Unmet f (i ∷ is) x
unmet_on f i is x true g h later =
    let u = later h in record { need = u.need; among = member_later u.need i is u.among; fails = u.fails }
unmet_on f i is x false g h later = record { need = i; among = member_here i is; fails = g }

pub unmet_need : (f : Forest) (ns : List ℕ) (x : ℕ) → meets_needs f ns x ≡ false → Unmet f ns x
unmet_need f [] x h = absurd cc
unmet_need f (i ∷ is) x h = unmet_on f i is x (gives f.knots (nth_edge f.edges i) x) refl h (unmet_need f is x)

pub count_none : (test : Edge → Bool) (es : List Edge) → ((j : ℕ) → j < length es → test (nth_edge es j) ≡ false)
    → count_by test es ≡ 0
count_none test [] h = refl
count_none test (e ∷ es) h =
    let here : one (test e) ≡ one false = ap one (h 0 (omega arith)) in
    let rest = count_none test es (λ j l. h (suc j) (omega arith)) in
    omega (arith, sum_by-cons (λ e. one (test e)) e es, here, rest)

pub count_some : (test : Edge → Bool) (es : List Edge) (j : ℕ) → j < length es → test (nth_edge es j) ≡ true
    → 0 < count_by test es
count_some test [] j l h = absurd (omega arith)
count_some test (e ∷ es) zero l h =
    let here : one (test e) ≡ one true = ap one h in omega (arith, sum_by-cons (λ e. one (test e)) e es, here)
count_some test (e ∷ es) (suc j) l h =
    let k = count_some test es j (omega arith) h in omega (arith, sum_by-cons (λ e. one (test e)) e es, k)

pub need_within : (es : List Edge) (k j : ℕ) (ns : List ℕ) → AreAllNeeds es k ns → member j ns ≡ true → j < length es
need_within es k j ns a m =
    let held = member_held j ns m in
    below_here (length es) held.front j held.back (subst (AreBelow (length es)) held.is a.below)

pub test_off : (a b : Bool) → (a ≡ true → b ≡ true) → (a && not b) ≡ false
test_off true b h = rw (h refl) refl
test_off false b h = refl

pub met_none : (f : Forest) (k x : ℕ) (ns : List ℕ) → AreAllNeeds f.edges k ns → meets_needs f ns x ≡ true → unmet f k x ≡ 0
met_none f k x ns a h = count_none (λ e. is_need k e && not (gives f.knots e x)) f.edges
    (λ j l. test_off (is_need k (nth_edge f.edges j)) (gives f.knots (nth_edge f.edges j) x)
    (λ need. met_each f ns x j h (sym (a.all j l) ∙ need)))

pub unmet_some : (f : Forest) (k x : ℕ) (ns : List ℕ) → AreAllNeeds f.edges k ns → meets_needs f ns x ≡ false → 0 < unmet f k x
unmet_some f k x ns a h =
    let u = unmet_need f ns x h in
    let within = need_within f.edges k u.need ns a u.among in
    count_some (λ e. is_need k e && not (gives f.knots e x)) f.edges u.need within
    (rw (a.all u.need within, u.among, u.fails) refl)

pub lives_on : (f : Forest) (k x : ℕ) (ns : List ℕ) (b : Bool) → IsForest f → AreAllNeeds f.edges k ns
    → has_entry f.knots k x ≡ true → meets_needs f ns x ≡ b → b ≡ lives f.knots k x
lives_on f k x ns true h a i m =
    let none : missing_at f.knots k x ≡ 0 = h.missing k x i ∙ met_none f k x ns a m in
    rw (i, eq-eqb (missing_at f.knots k x) 0 none) refl
lives_on f k x ns false h a i m =
    let some = unmet_some f k x ns a m in
    let is : missing_at f.knots k x ≡ unmet f k x = h.missing k x i in
    rw (i, ne_eqb (missing_at f.knots k x) 0 (λ e. omega (arith, some, is, e))) refl

pub met_lives : (f : Forest) (k x : ℕ) (ns : List ℕ) → IsForest f → AreAllNeeds f.edges k ns → has_entry f.knots k x ≡ true
    → meets_needs f ns x ≡ lives f.knots k x
met_lives f k x ns h a i = lives_on f k x ns (meets_needs f ns x) h a i refl
