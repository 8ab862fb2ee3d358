-- Unions of members, and what a union cursor has given of one. A member has answers (`has`); the
-- state of a member's listing fits the member (`fits`) and has given some of them (`given`).
use Rattle.std.specs.Prelude.{
  ◌≡◌,
  ⊤,
  ◌≤◌,
  Bool,
  List,
  [],
  ◌∷◌,
  length,
  filter,
  Option,
  None,
  Some,
  IfSome,
}
use Rattle.std.specs.List.{list_any}
use Rattle.djq_union.specs.Answers.{AreSomeCells, AreAllCells}
use Rattle.djq_union.specs.Order.{merged}

-- a union has the answers that some member has
abbrev pub some_has : {M A : Type 0} → (M → A → Bool) → List M → A → Bool
some_has has ms t = list_any (λ m. has m t) ms

-- what a member has given, whose listing may not have begun
abbrev pub given_at : {M S A : Type 0} → (M → S → List A) → M → Option S → List A
given_at given m None = []
given_at given m (Some s) = given m s

-- what a union has given, by the states of its members' listings
abbrev pub union_given : {M S A : Type 0} → (M → A → Bool) → (M → S → List A) → List M
    → List (Option S) → List A
union_given has given [] ss = []
union_given has given (m ∷ ms) [] = []
union_given has given (m ∷ ms) (s ∷ ss) =
    merged (some_has has ms) (given_at given m s) (union_given has given ms ss)

-- a member whose answers are `has` has given the first list, and the union of the later members,
-- whose answers are `later`, the second one: as many as the member has given of theirs, and more
-- only once the member has given all
pub record AreInStep {A : Type 0} (has later : A → Bool) (given rest : List A) : Type 0 where
  pub never_behind : length (filter later given) ≤ length rest
  pub even : (AreAllCells has given → ⊥) → length rest ≡ length (filter later given)

-- the state of the first member's listing fits, beside later members
pub record FitsFirst {M S A : Type 0} (has : M → A → Bool) (given : M → S → List A)
    (fits : M → S → Type 0) (m : M) (s : Option S) (later : A → Bool) (rest : List A)
    : Type 0 where
  pub fit : IfSome s (λ begun. fits m begun)
  pub some : AreSomeCells (has m) (given_at given m s)
  pub step : AreInStep (has m) later (given_at given m s) rest

-- states fit the members of a union: each fits its member, and the later ones are in step with it
abbrev pub UnionFits : {M S A : Type 0} → (M → A → Bool) → (M → S → List A) → (M → S → Type 0)
    → List M → List (Option S) → Type 0
UnionFits has given fits [] ss = ⊤
UnionFits has given fits (m ∷ ms) [] = ⊥
UnionFits has given fits (m ∷ ms) (s ∷ ss) =
    FitsFirst has given fits m s (some_has has ms) (union_given has given ms ss)
    × UnionFits has given fits ms ss
