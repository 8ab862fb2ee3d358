-- How listings advance: a member's, and a union's.
use Rattle.std.specs.Prelude.{
  ◌≡◌,
  ℕ,
  Bool,
  List,
  [],
  ◌∷◌,
  ◌++◌,
  Option,
  None,
  IfSome,
  slice_index_or,
  slice_set,
}
use Rattle.std.specs.Bool.{OnTrue, OnFalse}
use Rattle.djq_union.specs.Answers.{AreSomeCells, AreAllCells}
use Rattle.djq_union.specs.Union.{some_has, given_at, union_given, UnionFits}

-- one answer more was given, and was none of those before; or all had been
pub record AnswersGoOn {A : Type 0} (has : A → Bool) (old new : List A) (more : Bool) (out : A)
    : Type 0 where
  pub one : OnTrue more (new ≡ old ++ out ∷ [])
  pub same : OnFalse more (new ≡ old)
  pub some : AreSomeCells has new
  pub all : OnFalse more (AreAllCells has old)

-- a member's listing, which may not have begun, advances
pub record MemberGoesOn {M S A : Type 0} (has : M → A → Bool) (given : M → S → List A)
    (fits : M → S → Type 0) (m : M) (old new : Option S) (more : Bool) (out : A) : Type 0 where
  pub fit : IfSome new (λ begun. fits m begun)
  pub goes : AnswersGoOn (has m) (given_at given m old) (given_at given m new) more out

-- the i-th of these states advances, and the others stay
abbrev pub MovesAt : {M S A : Type 0} → (M → A → Bool) → (M → S → List A) → (M → S → Type 0)
    → M → ℕ → List (Option S) → List (Option S) → Bool → A → Type 0
MovesAt {M} {S} {A} has given fits m i old new more out =
    (moved : Option S) × (new ≡ slice_set old i moved)
    × MemberGoesOn has given fits m (slice_index_or old i None) moved more out

-- a union's listing advances
pub record UnionGoesOn {M S A : Type 0} (has : M → A → Bool) (given : M → S → List A)
    (fits : M → S → Type 0) (ms : List M) (old new : List (Option S)) (more : Bool) (out : A)
    : Type 0 where
  pub fit : UnionFits has given fits ms new
  pub goes : AnswersGoOn (some_has has ms) (union_given has given ms old)
      (union_given has given ms new) more out
