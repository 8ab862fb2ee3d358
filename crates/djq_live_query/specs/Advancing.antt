-- What reads of one cursor do, in tuples of the tree.
use Rattle.std.specs.Prelude.{
  ℕ,
  List,
  [],
  ◌∷◌,
  ◌++◌,
  ◌≡◌,
  Bool,
  true,
  false,
  ⊤,
}
use Rattle.djq_reduct.specs.Reducts.{Reducts}
use Rattle.djq_enumeration.specs.declared.cursor.Cursor.{Cursor}
use Rattle.djq_reduct.specs.Answers.{IsAnswerOf}
use Rattle.djq_enumeration.specs.Listing.{AreSome, IsTupleLeft, ListsTuples}
use Rattle.djq_enumeration.specs.Given.{given, Fits}
use Rattle.djq_live_query.specs.Cursors.{Progress}
use Rattle.djq_cursors.specs.declared.progress.Progress.TheVariants.{Open, Stale}
use Rattle.djq_live_query.specs.declared.listing.Next.{Next}
use Rattle.djq_live_query.specs.declared.listing.Next.TheVariants.{Given, End, Stale as IsStale}

-- an open cursor fits the reducts
abbrev pub ProgressFits : Reducts → Progress → Type 0
ProgressFits r (Open cursor ended) = Fits r cursor
ProgressFits r (Stale relation n) = ⊤

-- A cursor advances by one answer that it hasn't given.
pub record CursorAdvances (r : Reducts) (old : Cursor) (u : List ℕ) (new : Cursor) : Type 0 where
  pub fits : Fits r new
  pub gives : given r new ≡ given r old ++ u ∷ []
  pub some : AreSome (IsAnswerOf r) (given r new)

-- A cursor has given each answer, and stays there.
pub record CursorEnds (r : Reducts) (old new : Cursor) : Type 0 where
  pub fits : Fits r new
  pub gives : given r new ≡ given r old
  pub all : ListsTuples (IsAnswerOf r) (given r old)

-- What a read gives: one answer that is left, the end if and only if none is, or what made the
-- cursor stale.
abbrev pub CursorReads : Reducts → Progress → Next → List ℕ → Progress → Type 0
CursorReads r (Open old ended) Given u (Open new e) = CursorAdvances r old u new × (e ≡ false)
CursorReads r (Open old ended) End u (Open new e) = CursorEnds r old new × (e ≡ true)
CursorReads r (Stale q m) (IsStale relation n) u new = (relation ≡ q) × (n ≡ m) × (new ≡ Stale q m)
CursorReads r _ _ u _ = ⊥

-- A look at whether an answer is left: the cursor has given what it had given before.
abbrev pub CursorLooks : Reducts → Progress → Bool → Progress → Type 0
CursorLooks r (Open old ended) true new =
    (new ≡ Open old false) × AreSome (IsAnswerOf r) (given r old)
    × ((u : List ℕ) × IsTupleLeft (IsAnswerOf r) (given r old) u)
CursorLooks r (Open old ended) false new =
    (new ≡ Open old true) × ListsTuples (IsAnswerOf r) (given r old)
CursorLooks r (Stale q m) left new = ⊥
