-- What reads of one cursor do, in cells of its union's answers.
use Rattle.std.specs.Prelude.{
  ◌≡◌,
  ℕ,
  List,
  [],
  ◌∷◌,
  ◌++◌,
  Bool,
  true,
  false,
  map,
  Option,
}
use Rattle.djq_model.specs.Listed.{a_union}
use Rattle.djq_store_spec.specs.Registering.{answer_steps}
use Rattle.djq_enumeration.specs.declared.cursor.Cursor.{Cursor}
use Rattle.djq_union.specs.Answers.{AreSomeCells, AreAllCells, IsListingOfCells}
use Rattle.djq_union.specs.Union.{some_has, union_given}
use Rattle.djq_live_query.specs.declared.listing.Next.{Next}
use Rattle.djq_live_query.specs.declared.listing.Next.TheVariants.{Given, End, Stale as IsStale}
use Rattle.djq_live_query.specs.Live.{Live}
use Rattle.djq_live_query.specs.Member.{has_cells, cells_given, in_tree}
use Rattle.djq_united.specs.Slots.{UnionProgress}
use Rattle.djq_cursors.specs.declared.progress.Progress.TheVariants.{Open, Stale}
use Rattle.djq_united.specs.United.{FitsMembers, AtFirst}

-- the cells that a cursor has given, in the head's order
abbrev pub union_cells : List Live → List (Option Cursor) → List (List ℕ)
union_cells ls cursor = union_given has_cells cells_given ls cursor

-- A cursor advances by one answer that it hasn't given, and the first member has it as a tuple of
-- its tree.
pub record UnionAdvances (ls : List Live) (old : List (Option Cursor)) (answer : List ℕ)
    (new : List (Option Cursor)) : Type 0 where
  pub fits : FitsMembers ls new
  pub cells : List ℕ
  pub gives : union_cells ls new ≡ union_cells ls old ++ cells ∷ []
  pub some : AreSomeCells (some_has has_cells ls) (union_cells ls new)
  pub turned : AtFirst ls (λ l. answer ≡ in_tree l cells)

-- A cursor has given each answer, and stays there.
pub record UnionEnds (ls : List Live) (old new : List (Option Cursor)) : Type 0 where
  pub fits : FitsMembers ls new
  pub gives : union_cells ls new ≡ union_cells ls old
  pub all : IsListingOfCells (some_has has_cells ls) (union_cells ls old)

-- What a read gives: one answer that is left, the end if and only if none is, or what made the
-- cursor stale.
abbrev pub UnionReads : List Live → UnionProgress → Next → List ℕ → UnionProgress → Type 0
UnionReads ls (Open old ended) Given answer (Open new e) = UnionAdvances ls old answer new × (e ≡ false)
UnionReads ls (Open old ended) End answer (Open new e) = UnionEnds ls old new × (e ≡ true)
UnionReads ls (Stale q m) (IsStale relation n) answer new =
    (relation ≡ q) × (n ≡ m) × (new ≡ Stale q m)
UnionReads ls _ _ answer _ = ⊥

-- A look at whether an answer is left: the cursor has given what it had given before.
abbrev pub UnionLooks : List Live → UnionProgress → Bool → UnionProgress → Type 0
UnionLooks ls (Open old ended) true new =
    (new ≡ Open old false) × (AreAllCells (some_has has_cells ls) (union_cells ls old) → ⊥)
UnionLooks ls (Open old ended) false new =
    (new ≡ Open old true) × AreAllCells (some_has has_cells ls) (union_cells ls old)
UnionLooks ls (Stale q m) left new = ⊥

-- what an answer of the union of these counts at most, and the end too
abbrev pub most_of : List Live → ℕ
most_of ls = answer_steps (a_union [] (map (λ l. l.query) ls))

-- what a read counts at most: a stale cursor costs nothing
abbrev pub call_steps : Next → List Live → ℕ
call_steps (IsStale relation n) ls = 0
call_steps _ ls = most_of ls
