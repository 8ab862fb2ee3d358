-- Lines with a sign, and which of them stay once those that cancel out are dropped.
use Rattle.std.specs.Prelude.{ℕ, List, Bool, true, false, not, ◌≡◌, ◌≤◌, ◌++◌, ◌↔◌, ◌⊎◌, All, AllPairs, Contains, map, length}

-- A line: whether an answer was added or removed, and the answer's cells.
pub record SignedLine : Type 0 where
  pub came : Bool
  pub cells : List ℕ

-- the same answer, the other way
abbrev pub reversed : SignedLine → SignedLine
reversed l = record { came = not l.came; cells = l.cells }

-- No line occurs twice: no answer was added twice, and none was removed twice.
abbrev pub AreDistinctLines : List SignedLine → Type 0
AreDistinctLines ls = AllPairs (λ k l. k ≡ l → ⊥) ls

-- All of them were added, or all of them were removed.
abbrev pub HaveOneSign : List SignedLine → Type 0
HaveOneSign ls = All (λ l. l.came ≡ true) ls ⊎ All (λ l. l.came ≡ false) ls

-- Of these lines those stay whose opposite isn't among them, each answer once.
pub record SettlesTo (old new : List SignedLine) : Type 0 where
  pub different : AllPairs (λ s t. s ≡ t → ⊥) (map (λ l. l.cells) new)
  pub within : (l : SignedLine) → Contains new l → Contains old l
  pub alone : (l : SignedLine) → Contains new l → Contains old (reversed l) → ⊥
  pub complete : (l : SignedLine) → Contains old l → (Contains old (reversed l) → ⊥) → Contains new l

-- an answer that was added
abbrev pub came_line : List ℕ → SignedLine
came_line cells = record { came = true; cells = cells }

-- an answer that was removed
abbrev pub went_line : List ℕ → SignedLine
went_line cells = record { came = false; cells = cells }

-- Answers are added, and then answers are removed. Settled, those are added that were added and not
-- removed, and those are removed that were removed and not added before; no others.
abbrev pub SettlingIsNet : Type 0
SettlingIsNet = (come gone : List (List ℕ)) (new : List SignedLine)
    → SettlesTo (map came_line come ++ map went_line gone) new → (cells : List ℕ)
    → (Contains new (came_line cells) ↔ (Contains come cells × (Contains gone cells → ⊥)))
    × (Contains new (went_line cells) ↔ (Contains gone cells × (Contains come cells → ⊥)))

-- Lines that were settled settle to themselves. Settling them again gives the same lines, which are
-- also what the first lines settle to.
abbrev pub SettlingTwiceIsOnce : Type 0
SettlingTwiceIsOnce = (old once twice : List SignedLine) → SettlesTo old once → SettlesTo once twice
    → SettlesTo once once × SettlesTo old twice × ((l : SignedLine) → Contains twice l ↔ Contains once l)

-- Settling adds no lines.
abbrev pub SettlingShortens : Type 0
SettlingShortens = (old new : List SignedLine) → SettlesTo old new → length new ≤ length old
