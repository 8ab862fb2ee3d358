use Rattle.std.specs.Prelude.{◌≡◌, ◌≢◌, ℕ, ◌≤◌, List, [], ◌++◌, length, take, Option, IfSome, IsSomeAnd, All}
use Rattle.std.specs.List.{flat_map}
use Rattle.djq_io.specs.Faults.{Counted}
use Rattle.djq_io.specs.declared.sink.Wrote.{Wrote}
use Rattle.djq_io.specs.declared.sink.Wrote.TheVariants.{Took, Failed}
use Rattle.djq_io.specs.declared.sink.Write.{Write}

-- From one state of an object to a later one its record gained these, if the later state shows it:
-- what is recorded then is what was recorded before, and then they. An object may lose its record,
-- and claims nothing from then on.
abbrev pub Gains : {A : Type 0} → Option (List A) → Option (List A) → List A → Type 0
Gains old new more = IfSome new (λ n. IsSomeAnd old (λ o. n ≡ o ++ more))

-- A write accepts a first part of the piece, which isn't empty; or it fails, and accepts nothing.
abbrev pub TakesPart : Wrote → List ℕ → Type 0
TakesPart (Took n) piece = (1 ≤ n) × (n ≤ length piece)
TakesPart Failed piece = Unit {0}

-- the bytes of a piece that a write accepted
abbrev pub part_taken : Wrote → List ℕ → List ℕ
part_taken (Took n) piece = take n piece
part_taken Failed piece = []

-- the bytes that writes accepted, in order
abbrev pub bytes_of : List Write → List ℕ
bytes_of writes = flat_map (λ w. part_taken w.answer w.piece) writes

-- none of these writes failed
abbrev pub NoneFailed : List Write → Type 0
NoneFailed writes = All (λ w. w.answer ≢ Failed) writes

-- The count of a sink's faults rises at a failed write, and stays at every other.
abbrev pub CountsWrite : Wrote → ℕ → ℕ → Type 0
CountsWrite (Took n) old new = new ≡ old
CountsWrite Failed old new = Counted old new
