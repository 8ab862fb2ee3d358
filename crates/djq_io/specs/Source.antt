use Rattle.std.specs.Prelude.{◌≡◌, ℕ, ◌≤◌, List, [], ◌∷◌, ◌++◌, length, take, Option, Some, IfSome, IsSomeAnd}
use Rattle.std.specs.List.{concat}
use Rattle.djq_io.specs.Faults.{Counted}
use Rattle.djq_io.specs.declared.source.Read.{Read}
use Rattle.djq_io.specs.declared.source.Read.TheVariants.{Got, End, Failed}

-- What a source shows: the bytes that are left, and the pieces that it gave so far, in order.
pub record SourceReading : Type 0 where
  pub left : List ℕ
  pub given : List (List ℕ)

-- A read gives this piece, if the source shows its record as it returns: what was left is the piece
-- and what is left then, and the piece follows those given before. A source may show nothing from
-- then on, as when it gives other bytes than it had left; one that shows nothing never does.
abbrev pub GivesPiece : Option SourceReading → Option SourceReading → List ℕ → Type 0
GivesPiece old new piece = IfSome new (λ n. IsSomeAnd old (λ o.
    (o.left ≡ piece ++ n.left) × (n.given ≡ o.given ++ piece ∷ [])))

-- A read finds the end, if the source shows its record as it returns: it has nothing left, and shows
-- what it showed before. A source may show nothing from then on, as when bytes are left.
abbrev pub FindsEnd : Option SourceReading → Option SourceReading → Type 0
FindsEnd old new = IfSome new (λ n. (n.left ≡ []) × (old ≡ Some n))

-- From one state of a source to a later one it gave these pieces, one a read, if the later state
-- shows its record: they follow those given before, and what was left is their bytes and then what
-- is left still.
abbrev pub SourceGives : Option SourceReading → Option SourceReading → List (List ℕ) → Type 0
SourceGives old new pieces = IfSome new (λ n. IsSomeAnd old (λ o.
    (n.given ≡ o.given ++ pieces) × (o.left ≡ concat pieces ++ n.left)))

-- What a read answers, from what the source shows before to what it shows after it, with the buffer
-- that it leaves: a piece of at least one byte and at most as many as fit; the end, if no bytes are
-- left; or a failure. The last two give nothing.
abbrev pub SourceReads : Read → Option SourceReading → Option SourceReading → List ℕ → Type 0
SourceReads (Got n) old new buf = (1 ≤ n) × (n ≤ length buf) × GivesPiece old new (take n buf)
SourceReads End old new buf = FindsEnd old new
SourceReads Failed old new buf = new ≡ old

-- The count of a source's faults rises at a failed read, and stays at every other.
abbrev pub CountsRead : Read → ℕ → ℕ → Type 0
CountsRead (Got n) old new = new ≡ old
CountsRead End old new = new ≡ old
CountsRead Failed old new = Counted old new
