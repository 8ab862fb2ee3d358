-- That whatever a reader answers, for one of the inputs that an oracle may have its reading is shown.
use Rattle.std.specs.Prelude.{◌≡◌, ◌≢◌, List, [], ◌∷◌, ◌++◌, Some, All, ℕ}
use Rattle.std.specs.List.{concat, flat_map}
use Rattle.djq_io.specs.declared.source.Read.{Read}
use Rattle.djq_io.specs.declared.source.Read.TheVariants.{Got, End, Failed}
use Rattle.djq_system.specs.StdSource.{ReadDone, reading_of_reads}

-- the pieces of a read: one, if it gave bytes
abbrev pub pieces_answered : Read → List ℕ → List (List ℕ)
pieces_answered (Got n) gave = gave ∷ []
pieces_answered End gave = []
pieces_answered Failed gave = []

-- the pieces that reads gave
abbrev pub pieces_read : List ReadDone → List (List ℕ)
pieces_read reads = flat_map (λ r. pieces_answered r.answer r.gave) reads

-- Whatever reads answered of which none found the end, a reader of the bytes that they gave and of any after them shows
-- that the pieces are given, and the bytes after them left. And if there are none, it shows the same once the end is found.
abbrev pub SomeInputIsTold : Type 0
SomeInputIsTold = (reads : List ReadDone) → All (λ r. r.answer ≢ End) reads
    → ((behind : List ℕ) → reading_of_reads (concat (pieces_read reads) ++ behind) reads
    ≡ Some (record { left = behind; given = pieces_read reads }))
    × (reading_of_reads (concat (pieces_read reads)) (reads ++ record { answer = End; gave = [] } ∷ [])
    ≡ Some (record { left = []; given = pieces_read reads }))
