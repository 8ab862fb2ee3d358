-- A worked example: the file of two groups, of one line and of two.
use Rattle.std.specs.Prelude.{ℕ, List, [], ◌∷◌}
use Rattle.djq_log_format.specs.Format.{RecordStored, IsClosedWhole}

-- "rel r int"; and "add r 7", "add r 8"
unfoldable pub example_groups : List RecordStored
example_groups =
    record { gate = 255; lines = (114 ∷ 101 ∷ 108 ∷ 32 ∷ 114 ∷ 32 ∷ 105 ∷ 110 ∷ 116 ∷ []) ∷ [] }
    ∷ record { gate = 255; lines = (97 ∷ 100 ∷ 100 ∷ 32 ∷ 114 ∷ 32 ∷ 55 ∷ []) ∷ (97 ∷ 100 ∷ 100 ∷ 32 ∷ 114 ∷ 32 ∷ 56 ∷ []) ∷ [] }
    ∷ []

-- the header; a record after its open gate, its length and its digest; another one; and the closed gate
unfoldable pub example_file : List ℕ
example_file =
    68 ∷ 74 ∷ 81 ∷ 76 ∷ 79 ∷ 71 ∷ 50 ∷ 10 ∷ 255 ∷ 0 ∷ 0 ∷ 0 ∷ 0 ∷ 0 ∷ 0 ∷ 11 ∷ 11 ∷ 13 ∷ 157 ∷ 200 ∷ 107 ∷
    208 ∷ 142 ∷ 127 ∷ 110 ∷ 0 ∷ 9 ∷ 114 ∷ 101 ∷ 108 ∷ 32 ∷ 114 ∷ 32 ∷ 105 ∷ 110 ∷ 116 ∷ 255 ∷ 0 ∷ 0 ∷ 0 ∷ 0 ∷
    0 ∷ 0 ∷ 18 ∷ 18 ∷ 76 ∷ 91 ∷ 41 ∷ 40 ∷ 132 ∷ 109 ∷ 72 ∷ 231 ∷ 0 ∷ 7 ∷ 97 ∷ 100 ∷ 100 ∷ 32 ∷ 114 ∷ 32 ∷ 55 ∷
    0 ∷ 7 ∷ 97 ∷ 100 ∷ 100 ∷ 32 ∷ 114 ∷ 32 ∷ 56 ∷ 0 ∷ []

abbrev pub ExampleIsClosedWhole : Type 0
ExampleIsClosedWhole = IsClosedWhole example_groups example_file
