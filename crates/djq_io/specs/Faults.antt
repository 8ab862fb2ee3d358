use Rattle.std.specs.Prelude.{◌≡◌, ℕ, ◌+◌, ◌<◌, ◌≤◌, ◌⊎◌, min}

-- A count of faults rose in a call: it is greater than at the call's start, or it is at the end of
-- its range, past which it can't rise.
abbrev pub Rose : ℕ → ℕ → Type 0
Rose old new = (old < new) ⊎ (new ≡ 18446744073709551615)

-- a count of faults rose, and didn't fall
abbrev pub Counted : ℕ → ℕ → Type 0
Counted old new = (old ≤ new) × Rose old new

-- one fault more, if the count isn't at the end of its range
abbrev pub one_more : ℕ → ℕ
one_more count = min (count + 1) 18446744073709551615
