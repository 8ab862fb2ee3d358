use Rattle.std.specs.Prelude.{ℕ, List}

-- A call with its answer, as it is noted: some numbers, and the bytes that it moved.
abbrev pub Noted : Type 0
Noted = List ℕ × List ℕ
