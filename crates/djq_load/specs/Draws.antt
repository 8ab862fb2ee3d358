-- The numbers that a load is drawn from: a linear congruential generator.
use Rattle.std.specs.Prelude.{ℕ, ◌+◌, ◌*◌, ◌/◌, ◌%◌}

-- the state after a draw
unfoldable pub next : ℕ → ℕ
next state = (state * 1103515245 + 12345) % 2147483648

-- the number that is drawn with a state: all but its sixteen lowest bits
abbrev pub drawn : ℕ → ℕ
drawn state = state / 65536
