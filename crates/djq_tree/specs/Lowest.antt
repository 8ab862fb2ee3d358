-- The lowest number that passes a test.
use Rattle.std.specs.Prelude.{ℕ, zero, suc, ◌+◌, Bool, cond, Option, Some, None}

-- the lowest of the n numbers from a on that passes the test
abbrev pub lowest_from : (ℕ → Bool) → ℕ → ℕ → Option ℕ
lowest_from test a zero = None
lowest_from test a (suc n) = cond (test a) (Some a) (lowest_from test (a + 1) n)
