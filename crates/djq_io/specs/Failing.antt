use Rattle.std.specs.Prelude.{◌≡◌, ℕ, ◌-◌, ◌<◌, ◌==◌, Bool, List, map, count_by, MatchBool}
use Rattle.std.specs.List.{list_any}

-- Calls that are to fail, each by how many calls it is away: 1 is the next call, and 0 is one that
-- has failed. The next call is among them:
abbrev pub is_failing : List ℕ → Bool
is_failing calls = list_any (λ call. call == 1) calls

-- the same calls, one call later
abbrev pub after_call : List ℕ → List ℕ
after_call calls = map (λ call. call - 1) calls

-- how many of them have failed
abbrev pub failed_count : List ℕ → ℕ
failed_count calls = count_by (λ call. call == 0) calls

-- A call raises the count of those that have failed if it was to fail, and else leaves it.
abbrev pub CountsDown : Bool → List ℕ → List ℕ → Type 0
CountsDown fails old new = MatchBool fails (failed_count old < failed_count new) (failed_count new ≡ failed_count old)
