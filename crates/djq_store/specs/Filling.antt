-- A union that fills a vacant slot.
use Rattle.std.specs.Prelude.{ℕ, List, ◌≡◌, ◌≤◌, ◌+◌, Bool, false, Option, None, Some, cond, count_by, length}
use Rattle.djq_protocol.specs.declared.limits.TheConstants.{QUERIES}
use Rattle.djq_store.specs.declared.joined.Joined.{Joined}
use Rattle.djq_store.specs.Places.{joined_at}

-- A slot that was vacant has a union, and the others are as they were.
pub record FillsSlot (us us' : List (Option Joined)) (k : ℕ) (j : Joined) : Type 0 where
  pub vacant : joined_at us k ≡ None
  pub here : joined_at us' k ≡ Some j
  pub others : (i : ℕ) → (i ≡ k → ⊥) → joined_at us' i ≡ joined_at us i
  pub counts : (p : Option Joined → Bool) → p None ≡ false → count_by p us' ≡ count_by p us + cond (p (Some j)) 1 0
  pub within : length us' ≤ QUERIES
