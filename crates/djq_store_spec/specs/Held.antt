-- The lines that a transaction holds.
use Rattle.std.specs.Prelude.{Option, None, Some, ℕ, List, [], ◌∷◌, ◌+◌, ◌++◌, ◌&&◌, Bool, length, nat_le, nat_lt, slice_index_or}
use Rattle.std.specs.List.{sum_by}
use Rattle.djq_model.specs.Data.{Bytes, Tuple}
use Rattle.djq_protocol.specs.declared.answer.Refusal.TheVariants.{Misplaced}
use Rattle.djq_protocol.specs.Reply.{refusal_line}
use Rattle.djq_protocol.specs.declared.held.Verb.{Verb}
use Rattle.djq_protocol.specs.declared.held.Verb.TheVariants.{Add}
use Rattle.djq_protocol.specs.declared.limits.TheConstants.{HELD, HELD_BYTES}

-- what a line does with a copy of a row, and the row's relation
pub record HeldLine : Type 0 where
  pub verb : Verb
  pub relation : Bytes
  pub row : Tuple

-- the lines that a transaction holds, and their bytes as they arrived
pub record HeldTransaction : Type 0 where
  pub lines : List HeldLine
  pub logged : List Bytes

-- no line
abbrev pub nothing_held : HeldTransaction
nothing_held = record { lines = []; logged = [] }

-- one more line, of these bytes
abbrev pub holding : HeldTransaction → Verb → Bytes → Tuple → Bytes → HeldTransaction
holding t verb name row l = record {
  lines = t.lines ++ record { verb = verb; relation = name; row = row } ∷ [];
  logged = t.logged ++ l ∷ [];
}

-- the line that reports that lines which a batch holds are dropped, if it holds any
abbrev pub lost_line : Option HeldTransaction → Bytes
lost_line None = []
lost_line (Some held) = lost_of held.lines
  where
    lost_of : List HeldLine → Bytes
    lost_of [] = []
    lost_of (h ∷ hs) = refusal_line Misplaced

-- Whether one more line, of so many bytes, may be held.
abbrev pub has_room : HeldTransaction → ℕ → Bool
has_room t line = nat_lt (length t.lines) HELD
    && nat_le (sum_by (λ l. length l) t.logged + line) HELD_BYTES

-- a line in place of one past the last
abbrev pub no_line : HeldLine
no_line = record { verb = Add; relation = []; row = [] }

abbrev pub transaction_line : HeldTransaction → ℕ → HeldLine
transaction_line t at = slice_index_or t.lines at no_line

-- `batch` and `done`
abbrev pub batch : Bytes
batch = 98 ∷ 97 ∷ 116 ∷ 99 ∷ 104 ∷ []

abbrev pub done : Bytes
done = 100 ∷ 111 ∷ 110 ∷ 101 ∷ []

-- the lines that the log has of a transaction
abbrev pub log_lines : HeldTransaction → List Bytes
log_lines t = batch ∷ t.logged ++ done ∷ []
