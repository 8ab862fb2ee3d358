-- The bytes of a name after its first.
use Rattle.std.specs.Prelude.{ℕ, ◌==◌, ◌&&◌, ◌||◌, nat_le, length, Bool}
use Rattle.std.specs.List.{list_all}
use Rattle.djq_model.specs.Data.{Bytes}
use Rattle.djq_value.specs.Literal.{is_digit, is_lower}

-- whether a byte may be in a name after its first
abbrev pub may_follow_of : ℕ → Bool
may_follow_of b = is_lower b || is_digit b || b == 95

-- whether bytes may be those of a name after its first
abbrev pub is_tail_of : Bytes → Bool
is_tail_of bs = list_all may_follow_of bs && nat_le (length bs) 31
