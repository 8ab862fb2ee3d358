-- The result of a whole input in a mirror.
use Rattle.std.specs.Prelude.{◌≡◌, ◌≢◌, ℕ, ◌+◌, List, [], ◌∷◌, ◌++◌, All, length}
use Rattle.std.specs.List.{flat_map}
use Rattle.djq_model.specs.Data.{Bytes}
use Rattle.djq_protocol.specs.Reply.{line}
use Rattle.djq_mirror.specs.Mirror.{Held, at_first, Follows, IsOutside}

-- lines, each ended by LF
abbrev pub lines_text : List Bytes → Bytes
lines_text lines = flat_map line lines

-- bytes without an LF
abbrev pub HasNoLf : Bytes → Type 0
HasNoLf bytes = All (λ b. b ≢ 10) bytes

-- Lines, one after the other, are allowed, and this is held after them.
abbrev pub FollowsAll : Bytes → Held → List Bytes → Held → Type 0
FollowsAll name old [] new = new ≡ old
FollowsAll name old (l ∷ ls) new =
    (between : Held) × HasNoLf l × Follows name old l between × FollowsAll name between ls new

-- Each line of the input is allowed, the last with its LF, and this is held at the end.
pub record HoldsAtEnd (name input : Bytes) (held : Held) : Type 0 where
  pub lines : List Bytes
  pub is : input ≡ lines_text lines
  pub follows : FollowsAll name at_first lines held

-- a line that isn't allowed, or a last line without its LF, and what follows it
abbrev pub StopsMirror : Bytes → Held → Bytes → Bytes → Type 0
StopsMirror name held l [] = l ≢ []
StopsMirror name held l (b ∷ behind) = (b ≡ 10) × IsOutside name held l

-- The line with this number, from 1, is the first that isn't allowed.
pub record FirstIsRefused (name input : Bytes) (n : ℕ) : Type 0 where
  pub lines : List Bytes
  pub held : Held
  pub bad : Bytes
  pub behind : Bytes
  pub is : input ≡ lines_text lines ++ (bad ++ behind)
  pub number : n ≡ length lines + 1
  pub follows : FollowsAll name at_first lines held
  pub line_of_its_own : HasNoLf bad
  pub stops : StopsMirror name held bad behind
