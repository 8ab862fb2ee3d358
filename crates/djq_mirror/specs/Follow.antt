-- A mirror that follows, piece by piece, what a session was sent.
use Rattle.std.specs.Prelude.{ℕ, List, [], ◌∷◌, ◌++◌, ◌≡◌, ◌≢◌, ◌+◌, ◌<◌, ◌≤◌, ◌⊎◌, Option, None}
use Rattle.std.specs.Prelude.{Some, IfSome, Result, Ok, Err, length}
use Rattle.djq_io.specs.Faults.{Counted}
use Rattle.djq_io.specs.Source.{SourceReading}
use Rattle.djq_io.specs.Given.{Gave}
use Rattle.djq_model.specs.Data.{Bytes}
use Rattle.djq_io.specs.declared.limits.TheConstants.{MOST_READS}
use Rattle.djq_mirror.specs.declared.mode.TheConstants.{REPLY_LINE_BYTES}
use Rattle.djq_mirror.specs.declared.mirror.MirrorRefusal.{MirrorRefusal}
use Rattle.djq_mirror.specs.declared.mirror.MirrorRefusal.TheVariants.{Outside as IsOutsideHere, NoMem as NoMemHere}
use Rattle.djq_mirror.specs.Mirror.{Held, at_first, Follows, IsOutside}
use Rattle.djq_mirror.specs.Inputs.{lines_text, HasNoLf, FollowsAll, HoldsAtEnd, FirstIsRefused}
use Rattle.djq_mirror.specs.declared.follower.Halt.{Halt}
use Rattle.djq_mirror.specs.declared.follower.Halt.TheVariants.{Outside, TooMany, NoMem}
use Rattle.djq_mirror.specs.declared.reading.Followed.{Followed}
use Rattle.djq_mirror.specs.declared.reading.Followed.TheVariants.{Whole, Halted, ReadFault}

-- A mirror of a name that is followed: what it holds, the front of a line that has begun, and how
-- many lines were followed.
pub record Following : Type 0 where
  pub name : Bytes
  pub held : Held
  pub begun : Bytes
  pub count : ℕ

-- the greatest number of a line
abbrev pub most_lines : ℕ
most_lines = 18446744073709551615

-- Bytes end lines that are followed, one after another, and begin one.
pub record TakesLines (old : Following) (bytes : Bytes) (new : Following) : Type 0 where
  pub lines : List Bytes
  pub is : old.begun ++ bytes ≡ lines_text lines ++ new.begun
  pub own : HasNoLf new.begun
  pub follows : FollowsAll old.name old.held lines new.held
  pub count : new.count ≡ old.count + length lines
  pub name : new.name ≡ old.name

-- Bytes without an LF can't be followed, with these after them: they are ended and no line that is
-- allowed, or too long already.
abbrev pub Stopping : Bytes → Held → Bytes → Bytes → Type 0
Stopping name held bad behind = ((tail : Bytes) × (behind ≡ 10 ∷ tail) × IsOutside name held bad)
    ⊎ ((behind ≡ []) × (REPLY_LINE_BYTES < length bad))

-- Lines are followed, and after them there is one that can't be.
pub record Halts (old : Following) (bytes : Bytes) (n : ℕ) : Type 0 where
  pub lines : List Bytes
  pub held : Held
  pub bad : Bytes
  pub behind : Bytes
  pub is : old.begun ++ bytes ≡ lines_text lines ++ (bad ++ behind)
  pub follows : FollowsAll old.name old.held lines held
  pub number : n ≡ old.count + length lines + 1
  pub own : HasNoLf bad
  pub stops : Stopping old.name held bad behind

-- A first part of the bytes ends as many lines as can be counted.
pub record CountsOut (old : Following) (bytes : Bytes) : Type 0 where
  pub mid : Following
  pub front : Bytes
  pub rest : Bytes
  pub is : bytes ≡ front ++ rest
  pub takes : TakesLines old front mid
  pub full : mid.count ≡ most_lines

-- What a piece does, by why it isn't followed to its end, if it isn't.
abbrev pub TakesPiece : Following → Bytes → Option Halt → Following → Type 0
TakesPiece old piece None new = TakesLines old piece new
TakesPiece old piece (Some (Outside n)) new = Halts old piece n
TakesPiece old piece (Some TooMany) new = CountsOut old piece
TakesPiece old piece (Some NoMem) new = Unit {0}

-- What becomes of the last bytes of a line.
abbrev pub TakesLine : Following → Bytes → Option Halt → Following → Type 0
TakesLine old last None new = Follows old.name old.held (old.begun ++ last) new.held
    × (new.begun ≡ []) × (new.count ≡ old.count + 1) × (new.name ≡ old.name)
TakesLine old last (Some (Outside n)) new = (n ≡ old.count + 1)
    × IsOutside old.name old.held (old.begun ++ last)
TakesLine old last (Some TooMany) new = old.count ≡ most_lines
TakesLine old last (Some NoMem) new = Unit {0}

-- The same of the mirror alone.
abbrev pub FollowsLine : Following → Bytes → Result Unit MirrorRefusal → Following → Type 0
FollowsLine old last (Ok _) new = Follows old.name old.held (old.begun ++ last) new.held
    × (new.begun ≡ []) × (new.count ≡ old.count) × (new.name ≡ old.name)
FollowsLine old last (Err IsOutsideHere) new = IsOutside old.name old.held (old.begun ++ last)
FollowsLine old last (Err NoMemHere) new = Unit {0}

-- The front of a line waits for the rest, unless it is too long.
abbrev pub KeepsFront : Following → Bytes → Option Halt → Following → Type 0
KeepsFront old front None new = new ≡ record old { begun = old.begun ++ front }
KeepsFront old front (Some (Outside n)) new = (n ≡ old.count + 1)
    × (REPLY_LINE_BYTES < length (old.begun ++ front))
KeepsFront old front (Some TooMany) new = old.count ≡ most_lines
KeepsFront old front (Some NoMem) new = Unit {0}

-- the line after so many, as the first that can't be followed
abbrev pub IsHaltLine : ℕ → Halt → Type 0
IsHaltLine count (Outside n) = n ≡ count + 1
IsHaltLine count TooMany = count ≡ most_lines
IsHaltLine count NoMem = ⊥

-- At the end of the input a line that has begun can't be followed.
abbrev pub HaltsAtEnd : Following → Option Halt → Type 0
HaltsAtEnd f None = f.begun ≡ []
HaltsAtEnd f (Some halt) = (f.begun ≢ []) × IsHaltLine f.count halt

-- It has nothing left, if it shows its record.
abbrev pub HasGivenAll : Option SourceReading → Type 0
HasGivenAll reading = IfSome reading (λ r. r.left ≡ [])

-- Each whole line of these bytes is followed.
pub record AreFollowed (name bytes : Bytes) : Type 0 where
  pub lines : List Bytes
  pub held : Held
  pub begun : Bytes
  pub is : bytes ≡ lines_text lines ++ begun
  pub own : HasNoLf begun
  pub follows : FollowsAll name at_first lines held

-- Whatever follows these bytes, the line of this number is the first that can't be followed; or so
-- it is if nothing follows, and nothing does.
abbrev pub StopsAt : Bytes → Bytes → Option SourceReading → ℕ → Type 0
StopsAt name bytes now n = ((more : Bytes) → FirstIsRefused name (bytes ++ more) n)
    ⊎ (HasGivenAll now × FirstIsRefused name bytes n)

-- The result of the bytes that were read.
abbrev pub FollowedAs : Followed → Bytes → Bytes → Option SourceReading → Held → Type 0
FollowedAs Whole name bytes now held = HasGivenAll now × HoldsAtEnd name bytes held
FollowedAs (Halted (Outside n)) name bytes now held = StopsAt name bytes now n
FollowedAs (Halted TooMany) name bytes now held = MOST_READS ≤ length bytes
FollowedAs (Halted NoMem) name bytes now held = Unit {0}
FollowedAs ReadFault name bytes now held = AreFollowed name bytes

-- The count of the source's faults rises if a read failed, and else stays.
abbrev pub FaultsAs : Followed → ℕ → ℕ → Type 0
FaultsAs ReadFault faults faults' = Counted faults faults'
FaultsAs _ faults faults' = faults' ≡ faults

-- How reading ends, from a mirror of a name that holds nothing yet to what it holds then.
pub record FollowEnds (answer : Followed) (name : Bytes) (before now : Option SourceReading)
    (faults faults' : ℕ) (held : Held) : Type 0 where
  pub bytes : Bytes
  pub gave : Gave before now bytes
  pub comes : FollowedAs answer name bytes now held
  pub counted : FaultsAs answer faults faults'
