-- How `mirror` ends: what a session was sent is read and followed, and what it leaves is written.
use Rattle.std.specs.Prelude.{ℕ, List, ◌≡◌, ◌<◌, ◌≤◌, ◌⊎◌, Option, length, take, drop, codes}
use Rattle.djq_io.specs.Faults.{Counted}
use Rattle.djq_io.specs.Source.{SourceReading}
use Rattle.djq_io.specs.Written.{GainsBytes, FailsBehind}
use Rattle.djq_io.specs.declared.sink.Write.{Write}
use Rattle.djq_io.specs.Given.{Gave}
use Rattle.djq_model.specs.Data.{Bytes}
use Rattle.djq_protocol.specs.Reply.{numbered_line}
use Rattle.djq_io.specs.declared.limits.TheConstants.{MOST_READS}
use Rattle.djq_mirror.specs.Mirror.{Held, written}
use Rattle.djq_mirror.specs.Inputs.{HoldsAtEnd}
use Rattle.djq_mirror.specs.declared.follower.Halt.{Halt}
use Rattle.djq_mirror.specs.declared.follower.Halt.TheVariants.{Outside as HaltsOutside}
use Rattle.djq_mirror.specs.declared.follower.Halt.TheVariants.{TooMany as HaltsFull}
use Rattle.djq_mirror.specs.declared.follower.Halt.TheVariants.{NoMem as HaltsLacking}
use Rattle.djq_mirror.specs.declared.command.Mirrored.{Mirrored}
use Rattle.djq_mirror.specs.declared.command.Mirrored.TheVariants.{Done, Outside, ReadFault}
use Rattle.djq_mirror.specs.declared.command.Mirrored.TheVariants.{WriteFault, TooMany, NoMemory}
use Rattle.djq_mirror.specs.Follow.{HasGivenAll, StopsAt, AreFollowed}

-- the line that reports which line can't be followed
abbrev pub unfollowed_line : ℕ → Bytes
unfollowed_line n = numbered_line (codes "mirror ") n

-- What is to be written if a mirror can't follow any further, if something is.
abbrev pub HaltIsTold : Halt → Bytes → Mirrored → Type 0
HaltIsTold (HaltsOutside n) text answer = (text ≡ unfollowed_line n) × (answer ≡ Outside n)
HaltIsTold _ text answer = ⊥

-- What is answered if nothing is to be written, though a mirror can't follow any further.
abbrev pub IsUntold : Halt → Mirrored → Type 0
IsUntold (HaltsOutside n) answer = answer ≡ NoMemory
IsUntold HaltsFull answer = answer ≡ TooMany
IsUntold HaltsLacking answer = answer ≡ NoMemory

-- What is to be written of the bytes that were read: what a mirror leaves that followed all of them
-- to the end of the input; or which line is the first that can't be followed.
abbrev pub ComesTo : Mirrored → Bytes → Bytes → Bytes → Option SourceReading → Type 0
ComesTo Done text name bytes now = HasGivenAll now
    × (held : Held) × HoldsAtEnd name bytes held × (text ≡ written held)
ComesTo (Outside n) text name bytes now = StopsAt name bytes now n × (text ≡ unfollowed_line n)
ComesTo _ text name bytes now = ⊥

-- The source gave bytes without a fault, of which this is to be written.
pub record MirrorLeaves (answer : Mirrored) (text name : Bytes) (before now : Option SourceReading)
    (faults faults' : ℕ) : Type 0 where
  pub bytes : Bytes
  pub gave : Gave before now bytes
  pub comes : ComesTo answer text name bytes now
  pub no_fault : faults' ≡ faults

-- Why nothing is to be written of the bytes that were read: a read failed, before which each whole
-- line was followed; more was read than can be counted; or memory was wanted.
abbrev pub StopsFor : Mirrored → Bytes → Bytes → ℕ → ℕ → Type 0
StopsFor ReadFault name bytes faults faults' = Counted faults faults' × AreFollowed name bytes
StopsFor TooMany name bytes faults faults' = (MOST_READS ≤ length bytes) × (faults' ≡ faults)
StopsFor NoMemory name bytes faults faults' = faults' ≡ faults
StopsFor _ name bytes faults faults' = ⊥

-- Nothing is to be written.
pub record LeavesNone (answer : Mirrored) (name : Bytes) (before now : Option SourceReading)
    (faults faults' : ℕ) : Type 0 where
  pub bytes : Bytes
  pub gave : Gave before now bytes
  pub stops : StopsFor answer name bytes faults faults'

-- The sink accepted all of the text; or a first part that isn't the whole, and then a write failed,
-- which was the last.
abbrev pub WritesOf : Mirrored → Mirrored → Bytes → Option (List Write) → Option (List Write) → ℕ → ℕ → Type 0
WritesOf answer whole text writing writing' faults faults' =
    ((answer ≡ whole) × GainsBytes writing writing' text × (faults' ≡ faults))
    ⊎ ((answer ≡ WriteFault) × (n : ℕ) × (n < length text)
    × FailsBehind writing writing' (take n text) (drop n text) × Counted faults faults')

-- Something is left of what was read, and was written, or a write failed.
pub record MirrorsText (answer : Mirrored) (name : Bytes) (reading reading' : Option SourceReading)
    (read_faults read_faults' : ℕ) (writing writing' : Option (List Write)) (faults faults' : ℕ)
    : Type 0 where
  pub whole : Mirrored
  pub text : Bytes
  pub leaves : MirrorLeaves whole text name reading reading' read_faults read_faults'
  pub writes : WritesOf answer whole text writing writing' faults faults'

-- **The theorem of `mirror`.** What was read was followed to its end, or to the first line that can't
-- be, and what it leaves was written: the answers that it writes are all that is held, or that they
-- aren't known whole, or the number of that line. Else nothing is written, for the reason that the
-- answer gives.
abbrev pub MirrorEnds : Mirrored → Bytes → Option SourceReading → Option SourceReading → ℕ → ℕ
    → Option (List Write) → Option (List Write) → ℕ → ℕ → Type 0
MirrorEnds answer name reading reading' read_faults read_faults' writing writing' faults faults' =
    MirrorsText answer name reading reading' read_faults read_faults' writing writing' faults faults'
    ⊎ (LeavesNone answer name reading reading' read_faults read_faults'
    × (writing' ≡ writing) × (faults' ≡ faults))
