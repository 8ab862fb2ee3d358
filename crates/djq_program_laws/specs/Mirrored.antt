-- What `mirror` makes of what the program sent a session.
use Rattle.std.specs.Prelude.{ℕ, List, ◌≡◌, ◌≢◌, Option, Some}
use Rattle.djq_io.specs.Source.{SourceReading}
use Rattle.djq_io.specs.Written.{GainsBytes}
use Rattle.djq_io.specs.declared.sink.Write.{Write}
use Rattle.djq_model.specs.Data.{Bytes}
use Rattle.djq_model.specs.Listed.{Listed, listed_name, AnswersOf}
use Rattle.djq_mirror.specs.declared.mode.Mode.TheVariants.{Live}
use Rattle.djq_mirror.specs.Mirror.{Held, written}
use Rattle.djq_machine.specs.State.{State}
use Rattle.djq_mirror_laws.specs.Mirrored.{HoldsTextsOf}
use Rattle.djq_mirror.specs.declared.command.Mirrored.{Mirrored}
use Rattle.djq_mirror.specs.declared.command.Mirrored.TheVariants.{Done, Outside}
use Rattle.djq_mirror.specs.Ends.{MirrorEnds}

-- A mirror's last answers are written; and if it is live, they are the query's answers over the rows
-- of a state, in byte order.
pub record WritesAnswers (q : Listed) (at : State) (writing writing' : Option (List Write)) : Type 0 where
  pub held : Held
  pub wrote : GainsBytes writing writing' (written held)
  pub live : held.mode ≡ Live → HoldsTextsOf held (AnswersOf at.store.relations q)

-- However `mirror` ends that reads these bytes, from a source that shows its record: it refuses no line
-- of them; and if it follows them to their end and no write fails, it writes such answers.
abbrev pub IsMirroredBack : Listed → Bytes → State → Type 0
IsMirroredBack q sent at = (answer : Mirrored) (reading reading' : SourceReading) (read_faults read_faults' : ℕ)
    (writing writing' : Option (List Write)) (faults faults' : ℕ)
    → MirrorEnds answer (listed_name q) (Some reading) (Some reading') read_faults read_faults' writing
    writing' faults faults'
    → reading.left ≡ sent
    → ((n : ℕ) → answer ≢ Outside n) × (answer ≡ Done → WritesAnswers q at writing writing')
