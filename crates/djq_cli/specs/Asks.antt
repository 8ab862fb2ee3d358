-- What the words of a command line ask for.
use Rattle.std.specs.Prelude.{ℕ, List, [], ◌≡◌, ◌<◌, ◌^◌, true, Option, None, Some, IsSomeAnd, codes, decimal}
use Rattle.std.specs.Option.{option_map}
use Rattle.std.specs.Borrow.{Bor}
use Rattle.clap.specs.Words.{Text, Row, fault_of, first_of, subcommand_of}
use Rattle.djq_value.specs.Literal.{is_name}
use Rattle.djq_cli.specs.declared.commands.Asked.{Asked}
use Rattle.djq_cli.specs.declared.commands.Asked.TheVariants.{Run, Serve, Replay, Gen, Mirror}
use Rattle.djq_cli.specs.declared.commands.TheConstants.{MOST_TURNS}
use Rattle.djq_cli.specs.Commands.{djq_app}

-- A text spells a number below 2 to the power of so many bits: it is the number's decimal digits,
-- with no sign and no leading zero.
abbrev pub SpellsNumber : ℕ → Text → ℕ → Type 0
SpellsNumber bits text n = (n < 2 ^ bits) × (text ≡ decimal n)

-- A text is read as the number of 64 bits that it spells; or it spells none.
abbrev pub TextReadsAs : Text → Option ℕ → Type 0
TextReadsAs text (Some n) = SpellsNumber 64 text n
TextReadsAs text None = (n : ℕ) → SpellsNumber 64 text n → ⊥

-- The number of turns: what the text spells, or the most if there is none.
abbrev pub TurnsAre : Option Text → ℕ → Type 0
TurnsAre None n = n ≡ MOST_TURNS
TurnsAre (Some text) n = SpellsNumber 64 text n

-- the number of 32 bits that was given, by the text that spells it
abbrev pub IsGiven : Option Text → ℕ → Type 0
IsGiven None n = ⊥
IsGiven (Some text) n = SpellsNumber 32 text n

-- What was given is read as its number; or it is none.
abbrev pub NumberIsRead : Option Text → Option ℕ → Type 0
NumberIsRead text (Some n) = IsGiven text n
NumberIsRead text None = (n : ℕ) → IsGiven text n → ⊥

-- the path of a log, if there is one
abbrev pub log_path_of : Option (Bor Text) → Option Text
log_path_of log = option_map (λ path. path.now) log

-- A subcommand, by its name and what it was given, asks for this.
abbrev pub SubcommandAsks : Text × List Row → Asked → Type 0
SubcommandAsks c Run = c.0 ≡ codes "run"
SubcommandAsks c (Serve addr turns log) = (c.0 ≡ codes "serve") × (first_of (codes "ADDR") c.1 ≡ Some addr.now)
    × TurnsAre (first_of (codes "turns") c.1) turns × (first_of (codes "log") c.1 ≡ log_path_of log)
SubcommandAsks c (Replay log) = (c.0 ≡ codes "replay") × (first_of (codes "log") c.1 ≡ log_path_of log)
SubcommandAsks c (Gen n seed) = (c.0 ≡ codes "gen") × IsGiven (first_of (codes "N") c.1) n
    × IsGiven (first_of (codes "SEED") c.1) seed
SubcommandAsks c (Mirror query) = (c.0 ≡ codes "mirror") × (first_of (codes "Q") c.1 ≡ Some query.now)
    × (is_name query.now ≡ true)

-- What is asked for, if something is.
abbrev pub AskedBy : Option (Text × List Row) → Option Asked → Type 0
AskedBy None asked = asked ≡ None
AskedBy (Some c) (Some a) = SubcommandAsks c a
AskedBy (Some c) None = (a : Asked) → SubcommandAsks c a → ⊥

-- What `serve` asks for, by what it was given.
abbrev pub ServeAsked : List Row → Option Asked → Type 0
ServeAsked rows asked = AskedBy (Some (codes "serve", rows)) asked

-- What `gen` asks for, by what it was given.
abbrev pub GenAsked : List Row → Option Asked → Type 0
GenAsked rows asked = AskedBy (Some (codes "gen", rows)) asked

-- What `mirror` asks for, by what it was given.
abbrev pub MirrorAsked : List Row → Option Asked → Type 0
MirrorAsked rows asked = AskedBy (Some (codes "mirror", rows)) asked

-- `clap` accepts the words for the command set, and the command that they name asks for this.
abbrev pub Asks : List Text → Asked → Type 0
Asks words a = (fault_of djq_app words ≡ [])
    × IsSomeAnd (subcommand_of djq_app words) (λ c. SubcommandAsks c a)

-- The words ask for this, or they are no command.
abbrev pub WordsAsk : List Text → Option Asked → Type 0
WordsAsk words (Some a) = Asks words a
WordsAsk words None = (a : Asked) → Asks words a → ⊥
