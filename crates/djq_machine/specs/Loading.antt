-- What loading lines that were logged does to a store in which no session is open.
use Rattle.std.specs.Prelude.{ℕ, List, ◌≡◌, ◌⊎◌, Bool, true, false, Option, None, Some, Result, Ok, Err, if◌then◌else◌, ⊤}
use Rattle.djq_model.specs.declared.relation.Relation.{Relation}
use Rattle.djq_model.specs.Data.{Bytes, Tuple}
use Rattle.djq_protocol.specs.declared.answer.Refusal.{Refusal}
use Rattle.djq_protocol.specs.declared.answer.Refusal.TheVariants.{NoMemory}
use Rattle.djq_protocol.specs.declared.answer.AddOutcome.{AddOutcome}
use Rattle.djq_protocol.specs.declared.answer.DeleteOutcome.{DeleteOutcome}
use Rattle.djq_protocol.specs.declared.rest.QueryOutcome.{QueryOutcome}
use Rattle.djq_protocol.specs.declared.command.Command.{Command}
use Rattle.djq_protocol.specs.declared.command.Command.TheVariants.{
  Rel,
  Add,
  Del,
  Query as Register,
  Union,
  Drop,
  Batch,
  Done,
  Abandon,
}
use Rattle.djq_protocol.specs.Grammar.{
  Reading,
  outside,
  past_limit,
  says_command,
  reading_of,
  takes_memory_to_read,
}
use Rattle.djq_machine.specs.declared.machine.Loaded.{Loaded}
use Rattle.djq_machine.specs.declared.machine.Loaded.TheVariants.{Ran as ran, Refused as refused, NoMem as no_memory}
use Rattle.djq_protocol.specs.declared.held.Verb.{Verb}
use Rattle.djq_protocol.specs.declared.held.Verb.TheVariants.{Add as Adds, Delete as Deletes}
use Rattle.djq_protocol.specs.declared.held.DoneRefusal.{DoneRefusal}
use Rattle.djq_protocol.specs.Reply.{done_word}
use Rattle.djq_store_spec.specs.Store.{Store}
use Rattle.djq_protocol.specs.Conditions.{Answers, OutOfMemoryWhere}
use Rattle.djq_store_spec.specs.Relations.{MakesRelation}
use Rattle.djq_store_spec.specs.Rows.{AddsRow, DeletesRow}
use Rattle.djq_store_spec.specs.Registering.{RegistersQuery, DropsQuery}
use Rattle.djq_store_spec.specs.Union.{RegistersUnion}
use Rattle.djq_store_spec.specs.Held.{HeldTransaction, nothing_held, holding}
use Rattle.djq_store_spec.specs.Transaction.{hold_refusal, DoesAll}
use Rattle.djq_machine.specs.Command.{is_misplaced}
use Rattle.djq_machine.specs.Keeping.{is_done, is_removal, is_registration}
use Rattle.djq_machine.specs.Step.{SameRelations}
use Rattle.djq_machine.specs.Walk.{Walk}

-- the result of a refusal
abbrev pub refused_by : Refusal → Loaded
refused_by NoMemory = no_memory
refused_by _ = refused

-- A line runs if the result of its command is one for which it is logged.
abbrev pub loaded_by : {A : Type 0} → (Result A Refusal → Bool) → Result A Refusal → Loaded
loaded_by kept (Ok a) = if kept (Ok a) then ran else refused
loaded_by kept (Err r) = refused_by r

-- `done` runs if it isn't refused.
abbrev pub done_loaded : Result ℕ DoneRefusal → Loaded
done_loaded (Ok rows) = ran
done_loaded (Err r) = refused_by (done_word r)

-- How far the loading of lines is: the store, and what the batch of these lines holds, if one is open.
pub record Loading : Type 0 where
  pub store : Store
  pub batch : Option HeldTransaction

-- no batch is open
abbrev pub loading : Store → Loading
loading st = record { store = st; batch = None }

-- What a command that is loaded outside a batch does to the store.
abbrev pub StoreLoads : Store → Command → Loaded → Store → Type 0
StoreLoads old (Rel name types) how new = (r : Result ⊤ Refusal)
    × MakesRelation old name types r new × (how ≡ loaded_by is_done r)
StoreLoads old (Add name row) how new = (r : Result AddOutcome Refusal)
    × AddsRow old name row r new × (how ≡ loaded_by is_done r)
StoreLoads old (Del name row) how new = (r : Result DeleteOutcome Refusal)
    × DeletesRow old name row r new × (how ≡ loaded_by is_removal r)
StoreLoads old (Register q) how new = (r : Result QueryOutcome Refusal)
    × RegistersQuery old q r new × (how ≡ loaded_by is_registration r)
StoreLoads old (Union name members) how new = (r : Result ℕ Refusal)
    × RegistersUnion old name members r new × (how ≡ loaded_by is_done r)
StoreLoads old (Drop q) how new = (r : Result ⊤ Refusal)
    × DropsQuery old false q r new × (how ≡ loaded_by is_done r)
StoreLoads old _ how new = (how ≡ refused) × (new ≡ old)

-- A batch is opened, or memory lacks for it.
abbrev pub LoadsBatch : Loading → Loaded → Loading → Type 0
LoadsBatch old how new = ((how ≡ ran) × (new ≡ record old { batch = Some nothing_held }))
    ⊎ ((how ≡ no_memory) × (new ≡ old))

-- A line is held after these, or nothing changes.
abbrev pub HoldsLoaded : Loading → HeldTransaction → Bytes → Verb → Bytes → Tuple → Result ⊤ Refusal → Loading
    → Type 0
HoldsLoaded old held l verb name row (Ok _) new = new ≡ record old { batch = Some (holding held verb name row l) }
HoldsLoaded old held l verb name row (Err _) new = new ≡ old

-- A line of a batch is held, or refused.
abbrev pub HoldsOrRefuses : Loading → HeldTransaction → Bytes → Verb → Bytes → Tuple → Loaded → Loading → Type 0
HoldsOrRefuses old held l verb name row how new = (r : Result ⊤ Refusal)
    × Answers (hold_refusal old.store held l name row) r (λ _. ⊤) (OutOfMemoryWhere ⊤)
    × (how ≡ loaded_by is_done r) × HoldsLoaded old held l verb name row r new

-- What a command that is loaded does, as in a session with the batch that is open, or with none.
abbrev pub CommandLoads : Loading → Bytes → Command → Loaded → Loading → Type 0
CommandLoads old l c how new = LoadsIn old.batch c
  where
    LoadsIn : Option HeldTransaction → Command → Type 0
    LoadsIn None Batch = LoadsBatch old how new
    LoadsIn None c = StoreLoads old.store c how new.store × (new.batch ≡ None)
    LoadsIn (Some held) (Add name row) = HoldsOrRefuses old held l Adds name row how new
    LoadsIn (Some held) (Del name row) = HoldsOrRefuses old held l Deletes name row how new
    LoadsIn (Some held) (Done given) = (r : Result ℕ DoneRefusal)
        × DoesAll old.store held.lines given r new.store × (how ≡ done_loaded r) × (new.batch ≡ None)
    LoadsIn (Some held) Abandon = (how ≡ ran) × (new ≡ record old { batch = None })
    LoadsIn (Some held) _ = (how ≡ refused) × (new ≡ old)

-- What a line that is read does, as in a run; memory may lack as it is read, of a command that isn't
-- misplaced.
abbrev pub ReadingLoads : Loading → Bytes → Reading → Loaded → Loading → Type 0
ReadingLoads old l outside how new = (how ≡ refused) × (new ≡ old)
ReadingLoads old l (past_limit c) how new = (how ≡ refused) × (new ≡ old)
ReadingLoads old l (says_command c) how new = CommandLoads old l c how new
    ⊎ ((takes_memory_to_read c ≡ true) × (is_misplaced old.batch c ≡ false) × (how ≡ no_memory) × (new ≡ old))

-- A line is loaded. The rows, each with its copies, may be stored in another order from then on.
pub record LoadStep (old : Loading) (line : Bytes) (how : Loaded) (new : Loading) : Type 0 where
  pub mid : Loading
  pub loads : ReadingLoads old line (reading_of line) how mid
  pub relations : List Relation
  pub reordered : SameRelations mid.store.relations relations
  pub after : new ≡ record mid { store = record mid.store { relations = relations } }

-- Lines are loaded, one after another, and each runs.
abbrev pub Loads : Loading → List Bytes → Loading → Type 0
Loads = Walk (λ old line new. LoadStep old line ran new)
