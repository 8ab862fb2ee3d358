-- Twelve exchanges of a session, as theorems: so it may be, and with one byte of the reply changed it may not.
use Rattle.std.specs.Prelude.{ℕ, List, [], ◌∷◌, ◌+◌, ◌==◌, ◌≡◌, if◌then◌else◌, false, codes, pos, ⊤}
use Rattle.djq_model.specs.declared.relation.Relation.{Relation}
use Rattle.djq_model.specs.declared.relation.ColumnType.TheVariants.{Int as IntColumn}
use Rattle.djq_model.specs.declared.query.Query.{Query}
use Rattle.djq_model.specs.declared.query.Term.TheVariants.{Variable}
use Rattle.djq_model.specs.declared.value.Value.TheVariants.{Int}
use Rattle.djq_model.specs.Data.{Bytes}
use Rattle.djq_model.specs.Listed.{a_query}
use Rattle.djq_protocol.specs.Reply.{line}
use Rattle.djq_store_spec.specs.Store.{Store, empty_store}
use Rattle.djq_machine.specs.State.{State, fresh}
use Rattle.djq_machine.specs.Effect.{Effect}
use Rattle.djq_machine.specs.LineStep.{run}
use Rattle.djq_machine.specs.Step.{stepped, Step}

-- session 1 is open alone, and holds this line
abbrev pub holding_line : Bytes → Store → State
holding_line l store = record {
  store = store;
  stopped = false;
  sessions = record (fresh 1) { held = line l } ∷ [];
}

-- The line is run, and this reply is all that is queued.
pub record IsAnsweredBy (store : Store) (l reply : Bytes) : Type 0 where
  pub effect : Effect
  pub new : State
  pub step : Step (holding_line l store) (stepped 1 (run l)) effect new
  pub queued : effect.queued ≡ (1, reply) ∷ []

-- a line, its reply, and that reply with one byte changed
pub record Exchanged : Type 0 where
  pub store : Store
  pub says : Bytes
  pub reply : Bytes
  pub other : Bytes

-- at how many places two texts differ
abbrev pub differences : Bytes → Bytes → ℕ
differences [] [] = 0
differences (a ∷ as') (b ∷ bs) = (if a == b then 0 else 1) + differences as' bs
differences [] (b ∷ bs) = 1 + differences [] bs
differences (a ∷ as') [] = 1 + differences as' []

-- It may be answered so; and with one byte changed it may not.
pub record IsAnsweredSo (x : Exchanged) : Type 0 where
  pub so : IsAnsweredBy x.store x.says (line x.reply)
  pub one_byte : differences x.reply x.other ≡ 1
  pub not_so : IsAnsweredBy x.store x.says (line x.other) → ⊥

-- a relation r of one column, with the row 7
abbrev pub seven : Relation
seven = record {
  name = codes "r";
  types = IntColumn ∷ [];
  rows = record { row = Int (pos 7) ∷ []; copies = 1 } ∷ [];
}

-- q(x) <- r(x)
abbrev pub sevens : Query
sevens = record {
  name = codes "q";
  head = codes "x" ∷ [];
  atoms = record { relation = codes "r"; terms = Variable (codes "x") ∷ [] } ∷ [];
  comparisons = [];
}

-- a store with both, after one change
abbrev pub one_row : Store
one_row = record { relations = seven ∷ []; texts = []; queries = a_query sevens ∷ []; seq = 1 }

-- an exchange over that store
abbrev pub over_one_row : Bytes → Bytes → Bytes → Exchanged
over_one_row says reply other = record { store = one_row; says = says; reply = reply; other = other }

abbrev pub exchanges : List Exchanged
exchanges =
    record { store = empty_store; says = codes "rel r int"; reply = codes "ok"; other = codes "oh" }
    ∷ over_one_row (codes "rel r int") (codes "err 2 taken") (codes "err 3 taken")
    ∷ over_one_row (codes "rel") (codes "err 1 syntax") (codes "err 2 syntax")
    ∷ over_one_row (codes "has q 7") (codes "yes") (codes "yet")
    ∷ over_one_row (codes "open c q") (codes "ok open") (codes "ok oven")
    ∷ over_one_row (codes "close c") (codes "err 5 no cursor") (codes "err 5 no curser")
    ∷ over_one_row (codes "watch q") (codes "ok watch 1") (codes "ok watch 2")
    ∷ over_one_row (codes "add r 7") (codes "ok added 1 2") (codes "ok added 2 2")
    ∷ over_one_row (codes "del r 8") (codes "ok absent 1") (codes "ok absent 0")
    ∷ over_one_row (codes "batch") (codes "ok batch") (codes "ok botch")
    ∷ over_one_row (codes "done") (codes "err 18 batch") (codes "err 19 batch")
    ∷ over_one_row (codes "quit") (codes "bye") (codes "aye")
    ∷ []

-- Each of these is so.
abbrev pub AllAnswered : List Exchanged → Type 0
AllAnswered [] = ⊤
AllAnswered (x ∷ xs) = IsAnsweredSo x × AllAnswered xs
