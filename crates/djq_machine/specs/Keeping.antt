-- Which lines are logged: those whose commands change the relations, their rows or copies, or the queries.
use Rattle.std.specs.Prelude.{List, Bool, true, false, Result, Ok, Err}
use Rattle.djq_model.specs.Data.{Bytes}
use Rattle.djq_protocol.specs.declared.answer.Refusal.{Refusal}
use Rattle.djq_protocol.specs.declared.answer.DeleteOutcome.{DeleteOutcome}
use Rattle.djq_protocol.specs.declared.answer.DeleteOutcome.TheVariants.{Last, Left, Absent}
use Rattle.djq_protocol.specs.declared.rest.QueryOutcome.{QueryOutcome}
use Rattle.djq_protocol.specs.declared.rest.QueryOutcome.TheVariants.{Registered, Cyclic, NotConnex}
use Rattle.djq_store_spec.specs.Held.{HeldTransaction}

-- What a step logs: nothing, the line that it runs, or the batch that this line ends, of which these are the
-- lines that were held.
pub data Keeping : Type 0 where
  no_line : Keeping
  the_line : Keeping
  the_batch : List Bytes → Keeping

-- The line is logged if this holds.
abbrev pub kept_where : Bool → Keeping
kept_where true = the_line
kept_where false = no_line

-- The lines of `rel`, `add`, `union` and `drop` are logged unless they are refused; of `add` also if it makes
-- a further copy.
abbrev pub is_done : {A : Type 0} → Result A Refusal → Bool
is_done (Ok a) = true
is_done (Err r) = false

-- A batch is logged whole if it is done.
abbrev pub kept_batch : {A E : Type 0} → HeldTransaction → Result A E → Keeping
kept_batch held (Ok a) = the_batch held.logged
kept_batch held (Err r) = no_line

-- The line of `del` is logged if a copy was deleted.
abbrev pub is_removal : Result DeleteOutcome Refusal → Bool
is_removal (Ok Last) = true
is_removal (Ok (Left copies)) = true
is_removal (Ok Absent) = false
is_removal (Err r) = false

-- The line of `query` is logged if the query is registered.
abbrev pub is_registration : Result QueryOutcome Refusal → Bool
is_registration (Ok (Registered most)) = true
is_registration (Ok (Cyclic rest)) = false
is_registration (Ok (NotConnex rest)) = false
is_registration (Err r) = false
