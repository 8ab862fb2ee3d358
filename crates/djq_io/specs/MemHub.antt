use Rattle.std.specs.Prelude.{ℕ, ◌+◌, ◌==◌, List, ◌∷◌, [], ◌++◌, length, Option, if◌then◌else◌}
use Rattle.std.specs.List.{list_any}
use Rattle.std.specs.Option.{option_map}
use Rattle.djq_io.specs.Hub.{Ids}
use Rattle.djq_io.specs.Script.{Script}
use Rattle.djq_io.specs.Failing.{is_failing, failed_count}
use Rattle.djq_io.specs.declared.hub.Told.{Told}
use Rattle.djq_io.specs.declared.hub.Coming.{Coming}
use Rattle.djq_io.specs.declared.hub.Listened.{Listened}
use Rattle.djq_io.specs.declared.hub.Listened.TheVariants.{Ready, Failed}
use Rattle.djq_io.specs.declared.hub.Sent.{Sent}
use Rattle.djq_io.specs.declared.hub.Sent.TheVariants.{Took, Again, Gone}
use Rattle.djq_io.specs.declared.mem_hub.HubCall.{HubCall}
use Rattle.djq_io.specs.declared.mem_hub.HubCall.TheVariants.{Listen, Turn, Send}
use Rattle.djq_io.specs.declared.failing.FailingSend.{FailingSend}
use Rattle.djq_io.specs.FailingSends.{is_send_due}

-- A hub in memory: its script, its past, unless it has lost that, its ids, and the listens, turns
-- and sends that are to fail.
pub record Recorded : Type 0 where
  pub script : Script
  pub past : Option (List Told)
  pub ids : Ids
  pub failing_listens : List ℕ
  pub failing_turns : List ℕ
  pub failing_sends : List FailingSend

-- what a hub in memory shows of its script
abbrev pub script_of : Recorded → Option Script
script_of hub = option_map (λ _. hub.script) hub.past

-- what a listen answers
abbrev pub listen_of : Recorded → Listened
listen_of hub = if is_failing hub.failing_listens then Failed else Ready

-- what a send answers: it accepts the whole piece, unless it is to fail or the session is blocked
abbrev pub send_of : Recorded → ℕ → List ℕ → Sent
send_of hub id piece = if is_send_due id hub.failing_sends then Gone
    else (if list_any (λ other. other == id) hub.script.blocked then Again else Took (length piece))

-- as which of its kind a call is to fail
abbrev pub call_number : HubCall → ℕ
call_number (Listen call) = call
call_number (Turn call) = call
call_number (Send id call) = call

-- a hub after this call was put to those that are to fail
abbrev pub with_failing : Recorded → HubCall → Recorded
with_failing hub (Listen call) = record hub { failing_listens = hub.failing_listens ++ call ∷ [] }
with_failing hub (Turn call) = record hub { failing_turns = hub.failing_turns ++ call ∷ [] }
with_failing hub (Send id call) = record hub
    { failing_sends = hub.failing_sends ++ record { id = id; send = call } ∷ [] }

-- how many listens and turns of a hub have failed
abbrev pub hub_faults : Recorded → ℕ
hub_faults hub = failed_count hub.failing_listens + failed_count hub.failing_turns

-- a hub with a turn more at the end of its script
abbrev pub with_coming : Recorded → Coming → Recorded
with_coming hub coming = record hub { script = record hub.script { turns = hub.script.turns ++ coming ∷ [] } }
