-- How the calls of a hub are noted: by numbers, which are the call, its answer, the session, how many bytes the answer
-- counts and how many were offered, as far as the call has them; and by bytes.
use Rattle.std.specs.Prelude.{ℕ, ◌==◌, if◌then◌else◌, slice_index_or}
use Rattle.djq_io.specs.declared.hub.Class.TheVariants.{Client}
use Rattle.djq_io.specs.declared.hub.Listened.{Listened}
use Rattle.djq_io.specs.declared.hub.Listened.TheVariants.{Ready, Failed as Unheard}
use Rattle.djq_io.specs.declared.hub.Sent.{Sent}
use Rattle.djq_io.specs.declared.hub.Sent.TheVariants.{Took, Again, Gone}
use Rattle.djq_io.specs.declared.hub.Told.{Told}
use Rattle.djq_io.specs.declared.hub.Told.TheVariants.{Listening, Turning, Sending, Closing}
use Rattle.djq_io.specs.declared.hub.Turn.{Turn}
use Rattle.djq_io.specs.declared.hub.Turn.TheVariants.{Opened, Bytes, Ended, Idle, Over, Failed}
use Rattle.djq_system.specs.Notes.{Noted}

abbrev pub listened_noted : ℕ → Listened
listened_noted answer = if answer == 0 then Ready else Unheard

abbrev pub turn_noted : ℕ → ℕ → ℕ → Turn
turn_noted answer id n =
    if answer == 0 then Opened id Client
    else if answer == 1 then Bytes id n
    else if answer == 2 then Ended id
    else if answer == 3 then Idle
    else if answer == 4 then Over
    else Failed

abbrev pub sent_noted : ℕ → ℕ → Sent
sent_noted answer n = if answer == 0 then Took n else if answer == 1 then Again else Gone

-- the call with its answer that these numbers and bytes note
abbrev pub told_noted : Noted → Told
told_noted noted =
    let call = slice_index_or noted.0 0 0 in
    let answer = slice_index_or noted.0 1 0 in
    let id = slice_index_or noted.0 2 0 in
    let n = slice_index_or noted.0 3 0 in
    let offered = slice_index_or noted.0 4 0 in
    if call == 0 then Listening noted.1 (listened_noted answer)
    else if call == 1 then Turning (turn_noted answer id n) noted.1
    else if call == 2 then Sending id offered (sent_noted answer n) noted.1
    else Closing id
