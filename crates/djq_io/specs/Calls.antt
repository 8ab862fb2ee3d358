-- What is sent by the calls that a hub records.
use Rattle.std.specs.Prelude.{ℕ, List, [], ◌==◌, if◌then◌else◌}
use Rattle.std.specs.List.{flat_map}
use Rattle.djq_io.specs.declared.hub.Told.{Told}
use Rattle.djq_io.specs.declared.hub.Told.TheVariants.{Sending}

-- the bytes that a call sends to a session: those that the hub accepted
abbrev pub sent_by : ℕ → Told → List ℕ
sent_by s (Sending t offered sent taken) = if t == s then taken else []
sent_by s _ = []

-- all bytes that are sent to a session
abbrev pub sent_to : ℕ → List Told → List ℕ
sent_to s told = flat_map (λ t. sent_by s t) told
