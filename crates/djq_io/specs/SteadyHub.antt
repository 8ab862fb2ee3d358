use Rattle.std.specs.Prelude.{◌≡◌, Bool, true, false, List, [], IfSome}
use Rattle.std.specs.List.{list_any}
use Rattle.djq_io.specs.declared.hub.Sent.TheVariants.{Gone}
use Rattle.djq_io.specs.declared.hub.Told.{Told}
use Rattle.djq_io.specs.declared.hub.Told.TheVariants.{Sending}
use Rattle.djq_io.specs.MemHub.{Recorded}

-- whether a call is a send that found its session closed
abbrev pub is_gone : Told → Bool
is_gone (Sending id offered Gone taken) = true
is_gone _ = false

-- whether a send found its session closed
abbrev pub has_gone : List Told → Bool
has_gone told = list_any is_gone told

-- No call of a hub in memory is to fail, and no send of its past found a session closed.
pub record NeverFails (hub : Recorded) : Type 0 where
  pub listens : hub.failing_listens ≡ []
  pub turns : hub.failing_turns ≡ []
  pub sends : hub.failing_sends ≡ []
  pub past : IfSome hub.past (λ told. has_gone told ≡ false)
