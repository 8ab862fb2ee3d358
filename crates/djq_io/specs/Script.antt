use Rattle.std.specs.Prelude.{◌≡◌, ◌≢◌, ℕ, ◌⊎◌, List, [], ◌∷◌, ◌++◌, length, take, Contains, Option, IfSome, IsSomeAnd}
use Rattle.djq_io.specs.declared.hub.Coming.{Coming}
use Rattle.djq_io.specs.declared.hub.Class.TheVariants.{Client}
use Rattle.djq_io.specs.declared.hub.Incoming.{Incoming}
use Rattle.djq_io.specs.declared.hub.Incoming.TheVariants.{Opens, Brings, Ends, Nothing}
use Rattle.djq_io.specs.declared.hub.Turn.{Turn}
use Rattle.djq_io.specs.declared.hub.Turn.TheVariants.{Opened, Bytes, Ended, Idle, Over, Failed}
use Rattle.djq_io.specs.declared.hub.Sent.{Sent}
use Rattle.djq_io.specs.declared.hub.Sent.TheVariants.{Took, Again, Gone}
use Rattle.djq_io.specs.Hub.{Ids, IsNewId, IsRunning}

-- A script: the ids whose sends answer `Again` now, and the turns that are left.
pub record Script : Type 0 where
  pub blocked : List ℕ
  pub turns : List Coming

-- if a script is shown as the call returns, it was shown as the call began, and this holds of both
abbrev pub WhereTold : Option Script → Option Script → (Script → Script → Type 0) → Type 0
WhereTold old new P = IfSome new (λ n. IsSomeAnd old (λ o. P o n))

-- this was the next turn of the old script, and the new one is what follows it
abbrev pub ScriptPasses : Script → Incoming → Script → Type 0
ScriptPasses old next new = old.turns ≡ record { turn = next; blocked = new.blocked } ∷ new.turns

-- The next turn of the old script brings these bytes to a session and then a rest, which isn't
-- empty; the next turn of the new one brings the rest, and what follows is the same.
abbrev pub Cuts : Script → ℕ → List ℕ → Script → Type 0
Cuts old id part new = (rest : List ℕ) × (after : List Coming) × (rest ≢ [])
    × (old.turns ≡ record { turn = Brings id (part ++ rest); blocked = new.blocked } ∷ after)
    × (new.turns ≡ record { turn = Brings id rest; blocked = new.blocked } ∷ after)

-- A turn of a script that brings nothing: it has nothing, or it isn't one that is possible. No id
-- opens that isn't new, and none that was closed or has ended brings bytes or ends.
abbrev pub BringsNothing : Ids → Incoming → Type 0
BringsNothing ids (Opens id) = IsNewId ids id → ⊥
BringsNothing ids (Brings id piece) = IsRunning ids id → piece ≡ []
BringsNothing ids (Ends id) = IsRunning ids id → ⊥
BringsNothing ids Nothing = Unit {0}

-- What a turn answers by a script, over these ids, with the buffer that it leaves: the next turn,
-- of whose piece only as much as fits is given; `Idle` if it brings nothing; `Over` if there is
-- none; or a failure, after which the script is as it was.
abbrev pub AnswersByScript : Ids → Turn → List ℕ → Script → Script → Type 0
AnswersByScript ids (Opened id Client) buf old new = IsNewId ids id × ScriptPasses old (Opens id) new
AnswersByScript ids (Bytes id n) buf old new =
    IsRunning ids id
    × (ScriptPasses old (Brings id (take n buf)) new ⊎ ((n ≡ length buf) × Cuts old id (take n buf) new))
AnswersByScript ids (Ended id) buf old new = IsRunning ids id × ScriptPasses old (Ends id) new
AnswersByScript ids Idle buf old new = (next : Incoming) × BringsNothing ids next × ScriptPasses old next new
AnswersByScript ids Over buf old new = (old.turns ≡ []) × (new ≡ old)
AnswersByScript ids Failed buf old new = new ≡ old

-- What a send of so many bytes answers by a script, which stays: `Again` if and only if the session
-- is blocked, and else that all of them were accepted, unless the session is closed.
abbrev pub Sends : ℕ → ℕ → Sent → Script → Script → Type 0
Sends id offered (Took n) old new = (Contains old.blocked id → ⊥) × (n ≡ offered) × (new ≡ old)
Sends id offered Again old new = Contains old.blocked id × (new ≡ old)
Sends id offered Gone old new = new ≡ old
