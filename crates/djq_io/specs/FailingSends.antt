use Rattle.std.specs.Prelude.{◌≡◌, ◌≢◌, ℕ, ◌-◌, ◌<◌, ◌==◌, ◌&&◌, Bool, List, map, count_by, MatchBool, if◌then◌else◌}
use Rattle.std.specs.List.{list_any}
use Rattle.djq_io.specs.declared.failing.FailingSend.{FailingSend}

-- Sends that are to fail, each of a session and by how many of its sends it is away, 0 if it has
-- failed. The next send to this session is among them:
abbrev pub is_send_due : ℕ → List FailingSend → Bool
is_send_due id sends = list_any (λ f. (f.id == id) && (f.send == 1)) sends

-- one of them after a send to this session
abbrev pub one_after_send : ℕ → FailingSend → FailingSend
one_after_send id f = if f.id == id then record { id = id; send = f.send - 1 } else f

-- the same sends, after one to this session
abbrev pub after_send : ℕ → List FailingSend → List FailingSend
after_send id sends = map (one_after_send id) sends

-- how many sends to this session have failed
abbrev pub failed_sends : List FailingSend → ℕ → ℕ
failed_sends sends id = count_by (λ f. (f.id == id) && (f.send == 0)) sends

-- A send raises the count of those to its session that have failed if it was to fail, and else
-- leaves it. It leaves that of every other session.
abbrev pub CountsSends : Bool → ℕ → List FailingSend → List FailingSend → Type 0
CountsSends fails id old new =
    MatchBool fails (failed_sends old id < failed_sends new id) (failed_sends new id ≡ failed_sends old id)
    × ((other : ℕ) → other ≢ id → failed_sends new other ≡ failed_sends old other)
