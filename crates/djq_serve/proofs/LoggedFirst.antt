-- Nothing is sent before what it may tell of is logged.
use Rattle.std.specs.Prelude.{ℕ, List, [], ◌∷◌, ◌++◌, ◌≡◌, true, false, Option, None, Some}
use Rattle.std.specs.List.{list_any}
use Rattle.std.proofs.Common.{refl, sym, ap, ◌∙◌, subst, append-nil, append_assoc}
use Rattle.std.proofs.lemmas.Bool.{false≢true}
use Rattle.std.proofs.lemmas.Grind.{flat_map-append}
use Rattle.djq_io.specs.declared.hub.Told.{Told}
use Rattle.djq_io.specs.declared.hub.Told.TheVariants.{Closing}
use Rattle.djq_log.specs.Logging.{grouped}
use Rattle.djq_model.specs.Data.{Bytes}
use Rattle.djq_machine.specs.State.{State}
use Rattle.djq_machine.specs.Run.{Walk, Group, groups_of, lines_in}
use Rattle.djq_serve.specs.declared.served.Served.{Served}
use Rattle.djq_serve.specs.Server.{Phase, waiting, gathering, running, keeping, flushing, closing, Server, server}
use Rattle.djq_serve.specs.Server.{Move, all_done, all_logged, RunsAt, ClosesFirst, ServesAt, MakesMove}
use Rattle.djq_serve.specs.Server.{Last, first_open, next_ready}
use Rattle.djq_serve.specs.Ends.{sends_some, LogsFirst}
use Rattle.djq_serve.proofs.Commits.{open_groups, Logs, appends, commits, move_logs, groups_before}

-- ---- The lines of the steps, beside those that the log was handed and those of the open commit.

lines_of_both : (one two : List Group) → lines_in (one ++ two) ≡ lines_in one ++ lines_in two
lines_of_both one two = flat_map-append (λ (group : Group). group) one two

lines_of_grouped : (lines : List Bytes) → lines_in (grouped lines) ≡ lines
lines_of_grouped [] = refl
lines_of_grouped (l ∷ lines) = append-nil (l ∷ lines)

-- From one place to another the lines of the open commit and of the steps are those that the log was handed and then
-- those of the commit that is open in the end.
record Carries (p : Phase) (moves : List Move) (q : Phase) : Type 0 where
  pub lines : lines_in (open_groups p) ++ lines_in (groups_of (all_done moves))
      ≡ lines_in (all_logged moves) ++ lines_in (open_groups q)

lines_before : (m : Move) (moves : List Move) → lines_in (groups_of (all_done (m ∷ moves)))
    ≡ lines_in (groups_of m.done) ++ lines_in (groups_of (all_done moves))
lines_before m moves = ap lines_in (groups_before m moves) ∙ lines_of_both (groups_of m.done) (groups_of (all_done moves))

logged_before : (m : Move) (moves : List Move)
    → lines_in (all_logged (m ∷ moves)) ≡ lines_in m.logged ++ lines_in (all_logged moves)
logged_before m moves = lines_of_both m.logged (all_logged moves)

carries_more : (p : Phase) (m : Move) (q : Phase) (moves : List Move) (r : Phase) → Logs p m q → Carries q moves r
    → Carries p (m ∷ moves) r
carries_more p m q moves r (appends unlogged adds) c = record {
  lines = ap (λ (ls : List Bytes). lines_in (open_groups p) ++ ls) (lines_before m moves)
      ∙ sym (append_assoc (lines_in (open_groups p)) (lines_in (groups_of m.done))
      (lines_in (groups_of (all_done moves))))
      ∙ ap (λ (ls : List Bytes). ls ++ lines_in (groups_of (all_done moves)))
      (sym (lines_of_both (open_groups p) (groups_of m.done)) ∙ ap lines_in adds)
      ∙ c.lines
      ∙ sym (ap (λ (ls : List Bytes). ls ++ lines_in (open_groups r))
      (logged_before m moves ∙ ap (λ (gs : List Group). lines_in gs ++ lines_in (all_logged moves)) unlogged));
}
carries_more p m q moves r (commits none logged shut) c = record {
  lines = ap (λ (ls : List Bytes). lines_in (open_groups p) ++ ls)
      (lines_before m moves
      ∙ ap (λ (gs : List Group). lines_in gs ++ lines_in (groups_of (all_done moves))) (none ∙ sym shut) ∙ c.lines)
      ∙ sym (append_assoc (lines_in (open_groups p)) (lines_in (all_logged moves)) (lines_in (open_groups r)))
      ∙ sym (ap (λ (ls : List Bytes). ls ++ lines_in (open_groups r))
      (logged_before m moves ∙ ap (λ (ls : List Bytes). ls ++ lines_in (all_logged moves))
      (ap lines_in logged ∙ lines_of_grouped (lines_in (open_groups p)))));
}

walk_carries : (most : ℕ) (old : Server) (moves : List Move) (new : Server) → Walk (MakesMove most) old moves new
    → Carries old.phase moves new.phase
walk_carries most old [] new w =
    subst (λ (k : Server). Carries old.phase [] k.phase) (sym w)
    (record { lines = append-nil (lines_in (open_groups old.phase)) })
walk_carries most old (m ∷ moves) new w =
    carries_more old.phase m (w.0).phase moves new.phase (move_logs most old.phase old.state m w.0 w.1.0)
    (walk_carries most w.0 moves new w.2)

-- ---- Where something is sent no commit is open.

none_sent : (told more : List Told) → told ≡ more → list_any sends_some more ≡ false
    → list_any sends_some told ≡ true → ⊥
none_sent told more is none some = false≢true (sym none ∙ ap (list_any sends_some) (sym is) ∙ some)

lines_send_none : (count : ℕ) (groups : List Group) (last : Last) (st : State) (m : Move) (new : Server) (o : Option ℕ)
    → RunsAt count groups last st m new o → list_any sends_some m.told ≡ true → ⊥
lines_send_none count groups last st m new (Some s) (none, unlogged, outcome, happens, on) some =
    none_sent m.told [] none refl some
lines_send_none count groups last st m new None (none, unlogged, ends, phase) some = none_sent m.told [] none refl some

closes_send_none : (answer : Served) (st : State) (m : Move) (new : Server) (o : Option ℕ) → ClosesFirst answer st m new o
    → list_any sends_some m.told ≡ true → ⊥
closes_send_none answer st m new None none some = none
closes_send_none answer st m new (Some s) (is, unlogged, happens, phase) some =
    none_sent m.told (Closing s ∷ []) is refl some

sends_unopened : (most : ℕ) (p : Phase) (st : State) (m : Move) (new : Server) → ServesAt most p st m new
    → list_any sends_some m.told ≡ true → open_groups p ≡ []
sends_unopened most waiting st m new g some = refl
sends_unopened most (gathering left) st m new g some = refl
sends_unopened most (running from count groups last) st m new g some =
    absurd (lines_send_none count groups last st m new (next_ready st from) g some)
sends_unopened most (keeping groups next) st m new (none, undone, logged, same, stored) some =
    absurd (none_sent m.told [] none refl some)
sends_unopened most (flushing from next) st m new g some = refl
sends_unopened most (closing answer) st m new g some =
    absurd (closes_send_none answer st m new (first_open st) g some)

-- As a move sends something, the log was handed all lines that the steps before it log.
pub serve_logs_first : (most : ℕ) (old : State) (moves : List Move) → LogsFirst most (server old waiting) moves
serve_logs_first most old moves before later m at next cut w g some =
    let c = walk_carries most (server old waiting) before at w in
    c.lines
    ∙ ap (λ (gs : List Group). lines_in (all_logged before) ++ lines_in gs)
    (sends_unopened most at.phase at.state m next g.0 some)
    ∙ append-nil (lines_in (all_logged before))
