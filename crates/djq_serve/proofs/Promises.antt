-- All that serving promises, of the moves that it made.
use Rattle.std.specs.Prelude.{ℕ, List, [], ◌++◌, ◌≡◌, ◌<◌, false, Option, map, AllPairs}
use Rattle.std.proofs.Common.{sym, ap, ◌∙◌, subst}
use Rattle.djq_io.specs.declared.hub.Told.{Told}
use Rattle.djq_disk.specs.History.{History}
use Rattle.djq_log.specs.declared.end.LogEnd.{LogEnd}
use Rattle.djq_machine.specs.State.{State, Session}
use Rattle.djq_machine.specs.Run.{Did, Run}
use Rattle.djq_machine.specs.Call.{Counts, state_ids}
use Rattle.djq_run_laws.specs.Sent.{all_opened, SessionsOpenOnce}
use Rattle.djq_run_laws.proofs.TakenLines.{sent_in_order, in_order}
use Rattle.djq_run_laws.proofs.Cursors.{runs_give}
use Rattle.djq_serve.specs.declared.served.Served.{Served}
use Rattle.djq_serve.specs.Told.{Shown, HubTells}
use Rattle.djq_serve.specs.Server.{waiting, closing, server, all_told, all_done}
use Rattle.djq_serve.specs.Logged.{ServeLogs}
use Rattle.djq_serve.specs.Goes.{log_place, seen, GoesQuietly}
use Rattle.djq_serve.specs.Kept.{Agrees}
use Rattle.djq_serve.specs.Parts.{Took}
use Rattle.djq_serve.proofs.Going.{goes_then}
use Rattle.djq_serve.proofs.LoggedGroups.{serve_keeps}
use Rattle.djq_serve.proofs.Lawful.{opened_in, open_rising, serve_runs, serve_sends, serve_opens}
use Rattle.djq_serve.proofs.Commits.{serve_committed}
use Rattle.djq_serve.proofs.Losing.{serve_unanswered}
use Rattle.djq_serve.proofs.Causing.{serve_caused}
use Rattle.djq_serve.proofs.Fairness.{serve_fair}
use Rattle.djq_serve.proofs.Promptness.{serve_prompt, single_rounds}
use Rattle.djq_serve.proofs.LoggedFirst.{serve_logs_first}

-- None was open at first, and all that opened have rising ids.
rising_from : (old : State) (told : List Told) (done : List Did) (x z : Shown) → old.sessions ≡ []
    → all_opened done ≡ opened_in told
    → HubTells x z told → SessionsOpenOnce old done × AllPairs (λ s t. s < t) (all_opened done)
rising_from old told done x z alone same tells =
    let rising : AllPairs (λ s t. s < t) (all_opened done) =
    subst (λ (is : List ℕ). AllPairs (λ s t. s < t) is) (sym same) (open_rising told x.ids z.ids tells.ids) in
    let none : state_ids old ≡ [] = ap (λ (xs : List Session). map (λ (x : Session). x.id) xs) alone in
    (subst (λ (is : List ℕ). AllPairs (λ s t. s < t) (is ++ all_opened done)) (sym none) rising, rising)

pub serve_logs : (answer : Served) (turns most : ℕ) (x y z : Shown) (before now : Counts) (old mid new : State)
    (g g' : Option LogEnd) (d d' : Option History)
    → old.stopped ≡ false → old.sessions ≡ []
    → Took answer turns most x before old (log_place g d) y now mid (log_place g' d')
    → ((n : ℕ) (k : Served) → GoesQuietly n y (server mid (closing k)) z (server new (closing k))) → state_ids new ≡ []
    → Agrees new z.ids → ServeLogs answer turns most x before old z now new g g' d d'
serve_logs answer turns most x y z before now old mid new g g' d d' going alone taking closes none agrees =
    let a = server old waiting in
    let b = server new (closing answer) in
    let end = goes_then most (seen x before 0) a (log_place g d) (seen y now taking.taken) (server mid (closing answer))
    (log_place g' d') (seen z now taking.taken) b (log_place g' d') taking.goes
    (closes most answer now taking.taken (log_place g' d')) in
    let whole = end.goes in
    let runs : Run old (all_done whole.moves) new = serve_runs most a whole.moves b whole.walk in
    let once = rising_from old (all_told whole.moves) (all_done whole.moves) x z alone
    (serve_opens most a whole.moves b whole.walk) whole.told in
    record {
      ends = record {
        taken = taking.taken;
        goes = whole;
        run = runs;
        rising = once.1;
        throughout = record {
          lines = λ earlier mid later through s spared. in_order s old earlier mid through.1 spared;
          cursors = λ earlier mid later through give. runs_give old earlier mid through.1 give;
        };
        committed = serve_committed most old whole.moves new answer whole.walk;
        sent = λ s. record {
          sent = λ never. serve_sends most s a whole.moves b whole.walk never;
          whole = sent_in_order s old (all_done whole.moves) new runs once.0;
        };
        fair = serve_fair most old whole.moves b alone;
        prompt = serve_prompt most old whole.moves b alone;
        single = λ one before later m at next cut walk makes some.
            single_rounds most one old before at m next walk makes some;
        first = serve_logs_first most old whole.moves;
        caused = serve_caused most old whole.moves new answer going whole.walk;
        none_open = none;
        none_at_hub = agrees.same ∙ none;
        has_taken = taking.has_taken;
      };
      logs = end.logs;
      kept = serve_keeps most old whole.moves new answer (log_place g d) (log_place g' d') whole.walk end.logs;
      silent = serve_unanswered most answer old whole.moves new whole.walk;
    }
