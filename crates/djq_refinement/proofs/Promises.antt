-- The core's two promises, of runs of the machine.
use Rattle.std.specs.Prelude.{ℕ, List, [], ◌∷◌, ◌++◌, ◌≡◌, ◌⊎◌, true, Option, None, Some, IsSomeAnd, map}
use Rattle.std.proofs.Common.{refl, sym, ap, ◌∙◌, subst, inl, inr}
use Rattle.std.proofs.lemmas.List.Elements.{All-weaker}
use Rattle.djq_model.specs.Data.{Bytes, Tuple}
use Rattle.djq_model.specs.Answer.{IsListing}
use Rattle.djq_model.specs.Listed.{Listed, listed_name, AnswersOf, listed_of}
use Rattle.djq_protocol.specs.declared.answer.EndCause.{EndCause}
use Rattle.djq_protocol.specs.Grammar.{reading_of}
use Rattle.djq_answer_laws.proofs.Lists.{some_as}
use Rattle.djq_machine.specs.State.{Session, State, session_of}
use Rattle.djq_machine.specs.LineStep.{LineOutcome, long, blank, slow, no_room, run}
use Rattle.djq_machine.specs.Step.{Event, opened, fed, stepped, took, ended, closed, Step}
use Rattle.djq_machine.specs.Run.{Did}
use Rattle.djq_machine.specs.Watch.{is_watching}
use Rattle.djq_machine.proofs.Relations.{walk_as}
use Rattle.djq_run_laws.specs.Sound.{IsSoundStore, IsSoundState, IsStart}
use Rattle.djq_run_laws.specs.Watched.{IsWatcher, WatchesStep, WatchesAlong, parts_for, parts_to}
use Rattle.djq_run_laws.proofs.SoundStates.{step_sound, start_sound, runs_keep_sound}
use Rattle.djq_abstract.specs.Rows.{AnswersOver}
use Rattle.djq_abstract.specs.Clients.{Core, CoreCommand, CoreEvent, connects, disconnects, says}
use Rattle.djq_abstract.specs.Histories.{Happening, state_after, CoreRun, HasNobody, IsSubscribedAlong, all_sent}
use Rattle.djq_abstract.specs.Histories.{deltas_applied}
use Rattle.djq_abstract.proofs.Sound.{finished_cursors_listed}
use Rattle.djq_abstract.proofs.Live.{subscribers_have_answers}
use Rattle.djq_refinement.specs.View.{client_by, client_in, core_of, core_reading}
use Rattle.djq_refinement.specs.Spelling.{AreSpelled}
use Rattle.djq_refinement.specs.Refinement.{AreOfLine, AreOfFront, AreCoreEvents, SpellsBy, IsSpelled}
use Rattle.djq_refinement.specs.Refinement.{MachineStatesAreReached, MachineFinishedListed, MachineSubscribersHaveAnswers}
use Rattle.djq_refinement.proofs.Stores.{answer_seen, answer_back, own_names}
use Rattle.djq_refinement.proofs.Steps.{machine_refines_core}
use Rattle.djq_refinement.proofs.AcceptedChanges.{spelled_append}
use Rattle.djq_refinement.proofs.Runs.{core_run_more, state_more, sent_more, spelled_as, all_bytes, runs_refine_core}

-- ---- states that a run reaches

start_nobody : (start : State) → IsStart start → HasNobody (core_of start)
start_nobody start h = record {
  clients = λ s. ap (λ (xs : List Session). client_in (session_of (record start { sessions = xs }) s)) h.none;
  names = own_names start.store.queries h.store.queries;
}

pub reached : MachineStatesAreReached
reached start h done new w =
    let r = runs_refine_core start (start_sound start h) done new w in record {
      start = core_of start;
      nobody_there = start_nobody start h;
      run = r.happenings;
      is_run = r.is_run;
      is_after = r.is_after;
    }

-- listings of the same answers
listing_as : (A B : Tuple → Type 0) (ts : List Tuple) → ((t : Tuple) → A t → B t) → ((t : Tuple) → B t → A t)
    → IsListing A ts → IsListing B ts
listing_as A B ts to back h = record {
  different = h.different;
  answers = All-weaker A B to ts h.answers;
  complete = λ t b. h.complete t (back t b);
}

pub machine_finished_listed : MachineFinishedListed
machine_finished_listed start h done new w s c q returned e =
    let sound = (runs_keep_sound start done new w (start_sound start h)).store in
    some_as (listed_of new.store.queries q) (λ l. IsListing (AnswersOver (core_of new).db l) returned)
    (λ l. IsListing (AnswersOf new.store.relations l) returned)
    (λ l k. listing_as (AnswersOver (core_of new).db l) (AnswersOf new.store.relations l) returned
    (λ t a. answer_back new.store sound l t a) (λ t a. answer_seen new.store sound l t a) k)
    (finished_cursors_listed (core_of new) (reached start h done new w) s c q returned e)

-- ---- a session that watches along a run

-- at most one event of the core
abbrev AreShort : List CoreEvent → Type 0
AreShort es = (es ≡ []) ⊎ ((e : CoreEvent) × (es ≡ e ∷ []))

short_line : (s : ℕ) (o : Option CoreCommand) (es : List CoreEvent) → AreOfLine s o es → AreShort es
short_line s None es h = inr (disconnects s, h)
short_line s (Some c) es (inl h) = inr (says s c, h)
short_line s (Some c) es (inr h) = inr (disconnects s, h.1)

short_front : (qs : List Listed) (s : ℕ) (o : LineOutcome) (es : List CoreEvent) → AreOfFront qs s o es → AreShort es
short_front qs s (run l) es h = short_line s (core_reading qs (reading_of l)) es h
short_front qs s (blank l) es h = inl h
short_front qs s long es h = inr (disconnects s, h)
short_front qs s (slow l) es h = inr (disconnects s, h)
short_front qs s (no_room l) es h = inr (disconnects s, h)

none_or_one : (e : CoreEvent) (es : List CoreEvent) → (es ≡ []) ⊎ (es ≡ e ∷ []) → AreShort es
none_or_one e es (inl h) = inl h
none_or_one e es (inr h) = inr (e, h)

short_events : (qs : List Listed) (event : Event) (es : List CoreEvent) → AreCoreEvents qs event es → AreShort es
short_events qs (opened s) es h = none_or_one (connects s) es h
short_events qs (fed s bytes) es h = none_or_one (disconnects s) es h
short_events qs (stepped s o) es h = short_front qs s o es h
short_events qs (took s bytes) es h = inl h
short_events qs (ended s) es h = none_or_one (disconnects s) es h
short_events qs (closed s bytes) es h = none_or_one (disconnects s) es h

abbrev Subscribes : ℕ → Bytes → Core → Type 0
Subscribes s q st = (st.client s).subscribed q ≡ true

short_along : (s : ℕ) (q : Bytes) (st : Core) (hs : List Happening) → AreShort (map (λ (h : Happening). h.event) hs)
    → CoreRun st hs → Subscribes s q st → Subscribes s q (state_after st hs) → IsSubscribedAlong s q st hs
short_along s q st [] short r first last = first
short_along s q st (h ∷ []) short r first last = (first, last)
short_along s q st (h ∷ k ∷ hs) short r first last = absurd (long_list short)
  where
    long_list : AreShort (h.event ∷ k.event ∷ map (λ (i : Happening). i.event) hs) → ⊥
    long_list (inl e) = absurd cc
    long_list (inr (e, is)) = absurd cc

along_more : (s : ℕ) (q : Bytes) (st : Core) (hs ks : List Happening) → IsSubscribedAlong s q st hs
    → IsSubscribedAlong s q (state_after st hs) ks → IsSubscribedAlong s q st (hs ++ ks)
along_more s q st [] ks h k = k
along_more s q st (x ∷ hs) ks h k = (h.0, along_more s q x.after hs ks h.1 k)

-- a watcher subscribes
watcher_subscribes : (q : Listed) (s : ℕ) (st : State) → IsWatcher q s st
    → (((core_of st).client s).connected ≡ true) × Subscribes s (listed_name q) (core_of st)
watcher_subscribes q s st h = by (session_of st s) h.watches
  where
    at : (c : Option EndCause) (x : Session) → c ≡ None → is_watching (listed_name q) x ≡ true
        → ((client_by c x).connected ≡ true) × ((client_by c x).subscribed (listed_name q) ≡ true)
    at None x e w = (refl, w)
    at (Some cause) x e w = absurd cc

    by : (o : Option Session) → IsSomeAnd o (λ x. (x.cause ≡ None) × (is_watching (listed_name q) x ≡ true))
        → ((client_in o).connected ≡ true) × ((client_in o).subscribed (listed_name q) ≡ true)
    by None k = absurd k
    by (Some x) k = at x.cause x k.0 k.1

-- What a run is for the core along which a session watches.
record IsWatchedRun (q : Listed) (s : ℕ) (old : State) (done : List Did) (new : State) : Type 0 where
  happenings : List Happening
  is_run : CoreRun (core_of old) happenings
  is_after : state_after (core_of old) happenings ≡ core_of new
  along : IsSubscribedAlong s (listed_name q) (core_of old) happenings
  spelled : AreSpelled IsSpelled (all_sent s happenings) (parts_to s done)

watched_run : (q : Listed) (s : ℕ) (old : State) → IsSoundState old → IsWatcher q s old → (done : List Did) (new : State)
    → WatchesAlong q s old done new → IsWatchedRun q s old done new
watched_run q s old sound watcher [] new w = record {
  happenings = [];
  is_run = tt;
  is_after = ap core_of (sym w);
  along = (watcher_subscribes q s old watcher).1;
  spelled = tt;
}
watched_run q s old sound watcher (d ∷ done) new w =
    let step = w.1.step in
    let first = machine_refines_core old d.event d.effect w.0 step sound in
    let rest = watched_run q s w.0 (step_sound old d.event d.effect w.0 step sound) w.1.behind done new w.2 in
    let hs = first.happenings in
    let ks = rest.happenings in
    let before = watcher_subscribes q s old w.1.before in
    let behind = watcher_subscribes q s w.0 w.1.behind in record {
      happenings = hs ++ ks;
      is_run = core_run_more (core_of old) hs ks first.is_run
          (subst (λ (c : Core). CoreRun c ks) (sym first.is_after) rest.is_run);
      is_after = state_more (core_of old) hs ks ∙ ap (λ (c : Core). state_after c ks) first.is_after ∙ rest.is_after;
      along = along_more s (listed_name q) (core_of old) hs ks
          (short_along s (listed_name q) (core_of old) hs
          (short_events old.store.queries d.event (map (λ (h : Happening). h.event) hs) first.events) first.is_run before.1
          (subst (λ (c : Core). Subscribes s (listed_name q) c) (sym first.is_after) behind.1))
          (subst (λ (c : Core). IsSubscribedAlong s (listed_name q) c ks) (sym first.is_after) rest.along);
      spelled = subst (λ ms. AreSpelled IsSpelled ms (parts_for s d.effect.queued ++ parts_to s done))
          (sym (sent_more s hs ks))
          (spelled_append IsSpelled (all_sent s hs) (all_sent s ks) (parts_for s d.effect.queued) (parts_to s done)
          (spelled_as (SpellsBy d.event (core_of old) (core_of w.0)) IsSpelled
          (λ m text j. (d.event, core_of old, core_of w.0, j)) (all_sent s hs)
          (parts_for s d.effect.queued) (first.spelled s behind.0)) rest.spelled);
    }

pub machine_subscribers_have_answers : MachineSubscribersHaveAnswers
machine_subscribers_have_answers start h before old earlier [] new s q w ts listing =
    record {
      messages = [];
      spelled = tt;
      whole = refl;
      listing = subst (λ (st : State). IsListing (AnswersOf st.store.relations q) ts) (sym w) listing;
    }
machine_subscribers_have_answers start h before old earlier (d ∷ done) new s q w ts listing =
    let sound = runs_keep_sound start before old earlier (start_sound start h) in
    let r = watched_run q s old sound w.1.before (d ∷ done) new w in
    let after : IsSoundStore new.store = (runs_keep_sound old (d ∷ done) new
    (walk_as (WatchesStep q s) (λ o c n. Step o c.event c.effect n) (λ o c n k. k.step) old (d ∷ done) new w) sound).store in
    record {
      messages = all_sent s r.happenings;
      spelled = r.spelled;
      whole = all_bytes s (d ∷ done);
      listing = listing_as (AnswersOver (core_of new).db q) (AnswersOf new.store.relations q)
          (deltas_applied (listed_name q) ts (all_sent s r.happenings))
          (λ t a. answer_back new.store after q t a) (λ t a. answer_seen new.store after q t a)
          (subst (λ (c : Core). IsListing (AnswersOver c.db q)
          (deltas_applied (listed_name q) ts (all_sent s r.happenings))) r.is_after
          (subscribers_have_answers (core_of old) (reached start h before old earlier) r.happenings r.is_run s q ts
          w.1.before.registered r.along
          (listing_as (AnswersOf old.store.relations q) (AnswersOver (core_of old).db q) ts
          (λ t a. answer_seen old.store sound.store q t a) (λ t a. answer_back old.store sound.store q t a) listing)));
    }
