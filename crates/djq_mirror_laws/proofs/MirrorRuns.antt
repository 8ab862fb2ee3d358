-- What a mirror makes of all that a session was ever sent.
use Rattle.std.specs.Prelude.{ℕ, List, [], ◌∷◌, ◌++◌, ◌==◌, ◌≡◌, ◌&&◌, Bool, true, false, cond, Option, None, Some}
use Rattle.std.specs.Prelude.{MatchOption, option_map, All, IsSomeAnd, ◌<◌, ◌⊎◌, AllPairs}
use Rattle.std.proofs.Common.{refl, sym, ap, ap₂, ◌∙◌, subst, inr, append-nil, inl, arith, append_assoc}
use Rattle.std.proofs.lemmas.Grind.{flat_map-append}
use Rattle.std.proofs.lemmas.List.Elements.{All-nil, All-cons, All-append, All-head, All-tail, All-contains, All-weaker}
use Rattle.std.proofs.lemmas.Bool.{eqb-true}
use Rattle.djq_model.specs.Data.{Bytes, Tuple}
use Rattle.djq_model.specs.Listed.{Listed, listed_name}
use Rattle.djq_protocol.specs.declared.answer.EndLine.TheVariants.{Long as long_line, Slow as slow_line}
use Rattle.djq_protocol.specs.declared.answer.EndLine.TheVariants.{Memory as memory_line}
use Rattle.djq_protocol.specs.declared.command.Command.{Command}
use Rattle.djq_protocol.specs.declared.held.Verb.{Verb}
use Rattle.djq_protocol.specs.declared.held.Verb.TheVariants.{Add as Adds, Delete as Deletes}
use Rattle.djq_protocol.specs.declared.command.Command.TheVariants.{Add, Del, Done, Open, Next, Explain, Quit, Stop}
use Rattle.djq_protocol.specs.declared.answer.EndCause.{EndCause}
use Rattle.djq_protocol.specs.declared.answer.EndCause.TheVariants.{Quit as SaidQuit, Stop as SaidStop}
use Rattle.djq_protocol.specs.declared.answer.Refusal.TheVariants.{NoMemory, Misplaced}
use Rattle.djq_protocol.specs.Grammar.{Reading, outside, past_limit, says_command, reading_of, takes_memory_to_read}
use Rattle.djq_protocol.specs.Reply.{end_long, end_slow, end_memory, bye as bye_line}
use Rattle.djq_mirror.specs.Replies.{Reply, ended as is_ended}
use Rattle.djq_mirror.specs.Mirror.{Held, at_first}
use Rattle.djq_mirror.specs.Inputs.{HoldsAtEnd}
use Rattle.djq_store_spec.specs.Store.{Store}
use Rattle.djq_store_spec.specs.Changes.{RowsOutcome, is_made, row_in, row_out, add_outcome, delete_outcome}
use Rattle.djq_store_spec.specs.DeltaCost.{Delta}
use Rattle.djq_store_spec.specs.Held.{HeldTransaction}
use Rattle.djq_store_spec.specs.Transaction.{lines_outcome}
use Rattle.djq_answer_laws.proofs.Lists.{some_there}
use Rattle.djq_machine.specs.State.{State, Session, session_of, with_session, ended_by}
use Rattle.djq_machine.specs.Effect.{Effect, lost_line, RefusedStep}
use Rattle.djq_machine.specs.Watch.{ChangeStep}
use Rattle.djq_machine.specs.LineStep.{LineOutcome, long, blank, slow, no_room, run, ReadStep, FrontStep, behind_line}
use Rattle.djq_machine.specs.Command.{without_batch, AddStep, DeleteStep, HoldStep, DoneStep, is_misplaced, CommandStep}
use Rattle.djq_machine.specs.Step.{Event, opened, fed, stepped, took, ended, closed, FedStep, TookStep, EndedStep, Acts}
use Rattle.djq_machine.specs.Step.{Step}
use Rattle.djq_machine.specs.Gives.{CursorsGive}
use Rattle.djq_machine.specs.Run.{Did, Run, to_session, out}
use Rattle.djq_machine.specs.Call.{cause_of, cause_in, IsOpen}
use Rattle.djq_machine.proofs.Relations.{walk_as}
use Rattle.djq_run_laws.specs.Rising.{AreRising}
use Rattle.djq_run_laws.specs.Sound.{IsSoundState, IsStart}
use Rattle.djq_run_laws.specs.Moved.{InputIsOver, input_ends, had_ended, SparesSession}
use Rattle.djq_run_laws.specs.Silent.{SessionIsOver, OpensNone}
use Rattle.djq_run_laws.specs.Watched.{WatchesStep}
use Rattle.djq_run_laws.specs.Sent.{opened_by, all_opened}
use Rattle.djq_run_laws.proofs.Deltas.{change_store, some_of}
use Rattle.djq_run_laws.proofs.Forms.{Reads as LineReads, turned_down, carried_out, line_reads}
use Rattle.djq_run_laws.proofs.Cursors.{step_gives, runs_give}
use Rattle.djq_run_laws.proofs.CursorListings.{nothing_given}
use Rattle.djq_run_laws.proofs.Lists.{session_changed, stepped_cause, stepped_open, found_there, found_passes}
use Rattle.djq_run_laws.proofs.SoundStates.{step_sound, states_are_sound, runs_keep_sound, start_sound}
use Rattle.djq_run_laws.proofs.Courses.{ended_facts, walk_then}
use Rattle.djq_run_laws.proofs.EndedSessions.{closed_is_over, over_is_silent, all_above, all_apart, behind}
use Rattle.djq_run_laws.proofs.TakenLines.{Later, later as rises}
use Rattle.djq_run_laws.proofs.Events.{acts_moves, step_open}
use Rattle.djq_mirror_laws.specs.Sayable.{IsSayableStore, IsSayableState}
use Rattle.djq_mirror_laws.specs.Told.{replies_text}
use Rattle.djq_mirror_laws.specs.Mirrored.{RepliesPass, IsMirrored, SessionReads, ReadersAreReadBack, AsksNoListing}
use Rattle.djq_mirror_laws.specs.Mirrored.{SaysNoListing, WaitsAlong, ReadersAreMirrored, StartsAreMirrored, EndsNow}
use Rattle.djq_mirror_laws.specs.Mirrored.{EndsAreMirrored, WaitsStep, IsReadBack, SaysItLeaves}
use Rattle.djq_mirror_laws.specs.Whole.{LeavesOff, SessionsAreReadBack, GoesOnBehind, ReadsSinceOpened, OpensOnceOnly}
use Rattle.djq_mirror_laws.specs.Whole.{OpenedAreReadBack}
use Rattle.djq_mirror_laws.proofs.Deltas.{all_heard, own_replies, text_append, change_heard}
use Rattle.djq_mirror_laws.proofs.PrintedLines.{mirrored_are_held}
use Rattle.djq_mirror_laws.proofs.MirrorSteps.{IsWell, watchers_are_well}
use Rattle.djq_mirror_laws.proofs.MirrorReplies.{passes_then, passes_told}
use Rattle.djq_mirror_laws.proofs.StoredNames.{IsFine}
use Rattle.djq_mirror_laws.proofs.Replies.{ExplainsNone, IsPlain, IsHarmless, Fits, OfForm, of_form, any_talk, talks}
use Rattle.djq_mirror_laws.proofs.Replies.{held_replies, command_replies, refused_replies, none_of, still_lines}
use Rattle.djq_mirror_laws.proofs.Replies.{leaves_still}
use Rattle.djq_mirror_laws.proofs.SayableStates.{step_sayable, states_are_sayable}
use Rattle.djq_mirror_laws.proofs.WatcherRuns.{ExplainsNothing, own_fine, Tame, tame_fits, reading_talks, event_talks}
use Rattle.djq_mirror_laws.proofs.WatcherRuns.{IsQuiet, Plain, quietly, quiet_to, ends_quiet, nothing_quiet, fed_quiet}
use Rattle.djq_mirror_laws.proofs.WatcherRuns.{ended_quiet, changed_session, changed_rising, few_held, added_form}
use Rattle.djq_mirror_laws.proofs.WatcherRuns.{deleted_form, lines_form, seq_small}

-- ---- What a session is sent before it watches a query, and as it ends.

nothing_heard : (ws : List Bytes) → ws ≡ [] → (n : ℕ) (ds : List Delta) → all_heard ws n ds ≡ []
nothing_heard ws e n ds = ap (λ (vs : List Bytes). all_heard vs n ds) e ∙ by ds
  where
    by : (ks : List Delta) → all_heard [] n ks ≡ []
    by [] = refl
    by (k ∷ ks) = by ks

-- one that watches nothing
module _ (s : ℕ) (old : State) (x : Session) (is : session_of old s ≡ Some x) (rising : AreRising old)
    (none : x.watches ≡ []) where
  change_plain : (t : ℕ) (outcome : RowsOutcome) (store : Store) (reply : Bytes) (e : Effect) (mid : State) (U : Type 0)
      (f : OfForm reply false U)
      → ChangeStep old t outcome store reply e mid → cause_of mid s ≡ None → (talk : Bool) → Plain s e.queued talk U
  change_plain t outcome store reply e mid U f h running talk = record {
    replies = own_replies s x.watches (t == s) f.reply;
    text = change_heard s x old is t outcome store reply f.reply e mid rising f.is h running
        ∙ ap (λ rs. replies_text (rs ++ own_replies s x.watches (t == s) f.reply))
        (nothing_heard x.watches none store.seq (cond (is_made outcome) h.deltas []));
    plain = plain_own (t == s);
    harmless = λ k. harmless_own (t == s);
    fine = λ u. own_fine (t == s) f.reply (f.fine u);
  }
    where
      plain_own : (b : Bool) → All IsPlain (cond b (f.reply ∷ []) [])
      plain_own true = All-cons IsPlain f.reply [] f.plain (All-nil IsPlain)
      plain_own false = All-nil IsPlain

      harmless_own : (b : Bool) → All IsHarmless (cond b (f.reply ∷ []) [])
      harmless_own true = All-cons IsHarmless f.reply [] (f.harmless refl) (All-nil IsHarmless)
      harmless_own false = All-nil IsHarmless

module _ (s : ℕ) (old : State) (x : Session) (is : session_of old s ≡ Some x) (rising : AreRising old)
    (none : x.watches ≡ [])
    (t : ℕ) (y : Session) (l : Bytes) (e : Effect) (mid : State) (running : cause_of mid s ≡ None) where
  -- what is queued, where this is read
  abbrev PlainOf : Reading → Type 0
  PlainOf r = Plain s e.queued ((t == s) && reading_talks r) (Fits s t old.store y r e mid.store)

  held_plain : (r : Reading) (held : HeldTransaction) (verb : Verb) (name : Bytes) (row : Tuple)
      → reading_talks r ≡ false
      → HoldStep old t held l verb name row e mid → PlainOf r
  held_plain r held verb name row none h =
      quiet_to s e.queued ((t == s) && reading_talks r)
      (inr (t, false, held_replies old t held l verb name row e mid h, ap (λ (b : Bool). (t == s) && b) none))

  add_plain : (name : Bytes) (row : Tuple) (batch : Option HeldTransaction)
      → MatchOption batch (AddStep old t name row e mid) (λ held. HoldStep old t held l Adds name row e mid)
      → PlainOf (says_command (Add name row))
  add_plain name row None h =
      let left = change_store old t _ h.store _ e mid h.change in
      change_plain s old x is rising none t (add_outcome (row_in old.store.relations name row) h.result) h.store _ e mid
      (Fits s t old.store y (says_command (Add name row)) e mid.store)
      (added_form old.store name row h.result h.store h.done (λ u. seq_small h.store mid left u.behind))
      h.change running ((t == s) && false)
  add_plain name row (Some held) h = held_plain (says_command (Add name row)) held Adds name row refl h

  delete_plain : (name : Bytes) (row : Tuple) (batch : Option HeldTransaction)
      → MatchOption batch (DeleteStep old t name row e mid) (λ held. HoldStep old t held l Deletes name row e mid)
      → PlainOf (says_command (Del name row))
  delete_plain name row None h =
      let left = change_store old t _ h.store _ e mid h.change in
      change_plain s old x is rising none t (delete_outcome (row_out old.store.relations name row) h.result) h.store _ e
      mid
      (Fits s t old.store y (says_command (Del name row)) e mid.store)
      (deleted_form old.store name row h.result h.store h.done (λ u. u.sound)
      (λ u. seq_small h.store mid left u.behind))
      h.change running ((t == s) && false)
  delete_plain name row (Some held) h = held_plain (says_command (Del name row)) held Deletes name row refl h

  done_plain : (given : Option ℕ) (batch : Option HeldTransaction) → y.batch ≡ batch
      → MatchOption batch ⊥ (λ held. DoneStep old t held given e mid)
      → PlainOf (says_command (Done given))
  done_plain given None at h = absurd h
  done_plain given (Some held) at h =
      let begun = with_session old t without_batch in
      let z = changed_session old t without_batch (λ k. refl) (λ k. refl) s x is in
      let left = change_store begun t _ h.store _ e mid h.change in
      change_plain s begun z.0 z.1 (changed_rising old t without_batch (λ k. refl) rising) (z.2 ∙ none) t
      (lines_outcome old.store.relations held.lines h.result) h.store _ e mid
      (Fits s t old.store y (says_command (Done given)) e mid.store)
      (lines_form old.store held given h.result h.store h.done (λ u. few_held y.batch held at u.few)
      (λ u. seq_small h.store mid left u.behind)) h.change running ((t == s) && false)

  command_plain : (c : Command) → CommandStep old t y l c e mid → PlainOf (says_command c)
  command_plain (Add name row) h = add_plain name row y.batch h
  command_plain (Del name row) h = delete_plain name row y.batch h
  command_plain (Done given) h = done_plain given y.batch refl h
  command_plain c h =
      quiet_to s e.queued ((t == s) && talks c) (inr (t, talks c, command_replies s old t y l c e mid tt h, refl))

  read_plain : (r : Reading) → ReadStep old t y l r e mid → PlainOf r
  read_plain r h = by (line_reads old t y l r e mid h)
    where
      by : LineReads old t y l r e mid → PlainOf r
      by (turned_down why because d) =
          quiet_to s e.queued ((t == s) && reading_talks r)
          (inr (t, reading_talks r, any_talk t e.queued (reading_talks r) (refused_replies old t why e mid d), refl))
      by (carried_out c says d) = subst (λ (w : Reading). PlainOf w) (sym says) (command_plain c d)

tamed_plain : (s : ℕ) (queued : List (ℕ × Bytes)) (talk : Bool) (U V : Type 0) → (V → U) → Plain s queued talk U
    → Plain s queued talk V
tamed_plain s queued talk U V f k = record {
  replies = k.replies;
  text = k.text;
  plain = k.plain;
  harmless = k.harmless;
  fine = λ v. k.fine (f v);
}

module _ (s : ℕ) (old : State) (x : Session) (is : session_of old s ≡ Some x) (rising : AreRising old)
    (none : x.watches ≡ []) where
  front_plain : (t : ℕ) (z : Session) → session_of old t ≡ Some z → (outcome : LineOutcome) (e : Effect) (mid : State)
      → cause_of mid s ≡ None → FrontStep old t z outcome e mid
      → Plain s e.queued (event_talks s (stepped t outcome)) (Tame s old (stepped t outcome) e)
  front_plain t z found long e mid running h =
      quiet_to s e.queued false
      (ends_quiet s t end_long _ old e mid
      (of_form end_long (is_ended long_line) refl (λ name. refl) (λ u. (tt, tt))) h.1)
  front_plain t z found (blank l) e mid running h = quiet_to s e.queued false (nothing_quiet s e h.1.then.0)
  front_plain t z found (slow l) e mid running h =
      quiet_to s e.queued false
      (ends_quiet s t end_slow _ _ e mid (of_form end_slow (is_ended slow_line) refl (λ name. refl) (λ u. (tt, tt)))
      h.2.then)
  front_plain t z found (no_room l) e mid running h =
      quiet_to s e.queued false
      (ends_quiet s t end_memory _ _ e mid
      (of_form end_memory (is_ended memory_line) refl (λ name. refl) (λ u. (tt, tt))) h.2.then)
  front_plain t z found (run l) e mid running h =
      let rest = h.2.rest in
      let y = changed_session old t (behind_line rest) (λ k. refl) (λ k. refl) s x is in
      tamed_plain s e.queued (event_talks s (stepped t (run l)))
      (Fits s t old.store (behind_line rest z) (reading_of l) e mid.store)
      (Tame s old (stepped t (run l)) e) (tame_fits s t old z l e mid found h)
      (read_plain s (with_session old t (behind_line rest)) y.0 y.1
      (changed_rising old t (behind_line rest) (λ k. refl) rising) (y.2 ∙ none) t (behind_line rest z) l e mid running
      (reading_of l) h.2.then)

  acts_plain : (event : Event) (e : Effect) (mid : State) → cause_of mid s ≡ None → Acts old event e mid
      → Plain s e.queued (event_talks s event) (Tame s old event e)
  acts_plain (opened t) e mid running h = quiet_to s e.queued false (nothing_quiet s e h.0)
  acts_plain (fed t bytes) e mid running h =
      let f = some_there (session_of old t) (λ z. FedStep old t bytes z e mid) h in
      quiet_to s e.queued false (fed_quiet s old t bytes e mid (f.0).cause f.2)
  acts_plain (stepped t outcome) e mid running h =
      let f = some_there (session_of old t) (λ z. (z.cause ≡ None) × FrontStep old t z outcome e mid) h in
      front_plain t f.0 f.1 outcome e mid running f.2.1
  acts_plain (took t bytes) e mid running h =
      let f = some_there (session_of old t) (λ z. TookStep old t bytes z e mid) h in
      quiet_to s e.queued false (nothing_quiet s e f.2.0)
  acts_plain (ended t) e mid running h =
      let f = some_there (session_of old t) (λ z. EndedStep old t z e mid) h in
      quiet_to s e.queued false (ended_quiet s old t f.0 e mid f.2)
  acts_plain (closed t bytes) e mid running h = quiet_to s e.queued false (nothing_quiet s e h.0)

-- ---- before it watches

no_talk_command : (c : Command) → AsksNoListing (says_command c) → talks c ≡ false
no_talk_command (Open c q) h = absurd h
no_talk_command (Next c count) h = absurd h
no_talk_command (Explain q) h = absurd h
no_talk_command c h = refl

no_talk_reading : (r : Reading) → AsksNoListing r → reading_talks r ≡ false
no_talk_reading (says_command c) h = no_talk_command c h
no_talk_reading outside h = refl
no_talk_reading (past_limit c) h = refl

no_talk_event : (s : ℕ) (event : Event) → SaysNoListing s event → event_talks s event ≡ false
no_talk_event s (stepped t (run l)) h = by (t == s) refl
  where
    by : (b : Bool) → (t == s) ≡ b → (b && reading_talks (reading_of l)) ≡ false
    by true e = no_talk_reading (reading_of l) (h e)
    by false e = refl
no_talk_event s (stepped t long) h = refl
no_talk_event s (stepped t (blank l)) h = refl
no_talk_event s (stepped t (slow l)) h = refl
no_talk_event s (stepped t (no_room l)) h = refl
no_talk_event s (opened t) h = refl
no_talk_event s (fed t bytes) h = refl
no_talk_event s (took t bytes) h = refl
no_talk_event s (ended t) h = refl
no_talk_event s (closed t bytes) h = refl

explains_none : (s : ℕ) (event : Event) → SaysNoListing s event → ExplainsNothing s event
explains_none s (stepped t (run l)) h = λ same. of (reading_of l) (h same)
  where
    of_command : (c : Command) → AsksNoListing (says_command c) → ExplainsNone (says_command c)
    of_command (Explain q) k = absurd k
    of_command c k = tt

    of : (r : Reading) → AsksNoListing r → ExplainsNone r
    of (says_command c) k = of_command c k
    of outside k = tt
    of (past_limit c) k = tt
explains_none s event h = tt

-- what is held stays, where nothing is told of the query
plain_passes : (name : Bytes) (held : Held) (rs : List Reply) → All IsPlain rs → All IsHarmless rs
    → RepliesPass name held rs held
plain_passes name held rs plain harmless =
    passes_told name held held rs harmless
    (subst (λ (ts : List Reply). RepliesPass name held ts held) (sym (none_of name rs plain)) refl)

record Waited (s : ℕ) (done : List Did) (new : State) : Type 0 where
  replies : List Reply
  whole : out s done ≡ replies_text replies
  plain : All IsPlain replies
  harmless : All IsHarmless replies
  printed : All IsFine replies
  sound : IsSoundState new
  fine : IsSayableState new
  gives : CursorsGive new

waited : (s : ℕ) (old : State) → IsSoundState old → IsSayableState old → CursorsGive old
    → (done : List Did) (new : State)
    → WaitsAlong s old done new → Waited s done new
waited s old sound fine gives [] new walk = record {
  replies = [];
  whole = refl;
  plain = All-nil IsPlain;
  harmless = All-nil IsHarmless;
  printed = All-nil IsFine;
  sound = subst IsSoundState (sym walk) sound;
  fine = subst IsSayableState (sym walk) fine;
  gives = subst CursorsGive (sym walk) gives;
}
waited s old sound fine gives (d ∷ done) new walk =
    let h = walk.1 in
    let f = some_there (session_of old s) (λ x. (x.cause ≡ None) × (x.watches ≡ []) × (x.cursors ≡ [])) h.before in
    let g = some_there (session_of walk.0 s) (λ x. x.cause ≡ None) h.behind in
    let running : cause_of (h.step.mid) s ≡ None =
    sym (stepped_cause old d.event d.effect walk.0 h.step s) ∙ ap cause_in g.1 ∙ g.2 in
    let one = acts_plain s old f.0 f.1 sound.rising f.2.1 d.event d.effect (h.step.mid) running h.step.acts in
    let more = waited s walk.0 (step_sound old d.event d.effect walk.0 h.step sound)
    (step_sayable old d.event d.effect walk.0 h.step fine) (step_gives old d.event d.effect walk.0 h.step gives) done
    new walk.2 in
    record {
      replies = one.replies ++ more.replies;
      whole = ap₂ (λ (xs ys : Bytes). xs ++ ys) one.text more.whole ∙ sym (text_append one.replies more.replies);
      plain = All-append IsPlain one.replies more.replies one.plain more.plain;
      harmless = All-append IsHarmless one.replies more.replies (one.harmless (no_talk_event s d.event h.says))
          more.harmless;
      printed = All-append IsFine one.replies more.replies
          (one.fine (record { sound = sound; fine = fine; no_tree = explains_none s d.event h.says })) more.printed;
      sound = more.sound;
      fine = more.fine;
      gives = more.gives;
    }

pub out_append : (s : ℕ) (xs ys : List Did) → out s (xs ++ ys) ≡ out s xs ++ out s ys
out_append s xs ys = flat_map-append (λ (d : Did). to_session s d.effect.queued) xs ys

readers_are_well : (q : Listed) (s : ℕ) (first : State) → IsSoundState first → IsSayableState first
    → CursorsGive first → (fore : List Did) (old : State) (done : List Did) (new : State)
    → SessionReads q s first fore old done new → IsWell q s (fore ++ done) new
readers_are_well q s first sound fine gives fore old done new h =
    let w = waited s first sound fine gives fore old h.waits in
    let k = watchers_are_well q s old w.sound w.fine w.gives h.none done new h.walk h.reads in
    let m = k.mirrored in record {
      mirrored = record {
        replies = w.replies ++ m.replies;
        whole = out_append s fore done ∙ ap₂ (λ (xs ys : Bytes). xs ++ ys) w.whole m.whole
            ∙ sym (text_append w.replies m.replies);
        held = m.held;
        passes = passes_then (listed_name q) at_first at_first m.held w.replies m.replies
            (plain_passes (listed_name q) at_first w.replies w.plain w.harmless) m.passes;
        live = m.live;
      };
      fine = All-append IsFine w.replies m.replies w.printed k.fine;
    }

pub readers_are_mirrored : ReadersAreMirrored
readers_are_mirrored q s first sound fine gives fore old done new h =
    (readers_are_well q s first sound fine gives fore old done new h).mirrored

starts_are_well : (start : State) → IsStart start → IsSayableStore start.store → (q : Listed) (s : ℕ)
    (earlier : List Did) (first : State) → Run start earlier first → (fore : List Did) (old : State)
    (done : List Did) (new : State) → SessionReads q s first fore old done new → IsWell q s (fore ++ done) new
starts_are_well start h said q s earlier first walk fore old done new reads =
    readers_are_well q s first (states_are_sound start h earlier first walk)
    (states_are_sayable start h said earlier first walk)
    (runs_give start earlier first walk (nothing_given start h)) fore old done new reads

pub starts_are_mirrored : StartsAreMirrored
starts_are_mirrored start h said q s earlier first walk fore old done new reads =
    (starts_are_well start h said q s earlier first walk fore old done new reads).mirrored

-- ---- as it ends

-- `quit` and `stop`: the lines of a batch are dropped, and the session has a cause
record SaidGoodbye (old : State) (t : ℕ) (x : Session) (e : Effect) (new : State) : Type 0 where
  queued : e.queued ≡ (t, lost_line x.batch ++ bye_line) ∷ []
  cause : EndCause
  from : State
  there : session_of from t ≡ session_of old t
  state : new ≡ with_session from t (ended_by cause)

-- what a command comes to, by whether it is misplaced
abbrev IfRead : State → ℕ → Session → Bytes → Command → Effect → State → Bool → Type 0
IfRead old t x l c e new true = CommandStep old t x l c e new
IfRead old t x l c e new false = (takes_memory_to_read c ≡ true) × RefusedStep old t NoMemory e new

abbrev IsDone : State → ℕ → Session → Bytes → Command → Effect → State → Bool → Type 0
IsDone old t x l c e new true = RefusedStep old t Misplaced e new
IsDone old t x l c e new false = (is_read : Bool) × IfRead old t x l c e new is_read

never_refused : (old : State) (t : ℕ) (x : Session) (l : Bytes) (c : Command) (e : Effect) (new : State)
    → is_misplaced x.batch c ≡ false → takes_memory_to_read c ≡ false
    → ReadStep old t x l (says_command c) e new → CommandStep old t x l c e new
never_refused old t x l c e new placed reads h = by (is_misplaced x.batch c) placed h
  where
    by : (b : Bool) → b ≡ false → IsDone old t x l c e new b → CommandStep old t x l c e new
    by true k h = absurd cc
    by false k (true, h) = h
    by false k (false, h) = let both : true ≡ false = sym h.0 ∙ reads in absurd cc

quit_placed : (o : Option HeldTransaction) → is_misplaced o Quit ≡ false
quit_placed None = refl
quit_placed (Some held) = refl

stop_placed : (o : Option HeldTransaction) → is_misplaced o Stop ≡ false
stop_placed None = refl
stop_placed (Some held) = refl

says_goodbye : (old : State) (t : ℕ) (x : Session) (l : Bytes) (r : Reading) (e : Effect) (new : State) → SaysItLeaves r
    → ReadStep old t x l r e new → SaidGoodbye old t x e new
says_goodbye old t x l (says_command Quit) e new says h =
    let k = never_refused old t x l Quit e new (quit_placed x.batch) refl h in record {
      queued = ap (λ (y : Effect). y.queued) k.0;
      cause = SaidQuit;
      from = old;
      there = refl;
      state = k.1;
    }
says_goodbye old t x l (says_command Stop) e new says h =
    let k = never_refused old t x l Stop e new (stop_placed x.batch) refl h in record {
      queued = ap (λ (y : Effect). y.queued) k.0;
      cause = SaidStop;
      from = record old { stopped = true };
      there = refl;
      state = k.1;
    }
says_goodbye old t x l (says_command c) e new says h = absurd says
says_goodbye old t x l outside e new says h = absurd says
says_goodbye old t x l (past_limit c) e new says h = absurd says

end_quiet : {U : Type 0} (s : ℕ) (old : State) (event : Event) (e : Effect) (mid : State) → EndsNow s event
    → Acts old event e mid
    → IsQuiet s e.queued false U
end_quiet s old (ended t) e mid now h =
    let f = some_there (session_of old t) (λ z. EndedStep old t z e mid) h in ended_quiet s old t f.0 e mid f.2
end_quiet s old (closed t bytes) e mid now h = nothing_quiet s e h.0
end_quiet s old (stepped t (run l)) e mid now h =
    let f = some_there (session_of old t) (λ z. (z.cause ≡ None) × FrontStep old t z (run l) e mid) h in
    let rest = f.2.1.2.rest in
    let k = says_goodbye (with_session old t (behind_line rest)) t (behind_line rest f.0) l (reading_of l) e mid now.1
    f.2.1.2.then in
    quietly s t e.queued
    (still_lines t (lost_line (f.0).batch ++ bye_line) e.queued (leaves_still (f.0).batch) k.queued)
end_quiet s old (stepped t long) e mid now h = absurd now
end_quiet s old (stepped t (blank l)) e mid now h = absurd now
end_quiet s old (stepped t (slow l)) e mid now h = absurd now
end_quiet s old (stepped t (no_room l)) e mid now h = absurd now
end_quiet s old (opened t) e mid now h = absurd now
end_quiet s old (fed t bytes) e mid now h = absurd now
end_quiet s old (took t bytes) e mid now h = absurd now

module _ (q : Listed) (s : ℕ) (done : List Did) (new : State) (m : IsMirrored q s done new) (d : Did) (last : State)
    (step : Step new d.event d.effect last) (now : EndsNow s d.event) where
  one : Plain s d.effect.queued false (Unit {0})
  one = quiet_to s d.effect.queued false (end_quiet s new d.event d.effect (step.mid) now step.acts)

  pub end_mirrored : IsMirrored q s (done ++ d ∷ []) new
  end_mirrored = record {
    replies = m.replies ++ one.replies;
    whole = out_append s done (d ∷ []) ∙ ap₂ (λ (xs ys : Bytes). xs ++ ys) m.whole
        (append-nil (to_session s d.effect.queued) ∙ one.text) ∙ sym (text_append m.replies one.replies);
    held = m.held;
    passes = passes_then (listed_name q) at_first m.held m.held m.replies one.replies m.passes
        (plain_passes (listed_name q) m.held one.replies one.plain (one.harmless refl));
    live = m.live;
  }

  pub end_fine : All IsFine m.replies → All IsFine end_mirrored.replies
  unfolding end_mirrored
  end_fine h = All-append IsFine m.replies one.replies h (one.fine tt)

pub ends_are_mirrored : EndsAreMirrored
ends_are_mirrored q s done new m d last step now = end_mirrored q s done new m d last step now

-- ---- in bytes

pub readers_are_read_back : ReadersAreReadBack
readers_are_read_back start h said q s earlier first walk fore old done new reads =
    let k = starts_are_well start h said q s earlier first walk fore old done new reads in
    let fine = k.fine in (
      record {
        held = k.mirrored.held;
        input = mirrored_are_held q s (fore ++ done) new k.mirrored fine;
        live = k.mirrored.live;
      },
      λ d last step now.
          let m = end_mirrored q s (fore ++ done) new k.mirrored d last step now in record {
            held = m.held;
            input = mirrored_are_held q s ((fore ++ done) ++ d ∷ []) new m
                (end_fine q s (fore ++ done) new k.mirrored d last step now fine);
            live = m.live;
          },
    )

-- ---- What a mirror makes of all that a session was ever sent: nothing is queued to it before, or behind its end.

-- a session that has a cause to end doesn't go on
caused_over : (st : State) (s : ℕ) (cause : EndCause) → cause_of st s ≡ Some cause → SessionIsOver st s
caused_over st s cause e goes = by (session_of st s) e goes
  where
    both : (c : Option EndCause) → c ≡ Some cause → c ≡ None → ⊥
    both None h k = absurd cc
    both (Some d) h k = absurd cc

    by : (o : Option Session) → cause_in o ≡ Some cause → IsSomeAnd o (λ x. x.cause ≡ None) → ⊥
    by None h k = k
    by (Some x) h k = both x.cause h k

ends_over : (s : ℕ) (old : State) (event : Event) (e : Effect) (new : State) → Step old event e new → EndsNow s event
    → SessionIsOver new s
ends_over s old (ended t) e new h now =
    subst (λ (i : ℕ). SessionIsOver new i) now (by (ended_facts old t e new h))
  where
    by : InputIsOver old new t → SessionIsOver new t
    by (input_ends there running cause held dry sent) = caused_over new t _ cause
    by (had_ended there c was cause held pending) = caused_over new t c cause
ends_over s old (closed t bytes) e new h now =
    subst (λ (i : ℕ). SessionIsOver new i) now (closed_is_over old t bytes e new h)
ends_over s old (stepped t (run l)) e new h now =
    let f = some_there (session_of old t) (λ z. (z.cause ≡ None) × FrontStep old t z (run l) e (h.mid)) h.acts in
    let rest = f.2.1.2.rest in
    let k = says_goodbye (with_session old t (behind_line rest)) t (behind_line rest f.0) l (reading_of l) e (h.mid)
    now.1 f.2.1.2.then in
    let here : session_of k.from t ≡ Some (behind_line rest f.0) =
    k.there ∙ session_changed old t (behind_line rest) (λ y. refl) ∙ ap (λ o. option_map (behind_line rest) o) f.1 in
    let caused : cause_of (h.mid) t ≡ Some k.cause =
    ap (λ st. cause_of st t) k.state ∙ ap cause_in (session_changed k.from t (ended_by k.cause) (λ y. refl))
    ∙ ap (λ o. cause_in (option_map (ended_by k.cause) o)) here in
    subst (λ (i : ℕ). SessionIsOver new i) now.0
    (caused_over new t k.cause (stepped_cause old (stepped t (run l)) e new h t ∙ caused))
ends_over s old (stepped t long) e new h now = absurd now
ends_over s old (stepped t (blank l)) e new h now = absurd now
ends_over s old (stepped t (slow l)) e new h now = absurd now
ends_over s old (stepped t (no_room l)) e new h now = absurd now
ends_over s old (opened t) e new h now = absurd now
ends_over s old (fed t bytes) e new h now = absurd now
ends_over s old (took t bytes) e new h now = absurd now

-- the same bytes
same_read_back : (q : Listed) (s : ℕ) (done whole : List Did) (at : State) → out s whole ≡ out s done
    → IsReadBack q s done at → IsReadBack q s whole at
same_read_back q s done whole at same h = record {
  held = h.held;
  input = subst (λ (bytes : Bytes). HoldsAtEnd (listed_name q) bytes h.held) (sym same) h.input;
  live = h.live;
}

-- a reader's state is reached by a run
reads_run : (q : Listed) (s : ℕ) (first : State) (fore : List Did) (old : State) (done : List Did) (at : State)
    → SessionReads q s first fore old done at → Run first fore old × Run old done at
reads_run q s first fore old done at h = (
  walk_as (WaitsStep s) (λ (o : State) (d : Did) (n : State). Step o d.event d.effect n) (λ o d n k. k.step) first fore
      old h.waits,
  walk_as (WatchesStep q s) (λ (o : State) (d : Did) (n : State). Step o d.event d.effect n) (λ o d n k. k.step) old
      done at h.walk,
)

pub sessions_are_read_back : SessionsAreReadBack
sessions_are_read_back start h said q s whole at new r = by r.later r.leaves r.is
  where
    done : List Did
    done = r.fore ++ r.done

    sound : IsSoundState at
    sound =
        let runs = reads_run q s r.first r.fore r.old r.done at r.reads in
        runs_keep_sound r.old r.done at runs.1
        (runs_keep_sound r.first r.fore r.old runs.0 (states_are_sound start h r.earlier r.first r.comes))

    first_out : (later : List Did) → out s (r.earlier ++ (done ++ later)) ≡ out s done ++ out s later
    first_out later =
        out_append s r.earlier (done ++ later)
        ∙ ap (λ (bytes : Bytes). bytes ++ out s (done ++ later)) r.unsaid
        ∙ out_append s done later

    by : (later : List Did) → LeavesOff s at later new → whole ≡ r.earlier ++ (done ++ later) → IsReadBack q s whole at
    by [] leaves is =
        same_read_back q s done whole at
        (ap (λ (ds : List Did). out s ds) is ∙ first_out [] ∙ append-nil (out s done))
        (readers_are_read_back start h said q s r.earlier r.first r.comes r.fore r.old r.done at r.reads).0
    by (d ∷ later) leaves is =
        let mid = leaves.0 in
        let behind = over_is_silent s mid (step_sound at d.event d.effect mid leaves.1 sound)
        (ends_over s at d.event d.effect mid leaves.1 leaves.2) later new leaves.3 leaves.4 in
        same_read_back q s (done ++ d ∷ []) whole at
        (ap (λ (ds : List Did). out s ds) is ∙ first_out (d ∷ later)
        ∙ ap (λ (bytes : Bytes). out s done ++ (to_session s d.effect.queued ++ bytes)) behind.silent
        ∙ sym (out_append s done (d ∷ [])))
        ((readers_are_read_back start h said q s r.earlier r.first r.comes r.fore r.old r.done at r.reads).1 d mid
        leaves.1 leaves.2)

-- ---- A session that is read back from its opening on: before it isn't there, and it opens once.

-- ---- sessions by id

apart_below : (s t : ℕ) → t < s → (t == s) ≡ false
apart_below s t less = by (t == s) refl
  where
    by : (b : Bool) → (t == s) ≡ b → b ≡ false
    by false e = refl
    by true e = let same : t ≡ s = eqb-true t s e in absurd (omega (arith, less, same))

-- a session that is there isn't below its own id
not_below : (st : State) (s : ℕ) → All (λ x. x.id < s) st.sessions → IsOpen st s → ⊥
not_below st s below there =
    let f = some_of (session_of st s) there in
    let less : (f.0).id < s =
    All-contains (λ (x : Session). x.id < s) st.sessions f.0 below
    (found_there (λ (x : Session). x.id == s) st.sessions f.0 f.1) in
    let same : (f.0).id ≡ s = eqb-true (f.0).id s (found_passes (λ (x : Session). x.id == s) st.sessions f.0 f.1) in
    absurd (omega (arith, less, same))

none_open : (st : State) (s : ℕ) → st.sessions ≡ [] → SessionIsOver st s
none_open st s none = subst (λ (xs : List Session). SessionIsOver (record st { sessions = xs }) s) (sym none) (λ h. h)

-- what an opening does
opens_below : (old : State) (s : ℕ) (event : Event) (e : Effect) (new : State) → event ≡ opened s → Step old event e new
    → All (λ x. x.id < s) old.sessions
opens_below old s event e new is h =
    (subst (λ (v : Event). Step old v e new) is h).acts.1

opens_quiet : (old : State) (s t : ℕ) (event : Event) (e : Effect) (new : State) → event ≡ opened s
    → Step old event e new
    → to_session t e.queued ≡ []
opens_quiet old s t event e new is h =
    ap (λ (d : Effect). to_session t d.queued) (subst (λ (v : Event). Step old v e new) is h).acts.0

-- ---- a session that isn't closed

run_open : (s : ℕ) (old : State) (done : List Did) (new : State) → Run old done new
    → All (λ d. SparesSession d.event s) done
    → IsOpen old s → IsOpen new s
run_open s old [] new w spares there = subst (λ (st : State). IsOpen st s) (sym w) there
run_open s old (d ∷ done) new w spares there =
    run_open s w.0 done new w.2 (All-tail (λ (c : Did). SparesSession c.event s) d done spares)
    (step_open old d.event d.effect w.0 w.1 s (All-head (λ (c : Did). SparesSession c.event s) d done spares) there)

-- nothing is queued to one that doesn't open
never_open : (s : ℕ) (old : State) (done : List Did) (new : State) → Run old done new
    → All (λ d. SparesSession d.event s) done
    → (IsOpen new s → ⊥) → out s done ≡ []
never_open s old [] new w spares none = refl
never_open s old (d ∷ done) new w spares none =
    let rest = All-tail (λ (c : Did). SparesSession c.event s) d done spares in
    ap₂ (λ (a b : Bytes). a ++ b)
    (by rest ((acts_moves old d.event d.effect (w.1).mid (w.1).acts s).there))
    (never_open s w.0 done new w.2 rest none)
  where
    by : All (λ (c : Did). SparesSession c.event s) done → IsOpen (w.1).mid s ⊎ (to_session s d.effect.queued ≡ [])
        → to_session s d.effect.queued ≡ []
    by rest (inl there) =
        absurd (none (run_open s w.0 done new w.2 rest (stepped_open old d.event d.effect w.0 w.1 s there)))
    by rest (inr quiet) = quiet

opens_other : (s : ℕ) (old : State) (event : Event) (e : Effect) (new : State) → Step old event e new → IsOpen old s
    → OpensNone s event
opens_other s old (opened t) e new h there = by (t == s) refl
  where
    by : (b : Bool) → (t == s) ≡ b → b ≡ false
    by false k = refl
    by true k =
        absurd (not_below old s
        (subst (λ (i : ℕ). All (λ (x : Session). x.id < i) old.sessions) (eqb-true t s k) h.acts.1) there)
opens_other s old (fed t bytes) e new h there = tt
opens_other s old (stepped t outcome) e new h there = tt
opens_other s old (took t bytes) e new h there = tt
opens_other s old (ended t) e new h there = tt
opens_other s old (closed t bytes) e new h there = tt

opens_none : (s : ℕ) (old : State) (done : List Did) (new : State) → Run old done new
    → All (λ d. SparesSession d.event s) done
    → IsOpen old s → All (λ d. OpensNone s d.event) done
opens_none s old [] new w spares there = All-nil (λ (d : Did). OpensNone s d.event)
opens_none s old (d ∷ done) new w spares there =
    All-cons (λ (c : Did). OpensNone s c.event) d done (opens_other s old d.event d.effect w.0 w.1 there)
    (opens_none s w.0 done new w.2 (All-tail (λ (c : Did). SparesSession c.event s) d done spares)
    (step_open old d.event d.effect w.0 w.1 s (All-head (λ (c : Did). SparesSession c.event s) d done spares) there))

-- it is open as it ends
ends_open : (s : ℕ) (old : State) (event : Event) (e : Effect) (new : State) → Step old event e new → EndsNow s event
    → IsOpen old s
ends_open s old (ended t) e new h now =
    let f = some_there (session_of old t) _ h.acts in subst (λ (i : ℕ). IsOpen old i) now (rw f.1 refl)
ends_open s old (closed t bytes) e new h now =
    let f = some_there (session_of old t) _ h.acts.1 in subst (λ (i : ℕ). IsOpen old i) now (rw f.1 refl)
ends_open s old (stepped t (run l)) e new h now =
    let f = some_there (session_of old t) _ h.acts in subst (λ (i : ℕ). IsOpen old i) now.0 (rw f.1 refl)
ends_open s old (stepped t long) e new h now = absurd now
ends_open s old (stepped t (blank l)) e new h now = absurd now
ends_open s old (stepped t (slow l)) e new h now = absurd now
ends_open s old (stepped t (no_room l)) e new h now = absurd now
ends_open s old (opened t) e new h now = absurd now
ends_open s old (fed t bytes) e new h now = absurd now
ends_open s old (took t bytes) e new h now = absurd now

-- ---- once

pub front : {A : Type 0} (P : A → Type 0) (xs ys : List A) → All P (xs ++ ys) → All P xs
front P [] ys h = All-nil P
front P (x ∷ xs) ys h = All-cons P x xs (All-head P x (xs ++ ys) h) (front P xs ys (All-tail P x (xs ++ ys) h))

opened_append : (xs ys : List Did) → all_opened (xs ++ ys) ≡ all_opened xs ++ all_opened ys
opened_append xs ys = flat_map-append (λ (d : Did). opened_by d.event) xs ys

-- What the two kinds of once come to: nothing before, and none of the id behind.
record IsAlone (s : ℕ) (earlier rest : List Did) : Type 0 where
  before : out s earlier ≡ []
  none : (done later : List Did) → rest ≡ done ++ later → (at : State) (d : Did) (new : State) → (more : List Did)
      → later ≡ d ∷ more → (mid : State) → Step at d.event d.effect mid → EndsNow s d.event → Run mid more new
      → All (λ e. OpensNone s e.event) more

once_rising : (start : State) → IsStart start → (s : ℕ) (earlier : List Did) (mid : State) → Run start earlier mid
    → (opening : Did) → opening.event ≡ opened s → (rest : List Did)
    → AllPairs (λ i j. i < j) (all_opened (earlier ++ (opening ∷ rest))) → IsAlone s earlier rest
once_rising start h s earlier mid comes opening is rest rising = record {
  before =
      (over_is_silent s start (start_sound start h) (none_open start s h.none) earlier mid comes
      (all_apart s earlier (All-weaker (λ i. All (λ j. i < j) (s ∷ all_opened rest)) (λ i. (i == s) ≡ false)
      (λ i above. apart_below s i (All-head (λ j. i < j) s (all_opened rest) above)) (all_opened earlier)
      ids.above))).silent;
  none = λ done later same at d new more is_later now step ends w.
      all_above s more (behind (λ j. s < j) (opened_by d.event) (all_opened more)
      (behind (λ j. s < j) (all_opened done) (all_opened (d ∷ more))
      (subst (λ (ids : List ℕ). All (λ j. s < j) ids)
      (ap (λ (ds : List Did). all_opened ds) (same ∙ ap (λ (ds : List Did). done ++ ds) is_later)
      ∙ opened_append done (d ∷ more))
      (All-head (λ i. All (λ j. i < j) (all_opened rest)) s [] (rises (s ∷ []) (all_opened rest) ids.rising).above))));
}
  where
    ids : Later (all_opened earlier) (s ∷ all_opened rest)
    ids =
        rises (all_opened earlier) (s ∷ all_opened rest)
        (subst (λ (is : List ℕ). AllPairs (λ i j. i < j) is)
        (opened_append earlier (opening ∷ rest)
        ∙ ap (λ (v : Event). all_opened earlier ++ (opened_by v ++ all_opened rest)) is) rising)

once_spared : (s : ℕ) (start : State) (earlier : List Did) (mid : State) → Run start earlier mid → (opening : Did)
    → opening.event ≡ opened s → (first : State) → Step mid opening.event opening.effect first → (rest : List Did)
    → All (λ d. SparesSession d.event s) (earlier ++ (opening ∷ rest)) → IsAlone s earlier rest
once_spared s start earlier mid comes opening is first opens rest spares = record {
  before =
      never_open s start earlier mid comes (front (λ (d : Did). SparesSession d.event s) earlier (opening ∷ rest)
      spares)
      (not_below mid s (opens_below mid s opening.event opening.effect first is opens));
  none = λ done later same at d new more is_later now step ends w.
      let kept : All (λ (c : Did). SparesSession c.event s) (d ∷ more) =
      behind (λ (c : Did). SparesSession c.event s) done (d ∷ more)
      (subst (λ (ds : List Did). All (λ (c : Did). SparesSession c.event s) ds)
      (same ∙ ap (λ (ds : List Did). done ++ ds) is_later)
      (All-tail (λ (c : Did). SparesSession c.event s) opening rest
      (behind (λ (c : Did). SparesSession c.event s) earlier (opening ∷ rest) spares))) in
      opens_none s now more new w (All-tail (λ (c : Did). SparesSession c.event s) d more kept)
      (step_open at d.event d.effect now step s (All-head (λ (c : Did). SparesSession c.event s) d more kept)
      (ends_open s at d.event d.effect now step ends));
}

is_alone : (start : State) → IsStart start → (q : Listed) (s : ℕ) (whole : List Did) (at new : State)
    → OpensOnceOnly s whole
    → (r : ReadsSinceOpened q s start whole at new) → IsAlone s r.earlier ((r.fore ++ r.done) ++ r.later)
is_alone start h q s whole at new (inl rising) r =
    once_rising start h s r.earlier r.mid r.comes r.opening r.is_opened ((r.fore ++ r.done) ++ r.later)
    (subst (λ (ds : List Did). AllPairs (λ i j. i < j) (all_opened ds)) r.is rising)
is_alone start h q s whole at new (inr spares) r =
    once_spared s start r.earlier r.mid r.comes r.opening r.is_opened r.first r.opens ((r.fore ++ r.done) ++ r.later)
    (subst (λ (ds : List Did). All (λ (d : Did). SparesSession d.event s) ds) r.is spares)

pub opened_are_read_back : OpenedAreReadBack
opened_are_read_back start h said q s whole at new once r =
    sessions_are_read_back start h said q s whole at new (record {
      earlier = r.earlier ++ r.opening ∷ [];
      first = r.first;
      comes = walk_then (λ (o : State) (d : Did) (n : State). Step o d.event d.effect n) start r.earlier r.mid
          (r.opening ∷ [])
          r.first r.comes (r.first, r.opens, refl);
      unsaid = out_append s r.earlier (r.opening ∷ [])
          ∙ ap₂ (λ (a b : Bytes). a ++ b) alone.before
          (append-nil (to_session s r.opening.effect.queued)
          ∙ opens_quiet r.mid s s r.opening.event r.opening.effect r.first r.is_opened r.opens);
      fore = r.fore;
      old = r.old;
      done = r.done;
      reads = r.reads;
      later = r.later;
      leaves = by r.later refl r.leaves;
      is = r.is ∙ sym (append_assoc r.earlier (r.opening ∷ []) ((r.fore ++ r.done) ++ r.later));
    })
  where
    alone : IsAlone s r.earlier ((r.fore ++ r.done) ++ r.later)
    alone = is_alone start h q s whole at new once r

    by : (later : List Did) → r.later ≡ later → GoesOnBehind s at later new → LeavesOff s at later new
    by [] same leaves = leaves
    by (d ∷ more) same leaves = (
      leaves.0,
      leaves.1,
      leaves.2,
      leaves.3,
      alone.none (r.fore ++ r.done) r.later refl at d new more same leaves.0 leaves.1 leaves.2 leaves.3,
    )
