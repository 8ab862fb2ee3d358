-- Each line that is run, and each step of the machine, is a run of the core.
use Rattle.std.specs.Prelude.{ℕ, List, [], ◌∷◌, ◌++◌, ◌==◌, ◌≡◌, ◌<◌, AllPairs, Bool, true, false, cond, Option, None, Some, MatchOption}
use Rattle.std.specs.Option.{option_map}
use Rattle.std.proofs.Common.{refl, sym, ap, ◌∙◌, subst, inl, inr}
use Rattle.djq_model.specs.declared.relation.Relation.{Relation}
use Rattle.djq_model.specs.Data.{Bytes, Tuple}
use Rattle.djq_model.specs.Listed.{Listed}
use Rattle.djq_protocol.specs.declared.answer.EndCause.{EndCause}
use Rattle.djq_protocol.specs.declared.answer.EndCause.TheVariants.{Memory, Long, Slow, Quit as SaidQuit, Stop as SaidStop}
use Rattle.djq_protocol.specs.declared.answer.Refusal.{Refusal}
use Rattle.djq_protocol.specs.declared.answer.Refusal.TheVariants.{Syntax, NoMemory, Misplaced}
use Rattle.djq_protocol.specs.declared.held.Verb.TheVariants.{Add as Adds, Delete as Deletes}
use Rattle.djq_protocol.specs.declared.command.Command.{Command}
use Rattle.djq_protocol.specs.declared.command.Command.TheVariants.{Rel, Add, Del, Query as Register, Union, Drop, Open}
use Rattle.djq_protocol.specs.declared.command.Command.TheVariants.{Next, Close, Has, Watch, Unwatch, Explain}
use Rattle.djq_protocol.specs.declared.command.Command.TheVariants.{Shape as AskShape, Batch, Done, Abandon, Quit, Stop}
use Rattle.djq_protocol.specs.Grammar.{Reading, outside, past_limit, says_command, reading_of, reading_in, command_of}
use Rattle.djq_protocol.specs.Grammar.{is_in_range, takes_memory_to_read}
use Rattle.djq_protocol.specs.Reply.{refusal_line, end_memory, end_long, end_slow, bye}
use Rattle.djq_store_spec.specs.Held.{HeldTransaction}
use Rattle.djq_machine.specs.State.{Session, State, session_of, with_session}
use Rattle.djq_machine.specs.Effect.{Effect, lost_line, EndsWith, RefusedStep, queue_all}
use Rattle.djq_machine.specs.Command.{CommandStep, is_misplaced, AddStep, DeleteStep, DoneStep, HoldStep}
use Rattle.djq_machine.specs.LineStep.{LineOutcome, long, blank, slow, no_room, run, past_limit_refusal, ReadStep}
use Rattle.djq_machine.specs.LineStep.{behind_line, FrontStep}
use Rattle.djq_machine.specs.Step.{Event, opened, fed, stepped, took, ended, closed, Acts, with_relations, Step}
use Rattle.djq_machine.specs.Step.{SameRelations}
use Rattle.std.proofs.lemmas.List.Sorted.{IsPermutation-refl}
use Rattle.djq_run_laws.specs.Rising.{AreRising}
use Rattle.djq_run_laws.specs.Sound.{IsSoundStore, IsSoundState}
use Rattle.djq_run_laws.proofs.Sessions.{changed_ids}
use Rattle.djq_run_laws.proofs.Lists.{some_there, session_changed}
use Rattle.djq_run_laws.proofs.Deltas.{queued_store}
use Rattle.djq_run_laws.proofs.SoundStates.{AreKept, without_line_kept, step_sound}
use Rattle.djq_abstract.specs.Clients.{Client, Core, CoreCommand, done}
use Rattle.djq_abstract.specs.Clients.{ask, refused, replied}
use Rattle.djq_abstract.specs.Moves.{client_refused}
use Rattle.djq_refinement.specs.View.{client_by, core_of, core_command, core_reading, line_edits}
use Rattle.djq_refinement.specs.Spelling.{SpellsMessage, IsRefusing}
use Rattle.djq_refinement.specs.Refinement.{AreCoreEvents, SpellsBy, MachineRefinesCore}
use Rattle.djq_refinement.proofs.Clients.{core_path, core_same, core_queued, by_held, goes_from}
use Rattle.djq_refinement.proofs.Clients.{goes_silent, LineGoes, MayEnd, line_ends}
use Rattle.djq_refinement.proofs.Events.{EventGoes, open_goes, fed_goes, took_goes, input_goes, closed_goes, ends_goes}
use Rattle.djq_refinement.proofs.Stores.{reordered_copies}
use Rattle.djq_refinement.proofs.Commands.{refusing, accepted, author, is_author, only_stays, rel_goes, query_goes}
use Rattle.djq_refinement.proofs.Commands.{query_cut_goes, union_goes, drop_goes, has_goes, shape_goes, explain_goes}
use Rattle.djq_refinement.proofs.Commands.{open_goes as cursor_opens, next_goes, close_goes, watch_goes, unwatch_goes}
use Rattle.djq_refinement.proofs.Commands.{batch_goes, abandon_goes, hold_add_goes, hold_delete_goes}
use Rattle.djq_refinement.proofs.RowChanges.{add_goes, delete_goes, done_goes}

-- ---- lines that are refused before their command is carried out

-- A command of the core that leaves its client where it is refused.
record LeavesClient (qs : List Listed) (c : Command) : Type 0 where
  command : CoreCommand
  is : core_command qs c ≡ Some command
  leaves : (y : Client) → client_refused command y ≡ y

-- neither `done`, which ends its batch, nor a command that ends the session
abbrev is_plain : Command → Bool
is_plain (Done given) = false
is_plain Quit = false
is_plain Stop = false
is_plain _ = true

leaves_client : (qs : List Listed) (c : Command) → is_plain c ≡ true → LeavesClient qs c
leaves_client qs (Add name row) e = record { command = _; is = refl; leaves = λ y. refl }
leaves_client qs (Del name row) e = record { command = _; is = refl; leaves = λ y. refl }
leaves_client qs (Register q) e = record { command = _; is = refl; leaves = λ y. refl }
leaves_client qs (Union name members) e = record { command = _; is = refl; leaves = λ y. refl }
leaves_client qs (Drop q) e = record { command = _; is = refl; leaves = λ y. refl }
leaves_client qs (Open c q) e = record { command = _; is = refl; leaves = λ y. refl }
leaves_client qs (Next c count) e = record { command = _; is = refl; leaves = λ y. refl }
leaves_client qs (Close c) e = record { command = _; is = refl; leaves = λ y. refl }
leaves_client qs (Has q row) e = record { command = _; is = refl; leaves = λ y. refl }
leaves_client qs (Watch q) e = record { command = _; is = refl; leaves = λ y. refl }
leaves_client qs (Unwatch q) e = record { command = _; is = refl; leaves = λ y. refl }
leaves_client qs Batch e = record { command = _; is = refl; leaves = λ y. refl }
leaves_client qs Abandon e = record { command = _; is = refl; leaves = λ y. refl }
leaves_client qs (Rel name types) e = record { command = _; is = refl; leaves = λ y. refl }
leaves_client qs (Explain q) e = record { command = _; is = refl; leaves = λ y. refl }
leaves_client qs (AskShape q) e = record { command = _; is = refl; leaves = λ y. refl }
leaves_client qs (Done given) e = absurd cc
leaves_client qs Quit e = absurd cc
leaves_client qs Stop e = absurd cc

plain_reading : (c : Command) → is_in_range c ≡ false → is_plain c ≡ true
plain_reading (Done given) e = absurd cc
plain_reading Quit e = absurd cc
plain_reading Stop e = absurd cc
plain_reading _ e = refl

plain_memory : (c : Command) → takes_memory_to_read c ≡ true → is_plain c ≡ true
plain_memory (Done given) e = absurd cc
plain_memory Quit e = absurd cc
plain_memory Stop e = absurd cc
plain_memory _ e = refl

-- what is past its limit isn't in range
past_range : (l : Bytes) (c : Command) → reading_of l ≡ past_limit c → is_in_range c ≡ false
past_range l c e = by (command_of l) e
  where
    by : (o : Option Command) → reading_in o ≡ past_limit c → is_in_range c ≡ false
    by None k = absurd cc
    by (Some d) k = within (is_in_range d) refl k
      where
        within : (b : Bool) → is_in_range d ≡ b → cond b (says_command d) (past_limit d) ≡ past_limit c
            → is_in_range c ≡ false
        within true r i = absurd cc
        within false r i = let same : d ≡ c = cc in ap is_in_range (sym same) ∙ r

-- a refusal's line refuses any command
refuses_any : (new : Core) (c : Command) (why : Refusal) → IsRefusing new c (refusal_line why)
refuses_any new (Del name row) why = inl (why, refl)
refuses_any new (Next c count) why = inl (why, refl)
refuses_any new _ why = (why, refl)

module _ (old : State) (kept : AreKept old) (rising : AreRising old) (s : ℕ) (x : Session)
    (found : session_of old s ≡ Some x) (runs : x.cause ≡ None) where
  -- a plain command is refused
  plain_goes : (r : Reading) (c : Command) (e : Effect) (new : State) (why : Refusal) → is_plain c ≡ true
      → core_reading old.store.queries r ≡ core_command old.store.queries c → SpellsMessage s r (core_of old) (core_of new) refused (refusal_line why)
      → RefusedStep old s why e new → LineGoes old s r e new
  plain_goes r c e new why plain is spelled h =
      let p = leaves_client old.store.queries c plain in
      refusing old kept s x found runs r e new p.command why (is ∙ p.is)
      (p.leaves (author old kept s x found runs)) h spelled

  -- a misplaced command: `done` without a batch leaves its client too
  no_batch_left : (y z : Client) → y ≡ z → z.batch ≡ None → record y { batch = None } ≡ y
  no_batch_left y z same none = λ i. record y { batch = sym (ap (λ (w : Client). w.batch) same ∙ none) i }

  misplaced_goes : (c : Command) (e : Effect) (new : State) → is_misplaced x.batch c ≡ true
      → RefusedStep old s Misplaced e new → LineGoes old s (says_command c) e new
  misplaced_goes c e new m h = by c refl m
    where
      plain : (d : Command) → c ≡ d → is_plain d ≡ true → LineGoes old s (says_command c) e new
      plain d same p = plain_goes (says_command c) c e new Misplaced (ap is_plain same ∙ p) refl
          (refuses_any (core_of new) c Misplaced) h

      with_done : (given : Option ℕ) → c ≡ Done given → (o : Option HeldTransaction) → x.batch ≡ o
          → is_misplaced o (Done given) ≡ true → LineGoes old s (says_command c) e new
      with_done given same (Some held) is m = absurd cc
      with_done given same None is m =
          subst (λ d. LineGoes old s (says_command d) e new) (sym same)
          (refusing old kept s x found runs (says_command (Done given)) e new done Misplaced refl
          (no_batch_left (author old kept s x found runs) (client_by None x) (is_author old kept s x found runs)
          (ap (λ o. option_map line_edits o) is)) h (Misplaced, refl))

      not_quit : (o : Option HeldTransaction) → is_misplaced o Quit ≡ true → LineGoes old s (says_command c) e new
      not_quit None k = absurd cc
      not_quit (Some held) k = absurd cc

      not_stop : (o : Option HeldTransaction) → is_misplaced o Stop ≡ true → LineGoes old s (says_command c) e new
      not_stop None k = absurd cc
      not_stop (Some held) k = absurd cc

      by : (d : Command) → c ≡ d → is_misplaced x.batch d ≡ true → LineGoes old s (says_command c) e new
      by (Done given) same k = with_done given same x.batch refl k
      by Quit same k = not_quit x.batch k
      by Stop same k = not_stop x.batch k
      by (Add name row) same k = plain (Add name row) same refl
      by (Del name row) same k = plain (Del name row) same refl
      by (Register q) same k = plain (Register q) same refl
      by (Union name members) same k = plain (Union name members) same refl
      by (Drop q) same k = plain (Drop q) same refl
      by (Open d q) same k = plain (Open d q) same refl
      by (Next d count) same k = plain (Next d count) same refl
      by (Close d) same k = plain (Close d) same refl
      by (Has q row) same k = plain (Has q row) same refl
      by (Watch q) same k = plain (Watch q) same refl
      by (Unwatch q) same k = plain (Unwatch q) same refl
      by Batch same k = plain Batch same refl
      by Abandon same k = plain Abandon same refl
      by (Rel name types) same k = plain (Rel name types) same refl
      by (Explain q) same k = plain (Explain q) same refl
      by (AskShape q) same k = plain (AskShape q) same refl

  -- ---- commands

  add_or_holds : (l name : Bytes) (row : Tuple) (e : Effect) (new : State) → IsSoundStore new.store
      → (o : Option HeldTransaction) → x.batch ≡ o
      → MatchOption o (AddStep old s name row e new) (λ held. HoldStep old s held l Adds name row e new)
      → LineGoes old s (says_command (Add name row)) e new
  add_or_holds l name row e new sound None is h = add_goes old kept rising s x found runs name row e new sound is h
  add_or_holds l name row e new sound (Some held) is h = hold_add_goes old kept s x found runs held l name row e new is h

  delete_or_holds : (l name : Bytes) (row : Tuple) (e : Effect) (new : State) → IsSoundStore new.store
      → (o : Option HeldTransaction) → x.batch ≡ o
      → MatchOption o (DeleteStep old s name row e new) (λ held. HoldStep old s held l Deletes name row e new)
      → LineGoes old s (says_command (Del name row)) e new
  delete_or_holds l name row e new sound None is h = delete_goes old kept rising s x found runs name row e new sound is h
  delete_or_holds l name row e new sound (Some held) is h =
      hold_delete_goes old kept s x found runs held l name row e new is h

  does_lines : (given : Option ℕ) (e : Effect) (new : State) → IsSoundStore new.store
      → (o : Option HeldTransaction) → x.batch ≡ o → MatchOption o ⊥ (λ held. DoneStep old s held given e new)
      → LineGoes old s (says_command (Done given)) e new
  does_lines given e new sound None is h = absurd h
  does_lines given e new sound (Some held) is h = done_goes old kept rising s x found runs held given e new sound is h

  begins : (e : Effect) (new : State) (o : Option HeldTransaction) → x.batch ≡ o → is_misplaced o Batch ≡ false
      → CommandStep old s x [] Batch e new → LineGoes old s (says_command Batch) e new
  begins e new (Some held) is placed h = absurd cc
  begins e new None is placed h = batch_goes old kept s x found runs e new is h

  drops : (e : Effect) (new : State) (o : Option HeldTransaction) → x.batch ≡ o → is_misplaced o Abandon ≡ false
      → CommandStep old s x [] Abandon e new → LineGoes old s (says_command Abandon) e new
  drops e new None is placed h = absurd cc
  drops e new (Some held) is placed h = abandon_goes old kept s x found runs held e new is h

  ends_line : (c : Command) (text : Bytes) (cause : EndCause) (mid : State) (e : Effect) (new : State)
      → MayEnd (core_command old.store.queries c) → core_of mid ≡ core_of old → EndsWith text cause mid s e new → LineGoes old s (says_command c) e new
  ends_line c text cause mid e new may same h = line_ends old s x (says_command c) e mid cause new text may found runs same h.1
      (ap (λ (d : Effect). d.queued) h.0)

  command_goes : (l : Bytes) (c : Command) (e : Effect) (new : State) → IsSoundStore new.store
      → is_misplaced x.batch c ≡ false → CommandStep old s x l c e new → LineGoes old s (says_command c) e new
  command_goes l (Rel name types) e new sound placed h = rel_goes old kept s x found runs name types e new h
  command_goes l (Add name row) e new sound placed h = add_or_holds l name row e new sound x.batch refl h
  command_goes l (Del name row) e new sound placed h = delete_or_holds l name row e new sound x.batch refl h
  command_goes l (Register q) e new sound placed (inl h) = query_goes old kept s x found runs q e new h
  command_goes l (Register q) e new sound placed (inr h) = query_cut_goes old kept s x found runs q e new h
  command_goes l (Union name members) e new sound placed h =
      union_goes old kept s x found runs name members e new h
  command_goes l (Drop q) e new sound placed h = drop_goes old kept s x found runs q e new h
  command_goes l (Open c q) e new sound placed h = cursor_opens old kept s x found runs c q e new h
  command_goes l (Next c count) e new sound placed h = next_goes old kept s x found runs c count e new h
  command_goes l (Close c) e new sound placed h = close_goes old kept s x found runs c e new h
  command_goes l (Has q row) e new sound placed h = has_goes old kept s x found runs q row e new h
  command_goes l (Watch q) e new sound placed h = watch_goes old kept s x found runs q e new h
  command_goes l (Unwatch q) e new sound placed h = unwatch_goes old kept s x found runs q e new h
  command_goes l (Explain q) e new sound placed h = explain_goes old kept s x found runs q e new h
  command_goes l (AskShape q) e new sound placed h = shape_goes old kept s x found runs q e new h
  command_goes l Batch e new sound placed h = begins e new x.batch refl placed h
  command_goes l (Done given) e new sound placed h = does_lines given e new sound x.batch refl h
  command_goes l Abandon e new sound placed h = drops e new x.batch refl placed h
  command_goes l Quit e new sound placed h = ends_line Quit (lost_line x.batch ++ bye) SaidQuit old e new tt refl h
  command_goes l Stop e new sound placed h =
      ends_line Stop (lost_line x.batch ++ bye) SaidStop (record old { stopped = true }) e new tt refl h

  -- ---- a line that is run

  abbrev DoesRead : Bytes → Command → Effect → State → Bool → Type 0
  DoesRead l c e new true = CommandStep old s x l c e new
  DoesRead l c e new false = (takes_memory_to_read c ≡ true) × RefusedStep old s NoMemory e new

  abbrev DoesPlaced : Bytes → Command → Effect → State → Bool → Type 0
  DoesPlaced l c e new true = RefusedStep old s Misplaced e new
  DoesPlaced l c e new false = (is_read : Bool) × DoesRead l c e new is_read

  read_goes : (l : Bytes) (r : Reading) (e : Effect) (new : State) → reading_of l ≡ r → IsSoundStore new.store
      → ReadStep old s x l r e new → LineGoes old s r e new
  read_goes l outside e new is sound h =
      accepted old kept s x found runs outside e new ask replied (refusal_line Syntax) refl
      (only_stays old kept s x found runs replied new (ap core_of h.1)) (ap (λ (d : Effect). d.queued) h.0) refl
  read_goes l (past_limit c) e new is sound h =
      plain_goes (past_limit c) c e new (past_limit_refusal (is_misplaced x.batch c))
      (plain_reading c (past_range l c is)) refl (past_limit_refusal (is_misplaced x.batch c), refl) h
  read_goes l (says_command c) e new is sound h = by (is_misplaced x.batch c) refl h
    where
      by : (b : Bool) → is_misplaced x.batch c ≡ b → DoesPlaced l c e new b → LineGoes old s (says_command c) e new
      by true m k = misplaced_goes c e new m k
      by false m (true, k) = command_goes l c e new sound m k
      by false m (false, k) =
          plain_goes (says_command c) c e new NoMemory (plain_memory c k.0) refl (refuses_any (core_of new) c NoMemory) k.1

-- ---- the front of a session's bytes

module _ (old : State) (kept : AreKept old) (rising : AreRising old) (s : ℕ) (x : Session)
    (found : session_of old s ≡ Some x) (runs : x.cause ≡ None) where
  abbrev without : Bytes → State
  without rest = with_session old s (behind_line rest)

  without_core : (rest : Bytes) → core_of (without rest) ≡ core_of old
  without_core rest = core_same old s (behind_line rest) (λ y. refl) (λ y. by_held y.cause y rest)

  without_found : (rest : Bytes) → session_of (without rest) s ≡ Some (behind_line rest x)
  without_found rest = session_changed old s (behind_line rest) (λ y. refl)
      ∙ ap (λ o. option_map (behind_line rest) o) found

  still_rising : (rest : Bytes) → AreRising (without rest)
  still_rising rest = subst (λ (is : List ℕ). AllPairs (λ a b. a < b) is)
      (sym (changed_ids (λ (y : Session). y.id == s) (behind_line rest) (λ y. refl) old.sessions)) rising

  front_goes : (outcome : LineOutcome) (e : Effect) (mid : State) → IsSoundStore mid.store
      → FrontStep old s x outcome e mid → EventGoes old (stepped s outcome) e mid
  front_goes long e mid sound h = ends_goes old (stepped s long) s x end_long Long e mid refl found runs h.1
  front_goes (blank l) e mid sound h =
      goes_silent (AreCoreEvents old.store.queries (stepped s (blank l))) (SpellsBy (stepped s (blank l)))
      old e mid refl (ap core_of h.1.then.1 ∙ without_core h.1.rest) (ap (λ (d : Effect). d.queued) h.1.then.0)
  front_goes (slow l) e mid sound h = goes_from (AreCoreEvents old.store.queries (stepped s (slow l)))
      (SpellsBy (stepped s (slow l))) old (without h.2.rest) e mid mid (without_core h.2.rest) refl
      (ends_goes (without h.2.rest) (stepped s (slow l)) s (behind_line h.2.rest x) end_slow Slow e mid refl
      (without_found h.2.rest) runs h.2.then)
  front_goes (no_room l) e mid sound h = goes_from (AreCoreEvents old.store.queries (stepped s (no_room l)))
      (SpellsBy (stepped s (no_room l))) old (without h.2.rest) e mid mid (without_core h.2.rest) refl
      (ends_goes (without h.2.rest) (stepped s (no_room l)) s (behind_line h.2.rest x) end_memory Memory e mid refl
      (without_found h.2.rest) runs h.2.then)
  front_goes (run l) e mid sound h = goes_from (AreCoreEvents old.store.queries (stepped s (run l)))
      (SpellsBy (stepped s (run l))) old (without h.2.rest) e mid mid (without_core h.2.rest) refl
      (read_goes (without h.2.rest) (without_line_kept old s h.2.rest kept) (still_rising h.2.rest) s (behind_line h.2.rest x)
      (without_found h.2.rest) runs l (reading_of l) e mid refl sound h.2.then)

-- ---- a step

acts_go : (old : State) (event : Event) (e : Effect) (mid : State) → AreKept old → AreRising old → IsSoundStore mid.store
    → Acts old event e mid → EventGoes old event e mid
acts_go old (opened s) e mid kept rising sound h = open_goes old s e mid h
acts_go old (fed s bytes) e mid kept rising sound h = fed_goes old s bytes e mid h
acts_go old (took s bytes) e mid kept rising sound h = took_goes old s bytes e mid h
acts_go old (ended s) e mid kept rising sound h = input_goes old s e mid h
acts_go old (closed s bytes) e mid kept rising sound h = closed_goes old s bytes e mid h
acts_go old (stepped s outcome) e mid kept rising sound h =
    let f = some_there (session_of old s) (λ x. (x.cause ≡ None) × FrontStep old s x outcome e mid) h in
    front_goes old kept rising s f.0 f.1 f.2.0 outcome e mid sound f.2.1

-- the store before its rows may be reordered is sound too
same_itself : (rs : List Relation) → SameRelations rs rs
same_itself [] = tt
same_itself (r ∷ rs) = (refl, refl, IsPermutation-refl r.rows, same_itself rs)

mid_sound : (old : State) (event : Event) (e : Effect) (mid : State) → Acts old event e mid → IsSoundState old
    → IsSoundStore mid.store
mid_sound old event e mid h sound =
    let one : Step old event e (queue_all (with_relations mid mid.store.relations) e.queued) = record {
      mid = mid;
      acts = h;
      relations = mid.store.relations;
      reordered = same_itself mid.store.relations;
      queued = refl;
    } in
    subst IsSoundStore (queued_store (with_relations mid mid.store.relations) e.queued)
    (step_sound old event e (queue_all (with_relations mid mid.store.relations) e.queued) one sound).store

pub machine_refines_core : MachineRefinesCore
machine_refines_core old event e new h sound =
    let mid = h.mid in
    let store = mid_sound old event e mid h.acts sound in
    let moved : core_of (with_relations mid h.relations) ≡ core_of mid =
    core_path (core_of (with_relations mid h.relations)) (core_of mid)
    (λ n row. reordered_copies mid.store.relations h.relations store.rows h.reordered n row) refl refl (λ t. refl) in
    let goes = goes_from (AreCoreEvents old.store.queries event) (SpellsBy event) old old e mid new refl
    (ap core_of h.queued ∙ core_queued (with_relations mid h.relations) e.queued ∙ moved)
    (acts_go old event e mid (sound.store, sound.sessions) sound.rising store h.acts) in record {
      happenings = goes.happenings;
      events = goes.events;
      is_run = goes.is_run;
      is_after = goes.is_after;
      spelled = goes.spelled;
      silent = goes.silent;
    }
