-- What of a step is determined, by its event.
use Rattle.std.specs.Prelude.{ℕ, List, [], ◌∷◌, ◌≡◌, ◌⊎◌, ◌++◌, ◌<◌, Bool, true, false, Option, None, Some, IsSomeAnd, MatchOption, option_map, length}
use Rattle.std.proofs.Common.{refl, sym, ap, ◌∙◌, subst, inl, inr}
use Rattle.std.proofs.lemmas.Bool.{true≢false}
use Rattle.std.proofs.lemmas.List.Sorted.{IsPermutation-sym, IsPermutation-trans}
use Rattle.djq_model.specs.declared.relation.Relation.{Relation}
use Rattle.djq_model.specs.Data.{Bytes}
use Rattle.djq_model.specs.Listed.{Listed, listed_of}
use Rattle.djq_protocol.specs.declared.answer.EndCause.{EndCause}
use Rattle.djq_protocol.specs.declared.answer.EndCause.TheVariants.{Long, Slow, Memory, Input, Quit as SaidQuit, Stop as SaidStop}
use Rattle.djq_protocol.specs.declared.answer.Refusal.TheVariants.{Syntax, NoQuery, NoCursor, NoMemory, Misplaced}
use Rattle.djq_protocol.specs.declared.command.Command.{Command}
use Rattle.djq_protocol.specs.declared.command.Command.TheVariants.{Rel, Add, Del, Query as Register, Union, Drop, Open, Next, Close}
use Rattle.djq_protocol.specs.declared.command.Command.TheVariants.{Has, Watch, Unwatch, Explain, Shape, Batch, Done, Abandon, Quit, Stop}
use Rattle.djq_protocol.specs.declared.held.Verb.TheVariants.{Add as Adds, Delete as Deletes}
use Rattle.djq_protocol.specs.Line.{a_line, front_of}
use Rattle.djq_protocol.specs.Grammar.{Reading, outside, past_limit, says_command, reading_of, takes_memory_to_read}
use Rattle.djq_protocol.specs.Reply.{refusal_line, end_long, end_slow, end_memory, cut_line}
use Rattle.djq_store_spec.specs.Store.{Store}
use Rattle.djq_store_spec.specs.Held.{HeldTransaction}
use Rattle.djq_machine.specs.State.{State, Session, Cursor, fresh, session_of, with_session, ended_by, cursor_of}
use Rattle.djq_machine.specs.Effect.{Effect, nothing, says_any, lost_line, EndsWith, RefusedStep}
use Rattle.djq_machine.specs.Command.{CommandStep, AddStep, DeleteStep, DoneStep, HoldStep, CloseStep, NextStepAt, ExplainStepOf, is_misplaced}
use Rattle.djq_machine.specs.LineStep.{LineOutcome, long, blank, slow, no_room, run, ReadStep, FrontStep, behind_line, past_limit_refusal}
use Rattle.djq_protocol.specs.declared.limits.TheConstants.{SESSIONS}
use Rattle.djq_machine.specs.Step.{FedStep, TookStep, EndedStep}
use Rattle.djq_machine.specs.Step.{Event, opened, fed, stepped, took, ended, closed, Acts, SameRelations, with_relations, is_dry}
use Rattle.djq_run_laws.proofs.Deltas.{queued_store}
use Rattle.djq_run_laws.proofs.Lists.{session_changed}
use Rattle.djq_determinacy.specs.Determinacy.{is_equal, SameQueued, SameStore, StepsAreDetermined}
use Rattle.djq_determinacy.proofs.Determinacy.{Same, SameLeft, left_of, IsTold, not_refused, said, same_alone, rel_same, drop_same, open_same, watch_same, unwatch_same, batch_same}
use Rattle.djq_determinacy.proofs.Determinacy.{hold_same, has_same, shape_same, explain_same, refused_same, ends_same, close_same, union_same, next_same}
use Rattle.djq_determinacy.proofs.DoneSame.{done_same}
use Rattle.djq_determinacy.proofs.QuerySame.{query_same}
use Rattle.djq_determinacy.proofs.RowsSame.{GoesOn, delete_same, add_same}

-- whether a command, or what a line is read as, is `next`: its cursor may give other answers
abbrev pub is_next : Command → Bool
is_next (Next c count) = true
is_next _ = false

abbrev pub reads_next : Reading → Bool
reads_next (says_command c) = is_next c
reads_next _ = false

module _ (s : ℕ) (e e' : Effect) (new new' : State) (told : IsTold e) (told' : IsTold e') where
  command_same : (old : State) (x : Session) (l : Bytes) (c : Command) → is_next c ≡ false → GoesOn old s
      → CommandStep old s x l c e new → CommandStep old s x l c e' new' → Same e new e' new'
  command_same old x l (Rel name types) other goes h k = rel_same old s e e' new new' told told' name types h k
  command_same old x l (Union name members) other goes h k = union_same old s e e' new new' told told' name members h k
  command_same old x l (Drop q) other goes h k = drop_same old s e e' new new' told told' q h k
  command_same old x l (Open c q) other goes h k = open_same old s e e' new new' told told' x c q h k
  command_same old x l (Has q row) other goes h k = has_same old s e e' new new' told told' q row h k
  command_same old x l (Watch q) other goes h k = watch_same old s e e' new new' told told' x q h k
  command_same old x l (Unwatch q) other goes h k = unwatch_same old s e e' new new' told told' q h k
  command_same old x l (Shape q) other goes h k = shape_same old s e e' new new' told told' q h k
  command_same old x l Batch other goes h k = batch_same old s e e' new new' told told' h k
  command_same old x l Abandon other goes h k = (
    same_alone s _ _ e e' (said s _ e h.0) (said s _ e' k.0) refl,
    h.1 ∙ sym k.1,
  )
  command_same old x l Quit other goes h k = ends_same old s e e' new new' told told' _ SaidQuit old h k
  command_same old x l Stop other goes h k = ends_same old s e e' new new' told told' _ SaidStop (record old { stopped = true }) h k
  command_same old x l (Del name row) other goes h k = by x.batch h k
    where
      by : (o : Option HeldTransaction)
          → MatchOption o (DeleteStep old s name row e new) (λ held. HoldStep old s held l Deletes name row e new)
          → MatchOption o (DeleteStep old s name row e' new') (λ held. HoldStep old s held l Deletes name row e' new')
          → Same e new e' new'
      by None h k = delete_same old s e e' new new' told told' name row h k
      by (Some held) h k = hold_same old s e e' new new' told told' held l Deletes name row h k
  command_same old x l (Next c count) other goes h k = absurd (true≢false other)
  command_same old x l (Close c) other goes h k = by (cursor_of x.cursors c) h k
    where
      by : (o : Option Cursor) → MatchOption o (RefusedStep old s NoCursor e new) (λ y. CloseStep old s c e new)
          → MatchOption o (RefusedStep old s NoCursor e' new') (λ y. CloseStep old s c e' new') → Same e new e' new'
      by None h k = refused_same old s e e' new new' told told' NoCursor h k
      by (Some y) h k = close_same old s e e' new new' told told' c h k
  command_same old x l (Explain q) other goes h k = by (listed_of old.store.queries q) h k
    where
      by : (o : Option Listed) → MatchOption o (RefusedStep old s NoQuery e new) (λ y. ExplainStepOf old s y e new)
          → MatchOption o (RefusedStep old s NoQuery e' new') (λ y. ExplainStepOf old s y e' new') → Same e new e' new'
      by None h k = refused_same old s e e' new new' told told' NoQuery h k
      by (Some y) h k = explain_same old s e e' new new' told told' y h k
  command_same old x l (Add name row) other goes h k = by x.batch h k
    where
      by : (o : Option HeldTransaction)
          → MatchOption o (AddStep old s name row e new) (λ held. HoldStep old s held l Adds name row e new)
          → MatchOption o (AddStep old s name row e' new') (λ held. HoldStep old s held l Adds name row e' new')
          → Same e new e' new'
      by None h k = add_same old s e e' new new' told told' goes name row h k
      by (Some held) h k = hold_same old s e e' new new' told told' held l Adds name row h k
  command_same old x l (Register q) other goes h k = query_same old s e e' new new' told told' q h k
  command_same old x l (Done given) other goes h k = by x.batch h k
    where
      by : (o : Option HeldTransaction) → MatchOption o ⊥ (λ held. DoneStep old s held given e new)
          → MatchOption o ⊥ (λ held. DoneStep old s held given e' new') → Same e new e' new'
      by None h k = absurd h
      by (Some held) h k = done_same old s e e' new new' told told' goes held given h k

  next_left : (old : State) (x : Session) (l : Bytes) (c : Bytes) (count : ℕ) → CommandStep old s x l (Next c count) e new
      → CommandStep old s x l (Next c count) e' new' → SameLeft e new e' new'
  next_left old x l c count h k = by (cursor_of x.cursors c) h k
    where
      by_query : (y : Cursor) (o : Option Listed) → IsSomeAnd o (λ q. NextStepAt old s c q count y.position e new)
          → IsSomeAnd o (λ q. NextStepAt old s c q count y.position e' new') → SameLeft e new e' new'
      by_query y None h k = absurd h
      by_query y (Some q) h k = next_same old s e e' new new' told told' c q count y.position h k

      by : (o : Option Cursor)
          → MatchOption o (RefusedStep old s NoCursor e new) (λ y. IsSomeAnd (listed_of old.store.queries y.query)
          (λ q. NextStepAt old s c q count y.position e new))
          → MatchOption o (RefusedStep old s NoCursor e' new') (λ y. IsSomeAnd (listed_of old.store.queries y.query)
          (λ q. NextStepAt old s c q count y.position e' new')) → SameLeft e new e' new'
      by None h k = left_of e e' new new' (refused_same old s e e' new new' told told' NoCursor h k)
      by (Some y) h k = by_query y (listed_of old.store.queries y.query) h k

  command_left : (old : State) (x : Session) (l : Bytes) (c : Command) → GoesOn old s
      → CommandStep old s x l c e new → CommandStep old s x l c e' new' → SameLeft e new e' new'
  command_left old x l (Next c count) goes h k = next_left old x l c count h k
  command_left old x l (Rel name types) goes h k = left_of e e' new new' (command_same old x l (Rel name types) refl goes h k)
  command_left old x l (Add name row) goes h k = left_of e e' new new' (command_same old x l (Add name row) refl goes h k)
  command_left old x l (Del name row) goes h k = left_of e e' new new' (command_same old x l (Del name row) refl goes h k)
  command_left old x l (Register q) goes h k = left_of e e' new new' (command_same old x l (Register q) refl goes h k)
  command_left old x l (Union name members) goes h k = left_of e e' new new' (command_same old x l (Union name members) refl goes h k)
  command_left old x l (Drop q) goes h k = left_of e e' new new' (command_same old x l (Drop q) refl goes h k)
  command_left old x l (Open n q) goes h k = left_of e e' new new' (command_same old x l (Open n q) refl goes h k)
  command_left old x l (Close n) goes h k = left_of e e' new new' (command_same old x l (Close n) refl goes h k)
  command_left old x l (Has q row) goes h k = left_of e e' new new' (command_same old x l (Has q row) refl goes h k)
  command_left old x l (Watch q) goes h k = left_of e e' new new' (command_same old x l (Watch q) refl goes h k)
  command_left old x l (Unwatch q) goes h k = left_of e e' new new' (command_same old x l (Unwatch q) refl goes h k)
  command_left old x l (Explain q) goes h k = left_of e e' new new' (command_same old x l (Explain q) refl goes h k)
  command_left old x l (Shape q) goes h k = left_of e e' new new' (command_same old x l (Shape q) refl goes h k)
  command_left old x l Batch goes h k = left_of e e' new new' (command_same old x l Batch refl goes h k)
  command_left old x l (Done given) goes h k = left_of e e' new new' (command_same old x l (Done given) refl goes h k)
  command_left old x l Abandon goes h k = left_of e e' new new' (command_same old x l Abandon refl goes h k)
  command_left old x l Quit goes h k = left_of e e' new new' (command_same old x l Quit refl goes h k)
  command_left old x l Stop goes h k = left_of e e' new new' (command_same old x l Stop refl goes h k)

  -- a line that is read
  not_told : (old : State) → RefusedStep old s NoMemory e new → ⊥
  not_told old h = (not_refused s (refusal_line NoMemory) e.queued (said s (refusal_line NoMemory) e h.0) told).0 refl

  not_told' : (old : State) → RefusedStep old s NoMemory e' new' → ⊥
  not_told' old h = (not_refused s (refusal_line NoMemory) e'.queued (said s (refusal_line NoMemory) e' h.0) told').0 refl

  said_by : (old : State) (x : Session) (l : Bytes) (c : Command) (Alike : Type 0)
      → (Same e new e' new' → Alike) → (CommandStep old s x l c e new → CommandStep old s x l c e' new' → Alike)
      → ReadStep old s x l (says_command c) e new → ReadStep old s x l (says_command c) e' new' → Alike
  said_by old x l c Alike weaker commands h k = by (is_misplaced x.batch c) h k
    where
      ReadAs : Effect → State → Bool → Type 0
      ReadAs f st true = CommandStep old s x l c f st
      ReadAs f st false = (takes_memory_to_read c ≡ true) × RefusedStep old s NoMemory f st

      CarriedOut : Effect → State → Bool → Type 0
      CarriedOut f st true = RefusedStep old s Misplaced f st
      CarriedOut f st false = (is_read : Bool) × ReadAs f st is_read

      read : (a b : Bool) → ReadAs e new a → ReadAs e' new' b → Alike
      read true true h k = commands h k
      read false b h k = absurd (not_told old h.1)
      read true false h k = absurd (not_told' old k.1)

      by : (b : Bool) → CarriedOut e new b → CarriedOut e' new' b → Alike
      by true h k = weaker (refused_same old s e e' new new' told told' Misplaced h k)
      by false h k = read h.0 k.0 h.1 k.1

  read_left : (old : State) (x : Session) (l : Bytes) (r : Reading) → GoesOn old s
      → ReadStep old s x l r e new → ReadStep old s x l r e' new' → SameLeft e new e' new'
  read_left old x l outside goes h k = left_of e e' new new' (refused_same old s e e' new new' told told' Syntax h k)
  read_left old x l (past_limit c) goes h k =
      left_of e e' new new' (refused_same old s e e' new new' told told' (past_limit_refusal (is_misplaced x.batch c)) h k)
  read_left old x l (says_command c) goes h k =
      said_by old x l c (SameLeft e new e' new') (left_of e e' new new') (command_left old x l c goes) h k

  read_same : (old : State) (x : Session) (l : Bytes) (r : Reading) → reads_next r ≡ false → GoesOn old s
      → ReadStep old s x l r e new → ReadStep old s x l r e' new' → Same e new e' new'
  read_same old x l outside other goes h k = refused_same old s e e' new new' told told' Syntax h k
  read_same old x l (past_limit c) other goes h k =
      refused_same old s e e' new new' told told' (past_limit_refusal (is_misplaced x.batch c)) h k
  read_same old x l (says_command c) other goes h k =
      said_by old x l c (Same e new e' new') (λ same. same) (command_same old x l c other goes) h k

  -- the line in front
  one_rest : (held l rest rest' : Bytes) → front_of held ≡ a_line l rest → front_of held ≡ a_line l rest' → rest ≡ rest'
  one_rest held l rest rest' h k = let same : a_line l rest ≡ a_line l rest' = sym h ∙ k in cc

  goes_behind : (old : State) (x : Session) (rest : Bytes) → session_of old s ≡ Some x → x.cause ≡ None
      → GoesOn (with_session old s (behind_line rest)) s
  goes_behind old x rest found goes =
      subst (λ o. IsSomeAnd o (λ (y : Session). y.cause ≡ None))
      (sym (session_changed old s (behind_line rest) (λ y. refl) ∙ ap (λ o. option_map (behind_line rest) o) found)) goes

  nothing_same : e ≡ nothing → e' ≡ nothing → SameQueued e.queued e'.queued
  nothing_same h k =
      subst (λ (d : Effect). SameQueued d.queued e'.queued) (sym h) (subst (λ (d : Effect). SameQueued [] d.queued) (sym k) tt)

  front_left : (old : State) (x : Session) (outcome : LineOutcome) → session_of old s ≡ Some x → x.cause ≡ None → FrontStep old s x outcome e new → FrontStep old s x outcome e' new'
      → SameLeft e new e' new'
  front_left old x long found goes h k = left_of e e' new new' (ends_same old s e e' new new' told told' end_long Long old h.1 k.1)
  front_left old x (blank l) found goes h k =
      let rest = one_rest x.held l h.1.rest k.1.rest h.1.front k.1.front in (
        nothing_same h.1.then.0 k.1.then.0,
        ap (λ (st : State). st.store) (h.1.then.1
            ∙ ap (λ r. with_session old s (behind_line r)) rest ∙ sym k.1.then.1),
      )
  front_left old x (slow l) found goes h k =
      let rest = one_rest x.held l h.2.rest k.2.rest h.2.front k.2.front in
      let mid = with_session old s (behind_line h.2.rest) in
      left_of e e' new new' (ends_same old s e e' new new' told told' end_slow Slow mid h.2.then
      (subst (λ r. EndsWith end_slow Slow (with_session old s (behind_line r)) s e' new') (sym rest) k.2.then))
  front_left old x (no_room l) found goes h k =
      let rest = one_rest x.held l h.2.rest k.2.rest h.2.front k.2.front in
      let mid = with_session old s (behind_line h.2.rest) in
      left_of e e' new new' (ends_same old s e e' new new' told told' end_memory Memory mid h.2.then
      (subst (λ r. EndsWith end_memory Memory (with_session old s (behind_line r)) s e' new') (sym rest) k.2.then))
  front_left old x (run l) found goes h k =
      let rest = one_rest x.held l h.2.rest k.2.rest h.2.front k.2.front in
      read_left (with_session old s (behind_line h.2.rest)) (behind_line h.2.rest x) l (reading_of l)
      (goes_behind old x h.2.rest found goes) h.2.then
      (subst (λ r. ReadStep (with_session old s (behind_line r)) s (behind_line r x) l (reading_of l) e' new') (sym rest) k.2.then)

  -- a line that is run and isn't `next` leaves one state
  pub run_same : (old : State) (x : Session) (l : Bytes) → reads_next (reading_of l) ≡ false → session_of old s ≡ Some x
      → x.cause ≡ None → FrontStep old s x (run l) e new → FrontStep old s x (run l) e' new' → Same e new e' new'
  run_same old x l other found goes h k =
      let rest = one_rest x.held l h.2.rest k.2.rest h.2.front k.2.front in
      read_same (with_session old s (behind_line h.2.rest)) (behind_line h.2.rest x) l (reading_of l) other
      (goes_behind old x h.2.rest found goes) h.2.then
      (subst (λ r. ReadStep (with_session old s (behind_line r)) s (behind_line r x) l (reading_of l) e' new') (sym rest) k.2.then)

-- ---- The events.

same_reordered : (rs qs bs : List Relation) → SameRelations rs qs → SameRelations rs bs → SameRelations qs bs
same_reordered [] [] [] h k = tt
same_reordered (r ∷ rs) (a ∷ qs) (b ∷ bs) h k = (
  k.0 ∙ sym h.0,
  k.1 ∙ sym h.1,
  IsPermutation-trans a.rows r.rows b.rows (IsPermutation-sym r.rows a.rows h.2) k.2,
  same_reordered rs qs bs h.3 k.3,
)
same_reordered [] (a ∷ qs) bs h k = absurd h
same_reordered [] [] (b ∷ bs) h k = absurd k
same_reordered (r ∷ rs) [] bs h k = absurd h
same_reordered (r ∷ rs) (a ∷ qs) [] h k = absurd k

equal_same : (e e' : Effect) → e ≡ e' → SameQueued e.queued e'.queued
equal_same e e' is = subst (λ (d : Effect). SameQueued e.queued d.queued) is (each e.queued)
  where
    each : (qs : List (ℕ × Bytes)) → SameQueued qs qs
    each [] = tt
    each (q ∷ qs) = (refl, is_equal refl, each qs)

quiet_same : (e e' : Effect) → e ≡ nothing → e' ≡ nothing → SameQueued e.queued e'.queued
quiet_same e e' h k = equal_same e e' (h ∙ sym k)

acts_same : (old : State) (event : Event) (e e' : Effect) (mid mid' : State) → IsTold e → IsTold e'
    → Acts old event e mid → Acts old event e' mid' → SameLeft e mid e' mid'
acts_same old (opened s) e e' mid mid' told told' h k =
    (quiet_same e e' h.0 k.0, stays mid h.2 ∙ sym (stays mid' k.2))
  where
    stays : (st : State) → ((length old.sessions < SESSIONS) × (st ≡ record old { sessions = old.sessions ++ fresh s ∷ [] }))
        ⊎ (st ≡ old) → st.store ≡ old.store
    stays st (inl h) = ap (λ (x : State). x.store) h.1
    stays st (inr h) = ap (λ (x : State). x.store) h
acts_same old (took s bytes) e e' mid mid' told told' h k = by (session_of old s) h k
  where
    by : (o : Option Session) → IsSomeAnd o (λ x. TookStep old s bytes x e mid)
        → IsSomeAnd o (λ x. TookStep old s bytes x e' mid') → SameLeft e mid e' mid'
    by None h k = absurd h
    by (Some x) h k =
        (quiet_same e e' h.0 k.0, ap (λ (st : State). st.store) h.1.2 ∙ sym (ap (λ (st : State). st.store) k.1.2))
acts_same old (closed s bytes) e e' mid mid' told told' h k =
    (quiet_same e e' h.0 k.0, ap (λ (st : State). st.store) (h.2 ∙ sym k.2))
acts_same old (fed s bytes) e e' mid mid' told told' h k = by (session_of old s) h k
  where
    by_cause : (x : Session) (c : Option EndCause)
        → MatchOption c (((e ≡ nothing) × (mid ≡ with_session old s (λ y. record y { held = y.held ++ bytes })))
        ⊎ EndsWith end_memory Memory old s e mid) (λ _. (e ≡ nothing) × (mid ≡ old))
        → MatchOption c (((e' ≡ nothing) × (mid' ≡ with_session old s (λ y. record y { held = y.held ++ bytes })))
        ⊎ EndsWith end_memory Memory old s e' mid') (λ _. (e' ≡ nothing) × (mid' ≡ old)) → SameLeft e mid e' mid'
    by_cause x (Some c) h k = (quiet_same e e' h.0 k.0, ap (λ (st : State). st.store) (h.1 ∙ sym k.1))
    by_cause x None (inl h) (inl k) = (quiet_same e e' h.0 k.0, ap (λ (st : State). st.store) (h.1 ∙ sym k.1))
    by_cause x None (inr h) k = absurd ((not_refused s end_memory e.queued (said s end_memory e h.0) told).1 [] refl)
    by_cause x None (inl h) (inr k) = absurd ((not_refused s end_memory e'.queued (said s end_memory e' k.0) told').1 [] refl)

    by : (o : Option Session) → IsSomeAnd o (λ x. FedStep old s bytes x e mid) → IsSomeAnd o (λ x. FedStep old s bytes x e' mid')
        → SameLeft e mid e' mid'
    by None h k = absurd h
    by (Some x) h k = by_cause x x.cause h k
acts_same old (ended s) e e' mid mid' told told' h k = by (session_of old s) h k
  where
    by_cause : (x : Session) (c : Option EndCause)
        → MatchOption c ((is_dry x.held ≡ true) × (e ≡ says_any s (cut_line x.held ++ lost_line x.batch))
        × (mid ≡ with_session old s (ended_by Input))) (λ _. (e ≡ nothing) × (mid ≡ old))
        → MatchOption c ((is_dry x.held ≡ true) × (e' ≡ says_any s (cut_line x.held ++ lost_line x.batch))
        × (mid' ≡ with_session old s (ended_by Input))) (λ _. (e' ≡ nothing) × (mid' ≡ old)) → SameLeft e mid e' mid'
    by_cause x None h k = (equal_same e e' (h.1 ∙ sym k.1), ap (λ (st : State). st.store) (h.2 ∙ sym k.2))
    by_cause x (Some c) h k = (quiet_same e e' h.0 k.0, ap (λ (st : State). st.store) (h.1 ∙ sym k.1))

    by : (o : Option Session) → IsSomeAnd o (λ x. EndedStep old s x e mid) → IsSomeAnd o (λ x. EndedStep old s x e' mid')
        → SameLeft e mid e' mid'
    by None h k = absurd h
    by (Some x) h k = by_cause x x.cause h k
acts_same old (stepped s outcome) e e' mid mid' told told' h k = by (session_of old s) refl h k
  where
    by : (o : Option Session) → session_of old s ≡ o → IsSomeAnd o (λ x. (x.cause ≡ None) × FrontStep old s x outcome e mid)
        → IsSomeAnd o (λ x. (x.cause ≡ None) × FrontStep old s x outcome e' mid') → SameLeft e mid e' mid'
    by None found h k = absurd h
    by (Some x) found h k = front_left s e e' mid mid' told told' old x outcome found h.0 h.1 k.1

pub is_determined : StepsAreDetermined
is_determined old event e e' new new' h k memory memory' =
    let same = acts_same old event e e' h.mid k.mid memory memory' h.acts k.acts in
    let left = ap (λ (st : State). st.store) h.queued ∙ queued_store (with_relations h.mid h.relations) e.queued in
    let left' = ap (λ (st : State). st.store) k.queued ∙ queued_store (with_relations k.mid k.relations) e'.queued in
    let stores : SameStore (record h.mid.store { relations = h.relations }) (record k.mid.store { relations = k.relations }) =
    record {
      relations = same_reordered h.mid.store.relations h.relations k.relations h.reordered
          (subst (λ (st : Store). SameRelations st.relations k.relations) (sym same.1) k.reordered);
      texts = ap (λ (st : Store). st.texts) same.1;
      queries = ap (λ (st : Store). st.queries) same.1;
      seq = ap (λ (st : Store). st.seq) same.1;
    } in (
      same.0,
      subst (λ (st : Store). SameStore st new'.store) (sym left)
          (subst (λ (st : Store). SameStore (record h.mid.store { relations = h.relations }) st) (sym left') stores),
    )
