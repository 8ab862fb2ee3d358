-- What the cursors of one session have, along steps in which it opens and reads none.
use Rattle.std.specs.Prelude.{ℕ, List, [], ◌∷◌, ◌==◌, ◌≡◌, ◌<◌, ◌≤◌, ◌++◌, ◌⊎◌, Bool, true, false, not, cond, length}
use Rattle.std.specs.Prelude.{filter, find, Option, None, Some, MatchOption, option_map, map, All}
use Rattle.std.proofs.Common.{refl, sym, ap, ◌∙◌, subst, inl, inr, arith}
use Rattle.std.proofs.lemmas.Bool.{eqb-true, eq-eqb}
use Rattle.std.proofs.lemmas.List.{length-map}
use Rattle.std.proofs.lemmas.List.Elements.{All-nil}
use Rattle.djq_model.specs.Data.{Bytes, Tuple, bytes_eq}
use Rattle.djq_protocol.specs.declared.limits.TheConstants.{SESSIONS}
use Rattle.djq_protocol.specs.declared.answer.EndCause.{EndCause}
use Rattle.djq_protocol.specs.declared.answer.EndCause.TheVariants.{Input, Memory}
use Rattle.djq_protocol.specs.declared.command.Command.{Command}
use Rattle.djq_protocol.specs.declared.command.Command.TheVariants.{Add, Del, Done, Open, Next}
use Rattle.djq_protocol.specs.Grammar.{Reading, says_command, reading_of}
use Rattle.djq_protocol.specs.Reply.{end_memory}
use Rattle.djq_store_spec.specs.Store.{Store, Position, open_at, stale}
use Rattle.djq_store_spec.specs.Held.{HeldTransaction, nothing_held, holding}
use Rattle.djq_store_spec.specs.Stale.{outdated, outdater_of}
use Rattle.djq_store_spec.specs.Changes.{RowsChange, RowsOutcome, tried}
use Rattle.djq_answer_laws.proofs.Lists.{some_there}
use Rattle.djq_machine.specs.State.{State, Session, Cursor, fresh, session_of, with_session, ended_by}
use Rattle.djq_machine.specs.Outdating.{outdated_cursor, changed}
use Rattle.djq_machine.specs.Watch.{Telling, ChangeStep}
use Rattle.djq_machine.specs.Effect.{Effect, nothing, EndsWith, queue, queue_all}
use Rattle.djq_machine.specs.Command.{with_watch, without_watch, with_batch, without_batch}
use Rattle.djq_machine.specs.LineStep.{LineOutcome, long, blank, slow, no_room, run, ReadStep, FrontStep, behind_line}
use Rattle.djq_machine.specs.Step.{Event, opened, fed, stepped, took, ended, closed, FedStep, TookStep, EndedStep, Acts}
use Rattle.djq_machine.specs.Step.{with_relations, Step}
use Rattle.djq_run_laws.specs.Form.{form_of, Form, asking, storing, turning, changing, ending, Turn, opens_cursor}
use Rattle.djq_run_laws.specs.Form.{moves_cursor, closes_cursor, starts_watching, stops_watching, opens_batch}
use Rattle.djq_run_laws.specs.Form.{holds_line, closes_batch, Replied, is_whole, is_cut, without_cursor, SessionTurned}
use Rattle.djq_run_laws.specs.Form.{DoesTurn, is_turned, is_refused, FormDoes}
use Rattle.djq_run_laws.proofs.Lists.{all_dropped, all_mapped, less_dropped, session_changed, session_other}
use Rattle.djq_run_laws.proofs.Lists.{change_keeps}
use Rattle.djq_run_laws.proofs.Forms.{command_does, Reads, turned_down, carried_out, line_reads}
use Rattle.djq_run_laws.proofs.Batches.{closing, begun, closing_id, closing_cursors, rows_do}
use Rattle.djq_run_laws.proofs.Watchers.{find_front}
use Rattle.djq_run_laws.proofs.Deltas.{find_mapped}

abbrev pub OpenHas : (List Tuple → Bool → Type 0) → Position → Type 0
OpenHas P (open_at given finished) = P given finished
OpenHas P (stale relation n) = Unit {0}

-- A cursor is over the query of a name, and has what is said where it is open.
abbrev pub CursorHas : Bytes → (List Tuple → Bool → Type 0) → Cursor → Type 0
CursorHas name P k = (k.query ≡ name) × OpenHas P k.position

-- A session has one cursor at most, and it is such.
abbrev pub HasFew : Bytes → (List Tuple → Bool → Type 0) → Session → Type 0
HasFew name P x = (length x.cursors ≤ 1) × All (CursorHas name P) x.cursors

pub record Has (s : ℕ) (name : Bytes) (P : List Tuple → Bool → Type 0) (st : State) : Type 0 where
  pub session : Session
  pub is : session_of st s ≡ Some session
  pub few : HasFew name P session

find_kept : (p keep : Session → Bool) → ((x : Session) → p x ≡ true → keep x ≡ true) → (xs : List Session)
    → find p (filter keep xs) ≡ find p xs
find_kept p keep both [] = refl
find_kept p keep both (x ∷ xs) = by (p x) (keep x) refl refl (find_kept p keep both xs)
  where
    by : (a b : Bool) → p x ≡ a → keep x ≡ b → find p (filter keep xs) ≡ find p xs
        → find p (cond b (x ∷ filter keep xs) (filter keep xs)) ≡ cond a (Some x) (find p xs)
    by true true e f h = ap (λ (r : Bool). cond r (Some x) (find p (filter keep xs))) e
    by true false e f h = let yes = both x e in absurd (cc (yes, f))
    by false true e f h = ap (λ (r : Bool). cond r (Some x) (find p (filter keep xs))) e ∙ h
    by false false e f h = h

module _ (s : ℕ) (name : Bytes) (P : List Tuple → Bool → Type 0) where
  has_same : (old new : State) → new ≡ old → Has s name P old → Has s name P new
  has_same old new e h = subst (λ (st : State). Has s name P st) (sym e) h

  has_with : (old new : State) (t : ℕ) (f : Session → Session) → ((x : Session) → (f x).id ≡ x.id)
      → ((t == s) ≡ true → (x : Session) → HasFew name P x → HasFew name P (f x)) → new ≡ with_session old t f
      → Has s name P old → Has s name P new
  has_with old new t f keeps fine after h = subst (λ (st : State). Has s name P st) (sym after) (by (t == s) refl)
    where
      by : (b : Bool) → (t == s) ≡ b → Has s name P (with_session old t f)
      by false e = record { session = h.session; is = session_other old t s f keeps e ∙ h.is; few = h.few }
      by true e = record {
        session = f h.session;
        is = subst (λ i. session_of (with_session old i f) s ≡ Some (f h.session)) (sym (eqb-true t s e))
            (session_changed old s f keeps ∙ ap (λ o. option_map f o) h.is);
        few = fine e h.session h.few;
      }

  has_kept : (old new : State) (t : ℕ) (f : Session → Session) → ((x : Session) → (f x).id ≡ x.id)
      → ((x : Session) → (f x).cursors ≡ x.cursors) → new ≡ with_session old t f → Has s name P old → Has s name P new
  has_kept old new t f keeps same after h =
      has_with old new t f keeps (λ e x k.
      subst (λ (cs : List Cursor). (length cs ≤ 1) × All (CursorHas name P) cs) (sym (same x)) k) after h

  has_ends : (old new : State) (t : ℕ) (cause : EndCause) → new ≡ with_session old t (ended_by cause) → Has s name P old
      → Has s name P new
  has_ends old new t cause after h =
      has_with old new t (ended_by cause) (λ x. refl) (λ e x k. (omega arith, All-nil (CursorHas name P))) after h

  has_replied : (t : ℕ) (mid new : State) → Replied t mid new → Has s name P mid → Has s name P new
  has_replied t mid new (is_whole after) h = has_same mid new after h
  has_replied t mid new (is_cut after) h = has_ends mid new t Memory after h

  outdated_has : (o : Option Bytes) (n : ℕ) (p : Position) → OpenHas P p → OpenHas P (outdated o n p)
  outdated_has None n p h = h
  outdated_has (Some relation) n (open_at given finished) h = tt
  outdated_has (Some relation) n (stale r m) h = tt

  has_changed : (old : State) (o : Option RowsChange) (store : Store) → Has s name P old
      → Has s name P (changed old o store)
  has_changed old None store h = record { session = h.session; is = h.is; few = h.few }
  has_changed old (Some change) store h =
      let qs = old.store.queries in
      let turn = outdated_cursor qs change.outdater store.seq in
      let f = λ (x : Session). record x { cursors = map turn x.cursors } in record {
        session = f h.session;
        is = find_mapped (λ (x : Session). x.id == s) f (λ x. refl) old.sessions ∙ ap (λ o. option_map f o) h.is;
        few = (
          subst (λ (n : ℕ). n ≤ 1) (sym (length-map (h.session).cursors turn)) h.few.0,
          all_mapped (CursorHas name P) (CursorHas name P) turn
              (λ c k. (k.0, outdated_has (outdater_of qs change.outdater c.query) store.seq c.position k.1))
              (h.session).cursors h.few.1,
        );
      }

  has_change : (old : State) (t : ℕ) (outcome : RowsOutcome) (store : Store) (reply : Bytes) (e : Effect) (new : State)
      → ChangeStep old t outcome store reply e new → Has s name P old → Has s name P new
  has_change old t outcome store reply e new h k =
      subst (λ (st : State). Has s name P st) (sym h.state)
      (change_keeps (λ (m : Telling). Has s name P m.state) (λ m i text there g. g)
      (λ m i text cause may there g. has_ends m.state (with_session m.state i (ended_by cause)) i cause refl g)
      old t outcome store reply e new h (has_changed old (tried outcome) store k))

  -- a command that opens no cursor and reads none, where the session says it
  abbrev pub IsCalm : Form → Type 0
  IsCalm (turning (opens_cursor c q)) = ⊥
  IsCalm (turning (moves_cursor c)) = ⊥
  IsCalm f = Unit {0}

  has_turned : (old : State) (t : ℕ) (x : Session) (turn : Turn) (new : State)
      → ((t == s) ≡ true → IsCalm (turning turn))
      → SessionTurned old t x turn new → Has s name P old → Has s name P new
  has_turned old t x (opens_cursor c q) new calm h k =
      has_with old new t _ (λ y. refl) (λ e y l. absurd (calm e)) h.2 k
  has_turned old t x (moves_cursor c) new calm h k =
      has_with old new t _ (λ y. refl) (λ e y l. absurd (calm e)) h.state k
  has_turned old t x (closes_cursor c) new calm h k =
      has_with old new t (without_cursor c) (λ y. refl) (λ e y l.
      let less = less_dropped (λ (z : Cursor). bytes_eq z.name c) y.cursors in
      let most = l.0 in
      (omega (arith, less, most), all_dropped (CursorHas name P) (λ (z : Cursor). bytes_eq z.name c) y.cursors l.1)) h k
  has_turned old t x (starts_watching q) new calm h k = has_kept old new t (with_watch q) (λ y. refl) (λ y. refl) h.1 k
  has_turned old t x (stops_watching q) new calm h k = has_kept old new t (without_watch q) (λ y. refl) (λ y. refl) h k
  has_turned old t x opens_batch new calm h k = has_kept old new t (with_batch nothing_held) (λ y. refl) (λ y. refl) h k
  has_turned old t x (holds_line l verb relation row) new calm h k =
      has_kept old new t (with_batch (holding h.held verb relation row l)) (λ y. refl) (λ y. refl) h.state k
  has_turned old t x closes_batch new calm h k = has_kept old new t without_batch (λ y. refl) (λ y. refl) h k

  has_turn : (old : State) (t : ℕ) (x : Session) (turn : Turn) (new : State) → ((t == s) ≡ true → IsCalm (turning turn))
      → DoesTurn old t x turn new → Has s name P old → Has s name P new
  has_turn old t x turn new calm (is_turned h) k = has_turned old t x turn new calm h k
  has_turn old t x turn new calm (is_refused r) k = has_replied t old new r k

  has_form : (f : Form) (old : State) (t : ℕ) (x : Session) (e : Effect) (new : State) → ((t == s) ≡ true → IsCalm f)
      → FormDoes f old t x e new → Has s name P old → Has s name P new
  has_form asking old t x e new calm h k = has_replied t old new h.1 k
  has_form storing old t x e new calm h k =
      has_replied t (record old { store = h.1.store }) new h.1.replied
      (record { session = k.session; is = k.is; few = k.few })
  has_form (turning turn) old t x e new calm h k = has_turn old t x turn new calm h.1 k
  has_form (changing c) old t x e new calm h k =
      let d = rows_do old t c e new h in
      has_change (begun old t c) t d.outcome d.store d.reply e new d.change
      (has_kept old (begun old t c) t (closing c) (closing_id c) (closing_cursors c) refl k)
  has_form ending old t x e new calm h k =
      has_ends (record old { stopped = h.1.stopped }) new t h.1.cause h.1.state
      (record { session = k.session; is = k.is; few = k.few })

  -- a line that opens no cursor and reads none
  abbrev pub CommandCalm : Command → Type 0
  CommandCalm (Open c q) = ⊥
  CommandCalm (Next c count) = ⊥
  CommandCalm c = Unit {0}

  abbrev pub ReadsCalm : Reading → Type 0
  ReadsCalm (says_command c) = CommandCalm c
  ReadsCalm r = Unit {0}

  calm_form : (batch : Option HeldTransaction) (l : Bytes) (c : Command) → CommandCalm c → IsCalm (form_of batch l c)
  calm_form batch l (Open c q) calm = absurd calm
  calm_form batch l (Next c count) calm = absurd calm
  calm_form None l (Add relation row) calm = tt
  calm_form (Some held) l (Add relation row) calm = tt
  calm_form None l (Del relation row) calm = tt
  calm_form (Some held) l (Del relation row) calm = tt
  calm_form None l (Done given) calm = tt
  calm_form (Some held) l (Done given) calm = tt
  calm_form batch l c calm = tt

  pub has_read : (old : State) (t : ℕ) (x : Session) (l : Bytes) (e : Effect) (new : State)
      → ((t == s) ≡ true → ReadsCalm (reading_of l)) → ReadStep old t x l (reading_of l) e new → Has s name P old
      → Has s name P new
  has_read old t x l e new calm h k = by (line_reads old t x l (reading_of l) e new h)
    where
      by : Reads old t x l (reading_of l) e new → Has s name P new
      by (turned_down why because d) = has_same old new d.1 k
      by (carried_out c is d) =
          has_form (form_of x.batch l c) old t x e new
          (λ same. calm_form x.batch l c (subst (λ (w : Reading). ReadsCalm w) is (calm same)))
          (command_does old t x l c e new is d) k

  pub has_line : (old : State) (t : ℕ) (rest : Bytes) → Has s name P old
      → Has s name P (with_session old t (behind_line rest))
  has_line old t rest h = has_kept old (with_session old t (behind_line rest)) t (behind_line rest) (λ x. refl)
      (λ x. refl) refl h

  -- an event, where no line of the session opens a cursor or reads one
  abbrev pub EventCalm : Event → Type 0
  EventCalm (stepped t (run l)) = (t == s) ≡ true → ReadsCalm (reading_of l)
  EventCalm (closed t bytes) = (t == s) ≡ false
  EventCalm event = Unit {0}

  has_front : (old : State) (t : ℕ) (x : Session) (outcome : LineOutcome) (e : Effect) (new : State)
      → EventCalm (stepped t outcome) → FrontStep old t x outcome e new → Has s name P old → Has s name P new
  has_front old t x long e new calm h k = has_ends old new t _ h.1.1 k
  has_front old t x (blank l) e new calm h k =
      has_same (with_session old t (behind_line h.1.rest)) new h.1.then.1 (has_line old t h.1.rest k)
  has_front old t x (slow l) e new calm h k =
      has_ends (with_session old t (behind_line h.2.rest)) new t _ h.2.then.1 (has_line old t h.2.rest k)
  has_front old t x (no_room l) e new calm h k =
      has_ends (with_session old t (behind_line h.2.rest)) new t _ h.2.then.1 (has_line old t h.2.rest k)
  has_front old t x (run l) e new calm h k =
      has_read (with_session old t (behind_line h.2.rest)) t (behind_line h.2.rest x) l e new calm h.2.then
      (has_line old t h.2.rest k)

  has_fed : (old : State) (t : ℕ) (bytes : Bytes) (e : Effect) (mid : State) (c : Option EndCause)
      → MatchOption c
      (((e ≡ nothing) × (mid ≡ with_session old t (λ y. record y { held = y.held ++ bytes }))) ⊎ EndsWith end_memory
      Memory old t e mid)
      (λ _. (e ≡ nothing) × (mid ≡ old))
      → Has s name P old → Has s name P mid
  has_fed old t bytes e mid None (inl h) k =
      has_kept old mid t (λ y. record y { held = y.held ++ bytes }) (λ x. refl) (λ x. refl) h.1 k
  has_fed old t bytes e mid None (inr h) k = has_ends old mid t Memory h.1 k
  has_fed old t bytes e mid (Some c) h k = has_same old mid h.1 k

  has_input : (old mid : State) (t : ℕ) (A B C : Type 0) (c : Option EndCause)
      → MatchOption c (A × B × (mid ≡ with_session old t (ended_by Input))) (λ _. C × (mid ≡ old)) → Has s name P old
      → Has s name P mid
  has_input old mid t A B C None h k = has_ends old mid t Input h.2 k
  has_input old mid t A B C (Some c) h k = has_same old mid h.1 k

  has_acts : (old : State) (event : Event) (e : Effect) (mid : State) → EventCalm event → Acts old event e mid
      → Has s name P old → Has s name P mid
  has_acts old (opened t) e mid calm h k = by h.2
    where
      by : ((length old.sessions < SESSIONS) × (mid ≡ record old { sessions = old.sessions ++ fresh t ∷ [] })) ⊎
          (mid ≡ old)
          → Has s name P mid
      by (inr same) = has_same old mid same k
      by (inl more) =
          subst (λ (st : State). Has s name P st) (sym more.1) (record {
            session = k.session;
            is = find_front (λ (x : Session). x.id == s) old.sessions (fresh t) k.session k.is;
            few = k.few;
          })
  has_acts old (fed t bytes) e mid calm h k =
      let f = some_there (session_of old t) (λ x. FedStep old t bytes x e mid) h in
      has_fed old t bytes e mid (f.0).cause f.2 k
  has_acts old (stepped t outcome) e mid calm h k =
      let f = some_there (session_of old t) (λ x. (x.cause ≡ None) × FrontStep old t x outcome e mid) h in
      has_front old t f.0 outcome e mid calm f.2.1 k
  has_acts old (took t bytes) e mid calm h k =
      let f = some_there (session_of old t) (λ x. TookStep old t bytes x e mid) h in
      has_kept old mid t (λ y. record y { pending = f.2.1.0 }) (λ x. refl) (λ x. refl) f.2.1.2 k
  has_acts old (ended t) e mid calm h k =
      let f = some_there (session_of old t) (λ x. EndedStep old t x e mid) h in
      has_input old mid t _ _ _ (f.0).cause f.2 k
  has_acts old (closed t bytes) e mid calm h k =
      subst (λ (st : State). Has s name P st) (sym h.2) (record {
        session = k.session;
        is = find_kept (λ (x : Session). x.id == s) (λ x. not (x.id == t)) (λ x e.
            let same = eqb-true x.id s e in kept x.id same) old.sessions ∙ k.is;
        few = k.few;
      })
    where
      kept : (i : ℕ) → i ≡ s → not (i == t) ≡ true
      kept i same = by (i == t) refl
        where
          by : (b : Bool) → (i == t) ≡ b → not b ≡ true
          by true f =
              let yes : (t == s) ≡ true = eq-eqb t s (sym (eqb-true i t f) ∙ same) in absurd (cc (yes, calm))
          by false f = refl

  pub has_queued : (st : State) (qs : List (ℕ × Bytes)) → Has s name P st → Has s name P (queue_all st qs)
  has_queued st [] h = h
  has_queued st (q ∷ qs) h =
      has_queued (queue st q) qs
      (has_kept st (queue st q) q.0 (λ x. record x { pending = x.pending ++ q.1 }) (λ x. refl) (λ x. refl) refl h)

  -- what a step leaves, as its rows are moved and its bytes queued
  pub has_behind : (old : State) (event : Event) (e : Effect) (new : State) (h : Step old event e new)
      → Has s name P h.mid
      → Has s name P new
  has_behind old event e new h k =
      subst (λ (st : State). Has s name P st) (sym h.queued)
      (has_queued (with_relations h.mid h.relations) e.queued (record { session = k.session; is = k.is; few = k.few }))

  pub has_step : (old : State) (event : Event) (e : Effect) (new : State) → EventCalm event → Step old event e new
      → Has s name P old → Has s name P new
  has_step old event e new calm h k = has_behind old event e new h (has_acts old event e h.mid calm h.acts k)
