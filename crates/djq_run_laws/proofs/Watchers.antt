-- A session that watches a registered query does so as long as it goes on.
use Rattle.std.specs.Prelude.{ℕ, List, [], ◌∷◌, ◌==◌, ◌≡◌, ◌<◌, ◌++◌, ◌⊎◌, ◌||◌, Bool, true, false, cond, length}
use Rattle.std.specs.Prelude.{Option, None, Some, MatchOption, option_map, find, All}
use Rattle.std.specs.List.{list_any}
use Rattle.std.proofs.Common.{refl, sym, ap, ◌∙◌, subst, inl, inr}
use Rattle.std.proofs.lemmas.Bool.{eqb-true}
use Rattle.std.proofs.lemmas.List.Elements.{All-head, All-tail, All-contains}
use Rattle.djq_model.specs.declared.relation.Relation.{Relation}
use Rattle.djq_model.specs.Data.{Bytes, bytes_eq, drop_first, Tuple}
use Rattle.djq_model.specs.Listed.{Listed, listed_name, listed_of, AnswersOf}
use Rattle.djq_model.specs.Equality.{bytes_eq-decides}
use Rattle.djq_model.specs.Answer.{IsListing}
use Rattle.djq_protocol.specs.declared.answer.EndCause.{EndCause}
use Rattle.djq_protocol.specs.declared.answer.EndCause.TheVariants.{Input, Long, Slow, Memory}
use Rattle.djq_protocol.specs.declared.command.Command.{Command}
use Rattle.djq_protocol.specs.declared.command.Command.TheVariants.{Add, Del, Done, Unwatch}
use Rattle.djq_store_spec.specs.Held.{HeldTransaction, nothing_held}
use Rattle.djq_protocol.specs.declared.limits.TheConstants.{SESSIONS}
use Rattle.djq_protocol.specs.Grammar.{says_command, reading_of}
use Rattle.djq_protocol.specs.Reply.{end_memory}
use Rattle.djq_store_spec.specs.Store.{Store, Position, open_at}
use Rattle.djq_store_spec.specs.Changes.{RowsChange, RowsOutcome, tried}
use Rattle.djq_answer_laws.proofs.Lists.{some_there}
use Rattle.djq_machine.specs.State.{State, Session, Cursor, fresh, session_of, with_session, ended_by}
use Rattle.djq_machine.specs.Outdating.{changed}
use Rattle.djq_machine.specs.Watch.{is_watching, Telling, ChangeStep}
use Rattle.djq_machine.specs.Effect.{Effect, nothing, EndsWith}
use Rattle.djq_machine.specs.Command.{uses, with_cursor, with_watch, without_watch, with_batch, without_batch}
use Rattle.djq_machine.specs.LineStep.{LineOutcome, long, blank, slow, no_room, run, ReadStep, FrontStep, behind_line}
use Rattle.djq_machine.specs.Step.{Event, opened, fed, stepped, took, ended, closed, FedStep, TookStep, EndedStep, Acts}
use Rattle.djq_machine.specs.Step.{with_relations, Step}
use Rattle.djq_machine.specs.Run.{Did, Run, to_session}
use Rattle.djq_machine.specs.Call.{IsOpen, cause_of, cause_in}
use Rattle.djq_machine.specs.Gives.{PositionGives, CursorsGive}
use Rattle.djq_run_laws.specs.Moved.{EndsByRun, SparesSession, InputComes, is_held, out_of_memory, is_dropped}
use Rattle.djq_run_laws.specs.Moved.{InputIsOver, input_ends, had_ended}
use Rattle.djq_run_laws.specs.Watched.{IsWatcher, WatchesAlong}
use Rattle.djq_run_laws.specs.Staying.{GoesOn, KeepsWatch, WatchersStay}
use Rattle.djq_run_laws.specs.Form.{form_of, Form, asking, storing, turning, changing, ending, Turn, opens_cursor}
use Rattle.djq_run_laws.specs.Form.{moves_cursor, closes_cursor, starts_watching, stops_watching, opens_batch}
use Rattle.djq_run_laws.specs.Form.{holds_line, closes_batch, RowCommand, Replied, is_whole, is_cut, Stored}
use Rattle.djq_run_laws.specs.Form.{learns_texts, makes_relation, registers, drops_query, in_use, without_cursor}
use Rattle.djq_run_laws.specs.Form.{SessionTurned, RowsChanged, DoesStore, DoesTurn, is_turned, is_refused, FormDoes}
use Rattle.djq_run_laws.specs.Live.{HasListed, ListingsStayLive}
use Rattle.djq_run_laws.proofs.Lists.{and_some, change_keeps, gaining, session_changed, stepped as stepped_session}
use Rattle.djq_run_laws.proofs.Lists.{stepped_cause, found_there, any_there, all_found}
use Rattle.djq_run_laws.proofs.Forms.{command_does, Reads, turned_down, carried_out, line_reads}
use Rattle.djq_run_laws.proofs.RowCommands.{made_queries}
use Rattle.djq_run_laws.proofs.Batches.{begun, rows_do}
use Rattle.djq_run_laws.proofs.Cursors.{found_in_front, dropped_query}
use Rattle.djq_run_laws.proofs.Sessions.{CauseKept, alike_cause}
use Rattle.djq_run_laws.proofs.Events.{AnyCause, Touches, is_fed, is_stepped, is_taken, is_ended, step_open}
use Rattle.djq_run_laws.proofs.Events.{others_stay}
use Rattle.djq_run_laws.proofs.Courses.{fed_facts, took_facts, ended_facts}
use Rattle.djq_run_laws.proofs.Deltas.{Watches, some_of, IsOver, over_stays, watches_still, watches_changed}
use Rattle.djq_run_laws.proofs.Deltas.{watches_with, watches_begun, change_store, queued_store}
use Rattle.djq_run_laws.proofs.DeltaSums.{watchers_have_answers}

-- ---- A session that watches a registered query does so as long as it goes on and doesn't unwatch it.

-- a session that watches a query so far, or is over
abbrev Goes : Bytes → State → ℕ → Type 0
Goes q st s = Watches q (session_of st s) ⊎ IsOver st s

-- what is pushed behind, and what is dropped of other names
any_pushed : (p : Bytes → Bool) (ws : List Bytes) (w : Bytes) → list_any p ws ≡ true → list_any p (ws ++ w ∷ []) ≡ true
any_pushed p [] w h = absurd cc
any_pushed p (v ∷ vs) w h = step (p v) h (λ k. any_pushed p vs w k)
  where
    step : (b : Bool) → (b || list_any p vs) ≡ true → (list_any p vs ≡ true → list_any p (vs ++ w ∷ []) ≡ true)
        → (b || list_any p (vs ++ w ∷ [])) ≡ true
    step true k more = refl
    step false k more = more k

any_dropped : (p d : Bytes → Bool) → ((w : Bytes) → d w ≡ true → p w ≡ false) → (ws : List Bytes) → list_any p ws ≡ true
    → list_any p (drop_first d ws) ≡ true
any_dropped p d apart [] h = h
any_dropped p d apart (v ∷ vs) h = step (d v) refl (p v) refl h (λ k. any_dropped p d apart vs k)
  where
    step : (b : Bool) → d v ≡ b → (c : Bool) → p v ≡ c → (c || list_any p vs) ≡ true
        → (list_any p vs ≡ true → list_any p (drop_first d vs) ≡ true) → list_any p (cond b vs (v ∷ drop_first d vs))
        ≡ true
    step true e true k h more = let none = apart v e in absurd (cc (none, k))
    step true e false k h more = h
    step false e true k h more = rw k refl
    step false e false k h more = rw k (more h)

still_watches : (q p : Bytes) (x : Session) → is_watching q x ≡ true → is_watching q (with_watch p x) ≡ true
still_watches q p x h = step (is_watching p x)
  where
    step : (b : Bool) → list_any (λ w. bytes_eq w q) (cond b x.watches (x.watches ++ p ∷ [])) ≡ true
    step true = h
    step false = any_pushed (λ w. bytes_eq w q) x.watches p h

others_unwatched : (q p : Bytes) (x : Session) → bytes_eq p q ≡ false → is_watching q x ≡ true
    → is_watching q (without_watch p x) ≡ true
others_unwatched q p x apart h = any_dropped (λ w. bytes_eq w q) (λ w. bytes_eq w p)
    (λ w e. let same : w ≡ p = (bytes_eq-decides w p).0 e in ap (λ v. bytes_eq v q) same ∙ apart) x.watches h

-- What stays of a session that watches a registered query.
record Stays (q : Listed) (s : ℕ) (st : State) : Type 0 where
  registered : listed_of st.store.queries (listed_name q) ≡ Some q
  goes : Goes (listed_name q) st s

module _ (q : Listed) (s : ℕ) (old : State) (registered : listed_of old.store.queries (listed_name q) ≡ Some q)
    (watches : Watches (listed_name q) (session_of old s)) where
  by_none : (new : State) → new ≡ old → Stays q s new
  by_none new e = subst (λ (st : State). Stays q s st) (sym e) (record { registered = registered; goes = inl watches })

  by_session : (t : ℕ) (f : Session → Session) (new : State) → ((x : Session) → (f x).id ≡ x.id)
      → ((t == s) ≡ true → (x : Session) → is_watching (listed_name q) x ≡ true → is_watching (listed_name q) (f x)
      ≡ true)
      → new ≡ with_session old t f → Stays q s new
  by_session t f new id keeps e =
      subst (λ (st : State). Stays q s st) (sym e)
      (record {
        registered = registered;
        goes = inl
            (watches_with (listed_name q) old t f s (t == s) refl id keeps watches);
      })

  by_end : (t : ℕ) (cause : EndCause) (new : State) → IsOpen old t → new ≡ with_session old t (ended_by cause)
      → Stays q s new
  by_end t cause new there e =
      subst (λ (st : State). Stays q s st) (sym e)
      (record {
        registered = registered;
        goes = watches_still (listed_name q) old t cause s (t == s) refl there
            watches;
      })

  same_queries : (store : Store) → store.queries ≡ old.store.queries → listed_of store.queries (listed_name q) ≡ Some q
  same_queries store e = ap (λ qs. listed_of qs (listed_name q)) e ∙ registered

  begins : (o : Option RowsChange) (store : Store) → Watches (listed_name q) (session_of (changed old o store) s)
  begins None store = watches
  begins (Some change) store = watches_changed (listed_name q) old change store s watches

  by_change : (t : ℕ) (outcome : RowsOutcome) (store : Store) (reply : Bytes) (e : Effect) (new : State)
      → ChangeStep old t outcome store reply e new → store.queries ≡ old.store.queries → Stays q s new
  by_change t outcome store reply e new h same = record {
    registered = same_queries new.store
        (ap (λ (st : Store). st.queries) (change_store old t outcome store reply e new h) ∙ same);
    goes = subst (λ (st : State). Goes (listed_name q) st s) (sym h.state)
        (change_keeps (λ (m : Telling). Goes (listed_name q) m.state s) (λ m i text there k. k) ends old t outcome store
        reply e new h (inl (begins (tried outcome) store)));
  }
    where
      ends : (m : Telling) (i : ℕ) (text : Bytes) (cause : EndCause) → EndsByRun cause → IsOpen m.state i
          → Goes (listed_name q) m.state s → Goes (listed_name q) (with_session m.state i (ended_by cause)) s
      ends m i text cause may there (inl w) = watches_still (listed_name q) m.state i cause s (i == s) refl there w
      ends m i text cause may there (inr over) = inr (over_stays m.state i cause s (i == s) refl there over)

  -- what a command of the store makes of it: a query that is watched isn't dropped
  used : in_use old (listed_name q) ≡ true
  used =
      let g = some_there (session_of old s) (λ x. is_watching (listed_name q) x ≡ true) watches in
      any_there (uses (listed_name q)) old.sessions g.0 (found_there (λ (x : Session). x.id == s) old.sessions g.0 g.1)
      (or_true (list_any (λ (c : Cursor). bytes_eq c.query (listed_name q)) (g.0).cursors)
      (is_watching (listed_name q) g.0) g.2)
    where
      or_true : (a b : Bool) → b ≡ true → (a || b) ≡ true
      or_true true b k = refl
      or_true false b k = k

  still_registered : (store : Store) → Stored (in_use old) old.store store → listed_of store.queries (listed_name q)
      ≡ Some q
  still_registered store (learns_texts h) = same_queries store (ap (λ (st : Store). st.queries) h.store)
  still_registered store (makes_relation name types may e) = same_queries store (ap (λ (st : Store). st.queries) e)
  still_registered store (registers p none may place few e) =
      ap (λ (st : Store). listed_of st.queries (listed_name q)) e
      ∙ found_in_front old.store.queries p (listed_name q) q registered
  still_registered store (drops_query p unused free e) =
      ap (λ (st : Store). listed_of st.queries (listed_name q)) e
      ∙ dropped_query old.store.queries p (listed_name q) (other (bytes_eq (listed_name q) p) refl) ∙ registered
    where
      other : (b : Bool) → bytes_eq (listed_name q) p ≡ b → b ≡ false
      other false k = refl
      other true k =
          let same : listed_name q ≡ p = (bytes_eq-decides (listed_name q) p).0 k in
          let yes : in_use old p ≡ true = subst (λ (n : Bytes). in_use old n ≡ true) same used in
          absurd (cc (yes, unused))

  -- a session that doesn't unwatch the query
  unwatches_other : (t : ℕ) (p : Bytes) → ((t == s) ≡ true → stops_watching p ≡ stops_watching (listed_name q) → ⊥)
      → (t == s) ≡ true → (x : Session) → is_watching (listed_name q) x ≡ true
      → is_watching (listed_name q) (without_watch p x) ≡ true
  unwatches_other t p not_it here x k = others_unwatched (listed_name q) p x (other (bytes_eq p (listed_name q)) refl) k
    where
      other : (b : Bool) → bytes_eq p (listed_name q) ≡ b → b ≡ false
      other false e = refl
      other true e =
          let same : p ≡ listed_name q = (bytes_eq-decides p (listed_name q)).0 e in
          absurd (not_it here (ap (λ n. stops_watching n) same))

  by_turn : (t : ℕ) (x : Session) (turn : Turn) (new : State)
      → ((t == s) ≡ true → turn ≡ stops_watching (listed_name q) → ⊥)
      → SessionTurned old t x turn new → Stays q s new
  by_turn t x (opens_cursor c p) new not_it h = by_session t (with_cursor c p) new (λ y. refl) (λ b y k. k) h.2
  by_turn t x (moves_cursor c) new not_it h = by_session t _ new (λ y. refl) (λ b y k. k) h.state
  by_turn t x (closes_cursor c) new not_it h = by_session t (without_cursor c) new (λ y. refl) (λ b y k. k) h
  by_turn t x (starts_watching p) new not_it h =
      by_session t (with_watch p) new (λ y. refl) (λ b y k. still_watches (listed_name q) p y k) h.1
  by_turn t x (stops_watching p) new not_it h =
      by_session t (without_watch p) new (λ y. refl) (unwatches_other t p not_it) h
  by_turn t x opens_batch new not_it h = by_session t (with_batch nothing_held) new (λ y. refl) (λ b y k. k) h
  by_turn t x (holds_line l verb name row) new not_it h = by_session t _ new (λ y. refl) (λ b y k. k) h.state
  by_turn t x closes_batch new not_it h = by_session t without_batch new (λ y. refl) (λ b y k. k) h

  by_reply : (t : ℕ) (new : State) → IsOpen old t → Replied t old new → Stays q s new
  by_reply t new there (is_whole after) = by_none new after
  by_reply t new there (is_cut after) = by_end t Memory new there after

  by_turning : (t : ℕ) (x : Session) (turn : Turn) (new : State) → IsOpen old t
      → ((t == s) ≡ true → turn ≡ stops_watching (listed_name q) → ⊥) → DoesTurn old t x turn new → Stays q s new
  by_turning t x turn new there not_it (is_turned h) = by_turn t x turn new not_it h
  by_turning t x turn new there not_it (is_refused r) = by_reply t new there r

by_rows : (q : Listed) (s : ℕ) (old : State) → listed_of old.store.queries (listed_name q) ≡ Some q
    → Watches (listed_name q) (session_of old s)
    → (t : ℕ) (c : RowCommand) (e : Effect) (new : State) → RowsChanged old t c e new → Stays q s new
by_rows q s old registered watches t c e new h =
    let d = rows_do old t c e new h in
    by_change q s (begun old t c) registered (watches_begun (listed_name q) old t c s watches) t d.outcome d.store
    d.reply e new d.change (made_queries c old.store d.outcome d.store d.made)

by_storing : (q : Listed) (s : ℕ) (old : State) → listed_of old.store.queries (listed_name q) ≡ Some q
    → Watches (listed_name q) (session_of old s)
    → (t : ℕ) (new : State) → IsOpen old t → DoesStore old t new → Stays q s new
by_storing q s old registered watches t new there h =
    by_reply q s (record old { store = h.store }) (still_registered q s old registered watches h.store h.stored) watches
    t new there h.replied

module _ (q : Listed) (s : ℕ) (old : State) (registered : listed_of old.store.queries (listed_name q) ≡ Some q)
    (watches : Watches (listed_name q) (session_of old s)) where
  by_form : (f : Form) (t : ℕ) (x : Session) (e : Effect) (new : State) → IsOpen old t
      → ((t == s) ≡ true → f ≡ turning (stops_watching (listed_name q)) → ⊥)
      → FormDoes f old t x e new → Stays q s new
  by_form asking t x e new there not_it h = by_reply q s old registered watches t new there h.1
  by_form storing t x e new there not_it h = by_storing q s old registered watches t new there h.1
  by_form (turning turn) t x e new there not_it h =
      by_turning q s old registered watches t x turn new there
      (λ here same. not_it here (ap (λ (u : Turn). turning u) same)) h.1
  by_form (changing c) t x e new there not_it h = by_rows q s old registered watches t c e new h
  by_form ending t x e new there not_it h =
      by_end q s (record old { stopped = h.1.stopped }) registered watches t h.1.cause new there h.1.state

  -- `unwatch` alone is of its form
  is_unwatch : (batch : Option HeldTransaction) (l : Bytes) (c : Command) (p : Bytes)
      → form_of batch l c ≡ turning (stops_watching p) → c ≡ Unwatch p
  is_unwatch batch l (Unwatch n) p e = cc
  is_unwatch None l (Add name row) p e = absurd cc
  is_unwatch (Some held) l (Add name row) p e = absurd cc
  is_unwatch None l (Del name row) p e = absurd cc
  is_unwatch (Some held) l (Del name row) p e = absurd cc
  is_unwatch None l (Done given) p e = absurd cc
  is_unwatch (Some held) l (Done given) p e = absurd cc
  is_unwatch batch l c p e = absurd cc

  by_reading : (t : ℕ) (x : Session) (l : Bytes) (e : Effect) (new : State) → IsOpen old t
      → ((t == s) ≡ true → reading_of l ≡ says_command (Unwatch (listed_name q)) → ⊥)
      → ReadStep old t x l (reading_of l) e new → Stays q s new
  by_reading t x l e new there not_it h = by (line_reads old t x l (reading_of l) e new h)
    where
      by : Reads old t x l (reading_of l) e new → Stays q s new
      by (turned_down why because k) = by_none q s old registered watches new k.1
      by (carried_out c is k) =
          by_form (form_of x.batch l c) t x e new there
          (λ here same. not_it here (is ∙ ap (λ w. says_command w) (is_unwatch x.batch l c (listed_name q) same)))
          (command_does old t x l c e new is k)

-- The front of a session's bytes.
open_behind : (old : State) (t : ℕ) (rest : Bytes) (x : Session) → session_of old t ≡ Some x
    → IsOpen (with_session old t (behind_line rest)) t
open_behind old t rest x found = rw
    (session_changed old t (behind_line rest) (λ y. refl) ∙ ap (λ o. option_map (behind_line rest) o) found) refl

ends_behind : (q : Listed) (s : ℕ) (old : State) → listed_of old.store.queries (listed_name q) ≡ Some q
    → Watches (listed_name q) (session_of old s)
    → (t : ℕ) (rest : Bytes) (x : Session) (cause : EndCause) (new : State) → session_of old t ≡ Some x → new
    ≡ with_session (with_session old t (behind_line rest)) t (ended_by cause) → Stays q s new
ends_behind q s old registered watches t rest x cause new found e =
    by_end q s (with_session old t (behind_line rest)) registered
    (watches_with (listed_name q) old t (behind_line rest) s (t == s) refl (λ y. refl) (λ b y k. k) watches) t cause new
    (open_behind old t rest x found) e

by_front : (q : Listed) (s : ℕ) (old : State) → listed_of old.store.queries (listed_name q) ≡ Some q
    → Watches (listed_name q) (session_of old s)
    → (t : ℕ) (x : Session) (outcome : LineOutcome) (e : Effect) (new : State) → session_of old t ≡ Some x
    → KeepsWatch q s (stepped t outcome) → FrontStep old t x outcome e new → Stays q s new
by_front q s old registered watches t x long e new found keeps h = by_end q s old registered watches t Long new
    (rw found refl) h.1.1
by_front q s old registered watches t x (blank l) e new found keeps h = by_session q s old registered watches t
    (behind_line h.1.rest) new (λ y. refl) (λ b y k. k) h.1.then.1
by_front q s old registered watches t x (slow l) e new found keeps h = ends_behind q s old registered watches t h.2.rest
    x Slow new found h.2.then.1
by_front q s old registered watches t x (no_room l) e new found keeps h = ends_behind q s old registered watches t
    h.2.rest x Memory new found h.2.then.1
by_front q s old registered watches t x (run l) e new found keeps h =
    by_reading q s (with_session old t (behind_line h.2.rest)) registered
    (watches_with (listed_name q) old t (behind_line h.2.rest) s (t == s) refl (λ y. refl) (λ b y k. k) watches)
    t (behind_line h.2.rest x) l e new (open_behind old t h.2.rest x found) keeps h.2.then

-- The events.
pub find_front : (p : Session → Bool) (xs : List Session) (y x : Session) → find p xs ≡ Some x → find p (xs ++ y ∷ [])
    ≡ Some x
find_front p [] y x h = absurd cc
find_front p (z ∷ zs) y x h = step (p z) h (λ k. find_front p zs y x k)
  where
    step : (b : Bool) → cond b (Some z) (find p zs) ≡ Some x → (find p zs ≡ Some x → find p (zs ++ y ∷ []) ≡ Some x)
        → cond b (Some z) (find p (zs ++ y ∷ [])) ≡ Some x
    step true k more = k
    step false k more = more k

by_open : (q : Listed) (s : ℕ) (old : State) → listed_of old.store.queries (listed_name q) ≡ Some q
    → Watches (listed_name q) (session_of old s)
    → (t : ℕ) (new : State)
    → ((length old.sessions < SESSIONS) × (new ≡ record old { sessions = old.sessions ++ fresh t ∷ [] })) ⊎
    (new ≡ old) → Stays q s new
by_open q s old registered watches t new (inr h) = by_none q s old registered watches new h
by_open q s old registered watches t new (inl h) =
    let g = some_there (session_of old s) (λ x. is_watching (listed_name q) x ≡ true) watches in
    let opened : State = record old { sessions = old.sessions ++ fresh t ∷ [] } in
    subst (λ (st : State). Stays q s st) (sym h.1)
    (record {
      registered = registered;
      goes = inl (and_some (session_of opened s) (λ x. is_watching (listed_name q) x ≡ true) g.0
          (find_front (λ (x : Session). x.id == s) old.sessions (fresh t) g.0 g.1) g.2);
    })

by_feeding : (q : Listed) (s : ℕ) (old : State) → listed_of old.store.queries (listed_name q) ≡ Some q
    → Watches (listed_name q) (session_of old s)
    → (t : ℕ) (bytes : Bytes) (e : Effect) (mid : State) (c : Option EndCause) → IsOpen old t
    → MatchOption c
    (((e ≡ nothing) × (mid ≡ with_session old t (λ y. record y { held = y.held ++ bytes }))) ⊎ EndsWith end_memory
    Memory old t e mid)
    (λ _. (e ≡ nothing) × (mid ≡ old))
    → Stays q s mid
by_feeding q s old registered watches t bytes e mid None there (inl h) = by_session q s old registered watches t
    (λ y. record y { held = y.held ++ bytes }) mid (λ x. refl) (λ b x k. k) h.1
by_feeding q s old registered watches t bytes e mid None there (inr h) = by_end q s old registered watches t Memory mid
    there h.1
by_feeding q s old registered watches t bytes e mid (Some c) there h = by_none q s old registered watches mid h.1

by_input : (q : Listed) (s : ℕ) (old : State) → listed_of old.store.queries (listed_name q) ≡ Some q
    → Watches (listed_name q) (session_of old s)
    → (t : ℕ) (mid : State) (P Q R : Type 0) (c : Option EndCause) → IsOpen old t
    → MatchOption c (P × Q × (mid ≡ with_session old t (ended_by Input))) (λ _. R × (mid ≡ old)) → Stays q s mid
by_input q s old registered watches t mid P Q R None there h = by_end q s old registered watches t Input mid there h.2
by_input q s old registered watches t mid P Q R (Some c) there h = by_none q s old registered watches mid h.1

acts_stay : (q : Listed) (s : ℕ) (old : State) → listed_of old.store.queries (listed_name q) ≡ Some q
    → Watches (listed_name q) (session_of old s)
    → (event : Event) (e : Effect) (mid : State) → KeepsWatch q s event → Acts old event e mid → Stays q s mid
acts_stay q s old registered watches (opened t) e mid keeps h = by_open q s old registered watches t mid h.2
acts_stay q s old registered watches (fed t bytes) e mid keeps h =
    let f = some_there (session_of old t) (λ x. FedStep old t bytes x e mid) h in
    by_feeding q s old registered watches t bytes e mid (f.0).cause (rw f.1 refl) f.2
acts_stay q s old registered watches (stepped t outcome) e mid keeps h =
    let f = some_there (session_of old t) (λ x. (x.cause ≡ None) × FrontStep old t x outcome e mid) h in
    by_front q s old registered watches t f.0 outcome e mid f.1 keeps f.2.1
acts_stay q s old registered watches (took t bytes) e mid keeps h =
    let f = some_there (session_of old t) (λ x. TookStep old t bytes x e mid) h in
    by_session q s old registered watches t (λ y. record y { pending = f.2.1.0 }) mid (λ x. refl) (λ b x k. k) f.2.1.2
acts_stay q s old registered watches (ended t) e mid keeps h =
    let f = some_there (session_of old t) (λ x. EndedStep old t x e mid) h in
    by_input q s old registered watches t mid _ _ _ (f.0).cause (rw f.1 refl) f.2
acts_stay q s old registered watches (closed t bytes) e mid keeps h =
    subst (λ (st : State). Stays q s st) (sym h.2)
    (record {
      registered = registered;
      goes = inl
          (subst (λ (o : Option Session). Watches (listed_name q) o)
          (sym (others_stay t s old.sessions keeps)) watches);
    })

-- A step behind which the session goes on.
running : (st : State) (s : ℕ) → GoesOn st s → cause_of st s ≡ None
running st s h = let g = some_there (session_of st s) (λ x. x.cause ≡ None) h in ap cause_in g.1 ∙ g.2

step_stays : (q : Listed) (s : ℕ) (old : State) (event : Event) (e : Effect) (new : State) → Step old event e new
    → KeepsWatch q s event → IsWatcher q s old → cause_of new s ≡ None → IsWatcher q s new
step_stays q s old event e new h keeps before goes_on = by acted.goes
  where
    watching : Watches (listed_name q) (session_of old s)
    watching =
        let f = some_there (session_of old s) (λ x. (x.cause ≡ None) × (is_watching (listed_name q) x ≡ true))
        before.watches in
        and_some (session_of old s) (λ x. is_watching (listed_name q) x ≡ true) f.0 f.1 f.2.1

    acted : Stays q s h.mid
    acted = acts_stay q s old before.registered watching event e h.mid keeps h.acts

    same : new.store.queries ≡ h.mid.store.queries
    same = ap (λ (st : State). st.store.queries) h.queued
        ∙ ap (λ (st : Store). st.queries) (queued_store (with_relations h.mid h.relations) e.queued)

    by : Goes (listed_name q) h.mid s → IsWatcher q s new
    by (inr over) = absurd (over (sym (stepped_cause old event e new h s) ∙ goes_on))
    by (inl w) =
        let g = some_there (session_of h.mid s) (λ x. is_watching (listed_name q) x ≡ true) w in
        let bytes = to_session s e.queued in
        let now : session_of new s ≡ Some (gaining bytes g.0) = stepped_session old event e new h s
        ∙ ap (λ o. option_map (gaining bytes) o) g.1 in
        record {
          registered = ap (λ qs. listed_of qs (listed_name q)) same ∙ acted.registered;
          watches = and_some (session_of new s) (λ x. (x.cause ≡ None) × (is_watching (listed_name q) x ≡ true))
              (gaining bytes g.0) now (sym (ap cause_in now) ∙ goes_on, g.2);
        }

-- A session that has ended doesn't go on again.
kept_none : (a b : Option EndCause) → CauseKept AnyCause a b → b ≡ None → a ≡ None
kept_none a b (inl e) none = sym e ∙ none
kept_none a None (inr h) none = absurd h
kept_none a (Some c) (inr h) none = absurd cc

other_none : (old : State) (t : ℕ) (x : Session) (e : Effect) (mid : State) (y : Session) (s : ℕ) → (t == s) ≡ false
    → Touches old t x e mid y → cause_of mid s ≡ None → cause_of old s ≡ None
other_none old t x e mid y s apart h none = kept_none (cause_of old s) (cause_of mid s)
    (alike_cause AnyCause (session_of old s) (session_of mid s) (h.others s apart)) none

fed_none : (old new : State) (s : ℕ) (bytes : Bytes) → InputComes old new s bytes → cause_of old s
    ≡ None ⊎ ((c : EndCause) × (cause_of new s ≡ Some c))
fed_none old new s bytes (is_held there before now held pending) = inl before
fed_none old new s bytes (out_of_memory there before now held pending) = inl before
fed_none old new s bytes (is_dropped there c before now held pending) = inr (c, now)

ended_none : (old new : State) (s : ℕ) → InputIsOver old new s → cause_of old s
    ≡ None ⊎ ((c : EndCause) × (cause_of new s ≡ Some c))
ended_none old new s (input_ends there before now held dry pending) = inl before
ended_none old new s (had_ended there c before now held pending) = inr (c, now)

or_none : (old new : State) (s : ℕ) → cause_of old s ≡ None ⊎ ((c : EndCause) × (cause_of new s ≡ Some c))
    → cause_of new s ≡ None → cause_of old s ≡ None
or_none old new s (inl h) none = h
or_none old new s (inr (c, h)) none = absurd (cc (h, none))

-- by an event of the session, or of another one
step_none : (s : ℕ) (old : State) (event : Event) (e : Effect) (new : State) → Step old event e new
    → SparesSession event s
    → IsOpen old s → cause_of new s ≡ None → cause_of old s ≡ None
step_none s old (opened t) e new h k there none =
    let f = some_of (session_of old s) there in
    at h.acts.2 f.0 f.1 (sym (stepped_cause old (opened t) e new h s) ∙ none)
  where
    at : ((length old.sessions < SESSIONS) × (h.mid ≡ record old { sessions = old.sessions ++ fresh t ∷ [] })) ⊎
        (h.mid ≡ old) → (x : Session) → session_of old s ≡ Some x → cause_of h.mid s ≡ None → cause_of old s ≡ None
    at (inr same) x found k = sym (ap (λ st. cause_of st s) same) ∙ k
    at (inl more) x found k =
        ap cause_in found ∙ sym (ap cause_in (find_front (λ (y : Session). y.id == s) old.sessions (fresh t) x found))
        ∙ sym (ap (λ st. cause_of st s) more.1) ∙ k
step_none s old (fed t bytes) e new h k there none = by (t == s) refl
  where
    by : (b : Bool) → (t == s) ≡ b → cause_of old s ≡ None
    by true same =
        let here : Step old (fed s bytes) e new = subst (λ i. Step old (fed i bytes) e new) (eqb-true t s same) h in
        or_none old new s (fed_none old new s bytes (fed_facts old s bytes e new here)) none
    by false apart =
        let f = some_there (session_of old t) (λ x. FedStep old t bytes x e h.mid) h.acts in
        let a = is_fed old t bytes f.0 e h.mid f.1 f.2 in
        other_none old t f.0 e h.mid a.session s apart a.touches
        (sym (stepped_cause old (fed t bytes) e new h s) ∙ none)
step_none s old (stepped t outcome) e new h k there none = by (t == s) refl
  where
    f : (x : Session) × (session_of old t ≡ Some x) × ((x.cause ≡ None) × FrontStep old t x outcome e h.mid)
    f = some_there (session_of old t) (λ x. (x.cause ≡ None) × FrontStep old t x outcome e h.mid) h.acts

    by : (b : Bool) → (t == s) ≡ b → cause_of old s ≡ None
    by true same = ap (λ i. cause_of old i) (sym (eqb-true t s same)) ∙ ap cause_in f.1 ∙ f.2.0
    by false apart =
        let a = is_stepped old t f.0 outcome e h.mid f.1 f.2.0 f.2.1 in
        other_none old t f.0 e h.mid a.session s apart a.touches
        (sym (stepped_cause old (stepped t outcome) e new h s) ∙ none)
step_none s old (took t bytes) e new h k there none = by (t == s) refl
  where
    by : (b : Bool) → (t == s) ≡ b → cause_of old s ≡ None
    by true same =
        let here : Step old (took s bytes) e new = subst (λ i. Step old (took i bytes) e new) (eqb-true t s same) h in
        sym (took_facts old s bytes e new here).cause ∙ none
    by false apart =
        let f = some_there (session_of old t) (λ x. TookStep old t bytes x e h.mid) h.acts in
        let a = is_taken old t bytes f.0 e h.mid f.1 f.2 in
        other_none old t f.0 e h.mid a.session s apart a.touches
        (sym (stepped_cause old (took t bytes) e new h s) ∙ none)
step_none s old (ended t) e new h k there none = by (t == s) refl
  where
    by : (b : Bool) → (t == s) ≡ b → cause_of old s ≡ None
    by true same =
        let here : Step old (ended s) e new = subst (λ i. Step old (ended i) e new) (eqb-true t s same) h in
        or_none old new s (ended_none old new s (ended_facts old s e new here)) none
    by false apart =
        let f = some_there (session_of old t) (λ x. EndedStep old t x e h.mid) h.acts in
        let a = is_ended old t f.0 e h.mid f.1 f.2 in
        other_none old t f.0 e h.mid a.session s apart a.touches (sym (stepped_cause old (ended t) e new h s) ∙ none)
step_none s old (closed t bytes) e new h k there none =
    sym (ap cause_in (others_stay t s old.sessions k)) ∙ sym (ap (λ st. cause_of st s) h.acts.2)
    ∙ sym (stepped_cause old (closed t bytes) e new h s) ∙ none

spares : (q : Listed) (s : ℕ) (event : Event) → KeepsWatch q s event → SparesSession event s
spares q s (opened t) k = tt
spares q s (fed t bytes) k = tt
spares q s (stepped t outcome) k = tt
spares q s (took t bytes) k = tt
spares q s (ended t) k = tt
spares q s (closed t bytes) k = k

run_none : (q : Listed) (s : ℕ) (old : State) (done : List Did) (new : State) → Run old done new
    → All (λ d. KeepsWatch q s d.event) done → IsOpen old s → cause_of new s ≡ None → cause_of old s ≡ None
run_none q s old [] new w k there none = ap (λ st. cause_of st s) (sym w) ∙ none
run_none q s old (d ∷ done) new w k there none =
    let spared = spares q s d.event (All-head (λ (x : Did). KeepsWatch q s x.event) d done k) in
    step_none s old d.event d.effect w.0 w.1 spared there
    (run_none q s w.0 done new w.2 (All-tail (λ (x : Did). KeepsWatch q s x.event) d done k)
    (step_open old d.event d.effect w.0 w.1 s spared there) none)

watcher_open : (q : Listed) (s : ℕ) (st : State) → IsWatcher q s st → IsOpen st s
watcher_open q s st h = let f = some_there (session_of st s)
    (λ x. (x.cause ≡ None) × (is_watching (listed_name q) x ≡ true)) h.watches in rw f.1 refl

pub watchers_stay : WatchersStay
watchers_stay q s old done new w k before goes_on = along old done w k before
  where
    along : (st : State) (ds : List Did) → Run st ds new → All (λ d. KeepsWatch q s d.event) ds → IsWatcher q s st
        → WatchesAlong q s st ds new
    along st [] w k before = w
    along st (d ∷ ds) w k before =
        let first = All-head (λ (x : Did). KeepsWatch q s x.event) d ds k in
        let later = All-tail (λ (x : Did). KeepsWatch q s x.event) d ds k in
        let there = step_open st d.event d.effect w.0 w.1 s (spares q s d.event first) (watcher_open q s st before) in
        let behind = step_stays q s st d.event d.effect w.0 w.1 first before
        (run_none q s w.0 ds new w.2 later there (running new s goes_on)) in
        (w.0, record { before = before; step = w.1; behind = behind }, along w.0 ds w.2 later behind)

-- ---- A session that lists a query through a cursor, and watches it from then on, has its answers.

-- What a finished cursor has given is a listing.
finished_listing : (relations : List Relation) (o : Option Listed) (q : Listed) (given : List Tuple) (p : Position) → o
    ≡ Some q → p ≡ open_at given true
    → PositionGives relations o p → IsListing (AnswersOf relations q) given
finished_listing relations o q given p is at h =
    let here : PositionGives relations (Some q) (open_at given true) = subst
    (λ (r : Position). PositionGives relations (Some q) r) at
    (subst (λ (r : Option Listed). PositionGives relations r p) is h) in
    here.listing refl

pub listed : (q : Listed) (s : ℕ) (st : State) (given : List Tuple) → CursorsGive st → HasListed q s st given
    → IsListing (AnswersOf st.store.relations q) given
listed q s st given gives h =
    let store = st.store in
    let of_session = all_found
    (λ (x : Session). All
    (λ (c : Cursor). PositionGives store.relations (listed_of store.queries c.query) c.position) x.cursors)
    (λ (x : Session). x.id == s) st.sessions h.session gives h.is_session in
    let of_cursor = All-contains
    (λ (c : Cursor). PositionGives store.relations (listed_of store.queries c.query) c.position) (h.session).cursors
    h.cursor of_session h.is_cursor in
    finished_listing store.relations (listed_of store.queries (h.cursor).query) q given (h.cursor).position h.of_query
    h.is_finished of_cursor

pub listings_stay_live : ListingsStayLive
listings_stay_live old gives q s given h watches done new went keeps goes_on =
    let walk = watchers_stay q s old done new went keeps watches goes_on in
    let t = watchers_have_answers q s old done new walk in
    record {
      walk = walk;
      told = t.told;
      whole = t.whole;
      among = t.among;
      numbers = t.numbers;
      rising = t.rising;
      listing = t.adds_up given (listed q s old given gives h);
    }
