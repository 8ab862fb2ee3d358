-- What a line does to the sessions: their ids, their bytes, and how they end.
use Rattle.std.specs.Prelude.{ℕ, List, [], ◌∷◌, ◌==◌, ◌≡◌, ◌++◌, ◌⊎◌, Bool, true, false, cond, Option, None, Some}
use Rattle.std.specs.Prelude.{IsSome, IsSomeAnd, find, map, ◌<◌, not, length, filter, MatchOption, All, AllPairs, ◌≢◌}
use Rattle.std.proofs.Common.{refl, sym, ap, ap₂, ◌∙◌, subst, inl, inr}
use Rattle.std.proofs.lemmas.Bool.{eqb-true}
use Rattle.std.proofs.lemmas.Grind.{flat_map-append}
use Rattle.std.proofs.lemmas.List.Elements.{All-map}
use Rattle.std.proofs.lemmas.List.Kept.{AllPairs-filter}
use Rattle.std.proofs.lemmas.List.Quantifiers.{all_pairs_push}
use Rattle.djq_model.specs.Data.{Bytes, change_first, Tuple}
use Rattle.djq_protocol.specs.declared.answer.EndCause.{EndCause}
use Rattle.djq_protocol.specs.declared.answer.EndCause.TheVariants.{Memory}
use Rattle.djq_protocol.specs.declared.limits.TheConstants.{SESSIONS}
use Rattle.djq_protocol.specs.declared.command.Command.{Command}
use Rattle.djq_protocol.specs.declared.command.Command.TheVariants.{Add, Del, Done, Quit, Stop}
use Rattle.djq_store_spec.specs.Held.{HeldTransaction}
use Rattle.djq_protocol.specs.Grammar.{reading_of, says_command}
use Rattle.djq_protocol.specs.Reply.{refusal_line, end_memory}
use Rattle.djq_store_spec.specs.Store.{Store}
use Rattle.djq_store_spec.specs.Changes.{RowsChange, RowsOutcome, tried}
use Rattle.djq_answer_laws.proofs.Lists.{some_there}
use Rattle.djq_machine.specs.State.{State, Session, session_of, with_session, ended_by, fresh}
use Rattle.djq_machine.specs.Outdating.{outdated_cursor, changed}
use Rattle.djq_machine.specs.Watch.{Telling, ChangeStep}
use Rattle.djq_machine.specs.Keeping.{Keeping, no_line}
use Rattle.djq_machine.specs.Effect.{Effect, nothing, says, EndsWith, queue, queue_all}
use Rattle.djq_machine.specs.LineStep.{ReadStep, LineOutcome, long, blank, slow, no_room, run, FrontStep, behind_line}
use Rattle.djq_machine.specs.Run.{to_session, pending_in, Did}
use Rattle.djq_machine.specs.Call.{IsOpen, cause_in, held_in, state_ids}
use Rattle.djq_machine.specs.Step.{Event, opened, fed, stepped, took, ended, closed, FedStep, TookStep, EndedStep, Acts}
use Rattle.djq_machine.specs.Step.{Step, with_relations}
use Rattle.djq_machine.specs.Command.{CommandStep}
use Rattle.djq_machine.proofs.Relations.{walk_keeps}
use Rattle.djq_run_laws.specs.Moved.{EndsByRun}
use Rattle.djq_run_laws.specs.Form.{form_of, Form, asking, storing, turning, changing, ending, Turn, SaysAlone, Replied}
use Rattle.djq_run_laws.specs.Form.{is_whole, is_cut, DoesTurn, is_turned, is_refused, FormDoes}
use Rattle.djq_run_laws.specs.Rising.{AreRising, IdsRise}
use Rattle.djq_run_laws.specs.Stopping.{KeptSaysNoStop}
use Rattle.djq_run_laws.proofs.Forms.{turned_one, command_does, Reads, turned_down, carried_out, line_reads}
use Rattle.djq_run_laws.proofs.Batches.{closing, begun, closing_id, closing_pending, closing_held, closing_cause}
use Rattle.djq_run_laws.proofs.Batches.{rows_do}
use Rattle.djq_run_laws.proofs.Lists.{change_keeps}

-- ---- What a line does to the sessions: each keeps its id, its bytes, and its end cause unless the line ends it.

-- What is queued to another session is queued to one that is open.
pub record ToOpen (s : ℕ) (e : Effect) (mid : State) : Type 0 where
  pub others : (t : ℕ) → (s == t) ≡ false → IsOpen mid t ⊎ (to_session t e.queued ≡ [])

pub alone_nothing : {mid : State} (s : ℕ) (e : Effect) → e ≡ nothing → ToOpen s e mid
alone_nothing s e h = record { others = λ t ne. inr (ap (λ (d : Effect). to_session t d.queued) h) }

pub alone_text : {mid : State} (s : ℕ) (text : Bytes) (cost : ℕ) (kept : Keeping) (e : Effect) → e
    ≡ record { queued = (s, text) ∷ []; cost = cost; kept = kept } → ToOpen s e mid
alone_text s text cost kept e h = record
    { others = λ t ne. inr (ap (λ (d : Effect). to_session t d.queued) h ∙ rw ne refl) }

alone : {mid : State} (s : ℕ) (e : Effect) → SaysAlone s e → ToOpen s e mid
alone s e h = alone_text s h.text h.cost h.kept e h.effect

-- The end cause stays, or is one of these.
module _ (May : EndCause → Type 0) where
  abbrev pub CauseKept : Option EndCause → Option EndCause → Type 0
  CauseKept old new = (new ≡ old) ⊎ IsSomeAnd new May

  abbrev pub SameBytes : Session → Session → Type 0
  SameBytes x y = (y.pending ≡ x.pending) × (y.held ≡ x.held) × CauseKept x.cause y.cause

  abbrev pub Alike : List Session → List Session → Type 0
  Alike [] [] = Unit {0}
  Alike (x ∷ xs) (y ∷ ys) = (y.id ≡ x.id) × SameBytes x y × Alike xs ys
  Alike [] (y ∷ ys) = ⊥
  Alike (x ∷ xs) [] = ⊥

  pub alike_refl : (xs : List Session) → Alike xs xs
  alike_refl [] = tt
  alike_refl (x ∷ xs) = (refl, (refl, refl, inl refl), alike_refl xs)

  pub alike_same : (xs ys : List Session) → ys ≡ xs → Alike xs ys
  alike_same xs ys e = subst (λ (zs : List Session). Alike xs zs) (sym e) (alike_refl xs)

  kept_then : (a b c : Option EndCause) → CauseKept a b → CauseKept b c → CauseKept a c
  kept_then a b c h (inr k) = inr k
  kept_then a b c (inl h) (inl k) = inl (k ∙ h)
  kept_then a b c (inr h) (inl k) = inr (subst (λ (o : Option EndCause). IsSomeAnd o May) (sym k) h)

  pub alike_then : (xs ys zs : List Session) → Alike xs ys → Alike ys zs → Alike xs zs
  alike_then [] [] [] h k = tt
  alike_then [] [] (z ∷ zs) h k = absurd k
  alike_then [] (y ∷ ys) zs h k = absurd h
  alike_then (x ∷ xs) [] zs h k = absurd h
  alike_then (x ∷ xs) (y ∷ ys) [] h k = absurd k
  alike_then (x ∷ xs) (y ∷ ys) (z ∷ zs) h k = (
    k.0 ∙ h.0,
    (k.1.0 ∙ h.1.0, k.1.1 ∙ h.1.1, kept_then x.cause y.cause z.cause h.1.2 k.1.2),
    alike_then xs ys zs h.2
        k.2,
  )

  -- a change that keeps them so
  pub record Keeps (f : Session → Session) : Type 0 where
    pub id : (x : Session) → (f x).id ≡ x.id
    pub same : (x : Session) → SameBytes x (f x)

  change_step : (p : Session → Bool) (f : Session → Session) (x : Session) (xs : List Session) (b : Bool) → Keeps f
      → Alike xs (change_first p f xs) → Alike (x ∷ xs) (cond b (f x ∷ xs) (x ∷ change_first p f xs))
  change_step p f x xs true k h = (k.id x, k.same x, alike_refl xs)
  change_step p f x xs false k h = (refl, (refl, refl, inl refl), h)

  pub alike_change : (p : Session → Bool) (f : Session → Session) (xs : List Session) → Keeps f
      → Alike xs (change_first p f xs)
  alike_change p f [] k = tt
  alike_change p f (x ∷ xs) k = change_step p f x xs (p x) k (alike_change p f xs k)

  pub alike_map : (f : Session → Session) (xs : List Session) → Keeps f → Alike xs (map f xs)
  alike_map f [] k = tt
  alike_map f (x ∷ xs) k = (k.id x, k.same x, alike_map f xs k)

  pub alike_with : (old new : State) (s : ℕ) (f : Session → Session) → Keeps f → new ≡ with_session old s f
      → Alike old.sessions new.sessions
  alike_with old new s f k e = subst (λ (st : State). Alike old.sessions st.sessions) (sym e)
      (alike_change (λ (x : Session). x.id == s) f old.sessions k)

  pub alike_state : (old new : State) → new ≡ old → Alike old.sessions new.sessions
  alike_state old new e = alike_same old.sessions new.sessions (ap (λ (st : State). st.sessions) e)

  -- a change that keeps the end cause, and one that ends the session
  pub keeps_cause : (f : Session → Session) → ((x : Session) → (f x).id ≡ x.id)
      → ((x : Session) → (f x).pending ≡ x.pending) → ((x : Session) → (f x).held ≡ x.held)
      → ((x : Session) → (f x).cause ≡ x.cause) → Keeps f
  keeps_cause f id pending held cause = record { id = id; same = λ x. (pending x, held x, inl (cause x)) }

  pub keeps_ended : (cause : EndCause) → May cause → Keeps (ended_by cause)
  keeps_ended cause may = record { id = λ x. refl; same = λ x. (refl, refl, inr may) }

  -- what is found in such lists: nothing in both, or sessions that are so
  abbrev pub AlikeFound : Option Session → Option Session → Type 0
  AlikeFound None None = Unit {0}
  AlikeFound (Some x) (Some y) = SameBytes x y
  AlikeFound None (Some y) = ⊥
  AlikeFound (Some x) None = ⊥

  found_step : (t : ℕ) (x y : Session) (o p : Option Session) (b : Bool) → (x.id == t) ≡ b → y.id ≡ x.id
      → AlikeFound (Some x) (Some y) → AlikeFound o p
      → AlikeFound (cond b (Some x) o) (cond (y.id == t) (Some y) p)
  found_step t x y o p true e i q h = let k : (y.id == t) ≡ true = ap (λ j. j == t) i ∙ e in rw k q
  found_step t x y o p false e i q h = let k : (y.id == t) ≡ false = ap (λ j. j == t) i ∙ e in rw k h

  pub alike_found : (t : ℕ) (xs ys : List Session) → Alike xs ys
      → AlikeFound (find (λ (x : Session). x.id == t) xs) (find (λ (x : Session). x.id == t) ys)
  alike_found t [] [] h = tt
  alike_found t [] (y ∷ ys) h = absurd h
  alike_found t (x ∷ xs) [] h = absurd h
  alike_found t (x ∷ xs) (y ∷ ys) h =
      found_step t x y (find (λ (z : Session). z.id == t) xs) (find (λ (z : Session). z.id == t) ys) (x.id == t) refl
      h.0 h.1 (alike_found t xs ys h.2)

  pub alike_pending : (o p : Option Session) → AlikeFound o p → pending_in p ≡ pending_in o
  alike_pending None None h = refl
  alike_pending (Some x) (Some y) h = h.0
  alike_pending None (Some y) h = absurd h
  alike_pending (Some x) None h = absurd h

  pub alike_held : (o p : Option Session) → AlikeFound o p → held_in p ≡ held_in o
  alike_held None None h = refl
  alike_held (Some x) (Some y) h = h.1
  alike_held None (Some y) h = absurd h
  alike_held (Some x) None h = absurd h

  pub alike_open : (o p : Option Session) → AlikeFound o p → IsSome o → IsSome p
  alike_open None None h k = k
  alike_open (Some x) (Some y) h k = refl
  alike_open None (Some y) h k = absurd h
  alike_open (Some x) None h k = absurd h

  pub alike_cause : (o p : Option Session) → AlikeFound o p → CauseKept (cause_in o) (cause_in p)
  alike_cause None None h = inl refl
  alike_cause (Some x) (Some y) h = h.2
  alike_cause None (Some y) h = absurd h
  alike_cause (Some x) None h = absurd h

  -- the ids, in order
  pub alike_ids : (xs ys : List Session) → Alike xs ys → map (λ (x : Session). x.id) ys ≡ map (λ (x : Session). x.id) xs
  alike_ids [] [] h = refl
  alike_ids [] (y ∷ ys) h = absurd h
  alike_ids (x ∷ xs) [] h = absurd h
  alike_ids (x ∷ xs) (y ∷ ys) h = ap₂ (λ (i : ℕ) (is : List ℕ). i ∷ is) h.0 (alike_ids xs ys h.2)

  -- The sessions stay alike, and what is said to another session is said to one that is open.
  abbrev pub KeepsAlike : State → ℕ → Effect → State → Type 0
  KeepsAlike old s e new = Alike old.sessions new.sessions × ToOpen s e new

  pub stays_keeps : (old : State) (s : ℕ) (text : Bytes) (e : Effect) (new : State) → e ≡ says s text → new ≡ old
      → KeepsAlike old s e new
  stays_keeps old s text e new said after = (alike_state old new after, alone_text s text 0 no_line e said)

-- A line that is read keeps the sessions alike, but for the causes by which a line ends its session.
abbrev Runs : State → ℕ → Effect → State → Type 0
Runs = KeepsAlike EndsByRun

changed_alike : (old : State) (o : Option RowsChange) (store : Store)
    → Alike EndsByRun old.sessions (changed old o store).sessions
changed_alike old None store = alike_refl EndsByRun old.sessions
changed_alike old (Some change) store =
    let f = λ (x : Session). record x
    { cursors = map (outdated_cursor old.store.queries change.outdater store.seq) x.cursors } in
    alike_map EndsByRun f old.sessions (keeps_cause EndsByRun f (λ x. refl) (λ x. refl) (λ x. refl) (λ x. refl))

-- The sessions stay alike as a change is told, and what is queued is queued to those that are open.
record IsTelling (xs : List Session) (m : Telling) : Type 0 where
  alike : Alike EndsByRun xs m.state.sessions
  there : (t : ℕ) → IsOpen m.state t ⊎ (to_session t m.queued ≡ [])

-- a further part, for a session that is open
part_more : (xs : List Session) (m : Telling) (s : ℕ) (text : Bytes) (st : State) → IsOpen m.state s
    → Alike EndsByRun m.state.sessions st.sessions → IsTelling xs m
    → IsTelling xs (record { state = st; queued = m.queued ++ (s, text) ∷ [] })
part_more xs m s text st there same h = record {
  alike = alike_then EndsByRun xs m.state.sessions st.sessions h.alike same;
  there = λ t. by_test t (s == t) refl (h.there t);
}
  where
    keeps_open : (t : ℕ) → IsOpen m.state t → IsOpen st t
    keeps_open t o = alike_open EndsByRun (session_of m.state t) (session_of st t)
        (alike_found EndsByRun t m.state.sessions st.sessions same) o

    by_test : (t : ℕ) (b : Bool) → (s == t) ≡ b → IsOpen m.state t ⊎ (to_session t m.queued ≡ [])
        → IsOpen st t ⊎ (to_session t (m.queued ++ (s, text) ∷ []) ≡ [])
    by_test t true e k = inl (keeps_open t (subst (λ i. IsOpen m.state i) (eqb-true s t e) there))
    by_test t false e (inl o) = inl (keeps_open t o)
    by_test t false e (inr none) = inr
        (flat_map-append (λ (q : ℕ × Bytes). cond (q.0 == t) q.1 []) m.queued ((s, text) ∷ [])
        ∙ ap₂ (λ (a b : Bytes). a ++ b) none (rw e refl))

change_alike : (old : State) (s : ℕ) (outcome : RowsOutcome) (store : Store) (reply : Bytes) (e : Effect) (new : State)
    → ChangeStep old s outcome store reply e new → Runs old s e new
change_alike old s outcome store reply e new h =
    let k = change_keeps (IsTelling old.sessions)
    (λ m t text there p. part_more old.sessions m t text m.state there (alike_refl EndsByRun m.state.sessions) p)
    (λ m t text cause may there p. part_more old.sessions m t text (with_session m.state t (ended_by cause)) there
    (alike_change EndsByRun (λ (x : Session). x.id == t) (ended_by cause) m.state.sessions
    (keeps_ended EndsByRun cause may)) p)
    old s outcome store reply e new h
    (record { alike = changed_alike old (tried outcome) store; there = λ t. inr refl }) in (
      subst (λ (st : State). Alike EndsByRun old.sessions st.sessions) (sym h.state) k.alike,
      record { others = λ t ne. as_new t (k.there t) },
    )
  where
    as_new : (t : ℕ) → IsOpen h.last.state t ⊎ (to_session t h.last.queued ≡ [])
        → IsOpen new t ⊎ (to_session t e.queued ≡ [])
    as_new t (inl o) = inl (subst (λ (st : State). IsOpen st t) (sym h.state) o)
    as_new t (inr none) = inr (ap (λ (qs : List (ℕ × Bytes)). to_session t qs) h.queued ∙ none)

replied_alike : (s : ℕ) (mid new : State) → Replied s mid new → Alike EndsByRun mid.sessions new.sessions
replied_alike s mid new (is_whole after) = alike_state EndsByRun mid new after
replied_alike s mid new (is_cut after) =
    alike_with EndsByRun mid new s (ended_by Memory) (keeps_ended EndsByRun Memory tt) after

turned_alike : (old : State) (s : ℕ) (x : Session) (t : Turn) (new : State) → DoesTurn old s x t new
    → Alike EndsByRun old.sessions new.sessions
turned_alike old s x t new (is_refused r) = replied_alike s old new r
turned_alike old s x t new (is_turned h) =
    let one = turned_one old s x t new h in
    alike_with EndsByRun old new s one.change
    (keeps_cause EndsByRun one.change one.id one.pending one.held one.cause) one.state

form_keeps : (f : Form) (old : State) (s : ℕ) (x : Session) (e : Effect) (new : State) → FormDoes f old s x e new
    → Runs old s e new
form_keeps asking old s x e new h = (replied_alike s old new h.1, alone s e h.0)
form_keeps storing old s x e new h = (replied_alike s (record old { store = h.1.store }) new h.1.replied, alone s e h.0)
form_keeps (turning t) old s x e new h = (turned_alike old s x t new h.1, alone s e h.0)
form_keeps (changing c) old s x e new h =
    let d = rows_do old s c e new h in
    let after = change_alike (begun old s c) s d.outcome d.store d.reply e new d.change in (
      alike_then EndsByRun old.sessions (begun old s c).sessions new.sessions
          (alike_with EndsByRun old (begun old s c) s (closing c)
          (keeps_cause EndsByRun (closing c) (closing_id c) (closing_pending c) (closing_held c) (closing_cause c))
          refl)
          after.0,
      after.1,
    )
form_keeps ending old s x e new h = (
  alike_with EndsByRun (record old { stopped = h.1.stopped }) new s (ended_by h.1.cause)
      (keeps_ended EndsByRun h.1.cause h.1.may) h.1.state,
  alone s e h.0,
)

pub read_keeps : (old : State) (s : ℕ) (x : Session) (l : Bytes) (e : Effect) (new : State)
    → ReadStep old s x l (reading_of l) e new → Runs old s e new
read_keeps old s x l e new h = by (line_reads old s x l (reading_of l) e new h)
  where
    by : Reads old s x l (reading_of l) e new → Runs old s e new
    by (turned_down why because k) = stays_keeps EndsByRun old s (refusal_line why) e new k.0 k.1
    by (carried_out c is k) = form_keeps (form_of x.batch l c) old s x e new (command_does old s x l c e new is k)

-- ---- The open sessions stay by rising id.

-- a change of one session that keeps its id
ids_step : (f : Session → Session) (x : Session) (xs ys : List Session) (b : Bool) → (f x).id ≡ x.id
    → map (λ (y : Session). y.id) ys ≡ map (λ (y : Session). y.id) xs
    → map (λ (y : Session). y.id) (cond b (f x ∷ xs) (x ∷ ys)) ≡ x.id ∷ map (λ (y : Session). y.id) xs
ids_step f x xs ys true keeps h = ap (λ (i : ℕ). i ∷ map (λ (y : Session). y.id) xs) keeps
ids_step f x xs ys false keeps h = ap (λ (is : List ℕ). x.id ∷ is) h

pub changed_ids : (p : Session → Bool) (f : Session → Session) → ((x : Session) → (f x).id ≡ x.id) → (xs : List Session)
    → map (λ (y : Session). y.id) (change_first p f xs) ≡ map (λ (y : Session). y.id) xs
changed_ids p f keeps [] = refl
changed_ids p f keeps (x ∷ xs) = ids_step f x xs (change_first p f xs) (p x) (keeps x) (changed_ids p f keeps xs)

with_ids : (old mid : State) (s : ℕ) (f : Session → Session) → ((x : Session) → (f x).id ≡ x.id) → mid
    ≡ with_session old s f → state_ids mid ≡ state_ids old
with_ids old mid s f keeps after = ap state_ids after ∙ changed_ids (λ (x : Session). x.id == s) f keeps old.sessions

ended_ids : (old mid : State) (s : ℕ) (text : Bytes) (cause : EndCause) (e : Effect) → EndsWith text cause old s e mid
    → state_ids mid ≡ state_ids old
ended_ids old mid s text cause e h = with_ids old mid s (ended_by cause) (λ x. refl) h.1

-- the ids behind each event that neither opens nor closes
fed_ids : (old : State) (s : ℕ) (bytes : Bytes) (e : Effect) (mid : State) (c : Option EndCause)
    → MatchOption c
    (((e ≡ nothing) × (mid ≡ with_session old s (λ y. record y { held = y.held ++ bytes }))) ⊎ EndsWith end_memory
    Memory old s e mid)
    (λ _. (e ≡ nothing) × (mid ≡ old))
    → state_ids mid ≡ state_ids old
fed_ids old s bytes e mid None (inl h) = with_ids old mid s (λ y. record y { held = y.held ++ bytes }) (λ x. refl) h.1
fed_ids old s bytes e mid None (inr h) = ended_ids old mid s end_memory Memory e h
fed_ids old s bytes e mid (Some c) h = ap state_ids h.1

input_ids : (old mid : State) (s : ℕ) (cause : EndCause) (P Q R : Type 0) (c : Option EndCause)
    → MatchOption c (P × Q × (mid ≡ with_session old s (ended_by cause))) (λ _. R × (mid ≡ old)) → state_ids mid
    ≡ state_ids old
input_ids old mid s cause P Q R None h = with_ids old mid s (ended_by cause) (λ x. refl) h.2
input_ids old mid s cause P Q R (Some c) h = ap state_ids h.1

line_ids : (old : State) (s : ℕ) (rest : Bytes) (mid : State) → state_ids mid
    ≡ state_ids (with_session old s (behind_line rest)) → state_ids mid ≡ state_ids old
line_ids old s rest mid h = h
    ∙ with_ids old (with_session old s (behind_line rest)) s (behind_line rest) (λ x. refl) refl

front_ids : (old : State) (s : ℕ) (x : Session) (outcome : LineOutcome) (e : Effect) (mid : State)
    → FrontStep old s x outcome e mid → state_ids mid ≡ state_ids old
front_ids old s x long e mid h = ended_ids old mid s _ _ e h.1
front_ids old s x (blank l) e mid h = line_ids old s h.1.rest mid (ap state_ids h.1.then.1)
front_ids old s x (slow l) e mid h = line_ids old s h.2.rest mid
    (ended_ids (with_session old s (behind_line h.2.rest)) mid s _ _ e h.2.then)
front_ids old s x (no_room l) e mid h = line_ids old s h.2.rest mid
    (ended_ids (with_session old s (behind_line h.2.rest)) mid s _ _ e h.2.then)
front_ids old s x (run l) e mid h =
    let between = with_session old s (behind_line h.2.rest) in
    let kept = read_keeps between s (behind_line h.2.rest x) l e mid h.2.then in
    line_ids old s h.2.rest mid (alike_ids EndsByRun between.sessions mid.sessions kept.0)

-- a session that opens comes last
pushed_ids : (xs : List Session) (x : Session) → map (λ (y : Session). y.id) (xs ++ x ∷ [])
    ≡ map (λ (y : Session). y.id) xs ++ x.id ∷ []
pushed_ids [] x = refl
pushed_ids (y ∷ xs) x = ap (λ (is : List ℕ). y.id ∷ is) (pushed_ids xs x)

opened_rise : (old : State) (s : ℕ) (mid : State) → All (λ (x : Session). x.id < s) old.sessions
    → ((length old.sessions < SESSIONS) × (mid ≡ record old { sessions = old.sessions ++ fresh s ∷ [] })) ⊎ (mid ≡ old)
    → AreRising old → AreRising mid
opened_rise old s mid above (inl h) r =
    let below : All (λ i. i < s) (state_ids old) = All-map (λ i. i < s) (λ (x : Session). x.id) old.sessions above in
    subst AreRising (sym h.1)
    (subst (λ (is : List ℕ). AllPairs (λ i j. i < j) is) (sym (pushed_ids old.sessions (fresh s)))
    (all_pairs_push (λ i j. i < j) (state_ids old) s r (λ k d lt. below k d lt)))
opened_rise old s mid above (inr h) r = subst AreRising (sym h) r

-- the others stay as one closes
kept_ids : (s : ℕ) (xs : List Session) → map (λ (y : Session). y.id) (filter (λ (y : Session). not (y.id == s)) xs)
    ≡ filter (λ i. not (i == s)) (map (λ (y : Session). y.id) xs)
kept_ids s [] = refl
kept_ids s (x ∷ xs) = at_first (x.id == s) (kept_ids s xs)
  where
    at_first : (b : Bool) → map (λ (y : Session). y.id) (filter (λ (y : Session). not (y.id == s)) xs)
        ≡ filter (λ i. not (i == s)) (map (λ (y : Session). y.id) xs)
        → map (λ (y : Session). y.id)
        (cond (not b) (x ∷ filter (λ (y : Session). not (y.id == s)) xs)
        (filter (λ (y : Session). not (y.id == s)) xs))
        ≡ cond (not b) (x.id ∷ filter (λ i. not (i == s)) (map (λ (y : Session). y.id) xs))
        (filter (λ i. not (i == s)) (map (λ (y : Session). y.id) xs))
    at_first true h = h
    at_first false h = ap (λ (is : List ℕ). x.id ∷ is) h

closed_rise : (old : State) (s : ℕ) (mid : State) → mid
    ≡ record old { sessions = filter (λ (y : Session). not (y.id == s)) old.sessions } → AreRising old → AreRising mid
closed_rise old s mid after r =
    subst AreRising (sym after)
    (subst (λ (is : List ℕ). AllPairs (λ i j. i < j) is) (sym (kept_ids s old.sessions))
    (AllPairs-filter (λ i j. i < j) (λ i. not (i == s)) (state_ids old) r))

same_rise : (old mid : State) → state_ids mid ≡ state_ids old → AreRising old → AreRising mid
same_rise old mid e r = subst (λ (is : List ℕ). AllPairs (λ i j. i < j) is) (sym e) r

acts_rise : (old : State) (event : Event) (e : Effect) (mid : State) → Acts old event e mid → AreRising old
    → AreRising mid
acts_rise old (opened s) e mid h r = opened_rise old s mid h.1 h.2 r
acts_rise old (fed s bytes) e mid h r =
    let f = some_there (session_of old s) (λ x. FedStep old s bytes x e mid) h in
    same_rise old mid (fed_ids old s bytes e mid (f.0).cause f.2) r
acts_rise old (stepped s outcome) e mid h r =
    let f = some_there (session_of old s) (λ x. (x.cause ≡ None) × FrontStep old s x outcome e mid) h in
    same_rise old mid (front_ids old s f.0 outcome e mid f.2.1) r
acts_rise old (took s bytes) e mid h r =
    let f = some_there (session_of old s) (λ x. TookStep old s bytes x e mid) h in
    same_rise old mid (with_ids old mid s (λ y. record y { pending = f.2.1.0 }) (λ x. refl) f.2.1.2) r
acts_rise old (ended s) e mid h r =
    let f = some_there (session_of old s) (λ x. EndedStep old s x e mid) h in
    same_rise old mid (input_ids old mid s _ _ _ _ (f.0).cause f.2) r
acts_rise old (closed s bytes) e mid h r = closed_rise old s mid h.2 r

pub queued_ids : (st : State) (qs : List (ℕ × Bytes)) → state_ids (queue_all st qs) ≡ state_ids st
queued_ids st [] = refl
queued_ids st (q ∷ qs) = queued_ids (queue st q) qs
    ∙ with_ids st (queue st q) q.0 (λ x. record x { pending = x.pending ++ q.1 }) (λ x. refl) refl

pub step_rises : (old : State) (event : Event) (e : Effect) (new : State) → Step old event e new → AreRising old
    → AreRising new
step_rises old event e new h r =
    same_rise h.mid new (ap state_ids h.queued ∙ queued_ids (with_relations h.mid h.relations) e.queued)
    (acts_rise old event e h.mid h.acts r)

pub ids_rise : IdsRise
ids_rise old done new w r = walk_keeps (λ (o : State) (d : Did) (n : State). Step o d.event d.effect n) AreRising
    (λ o d n h. step_rises o d.event d.effect n h) old done new w r

-- The ids of the open sessions behind an event: one that opens comes last, one that closes is gone, and else they stay.
abbrev pub IdsBehind : Event → List ℕ → List ℕ → Type 0
IdsBehind (opened s) old new = (new ≡ old ++ s ∷ []) ⊎ (new ≡ old)
IdsBehind (fed s bytes) old new = new ≡ old
IdsBehind (stepped s outcome) old new = new ≡ old
IdsBehind (took s bytes) old new = new ≡ old
IdsBehind (ended s) old new = new ≡ old
IdsBehind (closed s bytes) old new = new ≡ filter (λ i. not (i == s)) old

opened_ids : (old : State) (s : ℕ) (mid : State)
    → ((length old.sessions < SESSIONS) × (mid ≡ record old { sessions = old.sessions ++ fresh s ∷ [] })) ⊎ (mid ≡ old)
    → (state_ids mid ≡ state_ids old ++ s ∷ []) ⊎ (state_ids mid ≡ state_ids old)
opened_ids old s mid (inl h) = inl (ap state_ids h.1 ∙ pushed_ids old.sessions (fresh s))
opened_ids old s mid (inr h) = inr (ap state_ids h)

pub acts_ids : (old : State) (event : Event) (e : Effect) (mid : State) → Acts old event e mid
    → IdsBehind event (state_ids old) (state_ids mid)
acts_ids old (opened s) e mid h = opened_ids old s mid h.2
acts_ids old (fed s bytes) e mid h =
    let f = some_there (session_of old s) (λ x. FedStep old s bytes x e mid) h in
    fed_ids old s bytes e mid (f.0).cause f.2
acts_ids old (stepped s outcome) e mid h =
    let f = some_there (session_of old s) (λ x. (x.cause ≡ None) × FrontStep old s x outcome e mid) h in
    front_ids old s f.0 outcome e mid f.2.1
acts_ids old (took s bytes) e mid h =
    let f = some_there (session_of old s) (λ x. TookStep old s bytes x e mid) h in
    with_ids old mid s (λ y. record y { pending = f.2.1.0 }) (λ x. refl) f.2.1.2
acts_ids old (ended s) e mid h =
    let f = some_there (session_of old s) (λ x. EndedStep old s x e mid) h in
    input_ids old mid s _ _ _ _ (f.0).cause f.2
acts_ids old (closed s bytes) e mid h = ap state_ids h.2 ∙ kept_ids s old.sessions

pub step_ids : (old : State) (event : Event) (e : Effect) (new : State) → Step old event e new
    → IdsBehind event (state_ids old) (state_ids new)
step_ids old event e new h =
    subst (λ (is : List ℕ). IdsBehind event (state_ids old) is)
    (sym (ap state_ids h.queued ∙ queued_ids (with_relations h.mid h.relations) e.queued))
    (acts_ids old event e h.mid h.acts)

-- ---- Whether a session said `stop`, behind each event: no event says it but that of a line that isn't kept.

-- an event that isn't of a line
abbrev pub IsNoLine : Event → Type 0
IsNoLine (opened s) = Unit {0}
IsNoLine (fed s bytes) = Unit {0}
IsNoLine (stepped s outcome) = ⊥
IsNoLine (took s bytes) = Unit {0}
IsNoLine (ended s) = Unit {0}
IsNoLine (closed s bytes) = Unit {0}

opened_stays : (old : State) (s : ℕ) (mid : State)
    → ((length old.sessions < SESSIONS) × (mid ≡ record old { sessions = old.sessions ++ fresh s ∷ [] })) ⊎ (mid ≡ old)
    → mid.stopped ≡ old.stopped
opened_stays old s mid (inl h) = ap (λ (st : State). st.stopped) h.1
opened_stays old s mid (inr h) = ap (λ (st : State). st.stopped) h

fed_stays : (old : State) (s : ℕ) (bytes : Bytes) (e : Effect) (mid : State) (c : Option EndCause)
    → MatchOption c
    (((e ≡ nothing) × (mid ≡ with_session old s (λ y. record y { held = y.held ++ bytes }))) ⊎ EndsWith end_memory
    Memory old s e mid)
    (λ _. (e ≡ nothing) × (mid ≡ old))
    → mid.stopped ≡ old.stopped
fed_stays old s bytes e mid None (inl h) = ap (λ (st : State). st.stopped) h.1
fed_stays old s bytes e mid None (inr h) = ap (λ (st : State). st.stopped) h.1
fed_stays old s bytes e mid (Some c) h = ap (λ (st : State). st.stopped) h.1

input_stays : (old mid : State) (s : ℕ) (cause : EndCause) (P Q R : Type 0) (c : Option EndCause)
    → MatchOption c (P × Q × (mid ≡ with_session old s (ended_by cause))) (λ _. R × (mid ≡ old)) → mid.stopped
    ≡ old.stopped
input_stays old mid s cause P Q R None h = ap (λ (st : State). st.stopped) h.2
input_stays old mid s cause P Q R (Some c) h = ap (λ (st : State). st.stopped) h.1

acts_stopped : (old : State) (event : Event) (e : Effect) (mid : State) → Acts old event e mid → IsNoLine event
    → mid.stopped ≡ old.stopped
acts_stopped old (opened s) e mid h other = opened_stays old s mid h.2
acts_stopped old (fed s bytes) e mid h other =
    let f = some_there (session_of old s) (λ x. FedStep old s bytes x e mid) h in
    fed_stays old s bytes e mid (f.0).cause f.2
acts_stopped old (stepped s outcome) e mid h other = absurd other
acts_stopped old (took s bytes) e mid h other =
    let f = some_there (session_of old s) (λ x. TookStep old s bytes x e mid) h in
    ap (λ (st : State). st.stopped) f.2.1.2
acts_stopped old (ended s) e mid h other =
    let f = some_there (session_of old s) (λ x. EndedStep old s x e mid) h in
    input_stays old mid s _ _ _ _ (f.0).cause f.2
acts_stopped old (closed s bytes) e mid h other = ap (λ (st : State). st.stopped) h.2

queued_stopped : (st : State) (qs : List (ℕ × Bytes)) → (queue_all st qs).stopped ≡ st.stopped
queued_stopped st [] = refl
queued_stopped st (q ∷ qs) = queued_stopped (queue st q) qs

pub step_stopped : (old : State) (event : Event) (e : Effect) (new : State) → Step old event e new → IsNoLine event
    → new.stopped ≡ old.stopped
step_stopped old event e new h other =
    ap (λ (st : State). st.stopped) h.queued ∙ queued_stopped (with_relations h.mid h.relations) e.queued
    ∙ acts_stopped old event e h.mid h.acts other

-- ---- a line that is kept

-- what is only said isn't kept
said_unkept : (s : ℕ) (text : Bytes) (e : Effect) → e ≡ says s text → e.kept ≡ no_line
said_unkept s text e said = ap (λ (f : Effect). f.kept) said

change_stopped : (old : State) (t : ℕ) (outcome : RowsOutcome) (store : Store) (reply : Bytes) (e : Effect)
    (new : State)
    → ChangeStep old t outcome store reply e new → new.stopped ≡ old.stopped
change_stopped old t outcome store reply e new h =
    ap (λ (st : State). st.stopped) h.state
    ∙ change_keeps (λ (m : Telling). m.state.stopped ≡ old.stopped) (λ m i text there k. k)
    (λ m i text cause may there k. k) old t outcome store reply e new h refl

replied_stopped : (s : ℕ) (mid new : State) → Replied s mid new → new.stopped ≡ mid.stopped
replied_stopped s mid new (is_whole h) = ap (λ (st : State). st.stopped) h
replied_stopped s mid new (is_cut h) = ap (λ (st : State). st.stopped) h

turn_stopped : (old : State) (s : ℕ) (x : Session) (t : Turn) (new : State) → DoesTurn old s x t new
    → new.stopped ≡ old.stopped
turn_stopped old s x t new (is_turned h) = ap (λ (st : State). st.stopped) (turned_one old s x t new h).state
turn_stopped old s x t new (is_refused r) = replied_stopped s old new r

abbrev IsNoEnding : Form → Type 0
IsNoEnding ending = ⊥
IsNoEnding _ = Unit {0}

form_stopped : (f : Form) (old : State) (s : ℕ) (x : Session) (e : Effect) (new : State) → IsNoEnding f
    → FormDoes f old s x e new → new.stopped ≡ old.stopped
form_stopped asking old s x e new other h = replied_stopped s old new h.1
form_stopped storing old s x e new other h =
    replied_stopped s (record old { store = (h.1).store }) new (h.1).replied
form_stopped (turning t) old s x e new other h = turn_stopped old s x t new h.1
form_stopped (changing c) old s x e new other h =
    let d = rows_do old s c e new h in change_stopped (begun old s c) s d.outcome d.store d.reply e new d.change
form_stopped ending old s x e new other h = absurd other

-- `quit` and `stop` alone are of that form
no_ending_add : (batch : Option HeldTransaction) (l name : Bytes) (row : Tuple)
    → IsNoEnding (form_of batch l (Add name row))
no_ending_add None l name row = tt
no_ending_add (Some held) l name row = tt

no_ending_delete : (batch : Option HeldTransaction) (l name : Bytes) (row : Tuple)
    → IsNoEnding (form_of batch l (Del name row))
no_ending_delete None l name row = tt
no_ending_delete (Some held) l name row = tt

no_ending_done : (batch : Option HeldTransaction) (l : Bytes) (given : Option ℕ)
    → IsNoEnding (form_of batch l (Done given))
no_ending_done None l given = tt
no_ending_done (Some held) l given = tt

command_stopped : (old : State) (s : ℕ) (x : Session) (l : Bytes) (c : Command) (e : Effect) (new : State)
    → reading_of l ≡ says_command c → CommandStep old s x l c e new → e.kept ≢ no_line → new.stopped ≡ old.stopped
command_stopped old s x l Quit e new said h kept = absurd (kept (said_unkept s _ e h.0))
command_stopped old s x l Stop e new said h kept = absurd (kept (said_unkept s _ e h.0))
command_stopped old s x l (Add name row) e new said h kept =
    form_stopped (form_of x.batch l (Add name row)) old s x e new (no_ending_add x.batch l name row)
    (command_does old s x l (Add name row) e new said h)
command_stopped old s x l (Del name row) e new said h kept =
    form_stopped (form_of x.batch l (Del name row)) old s x e new (no_ending_delete x.batch l name row)
    (command_does old s x l (Del name row) e new said h)
command_stopped old s x l (Done given) e new said h kept =
    form_stopped (form_of x.batch l (Done given)) old s x e new (no_ending_done x.batch l given)
    (command_does old s x l (Done given) e new said h)
command_stopped old s x l c e new said h kept =
    form_stopped (form_of x.batch l c) old s x e new tt (command_does old s x l c e new said h)

read_stopped : (old : State) (s : ℕ) (x : Session) (l : Bytes) (e : Effect) (new : State)
    → ReadStep old s x l (reading_of l) e new → e.kept ≢ no_line → new.stopped ≡ old.stopped
read_stopped old s x l e new h kept = by (line_reads old s x l (reading_of l) e new h)
  where
    by : Reads old s x l (reading_of l) e new → new.stopped ≡ old.stopped
    by (turned_down why because k) = ap (λ (st : State). st.stopped) k.1
    by (carried_out c is k) = command_stopped old s x l c e new is k kept

front_stopped : (old : State) (s : ℕ) (x : Session) (outcome : LineOutcome) (e : Effect) (mid : State)
    → FrontStep old s x outcome e mid → e.kept ≢ no_line → mid.stopped ≡ old.stopped
front_stopped old s x long e mid h kept = ap (λ (st : State). st.stopped) h.1.1
front_stopped old s x (blank l) e mid h kept = ap (λ (st : State). st.stopped) h.1.then.1
front_stopped old s x (slow l) e mid h kept = ap (λ (st : State). st.stopped) h.2.then.1
front_stopped old s x (no_room l) e mid h kept = ap (λ (st : State). st.stopped) h.2.then.1
front_stopped old s x (run l) e mid h kept =
    read_stopped (with_session old s (behind_line h.2.rest)) s (behind_line h.2.rest x) l e mid
    h.2.then kept

kept_stopped : (old : State) (event : Event) (e : Effect) (mid : State) → Acts old event e mid → e.kept ≢ no_line
    → mid.stopped ≡ old.stopped
kept_stopped old (opened s) e mid h kept = acts_stopped old (opened s) e mid h tt
kept_stopped old (fed s bytes) e mid h kept = acts_stopped old (fed s bytes) e mid h tt
kept_stopped old (took s bytes) e mid h kept = acts_stopped old (took s bytes) e mid h tt
kept_stopped old (ended s) e mid h kept = acts_stopped old (ended s) e mid h tt
kept_stopped old (closed s bytes) e mid h kept = acts_stopped old (closed s bytes) e mid h tt
kept_stopped old (stepped s outcome) e mid h kept =
    let f = some_there (session_of old s) (λ x. (x.cause ≡ None) × FrontStep old s x outcome e mid) h in
    front_stopped old s f.0 outcome e mid f.2.1 kept

pub kept_says_no_stop : KeptSaysNoStop
kept_says_no_stop old event e new h kept =
    ap (λ (st : State). st.stopped) h.queued ∙ queued_stopped (with_relations h.mid h.relations) e.queued
    ∙ kept_stopped old event e h.mid h.acts kept
