-- What the core sees of sessions, and steps in which one session becomes another, or ends.
use Rattle.std.specs.Prelude.{ℕ, List, [], ◌∷◌, ◌++◌, ◌==◌, ◌≡◌, Bool, true, false, cond, Option, None, Some, map}
use Rattle.std.specs.Option.{option_map}
use Rattle.std.proofs.Common.{refl, sym, ap, ◌∙◌, subst, inl, inr}
use Rattle.std.proofs.lemmas.Bool.{eqb-true, eq-eqb}
use Rattle.djq_model.specs.Data.{Bytes, Tuple}
use Rattle.djq_protocol.specs.declared.answer.EndCause.{EndCause}
use Rattle.djq_protocol.specs.Grammar.{Reading}
use Rattle.djq_store_spec.specs.Store.{Store}
use Rattle.djq_machine.specs.State.{Session, State, session_of, with_session, ended_by}
use Rattle.djq_machine.specs.Effect.{Effect, queue_all}
use Rattle.djq_machine.specs.Run.{to_session}
use Rattle.djq_run_laws.specs.Watched.{parts_for}
use Rattle.djq_run_laws.proofs.Lists.{gaining, session_changed, session_other, queued_all}
use Rattle.djq_run_laws.proofs.Deltas.{queued_store}
use Rattle.djq_abstract.specs.Clients.{Client, Core, nobody, with_client, CoreCommand, CoreMessage}
use Rattle.djq_abstract.specs.Clients.{CoreEvent, disconnects, says, Sent, only_sent}
use Rattle.djq_abstract.specs.Moves.{CoreStep}
use Rattle.djq_abstract.specs.Histories.{Happening, state_after, CoreRun, all_sent}
use Rattle.djq_refinement.specs.View.{client_by, client_in, core_of, core_reading}
use Rattle.djq_refinement.specs.Spelling.{SpellsMessage, AreSpelled}
use Rattle.djq_refinement.specs.Refinement.{MayBeCut, AreOfLine}

-- ---- states and clients that agree are the same

pub core_path : (a b : Core) → ((r : Bytes) (t : Tuple) → a.db r t ≡ b.db r t) → a.queries ≡ b.queries
    → a.seq ≡ b.seq → ((t : ℕ) → a.client t ≡ b.client t) → a ≡ b
core_path a b d q n c = λ i. record { db = λ r t. d r t i; queries = q i; seq = n i; client = λ t. c t i }

pub client_path : (x y : Client) → x.connected ≡ y.connected → ((c : Bytes) → x.cursor c ≡ y.cursor c)
    → ((q : Bytes) → x.subscribed q ≡ y.subscribed q) → x.batch ≡ y.batch → x ≡ y
client_path x y a c q b = λ i. record {
  connected = a i;
  cursor = λ n. c n i;
  subscribed = λ n. q n i;
  batch = b i;
}

pub sent_path : (a b : Sent) → ((t : ℕ) → a t ≡ b t) → a ≡ b
sent_path a b h = λ i. λ t. h t i

-- ---- ids

pub same_id : (t : ℕ) → (t == t) ≡ true
same_id t = eq-eqb t t refl

pub other_id : (s t : ℕ) → (s == t) ≡ false → (t == s) ≡ false
other_id s t e = by (t == s) refl
  where
    by : (b : Bool) → (t == s) ≡ b → b ≡ false
    by false k = refl
    by true k =
        let so : (s == t) ≡ true = eq-eqb s t (sym (eqb-true t s k)) in absurd (cc (so, e))

-- ---- one session becomes another

pub client_with : (old : State) (s : ℕ) (f : Session → Session) → ((x : Session) → (f x).id ≡ x.id) → (t : ℕ)
    → client_in (session_of (with_session old s f) t)
    ≡ cond (t == s) (client_in (option_map f (session_of old s))) (client_in (session_of old t))
client_with old s f id t = by (t == s) refl
  where
    by : (b : Bool) → (t == s) ≡ b → client_in (session_of (with_session old s f) t)
        ≡ cond b (client_in (option_map f (session_of old s))) (client_in (session_of old t))
    by true e = ap (λ i. client_in (session_of (with_session old s f) i)) (eqb-true t s e)
        ∙ ap client_in (session_changed old s f id)
    by false e = ap client_in (session_other old s t f id (other_id t s e))

pub core_with : (old : State) (s : ℕ) (f : Session → Session) → ((x : Session) → (f x).id ≡ x.id) → (y : Client)
    → client_in (option_map f (session_of old s)) ≡ y
    → core_of (with_session old s f) ≡ with_client s y (core_of old)
core_with old s f id y e = core_path (core_of (with_session old s f)) (with_client s y (core_of old)) (λ r t. refl) refl
    refl (λ t. client_with old s f id t ∙ ap (λ z. cond (t == s) z (client_in (session_of old t))) e)

-- a client that stays
pub with_same : (st : Core) (s : ℕ) (y : Client) → st.client s ≡ y → with_client s y st ≡ st
with_same st s y e = core_path (with_client s y st) st (λ r t. refl) refl refl (λ t. by t (t == s) refl)
  where
    by : (t : ℕ) (b : Bool) → (t == s) ≡ b → cond b y (st.client t) ≡ st.client t
    by t true k = sym e ∙ ap (λ i. st.client i) (sym (eqb-true t s k))
    by t false k = refl

-- a change of what the core doesn't see
pub core_same : (old : State) (s : ℕ) (f : Session → Session) → ((x : Session) → (f x).id ≡ x.id)
    → ((x : Session) → client_in (Some (f x)) ≡ client_in (Some x)) → core_of (with_session old s f) ≡ core_of old
core_same old s f id same =
    core_with old s f id (client_in (session_of old s)) (by (session_of old s))
    ∙ with_same (core_of old) s (client_in (session_of old s)) refl
  where
    by : (o : Option Session) → client_in (option_map f o) ≡ client_in o
    by None = refl
    by (Some x) = same x

-- pending and held bytes aren't seen
pub by_pending : (c : Option EndCause) (x : Session) (bytes : Bytes)
    → client_by c (record x { pending = bytes }) ≡ client_by c x
by_pending None x bytes = refl
by_pending (Some cause) x bytes = refl

pub by_held : (c : Option EndCause) (x : Session) (bytes : Bytes)
    → client_by c (record x { held = bytes }) ≡ client_by c x
by_held None x bytes = refl
by_held (Some cause) x bytes = refl

gained_client : (bytes : Bytes) (o : Option Session) → client_in (option_map (gaining bytes) o) ≡ client_in o
gained_client bytes None = refl
gained_client bytes (Some x) = by_pending x.cause x (x.pending ++ bytes)

pub core_queued : (st : State) (qs : List (ℕ × Bytes)) → core_of (queue_all st qs) ≡ core_of st
core_queued st qs = core_path (core_of (queue_all st qs)) (core_of st)
    (λ r t. ap (λ (k : Store). (core_of (record st { store = k })).db r t) (queued_store st qs))
    (ap (λ (k : Store). k.queries) (queued_store st qs)) (ap (λ (k : Store). k.seq) (queued_store st qs))
    (λ t. ap client_in (queued_all st qs t) ∙ gained_client (to_session t qs) (session_of st t))

-- a session that ends
ended_client : (cause : EndCause) (o : Option Session) → client_in (option_map (ended_by cause) o) ≡ nobody
ended_client cause None = refl
ended_client cause (Some x) = refl

pub core_ended : (mid : State) (st : Core) (s : ℕ) (cause : EndCause) (new : State) → core_of mid ≡ st
    → new ≡ with_session mid s (ended_by cause) → core_of new ≡ with_client s nobody st
core_ended mid st s cause new same after =
    ap core_of after ∙ core_with mid s (ended_by cause) (λ x. refl) nobody (ended_client cause (session_of mid s))
    ∙ ap (λ k. with_client s nobody k) same

-- a session that is there and goes on
pub going_client : (st : State) (s : ℕ) (x : Session) → session_of st s ≡ Some x → x.cause ≡ None
    → (core_of st).client s ≡ client_by None x
going_client st s x found runs = ap client_in found ∙ ap (λ c. client_by c x) runs

pub is_connected : (st : State) (s : ℕ) (x : Session) → session_of st s ≡ Some x → x.cause ≡ None
    → ((core_of st).client s).connected ≡ true
is_connected st s x found runs = ap (λ (y : Client). y.connected) (going_client st s x found runs)

-- another client than one that is connected
pub not_both : (st : Core) (s t : ℕ) → (t == s) ≡ true → (st.client s).connected ≡ true
    → (st.client t).connected ≡ false → ⊥
not_both st s t i there k =
    let is : (st.client t).connected ≡ true = ap (λ j. (st.client j).connected) (eqb-true t s i) ∙ there in
    absurd (cc (is, k))

-- ---- what is queued

parts_alone : (s t : ℕ) (text : Bytes) (b : Bool) → (t == s) ≡ b
    → parts_for t ((s, text) ∷ []) ≡ cond b (text ∷ []) []
parts_alone s t text true e = rw (eqb-true t s e) (rw (same_id s) refl)
parts_alone s t text false e = rw (other_id t s e) refl

pub parts_other : (s t : ℕ) (text : Bytes) → (t == s) ≡ false → parts_for t ((s, text) ∷ []) ≡ []
parts_other s t text e = parts_alone s t text false e

pub spelled_alone : (S : CoreMessage → Bytes → Type 0) (s t : ℕ) (m : CoreMessage) (text : Bytes) → S m text
    → AreSpelled S (only_sent s (m ∷ []) t ++ []) (parts_for t ((s, text) ∷ []))
spelled_alone S s t m text h = by (t == s) refl
  where
    by : (b : Bool) → (t == s) ≡ b → AreSpelled S (cond b (m ∷ []) [] ++ []) (parts_for t ((s, text) ∷ []))
    by true e = subst (λ ts. AreSpelled S (m ∷ []) ts) (sym (parts_alone s t text true e)) (h, tt)
    by false e = subst (λ ts. AreSpelled S [] ts) (sym (parts_alone s t text false e)) tt

-- ---- steps

-- What a step of the machine is for the core: RefinesStep, by which events it may be and how messages are spelled.
pub record Going (E : List CoreEvent → Type 0) (S : Core → Core → CoreMessage → Bytes → Type 0) (old : State)
    (e : Effect) (new : State) : Type 0 where
  pub happenings : List Happening
  pub events : E (map (λ (h : Happening). h.event) happenings)
  pub is_run : CoreRun (core_of old) happenings
  pub is_after : state_after (core_of old) happenings ≡ core_of new
  pub spelled : (t : ℕ) → ((core_of new).client t).connected ≡ true
      → AreSpelled (S (core_of old) (core_of new)) (all_sent t happenings) (parts_for t e.queued)
  pub silent : (t : ℕ) → ((core_of old).client t).connected ≡ false
      → (all_sent t happenings ≡ []) × (parts_for t e.queued ≡ [])

-- seen from states that the core sees alike
pub goes_from : (E : List CoreEvent → Type 0) (S : Core → Core → CoreMessage → Bytes → Type 0) (old from : State) (e : Effect)
    (mid new : State) → core_of from ≡ core_of old → core_of new ≡ core_of mid → Going E S from e mid
    → Going E S old e new
goes_from E S old from e mid new before after h = record {
  happenings = h.happenings;
  events = h.events;
  is_run = subst (λ (c : Core). CoreRun c h.happenings) before h.is_run;
  is_after = ap (λ (c : Core). state_after c h.happenings) (sym before) ∙ h.is_after ∙ sym after;
  spelled = λ t k. subst (λ (c : Core). AreSpelled (S c (core_of new)) (all_sent t h.happenings) (parts_for t e.queued))
      before
      (subst (λ (c : Core). AreSpelled (S (core_of from) c) (all_sent t h.happenings) (parts_for t e.queued)) (sym after)
      (h.spelled t (ap (λ (c : Core). (c.client t).connected) (sym after) ∙ k)));
  silent = λ t k. h.silent t (ap (λ (c : Core). (c.client t).connected) before ∙ k);
}

-- nothing happens
pub goes_silent : (E : List CoreEvent → Type 0) (S : Core → Core → CoreMessage → Bytes → Type 0) (old : State) (e : Effect)
    (new : State) → E [] → core_of new ≡ core_of old → e.queued ≡ [] → Going E S old e new
goes_silent E S old e new events same quiet = record {
  happenings = [];
  events = events;
  is_run = tt;
  is_after = sym same;
  spelled = λ t k. subst (λ (qs : List (ℕ × Bytes)). AreSpelled (S (core_of old) (core_of new)) [] (parts_for t qs))
      (sym quiet) tt;
  silent = λ t k. (refl, ap (λ (qs : List (ℕ × Bytes)). parts_for t qs) quiet);
}

-- a client is disconnected
pub goes_away : (E : List CoreEvent → Type 0) (S : Core → Core → CoreMessage → Bytes → Type 0) (old : State) (s : ℕ) (e : Effect)
    (new : State) → E (disconnects s ∷ []) → ((core_of old).client s).connected ≡ true
    → core_of new ≡ with_client s nobody (core_of old)
    → ((t : ℕ) → (t == s) ≡ false → parts_for t e.queued ≡ []) → Going E S old e new
goes_away E S old s e new events there after quiet = record {
  happenings = record { event = disconnects s; sent = only_sent s []; after = core_of new } ∷ [];
  events = events;
  is_run = ((there, [], refl, after), tt);
  is_after = refl;
  spelled = λ t k. by t (t == s) refl (ap (λ (c : Core). (c.client t).connected) (sym after) ∙ k);
  silent = λ t k. gone t (t == s) refl k;
}
  where
    gone : (t : ℕ) (b : Bool) → (t == s) ≡ b → ((core_of old).client t).connected ≡ false
        → ((cond {A = List CoreMessage} b [] [] ++ []) ≡ []) × (parts_for t e.queued ≡ [])
    gone t true i k = absurd (not_both (core_of old) s t i there k)
    gone t false i k = (refl, quiet t i)

    by : (t : ℕ) (b : Bool) → (t == s) ≡ b → (cond b nobody ((core_of old).client t)).connected ≡ true
        → AreSpelled (S (core_of old) (core_of new)) (cond b [] [] ++ []) (parts_for t e.queued)
    by t true i k = absurd cc
    by t false i k = subst (λ ts. AreSpelled (S (core_of old) (core_of new)) [] ts) (sym (quiet t i)) tt

-- What the line of a session is for the core.
abbrev pub LineGoes : State → ℕ → Reading → Effect → State → Type 0
LineGoes old s r e new = Going (AreOfLine s (core_reading old.store.queries r)) (SpellsMessage s r) old e new

-- the line ends its session, or its reply may be cut
abbrev pub MayEnd : Option CoreCommand → Type 0
MayEnd None = Unit {0}
MayEnd (Some c) = MayBeCut c

of_ending : (s : ℕ) (o : Option CoreCommand) → MayEnd o → AreOfLine s o (disconnects s ∷ [])
of_ending s None may = refl
of_ending s (Some c) may = inr (may, refl)

-- A command gets one reply.
pub line_says : (old : State) (s : ℕ) (r : Reading) (e : Effect) (new : State) (c : CoreCommand) (m : CoreMessage)
    (text : Bytes) → core_reading old.store.queries r ≡ Some c
    → CoreStep (core_of old) (says s c) (only_sent s (m ∷ [])) (core_of new) → e.queued ≡ (s, text) ∷ []
    → SpellsMessage s r (core_of old) (core_of new) m text → LineGoes old s r e new
line_says old s r e new c m text is step queued spelled = record {
  happenings = record { event = says s c; sent = only_sent s (m ∷ []); after = core_of new } ∷ [];
  events = subst (λ o. AreOfLine s o (says s c ∷ [])) (sym is) (inl refl);
  is_run = (step, tt);
  is_after = refl;
  spelled = λ t k. subst (λ (qs : List (ℕ × Bytes)).
      AreSpelled (SpellsMessage s r (core_of old) (core_of new)) (only_sent s (m ∷ []) t ++ []) (parts_for t qs))
      (sym queued) (spelled_alone (SpellsMessage s r (core_of old) (core_of new)) s t m text spelled);
  silent = λ t k. gone t (t == s) refl k;
}
  where
    gone : (t : ℕ) (b : Bool) → (t == s) ≡ b → ((core_of old).client t).connected ≡ false
        → ((cond b (m ∷ []) [] ++ []) ≡ []) × (parts_for t e.queued ≡ [])
    gone t true i k = absurd (not_both (core_of old) s t i step.0 k)
    gone t false i k = (refl, ap (λ (qs : List (ℕ × Bytes)). parts_for t qs) queued ∙ parts_other s t text i)

-- A line ends its session.
pub line_ends : (old : State) (s : ℕ) (x : Session) (r : Reading) (e : Effect) (mid : State) (cause : EndCause)
    (new : State) (text : Bytes) → MayEnd (core_reading old.store.queries r) → session_of old s ≡ Some x → x.cause ≡ None → core_of mid ≡ core_of old
    → new ≡ with_session mid s (ended_by cause) → e.queued ≡ (s, text) ∷ [] → LineGoes old s r e new
line_ends old s x r e mid cause new text may found runs same after queued =
    goes_away (AreOfLine s (core_reading old.store.queries r)) (SpellsMessage s r) old s e new
    (of_ending s (core_reading old.store.queries r) may) (is_connected old s x found runs)
    (core_ended mid (core_of old) s cause new same after)
    (λ t k. ap (λ (qs : List (ℕ × Bytes)). parts_for t qs) queued ∙ parts_other s t text k)
