-- What each event that runs no line is for the core, and each line that isn't run.
use Rattle.std.specs.Prelude.{ℕ, List, [], ◌∷◌, ◌++◌, ◌==◌, ◌≡◌, ◌⊎◌, ◌<◌, Bool, true, false, cond, not, Option, None}
use Rattle.std.specs.Prelude.{Some, MatchOption, All, find, filter, length}
use Rattle.std.proofs.Common.{refl, sym, ap, ◌∙◌, subst, inl, inr, arith}
use Rattle.std.proofs.lemmas.Bool.{eqb-true}
use Rattle.std.proofs.lemmas.List.Elements.{All-head, All-tail}
use Rattle.djq_model.specs.Data.{Bytes}
use Rattle.djq_protocol.specs.declared.answer.EndCause.{EndCause}
use Rattle.djq_protocol.specs.declared.answer.EndCause.TheVariants.{Input, Memory}
use Rattle.djq_protocol.specs.declared.limits.TheConstants.{SESSIONS}
use Rattle.djq_protocol.specs.Reply.{end_memory, cut_line}
use Rattle.djq_machine.specs.State.{Session, State, fresh, session_of, with_session, ended_by}
use Rattle.djq_machine.specs.Effect.{Effect, nothing, says_any, lost_line, EndsWith}
use Rattle.djq_machine.specs.Step.{Event, opened, fed, took, ended, closed, FedStep, TookStep, EndedStep, Acts}
use Rattle.djq_run_laws.specs.Watched.{parts_for}
use Rattle.djq_run_laws.proofs.Lists.{some_there, find_front, find_last}
use Rattle.djq_run_laws.proofs.Events.{gone_same, others_stay}
use Rattle.djq_abstract.specs.Clients.{Client, nobody, with_client, connects, disconnects, only_sent}
use Rattle.djq_abstract.specs.Clients.{CoreMessage}
use Rattle.djq_refinement.specs.View.{client_by, client_in, core_of}
use Rattle.djq_refinement.specs.Spelling.{AreSpelled}
use Rattle.djq_refinement.specs.Refinement.{AreCoreEvents, SpellsBy}
use Rattle.djq_refinement.proofs.Clients.{core_path, core_same, core_ended, by_pending, by_held, is_connected}
use Rattle.djq_refinement.proofs.Clients.{parts_other, other_id, same_id, Going, goes_silent, goes_away}

-- What an event is for the core, before its bytes are queued.
abbrev pub EventGoes : State → Event → Effect → State → Type 0
EventGoes old event e mid = Going (AreCoreEvents old.store.queries event) (SpellsBy event) old e mid

-- ---- a session opens

-- no open session has an id above all
none_above : (s : ℕ) (xs : List Session) → All (λ (x : Session). x.id < s) xs
    → find (λ (x : Session). x.id == s) xs ≡ None
none_above s [] h = refl
none_above s (x ∷ xs) h = by (x.id == s) refl
    (none_above s xs (All-tail (λ (y : Session). y.id < s) x xs h))
  where
    by : (b : Bool) → (x.id == s) ≡ b → find (λ (y : Session). y.id == s) xs ≡ None
        → cond b (Some x) (find (λ (y : Session). y.id == s) xs) ≡ None
    by true e rest =
        let same : x.id ≡ s = eqb-true x.id s e in
        let below = All-head (λ (y : Session). y.id < s) x xs h in absurd (omega (arith, same, below))
    by false e rest = rest

pub open_goes : (old : State) (s : ℕ) (e : Effect) (mid : State) → Acts old (opened s) e mid
    → EventGoes old (opened s) e mid
open_goes old s e mid h = by h.2
  where
    none : session_of old s ≡ None
    none = none_above s old.sessions h.1

    client_is : (t : ℕ) (b : Bool) → (t == s) ≡ b
        → client_in (find (λ (x : Session). x.id == t) (old.sessions ++ fresh s ∷ []))
        ≡ cond b (record nobody { connected = true }) (client_in (session_of old t))
    client_is t true k =
        ap (λ i. client_in (find (λ (x : Session). x.id == i) (old.sessions ++ fresh s ∷ []))) (eqb-true t s k)
        ∙ ap client_in (find_last (λ (x : Session). x.id == s) old.sessions (fresh s) none (same_id s))
    client_is t false k =
        ap client_in (find_front (λ (x : Session). x.id == t) old.sessions (fresh s) (other_id t s k))

    by : ((length old.sessions < SESSIONS) × (mid ≡ record old { sessions = old.sessions ++ fresh s ∷ [] }))
        ⊎ (mid ≡ old) → EventGoes old (opened s) e mid
    by (inr same) = goes_silent (AreCoreEvents old.store.queries (opened s)) (SpellsBy (opened s)) old e mid
        (inl refl) (ap core_of same) (ap (λ (d : Effect). d.queued) h.0)
    by (inl more) = record {
      happenings = record { event = connects s; sent = only_sent s []; after = core_of mid } ∷ [];
      events = inr refl;
      is_run = (
        (
          ap (λ (o : Option Session). (client_in o).connected) none,
          refl,
          ap core_of more.1 ∙ core_path (core_of (record old { sessions = old.sessions ++ fresh s ∷ [] }))
              (with_client s (record nobody { connected = true }) (core_of old)) (λ r t. refl) refl refl
              (λ t. client_is t (t == s) refl),
        ),
        tt,
      );
      is_after = refl;
      spelled = λ t k. subst (λ (d : Effect). AreSpelled (SpellsBy (opened s) (core_of old) (core_of mid))
          (only_sent s [] t ++ []) (parts_for t d.queued)) (sym h.0) (quiet (t == s));
      silent = λ t k. (nothing_sent (t == s), ap (λ (d : Effect). parts_for t d.queued) h.0);
    }
      where
        nothing_sent : (b : Bool) → (cond {A = List CoreMessage} b [] [] ++ []) ≡ []
        nothing_sent true = refl
        nothing_sent false = refl

        quiet : (b : Bool) → AreSpelled (SpellsBy (opened s) (core_of old) (core_of mid)) (cond b [] [] ++ []) []
        quiet true = tt
        quiet false = tt

-- ---- events of a session

-- a session ends with a line
pub ends_goes : (old : State) (event : Event) (s : ℕ) (x : Session) (text : Bytes) (cause : EndCause) (e : Effect)
    (mid : State) → AreCoreEvents old.store.queries event (disconnects s ∷ []) → session_of old s ≡ Some x
    → x.cause ≡ None → EndsWith text cause old s e mid → EventGoes old event e mid
ends_goes old event s x text cause e mid events found runs h =
    goes_away (AreCoreEvents old.store.queries event) (SpellsBy event) old s e mid events
    (is_connected old s x found runs) (core_ended old (core_of old) s cause mid refl h.1)
    (λ t k. ap (λ (d : Effect). parts_for t d.queued) h.0 ∙ parts_other s t text k)

stays_goes : (old : State) (event : Event) (e : Effect) (mid : State) → AreCoreEvents old.store.queries event []
    → e ≡ nothing → core_of mid ≡ core_of old → EventGoes old event e mid
stays_goes old event e mid events quiet same =
    goes_silent (AreCoreEvents old.store.queries event) (SpellsBy event) old e mid events same
    (ap (λ (d : Effect). d.queued) quiet)

pub fed_goes : (old : State) (s : ℕ) (bytes : Bytes) (e : Effect) (mid : State) → Acts old (fed s bytes) e mid
    → EventGoes old (fed s bytes) e mid
fed_goes old s bytes e mid h = by (f.0).cause refl f.2
  where
    f : (x : Session) × (session_of old s ≡ Some x) × FedStep old s bytes x e mid
    f = some_there (session_of old s) (λ x. FedStep old s bytes x e mid) h

    by : (c : Option EndCause) → (f.0).cause ≡ c → MatchOption c
        (((e ≡ nothing) × (mid ≡ with_session old s (λ y. record y { held = y.held ++ bytes }))) ⊎ EndsWith end_memory
        Memory old s e mid)
        (λ _. (e ≡ nothing) × (mid ≡ old)) → EventGoes old (fed s bytes) e mid
    by None runs (inl k) = stays_goes old (fed s bytes) e mid (inl refl) k.0 (ap core_of k.1
        ∙ core_same old s (λ (y : Session). record y { held = y.held ++ bytes }) (λ y. refl)
        (λ y. by_held y.cause y (y.held ++ bytes)))
    by None runs (inr k) = ends_goes old (fed s bytes) s f.0 end_memory Memory e mid (inr refl) f.1 runs k
    by (Some c) runs k = stays_goes old (fed s bytes) e mid (inl refl) k.0 (ap core_of k.1)

pub took_goes : (old : State) (s : ℕ) (bytes : Bytes) (e : Effect) (mid : State) → Acts old (took s bytes) e mid
    → EventGoes old (took s bytes) e mid
took_goes old s bytes e mid h =
    let f = some_there (session_of old s) (λ x. TookStep old s bytes x e mid) h in
    stays_goes old (took s bytes) e mid refl f.2.0 (ap core_of f.2.1.2
    ∙ core_same old s (λ (y : Session). record y { pending = f.2.1.0 }) (λ y. refl)
    (λ y. by_pending y.cause y f.2.1.0))

parts_any : (s t : ℕ) (text : Bytes) → (t == s) ≡ false → parts_for t (says_any s text).queued ≡ []
parts_any s t [] k = refl
parts_any s t (b ∷ bs) k = parts_other s t (b ∷ bs) k

pub input_goes : (old : State) (s : ℕ) (e : Effect) (mid : State) → Acts old (ended s) e mid
    → EventGoes old (ended s) e mid
input_goes old s e mid h = by _ (f.0).cause refl f.2
  where
    f : (x : Session) × (session_of old s ≡ Some x) × EndedStep old s x e mid
    f = some_there (session_of old s) (λ x. EndedStep old s x e mid) h

    by : (P : Type 0) (c : Option EndCause) → (f.0).cause ≡ c → MatchOption c
        (P × (e ≡ says_any s (cut_line (f.0).held ++ lost_line (f.0).batch))
        × (mid ≡ with_session old s (ended_by Input)))
        (λ _. (e ≡ nothing) × (mid ≡ old)) → EventGoes old (ended s) e mid
    by P None runs k =
        goes_away (AreCoreEvents old.store.queries (ended s)) (SpellsBy (ended s)) old s e mid (inr refl)
        (is_connected old s f.0 f.1 runs) (core_ended old (core_of old) s Input mid refl k.2)
        (λ t i. ap (λ (d : Effect). parts_for t d.queued) k.1
        ∙ parts_any s t (cut_line (f.0).held ++ lost_line (f.0).batch) i)
    by P (Some c) runs k = stays_goes old (ended s) e mid (inl refl) k.0 (ap core_of k.1)

-- a session is closed
closed_core : (old : State) (s : ℕ)
    → core_of (record old { sessions = filter (λ (x : Session). not (x.id == s)) old.sessions })
    ≡ with_client s nobody (core_of old)
closed_core old s = core_path (core_of (record old { sessions = filter (λ (x : Session). not (x.id == s)) old.sessions }))
    (with_client s nobody (core_of old)) (λ r t. refl) refl refl (λ t. by t (t == s) refl)
  where
    by : (t : ℕ) (b : Bool) → (t == s) ≡ b
        → client_in (find (λ (x : Session). x.id == t) (filter (λ (x : Session). not (x.id == s)) old.sessions))
        ≡ cond b nobody (client_in (session_of old t))
    by t true k =
        ap (λ i. client_in (find (λ (x : Session). x.id == i) (filter (λ (x : Session). not (x.id == s)) old.sessions)))
        (eqb-true t s k)
        ∙ ap client_in (gone_same s old.sessions)
    by t false k = ap client_in (others_stay s t old.sessions (other_id t s k))

pub closed_goes : (old : State) (s : ℕ) (bytes : Bytes) (e : Effect) (mid : State) → Acts old (closed s bytes) e mid
    → EventGoes old (closed s bytes) e mid
closed_goes old s bytes e mid h = by (((core_of old).client s).connected) refl
  where
    after : core_of mid ≡ with_client s nobody (core_of old)
    after = ap core_of h.2 ∙ closed_core old s

    nobody_there : (o : Option Session) → (client_in o).connected ≡ false → client_in o ≡ nobody
    nobody_there None k = refl
    nobody_there (Some x) k = ended x.cause k
      where
        ended : (c : Option EndCause) → (client_by c x).connected ≡ false → client_by c x ≡ nobody
        ended None i = absurd cc
        ended (Some cause) i = refl

    same : (y : Client) → client_in (session_of old s) ≡ y → with_client s y (core_of old) ≡ core_of old
    same y k = core_path (with_client s y (core_of old)) (core_of old) (λ r t. refl) refl refl (λ t. at t (t == s) refl)
      where
        at : (t : ℕ) (b : Bool) → (t == s) ≡ b → cond b y (client_in (session_of old t)) ≡ client_in (session_of old t)
        at t true i = sym k ∙ ap (λ j. client_in (session_of old j)) (sym (eqb-true t s i))
        at t false i = refl

    by : (b : Bool) → ((core_of old).client s).connected ≡ b → EventGoes old (closed s bytes) e mid
    by true k =
        goes_away (AreCoreEvents old.store.queries (closed s bytes)) (SpellsBy (closed s bytes)) old s e mid
        (inr refl) k after (λ t i. ap (λ (d : Effect). parts_for t d.queued) h.0)
    by false k = stays_goes old (closed s bytes) e mid (inl refl) h.0
        (after ∙ same nobody (nobody_there (session_of old s) k))
