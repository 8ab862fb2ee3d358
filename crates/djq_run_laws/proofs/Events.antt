-- What an event makes of its session and of the others, and what becomes of their pending bytes.
use Rattle.std.specs.Prelude.{ℕ, [], ◌∷◌, ◌==◌, ◌≡◌, ◌++◌, ◌⊎◌, true, false, Option, None, Some, IsSomeAnd, MatchOption}
use Rattle.std.specs.Prelude.{option_map, List, ◌<◌, Bool, not, cond, length, filter, IsSome, find}
use Rattle.std.proofs.Common.{refl, sym, ap, ◌∙◌, subst, append-nil, inl, inr, append_assoc}
use Rattle.std.proofs.lemmas.Bool.{eq-eqb, eqb-true}
use Rattle.djq_model.specs.Data.{Bytes}
use Rattle.djq_protocol.specs.declared.answer.EndCause.{EndCause}
use Rattle.djq_protocol.specs.declared.answer.EndCause.TheVariants.{Input, Long, Slow, Memory}
use Rattle.djq_protocol.specs.declared.limits.TheConstants.{SESSIONS}
use Rattle.djq_protocol.specs.Line.{a_line}
use Rattle.djq_protocol.specs.Reply.{end_long, end_slow, end_memory}
use Rattle.djq_answer_laws.proofs.Lists.{some_there}
use Rattle.djq_machine.specs.State.{State, Session, session_of, with_session, ended_by, fresh}
use Rattle.djq_machine.specs.Keeping.{no_line}
use Rattle.djq_machine.specs.Effect.{Effect, nothing, says, says_any, lost_line, EndsWith}
use Rattle.djq_machine.specs.LineStep.{LineOutcome, long, blank, slow, no_room, run, FrontStep, behind_line}
use Rattle.djq_machine.specs.Step.{is_dry, FedStep, TookStep, EndedStep, Event, opened, fed, stepped, took, ended}
use Rattle.djq_machine.specs.Step.{closed, cut_line, Acts, Step}
use Rattle.djq_machine.specs.Run.{to_session, Did, Walk, Run, out, all_taken, taken_from, pending_of, pending_in}
use Rattle.djq_machine.specs.Call.{IsOpen}
use Rattle.djq_machine.proofs.Relations.{walk_as}
use Rattle.djq_run_laws.specs.Moved.{EndsByRun, CausedBy, LeavesHeldBytes}
use Rattle.djq_run_laws.specs.Course.{RunNext, MayRun}
use Rattle.djq_run_laws.specs.Sent.{gone_by, all_gone, SentBytes}
pub use Rattle.djq_run_laws.specs.Moved.{SparesSession}
use Rattle.djq_run_laws.proofs.Lists.{session_changed, session_other, gaining, stepped as stepped_session, stepped_open}
use Rattle.djq_run_laws.proofs.Lists.{stepped_pending}
use Rattle.djq_run_laws.proofs.Sessions.{ToOpen, alone_nothing, alone_text, CauseKept, SameBytes, AlikeFound}
use Rattle.djq_run_laws.proofs.Sessions.{KeepsAlike, alike_found, read_keeps, alike_open, alike_pending}

-- ---- What an event of one session makes of it and of the others.

-- sessions may end by any cause
abbrev pub AnyCause : EndCause → Type 0
AnyCause c = Unit {0}

-- An event makes of one session another, and leaves the others alike.
pub record Touches (old : State) (s : ℕ) (x : Session) (e : Effect) (mid : State) (y : Session) : Type 0 where
  pub found : session_of old s ≡ Some x
  pub now : session_of mid s ≡ Some y
  pub others : (t : ℕ) → (s == t) ≡ false → AlikeFound AnyCause (session_of old t) (session_of mid t)
  pub alone : ToOpen s e mid

found_itself : (o : Option Session) → AlikeFound AnyCause o o
found_itself None = tt
found_itself (Some x) = (refl, refl, inl refl)

found_same : (o p : Option Session) → p ≡ o → AlikeFound AnyCause o p
found_same o p e = subst (λ (q : Option Session). AlikeFound AnyCause o q) (sym e) (found_itself o)

-- a change of the session
pub touches_changed : (old : State) (s : ℕ) (x : Session) (f : Session → Session) (e : Effect) (mid : State)
    → session_of old s ≡ Some x → ((y : Session) → (f y).id ≡ y.id)
    → mid ≡ with_session old s f → ToOpen s e mid → Touches old s x e mid (f x)
touches_changed old s x f e mid found keeps after alone = record {
  found = found;
  now = ap (λ st. session_of st s) after ∙ session_changed old s f keeps ∙ ap (λ o. option_map f o) found;
  others = λ t apart. found_same (session_of old t) (session_of mid t)
      (ap (λ st. session_of st t) after ∙ session_other old s t f keeps apart);
  alone = alone;
}

-- no change
pub touches_same : (old : State) (s : ℕ) (x : Session) (e : Effect) (mid : State) → session_of old s ≡ Some x → mid
    ≡ old → e ≡ nothing → Touches old s x e mid x
touches_same old s x e mid found after none = record {
  found = found;
  now = ap (λ st. session_of st s) after ∙ found;
  others = λ t apart. found_same (session_of old t) (session_of mid t) (ap (λ st. session_of st t) after);
  alone = alone_nothing s e none;
}

-- the bytes that say one text to a session
pub says_to : (s : ℕ) (text : Bytes) → to_session s (says s text).queued ≡ text
says_to s text = rw (eq-eqb s s refl) (append-nil text)

pub quiet : (s : ℕ) (e : Effect) → e ≡ nothing → to_session s e.queued ≡ []
quiet s e h = ap (λ (d : Effect). to_session s d.queued) h

pub said : (s : ℕ) (text : Bytes) (e : Effect) → e ≡ says s text → to_session s e.queued ≡ text
said s text e h = ap (λ (d : Effect). to_session s d.queued) h ∙ says_to s text

-- Bytes come: they are held, or the session ends out of memory, or it had ended.
pub data FedTo (x y : Session) (bytes text : Bytes) : Type 0 where
  is_held : x.cause ≡ None → y.cause ≡ None → y.held ≡ x.held ++ bytes → text ≡ [] → FedTo x y bytes text
  out_of_memory : x.cause ≡ None → y.cause ≡ Some Memory → y.held ≡ x.held → text ≡ end_memory → FedTo x y bytes text
  is_dropped : (c : EndCause) → x.cause ≡ Some c → y.cause ≡ Some c → y.held ≡ x.held → text ≡ [] → FedTo x y bytes text

pub record Fed (old : State) (s : ℕ) (bytes : Bytes) (x : Session) (e : Effect) (mid : State) : Type 0 where
  pub session : Session
  pub touches : Touches old s x e mid session
  pub pending : session.pending ≡ x.pending
  pub fed : FedTo x session bytes (to_session s e.queued)

fed_by_cause : (old : State) (s : ℕ) (bytes : Bytes) (x : Session) (e : Effect) (mid : State) (c : Option EndCause)
    → session_of old s ≡ Some x → x.cause ≡ c
    → MatchOption c
    (((e ≡ nothing) × (mid ≡ with_session old s (λ y. record y { held = y.held ++ bytes }))) ⊎ EndsWith end_memory
    Memory old s e mid)
    (λ _. (e ≡ nothing) × (mid ≡ old))
    → Fed old s bytes x e mid
fed_by_cause old s bytes x e mid None found running (inl h) = record {
  session = record x { held = x.held ++ bytes };
  touches = touches_changed old s x (λ y. record y { held = y.held ++ bytes }) e mid found (λ y. refl) h.1
      (alone_nothing s e h.0);
  pending = refl;
  fed = is_held running running refl (quiet s e h.0);
}
fed_by_cause old s bytes x e mid None found running (inr h) = record {
  session = ended_by Memory x;
  touches = touches_changed old s x (ended_by Memory) e mid found (λ y. refl) h.1
      (alone_text s end_memory 0 no_line e h.0);
  pending = refl;
  fed = out_of_memory running refl refl (said s end_memory e h.0);
}
fed_by_cause old s bytes x e mid (Some c) found cause h = record {
  session = x;
  touches = touches_same old s x e mid found h.1 h.0;
  pending = refl;
  fed = is_dropped c cause cause refl (quiet s e h.0);
}

-- and the store stays
pub fed_store : (old : State) (s : ℕ) (bytes : Bytes) (e : Effect) (mid : State) (c : Option EndCause)
    → MatchOption c
    (((e ≡ nothing) × (mid ≡ with_session old s (λ y. record y { held = y.held ++ bytes }))) ⊎ EndsWith end_memory
    Memory old s e mid)
    (λ _. (e ≡ nothing) × (mid ≡ old)) → mid.store ≡ old.store
fed_store old s bytes e mid None (inl h) = ap (λ (st : State). st.store) h.1
fed_store old s bytes e mid None (inr h) = ap (λ (st : State). st.store) h.1
fed_store old s bytes e mid (Some c) h = ap (λ (st : State). st.store) h.1

pub is_fed : (old : State) (s : ℕ) (bytes : Bytes) (x : Session) (e : Effect) (mid : State) → session_of old s ≡ Some x
    → FedStep old s bytes x e mid → Fed old s bytes x e mid
is_fed old s bytes x e mid found h = fed_by_cause old s bytes x e mid x.cause found refl h

-- Input ends: of a session that hadn't ended, or of one that had.
pub data EndedTo (x y : Session) (text : Bytes) : Type 0 where
  input_ends : x.cause ≡ None → y.cause ≡ Some Input → is_dry x.held ≡ true
      → text ≡ cut_line x.held ++ lost_line x.batch → EndedTo x y text
  had_ended : (c : EndCause) → x.cause ≡ Some c → y.cause ≡ Some c → text ≡ [] → EndedTo x y text

pub record Ended (old : State) (s : ℕ) (x : Session) (e : Effect) (mid : State) : Type 0 where
  pub session : Session
  pub touches : Touches old s x e mid session
  pub pending : session.pending ≡ x.pending
  pub held : session.held ≡ x.held
  pub ends : EndedTo x session (to_session s e.queued)

-- what is said, if anything is
any_said : {mid : State} (s : ℕ) (text : Bytes) (e : Effect) → e ≡ says_any s text
    → (to_session s e.queued ≡ text) × ToOpen s e mid
any_said s [] e h = (quiet s e h, alone_nothing s e h)
any_said s (b ∷ bs) e h = (said s (b ∷ bs) e h, alone_text s (b ∷ bs) 0 no_line e h)

ended_by_cause : (old : State) (s : ℕ) (x : Session) (e : Effect) (mid : State) (c : Option EndCause) → session_of old s
    ≡ Some x → x.cause ≡ c
    → MatchOption c
    ((is_dry x.held ≡ true) × (e ≡ says_any s (cut_line x.held ++ lost_line x.batch))
    × (mid ≡ with_session old s (ended_by Input)))
    (λ _. (e ≡ nothing) × (mid ≡ old))
    → Ended old s x e mid
ended_by_cause old s x e mid None found running h =
    let cut = any_said s (cut_line x.held ++ lost_line x.batch) e h.1 in
    record {
      session = ended_by Input x;
      touches = touches_changed old s x (ended_by Input) e mid found (λ y. refl) h.2 cut.1;
      pending = refl;
      held = refl;
      ends = input_ends running refl h.0 cut.0;
    }
ended_by_cause old s x e mid (Some c) found cause h = record {
  session = x;
  touches = touches_same old s x e mid found h.1 h.0;
  pending = refl;
  held = refl;
  ends = had_ended c cause cause (quiet s e h.0);
}

pub is_ended : (old : State) (s : ℕ) (x : Session) (e : Effect) (mid : State) → session_of old s ≡ Some x
    → EndedStep old s x e mid → Ended old s x e mid
is_ended old s x e mid found h = ended_by_cause old s x e mid x.cause found refl h

-- Pending bytes are taken.
pub record Took (old : State) (s : ℕ) (bytes : Bytes) (x : Session) (e : Effect) (mid : State) : Type 0 where
  pub session : Session
  pub touches : Touches old s x e mid session
  pub pending : x.pending ≡ bytes ++ session.pending
  pub held : session.held ≡ x.held
  pub cause : session.cause ≡ x.cause
  pub quiet : to_session s e.queued ≡ []

pub is_taken : (old : State) (s : ℕ) (bytes : Bytes) (x : Session) (e : Effect) (mid : State) → session_of old s
    ≡ Some x → TookStep old s bytes x e mid → Took old s bytes x e mid
is_taken old s bytes x e mid found h = record {
  session = record x { pending = h.1.0 };
  touches = touches_changed old s x (λ y. record y { pending = h.1.0 }) e mid found (λ y. refl) h.1.2
      (alone_nothing s e h.0);
  pending = h.1.1;
  held = refl;
  cause = refl;
  quiet = quiet s e h.0;
}

-- The front of the bytes held comes to something.
pub record Stepped (old : State) (s : ℕ) (x : Session) (outcome : LineOutcome) (e : Effect) (mid : State) : Type 0 where
  pub session : Session
  pub touches : Touches old s x e mid session
  pub pending : session.pending ≡ x.pending
  pub held : LeavesHeldBytes outcome x.held session.held
  pub cause : CausedBy outcome session.cause

weaken : (May : EndCause → Type 0) (o p : Option Session) → AlikeFound May o p → AlikeFound AnyCause o p
weaken May None None h = tt
weaken May (Some x) (Some y) h = (h.0, h.1, kept x.cause y.cause h.2)
  where
    some : (c : Option EndCause) → IsSomeAnd c May → IsSomeAnd c AnyCause
    some None k = absurd k
    some (Some c) k = tt

    kept : (a b : Option EndCause) → CauseKept May a b → CauseKept AnyCause a b
    kept a b (inl k) = inl k
    kept a b (inr k) = inr (some b k)
weaken May None (Some y) h = absurd h
weaken May (Some x) None h = absurd h

-- Sessions that stay alike from behind a change of the one: what it is then.
pub record Found (May : EndCause → Type 0) (x : Session) (o : Option Session) : Type 0 where
  pub session : Session
  pub is : o ≡ Some session
  pub same : SameBytes May x session

found_some : (May : EndCause → Type 0) (x : Session) (o p : Option Session) → o ≡ Some x → AlikeFound May o p
    → Found May x p
found_some May x o None e h = absurd (subst (λ (q : Option Session). AlikeFound May q None) e h)
found_some May x o (Some y) e h = record
    { session = y; is = refl; same = subst (λ (q : Option Session). AlikeFound May q (Some y)) e h }

pub record Behind (May : EndCause → Type 0) (old : State) (s : ℕ) (x : Session) (f : Session → Session) (e : Effect)
    (mid : State) : Type 0 where
  pub session : Session
  pub touches : Touches old s x e mid session
  pub same : SameBytes May (f x) session

behind : (May : EndCause → Type 0) (old : State) (s : ℕ) (x : Session) (f : Session → Session) (e : Effect)
    (mid : State) → session_of old s ≡ Some x → ((y : Session) → (f y).id ≡ y.id)
    → KeepsAlike May (with_session old s f) s e mid → Behind May old s x f e mid
behind May old s x f e mid found keeps h =
    let between = with_session old s f in
    let now = session_changed old s f keeps ∙ ap (λ o. option_map f o) found in
    let then = found_some May (f x) (session_of between s) (session_of mid s) now
    (alike_found May s between.sessions mid.sessions h.0) in
    record {
      session = then.session;
      touches = record {
        found = found;
        now = then.is;
        others = λ t apart. subst (λ (o : Option Session). AlikeFound AnyCause o (session_of mid t))
            (session_other old s t f keeps apart)
            (weaken May (session_of between t) (session_of mid t)
            (alike_found May t between.sessions mid.sessions h.0));
        alone = h.1;
      };
      same = then.same;
    }

-- the end cause of a session that hadn't one, behind a line that was run
kept_run : (a b : Option EndCause) → a ≡ None → CauseKept EndsByRun a b → CausedBy (run []) b
kept_run a None none h = tt
kept_run a (Some c) none (inl e) = absurd (some_none (e ∙ none))
  where
    some_none : Some c ≡ None → ⊥
    some_none k = cc
kept_run a (Some c) none (inr h) = h

-- a session that ends behind its line
ends_behind : (old : State) (s : ℕ) (x : Session) (outcome : LineOutcome) (rest text : Bytes) (cause : EndCause)
    (e : Effect) (mid : State) → session_of old s ≡ Some x
    → EndsWith text cause (with_session old s (behind_line rest)) s e mid → LeavesHeldBytes outcome x.held rest
    → CausedBy outcome (Some cause) → Stepped old s x outcome e mid
ends_behind old s x outcome rest text cause e mid found h held caused =
    let between = with_session old s (behind_line rest) in
    let first = touches_changed old s x (behind_line rest) e between found (λ y. refl) refl
    (alone_text s text 0 no_line e h.0) in
    let then = touches_changed between s (behind_line rest x) (ended_by cause) e mid first.now (λ y. refl) h.1
    (alone_text s text 0 no_line e h.0) in
    record {
      session = ended_by cause (behind_line rest x);
      touches = record {
        found = found;
        now = then.now;
        others = λ t apart. subst (λ (o : Option Session). AlikeFound AnyCause o (session_of mid t))
            (session_other old s t (behind_line rest) (λ y. refl) apart) (then.others t apart);
        alone = then.alone;
      };
      pending = refl;
      held = held;
      cause = caused;
    }

pub is_stepped : (old : State) (s : ℕ) (x : Session) (outcome : LineOutcome) (e : Effect) (mid : State)
    → session_of old s ≡ Some x → x.cause ≡ None → FrontStep old s x outcome e mid
    → Stepped old s x outcome e mid
is_stepped old s x long e mid found running h = record {
  session = ended_by Long x;
  touches = touches_changed old s x (ended_by Long) e mid found (λ y. refl) h.1.1
      (alone_text s end_long 0 no_line e h.1.0);
  pending = refl;
  held = refl;
  cause = refl;
}
is_stepped old s x (blank l) e mid found running h = record {
  session = behind_line h.1.rest x;
  touches = touches_changed old s x (behind_line h.1.rest) e mid found (λ y. refl) h.1.then.1
      (alone_nothing s e h.1.then.0);
  pending = refl;
  held = h.1.front;
  cause = running;
}
is_stepped old s x (slow l) e mid found running h = ends_behind old s x (slow l) h.2.rest end_slow Slow e mid found
    h.2.then h.2.front refl
is_stepped old s x (no_room l) e mid found running h = ends_behind old s x (no_room l) h.2.rest end_memory Memory e mid
    found h.2.then h.2.front refl
is_stepped old s x (run l) e mid found running h =
    let rest = h.2.rest in
    let b = behind EndsByRun old s x (behind_line rest) e mid found (λ y. refl)
    (read_keeps (with_session old s (behind_line rest)) s (behind_line rest x) l e mid h.2.then) in
    record {
      session = b.session;
      touches = b.touches;
      pending = b.same.0;
      held = h.2.front ∙ ap (λ r. a_line l r) (sym b.same.1);
      cause = kept_run x.cause (b.session).cause running b.same.2;
    }

-- ---- Sessions stay open, and keep their pending bytes but for what is taken; what is queued comes behind.

-- What becomes of a session as an event acts: pending bytes that are gone stood first, it is there where bytes are
-- queued
-- to it, and it stays where the event doesn't close it.
pub record Moves (old : State) (event : Event) (e : Effect) (mid : State) (t : ℕ) : Type 0 where
  pub pending : gone_by t event ++ pending_of mid t ≡ pending_of old t
  pub there : IsOpen mid t ⊎ (to_session t e.queued ≡ [])
  pub stays : SparesSession event t → IsOpen old t → IsOpen mid t

-- an event of a session that is there
touch_pending : (old : State) (s : ℕ) (x : Session) (e : Effect) (mid : State) (y : Session) (gone : Bytes) (t : ℕ)
    (b : Bool) → (s == t) ≡ b → Touches old s x e mid y → gone ++ y.pending ≡ x.pending
    → cond b gone [] ++ pending_of mid t ≡ pending_of old t
touch_pending old s x e mid y gone t true same h parts =
    let k : s ≡ t = eqb-true s t same in
    subst (λ i. gone ++ pending_of mid i ≡ pending_of old i) k
    (ap (λ o. gone ++ pending_in o) h.now ∙ parts ∙ sym (ap pending_in h.found))
touch_pending old s x e mid y gone t false apart h parts = alike_pending AnyCause (session_of old t) (session_of mid t)
    (h.others t apart)

touch_there : (old : State) (s : ℕ) (x : Session) (e : Effect) (mid : State) (y : Session) (t : ℕ) (b : Bool) → (s == t)
    ≡ b → Touches old s x e mid y → IsOpen mid t ⊎ (to_session t e.queued ≡ [])
touch_there old s x e mid y t true same h = let k : s
    ≡ t = eqb-true s t same in inl (subst (λ i. IsOpen mid i) k (rw h.now refl))
touch_there old s x e mid y t false apart h = h.alone.others t apart

touch_stays : (old : State) (s : ℕ) (x : Session) (e : Effect) (mid : State) (y : Session) (t : ℕ) (b : Bool) → (s == t)
    ≡ b → Touches old s x e mid y → IsOpen old t → IsOpen mid t
touch_stays old s x e mid y t true same h o = let k : s
    ≡ t = eqb-true s t same in subst (λ i. IsOpen mid i) k (rw h.now refl)
touch_stays old s x e mid y t false apart h o = alike_open AnyCause (session_of old t) (session_of mid t)
    (h.others t apart) o

nothing_gone : (none : Bytes) (b : Bool) → cond b none none ≡ none
nothing_gone none true = refl
nothing_gone none false = refl

touch_moves : (old : State) (event : Event) (s : ℕ) (x : Session) (e : Effect) (mid : State) (y : Session) (t : ℕ)
    → gone_by t event ≡ [] → Touches old s x e mid y → y.pending ≡ x.pending → Moves old event e mid t
touch_moves old event s x e mid y t none h same = record {
  pending = ap (λ g. g ++ pending_of mid t) (none ∙ sym (nothing_gone [] (s == t)))
      ∙ touch_pending old s x e mid y [] t (s == t) refl h same;
  there = touch_there old s x e mid y t (s == t) refl h;
  stays = λ k o. touch_stays old s x e mid y t (s == t) refl h o;
}

-- a session that opens
fresh_pending : (s t : ℕ) (xs : List Session) → pending_in (find (λ (x : Session). x.id == t) (xs ++ fresh s ∷ []))
    ≡ pending_in (find (λ (x : Session). x.id == t) xs)
fresh_pending s t [] = fresh_at (s == t)
  where
    fresh_at : (b : Bool) → pending_in (cond b (Some (fresh s)) None) ≡ []
    fresh_at true = refl
    fresh_at false = refl
fresh_pending s t (x ∷ xs) = first_or (x.id == t) (fresh_pending s t xs)
  where
    first_or : (b : Bool) → pending_in (find (λ (y : Session). y.id == t) (xs ++ fresh s ∷ []))
        ≡ pending_in (find (λ (y : Session). y.id == t) xs)
        → pending_in (cond b (Some x) (find (λ (y : Session). y.id == t) (xs ++ fresh s ∷ [])))
        ≡ pending_in (cond b (Some x) (find (λ (y : Session). y.id == t) xs))
    first_or true h = refl
    first_or false h = h

opened_open : (s t : ℕ) (xs : List Session) → IsSome (find (λ (x : Session). x.id == t) xs)
    → IsSome (find (λ (x : Session). x.id == t) (xs ++ fresh s ∷ []))
opened_open s t [] h = absurd cc
opened_open s t (x ∷ xs) h = first_or (x.id == t) (opened_open s t xs) h
  where
    first_or : (b : Bool)
        → (IsSome (find (λ (y : Session). y.id == t) xs)
        → IsSome (find (λ (y : Session). y.id == t) (xs ++ fresh s ∷ [])))
        → IsSome (cond b (Some x) (find (λ (y : Session). y.id == t) xs))
        → IsSome (cond b (Some x) (find (λ (y : Session). y.id == t) (xs ++ fresh s ∷ [])))
    first_or true k o = refl
    first_or false k o = k o

opened_moves : (old : State) (s : ℕ) (e : Effect) (mid : State) (t : ℕ) → e ≡ nothing
    → ((length old.sessions < SESSIONS) × (mid ≡ record old { sessions = old.sessions ++ fresh s ∷ [] })) ⊎ (mid ≡ old)
    → Moves old (opened s) e mid t
opened_moves old s e mid t none (inl h) = record {
  pending = ap (λ st. pending_of st t) h.1 ∙ fresh_pending s t old.sessions;
  there = inr (ap (λ (d : Effect). to_session t d.queued) none);
  stays = λ k o. subst (λ (st : State). IsOpen st t) (sym h.1) (opened_open s t old.sessions o);
}
opened_moves old s e mid t none (inr h) = record {
  pending = ap (λ st. pending_of st t) h;
  there = inr (ap (λ (d : Effect). to_session t d.queued) none);
  stays = λ k o. subst (λ (st : State). IsOpen st t) (sym h) o;
}

-- a session that closes
pub gone_same : (s : ℕ) (xs : List Session)
    → find (λ (x : Session). x.id == s) (filter (λ (x : Session). not (x.id == s)) xs) ≡ None
gone_same s [] = refl
gone_same s (x ∷ xs) = gone_at (x.id == s) refl (gone_same s xs)
  where
    gone_at : (b : Bool) → (x.id == s) ≡ b
        → find (λ (y : Session). y.id == s) (filter (λ (y : Session). not (y.id == s)) xs) ≡ None
        → find (λ (y : Session). y.id == s)
        (cond (not b) (x ∷ filter (λ (y : Session). not (y.id == s)) xs)
        (filter (λ (y : Session). not (y.id == s)) xs)) ≡ None
    gone_at true e h = h
    gone_at false e h = rw e h

pub others_stay : (s t : ℕ) (xs : List Session) → (s == t) ≡ false
    → find (λ (x : Session). x.id == t) (filter (λ (x : Session). not (x.id == s)) xs)
    ≡ find (λ (x : Session). x.id == t) xs
others_stay s t [] apart = refl
others_stay s t (x ∷ xs) apart = stay_at (x.id == s) refl (others_stay s t xs apart)
  where
    other : (x.id == s) ≡ true → (x.id == t) ≡ false
    other e = let k : x.id ≡ s = eqb-true x.id s e in rw k apart

    stay_at : (b : Bool) → (x.id == s) ≡ b
        → find (λ (y : Session). y.id == t) (filter (λ (y : Session). not (y.id == s)) xs)
        ≡ find (λ (y : Session). y.id == t) xs
        → find (λ (y : Session). y.id == t)
        (cond (not b) (x ∷ filter (λ (y : Session). not (y.id == s)) xs)
        (filter (λ (y : Session). not (y.id == s)) xs))
        ≡ cond (x.id == t) (Some x) (find (λ (y : Session). y.id == t) xs)
    stay_at true e h = let k = other e in rw k h
    stay_at false e h = ap (λ o. cond (x.id == t) (Some x) o) h

closed_pending : (old : State) (s : ℕ) (bytes : Bytes) (mid : State) (t : ℕ) (x : Session) (b : Bool) → (s == t) ≡ b
    → session_of old s ≡ Some x → x.pending ≡ bytes
    → mid ≡ record old { sessions = filter (λ (y : Session). not (y.id == s)) old.sessions }
    → cond b bytes [] ++ pending_of mid t ≡ pending_of old t
closed_pending old s bytes mid t x true same found all after =
    let k : s ≡ t = eqb-true s t same in
    ap (λ i. bytes ++ pending_of mid i) (sym k)
    ∙ ap (λ p. bytes ++ p) (ap (λ st. pending_of st s) after ∙ ap pending_in (gone_same s old.sessions))
    ∙ append-nil bytes ∙ sym all ∙ sym (ap pending_in found) ∙ ap (λ i. pending_of old i) k
closed_pending old s bytes mid t x false apart found all after =
    ap (λ st. pending_of st t) after ∙ ap pending_in (others_stay s t old.sessions apart)

pub acts_moves : (old : State) (event : Event) (e : Effect) (mid : State) → Acts old event e mid → (t : ℕ)
    → Moves old event e mid t
acts_moves old (opened s) e mid h t = opened_moves old s e mid t h.0 h.2
acts_moves old (fed s bytes) e mid h t =
    let f = some_there (session_of old s) (λ x. FedStep old s bytes x e mid) h in
    let k = is_fed old s bytes f.0 e mid f.1 f.2 in
    touch_moves old (fed s bytes) s f.0 e mid k.session t refl k.touches k.pending
acts_moves old (stepped s outcome) e mid h t =
    let f = some_there (session_of old s) (λ x. (x.cause ≡ None) × FrontStep old s x outcome e mid) h in
    let k = is_stepped old s f.0 outcome e mid f.1 f.2.0 f.2.1 in
    touch_moves old (stepped s outcome) s f.0 e mid k.session t refl k.touches k.pending
acts_moves old (took s bytes) e mid h t =
    let f = some_there (session_of old s) (λ x. TookStep old s bytes x e mid) h in
    let k = is_taken old s bytes f.0 e mid f.1 f.2 in
    record {
      pending = touch_pending old s f.0 e mid k.session bytes t (s == t) refl k.touches (sym k.pending);
      there = touch_there old s f.0 e mid k.session t (s == t) refl k.touches;
      stays = λ _ o. touch_stays old s f.0 e mid k.session t (s == t) refl k.touches o;
    }
acts_moves old (ended s) e mid h t =
    let f = some_there (session_of old s) (λ x. EndedStep old s x e mid) h in
    let k = is_ended old s f.0 e mid f.1 f.2 in
    touch_moves old (ended s) s f.0 e mid k.session t refl k.touches k.pending
acts_moves old (closed s bytes) e mid h t =
    let f = some_there (session_of old s) (λ x. x.pending ≡ bytes) h.1 in
    record {
      pending = closed_pending old s bytes mid t f.0 (s == t) refl f.1 f.2 h.2;
      there = inr (ap (λ (d : Effect). to_session t d.queued) h.0);
      stays = λ apart o. let found : session_of mid t ≡ session_of old t = ap (λ st. session_of st t) h.2
          ∙ others_stay s t old.sessions apart in rw found o;
    }

-- a session that is open stays so in any step that doesn't close it
pub step_open : (old : State) (event : Event) (e : Effect) (new : State) → Step old event e new → (t : ℕ)
    → SparesSession event t → IsOpen old t → IsOpen new t
step_open old event e new h t k o = stepped_open old event e new h t ((acts_moves old event e h.mid h.acts t).stays k o)

-- what is gone of a session's bytes in a step and what is pending then is what was pending and what was queued
queued_pending : (old : State) (event : Event) (e : Effect) (new : State) (h : Step old event e new) (t : ℕ)
    → IsOpen h.mid t ⊎ (to_session t e.queued ≡ [])
    → pending_of new t ≡ pending_of h.mid t ++ to_session t e.queued
queued_pending old event e new h t (inl o) = stepped_pending old event e new h t o
queued_pending old event e new h t (inr none) =
    ap pending_in (stepped_session old event e new h t) ∙ gained (session_of h.mid t) (to_session t e.queued) none
    ∙ sym (append-nil (pending_of h.mid t)) ∙ ap (λ bytes. pending_of h.mid t ++ bytes) (sym none)
  where
    gained : (o : Option Session) (bytes : Bytes) → bytes ≡ [] → pending_in (option_map (gaining bytes) o)
        ≡ pending_in o
    gained None bytes none = refl
    gained (Some x) bytes none = ap (λ q. x.pending ++ q) none ∙ append-nil x.pending

pub step_bytes : (old : State) (event : Event) (e : Effect) (new : State) → Step old event e new → (t : ℕ)
    → gone_by t event ++ pending_of new t ≡ pending_of old t ++ to_session t e.queued
step_bytes old event e new h t =
    let m = acts_moves old event e h.mid h.acts t in
    ap (λ p. gone_by t event ++ p) (queued_pending old event e new h t m.there)
    ∙ sym (append_assoc (gone_by t event) (pending_of h.mid t) (to_session t e.queued))
    ∙ ap (λ p. p ++ to_session t e.queued) m.pending

-- along any run
pub run_bytes : SentBytes
run_bytes t old [] new w = let e : new ≡ old = w in ap (λ st. pending_of st t) e ∙ sym (append-nil (pending_of old t))
run_bytes t old (d ∷ done) new w =
    let gone = gone_by t d.event in
    let queued = to_session t (d.effect).queued in
    append_assoc gone (all_gone t done) (pending_of new t)
    ∙ ap (λ p. gone ++ p) (run_bytes t w.0 done new w.2)
    ∙ sym (append_assoc gone (pending_of w.0 t) (out t done))
    ∙ ap (λ p. p ++ out t done) (step_bytes old d.event d.effect w.0 w.1 t)
    ∙ append_assoc (pending_of old t) queued (out t done)

-- under `run` nothing is closed
next_taken : (st : State) (event : Event) → MayRun st event → gone_by 1 event ≡ taken_from 1 event
next_taken st (opened s) h = refl
next_taken st (fed s bytes) h = refl
next_taken st (stepped s outcome) h = refl
next_taken st (took s bytes) h = refl
next_taken st (ended s) h = refl
next_taken st (closed s bytes) h = absurd h

pub gone_taken : (old : State) (done : List Did) (new : State) → Walk RunNext old done new → all_gone 1 done
    ≡ all_taken 1 done
gone_taken old [] new w = refl
gone_taken old (d ∷ done) new w = ap (λ g. g ++ all_gone 1 done) (next_taken old d.event w.1.0)
    ∙ ap (λ g. taken_from 1 d.event ++ g) (gone_taken w.0 done new w.2)

pub next_runs : (old : State) (done : List Did) (new : State) → Walk RunNext old done new → Run old done new
next_runs old done new w = walk_as RunNext (λ (o : State) (d : Did) (n : State). Step o d.event d.effect n)
    (λ o d n h. h.1) old done new w
