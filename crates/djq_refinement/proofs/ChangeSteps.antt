-- A change of rows, accepted or not, for each client of the core.
use Rattle.std.specs.Prelude.{ℕ, List, [], ◌∷◌, ◌==◌, ◌≡◌, ◌⊎◌, Bool, true, false, cond, Option, None}
use Rattle.std.specs.Prelude.{Some, is_some, MatchOption, IsSomeAnd, map}
use Rattle.std.specs.List.{list_any}
use Rattle.std.specs.Option.{option_map}
use Rattle.std.proofs.Common.{refl, sym, ap, ◌∙◌, subst, inl, inr}
use Rattle.djq_model.specs.Data.{Bytes, bytes_eq}
use Rattle.djq_model.specs.Listed.{Listed, listed_of}
use Rattle.djq_protocol.specs.declared.answer.EndCause.{EndCause}
use Rattle.djq_protocol.specs.declared.answer.EndCause.TheVariants.{Memory}
use Rattle.djq_protocol.specs.Reply.{end_memory}
use Rattle.djq_store_spec.specs.Store.{Store, Position, open_at, stale as stale_since}
use Rattle.djq_store_spec.specs.Stale.{outdated, outdater_of}
use Rattle.djq_store_spec.specs.Changes.{RowsChange, RowsOutcome, is_made, tried, is_outdated}
use Rattle.djq_answer_laws.proofs.Lists.{some_there}
use Rattle.djq_machine.specs.State.{Cursor, Session, State, session_of, cursor_of}
use Rattle.djq_machine.specs.Effect.{Effect}
use Rattle.djq_machine.specs.Run.{Walk}
use Rattle.djq_machine.specs.Outdating.{outdated_cursor, changed}
use Rattle.djq_machine.specs.Watch.{Telling, says_more, ends_more, RepliesLast, TellsDelta, ChangeStep}
use Rattle.djq_run_laws.proofs.Lists.{find_mapped, beginning}
use Rattle.djq_abstract.specs.Clients.{nobody, overtaken, client_overtaken}
use Rattle.djq_refinement.specs.View.{cursor_state, cursor_seen, client_by, client_in}
use Rattle.djq_refinement.proofs.Clients.{client_path}

-- ---- cursors over affected queries become stale

-- which queries a change affects
abbrev pub affects : List Listed → RowsChange → Bytes → Bool
affects queries change n = is_some (outdater_of queries change.outdater n)

pub affects_found : (queries : List Listed) (change : RowsChange) (n : Bytes) (q : Listed) → listed_of queries n ≡ Some q
    → affects queries change n ≡ is_outdated change q
affects_found queries change n q found = rw found refl

stale_state : (q : Bytes) (o : Option Bytes) (n : ℕ) (p : Position)
    → Some (cursor_state q (outdated o n p)) ≡ overtaken (λ m. is_some o) (Some (cursor_state q p))
stale_state q None n (open_at given finished) = refl
stale_state q None n (stale_since r m) = refl
stale_state q (Some r) n (open_at given finished) = refl
stale_state q (Some r) n (stale_since k m) = refl

-- what is overtaken of a cursor is asked of its query alone
overtaken_of : (f : Bytes → Bool) (q : Bytes) (p : Position)
    → overtaken (λ m. f q) (Some (cursor_state q p)) ≡ overtaken f (Some (cursor_state q p))
overtaken_of f q (open_at given finished) = refl
overtaken_of f q (stale_since r m) = refl

stale_cursor : (queries : List Listed) (change : RowsChange) (n : ℕ) (o : Option Cursor)
    → option_map cursor_seen (option_map (outdated_cursor queries change.outdater n) o)
    ≡ overtaken (affects queries change) (option_map cursor_seen o)
stale_cursor queries change n None = refl
stale_cursor queries change n (Some k) =
    stale_state k.query (outdater_of queries change.outdater k.query) n k.position
    ∙ overtaken_of (affects queries change) k.query k.position

-- a session behind a change
abbrev pub behind_change : State → RowsChange → ℕ → Session → Session
behind_change old change n y = record y
    { cursors = map (outdated_cursor old.store.queries change.outdater n) y.cursors }

stale_client : (old : State) (change : RowsChange) (n : ℕ) (c : Option EndCause) (y : Session)
    → client_by c (behind_change old change n y) ≡ client_overtaken (affects old.store.queries change) (client_by c y)
stale_client old change n (Some cause) y = refl
stale_client old change n None y =
    client_path (client_by None (behind_change old change n y))
    (client_overtaken (affects old.store.queries change) (client_by None y)) refl
    (λ c. ap (λ o. option_map cursor_seen o) (find_mapped (λ (k : Cursor). bytes_eq k.name c)
    (outdated_cursor old.store.queries change.outdater n) (λ k. refl) y.cursors)
    ∙ stale_cursor old.store.queries change n (cursor_of y.cursors c)) (λ q. refl) refl

pub found_behind : (old : State) (change : RowsChange) (store : Store) (t : ℕ)
    → session_of (changed old (Some change) store) t ≡ option_map (behind_change old change store.seq) (session_of old t)
found_behind old change store t =
    find_mapped (λ (y : Session). y.id == t) (behind_change old change store.seq) (λ y. refl) old.sessions

pub overtaken_client : (old : State) (change : RowsChange) (store : Store) (t : ℕ)
    → client_in (session_of (changed old (Some change) store) t)
    ≡ client_overtaken (affects old.store.queries change) (client_in (session_of old t))
overtaken_client old change store t = ap client_in (found_behind old change store t) ∙ by (session_of old t)
  where
    by : (o : Option Session) → client_in (option_map (behind_change old change store.seq) o)
        ≡ client_overtaken (affects old.store.queries change) (client_in o)
    by None = refl
    by (Some y) = stale_client old change store.seq y.cause y

-- ---- a change that isn't made

pub nobody_connected : (o : Option Session) → (client_in o).connected ≡ false → client_in o ≡ nobody
nobody_connected None k = refl
nobody_connected (Some y) k = by y.cause k
  where
    by : (c : Option EndCause) → (client_by c y).connected ≡ false → client_by c y ≡ nobody
    by None i = absurd cc
    by (Some cause) i = refl

-- Nothing but the reply is queued, to the session that said the command.
pub record IsQuietChange (old : State) (s : ℕ) (o : Option RowsChange) (store : Store) (reply : Bytes) (e : Effect)
    (new : State) : Type 0 where
  pub queued : e.queued ≡ (s, reply) ∷ []
  pub state : new ≡ changed old o store

-- the session that said it is there behind the change
author_behind : (old : State) (o : Option RowsChange) (store : Store) (s : ℕ) (x : Session) → session_of old s ≡ Some x
    → x.cause ≡ None → IsSomeAnd (session_of (changed old o store) s) (λ y. y.cause ≡ None)
author_behind old None store s x found runs = rw found runs
author_behind old (Some change) store s x found runs =
    subst (λ p. IsSomeAnd p (λ (y : Session). y.cause ≡ None))
    (sym (found_behind old change store s ∙ ap (λ p. option_map (behind_change old change store.seq) p) found)) runs

pub quiet_change : (old : State) (s : ℕ) (x : Session) (outcome : RowsOutcome) (store : Store) (reply : Bytes)
    (e : Effect) (new : State) → session_of old s ≡ Some x → x.cause ≡ None → is_made outcome ≡ false
    → ChangeStep old s outcome store reply e new → IsQuietChange old s (tried outcome) store reply e new
quiet_change old s x outcome store reply e new found runs unmade h = by (f.0).cause (ap (λ (y : Session). y.cause) same ∙ a.2) f.2
  where
    start : Telling
    start = beginning old outcome store

    told : h.told ≡ start
    told = walked (is_made outcome) unmade h.tells
      where
        walked : (b : Bool) → b ≡ false → Walk
            (TellsDelta store.seq) start (cond b h.deltas []) h.told → h.told ≡ start
        walked true k w = absurd cc
        walked false k w = w

    a : (y : Session) × (session_of start.state s ≡ Some y) × (y.cause ≡ None)
    a = some_there (session_of start.state s) (λ y. y.cause ≡ None)
        (author_behind old (tried outcome) store s x found runs)

    f : (y : Session) × (session_of start.state s ≡ Some y) × MatchOption y.cause
        ((h.last ≡ says_more s reply start) ⊎ ((list_any (λ part. part.0 == s) start.queued ≡ true)
        × (h.last ≡ ends_more s end_memory Memory start)))
        (λ c. h.last ≡ start)
    f = some_there (session_of start.state s) _ (subst (λ (m : Telling). RepliesLast s reply m h.last) told h.replies)

    some_same : (o : Option Session) (y z : Session) → o ≡ Some y → o ≡ Some z → y ≡ z
    some_same o y z i j = cc

    same : f.0 ≡ a.0
    same = some_same (session_of start.state s) f.0 a.0 f.1 a.1

    by : (c : Option EndCause) → c ≡ None → MatchOption c
        ((h.last ≡ says_more s reply start) ⊎ ((list_any (λ part. part.0 == s) start.queued ≡ true)
        × (h.last ≡ ends_more s end_memory Memory start)))
        (λ c. h.last ≡ start) → IsQuietChange old s (tried outcome) store reply e new
    by (Some c) k m = absurd cc
    by None k (inr m) = absurd cc
    by None k (inl m) = record {
      queued = h.queued ∙ ap (λ (n : Telling). n.queued) m;
      state = h.state ∙ ap (λ (n : Telling). n.state) m;
    }
