-- Each state that the machine comes to is sound.
use Rattle.std.specs.Prelude.{ℕ, List, [], ◌∷◌, ◌==◌, ◌≡◌, ◌≢◌, ◌<◌, ◌≤◌, ◌+◌, ◌++◌, ◌⊎◌, Bool, true, false, not, cond}
use Rattle.std.specs.Prelude.{length, filter, Option, None, Some, is_some, IsSome, IfSome, MatchOption, option_map, map}
use Rattle.std.specs.Prelude.{All, AllPairs}
use Rattle.std.specs.List.{list_any, slice_index_or}
use Rattle.std.proofs.Common.{refl, sym, ap, ◌∙◌, subst, inl, inr, arith}
use Rattle.std.proofs.lemmas.List.{length-map, length-append}
use Rattle.std.proofs.lemmas.List.Elements.{All-nil, All-push, All-weaker, All-filter}
use Rattle.std.proofs.lemmas.Bool.{or_parts}
use Rattle.djq_model.specs.declared.relation.Relation.{Relation}
use Rattle.djq_model.specs.Known.{all_learned}
use Rattle.djq_model.specs.Data.{Bytes, bytes_eq, drop_first}
use Rattle.djq_model.specs.Listed.{Listed, listed_name, listed_of}
use Rattle.djq_protocol.specs.declared.limits.TheConstants.{SESSIONS, CURSORS}
use Rattle.djq_protocol.specs.declared.answer.EndCause.{EndCause}
use Rattle.djq_protocol.specs.declared.answer.EndCause.TheVariants.{Input, Memory}
use Rattle.djq_protocol.specs.declared.command.Command.{Command}
use Rattle.djq_protocol.specs.declared.command.Command.TheVariants.{Add, Del, Done}
use Rattle.djq_protocol.specs.Grammar.{says_command, reading_of}
use Rattle.djq_protocol.specs.Reply.{end_memory}
use Rattle.djq_store_spec.specs.Store.{Store, Position, open_at, stale}
use Rattle.djq_store_spec.specs.Stale.{outdated, outdater_of}
use Rattle.djq_store_spec.specs.Changes.{RowsChange, RowsOutcome, tried}
use Rattle.djq_store_spec.specs.Held.{HeldLine, HeldTransaction, nothing_held, holding}
use Rattle.djq_store_spec.specs.Transaction.{suit_refusal}
use Rattle.djq_answer_laws.proofs.Lists.{some_there}
use Rattle.djq_answer_laws.proofs.Choices.{none_any}
use Rattle.djq_machine.specs.State.{State, Session, Cursor, fresh, session_of, with_session, with_position, ended_by}
use Rattle.djq_machine.specs.Outdating.{outdated_cursor, changed}
use Rattle.djq_machine.specs.Watch.{is_watching, Telling, ChangeStep}
use Rattle.djq_machine.specs.Effect.{Effect, nothing, EndsWith, queue, queue_all}
use Rattle.djq_machine.specs.Command.{uses, with_cursor, with_watch, without_watch, with_batch, without_batch}
use Rattle.djq_machine.specs.LineStep.{LineOutcome, long, blank, slow, no_room, run, ReadStep, FrontStep, behind_line}
use Rattle.djq_machine.specs.Step.{Event, opened, fed, stepped, took, ended, closed, FedStep, TookStep, EndedStep, Acts}
use Rattle.djq_machine.specs.Step.{with_relations, Step}
use Rattle.djq_machine.specs.Run.{Did}
use Rattle.djq_machine.proofs.Relations.{walk_keeps}
use Rattle.djq_run_laws.specs.Sound.{IsSoundListed, IsConnex, AreApart, IsSoundStore, IsSoundRelation, GaveOnce}
use Rattle.djq_run_laws.specs.Sound.{IsSoundCursor, IsHeldBySaying, IsSoundBatch, IsSoundSession, IsSoundState, IsStart}
use Rattle.djq_run_laws.specs.Sound.{AreWithinLimits, RunsKeepSound, OpeningIsStart, StatesAreSound}
use Rattle.djq_run_laws.specs.Form.{form_of, Form, asking, storing, turning, changing, ending, Turn, opens_cursor}
use Rattle.djq_run_laws.specs.Form.{moves_cursor, closes_cursor, starts_watching, stops_watching, opens_batch}
use Rattle.djq_run_laws.specs.Form.{holds_line, closes_batch, RowCommand, row_comes, row_goes, carries_out, Replied}
use Rattle.djq_run_laws.specs.Form.{is_whole, is_cut, Stored, learns_texts, listed_texts, makes_relation, registers}
use Rattle.djq_run_laws.specs.Form.{drops_query, in_use, without_cursor, SessionTurned, RowsChanged, DoesTurn}
use Rattle.djq_run_laws.specs.Form.{is_turned, is_refused, FormDoes}
use Rattle.djq_run_laws.proofs.Forms.{command_does, Reads, turned_down, carried_out, line_reads}
use Rattle.djq_run_laws.proofs.RowCommands.{RowsSuit, made_queries, made_types, SuitsStill, types_suit, types_moved}
use Rattle.djq_run_laws.proofs.RowCommands.{more_suits, batch_still, held_more}
use Rattle.djq_run_laws.proofs.Batches.{closing, begun, rows_do}
use Rattle.djq_run_laws.proofs.Lists.{change_keeps, session_changed, all_changed, all_found, all_dropped, all_mapped}
use Rattle.djq_run_laws.proofs.Lists.{nothing_apart, pairs_push, pairs_dropped, other_name, names_push, names_changed}
use Rattle.djq_run_laws.proofs.Lists.{names_dropped, names_mapped, long_changed}
use Rattle.djq_run_laws.proofs.Sessions.{step_rises, acts_ids, queued_ids}
use Rattle.djq_run_laws.proofs.Cursors.{found_in_front, dropped_query}
use Rattle.djq_run_laws.proofs.SoundStores.{stored_sound, made_sound, moved_store, one_place, one_dropped, as_many}

abbrev IsNamed : Cursor → Bytes
IsNamed c = c.name

-- Sessions.
ended_session : (store : Store) (cause : EndCause) (x : Session) → IsSoundSession store (ended_by cause x)
ended_session store cause x = record {
  cursors = All-nil (IsSoundCursor store.queries);
  names = nothing_apart (λ a b. a ≢ b);
  few = omega arith;
  registered = All-nil (λ w. IsSome (listed_of store.queries w));
  once = nothing_apart (λ a b. a ≢ b);
  batch = tt;
  ended = λ h. (refl, refl, refl);
}

-- a session that goes on
going : (x : Session) → x.cause ≡ None → {P : Type 0} → IsSome x.cause → P
going x none h = absurd (cc (none, h))

-- A query that is registered is so for each name.
some_kept : (qs ps : List Listed) (name : Bytes) (o : Option Listed) → listed_of qs name ≡ o
    → ((q : Listed) → listed_of qs name ≡ Some q → listed_of ps name ≡ Some q)
    → IsSome (listed_of qs name) → IsSome (listed_of ps name)
some_kept qs ps name None e keeps h = absurd (cc (e, h))
some_kept qs ps name (Some q) e keeps h = ap is_some (keeps q e)

-- A session stays sound over another store, where what is registered is so still, and what suits
-- suits still.
another_store : (old new : Store) (x : Session)
    → ((name : Bytes) → IsSome (listed_of old.queries name) → IsSome (listed_of new.queries name))
    → SuitsStill old new → IsSoundSession old x → IsSoundSession new x
another_store old new x keeps still g = record {
  cursors = All-weaker (IsSoundCursor old.queries) (IsSoundCursor new.queries)
      (λ c k. record { registered = keeps c.query k.registered; once = k.once }) x.cursors g.cursors;
  names = g.names;
  few = g.few;
  registered = All-weaker (λ w. IsSome (listed_of old.queries w)) (λ w. IsSome (listed_of new.queries w))
      (λ w k. keeps w k) x.watches g.registered;
  once = g.once;
  batch = batch_still old new still x.batch g.batch;
  ended = g.ended;
}

all_another : (old new : Store) (xs : List Session)
    → ((name : Bytes) → IsSome (listed_of old.queries name) → IsSome (listed_of new.queries name))
    → SuitsStill old new → All (IsSoundSession old) xs → All (IsSoundSession new) xs
all_another old new xs keeps still h =
    All-weaker (IsSoundSession old) (IsSoundSession new) (λ x g. another_store old new x keeps still g) xs h

same_registered : (old new : Store) → new.queries ≡ old.queries → (name : Bytes) → IsSome (listed_of old.queries name)
    → IsSome (listed_of new.queries name)
same_registered old new e name h = subst (λ (qs : List Listed). IsSome (listed_of qs name)) (sym e) h

in_front : (qs : List Listed) (q : Listed) (name : Bytes) → IsSome (listed_of qs name)
    → IsSome (listed_of (qs ++ q ∷ []) name)
in_front qs q name h = some_kept qs (qs ++ q ∷ []) name (listed_of qs name) refl (λ f e. found_in_front qs q name f e) h

-- A session with a batch, and one whose batch is closed.
batch_kept : (store : Store) (x : Session) (held : HeldTransaction) → x.cause ≡ None → IsSoundBatch store held
    → IsSoundSession store x → IsSoundSession store (with_batch held x)
batch_kept store x held runs sound g = record {
  cursors = g.cursors;
  names = g.names;
  few = g.few;
  registered = g.registered;
  once = g.once;
  batch = sound;
  ended = λ h. going x runs h;
}

closed_kept : (store : Store) (x : Session) → IsSoundSession store x → IsSoundSession store (without_batch x)
closed_kept store x g = record {
  cursors = g.cursors;
  names = g.names;
  few = g.few;
  registered = g.registered;
  once = g.once;
  batch = tt;
  ended = λ h. let all = g.ended h in (all.0, all.1, refl);
}

closing_kept : (c : RowCommand) (store : Store) (x : Session) → IsSoundSession store x
    → IsSoundSession store (closing c x)
closing_kept (row_comes name row) store x g = g
closing_kept (row_goes name row) store x g = g
closing_kept (carries_out held given) store x g = closed_kept store x g

-- The store and the sessions.
abbrev pub AreKept : State → Type 0
AreKept st = IsSoundStore st.store × All (IsSoundSession st.store) st.sessions

same_kept : (old new : State) → new ≡ old → AreKept old → AreKept new
same_kept old new e k = subst AreKept (sym e) k

session_kept : (old new : State) (s : ℕ) (f : Session → Session) → new ≡ with_session old s f
    → ((x : Session) → session_of old s ≡ Some x → IsSoundSession old.store x → IsSoundSession old.store (f x))
    → AreKept old → AreKept new
session_kept old new s f after keeps k =
    subst AreKept (sym after) (
      k.0,
      all_changed (IsSoundSession old.store) (λ (x : Session). x.id == s) f old.sessions k.1 keeps,
    )

ends_kept : (old : State) (s : ℕ) (cause : EndCause) (new : State) → new ≡ with_session old s (ended_by cause)
    → AreKept old → AreKept new
ends_kept old s cause new after k = session_kept old new s (ended_by cause) after
    (λ x found g. ended_session old.store cause x) k

-- a change of the session that says a command
session_runs : (old new : State) (s : ℕ) (x : Session) (f : Session → Session) → session_of old s ≡ Some x
    → new ≡ with_session old s f
    → (IsSoundSession old.store x → IsSoundSession old.store (f x)) → AreKept old → AreKept new
session_runs old new s x f found after keeps k =
    session_kept old new s f after
    (λ y here g. let same : x ≡ y = same_found (session_of old s) x y found here in
    subst (λ (z : Session). IsSoundSession old.store (f z)) same
    (keeps (subst (λ (z : Session). IsSoundSession old.store z) (sym same) g))) k
  where
    same_found : (o : Option Session) (y z : Session) → o ≡ Some y → o ≡ Some z → y ≡ z
    same_found o y z e f = cc

-- a change of one that leaves what is said of it
others_stay : (old new : State) (s : ℕ) (f : Session → Session) → ((x : Session) → (f x).cursors ≡ x.cursors)
    → ((x : Session) → (f x).watches ≡ x.watches) → ((x : Session) → (f x).batch ≡ x.batch)
    → ((x : Session) → (f x).cause ≡ x.cause) → new ≡ with_session old s f → AreKept old → AreKept new
others_stay old new s f cursors watches batch cause after k =
    session_kept old new s f after (λ x found g. let qs = old.store.queries in record {
      cursors = subst (λ (cs : List Cursor). All (IsSoundCursor qs) cs) (sym (cursors x)) g.cursors;
      names = subst (λ (cs : List Cursor). AreApart (map IsNamed cs)) (sym (cursors x)) g.names;
      few = subst (λ (cs : List Cursor). length cs ≤ CURSORS) (sym (cursors x)) g.few;
      registered = subst (λ (ws : List Bytes). All (λ w. IsSome (listed_of qs w)) ws) (sym (watches x)) g.registered;
      once = subst AreApart (sym (watches x)) g.once;
      batch = subst (λ (o : Option HeldTransaction). IfSome o (IsSoundBatch old.store)) (sym (batch x)) g.batch;
      ended = λ h. let all = g.ended (subst (λ (o : Option EndCause). IsSome o) (cause x) h) in
          (cursors x ∙ all.0, watches x ∙ all.1, batch x ∙ all.2);
    }) k

-- another store, with the same queries, and with relations of the same types
store_kept : (old : State) (store : Store) (new : State) → store.queries ≡ old.store.queries
    → SuitsStill old.store store → IsSoundStore store
    → new ≡ record old { store = store } → AreKept old → AreKept new
store_kept old store new same still sound after k =
    subst AreKept (sym after)
    (sound, all_another old.store store old.sessions (same_registered old.store store same) still k.1)

-- Cursors that become stale.
once_outdated : (o : Option Bytes) (n : ℕ) (p : Position) → GaveOnce p → GaveOnce (outdated o n p)
once_outdated None n p h = h
once_outdated (Some relation) n (open_at given finished) h = tt
once_outdated (Some relation) n (stale r m) h = tt

outdated_sound : (store : Store) (qs : List Listed) (outdater : Listed → Option Bytes) (n : ℕ) (x : Session)
    → IsSoundSession store x
    → IsSoundSession store (record x { cursors = map (outdated_cursor qs outdater n) x.cursors })
outdated_sound store qs outdater n x g = record {
  cursors = all_mapped (IsSoundCursor store.queries) (IsSoundCursor store.queries) (outdated_cursor qs outdater n)
      (λ c k. record {
        registered = k.registered;
        once = once_outdated (outdater_of qs outdater c.query) n c.position
            k.once;
      }) x.cursors g.cursors;
  names = names_mapped IsNamed (outdated_cursor qs outdater n) (λ c. refl) x.cursors g.names;
  few = as_many x.cursors (map (outdated_cursor qs outdater n) x.cursors)
      (length-map x.cursors (outdated_cursor qs outdater n)) g.few;
  registered = g.registered;
  once = g.once;
  batch = g.batch;
  ended = λ h. let all = g.ended h in (
    ap (λ (cs : List Cursor). map (outdated_cursor qs outdater n) cs) all.0,
    all.1,
    all.2,
  );
}

changed_kept : (old : State) (o : Option RowsChange) (store : Store) → store.queries ≡ old.store.queries
    → SuitsStill old.store store → IsSoundStore store → AreKept old → AreKept (changed old o store)
changed_kept old None store same still sound k =
    store_kept old store (record old { store = store }) same still sound refl k
changed_kept old (Some change) store same still sound k = (
  sound,
  all_mapped (IsSoundSession old.store) (IsSoundSession store)
      (λ (x : Session). record x
      { cursors = map (outdated_cursor old.store.queries change.outdater store.seq) x.cursors })
      (λ x g. outdated_sound store old.store.queries change.outdater store.seq x
      (another_store old.store store x (same_registered old.store store same) still g)) old.sessions k.1,
)

change_kept : (old : State) (s : ℕ) (outcome : RowsOutcome) (store : Store)
    (reply : Bytes) (e : Effect) (new : State)
    → ChangeStep old s outcome store reply e new → AreKept (changed old (tried outcome) store)
    → AreKept new
change_kept old s outcome store reply e new h k =
    subst AreKept (sym h.state)
    (change_keeps (λ (m : Telling). AreKept m.state) (λ m t text there g. g)
    (λ m t text cause may there g. ends_kept m.state t cause (with_session m.state t (ended_by cause)) refl g)
    old s outcome store reply e new h k)

-- A query that no session uses is dropped.
not_used : (store : Store) (q : Bytes) (x : Session) → uses q x ≡ false → IsSoundSession store x
    → IsSoundSession (record store { queries = drop_first (λ p. bytes_eq (listed_name p) q) store.queries }) x
not_used store q x unused g =
    let qs = store.queries in
    let none = or_parts (list_any (λ (c : Cursor). bytes_eq c.query q) x.cursors) (is_watching q x) unused in
    let apart = none_any (λ (c : Cursor). bytes_eq c.query q) x.cursors none.0 in
    let unwatched = none_any (λ w. bytes_eq w q) x.watches none.1 in record {
      cursors = λ j e within. let c = slice_index_or x.cursors j e in let k = g.cursors j e within in record {
        registered = subst (λ (o : Option Listed). IsSome o) (sym (dropped_query qs q c.query (apart j e within)))
            k.registered;
        once = k.once;
      };
      names = g.names;
      few = g.few;
      registered = λ j e within. subst (λ (o : Option Listed). IsSome o)
          (sym (dropped_query qs q (slice_index_or x.watches j e) (unwatched j e within))) (g.registered j e within);
      once = g.once;
      batch = batch_still store (record store { queries = drop_first (λ (p : Listed). bytes_eq (listed_name p) q) qs })
          (λ name row h. h) x.batch g.batch;
      ended = g.ended;
    }

-- What a command of the store makes of it.
stored_kept : (old : State) (store : Store) → Stored (in_use old) old.store store → AreKept old
    → AreKept (record old { store = store })
stored_kept old store h k = (
  stored_sound (in_use old) old.store store h k.0,
  by h,
)
  where
    by : Stored (in_use old) old.store store → All (IsSoundSession store) old.sessions
    by (learns_texts h) =
        subst (λ (st : Store). All (IsSoundSession st) old.sessions) (sym h.store)
        (all_another old.store (record old.store { texts = all_learned old.store.texts h.texts }) old.sessions
        (λ name there. there) (λ name row h. h) k.1)
    by (makes_relation name types may e) =
        let more : Relation = record { name = name; types = types; rows = [] } in
        subst (λ (st : Store). All (IsSoundSession st) old.sessions) (sym e)
        (all_another old.store (record old.store { relations = old.store.relations ++ more ∷ [] }) old.sessions
        (λ name there. there) (more_suits old.store more) k.1)
    by (registers q none may place few e) =
        subst (λ (st : Store). All (IsSoundSession st) old.sessions) (sym e)
        (all_another old.store (record old.store {
          texts = all_learned old.store.texts (listed_texts q);
          queries = old.store.queries ++ q ∷ [];
        }) old.sessions (λ name there. in_front old.store.queries q name there) (λ name row h. h) k.1)
    by (drops_query q unused free e) =
        let none = none_any (uses q) old.sessions unused in
        subst (λ (st : Store). All (IsSoundSession st) old.sessions) (sym e)
        (λ i d lt. not_used old.store q (slice_index_or old.sessions i d) (none i d lt) (k.1 i d lt))

-- watches
none_watched : (q : Bytes) (ws : List Bytes) → list_any (λ w. bytes_eq w q) ws ≡ false → All (λ w. w ≢ q) ws
none_watched q ws e = All-weaker (λ w. bytes_eq w q ≡ false) (λ w. w ≢ q) (λ w k. other_name w q k) ws
    (none_any (λ w. bytes_eq w q) ws e)

watched : (qs : List Listed) (q : Bytes) (ws : List Bytes) (b : Bool) → list_any (λ w. bytes_eq w q) ws ≡ b
    → IsSome (listed_of qs q)
    → All (λ w. IsSome (listed_of qs w)) ws → AreApart ws
    → All (λ w. IsSome (listed_of qs w)) (cond b ws (ws ++ q ∷ [])) × AreApart (cond b ws (ws ++ q ∷ []))
watched qs q ws true e there all once = (all, once)
watched qs q ws false e there all once = (
  All-push (λ w. IsSome (listed_of qs w)) ws q all there,
  pairs_push
      (λ a b. a ≢ b) ws q once (none_watched q ws e),
)

-- What a session is to hold was said by its line, and lines that are carried out are its batch.
abbrev IsFor : Session → Form → Type 0
IsFor x (turning (holds_line l verb name row)) =
    IsHeldBySaying l (record { verb = verb; relation = name; row = row })
IsFor x (changing (carries_out held given)) = x.batch ≡ Some held
IsFor x _ = Unit {0}

form_for : (x : Session) (batch : Option HeldTransaction) (l : Bytes) (c : Command) → x.batch ≡ batch
    → reading_of l ≡ says_command c → IsFor x (form_of batch l c)
form_for x None l (Add name row) is said = tt
form_for x (Some held) l (Add name row) is said = record { said = said }
form_for x None l (Del name row) is said = tt
form_for x (Some held) l (Del name row) is said = record { said = said }
form_for x None l (Done given) is said = tt
form_for x (Some held) l (Done given) is said = is
form_for x batch l c is said = tt

-- What a turn makes of a session.
turned_kept : (old : State) (s : ℕ) (x : Session) (t : Turn) (new : State) → session_of old s ≡ Some x
    → x.cause ≡ None → IsFor x (turning t) → SessionTurned old s x t new → AreKept old → AreKept new
turned_kept old s x (opens_cursor c q) new found runs fits h k =
    let more : Cursor = record { name = c; query = q; position = open_at [] false } in
    session_runs old new s x (with_cursor c q) found h.2 (λ g. record {
      cursors = All-push (IsSoundCursor old.store.queries) x.cursors more g.cursors
          (record { registered = h.1; once = nothing_apart (λ a b. a ≡ b → ⊥) });
      names = names_push IsNamed x.cursors more g.names h.0;
      few = one_place x.cursors more CURSORS h.3;
      registered = g.registered;
      once = g.once;
      batch = g.batch;
      ended = λ h. going x runs h;
    }) k
turned_kept old s x (moves_cursor c) new found runs fits h k =
    let position = open_at (h.given ++ h.told) h.end in
    session_runs old new s x (λ y. record y { cursors = with_position y.cursors c position }) found h.state
    (λ g. record {
      cursors = all_changed (IsSoundCursor old.store.queries) (λ (z : Cursor). bytes_eq z.name c)
          (λ (z : Cursor). record z { position = position }) x.cursors g.cursors
          (λ z at was. record { registered = was.registered; once = h.tells.different });
      names = names_changed IsNamed (λ (z : Cursor). bytes_eq z.name c)
          (λ (z : Cursor). record z { position = position }) (λ z. refl) x.cursors g.names;
      few = as_many x.cursors (with_position x.cursors c position)
          (long_changed (λ (z : Cursor). bytes_eq z.name c) (λ (z : Cursor). record z { position = position })
          x.cursors) g.few;
      registered = g.registered;
      once = g.once;
      batch = g.batch;
      ended = λ ends. going x runs ends;
    }) k
turned_kept old s x (closes_cursor c) new found runs fits h k =
    session_runs old new s x (without_cursor c) found h
    (λ g. record {
      cursors = all_dropped (IsSoundCursor old.store.queries) (λ (d : Cursor). bytes_eq d.name c) x.cursors g.cursors;
      names = names_dropped IsNamed (λ n. bytes_eq n c) x.cursors g.names;
      few = one_dropped (λ (d : Cursor). bytes_eq d.name c) x.cursors CURSORS g.few;
      registered = g.registered;
      once = g.once;
      batch = g.batch;
      ended = λ ends. going x runs ends;
    }) k
turned_kept old s x (starts_watching q) new found runs fits h k =
    session_runs old new s x (with_watch q) found h.1 (λ g.
    let both = watched old.store.queries q x.watches (is_watching q x) refl h.0 g.registered g.once in record {
      cursors = g.cursors;
      names = g.names;
      few = g.few;
      registered = both.0;
      once = both.1;
      batch = g.batch;
      ended = λ ends. going x runs ends;
    }) k
turned_kept old s x (stops_watching q) new found runs fits h k =
    session_runs old new s x (without_watch q) found h (λ g. record {
      cursors = g.cursors;
      names = g.names;
      few = g.few;
      registered = all_dropped (λ w. IsSome (listed_of old.store.queries w)) (λ w. bytes_eq w q) x.watches g.registered;
      once = pairs_dropped (λ a b. a ≢ b) (λ w. bytes_eq w q) x.watches g.once;
      batch = g.batch;
      ended = λ ends. going x runs ends;
    }) k
turned_kept old s x opens_batch new found runs fits h k =
    session_runs old new s x (with_batch nothing_held) found h
    (λ g. batch_kept old.store x nothing_held runs (record {
      few = omega arith;
      short = omega arith;
      suit = All-nil (λ (h : HeldLine). suit_refusal old.store h.relation h.row ≡ None);
      lines = tt;
    }) g) k
turned_kept old s x (holds_line l verb name row) new found runs fits h k =
    session_runs old new s x (with_batch (holding h.held verb name row l)) found h.state
    (λ g. batch_kept old.store x (holding h.held verb name row l) runs
    (held_more old.store h.held l verb name row h.suits fits
    (subst (λ (o : Option HeldTransaction). IfSome o (IsSoundBatch old.store)) h.is g.batch)) g) k
turned_kept old s x closes_batch new found runs fits h k =
    session_runs old new s x without_batch found h (λ g. closed_kept old.store x g) k

replied_kept : (s : ℕ) (mid new : State) → Replied s mid new → AreKept mid → AreKept new
replied_kept s mid new (is_whole after) k = same_kept mid new after k
replied_kept s mid new (is_cut after) k = ends_kept mid s Memory new after k

turn_kept : (old : State) (s : ℕ) (x : Session) (t : Turn) (new : State) → session_of old s ≡ Some x
    → x.cause ≡ None → IsFor x (turning t) → DoesTurn old s x t new → AreKept old → AreKept new
turn_kept old s x t new found runs fits (is_turned h) k = turned_kept old s x t new found runs fits h k
turn_kept old s x t new found runs fits (is_refused r) k = replied_kept s old new r k

-- the rows of a batch suit, where the session is sound that has it
rows_suit : (store : Store) (x : Session) (c : RowCommand) → IsFor x (changing c) → IsSoundSession store x
    → RowsSuit store c
rows_suit store x (row_comes name row) fits g = tt
rows_suit store x (row_goes name row) fits g = tt
rows_suit store x (carries_out held given) fits g =
    (subst (λ (o : Option HeldTransaction). IfSome o (IsSoundBatch store)) fits g.batch).suit

rows_kept : (old : State) (s : ℕ) (x : Session) (c : RowCommand) (e : Effect) (new : State)
    → session_of old s ≡ Some x → IsFor x (changing c) → RowsChanged old s c e new → AreKept old → AreKept new
rows_kept old s x c e new found fits h k =
    let d = rows_do old s c e new h in
    let suit = rows_suit old.store x c fits
    (all_found (IsSoundSession old.store) (λ (y : Session). y.id == s) old.sessions x k.1 found) in
    change_kept (begun old s c) s d.outcome d.store d.reply e new d.change
    (changed_kept (begun old s c) (tried d.outcome) d.store (made_queries c old.store d.outcome d.store d.made)
    (types_suit old.store d.store (made_types c old.store d.outcome d.store d.made))
    (made_sound c old.store d.outcome d.store d.made suit k.0)
    (session_kept old (begun old s c) s (closing c) refl (λ y here g. closing_kept c old.store y g) k))

form_kept : (f : Form) (old : State) (s : ℕ) (x : Session) (e : Effect) (new : State) → session_of old s ≡ Some x
    → x.cause ≡ None → IsFor x f → FormDoes f old s x e new → AreKept old → AreKept new
form_kept asking old s x e new found runs fits h k = replied_kept s old new h.1 k
form_kept storing old s x e new found runs fits h k =
    replied_kept s (record old { store = h.1.store }) new h.1.replied (stored_kept old h.1.store h.1.stored k)
form_kept (turning t) old s x e new found runs fits h k = turn_kept old s x t new found runs fits h.1 k
form_kept (changing c) old s x e new found runs fits h k = rows_kept old s x c e new found fits h k
form_kept ending old s x e new found runs fits h k =
    ends_kept (record old { stopped = h.1.stopped }) s h.1.cause new h.1.state k

-- The front of a session's bytes.
read_kept : (old : State) (s : ℕ) (x : Session) (l : Bytes) (e : Effect) (new : State) → session_of old s ≡ Some x
    → x.cause ≡ None → ReadStep old s x l (reading_of l) e new
    → AreKept old → AreKept new
read_kept old s x l e new found runs h k = by (line_reads old s x l (reading_of l) e new h)
  where
    by : Reads old s x l (reading_of l) e new → AreKept new
    by (turned_down why because d) = same_kept old new d.1 k
    by (carried_out c is d) =
        form_kept (form_of x.batch l c) old s x e new found runs (form_for x x.batch l c refl is)
        (command_does old s x l c e new is d) k

pub without_line_kept : (old : State) (s : ℕ) (rest : Bytes) → AreKept old
    → AreKept (with_session old s (behind_line rest))
without_line_kept old s rest k = others_stay old (with_session old s (behind_line rest)) s (behind_line rest)
    (λ x. refl) (λ x. refl) (λ x. refl) (λ x. refl) refl k

front_kept : (old : State) (s : ℕ) (x : Session) (outcome : LineOutcome) (e : Effect) (new : State)
    → session_of old s ≡ Some x → x.cause ≡ None → FrontStep old s x outcome e new → AreKept old → AreKept new
front_kept old s x long e new found runs h k = ends_kept old s _ new h.1.1 k
front_kept old s x (blank l) e new found runs h k = same_kept (with_session old s (behind_line h.1.rest)) new h.1.then.1
    (without_line_kept old s h.1.rest k)
front_kept old s x (slow l) e new found runs h k = ends_kept (with_session old s (behind_line h.2.rest)) s _ new
    h.2.then.1 (without_line_kept old s h.2.rest k)
front_kept old s x (no_room l) e new found runs h k = ends_kept (with_session old s (behind_line h.2.rest)) s _ new
    h.2.then.1 (without_line_kept old s h.2.rest k)
front_kept old s x (run l) e new found runs h k =
    let rest = h.2.rest in
    let here : session_of (with_session old s (behind_line rest)) s ≡ Some (behind_line rest x) =
    session_changed old s (behind_line rest) (λ y. refl) ∙ ap (λ o. option_map (behind_line rest) o) found in
    read_kept (with_session old s (behind_line rest)) s (behind_line rest x) l e new here runs h.2.then
    (without_line_kept old s rest k)

-- The events.
fresh_sound : (store : Store) (s : ℕ) → IsSoundSession store (fresh s)
fresh_sound store s = record {
  cursors = All-nil (IsSoundCursor store.queries);
  names = nothing_apart (λ a b. a ≢ b);
  few = omega arith;
  registered = All-nil (λ w. IsSome (listed_of store.queries w));
  once = nothing_apart (λ a b. a ≢ b);
  batch = tt;
  ended = λ h. (refl, refl, refl);
}

opened_kept : (old mid : State) (s : ℕ)
    → ((length old.sessions < SESSIONS) × (mid ≡ record old { sessions = old.sessions ++ fresh s ∷ [] })) ⊎ (mid ≡ old)
    → AreKept old → AreKept mid
opened_kept old mid s (inl h) k =
    subst AreKept (sym h.1) (
      k.0,
      All-push (IsSoundSession old.store) old.sessions (fresh s) k.1 (fresh_sound old.store s),
    )
opened_kept old mid s (inr h) k = same_kept old mid h k

fed_kept : (old : State) (s : ℕ) (bytes : Bytes) (e : Effect) (mid : State) (c : Option EndCause)
    → MatchOption c
    (((e ≡ nothing) × (mid ≡ with_session old s (λ y. record y { held = y.held ++ bytes }))) ⊎ EndsWith end_memory
    Memory old s e mid)
    (λ _. (e ≡ nothing) × (mid ≡ old))
    → AreKept old → AreKept mid
fed_kept old s bytes e mid None (inl h) k = others_stay old mid s (λ y. record y { held = y.held ++ bytes }) (λ x. refl)
    (λ x. refl) (λ x. refl) (λ x. refl) h.1 k
fed_kept old s bytes e mid None (inr h) k = ends_kept old s Memory mid h.1 k
fed_kept old s bytes e mid (Some c) h k = same_kept old mid h.1 k

input_kept : (old mid : State) (s : ℕ) (P Q R : Type 0) (c : Option EndCause)
    → MatchOption c (P × Q × (mid ≡ with_session old s (ended_by Input))) (λ _. R × (mid ≡ old)) → AreKept old
    → AreKept mid
input_kept old mid s P Q R None h k = ends_kept old s Input mid h.2 k
input_kept old mid s P Q R (Some c) h k = same_kept old mid h.1 k

acts_kept : (old : State) (event : Event) (e : Effect) (mid : State) → Acts old event e mid → AreKept old → AreKept mid
acts_kept old (opened s) e mid h k = opened_kept old mid s h.2 k
acts_kept old (fed s bytes) e mid h k =
    let f = some_there (session_of old s) (λ x. FedStep old s bytes x e mid) h in
    fed_kept old s bytes e mid (f.0).cause f.2 k
acts_kept old (stepped s outcome) e mid h k =
    let f = some_there (session_of old s) (λ x. (x.cause ≡ None) × FrontStep old s x outcome e mid) h in
    front_kept old s f.0 outcome e mid f.1 f.2.0 f.2.1 k
acts_kept old (took s bytes) e mid h k =
    let f = some_there (session_of old s) (λ x. TookStep old s bytes x e mid) h in
    others_stay old mid s (λ y. record y { pending = f.2.1.0 }) (λ x. refl) (λ x. refl) (λ x. refl) (λ x. refl)
    f.2.1.2 k
acts_kept old (ended s) e mid h k =
    let f = some_there (session_of old s) (λ x. EndedStep old s x e mid) h in
    input_kept old mid s _ _ _ (f.0).cause f.2 k
acts_kept old (closed s bytes) e mid h k =
    subst AreKept (sym h.2) (
      k.0,
      All-filter (λ (x : Session). not (x.id == s)) (IsSoundSession old.store) old.sessions k.1,
    )

queued_kept : (st : State) (qs : List (ℕ × Bytes)) → AreKept st → AreKept (queue_all st qs)
queued_kept st [] k = k
queued_kept st (q ∷ qs) k =
    queued_kept (queue st q) qs (others_stay st (queue st q) q.0 (λ x. record x { pending = x.pending ++ q.1 })
    (λ x. refl) (λ x. refl) (λ x. refl) (λ x. refl) refl k)

-- How many sessions are open.
counted : (st : State) → length (map (λ (x : Session). x.id) st.sessions) ≡ length st.sessions
counted st = length-map st.sessions (λ (x : Session). x.id)

few_kept : (old mid : State) → map (λ (x : Session). x.id) mid.sessions ≡ map (λ (x : Session). x.id) old.sessions
    → length old.sessions ≤ SESSIONS → length mid.sessions ≤ SESSIONS
few_kept old mid e few = omega (arith, counted mid, counted old, ap length e, few)

few_opened : (old mid : State) (s : ℕ)
    → ((length old.sessions < SESSIONS) × (mid ≡ record old { sessions = old.sessions ++ fresh s ∷ [] })) ⊎ (mid ≡ old)
    → length old.sessions ≤ SESSIONS → length mid.sessions ≤ SESSIONS
few_opened old mid s (inl h) few =
    let long : length mid.sessions ≡ length old.sessions + 1 = ap (λ (st : State). length st.sessions) h.1
    ∙ length-append old.sessions (fresh s ∷ []) in
    omega (arith, long, h.0)
few_opened old mid s (inr h) few = subst (λ (st : State). length st.sessions ≤ SESSIONS) (sym h) few

filter_less : {A : Type 0} (p : A → Bool) (xs : List A) → length (filter p xs) ≤ length xs
filter_less p [] = omega arith
filter_less p (x ∷ xs) = by (p x) (filter_less p xs)
  where
    by : (b : Bool) → length (filter p xs) ≤ length xs
        → length (cond b (x ∷ filter p xs) (filter p xs)) ≤ length (x ∷ xs)
    by true h = omega (arith, h)
    by false h = omega (arith, h)

acts_few : (old : State) (event : Event) (e : Effect) (mid : State) → Acts old event e mid
    → length old.sessions ≤ SESSIONS → length mid.sessions ≤ SESSIONS
acts_few old (opened s) e mid h few = few_opened old mid s h.2 few
acts_few old (fed s bytes) e mid h few = few_kept old mid (acts_ids old (fed s bytes) e mid h) few
acts_few old (stepped s outcome) e mid h few = few_kept old mid (acts_ids old (stepped s outcome) e mid h) few
acts_few old (took s bytes) e mid h few = few_kept old mid (acts_ids old (took s bytes) e mid h) few
acts_few old (ended s) e mid h few = few_kept old mid (acts_ids old (ended s) e mid h) few
acts_few old (closed s bytes) e mid h few =
    let less = filter_less (λ (x : Session). not (x.id == s)) old.sessions in
    subst (λ (st : State). length st.sessions ≤ SESSIONS) (sym h.2) (omega (arith, less, few))

-- A step of the machine keeps states sound.
pub step_sound : (old : State) (event : Event) (e : Effect) (new : State) → Step old event e new → IsSoundState old
    → IsSoundState new
step_sound old event e new h g =
    let mid = h.mid in
    let acted = acts_kept old event e mid h.acts (g.store, g.sessions) in
    let moved : AreKept (with_relations mid h.relations) = (
      moved_store mid.store h.relations h.reordered acted.0,
      all_another mid.store (record mid.store { relations = h.relations }) mid.sessions (λ name there. there)
          (types_suit mid.store (record mid.store { relations = h.relations })
          (types_moved mid.store.relations h.relations h.reordered)) acted.1,
    ) in
    let kept : AreKept new = subst AreKept (sym h.queued)
    (queued_kept (with_relations mid h.relations) e.queued moved) in record {
      store = kept.0;
      sessions = kept.1;
      rising = step_rises old event e new h g.rising;
      few = few_kept (with_relations mid h.relations) new
          (ap (λ (st : State). map (λ (x : Session). x.id) st.sessions) h.queued ∙ queued_ids
          (with_relations mid h.relations) e.queued) (acts_few old event e mid h.acts g.few);
    }

pub runs_keep_sound : RunsKeepSound
runs_keep_sound old done new w g = walk_keeps (λ (o : State) (d : Did) (n : State). Step o d.event d.effect n)
    IsSoundState (λ o d n h. step_sound o d.event d.effect n h) old done new w g

pub opening_is_start : OpeningIsStart
opening_is_start = record {
  store = record {
    relations = nothing_apart (λ a b. a ≢ b);
    rows = All-nil IsSoundRelation;
    texts = nothing_apart (λ a b. a ≢ b);
    queries = nothing_apart (λ a b. a ≢ b);
    connex = All-nil IsConnex;
    listed = All-nil (IsSoundListed [] []);
    limits = All-nil AreWithinLimits;
    numbers = record {
      relations = omega arith;
      texts = omega arith;
      queries = omega arith;
      seq = omega arith;
    };
  };
  none = refl;
  going = refl;
}

-- where no session is open, the store alone is to be sound
pub start_sound : (start : State) → IsStart start → IsSoundState start
start_sound start h = record {
  store = h.store;
  sessions = subst (λ (xs : List Session). All (IsSoundSession start.store) xs) (sym h.none)
      (All-nil (IsSoundSession start.store));
  rising = subst (λ (xs : List Session). AllPairs (λ s t. s < t) (map (λ (x : Session). x.id) xs)) (sym h.none)
      (nothing_apart (λ s t. s < t));
  few = subst (λ (xs : List Session). length xs ≤ SESSIONS) (sym h.none) (omega arith);
}

pub states_are_sound : StatesAreSound
states_are_sound start h done new w = runs_keep_sound start done new w (start_sound start h)
