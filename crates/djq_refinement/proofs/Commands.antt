-- Each command but those that change rows is a command of the core.
use Rattle.std.specs.Prelude.{ℕ, List, [], ◌∷◌, ◌++◌, ◌+◌, ◌==◌, ◌≡◌, ◌↔◌, ◌||◌, Bool, true, false, cond, Option}
use Rattle.std.specs.Prelude.{None, Some, is_some, is_none, IsSome, IsSomeAnd, MatchOption, Result, Ok, Err, ⊤, codes}
use Rattle.std.specs.Prelude.{Contains, length}
use Rattle.std.specs.List.{list_any}
use Rattle.std.specs.Option.{option_map}
use Rattle.std.proofs.Common.{refl, sym, ap, ◌∙◌, subst, inl, inr, arith, length-append}
use Rattle.std.specs.Prelude.{decimal, ◌<◌, ◌≤◌}
use Rattle.std.proofs.lemmas.Fmt.{length-decimal-le_succ}
use Rattle.djq_protocol.specs.declared.limits.TheConstants.{HEAD_VARIABLES, REPLY_BYTES}
use Rattle.std.proofs.lemmas.Bool.{or_parts, eqb-true}
use Rattle.std.proofs.lemmas.List.{map-append, length-map}
use Rattle.std.proofs.lemmas.List.Elements.{All-weaker}
use Rattle.djq_model.specs.declared.relation.ColumnType.{ColumnType}
use Rattle.djq_model.specs.declared.relation.Relation.{Relation}
use Rattle.djq_model.specs.declared.query.Query.{Query}
use Rattle.djq_model.specs.Data.{Bytes, Tuple, bytes_eq, drop_first}
use Rattle.djq_model.specs.Listed.{Listed, a_query, a_union, listed_name, AnswersOf, listed_of}
use Rattle.djq_model.specs.Known.{texts_in}
use Rattle.djq_protocol.specs.declared.answer.EndCause.TheVariants.{Memory}
use Rattle.djq_protocol.specs.declared.answer.Refusal.{Refusal}
use Rattle.djq_protocol.specs.declared.answer.Refusal.TheVariants.{Taken, NoQuery, NoCursor, InUse}
use Rattle.djq_protocol.specs.declared.answer.Shape.{Shape}
use Rattle.djq_protocol.specs.declared.rest.QueryOutcome.{QueryOutcome}
use Rattle.djq_protocol.specs.declared.rest.QueryOutcome.TheVariants.{Registered, Cyclic, NotConnex}
use Rattle.djq_protocol.specs.declared.held.Verb.{Verb}
use Rattle.djq_protocol.specs.declared.held.Verb.TheVariants.{Add as Adds, Delete as Deletes}
use Rattle.djq_protocol.specs.declared.command.Command.TheVariants.{Rel, Add, Del, Query as Register, Union, Drop, Open}
use Rattle.djq_protocol.specs.declared.command.Command.TheVariants.{Next, Close, Has, Watch, Unwatch, Explain}
use Rattle.djq_protocol.specs.declared.command.Command.TheVariants.{Shape as AskShape, Batch, Abandon}
use Rattle.djq_protocol.specs.Conditions.{first_refusal, Answers, OutOfMemoryWhere}
use Rattle.djq_protocol.specs.Grammar.{Reading, says_command}
use Rattle.djq_protocol.specs.Reply.{line, numbered_line, refusal_line, ok_reply, query_reply, union_reply, has_reply, shape_reply}
use Rattle.djq_protocol.specs.Reply.{watch_reply, held_reply, text_of, end_memory}
use Rattle.djq_protocol.specs.Variables.{constants_of}
use Rattle.djq_store_spec.specs.Store.{Store, Position, open_at, stale as stale_since}
use Rattle.djq_store_spec.specs.Relations.{MakesRelation, rel_refusal}
use Rattle.djq_store_spec.specs.Registering.{RefusedLate, RegistersAs, RegistersQuery, DropsQuery, query_refusal}
use Rattle.djq_store_spec.specs.Registering.{drop_refusal, is_member, answer_steps, most_steps}
use Rattle.djq_store_spec.specs.Asking.{TellsShape, IsShapeOf, Tells, TellsWhether, has_refusal}
use Rattle.djq_store_spec.specs.Listing.{TellsAnswers}
use Rattle.djq_store_spec.specs.Union.{union_refusal, AreUnder, RegistersUnion}
use Rattle.djq_store_spec.specs.Held.{HeldLine, HeldTransaction, nothing_held, holding}
use Rattle.djq_answer_laws.proofs.Lists.{some_there, some_as, nothing_of}
use Rattle.djq_machine.specs.State.{Cursor, Session, State, session_of, with_session, cursor_of, with_position}
use Rattle.djq_machine.specs.Keeping.{is_done, is_registration}
use Rattle.djq_machine.specs.Effect.{Effect, answers, RefusedStep}
use Rattle.djq_machine.specs.Command.{RelStep, QueryStep, QueryCutStep, UnionStep, uses, DropStep, HasStep, open_refusal}
use Rattle.djq_machine.specs.Command.{with_cursor, OpensTo, OpenStep, NextStepAt, CloseStep}
use Rattle.djq_machine.specs.Command.{watch_refusal, with_watch, BecomesWhere, WatchStep, without_watch, UnwatchStep}
use Rattle.djq_machine.specs.Command.{explain_lines, TellsLines, ShapeStep, union_lines, ExplainStepOf, with_batch}
use Rattle.djq_machine.specs.Command.{without_batch, BatchStep, HoldStep, AbandonStep}
use Rattle.djq_run_laws.specs.Sound.{IsSoundSession}
use Rattle.djq_run_laws.specs.Form.{LearnsTexts, without_cursor}
use Rattle.djq_run_laws.proofs.Lists.{all_found, found_there, any_there, and_some}
use Rattle.djq_run_laws.proofs.Forms.{done_of, none_holds, none_first, none_second, refused_learned, late_learned}
use Rattle.djq_run_laws.proofs.Forms.{stays_learned, all_fail, query_conditions, within_limits}
use Rattle.djq_run_laws.proofs.SoundStates.{AreKept}
use Rattle.djq_abstract.specs.Rows.{AnswersOver}
use Rattle.djq_abstract.specs.Clients.{CursorState, valid, stale, Client, client_with_cursor}
use Rattle.djq_abstract.specs.Clients.{with_subscription, UsesQuery, overtaken, client_overtaken, CoreCommand, edit, batch}
use Rattle.djq_abstract.specs.Clients.{done, abandon, register, drop, open_cursor, next, close, has, subscribe}
use Rattle.djq_abstract.specs.Clients.{unsubscribe, ask, CoreMessage, ok, refused, not_free_connex, replied, is_answer}
use Rattle.djq_abstract.specs.Clients.{page, only_sent}
use Rattle.djq_abstract.specs.Moves.{IsPage, ReturnsPage, OnlyReplies, Accepts, MayRefuse, client_refused}
use Rattle.djq_refinement.specs.View.{client_by, client_in, core_of, core_reading, line_edit, line_edits, inserts_row}
use Rattle.djq_refinement.specs.View.{queries_under, cursor_seen, cursor_state}
use Rattle.djq_refinement.specs.Spelling.{SpellsMessage, IsExplaining, AcceptsEdit}
use Rattle.djq_refinement.proofs.Clients.{core_path, client_path, core_with, with_same, going_client, is_connected}
use Rattle.djq_refinement.proofs.Clients.{LineGoes, line_says, line_ends}
use Rattle.djq_refinement.proofs.Stores.{answer_seen, answer_back, copies_with_new, under_seen, union_admitted}
use Rattle.djq_refinement.proofs.Stores.{query_admitted, admitted_query, own_names, dropped_seen}
use Rattle.djq_refinement.proofs.Sessions.{opened_client, moved_client, closed_client, watched_client, unwatched_client}
use Rattle.djq_refinement.proofs.Sessions.{session_uses}

-- ---- cursors that no change overtakes

none_overtaken : (o : Option CursorState) → o ≡ overtaken (λ q. false) o
none_overtaken None = refl
none_overtaken (Some (valid q ts last)) = refl
none_overtaken (Some (stale q)) = refl

pub stays_client : (y : Client) → y ≡ client_overtaken (λ q. false) y
stays_client y = client_path y (client_overtaken (λ q. false) y) refl (λ c. none_overtaken (y.cursor c)) (λ q. refl) refl

-- any command may be refused
pub may_refuse : (c : CoreCommand) → MayRefuse c refused
may_refuse (edit e) = refl
may_refuse batch = refl
may_refuse done = refl
may_refuse abandon = refl
may_refuse (register q) = inl refl
may_refuse (drop q) = refl
may_refuse (open_cursor c q) = refl
may_refuse (next c k) = refl
may_refuse (close c) = refl
may_refuse (has q t) = refl
may_refuse (subscribe q) = refl
may_refuse (unsubscribe q) = refl
may_refuse ask = refl

-- a query that isn't registered changes no more than which texts are known
not_registered : (old : Store) (q : Query) (r : Refusal) (new : Store) → RegistersQuery old q (Err r) new
    → LearnsTexts old new
not_registered old q r new h =
    refused_learned (query_refusal old q) r (RegistersAs old q new) (RefusedLate old q new) old new h.answer h.stays
    (λ late. by late)
  where
    by : RefusedLate old q new r → LearnsTexts old new
    by (inl k) = late_learned old (texts_in (constants_of q)) new r k.1
    by (inr k) = stays_learned old new k.1

-- A line of a session that goes on, in a state of which the store and the sessions are sound.
module _ (old : State) (kept : AreKept old) (s : ℕ) (x : Session) (found : session_of old s ≡ Some x)
    (runs : x.cause ≡ None) where
  abbrev pub author : Client
  author = (core_of old).client s

  pub is_author : author ≡ client_by None x
  is_author = going_client old s x found runs

  pub sound_session : IsSoundSession old.store x
  sound_session = all_found (IsSoundSession old.store) (λ (y : Session). y.id == s) old.sessions x kept.1 found

  -- ---- replies

  pub accepted : (r : Reading) (e : Effect) (new : State) (c : CoreCommand) (m : CoreMessage) (text : Bytes)
      → core_reading old.store.queries r ≡ Some c
      → Accepts (core_of old) s c (only_sent s (m ∷ [])) (core_of new) → e.queued ≡ (s, text) ∷ []
      → SpellsMessage s r (core_of old) (core_of new) m text → LineGoes old s r e new
  accepted r e new c m text is does queued spelled =
      line_says old s r e new c m text is (is_connected old s x found runs, inl does) queued spelled

  pub turned_down : (r : Reading) (e : Effect) (new : State) (c : CoreCommand) (m : CoreMessage) (text : Bytes)
      → core_reading old.store.queries r ≡ Some c → MayRefuse c m → client_refused c author ≡ author
      → core_of new ≡ core_of old → e.queued ≡ (s, text) ∷ [] → SpellsMessage s r (core_of old) (core_of new) m text
      → LineGoes old s r e new
  turned_down r e new c m text is may left same queued spelled =
      line_says old s r e new c m text is (
        is_connected old s x found runs,
        inr (record {
          message = m;
          may = may;
          is_sent = refl;
          affected = λ q. false;
          becomes = same ∙ core_path (core_of old) (record (core_of old) {
            client = λ t. client_overtaken (λ q. false)
                (cond (t == s) (client_refused c author) ((core_of old).client t));
          }) (λ r t. refl) refl refl (λ t. by t (t == s) refl);
        }),
      ) queued spelled
    where
      by : (t : ℕ) (b : Bool) → (t == s) ≡ b → (core_of old).client t
          ≡ client_overtaken (λ q. false) (cond b (client_refused c author) ((core_of old).client t))
      by t true k = ap (λ i. (core_of old).client i) (eqb-true t s k) ∙ sym left
          ∙ stays_client (client_refused c author)
      by t false k = stays_client ((core_of old).client t)

  -- by a step that refuses
  pub refusing : (r : Reading) (e : Effect) (new : State) (c : CoreCommand) (why : Refusal)
      → core_reading old.store.queries r ≡ Some c → client_refused c author ≡ author
      → RefusedStep old s why e new → SpellsMessage s r (core_of old) (core_of new) refused (refusal_line why)
      → LineGoes old s r e new
  refusing r e new c why is left h spelled =
      turned_down r e new c refused (refusal_line why) is (may_refuse c) left (ap core_of h.1)
      (ap (λ (d : Effect). d.queued) h.0) spelled

  -- the session becomes another
  only_becomes : (m : CoreMessage) (f : Session → Session) (new : State) (y : Client) → ((z : Session) → (f z).id ≡ z.id)
      → (f x).cause ≡ x.cause → new ≡ with_session old s f → client_by None (f x) ≡ y
      → OnlyReplies (core_of old) s m y (only_sent s (m ∷ [])) (core_of new)
  only_becomes m f new y id cause after is = (
    refl,
    ap core_of after ∙ core_with old s f id y (ap (λ o. client_in (option_map f o)) found
        ∙ ap (λ c. client_by c (f x)) (cause ∙ runs) ∙ is),
  )

  -- it stays
  pub only_stays : (m : CoreMessage) (new : State) → core_of new ≡ core_of old
      → OnlyReplies (core_of old) s m author (only_sent s (m ∷ [])) (core_of new)
  only_stays m new same = (refl, same ∙ sym (with_same (core_of old) s author refl))

  queued_of : (e d : Effect) → e ≡ d → e.queued ≡ d.queued
  queued_of e d h = ap (λ (k : Effect). k.queued) h

  with_store : (store : Store) (new : State) → new ≡ record old { store = store } → store ≡ old.store
      → core_of new ≡ core_of old
  with_store store new after same = ap core_of after ∙ ap (λ k. core_of (record old { store = k })) same

  -- ---- commands of the store

  pub rel_goes : (name : Bytes) (types : List ColumnType) (e : Effect) (new : State)
      → RelStep old s (λ st. MakesRelation st name types) e new
      → LineGoes old s (says_command (Rel name types)) e new
  rel_goes name types e new h = by h.result h.done h.effect
    where
      by : (r : Result ⊤ Refusal) → MakesRelation old.store name types r h.store
          → e ≡ answers s (ok_reply (codes "ok") r) (is_done r) → LineGoes old s (says_command (Rel name types)) e new
      by (Err why) k said = turned_down (says_command (Rel name types)) e new ask refused (refusal_line why) refl
          (may_refuse ask) refl (with_store h.store new h.state k.stays) (queued_of e _ said) (why, refl)
      by (Ok u) k said =
          let more : Relation = record { name = name; types = types; rows = [] } in
          let after : h.store ≡ record old.store { relations = old.store.relations ++ more ∷ [] } =
          done_of (rel_refusal old.store name types) u
          (λ _. h.store ≡ record old.store { relations = old.store.relations ++ more ∷ [] }) (OutOfMemoryWhere ⊤)
          k.answer in
          accepted (says_command (Rel name types)) e new ask replied (line (codes "ok")) refl
          (only_stays replied new (ap core_of h.state ∙ ap (λ k. core_of (record old { store = k })) after
          ∙ core_path (core_of (record old {
            store = record old.store { relations = old.store.relations ++ more ∷ [] };
          })) (core_of old) (λ n row. copies_with_new old.store.relations more refl n row) refl refl (λ t. refl)))
          (queued_of e _ said) refl

  learned_core : (store : Store) → LearnsTexts old.store store → core_of (record old { store = store }) ≡ core_of old
  learned_core store h = ap (λ k. core_of (record old { store = k })) h.store

  registered_core : (store : Store) (qs : List Listed) (texts : List Bytes)
      → store ≡ record old.store { texts = texts; queries = qs }
      → core_of (record old { store = store }) ≡ record (core_of old) { queries = qs }
  registered_core store qs texts h = ap (λ k. core_of (record old { store = k })) h

  none_of : (n : Bytes) (o : Option Refusal) → cond (is_some (listed_of old.store.queries n)) (Some Taken) o ≡ None
      → listed_of old.store.queries n ≡ None
  none_of n o h = nothing_of (listed_of old.store.queries n)
      (none_first (is_some (listed_of old.store.queries n)) Taken o h)

  query_accepts : (q : Query) (most : ℕ) (store : Store) (mid : State) → mid ≡ record old { store = store }
      → RegistersQuery old.store q (Ok (Registered most)) store
      → Accepts (core_of old) s (register (a_query q)) (only_sent s (ok ∷ [])) (core_of mid)
  query_accepts q most store mid after k =
      let d = done_of (query_refusal old.store q) (Registered most) (RegistersAs old.store q store)
      (RefusedLate old.store q store) k.answer in
      let none = none_holds (query_refusal old.store q) (Registered most) (RegistersAs old.store q store)
      (RefusedLate old.store q store) k.answer in (
        query_admitted q d.0,
        none_of q.name _ none,
        (refl, ap core_of after ∙ registered_core store _ _ d.3),
      )

  pub query_goes : (q : Query) (e : Effect) (new : State) → QueryStep old s q e new
      → LineGoes old s (says_command (Register q)) e new
  query_goes q e new h = by h.result h.done h.effect
    where
      r : Reading
      r = says_command (Register q)

      by : (o : Result QueryOutcome Refusal) → RegistersQuery old.store q o h.store
          → e ≡ answers s (query_reply o) (is_registration o) → LineGoes old s r e new
      by (Err why) k said = turned_down r e new (register (a_query q)) refused (refusal_line why) refl
          (inl refl) refl (ap core_of h.state ∙ learned_core h.store (not_registered old.store q why h.store k))
          (queued_of e _ said) (why, refl)
      by (Ok (Registered most)) k said = accepted r e new (register (a_query q)) ok (query_reply (Ok (Registered most)))
          refl (query_accepts q most h.store new h.state k) (queued_of e _ said)
          (ap (λ n. numbered_line (codes "ok query ") n)
          (done_of (query_refusal old.store q) (Registered most) (RegistersAs old.store q h.store)
          (RefusedLate old.store q h.store) k.answer).1)
      by (Ok (Cyclic rest)) k said =
          let d = done_of (query_refusal old.store q) (Cyclic rest) (RegistersAs old.store q h.store)
          (RefusedLate old.store q h.store) k.answer in
          turned_down r e new (register (a_query q)) not_free_connex (query_reply (Ok (Cyclic rest))) refl
          (inr (refl, λ a. (d.0.1).no_tree (admitted_query q a).0)) refl (with_store h.store new h.state d.1)
          (queued_of e _ said) (rest, inl refl)
      by (Ok (NotConnex rest)) k said =
          let d = done_of (query_refusal old.store q) (NotConnex rest) (RegistersAs old.store q h.store)
          (RefusedLate old.store q h.store) k.answer in
          turned_down r e new (register (a_query q)) not_free_connex (query_reply (Ok (NotConnex rest))) refl
          (inr (refl, λ a. (d.0.1).no_tree (admitted_query q a).1)) refl (with_store h.store new h.state d.1)
          (queued_of e _ said) (rest, inr refl)

  -- a query whose reply finds no memory isn't registered: the reply that it is would be short
  short_reply : (q : Query) (most : ℕ) → length q.head ≤ HEAD_VARIABLES → most ≡ most_steps (length q.head)
      → REPLY_BYTES < length (query_reply (Ok (Registered most))) → ⊥
  short_reply q most few is above =
      let digits = length-decimal-le_succ most (omega (arith, few, is)) in
      let words : length (codes "ok query " ++ decimal most) ≡ 9 + length (decimal most) =
      length-append (codes "ok query ") (decimal most) in
      let whole : length (query_reply (Ok (Registered most))) ≡ length (codes "ok query " ++ decimal most) + 1 =
      length-append (codes "ok query " ++ decimal most) (10 ∷ []) in
      absurd (omega (arith, digits, words, whole, above, few, is))

  pub query_cut_goes : (q : Query) (e : Effect) (new : State) → QueryCutStep old s q e new
      → LineGoes old s (says_command (Register q)) e new
  query_cut_goes q e new h = by h.result h.done h.ends.0 h.above
    where
      r : Reading
      r = says_command (Register q)

      mid : State
      mid = record old { store = h.store }

      by_end : core_of mid ≡ core_of old → (test : Bool) → e ≡ answers s end_memory test → LineGoes old s r e new
      by_end same test said = line_ends old s x r e mid Memory new end_memory tt found runs same h.ends.1
          (queued_of e _ said)

      by : (o : Result QueryOutcome Refusal) → RegistersQuery old.store q o h.store
          → e ≡ answers s end_memory (is_registration o) → REPLY_BYTES < length (query_reply o) → LineGoes old s r e new
      by (Err why) k said above = by_end (learned_core h.store (not_registered old.store q why h.store k)) false said
      by (Ok (Cyclic rest)) k said above =
          let d = done_of (query_refusal old.store q) (Cyclic rest) (RegistersAs old.store q h.store)
          (RefusedLate old.store q h.store) k.answer in by_end (with_store h.store mid refl d.1) false said
      by (Ok (NotConnex rest)) k said above =
          let d = done_of (query_refusal old.store q) (NotConnex rest) (RegistersAs old.store q h.store)
          (RefusedLate old.store q h.store) k.answer in by_end (with_store h.store mid refl d.1) false said
      by (Ok (Registered most)) k said above =
          let d = done_of (query_refusal old.store q) (Registered most) (RegistersAs old.store q h.store)
          (RefusedLate old.store q h.store) k.answer in
          let none = none_holds (query_refusal old.store q) (Registered most) (RegistersAs old.store q h.store)
          (RefusedLate old.store q h.store) k.answer in
          let fails = all_fail (query_conditions old.store q) none in
          absurd (short_reply q most (within_limits q fails.1.1.1.1.1.1.1.1.1.0).head d.1 above)

  pub union_goes : (name : Bytes) (members : List Bytes) (e : Effect) (new : State)
      → UnionStep old s name members e new → LineGoes old s (says_command (Union name members)) e new
  union_goes name members e new h = by h.result h.done h.effect
    where
      r : Reading
      r = says_command (Union name members)

      by : (o : Result ℕ Refusal) → RegistersUnion old.store name members o h.store
          → e ≡ answers s (union_reply o) (is_done o) → LineGoes old s r e new
      by (Err why) k said =
          turned_down r e new (register (a_union name (queries_under old.store.queries members))) refused
          (refusal_line why) refl (inl refl) refl (with_store h.store new h.state k.stays) (queued_of e _ said)
          (why, refl)
      by (Ok most) k said =
          let D = λ (n : ℕ). (qs : List Query) × AreUnder old.store.queries members qs
          × (n ≡ answer_steps (a_union name qs))
          × (h.store ≡ record old.store { queries = old.store.queries ++ a_union name qs ∷ [] }) in
          let d = done_of (union_refusal old.store name members) most D (OutOfMemoryWhere ⊤) k.answer in
          let none = none_holds (union_refusal old.store name members) most D (OutOfMemoryWhere ⊤) k.answer in
          accepted r e new (register (a_union name d.0)) ok (union_reply (Ok most))
          (ap (λ (qs : List Query). Some (register (a_union name qs))) (under_seen old.store.queries members d.0 d.1)) (
            union_admitted old.store kept.0 name members d.0 d.1,
            none_of name _ none,
            (refl, ap core_of h.state ∙ registered_core h.store _ _ d.3),
          )
          (queued_of e _ said)
          (ap (λ n. numbered_line (codes "ok union ") n) d.2
          ∙ ap (λ (qs : List Query). numbered_line (codes "ok union ") (answer_steps (a_union name qs)))
          (sym (under_seen old.store.queries members d.0 d.1)))

  unused : (q : Bytes) → list_any (uses q) old.sessions ≡ false → (t : ℕ) → UsesQuery q ((core_of old).client t) → ⊥
  unused q none t u = by (session_of old t) refl u
    where
      by : (o : Option Session) → session_of old t ≡ o → UsesQuery q (client_in o) → ⊥
      by None e (inl (n, k)) = k
      by None e (inr k) = absurd cc
      by (Some y) e k =
          let used : list_any (uses q) old.sessions ≡ true = any_there (uses q) old.sessions y
          (found_there (λ (z : Session). z.id == t) old.sessions y e) (session_uses q y.cause y k) in
          absurd (cc (used, none))

  pub drop_goes : (q : Bytes) (e : Effect) (new : State) → DropStep old s q e new
      → LineGoes old s (says_command (Drop q)) e new
  drop_goes q e new h = by h.result h.done h.effect
    where
      r : Reading
      r = says_command (Drop q)

      by : (o : Result ⊤ Refusal) → DropsQuery old.store (list_any (uses q) old.sessions) q o h.store
          → e ≡ answers s (ok_reply (codes "ok") o) (is_done o) → LineGoes old s r e new
      by (Err why) k said = turned_down r e new (drop q) refused (refusal_line why) refl (may_refuse (drop q)) refl
          (with_store h.store new h.state k.stays) (queued_of e _ said) (why, refl)
      by (Ok u) k said =
          let D = λ (_ : ⊤). h.store
          ≡ record old.store { queries = drop_first (λ l. bytes_eq (listed_name l) q) old.store.queries } in
          let used = list_any (uses q) old.sessions in
          let none = none_holds (drop_refusal old.store used q) u D (OutOfMemoryWhere ⊥) k.answer in
          let free = or_parts used (is_member old.store.queries q)
          (none_second (is_none (listed_of old.store.queries q)) (used || is_member old.store.queries q) NoQuery InUse
          None none) in
          let after = done_of (drop_refusal old.store used q) u D (OutOfMemoryWhere ⊥) k.answer in
          accepted r e new (drop q) ok (line (codes "ok")) refl (
            unused q free.0,
            (
              refl,
              ap core_of h.state ∙ registered_core h.store _ _ after
                  ∙ ap (λ (qs : List Listed). record (core_of old) { queries = qs })
                  (dropped_seen old.store.queries q (own_names old.store.queries kept.0.queries)),
            ),
          )
          (queued_of e _ said) refl

  -- ---- what asks

  pub has_goes : (q : Bytes) (row : Tuple) (e : Effect) (new : State) → HasStep old s q row e new
      → LineGoes old s (says_command (Has q row)) e new
  has_goes q row e new h = by h.result h.tells (queued_of e _ h.effect)
    where
      r : Reading
      r = says_command (Has q row)

      tells_both : (l : Listed) (holds : Bool) → Tells (AnswersOf old.store.relations l row) holds
          → (holds ≡ true) ↔ AnswersOver (core_of old).db l row
      tells_both l true k = (λ e. answer_seen old.store kept.0 l row k, λ a. refl)
      tells_both l false k = (λ e. absurd cc, λ a. absurd (k (answer_back old.store kept.0 l row a)))

      by : (o : Result Bool Refusal) → TellsWhether old.store q row o → e.queued ≡ (s, has_reply o) ∷ []
          → LineGoes old s r e new
      by (Err why) k said = turned_down r e new (has q row) refused (refusal_line why) refl (may_refuse (has q row)) refl
          (ap core_of h.state) said (why, refl)
      by (Ok holds) k said =
          let D = λ (b : Bool). IsSomeAnd (listed_of old.store.queries q)
          (λ l. Tells (AnswersOf old.store.relations l row) b) in
          let f = some_there (listed_of old.store.queries q) (λ l. Tells (AnswersOf old.store.relations l row) holds)
          (done_of (has_refusal old.store q row) holds D (OutOfMemoryWhere ⊥) k.answer) in
          accepted r e new (has q row) (is_answer holds) (has_reply (Ok holds)) refl
          (rw f.1 (holds, tells_both f.0 holds f.2, only_stays (is_answer holds) new (ap core_of h.state))) said refl

  pub shape_goes : (q : Bytes) (e : Effect) (new : State) → ShapeStep old s q e new
      → LineGoes old s (says_command (AskShape q)) e new
  shape_goes q e new h = by h.result h.tells (queued_of e _ h.effect)
    where
      r : Reading
      r = says_command (AskShape q)

      by : (o : Result Shape Refusal) → TellsShape old.store q o → e.queued ≡ (s, shape_reply o) ∷ []
          → LineGoes old s r e new
      by (Err why) k said = turned_down r e new ask refused (refusal_line why) refl (may_refuse ask) refl
          (ap core_of h.state) said (why, refl)
      by (Ok shape) k said =
          let D = λ (b : Shape). IsSomeAnd (listed_of old.store.queries q) (λ l. IsShapeOf l b) in
          accepted r e new ask replied (shape_reply (Ok shape)) refl (only_stays replied new (ap core_of h.state)) said
          (some_as (listed_of old.store.queries q) (λ l. IsShapeOf l shape)
          (λ l. (b : Shape) × IsShapeOf l b × (shape_reply (Ok shape) ≡ shape_reply (Ok b)))
          (λ l is. (shape, is, refl))
          (done_of (first_refusal ((is_none (listed_of old.store.queries q), NoQuery) ∷ [])) shape D (OutOfMemoryWhere ⊥)
          k.answer))

  lines_go : (q : Bytes) (l : Listed) (lines : List Bytes) (e : Effect) (new : State)
      → listed_of old.store.queries q ≡ Some l → IsExplaining l (text_of lines) → TellsLines old s lines e new
      → LineGoes old s (says_command (Explain q)) e new
  lines_go q l lines e new is explains (inl h) =
      accepted (says_command (Explain q)) e new ask replied (text_of lines) refl
      (only_stays replied new (ap core_of h.1)) (queued_of e _ h.0)
      (and_some (listed_of old.store.queries q) (λ p. IsExplaining p (text_of lines)) l is explains)
  lines_go q l lines e new is explains (inr (told, lacking, rest, parts, ends)) =
      line_ends old s x (says_command (Explain q)) e old Memory new (text_of told ++ end_memory) tt found runs refl ends.1
      (queued_of e _ ends.0)

  pub explain_goes : (q : Bytes) (e : Effect) (new : State)
      → MatchOption (listed_of old.store.queries q) (RefusedStep old s NoQuery e new) (λ l. ExplainStepOf old s l e new)
      → LineGoes old s (says_command (Explain q)) e new
  explain_goes q e new h = by (listed_of old.store.queries q) refl h
    where
      r : Reading
      r = says_command (Explain q)

      by : (o : Option Listed) → listed_of old.store.queries q ≡ o
          → MatchOption o (RefusedStep old s NoQuery e new) (λ l. ExplainStepOf old s l e new) → LineGoes old s r e new
      by None f k = refusing r e new ask NoQuery refl refl k (NoQuery, refl)
      by (Some (a_query p)) f k = lines_go q (a_query p) (explain_lines p k.tree) e new
          f (k.tree, k.named, refl) k.tells
      by (Some (a_union name qs)) f k = lines_go q (a_union name qs) (union_lines qs) e new
          f refl k

  -- ---- commands of the session

  is_found : (q : Bytes) → is_none (listed_of old.store.queries q) ≡ false → IsSome (listed_of old.store.queries q)
  is_found q e = by (listed_of old.store.queries q) e
    where
      by : (o : Option Listed) → is_none o ≡ false → IsSome o
      by None k = absurd cc
      by (Some l) k = refl

  pub open_goes : (c q : Bytes) (e : Effect) (new : State) → OpenStep old s x c q e new
      → LineGoes old s (says_command (Open c q)) e new
  open_goes c q e new h = by h.result h.answer (queued_of e _ h.effect) h.state
    where
      r : Reading
      r = says_command (Open c q)

      by : (o : Result ⊤ Refusal) → Answers (open_refusal old.store x.cursors c q) o (λ _. ⊤) (OutOfMemoryWhere ⊤)
          → e.queued ≡ (s, ok_reply (codes "ok open") o) ∷ [] → OpensTo old s c q new o → LineGoes old s r e new
      by (Err why) k said after = turned_down r e new (open_cursor c q) refused (refusal_line why) refl
          (may_refuse (open_cursor c q)) refl (ap core_of after) said (why, refl)
      by (Ok u) k said after =
          let none = none_holds (open_refusal old.store x.cursors c q) u (λ _. ⊤) (OutOfMemoryWhere ⊤) k in
          let free : cursor_of x.cursors c ≡ None = nothing_of (cursor_of x.cursors c)
          (none_first (is_some (cursor_of x.cursors c)) Taken _ none) in
          let there = is_found q (none_second (is_some (cursor_of x.cursors c)) (is_none (listed_of old.store.queries q))
          Taken NoQuery _ none) in
          accepted r e new (open_cursor c q) ok (line (codes "ok open")) refl (
            ap (λ (y : Client). y.cursor c) is_author ∙ ap (λ o. option_map cursor_seen o) free,
            there,
            only_becomes ok (with_cursor c q) new (client_with_cursor c (Some (valid q [] false)) author) (λ z. refl) refl
                after
                (opened_client x c q free ∙ ap (λ y. client_with_cursor c (Some (valid q [] false)) y) (sym is_author)),
          )
          said refl

  page_of : (A B : Tuple → Type 0) (given told : List Tuple) (count : ℕ) (last : Bool)
      → ((t : Tuple) → A t → B t) → ((t : Tuple) → B t → A t) → TellsAnswers A given count told last
      → IsPage B given told count last
  page_of A B given told count last to back h = record {
    answers = All-weaker A B to told h.answers;
    different = h.different;
    at_most = h.at_most;
    full = h.all_asked;
    last_is = (λ e t b. h.none_left e t (back t b), λ all. by last refl all);
  }
    where
      by : (b : Bool) → last ≡ b → ((t : Tuple) → B t → Contains (given ++ told) t) → b ≡ true
      by true e all = refl
      by false e all = let left = h.some_left e in absurd (left.1.1 (all left.0 (to left.0 left.1.0)))

  next_at : (c : Bytes) (k : Cursor) (l : Listed) (count : ℕ) (p : Position) (e : Effect) (new : State)
      → cursor_of x.cursors c ≡ Some k → listed_of old.store.queries k.query ≡ Some l → k.position ≡ p
      → NextStepAt old s c l count p e new → LineGoes old s (says_command (Next c count)) e new
  next_at c k l count (stale_since relation n) e new is over at h =
      turned_down (says_command (Next c count)) e new (next c count) refused _ refl (may_refuse (next c count)) refl
      (ap core_of h.1) (queued_of e _ h.0) (inr (relation, n, refl))
  next_at c k l count (open_at given finished) e new is over at (inr h) =
      line_ends old s x (says_command (Next c count)) e old Memory new _ tt found runs refl h.state (queued_of e _ h.effect)
  next_at c k l count (open_at given finished) e new is over at (inl h) =
      accepted (says_command (Next c count)) e new (next c count) (page h.told h.end) _ refl
      (and_some (author.cursor c) (λ j. ReturnsPage (core_of old) s c count j
      (only_sent s (page h.told h.end ∷ [])) (core_of new)) (valid k.query given finished) cursor
      (and_some (listed_of old.store.queries k.query) (λ p. (ts : List Tuple) × (last : Bool)
      × IsPage (AnswersOver (core_of old).db p) given ts count last
      × OnlyReplies (core_of old) s (page ts last) (client_with_cursor c (Some (valid k.query (given ++ ts) last)) author)
      (only_sent s (page h.told h.end ∷ [])) (core_of new)) l over (
        h.told,
        h.end,
        page_of (AnswersOf old.store.relations l) (AnswersOver (core_of old).db l) given h.told count h.end
            (λ t a. answer_seen old.store kept.0 l t a) (λ t a. answer_back old.store kept.0 l t a) h.tells,
        only_becomes (page h.told h.end)
            (λ y. record y { cursors = with_position y.cursors c (open_at (given ++ h.told) h.end) }) new
            (client_with_cursor c (Some (valid k.query (given ++ h.told) h.end)) author) (λ z. refl) refl h.state
            (moved_client x c k (given ++ h.told) h.end is
            ∙ ap (λ y. client_with_cursor c (Some (valid k.query (given ++ h.told) h.end)) y) (sym is_author)),
      )))
      (queued_of e _ h.effect) refl
    where
      cursor : author.cursor c ≡ Some (valid k.query given finished)
      cursor = ap (λ (y : Client). y.cursor c) is_author ∙ ap (λ o. option_map cursor_seen o) is
          ∙ ap (λ p. Some (cursor_state k.query p)) at

  pub next_goes : (c : Bytes) (count : ℕ) (e : Effect) (new : State) → MatchOption (cursor_of x.cursors c)
      (RefusedStep old s NoCursor e new)
      (λ k. IsSomeAnd (listed_of old.store.queries k.query) (λ l. NextStepAt old s c l count k.position e new))
      → LineGoes old s (says_command (Next c count)) e new
  next_goes c count e new h = by (cursor_of x.cursors c) refl h
    where
      by : (o : Option Cursor) → cursor_of x.cursors c ≡ o → MatchOption o (RefusedStep old s NoCursor e new)
          (λ k. IsSomeAnd (listed_of old.store.queries k.query) (λ l. NextStepAt old s c l count k.position e new))
          → LineGoes old s (says_command (Next c count)) e new
      by None f k = refusing (says_command (Next c count)) e new (next c count) NoCursor refl refl k
          (inl (NoCursor, refl))
      by (Some j) f k =
          let g = some_there (listed_of old.store.queries j.query)
          (λ l. NextStepAt old s c l count j.position e new) k in
          next_at c j g.0 count j.position e new f g.1 refl g.2

  pub close_goes : (c : Bytes) (e : Effect) (new : State) → MatchOption (cursor_of x.cursors c)
      (RefusedStep old s NoCursor e new) (λ k. CloseStep old s c e new)
      → LineGoes old s (says_command (Close c)) e new
  close_goes c e new h = by (cursor_of x.cursors c) refl h
    where
      r : Reading
      r = says_command (Close c)

      by : (o : Option Cursor) → cursor_of x.cursors c ≡ o → MatchOption o (RefusedStep old s NoCursor e new)
          (λ k. CloseStep old s c e new) → LineGoes old s r e new
      by None f k = refusing r e new (close c) NoCursor refl refl k (NoCursor, refl)
      by (Some j) f k = accepted r e new (close c) ok (line (codes "ok")) refl (
        subst (λ (y : Client). IsSome (y.cursor c)) (sym is_author) (rw f refl),
        only_becomes ok (without_cursor c) new (client_with_cursor c None author) (λ z. refl) refl k.1
            (closed_client x c sound_session.names
            ∙ ap (λ y. client_with_cursor c None y) (sym is_author)),
      )
          (queued_of e _ k.0) refl

  pub watch_goes : (q : Bytes) (e : Effect) (new : State) → WatchStep old s x q e new
      → LineGoes old s (says_command (Watch q)) e new
  watch_goes q e new h = by h.result _ h.answer (queued_of e _ h.effect) h.state
    where
      r : Reading
      r = says_command (Watch q)

      by : (o : Result ⊤ Refusal) (L : Refusal → Type 0) → Answers (watch_refusal old.store q) o (λ _. ⊤) L
          → e.queued ≡ (s, watch_reply o old.store.seq) ∷ [] → BecomesWhere old s (with_watch q) new o
          → LineGoes old s r e new
      by (Err why) L k said after = turned_down r e new (subscribe q) refused (refusal_line why) refl
          (may_refuse (subscribe q)) refl (ap core_of after) said (why, refl)
      by (Ok u) L k said after =
          let none = none_holds (watch_refusal old.store q) u (λ _. ⊤) L k in
          accepted r e new (subscribe q) ok (watch_reply (Ok u) old.store.seq) refl (
            is_found q (none_first (is_none (listed_of old.store.queries q)) NoQuery None none),
            only_becomes ok (with_watch q) new (with_subscription q true author) (λ z. refl) refl after
                (watched_client x q ∙ ap (λ y. with_subscription q true y) (sym is_author)),
          )
          said (ap (λ (st : State). numbered_line (codes "ok watch ") st.store.seq) (sym after))

  pub unwatch_goes : (q : Bytes) (e : Effect) (new : State) → UnwatchStep old s q e new
      → LineGoes old s (says_command (Unwatch q)) e new
  unwatch_goes q e new h = by h.result h.answer (queued_of e _ h.effect) h.state
    where
      r : Reading
      r = says_command (Unwatch q)

      by : (o : Result ⊤ Refusal) → Answers (watch_refusal old.store q) o (λ _. ⊤) (OutOfMemoryWhere ⊥)
          → e.queued ≡ (s, ok_reply (codes "ok") o) ∷ [] → BecomesWhere old s (without_watch q) new o
          → LineGoes old s r e new
      by (Err why) k said after = turned_down r e new (unsubscribe q) refused (refusal_line why) refl
          (may_refuse (unsubscribe q)) refl (ap core_of after) said (why, refl)
      by (Ok u) k said after =
          let none = none_holds (watch_refusal old.store q) u (λ _. ⊤) (OutOfMemoryWhere ⊥) k in
          accepted r e new (unsubscribe q) ok (line (codes "ok")) refl (
            is_found q (none_first (is_none (listed_of old.store.queries q)) NoQuery None none),
            only_becomes ok (without_watch q) new (with_subscription q false author) (λ z. refl) refl after
                (unwatched_client x q sound_session.once ∙ ap (λ y. with_subscription q false y) (sym is_author)),
          )
          said refl

  -- ---- batches

  pub no_batch : x.batch ≡ None → author.batch ≡ None
  no_batch none = ap (λ (y : Client). y.batch) is_author ∙ ap (λ o. option_map line_edits o) none

  pub some_batch : (held : HeldTransaction) → x.batch ≡ Some held → author.batch ≡ Some (line_edits held)
  some_batch held is = ap (λ (y : Client). y.batch) is_author ∙ ap (λ o. option_map line_edits o) is

  pub batch_goes : (e : Effect) (new : State) → x.batch ≡ None → BatchStep old s e new
      → LineGoes old s (says_command Batch) e new
  batch_goes e new none h = by h.result (queued_of e _ h.effect) h.state
    where
      r : Reading
      r = says_command Batch

      by : (o : Result ⊤ Refusal) → e.queued ≡ (s, ok_reply (codes "ok batch") o) ∷ []
          → BecomesWhere old s (with_batch nothing_held) new o → LineGoes old s r e new
      by (Err why) said after = turned_down r e new batch refused (refusal_line why) refl (may_refuse batch) refl
          (ap core_of after) said (why, refl)
      by (Ok u) said after = accepted r e new batch ok (line (codes "ok batch")) refl (
        no_batch none,
        only_becomes ok (with_batch nothing_held) new (record author { batch = Some [] }) (λ z. refl) refl after
            (ap (λ (y : Client). record y { batch = Some [] }) (sym is_author)),
      )
          said refl

  pub abandon_goes : (held : HeldTransaction) (e : Effect) (new : State) → x.batch ≡ Some held → AbandonStep old s e new
      → LineGoes old s (says_command Abandon) e new
  abandon_goes held e new is h = accepted (says_command Abandon) e new abandon ok (line (codes "ok")) refl (
    subst (λ o. IsSome o) (sym (some_batch held is)) refl,
    only_becomes ok without_batch new (record author { batch = None }) (λ z. refl) refl h.1
        (ap (λ (y : Client). record y { batch = None }) (sym is_author)),
  )
      (queued_of e _ h.0) refl

  -- a line is held
  hold_accepts : (held : HeldTransaction) (l : Bytes) (verb : Verb) (name : Bytes) (row : Tuple) (new : State)
      → x.batch ≡ Some held → new ≡ with_session old s (with_batch (holding held verb name row l))
      → Accepts (core_of old) s (edit (record { inserts = inserts_row verb; relation = name; row = row }))
      (only_sent s (ok ∷ [])) (core_of new)
  hold_accepts held l verb name row new is after =
      let one : HeldLine = record { verb = verb; relation = name; row = row } in
      rw (some_batch held is)
      (only_becomes ok (with_batch (holding held verb name row l)) new
      (record author { batch = Some (line_edits held ++ line_edit one ∷ []) }) (λ z. refl) refl after
      (ap (λ (es : List _). record (client_by None x) { batch = Some es }) (map-append line_edit held.lines (one ∷ []))
      ∙ ap (λ (y : Client). record y { batch = Some (line_edits held ++ line_edit one ∷ []) }) (sym is_author)))

  held_spelled : (held : HeldTransaction) (words : Bytes) (new : State) (name : Bytes) (row : Tuple)
      → x.batch ≡ Some held
      → AcceptsEdit words author.batch (core_of new) name row (numbered_line (codes "ok held ") (length held.lines + 1))
  held_spelled held words new name row is =
      rw (some_batch held is)
      (ap (λ n. numbered_line (codes "ok held ") (n + 1)) (sym (length-map held.lines line_edit)))

  pub hold_add_goes : (held : HeldTransaction) (l name : Bytes) (row : Tuple) (e : Effect) (new : State)
      → x.batch ≡ Some held → HoldStep old s held l Adds name row e new
      → LineGoes old s (says_command (Add name row)) e new
  hold_add_goes held l name row e new is h = by h.result (queued_of e _ h.effect) h.state
    where
      r : Reading
      r = says_command (Add name row)

      by : (o : Result ⊤ Refusal) → e.queued ≡ (s, held_reply o (length held.lines + 1)) ∷ []
          → BecomesWhere old s (with_batch (holding held Adds name row l)) new o → LineGoes old s r e new
      by (Err why) said after = turned_down r e new _ refused (refusal_line why) refl refl refl (ap core_of after) said
          (why, refl)
      by (Ok u) said after = accepted r e new _ ok _ refl (hold_accepts held l Adds name row new is after) said
          (held_spelled held (codes "ok added ") new name row is)

  pub hold_delete_goes : (held : HeldTransaction) (l name : Bytes) (row : Tuple) (e : Effect) (new : State)
      → x.batch ≡ Some held → HoldStep old s held l Deletes name row e new
      → LineGoes old s (says_command (Del name row)) e new
  hold_delete_goes held l name row e new is h = by h.result (queued_of e _ h.effect) h.state
    where
      r : Reading
      r = says_command (Del name row)

      by : (o : Result ⊤ Refusal) → e.queued ≡ (s, held_reply o (length held.lines + 1)) ∷ []
          → BecomesWhere old s (with_batch (holding held Deletes name row l)) new o → LineGoes old s r e new
      by (Err why) said after = turned_down r e new _ refused (refusal_line why) refl refl refl (ap core_of after) said
          (inl (why, refl))
      by (Ok u) said after = accepted r e new _ ok _ refl (hold_accepts held l Deletes name row new is after) said
          (held_spelled held (codes "ok removed ") new name row is)
