-- `add`, `del` and `done` change rows as the core does, and send what it sends.
use Rattle.std.specs.Prelude.{ℕ, zero, suc, List, [], ◌∷◌, ◌++◌, ◌+◌, ◌-◌, ◌==◌, ◌≡◌, ◌⊎◌, ◌<◌, Bool, true, false}
use Rattle.std.specs.Prelude.{cond, nat_lt, Option, None, Some, IsSome, IfSome, Result, Ok, Err}
use Rattle.std.specs.Prelude.{AllPairs, filter, map, codes}
use Rattle.std.specs.Option.{option_map, option_and_then}
use Rattle.std.proofs.Common.{refl, sym, ap, ap₂, ◌∙◌, subst, inl, inr, arith, append-nil}
use Rattle.std.proofs.lemmas.Bool.{eqb-true, lt-ltb, le-ltb}
use Rattle.djq_model.specs.Data.{Bytes, Tuple, rows_of, has_row}
use Rattle.djq_model.specs.Listed.{listed_name}
use Rattle.djq_model.specs.Known.{texts_in}
use Rattle.djq_protocol.specs.declared.answer.EndCause.{EndCause}
use Rattle.djq_protocol.specs.declared.answer.Refusal.{Refusal}
use Rattle.djq_protocol.specs.declared.answer.Refusal.TheVariants.{NoMemory}
use Rattle.djq_protocol.specs.declared.answer.AddOutcome.{AddOutcome}
use Rattle.djq_protocol.specs.declared.answer.AddOutcome.TheVariants.{First, More}
use Rattle.djq_protocol.specs.declared.answer.DeleteOutcome.{DeleteOutcome}
use Rattle.djq_protocol.specs.declared.answer.DeleteOutcome.TheVariants.{Last, Left, Absent}
use Rattle.djq_protocol.specs.declared.held.DoneRefusal.{DoneRefusal}
use Rattle.djq_protocol.specs.declared.held.DoneRefusal.TheVariants.{OtherNumber, Line, LastChange, NoMemory as NoneLeft}
use Rattle.djq_protocol.specs.declared.held.LineRefusal.{LineRefusal}
use Rattle.djq_protocol.specs.declared.held.LineRefusal.TheVariants.{Limit as OverLimit, Absent as NoRow, NoMemory as OutOfMemory}
use Rattle.djq_protocol.specs.declared.command.Command.TheVariants.{Add, Del, Done}
use Rattle.djq_protocol.specs.Conditions.{OutOfMemoryWhere}
use Rattle.djq_protocol.specs.Grammar.{Reading, says_command}
use Rattle.djq_protocol.specs.Reply.{numbered_line, numbered_twice, refusal_line, add_reply, delete_reply, done_reply, done_word}
use Rattle.djq_store_spec.specs.Store.{Store}
use Rattle.djq_store_spec.specs.Relations.{RefusedByTexts}
use Rattle.djq_store_spec.specs.Rows.{copies_of, add_refusal, AddsAs, AddsRow, delete_refusal, DeletesAs, DeletesRow}
use Rattle.djq_store_spec.specs.Changes.{RowsChange, accepted as is_accepted, unchanged}
use Rattle.djq_store_spec.specs.Changes.{row_in, row_out, add_outcome, delete_outcome, is_made, tried}
use Rattle.djq_store_spec.specs.Held.{HeldLine, HeldTransaction}
use Rattle.djq_store_spec.specs.Done.{rows_changed}
use Rattle.djq_store_spec.specs.Transaction.{SuitAll, DoesAll, lines_change, lines_outcome}
use Rattle.djq_machine.specs.State.{Session, State, session_of, with_session}
use Rattle.djq_machine.specs.Effect.{Effect}
use Rattle.djq_machine.specs.Outdating.{changed}
use Rattle.djq_machine.specs.Watch.{ChangeStep}
use Rattle.djq_machine.specs.Command.{without_batch, AddStep, DeleteStep, DoneStep}
use Rattle.djq_run_laws.specs.Form.{LearnsTexts}
use Rattle.djq_run_laws.specs.Rising.{AreRising}
use Rattle.djq_run_laws.specs.Sound.{IsSoundStore, IsSoundSession, IsSoundBatch}
use Rattle.djq_run_laws.specs.Watched.{parts_for}
use Rattle.djq_run_laws.proofs.Lists.{session_changed, session_other, and_some, all_found}
use Rattle.djq_run_laws.proofs.Copies.{adds_copy, takes_copy}
use Rattle.djq_run_laws.proofs.Forms.{done_of, refused_learned, late_learned}
use Rattle.djq_run_laws.proofs.Deltas.{change_store}
use Rattle.djq_run_laws.proofs.Sessions.{changed_ids}
use Rattle.djq_run_laws.proofs.SoundStates.{AreKept}
use Rattle.djq_abstract.specs.Rows.{Database, is_present, RowEdit, copies_set, all_edited}
use Rattle.djq_abstract.specs.Clients.{Client, Core, nobody, with_client, client_overtaken, CoreCommand, edit, done}
use Rattle.djq_abstract.specs.Clients.{ok, refused, delta, says, Sent, only_sent}
use Rattle.djq_abstract.specs.Moves.{StaysConnected, ChangesDatabase, Edits, Accepts, client_refused}
use Rattle.djq_refinement.specs.View.{database_of, client_by, client_in, core_of, core_reading, line_edits}
use Rattle.djq_refinement.specs.Spelling.{SpellsMessage, AreSpelled, AcceptsEdit}
use Rattle.djq_refinement.specs.Refinement.{AreOfLine}
use Rattle.djq_refinement.proofs.Clients.{core_path, core_with, with_same, is_connected, LineGoes, line_says}
use Rattle.djq_refinement.proofs.Commands.{stays_client, may_refuse, author, is_author, accepted, sound_session}
use Rattle.djq_refinement.proofs.Commands.{no_batch, some_batch}
use Rattle.djq_refinement.proofs.Stores.{present_row}
use Rattle.djq_refinement.proofs.ChangeSteps.{affects, overtaken_client, IsQuietChange, quiet_change, nobody_connected}
use Rattle.djq_refinement.proofs.Telling.{WatchesNothing}
use Rattle.djq_refinement.proofs.AcceptedChanges.{sent_by, spelled_to, silent_to, changes_database}
use Rattle.djq_refinement.proofs.Edits.{set_seen, unchanged_rows, rows_changed_by, affects_by, lines_edited}
use Rattle.djq_refinement.proofs.Edits.{lines_unchanged, lines_changed, lines_affect}

true_not_false : true ≡ false → ⊥
true_not_false e = absurd cc

-- ---- a change in which no row comes or goes

none_filtered : {A : Type 0} (xs : List A) → filter (λ x. false) xs ≡ []
none_filtered [] = refl
none_filtered (x ∷ xs) = none_filtered xs

-- Only copies change: no query is affected, and each client stays.
copies_change : (old : State) (s : ℕ) (store : Store) (new : State) → ((core_of old).client s).connected ≡ true
    → core_of new ≡ core_of (changed old None store) → store.queries ≡ old.store.queries → store.seq ≡ old.store.seq
    → ((r : Bytes) (t : Tuple) → is_present (database_of old.store.relations) r t
    ≡ is_present (database_of store.relations) r t)
    → ChangesDatabase (core_of old) s (database_of store.relations) (only_sent s (ok ∷ [])) (core_of new)
copies_change old s store new there after queries seq same = record {
  db_is = ap (λ (c : Core). c.db) after;
  queries_stay = ap (λ (c : Core). c.queries) after ∙ queries;
  counts = false;
  counts_if = (λ e. absurd cc, λ a. absurd (a.2 (same a.0 a.1)));
  seq_is = ap (λ (c : Core). c.seq) after ∙ seq;
  affected = λ n. false;
  affected_if = λ n q is. (λ e. absurd cc, λ a. absurd (a.3 (same a.0 a.1)));
  clients = λ t. by t (((core_of old).client t).connected) refl;
}
  where
    by : (t : ℕ) (b : Bool) → ((core_of old).client t).connected ≡ b
        → StaysConnected (core_of old) (λ n. false) (core_of new) t (only_sent s (ok ∷ []) t) (only_sent s (ok ∷ []) t)
        ⊎ (((core_of new).client t ≡ nobody)
        × (((core_of old).client t).connected ≡ false → only_sent s (ok ∷ []) t ≡ []))
    by t true k = inl (record {
      was_connected = k;
      becomes = ap (λ (c : Core). c.client t) after ∙ stays_client ((core_of old).client t);
      delta_of = λ n. record { inserted = []; deleted = [] };
      are_deltas = λ n q is due. absurd cc;
      is_sent = ap (λ ns. map (λ n. delta n (record { inserted = []; deleted = [] }) (core_of new).seq) ns
          ++ only_sent s (ok ∷ []) t) (sym (none_filtered (map listed_name old.store.queries)));
    })
    by t false k = inr (
      ap (λ (c : Core). c.client t) after ∙ nobody_connected (session_of old t) k,
      λ i. other (t == s) refl,
    )
      where
        other : (b : Bool) → (t == s) ≡ b → cond b (ok ∷ []) [] ≡ []
        other false i = refl
        other true i =
            let is : ((core_of old).client t).connected ≡ true =
            ap (λ j. ((core_of old).client j).connected) (eqb-true t s i) ∙ there in
            absurd (cc (is, k))

module _ (old : State) (kept : AreKept old) (rising : AreRising old) (s : ℕ) (x : Session)
    (found : session_of old s ≡ Some x) (runs : x.cause ≡ None) where
  abbrev me : Client
  me = author old kept s x found runs

  connected : ((core_of old).client s).connected ≡ true
  connected = is_connected old s x found runs

  -- an accepted change
  line_changes : (r : Reading) (e : Effect) (new : State) (c : CoreCommand) (sent : Sent)
      → core_reading old.store.queries r ≡ Some c → Accepts (core_of old) s c sent (core_of new)
      → ((t : ℕ) → ((core_of new).client t).connected ≡ true → AreSpelled (SpellsMessage s r (core_of old) (core_of new)) (sent t) (parts_for t e.queued))
      → ((t : ℕ) → ((core_of old).client t).connected ≡ false → (sent t ≡ []) × (parts_for t e.queued ≡ []))
      → LineGoes old s r e new
  line_changes r e new c sent is does spelled silent = record {
    happenings = record { event = says s c; sent = sent; after = core_of new } ∷ [];
    events = subst (λ o. AreOfLine s o (says s c ∷ [])) (sym is) (inl refl);
    is_run = ((connected, inl does), tt);
    is_after = refl;
    spelled = λ t k. subst (λ ms. AreSpelled (SpellsMessage s r (core_of old) (core_of new)) ms (parts_for t e.queued)) (sym (append-nil (sent t)))
        (spelled t k);
    silent = λ t k. (ap (λ ms. ms ++ []) (silent t k).0, (silent t k).1);
  }

  -- a session that isn't connected watches nothing
  over_watches : (t : ℕ) → ((core_of old).client t).connected ≡ false → WatchesNothing (session_of old t)
  over_watches t k = by (session_of old t) refl k
    where
      ended : (c : Option EndCause) (y : Session) → (client_by c y).connected ≡ false → IsSome c
      ended None y i = absurd cc
      ended (Some cause) y i = refl

      by : (o : Option Session) → session_of old t ≡ o → (client_in o).connected ≡ false → WatchesNothing o
      by None f i = tt
      by (Some y) f i =
          ((all_found (IsSoundSession old.store) (λ (z : Session). z.id == t) old.sessions y kept.1 f).ended
          (ended y.cause y i)).1

  -- A change that is refused: of cursors over queries that it was to affect it may make stale ones.
  refused_change : (base : State) (r : Reading) (c : CoreCommand) (o : Option RowsChange) (store : Store) (reply : Bytes)
      (e : Effect) (new : State) → core_reading old.store.queries r ≡ Some c
      → core_of base ≡ with_client s (client_refused c me) (core_of old)
      → database_of store.relations ≡ (core_of old).db → store.queries ≡ old.store.queries → store.seq ≡ old.store.seq
      → IsQuietChange base s o store reply e new → SpellsMessage s r (core_of old) (core_of new) refused reply → LineGoes old s r e new
  refused_change base r c o store reply e new is before db queries seq quiet spelled =
      line_says old s r e new c refused reply is (
        connected,
        inr (record {
          message = refused;
          may = may_refuse c;
          is_sent = refl;
          affected = stales o;
          becomes = ap core_of quiet.state ∙ core_path (core_of (changed base o store)) (record (core_of old) {
            client = λ t. client_overtaken (stales o) (cond (t == s) (client_refused c me) ((core_of old).client t));
          }) (λ n row. ap (λ (d : Database). d n row) db) queries seq (λ t. by o t);
        }),
      ) quiet.queued spelled
    where
      stales : Option RowsChange → Bytes → Bool
      stales None n = false
      stales (Some change) n = affects base.store.queries change n

      by : (p : Option RowsChange) (t : ℕ) → client_in (session_of (changed base p store) t)
          ≡ client_overtaken (stales p) (cond (t == s) (client_refused c me) ((core_of old).client t))
      by None t = ap (λ (k : Core). k.client t) before
          ∙ stays_client (cond (t == s) (client_refused c me) ((core_of old).client t))
      by (Some change) t = overtaken_client base change store t
          ∙ ap (λ (k : Core). client_overtaken (affects base.store.queries change) (k.client t)) before

  same_author : (c : CoreCommand) → client_refused c me ≡ me
      → core_of old ≡ with_client s (client_refused c me) (core_of old)
  same_author c e = sym (with_same (core_of old) s (client_refused c me) (sym e))

  -- ---- one row

  not_made : (change : RowsChange) (why : Refusal) → is_made (add_outcome change (Err why)) ≡ false
  not_made change NoMemory = refl
  not_made change _ = refl

  not_added : (name : Bytes) (row : Tuple) (why : Refusal) (store : Store) → AddsRow old.store name row (Err why) store
      → LearnsTexts old.store store
  not_added name row why store h =
      refused_learned (add_refusal old.store name row) why (AddsAs old.store name row store)
      (λ t. (has_row (rows_of old.store.relations name) row ≡ false)
      × RefusedByTexts old.store (texts_in row) store t) old.store store h.answer h.stays
      (λ late. late_learned old.store (texts_in row) store why late.1)

  -- the line that accepts an edit outside a batch
  edit_spelled : (words : Bytes) (name : Bytes) (row : Tuple) (new : State) (store : Store) (n : ℕ) → x.batch ≡ None
      → new.store ≡ store → n ≡ copies_of store name row
      → AcceptsEdit words me.batch (core_of new) name row (numbered_twice words store.seq n)
  edit_spelled words name row new store n none same is =
      rw (no_batch old kept s x found runs none)
      (ap₂ (λ (a b : ℕ). numbered_twice words a b) (ap (λ (k : Store). k.seq) (sym same))
      (is ∙ ap (λ (k : Store). copies_of k name row) (sym same)))

  abbrev inserting : Bytes → Tuple → RowEdit
  inserting name row = record { inserts = true; relation = name; row = row }

  abbrev deleting : Bytes → Tuple → RowEdit
  deleting name row = record { inserts = false; relation = name; row = row }

  -- outside a batch an edit is a change of its own
  edits_alone : (one : RowEdit) (sent : Sent) (new : State) (db : Database) → x.batch ≡ None
      → all_edited (one ∷ []) (core_of old).db ≡ Some db → ChangesDatabase (core_of old) s db sent (core_of new)
      → Accepts (core_of old) s (edit one) sent (core_of new)
  edits_alone one sent new db none made h =
      rw (no_batch old kept s x found runs none)
      (and_some (all_edited (one ∷ []) (core_of old).db)
      (λ d. ChangesDatabase (core_of old) s d sent (core_of new)) db made h)

  pub add_goes : (name : Bytes) (row : Tuple) (e : Effect) (new : State) → IsSoundStore new.store → x.batch ≡ None
      → AddStep old s name row e new → LineGoes old s (says_command (Add name row)) e new
  add_goes name row e new sound none h = by h.result h.done h.change
    where
      r : Reading
      r = says_command (Add name row)

      change : RowsChange
      change = row_in old.store.relations name row

      -- the row was there or not
      was : (b : Bool) → has_row (rows_of old.store.relations name) row ≡ b → nat_lt 0 (copies_of old.store name row) ≡ b
      was b k = sym (present_row old.store kept.0 name row) ∙ k

      is_then : nat_lt 0 (copies_of old.store name row + 1) ≡ true
      is_then = lt-ltb 0 (copies_of old.store name row + 1) (omega arith)

      made : (o : AddOutcome) → AddsRow old.store name row (Ok o) h.store
          → all_edited (inserting name row ∷ []) (core_of old).db ≡ Some (database_of h.store.relations)
      made o k = ap (λ (d : Database). Some d) (set_seen old.store h.store name row (copies_of old.store name row + 1)
          (copies_of old.store name row == 0) (adds_copy old.store kept.0 name row o h.store k).0
          (suc (copies_of old.store name row)) (omega arith))

      by : (o : Result AddOutcome Refusal) → AddsRow old.store name row o h.store
          → ChangeStep old s (add_outcome (row_in old.store.relations name row) o) h.store (add_reply o h.store.seq) e new
          → LineGoes old s r e new
      by (Err why) k c =
          let learned = not_added name row why h.store k in
          refused_change old r (edit (inserting name row)) (tried (add_outcome change (Err why))) h.store
          (refusal_line why) e new refl (same_author (edit (inserting name row)) refl)
          (ap (λ (m : Store). database_of m.relations) learned.store) (ap (λ (m : Store). m.queries) learned.store)
          (ap (λ (m : Store). m.seq) learned.store)
          (quiet_change old s x (add_outcome change (Err why)) h.store (refusal_line why) e new found runs
          (not_made change why) c) (why, refl)
      by (Ok (More copies)) k c =
          let d = done_of (add_refusal old.store name row) (More copies) (AddsAs old.store name row h.store) _ k.answer in
          let quiet = quiet_change old s x unchanged h.store (add_reply (Ok (More copies)) h.store.seq) e new found runs
          refl c in
          accepted old kept s x found runs r e new (edit (inserting name row)) ok _ refl
          (edits_alone (inserting name row) (only_sent s (ok ∷ [])) new (database_of h.store.relations) none
          (made (More copies) k)
          (copies_change old s h.store new connected (ap core_of quiet.state) (ap (λ (m : Store). m.queries) d.2)
          (ap (λ (m : Store). m.seq) d.2)
          (unchanged_rows old.store h.store name row (copies_of old.store name row + 1)
          (copies_of old.store name row == 0) (adds_copy old.store kept.0 name row (More copies) h.store k).0
          (was true d.0 ∙ sym is_then))))
          quiet.queued (edit_spelled (codes "ok added ") name row new h.store copies none
          (ap (λ (st : State). st.store) quiet.state) (adds_copy old.store kept.0 name row (More copies) h.store k).1)
      by (Ok First) k c =
          let d = done_of (add_refusal old.store name row) First (AddsAs old.store name row h.store) _ k.answer in
          let copies = (adds_copy old.store kept.0 name row First h.store k).0 in
          let reply = add_reply (Ok First) h.store.seq in
          let after : IsSoundStore h.store =
          subst IsSoundStore (change_store old s (is_accepted (row_in old.store.relations name row)) h.store reply e new c)
          sound in
          let spelled = edit_spelled (codes "ok added ") name row new h.store 1 none
          (change_store old s (is_accepted (row_in old.store.relations name row)) h.store reply e new c)
          (adds_copy old.store kept.0 name row First h.store k).1 in
          let relations = ap (λ (m : Store). m.relations) d.2 in
          let seq : h.store.seq ≡ old.store.seq + 1 = ap (λ (m : Store). m.seq) d.2 in
          let turned = λ (same : nat_lt 0 (copies_of old.store name row) ≡ nat_lt 0 (copies_of old.store name row + 1)).
          true_not_false (sym is_then ∙ sym same ∙ was false d.0) in
          line_changes r e new (edit (inserting name row))
          (sent_by old s (row_in old.store.relations name row) h.store reply e new c) refl
          (edits_alone (inserting name row) _ new (database_of h.store.relations) none (made First k)
          (changes_database old s (row_in old.store.relations name row) h.store reply e new c kept.0.queries rising kept.0
          after relations (core_of old) r spelled connected (ap (λ (m : Store). m.queries) d.2)
          (omega (arith, seq))
          (rows_changed_by old.store h.store name row (copies_of old.store name row + 1)
          (copies_of old.store name row == 0) copies turned)
          (λ q. affects_by old.store h.store name row (copies_of old.store name row + 1)
          (copies_of old.store name row == 0) copies turned q)))
          (spelled_to old s (row_in old.store.relations name row) h.store reply e new c kept.0.queries rising kept.0 after
          relations (core_of old) r spelled connected)
          (λ t i. silent_to old s (row_in old.store.relations name row) h.store reply e new c kept.0.queries rising kept.0
          after relations (core_of old) r spelled connected t (over_watches t i) i)

  pub delete_goes : (name : Bytes) (row : Tuple) (e : Effect) (new : State) → IsSoundStore new.store → x.batch ≡ None
      → DeleteStep old s name row e new → LineGoes old s (says_command (Del name row)) e new
  delete_goes name row e new sound none h = by h.result h.done h.change
    where
      r : Reading
      r = says_command (Del name row)

      change : RowsChange
      change = row_out old.store.relations name row

      was : (b : Bool) → has_row (rows_of old.store.relations name) row ≡ b → nat_lt 0 (copies_of old.store name row) ≡ b
      was b k = sym (present_row old.store kept.0 name row) ∙ k

      made : (o : DeleteOutcome) → has_row (rows_of old.store.relations name) row ≡ true
          → DeletesRow old.store name row (Ok o) h.store
          → all_edited (deleting name row ∷ []) (core_of old).db ≡ Some (database_of h.store.relations)
      made o there k =
          ap (λ b. option_and_then (all_edited []) (cond b (Some (copies_set (core_of old).db name row
          (copies_of old.store name row - 1))) None)) (was true there)
          ∙ ap (λ (d : Database). Some d) (set_seen old.store h.store name row (copies_of old.store name row - 1)
          (copies_of old.store name row == 1) (takes_copy old.store kept.0 name row o h.store k).0
          (copies_of old.store name row - 1) refl)

      by : (o : Result DeleteOutcome Refusal) → DeletesRow old.store name row o h.store
          → ChangeStep old s (delete_outcome (row_out old.store.relations name row) o) h.store
          (delete_reply o h.store.seq) e new → LineGoes old s r e new
      by (Err why) k c =
          refused_change old r (edit (deleting name row)) None h.store (refusal_line why) e new refl
          (same_author (edit (deleting name row)) refl) (ap (λ (m : Store). database_of m.relations) k.stays)
          (ap (λ (m : Store). m.queries) k.stays) (ap (λ (m : Store). m.seq) k.stays)
          (quiet_change old s x unchanged h.store (refusal_line why) e new found runs refl c) (inl (why, refl))
      by (Ok Absent) k c =
          let d = done_of (delete_refusal old.store name row) Absent (DeletesAs old.store name row h.store)
          (OutOfMemoryWhere ⊥) k.answer in
          let quiet = quiet_change old s x unchanged h.store (delete_reply (Ok Absent) h.store.seq) e new found runs refl c
          in
          refused_change old r (edit (deleting name row)) None h.store (delete_reply (Ok Absent) h.store.seq) e new refl
          (same_author (edit (deleting name row)) refl) (ap (λ (m : Store). database_of m.relations) d.1)
          (ap (λ (m : Store). m.queries) d.1) (ap (λ (m : Store). m.seq) d.1) quiet
          (inr (ap (λ (st : State). numbered_line (codes "ok absent ") st.store.seq) (sym quiet.state)))
      by (Ok (Left copies)) k c =
          let d = done_of (delete_refusal old.store name row) (Left copies) (DeletesAs old.store name row h.store)
          (OutOfMemoryWhere ⊥) k.answer in
          let quiet = quiet_change old s x unchanged h.store (delete_reply (Ok (Left copies)) h.store.seq) e new found runs
          refl c in
          let still : nat_lt 0 (copies_of old.store name row - 1) ≡ true =
          lt-ltb 0 (copies_of old.store name row - 1) (omega (arith, d.1, d.2)) in
          accepted old kept s x found runs r e new (edit (deleting name row)) ok _ refl
          (edits_alone (deleting name row) (only_sent s (ok ∷ [])) new (database_of h.store.relations) none
          (made (Left copies) d.0 k)
          (copies_change old s h.store new connected (ap core_of quiet.state) (ap (λ (m : Store). m.queries) d.3)
          (ap (λ (m : Store). m.seq) d.3)
          (unchanged_rows old.store h.store name row (copies_of old.store name row - 1)
          (copies_of old.store name row == 1) (takes_copy old.store kept.0 name row (Left copies) h.store k).0
          (was true d.0 ∙ sym still))))
          quiet.queued (edit_spelled (codes "ok removed ") name row new h.store copies none
          (ap (λ (st : State). st.store) quiet.state) (takes_copy old.store kept.0 name row (Left copies) h.store k).1)
      by (Ok Last) k c =
          let d = done_of (delete_refusal old.store name row) Last (DeletesAs old.store name row h.store)
          (OutOfMemoryWhere ⊥) k.answer in
          let copies = (takes_copy old.store kept.0 name row Last h.store k).0 in
          let reply = delete_reply (Ok Last) h.store.seq in
          let after : IsSoundStore h.store =
          subst IsSoundStore (change_store old s (is_accepted (row_out old.store.relations name row)) h.store reply e new
          c) sound in
          let spelled = edit_spelled (codes "ok removed ") name row new h.store 0 none
          (change_store old s (is_accepted (row_out old.store.relations name row)) h.store reply e new c)
          (takes_copy old.store kept.0 name row Last h.store k).1 in
          let relations = ap (λ (m : Store). m.relations) d.2 in
          let seq : h.store.seq ≡ old.store.seq + 1 = ap (λ (m : Store). m.seq) d.2 in
          let gone : nat_lt 0 (copies_of old.store name row - 1) ≡ false =
          le-ltb 0 (copies_of old.store name row - 1) (omega (arith, d.1)) in
          let turned = λ (same : nat_lt 0 (copies_of old.store name row) ≡ nat_lt 0 (copies_of old.store name row - 1)).
          true_not_false (sym (was true d.0) ∙ same ∙ gone) in
          line_changes r e new (edit (deleting name row))
          (sent_by old s (row_out old.store.relations name row) h.store reply e new c) refl
          (edits_alone (deleting name row) _ new (database_of h.store.relations) none (made Last d.0 k)
          (changes_database old s (row_out old.store.relations name row) h.store reply e new c kept.0.queries rising kept.0
          after relations (core_of old) r spelled connected (ap (λ (m : Store). m.queries) d.2)
          (omega (arith, seq))
          (rows_changed_by old.store h.store name row (copies_of old.store name row - 1)
          (copies_of old.store name row == 1) copies turned)
          (λ q. affects_by old.store h.store name row (copies_of old.store name row - 1)
          (copies_of old.store name row == 1) copies turned q)))
          (spelled_to old s (row_out old.store.relations name row) h.store reply e new c kept.0.queries rising kept.0 after
          relations (core_of old) r spelled connected)
          (λ t i. silent_to old s (row_out old.store.relations name row) h.store reply e new c kept.0.queries rising kept.0
          after relations (core_of old) r spelled connected t (over_watches t i) i)

  -- ---- lines

  -- the session without its batch
  abbrev closed : State
  closed = with_session old s without_batch

  closed_core : core_of closed ≡ with_client s (record me { batch = None }) (core_of old)
  closed_core = core_with old s without_batch (λ y. refl) (record me { batch = None })
      (ap (λ o. client_in (option_map without_batch o)) found ∙ ap (λ c. client_by c (without_batch x)) runs
      ∙ ap (λ (y : Client). record y { batch = None }) (sym (is_author old kept s x found runs)))

  closed_found : session_of closed s ≡ Some (without_batch x)
  closed_found = session_changed old s without_batch (λ y. refl) ∙ ap (λ o. option_map without_batch o) found

  closed_connected : ((core_of closed).client s).connected ≡ true
  closed_connected = is_connected closed s (without_batch x) closed_found runs

  closed_rising : AreRising closed
  closed_rising = subst (λ (is : List ℕ). AllPairs (λ a b. a < b) is)
      (sym (changed_ids (λ (y : Session). y.id == s) without_batch (λ y. refl) old.sessions)) rising

  other_session : (t : ℕ) → ((core_of old).client t).connected ≡ false → (s == t) ≡ false
  other_session t k = by (s == t) refl
    where
      by : (b : Bool) → (s == t) ≡ b → b ≡ false
      by false i = refl
      by true i =
          let is : ((core_of old).client t).connected ≡ true =
          ap (λ j. ((core_of old).client j).connected) (sym (eqb-true s t i)) ∙ connected in
          absurd (cc (is, k))

  same_session : (t : ℕ) → ((core_of old).client t).connected ≡ false → session_of closed t ≡ session_of old t
  same_session t k = session_other old s t without_batch (λ y. refl) (other_session t k)

  closed_watches : (t : ℕ) → ((core_of old).client t).connected ≡ false → WatchesNothing (session_of closed t)
  closed_watches t k = subst WatchesNothing (sym (same_session t k)) (over_watches t k)

  closed_over : (t : ℕ) → ((core_of old).client t).connected ≡ false → ((core_of closed).client t).connected ≡ false
  closed_over t k = ap (λ o. (client_in o).connected) (same_session t k) ∙ k

  not_carried_out : (lines : List HeldLine) (why : DoneRefusal)
      → is_made (lines_outcome old.store.relations lines (Err why)) ≡ false
  not_carried_out lines OtherNumber = refl
  not_carried_out lines LastChange = refl
  not_carried_out lines NoneLeft = refl
  not_carried_out lines (Line l) = by l.refusal refl
    where
      by : (w : LineRefusal) → l.refusal ≡ w → is_made (lines_outcome old.store.relations lines (Err (Line l))) ≡ false
      by OverLimit k = rw k refl
      by NoRow k = rw k refl
      by OutOfMemory k = rw k refl

  pub done_goes : (held : HeldTransaction) (given : Option ℕ) (e : Effect) (new : State) → IsSoundStore new.store
      → x.batch ≡ Some held → DoneStep old s held given e new → LineGoes old s (says_command (Done given)) e new
  done_goes held given e new sound is h = by h.result h.done h.change
    where
      r : Reading
      r = says_command (Done given)

      suit : SuitAll old.store held.lines
      suit = (subst (λ o. IfSome o (IsSoundBatch old.store)) is (sound_session old kept s x found runs).batch).suit

      after : (o : Result ℕ DoneRefusal) → ChangeStep closed s (lines_outcome old.store.relations held.lines o) h.store
          (done_reply o h.store.seq) e new → IsSoundStore h.store
      after o c = subst IsSoundStore (change_store closed s (lines_outcome old.store.relations held.lines o) h.store
          (done_reply o h.store.seq) e new c) sound

      -- its lines are carried out
      carried_out : (n : ℕ) (sent : Sent) → IsSoundStore h.store → DoesAll old.store held.lines given (Ok n) h.store
          → ChangesDatabase (core_of closed) s (database_of h.store.relations) sent (core_of new)
          → Accepts (core_of old) s done sent (core_of new)
      carried_out n sent kept_after k changes =
          and_some me.batch (λ es. Edits (with_client s (record me { batch = None }) (core_of old)) s es sent (core_of new))
          (line_edits held) (some_batch old kept s x found runs held is)
          (subst (λ (c : Core). Edits c s (line_edits held) sent (core_of new)) closed_core
          (and_some (all_edited (line_edits held) (core_of closed).db)
          (λ d. ChangesDatabase (core_of closed) s d sent (core_of new)) (database_of h.store.relations)
          (lines_edited old.store kept.0 held.lines suit given n h.store kept_after k) changes))

      by : (o : Result ℕ DoneRefusal) → DoesAll old.store held.lines given o h.store
          → ChangeStep closed s (lines_outcome old.store.relations held.lines o) h.store (done_reply o h.store.seq) e new
          → LineGoes old s r e new
      by (Err why) k c =
          refused_change closed r done (tried (lines_outcome old.store.relations held.lines (Err why))) h.store
          (refusal_line (done_word why)) e new refl closed_core
          (ap (λ (m : Store). database_of m.relations) k.does.1) (ap (λ (m : Store). m.queries) k.does.1)
          (ap (λ (m : Store). m.seq) k.does.1)
          (quiet_change closed s (without_batch x) (lines_outcome old.store.relations held.lines (Err why)) h.store
          (refusal_line (done_word why)) e new closed_found runs (not_carried_out held.lines why) c)
          (done_word why, refl)
      by (Ok zero) k c =
          let reply = done_reply (Ok zero) h.store.seq in
          let quiet = quiet_change closed s (without_batch x) unchanged h.store reply e new closed_found runs refl c in
          let seq : h.store.seq ≡ old.store.seq = ap (λ (m : Store). m.seq) k.does.1
          ∙ ap (λ m. cond (nat_lt 0 m) (old.store.seq + 1) old.store.seq) (sym k.does.0) in
          accepted old kept s x found runs r e new done ok reply refl
          (carried_out zero (only_sent s (ok ∷ [])) (after (Ok zero) c) k
          (copies_change closed s h.store new closed_connected (ap core_of quiet.state)
          (ap (λ (m : Store). m.queries) k.does.1) seq
          (lines_unchanged old.store kept.0 held.lines suit given zero h.store (after (Ok zero) c) k (sym k.does.0))))
          quiet.queued (zero, ap (λ (st : State). numbered_twice (codes "ok done ") st.store.seq 0) (sym quiet.state))
      by (Ok (suc n)) k c =
          let reply = done_reply (Ok (suc n)) h.store.seq in
          let change = lines_change old.store.relations held.lines in
          let some : nat_lt 0 (rows_changed old.store.relations held.lines) ≡ true =
          ap (λ m. nat_lt 0 m) (sym k.does.0) ∙ lt-ltb 0 (suc n) (omega arith) in
          let more : h.store.seq ≡ old.store.seq + 1 = ap (λ (m : Store). m.seq) k.does.1
          ∙ ap (λ b. cond b (old.store.seq + 1) old.store.seq) some in
          let seq : h.store.seq ≡ suc old.store.seq = omega (arith, more) in
          let kept_after = after (Ok (suc n)) c in
          let relations = ap (λ (m : Store). m.relations) k.does.1 in
          let numbers : reply ≡ numbered_twice (codes "ok done ") new.store.seq (suc n) =
          ap (λ (m : Store). numbered_twice (codes "ok done ") m.seq (suc n))
          (sym (change_store closed s (is_accepted change) h.store reply e new c)) in
          line_changes r e new done (sent_by closed s change h.store reply e new c) refl
          (carried_out (suc n) _ kept_after k
          (changes_database closed s change h.store reply e new c kept.0.queries closed_rising kept.0 kept_after relations
          (core_of old) r (suc n, numbers) closed_connected (ap (λ (m : Store). m.queries) k.does.1) seq
          (lines_changed old.store kept.0 held.lines suit given (suc n) h.store kept_after k seq)
          (λ q. lines_affect old.store kept.0 held.lines suit given (suc n) h.store kept_after k q)))
          (spelled_to closed s change h.store reply e new c kept.0.queries closed_rising kept.0 kept_after relations
          (core_of old) r (suc n, numbers) closed_connected)
          (λ t i. silent_to closed s change h.store reply e new c kept.0.queries closed_rising kept.0 kept_after relations
          (core_of old) r (suc n, numbers) closed_connected t (closed_watches t i) (closed_over t i))
