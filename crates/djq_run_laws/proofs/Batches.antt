-- What lines that are carried out make of a store, and a command of rows of a state.
use Rattle.std.specs.Prelude.{ℕ, zero, suc, List, [], ◌∷◌, ◌≡◌, ◌<◌, ◌≤◌, ◌++◌, ◌+◌, ◌&&◌, Bool, true, false, cond}
use Rattle.std.specs.Prelude.{length, nat_le}
use Rattle.std.specs.Prelude.{nat_lt, Option, None, Some, find, map, Result, Ok, Err, All, ◌==◌}
use Rattle.std.specs.List.{flat_map}
use Rattle.std.specs.Option.{option_or, option_map}
use Rattle.std.proofs.Common.{refl, sym, ap, ◌∙◌, subst, inl, inr, arith}
use Rattle.std.proofs.lemmas.List.Elements.{All-nil, All-cons, All-contains}
use Rattle.std.proofs.lemmas.Bool.{leb-false, lt-ltb}
use Rattle.djq_model.specs.Data.{Bytes, rows_of, change_first}
use Rattle.djq_model.specs.Known.{learned, all_learned}
use Rattle.djq_model.specs.Listed.{Listed}
use Rattle.djq_protocol.specs.declared.limits.TheConstants.{TEXTS, LAST_SEQ}
use Rattle.djq_protocol.specs.declared.held.LineRefusal.{LineRefusal}
use Rattle.djq_protocol.specs.declared.held.LineRefusal.TheVariants.{Limit, Absent, NoMemory}
use Rattle.djq_protocol.specs.declared.held.RefusedLine.{RefusedLine}
use Rattle.djq_protocol.specs.declared.held.DoneRefusal.{DoneRefusal}
use Rattle.djq_protocol.specs.declared.held.DoneRefusal.TheVariants.{OtherNumber, Line, LastChange}
use Rattle.djq_protocol.specs.declared.held.DoneRefusal.TheVariants.{NoMemory as NoneLeft}
use Rattle.djq_store_spec.specs.Store.{Store}
use Rattle.djq_store_spec.specs.Stale.{listed_reads}
use Rattle.djq_store_spec.specs.Held.{HeldLine, HeldTransaction}
use Rattle.djq_store_spec.specs.Lines.{relations_after}
use Rattle.djq_store_spec.specs.Judging.{texts_added, texts_after, lines_refusal, StopsAtLine}
use Rattle.djq_store_spec.specs.Done.{rows_changed, has_changed, is_other, refused_if, seq_refusal, done_refusal}
use Rattle.djq_store_spec.specs.Done.{AnswersDone, RefusesDone}
use Rattle.djq_store_spec.specs.Transaction.{HaveCopies, DoesAll, lines_outcome}
use Rattle.djq_store_spec.specs.Changes.{RowsOutcome, row_in, row_out, add_outcome, delete_outcome}
use Rattle.djq_machine.specs.State.{State, Session, with_session}
use Rattle.djq_machine.specs.Effect.{Effect}
use Rattle.djq_machine.specs.Watch.{ChangeStep}
use Rattle.djq_machine.specs.Command.{without_batch}
use Rattle.djq_run_laws.specs.Form.{LearnsTexts, carries_out, RowCommand, row_comes, row_goes, RowsChanged}
use Rattle.djq_run_laws.proofs.RegisteredQueries.{SameAnswers, read_same}
use Rattle.djq_run_laws.proofs.Forms.{stays_learned, second_fails}
use Rattle.djq_run_laws.proofs.RowCommands.{RowsMade, learns_keeps, added, deleted}
use Rattle.djq_run_laws.proofs.DoneLines.{lines_within, lines_names, lines_types, lines_count, lines_rows, rows_rest}
use Rattle.djq_run_laws.proofs.DoneLines.{rows_unchanged, changed_named}

-- ---- What lines that are carried out make of a store: a change of the relations of which rows come or go, or none.

-- ---- texts

pub learned_append : (known first rest : List Bytes)
    → all_learned known (first ++ rest) ≡ all_learned (all_learned known first) rest
learned_append known [] rest = refl
learned_append known (t ∷ ts) rest = learned_append (learned known t) ts rest

pub texts_learned : (texts : List Bytes) (lines : List HeldLine)
    → texts_after texts lines ≡ all_learned texts (flat_map texts_added lines)
texts_learned texts [] = refl
texts_learned texts (h ∷ hs) =
    texts_learned (all_learned texts (texts_added h)) hs
    ∙ sym (learned_append texts (texts_added h) (flat_map texts_added hs))

-- the texts of lines that pass, and then some, become known
module _ (old new : Store) (lines : List HeldLine) (passed : lines_refusal old.relations old.texts lines ≡ None)
    (stays : new ≡ record old { texts = new.texts }) where
  all_known : new.texts ≡ texts_after old.texts lines → LearnsTexts old new
  all_known e = record {
    texts = flat_map texts_added lines;
    few = λ few. subst (λ (ts : List Bytes). length ts ≤ TEXTS) (sym e)
        ((lines_within old.relations old.texts lines passed).known few);
    store = stays ∙ ap (λ (ts : List Bytes). record old { texts = ts }) (e ∙ texts_learned old.texts lines);
  }

  more_known : (first : List Bytes) → length new.texts ≤ TEXTS
      → new.texts ≡ all_learned (texts_after old.texts lines) first → LearnsTexts old new
  more_known first few e = record {
    texts = flat_map texts_added lines ++ first;
    few = λ _. few;
    store = stays ∙ ap (λ (ts : List Bytes). record old { texts = ts })
        (e ∙ ap (λ (ts : List Bytes). all_learned ts first) (texts_learned old.texts lines)
        ∙ sym (learned_append old.texts (flat_map texts_added lines) first));
  }

stops_learned : (old new : Store) (front : List HeldLine) (at : HeldLine) (r : LineRefusal)
    → lines_refusal old.relations old.texts front ≡ None
    → StopsAtLine old.relations front (texts_after old.texts front) at new.texts r
    → new ≡ record old { texts = new.texts } → LearnsTexts old new
stops_learned old new front at Limit places (inl h) stays = all_known old new front places stays h.1
stops_learned old new front at Limit places (inr h) stays =
    more_known old new front places stays h.1.first (omega (arith, h.1.full)) h.1.learned
stops_learned old new front at Absent places h stays = all_known old new front places stays h.1
stops_learned old new front at NoMemory places h stays =
    more_known old new front places stays h.2.first h.3 h.2.learned

-- ---- why `done` is refused

-- where all lines pass, or only the number of changes refuses
lines_pass : (a : Bool) (o : Option RefusedLine) (s : Option DoneRefusal)
    → option_or (refused_if a OtherNumber) (option_or (option_map (λ r. Line r) o) s) ≡ None → (o ≡ None) × (s ≡ None)
lines_pass false None s e = (refl, e)
lines_pass false (Some r) s e = absurd cc
lines_pass true o s e = absurd cc

only_last : (a : Bool) (o : Option RefusedLine) (s : Option DoneRefusal)
    → option_or (refused_if a OtherNumber) (option_or (option_map (λ r. Line r) o) s) ≡ Some LastChange → o ≡ None
only_last false None s e = refl
only_last false (Some r) s e = absurd cc
only_last true o s e = absurd cc

module _ (old : Store) (lines : List HeldLine) (given : Option ℕ) where
  abbrev other : Bool
  other = is_other given (length lines)

  abbrev first : Option RefusedLine
  first = lines_refusal old.relations old.texts lines

  abbrev last : Option DoneRefusal
  last = seq_refusal old.relations old.seq lines

  pub not_refused : done_refusal old.relations old.texts old.seq lines given ≡ None → (first ≡ None) × (last ≡ None)
  not_refused e = lines_pass other first last e

  -- A `done` that is refused changes no more than which texts are known.
  refused_known : (new : Store) (r : DoneRefusal)
      → AnswersDone {A = ℕ} other (done_refusal old.relations old.texts old.seq lines given) (Err r)
      → RefusesDone old.relations old.texts lines new.texts r → new ≡ record old { texts = new.texts }
      → LearnsTexts old new
  refused_known new OtherNumber answer h stays =
      stays_learned old new (stays ∙ ap (λ (ts : List Bytes). record old { texts = ts }) h)
  refused_known new (Line r) answer h stays = stops_learned old new h.front h.at r.refusal h.places h.stops stays
  refused_known new LastChange answer h stays =
      all_known old new lines (only_last other first last answer) stays h
  refused_known new NoneLeft answer h stays = all_known old new lines (not_refused answer).0 stays h

  pub not_done : (r : DoneRefusal) (new : Store) → DoesAll old lines given (Err r) new → LearnsTexts old new
  not_done r new h = refused_known new r h.answer h.does.0 h.does.1

  -- where rows come or go one more change may be counted
  pub changes_below : (n : ℕ) → rows_changed old.relations lines ≡ suc n → last ≡ None → old.seq < LAST_SEQ
  changes_below n some none =
      leb-false LAST_SEQ old.seq
      (second_fails (nat_lt 0 (rows_changed old.relations lines)) (nat_le LAST_SEQ old.seq)
      (lt-ltb 0 (rows_changed old.relations lines) (omega (arith, some)))
      (unrefused (nat_lt 0 (rows_changed old.relations lines) && nat_le LAST_SEQ old.seq) none))
    where
      unrefused : (b : Bool) → refused_if b LastChange ≡ None → b ≡ false
      unrefused false e = refl
      unrefused true e = absurd cc

-- ---- queries

-- what is looked for and isn't found fails the test
none_found : (p : Bytes → Bool) (xs : List Bytes) → find p xs ≡ None → All (λ x. p x ≡ false) xs
none_found p [] h = All-nil (λ x. p x ≡ false)
none_found p (x ∷ xs) h = by (p x) refl h (λ k. none_found p xs k)
  where
    by : (b : Bool) → p x ≡ b → cond b (Some x) (find p xs) ≡ None
        → (find p xs ≡ None → All (λ y. p y ≡ false) xs) → All (λ y. p y ≡ false) (x ∷ xs)
    by true e k rest = absurd cc
    by false e k rest = All-cons (λ y. p y ≡ false) x xs e (rest k)

-- A query that lines don't outdate reads no relation of which a row comes or goes.
lines_spare : (st : Store) (lines : List HeldLine) (q : Listed) → HaveCopies st.relations lines
    → find (λ name. has_changed st.relations lines name && listed_reads q name)
    (map (λ (h : HeldLine). h.relation) lines) ≡ None
    → SameAnswers st.relations (relations_after st.relations lines) q
lines_spare st lines q counted none =
    read_same st.relations (relations_after st.relations lines) q
    (λ n read. by n read (has_changed st.relations lines n) refl)
  where
    test : Bytes → Bool
    test name = has_changed st.relations lines name && listed_reads q name

    fails : (n : Bytes) → listed_reads q n ≡ true → has_changed st.relations lines n ≡ true → ⊥
    fails n read come =
        let no : test n ≡ false = All-contains (λ x. test x ≡ false) (map (λ (h : HeldLine). h.relation) lines) n
        (none_found test (map (λ (h : HeldLine). h.relation) lines) none) (changed_named st.relations lines n come) in
        let yes : test n ≡ true = ap (λ (b : Bool). b && listed_reads q n) come ∙ read in
        cc

    by : (n : Bytes) → listed_reads q n ≡ true → (b : Bool) → has_changed st.relations lines n ≡ b
        → rows_of (relations_after st.relations lines) n ≡ rows_of st.relations n
    by n read false e = rows_rest st lines counted n e
    by n read true e = absurd (fails n read e)

-- ---- `done`

module _ (old : Store) (held : HeldTransaction) (given : Option ℕ) (new : Store) where
  abbrev lines : List HeldLine
  lines = held.lines

  abbrev command : RowCommand
  command = carries_out held given

  -- a refused one is no change, or one that found no memory
  refused_made : (r : DoneRefusal) → LearnsTexts old new
      → RowsMade command old (lines_outcome old.relations lines (Err r)) new
  refused_made OtherNumber h = learns_keeps command old new h
  refused_made (Line r) h = by r.refusal
    where
      by : (q : LineRefusal) → RowsMade command old
          (lines_outcome old.relations lines (Err (Line (record { at = r.at; refusal = q })))) new
      by Limit = learns_keeps command old new h
      by Absent = learns_keeps command old new h
      by NoMemory = h
  refused_made LastChange h = learns_keeps command old new h
  refused_made NoneLeft h = h

  pub batched : (r : Result ℕ DoneRefusal) → DoesAll old lines given r new
      → RowsMade command old (lines_outcome old.relations lines r) new
  batched (Ok zero) h =
      let none = not_refused old lines given h.answer in
      let known : length old.texts ≤ TEXTS → length (texts_after old.texts lines) ≤ TEXTS =
      (lines_within old.relations old.texts lines none.0).known in
      let same : nat_lt 0 (rows_changed old.relations lines) ≡ false = ap (λ (n : ℕ). nat_lt 0 n) (sym h.does.0) in
      record {
        relations = relations_after old.relations lines;
        same = rows_unchanged old lines h.counted (sym h.does.0);
        names = lines_names old lines;
        types = lines_types old lines;
        rows = λ suit sound. lines_rows old lines sound old.texts none.0 suit;
        count = lines_count old lines;
        texts = flat_map texts_added lines;
        few = λ few. subst (λ (st : Store). length st.texts ≤ TEXTS) (sym h.does.1) (known few);
        store = h.does.1 ∙ ap (λ (b : Bool). record old {
          relations = relations_after old.relations lines;
          texts = texts_after old.texts lines;
          seq = cond b (old.seq + 1) old.seq;
        }) same ∙ ap (λ (ts : List Bytes). record old { relations = relations_after old.relations lines; texts = ts })
            (texts_learned old.texts lines);
      }
  batched (Ok (suc n)) h =
      let none = not_refused old lines given h.answer in
      let known : length old.texts ≤ TEXTS → length (texts_after old.texts lines) ≤ TEXTS =
      (lines_within old.relations old.texts lines none.0).known in
      let some : nat_lt 0 (rows_changed old.relations lines) ≡ true =
      lt-ltb 0 (rows_changed old.relations lines) (omega (arith, h.does.0)) in
      record {
        outdates = λ q. refl;
        spares = λ q spared. lines_spare old lines q h.counted spared;
        names = lines_names old lines;
        types = lines_types old lines;
        rows = λ suit sound. lines_rows old lines sound old.texts none.0 suit;
        count = lines_count old lines;
        below = changes_below old lines given n (sym h.does.0) none.1;
        texts = flat_map texts_added lines;
        few = λ few. subst (λ (st : Store). length st.texts ≤ TEXTS) (sym h.does.1) (known few);
        store = h.does.1 ∙ ap (λ (b : Bool). record old {
          relations = relations_after old.relations lines;
          texts = texts_after old.texts lines;
          seq = cond b (old.seq + 1) old.seq;
        }) some ∙ ap (λ (ts : List Bytes).
            record old { relations = relations_after old.relations lines; texts = ts; seq = old.seq + 1 })
            (texts_learned old.texts lines);
      }
  batched (Err r) h = refused_made r (not_done old lines given r new h)

-- ---- What a command of rows does to a state.

-- what a command of rows makes of its session, before its change is told: a batch that it ends is closed
abbrev pub closing : RowCommand → Session → Session
closing (row_comes name row) x = x
closing (row_goes name row) x = x
closing (carries_out held given) x = without_batch x

-- the state in which it is told
abbrev pub begun : State → ℕ → RowCommand → State
begun old s c = with_session old s (closing c)

-- A command of rows is done on the store, and its change told.
pub record DoesRows (old : State) (s : ℕ) (c : RowCommand) (e : Effect) (new : State) : Type 0 where
  pub outcome : RowsOutcome
  pub store : Store
  pub reply : Bytes
  pub made : RowsMade c old.store outcome store
  pub change : ChangeStep (begun old s c) s outcome store reply e new

-- a session that stays
same_first : (p : Session → Bool) (xs : List Session) → change_first p (λ (x : Session). x) xs ≡ xs
same_first p [] = refl
same_first p (x ∷ xs) = by (p x) (same_first p xs)
  where
    by : (b : Bool) → change_first p (λ (y : Session). y) xs ≡ xs
        → cond b (x ∷ xs) (x ∷ change_first p (λ (y : Session). y) xs) ≡ x ∷ xs
    by true h = refl
    by false h = ap (λ (ys : List Session). x ∷ ys) h

begun_same : (old : State) (s : ℕ) → old ≡ with_session old s (λ x. x)
begun_same old s =
    ap (λ (xs : List Session). record old { sessions = xs })
    (sym (same_first (λ (x : Session). x.id == s) old.sessions))

from_begun : (old : State) (s : ℕ) (o : RowsOutcome) (store : Store) (reply : Bytes) (e : Effect) (new : State)
    → ChangeStep old s o store reply e new → ChangeStep (with_session old s (λ x. x)) s o store reply e new
from_begun old s o store reply e new h =
    subst (λ (st : State). ChangeStep st s o store reply e new) (begun_same old s) h

pub rows_do : (old : State) (s : ℕ) (c : RowCommand) (e : Effect) (new : State) → RowsChanged old s c e new
    → DoesRows old s c e new
rows_do old s (row_comes name row) e new h = record {
  outcome = add_outcome (row_in old.store.relations name row) h.result;
  store = h.store;
  reply = _;
  made = added old.store name row h.result h.store h.done;
  change = from_begun old s _ h.store _ e new h.change;
}
rows_do old s (row_goes name row) e new h = record {
  outcome = delete_outcome (row_out old.store.relations name row) h.result;
  store = h.store;
  reply = _;
  made = deleted old.store name row h.result h.store h.done;
  change = from_begun old s _ h.store _ e new h.change;
}
rows_do old s (carries_out held given) e new h = record {
  outcome = lines_outcome old.store.relations held.lines h.result;
  store = h.store;
  reply = _;
  made = batched old.store held given h.store h.result h.done;
  change = h.change;
}

-- Nothing else of its session changes.
pub closing_id : (c : RowCommand) (x : Session) → (closing c x).id ≡ x.id
closing_id (row_comes name row) x = refl
closing_id (row_goes name row) x = refl
closing_id (carries_out held given) x = refl

pub closing_pending : (c : RowCommand) (x : Session) → (closing c x).pending ≡ x.pending
closing_pending (row_comes name row) x = refl
closing_pending (row_goes name row) x = refl
closing_pending (carries_out held given) x = refl

pub closing_held : (c : RowCommand) (x : Session) → (closing c x).held ≡ x.held
closing_held (row_comes name row) x = refl
closing_held (row_goes name row) x = refl
closing_held (carries_out held given) x = refl

pub closing_cause : (c : RowCommand) (x : Session) → (closing c x).cause ≡ x.cause
closing_cause (row_comes name row) x = refl
closing_cause (row_goes name row) x = refl
closing_cause (carries_out held given) x = refl

pub closing_cursors : (c : RowCommand) (x : Session) → (closing c x).cursors ≡ x.cursors
closing_cursors (row_comes name row) x = refl
closing_cursors (row_goes name row) x = refl
closing_cursors (carries_out held given) x = refl

pub closing_watches : (c : RowCommand) (x : Session) → (closing c x).watches ≡ x.watches
closing_watches (row_comes name row) x = refl
closing_watches (row_goes name row) x = refl
closing_watches (carries_out held given) x = refl
