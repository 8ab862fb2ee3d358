-- Dialogues of sessions, as theorems.
use Rattle.std.specs.Prelude.{ℕ, List, [], ◌∷◌, ◌++◌, ◌≡◌, ◌≤◌, ◌+◌, ◌-◌, ◌==◌, Contains, map, get_or, ◌&&◌, ◌||◌, ◌⊎◌, Bool, true, false, None, Some, Option, IsSomeAnd, Ok, Err, All, codes, pos, length, IsPermutation}
use Rattle.std.specs.Str.{bytes_eq}
use Rattle.std.specs.List.{list_any}
use Rattle.std.specs.Fmt.{digits}
use Rattle.std.proofs.Common.{refl, sym, ap, ◌∙◌, subst, inl, inr, arith, length-append, append-nil}
use Rattle.std.proofs.lemmas.Bool.{true≢false, and_parts, eqb-false}
use Rattle.std.proofs.lemmas.List.Elements.{All-nil, All-cons, All-head}
use Rattle.std.proofs.lemmas.Slice.Eq.{bytes_eq-Decides}
use Rattle.std.proofs.lemmas.List.Sorted.{length_permutation, All-permutation}
use Rattle.djq_model.specs.declared.relation.Relation.{Relation}
use Rattle.djq_model.specs.declared.relation.CountedRow.{CountedRow}
use Rattle.djq_model.specs.declared.relation.ColumnType.TheVariants.{Int as IntColumn}
use Rattle.djq_model.specs.declared.value.Value.{Value}
use Rattle.djq_model.specs.declared.value.Value.TheVariants.{Int}
use Rattle.djq_model.specs.declared.query.Atom.{Atom}
use Rattle.djq_model.specs.declared.query.Term.TheVariants.{Variable}
use Rattle.djq_model.specs.Answer.{IsAnswer, Satisfies, HoldsOf, StandForAll}
use Rattle.djq_protocol.specs.declared.answer.Sign.{Sign}
use Rattle.djq_protocol.specs.declared.answer.Sign.TheVariants.{Came, Went}
use Rattle.djq_answer_laws.proofs.Lists.{first_there, later_there, first_or_later}
use Rattle.djq_run_laws.proofs.Lists.{nothing_apart}
use Rattle.std.proofs.lemmas.List.Kept.{AllPairs-cons}
use Rattle.std.proofs.lemmas.List.{get_or-append-add}
use Rattle.std.proofs.lemmas.Grind.{flat_map-append}
use Rattle.djq_model.specs.Data.{Bytes, Tuple, plain_of, rows_of, has_row}
use Rattle.djq_protocol.specs.declared.limits.TheConstants.{PENDING_BYTES}
use Rattle.djq_protocol.specs.declared.answer.AddOutcome.TheVariants.{First, More}
use Rattle.djq_protocol.specs.declared.answer.DeleteOutcome.TheVariants.{Last, Absent}
use Rattle.djq_protocol.specs.declared.command.Command.TheVariants.{Rel, Add, Del, Has, Watch, Open, Next, Batch, Done, Query as Register}
use Rattle.djq_protocol.specs.declared.answer.Refusal.TheVariants.{Syntax}
use Rattle.djq_protocol.specs.declared.rest.QueryOutcome.TheVariants.{Registered, Cyclic}
use Rattle.djq_protocol.specs.declared.rest.NamedRest.{NamedRest}
use Rattle.djq_protocol.specs.Rest.{is_before, IsNamedRest}
use Rattle.djq_hypergraph.specs.Refusing.{IsCyclic}
use Rattle.djq_model.specs.declared.query.Query.{Query}
use Rattle.djq_determinacy.proofs.Triangle.{triangle, triangle_cyclic}
use Rattle.djq_value.specs.Token.{tokens}
use Rattle.std.specs.Str.{is_utf8, chars}
use lib.Utf8.{encode}
use Rattle.djq_protocol.specs.Hypergraph.{edges_of, edges_from, numbers_in}
use Rattle.djq_hypergraph.specs.JoinTree.{IsFreeConnex}
use Rattle.djq_hypergraph.proofs.Labels.{count_self}
use Rattle.djq_hypergraph.proofs.LabelTrees.{Rooted, hung_on}
use Rattle.djq_hypergraph.proofs.JoinTrees.{free_connex_from}
use Rattle.djq_protocol.specs.Line.{a_line, front_of, is_blank}
use Rattle.djq_protocol.specs.Grammar.{Reading, outside, says_command, reading_of, command_of, items_in}
use Rattle.djq_protocol.specs.Reply.{line, refusal_line, text_of, answer_line, last_line, listing_lines, cells_text}
use Rattle.djq_store_spec.specs.Store.{Store, Position, open_at, stale, empty_store}
use Rattle.djq_store_spec.specs.Listing.{TellsAnswers}
use Rattle.djq_store_spec.specs.Held.{HeldLine, HeldTransaction, nothing_held, holding}
use Rattle.djq_store_spec.specs.Lines.{copies_before}
use Rattle.djq_store_spec.specs.Transaction.{lines_change}
use Rattle.djq_protocol.specs.declared.held.Verb.TheVariants.{Add as Adds, Delete as Deletes}
use Rattle.djq_protocol.specs.declared.held.LineRefusal.TheVariants.{Absent as NoneThere}
use Rattle.djq_protocol.specs.declared.held.DoneRefusal.TheVariants.{Line}
use Rattle.djq_machine.specs.State.{State, Session, Cursor, fresh, session_of, with_session}
use Rattle.djq_machine.specs.Effect.{Effect, answers, says, queue_all}
use Rattle.djq_machine.specs.Keeping.{Keeping, no_line, the_line, the_batch}
use Rattle.djq_machine.specs.LineStep.{run, ReadStep, FrontStep, behind_line}
use Rattle.djq_machine.specs.Step.{stepped, Step, Acts, SameRelations, with_relations}
use Rattle.djq_machine.specs.Walk.{Walk}
use Rattle.djq_machine.specs.Outdating.{changed}
use Rattle.djq_machine.specs.Watch.{Telling, affected, RepliesLast, ChangeStep}
use Rattle.djq_store_spec.specs.Changes.{RowsChange, accepted, unchanged, row_in, row_out}
use Rattle.djq_store_spec.specs.Delta.{Change, HasChanged, IsDelta, delta_lines}
use Rattle.djq_store_spec.specs.DeltaCost.{Delta, Part, ListsAnswers, AreDeltas, ArePartsOf, ListsDelta}
use Rattle.djq_model.specs.Listed.{Listed, a_query, AnswersOf}
use Rattle.djq_determinacy.specs.Determinacy.{SameText, is_equal, are_pages, are_deltas, SameQueued, IsNoRefusal}
use Rattle.djq_determinacy.specs.Sessions.{DialogueLine, Dialogue, RunsWith, IsRunOfMachine, IsMachineDialogue, DifferByOne, start_of, says_and_gets, ends_with, AreDialogues, dialogues, makes_r, inserts_seven, registers_q, watches_q, opens_c, opens_batch, delta_of, delta_first, page_sent, other_session, row_updated}
use Rattle.djq_determinacy.specs.Dialogues.{sevens, differences}
use Rattle.djq_determinacy.proofs.Dialogues.{is_list, only_text, not_memory_text, seven_is_answer, reads_rel, reads_add, reads_del, reads_part, reads_has, reads_watch, reads_open, reads_batch, reads_done}
use Rattle.djq_determinacy.proofs.Prefixes.{step_of, same_relations}
use Rattle.djq_determinacy.proofs.Steps.{is_determined, run_same, reads_next}

-- ---- Rows without an order.

-- a relation of one row at most has one order
abbrev few_rows : List CountedRow → Bool
few_rows [] = true
few_rows (x ∷ []) = true
few_rows (x ∷ y ∷ rows) = false

abbrev are_few : List Relation → Bool
are_few [] = true
are_few (r ∷ rs) = few_rows r.rows && are_few rs

no_others : {A : Type 0} (ys : List A) → IsPermutation [] ys → ys ≡ []
no_others ys moved = by ys (length_permutation [] ys moved)
  where
    by : {A : Type 0} (ys : List A) → length ys ≡ 0 → ys ≡ []
    by [] is = refl
    by (y ∷ ys) is = absurd (omega (arith, is))

that_one : {A : Type 0} (x : A) (ys : List A) → IsPermutation (x ∷ []) ys → ys ≡ x ∷ []
that_one {A = A} x ys moved =
    by ys (length_permutation (x ∷ []) ys moved) (All-permutation (λ (z : A). z ≡ x) (x ∷ []) ys moved
    (All-cons (λ (z : A). z ≡ x) x [] refl (All-nil (λ (z : A). z ≡ x))))
  where
    by : (ys : List A) → length ys ≡ 1 → All (λ (z : A). z ≡ x) ys → ys ≡ x ∷ []
    by [] is all = absurd (omega (arith, is))
    by (y ∷ []) is all = ap (λ (z : A). z ∷ []) (All-head (λ (z : A). z ≡ x) y [] all)
    by (y ∷ z ∷ ys) is all = absurd (omega (arith, is))

one_order : (xs ys : List CountedRow) → few_rows xs ≡ true → IsPermutation xs ys → ys ≡ xs
one_order [] ys few moved = no_others ys moved
one_order (x ∷ []) ys few moved = that_one x ys moved
one_order (x ∷ z ∷ xs) ys few moved = absurd (true≢false (sym few))

same_few : (rs qs : List Relation) → are_few rs ≡ true → SameRelations rs qs → qs ≡ rs
same_few [] [] few same = refl
same_few (r ∷ rs) (q ∷ qs) few same =
    let parts = and_parts (few_rows r.rows) (are_few rs) few in
    let first : q ≡ r = ap (λ name. record { name = name; types = q.types; rows = q.rows }) same.0
    ∙ ap (λ types. record { name = r.name; types = types; rows = q.rows }) same.1
    ∙ ap (λ rows. record { name = r.name; types = r.types; rows = rows }) (one_order r.rows q.rows parts.0 same.2) in
    ap (λ (x : Relation). x ∷ qs) first ∙ ap (λ xs. r ∷ xs) (same_few rs qs parts.1 same.3)
same_few [] (q ∷ qs) few same = absurd same
same_few (r ∷ rs) [] few same = absurd same

-- ---- A line that leaves one state, however it is run.

abbrev IsClean : List (ℕ × Bytes) → Type 0
IsClean queued = All (λ (q : ℕ × Bytes). IsNoRefusal q.1) queued

record IsSure (old : State) (x : DialogueLine) (new : State) : Type 0 where
  session : Session
  found : session_of old x.session ≡ Some session
  goes : session.cause ≡ None
  other : reads_next (reading_of x.says) ≡ false
  clean : IsClean x.queued
  effect : Effect
  queued : effect.queued ≡ x.queued
  step : Step old (stepped x.session (run x.says)) effect new
  few : are_few step.mid.store.relations ≡ true

sure_one : (old : State) (x : DialogueLine) (a b : State) → IsSure old x a → RunsWith old x b → a ≡ b
sure_one old x a b h k =
    h.step.queued ∙ ap (λ rs. queue_all (with_relations h.step.mid rs) h.effect.queued) (order ∙ sym order')
    ∙ ap (λ qs. queue_all (with_relations h.step.mid k.2.relations) qs) (h.queued ∙ sym k.1)
    ∙ ap (λ (st : State). queue_all (with_relations st k.2.relations) k.0.queued) mids ∙ sym k.2.queued
  where
    front : (e : Effect) (mid : State)
        → IsSomeAnd (session_of old x.session) (λ y. (y.cause ≡ None) × FrontStep old x.session y (run x.says) e mid)
        → FrontStep old x.session h.session (run x.says) e mid
    front e mid acts =
        (subst (λ o. IsSomeAnd o (λ (y : Session). (y.cause ≡ None) × FrontStep old x.session y (run x.says) e mid)) h.found
        acts).1

    mids : h.step.mid ≡ k.2.mid
    mids = (run_same x.session h.effect k.0 h.step.mid k.2.mid (subst IsClean (sym h.queued) h.clean)
        (subst IsClean (sym k.1) h.clean) old h.session x.says h.other h.found h.goes
        (front h.effect h.step.mid h.step.acts) (front k.0 k.2.mid k.2.acts)).1

    order : h.step.relations ≡ h.step.mid.store.relations
    order = same_few h.step.mid.store.relations h.step.relations h.few h.step.reordered

    order' : k.2.relations ≡ h.step.mid.store.relations
    order' = same_few h.step.mid.store.relations k.2.relations h.few
        (subst (λ (st : State). SameRelations st.store.relations k.2.relations) (sym mids) k.2.reordered)

sure_way : (xs : List DialogueLine) (old a b : State) → Walk IsSure old xs a → Walk RunsWith old xs b → a ≡ b
sure_way [] old a b h k = h ∙ sym k
sure_way (x ∷ xs) old a b h k =
    sure_way xs h.0 a b h.2 (subst (λ (st : State). Walk RunsWith st xs b) (sym (sure_one old x h.0 k.0 h.1 k.1)) k.2)

-- the last line of a walk, and those before it
split_last : (xs : List DialogueLine) (x : DialogueLine) (old new : State) → Walk RunsWith old (xs ++ x ∷ []) new
    → (at : State) × Walk RunsWith old xs at × RunsWith at x new
split_last [] x old new w = (old, refl, subst (λ (st : State). RunsWith old x st) (sym w.2) w.1)
split_last (y ∷ ys) x old new w =
    let more = split_last ys x w.0 new w.2 in (more.0, (w.0, w.1, more.1), more.2)

join_last : (xs : List DialogueLine) (x : DialogueLine) (old at new : State) → Walk IsSure old xs at → RunsWith at x new
    → Walk RunsWith old (xs ++ x ∷ []) new
join_last [] x old at new w last = (new, subst (λ (st : State). RunsWith st x new) w last, refl)
join_last (y ∷ ys) x old at new w last =
    (w.0, (w.1.effect, w.1.queued, w.1.step), join_last ys x w.0 at new w.2 last)

-- a dialogue, by a walk that no other one leaves
is_dialogue : (d : Dialogue) (at new : State)
    → start_of (d.before ++ record d.last { queued = d.other } ∷ []) ≡ start_of (d.before ++ d.last ∷ [])
    → Walk IsSure (start_of (d.before ++ d.last ∷ [])) d.before at → RunsWith at d.last new → IsClean d.last.queued
    → IsClean d.other → (SameQueued d.last.queued d.other → ⊥) → DifferByOne d.last.queued d.other → IsMachineDialogue d
is_dialogue d at new start way last clean clean' apart one = record {
  so = (new, join_last d.before d.last (start_of (d.before ++ d.last ∷ [])) at new way last);
  one_byte = one;
  not_so = none;
}
  where
    none : IsRunOfMachine (d.before ++ record d.last { queued = d.other } ∷ []) → ⊥
    none w =
        let parts = split_last d.before (record d.last { queued = d.other }) (start_of (d.before ++ d.last ∷ [])) w.0
        (subst (λ (st : State). Walk RunsWith st (d.before ++ record d.last { queued = d.other } ∷ []) w.0) start w.1) in
        let here = sure_way d.before (start_of (d.before ++ d.last ∷ [])) at parts.0 way parts.1 in
        let k = subst (λ (st : State). RunsWith st (record d.last { queued = d.other }) w.0) (sym here) parts.2 in
        let same = is_determined at (stepped d.last.session (run d.last.says)) last.0 k.0 new w.0 last.2 k.2
        (subst IsClean (sym last.1) clean) (subst IsClean (sym k.1) clean') in
        apart (subst (λ qs. SameQueued qs d.other) last.1 (subst (λ qs. SameQueued last.0.queued qs) k.1 same.0))

-- ---- One line, by what it says.

acts_with : (old : State) (x : DialogueLine) (y : Session) (r : Reading) (rest : Bytes) (e : Effect) (mid : State)
    → session_of old x.session ≡ Some y → y.cause ≡ None → reading_of x.says ≡ r → front_of y.held ≡ a_line x.says rest
    → is_blank x.says ≡ false → length y.pending ≤ PENDING_BYTES
    → ReadStep (with_session old x.session (behind_line rest)) x.session (behind_line rest y) x.says r e mid
    → Acts old (stepped x.session (run x.says)) e mid
acts_with old x y r rest e mid found goes reads front blank few step =
    subst (λ o. IsSomeAnd o (λ (z : Session). (z.cause ≡ None) × FrontStep old x.session z (run x.says) e mid)) (sym found) (
      goes,
      (
        blank,
        few,
        record {
          rest = rest;
          front = front;
          then = subst (λ k. ReadStep (with_session old x.session (behind_line rest)) x.session (behind_line rest y) x.says k e
              mid) (sym reads) step;
        },
      ),
    )

runs_with : (old : State) (x : DialogueLine) (y : Session) (r : Reading) (rest : Bytes) (e : Effect) (mid : State)
    → session_of old x.session ≡ Some y → y.cause ≡ None → reading_of x.says ≡ r → front_of y.held ≡ a_line x.says rest
    → is_blank x.says ≡ false → length y.pending ≤ PENDING_BYTES
    → ReadStep (with_session old x.session (behind_line rest)) x.session (behind_line rest y) x.says r e mid
    → e.queued ≡ x.queued → RunsWith old x (queue_all mid e.queued)
runs_with old x y r rest e mid found goes reads front blank few step queued = (
  e,
  queued,
  step_of old (stepped x.session (run x.says)) e mid (acts_with old x y r rest e mid found goes reads front blank few step),
)

sure : (old : State) (x : DialogueLine) (y : Session) (r : Reading) (rest : Bytes) (e : Effect) (mid : State)
    → session_of old x.session ≡ Some y → y.cause ≡ None → reading_of x.says ≡ r → front_of y.held ≡ a_line x.says rest
    → is_blank x.says ≡ false → length y.pending ≤ PENDING_BYTES
    → ReadStep (with_session old x.session (behind_line rest)) x.session (behind_line rest y) x.says r e mid
    → e.queued ≡ x.queued → reads_next r ≡ false → are_few mid.store.relations ≡ true → IsClean x.queued
    → IsSure old x (queue_all mid e.queued)
sure old x y r rest e mid found goes reads front blank few step queued other rows clean = record {
  session = y;
  found = found;
  goes = goes;
  other = ap reads_next reads ∙ other;
  clean = clean;
  effect = e;
  queued = queued;
  step = record {
    mid = mid;
    acts = acts_with old x y r rest e mid found goes reads front blank few step;
    relations = mid.store.relations;
    reordered = same_relations mid.store.relations;
    queued = refl;
  };
  few = rows;
}

runs_of : {old : State} {x : DialogueLine} {new : State} → IsSure old x new → RunsWith old x new
runs_of h = (h.effect, h.queued, h.step)

-- one part that says nothing of memory
one_clean : (s : ℕ) (text : Bytes) → IsNoRefusal text → IsClean ((s, text) ∷ [])
one_clean s text none =
    All-cons (λ (q : ℕ × Bytes). IsNoRefusal q.1) (s, text) [] none (All-nil (λ (q : ℕ × Bytes). IsNoRefusal q.1))

-- one part that is another one
one_apart : (s : ℕ) (a b : Bytes) → is_list a ≡ false → bytes_eq a b ≡ false → SameQueued ((s, a) ∷ []) ((s, b) ∷ []) → ⊥
one_apart s a b plain differ same =
    true≢false (sym ((bytes_eq-Decides a b).1 (only_text a b same.1 plain)) ∙ differ)

-- ---- The query of the dialogues.

abbrev edge : List ℕ
edge = 0 ∷ []

no_labels : (F : List ℕ) → Rooted F []
no_labels F = record { order = []; those = λ a. refl; tree = tt }

one_connex : IsFreeConnex (edge ∷ []) edge
one_connex =
    free_connex_from (edge ∷ []) edge
    (hung_on [] edge [] (edge ∷ []) [] (no_labels []) (λ a. refl) (count_self [] [])
    (λ x within below. absurd (omega arith)))
    (hung_on edge edge edge (edge ∷ []) [] (no_labels edge) (λ a. refl) (count_self edge [])
    (λ x within below. within))

edges_are : edges_of sevens ≡ edge ∷ []
unfolding edges_from numbers_in
edges_are = refl

is_connex : IsFreeConnex (edges_of sevens) edge
is_connex = subst (λ E. IsFreeConnex E edge) (sym edges_are) one_connex

reads_query : reading_of (codes "query q(x) <- r(x)") ≡ says_command (Register sevens)
unfolding command_of is_utf8 chars encode tokens items_in
reads_query = refl

reads_del_seven : reading_of (codes "del r 7") ≡ says_command (Del (codes "r") (Int (pos 7) ∷ []))
unfolding command_of is_utf8 chars encode tokens
reads_del_seven = refl

-- ---- Changes that no session watches.

quiet_change : (old : State) (s : ℕ) (change : RowsChange) (store : Store) (reply : Bytes) (kept : Keeping)
    → affected old change ≡ []
    → RepliesLast s reply (record { state = changed old (Some change) store; queued = [] })
    (record { state = changed old (Some change) store; queued = (s, reply) ∷ [] })
    → ChangeStep old s (accepted change) store reply (record { queued = (s, reply) ∷ []; cost = 0; kept = kept })
    (changed old (Some change) store)
quiet_change old s change store reply kept none replies = record {
  deltas = [];
  listed = record {
    of_queries = sym none;
    are_deltas = All-nil (λ (d : Delta). IsDelta (AnswersOf old.store.relations d.query) (AnswersOf change.after d.query) d.changes);
    have_parts = All-nil (ArePartsOf old.store.relations change);
    list = All-nil (ListsDelta old.store.relations change);
  };
  told = record { state = changed old (Some change) store; queued = [] };
  tells = refl;
  last = record { state = changed old (Some change) store; queued = (s, reply) ∷ [] };
  replies = replies;
  queued = refl;
  cost = refl;
  state = refl;
}

no_change : (old : State) (s : ℕ) (store : Store) (reply : Bytes) (kept : Keeping)
    → RepliesLast s reply (record { state = changed old None store; queued = [] })
    (record { state = changed old None store; queued = (s, reply) ∷ [] })
    → ChangeStep old s unchanged store reply (record { queued = (s, reply) ∷ []; cost = 0; kept = kept })
    (changed old None store)
no_change old s store reply kept replies = record {
  deltas = [];
  listed = refl;
  told = record { state = changed old None store; queued = [] };
  tells = refl;
  last = record { state = changed old None store; queued = (s, reply) ∷ [] };
  replies = replies;
  queued = refl;
  cost = refl;
  state = refl;
}

-- ---- The states of the dialogues.

-- the sessions are so; or the first is, and the second has said nothing
abbrev both_at : Store → Session → Session → State
both_at store y z = record { store = store; stopped = false; sessions = y ∷ z ∷ [] }

abbrev first_at : Store → Session → State
first_at store y = both_at store y (fresh 2)

-- a session with these bytes held, and these pending
abbrev with_bytes : Bytes → Bytes → Session
with_bytes held pending = record (fresh 1) { held = held; pending = pending }

-- a relation r with these rows, and these queries, after so many changes
abbrev rows_left : List CountedRow → List Listed → ℕ → Store
rows_left rows queries n = record {
  relations = record { name = codes "r"; types = IntColumn ∷ []; rows = rows } ∷ [];
  texts = [];
  queries = queries;
  seq = n;
}

abbrev of_seven : ℕ → List CountedRow
of_seven n = record { row = Int (pos 7) ∷ []; copies = n } ∷ []

-- an effect of one reply
abbrev replies_with : Bytes → Keeping → Effect
replies_with reply kept = record { queued = (1, line reply) ∷ []; cost = 0; kept = kept }

-- what is pending after the first lines
abbrev ok : Bytes
ok = line (codes "ok")

abbrev ok_added : Bytes
ok_added = ok ++ line (codes "ok added 1 1")

made_beside : (z : Session) (rest : Bytes) → IsSure (both_at empty_store (with_bytes (line (codes "rel r int") ++ rest) []) z) makes_r
    (both_at (rows_left [] [] 0) (with_bytes rest ok) z)
made_beside z rest =
    sure (both_at empty_store (with_bytes (line (codes "rel r int") ++ rest) []) z) makes_r
    (with_bytes (line (codes "rel r int") ++ rest) []) (says_command (Rel (codes "r") (IntColumn ∷ []))) rest
    (answers 1 ok true) (both_at (rows_left [] [] 0) (with_bytes rest []) z) refl refl reads_rel refl refl (omega arith) (
      true,
      record {
        result = Ok tt;
        store = rows_left [] [] 0;
        done = record { answer = refl; stays = tt };
        effect = refl;
        state = refl;
      },
    ) refl refl refl (one_clean 1 ok (not_memory_text 0 ok refl refl))

made : (rest : Bytes) → IsSure (first_at empty_store (with_bytes (line (codes "rel r int") ++ rest) [])) makes_r
    (first_at (rows_left [] [] 0) (with_bytes rest ok))
made rest = made_beside (fresh 2) rest

added_first : (rest : Bytes) → IsSure (first_at (rows_left [] [] 0) (with_bytes (line (codes "add r 7") ++ rest) ok)) inserts_seven
    (first_at (rows_left (of_seven 1) [] 1) (with_bytes rest ok_added))
unfolding digits
added_first rest =
    sure (first_at (rows_left [] [] 0) (with_bytes (line (codes "add r 7") ++ rest) ok)) inserts_seven
    (with_bytes (line (codes "add r 7") ++ rest) ok) (says_command (Add (codes "r") (Int (pos 7) ∷ []))) rest
    (replies_with (codes "ok added 1 1") the_line)
    (first_at (rows_left (of_seven 1) [] 1) (with_bytes rest ok)) refl refl reads_add refl refl (omega arith) (
      true,
      record {
        result = Ok First;
        store = rows_left (of_seven 1) [] 1;
        done = record { answer = (refl, omega arith, refl); stays = λ refused. absurd (true≢false (sym refused)) };
        change = quiet_change (first_at (rows_left [] [] 0) (with_bytes rest ok)) 1
            (row_in (rows_left [] [] 0).relations (codes "r") (Int (pos 7) ∷ [])) (rows_left (of_seven 1) [] 1)
            (line (codes "ok added 1 1")) the_line refl (inl refl);
        kept = refl;
      },
    ) refl refl refl (one_clean 1 _ (not_memory_text 0 (line (codes "ok added 1 1")) refl refl))

registered_beside : (z : Session) (rows : List CountedRow) (n : ℕ) (rest pending : Bytes) → length pending ≤ PENDING_BYTES
    → few_rows rows ≡ true
    → IsSure (both_at (rows_left rows [] n) (with_bytes (line (codes "query q(x) <- r(x)") ++ rest) pending) z) registers_q
    (both_at (rows_left rows (a_query sevens ∷ []) n) (with_bytes rest (pending ++ line (codes "ok query 3"))) z)
unfolding digits
registered_beside z rows n rest pending short few =
    sure (both_at (rows_left rows [] n) (with_bytes (line (codes "query q(x) <- r(x)") ++ rest) pending) z) registers_q
    (with_bytes (line (codes "query q(x) <- r(x)") ++ rest) pending) (says_command (Register sevens)) rest
    (answers 1 (line (codes "ok query 3")) true)
    (both_at (rows_left rows (a_query sevens ∷ []) n) (with_bytes rest pending) z) refl refl reads_query refl refl short (
      true,
      inl (record {
        result = Ok (Registered 3);
        store = rows_left rows (a_query sevens ∷ []) n;
        done = record {
          answer = (is_connex, refl, omega arith, refl);
          stays = λ refused. absurd (true≢false (sym refused));
        };
        effect = refl;
        state = refl;
      }),
    ) refl refl (ap (λ b. b && true) few) (one_clean 1 _ (not_memory_text 0 (line (codes "ok query 3")) refl refl))

registered : (rows : List CountedRow) (n : ℕ) (rest pending : Bytes) → length pending ≤ PENDING_BYTES
    → few_rows rows ≡ true
    → IsSure (first_at (rows_left rows [] n) (with_bytes (line (codes "query q(x) <- r(x)") ++ rest) pending)) registers_q
    (first_at (rows_left rows (a_query sevens ∷ []) n) (with_bytes rest (pending ++ line (codes "ok query 3"))))
registered rows n rest pending short few = registered_beside (fresh 2) rows n rest pending short few

-- a dialogue whose last line has one reply, which is no listing
plain_dialogue : (before : List DialogueLine) (says reply other : Bytes) (at new : State)
    → start_of (before ++ says_and_gets says other ∷ []) ≡ start_of (before ++ says_and_gets says reply ∷ [])
    → Walk IsSure (start_of (before ++ says_and_gets says reply ∷ [])) before at → RunsWith at (says_and_gets says reply) new
    → IsNoRefusal (line reply) → IsNoRefusal (line other) → is_list (line reply) ≡ false
    → bytes_eq (line reply) (line other) ≡ false → differences (line reply) (line other) ≡ 1
    → IsMachineDialogue (ends_with before says reply other)
plain_dialogue before says reply other at new start way last clean clean' plain differ one =
    is_dialogue (ends_with before says reply other) at new start way last (one_clean 1 (line reply) clean)
    (one_clean 1 (line other) clean') (one_apart 1 (line reply) (line other) plain differ) (refl, inl (one, refl))

so_inserted : IsMachineDialogue (ends_with (makes_r ∷ []) (codes "add r 7") (codes "ok added 1 1") (codes "ok added 2 1"))
so_inserted =
    plain_dialogue (makes_r ∷ []) (codes "add r 7") (codes "ok added 1 1") (codes "ok added 2 1")
    (first_at (rows_left [] [] 0) (with_bytes (line (codes "add r 7")) ok)) _ refl
    (_, made (line (codes "add r 7")), refl) (runs_of (added_first []))
    (not_memory_text 0 (line (codes "ok added 1 1")) refl refl) (not_memory_text 0 (line (codes "ok added 2 1")) refl refl)
    refl refl refl

so_copied : IsMachineDialogue (ends_with (makes_r ∷ inserts_seven ∷ []) (codes "add r 7") (codes "ok added 1 2") (codes "ok added 1 1"))
unfolding digits
so_copied =
    plain_dialogue (makes_r ∷ inserts_seven ∷ []) (codes "add r 7") (codes "ok added 1 2") (codes "ok added 1 1")
    (first_at (rows_left (of_seven 1) [] 1) (with_bytes (line (codes "add r 7")) ok_added)) _ refl
    (_, made (line (codes "add r 7") ++ line (codes "add r 7")), (_, added_first (line (codes "add r 7")), refl))
    (runs_with (first_at (rows_left (of_seven 1) [] 1) (with_bytes (line (codes "add r 7")) ok_added))
    (says_and_gets (codes "add r 7") (codes "ok added 1 2")) (with_bytes (line (codes "add r 7")) ok_added)
    (says_command (Add (codes "r") (Int (pos 7) ∷ []))) [] (replies_with (codes "ok added 1 2") the_line)
    (first_at (rows_left (of_seven 2) [] 1) (with_bytes [] ok_added)) refl refl reads_add refl refl (omega arith) (
      true,
      record {
        result = Ok (More 2);
        store = rows_left (of_seven 2) [] 1;
        done = record { answer = (refl, refl, refl); stays = λ refused. absurd (true≢false (sym refused)) };
        change = no_change (first_at (rows_left (of_seven 1) [] 1) (with_bytes [] ok_added)) 1 (rows_left (of_seven 2) [] 1)
            (line (codes "ok added 1 2")) the_line (inl refl);
        kept = refl;
      },
    ) refl)
    (not_memory_text 0 (line (codes "ok added 1 2")) refl refl) (not_memory_text 0 (line (codes "ok added 1 1")) refl refl)
    refl refl refl

so_deleted : IsMachineDialogue (ends_with (makes_r ∷ inserts_seven ∷ []) (codes "del r 7") (codes "ok removed 2 0") (codes "ok removed 1 0"))
unfolding digits
so_deleted =
    plain_dialogue (makes_r ∷ inserts_seven ∷ []) (codes "del r 7") (codes "ok removed 2 0") (codes "ok removed 1 0")
    (first_at (rows_left (of_seven 1) [] 1) (with_bytes (line (codes "del r 7")) ok_added)) _ refl
    (_, made (line (codes "add r 7") ++ line (codes "del r 7")), (_, added_first (line (codes "del r 7")), refl))
    (runs_with (first_at (rows_left (of_seven 1) [] 1) (with_bytes (line (codes "del r 7")) ok_added))
    (says_and_gets (codes "del r 7") (codes "ok removed 2 0")) (with_bytes (line (codes "del r 7")) ok_added)
    (says_command (Del (codes "r") (Int (pos 7) ∷ []))) [] (replies_with (codes "ok removed 2 0") the_line)
    (first_at (rows_left [] [] 2) (with_bytes [] ok_added)) refl refl reads_del_seven refl refl (omega arith) (
      true,
      record {
        result = Ok Last;
        store = rows_left [] [] 2;
        done = record { answer = (refl, refl, refl); stays = tt };
        change = quiet_change (first_at (rows_left (of_seven 1) [] 1) (with_bytes [] ok_added)) 1
            (row_out (rows_left (of_seven 1) [] 1).relations (codes "r") (Int (pos 7) ∷ [])) (rows_left [] [] 2)
            (line (codes "ok removed 2 0")) the_line refl (inl refl);
        kept = refl;
      },
    ) refl)
    (not_memory_text 0 (line (codes "ok removed 2 0")) refl refl)
    (not_memory_text 0 (line (codes "ok removed 1 0")) refl refl) refl refl refl

so_absent : IsMachineDialogue (ends_with (makes_r ∷ inserts_seven ∷ []) (codes "del r 8") (codes "ok absent 1") (codes "ok absent 2"))
unfolding digits
so_absent =
    plain_dialogue (makes_r ∷ inserts_seven ∷ []) (codes "del r 8") (codes "ok absent 1") (codes "ok absent 2")
    (first_at (rows_left (of_seven 1) [] 1) (with_bytes (line (codes "del r 8")) ok_added)) _ refl
    (_, made (line (codes "add r 7") ++ line (codes "del r 8")), (_, added_first (line (codes "del r 8")), refl))
    (runs_with (first_at (rows_left (of_seven 1) [] 1) (with_bytes (line (codes "del r 8")) ok_added))
    (says_and_gets (codes "del r 8") (codes "ok absent 1")) (with_bytes (line (codes "del r 8")) ok_added)
    (says_command (Del (codes "r") (Int (pos 8) ∷ []))) [] (replies_with (codes "ok absent 1") no_line)
    (first_at (rows_left (of_seven 1) [] 1) (with_bytes [] ok_added)) refl refl reads_del refl refl (omega arith) (
      true,
      record {
        result = Ok Absent;
        store = rows_left (of_seven 1) [] 1;
        done = record { answer = (refl, refl); stays = tt };
        change = no_change (first_at (rows_left (of_seven 1) [] 1) (with_bytes [] ok_added)) 1 (rows_left (of_seven 1) [] 1)
            (line (codes "ok absent 1")) no_line (inl refl);
        kept = refl;
      },
    ) refl)
    (not_memory_text 0 (line (codes "ok absent 1")) refl refl) (not_memory_text 0 (line (codes "ok absent 2")) refl refl)
    refl refl refl

so_refused : IsMachineDialogue (ends_with (makes_r ∷ []) (codes "rel") (codes "err 1 syntax") (codes "err 2 syntax"))
so_refused =
    plain_dialogue (makes_r ∷ []) (codes "rel") (codes "err 1 syntax") (codes "err 2 syntax")
    (first_at (rows_left [] [] 0) (with_bytes (line (codes "rel")) ok)) _ refl (_, made (line (codes "rel")), refl)
    (runs_with (first_at (rows_left [] [] 0) (with_bytes (line (codes "rel")) ok))
    (says_and_gets (codes "rel") (codes "err 1 syntax")) (with_bytes (line (codes "rel")) ok) outside []
    (says 1 (refusal_line Syntax)) (first_at (rows_left [] [] 0) (with_bytes [] ok)) refl refl reads_part refl refl
    (omega arith) (refl, refl) refl)
    (not_memory_text 5 (line (codes "err 1 syntax")) refl refl) (not_memory_text 4 (line (codes "err 2 syntax")) refl refl)
    refl refl refl

-- a row is inserted and the query registered, before what is still held
after_query : (rest : Bytes)
    → Walk IsSure (first_at empty_store (with_bytes (line (codes "rel r int") ++ line (codes "add r 7")
    ++ line (codes "query q(x) <- r(x)") ++ rest) [])) (makes_r ∷ inserts_seven ∷ registers_q ∷ [])
    (first_at (rows_left (of_seven 1) (a_query sevens ∷ []) 1) (with_bytes rest (ok_added ++ line (codes "ok query 3"))))
after_query rest = (
  _,
  made (line (codes "add r 7") ++ line (codes "query q(x) <- r(x)") ++ rest),
  (
    _,
    added_first (line (codes "query q(x) <- r(x)") ++ rest),
    (_, registered (of_seven 1) 1 rest ok_added (omega arith) refl, refl),
  ),
)

so_answered : IsMachineDialogue (ends_with (makes_r ∷ inserts_seven ∷ registers_q ∷ []) (codes "has q 7") (codes "yes") (codes "yet"))
so_answered =
    let asks = line (codes "has q 7") in
    let here = first_at (rows_left (of_seven 1) (a_query sevens ∷ []) 1)
    (with_bytes asks (ok_added ++ line (codes "ok query 3"))) in
    plain_dialogue (makes_r ∷ inserts_seven ∷ registers_q ∷ []) (codes "has q 7") (codes "yes") (codes "yet") here _ refl
    (after_query asks)
    (runs_with here (says_and_gets (codes "has q 7") (codes "yes")) (with_bytes asks (ok_added ++ line (codes "ok query 3")))
    (says_command (Has (codes "q") (Int (pos 7) ∷ []))) []
    (record { queued = (1, line (codes "yes")) ∷ []; cost = 1; kept = no_line })
    (first_at (rows_left (of_seven 1) (a_query sevens ∷ []) 1) (with_bytes [] (ok_added ++ line (codes "ok query 3")))) refl
    refl reads_has refl refl (omega arith)
    (true, record { result = Ok true; tells = record { answer = seven_is_answer }; effect = refl; state = refl }) refl)
    (not_memory_text 0 (line (codes "yes")) refl refl) (not_memory_text 0 (line (codes "yet")) refl refl) refl refl refl

-- ---- Answers and deltas of the query.

abbrev in_r : List CountedRow → List Relation
in_r rows = record { name = codes "r"; types = IntColumn ∷ []; rows = rows } ∷ []

abbrev atom_r : Atom
atom_r = record { relation = codes "r"; terms = Variable (codes "x") ∷ [] }

answer_in : (rows : List CountedRow) (t : Tuple) → IsAnswer (in_r rows) sevens t → Contains (plain_of rows) t
answer_in rows t h =
    let first = All-head (Satisfies (in_r rows) h.assignment) atom_r [] h.satisfies in
    subst (λ u. Contains (plain_of rows) u) (by first.row first.stands ∙ sym h.on_head) first.is_there
  where
    by : (row : Tuple) → StandForAll h.assignment (Variable (codes "x") ∷ []) row → row ≡ h.assignment (codes "x") ∷ []
    by [] s = absurd s
    by (v ∷ []) s = ap (λ u. u ∷ []) (sym s.0)
    by (v ∷ w ∷ vs) s = absurd s.1

answer_of : (rows : List CountedRow) (v : Value) → Contains (plain_of rows) (v ∷ []) → IsAnswer (in_r rows) sevens (v ∷ [])
answer_of rows v there = record {
  assignment = λ x. v;
  satisfies = All-cons (Satisfies (in_r rows) (λ x. v)) atom_r []
      (record { row = v ∷ []; is_there = there; stands = (refl, tt) }) (All-nil (Satisfies (in_r rows) (λ x. v)));
  compared = All-nil (HoldsOf (λ x. v));
  on_head = refl;
}

abbrev came : Tuple → Change
came t = record { sign = Came; answer = t }

abbrev went : Tuple → Change
went t = record { sign = Went; answer = t }

one_came : (Before After : Tuple → Type 0) (u : Tuple) → After u → (Before u → ⊥)
    → ((t : Tuple) → After t → (u ≡ t) ⊎ Before t) → ((t : Tuple) → Before t → After t)
    → IsDelta Before After (came u ∷ [])
one_came Before After u new old more stays = record {
  different = AllPairs-cons (λ (s t : Tuple). s ≡ t → ⊥) u [] (All-nil (λ (t : Tuple). u ≡ t → ⊥))
      (nothing_apart (λ (s t : Tuple). s ≡ t → ⊥));
  changed = All-cons (λ (c : Change). HasChanged Before After c.sign c.answer) (came u) [] (new, old)
      (All-nil (λ (c : Change). HasChanged Before After c.sign c.answer));
  complete = by;
}
  where
    by : (sign : Sign) (t : Tuple) → HasChanged Before After sign t → Contains (came u ∷ []) (record { sign = sign; answer = t })
    by Went t h = absurd (h.1 (stays t h.0))
    by Came t h = last (more t h.0)
      where
        last : (u ≡ t) ⊎ Before t → Contains (came u ∷ []) (came t)
        last (inl same) = first_there (came u) [] (came t) (ap came same)
        last (inr before) = absurd (h.1 before)

-- the one answer over one row
only_answer : (v : Value) (n : ℕ) (t : Tuple) → IsAnswer (in_r (record { row = v ∷ []; copies = n } ∷ [])) sevens t
    → v ∷ [] ≡ t
only_answer v n t h = by (first_or_later (v ∷ []) [] t (answer_in (record { row = v ∷ []; copies = n } ∷ []) t h))
  where
    by : (v ∷ [] ≡ t) ⊎ Contains [] t → v ∷ [] ≡ t
    by (inl same) = same
    by (inr none) = absurd (omega (arith, none.1))

no_answer : (t : Tuple) → IsAnswer (in_r []) sevens t → ⊥
no_answer t h = let none = answer_in [] t h in omega (arith, none.1)

seven_came : IsDelta (IsAnswer (in_r []) sevens) (IsAnswer (in_r (of_seven 1)) sevens) (came (Int (pos 7) ∷ []) ∷ [])
seven_came =
    one_came (IsAnswer (in_r []) sevens) (IsAnswer (in_r (of_seven 1)) sevens) (Int (pos 7) ∷ [])
    (answer_of (of_seven 1) (Int (pos 7)) (first_there (Int (pos 7) ∷ []) [] (Int (pos 7) ∷ []) refl))
    (no_answer (Int (pos 7) ∷ [])) (λ t h. inl (only_answer (Int (pos 7)) 1 t h)) (λ t h. absurd (no_answer t h))

abbrev seven_delta : Delta
seven_delta = record { query = a_query sevens; changes = came (Int (pos 7) ∷ []) ∷ []; listed = 1; parts = [] }

seven_listed : AreDeltas (in_r []) (row_in (in_r []) (codes "r") (Int (pos 7) ∷ [])) (a_query sevens ∷ []) (seven_delta ∷ [])
seven_listed =
    let change = row_in (in_r []) (codes "r") (Int (pos 7) ∷ []) in
    record {
      of_queries = refl;
      are_deltas = All-cons (λ (d : Delta). IsDelta (AnswersOf (in_r []) d.query) (AnswersOf change.after d.query) d.changes)
          seven_delta [] seven_came
          (All-nil (λ (d : Delta). IsDelta (AnswersOf (in_r []) d.query) (AnswersOf change.after d.query) d.changes));
      have_parts = All-cons (ArePartsOf (in_r []) change) seven_delta [] (record {
        of_members = refl;
        are_deltas = All-nil (λ (p : Part). IsDelta (IsAnswer (in_r []) p.query) (IsAnswer change.after p.query) p.changes);
        list = All-nil (λ (p : Part). ListsAnswers (in_r []) change p.query p.changes p.listed);
      }) (All-nil (ArePartsOf (in_r []) change));
      list = All-cons (ListsDelta (in_r []) change) seven_delta [] refl (All-nil (ListsDelta (in_r []) change));
    }

-- ---- Two texts of one step end alike.

ends_at : (front back : Bytes) → 2 ≤ length back
    → get_or (front ++ back) (length (front ++ back) - 2) 0 ≡ get_or back (length back - 2) 0
ends_at front back long =
    let whole = length-append front back in
    let place : length (front ++ back) - 2 ≡ length front + (length back - 2) = omega (arith, whole, long) in
    ap (λ i. get_or (front ++ back) i 0) place ∙ get_or-append-add front back (length back - 2) 0

-- the text of lines, and of one more
text_more : (lines : List Bytes) (last : Bytes) → text_of (lines ++ last ∷ []) ≡ text_of lines ++ last
text_more lines last =
    flat_map-append (λ (l : Bytes). l) lines (last ∷ []) ∙ ap (λ b. text_of lines ++ b) (append-nil last)

-- ---- A page or a delta of one line is the only one.

-- the byte before the last line end
abbrev ends_by : Bytes → ℕ
ends_by text = get_or text (length text - 2) 0

-- whether a byte begins a line of an answer or of a change
abbrev is_sign : ℕ → Bool
is_sign b = b == 61 || b == 43 || b == 45

abbrev signs_later : Bytes → Bool
signs_later [] = false
signs_later (b ∷ bs) = list_any is_sign bs

sign_among : (front : Bytes) (b : ℕ) (more : Bytes) → is_sign b ≡ true → list_any is_sign (front ++ b ∷ more) ≡ true
sign_among [] b more h = ap (λ c. c || list_any is_sign more) h
sign_among (f ∷ front) b more h = by (is_sign f) (sign_among front b more h)
  where
    by : (c : Bool) → list_any is_sign (front ++ b ∷ more) ≡ true → (c || list_any is_sign (front ++ b ∷ more)) ≡ true
    by true later = refl
    by false later = later

-- a page of two answers has a sign in its second line, and so has a delta of two changes
two_answers : (t u : Tuple) (ts : List Tuple) (end : Bool) → signs_later (text_of (listing_lines (t ∷ u ∷ ts) end)) ≡ true
two_answers t u ts end = sign_among (cells_text t ++ 10 ∷ []) 61 _ refl

two_changes : (query : Bytes) (c d : Change) (cs : List Change) (n : ℕ)
    → signs_later (text_of (delta_lines query (c ∷ d ∷ cs) n)) ≡ true
two_changes query c d cs n = by c.sign d.sign
  where
    by : (s s' : Sign) → signs_later (text_of (delta_lines query (record { sign = s; answer = c.answer }
        ∷ record { sign = s'; answer = d.answer } ∷ cs) n)) ≡ true
    by Came Came = sign_among (32 ∷ ((query ++ cells_text c.answer) ++ 10 ∷ [])) 43 _ refl
    by Came Went = sign_among (32 ∷ ((query ++ cells_text c.answer) ++ 10 ∷ [])) 45 _ refl
    by Went Came = sign_among (32 ∷ ((query ++ cells_text c.answer) ++ 10 ∷ [])) 43 _ refl
    by Went Went = sign_among (32 ∷ ((query ++ cells_text c.answer) ++ 10 ∷ [])) 45 _ refl

more_ends : (told : List Tuple) → ends_by (text_of (listing_lines told false)) ≡ 101
more_ends told =
    ap ends_by (text_more (map answer_line told) (last_line false))
    ∙ ends_at (text_of (map answer_line told)) (last_line false) (omega arith)

one_line : (a b : Bytes) → signs_later a ≡ false → (ends_by a == 101) ≡ false → SameText a b → a ≡ b
one_line a b alone last (is_equal same) = same
one_line a b alone last (are_pages told told' false is is' long moved) =
    absurd (eqb-false (ends_by a) 101 last (ap ends_by is ∙ more_ends told))
one_line a b alone last (are_pages told told' true is is' long moved) = by told is (moved refl)
  where
    by : (told : List Tuple) → a ≡ text_of (listing_lines told true) → IsPermutation told told' → a ≡ b
    by [] is moved = is ∙ ap (λ ts. text_of (listing_lines ts true)) (sym (no_others told' moved)) ∙ sym is'
    by (t ∷ []) is moved = is ∙ ap (λ ts. text_of (listing_lines ts true)) (sym (that_one t told' moved)) ∙ sym is'
    by (t ∷ u ∷ ts) is moved = absurd (true≢false (sym (two_answers t u ts true) ∙ ap signs_later (sym is) ∙ alone))
one_line a b alone last (are_deltas query changes changes' n moved is is') = by changes is moved
  where
    by : (changes : List Change) → a ≡ text_of (delta_lines query changes n) → IsPermutation changes changes' → a ≡ b
    by [] is moved = is ∙ ap (λ cs. text_of (delta_lines query cs n)) (sym (no_others changes' moved)) ∙ sym is'
    by (c ∷ []) is moved = is ∙ ap (λ cs. text_of (delta_lines query cs n)) (sym (that_one c changes' moved)) ∙ sym is'
    by (c ∷ d ∷ cs) is moved = absurd (true≢false (sym (two_changes query c d cs n) ∙ ap signs_later (sym is) ∙ alone))

line_apart : (a b : Bytes) → signs_later a ≡ false → (ends_by a == 101) ≡ false → bytes_eq a b ≡ false → SameText a b → ⊥
line_apart a b alone last differ same =
    true≢false (sym ((bytes_eq-Decides a b).1 (one_line a b alone last same)) ∙ differ)

-- ---- A delta before the reply.

abbrev queries : List Listed
queries = a_query sevens ∷ []

abbrev ok_query : Bytes
ok_query = ok ++ line (codes "ok query 3")

abbrev ok_watch : Bytes
ok_watch = ok_query ++ line (codes "ok watch 0")

watched : (rest : Bytes)
    → IsSure (first_at (rows_left [] queries 0) (with_bytes (line (codes "watch q") ++ rest) ok_query)) watches_q
    (first_at (rows_left [] queries 0) (record (with_bytes rest ok_watch) { watches = codes "q" ∷ [] }))
unfolding digits
watched rest =
    sure (first_at (rows_left [] queries 0) (with_bytes (line (codes "watch q") ++ rest) ok_query)) watches_q
    (with_bytes (line (codes "watch q") ++ rest) ok_query) (says_command (Watch (codes "q"))) rest
    (says 1 (line (codes "ok watch 0")))
    (first_at (rows_left [] queries 0) (record (with_bytes rest ok_query) { watches = codes "q" ∷ [] })) refl refl reads_watch
    refl refl (omega arith) (true, record { result = Ok tt; answer = tt; effect = refl; state = refl }) refl refl refl
    (one_clean 1 _ (not_memory_text 0 (line (codes "ok watch 0")) refl refl))

two_clean : (s s' : ℕ) (a b : Bytes) → IsNoRefusal a → IsNoRefusal b → IsClean ((s, a) ∷ (s', b) ∷ [])
two_clean s s' a b none none' =
    All-cons (λ (q : ℕ × Bytes). IsNoRefusal q.1) (s, a) ((s', b) ∷ []) none (one_clean s' b none')

so_delta : IsMachineDialogue delta_first
unfolding digits
so_delta =
    let adds = line (codes "add r 7") in
    let added = line (codes "ok added 1 1") in
    let y = record (with_bytes adds ok_watch) { watches = codes "q" ∷ [] } in
    let old = first_at (rows_left [] queries 0) (record (with_bytes [] ok_watch) { watches = codes "q" ∷ [] }) in
    let new = first_at (rows_left (of_seven 1) queries 1) (record (with_bytes [] ok_watch) { watches = codes "q" ∷ [] }) in
    let here = first_at (rows_left [] queries 0) y in
    let told : Telling = record { state = new; queued = (1, delta_of (codes "+ q 7")) ∷ [] } in
    let parts : List (ℕ × Bytes) = (1, delta_of (codes "+ q 7")) ∷ (1, added) ∷ [] in
    is_dialogue delta_first here _ refl (
      _,
      made (line (codes "query q(x) <- r(x)") ++ line (codes "watch q") ++ adds),
      (_, registered [] 0 (line (codes "watch q") ++ adds) ok (omega arith) refl, (_, watched adds, refl)),
    )
    (runs_with here delta_first.last y (says_command (Add (codes "r") (Int (pos 7) ∷ []))) []
    (record { queued = parts; cost = 6; kept = the_line }) new refl refl reads_add refl refl (omega arith) (
      true,
      record {
        result = Ok First;
        store = rows_left (of_seven 1) queries 1;
        done = record { answer = (refl, omega arith, refl); stays = λ refused. absurd (true≢false (sym refused)) };
        change = record {
          deltas = seven_delta ∷ [];
          listed = seven_listed;
          told = told;
          tells = (told, (told, inr (inl (omega arith, refl)), (told, refl, refl)), refl);
          last = record { state = new; queued = parts };
          replies = inl refl;
          queued = refl;
          cost = refl;
          state = refl;
        };
        kept = refl;
      },
    ) refl) (two_clean 1 1 _ added (not_memory_text 0 (delta_of (codes "+ q 7")) refl refl) (not_memory_text 0 added refl refl))
    (two_clean 1 1 _ added (not_memory_text 0 (delta_of (codes "- q 7")) refl refl) (not_memory_text 0 added refl refl))
    (λ same. line_apart (delta_of (codes "+ q 7")) (delta_of (codes "- q 7")) refl refl refl same.1) (refl, inl (refl, refl))

-- ---- Cursors.

abbrev cursor_c : Position → Cursor
cursor_c p = record { name = codes "c"; query = codes "q"; position = p }

opened : (rows : List CountedRow) (n : ℕ) (rest pending : Bytes) → length pending ≤ PENDING_BYTES → few_rows rows ≡ true
    → IsSure (first_at (rows_left rows queries n) (with_bytes (line (codes "open c q") ++ rest) pending)) opens_c
    (first_at (rows_left rows queries n)
    (record (with_bytes rest (pending ++ line (codes "ok open"))) { cursors = cursor_c (open_at [] false) ∷ [] }))
opened rows n rest pending short few =
    sure (first_at (rows_left rows queries n) (with_bytes (line (codes "open c q") ++ rest) pending)) opens_c
    (with_bytes (line (codes "open c q") ++ rest) pending) (says_command (Open (codes "c") (codes "q"))) rest
    (says 1 (line (codes "ok open")))
    (first_at (rows_left rows queries n) (record (with_bytes rest pending) { cursors = cursor_c (open_at [] false) ∷ [] }))
    refl refl reads_open refl refl short (true, record { result = Ok tt; answer = tt; effect = refl; state = refl }) refl refl
    (ap (λ b. b && true) few) (one_clean 1 _ (not_memory_text 0 (line (codes "ok open")) refl refl))

reads_next_five : reading_of (codes "next c 5") ≡ says_command (Next (codes "c") 5)
unfolding command_of is_utf8 chars encode tokens
reads_next_five = refl

reads_next_one : reading_of (codes "next c 1") ≡ says_command (Next (codes "c") 1)
unfolding command_of is_utf8 chars encode tokens
reads_next_one = refl

seven_told : (count : ℕ) → 1 ≤ count
    → TellsAnswers (IsAnswer (in_r (of_seven 1)) sevens) [] count ((Int (pos 7) ∷ []) ∷ []) true
seven_told count some = record {
  answers = All-cons (IsAnswer (in_r (of_seven 1)) sevens) (Int (pos 7) ∷ []) []
      (answer_of (of_seven 1) (Int (pos 7)) (first_there (Int (pos 7) ∷ []) [] (Int (pos 7) ∷ []) refl))
      (All-nil (IsAnswer (in_r (of_seven 1)) sevens));
  different = AllPairs-cons (λ (s t : Tuple). s ≡ t → ⊥) (Int (pos 7) ∷ []) [] (All-nil (λ (t : Tuple). Int (pos 7) ∷ [] ≡ t → ⊥))
      (nothing_apart (λ (s t : Tuple). s ≡ t → ⊥));
  none_left = λ ends t h. first_there (Int (pos 7) ∷ []) [] t (only_answer (Int (pos 7)) 1 t h);
  some_left = λ ends. absurd (true≢false ends);
  at_most = some;
  all_asked = λ ends. absurd (true≢false ends);
}

so_page : IsMachineDialogue page_sent
unfolding digits
so_page =
    let asks = line (codes "next c 5") in
    let before = ok_added ++ line (codes "ok query 3") in
    let pending = before ++ line (codes "ok open") in
    let y = record (with_bytes asks pending) { cursors = cursor_c (open_at [] false) ∷ [] } in
    let here = first_at (rows_left (of_seven 1) queries 1) y in
    let page = line (codes "= 7") ++ line (codes "end") in
    let other = line (codes "= 8") ++ line (codes "end") in
    is_dialogue page_sent here _ refl (
      _,
      made (line (codes "add r 7") ++ line (codes "query q(x) <- r(x)") ++ line (codes "open c q") ++ asks),
      (
        _,
        added_first (line (codes "query q(x) <- r(x)") ++ line (codes "open c q") ++ asks),
        (
          _,
          registered (of_seven 1) 1 (line (codes "open c q") ++ asks) ok_added (omega arith) refl,
          (_, opened (of_seven 1) 1 asks before (omega arith) refl, refl),
        ),
      ),
    )
    (runs_with here page_sent.last y (says_command (Next (codes "c") 5)) []
    (record { queued = (1, page) ∷ []; cost = 6; kept = no_line }) (first_at (rows_left (of_seven 1) queries 1)
    (record (with_bytes [] pending) { cursors = cursor_c (open_at ((Int (pos 7) ∷ []) ∷ []) true) ∷ [] })) refl refl
    reads_next_five refl refl (omega arith) (
      true,
      inl (record {
        told = (Int (pos 7) ∷ []) ∷ [];
        end = true;
        tells = seven_told 5 (omega arith);
        effect = refl;
        state = refl;
      }),
    ) refl) (one_clean 1 page (not_memory_text 0 page refl refl)) (one_clean 1 other (not_memory_text 0 other refl refl))
    (λ same. line_apart page other refl refl refl same.1) (refl, inl (refl, refl))

so_stale : IsMachineDialogue (ends_with (makes_r ∷ registers_q ∷ opens_c ∷ inserts_seven ∷ []) (codes "next c 1") (codes "stale c r 1") (codes "stale c r 2"))
unfolding digits
so_stale =
    let asks = line (codes "next c 1") in
    let adds = line (codes "add r 7") ++ asks in
    let pending = ok_query ++ line (codes "ok open") in
    let after = pending ++ line (codes "ok added 1 1") in
    let y = record (with_bytes adds pending) { cursors = cursor_c (open_at [] false) ∷ [] } in
    let taken = record (with_bytes asks pending) { cursors = cursor_c (open_at [] false) ∷ [] } in
    let z = record (with_bytes asks after) { cursors = cursor_c (stale (codes "r") 1) ∷ [] } in
    let here = first_at (rows_left (of_seven 1) queries 1) z in
    let inserted : IsSure (first_at (rows_left [] queries 0) y) inserts_seven here =
    sure (first_at (rows_left [] queries 0) y) inserts_seven y (says_command (Add (codes "r") (Int (pos 7) ∷ []))) asks
    (replies_with (codes "ok added 1 1") the_line) (first_at (rows_left (of_seven 1) queries 1)
    (record (with_bytes asks pending) { cursors = cursor_c (stale (codes "r") 1) ∷ [] })) refl refl reads_add refl refl
    (omega arith) (
      true,
      record {
        result = Ok First;
        store = rows_left (of_seven 1) queries 1;
        done = record { answer = (refl, omega arith, refl); stays = λ refused. absurd (true≢false (sym refused)) };
        change = quiet_change (first_at (rows_left [] queries 0) taken) 1
            (row_in (rows_left [] queries 0).relations (codes "r") (Int (pos 7) ∷ [])) (rows_left (of_seven 1) queries 1)
            (line (codes "ok added 1 1")) the_line refl (inl refl);
        kept = refl;
      },
    ) refl refl refl (one_clean 1 _ (not_memory_text 0 (line (codes "ok added 1 1")) refl refl)) in
    plain_dialogue (makes_r ∷ registers_q ∷ opens_c ∷ inserts_seven ∷ []) (codes "next c 1") (codes "stale c r 1")
    (codes "stale c r 2") here _ refl (
      _,
      made (line (codes "query q(x) <- r(x)") ++ line (codes "open c q") ++ adds),
      (
        _,
        registered [] 0 (line (codes "open c q") ++ adds) ok (omega arith) refl,
        (_, opened [] 0 adds ok_query (omega arith) refl, (_, inserted, refl)),
      ),
    )
    (runs_with here (says_and_gets (codes "next c 1") (codes "stale c r 1")) z (says_command (Next (codes "c") 1)) []
    (says 1 (line (codes "stale c r 1"))) (first_at (rows_left (of_seven 1) queries 1)
    (record (with_bytes [] after) { cursors = cursor_c (stale (codes "r") 1) ∷ [] })) refl refl reads_next_one refl refl
    (omega arith) (true, (refl, refl)) refl)
    (not_memory_text 0 (line (codes "stale c r 1")) refl refl) (not_memory_text 0 (line (codes "stale c r 2")) refl refl)
    refl refl refl

-- ---- Batches.

batched : (store : Store) (watches : List Bytes) (rest pending : Bytes) → length pending ≤ PENDING_BYTES
    → are_few store.relations ≡ true
    → IsSure (first_at store (record (with_bytes (line (codes "batch") ++ rest) pending) { watches = watches })) opens_batch
    (first_at store
    (record (with_bytes rest (pending ++ line (codes "ok batch"))) { watches = watches; batch = Some nothing_held }))
batched store watches rest pending short few =
    sure (first_at store (record (with_bytes (line (codes "batch") ++ rest) pending) { watches = watches })) opens_batch
    (record (with_bytes (line (codes "batch") ++ rest) pending) { watches = watches }) (says_command Batch) rest
    (says 1 (line (codes "ok batch")))
    (first_at store (record (with_bytes rest pending) { watches = watches; batch = Some nothing_held })) refl refl reads_batch
    refl refl short (true, record { result = Ok tt; answer = tt; effect = refl; state = refl }) refl refl few
    (one_clean 1 _ (not_memory_text 0 (line (codes "ok batch")) refl refl))

abbrev held_seven : HeldTransaction
held_seven = holding nothing_held Deletes (codes "r") (Int (pos 7) ∷ []) (codes "del r 7")

holds_seven : (rows : List CountedRow) (listed : List Listed) (n : ℕ) (watches : List Bytes) (rest pending : Bytes)
    → length pending ≤ PENDING_BYTES → few_rows rows ≡ true
    → IsSure (first_at (rows_left rows listed n) (record (with_bytes (line (codes "del r 7") ++ rest) pending)
    { watches = watches; batch = Some nothing_held })) (says_and_gets (codes "del r 7") (codes "ok held 1"))
    (first_at (rows_left rows listed n)
    (record (with_bytes rest (pending ++ line (codes "ok held 1"))) { watches = watches; batch = Some held_seven }))
unfolding digits
holds_seven rows listed n watches rest pending short few =
    sure (first_at (rows_left rows listed n) (record (with_bytes (line (codes "del r 7") ++ rest) pending)
    { watches = watches; batch = Some nothing_held })) (says_and_gets (codes "del r 7") (codes "ok held 1"))
    (record (with_bytes (line (codes "del r 7") ++ rest) pending) { watches = watches; batch = Some nothing_held })
    (says_command (Del (codes "r") (Int (pos 7) ∷ []))) rest (says 1 (line (codes "ok held 1")))
    (first_at (rows_left rows listed n) (record (with_bytes rest pending) { watches = watches; batch = Some held_seven }))
    refl refl reads_del_seven refl refl short (true, record { result = Ok tt; answer = tt; effect = refl; state = refl })
    refl refl (ap (λ b. b && true) few) (one_clean 1 _ (not_memory_text 0 (line (codes "ok held 1")) refl refl))

so_lacking : IsMachineDialogue (ends_with (makes_r ∷ opens_batch ∷ says_and_gets (codes "del r 7") (codes "ok held 1") ∷ []) (codes "done") (codes "err 19 absent") (codes "err 18 absent"))
so_lacking =
    let ends = line (codes "done") in
    let deletes = line (codes "del r 7") ++ ends in
    let pending = (ok ++ line (codes "ok batch")) ++ line (codes "ok held 1") in
    let y = record (with_bytes ends pending) { batch = Some held_seven } in
    let here = first_at (rows_left [] [] 0) y in
    let lines = held_seven.lines in
    let held : HeldLine = record { verb = Deletes; relation = codes "r"; row = Int (pos 7) ∷ [] } in
    plain_dialogue (makes_r ∷ opens_batch ∷ says_and_gets (codes "del r 7") (codes "ok held 1") ∷ []) (codes "done")
    (codes "err 19 absent") (codes "err 18 absent") here _ refl (
      _,
      made (line (codes "batch") ++ deletes),
      (
        _,
        batched (rows_left [] [] 0) [] deletes ok (omega arith) refl,
        (_, holds_seven [] [] 0 [] ends (ok ++ line (codes "ok batch")) (omega arith) refl, refl),
      ),
    )
    (runs_with here (says_and_gets (codes "done") (codes "err 19 absent")) y (says_command (Done None)) []
    (replies_with (codes "err 19 absent") no_line) (first_at (rows_left [] [] 0) (with_bytes [] pending)) refl refl reads_done
    refl refl (omega arith) (
      true,
      record {
        result = Err (Line (record { at = 0; refusal = NoneThere }));
        store = rows_left [] [] 0;
        done = record {
          answer = (refl, refl);
          does = (
            record {
              front = [];
              at = held;
              rest = [];
              parts = refl;
              place = refl;
              places = refl;
              stops = (refl, refl);
            },
            refl,
          );
          counted = All-cons (λ (h : HeldLine). has_row (rows_of (in_r []) h.relation) h.row ≡ true
              → 1 ≤ copies_before (in_r []) h) held [] (λ there. absurd (true≢false (sym there)))
              (All-nil (λ (h : HeldLine). has_row (rows_of (in_r []) h.relation) h.row ≡ true
              → 1 ≤ copies_before (in_r []) h));
        };
        change = no_change (first_at (rows_left [] [] 0) (with_bytes [] pending)) 1 (rows_left [] [] 0)
            (line (codes "err 19 absent")) no_line (inl refl);
        kept = refl;
      },
    ) refl)
    (not_memory_text 5 (line (codes "err 19 absent")) refl refl)
    (not_memory_text 5 (line (codes "err 18 absent")) refl refl) refl refl refl

-- ---- A watch of the other session.

so_other : IsMachineDialogue other_session
unfolding digits
so_other =
    let adds = line (codes "add r 7") in
    let watch = line (codes "watch q") in
    let added = line (codes "ok added 1 1") in
    let z : Session = record (fresh 2) { held = watch } in
    let y = with_bytes adds ok_query in
    let watcher : Session = record (fresh 2) { pending = line (codes "ok watch 0"); watches = codes "q" ∷ [] } in
    let here = both_at (rows_left [] queries 0) y watcher in
    let new = both_at (rows_left (of_seven 1) queries 1) (with_bytes [] ok_query) watcher in
    let told : Telling = record { state = new; queued = (2, delta_of (codes "+ q 7")) ∷ [] } in
    let parts : List (ℕ × Bytes) = (2, delta_of (codes "+ q 7")) ∷ (1, added) ∷ [] in
    let start : Telling = record { state = new; queued = [] } in
    let says_watch : DialogueLine =
    record { session = 2; says = codes "watch q"; queued = (2, line (codes "ok watch 0")) ∷ [] } in
    let watches : IsSure (both_at (rows_left [] queries 0) y z) says_watch here =
    sure (both_at (rows_left [] queries 0) y z) says_watch z (says_command (Watch (codes "q"))) []
    (says 2 (line (codes "ok watch 0")))
    (both_at (rows_left [] queries 0) y (record (fresh 2) { watches = codes "q" ∷ [] })) refl refl reads_watch refl refl
    (omega arith) (true, record { result = Ok tt; answer = tt; effect = refl; state = refl }) refl refl refl
    (one_clean 2 _ (not_memory_text 0 (line (codes "ok watch 0")) refl refl)) in
    is_dialogue other_session here _ refl (
      _,
      made_beside z (line (codes "query q(x) <- r(x)") ++ adds),
      (_, registered_beside z [] 0 adds ok (omega arith) refl, (_, watches, refl)),
    )
    (runs_with here other_session.last y (says_command (Add (codes "r") (Int (pos 7) ∷ []))) []
    (record { queued = parts; cost = 6; kept = the_line }) new refl refl reads_add refl refl (omega arith) (
      true,
      record {
        result = Ok First;
        store = rows_left (of_seven 1) queries 1;
        done = record { answer = (refl, omega arith, refl); stays = λ refused. absurd (true≢false (sym refused)) };
        change = record {
          deltas = seven_delta ∷ [];
          listed = seven_listed;
          told = told;
          tells = (told, (start, refl, (told, inr (inl (omega arith, refl)), refl)), refl);
          last = record { state = new; queued = parts };
          replies = inl refl;
          queued = refl;
          cost = refl;
          state = refl;
        };
        kept = refl;
      },
    ) refl) (two_clean 2 1 _ added (not_memory_text 0 (delta_of (codes "+ q 7")) refl refl) (not_memory_text 0 added refl refl))
    (two_clean 2 1 _ added (not_memory_text 0 (delta_of (codes "+ q 8")) refl refl) (not_memory_text 0 added refl refl))
    (λ same. line_apart (delta_of (codes "+ q 7")) (delta_of (codes "+ q 8")) refl refl refl same.1) (refl, inl (refl, refl))

-- ---- A row that a batch updates.

one_went : (Before After : Tuple → Type 0) (u : Tuple) → Before u → (After u → ⊥)
    → ((t : Tuple) → Before t → (u ≡ t) ⊎ After t) → ((t : Tuple) → After t → Before t)
    → IsDelta Before After (went u ∷ [])
one_went Before After u old new more stays = record {
  different = AllPairs-cons (λ (s t : Tuple). s ≡ t → ⊥) u [] (All-nil (λ (t : Tuple). u ≡ t → ⊥))
      (nothing_apart (λ (s t : Tuple). s ≡ t → ⊥));
  changed = All-cons (λ (c : Change). HasChanged Before After c.sign c.answer) (went u) [] (old, new)
      (All-nil (λ (c : Change). HasChanged Before After c.sign c.answer));
  complete = by;
}
  where
    by : (sign : Sign) (t : Tuple) → HasChanged Before After sign t → Contains (went u ∷ []) (record { sign = sign; answer = t })
    by Came t h = absurd (h.1 (stays t h.0))
    by Went t h = last (more t h.0)
      where
        last : (u ≡ t) ⊎ After t → Contains (went u ∷ []) (went t)
        last (inl same) = first_there (went u) [] (went t) (ap went same)
        last (inr after) = absurd (h.1 after)

went_came : (Before After : Tuple → Type 0) (u w : Tuple) → Before u → (After u → ⊥) → After w → (Before w → ⊥)
    → ((t : Tuple) → Before t → u ≡ t) → ((t : Tuple) → After t → w ≡ t) → (u ≡ w → ⊥)
    → IsDelta Before After (went u ∷ came w ∷ [])
went_came Before After u w old gone new late befores afters apart = record {
  different = AllPairs-cons (λ (s t : Tuple). s ≡ t → ⊥) u (w ∷ [])
      (All-cons (λ (t : Tuple). u ≡ t → ⊥) w [] apart (All-nil (λ (t : Tuple). u ≡ t → ⊥)))
      (AllPairs-cons (λ (s t : Tuple). s ≡ t → ⊥) w [] (All-nil (λ (t : Tuple). w ≡ t → ⊥))
      (nothing_apart (λ (s t : Tuple). s ≡ t → ⊥)));
  changed = All-cons (λ (c : Change). HasChanged Before After c.sign c.answer) (went u) (came w ∷ []) (old, gone)
      (All-cons (λ (c : Change). HasChanged Before After c.sign c.answer) (came w) [] (new, late)
      (All-nil (λ (c : Change). HasChanged Before After c.sign c.answer)));
  complete = by;
}
  where
    by : (sign : Sign) (t : Tuple) → HasChanged Before After sign t
        → Contains (went u ∷ came w ∷ []) (record { sign = sign; answer = t })
    by Went t h = first_there (went u) (came w ∷ []) (went t) (ap went (befores t h.0))
    by Came t h = later_there (went u) (came w ∷ []) (came t) (first_there (came w) [] (came t) (ap came (afters t h.0)))

abbrev row_seven : Tuple
row_seven = Int (pos 7) ∷ []

abbrev row_eight : Tuple
row_eight = Int (pos 8) ∷ []

rows_differ : row_seven ≡ row_eight → ⊥
rows_differ e = absurd (cc (e))

abbrev of_eight : List CountedRow
of_eight = record { row = row_eight; copies = 1 } ∷ []

abbrev of_both : List CountedRow
of_both = record { row = row_seven; copies = 1 } ∷ of_eight

seven_before : IsAnswer (in_r (of_seven 1)) sevens row_seven
seven_before = answer_of (of_seven 1) (Int (pos 7)) (first_there row_seven [] row_seven refl)

eight_after : IsAnswer (in_r of_eight) sevens row_eight
eight_after = answer_of of_eight (Int (pos 8)) (first_there row_eight [] row_eight refl)

seven_between : IsAnswer (in_r of_both) sevens row_seven
seven_between = answer_of of_both (Int (pos 7)) (first_there row_seven (row_eight ∷ []) row_seven refl)

eight_between : IsAnswer (in_r of_both) sevens row_eight
eight_between = answer_of of_both (Int (pos 8))
    (later_there row_seven (row_eight ∷ []) row_eight (first_there row_eight [] row_eight refl))

between_is : (t : Tuple) → IsAnswer (in_r of_both) sevens t → (row_seven ≡ t) ⊎ (row_eight ≡ t)
between_is t h = by (first_or_later row_seven (row_eight ∷ []) t (answer_in of_both t h))
  where
    last : (row_eight ≡ t) ⊎ Contains [] t → (row_seven ≡ t) ⊎ (row_eight ≡ t)
    last (inl same) = inr same
    last (inr none) = absurd (omega (arith, none.1))

    by : (row_seven ≡ t) ⊎ Contains (row_eight ∷ []) t → (row_seven ≡ t) ⊎ (row_eight ≡ t)
    by (inl same) = inl same
    by (inr later) = last (first_or_later row_eight [] t later)

not_eight_before : IsAnswer (in_r (of_seven 1)) sevens row_eight → ⊥
not_eight_before h = rows_differ (only_answer (Int (pos 7)) 1 row_eight h)

not_seven_after : IsAnswer (in_r of_eight) sevens row_seven → ⊥
not_seven_after h = rows_differ (sym (only_answer (Int (pos 8)) 1 row_seven h))

eight_inserted : IsDelta (IsAnswer (in_r (of_seven 1)) sevens) (IsAnswer (in_r of_both) sevens) (came row_eight ∷ [])
eight_inserted =
    one_came (IsAnswer (in_r (of_seven 1)) sevens) (IsAnswer (in_r of_both) sevens) row_eight eight_between not_eight_before
    (λ t h. by t (between_is t h))
    (λ t h. subst (λ u. IsAnswer (in_r of_both) sevens u) (only_answer (Int (pos 7)) 1 t h) seven_between)
  where
    by : (t : Tuple) → (row_seven ≡ t) ⊎ (row_eight ≡ t) → (row_eight ≡ t) ⊎ IsAnswer (in_r (of_seven 1)) sevens t
    by t (inl same) = inr (subst (λ u. IsAnswer (in_r (of_seven 1)) sevens u) same seven_before)
    by t (inr same) = inl same

seven_deleted : IsDelta (IsAnswer (in_r of_both) sevens) (IsAnswer (in_r of_eight) sevens) (went row_seven ∷ [])
seven_deleted =
    one_went (IsAnswer (in_r of_both) sevens) (IsAnswer (in_r of_eight) sevens) row_seven seven_between not_seven_after
    (λ t h. by t (between_is t h))
    (λ t h. subst (λ u. IsAnswer (in_r of_both) sevens u) (only_answer (Int (pos 8)) 1 t h) eight_between)
  where
    by : (t : Tuple) → (row_seven ≡ t) ⊎ (row_eight ≡ t) → (row_seven ≡ t) ⊎ IsAnswer (in_r of_eight) sevens t
    by t (inl same) = inl same
    by t (inr same) = inr (subst (λ u. IsAnswer (in_r of_eight) sevens u) same eight_after)

seven_to_eight : IsDelta (IsAnswer (in_r (of_seven 1)) sevens) (IsAnswer (in_r of_eight) sevens)
    (went row_seven ∷ came row_eight ∷ [])
seven_to_eight =
    went_came (IsAnswer (in_r (of_seven 1)) sevens) (IsAnswer (in_r of_eight) sevens) row_seven row_eight seven_before
    not_seven_after eight_after not_eight_before (λ t h. only_answer (Int (pos 7)) 1 t h)
    (λ t h. only_answer (Int (pos 8)) 1 t h) rows_differ

abbrev held_both : HeldTransaction
held_both = holding held_seven Adds (codes "r") row_eight (codes "add r 8")

abbrev update_delta : Delta
update_delta = record { query = a_query sevens; changes = went row_seven ∷ came row_eight ∷ []; listed = 2; parts = [] }

abbrev update : RowsChange
update = lines_change (in_r (of_seven 1)) held_both.lines

update_listed : AreDeltas (in_r (of_seven 1)) update (a_query sevens ∷ []) (update_delta ∷ [])
update_listed = record {
  of_queries = refl;
  are_deltas = All-cons (λ (d : Delta). IsDelta (AnswersOf (in_r (of_seven 1)) d.query) (AnswersOf update.after d.query) d.changes)
      update_delta [] seven_to_eight
      (All-nil (λ (d : Delta). IsDelta (AnswersOf (in_r (of_seven 1)) d.query) (AnswersOf update.after d.query) d.changes));
  have_parts = All-cons (ArePartsOf (in_r (of_seven 1)) update) update_delta [] (record {
    of_members = refl;
    are_deltas = All-nil (λ (p : Part). IsDelta (IsAnswer (in_r (of_seven 1)) p.query) (IsAnswer update.after p.query) p.changes);
    list = All-nil (λ (p : Part). ListsAnswers (in_r (of_seven 1)) update p.query p.changes p.listed);
  }) (All-nil (ArePartsOf (in_r (of_seven 1)) update));
  list = All-cons (ListsDelta (in_r (of_seven 1)) update) update_delta [] (record {
    came = came row_eight ∷ [];
    went = went row_seven ∷ [];
    inserts = eight_inserted;
    deletes = seven_deleted;
    count = refl;
  }) (All-nil (ListsDelta (in_r (of_seven 1)) update));
}

reads_add_eight : reading_of (codes "add r 8") ≡ says_command (Add (codes "r") row_eight)
unfolding command_of is_utf8 chars encode tokens
reads_add_eight = refl

-- what the session is sent before the batch
abbrev before_batch : Bytes
before_batch = (ok_added ++ line (codes "ok query 3")) ++ line (codes "ok watch 1")

abbrev watching_q : Bytes → Bytes → Option HeldTransaction → Session
watching_q held pending batch = record (with_bytes held pending) { watches = codes "q" ∷ []; batch = batch }

watched_one : (rest : Bytes) → IsSure (first_at (rows_left (of_seven 1) queries 1)
    (with_bytes (line (codes "watch q") ++ rest) (ok_added ++ line (codes "ok query 3"))))
    (says_and_gets (codes "watch q") (codes "ok watch 1"))
    (first_at (rows_left (of_seven 1) queries 1) (watching_q rest before_batch None))
unfolding digits
watched_one rest =
    let pending = ok_added ++ line (codes "ok query 3") in
    sure (first_at (rows_left (of_seven 1) queries 1) (with_bytes (line (codes "watch q") ++ rest) pending))
    (says_and_gets (codes "watch q") (codes "ok watch 1")) (with_bytes (line (codes "watch q") ++ rest) pending)
    (says_command (Watch (codes "q"))) rest (says 1 (line (codes "ok watch 1")))
    (first_at (rows_left (of_seven 1) queries 1) (watching_q rest pending None)) refl refl reads_watch refl refl
    (omega arith) (true, record { result = Ok tt; answer = tt; effect = refl; state = refl }) refl refl refl
    (one_clean 1 _ (not_memory_text 0 (line (codes "ok watch 1")) refl refl))

holds_eight : (rest pending : Bytes) → length pending ≤ PENDING_BYTES
    → IsSure (first_at (rows_left (of_seven 1) queries 1) (watching_q (line (codes "add r 8") ++ rest) pending (Some held_seven)))
    (says_and_gets (codes "add r 8") (codes "ok held 2")) (first_at (rows_left (of_seven 1) queries 1)
    (watching_q rest (pending ++ line (codes "ok held 2")) (Some held_both)))
unfolding digits
holds_eight rest pending short =
    sure (first_at (rows_left (of_seven 1) queries 1) (watching_q (line (codes "add r 8") ++ rest) pending (Some held_seven)))
    (says_and_gets (codes "add r 8") (codes "ok held 2"))
    (watching_q (line (codes "add r 8") ++ rest) pending (Some held_seven)) (says_command (Add (codes "r") row_eight)) rest
    (says 1 (line (codes "ok held 2")))
    (first_at (rows_left (of_seven 1) queries 1) (watching_q rest pending (Some held_both))) refl refl reads_add_eight refl
    refl short (true, record { result = Ok tt; answer = tt; effect = refl; state = refl }) refl refl refl
    (one_clean 1 _ (not_memory_text 0 (line (codes "ok held 2")) refl refl))

so_updated : IsMachineDialogue row_updated
unfolding digits
so_updated =
    let ends = line (codes "done") in
    let adds = line (codes "add r 8") ++ ends in
    let deletes = line (codes "del r 7") ++ adds in
    let opens = line (codes "batch") ++ deletes in
    let watch = line (codes "watch q") ++ opens in
    let one = before_batch ++ line (codes "ok batch") in
    let two = one ++ line (codes "ok held 1") in
    let pending = two ++ line (codes "ok held 2") in
    let delta = line (codes "- q 7") ++ line (codes "+ q 8") ++ line (codes "at q 2") in
    let reply = line (codes "ok done 2 2") in
    let other = line (codes "ok done 3 2") in
    let here = first_at (rows_left (of_seven 1) queries 1) (watching_q ends pending (Some held_both)) in
    let new = first_at (rows_left of_eight queries 2) (watching_q [] pending None) in
    let told : Telling = record { state = new; queued = (1, delta) ∷ [] } in
    let parts : List (ℕ × Bytes) = (1, delta) ∷ (1, reply) ∷ [] in
    let deleted : HeldLine = record { verb = Deletes; relation = codes "r"; row = row_seven } in
    let added : HeldLine = record { verb = Adds; relation = codes "r"; row = row_eight } in
    let Counted : HeldLine → Type 0 = λ (h : HeldLine). has_row (rows_of (in_r (of_seven 1)) h.relation) h.row ≡ true
    → 1 ≤ copies_before (in_r (of_seven 1)) h in
    is_dialogue row_updated here _ refl (
      _,
      made (line (codes "add r 7") ++ line (codes "query q(x) <- r(x)") ++ watch),
      (
        _,
        added_first (line (codes "query q(x) <- r(x)") ++ watch),
        (
          _,
          registered (of_seven 1) 1 watch ok_added (omega arith) refl,
          (
            _,
            watched_one opens,
            (
              _,
              batched (rows_left (of_seven 1) queries 1) (codes "q" ∷ []) deletes before_batch (omega arith) refl,
              (
                _,
                holds_seven (of_seven 1) queries 1 (codes "q" ∷ []) adds one (omega arith) refl,
                (_, holds_eight ends two (omega arith), refl),
              ),
            ),
          ),
        ),
      ),
    )
    (runs_with here row_updated.last (watching_q ends pending (Some held_both)) (says_command (Done None)) []
    (record { queued = parts; cost = 12; kept = the_batch held_both.logged }) new refl refl reads_done refl refl (omega arith) (
      true,
      record {
        result = Ok 2;
        store = rows_left of_eight queries 2;
        done = record {
          answer = refl;
          does = (refl, refl);
          counted = All-cons Counted deleted (added ∷ []) (λ there. omega arith)
              (All-cons Counted added [] (λ there. absurd (true≢false (sym there))) (All-nil Counted));
        };
        change = record {
          deltas = update_delta ∷ [];
          listed = update_listed;
          told = told;
          tells = (told, (told, inr (inl (omega arith, refl)), (told, refl, refl)), refl);
          last = record { state = new; queued = parts };
          replies = inl refl;
          queued = refl;
          cost = refl;
          state = refl;
        };
        kept = refl;
      },
    ) refl) (two_clean 1 1 delta reply (not_memory_text 0 delta refl refl) (not_memory_text 0 reply refl refl))
    (two_clean 1 1 delta other (not_memory_text 0 delta refl refl) (not_memory_text 0 other refl refl))
    (λ same. one_apart 1 reply other refl refl same.2) (refl, inr (refl, (refl, inl (refl, refl))))

-- ---- A cyclic query.

-- t(x,y,z) <- e(x,y), e(y,z), e(z,x)
abbrev over_e : Bytes → Bytes → Atom
over_e a b = record { relation = codes "e"; terms = Variable a ∷ Variable b ∷ [] }

abbrev ring : Query
ring = record {
  name = codes "t";
  head = codes "x" ∷ codes "y" ∷ codes "z" ∷ [];
  atoms = over_e (codes "x") (codes "y") ∷ over_e (codes "y") (codes "z") ∷ over_e (codes "z") (codes "x") ∷ [];
  comparisons = [];
}

reads_ring : reading_of (codes "query t(x,y,z) <- e(x,y), e(y,z), e(z,x)") ≡ says_command (Register ring)
unfolding command_of is_utf8 chars encode tokens items_in
reads_ring = refl

reads_rel_two : reading_of (codes "rel e int int") ≡ says_command (Rel (codes "e") (IntColumn ∷ IntColumn ∷ []))
unfolding command_of is_utf8 chars encode tokens
reads_rel_two = refl

ring_edges : edges_of ring ≡ triangle
unfolding edges_from numbers_in
ring_edges = refl

abbrev ring_rest : NamedRest
ring_rest = record {
  edges = (0 ∷ 1 ∷ []) ∷ (0 ∷ 2 ∷ []) ∷ (1 ∷ 2 ∷ []) ∷ [];
  names = codes "x" ∷ codes "y" ∷ codes "z" ∷ [];
}

ring_named : IsNamedRest ring triangle ring_rest
ring_named = record {
  order = AllPairs-cons (λ e f. is_before e f ≡ true) (0 ∷ 1 ∷ []) ((0 ∷ 2 ∷ []) ∷ (1 ∷ 2 ∷ []) ∷ [])
      (All-cons (λ f. is_before (0 ∷ 1 ∷ []) f ≡ true) (0 ∷ 2 ∷ []) ((1 ∷ 2 ∷ []) ∷ []) refl
      (All-cons (λ f. is_before (0 ∷ 1 ∷ []) f ≡ true) (1 ∷ 2 ∷ []) [] refl (All-nil (λ f. is_before (0 ∷ 1 ∷ []) f ≡ true))))
      (AllPairs-cons (λ e f. is_before e f ≡ true) (0 ∷ 2 ∷ []) ((1 ∷ 2 ∷ []) ∷ [])
      (All-cons (λ f. is_before (0 ∷ 2 ∷ []) f ≡ true) (1 ∷ 2 ∷ []) [] refl (All-nil (λ f. is_before (0 ∷ 2 ∷ []) f ≡ true)))
      (AllPairs-cons (λ e f. is_before e f ≡ true) (1 ∷ 2 ∷ []) [] (All-nil (λ f. is_before (1 ∷ 2 ∷ []) f ≡ true))
      (nothing_apart (λ e f. is_before e f ≡ true))));
  edges = λ e. (
    swapped (0 ∷ 1 ∷ []) (0 ∷ 2 ∷ []) (1 ∷ 2 ∷ []) e,
    swapped (0 ∷ 1 ∷ []) (1 ∷ 2 ∷ []) (0 ∷ 2 ∷ []) e,
  );
  names = refl;
}
  where
    swapped : (a b c e : List ℕ) → Contains (a ∷ b ∷ c ∷ []) e → Contains (a ∷ c ∷ b ∷ []) e
    swapped a b c e h = first (first_or_later a (b ∷ c ∷ []) e h)
      where
        third : (c ≡ e) ⊎ Contains [] e → Contains (a ∷ c ∷ b ∷ []) e
        third (inl same) = later_there a (c ∷ b ∷ []) e (first_there c (b ∷ []) e same)
        third (inr none) = absurd (omega (arith, none.1))

        second : (b ≡ e) ⊎ Contains (c ∷ []) e → Contains (a ∷ c ∷ b ∷ []) e
        second (inl same) = later_there a (c ∷ b ∷ []) e (later_there c (b ∷ []) e (first_there b [] e same))
        second (inr later) = third (first_or_later c [] e later)

        first : (a ≡ e) ⊎ Contains (b ∷ c ∷ []) e → Contains (a ∷ c ∷ b ∷ []) e
        first (inl same) = first_there a (c ∷ b ∷ []) e same
        first (inr later) = second (first_or_later b (c ∷ []) e later)

abbrev of_e : Store
of_e = record empty_store {
  relations = record { name = codes "e"; types = IntColumn ∷ IntColumn ∷ []; rows = [] } ∷ [];
}

so_cyclic : IsMachineDialogue (ends_with (says_and_gets (codes "rel e int int") (codes "ok") ∷ []) (codes "query t(x,y,z) <- e(x,y), e(y,z), e(z,x)") (codes "no cyclic x,y x,z y,z") (codes "no cyclic x,y x,z y,x"))
so_cyclic =
    let asks = line (codes "query t(x,y,z) <- e(x,y), e(y,z), e(z,x)") in
    let reply = line (codes "no cyclic x,y x,z y,z") in
    let begins = with_bytes (line (codes "rel e int int") ++ asks) [] in
    let makes = says_and_gets (codes "rel e int int") (codes "ok") in
    let here = first_at of_e (with_bytes asks ok) in
    let is_made : IsSure (first_at empty_store begins) makes here =
    sure (first_at empty_store begins) makes begins (says_command (Rel (codes "e") (IntColumn ∷ IntColumn ∷ []))) asks
    (answers 1 ok true) (first_at of_e (with_bytes asks [])) refl refl reads_rel_two refl refl (omega arith) (
      true,
      record { result = Ok tt; store = of_e; done = record { answer = refl; stays = tt }; effect = refl; state = refl },
    ) refl refl refl (one_clean 1 ok (not_memory_text 0 ok refl refl)) in
    plain_dialogue (makes ∷ []) (codes "query t(x,y,z) <- e(x,y), e(y,z), e(z,x)") (codes "no cyclic x,y x,z y,z")
    (codes "no cyclic x,y x,z y,x") here _ refl (_, is_made, refl)
    (runs_with here (says_and_gets (codes "query t(x,y,z) <- e(x,y), e(y,z), e(z,x)") (codes "no cyclic x,y x,z y,z"))
    (with_bytes asks ok) (says_command (Register ring)) [] (answers 1 reply false) (first_at of_e (with_bytes [] ok)) refl refl
    reads_ring refl refl (omega arith) (
      true,
      inl (record {
        result = Ok (Cyclic ring_rest);
        store = of_e;
        done = record {
          answer = ((triangle, subst (λ E. IsCyclic E triangle) (sym ring_edges) triangle_cyclic, ring_named), refl);
          stays = λ refused. refl;
        };
        effect = refl;
        state = refl;
      }),
    ) refl)
    (not_memory_text 0 reply refl refl) (not_memory_text 0 (line (codes "no cyclic x,y x,z y,x")) refl refl) refl refl refl

pub are_dialogues : AreDialogues dialogues
are_dialogues = (
  so_inserted,
  (
    so_copied,
    (
      so_deleted,
      (
        so_absent,
        (
          so_refused,
          (
            so_answered,
            (
              so_delta,
              (
                so_other,
                (
                  so_page,
                  (so_stale, (so_lacking, (so_updated, (so_cyclic, tt)))),
                ),
              ),
            ),
          ),
        ),
      ),
    ),
  ),
)
