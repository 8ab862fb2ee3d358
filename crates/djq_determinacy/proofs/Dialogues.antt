-- Twelve exchanges, as theorems.
use Rattle.std.specs.Prelude.{ℕ, List, [], ◌∷◌, ◌++◌, ◌≡◌, ◌≢◌, ◌==◌, ◌-◌, ◌+◌, ◌||◌, Bool, true, false, None, Ok, Err, All, codes, pos, get_or, length}
use Rattle.std.specs.Str.{bytes_eq}
use Rattle.std.proofs.Common.{refl, sym, ap, ◌∙◌, subst, inl, arith, length-append}
use Rattle.std.proofs.lemmas.Bool.{true≢false, eqb-false}
use Rattle.std.proofs.lemmas.List.{get_or-append-add}
use Rattle.std.specs.Bool.{Decides}
use Rattle.std.proofs.lemmas.Slice.Eq.{bytes_eq-Decides}
use Rattle.std.proofs.lemmas.List.Elements.{All-nil, All-cons}
use Rattle.djq_model.specs.Data.{Bytes, Tuple}
use Rattle.djq_protocol.specs.declared.answer.Refusal.TheVariants.{Taken, Syntax, NoCursor, Misplaced}
use Rattle.djq_protocol.specs.declared.answer.Sign.{Sign}
use Rattle.djq_protocol.specs.declared.answer.Sign.TheVariants.{Came, Went}
use Rattle.djq_protocol.specs.declared.command.Command.TheVariants.{Rel, Add, Del, Has, Open, Close, Watch, Batch, Done, Quit}
use Rattle.djq_model.specs.declared.relation.ColumnType.TheVariants.{Int as IntColumn}
use Rattle.djq_protocol.specs.Line.{a_line, front_of, is_blank}
use Rattle.djq_protocol.specs.Grammar.{Reading, outside, says_command, reading_of, command_of}
use Rattle.djq_value.specs.Token.{tokens}
use Rattle.std.specs.Fmt.{digits}
use Rattle.std.specs.Str.{is_utf8, chars}
use lib.Utf8.{encode}
use Rattle.djq_protocol.specs.Reply.{line, refusal_line, end_memory, text_of, listing_lines}
use Rattle.djq_store_spec.specs.Store.{Store, empty_store}
use Rattle.djq_store_spec.specs.Delta.{Change, delta_lines}
use Rattle.djq_machine.specs.State.{State, fresh, with_session, ended_by}
use Rattle.djq_machine.specs.Effect.{Effect, answers, says, queue_all}
use Rattle.djq_machine.specs.LineStep.{run, ReadStep}
use Rattle.djq_machine.specs.Keeping.{no_line, the_line}
use Rattle.djq_machine.specs.Command.{with_cursor, with_watch, with_batch}
use Rattle.djq_store_spec.specs.Held.{nothing_held}
use Rattle.djq_protocol.specs.declared.answer.EndCause.TheVariants.{Quit as SaidQuit}
use Rattle.djq_protocol.specs.declared.answer.AddOutcome.TheVariants.{More}
use Rattle.djq_protocol.specs.declared.answer.DeleteOutcome.TheVariants.{Absent}
use Rattle.djq_model.specs.Answer.{IsAnswer, Satisfies, HoldsOf}
use Rattle.djq_model.specs.declared.value.Value.TheVariants.{Int}
use Rattle.djq_model.specs.declared.query.Term.TheVariants.{Variable}
use Rattle.djq_answer_laws.proofs.Lists.{first_there}
use Rattle.djq_machine.specs.Step.{stepped, Acts}
use Rattle.djq_determinacy.specs.Determinacy.{SameText, is_equal, are_pages, are_deltas, SameQueued, IsNoRefusal, HasMemory}
use Rattle.djq_determinacy.specs.Dialogues.{differences, over_one_row, IsAnsweredBy, Exchanged, IsAnsweredSo, AllAnswered, exchanges, holding_line, seven, sevens, one_row}
use Rattle.djq_determinacy.proofs.Memory.{differs_at, memory_text}
use Rattle.djq_determinacy.proofs.Prefixes.{step_of}
use Rattle.djq_determinacy.proofs.Steps.{is_determined}

-- ---- A reply that is neither a page nor a delta is the only one.

-- whether a text may begin a page or a delta
abbrev pub is_list : Bytes → Bool
is_list text =
    let first = get_or text 0 0 in
    first == 61 || first == 43 || first == 45 || first == 97 || bytes_eq text (line (codes "end"))
    || bytes_eq text (line (codes "more"))

page_is_list : (told : List Tuple) (end : Bool) → is_list (text_of (listing_lines told end)) ≡ true
page_is_list [] true = refl
page_is_list [] false = refl
page_is_list (t ∷ ts) end = refl

delta_is_list : (query : Bytes) (changes : List Change) (n : ℕ) → is_list (text_of (delta_lines query changes n)) ≡ true
delta_is_list query [] n = refl
delta_is_list query (c ∷ cs) n = by c.sign
  where
    by : (sign : Sign) → is_list (text_of (delta_lines query (record { sign = sign; answer = c.answer } ∷ cs) n)) ≡ true
    by Came = refl
    by Went = refl

pub only_text : (a b : Bytes) → SameText a b → is_list a ≡ false → a ≡ b
only_text a b (is_equal same) plain = same
only_text a b (are_pages told told' end is is' long moved) plain =
    absurd (true≢false (sym (page_is_list told end) ∙ ap is_list (sym is) ∙ plain))
only_text a b (are_deltas query changes changes' n moved is is') plain =
    absurd (true≢false (sym (delta_is_list query changes n) ∙ ap is_list (sym is) ∙ plain))

-- a text that doesn't end so that memory was refused
ends_otherwise : (text : Bytes) → (get_or text (length text - 2) 0 == 121) ≡ false → (front : Bytes)
    → text ≢ front ++ end_memory
ends_otherwise text other front is =
    let long = ap length is ∙ length-append front end_memory in
    let place : length text - 2 ≡ length front + 9 = omega (arith, long) in
    eqb-false (get_or text (length text - 2) 0) 121 other
    (ap (λ i. get_or text i 0) place ∙ ap (λ t. get_or t (length front + 9) 0) is
    ∙ get_or-append-add front end_memory 9 0)

-- the tests of an exchange that a proof computes
record IsPlain (x : Exchanged) : Type 0 where
  plain : is_list (line x.reply) ≡ false
  reply_first : IsNoRefusal (line x.reply)
  other_first : IsNoRefusal (line x.other)
  differ : bytes_eq (line x.reply) (line x.other) ≡ false

only_so : (x : Exchanged) → IsPlain x → IsAnsweredBy x.store x.says (line x.reply) → IsAnsweredBy x.store x.says (line x.other) → ⊥
only_so x plain so = λ other. differs (bytes_eq-Decides (line x.reply) (line x.other)) (same_reply other)
  where
    memory : (reply : Bytes) (a : IsAnsweredBy x.store x.says reply) → IsNoRefusal reply → HasMemory a.effect
    memory reply a none = subst (λ qs. All (λ (q : ℕ × Bytes). IsNoRefusal q.1) qs) (sym a.queued)
        (All-cons (λ (q : ℕ × Bytes). IsNoRefusal q.1) (1, reply) [] none (All-nil (λ (q : ℕ × Bytes). IsNoRefusal q.1)))

    same_reply : IsAnsweredBy x.store x.says (line x.other) → line x.reply ≡ line x.other
    same_reply other =
        let same = is_determined (holding_line x.says x.store) (stepped 1 (run x.says)) so.effect other.effect so.new other.new
        so.step other.step (memory (line x.reply) so plain.reply_first)
        (memory (line x.other) other plain.other_first) in
        let parts = subst (λ qs. SameQueued qs ((1, line x.other) ∷ [])) so.queued
        (subst (λ qs. SameQueued so.effect.queued qs) other.queued same.0) in
        only_text (line x.reply) (line x.other) parts.1 plain.plain

    differs : Decides (bytes_eq (line x.reply) (line x.other)) (line x.reply ≡ line x.other) → line x.reply ≡ line x.other → ⊥
    differs d same = true≢false (sym (d.1 same) ∙ plain.differ)

-- ---- The exchanges.

-- a text that is neither refusal of memory
pub not_memory_text : (k : ℕ) (text : Bytes) → (get_or text k 0 == get_or memory_text k 0) ≡ false
    → (get_or text (length text - 2) 0 == 121) ≡ false → IsNoRefusal text
not_memory_text k text first last = (differs_at k text first, ends_otherwise text last)

-- session 1 is open alone, and holds nothing
abbrev holding : Store → State
holding store = record { store = store; stopped = false; sessions = fresh 1 ∷ [] }

-- session 1 holds a line, and it is run
runs : (store : Store) (l reply : Bytes) (e : Effect) (mid : State)
    → Acts (holding_line l store) (stepped 1 (run l)) e mid → e.queued ≡ (1, reply) ∷ [] → IsAnsweredBy store l reply
runs store l reply e mid acts queued = record {
  effect = e;
  new = queue_all mid e.queued;
  step = step_of (holding_line l store) (stepped 1 (run l)) e mid acts;
  queued = queued;
}

-- one exchange, by what its line says
exchange : (x : Exchanged) (r : Reading) (e : Effect) (mid : State) → reading_of x.says ≡ r → front_of (line x.says) ≡ a_line x.says [] → is_blank x.says ≡ false
    → is_list (line x.reply) ≡ false → IsNoRefusal (line x.reply) → IsNoRefusal (line x.other)
    → bytes_eq (line x.reply) (line x.other) ≡ false → differences x.reply x.other ≡ 1
    → ReadStep (holding x.store) 1 (fresh 1) x.says r e mid → e.queued ≡ (1, line x.reply) ∷ [] → IsAnsweredSo x
exchange x r e mid reads front blank plain reply_first other_first differ one step queued =
    let so = runs x.store x.says (line x.reply) e mid (
      refl,
      (
        blank,
        omega arith,
        record {
          rest = [];
          front = front;
          then = subst (λ k. ReadStep (holding x.store) 1 (fresh 1) x.says k e mid) (sym reads) step;
        },
      ),
    ) queued in
    record {
      so = so;
      one_byte = one;
      not_so = only_so x (record {
        plain = plain;
        reply_first = reply_first;
        other_first = other_first;
        differ = differ;
      }) so;
    }

pub reads_rel : reading_of (codes "rel r int") ≡ says_command (Rel (codes "r") (IntColumn ∷ []))
unfolding command_of is_utf8 chars encode tokens
reads_rel = refl

pub reads_part : reading_of (codes "rel") ≡ outside
unfolding command_of is_utf8 chars encode tokens
reads_part = refl

pub reads_has : reading_of (codes "has q 7") ≡ says_command (Has (codes "q") (Int (pos 7) ∷ []))
unfolding command_of is_utf8 chars encode tokens
reads_has = refl

pub reads_open : reading_of (codes "open c q") ≡ says_command (Open (codes "c") (codes "q"))
unfolding command_of is_utf8 chars encode tokens
reads_open = refl

reads_close : reading_of (codes "close c") ≡ says_command (Close (codes "c"))
unfolding command_of is_utf8 chars encode tokens
reads_close = refl

pub reads_watch : reading_of (codes "watch q") ≡ says_command (Watch (codes "q"))
unfolding command_of is_utf8 chars encode tokens
reads_watch = refl

pub reads_add : reading_of (codes "add r 7") ≡ says_command (Add (codes "r") (Int (pos 7) ∷ []))
unfolding command_of is_utf8 chars encode tokens
reads_add = refl

pub reads_del : reading_of (codes "del r 8") ≡ says_command (Del (codes "r") (Int (pos 8) ∷ []))
unfolding command_of is_utf8 chars encode tokens
reads_del = refl

pub reads_batch : reading_of (codes "batch") ≡ says_command Batch
unfolding command_of is_utf8 chars encode tokens
reads_batch = refl

pub reads_done : reading_of (codes "done") ≡ says_command (Done None)
unfolding command_of is_utf8 chars encode tokens
reads_done = refl

reads_quit : reading_of (codes "quit") ≡ says_command Quit
unfolding command_of is_utf8 chars encode tokens
reads_quit = refl

-- the store with another copy of the row
abbrev two_copies : Store
two_copies = record one_row {
  relations = record seven { rows = record { row = Int (pos 7) ∷ []; copies = 2 } ∷ [] } ∷ [];
}

-- a number that stands in r is an answer of q
pub seven_is_answer : IsAnswer (seven ∷ []) sevens (Int (pos 7) ∷ [])
seven_is_answer = record {
  assignment = λ x. Int (pos 7);
  satisfies = All-cons (Satisfies (seven ∷ []) (λ x. Int (pos 7))) (record { relation = codes "r"; terms = Variable (codes "x") ∷ [] }) []
      (record {
        row = Int (pos 7) ∷ [];
        is_there = first_there (Int (pos 7) ∷ []) [] (Int (pos 7) ∷ []) refl;
        stands = (refl, tt);
      }) (All-nil (Satisfies (seven ∷ []) (λ x. Int (pos 7))));
  compared = All-nil (HoldsOf (λ x. Int (pos 7)));
  on_head = refl;
}

so_made : IsAnsweredSo (record { store = empty_store; says = codes "rel r int"; reply = codes "ok"; other = codes "oh" })
so_made =
    exchange (record { store = empty_store; says = codes "rel r int"; reply = codes "ok"; other = codes "oh" }) (says_command (Rel (codes "r") (IntColumn ∷ []))) (answers 1 (line (codes "ok")) true)
    (holding (record empty_store { relations = record { name = codes "r"; types = IntColumn ∷ []; rows = [] } ∷ [] })) reads_rel refl refl refl
    (not_memory_text 0 (line (codes "ok")) refl refl) (not_memory_text 0 (line (codes "oh")) refl refl) refl refl
    (true, record { result = Ok tt; store = _; done = record { answer = refl; stays = tt }; effect = refl; state = refl }) refl

so_taken : IsAnsweredSo (over_one_row (codes "rel r int") (codes "err 2 taken") (codes "err 3 taken"))
so_taken =
    exchange (over_one_row (codes "rel r int") (codes "err 2 taken") (codes "err 3 taken")) (says_command (Rel (codes "r") (IntColumn ∷ []))) (answers 1 (refusal_line Taken) false)
    (holding one_row) reads_rel refl refl refl
    (not_memory_text 4 (line (codes "err 2 taken")) refl refl) (not_memory_text 4 (line (codes "err 3 taken")) refl refl) refl refl
    (true, record { result = Err Taken; store = one_row; done = record { answer = refl; stays = refl }; effect = refl; state = refl }) refl

so_part : IsAnsweredSo (over_one_row (codes "rel") (codes "err 1 syntax") (codes "err 2 syntax"))
so_part =
    exchange (over_one_row (codes "rel") (codes "err 1 syntax") (codes "err 2 syntax")) (outside) (says 1 (refusal_line Syntax))
    (holding one_row) reads_part refl refl refl
    (not_memory_text 5 (line (codes "err 1 syntax")) refl refl) (not_memory_text 4 (line (codes "err 2 syntax")) refl refl) refl refl
    (refl, refl) refl

so_has : IsAnsweredSo (over_one_row (codes "has q 7") (codes "yes") (codes "yet"))
so_has =
    exchange (over_one_row (codes "has q 7") (codes "yes") (codes "yet")) (says_command (Has (codes "q") (Int (pos 7) ∷ []))) (record { queued = (1, line (codes "yes")) ∷ []; cost = 1; kept = no_line })
    (holding one_row) reads_has refl refl refl
    (not_memory_text 0 (line (codes "yes")) refl refl) (not_memory_text 0 (line (codes "yet")) refl refl) refl refl
    (true, record { result = Ok true; tells = record { answer = seven_is_answer }; effect = refl; state = refl }) refl

so_open : IsAnsweredSo (over_one_row (codes "open c q") (codes "ok open") (codes "ok oven"))
so_open =
    exchange (over_one_row (codes "open c q") (codes "ok open") (codes "ok oven")) (says_command (Open (codes "c") (codes "q"))) (says 1 (line (codes "ok open")))
    (with_session (holding one_row) 1 (with_cursor (codes "c") (codes "q"))) reads_open refl refl refl
    (not_memory_text 0 (line (codes "ok open")) refl refl) (not_memory_text 0 (line (codes "ok oven")) refl refl) refl refl
    (true, record { result = Ok tt; answer = tt; effect = refl; state = refl }) refl

so_close : IsAnsweredSo (over_one_row (codes "close c") (codes "err 5 no cursor") (codes "err 5 no curser"))
so_close =
    exchange (over_one_row (codes "close c") (codes "err 5 no cursor") (codes "err 5 no curser")) (says_command (Close (codes "c"))) (says 1 (refusal_line NoCursor))
    (holding one_row) reads_close refl refl refl
    (not_memory_text 4 (line (codes "err 5 no cursor")) refl refl) (not_memory_text 4 (line (codes "err 5 no curser")) refl refl) refl refl
    (true, (refl, refl)) refl

so_watch : IsAnsweredSo (over_one_row (codes "watch q") (codes "ok watch 1") (codes "ok watch 2"))
unfolding digits
so_watch =
    exchange (over_one_row (codes "watch q") (codes "ok watch 1") (codes "ok watch 2")) (says_command (Watch (codes "q"))) (says 1 (line (codes "ok watch 1")))
    (with_session (holding one_row) 1 (with_watch (codes "q"))) reads_watch refl refl refl
    (not_memory_text 0 (line (codes "ok watch 1")) refl refl) (not_memory_text 0 (line (codes "ok watch 2")) refl refl) refl refl
    (true, record { result = Ok tt; answer = tt; effect = refl; state = refl }) refl

so_add : IsAnsweredSo (over_one_row (codes "add r 7") (codes "ok added 1 2") (codes "ok added 2 2"))
unfolding digits
so_add =
    exchange (over_one_row (codes "add r 7") (codes "ok added 1 2") (codes "ok added 2 2"))
    (says_command (Add (codes "r") (Int (pos 7) ∷ [])))
    (record { queued = (1, line (codes "ok added 1 2")) ∷ []; cost = 0; kept = the_line }) (holding two_copies) reads_add
    refl refl refl (not_memory_text 0 (line (codes "ok added 1 2")) refl refl)
    (not_memory_text 0 (line (codes "ok added 2 2")) refl refl) refl refl (
      true,
      record {
        result = Ok (More 2);
        store = two_copies;
        done = record { answer = (refl, refl, refl); stays = λ refused. absurd (true≢false (sym refused)) };
        change = record {
          deltas = [];
          listed = refl;
          told = record { state = holding two_copies; queued = [] };
          tells = refl;
          last = record { state = holding two_copies; queued = (1, line (codes "ok added 1 2")) ∷ [] };
          replies = inl refl;
          queued = refl;
          cost = refl;
          state = refl;
        };
        kept = refl;
      },
    ) refl

so_del : IsAnsweredSo (over_one_row (codes "del r 8") (codes "ok absent 1") (codes "ok absent 0"))
unfolding digits
so_del =
    exchange (over_one_row (codes "del r 8") (codes "ok absent 1") (codes "ok absent 0"))
    (says_command (Del (codes "r") (Int (pos 8) ∷ [])))
    (record { queued = (1, line (codes "ok absent 1")) ∷ []; cost = 0; kept = no_line }) (holding one_row) reads_del
    refl refl refl (not_memory_text 0 (line (codes "ok absent 1")) refl refl)
    (not_memory_text 0 (line (codes "ok absent 0")) refl refl) refl refl (
      true,
      record {
        result = Ok Absent;
        store = one_row;
        done = record { answer = (refl, refl); stays = tt };
        change = record {
          deltas = [];
          listed = refl;
          told = record { state = holding one_row; queued = [] };
          tells = refl;
          last = record { state = holding one_row; queued = (1, line (codes "ok absent 1")) ∷ [] };
          replies = inl refl;
          queued = refl;
          cost = refl;
          state = refl;
        };
        kept = refl;
      },
    ) refl

so_batch : IsAnsweredSo (over_one_row (codes "batch") (codes "ok batch") (codes "ok botch"))
so_batch =
    exchange (over_one_row (codes "batch") (codes "ok batch") (codes "ok botch")) (says_command Batch) (says 1 (line (codes "ok batch")))
    (with_session (holding one_row) 1 (with_batch nothing_held)) reads_batch refl refl refl
    (not_memory_text 0 (line (codes "ok batch")) refl refl) (not_memory_text 0 (line (codes "ok botch")) refl refl) refl refl
    (true, record { result = Ok tt; answer = tt; effect = refl; state = refl }) refl

so_done : IsAnsweredSo (over_one_row (codes "done") (codes "err 18 batch") (codes "err 19 batch"))
so_done =
    exchange (over_one_row (codes "done") (codes "err 18 batch") (codes "err 19 batch")) (says_command (Done None)) (says 1 (refusal_line Misplaced))
    (holding one_row) reads_done refl refl refl
    (not_memory_text 5 (line (codes "err 18 batch")) refl refl) (not_memory_text 5 (line (codes "err 19 batch")) refl refl) refl refl
    (refl, refl) refl

so_quit : IsAnsweredSo (over_one_row (codes "quit") (codes "bye") (codes "aye"))
so_quit =
    exchange (over_one_row (codes "quit") (codes "bye") (codes "aye")) (says_command Quit) (says 1 (line (codes "bye")))
    (with_session (holding one_row) 1 (ended_by SaidQuit)) reads_quit refl refl refl
    (not_memory_text 0 (line (codes "bye")) refl refl) (not_memory_text 0 (line (codes "aye")) refl refl) refl refl
    (true, (refl, refl)) refl

pub all_answered : AllAnswered exchanges
all_answered =
    (so_made, (so_taken, (so_part, (so_has, (so_open, (so_close, (so_watch, (so_add, (so_del, (so_batch, (so_done, (so_quit, tt))))))))))))
