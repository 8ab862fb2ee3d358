-- Which commands are never refused for memory.
use Rattle.std.specs.Prelude.{ℕ, List, [], ◌∷◌, ◌≡◌, ◌≢◌, ◌⊎◌, ◌++◌, ◌==◌, ◌≤◌, Bool, true, false, cond, Option, None, Some, is_none}
use Rattle.std.specs.Prelude.{◌&&◌, ◌||◌, not, nat_le, IsSomeAnd, MatchOption, Result, Ok, Err, All, Contains, codes, get_or, map, length, ⊤}
use Rattle.std.specs.List.{list_any}
use Rattle.std.proofs.Common.{refl, sym, ap, ◌∙◌, subst, inl, inr, arith, length-append}
use Rattle.std.proofs.lemmas.Bool.{eqb-false, true≢false}
use Rattle.std.proofs.lemmas.List.Elements.{All-nil, All-cons, All-head, All-tail}
use Rattle.djq_model.specs.Data.{Bytes, Tuple}
use Rattle.djq_model.specs.Listed.{Listed, a_query, a_union, listed_of, listed_name}
use Rattle.djq_model.specs.declared.query.Query.{Query}
use Rattle.djq_protocol.specs.declared.answer.EndCause.{EndCause}
use Rattle.djq_protocol.specs.declared.answer.Refusal.{Refusal}
use Rattle.djq_protocol.specs.declared.answer.Refusal.TheVariants.{Syntax, Taken, NoRelation, NoQuery, NoCursor, Arity, WrongType}
use Rattle.djq_protocol.specs.declared.answer.Refusal.TheVariants.{HeadUnbound, HeadRepeated, VariableType, Limit, NoMemory, InUse}
use Rattle.djq_protocol.specs.declared.answer.Refusal.TheVariants.{Unbound, Member, Misplaced, NoCopy, OtherCount}
use Rattle.djq_protocol.specs.declared.answer.DeleteOutcome.{DeleteOutcome}
use Rattle.djq_protocol.specs.declared.answer.DeleteOutcome.TheVariants.{Last, Left, Absent}
use Rattle.djq_protocol.specs.declared.answer.Shape.{Shape as ShapeOf}
use Rattle.djq_protocol.specs.declared.answer.Shape.TheVariants.{Flat, Linear, Union as IsUnion}
use Rattle.djq_protocol.specs.declared.answer.Sign.TheVariants.{Came, Went}
use Rattle.djq_protocol.specs.declared.command.Command.{Command}
use Rattle.djq_protocol.specs.declared.command.Command.TheVariants.{Rel, Add, Del, Query as Register, Union, Drop, Open, Next, Close}
use Rattle.djq_protocol.specs.declared.command.Command.TheVariants.{Has, Watch, Unwatch, Explain, Shape, Batch, Done, Abandon, Quit, Stop}
use Rattle.djq_protocol.specs.declared.limits.TheConstants.{PENDING_BYTES, LAST_SEQ}
use Rattle.djq_hypergraph.specs.Hypergraph.{numbers_below}
use Rattle.djq_protocol.specs.Conditions.{first_refusal, Answers, OutOfMemoryWhere}
use Rattle.djq_protocol.specs.Grammar.{says_command, reading_of, takes_memory_to_read}
use Rattle.djq_protocol.specs.Reply.{line, refusal_line, text_of, listing_lines, answer_line, end_memory, end_slow}
use Rattle.djq_protocol.specs.Reply.{ok_reply, delete_reply, has_reply, member_line, shape_reply, bye}
use Rattle.djq_store_spec.specs.Store.{Store, Position, open_at, stale}
use Rattle.djq_store_spec.specs.Held.{HeldTransaction, HeldLine}
use Rattle.djq_store_spec.specs.Rows.{DeletesAs, row_refusals, copies_of}
use Rattle.djq_store_spec.specs.Registering.{is_member}
use Rattle.djq_store_spec.specs.Asking.{listed_types}
use Rattle.djq_model.specs.Typed.{fits}
use Rattle.djq_protocol.specs.declared.held.Verb.TheVariants.{Delete as Deletes}
use Rattle.djq_store_spec.specs.Delta.{Change, change_lines, delta_lines}
use Rattle.djq_store_spec.specs.DeltaCost.{Delta}
use Rattle.djq_store_spec.specs.Changes.{RowsOutcome}
use Rattle.djq_protocol.specs.declared.answer.Sign.{Sign}
use Rattle.djq_protocol.specs.declared.answer.EndCause.TheVariants.{Memory}
use Rattle.djq_machine.specs.State.{State, Session, Cursor, session_of, with_session, state_ids, cursor_of}
use Rattle.djq_machine.specs.Effect.{Effect, says, lost_line, RefusedStep}
use Rattle.djq_machine.specs.LineStep.{run, ReadStep, FrontStep, behind_line}
use Rattle.djq_machine.specs.Step.{stepped, Step}
use Rattle.djq_machine.specs.Watch.{Telling, says_more, ends_more, watcher_of, TellsWatcher, TellsSession, TellsDelta}
use Rattle.djq_machine.specs.Watch.{RepliesLast, ChangeStep}
use Rattle.djq_machine.specs.Command.{DeleteStep, HoldStep, CloseStep, uses}
use Rattle.djq_machine.specs.Command.{CommandStep, NextStepAt, TellsLines, ExplainStepOf, is_misplaced}
use Rattle.djq_machine.proofs.Relations.{walk_keeps}
use Rattle.djq_answer_laws.proofs.Lists.{nothing_there, first_or_later}
use Rattle.djq_determinacy.specs.Memory.{needs_none, RefusesNone, NeverRefusedForMemory}

-- ---- texts that are another

abbrev pub memory_text : Bytes
memory_text = refusal_line NoMemory

-- a text that differs at a place
pub differs_at : (k : ℕ) (text : Bytes) → (get_or text k 0 == get_or memory_text k 0) ≡ false → text ≢ memory_text
differs_at k text other same = eqb-false (get_or text k 0) (get_or memory_text k 0) other (ap (λ t. get_or t k 0) same)

-- the line of another refusal
other_refusal : (r : Refusal) → r ≢ NoMemory → refusal_line r ≢ memory_text
other_refusal Syntax h = differs_at 5 _ refl
other_refusal Taken h = differs_at 4 _ refl
other_refusal NoRelation h = differs_at 4 _ refl
other_refusal NoQuery h = differs_at 4 _ refl
other_refusal NoCursor h = differs_at 4 _ refl
other_refusal Arity h = differs_at 4 _ refl
other_refusal WrongType h = differs_at 4 _ refl
other_refusal HeadUnbound h = differs_at 4 _ refl
other_refusal HeadRepeated h = differs_at 4 _ refl
other_refusal VariableType h = differs_at 5 _ refl
other_refusal Limit h = differs_at 5 _ refl
other_refusal NoMemory h = absurd (h refl)
other_refusal InUse h = differs_at 5 _ refl
other_refusal Unbound h = differs_at 5 _ refl
other_refusal Member h = differs_at 5 _ refl
other_refusal Misplaced h = differs_at 5 _ refl
other_refusal NoCopy h = differs_at 5 _ refl
other_refusal OtherCount h = differs_at 4 _ refl

abbrev pub is_memory : Refusal → Bool
is_memory NoMemory = true
is_memory _ = false

-- no condition of these refuses for memory
abbrev pub NoneOfMemory : List (Bool × Refusal) → Type 0
NoneOfMemory [] = ⊤
NoneOfMemory (c ∷ cs) = (is_memory c.1 ≡ false) × NoneOfMemory cs

refused_other : {A : Type 0} (cs : List (Bool × Refusal)) (r : Refusal) (D : A → Type 0) → NoneOfMemory cs
    → Answers (first_refusal cs) (Err r) D (OutOfMemoryWhere ⊥) → r ≢ NoMemory
refused_other [] r D none late = λ is. subst (OutOfMemoryWhere ⊥) is late
refused_other {A = A} (c ∷ cs) r D none answer = by c.0 answer (λ more. refused_other cs r D none.1 more)
  where
    by : (b : Bool) → Answers {A = A} (cond b (Some c.1) (first_refusal cs)) (Err r) D (OutOfMemoryWhere ⊥)
        → (Answers {A = A} (first_refusal cs) (Err r) D (OutOfMemoryWhere ⊥) → r ≢ NoMemory) → r ≢ NoMemory
    by true same later = λ is.
        let other : is_memory NoMemory ≡ false = subst (λ s. is_memory s ≡ false) (sym same ∙ is) none.0 in
        absurd (true≢false other)
    by false more later = later more

-- ---- effects that refuse none

abbrev IsOtherPart : ℕ × Bytes → Type 0
IsOtherPart q = q.1 ≢ memory_text

all_there : (qs : List (ℕ × Bytes)) → All IsOtherPart qs → (s : ℕ) → Contains qs (s, memory_text) → ⊥
all_there [] h s there = nothing_there _ there
all_there (q ∷ qs) h s there =
    which (first_or_later q qs (s, memory_text) there) (all_there qs (All-tail IsOtherPart q qs h) s)
  where
    which : (q ≡ (s, memory_text)) ⊎ Contains qs (s, memory_text) → (Contains qs (s, memory_text) → ⊥) → ⊥
    which (inl same) more = All-head IsOtherPart q qs h (ap (λ (p : ℕ × Bytes). p.1) same)
    which (inr later) more = more later

refuses_none : (e : Effect) → All IsOtherPart e.queued → RefusesNone e
refuses_none e others s there = all_there e.queued others s there

one_part : (s : ℕ) (text : Bytes) (e : Effect) → e.queued ≡ (s, text) ∷ [] → text ≢ memory_text → RefusesNone e
one_part s text e is other =
    refuses_none e (subst (λ qs. All IsOtherPart qs) (sym is) (All-cons IsOtherPart (s, text) [] other (All-nil IsOtherPart)))

says_other : (s : ℕ) (text : Bytes) (e : Effect) → e ≡ says s text → text ≢ memory_text → RefusesNone e
says_other s text e is other = one_part s text e (ap (λ (d : Effect). d.queued) is) other

refused_step : (old : State) (s : ℕ) (r : Refusal) (e : Effect) (new : State) → r ≢ NoMemory → RefusedStep old s r e new
    → RefusesNone e
refused_step old s r e new other step = says_other s (refusal_line r) e step.0 (other_refusal r other)

not_memory : (r : Refusal) → is_memory r ≡ false → r ≢ NoMemory
not_memory r other is = absurd (true≢false (subst (λ s. is_memory s ≡ false) is other))

-- ---- lines of listings and of deltas

page_other : (told : List Tuple) (end : Bool) → text_of (listing_lines told end) ≢ memory_text
page_other [] true = differs_at 1 _ refl
page_other [] false = differs_at 0 _ refl
page_other (t ∷ ts) end = differs_at 0 _ refl

cut_other : (told : List Tuple) → text_of (map answer_line told) ++ end_memory ≢ memory_text
cut_other [] = differs_at 1 _ refl
cut_other (t ∷ ts) = differs_at 0 _ refl

delta_other : (query : Bytes) (changes : List Change) (n : ℕ) → text_of (delta_lines query changes n) ≢ memory_text
delta_other query [] n = differs_at 0 _ refl
delta_other query (c ∷ cs) n = by c.sign
  where
    by : (sign : Sign) → text_of (delta_lines query (record { sign = sign; answer = c.answer } ∷ cs) n) ≢ memory_text
    by Came = differs_at 0 _ refl
    by Went = differs_at 0 _ refl

cut_delta_other : (query : Bytes) (changes : List Change) → text_of (change_lines query changes) ++ end_memory ≢ memory_text
cut_delta_other query [] = differs_at 1 _ refl
cut_delta_other query (c ∷ cs) = by c.sign
  where
    by : (sign : Sign) → text_of (change_lines query (record { sign = sign; answer = c.answer } ∷ cs)) ++ end_memory
        ≢ memory_text
    by Came = differs_at 0 _ refl
    by Went = differs_at 0 _ refl

-- ---- a change of rows

abbrev OthersToldSo : Telling → Type 0
OthersToldSo m = All IsOtherPart m.queued

part_more : (qs : List (ℕ × Bytes)) (s : ℕ) (text : Bytes) → text ≢ memory_text → All IsOtherPart qs
    → All IsOtherPart (qs ++ (s, text) ∷ [])
part_more [] s text other h = All-cons IsOtherPart (s, text) [] other (All-nil IsOtherPart)
part_more (q ∷ qs) s text other h = All-cons IsOtherPart q (qs ++ (s, text) ∷ []) (All-head IsOtherPart q qs h)
    (part_more qs s text other (All-tail IsOtherPart q qs h))

watcher_told : (d : Delta) (n s : ℕ) (pending : Bytes) (m new : Telling) → TellsWatcher d n s pending m new → OthersToldSo m
    → OthersToldSo new
watcher_told d n s pending m new tells h = by tells
  where
    by_more : ((length pending ≤ PENDING_BYTES)
        × (new ≡ says_more s (text_of (delta_lines (listed_name d.query) d.changes n)) m))
        ⊎ ((length pending ≤ PENDING_BYTES)
        × (told : List Change) × (rest : List Change) × (d.changes ≡ told ++ rest)
        × (new ≡ ends_more s (text_of (change_lines (listed_name d.query) told) ++ end_memory) Memory m))
        → OthersToldSo new
    by_more (inl whole) = subst OthersToldSo (sym whole.1)
        (part_more m.queued s _ (delta_other (listed_name d.query) d.changes n) h)
    by_more (inr cut) = subst OthersToldSo (sym cut.4)
        (part_more m.queued s _ (cut_delta_other (listed_name d.query) cut.1) h)

    by : TellsWatcher d n s pending m new → OthersToldSo new
    by (inl slow) = subst OthersToldSo (sym slow.1) (part_more m.queued s end_slow (differs_at 1 _ refl) h)
    by (inr more) = by_more more

session_told : (d : Delta) (n : ℕ) (m : Telling) (s : ℕ) (new : Telling) → TellsSession d n m s new → OthersToldSo m
    → OthersToldSo new
session_told d n m s new tells h = by (watcher_of m (listed_name d.query) s) tells
  where
    by : (o : Option Session) → MatchOption o (new ≡ m) (λ x. TellsWatcher d n s x.pending m new) → OthersToldSo new
    by None same = subst OthersToldSo (sym same) h
    by (Some x) told = watcher_told d n s x.pending m new told h

reply_told : (s : ℕ) (reply : Bytes) (m new : Telling) → reply ≢ memory_text → RepliesLast s reply m new → OthersToldSo m
    → OthersToldSo new
reply_told s reply m new other replies h = by (session_of m.state s) replies
  where
    by_cause : (c : Option EndCause) → MatchOption c
        ((new ≡ says_more s reply m)
        ⊎ ((list_any (λ part. part.0 == s) m.queued ≡ true) × (new ≡ ends_more s end_memory Memory m))) (λ c. new ≡ m)
        → OthersToldSo new
    by_cause None (inl whole) = subst OthersToldSo (sym whole) (part_more m.queued s reply other h)
    by_cause None (inr cut) = subst OthersToldSo (sym cut.1) (part_more m.queued s end_memory (differs_at 1 _ refl) h)
    by_cause (Some c) same = subst OthersToldSo (sym same) h

    by : (o : Option Session) → IsSomeAnd o (λ x. MatchOption x.cause
        ((new ≡ says_more s reply m)
        ⊎ ((list_any (λ part. part.0 == s) m.queued ≡ true) × (new ≡ ends_more s end_memory Memory m))) (λ c. new ≡ m))
        → OthersToldSo new
    by None none = absurd none
    by (Some x) told = by_cause x.cause told

change_refuses_none : (old : State) (s : ℕ) (outcome : RowsOutcome) (store : Store) (reply : Bytes) (e : Effect) (new : State)
    → reply ≢ memory_text → ChangeStep old s outcome store reply e new → RefusesNone e
change_refuses_none old s outcome store reply e new other change =
    let deltas = walk_keeps (TellsDelta store.seq) OthersToldSo
    (λ m d new tells h. walk_keeps (TellsSession d store.seq) OthersToldSo (session_told d store.seq) m (state_ids m.state)
    new tells h)
    _ _ change.told change.tells (All-nil IsOtherPart) in
    let all = reply_told s reply change.told change.last other change.replies deltas in
    refuses_none e (subst (λ qs. All IsOtherPart qs) (sym change.queued) all)

-- ---- the commands

-- a reply by words
ok_other : {A : Type 0} (words : Bytes) (r : Result A Refusal) → (get_or (line words) 0 0 == 101) ≡ false
    → ((why : Refusal) → r ≡ Err why → why ≢ NoMemory) → ok_reply words r ≢ memory_text
ok_other words (Ok a) first refused = differs_at 0 _ first
ok_other words (Err why) first refused = other_refusal why (refused why refl)

-- a result whose refusals are these conditions alone
pub refusals_of : {A : Type 0} (cs : List (Bool × Refusal)) (r : Result A Refusal) (D : A → Type 0) → NoneOfMemory cs
    → Answers (first_refusal cs) r D (OutOfMemoryWhere ⊥) → (why : Refusal) → r ≡ Err why → why ≢ NoMemory
refusals_of cs (Ok a) D none answer why is = absurd cc
refusals_of cs (Err r) D none answer why is =
    let same : r ≡ why = cc in subst (λ s. s ≢ NoMemory) same (refused_other cs r D none answer)

delete_other : (r : Result DeleteOutcome Refusal) (n : ℕ) → ((why : Refusal) → r ≡ Err why → why ≢ NoMemory)
    → delete_reply r n ≢ memory_text
delete_other (Ok Last) n refused = differs_at 0 _ refl
delete_other (Ok (Left copies)) n refused = differs_at 0 _ refl
delete_other (Ok Absent) n refused = differs_at 0 _ refl
delete_other (Err why) n refused = other_refusal why (refused why refl)

has_other : (r : Result Bool Refusal) → ((why : Refusal) → r ≡ Err why → why ≢ NoMemory) → has_reply r ≢ memory_text
has_other (Ok true) refused = differs_at 0 _ refl
has_other (Ok false) refused = differs_at 0 _ refl
has_other (Err why) refused = other_refusal why (refused why refl)

shape_other : (r : Result ShapeOf Refusal) → ((why : Refusal) → r ≡ Err why → why ≢ NoMemory)
    → shape_reply r ≢ memory_text
shape_other (Ok Flat) refused = differs_at 0 _ refl
shape_other (Ok Linear) refused = differs_at 0 _ refl
shape_other (Ok IsUnion) refused = differs_at 0 _ refl
shape_other (Err why) refused = other_refusal why (refused why refl)

bye_other : (batch : Option HeldTransaction) → lost_line batch ++ bye ≢ memory_text
bye_other None = differs_at 0 _ refl
bye_other (Some held) = by held.lines
  where
    by : (lines : List HeldLine) → lost_line (Some (record { lines = lines; logged = held.logged })) ++ bye ≢ memory_text
    by [] = differs_at 0 _ refl
    by (h ∷ hs) = differs_at 5 _ refl

module _ (old : State) (s : ℕ) (e : Effect) (new : State) where
  next_refuses_none : (c : Bytes) (q : Listed) (count : ℕ) (p : Position) → NextStepAt old s c q count p e new
      → RefusesNone e
  next_refuses_none c q count (open_at given ended) (inl whole) =
      one_part s _ e (ap (λ (d : Effect). d.queued) whole.effect) (page_other whole.told whole.end)
  next_refuses_none c q count (open_at given ended) (inr cut) =
      one_part s _ e (ap (λ (d : Effect). d.queued) cut.effect) (cut_other cut.told)
  next_refuses_none c q count (stale relation n) step = says_other s _ e step.0 (differs_at 0 _ refl)

  -- lines of which none but the last begins as a refusal does
  lines_refuse_none : {A : Type 0} (f : A → Bytes) (xs : List A)
      → ((x : A) (more : Bytes) → (get_or (f x ++ more) 0 0 == 101) ≡ false)
      → ((x : A) (more most : Bytes) → (get_or (f x ++ more ++ most) 0 0 == 101) ≡ false)
      → TellsLines old s (map f xs ++ line (codes "end") ∷ []) e new → RefusesNone e
  lines_refuse_none f [] one two (inl whole) = says_other s _ e whole.0 (differs_at 1 _ refl)
  lines_refuse_none f (x ∷ xs) one two (inl whole) = says_other s _ e whole.0 (differs_at 0 _ (one x _))
  lines_refuse_none {A = A} f xs one two (inr cut) = by xs cut.0 cut.3 cut.4.0
    where
      by : (xs : List A) (told : List Bytes)
          → map f xs ++ line (codes "end") ∷ [] ≡ told ++ cut.1 ∷ cut.2 → e ≡ says s (text_of told ++ end_memory)
          → RefusesNone e
      by xs [] same said = says_other s _ e said (differs_at 1 _ refl)
      by [] (t ∷ ts) same said =
          let short = ap length same in absurd (omega (arith, length-append ts (cut.1 ∷ cut.2), short))
      by (x ∷ xs) (t ∷ ts) same said =
          let first : f x ≡ t = ap (λ (ls : List Bytes). get_or ls 0 t) same in
          says_other s _ e said (differs_at 0 _ (subst
          (λ (l : Bytes). (get_or (l ++ text_of ts ++ end_memory) 0 0 == 101) ≡ false) first (two x (text_of ts) end_memory)))

  explain_refuses_none : (k : Listed) → ExplainStepOf old s k e new → RefusesNone e
  explain_refuses_none (a_query q) step =
      lines_refuse_none _ (numbers_below (length step.tree.nodes)) (λ j more. refl) (λ j more most. refl) step.tells
  explain_refuses_none (a_union name qs) step =
      lines_refuse_none (λ (q : Query). member_line q.name) qs (λ q more. refl) (λ q more most. refl) step

  command_refuses_none : (x : Session) (l : Bytes) (c : Command) → needs_none x.batch c ≡ true
      → CommandStep old s x l c e new → RefusesNone e
  command_refuses_none x l (Del name row) needs step = by x.batch needs step
    where
      by : (batch : Option HeldTransaction) → needs_none batch (Del name row) ≡ true
          → MatchOption batch (DeleteStep old s name row e new) (λ held. HoldStep old s held l Deletes name row e new)
          → RefusesNone e
      by None needs step = change_refuses_none old s _ step.store _ e new
          (delete_other step.result step.store.seq
          (refusals_of (row_refusals old.store name row
          ++ ((copies_of old.store name row == 1) && nat_le LAST_SEQ old.store.seq, Limit) ∷ [])
          step.result (DeletesAs old.store name row step.store) (refl, (refl, (refl, (refl, tt)))) step.done.answer))
          step.change
      by (Some held) needs step = absurd (true≢false (sym needs))
  command_refuses_none x l (Drop q) needs step =
      one_part s _ e (ap (λ (d : Effect). d.queued) step.effect) (ok_other (codes "ok") step.result refl
      (refusals_of ((is_none (listed_of old.store.queries q), NoQuery)
      ∷ (list_any (uses q) old.sessions || is_member old.store.queries q, InUse) ∷ [])
      step.result _ (refl, (refl, tt)) step.done.answer))
  command_refuses_none x l (Next c count) needs step = by (cursor_of x.cursors c) step
    where
      by_query : (k : Cursor) (o : Option Listed) → IsSomeAnd o (λ q. NextStepAt old s c q count k.position e new)
          → RefusesNone e
      by_query k None step = absurd step
      by_query k (Some q) step = next_refuses_none c q count k.position step

      by : (o : Option Cursor) → MatchOption o (RefusedStep old s NoCursor e new)
          (λ k. IsSomeAnd (listed_of old.store.queries k.query) (λ q. NextStepAt old s c q count k.position e new))
          → RefusesNone e
      by None step = refused_step old s NoCursor e new (not_memory NoCursor refl) step
      by (Some k) step = by_query k (listed_of old.store.queries k.query) step
  command_refuses_none x l (Close c) needs step = by (cursor_of x.cursors c) step
    where
      by : (o : Option Cursor) → MatchOption o (RefusedStep old s NoCursor e new) (λ k. CloseStep old s c e new)
          → RefusesNone e
      by None step = refused_step old s NoCursor e new (not_memory NoCursor refl) step
      by (Some k) step = says_other s _ e step.0 (differs_at 0 _ refl)
  command_refuses_none x l (Has q row) needs step =
      one_part s _ e (ap (λ (d : Effect). d.queued) step.effect) (has_other step.result
      (refusals_of (let types = listed_types old.store.relations (listed_of old.store.queries q) in
      (is_none (listed_of old.store.queries q), NoQuery) ∷ (not (length row == length types), Arity)
      ∷ (not (fits types row), WrongType) ∷ []) step.result _ (refl, (refl, (refl, tt))) step.tells.answer))
  command_refuses_none x l (Unwatch q) needs step = says_other s _ e step.effect (ok_other (codes "ok") step.result refl
      (refusals_of ((is_none (listed_of old.store.queries q), NoQuery) ∷ []) step.result _ (refl, tt) step.answer))
  command_refuses_none x l (Shape q) needs step = says_other s _ e step.effect (shape_other step.result
      (refusals_of ((is_none (listed_of old.store.queries q), NoQuery) ∷ []) step.result _ (refl, tt) step.tells.answer))
  command_refuses_none x l Abandon needs step = says_other s _ e step.0 (differs_at 0 _ refl)
  command_refuses_none x l Quit needs step = says_other s _ e step.0 (bye_other x.batch)
  command_refuses_none x l Stop needs step = says_other s _ e step.0 (bye_other x.batch)
  command_refuses_none x l (Explain q) needs step = by (listed_of old.store.queries q) step
    where
      by : (o : Option Listed) → MatchOption o (RefusedStep old s NoQuery e new) (λ k. ExplainStepOf old s k e new)
          → RefusesNone e
      by None step = refused_step old s NoQuery e new (not_memory NoQuery refl) step
      by (Some k) step = explain_refuses_none k step
  command_refuses_none x l (Rel name types) needs step = absurd (true≢false (sym needs))
  command_refuses_none x l (Add name row) needs step = absurd (true≢false (sym needs))
  command_refuses_none x l (Register q) needs step = absurd (true≢false (sym needs))
  command_refuses_none x l (Union name members) needs step = absurd (true≢false (sym needs))
  command_refuses_none x l (Open c q) needs step = absurd (true≢false (sym needs))
  command_refuses_none x l (Watch q) needs step = absurd (true≢false (sym needs))
  command_refuses_none x l Batch needs step = absurd (true≢false (sym needs))
  command_refuses_none x l (Done given) needs step = absurd (true≢false (sym needs))

read_refuses_none : (old : State) (s : ℕ) (x : Session) (l : Bytes) (c : Command) (e : Effect) (new : State)
    → takes_memory_to_read c ≡ false → needs_none x.batch c ≡ true → ReadStep old s x l (says_command c) e new
    → RefusesNone e
read_refuses_none old s x l c e new reads needs step = by (is_misplaced x.batch c) step
  where
    ReadAs : Bool → Type 0
    ReadAs true = CommandStep old s x l c e new
    ReadAs false = (takes_memory_to_read c ≡ true) × RefusedStep old s NoMemory e new

    CarriedOut : Bool → Type 0
    CarriedOut true = RefusedStep old s Misplaced e new
    CarriedOut false = (is_read : Bool) × ReadAs is_read

    read : (b : Bool) → ReadAs b → RefusesNone e
    read true step = command_refuses_none old s e new x l c needs step
    read false step = absurd (true≢false (sym step.0 ∙ reads))

    by : (b : Bool) → CarriedOut b → RefusesNone e
    by true step = refused_step old s Misplaced e new (not_memory Misplaced refl) step
    by false step = read step.0 step.1

whole_refuses_none : (old : State) (s : ℕ) (x : Session) (l : Bytes) (c : Command) (e : Effect) (new : State)
    → session_of old s ≡ Some x → reading_of l ≡ says_command c → takes_memory_to_read c ≡ false
    → needs_none x.batch c ≡ true → Step old (stepped s (run l)) e new → RefusesNone e
whole_refuses_none old s x l c e new is says reads needs step = by (session_of old s) is step.acts
  where
    by : (o : Option Session) → o ≡ Some x → IsSomeAnd o (λ y. (y.cause ≡ None) × FrontStep old s y (run l) e step.mid)
        → RefusesNone e
    by None none acts = absurd acts
    by (Some y) same acts =
        let found : y ≡ x = cc in
        let line = acts.1.2 in
        let mid = with_session old s (behind_line line.rest) in
        read_refuses_none mid s (behind_line line.rest y) l c e step.mid reads
        (subst (λ (z : Session). needs_none z.batch c ≡ true) (sym found) needs)
        (subst (λ r. ReadStep mid s (behind_line line.rest y) l r e step.mid) says line.then)

pub never_refused_for_memory : NeverRefusedForMemory
never_refused_for_memory = record {
  once_read = λ old s x l c e new needs step. command_refuses_none old s e new x l c needs step;
  whole = whole_refuses_none;
}
