-- What reading a line gives, as the machine says it; and that what is read is served.
use Rattle.std.proofs.Common.{ℕ, length, ◌≡◌, ◌<◌, ◌≤◌, true, false, Bool, List, [], ◌∷◌, Option, None, Some, is_some}
use Rattle.std.proofs.Common.{Ok, Err, cond, option_map, refl, sym, ap, ◌∙◌, ◌⊎◌, inl, inr, subst, arith, nat_le}
use Rattle.std.specs.Str.{is_utf8}
use Rattle.std.proofs.lemmas.Bool.{and_parts, leb-true, true≢false}
use Rattle.std.specs.Prelude.{IsSome}
use Rattle.djq_model.specs.declared.relation.ColumnType.{ColumnType}
use Rattle.djq_model.specs.declared.query.Query.{Query}
use Rattle.djq_model.specs.Data.{Bytes, Tuple}
use Rattle.djq_value.specs.Token.{Token, word, text, open_paren, close_paren, comma, arrow, operator, stray, tokens}
use Rattle.djq_value.specs.Literal.{is_lower, is_name, natural_of, literal_of}
use Rattle.djq_protocol.specs.declared.answer.Refusal.{Refusal}
use Rattle.djq_protocol.specs.declared.answer.Refusal.TheVariants.{WrongType, Syntax, NoMemory, Misplaced}
use Rattle.djq_protocol.specs.declared.command.Command.{Command}
use Rattle.djq_protocol.specs.declared.command.Command.TheVariants.{Rel, Add, Del, Query as Register, Union, Drop, Open}
use Rattle.djq_protocol.specs.declared.command.Command.TheVariants.{Next, Close, Has, Watch, Unwatch, Explain, Shape}
use Rattle.djq_protocol.specs.declared.command.Command.TheVariants.{Batch, Done, Abandon, Quit, Stop}
use Rattle.djq_protocol.specs.declared.keyword.Keyword.{Keyword}
use Rattle.djq_protocol.specs.declared.keyword.Keyword.TheVariants.{Rel as RelWord, Add as AddWord, Del as DelWord}
use Rattle.djq_protocol.specs.declared.keyword.Keyword.TheVariants.{Query as QueryWord, Union as UnionWord}
use Rattle.djq_protocol.specs.declared.keyword.Keyword.TheVariants.{Drop as DropWord, Open as OpenWord}
use Rattle.djq_protocol.specs.declared.keyword.Keyword.TheVariants.{Next as NextWord, Close as CloseWord}
use Rattle.djq_protocol.specs.declared.keyword.Keyword.TheVariants.{Has as HasWord, Watch as WatchWord}
use Rattle.djq_protocol.specs.declared.keyword.Keyword.TheVariants.{Unwatch as UnwatchWord, Explain as ExplainWord}
use Rattle.djq_protocol.specs.declared.keyword.Keyword.TheVariants.{Shape as ShapeWord, Batch as BatchWord}
use Rattle.djq_protocol.specs.declared.keyword.Keyword.TheVariants.{Done as DoneWord, Abandon as AbandonWord}
use Rattle.djq_protocol.specs.declared.keyword.Keyword.TheVariants.{Quit as QuitWord, Stop as StopWord}
use Rattle.djq_protocol.specs.Grammar.{Reading, outside, past_limit, says_command, reading_in, reading_of, command_of}
use Rattle.djq_protocol.specs.Grammar.{command_in, command_with, command_behind, is_in_range, takes_memory_to_read}
use Rattle.djq_protocol.specs.Grammar.{is_count, answer_count, keyword_of, at_line_end, type_of, all_of, named_some}
use Rattle.djq_protocol.specs.Grammar.{named_any, query_of_tokens, query_of, Body, body_in, items_in, with_atoms}
use Rattle.djq_protocol.specs.Grammar.{in_front, list_in, name_of, one_name, two_names, name_and_count}
use Rattle.djq_protocol.specs.Grammar.{name_and_members, number_if_any}
use Rattle.djq_parser.specs.declared.refusal.LineRefusal.{LineRefusal}
use Rattle.djq_parser.specs.declared.refusal.LineRefusal.TheVariants.{Syntax as Outside, Range, NoMem}
use Rattle.djq_parser.specs.declared.row.RowWord.{RowWord}
use Rattle.djq_parser.specs.Reading.{GivesCommand, LineReadsAs}
use Rattle.djq_parser.specs.RowReading.{begins_row, row_word_in}
use Rattle.djq_parser.specs.Saying.{SaysCommand}
use Rattle.djq_parser.proofs.CommandLines.{row_word_for, begins_for}
use Rattle.djq_parser.proofs.CommandTokens.{commands_are_said}
use Rattle.djq_store_spec.specs.Held.{HeldTransaction, nothing_held}
use Rattle.djq_machine.specs.Command.{is_misplaced, CommandStep}
use Rattle.djq_machine.specs.LineStep.{past_limit_refusal, ReadStep}
use Rattle.djq_machine.specs.State.{Session, State}
use Rattle.djq_machine.specs.Effect.{Effect, RefusedStep}
use Rattle.djq_commands.specs.Batching.{ReadsInBatch, RefusedBy, in_batch, misplaced_as}
use Rattle.djq_commands.specs.Stepping.{IsRunnable, is_on_row, refused_as}

-- ---- What reading a line gives, as the machine says it; and that what is read is served.

-- what a command in range gives
read_by : (in_range : Bool) (c : Command) → in_range ≡ true → cond in_range (says_command c) (past_limit c)
    ≡ says_command c
read_by true c e = refl
read_by false c e = absurd (cc)

in_says : (o : Option Command) (c : Command) → GivesCommand o (Ok c) → reading_in o ≡ says_command c
in_says None c g = absurd (cc (g.0))
in_says (Some a) c g = read_by (is_in_range a) a g.0.1 ∙ ap (λ (x : Command). says_command x) (sym g.0.0)

pub reads_as : (line : Bytes) (c : Command) → LineReadsAs line (Ok c) → reading_of line ≡ says_command c
reads_as line c g = in_says (command_of line) c g

pub in_outside : (o : Option Command) → GivesCommand o (Err Outside) → reading_in o ≡ outside
in_outside None g = refl
in_outside (Some a) g = absurd g.0

pub in_range_past : (o : Option Command) → GivesCommand o (Err Range) → (c : Command) × (o ≡ Some c)
    × (reading_in o ≡ past_limit c) × (is_in_range c ≡ false)
in_range_past None g = absurd (cc (g.0))
in_range_past (Some a) g = (a, refl, ap (λ (b : Bool). cond b (says_command a) (past_limit a)) g.0, g.0)

pub in_memory : (o : Option Command) → GivesCommand o (Err NoMem) → (c : Command) × (o ≡ Some c)
    × (reading_in o ≡ says_command c)
    × (takes_memory_to_read c ≡ true)
in_memory None g = absurd (cc (g.0))
in_memory (Some a) g = (a, refl, read_by (is_in_range a) a g.0, g.1)

-- A command that may find no memory as it is read, or of which a literal is past its limit.
abbrev pub IsLate : Command → Type 0
IsLate c = (is_in_range c ≡ false) ⊎ (takes_memory_to_read c ≡ true)

-- It has its place outside a batch.
pub late_alone : (c : Command) → IsLate c → is_misplaced {A = HeldTransaction} None c ≡ false
late_alone (Done given) (inl e) = absurd (cc (e))
late_alone (Done given) (inr e) = absurd (cc (e))
late_alone Abandon (inl e) = absurd (cc (e))
late_alone Abandon (inr e) = absurd (cc (e))
late_alone _ e = refl

-- And it has none in one, if it isn't one of a row.
pub late_misplaced : (c : Command) → is_some (row_word_for c) ≡ false → IsLate c
    → is_misplaced {A = HeldTransaction} (Some nothing_held) c ≡ true
late_misplaced (Add name row) n e = absurd (true≢false n)
late_misplaced (Del name row) n e = absurd (true≢false n)
late_misplaced (Done given) n (inl e) = absurd (cc (e))
late_misplaced (Done given) n (inr e) = absurd (cc (e))
late_misplaced Abandon n (inl e) = absurd (cc (e))
late_misplaced Abandon n (inr e) = absurd (cc (e))
late_misplaced Quit n (inl e) = absurd (cc (e))
late_misplaced Quit n (inr e) = absurd (cc (e))
late_misplaced Stop n (inl e) = absurd (cc (e))
late_misplaced Stop n (inr e) = absurd (cc (e))
late_misplaced _ n e = refl

-- A line that gives no command is refused so where its command would have its place.
pub placed_refused : (b : Option HeldTransaction) (line : Bytes) (r : LineRefusal) → LineReadsAs line (Err r)
    → ((c : Command) → command_of line ≡ Some c → IsLate c → is_misplaced b c ≡ false)
    → RefusedBy b (reading_of line) (refused_as r)
placed_refused b line Outside g placed = subst (λ (o : Reading). RefusedBy b o Syntax)
    (sym (in_outside (command_of line) g)) refl
placed_refused b line Range g placed =
    let past = in_range_past (command_of line) g in
    subst (λ (o : Reading). RefusedBy b o WrongType) (sym past.2)
    (ap past_limit_refusal (sym (placed past.0 past.1 (inl past.3))))
placed_refused b line NoMem g placed =
    let m = in_memory (command_of line) g in
    subst (λ (o : Reading). RefusedBy b o NoMemory) (sym m.2) (inr (placed m.0 m.1 (inr m.3), m.3, refl))

-- And so where it would have none.
pub misplaced_refused : (b : Option HeldTransaction) (line : Bytes) (r : LineRefusal) → LineReadsAs line (Err r)
    → ((c : Command) → command_of line ≡ Some c → IsLate c → is_misplaced b c ≡ true)
    → RefusedBy b (reading_of line) (misplaced_as r)
misplaced_refused b line Outside g mis = subst (λ (o : Reading). RefusedBy b o Syntax)
    (sym (in_outside (command_of line) g)) refl
misplaced_refused b line Range g mis =
    let past = in_range_past (command_of line) g in
    subst (λ (o : Reading). RefusedBy b o Misplaced) (sym past.2)
    (ap past_limit_refusal (sym (mis past.0 past.1 (inl past.3))))
misplaced_refused b line NoMem g mis =
    let m = in_memory (command_of line) g in
    subst (λ (o : Reading). RefusedBy b o Misplaced) (sym m.2) (inl (mis m.0 m.1 (inr m.3), refl))

-- a command that is read, and has no place
pub misplaced_said : (b : Option HeldTransaction) (line : Bytes) (c : Command) → LineReadsAs line (Ok c)
    → is_misplaced b c
    ≡ true → RefusedBy b (reading_of line) Misplaced
misplaced_said b line c g m = subst (λ (o : Reading). RefusedBy b o Misplaced) (sym (reads_as line c g)) (inl (m, refl))

-- outside a batch
pub refused_alone : (b : Option HeldTransaction) (line : Bytes) (r : LineRefusal) → b ≡ None → LineReadsAs line (Err r)
    → RefusedBy b (reading_of line) (refused_as r)
refused_alone b line r e g =
    placed_refused b line r g (λ c f late. ap (λ (o : Option HeldTransaction). is_misplaced o c) e ∙ late_alone c late)

-- in one, of a line of a row, and of any other
row_placed : (c : Command) (verb : RowWord) → row_word_for c ≡ Some verb
    → is_misplaced {A = HeldTransaction} (Some nothing_held) c ≡ false
row_placed (Add name row) verb e = refl
row_placed (Del name row) verb e = refl
row_placed _ verb e = absurd (cc (e))

pub refused_row : (line : Bytes) (verb : RowWord) (r : LineRefusal) → row_word_in (tokens line) ≡ Some verb
    → LineReadsAs line (Err r) → RefusedBy (Some nothing_held) (reading_of line) (refused_as r)
refused_row line verb r w g =
    placed_refused (Some nothing_held) line r g (λ c f late. row_placed c verb (sym (begins_for line c f) ∙ w))

pub refused_other : (line : Bytes) (r : LineRefusal) → begins_row (tokens line) ≡ false → LineReadsAs line (Err r)
    → RefusedBy (Some nothing_held) (reading_of line) (misplaced_as r)
refused_other line r w g =
    misplaced_refused (Some nothing_held) line r g
    (λ c f late. late_misplaced c (sym (ap (λ o. is_some o) (begins_for line c f)) ∙ w) late)

-- Which batch is open makes no difference to where a command has its place.
pub in_any_batch : (held : HeldTransaction) (c : Command) → is_misplaced (Some held) c
    ≡ is_misplaced {A = HeldTransaction} (Some nothing_held) c
in_any_batch held (Add name row) = refl
in_any_batch held (Del name row) = refl
in_any_batch held (Done given) = refl
in_any_batch held Abandon = refl
in_any_batch held Quit = refl
in_any_batch held Stop = refl
in_any_batch held _ = refl

pub refused_in_any : (held : HeldTransaction) (r : Reading) (why : Refusal) → RefusedBy (Some nothing_held) r why
    → RefusedBy (Some held) r why
refused_in_any held outside why h = h
refused_in_any held (past_limit c) why h = h ∙ ap past_limit_refusal (sym (in_any_batch held c))
refused_in_any held (says_command c) why (inl (m, e)) = inl (in_any_batch held c ∙ m, e)
refused_in_any held (says_command c) why (inr (m, t, e)) = inr (in_any_batch held c ∙ m, t, e)

-- A count that a line says is one at least.

-- what a command that was made of something is
made_of : {A : Type 0} (f : A → Command) (o : Option A) (command : Command) (P : Type 0)
    → ((a : A) → o ≡ Some a → f a ≡ command → P) → option_map f o ≡ Some command → P
made_of f None command P h e = absurd (cc)
made_of f (Some a) command P h e = h a refl (cc)

one_at_least : (o : Option ℕ) (n : ℕ) → answer_count o ≡ Some n → 1 ≤ n
one_at_least None n e = absurd (cc)
one_at_least (Some k) n e = step (is_count k) refl e
  where
    step : (b : Bool) → is_count k ≡ b → cond b (Some k) None ≡ Some n → 1 ≤ n
    step true f e = let same : k ≡ n = cc in omega (arith, leb-true 1 k (and_parts (nat_le 1 k) _ f).0, same)
    step false f e = absurd (cc)

-- a name and a count that words say
words_say : (c k : Bytes) (p : Bytes × ℕ) → name_and_count (word c ∷ word k ∷ []) ≡ Some p → 1 ≤ p.1
words_say c k p e = step (is_name c) e
  where
    made : (o : Option ℕ) → option_map (λ n. (c, n)) o ≡ Some p → o ≡ Some p.1
    made None e = absurd (cc)
    made (Some n) e = let same : (c, n) ≡ p = cc in ap (λ (q : Bytes × ℕ). Some q.1) same

    step : (b : Bool) → cond b (option_map (λ n. (c, n)) (answer_count (natural_of k))) None ≡ Some p → 1 ≤ p.1
    step true e = one_at_least (natural_of k) p.1 (made (answer_count (natural_of k)) e)
    step false e = absurd (cc)

count_said : (ts : List Token) (p : Bytes × ℕ) → name_and_count ts ≡ Some p → 1 ≤ p.1
count_said [] p e = absurd (cc)
count_said (word c ∷ []) p e = absurd (cc)
count_said (word c ∷ word k ∷ []) p e = words_say c k p e
count_said (word c ∷ word k ∷ t ∷ ts) p e = absurd (cc)
count_said (word c ∷ text k ∷ ts) p e = absurd (cc)
count_said (word c ∷ open_paren ∷ ts) p e = absurd (cc)
count_said (word c ∷ close_paren ∷ ts) p e = absurd (cc)
count_said (word c ∷ comma ∷ ts) p e = absurd (cc)
count_said (word c ∷ arrow ∷ ts) p e = absurd (cc)
count_said (word c ∷ operator o ∷ ts) p e = absurd (cc)
count_said (word c ∷ stray ∷ ts) p e = absurd (cc)
count_said (text c ∷ ts) p e = absurd (cc)
count_said (open_paren ∷ ts) p e = absurd (cc)
count_said (close_paren ∷ ts) p e = absurd (cc)
count_said (comma ∷ ts) p e = absurd (cc)
count_said (arrow ∷ ts) p e = absurd (cc)
count_said (operator o ∷ ts) p e = absurd (cc)
count_said (stray ∷ ts) p e = absurd (cc)

no_count : (command : Command) (ts : List Token) (other : Command) (P : Type 0) → (command ≡ other → P)
    → at_line_end command ts ≡ Some other → P
no_count command [] other P h e = h (cc)
no_count command (t ∷ ts) other P h e = absurd (cc)

-- A query that a line says has an atom at least.

atoms_some : (o : Option Body) (body : Body) → with_atoms o ≡ Some body → 0 < length body.0
atoms_some None body e = absurd (cc)
atoms_some (Some ([], comparisons)) body e = absurd (cc)
atoms_some (Some (a ∷ atoms, comparisons)) body e =
    let same : (a ∷ atoms, comparisons) ≡ body = cc in omega (arith, ap (λ (b : Body). length b.0) same)

body_some : (ts : List Token) (body : Body) → body_in ts ≡ Some body → 0 < length body.0
body_some [] body e = absurd (cc)
body_some (arrow ∷ ts) body e = atoms_some (items_in 0 ts) body e
body_some (word w ∷ ts) body e = absurd (cc)
body_some (text w ∷ ts) body e = absurd (cc)
body_some (open_paren ∷ ts) body e = absurd (cc)
body_some (close_paren ∷ ts) body e = absurd (cc)
body_some (comma ∷ ts) body e = absurd (cc)
body_some (operator o ∷ ts) body e = absurd (cc)
body_some (stray ∷ ts) body e = absurd (cc)

-- the query of this name, head and body
abbrev said : Bytes → List Bytes → Body → Query
said name head body = record { name = name; head = head; atoms = body.0; comparisons = body.1 }

query_some : (name : Bytes) (head : Option (List Bytes × List Token)) (q : Query) → query_of name head ≡ Some q
    → 0 < length q.atoms
query_some name None q e = absurd (cc)
query_some name (Some head) q e = by (body_in head.1) refl e
  where
    by : (o : Option Body) → body_in head.1 ≡ o → option_map (said name head.0) o ≡ Some q → 0 < length q.atoms
    by None f g = absurd (cc)
    by (Some body) f g =
        let same : said name head.0 body ≡ q = cc in
        subst (λ (p : Query). 0 < length p.atoms) same (body_some head.1 body f)

query_said : (ts : List Token) (q : Query) → query_of_tokens ts ≡ Some q → 0 < length q.atoms
query_said [] q e = absurd (cc)
query_said (word n ∷ ts) q e = by (is_name n) e
  where
    by : (b : Bool) → cond b (query_of n (list_in name_of ts)) None ≡ Some q → 0 < length q.atoms
    by true f = query_some n (list_in name_of ts) q f
    by false f = absurd (cc)
query_said (text n ∷ ts) q e = absurd (cc)
query_said (open_paren ∷ ts) q e = absurd (cc)
query_said (close_paren ∷ ts) q e = absurd (cc)
query_said (comma ∷ ts) q e = absurd (cc)
query_said (arrow ∷ ts) q e = absurd (cc)
query_said (operator o ∷ ts) q e = absurd (cc)
query_said (stray ∷ ts) q e = absurd (cc)

-- A relation that a line says has a column at least.

front_some : {A : Type 0} (o : Option A) (more : Option (List A)) (xs : List A) → in_front o more ≡ Some xs
    → 0 < length xs
front_some None more xs e = absurd (cc)
front_some (Some a) None xs e = absurd (cc)
front_some {A} (Some a) (Some more) xs e = let same : a ∷ more
    ≡ xs = cc in omega (arith, ap (λ (l : List A). length l) same)

types_said : (ts : List Token) (p : Bytes × List ColumnType) → named_some type_of ts ≡ Some p → 0 < length p.1
types_said [] p e = absurd (cc)
types_said (word n ∷ []) p e = absurd (cc)
types_said (word n ∷ t ∷ ts) p e = by (is_name n) e
  where
    made : (o : Option (List ColumnType)) → all_of type_of (t ∷ ts) ≡ o → option_map (λ xs. (n, xs)) o ≡ Some p
        → 0 < length p.1
    made None f g = absurd (cc)
    made (Some xs) f g =
        let same : (n, xs) ≡ p = cc in
        subst (λ (q : Bytes × List ColumnType). 0 < length q.1) same (front_some (type_of t) (all_of type_of ts) xs f)

    by : (b : Bool) → cond b (option_map (λ xs. (n, xs)) (all_of type_of (t ∷ ts))) None ≡ Some p → 0 < length p.1
    by true f = made (all_of type_of (t ∷ ts)) refl f
    by false f = absurd (cc)
types_said (text n ∷ ts) p e = absurd (cc)
types_said (open_paren ∷ ts) p e = absurd (cc)
types_said (close_paren ∷ ts) p e = absurd (cc)
types_said (comma ∷ ts) p e = absurd (cc)
types_said (arrow ∷ ts) p e = absurd (cc)
types_said (operator o ∷ ts) p e = absurd (cc)
types_said (stray ∷ ts) p e = absurd (cc)

-- A union that a line says has two members at least.

front_two : {A : Type 0} (o p : Option A) (more : Option (List A)) (xs : List A) → in_front o (in_front p more)
    ≡ Some xs → 2 ≤ length xs
front_two None p more xs e = absurd (cc)
front_two (Some a) None more xs e = absurd (cc)
front_two (Some a) (Some b) None xs e = absurd (cc)
front_two {A} (Some a) (Some b) (Some more) xs e = let same : a ∷ b ∷ more
    ≡ xs = cc in omega (arith, ap (λ (l : List A). length l) same)

members_said : (ts : List Token) (p : Bytes × List Bytes) → name_and_members ts ≡ Some p → 2 ≤ length p.1
members_said [] p e = absurd (cc)
members_said (n ∷ []) p e = absurd (cc)
members_said (n ∷ a ∷ []) p e = absurd (cc)
members_said (word n ∷ a ∷ b ∷ ts) p e = by (is_name n) e
  where
    made : (o : Option (List Bytes)) → all_of name_of (a ∷ b ∷ ts) ≡ o → option_map (λ xs. (n, xs)) o ≡ Some p
        → 2 ≤ length p.1
    made None f g = absurd (cc)
    made (Some xs) f g =
        let same : (n, xs) ≡ p = cc in
        subst (λ (q : Bytes × List Bytes). 2 ≤ length q.1) same
        (front_two (name_of a) (name_of b) (all_of name_of ts) xs f)

    by : (c : Bool) → cond c (option_map (λ xs. (n, xs)) (all_of name_of (a ∷ b ∷ ts))) None ≡ Some p → 2 ≤ length p.1
    by true f = made (all_of name_of (a ∷ b ∷ ts)) refl f
    by false f = absurd (cc)
members_said (text n ∷ a ∷ b ∷ ts) p e = absurd (cc)
members_said (open_paren ∷ a ∷ b ∷ ts) p e = absurd (cc)
members_said (close_paren ∷ a ∷ b ∷ ts) p e = absurd (cc)
members_said (comma ∷ a ∷ b ∷ ts) p e = absurd (cc)
members_said (arrow ∷ a ∷ b ∷ ts) p e = absurd (cc)
members_said (operator o ∷ a ∷ b ∷ ts) p e = absurd (cc)
members_said (stray ∷ a ∷ b ∷ ts) p e = absurd (cc)

-- What a line says can be run.

runnable_behind : (k : Keyword) (ts : List Token) (command : Command) → command_behind k ts ≡ Some command
    → IsRunnable command
runnable_behind RelWord ts command e = made_of (λ p. Rel p.0 p.1) (named_some type_of ts) command (IsRunnable command)
    (λ p f g. subst IsRunnable g (types_said ts p f)) e
runnable_behind AddWord ts command e = made_of (λ p. Add p.0 p.1) (named_some literal_of ts) command
    (IsRunnable command) (λ a f g. subst IsRunnable g tt) e
runnable_behind DelWord ts command e = made_of (λ p. Del p.0 p.1) (named_some literal_of ts) command
    (IsRunnable command) (λ a f g. subst IsRunnable g tt) e
runnable_behind QueryWord ts command e = made_of (λ q. Register q) (query_of_tokens ts) command (IsRunnable command)
    (λ q f g. subst IsRunnable g (query_said ts q f)) e
runnable_behind UnionWord ts command e = made_of (λ p. Union p.0 p.1) (name_and_members ts) command (IsRunnable command)
    (λ p f g. subst IsRunnable g (members_said ts p f)) e
runnable_behind DropWord ts command e = made_of (λ q. Drop q) (one_name ts) command (IsRunnable command)
    (λ a f g. subst IsRunnable g tt) e
runnable_behind OpenWord ts command e = made_of (λ p. Open p.0 p.1) (two_names ts) command (IsRunnable command)
    (λ a f g. subst IsRunnable g tt) e
runnable_behind NextWord ts command e = made_of (λ p. Next p.0 p.1) (name_and_count ts) command (IsRunnable command)
    (λ p f g. subst IsRunnable g (count_said ts p f)) e
runnable_behind CloseWord ts command e = made_of (λ q. Close q) (one_name ts) command (IsRunnable command)
    (λ a f g. subst IsRunnable g tt) e
runnable_behind HasWord ts command e = made_of (λ p. Has p.0 p.1) (named_any literal_of ts) command (IsRunnable command)
    (λ a f g. subst IsRunnable g tt) e
runnable_behind WatchWord ts command e = made_of (λ q. Watch q) (one_name ts) command (IsRunnable command)
    (λ a f g. subst IsRunnable g tt) e
runnable_behind UnwatchWord ts command e = made_of (λ q. Unwatch q) (one_name ts) command (IsRunnable command)
    (λ a f g. subst IsRunnable g tt) e
runnable_behind ExplainWord ts command e = made_of (λ q. Explain q) (one_name ts) command (IsRunnable command)
    (λ a f g. subst IsRunnable g tt) e
runnable_behind ShapeWord ts command e = made_of (λ q. Shape q) (one_name ts) command (IsRunnable command)
    (λ a f g. subst IsRunnable g tt) e
runnable_behind BatchWord ts command e = no_count Batch ts command (IsRunnable command) (λ g. subst IsRunnable g tt) e
runnable_behind DoneWord ts command e = made_of (λ n. Done n) (number_if_any ts) command (IsRunnable command)
    (λ a f g. subst IsRunnable g tt) e
runnable_behind AbandonWord ts command e = no_count Abandon ts command (IsRunnable command) (λ g. subst IsRunnable g tt)
    e
runnable_behind QuitWord ts command e = no_count Quit ts command (IsRunnable command) (λ g. subst IsRunnable g tt) e
runnable_behind StopWord ts command e = no_count Stop ts command (IsRunnable command) (λ g. subst IsRunnable g tt) e

run_as : (line : Bytes) (c : Command) → command_of line ≡ Some c → IsRunnable c
unfolding command_of
run_as line c e = step (is_utf8 line) e
  where
    with_keyword : (o : Option Keyword) (ts : List Token) → command_with o ts ≡ Some c → IsRunnable c
    with_keyword None ts f = absurd (cc)
    with_keyword (Some k) ts f = runnable_behind k ts c f

    in_tokens : (ts : List Token) → command_in ts ≡ Some c → IsRunnable c
    in_tokens [] f = absurd (cc)
    in_tokens (word w ∷ ts) f = with_keyword (keyword_of w) ts f
    in_tokens (text w ∷ ts) f = absurd (cc)
    in_tokens (open_paren ∷ ts) f = absurd (cc)
    in_tokens (close_paren ∷ ts) f = absurd (cc)
    in_tokens (comma ∷ ts) f = absurd (cc)
    in_tokens (arrow ∷ ts) f = absurd (cc)
    in_tokens (operator o ∷ ts) f = absurd (cc)
    in_tokens (stray ∷ ts) f = absurd (cc)

    step : (b : Bool) → cond b (command_in (tokens line)) None ≡ Some c → IsRunnable c
    step true f = in_tokens (tokens line) f
    step false f = absurd (cc)

runnable_in : (line : Bytes) (o : Option Command) (c : Command) → command_of line ≡ o → GivesCommand o (Ok c)
    → IsRunnable c
runnable_in line None c e g = absurd (cc (g.0))
runnable_in line (Some a) c e g = run_as line c (e ∙ ap (λ (x : Command). Some x) (sym g.0.0))

pub runnable : (line : Bytes) (c : Command) → LineReadsAs line (Ok c) → IsRunnable c
runnable line c g = runnable_in line (command_of line) c refl g

-- What a line says, its tokens say.

said_within : (line : Bytes) (c : Command) → command_of line ≡ Some c → SaysCommand c (tokens line)
unfolding command_of
said_within line c e = step (is_utf8 line) e
  where
    step : (b : Bool) → cond b (command_in (tokens line)) None ≡ Some c → SaysCommand c (tokens line)
    step true f = (commands_are_said (tokens line) c).0 f
    step false f = absurd (cc)

said_in : (line : Bytes) (o : Option Command) (c : Command) → command_of line ≡ o → GivesCommand o (Ok c)
    → SaysCommand c (tokens line)
said_in line None c e g = absurd (cc (g.0))
said_in line (Some a) c e g = said_within line c (e ∙ ap (λ (x : Command). Some x) (sym g.0.0))

tokens_say : (line : Bytes) (c : Command) → LineReadsAs line (Ok c) → SaysCommand c (tokens line)
tokens_say line c g = said_in line (command_of line) c refl g

-- where they begin with no row's keyword, it isn't on a row
other_said : (c : Command) (ts : List Token) → SaysCommand c ts → begins_row ts ≡ false → is_on_row c ≡ false
other_said (Rel n cs) ts h e = refl
other_said (Add n row) ts h e = absurd (true≢false (sym (ap begins_row h.1.3) ∙ e))
other_said (Del n row) ts h e = absurd (true≢false (sym (ap begins_row h.1.3) ∙ e))
other_said (Register q) ts h e = refl
other_said (Union u members) ts h e = refl
other_said (Drop q) ts h e = refl
other_said (Open c q) ts h e = refl
other_said (Next c n) ts h e = refl
other_said (Close c) ts h e = refl
other_said (Has q row) ts h e = refl
other_said (Watch q) ts h e = refl
other_said (Unwatch q) ts h e = refl
other_said (Explain q) ts h e = refl
other_said (Shape q) ts h e = refl
other_said Batch ts h e = refl
other_said (Done given) ts h e = refl
other_said Abandon ts h e = refl
other_said Quit ts h e = refl
other_said Stop ts h e = refl

pub other : (line : Bytes) (c : Command) → LineReadsAs line (Ok c) → begins_row (tokens line) ≡ false
    → is_on_row c ≡ false
other line c g e = other_said c (tokens line) (tokens_say line c g) e

-- The name of a row's relation is a name.

short_name : (n : Bytes) → is_name n ≡ true → length n ≤ 32
short_name [] e = absurd (cc)
short_name (b ∷ bs) e = omega
    (arith, leb-true (length bs) 31 (and_parts _ (nat_le (length bs) 31) (and_parts (is_lower b) _ e).1).1)

pub short_to_add : (line n : Bytes) (row : Tuple) → LineReadsAs line (Ok (Add n row)) → length n ≤ 32
short_to_add line n row g = short_name n (tokens_say line (Add n row) g).1.1

pub short_to_delete : (line n : Bytes) (row : Tuple) → LineReadsAs line (Ok (Del n row)) → length n ≤ 32
short_to_delete line n row g = short_name n (tokens_say line (Del n row) g).1.1

-- What a command that isn't one of a row is in a batch.
pub said_in_batch : (line : Bytes) (c : Command) → LineReadsAs line (Ok c) → begins_row (tokens line) ≡ false
    → (row : Tuple)
    → ReadsInBatch line (in_batch c) row
said_in_batch line (Add name values) g e row = absurd (cc (other line (Add name values) g e))
said_in_batch line (Del name values) g e row = absurd (cc (other line (Del name values) g e))
said_in_batch line (Done given) g e row = reads_as line (Done given) g
said_in_batch line Abandon g e row = reads_as line Abandon g
said_in_batch line Quit g e row = reads_as line Quit g
said_in_batch line Stop g e row = reads_as line Stop g
said_in_batch line c g e row = misplaced_said (Some nothing_held) line c g refl

-- A command that has its place in a batch has it in one that is open.
pub placed_in : (o : Option HeldTransaction) (c : Command) → IsSome o
    → is_misplaced {A = HeldTransaction} (Some nothing_held) c ≡ false → is_misplaced o c ≡ false
placed_in None c h e = absurd (cc (h))
placed_in (Some held) c h e = in_any_batch held c ∙ e

pub refused_in : (o : Option HeldTransaction) (r : Reading) (why : Refusal) → IsSome o
    → RefusedBy (Some nothing_held) r why → RefusedBy o r why
refused_in None r why h e = absurd (cc (h))
refused_in (Some held) r why h e = refused_in_any held r why e

-- ---- What a line that is read comes to, by whether its command is misplaced.

-- by whether memory lacks as the line is read
abbrev pub ReadAs : State → ℕ → Session → Bytes → Command → Effect → State → Bool → Type 0
ReadAs old s x l c e new true = CommandStep old s x l c e new
ReadAs old s x l c e new false = (takes_memory_to_read c ≡ true) × RefusedStep old s NoMemory e new

abbrev pub CarriedOut : State → ℕ → Session → Bytes → Command → Effect → State → Bool → Type 0
CarriedOut old s x l c e new true = RefusedStep old s Misplaced e new
CarriedOut old s x l c e new false = (is_read : Bool) × ReadAs old s x l c e new is_read

-- a command that is done
pub carried_out : (old : State) (s : ℕ) (x : Session) (l : Bytes) (c : Command) (e : Effect) (new : State)
    → is_misplaced x.batch c ≡ false → CommandStep old s x l c e new
    → ReadStep old s x l (says_command c) e new
carried_out old s x l c e new m d = subst (CarriedOut old s x l c e new) (sym m) (true, d)

-- Of a command that isn't one of a row it makes no difference which line says it.
pub any_line : (old : State) (s : ℕ) (x : Session) (l : Bytes) (c : Command) (e : Effect) (new : State) → is_on_row c
    ≡ false → CommandStep old s x [] c e new → CommandStep old s x l c e new
any_line old s x l (Add name row) e new o h = absurd (cc (o))
any_line old s x l (Del name row) e new o h = absurd (cc (o))
any_line old s x l _ e new o h = h

-- a line that is refused before
pub refused_line : (old : State) (s : ℕ) (x : Session) (b : Option HeldTransaction) (l : Bytes) (r : Reading)
    (why : Refusal) (e : Effect) (new : State) → x.batch ≡ b → RefusedBy b r why
    → RefusedStep old s why e new → ReadStep old s x l r e new
refused_line old s x b l outside why e new same is h = subst (λ (w : Refusal). RefusedStep old s w e new) is h
refused_line old s x b l (past_limit c) why e new same is h =
    subst (λ (w : Refusal). RefusedStep old s w e new)
    (is ∙ ap (λ (o : Option HeldTransaction). past_limit_refusal (is_misplaced o c)) (sym same)) h
refused_line old s x b l (says_command c) why e new same (inl (m, is)) h =
    subst (CarriedOut old s x l c e new) (sym (ap (λ (o : Option HeldTransaction). is_misplaced o c) same ∙ m))
    (subst (λ (w : Refusal). RefusedStep old s w e new) is h)
refused_line old s x b l (says_command c) why e new same (inr (m, takes, is)) h =
    subst (CarriedOut old s x l c e new) (sym (ap (λ (o : Option HeldTransaction). is_misplaced o c) same ∙ m))
    (false, (takes, subst (λ (w : Refusal). RefusedStep old s w e new) is h))
