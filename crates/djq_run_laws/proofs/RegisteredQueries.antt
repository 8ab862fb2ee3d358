-- Unions and their members, and registered queries over other relations.
use Rattle.std.specs.Prelude.{List, [], ◌∷◌, ◌≡◌, ◌++◌, ◌||◌, ◌⊎◌, Bool, true, false, cond, Option, None, Some}
use Rattle.std.specs.Prelude.{Contains, IsPermutation, ℕ, ◌≢◌, ◌≤◌, ◌&&◌, not, length, nat_le, nat_lt, is_some, is_none}
use Rattle.std.specs.Prelude.{option_map, map, All, ⊤}
use Rattle.std.specs.List.{list_any, slice_index_or}
use Rattle.std.proofs.Common.{refl, sym, ap, ◌∙◌, subst, inl, inr, ap₂, arith}
use Rattle.std.proofs.lemmas.List.Elements.{Contains-get_or, All-nil, All-cons, All-weaker}
use Rattle.std.proofs.lemmas.List.Sorted.{Contains-permutation, IsPermutation-sym, IsPermutation-refl}
use Rattle.std.specs.Str.{is_utf8}
use Rattle.std.proofs.lemmas.Bool.{ltb-false, or_parts, not-false}
use Rattle.std.proofs.lemmas.List.{length-map}
use Rattle.std.proofs.lemmas.List.Kept.{AllPairs-cons}
use Rattle.djq_model.specs.declared.relation.Relation.{Relation}
use Rattle.djq_model.specs.declared.relation.ColumnType.{ColumnType}
use Rattle.djq_model.specs.declared.relation.CountedRow.{CountedRow}
use Rattle.djq_model.specs.declared.query.Query.{Query}
use Rattle.djq_model.specs.declared.relation.ColumnType.TheVariants.{Int as IntColumn, Text as TextColumn}
use Rattle.djq_model.specs.Answer.{IsAnswer}
use Rattle.djq_model.specs.Data.{Bytes, Tuple, bytes_eq, relation_of, plain_of, counted_in, counted_of, rows_of}
use Rattle.djq_model.specs.Listed.{Listed, a_query, a_union, AnswersOf, listed_name, listed_of}
use Rattle.djq_model.specs.Equality.{bytes_eq-decides}
use Rattle.djq_model.specs.Typed.{same_type}
use Rattle.djq_model.proofs.Copies.{tuples_moved}
use Rattle.djq_value.specs.Literal.{is_name, literal_of}
use Rattle.djq_value.specs.Token.{Token, word, tokens}
use Rattle.djq_protocol.specs.declared.keyword.Keyword.{Keyword}
use Rattle.djq_protocol.specs.declared.keyword.Keyword.TheVariants.{Rel as RelWord, Add as AddWord, Del as DelWord}
use Rattle.djq_protocol.specs.declared.keyword.Keyword.TheVariants.{Query as QueryWord, Union as UnionWord}
use Rattle.djq_protocol.specs.declared.keyword.Keyword.TheVariants.{Drop as DropWord, Open as OpenWord}
use Rattle.djq_protocol.specs.declared.keyword.Keyword.TheVariants.{Next as NextWord, Close as CloseWord}
use Rattle.djq_protocol.specs.declared.keyword.Keyword.TheVariants.{Has as HasWord, Watch as WatchWord}
use Rattle.djq_protocol.specs.declared.keyword.Keyword.TheVariants.{Unwatch as UnwatchWord, Explain as ExplainWord}
use Rattle.djq_protocol.specs.declared.keyword.Keyword.TheVariants.{Shape as ShapeWord, Batch as BatchWord}
use Rattle.djq_protocol.specs.declared.keyword.Keyword.TheVariants.{Done as DoneWord, Abandon as AbandonWord}
use Rattle.djq_protocol.specs.declared.keyword.Keyword.TheVariants.{Quit as QuitWord, Stop as StopWord}
use Rattle.djq_protocol.specs.declared.command.Command.{Command}
use Rattle.djq_protocol.specs.declared.command.Command.TheVariants.{Rel, Add, Del, Query as Register, Union, Drop, Open}
use Rattle.djq_protocol.specs.declared.command.Command.TheVariants.{Next, Close, Has, Watch, Unwatch, Explain, Shape}
use Rattle.djq_protocol.specs.declared.command.Command.TheVariants.{Batch, Done, Abandon, Quit, Stop}
use Rattle.djq_protocol.specs.declared.answer.Refusal.{Refusal}
use Rattle.djq_protocol.specs.declared.answer.Refusal.TheVariants.{Taken, NoQuery, Member, Limit}
use Rattle.djq_protocol.specs.declared.limits.TheConstants.{MEMBERS, QUERIES}
use Rattle.djq_protocol.specs.Conditions.{first_refusal}
use Rattle.djq_protocol.specs.Grammar.{name_of, type_of, in_front, all_of, named_any, named_some, one_name, two_names}
use Rattle.djq_protocol.specs.Grammar.{name_and_count, query_of_tokens, at_line_end, keyword_of, command_behind}
use Rattle.djq_protocol.specs.Grammar.{command_with, command_in, command_of, is_in_range, past_limit, says_command}
use Rattle.djq_protocol.specs.Grammar.{number_if_any, reading_in, reading_of}
use Rattle.djq_store_spec.specs.Relations.{with_rows}
use Rattle.djq_store_spec.specs.Stale.{reads, listed_reads}
use Rattle.djq_store_spec.specs.Changes.{RowsChange, new_rows}
use Rattle.djq_store_spec.specs.Store.{Store}
use Rattle.djq_store_spec.specs.Asking.{answer_types, listed_types}
use Rattle.djq_store_spec.specs.Union.{stands_twice, is_union, same_types, types_under, types_differ, union_refusal}
use Rattle.djq_store_spec.specs.Union.{AreUnder}
use Rattle.djq_store_spec.proofs.Relations.{reads_atom, rows_apart}
use Rattle.djq_answer_laws.proofs.Lists.{nothing_there, first_or_later, some_one, one_there}
use Rattle.djq_answer_laws.proofs.Choices.{none_any}
use Rattle.djq_machine.specs.Step.{SameRelations}
use Rattle.djq_machine.specs.Gives.{Gives}
use Rattle.djq_run_laws.specs.Sound.{AreApart, IsSoundUnion}
use Rattle.djq_run_laws.proofs.Lists.{nothing_apart, other_name}

-- ---- When what is registered has the same answers over other relations.

pub apart_from : (r name n : Bytes) (b : Bool) → bytes_eq r n ≡ b → bytes_eq n name ≡ false → bytes_eq r name ≡ true → b
    ≡ false
apart_from r name n false e ne same = refl
apart_from r name n true e ne same =
    let k : r ≡ n = (bytes_eq-decides r n).0 e in
    let twice : bytes_eq n name ≡ true = ap (λ z. bytes_eq z name) (sym k) ∙ same in
    absurd (cc (twice, ne))

-- what holds of every relation that is read: its rows of the one are among those of the other
abbrev pub RowsWithin : List Relation → List Relation → Listed → Type 0
RowsWithin rs rs' q = (n : Bytes) → listed_reads q n ≡ true → (row : Tuple) → Contains (rows_of rs n) row
    → Contains (rows_of rs' n) row

query_within : (rs rs' : List Relation) (q : Query) (t : Tuple) → RowsWithin rs rs' (a_query q) → IsAnswer rs q t
    → IsAnswer rs' q t
query_within rs rs' q t within h = record {
  assignment = h.assignment;
  satisfies = λ k d lt.
      let s = h.satisfies k d lt in
      let a = slice_index_or q.atoms k d in
      let read = reads_atom q a (Contains-get_or q.atoms k d lt) in
      record { row = s.row; is_there = within a.relation read s.row s.is_there; stands = s.stands };
  compared = h.compared;
  on_head = h.on_head;
}

-- a relation that a member reads, its union reads
member_reads : (qs : List Query) (q : Query) (n : Bytes) → Contains qs q → reads q n ≡ true
    → list_any (λ p. reads p n) qs ≡ true
member_reads [] q n c h = absurd (nothing_there q c)
member_reads (p ∷ qs) q n c h = step (reads p n) refl (first_or_later p qs q c) (λ d. member_reads qs q n d h)
  where
    step : (b : Bool) → reads p n ≡ b → (p ≡ q) ⊎ Contains qs q → (Contains qs q → list_any (λ r. reads r n) qs ≡ true)
        → (b || list_any (λ r. reads r n) qs) ≡ true
    step true e o more = refl
    step false e (inl same) more =
        let so : reads p n ≡ true = ap (λ (r : Query). reads r n) same ∙ h in absurd (cc (so, e))
    step false e (inr d) more = more d

answer_within : (rs rs' : List Relation) (q : Listed) (t : Tuple) → RowsWithin rs rs' q → AnswersOf rs q t
    → AnswersOf rs' q t
answer_within rs rs' (a_query q) t within h = query_within rs rs' q t within h
answer_within rs rs' (a_union name qs) t within h =
    let o = some_one (λ (q : Query). IsAnswer rs q t) qs h in
    one_there (λ (q : Query). IsAnswer rs' q t) qs o.0 o.1
    (query_within rs rs' o.0 t (λ n r. within n (member_reads qs o.0 n o.1 r)) o.2)

-- the same answers
pub record SameAnswers (rs rs' : List Relation) (q : Listed) : Type 0 where
  pub there : (t : Tuple) → AnswersOf rs q t → AnswersOf rs' q t
  pub back : (t : Tuple) → AnswersOf rs' q t → AnswersOf rs q t

same_within : (rs rs' : List Relation) (q : Listed) → RowsWithin rs rs' q → RowsWithin rs' rs q → SameAnswers rs rs' q
same_within rs rs' q there back = record
    { there = λ t h. answer_within rs rs' q t there h; back = λ t h. answer_within rs' rs q t back h }

-- what a cursor has given it still gives
pub gives_kept : (rs rs' : List Relation) (q : Listed) (given : List Tuple) (finished : Bool) → SameAnswers rs rs' q
    → Gives (AnswersOf rs q) given finished → Gives (AnswersOf rs' q) given finished
gives_kept rs rs' q given finished same h = record {
  different = h.different;
  answers = λ k d lt. same.there _ (h.answers k d lt);
  listing = λ e. let l = h.listing e in record {
    different = l.different;
    answers = λ k d lt. same.there _ (l.answers k d lt);
    complete = λ t a. l.complete t (same.back t a);
  };
}

-- A new relation has no rows, so each name has the rows that it had.
new_step : (name : Bytes) (types : List ColumnType) (b : Bool)
    → counted_in (cond b (Some (record { name = name; types = types; rows = [] })) None) ≡ []
new_step name types true = refl
new_step name types false = refl

first_step : (r : Relation) (o p : Option Relation) (b : Bool) → counted_in o ≡ counted_in p
    → counted_in (cond b (Some r) o) ≡ counted_in (cond b (Some r) p)
first_step r o p true h = refl
first_step r o p false h = h

counted_of_new : (rs : List Relation) (name : Bytes) (types : List ColumnType) (n : Bytes)
    → counted_of (rs ++ record { name = name; types = types; rows = [] } ∷ []) n ≡ counted_of rs n
counted_of_new [] name types n = new_step name types (bytes_eq name n)
counted_of_new (r ∷ rs) name types n =
    first_step r (relation_of (rs ++ record { name = name; types = types; rows = [] } ∷ []) n) (relation_of rs n)
    (bytes_eq r.name n) (counted_of_new rs name types n)

pub rows_of_new : (rs : List Relation) (name : Bytes) (types : List ColumnType) (n : Bytes)
    → rows_of (rs ++ record { name = name; types = types; rows = [] } ∷ []) n ≡ rows_of rs n
rows_of_new rs name types n = ap plain_of (counted_of_new rs name types n)

-- Where each name has the rows that it had, answers are the same.
pub rows_same : (rs rs' : List Relation) (q : Listed) → ((n : Bytes) → rows_of rs' n ≡ rows_of rs n)
    → SameAnswers rs rs' q
rows_same rs rs' q e = same_within rs rs' q
    (λ n r row h. rw e h)
    (λ n r row h. rw e at h)

pub new_relation_same : (rs : List Relation) (name : Bytes) (types : List ColumnType) (q : Listed)
    → SameAnswers rs (rs ++ record { name = name; types = types; rows = [] } ∷ []) q
new_relation_same rs name types q = rows_same rs (rs ++ record { name = name; types = types; rows = [] } ∷ []) q
    (rows_of_new rs name types)

-- The same relations with their rows in another order.
order_step : (n : Bytes) (r s : Relation) (o p : Option Relation) (b : Bool) → bytes_eq r.name n ≡ b → s.name ≡ r.name
    → IsPermutation r.rows s.rows → IsPermutation (counted_in o) (counted_in p)
    → IsPermutation (counted_in (cond b (Some r) o)) (counted_in (cond (bytes_eq s.name n) (Some s) p))
order_step n r s o p true e name rows h =
    let k : bytes_eq s.name n ≡ true = ap (λ m. bytes_eq m n) name ∙ e in rw k rows
order_step n r s o p false e name rows h =
    let k : bytes_eq s.name n ≡ false = ap (λ m. bytes_eq m n) name ∙ e in rw k h

pub reordered_counted : (rs rs' : List Relation) (n : Bytes) → SameRelations rs rs'
    → IsPermutation (counted_of rs n) (counted_of rs' n)
reordered_counted [] [] n h = IsPermutation-refl []
reordered_counted (r ∷ rs) (s ∷ rs') n h =
    order_step n r s (relation_of rs n) (relation_of rs' n) (bytes_eq r.name n) refl h.0 h.2
    (reordered_counted rs rs' n h.3)
reordered_counted [] (s ∷ rs') n h = absurd h
reordered_counted (r ∷ rs) [] n h = absurd h

pub reordered_rows : (rs rs' : List Relation) (n : Bytes) → SameRelations rs rs'
    → IsPermutation (rows_of rs n) (rows_of rs' n)
reordered_rows rs rs' n h = tuples_moved (counted_of rs n) (counted_of rs' n) (reordered_counted rs rs' n h)

pub reordered_same : (rs rs' : List Relation) (q : Listed) → SameRelations rs rs' → SameAnswers rs rs' q
reordered_same rs rs' q h = same_within rs rs' q
    (λ n r row c. Contains-permutation _ _ row (reordered_rows rs rs' n h) c)
    (λ n r row c. Contains-permutation _ _ row (IsPermutation-sym _ _ (reordered_rows rs rs' n h)) c)

-- Where each relation that is read has the rows that it had, answers are the same.
pub read_same : (rs rs' : List Relation) (q : Listed)
    → ((n : Bytes) → listed_reads q n ≡ true → rows_of rs' n ≡ rows_of rs n)
    → SameAnswers rs rs' q
read_same rs rs' q same = same_within rs rs' q
    (λ n r row c. subst (λ (ts : List Tuple). Contains ts row) (sym (same n r)) c)
    (λ n r row c. subst (λ (ts : List Tuple). Contains ts row) (same n r) c)

-- A change of a relation that isn't read.
unread_same : (rs : List Relation) (name : Bytes) (rows : List CountedRow) (q : Listed) → listed_reads q name ≡ false
    → SameAnswers rs (with_rows rs name rows) q
unread_same rs name rows q h =
    read_same rs (with_rows rs name rows) q (λ n r. rows_apart rs name rows n (apart n r (bytes_eq n name) refl))
  where
    apart : (n : Bytes) → listed_reads q n ≡ true → (b : Bool) → bytes_eq n name ≡ b → b ≡ false
    apart n r false e = refl
    apart n r true e =
        let read : listed_reads q name ≡ true = ap (listed_reads q) (sym ((bytes_eq-decides n name).0 e)) ∙ r in
        absurd (cc (read, h))

-- A change outdates whatever it may change the answers of.
abbrev pub Spares : List Relation → RowsChange → Type 0
Spares rs change = (q : Listed) → change.outdater q ≡ None → SameAnswers rs change.after q

-- So does a change of one relation.
pub one_spares : (rs : List Relation) (name : Bytes) (rows : List CountedRow) → Spares rs (new_rows rs name rows)
one_spares rs name rows q h = unread_same rs name rows q (unread (listed_reads q name) h)
  where
    unread : (b : Bool) → cond b (Some name) None ≡ None → b ≡ false
    unread true k = absurd cc
    unread false k = refl

-- ---- A union that is registered is sound: its line says two members at least, and its conditions the rest.

-- ---- what a line says

-- A list of items, where there is one, has so many.
abbrev HasLength : {A : Type 0} → ℕ → Option (List A) → Type 0
HasLength n None = ⊤
HasLength n (Some xs) = length xs ≡ n

all_long : {A : Type 0} (item : Token → Option A) (ts : List Token) → HasLength (length ts) (all_of item ts)
all_long item [] = refl
all_long item (t ∷ ts) = by (item t) (all_of item ts) (all_long item ts)
  where
    by : {A : Type 0} (o : Option A) (more : Option (List A)) → HasLength (length ts) more
        → HasLength (length (t ∷ ts)) (in_front o more)
    by None more h = tt
    by (Some a) None h = tt
    by (Some a) (Some xs) h = omega (arith, h)

-- A command of a union has two members at least, and one of a relation a column.
abbrev pub HasParts : Command → Type 0
HasParts (Union name members) = 2 ≤ length members
HasParts (Rel name types) = 1 ≤ length types
HasParts _ = ⊤

abbrev MayHaveParts : Option Command → Type 0
MayHaveParts None = ⊤
MayHaveParts (Some c) = HasParts c

mapped_has : {A : Type 0} (f : A → Command) → ((a : A) → HasParts (f a)) → (o : Option A)
    → MayHaveParts (option_map f o)
mapped_has f has None = tt
mapped_has f has (Some a) = has a

nothing_has : (c : Command) → HasParts c → (ts : List Token) → MayHaveParts (at_line_end c ts)
nothing_has c has [] = has
nothing_has c has (t ∷ ts) = tt

union_has : (ts : List Token) → MayHaveParts (command_behind UnionWord ts)
union_has [] = tt
union_has (n ∷ []) = tt
union_has (n ∷ a ∷ []) = tt
union_has (word n ∷ a ∷ b ∷ ts) = by (is_name n) (all_of name_of (a ∷ b ∷ ts)) (all_long name_of (a ∷ b ∷ ts))
  where
    by : (named : Bool) (o : Option (List Bytes)) → HasLength (length (a ∷ b ∷ ts)) o
        → MayHaveParts (option_map (λ (p : Bytes × List Bytes). Union p.0 p.1)
        (cond named (option_map (λ (xs : List Bytes). (n, xs)) o) None))
    by false o h = tt
    by true None h = tt
    by true (Some xs) h = omega (arith, h)
union_has (n ∷ a ∷ b ∷ ts) = tt

rel_has : (ts : List Token) → MayHaveParts (command_behind RelWord ts)
rel_has [] = tt
rel_has (word n ∷ []) = tt
rel_has (word n ∷ a ∷ ts) = by (is_name n) (all_of type_of (a ∷ ts)) (all_long type_of (a ∷ ts))
  where
    by : (named : Bool) (o : Option (List ColumnType)) → HasLength (length (a ∷ ts)) o
        → MayHaveParts (option_map (λ (p : Bytes × List ColumnType). Rel p.0 p.1)
        (cond named (option_map (λ (xs : List ColumnType). (n, xs)) o) None))
    by false o h = tt
    by true None h = tt
    by true (Some xs) h = omega (arith, h)
rel_has (n ∷ ts) = tt

behind_has : (k : Keyword) (ts : List Token) → MayHaveParts (command_behind k ts)
behind_has RelWord ts = rel_has ts
behind_has AddWord ts = mapped_has (λ (p : Bytes × Tuple). Add p.0 p.1) (λ p. tt) (named_some literal_of ts)
behind_has DelWord ts = mapped_has (λ (p : Bytes × Tuple). Del p.0 p.1) (λ p. tt) (named_some literal_of ts)
behind_has QueryWord ts = mapped_has (λ q. Register q) (λ q. tt) (query_of_tokens ts)
behind_has UnionWord ts = union_has ts
behind_has DropWord ts = mapped_has (λ q. Drop q) (λ q. tt) (one_name ts)
behind_has OpenWord ts = mapped_has (λ (p : Bytes × Bytes). Open p.0 p.1) (λ p. tt) (two_names ts)
behind_has NextWord ts = mapped_has (λ (p : Bytes × ℕ). Next p.0 p.1) (λ p. tt) (name_and_count ts)
behind_has CloseWord ts = mapped_has (λ c. Close c) (λ c. tt) (one_name ts)
behind_has HasWord ts = mapped_has (λ (p : Bytes × Tuple). Has p.0 p.1) (λ p. tt) (named_any literal_of ts)
behind_has WatchWord ts = mapped_has (λ q. Watch q) (λ q. tt) (one_name ts)
behind_has UnwatchWord ts = mapped_has (λ q. Unwatch q) (λ q. tt) (one_name ts)
behind_has ExplainWord ts = mapped_has (λ q. Explain q) (λ q. tt) (one_name ts)
behind_has ShapeWord ts = mapped_has (λ q. Shape q) (λ q. tt) (one_name ts)
behind_has BatchWord ts = nothing_has Batch tt ts
behind_has DoneWord ts = mapped_has (λ n. Done n) (λ n. tt) (number_if_any ts)
behind_has AbandonWord ts = nothing_has Abandon tt ts
behind_has QuitWord ts = nothing_has Quit tt ts
behind_has StopWord ts = nothing_has Stop tt ts

with_has : (o : Option Keyword) (ts : List Token) → MayHaveParts (command_with o ts)
with_has None ts = tt
with_has (Some k) ts = behind_has k ts

in_has : (ts : List Token) → MayHaveParts (command_in ts)
in_has [] = tt
in_has (word w ∷ ts) = with_has (keyword_of w) ts
in_has (t ∷ ts) = tt

line_has : (l : Bytes) → MayHaveParts (command_of l)
unfolding command_of
line_has l = by (is_utf8 l)
  where
    by : (b : Bool) → MayHaveParts (cond b (command_in (tokens l)) None)
    by true = in_has (tokens l)
    by false = tt

pub said_parts : (l : Bytes) (c : Command) → reading_of l ≡ says_command c → HasParts c
said_parts l c e = by (command_of l) (line_has l) e
  where
    by : (o : Option Command) → MayHaveParts o → reading_in o ≡ says_command c → HasParts c
    by None h e = absurd cc
    by (Some d) h e = within (is_in_range d) e
      where
        within : (b : Bool) → cond b (says_command d) (past_limit d) ≡ says_command c → HasParts c
        within false e = absurd cc
        within true e = let same : d ≡ c = cc in subst HasParts same h

-- ---- what is registered under its members' names

found_name : (ls : List Listed) (n : Bytes) (l : Listed) → listed_of ls n ≡ Some l → listed_name l ≡ n
found_name [] n l e = absurd cc
found_name (k ∷ ls) n l e = by (bytes_eq (listed_name k) n) refl e (λ f. found_name ls n l f)
  where
    by : (b : Bool) → bytes_eq (listed_name k) n ≡ b → cond b (Some k) (listed_of ls n) ≡ Some l
        → (listed_of ls n ≡ Some l → listed_name l ≡ n) → listed_name l ≡ n
    by true same e more = let is : k ≡ l = cc in ap listed_name (sym is) ∙ (bytes_eq-decides (listed_name k) n).0 same
    by false other e more = more e

first_and_rest : {A : Type 0} (x y : A) (xs ys : List A) → x ∷ xs ≡ y ∷ ys → (x ≡ y) × (xs ≡ ys)
first_and_rest x y xs ys e = (cc, cc)

found_first : (ls : List Listed) (n : Bytes) (ns : List Bytes) (q : Query) (qs : List Query)
    → AreUnder ls (n ∷ ns) (q ∷ qs) → (listed_of ls n ≡ Some (a_query q)) × AreUnder ls ns qs
found_first ls n ns q qs e =
    first_and_rest (listed_of ls n) (Some (a_query q)) (map (λ m. listed_of ls m) ns)
    (map (λ (p : Query). Some (a_query p)) qs) e

pub under_names : (ls : List Listed) (ns : List Bytes) (qs : List Query) → AreUnder ls ns qs
    → map (λ (q : Query). q.name) qs ≡ ns
under_names ls [] [] e = refl
under_names ls [] (q ∷ qs) e = absurd cc
under_names ls (n ∷ ns) [] e = absurd cc
under_names ls (n ∷ ns) (q ∷ qs) e =
    let f = found_first ls n ns q qs e in
    ap₂ (λ (m : Bytes) (ms : List Bytes). m ∷ ms) (found_name ls n (a_query q) f.0) (under_names ls ns qs f.1)

pub under_registered : (ls : List Listed) (ns : List Bytes) (qs : List Query) → AreUnder ls ns qs
    → All (λ (q : Query). listed_of ls q.name ≡ Some (a_query q)) qs
under_registered ls [] [] e = All-nil (λ (q : Query). listed_of ls q.name ≡ Some (a_query q))
under_registered ls [] (q ∷ qs) e = absurd cc
under_registered ls (n ∷ ns) [] e = absurd cc
under_registered ls (n ∷ ns) (q ∷ qs) e =
    let f = found_first ls n ns q qs e in
    All-cons (λ (p : Query). listed_of ls p.name ≡ Some (a_query p)) q qs
    (subst (λ (m : Bytes). listed_of ls m ≡ Some (a_query q)) (sym (found_name ls n (a_query q) f.0)) f.0)
    (under_registered ls ns qs f.1)

once_apart : (ns : List Bytes) → stands_twice ns ≡ false → AreApart ns
once_apart [] e = nothing_apart (λ a b. a ≢ b)
once_apart (n ∷ ns) e =
    let k = or_parts (list_any (λ m. bytes_eq m n) ns) (stands_twice ns) e in
    AllPairs-cons (λ a b. a ≢ b) n ns
    (All-weaker (λ m. bytes_eq m n ≡ false) (λ m. n ≢ m) (λ m other same. other_name m n other (sym same)) ns
    (none_any (λ m. bytes_eq m n) ns k.0)) (once_apart ns k.1)

-- ---- the types of their answers

same_is : (c d : ColumnType) → same_type c d ≡ true → c ≡ d
same_is IntColumn IntColumn e = refl
same_is TextColumn TextColumn e = refl
same_is IntColumn TextColumn e = absurd cc
same_is TextColumn IntColumn e = absurd cc

all_same : (cs ds : List ColumnType) → same_types cs ds ≡ true → cs ≡ ds
all_same [] [] e = refl
all_same [] (d ∷ ds) e = absurd cc
all_same (c ∷ cs) [] e = absurd cc
all_same (c ∷ cs) (d ∷ ds) e = by (same_type c d) refl e (λ h. all_same cs ds h)
  where
    by : (b : Bool) → same_type c d ≡ b → (b && same_types cs ds) ≡ true → (same_types cs ds ≡ true → cs ≡ ds)
        → c ∷ cs ≡ d ∷ ds
    by false k h more = absurd cc
    by true k h more = ap₂ (λ (x : ColumnType) (xs : List ColumnType). x ∷ xs) (same_is c d k) (more h)

types_agree : (st : Store) (types : List ColumnType) (ns : List Bytes) (qs : List Query) → AreUnder st.queries ns qs
    → list_any (λ m. not (same_types types (types_under st m))) ns ≡ false
    → All (λ (q : Query). answer_types st.relations q ≡ types) qs
types_agree st types [] [] under e = All-nil (λ (q : Query). answer_types st.relations q ≡ types)
types_agree st types [] (q ∷ qs) under e = absurd cc
types_agree st types (n ∷ ns) [] under e = absurd cc
types_agree st types (n ∷ ns) (q ∷ qs) under e =
    let f = found_first st.queries n ns q qs under in
    let k = or_parts (not (same_types types (types_under st n)))
    (list_any (λ m. not (same_types types (types_under st m))) ns) e in
    All-cons (λ (p : Query). answer_types st.relations p ≡ types) q qs
    (sym (all_same types (types_under st n) (not-false (same_types types (types_under st n)) k.0)
    ∙ ap (λ (o : Option Listed). listed_types st.relations o) f.0))
    (types_agree st types ns qs f.1 k.1)

types_of_union : (st : Store) (name : Bytes) (ns : List Bytes) (qs : List Query) → AreUnder st.queries ns qs
    → types_differ st ns ≡ false
    → All (λ (q : Query). answer_types st.relations q ≡ listed_types st.relations (Some (a_union name qs))) qs
types_of_union st name [] [] under e =
    All-nil (λ (q : Query). answer_types st.relations q ≡ listed_types st.relations (Some (a_union name [])))
types_of_union st name [] (q ∷ qs) under e = absurd cc
types_of_union st name (n ∷ ns) [] under e = absurd cc
types_of_union st name (n ∷ ns) (q ∷ qs) under e =
    let f = found_first st.queries n ns q qs under in
    let same : types_under st n ≡ answer_types st.relations q =
    ap (λ (o : Option Listed). listed_types st.relations o) f.0 in
    All-cons (λ (p : Query). answer_types st.relations p ≡ answer_types st.relations q) q qs refl
    (types_agree st (answer_types st.relations q) ns qs f.1
    (subst (λ (ts : List ColumnType). list_any (λ m. not (same_types ts (types_under st m))) ns ≡ false) same e))

-- ---- all of it

three_fail : (a b c : Bool) → (a || b || c) ≡ false → (a ≡ false) × (b ≡ false) × (c ≡ false)
three_fail false false false e = (refl, refl, refl)
three_fail true b c e = absurd cc
three_fail false true c e = absurd cc
three_fail false false true e = absurd cc

third_and_fourth : (a b c d : Bool) (r t u v : Refusal) (o : Option Refusal)
    → cond a (Some r) (cond b (Some t) (cond c (Some u) (cond d (Some v) o))) ≡ None → (c ≡ false) × (d ≡ false)
third_and_fourth false false false false r t u v o e = (refl, refl)
third_and_fourth true b c d r t u v o e = absurd cc
third_and_fourth false true c d r t u v o e = absurd cc
third_and_fourth false false true d r t u v o e = absurd cc
third_and_fourth false false false true r t u v o e = absurd cc

pub may_unite : (st : Store) (name : Bytes) (members : List Bytes) (qs : List Query) → 2 ≤ length members
    → union_refusal st name members ≡ None → AreUnder st.queries members qs
    → IsSoundUnion st.relations st.queries name qs
may_unite st name members qs two none under =
    let k = third_and_fourth (is_some (listed_of st.queries name))
    (list_any (λ n. is_none (listed_of st.queries n)) members)
    (stands_twice members || list_any (λ n. is_union (listed_of st.queries n)) members || types_differ st members)
    (nat_lt MEMBERS (length members)) Taken NoQuery Member Limit
    (first_refusal ((nat_le QUERIES (length st.queries), Limit) ∷ [])) none in
    let three = three_fail (stands_twice members) (list_any (λ n. is_union (listed_of st.queries n)) members)
    (types_differ st members) k.0 in
    let names = under_names st.queries members qs under in
    let long : length qs ≡ length members = sym (length-map qs (λ (q : Query). q.name)) ∙ ap length names in
    let most : length members ≤ MEMBERS = ltb-false MEMBERS (length members) k.1 in
    record {
      two = omega (arith, two, long);
      few = omega (arith, most, long);
      registered = under_registered st.queries members qs under;
      apart = subst AreApart (sym names) (once_apart members three.0);
      types = types_of_union st name members qs under three.2;
    }
