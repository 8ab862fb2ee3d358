-- What commands of rows do to the core's database, and which rows they change.
use Rattle.std.specs.Prelude.{ℕ, zero, suc, List, [], ◌∷◌, ◌++◌, ◌+◌, ◌-◌, ◌==◌, ◌≡◌, ◌≢◌, ◌⊎◌, ◌↔◌, ◌&&◌, ◌||◌, Bool}
use Rattle.std.specs.Prelude.{true, false, not, cond, nat_lt, pred, Option, None, Some, is_some, fold, find, map, Contains}
use Rattle.std.specs.Prelude.{Ok, length}
use Rattle.std.specs.List.{list_any}
use Rattle.std.specs.Option.{option_and_then, option_or}
use Rattle.std.proofs.Common.{refl, sym, ap, ap₂, ◌∙◌, subst, inl, inr, arith, append-nil, append_assoc}
use Rattle.std.proofs.lemmas.Bool.{and_parts, and_from, ne_eqb, lt-ltb}
use Rattle.std.proofs.lemmas.List.Folds.{Any-from_list_any}
use Rattle.djq_model.specs.declared.relation.Relation.{Relation}
use Rattle.djq_model.specs.declared.query.Query.{Query}
use Rattle.djq_model.specs.declared.query.Atom.{Atom}
use Rattle.djq_model.specs.Data.{Bytes, Tuple, bytes_eq, tuple_eq, rows_of, has_row}
use Rattle.djq_model.specs.Equality.{tuple_eq-decides}
use Rattle.djq_model.specs.Listed.{Listed, a_query, a_union}
use Rattle.djq_protocol.specs.declared.held.Verb.{Verb}
use Rattle.djq_protocol.specs.declared.held.Verb.TheVariants.{Add as Adds, Delete as Deletes}
use Rattle.djq_protocol.specs.declared.held.LineRefusal.{LineRefusal}
use Rattle.djq_protocol.specs.declared.held.LineRefusal.TheVariants.{Absent}
use Rattle.djq_store_spec.specs.Store.{Store}
use Rattle.djq_store_spec.specs.Stale.{reads, listed_reads, by_relation}
use Rattle.djq_store_spec.specs.Rows.{copies_of}
use Rattle.djq_store_spec.specs.Held.{HeldLine}
use Rattle.djq_store_spec.specs.Lines.{same_row, copies_before, copies_after, after_verb, line_comes, line_goes, relations_after}
use Rattle.djq_store_spec.specs.Judging.{refusal_by, row_refusal, texts_refusal, texts_after, line_refusal, refused_at}
use Rattle.djq_store_spec.specs.Judging.{refusal_behind}
use Rattle.djq_store_spec.specs.Done.{has_changed, rows_changed}
use Rattle.djq_store_spec.specs.Transaction.{first_read, DoesAll, SuitAll}
use Rattle.djq_answer_laws.proofs.Lists.{some_one, nothing_there, first_or_later}
use Rattle.djq_run_laws.specs.Copies.{LeavesCopies, lines_leave, has_turned, LeavesLines}
use Rattle.djq_run_laws.specs.Sound.{IsSoundStore}
use Rattle.djq_run_laws.proofs.Lists.{any_there, found_passes}
use Rattle.djq_run_laws.proofs.DoneLines.{rows_rest, rows_unchanged, changed_named}
use Rattle.djq_run_laws.proofs.Batches.{not_refused}
use Rattle.djq_run_laws.proofs.Copies.{lines_leave_copies}
use Rattle.djq_abstract.specs.Rows.{Database, is_present, ReadsRelation, copies_set, edited, all_edited}
use Rattle.djq_abstract.specs.Rows.{IsRowChanged, AreRowsChanged, IsAffected}
use Rattle.djq_abstract.proofs.Names.{same_name, eq_self}
use Rattle.djq_refinement.specs.View.{database_of, inserts_row, line_edit}
use Rattle.djq_refinement.proofs.Stores.{present_row}
use Rattle.djq_refinement.proofs.Sessions.{eq_other}

-- ---- tests

both_ways : (a b : Bytes) → bytes_eq a b ≡ bytes_eq b a
both_ways a b = by (bytes_eq a b) refl
  where
    by : (t : Bool) → bytes_eq a b ≡ t → t ≡ bytes_eq b a
    by true e = sym (ap (λ c. bytes_eq b c) (same_name a b e) ∙ eq_self b)
    by false e = sym (eq_other a b e)

some_if : {A : Type 0} (b : Bool) (x : A) → is_some (cond b (Some x) None) ≡ b
some_if true x = refl
some_if false x = refl

-- ---- what a query reads

reads_query : (q : Query) (n : Bytes) → reads q n ≡ true → (a : Atom) × Contains q.atoms a × (a.relation ≡ n)
reads_query q n e =
    let f = some_one (λ (a : Atom). bytes_eq a.relation n ≡ true) q.atoms
    (Any-from_list_any (λ (a : Atom). bytes_eq a.relation n) q.atoms e) in
    (f.0, f.1, same_name (f.0).relation n f.2)

query_reads : (q : Query) (a : Atom) (n : Bytes) → Contains q.atoms a → a.relation ≡ n → reads q n ≡ true
query_reads q a n c is = any_there (λ (b : Atom). bytes_eq b.relation n) q.atoms a c
    (ap (λ m. bytes_eq m n) is ∙ eq_self n)

only_member : (q m : Query) → Contains (q ∷ []) m → q ≡ m
only_member q m c = by (first_or_later q [] m c)
  where
    by : (q ≡ m) ⊎ Contains [] m → q ≡ m
    by (inl e) = e
    by (inr n) = absurd (nothing_there m n)

pub reads_seen : (q : Listed) (n : Bytes) → listed_reads q n ≡ true → ReadsRelation q n
reads_seen (a_query q) n e =
    let f = reads_query q n e in
    record { query = q; is_member = (0, omega arith, refl); atom = f.0; is_atom = f.1; is_over = f.2 }
reads_seen (a_union name qs) n e =
    let g = some_one (λ q. reads q n ≡ true) qs (Any-from_list_any (λ q. reads q n) qs e) in
    let f = reads_query g.0 n g.2 in
    record { query = g.0; is_member = g.1; atom = f.0; is_atom = f.1; is_over = f.2 }

pub reads_back : (q : Listed) (n : Bytes) → ReadsRelation q n → listed_reads q n ≡ true
reads_back (a_query q) n r =
    let same : q ≡ r.query = only_member q r.query r.is_member in
    ap (λ (p : Query). reads p n) same ∙ query_reads r.query r.atom n r.is_atom r.is_over
reads_back (a_union name qs) n r =
    any_there (λ q. reads q n) qs r.query r.is_member (query_reads r.query r.atom n r.is_atom r.is_over)

-- ---- one row

module _ (old new : Store) (name : Bytes) (row : Tuple) (n : ℕ) (counted : Bool) (h : LeavesCopies old name row n counted new)
  where
    -- another row has as many copies as before
    other_copies : (r : Bytes) (t : Tuple) → (bytes_eq name r && tuple_eq row t) ≡ false
        → database_of new.relations r t ≡ database_of old.relations r t
    other_copies r t e = h.others r t (ap (λ b. b && tuple_eq row t) (both_ways r name) ∙ e)

    pub set_seen : (m : ℕ) → m ≡ n
        → copies_set (database_of old.relations) name row m ≡ database_of new.relations
    set_seen m is = λ i. λ r. λ t. each r t i
      where
        each : (r : Bytes) (t : Tuple) → copies_set (database_of old.relations) name row m r t
            ≡ database_of new.relations r t
        each r t = by (bytes_eq name r && tuple_eq row t) refl
          where
            by : (b : Bool) → (bytes_eq name r && tuple_eq row t) ≡ b → cond b m (database_of old.relations r t)
                ≡ database_of new.relations r t
            by true e =
                let both = and_parts (bytes_eq name r) (tuple_eq row t) e in
                is ∙ sym h.row_has ∙ ap₂ (λ (a : Bytes) (u : Tuple). database_of new.relations a u)
                (same_name name r both.0) ((tuple_eq-decides row t).0 both.1)
            by false e = sym (other_copies r t e)

    -- only this row may change
    pub changed_row : (r : Bytes) (t : Tuple)
        → IsRowChanged (database_of old.relations) (database_of new.relations) r t → name ≡ r
    changed_row r t c = by (bytes_eq name r && tuple_eq row t) refl
      where
        by : (b : Bool) → (bytes_eq name r && tuple_eq row t) ≡ b → name ≡ r
        by true e = same_name name r (and_parts (bytes_eq name r) (tuple_eq row t) e).0
        by false e = absurd (c (ap (λ k. nat_lt 0 k) (sym (other_copies r t e))))

    -- where it is present as before, none does
    pub unchanged_rows : nat_lt 0 (copies_of old name row) ≡ nat_lt 0 n → (r : Bytes) (t : Tuple)
        → is_present (database_of old.relations) r t ≡ is_present (database_of new.relations) r t
    unchanged_rows same r t = by (bytes_eq name r && tuple_eq row t) refl
      where
        by : (b : Bool) → (bytes_eq name r && tuple_eq row t) ≡ b
            → is_present (database_of old.relations) r t ≡ is_present (database_of new.relations) r t
        by true e =
            let both = and_parts (bytes_eq name r) (tuple_eq row t) e in
            let relation = same_name name r both.0 in
            let tuple = (tuple_eq-decides row t).0 both.1 in
            ap₂ (λ (a : Bytes) (u : Tuple). is_present (database_of old.relations) a u) (sym relation) (sym tuple)
            ∙ same ∙ ap (λ k. nat_lt 0 k) (sym h.row_has)
            ∙ ap₂ (λ (a : Bytes) (u : Tuple). is_present (database_of new.relations) a u) relation tuple
        by false e = ap (λ k. nat_lt 0 k) (sym (other_copies r t e))

    -- where it isn't, it does, and the queries that read its relation are affected
    module _ (turned : nat_lt 0 (copies_of old name row) ≢ nat_lt 0 n) where
      row_changed : IsRowChanged (database_of old.relations) (database_of new.relations) name row
      row_changed same = turned (same ∙ ap (λ k. nat_lt 0 k) h.row_has)

      pub rows_changed_by : AreRowsChanged (database_of old.relations) (database_of new.relations)
      rows_changed_by = (name, row, row_changed)

      pub affects_by : (q : Listed) → (is_some (by_relation name q) ≡ true)
          ↔ IsAffected (database_of old.relations) (database_of new.relations) q
      affects_by q = (
        λ e. (name, row, reads_seen q name (sym (some_if (listed_reads q name) name) ∙ e), row_changed),
        λ a. some_if (listed_reads q name) name ∙ reads_back q name
            (subst (λ (r : Bytes). ReadsRelation q r) (sym (changed_row a.0 a.1 a.3)) a.2),
      )

-- ---- lines

-- the copies that lines leave, one line more
leave_more : (front : List HeldLine) (h : HeldLine) (r : Bytes) (t : Tuple) (n : ℕ)
    → lines_leave (front ++ h ∷ []) r t n
    ≡ cond (bytes_eq h.relation r && tuple_eq h.row t) (after_verb h.verb (lines_leave front r t n))
    (lines_leave front r t n)
leave_more [] h r t n = refl
leave_more (g ∷ gs) h r t n =
    leave_more gs h r t (cond (bytes_eq g.relation r && tuple_eq g.row t) (after_verb g.verb n) n)

-- the copies that they leave of a line's row, in the words by which they are judged
leave_as : (lines : List HeldLine) (h : HeldLine) (n : ℕ)
    → fold (λ m g. cond (same_row g h) (after_verb g.verb m) m) n lines ≡ lines_leave lines h.relation h.row n
leave_as [] h n = refl
leave_as (g ∷ gs) h n = leave_as gs h (cond (same_row g h) (after_verb g.verb n) n)

pub left_after : (relations : List Relation) (lines : List HeldLine) (h : HeldLine)
    → copies_after relations lines h ≡ lines_leave lines h.relation h.row (database_of relations h.relation h.row)
left_after relations lines h = leave_as lines h (copies_before relations h)

positive : (n : ℕ) → (n == 0) ≡ false → nat_lt 0 n ≡ true
positive zero e = absurd cc
positive (suc n) e = lt-ltb 0 (suc n) (omega arith)

one_less : (n : ℕ) → n - 1 ≡ pred n
one_less zero = refl
one_less (suc n) = omega arith

module _ (relations : List Relation) where
  -- the database after lines
  abbrev leaving : List HeldLine → Database
  leaving lines = λ r t. lines_leave lines r t (database_of relations r t)

  -- and after one line more, of this verb
  abbrev next_left : List HeldLine → HeldLine → Verb → Database
  next_left front h v = λ r t. cond (bytes_eq h.relation r && tuple_eq h.row t) (after_verb v (leaving front r t))
      (leaving front r t)

  -- a line that isn't refused edits it
  line_edited : (front : List HeldLine) (h : HeldLine) → row_refusal relations front h ≡ None
      → edited (line_edit h) (leaving front) ≡ Some (leaving (front ++ h ∷ []))
  line_edited front h free = by h.verb free ∙ ap (λ (db : Database). Some db) more
    where
      more : next_left front h h.verb ≡ leaving (front ++ h ∷ [])
      more = λ i. λ r. λ t. sym (leave_more front h r t (database_of relations r t)) i

      set_to : (v : Verb) (m : ℕ) → m ≡ after_verb v (leaving front h.relation h.row)
          → copies_set (leaving front) h.relation h.row m ≡ next_left front h v
      set_to v m is = λ i. λ r. λ t. each r t i
        where
          each : (r : Bytes) (t : Tuple) → copies_set (leaving front) h.relation h.row m r t ≡ next_left front h v r t
          each r t = at (bytes_eq h.relation r && tuple_eq h.row t) refl
            where
              at : (b : Bool) → (bytes_eq h.relation r && tuple_eq h.row t) ≡ b
                  → cond b m (leaving front r t) ≡ cond b (after_verb v (leaving front r t)) (leaving front r t)
              at true e =
                  let both = and_parts (bytes_eq h.relation r) (tuple_eq h.row t) e in
                  is ∙ ap₂ (λ (a : Bytes) (u : Tuple). after_verb v (leaving front a u))
                  (same_name h.relation r both.0) ((tuple_eq-decides h.row t).0 both.1)
              at false e = refl

      not_refused_delete : (b : Bool) → cond b (Some Absent) None
          ≡ None → b ≡ false
      not_refused_delete true e = absurd cc
      not_refused_delete false e = refl

      present : refusal_by Deletes relations front h ≡ None → is_present (leaving front) h.relation h.row ≡ true
      present k =
          positive (leaving front h.relation h.row)
          (ap (λ n. n == 0) (sym (left_after relations front h))
          ∙ not_refused_delete (copies_after relations front h == 0) k)

      by : (v : Verb) → refusal_by v relations front h ≡ None
          → edited (record { inserts = inserts_row v; relation = h.relation; row = h.row }) (leaving front)
          ≡ Some (next_left front h v)
      by Adds k = ap (λ (d : Database). Some d)
          (set_to Adds (suc (leaving front h.relation h.row)) (omega arith))
      by Deletes k =
          ap (λ b. cond b (Some (copies_set (leaving front) h.relation h.row (leaving front h.relation h.row - 1))) None)
          (present k)
          ∙ ap (λ (d : Database). Some d)
          (set_to Deletes (leaving front h.relation h.row - 1) (one_less (leaving front h.relation h.row)))

  or_first : {A : Type 0} (a b : Option A) → option_or a b ≡ None → a ≡ None
  or_first None b e = refl
  or_first (Some x) b e = absurd cc

  or_second : {A : Type 0} (a b : Option A) → option_or a b ≡ None → b ≡ None
  or_second None b e = e
  or_second (Some x) b e = absurd cc

  at_none : (n : ℕ) (r : Option LineRefusal) → refused_at n r ≡ None → r ≡ None
  at_none n None e = refl
  at_none n (Some r) e = absurd cc

  edits_on : (texts : List Bytes) (front rest : List HeldLine) → refusal_behind relations texts front rest ≡ None
      → all_edited (map line_edit rest) (leaving front) ≡ Some (leaving (front ++ rest))
  edits_on texts front [] free = ap (λ ls. Some (leaving ls)) (sym (append-nil front))
  edits_on texts front (h ∷ hs) free =
      let line : line_refusal relations texts front h ≡ None = at_none (length front) (line_refusal relations texts front h)
      (or_first (refused_at (length front) (line_refusal relations texts front h))
      (refusal_behind relations texts (front ++ h ∷ []) hs) free) in
      let row : row_refusal relations front h ≡ None =
      or_first (row_refusal relations front h) (texts_refusal (texts_after texts front) h) line in
      let later : refusal_behind relations texts (front ++ h ∷ []) hs ≡ None =
      or_second (refused_at (length front) (line_refusal relations texts front h))
      (refusal_behind relations texts (front ++ h ∷ []) hs) free in
      ap (λ o. option_and_then (all_edited (map line_edit hs)) o) (line_edited front h row)
      ∙ edits_on texts (front ++ h ∷ []) hs later
      ∙ ap (λ ls. Some (leaving ls)) (append_assoc front (h ∷ []) hs)

-- ---- `done`

is_zero : (n : ℕ) → (n == 0) ≡ not (nat_lt 0 n)
is_zero zero = refl
is_zero (suc n) = ne_eqb (suc n) 0 (λ e. absurd (omega (arith, e))) ∙ ap not (sym (lt-ltb 0 (suc n) (omega arith)))

turned_differ : (a b : ℕ) → (((a == 0) && nat_lt 0 b) || (nat_lt 0 a && (b == 0))) ≡ true → nat_lt 0 a ≢ nat_lt 0 b
turned_differ a b e = by (nat_lt 0 a) (nat_lt 0 b)
    (ap₂ (λ (x y : Bool). (x && nat_lt 0 b) || (nat_lt 0 a && y)) (sym (is_zero a)) (sym (is_zero b)) ∙ e)
  where
    by : (p q : Bool) → ((not p && q) || (p && not q)) ≡ true → p ≢ q
    by true true k same = absurd cc
    by false false k same = absurd cc
    by true false k same = absurd cc
    by false true k same = absurd cc

find_some : {A : Type 0} (p : A → Bool) (xs : List A) (x : A) → Contains xs x → p x ≡ true → is_some (find p xs) ≡ true
find_some p [] x c e = absurd (nothing_there x c)
find_some p (y ∷ ys) x c e = by (p y) refl (first_or_later y ys x c) (λ k. find_some p ys x k e)
  where
    by : (b : Bool) → p y ≡ b → (y ≡ x) ⊎ Contains ys x → (Contains ys x → is_some (find p ys) ≡ true)
        → is_some (cond b (Some y) (find p ys)) ≡ true
    by true k o more = refl
    by false k (inl same) more = let there : p y ≡ true = ap p same ∙ e in absurd (cc (there, k))
    by false k (inr c) more = more c

some_found : {A : Type 0} (o : Option A) → is_some o ≡ true → (x : A) × (o ≡ Some x)
some_found None e = absurd cc
some_found (Some x) e = (x, refl)

module _ (old : Store) (sound : IsSoundStore old) (lines : List HeldLine) (suit : SuitAll old lines) (given : Option ℕ)
    (n : ℕ) (new : Store) (after : IsSoundStore new) (done : DoesAll old lines given (Ok n) new) where
  leaves : LeavesLines old lines new
  leaves = lines_leave_copies old sound lines suit given n new done

  lines_left : leaving old.relations lines ≡ database_of new.relations
  lines_left = λ i. λ r. λ t. sym (leaves.each r t) i

  -- its lines edit the database
  pub lines_edited : all_edited (map line_edit lines) (database_of old.relations) ≡ Some (database_of new.relations)
  lines_edited =
      edits_on old.relations old.texts [] lines (not_refused old lines given done.answer).0
      ∙ ap (λ (db : Database). Some db) lines_left

  -- a line whose row comes or goes
  turned_line : (h : HeldLine) → (line_comes old.relations lines h || line_goes old.relations lines h) ≡ true
      → IsRowChanged (database_of old.relations) (database_of new.relations) h.relation h.row
  turned_line h e =
      turned_differ (copies_of old h.relation h.row) (copies_of new h.relation h.row)
      (ap (λ m. ((copies_of old h.relation h.row == 0) && nat_lt 0 m)
      || (nat_lt 0 (copies_of old h.relation h.row) && (m == 0)))
      (leaves.each h.relation h.row ∙ sym (left_after old.relations lines h)) ∙ e)

  same_rows : (r : Bytes) (t : Tuple) → rows_of (relations_after old.relations lines) r ≡ rows_of old.relations r
      → is_present (database_of old.relations) r t ≡ is_present (database_of new.relations) r t
  same_rows r t e =
      sym (present_row old sound r t) ∙ ap (λ rows. has_row rows t) (sym e)
      ∙ ap (λ (rs : List Relation). has_row (rows_of rs r) t) (sym (ap (λ (k : Store). k.relations) done.does.1))
      ∙ present_row new after r t

  -- where no row comes or goes, each is present as before
  pub lines_unchanged : rows_changed old.relations lines ≡ 0 → (r : Bytes) (t : Tuple)
      → is_present (database_of old.relations) r t ≡ is_present (database_of new.relations) r t
  lines_unchanged none r t = same_rows r t (rows_unchanged old lines done.counted none r)

  -- where some does, some row changes
  pub lines_changed : new.seq ≡ suc old.seq → AreRowsChanged (database_of old.relations) (database_of new.relations)
  lines_changed more = by (list_any (has_turned old new) lines) refl
    where
      by : (b : Bool) → list_any (has_turned old new) lines ≡ b
          → AreRowsChanged (database_of old.relations) (database_of new.relations)
      by true e =
          let f = some_one (λ h. has_turned old new h ≡ true) lines (Any-from_list_any (has_turned old new) lines e) in (
            (f.0).relation,
            (f.0).row,
            turned_differ (copies_of old (f.0).relation (f.0).row) (copies_of new (f.0).relation (f.0).row) f.2,
          )
      by false e =
          let same : new.seq ≡ old.seq = leaves.counted ∙ ap (λ b. cond b (old.seq + 1) old.seq) e in
          absurd (omega (arith, same, more))

  abbrev line_names : List Bytes
  line_names = map (λ (h : HeldLine). h.relation) lines

  abbrev is_read : Listed → Bytes → Bool
  is_read q name = has_changed old.relations lines name && listed_reads q name

  -- and the queries are affected that the change outdates
  pub lines_affect : (q : Listed) → (is_some (first_read lines (has_changed old.relations lines) q) ≡ true)
      ↔ IsAffected (database_of old.relations) (database_of new.relations) q
  lines_affect q = (to, back)
    where
      to : is_some (first_read lines (has_changed old.relations lines) q) ≡ true
          → IsAffected (database_of old.relations) (database_of new.relations) q
      to e =
          let f = some_found (find (is_read q) line_names) e in
          let both = and_parts (has_changed old.relations lines f.0) (listed_reads q f.0) (found_passes (is_read q) line_names f.0 f.1) in
          let g = some_one (λ (h : HeldLine). (bytes_eq h.relation f.0
          && (line_comes old.relations lines h || line_goes old.relations lines h)) ≡ true) lines
          (Any-from_list_any (λ (h : HeldLine). bytes_eq h.relation f.0
          && (line_comes old.relations lines h || line_goes old.relations lines h)) lines both.0) in
          let parts = and_parts (bytes_eq (g.0).relation f.0)
          (line_comes old.relations lines g.0 || line_goes old.relations lines g.0) g.2 in (
            (g.0).relation,
            (g.0).row,
            reads_seen q (g.0).relation (ap (λ n. listed_reads q n) (same_name (g.0).relation f.0 parts.0) ∙ both.1),
            turned_line g.0 parts.1,
          )

      back : IsAffected (database_of old.relations) (database_of new.relations) q
          → is_some (first_read lines (has_changed old.relations lines) q) ≡ true
      back a = by (has_changed old.relations lines a.0) refl
        where
          by : (b : Bool) → has_changed old.relations lines a.0 ≡ b
              → is_some (first_read lines (has_changed old.relations lines) q) ≡ true
          by true e = find_some (is_read q) line_names a.0 (changed_named old.relations lines a.0 e)
              (and_from (has_changed old.relations lines a.0) (listed_reads q a.0) e (reads_back q a.0 a.2))
          by false e = absurd (a.3 (same_rows a.0 a.1 (rows_rest old lines done.counted a.0 e)))
