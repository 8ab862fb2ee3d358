-- What the groups of lines' rows are to the relations.
use Rattle.std.specs.Prelude.{ℕ, List, [], ◌∷◌, ◌≡◌, ◌≢◌, ◌⊎◌, ◌&&◌, ◌||◌, ◌+◌, ◌++◌, ◌<◌, ◌≤◌, Bool, true, false, cond}
use Rattle.std.specs.Prelude.{Some, fold, length, map, filter, sum_by, slice_get, All, AllPairs, Contains}
use Rattle.std.specs.List.{list_any}
use Rattle.std.proofs.Common.{refl, sym, ap, ap₂, ◌∙◌, subst, inl, inr, arith}
use Rattle.std.proofs.lemmas.Bool.{false≢true, false_from_ne_true}
use Rattle.std.proofs.lemmas.List.{length-map}
use Rattle.std.proofs.lemmas.List.Elements.{All-head, All-tail, All-nil, All-map, All-contains}
use Rattle.std.proofs.lemmas.List.Folds.{find_at, list_any-append, list_any-from_Any, Any-from_list_any}
use Rattle.std.proofs.lemmas.List.Sums.{sum_by-cons}
use Rattle.std.proofs.lemmas.Option.{slice_get_within, slice_get-get_or}
use Rattle.djq_model.specs.declared.relation.Relation.{Relation}
use Rattle.djq_model.specs.Data.{Bytes, bytes_eq}
use Rattle.djq_model.specs.Equality.{bytes_eq-decides}
use Rattle.djq_answer_laws.proofs.Lists.{first_holds, first_or_later, later_there, first_there, some_one, one_there, hold_each}
use Rattle.djq_answer_laws.proofs.Lists.{kept_there, same_tests, pairs_head, pairs_tail, nothing_there}
use Rattle.djq_database.specs.Catalog.{no_relation, relation_at}
use Rattle.djq_database.specs.Cells.{cells_of}
use Rattle.djq_reach.specs.declared.group.Group.{Group}
use Rattle.djq_reach.specs.Places.{is_reader, AreOnce}
use Rattle.djq_reach.specs.Grouping.{group_relations, rows_of_groups}
use Rattle.djq_store_spec.specs.Held.{HeldLine}
use Rattle.djq_store_spec.specs.Lines.{first_lines, line_comes, line_goes, lines_come, lines_go}
use Rattle.djq_store_spec.specs.Transaction.{has_inserted, has_deleted}
use Rattle.djq_transaction.specs.declared.net.Copies.{Copies}
use Rattle.djq_transaction.specs.LookUp.{AreSame}
use Rattle.djq_transaction.specs.Net.{relation_place, copies_came, copies_went, Suits}
use Rattle.djq_transaction.specs.Grouped.{with_relation_named, relations_named, cells_in_relation, grouped_in, grouped_rows}
use Rattle.djq_transaction.proofs.Adding.{first_among}
use Rattle.djq_transaction.proofs.FirstLines.{lines_named}
use Rattle.djq_transaction.proofs.Grouping.{IsFound, places_tell}
use Rattle.djq_transaction.proofs.NamedRelations.{is_named, there_named, named_once, named_hold}
use Rattle.djq_transaction.proofs.NamedRows.{place_is}
use Rattle.djq_transaction.proofs.Places.{same_copies}
use Rattle.djq_transaction.proofs.SettledLines.{second_true}

-- ---- which names lines name

-- whether one of these lines is of the relation
abbrev pub is_of_one : Bytes → List HeldLine → Bool
is_of_one name hs = list_any (λ h. bytes_eq h.relation name) hs

one_named : (name : Bytes) (names : List Bytes) (h : HeldLine)
    → is_named name (with_relation_named names h) ≡ (is_named name names || bytes_eq h.relation name)
one_named name names h = by (is_named h.relation names) refl
  where
    known : (b : Bool) → bytes_eq h.relation name ≡ b → is_named h.relation names ≡ true
        → is_named name names ≡ (is_named name names || b)
    known false e k = or_none (is_named name names)
      where
        or_none : (a : Bool) → a ≡ (a || false)
        or_none true = refl
        or_none false = refl
    known true e k =
        let yes : is_named name names ≡ true =
        ap (λ (n : Bytes). is_named n names) (sym ((bytes_eq-decides h.relation name).0 e)) ∙ k in
        yes ∙ ap (λ (a : Bool). a || true) (sym yes)

    by : (b : Bool) → is_named h.relation names ≡ b
        → is_named name (cond b names (names ++ h.relation ∷ [])) ≡ (is_named name names || bytes_eq h.relation name)
    by true e = known (bytes_eq h.relation name) refl e
    by false e = list_any-append (λ (m : Bytes). bytes_eq m name) names (h.relation ∷ [])
        ∙ ap (λ (b : Bool). is_named name names || b) (last (bytes_eq h.relation name))
      where
        last : (b : Bool) → (b || false) ≡ b
        last true = refl
        last false = refl

all_named : (name : Bytes) (names : List Bytes) (hs : List HeldLine)
    → is_named name (fold with_relation_named names hs) ≡ (is_named name names || is_of_one name hs)
all_named name names [] = or_none (is_named name names)
  where
    or_none : (a : Bool) → a ≡ (a || false)
    or_none true = refl
    or_none false = refl
all_named name names (h ∷ hs) =
    all_named name (with_relation_named names h) hs
    ∙ ap (λ (b : Bool). b || is_of_one name hs) (one_named name names h)
    ∙ or_again (is_named name names) (bytes_eq h.relation name) (is_of_one name hs)
  where
    or_again : (a b c : Bool) → ((a || b) || c) ≡ (a || (b || c))
    or_again true b c = refl
    or_again false b c = refl

pub named_is : (name : Bytes) (hs : List HeldLine) → is_named name (relations_named hs) ≡ is_of_one name hs
named_is name hs = all_named name [] hs

-- ---- the rows of all names

-- a name that isn't there counts nothing, and one that is there counts once
none_in : (h : HeldLine) (names : List Bytes) → All (λ n. h.relation ≢ n) names
    → sum_by (λ n. cond (bytes_eq h.relation n) 1 0) names ≡ 0
none_in h [] d = refl
none_in h (n ∷ ns) d =
    sum_by-cons (λ m. cond (bytes_eq h.relation m) 1 0) n ns
    ∙ ap₂ (λ (b : Bool) (k : ℕ). cond b 1 0 + k)
    (false_from_ne_true (bytes_eq h.relation n) (λ e.
    All-head (λ (m : Bytes). h.relation ≢ m) n ns d ((bytes_eq-decides h.relation n).0 e)))
    (none_in h ns (All-tail (λ (m : Bytes). h.relation ≢ m) n ns d))

once_in : (h : HeldLine) (names : List Bytes) → AllPairs (λ m n. m ≢ n) names → is_named h.relation names ≡ true
    → sum_by (λ n. cond (bytes_eq h.relation n) 1 0) names ≡ 1
once_in h [] d e = absurd (false≢true e)
once_in h (n ∷ ns) d e =
    sum_by-cons (λ m. cond (bytes_eq h.relation m) 1 0) n ns
    ∙ by (bytes_eq n h.relation) refl e (λ k. once_in h ns (pairs_tail (λ (x y : Bytes). x ≢ y) n ns d) k)
  where
    by : (b : Bool) → bytes_eq n h.relation ≡ b → (b || is_named h.relation ns) ≡ true
        → (is_named h.relation ns ≡ true → sum_by (λ m. cond (bytes_eq h.relation m) 1 0) ns ≡ 1)
        → cond (bytes_eq h.relation n) 1 0 + sum_by (λ m. cond (bytes_eq h.relation m) 1 0) ns ≡ 1
    by true k f more =
        let same : n ≡ h.relation = (bytes_eq-decides n h.relation).0 k in
        ap₂ (λ (b : Bool) (j : ℕ). cond b 1 0 + j) ((bytes_eq-decides h.relation n).1 (sym same))
        (none_in h ns (subst (λ (x : Bytes). All (λ m. x ≢ m) ns) same (pairs_head (λ (x y : Bytes). x ≢ y) n ns d)))
    by false k f more =
        ap₂ (λ (b : Bool) (j : ℕ). cond b 1 0 + j)
        (false_from_ne_true (bytes_eq h.relation n) (λ e.
        let yes : bytes_eq n h.relation ≡ true =
        (bytes_eq-decides n h.relation).1 (sym ((bytes_eq-decides h.relation n).0 e)) in
        false≢true (sym k ∙ yes))) (more f)

-- how many of these lines are of a relation
abbrev count_in : List HeldLine → Bytes → ℕ
count_in hs name = length (filter (λ h. bytes_eq h.relation name) hs)

more_in : (h : HeldLine) (hs : List HeldLine) (names : List Bytes)
    → sum_by (count_in (h ∷ hs)) names
    ≡ sum_by (λ n. cond (bytes_eq h.relation n) 1 0) names + sum_by (count_in hs) names
more_in h hs [] = refl
more_in h hs (n ∷ ns) =
    let one = one_more (bytes_eq h.relation n) in
    omega (
      arith,
      one,
      more_in h hs ns,
      sum_by-cons (count_in (h ∷ hs)) n ns,
      sum_by-cons (count_in hs) n ns,
      sum_by-cons (λ m. cond (bytes_eq h.relation m) 1 0) n ns,
    )
  where
    one_more : (b : Bool) → length (cond b (h ∷ filter (λ g. bytes_eq g.relation n) hs)
        (filter (λ g. bytes_eq g.relation n) hs)) ≡ cond b 1 0 + count_in hs n
    one_more true = omega arith
    one_more false = omega arith

none_counted : (names : List Bytes) → sum_by (count_in []) names ≡ 0
none_counted [] = refl
none_counted (n ∷ ns) = omega (arith, sum_by-cons (count_in []) n ns, none_counted ns)

all_counted : (hs : List HeldLine) (names : List Bytes) → AllPairs (λ m n. m ≢ n) names
    → All (λ h. is_named h.relation names ≡ true) hs → sum_by (count_in hs) names ≡ length hs
all_counted [] names d k = none_counted names
all_counted (h ∷ hs) names d k = omega (
  arith,
  more_in h hs names,
  once_in h names d (All-head (λ (g : HeldLine). is_named g.relation names ≡ true) h hs k),
  all_counted hs names d (All-tail (λ (g : HeldLine). is_named g.relation names ≡ true) h hs k),
)

-- ---- the groups

module _ (relations : List Relation) (texts : List Bytes) (hs : List HeldLine) (suit : All (Suits relations) hs) where
  abbrev in_order : List Bytes → List Group
  in_order names = map (grouped_in relations texts hs) names

  pub names_differ : AllPairs (λ m n. m ≢ n) (relations_named hs)
  names_differ = named_once [] hs (λ i j x less within. absurd (omega (arith, within)))

  pub names_found : All (IsFound relations) (relations_named hs)
  names_found = named_hold (IsFound relations) [] hs (All-nil (IsFound relations))
      (hold_each (λ (g : HeldLine). IsFound relations g.relation) hs
      (λ g k. let s = All-contains (Suits relations) hs g suit k in (s.relation, s.found)))

  pub place_below : (name : Bytes) → IsFound relations name → relation_place relations name < length relations
  place_below name f = slice_get_within relations (relation_place relations name) f.0
      (sym (find_at (λ (r : Relation). bytes_eq r.name name) relations) ∙ f.1)

  pub groups_within : All (λ g. g.relation.at < length relations) (grouped_rows relations texts hs)
  groups_within = All-map (λ (g : Group). g.relation.at < length relations) (grouped_in relations texts hs)
      (relations_named hs) (hold_each (λ (n : Bytes). relation_place relations n < length relations) (relations_named hs)
      (λ n k. place_below n (All-contains (IsFound relations) (relations_named hs) n names_found k)))

  -- the group of a relation is there if it is named
  reader_is : (names : List Bytes) (name : Bytes) → All (IsFound relations) names → IsFound relations name
      → is_reader (group_relations (in_order names)) (relation_place relations name) ≡ is_named name names
  reader_is [] name f g = refl
  reader_is (n ∷ ns) name f g = ap₂ (λ (a b : Bool). a || b)
      (places_tell relations n name (All-head (IsFound relations) n ns f) g)
      (reader_is ns name (All-tail (IsFound relations) n ns f) g)

  once_each : (names : List Bytes) → AllPairs (λ m n. m ≢ n) names → All (IsFound relations) names
      → AreOnce (group_relations (in_order names))
  once_each [] d f = tt
  once_each (n ∷ ns) d f = (
    reader_is ns n (All-tail (IsFound relations) n ns f) (All-head (IsFound relations) n ns f)
        ∙ false_from_ne_true (is_named n ns) (λ e. elsewhere ns e (pairs_head (λ (x y : Bytes). x ≢ y) n ns d)),
    once_each ns (pairs_tail (λ (x y : Bytes). x ≢ y) n ns d) (All-tail (IsFound relations) n ns f),
  )
    where
      elsewhere : (ms : List Bytes) → is_named n ms ≡ true → All (λ m. n ≢ m) ms → ⊥
      elsewhere ms e apart =
          let o = some_one (λ (m : Bytes). bytes_eq m n ≡ true) ms
          (Any-from_list_any (λ (m : Bytes). bytes_eq m n) ms e) in
          All-contains (λ (m : Bytes). n ≢ m) ms o.0 apart o.1 (sym ((bytes_eq-decides o.0 n).0 o.2))

  pub groups_once : AreOnce (group_relations (grouped_rows relations texts hs))
  groups_once = once_each (relations_named hs) names_differ names_found

  pub groups_there : AllPairs (λ r s. r.name ≢ s.name) relations → (r : ℕ) → r < length relations
      → is_reader (group_relations (grouped_rows relations texts hs)) r ≡ is_of_one (relation_at relations r).name hs
  groups_there differ r low =
      let name = (relation_at relations r).name in
      let place : relation_place relations name ≡ r = place_is relations name r differ low refl in
      let found : IsFound relations name = (
        relation_at relations r,
        find_at (λ (q : Relation). bytes_eq q.name name) relations
            ∙ ap (λ (k : ℕ). slice_get relations k) place
            ∙ there r low,
      ) in
      ap (λ (k : ℕ). is_reader (group_relations (grouped_rows relations texts hs)) k) (sym place)
      ∙ reader_is (relations_named hs) name names_found found ∙ named_is name hs
    where
      there : (k : ℕ) → k < length relations → slice_get relations k ≡ Some (relation_at relations k)
      there k low = slice_get-get_or relations k no_relation low

  pub groups_rows : rows_of_groups (grouped_rows relations texts hs) ≡ length hs
  groups_rows =
      each (relations_named hs)
      ∙ all_counted hs (relations_named hs) names_differ
      (hold_each (λ (h : HeldLine). is_named h.relation (relations_named hs) ≡ true) hs
      (λ h k. named_is h.relation hs ∙ list_any-from_Any (λ (g : HeldLine). bytes_eq g.relation h.relation) hs
      (one_there (λ (g : HeldLine). bytes_eq g.relation h.relation ≡ true) hs h k
      ((bytes_eq-decides h.relation h.relation).1 refl))))
    where
      each : (names : List Bytes) → rows_of_groups (in_order names) ≡ sum_by (count_in hs) names
      each [] = refl
      each (n ∷ ns) =
          sum_by-cons (λ (g : Group). length g.rows) (grouped_in relations texts hs n) (in_order ns)
          ∙ ap₂ (λ (a b : ℕ). a + b)
          (length-map (filter (λ (h : HeldLine). bytes_eq h.relation n) hs) (λ (h : HeldLine). cells_of texts h.row)) (each ns)
          ∙ sym (sum_by-cons (count_in hs) n ns)

  pub groups_some : All (λ g. 1 ≤ length g.rows) (grouped_rows relations texts hs)
  groups_some = All-map (λ (g : Group). 1 ≤ length g.rows) (grouped_in relations texts hs) (relations_named hs)
      (hold_each (λ (n : Bytes). 1 ≤ length (cells_in_relation texts hs n)) (relations_named hs)
      (λ n k. omega (
        arith,
        length-map (filter (λ (h : HeldLine). bytes_eq h.relation n) hs) (λ (h : HeldLine). cells_of texts h.row),
        some_kept hs n (sym (named_is n hs) ∙ there_named (relations_named hs) n n k refl),
      )))
    where
      some_kept : (gs : List HeldLine) (n : Bytes) → is_of_one n gs ≡ true → 1 ≤ count_in gs n
      some_kept [] n e = absurd (false≢true e)
      some_kept (g ∷ gs) n e = by (bytes_eq g.relation n) e (λ k. some_kept gs n k)
        where
          by : (b : Bool) → (b || is_of_one n gs) ≡ true → (is_of_one n gs ≡ true → 1 ≤ count_in gs n)
              → 1 ≤ length (cond b (g ∷ filter (λ h. bytes_eq h.relation n) gs) (filter (λ h. bytes_eq h.relation n) gs))
          by true k more = omega arith
          by false k more = more k

-- ---- which relations have rows that come, or that go

-- what passes is there
pub kept_from : (p : HeldLine → Bool) (hs : List HeldLine) (h : HeldLine) → Contains (filter p hs) h → (p h ≡ true) × Contains hs h
kept_from p [] h k = absurd (nothing_there h k)
kept_from p (x ∷ xs) h k = by (p x) refl k (λ c. kept_from p xs h c)
  where
    step : p x ≡ true → (x ≡ h) ⊎ Contains (filter p xs) h → (Contains (filter p xs) h → (p h ≡ true) × Contains xs h)
        → (p h ≡ true) × Contains (x ∷ xs) h
    step e (inl is) more = (ap p (sym is) ∙ e, first_there x xs h is)
    step e (inr c) more = ((more c).0, later_there x xs h (more c).1)

    by : (b : Bool) → p x ≡ b → Contains (cond b (x ∷ filter p xs) (filter p xs)) h
        → (Contains (filter p xs) h → (p h ≡ true) × Contains xs h) → (p h ≡ true) × Contains (x ∷ xs) h
    by true e c more = step e (first_or_later x (filter p xs) h c) more
    by false e c more = ((more c).0, later_there x xs h (more c).1)

module _ (relations : List Relation) (lines : List HeldLine) (p : HeldLine → Bool)
    (same : (g h : HeldLine) → AreSame g h → p g ≡ p h) where
  pub some_pass : (name : Bytes) → is_of_one name (filter p (first_lines lines))
      ≡ list_any (λ h. bytes_eq h.relation name && p h) lines
  some_pass name = same_tests (is_of_one name (filter p (first_lines lines)))
      (list_any (λ (h : HeldLine). bytes_eq h.relation name && p h) lines) to from
    where
      to : is_of_one name (filter p (first_lines lines)) ≡ true
          → list_any (λ (h : HeldLine). bytes_eq h.relation name && p h) lines ≡ true
      to e =
          let o = some_one (λ (h : HeldLine). bytes_eq h.relation name ≡ true) (filter p (first_lines lines))
          (Any-from_list_any (λ (h : HeldLine). bytes_eq h.relation name) (filter p (first_lines lines)) e) in
          let k = kept_from p (first_lines lines) o.0 o.1 in
          list_any-from_Any (λ (h : HeldLine). bytes_eq h.relation name && p h) lines
          (one_there (λ (h : HeldLine). (bytes_eq h.relation name && p h) ≡ true) lines o.0 (first_among lines o.0 k.1)
          (ap₂ (λ (a b : Bool). a && b) o.2 k.0))

      from : list_any (λ (h : HeldLine). bytes_eq h.relation name && p h) lines ≡ true
          → is_of_one name (filter p (first_lines lines)) ≡ true
      from e =
          let o = some_one (λ (h : HeldLine). (bytes_eq h.relation name && p h) ≡ true) lines
          (Any-from_list_any (λ (h : HeldLine). bytes_eq h.relation name && p h) lines e) in
          let f = some_one (λ (g : HeldLine). AreSame g o.0) (first_lines lines) (lines_named lines o.0 o.1) in
          list_any-from_Any (λ (h : HeldLine). bytes_eq h.relation name) (filter p (first_lines lines))
          (one_there (λ (h : HeldLine). bytes_eq h.relation name ≡ true) (filter p (first_lines lines)) f.0
          (kept_there p (first_lines lines) f.0
          (same f.0 o.0 f.2 ∙ second_true (bytes_eq o.0.relation name) (p o.0) o.2) f.1)
          (ap (λ (n : Bytes). bytes_eq n name) f.2.relation ∙ first_holds (bytes_eq o.0.relation name) (p o.0) o.2))

pub inserted_is : (relations : List Relation) (lines : List HeldLine) (name : Bytes)
    → is_of_one name (lines_come relations lines) ≡ has_inserted relations lines name
inserted_is relations lines name = some_pass relations lines (line_comes relations lines)
    (λ g h s. ap (λ (c : Copies). copies_came c) (same_copies relations lines g h s)) name

pub deleted_is : (relations : List Relation) (lines : List HeldLine) (name : Bytes)
    → is_of_one name (lines_go relations lines) ≡ has_deleted relations lines name
deleted_is relations lines name = some_pass relations lines (line_goes relations lines)
    (λ g h s. ap (λ (c : Copies). copies_went c) (same_copies relations lines g h s)) name
