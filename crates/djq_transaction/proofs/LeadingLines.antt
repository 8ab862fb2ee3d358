-- The rows that lines insert lead to the relations between, and those that they delete from there.
use Rattle.std.specs.Prelude.{ℕ, List, [], ◌∷◌, ◌≡◌, ◌≢◌, ◌==◌, ◌&&◌, ◌||◌, ◌<◌, ◌≤◌, Bool, true, false, not, cond}
use Rattle.std.specs.Prelude.{Some, fold, filter, length, map, nat_lt, slice_get, All, AllPairs, Contains}
use Rattle.std.specs.List.{list_any}
use Rattle.std.proofs.Common.{◌++◌, get_or, refl, sym, ap, ◌∙◌, subst, arith, append-nil}
use Rattle.std.proofs.lemmas.List.{get_or_default}
use Rattle.std.proofs.lemmas.Bool.{false≢true, false_from_ne_true, eqb-true, ltb-true, or_parts}
use Rattle.std.proofs.lemmas.List.Elements.{All-head, All-tail, All-nil, All-map, All-contains, All-filter}
use Rattle.std.proofs.lemmas.List.Elements.{All-contains_itself}
use Rattle.std.proofs.lemmas.List.Folds.{find_at}
use Rattle.std.proofs.lemmas.List.Kept.{AllPairs-cons, AllPairs-filter}
use Rattle.std.proofs.lemmas.Option.{slice_get-get_or, get_or_from_slice_get}
use Rattle.djq_model.specs.declared.relation.Relation.{Relation}
use Rattle.djq_model.specs.Answer.{AreDifferent}
use Rattle.djq_model.specs.Data.{Bytes, Tuple, bytes_eq, counted_in, counted_of, rows_of, has_row, plain_of}
use Rattle.djq_model.specs.Data.{without_row, without_copies}
use Rattle.djq_model.specs.Equality.{bytes_eq-decides}
use Rattle.djq_model.proofs.Copies.{no_copies}
use Rattle.djq_answer_laws.specs.Growing.{HaveRows}
use Rattle.djq_answer_laws.proofs.Lists.{first_holds, kept_hold, hold_each, pairs_head, pairs_tail, row_there}
use Rattle.djq_database.specs.Catalog.{Catalog, IsCatalog, no_relation, relation_at, counted_at, rows_at, StandForRow}
use Rattle.djq_database.specs.Catalog.{with_rows_at}
use Rattle.djq_database.specs.Cells.{HaveCells, cells_of}
use Rattle.djq_leaves.specs.Changes.{StandForRows, without_rows}
use Rattle.djq_reach.specs.declared.group.Group.{Group}
use Rattle.djq_reach.specs.Places.{is_reader}
use Rattle.djq_reach.specs.Grouping.{ComesBy, group_relations}
use Rattle.djq_queries.specs.Going.{GoesBy}
use Rattle.djq_store_spec.specs.Relations.{with_rows}
use Rattle.djq_store_spec.proofs.Relations.{counted_apart}
use Rattle.djq_store_spec.specs.Held.{HeldLine}
use Rattle.djq_store_spec.specs.Lines.{copies_before, copies_after, line_comes, line_goes, lines_come, lines_go, first_lines}
use Rattle.djq_store_spec.specs.Lines.{with_so_many, with_copies_left, relations_between, relations_after}
use Rattle.djq_store_spec.specs.Transaction.{has_inserted, has_deleted}
use Rattle.djq_transaction.specs.declared.net.Net.{Net}
use Rattle.djq_transaction.specs.Applied.{IsJudged, headings}
use Rattle.djq_transaction.specs.LookUp.{AreSame}
use Rattle.djq_transaction.specs.Grouped.{grouped_in, grouped_rows, relations_named, inserted_groups, deleted_groups}
use Rattle.djq_transaction.specs.Net.{relation_place, Suits}
use Rattle.djq_transaction.specs.Leading.{HasHeadings, HeadingsStay, LinesLead, LinesGroup, LeftRows, LeftIsAfter}
use Rattle.djq_transaction.specs.Leading.{ChangedIsEither, LinesSpareOthers, CatalogsHaveCopies, relations_left, catalog_between}
use Rattle.djq_transaction.specs.Leading.{catalog_left, catalog_after, AreGroupsOf}
use Rattle.djq_transaction.proofs.FirstLines.{AreApart}
use Rattle.djq_transaction.proofs.Entries.{all_apart}
use Rattle.djq_transaction.proofs.Headings.{headings_all, headings_with, same_at, same_length, row_at}
use Rattle.djq_transaction.proofs.NamedRows.{found_named, place_is}
use Rattle.djq_transaction.proofs.Applying.{row_stays, set_by_name}
use Rattle.djq_transaction.proofs.Grouping.{IsFound}
use Rattle.djq_transaction.proofs.Joining.{came_stays}
use Rattle.djq_transaction.proofs.InsertedRows.{rows_inserted, some_copies, come_apart}
use Rattle.djq_transaction.proofs.RemovedRows.{all_removed, rows_removed, come_others}
use Rattle.djq_transaction.proofs.SettledLines.{lines_insert, second_true}
use Rattle.djq_transaction.proofs.FewerRows.{kept_without}
use Rattle.djq_transaction.proofs.CatalogSteps.{HasCome, HasGone, catalog_with, leads_in, leads_out}
use Rattle.djq_transaction.proofs.LineGroups.{is_of_one, names_found, place_below, groups_within, groups_once, groups_there}
use Rattle.djq_transaction.proofs.LineGroups.{groups_rows, groups_some, kept_from, inserted_is, deleted_is}

-- ---- relations by their headings

pub with_headings : (c d : Catalog) → d.texts ≡ c.texts → headings d.relations ≡ headings c.relations → HasHeadings c d
with_headings c d texts e = record {
  texts = texts;
  long = same_length d.relations c.relations e;
  named = λ r. same_at (λ (x : Relation). x.name) d.relations c.relations r (λ x. refl) e;
  typed = λ r. same_at (λ (x : Relation). x.types) d.relations c.relations r (λ x. refl) e;
}

heads_between : (base : List Relation) (lines : List HeldLine) → headings (relations_between base lines) ≡ headings base
heads_between base lines = headings_all base lines base (lines_come base lines)

heads_left : (base : List Relation) (lines : List HeldLine) → headings (relations_left base lines) ≡ headings base
heads_left base lines = headings_all base lines (relations_between base lines) (lines_go base lines)
    ∙ heads_between base lines

heads_after : (base : List Relation) (lines : List HeldLine) → headings (relations_after base lines) ≡ headings base
heads_after base lines = headings_all base lines base (first_lines lines)

pub headings_stay : HeadingsStay
headings_stay c lines = (
  with_headings c (catalog_between c lines) refl (heads_between c.relations lines),
  with_headings c (catalog_left c lines) refl (heads_left c.relations lines),
  with_headings c (catalog_after c lines) refl (heads_after c.relations lines),
)

-- names differ if those of other relations with the same headings do
differ_too : (a b : List Relation) → headings b ≡ headings a → AllPairs (λ r s. r.name ≢ s.name) a
    → AllPairs (λ r s. r.name ≢ s.name) b
differ_too a b e d i j x less within same =
    let long = same_length b a e in
    d i j no_relation less (omega (arith, within, long))
    (sym (same_at (λ (r : Relation). r.name) b a i (λ r. refl) e)
    ∙ sym (named i (omega (arith, less, within))) ∙ same ∙ named j within
    ∙ same_at (λ (r : Relation). r.name) b a j (λ r. refl) e)
  where
    named : (k : ℕ) → k < length b → (get_or b k x).name ≡ (relation_at b k).name
    named k low = ap (λ (r : Relation). r.name) (get_or_default b k x no_relation low)

-- the rows under a relation's name are those at its place
counted_there : (rs : List Relation) (name : Bytes) (at : ℕ) → AllPairs (λ r s. r.name ≢ s.name) rs → at < length rs
    → (relation_at rs at).name ≡ name → counted_of rs name ≡ counted_at rs at
counted_there rs name at differ low named =
    ap counted_in (find_at (λ (r : Relation). bytes_eq r.name name) rs
    ∙ ap (λ (k : ℕ). slice_get rs k) (place_is rs name at differ low named)
    ∙ slice_get-get_or rs at no_relation low)

-- the name of a relation that is found, at its place
named_there : (rs : List Relation) (name : Bytes) → IsFound rs name → (relation_at rs (relation_place rs name)).name ≡ name
named_there rs name f =
    let at = relation_place rs name in
    let there : slice_get rs at ≡ Some f.0 = sym (find_at (λ (r : Relation). bytes_eq r.name name) rs) ∙ f.1 in
    ap (λ (r : Relation). r.name) (get_or_from_slice_get rs at f.0 no_relation there) ∙ found_named rs name f.0 f.1

-- ---- relations that no line is of

other_way : (m n : Bytes) → bytes_eq m n ≡ false → bytes_eq n m ≡ false
other_way m n e = false_from_ne_true (bytes_eq n m) (λ k.
    let yes : bytes_eq m n ≡ true = (bytes_eq-decides m n).1 (sym ((bytes_eq-decides n m).0 k)) in
    false≢true (sym e ∙ yes))

counted_others : (base : List Relation) (lines : List HeldLine) (now : List Relation) (hs : List HeldLine) (name : Bytes)
    → is_of_one name hs ≡ false → counted_of (fold (with_copies_left base lines) now hs) name ≡ counted_of now name
counted_others base lines now [] name e = refl
counted_others base lines now (h ∷ hs) name e =
    let parts = or_parts (bytes_eq h.relation name) (is_of_one name hs) e in
    counted_others base lines (with_copies_left base lines now h) hs name parts.1
    ∙ counted_apart now h.relation (with_so_many (counted_of now h.relation) h.row (copies_after base lines h)) name
    (other_way h.relation name parts.0)

none_of : (hs : List HeldLine) (name : Bytes) → is_of_one name hs ≡ false
    → filter (λ h. bytes_eq h.relation name) hs ≡ []
none_of [] name e = refl
none_of (h ∷ hs) name e =
    let parts = or_parts (bytes_eq h.relation name) (is_of_one name hs) e in
    ap (λ (b : Bool). cond b (h ∷ filter (λ g. bytes_eq g.relation name) hs) (filter (λ g. bytes_eq g.relation name) hs))
    parts.0 ∙ none_of hs name parts.1

-- ---- rows that cells stand for

stand_all : (c : Catalog) (at : ℕ) (texts : List Bytes) (gs : List HeldLine)
    → All (λ h. StandForRow c at (cells_of texts h.row) h.row) gs
    → StandForRows c at (map (λ (h : HeldLine). cells_of texts h.row) gs) (map (λ (h : HeldLine). h.row) gs)
stand_all c at texts [] s = tt
stand_all c at texts (g ∷ gs) s = (
  All-head (λ (h : HeldLine). StandForRow c at (cells_of texts h.row) h.row) g gs s,
  stand_all c at texts gs (All-tail (λ (h : HeldLine). StandForRow c at (cells_of texts h.row) h.row) g gs s),
)

without_fold : (rows gone : List Tuple) → without_rows rows gone ≡ fold without_row rows gone
without_fold rows [] = refl
without_fold rows (g ∷ gone) = without_fold (without_row rows g) gone

filter_again : (p : HeldLine → Bool) (hs : List HeldLine) → filter p (filter p hs) ≡ filter p hs
filter_again p [] = refl
filter_again p (h ∷ hs) = by (p h) refl (filter_again p hs)
  where
    by : (b : Bool) → p h ≡ b → filter p (filter p hs) ≡ filter p hs
        → filter p (cond b (h ∷ filter p hs) (filter p hs)) ≡ cond b (h ∷ filter p hs) (filter p hs)
    by true e rest = ap (λ (b : Bool). cond b (h ∷ filter p (filter p hs)) (filter p (filter p hs))) e
        ∙ ap (λ (gs : List HeldLine). h ∷ gs) rest
    by false e rest = rest

-- rows of one relation differ if the lines do
rows_differ : (gs : List HeldLine) (name : Bytes) → AreApart gs → All (λ h. h.relation ≡ name) gs
    → AreDifferent (map (λ (h : HeldLine). h.row) gs)
rows_differ [] name apart same = λ i j d less within. absurd (omega (arith, within))
rows_differ (g ∷ gs) name apart same =
    AllPairs-cons (λ (s t : Tuple). s ≡ t → ⊥) g.row (map (λ (h : HeldLine). h.row) gs)
    (All-map (λ (t : Tuple). g.row ≡ t → ⊥) (λ (h : HeldLine). h.row) gs
    (hold_each (λ (h : HeldLine). g.row ≡ h.row → ⊥) gs
    (λ h k row. All-contains (λ (y : HeldLine). AreSame g y → ⊥) gs h
    (pairs_head (λ (x y : HeldLine). AreSame x y → ⊥) g gs apart) k (record {
      relation = All-head (λ (x : HeldLine). x.relation ≡ name) g gs same
          ∙ sym (All-contains (λ (x : HeldLine). x.relation ≡ name) gs h
          (All-tail (λ (x : HeldLine). x.relation ≡ name) g gs same) k);
      row = row;
    }))))
    (rows_differ gs name (pairs_tail (λ (x y : HeldLine). AreSame x y → ⊥) g gs apart)
    (All-tail (λ (x : HeldLine). x.relation ≡ name) g gs same))

-- ---- lines over a catalog

module _ (c : Catalog) (lines : List HeldLine) (laws : IsCatalog c) where
  abbrev base : List Relation
  base = c.relations

  abbrev step : List Relation → HeldLine → List Relation
  step = with_copies_left base lines

  abbrev come : List HeldLine
  come = lines_come base lines

  abbrev gone : List HeldLine
  gone = lines_go base lines

  -- a row that goes doesn't come, has no copy left, and was there
  goes_not : (h : HeldLine) → line_goes base lines h ≡ true → not (line_comes base lines h) ≡ true
  goes_not h e = by (line_comes base lines h) refl
    where
      by : (b : Bool) → line_comes base lines h ≡ b → not b ≡ true
      by false k = refl
      by true k = absurd (false≢true (sym (came_stays (copies_before base h) (copies_after base lines h) k) ∙ e))

  none_left : (h : HeldLine) → line_goes base lines h ≡ true → copies_after base lines h ≡ 0
  none_left h e = eqb-true (copies_after base lines h) 0
      (second_true (nat_lt 0 (copies_before base h)) (copies_after base lines h == 0) e)

  was_there : (h : HeldLine) → line_goes base lines h ≡ true → has_row (rows_of base h.relation) h.row ≡ true
  was_there h e = by (has_row (rows_of base h.relation) h.row) refl
    where
      by : (b : Bool) → has_row (rows_of base h.relation) h.row ≡ b → b ≡ true
      by true k = refl
      by false k =
          let none = no_copies (counted_of base h.relation) h.row k in
          let some = ltb-true 0 (copies_before base h)
          (first_holds (nat_lt 0 (copies_before base h)) (copies_after base lines h == 0) e) in
          absurd (omega (arith, none, some))

  -- the rows without those that go
  pub left_rows : (name : Bytes) → rows_of (relations_left base lines) name
      ≡ fold without_row (rows_of (relations_between base lines) name)
      (map (λ (h : HeldLine). h.row) (filter (λ h. bytes_eq h.relation name) gone))
  left_rows name =
      all_removed c lines laws name (relations_between base lines) gone
      (come_apart (line_goes base lines) (first_lines lines) (all_apart lines))
      (kept_hold (Contains (first_lines lines))
      (λ (h : HeldLine). has_row (rows_of (relations_between base lines) h.relation) h.row
      ≡ has_row (rows_of base h.relation) h.row)
      (line_goes base lines) (first_lines lines)
      (λ h e k. row_stays base lines h base come (come_others base lines h (goes_not h e) (first_lines lines)))
      (All-contains_itself (first_lines lines)))
      (kept_hold (Contains (first_lines lines)) (λ (h : HeldLine). not (line_comes base lines h) ≡ true)
      (line_goes base lines) (first_lines lines) (λ h e k. goes_not h e) (All-contains_itself (first_lines lines)))
      ∙ ap (λ (hs : List HeldLine). fold without_row (rows_of (relations_between base lines) name)
      (map (λ (h : HeldLine). h.row) (filter (λ h. bytes_eq h.relation name) hs)))
      (filter_again (line_goes base lines) (first_lines lines))

  pub left_named : (name : Bytes) → rows_of (relations_left base lines) name ≡ rows_of (relations_after base lines) name
  left_named name = left_rows name ∙ sym (rows_removed c lines name laws)

  pub left_there : (r : ℕ) → r < length base
      → rows_at (relations_left base lines) r ≡ rows_at (relations_after base lines) r
  left_there r low =
      let left = relations_left base lines in
      let after = relations_after base lines in
      let name = (relation_at base r).name in
      sym (ap plain_of (counted_there left name r (differ_too base left (heads_left base lines) laws.names)
      (omega (arith, low, same_length left base (heads_left base lines)))
      (same_at (λ (x : Relation). x.name) left base r (λ x. refl) (heads_left base lines))))
      ∙ left_named name
      ∙ ap plain_of (counted_there after name r (differ_too base after (heads_after base lines) laws.names)
      (omega (arith, low, same_length after base (heads_after base lines)))
      (same_at (λ (x : Relation). x.name) after base r (λ x. refl) (heads_after base lines)))

  -- relations that no row comes to or goes from
  pub between_spared : (name : Bytes) → has_inserted base lines name ≡ false
      → rows_of (relations_between base lines) name ≡ rows_of base name
  between_spared name e = ap plain_of (counted_others base lines base come name (inserted_is base lines name ∙ e))

  pub after_spared : (name : Bytes) → has_inserted base lines name ≡ false → has_deleted base lines name ≡ false
      → rows_of (relations_after base lines) name ≡ rows_of base name
  after_spared name e k =
      rows_removed c lines name laws
      ∙ ap (λ (hs : List HeldLine). fold without_row (rows_of (relations_between base lines) name)
      (map (λ (h : HeldLine). h.row) hs)) (none_of gone name (deleted_is base lines name ∙ k))
      ∙ between_spared name e

  -- ---- lines that were judged

  pub are_groups : (net : Net) → IsJudged base c.texts lines net
      → AreGroupsOf base lines (inserted_groups base c.texts lines) (deleted_groups base c.texts lines)
  are_groups net j =
      let suit_come : All (Suits base) come = All-filter (line_comes base lines) (Suits base) (first_lines lines)
      j.rows.suit in
      let suit_gone : All (Suits base) gone = All-filter (line_goes base lines) (Suits base) (first_lines lines)
      j.rows.suit in
      record {
        come_differ = groups_once base c.texts come suit_come;
        gone_differ = groups_once base c.texts gone suit_gone;
        come_within = groups_within base c.texts come suit_come;
        gone_within = groups_within base c.texts gone suit_gone;
        inserted = λ r low. groups_there base c.texts come suit_come laws.names r low
            ∙ inserted_is base lines (relation_at base r).name;
        deleted = λ r low. groups_there base c.texts gone suit_gone laws.names r low
            ∙ deleted_is base lines (relation_at base r).name;
        come_rows = groups_rows base c.texts come suit_come;
        gone_rows = groups_rows base c.texts gone suit_gone;
        come_some = groups_some base c.texts come suit_come;
        gone_some = groups_some base c.texts gone suit_gone;
      }

  module _ (net : Net) (between : IsCatalog (catalog_between c lines)) (j : IsJudged base c.texts lines net) where
    suit_some : (p : HeldLine → Bool) → All (Suits base) (filter p (first_lines lines))
    suit_some p = All-filter p (Suits base) (first_lines lines) j.rows.suit

    known_some : (p : HeldLine → Bool) → All (λ h. HaveCells c.texts h.row) (filter p (first_lines lines))
    known_some p = All-filter p (λ (h : HeldLine). HaveCells c.texts h.row) (first_lines lines) j.rows.known

    -- the rows of a relation, of some of the lines that name rows first, in a catalog with the same headings
    stand_in : (d : Catalog) → d.texts ≡ c.texts → headings d.relations ≡ headings base → (p : HeldLine → Bool)
        (name : Bytes) → let gs = filter (λ h. bytes_eq h.relation name) (filter p (first_lines lines)) in
        StandForRows d (relation_place base name) (map (λ (h : HeldLine). cells_of c.texts h.row) gs)
        (map (λ (h : HeldLine). h.row) gs)
    stand_in d texts heads p name =
        let hs = filter p (first_lines lines) in
        stand_all d (relation_place base name) c.texts (filter (λ h. bytes_eq h.relation name) hs)
        (kept_hold (Contains hs) (λ (h : HeldLine). StandForRow d (relation_place base name) (cells_of c.texts h.row) h.row)
        (λ h. bytes_eq h.relation name) hs
        (λ h e k.
        let r = row_at base d h heads (All-contains (Suits base) hs h (suit_some p) k)
        (subst (λ (ts : List Bytes). HaveCells ts h.row) (sym texts)
        (All-contains (λ (g : HeldLine). HaveCells c.texts g.row) hs h (known_some p) k)) in
        subst (λ (ts : List Bytes). StandForRow d (relation_place base name) (cells_of ts h.row) h.row) texts
        (subst (λ (n : Bytes). StandForRow d (relation_place base n) (cells_of d.texts h.row) h.row)
        ((bytes_eq-decides h.relation name).0 e) r.stand))
        (All-contains_itself hs))

    -- ---- rows that come

    heads_in : HasHeadings c (catalog_between c lines)
    heads_in = with_headings c (catalog_between c lines) refl (heads_between base lines)

    in_place : (d : Catalog) → IsCatalog d → headings d.relations ≡ headings base → (name : Bytes) → IsFound base name
        → rows_of d.relations name ≡ rows_at d.relations (relation_place base name)
    in_place d id heads name f =
        ap plain_of (counted_there d.relations name (relation_place base name) id.names
        (omega (arith, place_below base c.texts [] (All-nil (Suits base)) name f, same_length d.relations base heads))
        (same_at (λ (x : Relation). x.name) d.relations base (relation_place base name) (λ x. refl) heads
        ∙ named_there base name f))

    has_come : (name : Bytes) → IsFound base name
        → HasCome c (catalog_between c lines) laws between heads_in (grouped_in base c.texts come name)
    has_come name f = (
      map (λ (h : HeldLine). h.row) (filter (λ h. bytes_eq h.relation name) come),
      sym (in_place (catalog_between c lines) between (heads_between base lines) name f)
          ∙ rows_inserted c lines name f.0 laws f.1
          ∙ ap (λ (ts : List Tuple). ts ++ map (λ (h : HeldLine). h.row) (filter (λ h. bytes_eq h.relation name) come))
          (in_place c laws refl name f),
      stand_in (catalog_between c lines) refl (heads_between base lines) (line_comes base lines) name,
    )

    in_each : (hs : List HeldLine) → All (Suits base) hs → (P : Group → Type 0)
        → ((name : Bytes) → IsFound base name → P (grouped_in base c.texts hs name)) → All P (grouped_rows base c.texts hs)
    in_each hs suit P each = All-map P (grouped_in base c.texts hs) (relations_named hs)
        (hold_each (λ (n : Bytes). P (grouped_in base c.texts hs n)) (relations_named hs)
        (λ n k. each n (All-contains (IsFound base) (relations_named hs) n (names_found base c.texts hs suit) k)))

    -- a relation that no group is of
    rest_in : (now : Catalog) (d : Catalog) → IsCatalog now → IsCatalog d → headings now.relations ≡ headings base
        → headings d.relations ≡ headings base → (hs : List HeldLine) → (suit : All (Suits base) hs)
        → d.relations ≡ fold step now.relations hs → (r : ℕ) → r < length now.relations
        → is_reader (group_relations (grouped_rows base c.texts hs)) r ≡ false
        → counted_at d.relations r ≡ counted_at now.relations r
    rest_in now d inow id heads_now heads_d hs suit is r low e =
        let below : r < length base = omega (arith, low, same_length now.relations base heads_now) in
        let name = (relation_at base r).name in
        sym (counted_there d.relations name r id.names (omega (arith, below, same_length d.relations base heads_d))
        (same_at (λ (x : Relation). x.name) d.relations base r (λ x. refl) heads_d))
        ∙ ap (λ (rs : List Relation). counted_of rs name) is
        ∙ counted_others base lines now.relations hs name (sym (groups_there base c.texts hs suit laws.names r below) ∙ e)
        ∙ counted_there now.relations name r inow.names low
        (same_at (λ (x : Relation). x.name) now.relations base r (λ x. refl) heads_now)

    pub comes_by : ComesBy c (inserted_groups base c.texts lines) (catalog_between c lines)
    comes_by = leads_in c (catalog_between c lines) laws between heads_in (inserted_groups base c.texts lines)
        (groups_within base c.texts come (suit_some (line_comes base lines)))
        (groups_once base c.texts come (suit_some (line_comes base lines)))
        (in_each come (suit_some (line_comes base lines)) (HasCome c (catalog_between c lines) laws between heads_in) has_come)
        (rest_in c (catalog_between c lines) laws between refl (heads_between base lines) come
        (suit_some (line_comes base lines)) refl)

    -- ---- rows that go

    one_less : (now : Catalog) (h : HeldLine) → IsCatalog now → now.texts ≡ c.texts → headings now.relations ≡ headings base
        → Suits base h → HaveCells c.texts h.row → copies_after base lines h ≡ 0
        → IsCatalog (record now { relations = step now.relations h })
    one_less now h ic texts heads suit have none =
        let at = relation_place base h.relation in
        let r = row_at base now h heads suit (subst (λ (ts : List Bytes). HaveCells ts h.row) (sym texts) have) in
        let is : step now.relations h ≡ with_rows_at now.relations at (without_copies (counted_at now.relations at) h.row) =
        ap (λ (n : ℕ). with_rows now.relations h.relation (with_so_many (counted_of now.relations h.relation) h.row n)) none
        ∙ set_by_name now h at (cells_of now.texts h.row) ic.names r 0 in
        subst (λ (rs : List Relation). IsCatalog (record now { relations = rs })) (sym is)
        (catalog_with now at (without_copies (counted_at now.relations at) h.row) ic r.below
        (kept_without now.texts (relation_at now.relations at) h.row (ic.kept at no_relation r.below)))

    all_less : (now : Catalog) (hs : List HeldLine) → IsCatalog now → now.texts ≡ c.texts
        → headings now.relations ≡ headings base → All (Suits base) hs → All (λ h. HaveCells c.texts h.row) hs
        → All (λ h. copies_after base lines h ≡ 0) hs → IsCatalog (record now { relations = fold step now.relations hs })
    all_less now [] ic texts heads suit have none = ic
    all_less now (h ∷ hs) ic texts heads suit have none =
        all_less (record now { relations = step now.relations h }) hs
        (one_less now h ic texts heads (All-head (Suits base) h hs suit)
        (All-head (λ (g : HeldLine). HaveCells c.texts g.row) h hs have)
        (All-head (λ (g : HeldLine). copies_after base lines g ≡ 0) h hs none)) texts
        (headings_with now.relations h.relation
        (with_so_many (counted_of now.relations h.relation) h.row (copies_after base lines h)) ∙ heads)
        (All-tail (Suits base) h hs suit) (All-tail (λ (g : HeldLine). HaveCells c.texts g.row) h hs have)
        (All-tail (λ (g : HeldLine). copies_after base lines g ≡ 0) h hs none)

    pub left_catalog : IsCatalog (catalog_left c lines)
    left_catalog = all_less (catalog_between c lines) gone between refl (heads_between base lines)
        (suit_some (line_goes base lines)) (known_some (line_goes base lines))
        (kept_hold (Contains (first_lines lines)) (λ (h : HeldLine). copies_after base lines h ≡ 0) (line_goes base lines)
        (first_lines lines) (λ h e k. none_left h e) (All-contains_itself (first_lines lines)))

    heads_out : HasHeadings (catalog_between c lines) (catalog_left c lines)
    heads_out = with_headings (catalog_between c lines) (catalog_left c lines) refl
        (headings_all base lines (relations_between base lines) gone)

    has_gone : (name : Bytes) → IsFound base name
        → HasGone (catalog_between c lines) (catalog_left c lines) between left_catalog heads_out
        (grouped_in base c.texts gone name)
    has_gone name f =
        let gs = filter (λ h. bytes_eq h.relation name) gone in
        let at = relation_place base name in
        let named : All (λ h. h.relation ≡ name) gs = kept_hold (Contains gone) (λ (h : HeldLine). h.relation ≡ name)
        (λ h. bytes_eq h.relation name) gone (λ h e k. (bytes_eq-decides h.relation name).0 e) (All-contains_itself gone) in (
          map (λ (h : HeldLine). h.row) gs,
          sym (in_place (catalog_left c lines) left_catalog (heads_left base lines) name f)
              ∙ left_rows name
              ∙ sym (without_fold (rows_of (relations_between base lines) name) (map (λ (h : HeldLine). h.row) gs))
              ∙ ap (λ (ts : List Tuple). without_rows ts (map (λ (h : HeldLine). h.row) gs))
              (in_place (catalog_between c lines) between (heads_between base lines) name f),
          stand_in (catalog_left c lines) refl (heads_left base lines) (line_goes base lines) name,
          λ row k. All-contains (λ (t : Tuple). Contains (rows_at (relations_between base lines) at) t)
              (map (λ (h : HeldLine). h.row) gs) row
              (All-map (λ (t : Tuple). Contains (rows_at (relations_between base lines) at) t) (λ (h : HeldLine). h.row) gs
              (hold_each (λ (h : HeldLine). Contains (rows_at (relations_between base lines) at) h.row) gs
              (λ h k. in_between name f h (All-contains (λ (g : HeldLine). g.relation ≡ name) gs h named k)
              (kept_from (λ g. bytes_eq g.relation name) gone h k).1))) k,
          rows_differ gs name (AllPairs-filter (λ (x y : HeldLine). AreSame x y → ⊥) (λ h. bytes_eq h.relation name) gone
              (come_apart (line_goes base lines) (first_lines lines) (all_apart lines))) named,
        )
      where
        in_between : (n : Bytes) → IsFound base n → (h : HeldLine) → h.relation ≡ n → Contains gone h
            → Contains (rows_at (relations_between base lines) (relation_place base n)) h.row
        in_between n f h same k =
            let goes = (kept_from (line_goes base lines) (first_lines lines) h k).0 in
            subst (λ (ts : List Tuple). Contains ts h.row)
            (in_place (catalog_between c lines) between (heads_between base lines) n f)
            (lines_insert base lines n h.row (row_there (rows_of base n) h.row
            (ap (λ (m : Bytes). has_row (rows_of base m) h.row) (sym same) ∙ was_there h goes)))

    pub goes_by : GoesBy (catalog_between c lines) (deleted_groups base c.texts lines) (catalog_left c lines)
    goes_by = leads_out (catalog_between c lines) (catalog_left c lines) between left_catalog heads_out
        (deleted_groups base c.texts lines)
        (subst (λ (n : ℕ). All (λ (g : Group). g.relation.at < n) (deleted_groups base c.texts lines))
        (sym (same_length (relations_between base lines) base (heads_between base lines)))
        (groups_within base c.texts gone (suit_some (line_goes base lines))))
        (groups_once base c.texts gone (suit_some (line_goes base lines)))
        (in_each gone (suit_some (line_goes base lines))
        (HasGone (catalog_between c lines) (catalog_left c lines) between left_catalog heads_out) has_gone)
        (rest_in (catalog_between c lines) (catalog_left c lines) between left_catalog (heads_between base lines)
        (heads_left base lines) gone (suit_some (line_goes base lines)) refl)

-- ---- the laws

pub lines_lead : LinesLead
lines_lead c lines net laws between j = record {
  comes = comes_by c lines laws net between j;
  goes = goes_by c lines laws net between j;
  left = left_catalog c lines laws net between j;
  groups = are_groups c lines laws net j;
}

pub lines_group : LinesGroup
lines_group c lines net laws j = are_groups c lines laws net j

pub rows_left : LeftRows
rows_left c lines r laws low = left_there c lines laws r low

pub left_is_after : LeftIsAfter
left_is_after c lines laws after =
    let heads : headings (relations_after c.relations lines) ≡ headings (relations_left c.relations lines) =
    heads_after c.relations lines ∙ sym (heads_left c.relations lines) in
    record {
      later = record {
        catalog = after;
        more = [];
        texts = sym (append-nil c.texts);
        long = omega (arith, same_length (relations_after c.relations lines) (relations_left c.relations lines) heads);
        named = λ at low. same_at (λ (x : Relation). x.name) (relations_after c.relations lines)
            (relations_left c.relations lines) at (λ x. refl) heads;
        typed = λ at low. same_at (λ (x : Relation). x.types) (relations_after c.relations lines)
            (relations_left c.relations lines) at (λ x. refl) heads;
      };
      same = λ at low. sym (left_there c lines laws at (omega (
        arith,
        low,
        same_length (relations_left c.relations lines) c.relations (heads_left c.relations lines),
      )));
    }

pub left_have : (c : Catalog) (lines : List HeldLine) → IsCatalog c
    → HaveRows (relations_left c.relations lines) (relations_after c.relations lines)
    × HaveRows (relations_after c.relations lines) (relations_left c.relations lines)
left_have c lines laws = (
  λ name row k. subst (λ (ts : List Tuple). Contains ts row) (left_named c lines laws name) k,
  λ name row k. subst (λ (ts : List Tuple). Contains ts row) (sym (left_named c lines laws name)) k,
)

pub changed_is_either : ChangedIsEither
changed_is_either relations lines name = all lines
  where
    either : (a b c x y : Bool) → (a && (b || c) || (x || y)) ≡ (a && b || x || (a && c || y))
    either false b c x y = refl
    either true true c x y = refl
    either true false true true y = refl
    either true false true false y = refl
    either true false false x y = refl

    all : (hs : List HeldLine)
        → list_any (λ h. bytes_eq h.relation name && (line_comes relations lines h || line_goes relations lines h)) hs
        ≡ (list_any (λ h. bytes_eq h.relation name && line_comes relations lines h) hs
        || list_any (λ h. bytes_eq h.relation name && line_goes relations lines h) hs)
    all [] = refl
    all (h ∷ hs) =
        ap (λ (b : Bool). bytes_eq h.relation name && (line_comes relations lines h || line_goes relations lines h) || b)
        (all hs)
        ∙ either (bytes_eq h.relation name) (line_comes relations lines h) (line_goes relations lines h)
        (list_any (λ h. bytes_eq h.relation name && line_comes relations lines h) hs)
        (list_any (λ h. bytes_eq h.relation name && line_goes relations lines h) hs)

pub lines_spare_others : LinesSpareOthers
lines_spare_others c lines laws = (
  λ name e.
      let parts = or_parts (has_inserted c.relations lines name) (has_deleted c.relations lines name)
      (sym (changed_is_either c.relations lines name) ∙ e) in
      after_spared c lines laws name parts.0 parts.1,
  λ name e. between_spared c lines laws name e,
)

pub catalogs_have_copies : CatalogsHaveCopies
catalogs_have_copies c lines laws = hold_each
    (λ (h : HeldLine). has_row (rows_of c.relations h.relation) h.row ≡ true → 1 ≤ copies_before c.relations h) lines
    (λ h k there. some_copies c h.relation h.row laws there)
