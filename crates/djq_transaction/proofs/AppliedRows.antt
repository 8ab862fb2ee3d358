-- One row more of a net is applied to a catalog, or taken back.
use Rattle.std.specs.Prelude.{ℕ, suc, List, ◌≡◌, ◌≢◌, ◌==◌, ◌&&◌, ◌+◌, ◌-◌, ◌≤◌, ◌<◌, Bool, true, false, not}
use Rattle.std.specs.Prelude.{⊤, Option, fold, filter, take, length, nat_lt, All, AllPairs, Contains}
use Rattle.std.proofs.Common.{refl, sym, ap, ◌∙◌, subst, arith}
use Rattle.std.proofs.lemmas.Bool.{false≢true, eqb-true, ltb-true}
use Rattle.std.proofs.lemmas.List.{take_all, length-map}
use Rattle.std.proofs.lemmas.List.Elements.{All-contains, All-contains_itself, All-filter}
use Rattle.djq_model.specs.declared.relation.Relation.{Relation}
use Rattle.djq_model.specs.Data.{Bytes, has_row, plain_of, rows_of, copies_among, counted_in, counted_of}
use Rattle.djq_answer_laws.proofs.Lists.{first_holds, kept_hold, kept_there, hold_each}
use Rattle.djq_database.specs.Cells.{HaveCells, cells_of}
use Rattle.djq_database.specs.Catalog.{Catalog, IsCatalog, counted_at, rows_at}
use Rattle.djq_protocol.specs.declared.limits.TheConstants.{ROWS}
use Rattle.djq_store_spec.specs.Held.{HeldLine}
use Rattle.djq_transaction.specs.declared.net.Copies.{Copies}
use Rattle.djq_transaction.specs.declared.net.Net.{Net}
use Rattle.djq_store_spec.specs.Lines.{first_lines, copies_before, copies_after, line_comes, lines_come, with_copies_left}
use Rattle.djq_store_spec.specs.Lines.{relations_between, relations_after}
use Rattle.djq_transaction.specs.LookUp.{AreSame}
use Rattle.djq_transaction.specs.Net.{IsNet, IsRowAt, Suits, relation_place, copies_by, copies_came}
use Rattle.djq_transaction.specs.Applied.{IsJudged, headings, HasCopiesAt, SetsCopiesAt, HasFirst, HasAllInserted}
use Rattle.djq_transaction.specs.Applied.{HasChangedFirst}
use Rattle.djq_transaction.proofs.Headings.{headings_all, row_at}
use Rattle.djq_transaction.proofs.Entries.{HasLine}
use Rattle.djq_transaction.proofs.Places.{at_contains, same_copies}
use Rattle.djq_transaction.proofs.SetCopies.{counted_some}
use Rattle.djq_transaction.proofs.AnyOrder.{after_is}
use Rattle.djq_transaction.proofs.Room.{all_long, come_before, room_for}
use Rattle.djq_transaction.proofs.Applying.{copies_stay, row_stays, row_counted, row_left, row_back, came_counted}
use Rattle.djq_transaction.proofs.Applying.{one_passes, none_passes}

second_holds : (a b : Bool) → (a && b) ≡ true → b ≡ true
second_holds true b h = h
second_holds false b h = absurd (false≢true h)

-- the same lines were judged, where texts stay
pub judged_on : (base : List Relation) (old new : List Bytes) (lines : List HeldLine) (net : Net) → new ≡ old
    → IsJudged base old lines net → IsJudged base new lines net
judged_on base old new lines net e j = subst (λ (ts : List Bytes). IsJudged base ts lines net) (sym e) j

pub first_headings : (base : List Relation) (lines : List HeldLine) (count : ℕ) (now : Catalog) (net : Net)
    → HasFirst base lines count now net → headings now.relations ≡ headings base
first_headings base lines count now net f =
    ap (λ (rs : List Relation). headings rs) f.here
    ∙ headings_all base lines base (filter (line_comes base lines) (take count (first_lines lines)))

pub changed_headings : (base : List Relation) (lines : List HeldLine) (count : ℕ) (now : Catalog) (net : Net)
    → HasChangedFirst base lines count now net → headings now.relations ≡ headings base
changed_headings base lines count now net f =
    ap (λ (rs : List Relation). headings rs) f.here
    ∙ headings_all base lines (relations_between base lines)
    (filter (λ h. not (line_comes base lines h)) (take count (first_lines lines)))
    ∙ headings_all base lines base (lines_come base lines)

module _ (base : List Relation) (lines : List HeldLine) (net : Net) (now : Catalog) (place : ℕ) (copies : Copies)
    (l : HasLine base lines place copies) where
  comes : copies_came copies ≡ line_comes base lines l.line
  comes = ap (λ (k : Copies). copies_came k) l.copies_are

  before_none : copies_came copies ≡ true → copies_before base l.line ≡ 0
  before_none came = eqb-true (copies_before base l.line) 0
      (first_holds (copies_before base l.line == 0) (nat_lt 0 (copies_after base lines l.line)) (sym comes ∙ came))

  after_some : copies_came copies ≡ true → copies_after base lines l.line ≡ suc (copies_after base lines l.line - 1)
  after_some came =
      let some : 0 < copies_after base lines l.line = ltb-true 0 (copies_after base lines l.line)
      (second_holds (copies_before base l.line == 0) (nat_lt 0 (copies_after base lines l.line)) (sym comes ∙ came)) in
      omega (arith, some)

  left_is : copies.after ≡ copies_after base lines l.line
  left_is = ap (λ (k : Copies). k.after) l.copies_are

  abbrev firsts : List HeldLine
  firsts = first_lines lines

  apart_from : (p : HeldLine → Bool) → All (λ g. AreSame g l.line → ⊥) (filter p (take place firsts))
  apart_from p = All-filter p (λ (g : HeldLine). AreSame g l.line → ⊥) (take place firsts) l.apart

  -- ---- rows that come

  pub first_passed : HasFirst base lines place now net → copies_came copies ≡ false
      → HasFirst base lines (place + 1) now net
  first_passed f none = record {
    judged = f.judged;
    absent = f.absent;
    here = f.here ∙ sym (none_passes base lines (line_comes base lines) base (take place firsts)
        (take (place + 1) firsts) l.line l.more (sym comes ∙ none));
  }

  pub last_passed : HasFirst base lines (place + 1) now net → copies_came copies ≡ false
      → HasFirst base lines place now net
  last_passed f none = record {
    judged = f.judged;
    absent = f.absent;
    here = f.here ∙ none_passes base lines (line_comes base lines) base (take place firsts)
        (take (place + 1) firsts) l.line l.more (sym comes ∙ none);
  }

  module _ (names : AllPairs (λ r s. r.name ≢ s.name) now.relations) (at : ℕ) (cells : List ℕ)
      (r : IsRowAt now l.line at cells) where
    pub first_counted : HasFirst base lines place now net → copies_came copies ≡ true → HasCopiesAt now at cells 0
    first_counted f came =
        row_counted now l.line at cells names r 0
        (ap (λ (rs : List Relation). copies_among (counted_of rs l.line.relation) l.line.row) f.here
        ∙ copies_stay base lines l.line base (filter (line_comes base lines) (take place firsts))
        (apart_from (line_comes base lines)) ∙ before_none came)

    -- There is room for it.
    pub first_room : HasFirst base lines place now net → copies_came copies ≡ true
        → length (rows_at now.relations at) < ROWS
    first_room f came =
        let name = l.line.relation in
        let its : length (rows_at now.relations at) ≡ length (rows_of now.relations name) =
        ap (λ (o : Option Relation). length (plain_of (counted_in o))) (sym r.found) in
        let here : length (rows_of now.relations name) ≡ length (rows_of (fold (with_copies_left base lines) base
        (filter (line_comes base lines) (take place firsts))) name) =
        ap (λ (rs : List Relation). length (rows_of rs name)) f.here in
        let long = all_long base lines base (filter (line_comes base lines) (take place firsts)) name in
        let fewer = come_before base lines place l.line l.more (before_none came) in
        let room = room_for base f.judged.before lines f.judged.passed name (omega (arith, fewer)) in
        omega (arith, its, here, long, fewer, room)

    pub first_more : HasFirst base lines place now net → copies_came copies ≡ true → (new : Catalog)
        → SetsCopiesAt now at cells copies.after new.relations → new.texts ≡ now.texts
        → HasFirst base lines (place + 1) new net
    first_more f came new set texts = record {
      judged = judged_on base now.texts new.texts lines net texts f.judged;
      absent = f.absent;
      here = row_left now l.line at cells names r base lines copies.after new.relations left_is set
          ∙ ap (λ (rs : List Relation). with_copies_left base lines rs l.line) f.here
          ∙ sym (one_passes base lines (line_comes base lines) base (take place firsts)
          (take (place + 1) firsts) l.line l.more (sym comes ∙ came));
    }

    came_last : HasFirst base lines (place + 1) now net → copies_came copies ≡ true
        → now.relations ≡ with_copies_left base lines (fold (with_copies_left base lines) base
        (filter (line_comes base lines) (take place firsts))) l.line
    came_last f came = f.here ∙ one_passes base lines (line_comes base lines) base (take place firsts)
        (take (place + 1) firsts) l.line l.more (sym comes ∙ came)

    pub last_counted : HasFirst base lines (place + 1) now net → copies_came copies ≡ true
        → HasCopiesAt now at cells copies.after
    last_counted f came =
        subst (λ (n : ℕ). HasCopiesAt now at cells n) (sym (left_is ∙ after_some came))
        (came_counted now l.line at cells names r base lines
        (fold (with_copies_left base lines) base (filter (line_comes base lines) (take place firsts)))
        (copies_after base lines l.line - 1) (came_last f came) (after_some came))

    pub last_back : HasFirst base lines (place + 1) now net → copies_came copies ≡ true → (new : Catalog)
        → SetsCopiesAt now at cells 0 new.relations → new.texts ≡ now.texts → HasFirst base lines place new net
    last_back f came new set texts =
        let absent = row_stays base lines l.line base (filter (line_comes base lines) (take place firsts))
        (apart_from (line_comes base lines))
        ∙ All-contains (λ (h : HeldLine). has_row (rows_of base h.relation) h.row ≡ false) (lines_come base lines) l.line
        f.absent (kept_there (line_comes base lines) firsts l.line (sym comes ∙ came)
        (at_contains firsts place l.line l.there)) in
        record {
          judged = judged_on base now.texts new.texts lines net texts f.judged;
          absent = f.absent;
          here = row_back now l.line at cells names r base lines
              (fold (with_copies_left base lines) base (filter (line_comes base lines) (take place firsts)))
              (copies_after base lines l.line - 1) new.relations (came_last f came) (after_some came) absent set;
        }

  -- ---- the others

  pub changed_passed : HasChangedFirst base lines place now net → copies_came copies ≡ true
      → HasChangedFirst base lines (place + 1) now net
  changed_passed f came = record {
    judged = f.judged;
    here = f.here ∙ sym (none_passes base lines (λ h. not (line_comes base lines h)) (relations_between base lines)
        (take place firsts) (take (place + 1) firsts) l.line l.more
        (ap (λ (b : Bool). not b) (sym comes ∙ came)));
  }

  module _ (names : AllPairs (λ r s. r.name ≢ s.name) now.relations) (at : ℕ) (cells : List ℕ)
      (r : IsRowAt now l.line at cells) where
    pub changed_counted : HasChangedFirst base lines place now net → copies_came copies ≡ false
        → HasCopiesAt now at cells copies.before
    changed_counted f none =
        row_counted now l.line at cells names r copies.before
        (ap (λ (rs : List Relation). copies_among (counted_of rs l.line.relation) l.line.row) f.here
        ∙ copies_stay base lines l.line (relations_between base lines)
        (filter (λ h. not (line_comes base lines h)) (take place firsts))
        (apart_from (λ h. not (line_comes base lines h)))
        ∙ copies_stay base lines l.line base (lines_come base lines)
        (kept_hold (λ _. ⊤) (λ (g : HeldLine). AreSame g l.line → ⊥) (line_comes base lines) firsts
        (λ g e _ same. false≢true (sym (sym comes ∙ none)
        ∙ (sym (ap (λ (k : Copies). copies_came k) (same_copies base lines g l.line same)) ∙ e)))
        (hold_each (λ _. ⊤) firsts (λ _ _. tt)))
        ∙ ap (λ (k : Copies). k.before) (sym l.copies_are))

    pub changed_more : HasChangedFirst base lines place now net → copies_came copies ≡ false → (new : Catalog)
        → SetsCopiesAt now at cells copies.after new.relations → new.texts ≡ now.texts
        → HasChangedFirst base lines (place + 1) new net
    changed_more f none new set texts = record {
      judged = judged_on base now.texts new.texts lines net texts f.judged;
      here = row_left now l.line at cells names r base lines copies.after new.relations left_is set
          ∙ ap (λ (rs : List Relation). with_copies_left base lines rs l.line) f.here
          ∙ sym (one_passes base lines (λ h. not (line_comes base lines h)) (relations_between base lines)
          (take place firsts) (take (place + 1) firsts) l.line l.more (ap (λ (b : Bool). not b) (sym comes ∙ none)));
    }

-- ---- no row yet

-- a row that comes wasn't there
not_there : (c : Catalog) (texts : List Bytes) (lines : List HeldLine) (net : Net) → IsCatalog c → texts ≡ c.texts
    → IsNet c.relations texts net.keys.width lines net
    → All (λ h. has_row (rows_of c.relations h.relation) h.row ≡ false) (lines_come c.relations lines)
not_there c texts lines net laws e n =
    kept_hold (Contains (first_lines lines)) (λ (h : HeldLine). has_row (rows_of c.relations h.relation) h.row ≡ false)
    (line_comes c.relations lines) (first_lines lines) (λ h came k.
    by h (eqb-true (copies_before c.relations h) 0
    (first_holds (copies_before c.relations h == 0) (nat_lt 0 (copies_after c.relations lines h)) came))
    (row_at c.relations c h refl (All-contains (Suits c.relations) (first_lines lines) h n.suit k)
    (subst (λ (ts : List Bytes). HaveCells ts h.row) e
    (All-contains (λ (g : HeldLine). HaveCells texts g.row) (first_lines lines) h n.known k)))
    (has_row (rows_of c.relations h.relation) h.row) refl) (All-contains_itself (first_lines lines))
  where
    by : (h : HeldLine) → copies_before c.relations h ≡ 0
        → IsRowAt c h (relation_place c.relations h.relation) (cells_of c.texts h.row)
        → (b : Bool) → has_row (rows_of c.relations h.relation) h.row ≡ b → b ≡ false
    by h none r false k = refl
    by h none r true k =
        let at = relation_place c.relations h.relation in
        let there : has_row (rows_at c.relations at) h.row ≡ true =
        ap (λ (o : Option Relation). has_row (plain_of (counted_in o)) h.row) (sym r.found) ∙ k in
        let some = counted_some c at h.row laws r.below there in
        let same : copies_among (counted_at c.relations at) h.row ≡ copies_before c.relations h =
        ap (λ (o : Option Relation). copies_among (counted_in o) h.row) (sym r.found) in
        absurd (omega (arith, some, same, none))

pub none_first : (c : Catalog) (lines : List HeldLine) (net : Net) → IsCatalog c
    → IsJudged c.relations c.texts lines net → HasFirst c.relations lines 0 c net
none_first c lines net laws j = record {
  judged = j;
  absent = not_there c c.texts lines net laws refl j.rows;
  here = refl;
}

-- ---- all rows

module _ (base : List Relation) (lines : List HeldLine) (net : Net) (now : Catalog) (place : ℕ)
    (high : length net.copies.items ≤ place) where
  all_taken : IsJudged base now.texts lines net → take place (first_lines lines) ≡ first_lines lines
  all_taken j = take_all place (first_lines lines) (omega (
    arith,
    high,
    ap (λ (cs : List Copies). length cs) j.rows.copies,
    length-map (first_lines lines) (copies_by base lines),
  ))

  pub all_inserted : HasFirst base lines place now net → HasAllInserted base lines now net
  all_inserted f = record {
    judged = f.judged;
    absent = f.absent;
    here = f.here ∙ ap (λ (hs : List HeldLine). fold (with_copies_left base lines) base (filter (line_comes base lines) hs))
        (all_taken f.judged);
  }

  pub from_all : HasAllInserted base lines now net → HasFirst base lines place now net
  from_all f = record {
    judged = f.judged;
    absent = f.absent;
    here = f.here ∙ ap (λ (hs : List HeldLine). fold (with_copies_left base lines) base (filter (line_comes base lines) hs))
        (sym (all_taken f.judged));
  }

  pub all_changed : HasChangedFirst base lines place now net → now.relations ≡ relations_after base lines
  all_changed f = f.here ∙ ap (λ (hs : List HeldLine). fold (with_copies_left base lines) (relations_between base lines)
      (filter (λ h. not (line_comes base lines h)) hs)) (all_taken f.judged) ∙ sym (after_is base lines)
