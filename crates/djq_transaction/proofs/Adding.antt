-- When a line that adds has its place.
use Rattle.std.specs.Prelude.{ℕ, List, [], ◌∷◌, ◌≡◌, ◌≢◌, ◌==◌, ◌⊎◌, ◌+◌, ◌++◌, ◌&&◌, ◌||◌, ◌<◌, ◌≤◌, Bool, true}
use Rattle.std.specs.Prelude.{false, not, cond, Option, None, Some, Err, length, fold, nat_le, is_some, All, AllPairs}
use Rattle.std.specs.Prelude.{Contains}
use Rattle.std.specs.List.{list_any}
use Rattle.std.proofs.Common.{refl, sym, ap, ap₂, ◌∙◌, subst, inl, inr, arith}
use Rattle.std.proofs.lemmas.Bool.{eq-eqb, eqb-true, false_from_ne_true, le-leb, lt-leb}
use Rattle.std.proofs.lemmas.Option.{slice_get_within, get_or_from_slice_get}
use Rattle.std.proofs.lemmas.List.{append-nil}
use Rattle.std.proofs.lemmas.List.Elements.{All-head, All-tail, All-nil, All-cons, All-append, All-contains}
use Rattle.std.proofs.lemmas.List.Folds.{Any-from_list_any, list_any-from_Any}
use Rattle.djq_model.specs.declared.value.Value.TheVariants.{Int, Text}
use Rattle.djq_model.specs.declared.relation.Relation.{Relation}
use Rattle.djq_model.specs.Data.{Bytes, Tuple, has_row}
use Rattle.djq_model.specs.Known.{knows, knows_all, texts_in, learned, all_learned}
use Rattle.djq_protocol.specs.declared.limits.TheConstants.{ROWS, COPIES, TEXTS}
use Rattle.djq_answer_laws.proofs.Lists.{some_one, one_there, hold_each}
use Rattle.djq_database.specs.Catalog.{Catalog, rows_at}
use Rattle.djq_database.specs.Changes.{LearnsSome, FindsNoPlaceFor, InternsRow}
use Rattle.djq_dictionary.specs.declared.refusal.InternRefusal.{InternRefusal}
use Rattle.djq_dictionary.specs.declared.refusal.InternRefusal.TheVariants.{Full, NoMem}
use Rattle.djq_database.specs.Cells.{HaveCells, cells_of}
use Rattle.djq_database.proofs.Cells.{Grown, have_grown, all_grown, grown_is}
use Rattle.djq_protocol.specs.declared.held.Verb.{Verb}
use Rattle.djq_protocol.specs.declared.held.Verb.TheVariants.{Add}
use Rattle.djq_store_spec.specs.Held.{HeldLine}
use Rattle.djq_transaction.specs.declared.net.Copies.{Copies}
use Rattle.djq_transaction.specs.declared.net.Net.{Net}
use Rattle.djq_protocol.specs.declared.held.LineRefusal.TheVariants.{Limit, NoMemory}
use Rattle.djq_store_spec.specs.Lines.{same_row, with_naming, first_lines, after_verb, copies_before, copies_after}
use Rattle.djq_store_spec.specs.Judging.{texts_by, texts_added, names_row_before, is_new, rows_reached, limit_if}
use Rattle.djq_store_spec.specs.Judging.{refusal_by, row_refusal, StopsAtLine, HasItsPlace}
use Rattle.djq_transaction.specs.LookUp.{AreSame, Looked}
use Rattle.djq_transaction.specs.Net.{key_cells, SuitsAt, SetsCopies, IsNet}
use Rattle.djq_transaction.proofs.NamedRows.{same_are, are_same, keys_stay}
use Rattle.djq_transaction.proofs.FirstLines.{lines_named, same_back, same_trans}
use Rattle.djq_transaction.proofs.Places.{judged}
use Rattle.djq_transaction.proofs.Judgements.{row_at, copies_with, unknown_unnamed, unknown_before, unknown_copies}

-- ---- a line of a row that no line before it names

all_first : (P : HeldLine → Type 0) (seen rest : List HeldLine) → All P seen → All P rest
    → All P (fold with_naming seen rest)
all_first P seen [] a b = a
all_first P seen (h ∷ rest) a b =
    all_first P (with_naming seen h) rest (by (list_any (λ (g : HeldLine). same_row g h) seen)) (All-tail P h rest b)
  where
    by : (t : Bool) → All P (cond t seen (seen ++ h ∷ []))
    by true = a
    by false = All-append P seen (h ∷ []) a (All-cons P h [] (All-head P h rest b) (All-nil P))

pub first_among : (lines : List HeldLine) (g : HeldLine) → Contains (first_lines lines) g → Contains lines g
first_among lines g k = All-contains (Contains lines) (first_lines lines) g
    (all_first (Contains lines) [] lines (All-nil (Contains lines))
    (hold_each (Contains lines) lines (λ h c. c))) k

-- whether a line before is of the row, as the look-up tells
pub named_before : (relations : List Relation) (lines : List HeldLine) (h : HeldLine) (place : Option ℕ) (c : Copies)
    → Looked relations lines h place c → list_any (λ g. same_row g h) lines ≡ is_some place
named_before relations lines h (Some p) c l =
    let g = l.at in
    list_any-from_Any (λ (k : HeldLine). same_row k h) lines
    (one_there (λ (k : HeldLine). same_row k h ≡ true) lines g.0
    (first_among lines g.0 (
      p,
      slice_get_within (first_lines lines) p g.0 g.1,
      get_or_from_slice_get (first_lines lines) p g.0 g.0 g.1,
    )) (are_same g.0 h (same_back h g.0 g.2)))
named_before relations lines h None c l =
    false_from_ne_true (list_any (λ (g : HeldLine). same_row g h) lines) (λ e.
    let o = some_one (λ (g : HeldLine). same_row g h ≡ true) lines
    (Any-from_list_any (λ (g : HeldLine). same_row g h) lines e) in
    let f = some_one (λ (k : HeldLine). AreSame k o.0) (first_lines lines) (lines_named lines o.0 o.1) in
    l.at (one_there (λ (k : HeldLine). AreSame k h) (first_lines lines) f.0 f.1
    (same_trans f.0 o.0 h f.2 (same_are o.0 h o.2))))

pub add_refusal : (relations : List Relation) (lines : List HeldLine) (h : HeldLine) (many new full : Bool)
    → h.verb ≡ Add → nat_le COPIES (copies_after relations lines h) ≡ many → is_new relations lines h ≡ new
    → nat_le ROWS (rows_reached relations lines h.relation) ≡ full
    → row_refusal relations lines h ≡ limit_if (many || (new && full))
add_refusal relations lines h many new full e m n f =
    ap (λ (v : Verb). refusal_by v relations lines h) e
    ∙ ap₂ (λ (a b : Bool). limit_if (a || b)) m (ap₂ (λ (a b : Bool). a && b) n f)

-- as many copies as there may be
pub add_many : (relations : List Relation) (lines : List HeldLine) (h : HeldLine) (place : Option ℕ) (c : Copies)
    → h.verb ≡ Add → Looked relations lines h place c → COPIES ≤ c.after
    → row_refusal relations lines h ≡ limit_if true
add_many relations lines h place c e l many =
    add_refusal relations lines h true (is_new relations lines h)
    (nat_le ROWS (rows_reached relations lines h.relation)) e
    (le-leb COPIES (copies_after relations lines h) (omega (arith, l.after, many))) refl refl

few_copies : (relations : List Relation) (lines : List HeldLine) (h : HeldLine) (place : Option ℕ) (c : Copies)
    → Looked relations lines h place c → c.after < COPIES → nat_le COPIES (copies_after relations lines h) ≡ false
few_copies relations lines h place c l few =
    lt-leb COPIES (copies_after relations lines h) (omega (arith, l.after, few))

-- a row that isn't new
pub add_further : (relations : List Relation) (lines : List HeldLine) (h : HeldLine) (place : Option ℕ) (c : Copies)
    → h.verb ≡ Add → Looked relations lines h place c → c.after < COPIES → (is_some place ≡ true) ⊎ (c.before ≢ 0)
    → row_refusal relations lines h ≡ limit_if false
add_further relations lines h place c e l few old =
    add_refusal relations lines h false false (nat_le ROWS (rows_reached relations lines h.relation)) e
    (few_copies relations lines h place c l few) (by old) refl
  where
    right : (b : Bool) → (b && false) ≡ false
    right true = refl
    right false = refl

    by : (is_some place ≡ true) ⊎ (c.before ≢ 0) → is_new relations lines h ≡ false
    by (inl named) = ap (λ (b : Bool). (copies_before relations h == 0) && not b)
        (named_before relations lines h place c l ∙ named) ∙ right (copies_before relations h == 0)
    by (inr some) = ap (λ (b : Bool). b && not (list_any (λ (g : HeldLine). same_row g h) lines))
        (false_from_ne_true (copies_before relations h == 0)
        (λ k. some (l.before ∙ eqb-true (copies_before relations h) 0 k)))

-- a new row
pub add_first : (relations : List Relation) (lines : List HeldLine) (h : HeldLine) (place : Option ℕ) (c : Copies)
    (full : Bool) → h.verb ≡ Add → Looked relations lines h place c → c.after < COPIES → is_some place ≡ false
    → c.before ≡ 0 → full ≡ nat_le ROWS (rows_reached relations lines h.relation)
    → row_refusal relations lines h ≡ limit_if full
add_first relations lines h place c full e l few none zero f =
    add_refusal relations lines h false true full e (few_copies relations lines h place c l few)
    (ap₂ (λ (a b : Bool). a && not b) (eq-eqb (copies_before relations h) 0 (sym l.before ∙ zero))
    (named_before relations lines h place c l ∙ none)) (sym f)

-- ---- the texts of a line that adds

learned_known : (texts : List Bytes) (t : Bytes) → knows texts t ≡ true → learned texts t ≡ texts
learned_known texts t h = rw h refl

pub none_learned : (texts : List Bytes) (row : Tuple) → HaveCells texts row → all_learned texts (texts_in row) ≡ texts
none_learned texts [] h = refl
none_learned texts (Int i ∷ vs) h = none_learned texts vs h.1
none_learned texts (Text t ∷ vs) h =
    ap (λ (known : List Bytes). all_learned known (texts_in vs)) (learned_known texts t h.0) ∙ none_learned texts vs h.1

pub add_learns : (h : HeldLine) → h.verb ≡ Add → texts_added h ≡ texts_in h.row
add_learns h e = ap (λ (v : Verb). texts_by v h.row) e

pub known_placed : (c : Catalog) (lines : List HeldLine) (h : HeldLine) → h.verb ≡ Add → HaveCells c.texts h.row
    → row_refusal c.relations lines h ≡ None → length c.texts ≤ TEXTS
    → HasItsPlace c.relations lines c.texts h c.texts
known_placed c lines h e have passes few = record {
  passes = passes;
  learned = sym (ap (λ (ts : List Bytes). all_learned c.texts ts) (add_learns h e) ∙ none_learned c.texts h.row have);
  few = few;
}

pub known_stops : (c : Catalog) (lines : List HeldLine) (h : HeldLine) → row_refusal c.relations lines h ≡ None
    → names_row_before lines h ≡ false → length c.texts ≤ TEXTS → StopsAtLine c.relations lines c.texts h c.texts NoMemory
known_stops c lines h passes first few = (
  passes,
  first,
  record { first = []; rest = texts_added h; parts = refl; learned = refl },
  few,
)

pub new_placed : (relations : List Relation) (old new : List Bytes) (lines : List HeldLine) (h : HeldLine)
    → h.verb ≡ Add → row_refusal relations lines h ≡ None → new ≡ all_learned old (texts_in h.row)
    → length new ≤ TEXTS → HasItsPlace relations lines old h new
new_placed relations old new lines h e passes is few = record {
  passes = passes;
  learned = is ∙ ap (λ (ts : List Bytes). all_learned old ts) (sym (add_learns h e));
  few = few;
}

pub new_stops : (relations : List Relation) (old new : List Bytes) (lines : List HeldLine) (h : HeldLine)
    → h.verb ≡ Add → row_refusal relations lines h ≡ None → names_row_before lines h ≡ false
    → new ≡ all_learned old (texts_in h.row) → length new ≤ TEXTS → StopsAtLine relations lines old h new NoMemory
new_stops relations old new lines h e passes first is few = (
  passes,
  first,
  record {
    first = texts_in h.row;
    rest = [];
    parts = add_learns h e ∙ sym (append-nil (texts_in h.row));
    learned = is;
  },
  few,
)

pub some_learned : (relations : List Relation) (old new : List Bytes) (lines : List HeldLine) (h : HeldLine)
    (r : InternRefusal) → h.verb ≡ Add → row_refusal relations lines h ≡ None → names_row_before lines h ≡ false → r ≡ NoMem
    → InternsRow old h.row (Err r) new → length new ≤ TEXTS → StopsAtLine relations lines old h new NoMemory
some_learned relations old new lines h r e passes first is i few =
    let s : LearnsSome old (texts_in h.row) new =
    subst (λ (q : InternRefusal). InternsRow old h.row (Err q) new) is i in (
      passes,
      first,
      record {
        first = s.first;
        rest = s.rest;
        parts = add_learns h e ∙ s.parts;
        learned = s.learned;
      },
      few,
    )

pub no_place_for : (relations : List Relation) (old new : List Bytes) (lines : List HeldLine) (h : HeldLine)
    (r : InternRefusal) → h.verb ≡ Add → row_refusal relations lines h ≡ None → r ≡ Full
    → InternsRow old h.row (Err r) new → StopsAtLine relations lines old h new Limit
no_place_for relations old new lines h r e passes is i =
    let s : FindsNoPlaceFor old (texts_in h.row) new =
    (subst (λ (q : InternRefusal). InternsRow old h.row (Err q) new) is i).1 in
    inr (
      passes,
      record {
        first = s.first;
        next = s.next;
        rest = s.rest;
        parts = add_learns h e ∙ s.parts;
        learned = s.learned;
        unknown = s.unknown;
        full = s.full;
      },
    )

-- ---- a row with an unknown text

pub unknown_looked : (c : Catalog) (lines : List HeldLine) (h : HeldLine) (at width : ℕ) (net : Net)
    → IsNet c.relations c.texts width lines net → SuitsAt c.relations h at
    → knows_all c.texts (texts_in h.row) ≡ false → has_row (rows_at c.relations at) h.row ≡ false
    → Looked c.relations lines h None (copies_with 0 0)
unknown_looked c lines h at width net n s unknown absent = record {
  before = sym (unknown_before c h at s absent);
  after = sym (unknown_copies c lines h at width net n s unknown absent);
  at = unknown_unnamed c lines h width net n unknown;
}

pub unknown_first : (c : Catalog) (lines : List HeldLine) (h : HeldLine) (at width : ℕ) (net : Net)
    → IsNet c.relations c.texts width lines net → SuitsAt c.relations h at
    → knows_all c.texts (texts_in h.row) ≡ false → has_row (rows_at c.relations at) h.row ≡ false
    → names_row_before lines h ≡ false
unknown_first c lines h at width net n s unknown absent = named_before c.relations lines h None (copies_with 0 0)
    (unknown_looked c lines h at width net n s unknown absent)

-- a row that has no place among those that lines name is named by no line
pub looked_first : (relations : List Relation) (lines : List HeldLine) (h : HeldLine) (place : Option ℕ) (c : Copies)
    → Looked relations lines h place c → place ≡ None → names_row_before lines h ≡ false
looked_first relations lines h place c l none =
    named_before relations lines h place c l ∙ ap (λ (p : Option ℕ). is_some p) none

pub unknown_judged : (c : Catalog) (lines : List HeldLine) (h : HeldLine) (at width : ℕ) (net : Net) (full b : Bool)
    → ((ls : List HeldLine) (g : HeldLine) → IsNet c.relations c.texts width ls net → SuitsAt c.relations g at
    → g.verb ≡ Add → Looked c.relations ls g None (copies_with 0 0) → row_refusal c.relations ls g ≡ limit_if full)
    → full ≡ b → IsNet c.relations c.texts width lines net → SuitsAt c.relations h at → h.verb ≡ Add
    → knows_all c.texts (texts_in h.row) ≡ false → has_row (rows_at c.relations at) h.row ≡ false
    → row_refusal c.relations lines h ≡ limit_if b
unknown_judged c lines h at width net full b refuses is n s e unknown absent =
    refuses lines h n s e (unknown_looked c lines h at width net n s unknown absent) ∙ ap (λ (t : Bool). limit_if t) is

-- what lines come to stays as more texts are known
pub net_stays : (relations : List Relation) (old new : List Bytes) (width : ℕ) (lines : List HeldLine) (net : Net)
    → Grown old new → IsNet relations old width lines net → IsNet relations new width lines net
net_stays relations old new width lines net grown n = record {
  table = n.table;
  key = n.key ∙ sym (keys_stay relations old new width (first_lines lines) grown n.known);
  copies = n.copies;
  known = hold_each (λ (h : HeldLine). HaveCells new h.row) (first_lines lines)
      (λ h k. have_grown old new h.row grown
      (All-contains (λ (g : HeldLine). HaveCells old g.row) (first_lines lines) h n.known k));
  suit = n.suit;
}

pub net_learned : (c d : Catalog) (ts : List Bytes) (width : ℕ) (lines : List HeldLine) (net : Net)
    → d.relations ≡ c.relations → d.texts ≡ all_learned c.texts ts → IsNet c.relations c.texts width lines net
    → IsNet d.relations d.texts width lines net
net_learned c d ts width lines net same is n =
    subst (λ (rs : List Relation). IsNet rs d.texts width lines net) (sym same)
    (net_stays c.relations c.texts d.texts width lines net
    (grown_is c.texts d.texts (all_learned c.texts ts) is (all_grown c.texts ts)) n)

pub one_copy_more : (h : HeldLine) → h.verb ≡ Add → (c : Copies)
    → copies_with c.before (c.after + 1) ≡ copies_with c.before (after_verb h.verb c.after)
one_copy_more h e c = ap (λ (v : Verb). copies_with c.before (after_verb v c.after)) (sym e)

-- the copies of a new row, set in a table
pub new_judged : (c d : Catalog) (lines : List HeldLine) (h : HeldLine) (at : ℕ) (cells : List ℕ) (width : ℕ)
    (old new : Net) → AllPairs (λ r s. r.name ≢ s.name) d.relations → d.relations ≡ c.relations
    → d.texts ≡ all_learned c.texts (texts_in h.row) → HaveCells d.texts h.row → cells ≡ cells_of d.texts h.row
    → h.verb ≡ Add → IsNet c.relations c.texts width lines old → SuitsAt c.relations h at
    → knows_all c.texts (texts_in h.row) ≡ false → has_row (rows_at c.relations at) h.row ≡ false
    → SetsCopies width (key_cells width at cells) old None (copies_with 0 1) new
    → IsNet c.relations d.texts width (lines ++ h ∷ []) new
new_judged c d lines h at cells width old new differ same is have cells_are e n s unknown absent set =
    let l = unknown_looked c lines h at width old n s unknown absent in
    subst (λ (rs : List Relation). IsNet rs d.texts width (lines ++ h ∷ []) new) same
    (judged d lines h at cells width old new None (copies_with 0 0) (copies_with 0 1) differ
    (net_learned c d (texts_in h.row) width lines old same is n)
    (row_at d h at cells (subst (λ (rs : List Relation). SuitsAt rs h at) (sym same) s) have cells_are)
    (subst (λ (rs : List Relation). Looked rs lines h None (copies_with 0 0)) (sym same) l)
    (one_copy_more h e (copies_with 0 0)) set)
