-- Why a line is refused, and when it has its place.
use Rattle.std.specs.Prelude.{ℕ, zero, suc, List, [], ◌≡◌, ◌==◌, ◌⊎◌, ◌-◌, ◌<◌, ◌≤◌, Bool, true, false, Option, None}
use Rattle.std.specs.Prelude.{Some, if◌then◌else◌, length, IfSome, IfNone, pred}
use Rattle.std.proofs.Common.{refl, sym, ap, ◌∙◌, subst, inl, inr, arith}
use Rattle.std.proofs.lemmas.Bool.{eqb-true, cases_lt}
use Rattle.std.proofs.lemmas.List.Elements.{All-contains}
use Rattle.std.proofs.lemmas.Option.{slice_get_within}
use Rattle.djq_model.specs.declared.relation.Relation.{Relation}
use Rattle.djq_model.specs.Data.{Bytes, Tuple, has_row, counted_in, copies_among}
use Rattle.djq_model.specs.Known.{knows_all, texts_in, all_learned}
use Rattle.djq_model.proofs.Copies.{no_copies}
use Rattle.djq_protocol.specs.declared.limits.TheConstants.{TEXTS}
use Rattle.djq_answer_laws.proofs.Lists.{some_one}
use Rattle.djq_database.specs.Catalog.{Catalog, rows_at}
use Rattle.djq_database.specs.Cells.{HaveCells, cells_of}
use Rattle.djq_database.specs.Changes.{TellsRowCells, told_cells}
use Rattle.djq_database.proofs.Cells.{unknown_row}
use Rattle.djq_protocol.specs.declared.held.Verb.{Verb}
use Rattle.djq_protocol.specs.declared.held.Verb.TheVariants.{Delete}
use Rattle.djq_store_spec.specs.Held.{HeldLine}
use Rattle.djq_transaction.specs.declared.net.Copies.{Copies}
use Rattle.djq_transaction.specs.declared.net.Net.{Net}
use Rattle.djq_protocol.specs.declared.held.LineRefusal.TheVariants.{Absent, NoMemory}
use Rattle.djq_store_spec.specs.Lines.{first_lines, after_verb, copies_before, copies_after}
use Rattle.djq_store_spec.specs.Judging.{texts_by, texts_added, names_row_before, refusal_by, row_refusal, StopsAtLine}
use Rattle.djq_store_spec.specs.Judging.{HasItsPlace}
use Rattle.djq_transaction.specs.Net.{keys, key_cells, SuitsAt, LooksUp, IsNet}
use Rattle.djq_transaction.specs.LookUp.{AreSame, IsRowNamed, Looked}
use Rattle.djq_transaction.proofs.FirstLines.{unnamed_copies}
use Rattle.djq_transaction.proofs.Places.{IsRowAt}

-- a line whose row has cells
pub row_at : (c : Catalog) (h : HeldLine) (at : ℕ) (cells : List ℕ) → SuitsAt c.relations h at → HaveCells c.texts h.row
    → cells ≡ cells_of c.texts h.row → IsRowAt c h at cells
row_at c h at cells s have is = record {
  suits = record { relation = _; found = s.found; suits = s.suits };
  below = s.below;
  named = s.named;
  found = s.found;
  stand = record { of = s.suits; have = have; are = is };
}

-- a row with an unknown text isn't there, and no line names it
pub unknown_unnamed : (c : Catalog) (lines : List HeldLine) (h : HeldLine) (width : ℕ) (net : Net)
    → IsNet c.relations c.texts width lines net → knows_all c.texts (texts_in h.row) ≡ false
    → IsRowNamed (first_lines lines) h → ⊥
unknown_unnamed c lines h width net n unknown o =
    let g = some_one (λ (k : HeldLine). AreSame k h) (first_lines lines) o in
    unknown_row c.texts h.row unknown (subst (λ (row : Tuple). HaveCells c.texts row) g.2.row
    (All-contains (λ (k : HeldLine). HaveCells c.texts k.row) (first_lines lines) g.0 n.known g.1))

pub unknown_before : (c : Catalog) (h : HeldLine) (at : ℕ) → SuitsAt c.relations h at
    → has_row (rows_at c.relations at) h.row ≡ false → copies_before c.relations h ≡ 0
unknown_before c h at s absent = ap (λ (o : Option Relation). copies_among (counted_in o) h.row) s.found
    ∙ no_copies _ h.row absent

pub unknown_copies : (c : Catalog) (lines : List HeldLine) (h : HeldLine) (at width : ℕ) (net : Net)
    → IsNet c.relations c.texts width lines net → SuitsAt c.relations h at
    → knows_all c.texts (texts_in h.row) ≡ false → has_row (rows_at c.relations at) h.row ≡ false
    → copies_after c.relations lines h ≡ 0
unknown_copies c lines h at width net n s unknown absent =
    unnamed_copies c.relations lines h (unknown_unnamed c lines h width net n unknown)
    ∙ unknown_before c h at s absent

-- ---- a line that deletes

pub delete_absent : (relations : List Relation) (lines : List HeldLine) (h : HeldLine) → h.verb ≡ Delete
    → copies_after relations lines h ≡ 0 → row_refusal relations lines h ≡ Some Absent
delete_absent relations lines h e none = ap (λ (v : Verb). refusal_by v relations lines h) e
    ∙ ap (λ (n : ℕ). if n == 0 then Some Absent else None) none

pub delete_passes : (relations : List Relation) (lines : List HeldLine) (h : HeldLine) → h.verb ≡ Delete
    → 0 < copies_after relations lines h → row_refusal relations lines h ≡ None
delete_passes relations lines h e some = ap (λ (v : Verb). refusal_by v relations lines h) e
    ∙ by (copies_after relations lines h == 0) refl
  where
    by : (b : Bool) → (copies_after relations lines h == 0) ≡ b → (if b then Some Absent else None) ≡ None
    by false k = refl
    by true k = absurd (omega (arith, some, eqb-true (copies_after relations lines h) 0 k))

pub delete_learns : (h : HeldLine) → h.verb ≡ Delete → texts_added h ≡ []
delete_learns h e = ap (λ (v : Verb). texts_by v h.row) e

pub delete_placed : (c : Catalog) (lines : List HeldLine) (h : HeldLine) → h.verb ≡ Delete
    → 0 < copies_after c.relations lines h → length c.texts ≤ TEXTS
    → HasItsPlace c.relations lines c.texts h c.texts
delete_placed c lines h e some few = record {
  passes = delete_passes c.relations lines h e some;
  learned = ap (λ (ts : List Bytes). all_learned c.texts ts) (sym (delete_learns h e));
  few = few;
}

pub delete_stops : (c : Catalog) (lines : List HeldLine) (h : HeldLine) → h.verb ≡ Delete
    → 0 < copies_after c.relations lines h → names_row_before lines h ≡ false → length c.texts ≤ TEXTS
    → StopsAtLine c.relations lines c.texts h c.texts NoMemory
delete_stops c lines h e some first few = (
  delete_passes c.relations lines h e some,
  first,
  record { first = []; rest = texts_added h; parts = refl; learned = refl },
  few,
)

-- a place that was looked up is one
pub place_within : (c : Catalog) (at : ℕ) (cells : List ℕ) (width : ℕ) (net : Net) (place : Option ℕ) (copies : Copies)
    → LooksUp c at cells width net place copies → IfSome place (λ p. p < length (keys net))
place_within c at cells width net (Some p) copies l = slice_get_within (keys net) p (key_cells width at cells) l.0
place_within c at cells width net None copies l = tt

-- ---- the cells that were written

pub told_none : (texts : List Bytes) (read row : Tuple) (cells : List ℕ) (b : Bool) → read ≡ row → b ≡ false
    → TellsRowCells texts read (told_cells b cells) → knows_all texts (texts_in row) ≡ false
told_none texts read row cells b same e h =
    subst (λ (r : Tuple). knows_all texts (texts_in r) ≡ false) same
    (subst (λ (t : Bool). TellsRowCells texts read (told_cells t cells)) e h)

pub told_some : (texts : List Bytes) (read row : Tuple) (cells : List ℕ) (b : Bool) → read ≡ row → b ≡ true
    → TellsRowCells texts read (told_cells b cells) → HaveCells texts row × (cells ≡ cells_of texts row)
told_some texts read row cells b same e h =
    subst (λ (r : Tuple). HaveCells texts r × (cells ≡ cells_of texts r)) same
    (subst (λ (t : Bool). TellsRowCells texts read (told_cells t cells)) e h)

pub absent_there : (relations : List Relation) (read row : Tuple) (cells : List ℕ) (at : ℕ) (b : Bool) → read ≡ row
    → b ≡ false → at < length relations
    → IfNone (told_cells b cells) ((i : ℕ) → i < length relations → has_row (rows_at relations i) read ≡ false)
    → has_row (rows_at relations at) row ≡ false
absent_there relations read row cells at b same e below h =
    subst (λ (r : Tuple). has_row (rows_at relations at) r ≡ false) same
    (subst (λ (t : Bool). IfNone (told_cells t cells)
    ((i : ℕ) → i < length relations → has_row (rows_at relations i) read ≡ false)) e h at below)

-- ---- copies that were looked up

abbrev pub copies_with : ℕ → ℕ → Copies
copies_with before after = record { before = before; after = after }

pub one_copy_less : (h : HeldLine) → h.verb ≡ Delete → (c : Copies)
    → copies_with c.before (c.after - 1) ≡ copies_with c.before (after_verb h.verb c.after)
one_copy_less h e c = ap (λ (n : ℕ). copies_with c.before n)
    (less c.after ∙ ap (λ (v : Verb). after_verb v c.after) (sym e))
  where
    less : (n : ℕ) → n - 1 ≡ pred n
    less zero = omega arith
    less (suc n) = omega arith

pub some_left : (relations : List Relation) (lines : List HeldLine) (h : HeldLine) (place : Option ℕ) (c : Copies)
    → Looked relations lines h place c → (c.after ≡ 0 → ⊥) → 0 < copies_after relations lines h
some_left relations lines h place c l none = by (cases_lt 0 c.after)
  where
    by : (0 < c.after) ⊎ (c.after ≤ 0) → 0 < copies_after relations lines h
    by (inl less) = omega (arith, l.after, less)
    by (inr zero_copies) = absurd (none (omega (arith, zero_copies)))
