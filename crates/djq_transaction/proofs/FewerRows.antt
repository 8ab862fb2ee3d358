-- A catalog without a row of one relation.
use Rattle.std.specs.Prelude.{List, [], ◌∷◌, ◌≡◌, ◌≤◌, Bool, true, false, cond, length, All}
use Rattle.std.proofs.Common.{sym, ap, subst, arith}
use Rattle.std.proofs.lemmas.List.Elements.{All-head, All-tail, All-cons}
use Rattle.std.proofs.lemmas.List.Kept.{AllPairs-cons}
use Rattle.djq_model.specs.declared.relation.Relation.{Relation}
use Rattle.djq_model.specs.declared.relation.CountedRow.{CountedRow}
use Rattle.djq_model.specs.Answer.{AreDifferent}
use Rattle.djq_model.specs.Data.{Bytes, Tuple, tuple_eq, plain_of, without_row, without_copies}
use Rattle.djq_model.specs.Typed.{fits}
use Rattle.djq_model.proofs.Copies.{tuples_without}
use Rattle.djq_answer_laws.proofs.Lists.{pairs_head, pairs_tail}
use Rattle.djq_database.specs.Catalog.{IsKeptRelation, CopiesAreInRange}
use Rattle.djq_database.specs.Cells.{HaveCells}

all_without : (P : Tuple → Type 0) (ts : List Tuple) (row : Tuple) → All P ts → All P (without_row ts row)
all_without P [] row h = h
all_without P (t ∷ ts) row h = by (tuple_eq t row) (all_without P ts row (All-tail P t ts h))
  where
    by : (b : Bool) → All P (without_row ts row) → All P (cond b ts (t ∷ without_row ts row))
    by true more = All-tail P t ts h
    by false more = All-cons P t (without_row ts row) (All-head P t ts h) more

all_copies : (P : CountedRow → Type 0) (rows : List CountedRow) (row : Tuple) → All P rows
    → All P (without_copies rows row)
all_copies P [] row h = h
all_copies P (c ∷ rows) row h = by (tuple_eq c.row row) (all_copies P rows row (All-tail P c rows h))
  where
    by : (b : Bool) → All P (without_copies rows row) → All P (cond b rows (c ∷ without_copies rows row))
    by true more = All-tail P c rows h
    by false more = All-cons P c (without_copies rows row) (All-head P c rows h) more

differ_without : (ts : List Tuple) (row : Tuple) → AreDifferent ts → AreDifferent (without_row ts row)
differ_without [] row d = d
differ_without (t ∷ ts) row d = by (tuple_eq t row) (differ_without ts row (pairs_tail (λ (x y : Tuple). x ≡ y → ⊥) t ts d))
  where
    by : (b : Bool) → AreDifferent (without_row ts row) → AreDifferent (cond b ts (t ∷ without_row ts row))
    by true more = pairs_tail (λ (x y : Tuple). x ≡ y → ⊥) t ts d
    by false more = AllPairs-cons (λ (x y : Tuple). x ≡ y → ⊥) t (without_row ts row)
        (all_without (λ (y : Tuple). t ≡ y → ⊥) ts row (pairs_head (λ (x y : Tuple). x ≡ y → ⊥) t ts d)) more

long_without : (ts : List Tuple) (row : Tuple) → length (without_row ts row) ≤ length ts
long_without [] row = omega arith
long_without (t ∷ ts) row = by (tuple_eq t row) (long_without ts row)
  where
    by : (b : Bool) → length (without_row ts row) ≤ length ts
        → length (cond b ts (t ∷ without_row ts row)) ≤ length (t ∷ ts)
    by true more = omega arith
    by false more = omega (arith, more)

pub kept_without : (texts : List Bytes) (r : Relation) (row : Tuple) → IsKeptRelation texts r
    → IsKeptRelation texts (record r { rows = without_copies r.rows row })
kept_without texts r row k =
    let is = tuples_without r.rows row in
    record {
      some = k.some;
      narrow = k.narrow;
      typed = subst (λ (ts : List Tuple). All (λ t. fits r.types t ≡ true) ts) (sym is)
          (all_without (λ (t : Tuple). fits r.types t ≡ true) (plain_of r.rows) row k.typed);
      differ = subst AreDifferent (sym is) (differ_without (plain_of r.rows) row k.differ);
      cells = subst (λ (ts : List Tuple). All (HaveCells texts) ts) (sym is)
          (all_without (HaveCells texts) (plain_of r.rows) row k.cells);
      few = omega (arith, ap (λ (ts : List Tuple). length ts) is, long_without (plain_of r.rows) row, k.few);
      counted = all_copies CopiesAreInRange r.rows row k.counted;
    }
