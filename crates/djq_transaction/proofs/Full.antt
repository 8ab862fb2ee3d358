-- When a relation has as many rows as it may, together with those that lines have added.
use Rattle.std.specs.Prelude.{ℕ, List, [], ◌∷◌, ◌≡◌, ◌≢◌, ◌==◌, ◌+◌, ◌-◌, ◌&&◌, ◌<◌, ◌≤◌, Bool, true, false, cond}
use Rattle.std.specs.Prelude.{Option, Some, length, map, filter, nat_le, slice_get, All, AllPairs}
use Rattle.std.specs.List.{zip}
use Rattle.std.proofs.Common.{refl, sym, ap, ap₂, ◌∙◌, arith}
use Rattle.std.proofs.lemmas.Bool.{eq-eqb, eqb-true, false_from_ne_true, le-leb, lt-leb, leb-true, leb-false}
use Rattle.std.proofs.lemmas.List.Elements.{All-head, All-tail, All-contains}
use Rattle.std.proofs.lemmas.List.Folds.{find_at}
use Rattle.std.proofs.lemmas.Option.{get_or_from_slice_get}
use Rattle.djq_model.specs.declared.relation.Relation.{Relation}
use Rattle.djq_model.specs.Data.{Bytes, bytes_eq, plain_of, counted_in}
use Rattle.djq_model.specs.Equality.{bytes_eq-decides}
use Rattle.djq_protocol.specs.declared.limits.TheConstants.{ROWS}
use Rattle.djq_answer_laws.proofs.Lists.{hold_each}
use Rattle.djq_database.specs.Catalog.{Catalog, no_relation, relation_at, rows_at}
use Rattle.djq_store_spec.specs.Held.{HeldLine}
use Rattle.djq_transaction.specs.declared.net.Copies.{Copies}
use Rattle.djq_transaction.specs.declared.net.Net.{Net}
use Rattle.djq_store_spec.specs.Lines.{first_lines, copies_before}
use Rattle.djq_store_spec.specs.Judging.{rows_reached}
use Rattle.djq_transaction.specs.Net.{keys, is_new_in, relation_place, row_key, copies_by, Suits, SuitsAt, IsNet}
use Rattle.djq_transaction.proofs.NamedRows.{place_is, found_named}

-- a line's relation stands at a place where it has the name of the one there
place_tells : (relations : List Relation) (at : ℕ) (name : Bytes) (g : HeldLine)
    → AllPairs (λ r s. r.name ≢ s.name) relations → at < length relations → (relation_at relations at).name ≡ name
    → Suits relations g → (relation_place relations g.relation == at) ≡ bytes_eq g.relation name
place_tells relations at name g differ below named s = by (bytes_eq g.relation name) refl
  where
    by : (b : Bool) → bytes_eq g.relation name ≡ b → (relation_place relations g.relation == at) ≡ b
    by true e = eq-eqb (relation_place relations g.relation) at
        (place_is relations g.relation at differ below (named ∙ sym ((bytes_eq-decides g.relation name).0 e)))
    by false e = false_from_ne_true (relation_place relations g.relation == at) (λ k.
        let there : slice_get relations at ≡ Some s.relation =
        ap (λ (i : ℕ). slice_get relations i) (sym (eqb-true (relation_place relations g.relation) at k))
        ∙ sym (find_at (λ (r : Relation). bytes_eq r.name g.relation) relations) ∙ s.found in
        let same : g.relation ≡ name = sym (found_named relations g.relation s.relation s.found)
        ∙ ap (λ (r : Relation). r.name) (sym (get_or_from_slice_get relations at s.relation no_relation there))
        ∙ named in
        let yes : bytes_eq g.relation name ≡ true = (bytes_eq-decides g.relation name).1 same in
        cc (yes, e))

pub counted : {A : Type 0} (b : Bool) (x : A) (ys : List A) → length (cond b (x ∷ ys) ys) ≡ cond b 1 0 + length ys
counted true x ys = omega arith
counted false x ys = omega arith

-- the new rows of a relation are the lines that name one first
new_entries : (relations : List Relation) (key : HeldLine → List ℕ) (lines : List HeldLine) (at : ℕ) (name : Bytes)
    (firsts : List HeldLine)
    → All (λ g. (is_new_in at (key g, copies_by relations lines g))
    ≡ (bytes_eq g.relation name && (copies_before relations g == 0))) firsts
    → length (filter (is_new_in at) (zip (map key firsts) (map (copies_by relations lines) firsts)))
    ≡ length (filter (λ g. bytes_eq g.relation name && (copies_before relations g == 0)) firsts)
new_entries relations key lines at name [] same = refl
new_entries relations key lines at name (g ∷ firsts) same =
    let P : HeldLine → Type 0 = (λ (k : HeldLine). (is_new_in at (key k, copies_by relations lines k))
    ≡ (bytes_eq k.relation name && (copies_before relations k == 0))) in
    counted (is_new_in at (key g, copies_by relations lines g)) (key g, copies_by relations lines g)
    (filter (is_new_in at) (zip (map key firsts) (map (copies_by relations lines) firsts)))
    ∙ ap₂ (λ (b : Bool) (n : ℕ). cond b 1 0 + n) (All-head P g firsts same)
    (new_entries relations key lines at name firsts (All-tail P g firsts same))
    ∙ sym (counted (bytes_eq g.relation name && (copies_before relations g == 0)) g
    (filter (λ (k : HeldLine). bytes_eq k.relation name && (copies_before relations k == 0)) firsts))

all_tell : (relations : List Relation) (texts : List Bytes) (width : ℕ) (lines : List HeldLine) (at : ℕ) (name : Bytes)
    (firsts : List HeldLine) → AllPairs (λ r s. r.name ≢ s.name) relations → at < length relations
    → (relation_at relations at).name ≡ name → All (Suits relations) firsts
    → All (λ g. (is_new_in at (row_key relations texts width g, copies_by relations lines g))
    ≡ (bytes_eq g.relation name && (copies_before relations g == 0))) firsts
all_tell relations texts width lines at name firsts differ below named suit =
    hold_each (λ (g : HeldLine). (is_new_in at (row_key relations texts width g, copies_by relations lines g))
    ≡ (bytes_eq g.relation name && (copies_before relations g == 0))) firsts
    (λ g k. ap (λ (b : Bool). b && (copies_before relations g == 0))
    (place_tells relations at name g differ below named (All-contains (Suits relations) firsts g suit k)))

-- the rows together, counted in a table
pub together_is : (c : Catalog) (width : ℕ) (lines : List HeldLine) (h : HeldLine) (at : ℕ) (net : Net)
    → AllPairs (λ r s. r.name ≢ s.name) c.relations → IsNet c.relations c.texts width lines net
    → SuitsAt c.relations h at → rows_reached c.relations lines h.relation
    ≡ length (rows_at c.relations at) + length (filter (is_new_in at) (zip (keys net) net.copies.items))
together_is c width lines h at net differ n s =
    ap₂ (λ (a b : ℕ). a + b) (ap (λ (o : Option Relation). length (plain_of (counted_in o))) s.found)
    (sym (ap₂ (λ (ks : List (List ℕ)) (cs : List Copies). length (filter (is_new_in at) (zip ks cs))) n.key n.copies
    ∙ new_entries c.relations (row_key c.relations c.texts width) lines at h.relation (first_lines lines)
    (all_tell c.relations c.texts width lines at h.relation (first_lines lines) differ s.below s.named n.suit)))

-- ---- the tests

pub filter_short : {A : Type 0} (p : A → Bool) (xs : List A) → length (filter p xs) ≤ length xs
filter_short p [] = omega arith
filter_short p (x ∷ xs) = by (p x) (filter_short p xs)
  where
    by : (b : Bool) → length (filter p xs) ≤ length xs
        → length (cond b (x ∷ filter p xs) (filter p xs)) ≤ length (x ∷ xs)
    by true less = omega (arith, less)
    by false less = omega (arith, less)

pub full_alone : (rows count all : ℕ) → all ≡ rows + count → ROWS ≤ rows → true ≡ nat_le ROWS all
full_alone rows count all e high = sym (le-leb ROWS all (omega (arith, e, high)))

pub room_left : (rows count len all : ℕ) → all ≡ rows + count → count ≤ len → rows < ROWS → len < ROWS - rows
    → false ≡ nat_le ROWS all
room_left rows count len all e low less room = sym (lt-leb ROWS all (omega (arith, e, low, less, room)))

pub full_counted : (rows count all : ℕ) → all ≡ rows + count → rows < ROWS
    → nat_le (ROWS - rows) count ≡ nat_le ROWS all
full_counted rows count all e less = by (nat_le (ROWS - rows) count) refl
  where
    by : (b : Bool) → nat_le (ROWS - rows) count ≡ b → b ≡ nat_le ROWS all
    by true k = sym (le-leb ROWS all (omega (arith, e, less, leb-true (ROWS - rows) count k)))
    by false k = sym (lt-leb ROWS all (omega (arith, e, less, leb-false (ROWS - rows) count k)))
