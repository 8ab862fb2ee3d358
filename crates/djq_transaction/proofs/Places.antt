-- The place of a line's row among the rows that lines name.
use Rattle.std.specs.Prelude.{ℕ, zero, suc, List, [], ◌∷◌, ◌≡◌, ◌≢◌, ◌++◌, ◌&&◌, Bool, true, false, cond, Option}
use Rattle.std.specs.Prelude.{None, Some, length, map, fold, slice_get, slice_set, AllPairs, Contains}
use Rattle.std.specs.List.{list_any}
use Rattle.std.proofs.Common.{refl, sym, ap, ap₂, ◌∙◌, subst, arith}
use Rattle.std.proofs.lemmas.Option.{slice_get_within, get_or_from_slice_get}
use Rattle.std.proofs.lemmas.List.{map-append}
use Rattle.std.proofs.lemmas.List.Folds.{list_any-from_Any}
use Rattle.std.proofs.lemmas.List.Elements.{All-append, All-cons, All-nil, All-contains}
use Rattle.djq_model.specs.declared.relation.Relation.{Relation}
use Rattle.djq_model.specs.Data.{Bytes, Tuple, bytes_eq, tuple_eq, counted_in, counted_of, copies_among}
use Rattle.djq_answer_laws.proofs.Lists.{some_one, one_there, mapped_there, hold_each}
use Rattle.djq_database.specs.Catalog.{Catalog}
use Rattle.djq_database.specs.Cells.{HaveCells}
use Rattle.djq_store_spec.specs.Held.{HeldLine}
use Rattle.djq_transaction.specs.declared.net.Copies.{Copies}
use Rattle.djq_transaction.specs.declared.net.Net.{Net}
use Rattle.djq_store_spec.specs.Lines.{same_row, with_naming, first_lines, after_verb, copies_before, copies_after}
use Rattle.djq_transaction.specs.LookUp.{AreSame, IsRowNamed, Looked}
use Rattle.djq_transaction.specs.Net.{key_cells, row_key, copies_by, Suits, LooksUp, SetsCopies, RowsStand, IsNet}
pub use Rattle.djq_transaction.specs.Net.{IsRowAt}
use Rattle.djq_transaction.proofs.NamedRows.{are_same, place_is, firsts_step, key_tells, same_key}
use Rattle.djq_transaction.proofs.FirstLines.{AreApart, named_of, firsts_apart, unnamed_copies, same_back, copies_set}
use Rattle.djq_transaction.proofs.FirstLines.{copies_others, copies_here}

-- an element of a mapped list
pub mapped_at : {A B : Type 0} (f : A → B) (xs : List A) (i : ℕ) (y : B) → slice_get (map f xs) i ≡ Some y
    → (x : A) × (slice_get xs i ≡ Some x) × (f x ≡ y)
mapped_at f [] i y e = absurd (cc e)
mapped_at f (x ∷ xs) zero y e = (x, refl, cc e)
mapped_at f (x ∷ xs) (suc i) y e = mapped_at f xs i y e

last_at : {A : Type 0} (xs : List A) (x : A) → slice_get (xs ++ x ∷ []) (length xs) ≡ Some x
last_at [] x = refl
last_at (y ∷ xs) x = last_at xs x

pub at_contains : {A : Type 0} (xs : List A) (i : ℕ) (x : A) → slice_get xs i ≡ Some x → Contains xs x
at_contains xs i x e = (i, slice_get_within xs i x e, get_or_from_slice_get xs i x x e)

-- the lines that name rows first, with one more, by whether its row is named
with_named : (firsts : List HeldLine) (h : HeldLine) → list_any (λ g. same_row g h) firsts ≡ true
    → with_naming firsts h ≡ firsts
with_named firsts h e = ap (λ (b : Bool). cond b firsts (firsts ++ h ∷ [])) e

with_other : (firsts : List HeldLine) (h : HeldLine) → list_any (λ g. same_row g h) firsts ≡ false
    → with_naming firsts h ≡ firsts ++ h ∷ []
with_other firsts h e = ap (λ (b : Bool). cond b firsts (firsts ++ h ∷ [])) e

named_test : (firsts : List HeldLine) (g h : HeldLine) → Contains firsts g → AreSame g h
    → list_any (λ k. same_row k h) firsts ≡ true
named_test firsts g h k s = list_any-from_Any (λ (m : HeldLine). same_row m h) firsts
    (one_there (λ (m : HeldLine). same_row m h ≡ true) firsts g k (are_same g h s))

unnamed_test : (firsts : List HeldLine) (h : HeldLine) → (IsRowNamed firsts h → ⊥)
    → list_any (λ k. same_row k h) firsts ≡ false
unnamed_test firsts h none = by (list_any (λ (k : HeldLine). same_row k h) firsts) refl
  where
    by : (b : Bool) → list_any (λ (k : HeldLine). same_row k h) firsts ≡ b → b ≡ false
    by false e = refl
    by true e = absurd (none (named_of firsts h e))

-- the key that was written is the row's
pub key_written : (c : Catalog) (h : HeldLine) (at : ℕ) (cells : List ℕ) (width : ℕ)
    → AllPairs (λ r s. r.name ≢ s.name) c.relations → IsRowAt c h at cells
    → key_cells width at cells ≡ row_key c.relations c.texts width h
key_written c h at cells width differ r =
    ap₂ (λ (p : ℕ) (u : List ℕ). key_cells width p u) (sym (place_is c.relations h.relation at differ r.below r.named))
    r.stand.are

-- the copies of a row by another line of it
pub same_copies : (relations : List Relation) (lines : List HeldLine) (g h : HeldLine) → AreSame g h
    → copies_by relations lines g ≡ copies_by relations lines h
same_copies relations lines g h s =
    ap₂ (λ (name : Bytes) (row : Tuple). copies_of_row relations lines name row) s.relation s.row
  where
    copies_of_row : List Relation → List HeldLine → Bytes → Tuple → Copies
    copies_of_row rs ls name row = record {
      before = copies_among (counted_of rs name) row;
      after = fold (λ n k. cond (bytes_eq k.relation name && tuple_eq k.row row) (after_verb k.verb n) n)
          (copies_among (counted_of rs name) row) ls;
    }

pub looked : (c : Catalog) (lines : List HeldLine) (h : HeldLine) (at : ℕ) (cells : List ℕ) (width : ℕ) (net : Net)
    (place : Option ℕ) (copies : Copies) → AllPairs (λ r s. r.name ≢ s.name) c.relations
    → IsNet c.relations c.texts width lines net → IsRowAt c h at cells → LooksUp c at cells width net place copies
    → Looked c.relations lines h place copies
looked c lines h at cells width net (Some place) copies differ n r l =
    let key = key_written c h at cells width differ r in
    let m = mapped_at (row_key c.relations c.texts width) (first_lines lines) place
    (row_key c.relations c.texts width h)
    (subst (λ (ks : List (List ℕ)). slice_get ks place ≡ Some (row_key c.relations c.texts width h)) n.key
    (l.0 ∙ ap (λ (k : List ℕ). Some k) key)) in
    let k = at_contains (first_lines lines) place m.0 m.1 in
    let s : AreSame m.0 h = key_tells c.relations c.texts width m.0 h
    (All-contains (Suits c.relations) (first_lines lines) m.0 n.suit k) r.suits
    (All-contains (λ (g : HeldLine). HaveCells c.texts g.row) (first_lines lines) m.0 n.known k) r.stand.have m.2 in
    let o = mapped_at (copies_by c.relations lines) (first_lines lines) place copies
    (subst (λ (cs : List Copies). slice_get cs place ≡ Some copies) n.copies l.1) in
    let one : o.0 ≡ m.0 = (let b : Some o.0 ≡ Some m.0 = sym o.1 ∙ m.1 in cc b) in
    let is : copies ≡ copies_by c.relations lines h =
    sym o.2 ∙ ap (λ (g : HeldLine). copies_by c.relations lines g) one ∙ same_copies c.relations lines m.0 h s in
    record {
      before = ap (λ (k : Copies). k.before) is;
      after = ap (λ (k : Copies). k.after) is;
      at = (m.0, m.1, same_back m.0 h s);
    }
looked c lines h at cells width net None copies differ n r l =
    let key = key_written c h at cells width differ r in
    let firsts = first_lines lines in
    let none : IsRowNamed firsts h → ⊥ = (λ (o : IsRowNamed firsts h).
    let g = some_one (λ (k : HeldLine). AreSame k h) firsts o in
    l.0 (subst (λ (ks : List (List ℕ)). Contains ks (key_cells width at cells)) (sym n.key)
    (subst (λ (k : List ℕ). Contains (map (row_key c.relations c.texts width) firsts) k)
    (same_key c.relations c.texts width g.0 h g.2 ∙ sym key)
    (mapped_there (row_key c.relations c.texts width) firsts g.0 g.1)))) in
    let before : copies.before ≡ copies_before c.relations h =
    l.2 h.row r.stand ∙ ap (λ (o : Option Relation). copies_among (counted_in o) h.row) (sym r.found) in
    record {
      before = before;
      after = l.1 ∙ before ∙ sym (unnamed_copies c.relations lines h none);
      at = none;
    }

-- the copies after the line, set where the row was looked up
pub judged : (c : Catalog) (lines : List HeldLine) (h : HeldLine) (at : ℕ) (cells : List ℕ) (width : ℕ)
    (old new : Net) (place : Option ℕ) (copies after : Copies) → AllPairs (λ r s. r.name ≢ s.name) c.relations
    → IsNet c.relations c.texts width lines old → IsRowAt c h at cells → Looked c.relations lines h place copies
    → after ≡ record { before = copies.before; after = after_verb h.verb copies.after }
    → SetsCopies width (key_cells width at cells) old place after new
    → IsNet c.relations c.texts width (lines ++ h ∷ []) new
judged c lines h at cells width old new (Some place) copies after differ n r l is s =
    let firsts = first_lines lines in
    let g = l.at in
    let e : first_lines (lines ++ h ∷ []) ≡ firsts = firsts_step lines h
    ∙ with_named firsts h (named_test firsts g.0 h (at_contains firsts place g.0 g.1) (same_back h g.0 g.2)) in
    let of : copies_by c.relations lines h ≡ copies_by c.relations lines g.0 =
    same_copies c.relations lines h g.0 g.2 in
    let value : after ≡ record {
      before = copies_before c.relations g.0;
      after = after_verb h.verb (copies_after c.relations lines g.0);
    } = is ∙ ap₂ (λ (a b : ℕ). record { before = a; after = after_verb h.verb b })
    (l.before ∙ ap (λ (k : Copies). k.before) of) (l.after ∙ ap (λ (k : Copies). k.after) of) in
    subst (λ (fs : List HeldLine). RowsStand c.relations c.texts width (lines ++ h ∷ []) fs new) (sym e) (record {
      table = s.0;
      key = s.1 ∙ n.key;
      copies = s.2 ∙ ap₂ (λ (cs : List Copies) (k : Copies). slice_set cs place k) n.copies value
          ∙ copies_set c.relations lines h firsts place g.0 (firsts_apart [] lines none_apart) g.1 g.2;
      known = n.known;
      suit = n.suit;
    })
  where
    none_apart : AreApart []
    none_apart i j d less within = absurd (omega (arith, within))
judged c lines h at cells width old new None copies after differ n r l is s =
    let firsts = first_lines lines in
    let key = key_written c h at cells width differ r in
    let e : first_lines (lines ++ h ∷ []) ≡ firsts ++ h ∷ [] = firsts_step lines h
    ∙ with_other firsts h (unnamed_test firsts h l.at) in
    let others = copies_others c.relations lines h firsts (hold_each (λ (g : HeldLine). AreSame h g → ⊥) firsts
    (λ g k t. l.at (one_there (λ (m : HeldLine). AreSame m h) firsts g k (same_back h g t)))) in
    let value : after ≡ copies_by c.relations (lines ++ h ∷ []) h =
    is ∙ ap₂ (λ (a b : ℕ). record { before = a; after = after_verb h.verb b }) l.before l.after
    ∙ sym (copies_here c.relations lines h h (record { relation = refl; row = refl })) in
    subst (λ (fs : List HeldLine). RowsStand c.relations c.texts width (lines ++ h ∷ []) fs new) (sym e) (record {
      table = s.0;
      key = s.1 ∙ ap₂ (λ (ks : List (List ℕ)) (k : List ℕ). ks ++ k ∷ []) n.key key
          ∙ sym (map-append (row_key c.relations c.texts width) firsts (h ∷ []));
      copies = s.2
          ∙ ap₂ (λ (cs : List Copies) (k : Copies). cs ++ k ∷ []) (n.copies ∙ sym others) value
          ∙ sym (map-append (copies_by c.relations (lines ++ h ∷ [])) firsts (h ∷ []));
      known = All-append (λ (g : HeldLine). HaveCells c.texts g.row) firsts (h ∷ []) n.known
          (All-cons (λ (g : HeldLine). HaveCells c.texts g.row) h [] r.stand.have
          (All-nil (λ (g : HeldLine). HaveCells c.texts g.row)));
      suit = All-append (Suits c.relations) firsts (h ∷ []) n.suit
          (All-cons (Suits c.relations) h [] r.suits (All-nil (Suits c.relations)));
    })
