-- The line at a place of a net.
use Rattle.std.specs.Prelude.{ℕ, zero, suc, List, [], ◌∷◌, ◌≡◌, ◌+◌, ◌++◌, ◌<◌, Option, Some, length, take, slice_get}
use Rattle.std.specs.Prelude.{slice_index_or, All}
use Rattle.std.specs.Option.{option_map}
use Rattle.std.proofs.Common.{refl, sym, ap, ◌∙◌, arith}
use Rattle.std.proofs.lemmas.List.{length-map}
use Rattle.std.proofs.lemmas.List.Elements.{All-nil, All-cons, All-contains}
use Rattle.std.proofs.lemmas.Option.{slice_get-get_or, slice_get-map, slice_get_read}
use Rattle.djq_model.specs.declared.relation.Relation.{Relation}
use Rattle.djq_model.specs.Data.{Bytes}
use Rattle.djq_answer_laws.proofs.Lists.{pairs_head, pairs_tail}
use Rattle.djq_store_spec.specs.Held.{HeldLine, no_line}
use Rattle.djq_transaction.specs.declared.net.Copies.{Copies}
use Rattle.djq_transaction.specs.declared.net.Net.{Net}
use Rattle.djq_store_spec.specs.Lines.{first_lines}
use Rattle.djq_transaction.specs.LookUp.{AreSame}
use Rattle.djq_transaction.specs.Net.{copies_by, IsNet}
use Rattle.djq_transaction.proofs.FirstLines.{AreApart, firsts_apart}
use Rattle.djq_transaction.proofs.Places.{at_contains}
use Rattle.djq_transaction.proofs.Transactions.{take_one_more}

pub record HasLine (relations : List Relation) (lines : List HeldLine) (place : ℕ) (copies : Copies) : Type 0 where
  pub line : HeldLine
  pub below : place < length (first_lines lines)
  pub there : slice_get (first_lines lines) place ≡ Some line
  pub copies_are : copies ≡ copies_by relations lines line
  pub more : take (place + 1) (first_lines lines) ≡ take place (first_lines lines) ++ line ∷ []
  pub apart : All (λ g. AreSame g line → ⊥) (take place (first_lines lines))

-- the lines before one in a list, and the one
before_apart : (firsts : List HeldLine) (place : ℕ) (h : HeldLine) → AreApart firsts → slice_get firsts place ≡ Some h
    → All (λ g. AreSame g h → ⊥) (take place firsts)
before_apart [] place h d e = absurd (cc e)
before_apart (f ∷ firsts) zero h d e = All-nil (λ (g : HeldLine). AreSame g h → ⊥)
before_apart (f ∷ firsts) (suc place) h d e =
    All-cons (λ (g : HeldLine). AreSame g h → ⊥) f (take place firsts)
    (All-contains (λ (g : HeldLine). AreSame f g → ⊥) firsts h
    (pairs_head (λ (p q : HeldLine). AreSame p q → ⊥) f firsts d) (at_contains firsts place h e))
    (before_apart firsts place h (pairs_tail (λ (p q : HeldLine). AreSame p q → ⊥) f firsts d) e)

pub all_apart : (lines : List HeldLine) → AreApart (first_lines lines)
all_apart lines = firsts_apart [] lines (λ i j d less within. absurd (omega (arith, within)))

pub line_of : (relations : List Relation) (texts : List Bytes) (width : ℕ) (lines : List HeldLine) (net : Net) (place : ℕ)
    (copies : Copies) → IsNet relations texts width lines net → place < length net.copies.items
    → copies ≡ slice_index_or net.copies.items place copies → HasLine relations lines place copies
line_of relations texts width lines net place copies n less is =
    let firsts = first_lines lines in
    let h : HeldLine = slice_index_or firsts place no_line in
    let below : place < length firsts = omega (
      arith,
      less,
      ap (λ (cs : List Copies). length cs) n.copies,
      length-map firsts (copies_by relations lines),
    ) in
    let there : slice_get firsts place ≡ Some h = slice_get-get_or firsts place no_line below in
    let both : Some copies ≡ Some (copies_by relations lines h) =
    sym (slice_get_read net.copies.items (length net.copies.items) place copies refl less is)
    ∙ ap (λ (cs : List Copies). slice_get cs place) n.copies
    ∙ slice_get-map (copies_by relations lines) firsts place
    ∙ ap (λ (o : Option HeldLine). option_map (copies_by relations lines) o) there in
    record {
      line = h;
      below = below;
      there = there;
      copies_are = cc both;
      more = take_one_more firsts place h no_line below refl;
      apart = before_apart firsts place h (all_apart lines) there;
    }
