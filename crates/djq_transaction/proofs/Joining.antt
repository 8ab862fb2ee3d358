-- The groups of the rows up to a place, with one place more.
use Rattle.std.specs.Prelude.{ℕ, zero, suc, List, [], ◌∷◌, ◌≡◌, ◌==◌, ◌&&◌, ◌+◌, ◌++◌, ◌≤◌, Bool, true, false, cond, filter}
use Rattle.std.specs.Prelude.{length, nat_lt, take, All}
use Rattle.std.proofs.Common.{refl, sym, ap, ◌∙◌, arith}
use Rattle.std.proofs.lemmas.Bool.{eqb-true}
use Rattle.std.proofs.lemmas.List.{append-nil, take_all, length-map}
use Rattle.std.proofs.lemmas.List.Elements.{All-filter, All-take, filter-append}
use Rattle.djq_model.specs.declared.relation.Relation.{Relation}
use Rattle.djq_model.specs.Data.{Bytes}
use Rattle.djq_answer_laws.proofs.Lists.{first_holds}
use Rattle.djq_database.specs.declared.relation_id.RelationId.{RelationId}
use Rattle.djq_reach.specs.declared.group.Group.{Group}
use Rattle.djq_store_spec.specs.Held.{HeldLine}
use Rattle.djq_store_spec.specs.Lines.{first_lines, line_comes, line_goes, copies_before, copies_after}
use Rattle.djq_transaction.specs.declared.net.Copies.{Copies}
use Rattle.djq_transaction.specs.declared.net.Net.{Net}
use Rattle.djq_transaction.specs.Net.{copies_came, copies_went, copies_by, Suits, IsNet}
use Rattle.djq_transaction.specs.Grouped.{grouped_rows, IsEntryOf, JoinsGroups}
use Rattle.djq_transaction.proofs.Entries.{HasLine}

-- a row that comes doesn't go
pub came_stays : (before after : ℕ) → ((before == 0) && nat_lt 0 after) ≡ true → (nat_lt 0 before && (after == 0)) ≡ false
came_stays zero after e = refl
came_stays (suc before) after e =
    let none = eqb-true (suc before) 0 (first_holds (suc before == 0) (nat_lt 0 after) e) in absurd (omega (arith, none))

module _ (relations : List Relation) (texts : List Bytes) (lines : List HeldLine) (place : ℕ) (copies : Copies)
    (id : RelationId) (cells : List ℕ) (suit : All (Suits relations) (first_lines lines))
    (l : HasLine relations lines place copies) (entry : IsEntryOf relations texts l.line id cells) where
  abbrev firsts : List HeldLine
  firsts = first_lines lines

  -- the groups of the rows up to a place that pass
  abbrev Are : (HeldLine → Bool) → ℕ → List Group → Type 0
  Are p at groups = groups ≡ grouped_rows relations texts (filter p (take at firsts))

  joins : (p : HeldLine → Bool) (old new : List Group) → p l.line ≡ true → Are p place old
      → JoinsGroups old id cells new → Are p (place + 1) new
  joins p old new e are more =
      more relations texts (filter p (take place firsts)) l.line
      (All-filter p (Suits relations) (take place firsts) (All-take (Suits relations) place firsts suit)) entry are
      ∙ ap (λ (hs : List HeldLine). grouped_rows relations texts hs) (sym (ap (λ (hs : List HeldLine). filter p hs) l.more
      ∙ filter-append p (take place firsts) (l.line ∷ [])
      ∙ ap (λ (b : Bool). filter p (take place firsts) ++ cond b (l.line ∷ []) []) e))

  stays : (p : HeldLine → Bool) (old : List Group) → p l.line ≡ false → Are p place old → Are p (place + 1) old
  stays p old e are =
      are ∙ ap (λ (hs : List HeldLine). grouped_rows relations texts hs) (sym (ap (λ (hs : List HeldLine). filter p hs) l.more
      ∙ filter-append p (take place firsts) (l.line ∷ [])
      ∙ ap (λ (b : Bool). filter p (take place firsts) ++ cond b (l.line ∷ []) []) e
      ∙ append-nil (filter p (take place firsts))))

  came_is : copies_came copies ≡ line_comes relations lines l.line
  came_is = ap (λ (k : Copies). copies_came k) l.copies_are

  went_is : copies_went copies ≡ line_goes relations lines l.line
  went_is = ap (λ (k : Copies). copies_went k) l.copies_are

  pub came_joins : (old new : List Group) → copies_came copies ≡ true → Are (line_comes relations lines) place old
      → JoinsGroups old id cells new → Are (line_comes relations lines) (place + 1) new
  came_joins old new e are more = joins (line_comes relations lines) old new (sym came_is ∙ e) are more

  pub went_joins : (old new : List Group) → copies_went copies ≡ true → Are (line_goes relations lines) place old
      → JoinsGroups old id cells new → Are (line_goes relations lines) (place + 1) new
  went_joins old new e are more = joins (line_goes relations lines) old new (sym went_is ∙ e) are more

  pub not_came : (old : List Group) → copies_came copies ≡ false → Are (line_comes relations lines) place old
      → Are (line_comes relations lines) (place + 1) old
  not_came old e are = stays (line_comes relations lines) old (sym came_is ∙ e) are

  pub not_went : (old : List Group) → copies_went copies ≡ false → Are (line_goes relations lines) place old
      → Are (line_goes relations lines) (place + 1) old
  not_went old e are = stays (line_goes relations lines) old (sym went_is ∙ e) are

  pub came_for_good : copies_came copies ≡ true → copies_went copies ≡ false
  came_for_good e = went_is
      ∙ came_stays (copies_before relations l.line) (copies_after relations lines l.line) (sym came_is ∙ e)

pub all_grouped : (relations : List Relation) (texts : List Bytes) (width : ℕ) (lines : List HeldLine) (net : Net)
    (place : ℕ) (p : HeldLine → Bool) → IsNet relations texts width lines net → length net.copies.items ≤ place
    → grouped_rows relations texts (filter p (take place (first_lines lines)))
    ≡ grouped_rows relations texts (filter p (first_lines lines))
all_grouped relations texts width lines net place p n high =
    ap (λ (hs : List HeldLine). grouped_rows relations texts (filter p hs)) (take_all place (first_lines lines) (omega (
      arith,
      high,
      ap (λ (cs : List Copies). length cs) n.copies,
      length-map (first_lines lines) (copies_by relations lines),
    )))
