-- Different numbers make different tuples of one cell, and the leaf has neither of the two.
use Rattle.std.proofs.Common.{◌≡◌, ◌≢◌, ℕ, List, [], ◌∷◌, ◌++◌, length, ap, ap₂, subst, sym, ◌∙◌, inl, inr, arith}
use Rattle.std.proofs.Common.{rules}
use Rattle.std.specs.Prelude.{slice_index}
use Rattle.djq_index.specs.Tuple.{same}
use Rattle.djq_index.specs.Entries.{Entry, count_of}
use Rattle.djq_index.proofs.Tuples.{same_cases, one_le, one_other}
use Rattle.djq_tree.specs.Labels.{label_at}
use Rattle.djq_reduct.specs.Tables.{entries_at}
use Rattle.djq_propagate.specs.Batches.{times, AreNew}
use Rattle.djq_examples_tables.proofs.propagate.put_both.Goals as goal

two_new : (w a b : ℕ) (es : List Entry) → w ≡ 1 → a ≢ b → count_of es (a ∷ []) ≡ 0 → count_of es (b ∷ []) ≡ 0
    → AreNew w es ((a ∷ []) ∷ (b ∷ []) ∷ [])
unfolding times
two_new w a b es one_wide apart no_a no_b = record {
  wide = λ v some. elim (same_cases (a ∷ []) v) [
    | inl here ↦ sym (ap (λ (x : List ℕ). length x) here) ∙ sym one_wide
    | inr other ↦ elim (same_cases (b ∷ []) v) [
      | inl there ↦ sym (ap (λ (x : List ℕ). length x) there) ∙ sym one_wide
      | inr none ↦ absurd (omega (arith, one_other (a ∷ []) v other, one_other (b ∷ []) v none))
    ]
  ];
  differ = λ v. elim (same_cases (a ∷ []) v) [
    | inr other ↦ omega (arith, one_other (a ∷ []) v other, one_le (same (b ∷ []) v))
    | inl here ↦ elim (same_cases (b ∷ []) v) [
      | inl there ↦ absurd (apart (ap (λ (x : List ℕ). slice_index x 0) (here ∙ sym there)))
      | inr none ↦ omega (arith, one_other (b ∷ []) v none, one_le (same (a ∷ []) v))
    ]
  ];
  absent = λ v some. elim (same_cases (a ∷ []) v) [
    | inl here ↦ subst (λ (x : List ℕ). count_of es x ≡ 0) here no_a
    | inr other ↦ elim (same_cases (b ∷ []) v) [
      | inl there ↦ subst (λ (x : List ℕ). count_of es x ≡ 0) there no_b
      | inr none ↦ absurd (omega (arith, one_other (a ∷ []) v other, one_other (b ∷ []) v none))
    ]
  ];
}

pub insert_leaf_many-requires-clause-fresh : goal.insert_leaf_many-requires-clause-fresh
insert_leaf_many-requires-clause-fresh g c =
    let es = entries_at c.args.reducts.now.tables c.args.leaf in
    let width = length (label_at c.args.reducts.now.tree.labels c.args.leaf) in
    let one_cell : length (label_at c.args.reducts.now.tree.labels c.args.leaf) ≡ 1 = search rules in
    let no_first : count_of (entries_at c.args.reducts.now.tables c.args.leaf) (c.args.first ∷ []) ≡ 0 = search rules in
    let no_second : count_of (entries_at c.args.reducts.now.tables c.args.leaf) (c.args.second ∷ []) ≡ 0 = search
    rules in
    let one_item : c.push.new.self.items ≡ (c.args.first ∷ []) ∷ [] =
    c.in_ok-push.ensures.items
    ∙ ap₂ (λ (xs : List (List ℕ)) (x : List ℕ). xs ++ x ∷ []) c.new-tuples.ensures.items c.from_slice.ensures in
    let both : c.deref.result.now ≡ (c.args.first ∷ []) ∷ (c.args.second ∷ []) ∷ [] =
    c.deref.ensures.value ∙ c.in_ok-push-2.ensures.items
    ∙ ap₂ (λ (xs : List (List ℕ)) (x : List ℕ). xs ++ x ∷ []) one_item c.from_slice-2.ensures in
    subst (λ (us : List (List ℕ)). AreNew width es us) (sym both)
    (two_new width c.args.first c.args.second es one_cell c.if-first-second.false no_first no_second)
