-- How much tables grow over equal meets where many tuples come, and how many of theirs are marked then.
use Rattle.std.proofs.Common.{◌≡◌, ℕ, ◌+◌, ◌<◌, ◌≤◌, true, List, ◌++◌, length, ap, ◌∙◌, arith, length-append}
use Rattle.djq_index.specs.Entries.{Entry, count_of, marks, plain}
use Rattle.djq_index.specs.Table.{Table}
use Rattle.djq_index.proofs.Tuples.{cnt_split, count_of-append}
use Rattle.djq_tree.specs.Tree.{Tree}
use Rattle.djq_tree.specs.Flat.{HasEqualMeets}
use Rattle.djq_reduct.specs.Tables.{entries_at}
use Rattle.djq_reduct.specs.Reducts.{IsReducts}
use Rattle.djq_reduct.specs.Marks.{IsBare}
use Rattle.djq_propagate.specs.Walks.{InsertedUpwards, CameAs}
use Rattle.djq_propagate.specs.Touches.{HaveMarksUpTo}
use Rattle.djq_propagate.proofs.Costs.{length_even}
use Rattle.djq_propagate.proofs.RefusedCosts.{more_length}
use Rattle.djq_propagate.proofs.Updates.{both, leaf_below, reducts_lived}
use Rattle.djq_propagate.proofs.Batches.{few_none, one_lived}

-- a tuple that comes brings one at most to each table
pub one_come : (t : Tree) (mid new : List Table) (a : ℕ) (u : List ℕ) → HasEqualMeets t → IsReducts (both t mid)
    → a < t.leaves → InsertedUpwards t mid new a u → (i : ℕ)
    → length (entries_at new i) ≤ length (entries_at mid i) + 1
one_come t mid new a u meets r h l i =
    more_length t mid new a meets r (reducts_lived t mid new a u r h l)
    (λ j v low apart. ap (λ (es : List Entry). count_of es v)
    (l.below j (leaf_below t a j r.family.is_tree low apart)))
    (one_lived t mid new a u l) i

-- entries are marked or plain
split_length : (es : List Entry) → length es ≡ length (marks es) + length (plain es)
split_length es =
    length_even es (marks es ++ plain es) (λ v. omega (arith, cnt_split es v, count_of-append (marks es) (plain es) v))
    ∙ length-append (marks es) (plain es)

-- what came is what is marked
pub marks_come : (n : ℕ) (old new : List Table) → IsBare old → CameAs true old new
    → ((i : ℕ) → length (entries_at new i) ≤ length (entries_at old i) + n) → HaveMarksUpTo n new
marks_come n old new bare came grows = record {
  each = λ i. omega (
    arith,
    grows i,
    split_length (entries_at new i),
    split_length (entries_at old i),
    few_none 0 (marks (entries_at old i)) (λ v. bare.none i v),
    length_even (plain (entries_at new i)) (plain (entries_at old i)) (λ v. came.same i v),
  );
}
