-- Without rows there are no entries, so none stands twice, and no slot has to have copies.
use Rattle.std.proofs.Common.{◌≡◌, ◌∙◌, ℕ, List, [], ap, ap₂}
use Rattle.djq_arena.specs.Rows.{SlotRows}
use Rattle.djq_index.specs.Entries.{Entry}
use Rattle.djq_database.specs.Rows.{Rows, entries_with_copies}
use Rattle.djq_database.proofs.Slots.{entries_nil, none_kept}
use Rattle.djq_database.proofs.rows.Rows.new.Goals as goal

pub invariant_of-result : goal.invariant_of-result
invariant_of-result c = none_kept c.in_ok-arena.arena c.new-2.result.items c.laws.ensures
    (ap (λ (s : SlotRows). s.room) c.in_ok-arena.ensures)
    (ap (λ (s : SlotRows). s.rows) c.in_ok-arena.ensures)

pub returns : goal.returns
returns c =
    let none : entries_with_copies c.new-2.result.items c.in_ok-arena.arena.rows ≡ [] =
    ap (λ (s : SlotRows). entries_with_copies c.new-2.result.items s.rows) c.in_ok-arena.ensures
    ∙ entries_nil c.new-2.result.items in
    let made : Rows → Rows = λ r. r in
    ap₂ (λ (n : ℕ) (es : List Entry). made (record { width = n; entries = es }))
    (ap (λ (s : SlotRows). s.width) c.in_ok-arena.ensures) none
