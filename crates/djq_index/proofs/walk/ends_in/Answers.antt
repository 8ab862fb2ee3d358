-- By the groups' invariant a head knows the ends of its group, and a group without a head is empty.
use Rattle.std.proofs.Common.{sym, ◌∙◌, arith}
use Rattle.djq_index.specs.Raw.{entries_of}
use Rattle.djq_index.proofs.Parts.{no_ends, row_at_row, row_below}
use Rattle.djq_index.proofs.walk.ends_in.Goals as goal

pub known_ends-requires : goal.known_ends-requires
known_ends-requires c = omega (
  arith,
  row_below c.args.raw.now.keys.room c.args.raw.now.keys.rows c.in-Some.head
      c.args.cells.now c.requires.heads.keys.below c.in-Some.ensures,
  c.requires.heads.ends,
)

pub returns-in-None : goal.returns-in-None
returns-in-None c =
    c.none.ensures
    ∙ sym (no_ends c.args.raw.now.key.items (entries_of c.args.raw.now) c.args.cells.now
    (c.requires.heads.groups.none c.args.cells.now c.in-None.ensures))

pub returns-in-Some : goal.returns-in-Some
returns-in-Some c = c.known_ends.ensures
    ∙ c.requires.heads.groups.headed c.in-Some.head c.args.cells.now
    (row_at_row c.args.raw.now.keys.rows c.in-Some.head c.args.cells.now
    c.requires.heads.keys.different c.in-Some.ensures)
