use Rattle.std.proofs.Common.{◌≡◌, ◌+◌, ◌≤◌, ◌++◌, length, take}
use Rattle.std.specs.Prelude.{vec_len, vec_capacity}
use Rattle.djq_arena.proofs.store.append_all.Given as goal

abbrev pub invariant-loop-cell : goal.invariant-loop-cell
invariant-loop-cell l = record {
  behind : l.cells.items ≡ l.fn.cells.items ++ take l.cell-index l.more;
  long : vec_len l.cells ≡ vec_len l.fn.cells + l.cell-index;
  room : vec_len l.fn.cells + length l.more ≤ vec_capacity l.cells;
}
