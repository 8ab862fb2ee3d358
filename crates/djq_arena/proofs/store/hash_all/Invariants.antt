use Rattle.std.proofs.Common.{◌≡◌, take}
use Rattle.std.specs.Prelude.{fold}
use Rattle.djq_arena.specs.Store.{mixed}
use Rattle.djq_arena.proofs.store.hash_all.Given as goal

abbrev pub invariant-loop-cell : goal.invariant-loop-cell
invariant-loop-cell l = l.hash ≡ fold mixed 0 (take l.cell-index l.cells)
