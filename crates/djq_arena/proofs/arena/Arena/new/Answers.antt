-- Without slots and with empty buckets the store is sound: its rows and its free slots are empty lists.
use Rattle.std.proofs.Common.{refl, Option, ap, ap₂, ℕ, arith, List, length, []}
use Rattle.djq_arena.specs.declared.chain.Pair.{Pair}
use Rattle.djq_arena.specs.Rows.{Row}
use Rattle.djq_arena.proofs.Stores.{sound, empty_store, empty_is}
use Rattle.djq_arena.proofs.arena.Arena.new.Goals as goal

pub invariant_of-result : goal.invariant_of-result
invariant_of-result c = (
  sound _ [] [] (empty_store _ 16 c.new.ensures.items c.new-2.ensures.items c.new-3.ensures.items
      c.in_ok-heads.ensures (omega arith)
      (ap₂ (λ (f l : Option ℕ). record { first = f; last = l }) c.none.ensures c.none-2.ensures) c.none-3.ensures refl
      refl),
  ap (λ (ls : List Pair). length ls) c.new.ensures.items,
)

pub returns : goal.returns
returns c =
    ap₂ (λ (ls : List Pair) (rs : List Row). record { width = c.args.width; room = length ls; rows = rs })
    c.new.ensures.items
    (empty_is _ (empty_store _ 16 c.new.ensures.items c.new-2.ensures.items c.new-3.ensures.items
    c.in_ok-heads.ensures (omega arith)
    (ap₂ (λ (f l : Option ℕ). record { first = f; last = l }) c.none.ensures c.none-2.ensures) c.none-3.ensures refl
    refl))
