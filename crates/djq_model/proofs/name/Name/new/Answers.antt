-- Bytes that are copied over the front of 32 zeros have only zeros behind them.
use Rattle.std.proofs.Common.{◌≡◌, ◌≤◌, ◌++◌, ℕ, List, length, take, drop, replicate, refl}
use Rattle.std.proofs.lemmas.List.{take_at, drop-replicate}
use Rattle.djq_model.specs.Padded.{zeros_after}
use Rattle.djq_model.proofs.name.Name.new.Goals as goal

-- what is copied over the front of 32 zeros is a name with zeros behind it
filled : (xs from : List ℕ) → xs ≡ from → length from ≤ 32 → xs ++ drop (length from) (replicate 32 0)
    ≡ zeros_after (take (length from) (xs ++ drop (length from) (replicate 32 0)))
filled xs from e h = rw (e, take_at, drop-replicate) refl

pub invariant_of-result : goal.invariant_of-result
invariant_of-result c = (c.requires, filled _ c.args.from.now c.copy_from_slice.ensures.after c.requires)
