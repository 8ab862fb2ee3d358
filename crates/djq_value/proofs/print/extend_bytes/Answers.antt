-- What a byte takes with those before it is no more than the whole text takes, so there is room for it.
use Rattle.std.proofs.Common.{arith}
use Rattle.std.proofs.lemmas.List.Folds.{length-flat_map-take}
use Rattle.djq_value.specs.ValueText.{escaped}
use Rattle.djq_value.proofs.print.extend_bytes.Goals as goal

pub extend_byte-requires : goal.extend_byte-requires
extend_byte-requires c =
    let fits = length-flat_map-take escaped c.args.text.now c.loop-byte.byte-index 0 c.loop-byte-test.true in
    omega (arith, fits, c.requires, c.loop-byte.invariant.spare)
