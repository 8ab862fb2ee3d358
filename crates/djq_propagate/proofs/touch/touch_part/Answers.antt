-- What is reached at the trim is the tuple's projection alone, and not even that where the test forbids it.
use Rattle.std.proofs.Common.{◌∙◌, arith}
use Rattle.djq_index.specs.Tuple.{same, one_if}
use Rattle.djq_tree.specs.declared.node.Node.TheVariants.{Trim}
use Rattle.djq_propagate.specs.Touches.{reach_one}
use Rattle.djq_propagate.proofs.Gains.{width_narrow, trim_few}
use Rattle.djq_propagate.proofs.Walks.{has_table}
use Rattle.djq_propagate.proofs.Touches.{touched_none, touched_as, reach_yes, reach_no}
use Rattle.djq_propagate.proofs.touch.touch_part.Goals as goal

pub part_of-requires-clause-within : goal.part_of-requires-clause-within
part_of-requires-clause-within g c =
    has_table c.args.tree.now c.args.tables.now.items c.args.at c.requires.family c.requires.within

pub part_of-requires-clause-narrow : goal.part_of-requires-clause-narrow
part_of-requires-clause-narrow g c =
    width_narrow c.args.tree.now c.args.tables.now.items c.args.at c.requires.family c.requires.within

pub part_of-requires-clause-few : goal.part_of-requires-clause-few
part_of-requires-clause-few g c =
    trim_few c.args.tree.now c.args.tables.now.items c.args.at c.args.up c.requires.family c.requires.within
    c.requires.under

pub part_of-requires-clause-wide : goal.part_of-requires-clause-wide
part_of-requires-clause-wide g c =
    c.requires.wide

pub is_to_be_marked-requires-clause-family : goal.is_to_be_marked-requires-clause-family
is_to_be_marked-requires-clause-family g c =
    c.requires.family

pub is_to_be_marked-requires-clause-within : goal.is_to_be_marked-requires-clause-within
is_to_be_marked-requires-clause-within g c =
    c.requires.within

pub touch_tuple-requires-clause-family : goal.touch_tuple-requires-clause-family
touch_tuple-requires-clause-family g c =
    c.requires.family

pub touch_tuple-requires-clause-within : goal.touch_tuple-requires-clause-within
touch_tuple-requires-clause-within g c =
    c.requires.under.within

pub returns-then-is_to_be_marked-clause-touched : goal.returns-then-is_to_be_marked-clause-touched
returns-then-is_to_be_marked-clause-touched g c =
    touched_as c.args.tree.now c.args.tables.now.items c.touch_tuple.new.tables.items c.args.up
    (λ v. one_if (same c.as_slice-cells.result.now v))
    (λ v. reach_one (Trim c.args.at) c.args.going c.args.at c.args.tables.now.items c.args.tuple.now v)
    c.touch_tuple.ensures.touched
    (λ v. reach_yes c.args.at c.args.tables.now.items c.args.tuple.now v c.as_slice-cells.result.now c.args.going
    c.is_to_be_marked.result (c.as_slice-cells.ensures ∙ c.part_of.ensures) c.is_to_be_marked.ensures.going
    c.if-is_to_be_marked.true)

pub returns-then-is_to_be_marked-clause-counted : goal.returns-then-is_to_be_marked-clause-counted
returns-then-is_to_be_marked-clause-counted g c =
    omega (arith, c.is_to_be_marked.ensures.counted, c.touch_tuple.ensures.counted)

pub returns-else-is_to_be_marked-clause-touched : goal.returns-else-is_to_be_marked-clause-touched
returns-else-is_to_be_marked-clause-touched g c =
    touched_none c.args.tree.now c.args.tables.now.items c.args.up
    (λ v. reach_one (Trim c.args.at) c.args.going c.args.at c.args.tables.now.items c.args.tuple.now v)
    c.requires.family (λ v there some. absurd
    (omega (
      arith,
      reach_no c.args.at c.args.tables.now.items c.args.tuple.now v c.as_slice-cells.result.now
          c.args.going c.is_to_be_marked.result (c.as_slice-cells.ensures ∙ c.part_of.ensures)
          c.is_to_be_marked.ensures.going
          c.if-is_to_be_marked.false,
    )))

pub returns-else-is_to_be_marked-clause-counted : goal.returns-else-is_to_be_marked-clause-counted
returns-else-is_to_be_marked-clause-counted g c =
    omega (arith, c.is_to_be_marked.ensures.counted)
