-- What is left of the label has names, as all of it has, and what was written is the front of its text.
use Rattle.std.proofs.Common.{refl}
use Rattle.djq_tree.proofs.Nodes.{popped, listed_more, labelled}
use Rattle.djq_tree.proofs.lines.Lines.push_label.Goals as goal

pub get-requires : goal.get-requires
get-requires c = (popped _ _ _ _ c.in-Some.ensures.taken c.requires).0

pub loop-variable-init : goal.loop-variable-init
loop-variable-init c = record { named = (popped _ _ _ _ c.in-Some.ensures.taken c.requires).1; so_far = refl }

pub get-requires-in-Some-pop : goal.get-requires-in-Some-pop
get-requires-in-Some-pop c = (popped _ _ _ _ c.in-Some-pop.ensures.taken c.loop-variable.invariant.named).0

pub loop-variable-preserved : goal.loop-variable-preserved
loop-variable-preserved c = record {
  named = (popped _ _ _ _ c.in-Some-pop.ensures.taken c.loop-variable.invariant.named).1;
  so_far = listed_more _ _ _ _ _ _ _ _ _ c.in_ok-push_text-in-Some-2.ensures c.in_ok-push_text-in-Some-3.ensures
      c.get-in-Some-pop.ensures c.in-Some-pop.ensures.taken c.loop-variable.invariant.so_far;
}

pub returns-in-None : goal.returns-in-None
returns-in-None c = rw c.in-None.ensures.none c.push_text.ensures

pub returns-in_default : goal.returns-in_default
returns-in_default c = labelled _ _ _ _ _ _ _ _ _ c.in_ok-push_text-in-Some.ensures c.get.ensures
    c.in-Some.ensures.taken c.in_default.ensures.none c.loop-variable.invariant.so_far
