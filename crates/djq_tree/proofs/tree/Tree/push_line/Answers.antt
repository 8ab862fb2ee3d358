-- By the invariant each variable of a label lies in some leaf's label, so it has a name, as a leaf's atom has.
use Rattle.djq_tree.proofs.Nodes.{label_named, node_named, line_written}
use Rattle.djq_tree.proofs.tree.Tree.push_line.Goals as goal

pub push_node-requires : goal.push_node-requires
push_node-requires c = node_named c.args.atoms.now c.args.self.now c.args.at c.node.result c.requires.tree
    c.requires.within c.requires.atoms c.node.ensures

pub push_label-requires : goal.push_label-requires
push_label-requires c x h = label_named c.args.variables.now c.args.self.now c.args.at _ c.requires.tree c.label.ensures
    c.requires.variables x h

pub returns : goal.returns
returns c =
    line_written c.args.atoms.now c.args.variables.now c.args.self.now c.args.at _ _ _ _ _ _ _ _ _ _ _ c.node.ensures
    c.label.ensures c.is_out.ensures
    c.in_ok-push_text.ensures c.in_ok-push_number.ensures c.in_ok-push_text-2.ensures c.in_ok-push_node.ensures
    c.in_ok-push_text-3.ensures c.in_ok-push_label.ensures c.in_ok-push_end.ensures
