-- Only a parent of the path's end is cleared, which is what the node's test says; marks are among its tuples.
use Rattle.std.proofs.Common.{◌≡◌, true, false, ℕ, ◌+◌, ◌*◌, Bool, List, length, cond, refl, ap, sym, ◌∙◌, arith}
use Rattle.std.proofs.lemmas.Bool.{false≢true}
use Rattle.djq_index.proofs.Tuples.{one_true}
use Rattle.djq_tree.specs.Tree.{node_at, has_child}
use Rattle.djq_index.specs.Entries.{Entry}
use Rattle.djq_propagate.proofs.Walks.{has_table}
use Rattle.djq_propagate.proofs.Families.{family_read, length_read, marks_read, cleared_into}
use Rattle.djq_index.proofs.ClearedMarks.{length_marks}
use Rattle.djq_propagate.proofs.path.clear_above.Goals as goal

pub node-requires : goal.node-requires
node-requires g c =
    c.requires.within

pub index_mut-requires : goal.index_mut-requires
index_mut-requires g c =
    omega (
      arith,
      has_table c.args.tree.now c.args.tables.now.items c.args.up c.requires.family c.requires.within,
      c.args.tables.now.ok.0,
    )

pub returns-then-has_child : goal.returns-then-has_child
returns-then-has_child g c =
    let yes : has_child (node_at c.args.tree.now.nodes c.args.up) c.args.at
    ≡ true = ap (λ n. has_child n c.args.at) (sym c.node.ensures) ∙ sym c.has_child.ensures ∙ c.if-has_child.true in
    let r = family_read c.args.tree.now c.args.tables.now.items c.args.up c.index_mut.result.now c.requires.family
    c.requires.within c.index_mut.ensures.value in
    let n = cleared_into r c.clear_marks.ensures.table c.clear_marks.ensures.key c.clear_marks.ensures.width
    c.clear_marks.ensures.cleared in
    record {
      next = sym (ap (λ (b : Bool). cond b c.args.up c.args.at) yes);
      cleared = λ child. n.cleared;
      changed = λ child. n.changed;
      apart = λ none. absurd (false≢true (sym none ∙ yes));
      counted = λ n h. omega (
        arith,
        ap (λ (x : ℕ). x * (1 + n)) (one_true (has_child (node_at c.args.tree.now.nodes c.args.up) c.args.at) yes),
        c.clear_marks.ensures.counted,
        length_marks c.index_mut.result.now.entries,
        length_read r,
        h c.args.up,
      );
      flat = λ n few. omega (
        arith,
        ap (λ (x : ℕ). x * (1 + n)) (one_true (has_child (node_at c.args.tree.now.nodes c.args.up) c.args.at) yes),
        c.clear_marks.ensures.counted,
        ap (λ (es : List Entry). length es) (marks_read r),
        few.each c.args.up,
      );
    }

pub returns : goal.returns
returns g c =
    let no : has_child (node_at c.args.tree.now.nodes c.args.up) c.args.at
    ≡ false = ap (λ n. has_child n c.args.at) (sym c.node.ensures) ∙ sym c.has_child.ensures ∙ c.if-has_child.false in
    record {
      next = sym (ap (λ (b : Bool). cond b c.args.up c.args.at) no);
      cleared = λ child. absurd (false≢true (sym no ∙ child));
      changed = λ child. absurd (false≢true (sym no ∙ child));
      apart = λ none. refl;
      counted = λ n h. omega arith;
      flat = λ n few. omega arith;
    }
