-- Of the cases, child or not, second stage or not, removal or not, each way out has one and denies the others.
use Rattle.std.proofs.Common.{◌≡◌, ℕ, ◌+◌, ◌*◌, Bool, cond, refl, ap, sym, ◌∙◌, arith}
use Rattle.std.proofs.lemmas.Bool.{false≢true}
use Rattle.djq_index.specs.Tuple.{one_if}
use Rattle.djq_index.proofs.Tuples.{one_true}
use Rattle.djq_tree.specs.Tree.{node_at, has_child}
use Rattle.djq_propagate.proofs.path.touch_above.Goals as goal

pub node-requires : goal.node-requires
node-requires g c =
    c.requires.within

pub touch_step-requires : goal.touch_step-requires
touch_step-requires g c =
    record {
      step = record {
        family = c.requires.family;
        within = c.requires.within;
        child =
            (ap (λ n. has_child n c.args.at) (sym c.node.ensures) ∙ sym c.has_child.ensures ∙ c.if-has_child.true);
      };
    }

pub touch_step-requires-then-removal : goal.touch_step-requires-then-removal
touch_step-requires-then-removal g c =
    record {
      step = record {
        family = c.requires.family;
        within = c.requires.within;
        child =
            (ap (λ n. has_child n c.args.at) (sym c.node.ensures) ∙ sym c.has_child.ensures ∙ c.if-has_child.true);
      };
    }

pub returns-then-up-second_stage-clause-next : goal.returns-then-up-second_stage-clause-next
returns-then-up-second_stage-clause-next g c =
    sym (ap (λ (b : Bool). cond b c.args.up c.args.at)
    (ap (λ n. has_child n c.args.at) (sym c.node.ensures) ∙ sym c.has_child.ensures ∙ c.if-has_child.true))

pub returns-then-up-second_stage-clause-above : goal.returns-then-up-second_stage-clause-above
returns-then-up-second_stage-clause-above g c =
    λ child high. c.touch_step.ensures.touched

pub returns-then-up-second_stage-clause-below : goal.returns-then-up-second_stage-clause-below
returns-then-up-second_stage-clause-below g c =
    λ child low. absurd (omega (arith, c.second_stage.ensures, c.if-up-second_stage.true))

pub returns-then-up-second_stage-clause-idle : goal.returns-then-up-second_stage-clause-idle
returns-then-up-second_stage-clause-idle g c =
    λ low. absurd (omega (arith, c.second_stage.ensures, c.if-up-second_stage.true))

pub returns-then-up-second_stage-clause-apart : goal.returns-then-up-second_stage-clause-apart
returns-then-up-second_stage-clause-apart g c =
    λ none. absurd (false≢true
    (sym none ∙ (ap (λ n. has_child n c.args.at) (sym c.node.ensures) ∙ sym c.has_child.ensures
    ∙ c.if-has_child.true)))

pub returns-then-up-second_stage-clause-counted : goal.returns-then-up-second_stage-clause-counted
returns-then-up-second_stage-clause-counted g c =
    λ n h. let b : one_if (has_child (node_at c.args.tree.now.nodes c.args.up) c.args.at) * (1 + 5 * n)
    ≡ 1 * (1 + 5 * n) = ap (λ (x : ℕ). x * (1 + 5 * n))
    (one_true (has_child (node_at c.args.tree.now.nodes c.args.up) c.args.at)
    (ap (λ n. has_child n c.args.at) (sym c.node.ensures) ∙ sym c.has_child.ensures ∙ c.if-has_child.true)) in omega
    (arith, c.touch_step.ensures.counted n h)

pub returns-then-removal-clause-next : goal.returns-then-removal-clause-next
returns-then-removal-clause-next g c =
    sym (ap (λ (b : Bool). cond b c.args.up c.args.at)
    (ap (λ n. has_child n c.args.at) (sym c.node.ensures) ∙ sym c.has_child.ensures ∙ c.if-has_child.true))

pub returns-then-removal-clause-above : goal.returns-then-removal-clause-above
returns-then-removal-clause-above g c =
    λ child high. absurd (omega (arith, c.second_stage.ensures, c.if-up-second_stage.false))

pub returns-then-removal-clause-below : goal.returns-then-removal-clause-below
returns-then-removal-clause-below g c =
    λ child low going. c.touch_step-then-removal.ensures.touched

pub returns-then-removal-clause-idle : goal.returns-then-removal-clause-idle
returns-then-removal-clause-idle g c =
    λ low coming. absurd (false≢true (sym coming ∙ c.if-removal.true))

pub returns-then-removal-clause-apart : goal.returns-then-removal-clause-apart
returns-then-removal-clause-apart g c =
    λ none. absurd (false≢true
    (sym none ∙ (ap (λ n. has_child n c.args.at) (sym c.node.ensures) ∙ sym c.has_child.ensures
    ∙ c.if-has_child.true)))

pub returns-then-removal-clause-counted : goal.returns-then-removal-clause-counted
returns-then-removal-clause-counted g c =
    λ n h. let b : one_if (has_child (node_at c.args.tree.now.nodes c.args.up) c.args.at) * (1 + 5 * n)
    ≡ 1 * (1 + 5 * n) = ap (λ (x : ℕ). x * (1 + 5 * n))
    (one_true (has_child (node_at c.args.tree.now.nodes c.args.up) c.args.at)
    (ap (λ n. has_child n c.args.at) (sym c.node.ensures) ∙ sym c.has_child.ensures ∙ c.if-has_child.true)) in omega
    (arith, c.touch_step-then-removal.ensures.counted n h)

pub returns-then-has_child-clause-next : goal.returns-then-has_child-clause-next
returns-then-has_child-clause-next g c =
    sym (ap (λ (b : Bool). cond b c.args.up c.args.at)
    (ap (λ n. has_child n c.args.at) (sym c.node.ensures) ∙ sym c.has_child.ensures ∙ c.if-has_child.true))

pub returns-then-has_child-clause-above : goal.returns-then-has_child-clause-above
returns-then-has_child-clause-above g c =
    λ child high. absurd (omega (arith, c.second_stage.ensures, c.if-up-second_stage.false))

pub returns-then-has_child-clause-below : goal.returns-then-has_child-clause-below
returns-then-has_child-clause-below g c =
    λ child low going. absurd (false≢true (sym c.if-removal.false ∙ going))

pub returns-then-has_child-clause-idle : goal.returns-then-has_child-clause-idle
returns-then-has_child-clause-idle g c =
    λ low coming. refl

pub returns-then-has_child-clause-apart : goal.returns-then-has_child-clause-apart
returns-then-has_child-clause-apart g c =
    λ none. refl

pub returns-then-has_child-clause-counted : goal.returns-then-has_child-clause-counted
returns-then-has_child-clause-counted g c =
    λ n h. omega arith

pub returns-clause-next : goal.returns-clause-next
returns-clause-next g c =
    sym (ap (λ (b : Bool). cond b c.args.up c.args.at)
    (ap (λ n. has_child n c.args.at) (sym c.node.ensures) ∙ sym c.has_child.ensures ∙ c.if-has_child.false))

pub returns-clause-above : goal.returns-clause-above
returns-clause-above g c =
    λ child. absurd (false≢true
    (sym (ap (λ n. has_child n c.args.at) (sym c.node.ensures) ∙ sym c.has_child.ensures ∙ c.if-has_child.false)
    ∙ child))

pub returns-clause-below : goal.returns-clause-below
returns-clause-below g c =
    λ child. absurd (false≢true
    (sym (ap (λ n. has_child n c.args.at) (sym c.node.ensures) ∙ sym c.has_child.ensures ∙ c.if-has_child.false)
    ∙ child))

pub returns-clause-idle : goal.returns-clause-idle
returns-clause-idle g c =
    λ low coming. refl

pub returns-clause-apart : goal.returns-clause-apart
returns-clause-apart g c =
    λ none. refl

pub returns-clause-counted : goal.returns-clause-counted
returns-clause-counted g c =
    λ n h. omega arith

pub returns-then-up-second_stage-clause-flat : goal.returns-then-up-second_stage-clause-flat
returns-then-up-second_stage-clause-flat g c =
    λ n meets few. let b : one_if (has_child (node_at c.args.tree.now.nodes c.args.up) c.args.at) * (1 + 5 * n)
    ≡ 1 * (1 + 5 * n) = ap (λ (x : ℕ). x * (1 + 5 * n))
    (one_true (has_child (node_at c.args.tree.now.nodes c.args.up) c.args.at)
    (ap (λ n. has_child n c.args.at) (sym c.node.ensures) ∙ sym c.has_child.ensures ∙ c.if-has_child.true)) in omega
    (arith, c.touch_step.ensures.flat n meets few)

pub returns-then-removal-clause-flat : goal.returns-then-removal-clause-flat
returns-then-removal-clause-flat g c =
    λ n meets few. let b : one_if (has_child (node_at c.args.tree.now.nodes c.args.up) c.args.at) * (1 + 5 * n)
    ≡ 1 * (1 + 5 * n) = ap (λ (x : ℕ). x * (1 + 5 * n))
    (one_true (has_child (node_at c.args.tree.now.nodes c.args.up) c.args.at)
    (ap (λ n. has_child n c.args.at) (sym c.node.ensures) ∙ sym c.has_child.ensures ∙ c.if-has_child.true)) in omega
    (arith, c.touch_step-then-removal.ensures.flat n meets few)

pub returns-then-has_child-clause-flat : goal.returns-then-has_child-clause-flat
returns-then-has_child-clause-flat g c =
    λ n meets few. omega arith

pub returns-clause-flat : goal.returns-clause-flat
returns-clause-flat g c =
    λ n meets few. omega arith
