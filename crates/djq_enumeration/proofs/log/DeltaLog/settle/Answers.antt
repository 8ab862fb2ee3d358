use Rattle.std.proofs.Common.{arith, ap, sym, subst, ◌≡◌, ◌≤◌, ◌∙◌, length, take, drop, ◌++◌, List, ℕ, true, false, ◌⊎◌}
use Rattle.std.specs.List.{All}
use Rattle.std.proofs.lemmas.List.{take_at}
use Rattle.djq_delta.specs.Lines.{SettlesTo}
use Rattle.djq_enumeration.specs.declared.log.Line.{Line}
use Rattle.djq_enumeration.specs.Log.{Log, signed_lines}
use Rattle.djq_enumeration.proofs.Settling.{one_way_of, one_way_settled}
use Rattle.djq_enumeration.proofs.log.DeltaLog.settle.Goals as goal

-- as many lines stand in the memory as before, and no more of them are the log's
pub invariant_of-self : goal.invariant_of-self
invariant_of-self c =
    let new : List Line = c.settle_first-self-inside.new.lines in
    let items : List Line = c.self.inside.lines.items in
    let long : length new ≡ c.self.inside.lines.len =
    omega (arith, c.settle_first-self-inside.ensures.long, ap length c.deref_mut.ensures.value, c.self.inside.lines.ok.0) in
    let whole : take c.self.inside.lines.len (new ++ drop (length new) items) ≡ new = take_at new (drop (length new) items) c.self.inside.lines.len long in
    let fewer : c.settle_first-self-inside.result ≤ c.self.inside.len = c.settle_first-self-inside.ensures.fewer in
    let within : c.settle_first-self-inside.result ≤ length new = omega (arith, long, fewer, c.self.invariant.0, c.self.inside.lines.ok.0) in (
      subst (λ (ls : List Line). c.settle_first-self-inside.result ≤ length ls) (sym whole) within,
      λ lost. omega (arith, fewer, c.self.invariant.1 lost),
    )

pub returns-then-not-are_one_way-clause-settled : goal.returns-then-not-are_one_way-clause-settled
returns-then-not-are_one_way-clause-settled c =
    let new : List Line = c.settle_first-self-inside.new.lines in
    let items : List Line = c.self.inside.lines.items in
    let remaining : ℕ = c.settle_first-self-inside.result in
    let long : length new ≡ c.self.inside.lines.len =
    omega (arith, c.settle_first-self-inside.ensures.long, ap length c.deref_mut.ensures.value, c.self.inside.lines.ok.0) in
    let whole : take c.self.inside.lines.len (new ++ drop (length new) items) ≡ new = take_at new (drop (length new) items) c.self.inside.lines.len long in
    let old : take c.self.inside.len c.deref_mut.result.now ≡ c.args.self.now.lines =
    ap (take c.self.inside.len) c.deref_mut.ensures.value ∙ ap (λ (l : Log). l.lines) c.self.view_is in
    subst (λ (ls : List Line). SettlesTo (signed_lines ls) (signed_lines (take remaining (take c.self.inside.lines.len (new ++ drop (length new) items))))) old
    (subst (λ (ls : List Line). SettlesTo (signed_lines (take c.self.inside.len c.deref_mut.result.now)) (signed_lines (take remaining ls))) (sym whole)
    c.settle_first-self-inside.ensures.settled)

-- lines of one sign aren't sorted
pub returns-then-not-are_one_way-clause-one_way : goal.returns-then-not-are_one_way-clause-one_way
returns-then-not-are_one_way-clause-one_way c = λ one.
    let signs = subst (λ (ls : List Line). All (λ (l : Line). l.came ≡ true) ls ⊎ All (λ (l : Line). l.came ≡ false) ls) (sym c.lines.ensures)
    (one_way_of c.args.self.now.lines one) in
    let found = c.are_one_way.ensures.1 signs in
    cc (found, c.if-not-are_one_way.true)

-- and stay as they are
pub returns-else-not-are_one_way-clause-settled : goal.returns-else-not-are_one_way-clause-settled
returns-else-not-are_one_way-clause-settled c =
    let signs = subst (λ (ls : List Line). All (λ (l : Line). l.came ≡ true) ls ⊎ All (λ (l : Line). l.came ≡ false) ls) c.lines.ensures
    (c.are_one_way.ensures.0 c.if-not-are_one_way.false) in
    one_way_settled c.args.self.now.lines c.requires signs
