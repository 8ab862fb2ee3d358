use Rattle.std.proofs.Common.{arith, ◌≡◌, ◌∙◌, ◌<◌, sym, refl, subst, length, Bool, true, false, List, ℕ, inl, inr}
use Rattle.std.specs.List.{Contains}
use Rattle.std.proofs.Math.ListN.{get_or}
use Rattle.std.proofs.lemmas.List.{get_or_default}
use borrow.Author.Count.{below_more}
use Rattle.djq_delta.specs.Lines.{SignedLine, reversed}
use Rattle.djq_delta.specs.Delta.{DeltaSeen}
use Rattle.djq_delta.specs.Members.{MemberAllows}
use Rattle.djq_delta.proofs.Alone.{signed}
use Rattle.djq_delta.proofs.members.is_reported.Goals.{then-has_line-2, else-has_line-2+else-have-index}
use Rattle.djq_delta.proofs.members.is_reported.Goals as goal

true_unless : (b : Bool) → (b ≡ false → ⊥) → b ≡ true
true_unless true f = refl
true_unless false f = absurd (f refl)

-- a member's delta has the opposite
pub returns-then-has_line : goal.returns-then-has_line
returns-then-has_line c =
    let line : SignedLine = signed c.args.came c.args.cells.now in
    let at : ℕ = c.loop-index.index in
    let within : at < length c.args.deltas.now = omega arith in (
      λ f. cc f,
      λ r. absurd ((r.all at c.index-deltas-index.result within).0
          (subst (λ (d : DeltaSeen). Contains d.lines (reversed line)) c.index-deltas-index.is (c.has_line.ensures.0 c.if-has_line.true))),
    )

-- a member has the answer, and its delta hasn't the line
pub returns-then-have-index : goal.returns-then-have-index
returns-then-have-index c =
    let line : SignedLine = signed c.args.came c.args.cells.now in
    let at : ℕ = c.loop-index.index in
    let within : at < length c.args.deltas.now = omega arith in
    let d : DeltaSeen = c.index-deltas-index-in-loop-index.result in (
      λ f. cc f,
      λ r. elim (r.all at d within).1 [
        | inl there ↦ let found = c.has_line-in-loop-index.ensures.1
            (subst (λ (d : DeltaSeen). Contains d.lines line) (sym c.index-deltas-index-in-loop-index.is) there) in cc (found, c.if-has_line-2.false)
        | inr none ↦ cc (none, c.if-have-index.true)
      ],
    )

-- one more member allows the line
pub loop-index-preserved : goal.loop-index-preserved
loop-index-preserved c =
    let line : SignedLine = signed c.args.came c.args.cells.now in
    let deltas : List DeltaSeen = c.args.deltas.now in
    let have : List Bool = c.args.have.now in
    let at : ℕ = c.loop-index.index in
    let within : at < length deltas = omega arith in
    let first : DeltaSeen = c.index-deltas-index.result in
    let second : DeltaSeen = c.index-deltas-index-in-loop-index.result in
    let first_at = λ (d : DeltaSeen). c.index-deltas-index.is ∙ get_or_default deltas at first d within in
    let second_at = λ (d : DeltaSeen). c.index-deltas-index-in-loop-index.is ∙ get_or_default deltas at second d within in
    let lone : (d : DeltaSeen) → Contains (get_or deltas at d).lines (reversed line) → ⊥ = λ d t.
    let found = c.has_line.ensures.1 (subst (λ (d : DeltaSeen). Contains d.lines (reversed line)) (sym (first_at d)) t) in
    let bad : true ≡ false = sym found ∙ c.if-has_line.false in cc bad in
    elim c.if-has_line-2.branch [
      | then-has_line-2 w ↦
          let there : Contains second.lines line = c.has_line-in-loop-index.ensures.0 w.if-has_line-2.true in
          record {
            some = λ _. (at, second, within, sym c.index-deltas-index-in-loop-index.is, there);
            none = λ f. let bad : true ≡ false = sym w.found-is ∙ f in cc bad;
            all = λ k d below. below_more (λ n. (e : DeltaSeen) → MemberAllows line (get_or deltas n e) (get_or have n false)) at
                (λ n m e. c.loop-index.invariant.all n e m)
                (λ e. (lone e, inl (subst (λ (d : DeltaSeen). Contains d.lines line) (second_at e) there))) k below d;
          }
      | else-has_line-2+else-have-index w ↦
          let lacks : (d : DeltaSeen) → Contains (get_or deltas at d).lines line → ⊥ = λ d t.
          let found = c.has_line-in-loop-index.ensures.1 (subst (λ (d : DeltaSeen). Contains d.lines line) (sym (second_at d)) t) in
          let bad : true ≡ false = sym found ∙ w.if-has_line-2.false in cc bad in
          record {
            some = λ f. c.loop-index.invariant.some (sym w.found-is ∙ f);
            none = λ f k d below. below_more (λ n. (e : DeltaSeen) → Contains (get_or deltas n e).lines line → ⊥) at
                (λ n m e. c.loop-index.invariant.none (sym w.found-is ∙ f) n e m) lacks k below d;
            all = λ k d below. below_more (λ n. (e : DeltaSeen) → MemberAllows line (get_or deltas n e) (get_or have n false)) at
                (λ n m e. c.loop-index.invariant.all n e m)
                (λ e. (lone e, inr w.if-have-index.false)) k below d;
          }
    ]

pub returns : goal.returns
returns c =
    let line : SignedLine = signed c.args.came c.args.cells.now in (
      λ t. record {
        some = c.loop-index.invariant.some t;
        all = λ k d below. c.loop-index.invariant.all k d (omega arith);
      },
      λ r. true_unless c.loop-index.found (λ f. c.loop-index.invariant.none f r.some.0 r.some.1 (omega (arith, r.some.2))
          (subst (λ (d : DeltaSeen). Contains d.lines line) (sym r.some.3) r.some.4)),
    )
