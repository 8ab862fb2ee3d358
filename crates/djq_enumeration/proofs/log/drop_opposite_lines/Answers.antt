use Rattle.std.proofs.Common.{arith, ap, sym, subst, ◌∙◌, ◌≡◌, ◌<◌, ◌+◌, ◌-◌, length, take, drop, true, [], ◌∷◌, ◌++◌, List, ℕ}
use Rattle.std.proofs.Math.ListN.{get_or}
use Rattle.std.proofs.lemmas.Grind.{drop_more_same}
use Rattle.std.proofs.lemmas.List.{get_or_default}
use Rattle.djq_delta.specs.Lines.{SignedLine}
use Rattle.djq_delta.proofs.Alone.{IsSettledSoFar}
use Rattle.djq_enumeration.specs.declared.log.Line.{Line}
use Rattle.djq_enumeration.specs.Log.{signed_lines}
use Rattle.djq_enumeration.proofs.Settling.{AtHand, both_are_dropped, only_one_stays, one_more_stays, swapped_front, swapped_rest}
use Rattle.djq_enumeration.proofs.log.drop_opposite_lines.Goals.{then-remaining-gt0+then-have_same_answer, else-remaining-gt0, else-remaining-gt0-via-then-remaining-gt0+else-have_same_answer, else-remaining-gt0-via-else-remaining-gt0}
use Rattle.djq_enumeration.proofs.log.drop_opposite_lines.Goals as goal

-- three ways through the test: the answer of the last line that remains, another one, or none remains
pub loop-at-preserved : goal.loop-at-preserved
loop-at-preserved c =
    let old : List Line = c.args.lines.now in
    let now : List Line = c.loop-at.lines in
    let at : ℕ = c.loop-at.at in
    let remaining : ℕ = c.loop-at.remaining in
    let none : Line = record { came = true; answer = [] } in
    let p : Line = get_or now at none in
    let within : at < length old = omega (arith, c.loop-at.invariant.long) in
    let below : at < length now = omega (arith, c.loop-at.invariant.long) in
    let read : p ≡ get_or now at p = get_or_default now at none p below in
    let done : List SignedLine = signed_lines (take (at + 1) old) in
    let hand : AtHand old now at p = record {
      distinct = c.requires.distinct;
      up = c.requires.sorted;
      within = within;
      rest = c.loop-at.invariant.rest;
      read = read;
    } in
    elim c.if-remaining-gt0.branch [
      | then-remaining-gt0+then-have_same_answer w ↦
          let count : remaining - 1 + 1 ≡ remaining = omega arith in
          let last : Line = w.index-lines-remaining.result in
          let found : w.index-lines-at.result ≡ p = w.index-lines-at.is ∙ get_or_default now at w.index-lines-at.result none below in
          let alike : last.answer ≡ p.answer = w.have_same_answer.ensures.0 w.if-have_same_answer.true ∙ ap (λ (l : Line). l.answer) found in
          let so_far : IsSettledSoFar done (signed_lines (take (remaining - 1) now)) =
          both_are_dropped hand (remaining - 1) last (omega arith) w.index-lines-remaining.is alike
          (subst (λ (n : ℕ). IsSettledSoFar (signed_lines (take at old)) (signed_lines (take n now))) (sym count) c.loop-at.invariant.so_far) in
          record {
            remaining = omega (arith, w.remaining-is, c.loop-at.invariant.remaining);
            long = ap length w.lines-is ∙ c.loop-at.invariant.long;
            rest = ap (drop (at + 1)) w.lines-is ∙ drop_more_same now old at c.loop-at.invariant.rest;
            so_far = rw (w.lines-is, w.remaining-is) so_far;
          }
      | else-remaining-gt0 w ↦
          let new : List Line = w.swap.new.self in
          let front : take (remaining + 1) new ≡ take remaining now ++ p ∷ [] =
          swapped_front now new remaining at p c.loop-at.invariant.remaining below read w.swap.ensures.by_index in
          let so_far : IsSettledSoFar done (signed_lines (take (remaining + 1) new)) = elim w.else-remaining-gt0.branch [
            | else-remaining-gt0-via-then-remaining-gt0+else-have_same_answer v ↦
                let count : remaining - 1 + 1 ≡ remaining = omega arith in
                let last : Line = v.index-lines-remaining.result in
                let found : v.index-lines-at.result ≡ p = v.index-lines-at.is ∙ get_or_default now at v.index-lines-at.result none below in
                subst (λ (n : ℕ). IsSettledSoFar done (signed_lines (take (n + 1) new))) count
                (one_more_stays hand new (remaining - 1) last (omega arith) v.index-lines-remaining.is
                (λ e. let met = v.have_same_answer.ensures.1 (e ∙ sym (ap (λ (l : Line). l.answer) found)) in cc (met, v.if-have_same_answer.false))
                (subst (λ (n : ℕ). take (n + 1) new ≡ take n now ++ p ∷ []) (sym count) front)
                (subst (λ (n : ℕ). IsSettledSoFar (signed_lines (take at old)) (signed_lines (take n now))) (sym count) c.loop-at.invariant.so_far))
            | else-remaining-gt0-via-else-remaining-gt0 v ↦
                let zero_left : remaining ≡ 0 = omega arith in
                subst (λ (n : ℕ). IsSettledSoFar done (signed_lines (take (n + 1) new))) (sym zero_left)
                (only_one_stays hand new (subst (λ (n : ℕ). take (n + 1) new ≡ take n now ++ p ∷ []) zero_left front)
                (subst (λ (n : ℕ). IsSettledSoFar (signed_lines (take at old)) (signed_lines (take n now))) zero_left c.loop-at.invariant.so_far))
          ] in
          record {
            remaining = omega (arith, w.remaining-is, c.loop-at.invariant.remaining);
            long = ap length w.lines-is ∙ w.swap.ensures.len ∙ c.loop-at.invariant.long;
            rest = ap (drop (at + 1)) w.lines-is ∙ swapped_rest now new remaining at p c.loop-at.invariant.remaining below w.swap.ensures.by_index
                ∙ drop_more_same now old at c.loop-at.invariant.rest;
            so_far = rw (w.lines-is, w.remaining-is) so_far;
          }
    ]
