-- Edges before the place come before the edge; the one there doesn't, so it is the edge or comes behind it.
use Rattle.std.proofs.Common.{◌≡◌, ◌<◌, List, ℕ, [], length, sym, subst, ap, ◌∙◌, true, arith}
use Rattle.std.specs.Prelude.{slice_index_or}
use Rattle.std.proofs.lemmas.List.{get_or_read}
use Rattle.djq_protocol.specs.Rest.{is_before}
use Rattle.djq_binder.specs.Ordering.{IsPlaceFor}
use Rattle.djq_binder.proofs.EdgeOrder.{put_at, there_at}
use Rattle.djq_binder.proofs.rest.put_edge.Goals.{then-at-len-via-then-at-len}
use Rattle.djq_binder.proofs.rest.put_edge.Goals.{then-at-len-via-else-at-len+then-is_before}
use Rattle.djq_binder.proofs.rest.put_edge.Goals as goal

pub returns-in_ok-insert : goal.returns-in_ok-insert
returns-in_ok-insert c =
    let edges = c.args.edges.now.items in
    let at = c.place_for-at.result in
    let place : IsPlaceFor edges c.args.edge at =
    subst (λ (xs : List (List ℕ)). IsPlaceFor xs c.args.edge at)
    c.deref.ensures.value c.place_for-at.ensures in
    let free : at < length edges
    → is_before c.args.edge (slice_index_or edges at []) ≡ true = λ low.
    elim c.then-at-len.branch [
      | then-at-len-via-then-at-len w ↦
          absurd (omega (arith, low, w.if-at-len.true, c.len.ensures, c.args.edges.now.ok.0))
      | then-at-len-via-else-at-len+then-is_before w ↦
          ap (λ (e : List ℕ). is_before c.args.edge e)
          (sym (get_or_read edges at w.index.result.now low w.index.ensures []))
          ∙ sym w.is_before.ensures ∙ w.if-is_before.true
    ] in
    c.in_ok-insert.ensures.items ∙ put_at edges c.args.edge at place free

pub returns-else-is_before : goal.returns-else-is_before
returns-else-is_before c =
    let edges = c.args.edges.now.items in
    let at = c.place_for-at.result in
    let place : IsPlaceFor edges c.args.edge at =
    subst (λ (xs : List (List ℕ)). IsPlaceFor xs c.args.edge at)
    c.deref.ensures.value c.place_for-at.ensures in
    let low : at < length edges =
    omega (arith, place.within, c.if-at-len.false, c.len.ensures, c.args.edges.now.ok.0) in
    there_at edges c.args.edge at place low
    (ap (λ (e : List ℕ). is_before c.args.edge e)
    (sym (get_or_read edges at c.index.result.now low c.index.ensures []))
    ∙ sym c.is_before.ensures ∙ c.if-is_before.false)
