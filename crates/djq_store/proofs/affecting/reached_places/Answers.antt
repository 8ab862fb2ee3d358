-- Each place's flag says whether an affected query up to the index is there; all these places are below 256.
use Rattle.std.proofs.Common.{ℕ, true, refl, sym, subst, length-set, ◌<◌, ◌∙◌}
use Rattle.std.proofs.lemmas.List.Elements.{All-contains}
use Rattle.djq_engine.specs.declared.cursor.QueryId.{QueryId}
use Rattle.djq_protocol.specs.declared.limits.TheConstants.{QUERIES}
use Rattle.djq_store.proofs.Readers.{get_replicated, reached_more}
use Rattle.djq_gains.proofs.MemberDeltas.{got}
use Rattle.djq_store.proofs.affecting.reached_places.Goals as goal

pub loop-nth-init : goal.loop-nth-init
loop-nth-init c = record { long = refl; each = λ i. get_replicated 256 i }

pub bounds-reached-affected : goal.bounds-reached-affected
bounds-reached-affected c =
    All-contains (λ (id : QueryId). id.at < QUERIES) c.args.engine.now.affected c.affected.result c.requires
    (got c.args.engine.now.affected c.loop-nth.nth c.affected.result c.affected.ensures)

pub loop-nth-preserved : goal.loop-nth-preserved
loop-nth-preserved c =
    let low : c.affected.result.at < QUERIES =
    All-contains (λ (id : QueryId). id.at < QUERIES) c.args.engine.now.affected c.affected.result c.requires
    (got c.args.engine.now.affected c.loop-nth.nth c.affected.result c.affected.ensures) in
    record {
      long = length-set c.loop-nth.reached c.affected.result.at true ∙ c.loop-nth.invariant.long;
      each = reached_more c.loop-nth.reached c.args.engine.now.affected c.loop-nth.nth c.affected.result
          (subst (λ (n : ℕ). c.affected.result.at < n) (sym c.loop-nth.invariant.long) low) c.affected.ensures
          c.loop-nth.invariant.each;
    }
