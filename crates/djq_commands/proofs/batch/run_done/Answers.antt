-- What is carried out is what the session held, so its rows suit the store.
use Rattle.std.proofs.Common.{◌∙◌, sym, ap, subst, refl}
use Rattle.djq_store_spec.specs.Held.{HeldTransaction}
use Rattle.djq_session.specs.Dialog.{held_in_batch}
use Rattle.djq_commands.specs.Changing.{CarriesOutAll}
use Rattle.djq_commands.specs.Sound.{BatchSuits}
use Rattle.djq_commands.specs.declared.change.Outcome.TheVariants.{Done}
use Rattle.djq_commands.proofs.batch.run_done.Goals as goal

pub done-result-requires : goal.done-result-requires
done-result-requires g c = subst (BatchSuits (c.args.engine.now).store)
    (sym c.take_batch.ensures.lines ∙ c.in-Some.is) c.requires.suits

pub returns-clause-carries_out : goal.returns-clause-carries_out
returns-clause-carries_out g c =
    subst (λ (held : HeldTransaction). CarriesOutAll c.args.engine.now held c.args.given
    (Done c.done-result.result c.in-Some.held) c.done-result.new.self c.args.steps.now.listing
    c.done-result.new.steps.listing)
    (sym (ap held_in_batch (sym c.take_batch.ensures.lines ∙ c.in-Some.is)))
    (record {
      result = c.done-result.result;
      is = refl;
      done = c.done-result.ensures.does;
      changed = record {
        outdated = c.done-result.ensures.outdates;
        registered = c.done-result.ensures.watches;
        queries = c.laws.ensures.queries;
        apart = c.laws.ensures.apart;
        tells = c.done-result.ensures.tells;
      };
    })
