-- A session that the hub has just opened is open, and one whose input ended is open until it is closed.
use Rattle.std.proofs.Common.{sym, subst}
use Rattle.std.specs.Prelude.{Contains}
use Rattle.std.proofs.lemmas.List.Elements.{Contains-push}
use Rattle.djq_io.specs.Hub.{Ids}
use Rattle.djq_examples_text.proofs.io.greet.Goals as goal

-- A session that was opened is open, and so is one that ends.
pub send-requires-clause-is_open : goal.send-requires-clause-is_open
send-requires-clause-is_open g c = subst (λ (ids : Ids). Contains ids.open_ids c.in-Opened.id)
    (sym c.in-Opened.ensures.ids.1) (Contains-push _ _)

pub close-requires : goal.close-requires
close-requires g c = record
    { is_open = subst (λ ids. Contains ids c.in-Ended.id) (sym c.in-Ended.ensures.ids.1.1) c.in-Ended.ensures.ids.0.0 }
