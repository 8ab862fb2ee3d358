-- A session that the hub has just opened, brings bytes of, or tells the end of is open.
use Rattle.std.proofs.Common.{sym, subst}
use Rattle.std.specs.Prelude.{Contains}
use Rattle.std.proofs.lemmas.List.Elements.{Contains-push}
use Rattle.djq_io.specs.Hub.{Ids}
use Rattle.djq_examples_text.proofs.net.serve.Goals as goal

-- A session that opens, brings bytes or ends is open.
pub flood-requires : goal.flood-requires
flood-requires g c = subst (λ (ids : Ids). Contains ids.open_ids c.in-Opened.id) (sym c.in-Opened.ensures.ids.1)
    (Contains-push _ _)

pub send-requires-clause-is_open : goal.send-requires-clause-is_open
send-requires-clause-is_open g c = subst (λ (ids : Ids). Contains ids.open_ids c.in-Bytes.id)
    (sym c.in-Bytes.ensures.ids.3) c.in-Bytes.ensures.ids.2.0

pub close-requires : goal.close-requires
close-requires g c = record
    { is_open = subst (λ ids. Contains ids c.in-Ended.id) (sym c.in-Ended.ensures.ids.1.1) c.in-Ended.ensures.ids.0.0 }
