-- A place with the id says that the session is open, and a mark on it that its input has ended.
use Rattle.std.proofs.Common.{ap, sym, ◌&&◌, rules, tests, nat_eq}
use Rattle.std.proofs.lemmas.Iterator.{YieldsList-from_slice}
use Rattle.std.proofs.lemmas.Iterator.Search.{any_from_yields_List}
use Rattle.djq_io.specs.Sessions.{Places}
use Rattle.djq_io.proofs.Hubs.{running_by}
use Rattle.djq_io.proofs.sessions.Sessions.is_running.Goals as goal

-- Both searches together tell whether the session is running.
pub returns : goal.returns
returns c =
    let places = c.self.inside.places.items in
    let open_is = any_from_yields_List (λ x. nat_eq x.id c.args.id) _ _ _ c.any-is_open.ensures.ran
    (YieldsList-from_slice places cc) (λ x b q k. search (rules, tests)) in
    let ended_is = any_from_yields_List (λ x. nat_eq x.id c.args.id && x.ended) _ _ _ c.any-has_ended.ensures.ran
    (YieldsList-from_slice places cc) (λ x b q k. search (rules, tests)) in
    running_by c.args.self.now.ids _ _ _ _ (ap (λ (s : Places). s.ids.open_ids) (sym c.self.view_is))
    (ap (λ (s : Places). s.ids.ended_ids) (sym c.self.view_is)) open_is ended_is
