-- The place found is the first of the query, so what is left is the list without it; if none, all is the same.
use Rattle.std.proofs.Common.{◌≡◌, ◌∙◌, sym, ap, subst, position, Some, None, List}
use Rattle.djq_model.specs.Data.{drop_first}
use Rattle.djq_session.proofs.Removals.{removed_first, no_watch_dropped}
use Rattle.djq_session.proofs.session.Session.unwatch.Goals as goal

pub returns-in-Some : goal.returns-in-Some
returns-in-Some g c =
    let p = λ (q : g.row.Q.Denot). g.Q.PartialEq.eq q c.args.query in
    let watched = c.self.inside.watches.items in
    let place : position p watched
    ≡ Some c.in-Some.at = subst (λ (xs : List g.row.Q.Denot). position p xs ≡ Some c.in-Some.at)
    c.as_slice.ensures.value (sym c.in-Some.ensures) in
    let left : c.remove-gone.new.self.items ≡ drop_first p watched = c.remove-gone.ensures.items
    ∙ removed_first p watched c.in-Some.at place in
    rw (← c.self.view_is) (cc)

pub returns-in_default : goal.returns-in_default
returns-in_default g c =
    let p = λ (q : g.row.Q.Denot). g.Q.PartialEq.eq q c.args.query in
    let watched = c.self.inside.watches.items in
    let place : position p watched
    ≡ None = subst (λ (xs : List g.row.Q.Denot). position p xs ≡ None) c.as_slice.ensures.value
    (sym (c.in_default.ensures)) in
    no_watch_dropped p c.args.self.now watched (ap (λ d. d.watches) c.self.view_is) place
