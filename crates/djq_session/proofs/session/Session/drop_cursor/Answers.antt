-- The place found is the first of the name, so what is left is the list without it, still of other names.
use Rattle.std.proofs.Common.{◌≡◌, ◌∙◌, false, sym, ap, subst, position, Some, None, List}
use Rattle.std.proofs.lemmas.List.Quantifiers.{all_pairs_remove, position-Some}
use Rattle.djq_model.specs.Data.{bytes_eq, drop_first}
use Rattle.djq_session.specs.declared.named.NamedCursor.{NamedCursor}
use Rattle.djq_session.specs.Dialog.{cursor_is_named}
use Rattle.djq_session.proofs.Removals.{removed_first, few_left, no_cursor_dropped}
use Rattle.djq_session.proofs.session.Session.drop_cursor.Goals as goal

pub invariant_of-self : goal.invariant_of-self
invariant_of-self g c =
    let names = c.self.inside.cursors.items in
    let place : position (cursor_is_named c.args.name.now) names
    ≡ Some c.in-Some.at = subst
    (λ (xs : List (NamedCursor g.row.C.Denot)). position (cursor_is_named c.args.name.now) xs ≡ Some c.in-Some.at)
    c.as_slice.ensures.value (sym c.in-Some.ensures) in
    let within = position-Some (cursor_is_named c.args.name.now) names c.in-Some.at c.remove-gone.result place in (
      record {
        room = c.self.invariant.0.room;
        few = rw c.remove-gone.ensures.items (few_left names c.in-Some.at _ c.self.invariant.0.few);
        different = rw c.remove-gone.ensures.items
            (all_pairs_remove (λ a b. bytes_eq a.name b.name ≡ false) names c.in-Some.at within.0
            c.self.invariant.0.different);
      },
      c.self.invariant.1,
    )

pub returns-in-Some : goal.returns-in-Some
returns-in-Some g c =
    let names = c.self.inside.cursors.items in
    let place : position (cursor_is_named c.args.name.now) names
    ≡ Some c.in-Some.at = subst
    (λ (xs : List (NamedCursor g.row.C.Denot)). position (cursor_is_named c.args.name.now) xs ≡ Some c.in-Some.at)
    c.as_slice.ensures.value (sym c.in-Some.ensures) in
    let left : c.remove-gone.new.self.items
    ≡ drop_first (cursor_is_named c.args.name.now) names = c.remove-gone.ensures.items
    ∙ removed_first (cursor_is_named c.args.name.now) names c.in-Some.at place in
    rw (← c.self.view_is) (cc)

pub returns-in_default : goal.returns-in_default
returns-in_default g c =
    let names = c.self.inside.cursors.items in
    let place : position (cursor_is_named c.args.name.now) names
    ≡ None = subst (λ (xs : List (NamedCursor g.row.C.Denot)). position (cursor_is_named c.args.name.now) xs ≡ None)
    c.as_slice.ensures.value (sym (c.in_default.ensures)) in
    no_cursor_dropped (cursor_is_named c.args.name.now) c.args.self.now names (ap (λ d. d.cursors) c.self.view_is) place
