-- No cursor has the name and there were fewer than may be, so with one more names differ and are few enough.
use Rattle.std.proofs.Common.{arith, ◌≡◌, ◌++◌, ◌∷◌, [], false, length, length-append, ◌∙◌, None, ap}
use Rattle.std.proofs.lemmas.List.Quantifiers.{all_pairs_push}
use Rattle.djq_model.specs.Data.{bytes_eq}
use Rattle.djq_session.specs.declared.named.NamedCursor.{NamedCursor}
use Rattle.djq_session.specs.Dialog.{named, cursor_is_named}
use Rattle.djq_session.proofs.Removals.{none_passes}
use Rattle.djq_session.proofs.session.Session.add_cursor.Goals as goal

pub invariant_of-self-2 : goal.invariant_of-self-2
invariant_of-self-2 g c =
    let names = c.self.inside.cursors.items in
    let added : NamedCursor g.row.C.Denot = record { name = c.args.name.now; cursor = c.args.cursor } in
    let grown : c.push.new.self.items ≡ names ++ added ∷ [] = c.in_ok-push.ensures.items in
    let absent : named names c.args.name.now ≡ None = ap (λ d. named d.cursors c.args.name.now) c.self.view_is
    ∙ c.requires.absent in (
      record {
        room = c.self.invariant.0.room;
        few = rw grown (omega
            (arith, c.requires.few, length-append names (added ∷ []), ap (λ d. length d.cursors) c.self.view_is));
        different = rw grown (all_pairs_push (λ a b. bytes_eq a.name b.name ≡ false) names added
            c.self.invariant.0.different (none_passes (cursor_is_named c.args.name.now) names absent));
      },
      c.self.invariant.1,
    )
