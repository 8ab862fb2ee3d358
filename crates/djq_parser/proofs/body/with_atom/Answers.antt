-- Terms that aren't outside the grammar are there, so an atom of them is the item, and the body has an atom.
use Rattle.std.proofs.Common.{Some, true, option_map, subst, sym, ◌∙◌}
use Rattle.std.specs.List.{list_all}
use Rattle.djq_protocol.specs.Grammar.{is_small_term}
use Rattle.djq_parser.specs.Bodies.{HasOneMore, atom_of}
use Rattle.djq_parser.proofs.Bodies.{atom_there}
use Rattle.djq_parser.proofs.ItemLists.{reads_some}
use Rattle.djq_parser.proofs.body.with_atom.Goals as goal

pub returns : goal.returns
returns c = λ b o kept own.
    let found = reads_some (list_all is_small_term) o c.args.terms own
    (sym c.is_outside.ensures ∙ c.if-is_outside.false) in
    subst (λ p. HasOneMore b (option_map (atom_of c.args.relation) p)
    (Some (record { read = c.add_atom-read.result; has_atom = true }))) (sym found.1) (
      c.add_atom-read.ensures b found.0 kept.0 found.2,
      atom_there b
          (record { relation = c.args.relation; terms = found.0 }),
    )
