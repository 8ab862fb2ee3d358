-- The row's key and copies stand at its place.
use Rattle.std.proofs.Common.{◌∙◌, ap, sym, refl, arith}
use Rattle.std.specs.Prelude.{◌&&◌, ◌≡◌, Bool, false, nat_eq, length, slice_index_or}
use Rattle.std.proofs.lemmas.Bool.{eq-eqb, eqb-true, false_from_ne_true}
use Rattle.std.proofs.lemmas.Option.{slice_get-get_or, slice_get_read}
use Rattle.djq_transaction.specs.Net.{no_entry}
use Rattle.djq_transaction.proofs.Tables.{cells_in, entry_new}
use Rattle.djq_transaction.proofs.net.Net.is_new.Goals as goal

pub returns-then-key-relation : goal.returns-then-key-relation
returns-then-key-relation c =
    ap (λ (b : Bool). b && nat_eq c.index.result.now.before 0)
    (sym (eq-eqb (slice_index_or c.key.result.now 0 0) c.args.relation c.if-key-relation.true))
    ∙ entry_new c.args.relation (cells_in c.args.self.now.keys.rows) c.args.self.now.copies.items c.args.place
    c.key.result.now c.index.result.now c.key.ensures.key (omega (arith, c.key.ensures.wide, c.requires.some))
    (slice_get_read c.args.self.now.copies.items (length c.args.self.now.copies.items) c.args.place
    c.index.result.now refl (omega (arith, c.requires.within, c.requires.table.long)) c.index.ensures)

pub returns-else-key-relation : goal.returns-else-key-relation
returns-else-key-relation c =
    let no : nat_eq (slice_index_or c.key.result.now 0 0) c.args.relation ≡ false =
    false_from_ne_true (nat_eq (slice_index_or c.key.result.now 0 0) c.args.relation)
    (λ e. c.if-key-relation.false (eqb-true (slice_index_or c.key.result.now 0 0) c.args.relation e)) in
    no
    ∙ ap (λ (b : Bool). b && nat_eq (slice_index_or c.args.self.now.copies.items c.args.place no_entry.1).before 0)
    (sym no)
    ∙ entry_new c.args.relation (cells_in c.args.self.now.keys.rows) c.args.self.now.copies.items c.args.place
    c.key.result.now _ c.key.ensures.key (omega (arith, c.key.ensures.wide, c.requires.some))
    (slice_get-get_or c.args.self.now.copies.items c.args.place no_entry.1
    (omega (arith, c.requires.within, c.requires.table.long)))
