-- The text stays in its bucket, and counts as before.
use Rattle.std.proofs.Common.{sym, subst, Option, slice_set}
use Rattle.djq_texts.specs.Known.{Known}
use Rattle.djq_texts.specs.Index.{AreTexts}
use Rattle.djq_texts.proofs.Known.{read_known}
use Rattle.djq_texts.proofs.InUse.{in_use_within}
use Rattle.djq_texts.proofs.Uses.{used_more}
use Rattle.djq_texts.proofs.texts.Texts.add_use.Goals as goal

pub invariant_of-self : goal.invariant_of-self
invariant_of-self c =
    let known = c.self.inside.store.entries.items in
    let used = rw (← c.self.view_is) at c.requires.used in
    let read = read_known known c.args.number c.index_mut.result.now (in_use_within known c.args.number used)
    c.index_mut.ensures.value in
    subst
    (λ (e : Option Known). AreTexts (slice_set known c.args.number e) c.self.inside.store.links.items
    c.self.inside.store.heads.items c.self.inside.used c.self.inside.high) (sym c.add_use.ensures)
    (used_more known c.self.inside.store.links.items c.self.inside.store.heads.items c.self.inside.used c.self.inside.high
    c.args.number c.index_mut.result.now c.self.invariant used read)
