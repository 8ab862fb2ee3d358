-- With another use than the last one the text stays in its bucket, and counts as before.
use Rattle.std.proofs.Common.{◌∙◌, ◌<◌, ℕ, ap, sym, subst, Option, slice_set}
use Rattle.djq_texts.specs.Known.{Known, uses_of}
use Rattle.djq_texts.specs.Index.{AreTexts}
use Rattle.djq_texts.proofs.Known.{read_known}
use Rattle.djq_texts.proofs.InUse.{in_use_within}
use Rattle.djq_texts.proofs.Uses.{used_less}
use Rattle.djq_texts.proofs.texts.Texts.give_back.Goals as goal

pub invariant_of-self : goal.invariant_of-self
invariant_of-self c =
    let known = c.self.inside.store.entries.items in
    let used = rw (← c.self.view_is) at c.requires in
    let within = in_use_within known c.args.number used in
    let first = read_known known c.args.number c.index.result.now within c.index.ensures in
    let read = read_known known c.args.number c.index_mut.result.now within c.index_mut.ensures.value in
    let uses = c.uses.ensures.uses ∙ ap (λ (e : Option Known). uses_of e) (sym first ∙ read) in
    let more = subst (λ (n : ℕ). 1 < n) uses c.if-uses-gt1.true in
    subst
    (λ (e : Option Known). AreTexts (slice_set known c.args.number e) c.self.inside.store.links.items
    c.self.inside.store.heads.items c.self.inside.used c.self.inside.high) (sym c.lose_use.ensures)
    (used_less known c.self.inside.store.links.items c.self.inside.store.heads.items c.self.inside.used c.self.inside.high
    c.args.number c.index_mut.result.now c.self.invariant used read more)
