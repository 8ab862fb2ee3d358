-- A link's chain goes on below its own number, with all that share its bucket, the latest of them first.
use Rattle.std.proofs.Common.{◌<◌, length, sym, ◌∙◌, ap, arith}
use Rattle.std.proofs.lemmas.List.{length-map}
use Rattle.djq_dictionary.specs.declared.chain.Link.{Link}
use Rattle.djq_dictionary.specs.Index.{Hashes}
use Rattle.djq_dictionary.proofs.Dictionary.{follows-link, next-at}
use Rattle.djq_dictionary.proofs.index.Index.before.Goals as goal

pub follow-requires-clause-within : goal.follow-requires-clause-within
follow-requires-clause-within c =
    let links = c.self.inside.links in
    let many = sym (length-map links.items (λ (k : Link). k.hash))
    ∙ ap (λ (h : Hashes). length h.hashes) c.self.view_is in
    let low : c.args.number < length links.items = omega (arith, many, c.requires) in
    let next = next-at links.items c.args.number c.index-link.result.now low
    ∙ ap (λ (k : Link). k.next) (sym c.index-link.ensures) in
    let fall = (c.self.invariant.chained.linked.each c.args.number low).within in
    omega (arith, next, fall, low, c.deref.ensures.len, links.ok.0)

pub returns : goal.returns
returns c =
    let links = c.self.inside.links in
    let many = sym (length-map links.items (λ (k : Link). k.hash))
    ∙ ap (λ (h : Hashes). length h.hashes) c.self.view_is in
    let low : c.args.number < length links.items = omega (arith, many, c.requires) in
    let follows = rw c.deref.ensures.value at c.follow.ensures in
    rw (← c.self.view_is)
    (follows-link links.items c.self.inside.heads.items c.args.number c.index-link.result.now c.follow.result
    c.self.invariant low c.index-link.ensures follows)
