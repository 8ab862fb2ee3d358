-- The bucket's head is the link that was put into it latest, so the chain from there has all with the hash.
use Rattle.std.proofs.Common.{◌<◌, ℕ, length, ◌∙◌, ap, arith}
use Rattle.std.proofs.lemmas.Grind.{get_or_default_zero}
use Rattle.djq_dictionary.specs.Chains.{bucket_of}
use Rattle.djq_dictionary.proofs.Dictionary.{follows-head}
use Rattle.djq_dictionary.proofs.index.Index.last.Goals as goal

pub returns : goal.returns
returns c =
    let links = c.self.inside.links in
    let heads = c.self.inside.heads in
    let bucket : ℕ = c.bucket_of-bucket.result in
    let many = c.len.ensures ∙ heads.ok.0 in
    let within : bucket < length heads.items = omega (arith, many, c.bucket_of-bucket.ensures.within) in
    let own = c.bucket_of-bucket.ensures.value ∙ ap (λ (n : ℕ). bucket_of n c.args.hash) many in
    let read = c.index.ensures ∙ get_or_default_zero heads.items bucket c.index.result.now within in
    let follows = rw c.deref.ensures.value at c.follow.ensures in
    rw (← c.self.view_is)
    (follows-head links.items heads.items c.args.hash bucket c.index.result.now c.follow.result c.self.invariant
    within own read follows)
