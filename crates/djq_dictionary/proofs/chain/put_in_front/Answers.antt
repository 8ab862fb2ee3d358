-- The link's hash says its bucket, and what the head was is where its chain goes on.
use Rattle.std.proofs.Common.{ℕ, length, refl, sym, ◌∙◌, ap, arith}
use Rattle.std.proofs.lemmas.Grind.{get_or_default_zero}
use Rattle.std.proofs.Math.Seq.{map-set_same}
use Rattle.djq_dictionary.specs.declared.chain.Link.{Link}
use Rattle.djq_dictionary.specs.Chains.{bucket_of}
use Rattle.djq_dictionary.proofs.Dictionary.{hash-at, links-put}
use Rattle.djq_dictionary.proofs.chain.put_in_front.Goals as goal

pub returns-clause-chained : goal.returns-clause-chained
returns-clause-chained c =
    let links = c.args.links.now in
    let heads = c.args.heads.now in
    let bucket : ℕ = c.bucket_of-bucket.result in
    let hash = hash-at links c.args.number c.index-links-number.result c.requires.within in
    links-put links heads c.args.number c.index-links-number-2.result bucket c.index-heads-bucket.result c.at.result
    c.requires.within c.bucket_of-bucket.ensures.within
    (c.bucket_of-bucket.ensures.value ∙ ap (λ (h : ℕ). bucket_of (length heads) h) (sym hash))
    (c.index-heads-bucket.is
    ∙ get_or_default_zero heads bucket c.index-heads-bucket.result c.bucket_of-bucket.ensures.within)
    (omega (arith, c.at.ensures)) c.requires.chained

pub returns-clause-hashes : goal.returns-clause-hashes
returns-clause-hashes c = map-set_same (λ (k : Link). k.hash) c.args.links.now c.args.number _
    c.index-links-number-2.result refl
