-- The steps along the chain so far passed no link with the hash, and each next number is a lower one.
use Rattle.std.proofs.Common.{◌<◌, ℕ, ◌-◌, length, sym, ◌∙◌, ap, arith}
use Rattle.std.proofs.lemmas.List.{length-map}
use Rattle.djq_dictionary.specs.declared.chain.Link.{Link}
use Rattle.djq_dictionary.specs.Chains.{hashes_of, nexts_of}
use Rattle.djq_dictionary.proofs.Dictionary.{rest-first, rest-next, rest-found, rest-over, hash-at, next-at}
use Rattle.djq_dictionary.proofs.chain.follow.Goals as goal

pub loop-rest-init : goal.loop-rest-init
loop-rest-init c = record {
  within = c.requires.within;
  walked = λ buckets n linked first. rest-first buckets (hashes_of c.args.links.now) c.args.hash n c.args.from first;
}

pub returns-then-link-hash : goal.returns-then-link-hash
returns-then-link-hash c = λ buckets n linked first.
    let links = c.args.links.now in
    let past : ℕ = c.rest.inside.past in
    let w = rw (← c.rest.view_is) at (c.loop-rest.invariant.walked buckets n linked first) in
    let within = c.loop-rest.invariant.within in
    let low : past - 1 < length links = omega (arith, c.rest.view_is) in
    let hash = hash-at links (past - 1) c.index-links-number.result low
    ∙ ap (λ (k : Link). k.hash) (sym c.index-links-number.is) ∙ c.if-link-hash.true in
    rest-found buckets (hashes_of links) c.args.hash n past (omega arith) hash w

pub loop-rest-smaller : goal.loop-rest-smaller
loop-rest-smaller c =
    let links = c.args.links.now in
    let past : ℕ = c.rest.inside.past in
    let within = c.loop-rest.invariant.within in
    let low : past - 1 < length links = omega (arith, c.rest.view_is) in
    let next = next-at links (past - 1) c.index-links-number.result low
    ∙ ap (λ (k : Link). k.next) (sym c.index-links-number.is) in
    let many = length-map links (λ (k : Link). k.next) in
    let fall = c.requires.falling (past - 1) (omega (arith, many)) in
    omega (arith, next, fall, c.rest.view_is)

pub loop-rest-preserved : goal.loop-rest-preserved
loop-rest-preserved c =
    let links = c.args.links.now in
    let past : ℕ = c.rest.inside.past in
    let within = c.loop-rest.invariant.within in
    let low : past - 1 < length links = omega (arith, c.rest.view_is) in
    let next = next-at links (past - 1) c.index-links-number.result low
    ∙ ap (λ (k : Link). k.next) (sym c.index-links-number.is) in
    let hash = hash-at links (past - 1) c.index-links-number.result low
    ∙ ap (λ (k : Link). k.hash) (sym c.index-links-number.is) in
    let many = length-map links (λ (k : Link). k.next) in
    let hashes = length-map links (λ (k : Link). k.hash) in
    let fall = c.requires.falling (past - 1) (omega (arith, many)) in
    record {
      within = omega (arith, next, fall);
      walked = λ buckets n linked first.
          let w = rw (← c.rest.view_is) at (c.loop-rest.invariant.walked buckets n linked first) in
          rw next at (rest-next buckets (hashes_of links) (nexts_of links) c.args.hash n past linked (omega arith)
          (omega (arith, hashes)) (λ e. c.if-link-hash.false (sym hash ∙ e)) w);
    }

pub returns : goal.returns
returns c = λ buckets n linked first.
    let w = c.loop-rest.invariant.walked buckets n linked first in
    rest-over buckets (hashes_of c.args.links.now) c.args.hash n c.loop-rest.rest (omega (arith, c.rest.view_is)) w
