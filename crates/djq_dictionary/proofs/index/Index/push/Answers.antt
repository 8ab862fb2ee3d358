-- The links before the new one are in their chains as they were, whatever stands behind them.
use Rattle.std.proofs.Common.{◌≡◌, [], ◌∷◌, ◌++◌, length, arith, rules}
use Rattle.std.proofs.lemmas.List.{length-map, map-append}
use Rattle.djq_dictionary.specs.declared.chain.Link.{Link}
use Rattle.djq_dictionary.specs.Chains.{hashes_of, nexts_of}
use Rattle.djq_dictionary.proofs.Dictionary.{chained-longer}
use Rattle.djq_dictionary.proofs.index.Index.push.Goals as goal

pub put_in_front-requires-clause-chained : goal.put_in_front-requires-clause-chained
put_in_front-requires-clause-chained c =
    let links = c.self.inside.links in
    let heads = c.self.inside.heads in
    let link : Link = record { hash = c.args.hash; next = c.end.result } in
    let pushed : c.deref_mut.result.now ≡ links.items ++ link ∷ [] = search rules in
    let hashes = length-map links.items (λ (k : Link). k.hash) in
    let nexts = length-map links.items (λ (k : Link). k.next) in
    let longer = chained-longer (hashes_of links.items) (nexts_of links.items) heads.items (c.args.hash ∷ [])
    (c.end.result ∷ []) (length links.items) (omega (arith, hashes)) (omega (arith, nexts)) c.self.invariant.chained
    in
    rw (
      pushed,
      map-append (λ (k : Link). k.hash) links.items (link ∷ []),
      map-append (λ (k : Link). k.next) links.items
          (link ∷ []),
      c.deref_mut-2.ensures.value,
      c.len-number.ensures,
      links.ok.0,
    ) longer
