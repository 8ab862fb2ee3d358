-- All numbers are in use, and the highest is one that twice as many buckets are for.
use Rattle.std.proofs.Common.{◌≡◌, ◌∙◌, ◌-◌, ◌<◌, ◌≤◌, ℕ, List, Option, ap, sym, subst, arith, length, inr}
use Rattle.djq_texts.specs.Known.{Known, in_use_from}
use Rattle.djq_texts.proofs.Counting.{counted_used}
use Rattle.djq_texts.proofs.room.widen.Goals as goal

pub returns-clause-tight : goal.returns-clause-tight
returns-clause-tight c =
    let known = c.args.store.now.entries.items in
    let last = length known - 1 in
    let many = c.len.ensures in
    let wide = c.len-2.ensures in
    let wide_too = c.len-3.ensures in
    let sizes = c.args.store.now.entries.ok.0 in
    let sizes_too = c.args.store.now.heads.ok.0 in
    let full = c.if-len.false in
    let here : c.quarter.result ≤ last = omega (arith, c.quarter.ensures, many, wide, wide_too, sizes, sizes_too, full, c.requires.index.some) in
    let within : last < length known = omega (arith, many, wide, sizes, sizes_too, full, c.requires.index.some) in
    let these : c.count_from.result ≡ in_use_from c.quarter.result known = c.count_from.ensures
    ∙ ap (λ (l : List (Option Known)). in_use_from c.quarter.result l) c.relist.ensures.entries in
    inr (subst (λ (n : ℕ). 0 < n) (sym these) (counted_used c.quarter.result last known here (c.requires.full last within)))
