-- What is left out is free, and the highest number in use is one that the buckets are for.
use Rattle.std.proofs.Common.{◌≡◌, ◌∙◌, ℕ, List, Option, ap, sym, subst, arith, length, take}
use Rattle.std.proofs.lemmas.List.{length-take-le}
use Rattle.djq_texts.specs.Known.{Known, in_use_from}
use Rattle.djq_texts.specs.Index.{AreFewBuckets, quarter}
use Rattle.djq_texts.proofs.Counting.{counted_cut, few_by_top}
use Rattle.djq_texts.proofs.room.narrow.Goals as goal

pub returns-clause-used : goal.returns-clause-used
returns-clause-used c = ap (λ (l : List (Option Known)). in_use_from 0 l) (c.relist.ensures.entries ∙ c.cut.ensures)
    ∙ counted_cut 0 c.top_of-top.result c.args.store.now.entries.items c.top_of-top.ensures.free

pub returns-clause-tight : goal.returns-clause-tight
returns-clause-tight c =
    let known = c.args.store.now.entries.items in
    let top = c.top_of-top.result in
    let buckets = c.fitting-buckets.result in
    let many : length c.relist.new.store.heads.items ≡ buckets = c.relist.ensures.heads
    ∙ (ap (λ (l : List (Option ℕ)). length l) c.cut-3.ensures
    ∙ length-take-le buckets c.args.store.now.heads.items
    (omega (arith, c.fitting-buckets.ensures.fewer, c.len-2.ensures, c.args.store.now.heads.ok.0))) in
    let these : c.count_from.result ≡ in_use_from (quarter buckets) (take top known) = c.count_from.ensures
    ∙ (ap (λ (q : ℕ). in_use_from q c.relist.new.store.entries.items) c.quarter.ensures
    ∙ ap (λ (l : List (Option Known)). in_use_from (quarter buckets) l) (c.relist.ensures.entries ∙ c.cut.ensures)) in
    subst (λ (m : ℕ). AreFewBuckets m c.count_from.result) (sym many)
    (subst (λ (n : ℕ). AreFewBuckets buckets n) (sym these)
    (few_by_top known top buckets c.top_of-top.ensures.free c.top_of-top.ensures.used c.fitting-buckets.ensures.tight))
