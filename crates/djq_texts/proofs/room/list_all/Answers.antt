-- By the loop, the numbers below the index are in their buckets.
use Rattle.std.proofs.Common.{◌≡◌, ◌∙◌, ◌<◌, ℕ, List, Option, refl, ap, subst, arith, length, length-set}
use Rattle.djq_texts.proofs.Known.{read_known}
use Rattle.djq_texts.proofs.Index.{AreListed, none_listed, listed_more, all_listed, read_falls}
use Rattle.djq_texts.proofs.room.list_all.Goals as goal

pub loop-number-init : goal.loop-number-init
loop-number-init c = record {
  listed = none_listed c.args.entries.now.items c.args.links.now.items c.args.heads.now.items c.requires.empty;
  linked = c.requires.linked;
  heads = refl;
}

pub loop-number-preserved : goal.loop-number-preserved
loop-number-preserved c =
    let known = c.args.entries.now.items in
    let number = c.loop-number.number in
    let heads = c.loop-number.heads.items in
    let within : number < length known = omega (arith, c.loop-number-test.true, c.len-number-end.ensures, c.args.entries.now.ok.0) in
    let many : c.len.result ≡ length heads = omega (arith, c.len.ensures, c.loop-number.heads.ok.0) in
    record {
      listed = rw (c.push_bucket.ensures.links, c.push_bucket.ensures.heads)
          (listed_more known c.loop-number.links.items heads number c.entry_bucket-to.result c.loop-number.invariant.listed
          (omega (arith, within, c.loop-number.invariant.linked)) (omega (arith, c.entry_bucket-to.ensures.within, many))
          (read_falls known heads c.len.result number c.entry_bucket-to.result c.index.result.now many
          (read_known known number c.index.result.now within c.index.ensures) c.entry_bucket-to.ensures.value));
      linked = ap (λ (l : List (Option ℕ)). length l) c.push_bucket.ensures.links
          ∙ (length-set _ _ _ ∙ c.loop-number.invariant.linked);
      heads = ap (λ (l : List (Option ℕ)). length l) c.push_bucket.ensures.heads
          ∙ (length-set _ _ _ ∙ c.loop-number.invariant.heads);
    }

pub returns-clause-index : goal.returns-clause-index
returns-clause-index c =
    let known = c.args.entries.now.items in
    let all : c.loop-number.number ≡ length known = omega (
      arith,
      c.loop-number-test.false,
      c.loop-number.auto.number-end,
      c.len-number-end.ensures,
      c.args.entries.now.ok.0,
    ) in
    all_listed known c.loop-number.links.items c.loop-number.heads.items
    (subst (λ (n : ℕ). AreListed known c.loop-number.links.items c.loop-number.heads.items n) all c.loop-number.invariant.listed)
    c.loop-number.invariant.linked (omega (arith, c.loop-number.invariant.heads, c.requires.some)) c.requires.few
