-- By the walk's invariant, what isn't ahead is another text; what is ahead gets shorter.
use Rattle.std.proofs.Common.{◌∙◌, sym, refl, rules, arith}
use Rattle.djq_texts.specs.Known.{HasNumber}
use Rattle.djq_texts.proofs.Known.{read_known}
use Rattle.djq_texts.proofs.Search.{seeking, over, stop_within, onward, nearer}
use Rattle.djq_texts.proofs.store.find_from.Goals as goal

pub loop-number-init : goal.loop-number-init
loop-number-init c = seeking c.args.store.now.entries.items c.args.store.now.links.items c.args.store.now.heads.items
    c.args.text.now c.args.head c.requires.index c.requires.head

pub index-requires : goal.index-requires
index-requires c = omega (
  arith,
  stop_within c.args.store.now.entries.items c.args.store.now.links.items c.args.text.now c.loop-number.at
      c.in-Some.number c.loop-number.invariant (sym c.in-Some.ensures),
  c.args.store.now.entries.ok.0,
)

pub returns-then-is_text : goal.returns-then-is_text
returns-then-is_text c = (
  _,
  read_known c.args.store.now.entries.items c.in-Some.number c.index.result.now
      (stop_within c.args.store.now.entries.items c.args.store.now.links.items c.args.text.now c.loop-number.at
      c.in-Some.number c.loop-number.invariant (sym c.in-Some.ensures)) c.index.ensures
      ∙ c.is_text.ensures.yes c.if-is_text.true,
)

pub link_of-at-requires : goal.link_of-at-requires
link_of-at-requires c = rw c.requires.index.linked
    (stop_within c.args.store.now.entries.items c.args.store.now.links.items c.args.text.now c.loop-number.at
    c.in-Some.number c.loop-number.invariant (sym c.in-Some.ensures))

pub loop-number-smaller : goal.loop-number-smaller
loop-number-smaller c =
    nearer c.args.store.now.entries.items c.args.store.now.links.items c.args.text.now c.loop-number.at
    c.in-Some.number _ c.loop-number.invariant (sym c.in-Some.ensures) c.link_of-at.ensures

pub loop-number-preserved : goal.loop-number-preserved
loop-number-preserved c =
    let known = c.args.store.now.entries.items in
    let links = c.args.store.now.links.items in
    let here = sym c.in-Some.ensures in
    let read = read_known known c.in-Some.number c.index.result.now
    (stop_within known links c.args.text.now c.loop-number.at c.in-Some.number c.loop-number.invariant here)
    c.index.ensures in
    let other : HasNumber known c.in-Some.number c.args.text.now → ⊥ = λ num.
    let yes = c.is_text.ensures.no (record { bytes = c.args.text.now; uses = num.0 }) (sym read ∙ num.1) refl in
    let no = c.if-is_text.false in
    cc in
    onward known links c.args.text.now c.loop-number.at c.in-Some.number _ c.loop-number.invariant here other
    c.link_of-at.ensures

pub returns : goal.returns
returns c = over c.args.store.now.entries.items c.args.store.now.links.items c.args.text.now c.loop-number.at
    c.loop-number.invariant (search rules)
