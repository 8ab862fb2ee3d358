-- The number goes to the bucket of the free ones, and the store becomes smaller where it may.
use Rattle.std.proofs.Common.{◌≡◌, ◌∙◌, ℕ, List, Option, None, ap, sym, subst, arith, length, slice_set, length-set, refl}
use Rattle.djq_texts.specs.Known.{Known, Sets, in_use_from}
use Rattle.djq_texts.specs.Index.{quarter}
use Rattle.djq_texts.proofs.Known.{set_sets}
use Rattle.djq_texts.proofs.InUse.{in_use_within}
use Rattle.djq_texts.proofs.Uses.{once_used, some_used, lost, share_at, gone, sets_alike}
use Rattle.djq_texts.proofs.texts.Texts.forget.Goals as goal

pub overflow_sub-self : goal.overflow_sub-self
overflow_sub-self c = some_used _ _ _ _ _ c.args.number c.self.invariant
    (once_used _ (rw (← c.self.view_is) at c.requires))

pub overflow_sub-high : goal.overflow_sub-high
overflow_sub-high c =
    let heads = c.self.inside.store.heads.items in
    let many : c.len-buckets.result ≡ length heads = omega (arith, c.len-buckets.ensures, c.self.inside.store.heads.ok.0) in
    (lost c.self.inside.store.entries.items c.self.inside.store.links.items heads c.self.inside.used c.self.inside.high
    c.args.number c.share.result c.self.invariant (once_used _ (rw (← c.self.view_is) at c.requires))
    (share_at (length heads) c.args.number c.len-buckets.result c.args.number c.share.result many refl
    c.share.ensures.low c.share.ensures.high)).enough

pub narrow-self-inside-requires-clause-room : goal.narrow-self-inside-requires-clause-room
narrow-self-inside-requires-clause-room c =
    let known = c.self.inside.store.entries.items in
    let is = c.replace.ensures.entries ∙ ap (λ (e : Option Known). slice_set known c.args.number e) c.free.ensures in
    omega (
      arith,
      ap (λ (l : List (Option Known)). length l) is,
      length-set known c.args.number None,
      c.replace.ensures.heads,
      c.self.invariant.room,
    )

pub narrow-self-inside-requires-clause-high : goal.narrow-self-inside-requires-clause-high
narrow-self-inside-requires-clause-high c =
    let known = c.self.inside.store.entries.items in
    let heads = c.self.inside.store.heads.items in
    let many : c.len-buckets.result ≡ length heads = omega (arith, c.len-buckets.ensures, c.self.inside.store.heads.ok.0) in
    let is = c.replace.ensures.entries ∙ ap (λ (e : Option Known). slice_set known c.args.number e) c.free.ensures in
    let l = lost known c.self.inside.store.links.items heads c.self.inside.used c.self.inside.high
    c.args.number c.share.result c.self.invariant (once_used _ (rw (← c.self.view_is) at c.requires))
    (share_at (length heads) c.args.number c.len-buckets.result c.args.number c.share.result many refl
    c.share.ensures.low c.share.ensures.high) in
    l.high ∙ (ap (λ (n : ℕ). in_use_from (quarter n) (slice_set known c.args.number None)) (sym c.replace.ensures.heads)
    ∙ ap (λ (k : List (Option Known)). in_use_from (quarter (length c.replace.new.store.heads.items)) k) (sym is))

pub invariant_of-self : goal.invariant_of-self
invariant_of-self c =
    let known = c.self.inside.store.entries.items in
    let heads = c.self.inside.store.heads.items in
    let many : c.len-buckets.result ≡ length heads = omega (arith, c.len-buckets.ensures, c.self.inside.store.heads.ok.0) in
    let is = c.replace.ensures.entries ∙ ap (λ (e : Option Known). slice_set known c.args.number e) c.free.ensures in
    let n = c.narrow-self-inside.ensures in
    gone known c.replace.new.store.entries.items c.narrow-self-inside.new.store.entries.items
    c.self.inside.store.links.items heads c.narrow-self-inside.new.store.links.items
    c.narrow-self-inside.new.store.heads.items c.self.inside.used c.self.inside.high c.args.number c.share.result
    c.narrow-self-inside.result c.self.invariant (once_used _ (rw (← c.self.view_is) at c.requires))
    (share_at (length heads) c.args.number c.len-buckets.result c.args.number c.share.result many refl
    c.share.ensures.low c.share.ensures.high)
    is n.same n.used n.index n.room n.high n.tight

pub returns : goal.returns
returns c =
    let known = c.self.inside.store.entries.items in
    let used = once_used _ (rw (← c.self.view_is) at c.requires) in
    let is = c.replace.ensures.entries ∙ ap (λ (e : Option Known). slice_set known c.args.number e) c.free.ensures in
    rw (← c.self.view_is)
    (sets_alike known c.replace.new.store.entries.items c.narrow-self-inside.new.store.entries.items c.args.number None
    (subst (λ (l : List (Option Known)). Sets known c.args.number None l) (sym is)
    (set_sets known c.args.number None (in_use_within known c.args.number used)))
    c.narrow-self-inside.ensures.same)
