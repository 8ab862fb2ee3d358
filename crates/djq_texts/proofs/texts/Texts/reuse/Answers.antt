-- The number goes from the free ones to the bucket of its text.
use Rattle.std.proofs.Common.{◌≡◌, ◌∙◌, ◌+◌, ℕ, List, Option, Some, ap, sym, subst, arith, length, slice_set, refl}
use Rattle.djq_texts.specs.Known.{Known}
use Rattle.djq_texts.specs.Index.{AreTexts, IsTextIndex}
use Rattle.djq_texts.proofs.Uses.{few_texts, share_at, come}
use Rattle.djq_texts.proofs.texts.Texts.reuse.Goals as goal

pub overflow_add-self : goal.overflow_add-self
overflow_add-self c = omega (arith, (few_texts _ _ _ _ _ c.self.invariant).0)

pub overflow_add-self-2 : goal.overflow_add-self-2
overflow_add-self-2 c = omega (arith, (few_texts _ _ _ _ _ c.self.invariant).1, c.share.ensures.most)

pub invariant_of-self : goal.invariant_of-self
invariant_of-self c =
    let known = c.self.inside.store.entries.items in
    let heads = c.self.inside.store.heads.items in
    let text = c.args.text.now in
    let many : c.len-buckets.result ≡ length heads = omega (arith, c.len-buckets.ensures, c.self.inside.store.heads.ok.0) in
    let entry : c.used-entry.result ≡ Some (record { bytes = text; uses = 1 }) = c.used-entry.ensures
    ∙ ap (λ (b : List ℕ). Some (record { bytes = b; uses = 1 })) c.in_ok-from_slice.ensures.items in
    let now : c.replace.new.store.entries.items ≡ slice_set known c.args.number (Some (record { bytes = text; uses = 1 }))
    = c.replace.ensures.entries ∙ ap (λ (e : Option Known). slice_set known c.args.number e) entry in
    subst
    (λ (l : List (Option Known)). AreTexts l c.replace.new.store.links.items c.replace.new.store.heads.items
    (c.self.inside.used + 1) (c.self.inside.high + c.share.result)) (sym now)
    (come known c.self.inside.store.links.items heads c.replace.new.store.links.items c.replace.new.store.heads.items
    c.self.inside.used c.self.inside.high c.args.number c.share.result text c.self.invariant
    (rw (← c.self.view_is) at c.requires.unknown) (rw (← c.self.view_is) at c.requires.given)
    (rw (← c.self.view_is) at c.requires.free)
    (share_at (length heads) c.args.number c.len-buckets.result c.args.number c.share.result many refl
    c.share.ensures.low c.share.ensures.high)
    c.replace.ensures.heads
    (subst (λ (l : List (Option Known)). IsTextIndex l c.replace.new.store.links.items c.replace.new.store.heads.items)
    now c.replace.ensures.index))
