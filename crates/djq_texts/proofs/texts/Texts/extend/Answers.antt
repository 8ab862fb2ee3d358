-- The next number is behind all others, which are in use; the buckets may be more by then.
use Rattle.std.proofs.Common.{◌≡◌, ◌∙◌, ◌+◌, ◌<◌, ◌++◌, ◌∷◌, [], ℕ, List, Option, Some, refl, ap, sym, subst, arith, length}
use Rattle.djq_texts.specs.Known.{Known, HasNoNumber}
use Rattle.djq_texts.specs.Index.{AreTexts, IsTextIndex, quarter}
use Rattle.djq_texts.proofs.Counting.{counted_few}
use Rattle.djq_texts.proofs.Uses.{as_wide, widened, few_texts, share_at, come_next}
use Rattle.djq_texts.proofs.texts.Texts.extend.Goals as goal

pub invariant_of-self : goal.invariant_of-self
invariant_of-self c = as_wide c.self.inside.store.entries.items c.widen.new.store.entries.items
    c.self.inside.store.links.items c.self.inside.store.heads.items c.widen.new.store.links.items
    c.widen.new.store.heads.items c.self.inside.used c.self.inside.high c.self.invariant
    c.in_err-self-inside.ensures.entries c.in_err-self-inside.ensures.index c.in_err-self-inside.ensures.err

pub invariant_of-self-in_err-reserve : goal.invariant_of-self-in_err-reserve
invariant_of-self-in_err-reserve c = widened c.self.inside.store.entries.items c.widen.new.store.entries.items
    c.reserve.new.self.items c.self.inside.store.links.items c.self.inside.store.heads.items
    c.widen.new.store.links.items c.widen.new.store.links.items c.widen.new.store.heads.items c.self.inside.used
    c.self.inside.high c.in_ok-self-inside.field-0 c.self.invariant c.in_ok-self-inside.ensures.entries
    c.in_ok-self-inside.ensures.index c.in_ok-self-inside.ensures.room c.in_ok-self-inside.ensures.high
    c.in_ok-self-inside.ensures.tight c.reserve.ensures.items refl

pub invariant_of-self-in_err-reserve-2 : goal.invariant_of-self-in_err-reserve-2
invariant_of-self-in_err-reserve-2 c = widened c.self.inside.store.entries.items c.widen.new.store.entries.items
    c.reserve.new.self.items c.self.inside.store.links.items c.self.inside.store.heads.items
    c.widen.new.store.links.items c.reserve-2.new.self.items c.widen.new.store.heads.items c.self.inside.used
    c.self.inside.high c.in_ok-self-inside.field-0 c.self.invariant c.in_ok-self-inside.ensures.entries
    c.in_ok-self-inside.ensures.index c.in_ok-self-inside.ensures.room c.in_ok-self-inside.ensures.high
    c.in_ok-self-inside.ensures.tight c.reserve.ensures.items c.reserve-2.ensures.items

pub invariant_of-self-in_err-from_slice : goal.invariant_of-self-in_err-from_slice
invariant_of-self-in_err-from_slice c = widened c.self.inside.store.entries.items c.widen.new.store.entries.items
    c.reserve.new.self.items c.self.inside.store.links.items c.self.inside.store.heads.items
    c.widen.new.store.links.items c.reserve-2.new.self.items c.widen.new.store.heads.items c.self.inside.used
    c.self.inside.high c.in_ok-self-inside.field-0 c.self.invariant c.in_ok-self-inside.ensures.entries
    c.in_ok-self-inside.ensures.index c.in_ok-self-inside.ensures.room c.in_ok-self-inside.ensures.high
    c.in_ok-self-inside.ensures.tight c.reserve.ensures.items c.reserve-2.ensures.items

pub overflow_add-self : goal.overflow_add-self
overflow_add-self c = omega (arith, (few_texts _ _ _ _ _ c.self.invariant).0)

pub overflow_add-self-2 : goal.overflow_add-self-2
overflow_add-self-2 c = omega (
  arith,
  c.share.ensures.most,
  c.in_ok-self-inside.ensures.high,
  counted_few (quarter (length c.widen.new.store.heads.items)) c.widen.new.store.entries.items,
  c.in_ok-self-inside.ensures.index.few,
)

pub invariant_of-self-2 : goal.invariant_of-self-2
invariant_of-self-2 c =
    let known = c.reserve.new.self.items in
    let heads = c.widen.new.store.heads.items in
    let text = c.args.text.now in
    let t : AreTexts known c.reserve-2.new.self.items heads c.self.inside.used c.in_ok-self-inside.field-0 = widened
    c.self.inside.store.entries.items c.widen.new.store.entries.items known c.self.inside.store.links.items
    c.self.inside.store.heads.items c.widen.new.store.links.items c.reserve-2.new.self.items heads c.self.inside.used
    c.self.inside.high c.in_ok-self-inside.field-0 c.self.invariant c.in_ok-self-inside.ensures.entries
    c.in_ok-self-inside.ensures.index c.in_ok-self-inside.ensures.room c.in_ok-self-inside.ensures.high
    c.in_ok-self-inside.ensures.tight c.reserve.ensures.items c.reserve-2.ensures.items in
    let same : known ≡ c.self.inside.store.entries.items = c.reserve.ensures.items ∙ c.in_ok-self-inside.ensures.entries in
    let unknown = subst (λ (l : List (Option Known)). HasNoNumber l text) (sym same)
    (rw (← c.self.view_is) at c.requires.unknown) in
    let many : c.len-buckets.result ≡ length heads = omega (arith, c.len-buckets.ensures, c.widen.new.store.heads.ok.0) in
    let room = subst (λ (l : List (Option Known)). length l + 1 < length heads) (sym c.reserve.ensures.items)
    c.in_ok-self-inside.ensures.room in
    let entry : c.used-entry.result ≡ Some (record { bytes = text; uses = 1 }) = c.used-entry.ensures
    ∙ ap (λ (b : List ℕ). Some (record { bytes = b; uses = 1 })) c.in_ok-from_slice.ensures.items in
    let now : c.append-number.new.store.entries.items ≡ known ++ Some (record { bytes = text; uses = 1 }) ∷ []
    = c.append-number.ensures.entries ∙ ap (λ (e : Option Known). known ++ e ∷ []) entry in
    subst
    (λ (l : List (Option Known)). AreTexts l c.append-number.new.store.links.items c.append-number.new.store.heads.items
    (c.self.inside.used + 1) (c.in_ok-self-inside.field-0 + c.share.result)) (sym now)
    (come_next known c.reserve-2.new.self.items heads c.append-number.new.store.links.items
    c.append-number.new.store.heads.items c.self.inside.used c.in_ok-self-inside.field-0 c.share.result text t unknown
    (share_at (length heads) (length known) c.len-buckets.result c.append-number.result c.share.result many
    c.append-number.ensures.number c.share.ensures.low c.share.ensures.high)
    c.append-number.ensures.heads room
    (subst
    (λ (l : List (Option Known)). IsTextIndex l c.append-number.new.store.links.items c.append-number.new.store.heads.items)
    now c.append-number.ensures.index))

pub returns-clause-place : goal.returns-clause-place
returns-clause-place c = rw (← c.self.view_is)
    (c.append-number.ensures.number
    ∙ ap (λ (l : List (Option Known)). length l) (c.reserve.ensures.items ∙ c.in_ok-self-inside.ensures.entries))
