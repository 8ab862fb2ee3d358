-- There is an end for each text, and the ends rise and stay within the buffer, by the invariant.
use Rattle.std.proofs.Common.{ℕ, List, length, refl, sym, ◌∙◌, ap, arith}
use Rattle.std.proofs.lemmas.Option.{slice_get_read}
use Rattle.djq_dictionary.specs.Buffer.{Shelf}
use Rattle.djq_dictionary.proofs.Dictionary.{length-pieces, piece_at, piece_within}
use Rattle.djq_dictionary.proofs.texts.Texts.get.Goals as goal

pub start_of-start-requires : goal.start_of-start-requires
start_of-start-requires c =
    let t = c.self.inside in
    let many = sym (length-pieces t.bytes.items 0 t.ends.items) ∙ ap (λ (s : Shelf). length s.texts) c.self.view_is in
    let same = ap (λ (l : List ℕ). length l) c.deref.ensures.value in
    omega (arith, many, same, c.requires)

pub index-requires : goal.index-requires
index-requires c =
    let t = c.self.inside in
    let many = sym (length-pieces t.bytes.items 0 t.ends.items) ∙ ap (λ (s : Shelf). length s.texts) c.self.view_is in
    omega (arith, many, t.ends.ok.0, c.requires)

pub slice_bounds-result-count : goal.slice_bounds-result-count
slice_bounds-result-count c =
    let t = c.self.inside in
    let many = sym (length-pieces t.bytes.items 0 t.ends.items) ∙ ap (λ (s : Shelf). length s.texts) c.self.view_is in
    let start = rw c.deref.ensures.value at c.start_of-start.ensures in
    let end = slice_get_read t.ends.items (length t.ends.items) c.args.position c.index.result.now refl
    (omega (arith, many, c.requires)) c.index.ensures in
    let w = piece_within 0 t.ends.items (length t.bytes.items) c.args.position c.start_of-start.result
    c.index.result.now c.self.invariant start end in
    w.0

pub slice_bounds-result-start : goal.slice_bounds-result-start
slice_bounds-result-start c =
    let t = c.self.inside in
    let many = sym (length-pieces t.bytes.items 0 t.ends.items) ∙ ap (λ (s : Shelf). length s.texts) c.self.view_is in
    let start = rw c.deref.ensures.value at c.start_of-start.ensures in
    let end = slice_get_read t.ends.items (length t.ends.items) c.args.position c.index.result.now refl
    (omega (arith, many, c.requires)) c.index.ensures in
    let w = piece_within 0 t.ends.items (length t.bytes.items) c.args.position c.start_of-start.result
    c.index.result.now c.self.invariant start end in
    w.0

pub slice_bounds-result-end : goal.slice_bounds-result-end
slice_bounds-result-end c =
    let t = c.self.inside in
    let many = sym (length-pieces t.bytes.items 0 t.ends.items) ∙ ap (λ (s : Shelf). length s.texts) c.self.view_is in
    let start = rw c.deref.ensures.value at c.start_of-start.ensures in
    let end = slice_get_read t.ends.items (length t.ends.items) c.args.position c.index.result.now refl
    (omega (arith, many, c.requires)) c.index.ensures in
    let w = piece_within 0 t.ends.items (length t.bytes.items) c.args.position c.start_of-start.result
    c.index.result.now c.self.invariant start end in
    let whole = ap (λ (l : List ℕ). length l) c.deref-2.ensures.value in
    omega (arith, whole, w.1)

pub returns : goal.returns
returns c =
    let t = c.self.inside in
    let many = sym (length-pieces t.bytes.items 0 t.ends.items) ∙ ap (λ (s : Shelf). length s.texts) c.self.view_is in
    let start = rw c.deref.ensures.value at c.start_of-start.ensures in
    let end = slice_get_read t.ends.items (length t.ends.items) c.args.position c.index.result.now refl
    (omega (arith, many, c.requires)) c.index.ensures in
    let here = piece_at t.bytes.items 0 t.ends.items c.args.position c.start_of-start.result c.index.result.now start
    end in
    rw (← c.self.view_is, c.deref-2.ensures.value) here
