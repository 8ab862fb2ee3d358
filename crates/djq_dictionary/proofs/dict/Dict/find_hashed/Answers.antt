-- All with the text's hash are candidates, and those so far had other texts, so none is passed over.
use Rattle.std.proofs.Common.{◌≢◌, ℕ, List, sym, ◌∙◌, arith}
use Rattle.std.specs.Prelude.{slice_index_or}
use Rattle.std.proofs.lemmas.Bool.Decides.{Decides-eqb}
use Rattle.std.proofs.lemmas.Option.{get_or_from_slice_get}
use Rattle.std.proofs.lemmas.Slice.Eq.{slice_eq-Decides}
use Rattle.djq_dictionary.proofs.Dictionary.{searched-first, searched-next}
use Rattle.djq_dictionary.proofs.dict.Dict.find_hashed.Goals as goal

pub loop-candidate-init : goal.loop-candidate-init
loop-candidate-init c =
    searched-first c.self.inside.texts.texts c.self.inside.index.hashes c.args.text.now c.args.hash
    c.last-candidate.result c.self.invariant c.requires c.last-candidate.ensures

pub loop-candidate-preserved : goal.loop-candidate-preserved
loop-candidate-preserved c =
    let texts = c.self.inside.texts.texts in
    let hashes = c.self.inside.index.hashes in
    let text = c.args.text.now in
    let number : ℕ = c.in-Some.number in
    let searched = rw c.in-Some.is at c.loop-candidate.invariant in
    let equal = slice_eq-Decides Decides-eqb c.get.result.now text c.eq.result c.eq.ensures in
    let other : (d : List ℕ) → slice_index_or texts number d ≢ text = λ d same.
    let read = get_or_from_slice_get texts number c.get.result.now d c.get.ensures in
    let yes = equal.1 (sym read ∙ same) in
    let no = c.if-eq.false in
    cc in
    searched-next texts hashes text c.args.hash number _ c.before-candidate.result c.self.invariant c.requires searched
    other c.before-candidate.ensures (omega arith)
