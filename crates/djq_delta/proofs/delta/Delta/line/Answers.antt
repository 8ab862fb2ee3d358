use Rattle.std.proofs.Common.{arith, ap, sym, ◌∙◌, ◌≡◌, ◌<◌, length, take, drop, List, ℕ}
use Rattle.std.proofs.Math.ListN.{get_or}
use Rattle.std.proofs.lemmas.List.{get_or-map, length-map}
use Rattle.djq_delta.specs.declared.place.Place.{Place}
use Rattle.djq_delta.specs.Lines.{SignedLine}
use Rattle.djq_delta.specs.Delta.{DeltaSeen, placed_line, placed_lines}
use Rattle.djq_delta.proofs.delta.Delta.line.Goals as goal

-- the invariant, at this line
pub returns-clause-width : goal.returns-clause-width
returns-clause-width c =
    let width : ℕ = c.self.inside.width in
    let cells : List ℕ = c.self.inside.cells.items in
    let ps : List Place = c.self.inside.places.items in
    let p : Place = c.index-place.result.now in
    let count : length (placed_lines width cells ps) ≡ length ps = length-map ps (placed_line width cells) in
    let lines : length (placed_lines width cells ps) ≡ length c.args.self.now.lines = ap (λ (d : DeltaSeen). length d.lines) c.self.view_is in
    let within : c.args.index < length ps = omega (arith, c.requires) in
    let here : get_or (placed_lines width cells ps) c.args.index (placed_line width cells p) ≡ placed_line width cells p =
    get_or-map (placed_line width cells) ps c.args.index p (placed_line width cells p) within ∙ ap (placed_line width cells) (sym c.index-place.ensures) in
    let long : length (placed_line width cells p).cells ≡ width =
    ap (λ (l : SignedLine). length l.cells) (sym here) ∙ c.self.invariant.4 c.args.index (placed_line width cells p) (omega (arith, c.requires)) in
    ap length c.cells_of.ensures ∙ ap (λ (s : List ℕ). length (take width (drop p.at s))) c.deref.ensures.value ∙ long ∙ ap (λ (d : DeltaSeen). d.width) c.self.view_is
