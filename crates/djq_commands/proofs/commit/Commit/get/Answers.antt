-- The line is the one of the entry at its place that stands as far behind the entry's first.
use Rattle.std.proofs.Common.{◌-◌, ◌∙◌, refl, sym, ap, subst, get_or, List, ℕ, length, arith}
use Rattle.std.specs.Prelude.{slice_get}
use Rattle.std.proofs.lemmas.Bool.{false≢true, lt-ltb, ltb-true}
use Rattle.djq_model.specs.Data.{Bytes}
use Rattle.djq_commands.specs.declared.commit.Entry.{Entry}
use Rattle.djq_commands.specs.Logging.{OpenCommit, IsPlace, entry_lines}
use Rattle.djq_commands.specs.Sound.{Rises}
use Rattle.djq_commands.proofs.CommitLines.{some_at, none_at, one_within, firsts_rise}
use Rattle.djq_commands.proofs.commit.Commit.get.Goals as goal

pub place_of-at-requires : goal.place_of-at-requires
place_of-at-requires c = subst Rises (sym (c.as_slice.ensures.value ∙ c.self.invariant.numbered))
    (firsts_rise 0 c.self.inside.entries.items)

pub returns-in-None : goal.returns-in-None
returns-in-None c =
    let place = subst (λ (fs : List ℕ). IsPlace fs c.args.i c.place_of-at.result)
    (c.as_slice.ensures.value ∙ c.self.invariant.numbered) c.place_of-at.ensures in
    none_at c.self.inside.bytes.items c.self.inside.entries.items c.args.i c.place_of-at.result place
    (λ l. false≢true (c.in-None.ensures.lookup.0 ∙ lt-ltb c.place_of-at.result (length c.deref.result.now)
    (omega (arith, l, ap (λ (es : List Entry). length es) c.deref.ensures.value))))
    ∙ ap (λ (v : OpenCommit). slice_get v.lines c.args.i) c.self.view_is

pub line_of-requires : goal.line_of-requires
line_of-requires c =
    let same = ap (λ (es : List Entry). get_or es c.place_of-at.result c.in-Some.entry.now) c.deref.ensures.value in
    one_within c.self.inside.end (length c.as_slice-in-Some.result.now) c.self.inside.entries.items
    c.place_of-at.result c.in-Some.entry.now c.self.invariant.placed
    (omega (arith, c.self.invariant.within, ap (λ (bs : Bytes). length bs) c.as_slice-in-Some.ensures))
    (omega (
      arith,
      ltb-true c.place_of-at.result (length c.deref.result.now) (sym c.in-Some.ensures.lookup.0),
      ap (λ (es : List Entry). length es) c.deref.ensures.value,
    ))
    (c.in-Some.ensures.lookup.1 ∙ same)

pub returns-in-Some : goal.returns-in-Some
returns-in-Some c =
    let place = subst (λ (fs : List ℕ). IsPlace fs c.args.i c.place_of-at.result)
    (c.as_slice.ensures.value ∙ c.self.invariant.numbered) c.place_of-at.ensures in
    let same = ap (λ (es : List Entry). get_or es c.place_of-at.result c.in-Some.entry.now) c.deref.ensures.value in
    c.line_of.ensures
    ∙ ap (λ (bs : Bytes). slice_get (entry_lines bs c.in-Some.entry.now) (c.args.i - c.index.result.now))
    c.as_slice-in-Some.ensures
    ∙ some_at c.self.inside.bytes.items c.self.inside.entries.items c.args.i c.place_of-at.result c.index.result.now
    (c.args.i - c.index.result.now) c.in-Some.entry.now place
    (omega (
      arith,
      ltb-true c.place_of-at.result (length c.deref.result.now) (sym c.in-Some.ensures.lookup.0),
      ap (λ (es : List Entry). length es) c.deref.ensures.value,
    ))
    (c.in-Some.ensures.lookup.1 ∙ same)
    (c.index.ensures ∙ ap (λ (fs : List ℕ). get_or fs c.place_of-at.result c.index.result.now) c.self.invariant.numbered)
    refl
    ∙ ap (λ (v : OpenCommit). slice_get v.lines c.args.i) c.self.view_is
