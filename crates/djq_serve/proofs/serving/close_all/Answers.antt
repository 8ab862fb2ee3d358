-- The first id is that of an open session, and without it one fewer is open, until none is.
use Rattle.std.proofs.Common.{ℕ, List, ◌≡◌, ◌∙◌, None, Some, length, slice_get, refl, sym, ap, rules, arith}
use Rattle.djq_serve.specs.Server.{closing, server, first_open}
use Rattle.djq_serve.proofs.Going.{quietly_none, quietly_then}
use Rattle.djq_serve.proofs.Moving.{closing_goes}
use Rattle.djq_serve.proofs.Sessions.{first_is_open, first_fewer, none_first, closed_ids}
use Rattle.djq_serve.proofs.serving.close_all.Goals as goal

pub closes-init : goal.closes-init
closes-init g c = record {
  agrees = c.requires.agrees;
  goes = λ most answer. quietly_none most _ (server (g.M.Machine.state c.args.machine.now) (closing answer));
  faults = refl;
}

pub close-requires-clause-open : goal.close-requires-clause-open
close-requires-clause-open g c =
    let st = g.M.Machine.state c.closes.machine in
    let first : first_open st ≡ Some c.in-Some.id = ap (λ (is : List ℕ). slice_get is 0) (sym c.ids.ensures)
    ∙ sym c.first.ensures.value ∙ sym c.copied.ensures ∙ c.in-Some.is in
    first_is_open st c.in-Some.id first

pub closes-smaller : goal.closes-smaller
closes-smaller g c =
    let state = g.M.Machine.state in
    let st = state c.closes.machine in
    let first : first_open st ≡ Some c.in-Some.id = ap (λ (is : List ℕ). slice_get is 0) (sym c.ids.ensures)
    ∙ sym c.first.ensures.value ∙ sym c.copied.ensures ∙ c.in-Some.is in
    omega (
      arith,
      first_fewer st c.in-Some.id first,
      ap length
          (closed_ids st c.in-Some.id _ (state c.close.new.machine) c.close.ensures.makes),
    )

pub closes-preserved : goal.closes-preserved
closes-preserved g c =
    let state = g.M.Machine.state in
    let st = state c.closes.machine in
    let first : first_open st ≡ Some c.in-Some.id = ap (λ (is : List ℕ). slice_get is 0) (sym c.ids.ensures)
    ∙ sym c.first.ensures.value ∙ sym c.copied.ensures ∙ c.in-Some.is in
    record {
      agrees = c.close.ensures.agrees;
      goes = λ most answer. quietly_then most _ _ _ (server st (closing answer)) _ _ (c.closes.invariant.goes most answer)
          (closing_goes most _ _ st (state c.close.new.machine) answer c.in-Some.id first c.close.ensures.makes
          c.close.ensures.told);
      faults = c.close.ensures.faults ∙ c.closes.invariant.faults;
    }

pub returns-clause-none : goal.returns-clause-none
returns-clause-none g c =
    let st = g.M.Machine.state c.closes.machine in
    let none : c.copied.result ≡ None = search rules in
    none_first st (ap (λ (is : List ℕ). slice_get is 0) (sym c.ids.ensures) ∙ sym c.first.ensures.value
    ∙ sym c.copied.ensures ∙ none)
