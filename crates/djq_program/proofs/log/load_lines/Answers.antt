-- A line that is read and run is one more of the lines found; reading changes nothing of the disk.
use Rattle.std.proofs.Common.{◌≡◌, ◌∙◌, ℕ, [], ◌∷◌, ◌++◌, take, refl, sym, ap, subst, inl, inr, arith, Option}
use Rattle.djq_io.specs.Faults.{Counted}
use Rattle.djq_disk.specs.History.{History}
use Rattle.djq_disk.proofs.Files.{told_none}
use Rattle.djq_model.specs.Data.{Bytes}
use Rattle.djq_store_spec.specs.Held.{HeldTransaction}
use Rattle.djq_machine.specs.State.{State, opening}
use Rattle.djq_machine.specs.declared.machine.Loaded.TheVariants.{Ran}
use Rattle.djq_machine.specs.Loading.{Loading, loading, LoadStep}
use Rattle.djq_commands.specs.Views.{loading_in}
use Rattle.djq_machine.proofs.Relations.{walk_more}
use Rattle.djq_program_laws.proofs.Openings.{next_read, next_stands, next_ends, next_bad, same_both}
use Rattle.djq_program.proofs.log.load_lines.Goals as goal

pub lines-init : goal.lines-init
lines-init g c = record {
  loading = (
    [],
    ap (λ (b : Option HeldTransaction). record { store = c.args.machine.now.state.store; batch = b }) c.requires.closed
        ∙ ap (λ (st : State). loading st.store) c.requires.fresh,
    c.requires.first,
  );
  fresh = c.requires.fresh ∙ sym (ap (λ (st : State). record opening { store = st.store }) c.requires.fresh);
  faults = refl;
  same = told_none (g.D.Disk.told c.args.disk.now) (λ (o n : History). n ≡ o)
      (λ (o : History). refl {A = History} {a = o});
  unlisted = refl;
  is_open = c.requires.is_open;
}

pub load-requires : goal.load-requires
load-requires g c = record { none = ap (λ (st : State). st.sessions) c.lines.invariant.fresh }

pub lines-smaller : goal.lines-smaller
lines-smaller g c = omega (arith, c.in-Got.ensures.onward.0, c.in-Got.ensures.onward.1)

pub lines-preserved : goal.lines-preserved
lines-preserved g c =
    let begun = c.lines.invariant.loading in
    let found = begun.0 in
    let buf = c.next_line.new.buf in
    let line = take c.in-Got.n buf in
    record {
      loading = (
        found ++ line ∷ [],
        walk_more (λ (old : Loading) (l : Bytes) (new : Loading). LoadStep old l Ran new) (loading opening.store) found
            (loading_in c.lines.machine) line (loading_in c.load.new.self) begun.1 c.in-Ran.ensures.loads,
        next_read found c.lines.source c.in-Got.next c.in-Got.n c.in-Got.at buf _ _ begun.2 c.in-Got.ensures.told,
      );
      fresh = c.in-Ran.ensures.rest
          ∙ ap (λ (st : State). record st { store = c.load.new.self.state.store }) c.lines.invariant.fresh;
      faults = c.in-Got.ensures.faults ∙ c.lines.invariant.faults;
      same = same_both _ _ _ _ c.lines.invariant.same c.in-Got.ensures.told;
      unlisted = c.in-Ran.ensures.listing ∙ c.lines.invariant.unlisted;
      is_open = c.in-Got.ensures.is_open;
    }

pub returns-in-Refused-clause-loads : goal.returns-in-Refused-clause-loads
returns-in-Refused-clause-loads g c =
    let begun = c.lines.invariant.loading in
    let found = begun.0 in
    let buf = c.next_line.new.buf in
    record {
      caused = (
        c.in-Got.ensures.faults ∙ c.lines.invariant.faults,
        inr (record {
          found = found;
          end = loading_in c.lines.machine;
          loads = begun.1;
          bad = inr (record {
            line = take c.in-Got.n buf;
            same = loading_in c.load.new.self;
            refuses = c.in-Refused.ensures.loads;
            stands = next_stands found c.lines.source c.in-Got.next c.in-Got.n c.in-Got.at buf _ _ begun.2
                c.in-Got.ensures.told;
          });
        }),
      );
      same = same_both _ _ _ _ c.lines.invariant.same c.in-Got.ensures.told;
      unlisted = c.in-Refused.ensures.listing ∙ c.lines.invariant.unlisted;
    }

pub returns-in-NoMem-clause-loads : goal.returns-in-NoMem-clause-loads
returns-in-NoMem-clause-loads g c = record {
  caused = c.in-Got.ensures.faults ∙ c.lines.invariant.faults;
  same = same_both _ _ _ _ c.lines.invariant.same c.in-Got.ensures.told;
  unlisted = c.in-NoMem.ensures.listing ∙ c.lines.invariant.unlisted;
}

pub returns-in-End-clause-loads : goal.returns-in-End-clause-loads
returns-in-End-clause-loads g c =
    let begun = c.lines.invariant.loading in
    record {
      found = begun.0;
      loads = begun.1;
      fresh = c.lines.invariant.fresh;
      idle = next_ends begun.0 c.lines.source c.in-End.end c.next_line.new.buf _ _ begun.2 c.in-End.ensures.told;
      same = same_both _ _ _ _ c.lines.invariant.same c.in-End.ensures.told;
      faults = c.in-End.ensures.faults ∙ c.lines.invariant.faults;
      unlisted = c.lines.invariant.unlisted;
    }

pub returns-in-Bad-clause-loads : goal.returns-in-Bad-clause-loads
returns-in-Bad-clause-loads g c =
    let begun = c.lines.invariant.loading in
    record {
      caused = (
        c.in-Bad.ensures.faults ∙ c.lines.invariant.faults,
        inr (record {
          found = begun.0;
          end = loading_in c.lines.machine;
          loads = begun.1;
          bad = inl (next_bad begun.0 c.lines.source c.in-Bad.at c.next_line.new.buf _ _ begun.2
              c.in-Bad.ensures.told);
        }),
      );
      same = same_both _ _ _ _ c.lines.invariant.same c.in-Bad.ensures.told;
      unlisted = c.lines.invariant.unlisted;
    }

pub returns-in-Failed-clause-loads : goal.returns-in-Failed-clause-loads
returns-in-Failed-clause-loads g c = record {
  caused = subst (λ (k : ℕ). Counted k (g.D.Disk.faults c.next_line.new.disk)) c.lines.invariant.faults
      c.in-Failed.ensures.faults;
  same = same_both _ _ _ _ c.lines.invariant.same c.in-Failed.ensures.told;
  unlisted = c.lines.invariant.unlisted;
}
