-- Atoms to come are numbered over the names that are known by then, and stand behind those that are done.
use Rattle.std.proofs.Common.{◌+◌, sym, subst, ap, ◌∙◌, List, ◌++◌, drop}
use Rattle.std.specs.List.{fold}
use Rattle.djq_query.specs.declared.numbered.NumberedAtom.{NumberedAtom}
use Rattle.djq_query.specs.declared.numbered.Variable.{Variable}
use Rattle.djq_query.specs.Numbered.{labels, with_columns, AreNumbered}
use Rattle.djq_query.proofs.Numbers.{arity_at, numbered_on, numbered_over, columns_on}
use Rattle.djq_query.proofs.numbering.number_body.Goals as goal

pub atoms-preserved : goal.atoms-preserved
atoms-preserved g c =
    let rs = g.R.Relations.relations c.args.relations.now in
    let atoms = c.args.atoms.now in
    let a = c.index-atoms-i.result in
    let more = c.in_ok-number_atom.ensures.known in
    let put = c.in_ok-push.ensures.ok in
    let arity = arity_at rs atoms c.atoms.i a c.requires.arity c.atoms-test.true c.index-atoms-i.is in
    record {
      atoms = λ ns h.
          subst (λ (ms : List NumberedAtom). AreNumbered rs (labels c.args.known.now) atoms (ms ++ ns)) (sym put)
          (numbered_on rs c.atoms.known c.args.known.now atoms c.atoms.numbered c.atoms.i a c.in_ok-number_atom.field-0
          c.atoms-test.true c.index-atoms-i.is arity c.in_ok-number_atom.ensures.atom c.atoms.invariant.atoms ns
          (subst (λ (vs : List Variable). AreNumbered rs (labels vs) (drop (c.atoms.i + 1) atoms) ns) more h));
      known = ap (λ (vs : List Variable). fold (with_columns rs) vs (drop (c.atoms.i + 1) atoms)) more
          ∙ columns_on rs c.atoms.known atoms c.atoms.i a c.atoms-test.true c.index-atoms-i.is
          ∙ c.atoms.invariant.known;
    }

pub returns-clause-atoms : goal.returns-clause-atoms
returns-clause-atoms g c = numbered_over (g.R.Relations.relations c.args.relations.now) c.atoms.known c.args.known.now
    c.args.atoms.now c.atoms.numbered c.atoms.i c.atoms-test.false c.atoms.invariant.atoms
