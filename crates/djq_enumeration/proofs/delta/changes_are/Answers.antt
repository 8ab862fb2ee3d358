-- Without the leaf's marked tuples the reducts lack what is marked, so what is changed is what is gained.
use Rattle.djq_enumeration.proofs.States.{updated, less_of}
use Rattle.djq_enumeration.proofs.Deltas.{gained_is}
use Rattle.djq_enumeration.proofs.delta.changes_are.Goals as goal

pub returns : goal.returns
returns c = λ small sound without b.
    let big = c.args.reducts.now in
    let a = c.args.leaf in
    let reducts = c.laws.ensures.sound in
    gained_is big small a reducts (updated big a reducts c.requires.leaf c.requires.marks)
    (less_of big small a reducts sound c.requires.leaf c.requires.marks without) b
