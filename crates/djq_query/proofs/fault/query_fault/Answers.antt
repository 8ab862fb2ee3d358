-- The first condition that holds is the fault, since none before it holds of the query's atoms and head.
use Rattle.std.proofs.Common.{◌≡◌, true, false, ◌∙◌, sym}
use Rattle.djq_value.specs.Literal.{are_different}
use Rattle.djq_protocol.specs.QueryFault.{reads_unknown, has_wrong_arity, has_misfit, has_clash, compares_unbound}
use Rattle.djq_protocol.specs.QueryFault.{has_miscompared, has_unbound_head, is_too_large}
use Rattle.djq_query.proofs.NumberedQueries.{clash_over, compared_unbound_over, miscompared_over, unbound_over}
use Rattle.djq_query.proofs.NumberedQueries.{fault_arity, fault_misfit, fault_clash, fault_compared_unbound}
use Rattle.djq_query.proofs.NumberedQueries.{fault_miscompared, fault_repeated, fault_unbound, fault_limit, fault_none}
use Rattle.djq_query.proofs.fault.query_fault.Goals as goal

pub returns-then-has_wrong_arity : goal.returns-then-has_wrong_arity
returns-then-has_wrong_arity g c =
    let at_reads_unknown : reads_unknown (g.R.Relations.relations c.args.relations.now) c.args.query.now ≡ false = cc in
    let at_has_wrong_arity : has_wrong_arity (g.R.Relations.relations c.args.relations.now) c.args.query.now
    ≡ true = cc in
    fault_arity (g.R.Relations.relations c.args.relations.now) c.args.query.now at_reads_unknown at_has_wrong_arity

pub returns-then-has_misfit : goal.returns-then-has_misfit
returns-then-has_misfit g c =
    let at_reads_unknown : reads_unknown (g.R.Relations.relations c.args.relations.now) c.args.query.now ≡ false = cc in
    let at_has_wrong_arity : has_wrong_arity (g.R.Relations.relations c.args.relations.now) c.args.query.now
    ≡ false = cc in
    let at_has_misfit : has_misfit (g.R.Relations.relations c.args.relations.now) c.args.query.now ≡ true = cc in
    fault_misfit (g.R.Relations.relations c.args.relations.now) c.args.query.now at_reads_unknown at_has_wrong_arity
    at_has_misfit

pub returns-then-has_clash : goal.returns-then-has_clash
returns-then-has_clash g c =
    let at_reads_unknown : reads_unknown (g.R.Relations.relations c.args.relations.now) c.args.query.now ≡ false = cc in
    let at_has_wrong_arity : has_wrong_arity (g.R.Relations.relations c.args.relations.now) c.args.query.now
    ≡ false = cc in
    let at_has_misfit : has_misfit (g.R.Relations.relations c.args.relations.now) c.args.query.now ≡ false = cc in
    let at_has_clash : has_clash (g.R.Relations.relations c.args.relations.now) c.args.query.now
    ≡ true = clash_over (g.R.Relations.relations c.args.relations.now) c.args.query.now c.as_slice-atoms.result.now
    c.as_slice-atoms.ensures ∙ sym c.has_clash.ensures ∙ c.if-has_clash.true in
    fault_clash (g.R.Relations.relations c.args.relations.now) c.args.query.now at_reads_unknown at_has_wrong_arity
    at_has_misfit at_has_clash

pub returns-then-compares_unbound : goal.returns-then-compares_unbound
returns-then-compares_unbound g c =
    let at_reads_unknown : reads_unknown (g.R.Relations.relations c.args.relations.now) c.args.query.now ≡ false = cc in
    let at_has_wrong_arity : has_wrong_arity (g.R.Relations.relations c.args.relations.now) c.args.query.now
    ≡ false = cc in
    let at_has_misfit : has_misfit (g.R.Relations.relations c.args.relations.now) c.args.query.now ≡ false = cc in
    let at_has_clash : has_clash (g.R.Relations.relations c.args.relations.now) c.args.query.now
    ≡ false = clash_over (g.R.Relations.relations c.args.relations.now) c.args.query.now c.as_slice-atoms.result.now
    c.as_slice-atoms.ensures ∙ sym c.has_clash.ensures ∙ c.if-has_clash.false in
    let at_compares_unbound : compares_unbound c.args.query.now
    ≡ true = compared_unbound_over c.args.query.now c.as_slice-atoms.result.now c.as_slice-comparisons.result.now
    c.as_slice-atoms.ensures c.as_slice-comparisons.ensures ∙ sym c.compares_unbound.ensures
    ∙ c.if-compares_unbound.true in
    fault_compared_unbound (g.R.Relations.relations c.args.relations.now) c.args.query.now
    (record { known = at_reads_unknown; arity = at_has_wrong_arity; fits = at_has_misfit; clashes = at_has_clash })
    at_compares_unbound

pub returns-then-has_miscompared : goal.returns-then-has_miscompared
returns-then-has_miscompared g c =
    let at_reads_unknown : reads_unknown (g.R.Relations.relations c.args.relations.now) c.args.query.now ≡ false = cc in
    let at_has_wrong_arity : has_wrong_arity (g.R.Relations.relations c.args.relations.now) c.args.query.now
    ≡ false = cc in
    let at_has_misfit : has_misfit (g.R.Relations.relations c.args.relations.now) c.args.query.now ≡ false = cc in
    let at_has_clash : has_clash (g.R.Relations.relations c.args.relations.now) c.args.query.now
    ≡ false = clash_over (g.R.Relations.relations c.args.relations.now) c.args.query.now c.as_slice-atoms.result.now
    c.as_slice-atoms.ensures ∙ sym c.has_clash.ensures ∙ c.if-has_clash.false in
    let at_compares_unbound : compares_unbound c.args.query.now
    ≡ false = compared_unbound_over c.args.query.now c.as_slice-atoms.result.now c.as_slice-comparisons.result.now
    c.as_slice-atoms.ensures c.as_slice-comparisons.ensures ∙ sym c.compares_unbound.ensures
    ∙ c.if-compares_unbound.false in
    let at_has_miscompared : has_miscompared (g.R.Relations.relations c.args.relations.now) c.args.query.now
    ≡ true = miscompared_over (g.R.Relations.relations c.args.relations.now) c.args.query.now
    c.as_slice-atoms.result.now c.as_slice-comparisons.result.now c.as_slice-atoms.ensures
    c.as_slice-comparisons.ensures ∙ sym c.has_miscompared.ensures ∙ c.if-has_miscompared.true in
    fault_miscompared (g.R.Relations.relations c.args.relations.now) c.args.query.now
    (record { known = at_reads_unknown; arity = at_has_wrong_arity; fits = at_has_misfit; clashes = at_has_clash })
    at_compares_unbound at_has_miscompared

pub returns-then-not-are_different : goal.returns-then-not-are_different
returns-then-not-are_different g c =
    let at_reads_unknown : reads_unknown (g.R.Relations.relations c.args.relations.now) c.args.query.now ≡ false = cc in
    let at_has_wrong_arity : has_wrong_arity (g.R.Relations.relations c.args.relations.now) c.args.query.now
    ≡ false = cc in
    let at_has_misfit : has_misfit (g.R.Relations.relations c.args.relations.now) c.args.query.now ≡ false = cc in
    let at_has_clash : has_clash (g.R.Relations.relations c.args.relations.now) c.args.query.now
    ≡ false = clash_over (g.R.Relations.relations c.args.relations.now) c.args.query.now c.as_slice-atoms.result.now
    c.as_slice-atoms.ensures ∙ sym c.has_clash.ensures ∙ c.if-has_clash.false in
    let at_compares_unbound : compares_unbound c.args.query.now
    ≡ false = compared_unbound_over c.args.query.now c.as_slice-atoms.result.now c.as_slice-comparisons.result.now
    c.as_slice-atoms.ensures c.as_slice-comparisons.ensures ∙ sym c.compares_unbound.ensures
    ∙ c.if-compares_unbound.false in
    let at_has_miscompared : has_miscompared (g.R.Relations.relations c.args.relations.now) c.args.query.now
    ≡ false = miscompared_over (g.R.Relations.relations c.args.relations.now) c.args.query.now
    c.as_slice-atoms.result.now c.as_slice-comparisons.result.now c.as_slice-atoms.ensures
    c.as_slice-comparisons.ensures ∙ sym c.has_miscompared.ensures ∙ c.if-has_miscompared.false in
    let at_are_different : are_different c.args.query.now.head ≡ false = cc in
    fault_repeated (g.R.Relations.relations c.args.relations.now) c.args.query.now
    (record {
      atoms = record
          { known = at_reads_unknown; arity = at_has_wrong_arity; fits = at_has_misfit; clashes = at_has_clash };
      bound =
          at_compares_unbound;
      compared = at_has_miscompared;
    }) at_are_different

pub returns-then-has_unbound : goal.returns-then-has_unbound
returns-then-has_unbound g c =
    let at_reads_unknown : reads_unknown (g.R.Relations.relations c.args.relations.now) c.args.query.now ≡ false = cc in
    let at_has_wrong_arity : has_wrong_arity (g.R.Relations.relations c.args.relations.now) c.args.query.now
    ≡ false = cc in
    let at_has_misfit : has_misfit (g.R.Relations.relations c.args.relations.now) c.args.query.now ≡ false = cc in
    let at_has_clash : has_clash (g.R.Relations.relations c.args.relations.now) c.args.query.now
    ≡ false = clash_over (g.R.Relations.relations c.args.relations.now) c.args.query.now c.as_slice-atoms.result.now
    c.as_slice-atoms.ensures ∙ sym c.has_clash.ensures ∙ c.if-has_clash.false in
    let at_compares_unbound : compares_unbound c.args.query.now
    ≡ false = compared_unbound_over c.args.query.now c.as_slice-atoms.result.now c.as_slice-comparisons.result.now
    c.as_slice-atoms.ensures c.as_slice-comparisons.ensures ∙ sym c.compares_unbound.ensures
    ∙ c.if-compares_unbound.false in
    let at_has_miscompared : has_miscompared (g.R.Relations.relations c.args.relations.now) c.args.query.now
    ≡ false = miscompared_over (g.R.Relations.relations c.args.relations.now) c.args.query.now
    c.as_slice-atoms.result.now c.as_slice-comparisons.result.now c.as_slice-atoms.ensures
    c.as_slice-comparisons.ensures ∙ sym c.has_miscompared.ensures ∙ c.if-has_miscompared.false in
    let at_are_different : are_different c.args.query.now.head ≡ true = cc in
    let at_has_unbound : has_unbound_head c.args.query.now
    ≡ true = unbound_over c.args.query.now c.as_slice-atoms.result.now c.as_slice-head.result.now
    c.as_slice-atoms.ensures c.as_slice-head.ensures ∙ sym c.has_unbound.ensures ∙ c.if-has_unbound.true in
    fault_unbound (g.R.Relations.relations c.args.relations.now) c.args.query.now
    (record {
      atoms = record
          { known = at_reads_unknown; arity = at_has_wrong_arity; fits = at_has_misfit; clashes = at_has_clash };
      bound =
          at_compares_unbound;
      compared = at_has_miscompared;
    }) at_are_different at_has_unbound

pub returns-then-is_too_large : goal.returns-then-is_too_large
returns-then-is_too_large g c =
    let at_reads_unknown : reads_unknown (g.R.Relations.relations c.args.relations.now) c.args.query.now ≡ false = cc in
    let at_has_wrong_arity : has_wrong_arity (g.R.Relations.relations c.args.relations.now) c.args.query.now
    ≡ false = cc in
    let at_has_misfit : has_misfit (g.R.Relations.relations c.args.relations.now) c.args.query.now ≡ false = cc in
    let at_has_clash : has_clash (g.R.Relations.relations c.args.relations.now) c.args.query.now
    ≡ false = clash_over (g.R.Relations.relations c.args.relations.now) c.args.query.now c.as_slice-atoms.result.now
    c.as_slice-atoms.ensures ∙ sym c.has_clash.ensures ∙ c.if-has_clash.false in
    let at_compares_unbound : compares_unbound c.args.query.now
    ≡ false = compared_unbound_over c.args.query.now c.as_slice-atoms.result.now c.as_slice-comparisons.result.now
    c.as_slice-atoms.ensures c.as_slice-comparisons.ensures ∙ sym c.compares_unbound.ensures
    ∙ c.if-compares_unbound.false in
    let at_has_miscompared : has_miscompared (g.R.Relations.relations c.args.relations.now) c.args.query.now
    ≡ false = miscompared_over (g.R.Relations.relations c.args.relations.now) c.args.query.now
    c.as_slice-atoms.result.now c.as_slice-comparisons.result.now c.as_slice-atoms.ensures
    c.as_slice-comparisons.ensures ∙ sym c.has_miscompared.ensures ∙ c.if-has_miscompared.false in
    let at_are_different : are_different c.args.query.now.head ≡ true = cc in
    let at_has_unbound : has_unbound_head c.args.query.now
    ≡ false = unbound_over c.args.query.now c.as_slice-atoms.result.now c.as_slice-head.result.now
    c.as_slice-atoms.ensures c.as_slice-head.ensures ∙ sym c.has_unbound.ensures ∙ c.if-has_unbound.false in
    let at_is_too_large : is_too_large c.args.query.now ≡ true = cc in
    fault_limit (g.R.Relations.relations c.args.relations.now) c.args.query.now
    (record {
      atoms = record
          { known = at_reads_unknown; arity = at_has_wrong_arity; fits = at_has_misfit; clashes = at_has_clash };
      bound =
          at_compares_unbound;
      compared = at_has_miscompared;
    }) at_are_different at_has_unbound at_is_too_large

pub returns : goal.returns
returns g c =
    let at_reads_unknown : reads_unknown (g.R.Relations.relations c.args.relations.now) c.args.query.now ≡ false = cc in
    let at_has_wrong_arity : has_wrong_arity (g.R.Relations.relations c.args.relations.now) c.args.query.now
    ≡ false = cc in
    let at_has_misfit : has_misfit (g.R.Relations.relations c.args.relations.now) c.args.query.now ≡ false = cc in
    let at_has_clash : has_clash (g.R.Relations.relations c.args.relations.now) c.args.query.now
    ≡ false = clash_over (g.R.Relations.relations c.args.relations.now) c.args.query.now c.as_slice-atoms.result.now
    c.as_slice-atoms.ensures ∙ sym c.has_clash.ensures ∙ c.if-has_clash.false in
    let at_compares_unbound : compares_unbound c.args.query.now
    ≡ false = compared_unbound_over c.args.query.now c.as_slice-atoms.result.now c.as_slice-comparisons.result.now
    c.as_slice-atoms.ensures c.as_slice-comparisons.ensures ∙ sym c.compares_unbound.ensures
    ∙ c.if-compares_unbound.false in
    let at_has_miscompared : has_miscompared (g.R.Relations.relations c.args.relations.now) c.args.query.now
    ≡ false = miscompared_over (g.R.Relations.relations c.args.relations.now) c.args.query.now
    c.as_slice-atoms.result.now c.as_slice-comparisons.result.now c.as_slice-atoms.ensures
    c.as_slice-comparisons.ensures ∙ sym c.has_miscompared.ensures ∙ c.if-has_miscompared.false in
    let at_are_different : are_different c.args.query.now.head ≡ true = cc in
    let at_has_unbound : has_unbound_head c.args.query.now
    ≡ false = unbound_over c.args.query.now c.as_slice-atoms.result.now c.as_slice-head.result.now
    c.as_slice-atoms.ensures c.as_slice-head.ensures ∙ sym c.has_unbound.ensures ∙ c.if-has_unbound.false in
    let at_is_too_large : is_too_large c.args.query.now ≡ false = cc in
    fault_none (g.R.Relations.relations c.args.relations.now) c.args.query.now
    (record {
      atoms = record
          { known = at_reads_unknown; arity = at_has_wrong_arity; fits = at_has_misfit; clashes = at_has_clash };
      bound =
          at_compares_unbound;
      compared = at_has_miscompared;
    }) at_are_different at_has_unbound at_is_too_large
