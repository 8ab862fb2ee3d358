-- Edges that are put in one after another rise, and they are the rest's, none missing and none more.
use Rattle.std.proofs.Common.{List, ℕ, sym, subst, ap, map, ◌∙◌}
use Rattle.std.specs.Prelude.{◌↔◌, Contains}
use Rattle.djq_protocol.specs.Hypergraph.{label_name}
use Rattle.djq_protocol.specs.Variables.{Label}
use Rattle.djq_binder.proofs.EdgeOrder.{Rises, ordered_rises, ordered_members}
use Rattle.djq_binder.proofs.rest.name_rest.Goals as goal

pub returns : goal.returns
returns c q same =
    let is = c.in_ok-edges.ensures in
    record {
      order = subst (λ (edges : List (List ℕ)). Rises edges) (sym is)
          (ordered_rises c.args.rest.now);
      edges = subst (λ (edges : List (List ℕ)). (e : List ℕ)
          → Contains edges e ↔ Contains c.args.rest.now e) (sym is)
          (ordered_members c.args.rest.now);
      names = c.in_ok-names.ensures ∙ ap (λ (ls : List Label). map label_name ls) same;
    }
