-- The lines that explain a query's tree are the text that explains the tree, and the end.
use Rattle.std.proofs.Common.{◌≡◌, ◌∷◌, ◌++◌, ◌∙◌, ℕ, zero, suc, List, [], length, map, codes, refl, ap, ap₂}
use Rattle.std.proofs.Common.{append-nil}
use Rattle.std.proofs.lemmas.Grind.{flat_map-append}
use Rattle.std.proofs.lemmas.List.{map-append}
use Rattle.djq_hypergraph.specs.Hypergraph.{numbers_below}
use Rattle.djq_model.specs.declared.query.Query.{Query}
use Rattle.djq_model.specs.Data.{Bytes}
use Rattle.djq_tree.specs.Tree.{Tree}
use Rattle.djq_tree.specs.Explaining.{line_text, lines_below, explain_of}
use Rattle.djq_protocol.specs.Reply.{line, text_of}
use Rattle.djq_protocol.specs.Hypergraph.{variable_names}
use Rattle.djq_machine.specs.Command.{explain_lines}

-- the lines of the nodes below n
below : (atoms variables : List Bytes) (t : Tree) (n : ℕ)
    → text_of (map (line_text atoms variables t) (numbers_below n)) ≡ lines_below atoms variables t n
below atoms variables t zero = refl
below atoms variables t (suc n) =
    let text = line_text atoms variables t in
    ap text_of (map-append text (numbers_below n) (n ∷ []))
    ∙ flat_map-append (λ l. l) (map text (numbers_below n)) (text n ∷ [])
    ∙ ap₂ (λ xs ys. xs ++ ys) (below atoms variables t n) (append-nil (text n))

pub explained : (q : Query) (t : Tree) → text_of (explain_lines q t)
    ≡ explain_of (map (λ a. a.relation) q.atoms) (variable_names q) t ++ codes "end\n"
explained q t =
    let atoms = map (λ a. a.relation) q.atoms in
    let text = line_text atoms (variable_names q) t in
    flat_map-append (λ l. l) (map text (numbers_below (length t.nodes))) (line (codes "end") ∷ [])
    ∙ ap (λ xs. xs ++ codes "end\n") (below atoms (variable_names q) t (length t.nodes))
