-- A name that no relation has isn't among the names, so it is learned as the last, at the relation's place.
use Rattle.std.proofs.Common.{◌≡◌, ◌∙◌, ℕ, ◌++◌, ◌∷◌, [], List, ap, ap₂, sym, refl, subst, arith}
use Rattle.std.specs.Prelude.{None}
use Rattle.djq_model.specs.Data.{Bytes, relation_of}
use Rattle.djq_dictionary.specs.Known.{Learns}
use Rattle.djq_database.specs.declared.kept.Kept.{Kept}
use Rattle.djq_database.specs.Rows.{Rows}
use Rattle.djq_database.specs.Catalog.{Catalog}
use Rattle.djq_database.proofs.Relations.{relations_long}
use Rattle.djq_database.proofs.Catalogs.{not_found, fresh, pushed_parts, pushed_relations}
use Rattle.djq_database.proofs.catalog.Catalog.relation.Goals as goal

new_name : (c : goal.After-push_reserved) → relation_of c.args.self.now.relations c.args.name ≡ None
new_name c = not_found c.args.self.now.relations c.args.name c.id.result c.id.ensures
    (sym c.is_some.ensures ∙ c.if-is_some.false)

pushed : (c : goal.After-push_reserved) → c.push_reserved.new.self.items
    ≡ c.self.inside.kept.items ++ fresh c.args.name c.args.types ∷ []
pushed c =
    c.push_reserved.ensures.items
    ∙ ap₂ (λ (ks : List Kept) (rows : Rows). ks ++ record {
      name = c.args.name;
      types = c.args.types;
      rows = rows;
    } ∷ []) c.reserve.ensures.items
    (c.in-Ok.ensures ∙ ap (λ (n : ℕ). record { width = n; entries = [] }) c.len.ensures)

pub invariant_of-self-2 : goal.invariant_of-self-2
invariant_of-self-2 c =
    let p = c.self.inside in
    pushed_parts p _ c.args.name c.args.types c.self.invariant
    (subst (λ (k : Catalog). relation_of k.relations c.args.name ≡ None) (sym c.self.view_is)
    (new_name c))
    (subst (λ (t : Bytes). Learns p.names t c.intern.new.self) c.as_bytes.ensures.bytes
    c.in-Ok-intern.ensures.learned)
    c.intern.ensures.different (pushed c) refl (omega (arith, c.len-at.ensures, p.kept.ok.0))
    c.requires.some c.requires.narrow

pub returns-clause-makes : goal.returns-clause-makes
returns-clause-makes c =
    let p = c.self.inside in
    let size = relations_long p.texts p.kept.items in
    rw (← c.self.view_is) (
      (subst (λ (k : Catalog). relation_of k.relations c.args.name ≡ None) (sym c.self.view_is)
          (new_name c)),
      omega (arith, c.len-at.ensures, p.kept.ok.0, size),
      omega (arith, c.len-at.ensures, p.kept.ok.0, size),
      pushed_relations p.texts p.kept.items c.push_reserved.new.self.items c.args.name c.args.types
          (pushed c),
    )
