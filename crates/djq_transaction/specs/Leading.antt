-- By the rows that lines insert a catalog leads to the one between, and from there by those that they delete.
use Rattle.std.specs.Prelude.{ℕ, List, ◌≡◌, ◌≤◌, ◌<◌, ◌↔◌, ◌||◌, All, fold, length}
use Rattle.djq_model.specs.declared.relation.Relation.{Relation}
use Rattle.djq_model.specs.Data.{Bytes, Tuple}
use Rattle.djq_model.specs.Listed.{Listed, AnswersOf}
use Rattle.djq_answer_laws.specs.Growing.{SparesOthers}
use Rattle.djq_database.specs.Catalog.{Catalog, IsCatalog, relation_at, rows_at}
use Rattle.djq_leaves.specs.Changes.{HasSameRows}
use Rattle.djq_reach.specs.declared.group.Group.{Group}
use Rattle.djq_reach.specs.Places.{is_reader, AreOnce}
use Rattle.djq_reach.specs.Grouping.{ComesBy, group_relations, rows_of_groups}
use Rattle.djq_queries.specs.Going.{GoesBy}
use Rattle.djq_store_spec.specs.Held.{HeldLine}
use Rattle.djq_store_spec.specs.Lines.{lines_come, lines_go, with_copies_left, relations_between, relations_after}
use Rattle.djq_store_spec.specs.Done.{has_changed}
use Rattle.djq_store_spec.specs.Transaction.{HaveCopies, has_inserted, has_deleted, lines_change, lines_tried}
use Rattle.djq_transaction.specs.declared.net.Net.{Net}
use Rattle.djq_transaction.specs.Applied.{IsJudged}
use Rattle.djq_transaction.specs.Grouped.{inserted_groups, deleted_groups}

-- The relations between without the rows that are deleted. A row that stays has the copies that it had.
abbrev pub relations_left : List Relation → List HeldLine → List Relation
relations_left relations lines =
    fold (with_copies_left relations lines) (relations_between relations lines) (lines_go relations lines)

-- a catalog with these relations in place of its own
abbrev pub catalog_between : Catalog → List HeldLine → Catalog
catalog_between c lines = record c { relations = relations_between c.relations lines }

abbrev pub catalog_left : Catalog → List HeldLine → Catalog
catalog_left c lines = record c { relations = relations_left c.relations lines }

abbrev pub catalog_after : Catalog → List HeldLine → Catalog
catalog_after c lines = record c { relations = relations_after c.relations lines }

-- A catalog has the relations and the texts of another, and its relations may have other rows.
pub record HasHeadings (c d : Catalog) : Type 0 where
  pub texts : d.texts ≡ c.texts
  pub long : length d.relations ≡ length c.relations
  pub named : (r : ℕ) → (relation_at d.relations r).name ≡ (relation_at c.relations r).name
  pub typed : (r : ℕ) → (relation_at d.relations r).types ≡ (relation_at c.relations r).types

-- So it is of the catalogs that lines lead to.
abbrev pub HeadingsStay : Type 0
HeadingsStay = (c : Catalog) (lines : List HeldLine) → HasHeadings c (catalog_between c lines)
    × HasHeadings c (catalog_left c lines) × HasHeadings c (catalog_after c lines)

-- What groups of the rows that lines insert, and of those that they delete, are to relations: each is of one that is
-- there, no two of a list are of one, none is empty, and they have all these rows. A relation has one if and only if
-- a row of it is inserted, or deleted.
pub record AreGroupsOf (relations : List Relation) (lines : List HeldLine) (come gone : List Group) : Type 0 where
  pub come_differ : AreOnce (group_relations come)
  pub gone_differ : AreOnce (group_relations gone)
  pub come_within : All (λ g. g.relation.at < length relations) come
  pub gone_within : All (λ g. g.relation.at < length relations) gone
  pub inserted : (r : ℕ) → r < length relations → is_reader (group_relations come) r
      ≡ has_inserted relations lines (relation_at relations r).name
  pub deleted : (r : ℕ) → r < length relations → is_reader (group_relations gone) r
      ≡ has_deleted relations lines (relation_at relations r).name
  pub come_rows : rows_of_groups come ≡ length (lines_come relations lines)
  pub gone_rows : rows_of_groups gone ≡ length (lines_go relations lines)
  pub come_some : All (λ g. 1 ≤ length g.rows) come
  pub gone_some : All (λ g. 1 ≤ length g.rows) gone

-- The rows that lines insert lead to the relations between: no other relation changes, and no copies do. Those that
-- they delete lead from there to the relations without them, which are a catalog's.
pub record LeadsBy (c : Catalog) (lines : List HeldLine) : Type 0 where
  pub comes : ComesBy c (inserted_groups c.relations c.texts lines) (catalog_between c lines)
  pub goes : GoesBy (catalog_between c lines) (deleted_groups c.relations c.texts lines) (catalog_left c lines)
  pub left : IsCatalog (catalog_left c lines)
  pub groups : AreGroupsOf c.relations lines (inserted_groups c.relations c.texts lines)
      (deleted_groups c.relations c.texts lines)

-- So it is of lines that were judged.
abbrev pub LinesLead : Type 0
LinesLead = (c : Catalog) (lines : List HeldLine) (net : Net) → IsCatalog c → IsCatalog (catalog_between c lines)
    → IsJudged c.relations c.texts lines net → LeadsBy c lines

-- Their groups are such groups before any row is inserted.
abbrev pub LinesGroup : Type 0
LinesGroup = (c : Catalog) (lines : List HeldLine) (net : Net) → IsCatalog c → IsJudged c.relations c.texts lines net
    → AreGroupsOf c.relations lines (inserted_groups c.relations c.texts lines)
    (deleted_groups c.relations c.texts lines)

-- Without the rows that are deleted no relation has other rows than after all lines: those that stay may have other copies.
abbrev pub LeftRows : Type 0
LeftRows = (c : Catalog) (lines : List HeldLine) (r : ℕ) → IsCatalog c → r < length c.relations
    → rows_at (relations_left c.relations lines) r ≡ rows_at (relations_after c.relations lines) r

-- So one catalog is the other for all that queries read.
abbrev pub LeftIsAfter : Type 0
LeftIsAfter = (c : Catalog) (lines : List HeldLine) → IsCatalog c → IsCatalog (catalog_after c lines)
    → HasSameRows (catalog_left c lines) (catalog_after c lines)

-- And each query has the same answers.
abbrev pub AnswersLeft : Type 0
AnswersLeft = (c : Catalog) (lines : List HeldLine) (q : Listed) (t : Tuple) → IsCatalog c
    → AnswersOf (relations_left c.relations lines) q t ↔ AnswersOf (relations_after c.relations lines) q t

-- A relation changes if and only if a row of it is inserted or one is deleted.
abbrev pub ChangedIsEither : Type 0
ChangedIsEither = (relations : List Relation) (lines : List HeldLine) (name : Bytes)
    → has_changed relations lines name ≡ (has_inserted relations lines name || has_deleted relations lines name)

-- Each other relation stays as it was, if lines are carried out and if memory is refused.
abbrev pub LinesSpareOthers : Type 0
LinesSpareOthers = (c : Catalog) (lines : List HeldLine) → IsCatalog c
    → SparesOthers c.relations (lines_change c.relations lines)
    × SparesOthers c.relations (lines_tried c.relations lines)

-- Each row of a catalog has a copy.
abbrev pub CatalogsHaveCopies : Type 0
CatalogsHaveCopies = (c : Catalog) (lines : List HeldLine) → IsCatalog c → HaveCopies c.relations lines
