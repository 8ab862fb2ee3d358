-- Groups that are inserted, and after them groups that are deleted: the rows of the relations, and the answers.
use Rattle.std.specs.Prelude.{List, ◌++◌}
use Rattle.djq_model.specs.Listed.{Listed, AnswersOf}
use Rattle.djq_store_spec.specs.Delta.{Change, IsDelta}
use Rattle.djq_database.specs.Catalog.{Catalog}
use Rattle.djq_answer_laws.specs.Growing.{HaveRows}
use Rattle.djq_answer_laws.specs.Net.{CancelsOut}
use Rattle.djq_reach.specs.declared.group.Group.{Group}
use Rattle.djq_reach.specs.Grouping.{ComesBy}
use Rattle.djq_queries.specs.Going.{GoesBy}

-- If groups are inserted, rows are only inserted.
abbrev pub GroupsOnlyCome : Type 0
GroupsOnlyCome = (c d : Catalog) (groups : List Group) → ComesBy c groups d → HaveRows c.relations d.relations

-- If groups are deleted, rows are only deleted.
abbrev pub GroupsOnlyGo : Type 0
GroupsOnlyGo = (c d : Catalog) (groups : List Group) → GoesBy c groups d → HaveRows d.relations c.relations

-- Groups are inserted, and from there groups are deleted: the answers that were added and those that
-- were removed, settled, are the delta of the whole change.
abbrev pub GroupsSettle : Type 0
GroupsSettle = (c e d : Catalog) (come gone : List Group) (q : Listed) → ComesBy c come e → GoesBy e gone d
    → (came went new : List Change) → IsDelta (AnswersOf c.relations q) (AnswersOf e.relations q) came
    → IsDelta (AnswersOf e.relations q) (AnswersOf d.relations q) went
    → CancelsOut (came ++ went) new → IsDelta (AnswersOf c.relations q) (AnswersOf d.relations q) new
