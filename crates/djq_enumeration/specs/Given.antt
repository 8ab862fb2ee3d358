-- What a cursor has given.
use Rattle.std.specs.Prelude.{ℕ, ◌-◌, Bool, nat_lt, List, [], length}
use Rattle.djq_index.specs.Entries.{count_of}
use Rattle.djq_reduct.specs.Tables.{entries_at}
use Rattle.djq_reduct.specs.Reducts.{Reducts}
use Rattle.djq_enumeration.specs.declared.cursor.Cursor.{Cursor}
use Rattle.djq_enumeration.specs.Levels.{group_at}
use Rattle.djq_enumeration.specs.Walk.{walk_given, FitsBy}

-- whether there is any answer: the root's table has the empty tuple
unfoldable pub has_root : Reducts → Bool
has_root r = nat_lt 0 (count_of (entries_at r.tables (length r.tree.nodes - 1)) [])

-- the answers that a cursor has given, by its state, its places and the reducts
unfoldable pub given : Reducts → Cursor → List (List ℕ)
given r c = walk_given r (group_at r) (has_root r) c.state c.places

-- the cursor fits the reducts: its places are live, each in the group that those before it choose,
-- and it holds the answer that they make
unfoldable pub Fits : Reducts → Cursor → Type 0
Fits r c = FitsBy r (group_at r) (has_root r) c.state c.places c.answer
