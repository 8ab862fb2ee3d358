-- Tables of a tree's nodes, side by side in a list.
use Rattle.std.specs.Prelude.{ℕ, List, [], length, slice_index_or}
use Rattle.djq_index.specs.Entries.{Entry}
use Rattle.djq_index.specs.Table.{Table}
use Rattle.djq_tree.specs.Tree.{Tree}
use Rattle.djq_tree.specs.Labels.{label_at}
use Rattle.djq_tree.specs.Keys.{key_of}
use Rattle.djq_reduct.specs.Columns.{columns}

-- the table without columns and tuples
abbrev pub no_table : Table
no_table = record { width = 0; key = []; entries = [] }

-- the table with a number, past the end the one without columns
unfoldable pub table_at : List Table → ℕ → Table
table_at ts k = slice_index_or ts k no_table

-- its entries, the columns of its key, and its width
unfoldable pub entries_at : List Table → ℕ → List Entry
entries_at ts k = (table_at ts k).entries

-- the columns of the key of the table with a number
unfoldable pub key_at : List Table → ℕ → List ℕ
key_at ts k = (table_at ts k).key

-- the width of the table with a number
unfoldable pub width_at : List Table → ℕ → ℕ
width_at ts k = (table_at ts k).width

-- the table of the node k while it has no tuple: a column for each variable of the label, in rising order,
-- and the node's group key
abbrev pub empty_table : Tree → ℕ → Table
empty_table t k = record
    { width = length (label_at t.labels k); key = columns (label_at t.labels k) (key_of t k); entries = [] }
