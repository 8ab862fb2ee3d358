-- What a walk up a path of the tree does to the tables of its nodes.
use Rattle.std.specs.Prelude.{◌≡◌, ◌≢◌, ℕ, ◌+◌, ◌-◌, ◌*◌, ◌<◌, ◌≤◌, Bool, true, false, List, length}
use Rattle.std.specs.Prelude.{Result, IfOk, OnErr}
use Rattle.djq_index.specs.Entries.{Entry, supports_of, count_of, marks, plain}
use Rattle.djq_index.specs.Changes.{InsertedAs, Removed}
use Rattle.djq_index.specs.Table.{Table}
use Rattle.djq_tree.specs.declared.node.Node.{Node}
use Rattle.djq_tree.specs.Flat.{HasEqualMeets}
use Rattle.djq_tree.specs.Tree.{Tree, node_at, has_child}
use Rattle.djq_reduct.specs.Tables.{entries_at, key_at}
use Rattle.djq_reduct.specs.Reducts.{IsFamily, AreReduced}
use Rattle.djq_propagate.specs.Sizes.{size, AreAtMost}

-- the table k changed, and no other
pub record ChangedOneTable (old new : List Table) (k : ℕ) : Type 0 where
  pub others : (i : ℕ) → i ≢ k → entries_at new i ≡ entries_at old i
  pub family : (t : Tree) → IsFamily t old → IsFamily t new
  pub size : size new + length (entries_at old k) ≡ size old + length (entries_at new k)

-- above the node j each table is its node's reduct
pub record Ready (t : Tree) (ts : List Table) (j : ℕ) : Type 0 where
  pub family : IsFamily t ts
  pub within : j < length t.nodes
  pub reduced : AreReduced t ts (j + 1)

-- i isn't j, and has a lower number than j's parent, if any
abbrev pub IsBelowParent : Tree → ℕ → ℕ → Type 0
IsBelowParent t j i = (i ≢ j) × ((k : ℕ) → has_child (node_at t.nodes k) j ≡ true → i < k)

-- the node j has gained the tuple u, and those above it what it brings
pub record InsertedUpwards (t : Tree) (old new : List Table) (j : ℕ) (u : List ℕ) : Type 0 where
  pub family : IsFamily t new
  pub mark : Bool
  pub gains : InsertedAs mark (key_at old j) (entries_at old j) (entries_at new j) u
  pub below : (i : ℕ) → IsBelowParent t j i → entries_at new i ≡ entries_at old i
  pub reduced : AreReduced t new (j + 1)

-- the node j has lost the tuple u, and those above it what depended on it
pub record RemovedUpwards (t : Tree) (old new : List Table) (j : ℕ) (u : List ℕ) : Type 0 where
  pub family : IsFamily t new
  pub loses : Removed (entries_at old j) (entries_at new j) u
  pub below : (i : ℕ) → IsBelowParent t j i → entries_at new i ≡ entries_at old i
  pub reduced : AreReduced t new (j + 1)

-- all tables hold the same tuples with the same supports, and those below are the same
pub record Refused (t : Tree) (old new : List Table) (j : ℕ) : Type 0 where
  pub family : IsFamily t new
  pub supports : (i : ℕ) (v : List ℕ) → supports_of (entries_at new i) v ≡ supports_of (entries_at old i) v
  pub below : (i : ℕ) → IsBelowParent t j i → entries_at new i ≡ entries_at old i

-- the table of the node j has changed since each table above it was its node's reduct, and no other one has
pub record ChangedOnlyAt (t : Tree) (was now : List Table) (j : ℕ) : Type 0 where
  pub ready : Ready t was j
  pub changed : ChangedOneTable was now j

-- the node j has just gained the tuple u: those above it were right before, and have nothing yet of what follows from it
pub record Gaining (t : Tree) (now : List Table) (j : ℕ) (u : List ℕ) : Type 0 where
  pub was : List Table
  pub began : ChangedOnlyAt t was now j
  pub mark : Bool
  pub gains : InsertedAs mark (key_at was j) (entries_at was j) (entries_at now j) u

-- the node j has just lost the tuple u: those above it were right before, and still have what depends on it
pub record Losing (t : Tree) (now : List Table) (j : ℕ) (u : List ℕ) : Type 0 where
  pub was : List Table
  pub began : ChangedOnlyAt t was now j
  pub loses : Removed (entries_at was j) (entries_at now j) u

-- the tables above the node j are their nodes' reducts again, and the others are as they were
pub record ReducedAbove (t : Tree) (old new : List Table) (j : ℕ) : Type 0 where
  pub family : IsFamily t new
  pub at : entries_at new j ≡ entries_at old j
  pub below : (i : ℕ) → IsBelowParent t j i → entries_at new i ≡ entries_at old i
  pub reduced : AreReduced t new (j + 1)

-- all is as it was, but for the order in groups above the node j
pub record UnchangedAbove (t : Tree) (old new : List Table) (j : ℕ) : Type 0 where
  pub family : IsFamily t new
  pub at : entries_at new j ≡ entries_at old j
  pub supports : (i : ℕ) (v : List ℕ) → supports_of (entries_at new i) v ≡ supports_of (entries_at old i) v
  pub below : (i : ℕ) → IsBelowParent t j i → entries_at new i ≡ entries_at old i

-- the node k, which is n, is the parent of the node j
pub record IsParentOf (t : Tree) (k : ℕ) (n : Node) (j : ℕ) : Type 0 where
  pub within : k < length t.nodes
  pub node : node_at t.nodes k ≡ n
  pub child : has_child n j ≡ true

-- each of the tuples of es is among the entries ds, with one support
pub record CoversAll (ds es : List Entry) : Type 0 where
  pub each : (v : List ℕ) → 0 < count_of es v → supports_of ds v ≡ 1

-- the node k has gained the tuples of es, with one support each, and those above it what they bring
pub record IsGrown (t : Tree) (old new : List Table) (k : ℕ) (es : List Entry) : Type 0 where
  pub family : IsFamily t new
  pub low : (i : ℕ) → i < k → entries_at new i ≡ entries_at old i
  pub came : (v : List ℕ) → supports_of (entries_at new k) v ≡ supports_of (entries_at old k) v + count_of es v
  pub reduced : AreReduced t new (k + 1)

-- the node k has lost the tuples of es, which had one support each, and those above it what depended on them
pub record IsEmptied (t : Tree) (old new : List Table) (k : ℕ) (es : List Entry) : Type 0 where
  pub family : IsFamily t new
  pub low : (i : ℕ) → i < k → entries_at new i ≡ entries_at old i
  pub lost : (v : List ℕ) → supports_of (entries_at old k) v ≡ supports_of (entries_at new k) v + count_of es v
  pub reduced : AreReduced t new (k + 1)

-- the entries that don't have this mark
abbrev pub unlike : Bool → List Entry → List Entry
unlike true es = plain es
unlike false es = marks es

-- what was inserted has this mark, and no mark changed
pub record CameAs (mark : Bool) (old new : List Table) : Type 0 where
  pub same : (i : ℕ) (v : List ℕ) → count_of (unlike mark (entries_at new i)) v ≡ count_of
      (unlike mark (entries_at old i)) v

-- tuples were removed, none was inserted, and no mark changed
pub record Fewer (old new : List Table) : Type 0 where
  pub unmarked : (i : ℕ) (v : List ℕ) → count_of (plain (entries_at new i)) v ≤ count_of (plain (entries_at old i)) v
  pub marked : (i : ℕ) (v : List ℕ) → count_of (marks (entries_at new i)) v ≤ count_of (marks (entries_at old i)) v

-- what depended on a tuple that the node j lost was removed from the tables above, at a count that rose from before to after
pub record RemovedAbove (t : Tree) (old new : List Table) (j before after : ℕ) : Type 0 where
  pub righted : ReducedAbove t old new j
  pub fewer : Fewer old new
  pub counted : after + 5 * size new ≤ before + 2 + 5 * size old

-- what follows from a tuple that the node j gained was inserted into the tables above with this mark, or was refused
-- and undone, at a count that rose from before to after
pub record InsertedAbove {A E : Type 0} (t : Tree) (old new : List Table) (j : ℕ) (mark : Bool) (r : Result A E)
    (before after : ℕ) : Type 0 where
  pub ok : IfOk r (λ _. ReducedAbove t old new j)
  pub refused : OnErr r (UnchangedAbove t old new j)
  pub plain : CameAs mark old new
  pub counted : IfOk r (λ _. after + 4 * size old ≤ before + 2 + 4 * size new)
  pub bounded : OnErr r ((n : ℕ) → AreAtMost old n → after + 9 * size old ≤ before + 7 + 9 * (n * length t.nodes))
  pub flat : OnErr r (HasEqualMeets t → after + 2 ≤ before + 5 * (length t.nodes - j))
