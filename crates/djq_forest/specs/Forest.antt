-- A forest as data: knots with their entries, and edges, each of which ties every entry of one knot to an entry
-- of another. Entries of a knot are distinguished by the slots in which they lie.
use Rattle.std.specs.Prelude.{ℕ, Bool, true, false, ◌==◌, ◌&&◌, List, [], Option, Some, None, is_some, slice_index}
use Rattle.std.specs.Prelude.{slice_index_or}

-- a knot: for each slot the tuple of the entry in it, if there is one; and for each slot how many of the entry's
-- needs aren't met, how many entries are tied to it, and by which change it was marked last. A leaf's entries
-- are the tuples that rows give it; all other knots are views, whose entries are there for those tied to them
pub record Knot : Type 0 where
  pub leaf : Bool
  pub width : ℕ
  pub rank : ℕ
  pub tuples : List (Option (List ℕ))
  pub missing : List ℕ
  pub refs : List ℕ
  pub marks : List ℕ

-- an edge from a big knot to a small one. The tuples of the small one are those of the big one at some columns.
-- The big one feeds the small one, or has it as a side. For each slot of the big one it has the slot of the
-- small one that the entry is tied to, and for each slot of the small one a list of slots of the big one
pub record Edge : Type 0 where
  pub big : ℕ
  pub small : ℕ
  pub feeds : Bool
  pub columns : List ℕ
  pub ties : List ℕ
  pub lists : List (List ℕ)

-- the knots and edges, and the number of the present change
pub record Forest : Type 0 where
  pub knots : List Knot
  pub edges : List Edge
  pub stamp : ℕ

-- the knot with a number, past the end one without entries
abbrev pub nth_knot : List Knot → ℕ → Knot
nth_knot ks k = slice_index_or ks k
    (record { leaf = false; width = 0; rank = 0; tuples = []; missing = []; refs = []; marks = [] })

-- the edge with a number, past the end one that lists nothing
abbrev pub nth_edge : List Edge → ℕ → Edge
nth_edge es j = slice_index_or es j
    (record { big = 0; small = 0; feeds = true; columns = []; ties = []; lists = [] })

-- what lies in slot x of the knot k, if there is an entry
abbrev pub slot_at : List Knot → ℕ → ℕ → Option (List ℕ)
slot_at ks k x = slice_index_or (nth_knot ks k).tuples x None

-- the cells of a tuple, none if there is no tuple
abbrev pub tuple_cells : Option (List ℕ) → List ℕ
tuple_cells None = []
tuple_cells (Some u) = u

-- whether there is an entry in slot x of the knot k
abbrev pub has_entry : List Knot → ℕ → ℕ → Bool
has_entry ks k x = is_some (slot_at ks k x)

-- its tuple
abbrev pub entry_tuple : List Knot → ℕ → ℕ → List ℕ
entry_tuple ks k x = tuple_cells (slot_at ks k x)

-- how many of its needs aren't met
abbrev pub missing_at : List Knot → ℕ → ℕ → ℕ
missing_at ks k x = slice_index (nth_knot ks k).missing x

-- how many entries are tied to it
abbrev pub refs_at : List Knot → ℕ → ℕ → ℕ
refs_at ks k x = slice_index (nth_knot ks k).refs x

-- whether it lives: it is there, and none of its needs is missing
abbrev pub lives : List Knot → ℕ → ℕ → Bool
lives ks k x = has_entry ks k x && (missing_at ks k x == 0)

-- the slot of the small knot that the big one's entry in slot x is tied to
abbrev pub tie_of : Edge → ℕ → ℕ
tie_of e x = slice_index e.ties x

-- the slots that the edge lists for the small knot's slot y
abbrev pub list_of : Edge → ℕ → List ℕ
list_of e y = slice_index_or e.lists y []
