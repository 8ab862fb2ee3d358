-- What an engine returns of a transaction.
use Rattle.std.specs.Prelude.{ℕ, List, [], ◌∷◌, ◌++◌, Bool, true, false, Result, Ok, Err, filter, fold, if◌then◌else◌}
use Rattle.std.specs.List.{list_any}
use Rattle.djq_model.specs.declared.relation.Relation.{Relation}
use Rattle.djq_model.specs.Data.{Bytes, bytes_eq}
use Rattle.djq_protocol.specs.declared.held.DoneRefusal.{DoneRefusal}
use Rattle.djq_protocol.specs.declared.held.DoneRefusal.TheVariants.{OtherNumber, Line, LastChange, NoMemory}
use Rattle.djq_protocol.specs.declared.held.LineRefusal.{LineRefusal}
use Rattle.djq_protocol.specs.declared.held.LineRefusal.TheVariants.{Limit, Absent, NoMemory as NoneForLine}
use Rattle.djq_store_spec.specs.Held.{HeldLine}
use Rattle.djq_store_spec.specs.Done.{has_changed}
use Rattle.djq_engine.specs.declared.transaction.Changed.{Changed}

-- how many rows were inserted and deleted, or why none was
abbrev pub rows_done : Result Changed DoneRefusal → Result ℕ DoneRefusal
rows_done (Ok c) = Ok c.count
rows_done (Err r) = Err r

-- the names, and that of a line's relation after them if it isn't among them
abbrev pub with_name_of : List Bytes → HeldLine → List Bytes
with_name_of names h = if list_any (λ n. bytes_eq n h.relation) names then names else names ++ h.relation ∷ []

-- The relations of which lines insert or delete rows, each once, in the order in which the lines name them first.
abbrev pub changed_relations : List Relation → List HeldLine → List Bytes
changed_relations relations lines = filter (has_changed relations lines) (fold with_name_of [] lines)

-- whether memory was refused
abbrev pub line_lacks_memory : LineRefusal → Bool
line_lacks_memory Limit = false
line_lacks_memory Absent = false
line_lacks_memory NoneForLine = true

abbrev pub lacks_memory_for : DoneRefusal → Bool
lacks_memory_for OtherNumber = false
lacks_memory_for (Line r) = line_lacks_memory r.refusal
lacks_memory_for LastChange = false
lacks_memory_for NoMemory = true
