-- The buffer of the lines of a transaction.
use Rattle.std.specs.Prelude.{ℕ, List, [], ◌∷◌, ◌≡◌, ◌≤◌, ◌++◌, All, length, map}
use Rattle.std.specs.List.{slice_range, sum_by}
use Rattle.djq_model.specs.declared.value.Value.{Value}
use Rattle.djq_model.specs.Data.{Bytes, Tuple}
use Rattle.djq_protocol.specs.declared.held.Verb.{Verb}
use Rattle.djq_transaction.specs.declared.held.Entry.{Entry}
use Rattle.djq_transaction.specs.declared.held.Buffer.{Buffer}
use Rattle.djq_protocol.specs.declared.limits.TheConstants.{HELD}
use Rattle.djq_store_spec.specs.Held.{HeldLine, HeldTransaction}

abbrev pub bytes_of_line : List Value → Entry → HeldLine
bytes_of_line values e = record {
  verb = e.verb;
  relation = e.relation;
  row = slice_range values e.row_start e.row_end;
}

abbrev pub logged_in : List ℕ → Entry → Bytes
logged_in bytes e = slice_range bytes e.line_start e.line_end

abbrev pub lines_held_in : Buffer → HeldTransaction
lines_held_in t = record {
  lines = map (bytes_of_line t.values.items) t.entries.items;
  logged = map (logged_in t.bytes.items) t.entries.items;
}

-- The values and bytes of a line are within those of all.
pub record SpanIsWithin (values bytes : ℕ) (e : Entry) : Type 0 where
  pub row : e.row_start ≤ e.row_end
  pub values_end : e.row_end ≤ values
  pub line : e.line_start ≤ e.line_end
  pub bytes_end : e.line_end ≤ bytes

pub record IsBuffer (t : Buffer) : Type 0 where
  pub few : length t.entries.items ≤ HELD
  pub within : All (SpanIsWithin (length t.values.items) (length t.bytes.items)) t.entries.items
  pub total : length t.bytes.items ≡ sum_by (λ l. length l) (map (logged_in t.bytes.items) t.entries.items)

-- the entry of a line that is appended
abbrev pub next_entry : List Value → List ℕ → Verb → Bytes → Tuple → Bytes → Entry
next_entry values bytes verb relation row line = record {
  verb = verb;
  relation = relation;
  row_start = length values;
  row_end = length (values ++ row);
  line_start = length bytes;
  line_end = length (bytes ++ line);
}

-- A buffer has one line more.
pub record GetsOneMoreLine (old : Buffer) (verb : Verb) (relation : Bytes) (row : Tuple) (line : Bytes) (new : Buffer)
    : Type 0 where
  pub values : new.values.items ≡ old.values.items ++ row
  pub bytes : new.bytes.items ≡ old.bytes.items ++ line
  pub entries : new.entries.items
      ≡ old.entries.items ++ next_entry old.values.items old.bytes.items verb relation row line ∷ []

-- A buffer has the same lines.
pub record HasTheSame (old new : Buffer) : Type 0 where
  pub values : new.values.items ≡ old.values.items
  pub bytes : new.bytes.items ≡ old.bytes.items
  pub entries : new.entries.items ≡ old.entries.items
