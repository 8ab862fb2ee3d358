-- Which texts are known, and how more become so.
use Rattle.std.specs.Prelude.{List, [], ◌∷◌, ◌++◌, ◌&&◌, Bool, true, false, if◌then◌else◌}
use Rattle.djq_model.specs.declared.value.Value.{Value}
use Rattle.djq_model.specs.declared.value.Value.TheVariants.{Int, Text}
use Rattle.djq_model.specs.Data.{Bytes, Tuple, bytes_eq}

-- whether a text is among these
abbrev pub knows : List Bytes → Bytes → Bool
knows [] text = false
knows (t ∷ ts) text = if bytes_eq t text then true else knows ts text

-- the text of a value, if it is one
abbrev pub texts_of : Value → List Bytes
texts_of (Int i) = []
texts_of (Text t) = t ∷ []

-- the texts of a row, in its columns' order
abbrev pub texts_in : Tuple → List Bytes
texts_in [] = []
texts_in (v ∷ vs) = texts_of v ++ texts_in vs

-- whether all of these texts are known
abbrev pub knows_all : List Bytes → List Bytes → Bool
knows_all known [] = true
knows_all known (t ∷ ts) = knows known t && knows_all known ts

-- the known texts once this one is known: it is appended to them, unless it was known
abbrev pub learned : List Bytes → Bytes → List Bytes
learned known text = if knows known text then known else known ++ text ∷ []

-- the known texts once all of these are, one after the other
abbrev pub all_learned : List Bytes → List Bytes → List Bytes
all_learned known [] = known
all_learned known (t ∷ ts) = all_learned (learned known t) ts
