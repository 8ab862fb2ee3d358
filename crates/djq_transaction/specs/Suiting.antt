-- Lines whose rows suit the relations of a store suit its relations.
use Rattle.std.specs.Prelude.{List, All}
use Rattle.djq_store_spec.specs.Store.{Store}
use Rattle.djq_store_spec.specs.Held.{HeldLine}
use Rattle.djq_store_spec.specs.Transaction.{SuitAll}
use Rattle.djq_transaction.specs.Net.{Suits}

-- A line that is refused for no relation is of a row that suits one of them.
abbrev pub LinesSuit : Type 0
LinesSuit = (st : Store) (lines : List HeldLine) → SuitAll st lines → All (Suits st.relations) lines
