-- The variables of a query's body.
use Rattle.std.specs.Prelude.{Contains}
use Rattle.djq_model.specs.Data.{Bytes}
use Rattle.djq_protocol.specs.Variables.{IsInBody}
use Rattle.djq_database.specs.Catalog.{Catalog}
use Rattle.djq_live_query.specs.Live.{Live, IsKept}

-- A live query has each variable of its head in an atom.
abbrev pub HeadsAreBound : Type 0
HeadsAreBound = (c : Catalog) (l : Live) → IsKept c l → (x : Bytes) → Contains (l.query).head x
    → IsInBody x l.query
