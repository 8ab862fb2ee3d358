-- The places of cursors.
use Rattle.std.specs.Prelude.{not, Bool, false, Option, None, Some}
use Rattle.djq_live_query.specs.Cursors.{are_vacant}
use Rattle.djq_live_query.specs.Live.{Live}

-- whether a cursor is over the query in a place, stale or not
abbrev pub has_cursor : Option Live → Bool
has_cursor None = false
has_cursor (Some l) = not (are_vacant l.cursors)
