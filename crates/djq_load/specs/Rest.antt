-- What of a load is still to be run.
use Rattle.std.specs.Prelude.{ℕ, List, ◌++◌, drop}
use Rattle.djq_load.specs.declared.load.Due.{Due}
use Rattle.djq_load.specs.declared.load.Due.TheVariants.{FirstRelation, SecondRelation, Query, Change, Open, Read}
use Rattle.djq_load.specs.declared.load.Due.TheVariants.{Close}
use Rattle.djq_load.specs.Load.{opening_lines, reading_lines}

-- the lines from the one that is due on, before further changes
abbrev pub from_due : Due → List (List ℕ) → List (List ℕ)
from_due FirstRelation more = opening_lines ++ more
from_due SecondRelation more = drop 1 opening_lines ++ more
from_due Query more = drop 2 opening_lines ++ more
from_due Change more = more
from_due Open more = reading_lines ++ more
from_due Read more = drop 1 reading_lines ++ more
from_due Close more = drop 2 reading_lines ++ more
