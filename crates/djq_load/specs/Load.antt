-- The lines of a load, each with its line end.
use Rattle.std.specs.Prelude.{ℕ, zero, suc, ◌+◌, ◌/◌, ◌%◌, ◌==◌, min, List, [], ◌∷◌, ◌++◌, codes}
use Rattle.std.specs.Prelude.{decimal, if◌then◌else◌}
use Rattle.djq_load.specs.Draws.{next, drawn}

-- two relations, and the query that joins them
abbrev pub opening_lines : List (List ℕ)
opening_lines = codes "rel r int int\n" ∷ codes "rel s int int\n" ∷ codes "query q(x,y,z) <- r(x,y), s(y,z)\n" ∷ []

-- a cursor is opened, read and closed
abbrev pub reading_lines : List (List ℕ)
reading_lines = codes "open c q\n" ∷ codes "next c 10\n" ∷ codes "close c\n" ∷ []

-- a change deletes a row if half of its first draw is a multiple of four, and else inserts one
abbrev pub verb : ℕ → List ℕ
verb a = if a / 2 % 4 == 0 then codes "del " else codes "add "

-- it is one of r if the draw is even, and else of s
abbrev pub relation : ℕ → List ℕ
relation a = if a % 2 == 0 then codes "r " else codes "s "

-- the line of a change, from its three draws, if so many different values are in use
abbrev pub change : ℕ → ℕ → ℕ → ℕ → List ℕ
change values a b c = verb a ++ relation a ++ decimal (b % values) ++ codes " " ++ decimal (c % values) ++ codes "\n"

-- after each hundredth change a cursor is read
abbrev pub pause : ℕ → List (List ℕ)
pause number = if number % 100 == 0 then reading_lines else []

-- the lines of so many further changes, if so many are done and the draws have left a state
abbrev pub changes : ℕ → ℕ → ℕ → ℕ → List (List ℕ)
changes values state done zero = []
changes values state done (suc left) =
    change values (drawn (next state)) (drawn (next (next state))) (drawn (next (next (next state))))
    ∷ (pause (done + 1) ++ changes values (next (next (next state))) (done + 1) left)

-- how many different values a load of n changes uses
abbrev pub value_count : ℕ → ℕ
value_count n = min 32768 (2 + n / 16)

-- the load of n changes with a seed
abbrev pub load : ℕ → ℕ → List (List ℕ)
load n seed = opening_lines ++ changes (value_count n) seed 0 n
