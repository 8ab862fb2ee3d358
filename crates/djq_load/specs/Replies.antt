-- How the replies of a session are read: the number of answers, what their integers add up to, and
-- whether the last line is the end of a listing.
use Rattle.std.specs.Prelude.{ℕ, [], ◌∷◌, ◌==◌, ◌+◌, ◌-◌, ◌*◌, ◌%◌, ◌^◌, Bool, true, false, if◌then◌else◌}
use Rattle.djq_model.specs.Data.{Bytes}
use Rattle.djq_load.specs.declared.reading.Place.{Place}
use Rattle.djq_load.specs.declared.reading.Place.TheVariants.{Front, Other, Answer, Text, Escape}
use Rattle.djq_load.specs.declared.reading.Reading.{Reading}

-- what was read, of its parts
abbrev pub reading : ℕ → ℕ → Bool → Place → Reading
reading answers sum ended place =
    record { answers = answers; sum = sum; ended = ended; place = place }

-- a line that begins with `=` is an answer
abbrev pub at_line_front : Reading → ℕ → Reading
at_line_front r b =
    if b == 61 then reading ((r.answers + 1) % 2 ^ 64) r.sum r.ended (Answer false 0)
    else (if b == 10 then r
    else reading r.answers r.sum (b == 101) Other)

-- a line that is no answer extends to its LF
abbrev pub in_other : Reading → ℕ → Reading
in_other r b = if b == 10 then record r { place = Front } else r

-- a number modulo 2^64, after a minus or not
abbrev pub signed : Bool → ℕ → ℕ
signed false n = n
signed true n = (2 ^ 64 - n) % 2 ^ 64

-- In an answer a space and the line's end end a number, a quote begins a text, and digits make a
-- number.
abbrev pub in_answer : Reading → Bool → ℕ → ℕ → Reading
in_answer r below n b =
    if b == 32 then reading r.answers ((r.sum + signed below n) % 2 ^ 64) r.ended (Answer false 0)
    else (if b == 10 then reading r.answers ((r.sum + signed below n) % 2 ^ 64) r.ended Front
    else (if b == 34 then record r { place = Text }
    else (if b == 45 then record r { place = Answer true n }
    else record r { place = Answer below ((n * 10 % 2 ^ 64 + (b - 48)) % 2 ^ 64) })))

-- a text ends at a quote that no backslash precedes
abbrev pub within_text : Reading → ℕ → Reading
within_text r b =
    if b == 92 then record r { place = Escape }
    else (if b == 34 then record r { place = Answer false 0 } else r)

-- what was read, after a byte
abbrev pub read_at : Place → Reading → ℕ → Reading
read_at Front r b = at_line_front r b
read_at Other r b = in_other r b
read_at (Answer below n) r b = in_answer r below n b
read_at Text r b = within_text r b
read_at Escape r b = record r { place = Text }

-- what was read, after a further byte, by its place
abbrev pub read_byte : Reading → ℕ → Reading
read_byte r b = read_at r.place r b

-- after these bytes
abbrev pub read_bytes : Reading → Bytes → Reading
read_bytes r [] = r
read_bytes r (b ∷ bs) = read_bytes (read_byte r b) bs
