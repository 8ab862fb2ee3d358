-- The entries of a body, read one after another.
use Rattle.std.proofs.Common.{◌≡◌, ℕ, suc, zero, ◌+◌, ◌-◌, ◌*◌, ◌/◌, ◌%◌, ◌<◌, ◌≤◌, List, [], ◌∷◌, ◌++◌, length, take, drop}
use Rattle.std.proofs.Common.{get_or, refl, sym, ap, ap₂, ◌∙◌, subst, arith, append_assoc, length-append, length-drop}
use Rattle.std.specs.List.{AllByRecursion}
use Rattle.std.proofs.Math.Nat.{div-add-mod}
use Rattle.std.proofs.Math.Seq.{drop-drop}
use Rattle.std.proofs.lemmas.List.{append_cancel_left, take_at}
use Rattle.std.proofs.lemmas.Grind.{flat_map-append}
use Rattle.djq_log_format.specs.Format.{IsLogLine, line_entry, record_body}
use Rattle.djq_log_format.proofs.Once.{entry_once, head_same, tail_same}
use Rattle.djq_log_format.proofs.Measuring.{body_next}
use Rattle.djq_log_format.proofs.Seen.{IsBytes}
use Rattle.djq_log_file.specs.Damaged.{HasNoLines}
use Rattle.djq_log_file.proofs.Through.{piece_read}

-- ---- Lists of bytes.

pub bytes_all : (xs : List ℕ) → ((i : ℕ) → get_or xs i 0 < 256) → IsBytes xs
bytes_all [] all = tt
bytes_all (x ∷ xs) all = (all 0, bytes_all xs (λ i. all (suc i)))

pub bytes_take : (n : ℕ) (xs : List ℕ) → IsBytes xs → IsBytes (take n xs)
bytes_take zero xs all = tt
bytes_take (suc n) [] all = tt
bytes_take (suc n) (x ∷ xs) all = (all.0, bytes_take n xs all.1)

one_cell : (xs : List ℕ) → length xs ≡ 1 → xs ≡ get_or xs 0 0 ∷ []
one_cell [] size = let wrong : ⊥ = omega (arith, size) in absurd wrong
one_cell (x ∷ []) size = refl
one_cell (x ∷ y ∷ xs) size = let wrong : ⊥ = omega (arith, size) in absurd wrong

two_cells : (xs : List ℕ) → length xs ≡ 2 → xs ≡ get_or xs 0 0 ∷ get_or xs 1 0 ∷ []
two_cells [] size = let wrong : ⊥ = omega (arith, size) in absurd wrong
two_cells (x ∷ []) size = let wrong : ⊥ = omega (arith, size) in absurd wrong
two_cells (x ∷ y ∷ []) size = refl
two_cells (x ∷ y ∷ z ∷ xs) size = let wrong : ⊥ = omega (arith, size) in absurd wrong

-- one byte that was read
pub one_read : (at : ℕ) (bytes buf : List ℕ) → length buf ≡ 1 → buf ≡ take (length buf) (drop at bytes)
    → drop at bytes ≡ get_or buf 0 0 ∷ drop (at + 1) bytes
one_read at bytes buf size is = piece_read at 1 bytes buf size is
    ∙ ap (λ (xs : List ℕ). xs ++ drop (at + 1) bytes) (one_cell buf size)

-- and two
pub two_read : (at : ℕ) (bytes buf : List ℕ) → length buf ≡ 2 → buf ≡ take (length buf) (drop at bytes)
    → drop at bytes ≡ get_or buf 0 0 ∷ get_or buf 1 0 ∷ drop (at + 2) bytes
two_read at bytes buf size is = piece_read at 2 bytes buf size is
    ∙ ap (λ (xs : List ℕ). xs ++ drop (at + 2) bytes) (two_cells buf size)

-- a file that ends within so many bytes
pub ends_within : (at k left : ℕ) (bytes : List ℕ) → 1 ≤ k → length bytes < at + k → k ≤ left
    → length (drop at bytes) < left
ends_within at k left bytes some few within = omega (arith, some, few, within, length-drop at bytes)

-- ---- An entry.

-- Where two bytes are no length within what is left, no line's entry stands there.
pub no_length : (at left high low n : ℕ) (bytes buf : List ℕ) → length buf ≡ 2 → buf ≡ take (length buf) (drop at bytes)
    → high ≡ get_or buf 0 0 → low ≡ get_or buf 1 0 → n ≡ high * 256 + low
    → ((1 ≤ n) → (2 + n ≤ left) → ⊥)
    → (line behind : List ℕ) → IsLogLine line → 2 + length line ≤ left → drop at bytes ≡ line_entry line ++ behind → ⊥
no_length at left high low n bytes buf size is is_high is_low is_n none line behind is_line fits e =
    let both : get_or buf 0 0 ∷ (get_or buf 1 0 ∷ drop (at + 2) bytes)
    ≡ length line / 256 ∷ (length line % 256 ∷ (line ++ behind)) = sym (two_read at bytes buf size is) ∙ e in
    let one : get_or buf 0 0 ≡ length line / 256 = head_same (get_or buf 0 0) (length line / 256)
    (get_or buf 1 0 ∷ drop (at + 2) bytes) (length line % 256 ∷ (line ++ behind)) both in
    let two : get_or buf 1 0 ≡ length line % 256 = head_same (get_or buf 1 0) (length line % 256)
    (drop (at + 2) bytes) (line ++ behind) (tail_same (get_or buf 0 0) (length line / 256)
    (get_or buf 1 0 ∷ drop (at + 2) bytes) (length line % 256 ∷ (line ++ behind)) both) in
    let same : n ≡ length line = omega (arith, is_n, is_high, is_low, one, two, div-add-mod (length line) 256) in
    none (omega (arith, same, is_line.some)) (omega (arith, same, fits))

-- Where they are one, and the bytes behind them were read, the entry stands there.
pub entry_read : (at high low n : ℕ) (bytes buf got behind : List ℕ) → length buf ≡ 2 → buf ≡ take (length buf) (drop at bytes)
    → high ≡ get_or buf 0 0 → low ≡ get_or buf 1 0 → n ≡ high * 256 + low → low < 256
    → length got ≡ n → got ≡ take (length got) (drop (at + 2) bytes)
    → drop at bytes ≡ line_entry (take n (got ++ behind)) ++ drop (2 + n) (drop at bytes)
entry_read at high low n bytes buf got behind size is is_high is_low is_n small long gives =
    two_read at bytes buf size is
    ∙ ap₂ (λ (x y : ℕ). x ∷ y ∷ drop (at + 2) bytes) first second
    ∙ ap (λ (xs : List ℕ). length got / 256 ∷ length got % 256 ∷ xs) (piece_read (at + 2) n bytes got long gives)
    ∙ ap₂ (λ (xs ys : List ℕ). line_entry xs ++ ys) (sym (take_at got behind n long)) later
  where
    first : get_or buf 0 0 ≡ length got / 256
    first = omega (arith, is_n, is_high, small, long)

    second : get_or buf 1 0 ≡ length got % 256
    second = omega (arith, is_n, is_low, small, long)

    later : drop ((at + 2) + n) bytes ≡ drop (2 + n) (drop at bytes)
    later = ap (λ k. drop k bytes) (omega arith) ∙ sym (drop-drop (2 + n) at bytes)

-- ---- Entry behind entry.

-- where a body stands and another does, the shorter one begins the longer
body_parts : (done others : List (List ℕ)) (xs ys : List ℕ) → record_body done ++ xs ≡ record_body others ++ ys
    → length (record_body done) ≤ length (record_body others)
    → (more : List (List ℕ)) × (others ≡ done ++ more) × (xs ≡ record_body more ++ ys)
body_parts [] others xs ys e few = (others, refl, e)
body_parts (d ∷ ds) [] xs ys e few =
    let wrong : ⊥ = omega (arith, few, length-append (line_entry d) (record_body ds)) in absurd wrong
body_parts (d ∷ ds) (o ∷ os) xs ys e few =
    let flat : line_entry d ++ (record_body ds ++ xs) ≡ line_entry o ++ (record_body os ++ ys) =
    sym (append_assoc (line_entry d) (record_body ds) xs) ∙ e ∙ append_assoc (line_entry o) (record_body os) ys in
    let first : d ≡ o = entry_once d o (record_body ds ++ xs) (record_body os ++ ys) flat in
    let later : record_body ds ++ xs ≡ record_body os ++ ys =
    append_cancel_left (line_entry d) (record_body ds ++ xs) (record_body os ++ ys)
    (flat ∙ ap (λ (l : List ℕ). line_entry l ++ (record_body os ++ ys)) (sym first)) in
    let sizes : length (line_entry d) ≡ length (line_entry o) = ap (λ (l : List ℕ). length (line_entry l)) first in
    let rest = body_parts ds os xs ys later (omega (
      arith,
      few,
      sizes,
      length-append (line_entry d) (record_body ds),
      length-append (line_entry o) (record_body os),
    )) in
    (rest.0, ap₂ (λ (l : List ℕ) (ls : List (List ℕ)). l ∷ ls) (sym first) rest.1, rest.2)

pub all_behind : (P : List ℕ → Type 0) (xs ys : List (List ℕ)) → AllByRecursion P (xs ++ ys) → AllByRecursion P ys
all_behind P [] ys all = all
all_behind P (x ∷ xs) ys all = all_behind P xs ys all.1

pub body_append : (xs ys : List (List ℕ)) → record_body (xs ++ ys) ≡ record_body xs ++ record_body ys
body_append xs ys = flat_map-append line_entry xs ys

pub no_entry : (more : List (List ℕ)) (behind rest : List ℕ) (left : ℕ) → AllByRecursion IsLogLine more
    → length (record_body more) ≡ left → 1 ≤ left → rest ≡ record_body more ++ behind
    → ((line after : List ℕ) → IsLogLine line → 2 + length line ≤ left → rest ≡ line_entry line ++ after → ⊥) → ⊥
no_entry [] behind rest left all long some e none = omega (arith, long, some)
no_entry (l ∷ ls) behind rest left all long some e none =
    none l (record_body ls ++ behind) all.0 (omega (arith, long, length-append (line_entry l) (record_body ls)))
    (e ∙ append_assoc (line_entry l) (record_body ls) behind)

-- Behind the entries so far no further one stands, so no lines have this body.
pub no_lines : (bytes : List ℕ) (at done size : ℕ) (lines : List (List ℕ)) → done ≡ length (record_body lines) → done < size
    → drop at bytes ≡ record_body lines ++ drop done (drop at bytes)
    → ((line behind : List ℕ) → IsLogLine line → 2 + length line ≤ size - done
    → drop (at + done) bytes ≡ line_entry line ++ behind → ⊥)
    → HasNoLines size (drop at bytes)
no_lines bytes at done size lines is_done low is none others behind all long e =
    let parts = body_parts lines others (drop done (drop at bytes)) behind (sym is ∙ e) (omega (arith, is_done, low, long)) in
    let more = parts.0 in
    let more_all : AllByRecursion IsLogLine more = all_behind IsLogLine lines more
    (subst (λ (ls : List (List ℕ)). AllByRecursion IsLogLine ls) parts.1 all) in
    let sizes : length (record_body more) ≡ size - done = omega (
      arith,
      is_done,
      long,
      ap (λ (ls : List (List ℕ)). length (record_body ls)) parts.1,
      ap length (body_append lines more),
      length-append (record_body lines) (record_body more),
    ) in
    no_entry more behind (drop done (drop at bytes)) (size - done) more_all sizes (omega (arith, low)) parts.2
    (λ line after is_line fits there. none line after is_line fits (sym (drop-drop done at bytes) ∙ there))

-- The entries so far, and one more.
pub entry_more : (bytes : List ℕ) (at done n : ℕ) (lines : List (List ℕ)) (line : List ℕ)
    → drop at bytes ≡ record_body lines ++ drop done (drop at bytes)
    → drop (at + done) bytes ≡ line_entry line ++ drop (2 + n) (drop (at + done) bytes)
    → drop at bytes ≡ record_body (lines ++ line ∷ []) ++ drop (done + (2 + n)) (drop at bytes)
entry_more bytes at done n lines line is entry =
    is ∙ ap (λ (xs : List ℕ). record_body lines ++ xs) (drop-drop done at bytes ∙ entry)
    ∙ sym (append_assoc (record_body lines) (line_entry line) (drop (2 + n) (drop (at + done) bytes)))
    ∙ ap₂ (λ (xs ys : List ℕ). xs ++ ys) (sym (body_next lines line))
    (ap (λ (xs : List ℕ). drop (2 + n) xs) (sym (drop-drop done at bytes)) ∙ drop-drop (2 + n) done (drop at bytes))

-- how long the body is with a line more
pub body_longer : (lines : List (List ℕ)) (line : List ℕ) → length (record_body (lines ++ line ∷ []))
    ≡ length (record_body lines) + (2 + length line)
body_longer lines line = omega (arith, ap length (body_next lines line), length-append (record_body lines) (line_entry line))

-- The file ends in an entry, and so in the body.
pub ends_in_body : (bytes : List ℕ) (at done size : ℕ) → done < size → length (drop (at + done) bytes) < size - done
    → length (drop at bytes) < size
ends_in_body bytes at done size low few = omega (arith, low, few, length-drop (at + done) bytes, length-drop at bytes)
