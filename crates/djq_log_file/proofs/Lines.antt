-- The lines of a group, one after another.
use Rattle.std.proofs.Common.{◌≡◌, ℕ, suc, zero, ◌+◌, ◌≤◌, List, [], ◌∷◌, ◌++◌, length, take, drop, refl, sym, ap, subst, ◌∙◌}
use Rattle.std.proofs.Common.{arith, length-append}
use Rattle.std.specs.Prelude.{Some, None, slice_get}
use Rattle.std.specs.List.{AllByRecursion}
use Rattle.std.proofs.Math.Seq.{take-suc}
use Rattle.std.proofs.lemmas.List.{take-append-drop}
use Rattle.std.proofs.lemmas.Option.{slice_get_within, get_or_from_slice_get}
use Rattle.djq_disk.proofs.Files.{all_append}
use Rattle.djq_log_format.specs.Format.{IsLogLine, record_body}
use Rattle.djq_log_format.proofs.Seen.{IsBytes}
use Rattle.djq_log_file.specs.Appending.{FitsLogLine}
use Rattle.djq_log_file.proofs.Bodies.{body_append, body_longer}

-- a line of the group fits
pub line_fits : (lines : List (List ℕ)) (i : ℕ) (line : List ℕ) → AllByRecursion FitsLogLine lines
    → Some line ≡ slice_get lines i → FitsLogLine line
line_fits [] i line all is = cc
line_fits (l ∷ ls) zero line all is = subst FitsLogLine (some_same (sym is)) all.0
  where
    some_same : Some l ≡ Some line → l ≡ line
    some_same e = cc
line_fits (l ∷ ls) (suc i) line all is = line_fits ls i line all.1 is

-- the lines up to it and from it on
pub taken_line : (lines : List (List ℕ)) (i : ℕ) (line : List ℕ) → Some line ≡ slice_get lines i → take (i + 1) lines
    ≡ take i lines ++ line ∷ []
taken_line lines i line is =
    let e : i + 1 ≡ suc i = omega arith in
    ap (λ n. take n lines) e ∙ take-suc lines i line (slice_get_within lines i line (sym is))
    ∙ ap (λ x. take i lines ++ x ∷ []) (get_or_from_slice_get lines i line line (sym is))

-- where the number is past the lines
pub past_lines : (lines : List (List ℕ)) (i : ℕ) → None ≡ slice_get lines i → take i lines ≡ lines
past_lines [] zero is = refl
past_lines [] (suc i) is = refl
past_lines (l ∷ ls) zero is = cc
past_lines (l ∷ ls) (suc i) is = ap (λ xs. l ∷ xs) (past_lines ls i is)

-- with a line more
pub taken_body : (lines : List (List ℕ)) (i : ℕ) (line : List ℕ) → Some line ≡ slice_get lines i
    → length (record_body (take (i + 1) lines)) ≡ length (record_body (take i lines)) + (2 + length line)
taken_body lines i line is = ap (λ ls. length (record_body ls)) (taken_line lines i line is) ∙ body_longer (take i lines) line

-- the first lines have no longer a body than all
pub body_most : (lines : List (List ℕ)) (i : ℕ) → length (record_body (take i lines)) ≤ length (record_body lines)
body_most lines i =
    let all : record_body lines ≡ record_body (take i lines) ++ record_body (drop i lines) =
    ap (λ ls. record_body ls) (sym (take-append-drop i lines)) ∙ body_append (take i lines) (drop i lines) in
    omega (arith, ap length all, length-append (record_body (take i lines)) (record_body (drop i lines)))

-- the lines so far, and one more
pub more_lines : (lines : List (List ℕ)) (i : ℕ) (line : List ℕ) → Some line ≡ slice_get lines i
    → AllByRecursion IsLogLine (take i lines) → AllByRecursion FitsLogLine lines → IsBytes line
    → AllByRecursion IsLogLine (take (i + 1) lines)
more_lines lines i line is all fit bytes =
    let fits = line_fits lines i line fit is in
    subst (λ (ls : List (List ℕ)). AllByRecursion IsLogLine ls) (sym (taken_line lines i line is))
    (all_append IsLogLine (take i lines) (line ∷ []) all (record { some = fits.0; short = fits.1; are_bytes = bytes }, tt))
