-- What a read that was answered adds to what a reader tells.
use Rattle.std.proofs.Common.{◌≡◌, ◌≢◌, ℕ, suc, Bool, true, false, List, [], ◌∷◌, ◌++◌, length, take, drop, reverse}
use Rattle.std.proofs.Common.{Option, Some, None, option_and_then, refl, sym, ap, subst, ◌∙◌, arith}
use Rattle.std.proofs.Common.{append-nil, append_assoc}
use Rattle.std.specs.List.{concat}
use Rattle.std.proofs.lemmas.List.Folds.{concat-append}
use Rattle.std.specs.Prelude.{All}
use Rattle.std.specs.Str.{bytes_eq}
use Rattle.std.proofs.lemmas.List.{reverse-append, take-append-drop}
use Rattle.std.proofs.lemmas.Slice.Eq.{bytes_eq-Decides}
use Rattle.djq_io.specs.Source.{SourceReading, GivesPiece, FindsEnd}
use Rattle.djq_io.specs.declared.source.Read.{Read}
use Rattle.djq_io.specs.declared.source.Read.TheVariants.{Got, End, Failed}
use Rattle.djq_system.specs.InputTold.{pieces_answered, pieces_read, SomeInputIsTold}
use Rattle.djq_system.specs.StdSource.{ReadDone, reading_if, reading_answered, reading_back, reading_of_reads}

-- a read more
after_read : (input : List ℕ) (old new : List ReadDone) (r : ReadDone) → new ≡ old ++ r ∷ []
    → reading_of_reads input new ≡ option_and_then (reading_answered r.answer r.gave) (reading_of_reads input old)
after_read input old new r is = ap (reading_back input) (ap reverse is ∙ reverse-append old (r ∷ []))

-- a piece
piece_if : (piece : List ℕ) (n : ℕ) (o : Option SourceReading)
    → GivesPiece o (option_and_then (reading_answered (Got n) piece) o) piece
piece_if piece n None = tt
piece_if piece n (Some r) = at_test (bytes_eq piece (take (length piece) r.left)) refl
  where
    behind : List ℕ
    behind = drop (length piece) r.left

    at_test : (so : Bool) → bytes_eq piece (take (length piece) r.left) ≡ so
        → GivesPiece (Some r) (reading_if so (record { left = behind; given = r.given ++ piece ∷ [] })) piece
    at_test true is = (
      sym (take-append-drop (length piece) r.left)
          ∙ ap (λ bytes. bytes ++ behind) (sym ((bytes_eq-Decides piece (take (length piece) r.left)).0 is)),
      refl,
    )
    at_test false is = tt

pub gives_so : (input : List ℕ) (old new : List ReadDone) (n : ℕ) (buf : List ℕ)
    → new ≡ old ++ record { answer = Got n; gave = take n buf } ∷ []
    → GivesPiece (reading_of_reads input old) (reading_of_reads input new) (take n buf)
gives_so input old new n buf is =
    subst (λ told. GivesPiece (reading_of_reads input old) told (take n buf)) (sym (after_read input old new _ is))
    (piece_if (take n buf) n (reading_of_reads input old))

-- the end
end_if : (o : Option SourceReading) → FindsEnd o (option_and_then (reading_answered End []) o)
end_if None = tt
end_if (Some r) = at_test (bytes_eq r.left []) refl
  where
    at_test : (so : Bool) → bytes_eq r.left [] ≡ so → FindsEnd (Some r) (reading_if so r)
    at_test true is = ((bytes_eq-Decides r.left []).0 is, refl)
    at_test false is = tt

pub ends_so : (input : List ℕ) (old new : List ReadDone) → new ≡ old ++ record { answer = End; gave = [] } ∷ []
    → FindsEnd (reading_of_reads input old) (reading_of_reads input new)
ends_so input old new is =
    subst (λ told. FindsEnd (reading_of_reads input old) told) (sym (after_read input old new _ is))
    (end_if (reading_of_reads input old))

-- a failure
failed_if : (o : Option SourceReading) → option_and_then (reading_answered Failed []) o ≡ o
failed_if None = refl
failed_if (Some r) = refl

pub fails_so : (input : List ℕ) (old new : List ReadDone) → new ≡ old ++ record { answer = Failed; gave = [] } ∷ []
    → reading_of_reads input new ≡ reading_of_reads input old
fails_so input old new is = after_read input old new _ is ∙ failed_if (reading_of_reads input old)

-- ---- Some input is told.

-- the first bytes of two parts, and those behind them
first_part : (xs ys : List ℕ) → take (length xs) (xs ++ ys) ≡ xs
first_part [] ys = refl
first_part (x ∷ xs) ys = ap (λ (zs : List ℕ). x ∷ zs) (first_part xs ys)

second_part : (xs ys : List ℕ) → drop (length xs) (xs ++ ys) ≡ ys
second_part [] ys = refl
second_part (x ∷ xs) ys = second_part xs ys

-- a piece that is left first
first_piece : (n : ℕ) (piece left : List ℕ) (given : List (List ℕ))
    → reading_answered (Got n) piece (record { left = piece ++ left; given = given })
    ≡ Some (record { left = left; given = given ++ piece ∷ [] })
first_piece n piece left given =
    ap (λ (so : Bool). reading_if so (record
    { left = drop (length piece) (piece ++ left); given = given ++ piece ∷ [] }))
    ((bytes_eq-Decides piece (take (length piece) (piece ++ left))).1 (sym (first_part piece left)))
    ∙ ap (λ (bytes : List ℕ). Some (record { left = bytes; given = given ++ piece ∷ [] })) (second_part piece left)

-- a read that didn't find the end
one_read : (answer : Read) (gave left : List ℕ) (given : List (List ℕ)) → answer ≢ End
    → reading_answered answer gave (record { left = concat (pieces_answered answer gave) ++ left; given = given })
    ≡ Some (record { left = left; given = given ++ pieces_answered answer gave })
one_read (Got n) gave left given apart =
    ap (λ (bytes : List ℕ). reading_answered (Got n) gave (record { left = bytes ++ left; given = given }))
    (append-nil gave)
    ∙ first_piece n gave left given
one_read End gave left given apart = absurd (apart refl)
one_read Failed gave left given apart =
    ap (λ (pieces : List (List ℕ)). Some (record { left = left; given = pieces })) (sym (append-nil given))

-- reads behind others
reads_on : (input : List ℕ) (before reads : List ReadDone) (given : List (List ℕ)) (left : List ℕ)
    → All (λ (r : ReadDone). r.answer ≢ End) reads
    → reading_of_reads input before ≡ Some (record { left = concat (pieces_read reads) ++ left; given = given })
    → reading_of_reads input (before ++ reads) ≡ Some (record { left = left; given = given ++ pieces_read reads })
reads_on input before [] given left well so =
    ap (reading_of_reads input) (append-nil before) ∙ so
    ∙ ap (λ (pieces : List (List ℕ)). Some (record { left = left; given = pieces })) (sym (append-nil given))
reads_on input before (r ∷ reads) given left well so =
    let piece : List (List ℕ) = pieces_answered r.answer r.gave in
    let behind : List ℕ = concat (pieces_read reads) ++ left in
    let split : concat (piece ++ pieces_read reads) ++ left ≡ concat piece ++ behind =
    ap (λ (bytes : List ℕ). bytes ++ left) (concat-append piece (pieces_read reads))
    ∙ append_assoc (concat piece) (concat (pieces_read reads)) left in
    let step : reading_of_reads input (before ++ r ∷ []) ≡ Some (record { left = behind; given = given ++ piece }) =
    after_read input before (before ++ r ∷ []) r refl
    ∙ ap (option_and_then (reading_answered r.answer r.gave)) so
    ∙ ap (λ (bytes : List ℕ). reading_answered r.answer r.gave (record { left = bytes; given = given })) split
    ∙ one_read r.answer r.gave behind given (well 0 r (omega arith)) in
    let rest = reads_on input (before ++ r ∷ []) reads (given ++ piece) left
    (λ k d low. well (suc k) d (omega (arith, low))) step in
    ap (reading_of_reads input) (sym (append_assoc before (r ∷ []) reads)) ∙ rest
    ∙ ap (λ (pieces : List (List ℕ)). Some (record { left = left; given = pieces }))
    (append_assoc given piece (pieces_read reads))

pub some_input_is_told : SomeInputIsTold
some_input_is_told reads well = (
  told,
  after_read input reads (reads ++ record { answer = End; gave = [] } ∷ []) _ refl
      ∙ ap (option_and_then (reading_answered End []))
      (ap (λ (bytes : List ℕ). reading_of_reads bytes reads) (sym (append-nil input)) ∙ told []),
)
  where
    input : List ℕ
    input = concat (pieces_read reads)

    told : (behind : List ℕ) → reading_of_reads (input ++ behind) reads
        ≡ Some (record { left = behind; given = pieces_read reads })
    told behind = reads_on (input ++ behind) [] reads [] behind well refl
