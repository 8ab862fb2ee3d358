-- What sources give and sinks take over several calls.
use Rattle.std.proofs.Common.{List, [], ◌++◌, sym, ap, ◌∙◌, append_assoc, append-nil, ◌≡◌, ℕ, ◌∷◌, refl, subst, ◌+◌}
use Rattle.std.proofs.Common.{length, take, drop, map, arith, ◌≢◌}
use Rattle.std.specs.Prelude.{Option, Some, None, IfSome}
use Rattle.std.specs.List.{concat}
use Rattle.std.proofs.lemmas.List.Folds.{concat-append}
use Rattle.std.specs.Option.{option_map}
use Rattle.std.proofs.lemmas.List.{take-append-drop, take-append-le, take_all, map-append}
use Rattle.std.proofs.Math.Seq.{drop-drop}
use Rattle.std.proofs.lemmas.Grind.{flat_map-append}
use Rattle.std.proofs.lemmas.List.Elements.{All-nil, All-cons, All-append}
use Rattle.djq_io.specs.declared.sink.Wrote.TheVariants.{Took, Failed}
use Rattle.djq_io.specs.declared.sink.Write.{Write}
use Rattle.djq_io.specs.Sink.{Gains, part_taken, bytes_of}
use Rattle.djq_io.specs.Source.{SourceReading, GivesPiece, FindsEnd, SourceGives}
use Rattle.djq_io.specs.Given.{Gave}
use Rattle.djq_io.specs.Written.{GainsBytes}

-- ---- How what a sink took composes over several calls.

-- a call that takes nothing
pub gains_none : {A : Type 0} → (o : Option (List A)) → Gains o o []
gains_none None = tt
gains_none (Some xs) = sym (append-nil xs)

-- one call after another
pub gains_more : {A : Type 0} → (o m n : Option (List A)) → (taken more : List A) → Gains o m taken → Gains m n more
    → Gains o n (taken ++ more)
gains_more o m None taken more p q = tt
gains_more o None (Some n) taken more p q = absurd q
gains_more None (Some m) (Some n) taken more p q = absurd p
gains_more (Some o) (Some m) (Some n) taken more p q = q ∙ ap (λ xs. xs ++ more) p ∙ append_assoc o taken more

-- ---- How what a source gave composes over several reads.

-- a call that reads nothing
pub gives_none : (o : Option SourceReading) → SourceGives o o []
gives_none None = tt
gives_none (Some o) = (sym (append-nil o.given), refl)

-- one read
pub gives_piece : (o n : Option SourceReading) (piece : List ℕ) → GivesPiece o n piece → SourceGives o n (piece ∷ [])
gives_piece o None piece p = tt
gives_piece None (Some n) piece p = absurd p
gives_piece (Some o) (Some n) piece p = (p.1, p.0 ∙ ap (λ bytes. bytes ++ n.left) (sym (append-nil piece)))

-- the end
pub gives_end : (o n : Option SourceReading) → FindsEnd o n → SourceGives o n []
gives_end o None e = tt
gives_end o (Some n) e = subst (λ (k : Option SourceReading). SourceGives k (Some n) []) (sym e.1) (gives_none (Some n))

-- at the end nothing is left
pub none_left_at_end : (o n : Option SourceReading) → FindsEnd o n → IfSome n (λ (r : SourceReading). r.left ≡ [])
none_left_at_end o None e = tt
none_left_at_end o (Some n) e = e.0

-- some reads after others
pub gives_more : (o m n : Option SourceReading) (given more : List (List ℕ)) → SourceGives o m given
    → SourceGives m n more
    → SourceGives o n (given ++ more)
gives_more o m None given more p q = tt
gives_more o None (Some n) given more p q = absurd q
gives_more None (Some m) (Some n) given more p q = absurd p
gives_more (Some o) (Some m) (Some n) given more p q = (
  q.0 ∙ ap (λ pieces. pieces ++ more) p.0 ∙ append_assoc o.given given more,
  p.1
      ∙ ap (λ bytes. concat given ++ bytes) q.1 ∙ sym (append_assoc (concat given) (concat more) n.left)
      ∙ sym (ap (λ bytes. bytes ++ n.left) (concat-append given more)),
)

-- ---- the bytes of the pieces

-- nothing was read
pub gave_none : (o : Option SourceReading) → Gave o o []
gave_none o = record { pieces = []; told = gives_none o; all = refl }

-- a piece more was read
pub gave_more : (o m n : Option SourceReading) (bytes piece : List ℕ) → Gave o m bytes → GivesPiece m n piece
    → Gave o n (bytes ++ piece)
gave_more o m n bytes piece g p = record {
  pieces = g.pieces ++ piece ∷ [];
  told = gives_more o m n g.pieces (piece ∷ []) g.told (gives_piece m n piece p);
  all = ap (λ (xs : List ℕ). xs ++ piece) g.all
      ∙ sym (concat-append g.pieces (piece ∷ []) ∙ ap (λ (xs : List ℕ). concat g.pieces ++ xs) (append-nil piece));
}

-- nothing more was read
pub gave_same : (o m n : Option SourceReading) (bytes : List ℕ) → Gave o m bytes → n ≡ m → Gave o n bytes
gave_same o m n bytes g same = subst (λ (k : Option SourceReading). Gave o k bytes) (sym same) g

-- the end was read
pub gave_end : (o m n : Option SourceReading) (bytes : List ℕ) → Gave o m bytes → FindsEnd m n → Gave o n bytes
gave_end o m n bytes g e = record {
  pieces = g.pieces ++ [];
  told = gives_more o m n g.pieces [] g.told (gives_end m n e);
  all = g.all ∙ ap concat (sym (append-nil g.pieces));
}

-- ---- Parts of the bytes of a source.

-- What was copied to the start of a buffer is the part that was to be copied.
pub copied_part : (n : ℕ) (part copied behind : List ℕ) → length part ≡ n → copied ≡ part → take n (copied ++ behind)
    ≡ part
copied_part n part copied behind size is =
    take-append-le n copied behind (omega (arith, ap length is)) ∙ take_all n copied (omega (arith, ap length is)) ∙ is

-- The bytes from a place on are the next n and the rest.
pub part_then_left : (at n : ℕ) (bytes : List ℕ) → drop at bytes ≡ take n (drop at bytes) ++ drop (at + n) bytes
part_then_left at n bytes = rw (← drop-drop) (sym (take-append-drop n (drop at bytes)))

-- A source that keeps its pieces as spans gives the piece of a span.
pub gives_span : {S : Type 0} (piece_of : S → List ℕ) (old new : Option (List S)) (span : S) (piece left rest : List ℕ)
    → piece_of span ≡ piece → left ≡ piece ++ rest → Gains old new (span ∷ [])
    → GivesPiece (option_map (λ given. record { left = left; given = given }) (option_map (map piece_of) old))
    (option_map (λ given. record { left = rest; given = given }) (option_map (map piece_of) new)) piece
gives_span piece_of old None span piece left rest is begins gains = tt
gives_span piece_of None (Some n) span piece left rest is begins gains = absurd gains
gives_span piece_of (Some o) (Some n) span piece left rest is begins gains =
    let given : map piece_of n ≡ map piece_of o ++ piece ∷ [] = ap (map piece_of) gains
    ∙ map-append piece_of o (span ∷ []) ∙ ap (λ p. map piece_of o ++ p ∷ []) is in
    (begins, given)

-- ---- How the writes of a sink go on.

-- the bytes of writes and of more behind them
pub bytes_more : (writes more : List Write) → bytes_of (writes ++ more) ≡ bytes_of writes ++ bytes_of more
bytes_more writes more = flat_map-append (λ (w : Write). part_taken w.answer w.piece) writes more

-- a write that took something didn't fail
pub took_well : (k : ℕ) → Took k ≢ Failed
took_well k = λ e. cc

-- one write more
pub writes_more : (o m n : Option (List Write)) (bytes rest : List ℕ) (k : ℕ) → GainsBytes o m bytes
    → Gains m n (record { piece = rest; answer = Took k } ∷ [])
    → GainsBytes o n (bytes ++ take k rest)
writes_more o m n bytes rest k g gains =
    let w : Write = record { piece = rest; answer = Took k } in
    let one = All-cons (λ (v : Write). v.answer ≢ Failed) w [] (took_well k)
    (All-nil (λ (v : Write). v.answer ≢ Failed)) in
    record {
      writes = g.writes ++ w ∷ [];
      told = gains_more o m n g.writes (w ∷ []) g.told gains;
      well = All-append (λ (v : Write). v.answer ≢ Failed) g.writes (w ∷ []) g.well one;
      all = ap (λ bs. bs ++ take k rest) g.all ∙ ap (λ bs. bytes_of g.writes ++ bs) (sym (append-nil (take k rest)))
          ∙ sym (bytes_more g.writes (w ∷ []));
    }
