-- The records of a journal: what is found in a file, and that it is one list of lines.
use Rattle.std.proofs.Common.{◌≡◌, ℕ, suc, ◌+◌, ◌-◌, ◌<◌, ◌≤◌, inl, inr, List, [], ◌∷◌, ◌++◌, length, take, drop}
use Rattle.std.proofs.Common.{get_or, replicate, sym, ap, ap₂, ◌∙◌, arith, append_assoc, append-nil, length-append}
use Rattle.std.proofs.Common.{length-take, length-drop, ◌≢◌, ◌*◌, ◌/◌, ◌%◌, refl, subst, zero}
use Rattle.std.specs.List.{flat_map, AllByRecursion}
use Rattle.std.proofs.Math.Seq.{take-append_seam, drop-append-add, drop-cons, drop-drop, drop-append_seam, take-suc}
use Rattle.std.proofs.lemmas.List.{ext_get_or, take-append-drop, drop-append-le, get_or-take, get_or-drop}
use Rattle.std.proofs.lemmas.List.{append_cancel_left, drop_more}
use Rattle.std.proofs.lemmas.Grind.{flat_map-append}
use Rattle.std.proofs.Math.Nat.{div-add-mod}
use Rattle.std.specs.Prelude.{Some, None, slice_get}
use Rattle.std.proofs.lemmas.Option.{slice_get_within, get_or_from_slice_get}
use Rattle.djq_disk.specs.File.{KeepsOutside, piece_put, File}
use Rattle.djq_disk.proofs.Files.{all_append}
use Rattle.djq_journal.specs.declared.line.Line.TheVariants.{Got, End, BadLog as BadLine, Failed as Unread}
use Rattle.djq_journal.specs.Format.{header, body_of, record_of, front, IsJournalLine, FileOpensTo, IsEnd, IsBad}
use Rattle.djq_journal.specs.Format.{OneOfThree, IsRecord}
use Rattle.djq_journal.specs.Staging.{behind_gate, gate_before, StagesLines}
use Rattle.djq_journal.specs.Standing.{IsAtGate, IsIdle}
use Rattle.djq_journal.specs.Calls.{ReadsExactly}
use Rattle.djq_journal.specs.Appending.{gate_after}

-- ---- Lists of bytes that begin alike, and the records of lines.

-- lists that agree in their first places begin alike
pub same_start : (n : ℕ) (a b : List ℕ) → n ≤ length a → n ≤ length b → ((i : ℕ) → i < n → get_or a i 0 ≡ get_or b i 0)
    → take n a ≡ take n b
same_start n a b in_a in_b same =
    ext_get_or 0 (take n a) (take n b) (omega (arith, length-take n a, length-take n b))
    (λ i within. let low : i < n = omega (arith, length-take n a) in get_or-take n a i 0 low ∙ same i low
    ∙ sym (get_or-take n b i 0 low))

-- A piece that is put behind the bytes before it.
pub put_there : (xs piece rest : List ℕ)
    → piece_put (length xs) piece (xs ++ rest) ≡ xs ++ piece ++ drop (length piece) rest
put_there xs piece rest =
    let none : length xs - length (xs ++ rest) ≡ 0 = omega (arith, length-append xs rest) in
    let before : take (length xs) (xs ++ rest) ++ replicate (length xs - length (xs ++ rest)) 0 ≡ xs =
    ap₂ (λ (ys : List ℕ) (k : ℕ). ys ++ replicate k 0) (take-append_seam xs rest) none ∙ append-nil xs in
    ap₂ (λ (ys zs : List ℕ). ys ++ piece ++ zs) before (drop-append-add xs rest (length piece))

-- one byte in place of another
pub put_one : (xs : List ℕ) (old new : ℕ) (ys : List ℕ)
    → piece_put (length xs) (new ∷ []) (xs ++ old ∷ ys) ≡ xs ++ new ∷ ys
put_one xs old new ys = put_there xs (new ∷ []) (old ∷ ys) ∙ append_assoc xs (new ∷ []) ys

-- What is kept around one byte: what stands before it, and behind it all that stood there.
pub kept_around : (at : ℕ) (old new : List ℕ) → at < length old → KeepsOutside (record { at = at; size = 1 }) old new
    → new ≡ take at old ++ (get_or new at 0 ∷ (drop (suc at) old ++ drop (length old) new))
kept_around at old new within keeps =
    sym (take-append-drop at new)
    ∙ ap₂ (λ (xs ys : List ℕ). xs ++ ys) before
    (drop-cons new at 0 (omega (arith, keeps.longer)) ∙ ap (λ (ys : List ℕ). get_or new at 0 ∷ ys) behind)
  where
    k : ℕ
    k = length old - suc at

    whole : suc at + k ≡ length old
    whole = omega arith

    before : take at new ≡ take at old
    before = same_start at new old (omega (arith, keeps.longer)) (omega arith)
        (λ i low. keeps.same i (omega arith) (inl low))

    size : length (drop (suc at) old) ≡ k
    size = length-drop (suc at) old

    size_new : length (take k (drop (suc at) new)) ≡ k
    size_new = omega (arith, length-take k (drop (suc at) new), length-drop (suc at) new, keeps.longer)

    there : take k (drop (suc at) new) ≡ drop (suc at) old
    there = ext_get_or 0 (take k (drop (suc at) new)) (drop (suc at) old) (size_new ∙ sym size)
        (λ i low. let in_k : i < k = omega (arith, size_new) in
        get_or-take k (drop (suc at) new) i 0 in_k ∙ get_or-drop (suc at) new i 0
        ∙ keeps.same (suc at + i) (omega (arith, whole)) (inr (omega arith)) ∙ sym (get_or-drop (suc at) old i 0))

    behind : drop (suc at) new ≡ drop (suc at) old ++ drop (length old) new
    behind = sym (take-append-drop k (drop (suc at) new))
        ∙ ap₂ (λ (xs ys : List ℕ). xs ++ ys) there
        (drop-drop k (suc at) new ∙ ap (λ n. drop n new) (omega (arith, whole)))

-- the file up to the gate behind some lines and others
pub front_more : (lines group : List (List ℕ)) → front (lines ++ group) ≡ front lines ++ flat_map record_of group
front_more lines group = ap (λ (xs : List ℕ). header ++ xs) (flat_map-append record_of lines group)

-- what stands behind a gate, with one line more
pub behind_more : (part : List (List ℕ)) (line : List ℕ) (next : ℕ) → behind_gate (part ++ line ∷ []) next
    ≡ behind_gate part 1 ++ (body_of line ++ next ∷ [])
behind_more part line next =
    let F = flat_map record_of part in
    let rest : List ℕ = body_of line ++ next ∷ [] in
    let one : flat_map record_of (part ++ line ∷ []) ≡ F ++ record_of line = flat_map-append record_of part (line ∷ [])
    ∙ ap (λ (xs : List ℕ). F ++ xs) (append-nil (record_of line)) in
    let two : (F ++ record_of line) ++ next ∷ [] ≡ (F ++ 1 ∷ []) ++ rest = append_assoc F (record_of line) (next ∷ [])
    ∙ sym (append_assoc F (1 ∷ []) rest) in
    ap (λ (xs : List ℕ). drop 1 xs) (ap (λ (xs : List ℕ). xs ++ next ∷ []) one ∙ two)
    ∙ drop-append-le 1 (F ++ 1 ∷ []) rest (omega (arith, length-append F (1 ∷ [])))

-- how much stands behind a gate
pub length_behind : (part : List (List ℕ)) (next : ℕ) → length (behind_gate part next)
    ≡ length (flat_map record_of part)
length_behind part next = length-drop 1 (flat_map record_of part ++ next ∷ [])
    ∙ omega (arith, length-append (flat_map record_of part) (next ∷ []))

-- behind an open gate these are the records
pub opened_gate : (group : List (List ℕ)) (rest : List ℕ) → 1 ≤ length group → 1 ∷ behind_gate group 0 ++ rest
    ≡ flat_map record_of group ++ 0 ∷ rest
opened_gate [] rest some = let wrong : ⊥ = omega arith in absurd wrong
opened_gate (line ∷ lines) rest some = append_assoc (flat_map record_of (line ∷ lines)) (0 ∷ []) rest

-- ---- A file opens to one list of lines, and a place is one thing.

head_same : (a b : ℕ) (xs ys : List ℕ) → a ∷ xs ≡ b ∷ ys → a ≡ b
head_same a b xs ys e = ap (λ (zs : List ℕ). get_or zs 0 0) e

tail_same : (a b : ℕ) (xs ys : List ℕ) → a ∷ xs ≡ b ∷ ys → xs ≡ ys
tail_same a b xs ys e = ap (λ (zs : List ℕ). drop 1 zs) e

-- a number by its two parts
by_parts : (a b : ℕ) → a / 256 ≡ b / 256 → a % 256 ≡ b % 256 → a ≡ b
by_parts a b high low = sym (div-add-mod a 256) ∙ ap₂ (λ (x y : ℕ). 256 * x + y) high low ∙ div-add-mod b 256

-- lists of one length that begin alike
pieces_same : (a b xs ys : List ℕ) → length a ≡ length b → a ++ xs ≡ b ++ ys → a ≡ b
pieces_same a b xs ys size e = sym (take-append_seam a xs) ∙ ap₂ (λ (n : ℕ) (zs : List ℕ). take n zs) size e
    ∙ take-append_seam b ys

-- two records that stand at one place are one
bodies_same : (a b xs ys : List ℕ) → body_of a ++ xs ≡ body_of b ++ ys → a ≡ b
bodies_same a b xs ys e =
    let low = tail_same (length a / 256) (length b / 256) (length a % 256 ∷ (a ++ xs)) (length b % 256 ∷ (b ++ ys)) e in
    pieces_same a b xs ys
    (by_parts (length a) (length b)
    (head_same (length a / 256) (length b / 256) (length a % 256 ∷ (a ++ xs)) (length b % 256 ∷ (b ++ ys)) e)
    (head_same (length a % 256) (length b % 256) (a ++ xs) (b ++ ys) low))
    (tail_same (length a % 256) (length b % 256) (a ++ xs) (b ++ ys) low)

records_once : (lines others : List (List ℕ)) (gate gate' : ℕ) (rest rest' : List ℕ) → gate ≢ 1 → gate' ≢ 1
    → flat_map record_of lines ++ gate ∷ rest ≡ flat_map record_of others ++ gate' ∷ rest' → lines ≡ others
records_once [] [] gate gate' rest rest' shut shut' e = refl
records_once [] (o ∷ os) gate gate' rest rest' shut shut' e = absurd
    (shut (head_same gate 1 rest (body_of o ++ flat_map record_of os ++ gate' ∷ rest') e))
records_once (l ∷ ls) [] gate gate' rest rest' shut shut' e = absurd
    (shut' (sym (head_same 1 gate' (body_of l ++ flat_map record_of ls ++ gate ∷ rest) rest' e)))
records_once (l ∷ ls) (o ∷ os) gate gate' rest rest' shut shut' e = ap₂ (λ (x : List ℕ) (xs : List (List ℕ)). x ∷ xs)
    first (records_once ls os gate gate' rest rest' shut shut' later)
  where
    more : List ℕ
    more = flat_map record_of ls ++ gate ∷ rest

    more' : List ℕ
    more' = flat_map record_of os ++ gate' ∷ rest'

    flat : record_of l ++ more ≡ record_of o ++ more'
    flat = sym (append_assoc (record_of l) (flat_map record_of ls) (gate ∷ rest)) ∙ e
        ∙ append_assoc (record_of o) (flat_map record_of os) (gate' ∷ rest')

    first : l ≡ o
    first = bodies_same l o more more' (tail_same 1 1 (body_of l ++ more) (body_of o ++ more') flat)

    later : more ≡ more'
    later = append_cancel_left (record_of l) more more' (flat ∙ ap (λ (x : List ℕ). record_of x ++ more') (sym first))

pub opens_once : (lines others : List (List ℕ)) (file : List ℕ) → FileOpensTo lines file
    → FileOpensTo others file → lines
    ≡ others
opens_once lines others file a b =
    records_once lines others a.gate b.gate a.behind b.behind a.shut b.shut
    (ap (λ (xs : List ℕ). drop 8 xs) (sym a.is ∙ b.is))

not_both : (rest : List ℕ) → IsBad rest → IsEnd rest → ⊥
not_both [] bad end = end
not_both (gate ∷ []) bad end = end bad
not_both (gate ∷ high ∷ []) bad end = end bad
not_both (gate ∷ high ∷ low ∷ rest) bad end = end bad.0

not_bad : (line behind : List ℕ) → IsJournalLine line → IsBad (record_of line ++ behind) → ⊥
not_bad line behind is bad =
    let n = length line in
    let whole : 256 * (n / 256) + n % 256 ≡ n = div-add-mod n 256 in
    elim bad.1 [
      | inl short ↦ omega (arith, whole, is.0)
      | inr (inl long) ↦ omega (arith, whole, is.1)
      | inr (inr ends) ↦ omega (arith, whole, length-append line behind)
    ]

not_end : (line behind : List ℕ) → IsEnd (record_of line ++ behind) → ⊥
not_end line behind end = end refl

pub one_of_three : (rest : List ℕ) → OneOfThree rest
one_of_three rest = record {
  no_end = not_both rest;
  no_record = λ line bad r. not_bad line r.behind r.is_line (subst IsBad r.is bad);
  no_line = λ line end r. not_end line r.behind (subst IsEnd r.is end);
}

-- ---- Each answer comes exactly where its cause holds.

last_of : (lines : List (List ℕ)) (line : List ℕ) → AllByRecursion IsJournalLine (lines ++ line ∷ [])
    → IsJournalLine line
last_of [] line all = all.0
last_of (l ∷ ls) line all = last_of ls line all.1

-- behind a line that was read its record stands
record_there : (lines : List (List ℕ)) (line : List ℕ) (gate gate' : ℕ) (file : File) → IsAtGate lines gate file
    → IsAtGate (lines ++ line ∷ []) gate' file
    → IsRecord line (drop gate file.bytes)
record_there lines line gate gate' file at behind = record {
  is_line = last_of lines line behind.are_lines;
  behind = behind.rest;
  is = ap₂ (λ (n : ℕ) (xs : List ℕ). drop n xs) at.place whole
      ∙ drop-append_seam (front lines) (record_of line ++ behind.rest);
}
  where
    whole : file.bytes ≡ front lines ++ (record_of line ++ behind.rest)
    whole = behind.is ∙ ap (λ (xs : List ℕ). xs ++ behind.rest)
        (front_more lines (line ∷ []) ∙ ap (λ (xs : List ℕ). front lines ++ xs) (append-nil (record_of line)))
        ∙ append_assoc (front lines) (record_of line) behind.rest

-- at the gate that ends the lines the list ends
end_there : (lines : List (List ℕ)) (gate : ℕ) (file : File) → IsIdle lines gate file → IsEnd (drop gate file.bytes)
end_there lines gate file idle =
    let there : drop gate file.bytes ≡ idle.opens.gate ∷ idle.opens.behind =
    ap₂ (λ (n : ℕ) (xs : List ℕ). drop n xs) idle.place idle.opens.is
    ∙ drop-append_seam (front lines) (idle.opens.gate ∷ idle.opens.behind) in
    subst IsEnd (sym there) idle.opens.shut

pub reads_exactly : ReadsExactly
reads_exactly (Got n) lines gate gate' buf file at reads failed =
    let there = record_there lines (take n buf) gate gate' file at reads in
    let three = one_of_three (drop gate file.bytes) in (
      ((λ wrong. cc), (λ end. absurd (three.no_line (take n buf) end there))),
      ((λ wrong. cc), (λ bad. absurd (three.no_record (take n buf) bad there))),
    )
reads_exactly End lines gate gate' buf file at reads failed =
    let end = end_there lines gate file reads.0 in
    (((λ _. end), (λ _. refl)), ((λ wrong. cc), (λ bad. absurd ((one_of_three (drop gate file.bytes)).no_end bad end))))
reads_exactly (BadLine place) lines gate gate' buf file at reads failed = (
  ((λ wrong. cc), (λ end. absurd ((one_of_three (drop gate file.bytes)).no_end reads.1 end))),
  ((λ _. reads.1), (λ _. ap BadLine reads.0)),
)
reads_exactly Unread lines gate gate' buf file at reads failed = absurd (failed refl)

-- ---- The next line of a journal.

-- behind a head the line is read
pub line_read : (lines : List (List ℕ)) (gate n : ℕ) (got : List ℕ) (file : File) → IsAtGate lines gate file
    → drop gate file.bytes ≡ 1 ∷ n / 256 ∷ n % 256 ∷ drop 3 (drop gate file.bytes) → 1 ≤ n → n ≤ 4096 → length got ≡ n
    → got ≡ take (length got) (drop (gate + 3) file.bytes) → IsAtGate (lines ++ got ∷ []) (gate + (3 + n)) file
line_read lines gate n got file at head some short size is = record {
  are_lines = all_append IsJournalLine lines (got ∷ []) at.are_lines ((omega arith, omega arith), tt);
  rest = later;
  is = at.is ∙ ap (λ (xs : List ℕ). front lines ++ xs) (sym there ∙ record_there)
      ∙ sym (append_assoc (front lines) (record_of got) later)
      ∙ ap (λ (xs : List ℕ). xs ++ later) (sym all_of);
  place = omega (arith, at.place, ap length all_of, length-append (front lines) (record_of got));
  still = at.still;
}
  where
    tail : List ℕ
    tail = drop 3 (drop gate file.bytes)

    later : List ℕ
    later = drop n tail

    there : drop gate file.bytes ≡ at.rest
    there = ap₂ (λ (k : ℕ) (xs : List ℕ). drop k xs) at.place at.is ∙ drop-append_seam (front lines) at.rest

    tail_is : drop (gate + 3) file.bytes ≡ tail
    tail_is = ap (λ k. drop k file.bytes) (omega arith) ∙ sym (drop-drop 3 gate file.bytes)

    got_is : got ≡ take n tail
    got_is = is ∙ ap₂ (λ (k : ℕ) (xs : List ℕ). take k xs) size tail_is

    tail_cut : tail ≡ got ++ later
    tail_cut = sym (take-append-drop n tail) ∙ ap (λ (xs : List ℕ). xs ++ later) (sym got_is)

    record_there : drop gate file.bytes ≡ record_of got ++ later
    record_there = head ∙ ap₂ (λ (k : ℕ) (xs : List ℕ). 1 ∷ k / 256 ∷ k % 256 ∷ xs) (sym size) tail_cut

    all_of : front (lines ++ got ∷ []) ≡ front lines ++ record_of got
    all_of = front_more lines (got ∷ []) ∙ ap (λ (xs : List ℕ). front lines ++ xs) (append-nil (record_of got))

-- ---- The lines of a group, one after another, and where they are put.

-- a line of the group is one
pub line_at : (lines : List (List ℕ)) (i : ℕ) (line : List ℕ) → AllByRecursion IsJournalLine lines → Some line
    ≡ slice_get lines i → IsJournalLine line
line_at [] i line all is = cc
line_at (l ∷ ls) zero line all is = subst IsJournalLine (some_same (sym is)) all.0
  where
    some_same : Some l ≡ Some line → l ≡ line
    some_same e = cc
line_at (l ∷ ls) (suc i) line all is = line_at ls i line all.1 is

-- the lines up to it and from it on
pub taken_line : (lines : List (List ℕ)) (i : ℕ) (line : List ℕ) → Some line ≡ slice_get lines i → take (i + 1) lines
    ≡ take i lines ++ line ∷ []
taken_line lines i line is =
    let e : i + 1 ≡ suc i = omega arith in
    ap (λ n. take n lines) e ∙ take-suc lines i line (slice_get_within lines i line (sym is))
    ∙ ap (λ x. take i lines ++ x ∷ []) (get_or_from_slice_get lines i line line (sym is))

pub open_before : (lines : List (List ℕ)) (i : ℕ) (line : List ℕ) → Some line ≡ slice_get lines i
    → gate_before (drop i lines) ≡ 1
open_before lines i line is = ap gate_before (drop_more lines i line (slice_get_within lines i line (sym is)))

-- where the number is past the lines
pub past_lines : (lines : List (List ℕ)) (i : ℕ) → None ≡ slice_get lines i → (take i lines ≡ lines)
    × (gate_before (drop i lines) ≡ 0)
past_lines [] zero is = (refl, refl)
past_lines [] (suc i) is = (refl, refl)
past_lines (l ∷ ls) zero is = cc
past_lines (l ∷ ls) (suc i) is = (ap (λ xs. l ∷ xs) (past_lines ls i is).0, (past_lines ls i is).1)

-- the place behind one line more
pub gate_next : (gate : ℕ) (lines : List (List ℕ)) (i : ℕ) (line : List ℕ) → Some line ≡ slice_get lines i
    → gate_after gate (take (i + 1) lines) ≡ gate_after gate (take i lines) + (3 + length line)
gate_next gate lines i line is =
    let F = flat_map record_of (take i lines) in
    let one : flat_map record_of (take (i + 1) lines) ≡ F ++ record_of line =
    ap (λ xs. flat_map record_of xs) (taken_line lines i line is) ∙ flat_map-append record_of (take i lines) (line ∷ [])
    ∙ ap (λ (xs : List ℕ). F ++ xs) (append-nil (record_of line)) in
    omega (arith, ap length one, length-append F (record_of line))

-- the first lines end no further than all
pub gate_most : (gate : ℕ) (lines : List (List ℕ)) (i : ℕ) → gate_after gate (take i lines) ≤ gate_after gate lines
gate_most gate lines i =
    let all : flat_map record_of lines ≡ flat_map record_of (take i lines) ++ flat_map record_of (drop i lines) =
    ap (λ xs. flat_map record_of xs) (sym (take-append-drop i lines))
    ∙ flat_map-append record_of (take i lines) (drop i lines) in
    omega (arith, ap length all, length-append (flat_map record_of (take i lines)) (flat_map record_of (drop i lines)))

-- each line takes a place at least
pub few_lines : (gate : ℕ) (lines : List (List ℕ)) → length lines ≤ gate_after gate lines
few_lines gate [] = omega arith
few_lines gate (line ∷ lines) = omega
    (arith, few_lines gate lines, length-append (record_of line) (flat_map record_of lines))

-- the first bytes of a buffer end no further than it does
pub piece_within : (n at most : ℕ) (buf : List ℕ) → at + length buf ≤ most → at + length (take n buf) ≤ most
piece_within n at most buf within = omega (arith, length-take n buf)

-- nothing is laid out yet
pub gathers_none : (group : List (List ℕ)) (gate at : ℕ) → at ≡ suc gate → StagesLines group 0 gate at [] []
gathers_none group gate at is = record { place = omega (arith, is); are = refl }

-- what is written ends no further than all will
pub gathers_end : (group : List (List ℕ)) (i gate at : ℕ) (written gathered : List ℕ)
    → StagesLines group i gate at written gathered
    → at ≤ suc (gate_after gate group)
gathers_end group i gate at written gathered g =
    omega (
      arith,
      g.place,
      ap length g.are,
      length-append written gathered,
      length_behind (take i group)
          (gate_before (drop i group)),
      gate_most gate group i,
    )

-- What is gathered is written.
pub gathers_written : (group : List (List ℕ)) (i gate at at' filled filled' : ℕ) (written buf : List ℕ) → at'
    ≡ at + filled → filled' ≡ 0 → filled ≤ length buf
    → StagesLines group i gate at written (take filled buf)
    → StagesLines group i gate at' (written ++ take filled buf) (take filled' buf)
gathers_written group i gate at at' filled filled' written buf place none within g =
    let all = written ++ take filled buf in
    record {
      place = omega (arith, place, within, g.place, length-append written (take filled buf), length-take filled buf);
      are = g.are ∙ sym (append-nil all) ∙ ap (λ n. all ++ take n buf) (sym none);
    }

-- Nothing of it is.
pub gathers_still : (group : List (List ℕ)) (i gate at at' filled filled' : ℕ) (written buf : List ℕ) → at' ≡ at
    → filled' ≡ filled
    → StagesLines group i gate at written (take filled buf) → StagesLines group i gate at' written (take filled' buf)
gathers_still group i gate at at' filled filled' written buf place same g =
    record { place = place ∙ g.place; are = g.are ∙ ap (λ n. written ++ take n buf) (sym same) }

-- The line with this number is gathered behind those before it.
pub gathers_line : (group : List (List ℕ)) (i : ℕ) (line : List ℕ) (next gate at : ℕ) (written gathered : List ℕ)
    → Some line ≡ slice_get group i → next ≡ gate_before (drop (i + 1) group)
    → StagesLines group i gate at written gathered
    → StagesLines group (i + 1) gate at written (gathered ++ (body_of line ++ next ∷ []))
gathers_line group i line next gate at written gathered is is_next g =
    let piece : List ℕ = body_of line ++ next ∷ [] in
    let so_far : behind_gate (take i group) 1 ≡ written ++ gathered =
    ap (λ n. behind_gate (take i group) n) (sym (open_before group i line is)) ∙ g.are in
    record {
      place = g.place;
      are = ap₂ (λ (part : List (List ℕ)) (n : ℕ). behind_gate part n) (taken_line group i line is) (sym is_next)
          ∙ behind_more (take i group) line next ∙ ap (λ (xs : List ℕ). xs ++ piece) so_far
          ∙ append_assoc written gathered piece;
    }

-- Behind the last line the whole of the group is laid out.
pub gathers_all : (group : List (List ℕ)) (i gate at : ℕ) (written gathered : List ℕ) → None ≡ slice_get group i
    → StagesLines group i gate at written gathered → behind_gate group 0 ≡ written ++ gathered
gathers_all group i gate at written gathered past g =
    let all = past_lines group i past in
    sym (ap₂ (λ (part : List (List ℕ)) (n : ℕ). behind_gate part n) all.0 all.1) ∙ g.are
