-- Lines with a row: their first byte, their cells, and where they end.
use Rattle.std.proofs.Common.{◌≡◌, ◌||◌, ℕ, false, [], ◌∷◌, Option, None, Some, is_some, refl, ap, ◌∙◌, codes, eqb}
use Rattle.std.proofs.Common.{zero, suc, ◌+◌, ◌<◌, ◌≤◌, true, ◌&&◌, not, ◌++◌, length, get_or, take, drop, min, sym}
use Rattle.std.proofs.Common.{subst, arith, leb, ◌⊎◌, inl, inr, length-append, add-one, pos, Bool, List, All, cond}
use Rattle.std.proofs.Common.{option_map, Result, Ok, Err, append_assoc}
use Rattle.std.proofs.lemmas.Bool.{both_ways, cond-false, cond_both, eq-eqb, false_from_ne_true, or_parts, ne_eqb}
use Rattle.std.proofs.lemmas.Bool.{cases_lt, le-leb, leb-false, or_left, cond-true, and_from, and_parts, cases_Bool}
use Rattle.std.proofs.lemmas.Bool.{eqb-true, leb-true, or_from}
use Rattle.std.proofs.lemmas.List.{length-take, take_all, drop_all, append-nil}
use Rattle.std.specs.List.{list_all}
use Rattle.std.specs.Str.{is_utf8}
use Rattle.std.proofs.lemmas.List.Elements.{All-nil, All-cons, All-head, All-tail}
use Rattle.std.proofs.lemmas.List.Folds.{list_all-append}
use Rattle.std.proofs.lemmas.Str.{IsUtf8-from_ascii, is_utf8-from_IsUtf8}
use Rattle.std.proofs.lemmas.Str.Ascii.{IsAscii-from_all}
use Rattle.std.proofs.Math.Seq.{take-append_seam}
use Rattle.std.specs.Borrow.{Bor}
use Rattle.djq_model.specs.declared.value.Value.{Value}
use Rattle.djq_model.specs.declared.value.Value.TheVariants.{Int, Text}
use Rattle.djq_model.specs.Data.{Bytes, bytes_eq, Tuple}
use Rattle.djq_model.specs.Equality.{bytes_eq-decides}
use Rattle.djq_value.specs.Token.{Token, text, stray, and_then, greater_front, less_front, may_end, not_front}
use Rattle.djq_value.specs.Token.{text_front, text_in, token_front, tokens, word_front, word, open_paren, close_paren}
use Rattle.djq_value.specs.Token.{comma, arrow, operator}
use Rattle.djq_value.specs.Literal.{integer_of, is_digit, is_lower, is_name, literal_of, minus, natural_of}
use Rattle.djq_value.specs.Literal.{is_small_value}
use Rattle.djq_value.specs.Spelling.{HasNoStray, IsSpaces, IsSpelling}
use Rattle.djq_value.proofs.Tokens.{tokens-none, tokens-step, tokens_spelled}
use Rattle.djq_value.proofs.Literals.{natural_digits, name_token, tokens-blank, word_before, map_some}
use Rattle.djq_protocol.specs.declared.keyword.Keyword.{Keyword}
use Rattle.djq_protocol.specs.declared.command.Command.{Command}
use Rattle.djq_protocol.specs.declared.command.Command.TheVariants.{Add as AddRow, Del as DeleteRow}
use Rattle.djq_protocol.specs.Grammar.{keyword_of, all_of, in_front, command_in, command_of, is_in_range, named_some}
use Rattle.djq_protocol.specs.Grammar.{takes_memory_to_read}
use Rattle.djq_protocol.specs.Line.{before_lf, behind_lf, without_cr, is_long, front_of, line_or_dry, dry, too_long}
use Rattle.djq_protocol.specs.Line.{a_line}
use Rattle.djq_parser.specs.declared.row.RowWord.{RowWord}
use Rattle.djq_parser.specs.declared.row.RowWord.TheVariants.{Add, Del}
use Rattle.djq_parser.specs.declared.refusal.LineRefusal.{LineRefusal}
use Rattle.djq_parser.specs.declared.refusal.LineRefusal.TheVariants.{Syntax, Range, NoMem}
use Rattle.djq_parser.specs.RowReading.{begins_row, may_begin, row_word_in, row_word_of, TakesRowWord, is_integer_value}
use Rattle.djq_parser.specs.RowReading.{IsRefused, ReadsNumbers, named_in, named_read, named_with, values_read}
use Rattle.djq_parser.specs.Splitting.{IsFirstLf, HasNoLineEnd}
use Rattle.djq_parser.specs.Reading.{GivesCommand, LineReadsAs, ReadsAs, onto}
use Rattle.djq_parser.proofs.ItemLists.{all_last, onto-twice, onto_done, same_err}

-- ---- By its first byte, a line may begin with no row's keyword.

-- a word of another first byte
other_first : (b c : ℕ) (bs cs : Bytes) → eqb b c ≡ false → bytes_eq (b ∷ bs) (c ∷ cs) ≡ false
other_first b c bs cs e = false_from_ne_true (bytes_eq (b ∷ bs) (c ∷ cs))
    (λ same. apart ((bytes_eq-decides (b ∷ bs) (c ∷ cs)).0 same))
  where
    apart : b ∷ bs ≡ c ∷ cs → ⊥
    apart f = let first : b ≡ c = cc in both_ways (eqb b c) e (eq-eqb b c first)

-- no keyword of a row
abbrev IsNoRow : Option Keyword → Type 0
IsNoRow o = is_some (row_word_of o) ≡ false

-- a word that is or_parts keyword of a row
other_word : (w : Bytes) → bytes_eq w (codes "add") ≡ false → bytes_eq w (codes "del") ≡ false → IsNoRow (keyword_of w)
other_word w add del =
    cond_both (bytes_eq w (codes "rel")) _ _ IsNoRow (λ _. refl) (λ _.
    cond_both (bytes_eq w (codes "add")) _ _ IsNoRow (λ is. absurd (cc (is, add))) (λ _.
    cond_both (bytes_eq w (codes "del")) _ _ IsNoRow (λ is. absurd (cc (is, del))) (λ _.
    cond_both (bytes_eq w (codes "query")) _ _ IsNoRow (λ _. refl) (λ _.
    cond_both (bytes_eq w (codes "union")) _ _ IsNoRow (λ _. refl) (λ _.
    cond_both (bytes_eq w (codes "drop")) _ _ IsNoRow (λ _. refl) (λ _.
    cond_both (bytes_eq w (codes "open")) _ _ IsNoRow (λ _. refl) (λ _.
    cond_both (bytes_eq w (codes "next")) _ _ IsNoRow (λ _. refl) (λ _.
    cond_both (bytes_eq w (codes "close")) _ _ IsNoRow (λ _. refl) (λ _.
    cond_both (bytes_eq w (codes "has")) _ _ IsNoRow (λ _. refl) (λ _.
    cond_both (bytes_eq w (codes "watch")) _ _ IsNoRow (λ _. refl) (λ _.
    cond_both (bytes_eq w (codes "unwatch")) _ _ IsNoRow (λ _. refl) (λ _.
    cond_both (bytes_eq w (codes "explain")) _ _ IsNoRow (λ _. refl) (λ _.
    cond_both (bytes_eq w (codes "shape")) _ _ IsNoRow (λ _. refl) (λ _.
    cond_both (bytes_eq w (codes "batch")) _ _ IsNoRow (λ _. refl) (λ _.
    cond_both (bytes_eq w (codes "done")) _ _ IsNoRow (λ _. refl) (λ _.
    cond_both (bytes_eq w (codes "abandon")) _ _ IsNoRow (λ _. refl) (λ _.
    cond_both (bytes_eq w (codes "quit")) _ _ IsNoRow (λ _. refl) (λ _.
    cond_both (bytes_eq w (codes "stop")) _ _ IsNoRow (λ _. refl) (λ _. refl)))))))))))))))))))

-- tokens of which the first is no row's keyword
abbrev pub IsOther : Token × Bytes → Type 0
IsOther t = begins_row (t.0 ∷ tokens t.1) ≡ false

less_other : (bs : Bytes) → IsOther (less_front bs)
less_other [] = refl
less_other (b ∷ bs) = cond_both (eqb b 45) _ _ IsOther (λ _. refl)
    (λ _. cond_both (eqb b 61) _ _ IsOther (λ _. refl) (λ _. refl))

greater_other : (bs : Bytes) → IsOther (greater_front bs)
greater_other [] = refl
greater_other (b ∷ bs) = cond_both (eqb b 61) _ _ IsOther (λ _. refl) (λ _. refl)

not_other : (bs : Bytes) → IsOther (not_front bs)
not_other [] = refl
not_other (b ∷ bs) = cond_both (eqb b 61) _ _ IsOther (λ _. refl) (λ _. refl)

text_other : (o : Option (Bytes × Bytes)) → IsOther (text_front o)
text_other None = refl
text_other (Some r) = cond_both (may_end r.1) (text r.0, r.1) (stray, r.1) IsOther (λ _. refl) (λ _. refl)

front_other : (b : ℕ) (bs : Bytes) → eqb b 97 ≡ false → eqb b 100 ≡ false
    → begins_row (and_then tokens (token_front (b ∷ bs))) ≡ false
front_other b bs a d =
    cond_both (eqb b 40) _ _ IsOther (λ _. refl) (λ _.
    cond_both (eqb b 41) _ _ IsOther (λ _. refl) (λ _.
    cond_both (eqb b 44) _ _ IsOther (λ _. refl) (λ _.
    cond_both (eqb b 60) _ _ IsOther (λ _. less_other bs) (λ _.
    cond_both (eqb b 61) _ _ IsOther (λ _. refl) (λ _.
    cond_both (eqb b 62) _ _ IsOther (λ _. greater_other bs) (λ _.
    cond_both (eqb b 33) _ _ IsOther (λ _. not_other bs) (λ _.
    cond_both (eqb b 34) _ _ IsOther (λ _. text_other (text_in false bs)) (λ _.
    other_word (b ∷ word_front bs) (other_first b 97 (word_front bs) (100 ∷ 100 ∷ []) a)
    (other_first b 100 (word_front bs) (101 ∷ 108 ∷ []) d)))))))))

begins_other : (line : Bytes) → may_begin line ≡ false → begins_row (tokens line) ≡ false
begins_other [] e = ap begins_row (tokens-none [] refl)
begins_other (b ∷ bs) e =
    let last = or_parts (eqb b 32 || eqb b 97) (eqb b 100) e in
    let some = or_parts (eqb b 32) (eqb b 97) last.0 in
    ap begins_row (tokens-step (b ∷ bs))
    ∙ ap (λ (cs : Bytes). begins_row (and_then tokens (token_front cs))) (cond-false _ _ _ some.0)
    ∙ front_other b bs some.1 last.1

pub begins_none : (line : Bytes) → may_begin line ≡ false → row_word_in (tokens line) ≡ None
begins_none line e = none (row_word_in (tokens line)) (begins_other line e)
  where
    none : (o : Option RowWord) → is_some o ≡ false → o ≡ None
    none None e = refl
    none (Some verb) e = absurd (cc)

-- ---- Where the first LF of bytes stands, and what is in front of it.

pub before_lf-at : (bytes : Bytes) (at : ℕ) → IsFirstLf bytes at → before_lf bytes ≡ take at bytes
before_lf-at [] at h = absurd (omega (arith, h.within))
before_lf-at (b ∷ bs) zero h = cond-true _ _ _ (eq-eqb b 10 h.lf)
before_lf-at (b ∷ bs) (suc at) h =
    cond-false _ _ _ (ne_eqb b 10 (h.before zero (omega arith)))
    ∙ ap (λ xs. b ∷ xs) (before_lf-at bs at
    (record { within = omega (arith, h.within); lf = h.lf; before = λ k l. h.before (suc k) (omega arith) }))

pub behind_lf-at : (bytes : Bytes) (at : ℕ) → IsFirstLf bytes at → behind_lf bytes ≡ Some (drop (suc at) bytes)
behind_lf-at [] at h = absurd (omega (arith, h.within))
behind_lf-at (b ∷ bs) zero h = cond-true _ _ _ (eq-eqb b 10 h.lf)
behind_lf-at (b ∷ bs) (suc at) h =
    cond-false _ _ _ (ne_eqb b 10 (h.before zero (omega arith)))
    ∙ behind_lf-at bs at (record
    { within = omega (arith, h.within); lf = h.lf; before = λ k l. h.before (suc k) (omega arith) })

-- bytes without LF stand in front of the first LF
pub before_lf-front : (n : ℕ) (bytes : Bytes) → HasNoLineEnd (take n bytes) → before_lf bytes
    ≡ take n bytes ++ before_lf (drop n bytes)
before_lf-front zero bytes h = refl
before_lf-front (suc n) [] h = refl
before_lf-front (suc n) (b ∷ bs) h =
    cond-false _ _ _ (ne_eqb b 10 (h zero (omega arith)))
    ∙ ap (λ xs. b ∷ xs) (before_lf-front n bs (λ k l. h (suc k) (omega arith)))

pub behind_lf-none : (bytes : Bytes) → HasNoLineEnd bytes → behind_lf bytes ≡ None
behind_lf-none [] h = refl
behind_lf-none (b ∷ bs) h =
    cond-false _ _ _ (ne_eqb b 10 (h zero (omega arith))) ∙ behind_lf-none bs (λ k l. h (suc k) (omega arith))

pub front_of-long : (bytes : Bytes) → is_long (before_lf bytes) ≡ true → front_of bytes ≡ too_long
front_of-long bytes h = cond-true _ _ _ h

pub front_of-line : (bytes : Bytes) (at : ℕ) → IsFirstLf bytes at → is_long (take at bytes) ≡ false → (line : Bytes)
    → line ≡ without_cr (take at bytes) → front_of bytes ≡ a_line line (drop (at + 1) bytes)
front_of-line bytes at h short line e =
    let there = before_lf-at bytes at h in
    cond-false _ _ _ (ap is_long there ∙ short)
    ∙ ap (λ o. line_or_dry (without_cr (before_lf bytes)) o) (behind_lf-at bytes at h)
    ∙ ap (λ xs. a_line (without_cr xs) (drop (suc at) bytes)) there
    ∙ ap (λ xs. a_line xs (drop (suc at) bytes)) (sym e)
    ∙ ap (λ n. a_line line (drop n bytes)) (sym (add-one at))

pub front_of-long_at : (bytes : Bytes) (at : ℕ) → IsFirstLf bytes at → is_long (take at bytes) ≡ true → front_of bytes
    ≡ too_long
front_of-long_at bytes at h long = front_of-long bytes (ap is_long (before_lf-at bytes at h) ∙ long)

-- what is seen of the bytes: all of them, or 4,098
pub whole_or_more : (bytes : Bytes)
    → (take (min (length bytes) 4098) bytes ≡ bytes) ⊎ (length (take (min (length bytes) 4098) bytes) ≡ 4098)
whole_or_more bytes = elim (cases_lt (length bytes) 4098) [
  | inl short ↦ inl (take_all _ bytes (omega arith))
  | inr much ↦ inr (length-take (min (length bytes) 4098) bytes ∙ omega arith)
]

all_seen : (bytes : Bytes) → take (min (length bytes) 4098) bytes ≡ bytes → length bytes ≤ min (length bytes) 4098
all_seen bytes whole = omega (arith, ap length whole, length-take (min (length bytes) 4098) bytes)

pub front_of-no_lf_long : (bytes : Bytes) → HasNoLineEnd (take (min (length bytes) 4098) bytes)
    → is_long (take (min (length bytes) 4098) bytes) ≡ true → front_of bytes ≡ too_long
front_of-no_lf_long bytes h long =
    let n = min (length bytes) 4098 in
    let all = before_lf-front n bytes h in
    elim (whole_or_more bytes) [
      | inl whole ↦ front_of-long bytes
          (ap is_long (all ∙ ap (λ xs. take n bytes ++ before_lf xs) (drop_all n bytes (all_seen bytes whole))
          ∙ append-nil (take n bytes)) ∙ long)
      | inr much ↦ front_of-long bytes
          (ap is_long all ∙ or_left _ _
          (le-leb 4098 (length (take n bytes ++ before_lf (drop n bytes)))
          (omega (arith, much, length-append (take n bytes) (before_lf (drop n bytes))))))
    ]

short_front : (bs : Bytes) → is_long bs ≡ false → length bs < 4098
short_front bs short = leb-false 4098 (length bs)
    (or_parts (leb 4098 (length bs)) (leb 4097 (length bs) && not (eqb (get_or bs 4096 0) 13)) short).0

pub front_of-no_lf_dry : (bytes : Bytes) → HasNoLineEnd (take (min (length bytes) 4098) bytes)
    → is_long (take (min (length bytes) 4098) bytes) ≡ false → front_of bytes ≡ dry
front_of-no_lf_dry bytes h short =
    let n = min (length bytes) 4098 in
    elim (whole_or_more bytes) [
      | inl whole ↦
          let none : HasNoLineEnd bytes = subst HasNoLineEnd whole h in
          let all : before_lf bytes ≡ bytes = before_lf-front n bytes h
          ∙ ap (λ xs. take n bytes ++ before_lf xs) (drop_all n bytes (all_seen bytes whole))
          ∙ append-nil (take n bytes) ∙ whole in
          cond-false _ _ _ (ap is_long (all ∙ sym whole) ∙ short)
          ∙ ap (line_or_dry (without_cr (before_lf bytes))) (behind_lf-none bytes none)
      | inr much ↦ absurd (omega (arith, much, short_front (take n bytes) short))
    ]

-- what a search of the first bytes says that found none
pub no_lf_from_search : (held : Bytes) (n : ℕ) → n ≡ min (length held) 4098
    → ((k : ℕ) → 0 ≤ k → k < length (take n held) → (eqb (get_or (take n held) k 0) 10 ≡ true → ⊥))
    → HasNoLineEnd (take (min (length held) 4098) held)
no_lf_from_search held n e h =
    subst (λ (m : ℕ). HasNoLineEnd (take m held)) e
    (λ k l is. h k (omega arith) l (eq-eqb (get_or (take n held) k 0) 10 is))

-- ---- A line with a row of integers has no byte that isn't ASCII.

abbrev is_low : ℕ → Bool
is_low b = leb b 127

low_digit : (d : ℕ) → is_digit d ≡ true → is_low d ≡ true
low_digit d h = le-leb d 127 (omega (arith, leb-true d 57 (and_parts (leb 48 d) (leb d 57) h).1))

low_lower : (b : ℕ) → is_lower b ≡ true → is_low b ≡ true
low_lower b h = le-leb b 127 (omega (arith, leb-true b 122 (and_parts (leb 97 b) (leb b 122) h).1))

low_digits : (ds : Bytes) → list_all is_digit ds ≡ true → list_all is_low ds ≡ true
low_digits [] h = refl
low_digits (d ∷ ds) h =
    let parts = and_parts (is_digit d) (list_all is_digit ds) h in and_from _ _ (low_digit d parts.0)
    (low_digits ds parts.1)

low_integer : (w : Bytes) (i : _) → integer_of w ≡ Some i → list_all is_low w ≡ true
low_integer [] i e = absurd (cc)
low_integer (b ∷ bs) i e = elim (cases_Bool (eqb b 45)) [
  | inl is ↦
      let found = map_some minus (natural_of bs) i (sym (cond-true _ _ _ is) ∙ e) in
      and_from _ _ (ap is_low (eqb-true b 45 is)) (low_digits bs (natural_digits bs found.0 found.1).1)
  | inr other ↦
      let found = map_some (λ n. pos n) (natural_of (b ∷ bs)) i (sym (cond-false _ _ _ other) ∙ e) in
      low_digits (b ∷ bs) (natural_digits (b ∷ bs) found.0 found.1).1
]

low_follow : (c : ℕ) → (is_lower c || is_digit c || eqb c 95) ≡ true → is_low c ≡ true
low_follow c h = elim (cases_Bool (is_lower c)) [
  | inl lower ↦ low_lower c lower
  | inr no_letter ↦ elim (cases_Bool (is_digit c)) [
    | inl digit ↦ low_digit c digit
    | inr no_digit ↦ elim (cases_Bool (eqb c 95)) [
      | inl is ↦ ap is_low (eqb-true c 95 is)
      | inr other ↦ absurd (cc (h, or_from _ _ (or_from _ _ no_letter no_digit) other))
    ]
  ]
]

low_tail : (bs : Bytes) → list_all (λ c. is_lower c || is_digit c || eqb c 95) bs ≡ true → list_all is_low bs ≡ true
low_tail [] h = refl
low_tail (c ∷ cs) h =
    let parts = and_parts (is_lower c || is_digit c || eqb c 95)
    (list_all (λ d. is_lower d || is_digit d || eqb d 95) cs) h in
    and_from _ _ (low_follow c parts.0) (low_tail cs parts.1)

low_name : (w : Bytes) → is_name w ≡ true → list_all is_low w ≡ true
low_name [] h = refl
low_name (b ∷ bs) h =
    let parts = and_parts (is_lower b) _ h in
    let more = and_parts (list_all (λ c. is_lower c || is_digit c || eqb c 95) bs) _ parts.1 in
    and_from _ _ (low_lower b parts.0) (low_tail bs more.0)

-- a word of such bytes
abbrev IsLow : Token → Type 0
IsLow (word w) = list_all is_low w ≡ true
IsLow _ = ⊥

abbrev AreLow : List Token → Type 0
AreLow [] = Unit {0}
AreLow (t ∷ ts) = IsLow t × AreLow ts

low_real : (ts : List Token) → AreLow ts → HasNoStray ts
low_real [] h = tt
low_real (word w ∷ ts) h = low_real ts h.1
low_real (text t ∷ ts) h = absurd h.0
low_real (open_paren ∷ ts) h = absurd h.0
low_real (close_paren ∷ ts) h = absurd h.0
low_real (comma ∷ ts) h = absurd h.0
low_real (arrow ∷ ts) h = absurd h.0
low_real (operator o ∷ ts) h = absurd h.0
low_real (stray ∷ ts) h = absurd h.0

low_spaces : (bs : Bytes) → IsSpaces bs → list_all is_low bs ≡ true
low_spaces [] h = refl
low_spaces (b ∷ bs) h = and_from _ _ (ap is_low (All-head (λ x. x ≡ 32) b bs h))
    (low_spaces bs (All-tail (λ x. x ≡ 32) b bs h))

low_line : (ts : List Token) (line : Bytes) → AreLow ts → IsSpelling ts line → list_all is_low line ≡ true
low_line [] line h s = low_spaces line s
low_line (word w ∷ ts) line h s =
    ap (list_all is_low) s.3 ∙ list_all-append is_low s.0 (w ++ s.1)
    ∙ and_from _ _ (low_spaces s.0 s.2) (list_all-append is_low w s.1 ∙ and_from _ _ h.0 (low_line ts s.1 h.1 s.6))
low_line (text t ∷ ts) line h s = absurd h.0
low_line (open_paren ∷ ts) line h s = absurd h.0
low_line (close_paren ∷ ts) line h s = absurd h.0
low_line (comma ∷ ts) line h s = absurd h.0
low_line (arrow ∷ ts) line h s = absurd h.0
low_line (operator o ∷ ts) line h s = absurd h.0
low_line (stray ∷ ts) line h s = absurd h.0

-- the items of a list of which the first is there
front_parts : (o : Option Value) (more : Option Tuple) (xs : Tuple) → in_front o more ≡ Some xs
    → (a : Value) × (bs : Tuple) × (o ≡ Some a) × (more ≡ Some bs) × (xs ≡ a ∷ bs)
front_parts None more xs e = absurd (cc)
front_parts (Some a) None xs e = absurd (cc)
front_parts (Some a) (Some bs) xs e = (a, bs, refl, refl, cc)

low_numbers : (ts : List Token) (xs : Tuple) → all_of literal_of ts ≡ Some xs
    → list_all is_integer_value xs ≡ true → AreLow ts
low_numbers [] xs e h = tt
low_numbers (word w ∷ ts) xs e h =
    let parts = front_parts (literal_of (word w)) (all_of literal_of ts) xs e in
    let found = map_some (λ i. Int i) (integer_of w) parts.0 parts.2 in
    let each = and_parts (is_integer_value parts.0) (list_all is_integer_value parts.1)
    (ap (list_all is_integer_value) (sym parts.4) ∙ h) in
    (low_integer w found.0 found.1, low_numbers ts parts.1 parts.3 each.1)
low_numbers (text t ∷ ts) xs e h =
    let parts = front_parts (Some (Text t)) (all_of literal_of ts) xs e in
    let each = and_parts (is_integer_value parts.0) (list_all is_integer_value parts.1)
    (ap (list_all is_integer_value) (sym parts.4) ∙ h) in
    let same : Text t ≡ parts.0 = cc (parts.2) in
    let not_one : false ≡ true = ap is_integer_value same ∙ each.0 in
    absurd (cc (not_one))
low_numbers (open_paren ∷ ts) xs e h = absurd (cc)
low_numbers (close_paren ∷ ts) xs e h = absurd (cc)
low_numbers (comma ∷ ts) xs e h = absurd (cc)
low_numbers (arrow ∷ ts) xs e h = absurd (cc)
low_numbers (operator o ∷ ts) xs e h = absurd (cc)
low_numbers (stray ∷ ts) xs e h = absurd (cc)

low_all : (bs : Bytes) → list_all is_low bs ≡ true → All (λ b. b < 128) bs
low_all [] h = All-nil (λ b. b < 128)
low_all (b ∷ bs) h =
    let parts = and_parts (is_low b) (list_all is_low bs) h in
    All-cons (λ x. x < 128) b bs (omega (arith, leb-true b 127 parts.0)) (low_all bs parts.1)

low_utf8 : (line : Bytes) (ts : List Token) → tokens line ≡ ts → AreLow ts → is_utf8 line ≡ true
low_utf8 line ts e h =
    let low = low_line ts line h (tokens_spelled line ts e (low_real ts h)) in
    is_utf8-from_IsUtf8 line (IsUtf8-from_ascii line (IsAscii-from_all line (low_all line low)))

pub numbers_utf8 : (line : Bytes) (verb : RowWord) (old ts : List Token) (name : Bytes) (xs : Tuple)
    → TakesRowWord (tokens line) (Some verb) old → old ≡ word name ∷ ts → is_name name ≡ true
    → all_of literal_of ts ≡ Some xs → list_all is_integer_value xs ≡ true → is_utf8 line ≡ true
numbers_utf8 line Add old ts name xs taken e named all numbers =
    low_utf8 line (word (codes "add") ∷ word name ∷ ts) (taken ∙ ap (λ us. word (codes "add") ∷ us) e)
    (refl, (low_name name named, low_numbers ts xs all numbers))
numbers_utf8 line Del old ts name xs taken e named all numbers =
    low_utf8 line (word (codes "del") ∷ word name ∷ ts) (taken ∙ ap (λ us. word (codes "del") ∷ us) e)
    (refl, (low_name name named, low_numbers ts xs all numbers))

-- ---- From what was read behind a row's keyword to what its line says.

-- the command of a keyword with a name and a row
abbrev pub row_command : RowWord → Bytes → Tuple → Command
row_command Add name row = AddRow name row
row_command Del name row = DeleteRow name row

-- a name and values, and what is made of them
abbrev pub made_of : RowWord → Option (Bytes × Tuple) → Option Command
made_of verb o = option_map (λ p. row_command verb p.0 p.1) o

ranged : (verb : RowWord) (name : Bytes) (row : Tuple) → is_in_range (row_command verb name row)
    ≡ list_all is_small_value row
ranged Add name row = refl
ranged Del name row = refl

takes : (verb : RowWord) (name : Bytes) (row : Tuple) → takes_memory_to_read (row_command verb name row) ≡ true
takes Add name row = refl
takes Del name row = refl

row_made : (verb : RowWord) (o : Option (Bytes × Tuple)) (name : Bytes) (row : Tuple)
    → ReadsAs (λ p. list_all is_small_value p.1) o (Ok (name, row))
    → GivesCommand (made_of verb o) (Ok (row_command verb name row))
row_made verb None name row h = absurd (cc)
row_made verb (Some p) name row h =
    ((ap (λ (q : Bytes × Tuple). row_command verb q.0 q.1) h.0, ranged verb p.0 p.1 ∙ h.1), tt)

row_refused : (verb : RowWord) (o : Option (Bytes × Tuple)) (e : LineRefusal)
    → ReadsAs (λ p. list_all is_small_value p.1) o (Err e) → GivesCommand (made_of verb o) (Err e)
row_refused verb None e h = (cc, tt)
row_refused verb (Some p) Syntax h = absurd h
row_refused verb (Some p) Range h = (ranged verb p.0 p.1 ∙ h, tt)
row_refused verb (Some p) NoMem h = (ranged verb p.0 p.1 ∙ h, takes verb p.0 p.1)

-- Where such a keyword is taken, tokens begin with it.
pub begun : (verb : RowWord) (ts rest : List Token) → TakesRowWord ts (Some verb) rest → row_word_in ts ≡ Some verb
begun Add ts rest h = ap row_word_in h
begun Del ts rest h = ap row_word_in h

-- what they say then
behind : (verb : RowWord) (ts rest : List Token) → TakesRowWord ts (Some verb) rest → command_in ts
    ≡ made_of verb (named_some literal_of rest)
behind Add ts rest h = ap command_in h
behind Del ts rest h = ap command_in h

made_guarded : (verb : RowWord) (b : Bool) (o : Option (Bytes × Tuple)) → cond b (made_of verb o) None
    ≡ made_of verb (cond b o None)
made_guarded verb true o = refl
made_guarded verb false o = refl

-- what a line says that begins with it
line_made : (verb : RowWord) (line : Bytes) (rest : List Token) → TakesRowWord (tokens line) (Some verb) rest
    → command_of line ≡ made_of verb (named_in line rest)
unfolding command_of
line_made verb line rest h =
    ap (λ o. cond (is_utf8 line) o None) (behind verb (tokens line) rest h)
    ∙ made_guarded verb (is_utf8 line) (named_some literal_of rest)

-- a line that gives a row
pub line_said : (verb : RowWord) (line : Bytes) (rest : List Token) (name : Bor Bytes) (row : Tuple)
    → TakesRowWord (tokens line) (Some verb) rest
    → ReadsAs (λ p. list_all is_small_value p.1) (named_in line rest) (named_read (Ok name) row)
    → LineReadsAs line (Ok (row_command verb name.now row))
line_said verb line rest name row taken h =
    subst (λ o. GivesCommand o (Ok (row_command verb name.now row))) (sym (line_made verb line rest taken))
    (row_made verb (named_in line rest) name.now row h)

-- a line that is refused
pub line_refused : (verb : RowWord) (line : Bytes) (rest : List Token) (e : LineRefusal) (row : Tuple)
    → TakesRowWord (tokens line) (Some verb) rest
    → ReadsAs (λ p. list_all is_small_value p.1) (named_in line rest) (named_read (Err e) row)
    → LineReadsAs line (Err e)
line_refused verb line rest e row taken h =
    subst (λ o. GivesCommand o (Err e)) (sym (line_made verb line rest taken))
    (row_refused verb (named_in line rest) e h)

-- Behind the keyword: a name and values.

-- what is read of a name and values
abbrev pub ReadsNamed : Bytes → List Token → Result (Bytes × Tuple) LineRefusal → Type 0
ReadsNamed line ts r = ReadsAs (λ p. list_all is_small_value p.1) (named_in line ts) r

some_named : (old ts : List Token) (name : Bytes) → old ≡ word name ∷ ts → is_name name ≡ true → (ts ≡ [] → ⊥)
    → named_some literal_of old ≡ option_map (λ xs. (name, xs)) (all_of literal_of ts)
some_named old [] name e named some = absurd (some refl)
some_named old (t ∷ ts) name e named some = ap (named_some literal_of) e ∙ cond-true _ _ _ named

-- no value where there is no token
all_none : (ts : List Token) → all_of literal_of ts ≡ Some [] → ts ≡ []
all_none [] e = refl
all_none (t ∷ ts) e = absurd (not_none (literal_of t) (all_of literal_of ts) e)
  where
    not_none : (o : Option Value) (more : Option Tuple) → in_front o more ≡ Some [] → ⊥
    not_none None more e = absurd (cc)
    not_none (Some x) None e = absurd (cc)
    not_none (Some x) (Some xs) e = absurd (cc)

-- numbers behind others
pub numbers_on : (old mid new : List Token) (row more all : Tuple) → ReadsNumbers old row mid more
    → ReadsNumbers mid more new all → ReadsNumbers old row new all
numbers_on old mid new row more all h k = (
  h.0 ++ k.0,
  k.1 ∙ ap (λ (ys : Tuple). ys ++ k.0) h.1 ∙ append_assoc row h.0 k.0,
  list_all-append is_integer_value h.0 k.0 ∙ and_from _ _ h.2 k.2,
  list_all-append is_small_value h.0 k.0 ∙ and_from _ _ h.3 k.3,
  h.4 ∙ ap (onto h.0) k.4 ∙ onto-twice h.0 k.0 (all_of literal_of new),
)

-- Where there is a number, tokens were there.
some_number : (ts new : List Token) (row : Tuple) → ReadsNumbers ts [] new row → 0 < length row → ts ≡ [] → ⊥
some_number ts new row h some none =
    more (all_of literal_of new) h.0 (omega (arith, some, ap length h.1)) (ap (all_of literal_of) (sym none) ∙ h.4)
  where
    more : (o : Option Tuple) (xs : Tuple) → 0 < length xs → Some [] ≡ onto xs o → ⊥
    more None xs some e = absurd (cc)
    more (Some ys) [] some e = absurd (omega (arith, some))
    more (Some ys) (x ∷ xs) some e = absurd (cc)

-- Each value is an integer of few digits.
pub numbers_named : (line : Bytes) (verb : RowWord) (old ts new : List Token) (name : Bytes) (row : Tuple)
    → TakesRowWord (tokens line) (Some verb) old → old ≡ word name ∷ ts → is_name name ≡ true → 0 < length row
    → ReadsNumbers ts [] new row → new ≡ [] → ReadsNamed line old (Ok (name, row))
numbers_named line verb old ts new name row taken e named some h done =
    let all : all_of literal_of ts ≡ Some h.0 = onto_done literal_of (all_of literal_of ts) h.0 new h.4 done in
    let valid = numbers_utf8 line verb old ts name h.0 taken e named all h.2 in
    let is : named_some literal_of old ≡ Some (name, h.0) =
    some_named old ts name e named (some_number ts new row h some)
    ∙ ap (option_map (λ (xs : Tuple). (name, xs))) all in
    let r : Result (Bytes × Tuple) LineRefusal = Ok (name, row) in
    subst (λ o. ReadsAs (λ p. list_all is_small_value p.1) o r) (sym (cond-true _ _ _ valid ∙ is))
    (ap (λ (xs : Tuple). (name, xs)) h.1, h.3)

-- a row whose front was written over
pub overwritten : (new old : Tuple) (n : ℕ) → length new ≡ n → take n (new ++ drop (length new) old) ≡ new
overwritten new old n e = ap (λ m. take m (new ++ drop (length new) old)) (sym e)
    ∙ take-append_seam new (drop (length new) old)

-- values read behind numbers
values_made : {A : Type 0} (name : Bytes) (o : Option Tuple) (r : Result A LineRefusal) (row : Tuple)
    → ReadsAs (list_all is_small_value) o (values_read r row)
    → ReadsAs (λ p. list_all is_small_value p.1) (option_map (λ xs. (name, xs)) o) (named_with name r row)
values_made name None (Ok a) row h = absurd (cc)
values_made name None (Err Syntax) row h = refl
values_made name None (Err Range) row h = absurd (cc)
values_made name None (Err NoMem) row h = absurd (cc)
values_made name (Some xs) (Ok a) row h = (ap (λ (zs : Tuple). (name, zs)) h.0, h.1)
values_made name (Some xs) (Err Syntax) row h = absurd h
values_made name (Some xs) (Err Range) row h = h
values_made name (Some xs) (Err NoMem) row h = h

pub values_named : {A : Type 0} (line : Bytes) (old ts new : List Token) (name : Bytes) (row all : Tuple)
    (r : Result A LineRefusal) → is_utf8 line ≡ true → old ≡ word name ∷ ts → is_name name ≡ true
    → ReadsNumbers ts [] new row → (new ≡ [] → ⊥)
    → ReadsAs (list_all is_small_value) (onto row (all_of literal_of new)) (values_read r all)
    → ReadsNamed line old (named_with name r all)
values_named line old ts new name row all r valid e named h left read =
    let some : ts ≡ [] → ⊥ = λ none. left (still new h.0 (ap (all_of literal_of) (sym none) ∙ h.4)) in
    let values : all_of literal_of ts ≡ onto row (all_of literal_of new) = h.4
    ∙ ap (λ (xs : Tuple). onto xs (all_of literal_of new)) (sym h.1) in
    let whole : named_in line old ≡ option_map (λ (xs : Tuple). (name, xs)) (onto row (all_of literal_of new)) =
    cond-true _ _ _ valid ∙ some_named old ts name e named some
    ∙ ap (option_map (λ (xs : Tuple). (name, xs))) values in
    subst (λ o. ReadsAs (λ p. list_all is_small_value p.1) o (named_with name r all)) (sym whole)
    (values_made name (onto row (all_of literal_of new)) r all read)
  where
    nothing : (o : Option Tuple) (xs : Tuple) → Some [] ≡ onto xs o → o ≡ Some []
    nothing None xs e = absurd (cc)
    nothing (Some ys) [] e = sym e
    nothing (Some ys) (x ∷ xs) e = absurd (cc)

    still : (us : List Token) (xs : Tuple) → Some [] ≡ onto xs (all_of literal_of us) → us ≡ []
    still us xs e = all_none us (nothing (all_of literal_of us) xs e)

-- a value that is refused behind others that are small
pub last_refused : (xs : Tuple) (x : Value) (e : LineRefusal) → list_all is_small_value xs ≡ true
    → ReadsAs is_small_value (Some x) (Err e) → IsRefused (Some (xs ++ x ∷ [])) e
last_refused xs x e h r =
    same_err is_small_value (list_all is_small_value) x (xs ++ x ∷ []) e
    (all_last is_small_value xs x ∙ ap (λ b. b && is_small_value x) h) r

-- A keyword is a line's first bytes, and a space is behind it.
pub add_close : (line : Bytes) → line ≡ codes "add " ++ drop 4 line
    → TakesRowWord (tokens line) (Some Add) (tokens (drop 4 line))
add_close line e =
    ap tokens e ∙ word_before (codes "add") (32 ∷ drop 4 line) (name_token (codes "add") refl) refl
    ∙ ap (λ us. word (codes "add") ∷ us) (tokens-blank (drop 4 line))

pub del_close : (line : Bytes) → line ≡ codes "del " ++ drop 4 line
    → TakesRowWord (tokens line) (Some Del) (tokens (drop 4 line))
del_close line e =
    ap tokens e ∙ word_before (codes "del") (32 ∷ drop 4 line) (name_token (codes "del") refl) refl
    ∙ ap (λ us. word (codes "del") ∷ us) (tokens-blank (drop 4 line))
