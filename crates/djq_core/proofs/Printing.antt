-- Deltas and answers as they are printed, line by line.
use Rattle.std.proofs.Common.{ℕ, ◌+◌, ◌≤◌, ◌≡◌, ◌++◌, true, false, List, [], ◌∷◌, length, take, option_map, Option}
use Rattle.std.proofs.Common.{None, Some, Result, Ok, Err, refl, sym, ap, ◌∙◌, arith, append_assoc, append-nil}
use Rattle.std.specs.Prelude.{⊤, IsSomeAnd, MatchOption, slice_get}
use Rattle.std.specs.Result.{is_err, is_ok}
use Rattle.std.proofs.lemmas.List.{map-append, take_all}
use Rattle.bytes.specs.Filled.{Filled}
use Rattle.djq_model.specs.declared.memory.NoMem.{NoMem}
use Rattle.djq_model.specs.Data.{Bytes, Tuple}
use Rattle.djq_value.specs.Output.{Puts}
use Rattle.djq_protocol.specs.declared.answer.Sign.{Sign}
use Rattle.djq_protocol.specs.Reply.{text_of, change_line, at_line}
use Rattle.djq_store_spec.specs.Delta.{Change, change_lines, delta_lines}
use Rattle.djq_commands.proofs.Printing.{take_next, text_last}

-- So many lines of a delta are printed.
abbrev pub PrintsSoFar : Option (List Change) → Bytes → ℕ → ℕ → Bytes → Bytes → Type 0
PrintsSoFar o q count nth old now = MatchOption o ⊤
    (λ changes. (count ≡ length changes) × (now ≡ old ++ text_of (change_lines q (take nth changes))))

pub prints_start : (o : Option (List Change)) (q : Bytes) (count : ℕ) (old : Bytes) → Some count
    ≡ option_map (λ (changes : List Change). length changes) o → PrintsSoFar o q count 0 old old
prints_start None q count old h = tt
prints_start (Some changes) q count old h = (cc (h), sym (append-nil old))

pub was_put : (old new : Filled) (text : Bytes) (outcome : Result ⊤ NoMem) → is_err outcome ≡ false
    → Puts old new text outcome → new.items ≡ old.items ++ text
was_put old new text (Ok u) e p = p.items
was_put old new text (Err r) e p = absurd (cc (e))

pub is_put : (old new : Filled) (text : Bytes) (outcome : Result ⊤ NoMem) → is_ok outcome ≡ true
    → Puts old new text outcome → new.items ≡ old.items ++ text
is_put old new text (Ok u) e p = p.items
is_put old new text (Err r) e p = absurd (cc (e))

one_line : (q : Bytes) (changes : List Change) (nth : ℕ) (c : Change) (old now new : Bytes) → slice_get changes nth
    ≡ Some c → now ≡ old ++ text_of (change_lines q (take nth changes))
    → new ≡ now ++ change_line c.sign q c.answer → new ≡ old ++ text_of (change_lines q (take (nth + 1) changes))
one_line q changes nth c old now new e h p =
    let lines = change_lines q (take nth changes) in
    let more : change_lines q (take (nth + 1) changes) ≡ lines ++ change_line c.sign q c.answer ∷ []
    = ap (change_lines q) (take_next changes nth c e)
    ∙ map-append (λ (x : Change). change_line x.sign q x.answer) (take nth changes) (c ∷ []) in
    p ∙ ap (λ (bs : Bytes). bs ++ change_line c.sign q c.answer) h
    ∙ append_assoc old (text_of lines) (change_line c.sign q c.answer)
    ∙ ap (λ (bs : Bytes). old ++ bs) (sym (ap text_of more ∙ text_last lines (change_line c.sign q c.answer)))

pub prints_more : (o : Option (List Change)) (q : Bytes) (count nth : ℕ) (sign : Sign) (answer : Tuple)
    (old now new : Bytes) → PrintsSoFar o q count nth old now
    → IsSomeAnd o (λ changes. IsSomeAnd (slice_get changes nth) (λ c. (sign ≡ c.sign) × (answer ≡ c.answer))) → new
    ≡ now ++ change_line sign q answer → PrintsSoFar o q count (nth + 1) old new
prints_more None q count nth sign answer old now new s h p = tt
prints_more (Some changes) q count nth sign answer old now new s h p = (s.0, by (slice_get changes nth) refl h)
  where
    by : (x : Option Change) → slice_get changes nth ≡ x → IsSomeAnd x (λ c. (sign ≡ c.sign) × (answer ≡ c.answer))
        → new ≡ old ++ text_of (change_lines q (take (nth + 1) changes))
    by None e g = absurd g
    by (Some c) e g = one_line q changes nth c old now new e s.1
        (p ∙ ap (λ (w : Sign). now ++ change_line w q answer) g.0
        ∙ ap (λ (t : Tuple). now ++ change_line c.sign q t) g.1)

pub prints_last : (o : Option (List Change)) (q : Bytes) (count nth n : ℕ) (old now new : Bytes)
    → PrintsSoFar o q count nth old now → count ≤ nth
    → Some count ≡ option_map (λ (changes : List Change). length changes) o → new ≡ now ++ at_line q n
    → MatchOption o ⊥ (λ changes. new ≡ old ++ text_of (delta_lines q changes n))
prints_last None q count nth n old now new s le h p = absurd (cc (h))
prints_last (Some changes) q count nth n old now new s le h p =
    let all : take nth changes ≡ changes = take_all nth changes (omega (arith, s.0, le)) in
    let lines = change_lines q changes in
    p ∙ ap (λ (bs : Bytes). bs ++ at_line q n) (s.1 ∙ ap (λ (cs : List Change). old ++ text_of (change_lines q cs)) all)
    ∙ append_assoc old (text_of lines) (at_line q n)
    ∙ ap (λ (bs : Bytes). old ++ bs) (sym (text_last lines (at_line q n)))
