-- What the words of a command line ask for.
use Rattle.std.specs.Prelude.{ℕ, zero, suc, List, [], ◌≡◌, ◌≢◌, ◌<◌, ◌^◌, true, Option, None, Some, IsSomeAnd}
use Rattle.std.specs.Prelude.{option_map, Ok, Err, codes, length, get_or, slice_index, decimal}
use Rattle.std.proofs.Common.{refl, sym, ap, ◌∙◌, ap₂, subst, inl, inr, arith}
use Rattle.std.specs.Str.Parse.{ParsesUnsigned, IsNumeral, digits_value, without_leading_plus}
use Rattle.std.proofs.lemmas.Fmt.{decimal_is_IsNumeral, decimal_digit, first_decimal}
use Rattle.std.proofs.lemmas.Str.Parse.{without_leading_plus_none}
use Rattle.std.specs.declared.num.ParseIntError.{ParseIntError}
use Rattle.clap.specs.Words.{Text, Row, is_simple, is_simple_and_free, fault_of, kind_of, subcommand_of, HasKind}
use Rattle.clap.specs.Words.{IsAmong, Kinds, first_of}
use Rattle.clap.specs.declared.error.Error.{Error}
use Rattle.clap.specs.declared.error.ErrorKind.TheVariants.{OutOfMemory}
use Rattle.clap.proofs.OnLiterals.{clap_on_literals}
use Rattle.djq_value.specs.Literal.{is_name}
use Rattle.djq_cli.specs.declared.commands.Asked.{Asked}
use Rattle.djq_cli.specs.declared.commands.Asked.TheVariants.{Run, Serve, Replay, Gen, Mirror}
use Rattle.djq_cli.specs.Commands.{djq_app}
use Rattle.djq_cli.specs.Asks.{SpellsNumber, TextReadsAs, TurnsAre, IsGiven, NumberIsRead, SubcommandAsks, AskedBy}
use Rattle.djq_cli.specs.Asks.{ServeAsked, MirrorAsked, WordsAsk}

pub simple : is_simple djq_app ≡ true
unfolding clap_on_literals
simple = refl

pub simple_and_free : is_simple_and_free djq_app ≡ true
unfolding clap_on_literals
simple_and_free = refl

inside : (o : Option (Text × List Row)) (a : Asked) → AskedBy o (Some a) → IsSomeAnd o (λ c. SubcommandAsks c a)
inside None a h = absurd cc
inside (Some c) a h = h

outside : (o : Option (Text × List Row)) (a : Asked) → AskedBy o None → IsSomeAnd o (λ c. SubcommandAsks c a) → ⊥
outside None a h k = k
outside (Some c) a h k = h a k

-- `clap` took the words
pub taken : (words : List Text) (found : Option (Text × List Row)) (asked : Option Asked) → fault_of djq_app words ≡ []
    → found ≡ subcommand_of djq_app words → AskedBy found asked → WordsAsk words asked
taken words found (Some a) none same h =
    (none, subst (λ (o : Option (Text × List Row)). IsSomeAnd o (λ c. SubcommandAsks c a)) same (inside found a h))
taken words found None none same h = λ a asks. outside found a h
    (subst (λ (o : Option (Text × List Row)). IsSomeAnd o (λ c. SubcommandAsks c a)) (sym same) asks.1)

-- it refused them, and not for want of memory
pub refused : (words : List Text) (e : Error) → HasKind (fault_of djq_app words) e → kind_of e ≢ OutOfMemory
    → WordsAsk words None
refused words e (inl out) other = λ a asks. absurd (other out)
refused words e (inr among) other = λ a asks. absurd (subst (λ (ks : Kinds). IsAmong (kind_of e) ks) asks.0 among)

serve_not_run : codes "serve" ≡ codes "run" → ⊥
serve_not_run e = let n = ap length e in absurd (omega (arith, n))

serve_not_replay : codes "serve" ≡ codes "replay" → ⊥
serve_not_replay e = let n = ap length e in absurd (omega (arith, n))

serve_not_gen : codes "serve" ≡ codes "gen" → ⊥
serve_not_gen e = let n = ap length e in absurd (omega (arith, n))

mirror_not_run : codes "mirror" ≡ codes "run" → ⊥
mirror_not_run e = let n = ap length e in absurd (omega (arith, n))

mirror_not_serve : codes "mirror" ≡ codes "serve" → ⊥
mirror_not_serve e = let n = ap length e in absurd (omega (arith, n))

mirror_not_replay : codes "mirror" ≡ codes "replay" → ⊥
mirror_not_replay e = let n = ap (λ (bs : Text). slice_index bs 0) e in absurd (omega (arith, n))

mirror_not_gen : codes "mirror" ≡ codes "gen" → ⊥
mirror_not_gen e = let n = ap length e in absurd (omega (arith, n))

-- what `serve` was given asks for nothing
pub none_asked : (rows : List Row)
    → ((addr : Text) (n : ℕ) → first_of (codes "ADDR") rows ≡ Some addr → TurnsAre (first_of (codes "turns") rows) n
    → ⊥) → ServeAsked rows None
none_asked rows h Run asks = serve_not_run asks
none_asked rows h (Serve addr n log) asks = h addr.now n asks.1 asks.2
none_asked rows h (Replay log) asks = serve_not_replay asks.0
none_asked rows h (Gen n seed) asks = serve_not_gen asks.0
none_asked rows h (Mirror query) asks = mirror_not_serve (sym asks.0)

pub no_addr : (rows : List Row) → first_of (codes "ADDR") rows ≡ None → ServeAsked rows None
no_addr rows none = none_asked rows (λ addr n given turns. absurd (none_some (sym none ∙ given)))
  where
    none_some : {A : Type 0} {x : A} → None ≡ Some x → ⊥
    none_some e = cc

pub turns_spelled : (text : Text) (n : ℕ) (o : Option Text) → o ≡ Some text → SpellsNumber 64 text n → TurnsAre o n
turns_spelled text n o e h = subst (λ (k : Option Text). TurnsAre k n) (sym e) h

pub turns_unspelled : (rows : List Row) (text : Text) → first_of (codes "turns") rows ≡ Some text
    → TextReadsAs text None
    → ServeAsked rows None
turns_unspelled rows text given h = none_asked rows (λ addr n is turns. h n
    (subst (λ (k : Option Text). TurnsAre k n) given turns))

-- what `mirror` was given asks for nothing, where it is no name
pub mirror_asks_none : (rows : List Row) → ((query : Text) → first_of (codes "Q") rows ≡ Some query
    → is_name query ≡ true → ⊥) → MirrorAsked rows None
mirror_asks_none rows h Run asks = mirror_not_run asks
mirror_asks_none rows h (Serve addr n log) asks = mirror_not_serve asks.0
mirror_asks_none rows h (Replay log) asks = mirror_not_replay asks.0
mirror_asks_none rows h (Gen n seed) asks = mirror_not_gen asks.0
mirror_asks_none rows h (Mirror query) asks = h query.now asks.1 asks.2

pub none_read : (o : Option Text) → o ≡ None → NumberIsRead o None
none_read o e n h = subst (λ (k : Option Text). IsGiven k n) e h

pub number_read : (text : Text) (n : ℕ) (o : Option Text) → o ≡ Some text → SpellsNumber 64 text n → n < 2 ^ 32
    → NumberIsRead o (Some n)
number_read text n o e h few = subst (λ (k : Option Text). IsGiven k n) (sym e) (few, h.1)

pub number_unread : (text : Text) (o : Option Text) → o ≡ Some text → TextReadsAs text None → NumberIsRead o None
number_unread text o e h n given = let g = subst (λ (k : Option Text). IsGiven k n) e given in
    h n (omega (arith, g.0), g.1)

-- a text spells one number
pub one_number : (text : Text) (m n : ℕ) → SpellsNumber 64 text m → SpellsNumber 64 text n → m ≡ n
one_number text m n h k = sym (decimal_is_IsNumeral m h.0).1 ∙ ap (λ (t : Text). digits_value 10 t) (sym h.1 ∙ k.1)
    ∙ (decimal_is_IsNumeral n k.0).1

pub number_large : (text : Text) (n : ℕ) (o : Option Text) → o ≡ Some text → SpellsNumber 64 text n → (n < 2 ^ 32 → ⊥)
    → NumberIsRead o None
number_large text n o e h large k given =
    let g = subst (λ (i : Option Text). IsGiven i k) e given in
    let same : k ≡ n = one_number text k n (omega (arith, g.0), g.1) h in
    large (omega (arith, same, g.0))

-- decimal digits have no sign before them
unsigned : (n : ℕ) → n < 2 ^ 64 → without_leading_plus (decimal n) ≡ decimal n
unsigned zero h = without_leading_plus_none (decimal 0) (λ e. let d =
    ap (λ (t : Text). get_or t 0 0) (decimal_digit 0 (omega arith)) in absurd (omega (arith, d, e)))
unsigned (suc n) h = without_leading_plus_none (decimal (suc n))
    (λ e. let d = first_decimal (suc n) (omega arith) h in absurd (omega (arith, d, e)))

-- What a text spells is what it is parsed as.
numeral : (text : Text) (n : ℕ) → SpellsNumber 64 text n → IsNumeral 10 (without_leading_plus text)
    × (digits_value 10 (without_leading_plus text) ≡ n)
numeral text n h =
    let same : without_leading_plus text ≡ decimal n = ap (λ (t : Text). without_leading_plus t) h.1 ∙ unsigned n h.0 in
    subst (λ (t : Text). IsNumeral 10 t × (digits_value 10 t ≡ n)) (sym same) (decimal_is_IsNumeral n h.0)

pub not_parsed : (text : Text) (error : ParseIntError) → ParsesUnsigned {E = ParseIntError} 64 10 text (Err error)
    → TextReadsAs text None
not_parsed text error h n spells = let t = numeral text n spells in h (t.0, omega (arith, t.1, spells.0))

pub not_spelled : (text : Text) (m : ℕ) → ParsesUnsigned {E = ParseIntError} 64 10 text (Ok m) → text ≢ decimal m
    → TextReadsAs text None
not_spelled text m h other n spells =
    let t = numeral text n spells in
    let same : n ≡ m = sym t.1 ∙ sym h.1 in
    absurd (other (spells.1 ∙ ap (λ k. decimal k) same))

-- another name asks for nothing
pub other_asked : (name : Text) (rows : List Row) → name ≢ codes "run" → name ≢ codes "serve" → name ≢ codes "replay"
    → name ≢ codes "gen" → name ≢ codes "mirror" → AskedBy (Some (name, rows)) None
other_asked name rows run serve replay generate mirror Run asks = absurd (run asks)
other_asked name rows run serve replay generate mirror (Serve addr n log) asks = absurd (serve asks.0)
other_asked name rows run serve replay generate mirror (Replay log) asks = absurd (replay asks.0)
other_asked name rows run serve replay generate mirror (Gen n seed) asks = absurd (generate asks.0)
other_asked name rows run serve replay generate mirror (Mirror query) asks = absurd (mirror asks.0)

-- what a parse found, by its name and its rows
pub found_is : {A : Type 0} (f : A → Text) (g : A → List Row) (x : Option A) (name : Text) (rows : List Row)
    → Some name ≡ option_map f x → Some rows
    ≡ option_map (λ (p : Text × List Row). p.1) (option_map {U = Text × List Row} (λ b. (f b, g b)) x)
    → option_map {U = Text × List Row} (λ b. (f b, g b)) x ≡ Some (name, rows)
found_is f g None name rows n r = absurd cc
found_is f g (Some b) name rows n r = ap₂ (λ a c. Some (a, c)) (sym (in_some n)) (sym (in_some r))
  where
    in_some : {A : Type 0} {x y : A} → Some x ≡ Some y → x ≡ y
    in_some e = cc

pub asked_as : (o : Option (Text × List Row)) (c : Text × List Row) (asked : Option Asked) → o ≡ Some c
    → AskedBy (Some c) asked → AskedBy o asked
asked_as o c asked e h = subst (λ (k : Option (Text × List Row)). AskedBy k asked) (sym e) h

pub named : {name other : Text} {o : Option (Text × List Row)} (rows : List Row) → o ≡ Some (name, rows) → name ≡ other
    → o ≡ Some (other, rows)
named rows e same = e ∙ ap (λ (n : Text). Some (n, rows)) same
