-- What a command says that a line is read as, and that its texts are of UTF-8.
use Rattle.std.specs.Prelude.{ℕ, zero, suc, List, [], ◌∷◌, ◌++◌, ◌==◌, ◌≡◌, ◌<◌, ◌≤◌, ◌+◌, ◌/◌, ◌%◌, ◌||◌, ◌⊎◌, Bool}
use Rattle.std.specs.Prelude.{true, false, cond, length, IsUtf8, ◌&&◌, Option, None, Some, All}
use Rattle.std.specs.List.{flat_map, AllZip, list_all}
use Rattle.std.specs.Str.{is_utf8, encode_utf8_all, all_scalars, IsCharBoundary}
use Rattle.std.proofs.Common.{refl, sym, ap, ◌∙◌, subst, inl, inr, arith, append_assoc}
use Rattle.std.proofs.Math.Utf8.{encode}
use Rattle.std.proofs.Math.Dec.{ltb}
use Rattle.std.proofs.Math.Seq.{take-append_seam, drop-append_seam, get_or-append_seam}
use Rattle.std.proofs.lemmas.Bool.{eqb-true, cases_Bool, ltb-true, ltb-false, and_parts}
use Rattle.std.proofs.lemmas.List.{length-append}
use Rattle.std.proofs.lemmas.List.Elements.{All-head, All-tail, All-nil, All-cons}
use Rattle.std.proofs.lemmas.Str.{IsUtf8-nil, IsUtf8-append, IsUtf8-encode, IsUtf8-take, IsUtf8-drop, IsUtf8-past_char}
use Rattle.std.proofs.lemmas.Str.{is_utf8-from_IsUtf8, IsCharBoundary-before_ascii, encode_ascii, IsUtf8-from_ascii}
use Rattle.std.proofs.lemmas.Str.{length-encode, len_utf8_bounds}
use Rattle.std.proofs.lemmas.Str.Ascii.{IsAscii-nil, IsAscii-cons}
use Rattle.djq_model.specs.declared.query.Operator.{Operator}
use Rattle.djq_model.specs.declared.query.Operator.TheVariants.{Less, LessOrEqual, Greater, GreaterOrEqual, Equal}
use Rattle.djq_model.specs.declared.query.Operator.TheVariants.{NotEqual}
use Rattle.djq_model.specs.declared.value.Value.{Value}
use Rattle.djq_model.specs.declared.value.Value.TheVariants.{Int, Text}
use Rattle.djq_model.specs.declared.query.Term.{Term}
use Rattle.djq_model.specs.declared.query.Term.TheVariants.{Variable, Hole, Constant}
use Rattle.djq_model.specs.declared.query.Atom.{Atom}
use Rattle.djq_model.specs.declared.query.Comparison.{Comparison}
use Rattle.djq_model.specs.declared.query.Query.{Query}
use Rattle.djq_model.specs.Data.{Bytes, Tuple}
use Rattle.djq_value.specs.Token.{Token, word, text, open_paren, close_paren, comma, arrow, operator, stray, ends_word}
use Rattle.djq_value.specs.Token.{may_end}
use Rattle.djq_value.specs.Spelling.{IsSpaces, IsSpelling, IsToken, MayFollow, operator_text, token_text}
use Rattle.djq_value.specs.ValueText.{escaped}
use Rattle.djq_value.specs.Literal.{is_small_value, IsName}
use Rattle.djq_protocol.specs.declared.limits.TheConstants.{LINE_BYTES}
use Rattle.djq_protocol.specs.declared.command.Command.{Command}
use Rattle.djq_protocol.specs.declared.command.Command.TheVariants.{Rel, Add, Del, Query as Register, Union, Drop, Open}
use Rattle.djq_protocol.specs.declared.command.Command.TheVariants.{Next, Close, Has, Watch, Unwatch, Explain, Shape}
use Rattle.djq_protocol.specs.declared.command.Command.TheVariants.{Batch, Done, Abandon, Quit, Stop}
use Rattle.djq_protocol.specs.Grammar.{Item, atom, comparison, past_item, is_small_term, is_small_atom, is_in_range}
use Rattle.djq_protocol.specs.Grammar.{command_of, past_limit, says_command, reading_in, reading_of}
use Rattle.djq_parser.specs.Saying.{SaysCommand, SaysAtom, SaysComparison, SaysItem, SaysItems, SaysName, SaysTerm}
use Rattle.djq_parser.specs.Saying.{SaysValue, list_tokens, more_tokens, atoms_among, comparisons_among}
use Rattle.djq_parser.proofs.CommandLines.{commands_are_spelled}
use Rattle.djq_mirror_laws.specs.Sayable.{IsSayableValue, IsSayableRow, IsSayableTerm, IsSayableAtom}
use Rattle.djq_mirror_laws.specs.Sayable.{IsSayableComparison, IsSayableQuery}
use Rattle.djq_mirror_laws.proofs.LineLengths.{query_weight, query_less}

-- ---- The texts that a line of UTF-8 spells are of UTF-8.

-- A byte of ASCII is a character by itself.
behind_ascii : (b : ℕ) (bs : Bytes) → b < 128 → IsUtf8 (b ∷ bs) → IsUtf8 bs
behind_ascii b bs lt u = IsUtf8-past_char (b ∷ bs) bs b u (sym (ap (λ x. x ++ bs) (encode_ascii b lt)))

ascii_alone : (b : ℕ) → b < 128 → IsUtf8 (b ∷ [])
ascii_alone b lt = IsUtf8-from_ascii (b ∷ []) (IsAscii-cons b [] lt IsAscii-nil)

before_ascii : (xs ys : Bytes) (b : ℕ) → b < 128 → IsUtf8 (xs ++ b ∷ ys) → IsUtf8 xs × IsUtf8 ys
before_ascii xs ys b lt u =
    let at : IsCharBoundary (xs ++ b ∷ ys) (length xs) =
    IsCharBoundary-before_ascii (xs ++ b ∷ ys) (length xs) (omega (arith, length-append xs (b ∷ ys)))
    (omega (arith, lt, get_or-append_seam xs b ys 0)) in (
      subst IsUtf8 (take-append_seam xs (b ∷ ys)) (IsUtf8-take (xs ++ b ∷ ys) (length xs) u at),
      behind_ascii b ys lt (subst IsUtf8 (drop-append_seam xs (b ∷ ys)) (IsUtf8-drop (xs ++ b ∷ ys) (length xs) u at)),
    )

behind_spaces : (front bs : Bytes) → IsSpaces front → IsUtf8 (front ++ bs) → IsUtf8 bs
behind_spaces [] bs h u = u
behind_spaces (b ∷ front) bs h u =
    let is = All-head (λ (c : ℕ). c ≡ 32) b front h in
    behind_spaces front bs (All-tail (λ (c : ℕ). c ≡ 32) b front h) (behind_ascii b (front ++ bs) (omega (arith, is)) u)

-- A text that is printed with its backslashes is of UTF-8 only where it is without them.
abbrev AreHigh : Bytes → Type 0
AreHigh [] = Unit {0}
AreHigh (b ∷ bs) = (128 ≤ b) × AreHigh bs

picked : (k l m : Bool) (a b₁ b₂ c₁ c₂ c₃ d₁ d₂ d₃ d₄ : ℕ) → AreHigh (a ∷ []) → AreHigh (b₁ ∷ b₂ ∷ [])
    → AreHigh (c₁ ∷ c₂ ∷ c₃ ∷ []) → AreHigh (d₁ ∷ d₂ ∷ d₃ ∷ d₄ ∷ [])
    → AreHigh (cond k (a ∷ []) (cond l (b₁ ∷ b₂ ∷ []) (cond m (c₁ ∷ c₂ ∷ c₃ ∷ []) (d₁ ∷ d₂ ∷ d₃ ∷ d₄ ∷ []))))
picked true l m a b₁ b₂ c₁ c₂ c₃ d₁ d₂ d₃ d₄ one two three four = one
picked false true m a b₁ b₂ c₁ c₂ c₃ d₁ d₂ d₃ d₄ one two three four = two
picked false false true a b₁ b₂ c₁ c₂ c₃ d₁ d₂ d₃ d₄ one two three four = three
picked false false false a b₁ b₂ c₁ c₂ c₃ d₁ d₂ d₃ d₄ one two three four = four

high_bytes : (c : ℕ) → 128 ≤ c → AreHigh (encode c)
unfolding encode
high_bytes c le =
    picked (ltb c 128) (ltb c 2048) (ltb c 65536) c (192 + c / 64) (128 + c % 64) (224 + c / 4096)
    (128 + c / 64 % 64) (128 + c % 64) (240 + c / 262144) (128 + c / 4096 % 64) (128 + c / 64 % 64) (128 + c % 64)
    (le, tt) (omega arith, (omega arith, tt)) (omega arith, (omega arith, (omega arith, tt)))
    (omega arith, (omega arith, (omega arith, (omega arith, tt))))

not_empty : (xs : Bytes) → 1 ≤ length xs → (b : ℕ) × (bs : Bytes) × (xs ≡ b ∷ bs)
not_empty [] le = absurd (omega arith)
not_empty (b ∷ bs) le = (b, bs, refl)

some_bytes : (c : ℕ) → (b : ℕ) × (bs : Bytes) × (encode c ≡ b ∷ bs)
some_bytes c = not_empty (encode c) (omega (arith, length-encode c, (len_utf8_bounds c).0))

-- how a byte is printed: as it is, or behind a backslash
pub data Escapes (b : ℕ) : Type 0 where
  as_is : escaped b ≡ b ∷ [] → Escapes b
  behind_backslash : b < 128 → (x : ℕ) → x < 128 → escaped b ≡ 92 ∷ x ∷ [] → Escapes b

escapes : (b : ℕ) → Escapes b
escapes b = by (b == 34) (b == 92) (b == 10) refl refl refl
  where
    by : (k l m : Bool) → (b == 34) ≡ k → (b == 92) ≡ l → (b == 10) ≡ m → Escapes b
    by true l m e f g = let is = eqb-true b 34 e in behind_backslash (omega (arith, is)) 34 (omega arith) (rw e refl)
    by false true m e f g = let is = eqb-true b 92 f in behind_backslash (omega (arith, is)) 92 (omega arith)
        (rw (e, f) refl)
    by false false true e f g = let is = eqb-true b 10 g in behind_backslash (omega (arith, is)) 110 (omega arith)
        (rw (e, f, g) refl)
    by false false false e f g = as_is (rw (e, f, g) refl)

first_same : (x y : ℕ) (xs ys : Bytes) → x ∷ xs ≡ y ∷ ys → (x ≡ y) × (xs ≡ ys)
first_same x y xs ys e = (cc, cc)

high_same : (es ds t : Bytes) → AreHigh es → es ++ ds ≡ flat_map escaped t
    → (rest : Bytes) × (t ≡ es ++ rest) × (ds ≡ flat_map escaped rest)
high_same [] ds t h e = (t, refl, e)
high_same (x ∷ es) ds [] h e = absurd cc
high_same (x ∷ es) ds (b ∷ t) h e = by (escapes b) (λ k. high_same es ds t h.1 k)
  where
    by : Escapes b
        → (es ++ ds ≡ flat_map escaped t → (rest : Bytes) × (t ≡ es ++ rest) × (ds ≡ flat_map escaped rest))
        → (rest : Bytes) × (b ∷ t ≡ (x ∷ es) ++ rest) × (ds ≡ flat_map escaped rest)
    by (as_is k) more =
        let same = first_same x b (es ++ ds) (flat_map escaped t) (e ∙ ap (λ bs. bs ++ flat_map escaped t) k) in
        let r = more same.1 in
        (r.0, ap (λ c. c ∷ t) (sym same.0) ∙ ap (λ bs. x ∷ bs) r.1, r.2)
    by (behind_backslash lt y small k) more =
        let same = first_same x 92 (es ++ ds) (y ∷ flat_map escaped t) (e ∙ ap (λ bs. bs ++ flat_map escaped t) k) in
        absurd (omega (arith, h.0, same.0))

-- a byte of ASCII in front of a text that has been read behind it
low_front : (b : ℕ) (t : Bytes) → b < 128 → IsUtf8 t → IsUtf8 (b ∷ t)
low_front b t lt more = IsUtf8-append (b ∷ []) t (ascii_alone b lt) more

-- a character of several bytes, and what is behind it
high_front : (b : ℕ) (t : Bytes) → 128 ≤ b → escaped b ≡ b ∷ [] → (cs : List ℕ) → all_scalars cs ≡ true
    → encode_utf8_all cs ≡ b ∷ flat_map escaped t
    → ((rest : Bytes) → length rest < length (b ∷ t) → IsUtf8 (flat_map escaped rest) → IsUtf8 rest) → IsUtf8 (b ∷ t)
high_front b t le k [] s e more = absurd cc
high_front b t le k (c ∷ cs) s e more = at (cases_Bool (ltb c 128))
  where
    f : (d : ℕ) × (bs : Bytes) × (encode c ≡ d ∷ bs)
    f = some_bytes c

    first : f.0 ≡ b
    first =
        (first_same f.0 b (f.1 ++ encode_utf8_all cs) (flat_map escaped t)
        (ap (λ bs. bs ++ encode_utf8_all cs) (sym f.2) ∙ e)).0

    at : (ltb c 128 ≡ true) ⊎ (ltb c 128 ≡ false) → IsUtf8 (b ∷ t)
    at (inl small) =
        let lt = ltb-true c 128 small in
        let is = (first_same f.0 c f.1 [] (sym f.2 ∙ encode_ascii c lt)).0 in
        absurd (omega (arith, le, first, is, lt))
    at (inr large) =
        let ge = ltb-false c 128 large in
        let r = high_same (encode c) (encode_utf8_all cs) (b ∷ t) (high_bytes c ge)
        (e ∙ ap (λ bs. bs ++ flat_map escaped t) (sym k)) in
        let scalar = and_parts _ _ s in
        let long : length (b ∷ t) ≡ length (encode c) + length r.0 = ap length r.1 ∙ length-append (encode c) r.0 in
        let some : length (encode c) ≡ suc (length f.1) = ap length f.2 in
        subst IsUtf8 (sym r.1)
        (IsUtf8-append (encode c) r.0 (IsUtf8-encode c scalar.0)
        (more r.0 (omega (arith, long, some)) (subst IsUtf8 r.2 (cs, (scalar.1, refl)))))

front_escaped : (b : ℕ) (t : Bytes) → Escapes b → IsUtf8 (flat_map escaped (b ∷ t))
    → ((rest : Bytes) → length rest < length (b ∷ t) → IsUtf8 (flat_map escaped rest) → IsUtf8 rest) → IsUtf8 (b ∷ t)
front_escaped b t (behind_backslash lt x small k) u more =
    low_front b t lt (more t (omega arith) (behind_ascii x (flat_map escaped t) small
    (behind_ascii 92 (x ∷ flat_map escaped t) (omega arith) (subst IsUtf8 (ap (λ bs. bs ++ flat_map escaped t) k) u))))
front_escaped b t (as_is k) u more = split (subst IsUtf8 (ap (λ bs. bs ++ flat_map escaped t) k) u)
    (cases_Bool (ltb b 128))
  where
    split : IsUtf8 (b ∷ flat_map escaped t) → (ltb b 128 ≡ true) ⊎ (ltb b 128 ≡ false) → IsUtf8 (b ∷ t)
    split v (inl small) =
        let lt = ltb-true b 128 small in low_front b t lt
        (more t (omega arith) (behind_ascii b (flat_map escaped t) lt v))
    split v (inr large) = high_front b t (ltb-false b 128 large) k v.0 v.1.0 v.1.1 more

unescaped : (n : ℕ) (t : Bytes) → length t ≤ n → IsUtf8 (flat_map escaped t) → IsUtf8 t
unescaped n [] le u = IsUtf8-nil
unescaped zero (b ∷ t) le u = absurd (omega arith)
unescaped (suc n) (b ∷ t) le u =
    front_escaped b t (escapes b) u (λ rest lt v. unescaped n rest (omega (arith, le, lt)) v)

-- The tokens of a line.
abbrev pub HasUtf8Token : Token → Type 0
HasUtf8Token (text t) = is_utf8 t ≡ true
HasUtf8Token _ = Unit {0}

abbrev pub HaveUtf8 : List Token → Type 0
HaveUtf8 [] = Unit {0}
HaveUtf8 (t ∷ ts) = HasUtf8Token t × HaveUtf8 ts

or_ascii : (b n : ℕ) (r : Bool) → n < 128 → (r || b == n) ≡ true → (r ≡ true → b < 128) → b < 128
or_ascii b n true lt e more = more refl
or_ascii b n false lt e more = let is = eqb-true b n e in omega (arith, is, lt)

sign_ascii : (b : ℕ) → ends_word b ≡ true → b < 128
sign_ascii b e =
    or_ascii b 62 _ (omega arith) e (λ e. or_ascii b 61 _ (omega arith) e (λ e. or_ascii b 60 _ (omega arith) e
    (λ e. or_ascii b 44 _ (omega arith) e (λ e. or_ascii b 41 _ (omega arith) e (λ e. or_ascii b 40 _ (omega arith) e
    (λ e. or_ascii b 33 _ (omega arith) e (λ e. let is = eqb-true b 32 e in omega (arith, is))))))))

behind_word : (w behind : Bytes) → may_end behind ≡ true → IsUtf8 (w ++ behind) → IsUtf8 behind
behind_word w [] e u = IsUtf8-nil
behind_word w (b ∷ bs) e u =
    let lt = sign_ascii b e in
    IsUtf8-append (b ∷ []) bs (ascii_alone b lt) (before_ascii w bs b lt u).1

one_behind : (b : ℕ) (behind : Bytes) → b < 128 → IsUtf8 (b ∷ behind) → Unit {0} × IsUtf8 behind
one_behind b behind lt u = (tt, behind_ascii b behind lt u)

two_behind : (b c : ℕ) (behind : Bytes) → b < 128 → c < 128 → IsUtf8 (b ∷ c ∷ behind) → Unit {0} × IsUtf8 behind
two_behind b c behind lt small u = (tt, behind_ascii c behind small (behind_ascii b (c ∷ behind) lt u))

sign_behind : (o : Operator) (behind : Bytes) → IsUtf8 (operator_text o ++ behind) → Unit {0} × IsUtf8 behind
sign_behind Less behind u = one_behind 60 behind (omega arith) u
sign_behind LessOrEqual behind u = two_behind 60 61 behind (omega arith) (omega arith) u
sign_behind Greater behind u = one_behind 62 behind (omega arith) u
sign_behind GreaterOrEqual behind u = two_behind 62 61 behind (omega arith) (omega arith) u
sign_behind Equal behind u = one_behind 61 behind (omega arith) u
sign_behind NotEqual behind u = two_behind 33 61 behind (omega arith) (omega arith) u

token_behind : (t : Token) (behind : Bytes) → IsUtf8 (token_text t ++ behind) → IsToken t → MayFollow t behind
    → HasUtf8Token t × IsUtf8 behind
token_behind (word w) behind u is follows = (tt, behind_word w behind follows u)
token_behind (text t) behind u is follows =
    let v = behind_ascii 34 (flat_map escaped t ++ 34 ∷ behind) (omega arith)
    (subst IsUtf8 (ap (λ bs. 34 ∷ bs) (append_assoc (flat_map escaped t) (34 ∷ []) behind)) u) in
    let parts = before_ascii (flat_map escaped t) behind 34 (omega arith) v in
    (is_utf8-from_IsUtf8 t (unescaped (length t) t (omega arith) parts.0), parts.1)
token_behind open_paren behind u is follows = one_behind 40 behind (omega arith) u
token_behind close_paren behind u is follows = one_behind 41 behind (omega arith) u
token_behind comma behind u is follows = one_behind 44 behind (omega arith) u
token_behind arrow behind u is follows = two_behind 60 45 behind (omega arith) (omega arith) u
token_behind (operator o) behind u is follows = sign_behind o behind u
token_behind stray behind u is follows = absurd is

pub texts_have_utf8 : (ts : List Token) (line : Bytes) → IsUtf8 line → IsSpelling ts line → HaveUtf8 ts
texts_have_utf8 [] line u s = tt
texts_have_utf8 (t ∷ ts) line u (front, behind, spaces, parts, is, follows, rest) =
    let v = behind_spaces front (token_text t ++ behind) spaces (subst IsUtf8 parts u) in
    let k = token_behind t behind v is follows in
    (k.0, texts_have_utf8 ts behind k.1 rest)

-- ---- What a command says that a line is read as.

-- The names and values of a command are such.
abbrev pub IsSayableCommand : Command → Type 0
IsSayableCommand (Rel name types) = IsName name
IsSayableCommand (Add name row) = IsName name × IsSayableRow row
IsSayableCommand (Del name row) = IsName name × IsSayableRow row
IsSayableCommand (Register q) = IsSayableQuery q
IsSayableCommand (Union name members) = IsName name × All IsName members
IsSayableCommand (Drop q) = IsName q
IsSayableCommand (Open c q) = IsName c × IsName q
IsSayableCommand (Next c count) = IsName c
IsSayableCommand (Close c) = IsName c
IsSayableCommand (Has q row) = IsName q × IsSayableRow row
IsSayableCommand (Watch q) = IsName q
IsSayableCommand (Unwatch q) = IsName q
IsSayableCommand (Explain q) = IsName q
IsSayableCommand (Shape q) = IsName q
IsSayableCommand Batch = Unit {0}
IsSayableCommand (Done count) = Unit {0}
IsSayableCommand Abandon = Unit {0}
IsSayableCommand Quit = Unit {0}
IsSayableCommand Stop = Unit {0}

-- ---- tokens

front_utf8 : (ts us : List Token) → HaveUtf8 (ts ++ us) → HaveUtf8 ts
front_utf8 [] us h = tt
front_utf8 (t ∷ ts) us h = (h.0, front_utf8 ts us h.1)

back_utf8 : (ts us : List Token) → HaveUtf8 (ts ++ us) → HaveUtf8 us
back_utf8 [] us h = h
back_utf8 (t ∷ ts) us h = back_utf8 ts us h.1

more_utf8 : (us : List Token) → HaveUtf8 (more_tokens us) → HaveUtf8 us
more_utf8 [] h = tt
more_utf8 (u ∷ us) h = (h.1.0, more_utf8 us h.1.1)

list_utf8 : (us : List Token) → HaveUtf8 (list_tokens us) → HaveUtf8 us
list_utf8 [] h = tt
list_utf8 (u ∷ us) h = (h.1.0, more_utf8 us h.1.1)

-- ---- values, names, terms

value_said : (v : Value) (t : Token) → SaysValue v t → HaveUtf8 (t ∷ []) → is_small_value v ≡ true → IsSayableValue v
value_said (Int i) t s h small = (small, tt)
value_said (Text x) t s h small = (small, (subst (λ (u : Token). HaveUtf8 (u ∷ [])) s h).0)

row_said : (vs : Tuple) (us : List Token) → AllZip SaysValue vs us → HaveUtf8 us → list_all is_small_value vs ≡ true
    → IsSayableRow vs
row_said [] us z h small = All-nil IsSayableValue
row_said (v ∷ vs) [] z h small = absurd z
row_said (v ∷ vs) (u ∷ us) z h small =
    let both = and_parts (is_small_value v) (list_all is_small_value vs) small in
    All-cons IsSayableValue v vs (value_said v u z.0 (h.0, tt) both.0) (row_said vs us z.1 h.1 both.1)

names_said : (ns : List Bytes) (us : List Token) → AllZip SaysName ns us → All IsName ns
names_said [] us z = All-nil IsName
names_said (n ∷ ns) [] z = absurd z
names_said (n ∷ ns) (u ∷ us) z = All-cons IsName n ns z.0.0 (names_said ns us z.1)

term_said : (x : Term) (t : Token) → SaysTerm x t → HaveUtf8 (t ∷ []) → is_small_term x ≡ true → IsSayableTerm x
term_said (Variable x) t s h small = s.0
term_said Hole t s h small = tt
term_said (Constant v) t s h small = value_said v t s h small

terms_said : (xs : List Term) (us : List Token) → AllZip SaysTerm xs us → HaveUtf8 us → list_all is_small_term xs ≡ true
    → All IsSayableTerm xs
terms_said [] us z h small = All-nil IsSayableTerm
terms_said (x ∷ xs) [] z h small = absurd z
terms_said (x ∷ xs) (u ∷ us) z h small =
    let both = and_parts (is_small_term x) (list_all is_small_term xs) small in
    All-cons IsSayableTerm x xs (term_said x u z.0 (h.0, tt) both.0) (terms_said xs us z.1 h.1 both.1)

-- ---- queries

atom_said : (a : Atom) (ts : List Token) → SaysAtom a ts → HaveUtf8 ts → is_small_atom a ≡ true → IsSayableAtom a
atom_said a ts s h small =
    let k = subst HaveUtf8 s.3 h in
    record { relation = s.1; terms = terms_said a.terms s.0 s.2 (list_utf8 s.0 k.1) small }

comparison_said : (c : Comparison) (ts : List Token) → SaysComparison c ts → HaveUtf8 ts → is_small_value c.constant
    ≡ true → IsSayableComparison c
comparison_said c ts s h small =
    let k = subst HaveUtf8 s.3 h in
    record { variable = s.1; constant = value_said c.constant s.0 s.2 (k.1.1.0, tt) small }

abbrev ItemsSaid : List Item → Type 0
ItemsSaid items = All IsSayableAtom (atoms_among items) × All IsSayableComparison (comparisons_among items)

abbrev are_small : List Item → Bool
are_small items =
    list_all is_small_atom (atoms_among items)
    && list_all (λ (c : Comparison). is_small_value c.constant) (comparisons_among items)

item_front : (n : ℕ) (i : Item) (items : List Item) (ts : List Token) → SaysItem n i ts → HaveUtf8 ts
    → are_small (i ∷ items) ≡ true → (are_small items ≡ true → ItemsSaid items) → ItemsSaid (i ∷ items)
item_front n (atom a) items ts s h small more =
    let both = and_parts (is_small_atom a && list_all is_small_atom (atoms_among items))
    (list_all (λ (c : Comparison). is_small_value c.constant) (comparisons_among items)) small in
    let first = and_parts (is_small_atom a) (list_all is_small_atom (atoms_among items)) both.0 in
    let rest = more (ap (λ (b : Bool). b && list_all (λ (c : Comparison). is_small_value c.constant)
    (comparisons_among items)) first.1 ∙ both.1) in
    (All-cons IsSayableAtom a (atoms_among items) (atom_said a ts s h first.0) rest.0, rest.1)
item_front n (comparison c) items ts s h small more =
    let both = and_parts (list_all is_small_atom (atoms_among items))
    (is_small_value c.constant && list_all (λ (d : Comparison). is_small_value d.constant) (comparisons_among items))
    small in
    let first = and_parts (is_small_value c.constant)
    (list_all (λ (d : Comparison). is_small_value d.constant) (comparisons_among items)) both.1 in
    let rest = more (ap (λ (b : Bool). b && list_all (λ (d : Comparison). is_small_value d.constant)
    (comparisons_among items)) both.0 ∙ first.1) in
    (rest.0, All-cons IsSayableComparison c (comparisons_among items) (comparison_said c ts s.0 h first.0) rest.1)

items_said : (n : ℕ) (items : List Item) (ts : List Token) → SaysItems n items ts → HaveUtf8 ts → are_small items ≡ true
    → ItemsSaid items
items_said n [] ts s h small = absurd s
items_said n (i ∷ []) ts s h small = item_front n i [] ts s h small
    (λ _. (All-nil IsSayableAtom, All-nil IsSayableComparison))
items_said n (i ∷ j ∷ js) ts (front, back, first, later, parts) h small =
    let k = subst HaveUtf8 parts h in
    item_front n i (j ∷ js) front first (front_utf8 front (comma ∷ back) k) small
    (λ less. items_said (past_item n i) (j ∷ js) back later (back_utf8 front (comma ∷ back) k).1 less)

query_said : (q : Query) (ts : List Token) → SaysCommand (Register q) ts → HaveUtf8 ts → is_in_range (Register q) ≡ true
    → IsSayableQuery q
query_said q ts (us, (heads, body, name, head, (items, said, atoms, comparisons, some), parts), whole) h small =
    let k = (subst HaveUtf8 whole h).1 in
    let l = (subst HaveUtf8 parts k).1 in
    let m = (back_utf8 (list_tokens heads) (arrow ∷ body) l).1 in
    let are : are_small items ≡ true =
    subst (λ (ms : List Atom).
    (list_all is_small_atom ms && list_all (λ (c : Comparison). is_small_value c.constant)
    (comparisons_among items)) ≡ true) atoms
    (subst (λ (cs : List Comparison).
    (list_all is_small_atom q.atoms && list_all (λ (c : Comparison). is_small_value c.constant) cs) ≡ true)
    comparisons small) in
    let both = items_said 0 items body said m are in record {
      name = name;
      head = names_said q.head heads head;
      atoms = subst (λ (ms : List Atom). All IsSayableAtom ms) (sym atoms) both.0;
      comparisons = subst (λ (cs : List Comparison). All IsSayableComparison cs) (sym comparisons) both.1;
    }

-- ---- commands

said_sayable : (c : Command) (ts : List Token) → SaysCommand c ts → HaveUtf8 ts → is_in_range c ≡ true
    → IsSayableCommand c
said_sayable (Rel name types) ts s h small = s.1
said_sayable (Add name row) ts s h small = (s.1.1, row_said row s.1.0 s.1.2 (subst HaveUtf8 s.1.3 h).1.1 small)
said_sayable (Del name row) ts s h small = (s.1.1, row_said row s.1.0 s.1.2 (subst HaveUtf8 s.1.3 h).1.1 small)
said_sayable (Register q) ts s h small = query_said q ts s h small
said_sayable (Union name members) ts s h small = (s.1, names_said members s.0 s.3)
said_sayable (Drop q) ts s h small = s.0
said_sayable (Open c q) ts s h small = (s.0, s.1)
said_sayable (Next c count) ts s h small = s.1
said_sayable (Close c) ts s h small = s.0
said_sayable (Has q row) ts s h small = (s.1, row_said row s.0 s.2 (subst HaveUtf8 s.3 h).1.1 small)
said_sayable (Watch q) ts s h small = s.0
said_sayable (Unwatch q) ts s h small = s.0
said_sayable (Explain q) ts s h small = s.0
said_sayable (Shape q) ts s h small = s.0
said_sayable Batch ts s h small = tt
said_sayable (Done count) ts s h small = tt
said_sayable Abandon ts s h small = tt
said_sayable Quit ts s h small = tt
said_sayable Stop ts s h small = tt

pub reading_says : (o : Option Command) (c : Command) → reading_in o ≡ says_command c → (o ≡ Some c)
    × (is_in_range c ≡ true)
reading_says None c e = absurd cc
reading_says (Some d) c e = by (is_in_range d) refl e
  where
    by : (b : Bool) → is_in_range d ≡ b → cond b (says_command d) (past_limit d) ≡ says_command c → (Some d ≡ Some c)
        × (is_in_range c ≡ true)
    by false k f = absurd cc
    by true k f =
        let same : d ≡ c = cc in
        (ap (λ (x : Command). Some x) same, subst (λ (x : Command). is_in_range x ≡ true) same k)

pub read_sayable : (l : Bytes) (c : Command) → reading_of l ≡ says_command c → IsSayableCommand c
read_sayable l c e =
    let k = reading_says (command_of l) c e in
    let s = (commands_are_spelled l c).0 k.0 in
    said_sayable c s.tokens s.says (texts_have_utf8 s.tokens l s.utf8 s.spelled) k.1

-- A line is no shorter than the query that it says.
abbrev pub IsShortCommand : Command → Type 0
IsShortCommand (Register q) = query_weight q ≤ LINE_BYTES
IsShortCommand c = Unit {0}

said_short : (c : Command) (ts : List Token) (l : Bytes) → SaysCommand c ts → IsSpelling ts l → length l ≤ LINE_BYTES
    → IsShortCommand c
said_short (Register q) ts l s spelled few = let less = query_less q ts l s spelled in omega (arith, less, few)
said_short c ts l s spelled few = tt

pub read_short : (l : Bytes) (c : Command) → reading_of l ≡ says_command c → length l ≤ LINE_BYTES → IsShortCommand c
read_short l c e few =
    let s = (commands_are_spelled l c).0 (reading_says (command_of l) c e).0 in
    said_short c s.tokens l s.says s.spelled few
