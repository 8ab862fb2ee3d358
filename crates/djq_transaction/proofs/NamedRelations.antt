-- The relations that lines name: each once, and each line's is among them.
use Rattle.std.specs.Prelude.{List, [], ◌∷◌, ◌≡◌, ◌≢◌, ◌++◌, ◌||◌, Bool, true, false, cond, fold, All, AllPairs, Contains}
use Rattle.std.specs.List.{list_any}
use Rattle.std.proofs.Common.{refl, sym, ap, ◌∙◌, arith}
use Rattle.std.proofs.lemmas.List.Elements.{All-nil, All-cons, All-head, All-tail, All-append, All-contains, Contains-append_right}
use Rattle.std.proofs.lemmas.List.Folds.{list_any-append, list_any-from_Any}
use Rattle.std.proofs.lemmas.List.Sums.{fold-append}
use Rattle.djq_model.specs.Data.{Bytes, bytes_eq}
use Rattle.djq_model.specs.Equality.{bytes_eq-decides}
use Rattle.djq_answer_laws.proofs.Lists.{first_there, one_there, some_one, hold_each, pairs_join}
use Rattle.djq_store_spec.specs.Held.{HeldLine}
use Rattle.djq_store_spec.specs.Lines.{same_row, with_naming, first_lines}
use Rattle.djq_transaction.specs.LookUp.{AreSame}
use Rattle.djq_transaction.specs.Grouped.{with_relation_named, relations_named}
use Rattle.djq_transaction.proofs.FirstLines.{named_of}

abbrev pub is_named : Bytes → List Bytes → Bool
is_named name names = list_any (λ m. bytes_eq m name) names

pub there_named : (names : List Bytes) (m name : Bytes) → Contains names m → m ≡ name → is_named name names ≡ true
there_named names m name k same = list_any-from_Any (λ (n : Bytes). bytes_eq n name) names
    (one_there (λ (n : Bytes). bytes_eq n name ≡ true) names m k ((bytes_eq-decides m name).1 same))

pub named_once : (names : List Bytes) (rest : List HeldLine) → AllPairs (λ m n. m ≢ n) names
    → AllPairs (λ m n. m ≢ n) (fold with_relation_named names rest)
named_once names [] d = d
named_once names (h ∷ rest) d =
    named_once (with_relation_named names h) rest (by (is_named h.relation names) refl)
  where
    by : (b : Bool) → is_named h.relation names ≡ b
        → AllPairs (λ m n. m ≢ n) (cond b names (names ++ h.relation ∷ []))
    by true e = d
    by false e = pairs_join (λ (m n : Bytes). m ≢ n) names (h.relation ∷ []) d
        (λ i j x less within. absurd (omega (arith, less, within)))
        (hold_each (λ (m : Bytes). All (λ (n : Bytes). m ≢ n) (h.relation ∷ [])) names
        (λ m k. All-cons (λ (n : Bytes). m ≢ n) h.relation []
        (λ same. let yes = there_named names m h.relation k same in absurd (cc (yes, e)))
        (All-nil (λ (n : Bytes). m ≢ n))))

pub named_hold : (P : Bytes → Type 0) (names : List Bytes) (rest : List HeldLine) → All P names
    → All (λ h. P h.relation) rest → All P (fold with_relation_named names rest)
named_hold P names [] p q = p
named_hold P names (h ∷ rest) p q =
    named_hold P (with_relation_named names h) rest (by (is_named h.relation names))
    (All-tail (λ (g : HeldLine). P g.relation) h rest q)
  where
    by : (b : Bool) → All P (cond b names (names ++ h.relation ∷ []))
    by true = p
    by false = All-append P names (h.relation ∷ []) p
        (All-cons P h.relation [] (All-head (λ (g : HeldLine). P g.relation) h rest q) (All-nil P))

stays_named : (name : Bytes) (names : List Bytes) (rest : List HeldLine) → is_named name names ≡ true
    → is_named name (fold with_relation_named names rest) ≡ true
stays_named name names [] e = e
stays_named name names (h ∷ rest) e =
    stays_named name (with_relation_named names h) rest (by (is_named h.relation names))
  where
    by : (b : Bool) → is_named name (cond b names (names ++ h.relation ∷ [])) ≡ true
    by true = e
    by false = list_any-append (λ (m : Bytes). bytes_eq m name) names (h.relation ∷ [])
        ∙ ap (λ (b : Bool). b || is_named name (h.relation ∷ [])) e

pub itself_named : (names : List Bytes) (h : HeldLine) → is_named h.relation (with_relation_named names h) ≡ true
itself_named names h = by (is_named h.relation names) refl
  where
    by : (b : Bool) → is_named h.relation names ≡ b
        → is_named h.relation (cond b names (names ++ h.relation ∷ [])) ≡ true
    by true e = e
    by false e = there_named (names ++ h.relation ∷ []) h.relation h.relation
        (Contains-append_right names (h.relation ∷ []) h.relation (first_there h.relation [] h.relation refl)) refl

pub each_named : (names : List Bytes) (rest : List HeldLine)
    → All (λ g. is_named g.relation (fold with_relation_named names rest) ≡ true) rest
each_named names [] = All-nil (λ (g : HeldLine). is_named g.relation names ≡ true)
each_named names (h ∷ rest) =
    let after = fold with_relation_named (with_relation_named names h) rest in
    All-cons (λ (g : HeldLine). is_named g.relation after ≡ true) h rest
    (stays_named h.relation (with_relation_named names h) rest (itself_named names h))
    (each_named (with_relation_named names h) rest)

pub named_step : (some : List HeldLine) (h : HeldLine)
    → relations_named (some ++ h ∷ []) ≡ with_relation_named (relations_named some) h
named_step some h = fold-append with_relation_named [] some (h ∷ [])

-- ---- the lines that name rows first name all relations, in the same order

one_names : (firsts : List HeldLine) (h : HeldLine)
    → with_relation_named (relations_named firsts) h ≡ relations_named (with_naming firsts h)
one_names firsts h = by (list_any (λ (g : HeldLine). same_row g h) firsts) refl
  where
    by : (b : Bool) → list_any (λ (g : HeldLine). same_row g h) firsts ≡ b
        → with_relation_named (relations_named firsts) h ≡ relations_named (cond b firsts (firsts ++ h ∷ []))
    by true e =
        let o = some_one (λ (g : HeldLine). AreSame g h) firsts (named_of firsts h e) in
        let yes : is_named h.relation (relations_named firsts) ≡ true =
        ap (λ (n : Bytes). is_named n (relations_named firsts)) (sym o.2.relation)
        ∙ All-contains (λ (g : HeldLine). is_named g.relation (relations_named firsts) ≡ true) firsts o.0
        (each_named [] firsts) o.1 in
        ap (λ (b : Bool). cond b (relations_named firsts) (relations_named firsts ++ h.relation ∷ [])) yes
    by false e = sym (named_step firsts h)

names_on : (firsts rest : List HeldLine)
    → fold with_relation_named (relations_named firsts) rest ≡ relations_named (fold with_naming firsts rest)
names_on firsts [] = refl
names_on firsts (h ∷ rest) = ap (λ (ns : List Bytes). fold with_relation_named ns rest) (one_names firsts h)
    ∙ names_on (with_naming firsts h) rest

pub named_by_firsts : (lines : List HeldLine) → relations_named (first_lines lines) ≡ relations_named lines
named_by_firsts lines = sym (names_on [] lines)
