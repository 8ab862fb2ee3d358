-- The lines that name rows first: no two of them are of the same row, and each line is of the row of one.
use Rattle.std.specs.Prelude.{ℕ, zero, suc, List, [], ◌∷◌, ◌≡◌, ◌⊎◌, ◌++◌, Bool, true, false, cond, Some, map, fold}
use Rattle.std.specs.Prelude.{slice_get, slice_set, All, AllPairs, Contains}
use Rattle.std.specs.List.{list_any}
use Rattle.std.proofs.Common.{refl, sym, ap, ap₂, ◌∙◌, subst, inl, inr, arith}
use Rattle.std.proofs.lemmas.List.Elements.{All-head, All-tail, All-nil, All-cons, All-contains, Contains-append_left}
use Rattle.std.proofs.lemmas.List.Elements.{Contains-append_right}
use Rattle.std.proofs.lemmas.Option.{slice_get_within, get_or_from_slice_get}
use Rattle.std.proofs.lemmas.List.Folds.{Any-from_list_any, list_any-from_Any}
use Rattle.djq_model.specs.declared.relation.Relation.{Relation}
use Rattle.djq_answer_laws.proofs.Lists.{nothing_there, first_or_later, first_there, later_there, some_one, one_there}
use Rattle.djq_answer_laws.proofs.Lists.{hold_each, pairs_head, pairs_tail, pairs_join}
use Rattle.djq_store_spec.specs.Held.{HeldLine}
use Rattle.djq_transaction.specs.declared.net.Copies.{Copies}
use Rattle.djq_store_spec.specs.Lines.{same_row, with_naming, first_lines, after_verb, copies_before, copies_after}
use Rattle.djq_transaction.specs.LookUp.{AreSame, IsRowNamed}
use Rattle.djq_transaction.specs.Net.{copies_by}
use Rattle.djq_transaction.proofs.NamedRows.{same_are, are_same, copies_step}

-- no two of these lines are of the same row
abbrev pub AreApart : List HeldLine → Type 0
AreApart firsts = AllPairs (λ g h. AreSame g h → ⊥) firsts

pub named_of : (firsts : List HeldLine) (h : HeldLine) → list_any (λ g. same_row g h) firsts ≡ true
    → IsRowNamed firsts h
named_of firsts h e =
    let o = some_one (λ (g : HeldLine). same_row g h ≡ true) firsts
    (Any-from_list_any (λ (g : HeldLine). same_row g h) firsts e) in
    one_there (λ (g : HeldLine). AreSame g h) firsts o.0 o.1 (same_are o.0 h o.2)

pub not_named : (firsts : List HeldLine) (h : HeldLine) → list_any (λ g. same_row g h) firsts ≡ false
    → IsRowNamed firsts h
    → ⊥
not_named firsts h e n =
    let o = some_one (λ (g : HeldLine). AreSame g h) firsts n in
    let yes : list_any (λ (g : HeldLine). same_row g h) firsts ≡ true =
    list_any-from_Any (λ (g : HeldLine). same_row g h) firsts
    (one_there (λ (g : HeldLine). same_row g h ≡ true) firsts o.0 o.1 (are_same o.0 h o.2)) in
    absurd (cc (yes, e))

-- with one line more they are still apart
pub with_apart : (firsts : List HeldLine) (h : HeldLine) → AreApart firsts → AreApart (with_naming firsts h)
with_apart firsts h apart = by (list_any (λ (g : HeldLine). same_row g h) firsts) refl
  where
    by : (b : Bool) → list_any (λ (g : HeldLine). same_row g h) firsts ≡ b
        → AreApart (cond b firsts (firsts ++ h ∷ []))
    by true e = apart
    by false e = pairs_join (λ (g k : HeldLine). AreSame g k → ⊥) firsts (h ∷ []) apart
        (λ i j d less within. absurd (omega (arith, less, within)))
        (hold_each (λ (g : HeldLine). All (λ (k : HeldLine). AreSame g k → ⊥) (h ∷ [])) firsts
        (λ g k. All-cons (λ (m : HeldLine). AreSame g m → ⊥) h []
        (λ same. not_named firsts h e (one_there (λ (m : HeldLine). AreSame m h) firsts g k same))
        (All-nil (λ (m : HeldLine). AreSame g m → ⊥))))

pub firsts_apart : (seen rest : List HeldLine) → AreApart seen → AreApart (fold with_naming seen rest)
firsts_apart seen [] apart = apart
firsts_apart seen (h ∷ rest) apart = firsts_apart (with_naming seen h) rest (with_apart seen h apart)

-- the copies of a row that no line names are those of before
pub same_trans : (f g h : HeldLine) → AreSame f g → AreSame g h → AreSame f h
same_trans f g h s t = record { relation = s.relation ∙ t.relation; row = s.row ∙ t.row }

pub same_back : (g h : HeldLine) → AreSame g h → AreSame h g
same_back g h s = record { relation = sym s.relation; row = sym s.row }

pub not_same : (g h : HeldLine) → (AreSame g h → ⊥) → same_row g h ≡ false
not_same g h apart = by (same_row g h) refl
  where
    by : (b : Bool) → same_row g h ≡ b → b ≡ false
    by false e = refl
    by true e = absurd (apart (same_are g h e))

-- the copies of a row after a line of another one, and of the same one
pub copies_other : (relations : List Relation) (lines : List HeldLine) (h g : HeldLine) → (AreSame h g → ⊥)
    → copies_by relations (lines ++ h ∷ []) g ≡ copies_by relations lines g
copies_other relations lines h g apart =
    ap (λ (n : ℕ). record { before = copies_before relations g; after = n })
    (copies_step relations lines h g
    ∙ ap (λ (b : Bool). cond b (after_verb h.verb (copies_after relations lines g)) (copies_after relations lines g))
    (not_same h g apart))

pub copies_here : (relations : List Relation) (lines : List HeldLine) (h g : HeldLine) → AreSame h g
    → copies_by relations (lines ++ h ∷ []) g
    ≡ record { before = copies_before relations g; after = after_verb h.verb (copies_after relations lines g) }
copies_here relations lines h g s =
    ap (λ (n : ℕ). record { before = copies_before relations g; after = n })
    (copies_step relations lines h g
    ∙ ap (λ (b : Bool). cond b (after_verb h.verb (copies_after relations lines g)) (copies_after relations lines g))
    (are_same h g s))

pub copies_others : (relations : List Relation) (lines : List HeldLine) (h : HeldLine) (firsts : List HeldLine)
    → All (λ (g : HeldLine). AreSame h g → ⊥) firsts
    → map (copies_by relations (lines ++ h ∷ [])) firsts ≡ map (copies_by relations lines) firsts
copies_others relations lines h [] none = refl
copies_others relations lines h (g ∷ firsts) none =
    ap₂ (λ (c : Copies) (cs : List Copies). c ∷ cs)
    (copies_other relations lines h g (All-head (λ (k : HeldLine). AreSame h k → ⊥) g firsts none))
    (copies_others relations lines h firsts (All-tail (λ (k : HeldLine). AreSame h k → ⊥) g firsts none))

-- one line more changes the copies at its row's place alone
pub copies_set : (relations : List Relation) (lines : List HeldLine) (h : HeldLine) (firsts : List HeldLine) (at : ℕ)
    (g : HeldLine) → AreApart firsts → slice_get firsts at ≡ Some g → AreSame h g
    → slice_set (map (copies_by relations lines) firsts) at
    (record { before = copies_before relations g; after = after_verb h.verb (copies_after relations lines g) })
    ≡ map (copies_by relations (lines ++ h ∷ [])) firsts
copies_set relations lines h [] at g apart there s = absurd (cc there)
copies_set relations lines h (f ∷ firsts) zero g apart there s =
    let same : f ≡ g = cc there in
    ap₂ (λ (c : Copies) (cs : List Copies). c ∷ cs)
    (sym (copies_here relations lines h g s)
    ∙ ap (λ (k : HeldLine). copies_by relations (lines ++ h ∷ []) k) (sym same))
    (sym (copies_others relations lines h firsts
    (hold_each (λ (k : HeldLine). AreSame h k → ⊥) firsts
    (λ k c t. All-contains (λ (m : HeldLine). AreSame f m → ⊥) firsts k
    (pairs_head (λ (p q : HeldLine). AreSame p q → ⊥) f firsts apart) c
    (subst (λ (m : HeldLine). AreSame m k) (sym same) (same_trans g h k (same_back h g s) t))))))
copies_set relations lines h (f ∷ firsts) (suc at) g apart there s =
    ap₂ (λ (c : Copies) (cs : List Copies). c ∷ cs)
    (sym (copies_other relations lines h f
    (λ t. All-contains (λ (m : HeldLine). AreSame f m → ⊥) firsts g
    (pairs_head (λ (p q : HeldLine). AreSame p q → ⊥) f firsts apart) (at_there firsts at g there)
    (same_trans f h g (same_back h f t) s))))
    (copies_set relations lines h firsts at g
    (pairs_tail (λ (p q : HeldLine). AreSame p q → ⊥) f firsts apart) there s)
  where
    at_there : (xs : List HeldLine) (i : ℕ) (x : HeldLine) → slice_get xs i ≡ Some x → Contains xs x
    at_there xs i x e = (i, slice_get_within xs i x e, get_or_from_slice_get xs i x x e)

-- ---- each line is named by a first one

named_more : (firsts : List HeldLine) (h g : HeldLine) → IsRowNamed firsts g → IsRowNamed (with_naming firsts h) g
named_more firsts h g n = by (list_any (λ (k : HeldLine). same_row k h) firsts)
  where
    by : (b : Bool) → IsRowNamed (cond b firsts (firsts ++ h ∷ [])) g
    by true = n
    by false = let o = some_one (λ (k : HeldLine). AreSame k g) firsts n in
        one_there (λ (k : HeldLine). AreSame k g) (firsts ++ h ∷ []) o.0
        (Contains-append_left firsts (h ∷ []) o.0 o.1) o.2

pub named_itself : (firsts : List HeldLine) (h : HeldLine) → IsRowNamed (with_naming firsts h) h
named_itself firsts h = by (list_any (λ (k : HeldLine). same_row k h) firsts) refl
  where
    by : (b : Bool) → list_any (λ (k : HeldLine). same_row k h) firsts ≡ b
        → IsRowNamed (cond b firsts (firsts ++ h ∷ [])) h
    by true e = named_of firsts h e
    by false e = one_there (λ (k : HeldLine). AreSame k h) (firsts ++ h ∷ []) h
        (Contains-append_right firsts (h ∷ []) h (first_there h [] h refl)) (record { relation = refl; row = refl })

named_on : (seen rest : List HeldLine) (g : HeldLine) → IsRowNamed seen g → IsRowNamed (fold with_naming seen rest) g
named_on seen [] g n = n
named_on seen (h ∷ rest) g n = named_on (with_naming seen h) rest g (named_more seen h g n)

all_named : (seen rest : List HeldLine) (g : HeldLine) → Contains rest g → IsRowNamed (fold with_naming seen rest) g
all_named seen [] g k = absurd (nothing_there g k)
all_named seen (h ∷ rest) g k = step (first_or_later h rest g k) (λ c. all_named (with_naming seen h) rest g c)
  where
    step : (h ≡ g) ⊎ Contains rest g → (Contains rest g → IsRowNamed (fold with_naming (with_naming seen h) rest) g)
        → IsRowNamed (fold with_naming (with_naming seen h) rest) g
    step (inl same) more = named_on (with_naming seen h) rest g
        (subst (λ (k : HeldLine). IsRowNamed (with_naming seen h) k) same (named_itself seen h))
    step (inr c) more = more c

pub lines_named : (lines : List HeldLine) (g : HeldLine) → Contains lines g → IsRowNamed (first_lines lines) g
lines_named lines g k = all_named [] lines g k

-- the copies of a row that no line names are those of before
unnamed : (n : ℕ) (lines : List HeldLine) (h : HeldLine) → ((g : HeldLine) → Contains lines g → AreSame g h → ⊥)
    → fold (λ m g. cond (same_row g h) (after_verb g.verb m) m) n lines ≡ n
unnamed n [] h none = refl
unnamed n (g ∷ lines) h none =
    ap (λ (b : Bool). fold (λ m k. cond (same_row k h) (after_verb k.verb m) m) (cond b (after_verb g.verb n) n) lines)
    (not_same g h (none g (first_there g lines g refl)))
    ∙ unnamed n lines h (λ k c. none k (later_there g lines k c))

pub unnamed_copies : (relations : List Relation) (lines : List HeldLine) (h : HeldLine)
    → (IsRowNamed (first_lines lines) h → ⊥) → copies_after relations lines h ≡ copies_before relations h
unnamed_copies relations lines h none = unnamed (copies_before relations h) lines h
    (λ g k s. none (let n = lines_named lines g k in
    let o = some_one (λ (f : HeldLine). AreSame f g) (first_lines lines) n in
    one_there (λ (f : HeldLine). AreSame f h) (first_lines lines) o.0 o.1 (same_trans o.0 g h o.2 s)))
