-- The texts that are known are texts that lines can say: those of rows, and of constants of queries.
use Rattle.std.specs.Prelude.{ℕ, suc, List, [], ◌∷◌, ◌==◌, ◌≡◌, ◌++◌, Bool, true, false, cond, nat_le, Option}
use Rattle.std.specs.Prelude.{None, Some, is_some, Err, All}
use Rattle.std.specs.List.{flat_map}
use Rattle.std.proofs.Common.{refl, sym, subst, inl, inr}
use Rattle.std.proofs.lemmas.List.Elements.{All-nil, All-cons, All-head, All-tail, All-push, All-append}
use Rattle.std.proofs.lemmas.List.Concat.{flat_map-cons}
use Rattle.djq_model.specs.declared.value.Value.TheVariants.{Int, Text}
use Rattle.djq_model.specs.declared.query.Query.{Query}
use Rattle.djq_model.specs.declared.query.Atom.{Atom}
use Rattle.djq_model.specs.declared.query.Term.{Term}
use Rattle.djq_model.specs.declared.query.Term.TheVariants.{Variable, Hole, Constant}
use Rattle.djq_model.specs.declared.query.Comparison.{Comparison}
use Rattle.djq_model.specs.declared.relation.Relation.{Relation}
use Rattle.djq_model.specs.Data.{Bytes, Tuple}
use Rattle.djq_model.specs.Known.{knows, learned, all_learned, texts_in}
use Rattle.djq_protocol.specs.declared.answer.Refusal.{Refusal}
use Rattle.djq_protocol.specs.declared.answer.Refusal.TheVariants.{Limit, NoMemory}
use Rattle.djq_protocol.specs.declared.held.Verb.{Verb}
use Rattle.djq_protocol.specs.declared.held.Verb.TheVariants.{Add, Delete}
use Rattle.djq_protocol.specs.declared.held.LineRefusal.{LineRefusal}
use Rattle.djq_protocol.specs.declared.held.LineRefusal.TheVariants.{
  Limit as OverLimit,
  Absent,
  NoMemory as OutOfMemory,
}
use Rattle.djq_protocol.specs.declared.held.DoneRefusal.{DoneRefusal}
use Rattle.djq_protocol.specs.declared.held.DoneRefusal.TheVariants.{
  OtherNumber,
  Line,
  LastChange,
  NoMemory as NoneLeft,
}
use Rattle.djq_protocol.specs.Conditions.{Answers}
use Rattle.djq_protocol.specs.Variables.{constant_of, compared_behind, constants_from, constants_of}
use Rattle.djq_store_spec.specs.Store.{Store}
use Rattle.djq_store_spec.specs.Relations.{RefusedByTexts}
use Rattle.djq_store_spec.specs.Held.{HeldLine}
use Rattle.djq_store_spec.specs.Judging.{texts_by, texts_added, texts_after, StopsAtLine}
use Rattle.djq_store_spec.specs.Done.{RefusesDone}
use Rattle.djq_mirror_laws.specs.Sayable.{IsSayableValue, IsSayableRow, IsSayableText, IsSayableTerm, IsSayableAtom}
use Rattle.djq_mirror_laws.specs.Sayable.{IsSayableComparison, IsSayableQuery, IsSayableHeld}

-- ---- texts that become known

learned_said : (known : List Bytes) (t : Bytes) → IsSayableText t → All IsSayableText known
    → All IsSayableText (learned known t)
learned_said known t said all = by (knows known t)
  where
    by : (b : Bool) → All IsSayableText (cond b known (known ++ t ∷ []))
    by true = all
    by false = All-push IsSayableText known t all said

pub all_learned_said : (known ts : List Bytes) → All IsSayableText ts → All IsSayableText known
    → All IsSayableText (all_learned known ts)
all_learned_said known [] said all = all
all_learned_said known (t ∷ ts) said all =
    all_learned_said (learned known t) ts (All-tail IsSayableText t ts said)
    (learned_said known t (All-head IsSayableText t ts said) all)

first_said : {A : Type 0} (P : A → Type 0) (xs ys : List A) → All P (xs ++ ys) → All P xs
first_said P [] ys h = All-nil P
first_said P (x ∷ xs) ys h =
    All-cons P x xs (All-head P x (xs ++ ys) h) (first_said P xs ys (All-tail P x (xs ++ ys) h))

rest_said : {A : Type 0} (P : A → Type 0) (xs ys : List A) → All P (xs ++ ys) → All P ys
rest_said P [] ys h = h
rest_said P (x ∷ xs) ys h = rest_said P xs ys (All-tail P x (xs ++ ys) h)

-- The first of some texts have become known.
some_learned : (old first rest texts known : List Bytes) → texts ≡ first ++ rest → known ≡ all_learned old first
    → All IsSayableText texts → All IsSayableText old → All IsSayableText known
some_learned old first rest texts known parts is said all =
    subst (λ (ts : List Bytes). All IsSayableText ts) (sym is)
    (all_learned_said old first
    (first_said IsSayableText first rest (subst (λ (ts : List Bytes). All IsSayableText ts) parts said)) all)

pub late_said : (old : Store) (texts : List Bytes) (new : Store) (r : Refusal) → RefusedByTexts old texts new r
    → All IsSayableText texts → All IsSayableText old.texts → All IsSayableText new.texts
late_said old texts new Limit h said all =
    some_learned old.texts (h.0).first ((h.0).next ∷ (h.0).rest) texts new.texts h.0.parts h.0.learned said all
late_said old texts new NoMemory h said all =
    some_learned old.texts (h.0).first (h.0).rest texts new.texts h.0.parts h.0.learned said all
late_said old texts new _ h said all = absurd h

-- A command that is refused leaves what was known, but for a late refusal.
pub refused_said : {A : Type 0} (o : Option Refusal) (r : Refusal) (D : A → Type 0) (L : Refusal → Type 0)
    (old new : Store)
    → Answers o (Err r) D L → (is_some o ≡ true → new ≡ old) → (L r → All IsSayableText new.texts)
    → All IsSayableText old.texts → All IsSayableText new.texts
refused_said None r D L old new h stays late all = late h
refused_said (Some t) r D L old new h stays late all =
    subst (λ (st : Store). All IsSayableText st.texts) (sym (stays refl)) all

-- ---- the texts of rows, and of a query's constants

pub row_texts : (row : Tuple) → IsSayableRow row → All IsSayableText (texts_in row)
row_texts [] h = All-nil IsSayableText
row_texts (Int i ∷ vs) h = row_texts vs (All-tail IsSayableValue (Int i) vs h)
row_texts (Text t ∷ vs) h =
    All-cons IsSayableText t (texts_in vs) (All-head IsSayableValue (Text t) vs h)
    (row_texts vs (All-tail IsSayableValue (Text t) vs h))

-- what each gives, all give
all_give : {A : Type 0} (P : A → Type 0) (f : A → Tuple) → ((a : A) → P a → IsSayableRow (f a)) → (xs : List A)
    → All P xs → IsSayableRow (flat_map f xs)
all_give P f gives [] h = All-nil IsSayableValue
all_give P f gives (x ∷ xs) h =
    subst IsSayableRow (sym (flat_map-cons f x xs))
    (All-append IsSayableValue (f x) (flat_map f xs) (gives x (All-head P x xs h))
    (all_give P f gives xs (All-tail P x xs h)))

term_gives : (t : Term) → IsSayableTerm t → IsSayableRow (constant_of t)
term_gives (Variable x) h = All-nil IsSayableValue
term_gives Hole h = All-nil IsSayableValue
term_gives (Constant v) h = All-cons IsSayableValue v [] h (All-nil IsSayableValue)

where_gives : (b : Bool) (c : Comparison) → IsSayableComparison c → IsSayableRow (cond b (c.constant ∷ []) [])
where_gives true c h = All-cons IsSayableValue c.constant [] h.constant (All-nil IsSayableValue)
where_gives false c h = All-nil IsSayableValue

from_said : (n : ℕ) (atoms : List Atom) (cs : List Comparison) → All IsSayableAtom atoms → All IsSayableComparison cs
    → IsSayableRow (constants_from n atoms cs)
from_said n [] cs atoms compared =
    all_give IsSayableComparison (λ (c : Comparison). cond (nat_le n c.behind) (c.constant ∷ []) [])
    (λ c h. where_gives (nat_le n c.behind) c h) cs compared
from_said n (a ∷ more) cs atoms compared =
    All-append IsSayableValue (compared_behind n cs) (flat_map constant_of a.terms ++ constants_from (suc n) more cs)
    (all_give IsSayableComparison (λ (c : Comparison). cond (c.behind == n) (c.constant ∷ []) [])
    (λ c h. where_gives (c.behind == n) c h) cs compared)
    (All-append IsSayableValue (flat_map constant_of a.terms) (constants_from (suc n) more cs)
    (all_give IsSayableTerm constant_of term_gives a.terms (All-head IsSayableAtom a more atoms).terms)
    (from_said (suc n) more cs (All-tail IsSayableAtom a more atoms) compared))

pub constants_said : (q : Query) → IsSayableQuery q → All IsSayableText (texts_in (constants_of q))
constants_said q said = row_texts (constants_of q) (from_said 0 q.atoms q.comparisons said.atoms said.comparisons)

-- ---- lines that a batch holds

line_texts : (h : HeldLine) → IsSayableHeld h → All IsSayableText (texts_added h)
line_texts h said = by h.verb
  where
    by : (v : Verb) → All IsSayableText (texts_by v h.row)
    by Add = row_texts h.row said.row
    by Delete = All-nil IsSayableText

pub texts_after_said : (known : List Bytes) (lines : List HeldLine) → All IsSayableHeld lines
    → All IsSayableText known
    → All IsSayableText (texts_after known lines)
texts_after_said known [] said all = all
texts_after_said known (h ∷ hs) said all =
    texts_after_said (all_learned known (texts_added h)) hs (All-tail IsSayableHeld h hs said)
    (all_learned_said known (texts_added h) (line_texts h (All-head IsSayableHeld h hs said)) all)

stop_texts : (relations : List Relation) (front : List HeldLine) (texts : List Bytes) (h : HeldLine)
    (known : List Bytes) (r : LineRefusal)
    → StopsAtLine relations front texts h known r → IsSayableHeld h → All IsSayableText texts
    → All IsSayableText known
stop_texts relations front texts h known OverLimit (inl stops) said all =
    subst (λ (ts : List Bytes). All IsSayableText ts) (sym stops.1) all
stop_texts relations front texts h known OverLimit (inr stops) said all =
    some_learned texts (stops.1).first ((stops.1).next ∷ (stops.1).rest) (texts_added h) known stops.1.parts
    stops.1.learned (line_texts h said) all
stop_texts relations front texts h known Absent stops said all =
    subst (λ (ts : List Bytes). All IsSayableText ts) (sym stops.1) all
stop_texts relations front texts h known OutOfMemory stops said all =
    some_learned texts (stops.2).first (stops.2).rest (texts_added h) known stops.2.parts stops.2.learned
    (line_texts h said) all

pub refused_texts : (relations : List Relation) (texts : List Bytes) (lines : List HeldLine) (known : List Bytes)
    (r : DoneRefusal)
    → RefusesDone relations texts lines known r → All IsSayableHeld lines → All IsSayableText texts
    → All IsSayableText known
refused_texts relations texts lines known OtherNumber h said all =
    subst (λ (ts : List Bytes). All IsSayableText ts) (sym h) all
refused_texts relations texts lines known (Line r) h said all =
    let parts = subst (λ (hs : List HeldLine). All IsSayableHeld hs) h.parts said in
    let behind = rest_said IsSayableHeld h.front (h.at ∷ h.rest) parts in
    stop_texts relations h.front (texts_after texts h.front) h.at known r.refusal h.stops
    (All-head IsSayableHeld h.at h.rest behind)
    (texts_after_said texts h.front (first_said IsSayableHeld h.front (h.at ∷ h.rest) parts) all)
refused_texts relations texts lines known LastChange h said all =
    subst (λ (ts : List Bytes). All IsSayableText ts) (sym h) (texts_after_said texts lines said all)
refused_texts relations texts lines known NoneLeft h said all =
    subst (λ (ts : List Bytes). All IsSayableText ts) (sym h) (texts_after_said texts lines said all)
