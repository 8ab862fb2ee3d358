-- What a search finds after a use was taken or given back.
use Rattle.std.proofs.Common.{◌≡◌, ◌≢◌, ℕ, ◌+◌, List, Option, Some, None, Result, Err}
use Rattle.std.proofs.Common.{refl, sym, ◌∙◌, subst, inl, inr, ap}
use Rattle.std.proofs.lemmas.Bool.{cases_eq}
use Rattle.djq_texts.specs.Known.{Known, known_at, with_less, HasNumber, HasNoNumber, IsOneToOne, Sets}
use Rattle.djq_arena.specs.declared.link.TheConstants.{SLOTS}
use Rattle.djq_texts.specs.Known.{TakesUse, FindsText, IsFullFor, texts_in_use, uses_of}
use Rattle.djq_texts.specs.declared.entry.TheConstants.{MOST_USES}
use Rattle.djq_texts.specs.declared.refusal.TextsRefusal.{TextsRefusal}
use Rattle.djq_texts.specs.declared.refusal.TextsRefusal.TheVariants.{Full, NoMem}

-- a text with a number is found there
pub found : (known : List (Option Known)) (text : List ℕ) (n : ℕ) (r : Option ℕ) → IsOneToOne known
    → HasNumber known n text → FindsText known text r → r ≡ Some n
found known text n None one has f = absurd (f n has)
found known text n (Some m) one has f = ap (λ (i : ℕ). Some i) (one text m n f has)

pub found_taken : (old new : List (Option Known)) (text : List ℕ) (n : ℕ) (r : Option ℕ) → IsOneToOne new
    → TakesUse old text n new → FindsText new text r → r ≡ Some n
found_taken old new text n r one h f = elim h [
  | inl e ↦ found new text n r one (1, e.sets.here) f
  | inr a ↦ found new text n r one (a.uses + 1, a.sets.here) f
]

pub found_no_more : (old new : List (Option Known)) (text : List ℕ) (n : ℕ) (r : Option ℕ) → IsOneToOne old
    → known_at old n ≡ Some (record { bytes = text; uses = 1 }) → Sets old n (with_less (known_at old n)) new
    → FindsText new text r → r ≡ None
found_no_more old new text n None one at s f = refl
found_no_more old new text n (Some m) one at s f = elim (cases_eq m n) [
  | inl here ↦
      let none : known_at new m ≡ None = ap (λ (i : ℕ). known_at new i) here ∙ s.here
      ∙ ap (λ (e : Option Known). with_less e) at in
      let some : known_at new m ≡ Some (record { bytes = text; uses = f.0 }) = f.1 in
      absurd cc
  | inr other ↦ absurd (other (one text m n (f.0, sym (s.others m other) ∙ f.1) (1, at)))
]

pub found_elsewhere : (old new : List (Option Known)) (n : ℕ) (now : Option Known) (text : List ℕ) (r : Option ℕ)
    → Sets old n now new → (HasNumber old n text → ⊥) → (HasNumber new n text → ⊥) → FindsText old text r
    → FindsText new text r
found_elsewhere old new n now text None s before after f = λ m has. elim (cases_eq m n) [
  | inl here ↦ after (subst (λ (i : ℕ). HasNumber new i text) here has)
  | inr other ↦ f m (has.0, sym (s.others m other) ∙ has.1)
]
found_elsewhere old new n now text (Some m) s before after f = elim (cases_eq m n) [
  | inl here ↦ absurd (before (subst (λ (i : ℕ). HasNumber old i text) here f))
  | inr other ↦ (f.0, s.others m other ∙ f.1)
]

-- ---- A use can be taken.

pub not_full_used : (known : List (Option Known)) (n : ℕ) (text : List ℕ) → IsOneToOne known → HasNumber known n text
    → uses_of (known_at known n) ≢ MOST_USES → IsFullFor known text → ⊥
not_full_used known n text one has fewer full = elim full [
  | inl most ↦
      let here : most.0 ≡ n = one text most.0 n (MOST_USES, most.1) has in
      fewer (ap (λ (i : ℕ). uses_of (known_at known i)) (sym here) ∙ ap (λ (e : Option Known). uses_of e) most.1)
  | inr many ↦ many.1 n has
]

pub not_full_unknown : (known : List (Option Known)) (text : List ℕ) → HasNoNumber known text
    → texts_in_use known ≢ SLOTS → IsFullFor known text → ⊥
not_full_unknown known text unknown less full = elim full [
  | inl most ↦ unknown most.0 (MOST_USES, most.1)
  | inr many ↦ less many.0
]

-- who is out of memory isn't full
pub out_of_memory : (r : Result ℕ TextsRefusal) (e : TextsRefusal) → r ≡ Err e → e ≡ NoMem → r ≡ Err Full → ⊥
out_of_memory r e is none full = cc
