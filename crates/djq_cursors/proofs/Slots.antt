-- Cursors in their slots.
use Rattle.std.proofs.Common.{ℕ, ◌+◌, List, [], ◌∷◌, ◌≡◌, Bool, true, ap, ap₂, ◌∙◌, zero, suc, false, length, inl, inr}
use Rattle.std.proofs.Common.{sym, subst, arith}
use Rattle.std.specs.Prelude.{Option, None, Some, option_map, map, if◌then◌else◌, slice_set}
use Rattle.std.specs.Borrow.{MutBor}
use Rattle.slab.specs.Slab.{CalledAt, RetainsFrom}
use Rattle.std.proofs.lemmas.Bool.{cases_eq, cases_lt}
use Rattle.std.proofs.lemmas.List.{get_or_past, get_or-set_same, get_or-set_other, length-set, set-get_or}
use Rattle.std.proofs.lemmas.Option.{same_Some}
use Rattle.djq_model.specs.Data.{Bytes}
use Rattle.djq_cursors.specs.declared.progress.Progress.{Progress}
use Rattle.djq_cursors.specs.declared.progress.Progress.TheVariants.{Open, Stale}
use Rattle.djq_cursors.specs.Slots.{slot_at, OpensSlot, EachIs, outdated_progress, outdated_slots}

-- ---- What is left of a slab's values where each call changes a value and keeps it.

pub retained_all : {T F : Type 0} (step : F → ℕ → MutBor T → Bool → MutBor T → F → Type 0) (h : T → T)
    (Same : F → Type 0)
    (says : (f : F) (key : ℕ) (old : T) (keep : Bool) (new : T) (next : F) → Same f
    → CalledAt step f key old keep new next → (keep ≡ true) × (new ≡ h old) × Same next)
    → (f : F) (key : ℕ) (old kept : List (Option T)) → Same f → RetainsFrom step f key old kept → kept
    ≡ map (option_map h) old
retained_all step h Same says f key [] kept s r = r
retained_all step h Same says f key (None ∷ rest) kept s r = r.1
    ∙ ap (λ xs. None ∷ xs) (retained_all step h Same says f (key + 1) rest r.0 s r.2)
retained_all step h Same says f key (Some old ∷ rest) kept s r =
    let d = says f key old r.0 r.1 r.2 s r.3 in
    let here : (if r.0 then Some r.1 else None) ≡ Some (h old) = ap (λ b. if b then Some r.1 else None) d.0
    ∙ ap Some d.1 in
    r.5 ∙ ap₂ (λ x xs. x ∷ xs) here (retained_all step h Same says r.2 (key + 1) rest r.4 d.2 r.6)

-- ---- What holds of each cursor in its slot.

module _ {C : Type 0} where
  -- ---- one slot is set

  pub put_each : (P : Progress C → Type 0) (slots : List (Option (Progress C))) (k : ℕ)
      (p : Progress C) → EachIs P slots → P p → EachIs P (slice_set slots k (Some p))
  put_each P slots k p all fit = record {
    each = λ j q e.
        elim (cases_eq j k) [
          | inl same ↦ elim (cases_lt k (length slots)) [
            | inl low ↦ subst P
                (same_Some p q
                (sym (get_or-set_same slots k (Some p) None low)
                ∙ ap (λ (i : ℕ). slot_at (slice_set slots k (Some p)) i) (sym same) ∙ e))
                fit
            | inr past ↦
                let none : slot_at (slice_set slots k (Some p)) j ≡ None =
                get_or_past (slice_set slots k (Some p)) j None
                (let s = length-set slots k (Some p) in omega arith) in
                absurd cc
          ]
          | inr other ↦ all.each j q (sym (get_or-set_other slots k j (Some p) None other) ∙ e)
        ];
  }

  -- what is put into a slot that has a cursor stands there
  pub set_there : (slots : List (Option (Progress C))) (k : ℕ) (p q : Progress C)
      → slot_at slots k ≡ Some p → slot_at (slice_set slots k (Some q)) k ≡ Some q
  set_there slots k p q e =
      elim (cases_lt k (length slots)) [
        | inl low ↦ get_or-set_same slots k (Some q) None low
        | inr past ↦
            let none : slot_at slots k ≡ None = get_or_past slots k None (omega arith) in absurd cc
      ]

  -- what a slot has is put into it again
  pub put_same : (slots : List (Option (Progress C))) (k : ℕ) (p q : Progress C)
      → slot_at slots k ≡ Some p → q ≡ p → slice_set slots k (Some q) ≡ slots
  put_same slots k p q there e =
      ap (λ (o : Option (Progress C)). slice_set slots k o)
      (ap (λ (x : Progress C). Some x) e ∙ sym there)
      ∙ set-get_or slots k None

  -- ---- a cursor is opened

  pub open_each : (P : Progress C → Type 0) (old : List (Option (Progress C))) (k : ℕ) (cursor : C)
      (new : List (Option (Progress C))) → EachIs P old → OpensSlot old k cursor new
      → P (Open cursor false) → EachIs P new
  open_each P old k cursor new all opens fit = record {
    each = λ j q e.
        elim (cases_eq j k) [
          | inl here ↦
              subst P
              (same_Some (Open cursor false) q
              (sym opens.sets.there ∙ ap (slot_at new) (sym here) ∙ e))
              fit
          | inr other ↦ all.each j q (sym (opens.sets.others j other) ∙ e)
        ];
  }

  -- ---- all become stale

  none_open : (P : Progress C → Type 0) → ((r : Bytes) (m : ℕ) → P (Stale r m)) → (relation : Bytes)
      (n : ℕ) (slot : Option (Progress C)) (p : Progress C)
      → option_map (outdated_progress relation n) slot ≡ Some p → P p
  none_open P stale relation n None p e = absurd cc
  none_open P stale relation n (Some (Open c b)) p e =
      subst P (same_Some (Stale relation n) p e) (stale relation n)
  none_open P stale relation n (Some (Stale r m)) p e =
      subst P (same_Some (Stale r m) p e) (stale r m)

  stale_at : (P : Progress C → Type 0) → ((r : Bytes) (m : ℕ) → P (Stale r m)) → (relation : Bytes)
      (n : ℕ) (slots : List (Option (Progress C))) (k : ℕ) (p : Progress C)
      → slot_at (outdated_slots relation n slots) k ≡ Some p → P p
  stale_at P stale relation n [] zero p e = absurd cc
  stale_at P stale relation n [] (suc k) p e = absurd cc
  stale_at P stale relation n (slot ∷ slots) zero p e = none_open P stale relation n slot p e
  stale_at P stale relation n (slot ∷ slots) (suc k) p e =
      stale_at P stale relation n slots k p e

  -- What holds of cursors that are stale holds of all, once they are made so.
  pub stale_each : (P : Progress C → Type 0) → ((r : Bytes) (m : ℕ) → P (Stale r m))
      → (relation : Bytes) (n : ℕ) (slots : List (Option (Progress C)))
      → EachIs P (outdated_slots relation n slots)
  stale_each P stale relation n slots = record { each = stale_at P stale relation n slots }
