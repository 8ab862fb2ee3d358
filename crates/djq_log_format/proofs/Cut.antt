-- A file that is cut.
use Rattle.std.proofs.Common.{◌≡◌, ℕ, suc, zero, ◌+◌, ◌-◌, ◌<◌, inl, inr, List, [], ◌∷◌, ◌++◌, length}
use Rattle.std.proofs.Common.{refl, drop, take, sym, ap, ap₂, ◌∙◌, arith, length-append, length-take, append_assoc}
use Rattle.std.specs.List.{AllByRecursion}
use Rattle.std.proofs.Math.Seq.{take-append-add}
use Rattle.std.proofs.lemmas.Bool.{cases_lt}
use Rattle.std.proofs.lemmas.List.{take-append-drop}
use Rattle.djq_log_format.specs.Format.{log_header, seed, content_of, RecordStored, IsRecordStored}
use Rattle.djq_log_format.specs.Format.{digest_behind, records, digest_after, IsBadLog}
use Rattle.djq_log_format.specs.Laws.{CutIsSeen}
use Rattle.djq_log_format.proofs.Once.{head_same, tail_same, content_once, records_more}

nothing_bad : (d : ℕ) → IsBadLog d []
nothing_bad d = record {
  no_end = λ end. omega (arith, ap length end.is);
  no_record = λ lines r. omega (arith, ap length r.is);
}

-- a record that is cut within
cut_bad : (d : ℕ) (g : RecordStored) (m : ℕ) (rest : List ℕ) → IsRecordStored g → m < suc (length (content_of d g.lines))
    → IsBadLog d (take m (g.gate ∷ (content_of d g.lines ++ rest)))
cut_bad d g zero rest is few = nothing_bad d
cut_bad d g (suc k) rest is few = record {
  no_end = λ end. let shut = head_same g.gate 0 (take k all) end.behind end.is in omega (arith, shut, is.gate_open);
  no_record = λ lines r.
      let there : take k all ≡ content_of d lines ++ r.behind =
      tail_same g.gate r.gate (take k all) (content_of d lines ++ r.behind) r.is in
      let whole : content_of d lines ++ (r.behind ++ drop k all) ≡ content_of d g.lines ++ rest =
      sym (append_assoc (content_of d lines) r.behind (drop k all))
      ∙ ap (λ (vs : List ℕ). vs ++ drop k all) (sym there) ∙ take-append-drop k all in
      let same : lines ≡ g.lines = content_once d lines g.lines (r.behind ++ drop k all) rest r.is_group is.is_group whole in
      omega (
        arith,
        few,
        ap length there,
        length-take k all,
        length-append (content_of d lines) r.behind,
        ap (λ (ls : List (List ℕ)). length (content_of d ls)) same,
      );
}
  where
    all : List ℕ
    all = content_of d g.lines ++ rest

-- what a cut leaves of records and the gate behind them
record Cut (d : ℕ) (groups : List RecordStored) (bytes : List ℕ) : Type 0 where
  whole : List RecordStored
  later : List RecordStored
  cut : groups ≡ whole ++ later
  rest : List ℕ
  is : bytes ≡ records d whole ++ rest
  bad : IsBadLog (digest_after d whole) rest

cut_at : (d : ℕ) (groups : List RecordStored) (m : ℕ) → AllByRecursion IsRecordStored groups
    → m < length (records d groups ++ 0 ∷ []) → Cut d groups (take m (records d groups ++ 0 ∷ []))
unfolding records digest_after
cut_at d [] zero all few = record { whole = []; later = []; cut = refl; rest = []; is = refl; bad = nothing_bad d }
cut_at d [] (suc m) all few = let wrong : ⊥ = omega (arith, few) in absurd wrong
cut_at d (g ∷ gs) m all few = elim (cases_lt m (length R)) [
  | inl within ↦ record {
    whole = [];
    later = g ∷ gs;
    cut = refl;
    rest = take m (R ++ S);
    is = ap (λ (vs : List ℕ). take m vs) flat;
    bad = cut_bad d g m S all.0 within;
  }
  | inr beyond ↦
      let j : ℕ = m - length R in
      let size : m ≡ length R + j = omega (arith, beyond) in
      let left : j < length S = omega (arith, few, beyond, ap length flat, length-append R S) in
      let later = cut_at (digest_behind d g.lines) gs j all.1 left in
      record {
        whole = g ∷ later.whole;
        later = later.later;
        cut = ap (λ (hs : List RecordStored). g ∷ hs) later.cut;
        rest = later.rest;
        is = ap₂ (λ (n : ℕ) (vs : List ℕ). take n vs) size flat ∙ take-append-add R S j
            ∙ ap (λ (vs : List ℕ). R ++ vs) later.is
            ∙ sym (records_more d g later.whole later.rest);
        bad = later.bad;
      }
]
  where
    R : List ℕ
    R = g.gate ∷ content_of d g.lines

    S : List ℕ
    S = records (digest_behind d g.lines) gs ++ 0 ∷ []

    flat : records d (g ∷ gs) ++ 0 ∷ [] ≡ R ++ S
    flat = records_more d g gs (0 ∷ [])

pub cut_seen : CutIsSeen
cut_seen groups file n closed low few =
    let m : ℕ = n - 8 in
    let all : List ℕ = records seed groups ++ 0 ∷ [] in
    let size : n ≡ suc (suc (suc (suc (suc (suc (suc (suc m))))))) = omega (arith, low) in
    let left : m < length all = omega (arith, low, few, ap length closed.is) in
    let at = cut_at seed groups m closed.are_stored left in
    record {
      whole = at.whole;
      later = at.later;
      cut = at.cut;
      rest = at.rest;
      is = ap₂ (λ (k : ℕ) (vs : List ℕ). take k vs) size closed.is ∙ ap (λ (vs : List ℕ). log_header ++ vs) at.is;
      bad = at.bad;
    }
