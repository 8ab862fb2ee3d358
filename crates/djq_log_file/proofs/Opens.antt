-- Which log a file is.
use Rattle.std.proofs.Common.{◌≡◌, ℕ, ◌<◌, ◌≤◌, ◌⊎◌, inl, inr, List, [], ◌∷◌, ◌++◌, length, take, drop}
use Rattle.std.proofs.Common.{get_or, refl, sym, ap, ap₂, subst, ◌∙◌, arith, length-drop}
use Rattle.std.proofs.Math.Seq.{take-append_seam}
use Rattle.std.proofs.lemmas.List.{take-append-drop}
use Rattle.djq_disk.specs.declared.disk.DiskDid.TheVariants.{Done}
use Rattle.djq_disk.specs.declared.disk.DiskLen.TheVariants.{Len}
use Rattle.djq_disk.specs.declared.filling.Filled.TheVariants.{Whole}
use Rattle.djq_disk.specs.Filling.{FillsBuffer}
use Rattle.djq_disk.specs.History.{History, Syncs, Sizes}
use Rattle.djq_log_format.specs.Format.{log_header, seed, records, digest_after}
use Rattle.djq_log_file.specs.declared.opening.LogOpened.{LogOpened}
use Rattle.djq_log_file.specs.declared.opening.LogOpened.TheVariants.{Unbegun, First, Second, Unknown, Failed}
use Rattle.djq_log_file.specs.Standing.{HasRead}
use Rattle.djq_log_file.specs.Opening.{IsUnbegun, BeginsWith, OneLogAlone, Identifies, OpensLogFile, first_log_header}

pub one_log : (file : List ℕ) → OneLogAlone file
one_log file = record {
  no_first = λ u b. omega (arith, u.few, ap length b.is);
  no_second = λ u b. omega (arith, u.few, ap length b.is);
  not_both = λ a b.
      let same : 49 ≡ 50 = ap (λ (xs : List ℕ). get_or xs 6 0) (sym a.is ∙ b.is) in
      omega (arith, same);
}

-- ---- A short file.

-- a buffer with its bytes
filled_all : (size : ℕ) (buf : List ℕ) (file : List ℕ) → size ≡ length file → length buf ≡ size → buf ≡ take (length buf) file
    → buf ≡ file
filled_all size buf file is long fills =
    fills ∙ ap (λ n. take n file) (long ∙ is) ∙ ap (λ (xs : List ℕ). take (length file) xs) (sym (append_none file))
    ∙ take-append_seam file []
  where
    append_none : (xs : List ℕ) → xs ++ [] ≡ xs
    append_none [] = refl
    append_none (x ∷ xs) = ap (λ (ys : List ℕ). x ∷ ys) (append_none xs)

begins_header : (size : ℕ) (file header_of : List ℕ) → file ≡ take size header_of → (behind : List ℕ) × (file ++ behind ≡ header_of)
begins_header size file header_of same = (
  drop size header_of,
  ap (λ (xs : List ℕ). xs ++ drop size header_of) same ∙ take-append-drop size header_of,
)

pub short_unbegun : (size : ℕ) (buf : List ℕ) (o n : History) → size ≤ 8 → size ≡ length o.file.bytes → length buf ≡ size
    → (buf ≡ take size log_header) ⊎ (buf ≡ take size first_log_header) → FillsBuffer Whole 0 buf o n → Identifies Unbegun o n
short_unbegun size buf o n few is long same fills =
    let all : buf ≡ o.file.bytes = filled_all size buf o.file.bytes is long fills.0 in (
      fills.1,
      elim same [
        | inl second ↦
            let b = begins_header size o.file.bytes log_header (sym all ∙ second) in
            record { few = omega (arith, few, is); behind = b.0; is = inl b.1 }
        | inr first ↦
            let b = begins_header size o.file.bytes first_log_header (sym all ∙ first) in
            record { few = omega (arith, few, is); behind = b.0; is = inr b.1 }
      ],
    )

starts : (file behind header_of : List ℕ) → file ++ behind ≡ header_of → file ≡ take (length file) header_of
starts file behind header_of e = sym (take-append_seam file behind) ∙ ap (λ (xs : List ℕ). take (length file) xs) e

pub short_unknown : (size : ℕ) (buf : List ℕ) (o n : History) → size ≤ 8 → size ≡ length o.file.bytes → length buf ≡ size
    → (buf ≡ take size log_header → ⊥) → (buf ≡ take size first_log_header → ⊥) → FillsBuffer Whole 0 buf o n
    → Identifies Unknown o n
short_unknown size buf o n few is long no_second no_first fills =
    let all : buf ≡ o.file.bytes = filled_all size buf o.file.bytes is long fills.0 in (
      fills.1,
      (
        (λ u. elim u.is [
          | inl e ↦ no_second (all ∙ starts o.file.bytes u.behind log_header e ∙ ap (λ k. take k log_header) (sym is))
          | inr e ↦ no_first (all ∙ starts o.file.bytes u.behind first_log_header e
              ∙ ap (λ k. take k first_log_header) (sym is))
        ]),
        (λ b. omega (arith, few, is, ap length b.is)),
        (λ b. omega (arith, few, is, ap length b.is)),
      ),
    )

-- ---- A longer one.

cons_of : (xs : List ℕ) → 1 ≤ length xs → (x : ℕ) × (ys : List ℕ) × (xs ≡ x ∷ ys)
cons_of [] some = let wrong : ⊥ = omega (arith, some) in absurd wrong
cons_of (x ∷ xs) some = (x, xs, refl)

begins_with : (file header_of : List ℕ) → take 8 file ≡ header_of → 8 < length file → BeginsWith header_of file
begins_with file header_of same long =
    let behind = cons_of (drop 8 file) (omega (arith, long, length-drop 8 file)) in
    record {
      gate = behind.0;
      behind = behind.1;
      is = sym (take-append-drop 8 file) ∙ ap₂ (λ (xs ys : List ℕ). xs ++ ys) same behind.2;
    }

-- at the first gate nothing is read
first_gate : (file rest : List ℕ) → file ≡ log_header ++ rest → HasRead [] (record { at = 8; left = 0; digest = seed; gate = 8 }) file
unfolding records digest_after
first_gate file rest is = record {
  stored = [];
  are_stored = tt;
  rest = rest;
  is = is;
  before = log_header;
  to_come = [];
  front = refl;
  are = refl;
  is_at = refl;
  is_left = refl;
  is_digest = refl;
  within = λ some. absurd (omega (arith, some));
}

pub long_second : (buf : List ℕ) (o n : History) → 8 < length o.file.bytes → length buf ≡ 8 → buf ≡ log_header
    → FillsBuffer Whole 0 buf o n → Identifies (Second (record { at = 8; left = 0; digest = seed; gate = 8 })) o n
long_second buf o n long size same fills =
    let begins = begins_with o.file.bytes log_header
    (ap (λ k. take k o.file.bytes) (sym size) ∙ sym fills.0 ∙ same) long in
    (fills.1, (begins, first_gate o.file.bytes (begins.gate ∷ begins.behind) begins.is))

pub long_first : (buf : List ℕ) (o n : History) → 8 < length o.file.bytes → length buf ≡ 8 → buf ≡ first_log_header
    → FillsBuffer Whole 0 buf o n → Identifies First o n
long_first buf o n long size same fills =
    (fills.1, begins_with o.file.bytes first_log_header (ap (λ k. take k o.file.bytes) (sym size) ∙ sym fills.0 ∙ same) long)

pub long_unknown : (buf : List ℕ) (o n : History) → 8 < length o.file.bytes → length buf ≡ 8 → (buf ≡ log_header → ⊥)
    → (buf ≡ first_log_header → ⊥) → FillsBuffer Whole 0 buf o n → Identifies Unknown o n
long_unknown buf o n long size no_second no_first fills =
    let start : buf ≡ take 8 o.file.bytes = fills.0 ∙ ap (λ k. take k o.file.bytes) size in (
      fills.1,
      (
        (λ u. omega (arith, u.few, long)),
        (λ b. no_first (start ∙ ap (λ (xs : List ℕ). take 8 xs) b.is)),
        (λ b. no_second (start ∙ ap (λ (xs : List ℕ). take 8 xs) b.is)),
      ),
    )

-- ---- After a sync.

same_bytes : (o m : History) → Syncs Done o m → m.file.bytes ≡ o.file.bytes
same_bytes o m syncs = ap (λ (h : History). h.file.bytes) syncs

pub opened_by : (answer : LogOpened) (o m n : History) → Syncs Done o m → Identifies answer m n → OpensLogFile answer o n
opened_by Unbegun o m n syncs is =
    (is.0 ∙ syncs, subst (λ (bytes : List ℕ). IsUnbegun bytes) (same_bytes o m syncs) is.1)
opened_by First o m n syncs is =
    (is.0 ∙ syncs, subst (λ (bytes : List ℕ). BeginsWith first_log_header bytes) (same_bytes o m syncs) is.1)
opened_by (Second place) o m n syncs is = (
  is.0 ∙ syncs,
  subst (λ (bytes : List ℕ). BeginsWith log_header bytes × HasRead [] place bytes) (same_bytes o m syncs) is.1,
)
opened_by Unknown o m n syncs is = (
  is.0 ∙ syncs,
  subst (λ (bytes : List ℕ). (IsUnbegun bytes → ⊥) × (BeginsWith first_log_header bytes → ⊥)
      × (BeginsWith log_header bytes → ⊥)) (same_bytes o m syncs) is.1,
)
opened_by Failed o m n syncs is = inr (is.0 ∙ syncs)

-- The length was told before.
pub sized_short : (answer : LogOpened) (size : ℕ) (o k m n : History) → Syncs Done o k → Sizes (Len size) k m
    → (size ≡ length m.file.bytes → Identifies answer m n) → OpensLogFile answer o n
sized_short answer size o k m n syncs sizes is =
    let same : m ≡ k = sizes.1 in
    let answered = is (sizes.0 ∙ sym (ap (λ (h : History). length h.file.bytes) same)) in
    opened_by answer o k n syncs (subst (λ (h : History). Identifies answer h n) same answered)

pub sized_long : (answer : LogOpened) (size : ℕ) (o k m n : History) → Syncs Done o k → Sizes (Len size) k m → 8 < size
    → (8 < length m.file.bytes → Identifies answer m n) → OpensLogFile answer o n
sized_long answer size o k m n syncs sizes long is =
    let same : m ≡ k = sizes.1 in
    let bytes : length m.file.bytes ≡ length k.file.bytes = ap (λ (h : History). length h.file.bytes) same in
    let answered = is (omega (arith, long, sizes.0, bytes)) in
    opened_by answer o k n syncs (subst (λ (h : History). Identifies answer h n) same answered)
