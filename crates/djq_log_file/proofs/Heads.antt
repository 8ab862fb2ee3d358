-- What is read at a gate: the head of a record, and the record.
use Rattle.std.proofs.Common.{◌≡◌, ℕ, ◌+◌, ◌*◌, ◌<◌, ◌≤◌, inl, inr, List, [], ◌∷◌, ◌++◌, length, take, drop}
use Rattle.std.proofs.Common.{get_or, sym, ap, ap₂, ◌∙◌, subst, arith, append_assoc, length-append, length-take, length-drop}
use Rattle.std.specs.Int.{from_be_bytes, to_be_bytes, w64}
use Rattle.std.proofs.Math.Seq.{drop-drop, take-append_seam}
use Rattle.std.proofs.lemmas.Nat.{from_be_bytes-to_be_bytes_8}
use Rattle.djq_log_format.specs.Digest.{chained}
use Rattle.djq_log_format.specs.Format.{record_body, digest_behind, IsLogEnd}
use Rattle.djq_log_format.proofs.Once.{head_same, content_parts, length_bytes, digest_bytes}
use Rattle.djq_log_file.specs.declared.damage.Damage.{Damage}
use Rattle.djq_log_file.specs.declared.damage.Damage.TheVariants.{Cut, Length, Lines as BadLines, Digest}
use Rattle.djq_log_file.specs.declared.body.Body.TheVariants.{Lines, NoLines, Short}
use Rattle.djq_log_file.specs.declared.head.Head.TheVariants.{Closed, Record, Damaged}
use Rattle.djq_log_file.specs.declared.record.Found.TheVariants.{Group, Bad}
use Rattle.djq_log_file.specs.Damaged.{StoresLength, HasDamage, HasNoLines}
use Rattle.djq_log_file.specs.Entries.{IsRecordHead, IsBody, StandsAtGate}
use Rattle.djq_log_file.proofs.Through.{piece_read}
use Rattle.djq_log_file.proofs.Bodies.{one_read}
use Rattle.djq_log_file.proofs.Damages.{damage_bad}

-- ---- The head of a record.

-- no gate stands there
pub head_gone : (at : ℕ) (bytes : List ℕ) → length bytes < at + 1 → IsRecordHead (Damaged Cut) (drop at bytes)
head_gone at bytes few = (
  (λ end. omega (arith, few, length-drop at bytes, ap length end.is)),
  (λ digest. inl (omega (arith, few, length-drop at bytes))),
)

pub head_closed : (at : ℕ) (bytes gate : List ℕ) → length gate ≡ 1 → gate ≡ take (length gate) (drop at bytes)
    → get_or gate 0 0 ≡ 0 → IsRecordHead Closed (drop at bytes)
head_closed at bytes gate size is shut = record {
  behind = drop (at + 1) bytes;
  is = one_read at bytes gate size is ∙ ap (λ (x : ℕ). x ∷ drop (at + 1) bytes) shut;
}

no_end : (at : ℕ) (bytes gate : List ℕ) → length gate ≡ 1 → gate ≡ take (length gate) (drop at bytes)
    → (get_or gate 0 0 ≡ 0 → ⊥) → IsLogEnd (drop at bytes) → ⊥
no_end at bytes gate size is wide end = wide (head_same (get_or gate 0 0) 0 (drop (at + 1) bytes) end.behind
    (sym (one_read at bytes gate size is) ∙ end.is))

-- the file ends in the head
pub head_short : (at k : ℕ) (bytes gate : List ℕ) → length gate ≡ 1 → gate ≡ take (length gate) (drop at bytes)
    → (get_or gate 0 0 ≡ 0 → ⊥) → length bytes < at + k → k ≤ 17 → IsRecordHead (Damaged Cut) (drop at bytes)
head_short at k bytes gate size is wide few within = (
  no_end at bytes gate size is wide,
  (λ digest. inl (omega (arith, few, within, length-drop at bytes))),
)

-- the eight bytes after the gate
stored_there : (at : ℕ) (bytes stored : List ℕ) → length stored ≡ 8 → stored ≡ take (length stored) (drop (at + 1) bytes)
    → (take 8 (drop 1 (drop at bytes)) ≡ stored) × (9 ≤ length (drop at bytes))
stored_there at bytes stored size is = (
  ap (λ (xs : List ℕ). take 8 xs) (drop-drop 1 at bytes)
      ∙ ap (λ k. take k (drop (at + 1) bytes)) (sym size) ∙ sym is,
  omega (
    arith,
    size,
    ap length is,
    length-take (length stored) (drop (at + 1) bytes),
    length-drop (at + 1) bytes,
    length-drop at bytes,
  ),
)

-- no length is stored there
pub head_none : (at : ℕ) (bytes gate stored : List ℕ) → length gate ≡ 1 → gate ≡ take (length gate) (drop at bytes)
    → (get_or gate 0 0 ≡ 0 → ⊥) → length stored ≡ 8 → stored ≡ take (length stored) (drop (at + 1) bytes)
    → ((n : ℕ) → 1 ≤ n → from_be_bytes w64 stored ≡ n * 257 → ⊥) → IsRecordHead (Damaged Length) (drop at bytes)
head_none at bytes gate stored gate_size gate_is wide size is none =
    let there = stored_there at bytes stored size is in (
      no_end at bytes gate gate_size gate_is wide,
      (λ digest. (there.1, λ n some e. none n some (ap (λ (xs : List ℕ). from_be_bytes w64 xs) (sym there.0) ∙ e))),
    )

-- a length and a digest are
pub head_record : (at size digest : ℕ) (bytes gate stored noted : List ℕ) → length gate ≡ 1
    → gate ≡ take (length gate) (drop at bytes) → (get_or gate 0 0 ≡ 0 → ⊥) → length stored ≡ 8
    → stored ≡ take (length stored) (drop (at + 1) bytes) → to_be_bytes w64 (size * 257) ≡ stored
    → length noted ≡ 8 → noted ≡ take (length noted) (drop (at + 9) bytes) → to_be_bytes w64 digest ≡ noted
    → IsRecordHead (Record size digest) (drop at bytes)
head_record at size digest bytes gate stored noted gate_size gate_is wide stored_size stored_is is_size noted_size noted_is
    is_digest = (
      g,
      omega (arith, wide),
      one_read at bytes gate gate_size gate_is
          ∙ ap (λ (xs : List ℕ). g ∷ xs)
          (piece_read (at + 1) 8 bytes stored stored_size stored_is
          ∙ ap (λ (xs : List ℕ). stored ++ xs) (nine ∙ piece_read (at + 9) 8 bytes noted noted_size noted_is)
          ∙ sym (append_assoc stored noted (drop (at + 9 + 8) bytes)))
          ∙ ap (λ (xs : List ℕ). g ∷ ((stored ++ noted) ++ xs)) seventeen
          ∙ ap₂ (λ (xs ys : List ℕ). g ∷ ((xs ++ ys) ++ drop 17 (drop at bytes))) (sym is_size) (sym is_digest),
    )
  where
    g : ℕ
    g = get_or gate 0 0

    nine : drop (at + 1 + 8) bytes ≡ drop (at + 9) bytes
    nine = ap (λ k. drop k bytes) (omega arith)

    seventeen : drop (at + 9 + 8) bytes ≡ drop 17 (drop at bytes)
    seventeen = ap (λ k. drop k bytes) (omega arith) ∙ sym (drop-drop 17 at bytes)

-- ---- The record.

head_stores : (size digest : ℕ) (rest : List ℕ) → IsRecordHead (Record size digest) rest → size * 257 < 18446744073709551616
    → StoresLength size rest
head_stores size digest rest head short = (
  omega (arith, ap length head.2),
  ap (λ (xs : List ℕ). from_be_bytes w64 (take 8 (drop 1 xs))) head.2 ∙ from_be_bytes-to_be_bytes_8 (size * 257) short,
)

head_notes : (size digest : ℕ) (rest : List ℕ) → IsRecordHead (Record size digest) rest → digest < 18446744073709551616
    → from_be_bytes w64 (take 8 (drop 9 rest)) ≡ digest
head_notes size digest rest head low =
    ap (λ (xs : List ℕ). from_be_bytes w64 (take 8 (drop 9 xs))) head.2 ∙ from_be_bytes-to_be_bytes_8 digest low

head_open : (size digest : ℕ) (rest : List ℕ) → IsRecordHead (Record size digest) rest → IsLogEnd rest → ⊥
head_open size digest rest head end =
    let shut = head_same head.0 0 (to_be_bytes w64 (size * 257) ++ to_be_bytes w64 digest ++ drop 17 rest) end.behind
    (sym head.2 ∙ end.is) in
    omega (arith, shut, head.1)

some_lines : (lines : List (List ℕ)) → 1 ≤ length (record_body lines) → 1 ≤ length lines
some_lines [] some = let wrong : ⊥ = omega (arith, some) in absurd wrong
some_lines (l ∷ ls) some = omega arith

pub record_found : (at size stored digest after : ℕ) (bytes : List ℕ) → IsRecordHead (Record size stored) (drop at bytes)
    → 1 ≤ size → size * 257 < 18446744073709551616 → IsBody (Lines after) digest size (drop (at + 17) bytes)
    → after ≡ stored → StandsAtGate (Group size stored) digest (drop at bytes)
record_found at size stored digest after bytes head some short body same = (
  lines,
  record {
    is_group = record {
      some = some_lines lines (omega (arith, body.2, some));
      are_lines = body.1;
      short = omega (arith, body.2, short);
    };
    gate = head.0;
    gate_open = head.1;
    behind = behind;
    is = head.2
        ∙ ap₂ (λ (n d : ℕ). head.0 ∷ ((to_be_bytes w64 (n * 257) ++ to_be_bytes w64 d) ++ drop 17 rest)) (sym body.2) noted
        ∙ ap (λ (xs : List ℕ). head.0 ∷ (length_bytes lines ++ (digest_bytes digest lines ++ xs))) there
        ∙ ap (λ (xs : List ℕ). head.0 ∷ xs) (sym (content_parts digest lines behind));
  },
  sym body.2,
  noted,
)
  where
    rest : List ℕ
    rest = drop at bytes

    lines : List (List ℕ)
    lines = body.0

    behind : List ℕ
    behind = drop size (drop (at + 17) bytes)

    noted : stored ≡ digest_behind digest lines
    noted = sym same ∙ body.3

    there : drop 17 rest ≡ record_body lines ++ behind
    there = drop-drop 17 at bytes ∙ body.4

-- another digest is stored
pub record_differs : (at size stored digest after : ℕ) (bytes : List ℕ) → IsRecordHead (Record size stored) (drop at bytes)
    → size * 257 < 18446744073709551616 → stored < 18446744073709551616 → digest < 18446744073709551616
    → IsBody (Lines after) digest size (drop (at + 17) bytes) → (after ≡ stored → ⊥)
    → StandsAtGate (Bad Digest) digest (drop at bytes)
record_differs at size stored digest after bytes head short low low' body differs =
    (damage_bad Digest digest rest low' (head_open size stored rest head) damage, damage)
  where
    rest : List ℕ
    rest = drop at bytes

    lines : List (List ℕ)
    lines = body.0

    behind : List ℕ
    behind = drop size (drop (at + 17) bytes)

    there : drop 17 rest ≡ record_body lines ++ behind
    there = drop-drop 17 at bytes ∙ body.4

    taken : take size (drop 17 rest) ≡ record_body lines
    taken = ap₂ (λ (n : ℕ) (xs : List ℕ). take n xs) (sym body.2) there ∙ take-append_seam (record_body lines) behind

    long : 17 + size ≤ length rest
    long = omega (
      arith,
      ap length head.2,
      ap length there,
      body.2,
      length-append (record_body lines) behind,
    )

    damage : HasDamage Digest digest rest
    damage = (
      size,
      head_stores size stored rest head short,
      long,
      λ same. differs
          (body.3 ∙ sym (ap (λ (xs : List ℕ). chained digest xs) taken) ∙ same ∙ head_notes size stored rest head low),
    )

-- the body isn't lines
pub record_no_lines : (at size stored digest : ℕ) (bytes : List ℕ) → IsRecordHead (Record size stored) (drop at bytes)
    → size * 257 < 18446744073709551616 → digest < 18446744073709551616
    → IsBody NoLines digest size (drop (at + 17) bytes) → StandsAtGate (Bad BadLines) digest (drop at bytes)
record_no_lines at size stored digest bytes head short low none =
    let rest = drop at bytes in
    let damage : HasDamage BadLines digest rest = (
      size,
      head_stores size stored rest head short,
      subst (λ (xs : List ℕ). HasNoLines size xs) (sym (drop-drop 17 at bytes)) none,
    ) in
    (damage_bad BadLines digest rest low (head_open size stored rest head) damage, damage)

-- the file ends in the body
pub record_cut : (at size stored digest : ℕ) (bytes : List ℕ) → IsRecordHead (Record size stored) (drop at bytes)
    → size * 257 < 18446744073709551616 → digest < 18446744073709551616
    → IsBody Short digest size (drop (at + 17) bytes) → StandsAtGate (Bad Cut) digest (drop at bytes)
record_cut at size stored digest bytes head short low few =
    let rest = drop at bytes in
    let damage : HasDamage Cut digest rest = inr (
      size,
      head_stores size stored rest head short,
      omega (arith, few, ap length (drop-drop 17 at bytes), length-drop 17 rest),
    ) in
    (damage_bad Cut digest rest low (head_open size stored rest head) damage, damage)

-- the head is damaged
pub head_damaged : (reason : Damage) (digest : ℕ) (rest : List ℕ) → digest < 18446744073709551616
    → IsRecordHead (Damaged reason) rest → StandsAtGate (Bad reason) digest rest
head_damaged reason digest rest low head = (damage_bad reason digest rest low head.0 (head.1 digest), head.1 digest)
