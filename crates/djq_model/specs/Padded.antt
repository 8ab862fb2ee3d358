-- A name in a field of 32 bytes: the name, then zeros.
use Rattle.std.specs.Prelude.{ℕ, List, ◌≡◌, ◌≤◌, ◌-◌, ◌++◌, length, replicate, take}
use Rattle.std.proofs.Common.{sym, ap, ap₂, arith, length-append}
use Rattle.std.proofs.lemmas.List.{length-take, length-replicate}
use Rattle.djq_model.specs.declared.name.Name.TheInside.{Inside}

-- the bytes, followed by zeros up to 32
abbrev pub zeros_after : List ℕ → List ℕ
zeros_after xs = xs ++ replicate (32 - length xs) 0

-- the fields that hold a name
abbrev pub padded : List ℕ → Inside
padded xs = record { bytes = zeros_after xs; len = length xs }

-- the length of a name that is stored so in its field
length_back : (bytes : List ℕ) (len : ℕ) → len ≤ 32 → bytes ≡ zeros_after (take len bytes) → length (take len bytes)
    ≡ len
length_back bytes len h e =
    omega (
      arith,
      ap length e,
      length-append (take len bytes) (replicate (32 - length (take len bytes)) 0),
      length-replicate {A = ℕ} (32 - length (take len bytes)) 0,
      length-take len bytes,
    )

-- fields with zeros after a name are those that hold the name
pub padded_back : (n : Inside) → (n.len ≤ 32) × (n.bytes ≡ zeros_after (take n.len n.bytes))
    → padded (take n.len n.bytes) ≡ n
padded_back n h = ap₂ (λ b (k : ℕ). record { bytes = b; len = k }) (sym h.1) (length_back n.bytes n.len h.0 h.1)
