-- A byte of a record that is changed.
use Rattle.std.proofs.Common.{◌≡◌, ℕ, ◌*◌, ◌/◌, ◌%◌, ◌<◌, ◌⊎◌, inl, inr, List, [], ◌∷◌, ◌++◌, length}
use Rattle.std.proofs.Common.{refl, sym, ap, ap₂, ◌∙◌, arith, length-append, append_assoc, subst}
use Rattle.std.specs.List.{AllByRecursion}
use Rattle.std.specs.Int.{from_be_bytes, to_be_bytes, w64}
use Rattle.std.proofs.lemmas.Nat.{from_be_bytes-to_be_bytes_8}
use Rattle.std.proofs.lemmas.List.{append_cancel_left}
use Rattle.djq_log_format.specs.Digest.{chained}
use Rattle.djq_log_format.specs.Format.{IsLogLine, record_body, IsGroup, content_of}
use Rattle.djq_log_format.specs.Laws.{ChangeIsSeen}
use Rattle.djq_log_format.proofs.Seen.{byte_seen, chained_small, bytes_append}
use Rattle.djq_log_format.proofs.Once.{head_same, tail_same, parts_same, number_once, length_bytes, digest_bytes, content_parts}
use Rattle.djq_log_format.proofs.Once.{length_once}

-- ---- A stored length: 257 times a number isn't that any more where one byte is another.

number_seen : (n m : ℕ) (xs : List ℕ) (b c : ℕ) (ys : List ℕ) → length xs < 8 → b < 256 → c < 256
    → from_be_bytes w64 (xs ++ b ∷ ys) ≡ n * 257 → from_be_bytes w64 (xs ++ c ∷ ys) ≡ m * 257 → b ≡ c
number_seen n m [] b c ys few b' c' e f = omega arith
number_seen n m (x0 ∷ []) b c ys few b' c' e f = omega arith
number_seen n m (x0 ∷ x1 ∷ []) b c ys few b' c' e f = omega arith
number_seen n m (x0 ∷ x1 ∷ x2 ∷ []) b c ys few b' c' e f = omega arith
number_seen n m (x0 ∷ x1 ∷ x2 ∷ x3 ∷ []) b c ys few b' c' e f = omega arith
number_seen n m (x0 ∷ x1 ∷ x2 ∷ x3 ∷ x4 ∷ []) b c ys few b' c' e f = omega arith
number_seen n m (x0 ∷ x1 ∷ x2 ∷ x3 ∷ x4 ∷ x5 ∷ []) b c ys few b' c' e f = omega arith
number_seen n m (x0 ∷ x1 ∷ x2 ∷ x3 ∷ x4 ∷ x5 ∷ x6 ∷ []) b c ys few b' c' e f = omega arith
number_seen n m (x0 ∷ x1 ∷ x2 ∷ x3 ∷ x4 ∷ x5 ∷ x6 ∷ x7 ∷ xs) b c ys few b' c' e f =
    let wrong : ⊥ = omega (arith, few) in absurd wrong

-- ---- One byte for another in two lists that stand one behind the other.

-- The byte stands in the first of them, or in the second.
record InFirst (xs : List ℕ) (y z : ℕ) (ys a b : List ℕ) : Type 0 where
  zs : List ℕ
  is : a ≡ xs ++ y ∷ zs
  other : xs ++ z ∷ ys ≡ (xs ++ z ∷ zs) ++ b

record InSecond (xs : List ℕ) (y z : ℕ) (ys a b : List ℕ) : Type 0 where
  ws : List ℕ
  is : b ≡ ws ++ y ∷ ys
  other : xs ++ z ∷ ys ≡ a ++ (ws ++ z ∷ ys)

in_either : (xs : List ℕ) (y z : ℕ) (ys a b : List ℕ) → a ++ b ≡ xs ++ y ∷ ys
    → InFirst xs y z ys a b ⊎ InSecond xs y z ys a b
in_either xs y z ys [] b e = inr (record { ws = xs; is = e; other = refl })
in_either [] y z ys (a ∷ more) b e = inl (record {
  zs = more;
  is = ap (λ (x : ℕ). x ∷ more) (head_same a y (more ++ b) ys e);
  other = ap (λ (zs : List ℕ). z ∷ zs) (sym (tail_same a y (more ++ b) ys e));
})
in_either (x ∷ xs) y z ys (a ∷ more) b e =
    let first : a ≡ x = head_same a x (more ++ b) (xs ++ y ∷ ys) e in
    elim (in_either xs y z ys more b (tail_same a x (more ++ b) (xs ++ y ∷ ys) e)) [
      | inl f ↦ inl (record {
        zs = f.zs;
        is = ap₂ (λ (v : ℕ) (vs : List ℕ). v ∷ vs) first f.is;
        other = ap (λ (vs : List ℕ). x ∷ vs) f.other;
      })
      | inr s ↦ inr (record {
        ws = s.ws;
        is = s.is;
        other = ap₂ (λ (v : ℕ) (vs : List ℕ). v ∷ vs) (sym first) s.other;
      })
    ]

same_length : (xs : List ℕ) (y z : ℕ) (ys : List ℕ) → length (xs ++ y ∷ ys) ≡ length (xs ++ z ∷ ys)
same_length xs y z ys = length-append xs (y ∷ ys) ∙ sym (length-append xs (z ∷ ys))

byte_once : (xs : List ℕ) (y z : ℕ) (ys zs : List ℕ) → xs ++ y ∷ ys ≡ xs ++ z ∷ zs → y ≡ z
byte_once xs y z ys zs e = head_same y z ys zs (append_cancel_left xs (y ∷ ys) (z ∷ zs) e)

byte_in : (xs : List ℕ) (y : ℕ) (ys : List ℕ) → AllByRecursion (λ b. b < 256) (xs ++ y ∷ ys) → y < 256
byte_in [] y ys all = all.0
byte_in (x ∷ xs) y ys all = byte_in xs y ys all.1

number_bytes : (n : ℕ) → AllByRecursion (λ b. b < 256) (to_be_bytes w64 n)
number_bytes n = (
  omega arith,
  (
    omega arith,
    (
      omega arith,
      (
        omega arith,
        (
          omega arith,
          (
            omega arith,
            (omega arith, (omega arith, tt)),
          ),
        ),
      ),
    ),
  ),
)

body_bytes : (lines : List (List ℕ)) → AllByRecursion IsLogLine lines → AllByRecursion (λ b. b < 256) (record_body lines)
body_bytes [] all = tt
body_bytes (l ∷ ls) all =
    let high : length l / 256 < 256 = omega (arith, all.0.short) in
    let low : length l % 256 < 256 = omega arith in
    (high, (low, bytes_append l (record_body ls) all.0.are_bytes (body_bytes ls all.1)))

-- Where a record stands in which one byte was another, it is the same byte.
same_byte : (d : ℕ) (lines others : List (List ℕ)) (xs : List ℕ) (y z : ℕ) (ys behind behind' : List ℕ)
    → d < 18446744073709551616 → IsGroup lines → IsGroup others → content_of d lines ≡ xs ++ y ∷ ys → z < 256
    → content_of d others ++ behind' ≡ (xs ++ z ∷ ys) ++ behind → y ≡ z
same_byte d lines others xs y z ys behind behind' low is is' e small g =
    elim (in_either xs y z ys L (D ++ B) (sym (append_assoc L D B) ∙ e)) [
      | inl f ↦
          let seen : L' ++ (D' ++ (B' ++ behind')) ≡ (xs ++ z ∷ f.zs) ++ ((D ++ B) ++ behind) =
          stands ∙ ap (λ (vs : List ℕ). vs ++ behind) f.other ∙ append_assoc (xs ++ z ∷ f.zs) (D ++ B) behind in
          let size : length L' ≡ length (xs ++ z ∷ f.zs) = ap length f.is ∙ same_length xs y z f.zs in
          let one : L' ≡ xs ++ z ∷ f.zs = (parts_same L' (xs ++ z ∷ f.zs) (D' ++ (B' ++ behind')) ((D ++ B) ++ behind) size
          seen).0 in
          let eight : 8 ≡ length (xs ++ y ∷ f.zs) = ap length f.is in
          number_seen (length B) (length B') xs y z f.zs (omega (arith, eight, length-append xs (y ∷ f.zs)))
          (byte_in xs y f.zs (subst (λ (vs : List ℕ). AllByRecursion (λ b. b < 256) vs) f.is (number_bytes (length B * 257))))
          small
          (ap (λ (vs : List ℕ). from_be_bytes w64 vs) (sym f.is) ∙ from_be_bytes-to_be_bytes_8 (length B * 257) is.short)
          (ap (λ (vs : List ℕ). from_be_bytes w64 vs) (sym one) ∙ from_be_bytes-to_be_bytes_8 (length B' * 257) is'.short)
      | inr s ↦
          let seen : L' ++ (D' ++ (B' ++ behind')) ≡ L ++ ((s.ws ++ z ∷ ys) ++ behind) =
          stands ∙ ap (λ (vs : List ℕ). vs ++ behind) s.other ∙ append_assoc L (s.ws ++ z ∷ ys) behind in
          let two = parts_same L' L (D' ++ (B' ++ behind')) ((s.ws ++ z ∷ ys) ++ behind) refl seen in
          let long : length B' ≡ length B = length_once others lines is' is two.0 in
          elim (in_either s.ws y z ys D B s.is) [
            | inl f ↦
                let in_digest : D' ++ (B' ++ behind') ≡ (s.ws ++ z ∷ f.zs) ++ (B ++ behind) =
                two.1 ∙ ap (λ (vs : List ℕ). vs ++ behind) f.other ∙ append_assoc (s.ws ++ z ∷ f.zs) B behind in
                let size : length D' ≡ length (s.ws ++ z ∷ f.zs) = ap length f.is ∙ same_length s.ws y z f.zs in
                let three = parts_same D' (s.ws ++ z ∷ f.zs) (B' ++ behind') (B ++ behind) size in_digest in
                let bodies : B' ≡ B = (parts_same B' B behind' behind long three.1).0 in
                byte_once s.ws y z f.zs f.zs
                (sym f.is ∙ ap (λ (vs : List ℕ). to_be_bytes w64 (chained d vs)) (sym bodies) ∙ three.0)
            | inr t ↦
                let in_body : D' ++ (B' ++ behind') ≡ D ++ ((t.ws ++ z ∷ ys) ++ behind) =
                two.1 ∙ ap (λ (vs : List ℕ). vs ++ behind) t.other ∙ append_assoc D (t.ws ++ z ∷ ys) behind in
                let three = parts_same D' D (B' ++ behind') ((t.ws ++ z ∷ ys) ++ behind) refl in_body in
                let size : length B' ≡ length (t.ws ++ z ∷ ys) = long ∙ ap length t.is ∙ same_length t.ws y z ys in
                let body : B' ≡ t.ws ++ z ∷ ys = (parts_same B' (t.ws ++ z ∷ ys) behind' behind size three.1).0 in
                let digests : chained d B ≡ chained d B' = number_once (chained d B) (chained d B') (chained_small d B low)
                (chained_small d B' low) (sym three.0) in
                byte_seen d t.ws y z ys low
                (subst (λ (vs : List ℕ). AllByRecursion (λ b. b < 256) vs) t.is (body_bytes lines is.are_lines)) small
                (ap (λ (vs : List ℕ). chained d vs) (sym t.is) ∙ digests ∙ ap (λ (vs : List ℕ). chained d vs) body)
          ]
    ]
  where
    L : List ℕ
    L = length_bytes lines

    D : List ℕ
    D = digest_bytes d lines

    B : List ℕ
    B = record_body lines

    L' : List ℕ
    L' = length_bytes others

    D' : List ℕ
    D' = digest_bytes d others

    B' : List ℕ
    B' = record_body others

    stands : L' ++ (D' ++ (B' ++ behind')) ≡ (xs ++ z ∷ ys) ++ behind
    stands = sym (content_parts d others behind') ∙ g

pub change_seen : ChangeIsSeen
change_seen d gate lines xs y z ys behind low wide is e small ne = record {
  no_end = λ end. let shut = head_same gate 0 ((xs ++ z ∷ ys) ++ behind) end.behind end.is in omega (arith, shut, wide);
  no_record = λ others r. ne (same_byte d lines others xs y z ys behind r.behind low is r.is_group e small
      (sym (tail_same gate r.gate ((xs ++ z ∷ ys) ++ behind) (content_of d others ++ r.behind) r.is)));
}
