-- A record is known from its bytes, and so are the groups of a file.
use Rattle.std.proofs.Common.{◌≡◌, ℕ, ◌+◌, ◌*◌, ◌/◌, ◌%◌, ◌<◌, List, [], ◌∷◌, ◌++◌, length}
use Rattle.std.proofs.Common.{refl, get_or, drop, take, sym, ap, ap₂, ◌∙◌, arith, append_assoc}
use Rattle.std.specs.List.{AllByRecursion}
use Rattle.std.specs.Int.{from_be_bytes, to_be_bytes, w64}
use Rattle.std.proofs.Math.Seq.{take-append_seam, drop-append_seam}
use Rattle.std.proofs.Math.Nat.{div-add-mod}
use Rattle.std.proofs.lemmas.Nat.{from_be_bytes-to_be_bytes_8}
use Rattle.std.proofs.lemmas.List.{append_cancel_left}
use Rattle.djq_log_format.specs.Digest.{chained}
use Rattle.djq_log_format.specs.Format.{log_header, seed, line_entry, record_body, IsGroup, content_of, RecordStored, IsRecordStored}
use Rattle.djq_log_format.specs.Format.{digest_behind, records}
use Rattle.djq_log_format.specs.Laws.{LogOpensOnce, RecordStandsOnce, OpenGateIsFree}

pub head_same : (a b : ℕ) (xs ys : List ℕ) → a ∷ xs ≡ b ∷ ys → a ≡ b
head_same a b xs ys e = ap (λ (zs : List ℕ). get_or zs 0 0) e

pub tail_same : (a b : ℕ) (xs ys : List ℕ) → a ∷ xs ≡ b ∷ ys → xs ≡ ys
tail_same a b xs ys e = ap (λ (zs : List ℕ). drop 1 zs) e

-- lists of one length that begin alike, and what stands behind them
pub parts_same : (a b xs ys : List ℕ) → length a ≡ length b → a ++ xs ≡ b ++ ys → (a ≡ b) × (xs ≡ ys)
parts_same a b xs ys size e = (
  sym (take-append_seam a xs) ∙ ap₂ (λ (n : ℕ) (zs : List ℕ). take n zs) size e ∙ take-append_seam b ys,
  sym (drop-append_seam a xs) ∙ ap₂ (λ (n : ℕ) (zs : List ℕ). drop n zs) size e ∙ drop-append_seam b ys,
)

-- a number by its two parts
pub by_parts : (a b : ℕ) → a / 256 ≡ b / 256 → a % 256 ≡ b % 256 → a ≡ b
by_parts a b high low = sym (div-add-mod a 256) ∙ ap₂ (λ (x y : ℕ). 256 * x + y) high low ∙ div-add-mod b 256

-- two entries that stand at one place are one
pub entry_once : (a b xs ys : List ℕ) → line_entry a ++ xs ≡ line_entry b ++ ys → a ≡ b
entry_once a b xs ys e =
    let low = tail_same (length a / 256) (length b / 256) (length a % 256 ∷ (a ++ xs)) (length b % 256 ∷ (b ++ ys)) e in
    (parts_same a b xs ys
    (by_parts (length a) (length b)
    (head_same (length a / 256) (length b / 256) (length a % 256 ∷ (a ++ xs)) (length b % 256 ∷ (b ++ ys)) e)
    (head_same (length a % 256) (length b % 256) (a ++ xs) (b ++ ys) low))
    (tail_same (length a % 256) (length b % 256) (a ++ xs) (b ++ ys) low)).0

-- a body has one list of lines
pub body_once : (lines others : List (List ℕ)) → record_body lines ≡ record_body others → lines ≡ others
body_once [] [] e = refl
body_once [] (o ∷ os) e = let wrong : ⊥ = omega (arith, ap length e) in absurd wrong
body_once (l ∷ ls) [] e = let wrong : ⊥ = omega (arith, ap length e) in absurd wrong
body_once (l ∷ ls) (o ∷ os) e =
    let first : l ≡ o = entry_once l o (record_body ls) (record_body os) e in
    let later : record_body ls ≡ record_body os = append_cancel_left (line_entry l) (record_body ls) (record_body os)
    (e ∙ ap (λ (x : List ℕ). line_entry x ++ record_body os) (sym first)) in
    ap₂ (λ (x : List ℕ) (xs : List (List ℕ)). x ∷ xs) first (body_once ls os later)

-- a number of eight bytes is known from them
pub number_once : (n m : ℕ) → n < 18446744073709551616 → m < 18446744073709551616
    → to_be_bytes w64 n ≡ to_be_bytes w64 m → n ≡ m
number_once n m n' m' e = sym (from_be_bytes-to_be_bytes_8 n n') ∙ ap (λ (bs : List ℕ). from_be_bytes w64 bs) e
    ∙ from_be_bytes-to_be_bytes_8 m m'

-- the length that a record stores
abbrev pub length_bytes : List (List ℕ) → List ℕ
length_bytes lines = to_be_bytes w64 (length (record_body lines) * 257)

abbrev pub digest_bytes : ℕ → List (List ℕ) → List ℕ
digest_bytes d lines = to_be_bytes w64 (chained d (record_body lines))

-- the three parts of a record behind its gate, and what stands behind it
pub content_parts : (d : ℕ) (lines : List (List ℕ)) (behind : List ℕ) → content_of d lines ++ behind
    ≡ length_bytes lines ++ (digest_bytes d lines ++ (record_body lines ++ behind))
content_parts d lines behind = append_assoc (length_bytes lines ++ digest_bytes d lines) (record_body lines) behind
    ∙ append_assoc (length_bytes lines) (digest_bytes d lines) (record_body lines ++ behind)

-- bodies of one stored length have one length
pub length_once : (lines others : List (List ℕ)) → IsGroup lines → IsGroup others → length_bytes lines ≡ length_bytes others
    → length (record_body lines) ≡ length (record_body others)
length_once lines others is is' e =
    let same = number_once (length (record_body lines) * 257) (length (record_body others) * 257) is.short is'.short e in
    omega (arith, same)

-- two records that stand at one place are one
pub content_once : (d : ℕ) (lines others : List (List ℕ)) (xs ys : List ℕ) → IsGroup lines → IsGroup others
    → content_of d lines ++ xs ≡ content_of d others ++ ys → lines ≡ others
content_once d lines others xs ys is is' e =
    let one = parts_same (length_bytes lines) (length_bytes others) (digest_bytes d lines ++ (record_body lines ++ xs))
    (digest_bytes d others ++ (record_body others ++ ys)) refl
    (sym (content_parts d lines xs) ∙ e ∙ content_parts d others ys) in
    let two = parts_same (digest_bytes d lines) (digest_bytes d others) (record_body lines ++ xs) (record_body others ++ ys) refl
    one.1 in
    body_once lines others
    (parts_same (record_body lines) (record_body others) xs ys (length_once lines others is is' one.0) two.1).0

pub stands_once : (d : ℕ) (rest : List ℕ) → RecordStandsOnce d rest
stands_once d rest = record {
  one = λ lines others r s. content_once d lines others r.behind s.behind r.is_group s.is_group
      (tail_same r.gate s.gate (content_of d lines ++ r.behind) (content_of d others ++ s.behind) (sym r.is ∙ s.is));
  no_end = λ lines r end.
      let shut = head_same r.gate 0 (content_of d lines ++ r.behind) end.behind (sym r.is ∙ end.is) in
      omega (arith, shut, r.gate_open);
}

pub gate_free : OpenGateIsFree
gate_free d gate other lines rest wide r = record {
  is_group = r.is_group;
  gate = other;
  gate_open = wide;
  behind = r.behind;
  is = ap (λ (xs : List ℕ). other ∷ xs) (tail_same gate r.gate rest (content_of d lines ++ r.behind) r.is);
}

made : ℕ → List (List ℕ) → RecordStored
made gate lines = record { gate = gate; lines = lines }

-- the records of groups, the first before the others
pub records_more : (d : ℕ) (g : RecordStored) (gs : List RecordStored) (xs : List ℕ) → records d (g ∷ gs) ++ xs
    ≡ (g.gate ∷ content_of d g.lines) ++ (records (digest_behind d g.lines) gs ++ xs)
unfolding records
records_more d g gs xs = append_assoc (g.gate ∷ content_of d g.lines) (records (digest_behind d g.lines) gs) xs

-- the records of groups, before a closed gate
groups_once : (d : ℕ) (gs hs : List RecordStored) (xs ys : List ℕ) → AllByRecursion IsRecordStored gs → AllByRecursion IsRecordStored hs
    → records d gs ++ 0 ∷ xs ≡ records d hs ++ 0 ∷ ys → gs ≡ hs
unfolding records made
groups_once d [] [] xs ys all all' e = refl
groups_once d [] (h ∷ hs) xs ys all all' e =
    let shut : 0 ≡ h.gate = ap (λ (zs : List ℕ). get_or zs 0 0) e in
    let wrong : ⊥ = omega (arith, shut, all'.0.gate_open) in absurd wrong
groups_once d (g ∷ gs) [] xs ys all all' e =
    let shut : g.gate ≡ 0 = ap (λ (zs : List ℕ). get_or zs 0 0) e in
    let wrong : ⊥ = omega (arith, shut, all.0.gate_open) in absurd wrong
groups_once d (g ∷ gs) (h ∷ hs) xs ys all all' e =
    ap₂ (λ (x : RecordStored) (zs : List RecordStored). x ∷ zs) first
    (groups_once (digest_behind d g.lines) gs hs xs ys all.1 all'.1 later)
  where
    more : List ℕ
    more = records (digest_behind d g.lines) gs ++ 0 ∷ xs

    more' : List ℕ
    more' = records (digest_behind d h.lines) hs ++ 0 ∷ ys

    both : (g.gate ∷ content_of d g.lines) ++ more ≡ (h.gate ∷ content_of d h.lines) ++ more'
    both = sym (records_more d g gs (0 ∷ xs)) ∙ e ∙ records_more d h hs (0 ∷ ys)

    gates : g.gate ≡ h.gate
    gates = ap (λ (zs : List ℕ). get_or zs 0 0) both

    flat : content_of d g.lines ++ more ≡ content_of d h.lines ++ more'
    flat = ap (λ (zs : List ℕ). drop 1 zs) both

    same : g.lines ≡ h.lines
    same = content_once d g.lines h.lines more more' all.0.is_group all'.0.is_group flat

    first : g ≡ h
    first = ap₂ made gates same

    later : records (digest_behind d g.lines) gs ++ 0 ∷ xs ≡ records (digest_behind d g.lines) hs ++ 0 ∷ ys
    later = append_cancel_left (content_of d g.lines) more (records (digest_behind d g.lines) hs ++ 0 ∷ ys)
        (flat ∙ ap (λ (lines : List (List ℕ)). content_of d lines ++ (records (digest_behind d lines) hs ++ 0 ∷ ys))
        (sym same))

pub opens_once : LogOpensOnce
opens_once groups others file a b = groups_once seed groups others a.behind b.behind a.are_stored b.are_stored
    (append_cancel_left log_header (records seed groups ++ 0 ∷ a.behind) (records seed others ++ 0 ∷ b.behind)
    (sym (append_assoc log_header (records seed groups) (0 ∷ a.behind)) ∙ sym a.is ∙ b.is
    ∙ append_assoc log_header (records seed others) (0 ∷ b.behind)))
