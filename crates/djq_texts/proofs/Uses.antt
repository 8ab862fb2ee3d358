-- The texts in use with their counts, as one of them comes, goes, or is used more or less often.
use Rattle.std.proofs.Common.{◌≡◌, ℕ, ◌+◌, ◌-◌, ◌<◌, ◌≤◌, ◌==◌, List, [], ◌∷◌, ◌++◌, length, Option, Some, None}
use Rattle.std.proofs.Common.{refl, sym, ◌∙◌, subst, arith, inl, inr, ap, slice_set, IsSome, length-set, length-append, eqb-true, true, false, cond, Bool, replicate}
use Rattle.std.proofs.lemmas.Bool.{cases_eq}
use Rattle.std.proofs.lemmas.List.{length-replicate}
use Rattle.djq_arena.specs.declared.link.TheConstants.{SLOTS}
use Rattle.djq_texts.specs.Known.{Known, known_at, uses_of, with_more, with_less, HasNoNumber, IsOneToOne}
use Rattle.djq_texts.specs.Known.{Sets, IsTight, in_use_from, one_if_used}
use Rattle.djq_texts.specs.Index.{IsTextIndex, AreTexts, AreFewBuckets, quarter, falls, place}
use Rattle.djq_texts.proofs.Known.{set_sets, append_sets, one_less, one_same, one_more}
use Rattle.djq_texts.proofs.InUse.{in_use_within}
use Rattle.djq_texts.proofs.Index.{reindexed, none_listed, all_listed}
use Rattle.djq_texts.proofs.Counting.{counted_same, counted_came, counted_went, counted_next_came, counted_some, counted_few, counted_used}
use Rattle.djq_texts.proofs.Counting.{counted_end, Share, share_all, not_none}

-- no texts
no_texts : (heads : List (Option ℕ)) → length heads ≡ 17 → heads ≡ replicate (length heads) None
    → AreTexts [] [] heads 0 0
no_texts heads many empty = record {
  index = all_listed [] [] heads (none_listed [] [] heads empty) refl (omega (arith, many)) (omega arith);
  one = λ text m n hm hn. absurd cc;
  used = sym (counted_end 0 [] (omega arith));
  high = sym (counted_end (quarter (length heads)) [] (omega arith));
  room = omega (arith, many);
  tight = inl (omega (arith, many));
}

pub at_first : (known : List (Option Known)) (links heads : List (Option ℕ)) → known ≡ [] → links ≡ []
    → heads ≡ replicate 17 None → AreTexts known links heads 0 0
at_first known links heads none nothing empty =
    let many : length heads ≡ 17 = ap (λ (l : List (Option ℕ)). length l) empty
    ∙ length-replicate {A = Option ℕ} 17 None in
    rw (none, nothing)
    (no_texts heads many (empty ∙ ap (λ (n : ℕ). replicate {A = Option ℕ} n None) (sym many)))

-- the numbers are few
pub tight_numbers : (known : List (Option Known)) (links heads : List (Option ℕ)) (count upper : ℕ)
    → AreTexts known links heads count upper → IsTight known
tight_numbers known links heads count upper t = elim t.tight [
  | inl few ↦ inl (omega (arith, few, t.room))
  | inr some ↦
      let one = counted_some (quarter (length heads)) known (omega (arith, some, t.high)) in
      inr (one.number, one.used, omega (arith, one.from, t.room))
]

-- ---- A text is used more often, or less.

-- a text has another number of uses
pub other_uses : (known : List (Option Known)) (links heads : List (Option ℕ)) (count upper n : ℕ) (k : Known) (uses : ℕ)
    → AreTexts known links heads count upper → known_at known n ≡ Some k → n < length known
    → AreTexts (slice_set known n (Some (record { bytes = k.bytes; uses = uses }))) links heads count upper
other_uses known links heads count upper n k uses t at within =
    let o : Option Known = Some (record { bytes = k.bytes; uses = uses }) in
    let s = set_sets known n o within in
    let long : length (slice_set known n o) ≡ length known = length-set known n o in
    let one : one_if_used o ≡ one_if_used (known_at known n) = sym (ap (λ (e : Option Known). one_if_used e) at) in
    record {
      index = reindexed known (slice_set known n o) links heads t.index long (λ j. elim (cases_eq j n) [
        | inl here ↦ ap (λ (i : ℕ). falls (length heads) (slice_set known n o) i) here
            ∙ ap (λ (e : Option Known). place (length heads) e) s.here
            ∙ sym (ap (λ (e : Option Known). place (length heads) e) at)
            ∙ sym (ap (λ (i : ℕ). falls (length heads) known i) here)
        | inr other ↦ ap (λ (e : Option Known). place (length heads) e) (s.others j other)
      ]);
      one = one_same known (slice_set known n o) n k uses at s t.one;
      used = t.used ∙ sym (counted_same 0 n known o within one);
      high = t.high ∙ sym (counted_same (quarter (length heads)) n known o within one);
      room = omega (arith, t.room, long);
      tight = t.tight;
    }

pub used_more : (known : List (Option Known)) (links heads : List (Option ℕ)) (count upper n : ℕ) (o : Option Known)
    → AreTexts known links heads count upper → IsSome (known_at known n) → known_at known n ≡ o
    → AreTexts (slice_set known n (with_more o)) links heads count upper
used_more known links heads count upper n None t used at = absurd (not_none (subst (λ (e : Option Known). IsSome e) at used))
used_more known links heads count upper n (Some k) t used at =
    other_uses known links heads count upper n k (k.uses + 1) t at (in_use_within known n used)

-- with another use than the last one, a text stays
less_uses : (k : Known) (b : Bool) → (k.uses == 1) ≡ b → 1 < k.uses
    → cond {A = Option Known} b None (Some (record { bytes = k.bytes; uses = k.uses - 1 })) ≡ Some (record { bytes = k.bytes; uses = k.uses - 1 })
less_uses k true h more = absurd (omega (arith, eqb-true k.uses 1 h, more))
less_uses k false h more = refl

pub used_less : (known : List (Option Known)) (links heads : List (Option ℕ)) (count upper n : ℕ) (o : Option Known)
    → AreTexts known links heads count upper → IsSome (known_at known n) → known_at known n ≡ o → 1 < uses_of o
    → AreTexts (slice_set known n (with_less o)) links heads count upper
used_less known links heads count upper n None t used at more =
    absurd (not_none (subst (λ (e : Option Known). IsSome e) at used))
used_less known links heads count upper n (Some k) t used at more =
    subst (λ (e : Option Known). AreTexts (slice_set known n e) links heads count upper)
    (sym (less_uses k (k.uses == 1) refl more))
    (other_uses known links heads count upper n k (k.uses - 1) t at (in_use_within known n used))

pub once_used : (o : Option Known) → uses_of o ≡ 1 → IsSome o
once_used None h = absurd (omega (arith, h))
once_used (Some k) h = refl

-- ---- A text goes.

-- the counts without it
pub record Lost (known : List (Option Known)) (n : ℕ) (buckets count upper one : ℕ) : Type 0 where
  pub some : 1 ≤ count
  pub enough : one ≤ upper
  pub used : count - 1 ≡ in_use_from 0 (slice_set known n None)
  pub high : upper - one ≡ in_use_from (quarter buckets) (slice_set known n None)

pub lost : (known : List (Option Known)) (links heads : List (Option ℕ)) (count upper n one : ℕ)
    → AreTexts known links heads count upper → IsSome (known_at known n) → Share (quarter (length heads)) n one
    → Lost known n (length heads) count upper one
lost known links heads count upper n one t used s =
    let within = in_use_within known n used in
    let all = counted_went 0 n known 1 within used (share_all n) in
    let these = counted_went (quarter (length heads)) n known one within used s in
    record {
      some = omega (arith, all, t.used);
      enough = omega (arith, these, t.high);
      used = omega (arith, all, t.used);
      high = omega (arith, these, t.high);
    }

-- the same numbers have the same
pub one_alike : (old new : List (Option Known)) → ((n : ℕ) → known_at new n ≡ known_at old n) → IsOneToOne old
    → IsOneToOne new
one_alike old new same one = λ text m n hm hn. one text m n (hm.0, sym (same m) ∙ hm.1) (hn.0, sym (same n) ∙ hn.1)

pub sets_alike : (old mid new : List (Option Known)) (n : ℕ) (now : Option Known) → Sets old n now mid
    → ((m : ℕ) → known_at new m ≡ known_at mid m) → Sets old n now new
sets_alike old mid new n now s same = record {
  here = same n ∙ s.here;
  others = λ m other. same m ∙ s.others m other;
}

-- ---- A text comes.

-- fewer buckets than may be stay so, with one text more
more_few : (buckets upper one : ℕ) → AreFewBuckets buckets upper → AreFewBuckets buckets (upper + one)
more_few buckets upper one h = elim h [
  | inl few ↦ inl few
  | inr some ↦ inr (omega (arith, some))
]

pub come : (known : List (Option Known)) (links heads more others : List (Option ℕ)) (count upper n one : ℕ)
    (text : List ℕ) → AreTexts known links heads count upper → HasNoNumber known text → n < length known
    → known_at known n ≡ None → Share (quarter (length heads)) n one → length others ≡ length heads
    → IsTextIndex (slice_set known n (Some (record { bytes = text; uses = 1 }))) more others
    → AreTexts (slice_set known n (Some (record { bytes = text; uses = 1 }))) more others (count + 1) (upper + one)
come known links heads more others count upper n one text t unknown within free s many x =
    let k : Known = record { bytes = text; uses = 1 } in
    record {
      index = x;
      one = one_more known (slice_set known n (Some k)) n text 1 unknown (set_sets known n (Some k) within) t.one;
      used = omega (arith, t.used, counted_came 0 n known k 1 within free (share_all n));
      high = rw many (omega (arith, t.high, counted_came (quarter (length heads)) n known k one within free s));
      room = omega (arith, t.room, many, length-set known n (Some k));
      tight = rw many (more_few (length heads) upper one t.tight);
    }

pub come_next : (known : List (Option Known)) (links heads more others : List (Option ℕ)) (count upper one : ℕ)
    (text : List ℕ) → AreTexts known links heads count upper → HasNoNumber known text
    → Share (quarter (length heads)) (length known) one → length others ≡ length heads
    → length known + 1 < length heads
    → IsTextIndex (known ++ Some (record { bytes = text; uses = 1 }) ∷ []) more others
    → AreTexts (known ++ Some (record { bytes = text; uses = 1 }) ∷ []) more others (count + 1) (upper + one)
come_next known links heads more others count upper one text t unknown s many room x =
    let k : Known = record { bytes = text; uses = 1 } in
    record {
      index = x;
      one = one_more known (known ++ Some k ∷ []) (length known) text 1 unknown (append_sets known (Some k)) t.one;
      used = omega (arith, t.used, counted_next_came 0 known k 1 (share_all (length known)));
      high = rw many (omega (arith, t.high, counted_next_came (quarter (length heads)) known k one s));
      room = omega (arith, room, many, length-append known (Some k ∷ []));
      tight = rw many (more_few (length heads) upper one t.tight);
    }

-- where a text is in use, some are
pub some_used : (known : List (Option Known)) (links heads : List (Option ℕ)) (count upper n : ℕ)
    → AreTexts known links heads count upper → IsSome (known_at known n) → 1 ≤ count
some_used known links heads count upper n t used =
    omega (arith, t.used, counted_used 0 n known (omega arith) used)

-- no more texts are counted than numbers can be given
pub few_texts : (known : List (Option Known)) (links heads : List (Option ℕ)) (count upper : ℕ)
    → AreTexts known links heads count upper → (count ≤ SLOTS) × (upper ≤ SLOTS)
few_texts known links heads count upper t = (
  omega (arith, t.used, counted_few 0 known, t.index.few),
  omega (arith, t.high, counted_few (quarter (length heads)) known, t.index.few),
)

-- a share by what was asked
pub share_at : (buckets n m k one : ℕ) → m ≡ buckets → k ≡ n → (k < quarter m → one ≡ 0) → (quarter m ≤ k → one ≡ 1)
    → Share (quarter buckets) n one
share_at buckets n m k one many number low high = subst (λ (b : ℕ). Share (quarter b) n one) many
    (subst (λ (i : ℕ). Share (quarter m) i one) number (record { low = low; high = high }))

-- the text went, and the store may be smaller
pub gone : (known mid new : List (Option Known)) (links heads more others : List (Option ℕ)) (count upper n one high : ℕ)
    → AreTexts known links heads count upper → IsSome (known_at known n) → Share (quarter (length heads)) n one
    → mid ≡ slice_set known n None → ((m : ℕ) → known_at new m ≡ known_at mid m) → in_use_from 0 new ≡ in_use_from 0 mid
    → IsTextIndex new more others → length new < length others → high ≡ in_use_from (quarter (length others)) new
    → AreFewBuckets (length others) high → AreTexts new more others (count - 1) high
gone known mid new links heads more others count upper n one high t used s is same counted x room these tight =
    let l = lost known links heads count upper n one t used s in
    record {
      index = x;
      one = one_alike mid new same (subst (λ (k : List (Option Known)). IsOneToOne k) (sym is)
          (one_less known (slice_set known n None) n (set_sets known n None (in_use_within known n used)) t.one));
      used = l.used ∙ sym (counted ∙ ap (λ (k : List (Option Known)). in_use_from 0 k) is);
      high = these;
      room = room;
      tight = tight;
    }

-- the buckets are more, or memory was refused for them
pub as_wide : (known next : List (Option Known)) (links heads more others : List (Option ℕ)) (count upper : ℕ)
    → AreTexts known links heads count upper → next ≡ known → IsTextIndex next more others
    → length others ≡ length heads → AreTexts next more others count upper
as_wide known next links heads more others count upper t same x many = record {
  index = x;
  one = rw same t.one;
  used = rw same t.used;
  high = rw (same, many) t.high;
  room = rw (same, many) t.room;
  tight = rw many t.tight;
}

pub widened : (known next last : List (Option Known)) (links heads more further others : List (Option ℕ))
    (count upper high : ℕ) → AreTexts known links heads count upper → next ≡ known → IsTextIndex next more others
    → length next + 1 < length others → high ≡ in_use_from (quarter (length others)) next
    → AreFewBuckets (length others) high → last ≡ next → further ≡ more → AreTexts last further others count high
widened known next last links heads more further others count upper high t same x room these tight after then =
    rw (after, then) (record {
      index = x;
      one = rw same t.one;
      used = rw same t.used;
      high = these;
      room = omega (arith, room);
      tight = tight;
    })
