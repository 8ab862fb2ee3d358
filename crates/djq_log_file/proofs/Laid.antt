-- Bytes that are laid from a place on, piece behind piece.
use Rattle.std.proofs.Common.{◌≡◌, ℕ, ◌+◌, ◌≤◌, List, [], ◌++◌, length, take, drop, refl, sym, ap, subst, ◌∙◌, arith}
use Rattle.std.proofs.Common.{append_assoc, append-nil, length-append}
use Rattle.std.proofs.Math.Seq.{drop-drop}
use Rattle.djq_disk.specs.declared.disk.DiskDid.{DiskDid}
use Rattle.djq_disk.specs.declared.disk.DiskDid.TheVariants.{Done, Failed}
use Rattle.djq_disk.specs.File.{IsSettled}
use Rattle.djq_disk.specs.History.{History, DiskWrites}
use Rattle.djq_disk.proofs.Files.{leaves_none}
use Rattle.djq_log_file.specs.Laying.{Gathering, Lays, LaysBy, LaysMore, BeginsAs, WritesFrom}
use Rattle.djq_log_file.proofs.Parts.{fixed_settled, fixed_leaves, fixed_write, written_there, gone_none, gone_both, gone_write}

-- nothing is laid
lays_none : (start : ℕ) (a : Gathering) (h : History) → a.at ≡ start → a.gathered ≡ [] → IsSettled h.file
    → start ≤ length h.file.bytes → Lays start [] a h h
lays_none start a h is_at none still long =
    let fixed = fixed_settled start h.file still long in
    record {
      fixed = fixed;
      written = [];
      are = sym none;
      place = omega (arith, is_at);
      rest = drop start h.file.bytes;
      is = refl;
      later = let same : start ≡ start + 0 = omega arith in ap (λ (n : ℕ). drop n h.file.bytes) same;
      leaves = leaves_none (BeginsAs start h.file.bytes) h (fixed_leaves start h.file.bytes h.file fixed);
    }

-- a piece is gathered
pub lays_gathered : (piece : List ℕ) (a b : Gathering) (h : History) → b.at ≡ a.at → b.gathered ≡ a.gathered ++ piece
    → LaysMore Done piece a b h h
lays_gathered piece a b h is_at more = record {
  passed = gone_none h;
  lays = λ first start laid l. record {
    fixed = l.fixed;
    written = l.written;
    are = ap (λ (xs : List ℕ). xs ++ piece) l.are ∙ append_assoc l.written a.gathered piece
        ∙ ap (λ (xs : List ℕ). l.written ++ xs) (sym more);
    place = is_at ∙ l.place;
    rest = l.rest;
    is = l.is;
    later = l.later;
    leaves = l.leaves;
  };
}

-- what is gathered is written
pub lays_flushed : (a b : Gathering) (old new : History) → DiskWrites Done a.at a.gathered old new
    → b.at ≡ a.at + length a.gathered → b.gathered ≡ [] → LaysMore Done [] a b old new
lays_flushed a b old new writes is_at none = record {
  passed = gone_write Done a.at a.gathered old new writes;
  lays = λ first start laid l.
      let wrote = fixed_write Done a.at a.gathered start first old new l.fixed l.leaves (omega (arith, l.place)) writes in
      record {
        fixed = wrote.0;
        written = l.written ++ a.gathered;
        are = append-nil laid ∙ l.are ∙ sym (append-nil (l.written ++ a.gathered))
            ∙ ap (λ (xs : List ℕ). (l.written ++ a.gathered) ++ xs) (sym none);
        place = omega (arith, is_at, l.place, length-append l.written a.gathered);
        rest = drop (length a.gathered) l.rest;
        is = written_there a.at start a.gathered l.written l.rest first old new l.fixed l.place l.is writes;
        later = ap (λ (xs : List ℕ). drop (length a.gathered) xs) l.later
            ∙ drop-drop (length a.gathered) (start + length l.written) first.file.bytes
            ∙ (let place : (start + length l.written) + length a.gathered ≡ start + length (l.written ++ a.gathered) = omega
            (arith, length-append l.written a.gathered) in ap (λ (n : ℕ). drop n first.file.bytes) place);
        leaves = wrote.1;
      };
}

-- or fails to be
pub lays_unwritten : (piece : List ℕ) (a b : Gathering) (old new : History) → DiskWrites Failed a.at a.gathered old new
    → LaysMore Failed piece a b old new
lays_unwritten piece a b old new writes = record {
  passed = gone_write Failed a.at a.gathered old new writes;
  lays = λ first start laid l.
      (fixed_write Failed a.at a.gathered start first old new l.fixed l.leaves (omega (arith, l.place)) writes).1;
}

by_answer : (did : DiskDid) (start : ℕ) (xs ys : List ℕ) (writer : Gathering) (old new : History) → xs ≡ ys
    → LaysBy did start xs writer old new → LaysBy did start ys writer old new
by_answer did start xs ys writer old new same lays = subst (λ (zs : List ℕ). LaysBy did start zs writer old new) same lays

-- One piece and another behind it.
pub lays_both : (did : DiskDid) (piece more all : List ℕ) (a b c : Gathering) (old mid new : History) → piece ++ more ≡ all
    → LaysMore Done piece a b old mid → LaysMore did more b c mid new → LaysMore did all a c old new
lays_both did piece more all a b c old mid new same p q = record {
  passed = gone_both old mid new p.passed q.passed;
  lays = λ first start laid l. by_answer did start ((laid ++ piece) ++ more) (laid ++ all) c first new
      (append_assoc laid piece more ∙ ap (λ (xs : List ℕ). laid ++ xs) same)
      (q.lays first start (laid ++ piece) (p.lays first start laid l));
}

-- what failed has laid nothing more
pub lays_failed : (piece all : List ℕ) (a b c : Gathering) (old new : History) → LaysMore Failed piece a b old new
    → LaysMore Failed all a c old new
lays_failed piece all a b c old new p = record { passed = p.passed; lays = λ first start laid l. p.lays first start laid l }

-- Where all of it was laid and nothing is gathered any more, it stands in the file.
pub lays_all : (start : ℕ) (bytes : List ℕ) (a b : Gathering) (old new : History) → a.at ≡ start → a.gathered ≡ []
    → b.gathered ≡ [] → LaysMore Done bytes a b old new → WritesFrom Done start bytes old new
lays_all start bytes a b old new is_at none_before none p = record {
  passed = p.passed;
  stands = λ still long.
      let l = p.lays old start [] (lays_none start a old is_at none_before still long) in
      let all : l.written ≡ bytes = sym (l.are ∙ ap (λ (xs : List ℕ). l.written ++ xs) none ∙ append-nil l.written) in
      (l.fixed, (l.rest, l.is ∙ ap (λ (xs : List ℕ). xs ++ l.rest) all), l.leaves);
}

pub lays_not_all : (start : ℕ) (bytes all : List ℕ) (a b : Gathering) (old new : History) → a.at ≡ start
    → a.gathered ≡ [] → LaysMore Failed bytes a b old new → WritesFrom Failed start all old new
lays_not_all start bytes all a b old new is_at none p = record {
  passed = p.passed;
  stands = λ still long. p.lays old start [] (lays_none start a old is_at none still long);
}

-- ---- What a writer of pieces holds.

abbrev pub as_gathering : ℕ → List ℕ → Gathering
as_gathering at gathered = record { at = at; gathered = gathered }

-- a piece more in the buffer
pub gathered_more : (at filled end : ℕ) (buf got piece after : List ℕ) (old : Gathering)
    → as_gathering at (take filled buf) ≡ old → take end after ≡ take filled buf ++ got → got ≡ piece
    → as_gathering at (take end after) ≡ as_gathering old.at (old.gathered ++ piece)
gathered_more at filled end buf got piece after old view after_is got_is =
    ap (λ (xs : List ℕ). as_gathering at xs) (after_is ∙ ap (λ (xs : List ℕ). take filled buf ++ xs) got_is)
    ∙ ap (λ (w : Gathering). as_gathering w.at (w.gathered ++ piece)) view

-- All was laid, and what was still gathered is written.
pub lays_written : (did : DiskDid) (start : ℕ) (bytes : List ℕ) (a b c : Gathering) (old mid new : History) → a.at ≡ start
    → a.gathered ≡ [] → (did ≡ Done → c.gathered ≡ []) → LaysMore Done bytes a b old mid → LaysMore did [] b c mid new
    → WritesFrom did start bytes old new
lays_written Done start bytes a b c old mid new is_at none all p q =
    lays_all start bytes a c old new is_at none (all refl)
    (lays_both Done bytes [] bytes a b c old mid new (append-nil bytes) p q)
lays_written Failed start bytes a b c old mid new is_at none all p q =
    lays_not_all start bytes bytes a c old new is_at none
    (lays_both Failed bytes [] bytes a b c old mid new (append-nil bytes) p q)
