-- What is read through a window.
use Rattle.std.proofs.Common.{◌≡◌, ℕ, ◌+◌, ◌-◌, ◌≤◌, List, [], ◌++◌, length, take, drop, refl, sym, ap, ap₂, subst, ◌∙◌, arith}
use Rattle.std.specs.Prelude.{Option}
use Rattle.std.proofs.Math.Seq.{drop-drop}
use Rattle.std.proofs.lemmas.List.{take-append-drop, take-take, drop-take}
use Rattle.djq_disk.specs.History.{History, WhereHistoryTold}
use Rattle.djq_disk.specs.declared.disk.DiskRead.TheVariants.{Got, End, Failed}
use Rattle.djq_disk.proofs.Files.{told_none, told_so, told_both}
use Rattle.djq_log_file.specs.Window.{FilePart, WindowHolds, LooksAhead, ReadsThrough}

-- nothing is read
pub reads_none : (x : Option History) (w : FilePart) (P : List ℕ → Type 0) → ((bytes : List ℕ) → P bytes)
    → WhereHistoryTold x x (ReadsThrough P w w)
reads_none x w P holds = told_none x (ReadsThrough P w w) (λ o. (refl, λ has. (has, holds o.file.bytes)))

-- what follows from what is found
pub reads_so : (x y : Option History) (a b : FilePart) (P Q : List ℕ → Type 0) → ((bytes : List ℕ) → P bytes → Q bytes)
    → WhereHistoryTold x y (ReadsThrough P a b) → WhereHistoryTold x y (ReadsThrough Q a b)
reads_so x y a b P Q so told = told_so x y (ReadsThrough P a b) (ReadsThrough Q a b)
    (λ o n r. (r.0, λ has. let got = r.1 has in (got.0, so o.file.bytes got.1))) told

reads_on : (a b c : FilePart) (P Q R : List ℕ → Type 0) → ((bytes : List ℕ) → P bytes → Q bytes → R bytes)
    → (o m n : History) → ReadsThrough P a b o m → ReadsThrough Q b c m n → ReadsThrough R a c o n
reads_on a b c P Q R both o m n p q = (
  q.0 ∙ p.0,
  λ has.
      let same : m.file.bytes ≡ o.file.bytes = ap (λ (h : History). h.file.bytes) p.0 in
      let one = p.1 has in
      let two = q.1 (subst (λ (bytes : List ℕ). WindowHolds b bytes) (sym same) one.0) in
      (subst (λ (bytes : List ℕ). WindowHolds c bytes) same two.0, both o.file.bytes one.1 (subst Q same two.1)),
)

-- one reading after another
pub reads_both : (x y z : Option History) (a b c : FilePart) (P Q R : List ℕ → Type 0)
    → ((bytes : List ℕ) → P bytes → Q bytes → R bytes) → WhereHistoryTold x y (ReadsThrough P a b)
    → WhereHistoryTold y z (ReadsThrough Q b c) → WhereHistoryTold x z (ReadsThrough R a c)
reads_both x y z a b c P Q R both p q =
    told_both x y z (ReadsThrough P a b) (ReadsThrough Q b c) (ReadsThrough R a c) (reads_on a b c P Q R both) p q

-- a look ahead that found bytes
pub looks : (x y : Option History) (a b : FilePart) (n at : ℕ) → WhereHistoryTold x y (LooksAhead (Got n) at a b)
    → WhereHistoryTold x y (ReadsThrough (WindowHolds b) a b)
looks x y a b n at told = told_so x y (LooksAhead (Got n) at a b) (ReadsThrough (WindowHolds b) a b)
    (λ o h r. (r.0, λ has. (r.1 has, r.1 has))) told

-- a window that holds nothing
window_none : (w : FilePart) (bytes : List ℕ) → w.held ≡ [] → WindowHolds w bytes
window_none w bytes none = none ∙ sym (ap (λ (xs : List ℕ). take (length xs) (drop w.start bytes)) none)

-- and one that found the end
pub looks_end : (x y : Option History) (a b : FilePart) (at : ℕ) → b.held ≡ [] → WhereHistoryTold x y (LooksAhead End at a b)
    → WhereHistoryTold x y (ReadsThrough (λ bytes. length bytes ≤ at) a b)
looks_end x y a b at none told = told_so x y (LooksAhead End at a b) (ReadsThrough (λ bytes. length bytes ≤ at) a b)
    (λ o h r. (r.0, λ has. (window_none b o.file.bytes none, r.1))) told

-- and one that failed
pub looks_failed : (x y : Option History) (a b : FilePart) (at : ℕ) → b.held ≡ []
    → WhereHistoryTold x y (LooksAhead Failed at a b) → WhereHistoryTold x y (ReadsThrough (λ bytes. Unit {0}) a b)
looks_failed x y a b at none told = told_so x y (LooksAhead Failed at a b) (ReadsThrough (λ bytes. Unit {0}) a b)
    (λ o h r. (r, λ has. (window_none b o.file.bytes none, tt))) told

-- What the window holds at a place is what the file has there.
pub window_gives : (w : FilePart) (place part : ℕ) (bytes : List ℕ) → WindowHolds w bytes → w.start ≤ place
    → place + part ≤ w.start + length w.held
    → take part (drop (place - w.start) w.held) ≡ take part (drop place bytes)
window_gives w place part bytes holds low within =
    let k : ℕ = place - w.start in
    let size : ℕ = length w.held in
    let there : w.start + k ≡ place = omega arith in
    ap (λ (xs : List ℕ). take part (drop k xs)) holds
    ∙ ap (λ n. take part (drop k (take n (drop w.start bytes)))) (omega (arith, there))
    ∙ ap (take part) (drop-take k (size - k) (drop w.start bytes))
    ∙ take-take part (size - k) (drop k (drop w.start bytes)) (omega (arith, there))
    ∙ ap (take part) (drop-drop k w.start bytes ∙ ap (λ n. drop n bytes) there)

-- a buffer that was filled stands in the file
pub piece_read : (at k : ℕ) (bytes buf : List ℕ) → length buf ≡ k → buf ≡ take (length buf) (drop at bytes)
    → drop at bytes ≡ buf ++ drop (at + k) bytes
piece_read at k bytes buf size is =
    sym (take-append-drop k (drop at bytes))
    ∙ ap₂ (λ (xs ys : List ℕ). xs ++ ys) (ap (λ n. take n (drop at bytes)) (sym size) ∙ sym is) (drop-drop k at bytes)
