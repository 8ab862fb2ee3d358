-- Places outside of which no session has a line that may be run.
use Rattle.std.proofs.Common.{ℕ, zero, suc, ◌<◌, ◌≤◌, ◌≡◌, ◌++◌, ◌⊎◌, ◌+◌, ◌-◌, Bool, true, false, List, [], ◌∷◌, length}
use Rattle.std.proofs.Common.{set, drop, find, cond, Option, None, Some, refl, sym, ap, ◌∙◌, subst, arith, inl, inr}
use Rattle.std.proofs.Common.{is_some, nat_le, ◌&&◌}
use Rattle.std.specs.Prelude.{◌≢◌, option_map, slice_get}
use Rattle.std.specs.List.{remove}
use Rattle.std.proofs.lemmas.Bool.{cond-false, le-leb}
use Rattle.std.proofs.lemmas.Option.{same_Some, slice_get_within}
use Rattle.djq_session.specs.Dialog.{dialog_is_ready}
use Rattle.djq_commands.specs.declared.open.OpenSession.{OpenSession}
use Rattle.djq_core.specs.Sessions.{QuietOutside}
use Rattle.djq_core.proofs.Placed.{none_left, passes_from}

pub quiet_none : (from to : ℕ) → QuietOutside [] from to
quiet_none from to = λ at x e out. absurd (cc (e))

-- one session is changed, at a place that isn't outside
set_other : (xs : List OpenSession) (at k : ℕ) (y : OpenSession) → k ≢ at → slice_get (set xs at y) k ≡ slice_get xs k
set_other [] zero k y other = refl
set_other [] (suc at) k y other = refl
set_other (x ∷ xs) zero zero y other = absurd (other refl)
set_other (x ∷ xs) zero (suc k) y other = refl
set_other (x ∷ xs) (suc at) zero y other = refl
set_other (x ∷ xs) (suc at) (suc k) y other = set_other xs at k y (λ e. other (omega (arith, e)))

pub quiet_put : (xs : List OpenSession) (at : ℕ) (y : OpenSession) (from to from' to' : ℕ) → QuietOutside xs from to
    → from' ≤ from → to ≤ to' → from' ≤ at → at < to' → QuietOutside (set xs at y) from' to'
quiet_put xs at y from to from' to' quiet low high above below = λ k x e out.
    quiet k x (sym (set_other xs at k y (differs k out)) ∙ e) (wider k out)
  where
    differs : (k : ℕ) → (k < from') ⊎ (to' ≤ k) → k ≢ at
    differs k (inl l) same = omega (arith, l, above, same)
    differs k (inr l) same = omega (arith, l, below, same)

    wider : (k : ℕ) → (k < from') ⊎ (to' ≤ k) → (k < from) ⊎ (to ≤ k)
    wider k (inl l) = inl (omega (arith, l, low))
    wider k (inr l) = inr (omega (arith, l, high))

-- one session is put behind the others
get_pushed : (xs : List OpenSession) (y : OpenSession) (k : ℕ) (x : OpenSession) → slice_get (xs ++ y ∷ []) k ≡ Some x
    → (slice_get xs k ≡ Some x) ⊎ (k ≡ length xs)
get_pushed [] y zero x e = inr refl
get_pushed [] y (suc k) x e = absurd (cc (e))
get_pushed (z ∷ xs) y zero x e = inl e
get_pushed (z ∷ xs) y (suc k) x e = elim (get_pushed xs y k x e) [
  | inl h ↦ inl h
  | inr h ↦ inr (omega (arith, h))
]

pub quiet_push : (xs : List OpenSession) (y : OpenSession) (from to from' to' : ℕ) → QuietOutside xs from to
    → from' ≤ from → to ≤ to' → from' ≤ length xs → length xs < to' → QuietOutside (xs ++ y ∷ []) from' to'
quiet_push xs y from to from' to' quiet low high above below = λ k x e out. by k x out (get_pushed xs y k x e)
  where
    wider : (k : ℕ) → (k < from') ⊎ (to' ≤ k) → (k < from) ⊎ (to ≤ k)
    wider k (inl l) = inl (omega (arith, l, low))
    wider k (inr l) = inr (omega (arith, l, high))

    by : (k : ℕ) (x : OpenSession) → (k < from') ⊎ (to' ≤ k) → (slice_get xs k ≡ Some x) ⊎ (k ≡ length xs)
        → dialog_is_ready x.session ≡ false
    by k x out (inl h) = quiet k x h (wider k out)
    by k x (inl l) (inr h) = absurd (omega (arith, l, h, above))
    by k x (inr l) (inr h) = absurd (omega (arith, l, h, below))

-- one session is taken out
get_gone : (xs : List OpenSession) (at k : ℕ) (x : OpenSession) → slice_get (remove xs at) k ≡ Some x
    → (slice_get xs k ≡ Some x) ⊎ (slice_get xs (suc k) ≡ Some x)
get_gone [] zero k x e = absurd (cc (e))
get_gone [] (suc at) k x e = absurd (cc (e))
get_gone (z ∷ xs) zero k x e = inr e
get_gone (z ∷ xs) (suc at) zero x e = inl e
get_gone (z ∷ xs) (suc at) (suc k) x e = get_gone xs at k x e

pub quiet_gone : (xs : List OpenSession) (at from to from' : ℕ) → QuietOutside xs from to
    → ((k : ℕ) → k < from' → suc k < from) → QuietOutside (remove xs at) from' to
quiet_gone xs at from to from' quiet low = λ k x e out. by k x out (get_gone xs at k x e)
  where
    by : (k : ℕ) (x : OpenSession) → (k < from') ⊎ (to ≤ k)
        → (slice_get xs k ≡ Some x) ⊎ (slice_get xs (suc k) ≡ Some x) → dialog_is_ready x.session ≡ false
    by k x (inl l) (inl h) = quiet k x h (inl (omega (arith, low k l)))
    by k x (inl l) (inr h) = quiet (suc k) x h (inl (low k l))
    by k x (inr l) (inl h) = quiet k x h (inr l)
    by k x (inr l) (inr h) = quiet (suc k) x h (inr (omega (arith, l)))

-- ---- The first that has a line.

both_false : (a b : Bool) → b ≡ false → (a && b) ≡ false
both_false true b e = e
both_false false b e = refl

-- one that is quiet is passed over
over_one : (xs : List OpenSession) (from at : ℕ)
    → ((x : OpenSession) → slice_get xs at ≡ Some x → dialog_is_ready x.session ≡ false)
    → find (passes_from dialog_is_ready from) (drop at xs) ≡ find (passes_from dialog_is_ready from) (drop (suc at) xs)
over_one [] from zero h = refl
over_one [] from (suc at) h = refl
over_one (y ∷ xs) from zero h = cond-false _ _ _ (both_false (nat_le from y.id) (dialog_is_ready y.session) (h y refl))
over_one (y ∷ xs) from (suc at) h = over_one xs from at h

-- so are several
over_some : (xs : List OpenSession) (from at n : ℕ)
    → ((k : ℕ) (x : OpenSession) → slice_get xs k ≡ Some x → at ≤ k → k < at + n → dialog_is_ready x.session ≡ false)
    → find (passes_from dialog_is_ready from) (drop at xs) ≡ find (passes_from dialog_is_ready from) (drop (at + n) xs)
over_some xs from at zero h =
    let same : at ≡ at + 0 = omega arith in
    ap (λ (k : ℕ). find (passes_from dialog_is_ready from) (drop k xs)) same
over_some xs from at (suc n) h =
    let same : suc at + n ≡ at + suc n = omega arith in
    over_one xs from at (λ x e. h at x e (omega arith) (omega arith))
    ∙ over_some xs from (suc at) n (λ k x e above below. h k x e (omega (arith, above)) (omega (arith, below)))
    ∙ ap (λ (k : ℕ). find (passes_from dialog_is_ready from) (drop k xs)) same

-- the search begins at the first place that isn't outside
pub starts_at : (xs : List OpenSession) (from low high place start : ℕ) → QuietOutside xs low high → place ≤ start
    → ((k : ℕ) → place ≤ k → k < start → k < low)
    → find (passes_from dialog_is_ready from) xs ≡ find (passes_from dialog_is_ready from) (drop place xs)
    → find (passes_from dialog_is_ready from) xs ≡ find (passes_from dialog_is_ready from) (drop start xs)
starts_at xs from low high place start quiet le under so_far =
    let same : place + (start - place) ≡ start = omega (arith, le) in
    so_far
    ∙ over_some xs from place (start - place)
    (λ k x e above below. quiet k x e (inl (under k above (omega (arith, below, same)))))
    ∙ ap (λ (k : ℕ). find (passes_from dialog_is_ready from) (drop k xs)) same

-- and ends where only places outside are left
pub ends_at : (xs : List OpenSession) (from low high at : ℕ) → QuietOutside xs low high
    → ((k : ℕ) → at ≤ k → k < length xs → high ≤ k)
    → find (passes_from dialog_is_ready from) xs ≡ find (passes_from dialog_is_ready from) (drop at xs)
    → None ≡ option_map (λ (x : OpenSession). x.id) (find (passes_from dialog_is_ready from) xs)
ends_at xs from low high at quiet over so_far =
    sym (ap (option_map (λ (x : OpenSession). x.id)) (so_far
    ∙ over_some xs from at (length xs)
    (λ k x e above below. quiet k x e (inr (over k above (slice_get_within xs k x e))))
    ∙ none_left dialog_is_ready xs from (at + length xs) (omega arith)))

-- ---- Where none has a line.

not_first : (passes : Bool) (y : OpenSession) (rest : Option OpenSession)
    → None ≡ option_map (λ (x : OpenSession). x.id) (cond passes (Some y) rest)
    → (passes ≡ false) × (None ≡ option_map (λ (x : OpenSession). x.id) rest)
not_first true y rest h = absurd (cc (h))
not_first false y rest h = (refl, h)

second_false : (a b : Bool) → a ≡ true → (a && b) ≡ false → b ≡ false
second_false true b e h = h
second_false false b e h = absurd (cc (e))

all_quiet : (xs : List OpenSession)
    → None ≡ option_map (λ (x : OpenSession). x.id) (find (passes_from dialog_is_ready 0) xs)
    → (at : ℕ) (x : OpenSession) → slice_get xs at ≡ Some x → dialog_is_ready x.session ≡ false
all_quiet [] h at x e = absurd (cc (e))
all_quiet (y ∷ xs) h zero x e =
    let first = not_first (passes_from dialog_is_ready 0 y) y (find (passes_from dialog_is_ready 0) xs) h in
    subst (λ (z : OpenSession). dialog_is_ready z.session ≡ false) (same_Some y x e)
    (second_false (nat_le 0 y.id) (dialog_is_ready y.session) (le-leb 0 y.id (omega arith)) first.0)
all_quiet (y ∷ xs) h (suc at) x e =
    let first = not_first (passes_from dialog_is_ready 0 y) y (find (passes_from dialog_is_ready 0) xs) h in
    all_quiet xs first.1 at x e

is_none_of : (o : Option ℕ) → is_some o ≡ false → None ≡ o
is_none_of None e = refl
is_none_of (Some n) e = absurd (cc (e))

pub quiet_everywhere : (xs : List OpenSession) (found : Option ℕ) (from to : ℕ) → is_some found ≡ false
    → found ≡ option_map (λ (x : OpenSession). x.id) (find (passes_from dialog_is_ready 0) xs) → QuietOutside xs from to
quiet_everywhere xs found from to none is = λ at x e out. all_quiet xs (is_none_of found none ∙ is) at x e
