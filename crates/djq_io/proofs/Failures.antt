-- Which calls fail, and that a steady hub has none that does.
use Rattle.std.proofs.Common.{◌≡◌, ℕ, ◌+◌, ◌-◌, ◌<◌, Bool, true, false, ◌||◌, nat_eq, cond, List, [], ◌∷◌, refl, sym}
use Rattle.std.proofs.Common.{arith, ◌≢◌, ◌&&◌, ap, ◌∙◌, length, ap₂}
use Rattle.std.specs.List.{count_by, list_any}
use Rattle.std.proofs.lemmas.List.Sums.{sum_by-cons}
use Rattle.std.proofs.lemmas.Bool.Decides.{nat_tests}
use Rattle.std.specs.Prelude.{Option, Some, None, IfSome}
use Rattle.std.proofs.lemmas.List.Folds.{list_any-append}
use Rattle.djq_io.specs.declared.failing.FailingSend.{FailingSend}
use Rattle.djq_io.specs.declared.hub.Sent.{Sent}
use Rattle.djq_io.specs.declared.hub.Sent.TheVariants.{Took, Again, Gone}
use Rattle.djq_io.specs.declared.hub.Told.{Told}
use Rattle.djq_io.specs.declared.hub.Told.TheVariants.{Sending}
use Rattle.djq_io.specs.Failing.{is_failing, after_call, failed_count, CountsDown}
use Rattle.djq_io.specs.FailingSends.{is_send_due, one_after_send, after_send, failed_sends, CountsSends}
use Rattle.djq_io.specs.Sink.{Gains}
use Rattle.djq_io.specs.MemHub.{Recorded, send_of}
use Rattle.djq_io.specs.SteadyHub.{is_gone, has_gone}

-- ---- What a call makes of the calls that are to fail.

-- how many of the calls are the next one
abbrev due_count : List ℕ → ℕ
due_count calls = count_by (λ call. nat_eq call 1) calls

pub count_step : {X : Type 0} (p : X → Bool) (x : X) (xs : List X)
    → count_by p (x ∷ xs) ≡ cond (p x) 1 0 + count_by p xs
count_step p x xs = sum_by-cons (λ y. cond (p y) 1 0) x xs

pub one_counted : (call : ℕ) → cond (nat_eq (call - 1) 0) 1 0 ≡ cond (nat_eq call 0) 1 0 + cond (nat_eq call 1) 1 0
one_counted call = grind (arith, nat_tests)

counts_all : (calls : List ℕ) → failed_count (after_call calls) ≡ failed_count calls + due_count calls
counts_all [] = refl
counts_all (call ∷ calls) = omega (
  arith,
  count_step (λ c. nat_eq c 0) (call - 1) (after_call calls),
  count_step (λ c. nat_eq c 0) call calls,
  count_step (λ c. nat_eq c 1) call calls,
  one_counted call,
  counts_all calls,
)

due_some : (calls : List ℕ) → is_failing calls ≡ true → 0 < due_count calls
due_some [] due = cc
due_some (call ∷ calls) due = some_at (nat_eq call 1) calls due (due_some calls)
    (count_step (λ c. nat_eq c 1) call calls)
  where
    some_at : (b : Bool) (calls : List ℕ) → (b || is_failing calls) ≡ true
        → (is_failing calls ≡ true → 0 < due_count calls)
        → due_count (call ∷ calls) ≡ cond b 1 0 + due_count calls → 0 < due_count (call ∷ calls)
    some_at true calls due more step = omega (arith, step)
    some_at false calls due more step = omega (arith, step, more due)

due_none : (calls : List ℕ) → is_failing calls ≡ false → due_count calls ≡ 0
due_none [] due = refl
due_none (call ∷ calls) due = none_at (nat_eq call 1) calls due (due_none calls)
    (count_step (λ c. nat_eq c 1) call calls)
  where
    none_at : (b : Bool) (calls : List ℕ) → (b || is_failing calls) ≡ false
        → (is_failing calls ≡ false → due_count calls ≡ 0)
        → due_count (call ∷ calls) ≡ cond b 1 0 + due_count calls → due_count (call ∷ calls) ≡ 0
    none_at true calls due more step = cc
    none_at false calls due more step = omega (arith, step, more due)

-- A call that was to fail has failed, and no other.
pub counts_down : (fails : Bool) (old new : List ℕ) → fails ≡ is_failing old → new ≡ after_call old
    → CountsDown fails old new
counts_down true old new is counted = rw counted (omega (arith, counts_all old, due_some old (sym is)))
counts_down false old new is counted = rw counted (omega (arith, counts_all old, due_none old (sym is)))

-- ---- What a send makes of the sends that are to fail.

-- a send to this session that failed, and one that is the next
abbrev has_failed : ℕ → FailingSend → Bool
has_failed id f = nat_eq f.id id && nat_eq f.send 0

abbrev is_next : ℕ → FailingSend → Bool
is_next id f = nat_eq f.id id && nat_eq f.send 1

and_cases : (a b : Bool) (n : ℕ) → a ≡ b → cond a n 0 ≡ cond b n 0
and_cases a b n same = ap (λ t. cond t n 0) same

self_eq : (n : ℕ) → nat_eq n n ≡ true
self_eq n = grind (arith, nat_tests)

one_counted_counting_sends : (id : ℕ) (f : FailingSend) → cond (has_failed id (one_after_send id f)) 1 0
    ≡ cond (has_failed id f) 1 0 + cond (is_next id f) 1 0
one_counted_counting_sends id f = at_head (nat_eq f.id id) refl
  where
    at_head : (b : Bool) → nat_eq f.id id ≡ b
        → cond (has_failed id (cond b (record { id = id; send = f.send - 1 }) f)) 1 0
        ≡ cond (b && nat_eq f.send 0) 1 0 + cond (b && nat_eq f.send 1) 1 0
    at_head true is = ap (λ t. cond (t && nat_eq (f.send - 1) 0) 1 0) (self_eq id) ∙ one_counted f.send
    at_head false is = ap (λ t. cond (t && nat_eq f.send 0) 1 0) is

others_kept : (id other : ℕ) (f : FailingSend) → other ≢ id → has_failed other (one_after_send id f)
    ≡ has_failed other f
others_kept id other f differ = at_head (nat_eq f.id id) refl
  where
    neither : (n : ℕ) → n ≡ id → nat_eq n other ≡ false
    neither n same = grind (arith, nat_tests)

    at_head : (b : Bool) → nat_eq f.id id ≡ b → has_failed other (cond b (record { id = id; send = f.send - 1 }) f)
        ≡ has_failed other f
    at_head true is =
        let same : f.id ≡ id = grind (arith, nat_tests) in
        ap (λ t. t && nat_eq (f.send - 1) 0) (neither id refl)
        ∙ sym (ap (λ t. t && nat_eq f.send 0) (neither f.id same))
    at_head false is = refl

counts_all_counting_sends : (id : ℕ) (sends : List FailingSend) → failed_sends (after_send id sends) id
    ≡ failed_sends sends id + count_by (is_next id) sends
counts_all_counting_sends id [] = refl
counts_all_counting_sends id (f ∷ fs) = omega (
  arith,
  count_step (has_failed id) (one_after_send id f) (after_send id fs),
  count_step (has_failed id) f fs,
  count_step (is_next id) f fs,
  one_counted_counting_sends id f,
  counts_all_counting_sends id fs,
)

counts_others : (id other : ℕ) (sends : List FailingSend) → other ≢ id → failed_sends (after_send id sends) other
    ≡ failed_sends sends other
counts_others id other [] differ = refl
counts_others id other (f ∷ fs) differ = omega (
  arith,
  count_step (has_failed other) (one_after_send id f) (after_send id fs),
  count_step (has_failed other) f fs,
  and_cases _ _ 1 (others_kept id other f differ),
  counts_others id other fs differ,
)

any_some : {X : Type 0} (p : X → Bool) (xs : List X) → list_any p xs ≡ true → 0 < count_by p xs
any_some p [] passes = cc
any_some {X = X} p (x ∷ xs) passes = at_head (p x) passes (any_some p xs) (count_step p x xs)
  where
    at_head : (b : Bool) → (b || list_any p xs) ≡ true → (list_any p xs ≡ true → 0 < count_by p xs)
        → count_by p (x ∷ xs) ≡ cond b 1 0 + count_by p xs → 0 < count_by p (x ∷ xs)
    at_head true passes more step = omega (arith, step)
    at_head false passes more step = omega (arith, step, more passes)

any_none : {X : Type 0} (p : X → Bool) (xs : List X) → list_any p xs ≡ false → count_by p xs ≡ 0
any_none p [] fails = refl
any_none {X = X} p (x ∷ xs) fails = at_head (p x) fails (any_none p xs) (count_step p x xs)
  where
    at_head : (b : Bool) → (b || list_any p xs) ≡ false → (list_any p xs ≡ false → count_by p xs ≡ 0)
        → count_by p (x ∷ xs) ≡ cond b 1 0 + count_by p xs → count_by p (x ∷ xs) ≡ 0
    at_head true fails more step = cc
    at_head false fails more step = omega (arith, step, more fails)

-- A send that was to fail has failed, and no other.
pub counts_sends : (fails : Bool) (id : ℕ) (old new : List FailingSend) → fails ≡ is_send_due id old → new
    ≡ after_send id old → CountsSends fails id old new
counts_sends true id old new is counted = rw counted (
  omega (arith, counts_all_counting_sends id old, any_some (is_next id) old (sym is)),
  λ other differ. counts_others id other old
      differ,
)
counts_sends false id old new is counted = rw counted (
  omega (arith, counts_all_counting_sends id old, any_none (is_next id) old (sym is)),
  λ other differ. counts_others id other old
      differ,
)

-- ---- A hub of which no call is to fail stays so, call by call.

-- the past gains a call that is no send to a session that is gone
pub quiet_more : (old new : Option (List Told)) (t : Told) → is_gone t ≡ false → Gains old new (t ∷ [])
    → IfSome old (λ told. has_gone told ≡ false) → IfSome new (λ told. has_gone told ≡ false)
quiet_more old None t quiet gains steady = tt
quiet_more None (Some n) t quiet gains steady = absurd gains
quiet_more (Some o) (Some n) t quiet gains steady =
    ap has_gone gains ∙ list_any-append is_gone o (t ∷ []) ∙ ap₂ (λ (a b : Bool). a || (b || false)) steady quiet

-- no send is gone where none is to fail
pub send_quiet : (hub : Recorded) (id offered : ℕ) (piece taken : List ℕ) (sent : Sent) → hub.failing_sends ≡ []
    → sent ≡ send_of hub id piece → is_gone (Sending id offered sent taken) ≡ false
send_quiet hub id offered piece taken sent none is =
    ap (λ (s : Sent). is_gone (Sending id offered s taken)) is
    ∙ ap (λ (sends : List FailingSend). is_gone (Sending id offered (answer (is_send_due id sends)) taken)) none
    ∙ by_blocked (list_any (λ other. nat_eq other id) hub.script.blocked)
  where
    answer : Bool → Sent
    answer due =
        cond due Gone (cond (list_any (λ other. nat_eq other id) hub.script.blocked) Again (Took (length piece)))

    by_blocked : (b : Bool) → is_gone (Sending id offered (cond b Again (Took (length piece))) taken) ≡ false
    by_blocked true = refl
    by_blocked false = refl
