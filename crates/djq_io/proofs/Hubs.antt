-- The sessions of a hub in memory: its script, the ids that end, and their faults.
use Rattle.std.proofs.Common.{◌≡◌, ℕ, zero, suc, ◌+◌, ◌<◌, List, [], ◌∷◌, ◌++◌, length, take, drop, get_or, map, refl}
use Rattle.std.proofs.Common.{arith, ap, add-one, Bool, true, false, ◌||◌, ◌&&◌, nat_eq, not, cond, IsTrue, ◌↔◌, filter}
use Rattle.std.proofs.Common.{sym, ◌∙◌, Decides, rules, ◌≢◌, ◌≤◌, inl, inr, ap₂, subst, min, length-drop, ◌⊎◌}
use Rattle.std.proofs.Math.ListN.{set}
use Rattle.std.specs.Prelude.{Contains, All, find, Option, Some, None}
use Rattle.std.specs.List.{list_any}
use Rattle.std.proofs.lemmas.List.Elements.{Decides-contains, All-head, All-tail, All-map, All-weaker, All-filter}
use Rattle.std.proofs.lemmas.Bool.Decides.{Decides-by_or, Decides-eqb, Decides-at, Decides-and, Decides-not, nat_tests}
use Rattle.std.proofs.lemmas.Bool.Decides.{leb_tells, eqb_tells}
use Rattle.std.specs.Option.{option_map_or, option_map}
use Rattle.std.proofs.lemmas.List.{take-append-drop, take_all}
use Rattle.std.proofs.lemmas.List.Filters.{length-filter_both}
use Rattle.std.proofs.Math.Bool.{or-false, or-true, and_self}
use Rattle.djq_io.specs.declared.sessions.Session.{Session}
use Rattle.djq_io.specs.declared.hub.Incoming.TheVariants.{Brings}
use Rattle.djq_io.specs.declared.hub.Sent.{Sent}
use Rattle.djq_io.specs.declared.hub.Sent.TheVariants.{Took, Again, Gone}
use Rattle.djq_io.specs.declared.hub.Told.{Told}
use Rattle.djq_io.specs.declared.failing.FailingSend.{FailingSend}
use Rattle.djq_io.specs.Hub.{Ids, IsRunning, EndsInput, without}
use Rattle.djq_io.specs.SessionsInside.{open_ids_in, ended_in, counts_in, after_end, after_fault}
use Rattle.djq_io.specs.Faults.{Counted, one_more}
use Rattle.djq_io.specs.HubFaults.{SameCounts, SameCountsBut, CountsSend}
use Rattle.djq_io.specs.Sessions.{Count, faults_of}
use Rattle.djq_io.specs.Sink.{Gains}
use Rattle.djq_io.specs.FailingSends.{is_send_due, failed_sends, CountsSends}
use Rattle.djq_io.specs.Script.{Script, WhereTold, ScriptPasses, Cuts, Sends}
use Rattle.djq_io.specs.MemHub.{Recorded, send_of}

-- ---- A loop that changes the elements of a list one after another.

mapped_here : {X : Type 0} (f : X → X) (xs : List X) (i : ℕ) (d : X) → i < length xs
    → set (map f (take i xs) ++ drop i xs) i (f (get_or (map f (take i xs) ++ drop i xs) i d))
    ≡ map f (take (suc i) xs) ++ drop (suc i) xs
mapped_here f [] i d within = absurd (omega arith)
mapped_here f (x ∷ xs) zero d within = refl
mapped_here f (x ∷ xs) (suc i) d within = ap (λ rest. f x ∷ rest) (mapped_here f xs i d (omega arith))

-- The elements before a place are changed; so is the one at it.
pub mapped_more : {X : Type 0} (f : X → X) (now xs : List X) (i : ℕ) (d y : X) → i < length xs → now
    ≡ map f (take i xs) ++ drop i xs → y ≡ f (get_or now i d)
    → set now i y ≡ map f (take (i + 1) xs) ++ drop (i + 1) xs
mapped_more f now xs i d y within is changed = rw (changed, is, add-one) (mapped_here f xs i d within)

-- ---- Whether an id is in a list, as a test and as a fact.

-- the test and the fact
pub is_member : (xs : List ℕ) (x : ℕ) → Decides (list_any (λ y. nat_eq y x) xs) (Contains xs x)
is_member xs x = Decides-contains xs x _
    (Decides-by_or (λ y. nat_eq y x) (λ y. y ≡ x) (list_any (λ y. nat_eq y x)) (λ y. Decides-eqb y x) refl
    (λ y ys. refl) xs)

pub iff_true : {P : Type 0} (b : Bool) → Decides b P → IsTrue b ↔ P
iff_true true d = (λ t. d.0 refl, λ p. search rules)
iff_true false d = (λ t. search rules, λ p. cc (d.1 p))

-- a session with this id is open
pub open_test : (sessions : List Session) (id : ℕ) → list_any (λ x. nat_eq x.id id) sessions
    ≡ list_any (λ y. nat_eq y id) (open_ids_in sessions)
open_test [] id = refl
open_test (x ∷ xs) id = ap (λ b. nat_eq x.id id || b) (open_test xs id)

and_true : (e a b : Bool) → a ≡ b → (e && true || a) ≡ (e || b)
and_true true a b same = refl
and_true false a b same = same

and_false : (e a b : Bool) → a ≡ b → (e && false || a) ≡ b
and_false true a b same = same
and_false false a b same = same

-- its input has ended
pub ended_test : (sessions : List Session) (id : ℕ) → list_any (λ x. nat_eq x.id id && x.ended) sessions
    ≡ list_any (λ y. nat_eq y id) (ended_in sessions)
ended_test [] id = refl
ended_test (x ∷ xs) id = at_head x.ended (ended_test xs id)
  where
    at_head : (b : Bool) → list_any (λ y. nat_eq y.id id && y.ended) xs ≡ list_any (λ y. nat_eq y id) (ended_in xs)
        → (nat_eq x.id id && b || list_any (λ y. nat_eq y.id id && y.ended) xs)
        ≡ list_any (λ y. nat_eq y id)
        (map (λ y. y.id) (cond b (x ∷ filter (λ y. y.ended) xs) (filter (λ y. y.ended) xs)))
    at_head true more = and_true (nat_eq x.id id) _ _ more
    at_head false more = and_false (nat_eq x.id id) _ _ more

-- both tests tell whether it is running
pub running_by : (ids : Ids) (sessions : List Session) (id : ℕ) (is_open has_ended : Bool) → ids.open_ids
    ≡ open_ids_in sessions → ids.ended_ids ≡ ended_in sessions
    → is_open ≡ list_any (λ x. nat_eq x.id id) sessions → has_ended ≡ list_any (λ x. nat_eq x.id id && x.ended) sessions
    → IsTrue (is_open && not has_ended) ↔ IsRunning ids id
running_by ids sessions id is_open has_ended opens ends open_is ended_is =
    let at_open = Decides-at is_open _ (open_is ∙ open_test sessions id ∙ ap (list_any (λ y. nat_eq y id)) (sym opens))
    (is_member ids.open_ids id) in
    let at_ended = Decides-at has_ended _
    (ended_is ∙ ended_test sessions id ∙ ap (list_any (λ y. nat_eq y id)) (sym ends)) (is_member ids.ended_ids id)
    in
    iff_true _ (Decides-and is_open (not has_ended) at_open (Decides-not has_ended at_ended))

-- ---- What becomes of the sessions' counts of faults.

-- how many faults the session with this id has met
abbrev faults_in : List Session → ℕ → ℕ
faults_in sessions id = faults_of (counts_in sessions) id

faults_step : (x : Session) (xs : List Session) (id : ℕ) → faults_in (x ∷ xs) id
    ≡ cond (nat_eq x.id id) x.faults (faults_in xs id)
faults_step x xs id = at_head (nat_eq x.id id)
  where
    at_head : (b : Bool) → option_map_or (λ (y : Count). y.faults)
        (cond b (Some (record { id = x.id; faults = x.faults })) (find (λ (y : Count). nat_eq y.id id) (counts_in xs)))
        0 ≡ cond b x.faults (faults_in xs id)
    at_head true = refl
    at_head false = refl

-- a session after a fault of its own
abbrev faulted : ℕ → Session → Session
faulted id x = record { id = id; ended = x.ended; faults = one_more x.faults }

-- an end changes no count
pub counts_after_end : (ended : ℕ) (sessions : List Session) → counts_in (map (after_end ended) sessions)
    ≡ counts_in sessions
counts_after_end ended [] = refl
counts_after_end ended (x ∷ xs) = ap (λ cs. record { id = x.id; faults = x.faults } ∷ cs) (counts_after_end ended xs)

-- a session more changes no count of those before it
open_after_push : (id : ℕ) (new : Session) (sessions : List Session) → list_any (λ x. nat_eq x.id id) sessions ≡ true
    → faults_in (sessions ++ new ∷ []) id ≡ faults_in sessions id
open_after_push id new [] found = cc
open_after_push id new (x ∷ xs) found =
    faults_step x (xs ++ new ∷ []) id ∙ at_head (nat_eq x.id id) found (open_after_push id new xs)
    ∙ sym (faults_step x xs id)
  where
    at_head : (b : Bool) → (b || list_any (λ y. nat_eq y.id id) xs) ≡ true
        → (list_any (λ y. nat_eq y.id id) xs ≡ true → faults_in (xs ++ new ∷ []) id ≡ faults_in xs id)
        → cond b x.faults (faults_in (xs ++ new ∷ []) id) ≡ cond b x.faults (faults_in xs id)
    at_head true found more = refl
    at_head false found more = more found

pub faults_after_push : (new : Session) (sessions : List Session)
    → SameCounts (open_ids_in sessions) (faults_in sessions) (faults_in (sessions ++ new ∷ []))
faults_after_push new sessions id is_open = open_after_push id new sessions
    (open_test sessions id ∙ (is_member (open_ids_in sessions) id).1 is_open)

not_both : (x id other : ℕ) → other ≢ id → nat_eq x id ≡ true → nat_eq x other ≡ false
not_both x id other differ is = grind (arith, nat_tests)

-- a session less changes no other count
pub faults_after_close : (id other : ℕ) (sessions : List Session) → other ≢ id
    → faults_in (filter (λ x. not (nat_eq x.id id)) sessions) other ≡ faults_in sessions other
faults_after_close id other [] differ = refl
faults_after_close id other (x ∷ xs) differ = at_head (nat_eq x.id id) refl (faults_after_close id other xs differ)
    ∙ sym (faults_step x xs other)
  where
    at_head : (b : Bool) → nat_eq x.id id ≡ b → faults_in (filter (λ y. not (nat_eq y.id id)) xs) other
        ≡ faults_in xs other
        → faults_in (cond (not b) (x ∷ filter (λ y. not (nat_eq y.id id)) xs) (filter (λ y. not (nat_eq y.id id)) xs))
        other ≡ cond (nat_eq x.id other) x.faults (faults_in xs other)
    at_head true is more = more
        ∙ sym (ap (λ b. cond b x.faults (faults_in xs other)) (not_both x.id id other differ is))
    at_head false is more = faults_step x (filter (λ y. not (nat_eq y.id id)) xs) other
        ∙ ap (λ n. cond (nat_eq x.id other) x.faults n) more

-- what a fault makes of the session's own count and of another
own_after_fault : (id : ℕ) (sessions : List Session) → list_any (λ x. nat_eq x.id id) sessions ≡ true
    → faults_in (map (after_fault id) sessions) id ≡ one_more (faults_in sessions id)
own_after_fault id [] found = cc
own_after_fault id (x ∷ xs) found = at_head (nat_eq x.id id) refl found (own_after_fault id xs)
    ∙ ap one_more (sym (faults_step x xs id))
  where
    self_eq : nat_eq id id ≡ true
    self_eq = grind (arith, nat_tests)

    at_head : (b : Bool) → nat_eq x.id id ≡ b → (b || list_any (λ y. nat_eq y.id id) xs) ≡ true
        → (list_any (λ y. nat_eq y.id id) xs ≡ true → faults_in (map (after_fault id) xs) id
        ≡ one_more (faults_in xs id))
        → faults_in (cond b (faulted id x) x ∷ map (after_fault id) xs) id
        ≡ one_more (cond b x.faults (faults_in xs id))
    at_head true is found more = faults_step (faulted id x) (map (after_fault id) xs) id
        ∙ ap (λ b. cond b (one_more x.faults) (faults_in (map (after_fault id) xs) id)) self_eq
    at_head false is found more = faults_step x (map (after_fault id) xs) id
        ∙ ap (λ b. cond b x.faults (faults_in (map (after_fault id) xs) id)) is ∙ more found

other_after_fault : (id other : ℕ) (sessions : List Session) → other ≢ id
    → faults_in (map (after_fault id) sessions) other ≡ faults_in sessions other
other_after_fault id other [] differ = refl
other_after_fault id other (x ∷ xs) differ = at_head (nat_eq x.id id) refl (other_after_fault id other xs differ)
    ∙ sym (faults_step x xs other)
  where
    own : nat_eq id other ≡ false
    own = grind (arith, nat_tests)

    at_head : (b : Bool) → nat_eq x.id id ≡ b → faults_in (map (after_fault id) xs) other ≡ faults_in xs other
        → faults_in (cond b (faulted id x) x ∷ map (after_fault id) xs) other
        ≡ cond (nat_eq x.id other) x.faults (faults_in xs other)
    at_head true is more =
        faults_step (faulted id x) (map (after_fault id) xs) other
        ∙ ap (λ b. cond b (one_more x.faults) (faults_in (map (after_fault id) xs) other)) own ∙ more
        ∙ sym (ap (λ b. cond b x.faults (faults_in xs other)) (not_both x.id id other differ is))
    at_head false is more = faults_step x (map (after_fault id) xs) other
        ∙ ap (λ n. cond (nat_eq x.id other) x.faults n) more

abbrev IsBounded : Session → Type 0
IsBounded x = x.faults ≤ 18446744073709551615

bounded_in : (id : ℕ) (sessions : List Session) → All IsBounded sessions → faults_in sessions id ≤ 18446744073709551615
bounded_in id [] bounded = omega arith
bounded_in id (x ∷ xs) bounded = rw (faults_step x xs id)
    (at_head (nat_eq x.id id) (All-head IsBounded x xs bounded) (bounded_in id xs (All-tail IsBounded x xs bounded)))
  where
    at_head : (b : Bool) → x.faults ≤ 18446744073709551615 → faults_in xs id ≤ 18446744073709551615
        → cond b x.faults (faults_in xs id) ≤ 18446744073709551615
    at_head true own others = own
    at_head false own others = others

-- A fault counts for its session alone.
pub fault_counts : (id : ℕ) (sessions : List Session) → All IsBounded sessions → Contains (open_ids_in sessions) id
    → Counted (faults_in sessions id) (faults_in (map (after_fault id) sessions) id)
fault_counts id sessions bounded is_open =
    let bound = bounded_in id sessions bounded in
    let is = own_after_fault id sessions (open_test sessions id ∙ (is_member (open_ids_in sessions) id).1 is_open) in
    rw is (counted (faults_in sessions id) bound)
  where
    counted : (n : ℕ) → n ≤ 18446744073709551615 → Counted n (one_more n)
    counted n bound = (
      omega arith,
      elim (leb_tells 18446744073709551615 n)
          [ inl at_end ↦ inr (omega (arith, at_end.1)) | inr below ↦ inl (omega (arith, below.1)) ],
    )

pub fault_spares : (id : ℕ) (ids : List ℕ) (sessions : List Session)
    → SameCountsBut id ids (faults_in sessions) (faults_in (map (after_fault id) sessions))
fault_spares id ids sessions other is_open differ = other_after_fault id other sessions differ

same_id : (id : ℕ) (x : Session) → (after_fault id x).id ≡ x.id
same_id id x = at_head (nat_eq x.id id) refl
  where
    at_head : (b : Bool) → nat_eq x.id id ≡ b → (cond b (faulted id x) x).id ≡ x.id
    at_head true is = grind (arith, nat_tests)
    at_head false is = refl

same_end : (id : ℕ) (x : Session) → (after_fault id x).ended ≡ x.ended
same_end id x = at_head (nat_eq x.id id)
  where
    at_head : (b : Bool) → (cond b (faulted id x) x).ended ≡ x.ended
    at_head true = refl
    at_head false = refl

-- the ids of these sessions, the newest of which is this one
abbrev ids_in : Option ℕ → List Session → Ids
ids_in newest sessions = record { newest = newest; open_ids = open_ids_in sessions; ended_ids = ended_in sessions }

-- a fault changes no id
pub open_after_fault : (id : ℕ) (sessions : List Session)
    → open_ids_in (map (after_fault id) sessions) ≡ open_ids_in sessions
open_after_fault id [] = refl
open_after_fault id (x ∷ xs) = ap₂ (λ i ids. i ∷ ids) (same_id id x) (open_after_fault id xs)

pub ended_after_fault : (id : ℕ) (sessions : List Session) → ended_in (map (after_fault id) sessions)
    ≡ ended_in sessions
ended_after_fault id [] = refl
ended_after_fault id (x ∷ xs) =
    at_head (after_fault id x).ended x.ended (same_end id x) (after_fault id x) (same_id id x) (ended_after_fault id xs)
  where
    at_head : (a b : Bool) → a ≡ b → (y : Session) → y.id ≡ x.id → ended_in (map (after_fault id) xs) ≡ ended_in xs
        → map (λ (z : Session). z.id)
        (cond a (y ∷ filter (λ z. z.ended) (map (after_fault id) xs))
        (filter (λ z. z.ended) (map (after_fault id) xs)))
        ≡ map (λ (z : Session). z.id) (cond b (x ∷ filter (λ z. z.ended) xs) (filter (λ z. z.ended) xs))
    at_head true true same y id_is more = ap₂ (λ i ids. i ∷ ids) id_is more
    at_head false false same y id_is more = more
    at_head true false same y id_is more = cc
    at_head false true same y id_is more = cc

pub fault_keeps_ids : (id : ℕ) (newest : Option ℕ) (sessions now : List Session) → now ≡ map (after_fault id) sessions
    → ids_in newest now ≡ ids_in newest sessions
fault_keeps_ids id newest sessions now is =
    ap (ids_in newest) is
    ∙ ap₂ (λ o e. record { newest = newest; open_ids = o; ended_ids = e }) (open_after_fault id sessions)
    (ended_after_fault id sessions)

-- the bounds stay
pub bounded_after_fault : (id : ℕ) (sessions : List Session)
    → All (λ (x : Session). x.faults ≤ 18446744073709551615) sessions
    → All (λ (x : Session). x.faults ≤ 18446744073709551615) (map (after_fault id) sessions)
bounded_after_fault id sessions bounded = All-map IsBounded (after_fault id) sessions
    (All-weaker IsBounded (λ x. IsBounded (after_fault id x)) (λ x bound. at_head (nat_eq x.id id) x bound) sessions
    bounded)
  where
    at_head : (b : Bool) (x : Session) → x.faults ≤ 18446744073709551615
        → (cond b (faulted id x) x).faults ≤ 18446744073709551615
    at_head true x bound = omega arith
    at_head false x bound = bound

pub bounded_after_end : (id : ℕ) (sessions : List Session)
    → All (λ (x : Session). x.faults ≤ 18446744073709551615) sessions
    → All (λ (x : Session). x.faults ≤ 18446744073709551615) (map (after_end id) sessions)
bounded_after_end id sessions bounded = All-map IsBounded (after_end id) sessions
    (All-weaker IsBounded (λ x. IsBounded (after_end id x)) (λ x bound. bound) sessions bounded)

pub bounded_after_close : (id : ℕ) (sessions : List Session)
    → All (λ (x : Session). x.faults ≤ 18446744073709551615) sessions
    → All (λ (x : Session). x.faults ≤ 18446744073709551615) (filter (λ x. not (nat_eq x.id id)) sessions)
bounded_after_close id sessions bounded = All-filter (λ x. not (nat_eq x.id id)) IsBounded sessions bounded

none_kept : (id : ℕ) (sessions : List Session)
    → list_any (λ x. nat_eq x.id id) (filter (λ x. not (nat_eq x.id id)) sessions) ≡ false
none_kept id [] = refl
none_kept id (x ∷ xs) = at_head (nat_eq x.id id) refl (none_kept id xs)
  where
    at_head : (b : Bool) → nat_eq x.id id ≡ b → list_any (λ y. nat_eq y.id id) (filter (λ y. not (nat_eq y.id id)) xs)
        ≡ false
        → list_any (λ y. nat_eq y.id id)
        (cond (not b) (x ∷ filter (λ y. not (nat_eq y.id id)) xs) (filter (λ y. not (nat_eq y.id id)) xs)) ≡ false
    at_head true is more = more
    at_head false is more = ap (λ b. b || list_any (λ y. nat_eq y.id id) (filter (λ y. not (nat_eq y.id id)) xs)) is
        ∙ more

not_kept : (id : ℕ) (sessions : List Session)
    → Contains (open_ids_in (filter (λ x. not (nat_eq x.id id)) sessions)) id → ⊥
not_kept id sessions is_open =
    let kept = filter (λ (x : Session). not (nat_eq x.id id)) sessions in
    let found = open_test kept id ∙ (is_member (open_ids_in kept) id).1 is_open in
    cc (none_kept id sessions)

-- the counts of the sessions that stay
pub close_spares : (id : ℕ) (sessions : List Session)
    → SameCounts (open_ids_in (filter (λ x. not (nat_eq x.id id)) sessions)) (faults_of (counts_in sessions))
    (faults_of (counts_in (filter (λ x. not (nat_eq x.id id)) sessions)))
close_spares id sessions other is_open = faults_after_close id other sessions
    (λ same. not_kept id sessions
    (subst (λ i. Contains (open_ids_in (filter (λ x. not (nat_eq x.id id)) sessions)) i) same is_open))

-- ---- How a hub in memory follows its script.

-- What holds of the script holds where it is told.
pub where_told : (P : Script → Script → Type 0) (script script' : Script) (past past' : Option (List Told))
    (told : List Told)
    → Gains past past' told → P script script'
    → WhereTold (option_map (λ _. script) past) (option_map (λ _. script') past') P
where_told P script script' None None told gains holds = tt
where_told P script script' None (Some n) told gains holds = absurd gains
where_told P script script' (Some o) None told gains holds = tt
where_told P script script' (Some o) (Some n) told gains holds = holds

-- A send goes by the script.
pub sends_by : (hub : Recorded) (id : ℕ) (piece : List ℕ) (sent : Sent) → sent ≡ send_of hub id piece
    → Sends id (length piece) sent hub.script hub.script
sends_by hub id piece sent is =
    subst (λ s. Sends id (length piece) s hub.script hub.script) (sym is)
    (at_head (is_send_due id hub.failing_sends) (list_any (λ other. nat_eq other id) hub.script.blocked) refl)
  where
    at_head : (due blocked : Bool) → list_any (λ other. nat_eq other id) hub.script.blocked ≡ blocked
        → Sends id (length piece) (cond due Gone (cond blocked Again (Took (length piece)))) hub.script hub.script
    at_head true blocked is = refl
    at_head false true is = ((is_member hub.script.blocked id).0 is, refl)
    at_head false false is = (λ p. cc ((is_member hub.script.blocked id).1 p), refl, refl)

-- A send counts a fault of its session exactly where it finds it gone.
pub counts_by : (hub : Recorded) (id : ℕ) (piece : List ℕ) (sent : Sent) (ids : List ℕ) (fails : Bool)
    (new : List FailingSend) → sent ≡ send_of hub id piece
    → fails ≡ is_send_due id hub.failing_sends → CountsSends fails id hub.failing_sends new
    → CountsSend sent id ids (failed_sends hub.failing_sends) (failed_sends new)
counts_by hub id piece sent ids fails new is due counts =
    subst (λ s. CountsSend s id ids (failed_sends hub.failing_sends) (failed_sends new)) (sym is)
    (at_head fails (is_send_due id hub.failing_sends) (list_any (λ other. nat_eq other id) hub.script.blocked) due
    counts)
  where
    old : ℕ → ℕ
    old = failed_sends hub.failing_sends

    stays : (failed_sends new id ≡ old id) → ((other : ℕ) → other ≢ id → failed_sends new other ≡ old other)
        → (other : ℕ) → failed_sends new other ≡ old other
    stays at_id others other = elim (eqb_tells other id)
        [ inl same ↦ rw same.1 at_id | inr differ ↦ others other differ.1 ]

    at_head : (fails due blocked : Bool) → fails ≡ due → CountsSends fails id hub.failing_sends new
        → CountsSend (cond due Gone (cond blocked Again (Took (length piece)))) id ids old (failed_sends new)
    at_head true true blocked same counts =
        ((λ other is_open differ. counts.1 other differ), (omega (arith, counts.0), inl counts.0))
    at_head true false blocked same counts = cc
    at_head false true blocked same counts = cc
    at_head false false true same counts = λ other is_open. stays counts.0 counts.1 other
    at_head false false false same counts = λ other is_open. stays counts.0 counts.1 other

-- The rest of a piece that is longer than the buffer is put back.
pub cuts_piece : (id n room : ℕ) (piece part : List ℕ) (old popped new : Script)
    → ScriptPasses old (Brings id piece) popped
    → new ≡ record popped
    { turns = record { turn = Brings id (drop n piece); blocked = popped.blocked } ∷ popped.turns }
    → n ≡ min (length piece) room → n < length piece → part ≡ take n piece → (n ≡ room) × Cuts old id part new
cuts_piece id n room piece part old popped new passes put is longer copied =
    let blocked : new.blocked ≡ popped.blocked = ap (λ (s : Script). s.blocked) put in
    let turns = ap (λ (s : Script). s.turns) put in
    let rest_some : drop n piece ≢ [] = λ none. absurd (omega (arith, ap length none, length-drop n piece)) in
    let whole : part ++ drop n piece ≡ piece = ap (λ p. p ++ drop n piece) copied ∙ take-append-drop n piece in
    (omega (arith, is), (drop n piece, popped.turns, rest_some, rw (whole, blocked) passes, rw blocked turns))

-- A piece that fits is given whole.
pub gives_piece_whole : (id n room : ℕ) (piece part : List ℕ) (old popped : Script)
    → ScriptPasses old (Brings id piece) popped
    → n ≡ min (length piece) room → length piece ≤ n → part ≡ take n piece → ScriptPasses old (Brings id part) popped
gives_piece_whole id n room piece part old popped passes is fits copied = rw (copied ∙ take_all n piece fits) passes

-- a test that passed
pub holds_by : {P : Type 0} (b : Bool) → IsTrue b ↔ P → b ≡ true → P
holds_by true iff passes = iff.0 (search rules)
holds_by false iff passes = cc

not_both_following : (b : Bool) → IsTrue b → b ≡ false → ⊥
not_both_following true passes fails = cc
not_both_following false passes fails = search rules

-- A piece that isn't empty has a byte.
pub some_byte : (piece : List ℕ) (empty : Bool) → IsTrue empty ↔ (piece ≡ []) → empty ≡ false → 1 ≤ length piece
some_byte [] empty iff is = absurd (not_both_following empty (iff.1 refl) is)
some_byte (b ∷ bs) empty iff is = omega arith

-- ---- What becomes of the ids of sessions where one of them ends or is closed.

-- the same sessions are open
pub open_after_end : (id : ℕ) (sessions : List Session)
    → open_ids_in (map (after_end id) sessions) ≡ open_ids_in sessions
open_after_end id [] = refl
open_after_end id (x ∷ xs) = ap (λ ids. x.id ∷ ids) (open_after_end id xs)

-- a session with both ids
abbrev both : ℕ → ℕ → List Session → Bool
both other id sessions = list_any (λ x. nat_eq x.id other && nat_eq x.id id) sessions

regroup : (e b i a c : Bool) → (e && (b || i) || (a || c)) ≡ ((e && b || a) || (e && i || c))
regroup true true i a c = refl
regroup true false true true c = refl
regroup true false true false c = refl
regroup true false false a c = refl
regroup false b i a c = refl

-- the input of a session has ended where it had, or the session is the one that ends
ended_or_both : (other id : ℕ) (sessions : List Session)
    → list_any (λ x. nat_eq x.id other && x.ended) (map (after_end id) sessions)
    ≡ (list_any (λ x. nat_eq x.id other && x.ended) sessions || both other id sessions)
ended_or_both other id [] = refl
ended_or_both other id (x ∷ xs) =
    ap (λ b. nat_eq x.id other && (x.ended || nat_eq x.id id) || b) (ended_or_both other id xs)
    ∙ regroup (nat_eq x.id other) x.ended (nat_eq x.id id) (list_any (λ y. nat_eq y.id other && y.ended) xs)
    (both other id xs)

both_same : (id : ℕ) (sessions : List Session) → both id id sessions ≡ list_any (λ x. nat_eq x.id id) sessions
both_same id [] = refl
both_same id (x ∷ xs) = ap (λ b. b || both id id xs) (and_self (nat_eq x.id id))
    ∙ ap (λ b. nat_eq x.id id || b) (both_same id xs)

one_of_two : (x other id : ℕ) → other ≢ id → (nat_eq x other && nat_eq x id) ≡ false
one_of_two x other id differ = grind (arith, nat_tests)

both_none : (other id : ℕ) (sessions : List Session) → other ≢ id → both other id sessions ≡ false
both_none other id [] differ = refl
both_none other id (x ∷ xs) differ = ap (λ b. b || both other id xs) (one_of_two x.id other id differ)
    ∙ both_none other id xs differ

-- the ids of the sessions whose input has ended
ended_after_end : (id other : ℕ) (sessions : List Session) → Contains (open_ids_in sessions) id
    → Contains (ended_in (map (after_end id) sessions)) other ↔ ((other ≡ id) ⊎ Contains (ended_in sessions) other)
ended_after_end id other sessions is_open =
    let new = map (after_end id) sessions in
    let test = λ (xs : List Session). list_any (λ x. nat_eq x.id other && x.ended) xs in
    let at_new = is_member (ended_in new) other in
    let at_old = is_member (ended_in sessions) other in
    let opens = open_test sessions id ∙ (is_member (open_ids_in sessions) id).1 is_open in
    let all = sym (ended_test new other) ∙ ended_or_both other id sessions in
    let to : Contains (ended_in new) other → (other ≡ id) ⊎ Contains (ended_in sessions) other =
    λ ended. elim (eqb_tells other id) [
      | inl same ↦ inl same.1
      | inr differ ↦ inr (at_old.0
          (sym (ended_test sessions other) ∙ sym (or-false (test sessions))
          ∙ ap (λ b. test sessions || b) (sym (both_none other id sessions differ.1)) ∙ sym all ∙ at_new.1 ended))
    ] in
    let from_id : other ≡ id → Contains (ended_in new) other =
    λ same. at_new.0 (all
    ∙ ap (λ b. test sessions || b)
    (subst (λ i. both other i sessions ≡ true) same
    (both_same other sessions ∙ subst (λ i. list_any (λ x. nat_eq x.id i) sessions ≡ true) (sym same) opens))
    ∙ or-true (test sessions)) in
    let from_old : Contains (ended_in sessions) other → Contains (ended_in new) other =
    λ ended. at_new.0 (all ∙ ap (λ b. b || both other id sessions) (ended_test sessions other ∙ at_old.1 ended)) in
    (to, λ known. elim known [ inl same ↦ from_id same | inr ended ↦ from_old ended ])

-- The input of a session ends.
pub ends_marked : (id : ℕ) (old new : Ids) (sessions : List Session) → Contains old.open_ids id → old.open_ids
    ≡ open_ids_in sessions → old.ended_ids ≡ ended_in sessions
    → new.newest ≡ old.newest → new.open_ids ≡ open_ids_in (map (after_end id) sessions) → new.ended_ids
    ≡ ended_in (map (after_end id) sessions) → EndsInput id old new
ends_marked id old new sessions is_open opens ends newest opens' ends' = (
  newest,
  opens' ∙ open_after_end id sessions ∙ sym opens,
  λ other. rw (ends', ends) (ended_after_end id other sessions (subst (λ ids. Contains ids id) opens is_open)),
)

-- the ids without one of them
filter_map_id : (id : ℕ) (sessions : List Session) → open_ids_in (filter (λ x. not (nat_eq x.id id)) sessions)
    ≡ filter (λ y. not (nat_eq y id)) (open_ids_in sessions)
filter_map_id id [] = refl
filter_map_id id (x ∷ xs) = at_head (nat_eq x.id id) (filter_map_id id xs)
  where
    at_head : (b : Bool) → open_ids_in (filter (λ y. not (nat_eq y.id id)) xs)
        ≡ filter (λ y. not (nat_eq y id)) (open_ids_in xs)
        → open_ids_in (cond (not b) (x ∷ filter (λ y. not (nat_eq y.id id)) xs) (filter (λ y. not (nat_eq y.id id)) xs))
        ≡ cond (not b) (x.id ∷ filter (λ y. not (nat_eq y id)) (open_ids_in xs))
        (filter (λ y. not (nat_eq y id)) (open_ids_in xs))
    at_head true more = more
    at_head false more = ap (λ ids. x.id ∷ ids) more

filter_passing : {X : Type 0} (p : X → Bool) (x : X) (xs : List X) → p x ≡ true → filter p (x ∷ xs) ≡ x ∷ filter p xs
filter_passing p x xs passes = rw passes refl

filter_failing : {X : Type 0} (p : X → Bool) (x : X) (xs : List X) → p x ≡ false → filter p (x ∷ xs) ≡ filter p xs
filter_failing p x xs fails = rw fails refl

filter_swaps : {X : Type 0} (p q : X → Bool) (xs : List X) → filter p (filter q xs) ≡ filter q (filter p xs)
filter_swaps p q [] = refl
filter_swaps {X = X} p q (x ∷ xs) = at_head (p x) (q x) refl refl (filter_swaps p q xs)
  where
    at_head : (a b : Bool) → p x ≡ a → q x ≡ b → filter p (filter q xs) ≡ filter q (filter p xs)
        → filter p (filter q (x ∷ xs)) ≡ filter q (filter p (x ∷ xs))
    at_head true true a b more =
        ap (filter p) (filter_passing q x xs b) ∙ filter_passing p x (filter q xs) a ∙ ap (λ ys. x ∷ ys) more
        ∙ sym (filter_passing q x (filter p xs) b) ∙ ap (filter q) (sym (filter_passing p x xs a))
    at_head true false a b more =
        ap (filter p) (filter_failing q x xs b) ∙ more ∙ sym (filter_failing q x (filter p xs) b)
        ∙ ap (filter q) (sym (filter_passing p x xs a))
    at_head false true a b more =
        ap (filter p) (filter_passing q x xs b) ∙ filter_failing p x (filter q xs) a ∙ more
        ∙ ap (filter q) (sym (filter_failing p x xs a))
    at_head false false a b more = ap (filter p) (filter_failing q x xs b) ∙ more
        ∙ ap (filter q) (sym (filter_failing p x xs a))

-- A session is closed.
pub closes : (id : ℕ) (old new : Ids) (sessions : List Session) → old.open_ids ≡ open_ids_in sessions → old.ended_ids
    ≡ ended_in sessions
    → new ≡ record {
      newest = old.newest;
      open_ids = open_ids_in (filter (λ x. not (nat_eq x.id id)) sessions);
      ended_ids =
          ended_in (filter (λ x. not (nat_eq x.id id)) sessions);
    }
    → new ≡ without old id
closes id old new sessions opens ends is =
    let still_open = filter_map_id id sessions ∙ ap (filter (λ y. not (nat_eq y id))) (sym opens) in
    let still_ended = ap (map (λ (x : Session). x.id))
    (filter_swaps (λ x. x.ended) (λ x. not (nat_eq x.id id)) sessions)
    ∙ filter_map_id id (filter (λ x. x.ended) sessions) ∙ ap (filter (λ y. not (nat_eq y id))) (sym ends) in
    is ∙ ap₂ (λ o e. record { newest = old.newest; open_ids = o; ended_ids = e }) still_open still_ended

some_left : {X : Type 0} (q : X → Bool) (xs : List X) → list_any q xs ≡ true → 0 < length (filter q xs)
some_left q [] passes = cc
some_left {X = X} q (x ∷ xs) passes = at_head (q x) passes (some_left q xs)
  where
    at_head : (b : Bool) → (b || list_any q xs) ≡ true → (list_any q xs ≡ true → 0 < length (filter q xs))
        → 0 < length (cond b (x ∷ filter q xs) (filter q xs))
    at_head true passes more = omega arith
    at_head false passes more = more passes

-- fewer sessions are open
pub fewer_at : (id : ℕ) (sessions : List Session) → Contains (open_ids_in sessions) id
    → length (filter (λ x. not (nat_eq x.id id)) sessions) < length sessions
fewer_at id sessions is_open =
    let some = some_left (λ x. nat_eq x.id id) sessions
    (open_test sessions id ∙ (is_member (open_ids_in sessions) id).1 is_open) in
    omega (arith, some, length-filter_both (λ x. nat_eq x.id id) (λ x. not (nat_eq x.id id)) (λ x. refl) sessions)
