-- What the whole of a load comes to: one query, few answers.
use Rattle.std.specs.Prelude.{ℕ, zero, suc, List, [], ◌∷◌, ◌++◌, ◌≡◌, ◌==◌, ◌+◌, ◌-◌, ◌/◌, ◌%◌, Bool, true, false, cond}
use Rattle.std.specs.Prelude.{Option, None, Some, option_map, length, take, slice_index, codes, decimal, replicate, ◌*◌}
use Rattle.std.specs.Prelude.{◌^◌, ◌<◌, ◌≤◌, ◌⊎◌, All, Contains, ◌≢◌, Result, Ok, Err, ⊤, is_err, IfOk, OnOk, OnErr}
use Rattle.std.specs.List.{AllByRecursion}
use Rattle.std.specs.Str.{is_utf8}
use Rattle.std.proofs.Common.{refl, sym, ap, ◌∙◌, subst, append-nil, append_assoc, arith, inl, inr, ap₂, length-append}
use Rattle.std.proofs.lemmas.Nat.{mul-le}
use Rattle.std.proofs.lemmas.List.{length-map}
use Rattle.std.proofs.lemmas.List.Elements.{All-nil}
use Rattle.djq_model.specs.declared.relation.ColumnType.TheVariants.{Int as IntColumn}
use Rattle.djq_model.specs.declared.relation.Relation.{Relation}
use Rattle.djq_model.specs.declared.relation.CountedRow.{CountedRow}
use Rattle.djq_model.specs.declared.query.Atom.{Atom}
use Rattle.djq_model.specs.declared.query.Term.TheVariants.{Variable}
use Rattle.djq_model.specs.declared.memory.NoMem.{NoMem}
use Rattle.djq_model.specs.Data.{Bytes, Tuple, bytes_eq, relation_of, counted_in, counted_of, rows_of}
use Rattle.djq_model.specs.Listed.{Listed, a_query, listed_name, AnswersOf, listed_of}
use Rattle.djq_value.specs.Token.{tokens}
use Rattle.djq_protocol.specs.declared.command.Command.{Command}
use Rattle.djq_protocol.specs.declared.command.Command.TheVariants.{Rel, Add, Del, Query as Register, Open, Next, Close}
use Rattle.djq_protocol.specs.declared.limits.TheConstants.{ROWS, SESSIONS}
use Rattle.djq_protocol.specs.declared.answer.Refusal.TheVariants.{NoMemory}
use Rattle.djq_protocol.specs.Line.{before_lf, behind_lf, without_cr}
use Rattle.djq_protocol.specs.Grammar.{past_limit, says_command, reading_in, command_of, command_in, is_in_range}
use Rattle.djq_protocol.specs.Grammar.{items_in}
use Rattle.djq_protocol.specs.Variables.{IsInBody}
use Rattle.djq_protocol.specs.Reply.{refusal_line}
use Rattle.djq_store_spec.specs.Store.{open_at}
use Rattle.djq_answer_laws.specs.Finite.{IsBound}
use Rattle.djq_answer_laws.proofs.Lists.{nothing_there, first_or_later, first_there, later_there, some_there}
use Rattle.djq_answer_laws.proofs.Choices.{answers_are_bounded}
use Rattle.djq_machine.specs.declared.machine.OpenRefusal.{OpenRefusal}
use Rattle.djq_machine.specs.State.{State, Session, Cursor, session_of, cursor_of, opening, fresh}
use Rattle.djq_machine.specs.LineStep.{LineOutcome, long, blank, slow, no_room, run}
use Rattle.djq_machine.specs.Step.{Event, opened, fed, stepped, took, ended, closed}
use Rattle.djq_machine.specs.Run.{Did, Walk, all_fed, fed_by, pieces_of, piece_of, lines_of, line_by, CutsInto}
use Rattle.djq_machine.specs.Run.{to_session, pending_of}
use Rattle.djq_machine.specs.Call.{Counts, held_of, IsOpen, Makes, OpenGives, cause_of}
use Rattle.djq_machine.specs.Gives.{Gives, PositionGives, CursorsGive}
use Rattle.djq_machine.specs.Effect.{Effect}
use Rattle.djq_run_laws.specs.Course.{MayRun, RunNext}
use Rattle.djq_run_laws.proofs.TakenLines.{in_order, line_in_front}
use Rattle.djq_run_laws.proofs.Cursors.{step_gives, SessionGives, CursorGives}
use Rattle.djq_run_laws.proofs.Events.{next_runs, step_bytes}
use Rattle.djq_run_laws.proofs.Courses.{walk_spares}
use Rattle.djq_run_laws.proofs.Lists.{all_found, stepped_cause, stepped_held}
use Rattle.djq_load.specs.declared.reading.Reading.{Reading}
use Rattle.djq_load.specs.declared.loading.Totals.{Totals}
use Rattle.djq_load.specs.Draws.{next, drawn}
use Rattle.djq_load.specs.Load.{reading_lines, relation, change, pause, changes, value_count, load}
use Rattle.djq_load.specs.Joins.{join, GivesFew, most_load_answers, RelationIsSmall, IsJoin}
use Rattle.djq_load.specs.Lines.{FeedsLines, SessionIsIdle, session_cursors, cursor_at, CursorStands, Feeds}
use Rattle.djq_load.specs.Lines.{LoadBreaksOff, LineRuns, TakesAll}
use Rattle.djq_load.specs.Totals.{open_line, next_line, ReadsSoFar, so_far, reads_for, TotalsAreTold, AreTotals}
use Rattle.djq_load.specs.Totals.{RunsLoad, BreaksReading, RunsOut}
use Rattle.djq_load.specs.Replies.{read_bytes}
use Rattle.djq_run_laws.proofs.Sessions.{step_stopped}
use Rattle.djq_load.proofs.RegisteredQueries.{IsHarmless, LeavesJoin, IsFine, step_joins}
use Rattle.djq_load.proofs.Listings.{AreOnes, load_ones, listing_read}
use Rattle.djq_load.proofs.IdleSessions.{quiet, listed, loads_one, loads_then, breaks_at, breaks_behind, breaks_before}
use Rattle.djq_load.proofs.Cursors.{next_tells, stands_on, took_left}

-- ---- No line that is fed registers a query but the load's, or puts in a batch.

-- What a line says.
said_so : (o : Option Command) (c : Command) → reading_in o ≡ says_command c → o ≡ Some c
said_so None c e = absurd cc
said_so (Some d) c e = by (is_in_range d) e
  where
    by : (b : Bool) → cond b (says_command d) (past_limit d) ≡ says_command c → Some d ≡ Some c
    by true k = cc
    by false k = absurd cc

-- by its tokens
leaves : (l : Bytes) → ((c : Command) → command_in (tokens l) ≡ Some c → IsHarmless c) → LeavesJoin l
unfolding command_of
leaves l fine c e = by (is_utf8 l) (said_so (cond (is_utf8 l) (command_in (tokens l)) None) c e)
  where
    by : (b : Bool) → cond b (command_in (tokens l)) None ≡ Some c → IsHarmless c
    by true k = fine c k
    by false k = absurd cc

-- a line of this command
leaves_by : (l : Bytes) (d : Command) → command_in (tokens l) ≡ Some d → IsHarmless d → LeavesJoin l
leaves_by l d says harmless = leaves l (λ c e. subst IsHarmless (same c (sym says ∙ e)) harmless)
  where
    same : (c : Command) → Some d ≡ Some c → d ≡ c
    same c e = cc

-- or of one of these commands
all_harmless : {A : Type 0} (f : A → Command) (o : Option A) (c : Command) → ((a : A) → IsHarmless (f a))
    → option_map f o ≡ Some c → IsHarmless c
all_harmless f None c harmless e = absurd cc
all_harmless f (Some a) c harmless e = subst IsHarmless (same e) (harmless a)
  where
    same : Some (f a) ≡ Some c → f a ≡ c
    same k = cc

-- A change: `add` or `del` in front, whatever is behind it.
adds : (rest : Bytes) → LeavesJoin (97 ∷ 100 ∷ 100 ∷ 32 ∷ rest)
unfolding tokens
adds rest = leaves (97 ∷ 100 ∷ 100 ∷ 32 ∷ rest) (λ c e. all_harmless (λ p. Add p.0 p.1) _ c (λ p. tt) e)

deletes : (rest : Bytes) → LeavesJoin (100 ∷ 101 ∷ 108 ∷ 32 ∷ rest)
unfolding tokens
deletes rest = leaves (100 ∷ 101 ∷ 108 ∷ 32 ∷ rest) (λ c e. all_harmless (λ p. Del p.0 p.1) _ c (λ p. tt) e)

-- which stays so without the CR at its end
word_stays : (a b c : ℕ) (rest : Bytes) → (more : Bytes) × (without_cr (a ∷ b ∷ c ∷ 32 ∷ rest) ≡ a ∷ b ∷ c ∷ 32 ∷ more)
word_stays a b c [] = ([], refl)
word_stays a b c (d ∷ rest) = by (slice_index bs (length bs - 1) == 13)
  where
    one_less : (n : ℕ) → suc (suc (suc (suc (suc n)))) - 1 ≡ suc (suc (suc (suc n)))
    one_less n = omega arith

    bs : Bytes
    bs = a ∷ b ∷ c ∷ 32 ∷ d ∷ rest

    by : (is : Bool) → (more : Bytes) × (cond is (take (length bs - 1) bs) bs ≡ a ∷ b ∷ c ∷ 32 ∷ more)
    by true = (take (length rest) (d ∷ rest), ap (λ (n : ℕ). take n bs) (one_less (length rest)))
    by false = (d ∷ rest, refl)

-- The lines that are fed.
abbrev pub IsHarmlessLine : Bytes → Type 0
IsHarmlessLine line = LeavesJoin (without_cr (before_lf line))

abbrev pub AreHarmless : List Bytes → Type 0
AreHarmless lines = AllByRecursion IsHarmlessLine lines

change_fine : (values a b c : ℕ) → IsHarmlessLine (change values a b c)
change_fine values a b c = by (a / 2 % 4 == 0)
  where
    by : (is : Bool) → IsHarmlessLine
        (cond is (codes "del ") (codes "add ") ++ relation a ++ decimal (b % values) ++ codes " " ++ decimal
        (c % values) ++ codes "\n")
    by true =
        let w = word_stays 100 101 108
        (before_lf (relation a ++ decimal (b % values) ++ codes " " ++ decimal (c % values) ++ codes "\n")) in
        subst LeavesJoin (sym w.1) (deletes w.0)
    by false =
        let w = word_stays 97 100 100
        (before_lf (relation a ++ decimal (b % values) ++ codes " " ++ decimal (c % values) ++ codes "\n")) in
        subst LeavesJoin (sym w.1) (adds w.0)

open_fine : IsHarmlessLine open_line
unfolding tokens
open_fine = leaves_by (codes "open c q") (Open (codes "c") (codes "q")) refl tt

ten_fine : IsHarmlessLine (codes "next c 10\n")
unfolding tokens
ten_fine = leaves_by (codes "next c 10") (Next (codes "c") 10) refl tt

close_fine : IsHarmlessLine (codes "close c\n")
unfolding tokens
close_fine = leaves_by (codes "close c") (Close (codes "c")) refl tt

next_fine : IsHarmlessLine next_line
unfolding tokens
next_fine = leaves_by (codes "next c 1000") (Next (codes "c") 1000) refl tt

r_fine : IsHarmlessLine (codes "rel r int int\n")
unfolding tokens
r_fine = leaves_by (codes "rel r int int") (Rel (codes "r") (IntColumn ∷ IntColumn ∷ [])) refl tt

s_fine : IsHarmlessLine (codes "rel s int int\n")
unfolding tokens
s_fine = leaves_by (codes "rel s int int") (Rel (codes "s") (IntColumn ∷ IntColumn ∷ [])) refl tt

query_fine : IsHarmlessLine (codes "query q(x,y,z) <- r(x,y), s(y,z)\n")
unfolding tokens items_in
query_fine = leaves_by (codes "query q(x,y,z) <- r(x,y), s(y,z)") (Register join) refl refl

pause_fine : (number : ℕ) (more : List Bytes) → AreHarmless more → AreHarmless (pause number ++ more)
pause_fine number more h = by (number % 100 == 0)
  where
    by : (is : Bool) → AreHarmless (cond is reading_lines [] ++ more)
    by true = (open_fine, (ten_fine, (close_fine, h)))
    by false = h

changes_fine : (values state done left : ℕ) → AreHarmless (changes values state done left)
changes_fine values state done zero = tt
changes_fine values state done (suc left) = (
  change_fine values (drawn (next state)) (drawn (next (next state))) (drawn (next (next (next state)))),
  pause_fine (done + 1) (changes values (next (next (next state))) (done + 1) left)
      (changes_fine values (next (next (next state))) (done + 1) left),
)

pub load_fine : (n seed : ℕ) → AreHarmless (load n seed)
load_fine n seed = (r_fine, (s_fine, (query_fine, changes_fine (value_count n) seed 0 n)))

pub opening_fine : AreHarmless (open_line ∷ [])
opening_fine = (open_fine, tt)

pub reads_fine : (k : ℕ) → AreHarmless (replicate k next_line)
reads_fine zero = tt
reads_fine (suc k) = (next_fine, reads_fine k)

pub reads_one : (k : ℕ) → AreOnes (replicate k next_line)
reads_one zero = tt
reads_one (suc k) = (refl, reads_one k)

-- Lines that are cut off them.
joined : List Bytes → Bytes
joined [] = []
joined (l ∷ ls) = l ++ joined ls

joined_both : (ks ls : List Bytes) → joined (ks ++ ls) ≡ joined ks ++ joined ls
unfolding joined
joined_both [] ls = refl
joined_both (k ∷ ks) ls = ap (λ (bs : Bytes). k ++ bs) (joined_both ks ls)
    ∙ sym (append_assoc k (joined ks) (joined ls))

before_one : (line more : Bytes) → behind_lf line ≡ Some [] → (before_lf (line ++ more) ≡ before_lf line)
    × (behind_lf (line ++ more) ≡ Some more)
before_one [] more h = absurd cc
before_one (b ∷ line) more h = by (b == 10) h (λ k. before_one line more k)
  where
    inside : (xs : Bytes) → Some xs ≡ Some [] → xs ≡ []
    inside xs e = cc

    by : (is : Bool) → cond is (Some line) (behind_lf line) ≡ Some []
        → (behind_lf line ≡ Some [] → (before_lf (line ++ more) ≡ before_lf line)
        × (behind_lf (line ++ more) ≡ Some more))
        → (cond is [] (b ∷ before_lf (line ++ more)) ≡ cond is [] (b ∷ before_lf line))
        × (cond is (Some (line ++ more)) (behind_lf (line ++ more)) ≡ Some more)
    by true k rest = (refl, ap (λ (bs : Bytes). Some (bs ++ more)) (inside line k))
    by false k rest = let r = rest k in (ap (λ (bs : Bytes). b ∷ bs) r.0, r.1)

cut_fine : (lines : List Bytes) → AreOnes lines → AreHarmless lines → (ls : List Bytes) (rest : Bytes)
    → CutsInto (joined lines) ls rest → AllByRecursion LeavesJoin ls
unfolding joined
cut_fine lines ones fine [] rest h = tt
cut_fine [] ones fine (l ∷ ls) rest h = absurd cc
cut_fine (line ∷ lines) ones fine (l ∷ ls) rest h =
    let f = line_in_front (line ++ joined lines) l h.0 h.1 in
    let b = before_one line (joined lines) ones.0 in (
      subst LeavesJoin (sym (f.line ∙ ap without_cr b.0)) fine.0,
      cut_fine lines ones.1 fine.1 ls rest
          (subst (λ (bs : Bytes). CutsInto bs ls rest) (same (sym f.behind ∙ b.1)) h.2),
    )
  where
    same : Some h.0 ≡ Some (joined lines) → h.0 ≡ joined lines
    same e = cc

-- What a walk fed, and which lines it ran.
next_fed : (st : State) (event : Event) → MayRun st event → fed_by 1 event ≡ joined (piece_of event)
unfolding joined
next_fed st (opened s) h = refl
next_fed st (fed s bytes) h = ap (λ (t : ℕ). cond (t == 1) bytes []) h.0 ∙ sym (append-nil bytes)
next_fed st (stepped s outcome) h = refl
next_fed st (took s bytes) h = refl
next_fed st (ended s) h = refl
next_fed st (closed s bytes) h = absurd h

walk_fed : (old : State) (done : List Did) (new : State) → Walk RunNext old done new → all_fed 1 done
    ≡ joined (pieces_of done)
unfolding joined
walk_fed old [] new w = refl
walk_fed old (d ∷ done) new w =
    ap (λ (bs : Bytes). bs ++ all_fed 1 done) (next_fed old d.event w.1.0)
    ∙ ap (λ (bs : Bytes). joined (piece_of d.event) ++ bs) (walk_fed w.0 done new w.2)
    ∙ sym (joined_both (piece_of d.event) (pieces_of done))

-- Each step, by the lines that were taken.
step_fine : (st : State) (event : Event) (more : List Bytes) → MayRun st event
    → AllByRecursion LeavesJoin (line_by 1 event ++ more) → IsFine event × AllByRecursion LeavesJoin more
step_fine st (opened s) more h k = (tt, k)
step_fine st (fed s bytes) more h k = (tt, k)
step_fine st (took s bytes) more h k = (tt, k)
step_fine st (ended s) more h k = (tt, k)
step_fine st (closed s bytes) more h k = absurd h
step_fine st (stepped s outcome) more h k = by outcome
    (subst (λ (t : ℕ). AllByRecursion LeavesJoin (line_by 1 (stepped t outcome) ++ more)) h.0 k)
  where
    by : (o : LineOutcome) → AllByRecursion LeavesJoin (line_by 1 (stepped 1 o) ++ more) → IsFine (stepped s o)
        × AllByRecursion LeavesJoin more
    by long h = (tt, h)
    by (blank l) h = (tt, h.1)
    by (slow l) h = (tt, h.1)
    by (no_room l) h = (tt, h.1)
    by (run l) h = (h.0, h.1)

walk_few : (old : State) (done : List Did) (new : State) → Walk RunNext old done new
    → AllByRecursion LeavesJoin (lines_of 1 done) → GivesFew old → GivesFew new
walk_few old [] new w k g = subst GivesFew same g
  where
    same : old ≡ new
    same = cc
walk_few old (d ∷ done) new w k g =
    let f = step_fine old d.event (lines_of 1 done) w.1.0 k in
    walk_few w.0 done new w.2 f.1 (record {
      store = step_joins old d.event d.effect w.0 f.0 w.1.1 g.store;
      give = step_gives old d.event d.effect w.0 w.1.1 g.give;
    })

-- **Lines that register no other query leave few answers to be given.**
pub loads_few : (lines : List Bytes) (old : State) (before : Counts) (new : State) (now : Counts) → AreOnes lines
    → AreHarmless lines → held_of old 1 ≡ []
    → FeedsLines lines old before new now → GivesFew old → GivesFew new
loads_few lines old before new now ones fine none h g =
    let t = in_order 1 old h.done new (next_runs old h.done new h.walk) (walk_spares old h.done new h.walk) in
    let all : held_of old 1 ++ all_fed 1 h.done ≡ joined lines =
    ap (λ (bs : Bytes). bs ++ all_fed 1 h.done) none ∙ walk_fed old h.done new h.walk ∙ ap joined h.fed in
    walk_few old h.done new h.walk
    (cut_fine lines ones fine (lines_of 1 h.done) (held_of new 1 ++ t.dropped)
    (subst (λ (bs : Bytes). CutsInto bs (lines_of 1 h.done) (held_of new 1 ++ t.dropped)) all t.cut)) g

-- ---- A load's query has few answers, and what a cursor has given is no more.

-- What a cursor has given are answers of its query, each once.
record Found (st : State) (given : List Tuple) (has_ended : Bool) : Type 0 where
  session : Session
  is : session_of st 1 ≡ Some session
  cursor : cursor_of session.cursors (codes "c") ≡ Some (cursor_at given has_ended)

found_in : (st : State) (given : List Tuple) (has_ended : Bool) (o : Option Session) → session_of st 1 ≡ o
    → cursor_of (session_cursors o) (codes "c") ≡ Some (cursor_at given has_ended) → Found st given has_ended
found_in st given has_ended None e h = absurd cc
found_in st given has_ended (Some x) e h = record { session = x; is = e; cursor = h }

pub record HasGiven (st : State) (given : List Tuple) (has_ended : Bool) : Type 0 where
  pub query : Listed
  pub registered : listed_of st.store.queries (codes "q") ≡ Some query
  pub gives : Gives (AnswersOf st.store.relations query) given has_ended

pub has_given : (st : State) (given : List Tuple) (has_ended : Bool) → CursorsGive st → CursorStands st given has_ended
    → HasGiven st given has_ended
has_given st given has_ended give stands =
    let rs = st.store.relations in
    let qs = st.store.queries in
    let f = found_in st given has_ended (session_of st 1) refl stands.cursor in
    let of_session : SessionGives rs qs f.session = all_found (SessionGives rs qs) (λ (x : Session). x.id == 1)
    st.sessions f.session give f.is in
    let of_cursor : PositionGives rs (listed_of qs (codes "q")) (open_at given has_ended) =
    all_found (CursorGives rs qs) (λ (c : Cursor). bytes_eq c.name (codes "c")) (f.session).cursors
    (cursor_at given has_ended) of_session f.cursor in
    let q = some_there (listed_of qs (codes "q")) (λ (q : Listed). Gives (AnswersOf rs q) given has_ended) of_cursor in
    record { query = q.0; registered = q.1; gives = q.2 }

-- The query is bound: each variable of its head stands in one of its atoms.
abbrev over_r : Atom
over_r = record { relation = codes "r"; terms = Variable (codes "x") ∷ Variable (codes "y") ∷ [] }

abbrev over_s : Atom
over_s = record { relation = codes "s"; terms = Variable (codes "y") ∷ Variable (codes "z") ∷ [] }

x_bound : IsInBody (codes "x") join
x_bound = (
  over_r,
  first_there over_r (over_s ∷ []) over_r refl,
  first_there (Variable (codes "x"))
      (Variable (codes "y") ∷ []) (Variable (codes "x")) refl,
)

y_bound : IsInBody (codes "y") join
y_bound = (
  over_s,
  later_there over_r (over_s ∷ []) over_s (first_there over_s [] over_s refl),
  first_there (Variable (codes "y")) (Variable (codes "z") ∷ []) (Variable (codes "y")) refl,
)

z_bound : IsInBody (codes "z") join
z_bound = (
  over_s,
  later_there over_r (over_s ∷ []) over_s (first_there over_s [] over_s refl),
  later_there (Variable (codes "y")) (Variable (codes "z") ∷ []) (Variable (codes "z"))
      (first_there (Variable (codes "z")) [] (Variable (codes "z")) refl),
)

join_bound : IsBound join
join_bound x k = at_x (first_or_later (codes "x") (codes "y" ∷ codes "z" ∷ []) x k)
  where
    in_body : (y : Bytes) → y ≡ x → IsInBody y join → IsInBody x join
    in_body y e h = subst (λ (z : Bytes). IsInBody z join) e h

    at_z : (codes "z" ≡ x) ⊎ Contains [] x → IsInBody x join
    at_z (inl e) = in_body (codes "z") e z_bound
    at_z (inr c) = absurd (nothing_there x c)

    at_y : (codes "y" ≡ x) ⊎ Contains (codes "z" ∷ []) x → IsInBody x join
    at_y (inl e) = in_body (codes "y") e y_bound
    at_y (inr c) = at_z (first_or_later (codes "z") [] x c)

    at_x : (codes "x" ≡ x) ⊎ Contains (codes "y" ∷ codes "z" ∷ []) x → IsInBody x join
    at_x (inl e) = in_body (codes "x") e x_bound
    at_x (inr c) = at_y (first_or_later (codes "y") (codes "z" ∷ []) x c)

rows_within : (rs : List Relation) (name : Bytes) → All RelationIsSmall rs → length (rows_of rs name) ≤ ROWS
rows_within rs name h =
    let counted = by (relation_of rs name) refl in
    omega (arith, counted, length-map (counted_of rs name) (λ (c : CountedRow). c.row))
  where
    by : (o : Option Relation) → relation_of rs name ≡ o → length (counted_in o) ≤ ROWS
    by None e = omega arith
    by (Some r) e = all_found RelationIsSmall (λ (x : Relation). bytes_eq x.name name) rs r h e

pub few_given : (st : State) (given : List Tuple) (has_ended : Bool) → GivesFew st → CursorStands st given has_ended
    → length given ≤ most_load_answers
few_given st given has_ended few stands =
    let rs = st.store.relations in
    let h = has_given st given has_ended few.give stands in
    let is : h.query ≡ a_query join = all_found IsJoin (λ (q : Listed). bytes_eq (listed_name q) (codes "q"))
    st.store.queries h.query few.store.queries h.registered in
    let gives : Gives (AnswersOf rs (a_query join)) given has_ended = subst
    (λ (q : Listed). Gives (AnswersOf rs q) given has_ended) is h.gives in
    let most = answers_are_bounded rs (a_query join) join_bound given gives.different gives.answers in
    let r = rows_within rs (codes "r") few.store.rows in
    let s = rows_within rs (codes "s") few.store.rows in
    let all = mul-le (length (rows_of rs (codes "r"))) (length (rows_of rs (codes "s")) * 1) ROWS ROWS r
    (omega (arith, s)) in
    omega (arith, most, all)

-- Reading goes on only as long as fewer were given.
abbrev pub reads_left : Reading → ℕ
reads_left r = cond r.ended 0 (suc (most_load_answers - r.answers))

small : (n : ℕ) → n ≤ most_load_answers → n % 2 ^ 64 ≡ n
small n h = omega (arith, h)

pub answers_are : (st : State) (r : Reading) (reads : ℕ) → GivesFew st → (h : ReadsSoFar st r reads) → r.answers
    ≡ length h.given
answers_are st r reads few h = ap (λ (x : Reading). x.answers) h.is
    ∙ small (length h.given) (few_given st h.given r.ended few h.stands)

pub fewer_left : (old new : State) (r after : Reading) (k : ℕ) → GivesFew old → GivesFew new → r.ended ≡ false
    → ReadsSoFar old r k → ReadsSoFar new after (k + 1) → reads_left after < reads_left r
fewer_left old new r after k few more going h next =
    subst (λ (n : ℕ). reads_left after < n)
    (sym (ap (λ (b : Bool). cond b 0 (suc (most_load_answers - r.answers))) going))
    (by after.ended refl)
  where
    by : (b : Bool) → after.ended ≡ b
        → cond b 0 (suc (most_load_answers - after.answers)) < suc (most_load_answers - r.answers)
    by true e = omega arith
    by false e =
        let here = answers_are old r k few h in
        let there = answers_are new after (k + 1) more next in
        let full = h.full going in
        let filled = next.full e in
        let most = few_given new next.given after.ended more next.stands in
        omega (arith, here, there, full, filled, most)

-- From the start on.
pub opens_few : (start a : State) (counted : Counts) → start ≡ opening
    → FeedsLines [] start counted a counted → GivesFew a
opens_few start a counted e h =
    loads_few [] start counted a counted tt tt (ap (λ (st : State). held_of st 1) e) h
    (subst GivesFew (sym e)
    (record {
      store = record { rows = All-nil RelationIsSmall; queries = All-nil IsJoin };
      give = All-nil
          (SessionGives [] []);
    }))

pub points_few : (n seed : ℕ) (a : State) (before : Counts) (b : State) (at_b : Counts) (c : State) (at_c : Counts)
    → SessionIsIdle a → SessionIsIdle b → FeedsLines (load n seed) a before b at_b
    → FeedsLines (open_line ∷ []) b at_b c at_c → GivesFew a
    → GivesFew c
points_few n seed a before b at_b c at_c idle then feeds points few =
    loads_few (open_line ∷ []) b at_b c at_c (refl, tt) opening_fine then.held points
    (loads_few (load n seed) a before b at_b (load_ones n seed) (load_fine n seed) idle.held feeds few)

pub read_few : (old : State) (before : Counts) (new : State) (now : Counts) → SessionIsIdle old
    → FeedsLines (next_line ∷ []) old before new now → GivesFew old → GivesFew new
read_few old before new now idle h few = loads_few (replicate 1 next_line) old before new now (reads_one 1)
    (reads_fine 1) idle.held h few

pub all_few : (k : ℕ) (old : State) (before : Counts) (new : State) (now : Counts) → SessionIsIdle old
    → FeedsLines (replicate k next_line) old before new now → GivesFew old → GivesFew new
all_few k old before new now idle h few = loads_few (replicate k next_line) old before new now (reads_one k)
    (reads_fine k) idle.held h few

-- ---- What the whole of a load comes to.

-- What is pending as the cursor was read.
pub read_served : (old : State) (before : Counts) (mid : State) (now : Counts) (r : Reading) → SessionIsIdle old
    → LineRuns next_line old before mid now → ((reads : ℕ) × ReadsSoFar old r reads)
    → pending_of mid 1 ≢ refusal_line NoMemory
read_served old before mid now r idle runs (reads, h) e =
    let t = next_tells h.given r.ended old before mid now idle h.stands runs in listed t.told t.end (sym t.pending ∙ e)

-- A read was the last: behind full ones, and it told some unless it was the first.
is_last : (reads given told : ℕ) → given ≡ 1000 * reads → told ≤ 1000 → (0 < reads → 0 < told) → reads + 1
    ≡ reads_for (given + told)
is_last zero given told full few some = omega (arith, full, few)
is_last (suc k) given told full few some = let one : 0 < told = some (omega arith) in omega (arith, full, few, one)

-- The cursor was read once more.
pub read_on : (old : State) (before : Counts) (mid : State) (now : Counts) (new : State) (r after : Reading)
    (text : Bytes) (reads : ℕ)
    → SessionIsIdle old → LineRuns next_line old before mid now → text ≡ pending_of mid 1 → after ≡ read_bytes r text
    → TakesAll mid new → r.ended ≡ false → ReadsSoFar old r reads → ReadsSoFar new after (reads + 1)
read_on old before mid now new r after text reads idle runs is_text is_after takes going h =
    let t = next_tells h.given r.ended old before mid now idle h.stands runs in
    let all = h.given ++ t.told in
    let e : after ≡ so_far all t.end =
    is_after ∙ ap₂ (λ (x : Reading) (bytes : Bytes). read_bytes x bytes) h.is (is_text ∙ t.pending)
    ∙ listing_read h.given r.ended t.told t.end in
    let has_ended : after.ended ≡ t.end = ap (λ (x : Reading). x.ended) e in
    record {
      given = all;
      stands = subst (λ (b : Bool). CursorStands new all b) (sym has_ended) (stands_on all t.end mid new takes t.stands);
      is = e ∙ ap (λ (b : Bool). so_far all b) (sym has_ended);
      full = λ k. omega (arith, length-append h.given t.told, h.full going, t.full (sym has_ended ∙ k));
      left = λ k some. took_left mid new all takes (t.left (sym has_ended ∙ k));
      last = λ k. is_last reads (length h.given) (length t.told) (h.full going) t.few
          (λ some. t.some (h.left going some) (sym has_ended ∙ k))
          ∙ ap reads_for (sym (length-append h.given t.told));
    }

-- it was read to its end
pub read_all : (st : State) (r : Reading) (reads : ℕ) → GivesFew st → ReadsSoFar st r reads → r.ended ≡ true
    → TotalsAreTold st (record { answers = r.answers; sum = r.sum }) reads
read_all st r reads few h has_ended = record {
  given = h.given;
  stands = subst (λ (b : Bool). CursorStands st h.given b) has_ended h.stands;
  reads_are = h.last has_ended;
  answers = answers_are st r reads few h;
  sum = ap (λ (x : Reading). x.sum) h.is;
}

totals_are : (st : State) (totals : Totals) (reads : ℕ) → GivesFew st → (h : TotalsAreTold st totals reads)
    → AreTotals st h.given totals
totals_are st totals reads few h =
    let q = has_given st h.given true few.give h.stands in
    record {
      query = q.query;
      registered = q.registered;
      listing = (q.gives).listing refl;
      count = h.answers;
      sum = h.sum;
    }

-- The session as it opens, where no other is open.
opened_parts : (old mid : State) → old.sessions ≡ []
    → ((length old.sessions < SESSIONS) × (mid ≡ record old { sessions = old.sessions ++ fresh 1 ∷ [] })) ⊎ (mid ≡ old)
    → (held_of mid 1 ≡ []) × (cause_of mid 1 ≡ None)
opened_parts old mid none (inl h) =
    let alone : mid ≡ record old { sessions = fresh 1 ∷ [] } = h.1
    ∙ ap (λ (xs : List Session). record old { sessions = xs ++ fresh 1 ∷ [] }) none in
    (ap (λ (st : State). held_of st 1) alone, ap (λ (st : State). cause_of st 1) alone)
opened_parts old mid none (inr h) =
    let alone : mid ≡ record old { sessions = [] } = h
    ∙ ap (λ (xs : List Session). record old { sessions = xs }) none in
    (ap (λ (st : State). held_of st 1) alone, ap (λ (st : State). cause_of st 1) alone)

opened_idle : (old new : State) → old.sessions ≡ [] → old.stopped ≡ false → Makes old (opened 1) new → IsOpen new 1
    → SessionIsIdle new
opened_idle old new none going m there =
    let h = m.step in
    let parts = opened_parts old h.mid none h.acts.2 in
    let quiet : to_session 1 m.effect.queued ≡ [] = ap (λ (e : Effect). to_session 1 e.queued) h.acts.0 in
    record {
      going = step_stopped old (opened 1) m.effect new h tt ∙ going;
      is_open = there;
      held = stepped_held old (opened 1) m.effect new h 1 ∙ parts.0;
      pending = step_bytes old (opened 1) m.effect new h 1 ∙ ap (λ (q : Bytes). pending_of old 1 ++ q) quiet
          ∙ ap (λ (xs : List Session). pending_of (record old { sessions = xs }) 1 ++ []) none;
      running = stepped_cause old (opened 1) m.effect new h 1 ∙ parts.1;
    }

-- Opening it, where it was opened.
pub record Begins (old new : State) (counted : Counts) : Type 0 where
  pub idle : SessionIsIdle new
  pub loads : FeedsLines [] old counted new counted

pub begins : (old new : State) (counted : Counts) (r : Result ⊤ OpenRefusal) → is_err r ≡ false → OpenGives old 1 r new
    → old.sessions ≡ [] → old.stopped ≡ false → Begins old new counted
begins old new counted (Ok u) e h none going = record {
  idle = opened_idle old new none going h.0 h.1;
  loads = loads_one (record { event = opened 1; effect = h.0.effect }) old counted new counted ((refl, none), h.0.step)
      (quiet (to_session 1 (h.0.effect).queued) (ap (λ (e : Effect). to_session 1 e.queued) (h.0.step).acts.0))
      (omega arith);
}
begins old new counted (Err r) e h none going = absurd cc

-- The whole: the session is opened, the load fed, the cursor opened, and read so many times.
all_loads : (n seed k : ℕ) (start a : State) (before : Counts) (b : State) (at_b : Counts) (c : State) (at_c : Counts)
    (d : State) (now : Counts)
    → FeedsLines [] start before a before → FeedsLines (load n seed) a before b at_b
    → FeedsLines (open_line ∷ []) b at_b c at_c
    → FeedsLines (replicate k next_line) c at_c d now
    → FeedsLines (load n seed ++ open_line ∷ replicate k next_line) start before d now
all_loads n seed k start a before b at_b c at_c d now opens feeds points reads =
    let begun : FeedsLines (load n seed) start before b at_b =
    loads_then [] (load n seed) start before a before b at_b opens
    feeds in
    let rest : FeedsLines (open_line ∷ replicate k next_line) b at_b d now = loads_then (open_line ∷ [])
    (replicate k next_line) b at_b c at_c d now points reads in
    loads_then (load n seed) (open_line ∷ replicate k next_line) start before b at_b d now begun rest

-- to its end, where the totals are answered
pub answers_load : (n seed : ℕ) (r : Result Totals NoMem) (start a : State) (before : Counts) (b : State)
    (at_b : Counts) (c : State) (at_c : Counts) (d : State) (now : Counts)
    → GivesFew c → SessionIsIdle c → FeedsLines [] start before a before → FeedsLines (load n seed) a before b at_b
    → FeedsLines (open_line ∷ []) b at_b c at_c
    → IfOk r (λ totals. (k : ℕ) × FeedsLines (replicate k next_line) c at_c d now × TotalsAreTold d totals k)
    → OnOk r (cause_of d 1 ≡ None) → IfOk r (λ totals. RunsLoad n seed totals start before d now)
answers_load n seed (Ok totals) start a before b at_b c at_c d now few idle opens feeds points (k, reads, told) running
    =
    let whole = all_loads n seed k start a before b at_b c at_c d now opens feeds points reads in
    record {
      answers = told.given;
      loads = subst (λ (m : ℕ). FeedsLines (load n seed ++ open_line ∷ replicate m next_line) start before d now)
          told.reads_are whole;
      stands = told.stands;
      running = running;
      totals_are = totals_are d totals k (all_few k c at_c d now idle reads few) told;
    }
answers_load n seed (Err r) start a before b at_b c at_c d now few idle opens feeds points told running = tt

-- what holds, holds where there is an error
pub where_err : {A E P : Type 0} (r : Result A E) → P → OnErr r P
where_err (Ok a) p = tt
where_err (Err e) p = p

-- Memory is wanting: at a line of the load,
pub breaks_feeding : (n seed : ℕ) (start a : State) (before : Counts) (d : State) (now : Counts)
    → FeedsLines [] start before a before → LoadBreaksOff (load n seed) a before d now
    → RunsOut n seed start before d now
breaks_feeding n seed start a before d now opens breaks =
    inr (inl (breaks_before (load n seed) (open_line ∷ []) start before d now
    (breaks_behind [] (load n seed) start before a before d now opens breaks)))

-- at the one that opens the cursor,
pub breaks_opening : (n seed : ℕ) (start a : State) (before : Counts) (b : State) (at_b : Counts) (d : State)
    (now : Counts)
    → FeedsLines [] start before a before → FeedsLines (load n seed) a before b at_b
    → Feeds (open_line ∷ []) b at_b d now
    → RunsOut n seed start before d now
breaks_opening n seed start a before b at_b d now opens feeds breaks =
    inr (inl (breaks_at (load n seed) open_line [] (load n seed ++ open_line ∷ []) start before b at_b d now refl
    (loads_then [] (load n seed) start before a before b at_b opens feeds) breaks))

-- or at one that reads it
pub breaks_reading : (n seed : ℕ) (start a : State) (before : Counts) (b : State) (at_b : Counts) (c : State)
    (at_c : Counts) (d : State) (now : Counts)
    → FeedsLines [] start before a before → FeedsLines (load n seed) a before b at_b
    → FeedsLines (open_line ∷ []) b at_b c at_c
    → BreaksReading [] c at_c d now → RunsOut n seed start before d now
breaks_reading n seed start a before b at_b c at_c d now opens feeds points r =
    let lines = load n seed ++ open_line ∷ [] in
    let front : FeedsLines lines start before c at_c =
    loads_then (load n seed) (open_line ∷ []) start before b at_b c at_c
    (loads_then [] (load n seed) start before a before b at_b opens feeds) points in
    inr (inr (record {
      nexts = r.nexts;
      mid = r.mid;
      between = r.between;
      loads = loads_then lines (replicate r.nexts next_line) start before c at_c r.mid r.between front r.loads;
      given = r.given;
      stands = r.stands;
      many = r.many;
      feeds = r.feeds;
    }))
