-- What a line that comes to an idle session makes of it.
use Rattle.std.specs.Prelude.{ℕ, List, [], ◌∷◌, ◌≡◌, ◌≢◌, Bool, true, false, length, codes, ◌++◌, ◌+◌, ◌<◌, ◌≤◌, Option}
use Rattle.std.specs.Prelude.{None, Some, IsSome, IsSomeAnd, replicate, ◌⊎◌, ◌&&◌, not, is_none}
use Rattle.std.proofs.Common.{sym, ap, ap₂, ◌∙◌, arith, refl, subst, inl, inr, append-nil, append_assoc, length-append}
use Rattle.std.proofs.lemmas.List.{nil_from_length, replicate_more}
use Rattle.std.proofs.lemmas.Grind.{flat_map-append}
use Rattle.std.proofs.lemmas.List.Elements.{All-nil, All-cons, All-append}
use Rattle.djq_io.specs.declared.limits.TheConstants.{READ_BYTES}
use Rattle.djq_model.specs.Data.{Bytes, Tuple, bytes_eq}
use Rattle.djq_protocol.specs.declared.answer.Refusal.TheVariants.{NoMemory}
use Rattle.djq_protocol.specs.declared.answer.EndCause.{EndCause}
use Rattle.djq_protocol.specs.Reply.{refusal_line, listing_lines, text_of}
use Rattle.djq_protocol.specs.Line.{a_line, behind_lf, before_lf, front_of, is_long}
use Rattle.djq_answer_laws.proofs.Lists.{none_some}
use Rattle.djq_machine.specs.State.{State, Session, session_of}
use Rattle.djq_machine.specs.LineStep.{LineOutcome, long, blank, slow, no_room, run}
use Rattle.djq_machine.specs.Effect.{Effect}
use Rattle.djq_machine.specs.Step.{Event, fed, stepped, took, is_dry, Step}
use Rattle.djq_machine.specs.Run.{Did, piece_of, pending_of, pending_in, to_session}
use Rattle.djq_machine.specs.Call.{IsOpen, Makes, MakesCounted, StepsLine, Counts, cause_of, may_run}
use Rattle.djq_machine.specs.Call.{cause_in, held_of, held_in}
use Rattle.djq_run_laws.specs.Course.{RunNext, ListsStep, AwaitsInput}
use Rattle.djq_run_laws.specs.Sent.{gone_by}
use Rattle.djq_run_laws.specs.Moved.{SessionTakes, InputComes, is_held, out_of_memory, is_dropped, LineIsStepped}
use Rattle.djq_run_laws.proofs.Courses.{walk_then, took_facts, fed_facts, stepped_facts}
use Rattle.djq_run_laws.proofs.TakenLines.{line_in_front}
use Rattle.djq_run_laws.proofs.Events.{step_bytes}
use Rattle.djq_run_laws.proofs.Sessions.{step_stopped}
use Rattle.djq_run_laws.proofs.Stops.{step_stops}
use Rattle.djq_load.specs.Lines.{FeedsLines, Feeds, LoadBreaksOff, HadMemory, SessionIsIdle, LineRuns, TakesAll}

-- ---- Bytes that aren't the refusal for want of memory.

-- none
pub quiet : (queued : Bytes) → queued ≡ [] → queued ≢ refusal_line NoMemory
quiet queued none e = let k : 0 ≡ 14 = ap length (sym none ∙ e) in absurd (omega (arith, k))

-- what differs from its text
pub apart : (pending shown text : Bytes) (equal : Bool) → equal ≡ false → equal ≡ bytes_eq shown text → shown ≡ pending
    → text ≡ refusal_line NoMemory → pending ≢ refusal_line NoMemory
apart pending shown text equal differs is shows spells e = not_both (sym differs ∙ is ∙ ap₂ bytes_eq (shows ∙ e) spells)
  where
    not_both : false ≡ true → ⊥
    not_both k = cc

-- that a cursor is open
pub opened : (pending : Bytes) → pending ≡ codes "ok open\n" → pending ≢ refusal_line NoMemory
opened pending told e = let k : 8 ≡ 14 = ap length (sym told ∙ e) in absurd (omega (arith, k))

-- answers, and that these were all or not
first_of : Bytes → ℕ
first_of [] = 0
first_of (b ∷ bs) = b

pub listed : (told : List Tuple) (end : Bool) → text_of (listing_lines told end) ≢ refusal_line NoMemory
unfolding first_of
listed [] true e = let k : 4 ≡ 14 = ap length e in absurd (omega (arith, k))
listed [] false e = let k : 5 ≡ 14 = ap length e in absurd (omega (arith, k))
listed (t ∷ told) end e = let k : 61 ≡ 101 = ap first_of e in absurd (omega (arith, k))

-- ---- What a line that comes to an idle session makes of it.

-- a session that a line has come to
pub record IsFed (line : Bytes) (mid : State) : Type 0 where
  pub is_open : IsOpen mid 1
  pub held : held_of mid 1 ≡ line
  pub pending : pending_of mid 1 ≡ []

come : (line : Bytes) (old mid : State) → SessionIsIdle old → cause_of mid 1 ≡ None → InputComes old mid 1 line
    → IsFed line mid
come line old mid idle running (is_held stays o n held pending) = record {
  is_open = stays;
  held = held ∙ ap (λ (h : Bytes). h ++ line) idle.held;
  pending = pending ∙ idle.pending;
}
come line old mid idle running (out_of_memory stays o n held pending) = absurd (none_some _ _ running n)
come line old mid idle running (is_dropped stays c o n held pending) = absurd (none_some _ _ idle.running o)

pub is_fed : (line : Bytes) (old mid : State) → SessionIsIdle old → cause_of mid 1 ≡ None → Makes old (fed 1 line) mid
    → IsFed line mid
is_fed line old mid idle running m = come line old mid idle running (fed_facts old 1 line m.effect mid m.step)

came_open : (line : Bytes) (old mid : State) → InputComes old mid 1 line → IsOpen mid 1
came_open line old mid (is_held stays o n held pending) = stays
came_open line old mid (out_of_memory stays o n held pending) = stays
came_open line old mid (is_dropped stays c o n held pending) = stays

pub fed_open : (line : Bytes) (old mid : State) → Makes old (fed 1 line) mid → IsOpen mid 1
fed_open line old mid m = came_open line old mid (fed_facts old 1 line m.effect mid m.step)

-- A line was blank, or was run.
abbrev pub RanStep : State → State → Counts → Counts → Type 0
RanStep old new before now = (l : Bytes)
    × (MakesCounted old (stepped 1 (blank l)) new before now ⊎ MakesCounted old (stepped 1 (run l)) new before now)

-- So it was, where the session goes on after it.
goes_on : (old new : State) (before now : Counts) (outcome : LineOutcome)
    → MakesCounted old (stepped 1 outcome) new before now → LineIsStepped old new 1 outcome → cause_of new 1 ≡ None
    → RanStep old new before now
goes_on old new before now long m f running = absurd (none_some _ _ running f.cause)
goes_on old new before now (blank l) m f running = (l, inl m)
goes_on old new before now (slow l) m f running = absurd (none_some _ _ running f.cause)
goes_on old new before now (no_room l) m f running = absurd (none_some _ _ running f.cause)
goes_on old new before now (run l) m f running = (l, inr m)

pub ran : (line : Bytes) (old : State) (before : Counts) (new : State) (now : Counts)
    → (runs : LineRuns line old before new now) → RanStep runs.mid new before now
ran line old before new now runs =
    let m = runs.makes in
    goes_on runs.mid new before now runs.outcome m (stepped_facts runs.mid 1 runs.outcome m.effect new m.step)
    runs.running

pub step_open : (mid mid' new : State) (before now : Counts) (commit commit' : List Bytes) → mid' ≡ mid
    → StepsLine mid' 1 new before now commit commit' → IsOpen new 1
step_open mid mid' new before now commit commit' same h =
    let m = h.makes in
    let f : LineIsStepped mid' new 1 h.outcome = stepped_facts mid' 1 h.outcome m.effect new m.step in f.stays

pub ran_open : (old new : State) (before now : Counts) → RanStep old new before now → IsOpen new 1
ran_open old new before now (l, inl m) = let f : LineIsStepped old new 1 (blank l) = stepped_facts old 1 (blank l) m.effect
    new m.step in f.stays
ran_open old new before now (l, inr m) = let f : LineIsStepped old new 1 (run l) = stepped_facts old 1 (run l) m.effect new
    m.step in f.stays

-- A line that comes to an idle session may be run.
not_dry : (line : Bytes) → behind_lf line ≡ Some [] → is_dry line ≡ false
not_dry line one = by (is_long (before_lf line)) refl
  where
    by : (b : Bool) → is_long (before_lf line) ≡ b → is_dry line ≡ false
    by true e = rw e refl
    by false e = rw e (rw one refl)

runs_by : (stopped : Bool) (cause : Option EndCause) (dry : Bool) → stopped ≡ false → cause ≡ None → dry ≡ false
    → not stopped && (is_none cause && not dry) ≡ true
runs_by false None false s c d = refl
runs_by false None true s c d = cc
runs_by false (Some x) dry s c d = cc
runs_by true cause dry s c d = cc

pub line_may_run : (line : Bytes) (old mid mid' : State) → SessionIsIdle old → behind_lf line ≡ Some []
    → Makes old (fed 1 line) mid → cause_of mid 1 ≡ None → mid' ≡ mid → may_run mid' 1 ≡ true
line_may_run line old mid mid' idle one m running same =
    let here = is_fed line old mid idle running m in
    ap (λ (st : State). may_run st 1) same
    ∙ runs_by mid.stopped (cause_of mid 1) (is_dry (held_of mid 1))
    (step_stopped old (fed 1 line) m.effect mid m.step tt ∙ idle.going) running
    (ap is_dry here.held ∙ not_dry line one)

-- Nobody sends `stop` by a line after which its session goes on, nor as its reply is taken.
ran_going : (line : Bytes) (old : State) (before : Counts) (new : State) (now : Counts) → SessionIsIdle old
    → LineRuns line old before new now → new.stopped ≡ false
ran_going line old before new now idle runs =
    let m = runs.comes in
    let n = runs.makes in
    step_stops runs.mid 1 runs.outcome n.effect new n.step runs.running
    ∙ step_stopped old (fed 1 line) m.effect runs.mid m.step tt ∙ idle.going

taken_going : (old new : State) → TakesAll old new → new.stopped ≡ old.stopped
taken_going old new (inl (none, same)) = ap (λ (st : State). st.stopped) same
taken_going old new (inr (some, m)) = step_stopped old (took 1 (pending_of old 1)) m.effect new m.step tt

-- behind the one line that was held, nothing is
nothing_left : (held l rest : Bytes) → front_of held ≡ a_line l rest → behind_lf held ≡ Some [] → rest ≡ []
nothing_left held l rest front one = let f = line_in_front held l rest front in same (sym f.behind ∙ one)
  where
    same : Some rest ≡ Some [] → rest ≡ []
    same e = cc

ran_held : (line : Bytes) (old new : State) (before now : Counts) → held_of old 1 ≡ line → behind_lf line ≡ Some []
    → RanStep old new before now → held_of new 1 ≡ []
ran_held line old new before now held one (l, inl m) =
    let f : LineIsStepped old new 1 (blank l) = stepped_facts old 1 (blank l) m.effect new m.step in
    nothing_left (held_of old 1) l (held_of new 1) f.held (ap behind_lf held ∙ one)
ran_held line old new before now held one (l, inr m) =
    let f : LineIsStepped old new 1 (run l) = stepped_facts old 1 (run l) m.effect new m.step in
    nothing_left (held_of old 1) l (held_of new 1) f.held (ap behind_lf held ∙ one)

-- what taking all that is pending leaves
record IsTaken (old new : State) : Type 0 where
  is_open : IsOpen new 1
  held : held_of new 1 ≡ held_of old 1
  cause : cause_of new 1 ≡ cause_of old 1
  pending : pending_of new 1 ≡ []

none_behind : (p q : Bytes) → p ≡ p ++ q → q ≡ []
none_behind p q e = nil_from_length q (omega (arith, ap length e, length-append p q))

taken : (old new : State) → IsOpen old 1 → TakesAll old new → IsTaken old new
taken old new there (inl (none, same)) = record {
  is_open = subst (λ (st : State). IsOpen st 1) (sym same) there;
  held = ap (λ (st : State). held_of st 1) same;
  cause = ap (λ (st : State). cause_of st 1) same;
  pending = ap (λ (st : State). pending_of st 1) same ∙ none;
}
taken old new there (inr (some, m)) =
    let t : SessionTakes old new 1 (pending_of old 1) = took_facts old 1 (pending_of old 1) m.effect new m.step in
    record {
      is_open = t.stays;
      held = t.held;
      cause = t.cause;
      pending = none_behind (pending_of old 1)
          (pending_of new 1) t.pending;
    }

-- What is queued where nothing is pending and nothing is taken is what is pending then.
queued_is : (old : State) (event : Event) (e : Effect) (new : State) → Step old event e new → gone_by 1 event ≡ []
    → pending_of old 1 ≡ [] → pending_of new 1 ≡ to_session 1 e.queued
queued_is old event e new h kept none =
    sym (ap (λ (gone : Bytes). gone ++ pending_of new 1) kept) ∙ step_bytes old event e new h 1
    ∙ ap (λ (p : Bytes). p ++ to_session 1 e.queued) none

-- what is queued where all that is pending is taken, and nothing is pending then
queued_none : (old new : State) (e : Effect) → Step old (took 1 (pending_of old 1)) e new → pending_of new 1 ≡ []
    → to_session 1 e.queued ≡ []
queued_none old new e h none =
    let p = pending_of old 1 in
    none_behind p (to_session 1 e.queued)
    (sym (append-nil p) ∙ ap (λ (q : Bytes). p ++ q) (sym none) ∙ step_bytes old (took 1 p) e new h 1)

-- Runs that lines make, one after another.
pub loads_none : (st : State) (counted : Counts) → FeedsLines [] st counted st counted
loads_none st counted = record { done = []; walk = refl; fed = refl; served = All-nil HadMemory; listing = refl }

pub loads_one : (d : Did) (old : State) (before : Counts) (new : State) (now : Counts) → RunNext old d new → HadMemory d
    → now.listing ≤ before.listing + d.effect.cost → FeedsLines (piece_of d.event) old before new now
loads_one d old before new now next served listing = record {
  done = d ∷ [];
  walk = (new, next, refl);
  fed = append-nil (piece_of d.event);
  served = All-cons HadMemory d [] served (All-nil HadMemory);
  listing = (now.listing, listing, refl);
}

pub loads_then : (lines more : List Bytes) (old : State) (before : Counts) (mid : State) (between : Counts)
    (new : State) (now : Counts)
    → FeedsLines lines old before mid between → FeedsLines more mid between new now
    → FeedsLines (lines ++ more) old before new now
loads_then lines more old before mid between new now c d = record {
  done = c.done ++ d.done;
  walk = walk_then RunNext old c.done mid d.done new c.walk d.walk;
  fed = flat_map-append (λ (x : Did). piece_of x.event) c.done d.done ∙ ap₂ (λ (a b : List Bytes). a ++ b) c.fed d.fed;
  served = All-append HadMemory c.done d.done c.served d.served;
  listing = walk_then ListsStep before.listing c.done between.listing d.done now.listing c.listing d.listing;
}

-- what is known of an open session's parts holds of the session
of_session : (o : Option Session) → IsSome o → (P : Session → Type 0) → ((x : Session) → o ≡ Some x → P x)
    → IsSomeAnd o P
of_session None there P f = absurd cc
of_session (Some x) there P f = f x refl

empty_dry : is_dry [] ≡ true
empty_dry = refl

awaits : (st : State) → SessionIsIdle st → IsSomeAnd (session_of st 1) AwaitsInput
awaits st idle = of_session (session_of st 1) idle.is_open AwaitsInput
    (λ x e. record {
      written = sym (ap pending_in e) ∙ idle.pending;
      running = sym (ap cause_in e) ∙ idle.running;
      dry = ap is_dry (sym (ap held_in e) ∙ idle.held) ∙ empty_dry;
    })

flushed : (st : State) → IsOpen st 1 → pending_of st 1 ≡ [] → IsSomeAnd (session_of st 1) (λ x. x.pending ≡ [])
flushed st there pending = of_session (session_of st 1) there (λ x. x.pending ≡ [])
    (λ x e. sym (ap pending_in e) ∙ pending)

pub some_byte : (line : Bytes) → behind_lf line ≡ Some [] → 0 < length line
some_byte [] e = absurd cc
some_byte (b ∷ line) e = omega arith

-- the step that runs the line
ran_one : (old : State) (before : Counts) (outcome : LineOutcome) (new : State) (now : Counts) → IsOpen old 1
    → pending_of old 1 ≡ [] → pending_of new 1 ≢ refusal_line NoMemory
    → MakesCounted old (stepped 1 outcome) new before now → FeedsLines [] old before new now
ran_one old before outcome new now there pending served m =
    loads_one (record { event = stepped 1 outcome; effect = m.effect }) old before new now
    ((refl, flushed old there pending), m.step)
    (λ e. served (queued_is old (stepped 1 outcome) m.effect new m.step refl pending ∙ e)) m.listing

ran_loads : (old : State) (before : Counts) (new : State) (now : Counts) → IsOpen old 1 → pending_of old 1 ≡ []
    → pending_of new 1 ≢ refusal_line NoMemory → RanStep old new before now → FeedsLines [] old before new now
ran_loads old before new now there pending served (l, inl m) = ran_one old before (blank l) new now there pending served
    m
ran_loads old before new now there pending served (l, inr m) = ran_one old before (run l) new now there pending served m

took_loads : (old : State) (counted : Counts) (new : State) → pending_of new 1 ≡ [] → TakesAll old new
    → FeedsLines [] old counted new counted
took_loads old counted new pending (inl (none, same)) = subst (λ (st : State). FeedsLines [] old counted st counted)
    (sym same) (loads_none old counted)
took_loads old counted new pending (inr (some, m)) =
    loads_one (record { event = took 1 (pending_of old 1); effect = m.effect }) old counted new counted
    ((refl, some), m.step)
    (quiet (to_session 1 (m.effect).queued) (queued_none old new m.effect m.step pending)) (omega arith)

-- A line that comes, is run, and whose reply is taken.
pub line_loads : (line : Bytes) (old : State) (before : Counts) (mid : State) (now : Counts) (new : State)
    → SessionIsIdle old
    → behind_lf line ≡ Some [] → length line ≤ READ_BYTES
    → LineRuns line old before mid now → pending_of mid 1 ≢ refusal_line NoMemory → TakesAll mid new
    → FeedsLines (line ∷ []) old before new now
line_loads line old before mid now new idle one short runs served takes =
    let m = runs.comes in
    let here = is_fed line old runs.mid idle runs.is_held m in
    let first : FeedsLines (line ∷ []) old before runs.mid before =
    loads_one (record { event = fed 1 line; effect = m.effect }) old before runs.mid before
    ((refl, some_byte line one, short, awaits old idle), m.step)
    (quiet (to_session 1 (m.effect).queued)
    (sym (queued_is old (fed 1 line) m.effect runs.mid m.step refl idle.pending) ∙ here.pending)) (omega arith) in
    let t = taken mid new (ran_open runs.mid mid before now (ran line old before mid now runs)) takes in
    loads_then (line ∷ []) [] old before runs.mid before new now first
    (loads_then [] [] runs.mid before mid now new now
    (ran_loads runs.mid before mid now here.is_open here.pending served (ran line old before mid now runs))
    (took_loads mid now new t.pending takes))

pub line_idle : (line : Bytes) (old : State) (before : Counts) (mid : State) (now : Counts) (new : State)
    → SessionIsIdle old
    → behind_lf line ≡ Some []
    → LineRuns line old before mid now → TakesAll mid new → SessionIsIdle new
line_idle line old before mid now new idle one runs takes =
    let here = is_fed line old runs.mid idle runs.is_held runs.comes in
    let t = taken mid new (ran_open runs.mid mid before now (ran line old before mid now runs)) takes in
    record {
      going = taken_going mid new takes ∙ ran_going line old before mid now idle runs;
      is_open = t.is_open;
      held = t.held ∙ ran_held line runs.mid mid before now here.held one (ran line old before mid now runs);
      pending = t.pending;
      running = t.cause ∙ runs.running;
    }

-- Lines that come, whatever they are answered.
feeds_one : (d : Did) (old : State) (before : Counts) (new : State) (now : Counts) → RunNext old d new
    → now.listing ≤ before.listing + d.effect.cost → Feeds (piece_of d.event) old before new now
feeds_one d old before new now next listing = record {
  done = d ∷ [];
  walk = (new, next, refl);
  fed = append-nil (piece_of d.event);
  listing = (now.listing, listing, refl);
}

feeds_then : (lines more : List Bytes) (old : State) (before : Counts) (mid : State) (between : Counts) (new : State)
    (now : Counts)
    → Feeds lines old before mid between → Feeds more mid between new now → Feeds (lines ++ more) old before new now
feeds_then lines more old before mid between new now c d = record {
  done = c.done ++ d.done;
  walk = walk_then RunNext old c.done mid d.done new c.walk d.walk;
  fed = flat_map-append (λ (x : Did). piece_of x.event) c.done d.done ∙ ap₂ (λ (a b : List Bytes). a ++ b) c.fed d.fed;
  listing = walk_then ListsStep before.listing c.done between.listing d.done now.listing c.listing d.listing;
}

-- the line comes
pub comes_feeds : (line : Bytes) (old : State) (counted : Counts) (mid : State) → SessionIsIdle old → 0 < length line
    → length line ≤ READ_BYTES → Makes old (fed 1 line) mid → Feeds (line ∷ []) old counted mid counted
comes_feeds line old counted mid idle some short m =
    feeds_one (record { event = fed 1 line; effect = m.effect }) old counted mid counted
    ((refl, some, short, awaits old idle), m.step) (omega arith)

front_feeds : (line : Bytes) (old : State) (before : Counts) (mid : State) (outcome : LineOutcome) (new : State)
    (now : Counts) → IsFed line mid
    → Feeds (line ∷ []) old before mid before → MakesCounted mid (stepped 1 outcome) new before now
    → Feeds (line ∷ []) old before new now
front_feeds line old before mid outcome new now here comes m =
    feeds_then (line ∷ []) [] old before mid before new now comes
    (feeds_one (record { event = stepped 1 outcome; effect = m.effect }) mid before new now
    ((refl, flushed mid here.is_open here.pending), m.step) m.listing)

-- and is run, or ends its session
pub step_feeds : (line : Bytes) (old : State) (before : Counts) (mid mid' new : State) (now : Counts)
    (commit commit' : List Bytes) → SessionIsIdle old → 0 < length line → length line ≤ READ_BYTES
    → Makes old (fed 1 line) mid → cause_of mid 1 ≡ None → mid' ≡ mid
    → StepsLine mid' 1 new before now commit commit' → Feeds (line ∷ []) old before new now
step_feeds line old before mid mid' new now commit commit' idle some short m running same h =
    let own : StepsLine mid 1 new before now commit commit' =
    subst (λ (st : State). StepsLine st 1 new before now commit commit') same h in
    front_feeds line old before mid own.outcome new now (is_fed line old mid idle running m)
    (comes_feeds line old before mid idle some short m) own.makes

pub step_runs : (line : Bytes) (old : State) (before : Counts) (mid mid' new : State) (now : Counts)
    (commit commit' : List Bytes) → Makes old (fed 1 line) mid → cause_of mid 1 ≡ None → mid' ≡ mid
    → StepsLine mid' 1 new before now commit commit' → cause_of new 1 ≡ None → LineRuns line old before new now
step_runs line old before mid mid' new now commit commit' m held same h running =
    let own : StepsLine mid 1 new before now commit commit' =
    subst (λ (st : State). StepsLine st 1 new before now commit commit') same h in record {
      mid = mid;
      comes = m;
      is_held = held;
      outcome = own.outcome;
      makes = own.makes;
      running = running;
    }

-- and was run
pub line_feeds : (line : Bytes) (old : State) (before : Counts) (new : State) (now : Counts) → SessionIsIdle old
    → 0 < length line → length line ≤ READ_BYTES
    → LineRuns line old before new now → Feeds (line ∷ []) old before new now
line_feeds line old before new now idle some short runs =
    front_feeds line old before runs.mid runs.outcome new now (is_fed line old runs.mid idle runs.is_held runs.comes)
    (comes_feeds line old before runs.mid idle some short runs.comes) runs.makes

-- At one of some lines memory is wanting.
pub breaks_at : (earlier : List Bytes) (line : Bytes) (later lines : List Bytes) (old : State) (before : Counts)
    (mid : State) (between : Counts) (new : State) (now : Counts)
    → earlier ++ line ∷ later ≡ lines → FeedsLines earlier old before mid between
    → Feeds (line ∷ []) mid between new now
    → LoadBreaksOff lines old before new now
breaks_at earlier line later lines old before mid between new now are loads feeds = record {
  earlier = earlier;
  line = line;
  later = later;
  are = are;
  mid = mid;
  between = between;
  loads = loads;
  feeds = feeds;
}

-- and there are lines before them, or behind them
pub breaks_behind : (lines more : List Bytes) (old : State) (before : Counts) (mid : State) (between : Counts)
    (new : State) (now : Counts)
    → FeedsLines lines old before mid between → LoadBreaksOff more mid between new now
    → LoadBreaksOff (lines ++ more) old before new now
breaks_behind lines more old before mid between new now loads b =
    breaks_at (lines ++ b.earlier) b.line b.later (lines ++ more) old before b.mid b.between new now
    (append_assoc lines b.earlier (b.line ∷ b.later) ∙ ap (λ (xs : List Bytes). lines ++ xs) b.are)
    (loads_then lines b.earlier old before mid between b.mid b.between loads b.loads) b.feeds

pub breaks_before : (lines more : List Bytes) (old : State) (before : Counts) (new : State) (now : Counts)
    → LoadBreaksOff lines old before new now → LoadBreaksOff (lines ++ more) old before new now
breaks_before lines more old before new now b =
    breaks_at b.earlier b.line (b.later ++ more) (lines ++ more) old before b.mid b.between new now
    (sym (append_assoc b.earlier (b.line ∷ b.later) more) ∙ ap (λ (xs : List Bytes). xs ++ more) b.are) b.loads b.feeds

-- the same line again
pub loads_again : (line : Bytes) (k : ℕ) (old : State) (before : Counts) (mid : State) (between : Counts) (new : State)
    (now : Counts)
    → FeedsLines (replicate k line) old before mid between → FeedsLines (line ∷ []) mid between new now
    → FeedsLines (replicate (k + 1) line) old before new now
loads_again line k old before mid between new now c d =
    subst (λ (lines : List Bytes). FeedsLines lines old before new now) (replicate_more k line)
    (loads_then (replicate k line) (line ∷ []) old before mid between new now c d)
