-- The program's run: what its cursors give at each moment, and what mirrors read back.
use Rattle.std.specs.Prelude.{List, true, Option, None, Some, IsSomeAnd, All, ◌++◌, ℕ, [], ◌≡◌, Result, Ok, Err, OnErr}
use Rattle.std.specs.Prelude.{◌∷◌, ◌≢◌, ◌<◌, ◌⊎◌, AllPairs}
use Rattle.std.proofs.Common.{refl, subst, ap, sym, ◌∙◌, inl, inr, append-nil, arith}
use Rattle.std.proofs.lemmas.List.Elements.{All-contains, All-head}
use Rattle.std.specs.Borrow.{Bor}
use Rattle.clap.specs.Words.{Text, Row, subcommand_of}
use Rattle.std.proofs.lemmas.Grind.{flat_map-append}
use Rattle.std.proofs.lemmas.List.Kept.{AllPairs-cons}
use Rattle.djq_io.specs.declared.sink.Write.{Write}
use Rattle.djq_io.specs.Sink.{bytes_of}
use Rattle.djq_io.specs.Source.{SourceReading}
use Rattle.djq_io.specs.Written.{GainsBytes}
use Rattle.djq_io.specs.Calls.{sent_to}
use Rattle.djq_model.specs.declared.relation.Relation.{Relation}
use Rattle.djq_model.specs.Data.{Tuple, Bytes}
use Rattle.djq_model.specs.Answer.{IsListing}
use Rattle.djq_model.specs.Listed.{Listed, AnswersOf, listed_of, listed_name}
use Rattle.djq_value.specs.Literal.{is_name}
use Rattle.djq_cli.specs.declared.commands.Asked.{Asked}
use Rattle.djq_cli.specs.declared.commands.Asked.TheVariants.{Mirror}
use Rattle.djq_cli.specs.Commands.{djq_app}
use Rattle.djq_cli.specs.Asks.{SubcommandAsks, WordsAsk}
use Rattle.djq_mirror.specs.declared.mode.Mode.TheVariants.{Live}
use Rattle.djq_mirror.specs.declared.command.Mirrored.{Mirrored}
use Rattle.djq_mirror.specs.declared.command.Mirrored.TheVariants.{Done, Outside as Halted, ReadFault, WriteFault}
use Rattle.djq_mirror.specs.declared.command.Mirrored.TheVariants.{TooMany, NoMemory as MirroredNoMemory}
use Rattle.djq_mirror.specs.Inputs.{HoldsAtEnd, FirstIsRefused}
use Rattle.djq_mirror.specs.Mirror.{Held}
use Rattle.djq_mirror.specs.Ends.{ComesTo, StopsFor, WritesOf, MirrorEnds}
use Rattle.djq_store_spec.specs.Store.{Position, open_at}
use Rattle.djq_machine.specs.State.{Session, Cursor, State, opening}
use Rattle.djq_machine.specs.Gives.{PositionGives}
use Rattle.djq_machine.specs.Run.{Group, lines_in, Did, Walk, out, all_taken, pending_of}
use Rattle.djq_machine.specs.Call.{Counts}
use Rattle.djq_run_laws.specs.Sound.{IsStart}
use Rattle.djq_run_laws.specs.Course.{Outside, Course, RunNext}
use Rattle.djq_run_laws.specs.Sent.{opened_by, all_opened}
use Rattle.djq_run_laws.proofs.Watchers.{listings_stay_live}
use Rattle.djq_run_laws.proofs.CursorListings.{nothing_given}
use Rattle.djq_run_laws.proofs.Courses.{headline, walk_spares, none_pending, walk_of}
use Rattle.djq_run_laws.proofs.TakenLines.{later as rises}
use Rattle.djq_run_laws.proofs.Events.{gone_taken, next_runs, run_bytes}
use Rattle.djq_run_laws.proofs.SoundStates.{opening_is_start}
use Rattle.djq_log_laws.proofs.Commands.{found_is_start}
use Rattle.djq_mirror_laws.specs.Sayable.{IsSayableStore}
use Rattle.djq_mirror_laws.specs.Mirrored.{HoldsTextsOf}
use Rattle.djq_mirror_laws.specs.Whole.{ReadsSinceOpened}
use Rattle.djq_mirror_laws.proofs.MirrorInputs.{held_alone}
use Rattle.djq_mirror_laws.proofs.MirrorRuns.{opened_are_read_back, front}
use Rattle.djq_mirror_laws.proofs.SayableStates.{loaded_are_sayable, opening_is_sayable}
use Rattle.djq_run.specs.declared.status.Status.{Status}
use Rattle.djq_run.specs.declared.status.Status.TheVariants.{NoMemory}
use Rattle.djq_run.specs.Ends.{RunEnds}
use Rattle.djq_run.proofs.Runs.{not_begun}
use Rattle.djq_serve.specs.declared.served.Served.{Served}
use Rattle.djq_serve.specs.Ends.{FaultsCount, RunsThrough, ServeEnds}
use Rattle.djq_serve.specs.Told.{Shown}
use Rattle.djq_serve.specs.Server.{all_told, all_done}
use Rattle.djq_program_laws.specs.Finished.{FinishedCursors}
use Rattle.djq_program_laws.specs.declared.limits.TheConstants.{ROUND_TURNS}
use Rattle.djq_program_laws.specs.Logged.{LogSeen, Begins}
use Rattle.djq_program_laws.specs.Live.{RunIsLive, ServeIsLive}
use Rattle.djq_program_laws.specs.Ends.{Serves}
use Rattle.djq_program_laws.specs.Mirrored.{WritesAnswers, IsMirroredBack}
use Rattle.djq_program_laws.specs.ReadBack.{RunIsReadBack, ServeIsReadBack, RunMomentsAreReadBack}
use Rattle.djq_program_laws.specs.ReadBack.{ServeMomentsAreReadBack}

-- ---- The headline says of each open cursor what it has given; of a finished one, that is a listing.

listed : (relations : List Relation) (o : Option Listed) (given : List Tuple)
    → PositionGives relations o (open_at given true) → IsSomeAnd o (λ q. IsListing (AnswersOf relations q) given)
listed relations None given h = absurd h
listed relations (Some q) given h = h.listing refl

pub finished_cursors : FinishedCursors
finished_cursors start status before now serves mid passed x is_session c is_cursor given e =
    let st = mid.store in
    let of_session = All-contains
    (λ (y : Session). All (λ (k : Cursor). PositionGives st.relations (listed_of st.queries k.query) k.position)
    y.cursors) mid.sessions x ((serves.headline).cursors mid passed) is_session in
    let of_cursor = All-contains (λ (k : Cursor). PositionGives st.relations (listed_of st.queries k.query) k.position)
    x.cursors c of_session is_cursor in
    listed st.relations (listed_of st.queries c.query) given
    (subst (λ (p : Position). PositionGives st.relations (listed_of st.queries c.query) p) e of_cursor)

-- ---- At each moment of a run the cursors give what they should, so a listing and the deltas since are the answers.

pub run_is_live : RunIsLive
run_is_live start status before now serves mid passed = listings_stay_live mid ((serves.headline).cursors mid passed)

-- What lines found in a log, and what was kept first, give is a state to start from.
pub starts : (log : Option LogSeen) (found : List Bytes) (first : List Group) (counted : Counts) (start : State)
    (loaded : Counts) → Begins log found first counted start loaded → IsStart start
starts log found first counted start loaded begins =
    found_is_start (found ++ lines_in first) start begins.loads (ap (λ (st : State). st.sessions) begins.fresh)
    (ap (λ (st : State). st.stopped) begins.fresh)

pub serve_is_live : ServeIsLive
serve_is_live log status addr turns hub counted hub' counted' serves earlier mid later passed =
    listings_stay_live mid ((serves.ends.throughout).cursors earlier mid later passed
    (nothing_given serves.start
    (starts log serves.found serves.first counted serves.start serves.loaded serves.begins)))

-- ---- The headline of the program's run, from the state that it starts from.

-- The machine was at the start, and no session is open there.
pub serves : (status : Status) (before now : Outside) (machine start state : State) → machine ≡ start → start.sessions
    ≡ [] → RunEnds status before now machine state → Serves start status before now
serves status before now machine start state e none run =
    let from_start : RunEnds status before now start state = subst (λ (st : State). RunEnds status before now st state)
    e run in
    record { state = state; run = from_start; headline = headline start before now state from_start.course none }

-- out of memory before anything was done
pub serves_nothing : (o : Outside) → Serves opening NoMemory o o
serves_nothing o = serves NoMemory o o opening opening opening refl refl (not_begun o opening opening refl)

-- a fault of the hub over both calls
pub faults_from : (answer : Served) (a b c : ℕ) → b ≡ a → FaultsCount answer b c → FaultsCount answer a c
faults_from answer a b c same h = subst (λ (n : ℕ). FaultsCount answer n c) same h

-- what the words ask for, by what was read
pub asks_for : (words : List Bytes) (o p : Option Asked) → o ≡ p → WordsAsk words o → WordsAsk words p
asks_for words o p e h = subst (λ (k : Option Asked). WordsAsk words k) e h

-- The query of which a mirror is asked for is a name.
pub names_query : (words : List Text) (query : Bor Text) → WordsAsk words (Some (Mirror query)) → is_name query.now
    ≡ true
names_query words query asks = named (subcommand_of djq_app words) asks.1
  where
    named : (o : Option (Text × List Row)) → IsSomeAnd o (λ c. SubcommandAsks c (Mirror query))
        → is_name query.now ≡ true
    named None h = absurd h
    named (Some c) h = h.2

-- what holds, holds where there is an error
pub where_err : {A E P : Type 0} (r : Result A E) → P → OnErr r P
where_err (Ok a) p = tt
where_err (Err e) p = p

-- ---- A mirror that reads what was queued to a session refuses none of it.

-- ---- one mirror

module _ (q : Listed) (sent : Bytes) (at : State) (held : Held) (input : HoldsAtEnd (listed_name q) sent held)
    (live : held.mode ≡ Live → HoldsTextsOf held (AnswersOf at.store.relations q)) where
  unrefused : (n : ℕ) (bytes : Bytes) → bytes ≡ sent → FirstIsRefused (listed_name q) bytes n → ⊥
  unrefused n bytes same refused =
      (held_alone (listed_name q) sent held input).0 n
      (subst (λ (bs : Bytes). FirstIsRefused (listed_name q) bs n) same refused)

  -- all of it was read, and nothing is left
  to_the_end : (bytes : Bytes) (reading : SourceReading) → reading.left ≡ [] → bytes ++ reading.left ≡ sent
      → bytes ≡ sent
  to_the_end bytes reading none all = sym (append-nil bytes) ∙ ap (λ (bs : Bytes). bytes ++ bs) (sym none) ∙ all

  abbrev Ends : Mirrored → Option (List Write) → Option (List Write) → Type 0
  Ends answer writing writing' =
      ((n : ℕ) → answer ≢ Halted n) × (answer ≡ Done → WritesAnswers q at writing writing')

  writes : (answer : Mirrored) (text bytes : Bytes) (reading : SourceReading) (writing writing' : Option (List Write))
      (faults faults' : ℕ)
      → bytes ++ reading.left ≡ sent → (whole : Mirrored) → ComesTo whole text (listed_name q) bytes (Some reading)
      → WritesOf answer whole text writing writing' faults faults' → Ends answer writing writing'
  writes answer text bytes reading writing writing' faults faults' all Done comes (inl wrote) = (
    λ n is. absurd (done_halted n (sym wrote.0 ∙ is)),
    λ is.
        let same = to_the_end bytes reading comes.0 all in
        let other : HoldsAtEnd (listed_name q) sent comes.1 =
        subst (λ (bs : Bytes). HoldsAtEnd (listed_name q) bs comes.1) same comes.2 in
        let alone = (held_alone (listed_name q) sent held input).1 comes.1 other in record {
          held = comes.1;
          wrote = subst (λ (bs : Bytes). GainsBytes writing writing' bs) comes.3 wrote.1;
          live = λ mode. alone.1 q at.store.relations (live (sym alone.0 ∙ mode));
        },
  )
    where
      done_halted : (n : ℕ) → Done ≡ Halted n → ⊥
      done_halted n e = absurd cc
  writes answer text bytes reading writing writing' faults faults' all whole comes (inr failed) = (
    λ n is. absurd (failed_halted n (sym failed.0 ∙ is)),
    λ is. absurd (failed_done (sym failed.0 ∙ is)),
  )
    where
      failed_halted : (n : ℕ) → WriteFault ≡ Halted n → ⊥
      failed_halted n e = absurd cc

      failed_done : WriteFault ≡ Done → ⊥
      failed_done e = absurd cc
  writes answer text bytes reading writing writing' faults faults' all (Halted n) comes (inl wrote) = absurd
      (by comes.0)
    where
      by : ((more : Bytes) → FirstIsRefused (listed_name q) (bytes ++ more) n) ⊎
          ((reading.left ≡ []) × FirstIsRefused (listed_name q) bytes n) → ⊥
      by (inl always) = unrefused n (bytes ++ reading.left) all (always reading.left)
      by (inr here) = unrefused n bytes (to_the_end bytes reading here.0 all) here.1
  writes answer text bytes reading writing writing' faults faults' all ReadFault comes (inl wrote) = absurd comes
  writes answer text bytes reading writing writing' faults faults' all WriteFault comes (inl wrote) = absurd comes
  writes answer text bytes reading writing writing' faults faults' all TooMany comes (inl wrote) = absurd comes
  writes answer text bytes reading writing writing' faults faults' all MirroredNoMemory comes (inl wrote) = absurd comes

  stops : (answer : Mirrored) (bytes : Bytes) (read_faults read_faults' : ℕ) (writing writing' : Option (List Write))
      → StopsFor answer (listed_name q) bytes read_faults read_faults' → Ends answer writing writing'
  stops Done bytes read_faults read_faults' writing writing' h = absurd h
  stops (Halted n) bytes read_faults read_faults' writing writing' h = absurd h
  stops ReadFault bytes read_faults read_faults' writing writing' h = (λ n is. absurd cc, λ is. absurd cc)
  stops WriteFault bytes read_faults read_faults' writing writing' h = absurd h
  stops TooMany bytes read_faults read_faults' writing writing' h = (λ n is. absurd cc, λ is. absurd cc)
  stops MirroredNoMemory bytes read_faults read_faults' writing writing' h = (λ n is. absurd cc, λ is. absurd cc)

  mirrors : IsMirroredBack q sent at
  mirrors answer reading reading' read_faults read_faults' writing writing' faults faults' ends is = by ends
    where
      by : MirrorEnds answer (listed_name q) (Some reading) (Some reading') read_faults read_faults' writing writing'
          faults faults'
          → Ends answer writing writing'
      by (inl h) =
          let gave = (h.leaves).gave in
          writes answer h.text (h.leaves).bytes reading' writing writing' faults faults'
          (ap (λ (bs : Bytes). bs ++ reading'.left) gave.all ∙ sym gave.told.1 ∙ is) h.whole (h.leaves).comes h.writes
      by (inr h) = stops answer (h.0).bytes read_faults read_faults' writing writing' (h.0).stops

-- what is read back, as it was sent
sent_back : (q : Listed) (sent all : Bytes) (at : State) → sent ≡ all → (held : Held)
    → HoldsAtEnd (listed_name q) all held → (held.mode ≡ Live → HoldsTextsOf held (AnswersOf at.store.relations q))
    → IsMirroredBack q sent at
sent_back q sent all at same held input live =
    mirrors q sent at held (subst (λ (bs : Bytes). HoldsAtEnd (listed_name q) bs held) (sym same) input) live

-- ---- the program's runs

pub course_is_read_back : (start : State) → IsStart start → IsSayableStore start.store
    → (before now : Outside) (state : State)
    (course : Course start before now state) → pending_of state 1 ≡ [] → (q : Listed) (at : State)
    → ReadsSinceOpened q 1 start course.done at state → IsMirroredBack q (bytes_of course.writes) at
course_is_read_back start h said before now state course none q at reads =
    let back = opened_are_read_back start h said q 1 course.done at state
    (inr (walk_spares start course.done state (walk_of start course.done course.writes state course.does))) reads in
    let head = headline start before now state course h.none in
    let same : bytes_of course.writes ≡ out 1 course.done =
    head.written ∙ sym (append-nil (all_taken 1 course.done))
    ∙ ap (λ (bs : Bytes). all_taken 1 course.done ++ bs) (sym none) ∙ head.sent in
    sent_back q (bytes_of course.writes) (out 1 course.done) at same back.held back.input back.live

pub serving_is_read_back : (start : State) → IsStart start → IsSayableStore start.store → (answer : Served) (turns most : ℕ)
    (hub : Shown) (counted : Counts) (hub' : Shown) (counted' : Counts) (state : State)
    (ends : ServeEnds answer turns most hub counted start hub' counted' state) → (q : Listed) (s : ℕ) (at : State)
    → ReadsSinceOpened q s start (all_done ends.goes.moves) at state
    → sent_to s (all_told ends.goes.moves) ≡ out s (all_done ends.goes.moves)
    → IsMirroredBack q (sent_to s (all_told ends.goes.moves)) at
serving_is_read_back start h said answer turns most hub counted hub' counted' state ends q s at reads same =
    let back = opened_are_read_back start h said q s (all_done ends.goes.moves) at state (inl ends.rising) reads in
    sent_back q (sent_to s (all_told ends.goes.moves)) (out s (all_done ends.goes.moves)) at same back.held back.input
    back.live

-- ---- each moment of them

pub walk_is_read_back : (start : State) → IsStart start → IsSayableStore start.store → (done : List Did) (mid : State)
    → Walk RunNext start done mid → pending_of mid 1 ≡ [] → (q : Listed) (at : State)
    → ReadsSinceOpened q 1 start done at mid → IsMirroredBack q (all_taken 1 done) at
walk_is_read_back start h said done mid walk none q at reads =
    let back = opened_are_read_back start h said q 1 done at mid (inr (walk_spares start done mid walk)) reads in
    let same : all_taken 1 done ≡ out 1 done =
    sym (append-nil (all_taken 1 done)) ∙ ap (λ (bs : Bytes). all_taken 1 done ++ bs) (sym none)
    ∙ ap (λ (bs : Bytes). bs ++ pending_of mid 1) (sym (gone_taken start done mid walk))
    ∙ run_bytes 1 start done mid (next_runs start done mid walk)
    ∙ ap (λ (bs : Bytes). bs ++ out 1 done) (none_pending start h.none) in
    sent_back q (all_taken 1 done) (out 1 done) at same back.held back.input back.live

rising_front : (xs ys : List ℕ) → AllPairs (λ i j. i < j) (xs ++ ys) → AllPairs (λ i j. i < j) xs
rising_front [] ys h = λ i j d less within. absurd (omega arith)
rising_front (x ∷ xs) ys h =
    let l = rises (x ∷ []) (xs ++ ys) h in
    AllPairs-cons (λ i j. i < j) x xs
    (front (λ j. x < j) xs ys (All-head (λ i. All (λ j. i < j) (xs ++ ys)) x [] l.above)) (rising_front xs ys l.rising)

pub serving_was_read_back : (start : State) → IsStart start → IsSayableStore start.store → (answer : Served) (turns most : ℕ)
    (hub : Shown) (counted : Counts) (hub' : Shown) (counted' : Counts) (state : State)
    (ends : ServeEnds answer turns most hub counted start hub' counted' state) → (earlier : List Did) (mid : State)
    (later : List Did) → RunsThrough start (all_done ends.goes.moves) earlier mid later state
    → (q : Listed) (s : ℕ) (at : State) → ReadsSinceOpened q s start earlier at mid
    → all_taken s earlier ≡ out s earlier → IsMirroredBack q (all_taken s earlier) at
serving_was_read_back start h said answer turns most hub counted hub' counted' state ends earlier mid later through q s at
    reads same =
    let rising = rising_front (all_opened earlier) (all_opened later)
    (subst (λ (is : List ℕ). AllPairs (λ i j. i < j) is)
    (ap (λ (ds : List Did). all_opened ds) through.0 ∙ flat_map-append (λ (d : Did). opened_by d.event) earlier later)
    ends.rising) in
    let back = opened_are_read_back start h said q s earlier at mid (inl rising) reads in
    sent_back q (all_taken s earlier) (out s earlier) at same back.held back.input back.live

-- ---- What the program sent a session is read back by `mirror`.

pub run_is_read_back : RunIsReadBack
run_is_read_back status before now serves none q at reads =
    course_is_read_back opening opening_is_start opening_is_sayable.store before now serves.state serves.run.course none
    q at reads

pub serve_is_read_back : ServeIsReadBack
serve_is_read_back log status addr turns hub counted hub' counted' serves q s at reads same =
    serving_is_read_back serves.start
    (starts log serves.found serves.first counted serves.start serves.loaded serves.begins)
    (loaded_are_sayable (serves.found ++ lines_in serves.first) serves.start.store (serves.begins).loads) serves.answer
    turns ROUND_TURNS
    serves.ready serves.loaded hub'.shown counted' serves.state serves.ends q s at reads same

pub run_moments_are_read_back : RunMomentsAreReadBack
run_moments_are_read_back status before now serves mid passed none q at reads =
    walk_is_read_back opening opening_is_start opening_is_sayable.store passed.0 mid passed.3 none q at reads

pub serve_moments_are_read_back : ServeMomentsAreReadBack
serve_moments_are_read_back log status addr turns hub counted hub' counted' serves earlier mid later through q s at
    reads same =
    serving_was_read_back serves.start
    (starts log serves.found serves.first counted serves.start serves.loaded serves.begins)
    (loaded_are_sayable (serves.found ++ lines_in serves.first) serves.start.store (serves.begins).loads) serves.answer
    turns ROUND_TURNS
    serves.ready serves.loaded hub'.shown counted' serves.state serves.ends earlier mid later through q s at reads same
