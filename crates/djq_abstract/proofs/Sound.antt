-- Every run keeps names apart, and what cursors have returned right.
use Rattle.std.specs.Prelude.{ℕ, List, [], ◌∷◌, ◌++◌, ◌≡◌, ◌≢◌, ◌⊎◌, ◌==◌, Bool, true, false, not, cond, filter, Option, None}
use Rattle.std.specs.Prelude.{Some, IsSome, IsSomeAnd, MatchOption, All, Contains, length, slice_index_or, ◌<◌, ◌↔◌}
use Rattle.std.proofs.Common.{refl, sym, ◌∙◌, subst, inl, inr, arith}
use Rattle.std.proofs.lemmas.List.Elements.{All-nil, All-contains_itself, All-append, All-weaker}
use Rattle.djq_model.specs.declared.query.Query.{Query}
use Rattle.djq_model.specs.declared.query.Atom.{Atom}
use Rattle.djq_model.specs.Data.{Bytes, Tuple, bytes_eq}
use Rattle.djq_model.specs.Answer.{AreDifferent, IsListing}
use Rattle.djq_model.specs.Listed.{Listed, a_query, a_union, listed_name, listed_of, queries_of}
use Rattle.djq_abstract.specs.Rows.{Database, is_present, Matches, IsAnswerOver, AnswersOver, ReadsRelation, RowEdit}
use Rattle.djq_abstract.specs.Rows.{all_edited, IsAffected}
use Rattle.djq_abstract.specs.Clients.{CursorState, valid, stale, Client, Core, nobody, with_client, client_with_cursor, with_subscription, UsesQuery, overtaken, HaveOwnNames, CoreCommand, edit, batch, done, abandon, register, drop, open_cursor, next, close, has, subscribe, unsubscribe, ask, CoreMessage, ok, replied, is_answer, page, CoreEvent, connects, disconnects, says, Sent, only_sent}
use Rattle.djq_abstract.specs.Moves.{IsPage, StaysConnected, ChangesDatabase, Edits, OnlyReplies, SetsQueries, ReturnsPage}
use Rattle.djq_abstract.specs.Moves.{Accepts, client_refused, RefusesCommand, CoreStep}
use Rattle.djq_abstract.specs.Histories.{Happening, state_after, CoreRun, IsReached}
use Rattle.djq_abstract.specs.Promises.{FinishedCursorsListed}
use Rattle.djq_abstract.proofs.Listings.{some_there, and_some}
use Rattle.djq_abstract.proofs.Names.{own_names_more, own_names_less, found_before, found_less}

-- ---- answers over rows of which none came or went

-- the same rows are present of the relations that it reads
abbrev pub SameRows : Database → Database → Listed → Type 0
SameRows old new q = (r : Bytes) (t : Tuple) → ReadsRelation q r → is_present old r t ≡ is_present new r t

query_answers : (old new : Database) (q : Listed) (m : Query) (t : Tuple) → Contains (queries_of q) m
    → SameRows old new q → IsAnswerOver old m t → IsAnswerOver new m t
query_answers old new q m t member same h = record {
  assignment = h.assignment;
  matches = λ k d lt. moved k d lt (h.matches k d lt) (All-contains_itself m.atoms k d lt);
  compared = h.compared;
  on_head = h.on_head;
}
  where
    moved : (k : ℕ) (a : Atom) (lt : k < length m.atoms) → Matches old h.assignment (slice_index_or m.atoms k a)
        → Contains m.atoms (slice_index_or m.atoms k a) → Matches new h.assignment (slice_index_or m.atoms k a)
    moved k a lt f there = record {
      row = f.row;
      present = sym (same (slice_index_or m.atoms k a).relation f.row
          (record { query = m; is_member = member; atom = slice_index_or m.atoms k a; is_atom = there; is_over = refl }))
          ∙ f.present;
      stands = f.stands;
    }

pub same_answers : (old new : Database) (q : Listed) (t : Tuple) → SameRows old new q → AnswersOver old q t
    → AnswersOver new q t
same_answers old new (a_query m) t same h = query_answers old new (a_query m) m t (0, omega arith, refl) same h
same_answers old new (a_union name ms) t same (k, m, l, e, h) =
    (k, m, l, e, query_answers old new (a_union name ms) m t (k, l, e) same h)

same_back : (old new : Database) (q : Listed) → SameRows old new q → SameRows new old q
same_back old new q same r t reads = sym (same r t reads)

same_or : (a b : Bool) → ((a ≢ b) → ⊥) → a ≡ b
same_or true true h = refl
same_or false false h = refl
same_or true false h = absurd (h (λ e. cc))
same_or false true h = absurd (h (λ e. cc))

pub not_affected : (old new : Database) (q : Listed) → (IsAffected old new q → ⊥) → SameRows old new q
not_affected old new q h r t reads = same_or (is_present old r t) (is_present new r t) (λ apart. h (r, t, reads, apart))

-- ---- what cursors have returned

pub record HasReturned (Answer : Tuple → Type 0) (ts : List Tuple) (finished : Bool) : Type 0 where
  pub different : AreDifferent ts
  pub answers : All Answer ts
  pub complete : finished ≡ true → (t : Tuple) → Answer t → Contains ts t

abbrev pub CursorHolds : List Listed → Database → Option CursorState → Type 0
CursorHolds qs db None = Unit {0}
CursorHolds qs db (Some (stale q)) = Unit {0}
CursorHolds qs db (Some (valid q ts finished)) = IsSomeAnd (listed_of qs q) (λ l. HasReturned (AnswersOver db l) ts finished)

pub record IsSoundCore (st : Core) : Type 0 where
  pub names : HaveOwnNames st.queries
  pub cursors : (s : ℕ) (c : Bytes) → CursorHolds st.queries st.db ((st.client s).cursor c)

-- ---- one client becomes another

client_sound : (old : Core) (s : ℕ) (x : Client) → IsSoundCore old
    → ((c : Bytes) → CursorHolds old.queries old.db (x.cursor c)) → IsSoundCore (with_client s x old)
client_sound old s x h holds = record { names = h.names; cursors = λ t c. step t c (t == s) }
  where
    step : (t : ℕ) (c : Bytes) (b : Bool) → CursorHolds old.queries old.db ((cond b x (old.client t)).cursor c)
    step t c true = holds c
    step t c false = h.cursors t c

replies_sound : (old : Core) (s : ℕ) (m : CoreMessage) (x : Client) (sent : Sent) (new : Core)
    → OnlyReplies old s m x sent new → IsSoundCore old → ((c : Bytes) → CursorHolds old.queries old.db (x.cursor c))
    → IsSoundCore new
replies_sound old s m x sent new r h holds = subst IsSoundCore (sym r.1) (client_sound old s x h holds)

-- a cursor is opened, read or closed
cursor_holds : (old : Core) (x : Client) (name : Bytes) (k : Option CursorState)
    → ((c : Bytes) → CursorHolds old.queries old.db (x.cursor c)) → CursorHolds old.queries old.db k
    → (c : Bytes) → CursorHolds old.queries old.db ((client_with_cursor name k x).cursor c)
cursor_holds old x name k others one c = step (bytes_eq c name)
  where
    step : (b : Bool) → CursorHolds old.queries old.db (cond b k (x.cursor c))
    step true = one
    step false = others c

overtaken_holds : (qs : List Listed) (db : Database) (affected : Bytes → Bool) (o : Option CursorState)
    → CursorHolds qs db o → CursorHolds qs db (overtaken affected o)
overtaken_holds qs db affected None h = tt
overtaken_holds qs db affected (Some (stale q)) h = tt
overtaken_holds qs db affected (Some (valid q ts finished)) h = step (affected q)
  where
    step : (b : Bool) → CursorHolds qs db (Some (cond b (stale q) (valid q ts finished)))
    step true = tt
    step false = h

-- ---- a change of the database

module _ (old : Core) (s : ℕ) (db : Database) (sent : Sent) (new : Core) (h : ChangesDatabase old s db sent new) where
  stays_valid : (q : Bytes) (ts : List Tuple) (finished : Bool) → h.affected q ≡ false
      → CursorHolds old.queries old.db (Some (valid q ts finished))
      → CursorHolds old.queries db (Some (valid q ts finished))
  stays_valid q ts finished e k =
      let f = some_there (listed_of old.queries q) (λ l. HasReturned (AnswersOver old.db l) ts finished) k in
      let same : SameRows old.db db f.0 = not_affected old.db db f.0
      (λ a. let yes : h.affected q ≡ true = (h.affected_if q f.0 f.1).1 a in absurd (cc (yes, e))) in
      let was : HasReturned (AnswersOver old.db f.0) ts finished = f.2 in
      and_some (listed_of old.queries q) (λ l. HasReturned (AnswersOver db l) ts finished) f.0 f.1 (record {
        different = was.different;
        answers = All-weaker (AnswersOver old.db f.0) (AnswersOver db f.0)
            (λ t a. same_answers old.db db f.0 t same a) ts was.answers;
        complete = λ ended t a. was.complete ended t
            (same_answers db old.db f.0 t (same_back old.db db f.0 same) a);
      })

  holds_after : (o : Option CursorState) → CursorHolds old.queries old.db o
      → CursorHolds old.queries db (overtaken h.affected o)
  holds_after None k = tt
  holds_after (Some (stale q)) k = tt
  holds_after (Some (valid q ts finished)) k = step (h.affected q) refl
    where
      step : (b : Bool) → h.affected q ≡ b → CursorHolds old.queries db (Some (cond b (stale q) (valid q ts finished)))
      step true e = tt
      step false e = stays_valid q ts finished e k

  pub changes_sound : IsSoundCore old → IsSoundCore new
  changes_sound sound = record {
    names = subst HaveOwnNames (sym h.queries_stay) sound.names;
    cursors = λ t c. subst (λ qs. CursorHolds qs new.db ((new.client t).cursor c)) (sym h.queries_stay)
        (subst (λ (d : Database). CursorHolds old.queries d ((new.client t).cursor c)) (sym h.db_is)
        (by t c (h.clients t)));
  }
    where
      by : (t : ℕ) (c : Bytes) → StaysConnected old h.affected new t (sent t) (only_sent s (ok ∷ []) t)
          ⊎ ((new.client t ≡ nobody) × ((old.client t).connected ≡ false → sent t ≡ []))
          → CursorHolds old.queries db ((new.client t).cursor c)
      by t c (inl g) = subst (λ (x : Client). CursorHolds old.queries db (x.cursor c)) (sym g.becomes)
          (holds_after ((old.client t).cursor c) (sound.cursors t c))
      by t c (inr g) = subst (λ (x : Client). CursorHolds old.queries db (x.cursor c)) (sym g.0) tt

edits_sound : (old : Core) (s : ℕ) (es : List RowEdit) (sent : Sent) (new : Core) → Edits old s es sent new
    → IsSoundCore old → IsSoundCore new
edits_sound old s es sent new h sound =
    let f = some_there (all_edited es old.db) (λ db. ChangesDatabase old s db sent new) h in
    changes_sound old s f.0 sent new f.2 sound

-- ---- other queries are registered

registers_sound : (old : Core) (s : ℕ) (qs : List Listed) (sent : Sent) (new : Core) → SetsQueries old s qs sent new
    → HaveOwnNames qs
    → ((t : ℕ) (c : Bytes) → CursorHolds qs old.db ((old.client t).cursor c)) → IsSoundCore new
registers_sound old s qs sent new r names cursors =
    subst IsSoundCore (sym r.1) (record { names = names; cursors = cursors })

more_holds : (qs : List Listed) (q : Listed) (db : Database) (o : Option CursorState) → CursorHolds qs db o
    → CursorHolds (qs ++ q ∷ []) db o
more_holds qs q db None h = tt
more_holds qs q db (Some (stale n)) h = tt
more_holds qs q db (Some (valid n ts finished)) h =
    let f = some_there (listed_of qs n) (λ l. HasReturned (AnswersOver db l) ts finished) h in
    and_some (listed_of (qs ++ q ∷ []) n) (λ l. HasReturned (AnswersOver db l) ts finished) f.0
    (found_before qs (q ∷ []) n f.0 f.1) f.2

less_holds : (qs : List Listed) (d : Bytes) (db : Database) (x : Client) (c : Bytes) → (UsesQuery d x → ⊥)
    → (o : Option CursorState) → x.cursor c ≡ o → CursorHolds qs db o
    → CursorHolds (filter (λ l. not (bytes_eq (listed_name l) d)) qs) db o
less_holds qs d db x c unused None e h = tt
less_holds qs d db x c unused (Some (stale n)) e h = tt
less_holds qs d db x c unused (Some (valid n ts finished)) e h =
    let f = some_there (listed_of qs n) (λ l. HasReturned (AnswersOver db l) ts finished) h in
    and_some (listed_of (filter (λ l. not (bytes_eq (listed_name l) d)) qs) n)
    (λ l. HasReturned (AnswersOver db l) ts finished) f.0
    (found_less qs d n f.0 (λ same. unused (inl (c, rw e same))) f.1) f.2

-- ---- a page

page_holds : (old : Core) (s : ℕ) (c : Bytes) (count : ℕ) (k : CursorState) (sent : Sent) (new : Core)
    → ReturnsPage old s c count k sent new → IsSoundCore old → CursorHolds old.queries old.db (Some k)
    → IsSoundCore new
page_holds old s c count (stale q) sent new h sound was = absurd h
page_holds old s c count (valid q returned finished) sent new h sound was =
    let f = some_there (listed_of old.queries q) (λ l. HasReturned (AnswersOver old.db l) returned finished) was in
    let g : (ts : List Tuple) × (last : Bool) × IsPage (AnswersOver old.db f.0) returned ts count last
    × OnlyReplies old s (page ts last) (client_with_cursor c (Some (valid q (returned ++ ts) last)) (old.client s)) sent new
    = subst (λ o. IsSomeAnd o (λ l.
    (ts : List Tuple) × (last : Bool) × IsPage (AnswersOver old.db l) returned ts count last
    × OnlyReplies old s (page ts last) (client_with_cursor c (Some (valid q (returned ++ ts) last)) (old.client s)) sent new))
    f.1 h in
    let given : HasReturned (AnswersOver old.db f.0) returned finished = f.2 in
    let paged : IsPage (AnswersOver old.db f.0) returned g.0 count g.1 = g.2 in
    replies_sound old s (page g.0 g.1) (client_with_cursor c (Some (valid q (returned ++ g.0) g.1)) (old.client s)) sent new g.3
    sound
    (cursor_holds old (old.client s) c (Some (valid q (returned ++ g.0) g.1)) (sound.cursors s)
    (and_some (listed_of old.queries q) (λ l. HasReturned (AnswersOver old.db l) (returned ++ g.0) g.1) f.0 f.1 (record {
      different = paged.different;
      answers = All-append (AnswersOver old.db f.0) returned g.0 given.answers paged.answers;
      complete = λ ended. paged.last_is.0 ended;
    })))

-- ---- a step

accepts_sound : (old : Core) (s : ℕ) (c : CoreCommand) (sent : Sent) (new : Core) → Accepts old s c sent new
    → IsSoundCore old → IsSoundCore new
accepts_sound old s (edit e) sent new h sound = by (old.client s).batch h
  where
    by : (o : Option (List RowEdit)) → MatchOption o (Edits old s (e ∷ []) sent new)
        (λ es. OnlyReplies old s ok (record (old.client s) { batch = Some (es ++ e ∷ []) }) sent new) → IsSoundCore new
    by None k = edits_sound old s (e ∷ []) sent new k sound
    by (Some es) k = replies_sound old s ok (record (old.client s) { batch = Some (es ++ e ∷ []) }) sent new k sound
        (sound.cursors s)
accepts_sound old s batch sent new h sound =
    replies_sound old s ok (record (old.client s) { batch = Some [] }) sent new h.1 sound (sound.cursors s)
accepts_sound old s done sent new h sound =
    let f = some_there (old.client s).batch
    (λ es. Edits (with_client s (record (old.client s) { batch = None }) old) s es sent new) h in
    edits_sound (with_client s (record (old.client s) { batch = None }) old) s f.0 sent new f.2
    (client_sound old s (record (old.client s) { batch = None }) sound (sound.cursors s))
accepts_sound old s abandon sent new h sound =
    replies_sound old s ok (record (old.client s) { batch = None }) sent new h.1 sound (sound.cursors s)
accepts_sound old s (register q) sent new h sound =
    registers_sound old s (old.queries ++ q ∷ []) sent new h.2 (own_names_more old.queries q sound.names h.1)
    (λ t c. more_holds old.queries q old.db ((old.client t).cursor c) (sound.cursors t c))
accepts_sound old s (drop q) sent new h sound =
    registers_sound old s (filter (λ l. not (bytes_eq (listed_name l) q)) old.queries) sent new h.1
    (own_names_less old.queries (λ l. not (bytes_eq (listed_name l) q)) sound.names)
    (λ t c. less_holds old.queries q old.db (old.client t) c (h.0 t) ((old.client t).cursor c) refl (sound.cursors t c))
accepts_sound old s (open_cursor c q) sent new h sound =
    replies_sound old s ok (client_with_cursor c (Some (valid q [] false)) (old.client s)) sent new h.2 sound
    (cursor_holds old (old.client s) c (Some (valid q [] false)) (sound.cursors s)
    (by (listed_of old.queries q) h.1))
  where
    by : (o : Option Listed) → IsSome o → IsSomeAnd o (λ l. HasReturned (AnswersOver old.db l) [] false)
    by None k = absurd (cc)
    by (Some l) k = record {
      different = λ i j d lt within. absurd (omega (arith, within));
      answers = All-nil (AnswersOver old.db l);
      complete = λ e. absurd (cc);
    }
accepts_sound old s (next c count) sent new h sound =
    let f = some_there ((old.client s).cursor c) (λ k. ReturnsPage old s c count k sent new) h in
    page_holds old s c count f.0 sent new f.2 sound
    (subst (λ o. CursorHolds old.queries old.db o) f.1 (sound.cursors s c))
accepts_sound old s (close c) sent new h sound =
    replies_sound old s ok (client_with_cursor c None (old.client s)) sent new h.1 sound
    (cursor_holds old (old.client s) c None (sound.cursors s) tt)
accepts_sound old s (has q t) sent new h sound =
    let f = some_there (listed_of old.queries q) (λ l. (holds : Bool) × ((holds ≡ true) ↔ AnswersOver old.db l t)
    × OnlyReplies old s (is_answer holds) (old.client s) sent new) h in
    replies_sound old s (is_answer f.2.0) (old.client s) sent new f.2.2 sound (sound.cursors s)
accepts_sound old s (subscribe q) sent new h sound =
    replies_sound old s ok (with_subscription q true (old.client s)) sent new h.1 sound (sound.cursors s)
accepts_sound old s (unsubscribe q) sent new h sound =
    replies_sound old s ok (with_subscription q false (old.client s)) sent new h.1 sound (sound.cursors s)
accepts_sound old s ask sent new h sound = replies_sound old s replied (old.client s) sent new h sound (sound.cursors s)

-- a refused command leaves the cursors
refused_cursors : (c : CoreCommand) (x : Client) → (client_refused c x).cursor ≡ x.cursor
refused_cursors (edit e) x = refl
refused_cursors batch x = refl
refused_cursors done x = refl
refused_cursors abandon x = refl
refused_cursors (register q) x = refl
refused_cursors (drop q) x = refl
refused_cursors (open_cursor c q) x = refl
refused_cursors (next c n) x = refl
refused_cursors (close c) x = refl
refused_cursors (has q t) x = refl
refused_cursors (subscribe q) x = refl
refused_cursors (unsubscribe q) x = refl
refused_cursors ask x = refl

refuses_sound : (old : Core) (s : ℕ) (c : CoreCommand) (sent : Sent) (new : Core) → RefusesCommand old s c sent new
    → IsSoundCore old → IsSoundCore new
refuses_sound old s c sent new h sound = subst IsSoundCore (sym h.becomes) (record {
  names = sound.names;
  cursors = λ t n. step t n (t == s);
})
  where
    step : (t : ℕ) (n : Bytes) (b : Bool) → CursorHolds old.queries old.db
        (overtaken h.affected ((cond b (client_refused c (old.client s)) (old.client t)).cursor n))
    step t n true = overtaken_holds old.queries old.db h.affected ((client_refused c (old.client s)).cursor n)
        (subst (λ (f : Bytes → Option CursorState). CursorHolds old.queries old.db (f n))
        (sym (refused_cursors c (old.client s))) (sound.cursors s n))
    step t n false = overtaken_holds old.queries old.db h.affected ((old.client t).cursor n) (sound.cursors t n)

pub step_sound : (old : Core) (event : CoreEvent) (sent : Sent) (new : Core) → CoreStep old event sent new
    → IsSoundCore old → IsSoundCore new
step_sound old (connects s) sent new h sound =
    subst IsSoundCore (sym h.2) (client_sound old s (record nobody { connected = true }) sound (λ c. tt))
step_sound old (disconnects s) sent new h sound =
    subst IsSoundCore (sym h.3) (client_sound old s nobody sound (λ c. tt))
step_sound old (says s c) sent new h sound = by h.1
  where
    by : Accepts old s c sent new ⊎ RefusesCommand old s c sent new → IsSoundCore new
    by (inl k) = accepts_sound old s c sent new k sound
    by (inr k) = refuses_sound old s c sent new k sound

-- ---- a run

pub run_sound : (old : Core) (hs : List Happening) → CoreRun old hs → IsSoundCore old → IsSoundCore (state_after old hs)
run_sound old [] r sound = sound
run_sound old (h ∷ hs) r sound = run_sound h.after hs r.1 (step_sound old h.event h.sent h.after r.0 sound)

pub reached_sound : (st : Core) → IsReached st → IsSoundCore st
reached_sound st r = subst IsSoundCore r.is_after (run_sound r.start r.run r.is_run (record {
  names = r.nobody_there.names;
  cursors = λ s c. subst (λ (x : Client). CursorHolds (r.start).queries (r.start).db (x.cursor c))
      (sym (r.nobody_there.clients s)) tt;
}))

pub finished_cursors_listed : FinishedCursorsListed
finished_cursors_listed st r s c q returned e =
    let sound : IsSoundCore st = reached_sound st r in
    let holds : CursorHolds st.queries st.db (Some (valid q returned true)) =
    subst (λ o. CursorHolds st.queries st.db o) e (sound.cursors s c) in
    let f = some_there (listed_of st.queries q) (λ l. HasReturned (AnswersOver st.db l) returned true) holds in
    let was : HasReturned (AnswersOver st.db f.0) returned true = f.2 in
    and_some (listed_of st.queries q) (λ l. IsListing (AnswersOver st.db l) returned) f.0 f.1
    (record { different = was.different; answers = was.answers; complete = was.complete refl })
