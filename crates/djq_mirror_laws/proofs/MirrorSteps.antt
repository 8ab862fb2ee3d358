-- What a session is sent that watches a query, a mirror of the query takes, step by step.
use Rattle.std.specs.Prelude.{ℕ, List, [], ◌∷◌, ◌++◌, ◌==◌, ◌≡◌, ◌≤◌, Bool, true, false, not, cond, length, filter}
use Rattle.std.specs.Prelude.{find, Option, None, Some, is_some, is_none, IsSomeAnd, MatchOption, option_map, nat_le}
use Rattle.std.specs.Prelude.{map, Result, Ok, Err, codes, All, Contains, ⊤}
use Rattle.std.proofs.Common.{refl, sym, ap, ap₂, ◌∙◌, subst, inl, inr, arith, append-nil}
use Rattle.std.proofs.lemmas.Bool.{eqb-true, eq-eqb, and_parts}
use Rattle.std.proofs.lemmas.List.Elements.{All-nil, All-cons, All-head, All-append, All-contains, All-weaker}
use Rattle.djq_model.specs.Data.{Bytes, Tuple, bytes_eq}
use Rattle.djq_model.specs.Equality.{bytes_eq-decides}
use Rattle.djq_model.specs.Answer.{AreDifferent}
use Rattle.djq_model.specs.Listed.{Listed, listed_name, AnswersOf, listed_of}
use Rattle.djq_value.specs.Literal.{IsName}
use Rattle.djq_protocol.specs.declared.limits.TheConstants.{CURSORS}
use Rattle.djq_protocol.specs.declared.answer.EndCause.TheVariants.{Memory}
use Rattle.djq_protocol.specs.declared.answer.Refusal.{Refusal}
use Rattle.djq_protocol.specs.declared.answer.Refusal.TheVariants.{Taken, NoQuery, NoCursor, Limit}
use Rattle.djq_protocol.specs.declared.command.Command.{Command}
use Rattle.djq_protocol.specs.declared.command.Command.TheVariants.{Open, Next, Explain}
use Rattle.djq_protocol.specs.Conditions.{first_refusal, Answers, OutOfMemoryWhere}
use Rattle.djq_protocol.specs.Grammar.{Reading, outside, past_limit, says_command, reading_of}
use Rattle.djq_protocol.specs.Reply.{ok_reply, refusal_line, text_of, listing_lines}
use Rattle.djq_mirror.specs.declared.mode.Mode.TheVariants.{Idle, Listing, Live}
use Rattle.djq_mirror.specs.Replies.{Reply, opened as cursor_opened, answer, more as more_line, last as last_line}
use Rattle.djq_mirror.specs.Replies.{stale as gone_stale, refused, reply_text}
use Rattle.djq_mirror.specs.Mirror.{Held, at_first, keep, turn_of}
use Rattle.djq_store_spec.specs.Store.{Position, open_at, stale}
use Rattle.djq_store_spec.specs.Held.{HeldTransaction}
use Rattle.djq_answer_laws.proofs.Decisions.{answers_are_decided}
use Rattle.djq_answer_laws.proofs.Lists.{some_there, nothing_of}
use Rattle.djq_machine.specs.State.{State, Session, Cursor, session_of, with_session, cursor_of, with_position}
use Rattle.djq_machine.specs.State.{ended_by}
use Rattle.djq_machine.specs.Effect.{Effect, says, RefusedStep}
use Rattle.djq_machine.specs.Watch.{is_watching}
use Rattle.djq_machine.specs.Gives.{Gives, PositionGives, CursorsGive}
use Rattle.djq_machine.specs.Command.{open_refusal, with_cursor, OpensTo, OpenStep, NextStep, NextStepAt, CommandStep}
use Rattle.djq_machine.specs.LineStep.{long, blank, slow, no_room, run, ReadStep, FrontStep, behind_line}
use Rattle.djq_machine.specs.Step.{Event, opened, fed, stepped, took, ended, closed, Acts, Step}
use Rattle.djq_machine.specs.Run.{Did, to_session, out}
use Rattle.djq_machine.specs.Call.{cause_of, cause_in}
use Rattle.djq_run_laws.specs.Sound.{IsSoundState}
use Rattle.djq_run_laws.specs.Watched.{IsWatcher, WatchesAlong, batch_of, event_changes, line_outdater}
use Rattle.djq_run_laws.proofs.RegisteredQueries.{SameAnswers}
use Rattle.djq_run_laws.proofs.Lists.{all_found, found_passes, gaining, session_changed, stepped_cause}
use Rattle.djq_run_laws.proofs.Lists.{stepped as stepped_session}
use Rattle.djq_run_laws.proofs.Forms.{none_holds, none_first, Reads, turned_down, carried_out, line_reads}
use Rattle.djq_run_laws.proofs.Cursors.{step_gives}
use Rattle.djq_run_laws.proofs.SoundStates.{step_sound}
use Rattle.djq_run_laws.proofs.Events.{said}
use Rattle.djq_mirror_laws.specs.Sayable.{IsSayableRow, IsSayableListed, IsSayablePosition, IsSayableCursor}
use Rattle.djq_mirror_laws.specs.Sayable.{IsSayableSession, IsSayableState}
use Rattle.djq_mirror_laws.specs.Told.{replies_text, is_told_of}
use Rattle.djq_mirror_laws.specs.Mirrored.{RepliesPass, HoldsTextsOf, MayBeSaid, MayBeRead, ReadsOnly, ReadsAlong}
use Rattle.djq_mirror_laws.specs.Mirrored.{IsMirrored, WatchersAreMirrored}
use Rattle.djq_mirror_laws.proofs.SessionCursors.{OpenHas, CursorHas, HasFew, Has, ReadsCalm, EventCalm, has_line}
use Rattle.djq_mirror_laws.proofs.SessionCursors.{has_behind, has_step}
use Rattle.djq_mirror_laws.proofs.Deltas.{text_append}
use Rattle.djq_mirror_laws.proofs.MirrorReplies.{passes_then, stays, passes_told, idle_with, delta_idles, shows_same}
use Rattle.djq_mirror_laws.proofs.MirrorReplies.{delta_shown, not_before, Behind, answers_shown, answers_idle}
use Rattle.djq_mirror_laws.proofs.MirrorReplies.{opened_shown, stale_idles, more_stays, last_stays, last_lives}
use Rattle.djq_mirror_laws.proofs.MirrorReplies.{shows_with}
use Rattle.djq_mirror_laws.proofs.StoredNames.{IsFine, one_fine, number_small, answers_fine, answer_sayable}
use Rattle.djq_run_laws.proofs.Forms.{second_fails}
use Rattle.djq_mirror_laws.proofs.Replies.{ExplainsNone, IsHarmless, harmless_form, last_reply, last_fine, behind_fine}
use Rattle.djq_mirror_laws.proofs.Replies.{listing_text, talks}
use Rattle.djq_mirror_laws.proofs.SayableStates.{step_sayable}
use Rattle.djq_mirror_laws.proofs.WatcherRuns.{ExplainsNothing, StepTold, tells_none, tells_delta, reading_talks}
use Rattle.djq_mirror_laws.proofs.WatcherRuns.{event_talks, step_says}

-- ---- what a mirror holds, against the session's cursor

abbrev Any : List Tuple → Bool → Type 0
Any given finished = Unit {0}

abbrev HasGiven : List Tuple → List Tuple → Bool → Type 0
HasGiven given g finished = (g ≡ given) × (finished ≡ false)

abbrev Finished : List Tuple → Bool → Type 0
Finished given finished = finished ≡ true

-- Idle, nothing is said. Listing, it shows what the cursor has given, where it is open still; and
-- live the answers, and the cursor is finished, where it is open.
pub data Mirrors (q : Listed) (s : ℕ) (st : State) (held : Held) : Type 0 where
  is_idle : held.mode ≡ Idle → Has s (listed_name q) Any st → Mirrors q s st held
  is_listing : (given : List Tuple) → held.mode ≡ Listing → HoldsTextsOf held (Contains given)
      → Has s (listed_name q) (HasGiven given) st → Mirrors q s st held
  is_live : held.mode ≡ Live → HoldsTextsOf held (AnswersOf st.store.relations q) → Has s (listed_name q) Finished st
      → Mirrors q s st held

-- A mirror takes these replies, and it is so again.
pub record Goes (q : Listed) (s : ℕ) (new : State) (held : Held) (rs : List Reply) : Type 0 where
  pub behind : Held
  pub passes : RepliesPass (listed_name q) held rs behind
  pub mirrors : Mirrors q s new behind

open_any : (P : List Tuple → Bool → Type 0) (p : Position) → OpenHas P p → OpenHas Any p
open_any P (open_at given finished) h = tt
open_any P (stale relation n) h = tt

has_any : (s : ℕ) (name : Bytes) (P : List Tuple → Bool → Type 0) (st : State) → Has s name P st → Has s name Any st
has_any s name P st h = record {
  session = h.session;
  is = h.is;
  few = (
    h.few.0,
    All-weaker (CursorHas name P) (CursorHas name Any) (λ k c. (c.0, open_any P k.position c.1)) (h.session).cursors
        h.few.1,
  );
}

-- ---- steps in which the session opens and reads no cursor

module _ (q : Listed) (s : ℕ) (old new : State) (held : Held) (rs : List Reply) (changes : Bool)
    (steps : (P : List Tuple → Bool → Type 0) → Has s (listed_name q) P old → Has s (listed_name q) P new)
    (good : (t : Tuple) → AnswersOf old.store.relations q t → IsSayableRow t)
    (fine : (t : Tuple) → AnswersOf new.store.relations q t → IsSayableRow t)
    (harmless : All IsHarmless rs) where
  calm_goes : StepTold q old.store new.store changes (filter (is_told_of (listed_name q)) rs) → Mirrors q s old held
      → Goes q s new held rs
  calm_goes (tells_none none same seq) m = record {
    behind = held;
    passes = passes_told (listed_name q) held held rs harmless
        (subst (λ (ts : List Reply). RepliesPass (listed_name q) held ts held) (sym none) refl);
    mirrors = by m;
  }
    where
      by : Mirrors q s old held → Mirrors q s new held
      by (is_idle e h) = is_idle e (steps Any h)
      by (is_listing given e shows h) = is_listing given e shows (steps (HasGiven given) h)
      by (is_live e shows h) =
          is_live e
          (shows_same held (AnswersOf old.store.relations q) (AnswersOf new.store.relations q) same.there same.back
          shows)
          (steps Finished h)
  calm_goes (tells_delta delta is tells seq counts) (is_idle e h) = record {
    behind = idle_with held;
    passes = passes_told (listed_name q) held (idle_with held) rs harmless
        (subst (λ (ts : List Reply). RepliesPass (listed_name q) held ts (idle_with held)) (sym tells)
        (delta_idles (listed_name q) held delta new.store.seq (inl e)));
    mirrors = is_idle refl (steps Any h);
  }
  calm_goes (tells_delta delta is tells seq counts) (is_listing given e shows h) = record {
    behind = idle_with held;
    passes = passes_told (listed_name q) held (idle_with held) rs harmless
        (subst (λ (ts : List Reply). RepliesPass (listed_name q) held ts (idle_with held)) (sym tells)
        (delta_idles (listed_name q) held delta new.store.seq (inr e)));
    mirrors = is_idle refl (has_any s (listed_name q) (HasGiven given) new (steps (HasGiven given) h));
  }
  calm_goes (tells_delta delta is tells seq counts) (is_live e shows h) =
      let k = delta_shown (AnswersOf old.store.relations q) (AnswersOf new.store.relations q)
      (λ t. answers_are_decided old.store.relations q t) (λ t. answers_are_decided new.store.relations q t) good fine
      delta is (listed_name q) held new.store.seq e shows in record {
        behind = k.behind;
        passes = passes_told (listed_name q) held k.behind rs harmless
            (subst (λ (ts : List Reply). RepliesPass (listed_name q) held ts k.behind) (sym tells) k.passes);
        mirrors = is_live k.mode k.shows (steps Finished h);
      }

-- ---- lines of the session's own that open a cursor or read one

alone_text : (s : ℕ) (text : Bytes) (queued : List (ℕ × Bytes)) → queued ≡ (s, text) ∷ [] → to_session s queued ≡ text
alone_text s text queued e =
    ap (λ qs. to_session s qs) e ∙ ap (λ (b : Bool). cond b text [] ++ []) (eq-eqb s s refl) ∙ append-nil text

-- no cursor is there, where none has the name that all have
none_open : (ks : List Cursor) (c : Bytes) → cursor_of ks c ≡ None → All (λ k. k.name ≡ c) ks → ks ≡ []
none_open [] c e h = refl
none_open (k ∷ ks) c e h =
    let yes = (bytes_eq-decides k.name c).1 (All-head (λ (z : Cursor). z.name ≡ c) k ks h) in
    let found : cursor_of (k ∷ ks) c ≡ Some k = ap (λ (b : Bool). cond b (Some k) (cursor_of ks c)) yes in
    absurd (cc (found, e))

-- the one cursor at another place
one_moved : (name : Bytes) (P Q : List Tuple → Bool → Type 0) (ks : List Cursor) (c : Bytes) (k : Cursor)
    (given : List Tuple)
    (end : Bool) → length ks ≤ 1 → cursor_of ks c ≡ Some k → All (CursorHas name P) ks → Q given end
    → (length (with_position ks c (open_at given end)) ≤ 1)
    × All (CursorHas name Q) (with_position ks c (open_at given end))
one_moved name P Q [] c k given end few found h at = absurd cc
one_moved name P Q (z ∷ []) c k given end few found h at = by (bytes_eq z.name c) refl found
  where
    by : (b : Bool) → bytes_eq z.name c ≡ b → cond b (Some z) None ≡ Some k
        → (length (cond b (record z { position = open_at given end } ∷ []) (z ∷ [])) ≤ 1)
        × All (CursorHas name Q) (cond b (record z { position = open_at given end } ∷ []) (z ∷ []))
    by true e f = (
      omega arith,
      All-cons (CursorHas name Q) (record z { position = open_at given end }) []
          ((All-head (CursorHas name P) z [] h).0, at) (All-nil (CursorHas name Q)),
    )
    by false e f = absurd cc
one_moved name P Q (z ∷ w ∷ ks) c k given end few found h at = absurd (omega (arith, few))

same_some : {A : Type 0} (o : Option A) (x y : A) → o ≡ Some x → o ≡ Some y → x ≡ y
same_some o x y e f = cc

module _ (q : Listed) (s : ℕ) (old : State) (event : Event) (e : Effect) (new : State) (held : Held)
    (step : Step old event e new) (x : Session) (rest : Bytes) (is : session_of old s ≡ Some x)
    (registered : listed_of old.store.queries (listed_name q) ≡ Some q)
    (same : SameAnswers old.store.relations new.store.relations q)
    (good : (t : Tuple) → AnswersOf old.store.relations q t → IsSayableRow t)
    (gives : CursorsGive old) (running : cause_of (step.mid) s ≡ None) (m : Mirrors q s old held) where
  abbrev taken : State
  taken = with_session old s (behind_line rest)

  -- a line that does nothing of it
  still_goes : (r : Reply) → turn_of (listed_name q) held.mode r ≡ Some (held.mode, keep)
      → ((P : List Tuple → Bool → Type 0) → Has s (listed_name q) P old → Has s (listed_name q) P new)
      → Goes q s new held (r ∷ [])
  still_goes r turn steps = record { behind = held; passes = stays (listed_name q) held r turn; mirrors = by m }
    where
      by : Mirrors q s old held → Mirrors q s new held
      by (is_idle k h) = is_idle k (steps Any h)
      by (is_listing given k shows h) = is_listing given k shows (steps (HasGiven given) h)
      by (is_live k shows h) =
          is_live k
          (shows_same held (AnswersOf old.store.relations q) (AnswersOf new.store.relations q) same.there same.back
          shows)
          (steps Finished h)

  -- what a line leaves that only takes it
  from_taken : step.mid ≡ taken → (P : List Tuple → Bool → Type 0) → Has s (listed_name q) P old
      → Has s (listed_name q) P new
  from_taken after P h =
      has_behind s (listed_name q) P old event e new step
      (subst (λ (st : State). Has s (listed_name q) P st) (sym after) (has_line s (listed_name q) P old s rest h))

  refused_goes : (r : Refusal) → RefusedStep taken s r e step.mid
      → (to_session s e.queued ≡ replies_text (refused r ∷ [])) × Goes q s new held (refused r ∷ [])
  refused_goes r h = (
    said s (refusal_line r) e h.0 ∙ sym (append-nil (refusal_line r)),
    still_goes (refused r) (harmless_form (refused r) refl (listed_name q) held.mode refl) (from_taken h.1),
  )

  abbrev pub Says : Type 0
  Says = (rs : List Reply) × (to_session s e.queued ≡ replies_text rs) × Goes q s new held rs × All IsFine rs

  -- `open`
  taken_is : session_of taken s ≡ Some (behind_line rest x)
  taken_is = session_changed old s (behind_line rest) (λ y. refl) ∙ ap (λ o. option_map (behind_line rest) o) is

  open_goes : (c p : Bytes) → p ≡ listed_name q → All (λ k. k.name ≡ c) x.cursors
      → OpenStep taken s (behind_line rest x) c p e step.mid → Says
  open_goes c p over names h = by h.result refl
    where
      by : (r : Result ⊤ Refusal) → h.result ≡ r → Says
      by (Err r) k =
          let text : e ≡ says s (refusal_line r) = h.effect
          ∙ ap (λ (z : Result ⊤ Refusal). says s (ok_reply (codes "ok open") z)) k in
          let state : OpensTo taken s c p step.mid (Err r) = subst
          (λ (z : Result ⊤ Refusal). OpensTo taken s c p step.mid z) k h.state in
          let g = refused_goes r (text, state) in (refused r ∷ [], g.0, g.1, one_fine (refused r) (tt, tt))
      by (Ok u) k =
          let text : e ≡ says s (reply_text cursor_opened) = h.effect
          ∙ ap (λ (z : Result ⊤ Refusal). says s (ok_reply (codes "ok open") z)) k in
          let state : OpensTo taken s c p step.mid (Ok u) = subst
          (λ (z : Result ⊤ Refusal). OpensTo taken s c p step.mid z) k h.state in
          let answered = subst (λ (z : Result ⊤ Refusal). Answers (open_refusal taken.store x.cursors c p) z (λ _. ⊤)
          (OutOfMemoryWhere ⊤)) k h.answer in
          let none = none_holds (open_refusal taken.store x.cursors c p) u (λ _. ⊤) (OutOfMemoryWhere ⊤) answered in
          let last = first_refusal ((nat_le CURSORS (length x.cursors), Limit) ∷ []) in
          let absent = nothing_of (cursor_of x.cursors c)
          (none_first (is_some (cursor_of x.cursors c)) Taken
          (cond (is_none (listed_of taken.store.queries p)) (Some NoQuery) last) none) in
          let empty = none_open x.cursors c absent names in
          let more : Cursor = record { name = c; query = p; position = open_at [] false } in
          let has : Has s (listed_name q) (HasGiven []) step.mid = record {
            session = with_cursor c p (behind_line rest x);
            is = ap (λ st. session_of st s) state ∙ session_changed taken s (with_cursor c p) (λ y. refl)
                ∙ ap (λ o. option_map (with_cursor c p) o) taken_is;
            few = subst (λ (ks : List Cursor). (length (ks ++ more ∷ []) ≤ 1)
                × All (CursorHas (listed_name q) (HasGiven [])) (ks ++ more ∷ []))
                (sym empty) (
                  omega arith,
                  All-cons (CursorHas (listed_name q) (HasGiven [])) more [] (over, (refl, refl))
                      (All-nil (CursorHas (listed_name q) (HasGiven []))),
                );
          } in
          let k2 = opened_shown (listed_name q) held in (
            cursor_opened ∷ [],
            said s (reply_text cursor_opened) e text ∙ sym (append-nil (reply_text cursor_opened)),
            record {
              behind = k2.behind;
              passes = k2.passes;
              mirrors = is_listing [] k2.is k2.shows
                  (has_behind s (listed_name q) (HasGiven []) old event e new step has);
            },
            one_fine cursor_opened (tt, tt),
          )

  -- `next`
  stale_goes : (c relation : Bytes) (n : ℕ) → IsFine (gone_stale c relation n)
      → e ≡ says s (reply_text (gone_stale c relation n)) → step.mid ≡ taken → Says
  stale_goes c relation n fine text after = (
    gone_stale c relation n ∷ [],
    said s (reply_text (gone_stale c relation n)) e text ∙ sym (append-nil (reply_text (gone_stale c relation n))),
    record {
      behind = idle_with held;
      passes = stale_idles (listed_name q) held c relation n;
      mirrors = is_idle refl (from_taken after Any (any_of m));
    },
    one_fine (gone_stale c relation n) fine,
  )
    where
      any_of : Mirrors q s old held → Has s (listed_name q) Any old
      any_of (is_idle k h) = h
      any_of (is_listing given k shows h) = has_any s (listed_name q) (HasGiven given) old h
      any_of (is_live k shows h) = has_any s (listed_name q) Finished old h

  -- the cursor is read
  module _ (c : Bytes) (k : Cursor) (count : ℕ) (given : List Tuple) (finished : Bool)
      (found : cursor_of x.cursors c ≡ Some k)
      (stands : k.position ≡ open_at given finished) (h : NextStep taken s c q given count e step.mid) where
    moved : (P Q : List Tuple → Bool → Type 0) → Has s (listed_name q) P old → Q (given ++ h.told) h.end
        → Has s (listed_name q) Q new
    moved P Q l at =
        let one : l.session ≡ x = same_some (session_of old s) l.session x l.is is in
        let few : HasFew (listed_name q) P x = subst (λ (y : Session). HasFew (listed_name q) P y) one l.few in
        let f = λ (y : Session). record y { cursors = with_position y.cursors c (open_at (given ++ h.told) h.end) } in
        has_behind s (listed_name q) Q old event e new step (record {
          session = f (behind_line rest x);
          is = ap (λ st. session_of st s) h.state ∙ session_changed taken s f (λ y. refl)
              ∙ ap (λ o. option_map f o) taken_is;
          few = one_moved (listed_name q) P Q x.cursors c k (given ++ h.told) h.end few.0 found few.1 at;
        })

    held_by : (P : List Tuple → Bool → Type 0) → Has s (listed_name q) P old → P given finished
    held_by P l =
        let one : l.session ≡ x = same_some (session_of old s) l.session x l.is is in
        let few : HasFew (listed_name q) P x = subst (λ (y : Session). HasFew (listed_name q) P y) one l.few in
        let has = all_found (CursorHas (listed_name q) P) (λ (z : Cursor). bytes_eq z.name c) x.cursors k few.1 found in
        subst (λ (z : Position). OpenHas P z) stands has.1

    gave : k.query ≡ listed_name q → Gives (AnswersOf old.store.relations q) given finished
    gave over =
        let session = all_found
        (λ (y : Session). All
        (λ (z : Cursor). PositionGives old.store.relations (listed_of old.store.queries z.query) z.position)
        y.cursors)
        (λ (y : Session). y.id == s) old.sessions x gives is in
        let cursor = all_found
        (λ (z : Cursor). PositionGives old.store.relations (listed_of old.store.queries z.query) z.position)
        (λ (z : Cursor). bytes_eq z.name c) x.cursors k session found in
        let q_is : listed_of old.store.queries k.query ≡ Some q = ap (λ n. listed_of old.store.queries n) over
        ∙ registered in
        subst (λ (z : Position). PositionGives old.store.relations (Some q) z) stands
        (subst (λ (o : Option Listed). PositionGives old.store.relations o k.position) q_is cursor)

    answers_text : to_session s e.queued ≡ replies_text (map (λ t. answer t) h.told ++ last_reply h.end ∷ [])
    answers_text =
        alone_text s (text_of (listing_lines h.told h.end)) e.queued (ap (λ (z : Effect). z.queued) h.effect)
        ∙ listing_text h.told h.end

    all_good : (ts : List Tuple) → All (AnswersOf old.store.relations q) ts → All IsSayableRow ts
    all_good ts a = All-weaker (AnswersOf old.store.relations q) IsSayableRow good ts a

    read_goes : k.query ≡ listed_name q
        → ((ts : List Tuple) → All (AnswersOf old.store.relations q) ts → All IsFine (map (λ t. answer t) ts)) → Says
    read_goes over fine = (
      map (λ t. answer t) h.told ++ last_reply h.end ∷ [],
      answers_text,
      by m h.end refl,
      behind_fine h.told (last_reply h.end) (fine h.told h.tells.answers) (last_fine h.end),
    )
      where
        name : Bytes
        name = listed_name q

        told : List Reply
        told = map (λ t. answer t) h.told

        idle_then : held.mode ≡ Idle → (end : Bool) → RepliesPass name held (told ++ last_reply end ∷ []) held
        idle_then mode true = passes_then name held held held told (last_line ∷ []) (answers_idle name held h.told mode)
            (last_stays name held (inl mode))
        idle_then mode false = passes_then name held held held told (more_line ∷ [])
            (answers_idle name held h.told mode) (more_stays name held (inl mode))

        by : Mirrors q s old held → (end : Bool) → h.end ≡ end → Goes q s new held (told ++ last_reply h.end ∷ [])
        by (is_idle mode l) end is_end = record {
          behind = held;
          passes = idle_then mode h.end;
          mirrors = is_idle mode (moved Any Any l tt);
        }
        by (is_listing shown mode shows l) end is_end =
            let has = held_by (HasGiven shown) l in
            let g = gave over in
            let shows' : HoldsTextsOf held (Contains given) =
            subst (λ (ts : List Tuple). HoldsTextsOf held (Contains ts)) (sym has.0)
            shows in
            let k2 = answers_shown name held given h.told mode (all_good given g.answers)
            (all_good h.told h.tells.answers) h.tells.different shows' in
            subst (λ (z : Bool). Goes q s new held (told ++ last_reply z ∷ [])) (sym is_end) (last end is_end k2)
          where
            last : (end : Bool) → h.end ≡ end → Behind name held told Listing (Contains (given ++ h.told))
                → Goes q s new held (told ++ last_reply end ∷ [])
            last false e2 k2 = record {
              behind = k2.behind;
              passes = passes_then name held k2.behind k2.behind told (more_line ∷ []) k2.passes
                  (more_stays name k2.behind (inr k2.is));
              mirrors = is_listing (given ++ h.told) k2.is k2.shows
                  (moved (HasGiven shown) (HasGiven (given ++ h.told)) l (refl, e2));
            }
            last true e2 k2 =
                let next : Held = record { mode = Live; texts = (k2.behind).texts } in
                let g = gave over in
                let all : All (AnswersOf old.store.relations q) (given ++ h.told) = All-append
                (AnswersOf old.store.relations q) given h.told g.answers h.tells.answers in record {
                  behind = next;
                  passes = passes_then name held k2.behind next told (last_line ∷ []) k2.passes
                      (last_lives name k2.behind k2.is);
                  mirrors = is_live refl
                      (shows_with k2.behind Live (AnswersOf new.store.relations q)
                      (shows_same k2.behind (Contains (given ++ h.told)) (AnswersOf new.store.relations q)
                      (λ t z. same.there t (All-contains (AnswersOf old.store.relations q) (given ++ h.told) t all z))
                      (λ t a. h.tells.none_left e2 t (same.back t a)) k2.shows))
                      (moved (HasGiven shown) Finished l e2);
                }
        by (is_live mode shows l) end is_end =
            let done = held_by Finished l in
            let g = gave over in
            let complete = (g.listing done).complete in
            nothing_more h.told refl complete end is_end
          where
            nothing_more : (ts : List Tuple) → h.told ≡ ts
                → ((t : Tuple) → AnswersOf old.store.relations q t → Contains given t) → (end : Bool) → h.end ≡ end
                → Goes q s new held (told ++ last_reply h.end ∷ [])
            nothing_more (t ∷ ts) some complete end e2 =
                let there = All-head (AnswersOf old.store.relations q) t ts
                (subst (λ (us : List Tuple). All (AnswersOf old.store.relations q) us) some h.tells.answers) in
                absurd (not_before given t ts
                (subst (λ (us : List Tuple). AreDifferent (given ++ us)) some h.tells.different) (complete t there))
            nothing_more [] none complete false e2 =
                let left = h.tells.some_left e2 in
                absurd (left.1.1 (subst (λ (us : List Tuple). Contains (given ++ us) left.0) (sym none)
                (subst (λ (us : List Tuple). Contains us left.0) (sym (append-nil given)) (complete left.0 left.1.0))))
            nothing_more [] none complete true e2 =
                subst (λ (us : List Tuple). Goes q s new held (map (λ t. answer t) us ++ last_reply h.end ∷ []))
                (sym none)
                (subst (λ (z : Bool). Goes q s new held (last_reply z ∷ [])) (sym e2) (record {
                  behind = held;
                  passes = last_stays name held (inr mode);
                  mirrors = is_live mode
                      (shows_same held (AnswersOf old.store.relations q) (AnswersOf new.store.relations q) same.there
                      same.back shows)
                      (moved Finished Finished l e2);
                }))

-- ---- one step

no_query : (p q : Listed) (o : Option Listed) → o ≡ Some p → o ≡ Some q → p ≡ q
no_query p q o e f = cc

-- a session that closes is gone
find_gone : (s t : ℕ) → t ≡ s → (xs : List Session)
    → find (λ (x : Session). x.id == s) (filter (λ (x : Session). not (x.id == t)) xs) ≡ None
find_gone s t same [] = refl
find_gone s t same (x ∷ xs) = by (x.id == t) refl (find_gone s t same xs)
  where
    by : (b : Bool) → (x.id == t) ≡ b → find (λ (y : Session). y.id == s) (filter (λ (y : Session). not (y.id == t)) xs)
        ≡ None
        → find (λ (y : Session). y.id == s)
        (cond (not b) (x ∷ filter (λ (y : Session). not (y.id == t)) xs)
        (filter (λ (y : Session). not (y.id == t)) xs)) ≡ None
    by true e h = h
    by false e h =
        let no : (x.id == s) ≡ false = ap (λ i. x.id == i) (sym same) ∙ e in
        ap (λ (b : Bool). cond b (Some x)
        (find (λ (y : Session). y.id == s) (filter (λ (y : Session). not (y.id == t)) xs))) no ∙ h

calm_command : (s : ℕ) (name : Bytes) (P : List Tuple → Bool → Type 0) (c : Command) → talks c ≡ false
    → ReadsCalm s name P (says_command c)
calm_command s name P (Open c q) e = absurd cc
calm_command s name P (Next c count) e = absurd cc
calm_command s name P c e = tt

calm_reading : (s : ℕ) (name : Bytes) (P : List Tuple → Bool → Type 0) (r : Reading) → reading_talks r ≡ false
    → ReadsCalm s name P r
calm_reading s name P (says_command c) e = calm_command s name P c e
calm_reading s name P outside e = tt
calm_reading s name P (past_limit c) e = tt

calm_event : (s : ℕ) (name : Bytes) (P : List Tuple → Bool → Type 0) (event : Event) → event_talks s event ≡ false
    → ((t : ℕ) → (bytes : Bytes) → event ≡ closed t bytes → (t == s) ≡ false) → EventCalm s name P event
calm_event s name P (opened t) e apart = tt
calm_event s name P (fed t bytes) e apart = tt
calm_event s name P (stepped t long) e apart = tt
calm_event s name P (stepped t (blank l)) e apart = tt
calm_event s name P (stepped t (slow l)) e apart = tt
calm_event s name P (stepped t (no_room l)) e apart = tt
calm_event s name P (stepped t (run l)) e apart =
    λ same. calm_reading s name P (reading_of l) (second_fails (t == s) (reading_talks (reading_of l)) same e)
calm_event s name P (took t bytes) e apart = tt
calm_event s name P (ended t) e apart = tt
calm_event s name P (closed t bytes) e apart = apart t bytes refl

calm_explains : (s : ℕ) (event : Event) → event_talks s event ≡ false → ExplainsNothing s event
calm_explains s (stepped t (run l)) e = λ same. of (reading_of l)
    (second_fails (t == s) (reading_talks (reading_of l)) same e)
  where
    of_command : (c : Command) → talks c ≡ false → ExplainsNone (says_command c)
    of_command (Explain q) k = absurd cc
    of_command c k = tt

    of : (r : Reading) → reading_talks r ≡ false → ExplainsNone r
    of (says_command c) k = of_command c k
    of outside k = tt
    of (past_limit c) k = tt
calm_explains s event e = tt

module _ (q : Listed) (s : ℕ) (old : State) (event : Event) (e : Effect) (new : State) (held : Held)
    (sound : IsSoundState old)
    (sayable : IsSayableState old) (gives : CursorsGive old) (step : Step old event e new) (before : IsWatcher q s old)
    (behind : IsWatcher q s new) (m : Mirrors q s old held) where
  fine_in : (st : State) → IsSayableState st → IsWatcher q s st → (t : Tuple) → AnswersOf st.store.relations q t
      → IsSayableRow t
  fine_in st fine w t a =
      answer_sayable st.store.relations fine.store.relations q
      (all_found IsSayableListed (λ (p : Listed). bytes_eq (listed_name p) (listed_name q)) st.store.queries q
      fine.store.queries
      w.registered) t a

  g : (y : Session) × (session_of new s ≡ Some y) × ((y.cause ≡ None) × (is_watching (listed_name q) y ≡ true))
  g = some_there (session_of new s) (λ y. (y.cause ≡ None) × (is_watching (listed_name q) y ≡ true)) behind.watches

  running : cause_of (step.mid) s ≡ None
  running = sym (stepped_cause old event e new step s) ∙ ap cause_in g.1 ∙ g.2.0

  open_mid : session_of (step.mid) s ≡ None → ⊥
  open_mid none =
      let now = stepped_session old event e new step s
      ∙ ap (λ o. option_map (gaining (to_session s e.queued)) o) none in
      let both : Some g.0 ≡ None = sym g.1 ∙ now in
      absurd (cc both)

  apart : (t : ℕ) (bytes : Bytes) → event ≡ closed t bytes → (t == s) ≡ false
  apart t bytes is = by (t == s) refl
    where
      acts : Acts old (closed t bytes) e (step.mid)
      acts = subst (λ (v : Event). Acts old v e (step.mid)) is step.acts

      by : (b : Bool) → (t == s) ≡ b → b ≡ false
      by true k =
          absurd (open_mid (ap (λ st. session_of st s) acts.2 ∙ find_gone s t (eqb-true t s k) old.sessions))
      by false k = refl

  abbrev pub Answered : Type 0
  Answered = (rs : List Reply) × (to_session s e.queued ≡ replies_text rs) × Goes q s new held rs × All IsFine rs

  -- where no line of the session opens or reads a cursor
  calm_step : event_talks s event ≡ false → Answered
  calm_step calm =
      let k = step_says q s old event e new sound step before behind in (
        k.replies,
        k.text,
        calm_goes q s old new held k.replies (event_changes q old event)
            (λ P h. has_step s (listed_name q) P old event e new (calm_event s (listed_name q) P event calm apart) step
            h)
            (fine_in old sayable before) (fine_in new (step_sayable old event e new step sayable) behind)
            (k.harmless calm) k.told m,
        k.fine (record { sound = sound; fine = sayable; no_tree = calm_explains s event calm }),
      )

-- ---- a line of the session's own

module _ (q : Listed) (s : ℕ) (old : State) (e : Effect) (new : State) (held : Held) (sound : IsSoundState old)
    (sayable : IsSayableState old) (gives : CursorsGive old) (before : IsWatcher q s old) (behind : IsWatcher q s new)
    (m : Mirrors q s old held) where
  abbrev pub Says' : Type 0
  Says' = (rs : List Reply) × (to_session s e.queued ≡ replies_text rs) × Goes q s new held rs × All IsFine rs

  quiet_same : (l : Bytes) (step : Step old (stepped s (run l)) e new) → event_changes q old (stepped s (run l)) ≡ false
      → SameAnswers old.store.relations new.store.relations q
  quiet_same l step none = by (step_says q s old (stepped s (run l)) e new sound step before behind).told
    where
      by : {rs : List Reply} → StepTold q old.store new.store (event_changes q old (stepped s (run l))) rs
          → SameAnswers old.store.relations new.store.relations q
      by (tells_none f same seq) = same
      by (tells_delta delta is tells seq counts) = absurd (cc (none, counts))

  module _ (l : Bytes) (step : Step old (stepped s (run l)) e new) (x : Session) (is : session_of old s ≡ Some x)
      (rest : Bytes) (same : SameAnswers old.store.relations new.store.relations q) where
    good : (t : Tuple) → AnswersOf old.store.relations q t → IsSayableRow t
    good t a = fine_in q s old (stepped s (run l)) e new held sound sayable gives step before behind m old sayable
        before t a

    runs : cause_of (step.mid) s ≡ None
    runs = running q s old (stepped s (run l)) e new held sound sayable gives step before behind m

    abbrev now : State
    now = with_session old s (behind_line rest)

    refuses : (r : Refusal) → RefusedStep now s r e (step.mid) → Says'
    refuses r h =
        let k = refused_goes q s old (stepped s (run l)) e new held step x rest is before.registered same good gives
        runs m r h in
        (refused r ∷ [], k.0, k.1, one_fine (refused r) (tt, tt))

    over_name : (c : Bytes) (k : Cursor) → cursor_of x.cursors c ≡ Some k → k.query ≡ listed_name q
    over_name c k found = by m
      where
        of : (P : List Tuple → Bool → Type 0) → Has s (listed_name q) P old → k.query ≡ listed_name q
        of P h =
            let one : h.session ≡ x = same_some (session_of old s) h.session x h.is is in
            let few : HasFew (listed_name q) P x = subst (λ (y : Session). HasFew (listed_name q) P y) one h.few in
            (all_found (CursorHas (listed_name q) P) (λ (z : Cursor). bytes_eq z.name c) x.cursors k few.1 found).0

        by : Mirrors q s old held → k.query ≡ listed_name q
        by (is_idle mode h) = of Any h
        by (is_listing given mode shows h) = of (HasGiven given) h
        by (is_live mode shows h) = of Finished h

    next_at : (c : Bytes) (k : Cursor) (count : ℕ) (p : Position) → cursor_of x.cursors c ≡ Some k → k.position ≡ p
        → NextStepAt now s c q count p e (step.mid) → Says'
    next_at c k count (stale relation n) found stands h =
        let session = all_found IsSayableSession (λ (y : Session). y.id == s) old.sessions x sayable.sessions is in
        let cursor = all_found IsSayableCursor (λ (z : Cursor). bytes_eq z.name c) x.cursors k session.cursors found in
        let named = subst IsSayablePosition stands cursor.position in
        let called = (bytes_eq-decides k.name c).0 (found_passes (λ (z : Cursor). bytes_eq z.name c) x.cursors k found)
        in
        stale_goes q s old (stepped s (run l)) e new held step x rest is before.registered same good gives runs m c
        relation n
        ((subst IsName called cursor.name, named.0, number_small n named.1), tt) h.0 h.1
    next_at c k count (open_at given finished) found stands (inl h) =
        read_goes q s old (stepped s (run l)) e new held step x rest is before.registered same good gives runs m c k
        count given
        finished found stands h (over_name c k found)
        (λ ts a. answers_fine old.store.relations sayable.store.relations q
        (all_found IsSayableListed (λ (p : Listed). bytes_eq (listed_name p) (listed_name q)) old.store.queries q
        sayable.store.queries before.registered) ts a)
    next_at c k count (open_at given finished) found stands (inr h) =
        let there = taken_is q s old (stepped s (run l)) e new held step x rest is before.registered same good gives
        runs m in
        let over : cause_of (step.mid) s ≡ Some Memory =
        ap (λ st. cause_of st s) h.state ∙ ap cause_in (session_changed now s (ended_by Memory) (λ y. refl))
        ∙ ap (λ o. cause_in (option_map (ended_by Memory) o)) there in
        let both : Some Memory ≡ None = sym over ∙ runs in
        absurd (cc both)

    next_goes : (c : Bytes) (count : ℕ) (o : Option Cursor) → cursor_of x.cursors c ≡ o
        → MatchOption o (RefusedStep now s NoCursor e (step.mid))
        (λ k. IsSomeAnd (listed_of old.store.queries k.query) (λ p. NextStepAt now s c p count k.position e (step.mid)))
        → Says'
    next_goes c count None found h = refuses NoCursor h
    next_goes c count (Some k) found h =
        let f = some_there (listed_of old.store.queries k.query)
        (λ p. NextStepAt now s c p count k.position e (step.mid))
        h in
        let registered : listed_of old.store.queries k.query ≡ Some q =
        ap (λ n. listed_of old.store.queries n) (over_name c k found) ∙ before.registered in
        let one = no_query f.0 q (listed_of old.store.queries k.query) f.1 registered in
        next_at c k count k.position found refl
        (subst (λ (p : Listed). NextStepAt now s c p count k.position e (step.mid)) one f.2)

  -- a line that opens or reads a cursor changes no rows
  talk_changes : (batch : Option HeldTransaction) (c : Command) → talks c ≡ true
      → is_some (line_outdater old.store batch (says_command c) q) ≡ false
  talk_changes batch (Open c p) k = refl
  talk_changes batch (Next c count) k = refl
  talk_changes batch (Explain p) k = refl
  talk_changes batch c k = absurd cc

  command_talks : (l : Bytes) (step : Step old (stepped s (run l)) e new) (x : Session) (is : session_of old s ≡ Some x)
      (rest : Bytes) (same : SameAnswers old.store.relations new.store.relations q) (c : Command) → talks c ≡ true
      → MayBeSaid (listed_name q) x c
      → CommandStep (with_session old s (behind_line rest)) s (behind_line rest x) l c e (step.mid) → Says'
  command_talks l step x is rest same (Open c p) k may h =
      open_goes q s old (stepped s (run l)) e new held step x rest is before.registered same
      (good l step x is rest same) gives (runs l step x is rest same) m c p may.0 may.1 h
  command_talks l step x is rest same (Next c count) k may h =
      next_goes l step x is rest same c count (cursor_of x.cursors c) refl h
  command_talks l step x is rest same (Explain p) k may h = absurd may
  command_talks l step x is rest same c k may h = absurd cc

  reading_goes : (l : Bytes) (step : Step old (stepped s (run l)) e new) (x : Session) (is : session_of old s ≡ Some x)
      (rest : Bytes) (r : Reading) → reading_of l ≡ r → reading_talks r ≡ true → MayBeRead (listed_name q) x r
      → ReadStep (with_session old s (behind_line rest)) s (behind_line rest x) l r e (step.mid) → Says'
  reading_goes l step x is rest outside read k may h = absurd cc
  reading_goes l step x is rest (past_limit c) read k may h = absurd cc
  reading_goes l step x is rest (says_command c) read k may h =
      by (line_reads (with_session old s (behind_line rest)) s (behind_line rest x) l (says_command c) e (step.mid) h)
    where
      same : SameAnswers old.store.relations new.store.relations q
      same =
          quiet_same l step
          (ap (λ (r : Reading). is_some (line_outdater old.store (batch_of old s) r q)) read
          ∙ talk_changes (batch_of old s) c k)

      by : Reads (with_session old s (behind_line rest)) s (behind_line rest x) l (says_command c) e (step.mid) → Says'
      by (turned_down why because d) = refuses l step x is rest same why d
      by (carried_out d says h) =
          let one : c ≡ d = cc in
          command_talks l step x is rest same c k may
          (subst (λ (w : Command). CommandStep (with_session old s (behind_line rest)) s (behind_line rest x) l w e
          (step.mid))
          (sym one) h)

  run_goes : (l : Bytes) (step : Step old (stepped s (run l)) e new) → reading_talks (reading_of l) ≡ true
      → IsSomeAnd (session_of old s) (λ x. MayBeRead (listed_name q) x (reading_of l)) → Says'
  run_goes l step k may =
      let f = some_there (session_of old s) (λ x. (x.cause ≡ None) × FrontStep old s x (run l) e (step.mid))
      step.acts in
      let p = some_there (session_of old s) (λ x. MayBeRead (listed_name q) x (reading_of l)) may in
      let one = same_some (session_of old s) p.0 f.0 p.1 f.1 in
      reading_goes l step f.0 f.1 f.2.1.2.rest (reading_of l) refl k
      (subst (λ (y : Session). MayBeRead (listed_name q) y (reading_of l)) one p.2) f.2.1.2.then

  pub step_goes : (event : Event) → Step old event e new → ReadsOnly (listed_name q) s old event → Says'
  step_goes event step may = by (event_talks s event) refl
    where
      talking : (v : Event) → Step old v e new → ReadsOnly (listed_name q) s old v → event_talks s v ≡ true → Says'
      talking (stepped t (run l)) st reads k =
          let both = and_parts (t == s) (reading_talks (reading_of l)) k in
          let same = eqb-true t s both.0 in
          run_goes l (subst (λ i. Step old (stepped i (run l)) e new) same st) both.1 (reads both.0)
      talking (stepped t long) st reads k = absurd cc
      talking (stepped t (blank l)) st reads k = absurd cc
      talking (stepped t (slow l)) st reads k = absurd cc
      talking (stepped t (no_room l)) st reads k = absurd cc
      talking (opened t) st reads k = absurd cc
      talking (fed t bytes) st reads k = absurd cc
      talking (took t bytes) st reads k = absurd cc
      talking (ended t) st reads k = absurd cc
      talking (closed t bytes) st reads k = absurd cc

      by : (b : Bool) → event_talks s event ≡ b → Says'
      by true k = talking event step may k
      by false k = calm_step q s old event e new held sound sayable gives step before behind m k

-- ---- runs

record MirrorsAlong (q : Listed) (s : ℕ) (done : List Did) (new : State) (held : Held) : Type 0 where
  replies : List Reply
  whole : out s done ≡ replies_text replies
  goes : Goes q s new held replies
  fine : All IsFine replies

mirrors_along : (q : Listed) (s : ℕ) (old : State) → IsSoundState old → IsSayableState old → CursorsGive old
    → (done : List Did) (new : State) (walk : WatchesAlong q s old done new) → ReadsAlong q s old done new walk
    → (held : Held) → Mirrors q s old held → MirrorsAlong q s done new held
mirrors_along q s old sound fine gives [] new walk reads held m = record {
  replies = [];
  whole = refl;
  goes = record { behind = held; passes = refl; mirrors = subst (λ (st : State). Mirrors q s st held) (sym walk) m };
  fine = All-nil IsFine;
}
mirrors_along q s old sound fine gives (d ∷ done) new walk reads held m =
    let h = walk.1 in
    let mid = walk.0 in
    let one = step_goes q s old d.effect mid held sound fine gives h.before h.behind m d.event h.step reads.0 in
    let more = mirrors_along q s mid (step_sound old d.event d.effect mid h.step sound)
    (step_sayable old d.event d.effect mid h.step fine) (step_gives old d.event d.effect mid h.step gives) done new
    walk.2 reads.1
    one.2.behind one.2.mirrors in record {
      replies = one.0 ++ more.replies;
      whole = ap₂ (λ (xs ys : Bytes). xs ++ ys) one.1 more.whole ∙ sym (text_append one.0 more.replies);
      goes = record {
        behind = more.goes.behind;
        passes = passes_then (listed_name q) held one.2.behind more.goes.behind one.0 more.replies one.2.passes
            more.goes.passes;
        mirrors = more.goes.mirrors;
      };
      fine = All-append IsFine one.0 more.replies one.3 more.fine;
    }

shown_live : (q : Listed) (s : ℕ) (st : State) (held : Held) → Mirrors q s st held → held.mode ≡ Live
    → HoldsTextsOf held (AnswersOf st.store.relations q)
shown_live q s st held (is_live mode shows h) e = shows
shown_live q s st held (is_idle mode h) e = let both : Idle ≡ Live = sym mode ∙ e in absurd (cc both)
shown_live q s st held (is_listing given mode shows h) e = let both : Listing ≡ Live = sym mode ∙ e in absurd (cc both)

-- It is mirrored, and each of the replies is printed.
pub record IsWell (q : Listed) (s : ℕ) (done : List Did) (at : State) : Type 0 where
  pub mirrored : IsMirrored q s done at
  pub fine : All IsFine mirrored.replies

pub watchers_are_well : (q : Listed) (s : ℕ) (old : State) → IsSoundState old → IsSayableState old
    → CursorsGive old → IsSomeAnd (session_of old s) (λ x. x.cursors ≡ []) → (done : List Did)
    (new : State) (walk : WatchesAlong q s old done new) → ReadsAlong q s old done new walk → IsWell q s done new
watchers_are_well q s old sound fine gives none done new walk reads =
    let f = some_there (session_of old s) (λ x. x.cursors ≡ []) none in
    let begun : Mirrors q s old at_first = is_idle refl (record {
      session = f.0;
      is = f.1;
      few = subst (λ (ks : List Cursor). (length ks ≤ 1) × All (CursorHas (listed_name q) Any) ks) (sym f.2)
          (omega arith, All-nil (CursorHas (listed_name q) Any));
    }) in
    let k = mirrors_along q s old sound fine gives done new walk reads at_first begun in record {
      mirrored = record {
        replies = k.replies;
        whole = k.whole;
        held = k.goes.behind;
        passes = k.goes.passes;
        live = λ e. shown_live q s new k.goes.behind k.goes.mirrors e;
      };
      fine = k.fine;
    }

pub watchers_are_mirrored : WatchersAreMirrored
watchers_are_mirrored q s old sound fine gives none done new walk reads =
    (watchers_are_well q s old sound fine gives none done new walk reads).mirrored
