-- What a change of rows queues to one session: the deltas of the queries that it watches, in order, and its reply; or
-- the session ends.
use Rattle.std.specs.Prelude.{ℕ, List, [], ◌∷◌, ◌++◌, ◌==◌, ◌≡◌, ◌⊎◌, ◌<◌, Bool, true, false, cond, Option, None}
use Rattle.std.specs.Prelude.{Some, MatchOption, All, AllPairs, Contains, filter, map}
use Rattle.std.specs.List.{list_any}
use Rattle.std.specs.Option.{option_map}
use Rattle.std.proofs.Common.{refl, sym, ap, ◌∙◌, subst, inl, inr, arith, append-nil, append_assoc}
use Rattle.std.proofs.lemmas.Bool.{eqb-true}
use Rattle.std.proofs.lemmas.List.{map-append}
use Rattle.std.proofs.lemmas.List.Elements.{All-head, All-tail, All-weaker}
use Rattle.djq_model.specs.Data.{Bytes, bytes_eq}
use Rattle.djq_model.specs.Listed.{listed_name}
use Rattle.djq_protocol.specs.declared.answer.EndCause.{EndCause}
use Rattle.djq_protocol.specs.declared.answer.EndCause.TheVariants.{Slow, Memory}
use Rattle.djq_protocol.specs.Reply.{text_of, end_memory, end_slow}
use Rattle.djq_store_spec.specs.Delta.{delta_lines}
use Rattle.djq_store_spec.specs.DeltaCost.{Delta}
use Rattle.djq_answer_laws.proofs.Lists.{some_there, first_or_later, nothing_there, pairs_head, pairs_tail}
use Rattle.djq_machine.specs.State.{Session, session_of, state_ids, ended_by}
use Rattle.djq_machine.specs.Effect.{queue_all}
use Rattle.djq_machine.specs.Run.{Walk, to_session}
use Rattle.djq_machine.specs.Watch.{is_watching, Telling, says_more, ends_more, watching, watcher_of, TellsWatcher}
use Rattle.djq_machine.specs.Watch.{TellsSession, TellsDelta, RepliesLast}
use Rattle.djq_machine.proofs.Relations.{walk_keeps}
use Rattle.djq_run_laws.specs.Watched.{parts_for}
use Rattle.djq_run_laws.proofs.Lists.{gaining, queued_all, session_other, delta_keeps}
use Rattle.djq_run_laws.proofs.Sessions.{changed_ids}
use Rattle.djq_abstract.specs.Clients.{nobody}
use Rattle.djq_refinement.specs.View.{client_in}
use Rattle.djq_refinement.proofs.Clients.{client_with, same_id, other_id}

-- the parts for a session, of parts behind others
filter_more : {A : Type 0} (p : A → Bool) (xs ys : List A) → filter p (xs ++ ys) ≡ filter p xs ++ filter p ys
filter_more p [] ys = refl
filter_more p (x ∷ xs) ys = by (p x) (filter_more p xs ys)
  where
    by : (b : Bool) → filter p (xs ++ ys) ≡ filter p xs ++ filter p ys
        → cond b (x ∷ filter p (xs ++ ys)) (filter p (xs ++ ys)) ≡ cond b (x ∷ filter p xs) (filter p xs) ++ filter p ys
    by true e = ap (λ zs. x ∷ zs) e
    by false e = e

pub parts_more : (t : ℕ) (qs rs : List (ℕ × Bytes)) → parts_for t (qs ++ rs) ≡ parts_for t qs ++ parts_for t rs
parts_more t qs rs =
    ap (λ (ps : List (ℕ × Bytes)). map (λ p. p.1) ps) (filter_more (λ (p : ℕ × Bytes). p.0 == t) qs rs)
    ∙ map-append (λ (p : ℕ × Bytes). p.1) (filter (λ p. p.0 == t) qs) (filter (λ p. p.0 == t) rs)

-- the text of a delta, and those of the deltas of queries that a session watches
abbrev pub delta_text : ℕ → Delta → Bytes
delta_text n d = text_of (delta_lines (listed_name d.query) d.changes n)

abbrev pub watched_texts : ℕ → Session → List Delta → List Bytes
watched_texts n x ds = map (delta_text n) (filter (λ d. is_watching (listed_name d.query) x) ds)

-- One session, as it is when the change begins to be told.
module _ (t : ℕ) (x : Session) (runs : x.cause ≡ None) where
  -- It goes on as it was, and so much is queued to it; or it has ended.
  abbrev pub HasParts : List Bytes → Telling → Type 0
  HasParts ps m = ((session_of m.state t ≡ Some x) × (parts_for t m.queued ≡ ps))
      ⊎ (client_in (session_of m.state t) ≡ nobody)

  -- what happens to another session
  other_says : (ps : List Bytes) (m : Telling) (s : ℕ) (text : Bytes) → (s == t) ≡ false → HasParts ps m
      → HasParts ps (says_more s text m)
  other_says ps m s text apart (inr over) = inr over
  other_says ps m s text apart (inl h) =
      inl (h.0, parts_more t m.queued ((s, text) ∷ []) ∙ rw apart (append-nil (parts_for t m.queued)) ∙ h.1)

  other_ends : (ps : List Bytes) (m : Telling) (s : ℕ) (text : Bytes) (cause : EndCause) → (s == t) ≡ false
      → HasParts ps m → HasParts ps (ends_more s text cause m)
  other_ends ps m s text cause apart (inl h) = inl (
    session_other m.state s t (ended_by cause) (λ y. refl) apart ∙ h.0,
    parts_more t m.queued ((s, text) ∷ []) ∙ rw apart (append-nil (parts_for t m.queued)) ∙ h.1,
  )
  other_ends ps m s text cause apart (inr over) =
      inr (client_with m.state s (ended_by cause) (λ y. refl) t ∙ rw (other_id s t apart) over)

  -- what happens to it
  its_end : (ps : List Bytes) (m : Telling) (text : Bytes) (cause : EndCause) → HasParts ps (ends_more t text cause m)
  its_end ps m text cause =
      inr (client_with m.state t (ended_by cause) (λ y. refl) t ∙ rw (same_id t) (gone (session_of m.state t)))
    where
      gone : (o : Option Session) → client_in (option_map (ended_by cause) o) ≡ nobody
      gone None = refl
      gone (Some y) = refl

  its_text : (ps : List Bytes) (m : Telling) (text : Bytes) → HasParts ps m
      → HasParts (ps ++ text ∷ []) (says_more t text m)
  its_text ps m text (inr over) = inr over
  its_text ps m text (inl h) = inl (
    h.0,
    parts_more t m.queued ((t, text) ∷ []) ∙ rw (same_id t) (ap (λ (qs : List Bytes). qs ++ text ∷ []) h.1),
  )

  -- ---- a delta is told

  module _ (n : ℕ) (d : Delta) where
    abbrev here : List Bytes
    here = watched_texts n x (d ∷ [])

    -- to another session
    other_watcher : (ps : List Bytes) (m : Telling) (s : ℕ) (pending : Bytes) (new : Telling) → (s == t) ≡ false
        → TellsWatcher d n s pending m new → HasParts ps m → HasParts ps new
    other_watcher ps m s pending new apart (inl h) p =
        subst (HasParts ps) (sym h.1) (other_ends ps m s end_slow Slow apart p)
    other_watcher ps m s pending new apart (inr (inl h)) p =
        subst (HasParts ps) (sym h.1) (other_says ps m s _ apart p)
    other_watcher ps m s pending new apart (inr (inr h)) p =
        subst (HasParts ps) (sym h.4) (other_ends ps m s _ Memory apart p)

    other_told : (ps : List Bytes) (m : Telling) (s : ℕ) (new : Telling) (o : Option Session) → (s == t) ≡ false
        → MatchOption o (new ≡ m) (λ y. TellsWatcher d n s y.pending m new) → HasParts ps m → HasParts ps new
    other_told ps m s new None apart h p = subst (HasParts ps) (sym h) p
    other_told ps m s new (Some y) apart h p = other_watcher ps m s y.pending new apart h p

    -- to it, where it watches
    it_watches : (ps : List Bytes) (m : Telling) (pending : Bytes) (new : Telling)
        → TellsWatcher d n t pending m new → HasParts ps m → HasParts (ps ++ delta_text n d ∷ []) new
    it_watches ps m pending new (inl h) p =
        subst (HasParts (ps ++ delta_text n d ∷ [])) (sym h.1) (its_end (ps ++ delta_text n d ∷ []) m end_slow Slow)
    it_watches ps m pending new (inr (inl h)) p =
        subst (HasParts (ps ++ delta_text n d ∷ [])) (sym h.1) (its_text ps m (delta_text n d) p)
    it_watches ps m pending new (inr (inr h)) p =
        subst (HasParts (ps ++ delta_text n d ∷ [])) (sym h.4) (its_end (ps ++ delta_text n d ∷ []) m _ Memory)

    -- one that has ended stays so
    stays_over : (ps : List Bytes) (m : Telling) (new : Telling) (o : Option Session)
        → MatchOption o (new ≡ m) (λ y. TellsWatcher d n t y.pending m new)
        → client_in (session_of m.state t) ≡ nobody → HasParts ps new
    stays_over ps m new None h over = subst (HasParts ps) (sym h) (inr over)
    stays_over ps m new (Some y) (inl h) over = subst (HasParts ps) (sym h.1) (its_end ps m end_slow Slow)
    stays_over ps m new (Some y) (inr (inl h)) over = subst (HasParts ps) (sym h.1) (inr over)
    stays_over ps m new (Some y) (inr (inr h)) over = subst (HasParts ps) (sym h.4) (its_end ps m _ Memory)

    it_told : (ps : List Bytes) (m new : Telling) → TellsSession d n m t new → HasParts ps m
        → HasParts (ps ++ here) new
    it_told ps m new h (inr over) = stays_over (ps ++ here) m new (watcher_of m (listed_name d.query) t) h over
    it_told ps m new h (inl p) = by (is_watching (listed_name d.query) x) refl
      where
        now : Session
        now = gaining (to_session t m.queued) x

        found : session_of (queue_all m.state m.queued) t ≡ Some now
        found = queued_all m.state m.queued t ∙ ap (λ o. option_map (gaining (to_session t m.queued)) o) p.0

        by : (b : Bool) → is_watching (listed_name d.query) x ≡ b
            → HasParts (ps ++ map (delta_text n) (cond b (d ∷ []) [])) new
        by true e =
            let watcher : watcher_of m (listed_name d.query) t ≡ Some now =
            ap (λ o. watching (listed_name d.query) o) found ∙ ap (λ (b : Bool). cond b (Some now) None) e in
            it_watches ps m now.pending new
            (subst (λ (o : Option Session). MatchOption o (new ≡ m) (λ y. TellsWatcher d n t y.pending m new)) watcher h)
            (inl p)
        by false e =
            let none : watcher_of m (listed_name d.query) t ≡ None =
            ap (λ o. watching (listed_name d.query) o) found ∙ ap (λ (b : Bool). cond b (Some now) None) e in
            let same : new ≡ m =
            subst (λ (o : Option Session). MatchOption o (new ≡ m) (λ y. TellsWatcher d n t y.pending m new)) none h in
            subst (λ (qs : List Bytes). HasParts qs new) (sym (append-nil ps))
            (subst (HasParts ps) (sym same) (inl p))

    others_walk : (ps : List Bytes) (ids : List ℕ) (m new : Telling) → All (λ i. (i == t) ≡ false) ids
        → Walk (TellsSession d n) m ids new → HasParts ps m → HasParts ps new
    others_walk ps [] m new apart w p = subst (HasParts ps) (sym w) p
    others_walk ps (i ∷ ids) m new apart w p =
        others_walk ps ids w.0 new (All-tail (λ j. (j == t) ≡ false) i ids apart) w.2
        (other_told ps m i w.0 (watcher_of m (listed_name d.query) i) (All-head (λ j. (j == t) ≡ false) i ids apart) w.1
        p)

    above_apart : (i j : ℕ) → i ≡ t → i < j → (j == t) ≡ false
    above_apart i j same below = by (j == t) refl
      where
        by : (b : Bool) → (j == t) ≡ b → b ≡ false
        by false e = refl
        by true e = let is : j ≡ t = eqb-true j t e in absurd (omega (arith, is, same, below))

    once_walk : (ps : List Bytes) (ids : List ℕ) (m new : Telling) → AllPairs (λ a b. a < b) ids → Contains ids t
        → Walk (TellsSession d n) m ids new → HasParts ps m → HasParts (ps ++ here) new
    once_walk ps [] m new rising there w p = absurd (nothing_there t there)
    once_walk ps (i ∷ ids) m new rising there w p =
        by (i == t) refl (λ c q. once_walk ps ids w.0 new (pairs_tail (λ a b. a < b) i ids rising) c w.2 q)
      where
        by : (b : Bool) → (i == t) ≡ b → (Contains ids t → HasParts ps w.0 → HasParts (ps ++ here) new)
            → HasParts (ps ++ here) new
        by true e more =
            let same : i ≡ t = eqb-true i t e in
            others_walk (ps ++ here) ids w.0 new
            (All-weaker (λ j. i < j) (λ j. (j == t) ≡ false) (λ j below. above_apart i j same below) ids
            (pairs_head (λ a b. a < b) i ids rising)) w.2
            (it_told ps m w.0 (subst (λ (j : ℕ). TellsSession d n m j w.0) same w.1) p)
        by false e more = more (later (first_or_later i ids t there))
            (other_told ps m i w.0 (watcher_of m (listed_name d.query) i) e w.1 p)
          where
            later : (i ≡ t) ⊎ Contains ids t → Contains ids t
            later (inl same) = let k : (i == t) ≡ true = ap (λ j. j == t) same ∙ same_id t in absurd (cc (k, e))
            later (inr c) = c

  -- ---- all deltas are told, and the reply

  -- the open sessions stay
  abbrev pub HasIds : List ℕ → Telling → Type 0
  HasIds ids m = state_ids m.state ≡ ids

  ids_stay : (ids : List ℕ) (n : ℕ) (m : Telling) (d : Delta) (new : Telling) → TellsDelta n m d new → HasIds ids m
      → HasIds ids new
  ids_stay ids n m d new h p = delta_keeps (HasIds ids) (λ k s text there q. q)
      (λ k s text cause may there q.
      changed_ids (λ (y : Session). y.id == s) (ended_by cause) (λ y. refl) k.state.sessions ∙ q) n m d new h p

  texts_more : (n : ℕ) (d : Delta) (ds : List Delta)
      → watched_texts n x (d ∷ ds) ≡ watched_texts n x (d ∷ []) ++ watched_texts n x ds
  texts_more n d ds = by (is_watching (listed_name d.query) x)
    where
      by : (b : Bool) → map (delta_text n) (cond b (d ∷ filter (λ k. is_watching (listed_name k.query) x) ds)
          (filter (λ k. is_watching (listed_name k.query) x) ds))
          ≡ map (delta_text n) (cond b (d ∷ []) []) ++ watched_texts n x ds
      by true = refl
      by false = refl

  pub deltas_walk : (n : ℕ) (ids : List ℕ) → AllPairs (λ a b. a < b) ids → Contains ids t → (ps : List Bytes)
      (ds : List Delta) (m new : Telling) → Walk (TellsDelta n) m ds new → HasIds ids m → HasParts ps m
      → HasParts (ps ++ watched_texts n x ds) new
  deltas_walk n ids rising there ps [] m new w same p =
      subst (λ (qs : List Bytes). HasParts qs new) (sym (append-nil ps)) (subst (HasParts ps) (sym w) p)
  deltas_walk n ids rising there ps (d ∷ ds) m new w same p =
      subst (λ (qs : List Bytes). HasParts qs new)
      (append_assoc ps (watched_texts n x (d ∷ [])) (watched_texts n x ds)
      ∙ ap (λ (qs : List Bytes). ps ++ qs) (sym (texts_more n d ds)))
      (deltas_walk n ids rising there (ps ++ watched_texts n x (d ∷ [])) ds w.0 new w.2
      (ids_stay ids n m d w.0 w.1 same)
      (once_walk n d ps ids m w.0 rising there
      (subst (λ (is : List ℕ). Walk (TellsSession d n) m is w.0) same w.1) p))

  -- the reply, to it or to another session
  abbrev Replies : ℕ → Bytes → Telling → Telling → Option EndCause → Type 0
  Replies s reply m new c = MatchOption c
      ((new ≡ says_more s reply m)
      ⊎ ((list_any (λ part. part.0 == s) m.queued ≡ true) × (new ≡ ends_more s end_memory Memory m)))
      (λ _. new ≡ m)

  other_reply : (ps : List Bytes) (m : Telling) (s : ℕ) (reply : Bytes) (new : Telling) (c : Option EndCause)
      → (s == t) ≡ false → Replies s reply m new c → HasParts ps m → HasParts ps new
  other_reply ps m s reply new None apart (inl h) p = subst (HasParts ps) (sym h) (other_says ps m s reply apart p)
  other_reply ps m s reply new None apart (inr h) p =
      subst (HasParts ps) (sym h.1) (other_ends ps m s end_memory Memory apart p)
  other_reply ps m s reply new (Some c) apart h p = subst (HasParts ps) (sym h) p

  over_reply : (ps : List Bytes) (m : Telling) (reply : Bytes) (new : Telling) (c : Option EndCause)
      → Replies t reply m new c → client_in (session_of m.state t) ≡ nobody → HasParts ps new
  over_reply ps m reply new None (inl h) over = subst (HasParts ps) (sym h) (inr over)
  over_reply ps m reply new None (inr h) over = subst (HasParts ps) (sym h.1) (its_end ps m end_memory Memory)
  over_reply ps m reply new (Some c) h over = subst (HasParts ps) (sym h) (inr over)

  its_reply : (ps : List Bytes) (m : Telling) (reply : Bytes) (new : Telling)
      → Replies t reply m new None → HasParts ps m → HasParts (ps ++ reply ∷ []) new
  its_reply ps m reply new (inl h) p = subst (HasParts (ps ++ reply ∷ [])) (sym h) (its_text ps m reply p)
  its_reply ps m reply new (inr h) p =
      subst (HasParts (ps ++ reply ∷ [])) (sym h.1) (its_end (ps ++ reply ∷ []) m end_memory Memory)

  -- the reply's part for it
  abbrev pub reply_part : ℕ → Bytes → List Bytes
  reply_part s reply = cond (t == s) (reply ∷ []) []

  pub last_parts : (ps : List Bytes) (m : Telling) (s : ℕ) (reply : Bytes) (new : Telling)
      → RepliesLast s reply m new → HasParts ps m → HasParts (ps ++ reply_part s reply) new
  last_parts ps m s reply new h p = by (t == s) refl
    where
      f : (y : Session) × (session_of m.state s ≡ Some y) × Replies s reply m new y.cause
      f = some_there (session_of m.state s) (λ y. Replies s reply m new y.cause) h

      here : t ≡ s → HasParts ps m → HasParts (ps ++ reply ∷ []) new
      here same (inr over) = over_reply (ps ++ reply ∷ []) m reply new (f.0).cause
          (subst (λ (i : ℕ). Replies i reply m new (f.0).cause) (sym same) f.2) over
      here same (inl q) =
          let is : x ≡ f.0 = some_same (session_of m.state t) x f.0 q.0
          (ap (λ i. session_of m.state i) same ∙ f.1) in
          let none : (f.0).cause ≡ None = ap (λ (y : Session). y.cause) (sym is) ∙ runs in
          its_reply ps m reply new (subst (λ (c : Option EndCause). Replies t reply m new c) none
          (subst (λ (i : ℕ). Replies i reply m new (f.0).cause) (sym same) f.2)) (inl q)
        where
          some_same : (o : Option Session) (y z : Session) → o ≡ Some y → o ≡ Some z → y ≡ z
          some_same o y z a b = cc

      by : (b : Bool) → (t == s) ≡ b → HasParts (ps ++ cond b (reply ∷ []) []) new
      by true e = here (eqb-true t s e) p
      by false e = subst (λ (qs : List Bytes). HasParts qs new) (sym (append-nil ps))
          (other_reply ps m s reply new (f.0).cause (other_id t s e) f.2 p)

-- ---- a session that doesn't watch

-- Nothing is queued to a session that watches nothing, or isn't open, if the reply is for another one.
abbrev pub WatchesNothing : Option Session → Type 0
WatchesNothing None = Unit {0}
WatchesNothing (Some z) = z.watches ≡ []

module _ (t : ℕ) where
  abbrev pub IsSilent : Telling → Type 0
  IsSilent m = WatchesNothing (session_of m.state t) × (parts_for t m.queued ≡ [])

  silent_says : (m : Telling) (s : ℕ) (text : Bytes) → (s == t) ≡ false → IsSilent m → IsSilent (says_more s text m)
  silent_says m s text apart h =
      (h.0, parts_more t m.queued ((s, text) ∷ []) ∙ rw apart (append-nil (parts_for t m.queued)) ∙ h.1)

  silent_ends : (m : Telling) (s : ℕ) (text : Bytes) (cause : EndCause) → (s == t) ≡ false → IsSilent m
      → IsSilent (ends_more s text cause m)
  silent_ends m s text cause apart h = (
    subst WatchesNothing (sym (session_other m.state s t (ended_by cause) (λ y. refl) apart)) h.0,
    parts_more t m.queued ((s, text) ∷ []) ∙ rw apart (append-nil (parts_for t m.queued)) ∙ h.1,
  )

  silent_watcher : (d : Delta) (n : ℕ) (m : Telling) (s : ℕ) (new : Telling) (o : Option Session) → (s == t) ≡ false
      → MatchOption o (new ≡ m) (λ y. TellsWatcher d n s y.pending m new) → IsSilent m → IsSilent new
  silent_watcher d n m s new None apart h p = subst IsSilent (sym h) p
  silent_watcher d n m s new (Some y) apart (inl h) p =
      subst IsSilent (sym h.1) (silent_ends m s end_slow Slow apart p)
  silent_watcher d n m s new (Some y) apart (inr (inl h)) p =
      subst IsSilent (sym h.1) (silent_says m s _ apart p)
  silent_watcher d n m s new (Some y) apart (inr (inr h)) p =
      subst IsSilent (sym h.4) (silent_ends m s _ Memory apart p)

  no_watcher : (m : Telling) (q : Bytes) → WatchesNothing (session_of m.state t) → watcher_of m q t ≡ None
  no_watcher m q h = ap (λ o. watching q o) (queued_all m.state m.queued t) ∙ by (session_of m.state t) h
    where
      by : (o : Option Session) → WatchesNothing o → watching q (option_map (gaining (to_session t m.queued)) o) ≡ None
      by None k = refl
      by (Some z) k =
          ap (λ (ws : List Bytes). cond (list_any (λ w. bytes_eq w q) ws)
          (Some (gaining (to_session t m.queued) z)) None) k

  silent_session : (d : Delta) (n : ℕ) (m : Telling) (s : ℕ) (new : Telling) → TellsSession d n m s new → IsSilent m
      → IsSilent new
  silent_session d n m s new h p = by (s == t) refl
    where
      by : (b : Bool) → (s == t) ≡ b → IsSilent new
      by false e = silent_watcher d n m s new (watcher_of m (listed_name d.query) s) e h p
      by true e =
          let same : new ≡ m =
          subst (λ (o : Option Session). MatchOption o (new ≡ m) (λ y. TellsWatcher d n s y.pending m new))
          (ap (λ i. watcher_of m (listed_name d.query) i) (eqb-true s t e) ∙ no_watcher m (listed_name d.query) p.0) h in
          subst IsSilent (sym same) p

  pub silent_deltas : (n : ℕ) (ds : List Delta) (m new : Telling) → Walk (TellsDelta n) m ds new → IsSilent m
      → IsSilent new
  silent_deltas n ds m new w p = walk_keeps (TellsDelta n) IsSilent
      (λ from d to h k. walk_keeps (TellsSession d n) IsSilent (λ a s b i j. silent_session d n a s b i j) from
      (state_ids from.state) to h k) m ds new w p

  pub silent_last : (m : Telling) (s : ℕ) (reply : Bytes) (new : Telling) → (s == t) ≡ false
      → RepliesLast s reply m new → IsSilent m → IsSilent new
  silent_last m s reply new apart h p = by (f.0).cause f.2
    where
      f : (y : Session) × (session_of m.state s ≡ Some y) × MatchOption y.cause
          ((new ≡ says_more s reply m)
          ⊎ ((list_any (λ part. part.0 == s) m.queued ≡ true) × (new ≡ ends_more s end_memory Memory m)))
          (λ _. new ≡ m)
      f = some_there (session_of m.state s) _ h

      by : (c : Option EndCause) → MatchOption c
          ((new ≡ says_more s reply m)
          ⊎ ((list_any (λ part. part.0 == s) m.queued ≡ true) × (new ≡ ends_more s end_memory Memory m)))
          (λ _. new ≡ m) → IsSilent new
      by None (inl k) = subst IsSilent (sym k) (silent_says m s reply apart p)
      by None (inr k) = subst IsSilent (sym k.1) (silent_ends m s end_memory Memory apart p)
      by (Some c) k = subst IsSilent (sym k) p
