-- A listing with the deltas applied that a subscriber is sent stays a listing.
use Rattle.std.specs.Prelude.{ℕ, List, [], ◌∷◌, ◌++◌, ◌≡◌, ◌⊎◌, ◌↔◌, ◌==◌, ◌&&◌, Bool, true, false, not, cond, filter}
use Rattle.std.specs.Prelude.{Option, None, Some, MatchOption, map}
use Rattle.std.proofs.Common.{refl, sym, ap, ◌∙◌, subst, inl, inr}
use Rattle.std.proofs.lemmas.List.Elements.{All-weaker}
use Rattle.std.proofs.lemmas.Bool.{eqb-true}
use Rattle.djq_model.specs.Data.{Bytes, Tuple, bytes_eq}
use Rattle.djq_model.specs.Answer.{IsListing}
use Rattle.djq_model.specs.Listed.{Listed, listed_name, listed_of}
use Rattle.djq_abstract.specs.Rows.{Database, AnswersOver, RowEdit, all_edited}
use Rattle.djq_abstract.specs.Deltas.{AnswerDelta, delta_applied}
use Rattle.djq_abstract.specs.Clients.{CursorState, valid, stale, Client, Core, nobody, with_client, client_with_cursor, with_subscription, IsAdmitted, HaveOwnNames, CoreCommand, edit, batch, done, abandon, register, drop, open_cursor, next, close, has, subscribe, unsubscribe, ask, CoreMessage, ok, refused, not_free_connex, replied, is_answer, page, delta, CoreEvent, connects, disconnects, says, Sent, only_sent}
use Rattle.djq_abstract.specs.Moves.{IsPage, StaysConnected, ChangesDatabase, Edits, OnlyReplies, SetsQueries, ReturnsPage}
use Rattle.djq_abstract.specs.Moves.{Accepts, MayRefuse, RefusesCommand, CoreStep}
use Rattle.djq_abstract.specs.Histories.{Happening, state_after, CoreRun, IsSubscribedAlong, deltas_applied, all_sent}
use Rattle.djq_abstract.specs.Promises.{SubscribersHaveAnswers}
use Rattle.djq_abstract.proofs.Listings.{some_there, applied_lists}
use Rattle.djq_abstract.proofs.Names.{same_name, found_before, found_less}
use Rattle.djq_abstract.proofs.Sound.{SameRows, same_answers, not_affected, IsSoundCore, step_sound, reached_sound}

-- ---- what messages apply

-- one behind the other
applied_more : (q : Bytes) (ts : List Tuple) (ms more : List CoreMessage)
    → deltas_applied q ts (ms ++ more) ≡ deltas_applied q (deltas_applied q ts ms) more
applied_more q ts [] more = refl
applied_more q ts (delta n d k ∷ ms) more =
    applied_more q (cond (bytes_eq n q) (delta_applied d ts) ts) ms more
applied_more q ts (ok ∷ ms) more = applied_more q ts ms more
applied_more q ts (refused ∷ ms) more = applied_more q ts ms more
applied_more q ts (not_free_connex ∷ ms) more = applied_more q ts ms more
applied_more q ts (replied ∷ ms) more = applied_more q ts ms more
applied_more q ts (is_answer b ∷ ms) more = applied_more q ts ms more
applied_more q ts (page us b ∷ ms) more = applied_more q ts ms more

-- a message that applies nothing
abbrev pub IsQuiet : CoreMessage → Type 0
IsQuiet m = (q : Bytes) (ts : List Tuple) → deltas_applied q ts (m ∷ []) ≡ ts

quiet_reply : (q : Bytes) (ts : List Tuple) (s t : ℕ) (m : CoreMessage) → IsQuiet m
    → deltas_applied q ts (only_sent s (m ∷ []) t) ≡ ts
quiet_reply q ts s t m quiet = step (t == s)
  where
    step : (b : Bool) → deltas_applied q ts (cond b (m ∷ []) []) ≡ ts
    step true = quiet q ts
    step false = refl

-- the two refusals
pub refusals : (c : CoreCommand) (m : CoreMessage) → MayRefuse c m → (m ≡ refused) ⊎ (m ≡ not_free_connex)
refusals (register q) m may = by may
  where
    by : (m ≡ refused) ⊎ ((m ≡ not_free_connex) × (IsAdmitted q → ⊥)) → (m ≡ refused) ⊎ (m ≡ not_free_connex)
    by (inl e) = inl e
    by (inr e) = inr e.0
refusals (edit e) m may = inl may
refusals batch m may = inl may
refusals done m may = inl may
refusals abandon m may = inl may
refusals (drop q) m may = inl may
refusals (open_cursor c q) m may = inl may
refusals (next c k) m may = inl may
refusals (close c) m may = inl may
refusals (has q t) m may = inl may
refusals (subscribe q) m may = inl may
refusals (unsubscribe q) m may = inl may
refusals ask m may = inl may

quiet_refusal : (c : CoreCommand) (m : CoreMessage) → MayRefuse c m → IsQuiet m
quiet_refusal c m may = by (refusals c m may)
  where
    by : (m ≡ refused) ⊎ (m ≡ not_free_connex) → IsQuiet m
    by (inl e) = subst IsQuiet (sym e) (λ n ts. refl)
    by (inr e) = subst IsQuiet (sym e) (λ n ts. refl)

-- ---- the deltas of a change

module _ (applies : Bytes → Bool) (delta_of : Bytes → AnswerDelta) (seq : ℕ) where
  abbrev pub notices : List Listed → List CoreMessage
  notices qs = map (λ n. delta n (delta_of n) seq) (filter applies (map listed_name qs))

  none_due : (qs : List Listed) (n : Bytes) (ts : List Tuple) → listed_of qs n ≡ None
      → deltas_applied n ts (notices qs) ≡ ts
  none_due [] n ts h = refl
  none_due (x ∷ qs) n ts h =
      step (bytes_eq (listed_name x) n) refl h (applies (listed_name x)) (λ k. none_due qs n ts k)
    where
      step : (b : Bool) → bytes_eq (listed_name x) n ≡ b → cond b (Some x) (listed_of qs n) ≡ None → (c : Bool)
          → (listed_of qs n ≡ None → deltas_applied n ts (notices qs) ≡ ts)
          → deltas_applied n ts (map (λ m. delta m (delta_of m) seq)
          (cond c (listed_name x ∷ filter applies (map listed_name qs)) (filter applies (map listed_name qs)))) ≡ ts
      step true e k c rest = absurd (cc)
      step false e k true rest =
          ap (λ b. deltas_applied n (cond b (delta_applied (delta_of (listed_name x)) ts) ts) (notices qs)) e ∙ rest k
      step false e k false rest = rest k

  one_due : (qs : List Listed) (n : Bytes) (q : Listed) (ts : List Tuple) → HaveOwnNames qs → listed_of qs n ≡ Some q
      → deltas_applied n ts (notices qs) ≡ cond (applies n) (delta_applied (delta_of n) ts) ts
  one_due [] n q ts names h = absurd (cc)
  one_due (x ∷ qs) n q ts names h =
      step (bytes_eq (listed_name x) n) refl h (applies (listed_name x)) refl
      (λ k. one_due qs n q ts names.1 k)
    where
      tail : bytes_eq (listed_name x) n ≡ true → (us : List Tuple) → deltas_applied n us (notices qs) ≡ us
      tail e us = none_due qs n us
          (subst (λ (m : Bytes). listed_of qs m ≡ None) (same_name (listed_name x) n e) names.0)

      here : (c : Bool) → bytes_eq (listed_name x) n ≡ true → applies (listed_name x) ≡ c
          → cond c (delta_applied (delta_of (listed_name x)) ts) ts
          ≡ cond (applies n) (delta_applied (delta_of n) ts) ts
      here c e k = subst (λ (m : Bytes). cond c (delta_applied (delta_of (listed_name x)) ts) ts
          ≡ cond (applies m) (delta_applied (delta_of m) ts) ts) (same_name (listed_name x) n e)
          (ap (λ b. cond b (delta_applied (delta_of (listed_name x)) ts) ts) (sym k))

      step : (b : Bool) → bytes_eq (listed_name x) n ≡ b → cond b (Some x) (listed_of qs n) ≡ Some q
          → (c : Bool) → applies (listed_name x) ≡ c
          → (listed_of qs n ≡ Some q
          → deltas_applied n ts (notices qs) ≡ cond (applies n) (delta_applied (delta_of n) ts) ts)
          → deltas_applied n ts (map (λ m. delta m (delta_of m) seq)
          (cond c (listed_name x ∷ filter applies (map listed_name qs)) (filter applies (map listed_name qs))))
          ≡ cond (applies n) (delta_applied (delta_of n) ts) ts
      step true e k true is rest =
          ap (λ b. deltas_applied n (cond b (delta_applied (delta_of (listed_name x)) ts) ts) (notices qs)) e
          ∙ tail e (delta_applied (delta_of (listed_name x)) ts) ∙ here true e is
      step true e k false is rest = tail e ts ∙ here false e is
      step false e k true is rest =
          ap (λ b. deltas_applied n (cond b (delta_applied (delta_of (listed_name x)) ts) ts) (notices qs)) e ∙ rest k
      step false e k false is rest = rest k

-- ---- a query with a listing

pub record HasListing (st : Core) (q : Listed) (ts : List Tuple) : Type 0 where
  pub found : listed_of st.queries (listed_name q) ≡ Some q
  pub listing : IsListing (AnswersOver st.db q) ts

-- the same rows and queries, and nothing applied
same_listing : (old new : Core) (q : Listed) (ts us : List Tuple) → new.db ≡ old.db → new.queries ≡ old.queries
    → us ≡ ts → HasListing old q ts → HasListing new q us
same_listing old new q ts us d k e h = record {
  found = subst (λ qs. listed_of qs (listed_name q) ≡ Some q) (sym k) h.found;
  listing = subst (λ (db : Database). IsListing (AnswersOver db q) us) (sym d)
      (subst (λ vs. IsListing (AnswersOver old.db q) vs) (sym e) h.listing);
}

replies_live : (old : Core) (t : ℕ) (m : CoreMessage) (x : Client) (sent : Sent) (new : Core) (s : ℕ) (q : Listed)
    (ts : List Tuple) → OnlyReplies old t m x sent new → IsQuiet m → HasListing old q ts
    → HasListing new q (deltas_applied (listed_name q) ts (sent s))
replies_live old t m x sent new s q ts r quiet h =
    same_listing old new q ts (deltas_applied (listed_name q) ts (sent s)) (ap (λ (st : Core). st.db) r.1)
    (ap (λ (st : Core). st.queries) r.1)
    (ap (λ (f : Sent). deltas_applied (listed_name q) ts (f s)) r.0 ∙ quiet_reply (listed_name q) ts t s m quiet) h

registers_live : (old : Core) (t : ℕ) (qs : List Listed) (sent : Sent) (new : Core) (s : ℕ) (q : Listed)
    (ts : List Tuple) → SetsQueries old t qs sent new → listed_of qs (listed_name q) ≡ Some q → HasListing old q ts
    → HasListing new q (deltas_applied (listed_name q) ts (sent s))
registers_live old t qs sent new s q ts r found h = record {
  found = subst (λ ps. listed_of ps (listed_name q) ≡ Some q) (sym (ap (λ (st : Core). st.queries) r.1)) found;
  listing = subst (λ (db : Database). IsListing (AnswersOver db q) (deltas_applied (listed_name q) ts (sent s)))
      (sym (ap (λ (st : Core). st.db) r.1))
      (subst (λ us. IsListing (AnswersOver old.db q) us)
      (sym (ap (λ (f : Sent). deltas_applied (listed_name q) ts (f s)) r.0
      ∙ quiet_reply (listed_name q) ts t s ok (λ n us. refl))) h.listing);
}

-- ---- a change of the database

module _ (old : Core) (t : ℕ) (db : Database) (sent : Sent) (new : Core) (h : ChangesDatabase old t db sent new)
    (names : HaveOwnNames old.queries) (s : ℕ) (q : Listed) (ts : List Tuple)
    (before : (old.client s).subscribed (listed_name q) ≡ true) (has_listing : HasListing old q ts)
  where
    abbrev pub name : Bytes
    name = listed_name q

    both : (b c : Bool) → b ≡ true → c ≡ true → (b && c) ≡ true
    both true c e k = k
    both false c e k = absurd (cc)

    left : (b c : Bool) → b ≡ false → (b && c) ≡ false
    left true c e = absurd (cc)
    left false c e = refl

    -- the query's delta, if it is affected, and no change of its answers, if it isn't
    by_delta : (g : StaysConnected old h.affected new s (sent s) (only_sent t (ok ∷ []) s)) → (b : Bool)
        → h.affected name ≡ b
        → IsListing (AnswersOver new.db q)
        (cond (h.affected name && (old.client s).subscribed name) (delta_applied (g.delta_of name) ts) ts)
    by_delta g true e =
        let due : (h.affected name && (old.client s).subscribed name) ≡ true =
        both (h.affected name) ((old.client s).subscribed name) e before in
        subst (λ (b : Bool). IsListing (AnswersOver new.db q) (cond b (delta_applied (g.delta_of name) ts) ts)) (sym due)
        (applied_lists (AnswersOver old.db q) (AnswersOver new.db q) ts (g.delta_of name) has_listing.listing
        (g.are_deltas name q has_listing.found due))
    by_delta g false e =
        let same : SameRows old.db db q = not_affected old.db db q
        (λ a. let yes : h.affected name ≡ true = (h.affected_if name q has_listing.found).1 a in absurd (cc (yes, e))) in
        let back : SameRows db old.db q = λ r u reads. sym (same r u reads) in
        subst (λ (b : Bool). IsListing (AnswersOver new.db q) (cond b (delta_applied (g.delta_of name) ts) ts))
        (sym (left (h.affected name) ((old.client s).subscribed name) e))
        (subst (λ (d : Database). IsListing (AnswersOver d q) ts) (sym h.db_is) (record {
          different = has_listing.listing.different;
          answers = All-weaker (AnswersOver old.db q) (AnswersOver db q)
              (λ u a. same_answers old.db db q u same a) ts has_listing.listing.answers;
          complete = λ u a. has_listing.listing.complete u (same_answers db old.db q u back a);
        }))

    applied_is : (g : StaysConnected old h.affected new s (sent s) (only_sent t (ok ∷ []) s))
        → deltas_applied name ts (sent s)
        ≡ cond (h.affected name && (old.client s).subscribed name) (delta_applied (g.delta_of name) ts) ts
    applied_is g =
        ap (λ ms. deltas_applied name ts ms) g.is_sent
        ∙ applied_more name ts (notices (λ n. h.affected n && (old.client s).subscribed n) g.delta_of new.seq old.queries)
        (only_sent t (ok ∷ []) s)
        ∙ quiet_reply name (deltas_applied name ts
        (notices (λ n. h.affected n && (old.client s).subscribed n) g.delta_of new.seq old.queries)) t s ok (λ n us. refl)
        ∙ one_due (λ n. h.affected n && (old.client s).subscribed n) g.delta_of new.seq old.queries name q ts names
        has_listing.found

    pub changes_live : (new.client s).subscribed name ≡ true → HasListing new q (deltas_applied name ts (sent s))
    changes_live behind = record {
      found = subst (λ qs. listed_of qs name ≡ Some q) (sym h.queries_stay) has_listing.found;
      listing = by (h.clients s);
    }
      where
        by : StaysConnected old h.affected new s (sent s) (only_sent t (ok ∷ []) s)
            ⊎ ((new.client s ≡ nobody) × ((old.client s).connected ≡ false → sent s ≡ []))
            → IsListing (AnswersOver new.db q) (deltas_applied name ts (sent s))
        by (inl g) = subst (λ us. IsListing (AnswersOver new.db q) us) (sym (applied_is g))
            (by_delta g (h.affected name) refl)
        by (inr g) = let no : (new.client s).subscribed name ≡ false = ap (λ (x : Client). x.subscribed name) g.0 in
            absurd (cc (no, behind))

-- ---- a step

module _ (s : ℕ) (q : Listed) (ts : List Tuple) where
  abbrev pub Lives : Core → Sent → Core → Type 0
  Lives old sent new = HaveOwnNames old.queries → (old.client s).subscribed (listed_name q) ≡ true
      → (new.client s).subscribed (listed_name q) ≡ true → HasListing old q ts
      → HasListing new q (deltas_applied (listed_name q) ts (sent s))

  edits_live : (old : Core) (t : ℕ) (es : List RowEdit) (sent : Sent) (new : Core) → Edits old t es sent new
      → Lives old sent new
  edits_live old t es sent new h names before behind has_listing =
      let f = some_there (all_edited es old.db) (λ db. ChangesDatabase old t db sent new) h in
      changes_live old t f.0 sent new f.2 names s q ts before has_listing behind

  page_live : (old : Core) (t : ℕ) (c : Bytes) (count : ℕ) (k : CursorState) (sent : Sent) (new : Core)
      → ReturnsPage old t c count k sent new → HasListing old q ts
      → HasListing new q (deltas_applied (listed_name q) ts (sent s))
  page_live old t c count (stale n) sent new h has_listing = absurd h
  page_live old t c count (valid n returned finished) sent new h has_listing =
      let f = some_there (listed_of old.queries n) (λ l. (us : List Tuple) × (last : Bool)
      × IsPage (AnswersOver old.db l) returned us count last
      × OnlyReplies old t (page us last) (client_with_cursor c (Some (valid n (returned ++ us) last)) (old.client t)) sent new) h in
      replies_live old t (page f.2.0 f.2.1)
      (client_with_cursor c (Some (valid n (returned ++ f.2.0) f.2.1)) (old.client t)) sent new s q ts f.2.3 (λ m us. refl)
      has_listing

  -- a batch that is done is no more open, and all else of its client is as before
  subscribed_still : (old : Core) (t : ℕ) → (old.client s).subscribed (listed_name q) ≡ true
      → ((with_client t (record (old.client t) { batch = None }) old).client s).subscribed (listed_name q) ≡ true
  subscribed_still old t before = step (s == t) refl
    where
      step : (b : Bool) → (s == t) ≡ b
          → (cond b (record (old.client t) { batch = None }) (old.client s)).subscribed (listed_name q) ≡ true
      step true e = subst (λ (k : ℕ). (old.client k).subscribed (listed_name q) ≡ true) (eqb-true s t e) before
      step false e = before

  accepts_live : (old : Core) (t : ℕ) (c : CoreCommand) (sent : Sent) (new : Core) → Accepts old t c sent new
      → Lives old sent new
  accepts_live old t (edit e) sent new h names before behind l = by (old.client t).batch h
    where
      by : (o : Option (List RowEdit)) → MatchOption o (Edits old t (e ∷ []) sent new)
          (λ es. OnlyReplies old t ok (record (old.client t) { batch = Some (es ++ e ∷ []) }) sent new)
          → HasListing new q (deltas_applied (listed_name q) ts (sent s))
      by None k = edits_live old t (e ∷ []) sent new k names before behind l
      by (Some es) k = replies_live old t ok (record (old.client t) { batch = Some (es ++ e ∷ []) }) sent new s q ts k
          (λ m us. refl) l
  accepts_live old t batch sent new h names before behind l =
      replies_live old t ok (record (old.client t) { batch = Some [] }) sent new s q ts h.1 (λ m us. refl) l
  accepts_live old t done sent new h names before behind l =
      let mid : Core = with_client t (record (old.client t) { batch = None }) old in
      let f = some_there (old.client t).batch (λ es. Edits mid t es sent new) h in
      edits_live mid t f.0 sent new f.2 names (subscribed_still old t before) behind
      (record { found = l.found; listing = l.listing })
  accepts_live old t abandon sent new h names before behind l =
      replies_live old t ok (record (old.client t) { batch = None }) sent new s q ts h.1 (λ m us. refl) l
  accepts_live old t (register p) sent new h names before behind l =
      registers_live old t (old.queries ++ p ∷ []) sent new s q ts h.2
      (found_before old.queries (p ∷ []) (listed_name q) q l.found) l
  accepts_live old t (drop n) sent new h names before behind l =
      registers_live old t (filter (λ p. not (bytes_eq (listed_name p) n)) old.queries) sent new s q ts h.1
      (found_less old.queries n (listed_name q) q
      (λ same. h.0 s (inr (subst (λ (m : Bytes). (old.client s).subscribed m ≡ true) same before))) l.found) l
  accepts_live old t (open_cursor c n) sent new h names before behind l =
      replies_live old t ok (client_with_cursor c (Some (valid n [] false)) (old.client t)) sent new s q ts h.2 (λ m us. refl) l
  accepts_live old t (next c count) sent new h names before behind l =
      let f = some_there ((old.client t).cursor c) (λ k. ReturnsPage old t c count k sent new) h in
      page_live old t c count f.0 sent new f.2 l
  accepts_live old t (close c) sent new h names before behind l =
      replies_live old t ok (client_with_cursor c None (old.client t)) sent new s q ts h.1 (λ m us. refl) l
  accepts_live old t (has n u) sent new h names before behind l =
      let f = some_there (listed_of old.queries n) (λ p. (holds : Bool) × ((holds ≡ true) ↔ AnswersOver old.db p u)
      × OnlyReplies old t (is_answer holds) (old.client t) sent new) h in
      replies_live old t (is_answer f.2.0) (old.client t) sent new s q ts f.2.2 (λ m us. refl) l
  accepts_live old t (subscribe n) sent new h names before behind l =
      replies_live old t ok (with_subscription n true (old.client t)) sent new s q ts h.1 (λ m us. refl) l
  accepts_live old t (unsubscribe n) sent new h names before behind l =
      replies_live old t ok (with_subscription n false (old.client t)) sent new s q ts h.1 (λ m us. refl) l
  accepts_live old t ask sent new h names before behind l =
      replies_live old t replied (old.client t) sent new s q ts h (λ m us. refl) l

  refuses_live : (old : Core) (t : ℕ) (c : CoreCommand) (sent : Sent) (new : Core) → RefusesCommand old t c sent new
      → HasListing old q ts → HasListing new q (deltas_applied (listed_name q) ts (sent s))
  refuses_live old t c sent new h l =
      same_listing old new q ts (deltas_applied (listed_name q) ts (sent s)) (ap (λ (st : Core). st.db) h.becomes)
      (ap (λ (st : Core). st.queries) h.becomes)
      (ap (λ (f : Sent). deltas_applied (listed_name q) ts (f s)) h.is_sent
      ∙ quiet_reply (listed_name q) ts t s h.message (quiet_refusal c h.message h.may)) l

  pub step_live : (old : Core) (event : CoreEvent) (sent : Sent) (new : Core) → CoreStep old event sent new
      → Lives old sent new
  step_live old (connects t) sent new h names before behind l =
      same_listing old new q ts (deltas_applied (listed_name q) ts (sent s)) (ap (λ (st : Core). st.db) h.2)
      (ap (λ (st : Core). st.queries) h.2)
      (ap (λ (f : Sent). deltas_applied (listed_name q) ts (f s)) h.1 ∙ nothing (s == t)) l
    where
      nothing : (b : Bool) → deltas_applied (listed_name q) ts (cond b [] []) ≡ ts
      nothing true = refl
      nothing false = refl
  step_live old (disconnects t) sent new h names before behind l =
      same_listing old new q ts (deltas_applied (listed_name q) ts (sent s)) (ap (λ (st : Core). st.db) h.3)
      (ap (λ (st : Core). st.queries) h.3)
      (ap (λ (f : Sent). deltas_applied (listed_name q) ts (f s)) h.2
      ∙ other (s == t) (subst (λ (st : Core). (st.client s).subscribed (listed_name q) ≡ true) h.3 behind)) l
    where
      other : (b : Bool) → (cond b nobody (old.client s)).subscribed (listed_name q) ≡ true
          → deltas_applied (listed_name q) ts (cond b h.1 []) ≡ ts
      other true k = absurd (cc)
      other false k = refl
  step_live old (says t c) sent new h names before behind l = by h.1
    where
      by : Accepts old t c sent new ⊎ RefusesCommand old t c sent new
          → HasListing new q (deltas_applied (listed_name q) ts (sent s))
      by (inl k) = accepts_live old t c sent new k names before behind l
      by (inr k) = refuses_live old t c sent new k l

-- ---- a run

subscribed_first : (s : ℕ) (q : Bytes) (old : Core) (hs : List Happening) → IsSubscribedAlong s q old hs
    → (old.client s).subscribed q ≡ true
subscribed_first s q old [] w = w
subscribed_first s q old (h ∷ hs) w = w.0

run_live : (s : ℕ) (q : Listed) (old : Core) (hs : List Happening) (ts : List Tuple) → IsSoundCore old
    → CoreRun old hs → IsSubscribedAlong s (listed_name q) old hs → HasListing old q ts
    → HasListing (state_after old hs) q (deltas_applied (listed_name q) ts (all_sent s hs))
run_live s q old [] ts sound r w l = l
run_live s q old (h ∷ hs) ts sound r w l =
    let first : HasListing h.after q (deltas_applied (listed_name q) ts (h.sent s)) =
    step_live s q ts old h.event h.sent h.after r.0 sound.names w.0
    (subscribed_first s (listed_name q) h.after hs w.1) l in
    subst (λ us. HasListing (state_after h.after hs) q us)
    (sym (applied_more (listed_name q) ts (h.sent s) (all_sent s hs)))
    (run_live s q h.after hs (deltas_applied (listed_name q) ts (h.sent s))
    (step_sound old h.event h.sent h.after r.0 sound) r.1 w.1 first)

pub subscribers_have_answers : SubscribersHaveAnswers
subscribers_have_answers old reached hs r s q ts found w listing =
    (run_live s q old hs ts (reached_sound old reached) r w (record { found = found; listing = listing })).listing
