-- What a change of rows tells is determined, memory aside.
use Rattle.std.specs.Prelude.{ℕ, List, [], ◌∷◌, ◌≡◌, ◌⊎◌, ◌++◌, ◌==◌, ◌+◌, Bool, true, false, cond, Option, None, Some}
use Rattle.std.specs.Prelude.{IsSomeAnd, MatchOption, option_map, All, AllPairs, IsPermutation, map, length, ⊤}
use Rattle.std.specs.List.{list_any}
use Rattle.std.proofs.Common.{refl, sym, ap, ◌∙◌, subst, inl, inr, arith, length-append, append_assoc, append-nil}
use Rattle.std.proofs.lemmas.List.Elements.{All-head, All-tail, All-nil, All-cons, All-contains}
use Rattle.std.proofs.lemmas.List.Concat.{length-flat_map}
use Rattle.std.proofs.lemmas.Grind.{flat_map-append}
use Rattle.std.proofs.lemmas.List.Sorted.{IsPermutation-map, IsPermutation-append_left, sum_by-IsPermutation}
use Rattle.djq_model.specs.declared.relation.Relation.{Relation}
use Rattle.djq_model.specs.Data.{Bytes, Tuple}
use Rattle.djq_model.specs.Listed.{Listed, listed_name, AnswersOf}
use Rattle.djq_protocol.specs.declared.answer.EndCause.{EndCause}
use Rattle.djq_protocol.specs.declared.answer.EndCause.TheVariants.{Slow, Memory}
use Rattle.djq_protocol.specs.Reply.{text_of, change_line, at_line, end_slow, end_memory}
use Rattle.djq_store_spec.specs.Store.{Store}
use Rattle.djq_store_spec.specs.Changes.{RowsChange, RowsOutcome, is_made, tried}
use Rattle.djq_store_spec.specs.Delta.{Change, HasChanged, IsDelta, change_lines, delta_lines}
use Rattle.djq_store_spec.specs.DeltaCost.{Delta, AreDeltas, ListsDeltas}
use Rattle.djq_machine.specs.State.{State, Session, session_of, with_session, state_ids, ended_by}
use Rattle.djq_machine.specs.Effect.{Effect}
use Rattle.djq_machine.specs.Run.{to_session}
use Rattle.djq_machine.specs.Walk.{Walk}
use Rattle.djq_machine.specs.Outdating.{changed}
use Rattle.djq_machine.specs.Watch.{Telling, says_more, ends_more, is_watching, watching, watcher_of, affected, TellsWatcher, TellsSession}
use Rattle.djq_machine.specs.Watch.{TellsDelta, RepliesLast, ChangeStep}
use Rattle.djq_machine.proofs.Relations.{walk_keeps}
use Rattle.djq_run_laws.proofs.Lists.{queued_all, gaining}
use Rattle.std.proofs.lemmas.List.Kept.{AllPairs-cons}
use Rattle.djq_answer_laws.proofs.Lists.{hold_each, pairs_head, pairs_tail, mapped_there}
use Rattle.djq_determinacy.specs.Determinacy.{SameText, is_equal, are_deltas, SameQueued, IsNoRefusal}
use Rattle.djq_determinacy.proofs.Sets.{Apart, AreAmong, same_set}

-- ---- One delta.

-- apart by what they are mapped to
apart_mapped : {A B : Type 0} (f : A → B) (xs : List A) → AllPairs (λ a b. a ≡ b → ⊥) (map f xs) → Apart xs
apart_mapped f [] apart = λ i j d less within. absurd (omega (arith, within))
apart_mapped f (x ∷ xs) apart = AllPairs-cons (λ a b. a ≡ b → ⊥) x xs
    (hold_each (λ b. x ≡ b → ⊥) xs (λ y there same. All-contains (λ b. f x ≡ b → ⊥) (map f xs) (f y)
    (pairs_head (λ a b. a ≡ b → ⊥) (f x) (map f xs) apart) (mapped_there f xs y there) (ap f same)))
    (apart_mapped f xs (pairs_tail (λ a b. a ≡ b → ⊥) (f x) (map f xs) apart))

among_changes : (Before After : Tuple → Type 0) (a b : List Change) → IsDelta Before After a → IsDelta Before After b
    → AreAmong a b
among_changes Before After a b h k c there =
    k.complete c.sign c.answer (All-contains (λ (x : Change). HasChanged Before After x.sign x.answer) a c h.changed there)

pub same_changes : (Before After : Tuple → Type 0) (a b : List Change) → IsDelta Before After a → IsDelta Before After b
    → IsPermutation a b
same_changes Before After a b h k =
    same_set a b (apart_mapped (λ (c : Change). c.answer) a h.different) (apart_mapped (λ (c : Change). c.answer) b k.different)
    (among_changes Before After a b h k) (among_changes Before After b a k h)

-- its text is as long
same_length : (query : Bytes) (a b : List Change) (n : ℕ) → IsPermutation a b
    → length (text_of (delta_lines query a n)) ≡ length (text_of (delta_lines query b n))
same_length query a b n moved =
    let lines = IsPermutation-append_left (at_line query n ∷ []) (change_lines query a) (change_lines query b)
    (IsPermutation-map (λ (c : Change). change_line c.sign query c.answer) a b moved) in
    length-flat_map (λ (l : Bytes). l) (delta_lines query a n)
    ∙ sym (sum_by-IsPermutation (λ (l : Bytes). length l) (delta_lines query a n) (delta_lines query b n) lines)
    ∙ sym (length-flat_map (λ (l : Bytes). l) (delta_lines query b n))

-- ---- How far a change has been told.

-- two tellings have come as far
record AsFar (m m' : Telling) : Type 0 where
  state : m.state ≡ m'.state
  parts : SameQueued m.queued m'.queued
  long : (s : ℕ) → length (to_session s m.queued) ≡ length (to_session s m'.queued)

-- nothing that was told says that memory was refused
abbrev IsClean : Telling → Type 0
IsClean m = All (λ (q : ℕ × Bytes). IsNoRefusal q.1) m.queued

same_push : (ps qs : List (ℕ × Bytes)) (s : ℕ) (a b : Bytes) → SameQueued ps qs → SameText a b
    → SameQueued (ps ++ (s, a) ∷ []) (qs ++ (s, b) ∷ [])
same_push [] [] s a b h same = (refl, same, tt)
same_push (p ∷ ps) (q ∷ qs) s a b h same = (h.0, h.1, same_push ps qs s a b h.2 same)
same_push [] (q ∷ qs) s a b h same = absurd h
same_push (p ∷ ps) [] s a b h same = absurd h

long_push : (ps qs : List (ℕ × Bytes)) (s : ℕ) (a b : Bytes) (t : ℕ) → length a ≡ length b
    → length (to_session t ps) ≡ length (to_session t qs)
    → length (to_session t (ps ++ (s, a) ∷ [])) ≡ length (to_session t (qs ++ (s, b) ∷ []))
long_push ps qs s a b t same long =
    long_more ps a ∙ omega (arith, long, by (s == t)) ∙ sym (long_more qs b)
  where
    long_more : (xs : List (ℕ × Bytes)) (text : Bytes) → length (to_session t (xs ++ (s, text) ∷ []))
        ≡ length (to_session t xs) + length (cond (s == t) text [])
    long_more xs text =
        ap length (flat_map-append (λ (q : ℕ × Bytes). cond (q.0 == t) q.1 []) xs ((s, text) ∷ []))
        ∙ length-append (to_session t xs) (cond (s == t) text [] ++ [])
        ∙ ap (λ (bytes : Bytes). length (to_session t xs) + length bytes) (append-nil (cond (s == t) text []))

    by : (c : Bool) → length (cond c a []) ≡ length (cond c b [])
    by true = same
    by false = refl

far_says : (s : ℕ) (a b : Bytes) (m m' : Telling) → SameText a b → length a ≡ length b → AsFar m m'
    → AsFar (says_more s a m) (says_more s b m')
far_says s a b m m' same long far = record {
  state = far.state;
  parts = same_push m.queued m'.queued s a b far.parts same;
  long = λ t. long_push m.queued m'.queued s a b t long (far.long t);
}

far_ends : (s : ℕ) (text : Bytes) (cause : EndCause) (m m' : Telling) → AsFar m m'
    → AsFar (ends_more s text cause m) (ends_more s text cause m')
far_ends s text cause m m' far = record {
  state = ap (λ (st : State). with_session st s (ended_by cause)) far.state;
  parts = same_push m.queued m'.queued s text text far.parts (is_equal refl);
  long = λ t. long_push m.queued m'.queued s text text t refl (far.long t);
}

-- the last of what was told isn't clean
unclean : (qs : List (ℕ × Bytes)) (s : ℕ) (front : Bytes) → All (λ (q : ℕ × Bytes). IsNoRefusal q.1) (qs ++ (s, front ++ end_memory) ∷ [])
    → ⊥
unclean [] s front h = (All-head (λ (q : ℕ × Bytes). IsNoRefusal q.1) (s, front ++ end_memory) [] h).1 front refl
unclean (q ∷ qs) s front h =
    unclean qs s front (All-tail (λ (q : ℕ × Bytes). IsNoRefusal q.1) q (qs ++ (s, front ++ end_memory) ∷ []) h)

-- what was told stays, and more comes
record Extends (m n : Telling) : Type 0 where
  more : List (ℕ × Bytes)
  is : n.queued ≡ m.queued ++ more

extends_none : (m : Telling) → Extends m m
extends_none m = record { more = []; is = sym (append-nil m.queued) }

extends_part : (m n k : Telling) (s : ℕ) (text : Bytes) → k.queued ≡ n.queued ++ (s, text) ∷ [] → Extends m n → Extends m k
extends_part m n k s text is x = record {
  more = x.more ++ (s, text) ∷ [];
  is = is ∙ ap (λ qs. qs ++ (s, text) ∷ []) x.is ∙ append_assoc m.queued x.more ((s, text) ∷ []);
}

clean_before : (m n : Telling) → Extends m n → IsClean n → IsClean m
clean_before m n x h = front m.queued x.more (subst (λ qs. All (λ (q : ℕ × Bytes). IsNoRefusal q.1) qs) x.is h)
  where
    front : (ps qs : List (ℕ × Bytes)) → All (λ (q : ℕ × Bytes). IsNoRefusal q.1) (ps ++ qs)
        → All (λ (q : ℕ × Bytes). IsNoRefusal q.1) ps
    front [] qs h = All-nil (λ (q : ℕ × Bytes). IsNoRefusal q.1)
    front (p ∷ ps) qs h = All-cons (λ (q : ℕ × Bytes). IsNoRefusal q.1) p ps
        (All-head (λ (q : ℕ × Bytes). IsNoRefusal q.1) p (ps ++ qs) h)
        (front ps qs (All-tail (λ (q : ℕ × Bytes). IsNoRefusal q.1) p (ps ++ qs) h))

-- ---- One session.

-- the same delta, but for the order of its changes
abbrev SameDelta : Delta → Delta → Type 0
SameDelta d d' = (d.query ≡ d'.query) × IsPermutation d.changes d'.changes

abbrev SameDeltas : List Delta → List Delta → Type 0
SameDeltas [] [] = ⊤
SameDeltas (d ∷ ds) (d' ∷ ds') = SameDelta d d' × SameDeltas ds ds'
SameDeltas _ _ = ⊥

module _ (n : ℕ) where
  watcher_extends : (d : Delta) (s : ℕ) (pending : Bytes) (m0 m new : Telling) → TellsWatcher d n s pending m new
      → Extends m0 m → Extends m0 new
  watcher_extends d s pending m0 m new (inl h) x = extends_part m0 m new s end_slow (ap (λ (k : Telling). k.queued) h.1) x
  watcher_extends d s pending m0 m new (inr (inl h)) x = extends_part m0 m new s _ (ap (λ (k : Telling). k.queued) h.1) x
  watcher_extends d s pending m0 m new (inr (inr h)) x = extends_part m0 m new s _ (ap (λ (k : Telling). k.queued) h.4) x

  session_extends : (d : Delta) (m0 m : Telling) (s : ℕ) (new : Telling) → TellsSession d n m s new → Extends m0 m
      → Extends m0 new
  session_extends d m0 m s new tells x = by (watcher_of m (listed_name d.query) s) tells
    where
      by : (o : Option Session) → MatchOption o (new ≡ m) (λ y. TellsWatcher d n s y.pending m new) → Extends m0 new
      by None same = subst (λ (k : Telling). Extends m0 k) (sym same) x
      by (Some y) told = watcher_extends d s y.pending m0 m new told x

  watcher_same : (d d' : Delta) (s : ℕ) (a b : Bytes) (m m' new new' : Telling) → SameDelta d d' → length a ≡ length b
      → AsFar m m' → IsClean new → IsClean new' → TellsWatcher d n s a m new → TellsWatcher d' n s b m' new'
      → AsFar new new'
  watcher_same d d' s a b m m' new new' same long far clean clean' (inl h) (inl k) =
      subst (λ (x : Telling). AsFar x new') (sym h.1)
      (subst (λ (x : Telling). AsFar (ends_more s end_slow Slow m) x) (sym k.1) (far_ends s end_slow Slow m m' far))
  watcher_same d d' s a b m m' new new' same long far clean clean' (inl h) (inr (inl k)) =
      absurd (omega (arith, h.0, k.0, long))
  watcher_same d d' s a b m m' new new' same long far clean clean' (inr (inl h)) (inl k) =
      absurd (omega (arith, h.0, k.0, long))
  watcher_same d d' s a b m m' new new' same long far clean clean' (inr (inl h)) (inr (inl k)) =
      let text = text_of (delta_lines (listed_name d.query) d.changes n) in
      let text' = text_of (delta_lines (listed_name d'.query) d'.changes n) in
      let name = ap listed_name same.0 in
      let other = ap (λ q. text_of (delta_lines q d'.changes n)) name in
      let deltas : SameText text text' =
      are_deltas (listed_name d.query) d.changes d'.changes n same.1 refl (sym other) in
      subst (λ (x : Telling). AsFar x new') (sym h.1)
      (subst (λ (x : Telling). AsFar (says_more s text m) x) (sym k.1)
      (far_says s text text' m m' deltas
      (same_length (listed_name d.query) d.changes d'.changes n same.1 ∙ ap length other) far))
  watcher_same d d' s a b m m' new new' same long far clean clean' (inr (inr h)) k =
      absurd (unclean m.queued s (text_of (change_lines (listed_name d.query) h.1))
      (subst (λ (x : Telling). IsClean x) h.4 clean))
  watcher_same d d' s a b m m' new new' same long far clean clean' (inl h) (inr (inr k)) =
      absurd (unclean m'.queued s (text_of (change_lines (listed_name d'.query) k.1))
      (subst (λ (x : Telling). IsClean x) k.4 clean'))
  watcher_same d d' s a b m m' new new' same long far clean clean' (inr (inl h)) (inr (inr k)) =
      absurd (unclean m'.queued s (text_of (change_lines (listed_name d'.query) k.1))
      (subst (λ (x : Telling). IsClean x) k.4 clean'))

  session_same : (d d' : Delta) (s : ℕ) (m m' new new' : Telling) → SameDelta d d' → AsFar m m'
      → IsClean new → IsClean new' → TellsSession d n m s new → TellsSession d' n m' s new' → AsFar new new'
  session_same d d' s m m' new new' same far clean clean' h k =
      by (session_of m.state s)
      (subst (λ o. MatchOption (watching (listed_name d.query) o) (new ≡ m) (λ x. TellsWatcher d n s x.pending m new))
      (queued_all m.state m.queued s) h)
      (subst (λ q. MatchOption (watching q (option_map (gaining (to_session s m'.queued)) (session_of m.state s))) (new' ≡ m')
      (λ x. TellsWatcher d' n s x.pending m' new')) (sym (ap listed_name same.0))
      (subst (λ (st : State). MatchOption (watching (listed_name d'.query) (option_map (gaining (to_session s m'.queued))
      (session_of st s))) (new' ≡ m') (λ x. TellsWatcher d' n s x.pending m' new')) (sym far.state)
      (subst (λ o. MatchOption (watching (listed_name d'.query) o) (new' ≡ m') (λ x. TellsWatcher d' n s x.pending m' new'))
      (queued_all m'.state m'.queued s) k)))
    where
      stays : new ≡ m → new' ≡ m' → AsFar new new'
      stays h k = subst (λ (x : Telling). AsFar x new') (sym h) (subst (λ (x : Telling). AsFar m x) (sym k) far)

      by_watch : (x : Session) (c : Bool)
          → MatchOption (cond c (Some (gaining (to_session s m.queued) x)) None) (new ≡ m) (λ y. TellsWatcher d n s y.pending m new)
          → MatchOption (cond c (Some (gaining (to_session s m'.queued) x)) None) (new' ≡ m')
          (λ y. TellsWatcher d' n s y.pending m' new') → AsFar new new'
      by_watch x false h k = stays h k
      by_watch x true h k =
          watcher_same d d' s (x.pending ++ to_session s m.queued) (x.pending ++ to_session s m'.queued) m m' new new' same
          (length-append x.pending (to_session s m.queued) ∙ ap (λ i. length x.pending + i) (far.long s)
          ∙ sym (length-append x.pending (to_session s m'.queued))) far clean clean' h k

      by : (o : Option Session)
          → MatchOption (watching (listed_name d.query) (option_map (gaining (to_session s m.queued)) o)) (new ≡ m)
          (λ x. TellsWatcher d n s x.pending m new)
          → MatchOption (watching (listed_name d.query) (option_map (gaining (to_session s m'.queued)) o)) (new' ≡ m')
          (λ x. TellsWatcher d' n s x.pending m' new') → AsFar new new'
      by None h k = stays h k
      by (Some x) h k = by_watch x (is_watching (listed_name d.query) x) h k

  -- ---- All sessions, and all deltas.

  sessions_extend : (d : Delta) (m0 : Telling) (ids : List ℕ) (m new : Telling) → Walk (TellsSession d n) m ids new
      → Extends m0 m → Extends m0 new
  sessions_extend d m0 ids m new walk x =
      walk_keeps (TellsSession d n) (λ (k : Telling). Extends m0 k) (λ a s b tells y. session_extends d m0 a s b tells y)
      m ids new walk x

  sessions_same : (d d' : Delta) (ids : List ℕ) (m m' new new' : Telling) → SameDelta d d' → AsFar m m'
      → IsClean new → IsClean new' → Walk (TellsSession d n) m ids new → Walk (TellsSession d' n) m' ids new' → AsFar new new'
  sessions_same d d' [] m m' new new' same far clean clean' h k =
      subst (λ (x : Telling). AsFar x new') (sym h) (subst (λ (x : Telling). AsFar m x) (sym k) far)
  sessions_same d d' (s ∷ ids) m m' new new' same far clean clean' h k =
      let before = clean_before h.0 new (sessions_extend d h.0 ids h.0 new h.2 (extends_none h.0)) clean in
      let before' = clean_before k.0 new' (sessions_extend d' k.0 ids k.0 new' k.2 (extends_none k.0)) clean' in
      sessions_same d d' ids h.0 k.0 new new' same
      (session_same d d' s m m' h.0 k.0 same far before before' h.1 k.1) clean clean' h.2 k.2

  deltas_extend : (m0 : Telling) (ds : List Delta) (m new : Telling) → Walk (TellsDelta n) m ds new → Extends m0 m
      → Extends m0 new
  deltas_extend m0 ds m new walk x =
      walk_keeps (TellsDelta n) (λ (k : Telling). Extends m0 k)
      (λ a d b tells y. sessions_extend d m0 (state_ids a.state) a b tells y) m ds new walk x

  deltas_same : (ds ds' : List Delta) (m m' new new' : Telling) → SameDeltas ds ds' → AsFar m m' → IsClean new → IsClean new'
      → Walk (TellsDelta n) m ds new → Walk (TellsDelta n) m' ds' new' → AsFar new new'
  deltas_same [] [] m m' new new' same far clean clean' h k =
      subst (λ (x : Telling). AsFar x new') (sym h) (subst (λ (x : Telling). AsFar m x) (sym k) far)
  deltas_same (d ∷ ds) (d' ∷ ds') m m' new new' same far clean clean' h k =
      let before = clean_before h.0 new (deltas_extend h.0 ds h.0 new h.2 (extends_none h.0)) clean in
      let before' = clean_before k.0 new' (deltas_extend k.0 ds' k.0 new' k.2 (extends_none k.0)) clean' in
      let ids = ap state_ids far.state in
      deltas_same ds ds' h.0 k.0 new new' same.1
      (sessions_same d d' (state_ids m.state) m m' h.0 k.0 same.0 far before before' h.1
      (subst (λ is. Walk (TellsSession d' n) m' is k.0) (sym ids) k.1)) clean clean' h.2 k.2
  deltas_same [] (d ∷ ds) m m' new new' same far clean clean' h k = absurd same
  deltas_same (d ∷ ds) [] m m' new new' same far clean clean' h k = absurd same

-- ---- The whole change.

deltas_of : (P : Delta → Type 0) (ds ds' : List Delta) → map (λ (d : Delta). d.query) ds ≡ map (λ (d : Delta). d.query) ds'
    → ((d d' : Delta) → d.query ≡ d'.query → P d → P d' → SameDelta d d') → All P ds → All P ds' → SameDeltas ds ds'
deltas_of P [] [] same one h k = tt
deltas_of P [] (d ∷ ds) same one h k =
    absurd (let none : [] ≡ d.query ∷ map (λ (x : Delta). x.query) ds = same in cc)
deltas_of P (d ∷ ds) [] same one h k =
    absurd (let none : d.query ∷ map (λ (x : Delta). x.query) ds ≡ [] = same in cc)
deltas_of P (d ∷ ds) (d' ∷ ds') same one h k =
    let whole : d.query ∷ map (λ (x : Delta). x.query) ds ≡ d'.query ∷ map (λ (x : Delta). x.query) ds' = same in
    let first : d.query ≡ d'.query = cc in
    let rest : map (λ (x : Delta). x.query) ds ≡ map (λ (x : Delta). x.query) ds' = cc in (
      one d d' first (All-head P d ds h) (All-head P d' ds' k),
      deltas_of P ds ds' rest one (All-tail P d ds h) (All-tail P d' ds' k),
    )

are_same : (before : List Relation) (change : RowsChange) (queries : List Listed) (ds ds' : List Delta)
    → AreDeltas before change queries ds → AreDeltas before change queries ds' → SameDeltas ds ds'
are_same before change queries ds ds' h k =
    deltas_of (λ (d : Delta). IsDelta (AnswersOf before d.query) (AnswersOf change.after d.query) d.changes) ds ds'
    (h.of_queries ∙ sym k.of_queries)
    (λ d d' same a b. (
      same,
      same_changes (AnswersOf before d.query) (AnswersOf change.after d.query) d.changes d'.changes a
          (subst (λ q. IsDelta (AnswersOf before q) (AnswersOf change.after q) d'.changes) (sym same) b),
    ))
    h.are_deltas k.are_deltas

listed_same : (before : List Relation) (affects : RowsChange → List Listed) (o : Option RowsChange) (ds ds' : List Delta)
    → ListsDeltas before affects o ds → ListsDeltas before affects o ds' → SameDeltas ds ds'
listed_same before affects None ds ds' h k =
    subst (λ xs. SameDeltas xs ds') (sym h) (subst (λ xs. SameDeltas [] xs) (sym k) tt)
listed_same before affects (Some change) ds ds' h k = are_same before change (affects change) ds ds' h k

told_same : (made : Bool) (ds ds' : List Delta) → SameDeltas ds ds' → SameDeltas (cond made ds []) (cond made ds' [])
told_same true ds ds' h = h
told_same false ds ds' h = tt

-- the reply, where the session goes on
replies_extend : (s : ℕ) (reply : Bytes) (m0 m new : Telling) → RepliesLast s reply m new → Extends m0 m → Extends m0 new
replies_extend s reply m0 m new replies x = by (session_of m.state s) replies
  where
    by_cause : (c : Option EndCause) → MatchOption c
        ((new ≡ says_more s reply m)
        ⊎ ((list_any (λ part. part.0 == s) m.queued ≡ true) × (new ≡ ends_more s end_memory Memory m))) (λ c. new ≡ m)
        → Extends m0 new
    by_cause None (inl h) = extends_part m0 m new s reply (ap (λ (k : Telling). k.queued) h) x
    by_cause None (inr h) = extends_part m0 m new s end_memory (ap (λ (k : Telling). k.queued) h.1) x
    by_cause (Some c) h = subst (λ (k : Telling). Extends m0 k) (sym h) x

    by : (o : Option Session) → IsSomeAnd o (λ y. MatchOption y.cause
        ((new ≡ says_more s reply m)
        ⊎ ((list_any (λ part. part.0 == s) m.queued ≡ true) × (new ≡ ends_more s end_memory Memory m))) (λ c. new ≡ m))
        → Extends m0 new
    by None h = absurd h
    by (Some y) h = by_cause y.cause h

abbrev Replies : ℕ → Bytes → Telling → Telling → Option EndCause → Type 0
Replies s reply m new c = MatchOption c ((new ≡ says_more s reply m)
    ⊎ ((list_any (λ part. part.0 == s) m.queued ≡ true) × (new ≡ ends_more s end_memory Memory m))) (λ c. new ≡ m)

cause_same : (s : ℕ) (reply : Bytes) (m m' new new' : Telling) (c : Option EndCause) → AsFar m m' → IsClean new → IsClean new'
    → Replies s reply m new c → Replies s reply m' new' c → AsFar new new'
cause_same s reply m m' new new' (Some c) far clean clean' h k =
    subst (λ (x : Telling). AsFar x new') (sym h) (subst (λ (x : Telling). AsFar m x) (sym k) far)
cause_same s reply m m' new new' None far clean clean' (inl h) (inl k) =
    subst (λ (x : Telling). AsFar x new') (sym h)
    (subst (λ (x : Telling). AsFar (says_more s reply m) x) (sym k) (far_says s reply reply m m' (is_equal refl) refl far))
cause_same s reply m m' new new' None far clean clean' (inr h) k =
    absurd (unclean m.queued s [] (subst (λ (x : Telling). IsClean x) h.1 clean))
cause_same s reply m m' new new' None far clean clean' (inl h) (inr k) =
    absurd (unclean m'.queued s [] (subst (λ (x : Telling). IsClean x) k.1 clean'))

replies_same : (s : ℕ) (reply : Bytes) (m m' new new' : Telling) → AsFar m m' → IsClean new → IsClean new'
    → RepliesLast s reply m new → RepliesLast s reply m' new' → AsFar new new'
replies_same s reply m m' new new' far clean clean' h k =
    by (session_of m.state s) h
    (subst (λ (st : State). IsSomeAnd (session_of st s) (λ y. Replies s reply m' new' y.cause)) (sym far.state) k)
  where
    by : (o : Option Session) → IsSomeAnd o (λ y. Replies s reply m new y.cause)
        → IsSomeAnd o (λ y. Replies s reply m' new' y.cause) → AsFar new new'
    by None h k = absurd h
    by (Some y) h k = cause_same s reply m m' new new' y.cause far clean clean' h k

pub change_same : (old : State) (s : ℕ) (outcome : RowsOutcome) (store : Store) (reply : Bytes) (e e' : Effect)
    (new new' : State) → All (λ (q : ℕ × Bytes). IsNoRefusal q.1) e.queued → All (λ (q : ℕ × Bytes). IsNoRefusal q.1) e'.queued
    → ChangeStep old s outcome store reply e new → ChangeStep old s outcome store reply e' new'
    → SameQueued e.queued e'.queued × (new ≡ new')
change_same old s outcome store reply e e' new new' told told' h k =
    let clean = subst (λ qs. All (λ (q : ℕ × Bytes). IsNoRefusal q.1) qs) h.queued told in
    let clean' = subst (λ qs. All (λ (q : ℕ × Bytes). IsNoRefusal q.1) qs) k.queued told' in
    let before = clean_before h.told h.last (replies_extend s reply h.told h.told h.last h.replies (extends_none h.told)) clean in
    let before' = clean_before k.told k.last (replies_extend s reply k.told k.told k.last k.replies (extends_none k.told)) clean' in
    let start : Telling = record { state = changed old (tried outcome) store; queued = [] } in
    let none : AsFar start start = record { state = refl; parts = tt; long = λ t. refl } in
    let listed = listed_same old.store.relations (affected old) (tried outcome) h.deltas k.deltas h.listed k.listed in
    let far = deltas_same store.seq (cond (is_made outcome) h.deltas []) (cond (is_made outcome) k.deltas []) start start
    h.told k.told (told_same (is_made outcome) h.deltas k.deltas listed) none before before' h.tells k.tells in
    let last = replies_same s reply h.told k.told h.last k.last far clean clean' h.replies k.replies in (
      subst (λ qs. SameQueued qs e'.queued) (sym h.queued) (subst (λ qs. SameQueued h.last.queued qs) (sym k.queued) last.parts),
      h.state ∙ last.state ∙ sym k.state,
    )
