-- An accepted change of rows, for each client of the core.
use Rattle.std.specs.Prelude.{ℕ, List, [], ◌∷◌, ◌++◌, ◌==◌, ◌≡◌, ◌≢◌, ◌⊎◌, ◌↔◌, ◌&&◌, Bool, true, false, cond, Option, None}
use Rattle.std.specs.Prelude.{Some, All, AllPairs, Contains, filter, map, find, suc}
use Rattle.std.specs.List.{list_any}
use Rattle.std.specs.Option.{option_map}
use Rattle.std.proofs.Common.{refl, sym, ap, ap₂, ◌∙◌, subst, inl, inr}
use Rattle.std.proofs.lemmas.Bool.{eqb-true, and_from, and_parts}
use Rattle.std.proofs.lemmas.List.Elements.{All-nil, All-cons, All-head, All-tail, All-contains}
use Rattle.std.proofs.lemmas.List.Kept.{AllPairs-cons}
use Rattle.djq_model.specs.Data.{Bytes, bytes_eq}
use Rattle.djq_model.specs.Listed.{Listed, listed_name, AnswersOf, listed_of}
use Rattle.djq_model.specs.declared.relation.Relation.{Relation}
use Rattle.djq_protocol.specs.declared.answer.EndCause.{EndCause}
use Rattle.djq_protocol.specs.Grammar.{Reading}
use Rattle.djq_store_spec.specs.Store.{Store}
use Rattle.djq_store_spec.specs.Delta.{Change, IsDelta}
use Rattle.djq_store_spec.specs.DeltaCost.{Delta}
use Rattle.djq_store_spec.specs.Changes.{RowsChange, accepted as is_accepted, is_outdated}
use Rattle.djq_answer_laws.proofs.Lists.{kept_there, mapped_there, hold_each, pairs_head, pairs_tail}
use Rattle.djq_machine.specs.State.{Session, State, session_of, with_session, state_ids, ended_by}
use Rattle.djq_machine.specs.Effect.{Effect}
use Rattle.djq_machine.specs.Call.{IsOpen}
use Rattle.djq_machine.specs.Watch.{is_watching, Telling, ChangeStep}
use Rattle.djq_run_laws.specs.Moved.{EndsByRun}
use Rattle.djq_run_laws.specs.Rising.{AreRising}
use Rattle.djq_run_laws.specs.Sound.{AreApart, IsSoundStore}
use Rattle.djq_run_laws.specs.Watched.{parts_for}
use Rattle.djq_run_laws.proofs.Lists.{found_there, found_passes, any_there, mapped_from, beginning, change_keeps}
use Rattle.djq_run_laws.proofs.Deltas.{change_store}
use Rattle.djq_abstract.specs.Rows.{AnswersOver, IsAffected, AreRowsChanged}
use Rattle.djq_abstract.specs.Deltas.{AnswerDelta, IsDeltaBetween}
use Rattle.djq_abstract.specs.Clients.{Client, Core, nobody, client_overtaken, CoreMessage, ok, delta, Sent, only_sent}
use Rattle.djq_abstract.specs.Moves.{StaysConnected, ChangesDatabase}
use Rattle.djq_abstract.proofs.Names.{same_name, eq_self, found_named}
use Rattle.djq_refinement.specs.View.{database_of, client_by, client_in, core_of}
use Rattle.djq_refinement.specs.Spelling.{SpellsMessage, AreSpelled}
use Rattle.djq_refinement.proofs.Clients.{client_with}
use Rattle.djq_refinement.proofs.Telling.{delta_text, watched_texts, HasParts, deltas_walk, reply_part, last_parts}
use Rattle.djq_refinement.proofs.Telling.{WatchesNothing, silent_deltas, silent_last}
use Rattle.djq_refinement.proofs.DeltaMessages.{delta_seen, delta_between}
use Rattle.djq_refinement.proofs.ChangeSteps.{affects, affects_found, behind_change, found_behind, overtaken_client}
use Rattle.djq_refinement.proofs.ChangeSteps.{nobody_connected}

-- ---- lists of which names are apart

from_map : {A B : Type 0} (P : B → Type 0) (f : A → B) (xs : List A) → All P (map f xs) → All (λ x. P (f x)) xs
from_map P f [] h = All-nil (λ x. P (f x))
from_map P f (x ∷ xs) h = All-cons (λ y. P (f y)) x xs (All-head P (f x) (map f xs) h)
    (from_map P f xs (All-tail P (f x) (map f xs) h))

all_filtered : {A B : Type 0} (P : B → Type 0) (f : A → B) (p : A → Bool) (xs : List A) → All P (map f xs)
    → All P (map f (filter p xs))
all_filtered P f p [] h = h
all_filtered P f p (x ∷ xs) h = by (p x) (all_filtered P f p xs (All-tail P (f x) (map f xs) h))
  where
    by : (b : Bool) → All P (map f (filter p xs)) → All P (map f (cond b (x ∷ filter p xs) (filter p xs)))
    by true rest = All-cons P (f x) (map f (filter p xs)) (All-head P (f x) (map f xs) h) rest
    by false rest = rest

pairs_filtered : {A B : Type 0} (R : B → B → Type 0) (f : A → B) (p : A → Bool) (xs : List A) → AllPairs R (map f xs)
    → AllPairs R (map f (filter p xs))
pairs_filtered R f p [] h = h
pairs_filtered R f p (x ∷ xs) h =
    by (p x) (pairs_filtered R f p xs (pairs_tail R (f x) (map f xs) h))
    (all_filtered (R (f x)) f p xs (pairs_head R (f x) (map f xs) h))
  where
    by : (b : Bool) → AllPairs R (map f (filter p xs)) → All (R (f x)) (map f (filter p xs))
        → AllPairs R (map f (cond b (x ∷ filter p xs) (filter p xs)))
    by true rest first = AllPairs-cons R (f x) (map f (filter p xs)) first rest
    by false rest first = rest

map_twice : {A B C : Type 0} (f : A → B) (g : B → C) (xs : List A) → map g (map f xs) ≡ map (λ x. g (f x)) xs
map_twice f g [] = refl
map_twice f g (x ∷ xs) = ap (λ ys. g (f x) ∷ ys) (map_twice f g xs)

-- each is what is found under its name
module _ {A : Type 0} (name : A → Bytes) where
  abbrev pub named : List A → Bytes → Option A
  named xs n = find (λ y. bytes_eq (name y) n) xs

  later_named : (x : A) (xs zs : List A) → All (λ z. name x ≢ name z) zs → All (λ z. named xs (name z) ≡ Some z) zs
      → All (λ z. named (x ∷ xs) (name z) ≡ Some z) zs
  later_named x xs [] apart h = All-nil (λ z. named (x ∷ xs) (name z) ≡ Some z)
  later_named x xs (z ∷ zs) apart h =
      All-cons (λ y. named (x ∷ xs) (name y) ≡ Some y) z zs
      (by (bytes_eq (name x) (name z)) refl (All-head (λ y. named xs (name y) ≡ Some y) z zs h))
      (later_named x xs zs (All-tail (λ y. name x ≢ name y) z zs apart)
      (All-tail (λ y. named xs (name y) ≡ Some y) z zs h))
    where
      by : (b : Bool) → bytes_eq (name x) (name z) ≡ b → named xs (name z) ≡ Some z
          → cond b (Some x) (named xs (name z)) ≡ Some z
      by true e rest = absurd (All-head (λ y. name x ≢ name y) z zs apart (same_name (name x) (name z) e))
      by false e rest = rest

  pub each_named : (xs : List A) → AreApart (map name xs) → All (λ x. named xs (name x) ≡ Some x) xs
  each_named [] h = All-nil (λ x. named [] (name x) ≡ Some x)
  each_named (x ∷ xs) h =
      All-cons (λ y. named (x ∷ xs) (name y) ≡ Some y) x xs
      (ap (λ b. cond b (Some x) (named xs (name x))) (eq_self (name x)))
      (later_named x xs xs (from_map (λ n. name x ≢ n) name xs (pairs_head (λ a b. a ≢ b) (name x) (map name xs) h))
      (each_named xs (pairs_tail (λ a b. a ≢ b) (name x) (map name xs) h)))

pub spelled_append : (S : CoreMessage → Bytes → Type 0) (ms ns : List CoreMessage) (ts us : List Bytes)
    → AreSpelled S ms ts → AreSpelled S ns us → AreSpelled S (ms ++ ns) (ts ++ us)
spelled_append S [] ns [] us h k = k
spelled_append S (m ∷ ms) ns (t ∷ ts) us h k = (h.0, spelled_append S ms ns ts us h.1 k)
spelled_append S [] ns (t ∷ ts) us h k = absurd h
spelled_append S (m ∷ ms) ns [] us h k = absurd h

-- ---- the change

abbrev changes_in : Option Delta → List Change
changes_in None = []
changes_in (Some d) = d.changes

module _ (old : State) (s : ℕ) (change : RowsChange) (store : Store) (reply : Bytes) (e : Effect) (new : State)
    (h : ChangeStep old s (is_accepted change) store reply e new) where
  abbrev queries : List Listed
  queries = old.store.queries

  -- what a session is sent
  abbrev delta_of : Bytes → AnswerDelta
  delta_of n = delta_seen (changes_in (named (λ (d : Delta). listed_name d.query) h.deltas n))

  abbrev deltas_for : Client → ℕ → List CoreMessage
  deltas_for y n = map (λ m. delta m (delta_of m) n)
      (filter (λ m. affects queries change m && y.subscribed m) (map listed_name queries))

  abbrev pub sent_by : Sent
  sent_by = λ t. deltas_for ((core_of old).client t) new.store.seq ++ only_sent s (ok ∷ []) t

  -- the queries of which a delta is listed
  abbrev is_listed : Listed → Bool
  is_listed q = is_outdated change q && list_any (is_watching (listed_name q)) old.sessions

  module _ (names : AreApart (map listed_name old.store.queries)) where
    delta_names : AreApart (map (λ (d : Delta). listed_name d.query) h.deltas)
    delta_names =
        subst AreApart (map_twice (λ (d : Delta). d.query) listed_name h.deltas)
        (subst (λ (qs : List Listed). AreApart (map listed_name qs)) (sym h.listed.of_queries)
        (pairs_filtered (λ a b. a ≢ b) listed_name is_listed queries names))

    deltas_found : All (λ (d : Delta). delta_of (listed_name d.query) ≡ delta_seen d.changes) h.deltas
    deltas_found = hold_each (λ (d : Delta). delta_of (listed_name d.query) ≡ delta_seen d.changes) h.deltas
        (λ d c. ap (λ o. delta_seen (changes_in o))
        (All-contains (λ (k : Delta). named (λ (d : Delta). listed_name d.query) h.deltas (listed_name k.query) ≡ Some k)
        h.deltas d (each_named (λ (k : Delta). listed_name k.query) h.deltas delta_names) c))

    each_affected : All (λ (q : Listed). affects queries change (listed_name q) ≡ is_outdated change q) queries
    each_affected = hold_each (λ (q : Listed). affects queries change (listed_name q) ≡ is_outdated change q) queries
        (λ q c. affects_found queries change (listed_name q) q
        (All-contains (λ (k : Listed). listed_of queries (listed_name k) ≡ Some k) queries q
        (each_named listed_name queries names) c))

  -- a session that watches is one of those that do
  any_watches : (t : ℕ) (y : Session) (q : Bytes) → session_of old t ≡ Some y → is_watching q y ≡ true
      → list_any (is_watching q) old.sessions ≡ true
  any_watches t y q found w = any_there (is_watching q) old.sessions y
      (found_there (λ (z : Session). z.id == t) old.sessions y found) w

  -- the deltas are spelled
  module _ (seen : Core) (r : Reading) (t : ℕ) (y : Session) (found : session_of old t ≡ Some y) where
    abbrev Spelling : CoreMessage → Bytes → Type 0
    Spelling = SpellsMessage s r seen (core_of new)

    abbrev messages : ℕ → List Listed → List CoreMessage
    messages n qs = map (λ m. delta m (delta_of m) n)
        (filter (λ m. affects queries change m && is_watching m y) (map listed_name qs))

    abbrev texts : ℕ → List Delta → List Bytes
    texts n ds = map (delta_text n) (filter (λ d. is_watching (listed_name d.query) y) ds)

    deltas_spelled : (n : ℕ) (qs : List Listed) (ds : List Delta) → map (λ (d : Delta). d.query) ds ≡ filter is_listed qs
        → All (λ (q : Listed). affects queries change (listed_name q) ≡ is_outdated change q) qs
        → All (λ (d : Delta). delta_of (listed_name d.query) ≡ delta_seen d.changes) ds
        → AreSpelled Spelling (messages n qs) (texts n ds)
    deltas_spelled n [] [] same aff of = tt
    deltas_spelled n [] (d ∷ ds) same aff of = absurd cc
    deltas_spelled n (q ∷ qs) ds same aff of =
        by (is_outdated change q) refl (is_watching (listed_name q) y) refl
        (list_any (is_watching (listed_name q)) old.sessions) refl ds same of
        (λ ks k o. deltas_spelled n qs ks k (All-tail Affected q qs aff) o)
      where
        Affected : Listed → Type 0
        Affected p = affects queries change (listed_name p) ≡ is_outdated change p

        Known : Delta → Type 0
        Known d = delta_of (listed_name d.query) ≡ delta_seen d.changes

        rest_messages : List Bytes
        rest_messages = filter (λ m. affects queries change m && is_watching m y) (map listed_name qs)

        -- the query isn't due to this session
        skips : (affects queries change (listed_name q) && is_watching (listed_name q) y) ≡ false → (ks : List Delta)
            → AreSpelled Spelling (messages n qs) (texts n ks) → AreSpelled Spelling (messages n (q ∷ qs)) (texts n ks)
        skips e ks k = subst (λ b. AreSpelled Spelling (map (λ m. delta m (delta_of m) n)
            (cond b (listed_name q ∷ rest_messages) rest_messages)) (texts n ks)) (sym e) k

        -- it is, and the first of these deltas is its
        takes : affects queries change (listed_name q) ≡ true → is_watching (listed_name q) y ≡ true → (d : Delta)
            (ks : List Delta) → d.query ≡ q → Known d → AreSpelled Spelling (messages n qs) (texts n ks)
            → AreSpelled Spelling (messages n (q ∷ qs)) (texts n (d ∷ ks))
        takes a w d ks is known k =
            let due : (affects queries change (listed_name q) && is_watching (listed_name q) y) ≡ true =
            and_from (affects queries change (listed_name q)) (is_watching (listed_name q) y) a w in
            let its : is_watching (listed_name d.query) y ≡ true =
            ap (λ (p : Listed). is_watching (listed_name p) y) is ∙ w in
            subst (λ b. AreSpelled Spelling (map (λ m. delta m (delta_of m) n)
            (cond b (listed_name q ∷ rest_messages) rest_messages)) (texts n (d ∷ ks))) (sym due)
            (subst (λ b. AreSpelled Spelling (delta (listed_name q) (delta_of (listed_name q)) n ∷ messages n qs)
            (map (delta_text n) (cond b (d ∷ filter (λ k. is_watching (listed_name k.query) y) ks)
            (filter (λ k. is_watching (listed_name k.query) y) ks)))) (sym its) (
              subst (λ (p : Listed). Spelling (delta (listed_name p) (delta_of (listed_name p)) n) (delta_text n d)) is (
                d.changes,
                ap (λ (c : AnswerDelta). c.inserted) (sym known),
                ap (λ (c : AnswerDelta). c.deleted) (sym known),
                refl,
              ),
              k,
            ))

        -- the first of these deltas isn't due to this session
        passes : is_watching (listed_name q) y ≡ false → (d : Delta) (ks : List Delta) → d.query ≡ q
            → AreSpelled Spelling (messages n (q ∷ qs)) (texts n ks)
            → AreSpelled Spelling (messages n (q ∷ qs)) (texts n (d ∷ ks))
        passes w d ks is k =
            let its : is_watching (listed_name d.query) y ≡ false =
            ap (λ (p : Listed). is_watching (listed_name p) y) is ∙ w in
            subst (λ b. AreSpelled Spelling (messages n (q ∷ qs))
            (map (delta_text n) (cond b (d ∷ filter (λ k. is_watching (listed_name k.query) y) ks)
            (filter (λ k. is_watching (listed_name k.query) y) ks)))) (sym its) k

        not_due : affects queries change (listed_name q) ≡ false
            → (affects queries change (listed_name q) && is_watching (listed_name q) y) ≡ false
        not_due a = ap (λ b. b && is_watching (listed_name q) y) a

        not_watched : is_watching (listed_name q) y ≡ false
            → (affects queries change (listed_name q) && is_watching (listed_name q) y) ≡ false
        not_watched w = ap (λ b. affects queries change (listed_name q) && b) w ∙ and_none (affects queries change (listed_name q))
          where
            and_none : (b : Bool) → (b && false) ≡ false
            and_none true = refl
            and_none false = refl

        head_affected : affects queries change (listed_name q) ≡ is_outdated change q
        head_affected = All-head Affected q qs aff

        with_delta : (w : Bool) → is_watching (listed_name q) y ≡ w → is_outdated change q ≡ true → (ks : List Delta)
            → map (λ (d : Delta). d.query) ks ≡ q ∷ filter is_listed qs → All Known ks
            → ((js : List Delta) → map (λ (d : Delta). d.query) js ≡ filter is_listed qs → All Known js
            → AreSpelled Spelling (messages n qs) (texts n js))
            → AreSpelled Spelling (messages n (q ∷ qs)) (texts n ks)
        with_delta w is a [] k o more = absurd cc
        with_delta true is a (d ∷ js) k o more =
            let first : d.query ≡ q = cc in
            let rest : map (λ (c : Delta). c.query) js ≡ filter is_listed qs = cc in
            takes (head_affected ∙ a) is d js first (All-head Known d js o) (more js rest (All-tail Known d js o))
        with_delta false is a (d ∷ js) k o more =
            let first : d.query ≡ q = cc in
            let rest : map (λ (c : Delta). c.query) js ≡ filter is_listed qs = cc in
            passes is d js first (skips (not_watched is) js (more js rest (All-tail Known d js o)))

        by : (a : Bool) → is_outdated change q ≡ a → (w : Bool) → is_watching (listed_name q) y ≡ w
            → (v : Bool) → list_any (is_watching (listed_name q)) old.sessions ≡ v → (ks : List Delta)
            → map (λ (d : Delta). d.query) ks
            ≡ cond (is_outdated change q && list_any (is_watching (listed_name q)) old.sessions) (q ∷ filter is_listed qs)
            (filter is_listed qs) → All Known ks
            → ((js : List Delta) → map (λ (d : Delta). d.query) js ≡ filter is_listed qs → All Known js
            → AreSpelled Spelling (messages n qs) (texts n js))
            → AreSpelled Spelling (messages n (q ∷ qs)) (texts n ks)
        by false a w i v j ks k o more =
            skips (not_due (head_affected ∙ a)) ks
            (more ks (k ∙ ap (λ b. cond (b && list_any (is_watching (listed_name q)) old.sessions)
            (q ∷ filter is_listed qs) (filter is_listed qs)) a) o)
        by true a w i true j ks k o more =
            with_delta w i a ks (k ∙ ap₂ (λ b c. cond (b && c) (q ∷ filter is_listed qs) (filter is_listed qs)) a j) o more
        by true a true i false j ks k o more =
            let there : list_any (is_watching (listed_name q)) old.sessions ≡ true = any_watches t y (listed_name q) found i in
            absurd (cc (there, j))
        by true a false i false j ks k o more =
            skips (not_watched i) ks
            (more ks (k ∙ ap₂ (λ b c. cond (b && c) (q ∷ filter is_listed qs) (filter is_listed qs)) a j) o)

  -- ---- each client

  module _ (names : AreApart (map listed_name old.store.queries)) (rising : AreRising old)
      (before : IsSoundStore old.store) (after : IsSoundStore store) (relations : store.relations ≡ change.after)
      (seen : Core) (r : Reading) (spells : SpellsMessage s r seen (core_of new) ok reply) (there : ((core_of old).client s).connected ≡ true) where
    abbrev start : Telling
    start = beginning old (is_accepted change) store

    new_store : new.store ≡ store
    new_store = change_store old s (is_accepted change) store reply e new h

    -- the delta of a query that a session watches is right
    right_delta : (t : ℕ) (y : Session) → session_of old t ≡ Some y → (n : Bytes) (q : Listed)
        → listed_of queries n ≡ Some q → (affects queries change n && is_watching n y) ≡ true
        → IsDeltaBetween (AnswersOver (core_of old).db q) (AnswersOver (core_of new).db q) (delta_of n)
    right_delta t y found n q is due =
        let both = and_parts (affects queries change n) (is_watching n y) due in
        let name : listed_name q ≡ n = found_named queries n q is in
        let outdated : is_outdated change q ≡ true = sym (affects_found queries change n q is) ∙ both.0 in
        let watched : is_watching (listed_name q) y ≡ true = ap (λ m. is_watching m y) name ∙ both.1 in
        let among : Contains (filter is_listed queries) q = kept_there is_listed queries q
        (and_from (is_outdated change q) (list_any (is_watching (listed_name q)) old.sessions) outdated
        (any_watches t y (listed_name q) found watched))
        (found_there (λ (l : Listed). bytes_eq (listed_name l) n) queries q is) in
        let d = mapped_from (λ (k : Delta). k.query) h.deltas q
        (subst (λ (qs : List Listed). Contains qs q) (sym h.listed.of_queries) among) in
        let known : delta_of (listed_name (d.0).query) ≡ delta_seen (d.0).changes =
        All-contains (λ (k : Delta). delta_of (listed_name k.query) ≡ delta_seen k.changes) h.deltas d.0
        (deltas_found names) d.1 in
        let its : delta_of n ≡ delta_seen (d.0).changes =
        ap delta_of (sym name ∙ ap listed_name (sym d.2)) ∙ known in
        let listed : IsDelta (AnswersOf old.store.relations (d.0).query) (AnswersOf change.after (d.0).query)
        (d.0).changes = All-contains (λ (k : Delta). IsDelta (AnswersOf old.store.relations k.query)
        (AnswersOf change.after k.query) k.changes) h.deltas d.0 h.listed.are_deltas d.1 in
        let of_q : IsDelta (AnswersOf old.store.relations q) (AnswersOf store.relations q) (d.0).changes =
        subst (λ (rs : List Relation). IsDelta (AnswersOf old.store.relations q) (AnswersOf rs q) (d.0).changes)
        (sym relations)
        (subst (λ (p : Listed). IsDelta (AnswersOf old.store.relations p) (AnswersOf change.after p) (d.0).changes)
        d.2 listed) in
        subst (λ (c : AnswerDelta). IsDeltaBetween (AnswersOver (core_of old).db q) (AnswersOver (core_of new).db q) c)
        (sym its)
        (subst (λ (k : Store). IsDeltaBetween (AnswersOver (core_of old).db q) (AnswersOver (database_of k.relations) q)
        (delta_seen (d.0).changes)) (sym new_store)
        (delta_between old.store store before after q (d.0).changes of_q))

    -- a client that isn't connected stays so, and is sent nothing
    stays_nobody : (t : ℕ) → (core_of old).client t ≡ nobody → (core_of new).client t ≡ nobody
    stays_nobody t none =
        ap (λ (st : State). client_in (session_of st t)) h.state
        ∙ change_keeps (λ (m : Telling). client_in (session_of m.state t) ≡ nobody) (λ m i text there k. k) ends old s
        (is_accepted change) store reply e new h
        (overtaken_client old change store t ∙ ap (client_overtaken (affects queries change)) none)
      where
        gone : (o : Option Session) (cause : EndCause) → client_in (option_map (ended_by cause) o) ≡ nobody
        gone None cause = refl
        gone (Some y) cause = refl

        ends : (m : Telling) (i : ℕ) (text : Bytes) (cause : EndCause) → EndsByRun cause → IsOpen m.state i
            → client_in (session_of m.state t) ≡ nobody
            → client_in (session_of (with_session m.state i (ended_by cause)) t) ≡ nobody
        ends m i text cause may there k = client_with m.state i (ended_by cause) (λ y. refl) t ∙ by (t == i)
          where
            by : (b : Bool) → cond b (client_in (option_map (ended_by cause) (session_of m.state i)))
                (client_in (session_of m.state t)) ≡ nobody
            by true = gone (session_of m.state i) cause
            by false = k

    none_due : (f : Bytes → Bool) (ns : List Bytes) → filter (λ n. f n && false) ns ≡ []
    none_due f [] = refl
    none_due f (n ∷ ns) = by (f n) (none_due f ns)
      where
        by : (b : Bool) → filter (λ m. f m && false) ns ≡ []
            → cond (b && false) (n ∷ filter (λ m. f m && false) ns) (filter (λ m. f m && false) ns) ≡ []
        by true k = k
        by false k = k

    nobody_sent : (t : ℕ) → (core_of old).client t ≡ nobody → sent_by t ≡ []
    nobody_sent t none =
        ap (λ (y : Client). deltas_for y new.store.seq ++ only_sent s (ok ∷ []) t) none
        ∙ ap (λ ns. map (λ m. delta m (delta_of m) new.store.seq) ns ++ only_sent s (ok ∷ []) t)
        (none_due (affects queries change) (map listed_name queries))
        ∙ by (t == s) refl
      where
        by : (b : Bool) → (t == s) ≡ b → cond b (ok ∷ []) [] ≡ []
        by false k = refl
        by true k =
            let no : ((core_of old).client s).connected ≡ false =
            ap (λ i. ((core_of old).client i).connected) (sym (eqb-true t s k)) ∙ ap (λ (y : Client). y.connected) none in
            absurd (cc (no, there))

    -- What the change is for a client: it stays connected and is sent what the parts spell, or it isn't connected.
    abbrev IsForClient : ℕ → Type 0
    IsForClient t =
        (StaysConnected (core_of old) (affects queries change) (core_of new) t (sent_by t) (only_sent s (ok ∷ []) t)
        × AreSpelled (SpellsMessage s r seen (core_of new)) (sent_by t) (parts_for t e.queued))
        ⊎ (((core_of new).client t ≡ nobody) × (((core_of old).client t).connected ≡ false → sent_by t ≡ []))

    for_nobody : (t : ℕ) → (core_of old).client t ≡ nobody → IsForClient t
    for_nobody t none = inr (stays_nobody t none, λ k. nobody_sent t none)

    -- of a session that goes on as the change begins
    module _ (t : ℕ) (y : Session) (found : session_of old t ≡ Some y) (going : y.cause ≡ None) where
      abbrev moved : Session
      moved = behind_change old change store.seq y

      is_client : (core_of old).client t ≡ client_by None y
      is_client = ap client_in found ∙ ap (λ c. client_by c y) going

      started : session_of start.state t ≡ Some moved
      started = found_behind old change store t ∙ ap (λ o. option_map (behind_change old change store.seq) o) found

      its_id : y.id ≡ t
      its_id = eqb-true y.id t (found_passes (λ (z : Session). z.id == t) old.sessions y found)

      same_ids : state_ids start.state ≡ state_ids old
      same_ids = map_twice (behind_change old change store.seq) (λ (z : Session). z.id) old.sessions

      parts : HasParts t moved going
          (watched_texts store.seq moved h.deltas ++ reply_part t moved going s reply) h.last
      parts =
          last_parts t moved going (watched_texts store.seq moved h.deltas) h.told s reply h.last h.replies
          (deltas_walk t moved going store.seq (state_ids old) rising
          (subst (λ (i : ℕ). Contains (state_ids old) i) its_id
          (mapped_there (λ (z : Session). z.id) old.sessions y
          (found_there (λ (z : Session). z.id == t) old.sessions y found))) [] h.deltas start h.told h.tells same_ids
          (inl (started, refl)))

      reply_spelled : (b : Bool) → AreSpelled (SpellsMessage s r seen (core_of new)) (cond b (ok ∷ []) []) (cond b (reply ∷ []) [])
      reply_spelled true = (spells, tt)
      reply_spelled false = tt

      spelled : AreSpelled (SpellsMessage s r seen (core_of new)) (sent_by t)
          (watched_texts store.seq moved h.deltas ++ reply_part t moved going s reply)
      spelled =
          subst (λ (k : Store). AreSpelled (SpellsMessage s r seen (core_of new))
          (deltas_for ((core_of old).client t) k.seq ++ only_sent s (ok ∷ []) t)
          (watched_texts store.seq moved h.deltas ++ reply_part t moved going s reply)) (sym new_store)
          (subst (λ (z : Client). AreSpelled (SpellsMessage s r seen (core_of new)) (deltas_for z store.seq ++ only_sent s (ok ∷ []) t)
          (watched_texts store.seq moved h.deltas ++ reply_part t moved going s reply)) (sym is_client)
          (spelled_append (SpellsMessage s r seen (core_of new)) (messages seen r t y found store.seq queries) (only_sent s (ok ∷ []) t)
          (texts seen r t y found store.seq h.deltas) (reply_part t moved going s reply)
          (deltas_spelled seen r t y found store.seq queries h.deltas h.listed.of_queries (each_affected names)
          (deltas_found names)) (reply_spelled (t == s))))

      for_going : IsForClient t
      for_going = by parts
        where
          by : HasParts t moved going (watched_texts store.seq moved h.deltas ++ reply_part t moved going s reply) h.last
              → IsForClient t
          by (inr over) = inr (
            ap (λ (st : State). client_in (session_of st t)) h.state ∙ over,
            λ k. let is : ((core_of old).client t).connected ≡ true = ap (λ (z : Client). z.connected) is_client in
                absurd (cc (is, k)),
          )
          by (inl p) = inl (
            record {
              was_connected = ap (λ (z : Client). z.connected) is_client;
              becomes = ap (λ (st : State). client_in (session_of st t)) h.state
                  ∙ ap client_in (p.0 ∙ sym started) ∙ overtaken_client old change store t;
              delta_of = delta_of;
              are_deltas = λ n q is due. right_delta t y found n q is
                  (ap (λ (z : Client). affects queries change n && z.subscribed n) (sym is_client) ∙ due);
              is_sent = refl;
            },
            subst (λ (ts : List Bytes). AreSpelled (SpellsMessage s r seen (core_of new)) (sent_by t) ts)
                (sym (ap (λ (qs : List (ℕ × Bytes)). parts_for t qs) h.queued ∙ p.1)) spelled,
          )

    pub for_client : (t : ℕ) → IsForClient t
    for_client t = by (session_of old t) refl
      where
        by : (o : Option Session) → session_of old t ≡ o → IsForClient t
        by None found = for_nobody t (ap client_in found)
        by (Some y) found = at y.cause refl
          where
            at : (c : Option EndCause) → y.cause ≡ c → IsForClient t
            at None going = for_going t y found going
            at (Some cause) over = for_nobody t (ap client_in found ∙ ap (λ c. client_by c y) over)

    pub spelled_to : (t : ℕ) → ((core_of new).client t).connected ≡ true
        → AreSpelled (SpellsMessage s r seen (core_of new)) (sent_by t) (parts_for t e.queued)
    spelled_to t k = by (for_client t)
      where
        by : IsForClient t → AreSpelled (SpellsMessage s r seen (core_of new)) (sent_by t) (parts_for t e.queued)
        by (inl g) = g.1
        by (inr g) = let no : ((core_of new).client t).connected ≡ false = ap (λ (z : Client). z.connected) g.0 in
            absurd (cc (no, k))

    -- one that wasn't connected is sent nothing, and nothing is queued to it
    pub silent_to : (t : ℕ) → WatchesNothing (session_of old t) → ((core_of old).client t).connected ≡ false
        → (sent_by t ≡ []) × (parts_for t e.queued ≡ [])
    silent_to t over k = (
      nobody_sent t (nobody_connected (session_of old t) k),
      ap (λ (qs : List (ℕ × Bytes)). parts_for t qs) h.queued
          ∙ (silent_last t h.told s reply h.last (other (s == t) refl) h.replies
          (silent_deltas t store.seq h.deltas start h.told h.tells
          (subst WatchesNothing (sym (found_behind old change store t)) (moves (session_of old t) over), refl))).1,
    )
      where
        moves : (o : Option Session) → WatchesNothing o
            → WatchesNothing (option_map (behind_change old change store.seq) o)
        moves None i = tt
        moves (Some z) i = i

        other : (b : Bool) → (s == t) ≡ b → b ≡ false
        other false i = refl
        other true i =
            let is : ((core_of old).client t).connected ≡ true =
            ap (λ j. ((core_of old).client j).connected) (sym (eqb-true s t i)) ∙ there in
            absurd (cc (is, k))

    -- The database is changed as the core changes it, where rows came or went and the right queries are affected.
    pub changes_database : store.queries ≡ old.store.queries → store.seq ≡ suc old.store.seq
        → AreRowsChanged (core_of old).db (database_of store.relations)
        → ((q : Listed) → (is_outdated change q ≡ true) ↔ IsAffected (core_of old).db (database_of store.relations) q)
        → ChangesDatabase (core_of old) s (database_of store.relations) sent_by (core_of new)
    changes_database same_queries seq turned outdates = record {
      db_is = ap (λ (k : Store). database_of k.relations) new_store;
      queries_stay = ap (λ (k : Store). k.queries) new_store ∙ same_queries;
      counts = true;
      counts_if = (λ k. turned, λ a. refl);
      seq_is = ap (λ (k : Store). k.seq) new_store ∙ seq;
      affected = affects queries change;
      affected_if = λ n q is. (
        λ k. (outdates q).0 (sym (affects_found queries change n q is) ∙ k),
        λ a. affects_found queries change n q is ∙ (outdates q).1 a,
      );
      clients = λ t. by t (for_client t);
    }
      where
        by : (t : ℕ) → IsForClient t
            → StaysConnected (core_of old) (affects queries change) (core_of new) t (sent_by t) (only_sent s (ok ∷ []) t)
            ⊎ (((core_of new).client t ≡ nobody) × (((core_of old).client t).connected ≡ false → sent_by t ≡ []))
        by t (inl g) = inl g.0
        by t (inr g) = inr g
