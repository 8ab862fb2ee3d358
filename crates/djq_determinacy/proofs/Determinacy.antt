-- What of a step is determined by its state and its event, memory aside: the commands that change no rows.
use Rattle.std.specs.Prelude.{ℕ, List, [], ◌∷◌, ◌≡◌, ◌⊎◌, ◌++◌, ◌<◌, ◌+◌, Bool, true, false}
use Rattle.std.specs.Prelude.{Option, None, Some, is_none, IsSomeAnd, Result, Ok, Err, All, Contains, codes, map, length, ⊤}
use Rattle.std.specs.List.{list_any}
use Rattle.std.proofs.Common.{refl, sym, ap, ◌∙◌, subst, inl, inr, arith}
use Rattle.std.proofs.lemmas.Bool.{true≢false}
use Rattle.std.proofs.lemmas.List.Elements.{All-head}
use Rattle.djq_model.specs.declared.query.Query.{Query}
use Rattle.djq_model.specs.declared.relation.ColumnType.{ColumnType}
use Rattle.djq_model.specs.Data.{Bytes, Tuple}
use Rattle.djq_model.specs.Listed.{Listed, a_query, a_union, listed_of, AnswersOf}
use Rattle.djq_protocol.specs.declared.answer.Refusal.{Refusal}
use Rattle.djq_protocol.specs.declared.answer.Refusal.TheVariants.{Syntax, Taken, NoRelation, NoQuery, NoCursor, Arity, WrongType}
use Rattle.djq_protocol.specs.declared.answer.Refusal.TheVariants.{HeadUnbound, HeadRepeated, VariableType, Limit, NoMemory, InUse}
use Rattle.djq_protocol.specs.declared.answer.Refusal.TheVariants.{Unbound, Member, Misplaced, NoCopy, OtherCount}
use Rattle.djq_protocol.specs.declared.answer.Shape.{Shape as ShapeOf}
use Rattle.djq_protocol.specs.declared.answer.Shape.TheVariants.{Flat, Linear, Union as IsUnion}
use Rattle.djq_protocol.specs.Conditions.{first_refusal, Answers, OutOfMemoryWhere}
use Rattle.djq_protocol.specs.Reply.{refusal_line, ok_reply, union_reply, has_reply, shape_reply, watch_reply, held_reply}
use Rattle.djq_store_spec.specs.Relations.{MakesRelation, rel_refusal}
use Rattle.djq_store_spec.specs.Registering.{DropsQuery, drop_refusal}
use Rattle.djq_store_spec.specs.Union.{RegistersUnion, union_refusal}
use Rattle.djq_store_spec.specs.Asking.{Tells, has_refusal, IsShapeOf}
use Rattle.djq_machine.specs.State.{State, Session}
use Rattle.djq_machine.specs.Effect.{Effect, says, answers}
use Rattle.djq_machine.specs.Command.{RelStep, UnionStep, DropStep, HasStep, OpenStep, WatchStep, UnwatchStep, ShapeStep, BatchStep, HoldStep, uses}
use Rattle.djq_machine.specs.Command.{OpensTo, BecomesWhere, open_refusal, watch_refusal, with_watch, without_watch, with_batch}
use Rattle.djq_store_spec.specs.Held.{HeldTransaction, nothing_held, holding}
use Rattle.djq_store_spec.specs.Transaction.{hold_refusal}
use Rattle.djq_protocol.specs.declared.held.Verb.{Verb}
use Rattle.djq_machine.specs.Command.{TellsLines, ExplainStepOf, explain_lines, union_lines, CloseStep, NextStep, NextStepAt}
use Rattle.djq_machine.specs.Effect.{EndsWith, RefusedStep}
use Rattle.djq_protocol.specs.declared.answer.EndCause.{EndCause}
use Rattle.djq_protocol.specs.Reply.{text_of, end_memory, listing_lines, answer_line}
use Rattle.djq_protocol.specs.Hypergraph.{edges_of, head_of}
use Rattle.djq_store_spec.specs.Store.{Store, Position, open_at, stale}
use Rattle.djq_store_spec.specs.Registering.{answer_steps}
use Rattle.djq_store_spec.specs.Listing.{TellsAnswers}
use Rattle.djq_tree.specs.Tree.{Tree}
use Rattle.djq_tree.specs.Growing.{Growth, grow, start, IsStage, IsTreeOf, are_within, is_root, tree_of}
use Rattle.std.proofs.lemmas.Bool.{cases_order}
use Rattle.djq_determinacy.proofs.Sets.{AreAmong, same_set, no_more, apart_behind, apart_from, apart_more}
use Rattle.djq_answer_laws.proofs.Lists.{first_or_later}
use Rattle.djq_store_spec.specs.Listing.{IsLeft}
use Rattle.std.proofs.lemmas.List.Elements.{All-contains, Contains-append_left, Contains-append_right, Contains-append_cases}
use Rattle.std.proofs.lemmas.List.Sorted.{length_permutation}
use Rattle.djq_run_laws.proofs.Forms.{done_of}
use Rattle.djq_determinacy.specs.Determinacy.{SameText, is_equal, are_pages, SameQueued, IsNoRefusal}

-- ---- What is answered, memory aside.

-- a late refusal is for memory
pub late_is : (P : Type 0) (r : Refusal) → OutOfMemoryWhere P r → r ≡ NoMemory
late_is P NoMemory h = refl
late_is P Syntax h = absurd h
late_is P Taken h = absurd h
late_is P NoRelation h = absurd h
late_is P NoQuery h = absurd h
late_is P NoCursor h = absurd h
late_is P Arity h = absurd h
late_is P WrongType h = absurd h
late_is P HeadUnbound h = absurd h
late_is P HeadRepeated h = absurd h
late_is P VariableType h = absurd h
late_is P Limit h = absurd h
late_is P InUse h = absurd h
late_is P Unbound h = absurd h
late_is P Member h = absurd h
late_is P Misplaced h = absurd h
late_is P NoCopy h = absurd h
late_is P OtherCount h = absurd h

-- two answers under one condition are the same, if what is done is
pub same_answer : {A : Type 0} (o : Option Refusal) (r r' : Result A Refusal) (D D' : A → Type 0) (P P' : Type 0)
    → ((a a' : A) → D a → D' a' → a ≡ a') → (r ≡ Err NoMemory → ⊥) → (r' ≡ Err NoMemory → ⊥)
    → Answers o r D (OutOfMemoryWhere P) → Answers o r' D' (OutOfMemoryWhere P') → r ≡ r'
same_answer None (Ok a) (Ok b) D D' P P' same m m' h k = ap (λ x. Ok x) (same a b h k)
same_answer None (Err r) r' D D' P P' same m m' h k = absurd (m (ap (λ x. Err x) (late_is P r h)))
same_answer None (Ok a) (Err r) D D' P P' same m m' h k = absurd (m' (ap (λ x. Err x) (late_is P' r k)))
same_answer (Some w) (Ok a) r' D D' P P' same m m' h k = absurd h
same_answer (Some w) (Err r) (Ok b) D D' P P' same m m' h k = absurd k
same_answer (Some w) (Err r) (Err t) D D' P P' same m m' h k = ap (λ x. Err x) (h ∙ sym k)

-- a reply that isn't the refusal for memory
pub not_refused : (s : ℕ) (text : Bytes) (queued : List (ℕ × Bytes)) → queued ≡ (s, text) ∷ []
    → All (λ (q : ℕ × Bytes). IsNoRefusal q.1) queued → IsNoRefusal text
not_refused s text queued is h =
    All-head (λ (q : ℕ × Bytes). IsNoRefusal q.1) (s, text) [] (subst (λ qs. All (λ (q : ℕ × Bytes). IsNoRefusal q.1) qs) is h)

abbrev pub IsTold : Effect → Type 0
IsTold e = All (λ (q : ℕ × Bytes). IsNoRefusal q.1) e.queued

-- a reply by its result
pub not_err : {A : Type 0} (reply : Result A Refusal → Bytes) (s : ℕ) (r : Result A Refusal) (e : Effect)
    → reply (Err NoMemory) ≡ refusal_line NoMemory → e.queued ≡ (s, reply r) ∷ [] → IsTold e → r ≡ Err NoMemory → ⊥
not_err reply s r e text queued told is = (not_refused s (reply r) e.queued queued told).0 (ap reply is ∙ text)

pub same_alone : (s : ℕ) (a b : Bytes) (e e' : Effect) → e.queued ≡ (s, a) ∷ [] → e'.queued ≡ (s, b) ∷ [] → a ≡ b
    → SameQueued e.queued e'.queued
same_alone s a b e e' is is' same =
    subst (λ qs. SameQueued qs e'.queued) (sym is)
    (subst (λ qs. SameQueued ((s, a) ∷ []) qs) (sym is') (refl, is_equal same, tt))

pub said : (s : ℕ) (text : Bytes) (e : Effect) → e ≡ says s text → e.queued ≡ (s, text) ∷ []
said s text e is = ap (λ (d : Effect). d.queued) is

pub answered : (s : ℕ) (text : Bytes) (test : Bool) (e : Effect) → e ≡ answers s text test → e.queued ≡ (s, text) ∷ []
answered s text test e is = ap (λ (d : Effect). d.queued) is

-- the same is queued, and the same state is left before rows are reordered
abbrev pub Same : Effect → State → Effect → State → Type 0
Same e new e' new' = SameQueued e.queued e'.queued × (new ≡ new')

-- the same is queued, and the same store is left
abbrev pub SameLeft : Effect → State → Effect → State → Type 0
SameLeft e new e' new' = SameQueued e.queued e'.queued × (new.store ≡ new'.store)

pub left_of : (e e' : Effect) (new new' : State) → Same e new e' new' → SameLeft e new e' new'
left_of e e' new new' same = (same.0, ap (λ (st : State). st.store) same.1)

-- ---- The commands.

-- unions over the same names have the same members
one_list : (qs ps : List Query) → map (λ (q : Query). Some (a_query q)) qs ≡ map (λ (q : Query). Some (a_query q)) ps → qs ≡ ps
one_list [] [] is = refl
one_list [] (p ∷ ps) is = absurd (let no_list : [] ≡ Some (a_query p) ∷ map (λ (q : Query). Some (a_query q)) ps = is in cc)
one_list (q ∷ qs) [] is = absurd (let no_list : Some (a_query q) ∷ map (λ (q : Query). Some (a_query q)) qs ≡ [] = is in cc)
one_list (q ∷ qs) (p ∷ ps) is =
    let whole : Some (a_query q) ∷ map (λ (q : Query). Some (a_query q)) qs
    ≡ Some (a_query p) ∷ map (λ (q : Query). Some (a_query q)) ps = is in
    let first : q ≡ p = cc in
    let rest : map (λ (q : Query). Some (a_query q)) qs ≡ map (λ (q : Query). Some (a_query q)) ps = cc in
    let more = one_list qs ps rest in ap (λ x. x ∷ qs) first ∙ ap (λ xs. p ∷ xs) more

-- a stage of the planner ends at one place
one_stage : (is_over : List (List ℕ) → Bool) (keep : List ℕ) (st a b : Growth) → IsStage is_over keep st a
    → IsStage is_over keep st b → a ≡ b
one_stage is_over keep st a b h k = by (cases_order h.steps k.steps)
  where
    apart : (g : Growth) → is_over g.current ≡ true → is_over g.current ≡ false → ⊥
    apart g over going = true≢false (sym over ∙ going)

    by : (h.steps ≡ k.steps) ⊎ ((h.steps < k.steps) ⊎ (k.steps < h.steps)) → a ≡ b
    by (inl same) = h.leads ∙ ap (λ n. grow keep n st) same ∙ sym k.leads
    by (inr (inl less)) =
        absurd (apart (grow keep h.steps st) (subst (λ (g : Growth). is_over g.current ≡ true) h.leads h.ends)
        (k.goes h.steps less))
    by (inr (inr less)) =
        absurd (apart (grow keep k.steps st) (subst (λ (g : Growth). is_over g.current ≡ true) k.leads k.ends)
        (h.goes k.steps less))

-- and so it names one tree
one_tree : (H : List (List ℕ)) (F : List ℕ) (t u : Tree) → IsTreeOf H F t → IsTreeOf H F u → t ≡ u
one_tree H F t u h k =
    let mid = one_stage (are_within F) F (start H) h.mid k.mid h.first k.first in
    let last = one_stage is_root [] k.mid h.last k.last
    (subst (λ (g : Growth). IsStage is_root [] g h.last) mid h.second) k.second in
    h.is ∙ ap (λ (g : Growth). tree_of (length H) F g h.last) mid ∙ ap (λ (g : Growth). tree_of (length H) F k.mid g) last
    ∙ sym k.is

-- what one page tells is on another one that is the last
among_all : (Answer : Tuple → Type 0) (given told told' : List Tuple) (count : ℕ) (end end' : Bool)
    → TellsAnswers Answer given count told end → TellsAnswers Answer given count told' end' → end' ≡ true
    → AreAmong told told'
among_all Answer given told told' count end end' h k ends t there =
    by (Contains-append_cases given told' t
    (k.none_left ends t (All-contains Answer told t h.answers there)))
  where
    by : Contains given t ⊎ Contains told' t → Contains told' t
    by (inl before) = absurd (apart_from given told h.different t before there)
    by (inr here) = here

-- a page isn't the last where another one leaves an answer behind as many as were asked for
no_end : (Answer : Tuple → Type 0) (given told told' : List Tuple) (count : ℕ)
    → TellsAnswers Answer given count told true → TellsAnswers Answer given count told' false → ⊥
no_end Answer given told told' count h k =
    let left = k.some_left refl in
    let few = no_more (left.0 ∷ told') told
    (apart_more left.0 told' (λ there. left.1.1 (Contains-append_right given told' left.0 there))
    (apart_behind given told' k.different)) (λ t there. by left t (first_or_later left.0 told' t there)) in
    omega (arith, few, h.at_most, k.all_asked refl)
  where
    by : (left : (t : Tuple) × IsLeft Answer (given ++ told') t) (t : Tuple) → (left.0 ≡ t) ⊎ Contains told' t → Contains told t
    by left t (inr there) = among_all Answer given told' told count false true k h refl t there
    by left t (inl same) = subst (λ u. Contains told u) same
        (last (Contains-append_cases given told left.0 (h.none_left refl left.0 left.1.0)))
      where
        last : Contains given left.0 ⊎ Contains told left.0 → Contains told left.0
        last (inl before) = absurd (left.1.1 (Contains-append_left given told' left.0 before))
        last (inr here) = here

-- pages of one listing
pages_same : (Answer : Tuple → Type 0) (given told told' : List Tuple) (count : ℕ) (end end' : Bool)
    → TellsAnswers Answer given count told end → TellsAnswers Answer given count told' end'
    → SameText (text_of (listing_lines told end)) (text_of (listing_lines told' end'))
pages_same Answer given told told' count true true h k =
    let moved = same_set told told' (apart_behind given told h.different) (apart_behind given told' k.different)
    (among_all Answer given told told' count true true h k refl) (among_all Answer given told' told count true true k h refl) in
    are_pages told told' true refl refl (sym (length_permutation told told' moved)) (λ _. moved)
pages_same Answer given told told' count false false h k =
    are_pages told told' false refl refl (h.all_asked refl ∙ sym (k.all_asked refl)) (λ ends. absurd (true≢false (sym ends)))
pages_same Answer given told told' count true false h k = absurd (no_end Answer given told told' count h k)
pages_same Answer given told told' count false true h k = absurd (no_end Answer given told' told count k h)

module _ (old : State) (s : ℕ) (e e' : Effect) (new new' : State) (told : IsTold e) (told' : IsTold e') where
  pub rel_same : (name : Bytes) (types : List ColumnType) → RelStep old s (λ st. MakesRelation st name types) e new
      → RelStep old s (λ st. MakesRelation st name types) e' new' → Same e new e' new'
  rel_same name types h k =
      let q = answered s _ _ e h.effect in
      let q' = answered s _ _ e' k.effect in
      let same = same_answer (rel_refusal old.store name types) h.result k.result _ _ ⊤ ⊤ (λ a b _ _. refl)
      (not_err (ok_reply (codes "ok")) s h.result e refl q told)
      (not_err (ok_reply (codes "ok")) s k.result e' refl q' told') h.done.answer k.done.answer in (
        same_alone s _ _ e e' q q' (ap (ok_reply (codes "ok")) same),
        h.state
            ∙ ap (λ (st : Store). record old { store = st }) (by h.result h.done (subst (λ r. MakesRelation old.store name types r k.store) (sym same) k.done))
            ∙ sym k.state,
      )
    where
      by : (r : Result ⊤ Refusal) → MakesRelation old.store name types r h.store
          → MakesRelation old.store name types r k.store → h.store ≡ k.store
      by (Ok a) x y = done_of (rel_refusal old.store name types) a _ (OutOfMemoryWhere ⊤) x.answer
          ∙ sym (done_of (rel_refusal old.store name types) a _ (OutOfMemoryWhere ⊤) y.answer)
      by (Err r) x y = x.stays ∙ sym y.stays

  pub drop_same : (q : Bytes) → DropStep old s q e new → DropStep old s q e' new' → Same e new e' new'
  drop_same q h k =
      let is = answered s _ _ e h.effect in
      let is' = answered s _ _ e' k.effect in
      let used = list_any (uses q) old.sessions in
      let same = same_answer (drop_refusal old.store used q) h.result k.result _ _ ⊥ ⊥ (λ a b _ _. refl)
      (not_err (ok_reply (codes "ok")) s h.result e refl is told)
      (not_err (ok_reply (codes "ok")) s k.result e' refl is' told') h.done.answer k.done.answer in (
        same_alone s _ _ e e' is is' (ap (ok_reply (codes "ok")) same),
        h.state
            ∙ ap (λ (st : Store). record old { store = st }) (by h.result h.done (subst (λ r. DropsQuery old.store used q r k.store) (sym same) k.done))
            ∙ sym k.state,
      )
    where
      by : (r : Result ⊤ Refusal) → DropsQuery old.store (list_any (uses q) old.sessions) q r h.store
          → DropsQuery old.store (list_any (uses q) old.sessions) q r k.store → h.store ≡ k.store
      by (Ok a) x y = done_of (drop_refusal old.store (list_any (uses q) old.sessions) q) a _ (OutOfMemoryWhere ⊥) x.answer
          ∙ sym (done_of (drop_refusal old.store (list_any (uses q) old.sessions) q) a _ (OutOfMemoryWhere ⊥) y.answer)
      by (Err r) x y = x.stays ∙ sym y.stays

  -- a command of a session changes it alike
  turned_same : (f : Session → Session) (r r' : Result ⊤ Refusal) → r ≡ r' → BecomesWhere old s f new r
      → BecomesWhere old s f new' r' → new ≡ new'
  turned_same f r r' same h k = by r h (subst (λ (x : Result ⊤ Refusal). BecomesWhere old s f new' x) (sym same) k)
    where
      by : (r : Result ⊤ Refusal) → BecomesWhere old s f new r → BecomesWhere old s f new' r → new ≡ new'
      by (Ok a) h k = h ∙ sym k
      by (Err w) h k = h ∙ sym k

  same_state : new ≡ old → new' ≡ old → new ≡ new'
  same_state h k = h ∙ sym k

  pub open_same : (x : Session) (c q : Bytes) → OpenStep old s x c q e new → OpenStep old s x c q e' new' → Same e new e' new'
  open_same x c q h k =
      let is = said s _ e h.effect in
      let is' = said s _ e' k.effect in
      let same = same_answer (open_refusal old.store x.cursors c q) h.result k.result _ _ ⊤ ⊤ (λ a b _ _. refl)
      (not_err (ok_reply (codes "ok open")) s h.result e refl is told)
      (not_err (ok_reply (codes "ok open")) s k.result e' refl is' told') h.answer k.answer in (
        same_alone s _ _ e e' is is' (ap (ok_reply (codes "ok open")) same),
        by h.result h.state (subst (λ (r : Result ⊤ Refusal). OpensTo old s c q new' r) (sym same) k.state),
      )
    where
      by : (r : Result ⊤ Refusal) → OpensTo old s c q new r → OpensTo old s c q new' r → new ≡ new'
      by (Ok a) h k = h ∙ sym k
      by (Err w) h k = h ∙ sym k

  pub watch_same : (x : Session) (q : Bytes) → WatchStep old s x q e new → WatchStep old s x q e' new' → Same e new e' new'
  watch_same x q h k =
      let reply = λ (r : Result ⊤ Refusal). watch_reply r old.store.seq in
      let is = said s (reply h.result) e h.effect in
      let is' = said s (reply k.result) e' k.effect in
      let same = same_answer (watch_refusal old.store q) h.result k.result _ _ _ _ (λ a b _ _. refl)
      (not_err reply s h.result e refl is told) (not_err reply s k.result e' refl is' told') h.answer k.answer in
      (same_alone s _ _ e e' is is' (ap reply same), turned_same (with_watch q) h.result k.result same h.state k.state)

  pub unwatch_same : (q : Bytes) → UnwatchStep old s q e new → UnwatchStep old s q e' new' → Same e new e' new'
  unwatch_same q h k =
      let is = said s _ e h.effect in
      let is' = said s _ e' k.effect in
      let same = same_answer (watch_refusal old.store q) h.result k.result _ _ _ _ (λ a b _ _. refl)
      (not_err (ok_reply (codes "ok")) s h.result e refl is told)
      (not_err (ok_reply (codes "ok")) s k.result e' refl is' told') h.answer k.answer in (
        same_alone s _ _ e e' is is' (ap (ok_reply (codes "ok")) same),
        turned_same (without_watch q) h.result k.result same h.state k.state,
      )

  pub batch_same : BatchStep old s e new → BatchStep old s e' new' → Same e new e' new'
  batch_same h k =
      let is = said s _ e h.effect in
      let is' = said s _ e' k.effect in
      let same = same_answer None h.result k.result _ _ _ _ (λ a b _ _. refl)
      (not_err (ok_reply (codes "ok batch")) s h.result e refl is told)
      (not_err (ok_reply (codes "ok batch")) s k.result e' refl is' told') h.answer k.answer in (
        same_alone s _ _ e e' is is' (ap (ok_reply (codes "ok batch")) same),
        turned_same (with_batch nothing_held) h.result k.result same h.state k.state,
      )

  pub hold_same : (held : HeldTransaction) (l : Bytes) (verb : Verb) (name : Bytes) (row : Tuple)
      → HoldStep old s held l verb name row e new → HoldStep old s held l verb name row e' new' → Same e new e' new'
  hold_same held l verb name row h k =
      let reply = λ (r : Result ⊤ Refusal). held_reply r (length held.lines + 1) in
      let is = said s (reply h.result) e h.effect in
      let is' = said s (reply k.result) e' k.effect in
      let same = same_answer (hold_refusal old.store held l name row) h.result k.result _ _ _ _ (λ a b _ _. refl)
      (not_err reply s h.result e refl is told) (not_err reply s k.result e' refl is' told') h.answer k.answer in (
        same_alone s _ _ e e' is is' (ap reply same),
        turned_same (with_batch (holding held verb name row l)) h.result k.result same h.state k.state,
      )

  pub has_same : (q : Bytes) (t : Tuple) → HasStep old s q t e new → HasStep old s q t e' new' → Same e new e' new'
  has_same q t h k =
      let is = ap (λ (d : Effect). d.queued) h.effect in
      let is' = ap (λ (d : Effect). d.queued) k.effect in
      let same = same_answer (has_refusal old.store q t) h.result k.result _ _ ⊥ ⊥ (alike (listed_of old.store.queries q))
      (not_err has_reply s h.result e refl is told) (not_err has_reply s k.result e' refl is' told')
      h.tells.answer k.tells.answer in
      (same_alone s _ _ e e' is is' (ap has_reply same), same_state h.state k.state)
    where
      tells : (P : Type 0) (a b : Bool) → Tells P a → Tells P b → a ≡ b
      tells P true true h k = refl
      tells P false false h k = refl
      tells P true false h k = absurd (k h)
      tells P false true h k = absurd (h k)

      alike : (o : Option Listed) (a b : Bool) → IsSomeAnd o (λ l. Tells (AnswersOf old.store.relations l t) a)
          → IsSomeAnd o (λ l. Tells (AnswersOf old.store.relations l t) b) → a ≡ b
      alike None a b h k = absurd h
      alike (Some l) a b h k = tells (AnswersOf old.store.relations l t) a b h k

  pub shape_same : (q : Bytes) → ShapeStep old s q e new → ShapeStep old s q e' new' → Same e new e' new'
  shape_same q h k =
      let is = said s _ e h.effect in
      let is' = said s _ e' k.effect in
      let same = same_answer (first_refusal ((is_none (listed_of old.store.queries q), NoQuery) ∷ [])) h.result k.result
      _ _ ⊥ ⊥ (alike (listed_of old.store.queries q))
      (not_err shape_reply s h.result e refl is told) (not_err shape_reply s k.result e' refl is' told')
      h.tells.answer k.tells.answer in
      (same_alone s _ _ e e' is is' (ap shape_reply same), same_state h.state k.state)
    where
      shapes : (l : Listed) (a b : ShapeOf) → IsShapeOf l a → IsShapeOf l b → a ≡ b
      shapes (a_query q) Flat Flat h k = refl
      shapes (a_query q) Linear Linear h k = refl
      shapes (a_query q) Flat Linear h k = absurd (k h)
      shapes (a_query q) Linear Flat h k = absurd (h k)
      shapes (a_query q) IsUnion b h k = absurd h
      shapes (a_query q) Flat IsUnion h k = absurd k
      shapes (a_query q) Linear IsUnion h k = absurd k
      shapes (a_union name qs) IsUnion IsUnion h k = refl
      shapes (a_union name qs) Flat b h k = absurd h
      shapes (a_union name qs) Linear b h k = absurd h
      shapes (a_union name qs) IsUnion Flat h k = absurd k
      shapes (a_union name qs) IsUnion Linear h k = absurd k

      alike : (o : Option Listed) (a b : ShapeOf) → IsSomeAnd o (λ l. IsShapeOf l a) → IsSomeAnd o (λ l. IsShapeOf l b)
          → a ≡ b
      alike None a b h k = absurd h
      alike (Some l) a b h k = shapes l a b h k

  -- a text that ends so that memory was refused
  cut_short : (text front : Bytes) → text ≡ front ++ end_memory → (queued : List (ℕ × Bytes)) → queued ≡ (s, text) ∷ []
      → All (λ (q : ℕ × Bytes). IsNoRefusal q.1) queued → ⊥
  cut_short text front is queued alone told = (not_refused s text queued alone told).1 front is

  lines_same : (lines lines' : List Bytes) → lines ≡ lines' → TellsLines old s lines e new → TellsLines old s lines' e' new'
      → Same e new e' new'
  lines_same lines lines' same (inl h) (inl k) = (
    same_alone s _ _ e e' (said s _ e h.0) (said s _ e' k.0) (ap text_of same),
    same_state h.1 k.1,
  )
  lines_same lines lines' same (inr h) k = absurd (cut_short _ (text_of h.0) refl e.queued (said s _ e h.4.0) told)
  lines_same lines lines' same (inl h) (inr k) =
      absurd ((not_refused s _ e'.queued (said s _ e' k.4.0) told').1 (text_of k.0) refl)

  pub explain_same : (k : Listed) → ExplainStepOf old s k e new → ExplainStepOf old s k e' new' → Same e new e' new'
  explain_same (a_union name qs) h k = lines_same (union_lines qs) (union_lines qs) refl h k
  explain_same (a_query q) h k =
      lines_same (explain_lines q h.tree) (explain_lines q k.tree)
      (ap (explain_lines q) (one_tree (edges_of q) (head_of q) h.tree k.tree h.named k.named)) h.tells k.tells

  pub refused_same : (r : Refusal) → RefusedStep old s r e new → RefusedStep old s r e' new' → Same e new e' new'
  refused_same r h k = (same_alone s _ _ e e' (said s _ e h.0) (said s _ e' k.0) refl, same_state h.1 k.1)

  pub ends_same : (text : Bytes) (cause : EndCause) (st : State) → EndsWith text cause st s e new → EndsWith text cause st s e' new'
      → Same e new e' new'
  ends_same text cause st h k = (
    same_alone s _ _ e e' (said s _ e h.0) (said s _ e' k.0) refl,
    h.1 ∙ sym k.1,
  )

  pub close_same : (c : Bytes) → CloseStep old s c e new → CloseStep old s c e' new' → Same e new e' new'
  close_same c h k = (
    same_alone s _ _ e e' (said s _ e h.0) (said s _ e' k.0) refl,
    h.1 ∙ sym k.1,
  )

  pub union_same : (name : Bytes) (members : List Bytes) → UnionStep old s name members e new
      → UnionStep old s name members e' new' → Same e new e' new'
  union_same name members h k =
      let is = answered s _ _ e h.effect in
      let is' = answered s _ _ e' k.effect in
      let same = same_answer (union_refusal old.store name members) h.result k.result _ _ ⊤ ⊤
      (λ a b d d'. d.2 ∙ ap (λ qs. answer_steps (a_union name qs)) (one_list d.0 d'.0 (sym d.1 ∙ d'.1)) ∙ sym d'.2)
      (not_err union_reply s h.result e refl is told) (not_err union_reply s k.result e' refl is' told')
      h.done.answer k.done.answer in (
        same_alone s _ _ e e' is is' (ap union_reply same),
        h.state
            ∙ ap (λ (st : Store). record old { store = st }) (by h.result h.done (subst (λ r. RegistersUnion old.store name members r k.store) (sym same) k.done))
            ∙ sym k.state,
      )
    where
      by : (r : Result ℕ Refusal) → RegistersUnion old.store name members r h.store
          → RegistersUnion old.store name members r k.store → h.store ≡ k.store
      by (Ok most) x y =
          let d = done_of (union_refusal old.store name members) most _ (OutOfMemoryWhere ⊤) x.answer in
          let d' = done_of (union_refusal old.store name members) most _ (OutOfMemoryWhere ⊤) y.answer in
          d.3 ∙ ap (λ qs. record old.store { queries = old.store.queries ++ a_union name qs ∷ [] })
          (one_list d.0 d'.0 (sym d.1 ∙ d'.1)) ∙ sym d'.3
      by (Err r) x y = x.stays ∙ sym y.stays

  page_same : (c : Bytes) (q : Listed) (given : List Tuple) (count : ℕ) → NextStep old s c q given count e new
      → NextStep old s c q given count e' new' → SameLeft e new e' new'
  page_same c q given count h k = (
    subst (λ qs. SameQueued qs e'.queued) (sym (ap (λ (d : Effect). d.queued) h.effect))
        (subst (λ qs. SameQueued ((s, text_of (listing_lines h.told h.end)) ∷ []) qs)
        (sym (ap (λ (d : Effect). d.queued) k.effect))
        (refl, pages_same (AnswersOf old.store.relations q) given h.told k.told count h.end k.end h.tells k.tells, tt)),
    ap (λ (x : State). x.store) h.state ∙ sym (ap (λ (x : State). x.store) k.state),
  )

  pub next_same : (c : Bytes) (q : Listed) (count : ℕ) (p : Position) → NextStepAt old s c q count p e new
      → NextStepAt old s c q count p e' new' → SameLeft e new e' new'
  next_same c q count (stale relation n) h k = (
    same_alone s _ _ e e' (said s _ e h.0) (said s _ e' k.0) refl,
    ap (λ (x : State). x.store) (h.1 ∙ sym k.1),
  )
  next_same c q count (open_at given ended) (inl h) (inl k) = page_same c q given count h k
  next_same c q count (open_at given ended) (inr h) k =
      absurd (cut_short _ (text_of (map answer_line h.told)) refl e.queued (ap (λ (d : Effect). d.queued) h.effect) told)
  next_same c q count (open_at given ended) (inl h) (inr k) =
      absurd ((not_refused s _ e'.queued (ap (λ (d : Effect). d.queued) k.effect) told').1
      (text_of (map answer_line k.told)) refl)
