-- Inserting and deleting a row is determined, memory aside.
use Rattle.std.specs.Prelude.{ℕ, List, [], ◌∷◌, ◌≡◌, ◌≢◌, ◌⊎◌, ◌++◌, ◌==◌, ◌≤◌, ◌+◌, ◌&&◌, Bool, true, false, cond, nat_le, Option, None, Some, is_some}
use Rattle.std.specs.Prelude.{IsSomeAnd, MatchOption, Result, Ok, Err, option_map, All, map, length}
use Rattle.std.specs.List.{list_any}
use Rattle.std.proofs.Common.{refl, sym, ap, ◌∙◌, subst, inl, inr, arith, length-append}
use Rattle.std.proofs.lemmas.Bool.{true≢false}
use Rattle.std.proofs.lemmas.List.Elements.{All-head}
use Rattle.djq_model.specs.Data.{Bytes, Tuple, rows_of, has_row}
use Rattle.djq_model.specs.Known.{knows, learned, all_learned, texts_in}
use Rattle.djq_protocol.specs.declared.limits.TheConstants.{TEXTS, LAST_SEQ}
use Rattle.djq_protocol.specs.declared.answer.EndCause.{EndCause}
use Rattle.djq_protocol.specs.declared.answer.Refusal.{Refusal}
use Rattle.djq_protocol.specs.declared.answer.Refusal.TheVariants.{Syntax, Taken, NoRelation, NoQuery, NoCursor, Arity, WrongType}
use Rattle.djq_protocol.specs.declared.answer.Refusal.TheVariants.{HeadUnbound, HeadRepeated, VariableType, Limit, NoMemory, InUse}
use Rattle.djq_protocol.specs.declared.answer.Refusal.TheVariants.{Unbound, Member, Misplaced, NoCopy, OtherCount}
use Rattle.djq_protocol.specs.declared.answer.AddOutcome.{AddOutcome}
use Rattle.djq_protocol.specs.declared.answer.AddOutcome.TheVariants.{First, More}
use Rattle.djq_protocol.specs.declared.answer.DeleteOutcome.{DeleteOutcome}
use Rattle.djq_protocol.specs.declared.answer.DeleteOutcome.TheVariants.{Last, Left, Absent}
use Rattle.djq_protocol.specs.Conditions.{Answers, OutOfMemoryWhere}
use Rattle.djq_protocol.specs.Reply.{refusal_line, end_memory, add_reply, delete_reply}
use Rattle.djq_store_spec.specs.Store.{Store}
use Rattle.djq_store_spec.specs.Relations.{FindsNoPlace, RefusedByTexts}
use Rattle.djq_store_spec.specs.Rows.{row_refusals, copies_of, add_refusal, delete_refusal, AddsAs, AddsRow, DeletesAs, DeletesRow}
use Rattle.djq_store_spec.specs.Changes.{RowsChange, RowsOutcome, is_made, tried, row_in, row_out, add_outcome, delete_outcome}
use Rattle.djq_machine.specs.State.{State, Session, session_of}
use Rattle.djq_machine.specs.Effect.{Effect}
use Rattle.djq_machine.specs.Outdating.{changed, outdated_cursor}
use Rattle.djq_machine.specs.Walk.{Walk}
use Rattle.djq_protocol.specs.declared.answer.EndCause.TheVariants.{Memory}
use Rattle.djq_machine.specs.Watch.{Telling, says_more, ends_more, TellsDelta, RepliesLast, ChangeStep}
use Rattle.djq_machine.specs.Command.{AddStep, DeleteStep}
use Rattle.djq_run_laws.proofs.Forms.{done_of}
use Rattle.djq_run_laws.proofs.Deltas.{find_mapped}
use Rattle.djq_determinacy.specs.Determinacy.{IsNoRefusal}
use Rattle.djq_determinacy.proofs.Memory.{NoneOfMemory, refusals_of}
use Rattle.djq_determinacy.proofs.ChangesSame.{change_same}
use Rattle.djq_determinacy.proofs.Determinacy.{same_answer, IsTold, Same}

-- ---- A session that goes on isn't told that memory was refused.

abbrev pub GoesOn : State → ℕ → Type 0
GoesOn st s = IsSomeAnd (session_of st s) (λ x. x.cause ≡ None)

goes_changed : (old : State) (s : ℕ) (o : Option RowsChange) (store : Store) → GoesOn old s → GoesOn (changed old o store) s
goes_changed old s None store goes = goes
goes_changed old s (Some change) store goes =
    subst (λ o. IsSomeAnd o (λ x. x.cause ≡ None))
    (sym (find_mapped (λ (x : Session). x.id == s) (λ (x : Session). record x
    { cursors = map (outdated_cursor old.store.queries change.outdater store.seq) x.cursors }) (λ x. refl) old.sessions))
    (by (session_of old s) goes)
  where
    by : (o : Option Session) → IsSomeAnd o (λ x. x.cause ≡ None)
        → IsSomeAnd (option_map (λ (x : Session). record x
        { cursors = map (outdated_cursor old.store.queries change.outdater store.seq) x.cursors }) o) (λ x. x.cause ≡ None)
    by None h = absurd h
    by (Some x) h = h

told_last : (old : State) (s : ℕ) (outcome : RowsOutcome) (store : Store) (reply : Bytes) (e : Effect) (new : State)
    → is_made outcome ≡ false → GoesOn old s → ChangeStep old s outcome store reply e new → e.queued ≡ (s, reply) ∷ []
told_last old s outcome store reply e new unmade goes h =
    h.queued ∙ ap (λ (m : Telling). m.queued) (by (session_of (changed old (tried outcome) store) s)
    (goes_changed old s (tried outcome) store goes)
    (subst (λ (m : Telling). RepliesLast s reply m h.last) start h.replies))
  where
    start : h.told ≡ record { state = changed old (tried outcome) store; queued = [] }
    start = subst (λ b. Walk (TellsDelta store.seq) (record { state = changed old (tried outcome) store; queued = [] })
        (cond b h.deltas []) h.told) unmade h.tells

    by_cause : (c : Option EndCause) → c ≡ None → MatchOption c
        ((h.last ≡ says_more s reply (record { state = changed old (tried outcome) store; queued = [] }))
        ⊎ ((list_any (λ (part : ℕ × Bytes). part.0 == s) [] ≡ true)
        × (h.last ≡ ends_more s end_memory Memory (record { state = changed old (tried outcome) store; queued = [] }))))
        (λ c. h.last ≡ record { state = changed old (tried outcome) store; queued = [] })
        → h.last ≡ says_more s reply (record { state = changed old (tried outcome) store; queued = [] })
    by_cause None is (inl k) = k
    by_cause None is (inr k) = absurd (true≢false (sym k.0))
    by_cause (Some c) is k = absurd cc

    by : (o : Option Session) → IsSomeAnd o (λ x. x.cause ≡ None) → IsSomeAnd o (λ x. MatchOption x.cause
        ((h.last ≡ says_more s reply (record { state = changed old (tried outcome) store; queued = [] }))
        ⊎ ((list_any (λ (part : ℕ × Bytes). part.0 == s) [] ≡ true)
        × (h.last ≡ ends_more s end_memory Memory (record { state = changed old (tried outcome) store; queued = [] }))))
        (λ c. h.last ≡ record { state = changed old (tried outcome) store; queued = [] }))
        → h.last ≡ says_more s reply (record { state = changed old (tried outcome) store; queued = [] })
    by None goes k = absurd goes
    by (Some x) goes k = by_cause x.cause goes k

-- so memory wasn't refused, where no row changes and this is the reply
pub no_memory : (old : State) (s : ℕ) (outcome : RowsOutcome) (store : Store) (reply : Bytes) (e : Effect) (new : State)
    → is_made outcome ≡ false → GoesOn old s → ChangeStep old s outcome store reply e new → IsTold e
    → reply ≡ refusal_line NoMemory → ⊥
no_memory old s outcome store reply e new unmade goes h told is =
    (All-head (λ (q : ℕ × Bytes). IsNoRefusal q.1) (s, reply) [] (subst (λ qs. All (λ (q : ℕ × Bytes). IsNoRefusal q.1) qs)
    (told_last old s outcome store reply e new unmade goes h) told)).0 is

-- a change with the same outcome, store and reply
pub same_change : (old : State) (s : ℕ) (o o' : RowsOutcome) (store store' : Store) (reply reply' : Bytes) (e e' : Effect)
    (new new' : State) → IsTold e → IsTold e' → o ≡ o' → store ≡ store' → reply ≡ reply'
    → ChangeStep old s o store reply e new → ChangeStep old s o' store' reply' e' new' → Same e new e' new'
same_change old s o o' store store' reply reply' e e' new new' told told' outcome same text h k =
    let k' = subst (λ x. ChangeStep old s x store reply e' new') (sym outcome)
    (subst (λ (x : Store). ChangeStep old s o' x reply e' new') (sym same)
    (subst (λ x. ChangeStep old s o' store' x e' new') (sym text) k)) in
    change_same old s o store reply e e' new new' told told' h k'

-- ---- `del`

module _ (old : State) (s : ℕ) (e e' : Effect) (new new' : State) (told : IsTold e) (told' : IsTold e') where
  pub delete_same : (name : Bytes) (row : Tuple) → DeleteStep old s name row e new → DeleteStep old s name row e' new'
      → Same e new e' new'
  delete_same name row h k =
      let conditions = row_refusals old.store name row
      ++ ((copies_of old.store name row == 1) && nat_le LAST_SEQ old.store.seq, Limit) ∷ [] in
      let none : NoneOfMemory conditions = (refl, (refl, (refl, (refl, tt)))) in
      let same = same_answer (delete_refusal old.store name row) h.result k.result _ _ ⊥ ⊥ outcomes
      (λ is. refusals_of conditions h.result (DeletesAs old.store name row h.store) none h.done.answer NoMemory is refl)
      (λ is. refusals_of conditions k.result (DeletesAs old.store name row k.store) none k.done.answer NoMemory is refl)
      h.done.answer k.done.answer in
      let stores = by h.result h.done (subst (λ r. DeletesRow old.store name row r k.store) (sym same) k.done) in
      same_change old s _ _ h.store k.store _ _ e e' new new' told told'
      (ap (delete_outcome (row_out old.store.relations name row)) same) stores
      (ap (λ r. delete_reply r h.store.seq) same ∙ ap (λ (st : Store). delete_reply k.result st.seq) stores)
      h.change k.change
    where
      outcomes : (a b : DeleteOutcome) → DeletesAs old.store name row h.store a → DeletesAs old.store name row k.store b → a ≡ b
      outcomes Last Last x y = refl
      outcomes (Left i) (Left j) x y =
          let same : i ≡ j = omega (arith, x.1, y.1) in ap (λ n. Left n) same
      outcomes Absent Absent x y = refl
      outcomes Last (Left j) x y = absurd (omega (arith, x.1, y.1, y.2))
      outcomes (Left i) Last x y = absurd (omega (arith, y.1, x.1, x.2))
      outcomes Last Absent x y = absurd (true≢false (sym x.0 ∙ y.0))
      outcomes (Left i) Absent x y = absurd (true≢false (sym x.0 ∙ y.0))
      outcomes Absent Last x y = absurd (true≢false (sym y.0 ∙ x.0))
      outcomes Absent (Left j) x y = absurd (true≢false (sym y.0 ∙ x.0))

      stores_as : (a : DeleteOutcome) → DeletesAs old.store name row h.store a → DeletesAs old.store name row k.store a
          → h.store ≡ k.store
      stores_as Last x y = x.2 ∙ sym y.2
      stores_as (Left i) x y = x.3 ∙ sym y.3
      stores_as Absent x y = x.1 ∙ sym y.1

      by : (r : Result DeleteOutcome Refusal) → DeletesRow old.store name row r h.store → DeletesRow old.store name row r k.store
          → h.store ≡ k.store
      by (Ok a) x y = stores_as a
          (done_of (delete_refusal old.store name row) a (DeletesAs old.store name row h.store) (OutOfMemoryWhere ⊥) x.answer)
          (done_of (delete_refusal old.store name row) a (DeletesAs old.store name row k.store) (OutOfMemoryWhere ⊥) y.answer)
      by (Err r) x y = x.stays ∙ sym y.stays

-- ---- Texts that become known.

grown : (known ts : List Bytes) → length known ≤ length (all_learned known ts)
grown known [] = omega arith
grown known (t ∷ ts) = let more = grown (learned known t) ts in omega (arith, more, by (knows known t))
  where
    by : (b : Bool) → length known ≤ length (cond b known (known ++ t ∷ []))
    by true = omega arith
    by false = omega (arith, length-append known (t ∷ []))

one_more_known : (known : List Bytes) (t : Bytes) → knows known t ≡ false → length (learned known t) ≡ length known + 1
one_more_known known t unknown =
    ap (λ b. length (cond b known (known ++ t ∷ []))) unknown ∙ length-append known (t ∷ [])

learned_parts : (known xs ys : List Bytes) → all_learned known (xs ++ ys) ≡ all_learned (all_learned known xs) ys
learned_parts known [] ys = refl
learned_parts known (x ∷ xs) ys = learned_parts (learned known x) xs ys

-- a text that finds no place is one too many
pub one_too_many : (old texts known : List Bytes) → FindsNoPlace old texts known → length (all_learned old texts) ≤ TEXTS → ⊥
one_too_many old texts known h few =
    let whole = ap (all_learned old) h.parts ∙ learned_parts old h.first (h.next ∷ h.rest)
    ∙ ap (λ ks. all_learned (learned ks h.next) h.rest) (sym h.learned) in
    let more = grown (learned known h.next) h.rest in
    omega (arith, few, ap length whole, more, one_more_known known h.next h.unknown, h.full)

-- where one finds none is determined
same_place : (old first first' : List Bytes) (next next' : Bytes) (rest rest' : List Bytes)
    → first ++ next ∷ rest ≡ first' ++ next' ∷ rest'
    → knows (all_learned old first) next ≡ false → knows (all_learned old first') next' ≡ false
    → length (all_learned old first) ≡ TEXTS → length (all_learned old first') ≡ TEXTS
    → all_learned old first ≡ all_learned old first'
same_place old [] [] next next' rest rest' same unknown unknown' full full' = refl
same_place old [] (f ∷ fs) next next' rest rest' same unknown unknown' full full' =
    let whole : next ∷ rest ≡ f ∷ (fs ++ next' ∷ rest') = same in
    let first : next ≡ f = cc in
    let more = grown (learned old f) fs in
    let new = one_more_known old f (subst (λ t. knows old t ≡ false) first unknown) in
    absurd (omega (arith, more, new, full, full'))
same_place old (f ∷ fs) [] next next' rest rest' same unknown unknown' full full' =
    let whole : f ∷ (fs ++ next ∷ rest) ≡ next' ∷ rest' = same in
    let first : next' ≡ f = cc in
    let more = grown (learned old f) fs in
    let new = one_more_known old f (subst (λ t. knows old t ≡ false) first unknown') in
    absurd (omega (arith, more, new, full, full'))
same_place old (f ∷ fs) (g ∷ gs) next next' rest rest' same unknown unknown' full full' =
    let whole : f ∷ (fs ++ next ∷ rest) ≡ g ∷ (gs ++ next' ∷ rest') = same in
    let first : f ≡ g = cc in
    let later : fs ++ next ∷ rest ≡ gs ++ next' ∷ rest' = cc in
    let at : Bytes → List Bytes = λ t. all_learned (learned old t) gs in
    same_place (learned old f) fs gs next next' rest rest' later unknown
    (subst (λ t. knows (all_learned (learned old t) gs) next' ≡ false) (sym first) unknown') full
    (subst (λ t. length (all_learned (learned old t) gs) ≡ TEXTS) (sym first) full')
    ∙ ap at first

pub one_place : (old texts a b : List Bytes) → FindsNoPlace old texts a → FindsNoPlace old texts b → a ≡ b
one_place old texts a b h k =
    h.learned ∙ same_place old h.first k.first h.next k.next h.rest k.rest (sym h.parts ∙ k.parts)
    (subst (λ ks. knows ks h.next ≡ false) h.learned h.unknown) (subst (λ ks. knows ks k.next ≡ false) k.learned k.unknown)
    (sym (ap length h.learned) ∙ h.full) (sym (ap length k.learned) ∙ k.full) ∙ sym k.learned

-- a late refusal for texts is for their limit, memory aside
pub texts_late : (old : Store) (texts : List Bytes) (new : Store) (r : Refusal) → r ≢ NoMemory → RefusedByTexts old texts new r
    → r ≡ Limit
texts_late old texts new Limit h late = refl
texts_late old texts new NoMemory h late = absurd (h refl)
texts_late old texts new Syntax h late = absurd late
texts_late old texts new Taken h late = absurd late
texts_late old texts new NoRelation h late = absurd late
texts_late old texts new NoQuery h late = absurd late
texts_late old texts new NoCursor h late = absurd late
texts_late old texts new Arity h late = absurd late
texts_late old texts new WrongType h late = absurd late
texts_late old texts new HeadUnbound h late = absurd late
texts_late old texts new HeadRepeated h late = absurd late
texts_late old texts new VariableType h late = absurd late
texts_late old texts new InUse h late = absurd late
texts_late old texts new Unbound h late = absurd late
texts_late old texts new Member h late = absurd late
texts_late old texts new Misplaced h late = absurd late
texts_late old texts new NoCopy h late = absurd late
texts_late old texts new OtherCount h late = absurd late

pub refused_texts : (old : Store) (texts : List Bytes) (new new' : Store) (r : Refusal) → r ≢ NoMemory
    → RefusedByTexts old texts new r → RefusedByTexts old texts new' r → new ≡ new'
refused_texts old texts new new' r other h k =
    let limit = texts_late old texts new r other h in
    let a = subst (λ w. RefusedByTexts old texts new w) limit h in
    let b = subst (λ w. RefusedByTexts old texts new' w) limit k in
    a.1 ∙ ap (λ ts. record old { texts = ts }) (one_place old.texts texts new.texts new'.texts a.0 b.0) ∙ sym b.1

-- ---- `add`

abbrev add_failed : Refusal → Result AddOutcome Refusal
add_failed r = Err r

module _ (old : State) (s : ℕ) (e e' : Effect) (new new' : State) (told : IsTold e) (told' : IsTold e') (goes : GoesOn old s) where
  pub add_same : (name : Bytes) (row : Tuple) → AddStep old s name row e new → AddStep old s name row e' new'
      → Same e new e' new'
  add_same name row h k =
      let same = results (add_refusal old.store name row) h.result k.result h.done.answer k.done.answer memory memory' in
      let stores = by h.result memory h.done (subst (λ r. AddsRow old.store name row r k.store) (sym same) k.done) in
      same_change old s _ _ h.store k.store _ _ e e' new new' told told'
      (ap (add_outcome (row_in old.store.relations name row)) same) stores
      (ap (λ r. add_reply r h.store.seq) same ∙ ap (λ (st : Store). add_reply k.result st.seq) stores)
      h.change k.change
    where
      memory : h.result ≡ Err NoMemory → ⊥
      memory is = no_memory old s _ h.store _ e new
          (ap (λ r. is_made (add_outcome (row_in old.store.relations name row) r)) is) goes h.change told
          (ap (λ r. add_reply r h.store.seq) is)

      memory' : k.result ≡ Err NoMemory → ⊥
      memory' is = no_memory old s _ k.store _ e' new'
          (ap (λ r. is_made (add_outcome (row_in old.store.relations name row) r)) is) goes k.change told'
          (ap (λ r. add_reply r k.store.seq) is)

      outcomes : (a b : AddOutcome) → AddsAs old.store name row h.store a → AddsAs old.store name row k.store b → a ≡ b
      outcomes First First x y = refl
      outcomes (More i) (More j) x y = ap (λ n. More n) (x.1 ∙ sym y.1)
      outcomes First (More j) x y = absurd (true≢false (sym y.0 ∙ x.0))
      outcomes (More i) First x y = absurd (true≢false (sym x.0 ∙ y.0))

      -- a row isn't both inserted and refused
      apart : (st st' : Store) (a : AddOutcome) (r : Refusal) → r ≢ NoMemory → AddsAs old.store name row st a
          → (has_row (rows_of old.store.relations name) row ≡ false) × RefusedByTexts old.store (texts_in row) st' r → ⊥
      apart st st' First r other x y =
          let limit = texts_late old.store (texts_in row) st' r other y.1 in
          let place = subst (λ w. RefusedByTexts old.store (texts_in row) st' w) limit y.1 in
          one_too_many old.store.texts (texts_in row) st'.texts place.0
          (subst (λ ts. length ts ≤ TEXTS) (ap (λ (z : Store). z.texts) x.2) x.1)
      apart st st' (More i) r other x y = true≢false (sym x.0 ∙ y.0)

      not_none : (r : Refusal) → (add_failed r ≡ Err NoMemory → ⊥) → r ≢ NoMemory
      not_none r h is = h (ap (λ w. Err w) is)

      results : (o : Option Refusal) (r r' : Result AddOutcome Refusal)
          → Answers o r (AddsAs old.store name row h.store) (λ w. (has_row (rows_of old.store.relations name) row ≡ false)
          × RefusedByTexts old.store (texts_in row) h.store w)
          → Answers o r' (AddsAs old.store name row k.store) (λ w. (has_row (rows_of old.store.relations name) row ≡ false)
          × RefusedByTexts old.store (texts_in row) k.store w)
          → (r ≡ Err NoMemory → ⊥) → (r' ≡ Err NoMemory → ⊥) → r ≡ r'
      results None (Ok a) (Ok b) x y m m' = ap (λ z. Ok z) (outcomes a b x y)
      results None (Ok a) (Err r) x y m m' = absurd (apart h.store k.store a r (not_none r m') x y)
      results None (Err r) (Ok b) x y m m' = absurd (apart k.store h.store b r (not_none r m) y x)
      results None (Err r) (Err t) x y m m' = ap (λ z. Err z)
          (texts_late old.store (texts_in row) h.store r (not_none r m) x.1
          ∙ sym (texts_late old.store (texts_in row) k.store t (not_none t m') y.1))
      results (Some w) (Ok a) r' x y m m' = absurd x
      results (Some w) (Err r) (Ok b) x y m m' = absurd y
      results (Some w) (Err r) (Err t) x y m m' = ap (λ z. Err z) (x ∙ sym y)

      stores_as : (a : AddOutcome) → AddsAs old.store name row h.store a → AddsAs old.store name row k.store a
          → h.store ≡ k.store
      stores_as First x y = x.2 ∙ sym y.2
      stores_as (More i) x y = x.2 ∙ sym y.2

      refused_by : (o : Option Refusal) → add_refusal old.store name row ≡ o → (r : Refusal) → r ≢ NoMemory
          → AddsRow old.store name row (Err r) h.store → AddsRow old.store name row (Err r) k.store → h.store ≡ k.store
      refused_by (Some w) is r other x y = x.stays (ap is_some is) ∙ sym (y.stays (ap is_some is))
      refused_by None is r other x y =
          let late = subst (λ o. Answers {A = AddOutcome} o (Err r) (AddsAs old.store name row h.store)
          (λ w. (has_row (rows_of old.store.relations name) row ≡ false)
          × RefusedByTexts old.store (texts_in row) h.store w)) is x.answer in
          let late' = subst (λ o. Answers {A = AddOutcome} o (Err r) (AddsAs old.store name row k.store)
          (λ w. (has_row (rows_of old.store.relations name) row ≡ false)
          × RefusedByTexts old.store (texts_in row) k.store w)) is y.answer in
          refused_texts old.store (texts_in row) h.store k.store r other late.1 late'.1

      by : (r : Result AddOutcome Refusal) → (r ≡ Err NoMemory → ⊥) → AddsRow old.store name row r h.store
          → AddsRow old.store name row r k.store → h.store ≡ k.store
      by (Ok a) m x y = stores_as a
          (done_of (add_refusal old.store name row) a (AddsAs old.store name row h.store) _ x.answer)
          (done_of (add_refusal old.store name row) a (AddsAs old.store name row k.store) _ y.answer)
      by (Err r) m x y = refused_by (add_refusal old.store name row) refl r (not_none r m) x y
