-- `done` is determined, memory aside.
use Rattle.std.specs.Prelude.{ℕ, List, [], ◌∷◌, ◌≡◌, ◌≢◌, ◌++◌, Bool, false, Option, None, Some}
use Rattle.std.specs.Prelude.{IsSomeAnd, option_map, Result, Ok, Err, length}
use Rattle.std.proofs.Common.{refl, sym, ap, ◌∙◌, subst, inl, inr, arith}
use Rattle.djq_model.specs.declared.relation.Relation.{Relation}
use Rattle.djq_model.specs.Data.{Bytes}
use Rattle.djq_protocol.specs.declared.answer.Refusal.TheVariants.{NoMemory}
use Rattle.djq_protocol.specs.declared.held.LineRefusal.{LineRefusal}
use Rattle.djq_protocol.specs.declared.held.LineRefusal.TheVariants.{Limit as OverLimit, Absent, NoMemory as OutOfMemory}
use Rattle.djq_protocol.specs.declared.held.DoneRefusal.{DoneRefusal}
use Rattle.djq_protocol.specs.declared.held.DoneRefusal.TheVariants.{OtherNumber, Line, LastChange, NoMemory as NoneLeft}
use Rattle.djq_protocol.specs.Reply.{refusal_line, line_word, done_word, done_reply}
use Rattle.djq_store_spec.specs.Store.{Store}
use Rattle.djq_store_spec.specs.Held.{HeldLine, HeldTransaction}
use Rattle.djq_store_spec.specs.Changes.{is_made}
use Rattle.djq_store_spec.specs.Judging.{UnlessMemory, StopsAtLine, texts_after, texts_added}
use Rattle.djq_store_spec.specs.Done.{AnswersDone, RefusesDone, is_other}
use Rattle.djq_store_spec.specs.Transaction.{DoesAll, lines_outcome}
use Rattle.djq_machine.specs.State.{State, Session, session_of, with_session}
use Rattle.djq_machine.specs.Effect.{Effect}
use Rattle.djq_machine.specs.Command.{DoneStep, without_batch}
use Rattle.djq_run_laws.proofs.Lists.{session_changed}
use Rattle.djq_determinacy.proofs.Determinacy.{IsTold, Same}
use Rattle.djq_determinacy.proofs.RowsSame.{GoesOn, no_memory, same_change, one_place}

-- ---- What `done` is answered.

refused_as : (other : Bool) (refusal : Option DoneRefusal) (w : DoneRefusal) → done_word w ≢ NoMemory
    → AnswersDone {A = ℕ} other refusal (Err w) → refusal ≡ Some w
refused_as other refusal OtherNumber m h = h
refused_as other refusal LastChange m h = h
refused_as other refusal NoneLeft m h = absurd (m refl)
refused_as other refusal (Line r) m h = by r.refusal refl h.1
  where
    by : (f : LineRefusal) → r.refusal ≡ f → UnlessMemory f (refusal ≡ Some (Line r)) → refusal ≡ Some (Line r)
    by OverLimit is h = h
    by Absent is h = h
    by OutOfMemory is h = absurd (m (ap line_word is))

-- no refused transaction is a change
unmade : (relations : List Relation) (lines : List HeldLine) (w : DoneRefusal)
    → is_made (lines_outcome relations lines (Err w)) ≡ false
unmade relations lines OtherNumber = refl
unmade relations lines LastChange = refl
unmade relations lines NoneLeft = refl
unmade relations lines (Line r) = by r.refusal
  where
    by : (f : LineRefusal) → is_made (lines_outcome relations lines (Err (Line (record { at = r.at; refusal = f })))) ≡ false
    by OverLimit = refl
    by Absent = refl
    by OutOfMemory = refl

-- ---- Which texts become known, where a line is refused.

same_front : (front front' : List HeldLine) (h h' : HeldLine) (rest rest' : List HeldLine)
    → front ++ h ∷ rest ≡ front' ++ h' ∷ rest' → length front ≡ length front' → (front ≡ front') × (h ≡ h')
same_front [] [] h h' rest rest' same long =
    let whole : h ∷ rest ≡ h' ∷ rest' = same in let first : h ≡ h' = cc in (refl, first)
same_front (f ∷ fs) (g ∷ gs) h h' rest rest' same long =
    let whole : f ∷ (fs ++ h ∷ rest) ≡ g ∷ (gs ++ h' ∷ rest') = same in
    let first : f ≡ g = cc in
    let later : fs ++ h ∷ rest ≡ gs ++ h' ∷ rest' = cc in
    let more = same_front fs gs h h' rest rest' later (omega (arith, long)) in
    (ap (λ x. x ∷ fs) first ∙ ap (λ xs. g ∷ xs) more.0, more.1)
same_front [] (g ∷ gs) h h' rest rest' same long = absurd (omega (arith, long))
same_front (f ∷ fs) [] h h' rest rest' same long = absurd (omega (arith, long))

same_stop : (relations : List Relation) (front : List HeldLine) (texts : List Bytes) (h : HeldLine) (known known' : List Bytes)
    (f : LineRefusal) → line_word f ≢ NoMemory → StopsAtLine relations front texts h known f
    → StopsAtLine relations front texts h known' f → known ≡ known'
same_stop relations front texts h known known' Absent m x y = x.1 ∙ sym y.1
same_stop relations front texts h known known' OutOfMemory m x y = absurd (m refl)
same_stop relations front texts h known known' OverLimit m (inl x) (inl y) = x.1 ∙ sym y.1
same_stop relations front texts h known known' OverLimit m (inr x) (inr y) =
    one_place texts (texts_added h) known known' x.1 y.1
same_stop relations front texts h known known' OverLimit m (inl x) (inr y) =
    absurd (let none : Some OverLimit ≡ None = sym x.0 ∙ y.0 in cc)
same_stop relations front texts h known known' OverLimit m (inr x) (inl y) =
    absurd (let none : Some OverLimit ≡ None = sym y.0 ∙ x.0 in cc)

same_known : (relations : List Relation) (texts : List Bytes) (lines : List HeldLine) (known known' : List Bytes)
    (w : DoneRefusal) → done_word w ≢ NoMemory → RefusesDone relations texts lines known w
    → RefusesDone relations texts lines known' w → known ≡ known'
same_known relations texts lines known known' OtherNumber m x y = x ∙ sym y
same_known relations texts lines known known' LastChange m x y = x ∙ sym y
same_known relations texts lines known known' NoneLeft m x y = absurd (m refl)
same_known relations texts lines known known' (Line r) m x y =
    let same = same_front x.front y.front x.at y.at x.rest y.rest (sym x.parts ∙ y.parts) (sym x.place ∙ y.place) in
    same_stop relations x.front (texts_after texts x.front) x.at known known' r.refusal m x.stops
    (subst (λ front. StopsAtLine relations front (texts_after texts front) x.at known' r.refusal) (sym same.0)
    (subst (λ h. StopsAtLine relations y.front (texts_after texts y.front) h known' r.refusal) (sym same.1) y.stops))

-- ---- `done`

module _ (old : State) (s : ℕ) (e e' : Effect) (new new' : State) (told : IsTold e) (told' : IsTold e') (goes : GoesOn old s) where
  closed_goes : GoesOn (with_session old s without_batch) s
  closed_goes = subst (λ o. IsSomeAnd o (λ (y : Session). y.cause ≡ None))
      (sym (session_changed old s without_batch (λ y. refl))) (by (session_of old s) goes)
    where
      by : (o : Option Session) → IsSomeAnd o (λ y. y.cause ≡ None)
          → IsSomeAnd (option_map without_batch o) (λ y. y.cause ≡ None)
      by None h = absurd h
      by (Some y) h = h

  pub done_same : (held : HeldTransaction) (given : Option ℕ) → DoneStep old s held given e new
      → DoneStep old s held given e' new' → Same e new e' new'
  done_same held given h k =
      let same = results h.result k.result h.done k.done memory memory' in
      let stores = by h.result memory h.done (subst (λ r. DoesAll old.store held.lines given r k.store) (sym same) k.done) in
      same_change (with_session old s without_batch) s _ _ h.store k.store _ _ e e' new new' told told'
      (ap (lines_outcome old.store.relations held.lines) same) stores
      (ap (λ r. done_reply r h.store.seq) same ∙ ap (λ (st : Store). done_reply k.result st.seq) stores)
      h.change k.change
    where
      memory : (w : DoneRefusal) → h.result ≡ Err w → done_word w ≢ NoMemory
      memory w is no_more_memory = no_memory (with_session old s without_batch) s _ h.store _ e new
          (ap (λ r. is_made (lines_outcome old.store.relations held.lines r)) is ∙ unmade old.store.relations held.lines w)
          closed_goes h.change told (ap (λ r. done_reply r h.store.seq) is ∙ ap refusal_line no_more_memory)

      memory' : (w : DoneRefusal) → k.result ≡ Err w → done_word w ≢ NoMemory
      memory' w is no_more_memory = no_memory (with_session old s without_batch) s _ k.store _ e' new'
          (ap (λ r. is_made (lines_outcome old.store.relations held.lines r)) is ∙ unmade old.store.relations held.lines w)
          closed_goes k.change told' (ap (λ r. done_reply r k.store.seq) is ∙ ap refusal_line no_more_memory)

      results : (r r' : Result ℕ DoneRefusal) → DoesAll old.store held.lines given r h.store
          → DoesAll old.store held.lines given r' k.store → ((w : DoneRefusal) → r ≡ Err w → done_word w ≢ NoMemory)
          → ((w : DoneRefusal) → r' ≡ Err w → done_word w ≢ NoMemory) → r ≡ r'
      results (Ok a) (Ok b) x y m m' = ap (λ n. Ok n) (x.does.0 ∙ sym y.does.0)
      results (Ok a) (Err w) x y m m' =
          let refused = refused_as (is_other given (length held.lines)) _ w (m' w refl) y.answer in
          absurd (let none : None ≡ Some w = sym x.answer ∙ refused in cc)
      results (Err w) (Ok b) x y m m' =
          let refused = refused_as (is_other given (length held.lines)) _ w (m w refl) x.answer in
          absurd (let none : None ≡ Some w = sym y.answer ∙ refused in cc)
      results (Err w) (Err v) x y m m' =
          let refused = refused_as (is_other given (length held.lines)) _ w (m w refl) x.answer in
          let refused' = refused_as (is_other given (length held.lines)) _ v (m' v refl) y.answer in
          let same : Some w ≡ Some v = sym refused ∙ refused' in
          let word : w ≡ v = cc in ap (λ u. Err u) word

      by : (r : Result ℕ DoneRefusal) → ((w : DoneRefusal) → r ≡ Err w → done_word w ≢ NoMemory)
          → DoesAll old.store held.lines given r h.store → DoesAll old.store held.lines given r k.store → h.store ≡ k.store
      by (Ok n) m x y = x.does.1 ∙ sym y.does.1
      by (Err w) m x y =
          x.does.1 ∙ ap (λ ts. record old.store { texts = ts })
          (same_known old.store.relations old.store.texts held.lines h.store.texts k.store.texts w (m w refl) x.does.0 y.does.0)
          ∙ sym y.does.1
