-- `query` is determined, memory aside.
use Rattle.std.specs.Prelude.{ℕ, [], ◌∷◌, ◌≡◌, ◌≢◌, ◌⊎◌, ◌≤◌, true, Option, None, Some, is_some, Result, Ok, Err, codes, length}
use Rattle.std.proofs.Common.{refl, sym, ap, ◌∙◌, subst, inl, inr}
use Rattle.djq_model.specs.declared.query.Query.{Query}
use Rattle.djq_model.specs.Known.{texts_in}
use Rattle.djq_protocol.specs.declared.limits.TheConstants.{TEXTS}
use Rattle.djq_protocol.specs.declared.answer.Refusal.{Refusal}
use Rattle.djq_protocol.specs.declared.answer.Refusal.TheVariants.{NoMemory}
use Rattle.djq_protocol.specs.declared.rest.QueryOutcome.{QueryOutcome}
use Rattle.djq_protocol.specs.declared.rest.QueryOutcome.TheVariants.{Registered, Cyclic, NotConnex}
use Rattle.djq_protocol.specs.Conditions.{Answers}
use Rattle.djq_protocol.specs.Variables.{constants_of}
use Rattle.djq_protocol.specs.Hypergraph.{edges_of, head_of}
use Rattle.djq_protocol.specs.Reply.{query_reply, end_memory}
use Rattle.djq_store_spec.specs.Store.{Store}
use Rattle.djq_store_spec.specs.Relations.{RefusedByTexts}
use Rattle.djq_store_spec.specs.Registering.{query_refusal, RegistersAs, RefusedLate}
use Rattle.djq_machine.specs.State.{State}
use Rattle.djq_machine.specs.Effect.{Effect}
use Rattle.djq_machine.specs.Command.{QueryStep, QueryCutStep}
use Rattle.djq_determinacy.specs.Determinacy.{SameText, is_equal, SameQueued}
use Rattle.djq_determinacy.proofs.Determinacy.{Same, IsTold, not_refused, not_err, answered}
use Rattle.djq_determinacy.proofs.RestsSame.{one_named, query_rises, head_rises}
use Rattle.djq_determinacy.proofs.RowsSame.{one_too_many, texts_late, refused_texts}

abbrev query_failed : Refusal → Result QueryOutcome Refusal
query_failed r = Err r

not_none : (r : Refusal) → (query_failed r ≡ Err NoMemory → ⊥) → r ≢ NoMemory
not_none r h is = h (ap (λ w. Err w) is)

-- what is replied to a query, and the store that it leaves, are the same
abbrev SameQuery : (r r' : Result QueryOutcome Refusal) (st st' : Store) → Type 0
SameQuery r r' st st' = SameText (query_reply r) (query_reply r') × (st ≡ st')

module _ (old : Store) (q : Query) (st st' : Store) where
  outcomes : (a b : QueryOutcome) → RegistersAs old q st a → RegistersAs old q st' b → SameQuery (Ok a) (Ok b) st st'
  outcomes (Registered m) (Registered n) x y = (is_equal (ap (λ k. query_reply (Ok (Registered k))) (x.1 ∙ sym y.1)), x.3 ∙ sym y.3)
  outcomes (Cyclic r) (Cyclic t) x y = (
    is_equal (one_named q (edges_of q) x.0.0 y.0.0 r t (codes "no cyclic") (query_rises q) (x.0.1).rest (y.0.1).rest x.0.2 y.0.2),
    x.1 ∙ sym y.1,
  )
  outcomes (NotConnex r) (NotConnex t) x y = (
    is_equal (one_named q (head_of q ∷ edges_of q) x.0.0 y.0.0 r t (codes "no connex") (head_rises q) (x.0.1).rest (y.0.1).rest
        x.0.2 y.0.2),
    x.1 ∙ sym y.1,
  )
  outcomes (Registered m) (Cyclic t) x y = absurd ((y.0.1).no_tree x.0.0)
  outcomes (Cyclic r) (Registered n) x y = absurd ((x.0.1).no_tree y.0.0)
  outcomes (Registered m) (NotConnex t) x y = absurd ((y.0.1).no_tree x.0.1)
  outcomes (NotConnex r) (Registered n) x y = absurd ((x.0.1).no_tree y.0.1)
  outcomes (Cyclic r) (NotConnex t) x y = absurd ((x.0.1).no_tree (y.0.1).tree)
  outcomes (NotConnex r) (Cyclic t) x y = absurd ((y.0.1).no_tree (x.0.1).tree)

-- a query isn't both answered and refused late
apart : (old : Store) (q : Query) (st st' : Store) (a : QueryOutcome) (r : Refusal) → r ≢ NoMemory → RegistersAs old q st a
    → RefusedLate old q st' r → ⊥
apart old q st st' a r other x (inr y) = other y.0
apart old q st st' (Registered most) r other x (inl y) =
    let limit = texts_late old (texts_in (constants_of q)) st' r other y.1 in
    let place = subst (λ w. RefusedByTexts old (texts_in (constants_of q)) st' w) limit y.1 in
    one_too_many old.texts (texts_in (constants_of q)) st'.texts place.0
    (subst (λ ts. length ts ≤ TEXTS) (ap (λ (z : Store). z.texts) x.3) x.2)
apart old q st st' (Cyclic rest) r other x (inl y) = (x.0.1).no_tree y.0.0
apart old q st st' (NotConnex rest) r other x (inl y) = (x.0.1).no_tree y.0.1

late_same : (old : Store) (q : Query) (st st' : Store) (r t : Refusal) → r ≢ NoMemory → t ≢ NoMemory
    → RefusedLate old q st r → RefusedLate old q st' t → SameQuery (Err r) (Err t) st st'
late_same old q st st' r t m m' (inr x) y = absurd (m x.0)
late_same old q st st' r t m m' (inl x) (inr y) = absurd (m' y.0)
late_same old q st st' r t m m' (inl x) (inl y) =
    let limit = texts_late old (texts_in (constants_of q)) st r m x.1 in
    let limit' = texts_late old (texts_in (constants_of q)) st' t m' y.1 in
    let same = limit ∙ sym limit' in (
      is_equal (ap (λ w. query_reply (Err w)) same),
      refused_texts old (texts_in (constants_of q)) st st' r m x.1
          (subst (λ w. RefusedByTexts old (texts_in (constants_of q)) st' w) (sym same) y.1),
    )

results_same : (old : Store) (q : Query) (st st' : Store) (o : Option Refusal) (r r' : Result QueryOutcome Refusal)
    → query_refusal old q ≡ o → (r ≡ Err NoMemory → ⊥) → (r' ≡ Err NoMemory → ⊥)
    → (is_some (query_refusal old q) ≡ true → st ≡ old) → (is_some (query_refusal old q) ≡ true → st' ≡ old)
    → Answers o r (RegistersAs old q st) (RefusedLate old q st) → Answers o r' (RegistersAs old q st') (RefusedLate old q st')
    → SameQuery r r' st st'
results_same old q st st' None (Ok a) (Ok b) is m m' stays stays' x y = outcomes old q st st' a b x y
results_same old q st st' None (Ok a) (Err t) is m m' stays stays' x y = absurd (apart old q st st' a t (not_none t m') x y)
results_same old q st st' None (Err r) (Ok b) is m m' stays stays' x y = absurd (apart old q st' st b r (not_none r m) y x)
results_same old q st st' None (Err r) (Err t) is m m' stays stays' x y =
    late_same old q st st' r t (not_none r m) (not_none t m') x y
results_same old q st st' (Some w) (Ok a) r' is m m' stays stays' x y = absurd x
results_same old q st st' (Some w) (Err r) (Ok b) is m m' stays stays' x y = absurd y
results_same old q st st' (Some w) (Err r) (Err t) is m m' stays stays' x y = (
  is_equal (ap (λ v. query_reply (Err v)) (x ∙ sym y)),
  stays (ap is_some is) ∙ sym (stays' (ap is_some is)),
)

module _ (old : State) (s : ℕ) (e e' : Effect) (new new' : State) (told : IsTold e) (told' : IsTold e') where
  whole_same : (q : Query) → QueryStep old s q e new → QueryStep old s q e' new' → Same e new e' new'
  whole_same q h k =
      let is = answered s _ _ e h.effect in
      let is' = answered s _ _ e' k.effect in
      let same = results_same old.store q h.store k.store (query_refusal old.store q) h.result k.result refl
      (not_err query_reply s h.result e refl is told) (not_err query_reply s k.result e' refl is' told')
      h.done.stays k.done.stays h.done.answer k.done.answer in (
        subst (λ qs. SameQueued qs e'.queued) (sym is)
            (subst (λ qs. SameQueued ((s, query_reply h.result) ∷ []) qs) (sym is') (refl, same.0, tt)),
        h.state ∙ ap (λ (st : Store). record old { store = st }) same.1 ∙ sym k.state,
      )

  pub query_same : (q : Query) → QueryStep old s q e new ⊎ QueryCutStep old s q e new
      → QueryStep old s q e' new' ⊎ QueryCutStep old s q e' new' → Same e new e' new'
  query_same q (inl h) (inl k) = whole_same q h k
  query_same q (inr h) k = absurd ((not_refused s end_memory e.queued (answered s _ _ e h.ends.0) told).1 [] refl)
  query_same q (inl h) (inr k) = absurd ((not_refused s end_memory e'.queued (answered s _ _ e' k.ends.0) told').1 [] refl)
