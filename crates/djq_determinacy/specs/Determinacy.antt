-- What of a step is determined by its state and its event, memory aside.
use Rattle.std.specs.Prelude.{ℕ, List, [], ◌∷◌, ◌≡◌, ◌≢◌, ◌++◌, Bool, true, All, IsPermutation, length, ⊤}
use Rattle.djq_model.specs.Data.{Bytes, Tuple}
use Rattle.djq_protocol.specs.declared.answer.Refusal.TheVariants.{NoMemory}
use Rattle.djq_protocol.specs.Reply.{refusal_line, end_memory, text_of, listing_lines}
use Rattle.djq_store_spec.specs.Store.{Store}
use Rattle.djq_store_spec.specs.Delta.{Change, delta_lines}
use Rattle.djq_machine.specs.State.{State}
use Rattle.djq_machine.specs.Effect.{Effect}
use Rattle.djq_machine.specs.Step.{Event, Step, SameRelations}

-- Two texts say the same. They are equal; or they are the page of a listing, as long and as near to its end, and the
-- last page has the same answers, in some order; or they are a delta, whose changes are the same in some order.
pub data SameText (a b : Bytes) : Type 0 where
  is_equal : a ≡ b → SameText a b
  are_pages : (told told' : List Tuple) (end : Bool) → a ≡ text_of (listing_lines told end)
      → b ≡ text_of (listing_lines told' end) → length told ≡ length told' → (end ≡ true → IsPermutation told told')
      → SameText a b
  are_deltas : (query : Bytes) (changes changes' : List Change) (n : ℕ) → IsPermutation changes changes'
      → a ≡ text_of (delta_lines query changes n) → b ≡ text_of (delta_lines query changes' n) → SameText a b

-- the same is queued, part by part, to the same sessions
abbrev pub SameQueued : List (ℕ × Bytes) → List (ℕ × Bytes) → Type 0
SameQueued [] [] = ⊤
SameQueued (p ∷ ps) (q ∷ qs) = (p.0 ≡ q.0) × SameText p.1 q.1 × SameQueued ps qs
SameQueued _ _ = ⊥

-- the same store, but for the order of rows
pub record SameStore (a b : Store) : Type 0 where
  pub relations : SameRelations a.relations b.relations
  pub texts : a.texts ≡ b.texts
  pub queries : a.queries ≡ b.queries
  pub seq : a.seq ≡ b.seq

-- the text doesn't say that memory was refused
abbrev pub IsNoRefusal : Bytes → Type 0
IsNoRefusal text = (text ≢ refusal_line NoMemory) × ((front : Bytes) → text ≢ front ++ end_memory)

-- No memory was refused: nothing queued says so.
abbrev pub HasMemory : Effect → Type 0
HasMemory e = All (λ q. IsNoRefusal q.1) e.queued

-- **Nothing loose.** Two steps of one event from one state, to neither of which memory is refused, queue the same and
-- leave the same store.
abbrev pub StepsAreDetermined : Type 0
StepsAreDetermined = (old : State) (event : Event) (e e' : Effect) (new new' : State)
    → Step old event e new → Step old event e' new' → HasMemory e → HasMemory e'
    → SameQueued e.queued e'.queued × SameStore new.store new'.store
