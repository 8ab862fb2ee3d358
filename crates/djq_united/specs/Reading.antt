-- What opening and reading the cursors of a union do.
use Rattle.std.specs.Prelude.{
  ◌≡◌,
  ℕ,
  List,
  [],
  ◌∷◌,
  ◌++◌,
  Bool,
  true,
  false,
  Option,
  None,
  Some,
  IsSomeAnd,
  slice_set,
}
use Rattle.djq_model.specs.Data.{Bytes, Tuple}
use Rattle.djq_model.specs.Listed.{Listed, AnswersOf}
use Rattle.djq_store_spec.specs.Store.{Position, open_at, stale}
use Rattle.djq_store_spec.specs.Listing.{IsLeft, AreAll}
use Rattle.djq_store_spec.specs.Registering.{answer_steps}
use Rattle.djq_database.specs.Catalog.{Catalog}
use Rattle.djq_live_query.specs.declared.listing.Next.{Next}
use Rattle.djq_live_query.specs.declared.listing.Next.TheVariants.{Given, End, Stale}
use Rattle.djq_live_query.specs.Live.{Live, IsShowable, values_of}
use Rattle.djq_united.specs.Slots.{UnionProgress, slot_at, SetsSlot}
use Rattle.djq_united.specs.United.{United, members_in, union_of, AtFirst, IsUnited, union_position}

-- A cursor that has given nothing is in a slot that was empty, and nothing else has changed.
pub record UnionOpensIn (old : United) (k : ℕ) (new : United) : Type 0 where
  pub free : slot_at old.cursors k ≡ None
  pub progress : UnionProgress
  pub stands : (texts : List Bytes) (ls : List Live)
      → union_position texts ls progress ≡ open_at [] false
  pub sets : SetsSlot old.cursors k (Some progress) new.cursors
  pub others : new ≡ record old { cursors = new.cursors }

-- The cursor in a slot is moved, and nothing else.
pub record UnionCursorMoves (c : Catalog) (qs : List (Option Live)) (old : United) (k : ℕ)
    (position : Position) (new : United) : Type 0 where
  pub progress : UnionProgress
  pub moved : new ≡ record old { cursors = slice_set old.cursors k (Some progress) }
  pub stands : union_position c.texts (members_in qs old) progress ≡ position
  pub united : IsUnited qs new

-- The first member shows this tuple.
pub record IsShownBy (texts : List Bytes) (l : Live) (answer : List ℕ) (t : Tuple) : Type 0 where
  pub showable : IsShowable texts l answer
  pub is : t ≡ values_of texts l answer

-- What a read gives at a position: one answer that is left, as a tuple of the first member's tree;
-- the end if and only if none is; or what made the cursor stale.
abbrev pub UnionNextGivesAt : Catalog → List (Option Live) → United → ℕ → Position → Next → List ℕ
    → United → Type 0
UnionNextGivesAt c qs old k (open_at given ended) Given answer new =
    (t : Tuple) × IsLeft (AnswersOf c.relations (union_of qs old)) given t
    × AtFirst (members_in qs old) (λ l. IsShownBy c.texts l answer t)
    × UnionCursorMoves c qs old k (open_at (given ++ t ∷ []) false) new
UnionNextGivesAt c qs old k (open_at given ended) End answer new =
    AreAll (AnswersOf c.relations (union_of qs old)) given
    × UnionCursorMoves c qs old k (open_at given true) new
UnionNextGivesAt c qs old k (open_at given ended) (Stale relation n) answer new = ⊥
UnionNextGivesAt c qs old k (stale r m) (Stale relation n) answer new =
    (relation ≡ r) × (n ≡ m) × (new ≡ old)
UnionNextGivesAt c qs old k (stale r m) _ answer new = ⊥

-- A read of the cursor in a slot.
abbrev pub UnionNextGives : Catalog → List (Option Live) → United → ℕ → Next → List ℕ → United
    → Type 0
UnionNextGives c qs old k result answer new = IsSomeAnd (slot_at old.cursors k)
    (λ p. UnionNextGivesAt c qs old k (union_position c.texts (members_in qs old) p) result answer new)

-- What is known at a position of whether an answer is left: a cursor to which none is left is at
-- its end.
abbrev pub UnionMoreGivesAt : Catalog → List (Option Live) → United → ℕ → Position → Bool → United
    → Type 0
UnionMoreGivesAt c qs old k (open_at given ended) true new =
    ((t : Tuple) × IsLeft (AnswersOf c.relations (union_of qs old)) given t)
    × UnionCursorMoves c qs old k (open_at given false) new
UnionMoreGivesAt c qs old k (open_at given ended) false new =
    AreAll (AnswersOf c.relations (union_of qs old)) given
    × UnionCursorMoves c qs old k (open_at given true) new
UnionMoreGivesAt c qs old k (stale r m) more new = ⊥

-- What is known, at a union's cursor in a slot, of whether an answer is left.
abbrev pub UnionMoreGives : Catalog → List (Option Live) → United → ℕ → Bool → United → Type 0
UnionMoreGives c qs old k result new = IsSomeAnd (slot_at old.cursors k)
    (λ p. UnionMoreGivesAt c qs old k (union_position c.texts (members_in qs old) p) result new)

-- what a read counts at most: a stale cursor costs nothing
abbrev pub union_read_steps : Next → Listed → ℕ
union_read_steps (Stale relation n) listed = 0
union_read_steps _ listed = answer_steps listed
