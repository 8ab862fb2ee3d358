-- What reads of a registered query give.
use Rattle.std.specs.Prelude.{ℕ, List, [], ◌∷◌, ◌++◌, ◌≡◌, Bool, true, false, None, Some, IsSomeAnd, slice_set}
use Rattle.djq_model.specs.Data.{Tuple}
use Rattle.djq_model.specs.Answer.{IsAnswer}
use Rattle.djq_store_spec.specs.Store.{Position, open_at, stale}
use Rattle.djq_store_spec.specs.Listing.{IsLeft, AreAll}
use Rattle.djq_store_spec.specs.Registering.{most_steps}
use Rattle.djq_reduct.specs.Reducts.{Reducts}
use Rattle.djq_reduct.specs.Answers.{IsAnswerOf}
use Rattle.djq_enumeration.specs.declared.cursor.Cursor.{Cursor}
use Rattle.djq_enumeration.specs.Given.{given}
use Rattle.djq_database.specs.Catalog.{Catalog}
use Rattle.djq_cursors.specs.declared.progress.Progress.TheVariants.{Open}
use Rattle.djq_live_query.specs.declared.listing.Next.{Next}
use Rattle.djq_live_query.specs.declared.listing.Next.TheVariants.{Given, End, Stale}
use Rattle.djq_live_query.specs.Cursors.{Progress, slot_at, IsOpenIn, SetsSlot}
use Rattle.djq_live_query.specs.Live.{Live, IsLive, position_of, values_of}

-- The cursor in a slot is moved, and nothing else.
pub record QueryCursorMoves (c : Catalog) (old : Live) (k : ℕ) (position : Position) (new : Live) :
    Type 0 where
  pub progress : Progress
  pub moved : new ≡ record old { cursors = slice_set old.cursors k (Some progress) }
  pub stands : position_of c.texts old progress ≡ position
  pub live : IsLive c new

-- What a read gives at a position: one answer that is left, as a tuple of the tree; the end if and
-- only if none is; or what made the cursor stale.
abbrev pub QueryNextGivesAt : Catalog → Live → ℕ → Position → Next → List ℕ → Live → Type 0
QueryNextGivesAt c old k (open_at given ended) Given u new =
    IsAnswerOf old.reducts u
    × IsLeft (IsAnswer c.relations old.query) given (values_of c.texts old u)
    × QueryCursorMoves c old k (open_at (given ++ values_of c.texts old u ∷ []) false) new
QueryNextGivesAt c old k (open_at given ended) End u new =
    AreAll (IsAnswer c.relations old.query) given × QueryCursorMoves c old k (open_at given true) new
QueryNextGivesAt c old k (open_at given ended) (Stale relation n) u new = ⊥
QueryNextGivesAt c old k (stale r m) (Stale relation n) u new =
    (relation ≡ r) × (n ≡ m) × (new ≡ old)
QueryNextGivesAt c old k (stale r m) _ u new = ⊥

-- A read of the cursor in a slot.
abbrev pub QueryNextGives : Catalog → Live → ℕ → Next → List ℕ → Live → Type 0
QueryNextGives c old k result u new = IsSomeAnd (slot_at old.cursors k)
    (λ p. QueryNextGivesAt c old k (position_of c.texts old p) result u new)

-- What is known at a position of whether an answer is left: a cursor to which none is left is at
-- its end.
abbrev pub QueryMoreGivesAt : Catalog → Live → ℕ → Position → Bool → Live → Type 0
QueryMoreGivesAt c old k (open_at given ended) true new =
    ((t : Tuple) × IsLeft (IsAnswer c.relations old.query) given t)
    × QueryCursorMoves c old k (open_at given false) new
QueryMoreGivesAt c old k (open_at given ended) false new =
    AreAll (IsAnswer c.relations old.query) given × QueryCursorMoves c old k (open_at given true) new
QueryMoreGivesAt c old k (stale r m) more new = ⊥

-- What is known, at the cursor in a slot, of whether an answer is left.
abbrev pub QueryMoreGives : Catalog → Live → ℕ → Bool → Live → Type 0
QueryMoreGives c old k result new = IsSomeAnd (slot_at old.cursors k)
    (λ p. QueryMoreGivesAt c old k (position_of c.texts old p) result new)

-- what a read counts at most: a stale cursor costs nothing
abbrev pub next_steps : Next → ℕ → ℕ
next_steps (Stale relation n) h = 0
next_steps _ h = most_steps h

-- A cursor that has given nothing is in a slot that was empty, and nothing else has changed.
pub record QueryOpensIn (old : Live) (k : ℕ) (new : Live) : Type 0 where
  pub free : slot_at old.cursors k ≡ None
  pub cursor : Cursor
  pub none : (r : Reducts) → given r cursor ≡ []
  pub sets : SetsSlot old.cursors k (Some (Open cursor false)) new.cursors
  pub others : new ≡ record old { cursors = new.cursors }

-- a cursor that isn't stale is in a slot
abbrev pub IsFreshIn : Live → ℕ → Type 0
IsFreshIn l k = IsOpenIn l.cursors k
