-- What a session has that adds up a listing and the delta of a change.
use Rattle.std.specs.Prelude.{List, [], ◌∷◌, ◌++◌, Bool, true, false, not, if◌then◌else◌, filter}
use Rattle.djq_model.specs.Data.{Tuple, has_row}
use Rattle.djq_model.specs.declared.relation.Relation.{Relation}
use Rattle.djq_model.specs.Answer.{IsListing}
use Rattle.djq_model.specs.Listed.{Listed, AnswersOf}
use Rattle.djq_protocol.specs.declared.answer.Sign.{Sign}
use Rattle.djq_protocol.specs.declared.answer.Sign.TheVariants.{Came, Went}
use Rattle.djq_store_spec.specs.Delta.{Change, IsDelta}

-- whether two signs are the same
abbrev pub same_sign : Sign → Sign → Bool
same_sign Came Came = true
same_sign Went Went = true
same_sign Came Went = false
same_sign Went Came = false

-- the answers of a sign
abbrev pub of_sign : Sign → List Change → List Tuple
of_sign sign [] = []
of_sign sign (c ∷ cs) = if same_sign sign c.sign then c.answer ∷ of_sign sign cs else of_sign sign cs

-- the answers that are left and those that were added
abbrev pub added_up : List Tuple → List Change → List Tuple
added_up ts changes = filter (λ t. not (has_row (of_sign Went changes) t)) ts ++ of_sign Came changes

-- A listing and the delta of a change together are a listing of the answers after it.
abbrev pub DeltasAddUp : Type 0
DeltasAddUp = (before after : List Relation) (q : Listed) (ts : List Tuple) (changes : List Change)
    → IsListing (AnswersOf before q) ts → IsDelta (AnswersOf before q) (AnswersOf after q) changes
    → IsListing (AnswersOf after q) (added_up ts changes)
