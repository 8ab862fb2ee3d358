-- Changes by which rows are inserted and others deleted at once: what is left of both is the delta.
use Rattle.std.specs.Prelude.{List, ◌++◌, ◌↔◌, ◌⊎◌, All, Any, Contains, map}
use Rattle.djq_model.specs.declared.relation.Relation.{Relation}
use Rattle.djq_model.specs.Answer.{IsAnswer, AreDifferent}
use Rattle.djq_model.specs.Data.{Bytes}
use Rattle.djq_model.specs.Listed.{Listed, a_union, AnswersOf}
use Rattle.djq_protocol.specs.declared.answer.Sign.{Sign}
use Rattle.djq_protocol.specs.declared.answer.Sign.TheVariants.{Came, Went}
use Rattle.djq_store_spec.specs.Delta.{Change, HasChanged, IsDelta}
use Rattle.djq_store_spec.specs.DeltaCost.{Part}
use Rattle.djq_answer_laws.specs.Growing.{HaveRows}

abbrev pub opposite_sign : Sign → Sign
opposite_sign Came = Went
opposite_sign Went = Came

-- the same answer, the other way
abbrev pub opposite : Change → Change
opposite c = record { sign = opposite_sign c.sign; answer = c.answer }

-- Of these changes those stay whose opposite isn't among them, each once.
pub record CancelsOut (old new : List Change) : Type 0 where
  pub different : AreDifferent (map (λ c. c.answer) new)
  pub within : (c : Change) → Contains new c → Contains old c
  pub alone : (c : Change) → Contains new c → Contains old (opposite c) → ⊥
  pub complete : (c : Change) → Contains old c → (Contains old (opposite c) → ⊥) → Contains new c

-- Rows are inserted, up to relations between, and from there rows are deleted: the answers that
-- were added and those that were removed, settled, are the delta of the whole change.
abbrev pub NetDelta : Type 0
NetDelta = (before between after : List Relation) (q : Listed)
    → HaveRows before between → HaveRows after between → (come gone new : List Change)
    → IsDelta (AnswersOf before q) (AnswersOf between q) come
    → IsDelta (AnswersOf between q) (AnswersOf after q) gone
    → CancelsOut (come ++ gone) new → IsDelta (AnswersOf before q) (AnswersOf after q) new

-- how the answers of a member of a union changed
abbrev pub IsMemberDelta : (before after : List Relation) → Part → Type 0
IsMemberDelta before after p = IsDelta (IsAnswer before p.query) (IsAnswer after p.query) p.changes

-- A member agrees with a change of the union: nothing in its delta is the opposite, and if its
-- delta doesn't have the change, the answer isn't its own afterwards.
abbrev pub MemberAgrees : List Relation → Change → Part → Type 0
MemberAgrees after c p = (Contains p.changes (opposite c) → ⊥)
    × (Contains p.changes c ⊎ (IsAnswer after p.query c.answer → ⊥))

-- What is reported of a union: what is in the delta of a member, and all members agree with.
abbrev pub IsReportedByMembers : List Relation → List Part → Change → Type 0
IsReportedByMembers after parts c = Any (λ p. Contains p.changes c) parts × All (MemberAgrees after c) parts

-- That is what was added to the union, and what was removed, and nothing else.
abbrev pub UnionsReport : Type 0
UnionsReport = (before after : List Relation) (name : Bytes) (parts : List Part) (c : Change)
    → All (IsMemberDelta before after) parts → IsReportedByMembers after parts c
    ↔ HasChanged (AnswersOf before (a_union name (map (λ p. p.query) parts)))
    (AnswersOf after (a_union name (map (λ p. p.query) parts))) c.sign c.answer
