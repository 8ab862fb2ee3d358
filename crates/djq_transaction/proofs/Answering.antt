-- What `done` is answered.
use Rattle.std.specs.Prelude.{ℕ, List, ◌≡◌, ◌&&◌, Bool, true, false, Option, None, Some, Err, length, nat_le, nat_lt}
use Rattle.std.specs.Option.{option_or, option_map}
use Rattle.std.proofs.Common.{refl, ap, ap₂, ◌∙◌}
use Rattle.djq_model.specs.declared.relation.Relation.{Relation}
use Rattle.djq_model.specs.Data.{Bytes}
use Rattle.djq_protocol.specs.declared.limits.TheConstants.{LAST_SEQ}
use Rattle.djq_store_spec.specs.Held.{HeldLine}
use Rattle.djq_protocol.specs.declared.held.LineRefusal.{LineRefusal}
use Rattle.djq_protocol.specs.declared.held.LineRefusal.TheVariants.{Limit, Absent, NoMemory}
use Rattle.djq_protocol.specs.declared.held.RefusedLine.{RefusedLine}
use Rattle.djq_protocol.specs.declared.held.DoneRefusal.TheVariants.{OtherNumber, Line, LastChange}
use Rattle.djq_store_spec.specs.Judging.{lines_refusal, AnswersAs, UnlessMemory}
use Rattle.djq_store_spec.specs.Done.{is_other, refused_if, rows_changed, seq_refusal, done_refusal, AnswersDone}

-- `done` by its number, and by its lines
by_parts : (relations : List Relation) (texts : List Bytes) (seq : ℕ) (lines : List HeldLine) (given : Option ℕ)
    (other : Bool) (o : Option RefusedLine) → is_other given (length lines) ≡ other
    → lines_refusal relations texts lines ≡ o → done_refusal relations texts seq lines given
    ≡ option_or (refused_if other OtherNumber)
    (option_or (option_map (λ r. Line r) o) (seq_refusal relations seq lines))
by_parts relations texts seq lines given other o number is =
    ap₂ (λ (b : Bool) (p : Option RefusedLine). option_or (refused_if b OtherNumber)
    (option_or (option_map (λ r. Line r) p) (seq_refusal relations seq lines))) number is

pub number_refused : (relations : List Relation) (texts : List Bytes) (seq : ℕ) (lines : List HeldLine)
    (given : Option ℕ) → is_other given (length lines) ≡ true
    → done_refusal relations texts seq lines given ≡ Some OtherNumber
number_refused relations texts seq lines given other =
    by_parts relations texts seq lines given true (lines_refusal relations texts lines) other refl

unless : {A B : Type 0} (refusal : LineRefusal) → (A → B) → UnlessMemory refusal A → UnlessMemory refusal B
unless Limit f a = f a
unless Absent f a = f a
unless NoMemory f a = tt

pub line_refused : (A B : Type 0) (relations : List Relation) (texts : List Bytes) (seq : ℕ) (lines : List HeldLine)
    (given : Option ℕ) (r : RefusedLine) → is_other given (length lines) ≡ false
    → AnswersAs {A = A} (lines_refusal relations texts lines) (Err r)
    → AnswersDone {A = B} (is_other given (length lines)) (done_refusal relations texts seq lines given)
    (Err (Line r))
line_refused A B relations texts seq lines given r number is = (
  number,
  unless r.refusal (λ e. by_parts relations texts seq lines given false (Some r) number e) is,
)

pub seq_refused : (relations : List Relation) (texts : List Bytes) (seq : ℕ) (lines : List HeldLine)
    (given : Option ℕ) (past : Bool) → is_other given (length lines) ≡ false
    → lines_refusal relations texts lines ≡ None
    → (nat_lt 0 (rows_changed relations lines) && nat_le LAST_SEQ seq) ≡ past
    → done_refusal relations texts seq lines given ≡ refused_if past LastChange
seq_refused relations texts seq lines given past number is last =
    by_parts relations texts seq lines given false None number is ∙ ap (λ (b : Bool). refused_if b LastChange) last
