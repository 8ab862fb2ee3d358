-- Which bytes spell a message of the core.
use Rattle.std.specs.Prelude.{ℕ, List, [], ◌∷◌, ◌+◌, ◌≡◌, ◌⊎◌, Option, None, Some, IsSomeAnd, Ok, length, codes}
use Rattle.djq_model.specs.Data.{Bytes, Tuple}
use Rattle.djq_model.specs.Listed.{Listed, a_query, a_union, listed_of}
use Rattle.djq_protocol.specs.declared.answer.Refusal.{Refusal}
use Rattle.djq_protocol.specs.declared.answer.Refusal.TheVariants.{Syntax}
use Rattle.djq_protocol.specs.declared.answer.Shape.{Shape}
use Rattle.djq_protocol.specs.declared.answer.Sign.TheVariants.{Came, Went}
use Rattle.djq_protocol.specs.declared.rest.NamedRest.{NamedRest}
use Rattle.djq_protocol.specs.declared.rest.QueryOutcome.TheVariants.{Cyclic, NotConnex}
use Rattle.djq_protocol.specs.declared.command.Command.{Command}
use Rattle.djq_protocol.specs.declared.command.Command.TheVariants.{
  Rel,
  Add,
  Del,
  Query as Register,
  Union,
  Drop,
  Open,
  Next,
  Close,
  Watch,
  Unwatch,
  Explain,
  Shape as AskShape,
  Batch,
  Done,
  Abandon,
}
use Rattle.djq_protocol.specs.Grammar.{Reading, outside, past_limit, says_command}
use Rattle.djq_protocol.specs.Hypergraph.{edges_of, head_of}
use Rattle.djq_protocol.specs.Reply.{
  line,
  numbered_line,
  numbered_twice,
  refusal_line,
  listing_lines,
  text_of,
  stale_line,
  query_reply,
  has_reply,
  shape_reply,
}
use Rattle.djq_tree.specs.Tree.{Tree}
use Rattle.djq_tree.specs.Growing.{IsTreeOf}
use Rattle.djq_store_spec.specs.Delta.{Change, delta_lines}
use Rattle.djq_store_spec.specs.Registering.{answer_steps}
use Rattle.djq_store_spec.specs.Asking.{IsShapeOf}
use Rattle.djq_machine.specs.Command.{explain_lines, union_lines}
use Rattle.djq_run_laws.specs.Added.{of_sign}
use Rattle.djq_abstract.specs.Deltas.{AnswerDelta}
use Rattle.djq_abstract.specs.Rows.{RowEdit}
use Rattle.djq_abstract.specs.Clients.{
  Core,
  CoreMessage,
  ok,
  refused,
  not_free_connex,
  replied,
  is_answer,
  page,
  delta,
}
use Rattle.djq_refinement.specs.View.{queries_under}

-- The line that accepts an edit: in a batch, how many lines are held then; else the number of changes, and how many
-- copies the row has then.
abbrev pub AcceptsEdit : Bytes → Option (List RowEdit) → Core → Bytes → Tuple → Bytes → Type 0
AcceptsEdit words None new name row text = text ≡ numbered_twice words new.seq (new.db name row)
AcceptsEdit words (Some held) new name row text = text ≡ numbered_line (codes "ok held ") (length held + 1)

-- The line that accepts a command of a client, between two states of the core.
abbrev pub IsAccepting : ℕ → (old new : Core) → Command → Bytes → Type 0
IsAccepting s old new (Add name row) text = AcceptsEdit (codes "ok added ") (old.client s).batch new name row text
IsAccepting s old new (Del name row) text = AcceptsEdit (codes "ok removed ") (old.client s).batch new name row text
IsAccepting s old new (Done given) text = (rows : ℕ) × (text ≡ numbered_twice (codes "ok done ") new.seq rows)
IsAccepting s old new (Register q) text = text ≡ numbered_line (codes "ok query ") (answer_steps (a_query q))
IsAccepting s old new (Union name members) text =
    text ≡ numbered_line (codes "ok union ") (answer_steps (a_union name (queries_under old.queries members)))
IsAccepting s old new (Drop q) text = text ≡ line (codes "ok")
IsAccepting s old new (Open c q) text = text ≡ line (codes "ok open")
IsAccepting s old new (Close c) text = text ≡ line (codes "ok")
IsAccepting s old new (Watch q) text = text ≡ numbered_line (codes "ok watch ") new.seq
IsAccepting s old new (Unwatch q) text = text ≡ line (codes "ok")
IsAccepting s old new Batch text = text ≡ line (codes "ok batch")
IsAccepting s old new Abandon text = text ≡ line (codes "ok")
IsAccepting s old new _ text = ⊥

-- A line of a refusal.
abbrev pub IsRefusalLine : Bytes → Type 0
IsRefusalLine text = (why : Refusal) × (text ≡ refusal_line why)

-- The line that refuses a command: of `del` also that the row isn't there, of `next` also that its cursor is stale.
abbrev pub IsRefusing : Core → Command → Bytes → Type 0
IsRefusing new (Del name row) text = IsRefusalLine text ⊎ (text ≡ numbered_line (codes "ok absent ") new.seq)
IsRefusing new (Next c count) text =
    IsRefusalLine text ⊎ ((relation : Bytes) × (n : ℕ) × (text ≡ stale_line c relation n))
IsRefusing new _ text = IsRefusalLine text

-- The lines that explain a query by a tree of it, or a union by its members.
abbrev pub IsExplaining : Listed → Bytes → Type 0
IsExplaining (a_query q) text =
    (tree : Tree) × IsTreeOf (edges_of q) (head_of q) tree × (text ≡ text_of (explain_lines q tree))
IsExplaining (a_union name qs) text = text ≡ text_of (union_lines qs)

-- The lines that reply to what asks: `rel`, `explain`, `shape`, and a line outside the grammar.
abbrev pub IsReplying : Core → Reading → Bytes → Type 0
IsReplying old outside text = text ≡ refusal_line Syntax
IsReplying old (says_command (Rel name types)) text = text ≡ line (codes "ok")
IsReplying old (says_command (Explain q)) text = IsSomeAnd (listed_of old.queries q) (λ l. IsExplaining l text)
IsReplying old (says_command (AskShape q)) text =
    IsSomeAnd (listed_of old.queries q) (λ l. (shape : Shape) × IsShapeOf l shape × (text ≡ shape_reply (Ok shape)))
IsReplying old _ text = ⊥

-- What accepts, and what refuses, a line that is read as this.
abbrev pub IsAcceptingReading : ℕ → (old new : Core) → Reading → Bytes → Type 0
IsAcceptingReading s old new (says_command c) text = IsAccepting s old new c text
IsAcceptingReading s old new _ text = ⊥

abbrev pub IsRefusingReading : Core → Reading → Bytes → Type 0
IsRefusingReading new outside text = ⊥
IsRefusingReading new (past_limit c) text = IsRefusalLine text
IsRefusingReading new (says_command c) text = IsRefusing new c text

-- The lines of a delta: in any order one for each answer that was inserted and each that was deleted, and last the
-- number of the change.
abbrev pub IsDeltaText : Bytes → AnswerDelta → ℕ → Bytes → Type 0
IsDeltaText q d seq text = (changes : List Change) × (of_sign Came changes ≡ d.inserted)
    × (of_sign Went changes ≡ d.deleted) × (text ≡ text_of (delta_lines q changes seq))

-- These bytes spell a message that is sent in a step between two states of the core, of a line of this client that is
-- read as this.
abbrev pub SpellsMessage : ℕ → Reading → (old new : Core) → CoreMessage → Bytes → Type 0
SpellsMessage s r old new ok text = IsAcceptingReading s old new r text
SpellsMessage s r old new refused text = IsRefusingReading new r text
SpellsMessage s r old new not_free_connex text = (rest : NamedRest)
    × ((text ≡ query_reply (Ok (Cyclic rest))) ⊎ (text ≡ query_reply (Ok (NotConnex rest))))
SpellsMessage s r old new replied text = IsReplying old r text
SpellsMessage s r old new (is_answer holds) text = text ≡ has_reply (Ok holds)
SpellsMessage s r old new (page ts last) text = text ≡ text_of (listing_lines ts last)
SpellsMessage s r old new (delta q d seq) text = IsDeltaText q d seq text

-- Messages are spelled by texts, one by one, in order.
abbrev pub AreSpelled : (CoreMessage → Bytes → Type 0) → List CoreMessage → List Bytes → Type 0
AreSpelled S [] [] = Unit {0}
AreSpelled S (m ∷ ms) (text ∷ texts) = S m text × AreSpelled S ms texts
AreSpelled S [] (text ∷ texts) = ⊥
AreSpelled S (m ∷ ms) [] = ⊥
