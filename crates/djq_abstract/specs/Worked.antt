-- A worked example: the session of README, as a theorem.
use Rattle.std.specs.Prelude.{ℕ, List, [], ◌∷◌, ◌≡◌, true, codes, pos}
use Rattle.djq_model.specs.declared.value.Value.TheVariants.{Int, Text}
use Rattle.djq_model.specs.declared.query.Query.{Query}
use Rattle.djq_model.specs.declared.query.Term.TheVariants.{Variable, Hole, Constant}
use Rattle.djq_model.specs.Data.{Bytes, Tuple}
use Rattle.djq_model.specs.Listed.{a_query}
use Rattle.djq_abstract.specs.Rows.{RowEdit}
use Rattle.djq_abstract.specs.Clients.{
  Core,
  nobody,
  with_client,
  CoreCommand,
  edit,
  register,
  open_cursor,
  next,
  subscribe,
  ask,
  CoreMessage,
  ok,
  replied,
  page,
  delta,
  says,
  Sent,
}
use Rattle.djq_abstract.specs.Moves.{CoreStep}

-- A line of a dialogue: what the client sends, and what it is sent in that step.
pub record Exchange : Type 0 where
  pub command : CoreCommand
  pub replies : List CoreMessage

-- A client may have this dialogue from a state on, while nothing else happens.
abbrev pub IsDialogue : Core → ℕ → List Exchange → Type 0
IsDialogue old s [] = Unit {0}
IsDialogue old s (x ∷ xs) = (sent : Sent) × (new : Core) × CoreStep old (says s x.command) sent new
    × (sent s ≡ x.replies) × IsDialogue new s xs

-- Client 1 is connected, and nothing has happened.
abbrev pub one_client : Core
one_client = with_client 1 (record nobody { connected = true })
    (record { db = λ relation row. 0; queries = []; seq = 0; client = λ s. nobody })

-- A machine.
abbrev pub machine_row : Tuple
machine_row = Int (pos 2) ∷ Text (codes "bellows") ∷ []

-- A job that waits for it.
abbrev pub job_row : Tuple
job_row = Int (pos 12) ∷ Int (pos 2) ∷ Text (codes "waiting") ∷ []

-- The edit that inserts a row.
abbrev pub inserting : Bytes → Tuple → RowEdit
inserting relation row = record { inserts = true; relation = relation; row = row }

-- waiting(m,j) <- machines(m,_), jobs(j,m,"waiting")
abbrev pub waiting_query : Query
waiting_query = record {
  name = codes "waiting";
  head = codes "m" ∷ codes "j" ∷ [];
  atoms =
      record { relation = codes "machines"; terms = Variable (codes "m") ∷ Hole ∷ [] }
      ∷ record {
        relation = codes "jobs";
        terms = Variable (codes "j") ∷ Variable (codes "m") ∷ Constant (Text (codes "waiting")) ∷ [];
      }
      ∷ [];
  comparisons = [];
}

-- Its answer: machine 2, job 12.
abbrev pub waiting_answer : Tuple
waiting_answer = Int (pos 2) ∷ Int (pos 12) ∷ []

-- README's session, with these answers in its delta and on its page.
abbrev pub readme_session : (inserted listed : Tuple) → List Exchange
readme_session inserted listed =
    record { command = ask; replies = replied ∷ [] }
    ∷ record { command = ask; replies = replied ∷ [] }
    ∷ record { command = edit (inserting (codes "machines") machine_row); replies = ok ∷ [] }
    ∷ record { command = register (a_query waiting_query); replies = ok ∷ [] }
    ∷ record { command = subscribe (codes "waiting"); replies = ok ∷ [] }
    ∷ record {
      command = edit (inserting (codes "jobs") job_row);
      replies = delta (codes "waiting") (record { inserted = inserted ∷ []; deleted = [] }) 2 ∷ ok ∷ [];
    }
    ∷ record { command = open_cursor (codes "c") (codes "waiting"); replies = ok ∷ [] }
    ∷ record { command = next (codes "c") 10; replies = page (listed ∷ []) true ∷ [] }
    ∷ []

-- The core can have it, with the answer in both places.
abbrev pub ReadmeHappens : Type 0
ReadmeHappens = IsDialogue one_client 1 (readme_session waiting_answer waiting_answer)

-- With another answer in either place it can't.
abbrev pub ReadmeOnlySo : Type 0
ReadmeOnlySo = (inserted listed : Tuple) → IsDialogue one_client 1 (readme_session inserted listed)
    → (inserted ≡ waiting_answer) × (listed ≡ waiting_answer)
