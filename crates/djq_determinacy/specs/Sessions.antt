-- Thirteen dialogues of sessions, as theorems: each is a run of the machine, and with one byte of what is queued changed
-- it is none.
use Rattle.std.specs.Prelude.{ℕ, List, [], ◌∷◌, ◌++◌, ◌==◌, ◌≡◌, ◌⊎◌, filter, false, map, codes, ⊤}
use Rattle.djq_model.specs.Data.{Bytes}
use Rattle.djq_protocol.specs.Reply.{line, text_of}
use Rattle.djq_store_spec.specs.Store.{empty_store}
use Rattle.djq_machine.specs.State.{State, Session, fresh}
use Rattle.djq_machine.specs.Effect.{Effect}
use Rattle.djq_machine.specs.LineStep.{run}
use Rattle.djq_machine.specs.Step.{stepped, Step}
use Rattle.djq_machine.specs.Walk.{Walk}
use Rattle.djq_determinacy.specs.Dialogues.{differences}

-- a line that a session sends, and the parts that are queued as it is run: to which session, and which bytes
pub record DialogueLine : Type 0 where
  pub session : ℕ
  pub says : Bytes
  pub queued : List (ℕ × Bytes)

-- a session that holds its lines of a dialogue, none of which has been run
abbrev pub holding_its : List DialogueLine → ℕ → Session
holding_its lines s = record (fresh s) { held = text_of (map (λ x. line x.says) (filter (λ x. x.session == s) lines)) }

-- The start of a dialogue: two sessions are open over an empty store, and hold their lines.
abbrev pub start_of : List DialogueLine → State
start_of lines = record {
  store = empty_store;
  stopped = false;
  sessions = holding_its lines 1 ∷ holding_its lines 2 ∷ [];
}

-- The line in front of its session's bytes is run, and these parts are queued, in order.
abbrev pub RunsWith : State → DialogueLine → State → Type 0
RunsWith old x new =
    (e : Effect) × (e.queued ≡ x.queued) × Step old (stepped x.session (run x.says)) e new

-- From the start these lines are run one after another, with no other event between, each with what is queued for it.
abbrev pub IsRunOfMachine : List DialogueLine → Type 0
IsRunOfMachine lines = (new : State) × Walk RunsWith (start_of lines) lines new

-- lines, the last one, and what is queued for it with one byte changed
pub record Dialogue : Type 0 where
  pub before : List DialogueLine
  pub last : DialogueLine
  pub other : List (ℕ × Bytes)

-- the same parts for the same sessions, but for one byte of one of them
abbrev pub DifferByOne : List (ℕ × Bytes) → List (ℕ × Bytes) → Type 0
DifferByOne (p ∷ ps) (q ∷ qs) =
    (p.0 ≡ q.0) × (((differences p.1 q.1 ≡ 1) × (ps ≡ qs)) ⊎ ((p.1 ≡ q.1) × DifferByOne ps qs))
DifferByOne _ _ = ⊥

-- It is a run of the machine; and with the one byte changed it is none.
pub record IsMachineDialogue (d : Dialogue) : Type 0 where
  pub so : IsRunOfMachine (d.before ++ d.last ∷ [])
  pub one_byte : DifferByOne d.last.queued d.other
  pub not_so : IsRunOfMachine (d.before ++ record d.last { queued = d.other } ∷ []) → ⊥

-- a line of the first session, to which alone these texts are queued
abbrev pub first_says : Bytes → List Bytes → DialogueLine
first_says says texts = record { session = 1; says = says; queued = map (λ text. (1, text)) texts }

-- a line of it, for which one reply is queued
abbrev pub says_and_gets : Bytes → Bytes → DialogueLine
says_and_gets says reply = first_says says (line reply ∷ [])

-- a dialogue whose last line has one reply
abbrev pub ends_with : List DialogueLine → Bytes → Bytes → Bytes → Dialogue
ends_with before says reply other = record {
  before = before;
  last = says_and_gets says reply;
  other = (1, line other) ∷ [];
}

-- a relation is made, and a row is inserted
abbrev pub makes_r : DialogueLine
makes_r = says_and_gets (codes "rel r int") (codes "ok")

abbrev pub inserts_seven : DialogueLine
inserts_seven = says_and_gets (codes "add r 7") (codes "ok added 1 1")

-- a query of it is registered
abbrev pub registers_q : DialogueLine
registers_q = says_and_gets (codes "query q(x) <- r(x)") (codes "ok query 3")

-- the session watches it, opens a cursor over it, and opens a batch
abbrev pub watches_q : DialogueLine
watches_q = says_and_gets (codes "watch q") (codes "ok watch 0")

abbrev pub opens_c : DialogueLine
opens_c = says_and_gets (codes "open c q") (codes "ok open")

abbrev pub opens_batch : DialogueLine
opens_batch = says_and_gets (codes "batch") (codes "ok batch")

-- a delta of one line, of the first change
abbrev pub delta_of : Bytes → Bytes
delta_of change = line change ++ line (codes "at q 1")

-- The delta comes before the reply.
abbrev pub delta_first : Dialogue
delta_first = record {
  before = makes_r ∷ registers_q ∷ watches_q ∷ [];
  last = first_says (codes "add r 7") (delta_of (codes "+ q 7") ∷ line (codes "ok added 1 1") ∷ []);
  other = (1, delta_of (codes "- q 7")) ∷ (1, line (codes "ok added 1 1")) ∷ [];
}

-- The second session watches, and the first inserts.
abbrev pub other_session : Dialogue
other_session = record {
  before = makes_r ∷ registers_q
      ∷ record { session = 2; says = codes "watch q"; queued = (2, line (codes "ok watch 0")) ∷ [] } ∷ [];
  last = record {
    session = 1;
    says = codes "add r 7";
    queued = (2, delta_of (codes "+ q 7")) ∷ (1, line (codes "ok added 1 1")) ∷ [];
  };
  other = (2, delta_of (codes "+ q 8")) ∷ (1, line (codes "ok added 1 1")) ∷ [];
}

-- A batch updates a row: one change, of an answer that is removed and one that is added.
abbrev pub row_updated : Dialogue
row_updated = record {
  before = makes_r ∷ inserts_seven ∷ registers_q ∷ says_and_gets (codes "watch q") (codes "ok watch 1") ∷ opens_batch
      ∷ says_and_gets (codes "del r 7") (codes "ok held 1") ∷ says_and_gets (codes "add r 8") (codes "ok held 2") ∷ [];
  last = first_says (codes "done")
      ((line (codes "- q 7") ++ line (codes "+ q 8") ++ line (codes "at q 2")) ∷ line (codes "ok done 2 2") ∷ []);
  other = (1, line (codes "- q 7") ++ line (codes "+ q 8") ++ line (codes "at q 2")) ∷ (1, line (codes "ok done 3 2")) ∷ [];
}

-- A page has the answer, and the end.
abbrev pub page_sent : Dialogue
page_sent = record {
  before = makes_r ∷ inserts_seven ∷ registers_q ∷ opens_c ∷ [];
  last = first_says (codes "next c 5") ((line (codes "= 7") ++ line (codes "end")) ∷ []);
  other = (1, line (codes "= 8") ++ line (codes "end")) ∷ [];
}

abbrev pub dialogues : List Dialogue
dialogues =
    ends_with (makes_r ∷ []) (codes "add r 7") (codes "ok added 1 1") (codes "ok added 2 1")
    ∷ ends_with (makes_r ∷ inserts_seven ∷ []) (codes "add r 7") (codes "ok added 1 2") (codes "ok added 1 1")
    ∷ ends_with (makes_r ∷ inserts_seven ∷ []) (codes "del r 7") (codes "ok removed 2 0") (codes "ok removed 1 0")
    ∷ ends_with (makes_r ∷ inserts_seven ∷ []) (codes "del r 8") (codes "ok absent 1") (codes "ok absent 2")
    ∷ ends_with (makes_r ∷ []) (codes "rel") (codes "err 1 syntax") (codes "err 2 syntax")
    ∷ ends_with (makes_r ∷ inserts_seven ∷ registers_q ∷ []) (codes "has q 7") (codes "yes") (codes "yet")
    ∷ delta_first
    ∷ other_session
    ∷ page_sent
    ∷ ends_with (makes_r ∷ registers_q ∷ opens_c ∷ inserts_seven ∷ []) (codes "next c 1") (codes "stale c r 1")
    (codes "stale c r 2")
    ∷ ends_with (makes_r ∷ opens_batch ∷ says_and_gets (codes "del r 7") (codes "ok held 1") ∷ []) (codes "done")
    (codes "err 19 absent") (codes "err 18 absent")
    ∷ row_updated
    ∷ ends_with (says_and_gets (codes "rel e int int") (codes "ok") ∷ []) (codes "query t(x,y,z) <- e(x,y), e(y,z), e(z,x)")
    (codes "no cyclic x,y x,z y,z") (codes "no cyclic x,y x,z y,x")
    ∷ []

-- Each of these is one.
abbrev pub AreDialogues : List Dialogue → Type 0
AreDialogues [] = ⊤
AreDialogues (d ∷ ds) = IsMachineDialogue d × AreDialogues ds
