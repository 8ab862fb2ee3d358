-- What a turn brings, and the turns of a round.
use Rattle.std.specs.Prelude.{ℕ, List, [], ◌∷◌, ◌≡◌, ◌<◌, ◌≤◌, ◌+◌, ◌-◌, cond, Err, length, take, All}
use Rattle.std.proofs.Common.{refl, sym, ap, ◌∙◌, subst, inl, inr, length-take, arith}
use Rattle.std.proofs.lemmas.Bool.{lt-ltb, le-ltb}
use Rattle.std.proofs.lemmas.List.Sorted.{IsPermutation-refl}
use Rattle.djq_io.specs.declared.hub.Class.{Class}
use Rattle.djq_io.specs.declared.hub.Turn.{Turn}
use Rattle.djq_io.specs.declared.hub.Turn.TheVariants.{Opened, Bytes as Brought, Ended, Idle, Over as TurnOver, Failed as TurnFailed}
use Rattle.djq_io.specs.declared.hub.Sent.{Sent}
use Rattle.djq_io.specs.declared.hub.Told.{Told}
use Rattle.djq_io.specs.declared.hub.Told.TheVariants.{Turning, Closing}
use Rattle.djq_io.specs.declared.limits.TheConstants.{READ_BYTES}
use Rattle.djq_io.specs.Hub.{Ids, Takes, without}
use Rattle.djq_model.specs.declared.relation.Relation.{Relation}
use Rattle.djq_model.specs.Data.{Bytes}
use Rattle.djq_protocol.specs.declared.limits.TheConstants.{SESSIONS}
use Rattle.djq_protocol.specs.Reply.{end_full, end_memory}
use Rattle.djq_machine.specs.declared.machine.OpenRefusal.{OpenRefusal}
use Rattle.djq_machine.specs.declared.machine.OpenRefusal.TheVariants.{Full, NoMem}
use Rattle.djq_machine.specs.State.{State, Session}
use Rattle.djq_machine.specs.Effect.{nothing}
use Rattle.djq_machine.specs.Step.{opened, fed, SameRelations, Step}
use Rattle.djq_machine.specs.Call.{IsOpen, Makes, OpenGives, Counts}
use Rattle.djq_machine.specs.Run.{Did}
use Rattle.djq_serve.specs.declared.rest.Rest.{Rest}
use Rattle.djq_serve.specs.declared.rest.Rest.TheVariants.{Nothing, Ends, Over as HubOver, Failed}
use Rattle.djq_serve.specs.Told.{Shown, HubTells, turns_in}
use Rattle.djq_serve.specs.Server.{waiting, gathering, server, offering, LetsIn, refusal_for, Brings}
use Rattle.djq_serve.specs.Goes.{LogPlace, seen, GoesLogging}
use Rattle.djq_serve.specs.Kept.{Agrees, IsNewSession}
use Rattle.djq_serve.specs.Parts.{Admits, OffersAndCloses, TakesOne, Gathers, after_turn, after_turns, RestCounts}
use Rattle.djq_serve.proofs.Going.{tells_none, tells_more, happens, goes_none, goes_then}
use Rattle.djq_serve.proofs.Moving.{turn_goes, gathered}
use Rattle.djq_serve.proofs.Sessions.{is_above, not_open, refused_in}

-- ---- A session opens at the hub.

-- A session that isn't let in: that is a step too, which changes nothing.
same_relations : (rs : List Relation) → SameRelations rs rs
same_relations [] = tt
same_relations (r ∷ rs) = (refl, refl, IsPermutation-refl r.rows, same_relations rs)

stays_out : (st : State) (s : ℕ) → All (λ (x : Session). x.id < s) st.sessions → Step st (opened s) nothing st
stays_out st s above = record {
  mid = st;
  acts = (refl, above, inr refl);
  relations = st.store.relations;
  reordered = same_relations st.store.relations;
  queued = refl;
}

pub not_let_in : (st new : State) (ids : Ids) (s : ℕ) → IsNewSession st ids s → new ≡ st → Makes st (opened s) new
not_let_in st new ids s n same = subst (λ (k : State). Makes st (opened s) k) (sym same)
    (record { effect = nothing; step = stays_out st s (is_above st ids s n) })

pub is_let_in : (st new : State) (hub : Shown) (s : ℕ) → Makes st (opened s) new → IsOpen new s
    → Admits st hub s new hub
is_let_in st new hub s makes there = record
    { makes = makes; more = []; lets_in = inl (there, refl); told = tells_none hub }

full_text : (st : State) → SESSIONS ≤ length st.sessions → refusal_for st ≡ end_full
full_text st many = ap (λ b. cond b end_memory end_full) (le-ltb (length st.sessions) SESSIONS many)

memory_text : (st : State) → length st.sessions < SESSIONS → refusal_for st ≡ end_memory
memory_text st few = ap (λ b. cond b end_memory end_full) (lt-ltb (length st.sessions) SESSIONS few)

refused : (st new : State) (hub hub' : Shown) (s : ℕ) (text : Bytes) → IsNewSession st hub.ids s → new ≡ st
    → refusal_for st
    ≡ text → OffersAndCloses hub s text hub' → Admits st hub s new hub'
refused st new hub hub' s text n same is_text r = record {
  makes = not_let_in st new hub.ids s n same;
  more = offering s text r.sent ∷ Closing s ∷ [];
  lets_in = subst (λ (t : Bytes). LetsIn s st (offering s t r.sent ∷ Closing s ∷ []) new) is_text
      (inr (
        λ there. not_open st s n.above (subst (λ (k : State). IsOpen k s) same there),
        r.sent,
        subst
            (λ (t : Bytes). Takes r.sent t) (sym is_text) r.takes,
        refl,
      ));
  told = r.told;
}

-- a line was offered, and the session closed
pub refuses_by : (hub hub' : Shown) (s : ℕ) (sent : Sent) (piece text : Bytes) → piece ≡ text → Takes sent piece
    → HubTells hub hub' (offering s piece sent ∷ Closing s ∷ []) → hub'.ids ≡ without hub.ids s
    → OffersAndCloses hub s text hub'
refuses_by hub hub' s sent piece text same takes told ids =
    subst (λ (t : Bytes). OffersAndCloses hub s t hub') same
    (record { sent = sent; takes = takes; told = told; ids = ids })

pub is_full : (st new : State) (hub hub' : Shown) (s : ℕ) → IsNewSession st hub.ids s → new ≡ st
    → SESSIONS ≤ length st.sessions → OffersAndCloses hub s end_full hub' → Admits st hub s new hub'
is_full st new hub hub' s n same many r = refused st new hub hub' s end_full n same (full_text st many) r

pub is_unmade : (st new : State) (hub hub' : Shown) (s : ℕ) → IsNewSession st hub.ids s → new ≡ st
    → length st.sessions < SESSIONS → OffersAndCloses hub s end_memory hub' → Admits st hub s new hub'
is_unmade st new hub hub' s n same few r = refused st new hub hub' s end_memory n same (memory_text st few) r

pub out_agrees : (st new : State) (hub hub' : Shown) (s : ℕ) (text : Bytes) → IsNewSession st hub.ids s → new ≡ st
    → OffersAndCloses hub s text hub' → Agrees new hub'.ids
out_agrees st new hub hub' s text n same r = subst (λ (k : State). Agrees k hub'.ids) (sym same)
    (refused_in st hub.ids hub'.ids s n r.ids)

-- what the machine answers
pub full_gives : (st new : State) (s : ℕ) (r : OpenRefusal) → r ≡ Full → OpenGives st s (Err r) new
    → (SESSIONS ≤ length st.sessions) × (new ≡ st)
full_gives st new s r e h = subst (λ (q : OpenRefusal). OpenGives st s (Err q) new) e h

pub unmade_gives : (st new : State) (s : ℕ) (r : OpenRefusal) → r ≡ NoMem → OpenGives st s (Err r) new
    → (length st.sessions < SESSIONS) × (new ≡ st)
unmade_gives st new s r e h = subst (λ (q : OpenRefusal). OpenGives st s (Err q) new) e h

-- ---- What a turn brings.

-- a turn was taken, the first of a round or a further one
turn_takes : (rest : Rest) (hub hub' : Shown) (st new : State) (turn : Turn) (piece : Bytes) (more : List Told)
    (done : List Did) → ((left : ℕ) → Brings left turn piece st more done new (after_turn left rest))
    → turns_in more ≡ 0 → HubTells hub hub' (Turning turn piece ∷ more) → TakesOne rest hub st hub' new
turn_takes rest hub hub' st new turn piece more done brings none told = record {
  first = λ most counted turns log. turn_goes most (most - 1) waiting hub hub' counted turns log st new turn piece more
      done (after_turn (most - 1) rest) (λ m b takes. inr takes) (brings (most - 1)) none told;
  further = λ most left counted turns log some. turn_goes most (left - 1) (gathering left) hub hub' counted turns log st
      new turn piece more done (after_turn (left - 1) rest) (λ m b takes. inr (some, takes)) (brings (left - 1)) none
      told;
}

none_more : (s : ℕ) (st new : State) (more : List Told) → LetsIn s st more new → turns_in more ≡ 0
none_more s st new more (inl h) = ap turns_in h.1
none_more s st new more (inr h) = ap turns_in h.3

-- a session opened
pub turn_opens : (hub mid hub' : Shown) (st new : State) (s : ℕ) (class : Class)
    → HubTells hub mid (Turning (Opened s class) [] ∷ []) → Admits st mid s new hub' → TakesOne Nothing hub st hub' new
turn_opens hub mid hub' st new s class told a =
    turn_takes Nothing hub hub' st new (Opened s class) [] a.more _
    (λ left. (happens (opened s) st new a.makes, a.lets_in, refl)) (none_more s st new a.more a.lets_in)
    (tells_more hub mid hub' (Turning (Opened s class) [] ∷ []) a.more told a.told)

-- bytes came
pub turn_feeds : (hub hub' : Shown) (st new : State) (s n : ℕ) (buf : Bytes) → 1 ≤ n → n ≤ length buf
    → length buf ≡ READ_BYTES → Makes st (fed s (take n buf)) new
    → HubTells hub hub' (Turning (Brought s n) (take n buf) ∷ []) → TakesOne Nothing hub st hub' new
turn_feeds hub hub' st new s n buf some within room makes told =
    turn_takes Nothing hub hub' st new (Brought s n) (take n buf) [] _
    (λ left. (
      happens (fed s (take n buf)) st new makes,
      refl,
      refl,
      (omega (arith, length-take n buf, within), omega (arith, some), omega (arith, within, room)),
    )) refl told

-- the input of a session ended
pub turn_ends : (hub hub' : Shown) (st : State) (s : ℕ) → HubTells hub hub' (Turning (Ended s) [] ∷ [])
    → TakesOne (Ends s) hub st hub' st
turn_ends hub hub' st s told = turn_takes (Ends s) hub hub' st st (Ended s) [] [] []
    (λ left. ((refl, refl), refl, refl)) refl told

-- nothing came, nothing will come, or the hub failed
pub turn_idles : (hub hub' : Shown) (st : State) → HubTells hub hub' (Turning Idle [] ∷ [])
    → TakesOne Nothing hub st hub' st
turn_idles hub hub' st told = turn_takes Nothing hub hub' st st Idle [] [] [] (λ left. ((refl, refl), refl, refl)) refl
    told

pub turn_over : (hub hub' : Shown) (st : State) → HubTells hub hub' (Turning TurnOver [] ∷ [])
    → TakesOne HubOver hub st hub' st
turn_over hub hub' st told = turn_takes HubOver hub hub' st st TurnOver [] [] []
    (λ left. ((refl, refl), refl, refl)) refl told

pub turn_fails : (hub hub' : Shown) (st : State) → HubTells hub hub' (Turning TurnFailed [] ∷ [])
    → TakesOne Failed hub st hub' st
turn_fails hub hub' st told = turn_takes Failed hub hub' st st TurnFailed [] [] []
    (λ left. ((refl, refl), refl, refl)) refl told

-- the buffer keeps its length
pub at_room : (old new : Bytes) → length new ≡ length old → length old ≡ READ_BYTES → length new ≡ READ_BYTES
at_room old new same room = same ∙ room

-- ---- The turns of a round, one after another.

-- What gathering keeps from the first turn on.
pub record Gathering (limit taken : ℕ) (rest : Rest) (x y : Shown) (old st : State) : Type 0 where
  pub goes : (most : ℕ) → limit ≤ most → (counted : Counts) (turns : ℕ) (log : LogPlace)
      → GoesLogging most (seen x counted turns) (server old waiting) log (seen y counted (turns + taken))
      (server st (after_turn (most - taken) rest)) log

pub turns_begun : (limit : ℕ) (rest : Rest) (x y : Shown) (old st : State) → TakesOne rest x old y st
    → Gathering limit 1 rest x y old st
turns_begun limit rest x y old st takes = record { goes = λ most within counted turns log. takes.first most counted turns log }

pub turn_more : (limit taken : ℕ) (before rest : Rest) (x y z : Shown) (old st new : State)
    → Gathering limit taken before x y old st → before ≡ Nothing → taken < limit → TakesOne rest y st z new
    → Gathering limit (taken + 1) rest x z old new
turn_more limit taken before rest x y z old st new so_far none few takes = record {
  goes = λ most within counted turns log.
      let left = most - taken in
      let some : 0 < left = omega (arith, few, within) in
      let end : (most - taken) - 1 ≡ most - (taken + 1) = omega arith in
      let all : (turns + taken) + 1 ≡ turns + (taken + 1) = omega arith in
      goes_then most (seen x counted turns) (server old waiting) log (seen y counted (turns + taken))
      (server st (gathering left)) log (seen z counted (turns + (taken + 1)))
      (server new (after_turn (most - (taken + 1)) rest)) log
      (subst (λ (r : Rest). GoesLogging most (seen x counted turns) (server old waiting) log
      (seen y counted (turns + taken)) (server st (after_turn left r)) log) none (so_far.goes most within counted turns log))
      (subst (λ (k : ℕ). GoesLogging most (seen y counted (turns + taken)) (server st (gathering left)) log
      (seen z counted k) (server new (after_turn (most - (taken + 1)) rest)) log) all
      (subst (λ (k : ℕ). GoesLogging most (seen y counted (turns + taken)) (server st (gathering left)) log
      (seen z counted ((turns + taken) + 1)) (server new (after_turn k rest)) log) end
      (takes.further most left counted (turns + taken) log some)));
}

-- there is no further turn
turns_end : (rest : Rest) (most left : ℕ) (y : Shown) (st : State) (counted : Counts) (turns : ℕ) (log : LogPlace)
    → GoesLogging most (seen y counted turns) (server st (after_turn left rest)) log (seen y counted turns)
    (server st (after_turns rest)) log
turns_end Nothing most left y st counted turns log = gathered most left y st counted turns log
turns_end (Ends s) most left y st counted turns log = goes_none most (seen y counted turns)
    (server st (after_turn left (Ends s))) log
turns_end HubOver most left y st counted turns log = goes_none most (seen y counted turns)
    (server st (after_turn left HubOver)) log
turns_end Failed most left y st counted turns log = goes_none most (seen y counted turns)
    (server st (after_turn left Failed)) log

pub turns_done : (limit taken : ℕ) (rest : Rest) (x y : Shown) (old st : State)
    → Gathering limit taken rest x y old st → 0 < taken → taken ≤ limit → Gathers limit taken rest x old y st
turns_done limit taken rest x y old st so_far some within = record {
  goes = λ most few counted turns log. goes_then most (seen x counted turns) (server old waiting) log
      (seen y counted (turns + taken)) (server st (after_turn (most - taken) rest)) log
      (seen y counted (turns + taken)) (server st (after_turns rest)) log (so_far.goes most few counted turns log)
      (turns_end rest most (most - taken) y st counted (turns + taken) log);
  some = some;
  within = within;
}

-- no turn failed before one that may
pub counts_then : (before rest : Rest) (a b c : ℕ) → before ≡ Nothing → RestCounts before a b → RestCounts rest b c
    → RestCounts rest a c
counts_then before rest a b c none p q =
    let same : b ≡ a = subst (λ (r : Rest). RestCounts r a b) none p in
    subst (λ (n : ℕ). RestCounts rest n c) same q
