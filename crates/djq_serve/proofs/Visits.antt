-- A flush, from session to session.
use Rattle.std.specs.Prelude.{ℕ, [], ◌∷◌, ◌≡◌, ◌≤◌, length, take, None, Some}
use Rattle.std.proofs.Common.{refl, sym, ap, subst, arith}
use Rattle.djq_io.specs.declared.hub.Sent.{Sent}
use Rattle.djq_io.specs.declared.hub.Sent.TheVariants.{Took}
use Rattle.djq_model.specs.Data.{Bytes}
use Rattle.djq_machine.specs.State.{State}
use Rattle.djq_machine.specs.Step.{took}
use Rattle.djq_machine.specs.Call.{Makes, first_due}
use Rattle.djq_machine.specs.Run.{pending_of}
use Rattle.djq_serve.specs.Told.{Shown, HubTells}
use Rattle.djq_serve.specs.Server.{Next, flushing, server, offering, after}
use Rattle.djq_serve.specs.Goes.{GoesQuietly}
use Rattle.djq_serve.specs.Kept.{Agrees, Spares}
use Rattle.djq_serve.specs.Parts.{Flushes}
use Rattle.djq_serve.proofs.Going.{quietly_none, quietly_then}
use Rattle.djq_serve.proofs.Moving.{flush_over, visit_takes}
use Rattle.djq_serve.proofs.Working.{spares_same, spares_then}

pub empty : (bytes : Bytes) → length bytes ≡ 0 → bytes ≡ []
empty [] e = refl
empty (b ∷ bytes) e = absurd (omega (arith, e))

-- where a flush goes on, as a number that is computed
pub at_place : (most : ℕ) (x y : Shown) (old new : State) (from to place : ℕ) (next : Next) → place ≡ to
    → GoesQuietly most x (server old (flushing from next)) y (server new (flushing to next))
    → GoesQuietly most x (server old (flushing from next)) y (server new (flushing place next))
at_place most x y old new from to place next same goes = subst
    (λ (k : ℕ). GoesQuietly most x (server old (flushing from next)) y (server new (flushing k next))) (sym same) goes

-- all pending bytes were offered
pub offers_all : (x y : Shown) (s : ℕ) (sent : Sent) (piece pending : Bytes) → piece ≡ pending
    → HubTells x y (offering s piece sent ∷ [])
    → HubTells x y (offering s pending sent ∷ [])
offers_all x y s sent piece pending same told =
    subst (λ (bytes : Bytes). HubTells x y (offering s bytes sent ∷ [])) same told

-- some of the pending bytes were taken
pub takes_some : (most : ℕ) (x y : Shown) (old new : State) (s n : ℕ) (piece : Bytes) → piece ≡ pending_of old s → 1 ≤ n
    → n ≤ length piece
    → Makes old (took s (take n (pending_of old s))) new → HubTells x y (offering s piece (Took n) ∷ [])
    → (from : ℕ) (next : Next) → first_due old from ≡ Some s
    → GoesQuietly most x (server old (flushing from next)) y (server new (flushing s next))
takes_some most x y old new s n piece is_piece some within makes told from next due =
    visit_takes most x y old new from next s n due some (omega (arith, within, ap length is_piece)) makes
    (offers_all x y s (Took n) piece (pending_of old s) is_piece told)

-- What a flush keeps from its entry on.
pub record Flushing (x y : Shown) (old now : State) (from : ℕ) : Type 0 where
  pub agrees : Agrees now y.ids
  pub goes : (most : ℕ) (next : Next) → GoesQuietly most x (server old (flushing 0 next)) y (server now (flushing from next))
  pub spares : Spares old now

pub flush_begun : (x : Shown) (st : State) → Agrees st x.ids → Flushing x x st st 0
flush_begun x st agrees = record {
  agrees = agrees;
  goes = λ most next. quietly_none most x (server st (flushing 0 next));
  spares = spares_same st;
}

-- a session was visited
pub flush_more : (x y z : Shown) (old now new : State) (from s to : ℕ) → Flushing x y old now from → first_due now from
    ≡ Some s
    → ((most at : ℕ) (next : Next) → first_due now at ≡ Some s
    → GoesQuietly most y (server now (flushing at next)) z (server new (flushing to next))) → Agrees new z.ids
    → Spares now new → Flushing x z old new to
flush_more x y z old now new from s to f due visited agrees spares = record {
  agrees = agrees;
  goes = λ most next. quietly_then most x (server old (flushing 0 next)) y (server now (flushing from next)) z
      (server new (flushing to next)) (f.goes most next) (visited most from next due);
  spares = spares_then old now new f.spares spares;
}

-- none is left
pub flush_done : (x y : Shown) (old now : State) (from : ℕ) → Flushing x y old now from → first_due now from ≡ None
    → Flushes x old y now
flush_done x y old now from f none = record {
  goes =
      λ most next. quietly_then most x (server old (flushing 0 next)) y (server now (flushing from next)) y
      (server now (after now next))
      (f.goes most next) (flush_over most y now from next none);
}
