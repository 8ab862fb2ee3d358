-- Relations with other rows, which a query reads, and walks over them.
use Rattle.std.proofs.Common.{List, [], ◌∷◌, ◌++◌, ◌≡◌, refl, subst}
use Rattle.djq_machine.specs.Run.{Walk}

-- a walk goes on by one thing
pub walk_more : {D L : Type 0} (May : D → L → D → Type 0) (old : D) (done : List L) (mid : D) (l : L) (new : D)
    → Walk May old done mid → May mid l new → Walk May old (done ++ l ∷ []) new
walk_more {D = D} May old [] mid l new w m = (new, subst (λ (d : D). May d l new) w m, refl)
walk_more May old (d ∷ done) mid l new w m = (w.0, w.1, walk_more May w.0 done mid l new w.2 m)

-- what each thing keeps, a walk keeps
pub walk_keeps : {D L : Type 0} (May : D → L → D → Type 0) (P : D → Type 0)
    (keeps : (old : D) (l : L) (new : D) → May old l new → P old → P new)
    → (old : D) (done : List L) (new : D) → Walk May old done new → P old → P new
walk_keeps {D = D} May P keeps old [] new w p = let e : old ≡ new = cc in subst P e p
walk_keeps May P keeps old (l ∷ more) new w p = walk_keeps May P keeps w.0 more new w.2 (keeps old l w.0 w.1 p)

-- a walk under one relation is one under another that allows as much
pub walk_as : {D L : Type 0} (May Might : D → L → D → Type 0)
    (allows : (old : D) (l : L) (new : D) → May old l new → Might old l new)
    → (old : D) (done : List L) (new : D) → Walk May old done new → Walk Might old done new
walk_as May Might allows old [] new w = w
walk_as May Might allows old (l ∷ more) new w = (w.0, allows old l w.0 w.1, walk_as May Might allows w.0 more new w.2)
