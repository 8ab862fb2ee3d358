-- A stage of the planner.
use Rattle.std.specs.Prelude.{◌≡◌, ◌≢◌, ℕ, ◌<◌, Bool, true, false, List, [], length}
use Rattle.djq_tree.specs.declared.choice.Choice.TheVariants.{Stuck}
use Rattle.djq_tree.specs.Choosing.{choose}
use Rattle.djq_tree.specs.Growing.{Growth, grown, grow, is_root, marks_below, IsStage}

-- a step was made by the choice rule, or there is none and nothing changed
abbrev pub Steps : List ℕ → Growth → Growth → Bool → Type 0
Steps keep s t true = (t ≡ grown s (choose keep s.current)) × (choose keep s.current ≢ Stuck)
Steps keep s t false = (t ≡ s) × (choose keep s.current ≡ Stuck)

-- a stage from s is stuck at t: the rule's steps lead there, the stage is over neither there nor before, and there
-- is no step
pub record IsStuckAt (is_over : List (List ℕ) → Bool) (keep : List ℕ) (s t : Growth) : Type 0 where
  pub steps : ℕ
  pub leads : t ≡ grow keep steps s
  pub goes : (k : ℕ) → k < steps → is_over (grow keep k s).current ≡ false
  pub goes_on : is_over t.current ≡ false
  pub stuck : choose keep t.current ≡ Stuck

-- a stage ends, or is stuck
abbrev pub IsStageEnd : (List (List ℕ) → Bool) → List ℕ → Growth → Growth → Bool → Type 0
IsStageEnd is_over keep s t true = IsStage is_over keep s t
IsStageEnd is_over keep s t false = IsStuckAt is_over keep s t

-- the second stage led from s to its end t, and these nodes are in `out`
pub record GrowsOut (s t : Growth) (out : List Bool) : Type 0 where
  pub ends : IsStage is_root [] s t
  pub marks : out ≡ marks_below s (length t.nodes)
