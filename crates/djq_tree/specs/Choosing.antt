-- The planner's choice rule, on the labels of the current nodes in the order of their numbers. A place is a
-- position in that list, so the lowest place is that of the node with the lowest number.
use Rattle.std.specs.Prelude.{ℕ, Bool, not, ◌==◌, ◌&&◌, nat_lt, List, length, filter, Option, Some}
use Rattle.std.specs.Prelude.{None, is_some, unwrap_or}
use Rattle.djq_hypergraph.specs.Hypergraph.{subset, difference, degree}
use Rattle.djq_tree.specs.Labels.{label_at}
use Rattle.djq_tree.specs.Lowest.{lowest_from}
use Rattle.djq_tree.specs.declared.choice.Choice.{Choice}
use Rattle.djq_tree.specs.declared.choice.Choice.TheVariants.{Trim, Meet, Stuck}

-- the lowest place of all that passes the test
abbrev pub lowest : (ℕ → Bool) → List (List ℕ) → Option ℕ
lowest test L = lowest_from test 0 (length L)

-- the removable variables at a place: those that lie in no other current label and that needn't stay
abbrev pub removable : List ℕ → List (List ℕ) → ℕ → List ℕ
removable keep L i = difference (filter (λ x. degree x L == 1) (label_at L i)) keep

-- whether there is one
abbrev pub has_removable : List ℕ → List (List ℕ) → ℕ → Bool
has_removable keep L i = not (length (removable keep L i) == 0)

-- whether the labels at two places are equal
abbrev pub are_equal : List (List ℕ) → ℕ → ℕ → Bool
are_equal L a b = subset (label_at L a) (label_at L b) && subset (label_at L b) (label_at L a)

-- whether the label at the first place is a proper subset of the label at the second
abbrev pub is_inside : List (List ℕ) → ℕ → ℕ → Bool
is_inside L s g = subset (label_at L s) (label_at L g) && not (subset (label_at L g) (label_at L s))

-- the lowest place above a with an equal label
abbrev pub twin : List (List ℕ) → ℕ → Option ℕ
twin L a = lowest (λ b. nat_lt a b && are_equal L a b) L

-- the lowest place with a label that contains the one at s and more
abbrev pub cover : List (List ℕ) → ℕ → Option ℕ
cover L s = lowest (λ g. is_inside L s g) L

-- third: the lowest node whose label lies properly within another one meets the lowest such node as its guard
abbrev pub choose_inside : List (List ℕ) → Option ℕ → Choice
choose_inside L (Some s) = Meet (unwrap_or (cover L s) 0) s
choose_inside L None = Stuck

-- second: of two nodes with equal labels the lowest pair meets, its first node being the guard
abbrev pub choose_equal : List (List ℕ) → Option ℕ → Choice
choose_equal L (Some a) = Meet a (unwrap_or (twin L a) 0)
choose_equal L None = choose_inside L (lowest (λ s. is_some (cover L s)) L)

-- first: the lowest node with a removable variable is trimmed of all its removable ones at once
abbrev pub choose_trim : List ℕ → List (List ℕ) → Option ℕ → Choice
choose_trim keep L (Some i) = Trim i (removable keep L i)
choose_trim keep L None = choose_equal L (lowest (λ a. is_some (twin L a)) L)

-- the step that the rule names, if the variables of `keep` may not be removed
abbrev pub choose : List ℕ → List (List ℕ) → Choice
choose keep L = choose_trim keep L (lowest (λ i. has_removable keep L i) L)
