-- What djq_queries says of the lent lists holds of the parts and of the groups, whose lists they are.
use Rattle.std.proofs.Common.{◌≡◌, ℕ, List, subst}
use Rattle.std.specs.Prelude.{OnOk, OnErr}
use Rattle.djq_reach.specs.declared.group.Group.{Group}
use Rattle.djq_reach.specs.Grouping.{CostsBy, WorksBy, rows_of_groups, times_back}
use Rattle.djq_queries.specs.Changing.{CostsChange, WorksChange}
use Rattle.djq_engine.proofs.carrying.change_queries.Goals as goal

-- what holds of equal lists
over : (P : List (List ℕ) → List ℕ → List Group → List Group → Type 0) (rs qs : List (List ℕ)) (ws vs : List ℕ)
    (xs ys us zs : List Group) → rs ≡ qs → ws ≡ vs → xs ≡ ys → us ≡ zs → P rs ws xs us → P qs vs ys zs
over P rs qs ws vs xs ys us zs e f k m h =
    subst (λ (x : List (List ℕ)). P x vs ys zs) e (subst (λ (x : List ℕ). P rs x ys zs) f
    (subst (λ (x : List Group). P rs ws x zs) k (subst (λ (x : List Group). P rs ws xs x) m h)))

pub returns-clause-counted : goal.returns-clause-counted
returns-clause-counted g c = over
    (λ rs ws come gone. CostsChange rs come gone ws c.args.parts.now.queries.items
    c.args.steps.now.listing c.change_readers.new.steps.listing)
    c.as_slice-readers.result.now c.args.parts.now.readers.items c.as_slice-watchers.result.now
    c.args.parts.now.watchers.items c.as_slice.result.now c.args.groups.now.come.items c.as_slice-2.result.now
    c.args.groups.now.gone.items c.as_slice-readers.ensures.value c.as_slice-watchers.ensures.value
    c.as_slice.ensures.value c.as_slice-2.ensures.value c.change_readers.ensures.counted

pub returns-clause-refused : goal.returns-clause-refused
returns-clause-refused g c = over
    (λ rs ws come gone. OnErr c.change_readers.result (CostsBy rs come ws c.args.parts.now.queries.items
    c.args.steps.now.listing c.change_readers.new.steps.listing))
    c.as_slice-readers.result.now c.args.parts.now.readers.items c.as_slice-watchers.result.now
    c.args.parts.now.watchers.items c.as_slice.result.now c.args.groups.now.come.items c.as_slice-2.result.now
    c.args.groups.now.gone.items c.as_slice-readers.ensures.value c.as_slice-watchers.ensures.value
    c.as_slice.ensures.value c.as_slice-2.ensures.value c.change_readers.ensures.refused

pub returns-clause-updates : goal.returns-clause-updates
returns-clause-updates g c = over
    (λ rs ws come gone. OnOk c.change_readers.result (WorksChange rs come gone c.args.parts.now.queries.items
    c.args.steps.now.update c.change_readers.new.steps.update))
    c.as_slice-readers.result.now c.args.parts.now.readers.items c.as_slice-watchers.result.now
    c.args.parts.now.watchers.items c.as_slice.result.now c.args.groups.now.come.items c.as_slice-2.result.now
    c.args.groups.now.gone.items c.as_slice-readers.ensures.value c.as_slice-watchers.ensures.value
    c.as_slice.ensures.value c.as_slice-2.ensures.value c.change_readers.ensures.updates

pub returns-clause-refusal : goal.returns-clause-refusal
returns-clause-refusal g c = over
    (λ rs ws come gone. OnErr c.change_readers.result (WorksBy rs come c.args.parts.now.queries.items
    (rows_of_groups come) times_back c.args.steps.now.update c.change_readers.new.steps.update))
    c.as_slice-readers.result.now c.args.parts.now.readers.items c.as_slice-watchers.result.now
    c.args.parts.now.watchers.items c.as_slice.result.now c.args.groups.now.come.items c.as_slice-2.result.now
    c.args.groups.now.gone.items c.as_slice-readers.ensures.value c.as_slice-watchers.ensures.value
    c.as_slice.ensures.value c.as_slice-2.ensures.value c.change_readers.ensures.refusal
