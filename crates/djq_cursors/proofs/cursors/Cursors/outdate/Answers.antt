-- Each cursor is kept and made stale by the same change, so what one step does is done in all slots.
use Rattle.std.proofs.Common.{rules, ◌≡◌, refl, ap, ◌∙◌}
use Rattle.djq_cursors.specs.Slots.{outdated_slots, outdated_progress}
use Rattle.djq_cursors.proofs.Slots.{retained_all}
use Rattle.djq_cursors.proofs.cursors.Cursors.outdate.Goals as goal

pub returns : goal.returns
returns g c =
    retained_all _ (outdated_progress c.args.relation c.args.seq)
    (λ f. (f.0.now ≡ c.args.relation) × (f.1.now ≡ c.args.seq))
    (λ f key old keep new next s h. search rules) _ 0 _ _ (refl, refl) c.retain.ensures.retained
    ∙ ap (outdated_slots c.args.relation c.args.seq) c.self.view_is
