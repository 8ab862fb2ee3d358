-- Where no member's listing has begun nothing was given, and up to eight members have a state each.
use Rattle.std.proofs.Common.{refl}
use Rattle.djq_union.proofs.UnionMembers.{none_union, none_fits}
use Rattle.djq_union.proofs.cursor.UnionCursor.start.Goals as goal

pub returns-clause-fits : goal.returns-clause-fits
returns-clause-fits g c =
    λ ms few. none_fits g.M.Listing.has g.M.Listing.given g.M.Listing.fits ms _ few
    (refl, (refl, (refl, (refl, (refl, (refl, (refl, (refl, tt))))))))

pub returns-clause-none : goal.returns-clause-none
returns-clause-none g c =
    λ ms. none_union g.M.Listing.has g.M.Listing.given g.M.Listing.fits ms _
    (refl, (refl, (refl, (refl, (refl, (refl, (refl, (refl, tt))))))))
