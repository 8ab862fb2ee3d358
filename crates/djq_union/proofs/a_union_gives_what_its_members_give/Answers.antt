-- What a union has given is merged from what its first member and the later ones have, and contains just that.
use Rattle.djq_union.proofs.UnionMembers.{union_contains}
use Rattle.djq_union.proofs.a_union_gives_what_its_members_give.Goals as goal

pub returns : goal.returns
returns g c = union_contains g.M.Listing.has g.M.Listing.given g.M.Listing.fits
