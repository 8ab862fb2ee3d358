-- What a registered query is where many rows go at once.
use Rattle.std.proofs.Common.{◌≡◌, ℕ, List, length, sym, subst}
use Rattle.std.specs.Prelude.{Some, slice_get}
use Rattle.djq_query.specs.declared.numbered.NumberedAtom.{NumberedAtom}
use Rattle.djq_query.specs.Pattern.{Shape}
use Rattle.djq_leaves.specs.Batching.{AreDistinct, RowsFit}
use Rattle.djq_leaves.specs.Stepping.{HasAll, HoldBelow}
use Rattle.djq_live_query.specs.Live.{Live}
use Rattle.djq_live_query.specs.Updating.{CanDeleteAll}
use Rattle.djq_live_query.proofs.Catalogs.{stands_in}
use Rattle.djq_live_query.proofs.LeafRows.{leaves_of, rows_there}
use Rattle.djq_live_query.proofs.Updates.{distinct_at, inside}

-- ---- before the leaves are changed

pub can_delete_all : (l self : Live) (at : ℕ) (cells : List (List ℕ)) → l ≡ self
    → CanDeleteAll self at cells → CanDeleteAll l at cells
can_delete_all l self at cells e can = subst (λ (x : Live). CanDeleteAll x at cells) (sym e) can

went_fit : (l : Live) (at : ℕ) (cells : List (List ℕ)) (j : ℕ) (m : NumberedAtom) (p : Shape)
    → CanDeleteAll l at cells → slice_get (l.numbered).atoms j ≡ Some m → slice_get l.patterns j ≡ Some p
    → m.relation ≡ at → RowsFit cells p
went_fit l at cells j m p can e f on = λ row is.
    let s = stands_in can.after at cells can.rows row can.went.stand is in
    (leaves_of can.before can.after l.query l.numbered l.patterns l.reducts at row s.row
    can.kept.over can.went.later s.stand).fits j m p e f on

-- the atoms and patterns of a query out of which rows can go
pub record CanGo (l : Live) (at : ℕ) (cells : List (List ℕ)) (atoms : List NumberedAtom)
    (ps : List Shape) : Type 0 where
  pub leaves : (l.reducts).tree.leaves ≡ length atoms
  pub long : length ps ≡ length atoms
  pub fit : (j : ℕ) (m : NumberedAtom) (p : Shape) → slice_get atoms j ≡ Some m
      → slice_get ps j ≡ Some p → m.relation ≡ at → RowsFit cells p
  pub distinct : AreDistinct cells
  pub there : HoldBelow (λ p es. HasAll cells p es) at atoms ps (length atoms) l.reducts

pub can_go : (l : Live) (at : ℕ) (cells : List (List ℕ)) (atoms : List NumberedAtom)
    (ps : List Shape) → atoms ≡ (l.numbered).atoms → ps ≡ l.patterns → CanDeleteAll l at cells
    → CanGo l at cells atoms ps
can_go l at cells atoms ps e f can =
    inside (λ a p. CanGo l at cells a p) atoms (l.numbered).atoms ps l.patterns e f
    (record {
      leaves = can.kept.over.long;
      long = can.kept.over.patterns;
      fit = λ j m p a b on. went_fit l at cells j m p can a b on;
      distinct = record { each = λ v. distinct_at can.after at cells can.rows v can.went.stand can.differ };
      there = rows_there can.before can.after l.query l.numbered l.patterns l.reducts at cells can.rows
          (length (l.numbered).atoms) can.kept.over can.there can.went;
    })
