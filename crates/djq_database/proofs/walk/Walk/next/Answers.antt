-- By the invariant the walk stands at the first entry that is left, or at none where none is left.
use Rattle.std.proofs.Common.{ℕ, List, ◌∷◌, ◌-◌, ◌+◌, take, drop, length, ◌∙◌, ap, sym, arith}
use Rattle.djq_database.specs.Rows.{row_place, row_place_of}
use Rattle.djq_database.specs.Walking.{tuples_left}
use Rattle.djq_database.proofs.Entries.{stands, stands_at, stands_live, some_left, step_left, none_left, steps}
use Rattle.djq_database.proofs.walk.Walk.next.Goals as goal

pub cells-cells-requires : goal.cells-cells-requires
cells-cells-requires g c =
    let t = c.self.inside.rows.now in
    let n = c.self.inside.left in
    stands_live t n c.in-Some.slot (stands t n c.in-Some.slot (ap row_place_of (sym c.in-Some.is) ∙
    c.self.invariant.at))

pub next-self-inside-requires : goal.next-self-inside-requires
next-self-inside-requires g c =
    let t = c.self.inside.rows.now in
    let n = c.self.inside.left in
    stands_live t n c.in-Some.slot (stands t n c.in-Some.slot (ap row_place_of (sym c.in-Some.is) ∙
    c.self.invariant.at))

pub overflow_sub-self : goal.overflow_sub-self
overflow_sub-self g c =
    let t = c.self.inside.rows.now in
    let n = c.self.inside.left in
    let p = row_place c.in-Some.slot in
    omega (
      arith,
      some_left t n p (stands t n c.in-Some.slot (ap row_place_of (sym c.in-Some.is) ∙
          c.self.invariant.at)),
    )

pub invariant_of-self : goal.invariant_of-self
invariant_of-self g c =
    let t = c.self.inside.rows.now in
    let n = c.self.inside.left in
    let slot = c.in-Some.slot in
    let a = stands t n slot (ap row_place_of (sym c.in-Some.is) ∙ c.self.invariant.at) in
    steps t n slot c.next-self-inside.result a c.self.invariant.within
    (c.next-self-inside.ensures.next (take (length t.entries - n) t.entries) a.entry (drop
    (length t.entries - n + 1) t.entries) a.is a.at)

pub returns-in-None-clause-tells : goal.returns-in-None-clause-tells
returns-in-None-clause-tells g c =
    let empty = sym c.self.view_is ∙ none_left c.self.inside.rows.now c.self.inside.left (ap row_place_of
    (sym c.in-None.is) ∙ c.self.invariant.at) in
    (empty, empty)

pub returns-in-Some-clause-tells : goal.returns-in-Some-clause-tells
returns-in-Some-clause-tells g c =
    let t = c.self.inside.rows.now in
    let n = c.self.inside.left in
    let slot = c.in-Some.slot in
    let a = stands t n slot (ap row_place_of (sym c.in-Some.is) ∙ c.self.invariant.at) in
    sym c.self.view_is ∙ step_left t n (row_place slot) a c.self.invariant.within ∙ ap (λ (u : List ℕ). u
    ∷ tuples_left t (n - 1)) (sym (c.cells-cells.ensures a.entry.tuple (stands_at t n slot a)))
