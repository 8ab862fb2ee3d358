-- The piece is cut at its LFs: each line was taken in turn, and what is left behind the last has no LF.
use Rattle.std.proofs.Common.{ℕ, List, ◌∙◌, ◌-◌, ◌+◌, ◌++◌, ◌∷◌, [], Some, length, take, drop, sym, ap, arith}
use Rattle.std.proofs.Common.{append_assoc, length-drop}
use Rattle.std.proofs.lemmas.List.{take_all}
use Rattle.djq_mirror.proofs.FollowedLines.{at_first_lf, at_no_lf, takes_line, takes_more, takes_rest, front_is_piece}
use Rattle.djq_mirror.proofs.FollowedLines.{line_is_piece}
use Rattle.djq_mirror.proofs.follower.Follower.feed.Goals as goal

pub returns-in-Some-take_line : goal.returns-in-Some-take_line
returns-in-Some-take_line c =
    let rest = c.lines.rest.now in
    let cut = at_first_lf rest c.in-Some.at c.in-Some.ensures in
    takes_rest c.args.self.now c.lines.self c.take_line.new.self c.args.piece.now c.lines.invariant.front
    (take c.in-Some.at rest ++ 10 ∷ drop (c.in-Some.at + 1) rest) (Some c.in-Some-take_line.halt)
    (c.lines.invariant.is ∙ ap (λ (ys : List ℕ). c.lines.invariant.front ++ ys) cut.1)
    c.lines.invariant.takes
    (line_is_piece c.lines.self c.take_line.new.self (take c.in-Some.at rest) (drop (c.in-Some.at + 1) rest)
    c.in-Some-take_line.halt
    c.lines.invariant.takes.own cut.0 c.in-Some-take_line.ensures)

pub lines-preserved : goal.lines-preserved
lines-preserved c =
    let rest = c.lines.rest.now in
    let at = c.in-Some.at in
    let cut = at_first_lf rest at c.in-Some.ensures in
    let front = c.lines.invariant.front in
    let behind = drop (at + 1) rest in
    let last = take at rest in
    record {
      front = front ++ (last ++ 10 ∷ []);
      is = c.lines.invariant.is ∙ ap (λ (ys : List ℕ). front ++ ys) (cut.1 ∙ sym (append_assoc last (10 ∷ []) behind))
          ∙ sym (append_assoc front (last ++ 10 ∷ []) behind)
          ∙ ap (λ (ys : List ℕ). (front ++ (last ++ 10 ∷ [])) ++ ys)
          (sym (take_all (length rest - (at + 1)) behind (omega (arith, length-drop (at + 1) rest))));
      takes = takes_more c.args.self.now c.lines.self c.take_line.new.self front (last ++ 10 ∷ [])
          c.lines.invariant.takes
          (takes_line c.lines.self c.take_line.new.self last c.lines.invariant.takes.own cut.0
          c.in_default-take_line.ensures);
    }

pub keep_front-requires : goal.keep_front-requires
keep_front-requires c = at_no_lf c.lines.rest.now c.in_default.ensures

pub returns : goal.returns
returns c =
    takes_rest c.args.self.now c.lines.self c.keep_front.new.self c.args.piece.now c.lines.invariant.front
    c.lines.rest.now c.keep_front.result
    c.lines.invariant.is c.lines.invariant.takes
    (front_is_piece c.lines.self c.keep_front.new.self c.lines.rest.now c.keep_front.result c.lines.invariant.takes.own
    (at_no_lf c.lines.rest.now c.in_default.ensures) c.keep_front.ensures)
