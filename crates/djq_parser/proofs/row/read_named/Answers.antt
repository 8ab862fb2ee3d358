-- The row's front was written over, so it is what was read; a line of such numbers has ASCII bytes alone.
use Rattle.std.proofs.Common.{◌≤◌, ◌<◌, ◌∙◌, [], Ok, ap, arith, length, subst, sym, take}
use Rattle.std.proofs.lemmas.List.{take_all}
use Rattle.djq_model.specs.Data.{Tuple}
use Rattle.djq_parser.specs.RowReading.{ReadsNumbers}
use Rattle.djq_parser.proofs.RowLines.{ReadsNamed, numbers_named, overwritten}
use Rattle.djq_parser.proofs.row.read_named.Goals as goal

pub returns-then-is_done : goal.returns-then-is_done
returns-then-is_done c =
    let w = c.overwrite_numbers-count in
    let name = c.in-Some.name.now in
    let new = w.new.row in
    let wide = w.auto.row ∙ c.as_mut_slice.ensures.len in
    let full : length new ≤ w.result.0 = omega (arith, wide, c.if-count-len.true, c.len.ensures) in
    let all = take_all w.result.0 new full in
    let read = subst (λ (row : Tuple). ReadsNumbers c.in-Some.values [] w.result.1 row) all w.ensures.read in
    let some : 0 < length new = omega (arith, w.ensures.within, c.if-count-gt0.true) in
    subst (λ (row : Tuple). ReadsNamed c.args.line.now c.args.lexer (Ok (name, row)))
    (sym (overwritten new c.args.row.now.items c.args.row.now.len wide))
    (numbers_named c.args.line.now c.requires.0 c.args.lexer c.in-Some.values w.result.1 name new c.requires.1
    c.in-Some.ensures.0 c.in-Some.ensures.1 some read (c.is_done.ensures.0 c.if-is_done.true))

pub returns-in-Ok : goal.returns-in-Ok
returns-in-Ok c =
    let w = c.overwrite_numbers-count in
    let wide = w.auto.row ∙ c.as_mut_slice.ensures.len in
    let whole = overwritten w.new.row c.args.row.now.items c.args.row.now.len wide in
    let read = subst (λ (row : Tuple). ReadsNumbers c.in-Some.values [] w.result.1 row)
    (sym (c.truncate.ensures.items ∙ ap (take w.result.0) whole)) w.ensures.read in
    c.in-Ok.ensures c.requires.0 c.args.lexer c.in-Some.values c.in-Some.name.now c.requires.1 c.in-Some.ensures.0
    c.in-Some.ensures.1 read

pub returns-in-Err : goal.returns-in-Err
returns-in-Err c =
    let w = c.overwrite_numbers-count in
    let wide = w.auto.row ∙ c.as_mut_slice.ensures.len in
    let whole = overwritten w.new.row c.args.row.now.items c.args.row.now.len wide in
    let read = subst (λ (row : Tuple). ReadsNumbers c.in-Some.values [] w.result.1 row)
    (sym (c.truncate.ensures.items ∙ ap (take w.result.0) whole)) w.ensures.read in
    c.in-Err.ensures c.requires.0 c.args.lexer c.in-Some.values c.in-Some.name.now c.requires.1 c.in-Some.ensures.0
    c.in-Some.ensures.1 read
