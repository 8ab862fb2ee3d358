-- Before each turn the items are those read and then those of the rest, and what is behind an item is shorter.
use Rattle.std.proofs.Common.{◌≡◌, ◌∷◌, Some, None, Result, Err, length, refl, sym, ap, subst, ◌∙◌, arith}
use Rattle.djq_protocol.specs.Grammar.{Body, behind_item, item_in, items_in, with_atoms}
use Rattle.djq_value.specs.Lexing.{lexeme_of}
use Rattle.djq_parser.specs.Bodies.{with_item}
use Rattle.djq_parser.specs.Reading.{ReadsAs, is_small_body}
use Rattle.djq_parser.specs.declared.refusal.LineRefusal.{LineRefusal}
use Rattle.djq_parser.specs.declared.refusal.LineRefusal.TheVariants.{Syntax}
use Rattle.djq_parser.proofs.Bodies.{behind_other, comma_is, item_less, on_none, on_some, parts_done, parts_more}
use Rattle.djq_parser.proofs.Bodies.{parts_none}
use Rattle.djq_parser.proofs.body.read_items.Goals as goal

pub returns-in-None : goal.returns-in-None
returns-in-None c =
    let so_far = c.items.invariant in
    let r : Result Body LineRefusal = Err Syntax in
    let none = on_none so_far.read (item_in (length so_far.read.0) c.items.lexer) c.read_item.new.lexer
    (c.in-None.ensures so_far.read so_far.kept) in
    subst (λ o. ReadsAs is_small_body (with_atoms o) r)
    (sym (parts_none c.args.lexer.now c.items.lexer c.items.parts so_far
    (ap (behind_item items_in (length so_far.read.0)) none))) refl

pub returns-in-None-next : goal.returns-in-None-next
returns-in-None-next c =
    let so_far = c.items.invariant in
    let found = on_some so_far.read (item_in (length so_far.read.0) c.items.lexer) c.in-Some.more c.read_item.new.lexer
    (c.in-Some.ensures so_far.read so_far.kept) in
    subst (λ o. ReadsAs is_small_body (with_atoms o) c.whole.result)
    (sym (parts_done c.args.lexer.now c.items.lexer c.read_item.new.lexer c.items.parts c.in-Some.more so_far
    found.0 found.1 c.in-None-next.ensures.0))
    (c.whole.ensures (with_item so_far.read found.0) found.2)

pub returns-then-not-is_comma : goal.returns-then-not-is_comma
returns-then-not-is_comma c =
    let so_far = c.items.invariant in
    let n = length so_far.read.0 in
    let r : Result Body LineRefusal = Err Syntax in
    let found = on_some so_far.read (item_in n c.items.lexer) c.in-Some.more c.read_item.new.lexer
    (c.in-Some.ensures so_far.read so_far.kept) in
    let other : behind_item items_in n (item_in n c.items.lexer) ≡ None =
    ap (behind_item items_in n) (found.1 ∙ ap (λ us. Some (found.0, us)) c.in-Some-next.ensures)
    ∙ behind_other n found.0 (lexeme_of c.in-Some-next.token) c.next.new.self items_in
    (sym c.is_comma.ensures ∙ c.if-not-is_comma.true) in
    subst (λ o. ReadsAs is_small_body (with_atoms o) r)
    (sym (parts_none c.args.lexer.now c.items.lexer c.items.parts so_far other)) refl

pub items-smaller : goal.items-smaller
items-smaller c =
    let so_far = c.items.invariant in
    let found = on_some so_far.read (item_in (length so_far.read.0) c.items.lexer) c.in-Some.more c.read_item.new.lexer
    (c.in-Some.ensures so_far.read so_far.kept) in
    let less = item_less (length so_far.read.0) c.items.lexer c.read_item.new.lexer found.0 found.1 in
    omega (arith, less, ap length c.in-Some-next.ensures)

pub items-preserved : goal.items-preserved
items-preserved c =
    let so_far = c.items.invariant in
    let found = on_some so_far.read (item_in (length so_far.read.0) c.items.lexer) c.in-Some.more c.read_item.new.lexer
    (c.in-Some.ensures so_far.read so_far.kept) in
    parts_more c.args.lexer.now c.items.lexer c.read_item.new.lexer c.next.new.self c.items.parts c.in-Some.more so_far
    found.0 found.1
    (c.in-Some-next.ensures
    ∙ ap (λ k. k ∷ c.next.new.self)
    (comma_is (lexeme_of c.in-Some-next.token) (sym c.is_comma.ensures ∙ c.if-not-is_comma.false)))
    found.2
