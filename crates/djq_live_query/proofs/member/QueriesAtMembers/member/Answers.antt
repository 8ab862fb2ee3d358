-- Each place has a query, so the query at a number is the one in the place at that number.
use Rattle.std.proofs.Common.{◌<◌, ◌∙◌, length, rules, arith}
use Rattle.djq_live_query.proofs.Catalogs.{as_many, nth_is, nth_has}
use Rattle.djq_live_query.proofs.member.QueriesAtMembers.member.Goals as goal

pub offset_bounds-self-i : goal.offset_bounds-self-i
offset_bounds-self-i c =
    let many = as_many c.args.self.now.queries.now c.args.self.now.places.now
    c.requires.sound.each in
    let within = c.requires.within in
    let below : c.args.i < length c.args.self.now.places.now = omega arith in
    search rules

pub bounds-self-i : goal.bounds-self-i
bounds-self-i c =
    let many = as_many c.args.self.now.queries.now c.args.self.now.places.now
    c.requires.sound.each in
    let within = c.requires.within in
    omega arith

pub lent-requires : goal.lent-requires
lent-requires c =
    let many = as_many c.args.self.now.queries.now c.args.self.now.places.now
    c.requires.sound.each in
    let within = c.requires.within in
    nth_has c.args.self.now.queries.now c.args.self.now.places.now c.args.i c.requires.sound.each
    (omega arith)

pub returns : goal.returns
returns c =
    let many = as_many c.args.self.now.queries.now c.args.self.now.places.now
    c.requires.sound.each in
    let within = c.requires.within in
    nth_is c.args.self.now.queries.now c.args.self.now.places.now c.args.i c.requires.sound.each
    (omega arith)
    ∙ c.lent.ensures
