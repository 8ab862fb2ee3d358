-- The level at the index is the next one below the choices, and menus are open, so it has a first tuple.
use Rattle.std.proofs.Common.{◌∙◌, [], ◌∷◌, length, slice_index_or, refl, ap, arith}
use Rattle.std.proofs.lemmas.List.{length-append}
use Rattle.djq_enumeration.specs.declared.places.Choice.{Choice}
use Rattle.djq_enumeration.specs.Walk.{reached_level}
use Rattle.djq_enumeration.proofs.LevelChoices.{room_for, small_in, next_listed, level_listed, all_chosen, few_chosen}
use Rattle.djq_enumeration.proofs.NextAnswers.{some_first, chosen_first}
use Rattle.djq_enumeration.proofs.walk.fill.Goals as goal

pub first_at-requires-clause-level : goal.first_at-requires-clause-level
first_at-requires-clause-level g c =
    let r = c.args.reducts.now in
    level_listed r (g.C.Choices.menu c.args.choices.now r) c.loop-at.places
    c.levels-levels.result.now c.loop-at.at c.loop-at.invariant.stands.follows
    c.levels-levels.ensures c.loop-at.invariant.is c.loop-at-test.true

pub first_at-requires-clause-wide : goal.first_at-requires-clause-wide
first_at-requires-clause-wide g c = c.loop-at.invariant.stands.wide

pub returns-in_default-clause-whole : goal.returns-in_default-clause-whole
returns-in_default-clause-whole g c =
    let r = c.args.reducts.now in
    let menu = g.C.Choices.menu c.args.choices.now r in
    let ls = c.levels-levels.result.now in
    let st = c.loop-at.invariant.stands in
    absurd
    (some_first r menu (reached_level (length r.tree.nodes) c.loop-at.places)
    (slice_index_or ls c.loop-at.at 0) c.loop-at.places c.loop-at.answer c.laws.ensures.sound st refl
    c.requires.opened
    (next_listed r menu c.loop-at.places ls c.loop-at.at st.follows c.levels-levels.ensures
    c.loop-at.invariant.is c.loop-at-test.true) c.in_default.ensures.none)

pub returns-in_default-clause-counted : goal.returns-in_default-clause-counted
returns-in_default-clause-counted g c =
    let r = c.args.reducts.now in
    let menu = g.C.Choices.menu c.args.choices.now r in
    let ls = c.levels-levels.result.now in
    let st = c.loop-at.invariant.stands in
    absurd
    (some_first r menu (reached_level (length r.tree.nodes) c.loop-at.places)
    (slice_index_or ls c.loop-at.at 0) c.loop-at.places c.loop-at.answer c.laws.ensures.sound st refl
    c.requires.opened
    (next_listed r menu c.loop-at.places ls c.loop-at.at st.follows c.levels-levels.ensures
    c.loop-at.invariant.is c.loop-at-test.true) c.in_default.ensures.none)

pub write_choice-requires-clause-alive : goal.write_choice-requires-clause-alive
write_choice-requires-clause-alive g c =
    let r = c.args.reducts.now in
    record {
      level = level_listed r (g.C.Choices.menu c.args.choices.now r) c.loop-at.places
          c.levels-levels.result.now c.loop-at.at c.loop-at.invariant.stands.follows
          c.levels-levels.ensures c.loop-at.invariant.is c.loop-at-test.true;
      live = c.in-Some.ensures.some.live;
    }

pub write_choice-requires-clause-wide : goal.write_choice-requires-clause-wide
write_choice-requires-clause-wide g c = c.loop-at.invariant.stands.wide

pub push-requires : goal.push-requires
push-requires g c =
    let r = c.args.reducts.now in
    let menu = g.C.Choices.menu c.args.choices.now r in
    let ls = c.levels-levels.result.now in
    let st = c.loop-at.invariant.stands in
    room_for r menu (reached_level (length r.tree.nodes) c.loop-at.places)
    (slice_index_or ls c.loop-at.at 0) c.loop-at.places c.loop-at.answer c.laws.ensures.sound
    (small_in r.tree c.tree.result.now c.tree.ensures c.is_small.ensures) st refl
    (next_listed r menu c.loop-at.places ls c.loop-at.at st.follows c.levels-levels.ensures
    c.loop-at.invariant.is c.loop-at-test.true)

pub loop-at-preserved : goal.loop-at-preserved
loop-at-preserved g c =
    let r = c.args.reducts.now in
    let menu = g.C.Choices.menu c.args.choices.now r in
    let ls = c.levels-levels.result.now in
    let st = c.loop-at.invariant.stands in
    let choice : Choice = record {
      level = slice_index_or ls c.loop-at.at 0;
      place = c.in-Some.place;
    } in
    let made = chosen_first r menu (reached_level (length r.tree.nodes) c.loop-at.places)
    c.loop-at.places c.push.new.self c.loop-at.answer c.write_choice.new.answer choice
    c.laws.ensures.sound st refl
    (next_listed r menu c.loop-at.places ls c.loop-at.at st.follows c.levels-levels.ensures
    c.loop-at.invariant.is c.loop-at-test.true) c.in-Some.ensures.some c.write_choice.ensures
    c.push.ensures in
    let long = ap length c.push.ensures ∙ length-append c.loop-at.places (choice ∷ []) in
    let is = c.loop-at.invariant.is in
    let counted = c.loop-at.invariant.counted in
    let look = c.first_at.ensures.counted in
    record {
      is = omega arith;
      stands = made.stands;
      ahead = made.before ∙ c.loop-at.invariant.ahead;
      counted = omega arith;
    }

pub returns-clause-whole : goal.returns-clause-whole
returns-clause-whole g c =
    let r = c.args.reducts.now in
    let test = c.loop-at-test.false in
    let is = c.loop-at.invariant.is in
    let all = ap length c.levels-levels.ensures in
    all_chosen r (g.C.Choices.menu c.args.choices.now r) c.loop-at.places
    c.loop-at.invariant.stands.follows (omega arith)

pub returns-clause-counted : goal.returns-clause-counted
returns-clause-counted g c =
    let r = c.args.reducts.now in
    let test = c.loop-at-test.false in
    let is = c.loop-at.invariant.is in
    let all = ap length c.levels-levels.ensures in
    let few = few_chosen r (g.C.Choices.menu c.args.choices.now r) c.loop-at.places
    c.loop-at.invariant.stands.follows in
    let counted = c.loop-at.invariant.counted in
    omega arith
