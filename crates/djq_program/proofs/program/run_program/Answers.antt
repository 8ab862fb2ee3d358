-- What was read of the words is what they ask for, case by case, and a mirror's query is a name.
use Rattle.std.proofs.Common.{ℕ, List, Bor, Option, ◌∙◌, map, ap, inl, refl, Some, None}
use Rattle.djq_cli.specs.declared.commands.Asked.{Asked}
use Rattle.djq_cli.specs.declared.commands.Asked.TheVariants.{Run, Serve, Replay, Gen, Mirror}
use Rattle.djq_program_laws.proofs.ProgramRuns.{asks_for, names_query}
use Rattle.djq_program.proofs.program.run_program.Goals as goal

pub returns-in-Ok-Some-Run-clause-ends : goal.returns-in-Ok-Some-Run-clause-ends
returns-in-Ok-Some-Run-clause-ends g c =
    let read = c.in-Ok-Some-Run in
    let words : List (List ℕ) = map (λ (word : Bor (List ℕ)). word.now) c.args.words.now in
    inl (
      Some Run,
      asks_for words read.field-0 (Some Run)
          (read.field-0-is ∙ ap (λ (a : Asked). Some a) read.field-0-0-is) read.ensures,
      (c.serve_source.ensures, refl),
    )

pub returns-in-Ok-Some-Serve-default-default-None-clause-ends :
    goal.returns-in-Ok-Some-Serve-default-default-None-clause-ends
returns-in-Ok-Some-Serve-default-default-None-clause-ends g c =
    let read = c.in-Ok-Some-Serve-default-default-None in
    let words : List (List ℕ) = map (λ (word : Bor (List ℕ)). word.now) c.args.words.now in
    let asked : Asked = Serve read.addr read.turns None in
    let is = read.field-0-is
    ∙ ap (λ (a : Asked). Some a)
    (read.field-0-0-is ∙ ap (λ (log : Option (Bor (List ℕ))). Serve read.addr read.turns log) read.field-0-0-2-is)
    in
    inl (
      Some asked,
      asks_for words read.field-0 (Some asked) is read.ensures,
      (c.serve_hub.ensures, record { reading = refl; read_faults = refl; writing = refl; write_faults = refl }),
    )

pub returns-in-Ok-Some-Serve-clause-ends : goal.returns-in-Ok-Some-Serve-clause-ends
returns-in-Ok-Some-Serve-clause-ends g c =
    let read = c.in-Ok-Some-Serve in
    let words : List (List ℕ) = map (λ (word : Bor (List ℕ)). word.now) c.args.words.now in
    let asked : Asked = Serve read.addr read.turns read.path in
    let is = read.field-0-is ∙ ap (λ (a : Asked). Some a) read.field-0-0-is in
    inl (
      Some asked,
      asks_for words read.field-0 (Some asked) is read.ensures,
      (
        c.serve_hub-in-Ok-Some-Serve.ensures,
        record
            { reading = refl; read_faults = refl; writing = refl; write_faults = refl },
      ),
    )

pub returns-in-Ok-Some-Replay-None-clause-ends : goal.returns-in-Ok-Some-Replay-None-clause-ends
returns-in-Ok-Some-Replay-None-clause-ends g c =
    let read = c.in-Ok-Some-Replay-None in
    let words : List (List ℕ) = map (λ (word : Bor (List ℕ)). word.now) c.args.words.now in
    let asked : Asked = Replay None in
    let is = read.field-0-is
    ∙ ap (λ (a : Asked). Some a)
    (read.field-0-0-is ∙ ap (λ (log : Option (Bor (List ℕ))). Replay log) read.field-0-0-0-is) in
    inl (Some asked, asks_for words read.field-0 (Some asked) is read.ensures, (c.replay.ensures, refl))

pub returns-in-Ok-Some-Replay-clause-ends : goal.returns-in-Ok-Some-Replay-clause-ends
returns-in-Ok-Some-Replay-clause-ends g c =
    let read = c.in-Ok-Some-Replay in
    let words : List (List ℕ) = map (λ (word : Bor (List ℕ)). word.now) c.args.words.now in
    let asked : Asked = Replay read.path in
    let is = read.field-0-is ∙ ap (λ (a : Asked). Some a) read.field-0-0-is in
    inl (
      Some asked,
      asks_for words read.field-0 (Some asked) is read.ensures,
      (c.replay-in-Ok-Some-Replay.ensures, refl),
    )

pub returns-in-Ok-Some-Gen-clause-ends : goal.returns-in-Ok-Some-Gen-clause-ends
returns-in-Ok-Some-Gen-clause-ends g c =
    let read = c.in-Ok-Some-Gen in
    inl (
      Some (Gen read.n read.seed),
      asks_for (map (λ (word : Bor (List ℕ)). word.now) c.args.words.now) read.field-0
          (Some (Gen read.n read.seed)) (read.field-0-is ∙ ap (λ (a : Asked). Some a) read.field-0-0-is) read.ensures,
      (c.generate.ensures, record { reading = refl; read_faults = refl }, refl),
    )

pub returns-in-Ok-Some-Mirror-clause-ends : goal.returns-in-Ok-Some-Mirror-clause-ends
returns-in-Ok-Some-Mirror-clause-ends g c =
    let read = c.in-Ok-Some-Mirror in
    inl (
      Some (Mirror read.query),
      asks_for (map (λ (word : Bor (List ℕ)). word.now) c.args.words.now) read.field-0
          (Some (Mirror read.query)) (read.field-0-is ∙ ap (λ (a : Asked). Some a) read.field-0-0-is) read.ensures,
      (c.mirror_source.ensures _, refl),
    )

pub mirror_source-requires : goal.mirror_source-requires
mirror_source-requires g c =
    let read = c.in-Ok-Some-Mirror in
    let words : List (List ℕ) = map (λ (word : Bor (List ℕ)). word.now) c.args.words.now in
    names_query words read.query
    (asks_for words read.field-0 (Some (Mirror read.query))
    (read.field-0-is ∙ ap (λ (a : Asked). Some a) read.field-0-0-is) read.ensures)
