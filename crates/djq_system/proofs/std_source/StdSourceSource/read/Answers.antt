-- A read that gave bytes is noted with them.
use Rattle.std.proofs.Common.{arith, rules, ◌≡◌, ◌∙◌, List, [], ◌∷◌, ◌++◌, map, take, ap}
use Rattle.std.proofs.lemmas.List.{map-append}
use Rattle.djq_io.specs.declared.source.Read.TheVariants.{Got}
use Rattle.djq_system.specs.StdSource.{ReadDone, ShownByReader, source_read_noted}
use Rattle.djq_system.proofs.SourceReadings.{gives_so}
use Rattle.djq_system.proofs.std_source.StdSourceSource.read.Goals as goal

pub returns-in-Ok-clause-reads : goal.returns-in-Ok-clause-reads
returns-in-Ok-clause-reads g c =
    let n = c.in-Ok.n in
    let read : ReadDone = record { answer = Got n; gave = take n c.read.new.buf } in
    let is : map source_read_noted c.note-in-Ok.new.self.calls ≡ c.args.self.now.reads ++ read ∷ [] =
    ap (map source_read_noted) c.note-in-Ok.ensures ∙ map-append source_read_noted c.self.inside.notes.calls (_ ∷ [])
    ∙ ap (λ (reads : List ReadDone). reads ++ read ∷ []) (ap (λ (s : ShownByReader). s.reads) c.self.view_is) in (
      omega (arith, c.in-Ok.n-test),
      search rules,
      gives_so g.O.Oracle.input c.args.self.now.reads (map source_read_noted c.note-in-Ok.new.self.calls) n
          c.read.new.buf is,
    )
