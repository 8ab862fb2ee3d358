-- The two bytes are the length of the line that was read behind them.
use Rattle.std.proofs.Common.{◌≡◌, ◌+◌, ◌++◌, length, take, drop, get_or, refl, ap, ◌∙◌, arith, length-take}
use Rattle.std.proofs.lemmas.List.{take_at}
use Rattle.djq_disk.specs.declared.filling.Filled.TheVariants.{Whole}
use Rattle.djq_log_file.specs.Window.{FillsPart}
use Rattle.djq_log_file.specs.Entries.{IsEntry}
use Rattle.djq_log_file.specs.declared.entry.Entry.TheVariants.{Line}
use Rattle.djq_log_file.proofs.Through.{reads_both}
use Rattle.djq_log_file.proofs.Bodies.{entry_read, bytes_all, bytes_take}
use Rattle.djq_log_file.proofs.entry.read_entry.Goals as goal

pub returns-in-Whole-fill-clause-told : goal.returns-in-Whole-fill-clause-told
returns-in-Whole-fill-clause-told g c =
    let at = c.args.at in
    let n = c.number_of-n.result in
    let size = c.fill.new.buf in
    let got = c.fill-2.new.buf in
    let behind = drop n c.args.buf.now in
    let long : length got ≡ n = omega
    (arith, c.fill-2.auto.buf, length-take n c.args.buf.now, c.requires.room, c.number_of-n.ensures.most) in
    reads_both _ _ _ _ _ _ (FillsPart Whole at size) (FillsPart Whole (at + 2) got)
    (λ bytes. IsEntry (Line n) c.args.left (got ++ behind) (drop at bytes))
    (λ bytes one two. entry_read at (get_or size 0 0) (get_or size 1 0) n bytes size got behind c.fill.auto.buf one refl refl
    c.number_of-n.ensures.is c.number_of-n.ensures.low long two)
    c.in-Whole.ensures.told c.in-Whole-fill.ensures.told

pub returns-in-Whole-fill-clause-fits : goal.returns-in-Whole-fill-clause-fits
returns-in-Whole-fill-clause-fits g c =
    let n = c.number_of-n.result in
    let got = c.fill-2.new.buf in
    let behind = drop n c.args.buf.now in
    let long : length got ≡ n = omega
    (arith, c.fill-2.auto.buf, length-take n c.args.buf.now, c.requires.room, c.number_of-n.ensures.most) in
    let size : length (take n (got ++ behind)) ≡ n = ap length (take_at got behind n long) ∙ long in (
      record {
        some = omega (arith, size, c.if-n-eq0.false);
        short = omega (arith, size, c.number_of-n.ensures.most);
        are_bytes = bytes_take n (got ++ behind) (bytes_all (got ++ behind) (λ i. omega (arith, c.type_inv.buf i)));
      },
      size,
      omega (arith, c.if-left-n.false, c.if-left-lt3.false),
      omega (arith, long, c.in-Whole-fill.ensures.within),
    )
