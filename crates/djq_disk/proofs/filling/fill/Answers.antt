-- What a read gave stands behind what the buffer had, and both are the file's bytes from the place on.
use Rattle.std.proofs.Common.{◌≡◌, ◌+◌, ◌-◌, ◌++◌, length, take, drop, ◌∙◌, arith}
use borrow.Rule.Slice.PartMut.{put_mid}
use Rattle.std.proofs.lemmas.Slice.{take-put_mid}
use Rattle.djq_disk.specs.History.{DiskReads}
use Rattle.djq_disk.specs.declared.disk.DiskRead.TheVariants.{Got}
use Rattle.djq_disk.proofs.Files.{told_both, filled_within, filled_more}
use Rattle.djq_disk.proofs.filling.fill.Goals as goal

-- What this read gave stands behind what the buffer had.
pub loop-done-preserved : goal.loop-done-preserved
loop-done-preserved g c =
    let at = c.args.at in
    let done = c.loop-done.done in
    let buf = c.loop-done.buf in
    let got = c.read.new.buf in
    let n = c.in-Got.n in
    let after = put_mid done (length buf - done) buf got in
    let within = c.loop-done.invariant.within in
    let fits = c.in-Got.ensures.fits.1 in
    let is : take (done + length got) after
    ≡ take done buf ++ got = take-put_mid done (length buf - done) buf got (done + length got) (omega arith) within
    in
    record {
      within = filled_within done n buf got after within fits is;
      fits = omega (arith, c.in-Got.ensures.fits.2);
      is_open = c.in-Got.ensures.is_open;
      told = told_both _ _ _
          (λ o m. (take done buf ≡ take done (drop at o.file.bytes)) × (m ≡ o)) (DiskReads (Got n) (at + done) got)
          (λ o k. (take (done + n) after ≡ take (done + n) (drop at o.file.bytes)) × (k ≡ o))
          (λ o m k so_far reads. (
            filled_more at done n o.file.bytes buf got after within fits is so_far.0 (rw so_far.1 at reads.0.1),
            reads.1 ∙ so_far.1,
          ))
          c.loop-done.invariant.told c.in-Got.ensures.told;
      faults = c.in-Got.ensures.faults ∙ c.loop-done.invariant.faults;
    }
