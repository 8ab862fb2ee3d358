-- What the window gives stands behind what the buffer had, and both are the file's bytes from the place on.
use Rattle.std.proofs.Common.{◌≡◌, ◌+◌, ◌-◌, ◌≤◌, List, ℕ, ◌++◌, length, take, drop, ap, ◌∙◌, arith, length-take, length-drop}
use borrow.Rule.Slice.PartMut.{put_mid}
use Rattle.std.proofs.lemmas.Slice.{take-put_mid}
use Rattle.std.proofs.lemmas.List.{take-take}
use Rattle.djq_disk.proofs.Files.{filled_within, filled_more}
use Rattle.djq_log_file.specs.Window.{WindowHolds}
use Rattle.djq_log_file.proofs.Through.{reads_both, looks, window_gives}
use Rattle.djq_log_file.proofs.window.Window.fill.Goals as goal

pub loop-done-preserved : goal.loop-done-preserved
loop-done-preserved g c =
    let at = c.args.at in
    let done = c.loop-done.done in
    let buf = c.loop-done.buf in
    let n = c.in-Got.n in
    let part = c.min.result in
    let end = done + part in
    let place = at + done in
    let got = c.copy_from_slice.new.self in
    let after = put_mid done (end - done) buf got in
    let window = c.look.new.self in
    let held = c.from.result.now in
    let within = c.loop-done.invariant.within in
    let reach = c.in-Got.ensures.reach in
    let few : part ≤ n = omega (arith, c.min.ensures) in
    let room : end ≤ length buf = omega (arith, c.min.ensures, within) in
    let held_is : held ≡ drop (place - window.start) window.held = c.from.ensures in
    let got_is : got ≡ take part held =
    c.copy_from_slice.ensures.after ∙ ap (λ k. take k held) (omega arith) in
    let size : length got ≡ part = omega (
      arith,
      few,
      ap length got_is,
      length-take part held,
      ap length held_is,
      length-drop (place - window.start) window.held,
      reach.1,
      reach.2,
    ) in
    let is : take (done + length got) after ≡ take done buf ++ got =
    take-put_mid done (end - done) buf got (done + length got) (omega arith) within in
    record {
      within = filled_within done part buf got after within (omega (arith, size)) is;
      fits = omega (arith, few, reach.3);
      is_open = c.in-Got.ensures.is_open;
      told = reads_both _ _ _ _ _ _ (λ bytes. take done buf ≡ take done (drop at bytes)) (WindowHolds window)
          (λ bytes. take end after ≡ take end (drop at bytes))
          (λ bytes so_far holds. filled_more at done part bytes buf got after within (omega (arith, size)) is so_far
          (ap (λ (xs : List ℕ). take part xs)
          (got_is ∙ ap (λ (xs : List ℕ). take part xs) held_is
          ∙ window_gives window place part bytes holds reach.1 (omega (arith, few, reach.2)))
          ∙ take-take part part (drop place bytes) (omega arith)))
          c.loop-done.invariant.told (looks _ _ _ _ n place c.in-Got.ensures.told);
      faults = c.in-Got.ensures.faults ∙ c.loop-done.invariant.faults;
    }
