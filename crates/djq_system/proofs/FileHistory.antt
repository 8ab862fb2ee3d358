-- What a call that was answered adds to the history of a file.
use Rattle.std.proofs.Common.{◌≡◌, ℕ, ◌+◌, ◌-◌, ◌<◌, ◌≤◌, min, inl, inr, Bool, true, false, List, [], ◌∷◌, ◌++◌, length, take, drop, get_or}
use Rattle.std.proofs.Common.{Option, Some, None, option_and_then, reverse, cond, refl, sym, ap, subst, ◌∙◌, arith}
use Rattle.std.specs.Prelude.{nat_le, ◌==◌}
use Rattle.std.specs.Str.{bytes_eq}
use Rattle.std.proofs.lemmas.Bool.{and_parts, leb-true, eqb-true}
use Rattle.std.proofs.lemmas.List.{reverse-append, get_or-take, get_or-drop}
use Rattle.std.proofs.lemmas.Slice.Eq.{bytes_eq-Decides}
use Rattle.djq_disk.specs.File.{Span, Torn}
use Rattle.djq_disk.specs.History.{History, WhereHistoryTold, OpensPath, Sizes, DiskReads, DiskWrites}
use Rattle.djq_disk.specs.History.{Syncs, BeginsNext, WritesNext, SyncsNext, Replaces}
use Rattle.djq_disk.specs.declared.disk.DiskOpen.{DiskOpen}
use Rattle.djq_disk.specs.declared.disk.DiskLen.{DiskLen}
use Rattle.djq_disk.specs.declared.disk.DiskLen.TheVariants.{Len, Failed as Unmeasured}
use Rattle.djq_disk.specs.declared.disk.DiskRead.{DiskRead}
use Rattle.djq_disk.specs.declared.disk.DiskRead.TheVariants.{Got, End, Failed as Unread}
use Rattle.djq_disk.specs.declared.disk.DiskDid.{DiskDid}
use Rattle.djq_disk.specs.declared.disk.DiskDid.TheVariants.{Done, Failed}
use Rattle.djq_disk.specs.declared.call_log.DiskCall.TheVariants.{Opening, Measuring, Reading, Writing, Syncing}
use Rattle.djq_disk.specs.declared.call_log.DiskCall.TheVariants.{BeginningNext, WritingNext, SyncingNext, Replacing}
use Rattle.djq_disk.specs.History.{replaced}
use Rattle.djq_disk.specs.CallLog.{after_sync_call, after_begin_next, after_sync_next}
use Rattle.djq_system.specs.Oracle.{FileOracle}
use Rattle.djq_system.specs.FileCalls.{FileCall, given_by_read, is_length, stands_there, may_be_torn, history_if}
use Rattle.djq_system.specs.FileCalls.{history_answered, history_back, history_of_calls}

-- what holds of each history that an answer may lead to holds where it is told
told_if : (P : History → History → Type 0) (next : History → Option History) (old : Option History)
    → ((h n : History) → next h ≡ Some n → P h n) → WhereHistoryTold old (option_and_then next old) P
told_if P next None so = tt
told_if P next (Some h) so = at_answer (next h) (so h)
  where
    at_answer : (answer : Option History) → ((n : History) → answer ≡ Some n → P h n)
        → WhereHistoryTold (Some h) answer P
    at_answer None so = tt
    at_answer (Some n) so = so n refl

same_some : (h n : History) → Some h ≡ Some n → h ≡ n
same_some h n is = cc

-- what is so where a test lets a history through
let_through : (so : Bool) (h n : History) → history_if so h ≡ Some n → (so ≡ true) × (n ≡ h)
let_through true h n is = (refl, sym (same_some h n is))
let_through false h n is = absurd (let no : None ≡ Some n = is in cc)

-- a call more, of which this is told
pub told_after : (o : FileOracle) (old new : List FileCall) (c : FileCall) (P : History → History → Type 0)
    → new ≡ old ++ c ∷ []
    → ((h n : History) → history_answered o (length (reverse old)) c.call c.gave h ≡ Some n → P h n)
    → WhereHistoryTold (history_of_calls o old) (history_of_calls o new) P
told_after o old new c P is so =
    subst (λ calls. WhereHistoryTold (history_of_calls o old) (history_back o calls) P)
    (sym (ap reverse is ∙ reverse-append old (c ∷ [])))
    (told_if P (history_answered o (length (reverse old)) c.call c.gave) (history_back o (reverse old)) so)

same_bytes : (xs ys : List ℕ) → bytes_eq xs ys ≡ true → xs ≡ ys
same_bytes xs ys is = (bytes_eq-Decides xs ys).0 is

-- a write that may be torn so is
torn_so : (span : Span) (old new : List ℕ) → may_be_torn span old new ≡ true → Torn span old new
torn_so span old new is =
    let three = and_parts _ _ is in
    let two = and_parts _ _ three.0 in
    let one = and_parts _ _ two.0 in
    let front = same_bytes _ _ two.1 in
    let rest = same_bytes _ _ three.1 in
    record {
      keeps = record {
        longer = leb-true _ _ one.0;
        same = λ i within out. elim out [
          | inl before ↦ before_it span old new front i within before
          | inr behind ↦ behind_it span old new rest i behind
        ];
      };
      within = leb-true _ _ one.1;
    }
  where
    before_it : (span : Span) (old new : List ℕ)
        → take (min span.at (length old)) new ≡ take (min span.at (length old)) old
        → (i : ℕ) → i < length old → i < span.at → get_or new i 0 ≡ get_or old i 0
    before_it span old new front i within before =
        let low : i < min span.at (length old) = omega arith in
        sym (get_or-take (min span.at (length old)) new i 0 low) ∙ ap (λ bytes. get_or bytes i 0) front
        ∙ get_or-take (min span.at (length old)) old i 0 low

    behind_it : (span : Span) (old new : List ℕ) → drop (span.at + span.size) new ≡ drop (span.at + span.size) old
        → (i : ℕ) → span.at + span.size ≤ i → get_or new i 0 ≡ get_or old i 0
    behind_it span old new rest i behind =
        let place : span.at + span.size + (i - (span.at + span.size)) ≡ i = omega arith in
        subst (λ j. get_or new j 0 ≡ get_or old j 0) place
        (sym (get_or-drop (span.at + span.size) new (i - (span.at + span.size)) 0)
        ∙ ap (λ bytes. get_or bytes (i - (span.at + span.size)) 0) rest
        ∙ get_or-drop (span.at + span.size) old (i - (span.at + span.size)) 0)

pub opens_so : (o : FileOracle) (old new : List FileCall) (answer : DiskOpen) (path : List ℕ)
    → new ≡ old ++ record { call = Opening path answer; gave = [] } ∷ []
    → WhereHistoryTold (history_of_calls o old) (history_of_calls o new) (OpensPath path)
opens_so o old new answer path is = told_after o old new _ (OpensPath path) is (λ h n was. sym (same_some _ n was))

pub sizes_so : (o : FileOracle) (old new : List FileCall) (answer : DiskLen)
    → new ≡ old ++ record { call = Measuring answer; gave = [] } ∷ []
    → WhereHistoryTold (history_of_calls o old) (history_of_calls o new) (Sizes answer)
sizes_so o old new answer is = told_after o old new _ (Sizes answer) is (it answer)
  where
    it : (answer : DiskLen) (h n : History) → history_if (is_length answer h.file.bytes) h ≡ Some n → Sizes answer h n
    it (Len size) h n was =
        let so = let_through (size == length h.file.bytes) h n was in
        (eqb-true size (length h.file.bytes) so.0, so.1)
    it Unmeasured h n was = sym (same_some h n was)

pub reads_so : (o : FileOracle) (old new : List FileCall) (answer : DiskRead) (at : ℕ) (buf : List ℕ)
    → new ≡ old ++ record { call = Reading at answer; gave = given_by_read answer buf } ∷ []
    → WhereHistoryTold (history_of_calls o old) (history_of_calls o new) (DiskReads answer at buf)
reads_so o old new answer at buf is = told_after o old new _ (DiskReads answer at buf) is (it answer)
  where
    it : (answer : DiskRead) (h n : History)
        → history_if (stands_there answer at (given_by_read answer buf) h.file.bytes) h ≡ Some n
        → DiskReads answer at buf h n
    it (Got size) h n was =
        let so = let_through (stands_there (Got size) at (take size buf) h.file.bytes) h n was in
        let both = and_parts _ _ so.0 in
        ((leb-true _ _ both.0, same_bytes _ _ both.1), so.1)
    it End h n was =
        let so = let_through (nat_le (length h.file.bytes) at) h n was in
        (leb-true _ _ so.0, so.1)
    it Unread h n was = (tt, sym (same_some h n was))

pub writes_so : (o : FileOracle) (old new : List FileCall) (answer : DiskDid) (at : ℕ) (piece : List ℕ)
    → new ≡ old ++ record { call = Writing at piece answer; gave = [] } ∷ []
    → WhereHistoryTold (history_of_calls o old) (history_of_calls o new) (DiskWrites answer at piece)
writes_so o old new answer at piece is =
    told_after o old new _ (DiskWrites answer at piece) is (it (length (reverse old)) answer)
  where
    it : (k : ℕ) (answer : DiskDid) (h n : History) → history_answered o k (Writing at piece answer) [] h ≡ Some n
        → DiskWrites answer at piece h n
    it k Done h n was = sym (same_some _ n was)
    it k Failed h n was =
        let part : Span = record { at = at; size = length piece } in
        let so = let_through (may_be_torn part h.file.bytes (o.left k)) _ n was in
        (o.left k, torn_so part h.file.bytes (o.left k) so.0, so.1)

pub syncs_so : (o : FileOracle) (old new : List FileCall) (answer : DiskDid)
    → new ≡ old ++ record { call = Syncing answer; gave = [] } ∷ []
    → WhereHistoryTold (history_of_calls o old) (history_of_calls o new) (Syncs answer)
syncs_so o old new answer is = told_after o old new _ (Syncs answer) is (it answer)
  where
    it : (answer : DiskDid) (h n : History) → Some (after_sync_call h answer) ≡ Some n → Syncs answer h n
    it Done h n was = sym (same_some _ n was)
    it Failed h n was = sym (same_some _ n was)

pub begins_next_so : (o : FileOracle) (old new : List FileCall) (answer : DiskDid)
    → new ≡ old ++ record { call = BeginningNext answer; gave = [] } ∷ []
    → WhereHistoryTold (history_of_calls o old) (history_of_calls o new) (BeginsNext answer)
begins_next_so o old new answer is = told_after o old new _ (BeginsNext answer) is (it answer)
  where
    it : (answer : DiskDid) (h n : History) → Some (after_begin_next h answer) ≡ Some n → BeginsNext answer h n
    it Done h n was = sym (same_some _ n was)
    it Failed h n was = sym (same_some _ n was)

pub writes_next_so : (o : FileOracle) (old new : List FileCall) (answer : DiskDid) (at : ℕ) (piece : List ℕ)
    → new ≡ old ++ record { call = WritingNext at piece answer; gave = [] } ∷ []
    → WhereHistoryTold (history_of_calls o old) (history_of_calls o new) (WritesNext answer at piece)
writes_next_so o old new answer at piece is =
    told_after o old new _ (WritesNext answer at piece) is (it (length (reverse old)) answer)
  where
    it : (k : ℕ) (answer : DiskDid) (h n : History) → history_answered o k (WritingNext at piece answer) [] h ≡ Some n
        → WritesNext answer at piece h n
    it k Done h n was = sym (same_some _ n was)
    it k Failed h n was =
        let part : Span = record { at = at; size = length piece } in
        let so = let_through (may_be_torn part h.next.bytes (o.left k)) _ n was in
        (o.left k, torn_so part h.next.bytes (o.left k) so.0, so.1)

pub syncs_next_so : (o : FileOracle) (old new : List FileCall) (answer : DiskDid)
    → new ≡ old ++ record { call = SyncingNext answer; gave = [] } ∷ []
    → WhereHistoryTold (history_of_calls o old) (history_of_calls o new) (SyncsNext answer)
syncs_next_so o old new answer is = told_after o old new _ (SyncsNext answer) is (it answer)
  where
    it : (answer : DiskDid) (h n : History) → Some (after_sync_next h answer) ≡ Some n → SyncsNext answer h n
    it Done h n was = sym (same_some _ n was)
    it Failed h n was = sym (same_some _ n was)

pub replaces_so : (o : FileOracle) (old new : List FileCall) (answer : DiskDid)
    → new ≡ old ++ record { call = Replacing answer; gave = [] } ∷ []
    → WhereHistoryTold (history_of_calls o old) (history_of_calls o new) (Replaces answer)
replaces_so o old new answer is = told_after o old new _ (Replaces answer) is (it (length (reverse old)) answer)
  where
    by : (b : Bool) (h n : History) → cond b (replaced h) h ≡ n → Replaces Failed h n
    by true h n is = inr (sym is)
    by false h n is = inl (sym is)

    it : (k : ℕ) (answer : DiskDid) (h n : History) → history_answered o k (Replacing answer) [] h ≡ Some n
        → Replaces answer h n
    it k Done h n was = sym (same_some _ n was)
    it k Failed h n was = by (o.replaces k) h n (same_some _ n was)
