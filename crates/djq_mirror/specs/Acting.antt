-- What the calls of a mirror leave.
use Rattle.std.specs.Prelude.{◌≡◌, ℕ, List, ◌++◌, true, false, Option, Result, Ok, Err, length, map, take, Vec}
use Rattle.std.specs.BTreeSet.{BTreeSet}
use Rattle.djq_model.specs.Data.{Bytes}
use Rattle.djq_mirror.specs.declared.mode.Mode.{Mode}
use Rattle.djq_mirror.specs.declared.mirror.MirrorRefusal.{MirrorRefusal}
use Rattle.djq_mirror.specs.declared.mirror.MirrorRefusal.TheVariants.{Outside, NoMem}
use Rattle.djq_mirror.specs.Mirror.{Act, Acted, Follows, IsOutside, SeenMirror, Turned, may_act, may_turn}

-- the texts of a set, in byte order
abbrev pub set_texts : {A : Type 0} → BTreeSet (Vec ℕ A) → List Bytes
set_texts s = map (λ v. v.items) s.keys

-- An act is done if it may be; if it may not, or out of memory, the texts are as before.
abbrev pub ActsOn : {A : Type 0} → List Bytes → Act → Result A MirrorRefusal → List Bytes → Type 0
ActsOn old act (Ok u) new = (may_act old act ≡ true) × Acted old act new
ActsOn old act (Err Outside) new = (may_act old act ≡ false) × (new ≡ old)
ActsOn old act (Err NoMem) new = new ≡ old

-- The same of the mode and an act.
abbrev pub MirrorTurns : {A : Type 0} → SeenMirror → Option (Mode × Act) → Result A MirrorRefusal → SeenMirror → Type 0
MirrorTurns old turn (Ok u) new =
    (new.name ≡ old.name) × (may_turn old.held.texts turn ≡ true) × Turned old.held turn new.held
MirrorTurns old turn (Err Outside) new = (may_turn old.held.texts turn ≡ false) × (new ≡ old)
MirrorTurns old turn (Err NoMem) new = new ≡ old

-- A line is followed if it is allowed, and `Outside` is answered if and only if it isn't. After a
-- refusal, and out of memory, all is as before.
abbrev pub LineEnds : {A : Type 0} → SeenMirror → Bytes → Result A MirrorRefusal → SeenMirror → Type 0
LineEnds old bytes (Ok u) new = Follows old.name old.held bytes new.held × (new.name ≡ old.name)
LineEnds old bytes (Err Outside) new = IsOutside old.name old.held bytes × (new ≡ old)
LineEnds old bytes (Err NoMem) new = new ≡ old

-- A text is appended whole; or out of memory all is as before.
abbrev pub AppendsOrKeeps : {A E : Type 0} → Bytes → Bytes → Result A E → Bytes → Type 0
AppendsOrKeeps old text (Ok a) new = new ≡ old ++ text
AppendsOrKeeps old text (Err e) new = new ≡ old

-- A text is appended whole; or out of memory some bytes follow what was there.
abbrev pub AppendsText : {A E : Type 0} → Bytes → Bytes → Result A E → Bytes → Type 0
AppendsText old text (Ok a) new = new ≡ old ++ text
AppendsText old text (Err e) new = take (length old) new ≡ old
