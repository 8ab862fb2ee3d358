-- What each reply line is like that is printed.
use Rattle.std.specs.Prelude.{◌≡◌, ◌≤◌, ◌∷◌, length}
use Rattle.std.specs.List.{flat_map}
use Rattle.djq_model.specs.Data.{Bytes}
use Rattle.djq_protocol.specs.declared.limits.TheConstants.{HEAD_VARIABLES, LINE_BYTES}
use Rattle.djq_protocol.specs.Reply.{line}
use Rattle.djq_mirror.specs.declared.mode.TheConstants.{REPLY_LINE_BYTES}
use Rattle.djq_mirror.specs.Inputs.{HasNoLf}
use Rattle.djq_mirror.specs.Replies.{Reply, answer, changed, cyclic, not_connex, explained, joined}
use Rattle.djq_mirror.specs.Replies.{reply_text, IsPrinted}

-- An answer has no more values than a head has variables, and the edges of a rest have no more bytes
-- than a line may have. Of the lines that explain a tree nothing is stated.
abbrev pub IsShort : Reply → Type 0
IsShort (answer t) = length t ≤ HEAD_VARIABLES
IsShort (changed s q t) = length t ≤ HEAD_VARIABLES
IsShort (cyclic edges) = length (flat_map (λ e. 32 ∷ joined e) edges) ≤ LINE_BYTES
IsShort (not_connex edges) = length (flat_map (λ e. 32 ∷ joined e) edges) ≤ LINE_BYTES
IsShort (explained j node label out) = ⊥
IsShort r = Unit {0}

-- bytes without an LF, and no more of them than a reply line may have, which LF makes a reply's text
pub record IsTheLine (r : Reply) (l : Bytes) : Type 0 where
  pub text : line l ≡ reply_text r
  pub whole : HasNoLf l
  pub short : length l ≤ REPLY_LINE_BYTES

-- A printed reply is a line of its own, and none that is too long.
abbrev pub PrintedAreLines : Type 0
PrintedAreLines = (r : Reply) → IsPrinted r → IsShort r → (l : Bytes) × IsTheLine r l
