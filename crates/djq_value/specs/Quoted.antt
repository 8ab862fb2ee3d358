-- Texts between quotes, byte by byte.
use Rattle.std.specs.Prelude.{◌++◌, [], true, false, Option, None, Some}
use Rattle.djq_model.specs.Data.{Bytes}
use Rattle.djq_value.specs.Token.{in_text, text_in}
use Rattle.djq_value.specs.declared.quoted.Step.{Step}
use Rattle.djq_value.specs.declared.quoted.Step.TheVariants.{End, Backslash, Byte, Bad}

-- what a byte of a text does to what is read after it
abbrev pub stepped : Step → Bytes → Option (Bytes × Bytes)
stepped End bs = Some ([], bs)
stepped Backslash bs = text_in true bs
stepped (Byte b) bs = in_text (Some b) (text_in false bs)
stepped Bad bs = None

-- bytes of a text in front of what is read after them
abbrev pub put_front : Bytes → Option (Bytes × Bytes) → Option (Bytes × Bytes)
put_front read None = None
put_front read (Some r) = Some (read ++ r.0, r.1)
