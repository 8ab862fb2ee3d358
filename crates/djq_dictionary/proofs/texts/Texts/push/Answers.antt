-- The new end is where the buffer now ends, so the old texts are cut as before and the new one is last.
use Rattle.std.proofs.Common.{◌≡◌, ◌+◌, List, ℕ, [], ◌∷◌, ◌++◌, length, ◌∙◌, ap, rules}
use Rattle.std.proofs.lemmas.List.{length-append}
use Rattle.djq_dictionary.proofs.Dictionary.{pieces-push, cut-push}
use Rattle.djq_dictionary.proofs.texts.Texts.push.Goals as goal

pub invariant_of-self : goal.invariant_of-self
invariant_of-self c =
    let t = c.self.inside in
    let bytes : c.extend_from_slice.new.self.items ≡ t.bytes.items ++ c.args.text.now = search rules in
    let ends : c.push.new.self.items ≡ t.ends.items ++ c.len.result ∷ [] = search rules in
    let total : c.len.result ≡ length t.bytes.items + length c.args.text.now = c.len.ensures
    ∙ c.extend_from_slice.new.self.ok.0 ∙ ap (λ (l : List ℕ). length l) bytes
    ∙ length-append t.bytes.items c.args.text.now in
    let size : length (t.bytes.items ++ c.args.text.now)
    ≡ length t.bytes.items + length c.args.text.now = length-append t.bytes.items c.args.text.now in
    rw (ends, bytes, total, size)
    (cut-push 0 t.ends.items (length t.bytes.items) (length c.args.text.now) c.self.invariant)

pub returns : goal.returns
returns c =
    let t = c.self.inside in
    let bytes : c.extend_from_slice.new.self.items ≡ t.bytes.items ++ c.args.text.now = search rules in
    let ends : c.push.new.self.items ≡ t.ends.items ++ c.len.result ∷ [] = search rules in
    let total : c.len.result ≡ length t.bytes.items + length c.args.text.now = c.len.ensures
    ∙ c.extend_from_slice.new.self.ok.0 ∙ ap (λ (l : List ℕ). length l) bytes
    ∙ length-append t.bytes.items c.args.text.now in
    rw (ends, bytes, total, ← c.self.view_is)
    (pieces-push t.bytes.items c.args.text.now 0 t.ends.items c.self.invariant)
