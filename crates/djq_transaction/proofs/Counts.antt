-- How many of the rows of a net come, and how many go.
use Rattle.std.specs.Prelude.{ℕ, List, [], ◌∷◌, ◌≡◌, ◌+◌, ◌<◌, ◌≤◌, Bool, cond, length, map, filter, take}
use Rattle.std.specs.Prelude.{slice_index_or}
use Rattle.std.proofs.Common.{refl, sym, ap, ap₂, ◌∙◌}
use Rattle.std.proofs.lemmas.List.{take_all}
use Rattle.std.proofs.lemmas.List.Filters.{length-filter_more}
use Rattle.djq_model.specs.declared.relation.Relation.{Relation}
use Rattle.djq_model.specs.Data.{Bytes}
use Rattle.djq_store_spec.specs.Held.{HeldLine}
use Rattle.djq_transaction.specs.declared.net.Copies.{Copies}
use Rattle.djq_transaction.specs.declared.net.Net.{Net}
use Rattle.djq_store_spec.specs.Lines.{first_lines}
use Rattle.djq_transaction.specs.Net.{copies_by, IsNet}
use Rattle.djq_transaction.proofs.Full.{counted}

pub one_counted : (p : Copies → Bool) (cs : List Copies) (i n m : ℕ) (c d : Copies) (b : Bool) → i < length cs
    → c ≡ slice_index_or cs i d → b ≡ p c → n ≡ length (filter p (take i cs)) → m ≡ n + cond b 1 0
    → m ≡ length (filter p (take (i + 1) cs))
one_counted p cs i n m c d b less is e before more =
    more ∙ ap₂ (λ (k : ℕ) (t : Bool). k + cond t 1 0) before (e ∙ ap p is)
    ∙ sym (length-filter_more p cs i d less)

filter_mapped : (p : Copies → Bool) (f : HeldLine → Copies) (hs : List HeldLine)
    → length (filter p (map f hs)) ≡ length (filter (λ h. p (f h)) hs)
filter_mapped p f [] = refl
filter_mapped p f (h ∷ hs) = counted (p (f h)) (f h) (filter p (map f hs))
    ∙ ap (λ (n : ℕ). cond (p (f h)) 1 0 + n) (filter_mapped p f hs)
    ∙ sym (counted (p (f h)) h (filter (λ (g : HeldLine). p (f g)) hs))

pub all_counted : (p : Copies → Bool) (relations : List Relation) (texts : List Bytes) (width : ℕ)
    (lines : List HeldLine) (net : Net) (i n : ℕ) → length net.copies.items ≤ i
    → n ≡ length (filter p (take i net.copies.items)) → IsNet relations texts width lines net
    → n ≡ length (filter (λ h. p (copies_by relations lines h)) (first_lines lines))
all_counted p relations texts width lines net i n high is r =
    is ∙ ap (λ (cs : List Copies). length (filter p cs)) (take_all i net.copies.items high ∙ r.copies)
    ∙ filter_mapped p (copies_by relations lines) (first_lines lines)
