-- Settled lines, read as changes.
use Rattle.std.proofs.Common.{arith, ◌≡◌, ◌<◌, ◌∙◌, ap, sym, refl, subst, length, map, Bool, true, false, not, List, [], ℕ}
use Rattle.std.specs.Prelude.{if◌then◌else◌}
use Rattle.std.specs.List.{Contains}
use Rattle.std.proofs.lemmas.List.{get_or-map, length-map}
use Rattle.std.proofs.lemmas.List.Elements.{Contains-get_or}
use Rattle.std.proofs.Math.ListN.{get_or}
use Rattle.djq_model.specs.Data.{Tuple}
use Rattle.djq_protocol.specs.declared.answer.Sign.{Sign}
use Rattle.djq_protocol.specs.declared.answer.Sign.TheVariants.{Came, Went}
use Rattle.djq_store_spec.specs.Delta.{Change}
use Rattle.djq_answer_laws.specs.Net.{CancelsOut, opposite, opposite_sign}
use Rattle.djq_delta.specs.Lines.{SignedLine, reversed, SettlesTo}
use Rattle.djq_delta_laws.specs.Changes.{line_change, AreToldApart}

abbrev change : Sign → Tuple → Change
change sign answer = record { sign = sign; answer = answer }

abbrev signed : Bool → List ℕ → SignedLine
signed came cells = record { came = came; cells = cells }

other_sign : (b : Bool) → opposite_sign (if b then Came else Went) ≡ (if not b then Came else Went)
other_sign true = refl
other_sign false = refl

same_sign : (a b : Bool) → (if a then Came else Went) ≡ (if b then Came else Went) → a ≡ b
same_sign true true e = refl
same_sign true false e = cc e
same_sign false true e = cc e
same_sign false false e = refl

module _ (tuple : List ℕ → Tuple) where
  -- opposite lines are opposite changes
  read_reversed : (l : SignedLine) → opposite (line_change tuple l) ≡ line_change tuple (reversed l)
  read_reversed l = ap (λ (s : Sign). change s (tuple l.cells)) (other_sign l.came)

  in_read : (ls : List SignedLine) (l : SignedLine) (c : Change) → line_change tuple l ≡ c → Contains ls l → Contains (map (line_change tuple) ls) c
  in_read ls l c e there = subst (Contains (map (line_change tuple) ls)) e (
    there.0,
    omega (arith, there.1, length-map ls (line_change tuple)),
    get_or-map (line_change tuple) ls there.0 l (line_change tuple l) there.1 ∙ ap (line_change tuple) there.2,
  )

  from_read : (ls : List SignedLine) (c : Change) → Contains (map (line_change tuple) ls) c → (l : SignedLine) × Contains ls l × (line_change tuple l ≡ c)
  from_read ls c there =
      let within : there.0 < length ls = omega (arith, there.1, length-map ls (line_change tuple)) in
      let none : SignedLine = signed true [] in
      (get_or ls there.0 none, Contains-get_or ls there.0 none within, sym (get_or-map (line_change tuple) ls there.0 none c within) ∙ there.2)

  pub cancel_out : (old new : List SignedLine) → AreToldApart tuple old → SettlesTo old new
      → CancelsOut (map (line_change tuple) old) (map (line_change tuple) new)
  cancel_out old new apart h =
      let none : SignedLine = signed true [] in
      let cells = λ (l : SignedLine). l.cells in
      let answer = λ (c : Change). c.answer in
      record {
        different = λ i j d below within e.
            let last : j < length new = omega (arith, within, length-map (map (line_change tuple) new) answer, length-map new (line_change tuple)) in
            let first : i < length new = omega arith in
            let k : SignedLine = get_or new i none in
            let l : SignedLine = get_or new j none in
            let read = λ (n : ℕ) (m : n < length new).
            get_or-map answer (map (line_change tuple) new) n (line_change tuple none) d (omega (arith, m, length-map new (line_change tuple)))
            ∙ ap answer (get_or-map (line_change tuple) new n none (line_change tuple none) m) in
            let same : k.cells ≡ l.cells = apart k l (h.within k (Contains-get_or new i none first)) (h.within l (Contains-get_or new j none last))
            (sym (read i first) ∙ e ∙ read j last) in
            h.different i j [] below (omega (arith, last, length-map new cells))
            (get_or-map cells new i none [] first ∙ same ∙ sym (get_or-map cells new j none [] last));
        within = λ c there. let f = from_read new c there in in_read old f.0 c f.2 (h.within f.0 f.1);
        alone = λ c there back.
            let f = from_read new c there in
            let g = from_read old (opposite c) back in
            let read : line_change tuple g.0 ≡ line_change tuple (reversed f.0) = g.2 ∙ ap opposite (sym f.2) ∙ read_reversed f.0 in
            let same : g.0.cells ≡ f.0.cells = apart g.0 f.0 g.1 (h.within f.0 f.1) (ap answer read) in
            let sign : g.0.came ≡ not f.0.came = same_sign g.0.came (not f.0.came) (ap (λ (c : Change). c.sign) read) in
            h.alone f.0 f.1 (subst (Contains old) (ap (λ (b : Bool). signed b g.0.cells) sign ∙ ap (λ (s : List ℕ). signed (not f.0.came) s) same) g.1);
        complete = λ c there lone.
            let f = from_read old c there in
            in_read new f.0 c f.2 (h.complete f.0 f.1 (λ back. lone (in_read old (reversed f.0) (opposite c) (sym (read_reversed f.0) ∙ ap opposite f.2) back)));
      }
