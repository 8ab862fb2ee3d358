-- Lines one after another: where they have their places, and where they stop.
use Rattle.std.specs.Prelude.{ℕ, zero, suc, List, [], ◌∷◌, ◌≡◌, ◌+◌, ◌++◌, ◌<◌, ◌≤◌, Bool, true, false, cond, Option}
use Rattle.std.specs.Prelude.{None, Some, Err, length, fold, take, slice_index_or}
use Rattle.std.specs.List.{list_any}
use Rattle.std.specs.Option.{option_or}
use Rattle.std.proofs.Common.{refl, sym, ap, ap₂, ◌∙◌, subst, inl, inr, arith, length-append}
use Rattle.std.proofs.lemmas.Bool.{le-ltb, lt-ltb}
use Rattle.std.proofs.lemmas.List.{append-nil, append_assoc, length-map, length-take, length-take-le}
use Rattle.std.proofs.lemmas.List.Elements.{All-nil}
use Rattle.std.proofs.Math.Nat.{min-le_right}
use Rattle.std.proofs.Math.Seq.{take-suc}
use Rattle.std.proofs.lemmas.List.Sums.{fold-append}
use Rattle.djq_arena.specs.declared.link.TheConstants.{SLOTS}
use Rattle.djq_model.specs.declared.relation.Relation.{Relation}
use Rattle.djq_model.specs.Data.{Bytes, Tuple, relation_of}
use Rattle.djq_model.specs.Known.{knows, learned, all_learned}
use Rattle.djq_model.specs.Typed.{fits}
use Rattle.djq_protocol.specs.declared.limits.TheConstants.{TEXTS}
use Rattle.djq_store_spec.specs.Relations.{FindsNoPlace}
use Rattle.djq_database.specs.Catalog.{relation_at}
use Rattle.djq_database.specs.Cells.{HaveCells}
use Rattle.djq_database.proofs.Cells.{all_grown, grown_longer, learned_longer, all_learned-append}
use Rattle.djq_transaction.specs.declared.key.TheConstants.{KEY_CELLS}
use Rattle.djq_protocol.specs.declared.held.Verb.{Verb}
use Rattle.djq_store_spec.specs.Held.{HeldLine}
use Rattle.djq_transaction.specs.declared.net.Net.{Net}
use Rattle.djq_protocol.specs.declared.held.LineRefusal.{LineRefusal}
use Rattle.djq_protocol.specs.declared.held.RefusedLine.{RefusedLine}
use Rattle.djq_protocol.specs.declared.held.LineRefusal.TheVariants.{Limit, Absent, NoMemory}
use Rattle.djq_transaction.specs.Applied.{IsJudged}
use Rattle.djq_store_spec.specs.Lines.{same_row, with_naming, first_lines}
use Rattle.djq_store_spec.specs.Judging.{texts_added, texts_after, limit_if, texts_refusal, line_refusal, refused_at}
use Rattle.djq_store_spec.specs.Judging.{refusal_behind, lines_refusal, AnswersAs, StopsAtLine, HasItsPlace}
use Rattle.djq_store_spec.specs.Judging.{UnlessMemory, RefusesLines}
use Rattle.djq_transaction.specs.Net.{keys, row_key, line_at, IsNetTable, Suits, SuitsAt, CanBeJudged, IsNet}
use Rattle.djq_transaction.specs.Net.{PassesLine, RefusesLine}
use Rattle.djq_transaction.proofs.NamedRows.{fits_long}

-- ---- the relation of a line

pub suits_at : (relations : List Relation) (h : HeldLine) (at : ℕ) → Suits relations h → at < length relations
    → (relation_at relations at).name ≡ h.relation → relation_of relations h.relation ≡ Some (relation_at relations at)
    → SuitsAt relations h at
suits_at relations h at s below named found = record {
  below = below;
  named = named;
  found = found;
  suits = let e : Some s.relation ≡ Some (relation_at relations at) = sym s.found ∙ found in
      let same : s.relation ≡ relation_at relations at = cc e in
      subst (λ (r : Relation). fits r.types h.row ≡ true) same s.suits;
}

-- a line is that of its row, of the relation at its place
pub line_is : (relations : List Relation) (h : HeldLine) (at : ℕ) (v : Verb) (row : Tuple) → h.verb ≡ v
    → (relation_at relations at).name ≡ h.relation → row ≡ h.row → line_at v relations at row ≡ h
line_is relations h at v row e named is =
    ap₂ (λ (w : Verb) (name : Bytes). record { verb = w; relation = name; row = row }) (sym e) named
    ∙ ap (λ (r : Tuple). record { verb = h.verb; relation = h.relation; row = r }) is

pub can_be_judged : (relations : List Relation) (width : ℕ) (net : Net) (h : HeldLine) (at : ℕ) (v : Verb) (row : Tuple)
    → h.verb ≡ v → Suits relations h → at < length relations → (relation_at relations at).name ≡ h.relation
    → relation_of relations h.relation ≡ Some (relation_at relations at) → row ≡ h.row
    → ((i : ℕ) → i < length relations → 1 + length (relation_at relations i).types ≤ width)
    → width ≤ KEY_CELLS → IsNetTable width net → length (keys net) < SLOTS
    → CanBeJudged relations width net (line_at v relations at row) at
can_be_judged relations width net h at v row e s below named found is wide narrow table few =
    let t = suits_at relations h at s below named found in
    subst (λ (k : HeldLine). CanBeJudged relations width net k at) (sym (line_is relations h at v row e named is))
    (record {
      suits = t;
      wide = omega (arith, fits_long (relation_at relations at).types h.row t.suits, wide at below);
      narrow = narrow;
      table = table;
      few = few;
    })

-- ---- no line, and one line more

pub no_lines : (relations : List Relation) (texts : List Bytes) (width : ℕ) (net : Net) → IsNetTable width net
    → keys net ≡ [] → net.copies.items ≡ [] → IsNet relations texts width [] net
no_lines relations texts width net t none bare = record {
  table = t;
  key = none;
  copies = bare;
  known = All-nil (λ (h : HeldLine). HaveCells texts h.row);
  suit = All-nil (Suits relations);
}

with_short : (firsts : List HeldLine) (h : HeldLine) → length (with_naming firsts h) ≤ length firsts + 1
with_short firsts h = by (list_any (λ (g : HeldLine). same_row g h) firsts)
  where
    by : (b : Bool) → length (cond b firsts (firsts ++ h ∷ [])) ≤ length firsts + 1
    by true = omega arith
    by false = omega (arith, length-append firsts (h ∷ []))

firsts_on : (seen rest : List HeldLine) → length (fold with_naming seen rest) ≤ length seen + length rest
firsts_on seen [] = omega arith
firsts_on seen (h ∷ rest) = omega (arith, with_short seen h, firsts_on (with_naming seen h) rest)

-- there are no more rows than lines
pub few_keys : (relations : List Relation) (texts : List Bytes) (width : ℕ) (lines : List HeldLine) (net : Net)
    → IsNet relations texts width lines net → length (keys net) ≤ length lines
few_keys relations texts width lines net n =
    omega (
      arith,
      ap (λ (ks : List (List ℕ)). length ks) n.key,
      length-map (first_lines lines) (row_key relations texts width),
      firsts_on [] lines,
    )

pub after_more : (texts : List Bytes) (lines : List HeldLine) (h : HeldLine)
    → texts_after texts (lines ++ h ∷ []) ≡ all_learned (texts_after texts lines) (texts_added h)
after_more texts lines h = fold-append (λ known g. all_learned known (texts_added g)) texts lines (h ∷ [])

-- ---- the refusal of the first line that has one

or_assoc : {A : Type 0} (x y z : Option A) → option_or x (option_or y z) ≡ option_or (option_or x y) z
or_assoc None y z = refl
or_assoc (Some x) y z = refl

refusal_append : (relations : List Relation) (texts : List Bytes) (front first rest : List HeldLine)
    → refusal_behind relations texts front (first ++ rest)
    ≡ option_or (refusal_behind relations texts front first) (refusal_behind relations texts (front ++ first) rest)
refusal_append relations texts front [] rest =
    ap (λ (f : List HeldLine). refusal_behind relations texts f rest) (sym (append-nil front))
refusal_append relations texts front (h ∷ first) rest =
    ap (λ (o : Option RefusedLine). option_or (refused_at (length front) (line_refusal relations texts front h)) o)
    (refusal_append relations texts (front ++ h ∷ []) first rest)
    ∙ or_assoc (refused_at (length front) (line_refusal relations texts front h))
    (refusal_behind relations texts (front ++ h ∷ []) first)
    (refusal_behind relations texts ((front ++ h ∷ []) ++ first) rest)
    ∙ ap (λ (f : List HeldLine). option_or (refusal_behind relations texts front (h ∷ first))
    (refusal_behind relations texts f rest)) (append_assoc front (h ∷ []) first)

-- the refusal of lines before which others pass
refusal_after : (relations : List Relation) (texts : List Bytes) (front : List HeldLine) (h : HeldLine)
    (rest : List HeldLine) (o : Option LineRefusal) → lines_refusal relations texts front ≡ None
    → line_refusal relations texts front h ≡ o → lines_refusal relations texts (front ++ h ∷ rest)
    ≡ option_or (refused_at (length front) o) (refusal_behind relations texts (front ++ h ∷ []) rest)
refusal_after relations texts front h rest o passes is =
    refusal_append relations texts [] front (h ∷ rest)
    ∙ ap₂ (λ (a : Option RefusedLine) (b : Option LineRefusal). option_or a
    (option_or (refused_at (length front) b) (refusal_behind relations texts (front ++ h ∷ []) rest))) passes is

pub places_more : (relations : List Relation) (texts : List Bytes) (lines : List HeldLine) (h : HeldLine)
    (known : List Bytes) → lines_refusal relations texts lines ≡ None
    → HasItsPlace relations lines (texts_after texts lines) h known
    → lines_refusal relations texts (lines ++ h ∷ []) ≡ None
places_more relations texts lines h known passes p =
    refusal_after relations texts lines h [] None passes
    (ap₂ (λ (a : Option LineRefusal) (b : Bool). option_or a (limit_if b)) p.passes
    (le-ltb TEXTS (length (all_learned (texts_after texts lines) (texts_added h)))
    (omega (arith, ap (λ (ts : List Bytes). length ts) p.learned, p.few))))

-- a text that finds no place is one more than may be known
one_too_many : (texts new known : List Bytes) → FindsNoPlace texts new known
    → TEXTS < length (all_learned texts new)
one_too_many texts new known f =
    let known_now : List Bytes = learned (all_learned texts f.first) f.next in
    let whole : all_learned texts new ≡ all_learned known_now f.rest =
    ap (λ (ts : List Bytes). all_learned texts ts) f.parts ∙ all_learned-append texts f.first (f.next ∷ f.rest) in
    let longer : length known_now ≡ length (all_learned texts f.first) + 1 =
    learned_longer (all_learned texts f.first) f.next
    (subst (λ (ts : List Bytes). knows ts f.next ≡ false) f.learned f.unknown) in
    omega (
      arith,
      ap (λ (ts : List Bytes). length ts) whole,
      grown_longer known_now (all_learned known_now f.rest) (all_grown known_now f.rest),
      longer,
      ap (λ (ts : List Bytes). length ts) f.learned,
      f.full,
    )

-- lines are refused as the first that has a refusal
pub refused_as : (A : Type 0) (relations : List Relation) (texts : List Bytes) (lines : List HeldLine)
    (known : List Bytes) (r : RefusedLine) → RefusesLines relations texts lines known r
    → AnswersAs {A = A} (lines_refusal relations texts lines) (Err r)
refused_as A relations texts lines known r s = by r.refusal s.stops
  where
    first : (q : LineRefusal) → line_refusal relations texts s.front s.at ≡ Some q
        → lines_refusal relations texts lines ≡ Some (record { at = r.at; refusal = q })
    first q e = ap (λ (ls : List HeldLine). lines_refusal relations texts ls) s.parts
        ∙ refusal_after relations texts s.front s.at s.rest (Some q) s.places e
        ∙ ap (λ (n : ℕ). Some (record { at = n; refusal = q })) (sym s.place)

    by : (q : LineRefusal) → StopsAtLine relations s.front (texts_after texts s.front) s.at known q
        → UnlessMemory q (lines_refusal relations texts lines ≡ Some (record { at = r.at; refusal = q }))
    by Limit (inl row) = first Limit (ap (λ (o : Option LineRefusal). option_or o
        (texts_refusal (texts_after texts s.front) s.at)) row.0)
    by Limit (inr row) = first Limit (ap₂ (λ (o : Option LineRefusal) (b : Bool). option_or o (limit_if b)) row.0
        (lt-ltb TEXTS (length (all_learned (texts_after texts s.front) (texts_added s.at)))
        (one_too_many (texts_after texts s.front) (texts_added s.at) known row.1)))
    by Absent row = first Absent (ap (λ (o : Option LineRefusal). option_or o
        (texts_refusal (texts_after texts s.front) s.at)) row.0)
    by NoMemory row = tt

-- ---- the lines up to a place

cut : {A : Type 0} (xs : List A) (i : ℕ) (d : A) → i < length xs
    → (rest : List A) × (xs ≡ take i xs ++ slice_index_or xs i d ∷ rest)
cut [] i d less = absurd (omega (arith, less))
cut (x ∷ xs) zero d less = (xs, refl)
cut (x ∷ xs) (suc i) d less =
    let c = cut xs i d (omega (arith, less)) in (c.0, ap (λ ys. x ∷ ys) c.1)

pub take_short : (n : ℕ) (lines : List HeldLine) → length (take n lines) ≤ length lines
take_short n lines = omega (arith, length-take n lines, min-le_right n (length lines))

-- what the loop keeps of the lines up to a place
pub record Judged (relations : List Relation) (texts known : List Bytes) (width : ℕ) (lines : List HeldLine) (net : Net)
    : Type 0 where
  pub places : lines_refusal relations texts lines ≡ None
  pub learned : known ≡ texts_after texts lines
  pub net_is : IsNet relations known width lines net

pub take_one_more : (lines : List HeldLine) (at : ℕ) (h d : HeldLine) → at < length lines
    → h ≡ slice_index_or lines at d → take (at + 1) lines ≡ take at lines ++ h ∷ []
take_one_more lines at h d less is =
    let next : at + 1 ≡ suc at = omega arith in
    ap (λ (n : ℕ). take n lines) next ∙ take-suc lines at d less
    ∙ ap (λ (k : HeldLine). take at lines ++ k ∷ []) (sym is)

pub stops_lines : (relations : List Relation) (texts known new : List Bytes) (width : ℕ) (lines : List HeldLine)
    (at : ℕ) (h d : HeldLine) (net : Net) (r : LineRefusal) → at < length lines → h ≡ slice_index_or lines at d
    → Judged relations texts known width (take at lines) net → RefusesLine relations known width net h new r
    → RefusesLines relations texts lines new (record { at = at; refusal = r })
stops_lines relations texts known new width lines at h d net r less is j refuses =
    let c = cut lines at d less in
    record {
      front = take at lines;
      at = h;
      rest = c.0;
      parts = c.1 ∙ ap (λ (k : HeldLine). take at lines ++ k ∷ c.0) (sym is);
      place = sym (length-take-le at lines (omega (arith, less)));
      places = j.places;
      stops = subst (λ (ts : List Bytes). StopsAtLine relations (take at lines) ts h new r) j.learned
          (refuses (take at lines) j.net_is);
    }

pub judged_more : (relations : List Relation) (texts known new : List Bytes) (width : ℕ) (lines : List HeldLine)
    (h : HeldLine) (old net : Net) → Judged relations texts known width lines old
    → PassesLine relations known width old h new net → Judged relations texts new width (lines ++ h ∷ []) net
judged_more relations texts known new width lines h old net j passes =
    let n = passes lines j.net_is in
    let q : HasItsPlace relations lines (texts_after texts lines) h new =
    subst (λ (ts : List Bytes). HasItsPlace relations lines ts h new) j.learned n.1 in
    record {
      places = places_more relations texts lines h new j.places q;
      learned = q.learned ∙ sym (after_more texts lines h);
      net_is = n.0;
    }

-- what was judged, by its net
pub judged_net : (relations : List Relation) (texts known : List Bytes) (width : ℕ) (lines : List HeldLine) (net : Net)
    → lines_refusal relations texts lines ≡ None → IsNet relations known width lines net
    → IsJudged relations known lines net
judged_net relations texts known width lines net passed n = record {
  rows = subst (λ (w : ℕ). IsNet relations known w lines net) (sym n.table.wide) n;
  before = texts;
  passed = passed;
}
