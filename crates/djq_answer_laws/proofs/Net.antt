-- What came and what went, settled, is the delta; and what the members of a union agree on is its delta.
use Rattle.std.specs.Prelude.{List, [], ◌∷◌, ◌++◌, ◌≡◌, ◌⊎◌, Any, Contains, map}
use Rattle.std.proofs.Common.{refl, sym, subst, inl, inr}
use Rattle.std.proofs.lemmas.List.Elements.{All-contains, Contains-append_left, Contains-append_right}
use Rattle.std.proofs.lemmas.List.Elements.{Contains-append_cases}
use Rattle.djq_model.specs.declared.relation.Relation.{Relation}
use Rattle.djq_model.specs.declared.query.Query.{Query}
use Rattle.djq_model.specs.Data.{Tuple}
use Rattle.djq_model.specs.Answer.{IsAnswer}
use Rattle.djq_model.specs.Listed.{Listed, AnswersOf}
use Rattle.djq_protocol.specs.declared.answer.Sign.{Sign}
use Rattle.djq_protocol.specs.declared.answer.Sign.TheVariants.{Came, Went}
use Rattle.djq_store_spec.specs.Delta.{Change, HasChanged, IsDelta}
use Rattle.djq_store_spec.specs.DeltaCost.{Part}
use Rattle.djq_answer_laws.specs.Growing.{HaveRows}
use Rattle.djq_answer_laws.specs.Net.{opposite_sign, NetDelta, IsMemberDelta, MemberAgrees, IsReportedByMembers, UnionsReport}
use Rattle.djq_answer_laws.proofs.Lists.{nothing_there, first_or_later, first_there, later_there, hold_each, mapped_there}
use Rattle.djq_answer_laws.proofs.Lists.{some_one, one_there}
use Rattle.djq_answer_laws.proofs.Decisions.{query_decided, answers_are_decided}
use Rattle.djq_answer_laws.proofs.Choices.{answer_stays}

-- ---- Rows that come, and then rows that go.

abbrev change : Sign → Tuple → Change
change s t = record { sign = s; answer = t }

-- what one delta says of an answer
said : (B A : Tuple → Type 0) (cs : List Change) (s : Sign) (t : Tuple) → IsDelta B A cs → Contains cs (change s t)
    → HasChanged B A s t
said B A cs s t d h = All-contains (λ (c : Change). HasChanged B A c.sign c.answer) cs (change s t) d.changed h

-- an answer that came, and whose opposite isn't there, came in the whole
from_come : (before between after : List Relation) (q : Listed) → HaveRows before between
    → (gone : List Change) → IsDelta (AnswersOf between q) (AnswersOf after q) gone → (s : Sign) (t : Tuple)
    → HasChanged (AnswersOf before q) (AnswersOf between q) s t → (Contains gone (change (opposite_sign s) t) → ⊥)
    → HasChanged (AnswersOf before q) (AnswersOf after q) s t
from_come before between after q grows gone d Came t h alone = by (answers_are_decided after q t)
  where
    by : AnswersOf after q t ⊎ (AnswersOf after q t → ⊥) → AnswersOf after q t × (AnswersOf before q t → ⊥)
    by (inl is) = (is, h.1)
    by (inr lacks) = absurd (alone (d.complete Went t (h.0, lacks)))
from_come before between after q grows gone d Went t h alone =
    absurd (h.1 (answer_stays before between q t grows h.0))

-- an answer that went, and whose opposite isn't there, went in the whole
from_gone : (before between after : List Relation) (q : Listed) → HaveRows after between
    → (come : List Change) → IsDelta (AnswersOf before q) (AnswersOf between q) come → (s : Sign) (t : Tuple)
    → HasChanged (AnswersOf between q) (AnswersOf after q) s t → (Contains come (change (opposite_sign s) t) → ⊥)
    → HasChanged (AnswersOf before q) (AnswersOf after q) s t
from_gone before between after q grows come d Came t h alone =
    absurd (h.1 (answer_stays after between q t grows h.0))
from_gone before between after q grows come d Went t h alone = by (answers_are_decided before q t)
  where
    by : AnswersOf before q t ⊎ (AnswersOf before q t → ⊥) → AnswersOf before q t × (AnswersOf after q t → ⊥)
    by (inl is) = (is, h.1)
    by (inr lacks) = absurd (alone (d.complete Came t (h.0, lacks)))

pub net_delta : NetDelta
net_delta before between after q grows shrinks come gone new dc dg s = record {
  different = s.different;
  changed = hold_each (λ (c : Change). HasChanged (AnswersOf before q) (AnswersOf after q) c.sign c.answer) new
      (λ c h. by c.sign c.answer (Contains-append_cases come gone c (s.within c h)) (s.alone c h));
  complete = there;
}
  where
    by : (g : Sign) (t : Tuple) → Contains come (change g t) ⊎ Contains gone (change g t)
        → (Contains (come ++ gone) (change (opposite_sign g) t) → ⊥)
        → HasChanged (AnswersOf before q) (AnswersOf after q) g t
    by g t (inl k) alone = from_come before between after q grows gone dg g t
        (said (AnswersOf before q) (AnswersOf between q) come g t dc k)
        (λ o. alone (Contains-append_right come gone (change (opposite_sign g) t) o))
    by g t (inr k) alone = from_gone before between after q shrinks come dc g t
        (said (AnswersOf between q) (AnswersOf after q) gone g t dg k)
        (λ o. alone (Contains-append_left come gone (change (opposite_sign g) t) o))

    -- no opposite of what came in the whole, and none of what went
    no_went : (t : Tuple) → AnswersOf after q t → (AnswersOf before q t → ⊥)
        → Contains come (change Went t) ⊎ Contains gone (change Went t) → ⊥
    no_went t is none (inl k) = none (said (AnswersOf before q) (AnswersOf between q) come Went t dc k).0
    no_went t is none (inr k) = (said (AnswersOf between q) (AnswersOf after q) gone Went t dg k).1 is

    no_came : (t : Tuple) → AnswersOf before q t → (AnswersOf after q t → ⊥)
        → Contains come (change Came t) ⊎ Contains gone (change Came t) → ⊥
    no_came t is none (inl k) = (said (AnswersOf before q) (AnswersOf between q) come Came t dc k).1 is
    no_came t is none (inr k) = none (said (AnswersOf between q) (AnswersOf after q) gone Came t dg k).0

    there : (g : Sign) (t : Tuple) → HasChanged (AnswersOf before q) (AnswersOf after q) g t
        → Contains new (change g t)
    there Came t h = s.complete (change Came t)
        (Contains-append_left come gone (change Came t)
        (dc.complete Came t (answer_stays after between q t shrinks h.0, h.1)))
        (λ o. no_went t h.0 h.1 (Contains-append_cases come gone (change Went t) o))
    there Went t h = s.complete (change Went t)
        (Contains-append_right come gone (change Went t)
        (dg.complete Went t (answer_stays before between q t grows h.0, h.1)))
        (λ o. no_came t h.0 h.1 (Contains-append_cases come gone (change Came t) o))

-- ---- Unions.

abbrev queries : List Part → List Query
queries parts = map (λ (p : Part). p.query) parts

-- an answer of the union is one of a part
of_part : (ps : List Part) (q : Query) → Contains (queries ps) q
    → (p : Part) × Contains ps p × (p.query ≡ q)
of_part [] q k = absurd (nothing_there q k)
of_part (p ∷ ps) q k = step (first_or_later p.query (queries ps) q k) (λ c. of_part ps q c)
  where
    step : (p.query ≡ q) ⊎ Contains (queries ps) q
        → (Contains (queries ps) q → (r : Part) × Contains ps r × (r.query ≡ q))
        → (r : Part) × Contains (p ∷ ps) r × (r.query ≡ q)
    step (inl e) more = (p, first_there p ps p refl, e)
    step (inr c) more = let m = more c in (m.0, later_there p ps m.0 m.1, m.2)

part_has : (relations : List Relation) (parts : List Part) (t : Tuple)
    → Any (λ (q : Query). IsAnswer relations q t) (queries parts)
    → (p : Part) × Contains parts p × IsAnswer relations p.query t
part_has relations parts t h =
    let o = some_one (λ (q : Query). IsAnswer relations q t) (queries parts) h in
    let m = of_part parts o.0 o.1 in
    (m.0, m.1, subst (λ (q : Query). IsAnswer relations q t) (sym m.2) o.2)

union_has : (relations : List Relation) (parts : List Part) (t : Tuple) (p : Part) → Contains parts p
    → IsAnswer relations p.query t → Any (λ (q : Query). IsAnswer relations q t) (queries parts)
union_has relations parts t p k h = one_there (λ (q : Query). IsAnswer relations q t) (queries parts) p.query
    (mapped_there (λ (r : Part). r.query) parts p k) h

pub unions_report : UnionsReport
unions_report before after name parts c are = (to c.sign c.answer, from c.sign c.answer)
  where
    -- what the delta of a part says, and what it has
    says : (p : Part) (s : Sign) (t : Tuple) → Contains parts p → Contains p.changes (change s t)
        → HasChanged (IsAnswer before p.query) (IsAnswer after p.query) s t
    says p s t k h = said (IsAnswer before p.query) (IsAnswer after p.query) p.changes s t
        (All-contains (IsMemberDelta before after) parts p are k) h

    has : (p : Part) (s : Sign) (t : Tuple) → Contains parts p
        → HasChanged (IsAnswer before p.query) (IsAnswer after p.query) s t → Contains p.changes (change s t)
    has p s t k h = (All-contains (IsMemberDelta before after) parts p are k).complete s t h

    -- a part that agrees with what came hadn't it, and one that agrees with what went hasn't it
    hadnt : (p : Part) (t : Tuple) → Contains parts p → MemberAgrees after (change Came t) p
        → IsAnswer before p.query t → ⊥
    hadnt p t k (free, inl stands) b = (says p Came t k stands).1 b
    hadnt p t k (free, inr lacks) b = free (has p Went t k (b, lacks))

    hasnt : (p : Part) (t : Tuple) → Contains parts p → MemberAgrees after (change Went t) p
        → IsAnswer after p.query t → ⊥
    hasnt p t k (free, inl stands) a = (says p Went t k stands).1 a
    hasnt p t k (free, inr lacks) a = lacks a

    to : (s : Sign) (t : Tuple) → IsReportedByMembers after parts (change s t)
        → HasChanged (λ u. Any (λ (q : Query). IsAnswer before q u) (queries parts))
        (λ u. Any (λ (q : Query). IsAnswer after q u) (queries parts)) s t
    to Came t r =
        let o = some_one (λ (p : Part). Contains p.changes (change Came t)) parts r.0 in (
          union_has after parts t o.0 o.1 (says o.0 Came t o.1 o.2).0,
          λ b. let p = part_has before parts t b in
              hadnt p.0 t p.1 (All-contains (MemberAgrees after (change Came t)) parts p.0 r.1 p.1) p.2,
        )
    to Went t r =
        let o = some_one (λ (p : Part). Contains p.changes (change Went t)) parts r.0 in (
          union_has before parts t o.0 o.1 (says o.0 Went t o.1 o.2).0,
          λ a. let p = part_has after parts t a in
              hasnt p.0 t p.1 (All-contains (MemberAgrees after (change Went t)) parts p.0 r.1 p.1) p.2,
        )

    -- where an answer came, each part agrees: it has come there too, or isn't there
    agrees_came : (t : Tuple) → (Any (λ (q : Query). IsAnswer before q t) (queries parts) → ⊥) → (p : Part)
        → Contains parts p → (IsAnswer after p.query t ⊎ (IsAnswer after p.query t → ⊥))
        → MemberAgrees after (change Came t) p
    agrees_came t none p k (inl a) = (
      λ o. none (union_has before parts t p k (says p Went t k o).0),
      inl (has p Came t k (a, λ b. none (union_has before parts t p k b))),
    )
    agrees_came t none p k (inr lacks) = (λ o. none (union_has before parts t p k (says p Went t k o).0), inr lacks)

    from : (s : Sign) (t : Tuple)
        → HasChanged (λ u. Any (λ (q : Query). IsAnswer before q u) (queries parts))
        (λ u. Any (λ (q : Query). IsAnswer after q u) (queries parts)) s t
        → IsReportedByMembers after parts (change s t)
    from Came t h =
        let p = part_has after parts t h.0 in (
          one_there (λ (r : Part). Contains r.changes (change Came t)) parts p.0 p.1
              (has p.0 Came t p.1 (p.2, λ b. h.1 (union_has before parts t p.0 p.1 b))),
          hold_each (MemberAgrees after (change Came t)) parts
              (λ r k. agrees_came t h.1 r k (query_decided after r.query t)),
        )
    from Went t h =
        let p = part_has before parts t h.0 in (
          one_there (λ (r : Part). Contains r.changes (change Went t)) parts p.0 p.1
              (has p.0 Went t p.1 (p.2, λ a. h.1 (union_has after parts t p.0 p.1 a))),
          hold_each (MemberAgrees after (change Went t)) parts
              (λ r k. (
                λ o. h.1 (union_has after parts t r k (says r Came t k o).0),
                inr (λ a. h.1 (union_has after parts t r k a)),
              )),
        )
