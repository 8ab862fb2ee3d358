-- Trees of labels below a fixed root label, and how they are turned.
use Rattle.std.specs.Prelude.{◌≡◌, ◌⊎◌, ℕ, ◌<◌, true, List, [], ◌∷◌, refl, ◌++◌}
use Rattle.std.proofs.Common.{sym, ap, ◌∙◌, arith, inl, inr}
use Rattle.std.proofs.lemmas.Bool.{cases_Bool, cases_lt}
use Rattle.djq_hypergraph.specs.Hypergraph.{member, subset, difference, degree}
use Rattle.djq_hypergraph.proofs.Sets.{has_bit, Sub, one_le, subset_says, has_difference}
use Rattle.djq_hypergraph.proofs.Labels.{labels, two_heads, same_item, out_of, out_same, times_append, count, Same}
use Rattle.djq_hypergraph.proofs.Labels.{count_self, degree_same, outside, degree_append}

-- ---- Trees of labels below a fixed root label, and what the steps of a reduction do to them. The root is the empty
-- label for acyclic hypergraphs, and the head for free-connex queries.

-- e may hang on f: f is the root or among the labels, and has what e shares with them
pub record Hangs (F : List ℕ) (L : List (List ℕ)) (e f : List ℕ) : Type 0 where
  pub stands : 0 < count f (F ∷ L)
  pub keeps : (x : ℕ) → 0 < has_bit x e → 0 < degree x (F ∷ L) → 0 < has_bit x f

-- each label hangs on the root or on one behind it
abbrev pub Tree : List ℕ → List (List ℕ) → Type 0
Tree F [] = Unit {0}
Tree F (e ∷ L) = (f : List ℕ) × Hangs F L e f × Tree F L

-- in some order, the labels are a tree below F
pub record Rooted (F : List ℕ) (E : List (List ℕ)) : Type 0 where
  pub order : List (List ℕ)
  pub those : Same order E
  pub tree : Tree F order

pub rooted_same : (F : List ℕ) (E D : List (List ℕ)) → Same E D → Rooted F E → Rooted F D
rooted_same F E D h r = record
    { order = r.order; those = λ a. let p = r.those a in let q = h a in omega arith; tree = r.tree }

-- one more label is hung on
pub hung_on : (F g f : List ℕ) (E N : List (List ℕ)) → Rooted F N → Same E (g ∷ N) → 0 < count f (F ∷ N)
    → ((x : ℕ) → 0 < has_bit x g → 0 < degree x (F ∷ N) → 0 < has_bit x f) → Rooted F E
hung_on F g f E N r here stands keep =
    record {
      order = g ∷ r.order;
      those = λ a. let p = r.those a in let q = here a in omega arith;
      tree = (
        f,
        record {
          stands = let p = r.those f in omega arith;
          keeps = λ x within below. let q = degree_same x r.order N r.those in keep x within (omega arith);
        },
        r.tree,
      );
    }

-- labels that lie in the root all hang on it
pub all_plugged : (F : List ℕ) (L : List (List ℕ)) → ((a : List ℕ) → 0 < count a L → Sub a F) → Rooted F L
all_plugged F [] h = record { order = []; those = λ a. refl; tree = tt }
all_plugged F (e ∷ L) h =
    hung_on F e F (e ∷ L) L (all_plugged F L (λ a m. h a (omega arith))) (λ a. refl) (count_self F L)
    (λ x within below. let q = h e (count_self e L) x in omega arith)

-- a label gives way to one with the same of the others' variables
pub replaced : (F : List ℕ) (L : List (List ℕ)) (e : List ℕ) (E : List (List ℕ)) (g : List ℕ) → Tree F L
    → Same L (e ∷ E) → ((x : ℕ) → 0 < degree x (F ∷ E) → has_bit x e ≡ has_bit x g) → Rooted F (g ∷ E)
replaced F [] e E g t h agree = absurd (omega (arith, h e, count_self e E))
replaced F (a ∷ L) e E g t h agree =
    elim (two_heads labels a e L E h) [
      | inl p ↦
          let those : Same L E = p.1 in
          let rest : Rooted F E = record { order = L; those = those; tree = t.2 } in
          hung_on F g t.0 (g ∷ E) E rest (λ d. refl) (let s = those t.0 in let w = t.1.stands in omega arith)
          (λ x within below.
          let q = agree x below in
          let w : has_bit x a ≡ has_bit x e = ap (λ (z : List ℕ). has_bit x z) p.0 in
          let j = degree_same x L E those in
          t.1.keeps x (omega arith) (omega arith))
      | inr n ↦
          let lies = λ (x : ℕ). degree_same x E (a ∷ n.rest) n.right in
          let lies_left = λ (x : ℕ). degree_same x L (e ∷ n.rest) n.left in
          let r : Rooted F (g ∷ n.rest) = replaced F L e n.rest g t.2 n.left
          (λ x below. let j = lies x in agree x (omega arith)) in
          let here : Same (g ∷ E) (a ∷ g ∷ n.rest) = λ d. let q = n.right d in omega arith in
          elim (cases_lt 0 (count t.0 (F ∷ n.rest))) [
            | inl c ↦
                hung_on F a t.0 (g ∷ E) (g ∷ n.rest) r here (omega arith)
                (λ x within below.
                let j = lies x in
                let k = lies_left x in
                let q = agree x (omega arith) in
                t.1.keeps x within (omega arith))
            | inr c ↦
                let w = t.1.stands in
                let j = n.left t.0 in
                let same : t.0 ≡ e = same_item labels t.0 e (omega arith) in
                hung_on F a g (g ∷ E) (g ∷ n.rest) r here (let s = count_self g n.rest in omega arith)
                (λ x within below.
                let j = lies x in
                let k = lies_left x in
                let q = agree x (omega arith) in
                let s : has_bit x t.0 ≡ has_bit x e = ap (λ (z : List ℕ). has_bit x z) same in
                let m = t.1.keeps x within (omega arith) in
                omega arith)
          ]
    ]

-- a label that lies within the root or within another label is taken out
pub deleted : (F : List ℕ) (L : List (List ℕ)) (e : List ℕ) (E : List (List ℕ)) (g : List ℕ) → Tree F L → Same L (e ∷ E)
    → Sub e g → 0 < count g (F ∷ E) → Rooted F E
deleted F [] e E g t h inside there = absurd (omega (arith, h e, count_self e E))
deleted F (a ∷ L) e E g t h inside there =
    elim (two_heads labels a e L E h) [
      | inl p ↦ record { order = L; those = p.1; tree = t.2 }
      | inr n ↦
          let lies = λ (x : ℕ). degree_same x L (e ∷ n.rest) n.left in
          elim (cases_lt 0 (count g (F ∷ n.rest))) [
            | inl c ↦
                let r = deleted F L e n.rest g t.2 n.left inside c in
                elim (cases_lt 0 (count t.0 (F ∷ n.rest))) [
                  | inl d ↦ hung_on F a t.0 E n.rest r n.right d
                      (λ x within below. let j = lies x in t.1.keeps x within (omega arith))
                  | inr d ↦
                      let w = t.1.stands in
                      let j = n.left t.0 in
                      let same : t.0 ≡ e = same_item labels t.0 e (omega arith) in
                      hung_on F a g E n.rest r n.right c
                      (λ x within below.
                      let j = lies x in
                      let s : has_bit x t.0 ≡ has_bit x e = ap (λ (z : List ℕ). has_bit x z) same in
                      let m = t.1.keeps x within (omega arith) in
                      let i = inside x in
                      omega arith)
                ]
            | inr c ↦
                let j = n.right g in
                let g_a : g ≡ a = same_item labels g a (omega arith) in
                let e_f : Sub e t.0 =
                λ x.
                let k = lies x in
                let s : has_bit x g ≡ has_bit x a = ap (λ (z : List ℕ). has_bit x z) g_a in
                let i = inside x in
                grind (arith, t.1.keeps x, one_le (member x e)) in
                elim (cases_lt 0 (count t.0 (F ∷ n.rest))) [
                  | inl d ↦
                      hung_on F a t.0 E n.rest (deleted F L e n.rest t.0 t.2 n.left e_f d) n.right d
                      (λ x within below. let k = lies x in t.1.keeps x within (omega arith))
                  | inr d ↦
                      let w = t.1.stands in
                      let k = n.left t.0 in
                      let same : t.0 ≡ e = same_item labels t.0 e (omega arith) in
                      rooted_same F (a ∷ n.rest) E (λ l. let q = n.right l in omega arith)
                      (replaced F L e n.rest a t.2 n.left
                      (λ x below.
                      let k = lies x in
                      let s : has_bit x t.0 ≡ has_bit x e = ap (λ (z : List ℕ). has_bit x z) same in
                      let s' : has_bit x g ≡ has_bit x a = ap (λ (z : List ℕ). has_bit x z) g_a in
                      let i = inside x in
                      grind (arith, t.1.keeps x, one_le (member x a), one_le (member x e))))
                ]
          ]
    ]

-- a label has a variable of its own, which the root lacks too
pub record Own (F : List ℕ) (E : List (List ℕ)) : Type 0 where
  pub label : List ℕ
  pub rest : List (List ℕ)
  pub var : ℕ
  pub here : Same E (label ∷ rest)
  pub within : 0 < has_bit var label
  pub alone : degree var (F ∷ rest) ≡ 0

-- a label lies within another one
pub record Inner (E : List (List ℕ)) : Type 0 where
  pub label : List ℕ
  pub over : List ℕ
  pub rest : List (List ℕ)
  pub here : Same E (label ∷ rest)
  pub there : 0 < count over rest
  pub inside : Sub label over

-- a tree has a step unless all its labels lie in the root
pub progress : (F : List ℕ) (L : List (List ℕ)) → Tree F L
    → ((a : List ℕ) → 0 < count a L → Sub a F) ⊎ (Own F L ⊎ Inner L)
progress F [] t = inl (λ a m. absurd (omega arith))
progress F (e ∷ L) t =
    elim (cases_Bool (subset e F)) [
      | inl in_root ↦
          let e_F = subset_says e F in_root in
          elim (progress F L t.2) [
            | inl all ↦
                inl (λ a m. elim (cases_lt 0 (count a L)) [
                  | inl c ↦ all a c
                  | inr c ↦
                      let same : a ≡ e = same_item labels a e (omega arith) in
                      λ x. let s : has_bit x a
                      ≡ has_bit x e = ap (λ (z : List ℕ). has_bit x z) same in let q = e_F x in omega arith
                ])
            | inr step ↦
                elim step [
                  | inl own ↦
                      inr (inl (record {
                        label = own.label;
                        rest = e ∷ own.rest;
                        var = own.var;
                        here = λ a. let q = own.here a in omega arith;
                        within = own.within;
                        alone = let q = own.alone in let p = e_F own.var in omega arith;
                      }))
                  | inr inner ↦
                      inr (inr (record {
                        label = inner.label;
                        over = inner.over;
                        rest = e ∷ inner.rest;
                        here = λ a. let q = inner.here a in omega arith;
                        there = let q = inner.there in omega arith;
                        inside = inner.inside;
                      }))
                ]
          ]
      | inr out_root ↦
          elim (cases_Bool (subset e t.0)) [
            | inl in_f ↦
                inr (inr (record {
                  label = e;
                  over = t.0;
                  rest = L;
                  here = λ a. refl;
                  there = elim (cases_lt 0 (count t.0 L)) [
                    | inl c ↦ c
                    | inr c ↦
                        let w = t.1.stands in
                        let same : t.0 ≡ F = same_item labels t.0 F (omega arith) in
                        let in_root : subset e F ≡ true = ap (λ (z : List ℕ). subset e z) (sym same) ∙ in_f in
                        absurd cc
                  ];
                  inside = subset_says e t.0 in_f;
                }))
            | inr out_f ↦
                let o = outside e t.0 out_f in
                inr (inl (record {
                  label = e;
                  rest = L;
                  var = o.var;
                  here = λ a. refl;
                  within = o.within;
                  alone = elim (cases_lt 0 (degree o.var (F ∷ L))) [
                    | inl c ↦ absurd (let q = t.1.keeps o.var o.within c in let p = o.without in omega arith)
                    | inr c ↦ omega arith
                  ];
                }))
          ]
    ]

-- ---- the steps, both ways

pub trimmed : (F e X : List ℕ) (N : List (List ℕ)) → ((x : ℕ) → 0 < has_bit x X → degree x (F ∷ N) ≡ 0)
    → Rooted F (e ∷ N)
    → Rooted F (difference e X ∷ N)
trimmed F e X N own r =
    replaced F r.order e N (difference e X) r.tree r.those
    (λ x below. let w = has_difference x e X in grind (arith, own x, one_le (member x e)))

pub untrimmed : (F e X : List ℕ) (N : List (List ℕ)) → ((x : ℕ) → 0 < has_bit x X → degree x (F ∷ N) ≡ 0)
    → Rooted F (difference e X ∷ N) → Rooted F (e ∷ N)
untrimmed F e X N own r =
    replaced F r.order (difference e X) N e r.tree r.those
    (λ x below. let w = has_difference x e X in grind (arith, own x, one_le (member x e)))

pub dropped : (F s g : List ℕ) (N : List (List ℕ)) → 0 < count g N → Sub s g → Rooted F (s ∷ N) → Rooted F N
dropped F s g N there inside r = deleted F r.order s N g r.tree r.those inside (omega arith)

pub undropped : (F s g : List ℕ) (N : List (List ℕ)) → 0 < count g N → Sub s g → Rooted F N → Rooted F (s ∷ N)
undropped F s g N there inside r =
    hung_on F s g (s ∷ N) N r (λ a. refl) (omega arith) (λ x within below. let q = inside x in omega arith)

-- ---- A tree that has a label can be turned so that this label is its root.

-- a tree below the empty root, below a root that shares no variable with it
pub hang : (F : List ℕ) (L : List (List ℕ)) → Tree [] L → ((x : ℕ) → 0 < has_bit x F → degree x L ≡ 0) → Tree F L
hang F [] t apart = tt
hang F (e ∷ L) t apart =
    let rest : Tree F L = hang F L t.2 (λ x within. let q = apart x within in omega arith) in
    elim (cases_lt 0 (count t.0 L)) [
      | inl c ↦ (
        t.0,
        record { stands = omega arith; keeps = λ x within below. grind (arith, apart x, t.1.keeps x) },
        rest,
      )
      | inr c ↦
          let w = t.1.stands in
          let none : t.0 ≡ [] = same_item labels t.0 [] (omega arith) in (
            F,
            record {
              stands = count_self F L;
              keeps = λ x within below.
                  let s : has_bit x t.0 ≡ 0 = ap (λ (z : List ℕ). has_bit x z) none in
                  grind (arith, apart x, t.1.keeps x);
            },
            rest,
          )
    ]

-- the root becomes a label below a new one
pub appended : (F f : List ℕ) (L : List (List ℕ)) → Tree f L
    → ((x : ℕ) → 0 < has_bit x F → 0 < degree x (f ∷ L) → 0 < has_bit x f) → Tree F (L ++ f ∷ [])
appended F f [] t shared = (F, record { stands = count_self F []; keeps = λ x within below. omega arith }, tt)
appended F f (e ∷ L) t shared =
    let rest : Tree F (L ++ f ∷ []) = appended F f L t.2 (λ x within below. shared x within (omega arith)) in (
      t.0,
      record {
        stands = let w = t.1.stands in let q = times_append labels t.0 L (f ∷ []) in omega arith;
        keeps = λ x within below.
            let q = degree_append x L (f ∷ []) in
            grind (arith, shared x, t.1.keeps x);
      },
      rest,
    )

reroot : (L : List (List ℕ)) (F : List ℕ) (E : List (List ℕ)) → Tree [] L → Same L (F ∷ E) → Rooted F E
reroot [] F E t h = absurd (omega (arith, h F, count_self F E))
reroot (g ∷ L) F E t h =
    elim (two_heads labels g F L E h) [
      | inl p ↦
          let those : Same L E = p.1 in
          let g_F = λ (x : ℕ). ap (λ (z : List ℕ). has_bit x z) p.0 in
          elim (cases_lt 0 (count t.0 L)) [
            | inl c ↦
                let out = out_same labels t.0 L c in
                let r = reroot L t.0 (out_of labels t.0 L) t.2 out in
                record {
                  order = r.order ++ t.0 ∷ [];
                  those = λ a.
                      let p1 = times_append labels a r.order (t.0 ∷ []) in
                      let p2 = r.those a in
                      let p3 = out a in
                      let p4 = those a in
                      omega arith;
                  tree = appended F t.0 r.order r.tree (λ x within below.
                      let p1 = degree_same x r.order (out_of labels t.0 L) r.those in
                      let p2 = degree_same x L (t.0 ∷ out_of labels t.0 L) out in
                      let p3 = g_F x in
                      t.1.keeps x (omega arith) (omega arith));
                }
            | inr c ↦
                let w = t.1.stands in
                let none : t.0 ≡ [] = same_item labels t.0 [] (omega arith) in
                record {
                  order = L;
                  those = those;
                  tree = hang F L t.2 (λ x within.
                      let s : has_bit x t.0 ≡ 0 = ap (λ (z : List ℕ). has_bit x z) none in
                      let p3 = g_F x in
                      grind (arith, t.1.keeps x));
                }
          ]
      | inr n ↦
          let r = reroot L F n.rest t.2 n.left in
          let lies = λ (x : ℕ). degree_same x L (F ∷ n.rest) n.left in
          elim (cases_lt 0 (count t.0 (F ∷ n.rest))) [
            | inl c ↦ hung_on F g t.0 E n.rest r n.right c
                (λ x within below. let j = lies x in t.1.keeps x within (omega arith))
            | inr c ↦
                let w = t.1.stands in
                let j = n.left t.0 in
                let none : t.0 ≡ [] = same_item labels t.0 [] (omega arith) in
                hung_on F g F E n.rest r n.right (count_self F n.rest)
                (λ x within below.
                let s : has_bit x t.0 ≡ 0 = ap (λ (z : List ℕ). has_bit x z) none in
                let j = lies x in
                let m = t.1.keeps x within (omega arith) in
                omega arith)
          ]
    ]

-- if F followed by the labels is a tree, then the labels are one below F
pub rerooted : (F : List ℕ) (E : List (List ℕ)) → Rooted [] (F ∷ E) → Rooted F E
rerooted F E r = reroot r.order F E r.tree r.those
