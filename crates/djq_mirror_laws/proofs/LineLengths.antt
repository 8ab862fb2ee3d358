-- What is left of a hypergraph is printed, and no longer than the line of its query.
use Rattle.std.specs.Prelude.{ℕ, zero, suc, List, [], ◌∷◌, ◌++◌, ◌==◌, ◌≡◌, ◌<◌, ◌≤◌, ◌+◌, ◌⊎◌, ◌||◌, Bool, true, false}
use Rattle.std.specs.Prelude.{cond, not, length, filter, slice_set, remove, AllPairs, Contains, All, Option, None, Some}
use Rattle.std.specs.Prelude.{◌&&◌, ◌≢◌, nat_lt, map, codes, get_or}
use Rattle.std.proofs.Common.{refl, sym, ap, ◌∙◌, subst, inl, inr, arith, append_assoc, append-nil}
use Rattle.std.proofs.lemmas.Bool.{eqb-true, ltb-true}
use Rattle.std.proofs.lemmas.List.Elements.{All-nil, All-cons, All-head, All-tail, All-weaker, All-filter, All-push}
use Rattle.std.proofs.lemmas.List.Elements.{All-contains}
use Rattle.std.proofs.lemmas.List.Kept.{AllPairs-filter}
use Rattle.std.specs.List.{AllZip, list_all, flat_map, fold}
use Rattle.std.proofs.lemmas.List.{length-append}
use Rattle.std.proofs.lemmas.List.Recursion.{is_position_or_len}
use Rattle.djq_hypergraph.specs.declared.step.Step.{Step}
use Rattle.djq_hypergraph.specs.declared.step.Step.TheVariants.{Vertex, Edge}
use Rattle.djq_hypergraph.specs.Hypergraph.{member, difference, edge_at, numbers_below, set_below, subset, degree, one}
use Rattle.djq_hypergraph.specs.Gyo.{reduced, Leads, IsRest}
use Rattle.djq_hypergraph.specs.Naming.{name_at}
use Rattle.djq_model.specs.declared.query.Term.{Term}
use Rattle.djq_model.specs.declared.query.Term.TheVariants.{Variable, Hole, Constant}
use Rattle.djq_model.specs.declared.query.Atom.{Atom}
use Rattle.djq_model.specs.declared.query.Query.{Query}
use Rattle.djq_model.specs.Data.{Bytes}
use Rattle.djq_model.specs.Equality.{bytes_eq-decides}
use Rattle.djq_value.specs.Token.{Token, comma, arrow}
use Rattle.djq_value.specs.Spelling.{IsSpelling, token_text}
use Rattle.djq_value.specs.Literal.{IsName}
use Rattle.djq_protocol.specs.declared.command.Command.TheVariants.{Query as Register}
use Rattle.djq_protocol.specs.declared.limits.TheConstants.{LINE_BYTES}
use Rattle.djq_protocol.specs.declared.rest.NamedRest.{NamedRest}
use Rattle.djq_protocol.specs.Grammar.{Item, atom, comparison, past_item}
use Rattle.djq_protocol.specs.Line.{too_long, a_line, before_lf, behind_lf, without_cr, line_or_dry, is_long, front_of}
use Rattle.djq_protocol.specs.Hypergraph.{number_of, numbers_in, edges_from, edges_of, head_of, label_name}
use Rattle.djq_protocol.specs.Hypergraph.{variable_names}
use Rattle.djq_protocol.specs.Rest.{is_before, IsNamedRest}
use Rattle.djq_protocol.specs.Variables.{Label, is_named, is_known, with_term, with_terms, with_atom, variables_of}
use Rattle.djq_mirror.specs.Replies.{joined, is_printed_variable, is_label, is_edge, is_rest}
use Rattle.djq_parser.specs.Saying.{SaysCommand, SaysAtom, SaysItem, SaysItems, SaysName, SaysTerm, list_tokens}
use Rattle.djq_parser.specs.Saying.{more_tokens, atoms_among}
use Rattle.djq_answer_laws.proofs.Lists.{nothing_there, first_or_later, first_there, later_there, pairs_head}
use Rattle.djq_answer_laws.proofs.Lists.{pairs_tail, pairs_join, hold_each}
use Rattle.djq_run_laws.proofs.TakenLines.{short_line}
use Rattle.djq_mirror_laws.specs.Sayable.{IsSayableTerm, IsSayableAtom, IsSayableQuery}

-- ---- What is left of a hypergraph weighs no more than what it was made of.

-- ---- totals

abbrev pub total : {A : Type 0} → (A → ℕ) → List A → ℕ
total w [] = 0
total w (x ∷ xs) = w x + total w xs

-- a list without one that is in it
record Without {A : Type 0} (w : A → ℕ) (xs : List A) (d : A) : Type 0 where
  others : List A
  weight : total w xs ≡ w d + total w others
  there : (e : A) → Contains xs e → (d ≡ e → ⊥) → Contains others e

without : {A : Type 0} (w : A → ℕ) (xs : List A) (d : A) → Contains xs d → Without w xs d
without w [] d c = absurd (nothing_there d c)
without {A = A} w (x ∷ xs) d c = by (first_or_later x xs d c) (λ k. without w xs d k)
  where
    at_first : x ≡ d → (e : A) → (x ≡ e) ⊎ Contains xs e → (d ≡ e → ⊥) → Contains xs e
    at_first same e (inl k) apart = absurd (apart (sym same ∙ k))
    at_first same e (inr k) apart = k

    later : (ys : List A) → ((e : A) → Contains xs e → (d ≡ e → ⊥) → Contains ys e) → (e : A) → (x ≡ e) ⊎ Contains xs e
        → (d ≡ e → ⊥) → Contains (x ∷ ys) e
    later ys h e (inl k) apart = first_there x ys e k
    later ys h e (inr k) apart = later_there x ys e (h e k apart)

    by : (x ≡ d) ⊎ Contains xs d → (Contains xs d → Without w xs d) → Without w (x ∷ xs) d
    by (inl same) more = record {
      others = xs;
      weight = ap (λ (y : A). w y + total w xs) same;
      there = λ e k apart. at_first same e (first_or_later x xs e k) apart;
    }
    by (inr k) more =
        let r = more k in
        let same = r.weight in record {
          others = x ∷ r.others;
          weight = omega (arith, same);
          there = λ e c apart. later r.others r.there e (first_or_later x xs e c) apart;
        }

-- different ones that are all in a list weigh no more than it
pub weighs_less : {A : Type 0} (w : A → ℕ) (ds xs : List A) → AllPairs (λ a b. a ≡ b → ⊥) ds
    → ((d : A) → Contains ds d → Contains xs d) → total w ds ≤ total w xs
weighs_less w [] xs apart there = omega arith
weighs_less {A = A} w (d ∷ ds) xs apart there =
    let r = without w xs d (there d (first_there d ds d refl)) in
    let same = r.weight in
    let above = pairs_head (λ (a b : A). a ≡ b → ⊥) d ds apart in
    let rest = weighs_less w ds r.others (pairs_tail (λ (a b : A). a ≡ b → ⊥) d ds apart)
    (λ e c. r.there e (there e (later_there d ds e c)) (held ds above e c)) in
    omega (arith, same, rest)
  where
    held : (es : List A) → All (λ b. d ≡ b → ⊥) es → (e : A) → Contains es e → d ≡ e → ⊥
    held [] h e c = absurd (nothing_there e c)
    held (x ∷ es) h e c = pick (first_or_later x es e c) (held es (All-tail (λ b. d ≡ b → ⊥) x es h) e)
      where
        pick : (x ≡ e) ⊎ Contains es e → (Contains es e → d ≡ e → ⊥) → d ≡ e → ⊥
        pick (inl same) more k = All-head (λ b. d ≡ b → ⊥) x es h (k ∙ sym same)
        pick (inr c2) more k = more c2 k

pub total_append : {A : Type 0} (w : A → ℕ) (xs ys : List A) → total w (xs ++ ys) ≡ total w xs + total w ys
total_append w [] ys = omega arith
total_append w (x ∷ xs) ys = let rest = total_append w xs ys in omega (arith, rest)

filter_less : {A : Type 0} (w : A → ℕ) (p : A → Bool) (xs : List A) → total w (filter p xs) ≤ total w xs
filter_less w p [] = omega arith
filter_less w p (x ∷ xs) = by (p x) (filter_less w p xs)
  where
    by : (b : Bool) → total w (filter p xs) ≤ total w xs
        → total w (cond b (x ∷ filter p xs) (filter p xs)) ≤ w x + total w xs
    by true h = omega (arith, h)
    by false h = omega (arith, h)

-- ---- steps of the reduction

set_less : (w : List ℕ → ℕ) (E : List (List ℕ)) (i : ℕ) (e : List ℕ) → i < length E → w e ≤ w (edge_at E i)
    → total w (slice_set E i e) ≤ total w E
set_less w [] i e lt le = absurd (omega arith)
set_less w (x ∷ E) zero e lt le = omega (arith, le)
set_less w (x ∷ E) (suc i) e lt le =
    let rest = set_less w E i e (omega (arith, lt)) le in omega (arith, rest)

remove_less : (w : List ℕ → ℕ) (E : List (List ℕ)) (i : ℕ) → total w (remove E i) ≤ total w E
remove_less w [] zero = omega arith
remove_less w [] (suc i) = omega arith
remove_less w (x ∷ E) zero = omega arith
remove_less w (x ∷ E) (suc i) = let rest = remove_less w E i in omega (arith, rest)

pub leads_less : (v : ℕ → ℕ) (E : List (List ℕ)) (S : List Step) (R : List (List ℕ)) → Leads E S R
    → total (total v) R ≤ total (total v) E
leads_less v E [] R h = let same = ap (λ (z : List (List ℕ)). total (total v) z) h in omega (arith, same)
leads_less v E (Vertex i x ∷ S) R h =
    let one = set_less (total v) E i (difference (edge_at E i) (x ∷ [])) h.0.0
    (filter_less v (λ y. not (member y (x ∷ []))) (edge_at E i)) in
    let rest = leads_less v (reduced E (Vertex i x)) S R h.1 in
    omega (arith, one, rest)
leads_less v E (Edge i j ∷ S) R h =
    let one = remove_less (total v) E i in
    let rest = leads_less v (reduced E (Edge i j)) S R h.1 in
    omega (arith, one, rest)

-- what holds of all variables goes on to hold
set_holds : (P : List ℕ → Type 0) (E : List (List ℕ)) (i : ℕ) (e : List ℕ) → All P E → P e → All P (slice_set E i e)
set_holds P [] i e h k = h
set_holds P (x ∷ E) zero e h k = All-cons P e E k (All-tail P x E h)
set_holds P (x ∷ E) (suc i) e h k = All-cons P x (slice_set E i e) (All-head P x E h)
    (set_holds P E i e (All-tail P x E h) k)

remove_holds : (P : List ℕ → Type 0) (E : List (List ℕ)) (i : ℕ) → All P E → All P (remove E i)
remove_holds P [] zero h = h
remove_holds P [] (suc i) h = h
remove_holds P (x ∷ E) zero h = All-tail P x E h
remove_holds P (x ∷ E) (suc i) h = All-cons P x (remove E i) (All-head P x E h) (remove_holds P E i (All-tail P x E h))

edge_holds : (P : List ℕ → Type 0) (E : List (List ℕ)) (i : ℕ) → i < length E → All P E → P (edge_at E i)
edge_holds P [] i lt h = absurd (omega arith)
edge_holds P (x ∷ E) zero lt h = All-head P x E h
edge_holds P (x ∷ E) (suc i) lt h = edge_holds P E i (omega (arith, lt)) (All-tail P x E h)

pub leads_hold : (P : ℕ → Type 0) (E : List (List ℕ)) (S : List Step) (R : List (List ℕ)) → Leads E S R → All (All P) E
    → All (All P) R
leads_hold P E [] R h a = subst (λ (z : List (List ℕ)). All (All P) z) h a
leads_hold P E (Vertex i x ∷ S) R h a =
    leads_hold P (reduced E (Vertex i x)) S R h.1
    (set_holds (All P) E i (difference (edge_at E i) (x ∷ [])) a
    (All-filter (λ y. not (member y (x ∷ []))) P (edge_at E i) (edge_holds (All P) E i h.0.0 a)))
leads_hold P E (Edge i j ∷ S) R h a = leads_hold P (reduced E (Edge i j)) S R h.1 (remove_holds (All P) E i a)

-- ---- sets of numbers

below_less : (n : ℕ) → All (λ x. x < n) (numbers_below n)
below_less zero = All-nil (λ x. x < 0)
below_less (suc n) = push (numbers_below n) (below_less n)
  where
    push : (xs : List ℕ) → All (λ x. x < n) xs → All (λ x. x < suc n) (xs ++ n ∷ [])
    push [] h = All-cons (λ x. x < suc n) n [] (omega arith) (All-nil (λ x. x < suc n))
    push (x ∷ xs) h =
        let lt = All-head (λ y. y < n) x xs h in
        All-cons (λ y. y < suc n) x (xs ++ n ∷ []) (omega (arith, lt)) (push xs (All-tail (λ y. y < n) x xs h))

below_apart : (n : ℕ) → AllPairs (λ a b. a ≡ b → ⊥) (numbers_below n)
below_apart zero = λ i j d lt within. absurd (omega arith)
below_apart (suc n) =
    pairs_join (λ (a b : ℕ). a ≡ b → ⊥) (numbers_below n) (n ∷ []) (below_apart n)
    (λ i j d lt within. absurd (omega (arith, lt, within)))
    (All-weaker (λ x. x < n) (λ x. All (λ b. x ≡ b → ⊥) (n ∷ []))
    (λ x lt. All-cons (λ b. x ≡ b → ⊥) n [] (λ e. absurd (omega (arith, lt, e))) (All-nil (λ b. x ≡ b → ⊥)))
    (numbers_below n) (below_less n))

filter_apart : (p : ℕ → Bool) (xs : List ℕ) → AllPairs (λ a b. a ≡ b → ⊥) xs → AllPairs (λ a b. a ≡ b → ⊥) (filter p xs)
filter_apart p xs h = AllPairs-filter (λ (a b : ℕ). a ≡ b → ⊥) p xs h

member_there : (x : ℕ) (xs : List ℕ) → member x xs ≡ true → Contains xs x
member_there x [] e = absurd cc
member_there x (y ∷ xs) e = by (x == y) refl e (λ k. member_there x xs k)
  where
    by : (b : Bool) → (x == y) ≡ b → (b || member x xs) ≡ true → (member x xs ≡ true → Contains xs x)
        → Contains (y ∷ xs) x
    by true k f more = first_there y xs x (sym (eqb-true x y k))
    by false k f more = later_there y xs x (more f)

kept_in : (p : ℕ → Bool) (xs : List ℕ) (d : ℕ) → Contains (filter p xs) d → p d ≡ true
kept_in p [] d c = absurd (nothing_there d c)
kept_in p (x ∷ xs) d c = by (p x) refl c (λ k. kept_in p xs d k)
  where
    first : p x ≡ true → (x ≡ d) ⊎ Contains (filter p xs) d → (Contains (filter p xs) d → p d ≡ true) → p d ≡ true
    first e (inl same) more = subst (λ (y : ℕ). p y ≡ true) same e
    first e (inr k) more = more k

    by : (b : Bool) → p x ≡ b → Contains (cond b (x ∷ filter p xs) (filter p xs)) d
        → (Contains (filter p xs) d → p d ≡ true) → p d ≡ true
    by true e k more = first e (first_or_later x (filter p xs) d k) more
    by false e k more = more k

-- a set of numbers weighs no more than the numbers
pub set_weight : (w : ℕ → ℕ) (n : ℕ) (xs : List ℕ) → total w (set_below n xs) ≤ total w xs
set_weight w n xs =
    weighs_less w (set_below n xs) xs (filter_apart (λ x. member x xs) (numbers_below n) (below_apart n))
    (λ d c. member_there d xs (kept_in (λ x. member x xs) (numbers_below n) d c))

pub set_less_than : (n : ℕ) (xs : List ℕ) → All (λ x. x < n) (set_below n xs)
set_less_than n xs = All-filter (λ x. member x xs) (λ x. x < n) (numbers_below n) (below_less n)

-- ---- A line is no shorter than the variables of the query that it says.

-- ---- what variables take: their bytes, and one before each

abbrev pub name_weight : Bytes → ℕ
name_weight x = 1 + length x

abbrev pub term_weight : Term → ℕ
term_weight (Variable x) = 1 + length x
term_weight Hole = 2
term_weight (Constant v) = 0

abbrev pub atom_weight : Atom → ℕ
atom_weight a = total term_weight a.terms

abbrev pub query_weight : Query → ℕ
query_weight q = total name_weight q.head + total atom_weight q.atoms

-- ---- tokens

abbrev bytes_of : Token → ℕ
bytes_of t = length (token_text t)

abbrev behind_one : Token → ℕ
behind_one t = 1 + length (token_text t)

spelled_less : (ts : List Token) (l : Bytes) → IsSpelling ts l → total bytes_of ts ≤ length l
spelled_less [] l h = omega arith
spelled_less (t ∷ ts) l (front, behind, spaces, is, token, follows, more) =
    let rest = spelled_less ts behind more in
    let whole = ap length is in
    let one = length-append front (token_text t ++ behind) in
    let two = length-append (token_text t) behind in
    omega (arith, rest, whole, one, two)

more_weight : (us : List Token) → total behind_one us ≤ total bytes_of (more_tokens us)
more_weight [] = omega arith
more_weight (u ∷ us) = let rest = more_weight us in omega (arith, rest)

list_weight : (us : List Token) → total behind_one us ≤ total bytes_of (list_tokens us)
list_weight [] = omega arith
list_weight (u ∷ us) = let rest = more_weight us in omega (arith, rest)

names_less : (ns : List Bytes) (us : List Token) → AllZip SaysName ns us → total name_weight ns ≤ total behind_one us
names_less [] us z = omega arith
names_less (n ∷ ns) [] z = absurd z
names_less (n ∷ ns) (u ∷ us) z =
    let rest = names_less ns us z.1 in
    let same = ap bytes_of z.0.1 in
    omega (arith, rest, same)

term_less : (x : Term) (t : Token) → SaysTerm x t → term_weight x ≤ behind_one t
term_less (Variable x) t s = let same = ap bytes_of s.1 in omega (arith, same)
term_less Hole t s = let same : bytes_of t ≡ 1 = ap bytes_of s in omega (arith, same)
term_less (Constant v) t s = omega arith

terms_less : (xs : List Term) (us : List Token) → AllZip SaysTerm xs us → total term_weight xs ≤ total behind_one us
terms_less [] us z = omega arith
terms_less (x ∷ xs) [] z = absurd z
terms_less (x ∷ xs) (u ∷ us) z =
    let one = term_less x u z.0 in
    let rest = terms_less xs us z.1 in
    omega (arith, one, rest)

-- ---- queries

atom_less : (a : Atom) (ts : List Token) → SaysAtom a ts → atom_weight a ≤ total bytes_of ts
atom_less a ts s =
    let whole = ap (λ (us : List Token). total bytes_of us) s.3 in
    let terms = terms_less a.terms s.0 s.2 in
    let within = list_weight s.0 in
    omega (arith, whole, terms, within)

item_less : (n : ℕ) (i : Item) (items : List Item) (ts : List Token) (rest : ℕ) → SaysItem n i ts
    → total atom_weight (atoms_among items) ≤ rest
    → total atom_weight (atoms_among (i ∷ items)) ≤ total bytes_of ts + rest
item_less n (atom a) items ts rest s h = let one = atom_less a ts s in omega (arith, one, h)
item_less n (comparison c) items ts rest s h = omega (arith, h)

items_less : (n : ℕ) (items : List Item) (ts : List Token) → SaysItems n items ts
    → total atom_weight (atoms_among items) ≤ total bytes_of ts
items_less n [] ts s = absurd s
items_less n (i ∷ []) ts s = let one = item_less n i [] ts 0 s (omega arith) in omega (arith, one)
items_less n (i ∷ j ∷ js) ts (front, back, first, later, parts) =
    let rest = items_less (past_item n i) (j ∷ js) back later in
    let one = item_less n i (j ∷ js) front (total bytes_of back) first rest in
    let whole = ap (λ (us : List Token). total bytes_of us) parts in
    let both = total_append bytes_of front (comma ∷ back) in
    omega (arith, one, whole, both)

pub query_less : (q : Query) (ts : List Token) (l : Bytes) → SaysCommand (Register q) ts → IsSpelling ts l
    → query_weight q ≤ length l
query_less q ts l (us, (heads, body, name, head, (items, said, atoms, comparisons, some), parts), whole) spelled =
    let all = spelled_less ts l spelled in
    let one = ap (λ (vs : List Token). total bytes_of vs) whole in
    let two = ap (λ (vs : List Token). total bytes_of vs) parts in
    let both = total_append bytes_of (list_tokens heads) (arrow ∷ body) in
    let first = names_less q.head heads head in
    let within = list_weight heads in
    let last = items_less 0 items body said in
    let same = ap (λ (ms : List Atom). total atom_weight ms) atoms in
    omega (arith, all, one, two, both, first, within, last, same)

-- ---- lines

front_less : (held l rest : Bytes) (long : Bool) (o : Option Bytes) → is_long (before_lf held) ≡ long
    → cond long too_long (line_or_dry (without_cr (before_lf held)) o) ≡ a_line l rest → length l ≤ LINE_BYTES
front_less held l rest true o e is = absurd cc
front_less held l rest false None e is = absurd cc
front_less held l rest false (Some behind) e is =
    let same : without_cr (before_lf held) ≡ l = cc in
    let size = ap length same in
    let less = short_line (before_lf held) e in
    omega (arith, size, less)

pub line_less : (held l rest : Bytes) → front_of held ≡ a_line l rest → length l ≤ LINE_BYTES
line_less held l rest is = front_less held l rest (is_long (before_lf held)) (behind_lf held) refl is

-- ---- A rest is printed, and takes no more bytes than the line that says its query.

-- ---- names of numbers

-- the bytes of a variable's name, and one before it
abbrev pub number_weight : List Bytes → ℕ → ℕ
number_weight names x = 1 + length (name_at names x)

abbrev names_of : List Label → List Bytes
names_of vs = map label_name vs

-- the place of a name among variables, or how many they are
abbrev place : Bytes → List Label → ℕ
place x [] = 0
place x (k ∷ ks) = cond (is_named x k) 0 (suc (place x ks))

place_is : (x : Bytes) (ks : List Label) → place x ks ≡ number_of ks x
place_is x ks =
    is_position_or_len (place x) (is_named x) refl
    (λ k more. ap (λ n. cond (is_named x k) 0 n) (one_more (place x more))) ks
  where
    one_more : (n : ℕ) → suc n ≡ 1 + n
    one_more n = omega arith

label_is : (x : Bytes) (k : Label) → is_named x k ≡ true → label_name k ≡ x
label_is x (Some y) e = (bytes_eq-decides y x).0 e
label_is x None e = absurd cc

named_known : (x : Bytes) (ks more : List Label) → is_known ks x ≡ true
    → name_at (names_of (ks ++ more)) (place x ks) ≡ x
named_known x [] more e = absurd cc
named_known x (k ∷ ks) more e = by (is_named x k) refl e (λ f. named_known x ks more f)
  where
    by : (b : Bool) → is_named x k ≡ b → (b || is_known ks x) ≡ true
        → (is_known ks x ≡ true → name_at (names_of (ks ++ more)) (place x ks) ≡ x)
        → name_at (label_name k ∷ names_of (ks ++ more)) (cond b 0 (suc (place x ks))) ≡ x
    by true f g rest = label_is x k f
    by false f g rest = rest g

named_new : (x : Bytes) (ks more : List Label) → is_known ks x ≡ false
    → name_at (names_of (ks ++ Some x ∷ more)) (place x ks) ≡ x
named_new x [] more e = refl
named_new x (k ∷ ks) more e = by (is_named x k) e (λ f. named_new x ks more f)
  where
    by : (b : Bool) → (b || is_known ks x) ≡ false
        → (is_known ks x ≡ false → name_at (names_of (ks ++ Some x ∷ more)) (place x ks) ≡ x)
        → name_at (label_name k ∷ names_of (ks ++ Some x ∷ more)) (cond b 0 (suc (place x ks))) ≡ x
    by true g rest = absurd cc
    by false g rest = rest g

named_hole : (ks more : List Label) → name_at (names_of (ks ++ None ∷ more)) (length ks) ≡ codes "_"
named_hole [] more = refl
named_hole (k ∷ ks) more = named_hole ks more

named_short : (x : Bytes) (ks : List Label) → length (name_at (names_of ks) (place x ks)) ≤ length x
named_short x [] = omega arith
named_short x (k ∷ ks) = by (is_named x k) refl (named_short x ks)
  where
    by : (b : Bool) → is_named x k ≡ b → length (name_at (names_of ks) (place x ks)) ≤ length x
        → length (name_at (label_name k ∷ names_of ks) (cond b 0 (suc (place x ks)))) ≤ length x
    by true f rest = let same = ap length (label_is x k f) in omega (arith, same)
    by false f rest = rest

-- ---- variables that are known stay in front

term_more : (ks : List Label) (t : Term) → (m : List Label) × (with_term ks t ≡ ks ++ m)
term_more ks (Variable x) = by (is_known ks x)
  where
    by : (b : Bool) → (m : List Label) × (cond b ks (ks ++ Some x ∷ []) ≡ ks ++ m)
    by true = ([], sym (append-nil ks))
    by false = (Some x ∷ [], refl)
term_more ks Hole = (None ∷ [], refl)
term_more ks (Constant v) = ([], sym (append-nil ks))

terms_more : (ks : List Label) (ts : List Term) → (m : List Label) × (with_terms ks ts ≡ ks ++ m)
terms_more ks [] = ([], sym (append-nil ks))
terms_more ks (t ∷ ts) =
    let one = term_more ks t in
    let rest = terms_more (with_term ks t) ts in
    (one.0 ++ rest.0, rest.1 ∙ ap (λ (xs : List Label). xs ++ rest.0) one.1 ∙ append_assoc ks one.0 rest.0)

atoms_more : (ks : List Label) (atoms : List Atom) → (m : List Label) × (fold with_atom ks atoms ≡ ks ++ m)
atoms_more ks [] = ([], sym (append-nil ks))
atoms_more ks (a ∷ atoms) =
    let one = terms_more ks a.terms in
    let rest = atoms_more (with_atom ks a) atoms in
    (one.0 ++ rest.0, rest.1 ∙ ap (λ (xs : List Label). xs ++ rest.0) one.1 ∙ append_assoc ks one.0 rest.0)

-- ---- numbers weigh what their terms do

variable_weight : (x : Bytes) (ks more : List Label) (known : Bool) → is_known ks x ≡ known
    → number_weight (names_of (cond known ks (ks ++ Some x ∷ []) ++ more)) (number_of ks x) ≤ 1 + length x
variable_weight x ks more true e =
    let same = ap length (sym (ap (λ n. name_at (names_of (ks ++ more)) n) (place_is x ks)) ∙ named_known x ks more e)
    in
    omega (arith, same)
variable_weight x ks more false e =
    let is : (ks ++ Some x ∷ []) ++ more ≡ ks ++ Some x ∷ more = append_assoc ks (Some x ∷ []) more in
    let same = ap length (ap (λ (vs : List Label). name_at (names_of vs) (number_of ks x)) is
    ∙ sym (ap (λ n. name_at (names_of (ks ++ Some x ∷ more)) n) (place_is x ks)) ∙ named_new x ks more e) in
    omega (arith, same)

numbers_less : (ks : List Label) (ts : List Term) (more vs : List Label) → vs ≡ with_terms ks ts ++ more
    → total (number_weight (names_of vs)) (numbers_in ks ts) ≤ total term_weight ts
unfolding numbers_in
numbers_less ks [] more vs is = omega arith
numbers_less ks (Variable x ∷ ts) more vs is =
    let m = terms_more (with_term ks (Variable x)) ts in
    let all : vs ≡ with_term ks (Variable x) ++ (m.0 ++ more) =
    is ∙ ap (λ (zs : List Label). zs ++ more) m.1 ∙ append_assoc (with_term ks (Variable x)) m.0 more in
    let one = subst (λ (zs : List Label). number_weight (names_of zs) (number_of ks x) ≤ 1 + length x) (sym all)
    (variable_weight x ks (m.0 ++ more) (is_known ks x) refl) in
    let rest = numbers_less (with_term ks (Variable x)) ts more vs is in
    omega (arith, one, rest)
numbers_less ks (Hole ∷ ts) more vs is =
    let m = terms_more (ks ++ None ∷ []) ts in
    let all : vs ≡ ks ++ None ∷ (m.0 ++ more) =
    is ∙ ap (λ (zs : List Label). zs ++ more) m.1 ∙ append_assoc (ks ++ None ∷ []) m.0 more
    ∙ append_assoc ks (None ∷ []) (m.0 ++ more) in
    let one : length (name_at (names_of vs) (length ks)) ≡ 1 =
    ap length (ap (λ (zs : List Label). name_at (names_of zs) (length ks)) all ∙ named_hole ks (m.0 ++ more)) in
    let rest = numbers_less (ks ++ None ∷ []) ts more vs is in
    omega (arith, one, rest)
numbers_less ks (Constant v ∷ ts) more vs is = let rest = numbers_less ks ts more vs is in omega (arith, rest)

edges_less : (n : ℕ) (ks : List Label) (atoms : List Atom) (more vs : List Label) → vs ≡ fold with_atom ks atoms ++ more
    → total (total (number_weight (names_of vs))) (edges_from n ks atoms) ≤ total atom_weight atoms
unfolding edges_from
edges_less n ks [] more vs is = omega arith
edges_less n ks (a ∷ atoms) more vs is =
    let m = atoms_more (with_atom ks a) atoms in
    let all : vs ≡ with_terms ks a.terms ++ (m.0 ++ more) =
    is ∙ ap (λ (zs : List Label). zs ++ more) m.1 ∙ append_assoc (with_atom ks a) m.0 more in
    let one = numbers_less ks a.terms (m.0 ++ more) vs all in
    let set = set_weight (number_weight (names_of vs)) n (numbers_in ks a.terms) in
    let rest = edges_less n (with_atom ks a) atoms more vs is in
    omega (arith, one, set, rest)

head_less : (vs : List Label) (xs : List Bytes)
    → total (number_weight (names_of vs)) (map (number_of vs) xs) ≤ total name_weight xs
head_less vs [] = omega arith
head_less vs (x ∷ xs) =
    let one = subst (λ n. length (name_at (names_of vs) n) ≤ length x) (place_is x vs) (named_short x vs) in
    let rest = head_less vs xs in
    omega (arith, one, rest)

edges_below : (n : ℕ) (ks : List Label) (atoms : List Atom) → All (All (λ x. x < n)) (edges_from n ks atoms)
unfolding edges_from
edges_below n ks [] = All-nil (All (λ x. x < n))
edges_below n ks (a ∷ atoms) =
    All-cons (All (λ x. x < n)) (set_below n (numbers_in ks a.terms)) (edges_from n (with_atom ks a) atoms)
    (set_less_than n (numbers_in ks a.terms)) (edges_below n (with_atom ks a) atoms)

-- ---- names are printed

abbrev IsPrintedLabel : Label → Type 0
IsPrintedLabel k = is_printed_variable (label_name k) ≡ true

name_printed : (x : Bytes) → IsName x → IsPrintedLabel (Some x)
name_printed x h = rw h refl

terms_printed : (ks : List Label) (ts : List Term) → All IsPrintedLabel ks → All IsSayableTerm ts
    → All IsPrintedLabel (with_terms ks ts)
terms_printed ks [] h said = h
terms_printed ks (Variable x ∷ ts) h said =
    terms_printed (with_term ks (Variable x)) ts (by (is_known ks x)) (All-tail IsSayableTerm (Variable x) ts said)
  where
    by : (b : Bool) → All IsPrintedLabel (cond b ks (ks ++ Some x ∷ []))
    by true = h
    by false = All-push IsPrintedLabel ks (Some x) h (name_printed x (All-head IsSayableTerm (Variable x) ts said))
terms_printed ks (Hole ∷ ts) h said =
    terms_printed (ks ++ None ∷ []) ts (All-push IsPrintedLabel ks None h refl) (All-tail IsSayableTerm Hole ts said)
terms_printed ks (Constant v ∷ ts) h said = terms_printed ks ts h (All-tail IsSayableTerm (Constant v) ts said)

atoms_printed : (ks : List Label) (atoms : List Atom) → All IsPrintedLabel ks → All IsSayableAtom atoms
    → All IsPrintedLabel (fold with_atom ks atoms)
atoms_printed ks [] h said = h
atoms_printed ks (a ∷ atoms) h said =
    atoms_printed (with_atom ks a) atoms (terms_printed ks a.terms h (All-head IsSayableAtom a atoms said).terms)
    (All-tail IsSayableAtom a atoms said)

printed_at : (vs : List Label) → All IsPrintedLabel vs → (x : ℕ) → x < length vs
    → is_printed_variable (name_at (names_of vs) x) ≡ true
printed_at [] h x lt = absurd (omega arith)
printed_at (k ∷ vs) h zero lt = All-head IsPrintedLabel k vs h
printed_at (k ∷ vs) h (suc x) lt = printed_at vs (All-tail IsPrintedLabel k vs h) x (omega (arith, lt))

label_printed : (vs : List Label) → All IsPrintedLabel vs → (e : List ℕ) → All (λ x. x < length vs) e
    → is_label (map (name_at (names_of vs)) e) ≡ true
label_printed vs h [] lt = refl
label_printed vs h (x ∷ e) lt =
    let one = printed_at vs h x (All-head (λ y. y < length vs) x e lt) in
    let rest = label_printed vs h e (All-tail (λ y. y < length vs) x e lt) in
    rw one rest

edge_printed : (vs : List Label) → All IsPrintedLabel vs → (e : List ℕ) → e ≢ [] → All (λ x. x < length vs) e
    → is_edge (map (name_at (names_of vs)) e) ≡ true
edge_printed vs h [] some lt = absurd (some refl)
edge_printed vs h (x ∷ e) some lt = label_printed vs h (x ∷ e) lt

edges_printed : (vs : List Label) → All IsPrintedLabel vs → (es : List (List ℕ))
    → All (λ e. (e ≢ []) × All (λ x. x < length vs) e) es
    → list_all is_edge (map (map (name_at (names_of vs))) es) ≡ true
edges_printed vs h [] all = refl
edges_printed vs h (e ∷ es) all =
    let k = All-head (λ e. (e ≢ []) × All (λ x. x < length vs) e) e es all in
    let one = edge_printed vs h e k.0 k.1 in
    let rest = edges_printed vs h es (All-tail (λ e. (e ≢ []) × All (λ x. x < length vs) e) e es all) in
    rw one rest

-- ---- the bytes of a rest

commas_weight : (names : List Bytes) (xs : List ℕ)
    → length (flat_map (λ y. 44 ∷ y) (map (name_at names) xs)) ≤ total (number_weight names) xs
commas_weight names [] = omega arith
commas_weight names (x ∷ xs) =
    let rest = commas_weight names xs in
    let long = length-append (name_at names x) (flat_map (λ y. 44 ∷ y) (map (name_at names) xs)) in
    omega (arith, rest, long)

edge_weight : (names : List Bytes) (e : List ℕ) → e ≢ []
    → 1 + length (joined (map (name_at names) e)) ≤ total (number_weight names) e
edge_weight names [] some = absurd (some refl)
edge_weight names (x ∷ e) some =
    let rest = commas_weight names e in
    let long = length-append (name_at names x) (flat_map (λ y. 44 ∷ y) (map (name_at names) e)) in
    omega (arith, rest, long)

rest_weight : (names : List Bytes) (es : List (List ℕ)) → All (λ e. e ≢ []) es
    → length (flat_map (λ e. 32 ∷ joined e) (map (map (name_at names)) es)) ≤ total (total (number_weight names)) es
rest_weight names [] all = omega arith
rest_weight names (e ∷ es) all =
    let one = edge_weight names e (All-head (λ e. e ≢ []) e es all) in
    let rest = rest_weight names es (All-tail (λ e. e ≢ []) e es all) in
    let long = length-append (joined (map (name_at names) e))
    (flat_map (λ e. 32 ∷ joined e) (map (map (name_at names)) es)) in
    omega (arith, one, rest, long)

-- ---- rests have an edge, and no empty one

place_of : (R : List (List ℕ)) (e : List ℕ) → Contains R e → (i : ℕ) × (i < length R) × (edge_at R i ≡ e)
place_of [] e c = absurd (nothing_there e c)
place_of (f ∷ R) e c = by (first_or_later f R e c) (λ k. place_of R e k)
  where
    by : (f ≡ e) ⊎ Contains R e → (Contains R e → (i : ℕ) × (i < length R) × (edge_at R i ≡ e))
        → (i : ℕ) × (i < suc (length R)) × (edge_at (f ∷ R) i ≡ e)
    by (inl same) more = (0, omega arith, same)
    by (inr k) more = let r = more k in let lt = r.1 in (suc r.0, omega (arith, lt), r.2)

lies_at : (x : ℕ) (R : List (List ℕ)) → 0 < degree x R → (j : ℕ) × (j < length R) × (member x (edge_at R j) ≡ true)
lies_at x [] lt = absurd (omega arith)
lies_at x (f ∷ R) lt = by (member x f) refl lt (λ k. lies_at x R k)
  where
    by : (b : Bool) → member x f ≡ b → 0 < one b + degree x R
        → (0 < degree x R → (j : ℕ) × (j < length R) × (member x (edge_at R j) ≡ true))
        → (j : ℕ) × (j < suc (length R)) × (member x (edge_at (f ∷ R) j) ≡ true)
    by true e k more = (0, omega arith, e)
    by false e k more = let r = more (omega (arith, k)) in let lt2 = r.1 in (suc r.0, omega (arith, lt2), r.2)

none_empty : (E R : List (List ℕ)) → IsRest E R → (e : List ℕ) → Contains R e → e ≢ []
none_empty E R h e c none =
    let i = place_of R e c in
    let j = lies_at h.variable R h.lies in
    let bare : edge_at R i.0 ≡ [] = i.2 ∙ none in
    h.irreducible (Edge i.0 j.0) (
      i.1,
      j.1,
      λ same. apart j.0 j.2 (ap (λ k. edge_at R k) (sym same) ∙ bare),
      ap (λ (f : List ℕ). subset f (edge_at R j.0)) bare,
    )
  where
    apart : (j : ℕ) → member h.variable (edge_at R j) ≡ true → edge_at R j ≡ [] → ⊥
    apart j lies bare =
        let no : false ≡ true = ap (λ (f : List ℕ). member h.variable f) (sym bare) ∙ lies in absurd (cc no)

some_edge : (x : ℕ) (R : List (List ℕ)) → 0 < degree x R → (e : List ℕ) × Contains R e
some_edge x [] lt = absurd (omega arith)
some_edge x (e ∷ R) lt = (e, first_there e R e refl)

-- ---- rests of queries

before_self : (e : List ℕ) → is_before e e ≡ true → ⊥
before_self [] k = absurd cc
before_self (x ∷ e) k = by (nat_lt x x) refl (x == x) k (λ f. before_self e f)
  where
    by : (b : Bool) → nat_lt x x ≡ b → (c : Bool) → (b || (c && is_before e e)) ≡ true → (is_before e e ≡ true → ⊥) → ⊥
    by true f c g more = let lt = ltb-true x x f in absurd (omega (arith, lt))
    by false f true g more = more g
    by false f false g more = absurd cc

-- what is said of the edges of a rest, as they are named
pub record IsShortRest (edges : List (List Bytes)) : Type 0 where
  pub printed : is_rest edges ≡ true
  pub short : length (flat_map (λ e. 32 ∷ joined e) edges) ≤ LINE_BYTES

pub rest_short : (q : Query) → IsSayableQuery q → query_weight q ≤ LINE_BYTES → (E R : List (List ℕ)) → IsRest E R
    → All (All (λ x. x < length (variables_of q.atoms))) E
    → total (total (number_weight (variable_names q))) E ≤ query_weight q → (rest : NamedRest) → IsNamedRest q R rest
    → IsShortRest (map (map (name_at rest.names)) rest.edges)
rest_short q said few E R h below light rest named = record {
  printed = subst (λ (ns : List Bytes). is_rest (map (map (name_at ns)) rest.edges) ≡ true) (sym named.names)
      (some_printed rest.edges refl);
  short = subst (λ (ns : List Bytes). length (flat_map (λ e. 32 ∷ joined e) (map (map (name_at ns)) rest.edges)) ≤
      LINE_BYTES)
      (sym named.names) (omega (arith, weight, distinct, less, light, few));
}
  where
    vs : List Label
    vs = variables_of q.atoms

    inside : All (All (λ x. x < length (variables_of q.atoms))) R
    inside = leads_hold (λ x. x < length (variables_of q.atoms)) E h.steps R h.leads below

    each : All (λ e. (e ≢ []) × All (λ x. x < length (variables_of q.atoms)) e) rest.edges
    each = hold_each (λ e. (e ≢ []) × All (λ x. x < length (variables_of q.atoms)) e) rest.edges (λ e c.
        let there = (named.edges e).0 c in
        (none_empty E R h e there, All-contains (All (λ x. x < length (variables_of q.atoms))) R e inside there))

    weight : length (flat_map (λ e. 32 ∷ joined e) (map (map (name_at (variable_names q))) rest.edges))
        ≤ total (total (number_weight (variable_names q))) rest.edges
    weight = rest_weight (variable_names q) rest.edges
        (All-weaker (λ e. (e ≢ []) × All (λ x. x < length (variables_of q.atoms)) e) (λ e. e ≢ []) (λ e k. k.0)
        rest.edges each)

    distinct : total (total (number_weight (variable_names q))) rest.edges ≤ total
        (total (number_weight (variable_names q))) R
    distinct = weighs_less (total (number_weight (variable_names q))) rest.edges R
        (λ i j d lt within same. before_self (get_or rest.edges j d)
        (subst (λ (f : List ℕ). is_before f (get_or rest.edges j d) ≡ true) same (named.order i j d lt within)))
        (λ e c. (named.edges e).0 c)

    less : total (total (number_weight (variable_names q))) R ≤ total (total (number_weight (variable_names q))) E
    less = leads_less (number_weight (variable_names q)) E h.steps R h.leads

    labels : All IsPrintedLabel (variables_of q.atoms)
    labels = atoms_printed [] q.atoms (All-nil IsPrintedLabel) said.atoms

    some_printed : (es : List (List ℕ)) → rest.edges ≡ es → is_rest (map (map (name_at (variable_names q))) es) ≡ true
    some_printed [] is =
        let e = some_edge h.variable R h.lies in
        absurd (nothing_there e.0 (subst (λ (es : List (List ℕ)). Contains es e.0) is ((named.edges e.0).1 e.1)))
    some_printed (e ∷ es) is =
        edges_printed (variables_of q.atoms) labels (e ∷ es)
        (subst (λ (fs : List (List ℕ)). All (λ e. (e ≢ []) × All (λ x. x < length (variables_of q.atoms)) e) fs) is
        each)

pub cyclic_light : (q : Query) → total (total (number_weight (variable_names q))) (edges_of q) ≤ query_weight q
cyclic_light q =
    let one = edges_less (length (variables_of q.atoms)) [] q.atoms [] (variables_of q.atoms)
    (sym (append-nil (variables_of q.atoms))) in
    omega (arith, one)

pub connex_light : (q : Query)
    → total (total (number_weight (variable_names q))) (head_of q ∷ edges_of q) ≤ query_weight q
connex_light q =
    let one = edges_less (length (variables_of q.atoms)) [] q.atoms [] (variables_of q.atoms)
    (sym (append-nil (variables_of q.atoms))) in
    let set = set_weight (number_weight (variable_names q)) (length (variables_of q.atoms))
    (map (number_of (variables_of q.atoms)) q.head) in
    let head = head_less (variables_of q.atoms) q.head in
    omega (arith, one, set, head)

pub cyclic_below : (q : Query) → All (All (λ x. x < length (variables_of q.atoms))) (edges_of q)
cyclic_below q = edges_below (length (variables_of q.atoms)) [] q.atoms

pub connex_below : (q : Query) → All (All (λ x. x < length (variables_of q.atoms))) (head_of q ∷ edges_of q)
connex_below q =
    All-cons (All (λ x. x < length (variables_of q.atoms))) (head_of q) (edges_of q)
    (set_less_than (length (variables_of q.atoms)) (map (number_of (variables_of q.atoms)) q.head)) (cyclic_below q)
