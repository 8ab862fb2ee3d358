-- There is room for each row that comes: no relation has more rows than it may, together with those that lines add.
use Rattle.std.specs.Prelude.{ℕ, zero, suc, List, [], ◌∷◌, ◌≡◌, ◌==◌, ◌&&◌, ◌||◌, ◌+◌, ◌++◌, ◌<◌, ◌≤◌, Bool, true, false, not}
use Rattle.std.specs.Prelude.{cond, Option, None, Some, length, fold, filter, take, drop, nat_le, nat_lt}
use Rattle.std.specs.List.{list_any}
use Rattle.std.specs.Option.{option_or, option_map}
use Rattle.std.proofs.Common.{refl, sym, ap, ap₂, ◌∙◌, subst, arith, length-append}
use Rattle.std.proofs.lemmas.Bool.{false≢true, false_from_ne_true, eqb-true, eq-eqb, leb-false}
use Rattle.std.proofs.lemmas.List.{append-nil, map-append, take-append-drop}
use Rattle.std.proofs.lemmas.List.Elements.{filter-append}
use Rattle.std.proofs.lemmas.List.Folds.{Any-from_list_any}
use Rattle.djq_model.specs.declared.relation.Relation.{Relation}
use Rattle.djq_model.specs.declared.relation.CountedRow.{CountedRow}
use Rattle.djq_model.specs.Data.{Bytes, Tuple, bytes_eq, tuple_eq, rows_of, plain_of, counted_of, with_copies, without_copies}
use Rattle.djq_model.specs.Data.{has_row}
use Rattle.djq_model.specs.Equality.{bytes_eq-decides}
use Rattle.djq_model.proofs.Copies.{tuples_with_copies}
use Rattle.djq_protocol.specs.declared.limits.TheConstants.{ROWS, COPIES}
use Rattle.djq_answer_laws.proofs.Lists.{first_holds, some_one, one_there}
use Rattle.djq_protocol.specs.declared.held.Verb.{Verb}
use Rattle.djq_protocol.specs.declared.held.Verb.TheVariants.{Add, Delete}
use Rattle.djq_protocol.specs.declared.held.LineRefusal.{LineRefusal}
use Rattle.djq_protocol.specs.declared.held.LineRefusal.TheVariants.{Absent}
use Rattle.djq_protocol.specs.declared.held.RefusedLine.{RefusedLine}
use Rattle.djq_store_spec.specs.Held.{HeldLine}
use Rattle.djq_store_spec.specs.Lines.{same_row, first_lines, copies_before, copies_after, line_comes, with_so_many}
use Rattle.djq_store_spec.specs.Lines.{with_copies_left}
use Rattle.djq_transaction.specs.LookUp.{AreSame, IsRowNamed}
use Rattle.djq_store_spec.specs.Judging.{names_row_before, is_new, rows_reached, limit_if, refusal_by, row_refusal}
use Rattle.djq_store_spec.specs.Judging.{texts_refusal, texts_after, line_refusal, refused_at, refusal_behind, lines_refusal}
use Rattle.djq_transaction.proofs.NamedRows.{same_are, firsts_step}
use Rattle.djq_transaction.proofs.FirstLines.{not_named, lines_named, unnamed_copies, same_trans}
use Rattle.djq_transaction.proofs.Full.{counted}
use Rattle.djq_transaction.proofs.SettledLines.{elsewhere_or_here, second_true}

-- ---- the rows that lines add to a relation

abbrev pub is_new_of : List Relation → Bytes → HeldLine → Bool
is_new_of base name g = bytes_eq g.relation name && (copies_before base g == 0)

abbrev pub news : List Relation → List HeldLine → Bytes → ℕ
news base front name = length (filter (is_new_of base name) (first_lines front))

abbrev pub HaveRoom : List Relation → List HeldLine → Type 0
HaveRoom base front = (name : Bytes) → 0 < news base front name → rows_reached base front name ≤ ROWS

news_more : (base : List Relation) (front : List HeldLine) (h : HeldLine) (name : Bytes)
    → news base (front ++ h ∷ []) name
    ≡ cond (list_any (λ g. same_row g h) (first_lines front)) (news base front name)
    (news base front name + cond (is_new_of base name h) 1 0)
news_more base front h name =
    ap (λ (hs : List HeldLine). length (filter (is_new_of base name) hs)) (firsts_step front h)
    ∙ by (list_any (λ (g : HeldLine). same_row g h) (first_lines front))
  where
    one : (b : Bool) → length (cond b (h ∷ []) []) ≡ cond b 1 0
    one true = refl
    one false = refl

    by : (b : Bool)
        → length (filter (is_new_of base name) (cond b (first_lines front) (first_lines front ++ h ∷ [])))
        ≡ cond b (news base front name) (news base front name + cond (is_new_of base name h) 1 0)
    by true = refl
    by false =
        ap (λ (hs : List HeldLine). length hs) (filter-append (is_new_of base name) (first_lines front) (h ∷ []))
        ∙ length-append (filter (is_new_of base name) (first_lines front)) (cond (is_new_of base name h) (h ∷ []) [])
        ∙ ap (λ (n : ℕ). news base front name + n) (one (is_new_of base name h))

-- ---- a line that passes

none_first : {A : Type 0} (o p : Option A) → option_or o p ≡ None → o ≡ None
none_first None p e = refl
none_first (Some x) p e = absurd (cc e)

none_second : {A : Type 0} (o p : Option A) → option_or o p ≡ None → p ≡ None
none_second None p e = e
none_second (Some x) p e = absurd (cc e)

none_mapped : {A B : Type 0} (f : A → B) (o : Option A) → option_map f o ≡ None → o ≡ None
none_mapped f None e = refl
none_mapped f (Some x) e = absurd (cc e)

no_limit : (b : Bool) → limit_if b ≡ None → b ≡ false
no_limit true e = absurd (cc e)
no_limit false e = refl

or_second : (a b : Bool) → (a || b) ≡ false → b ≡ false
or_second true b e = absurd (false≢true (sym e))
or_second false b e = e

-- a row that no line names yet, and that wasn't there, has room
new_room : (base : List Relation) (front : List HeldLine) (h : HeldLine)
    → list_any (λ g. same_row g h) (first_lines front) ≡ false → copies_before base h ≡ 0
    → row_refusal base front h ≡ None → rows_reached base front h.relation < ROWS
new_room base front h e before passes = by h.verb passes
  where
    none : IsRowNamed (first_lines front) h → ⊥
    none = not_named (first_lines front) h e

    after : copies_after base front h ≡ 0
    after = unnamed_copies base front h none ∙ before

    unnamed : names_row_before front h ≡ false
    unnamed = false_from_ne_true (names_row_before front h) (λ k.
        let o = some_one (λ (g : HeldLine). same_row g h ≡ true) front
        (Any-from_list_any (λ (g : HeldLine). same_row g h) front k) in
        let n = some_one (λ (f : HeldLine). AreSame f o.0) (first_lines front) (lines_named front o.0 o.1) in
        none (one_there (λ (f : HeldLine). AreSame f h) (first_lines front) n.0 n.1
        (same_trans n.0 o.0 h n.2 (same_are o.0 h o.2))))

    fresh : is_new base front h ≡ true
    fresh = ap₂ (λ (a b : Bool). a && not b) (eq-eqb (copies_before base h) 0 before) unnamed

    by : (v : Verb) → refusal_by v base front h ≡ None → rows_reached base front h.relation < ROWS
    by Add p =
        let full : (is_new base front h && nat_le ROWS (rows_reached base front h.relation)) ≡ false =
        or_second (nat_le COPIES (copies_after base front h))
        (is_new base front h && nat_le ROWS (rows_reached base front h.relation))
        (no_limit (nat_le COPIES (copies_after base front h)
        || (is_new base front h && nat_le ROWS (rows_reached base front h.relation))) p) in
        leb-false ROWS (rows_reached base front h.relation)
        (sym (ap (λ (b : Bool). b && nat_le ROWS (rows_reached base front h.relation)) fresh) ∙ full)
    by Delete p =
        let none_left : cond (copies_after base front h == 0) (Some Absent) None ≡ Some Absent =
        ap (λ (b : Bool). let o : Option LineRefusal = cond b (Some Absent) None in o)
        (eq-eqb (copies_after base front h) 0 after) in
        let both : Some Absent ≡ None = sym none_left ∙ p in
        absurd (cc both)

room_more : (base : List Relation) (texts : List Bytes) (front : List HeldLine) (h : HeldLine) → HaveRoom base front
    → line_refusal base texts front h ≡ None → HaveRoom base (front ++ h ∷ [])
room_more base texts front h room passes name some =
    by (list_any (λ (g : HeldLine). same_row g h) (first_lines front)) refl (is_new_of base name h) refl
  where
    by : (b : Bool) → list_any (λ (g : HeldLine). same_row g h) (first_lines front) ≡ b → (q : Bool)
        → is_new_of base name h ≡ q → rows_reached base (front ++ h ∷ []) name ≤ ROWS
    by true e q k =
        let same : news base (front ++ h ∷ []) name ≡ news base front name = news_more base front h name
        ∙ ap (λ (b : Bool). cond b (news base front name) (news base front name + cond (is_new_of base name h) 1 0)) e in
        omega (arith, same, room name (omega (arith, some, same)))
    by false e false k =
        let same : news base (front ++ h ∷ []) name ≡ news base front name + 0 = news_more base front h name
        ∙ ap₂ (λ (b c : Bool). cond b (news base front name) (news base front name + cond c 1 0)) e k in
        omega (arith, same, room name (omega (arith, some, same)))
    by false e true k =
        let more : news base (front ++ h ∷ []) name ≡ news base front name + 1 = news_more base front h name
        ∙ ap₂ (λ (b c : Bool). cond b (news base front name) (news base front name + cond c 1 0)) e k in
        let its : h.relation ≡ name = (bytes_eq-decides h.relation name).0
        (first_holds (bytes_eq h.relation name) (copies_before base h == 0) k) in
        let before : copies_before base h ≡ 0 = eqb-true (copies_before base h) 0
        (second_true (bytes_eq h.relation name) (copies_before base h == 0) k) in
        let less : rows_reached base front name < ROWS =
        subst (λ (n : Bytes). rows_reached base front n < ROWS) its
        (new_room base front h e before
        (none_first (row_refusal base front h) (texts_refusal (texts_after texts front) h) passes)) in
        omega (arith, more, less)

one_on : (xs : List HeldLine) (x : HeldLine) (ys : List HeldLine) → (xs ++ x ∷ []) ++ ys ≡ xs ++ x ∷ ys
one_on [] x ys = refl
one_on (z ∷ zs) x ys = ap (λ (hs : List HeldLine). z ∷ hs) (one_on zs x ys)

room_on : (base : List Relation) (texts : List Bytes) (front rest : List HeldLine) → HaveRoom base front
    → refusal_behind base texts front rest ≡ None → HaveRoom base (front ++ rest)
room_on base texts front [] room e = subst (λ (hs : List HeldLine). HaveRoom base hs) (sym (append-nil front)) room
room_on base texts front (h ∷ rest) room e =
    let first = refused_at (length front) (line_refusal base texts front h) in
    let later = refusal_behind base texts (front ++ h ∷ []) rest in
    let passes : line_refusal base texts front h ≡ None =
    none_mapped (λ (r : LineRefusal). let x : RefusedLine = record { at = length front; refusal = r } in x)
    (line_refusal base texts front h) (none_first first later e) in
    subst (λ (hs : List HeldLine). HaveRoom base hs) (one_on front h rest)
    (room_on base texts (front ++ h ∷ []) rest (room_more base texts front h room passes)
    (none_second first later e))

pub room_for : (base : List Relation) (texts : List Bytes) (lines : List HeldLine)
    → lines_refusal base texts lines ≡ None → HaveRoom base lines
room_for base texts lines e = room_on base texts [] lines (λ name some. absurd (omega (arith, some))) e

-- ---- how many rows a relation has, as they come

without_short : (rows : List CountedRow) (row : Tuple)
    → length (plain_of (without_copies rows row)) ≤ length (plain_of rows)
without_short [] row = omega arith
without_short (c ∷ rows) row = by (tuple_eq c.row row) (without_short rows row)
  where
    by : (b : Bool) → length (plain_of (without_copies rows row)) ≤ length (plain_of rows)
        → length (plain_of (cond b rows (c ∷ without_copies rows row))) ≤ length (plain_of (c ∷ rows))
    by true less = omega arith
    by false less = omega (arith, less)

many_long : (rows : List CountedRow) (row : Tuple) (n : ℕ)
    → length (plain_of (with_so_many rows row n)) ≤ length (plain_of rows) + 1
many_long rows row zero = omega (arith, without_short rows row)
many_long rows row (suc n) = by (has_row (plain_of rows) row)
  where
    last : CountedRow
    last = record { row = row; copies = suc n }

    by : (b : Bool) → length (plain_of (cond b (with_copies rows row (suc n))
        (rows ++ record { row = row; copies = suc n } ∷ []))) ≤ length (plain_of rows) + 1
    by true = omega (arith, ap (λ (ts : List Tuple). length ts) (tuples_with_copies rows row (suc n)))
    by false = omega (
      arith,
      ap (λ (ts : List Tuple). length ts)
          (map-append (λ (c : CountedRow). c.row) rows (record { row = row; copies = suc n } ∷ [])),
      length-append (plain_of rows) (row ∷ []),
    )

abbrev one_if : Bool → ℕ
one_if b = cond b 1 0

step_long : (base : List Relation) (lines : List HeldLine) (now : List Relation) (g : HeldLine) (name : Bytes)
    → length (rows_of (with_copies_left base lines now g) name)
    ≤ length (rows_of now name) + cond (bytes_eq g.relation name) 1 0
step_long base lines now g name =
    elsewhere_or_here (λ (rs : List CountedRow). length (plain_of rs)
    ≤ length (rows_of now name) + cond (bytes_eq g.relation name) 1 0) now g.relation name
    (with_so_many (counted_of now g.relation) g.row (copies_after base lines g)) (omega arith)
    (λ same. subst (λ (n : Bytes). length (plain_of (with_so_many (counted_of now g.relation) g.row
    (copies_after base lines g))) ≤ length (rows_of now n) + cond (bytes_eq g.relation n) 1 0) same
    (let yes : one_if (bytes_eq g.relation g.relation) ≡ one_if true =
    ap one_if ((bytes_eq-decides g.relation g.relation).1 refl) in
    omega (arith, yes, many_long (counted_of now g.relation) g.row (copies_after base lines g))))

pub all_long : (base : List Relation) (lines : List HeldLine) (now : List Relation) (gs : List HeldLine) (name : Bytes)
    → length (rows_of (fold (with_copies_left base lines) now gs) name)
    ≤ length (rows_of now name) + length (filter (λ g. bytes_eq g.relation name) gs)
all_long base lines now [] name = omega arith
all_long base lines now (g ∷ gs) name =
    omega (
      arith,
      all_long base lines (with_copies_left base lines now g) gs name,
      step_long base lines now g name,
      counted (bytes_eq g.relation name) g (filter (λ (k : HeldLine). bytes_eq k.relation name) gs),
    )

-- ---- the rows that come are among those that lines add

come_few : (base : List Relation) (lines : List HeldLine) (name : Bytes) (gs : List HeldLine)
    → length (filter (λ g. bytes_eq g.relation name) (filter (line_comes base lines) gs))
    ≤ length (filter (is_new_of base name) gs)
come_few base lines name [] = omega arith
come_few base lines name (g ∷ gs) =
    by (bytes_eq g.relation name) (copies_before base g == 0) (nat_lt 0 (copies_after base lines g)) refl refl
    (come_few base lines name gs)
  where
    by : (a b c : Bool) → bytes_eq g.relation name ≡ a → (copies_before base g == 0) ≡ b
        → length (filter (λ (k : HeldLine). bytes_eq k.relation name) (filter (line_comes base lines) gs))
        ≤ length (filter (is_new_of base name) gs)
        → length (filter (λ (k : HeldLine). bytes_eq k.relation name)
        (cond (b && c) (g ∷ filter (line_comes base lines) gs) (filter (line_comes base lines) gs)))
        ≤ length (cond (a && b) (g ∷ filter (is_new_of base name) gs) (filter (is_new_of base name) gs))
    by a false c e k less = omega (arith, less, longer (a && false))
      where
        longer : (t : Bool) → length (filter (is_new_of base name) gs)
            ≤ length (cond t (g ∷ filter (is_new_of base name) gs) (filter (is_new_of base name) gs))
        longer true = omega arith
        longer false = omega arith
    by a true false e k less = omega (arith, less, longer (a && true))
      where
        longer : (t : Bool) → length (filter (is_new_of base name) gs)
            ≤ length (cond t (g ∷ filter (is_new_of base name) gs) (filter (is_new_of base name) gs))
        longer true = omega arith
        longer false = omega arith
    by true true true e k less = omega (
      arith,
      less,
      counted (bytes_eq g.relation name) g
          (filter (λ (k : HeldLine). bytes_eq k.relation name) (filter (line_comes base lines) gs)),
      ap one_if e,
    )
    by false true true e k less = omega (
      arith,
      less,
      counted (bytes_eq g.relation name) g
          (filter (λ (k : HeldLine). bytes_eq k.relation name) (filter (line_comes base lines) gs)),
      ap one_if e,
    )

front_few : (q : HeldLine → Bool) (n : ℕ) (hs : List HeldLine)
    → length (filter q (take n hs)) ≤ length (filter q hs)
front_few q n hs = omega (
  arith,
  length-append (filter q (take n hs)) (filter q (drop n hs)),
  ap (λ (gs : List HeldLine). length gs) (filter-append q (take n hs) (drop n hs)),
  ap (λ (gs : List HeldLine). length (filter q gs)) (take-append-drop n hs),
)

-- before a row that comes fewer have come than lines add
pub come_before : (base : List Relation) (lines : List HeldLine) (place : ℕ) (h : HeldLine)
    → take (place + 1) (first_lines lines) ≡ take place (first_lines lines) ++ h ∷ []
    → copies_before base h ≡ 0
    → length (filter (λ g. bytes_eq g.relation h.relation)
    (filter (line_comes base lines) (take place (first_lines lines))))
    < news base lines h.relation
come_before base lines place h more before =
    let q = is_new_of base h.relation in
    let firsts = first_lines lines in
    let yes : q h ≡ true = ap₂ (λ (a b : Bool). a && b) ((bytes_eq-decides h.relation h.relation).1 refl)
    (eq-eqb (copies_before base h) 0 before) in
    let all : length (filter q (take (place + 1) firsts)) ≡ length (filter q (take place firsts)) + 1 =
    ap (λ (hs : List HeldLine). length (filter q hs)) more
    ∙ ap (λ (hs : List HeldLine). length hs) (filter-append q (take place firsts) (h ∷ []))
    ∙ length-append (filter q (take place firsts)) (cond (q h) (h ∷ []) [])
    ∙ ap (λ (b : Bool). length (filter q (take place firsts)) + length (cond b (h ∷ []) [])) yes in
    omega (arith, come_few base lines h.relation (take place firsts), all, front_few q (place + 1) firsts)
