-- The items of a query's body, and the command that they make.
use Rattle.std.proofs.Common.{◌≡◌, ℕ, zero, suc, ◌<◌, ◌≤◌, List, [], ◌∷◌, ◌++◌, ◌&&◌, Bool, true, false, cond, length}
use Rattle.std.proofs.Common.{Option, Some, None, option_map, Result, Ok, Err, refl, sym, ap, subst, ◌∙◌, arith}
use Rattle.std.proofs.Common.{append_assoc, append-nil, length-append}
use Rattle.std.specs.List.{list_all}
use Rattle.std.proofs.lemmas.Bool.{cond-true, true≢false}
use Rattle.djq_model.specs.declared.value.Value.{Value}
use Rattle.djq_model.specs.declared.query.Term.{Term}
use Rattle.djq_model.specs.declared.query.Atom.{Atom}
use Rattle.djq_model.specs.declared.query.Operator.{Operator}
use Rattle.djq_model.specs.declared.query.Comparison.{Comparison}
use Rattle.djq_model.specs.declared.relation.ColumnType.{ColumnType}
use Rattle.djq_model.specs.declared.query.Query.{Query}
use Rattle.djq_model.specs.Data.{Bytes}
use Rattle.djq_value.specs.Token.{Token, word, text, open_paren, close_paren, comma, arrow, operator, stray}
use Rattle.djq_value.specs.Literal.{is_name, is_small_value, literal_of}
use Rattle.djq_protocol.specs.declared.command.Command.TheVariants.{Rel, Query as Register, Union}
use Rattle.djq_protocol.specs.Grammar.{Body, Item, atom, is_small_atom, comparison, atom_in, atom_over, behind_item}
use Rattle.djq_protocol.specs.Grammar.{body_in, compared, item_in, items_in, items_within, list_in, more_in, name_of}
use Rattle.djq_protocol.specs.Grammar.{past_item, put_first, put_item, query_of_tokens, query_of, term_of}
use Rattle.djq_parser.specs.declared.body.Parts.{Parts}
use Rattle.djq_parser.specs.declared.refusal.LineRefusal.{LineRefusal}
use Rattle.djq_parser.specs.declared.refusal.LineRefusal.TheVariants.{Syntax, Range, NoMem}
use Rattle.djq_parser.specs.Bodies.{HasOneMore, BodyIsRead, ReadsOn, constant_in, comparison_behind, has_atom_in}
use Rattle.djq_parser.specs.Bodies.{with_item}
use Rattle.djq_parser.specs.Reading.{ReadsAs, ReadsPart, is_comma, is_outside, is_small_body, is_small_query}
use Rattle.djq_parser.specs.Reading.{GivesCommand}
use Rattle.djq_parser.proofs.ItemLists.{all_last, all_true}

-- ---- The items of a query's body, one after the other.

-- Behind an item, a list or an atom are fewer tokens than so many.
abbrev IsShorter : {A : Type 0} → ℕ → Option (A × List Token) → Type 0
IsShorter n None = Unit {0}
IsShorter n (Some p) = length p.1 < n

put_first_shorter : {A : Type 0} (item : Option A) (o : Option (List A × List Token)) (m n : ℕ) → m ≤ n → IsShorter m o
    → IsShorter n (put_first item o)
put_first_shorter None o m n le h = tt
put_first_shorter (Some a) None m n le h = tt
put_first_shorter (Some a) (Some p) m n le h = omega (arith, h)

more_shorter : {A : Type 0} (item : Token → Option A) (ts : List Token) → IsShorter (length ts) (more_in item ts)
more_shorter item [] = tt
more_shorter item (close_paren ∷ ts) = omega arith
more_shorter item (comma ∷ []) = tt
more_shorter item (comma ∷ t ∷ ts) = put_first_shorter (item t) (more_in item ts) (length ts) (suc (suc (length ts)))
    (omega arith) (more_shorter item ts)
more_shorter item (word w ∷ ts) = tt
more_shorter item (text t ∷ ts) = tt
more_shorter item (open_paren ∷ ts) = tt
more_shorter item (arrow ∷ ts) = tt
more_shorter item (operator o ∷ ts) = tt
more_shorter item (stray ∷ ts) = tt

list_shorter : {A : Type 0} (item : Token → Option A) (ts : List Token) → IsShorter (length ts) (list_in item ts)
list_shorter item [] = tt
list_shorter item (open_paren ∷ []) = tt
list_shorter item (open_paren ∷ close_paren ∷ ts) = omega arith
list_shorter item (open_paren ∷ word w ∷ ts) = put_first_shorter (item (word w)) (more_in item ts) (length ts)
    (suc (suc (length ts))) (omega arith) (more_shorter item ts)
list_shorter item (open_paren ∷ text t ∷ ts) = put_first_shorter (item (text t)) (more_in item ts) (length ts)
    (suc (suc (length ts))) (omega arith) (more_shorter item ts)
list_shorter item (open_paren ∷ open_paren ∷ ts) = put_first_shorter (item open_paren) (more_in item ts) (length ts)
    (suc (suc (length ts))) (omega arith) (more_shorter item ts)
list_shorter item (open_paren ∷ comma ∷ ts) = put_first_shorter (item comma) (more_in item ts) (length ts)
    (suc (suc (length ts))) (omega arith) (more_shorter item ts)
list_shorter item (open_paren ∷ arrow ∷ ts) = put_first_shorter (item arrow) (more_in item ts) (length ts)
    (suc (suc (length ts))) (omega arith) (more_shorter item ts)
list_shorter item (open_paren ∷ operator o ∷ ts) = put_first_shorter (item (operator o)) (more_in item ts) (length ts)
    (suc (suc (length ts))) (omega arith) (more_shorter item ts)
list_shorter item (open_paren ∷ stray ∷ ts) = put_first_shorter (item stray) (more_in item ts) (length ts)
    (suc (suc (length ts))) (omega arith) (more_shorter item ts)
list_shorter item (close_paren ∷ ts) = tt
list_shorter item (comma ∷ ts) = tt
list_shorter item (word w ∷ ts) = tt
list_shorter item (text t ∷ ts) = tt
list_shorter item (arrow ∷ ts) = tt
list_shorter item (operator o ∷ ts) = tt
list_shorter item (stray ∷ ts) = tt

over_shorter : (b : Bool) (r : Bytes) (o : Option (List _ × List Token)) (n : ℕ) → IsShorter n o
    → IsShorter (suc n) (cond b (option_map (atom_over r) o) None)
over_shorter false r o n h = tt
over_shorter true r None n h = tt
over_shorter true r (Some p) n h = omega (arith, h)

atom_shorter : (ts : List Token) → IsShorter (length ts) (atom_in ts)
atom_shorter [] = tt
atom_shorter (word r ∷ ts) = over_shorter (is_name r) r (list_in term_of ts) (length ts) (list_shorter term_of ts)
atom_shorter (text t ∷ ts) = tt
atom_shorter (open_paren ∷ ts) = tt
atom_shorter (close_paren ∷ ts) = tt
atom_shorter (comma ∷ ts) = tt
atom_shorter (arrow ∷ ts) = tt
atom_shorter (operator o ∷ ts) = tt
atom_shorter (stray ∷ ts) = tt

-- Behind an item are fewer tokens too.

constant_shorter : (b : Bool) (make : Value → Item) (o : Option Value) (ts : List Token)
    → IsShorter (suc (suc (suc (length ts))))
    (cond b (option_map {U = Item × List Token} (λ (v : Value). (make v, ts)) o) None)
constant_shorter false make o ts = tt
constant_shorter true make None ts = tt
constant_shorter true make (Some v) ts = omega arith

atom_item_shorter : (o : Option (Atom × List Token)) (n : ℕ) → IsShorter n o
    → IsShorter n (option_map {U = Item × List Token} (λ (r : Atom × List Token). (atom r.0, r.1)) o)
atom_item_shorter None n h = tt
atom_item_shorter (Some p) n h = h

item_shorter : (n : ℕ) (ts : List Token) → IsShorter (length ts) (item_in n ts)
item_shorter n [] = tt
item_shorter n (word x ∷ operator o ∷ []) = tt
item_shorter n (word x ∷ operator o ∷ t ∷ ts) = constant_shorter (is_name x) (λ v. comparison (compared n x o v))
    (literal_of t) ts
item_shorter n (word x ∷ []) = atom_item_shorter (atom_in (word x ∷ [])) (length (word x ∷ []))
    (atom_shorter (word x ∷ []))
item_shorter n (word x ∷ word w ∷ ts) = atom_item_shorter (atom_in (word x ∷ word w ∷ ts))
    (length (word x ∷ word w ∷ ts)) (atom_shorter (word x ∷ word w ∷ ts))
item_shorter n (word x ∷ text t ∷ ts) = atom_item_shorter (atom_in (word x ∷ text t ∷ ts))
    (length (word x ∷ text t ∷ ts)) (atom_shorter (word x ∷ text t ∷ ts))
item_shorter n (word x ∷ open_paren ∷ ts) = atom_item_shorter (atom_in (word x ∷ open_paren ∷ ts))
    (length (word x ∷ open_paren ∷ ts)) (atom_shorter (word x ∷ open_paren ∷ ts))
item_shorter n (word x ∷ close_paren ∷ ts) = atom_item_shorter (atom_in (word x ∷ close_paren ∷ ts))
    (length (word x ∷ close_paren ∷ ts)) (atom_shorter (word x ∷ close_paren ∷ ts))
item_shorter n (word x ∷ comma ∷ ts) = atom_item_shorter (atom_in (word x ∷ comma ∷ ts)) (length (word x ∷ comma ∷ ts))
    (atom_shorter (word x ∷ comma ∷ ts))
item_shorter n (word x ∷ arrow ∷ ts) = atom_item_shorter (atom_in (word x ∷ arrow ∷ ts)) (length (word x ∷ arrow ∷ ts))
    (atom_shorter (word x ∷ arrow ∷ ts))
item_shorter n (word x ∷ stray ∷ ts) = atom_item_shorter (atom_in (word x ∷ stray ∷ ts)) (length (word x ∷ stray ∷ ts))
    (atom_shorter (word x ∷ stray ∷ ts))
item_shorter n (text t ∷ ts) = atom_item_shorter (atom_in (text t ∷ ts)) (length (text t ∷ ts))
    (atom_shorter (text t ∷ ts))
item_shorter n (open_paren ∷ ts) = atom_item_shorter (atom_in (open_paren ∷ ts)) (length (open_paren ∷ ts))
    (atom_shorter (open_paren ∷ ts))
item_shorter n (close_paren ∷ ts) = atom_item_shorter (atom_in (close_paren ∷ ts)) (length (close_paren ∷ ts))
    (atom_shorter (close_paren ∷ ts))
item_shorter n (comma ∷ ts) = atom_item_shorter (atom_in (comma ∷ ts)) (length (comma ∷ ts)) (atom_shorter (comma ∷ ts))
item_shorter n (arrow ∷ ts) = atom_item_shorter (atom_in (arrow ∷ ts)) (length (arrow ∷ ts)) (atom_shorter (arrow ∷ ts))
item_shorter n (operator o ∷ ts) = atom_item_shorter (atom_in (operator o ∷ ts)) (length (operator o ∷ ts))
    (atom_shorter (operator o ∷ ts))
item_shorter n (stray ∷ ts) = atom_item_shorter (atom_in (stray ∷ ts)) (length (stray ∷ ts)) (atom_shorter (stray ∷ ts))

-- As many steps as there are tokens are enough, and more change nothing.
step_same : (n : ℕ) (o : Option (Item × List Token)) (k : ℕ) (f g : ℕ → List Token → Option Body) → IsShorter (suc k) o
    → ((m : ℕ) (ts : List Token) → length ts < k → f m ts ≡ g m ts) → behind_item f n o ≡ behind_item g n o
step_same n None k f g s h = refl
step_same n (Some (i, [])) k f g s h = refl
step_same n (Some (i, comma ∷ ts)) k f g s h = ap (put_item i) (h (past_item n i) ts (omega (arith, s)))
step_same n (Some (i, word w ∷ ts)) k f g s h = refl
step_same n (Some (i, text t ∷ ts)) k f g s h = refl
step_same n (Some (i, open_paren ∷ ts)) k f g s h = refl
step_same n (Some (i, close_paren ∷ ts)) k f g s h = refl
step_same n (Some (i, arrow ∷ ts)) k f g s h = refl
step_same n (Some (i, operator o ∷ ts)) k f g s h = refl
step_same n (Some (i, stray ∷ ts)) k f g s h = refl

within_same : (k l n : ℕ) (ts : List Token) → length ts ≤ k → length ts ≤ l → items_within k n ts ≡ items_within l n ts
within_same zero zero n ts h j = refl
within_same zero (suc l) n [] h j = refl
within_same zero (suc l) n (t ∷ ts) h j = absurd (omega (arith, h))
within_same (suc k) zero n [] h j = refl
within_same (suc k) zero n (t ∷ ts) h j = absurd (omega (arith, j))
within_same (suc k) (suc l) n ts h j = within_less (item_in n ts) (length ts) k l n h j (item_shorter n ts)
    (λ m us. within_same k l m us)
  where
    within_less : (o : Option (Item × List Token)) (most k l n : ℕ) → most ≤ suc k → most ≤ suc l → IsShorter most o
        → ((m : ℕ) (us : List Token) → length us ≤ k → length us ≤ l → items_within k m us ≡ items_within l m us)
        → behind_item (items_within k) n o ≡ behind_item (items_within l) n o
    within_less None most k l n h j s same = refl
    within_less (Some (i, [])) most k l n h j s same = refl
    within_less (Some (i, comma ∷ us)) most k l n h j s same = ap (put_item i)
        (same (past_item n i) us (omega (arith, s, h)) (omega (arith, s, j)))
    within_less (Some (i, word w ∷ us)) most k l n h j s same = refl
    within_less (Some (i, text t ∷ us)) most k l n h j s same = refl
    within_less (Some (i, open_paren ∷ us)) most k l n h j s same = refl
    within_less (Some (i, close_paren ∷ us)) most k l n h j s same = refl
    within_less (Some (i, arrow ∷ us)) most k l n h j s same = refl
    within_less (Some (i, operator o ∷ us)) most k l n h j s same = refl
    within_less (Some (i, stray ∷ us)) most k l n h j s same = refl

-- The first item, and then those of what is behind it.
pub items_in-step : (n : ℕ) (ts : List Token) → items_in n ts ≡ behind_item items_in n (item_in n ts)
unfolding items_in
items_in-step n [] = refl
items_in-step n (t ∷ ts) = step_same n (item_in n (t ∷ ts)) (length ts) (items_within (length ts))
    (λ m us. items_within (length us) m us) (item_shorter n (t ∷ ts))
    (λ m us h. within_same (length ts) (length us) m us (omega (arith, h)) (omega arith))

-- Items in front of others.

abbrev pub onto : Body → Option Body → Option Body
onto b None = None
onto b (Some c) = Some (b.0 ++ c.0, b.1 ++ c.1)

onto-more : (b : Body) (i : Item) (o : Option Body) → onto b (put_item i o) ≡ onto (with_item b i) o
onto-more b (atom a) None = refl
onto-more b (comparison c) None = refl
onto-more b (atom a) (Some more) = ap (λ (bs : List Atom). Some (bs, b.1 ++ more.1))
    (sym (append_assoc b.0 (a ∷ []) more.0))
onto-more b (comparison c) (Some more) = ap (λ (cs : List Comparison). Some (b.0 ++ more.0, cs))
    (sym (append_assoc b.1 (c ∷ []) more.1))

onto-last : (b : Body) (i : Item) → onto b (put_item i (Some ([], []))) ≡ Some (with_item b i)
onto-last b (atom a) = ap (λ (cs : List Comparison). Some (b.0 ++ a ∷ [], cs)) (append-nil b.1)
onto-last b (comparison c) = ap (λ (bs : List Atom). Some (bs, b.1 ++ c ∷ [])) (append-nil b.0)

-- an item more is one atom more where it is an atom
counted : (b : Body) (i : Item) → past_item (length b.0) i ≡ length (with_item b i).0
counted b (atom a) = omega (arith, length-append b.0 (a ∷ []))
counted b (comparison c) = refl

-- What was read of items, where another one is in front.
pub record PartsSoFar (start rest : List Token) (parts : Parts) : Type 0 where
  pub read : Body
  pub split : items_in 0 start ≡ onto read (items_in (length read.0) rest)
  pub kept : BodyIsRead read parts

-- what reading an item gave, where it gave something
pub on_some : (b : Body) (o : Option (Item × List Token)) (p : Parts) (left : List Token) → ReadsOn b o (Some p) left
    → (i : Item) × (o ≡ Some (i, left)) × BodyIsRead (with_item b i) p
on_some b None p left h = absurd (cc)
on_some b (Some q) p left h = (q.0, ap (λ us. Some (q.0, us)) (sym h.1), h.0)

-- and where it gave nothing, nothing is there
pub on_none : (b : Body) (o : Option (Item × List Token)) (left : List Token) → ReadsOn b o None left → o ≡ None
on_none b None left h = refl
on_none b (Some q) left h = absurd (h.0)

-- what is behind an item is shorter
pub item_less : (n : ℕ) (ts mid : List Token) (i : Item) → item_in n ts ≡ Some (i, mid) → length mid < length ts
item_less n ts mid i e = subst (IsShorter (length ts)) e (item_shorter n ts)

-- one more item, and a comma
pub parts_more : (start rest mid new : List Token) (old more : Parts) (h : PartsSoFar start rest old) (i : Item)
    → item_in (length h.read.0) rest ≡ Some (i, mid) → mid ≡ comma ∷ new → BodyIsRead (with_item h.read i) more
    → PartsSoFar start new more
parts_more start rest mid new old more h i is e kept = record {
  read = with_item h.read i;
  split = h.split ∙ ap (onto h.read)
      (items_in-step (length h.read.0) rest
      ∙ ap (behind_item items_in (length h.read.0)) (is ∙ ap (λ us. Some (i, us)) e))
      ∙ onto-more h.read i (items_in (past_item (length h.read.0) i) new)
      ∙ ap (λ n. onto (with_item h.read i) (items_in n new)) (counted h.read i);
  kept = kept;
}

-- the last item
pub parts_done : (start rest mid : List Token) (old more : Parts) (h : PartsSoFar start rest old) (i : Item)
    → item_in (length h.read.0) rest ≡ Some (i, mid) → mid ≡ [] → items_in 0 start ≡ Some (with_item h.read i)
parts_done start rest mid old more h i is e =
    h.split ∙ ap (onto h.read)
    (items_in-step (length h.read.0) rest
    ∙ ap (behind_item items_in (length h.read.0)) (is ∙ ap (λ us. Some (i, us)) e)) ∙ onto-last h.read i

-- what is no item, or no comma behind one, ends it
pub parts_none : (start rest : List Token) (old : Parts) (h : PartsSoFar start rest old)
    → behind_item items_in (length h.read.0) (item_in (length h.read.0) rest) ≡ None → items_in 0 start ≡ None
parts_none start rest old h e = h.split ∙ ap (onto h.read) (items_in-step (length h.read.0) rest ∙ e)

-- a token that is no comma behind an item
pub behind_other : (n : ℕ) (i : Item) (t : Token) (ts : List Token) (more : ℕ → List Token → Option Body) → is_comma t
    ≡ false → behind_item more n (Some (i, t ∷ ts)) ≡ None
behind_other n i comma ts more other = absurd (cc)
behind_other n i (word w) ts more other = refl
behind_other n i (text t) ts more other = refl
behind_other n i open_paren ts more other = refl
behind_other n i close_paren ts more other = refl
behind_other n i arrow ts more other = refl
behind_other n i (operator o) ts more other = refl
behind_other n i stray ts more other = refl

-- An item more at the end.

-- whether the literals of a body with an atom more are in range
pub small_atom : (b : Body) (a : Atom) → is_small_body (with_item b (atom a)) ≡ (is_small_body b && is_small_atom a)
small_atom b a = ap (λ t. t && list_all (λ (c : Comparison). is_small_value c.constant) b.1)
    (all_last is_small_atom b.0 a)
    ∙ turn (list_all is_small_atom b.0) (is_small_atom a) (list_all (λ (c : Comparison). is_small_value c.constant) b.1)
  where
    turn : (x y z : Bool) → ((x && y) && z) ≡ ((x && z) && y)
    turn true true true = refl
    turn true true false = refl
    turn true false true = refl
    turn true false false = refl
    turn false true true = refl
    turn false true false = refl
    turn false false true = refl
    turn false false false = refl

-- and with a comparison more
pub small_comparison : (b : Body) (c : Comparison) → is_small_body (with_item b (comparison c))
    ≡ (is_small_body b && is_small_value c.constant)
small_comparison b c = ap (λ t. list_all is_small_atom b.0 && t)
    (all_last (λ (d : Comparison). is_small_value d.constant) b.1 c)
    ∙ turn (list_all is_small_atom b.0) (list_all (λ (d : Comparison). is_small_value d.constant) b.1)
    (is_small_value c.constant)
  where
    turn : (x y z : Bool) → (x && (y && z)) ≡ ((x && y) && z)
    turn true y z = refl
    turn false y z = refl

-- an atom that was pushed
pub atom_pushed : (atoms new : List Atom) (comparisons : List Comparison) (terms ts : List Term) (b : Body) (r : Bytes)
    → ◌≡◌ {A = Body × List Term} ((atoms, comparisons), terms) (b, ts) → new
    ≡ atoms ++ record { relation = r; terms = terms } ∷ []
    → ◌≡◌ {A = Body} (new, comparisons) (with_item b (atom (record { relation = r; terms = ts })))
atom_pushed atoms new comparisons terms ts b r same e =
    ap {B = Body} (λ (xs : List Atom). (xs, comparisons)) e
    ∙ ap (λ (p : Body × List Term). with_item p.0 (atom (record { relation = r; terms = p.1 }))) same

-- a comparison that was pushed
pub comparison_pushed : (atoms : List Atom) (comparisons new : List Comparison) (v w : Value) (n : ℕ) (b : Body)
    (x : Bytes) (o : Operator) → ◌≡◌ {A = Body × Value} ((atoms, comparisons), v) (b, w) → n ≡ length atoms → new
    ≡ comparisons ++ compared n x o v ∷ []
    → ◌≡◌ {A = Body} (atoms, new) (with_item b (comparison_behind (length b.0) x o w))
comparison_pushed atoms comparisons new v w n b x o same count e =
    ap {B = Body} (λ (cs : List Comparison). (atoms, cs)) (e ∙ ap (λ k. comparisons ++ compared k x o v ∷ []) count)
    ∙ ap (λ (p : Body × Value). with_item p.0 (comparison_behind (length p.0.0) x o p.1)) same

-- A body with an atom more has one,
pub atom_there : (b : Body) (a : Atom) → true ≡ has_atom_in (with_item b (atom a))
atom_there ([], comparisons) a = refl
atom_there (c ∷ atoms, comparisons) a = refl

-- and one with a comparison more has one where it had.
pub atom_still : (b : Body) (c : Comparison) → has_atom_in b ≡ has_atom_in (with_item b (comparison c))
atom_still ([], comparisons) c = refl
atom_still (a ∷ atoms, comparisons) c = refl

-- An item in front.

-- an atom where a `(` is behind the name
pub atom_split : (n : ℕ) (old ts : List Token) (x : Bytes) → old ≡ word x ∷ open_paren ∷ ts → is_name x ≡ true
    → item_in n old ≡ option_map {U = Item × List Token}
    (λ (r : List Term × List Token). (atom (record { relation = x; terms = r.0 }), r.1))
    (list_in term_of (open_paren ∷ ts))
atom_split n old ts x e named =
    ap (item_in n) e ∙ ap (option_map {U = Item × List Token} (λ (r : Atom × List Token). (atom r.0, r.1)))
    (cond-true _ _ _ named) ∙ twice (list_in term_of (open_paren ∷ ts))
  where
    twice : (o : Option (List Term × List Token))
        → option_map {U = Item × List Token} (λ (r : Atom × List Token). (atom r.0, r.1)) (option_map (atom_over x) o)
        ≡ option_map {U = Item × List Token}
        (λ (r : List Term × List Token). (atom (record { relation = x; terms = r.0 }), r.1)) o
    twice None = refl
    twice (Some r) = refl

-- a comparison where a sign is behind it
pub comparison_split : (n : ℕ) (old ts : List Token) (x : Bytes) (o : Operator) → old ≡ word x ∷ operator o ∷ ts
    → is_name x ≡ true
    → item_in n old ≡ option_map {U = Item × List Token}
    (λ (r : Value × List Token). (comparison_behind n x o r.0, r.1)) (constant_in ts)
comparison_split n old [] x o e named = ap (item_in n) e
comparison_split n old (t ∷ ts) x o e named = ap (item_in n) e ∙ cond-true _ _ _ named ∙ twice (literal_of t)
  where
    twice : (c : Option Value)
        → option_map {U = Item × List Token} (λ (v : Value). (comparison (compared n x o v), ts)) c
        ≡ option_map {U = Item × List Token} (λ (r : Value × List Token). (comparison_behind n x o r.0, r.1))
        (option_map {U = Value × List Token} (λ (v : Value). (v, ts)) c)
    twice None = refl
    twice (Some v) = refl

-- what was made of an item, in front of other tokens
pub on_part : {A : Type 0} (b : Body) (in_range : A → Bool) (make : A → Item) (o : Option (A × List Token))
    (r : Result A LineRefusal) (parts : Option Parts) (left : List Token) → ReadsPart in_range o r left
    → ((p : Option A) → ReadsAs in_range p r → HasOneMore b (option_map make p) parts)
    → ReadsOn b (option_map {U = Item × List Token} (λ (q : A × List Token). (make q.0, q.1)) o) parts left
on_part b in_range make None r parts left h more = more None h
on_part b in_range make (Some q) r parts left h more = (more (Some q.0) h.0, h.1)

pub comma_is : (t : Token) → is_comma t ≡ true → t ≡ comma
comma_is comma e = refl
comma_is (word w) e = absurd (cc)
comma_is (text t) e = absurd (cc)
comma_is open_paren e = absurd (cc)
comma_is close_paren e = absurd (cc)
comma_is arrow e = absurd (cc)
comma_is (operator o) e = absurd (cc)
comma_is stray e = absurd (cc)

-- a list that was read, and what is behind it
pub part_some : {A : Type 0} (in_range : A → Bool) (o : Option (A × List Token)) (r : Result A LineRefusal)
    (new : List Token) → ReadsPart in_range o r new → is_outside r ≡ false
    → (x : A) × (o ≡ Some (x, new)) × ReadsAs in_range (Some x) r
part_some in_range (Some p) r new h inside = (p.0, ap (λ us. Some (p.0, us)) (sym h.1), h.0)
part_some in_range None (Ok a) new h inside = absurd (cc)
part_some in_range None (Err Syntax) new h inside = absurd (cc)
part_some in_range None (Err Range) new h inside = absurd (cc)
part_some in_range None (Err NoMem) new h inside = absurd (cc)

-- a query whose body is refused
pub body_refused : (n : Bytes) (head : List Bytes) (o : Option Body) (e : LineRefusal) → ReadsAs is_small_body o (Err e)
    → ReadsAs is_small_query
    (option_map (λ (b : Body). record { name = n; head = head; atoms = b.0; comparisons = b.1 }) o) (Err e)
body_refused n head None e h = cc
body_refused n head (Some b) Syntax h = absurd h
body_refused n head (Some b) Range h = h
body_refused n head (Some b) NoMem h = h

-- a query whose head is refused
pub head_refused : (n : Bytes) (head : List Bytes) (o : Option Body) (body : Body) (e : LineRefusal)
    → ReadsAs (list_all (λ _. true)) (Some head) (Err e) → ReadsAs is_small_body o (Ok body)
    → ReadsAs is_small_query
    (option_map (λ (b : Body). record { name = n; head = head; atoms = b.0; comparisons = b.1 }) o) (Err e)
head_refused n head None body e h k = absurd (cc)
head_refused n head (Some b) body Syntax h k = absurd h
head_refused n head (Some b) body Range h k = absurd (true≢false (sym (all_true head) ∙ h))
head_refused n head (Some b) body NoMem h k = k.1

-- what stands behind the name of a query and its head
pub query_split : (old mid rest : List Token) (n : Bytes) (head : List Bytes) → old ≡ word n ∷ mid → is_name n ≡ true
    → list_in name_of mid ≡ Some (head, rest)
    → query_of_tokens old ≡ option_map (λ (b : Body). record { name = n; head = head; atoms = b.0; comparisons = b.1 })
    (body_in rest)
query_split old mid rest n head e named some = ap query_of_tokens e ∙ cond-true _ _ _ named ∙ ap (query_of n) some

-- ---- From what was read behind a keyword to the command.

-- a relation that is refused
pub rel_refused : (o : Option (Bytes × List ColumnType)) (e : LineRefusal)
    → ReadsAs (λ p. list_all (λ _. true) p.1) o (Err e) → GivesCommand (option_map (λ p. Rel p.0 p.1) o) (Err e)
rel_refused None e h = (cc, tt)
rel_refused (Some p) Syntax h = absurd h
rel_refused (Some p) Range h = absurd (true≢false (sym (all_true p.1) ∙ h))
rel_refused (Some p) NoMem h = (refl, refl)

-- a union that is refused
pub union_refused : (o : Option (Bytes × List Bytes)) (e : LineRefusal)
    → ReadsAs (λ p. list_all (λ _. true) p.1) o (Err e) → GivesCommand (option_map (λ p. Union p.0 p.1) o) (Err e)
union_refused None e h = (cc, tt)
union_refused (Some p) Syntax h = absurd h
union_refused (Some p) Range h = absurd (true≢false (sym (all_true p.1) ∙ h))
union_refused (Some p) NoMem h = (refl, refl)

-- a query that is refused
pub query_refused : (o : Option Query) (e : LineRefusal) → ReadsAs is_small_query o (Err e)
    → GivesCommand (option_map (λ q. Register q) o) (Err e)
query_refused None e h = (cc, tt)
query_refused (Some q) Syntax h = absurd h
query_refused (Some q) Range h = (h, tt)
query_refused (Some q) NoMem h = (h, refl)

-- a query that is kept
pub query_made : (o : Option Query) (q : Query) → ReadsAs is_small_query o (Ok q)
    → GivesCommand (option_map (λ q. Register q) o) (Ok (Register q))
query_made None q h = absurd (cc)
query_made (Some p) q h = ((ap (λ x. Register x) h.0, h.1), tt)
