-- What an input comes to in a mirror is all that it comes to.
use Rattle.std.specs.Prelude.{List, [], ◌∷◌, ◌≡◌, ◌&&◌, ◌||◌, Bool, true, false, not, cond, filter, ℕ, ◌++◌, ◌≢◌}
use Rattle.std.specs.Prelude.{Option, None, Some}
use Rattle.std.specs.List.{AllByRecursion}
use Rattle.std.specs.List.Sorted.{IsStrictlySortedBy}
use Rattle.std.specs.Cmp.Lexicographic.{slice_cmp, nat_list_cmp_total}
use Rattle.std.proofs.Common.{Ordering, Less, Equal, Greater, refl, sym, ap, ◌∙◌, subst, ap₂, append_assoc}
use Rattle.std.specs.Ordering.{nat_cmp, is_eq, ordering_reverse, match_ordering}
use Rattle.std.specs.BTreeSet.{insert_key}
use Rattle.std.proofs.lemmas.Map.Text.{is_eq-slice_cmp}
use Rattle.std.proofs.lemmas.List.Kept.{IsStrictlySortedBy-filter}
use Rattle.std.proofs.lemmas.List.Elements.{All-head, All-tail}
use Rattle.std.proofs.lemmas.Bool.{both_ways}
use Rattle.djq_model.specs.Data.{Bytes, bytes_eq}
use Rattle.djq_model.specs.Equality.{bytes_eq-decides}
use Rattle.djq_protocol.specs.Reply.{line, cells_text}
use Rattle.djq_mirror.specs.declared.mode.Mode.{Mode}
use Rattle.djq_mirror.specs.Mirror.{has_text, IsInOrder, Held, at_first, Act, keep, clear, put, take_out, turn_of}
use Rattle.djq_mirror.specs.Mirror.{may_act, may_turn, allows, Acted, Turned, IsReplyLine, Follows}
use Rattle.djq_mirror.specs.Inputs.{lines_text, HasNoLf, FollowsAll, StopsMirror}
use Rattle.djq_mirror.specs.Reading.{News, news_of}
use Rattle.djq_mirror.specs.Replies.{Reply}
use Rattle.djq_mirror.proofs.MirrorSteps.{turned, twice, flipped, turn_told}
use Rattle.djq_mirror.proofs.LineForms.{reply_told}
use Rattle.djq_mirror_laws.specs.Whole.{HeldAlone}

-- ---- Texts in byte order, as one is put in or taken out.

abbrev pub put_in : Bytes → List Bytes → List Bytes
put_in t texts = insert_key (slice_cmp nat_cmp) texts t

abbrev pub taken_out : Bytes → List Bytes → List Bytes
taken_out t texts = filter (λ u. not (bytes_eq u t)) texts

-- ---- which texts are there

equal_same : (t x : Bytes) → slice_cmp nat_cmp t x ≡ Equal → t ≡ x
equal_same t x e = (bytes_eq-decides t x).0 (sym (is_eq-slice_cmp t x) ∙ ap is_eq e)

pub has_put : (t : Bytes) (texts : List Bytes) (u : Bytes) → has_text (put_in t texts) u
    ≡ (bytes_eq u t || has_text texts u)
has_put t [] u = refl
has_put t (x ∷ texts) u = by (slice_cmp nat_cmp t x) refl (has_put t texts u)
  where
    by : (r : Ordering) → slice_cmp nat_cmp t x ≡ r → has_text (put_in t texts) u ≡ (bytes_eq u t || has_text texts u)
        → has_text (match_ordering r (t ∷ x ∷ texts) (x ∷ texts) (x ∷ put_in t texts)) u
        ≡ (bytes_eq u t || (bytes_eq u x || has_text texts u))
    by Less e h = refl
    by Equal e h =
        let same = equal_same t x e in
        subst (λ (z : Bytes). (bytes_eq u x || has_text texts u) ≡ (bytes_eq u z || (bytes_eq u x || has_text texts u)))
        (sym same) (twice (bytes_eq u x) (has_text texts u))
    by Greater e h =
        ap (λ (b : Bool). bytes_eq u x || b) h ∙ turned (bytes_eq u x) (bytes_eq u t) (has_text texts u)

pub has_out : (t : Bytes) (texts : List Bytes) (u : Bytes)
    → has_text (taken_out t texts) u ≡ (not (bytes_eq u t) && has_text texts u)
has_out t [] u = by (bytes_eq u t)
  where
    by : (b : Bool) → false ≡ (not b && false)
    by true = refl
    by false = refl
has_out t (x ∷ texts) u = by (bytes_eq x t) (bytes_eq u t) (bytes_eq u x) refl refl refl (has_out t texts u)
  where
    by : (a b c : Bool) → bytes_eq x t ≡ a → bytes_eq u t ≡ b → bytes_eq u x ≡ c
        → has_text (taken_out t texts) u ≡ (not b && has_text texts u)
        → has_text (cond (not a) (x ∷ taken_out t texts) (taken_out t texts)) u ≡ (not b && (c || has_text texts u))
    by true true c e f g h = h
    by true false true e f g h =
        let no : bytes_eq u t
        ≡ true = (bytes_eq-decides u t).1 ((bytes_eq-decides u x).0 g ∙ (bytes_eq-decides x t).0 e) in
        absurd (cc (no, f))
    by true false false e f g h = h
    by false true true e f g h =
        let no : bytes_eq x t
        ≡ true = (bytes_eq-decides x t).1 (sym ((bytes_eq-decides u x).0 g) ∙ (bytes_eq-decides u t).0 f) in
        absurd (cc (no, e))
    by false true false e f g h = ap (λ (b : Bool). b || has_text (taken_out t texts) u) g ∙ h
    by false false c e f g h =
        ap (λ (b : Bool). b || has_text (taken_out t texts) u) g ∙ ap (λ (b : Bool). c || b) h

-- ---- the order

above_put : (P : Bytes → Type 0) (t : Bytes) (texts : List Bytes) → AllByRecursion P texts → P t
    → AllByRecursion P (put_in t texts)
above_put P t [] h p = (p, tt)
above_put P t (x ∷ texts) h p = by (slice_cmp nat_cmp t x) (above_put P t texts h.1 p)
  where
    by : (r : Ordering) → AllByRecursion P (put_in t texts)
        → AllByRecursion P (match_ordering r (t ∷ x ∷ texts) (x ∷ texts) (x ∷ put_in t texts))
    by Less k = (p, h)
    by Equal k = h
    by Greater k = (h.0, k)

all_above : (t x : Bytes) → slice_cmp nat_cmp t x ≡ Less → (texts : List Bytes)
    → AllByRecursion (λ y. slice_cmp nat_cmp x y ≡ Less) texts
    → AllByRecursion (λ y. slice_cmp nat_cmp t y ≡ Less) texts
all_above t x lt [] h = tt
all_above t x lt (y ∷ texts) h = (nat_list_cmp_total.trans t x y lt h.0, all_above t x lt texts h.1)

pub sorted_put : (t : Bytes) (texts : List Bytes) → IsInOrder texts → IsInOrder (put_in t texts)
unfolding IsStrictlySortedBy
sorted_put t [] h = (tt, tt)
sorted_put t (x ∷ texts) h = by (slice_cmp nat_cmp t x) refl (sorted_put t texts h.1)
  where
    by : (r : Ordering) → slice_cmp nat_cmp t x ≡ r → IsInOrder (put_in t texts)
        → IsInOrder (match_ordering r (t ∷ x ∷ texts) (x ∷ texts) (x ∷ put_in t texts))
    by Less e k = ((e, all_above t x e texts h.0), h)
    by Equal e k = h
    by Greater e k =
        let back : slice_cmp nat_cmp x t ≡ Less = nat_list_cmp_total.antisymm x t ∙ ap ordering_reverse e in
        (above_put (λ y. slice_cmp nat_cmp x y ≡ Less) t texts h.0 back, k)

pub sorted_out : (t : Bytes) (texts : List Bytes) → IsInOrder texts → IsInOrder (taken_out t texts)
sorted_out t texts h = IsStrictlySortedBy-filter (slice_cmp nat_cmp) (λ u. not (bytes_eq u t)) texts h

pub put_is : (t : Bytes) (texts : List Bytes) (u : Bytes) → has_text (put_in t texts) u
    ≡ (bytes_eq t u || has_text texts u)
put_is t texts u = has_put t texts u ∙ ap (λ (b : Bool). b || has_text texts u) (flipped u t)

pub out_is : (t : Bytes) (texts : List Bytes) (u : Bytes)
    → has_text (taken_out t texts) u ≡ (not (bytes_eq t u) && has_text texts u)
out_is t texts u = has_out t texts u ∙ ap (λ (b : Bool). not b && has_text texts u) (flipped u t)

pub nothing_sorted : IsInOrder []
unfolding IsStrictlySortedBy
nothing_sorted = tt

-- ---- What an input comes to in a mirror is all that it comes to: lines are cut in one way, and a line has one turn.

-- ---- lines

not_lf : (b : ℕ) (bs : Bytes) → HasNoLf (b ∷ bs) → b ≡ 10 → ⊥
not_lf b bs own is = All-head (λ c. c ≢ 10) b bs own is

-- an LF behind bytes without one
lf_behind : (xs ys : Bytes) → HasNoLf (xs ++ 10 ∷ ys) → ⊥
lf_behind [] ys own = not_lf 10 ys own refl
lf_behind (x ∷ xs) ys own = lf_behind xs ys (All-tail (λ b. b ≢ 10) x (xs ++ 10 ∷ ys) own)

one_front : (xs ys a b : Bytes) → HasNoLf xs → HasNoLf ys → xs ++ 10 ∷ a ≡ ys ++ 10 ∷ b → (xs ≡ ys) × (a ≡ b)
one_front [] [] a b own own' e = (refl, cc)
one_front [] (y ∷ ys) a b own own' e = let is : y ≡ 10 = cc in absurd (not_lf y ys own' is)
one_front (x ∷ xs) [] a b own own' e = let is : x ≡ 10 = cc in absurd (not_lf x xs own is)
one_front (x ∷ xs) (y ∷ ys) a b own own' e =
    let first : x ≡ y = cc in
    let rest : xs ++ 10 ∷ a ≡ ys ++ 10 ∷ b = cc in
    let more = one_front xs ys a b (All-tail (λ c. c ≢ 10) x xs own) (All-tail (λ c. c ≢ 10) y ys own') rest in
    (ap₂ (λ (c : ℕ) (cs : Bytes). c ∷ cs) first more.0, more.1)

line_then : (l rest : Bytes) → line l ++ rest ≡ l ++ 10 ∷ rest
line_then l rest = append_assoc l (10 ∷ []) rest

no_line : (l rest : Bytes) → [] ≡ l ++ 10 ∷ rest → ⊥
no_line [] rest e = absurd cc
no_line (b ∷ l) rest e = absurd cc

-- ---- what is held

-- in one mode, and of the same texts
record IsAlike (a b : Held) : Type 0 where
  mode : b.mode ≡ a.mode
  texts : (u : Bytes) → has_text b.texts u ≡ has_text a.texts u

may_alike : (a b : Held) (t : Option (Mode × Act)) → IsAlike a b → may_turn b.texts t ≡ may_turn a.texts t
may_alike a b None h = refl
may_alike a b (Some turn) h = by turn.1
  where
    by : (act : Act) → may_act b.texts act ≡ may_act a.texts act
    by keep = refl
    by clear = refl
    by (put t) = ap not (h.texts t)
    by (take_out t) = h.texts t

turned_alike : (a b a' b' : Held) (t : Option (Mode × Act)) → IsAlike a b → Turned a t a' → Turned b t b'
    → IsAlike a' b'
turned_alike a b a' b' None h one two = absurd one
turned_alike a b a' b' (Some turn) h one two = record { mode = two.0 ∙ sym one.0; texts = by turn.1 one.1 two.1 }
  where
    by : (act : Act) → Acted a.texts act a'.texts → Acted b.texts act b'.texts → (u : Bytes)
        → has_text b'.texts u ≡ has_text a'.texts u
    by keep p q u =
        ap (λ (ts : List Bytes). has_text ts u) q ∙ h.texts u ∙ sym (ap (λ (ts : List Bytes). has_text ts u) p)
    by clear p q u = ap (λ (ts : List Bytes). has_text ts u) q ∙ sym (ap (λ (ts : List Bytes). has_text ts u) p)
    by (put t) p q u = q.1 u ∙ ap (λ (has : Bool). bytes_eq t u || has) (h.texts u) ∙ sym (p.1 u)
    by (take_out t) p q u = q.1 u ∙ ap (λ (has : Bool). not (bytes_eq t u) && has) (h.texts u) ∙ sym (p.1 u)

turned_in_order : (old new : Held) (t : Option (Mode × Act)) → Turned old t new → IsInOrder old.texts
    → IsInOrder new.texts
turned_in_order old new None h order = absurd h
turned_in_order old new (Some turn) h order = by turn.1 h.1
  where
    by : (act : Act) → Acted old.texts act new.texts → IsInOrder new.texts
    by keep p = subst (λ (ts : List Bytes). IsInOrder ts) (sym p) order
    by clear p = subst (λ (ts : List Bytes). IsInOrder ts) (sym p) nothing_sorted
    by (put t) p = p.0
    by (take_out t) p = p.0

-- a line tells one thing
one_turn : (name l : Bytes) (mode mode' : Mode) (r r' : Reply) → mode' ≡ mode → IsReplyLine l r → IsReplyLine l r'
    → turn_of name mode' r' ≡ turn_of name mode r
one_turn name l mode mode' r r' same one two =
    let news : news_of r' ≡ news_of r = some_same (sym (reply_told l r' two.reply) ∙ reply_told l r one.reply) in
    ap (λ m. turn_of name m r') same ∙ turn_told name mode r' (news_of r) news
    ∙ sym (turn_told name mode r (news_of r) refl)
  where
    some_same : {v w : News} → Some v ≡ Some w → v ≡ w
    some_same e = cc

line_alike : (name l : Bytes) (a b a' b' : Held) → IsAlike a b → Follows name a l a' → Follows name b l b'
    → IsAlike a' b'
line_alike name l a b a' b' h one two =
    let turn = one_turn name l a.mode b.mode one.reply two.reply h.mode one.is_line two.is_line in
    turned_alike a b a' b' (turn_of name a.mode one.reply) h one.turned
    (subst (λ (t : Option (Mode × Act)). Turned b t b') turn two.turned)

-- ---- whole inputs

in_order_behind : (name : Bytes) (old : Held) (ls : List Bytes) (new : Held) → FollowsAll name old ls new
    → IsInOrder old.texts → IsInOrder new.texts
in_order_behind name old [] new h order = subst (λ (k : Held). IsInOrder k.texts) (sym h) order
in_order_behind name old (l ∷ ls) new h order =
    let f = h.2 in in_order_behind name h.0 ls new h.3
    (turned_in_order old h.0 (turn_of name old.mode f.reply) f.turned order)

alike_behind : (name : Bytes) (a b : Held) → IsAlike a b → (ls ms : List Bytes) (a' b' : Held)
    → lines_text ls ≡ lines_text ms → FollowsAll name a ls a' → FollowsAll name b ms b' → IsAlike a' b'
alike_behind name a b h [] [] a' b' e one two =
    subst (λ (k : Held). IsAlike k b') (sym one) (subst (λ (k : Held). IsAlike a k) (sym two) h)
alike_behind name a b h [] (m ∷ ms) a' b' e one two = absurd
    (no_line m (lines_text ms) (e ∙ line_then m (lines_text ms)))
alike_behind name a b h (l ∷ ls) [] a' b' e one two =
    absurd (no_line l (lines_text ls) (sym e ∙ line_then l (lines_text ls)))
alike_behind name a b h (l ∷ ls) (m ∷ ms) a' b' e one two =
    let cut = one_front l m (lines_text ls) (lines_text ms) one.1 two.1
    (sym (line_then l (lines_text ls)) ∙ e ∙ line_then m (lines_text ms)) in
    let second : Follows name b l two.0 = subst (λ (k : Bytes). Follows name b k two.0) (sym cut.0) two.2 in
    alike_behind name one.0 two.0 (line_alike name l a b one.0 two.0 h one.2 second) ls ms a' b' cut.1 one.3 two.3

-- the line that would be refused is followed
stops_nowhere : (name : Bytes) (a b : Held) → IsAlike a b → (ls ms : List Bytes) (a' b' : Held) (bad behind : Bytes)
    → lines_text ls ≡ lines_text ms ++ (bad ++ behind) → FollowsAll name a ls a' → FollowsAll name b ms b' → HasNoLf bad
    → StopsMirror name b' bad behind → ⊥
stops_nowhere name a b h [] [] a' b' [] [] e one two own stops = stops refl
stops_nowhere name a b h [] [] a' b' (x ∷ bad) behind e one two own stops = absurd cc
stops_nowhere name a b h [] [] a' b' [] (x ∷ behind) e one two own stops = absurd cc
stops_nowhere name a b h [] (m ∷ ms) a' b' bad behind e one two own stops =
    no_line m (lines_text ms ++ (bad ++ behind))
    (e ∙ append_assoc (line m) (lines_text ms) (bad ++ behind) ∙ line_then m (lines_text ms ++ (bad ++ behind)))
stops_nowhere name a b h (l ∷ ls) [] a' b' bad [] e one two own stops =
    lf_behind l (lines_text ls)
    (subst (λ (bs : Bytes). HasNoLf bs) (sym (sym (line_then l (lines_text ls)) ∙ e ∙ none bad)) own)
  where
    none : (bs : Bytes) → bs ++ [] ≡ bs
    none [] = refl
    none (c ∷ bs) = ap (λ (cs : Bytes). c ∷ cs) (none bs)
stops_nowhere name a b h (l ∷ ls) [] a' b' bad (x ∷ behind) e one two own stops =
    let cut = one_front l bad (lines_text ls) behind one.1 own
    (sym (line_then l (lines_text ls)) ∙ e ∙ ap (λ (c : ℕ). bad ++ c ∷ behind) stops.0) in
    let f = one.2 in
    let here : IsReplyLine bad f.reply = subst (λ (k : Bytes). IsReplyLine k f.reply) cut.0 f.is_line in
    let still : IsAlike a b' = subst (λ (k : Held). IsAlike a k) (sym two) h in
    let turn : turn_of name b'.mode f.reply
    ≡ turn_of name a.mode f.reply = ap (λ m. turn_of name m f.reply) still.mode in
    let allowed : allows name b' f.reply ≡ true =
    ap (may_turn b'.texts) turn ∙ may_alike a b' (turn_of name a.mode f.reply) still ∙ f.allowed in
    both_ways (allows name b' f.reply) (stops.1 f.reply here) allowed
stops_nowhere name a b h (l ∷ ls) (m ∷ ms) a' b' bad behind e one two own stops =
    let cut = one_front l m (lines_text ls) (lines_text ms ++ (bad ++ behind)) one.1 two.1
    (sym (line_then l (lines_text ls)) ∙ e ∙ append_assoc (line m) (lines_text ms) (bad ++ behind)
    ∙ line_then m (lines_text ms ++ (bad ++ behind))) in
    let second : Follows name b l two.0 = subst (λ (k : Bytes). Follows name b k two.0) (sym cut.0) two.2 in
    stops_nowhere name one.0 two.0 (line_alike name l a b one.0 two.0 h one.2 second) ls ms a' b' bad behind cut.1 one.3
    two.3
    own stops

alike_first : IsAlike at_first at_first
alike_first = record { mode = refl; texts = λ u. refl }

pub held_alone : HeldAlone
held_alone name input held h = (
  λ n r.
      stops_nowhere name at_first at_first alike_first h.lines r.lines held r.held r.bad r.behind (sym h.is ∙ r.is)
      h.follows
      r.follows r.line_of_its_own r.stops,
  λ other k.
      let same = alike_behind name at_first at_first alike_first h.lines k.lines held other (sym h.is ∙ k.is) h.follows
      k.follows in (
        same.mode,
        λ q relations shows. record {
          order = in_order_behind name at_first k.lines other k.follows nothing_sorted;
          texts = λ u has. shows.texts u (sym (same.texts u) ∙ has);
          tuples = λ t is. same.texts (cells_text t) ∙ shows.tuples t is;
        },
      ),
)
