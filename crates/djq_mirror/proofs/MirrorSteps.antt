-- Sets by the texts of their keys, and what a line that is read does to them.
use Rattle.std.specs.Prelude.{Vec, Result, Ok, Err}
use Rattle.std.proofs.Common.{◌≡◌, ℕ, Bool, true, false, cond, not, ◌&&◌, ◌||◌, [], ◌∷◌, List, map, refl, sym, ap, ap₂}
use Rattle.std.proofs.Common.{◌∙◌, ◌≤◌, Option, Some, None, length, subst}
use Rattle.std.specs.List.{AllByRecursion, list_any}
use Rattle.std.specs.List.Sorted.{IsStrictlySortedBy}
use Rattle.std.specs.Cmp.Lexicographic.{slice_cmp}
use Rattle.std.specs.Ordering.{is_eq, match_ordering, nat_cmp}
use Rattle.std.specs.declared.cmp.Ordering.{Ordering}
use Rattle.std.specs.declared.cmp.Ordering.TheVariants.{Less, Equal, Greater}
use Rattle.std.specs.BTreeMap.{is_at}
use Rattle.std.specs.BTreeSet.{BTreeSet, contains_by, insert_key}
use Rattle.std.specs.Set.{remove_key}
use Rattle.std.proofs.lemmas.Map.Text.{is_eq-slice_cmp}
use Rattle.djq_model.specs.Data.{Bytes, bytes_eq}
use Rattle.djq_mirror.specs.declared.mode.Mode.{Mode}
use Rattle.djq_mirror.specs.declared.mode.Mode.TheVariants.{Idle, Listing, Live}
use Rattle.djq_mirror.specs.declared.mode.TheConstants.{REPLY_LINE_BYTES}
use Rattle.djq_mirror.specs.declared.mirror.MirrorRefusal.{MirrorRefusal}
use Rattle.djq_mirror.specs.declared.mirror.MirrorRefusal.TheVariants.{Outside, NoMem}
use Rattle.djq_mirror.specs.Acting.{set_texts, LineEnds, MirrorTurns}
use Rattle.djq_mirror.specs.Mirror.{Acted, IsInOrder, has_text, put, take_out, Act, Follows, Held, IsOutside}
use Rattle.djq_mirror.specs.Mirror.{SeenMirror, Turned, may_turn, turn_of}
use Rattle.djq_mirror.specs.Reading.{News, news_of, news_in, turn_by}
use Rattle.djq_mirror.specs.Replies.{Reply, done, opened, added, removed, absent, batch_opened, lines_held, batch_done}
use Rattle.djq_mirror.specs.Replies.{registered, cyclic, not_connex, answer, more, last, stale, united, member, had}
use Rattle.djq_mirror.specs.Replies.{shaped, watched, changed, counted, explained, refused, ended, cut, bye}
use Rattle.djq_mirror.proofs.Spellings.{bytes_are, same_bytes}
use Rattle.djq_mirror.proofs.ReadLines.{told_found, some_is}
use Rattle.djq_mirror.proofs.LineForms.{reply_told}

-- ---- Sets by the texts of their keys.

-- the order of keys by their texts
abbrev pub by_text : {K : Type 0} → (K → Bytes) → K → K → Ordering
by_text f x y = slice_cmp nat_cmp (f x) (f y)

-- the test for the key of a text
abbrev pub is_key : {K : Type 0} → (K → Bytes) → Bytes → K → Bool
is_key f t k = is_eq (slice_cmp nat_cmp t (f k))

pub holds : {K : Type 0} (f : K → Bytes) (ks : List K) (t : Bytes) → list_any (is_key f t) ks ≡ has_text (map f ks) t
holds f [] t = refl
holds f (k ∷ ks) t = ap₂ (λ a b. a || b) (is_eq-slice_cmp t (f k)) (holds f ks t)

pub in_order : {K : Type 0} (f : K → Bytes) (ks : List K) → IsStrictlySortedBy (by_text f) ks → IsInOrder (map f ks)
unfolding IsStrictlySortedBy
in_order f [] h = tt
in_order {K} f (k ∷ ks) h = (above ks h.0, in_order f ks h.1)
  where
    above : (xs : List K) → AllByRecursion (λ y. by_text f k y ≡ Less) xs
        → AllByRecursion (λ t. slice_cmp nat_cmp (f k) t ≡ Less) (map f xs)
    above [] a = tt
    above (x ∷ xs) a = (a.0, above xs a.1)

-- a key that all others follow is none of them
apart : {K : Type 0} (f : K → Bytes) (k : K) (ks : List K) → IsStrictlySortedBy (by_text f) (k ∷ ks)
    → has_text (map f ks) (f k) ≡ false
unfolding IsStrictlySortedBy
apart {K} f k ks h = none ks h.0
  where
    none : (xs : List K) → AllByRecursion (λ y. by_text f k y ≡ Less) xs → has_text (map f xs) (f k) ≡ false
    none [] a = refl
    none (x ∷ xs) a = ap₂ (λ p q. p || q) (sym (is_eq-slice_cmp (f k) (f x)) ∙ ap is_eq a.0) (none xs a.1)

pub twice : (a b : Bool) → (a || b) ≡ (a || (a || b))
twice true b = refl
twice false b = refl

pub turned : (a b c : Bool) → (a || (b || c)) ≡ (b || (a || c))
turned true true c = refl
turned true false c = refl
turned false true c = refl
turned false false c = refl

equal_texts : (s t : Bytes) (o : Ordering) → slice_cmp nat_cmp s t ≡ o → is_eq o ≡ true → s ≡ t
equal_texts s t o e h = same_bytes s t (sym (is_eq-slice_cmp s t) ∙ ap is_eq e ∙ h)

-- which texts a key that is put in makes
pub put_there : {K : Type 0} (f : K → Bytes) (ks : List K) (k : K) (u : Bytes)
    → has_text (map f (insert_key (by_text f) ks k)) u ≡ (bytes_eq u (f k) || has_text (map f ks) u)
put_there f [] k u = refl
put_there {K} f (x ∷ xs) k u = step (by_text f k x) refl (put_there f xs k u)
  where
    step : (o : Ordering) → by_text f k x ≡ o → has_text (map f (insert_key (by_text f) xs k)) u
        ≡ (bytes_eq u (f k) || has_text (map f xs) u)
        → has_text (map f (match_ordering o (k ∷ x ∷ xs) (x ∷ xs) (x ∷ insert_key (by_text f) xs k))) u
        ≡ (bytes_eq u (f k) || (bytes_eq u (f x) || has_text (map f xs) u))
    step Less e h = refl
    step Equal e h =
        twice (bytes_eq u (f x)) (has_text (map f xs) u)
        ∙ ap (λ t. bytes_eq u t || (bytes_eq u (f x) || has_text (map f xs) u))
        (sym (equal_texts (f k) (f x) Equal e refl))
    step Greater e h =
        ap (λ b. bytes_eq u (f x) || b) h ∙ turned (bytes_eq u (f x)) (bytes_eq u (f k)) (has_text (map f xs) u)

-- which texts are left where the key of one is taken out
pub taken_out : {K : Type 0} (f : K → Bytes) (ks : List K) (t u : Bytes) → IsStrictlySortedBy (by_text f) ks
    → has_text (map f (remove_key (is_key f t) ks)) u ≡ (not (bytes_eq u t) && has_text (map f ks) u)
unfolding IsStrictlySortedBy
taken_out f [] t u h = none (bytes_eq u t)
  where
    none : (b : Bool) → false ≡ (not b && false)
    none true = refl
    none false = refl
taken_out {K} f (x ∷ xs) t u h = step (is_key f t x) refl (bytes_eq u t) refl (taken_out f xs t u h.1)
  where
    -- the text of the first key
    first : is_key f t x ≡ true → t ≡ f x
    first e = same_bytes t (f x) (sym (is_eq-slice_cmp t (f x)) ∙ e)

    other : is_key f t x ≡ false → bytes_eq u t ≡ true → bytes_eq u (f x) ≡ false
    other e k = ap (λ s. bytes_eq s (f x)) (same_bytes u t k) ∙ sym (is_eq-slice_cmp t (f x)) ∙ e

    gone : is_key f t x ≡ true → bytes_eq u t ≡ true → has_text (map f xs) u ≡ false
    gone e k = ap (has_text (map f xs)) (same_bytes u t k ∙ first e) ∙ apart f x xs h

    step : (a : Bool) → is_key f t x ≡ a → (b : Bool) → bytes_eq u t ≡ b
        → has_text (map f (remove_key (is_key f t) xs)) u ≡ (not (bytes_eq u t) && has_text (map f xs) u)
        → has_text (map f (cond a xs (x ∷ remove_key (is_key f t) xs))) u
        ≡ (not (bytes_eq u t) && (bytes_eq u (f x) || has_text (map f xs) u))
    step true e true k i = gone e k ∙ sym (ap (λ p. not p && (bytes_eq u (f x) || has_text (map f xs) u)) k)
    step true e false k i =
        sym (ap (λ p. not p && (bytes_eq u (f x) || has_text (map f xs) u)) k
        ∙ ap (λ s. bytes_eq u s || has_text (map f xs) u) (sym (first e))
        ∙ ap (λ p. p || has_text (map f xs) u) k)
    step false e true k i =
        ap₂ (λ p q. p || q) (other e k) (i ∙ ap (λ p. not p && has_text (map f xs) u) k)
        ∙ sym (ap (λ p. not p && (bytes_eq u (f x) || has_text (map f xs) u)) k)
    step false e false k i =
        ap (λ q. bytes_eq u (f x) || q) (i ∙ ap (λ p. not p && has_text (map f xs) u) k)
        ∙ sym (ap (λ p. not p && (bytes_eq u (f x) || has_text (map f xs) u)) k)

-- The same of a set of texts.

-- the test of two texts, either way round
pub flipped : (s t : Bytes) → bytes_eq s t ≡ bytes_eq t s
flipped s t = by (bytes_eq s t) (bytes_eq t s) refl refl
  where
    by : (a b : Bool) → bytes_eq s t ≡ a → bytes_eq t s ≡ b → a ≡ b
    by true true e f = refl
    by false false e f = refl
    by true false e f = sym (bytes_are t s (sym (same_bytes s t e))) ∙ f
    by false true e f = sym e ∙ bytes_are s t (sym (same_bytes t s f))

pub set_has : {A : Type 0} (s : BTreeSet (Vec ℕ A)) (t : Bytes) → contains_by (λ k. slice_cmp nat_cmp t k.items) s
    ≡ has_text (set_texts s) t
set_has s t = holds (λ v. v.items) s.keys t

pub put_acted : {A : Type 0} (old new : BTreeSet (Vec ℕ A)) (k : Vec ℕ A) (t : Bytes) → k.items ≡ t
    → new.keys ≡ insert_key (λ x y. slice_cmp nat_cmp x.items y.items) old.keys k
    → IsStrictlySortedBy (λ x y. slice_cmp nat_cmp x.items y.items) new.keys
    → Acted (set_texts old) (put t) (set_texts new)
put_acted old new k t e is order = (
  in_order (λ v. v.items) new.keys order,
  λ u. ap (λ ks. has_text (map (λ v. v.items) ks) u) is ∙ put_there (λ v. v.items) old.keys k u
      ∙ ap (λ x. bytes_eq u x || has_text (set_texts old) u) e
      ∙ ap (λ b. b || has_text (set_texts old) u) (flipped u t),
)

pub take_acted : {A : Type 0} (old new : BTreeSet (Vec ℕ A)) (t : Bytes)
    → new.keys ≡ remove_key (is_at (λ k. slice_cmp nat_cmp t k.items)) old.keys
    → IsStrictlySortedBy (λ x y. slice_cmp nat_cmp x.items y.items) old.keys
    → IsStrictlySortedBy (λ x y. slice_cmp nat_cmp x.items y.items) new.keys
    → Acted (set_texts old) (take_out t) (set_texts new)
take_acted old new t is was order = (
  in_order (λ v. v.items) new.keys order,
  λ u. ap (λ ks. has_text (map (λ v. v.items) ks) u) is ∙ taken_out (λ v. v.items) old.keys t u was
      ∙ ap (λ b. not b && has_text (set_texts old) u) (flipped u t),
)

-- ---- What is read of a line decides whether it is allowed, and what it does.

-- a line does what it tells
turn_same : (name : Bytes) (mode : Mode) (r : Reply) → turn_of name mode r ≡ turn_by name mode (news_of r)
turn_same name mode done = refl
turn_same name mode opened = refl
turn_same name mode (added n m) = refl
turn_same name mode (removed n m) = refl
turn_same name mode (absent n) = refl
turn_same name mode batch_opened = refl
turn_same name mode (lines_held n) = refl
turn_same name mode (batch_done n m) = refl
turn_same name mode (registered n) = refl
turn_same name mode (cyclic es) = refl
turn_same name mode (not_connex es) = refl
turn_same name Idle (answer t) = refl
turn_same name Listing (answer t) = refl
turn_same name Live (answer t) = refl
turn_same name Idle more = refl
turn_same name Listing more = refl
turn_same name Live more = refl
turn_same name Idle last = refl
turn_same name Listing last = refl
turn_same name Live last = refl
turn_same name mode (stale c r n) = refl
turn_same name mode (united n) = refl
turn_same name mode (member n) = refl
turn_same name mode (had b) = refl
turn_same name mode (shaped s) = refl
turn_same name mode (watched n) = refl
turn_same name mode (changed s q t) = refl
turn_same name mode (counted q n) = refl
turn_same name mode (explained j node label out) = refl
turn_same name mode (refused r) = refl
turn_same name mode (ended e) = refl
turn_same name mode cut = refl
turn_same name mode bye = refl

pub turn_told : (name : Bytes) (mode : Mode) (r : Reply) (w : News) → news_of r ≡ w → turn_of name mode r
    ≡ turn_by name mode w
turn_told name mode r w e = turn_same name mode r ∙ ap (turn_by name mode) e

pub follows : (name : Bytes) (old new : Held) (l : Bytes) (w : News) → news_in l ≡ Some w → length l ≤ REPLY_LINE_BYTES
    → may_turn old.texts (turn_by name old.mode w) ≡ true → Turned old (turn_by name old.mode w) new
    → Follows name old l new
follows name old new l w e short allowed turned =
    let found = told_found l w e in
    let same = turn_told name old.mode found.reply w found.tells in
    record {
      reply = found.reply;
      is_line = record { reply = found.is; short = short };
      allowed = ap (may_turn old.texts) same ∙ allowed;
      turned = subst (λ (t : Option (Mode × Act)). Turned old t new) (sym same) turned;
    }

pub outside : (name : Bytes) (old : Held) (l : Bytes) (w : News) → news_in l ≡ Some w
    → may_turn old.texts (turn_by name old.mode w) ≡ false → IsOutside name old l
outside name old l w e stopped = λ r h.
    ap (may_turn old.texts) (turn_told name old.mode r w (some_is (news_of r) w (sym (reply_told l r h.reply) ∙ e)))
    ∙ stopped

no_news : {A : Type 0} (o : Option News) (w : News) → o ≡ None → o ≡ Some w → A
no_news o w e f = absurd (cc)

pub outside_none : (name : Bytes) (old : Held) (l : Bytes) → news_in l ≡ None → IsOutside name old l
outside_none name old l e = λ r h. no_news (news_in l) (news_of r) e (reply_told l r h.reply)

-- what a turn says of the line
pub line_ends : {A : Type 0} (old new : SeenMirror) (l : Bytes) (w : News) (r : Result A MirrorRefusal)
    → news_in l ≡ Some w
    → length l ≤ REPLY_LINE_BYTES → MirrorTurns old (turn_by old.name old.held.mode w) r new → LineEnds old l r new
line_ends old new l w (Ok u) e short h = (follows old.name old.held new.held l w e short h.1 h.2, h.0)
line_ends old new l w (Err Outside) e short h = (outside old.name old.held l w e h.0, h.1)
line_ends old new l w (Err NoMem) e short h = h
