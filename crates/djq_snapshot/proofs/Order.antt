-- Texts stay known, and unions after their members, as commands are done.
use Rattle.std.proofs.Common.{List, [], ◌∷◌, ◌++◌, ◌≡◌, Bool, true, false, cond, refl, sym, ap, ◌∙◌, subst}
use Rattle.std.proofs.Common.{append_assoc, append-nil}
use Rattle.std.specs.Prelude.{◌&&◌, Option, Some, All}
use Rattle.std.specs.List.{list_any}
use Rattle.std.specs.Option.{option_or}
use Rattle.std.proofs.lemmas.Bool.{false≢true}
use Rattle.std.proofs.lemmas.List.Folds.{find-append}
use Rattle.std.proofs.lemmas.List.Elements.{All-contains, All-head, All-tail, All-weaker}
use Rattle.djq_model.specs.declared.query.Query.{Query}
use Rattle.djq_model.specs.Data.{Bytes, bytes_eq, drop_first}
use Rattle.djq_model.specs.Equality.{bytes_eq-decides}
use Rattle.djq_model.specs.Known.{knows, knows_all, learned, all_learned}
use Rattle.djq_model.specs.Listed.{Listed, a_query, listed_name, listed_of, members_of}
use Rattle.djq_store_spec.specs.Registering.{is_member}
use Rattle.djq_answer_laws.proofs.Choices.{none_any}
use Rattle.djq_answer_laws.proofs.Lists.{hold_each}
use Rattle.djq_run_laws.proofs.Lists.{find_front}
use Rattle.djq_log_laws.specs.Kept.{AreKnown}
use Rattle.djq_snapshot.specs.Restorable.{HasMembersIn, FollowMembers}
use Rattle.djq_snapshot.proofs.Followers.{both_hold}

-- ---- texts

known_front : (xs ys : List Bytes) (t : Bytes) → knows xs t ≡ true → knows (xs ++ ys) t ≡ true
known_front [] ys t h = absurd (false≢true h)
known_front (x ∷ xs) ys t h = by (bytes_eq x t) h (λ k. known_front xs ys t k)
  where
    by : (b : Bool) → cond b true (knows xs t) ≡ true → (knows xs t ≡ true → knows (xs ++ ys) t ≡ true)
        → cond b true (knows (xs ++ ys) t) ≡ true
    by true k rest = refl
    by false k rest = rest k

known_last : (xs : List Bytes) (t : Bytes) → knows (xs ++ t ∷ []) t ≡ true
known_last [] t = ap (λ (b : Bool). cond b true false) ((bytes_eq-decides t t).1 refl)
known_last (x ∷ xs) t = by (bytes_eq x t) (known_last xs t)
  where
    by : (b : Bool) → knows (xs ++ t ∷ []) t ≡ true → cond b true (knows (xs ++ t ∷ []) t) ≡ true
    by true rest = refl
    by false rest = rest

one_known : (ts : List Bytes) (t : Bytes) → AreKnown ts (learned ts t)
one_known ts t s h = by (knows ts t)
  where
    by : (b : Bool) → knows (cond b ts (ts ++ t ∷ [])) s ≡ true
    by true = h
    by false = known_front ts (t ∷ []) s h

itself_known : (ts : List Bytes) (t : Bytes) → knows (learned ts t) t ≡ true
itself_known ts t = by (knows ts t) refl
  where
    by : (b : Bool) → knows ts t ≡ b → knows (cond b ts (ts ++ t ∷ [])) t ≡ true
    by true e = e
    by false e = known_last ts t

pub still_known : (ts more : List Bytes) → AreKnown ts (all_learned ts more)
still_known ts [] s h = h
still_known ts (t ∷ more) s h = still_known (learned ts t) more s (one_known ts t s h)

pub all_still : (a b ts : List Bytes) → AreKnown a b → knows_all a ts ≡ true → knows_all b ts ≡ true
all_still a b [] f h = refl
all_still a b (t ∷ ts) f h =
    let k = both_hold (knows a t) (knows_all a ts) h in
    ap (λ (x : Bool). x && knows_all b ts) (f t k.0) ∙ all_still a b ts f k.1

pub learned_each : (known ts : List Bytes) → knows_all (all_learned known ts) ts ≡ true
learned_each known [] = refl
learned_each known (t ∷ ts) =
    ap (λ (x : Bool). x && knows_all (all_learned (learned known t) ts) ts)
    (still_known (learned known t) ts t (itself_known known t))
    ∙ learned_each (learned known t) ts

-- ---- what is registered

-- one more, whose members are there
pub follow_more : (before ls : List Listed) (l : Listed) → FollowMembers before ls → HasMembersIn (before ++ ls) l
    → FollowMembers before (ls ++ l ∷ [])
follow_more before [] l h k = (subst (λ (qs : List Listed). HasMembersIn qs l) (append-nil before) k, tt)
follow_more before (m ∷ ls) l h k = (
  h.0,
  follow_more (before ++ m ∷ []) ls l h.1
      (subst (λ (qs : List Listed). HasMembersIn qs l) (sym (append_assoc before (m ∷ []) ls)) k),
)

-- Each name but one finds the same.
abbrev FindsSame : Bytes → List Listed → List Listed → Type 0
FindsSame name before before' =
    (n : Bytes) → bytes_eq n name ≡ false → listed_of before' n ≡ listed_of before n

-- no member of these has this name
abbrev NoneIs : Bytes → Listed → Type 0
NoneIs name l = All (λ q. bytes_eq q.name name ≡ false) (members_of l)

members_in : (name : Bytes) (before before' : List Listed) (l : Listed) → FindsSame name before before' → NoneIs name l
    → HasMembersIn before l → HasMembersIn before' l
members_in name before before' l same none h =
    hold_each (λ (q : Query). listed_of before' q.name ≡ Some (a_query q)) (members_of l)
    (λ q c. same q.name (All-contains (λ (p : Query). bytes_eq p.name name ≡ false) (members_of l) q none c)
    ∙ All-contains (λ (p : Query). listed_of before p.name ≡ Some (a_query p)) (members_of l) q h c)

follow_same : (name : Bytes) (before before' ls : List Listed) → FindsSame name before before' → All (NoneIs name) ls
    → FollowMembers before ls → FollowMembers before' ls
follow_same name before before' [] same none h = tt
follow_same name before before' (l ∷ ls) same none h = (
  members_in name before before' l same (All-head (NoneIs name) l ls none) h.0,
  follow_same name (before ++ l ∷ []) (before' ++ l ∷ []) ls more (All-tail (NoneIs name) l ls none) h.1,
)
  where
    more : FindsSame name (before ++ l ∷ []) (before' ++ l ∷ [])
    more n other =
        find-append (λ (k : Listed). bytes_eq (listed_name k) n) before' (l ∷ [])
        ∙ ap (λ (o : Option Listed). option_or o (listed_of (l ∷ []) n)) (same n other)
        ∙ sym (find-append (λ (k : Listed). bytes_eq (listed_name k) n) before (l ∷ []))

-- without the first of a name that is no member's
follow_less : (name : Bytes) (before ls : List Listed) → All (NoneIs name) ls → FollowMembers before ls
    → FollowMembers before (drop_first (λ l. bytes_eq (listed_name l) name) ls)
follow_less name before [] none h = tt
follow_less name before (l ∷ ls) none h =
    by (bytes_eq (listed_name l) name) refl
    (follow_less name (before ++ l ∷ []) ls (All-tail (NoneIs name) l ls none) h.1)
  where
    without : bytes_eq (listed_name l) name ≡ true → FindsSame name (before ++ l ∷ []) before
    without e n other =
        sym (find_front (λ (k : Listed). bytes_eq (listed_name k) n) before l (apart (bytes_eq (listed_name l) n) refl))
      where
        apart : (b : Bool) → bytes_eq (listed_name l) n ≡ b → b ≡ false
        apart false k = refl
        apart true k =
            let same : n ≡ name = sym ((bytes_eq-decides (listed_name l) n).0 k)
            ∙ (bytes_eq-decides (listed_name l) name).0 e in
            absurd (false≢true (sym other ∙ (bytes_eq-decides n name).1 same))

    by : (b : Bool) → bytes_eq (listed_name l) name ≡ b
        → FollowMembers (before ++ l ∷ []) (drop_first (λ (k : Listed). bytes_eq (listed_name k) name) ls)
        → FollowMembers before
        (cond b ls (l ∷ drop_first (λ (k : Listed). bytes_eq (listed_name k) name) ls))
    by true e rest =
        follow_same name (before ++ l ∷ []) before ls (without e) (All-tail (NoneIs name) l ls none) h.1
    by false e rest = (h.0, rest)

pub follow_dropped : (name : Bytes) (ls : List Listed) → is_member ls name ≡ false → FollowMembers [] ls
    → FollowMembers [] (drop_first (λ l. bytes_eq (listed_name l) name) ls)
follow_dropped name ls free h =
    follow_less name [] ls
    (All-weaker (λ (l : Listed). list_any (λ (q : Query). bytes_eq q.name name) (members_of l) ≡ false) (NoneIs name)
    (λ l none. none_any (λ (q : Query). bytes_eq q.name name) (members_of l) none) ls
    (none_any (λ (l : Listed). list_any (λ (q : Query). bytes_eq q.name name) (members_of l)) ls free)) h
