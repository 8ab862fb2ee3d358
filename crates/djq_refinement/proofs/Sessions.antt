-- What the core sees of a session's cursors, watches and batch, as its commands change them.
use Rattle.std.specs.Prelude.{List, [], ◌∷◌, ◌++◌, ◌≡◌, ◌≢◌, ◌||◌, Bool, true, false, cond, Option, None, Some, map}
use Rattle.std.specs.Prelude.{All, IsSomeAnd}
use Rattle.std.specs.List.{list_any}
use Rattle.std.specs.Option.{option_map}
use Rattle.std.proofs.Common.{refl, sym, ap, ◌∙◌, subst, inl, inr}
use Rattle.std.proofs.lemmas.Bool.{or_left, or_right}
use Rattle.std.proofs.lemmas.List.Elements.{All-head, All-tail}
use Rattle.djq_model.specs.Data.{Bytes, Tuple, bytes_eq, drop_first}
use Rattle.djq_protocol.specs.declared.answer.EndCause.{EndCause}
use Rattle.djq_store_spec.specs.Store.{Position, open_at, stale as stale_since}
use Rattle.djq_answer_laws.proofs.Lists.{pairs_head, pairs_tail}
use Rattle.djq_machine.specs.State.{Cursor, Session, cursor_of, with_position}
use Rattle.djq_machine.specs.Watch.{is_watching}
use Rattle.djq_machine.specs.Command.{uses, with_cursor, with_watch, without_watch}
use Rattle.djq_run_laws.specs.Sound.{AreApart}
use Rattle.djq_run_laws.specs.Form.{without_cursor}
use Rattle.djq_run_laws.proofs.Lists.{find_changed, find_other, find_dropped, find_front, find_last, dropped_gone, has_other}
use Rattle.djq_run_laws.proofs.Lists.{found_there, any_there}
use Rattle.djq_abstract.specs.Clients.{CursorState, valid, query_of_cursor, client_with_cursor}
use Rattle.djq_abstract.specs.Clients.{with_subscription, UsesQuery}
use Rattle.djq_abstract.proofs.Names.{same_name, eq_self}
use Rattle.djq_refinement.specs.View.{cursor_state, cursor_seen, line_edits, client_by}
use Rattle.djq_refinement.proofs.Clients.{client_path}

pub eq_other : (a b : Bytes) → bytes_eq a b ≡ false → bytes_eq b a ≡ false
eq_other a b e = by (bytes_eq b a) refl
  where
    by : (t : Bool) → bytes_eq b a ≡ t → t ≡ false
    by false k = refl
    by true k =
        let so : bytes_eq a b ≡ true = subst (λ m. bytes_eq m b ≡ true) (same_name b a k) (eq_self b) in
        absurd (cc (so, e))

-- ---- cursors

-- a change of the cursors that is one of a name
cursors_client : (x y : Session) (c : Bytes) (k : Option CursorState) → y.watches ≡ x.watches → y.batch ≡ x.batch
    → option_map cursor_seen (cursor_of y.cursors c) ≡ k
    → ((n : Bytes) → bytes_eq c n ≡ false → cursor_of y.cursors n ≡ cursor_of x.cursors n)
    → client_by None y ≡ client_with_cursor c k (client_by None x)
cursors_client x y c k watches batch its others =
    client_path (client_by None y) (client_with_cursor c k (client_by None x)) refl (λ n. by n (bytes_eq n c) refl)
    (λ q. ap (λ (ws : List Bytes). list_any (λ w. bytes_eq w q) ws) watches)
    (ap (λ o. option_map line_edits o) batch)
  where
    by : (n : Bytes) (b : Bool) → bytes_eq n c ≡ b → option_map cursor_seen (cursor_of y.cursors n)
        ≡ cond b k (option_map cursor_seen (cursor_of x.cursors n))
    by n true e = ap (λ m. option_map cursor_seen (cursor_of y.cursors m)) (same_name n c e) ∙ its
    by n false e = ap (λ o. option_map cursor_seen o) (others n (eq_other n c e))

pub opened_client : (x : Session) (c q : Bytes) → cursor_of x.cursors c ≡ None
    → client_by None (with_cursor c q x) ≡ client_with_cursor c (Some (valid q [] false)) (client_by None x)
opened_client x c q none = cursors_client x (with_cursor c q x) c (Some (valid q [] false)) refl refl
    (ap (λ o. option_map cursor_seen o) (find_last (λ (k : Cursor). bytes_eq k.name c) x.cursors
    (record { name = c; query = q; position = open_at [] false }) none (eq_self c)))
    (λ n e. find_front (λ (k : Cursor). bytes_eq k.name n) x.cursors
    (record { name = c; query = q; position = open_at [] false }) e)

pub moved_client : (x : Session) (c : Bytes) (k : Cursor) (ts : List Tuple) (last : Bool)
    → cursor_of x.cursors c ≡ Some k
    → client_by None (record x { cursors = with_position x.cursors c (open_at ts last) })
    ≡ client_with_cursor c (Some (valid k.query ts last)) (client_by None x)
moved_client x c k ts last found =
    cursors_client x (record x { cursors = with_position x.cursors c (open_at ts last) }) c
    (Some (valid k.query ts last)) refl refl
    (ap (λ o. option_map cursor_seen o) (find_changed (λ (j : Cursor). bytes_eq j.name c)
    (λ (j : Cursor). record j { position = open_at ts last }) (λ j. refl) x.cursors
    ∙ ap (λ o. option_map (λ (j : Cursor). record j { position = open_at ts last }) o) found))
    (λ n e. find_other (λ (j : Cursor). bytes_eq j.name c) (λ (j : Cursor). bytes_eq j.name n)
    (λ (j : Cursor). record j { position = open_at ts last }) (λ j. refl) (λ j i. has_other c n j.name e i) x.cursors)

pub closed_client : (x : Session) (c : Bytes) → AreApart (map (λ (k : Cursor). k.name) x.cursors)
    → client_by None (without_cursor c x) ≡ client_with_cursor c None (client_by None x)
closed_client x c apart = cursors_client x (without_cursor c x) c None refl refl
    (ap (λ o. option_map cursor_seen o) (dropped_gone x.cursors c apart))
    (λ n e. find_dropped (λ (j : Cursor). bytes_eq j.name c) (λ (j : Cursor). bytes_eq j.name n)
    (λ j i. has_other c n j.name e i) x.cursors)

-- ---- watches

watches_client : (x y : Session) (q : Bytes) (on : Bool) → y.cursors ≡ x.cursors → y.batch ≡ x.batch
    → ((n : Bytes) → is_watching n y ≡ cond (bytes_eq n q) on (is_watching n x))
    → client_by None y ≡ with_subscription q on (client_by None x)
watches_client x y q on cursors batch watching =
    client_path (client_by None y) (with_subscription q on (client_by None x)) refl
    (λ c. ap (λ (ks : List Cursor). option_map cursor_seen (cursor_of ks c)) cursors) watching
    (ap (λ o. option_map line_edits o) batch)

any_one_more : (ws : List Bytes) (q n : Bytes)
    → list_any (λ w. bytes_eq w n) (ws ++ q ∷ []) ≡ cond (bytes_eq n q) true (list_any (λ w. bytes_eq w n) ws)
any_one_more [] q n = by (bytes_eq n q) refl
  where
    by : (b : Bool) → bytes_eq n q ≡ b → (bytes_eq q n || false) ≡ cond b true false
    by true e = ap (λ t. t || false) (ap (λ m. bytes_eq q m) (same_name n q e) ∙ eq_self q)
    by false e = ap (λ t. t || false) (eq_other n q e)
any_one_more (w ∷ ws) q n = by (bytes_eq w n) (bytes_eq n q) (any_one_more ws q n)
  where
    by : (a b : Bool) → list_any (λ v. bytes_eq v n) (ws ++ q ∷ []) ≡ cond b true (list_any (λ v. bytes_eq v n) ws)
        → (a || list_any (λ v. bytes_eq v n) (ws ++ q ∷ []))
        ≡ cond b true (a || list_any (λ v. bytes_eq v n) ws)
    by true true h = refl
    by true false h = refl
    by false b h = h

pub watched_client : (x : Session) (q : Bytes)
    → client_by None (with_watch q x) ≡ with_subscription q true (client_by None x)
watched_client x q = watches_client x (with_watch q x) q true refl refl (λ n. by n (is_watching q x) refl)
  where
    already : (n : Bytes) (b : Bool) → bytes_eq n q ≡ b → is_watching q x ≡ true
        → is_watching n x ≡ cond b true (is_watching n x)
    already n true e is = ap (λ m. is_watching m x) (same_name n q e) ∙ is
    already n false e is = refl

    by : (n : Bytes) (b : Bool) → is_watching q x ≡ b
        → list_any (λ w. bytes_eq w n) (cond b x.watches (x.watches ++ q ∷ []))
        ≡ cond (bytes_eq n q) true (is_watching n x)
    by n true e = already n (bytes_eq n q) refl e
    by n false e = any_one_more x.watches q n

none_watched : (ws : List Bytes) (q : Bytes) → All (λ w. q ≢ w) ws → list_any (λ w. bytes_eq w q) ws ≡ false
none_watched [] q h = refl
none_watched (w ∷ ws) q h = by (bytes_eq w q) refl (none_watched ws q (All-tail (λ v. q ≢ v) w ws h))
  where
    by : (b : Bool) → bytes_eq w q ≡ b → list_any (λ v. bytes_eq v q) ws ≡ false
        → (b || list_any (λ v. bytes_eq v q) ws) ≡ false
    by true e rest = absurd (All-head (λ v. q ≢ v) w ws h (sym (same_name w q e)))
    by false e rest = rest

one_fewer : (ws : List Bytes) (q n : Bytes) → AreApart ws
    → list_any (λ w. bytes_eq w n) (drop_first (λ w. bytes_eq w q) ws)
    ≡ cond (bytes_eq n q) false (list_any (λ w. bytes_eq w n) ws)
one_fewer [] q n h = by (bytes_eq n q)
  where
    by : (b : Bool) → false ≡ cond b false false
    by true = refl
    by false = refl
one_fewer (w ∷ ws) q n h =
    by (bytes_eq w q) refl (bytes_eq n q) refl (one_fewer ws q n (pairs_tail (λ a b. a ≢ b) w ws h))
  where
    apart : bytes_eq w q ≡ true → bytes_eq n q ≡ true → list_any (λ v. bytes_eq v n) ws ≡ false
    apart e i =
        subst (λ m. list_any (λ v. bytes_eq v m) ws ≡ false) (same_name w q e ∙ sym (same_name n q i))
        (none_watched ws w (pairs_head (λ a b. a ≢ b) w ws h))

    by : (a : Bool) → bytes_eq w q ≡ a → (b : Bool) → bytes_eq n q ≡ b
        → list_any (λ v. bytes_eq v n) (drop_first (λ v. bytes_eq v q) ws)
        ≡ cond b false (list_any (λ v. bytes_eq v n) ws)
        → list_any (λ v. bytes_eq v n) (cond a ws (w ∷ drop_first (λ v. bytes_eq v q) ws))
        ≡ cond b false (bytes_eq w n || list_any (λ v. bytes_eq v n) ws)
    by true e true i rest = apart e i
    by true e false i rest =
        ap (λ t. t || list_any (λ v. bytes_eq v n) ws)
        (sym (ap (λ m. bytes_eq m n) (same_name w q e) ∙ eq_other n q i))
    by false e true i rest =
        ap (λ t. t || list_any (λ v. bytes_eq v n) (drop_first (λ v. bytes_eq v q) ws))
        (ap (λ m. bytes_eq w m) (same_name n q i) ∙ e) ∙ rest
    by false e false i rest = ap (λ t. bytes_eq w n || t) rest

pub unwatched_client : (x : Session) (q : Bytes) → AreApart x.watches
    → client_by None (without_watch q x) ≡ with_subscription q false (client_by None x)
unwatched_client x q apart = watches_client x (without_watch q x) q false refl refl (λ n. one_fewer x.watches q n apart)

-- ---- queries in use

cursor_query : (q : Bytes) (p : Position) (k : Cursor) → k.position ≡ p → query_of_cursor (cursor_seen k) ≡ k.query
cursor_query q p k e = by k.position
  where
    by : (r : Position) → query_of_cursor (cursor_state k.query r) ≡ k.query
    by (open_at given finished) = refl
    by (stale_since relation n) = refl

pub session_uses : (q : Bytes) (c : Option EndCause) (x : Session) → UsesQuery q (client_by c x) → uses q x ≡ true
session_uses q (Some cause) x (inl (n, h)) = absurd h
session_uses q (Some cause) x (inr h) = absurd cc
session_uses q None x (inr h) = or_right (list_any (λ (k : Cursor). bytes_eq k.query q) x.cursors) (is_watching q x) h
session_uses q None x (inl (n, h)) = by (cursor_of x.cursors n) refl h
  where
    by : (o : Option Cursor) → cursor_of x.cursors n ≡ o
        → IsSomeAnd (option_map cursor_seen o) (λ k. query_of_cursor k ≡ q) → uses q x ≡ true
    by None e k = absurd k
    by (Some j) e k =
        or_left (list_any (λ (i : Cursor). bytes_eq i.query q) x.cursors) (is_watching q x)
        (any_there (λ (i : Cursor). bytes_eq i.query q) x.cursors j
        (found_there (λ (i : Cursor). bytes_eq i.name n) x.cursors j e)
        (ap (λ (m : Bytes). bytes_eq m q) (sym (cursor_query q j.position j refl) ∙ k) ∙ eq_self q))
