-- A line that is appended to a buffer.
use Rattle.std.specs.Prelude.{Result, Ok, Err, OnOk, OnErr, ⊤, true, nat_lt, nat_le, slice_get, slice_index_or, zero}
use Rattle.std.specs.Prelude.{suc, None, Some, ℕ, List, [], ◌∷◌, ◌≡◌, ◌+◌, ◌-◌, ◌++◌, ◌<◌, ◌≤◌, All, drop, length}
use Rattle.std.specs.Prelude.{map, take}
use Rattle.std.specs.List.{slice_range, sum_by}
use Rattle.std.proofs.Common.{refl, sym, ap, ap₂, ◌∙◌, subst, arith, length-append}
use Rattle.std.proofs.lemmas.List.{take_all, take-append-le, drop-append-le, length-drop, map-append, length-map}
use Rattle.std.proofs.lemmas.Bool.{ltb-true, and_parts}
use Rattle.std.proofs.lemmas.Option.{slice_get_past}
use Rattle.std.proofs.lemmas.List.Elements.{All-head, All-tail, All-nil, All-cons, All-append}
use Rattle.std.proofs.lemmas.List.Sums.{sum_by_push}
use Rattle.std.proofs.Math.Seq.{drop-append_seam}
use Rattle.djq_model.specs.declared.value.Value.{Value}
use Rattle.djq_model.specs.Data.{Bytes}
use Rattle.djq_model.specs.declared.memory.NoMem.{NoMem}
use Rattle.djq_protocol.specs.declared.held.Verb.{Verb}
use Rattle.djq_transaction.specs.declared.held.Entry.{Entry}
use Rattle.djq_transaction.specs.declared.held.Buffer.{Buffer}
use Rattle.djq_protocol.specs.declared.limits.TheConstants.{HELD, HELD_BYTES}
use Rattle.djq_store_spec.specs.Held.{HeldLine, HeldTransaction, has_room, batch, done, log_lines}
use Rattle.djq_transaction.specs.Buffer.{bytes_of_line, logged_in, lines_held_in, SpanIsWithin, IsBuffer, next_entry, GetsOneMoreLine}
use Rattle.djq_transaction.specs.Buffer.{HasTheSame}

-- a part of a list is that of the list with more appended
part_front : {A : Type 0} (xs ys : List A) (a b : ℕ) → a ≤ b → b ≤ length xs
    → slice_range (xs ++ ys) a b ≡ slice_range xs a b
part_front xs ys a b low high =
    ap (λ zs. take (b - a) zs) (drop-append-le a xs ys (omega (arith, low, high)))
    ∙ take-append-le (b - a) (drop a xs) ys (omega (arith, length-drop a xs, low, high))

-- what was appended to a list
part_back : {A : Type 0} (xs ys : List A) → slice_range (xs ++ ys) (length xs) (length (xs ++ ys)) ≡ ys
part_back xs ys =
    ap (λ zs. take (length (xs ++ ys) - length xs) zs) (drop-append_seam xs ys)
    ∙ take_all (length (xs ++ ys) - length xs) ys (omega (arith, length-append xs ys))

-- ---- a line more

-- each line stands within more values and bytes
within_more : (v b w d : ℕ) (es : List Entry) → v ≤ w → b ≤ d → All (SpanIsWithin v b) es → All (SpanIsWithin w d) es
within_more v b w d [] values bytes all = All-nil (SpanIsWithin w d)
within_more v b w d (e ∷ es) values bytes all =
    let h : SpanIsWithin v b e = All-head (SpanIsWithin v b) e es all in
    All-cons (SpanIsWithin w d) e es (record {
      row = h.row;
      values_end = omega (arith, h.values_end, values);
      line = h.line;
      bytes_end = omega (arith, h.bytes_end, bytes);
    }) (within_more v b w d es values bytes (All-tail (SpanIsWithin v b) e es all))

lines_stay : (values row : List Value) (b : ℕ) (es : List Entry) → All (SpanIsWithin (length values) b) es
    → map (bytes_of_line (values ++ row)) es ≡ map (bytes_of_line values) es
lines_stay values row b [] all = refl
lines_stay values row b (e ∷ es) all =
    let h : SpanIsWithin (length values) b e = All-head (SpanIsWithin (length values) b) e es all in
    ap₂ (λ (r : List Value) (hs : List HeldLine). record { verb = e.verb; relation = e.relation; row = r } ∷ hs)
    (part_front values row e.row_start e.row_end h.row h.values_end)
    (lines_stay values row b es (All-tail (SpanIsWithin (length values) b) e es all))

logged_stay : (bytes line : List ℕ) (v : ℕ) (es : List Entry) → All (SpanIsWithin v (length bytes)) es
    → map (logged_in (bytes ++ line)) es ≡ map (logged_in bytes) es
logged_stay bytes line v [] all = refl
logged_stay bytes line v (e ∷ es) all =
    let h : SpanIsWithin v (length bytes) e = All-head (SpanIsWithin v (length bytes)) e es all in
    ap₂ (λ (l : Bytes) (ls : List Bytes). l ∷ ls)
    (part_front bytes line e.line_start e.line_end h.line h.bytes_end)
    (logged_stay bytes line v es (All-tail (SpanIsWithin v (length bytes)) e es all))

pub lines_more : (values row : List Value) (bytes line : List ℕ) (es : List Entry) (verb : Verb) (relation : Bytes)
    → All (SpanIsWithin (length values) (length bytes)) es
    → map (bytes_of_line (values ++ row)) (es ++ next_entry values bytes verb relation row line ∷ [])
    ≡ map (bytes_of_line values) es ++ record { verb = verb; relation = relation; row = row } ∷ []
lines_more values row bytes line es verb relation all =
    map-append (bytes_of_line (values ++ row)) es (next_entry values bytes verb relation row line ∷ [])
    ∙ ap₂ (λ (hs : List HeldLine) (r : List Value). hs ++ record { verb = verb; relation = relation; row = r } ∷ [])
    (lines_stay values row (length bytes) es all) (part_back values row)

pub logged_more : (values row : List Value) (bytes line : List ℕ) (es : List Entry) (verb : Verb) (relation : Bytes)
    → All (SpanIsWithin (length values) (length bytes)) es
    → map (logged_in (bytes ++ line)) (es ++ next_entry values bytes verb relation row line ∷ [])
    ≡ map (logged_in bytes) es ++ line ∷ []
logged_more values row bytes line es verb relation all =
    map-append (logged_in (bytes ++ line)) es (next_entry values bytes verb relation row line ∷ [])
    ∙ ap₂ (λ (ls : List Bytes) (l : Bytes). ls ++ l ∷ [])
    (logged_stay bytes line (length values) es all) (part_back bytes line)

pub within_next : (values row : List Value) (bytes line : List ℕ) (es : List Entry) (verb : Verb) (relation : Bytes)
    → All (SpanIsWithin (length values) (length bytes)) es
    → All (SpanIsWithin (length (values ++ row)) (length (bytes ++ line)))
    (es ++ next_entry values bytes verb relation row line ∷ [])
within_next values row bytes line es verb relation all =
    let Within : Entry → Type 0 = SpanIsWithin (length (values ++ row)) (length (bytes ++ line)) in
    let e = next_entry values bytes verb relation row line in
    All-append Within es (e ∷ [])
    (within_more (length values) (length bytes) (length (values ++ row)) (length (bytes ++ line)) es
    (omega (arith, length-append values row)) (omega (arith, length-append bytes line)) all)
    (All-cons Within e [] (record {
      row = omega (arith, length-append values row);
      values_end = omega arith;
      line = omega (arith, length-append bytes line);
      bytes_end = omega arith;
    }) (All-nil Within))

pub total_more : (values row : List Value) (bytes line : List ℕ) (es : List Entry) (verb : Verb) (relation : Bytes)
    → All (SpanIsWithin (length values) (length bytes)) es
    → length bytes ≡ sum_by (λ l. length l) (map (logged_in bytes) es)
    → length (bytes ++ line) ≡ sum_by (λ l. length l)
    (map (logged_in (bytes ++ line)) (es ++ next_entry values bytes verb relation row line ∷ []))
total_more values row bytes line es verb relation all total =
    omega (
      arith,
      length-append bytes line,
      total,
      ap (λ (ls : List Bytes). sum_by (λ l. length l) ls) (logged_more values row bytes line es verb relation all),
      sum_by_push (λ l. length l) (map (logged_in bytes) es) line,
    )

-- ---- the buffer of a transaction

-- what a buffer holds, by its values, bytes and entries
abbrev by_parts : List Value → List ℕ → List Entry → HeldTransaction
by_parts values bytes es = record { lines = map (bytes_of_line values) es; logged = map (logged_in bytes) es }

parts_same : (v w : List Value) (b c : List ℕ) (es fs : List Entry) → w ≡ v → c ≡ b → fs ≡ es
    → by_parts w c fs ≡ by_parts v b es
parts_same v w b c es fs values bytes entries =
    ap (λ (u : List Value). by_parts u c fs) values
    ∙ ap₂ (λ (d : List ℕ) (gs : List Entry). by_parts v d gs) bytes entries

pub holds_same : (old new : Buffer) → HasTheSame old new → lines_held_in new ≡ lines_held_in old
holds_same old new s = parts_same old.values.items new.values.items old.bytes.items new.bytes.items old.entries.items
    new.entries.items s.values s.bytes s.entries

pub buffer_same : (old new : Buffer) → HasTheSame old new → IsBuffer old → IsBuffer new
buffer_same old new s i = record {
  few = omega (arith, ap (λ (es : List Entry). length es) s.entries, i.few);
  within = subst (λ (es : List Entry). All (SpanIsWithin (length new.values.items) (length new.bytes.items)) es)
      (sym s.entries)
      (within_more (length old.values.items) (length old.bytes.items) (length new.values.items)
      (length new.bytes.items) old.entries.items (omega (arith, ap (λ (vs : List Value). length vs) s.values))
      (omega (arith, ap (λ (bs : List ℕ). length bs) s.bytes)) i.within);
  total = ap (λ (bs : List ℕ). length bs) s.bytes ∙ i.total
      ∙ sym (ap₂ (λ (bs : List ℕ) (es : List Entry). sum_by (λ l. length l) (map (logged_in bs) es)) s.bytes s.entries);
}

pub holds_more : (old new : Buffer) (verb : Verb) (relation : Bytes) (row : List Value) (line : Bytes) → IsBuffer old
    → GetsOneMoreLine old verb relation row line new → lines_held_in new ≡ record {
      lines = (lines_held_in old).lines ++ record { verb = verb; relation = relation; row = row } ∷ [];
      logged = (lines_held_in old).logged ++ line ∷ [];
    }
holds_more old new verb relation row line i s =
    parts_same (old.values.items ++ row) new.values.items (old.bytes.items ++ line) new.bytes.items
    (old.entries.items ++ next_entry old.values.items old.bytes.items verb relation row line ∷ []) new.entries.items
    s.values s.bytes s.entries
    ∙ ap₂ (λ (hs : List HeldLine) (ls : List Bytes). record { lines = hs; logged = ls })
    (lines_more old.values.items row old.bytes.items line old.entries.items verb relation i.within)
    (logged_more old.values.items row old.bytes.items line old.entries.items verb relation i.within)

pub buffer_more : (old new : Buffer) (verb : Verb) (relation : Bytes) (row : List Value) (line : Bytes) → IsBuffer old
    → length old.entries.items < HELD → GetsOneMoreLine old verb relation row line new → IsBuffer new
buffer_more old new verb relation row line i room s =
    let vs = old.values.items ++ row in
    let bs = old.bytes.items ++ line in
    let es = old.entries.items ++ next_entry old.values.items old.bytes.items verb relation row line ∷ [] in
    record {
      few = omega (
        arith,
        ap (λ (gs : List Entry). length gs) s.entries,
        length-append old.entries.items (next_entry old.values.items old.bytes.items verb relation row line ∷ []),
        room,
      );
      within = subst (λ (gs : List Entry). All (SpanIsWithin (length new.values.items) (length new.bytes.items)) gs)
          (sym s.entries)
          (within_more (length vs) (length bs) (length new.values.items) (length new.bytes.items) es
          (omega (arith, ap (λ (us : List Value). length us) s.values))
          (omega (arith, ap (λ (us : List ℕ). length us) s.bytes))
          (within_next old.values.items row old.bytes.items line old.entries.items verb relation i.within));
      total = ap (λ (us : List ℕ). length us) s.bytes
          ∙ total_more old.values.items row old.bytes.items line old.entries.items verb relation i.within i.total
          ∙ sym (ap₂ (λ (us : List ℕ) (gs : List Entry). sum_by (λ l. length l) (map (logged_in us) gs)) s.bytes
          s.entries);
    }

-- ---- the line of the log at a place

logged_mid : (bytes : List ℕ) (es : List Entry) (last : Bytes) (n : ℕ) (d : Entry) → n < length es
    → slice_get (map (logged_in bytes) es ++ last ∷ []) n ≡ Some (logged_in bytes (slice_index_or es n d))
logged_mid bytes [] last n d less = absurd (omega (arith, less))
logged_mid bytes (e ∷ es) last zero d less = refl
logged_mid bytes (e ∷ es) last (suc n) d less = logged_mid bytes es last n d (omega (arith, less))

last_read : (ls : List Bytes) (last : Bytes) → slice_get (ls ++ last ∷ []) (length ls) ≡ Some last
last_read [] last = refl
last_read (l ∷ ls) last = last_read ls last

past_read : (ls : List Bytes) (last : Bytes) (n : ℕ) → length ls < n → slice_get (ls ++ last ∷ []) n ≡ None
past_read ls last n more = slice_get_past (ls ++ last ∷ []) n (omega (arith, length-append ls (last ∷ []), more))

-- the held lines in the log, the last, and no further one
log_mid : (bytes : List ℕ) (es : List Entry) (at : ℕ) (d : Entry) → 0 < at → at ≤ length es
    → slice_get (batch ∷ map (logged_in bytes) es ++ done ∷ []) at
    ≡ Some (logged_in bytes (slice_index_or es (at - 1) d))
log_mid bytes es zero d some less = absurd (omega (arith, some))
log_mid bytes es (suc n) d some less =
    let same : suc n - 1 ≡ n = omega arith in
    logged_mid bytes es done n d (omega (arith, less))
    ∙ ap (λ (m : ℕ). Some (logged_in bytes (slice_index_or es m d))) (sym same)

log_last : (ls : List Bytes) (at : ℕ) → at ≡ length ls + 1 → slice_get (batch ∷ ls ++ done ∷ []) at ≡ Some done
log_last ls at is =
    let next : length ls + 1 ≡ suc (length ls) = omega arith in
    ap (λ (n : ℕ). slice_get (batch ∷ ls ++ done ∷ []) n) (is ∙ next) ∙ last_read ls done

log_past : (ls : List Bytes) (at : ℕ) → length ls + 1 < at → slice_get (batch ∷ ls ++ done ∷ []) at ≡ None
log_past ls zero past = absurd (omega (arith, past))
log_past ls (suc n) past = past_read ls done n (omega (arith, past))

-- ---- a line that is appended, or isn't for want of memory

has_space : (buffer : Buffer) (held : HeldTransaction) (line : ℕ) → lines_held_in buffer ≡ held → has_room held line ≡ true
    → length buffer.entries.items < HELD
has_space buffer held line view room =
    let fewer = (and_parts (nat_lt (length held.lines) HELD)
    (nat_le (sum_by (λ l. length l) held.logged + line) HELD_BYTES) room).0 in
    omega (
      arith,
      ltb-true (length held.lines) HELD fewer,
      ap (λ (t : HeldTransaction). length t.lines) view,
      length-map buffer.entries.items (bytes_of_line buffer.values.items),
    )

pub buffer_after : (old new : Buffer) (held : HeldTransaction) (verb : Verb) (relation : Bytes) (row : List Value) (line : Bytes)
    (r : Result ⊤ NoMem) → lines_held_in old ≡ held → has_room held (length line) ≡ true → IsBuffer old
    → OnOk r (GetsOneMoreLine old verb relation row line new) → OnErr r (HasTheSame old new) → IsBuffer new
buffer_after old new held verb relation row line (Ok u) view room i ok err =
    buffer_more old new verb relation row line i (has_space old held (length line) view room) ok
buffer_after old new held verb relation row line (Err e) view room i ok err = buffer_same old new err i

pub holds_after : (old new : Buffer) (held : HeldTransaction) (verb : Verb) (relation : Bytes) (row : List Value) (line : Bytes)
    (r : Result ⊤ NoMem) → lines_held_in old ≡ held → IsBuffer old → OnOk r (GetsOneMoreLine old verb relation row line new)
    → OnOk r (lines_held_in new ≡ record {
      lines = held.lines ++ record { verb = verb; relation = relation; row = row } ∷ [];
      logged = held.logged ++ line ∷ [];
    })
holds_after old new held verb relation row line (Ok u) view i ok =
    holds_more old new verb relation row line i ok
    ∙ ap (λ (t : HeldTransaction). record {
      lines = t.lines ++ record { verb = verb; relation = relation; row = row } ∷ [];
      logged = t.logged ++ line ∷ [];
    }) view
holds_after old new held verb relation row line (Err e) view i ok = tt

pub reads_held : (buffer : Buffer) (held : HeldTransaction) (at : ℕ) (e : Entry) (bytes : List ℕ) → lines_held_in buffer ≡ held → 0 < at
    → at ≤ length buffer.entries.items → e ≡ slice_index_or buffer.entries.items (at - 1) e
    → bytes ≡ buffer.bytes.items → Some (logged_in bytes e) ≡ slice_get (log_lines held) at
reads_held buffer held at e bytes view some less is same =
    ap₂ (λ (bs : List ℕ) (f : Entry). Some (logged_in bs f)) same is
    ∙ sym (log_mid buffer.bytes.items buffer.entries.items at e some less)
    ∙ ap (λ (t : HeldTransaction). slice_get (log_lines t) at) view

pub reads_done : (buffer : Buffer) (held : HeldTransaction) (at : ℕ) → lines_held_in buffer ≡ held
    → at ≡ length buffer.entries.items + 1 → Some done ≡ slice_get (log_lines held) at
reads_done buffer held at view is =
    sym (log_last (lines_held_in buffer).logged at
    (omega (arith, is, length-map buffer.entries.items (logged_in buffer.bytes.items))))
    ∙ ap (λ (t : HeldTransaction). slice_get (log_lines t) at) view

pub reads_none : (buffer : Buffer) (held : HeldTransaction) (at : ℕ) → lines_held_in buffer ≡ held
    → length buffer.entries.items + 1 < at → None ≡ slice_get (log_lines held) at
reads_none buffer held at view past =
    sym (log_past (lines_held_in buffer).logged at
    (omega (arith, past, length-map buffer.entries.items (logged_in buffer.bytes.items))))
    ∙ ap (λ (t : HeldTransaction). slice_get (log_lines t) at) view
