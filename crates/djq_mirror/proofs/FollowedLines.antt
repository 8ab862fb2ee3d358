-- Lines that are followed, one after another, and what is written of them.
use Rattle.std.specs.Prelude.{ℕ, zero, suc, List, [], ◌∷◌, ◌++◌, ◌==◌, ◌≡◌, ◌≢◌, ◌+◌, ◌<◌, ◌≤◌, ◌⊎◌, Bool, true, false}
use Rattle.std.specs.Prelude.{Option, Some, None, length, take, drop}
use Rattle.std.proofs.Common.{refl, sym, ap, ◌∙◌, subst, inl, inr, get_or, arith, append_assoc, append-nil}
use Rattle.std.proofs.Common.{length-append}
use Rattle.std.proofs.lemmas.Bool.Decides.{eqb_tells}
use Rattle.std.proofs.lemmas.Grind.{flat_map-append, get_or_default_zero}
use Rattle.std.proofs.lemmas.List.Elements.{All-append, All-cons}
use Rattle.memchr.specs.Find.{IsFirstByte, is_byte}
use Rattle.djq_io.specs.Source.{SourceReading}
use Rattle.djq_model.specs.Data.{Bytes}
use Rattle.djq_protocol.specs.Reply.{line}
use Rattle.djq_mirror.specs.declared.mode.TheConstants.{REPLY_LINE_BYTES}
use Rattle.djq_mirror.specs.declared.follower.Halt.{Halt}
use Rattle.djq_mirror.specs.declared.follower.Halt.TheVariants.{Outside, TooMany, NoMem, Outside as HaltsOutside}
use Rattle.djq_mirror.specs.declared.follower.Halt.TheVariants.{TooMany as HaltsFull, NoMem as HaltsLacking}
use Rattle.djq_mirror.specs.declared.reading.Followed.TheVariants.{Halted, Whole, ReadFault as FailedRead}
use Rattle.djq_mirror.specs.declared.command.Mirrored.{Mirrored}
use Rattle.djq_mirror.specs.declared.command.Mirrored.TheVariants.{Done, ReadFault, NoMemory}
use Rattle.djq_mirror.specs.Mirror.{Held, at_first, IsOutside, written}
use Rattle.djq_mirror.specs.Inputs.{lines_text, HasNoLf, FollowsAll, StopsMirror, FirstIsRefused}
use Rattle.djq_mirror.specs.Follow.{Following, most_lines, Stopping, TakesLines, Halts, CountsOut, TakesPiece}
use Rattle.djq_mirror.specs.Follow.{TakesLine, KeepsFront, HaltsAtEnd, HasGivenAll, AreFollowed, FollowedAs, FollowEnds}
use Rattle.djq_mirror.specs.Ends.{HaltIsTold, IsUntold, ComesTo, StopsFor, MirrorLeaves, LeavesNone}

-- ---- Lines that are followed, one after another, and the first that can't be.

-- lines behind lines
pub follows_more : (name : Bytes) (a b c : Held) (ls ms : List Bytes) → FollowsAll name a ls b → FollowsAll name b ms c
    → FollowsAll name a (ls ++ ms) c
follows_more name a b c [] ms same more = subst (λ (h : Held). FollowsAll name h ms c) same more
follows_more name a b c (l ∷ ls) ms (between, own, line, rest) more =
    (between, own, line, follows_more name between b c ls ms rest more)

-- the text of lines behind lines
pub text_more : (ls ms : List Bytes) → lines_text (ls ++ ms) ≡ lines_text ls ++ lines_text ms
text_more ls ms = flat_map-append line ls ms

-- pieces behind one another
joined : (a x y b rest : Bytes) (ls : List Bytes) → a ++ x ≡ lines_text ls ++ b → (ms : List Bytes) → b ++ y
    ≡ lines_text ms ++ rest
    → a ++ (x ++ y) ≡ lines_text (ls ++ ms) ++ rest
joined a x y b rest ls first ms second =
    sym (append_assoc a x y)
    ∙ ap (λ (xs : Bytes). xs ++ y) first
    ∙ append_assoc (lines_text ls) b y
    ∙ ap (λ (xs : Bytes). lines_text ls ++ xs) second
    ∙ sym (append_assoc (lines_text ls) (lines_text ms) rest)
    ∙ ap (λ (xs : Bytes). xs ++ rest) (sym (text_more ls ms))

counted : (n m k : ℕ) (ls ms : List Bytes) → m ≡ n + length ls → k ≡ m + length ms → k ≡ n + length (ls ++ ms)
counted n m k ls ms first second = omega (arith, first, second, length-append ls ms)

-- ---- LFs

none_in : HasNoLf []
none_in k d low is = absurd (omega (arith, low))

pub no_lf_more : (xs ys : Bytes) → HasNoLf xs → HasNoLf ys → HasNoLf (xs ++ ys)
no_lf_more xs ys h k = All-append (λ b. b ≢ 10) xs ys h k

-- bytes up to the first LF, and behind it
front_line : (xs : Bytes) (k : ℕ) → k < length xs → get_or xs k 0 ≡ 10
    → ((j : ℕ) → j < k → get_or xs j 0 ≡ 10 → ⊥)
    → HasNoLf (take k xs) × (xs ≡ take k xs ++ 10 ∷ drop (k + 1) xs)
front_line [] k low is before = absurd (omega (arith, low))
front_line (x ∷ xs) zero low is before = (none_in, ap (λ (y : ℕ). y ∷ xs) is)
front_line (x ∷ xs) (suc k) low is before =
    let rest = front_line xs k (omega (arith, low)) is (λ j less. before (suc j) (omega (arith, less))) in (
      All-cons (λ b. b ≢ 10) x (take k xs) (before 0 (omega arith)) rest.0,
      ap (λ (ys : Bytes). x ∷ ys) rest.1 ∙ ap (λ (n : ℕ). x ∷ (take k xs ++ 10 ∷ drop n (x ∷ xs))) (more k),
    )
  where
    more : (n : ℕ) → suc (n + 1) ≡ suc n + 1
    more n = omega arith

is_ten : (b : ℕ) → (b == 10) ≡ true → b ≡ 10
is_ten b h = elim (eqb_tells b 10) [
  | inl (is, same) ↦ same
  | inr (is, apart) ↦ absurd (not_both is h)
]
  where
    not_both : {t : Bool} → t ≡ false → t ≡ true → ⊥
    not_both e k = cc

pub at_first_lf : (xs : Bytes) (k : ℕ) → IsFirstByte (is_byte 10) xs (Some k)
    → HasNoLf (take k xs) × (xs ≡ take k xs ++ 10 ∷ drop (k + 1) xs)
at_first_lf xs k h = front_line xs k h.0.high (is_ten (get_or xs k 0) h.1)
    (λ j less is. h.0.before j (omega arith) less (ap (λ (b : ℕ). b == 10) is))

pub at_no_lf : (xs : Bytes) → IsFirstByte (is_byte 10) xs None → HasNoLf xs
at_no_lf xs h k d low is = h k (omega arith) low (ap (λ (b : ℕ). b == 10) (sym (get_or_default_zero xs k d low) ∙ is))

-- ---- pieces

pub takes_none : (f : Following) → HasNoLf f.begun → TakesLines f [] f
takes_none f own = record {
  lines = [];
  is = append-nil f.begun;
  own = own;
  follows = refl;
  count = omega arith;
  name = refl;
}

pub takes_more : (a b c : Following) (x y : Bytes) → TakesLines a x b → TakesLines b y c → TakesLines a (x ++ y) c
takes_more a b c x y first second =
    let named = subst (λ (name : Bytes). FollowsAll name b.held second.lines c.held) first.name second.follows in
    record {
      lines = first.lines ++ second.lines;
      is = joined a.begun x y b.begun c.begun first.lines first.is second.lines second.is;
      own = second.own;
      follows = follows_more a.name a.held b.held c.held first.lines second.lines first.follows named;
      count = counted a.count b.count c.count first.lines second.lines first.count second.count;
      name = second.name ∙ first.name;
    }

-- a line that can't be followed behind pieces that were taken
pub halts_behind : (a b : Following) (x y : Bytes) (n : ℕ) → TakesLines a x b → Halts b y n → Halts a (x ++ y) n
halts_behind a b x y n first h =
    let named = subst (λ (name : Bytes). FollowsAll name b.held h.lines h.held) first.name h.follows in
    let where_it_stops = subst (λ (name : Bytes). Stopping name h.held h.bad h.behind) first.name h.stops in
    record {
      lines = first.lines ++ h.lines;
      held = h.held;
      bad = h.bad;
      behind = h.behind;
      is = joined a.begun x y b.begun (h.bad ++ h.behind) first.lines first.is h.lines h.is;
      follows = follows_more a.name a.held b.held h.held first.lines h.lines first.follows named;
      number = omega (arith, h.number, first.count, length-append first.lines h.lines);
      own = h.own;
      stops = where_it_stops;
    }

-- so many lines that no more can be counted
pub counts_out_behind : (a b : Following) (x y : Bytes) → TakesLines a x b → CountsOut b y → CountsOut a (x ++ y)
counts_out_behind a b x y first h = record {
  mid = h.mid;
  front = x ++ h.front;
  rest = h.rest;
  is = ap (λ (ys : Bytes). x ++ ys) h.is ∙ sym (append_assoc x h.front h.rest);
  takes = takes_more a b h.mid x h.front first h.takes;
  full = h.full;
}

-- ---- a line

ended : (begun last : Bytes) → begun ++ (last ++ 10 ∷ []) ≡ lines_text ((begun ++ last) ∷ []) ++ []
ended begun last = sym (append_assoc begun last (10 ∷ []))
    ∙ sym (append-nil (line (begun ++ last)))
    ∙ ap (λ (xs : Bytes). xs ++ []) (sym (append-nil (line (begun ++ last))))

pub takes_line : (old new : Following) (last : Bytes) → HasNoLf old.begun → HasNoLf last → TakesLine old last None new
    → TakesLines old (last ++ 10 ∷ []) new
takes_line old new last own after h = record {
  lines = (old.begun ++ last) ∷ [];
  is = ended old.begun last ∙ ap (λ (xs : Bytes). lines_text ((old.begun ++ last) ∷ []) ++ xs) (sym h.1);
  own = subst HasNoLf (sym h.1) none_in;
  follows = (new.held, no_lf_more old.begun last own after, h.0, refl);
  count = h.2;
  name = h.3;
}

pub line_halts : (old : Following) (last tail : Bytes) (n : ℕ) (new : Following) → HasNoLf old.begun → HasNoLf last
    → TakesLine old last (Some (Outside n)) new → Halts old (last ++ 10 ∷ tail) n
line_halts old last tail n new own after h = record {
  lines = [];
  held = old.held;
  bad = old.begun ++ last;
  behind = 10 ∷ tail;
  is = sym (append_assoc old.begun last (10 ∷ tail));
  follows = refl;
  number = omega (arith, h.0);
  own = no_lf_more old.begun last own after;
  stops = inl (tail, refl, h.1);
}

-- ---- the front of a line

pub takes_front : (old new : Following) (front : Bytes) → HasNoLf old.begun → HasNoLf front
    → KeepsFront old front None new
    → TakesLines old front new
takes_front old new front own after h = subst (λ (f : Following). TakesLines old front f) (sym h) (record {
  lines = [];
  is = refl;
  own = no_lf_more old.begun front own after;
  follows = refl;
  count = omega arith;
  name = refl;
})

pub front_halts : (old new : Following) (front : Bytes) (n : ℕ) → HasNoLf old.begun → HasNoLf front
    → KeepsFront old front (Some (Outside n)) new → Halts old front n
front_halts old new front n own after h = record {
  lines = [];
  held = old.held;
  bad = old.begun ++ front;
  behind = [];
  is = sym (append-nil (old.begun ++ front));
  follows = refl;
  number = omega (arith, h.0);
  own = no_lf_more old.begun front own after;
  stops = inr (refl, h.1);
}

pub counts_out_here : (old : Following) (bytes : Bytes) → HasNoLf old.begun → old.count ≡ most_lines
    → CountsOut old bytes
counts_out_here old bytes own full = record {
  mid = old;
  front = [];
  rest = bytes;
  is = refl;
  takes = takes_none old own;
  full = full;
}

-- what becomes of a piece, by what becomes of the rest of it
pub takes_rest : (old mid new : Following) (piece front rest : Bytes) (halt : Option Halt) → piece ≡ front ++ rest
    → TakesLines old front mid → TakesPiece mid rest halt new → TakesPiece old piece halt new
takes_rest old mid new piece front rest None is first h =
    subst (λ (p : Bytes). TakesLines old p new) (sym is) (takes_more old mid new front rest first h)
takes_rest old mid new piece front rest (Some (Outside n)) is first h =
    subst (λ (p : Bytes). Halts old p n) (sym is) (halts_behind old mid front rest n first h)
takes_rest old mid new piece front rest (Some TooMany) is first h =
    subst (λ (p : Bytes). CountsOut old p) (sym is) (counts_out_behind old mid front rest first h)
takes_rest old mid new piece front rest (Some NoMem) is first h = tt

-- what becomes of the front of a line, as of a piece
pub front_is_piece : (old new : Following) (front : Bytes) (halt : Option Halt) → HasNoLf old.begun → HasNoLf front
    → KeepsFront old front halt new → TakesPiece old front halt new
front_is_piece old new front None own after h = takes_front old new front own after h
front_is_piece old new front (Some (Outside n)) own after h = front_halts old new front n own after h
front_is_piece old new front (Some TooMany) own after h = counts_out_here old front own h
front_is_piece old new front (Some NoMem) own after h = tt

-- what becomes of a line that goes no further, as of a piece
pub line_is_piece : (old new : Following) (last tail : Bytes) (halt : Halt) → HasNoLf old.begun → HasNoLf last
    → TakesLine old last (Some halt) new → TakesPiece old (last ++ 10 ∷ tail) (Some halt) new
line_is_piece old new last tail (Outside n) own after h = line_halts old last tail n new own after h
line_is_piece old new last tail TooMany own after h = counts_out_here old (last ++ 10 ∷ tail) own h
line_is_piece old new last tail NoMem own after h = tt

-- ---- what was read

-- A mirror that holds nothing yet, at the front of the input.
pub record IsFirst (f : Following) : Type 0 where
  pub held : f.held ≡ at_first
  pub begun : f.begun ≡ []
  pub count : f.count ≡ 0

-- bytes behind those that have begun, where none have
pub none_begun : (f : Following) (bytes front : Bytes) → IsFirst f → f.begun ++ bytes ≡ front → bytes ≡ front
none_begun f bytes front first is = sym (ap (λ (xs : Bytes). xs ++ bytes) first.begun) ∙ is

from_first : (f : Following) (ls : List Bytes) (held : Held) → IsFirst f → FollowsAll f.name f.held ls held
    → FollowsAll f.name at_first ls held
from_first f ls held first h = subst (λ (old : Held). FollowsAll f.name old ls held) first.held h

pub are_followed : (f new : Following) (bytes : Bytes) → IsFirst f → TakesLines f bytes new → AreFollowed f.name bytes
are_followed f new bytes first h = record {
  lines = h.lines;
  held = new.held;
  begun = new.begun;
  is = none_begun f bytes (lines_text h.lines ++ new.begun) first h.is;
  own = h.own;
  follows = from_first f h.lines new.held first h.follows;
}

-- the last line lacks its LF
pub is_unfinished : (f new : Following) (bytes : Bytes) (n : ℕ) → IsFirst f → TakesLines f bytes new → new.begun ≢ []
    → n ≡ new.count + 1 → FirstIsRefused f.name bytes n
is_unfinished f new bytes n first h some number = record {
  lines = h.lines;
  held = new.held;
  bad = new.begun;
  behind = [];
  is = none_begun f bytes (lines_text h.lines ++ new.begun) first h.is
      ∙ ap (λ (xs : Bytes). lines_text h.lines ++ xs) (sym (append-nil new.begun));
  number = omega (arith, number, h.count, first.count);
  follows = from_first f h.lines new.held first h.follows;
  line_of_its_own = h.own;
  stops = some;
}

-- A line that is too long is no line, whatever comes of it.
too_long : (name : Bytes) (held : Held) (bad more : Bytes) → REPLY_LINE_BYTES < length bad
    → IsOutside name held (bad ++ more)
too_long name held bad more long r is = absurd (omega (arith, long, is.short, length-append bad more))

-- what comes up to the next LF, and behind it
first_lf : (bytes : Bytes) → (front : Bytes) × (rest : Bytes) × (bytes ≡ front ++ rest) × HasNoLf front
    × ((rest ≡ []) ⊎ ((tail : Bytes) × (rest ≡ 10 ∷ tail)))
first_lf [] = ([], [], refl, none_in, inl refl)
first_lf (b ∷ bs) = elim (eqb_tells b 10) [
  | inl (is, same) ↦ ([], b ∷ bs, refl, none_in, inr (bs, ap (λ (c : ℕ). c ∷ bs) same))
  | inr (is, apart) ↦
      let rest = first_lf bs in
      (b ∷ rest.0, rest.1, ap (λ (xs : Bytes). b ∷ xs) rest.2, All-cons (λ c. c ≢ 10) b rest.0 apart rest.3, rest.4)
]

some_left : (bad : Bytes) → REPLY_LINE_BYTES < length bad → bad ≢ []
some_left bad long none = absurd (omega (arith, long, ap (λ (xs : Bytes). length xs) none))

-- Whatever comes behind, the line is the first that can't be followed.
pub is_refused : (f : Following) (bytes : Bytes) (n : ℕ) (more : Bytes) → IsFirst f → Halts f bytes n
    → FirstIsRefused f.name (bytes ++ more) n
is_refused f bytes n more first h = elim h.stops [
  | inl (tail, is, outside) ↦ record {
    lines = h.lines;
    held = h.held;
    bad = h.bad;
    behind = 10 ∷ (tail ++ more);
    is = behind_it (10 ∷ tail) is;
    number = omega (arith, h.number, first.count);
    follows = from_first f h.lines h.held first h.follows;
    line_of_its_own = h.own;
    stops = (refl, outside);
  }
  | inr (none, long) ↦ long_line none long (first_lf more)
]
  where
    behind_it : (behind : Bytes) → h.behind ≡ behind → bytes ++ more ≡ lines_text h.lines ++ (h.bad ++ (behind ++ more))
    behind_it behind is =
        ap (λ (xs : Bytes). xs ++ more) (none_begun f bytes (lines_text h.lines ++ (h.bad ++ h.behind)) first h.is
        ∙ ap (λ (xs : Bytes). lines_text h.lines ++ (h.bad ++ xs)) is)
        ∙ append_assoc (lines_text h.lines) (h.bad ++ behind) more
        ∙ ap (λ (xs : Bytes). lines_text h.lines ++ xs) (append_assoc h.bad behind more)

    stops_there : (front rest : Bytes) → REPLY_LINE_BYTES < length h.bad
        → (rest ≡ []) ⊎ ((tail : Bytes) × (rest ≡ 10 ∷ tail))
        → StopsMirror f.name h.held (h.bad ++ front) rest
    stops_there front rest long (inl none) =
        subst (λ (xs : Bytes). StopsMirror f.name h.held (h.bad ++ front) xs) (sym none)
        (some_left (h.bad ++ front) (omega (arith, long, length-append h.bad front)))
    stops_there front rest long (inr (tail, is)) = subst (λ (xs : Bytes). StopsMirror f.name h.held (h.bad ++ front) xs)
        (sym is)
        (refl, too_long f.name h.held h.bad front long)

    long_line : h.behind ≡ [] → REPLY_LINE_BYTES < length h.bad
        → (front : Bytes) × (rest : Bytes) × (more ≡ front ++ rest) × HasNoLf front
        × ((rest ≡ []) ⊎ ((tail : Bytes) × (rest ≡ 10 ∷ tail))) → FirstIsRefused f.name (bytes ++ more) n
    long_line none long (front, rest, is, own, ends) = record {
      lines = h.lines;
      held = h.held;
      bad = h.bad ++ front;
      behind = rest;
      is = behind_it [] none ∙ ap (λ (xs : Bytes). lines_text h.lines ++ (h.bad ++ xs)) is
          ∙ ap (λ (xs : Bytes). lines_text h.lines ++ xs) (sym (append_assoc h.bad front rest));
      number = omega (arith, h.number, first.count);
      follows = from_first f h.lines h.held first h.follows;
      line_of_its_own = no_lf_more h.bad front h.own own;
      stops = stops_there front rest long ends;
    }

-- each line has a byte at least
lines_count : (ls : List Bytes) → length ls ≤ length (lines_text ls)
lines_count [] = omega arith
lines_count (l ∷ ls) = omega (arith, lines_count ls, length-append (line l) (lines_text ls), length-append l (10 ∷ []))

pub counted_bytes : (f : Following) (bytes : Bytes) → IsFirst f → CountsOut f bytes → most_lines ≤ length bytes
counted_bytes f bytes first h =
    let ls = h.takes.lines in
    let all = none_begun f h.front (lines_text ls ++ h.mid.begun) first h.takes.is in
    omega (
      arith,
      h.full,
      h.takes.count,
      first.count,
      lines_count ls,
      ap (λ (xs : Bytes). length xs) all,
      length-append (lines_text ls) h.mid.begun,
      ap (λ (xs : Bytes). length xs) h.is,
      length-append h.front h.rest,
    )

pub unfinished_bytes : (f new : Following) (bytes : Bytes) → IsFirst f → TakesLines f bytes new → new.count ≡ most_lines
    → most_lines ≤ length bytes
unfinished_bytes f new bytes first h full = counted_bytes f bytes first (record {
  mid = new;
  front = bytes;
  rest = [];
  is = sym (append-nil bytes);
  takes = h;
  full = full;
})

-- what a piece that goes no further comes to
pub halted_as : (f mid : Following) (bytes piece : Bytes) (halt : Halt) (new : Following) (now : Option SourceReading)
    (held : Held)
    → IsFirst f → TakesLines f bytes mid → TakesPiece mid piece (Some halt) new
    → FollowedAs (Halted halt) f.name (bytes ++ piece) now held
halted_as f mid bytes piece (Outside n) new now held first h k =
    inl (λ more. is_refused f (bytes ++ piece) n more first (halts_behind f mid bytes piece n h k))
halted_as f mid bytes piece TooMany new now held first h k =
    let many = counted_bytes f (bytes ++ piece) first (counts_out_behind f mid bytes piece h k) in omega (arith, many)
halted_as f mid bytes piece NoMem new now held first h k = tt

-- what the end of the input comes to behind a line that has begun
pub ended_as : (f new : Following) (bytes : Bytes) (halt : Halt) (now : Option SourceReading) (held : Held) → IsFirst f
    → TakesLines f bytes new
    → HasGivenAll now → HaltsAtEnd new (Some halt) → FollowedAs (Halted halt) f.name bytes now held
ended_as f new bytes (Outside n) now held first h end (some, number) =
    inr (end, is_unfinished f new bytes n first h some number)
ended_as f new bytes TooMany now held first h end (some, full) =
    let many = unfinished_bytes f new bytes first h full in omega (arith, many)
ended_as f new bytes NoMem now held first h end (some, none) = absurd none

-- ---- What is to be written of what was read, by how reading ended.

module _ (name : Bytes) (before now : Option SourceReading) (faults faults' : ℕ) where
  pub leaves_whole : (held : Held) (text : Bytes) (answer : Mirrored)
      → FollowEnds Whole name before now faults faults' held
      → text ≡ written held → answer ≡ Done → MirrorLeaves answer text name before now faults faults'
  leaves_whole held text answer e is done = record {
    bytes = e.bytes;
    gave = e.gave;
    comes = subst (λ (m : Mirrored). ComesTo m text name e.bytes now) (sym done) (e.comes.0, held, e.comes.1, is);
    no_fault = e.counted;
  }

  pub leaves_halted : (held : Held) (halt : Halt) (text : Bytes) (answer : Mirrored)
      → FollowEnds (Halted halt) name before now faults faults' held → HaltIsTold halt text answer
      → MirrorLeaves answer text name before now faults faults'
  leaves_halted held (HaltsOutside n) text answer e (is, outside) = record {
    bytes = e.bytes;
    gave = e.gave;
    comes = subst (λ (m : Mirrored). ComesTo m text name e.bytes now) (sym outside) (e.comes, is);
    no_fault = e.counted;
  }
  leaves_halted held HaltsFull text answer e none = absurd none
  leaves_halted held HaltsLacking text answer e none = absurd none

  pub lacks_whole : (held : Held) (answer : Mirrored) → FollowEnds Whole name before now faults faults' held → answer
      ≡ NoMemory
      → LeavesNone answer name before now faults faults'
  lacks_whole held answer e is = record {
    bytes = e.bytes;
    gave = e.gave;
    stops = subst (λ (m : Mirrored). StopsFor m name e.bytes faults faults') (sym is) e.counted;
  }

  pub lacks_halted : (held : Held) (halt : Halt) (answer : Mirrored)
      → FollowEnds (Halted halt) name before now faults faults' held
      → IsUntold halt answer → LeavesNone answer name before now faults faults'
  lacks_halted held (HaltsOutside n) answer e is = record {
    bytes = e.bytes;
    gave = e.gave;
    stops = subst (λ (m : Mirrored). StopsFor m name e.bytes faults faults') (sym is) e.counted;
  }
  lacks_halted held HaltsFull answer e is = record {
    bytes = e.bytes;
    gave = e.gave;
    stops = subst (λ (m : Mirrored). StopsFor m name e.bytes faults faults') (sym is) (e.comes, e.counted);
  }
  lacks_halted held HaltsLacking answer e is = record {
    bytes = e.bytes;
    gave = e.gave;
    stops = subst (λ (m : Mirrored). StopsFor m name e.bytes faults faults') (sym is) e.counted;
  }

  pub fails : (held : Held) → FollowEnds FailedRead name before now faults faults' held
      → LeavesNone ReadFault name before now faults faults'
  fails held e = record { bytes = e.bytes; gave = e.gave; stops = (e.counted, e.comes) }
