-- How the reading of bytes goes on from line to line.
use Rattle.std.proofs.Common.{◌≡◌, ℕ, ◌+◌, ◌<◌, ◌≤◌, List, [], ◌∷◌, ◌++◌, length, Bool, true, false, refl, sym, ap, ◌∙◌, subst, arith, append_assoc, append-nil, ◌⊎◌, inl, inr}
use Rattle.std.specs.Prelude.{◌==◌, ◌≢◌, ◌&&◌, ◌||◌, nat_lt}
use Rattle.std.specs.List.{slice_split}
use Rattle.std.proofs.lemmas.Bool.{lt-ltb, le-ltb}
use Rattle.std.proofs.lemmas.List.{length-append}
use Rattle.std.proofs.lemmas.List.Splits.{slice_split_at, slice_split_none, length-slice_split}
use Rattle.osm_entity.specs.declared.kind.Flow.{Flow}
use Rattle.osm_entity.specs.declared.verdict.Cause.TheVariants.{LineTooLong}
use Rattle.osm_opl_line.specs.Line.{LineValue, Bad, longest_line, opl_line}
use Rattle.osm_entity.specs.Readings.{Reading, Ending, after, ending_of}
use Rattle.osm_opl_line.specs.Reading.{before, is_line, lines_of, read_lines, opl_reading}
use Rattle.osm_opl.specs.Found.{HasLine, IsHeld, LongLine}
use Rattle.osm_host.specs.Feeds.{MayCome, reached_end}
use Rattle.osm_host.proofs.FeedLemmas.{reached_end-true}
use Rattle.osm_host.specs.declared.feed.Feed.TheVariants.{Ended}
use Rattle.osm_opl.specs.Reader.{ReaderValue}
use Rattle.osm_opl.specs.Passing.{FindsLine, FindsLong, TakesLine, unread_past}
use Rattle.osm_opl.specs.Standing.{reading_from}
use Rattle.osm_opl.specs.Unread.{HasNoNewline, first_line, unread_bytes, left_past}
use Rattle.osm_opl.proofs.UnreadLemmas.{opl_line-long}

-- a reading of nothing but how it ends
abbrev pub only : Ending → Reading
only ending = record { items = []; ending = ending }

-- a file is read from its first line on
pub opl_reading-from : (flow : Flow) (bytes : List ℕ) (clean : Bool) →
    opl_reading flow bytes clean ≡ after [] (reading_from flow 1 bytes clean)
unfolding opl_reading
opl_reading-from flow bytes clean = refl

-- a piece before others is a line
lines_of-cons : (clean : Bool) (line : List ℕ) (parts : List (List ℕ)) → 0 < length parts →
    lines_of clean (line ∷ parts) ≡ line ∷ lines_of clean parts
lines_of-cons clean line [] some = absurd (omega arith)
lines_of-cons clean line (part ∷ parts) some = refl

-- a line and its newline are read before the bytes behind them
pub reading_from-line : (flow : Flow) (number : ℕ) (line more : List ℕ) (clean : Bool) → HasNoNewline line →
    reading_from flow number (line ++ 10 ∷ more) clean
    ≡ before number (opl_line flow line) (reading_from flow (number + 1) more clean)
reading_from-line flow number line more clean free =
    ap (λ parts. read_lines flow clean number (lines_of clean parts))
    (slice_split_at (λ b. b == 10) line 10 more free refl)
    ∙ ap (read_lines flow clean number)
    (lines_of-cons clean line (slice_split (λ b. b == 10) more)
    (omega (arith, length-slice_split (λ b. b == 10) more)))

-- bytes that end no line, and are one
pub reading_from-last : (flow : Flow) (number : ℕ) (rest : List ℕ) (clean : Bool) → HasNoNewline rest →
    is_line clean rest ≡ true →
    reading_from flow number rest clean ≡ before number (opl_line flow rest) (only (ending_of clean))
reading_from-last flow number rest clean free one =
    ap (λ parts. read_lines flow clean number (lines_of clean parts)) (slice_split_none (λ b. b == 10) rest free)
    ∙ rw one refl

-- bytes that end no line, and are none
pub reading_from-none : (flow : Flow) (number : ℕ) (rest : List ℕ) (clean : Bool) → HasNoNewline rest →
    is_line clean rest ≡ false → reading_from flow number rest clean ≡ only (ending_of clean)
reading_from-none flow number rest clean free none =
    ap (λ parts. read_lines flow clean number (lines_of clean parts)) (slice_split_none (λ b. b == 10) rest free)
    ∙ rw none refl

-- a test or one that holds
or-true : (b : Bool) → (b || true) ≡ true
or-true true = refl
or-true false = refl

-- too many bytes are a line
pub is_line-long : (clean : Bool) (rest : List ℕ) → longest_line < length rest → is_line clean rest ≡ true
is_line-long clean rest long =
    rw (lt-ltb longest_line (length rest) long) (or-true (clean && nat_lt 0 (length rest)))

-- some bytes are a line at the end of a file
pub is_line-end : (rest : List ℕ) → 0 < length rest → is_line true rest ≡ true
is_line-end rest some = rw (lt-ltb 0 (length rest) some) refl

-- before the end of a file the beginning of a line is none
pub is_line-open : (rest : List ℕ) → length rest ≤ longest_line → is_line false rest ≡ false
is_line-open rest short = le-ltb longest_line (length rest) short

-- a line that came off is read before the rest
takes_line : (old new : ReaderValue) (line : List ℕ) (value : LineValue) → new ≡ record old { unread = new.unread } →
    unread_bytes old.unread ≡ line ++ 10 ∷ unread_bytes new.unread → HasNoNewline line →
    value ≡ opl_line old.flow line → TakesLine old new value
takes_line old new line value same cut free says = record {
  same = same;
  shorter = omega (arith, ap length cut, length-append line (10 ∷ unread_bytes new.unread));
  reads = λ number more clean may bad.
      ap (λ bytes. reading_from old.flow number bytes clean)
      (ap (λ bytes. bytes ++ more) cut ∙ append_assoc line (10 ∷ unread_bytes new.unread) more)
      ∙ reading_from-line old.flow number line (unread_bytes new.unread ++ more) clean free
      ∙ ap (λ value. before number value (reading_from old.flow (number + 1) (unread_bytes new.unread ++ more) clean))
      (sym says);
}

-- a line that was found
pub finds_line : (old new : ReaderValue) (count past : ℕ) → new ≡ record old { unread = new.unread } →
    HasLine old.unread new.unread count past → FindsLine old new count past
finds_line old new count past same has =
    let cut : unread_bytes old.unread ≡ first_line new.unread count ++ 10 ∷ unread_bytes (left_past new.unread past) =
    sym has.kept ∙ has.cut in
    record {
      same = record { same = same; rest = has.kept };
      apart = has.apart;
      within = has.within;
      fits = has.fits;
      shorter = omega (
        arith,
        ap length cut,
        length-append (first_line new.unread count) (10 ∷ unread_bytes (left_past new.unread past)),
      );
      takes = λ value says.
          takes_line old (unread_past new past) (first_line new.unread count) value (ap (λ r. unread_past r past) same)
          cut has.unended (says ∙ ap (λ r. opl_line r.flow (first_line new.unread count)) same);
    }

-- too many bytes are read as a bad line
takes_long : (old new : ReaderValue) (line : List ℕ) → new ≡ record old { unread = new.unread } → HasNoNewline line →
    longest_line < length line → (unread_bytes old.unread ≡ line ++ 10 ∷ unread_bytes new.unread)
    ⊎ ((unread_bytes old.unread ≡ line) × (unread_bytes new.unread ≡ [])) → TakesLine old new (Bad LineTooLong)
takes_long old new line same free long (inl cut) =
    takes_line old new line (Bad LineTooLong) same cut free (sym (opl_line-long old.flow line long))
takes_long old new line same free long (inr whole) = record {
  same = same;
  shorter = omega (arith, ap length whole.0, ap length whole.1, long);
  reads = λ number more clean may bad.
      ap (λ bytes. reading_from old.flow number bytes clean)
      (ap (λ bytes. unread_bytes old.unread ++ bytes) (bad refl) ∙ append-nil (unread_bytes old.unread) ∙ whole.0)
      ∙ reading_from-last old.flow number line clean free (is_line-long clean line long)
      ∙ ap (λ value. before number value (only (ending_of clean))) (opl_line-long old.flow line long)
      ∙ ap (λ bytes. before number (Bad LineTooLong) (reading_from old.flow (number + 1) bytes clean))
      (sym (ap (λ bytes. bytes ++ more) whole.1 ∙ bad refl));
}

-- too many bytes that were found
pub finds_long : (old new : ReaderValue) (past : ℕ) → new ≡ record old { unread = new.unread } →
    new.unread ≡ old.unread → LongLine new.unread past → FindsLong old new past
finds_long old new past same was long =
    let left = unread_bytes (left_past new.unread past) in
    let takes : TakesLine old (unread_past new past) (Bad LineTooLong) =
    takes_long old (unread_past new past) long.line (ap (λ r. unread_past r past) same) long.unended long.long
    (subst
    (λ u. (unread_bytes u ≡ long.line ++ 10 ∷ left) ⊎ ((unread_bytes u ≡ long.line) × (left ≡ []))) was long.cut) in
    record {
      same = same;
      fits = long.fits;
      shorter = takes.shorter;
      takes = takes;
    }

-- the last line of a file is read before nothing
reading_from-end : (flow : Flow) (number : ℕ) (held : List ℕ) → HasNoNewline held → 0 < length held →
    reading_from flow number held true ≡ before number (opl_line flow held) (reading_from flow (number + 1) [] true)
reading_from-end flow number held free some = reading_from-last flow number held true free (is_line-end held some)

-- what is left at the end of a source is read as its last line
takes_last : (old new : ReaderValue) (value : LineValue) → new ≡ record old { unread = new.unread } →
    old.feed ≡ Ended → HasNoNewline (unread_bytes old.unread) → 0 < length (unread_bytes old.unread) →
    value ≡ opl_line old.flow (unread_bytes old.unread) → unread_bytes new.unread ≡ [] → TakesLine old new value
takes_last old new value same over free some says left = record {
  same = same;
  shorter = omega (arith, ap length left, some);
  reads = λ number more clean may bad.
      let ends : (more ≡ []) × (clean ≡ true) = subst (λ feed. MayCome feed more clean) over may in
      rw (ends.0, ends.1, left, append-nil (unread_bytes old.unread), says)
      (reading_from-end old.flow number (unread_bytes old.unread) free some);
}

-- a list that isn't empty has elements
not_empty : (xs : List ℕ) → (xs ≡ [] → ⊥) → 0 < length xs
not_empty [] some = absurd (some refl)
not_empty (x ∷ xs) some = omega arith

-- what is held at the end of a source was found as its last line
pub finds_last : (old new : ReaderValue) → new ≡ record old { unread = new.unread } → reached_end new.feed ≡ true →
    IsHeld old.unread new.unread → unread_bytes new.unread ≢ [] → FindsLine old new 0 0
finds_last old new same over held some =
    let all : unread_bytes new.unread ≡ new.unread.held =
    ap (λ piece. new.unread.held ++ piece) held.piece ∙ append-nil new.unread.held in
    let free : HasNoNewline (unread_bytes old.unread) = subst HasNoNewline held.held held.kept.unended in
    let more : 0 < length (unread_bytes old.unread) =
    not_empty (unread_bytes old.unread) (λ none. some (all ∙ held.held ∙ none)) in
    record {
      same = record { same = same; rest = all ∙ held.held };
      apart = λ _. refl;
      within = omega arith;
      fits = omega arith;
      shorter = omega (arith, ap length held.piece, more);
      takes = λ value says.
          takes_last old (unread_past new 0) value (ap (λ r. unread_past r 0) same)
          (ap (λ r. r.feed) (sym same) ∙ reached_end-true new.feed over) free more
          (says ∙ ap (λ r. opl_line r.flow (first_line new.unread 0)) same
          ∙ ap (opl_line old.flow) (append-nil new.unread.held ∙ held.held)) held.piece;
    }
