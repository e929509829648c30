-- Lemmas on unread bytes: parts of a buffer, and the line with which a piece begins.
use Rattle.std.proofs.Common.{◌≡◌, ℕ, ◌+◌, ◌-◌, ◌<◌, ◌≤◌, List, [], ◌∷◌, ◌++◌, length, take, drop, Bool, false, refl, sym, ap, ◌∙◌, subst, arith, append_assoc, append-nil, inl, inr}
use Rattle.std.specs.Prelude.{◌==◌, All, Option, min}
use Rattle.std.specs.List.{slice_split, onto_first, join_with_byte}
use Rattle.std.proofs.lemmas.Bool.{cond_both}
use Rattle.std.proofs.lemmas.List.{length-append, length-take, length-take-le, take-take, take_at, take_min, drop_all, drop_at, drop-drop, drop-take}
use Rattle.std.proofs.lemmas.List.Elements.{All-nil, All-cons, All-append}
use Rattle.std.proofs.lemmas.List.Splits.{length-slice_split, join_with_byte-slice_split}
use Rattle.std.proofs.lemmas.Bool.{lt-ltb}
use Rattle.std.proofs.Math.Seq.{take-add}
use Rattle.std.specs.Io.KnownBytes.{prepend_known}
use Rattle.osm_entity.specs.declared.kind.Flow.{Flow}
use Rattle.osm_entity.specs.declared.verdict.Cause.TheVariants.{LineTooLong}
use Rattle.osm_opl_line.specs.Line.{Bad, longest_line, opl_line}
use Rattle.osm_opl.specs.Found.{Filled, HasLine, LongLine}
use Rattle.osm_opl.specs.Unread.{UnreadValue, HasNoNewline, IsUnread, EndsAt, first_line, unread_bytes}

-- unread bytes are their two lists
pub same_unread : (a b : UnreadValue) → a.held ≡ b.held → a.piece ≡ b.piece → a ≡ b
same_unread a b held piece =
    ap (λ x. let u : UnreadValue = record { held = x; piece = a.piece } in u) held
    ∙ ap (λ x. let u : UnreadValue = record { held = b.held; piece = x } in u) piece

-- a part of a buffer without its first bytes is a part that begins later
pub part-passed : {X : Type 0} (xs : List X) (start stop count : ℕ) → count ≤ stop - start →
    take (stop - (start + count)) (drop (start + count) xs) ≡ drop count (take (stop - start) (drop start xs))
part-passed xs start stop count fits =
    let size : stop - start ≡ count + (stop - (start + count)) = omega arith in
    sym
    (ap (λ n. drop count (take n (drop start xs))) size
    ∙ drop-take count (stop - (start + count)) (drop start xs)
    ∙ ap (take (stop - (start + count))) (drop-drop count start xs))

-- the first bytes of a part of a buffer
pub part-taken : {X : Type 0} (xs : List X) (start stop count : ℕ) → count ≤ stop - start →
    take (start + count - start) (drop start xs) ≡ take count (take (stop - start) (drop start xs))
part-taken xs start stop count fits =
    let size : start + count - start ≡ count = omega arith in
    ap (λ n. take n (drop start xs)) size ∙ sym (take-take count (stop - start) (drop start xs) fits)

-- the first of some parts
abbrev first_of : List (List ℕ) → List ℕ
first_of [] = []
first_of (part ∷ parts) = part

-- an element that doesn't pass, before a part of which none passes
onto_first-unended : (p : ℕ → Bool) (x : ℕ) (parts : List (List ℕ)) → p x ≡ false →
    All (λ y. p y ≡ false) (first_of parts) → All (λ y. p y ≡ false) (first_of (onto_first x parts))
onto_first-unended p x [] none rest = All-cons (λ y. p y ≡ false) x [] none rest
onto_first-unended p x (part ∷ parts) none rest = All-cons (λ y. p y ≡ false) x part none rest

-- no element of the first part passes
first_of-unended : (p : ℕ → Bool) (xs : List ℕ) → All (λ y. p y ≡ false) (first_of (slice_split p xs))
first_of-unended p [] = All-nil (λ y. p y ≡ false)
first_of-unended p (x ∷ xs) =
    cond_both (p x) ([] ∷ slice_split p xs) (onto_first x (slice_split p xs))
    (λ parts. All (λ y. p y ≡ false) (first_of parts)) (λ _. All-nil (λ y. p y ≡ false))
    (λ none. onto_first-unended p x (slice_split p xs) none (first_of-unended p xs))

-- a first part has no newline
pub unended : (bytes line : List ℕ) (parts : List (List ℕ)) → slice_split (λ b. b == 10) bytes ≡ line ∷ parts →
    HasNoNewline line
unended bytes line parts cut =
    subst (λ q. HasNoNewline (first_of q)) cut (first_of-unended (λ b. b == 10) bytes)

-- a piece, and others behind its byte
join-cons : (byte : ℕ) (line : List ℕ) (parts : List (List ℕ)) → 0 < length parts →
    join_with_byte byte (line ∷ parts) ≡ line ++ byte ∷ join_with_byte byte parts
join-cons byte line [] some = absurd (omega arith)
join-cons byte line (part ∷ parts) some = refl

-- bytes whose first part is a line are that line, a newline and the rest
pub cut_back : (bytes line more : List ℕ) →
    slice_split (λ b. b == 10) bytes ≡ line ∷ slice_split (λ b. b == 10) more → bytes ≡ line ++ 10 ∷ more
cut_back bytes line more cut =
    sym (join_with_byte-slice_split 10 bytes)
    ∙ ap (join_with_byte 10) cut
    ∙ join-cons 10 line (slice_split (λ b. b == 10) more) (omega (arith, length-slice_split (λ b. b == 10) more))
    ∙ ap (λ rest. line ++ 10 ∷ rest) (join_with_byte-slice_split 10 more)

-- a line and a newline before some bytes end where the line does
pub ends_at : (bytes line more : List ℕ) → HasNoNewline line → bytes ≡ line ++ 10 ∷ more → EndsAt bytes (length line)
ends_at bytes line more free is =
    let first : take (length line) bytes ≡ line =
    ap (take (length line)) is ∙ take_at line (10 ∷ more) (length line) refl in
    let whole : bytes ≡ (line ++ 10 ∷ []) ++ more = is ∙ sym (append_assoc line (10 ∷ []) more) in
    let back : drop (length line + 1) bytes ≡ more =
    ap (drop (length line + 1)) whole
    ∙ drop_at (line ++ 10 ∷ []) more (length line + 1) (length-append line (10 ∷ [])) in
    record {
      within = omega (arith, ap length is, length-append line (10 ∷ more));
      unended = subst HasNoNewline (sym first) free;
      cut = rw (first, back) is;
    }

-- what is held and a line of the piece are a line of both
pub cut_joined : (u : UnreadValue) (count : ℕ) → EndsAt u.piece count →
    unread_bytes u ≡ (u.held ++ take count u.piece) ++ 10 ∷ drop (count + 1) u.piece
cut_joined u count ends =
    ap (λ piece. u.held ++ piece) ends.cut
    ∙ sym (append_assoc u.held (take count u.piece) (10 ∷ drop (count + 1) u.piece))

-- the first bytes of a piece, held
pub held_more : (u : UnreadValue) (count : ℕ) → IsUnread u → HasNoNewline (take count u.piece) →
    length u.held + count ≤ longest_line →
    IsUnread (record { held = u.held ++ take count u.piece; piece = drop count u.piece })
held_more u count kept free fits = record {
  unended = All-append (λ b. (b == 10) ≡ false) u.held (take count u.piece) kept.unended free;
  short = omega (arith, fits, length-append u.held (take count u.piece), length-take count u.piece);
}

-- a line of too many bytes is bad for that
pub opl_line-long : (flow : Flow) (line : List ℕ) → longest_line < length line → opl_line flow line ≡ Bad LineTooLong
unfolding opl_line
opl_line-long flow line long = rw (lt-ltb longest_line (length line) long) refl

-- a line of too many bytes, part of which is held, stands first
pub long_line : (u : UnreadValue) (count : ℕ) → IsUnread u → EndsAt u.piece count →
    longest_line < length u.held + count → LongLine u (count + 1)
long_line u count kept ends long = record {
  line = first_line u count;
  unended = All-append (λ b. (b == 10) ≡ false) u.held (take count u.piece) kept.unended ends.unended;
  long = omega (
    arith,
    long,
    length-append u.held (take count u.piece),
    length-take-le count u.piece (omega (arith, ends.within)),
  );
  fits = omega (arith, ends.within);
  cut = inl (cut_joined u count ends);
}

-- bytes that end no line and are too many for one
pub long_rest : (u : UnreadValue) (count : ℕ) → IsUnread u → HasNoNewline u.piece → count ≡ length u.piece →
    longest_line < length u.held + count → LongLine u count
long_rest u count kept free all long = record {
  line = unread_bytes u;
  unended = All-append (λ b. (b == 10) ≡ false) u.held u.piece kept.unended free;
  long = omega (arith, long, all, length-append u.held u.piece);
  fits = omega (arith, all);
  cut = inr (refl, drop_all count u.piece (omega (arith, all)));
}

-- a line that is held as a whole stands first
pub has_joined : (u new : UnreadValue) (count : ℕ) → IsUnread u → EndsAt u.piece count →
    new ≡ record { held = u.held ++ take count u.piece; piece = drop count u.piece } → HasLine u new 0 1
has_joined u new count kept ends is =
    let behind : drop count u.piece ≡ 10 ∷ drop (count + 1) u.piece =
    ap (drop count) ends.cut
    ∙ drop_at (take count u.piece) (10 ∷ drop (count + 1) u.piece) count
    (length-take-le count u.piece (omega (arith, ends.within))) in
    let line : new.held ≡ first_line u count = ap (λ v. v.held) is in
    let piece : new.piece ≡ 10 ∷ drop (count + 1) u.piece = ap (λ v. v.piece) is ∙ behind in
    record {
      kept = rw (line, piece) (sym (cut_joined u count ends));
      apart = λ _. refl;
      within = omega arith;
      fits = omega (arith, ap length piece);
      unended = subst HasNoNewline (sym (append-nil new.held ∙ line))
          (All-append (λ b. (b == 10) ≡ false) u.held (take count u.piece) kept.unended ends.unended);
      cut = rw (piece, append-nil new.held) refl;
    }

-- the first of some bytes, up to a count and a room for them
take-room : (bytes : List ℕ) (room count : ℕ) → count ≤ length bytes →
    take (min room count) bytes ≡ take room (take count bytes)
take-room bytes room count fits =
    sym (take-take (min room count) count bytes (omega arith))
    ∙ ap (λ n. take (min room n) (take count bytes)) (sym (length-take-le count bytes fits))
    ∙ take_min room (take count bytes)

-- a pull that came behind the bytes of a piece
pub filled_behind : {S : Type 0} (rest : S → Option (List ℕ)) (before now : S) (room more count : ℕ) (buffer : List ℕ)
    (old new : UnreadValue) → rest before ≡ prepend_known (take more (drop count buffer)) (rest now) →
    more ≤ length (drop count buffer) → new.held ≡ old.held → old.piece ≡ take count buffer →
    new.piece ≡ take (count + min room more) buffer → Filled rest before now room more old new
filled_behind rest before now room more count buffer old new told fits held was is = record {
  bytes = take more (drop count buffer);
  told = told;
  size = sym (length-take-le more (drop count buffer) fits);
  piece = is ∙ take-add count (min room more) buffer
      ∙ ap (λ first. first ++ take (min room more) (drop count buffer)) (sym was)
      ∙ ap (λ last. old.piece ++ last) (take-room (drop count buffer) room more fits);
  held = held;
}
