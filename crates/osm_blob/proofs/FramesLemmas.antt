-- How the frames of bytes go on when more bytes come.
use Rattle.std.proofs.Common.{◌≡◌, ℕ, zero, suc, ◌≤◌, List, [], ◌∷◌, ◌++◌, length, drop, refl, sym, ap, ◌∙◌, arith, append_assoc, append-nil}
use Rattle.std.specs.Prelude.{◌≢◌, Option}
use Rattle.std.specs.List.{flat_map}
use Rattle.std.proofs.lemmas.List.{length-drop, drop-append-le}
use Rattle.osm_entity.specs.declared.verdict.Cause.{Cause}
use Rattle.osm_blob.specs.declared.reading.Frame.{Frame}
use Rattle.osm_blob.specs.declared.messages.What.{What}
use Rattle.osm_blob.specs.Leading.{LeadingFrame, Short, Whole, Faulty, leading_frame, leading_frame_size}
use Rattle.osm_blob.specs.Frames.{FrameStart, Frames, FramesStop, More, Bad, first_start, frame_at, frames_after_stop, frames_before, frames_from, frames_of, frames_with_more, frames_with_pieces, frames_within, leading_frame_before, next_start, no_frames}
use Rattle.osm_blob.proofs.LeadingLemmas.{leading_frame-nil, leading_frame-size, leading_frame-stays}

-- frames behind a leading frame are the same where they matter, which is behind a whole frame
leading_frame_before-same : (start : FrameStart) (bytes : List ℕ) (leading : LeadingFrame) (a b : Frames) →
    ((what : What) (raw : List ℕ) (size : ℕ) → leading ≡ Whole what raw size → a ≡ b) →
    leading_frame_before start bytes leading a ≡ leading_frame_before start bytes leading b
leading_frame_before-same start bytes Short a b same = refl
leading_frame_before-same start bytes (Whole what raw size) a b same =
    ap (frames_before (frame_at start what raw ∷ [])) (same what raw size refl)
leading_frame_before-same start bytes (Faulty cause blamed) a b same = refl

-- as many frames as there are bytes are enough
enough : (n m : ℕ) (start : FrameStart) (bytes : List ℕ) → length bytes ≤ n → length bytes ≤ m →
    frames_within n start bytes ≡ frames_within m start bytes
enough zero zero start bytes one two = refl
enough zero (suc m) start [] one two = rw leading_frame-nil refl
enough zero (suc m) start (byte ∷ bytes) one two = absurd (omega arith)
enough (suc n) zero start [] one two = rw leading_frame-nil refl
enough (suc n) zero start (byte ∷ bytes) one two = absurd (omega arith)
enough (suc n) (suc m) start bytes one two =
    let size = leading_frame_size (leading_frame bytes) in
    leading_frame_before-same start bytes (leading_frame bytes)
    (frames_within n (next_start start size) (drop size bytes))
    (frames_within m (next_start start size) (drop size bytes))
    (λ what raw whole is.
    let fits = leading_frame-size bytes what raw whole is in
    let same : leading_frame_size (leading_frame bytes) ≡ whole = ap leading_frame_size is in
    enough n m (next_start start size) (drop size bytes)
    (omega (arith, length-drop size bytes, fits.0, fits.1, same, one))
    (omega (arith, length-drop size bytes, fits.0, fits.1, same, two)))

-- the frames of bytes are the frame at the beginning and those behind it
pub frames_from-step : (start : FrameStart) (bytes : List ℕ) →
    frames_from start bytes
    ≡ (let size = leading_frame_size (leading_frame bytes) in
    leading_frame_before start bytes (leading_frame bytes) (frames_from (next_start start size) (drop size bytes)))
unfolding frames_from
frames_from-step start [] = rw leading_frame-nil refl
frames_from-step start (byte ∷ bytes) =
    let size = leading_frame_size (leading_frame (byte ∷ bytes)) in
    let rest = drop size (byte ∷ bytes) in
    leading_frame_before-same start (byte ∷ bytes) (leading_frame (byte ∷ bytes))
    (frames_within (length bytes) (next_start start size) rest)
    (frames_within (length rest) (next_start start size) rest)
    (λ what raw whole is.
    let fits = leading_frame-size (byte ∷ bytes) what raw whole is in
    let same : leading_frame_size (leading_frame (byte ∷ bytes)) ≡ whole = ap leading_frame_size is in
    enough (length bytes) (length rest) (next_start start size) rest
    (omega (arith, length-drop size (byte ∷ bytes), fits.0, fits.1, same)) (omega arith))

-- the frames of bytes, by what they begin with
frames_from-leading : (start : FrameStart) (bytes : List ℕ) (leading : LeadingFrame) → leading_frame bytes ≡ leading →
    frames_from start bytes
    ≡ leading_frame_before start bytes leading
    (frames_from (next_start start (leading_frame_size leading)) (drop (leading_frame_size leading) bytes))
frames_from-leading start bytes leading is =
    frames_from-step start bytes
    ∙ ap (λ f. let size = leading_frame_size f in
    leading_frame_before start bytes f (frames_from (next_start start size) (drop size bytes))) is

-- bytes that are too few to tell have no frame
pub frames_from-short : (start : FrameStart) (bytes : List ℕ) → leading_frame bytes ≡ Short →
    frames_from start bytes ≡ no_frames start (More bytes)
frames_from-short start bytes is = frames_from-leading start bytes Short is

-- the frames of bytes that begin with a whole frame
pub frames_from-whole : (start : FrameStart) (bytes : List ℕ) (what : What) (raw : List ℕ) (size : ℕ) →
    leading_frame bytes ≡ Whole what raw size →
    frames_from start bytes
    ≡ frames_before (frame_at start what raw ∷ []) (frames_from (next_start start size) (drop size bytes))
frames_from-whole start bytes what raw size is = frames_from-leading start bytes (Whole what raw size) is

-- bytes that begin with a bad frame have no frame
pub frames_from-bad : (start : FrameStart) (bytes : List ℕ) (cause : Cause) (blamed : Option What) →
    leading_frame bytes ≡ Faulty cause blamed → frames_from start bytes ≡ no_frames start (Bad cause blamed)
frames_from-bad start bytes cause blamed is = frames_from-leading start bytes (Faulty cause blamed) is

-- frames before frames before others
pub frames_before-frames_before : (first second : List Frame) (later : Frames) →
    frames_before first (frames_before second later) ≡ frames_before (first ++ second) later
frames_before-frames_before first second later =
    ap (λ all. let f : Frames = record { frames = all; next = later.next; stop = later.stop } in f)
    (sym (append_assoc first second later.frames))

-- frames before others, when more bytes come
frames_before-more : (first : List Frame) (later : Frames) (more : List ℕ) (stop : FramesStop) → later.stop ≡ stop →
    frames_with_more (frames_before first later) more ≡ frames_before first (frames_with_more later more)
frames_before-more first later more (More left) is =
    ap (frames_after_stop (frames_before first later) more) is
    ∙ sym (frames_before-frames_before first later.frames (frames_from later.next (left ++ more)))
    ∙ ap (λ s. frames_before first (frames_after_stop later more s)) (sym is)
frames_before-more first later more (Bad cause blamed) is =
    ap (frames_after_stop (frames_before first later) more) is
    ∙ ap (λ s. frames_before first (frames_after_stop later more s)) (sym is)

-- bytes that begin with a whole frame, when more come
whole-more : (start : FrameStart) (bytes more : List ℕ) (what : What) (raw : List ℕ) (size : ℕ) →
    leading_frame bytes ≡ Whole what raw size →
    frames_from (next_start start size) (drop size bytes ++ more)
    ≡ frames_with_more (frames_from (next_start start size) (drop size bytes)) more →
    frames_from start (bytes ++ more) ≡ frames_with_more (frames_from start bytes) more
whole-more start bytes more what raw size is later =
    let fits = leading_frame-size bytes what raw size is in
    let told : leading_frame bytes ≢ Short = λ short. let same : Whole what raw size ≡ Short = sym is ∙ short in cc in
    let rest = frames_from (next_start start size) (drop size bytes) in
    frames_from-whole start (bytes ++ more) what raw size (leading_frame-stays bytes more told ∙ is)
    ∙ ap (λ all. frames_before (frame_at start what raw ∷ []) (frames_from (next_start start size) all))
    (drop-append-le size bytes more fits.1)
    ∙ ap (frames_before (frame_at start what raw ∷ [])) later
    ∙ sym (frames_before-more (frame_at start what raw ∷ []) rest more rest.stop refl)
    ∙ ap (λ f. frames_with_more f more) (sym (frames_from-whole start bytes what raw size is))

-- bytes that are too few to tell, when more come
short-more : (start : FrameStart) (bytes more : List ℕ) → leading_frame bytes ≡ Short →
    frames_from start (bytes ++ more) ≡ frames_with_more (frames_from start bytes) more
short-more start bytes more is = ap (λ f. frames_with_more f more) (sym (frames_from-short start bytes is))

-- bytes that begin with a bad frame, when more come
bad-more : (start : FrameStart) (bytes more : List ℕ) (cause : Cause) (blamed : Option What) →
    leading_frame bytes ≡ Faulty cause blamed →
    frames_from start (bytes ++ more) ≡ frames_with_more (frames_from start bytes) more
bad-more start bytes more cause blamed is =
    let told : leading_frame bytes ≢ Short = λ short. let same : Faulty cause blamed ≡ Short = sym is ∙ short in cc in
    frames_from-bad start (bytes ++ more) cause blamed (leading_frame-stays bytes more told ∙ is)
    ∙ ap (λ f. frames_with_more f more) (sym (frames_from-bad start bytes cause blamed is))

-- bytes by what they begin with, when more come
by_leading_frame : (n : ℕ) (start : FrameStart) (bytes more : List ℕ) (leading : LeadingFrame) →
    leading_frame bytes ≡ leading →
    length bytes ≤ suc n →
    ((here : FrameStart) (some : List ℕ) → length some ≤ n →
    frames_from here (some ++ more) ≡ frames_with_more (frames_from here some) more) →
    frames_from start (bytes ++ more) ≡ frames_with_more (frames_from start bytes) more
by_leading_frame n start bytes more Short is few later = short-more start bytes more is
by_leading_frame n start bytes more (Whole what raw size) is few later =
    let fits = leading_frame-size bytes what raw size is in
    whole-more start bytes more what raw size is
    (later (next_start start size) (drop size bytes) (omega (arith, length-drop size bytes, fits.0, fits.1, few)))
by_leading_frame n start bytes more (Faulty cause blamed) is few later = bad-more start bytes more cause blamed is

-- up to a number of bytes, when more come
frames_up_to : (n : ℕ) (start : FrameStart) (bytes more : List ℕ) → length bytes ≤ n →
    frames_from start (bytes ++ more) ≡ frames_with_more (frames_from start bytes) more
frames_up_to zero start [] more few = short-more start [] more leading_frame-nil
frames_up_to zero start (byte ∷ bytes) more few = absurd (omega arith)
frames_up_to (suc n) start bytes more few =
    by_leading_frame n start bytes more (leading_frame bytes) refl few
    (λ here some fits. frames_up_to n here some more fits)

-- the frames of bytes, when more come
pub frames_from-more : (start : FrameStart) (bytes more : List ℕ) →
    frames_from start (bytes ++ more) ≡ frames_with_more (frames_from start bytes) more
frames_from-more start bytes more = frames_up_to (length bytes) start bytes more (omega arith)

-- pieces that come one after the other give the frames of all of them
pub frames_of-pieces : (bytes : List ℕ) (pieces : List (List ℕ)) →
    frames_with_pieces (frames_of bytes) pieces ≡ frames_of (bytes ++ flat_map (λ p. p) pieces)
frames_of-pieces bytes [] = ap frames_of (sym (append-nil bytes))
frames_of-pieces bytes (piece ∷ pieces) =
    ap (λ frames. frames_with_pieces frames pieces) (sym (frames_from-more first_start bytes piece))
    ∙ frames_of-pieces (bytes ++ piece) pieces
    ∙ ap frames_of (append_assoc bytes piece (flat_map (λ p. p) pieces))

-- behind a bad frame more bytes change nothing
pub frames_of-bad : (bytes more : List ℕ) (cause : Cause) (blamed : Option What) →
    (frames_of bytes).stop ≡ Bad cause blamed → frames_of (bytes ++ more) ≡ frames_of bytes
frames_of-bad bytes more cause blamed is =
    frames_from-more first_start bytes more ∙ ap (frames_after_stop (frames_of bytes) more) is
