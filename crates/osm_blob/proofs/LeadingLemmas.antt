-- Lemmas on the frame at the beginning of bytes.
use Rattle.std.proofs.Common.{◌≡◌, ℕ, ◌+◌, ◌-◌, ◌<◌, ◌≤◌, List, [], ◌∷◌, ◌++◌, length, take, drop, refl, sym, ap, ◌∙◌, subst, arith, inl, inr}
use Rattle.std.specs.Prelude.{slice_index, ◌≢◌, Option, Some, None, Ok, Err, IfSome, nat_le, nat_lt, ℤ, pos, negsuc}
use Rattle.std.specs.Int.{w32, from_be_bytes}
use Rattle.std.specs.declared.result.Result.{Result}
use Rattle.std.proofs.lemmas.Bool.{cases_lt, cond_both, lt-ltb, le-ltb, leb-true, ltb-true, ltb-false}
use Rattle.std.proofs.lemmas.List.{length-append, take-append-le, drop-append-le, length-drop, length-take}
use Rattle.osm_entity.specs.declared.verdict.Cause.{Cause}
use Rattle.osm_entity.specs.declared.verdict.Cause.TheVariants.{HeaderTooLong}
use Rattle.osm_blob.specs.declared.messages.BlobHeader.{BlobHeader}
use Rattle.osm_blob.specs.declared.messages.What.{What}
use Rattle.osm_blob.specs.declared.messages.What.TheVariants.{Header, Block, Other}
use Rattle.osm_blob.proofs.ContentLemmas.{blob_said-short}
use Rattle.osm_blob.specs.Leading.{header_limit, LeadingFrame, Short, Whole, Faulty, needing, frame_by_blob, frame_by_what, frame_by_size, frame_by_header, frame_by_length, leading_frame}
use Rattle.osm_blob.specs.Messages.{header_said, blob_said, blob_size, largest_blob}

-- the first four bytes
pub four : (bytes : List ℕ) → 4 ≤ length bytes →
    slice_index bytes 0 ∷ slice_index bytes 1 ∷ slice_index bytes 2 ∷ slice_index bytes 3 ∷ [] ≡ take 4 bytes
four [] some = absurd (omega arith)
four (a ∷ []) some = absurd (omega arith)
four (a ∷ b ∷ []) some = absurd (omega arith)
four (a ∷ b ∷ c ∷ []) some = absurd (omega arith)
four (a ∷ b ∷ c ∷ d ∷ more) some = refl

-- what is told by a number of bytes that are there
pub needing-there : (count : ℕ) (bytes : List ℕ) (leading : LeadingFrame) → count ≤ length bytes →
    needing count bytes leading ≡ leading
needing-there count bytes leading there = rw (le-ltb (length bytes) count there) refl

-- what is told by a number of bytes that aren't
pub needing-short : (count : ℕ) (bytes : List ℕ) (leading : LeadingFrame) → length bytes < count →
    needing count bytes leading ≡ Short
needing-short count bytes leading short = rw (lt-ltb (length bytes) count short) refl

-- a length that is told, and what it tells
pub leading_frame-length : (bytes : List ℕ) (count : ℕ) → 4 ≤ length bytes →
    count ≡ from_be_bytes w32
    (slice_index bytes 0 ∷ slice_index bytes 1 ∷ slice_index bytes 2 ∷ slice_index bytes 3 ∷ []) →
    leading_frame bytes ≡ frame_by_length bytes count
unfolding leading_frame
leading_frame-length bytes count there is =
    needing-there 4 bytes (frame_by_length bytes (from_be_bytes w32 (take 4 bytes))) there
    ∙ ap (frame_by_length bytes) (ap (from_be_bytes w32) (sym (four bytes there)) ∙ sym is)

-- a length past its limit
pub frame_by_length-long : (bytes : List ℕ) (count : ℕ) → header_limit ≤ count →
    frame_by_length bytes count ≡ Faulty HeaderTooLong None
frame_by_length-long bytes count long = rw (le-ltb count header_limit long) refl

-- a length within its limit
pub frame_by_length-within : (bytes : List ℕ) (count : ℕ) → count < header_limit →
    frame_by_length bytes count
    ≡ needing (4 + count) bytes (frame_by_header bytes (4 + count) (header_said (take count (drop 4 bytes))))
frame_by_length-within bytes count within = rw (lt-ltb count header_limit within) refl

-- a length whose blob header isn't all there
pub frame_by_length-short : (bytes : List ℕ) (count : ℕ) → count < header_limit → length bytes < 4 + count →
    frame_by_length bytes count ≡ Short
frame_by_length-short bytes count within short =
    frame_by_length-within bytes count within
    ∙ needing-short (4 + count) bytes
    (frame_by_header bytes (4 + count) (header_said (take count (drop 4 bytes)))) short

-- a blob header that is there, by what it says
pub frame_by_length-there : (bytes : List ℕ) (count : ℕ) (said : Option BlobHeader) → count < header_limit →
    4 + count ≤ length bytes → said ≡ header_said (take (4 + count - 4) (drop 4 bytes)) →
    frame_by_length bytes count ≡ frame_by_header bytes (4 + count) said
frame_by_length-there bytes count said within there is =
    let size : 4 + count - 4 ≡ count = omega arith in
    frame_by_length-within bytes count within
    ∙ needing-there (4 + count) bytes
    (frame_by_header bytes (4 + count) (header_said (take count (drop 4 bytes)))) there
    ∙ ap (frame_by_header bytes (4 + count)) (ap (λ n. header_said (take n (drop 4 bytes))) (sym size) ∙ sym is)

-- a leading frame that is told stays what it is
abbrev Stays : LeadingFrame → LeadingFrame → Type 0
Stays first later = first ≢ Short → later ≡ first

-- what is told by a number of bytes stays when more come
needing-stays : (count : ℕ) (bytes more : List ℕ) (first later : LeadingFrame) →
    (count ≤ length bytes → Stays first later) →
    Stays (needing count bytes first) (needing count (bytes ++ more) later)
needing-stays count bytes more first later stays =
    cond_both (nat_lt (length bytes) count) Short first (λ f. Stays f (needing count (bytes ++ more) later))
    (λ _ told. absurd (told refl))
    (λ none told.
    let there : count ≤ length bytes = ltb-false (length bytes) count none in
    needing-there count (bytes ++ more) later (omega (arith, length-append bytes more)) ∙ stays there told)

-- a part of bytes is the same part when more come
part-more : (start size : ℕ) (bytes more : List ℕ) → start + size ≤ length bytes →
    take size (drop start (bytes ++ more)) ≡ take size (drop start bytes)
part-more start size bytes more fits =
    ap (take size) (drop-append-le start bytes more (omega arith))
    ∙ take-append-le size (drop start bytes) more (omega (arith, length-drop start bytes))

frame_by_size-stays : (bytes more : List ℕ) (start : ℕ) (what : What) (size : Option ℕ) →
    Stays (frame_by_size bytes start what size) (frame_by_size (bytes ++ more) start what size)
frame_by_size-stays bytes more start what None = λ _. refl
frame_by_size-stays bytes more start what (Some size) =
    needing-stays (start + size) bytes more (frame_by_what what (start + size) (take size (drop start bytes)))
    (frame_by_what what (start + size) (take size (drop start (bytes ++ more))))
    (λ there _. ap (frame_by_what what (start + size)) (part-more start size bytes more there))

frame_by_header-stays : (bytes more : List ℕ) (start : ℕ) (header : Option BlobHeader) →
    Stays (frame_by_header bytes start header) (frame_by_header (bytes ++ more) start header)
frame_by_header-stays bytes more start None = λ _. refl
frame_by_header-stays bytes more start (Some header) =
    frame_by_size-stays bytes more start header.what (blob_size header.size)

frame_by_length-stays : (bytes more : List ℕ) (count : ℕ) → 4 ≤ length bytes →
    Stays (frame_by_length bytes count) (frame_by_length (bytes ++ more) count)
frame_by_length-stays bytes more count some =
    elim (cases_lt count header_limit)
    as (λ _. Stays (frame_by_length bytes count) (frame_by_length (bytes ++ more) count)) [
      | inl within ↦
          rw (frame_by_length-within bytes count within, frame_by_length-within (bytes ++ more) count within)
          (needing-stays (4 + count) bytes more
          (frame_by_header bytes (4 + count) (header_said (take count (drop 4 bytes))))
          (frame_by_header (bytes ++ more) (4 + count) (header_said (take count (drop 4 (bytes ++ more)))))
          (λ there. rw (part-more 4 count bytes more there)
          (frame_by_header-stays bytes more (4 + count) (header_said (take count (drop 4 bytes))))))
      | inr long ↦ λ _. frame_by_length-long (bytes ++ more) count long ∙ sym (frame_by_length-long bytes count long)
    ]

-- the frame at the beginning of bytes stays what it is when more come
pub leading_frame-stays : (bytes more : List ℕ) → leading_frame bytes ≢ Short →
    leading_frame (bytes ++ more) ≡ leading_frame bytes
unfolding leading_frame
leading_frame-stays bytes more =
    needing-stays 4 bytes more (frame_by_length bytes (from_be_bytes w32 (take 4 bytes)))
    (frame_by_length (bytes ++ more) (from_be_bytes w32 (take 4 (bytes ++ more))))
    (λ there. rw (take-append-le 4 bytes more there)
    (frame_by_length-stays bytes more (from_be_bytes w32 (take 4 bytes)) there))

-- a whole frame has some bytes, no more than there are, and no fewer than its raw content
abbrev IsSized : ℕ → LeadingFrame → Type 0
IsSized count Short = Unit {0}
IsSized count (Whole what raw size) = (4 ≤ size) × (size ≤ count) × (length raw ≤ size)
IsSized count (Faulty cause blamed) = Unit {0}

needing-sized : (count : ℕ) (bytes : List ℕ) (leading : LeadingFrame) →
    (count ≤ length bytes → IsSized (length bytes) leading) → IsSized (length bytes) (needing count bytes leading)
needing-sized count bytes leading sized =
    cond_both (nat_lt (length bytes) count) Short leading (λ f. IsSized (length bytes) f) (λ _. tt)
    (λ none. sized (ltb-false (length bytes) count none))

frame_by_blob-sized : (count : ℕ) (what : What) (size : ℕ) (said : Result (List ℕ) Cause) → 4 ≤ size →
    size ≤ count → ((raw : List ℕ) → said ≡ Ok raw → length raw ≤ size) → IsSized count (frame_by_blob what size said)
frame_by_blob-sized count what size (Ok raw) some fits short = (some, fits, short raw refl)
frame_by_blob-sized count what size (Err cause) some fits short = tt

frame_by_what-sized : (count : ℕ) (what : What) (size : ℕ) (blob : List ℕ) → 4 ≤ size → size ≤ count →
    length blob ≤ size → IsSized count (frame_by_what what size blob)
frame_by_what-sized count Header size blob some fits short =
    frame_by_blob-sized count Header size (blob_said blob) some fits
    (λ raw is. omega (arith, blob_said-short blob raw is, short))
frame_by_what-sized count Block size blob some fits short =
    frame_by_blob-sized count Block size (blob_said blob) some fits
    (λ raw is. omega (arith, blob_said-short blob raw is, short))
frame_by_what-sized count Other size blob some fits short = (some, fits, omega arith)

frame_by_size-sized : (bytes : List ℕ) (start : ℕ) (what : What) (size : Option ℕ) → 4 ≤ start →
    IsSized (length bytes) (frame_by_size bytes start what size)
frame_by_size-sized bytes start what None some = tt
frame_by_size-sized bytes start what (Some size) some =
    needing-sized (start + size) bytes (frame_by_what what (start + size) (take size (drop start bytes)))
    (λ there. frame_by_what-sized (length bytes) what (start + size) (take size (drop start bytes)) (omega arith) there
    (omega (arith, length-take size (drop start bytes))))

frame_by_header-sized : (bytes : List ℕ) (start : ℕ) (header : Option BlobHeader) → 4 ≤ start →
    IsSized (length bytes) (frame_by_header bytes start header)
frame_by_header-sized bytes start None some = tt
frame_by_header-sized bytes start (Some header) some =
    frame_by_size-sized bytes start header.what (blob_size header.size) some

frame_by_length-sized : (bytes : List ℕ) (count : ℕ) → IsSized (length bytes) (frame_by_length bytes count)
frame_by_length-sized bytes count =
    cond_both (nat_lt count header_limit)
    (needing (4 + count) bytes (frame_by_header bytes (4 + count) (header_said (take count (drop 4 bytes)))))
    (Faulty HeaderTooLong None) (λ f. IsSized (length bytes) f)
    (λ _. needing-sized (4 + count) bytes
    (frame_by_header bytes (4 + count) (header_said (take count (drop 4 bytes))))
    (λ _. frame_by_header-sized bytes (4 + count) (header_said (take count (drop 4 bytes))) (omega arith)))
    (λ _. tt)

-- the leading frame of bytes has no more than they are
leading_frame-sized : (bytes : List ℕ) → IsSized (length bytes) (leading_frame bytes)
unfolding leading_frame
leading_frame-sized bytes =
    needing-sized 4 bytes (frame_by_length bytes (from_be_bytes w32 (take 4 bytes)))
    (λ _. frame_by_length-sized bytes (from_be_bytes w32 (take 4 bytes)))

-- the size of a whole frame
pub leading_frame-size : (bytes : List ℕ) (what : What) (raw : List ℕ) (size : ℕ) →
    leading_frame bytes ≡ Whole what raw size → (4 ≤ size) × (size ≤ length bytes) × (length raw ≤ size)
leading_frame-size bytes what raw size is = subst (IsSized (length bytes)) is (leading_frame-sized bytes)

-- no bytes are no frame
pub leading_frame-nil : leading_frame [] ≡ Short
unfolding leading_frame
leading_frame-nil = refl

-- bytes that are too few to tell are fewer than a length
abbrev IsFew : ℕ → ℕ → LeadingFrame → Type 0
IsFew count limit Short = count < limit
IsFew count limit (Whole what raw size) = Unit {0}
IsFew count limit (Faulty cause blamed) = Unit {0}

needing-few : (count limit : ℕ) (bytes : List ℕ) (leading : LeadingFrame) → count ≤ limit →
    IsFew (length bytes) limit leading → IsFew (length bytes) limit (needing count bytes leading)
needing-few count limit bytes leading within few =
    cond_both (nat_lt (length bytes) count) Short leading (λ f. IsFew (length bytes) limit f)
    (λ is. let less : length bytes < count = ltb-true (length bytes) count is in omega arith) (λ _. few)

frame_by_blob-few : (count limit : ℕ) (what : What) (size : ℕ) (said : Result (List ℕ) Cause) →
    IsFew count limit (frame_by_blob what size said)
frame_by_blob-few count limit what size (Ok raw) = tt
frame_by_blob-few count limit what size (Err cause) = tt

frame_by_what-few : (count limit : ℕ) (what : What) (size : ℕ) (blob : List ℕ) →
    IsFew count limit (frame_by_what what size blob)
frame_by_what-few count limit Header size blob = frame_by_blob-few count limit Header size (blob_said blob)
frame_by_what-few count limit Block size blob = frame_by_blob-few count limit Block size (blob_said blob)
frame_by_what-few count limit Other size blob = tt

frame_by_size-few : (bytes : List ℕ) (start : ℕ) (what : What) (size : Option ℕ) → start < 4 + header_limit →
    IfSome size (λ n. n ≤ largest_blob) → IsFew (length bytes) 33620995 (frame_by_size bytes start what size)
frame_by_size-few bytes start what None within fits = tt
frame_by_size-few bytes start what (Some size) within fits =
    needing-few (start + size) 33620995 bytes (frame_by_what what (start + size) (take size (drop start bytes)))
    (omega arith)
    (frame_by_what-few (length bytes) 33620995 what (start + size) (take size (drop start bytes)))

blob_size-fits : (size : ℤ) → IfSome (blob_size size) (λ n. n ≤ largest_blob)
blob_size-fits (pos size) =
    cond_both {A = Option ℕ} (nat_le size largest_blob) (Some size) None (λ o. IfSome o (λ n. n ≤ largest_blob))
    (λ is. leb-true size largest_blob is) (λ _. tt)
blob_size-fits (negsuc less) = tt

frame_by_header-few : (bytes : List ℕ) (start : ℕ) (header : Option BlobHeader) → start < 4 + header_limit →
    IsFew (length bytes) 33620995 (frame_by_header bytes start header)
frame_by_header-few bytes start None within = tt
frame_by_header-few bytes start (Some header) within =
    frame_by_size-few bytes start header.what (blob_size header.size) within (blob_size-fits header.size)

frame_by_length-few : (bytes : List ℕ) (count : ℕ) → IsFew (length bytes) 33620995 (frame_by_length bytes count)
frame_by_length-few bytes count =
    cond_both (nat_lt count header_limit)
    (needing (4 + count) bytes (frame_by_header bytes (4 + count) (header_said (take count (drop 4 bytes)))))
    (Faulty HeaderTooLong None) (λ f. IsFew (length bytes) 33620995 f)
    (λ is. let less : count < header_limit = ltb-true count header_limit is in
    needing-few (4 + count) 33620995 bytes
    (frame_by_header bytes (4 + count) (header_said (take count (drop 4 bytes)))) (omega arith)
    (frame_by_header-few bytes (4 + count) (header_said (take count (drop 4 bytes))) (omega arith)))
    (λ _. tt)

-- bytes that are too few to tell are fewer than a length, a blob header and a blob can have together
pub leading_frame-few : (bytes : List ℕ) → leading_frame bytes ≡ Short → length bytes < 33620995
unfolding leading_frame
leading_frame-few bytes is =
    subst (IsFew (length bytes) 33620995) is
    (needing-few 4 33620995 bytes (frame_by_length bytes (from_be_bytes w32 (take 4 bytes))) (omega arith)
    (frame_by_length-few bytes (from_be_bytes w32 (take 4 bytes))))
