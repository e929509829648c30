-- Written frames read back.
use Rattle.std.proofs.Common.{◌≡◌, ℕ, ◌+◌, ◌-◌, ◌<◌, ◌≤◌, ◌^◌, ◌%◌, List, [], ◌∷◌, ◌++◌, length, take, drop, false, refl, sym, ap, ◌∙◌, arith, append-nil, append_assoc, length-append, take_all}
use Rattle.std.specs.Prelude.{◌≢◌, pos, Some, None, Ok}
use Rattle.std.specs.Int.{w32, cast_signed, from_be_bytes, to_be_bytes}
use Rattle.std.proofs.lemmas.Bool.{le-leb, lt-ltb}
use Rattle.std.proofs.lemmas.Int.{to_z_pos}
use Rattle.std.proofs.lemmas.List.{drop-append-le, drop_all, take-append-le}
use Rattle.std.proofs.lemmas.List.Elements.{All-cons, All-nil}
use Rattle.std.proofs.lemmas.Nat.{from_be_bytes-to_be_bytes_4}
use Rattle.osm_wire.specs.Entries.{◌>>=◌}
use Rattle.osm_wire.specs.Integers.{int32}
use Rattle.osm_wire.specs.Messages.{Bytes, FieldValue, Varint}
use Rattle.osm_wire.specs.Written.{IsField, shortest_varint}
use Rattle.osm_wire.proofs.WrittenLemmas.{shortest_varint-spells, written_message-fields}
use Rattle.osm_blob.specs.Leading.{LeadingFrame, Whole, frame_by_length, frame_by_what, leading_frame}
use Rattle.osm_blob.specs.Messages.{blob_said, content_in, header_in, header_said, largest_blob, raw_limit, unless_bad_wire, what_typed}
use Rattle.osm_blob.specs.Written.{framed, type_text, written_blob, written_blob_header, written_frame}
use Rattle.osm_blob.specs.declared.messages.BlobHeader.{BlobHeader}
use Rattle.osm_blob.specs.declared.messages.What.{What}
use Rattle.osm_blob.specs.declared.messages.What.TheVariants.{Header, Block, Other}
use Rattle.osm_blob.proofs.LeadingLemmas.{frame_by_length-there, needing-there}

-- the first part of two
take-first : (count : ℕ) (first second : List ℕ) → count ≡ length first → take count (first ++ second) ≡ first
take-first count first second is =
    take-append-le count first second (omega arith) ∙ take_all count first (omega arith)

-- the second part of two
drop-first : (count : ℕ) (first second : List ℕ) → count ≡ length first → drop count (first ++ second) ≡ second
drop-first count first second is =
    drop-append-le count first second (omega arith) ∙ ap (λ rest. rest ++ second) (drop_all count first (omega arith))

-- a varint has ten bytes at most
pub shortest_varint-short : (n : ℕ) → n < 2 ^ 64 → length (shortest_varint n) ≤ 10
shortest_varint-short n fits = (shortest_varint-spells n fits).within

-- a type has nine bytes at most
pub type_text-short : (what : What) → length (type_text what) ≤ 9
type_text-short Header = omega arith
type_text-short Block = omega arith
type_text-short Other = omega arith

-- a blob holds what its type says
what_typed-type : (what : What) → what ≢ Other → what_typed (type_text what) ≡ what
what_typed-type Header written = refl
what_typed-type Block written = refl
what_typed-type Other written = absurd (written refl)

-- a small number as one of 32 bits with a sign
int32-small : (n : ℕ) → n < 2 ^ 31 → int32 n ≡ pos n
int32-small n small =
    let low : n % 2 ^ 32 ≡ n = omega arith in
    ap (cast_signed w32) low ∙ to_z_pos w32 n (omega arith)

-- the type of a blob as a field
abbrev type_field : What → FieldValue
type_field what = record { number = 1; value = Bytes (type_text what) }

-- the size of a blob as a field
abbrev size_field : ℕ → FieldValue
size_field size = record { number = 3; value = Varint size }

-- the raw content of a blob as a field
abbrev raw_field : List ℕ → FieldValue
raw_field raw = record { number = 1; value = Bytes raw }

-- a written blob header is read back
header_said-written : (what : What) (size : ℕ) → what ≢ Other → size < 2 ^ 31 →
    header_said (written_blob_header what size) ≡ Some (record { what = what; size = pos size })
unfolding header_said
header_said-written what size written small =
    let short = type_text-short what in
    ap (λ fields. fields >>= header_in None None)
    (written_message-fields (type_field what ∷ size_field size ∷ [])
    (All-cons IsField (type_field what) (size_field size ∷ []) ((omega arith, omega arith), omega arith)
    (All-cons IsField (size_field size) [] ((omega arith, omega arith), omega arith) (All-nil IsField))))
    ∙ ap (λ w. let h : BlobHeader = record { what = w; size = int32 size } in Some h) (what_typed-type what written)
    ∙ ap (λ z. let h : BlobHeader = record { what = what; size = z } in Some h) (int32-small size small)

-- a written blob is read back
blob_said-written : (raw : List ℕ) → length raw < raw_limit → blob_said (written_blob raw) ≡ Ok raw
unfolding blob_said
blob_said-written raw short =
    ap (λ fields. unless_bad_wire (fields >>= content_in None false))
    (written_message-fields (raw_field raw ∷ [])
    (All-cons IsField (raw_field raw) [] ((omega arith, omega arith), omega arith) (All-nil IsField)))
    ∙ rw (lt-ltb (length raw) raw_limit short) refl

-- what a written blob says of a frame
frame_by_what-written : (what : What) (size : ℕ) (raw : List ℕ) → what ≢ Other → length raw < raw_limit →
    frame_by_what what size (written_blob raw) ≡ Whole what raw size
frame_by_what-written Header size raw written short = rw (blob_said-written raw short) refl
frame_by_what-written Block size raw written short = rw (blob_said-written raw short) refl
frame_by_what-written Other size raw written short = absurd (written refl)

-- a written blob is not much longer than its raw content
written_blob-short : (raw : List ℕ) → length raw < raw_limit → length (written_blob raw) ≤ 20 + length raw
written_blob-short raw short =
    let tag = shortest_varint-short 10 (omega arith) in
    let size = shortest_varint-short (length raw) (omega arith) in
    omega (
      arith,
      tag,
      size,
      length-append (shortest_varint 10) (shortest_varint (length raw) ++ raw),
      length-append (shortest_varint (length raw)) raw,
      length-append (shortest_varint 10 ++ (shortest_varint (length raw) ++ raw)) [],
    )

-- a written blob header is short
pub written_blob_header-short : (what : What) (size : ℕ) → size < 2 ^ 64 → length (written_blob_header what size) ≤ 49
written_blob_header-short what size fits =
    let name = shortest_varint (length (type_text what)) ++ type_text what in
    let first = shortest_varint 10 ++ name in
    let second = shortest_varint 24 ++ shortest_varint size in
    omega (
      arith,
      type_text-short what,
      shortest_varint-short 10 (omega arith),
      shortest_varint-short 24 (omega arith),
      shortest_varint-short (length (type_text what)) (omega (arith, type_text-short what)),
      shortest_varint-short size fits,
      length-append (shortest_varint 10) name,
      length-append (shortest_varint (length (type_text what))) (type_text what),
      length-append (shortest_varint 24) (shortest_varint size),
      length-append second [],
      length-append first (second ++ []),
    )

-- a frame at the beginning of bytes, by what its parts say
leading_frame-framed : (header blob more : List ℕ) (what : What) (leading : LeadingFrame) → length header < 65536 →
    length blob ≤ largest_blob → header_said header ≡ Some (record { what = what; size = pos (length blob) }) →
    frame_by_what what (4 + length header + length blob) blob ≡ leading →
    leading_frame (framed header blob ++ more) ≡ leading
unfolding leading_frame
leading_frame-framed header blob more what leading few large said is =
    let first = to_be_bytes w32 (length header) in
    let bytes = framed header blob ++ more in
    let start = 4 + length header in
    let four : length first ≡ 4 = refl in
    let parted : bytes ≡ (first ++ header) ++ (blob ++ more) = append_assoc (first ++ header) blob more in
    let apart : bytes ≡ first ++ (header ++ (blob ++ more)) = parted ∙ append_assoc first header (blob ++ more) in
    let long : length bytes ≡ start + length blob + length more =
    omega (
      arith,
      four,
      length-append first header,
      length-append (first ++ header) blob,
      length-append (framed header blob) more,
    ) in
    let count : from_be_bytes w32 (take 4 bytes) ≡ length header =
    ap (λ all. from_be_bytes w32 (take 4 all)) apart
    ∙ ap (from_be_bytes w32) (take-first 4 first (header ++ (blob ++ more)) (sym four))
    ∙ from_be_bytes-to_be_bytes_4 (length header) (omega arith) in
    let head : take (start - 4) (drop 4 bytes) ≡ header =
    ap (λ all. take (start - 4) (drop 4 all)) apart
    ∙ ap (take (start - 4)) (drop-first 4 first (header ++ (blob ++ more)) (sym four))
    ∙ take-first (start - 4) header (blob ++ more) (omega arith) in
    let body : take (length blob) (drop start bytes) ≡ blob =
    ap (λ all. take (length blob) (drop start all)) parted
    ∙ ap (take (length blob)) (drop-first start (first ++ header) (blob ++ more)
    (omega (arith, four, length-append first header)))
    ∙ take-first (length blob) blob more refl in
    needing-there 4 bytes (frame_by_length bytes (from_be_bytes w32 (take 4 bytes))) (omega (arith, long))
    ∙ ap (frame_by_length bytes) count
    ∙ frame_by_length-there bytes (length header) (Some (record { what = what; size = pos (length blob) })) few
    (omega (arith, long)) (sym (ap header_said head ∙ said))
    ∙ rw (le-leb (length blob) largest_blob large) refl
    ∙ needing-there (start + length blob) bytes
    (frame_by_what what (start + length blob) (take (length blob) (drop start bytes))) (omega (arith, long))
    ∙ ap (frame_by_what what (start + length blob)) body
    ∙ is

-- a written frame is read back
pub written_frame-reads : (what : What) (raw more : List ℕ) → what ≢ Other → length raw < raw_limit →
    leading_frame (written_frame what raw ++ more) ≡ Whole what raw (length (written_frame what raw))
unfolding written_frame
written_frame-reads what raw more written short =
    let blob = written_blob raw in
    let large = written_blob-short raw short in
    let header = written_blob_header what (length blob) in
    let first = to_be_bytes w32 (length header) in
    let four : length first ≡ 4 = refl in
    let few = written_blob_header-short what (length blob) (omega (arith, large)) in
    let long : 4 + length header + length blob ≡ length (framed header blob) =
    omega (arith, four, length-append first header, length-append (first ++ header) blob) in
    leading_frame-framed header blob more what (Whole what raw (length (framed header blob)))
    (omega (arith, few)) (omega (arith, large)) (header_said-written what (length blob) written (omega (arith, large)))
    (ap (λ size. frame_by_what what size blob) long
    ∙ frame_by_what-written what (length (framed header blob)) raw written short)

-- what stands in a blob before its raw content is short
pub blob_start-short : (count : ℕ) → count < 2 ^ 64 →
    length (shortest_varint 10 ++ shortest_varint count) ≤ 20
blob_start-short count fits =
    omega (
      arith,
      shortest_varint-short 10 (omega arith),
      shortest_varint-short count fits,
      length-append (shortest_varint 10) (shortest_varint count),
    )

-- a frame of its parts
pub written_frame-parts : (what : What) (raw start header : List ℕ) (size : ℕ) →
    start ≡ shortest_varint 10 ++ shortest_varint (length raw) → size ≡ length start + length raw →
    header ≡ written_blob_header what size →
    to_be_bytes w32 (length header) ++ header ++ start ++ raw ≡ written_frame what raw
unfolding written_frame
written_frame-parts what raw start header size is_start is_size is_header =
    let blob : start ++ raw ≡ written_blob raw =
    ap (λ f. f ++ raw) is_start
    ∙ append_assoc (shortest_varint 10) (shortest_varint (length raw)) raw
    ∙ sym (append-nil (shortest_varint 10 ++ (shortest_varint (length raw) ++ raw))) in
    let long : size ≡ length (written_blob raw) = is_size ∙ sym (length-append start raw) ∙ ap length blob in
    append_assoc (to_be_bytes w32 (length header) ++ header) start raw
    ∙ ap (framed header) blob
    ∙ ap (λ h. framed h (written_blob raw)) (is_header ∙ ap (written_blob_header what) long)
