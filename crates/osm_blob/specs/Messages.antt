-- What the messages of a frame say: its blob header and its blob.
-- Here the entries of each field are looked up among all fields; the code goes through the fields once.
use Rattle.std.specs.Prelude.{ℕ, ℤ, pos, negsuc, List, map, filter, codes, length, Bool, true, false, ◌&&◌, ◌||◌, nat_le, nat_lt, if◌then◌else◌, Option, Some, None, Ok, Err}
use Rattle.std.specs.Str.{bytes_eq}
use Rattle.std.specs.declared.result.Result.{Result}
use Rattle.osm_entity.specs.declared.verdict.Cause.{Cause}
use Rattle.osm_entity.specs.declared.verdict.Cause.TheVariants.{BadWire, BlobTooLong, Compressed}
use Rattle.osm_wire.specs.Entries.{◌>>=◌, all_said, as_bytes, bytes_given, message_fields, number_given}
use Rattle.osm_wire.specs.Integers.{int32}
use Rattle.osm_wire.specs.Messages.{FieldValue}
use Rattle.osm_blob.specs.declared.messages.BlobHeader.{BlobHeader}
use Rattle.osm_blob.specs.declared.messages.What.{What}
use Rattle.osm_blob.specs.declared.messages.What.TheVariants.{Header, Block, Other}

-- a raw content has fewer bytes than this: 32 MiB
abbrev pub raw_limit : ℕ
raw_limit = 33554432

-- the most bytes of a blob: 32 MiB and 1 KiB
abbrev pub largest_blob : ℕ
largest_blob = 33555456

-- what a blob of this type holds: a header for OSMHeader, a block for OSMData, and something else for any other
abbrev pub what_typed : List ℕ → What
what_typed name =
    if bytes_eq name (codes "OSMHeader") then Header
    else if bytes_eq name (codes "OSMData") then Block
    else Other

-- what a blob header of this type and size says; it needs both
abbrev pub header_given : Option (List ℕ) → Option ℕ → Option BlobHeader
header_given None size = None
header_given (Some name) None = None
header_given (Some name) (Some size) = Some (record { what = what_typed name; size = int32 size })

-- what the fields of a blob header say: 1 the type of its blob, 2 bytes that are skipped, and 3 the size of its blob;
-- where 1 or 3 isn't among them it has this type or size
abbrev pub header_in : Option (List ℕ) → Option ℕ → List FieldValue → Option BlobHeader
header_in name size fields = do
  its_name ← bytes_given name 1 fields
  skipped ← bytes_given None 2 fields
  its_size ← number_given size 3 fields
  header_given its_name its_size

-- what a blob header says; nothing where it is no good message, or has no type or no size
unfoldable pub header_said : List ℕ → Option BlobHeader
header_said bytes = message_fields bytes >>= header_in None None

-- the size of a blob, where it is one that a blob may have
abbrev pub blob_size : ℤ → Option ℕ
blob_size (pos size) = if nat_le size largest_blob then Some size else None
blob_size (negsuc less) = None

-- a field of a blob with compressed content: 3 zlib_data, 4 lzma_data, 5 bzip2_data, 6 lz4_data or 7 zstd_data
abbrev pub has_compressed : FieldValue → Bool
has_compressed field = nat_le 3 field.number && nat_le field.number 7

-- the compressed contents among the fields of a blob
abbrev pub compressed_in : List FieldValue → Option (List (List ℕ))
compressed_in fields = all_said as_bytes (map (λ field. field.value) (filter has_compressed fields))

-- the content of a blob by its raw content and by whether it has a compressed one: Compressed where it has, else
-- BadWire where it has no raw one, else BlobTooLong from the limit on
abbrev pub content_given : Option (List ℕ) → Bool → Result (List ℕ) Cause
content_given raw true = Err Compressed
content_given None false = Err BadWire
content_given (Some raw) false = if nat_lt (length raw) raw_limit then Ok raw else Err BlobTooLong

-- what the fields of a blob say: 1 its raw content, 2 a number that is skipped, and 3 to 7 compressed contents; where 1
-- isn't among them it has this raw content, and it has a compressed one also where that is said before
abbrev pub content_in : Option (List ℕ) → Bool → List FieldValue → Option (Result (List ℕ) Cause)
content_in raw compressed fields = do
  its_raw ← bytes_given raw 1 fields
  skipped ← number_given None 2 fields
  contents ← compressed_in fields
  Some (content_given its_raw (compressed || nat_lt 0 (length contents)))

-- what a message says, or BadWire where it is no good message
abbrev pub unless_bad_wire : {T : Type 0} → Option (Result T Cause) → Result T Cause
unless_bad_wire None = Err BadWire
unless_bad_wire (Some said) = said

-- the content of a blob, or the first thing that is wrong with it
unfoldable pub blob_said : List ℕ → Result (List ℕ) Cause
blob_said bytes = unless_bad_wire (message_fields bytes >>= content_in None false)
