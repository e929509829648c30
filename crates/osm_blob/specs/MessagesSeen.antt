-- What entries that were read of a message say together with the fields that follow.
-- Here what follows is a list; the code has the bytes in which it stands.
use Rattle.std.specs.Prelude.{ℕ, List, Option}
use Rattle.std.specs.Option.{option_map}
use Rattle.std.specs.declared.result.Result.{Result}
use Rattle.osm_entity.specs.declared.verdict.Cause.{Cause}
use Rattle.osm_wire.specs.Entries.{◌>>=◌, whole_pieces}
use Rattle.osm_wire.specs.Pieces.{Pieces}
use Rattle.osm_wire.specs.Messages.{FieldValue}
use Rattle.osm_blob.specs.Messages.{content_in, header_in, unless_bad_wire}
use Rattle.osm_blob.specs.declared.messages.BlobEntries.{BlobEntries}
use Rattle.osm_blob.specs.declared.messages.BlobHeader.{BlobHeader}
use Rattle.osm_blob.specs.declared.messages.HeaderEntries.{HeaderEntries}

-- what entries of a blob header say together with the fields that follow
abbrev pub header_with : HeaderEntries → Pieces FieldValue → Option BlobHeader
header_with entries pieces = whole_pieces pieces >>= header_in (option_map (λ s. s.now) entries.name) entries.size

-- what entries of a blob say together with the fields that follow
abbrev pub content_with : BlobEntries → Pieces FieldValue → Result (List ℕ) Cause
content_with entries pieces =
    unless_bad_wire (whole_pieces pieces >>= content_in (option_map (λ s. s.now) entries.raw) entries.compressed)
