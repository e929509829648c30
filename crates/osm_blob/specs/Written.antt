-- The bytes of a frame, as it is written: every message in its shortest spelling.
-- Here a frame is one formula of its content; the code appends part by part.
use Rattle.std.specs.Prelude.{ℕ, List, [], ◌∷◌, ◌++◌, length, codes}
use Rattle.std.specs.Int.{w32, to_be_bytes}
use Rattle.osm_wire.specs.Messages.{Bytes, Varint}
use Rattle.osm_wire.specs.Written.{written_message}
use Rattle.osm_blob.specs.declared.messages.What.{What}
use Rattle.osm_blob.specs.declared.messages.What.TheVariants.{Header, Block, Other}

-- the type of a blob that holds this; one that holds something else isn't written
abbrev pub type_text : What → List ℕ
type_text Header = codes "OSMHeader"
type_text Block = codes "OSMData"
type_text Other = []

-- the blob with this raw content, which is its field 1
abbrev pub written_blob : List ℕ → List ℕ
written_blob raw = written_message (record { number = 1; value = Bytes raw } ∷ [])

-- the blob header of a blob of this size: 1 its type, and 3 its size
abbrev pub written_blob_header : What → ℕ → List ℕ
written_blob_header what size =
    written_message
    (record { number = 1; value = Bytes (type_text what) } ∷ record { number = 3; value = Varint size } ∷ [])

-- the length of a blob header in four bytes, the highest first, the blob header, and the blob
abbrev pub framed : List ℕ → List ℕ → List ℕ
framed header blob = to_be_bytes w32 (length header) ++ header ++ blob

-- the frame with this raw content
unfoldable pub written_frame : What → List ℕ → List ℕ
written_frame what raw = framed (written_blob_header what (length (written_blob raw))) (written_blob raw)
