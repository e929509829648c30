-- The file of a stream is read back as the items that come back.
use Rattle.std.proofs.Common.{◌≡◌, ◌∙◌, ◌<◌, ◌≤◌, ◌++◌, ◌∷◌, [], ℕ, ℤ, pos, ◌+ℤ◌, List, Some, None, Bool, true, false, length, map, refl, sym, ap, subst, lit<, arith}
use Rattle.std.specs.Prelude.{All, Ok, ◌≢◌, ◌*ℤ◌, codes, int_div, int_rem, nat_lt, if◌then◌else◌}
use Rattle.std.specs.List.{AllByRecursion as Each, flat_map, list_all}
use Rattle.std.specs.Str.{IsAscii, is_utf8}
use Rattle.std.proofs.Math.IntN.{*ℤ_comm}
use Rattle.std.proofs.lemmas.Bool.{and_parts, false≢true, ltb-true}
use Rattle.std.proofs.lemmas.Int.{ints, quot-rem}
use Rattle.std.proofs.lemmas.List.{drop_at, map-append}
use Rattle.std.proofs.lemmas.List.Elements.{recursion_from_All}
use Rattle.std.proofs.lemmas.Str.{IsUtf8-from_ascii, is_utf8-from_IsUtf8}
use Rattle.std.proofs.lemmas.Str.Ascii.{IsAscii-cons, IsAscii-nil}
use Rattle.osm_entity.specs.Entities.{EntityValue, weight_of}
use Rattle.osm_entity.specs.Items.{ItemValue, has_place, kind_of}
use Rattle.osm_entity.specs.Readings.{Reading, Whole, after}
use Rattle.osm_entity.specs.Streams.{Stream}
use Rattle.osm_entity.specs.Writable.{IsWritable}
use Rattle.osm_entity.specs.declared.item.Act.TheVariants.{Keep, Delete}
use Rattle.osm_entity.specs.declared.kind.Flow.TheVariants.{Entities}
use Rattle.osm_entity.specs.declared.parts.Body.{Body}
use Rattle.osm_entity.specs.declared.parts.Body.TheVariants.{Node, Way, Relation}
use Rattle.osm_entity.specs.declared.stream.End.{End}
use Rattle.osm_entity.specs.declared.stream.End.TheVariants.{Broken, Done}
use Rattle.osm_wire.specs.Messages.{FieldValue}
use Rattle.osm_wire.specs.Written.{written_message}
use Rattle.osm_blob.specs.Frames.{FrameStart, first_start, next_start}
use Rattle.osm_blob.specs.Messages.{raw_limit}
use Rattle.osm_blob.specs.Written.{written_frame}
use Rattle.osm_blob.specs.declared.messages.What.{What}
use Rattle.osm_blob.specs.declared.messages.What.TheVariants.{Header, Block, Other}
use Rattle.osm_blob.proofs.LeadingLemmas.{leading_frame-nil}
use Rattle.osm_blob.proofs.WrittenLemmas.{written_frame-reads}
use Rattle.osm_block_read.specs.Block.{block_said}
use Rattle.osm_block_read.specs.Header.{header_fault}
use Rattle.osm_block_write.specs.declared.options.PbfOptions.{PbfOptions}
use Rattle.osm_block_write.specs.Block.{header_bytes, run_bytes}
use Rattle.osm_block_write.specs.Columns.{bytes_field}
use Rattle.osm_block_write.specs.Runs.{AreLight, IsBlockRun, Runs, all_runs, greatest_run, open_run, written_runs}
use Rattle.osm_block_write.proofs.RunsLemmas.{exists}
use Rattle.osm_pbf.specs.ReadBack.{IsBodyWhole, body_back, cut_degrees, item_back, items_back}
use Rattle.osm_pbf.specs.Reading.{blob_spot, frame_said, header_came, pbf_reading, pbf_reading_from, said_before}
use Rattle.osm_pbf.specs.WrittenFile.{entities_of, header_frame, pbf_text, run_frames, runs_of_items}
use Rattle.osm_pbf.proofs.BlockSizeLemmas.{block-short}
use Rattle.osm_pbf.proofs.BlocksBackLemmas.{block_bytes-back}
use Rattle.osm_pbf.proofs.FieldsBackLemmas.{AreSound, each-weaker, message-back}
use Rattle.osm_pbf.proofs.GroupsBackLemmas.{map-twice}
use Rattle.osm_pbf.proofs.ItemsBackLemmas.{IsWritableEntity}
use Rattle.osm_pbf.proofs.ReadingLemmas.{pbf_reading_from-short, pbf_reading_from-whole}
use Rattle.osm_pbf.proofs.SizeLemmas.{bytes-size, message-next}
use Rattle.osm_pbf.proofs.TextsBackLemmas.{each-lists, each-parts}

-- bytes below 128 are ASCII
ascii-from_test : (bytes : List ℕ) → list_all (λ b. nat_lt b 128) bytes ≡ true → IsAscii bytes
ascii-from_test [] below = IsAscii-nil
ascii-from_test (byte ∷ bytes) below =
    let parts = and_parts (nat_lt byte 128) (list_all (λ b. nat_lt b 128) bytes) below in
    IsAscii-cons byte bytes (ltb-true byte 128 parts.0) (ascii-from_test bytes parts.1)

-- the features are UTF-8
schema-utf8 : is_utf8 (codes "OsmSchema-V0.6") ≡ true
schema-utf8 =
    let schema : List ℕ = codes "OsmSchema-V0.6" in
    is_utf8-from_IsUtf8 schema (IsUtf8-from_ascii schema (ascii-from_test schema refl))

-- so is the feature of dense nodes
dense-utf8 : is_utf8 (codes "DenseNodes") ≡ true
dense-utf8 =
    let dense : List ℕ = codes "DenseNodes" in
    is_utf8-from_IsUtf8 dense (IsUtf8-from_ascii dense (ascii-from_test dense refl))

-- the fields of a header block, by whether nodes are dense
abbrev header_by : Bool → List FieldValue
header_by dense =
    bytes_field 4 (codes "OsmSchema-V0.6") ∷ (if dense then bytes_field 4 (codes "DenseNodes") ∷ [] else [])

-- they are good to write
header-sound : (dense : Bool) → AreSound (header_by dense)
header-sound true = (((lit< tt, lit< tt), tt), (((lit< tt, lit< tt), tt), tt))
header-sound false = (((lit< tt, lit< tt), tt), tt)

-- a header block is short
header-short : (dense : Bool) → length (written_message (header_by dense)) < raw_limit
header-short true = omega (
  arith,
  message-next (bytes_field 4 (codes "OsmSchema-V0.6")) (bytes_field 4 (codes "DenseNodes") ∷ []),
  message-next (bytes_field 4 (codes "DenseNodes")) [],
  bytes-size 4 (codes "OsmSchema-V0.6") (lit< tt),
  bytes-size 4 (codes "DenseNodes") (lit< tt),
)
header-short false = omega (
  arith,
  message-next (bytes_field 4 (codes "OsmSchema-V0.6")) [],
  bytes-size 4 (codes "OsmSchema-V0.6") (lit< tt),
)

-- nothing is wrong with it
header-good : (dense : Bool) → header_fault (written_message (header_by dense)) ≡ None
unfolding header_fault
header-good true =
    rw (
      message-back (header_by true) (header-sound true) (omega (arith, header-short true)),
      schema-utf8,
      dense-utf8,
    ) refl
header-good false =
    rw (message-back (header_by false) (header-sound false) (omega (arith, header-short false)), schema-utf8) refl

-- the block of a run is short, and says the items that come back
run-back : (options : PbfOptions) (limit : ℕ) (run : List EntityValue) → IsBlockRun limit run →
    Each IsWritableEntity run →
    (length (run_bytes options run) < raw_limit)
    × (block_said (run_bytes options run) ≡ Ok (map (item_back options) run))
unfolding run_bytes
run-back options limit [] good kept = absurd (good.some refl)
run-back options limit (e ∷ run) good kept =
    let alike = each-weaker (λ x. kind_of x.body ≡ good.kind) (λ x. kind_of x.body ≡ kind_of e.body) (e ∷ run)
    (λ x is. is ∙ sym good.alike.0) good.alike in (
      block-short options (kind_of e.body) (e ∷ run) good.light,
      block_bytes-back options (kind_of e.body) (e ∷ run) kept alike good.light,
    )

-- the reading of a written frame, and then of what follows
frame-back : (came : Bool) (start : FrameStart) (what : What) (raw more : List ℕ) → what ≢ Other →
    length raw < raw_limit →
    pbf_reading_from came start (written_frame what raw ++ more) true
    ≡ said_before (blob_spot start) (frame_said came what raw)
    (pbf_reading_from (header_came came what) (next_start start (length (written_frame what raw))) more true)
frame-back came start what raw more written short =
    let frame = written_frame what raw in
    pbf_reading_from-whole came start (frame ++ more) true what raw (length frame)
    (written_frame-reads what raw more written short)
    ∙ ap
    (λ rest. said_before (blob_spot start) (frame_said came what raw)
    (pbf_reading_from (header_came came what) (next_start start (length frame)) rest true))
    (drop_at frame more (length frame) refl)

-- a block is no other blob, nor is a header
block-read : Block ≢ Other
block-read = λ is. let no : Block ≡ Other = is in cc

-- a header is no other blob
header-read : Header ≢ Other
header-read = λ is. let no : Header ≡ Other = is in cc

-- the items of runs that come back, read whole
abbrev runs_read : PbfOptions → List (List EntityValue) → Reading
runs_read options runs = record { items = map (item_back options) (flat_map (λ run. run) runs); ending = Whole }

-- the frames of runs are read back
runs-back : (options : PbfOptions) (limit : ℕ) (start : FrameStart) (runs : List (List EntityValue)) →
    Each (IsBlockRun limit) runs → Each (λ run. Each IsWritableEntity run) runs →
    pbf_reading_from true start (run_frames options runs) true ≡ runs_read options runs
runs-back options limit start [] good kept = pbf_reading_from-short true start [] true leading_frame-nil
runs-back options limit start (run ∷ runs) good kept =
    let read = run-back options limit run good.0 kept.0 in
    let raw = run_bytes options run in
    let next = next_start start (length (written_frame Block raw)) in
    frame-back true start Block raw (run_frames options runs) block-read read.0
    ∙ ap
    (λ said. said_before (blob_spot start) said (pbf_reading_from true next (run_frames options runs) true)) read.1
    ∙ ap (after (map (item_back options) run)) (runs-back options limit next runs good.1 kept.1)
    ∙ ap (λ items. record { items = items; ending = Whole })
    (sym (map-append (item_back options) run (flat_map (λ run. run) runs)))

-- the file of runs is read back
file-back : (options : PbfOptions) (limit : ℕ) (runs : List (List EntityValue)) → Each (IsBlockRun limit) runs →
    Each (λ run. Each IsWritableEntity run) runs →
    pbf_reading (header_frame options ++ run_frames options runs) true ≡ runs_read options runs
unfolding pbf_reading
file-back options limit runs good kept =
    let raw = header_bytes options in
    let next = next_start first_start (length (written_frame Header raw)) in
    let later = pbf_reading_from true next (run_frames options runs) true in
    let fine : frame_said false Header raw ≡ Ok [] = rw (header-good options.usedense) refl in
    frame-back false first_start Header raw (run_frames options runs) header-read (header-short options.usedense)
    ∙ ap (λ said. said_before (blob_spot first_start) said later) fine
    ∙ runs-back options limit next runs good kept

-- an item of a stream of entities is kept
act-kept : (item : ItemValue) → IsWritable Entities item → item.act ≡ Keep
act-kept item is = is.kept.1 refl

-- its entity is as a stream of entities has it
entity-kept : (item : ItemValue) → IsWritable Entities item → IsWritableEntity item.entity
entity-kept item is =
    let same : item ≡ record { act = Keep; entity = item.entity } =
    ap (λ act. record { act = act; entity = item.entity }) (act-kept item is) in
    subst (IsWritable Entities) same is

-- so is each of its entities
entities-kept : (items : List ItemValue) → Each (IsWritable Entities) items → Each IsWritableEntity (entities_of items)
entities-kept [] all = tt
entities-kept (item ∷ items) all = (entity-kept item all.0, entities-kept items all.1)

-- each such entity is light enough for a run
entities-light : (entities : List EntityValue) → Each IsWritableEntity entities → AreLight entities
entities-light entities kept =
    each-weaker IsWritableEntity (λ e. weight_of e ≤ greatest_run) entities (λ e k. omega (arith, k.entity.light)) kept

-- the runs that are written are among all
written-part : (P : List EntityValue → Type 0) (runs : Runs) (end : End) → Each P (all_runs runs) →
    Each P (written_runs runs end)
written-part P runs Done all = all
written-part P runs Broken all = (each-parts P runs.closed (open_run runs.opened) all).0

-- the file of a stream of entities is read back as its items that come back
pub stream-back : (options : PbfOptions) (s : Stream) → All (IsWritable Entities) s.items →
    pbf_reading (pbf_text options s) true ≡ record { items = items_back options s; ending = Whole }
stream-back options s all =
    let entities = entities_of s.items in
    let kept = entities-kept s.items (recursion_from_All (IsWritable Entities) s.items all) in
    let runs = runs_of_items options s.items in
    let are = exists options.batchlimit entities options.some (entities-light entities kept) in
    let joined = subst (Each IsWritableEntity) (sym are.joined) kept in
    let each = each-lists IsWritableEntity (λ run. run) (all_runs runs) joined in
    file-back options options.batchlimit (written_runs runs s.end)
    (written-part (IsBlockRun options.batchlimit) runs s.end are.good)
    (written-part (λ run. Each IsWritableEntity run) runs s.end each)

-- all items of a stream that is done come back
pub done-back : (options : PbfOptions) (items : List ItemValue) → All (IsWritable Entities) items →
    items_back options (record { items = items; end = Done }) ≡ map (λ i. item_back options i.entity) items
done-back options items all =
    let entities = entities_of items in
    let kept = entities-kept items (recursion_from_All (IsWritable Entities) items all) in
    let are = exists options.batchlimit entities options.some (entities-light entities kept) in
    ap (map (item_back options)) are.joined ∙ map-twice (item_back options) (λ i. i.entity) items

-- nothing more
zero-more : (z : ℤ) → z ≡ z +ℤ pos 0
zero-more z = omega (arith, ints)

-- a multiple of the granularity isn't cut
multiple-back : (options : PbfOptions) (z : ℤ) → int_rem z (pos options.granularity) ≡ pos 0 → cut_degrees options z ≡ z
multiple-back options z is =
    let divisor : ℤ = pos options.granularity in
    let sum : int_div z divisor *ℤ divisor +ℤ pos 0 ≡ z =
    ap (λ rest. int_div z divisor *ℤ divisor +ℤ rest) (sym is) ∙ quot-rem z divisor in
    *ℤ_comm divisor (int_div z divisor) ∙ zero-more (int_div z divisor *ℤ divisor) ∙ sum

-- a body whose place is a multiple of the granularity comes back
body-back : (options : PbfOptions) (body : Body) → has_place body ≡ true → IsBodyWhole options body →
    body_back options body ≡ body
body-back options (Node None) placed whole = absurd (false≢true placed)
body-back options (Node (Some p)) placed whole =
    rw (multiple-back options p.lon whole.0, multiple-back options p.lat whole.1) refl
body-back options (Way refs) placed whole = refl
body-back options (Relation members) placed whole = refl

-- an item comes back itself, where its place is a multiple and metadata is written
pub item-same : (options : PbfOptions) (item : ItemValue) → IsWritable Entities item →
    options.omitmetadata ≡ false → IsBodyWhole options item.entity.body → item_back options item.entity ≡ item
item-same options item is written whole =
    let kept = act-kept item is in
    let placed = is.acted.placed (λ deleted. let no : Keep ≡ Delete = sym kept ∙ deleted in cc) in
    rw (written, body-back options item.entity.body placed whole)
    (ap (λ act. record { act = act; entity = item.entity }) (sym kept))
