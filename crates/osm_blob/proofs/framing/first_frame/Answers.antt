use Rattle.std.proofs.Common.{◌∙◌, sym}
use Rattle.osm_blob.specs.Leading.{leading_frame}
use Rattle.osm_blob.proofs.LeadingLemmas.{needing-short, leading_frame-length, frame_by_length-long, frame_by_length-short, frame_by_length-there}
use Rattle.osm_blob.proofs.framing.first_frame.Goals as goal

pub returns-then-bytes-lt4 : goal.returns-then-bytes-lt4
unfolding leading_frame
returns-then-bytes-lt4 c = sym (needing-short 4 c.args.bytes.now _ c.if-bytes-lt4.true)

pub returns-then-length-ge-HEADER_LIMIT : goal.returns-then-length-ge-HEADER_LIMIT
returns-then-length-ge-HEADER_LIMIT c =
    let bytes = c.args.bytes.now in
    let count = c.from_be_bytes-length.result in
    c.faulty.ensures
    ∙ sym
    (leading_frame-length bytes count c.if-bytes-lt4.false c.from_be_bytes-length.ensures
    ∙ frame_by_length-long bytes count c.if-length-ge-HEADER_LIMIT.true)

pub returns-then-bytes-start : goal.returns-then-bytes-start
returns-then-bytes-start c =
    let bytes = c.args.bytes.now in
    let count = c.from_be_bytes-length.result in
    sym
    (leading_frame-length bytes count c.if-bytes-lt4.false c.from_be_bytes-length.ensures
    ∙ frame_by_length-short bytes count c.if-length-ge-HEADER_LIMIT.false c.if-bytes-start.true)

pub returns-in-Some : goal.returns-in-Some
returns-in-Some c =
    let bytes = c.args.bytes.now in
    let count = c.from_be_bytes-length.result in
    c.framed.ensures
    ∙ sym
    (leading_frame-length bytes count c.if-bytes-lt4.false c.from_be_bytes-length.ensures
    ∙ frame_by_length-there bytes count _ c.if-length-ge-HEADER_LIMIT.false c.if-bytes-start.false
    (sym c.in-Some.is ∙ c.read_header.ensures))

pub returns-in-None : goal.returns-in-None
returns-in-None c =
    let bytes = c.args.bytes.now in
    let count = c.from_be_bytes-length.result in
    c.faulty-in-None.ensures
    ∙ sym
    (leading_frame-length bytes count c.if-bytes-lt4.false c.from_be_bytes-length.ensures
    ∙ frame_by_length-there bytes count _ c.if-length-ge-HEADER_LIMIT.false c.if-bytes-start.false
    (sym c.in-None.is ∙ c.read_header.ensures))
