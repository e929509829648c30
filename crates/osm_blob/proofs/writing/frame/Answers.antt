use Rattle.std.proofs.Common.{◌≡◌, ◌+◌, IfOk, length, ap, arith, ◌∙◌, subst, sym}
use Rattle.osm_blob.proofs.WrittenLemmas.{written_frame-parts}
use Rattle.osm_blob.proofs.writing.frame.Goals as goal

pub returns : goal.returns
returns c =
    let raw = c.args.raw.now in
    let header = c.as_slice.result.now in
    let start = c.as_slice-2.result.now in
    let long : c.len.result ≡ length start = c.len.ensures ∙ ap length (sym c.as_slice-2.ensures) in
    subst (λ bytes. IfOk c.joined.result (λ frame. frame ≡ bytes))
    (written_frame-parts c.args.what raw start header (c.len.result + length raw)
    (c.as_slice-2.ensures ∙ c.in_ok-start.ensures.bytes) (omega (arith, long))
    (c.as_slice.ensures ∙ c.in_ok-header.ensures.bytes)) c.joined.ensures
