use Rattle.std.proofs.Common.{arith}
use Rattle.osm_text.proofs.UnescapedLengthLemmas.{length-parts, text_length-step}
use Rattle.osm_text.proofs.unescaping.unescaped_length.Goals as goal

pub loop-plain-preserved : goal.loop-plain-preserved
loop-plain-preserved c = record {
  read =
      text_length-step c.args.bytes.now c.loop-plain.rest.now c.in-Some.plain.now c.in-Some.after.now
      c.in_ok-c.more.now c.loop-plain.total c.in_ok-c.c c.len_utf8.result c.loop-plain.invariant.read
      c.in-Some.ensures.some c.in_ok-c.ensures.some c.len_utf8.ensures.value;
  shorter =
      omega (
        arith,
        length-parts c.loop-plain.rest.now c.in-Some.plain.now c.in-Some.after.now c.in-Some.ensures.some,
        c.in_ok-c.ensures.room,
        c.len_utf8.ensures.value,
        c.loop-plain.invariant.shorter,
      );
}
