use Rattle.std.proofs.Common.{arith}
use Rattle.osm_text.proofs.SplitLemmas.{IsUtf8-parts}
use Rattle.osm_text.proofs.UnescapeLemmas.{unescaped-step, utf8-grown}
use Rattle.osm_text.proofs.unescaping.unescaped_bytes.Goals as goal

pub push_escaped-requires : goal.push_escaped-requires
push_escaped-requires c =
    (IsUtf8-parts 37 c.loop-plain.rest.now c.in-Some.plain.now c.in-Some.after.now (omega arith)
    c.in-Some.ensures.some c.loop-plain.invariant.more).1

pub loop-plain-preserved : goal.loop-plain-preserved
loop-plain-preserved c =
    let parts = IsUtf8-parts 37 c.loop-plain.rest.now c.in-Some.plain.now c.in-Some.after.now (omega arith)
    c.in-Some.ensures.some c.loop-plain.invariant.more in
    record {
      read =
          unescaped-step c.args.bytes.now c.loop-plain.out c.loop-plain.rest.now c.in-Some.plain.now c.in-Some.after.now
          c.append.new.self c.push_escaped.new.out c.in_ok-rest.rest.now c.loop-plain.invariant.read
          c.in-Some.ensures.some c.in_ok-append.ensures.ok c.in_ok-rest.ensures.value;
      text =
          c.in_ok-rest.ensures.utf8.0
          (utf8-grown c.loop-plain.out c.in-Some.plain.now c.append.new.self c.in_ok-append.ensures.ok
          c.loop-plain.invariant.text parts.0);
      more = c.in_ok-rest.ensures.utf8.1;
    }

pub returns-clause-utf8 : goal.returns-clause-utf8
returns-clause-utf8 c =
    utf8-grown c.loop-plain.out c.loop-plain.rest.now c.append-2.new.self c.in_ok-append-2.ensures.ok
    c.loop-plain.invariant.text c.loop-plain.invariant.more
