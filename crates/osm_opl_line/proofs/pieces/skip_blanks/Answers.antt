use Rattle.std.proofs.Common.{◌≡◌, ◌∙◌, true, get_or, sym, arith}
use Rattle.osm_opl_line.specs.Fields.{is_blank}
use Rattle.osm_opl_line.proofs.PieceLemmas.{pieces-skip, IsUtf8-after_blank}
use Rattle.osm_opl_line.proofs.pieces.skip_blanks.Goals as goal

pub loop-at-preserved : goal.loop-at-preserved
loop-at-preserved c =
    let blank : is_blank (get_or c.args.bytes.now c.loop-at.at 0) ≡ true =
    sym c.is_space.ensures ∙ c.if-is_space.true in
    record {
      same = sym (pieces-skip c.args.bytes.now c.loop-at.at c.loop-at-test.true blank) ∙ c.loop-at.invariant.same;
      within = omega arith;
      utf8 = IsUtf8-after_blank c.args.bytes.now c.loop-at.at c.loop-at-test.true blank;
    }
