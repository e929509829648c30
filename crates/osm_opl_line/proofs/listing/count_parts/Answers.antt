use Rattle.std.proofs.Common.{arith, ap, length}
use Rattle.std.proofs.lemmas.List.Splits.{length-slice_split}
use Rattle.memchr.proofs.lemmas.CallerLemmas.{length-places}
use Rattle.memchr.specs.Find.{is_byte}
use Rattle.osm_opl_line.proofs.listing.count_parts.Goals as goal

pub returns : goal.returns
returns c =
    omega (
      arith,
      c.count.ensures,
      ap length c.memchr_iter.ensures.value,
      length-places (is_byte 44) c.args.content.now,
      length-slice_split (is_byte 44) c.args.content.now,
    )
