use Rattle.std.proofs.Common.{length}
use Rattle.osm_opl_line.proofs.MadeListLemmas.{IsMadeTo}
use Rattle.osm_opl_line.proofs.listing.make_list.Given as goal

abbrev pub invariant-loop-part : goal.invariant-loop-part
invariant-loop-part g l = IsMadeTo g.T.Part.weight g.T.Part.says l.content l.list l.total l.rest

abbrev pub decreases-loop-part : goal.decreases-loop-part
decreases-loop-part g l = length l.rest
