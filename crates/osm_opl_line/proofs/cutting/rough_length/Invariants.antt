use Rattle.std.proofs.Common.{◌≤◌, length}
use Rattle.osm_opl_line.specs.Bytes.{ArePlain}
use Rattle.osm_opl_line.proofs.cutting.rough_length.Given as goal

abbrev pub invariant-loop-end : goal.invariant-loop-end
invariant-loop-end l = record { within : l.end ≤ length l.line; plain : ArePlain l.line l.end (length l.line) }

abbrev pub decreases-loop-end : goal.decreases-loop-end
decreases-loop-end l = l.end
