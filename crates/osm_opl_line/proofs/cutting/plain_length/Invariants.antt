use Rattle.std.proofs.Common.{◌<◌, ◌-◌, length}
use Rattle.osm_opl_line.specs.Bytes.{ArePlain}
use Rattle.osm_opl_line.proofs.cutting.plain_length.Given as goal

abbrev pub invariant-loop-at : goal.invariant-loop-at
invariant-loop-at l = record { within : l.at < length l.line; plain : ArePlain l.line 0 l.at }

abbrev pub decreases-loop-at : goal.decreases-loop-at
decreases-loop-at l = length l.line - l.at
