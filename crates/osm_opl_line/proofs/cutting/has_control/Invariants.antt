use Rattle.std.proofs.Common.{◌≡◌, take}
use Rattle.std.specs.List.{list_any}
use Rattle.osm_opl_line.specs.Line.{is_control}
use Rattle.osm_opl_line.proofs.cutting.has_control.Given as goal

abbrev pub invariant-loop-byte : goal.invariant-loop-byte
invariant-loop-byte l = l.found ≡ list_any is_control (take l.byte-index l.line)
