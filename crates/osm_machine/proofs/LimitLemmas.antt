-- The task of each kind reads few bytes of its source.
use Rattle.std.proofs.Common.{◌≤◌, Option, arith}
use Rattle.osm_area.specs.declared.area.Area.{Area}
use Rattle.osm_tasks.specs.declared.kind.TaskKind.{TaskKind}
use Rattle.osm_tasks.specs.declared.kind.TaskKind.TheVariants.{ReadPbf, ReadOpl, ReadOplChange, ReadEmpty, ReadMade, WritePbf, WriteOpl, WriteOplChange, WriteNull, WriteSummary, Merge, MergeChange, AppendChange, ApplyChange, SimplifyChange, Tee, Buffer, Spool, BoundingBox, BoundingPolygon, TagFilter, UsedNode, UsedWay, Sort, SortChange}
use Rattle.osm_machine.specs.TaskMeanings.{kind_meaning, reading_limit}

pub kind_limit : (kind : TaskKind) (area : Option Area) → (kind_meaning kind area).limit ≤ reading_limit
kind_limit (ReadPbf file) area = omega arith
kind_limit (ReadOpl file) area = omega arith
kind_limit (ReadOplChange file) area = omega arith
kind_limit ReadEmpty area = omega arith
kind_limit (ReadMade count seed) area = omega arith
kind_limit (WritePbf file batchlimit usedense omitmetadata granularity) area = omega arith
kind_limit (WriteOpl file) area = omega arith
kind_limit (WriteOplChange file) area = omega arith
kind_limit WriteNull area = omega arith
kind_limit (WriteSummary file) area = omega arith
kind_limit (Merge resolution) area = omega arith
kind_limit (MergeChange resolution) area = omega arith
kind_limit AppendChange area = omega arith
kind_limit ApplyChange area = omega arith
kind_limit SimplifyChange area = omega arith
kind_limit (Tee flow outputs) area = omega arith
kind_limit (Buffer flow capacity) area = omega arith
kind_limit (Spool flow) area = omega arith
kind_limit (TagFilter accept kind tests) area = omega arith
kind_limit UsedNode area = omega arith
kind_limit UsedWay area = omega arith
kind_limit Sort area = omega arith
kind_limit SortChange area = omega arith
kind_limit (BoundingBox left right top bottom options) area = omega arith
kind_limit (BoundingPolygon file options) area = omega arith
