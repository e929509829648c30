-- The bytes of a PBF file, as it is written: the frame of its header, and then one frame for each run of its entities.
-- Here the whole stream is cut into its runs; the code puts a frame whenever it closes a run.
use Rattle.std.specs.Prelude.{◌≡◌, ℕ, List, ◌++◌, map, Option}
use Rattle.std.specs.Io.KnownBytes.{append_known}
use Rattle.std.specs.List.{flat_map}
use Rattle.osm_entity.specs.Entities.{EntityValue}
use Rattle.osm_entity.specs.Items.{ItemValue}
use Rattle.osm_entity.specs.Streams.{Stream}
use Rattle.osm_host.specs.Puts.{TakesPrefix}
use Rattle.osm_blob.specs.Written.{written_frame}
use Rattle.osm_blob.specs.declared.messages.What.TheVariants.{Header, Block}
use Rattle.osm_block_write.specs.Block.{header_bytes, run_bytes}
use Rattle.osm_block_write.specs.Runs.{Runs, runs_of, written_runs}
use Rattle.osm_block_write.specs.declared.options.PbfOptions.{PbfOptions}

-- the entities of items
abbrev pub entities_of : List ItemValue → List EntityValue
entities_of items = map (λ i. i.entity) items

-- the runs of the entities of items, of which the last is open
abbrev pub runs_of_items : PbfOptions → List ItemValue → Runs
runs_of_items options items = runs_of options.batchlimit (entities_of items)

-- the frame of the header of a file
abbrev pub header_frame : PbfOptions → List ℕ
header_frame options = written_frame Header (header_bytes options)

-- the frame of a run
abbrev pub run_frame : PbfOptions → List EntityValue → List ℕ
run_frame options run = written_frame Block (run_bytes options run)

-- the frames of runs, one after the other
abbrev pub run_frames : PbfOptions → List (List EntityValue) → List ℕ
run_frames options runs = flat_map (run_frame options) runs

-- the PBF file of a stream: the frame of its header, and then those of its runs; where the stream broke off, the last
-- run is left out
abbrev pub pbf_text : PbfOptions → Stream → List ℕ
pbf_text options s = header_frame options ++ run_frames options (written_runs (runs_of_items options s.items) s.end)

-- since it had taken `first`, a sink took the PBF file of this stream
abbrev pub TookFile : PbfOptions → Option (List ℕ) → Option (List ℕ) → Stream → Type 0
TookFile options first now s = now ≡ append_known first (pbf_text options s)

-- since it had taken `first`, a sink took a prefix of the PBF file of this stream
abbrev pub TookPrefix : PbfOptions → Option (List ℕ) → Option (List ℕ) → Stream → Type 0
TookPrefix options first now s = TakesPrefix (pbf_text options s) first now
