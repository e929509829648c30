-- A PBF writer: what it has of the run that is open, and for which items it stands.
-- Here a run and the items are lists; the code keeps no item, and of an entity what its block needs.
use Rattle.std.specs.Prelude.{◌≡◌, ℕ, ◌≤◌, List, Option}
use Rattle.osm_entity.specs.Entities.{EntityValue}
use Rattle.osm_entity.specs.Items.{ItemValue}
use Rattle.osm_entity.specs.declared.stream.End.TheVariants.{Broken}
use Rattle.osm_block_write.specs.Making.{Holds, MakerValue}
use Rattle.osm_block_write.specs.Runs.{greatest_run, total_weight}
use Rattle.osm_block_write.specs.declared.options.PbfOptions.{PbfOptions}
use Rattle.osm_pbf.specs.WrittenFile.{TookFile, runs_of_items}

-- a writer: how its file is written, and the maker of the block of its open run
pub record WriterValue : Type 0 where
  pub options : PbfOptions
  pub maker : MakerValue

-- what every writer keeps: its maker writes as it does, and stands for a run that isn't too heavy
pub record IsWriter (w : WriterValue) : Type 0 where
  pub alike : w.maker.options ≡ w.options
  pub run : List EntityValue
  pub holds : Holds w.maker run
  pub light : total_weight run ≤ greatest_run

-- a writer holds the run that is open behind these items
abbrev pub HoldsOpen : WriterValue → List ItemValue → Type 0
HoldsOpen w items = Holds w.maker (runs_of_items w.options items).opened

-- a writer stands for items: it holds their open run, and since it had taken `first` its sink took the PBF file of
-- their closed runs
pub record Wrote (first now : Option (List ℕ)) (w : WriterValue) (items : List ItemValue) : Type 0 where
  pub holds : HoldsOpen w items
  pub took : TookFile w.options first now (record { items = items; end = Broken })
