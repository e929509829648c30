-- Writers of files in any form: for which items they stand.
-- Here the items are one list; the code keeps none of them.
use Rattle.std.specs.Prelude.{◌≡◌, ℕ, List, [], Bool, true, false, Option}
use Rattle.osm_entity.specs.Items.{ItemValue}
use Rattle.osm_opl.specs.Written.{TookItems}
use Rattle.osm_made.specs.Summaries.{StandsForItems}
use Rattle.osm_pbf.specs.Writer.{HoldsOpen, WriterValue, Wrote}
use Rattle.osm_machine.specs.Written.{FileForm, OplForm, PbfForm, SummaryForm}
use Rattle.osm_machine.specs.declared.writer.FileWriter.{FileWriter}
use Rattle.osm_machine.specs.declared.writer.FileWriter.TheVariants.{Opl, Pbf, Summary}

-- the form in which a writer writes
abbrev pub form_of : FileWriter → FileForm
form_of (Opl writer) = OplForm
form_of (Pbf file) = PbfForm file.writer.options
form_of (Summary summary) = SummaryForm

-- a PBF file that isn't begun has no items, and its sink took nothing of it; then it stands as its writer
abbrev pub PbfWrote : Bool → WriterValue → (first now : Option (List ℕ)) → List ItemValue → Type 0
PbfWrote true writer first now items = Wrote first now writer items
PbfWrote false writer first now items = (items ≡ []) × (now ≡ first) × HoldsOpen writer []

-- a writer stands for items: since it had taken `first`, its sink took what is written of them before their end
abbrev pub FileWrote : FileWriter → (first now : Option (List ℕ)) → List ItemValue → Type 0
FileWrote (Opl writer) first now items = TookItems first now items
FileWrote (Pbf file) first now items = PbfWrote file.begun file.writer first now items
FileWrote (Summary summary) first now items = (now ≡ first) × StandsForItems summary items
