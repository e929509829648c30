-- The files that machines write, in any form.
-- Here a file is the bytes of a whole stream; the code puts them piece by piece.
use Rattle.std.specs.Prelude.{ℕ, List, [], true, false}
use Rattle.osm_entity.specs.Growth.{broken_after}
use Rattle.osm_entity.specs.Meaning.{finish_after}
use Rattle.osm_entity.specs.Streams.{Stream}
use Rattle.osm_entity.specs.Tasks.{TaskMeaning}
use Rattle.osm_opl_line.specs.Writing.{opl_text}
use Rattle.osm_block_write.specs.declared.options.PbfOptions.{PbfOptions}
use Rattle.osm_made.specs.Summaries.{summary_text}
use Rattle.osm_pbf.specs.WrittenFile.{pbf_text}

-- the form of a file that is written: OPL lines, raw PBF with its options, or a summary
pub data FileForm : Type 0 where
  OplForm : FileForm
  PbfForm : (options : PbfOptions) → FileForm
  SummaryForm : FileForm

-- the bytes of a stream as a file of a form
abbrev pub form_text : FileForm → Stream → List ℕ
form_text OplForm s = opl_text s
form_text (PbfForm options) s = pbf_text options s
form_text SummaryForm s = summary_text s

-- the task that writes its one input as a file of a form
abbrev pub writer_task : FileForm → TaskMeaning
writer_task form = record {
  inputs = 1;
  outputs = 0;
  limit = 0;
  gives = λ bytes came f port. broken_after [];
  text = λ f. form_text form (f 0);
  finish = λ bytes came f. finish_after (f 0).end;
  turn = λ x port. true;
  holds = false;
}
