use Rattle.osm_opl_line.proofs.FileBackLemmas.{opl_reading-opl_text}
use Rattle.osm_opl_line.proofs.ItemBackLemmas.{TextsBack}
use Rattle.osm_opl_line.proofs.laws.files_read_back.Goals as goal

pub returns : goal.returns
returns c =
    let laws : TextsBack = record {
      whole_back = c.whole_reads_back.ensures;
      nano_back = c.nano_reads_back.ensures;
      time_back = c.time_reads_back.ensures;
      escaped_back = c.escaped_reads_back.ensures;
    } in
    opl_reading-opl_text laws
