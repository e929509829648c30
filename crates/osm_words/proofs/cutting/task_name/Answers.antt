use Rattle.osm_words.proofs.CutLemmas.{name-IsUtf8}
use Rattle.osm_words.proofs.cutting.task_name.Goals as goal

pub from_utf8-requires : goal.from_utf8-requires
from_utf8-requires c =
    rw c.as_slice-bytes.ensures.value
    (name-IsUtf8 c.args.word.now c.requires.begins c.requires.long c.as_slice-bytes.ensures.utf8)
