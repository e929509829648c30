use Rattle.std.proofs.Common.{subst, sym}
use Rattle.std.specs.Str.{IsUtf8}
use Rattle.osm_words.proofs.CutLemmas.{IsUtf8-cut}
use Rattle.osm_words.proofs.cutting.option_of.Goals as goal

pub from_utf8-requires : goal.from_utf8-requires
from_utf8-requires c =
    (IsUtf8-cut c.as_slice-bytes.result.now c.in-Some.at c.in-Some.ensures (subst IsUtf8
    (sym c.as_slice-bytes.ensures.value) c.as_slice-bytes.ensures.utf8)).0

pub from_utf8-requires-in-Some : goal.from_utf8-requires-in-Some
from_utf8-requires-in-Some c =
    (IsUtf8-cut c.as_slice-bytes.result.now c.in-Some.at c.in-Some.ensures (subst IsUtf8
    (sym c.as_slice-bytes.ensures.value) c.as_slice-bytes.ensures.utf8)).1
