use Rattle.std.proofs.Common.{ℕ, List, ◌≤◌, length}
use Rattle.std.specs.Str.{IsUtf8}
use Rattle.osm_opl_line.specs.Draft.{IsRead}
use Rattle.osm_opl_line.proofs.DraftLemmas.{IsDraft}
use Rattle.osm_opl_line.specs.Fields.{pieces}
use Rattle.osm_opl_line.specs.Line.{longest_line}
use Rattle.osm_opl_line.proofs.cutting.take_fields.Given as goal

abbrev pub invariant-loop-letter : goal.invariant-loop-letter
invariant-loop-letter l = record {
  drafted : (earlier : List ℕ) × IsDraft l.kind (pieces l.bytes) earlier (pieces l.rest) l.draft;
  read : IsRead l.draft;
  short : length l.rest ≤ longest_line;
  utf8 : IsUtf8 l.rest;
}

abbrev pub decreases-loop-letter : goal.decreases-loop-letter
decreases-loop-letter l = length l.rest
