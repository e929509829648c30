use Rattle.std.proofs.Common.{◌≡◌, ◌-◌, ◌∙◌, ap, drop, length, sym, take}
use Rattle.std.proofs.lemmas.Bool.{eqb-true}
use Rattle.std.proofs.lemmas.List.{take_rest}
use Rattle.osm_opl_line.specs.Bytes.{byte_fault}
use Rattle.osm_opl_line.proofs.BytesLemmas.{fault-before, fault-behind, fault-none}
use Rattle.osm_opl_line.proofs.cutting.byte_fault.Goals as goal

pub returns-then-is_empty : goal.returns-then-is_empty
returns-then-is_empty c =
    let line = c.args.line.now in
    let n = c.plain_length.result in
    let rest = take (length line - n) (drop n line) in
    let whole : rest ≡ drop n line = take_rest line n in
    fault-none line n c.plain_length.ensures.within c.plain_length.ensures.plain
    (ap length (sym whole) ∙ eqb-true (length rest) 0 (sym c.if-is_empty.ensures))

pub returns : goal.returns
returns c =
    let line = c.args.line.now in
    let n = c.plain_length.result in
    let rest = take (length line - n) (drop n line) in
    let whole : rest ≡ drop n line = take_rest line n in
    c.rest_fault.ensures
    ∙ fault-before rest c.rough_length.result c.rough_length.ensures.within c.rough_length.ensures.plain
    ∙ ap byte_fault whole
    ∙ fault-behind line n c.plain_length.ensures.within c.plain_length.ensures.plain
