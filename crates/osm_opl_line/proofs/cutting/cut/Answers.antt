use Rattle.std.proofs.Common.{◌∙◌, sym}
use Rattle.std.proofs.lemmas.Str.{IsUtf8-from_is_utf8}
use Rattle.osm_opl_line.specs.Line.{Skipped}
use Rattle.osm_opl_line.proofs.BytesLemmas.{said-free}
use Rattle.osm_opl_line.proofs.CuttingLemmas.{opl_line-long, opl_line-hash, opl_line-empty, opl_line-fault, opl_line-said}
use Rattle.osm_opl_line.proofs.cutting.cut.Goals as goal

pub returns-then-line-gt-LONGEST_LINE-clause-value : goal.returns-then-line-gt-LONGEST_LINE-clause-value
returns-then-line-gt-LONGEST_LINE-clause-value c =
    sym (opl_line-long c.args.flow c.args.line.now c.if-line-gt-LONGEST_LINE.true)

pub returns-then-begins_with_hash-clause-value : goal.returns-then-begins_with_hash-clause-value
returns-then-begins_with_hash-clause-value c =
    sym (opl_line-hash c.args.flow c.args.line.now c.if-line-gt-LONGEST_LINE.false (sym c.if-begins_with_hash.ensures))

pub returns-in_default-clause-value : goal.returns-in_default-clause-value
returns-in_default-clause-value c =
    sym
    (opl_line-empty c.args.flow c.args.line.now c.if-line-gt-LONGEST_LINE.false (sym c.if-begins_with_hash.ensures)
    c.in_default.ensures.none)

pub returns-in-Some-byte_fault-clause-value : goal.returns-in-Some-byte_fault-clause-value
returns-in-Some-byte_fault-clause-value c =
    sym
    (opl_line-fault c.args.flow c.args.line.now c.in-Some-byte_fault.cause c.if-line-gt-LONGEST_LINE.false
    (sym c.if-begins_with_hash.ensures) c.in-Some.ensures.some c.in-Some-byte_fault.ensures)

pub cut_pieces-requires-clause-utf8 : goal.cut_pieces-requires-clause-utf8
cut_pieces-requires-clause-utf8 c = λ ascii.
    (c.in-Some.ensures.utf8 (IsUtf8-from_is_utf8 c.args.line.now (said-free c.args.line.now Skipped c.in_default-byte_fault.ensures).0) ascii).1

pub returns-in-Ok-clause-value : goal.returns-in-Ok-clause-value
returns-in-Ok-clause-value c =
    sym
    (opl_line-said c.args.flow c.args.line.now c.if-line-gt-LONGEST_LINE.false (sym c.if-begins_with_hash.ensures)
    c.in-Some.ensures.some c.in_default-byte_fault.ensures ∙ c.in-Ok.ensures.good)

pub returns-in-Err-clause-value : goal.returns-in-Err-clause-value
returns-in-Err-clause-value c =
    sym
    (opl_line-said c.args.flow c.args.line.now c.if-line-gt-LONGEST_LINE.false (sym c.if-begins_with_hash.ensures)
    c.in-Some.ensures.some c.in_default-byte_fault.ensures ∙ c.in-Err.ensures.refused)
