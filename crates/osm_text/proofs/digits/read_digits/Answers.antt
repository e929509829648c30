use Rattle.std.proofs.Common.{◌∙◌, sym, arith}
use Rattle.osm_text.proofs.DigitsLemmas.{short_digits, digits-size}
use Rattle.osm_text.proofs.digits.read_digits.Goals as goal

pub returns-clause-value : goal.returns-clause-value
returns-clause-value c =
    c.size_of_few.ensures ∙ sym (short_digits 18 c.args.bytes.now (omega arith) (omega arith))
    ∙ short_digits c.args.most c.args.bytes.now (omega arith) (omega arith)

pub returns-clause-size : goal.returns-clause-size
returns-clause-size c =
    digits-size c.args.most c.args.bytes.now c.size_of_few.result (omega arith)
    (c.size_of_few.ensures ∙ sym (short_digits 18 c.args.bytes.now (omega arith) (omega arith))
    ∙ short_digits c.args.most c.args.bytes.now (omega arith) (omega arith))
