use Rattle.std.proofs.Common.{◌∙◌, sym, arith}
use Rattle.osm_text.proofs.DigitsLemmas.{short_digits}
use Rattle.osm_text.proofs.digits.size_of_digits.Goals as goal

pub returns : goal.returns
returns c = c.size_of_few.ensures ∙ sym (short_digits 18 c.args.bytes.now (omega arith) (omega arith))
