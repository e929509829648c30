use Rattle.std.proofs.Common.{arith}
use Rattle.osm_text.proofs.FormLemmas.{form-date, form-length}
use Rattle.osm_text.proofs.time.year_of.Goals as goal

pub two_digits-requires-clause-digits : goal.two_digits-requires-clause-digits
two_digits-requires-clause-digits c = form-date c.args.bytes.now c.requires 0 (omega arith)

pub two_digits-requires-2-clause-within : goal.two_digits-requires-2-clause-within
two_digits-requires-2-clause-within c = omega (arith, form-length c.args.bytes.now c.requires)

pub two_digits-requires-2-clause-digits : goal.two_digits-requires-2-clause-digits
two_digits-requires-2-clause-digits c = form-date c.args.bytes.now c.requires 1 (omega arith)
