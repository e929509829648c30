use Rattle.std.proofs.Common.{sym, arith}
use Rattle.osm_wire.proofs.VarintLemmas.{leading_number-one}
use Rattle.osm_wire.proofs.varints.packed_varint.Goals as goal

pub returns-in-len1-up-clause-value : goal.returns-in-len1-up-clause-value
returns-in-len1-up-clause-value c = sym (leading_number-one c.args.bytes.now (omega arith) c.if-byte-lt128.true)
