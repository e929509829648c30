use Rattle.std.proofs.Common.{◌≡◌, ◌∙◌, ◌+◌, ◌%◌, ◌+ℤ◌, ap, of_z, rules, to_z, w32}
use Rattle.std.specs.Int.{int_wrap}
use Rattle.std.proofs.lemmas.Int.{wraps}
use Rattle.osm_wire.specs.Integers.{sint32}
use Rattle.osm_block_read.proofs.codes.next_sum32.Goals as goal

pub returns : goal.returns
returns c =
    let is : to_z w32 ((of_z w32 c.args.sum + of_z w32 c.sint32.result) % 4294967296)
    ≡ int_wrap w32 (c.args.sum +ℤ sint32 c.code_at.result) = search (rules, wraps) in
    is ∙ ap (λ code. int_wrap w32 (c.args.sum +ℤ sint32 code)) c.code_at.ensures
