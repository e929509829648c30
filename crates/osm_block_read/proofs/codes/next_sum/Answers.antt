use Rattle.std.proofs.Common.{◌≡◌, ◌∙◌, ◌+◌, ◌%◌, ◌+ℤ◌, ap, of_z, rules, to_z, w64}
use Rattle.std.specs.Int.{int_wrap}
use Rattle.std.proofs.lemmas.Int.{wraps}
use Rattle.osm_wire.specs.Integers.{unzigzagged}
use Rattle.osm_block_read.proofs.codes.next_sum.Goals as goal

pub returns : goal.returns
returns c =
    let is : to_z w64 ((of_z w64 c.args.sum + of_z w64 c.unzigzag.result) % 18446744073709551616)
    ≡ int_wrap w64 (c.args.sum +ℤ unzigzagged c.code_at.result) = search (rules, wraps) in
    is ∙ ap (λ code. int_wrap w64 (c.args.sum +ℤ unzigzagged code)) c.code_at.ensures
