use Rattle.std.proofs.Common.{◌≡◌, ◌+◌, ◌-◌, ◌^◌, ◌%◌, ◌++◌, drop, map, rules, sym, ap, subst, ◌∙◌, to_z, of_z}
use Rattle.std.specs.Prelude.{pos, ◌-ℤ◌, FitsSigned}
use Rattle.std.specs.Int.{w32, w64, int_wrap}
use Rattle.std.proofs.lemmas.Int.{to_z-of_z, wraps}
use Rattle.osm_wire.specs.Integers.{zigzagged}
use Rattle.osm_wire.specs.Written.{shortest_varint}
use Rattle.osm_block_write.proofs.ColumnsLemmas.{coming, coming-next}
use Rattle.osm_block_write.proofs.columns.append_small_deltas.Goals as goal

pub loop-item-preserved : goal.loop-item-preserved
unfolding int_wrap
loop-item-preserved g c =
    let number = c.number-number.result in
    let bits = c.loop-item.before-bits in
    let column = g.C.SmallColumn.number_in c.args.column.now in
    let out = c.append_varint.new.out in
    let total = c.args.out.now ++ coming w32 (pos 0) (map column c.args.items.now) in
    let fits : FitsSigned w32 number = search rules in
    let wrapped : to_z w32 ((of_z w32 number + (2 ^ 32 - bits)) % 2 ^ 32) ≡ int_wrap w32 (number -ℤ to_z w32 bits) =
    search (rules, wraps) in
    let wide : FitsSigned w64 c.from.result = search rules in
    let code = c.zigzag.ensures ∙ ap zigzagged (to_z-of_z w64 c.from.result wide ∙ c.from.ensures ∙ wrapped) in
    subst (λ b. out ++ coming w32 b (map column (drop (c.loop-item.item-index + 1) c.args.items.now)) ≡ total)
    (sym (to_z-of_z w32 number fits))
    (coming-next w32 column c.args.items.now c.loop-item.item-index c.item-item.result (to_z w32 bits) number
    c.loop-item.out out total c.loop-item-test.true c.item-item.is c.number-number.ensures
    (c.in_ok-append_varint.ensures.ok ∙ ap (λ n. c.loop-item.out ++ shortest_varint n) code)
    c.loop-item.invariant)
