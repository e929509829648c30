use Rattle.std.proofs.Common.{◌++◌, ap, sym, ◌∙◌, append-nil}
use Rattle.osm_wire.specs.Written.{written_message}
use Rattle.osm_block_write.proofs.PackingLemmas.{empty_from_length, packed_field-none}
use Rattle.osm_block_write.proofs.packing.put_packed.Goals as goal

pub returns-then-is_empty : goal.returns-then-is_empty
returns-then-is_empty c = record {
  ok = λ ns is.
      let nothing = empty_from_length c.args.numbers.now c.if-is_empty.ensures in
      sym (append-nil c.args.out.now)
      ∙ ap (λ fields. c.args.out.now ++ written_message fields)
      (sym (packed_field-none c.args.number ns (sym is ∙ nothing)));
}
