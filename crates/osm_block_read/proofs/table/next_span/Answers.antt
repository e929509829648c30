use Rattle.std.proofs.Common.{◌∙◌, ◌-◌, length, ap, refl, arith}
use Rattle.osm_wire.specs.Seen.{field_seen}
use Rattle.osm_block_read.proofs.TableLemmas.{cut-at, entries_left-other, pieces-at, next-span, rest-more}
use Rattle.osm_block_read.proofs.table.next_span.Goals as goal

pub returns-in-Ok-clause-some : goal.returns-in-Ok-clause-some
returns-in-Ok-clause-some c =
    let old = c.loop-field.fields in
    let new = c.next.new.self in
    let cut = cut-at old new c.in-Some-Ok.field-0 c.in-Some-Ok.field c.in-Some-Ok.field-0-is c.in-Some-Ok.ensures.range
    in
    let pieces = pieces-at old new c.in-Some-Ok.field-0 c.in-Some-Ok.field c.in-Some-Ok.field-0-is
    c.in-Some-Ok.ensures.field in
    let found =
    next-span c.args.bytes.now old new cut.0 c.in-Ok.content.now c.args.number (field_seen c.in-Some-Ok.field) _
    c.loop-field.invariant.rest cut.1 cut.2 pieces c.if-field-number.false c.in-Ok.ensures.ok
    c.in-Some-Ok.ensures.shorter
    (ap (λ rest. length c.args.bytes.now - length rest) c.rest.ensures) refl in
    record {
      within = found.within;
      entries = c.loop-field.invariant.entries ∙ found.entries;
      fewer = omega (arith, found.fewer, c.loop-field.invariant.fewer);
    }

pub returns-in-Ok-clause-rest : goal.returns-in-Ok-clause-rest
returns-in-Ok-clause-rest c =
    let old = c.loop-field.fields in
    let new = c.next.new.self in
    let cut = cut-at old new c.in-Some-Ok.field-0 c.in-Some-Ok.field c.in-Some-Ok.field-0-is c.in-Some-Ok.ensures.range
    in
    let pieces = pieces-at old new c.in-Some-Ok.field-0 c.in-Some-Ok.field c.in-Some-Ok.field-0-is
    c.in-Some-Ok.ensures.field in
    rest-more c.args.bytes.now old new cut.0 (field_seen c.in-Some-Ok.field) c.loop-field.invariant.rest cut.1 pieces

pub returns-in-Err-clause-rest : goal.returns-in-Err-clause-rest
returns-in-Err-clause-rest c =
    let old = c.loop-field.fields in
    let new = c.next.new.self in
    let cut = cut-at old new c.in-Some-Ok.field-0 c.in-Some-Ok.field c.in-Some-Ok.field-0-is c.in-Some-Ok.ensures.range
    in
    let pieces = pieces-at old new c.in-Some-Ok.field-0 c.in-Some-Ok.field c.in-Some-Ok.field-0-is
    c.in-Some-Ok.ensures.field in
    rest-more c.args.bytes.now old new cut.0 (field_seen c.in-Some-Ok.field) c.loop-field.invariant.rest cut.1 pieces

pub loop-field-preserved : goal.loop-field-preserved
loop-field-preserved c =
    let old = c.loop-field.fields in
    let new = c.next.new.self in
    let cut = cut-at old new c.in-Some-Ok.field-0 c.in-Some-Ok.field c.in-Some-Ok.field-0-is c.in-Some-Ok.ensures.range
    in
    let pieces = pieces-at old new c.in-Some-Ok.field-0 c.in-Some-Ok.field c.in-Some-Ok.field-0-is
    c.in-Some-Ok.ensures.field in
    record {
      rest = rest-more c.args.bytes.now old new cut.0 (field_seen c.in-Some-Ok.field) c.loop-field.invariant.rest cut.1
          pieces;
      entries =
          c.loop-field.invariant.entries
          ∙ entries_left-other c.args.number old new (field_seen c.in-Some-Ok.field) pieces c.if-field-number.true;
      fewer = omega (arith, c.in-Some-Ok.ensures.shorter, c.loop-field.invariant.fewer);
    }
