use Rattle.std.proofs.Common.{◌∙◌, ◌<◌, ◌++◌, length, take, ap, sym, refl, arith}
use Rattle.std.proofs.lemmas.List.{take-append-drop, take_rest}
use Rattle.osm_wire.specs.Pieces.{piece_before}
use Rattle.osm_wire.specs.Messages.{good_front, leading_field}
use Rattle.osm_wire.specs.Seen.{field_seen}
use Rattle.osm_wire.proofs.FieldLemmas.{leading_field-read}
use Rattle.osm_wire.proofs.PiecesLemmas.{pieces_of-next, pieces_of-refused}
use Rattle.osm_wire.proofs.cutting.Fields.next.Goals as goal

pub returns-in-Ok-clause-field : goal.returns-in-Ok-clause-field
returns-in-Ok-clause-field c =
    let some : 0 < length c.self.inside.rest.now = grind (arith, c.if-is_empty.ensures) in
    ap (λ bytes. good_front bytes) (sym c.self.view_is)
    ∙ pieces_of-next leading_field c.self.inside.rest.now (field_seen c.in-Ok.field) c.in-Ok.size some
    c.in-Ok.ensures.within.0
    (sym c.in-Ok.ensures.value)
    ∙ ap (λ bytes. piece_before (field_seen c.in-Ok.field) (good_front bytes))
    (sym (take_rest c.self.inside.rest.now c.in-Ok.size))

pub returns-in-Ok-clause-range : goal.returns-in-Ok-clause-range
returns-in-Ok-clause-range c =
    let read =
    leading_field-read c.self.inside.rest.now (field_seen c.in-Ok.field) c.in-Ok.size (sym c.in-Ok.ensures.value) in (
      take c.in-Ok.size c.self.inside.rest.now,
      sym c.self.view_is ∙ sym (take-append-drop c.in-Ok.size c.self.inside.rest.now)
          ∙ ap (λ bytes. take c.in-Ok.size c.self.inside.rest.now ++ bytes)
          (sym (take_rest c.self.inside.rest.now c.in-Ok.size)),
      read.1,
    )

pub returns-in-Err-clause-error : goal.returns-in-Err-clause-error
returns-in-Err-clause-error c =
    let some : 0 < length c.self.inside.rest.now = grind (arith, c.if-is_empty.ensures) in (
      ap (λ bytes. good_front bytes) (sym c.self.view_is)
          ∙ pieces_of-refused leading_field c.self.inside.rest.now c.in-Err.error some (sym c.in-Err.ensures.value),
      refl,
    )
