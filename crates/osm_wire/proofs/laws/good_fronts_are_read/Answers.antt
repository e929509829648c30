use Rattle.osm_wire.specs.Messages.{SpellsField, leading_field}
use Rattle.osm_wire.specs.Refusals.{RefusesField, RefusesNumber}
use Rattle.osm_wire.specs.Varints.{SpellsNumber, leading_number}
use Rattle.osm_wire.proofs.FieldLemmas.{fields_read, numbers_read}
use Rattle.osm_wire.proofs.PiecesLemmas.{pieces_of-good, pieces_of-spelled}
use Rattle.osm_wire.proofs.laws.good_fronts_are_read.Goals as goal

pub returns-clause-good : goal.returns-clause-good
returns-clause-good c = pieces_of-good leading_field SpellsField RefusesField fields_read

pub returns-clause-only : goal.returns-clause-only
returns-clause-only c = λ before rest fields fault.
    pieces_of-spelled leading_field SpellsField RefusesField fields_read fields before rest fault

pub returns-clause-packed : goal.returns-clause-packed
returns-clause-packed c = pieces_of-good leading_number SpellsNumber RefusesNumber numbers_read
