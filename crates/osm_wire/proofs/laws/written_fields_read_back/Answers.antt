use Rattle.osm_wire.proofs.WrittenLemmas.{packed-pieces, written_field-spells, written_message-fields}
use Rattle.osm_wire.proofs.laws.written_fields_read_back.Goals as goal

pub returns-clause-field : goal.returns-clause-field
returns-clause-field c = written_field-spells

pub returns-clause-message : goal.returns-clause-message
returns-clause-message c = written_message-fields

pub returns-clause-packed : goal.returns-clause-packed
returns-clause-packed c = packed-pieces
