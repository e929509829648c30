use Rattle.osm_text.proofs.NanoLemmas.{nano_size-short_read}
use Rattle.osm_text.proofs.degrees.size_of_short.Goals as goal

pub returns-clause-value : goal.returns-clause-value
returns-clause-value c =
    nano_size-short_read c.args.unsigned.now c.after_position.result.now c.position_of_point-at.result c.nanos_of.result
    c.position_of_point-at.ensures.value c.after_position.ensures c.nanos_of.ensures.value c.nanos_of.ensures.before
    c.nanos_of.ensures.after c.nanos_of.ensures.places c.nanos_of.ensures.size
