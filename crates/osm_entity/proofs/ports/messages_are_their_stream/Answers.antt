use Rattle.osm_entity.proofs.PortLemmas.{stream_of-fixed, fixed_all}
use Rattle.osm_entity.proofs.ports.messages_are_their_stream.Goals as goal

pub returns : goal.returns
returns c = record { stream = stream_of-fixed; messages = fixed_all }
