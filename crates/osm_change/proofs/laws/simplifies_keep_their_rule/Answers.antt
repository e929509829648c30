use Rattle.osm_change.proofs.SimplifyMachine.{simplify_gives_at_end, simplify_is_lawful, simplify_keeps}
use Rattle.osm_change.proofs.laws.simplifies_keep_their_rule.Goals as goal

pub returns : goal.returns
returns c = record { keeps = simplify_keeps; at_end = simplify_gives_at_end; lawful = simplify_is_lawful }
