use Rattle.osm_select.specs.Held.{held_sets}
use Rattle.osm_select.specs.Kept.{sets_of}
use Rattle.osm_select.proofs.HeldLemmas.{chosen_are}
use Rattle.osm_select.proofs.choosing.Choice.of.Goals as goal

pub returns : goal.returns
returns c = chosen_are c.args.clip c.args.items.now (sets_of c.in_ok-kept.kept) (sets_of c.in_ok-output.output)
    (held_sets c.args.area.now c.args.complete c.args.items.now) c.in_ok-kept.ensures c.in_ok-output.ensures
