use Rattle.osm_machine.proofs.EmptyingLemmas.{dropping_takes}
use Rattle.osm_machine.proofs.emptying.Dropping.accept.Goals as goal

pub returns : goal.returns
returns c = record {
  takes = dropping_takes c.args.self.now c.args.message c.args.port _ c.end_in-self.ensures c.requires;
}
