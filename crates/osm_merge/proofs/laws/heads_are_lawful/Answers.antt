use Rattle.osm_merge.specs.Heads.{heads_of}
use Rattle.osm_merge.proofs.HeadsMachine.{heads_keep}
use Rattle.osm_merge.proofs.TwoInputLemmas.{two_are_lawful}
use Rattle.osm_merge.proofs.laws.heads_are_lawful.Goals as goal

pub returns : goal.returns
returns g c = two_are_lawful (heads_of g.C.Chooser.chosen) (heads_keep g.C.Chooser.chosen g.met.C.Chooser.good)
