use Rattle.osm_net.proofs.MeaningLemmas.{one_meaning, streams_by_mean}
use Rattle.osm_net.proofs.RunLemmas.{from_known}
use Rattle.osm_net.proofs.laws.a_graph_has_one_meaning.Goals as goal

pub returns : goal.returns
returns c = record {
  there_is = λ tasks inputs outputs pipes rule graph. streams_by_mean tasks pipes rule graph.forward
      (from_known tasks inputs outputs pipes graph);
  one = λ tasks inputs outputs pipes rule graph s t. one_meaning pipes rule s t graph.forward;
}
