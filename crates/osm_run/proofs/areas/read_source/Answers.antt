-- The source gave the first bytes of the buffer, and those of one pull more.
use Rattle.std.proofs.Common.{◌∙◌, arith}
use Rattle.osm_host.specs.Pulls.{source_value}
use Rattle.osm_run.proofs.ReadFilesLemmas.{gave_more}
use Rattle.osm_run.proofs.areas.read_source.Goals as goal

pub loop-count-preserved : goal.loop-count-preserved
loop-count-preserved g c = record {
  gave = gave_more (source_value g.S.Source.rest g.S.Source.given g.S.Source.faults c.args.source.now)
      (source_value g.S.Source.rest g.S.Source.given g.S.Source.faults c.loop-count.source)
      (source_value g.S.Source.rest g.S.Source.given g.S.Source.faults c.pull_piece.new.source)
      c.loop-count.buffer.items c.pull_piece.new.buffer.items c.loop-count.count c.in-Ok.more
      c.loop-count.invariant.gave c.in-Ok.ensures.pulled c.in-Ok.ensures.same;
  within = (let fits = c.in-Ok.ensures.within in let all = c.pull_piece.new.buffer.ok in omega (arith, fits, all));
  few = omega (arith, c.loop-count-test.true, c.in-Ok.ensures.small);
  faults = c.in-Ok.ensures.faults ∙ c.loop-count.invariant.faults;
  name = c.in-Ok.ensures.name ∙ c.loop-count.invariant.name;
}
