use Rattle.osm_tasks.proofs.PipeLemmas.{names-more}
use Rattle.osm_tasks.proofs.pipes.pipe_names.Goals as goal

pub loop-port-preserved : goal.loop-port-preserved
loop-port-preserved c =
    names-more c.args.prefix.now c.args.words.now c.loop-port.port c.loop-port.names c.push.new.self
    c.in_ok-name.name c.loop-port.invariant c.in_ok-name.ensures c.in_ok-push.ensures.ok
