use Rattle.std.proofs.Common.{ap, ◌∙◌}
use Rattle.osm_threads.specs.Ports.{in_row, pipe_at}
use Rattle.osm_threads.proofs.PortLemmas.{off_pipe, same_pipes}
use Rattle.osm_threads.proofs.task.break_off.Goals as goal

pub returns-clause-pipes : goal.returns-clause-pipes
returns-clause-pipes g c =
    let ports = c.args.ports.now in
    let broken = c.break_all in
    let drained = c.drain_all in
    record {
      inlets = same_pipes drained.new.inlets.items ports.inlets.items drained.ensures.count
          (λ p. (drained.ensures.each p).pipe);
      outlets = same_pipes broken.new.outlets.items ports.outlets.items broken.ensures.count
          (λ p. ap pipe_at (broken.ensures.each p) ∙ off_pipe (in_row ports.outlets.items p));
    }
