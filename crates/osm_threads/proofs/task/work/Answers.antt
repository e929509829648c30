use Rattle.osm_threads.proofs.TaskLemmas.{pipes_onward, worked_off, worked_whole}
use Rattle.osm_threads.proofs.task.work.Goals as goal

pub returns-then-drive-clause-worked : goal.returns-then-drive-clause-worked
returns-then-drive-clause-worked g c =
    let done = c.if-drive.true in
    worked_whole g.M.TaskMachine.of g.met.M.TaskMachine.lawful c.args.machine.now c.drive.new.machine c.drive.new.ports
    (c.drive.ensures.work done) (c.drive.ensures.ended done)

pub returns-clause-worked : goal.returns-clause-worked
returns-clause-worked g c =
    worked_off g.M.TaskMachine.of g.met.M.TaskMachine.lawful c.args.machine.now c.drive.new.machine c.drive.new.ports
    c.break_off.new.ports (c.drive.ensures.left_off c.if-drive.false) c.break_off.ensures.off

pub returns-clause-pipes : goal.returns-clause-pipes
returns-clause-pipes g c =
    pipes_onward c.args.ports.now c.drive.new.ports c.break_off.new.ports c.drive.ensures.pipes c.break_off.ensures.pipes
