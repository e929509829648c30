use Rattle.std.proofs.Common.{length, sym, ◌∙◌}
use Rattle.osm_net.specs.NetLists.{net_of}
use Rattle.osm_net.proofs.TableLemmas.{input_is, input_there, output_is, output_there, tables_at}
use Rattle.osm_net.proofs.lists.Lists.step.Goals as goal

pub take-requires-clause-there : goal.take-requires-clause-there
take-requires-clause-there g c = sym (input_is g.M.TaskMachine.of g.met.M.TaskMachine.lawful (net_of c.args.self.now)
    c.requires.lists.net c.requires.stands c.args.task c.requires.task c.index.result.now c.index.ensures c.in-Take.port
    c.index-in-Take.result.now (tables_at c.args.self.now.pipes.items (length c.args.self.now.machines.items)
    c.args.self.now.tables.items c.args.task c.index-in-Take.result.now c.requires.lists.tables c.requires.task
    c.index-in-Take.ensures) (sym c.want-want.ensures ∙ c.in-Take.is)) ∙ sym c.input.ensures ∙ c.in-Some.is

pub unreachable-requires : goal.unreachable-requires
unreachable-requires g c = input_there g.M.TaskMachine.of g.met.M.TaskMachine.lawful (net_of c.args.self.now)
    c.requires.lists.net c.requires.stands c.args.task c.requires.task c.index.result.now c.index.ensures c.in-Take.port
    c.index-in-Take.result.now (tables_at c.args.self.now.pipes.items (length c.args.self.now.machines.items)
    c.args.self.now.tables.items c.args.task c.index-in-Take.result.now c.requires.lists.tables c.requires.task
    c.index-in-Take.ensures) (sym c.want-want.ensures ∙ c.in-Take.is) (sym c.input.ensures ∙ c.in-None.is)

pub give-requires-clause-there : goal.give-requires-clause-there
give-requires-clause-there g c = sym (output_is g.M.TaskMachine.of g.met.M.TaskMachine.lawful (net_of c.args.self.now)
    c.requires.lists.net c.requires.stands c.args.task c.requires.task c.index.result.now c.index.ensures c.in-Give.port
    c.index-in-Give.result.now (tables_at c.args.self.now.pipes.items (length c.args.self.now.machines.items)
    c.args.self.now.tables.items c.args.task c.index-in-Give.result.now c.requires.lists.tables c.requires.task
    c.index-in-Give.ensures) (sym c.want-want.ensures ∙ c.in-Give.is)) ∙ sym c.output.ensures ∙ c.in-Some-output.is

pub unreachable-requires-in-None-output : goal.unreachable-requires-in-None-output
unreachable-requires-in-None-output g c = output_there g.M.TaskMachine.of g.met.M.TaskMachine.lawful
    (net_of c.args.self.now)
    c.requires.lists.net c.requires.stands c.args.task c.requires.task c.index.result.now c.index.ensures c.in-Give.port
    c.index-in-Give.result.now (tables_at c.args.self.now.pipes.items (length c.args.self.now.machines.items)
    c.args.self.now.tables.items c.args.task c.index-in-Give.result.now c.requires.lists.tables c.requires.task
    c.index-in-Give.ensures) (sym c.want-want.ensures ∙ c.in-Give.is) (sym c.output.ensures ∙ c.in-None-output.is)
