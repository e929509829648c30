use Rattle.std.proofs.Common.{List, subst}
use Rattle.osm_entity.specs.declared.stream.Message.{Message}
use Rattle.osm_pipe.specs.Pipes.{Meets}
use Rattle.osm_threads.specs.Homes.{gate_word}
use Rattle.osm_threads.proofs.StartLemmas.{is_back, last_told}
use Rattle.osm_threads.proofs.starts.come_home.Goals as goal

pub returns-clause-backs : goal.returns-clause-backs
returns-clause-backs g c =
    let all = c.args.run.now.all in
    let job = c.args.job.value in
    let home = c.args.home in
    let word = c.last_word-word in
    record {
      one = record { machine = home.machine; ports = home.ports; whole = home.whole };
      more = c.push_reserved.ensures.items;
      is_back = is_back g.M.TaskMachine.of g.M.TaskMachine.names all job home c.requires.home
          (subst (λ (ms : List Message). Meets home.gate.list ms)
          (last_told (gate_word all) c.args.run.now.words.items word.new.words.items c.args.others.value.items
          word.result job.gate.pipe word.ensures c.requires.words) c.meet.ensures.meets);
    }
