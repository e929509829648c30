use Rattle.std.proofs.Common.{◌-◌}
use Rattle.osm_host.specs.Moments.{Moment, moment}
use Rattle.osm_report.specs.Lines.{fault_text}
use Rattle.osm_run.specs.Asked.{graph_asked}
use Rattle.osm_run.proofs.SayingLemmas.{counted_later, outcome_later, said_later}
use Rattle.osm_run.proofs.running.run_alone.Goals as goal

pub returns-clause-run : goal.returns-clause-run
returns-clause-run g c =
    let before : Moment = moment g.H.Host.files g.H.Host.said g.H.Host.mute g.H.Host.count g.H.Host.gave g.H.Host.known
    c.args.host.now in
    let between : Moment = moment g.H.Host.files g.H.Host.said g.H.Host.mute g.H.Host.count g.H.Host.gave g.H.Host.known
    c.run_words_alone-status.new.host in
    let after : Moment = moment g.H.Host.files g.H.Host.said g.H.Host.mute g.H.Host.count g.H.Host.gave g.H.Host.known
    c.say_fault.new.host in
    let status = c.run_words_alone-status.result in
    record {
      run = record {
        said = said_later (fault_text status.fault) before between after c.run_words_alone-status.ensures.said
            c.run_words_alone-status.ensures.mute c.say_fault.ensures.said;
        run = outcome_later before between after c.say_fault.ensures.files c.say_fault.ensures.counts
            c.say_fault.ensures.gave c.say_fault.ensures.known (graph_asked c.args.words.now) status
            c.run_words_alone-status.ensures.run.run;
        code = c.run_words_alone-status.ensures.code;
      };
      counted = counted_later before between after c.say_fault.ensures.files c.say_fault.ensures.counts
          c.say_fault.ensures.gave c.say_fault.ensures.known (graph_asked c.args.words.now) status
          (c.run_words_alone-status.new.steps - c.args.steps.now) c.run_words_alone-status.ensures.run.run
          c.run_words_alone-status.ensures.run.counted;
    }
