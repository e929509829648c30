use Rattle.osm_host.specs.Moments.{Moment, moment}
use Rattle.osm_report.specs.Lines.{fault_text}
use Rattle.osm_run.specs.Asked.{graph_asked}
use Rattle.osm_run.proofs.SayingLemmas.{outcome_later, said_later}
use Rattle.osm_run.proofs.running.run.Goals as goal

pub returns : goal.returns
returns g c =
    let before : Moment = moment g.H.Host.files g.H.Host.said g.H.Host.mute g.H.Host.count g.H.Host.gave g.H.Host.known
    c.args.host.now in
    let between : Moment = moment g.H.Host.files g.H.Host.said g.H.Host.mute g.H.Host.count g.H.Host.gave g.H.Host.known
    c.run_words-status.new.host in
    let after : Moment = moment g.H.Host.files g.H.Host.said g.H.Host.mute g.H.Host.count g.H.Host.gave g.H.Host.known
    c.say_fault.new.host in
    let status = c.run_words-status.result in
    record {
      said = said_later (fault_text status.fault) before between after c.run_words-status.ensures.said
          c.run_words-status.ensures.mute c.say_fault.ensures.said;
      run = outcome_later before between after c.say_fault.ensures.files c.say_fault.ensures.counts
          c.say_fault.ensures.gave c.say_fault.ensures.known (graph_asked c.args.words.now) status
          c.run_words-status.ensures.run;
      code = c.run_words-status.ensures.code;
    }
