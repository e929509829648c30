-- What an opened sink is, and what a refusal leaves.
use Rattle.std.specs.Prelude.{Ok}
use Rattle.osm_host.specs.declared.outside.Op.TheVariants.{Make}
use Rattle.osm_run.proofs.CallLemmas.{counts_of_refusal, counts_stay, known_after_refusal}
use Rattle.osm_run.proofs.KnownLemmas.{known_by_open}
use Rattle.osm_run.proofs.opening.open_sink.Goals as goal

pub returns-in-Ok-clause-ok : goal.returns-in-Ok-clause-ok
returns-in-Ok-clause-ok g c = record {
  is_new = record { name_is = c.in-Ok.ensures.name; taken = c.in-Ok.ensures.taken; faults = c.in-Ok.ensures.fresh };
  files = c.in-Ok.ensures.made;
  counts = counts_stay Make c.args.name.now (g.H.Host.count c.args.host.now) (g.H.Host.count c.open_sink.new.self)
      c.in-Ok.sink c.in-Ok.ensures.counts;
  gave = c.in-Ok.ensures.gave;
  known = known_by_open c.args.name.now (g.H.Host.known c.args.host.now) (g.H.Host.known c.open_sink.new.self)
      (Ok c.in-Ok.sink) c.in-Ok.ensures.known c.in-Ok.ensures.known.own;
}

pub returns-in-Err-clause-err : goal.returns-in-Err-clause-err
returns-in-Err-clause-err g c = record {
  refusal = c.in-Err.refusal;
  fault_is = c.refusal_fault.ensures;
  files = c.in-Err.ensures.files;
  counts = counts_of_refusal Make c.args.name.now (g.H.Host.count c.args.host.now) (g.H.Host.count c.open_sink.new.self)
      c.in-Err.refusal c.in-Err.ensures.counts;
  gave = c.in-Err.ensures.gave;
  known = known_after_refusal c.args.name.now (g.H.Host.known c.args.host.now) (g.H.Host.known c.open_sink.new.self)
      c.in-Err.refusal c.in-Err.ensures.known;
}
