use Rattle.std.proofs.Common.{◌≡◌, ◌++◌, ◌∷◌, [], ◌+◌, length, sym, ap, subst, ◌∙◌, append_assoc, append-nil, arith}
use Rattle.std.specs.Vec.Iter.{into_iter_items}
use Rattle.std.proofs.lemmas.List.{length_push}
use Rattle.osm_machine.specs.Devices.{source_seen}
use Rattle.osm_machine.specs.MachineKinds.{machines}
use Rattle.osm_machine.specs.Sinks.{sink_seen}
use Rattle.osm_run.specs.Leaving.{AreLeft}
use Rattle.osm_run.specs.Opened.{devices_seen}
use Rattle.osm_run.specs.Went.{device_of, machine_end}
use Rattle.osm_run.proofs.LeavingLemmas.{ends_more, map_more, nothing_left}
use Rattle.osm_run.proofs.machines.finish_machines.Goals as goal

pub loop-machine-preserved : goal.loop-machine-preserved
loop-machine-preserved g c =
    let at = c.loop-machine in
    let x = c.in-Some.machine in
    let steps : into_iter_items at.machine-iterator ≡ x ∷ into_iter_items c.next.new.self = c.in-Some.ensures.steps.0 in
    record {
      whole = append_assoc at.yielded (x ∷ []) _ ∙ rw (← steps) at.invariant.whole;
      rest = let was = at.invariant.rest in
          let gone = c.in-Some.ensures.steps.1 in
          let short = ap length steps in
          omega arith;
      place = let longer = length_push at.yielded x in
          let was = at.invariant.place in
          omega arith;
      room = c.add.ensures.room _ at.invariant.room;
      devices = c.add.ensures.device ∙ ap (λ ds. ds ++ device_of x ∷ []) at.invariant.devices
          ∙ sym (map_more device_of at.yielded x);
      verdicts = c.add.ensures.verdict ∙ ap (λ vs. vs ++ machines.verdict x ∷ []) at.invariant.verdicts
          ∙ sym (map_more machines.verdict at.yielded x);
      ends = c.add.ensures.end ∙ ap (λ es. es ++ machine_end (at.task, x)) at.invariant.ends
          ∙ sym (ends_more at.task at.yielded x at.invariant.place);
    }

pub returns : goal.returns
returns g c =
    let at = c.loop-machine in
    let none = c.in-None.ensures.steps in
    let empty : into_iter_items at.machine-iterator ≡ [] = nothing_left _ (sym at.invariant.rest ∙ none.0) in
    let all = sym (append-nil at.yielded) ∙ rw empty at at.invariant.whole
    ∙ c.into_iter-machine-iterator.ensures.into_iter_gives.0 in
    subst (λ ms. AreLeft ms
    (devices_seen (source_seen g.S.Source.name g.S.Source.rest g.S.Source.given g.S.Source.faults)
    (sink_seen g.K.Sink.name g.K.Sink.taken g.K.Sink.faults) at.left.devices.items) at.left.verdicts.items
    at.left.ends.items) all
    (record {
      devices_are = at.invariant.devices;
      verdicts_are = at.invariant.verdicts;
      ends_are = at.invariant.ends;
    })
