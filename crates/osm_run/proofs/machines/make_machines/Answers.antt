use Rattle.std.proofs.Common.{◌≡◌, ◌<◌, ◌+◌, ◌∷◌, [], ◌++◌, length, sym, ap, subst, ◌∙◌, append_assoc, append-nil, arith}
use Rattle.std.specs.Prelude.{get_or, if◌then◌else◌, map, None}
use Rattle.std.specs.Vec.Iter.{into_iter_items}
use Rattle.std.proofs.lemmas.List.{length-set}
use Rattle.osm_machine.specs.Devices.{source_seen}
use Rattle.osm_machine.specs.Sinks.{sink_seen}
use Rattle.osm_machine.specs.TaskMeanings.{IsMachineOf}
use Rattle.osm_run.specs.Commands.{area_at, kind_at}
use Rattle.osm_run.specs.Opened.{device_seen}
use Rattle.osm_run.specs.Went.{device_at, sink_in, source_in}
use Rattle.osm_run.proofs.LeavingLemmas.{map_length, nothing_left}
use Rattle.osm_run.proofs.TakingLemmas.{area_beside, area_here, device_here, each_pushed, fresh_here, kind_here, length_more, within_tasks}
use Rattle.osm_run.proofs.machines.make_machines.Goals as goal

pub take_area-area-requires : goal.take_area-area-requires
take_area-area-requires g c =
    let at = c.loop-device in
    let x = c.in-Some.device in
    let steps : into_iter_items at.device-iterator ≡ x ∷ into_iter_items c.next.new.self = c.in-Some.ensures.steps.0 in
    let whole : at.yielded ++ (x ∷ into_iter_items c.next.new.self) ≡ c.args.devices.items =
    ap (λ zs. at.yielded ++ zs) (sym steps) ∙ at.invariant.whole
    ∙ c.into_iter-device-iterator.ensures.into_iter_gives.0 in
    let known : at.at < length c.args.tasks.now =
    within_tasks c.args.tasks.now
    (device_seen (source_seen g.S.Source.name g.S.Source.rest g.S.Source.given g.S.Source.faults)
    (sink_seen g.K.Sink.name g.K.Sink.taken g.K.Sink.faults))
    c.args.devices.items at.yielded (into_iter_items c.next.new.self) x at.at whole at.invariant.place
    c.requires.devices in
    omega (arith, known, at.invariant.areas_count, c.requires.areas.count)

pub make_machine-requires-clause-area : goal.make_machine-requires-clause-area
make_machine-requires-clause-area g c =
    let at = c.loop-device in
    let x = c.in-Some.device in
    let steps : into_iter_items at.device-iterator ≡ x ∷ into_iter_items c.next.new.self = c.in-Some.ensures.steps.0 in
    let whole : at.yielded ++ (x ∷ into_iter_items c.next.new.self) ≡ c.args.devices.items =
    ap (λ zs. at.yielded ++ zs) (sym steps) ∙ at.invariant.whole
    ∙ c.into_iter-device-iterator.ensures.into_iter_gives.0 in
    let known : at.at < length c.args.tasks.now =
    within_tasks c.args.tasks.now
    (device_seen (source_seen g.S.Source.name g.S.Source.rest g.S.Source.given g.S.Source.faults)
    (sink_seen g.K.Sink.name g.K.Sink.taken g.K.Sink.faults))
    c.args.devices.items at.yielded (into_iter_items c.next.new.self) x at.at whole at.invariant.place
    c.requires.devices in
    area_here c.args.tasks.now at.at c.index-tasks-at.result known c.index-tasks-at.is c.args.areas.items
    at.areas.items c.take_area-area.result c.requires.areas (at.invariant.areas_left at.at (omega arith))
    c.take_area-area.ensures.value

pub make_machine-requires-clause-device : goal.make_machine-requires-clause-device
make_machine-requires-clause-device g c =
    let at = c.loop-device in
    let x = c.in-Some.device in
    let steps : into_iter_items at.device-iterator ≡ x ∷ into_iter_items c.next.new.self = c.in-Some.ensures.steps.0 in
    let whole : at.yielded ++ (x ∷ into_iter_items c.next.new.self) ≡ c.args.devices.items =
    ap (λ zs. at.yielded ++ zs) (sym steps) ∙ at.invariant.whole
    ∙ c.into_iter-device-iterator.ensures.into_iter_gives.0 in
    device_here c.args.tasks.now
    (device_seen (source_seen g.S.Source.name g.S.Source.rest g.S.Source.given g.S.Source.faults)
    (sink_seen g.K.Sink.name g.K.Sink.taken g.K.Sink.faults))
    c.args.devices.items at.yielded (into_iter_items c.next.new.self) x at.at c.index-tasks-at.result whole
    at.invariant.place c.requires.devices c.index-tasks-at.is

pub make_machine-requires-clause-fresh : goal.make_machine-requires-clause-fresh
make_machine-requires-clause-fresh g c =
    let at = c.loop-device in
    let x = c.in-Some.device in
    let steps : into_iter_items at.device-iterator ≡ x ∷ into_iter_items c.next.new.self = c.in-Some.ensures.steps.0 in
    let whole : at.yielded ++ (x ∷ into_iter_items c.next.new.self) ≡ c.args.devices.items =
    ap (λ zs. at.yielded ++ zs) (sym steps) ∙ at.invariant.whole
    ∙ c.into_iter-device-iterator.ensures.into_iter_gives.0 in
    fresh_here (device_seen (source_seen g.S.Source.name g.S.Source.rest g.S.Source.given g.S.Source.faults)
    (sink_seen g.K.Sink.name g.K.Sink.taken g.K.Sink.faults))
    c.args.devices.items at.yielded (into_iter_items c.next.new.self) x at.at whole at.invariant.place c.requires.fresh

pub loop-device-preserved : goal.loop-device-preserved
loop-device-preserved g c =
    let at = c.loop-device in
    let x = c.in-Some.device in
    let steps : into_iter_items at.device-iterator ≡ x ∷ into_iter_items c.next.new.self = c.in-Some.ensures.steps.0 in
    let whole : at.yielded ++ (x ∷ into_iter_items c.next.new.self) ≡ c.args.devices.items =
    ap (λ zs. at.yielded ++ zs) (sym steps) ∙ at.invariant.whole
    ∙ c.into_iter-device-iterator.ensures.into_iter_gives.0 in
    let known : at.at < length c.args.tasks.now =
    within_tasks c.args.tasks.now
    (device_seen (source_seen g.S.Source.name g.S.Source.rest g.S.Source.given g.S.Source.faults)
    (sink_seen g.K.Sink.name g.K.Sink.taken g.K.Sink.faults))
    c.args.devices.items at.yielded (into_iter_items c.next.new.self) x at.at whole at.invariant.place
    c.requires.devices in
    let m = c.in_ok-machine.machine in
    let pushed : c.push.new.self.items ≡ at.machines.items ++ m ∷ [] = c.push.ensures.items
    ∙ ap (λ b. if b then at.machines.items ++ m ∷ [] else at.machines.items) c.if-is_err.ensures.negation in
    record {
      whole = append_assoc at.yielded (x ∷ []) _ ∙ rw (← steps) at.invariant.whole;
      rest = (let was = at.invariant.rest in
          let gone = c.in-Some.ensures.steps.1 in
          let short = ap length steps in
          omega arith);
      place = (let was = at.invariant.place in
          let more = length_more at.yielded x in
          omega arith);
      count = ap length pushed ∙ length_more at.machines.items m ∙ ap (λ n. n + 1) at.invariant.count
          ∙ sym (length_more at.yielded x);
      areas_count = ap length c.take_area-area.ensures.after ∙ length-set at.areas.items at.at None
          ∙ at.invariant.areas_count;
      areas_left = λ t behind. ap (λ zs. area_at zs t) c.take_area-area.ensures.after
          ∙ area_beside at.areas.items at.at t (omega (arith, behind))
          ∙ at.invariant.areas_left t (omega (arith, behind));
      each = each_pushed (λ t dv mk. IsMachineOf (kind_at c.args.tasks.now t) (area_at c.args.areas.items t)
          (source_in dv) (sink_in dv) mk)
          (device_seen (source_seen g.S.Source.name g.S.Source.rest g.S.Source.given g.S.Source.faults)
          (sink_seen g.K.Sink.name g.K.Sink.taken g.K.Sink.faults)) at.yielded x
          at.machines.items m c.push.new.self.items pushed at.invariant.count at.invariant.each
          (subst (λ n. IsMachineOf (kind_at c.args.tasks.now n) (area_at c.args.areas.items n)
          (source_in (device_seen (source_seen g.S.Source.name g.S.Source.rest g.S.Source.given g.S.Source.faults)
          (sink_seen g.K.Sink.name g.K.Sink.taken g.K.Sink.faults) x))
          (sink_in (device_seen (source_seen g.S.Source.name g.S.Source.rest g.S.Source.given g.S.Source.faults)
          (sink_seen g.K.Sink.name g.K.Sink.taken g.K.Sink.faults) x)) m)
          at.invariant.place
          (subst (λ area. IsMachineOf (kind_at c.args.tasks.now at.at) area
          (source_in (device_seen (source_seen g.S.Source.name g.S.Source.rest g.S.Source.given g.S.Source.faults)
          (sink_seen g.K.Sink.name g.K.Sink.taken g.K.Sink.faults) x))
          (sink_in (device_seen (source_seen g.S.Source.name g.S.Source.rest g.S.Source.given g.S.Source.faults)
          (sink_seen g.K.Sink.name g.K.Sink.taken g.K.Sink.faults) x)) m)
          (c.take_area-area.ensures.value ∙ at.invariant.areas_left at.at (omega arith))
          (subst (λ k. IsMachineOf k c.take_area-area.result
          (source_in (device_seen (source_seen g.S.Source.name g.S.Source.rest g.S.Source.given g.S.Source.faults)
          (sink_seen g.K.Sink.name g.K.Sink.taken g.K.Sink.faults) x))
          (sink_in (device_seen (source_seen g.S.Source.name g.S.Source.rest g.S.Source.given g.S.Source.faults)
          (sink_seen g.K.Sink.name g.K.Sink.taken g.K.Sink.faults) x)) m)
          (sym (kind_here c.args.tasks.now at.at c.index-tasks-at.result known c.index-tasks-at.is))
          c.in_ok-machine.ensures)));
    }

pub returns : goal.returns
returns g c =
    let at = c.loop-device in
    let none = c.in-None.ensures.steps in
    let empty : into_iter_items at.device-iterator ≡ [] = nothing_left _ (sym at.invariant.rest ∙ none.0) in
    let all : at.yielded ≡ c.args.devices.items = sym (append-nil at.yielded) ∙ rw empty at at.invariant.whole
    ∙ c.into_iter-device-iterator.ensures.into_iter_gives.0 in
    let long : length c.args.devices.items ≡ length c.args.tasks.now =
    sym (map_length (device_seen (source_seen g.S.Source.name g.S.Source.rest g.S.Source.given g.S.Source.faults)
    (sink_seen g.K.Sink.name g.K.Sink.taken g.K.Sink.faults)) c.args.devices.items)
    ∙ c.requires.devices.count in
    let as_long : length at.yielded ≡ length c.args.tasks.now = ap length all ∙ long in
    record {
      count = at.invariant.count ∙ as_long;
      each = λ t d known.
          subst (λ ds. IsMachineOf (kind_at c.args.tasks.now t) (area_at c.args.areas.items t)
          (source_in (device_at (map
          (device_seen (source_seen g.S.Source.name g.S.Source.rest g.S.Source.given g.S.Source.faults)
          (sink_seen g.K.Sink.name g.K.Sink.taken g.K.Sink.faults)) ds) t))
          (sink_in (device_at (map
          (device_seen (source_seen g.S.Source.name g.S.Source.rest g.S.Source.given g.S.Source.faults)
          (sink_seen g.K.Sink.name g.K.Sink.taken g.K.Sink.faults)) ds) t))
          (get_or at.machines.items t d)) all
          (at.invariant.each t d (omega (arith, known, as_long)));
    }
