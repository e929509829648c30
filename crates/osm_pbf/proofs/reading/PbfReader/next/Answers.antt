use Rattle.std.proofs.Common.{◌≡◌, ◌∙◌, [], subst}
use Rattle.std.specs.Prelude.{IfNone, IfOk, OnErr}
use Rattle.osm_pbf.specs.Standing.{GavePbfItems}
use Rattle.osm_pbf.proofs.reading.PbfReader.next.Goals as goal
use Rattle.osm_pbf.proofs.reading.PbfReader.next.Goals.{then-is_running+in-Ok-None, else-is_running}

pub returns-clause-none : goal.returns-clause-none
returns-clause-none c =
    let same : c.if-is_running.self ≡ c.args.self.now =
    elim c.if-is_running.branch [
      | then-is_running+in-Ok-None w ↦ let none = rw w.in-Ok-None.field-0-is at w.in-Ok-None.ensures.none in search
      | else-is_running w ↦ search
    ] in
    subst (λ r. IfOk c.next_step_by_step.result (λ found. IfNone found (GavePbfItems r c.next_step_by_step.new.self [])))
    same c.next_step_by_step.ensures.none

pub returns-clause-err : goal.returns-clause-err
returns-clause-err c =
    let same : c.if-is_running.self ≡ c.args.self.now =
    elim c.if-is_running.branch [
      | then-is_running+in-Ok-None w ↦ let none = rw w.in-Ok-None.field-0-is at w.in-Ok-None.ensures.none in search
      | else-is_running w ↦ search
    ] in
    subst (λ r. OnErr c.next_step_by_step.result (GavePbfItems r c.next_step_by_step.new.self []))
    same c.next_step_by_step.ensures.err
