-- The polygon file of one task more is read, or a task has none.
use Rattle.std.proofs.Common.{◌≡◌, suc, ◌+◌, ◌<◌, ◌++◌, ◌∷◌, [], length, refl, sym, ap, subst, ◌∙◌, arith}
use Rattle.std.specs.Prelude.{if◌then◌else◌, ⊤}
use Rattle.osm_host.specs.Moments.{moment}
use Rattle.osm_machine.specs.TaskMeanings.{IsGivenWhere, reads_area}
use Rattle.osm_run.specs.Commands.{all_kind_files, area_at, kind_at}
use Rattle.osm_run.specs.Polygons.{IsAreaOf, WasAreaRefused, polygon_name}
use Rattle.osm_run.proofs.AreasLemmas.{ReadTo, given_more, read_all, read_more, read_no_further, read_none, read_refused}
use Rattle.osm_run.proofs.TakingLemmas.{kind_here, length_more}
use Rattle.osm_run.proofs.areas.read_areas.Goals as goal

pub loop-at-init : goal.loop-at-init
loop-at-init g c = record {
  count = ap length c.new-areas.ensures.items;
  each = λ t less. absurd (omega (arith, less));
  read = subst (λ areas. ReadTo c.args.tasks.now 0 areas
      (moment g.H.Host.files g.H.Host.said g.H.Host.mute g.H.Host.count g.H.Host.gave g.H.Host.known c.args.host.now)
      (moment g.H.Host.files g.H.Host.said g.H.Host.mute g.H.Host.count g.H.Host.gave g.H.Host.known c.args.host.now))
      (sym c.new-areas.ensures.items) (read_none c.args.tasks.now
      (moment g.H.Host.files g.H.Host.said g.H.Host.mute g.H.Host.count g.H.Host.gave g.H.Host.known c.args.host.now));
  said = refl;
  mute = refl;
}

pub returns-in-Err-clause-stopped : goal.returns-in-Err-clause-stopped
returns-in-Err-clause-stopped g c =
    let known : c.loop-at.at < length c.args.tasks.now = omega (arith, c.loop-at-test.true) in
    let kind : c.task.inside.kind ≡ kind_at c.args.tasks.now c.loop-at.at = ap (λ x. x.kind) c.task.view_is
    ∙ sym (kind_here c.args.tasks.now c.loop-at.at c.index-tasks-at.result known c.index-tasks-at.is) in
    read_refused c.args.tasks.now c.loop-at.at c.loop-at.areas.items
    (moment g.H.Host.files g.H.Host.said g.H.Host.mute g.H.Host.count g.H.Host.gave g.H.Host.known c.args.host.now)
    (moment g.H.Host.files g.H.Host.said g.H.Host.mute g.H.Host.count g.H.Host.gave g.H.Host.known c.loop-at.host)
    (moment g.H.Host.files g.H.Host.said g.H.Host.mute g.H.Host.count g.H.Host.gave g.H.Host.known c.area_of.new.host)
    c.in-Err.fault c.of.result known c.loop-at.invariant.read
    (subst (λ k. WasAreaRefused c.loop-at.at (polygon_name (all_kind_files k))
    (moment g.H.Host.files g.H.Host.said g.H.Host.mute g.H.Host.count g.H.Host.gave g.H.Host.known c.loop-at.host)
    (moment g.H.Host.files g.H.Host.said g.H.Host.mute g.H.Host.count g.H.Host.gave g.H.Host.known c.area_of.new.host)
    c.in-Err.fault) kind c.in-Err.ensures.err)
    c.of.ensures.fault (c.of.ensures.ends ∙ c.new.ensures)

pub returns-then-is_err-clause-stopped : goal.returns-then-is_err-clause-stopped
returns-then-is_err-clause-stopped g c =
    let known : c.loop-at.at < length c.args.tasks.now = omega (arith, c.loop-at-test.true) in
    let kind : c.task.inside.kind ≡ kind_at c.args.tasks.now c.loop-at.at = ap (λ x. x.kind) c.task.view_is
    ∙ sym (kind_here c.args.tasks.now c.loop-at.at c.index-tasks-at.result known c.index-tasks-at.is) in
    read_no_further c.args.tasks.now (suc c.loop-at.at) (c.loop-at.areas.items ++ c.in-Ok.area ∷ [])
    (moment g.H.Host.files g.H.Host.said g.H.Host.mute g.H.Host.count g.H.Host.gave g.H.Host.known c.args.host.now)
    (moment g.H.Host.files g.H.Host.said g.H.Host.mute g.H.Host.count g.H.Host.gave g.H.Host.known c.area_of.new.host)
    c.of-then-is_err.result
    (read_more c.args.tasks.now c.loop-at.at c.loop-at.areas.items c.in-Ok.area
    (moment g.H.Host.files g.H.Host.said g.H.Host.mute g.H.Host.count g.H.Host.gave g.H.Host.known c.args.host.now)
    (moment g.H.Host.files g.H.Host.said g.H.Host.mute g.H.Host.count g.H.Host.gave g.H.Host.known c.loop-at.host)
    (moment g.H.Host.files g.H.Host.said g.H.Host.mute g.H.Host.count g.H.Host.gave g.H.Host.known c.area_of.new.host)
    known c.loop-at.invariant.count c.loop-at.invariant.read
    (subst (λ k. IsAreaOf (polygon_name (all_kind_files k))
    (moment g.H.Host.files g.H.Host.said g.H.Host.mute g.H.Host.count g.H.Host.gave g.H.Host.known c.loop-at.host)
    (moment g.H.Host.files g.H.Host.said g.H.Host.mute g.H.Host.count g.H.Host.gave g.H.Host.known c.area_of.new.host)
    c.in-Ok.area) kind c.in-Ok.ensures.ok))
    c.of-then-is_err.ensures.fault (c.of-then-is_err.ensures.ends ∙ c.new-then-is_err.ensures)

pub loop-at-preserved : goal.loop-at-preserved
loop-at-preserved g c =
    let known : c.loop-at.at < length c.args.tasks.now = omega (arith, c.loop-at-test.true) in
    let kind : c.task.inside.kind ≡ kind_at c.args.tasks.now c.loop-at.at = ap (λ x. x.kind) c.task.view_is
    ∙ sym (kind_here c.args.tasks.now c.loop-at.at c.index-tasks-at.result known c.index-tasks-at.is) in
    let pushed : c.push.new.self.items ≡ c.loop-at.areas.items ++ c.in-Ok.area ∷ [] = c.push.ensures.items
    ∙ ap (λ b. if b then c.loop-at.areas.items ++ c.in-Ok.area ∷ [] else c.loop-at.areas.items)
    c.if-is_err.ensures.negation in
    let is : IsAreaOf (polygon_name (all_kind_files (kind_at c.args.tasks.now c.loop-at.at)))
    (moment g.H.Host.files g.H.Host.said g.H.Host.mute g.H.Host.count g.H.Host.gave g.H.Host.known c.loop-at.host)
    (moment g.H.Host.files g.H.Host.said g.H.Host.mute g.H.Host.count g.H.Host.gave g.H.Host.known c.area_of.new.host)
    c.in-Ok.area =
    subst (λ k. IsAreaOf (polygon_name (all_kind_files k))
    (moment g.H.Host.files g.H.Host.said g.H.Host.mute g.H.Host.count g.H.Host.gave g.H.Host.known c.loop-at.host)
    (moment g.H.Host.files g.H.Host.said g.H.Host.mute g.H.Host.count g.H.Host.gave g.H.Host.known c.area_of.new.host)
    c.in-Ok.area) kind c.in-Ok.ensures.ok in
    let next : suc c.loop-at.at ≡ c.loop-at.at + 1 = omega arith in
    record {
      count = ap length pushed ∙ length_more c.loop-at.areas.items c.in-Ok.area
          ∙ ap (λ n. n + 1) c.loop-at.invariant.count;
      each = λ t less. subst (λ areas. IsGivenWhere (reads_area (kind_at c.args.tasks.now t)) (area_at areas t)
          (λ a. ⊤)) (sym pushed)
          (given_more c.args.tasks.now c.loop-at.at c.loop-at.areas.items c.in-Ok.area
          (moment g.H.Host.files g.H.Host.said g.H.Host.mute g.H.Host.count g.H.Host.gave g.H.Host.known c.loop-at.host)
          (moment g.H.Host.files g.H.Host.said g.H.Host.mute g.H.Host.count g.H.Host.gave g.H.Host.known
          c.area_of.new.host)
          c.loop-at.invariant.count c.loop-at.invariant.each is t (omega (arith, less)));
      read = subst (λ n. ReadTo c.args.tasks.now n c.push.new.self.items
          (moment g.H.Host.files g.H.Host.said g.H.Host.mute g.H.Host.count g.H.Host.gave g.H.Host.known
          c.args.host.now)
          (moment g.H.Host.files g.H.Host.said g.H.Host.mute g.H.Host.count g.H.Host.gave g.H.Host.known
          c.area_of.new.host)) next
          (subst (λ areas. ReadTo c.args.tasks.now (suc c.loop-at.at) areas
          (moment g.H.Host.files g.H.Host.said g.H.Host.mute g.H.Host.count g.H.Host.gave g.H.Host.known
          c.args.host.now)
          (moment g.H.Host.files g.H.Host.said g.H.Host.mute g.H.Host.count g.H.Host.gave g.H.Host.known
          c.area_of.new.host)) (sym pushed)
          (read_more c.args.tasks.now c.loop-at.at c.loop-at.areas.items c.in-Ok.area
          (moment g.H.Host.files g.H.Host.said g.H.Host.mute g.H.Host.count g.H.Host.gave g.H.Host.known
          c.args.host.now)
          (moment g.H.Host.files g.H.Host.said g.H.Host.mute g.H.Host.count g.H.Host.gave g.H.Host.known c.loop-at.host)
          (moment g.H.Host.files g.H.Host.said g.H.Host.mute g.H.Host.count g.H.Host.gave g.H.Host.known
          c.area_of.new.host)
          known c.loop-at.invariant.count c.loop-at.invariant.read is));
      said = c.in-Ok.ensures.said ∙ c.loop-at.invariant.said;
      mute = c.in-Ok.ensures.mute ∙ c.loop-at.invariant.mute;
    }

pub returns-clause-read : goal.returns-clause-read
returns-clause-read g c =
    let all : c.loop-at.at ≡ length c.args.tasks.now = omega (arith, c.loop-at-test.false, c.loop-at.auto.at-end) in
    read_all c.args.tasks.now c.loop-at.areas.items
    (moment g.H.Host.files g.H.Host.said g.H.Host.mute g.H.Host.count g.H.Host.gave g.H.Host.known c.args.host.now)
    (moment g.H.Host.files g.H.Host.said g.H.Host.mute g.H.Host.count g.H.Host.gave g.H.Host.known c.loop-at.host)
    (c.loop-at.invariant.count ∙ all)
    (subst (λ n. ReadTo c.args.tasks.now n c.loop-at.areas.items
    (moment g.H.Host.files g.H.Host.said g.H.Host.mute g.H.Host.count g.H.Host.gave g.H.Host.known c.args.host.now)
    (moment g.H.Host.files g.H.Host.said g.H.Host.mute g.H.Host.count g.H.Host.gave g.H.Host.known c.loop-at.host))
    all c.loop-at.invariant.read)
