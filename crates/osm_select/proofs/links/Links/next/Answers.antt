use Rattle.std.proofs.Common.{◌≡◌, ◌∙◌, ap, rules, to_z, of_z, w64}
use Rattle.std.proofs.lemmas.Int.{to_z-of_z}
use Rattle.osm_select.specs.Links.{linked, without_id}
use Rattle.osm_select.proofs.LinkLemmas.{popped, passed_more, none_named}
use Rattle.osm_select.proofs.links.Links.next.Goals as goal

pub returns-in-Some-take-clause-some : goal.returns-in-Some-take-clause-some
returns-in-Some-take-clause-some c =
    let same : to_z w64 (of_z w64 c.in-Some.id) ≡ c.in-Some.id = search (rules, to_z-of_z) in
    popped c.args.queue.now c.loop-id.queue c.pop.new.self c.in-Some.id (linked c.args.self.now)
    (linked c.loop-id.self) (linked c.take.new.self) _
    c.loop-id.invariant.passed c.in-Some.ensures (c.in-Some-take.ensures.ids ∙ ap (linked c.loop-id.self) same)
    (c.in-Some-take.ensures.rest ∙ ap (λ n. without_id n (linked c.loop-id.self)) same)

pub loop-id-preserved : goal.loop-id-preserved
loop-id-preserved c =
    let same : to_z w64 (of_z w64 c.in-Some.id) ≡ c.in-Some.id = search (rules, to_z-of_z) in
    record {
      passed = passed_more c.args.queue.now c.loop-id.queue c.pop.new.self c.in-Some.id (linked c.args.self.now)
          (linked c.loop-id.self) (linked c.take.new.self)
          c.loop-id.invariant.passed c.in-Some.ensures (c.in-None.ensures.ids ∙ ap (linked c.loop-id.self) same)
          (c.in-None.ensures.rest ∙ ap (λ n. without_id n (linked c.loop-id.self)) same);
      fewer = c.in-None.ensures.same ∙ c.loop-id.invariant.fewer;
    }

pub returns-clause-still : goal.returns-clause-still
returns-clause-still c = none_named c.args.queue.now c.loop-id.queue (linked c.args.self.now)
    (linked c.loop-id.self) c.loop-id.invariant.passed c.in_default.ensures.0
