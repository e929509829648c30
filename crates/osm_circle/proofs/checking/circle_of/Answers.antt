use Rattle.std.proofs.Common.{List, ◌++◌, take, drop, ap, sym, subst, ◌∙◌}
use Rattle.osm_circle.specs.Circles.{IsBareCircle}
use Rattle.osm_circle.specs.declared.circle.Sense.{Sense}
use Rattle.osm_circle.proofs.RingLemmas.{bare_circle}
use Rattle.osm_circle.proofs.checking.circle_of.Goals as goal

pub returns : goal.returns
returns c =
    let low = c.lowest_of.result in
    let turned = c.turn.ensures ∙ ap (λ (list : List Sense). drop low list ++ take low list) c.of-circle.ensures in
    subst (IsBareCircle c.args.graph.now.pipes) (sym turned)
    (bare_circle c.args.graph.now.pipes c.args.senses.now low c.requires.forward c.requires.ring
    c.lowest_of.ensures.place c.lowest_of.ensures.lowest)
