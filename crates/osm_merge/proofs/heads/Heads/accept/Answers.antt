use Rattle.std.proofs.Common.{◌≡◌, ◌∙◌, ap, arith}
use Rattle.osm_entity.specs.declared.stream.Want.TheVariants.{Take}
use Rattle.osm_merge.specs.Heads.{heads_of}
use Rattle.osm_merge.proofs.HeadsCalls.{first_taken, left_taken, second_port, second_taken}
use Rattle.osm_merge.proofs.TwoInputLemmas.{takes_first, takes_second}
use Rattle.osm_merge.proofs.heads.Heads.accept.Goals as goal

pub returns-then-port-eq0-clause-takes : goal.returns-then-port-eq0-clause-takes
returns-then-port-eq0-clause-takes g c =
    let first : c.args.port ≡ 0 = grind (arith, c.if-port-eq0.true) in
    takes_first (heads_of g.C.Chooser.chosen) c.args.port c.args.message c.args.self.now _ first
    (first_taken g.C.Chooser.chosen g.met.C.Chooser.good c.args.self.now c.args.message c.take.new.own
    c.take.new.other c.take.result c.take.new.cut (c.requires ∙ ap Take first) c.take.ensures)
    (left_taken g.C.Chooser.chosen g.met.C.Chooser.good c.args.self.now c.take.result c.args.self.now.closed)

pub returns-clause-takes : goal.returns-clause-takes
returns-clause-takes g c =
    let second : c.args.port ≡ 1 = second_port g.C.Chooser.chosen g.met.C.Chooser.good c.args.self.now c.args.port
    c.requires (λ first. grind (arith, c.if-port-eq0.false)) in
    takes_second (heads_of g.C.Chooser.chosen) c.args.port c.args.message c.args.self.now _ second
    (second_taken g.C.Chooser.chosen g.met.C.Chooser.good c.args.self.now c.args.message c.take-2.new.own
    c.take-2.new.other c.take-2.result c.take-2.new.cut (c.requires ∙ ap Take second) c.take-2.ensures)
    (left_taken g.C.Chooser.chosen g.met.C.Chooser.good c.args.self.now c.take-2.result c.args.self.now.closed)
