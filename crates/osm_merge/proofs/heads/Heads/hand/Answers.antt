use Rattle.std.proofs.Common.{◌∙◌, sym, refl}
use Rattle.osm_entity.specs.declared.stream.End.TheVariants.{Done, Broken}
use Rattle.osm_entity.specs.declared.stream.Message.TheVariants.{Item as One, End as Last}
use Rattle.osm_merge.specs.Heads.{heads_of}
use Rattle.osm_merge.proofs.HeadsCalls.{end_given, give_port, item_given, left_ended, left_given}
use Rattle.osm_merge.proofs.TwoInputLemmas.{gives_first}
use Rattle.osm_merge.proofs.heads.Heads.hand.Goals as goal

pub returns-in-Some-clause-gives : goal.returns-in-Some-clause-gives
returns-in-Some-clause-gives g c =
    gives_first (heads_of g.C.Chooser.chosen) c.args.port (One c.in-Some.item) c.args.self.now _
    (give_port c.args.self.now.ready c.args.self.now.closed c.args.self.now.first.ended c.args.self.now.second.ended
    c.args.self.now.first.waiting c.args.port c.requires)
    (item_given g.C.Chooser.chosen g.met.C.Chooser.good c.args.self.now c.in-Some.item c.take.new.self
    (sym c.take.ensures.value ∙ c.in-Some.is) c.take.ensures.after)
    (left_given g.C.Chooser.chosen g.met.C.Chooser.good c.args.self.now c.in-Some.item c.take.new.self
    (sym c.take.ensures.value ∙ c.in-Some.is) c.take.ensures.after)

pub returns-in-None-clause-gives : goal.returns-in-None-clause-gives
returns-in-None-clause-gives g c =
    gives_first (heads_of g.C.Chooser.chosen) c.args.port (Last Done) c.args.self.now _
    (give_port c.args.self.now.ready c.args.self.now.closed c.args.self.now.first.ended c.args.self.now.second.ended
    c.args.self.now.first.waiting c.args.port c.requires)
    (end_given g.C.Chooser.chosen g.met.C.Chooser.good c.args.self.now Done c.take.new.self c.args.port c.requires
    (sym c.take.ensures.value ∙ c.in_default.is) c.take.ensures.after (rw c.in-None.is refl))
    (left_ended g.C.Chooser.chosen g.met.C.Chooser.good c.args.self.now c.take.new.self c.args.port c.requires
    (sym c.take.ensures.value ∙ c.in_default.is) c.take.ensures.after)

pub returns-in-Some-cut-clause-gives : goal.returns-in-Some-cut-clause-gives
returns-in-Some-cut-clause-gives g c =
    gives_first (heads_of g.C.Chooser.chosen) c.args.port (Last Broken) c.args.self.now _
    (give_port c.args.self.now.ready c.args.self.now.closed c.args.self.now.first.ended c.args.self.now.second.ended
    c.args.self.now.first.waiting c.args.port c.requires)
    (end_given g.C.Chooser.chosen g.met.C.Chooser.good c.args.self.now Broken c.take.new.self c.args.port c.requires
    (sym c.take.ensures.value ∙ c.in_default.is) c.take.ensures.after (rw c.in-Some-cut.is refl))
    (left_ended g.C.Chooser.chosen g.met.C.Chooser.good c.args.self.now c.take.new.self c.args.port c.requires
    (sym c.take.ensures.value ∙ c.in_default.is) c.take.ensures.after)
