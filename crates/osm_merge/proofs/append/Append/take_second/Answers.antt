use Rattle.std.proofs.Common.{refl, Some}
use Rattle.osm_entity.specs.declared.stream.Message.TheVariants.{Item as One, End as Last}
use Rattle.osm_merge.specs.Append.{appending}
use Rattle.osm_merge.proofs.AppendCalls.{second_dropped, second_end, second_item, second_left}
use Rattle.osm_merge.proofs.TwoInputLemmas.{takes_second}
use Rattle.osm_merge.proofs.append.Append.take_second.Goals as goal

pub returns-in-Done : goal.returns-in-Done
returns-in-Done c = takes_second appending 1 c.args.message c.args.self.now _ refl
    (λ x z y s. rw c.in-Item.is (second_item c.args.self.now c.args.first c.requires.wanted c.requires.first x z y s
    c.in-Item.item c.in-Done.is))
    (second_left c.args.self.now c.args.first c.requires.wanted c.requires.first (Some (One c.in-Item.item)))

pub returns-in-Broken : goal.returns-in-Broken
returns-in-Broken c = takes_second appending 1 c.args.message c.args.self.now _ refl
    (λ x z y s. rw c.in-Item.is (second_dropped c.args.self.now c.args.first c.requires.wanted c.requires.first x z y s
    c.in-Item.item c.in-Broken.is))
    (second_left c.args.self.now c.args.first c.requires.wanted c.requires.first c.args.self.now.held)

pub returns-in-End : goal.returns-in-End
returns-in-End c = takes_second appending 1 c.args.message c.args.self.now _ refl
    (λ x z y s. rw c.in-End.is (second_end c.args.self.now c.args.first c.requires.wanted c.requires.first x z y s
    c.in-End.end c.appended_end.result c.appended_end.ensures))
    (second_left c.args.self.now c.args.first c.requires.wanted c.requires.first (Some (Last c.appended_end.result)))
