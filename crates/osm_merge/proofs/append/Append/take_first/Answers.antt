use Rattle.std.proofs.Common.{refl, Some}
use Rattle.osm_entity.specs.declared.stream.Message.TheVariants.{Item as One}
use Rattle.osm_merge.specs.Append.{appending}
use Rattle.osm_merge.proofs.AppendCalls.{first_end, first_item, first_left}
use Rattle.osm_merge.proofs.TwoInputLemmas.{takes_first}
use Rattle.osm_merge.proofs.append.Append.take_first.Goals as goal

pub returns-in-Item : goal.returns-in-Item
returns-in-Item c = takes_first appending 0 c.args.message c.args.self.now _ refl
    (λ x z y s. rw c.in-Item.is (first_item c.args.self.now c.requires c.in-Item.item x z y s))
    (first_left c.args.self.now c.requires (Some (One c.in-Item.item)))

pub returns-in-End : goal.returns-in-End
returns-in-End c = takes_first appending 0 c.args.message c.args.self.now _ refl
    (λ x z y s. rw c.in-End.is (first_end c.args.self.now c.requires c.in-End.end x z y s))
    (first_left c.args.self.now c.requires c.args.self.now.held)
