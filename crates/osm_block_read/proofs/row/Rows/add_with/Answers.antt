use Rattle.std.proofs.Common.{◌≡◌, ℤ, Some, arith, of_z, rules, subst, to_z, w64}
use Rattle.osm_wire.specs.Entries.{singular}
use Rattle.osm_block_read.specs.Plain.{info, no_info}
use Rattle.osm_block_read.specs.Rows.{IsSaidAdded, body_in}
use Rattle.osm_block_read.specs.WayCodes.{entry_tagged}
use Rattle.osm_block_read.proofs.RowLemmas.{entity-said}
use Rattle.osm_block_read.proofs.row.Rows.add_with.Goals as goal

pub returns-clause-ok : goal.returns-clause-ok
returns-clause-ok c =
    let old = c.args.self.now in
    let new = c.add_tagged.new.self in
    let body = body_in old.lists c.args.body in
    let keys = c.read_codes.new.codes.items in
    let values = c.read_codes-2.new.codes.items in
    let known : singular no_info info 4 c.args.fields.now ≡ Some c.in_ok-info.info = grind arith in
    let bits : to_z w64 (of_z w64 c.args.id) ≡ c.args.id = search rules in
    let added =
    subst (λ (id : ℤ). IsSaidAdded old new (Some (entry_tagged id body c.args.even keys values c.in_ok-info.info))) bits
    c.in_ok-add_tagged.ensures in
    entity-said old new c.args.id body c.args.even c.args.fields.now keys values c.in_ok-info.info
    c.in_ok-read_codes.ensures.ok
    c.in_ok-read_codes-2.ensures.ok known added
