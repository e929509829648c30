use Rattle.std.proofs.Common.{◌≡◌, get_or, rules, to_z, of_z, w64, pos}
use Rattle.std.proofs.lemmas.Int.{to_z-of_z}
use Rattle.osm_select.specs.IdSets.{among}
use Rattle.osm_select.proofs.LinkLemmas.{marked_more}
use Rattle.osm_select.proofs.ids.Ids.add_all.Goals as goal

pub loop-id-preserved : goal.loop-id-preserved
loop-id-preserved c =
    let id = get_or c.args.ids.now c.loop-id.id-index (pos 0) in
    let same : to_z w64 (of_z w64 id) ≡ id = search (rules, to_z-of_z) in
    marked_more (among c.args.self.now) (among c.loop-id.self) (among c.add.new.self) c.args.ids.now
    c.loop-id.id-index _ c.loop-id-test.true same c.loop-id.invariant c.in_ok-add.ensures
