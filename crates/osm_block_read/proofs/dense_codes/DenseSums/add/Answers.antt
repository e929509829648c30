use Rattle.std.proofs.Common.{of_z, rules, to_z, w32, w64}
use Rattle.osm_wire.specs.Integers.{sint32, unzigzagged}
use Rattle.osm_block_read.proofs.SumLemmas.{sum-added}
use Rattle.osm_block_read.proofs.dense_codes.DenseSums.add.Goals as goal

pub returns : goal.returns
returns c =
    let codes = c.args.codes.now in
    let old = c.args.self.now in
    let at = c.args.at in
    record {
      id =
          sum-added w64 unzigzagged codes.ids.items c.as_slice.result.now at old.id
          (to_z w64 (of_z w64 old.id)) c.next_sum-self.result
          (to_z w64 (of_z w64 c.next_sum-self.result)) c.requires.id c.next_sum-self.ensures c.as_slice.ensures.value
          (search rules) (search rules);
      timestamp =
          sum-added w64 unzigzagged codes.timestamps.items c.as_slice-2.result.now at old.timestamp
          (to_z w64 (of_z w64 old.timestamp)) c.next_sum-self-2.result
          (to_z w64 (of_z w64 c.next_sum-self-2.result)) c.requires.timestamp c.next_sum-self-2.ensures
          c.as_slice-2.ensures.value (search rules) (search rules);
      changeset =
          sum-added w64 unzigzagged codes.changesets.items c.as_slice-3.result.now at old.changeset
          (to_z w64 (of_z w64 old.changeset)) c.next_sum-self-3.result
          (to_z w64 (of_z w64 c.next_sum-self-3.result)) c.requires.changeset c.next_sum-self-3.ensures
          c.as_slice-3.ensures.value (search rules) (search rules);
      uid =
          sum-added w32 sint32 codes.uids.items c.as_slice-4.result.now at old.uid
          (to_z w32 (of_z w32 old.uid)) c.next_sum32-self.result
          (to_z w32 (of_z w32 c.next_sum32-self.result)) c.requires.uid c.next_sum32-self.ensures
          c.as_slice-4.ensures.value (search rules) (search rules);
      user =
          sum-added w32 sint32 codes.users.items c.as_slice-5.result.now at old.user
          (to_z w32 (of_z w32 old.user)) c.next_sum32-self-2.result
          (to_z w32 (of_z w32 c.next_sum32-self-2.result)) c.requires.user c.next_sum32-self-2.ensures
          c.as_slice-5.ensures.value (search rules) (search rules);
      lat =
          sum-added w64 unzigzagged codes.lats.items c.as_slice-6.result.now at old.lat
          (to_z w64 (of_z w64 old.lat)) c.next_sum-self-4.result
          (to_z w64 (of_z w64 c.next_sum-self-4.result)) c.requires.lat c.next_sum-self-4.ensures
          c.as_slice-6.ensures.value (search rules) (search rules);
      lon =
          sum-added w64 unzigzagged codes.lons.items c.as_slice-7.result.now at old.lon
          (to_z w64 (of_z w64 old.lon)) c.next_sum-self-5.result
          (to_z w64 (of_z w64 c.next_sum-self-5.result)) c.requires.lon c.next_sum-self-5.ensures
          c.as_slice-7.ensures.value (search rules) (search rules);
    }
