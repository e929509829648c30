use Rattle.std.proofs.Common.{◌≡◌, ◌∙◌, ℕ, List, Some, arith, map, of_z, refl, rules, subst, to_z, w64}
use Rattle.std.specs.Option.{option_map}
use Rattle.osm_wire.specs.Entries.{said_or}
use Rattle.osm_wire.specs.Integers.{int64, unzigzagged}
use Rattle.osm_block_read.specs.Numbers.{summed}
use Rattle.osm_block_read.specs.Plain.{info, no_info}
use Rattle.osm_block_read.specs.Spans.{IsPartAdded}
use Rattle.osm_block_read.specs.WayCodes.{WayCodes}
use Rattle.osm_block_read.proofs.EntityLemmas.{way-added}
use Rattle.osm_block_read.proofs.row.Rows.read_way.Goals as goal

pub returns-clause-ok : goal.returns-clause-ok
returns-clause-ok c =
    let old = c.args.self.now in
    let lists = c.add_refs.new.self in
    let codes = c.read_way.new.self in
    let way : WayCodes = record {
      id = c.in_ok-way.way.id;
      refs = codes.ids.items;
      keys = codes.keys.items;
      values = codes.values.items;
      described = option_map (λ s. s.now) c.in_ok-way.way.described;
    } in
    let known : said_or no_info info way.described ≡ Some c.in_ok-info.info = grind arith in
    let bits : to_z w64 (of_z w64 c.int64-id.result) ≡ c.int64-id.result = search rules in
    let shown : to_z w64 (of_z w64 c.int64-id.result) ≡ int64 c.in_ok-way.way.id = bits ∙ c.int64-id.ensures in
    let refs =
    subst
    (λ (k : List ℕ). IsPartAdded old.lists.refs.items lists.refs.items
    (summed w64 (map unzigzagged k)) c.in_ok-refs.refs)
    c.as_slice.ensures.value c.in_ok-refs.ensures.added in
    way-added old (record old { lists = lists }) c.add_tagged.new.self c.args.message.now way
    (to_z w64 (of_z w64 c.int64-id.result)) c.in_ok-info.info c.in_ok-refs.refs c.requires c.in_ok-way.ensures.ok known
    shown refs c.in_ok-refs.ensures.tags c.in_ok-refs.ensures.members refl c.in_ok-add_tagged.ensures
