use Rattle.std.proofs.Common.{◌≡◌, ◌∙◌, ℕ, List, Some, ap, arith, length, map, of_z, refl, rules, subst, to_z, w64}
use Rattle.std.proofs.lemmas.Result.{on_ok_weaker}
use Rattle.std.specs.Prelude.{◌==◌, ◌&&◌}
use Rattle.osm_wire.specs.Entries.{message_fields, needed}
use Rattle.osm_wire.specs.Integers.{int32, int64, unzigzagged}
use Rattle.osm_block_read.specs.Numbers.{summed}
use Rattle.osm_block_read.specs.Plain.{entry_members}
use Rattle.osm_block_read.specs.Spans.{IsPartAdded}
use Rattle.osm_block_read.proofs.EntityLemmas.{relation-added}
use Rattle.osm_block_read.proofs.row.Rows.read_relation.Goals as goal

pub returns-clause-ok : goal.returns-clause-ok
returns-clause-ok c =
    let old = c.args.self.now in
    let lists = c.add_members.new.self in
    let span = c.in_ok-members.members in
    let roles = c.read_codes.new.codes.items in
    let ids = c.read_codes-2.new.codes.items in
    let kinds = c.read_codes-3.new.codes.items in
    let fields : message_fields c.args.message.now ≡ Some c.in_ok-fields.fields = grind arith in
    let id : needed 1 c.in_ok-fields.fields ≡ Some c.in_ok-id.id = grind arith in
    let bits : to_z w64 (of_z w64 c.int64.result) ≡ c.int64.result = search rules in
    let shown : to_z w64 (of_z w64 c.int64.result) ≡ int64 c.in_ok-id.id = bits ∙ c.int64.ensures in
    let even =
    c.are_even-even.ensures
    ∙ ap (λ (k : List ℕ). (length k == length c.as_slice-2.result.now)
    && (length c.as_slice-3.result.now == length c.as_slice-2.result.now))
    c.as_slice.ensures.value
    ∙ ap (λ (i : List ℕ). (length kinds == length i) && (length c.as_slice-3.result.now == length i))
    c.as_slice-2.ensures.value
    ∙ ap (λ (r : List ℕ). (length kinds == length ids) && (length r == length ids)) c.as_slice-3.ensures.value in
    let first =
    subst
    (λ (k : List ℕ). IsPartAdded old.lists.members.items lists.members.items
    (entry_members (map int32 k) (summed w64 (map unzigzagged c.as_slice-5.result.now))
    (map int32 c.as_slice-6.result.now)) span)
    c.as_slice-4.ensures.value c.in_ok-members.ensures.added in
    let second =
    subst
    (λ (i : List ℕ). IsPartAdded old.lists.members.items lists.members.items
    (entry_members (map int32 kinds) (summed w64 (map unzigzagged i)) (map int32 c.as_slice-6.result.now)) span)
    c.as_slice-5.ensures.value first in
    let members =
    subst
    (λ (r : List ℕ). IsPartAdded old.lists.members.items lists.members.items
    (entry_members (map int32 kinds) (summed w64 (map unzigzagged ids)) (map int32 r)) span) c.as_slice-6.ensures.value
    second in
    on_ok_weaker c.add_with.result
    (λ added.
    relation-added old (record old { lists = lists }) c.add_with.new.self c.args.message.now c.in_ok-fields.fields
    c.in_ok-id.id
    (to_z w64 (of_z w64 c.int64.result)) c.are_even-even.result roles ids kinds span c.requires fields id shown even
    c.in_ok-read_codes.ensures.ok c.in_ok-read_codes-2.ensures.ok c.in_ok-read_codes-3.ensures.ok members
    c.in_ok-members.ensures.tags c.in_ok-members.ensures.refs refl added)
    c.add_with.ensures.ok
