use Rattle.std.proofs.Common.{◌≡◌, ◌∙◌, ◌<◌, ◌^◌, ℕ, ℤ, ap, arith, of_z, rules, subst, to_z, w32, w64}
use Rattle.osm_entity.specs.Counts.{counted}
use Rattle.osm_block_read.specs.Entries.{seconds_at, text_at}
use Rattle.osm_block_read.specs.Faults.{last_second}
use Rattle.osm_block_read.specs.Seen.{entry_seen}
use Rattle.osm_block_read.proofs.PieceLemmas.{entity-kept, entity-made, fine-parts, fine-tags}
use Rattle.osm_block_read.proofs.piece.Piece.item.Goals as goal

pub unreachable-requires : goal.unreachable-requires
unreachable-requires c =
    let fine = fine-parts c.self.inside.setting (entry_seen c.self.inside.entry) c.self.invariant.fine in
    let same : to_z w64 (of_z w64 c.self.inside.entry.info.timestamp) ≡ c.self.inside.entry.info.timestamp =
    search rules in
    let late = subst (λ (t : ℤ). last_second < seconds_at c.self.inside.setting.date_granularity t) same
    c.in_default.ensures.none in
    omega (arith, fine.time, late)

pub make_tags-requires : goal.make_tags-requires
make_tags-requires c = fine-tags c.self.inside.setting (entry_seen c.self.inside.entry) c.self.invariant.fine

pub make_body-requires : goal.make_body-requires
make_body-requires c =
    (fine-parts c.self.inside.setting (entry_seen c.self.inside.entry) c.self.invariant.fine).fits

pub invariant_of-entity : goal.invariant_of-entity
invariant_of-entity c =
    let s = c.self.inside.setting in
    let entry = entry_seen c.self.inside.entry in
    let info = c.self.inside.entry.info in
    let id : to_z w64 (of_z w64 c.self.inside.entry.id) ≡ c.self.inside.entry.id = search rules in
    let version : to_z w32 (of_z w32 info.version) ≡ info.version = search rules in
    let timestamp : to_z w64 (of_z w64 info.timestamp) ≡ info.timestamp = search rules in
    let changeset : to_z w64 (of_z w64 info.changeset) ≡ info.changeset = search rules in
    let uid : to_z w32 (of_z w32 info.uid) ≡ info.uid = search rules in
    let user : to_z w64 (of_z w64 info.user) ≡ info.user = search rules in
    let is_version : c.counted32.result ≡ counted info.version = c.counted32.ensures.value ∙ ap counted version in
    let is_changeset : c.counted64.result ≡ counted info.changeset = c.counted64.ensures.value ∙ ap counted changeset in
    let is_uid : c.counted32-2.result ≡ counted info.uid = c.counted32-2.ensures.value ∙ ap counted uid in
    let kept =
    entity-kept s entry (fine-parts s entry c.self.invariant.fine)
    (subst (λ (n : ℕ). n < 2 ^ 31) is_version c.counted32.ensures.small)
    (subst (λ (n : ℕ). n < 2 ^ 63) is_changeset c.counted64.ensures.small)
    (subst (λ (n : ℕ). n < 2 ^ 31) is_uid c.counted32-2.ensures.small) in
    entity-made s entry _ _ _ _ _ _ _ _ kept id is_version (c.in-Some.ensures.some
    ∙ ap (seconds_at s.date_granularity) timestamp)
    is_changeset is_uid (c.in_ok-user.ensures ∙ ap (text_at s.texts) user) c.in_ok-tags.ensures c.in_ok-body.ensures
