use Rattle.std.proofs.Common.{◌≡◌, drop}
use Rattle.std.specs.List.{flat_map}
use Rattle.osm_entity.specs.Prefixes.{IsPrefix}
use Rattle.osm_block_write.specs.Tables.{tag_texts, with_texts}
use Rattle.osm_block_write.proofs.numbering.take_tags.Given as goal

abbrev pub invariant-loop-tag : goal.invariant-loop-tag
invariant-loop-tag l =
    (with_texts l.texts (flat_map tag_texts (drop l.tag-index l.tags))
    ≡ with_texts l.fn.texts (flat_map tag_texts l.tags))
    × IsPrefix l.fn.texts l.texts
