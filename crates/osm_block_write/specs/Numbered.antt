-- Entities with numbers in the place of their texts.
-- Here each number is that of a text in the whole table of the run; the code has it from the table so far.
use Rattle.std.specs.Prelude.{ℕ, List, map, if◌then◌else◌}
use Rattle.osm_entity.specs.Entities.{EntityValue}
use Rattle.osm_entity.specs.declared.parts.Tag.{Tag}
use Rattle.osm_block_write.specs.declared.options.PbfOptions.{PbfOptions}
use Rattle.osm_block_write.specs.Tables.{text_number, role_texts}

-- a tag's key and value by their numbers
pub record NumberedTag : Type 0 where
  pub key : ℕ
  pub value : ℕ

-- an entity, and the numbers of its user, of its tags and of its roles
pub record Numbered : Type 0 where
  pub entity : EntityValue
  pub user : ℕ
  pub tags : List NumberedTag
  pub roles : List ℕ

-- a tag by the numbers of a table
abbrev pub numbered_tag : List (List ℕ) → Tag → NumberedTag
numbered_tag table tag = record { key = text_number table tag.key; value = text_number table tag.value }

-- the number of a user; 0 where metadata is left out
abbrev pub user_number : PbfOptions → List (List ℕ) → List ℕ → ℕ
user_number options table user = if options.omitmetadata then 0 else text_number table user

-- an entity by the numbers of a table
abbrev pub with_numbers : PbfOptions → List (List ℕ) → EntityValue → Numbered
with_numbers options table e = record {
  entity = e;
  user = user_number options table e.user;
  tags = map (numbered_tag table) e.tags;
  roles = map (text_number table) (role_texts e.body);
}
