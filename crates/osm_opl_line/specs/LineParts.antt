-- The three parts of a written line.
-- Here each is one formula; the code appends field after field.
use Rattle.std.specs.Prelude.{ℕ, List, ◌∷◌, ◌++◌, map, codes, decimal}
use Rattle.std.specs.Fmt.{signed_decimal}
use Rattle.std.specs.List.{join_with_byte}
use Rattle.osm_entity.specs.Ascii.{comma}
use Rattle.osm_entity.specs.Entities.{EntityValue}
use Rattle.osm_entity.specs.Items.{ItemValue, kind_of}
use Rattle.osm_text.specs.Escapes.{escaped}
use Rattle.osm_opl_line.specs.Writing.{act_text, body_text, kind_letter, tag_text, time_field}

-- the kind and the id, the version, what is done, and the changeset
abbrev pub head_text : ItemValue → List ℕ
head_text item =
    kind_letter (kind_of item.entity.body) ∷ signed_decimal item.entity.id
    ++ codes " v" ++ decimal item.entity.version
    ++ codes " d" ++ act_text item.act
    ++ codes " c" ++ decimal item.entity.changeset

-- the time, the uid and the user
abbrev pub author_text : EntityValue → List ℕ
author_text e = codes " t" ++ time_field e.time ++ codes " i" ++ decimal e.uid ++ codes " u" ++ escaped e.user

-- the tags, and the fields that only a kind has
abbrev pub lists_text : EntityValue → List ℕ
lists_text e = codes " T" ++ join_with_byte comma (map tag_text e.tags) ++ body_text e.body
