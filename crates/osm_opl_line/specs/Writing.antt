-- The bytes of an OPL file: one line for each item, all of one form.
-- Here a line is one formula of its item; the code appends field after field.
use Rattle.std.specs.Prelude.{ℕ, ℤ, zero, suc, List, [], ◌∷◌, ◌++◌, map, Some, None, codes, decimal}
use Rattle.std.specs.Fmt.{signed_decimal}
use Rattle.std.specs.List.{flat_map, join_with_byte}
use Rattle.osm_entity.specs.Ascii.{comma, equals_sign, at_sign, letter_n, letter_w, letter_r}
use Rattle.osm_entity.specs.Items.{ItemValue, kind_of}
use Rattle.osm_entity.specs.Streams.{Stream}
use Rattle.osm_entity.specs.declared.item.Act.{Act}
use Rattle.osm_entity.specs.declared.item.Act.TheVariants.{Delete}
use Rattle.osm_entity.specs.declared.kind.Kind.{Kind}
use Rattle.osm_entity.specs.declared.kind.Kind.TheVariants.{Node as OfNode, Way as OfWay, Relation as OfRelation}
use Rattle.osm_entity.specs.declared.parts.Place.{Place}
use Rattle.osm_entity.specs.declared.parts.Tag.{Tag}
use Rattle.osm_entity.specs.declared.parts.Member.{Member}
use Rattle.osm_entity.specs.declared.parts.Body.{Body}
use Rattle.osm_entity.specs.declared.parts.Body.TheVariants.{Node, Way, Relation}
use Rattle.osm_text.specs.Escapes.{escaped}
use Rattle.osm_text.specs.Numbers.{nano_text}
use Rattle.osm_text.specs.Times.{time_text}

-- the letter of a kind
abbrev pub kind_letter : Kind → ℕ
kind_letter OfNode = letter_n
kind_letter OfWay = letter_w
kind_letter OfRelation = letter_r

-- D for a delete, else V
abbrev pub act_text : Act → List ℕ
act_text Delete = codes "D"
act_text act = codes "V"

-- a time; nothing for 0
abbrev pub time_field : ℕ → List ℕ
time_field zero = []
time_field (suc seconds) = time_text (suc seconds)

-- a key and its value
abbrev pub tag_text : Tag → List ℕ
tag_text t = escaped t.key ++ equals_sign ∷ escaped t.value

-- a ref
abbrev pub ref_text : ℤ → List ℕ
ref_text id = letter_n ∷ signed_decimal id

-- a member's kind, id and role
abbrev pub member_text : Member → List ℕ
member_text m = kind_letter m.kind ∷ signed_decimal m.id ++ at_sign ∷ escaped m.role

-- x and y with the degrees of a place
abbrev pub place_text : Place → List ℕ
place_text p = codes " x" ++ nano_text p.lon ++ codes " y" ++ nano_text p.lat

-- the fields that only a kind has
abbrev pub body_text : Body → List ℕ
body_text (Node (Some p)) = place_text p
body_text (Node None) = codes " x y"
body_text (Way refs) = codes " N" ++ join_with_byte comma (map ref_text refs)
body_text (Relation members) = codes " M" ++ join_with_byte comma (map member_text members)

-- the line of an item: its kind and id, its metadata, its tags, the fields of its kind, and a newline
abbrev pub line_text : ItemValue → List ℕ
line_text item =
    kind_letter (kind_of item.entity.body) ∷ signed_decimal item.entity.id
    ++ codes " v" ++ decimal item.entity.version
    ++ codes " d" ++ act_text item.act
    ++ codes " c" ++ decimal item.entity.changeset
    ++ codes " t" ++ time_field item.entity.time
    ++ codes " i" ++ decimal item.entity.uid
    ++ codes " u" ++ escaped item.entity.user
    ++ codes " T" ++ join_with_byte comma (map tag_text item.entity.tags)
    ++ body_text item.entity.body
    ++ codes "\n"

-- the file of a stream: the lines of its items, whatever its end
abbrev pub opl_text : Stream → List ℕ
opl_text s = flat_map line_text s.items
