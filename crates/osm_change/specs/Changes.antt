-- What changes make of entities.
-- Here a key has one entity and one change at most; the code has them as its two inputs bring them.
use Rattle.std.specs.Prelude.{◌≡◌, refl, Option, Some, None}
use Rattle.osm_entity.specs.Items.{ItemValue, key_of}
use Rattle.osm_entity.specs.declared.item.Act.{Act}
use Rattle.osm_entity.specs.declared.item.Act.TheVariants.{Keep, Create, Modify, Delete}
use Rattle.osm_entity.specs.declared.kind.Key.{Key}
use Rattle.osm_merge.specs.Rules.{Choice, HasKey, IsChoice}

-- by its act a change puts its entity, or nothing where it deletes
abbrev pub put_by_act : Act → ItemValue → Option ItemValue
put_by_act Keep item = Some (record item { act = Keep })
put_by_act Create item = Some (record item { act = Keep })
put_by_act Modify item = Some (record item { act = Keep })
put_by_act Delete item = None

-- what a change puts
abbrev pub put_change : ItemValue → Option ItemValue
put_change item = put_by_act item.act item

-- at a key stands what the change puts, and where there is no change the base
abbrev pub laid_over : Choice
laid_over base None = base
laid_over base (Some change) = put_change change

put_key : (act : Act) (item : ItemValue) (key : Key) → key_of item ≡ key → HasKey key (put_by_act act item)
put_key Keep item key is = is
put_key Create item key is = is
put_key Modify item key is = is
put_key Delete item key is = tt

laid_key : (key : Key) (a b : Option ItemValue) → HasKey key a → HasKey key b → HasKey key (laid_over a b)
laid_key key a None left right = left
laid_key key a (Some change) left right = put_key change.act change key right

-- laying changes over a base is a choice
pub laid_over_is_choice : IsChoice laid_over
laid_over_is_choice = record { nothing = refl; keeps = laid_key }
