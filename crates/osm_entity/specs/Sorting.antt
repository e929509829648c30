-- Items sorted by key.
-- Here each item is put into its place, one after the other; the code sorts them all at once, in place.
use Rattle.std.specs.Prelude.{List, [], ◌∷◌, fold, if◌then◌else◌}
use Rattle.osm_entity.specs.Items.{ItemValue, key_of}
use Rattle.osm_entity.specs.Keys.{is_key_before}

-- an item put into sorted items: before the first whose key is greater
abbrev pub put_by_key : List ItemValue → ItemValue → List ItemValue
put_by_key [] item = item ∷ []
put_by_key (x ∷ more) item =
    if is_key_before (key_of item) (key_of x) then item ∷ x ∷ more else x ∷ put_by_key more item

-- items sorted by key, equal keys in their old order: each is put into those before it
abbrev pub sorted_by_key : List ItemValue → List ItemValue
sorted_by_key items = fold put_by_key [] items
