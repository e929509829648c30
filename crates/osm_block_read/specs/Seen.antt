-- How contracts see what the code has of a block.
-- Here an entry has its lists; the code has slices.
use Rattle.std.specs.Prelude.{ℕ, ℤ, List}
use Rattle.osm_entity.specs.declared.parts.Place.{Place}
use Rattle.osm_block_read.specs.Entries.{Entry, EntryBody, At, Along, Having, SettingValue, degrees_at}
use Rattle.osm_block_read.specs.declared.entry_ref.BodyRef.{BodyRef}
use Rattle.osm_block_read.specs.declared.entry_ref.BodyRef.TheVariants.{At as AtPlace, Along as AlongRefs, Having as HavingMembers}
use Rattle.osm_block_read.specs.declared.entry_ref.EntryRef.{EntryRef}
use Rattle.osm_block_read.specs.declared.setting.Scale.{Scale}

-- the setting of a block's texts and its scale
abbrev pub setting_of : List (List ℕ) → Scale → SettingValue
setting_of texts scale = record {
  texts = texts;
  granularity = scale.granularity;
  date_granularity = scale.date_granularity;
  lat_offset = scale.lat_offset;
  lon_offset = scale.lon_offset;
}

-- the place of a coded latitude and longitude
abbrev pub place_at : SettingValue → ℤ → ℤ → Place
place_at s lat lon = record {
  lon = degrees_at s.lon_offset s.granularity lon;
  lat = degrees_at s.lat_offset s.granularity lat;
}

-- what is proper to a kind, with the lists of its slices
abbrev pub body_seen : BodyRef → EntryBody
body_seen (AtPlace lat lon) = At lat lon
body_seen (AlongRefs refs) = Along refs.now
body_seen (HavingMembers members) = Having members.now

-- an entry with the lists of its slices
abbrev pub entry_seen : EntryRef → Entry
entry_seen e = record { even = e.even; id = e.id; info = e.info; tags = e.tags.now; body = body_seen e.body }
