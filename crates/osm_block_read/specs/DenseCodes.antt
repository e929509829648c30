-- Dense nodes as the code reads them: the codes of each list, and the sums of those before a place.
-- Here a sum is taken from all codes before it; the code adds each to the one before.
use Rattle.std.specs.Prelude.{ℕ, ℤ, pos, ◌≡◌, ◌==◌, ◌&&◌, ◌+ℤ◌, List, length, map, slice_index_or, Option, Some, None, Bool, true, false}
use Rattle.std.proofs.Common.{suc, zero}
use Rattle.std.specs.Int.{Width, w32, w64, int_wrap}
use Rattle.osm_wire.specs.Integers.{int32, sint32, truth, unzigzagged}
use Rattle.osm_block_read.specs.Dense.{Dense, DenseInfo, is_full}
use Rattle.osm_block_read.specs.Entries.{Entry}
use Rattle.osm_block_read.specs.Numbers.{summed}
use Rattle.osm_block_read.specs.Rows.{AreRowsIn, IsAdded}
use Rattle.osm_block_read.specs.declared.dense_codes.DenseCodes.{DenseCodes}
use Rattle.osm_block_read.specs.declared.dense_codes.DenseSums.{DenseSums}
use Rattle.osm_block_read.specs.declared.entry.EntryInfo.{EntryInfo}
use Rattle.osm_block_read.specs.declared.row.Row.{Row}
use Rattle.osm_block_read.specs.declared.row.RowBody.TheVariants.{At}
use Rattle.osm_block_read.specs.declared.row.Rows.{Rows}
use Rattle.osm_block_read.specs.declared.span.Span.{Span}

-- the metadata of lists of codes
abbrev pub dense_info_of : DenseCodes → DenseInfo
dense_info_of c = record {
  versions = map int32 c.versions.items;
  timestamps = summed w64 (map unzigzagged c.timestamps.items);
  changesets = summed w64 (map unzigzagged c.changesets.items);
  uids = summed w32 (map sint32 c.uids.items);
  users = summed w32 (map sint32 c.users.items);
  visibles = map truth c.visibles.items;
}

-- the dense nodes of lists of codes
abbrev pub dense_of : DenseCodes → Dense
dense_of c = record {
  ids = summed w64 (map unzigzagged c.ids.items);
  info = dense_info_of c;
  lats = summed w64 (map unzigzagged c.lats.items);
  lons = summed w64 (map unzigzagged c.lons.items);
  keys_vals = map int32 c.keys_vals.items;
}

-- there are as many codes of latitudes and longitudes as of ids, and none of a kind of metadata or as many
abbrev pub are_codes_even : DenseCodes → Bool
are_codes_even c =
    (length c.lats.items == length c.ids.items) && (length c.lons.items == length c.ids.items)
    && is_full (length c.ids.items) c.versions.items && is_full (length c.ids.items) c.timestamps.items
    && is_full (length c.ids.items) c.changesets.items && is_full (length c.ids.items) c.uids.items
    && is_full (length c.ids.items) c.users.items && is_full (length c.ids.items) c.visibles.items

-- what the first n codes sum up to, where those past the end are 0
abbrev pub sum_before : Width → (ℕ → ℤ) → List ℕ → ℕ → ℤ
sum_before w value codes zero = pos 0
sum_before w value codes (suc n) = int_wrap w (sum_before w value codes n +ℤ value (slice_index_or codes n 0))

-- the sums of the first n codes of each list
pub record AreSums (c : DenseCodes) (n : ℕ) (s : DenseSums) : Type 0 where
  pub id : s.id ≡ sum_before w64 unzigzagged c.ids.items n
  pub timestamp : s.timestamp ≡ sum_before w64 unzigzagged c.timestamps.items n
  pub changeset : s.changeset ≡ sum_before w64 unzigzagged c.changesets.items n
  pub uid : s.uid ≡ sum_before w32 sint32 c.uids.items n
  pub user : s.user ≡ sum_before w32 sint32 c.users.items n
  pub lat : s.lat ≡ sum_before w64 unzigzagged c.lats.items n
  pub lon : s.lon ≡ sum_before w64 unzigzagged c.lons.items n

-- the row of a dense node, from the sums up to it, its metadata and the span of its tags
abbrev pub dense_row : DenseSums → EntryInfo → Span → Row
dense_row s info tags = record { even = true; id = s.id; info = info; tags = tags; body = At s.lat s.lon }

-- rows were added that say these entries, where the lengths fit
abbrev pub IsDenseAdded : Rows → Rows → Option (List Entry) → Bool → Type 0
IsDenseAdded old new said true = (entries : List Entry) × (said ≡ Some entries) × IsAdded old new entries
IsDenseAdded old new said false = AreRowsIn new × (said ≡ None)
