-- Dense nodes: a list for each kind of number, of which the n-th node has the n-th of each.
-- Here the lists are whole; the code goes through all of them at once.
use Rattle.std.specs.Prelude.{ℕ, ℤ, pos, negsuc, ◌==◌, ◌&&◌, ◌||◌, Bool, true, false, List, [], ◌∷◌, length, map, replicate, Option, Some, None, slice_index_or, if◌then◌else◌}
use Rattle.std.specs.Int.{w32, w64}
use Rattle.std.specs.List.{range_with_len}
use Rattle.std.specs.Option.{option_map}
use Rattle.osm_wire.specs.Entries.{◌>>=◌, message_fields, repeated, singular}
use Rattle.osm_wire.specs.Integers.{int32, sint32, truth, unzigzagged}
use Rattle.osm_block_read.specs.Entries.{Entry, At}
use Rattle.osm_block_read.specs.declared.entry.EntryInfo.{EntryInfo}
use Rattle.osm_block_read.specs.declared.entry.EntryTag.{EntryTag}
use Rattle.osm_block_read.specs.Numbers.{summed}

-- the metadata of dense nodes, a list for each field
pub record DenseInfo : Type 0 where
  pub versions : List ℤ
  pub timestamps : List ℤ
  pub changesets : List ℤ
  pub uids : List ℤ
  pub users : List ℤ
  pub visibles : List Bool

-- dense nodes: their ids, metadata, latitudes and longitudes, and the indexes of all their tags in one list
pub record Dense : Type 0 where
  pub ids : List ℤ
  pub info : DenseInfo
  pub lats : List ℤ
  pub lons : List ℤ
  pub keys_vals : List ℤ

-- no metadata
abbrev pub no_dense_info : DenseInfo
no_dense_info = record { versions = []; timestamps = []; changesets = []; uids = []; users = []; visibles = [] }

-- what a message of metadata of dense nodes says; None where it isn't well formed
abbrev pub dense_info : List ℕ → Option DenseInfo
dense_info bytes = do
  fields ← message_fields bytes
  versions ← repeated 1 fields
  timestamps ← repeated 2 fields
  changesets ← repeated 3 fields
  uids ← repeated 4 fields
  users ← repeated 5 fields
  visibles ← repeated 6 fields
  Some (record {
    versions = map int32 versions;
    timestamps = summed w64 (map unzigzagged timestamps);
    changesets = summed w64 (map unzigzagged changesets);
    uids = summed w32 (map sint32 uids);
    users = summed w32 (map sint32 users);
    visibles = map truth visibles;
  })

-- what a message of dense nodes says; None where it isn't well formed
abbrev pub dense : List ℕ → Option Dense
dense bytes = do
  fields ← message_fields bytes
  ids ← repeated 1 fields
  info ← singular no_dense_info dense_info 5 fields
  lats ← repeated 8 fields
  lons ← repeated 9 fields
  indexes ← repeated 10 fields
  Some (record {
    ids = summed w64 (map unzigzagged ids);
    info = info;
    lats = summed w64 (map unzigzagged lats);
    lons = summed w64 (map unzigzagged lons);
    keys_vals = map int32 indexes;
  })

-- an index of 0, which in the place of a key ends a node
abbrev pub is_node_end : ℤ → Bool
is_node_end (pos n) = n == 0
is_node_end (negsuc n) = false

-- a tag before those of the first node
abbrev pub with_first_tag : EntryTag → Option (List (List EntryTag)) → Option (List (List EntryTag))
with_first_tag tag None = None
with_first_tag tag (Some []) = None
with_first_tag tag (Some (tags ∷ more)) = Some ((tag ∷ tags) ∷ more)

-- the tags of each node: pairs of key and value up to a 0 in the place of a key, which ends each node; None where the
-- list stops before such an end
abbrev pub tags_of_each : List ℤ → Option (List (List EntryTag))
tags_of_each [] = Some []
tags_of_each (key ∷ []) = if is_node_end key then Some ([] ∷ []) else None
tags_of_each (key ∷ value ∷ rest) =
    if is_node_end key then option_map (λ more. [] ∷ more) (tags_of_each (value ∷ rest))
    else with_first_tag (record { key = key; value = value }) (tags_of_each rest)

-- the tags of each of the given number of nodes, none of which has any where the list is empty; None where they are
-- others in number
abbrev pub tags_of_all : ℕ → List ℤ → Option (List (List EntryTag))
tags_of_all count [] = Some (replicate count [])
tags_of_all count (index ∷ indexes) = do
  each ← tags_of_each (index ∷ indexes)
  if length each == count then Some each else None

-- a list is empty, or has this length
abbrev pub is_full : {T : Type 0} → ℕ → List T → Bool
is_full count list = length list == 0 || length list == count

-- each list of the metadata of nodes is empty, or has one number for each
abbrev pub is_info_full : ℕ → DenseInfo → Bool
is_info_full count info =
    is_full count info.versions && is_full count info.timestamps && is_full count info.changesets
    && is_full count info.uids && is_full count info.users && is_full count info.visibles

-- there are as many latitudes and longitudes as ids, and the metadata of as many
abbrev pub are_lengths_fit : Dense → Bool
are_lengths_fit d =
    (length d.lats == length d.ids) && (length d.lons == length d.ids) && is_info_full (length d.ids) d.info

-- the metadata of the n-th node, with the default where a list is empty
abbrev pub dense_info_at : DenseInfo → ℕ → EntryInfo
dense_info_at info n = record {
  version = slice_index_or info.versions n (negsuc 0);
  timestamp = slice_index_or info.timestamps n (pos 0);
  changeset = slice_index_or info.changesets n (pos 0);
  uid = slice_index_or info.uids n (pos 0);
  user = slice_index_or info.users n (pos 0);
  visible = slice_index_or info.visibles n true;
}

-- the n-th node, whose tags are the n-th of these
abbrev pub dense_entry_at : Dense → List (List EntryTag) → ℕ → Entry
dense_entry_at d each n = record {
  even = true;
  id = slice_index_or d.ids n (pos 0);
  info = dense_info_at d.info n;
  tags = slice_index_or each n [];
  body = At (slice_index_or d.lats n (pos 0)) (slice_index_or d.lons n (pos 0));
}

-- the nodes; None where the lengths of their lists don't fit
abbrev pub dense_entries : Dense → Option (List Entry)
dense_entries d = if are_lengths_fit d
    then option_map (λ each. map (dense_entry_at d each) (range_with_len 0 (length d.ids)))
    (tags_of_all (length d.ids) d.keys_vals)
    else None
