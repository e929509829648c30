-- What may be wrong with the entries of a block, in the order in which it counts.
-- Here each check goes through the whole entry; the code goes through its lists once.
use Rattle.std.specs.Prelude.{ℕ, ℤ, pos, negsuc, ◌==◌, ◌&&◌, not, nat_lt, Bool, true, false, List, [], ◌∷◌, length, map, Result, Ok, Err, if◌then◌else◌, Option, Some, None}
use Rattle.std.specs.List.{list_all, list_any}
use Rattle.std.specs.Option.{option_or}
use Rattle.osm_entity.specs.Entities.{weight_of, body_fits, greatest_weight}
use Rattle.osm_entity.specs.Items.{ItemValue}
use Rattle.osm_entity.specs.declared.verdict.Cause.{Cause}
use Rattle.osm_entity.specs.declared.verdict.Cause.TheVariants.{BadLengths, BadIndex, BadField, BadCoordinate, BadTime, Deleted, TooHeavy}
use Rattle.osm_block_read.specs.Entries.{Entry, EntryBody, At, Along, Having, SettingValue, entry_body, entry_entity, entry_item, seconds_at, text_at}
use Rattle.osm_block_read.specs.declared.entry.EntryMember.{EntryMember}
use Rattle.osm_block_read.specs.declared.entry.EntryTag.{EntryTag}

-- an index that isn't negative and is below this count
abbrev pub is_index_below : ℕ → ℤ → Bool
is_index_below count (pos n) = nat_lt n count
is_index_below count (negsuc n) = false

-- an index of a user: below the count of the texts, or 0 where there are none
abbrev pub is_user_index : List (List ℕ) → ℤ → Bool
is_user_index [] index = is_index_below 1 index
is_user_index (text ∷ texts) index = is_index_below (length (text ∷ texts)) index

-- both indexes of a tag are those of texts
abbrev pub is_tag_index : List (List ℕ) → EntryTag → Bool
is_tag_index texts t = is_index_below (length texts) t.key && is_index_below (length texts) t.value

-- a member's kind is 0, 1 or 2, and its role's index is that of a text
abbrev pub is_member_index : List (List ℕ) → EntryMember → Bool
is_member_index texts m = is_index_below 3 m.kind && is_index_below (length texts) m.role

-- all indexes of what is proper to a kind are those of texts, and all numbers of kinds are 0, 1 or 2
abbrev pub has_body_indexes : List (List ℕ) → EntryBody → Bool
has_body_indexes texts (At lat lon) = true
has_body_indexes texts (Along refs) = true
has_body_indexes texts (Having members) = list_all (is_member_index texts) members

-- all indexes of an entry are those of texts, and all numbers of kinds are 0, 1 or 2
abbrev pub has_indexes : List (List ℕ) → Entry → Bool
has_indexes texts e =
    list_all (is_tag_index texts) e.tags && is_user_index texts e.info.user && has_body_indexes texts e.body

-- the key of a tag is the empty text
abbrev pub has_empty_key : List (List ℕ) → EntryTag → Bool
has_empty_key texts t = length (text_at texts t.key) == 0

-- the last second that a time can be: 32 bits hold it
abbrev pub last_second : ℕ
last_second = 4294967295

-- the first thing that is wrong with an entry: its lengths, its indexes, an empty key, its place, its time, that it is
-- deleted, or its weight
unfoldable pub entry_fault : SettingValue → Entry → Option Cause
entry_fault s e =
    if not e.even then Some BadLengths
    else if not (has_indexes s.texts e) then Some BadIndex
    else if list_any (has_empty_key s.texts) e.tags then Some BadField
    else if not (body_fits (entry_body s e.body)) then Some BadCoordinate
    else if nat_lt last_second (seconds_at s.date_granularity e.info.timestamp) then Some BadTime
    else if not e.info.visible then Some Deleted
    else if nat_lt greatest_weight (weight_of (entry_entity s e)) then Some TooHeavy
    else None

-- what is wrong with the first entry with which something is
abbrev pub entries_fault : SettingValue → List Entry → Option Cause
entries_fault s [] = None
entries_fault s (e ∷ more) = option_or (entry_fault s e) (entries_fault s more)

-- a value, unless there is a cause
abbrev pub unless : {T : Type 0} → Option Cause → T → Result T Cause
unless None value = Ok value
unless (Some cause) value = Err cause

-- the items of entries, or what is wrong with the first with which something is
abbrev pub entries_said : SettingValue → List Entry → Result (List ItemValue) Cause
entries_said s entries = unless (entries_fault s entries) (map (entry_item s) entries)
