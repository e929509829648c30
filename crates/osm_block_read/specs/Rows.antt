-- The entries of a block in rows, whose tags, refs and members are parts of lists that all rows share.
-- Here the entry of a row is looked up in these lists; the code adds to them at their ends.
use Rattle.std.specs.Prelude.{◌≡◌, ◌++◌, ◌∷◌, [], List, length, map, All, Option, Some, ⊤}
use Rattle.osm_entity.specs.Prefixes.{IsPrefix}
use Rattle.osm_block_read.specs.Entries.{Entry, EntryBody, At, Along, Having}
use Rattle.osm_block_read.specs.Spans.{IsSpanIn, part_in}
use Rattle.osm_block_read.specs.declared.row.Lists.{Lists}
use Rattle.osm_block_read.specs.declared.row.Row.{Row}
use Rattle.osm_block_read.specs.declared.row.Rows.{Rows}
use Rattle.osm_block_read.specs.declared.row.RowBody.{RowBody}
use Rattle.osm_block_read.specs.declared.row.RowBody.TheVariants.{At as AtPlace, Along as AlongRefs, Having as HavingMembers}

-- what is proper to the kind of a row
abbrev pub body_in : Lists → RowBody → EntryBody
body_in lists (AtPlace lat lon) = At lat lon
body_in lists (AlongRefs span) = Along (part_in lists.refs.items span)
body_in lists (HavingMembers span) = Having (part_in lists.members.items span)

-- the entry of a row
abbrev pub entry_in : Lists → Row → Entry
entry_in lists row = record {
  even = row.even;
  id = row.id;
  info = row.info;
  tags = part_in lists.tags.items row.tags;
  body = body_in lists row.body;
}

-- the entries of rows
abbrev pub entries_in : Lists → List Row → List Entry
entries_in lists rows = map (entry_in lists) rows

-- the refs or members of a row lie within their list
abbrev pub IsBodyIn : Lists → RowBody → Type 0
IsBodyIn lists (AtPlace lat lon) = ⊤
IsBodyIn lists (AlongRefs span) = IsSpanIn (length lists.refs.items) span
IsBodyIn lists (HavingMembers span) = IsSpanIn (length lists.members.items) span

-- the parts of a row lie within their lists
pub record IsRowIn (lists : Lists) (row : Row) : Type 0 where
  pub tags : IsSpanIn (length lists.tags.items) row.tags
  pub body : IsBodyIn lists row.body

-- each list is the earlier one, with more behind
pub record AreGrown (old new : Lists) : Type 0 where
  pub tags : IsPrefix old.tags.items new.tags.items
  pub refs : IsPrefix old.refs.items new.refs.items
  pub members : IsPrefix old.members.items new.members.items

-- the parts of all rows lie within their lists
abbrev pub AreRowsIn : Rows → Type 0
AreRowsIn r = All (IsRowIn r.lists) r.rows.items

-- the entries of all rows
abbrev pub entries_of : Rows → List Entry
entries_of r = entries_in r.lists r.rows.items

-- rows were added that say these entries
pub record IsAdded (old new : Rows) (entries : List Entry) : Type 0 where
  pub within : AreRowsIn new
  pub joined : entries_of new ≡ entries_of old ++ entries

-- a row was added that says this entry, where there is one
pub record IsSaidAdded (old new : Rows) (said : Option Entry) : Type 0 where
  pub entry : Entry
  pub said_is : said ≡ Some entry
  pub added : IsAdded old new (entry ∷ [])
