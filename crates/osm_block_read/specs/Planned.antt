-- What a plan still has to give, and what keeps it.
-- Here texts, numbers and a place give items; the code makes them one by one.
use Rattle.std.specs.Prelude.{ℕ, ◌≡◌, List, map, drop, None, Result, Ok, Err}
use Rattle.osm_entity.specs.Items.{ItemValue}
use Rattle.osm_entity.specs.declared.verdict.Cause.{Cause}
use Rattle.osm_block_read.specs.Block.{block_said}
use Rattle.osm_block_read.specs.Entries.{Entry, entry_item}
use Rattle.osm_block_read.specs.Faults.{entries_fault}
use Rattle.osm_block_read.specs.Rows.{AreRowsIn, entries_of}
use Rattle.osm_block_read.specs.Seen.{setting_of}
use Rattle.osm_block_read.specs.declared.content.Content.{Content}
use Rattle.osm_block_read.specs.declared.error.BlockError.{BlockError}
use Rattle.osm_block_read.specs.declared.error.BlockError.TheVariants.{Bad, Memory}
use Rattle.osm_block_read.specs.declared.plan.Plan.TheInside.{Inside}

-- the entries of a content from a place on
abbrev pub entries_from : ℕ → Content → List Entry
entries_from at c = drop at (entries_of c.rows)

-- the items of the entries of a content from a place on, by the texts of its block
abbrev pub items_from : ℕ → List (List ℕ) → Content → List ItemValue
items_from at texts c = map (entry_item (setting_of texts c.scale)) (entries_from at c)

-- how contracts see a plan: the items that it still has to give
abbrev pub plan_seen : Inside → List ItemValue
plan_seen p = items_from p.at p.texts.items p.content

-- nothing is wrong with what a plan still has to give
pub record IsPlan (p : Inside) : Type 0 where
  pub rows : AreRowsIn p.content.rows
  pub fine : entries_fault (setting_of p.texts.items p.content.scale) (entries_from p.at p.content) ≡ None

-- a content was read and checked: with these texts it says the items of the block, and nothing is wrong with them
pub record IsChecked (raw : List ℕ) (texts : List (List ℕ)) (c : Content) : Type 0 where
  pub rows : AreRowsIn c.rows
  pub items : block_said raw ≡ Ok (items_from 0 texts c)
  pub fine : entries_fault (setting_of texts c.scale) (entries_of c.rows) ≡ None

-- a refusal has the cause that is said, or is out of memory
abbrev pub IsRefused : Result (List ItemValue) Cause → BlockError → Type 0
IsRefused said (Bad cause) = said ≡ Err cause
IsRefused said Memory = Unit {0}
