-- The halves of a spool, as their callers see them.
-- Here a half is the spool and the whole list that it sent or took; the code keeps neither.
use Rattle.std.specs.Prelude.{◌≡◌, ℕ, Bool, true, false, List, [], ◌∷◌, ◌++◌, map, length, All, Option, Some, None}
use Rattle.std.specs.declared.alloc.Global.{Global}
use Rattle.atomic_blocks.specs.declared.web.Seat.{Seat}
use Rattle.atomic_table.specs.Seated.{TableId}
use Rattle.crossbeam_queue.specs.Passes.{Pass, view}
use Rattle.crossbeam_queue.specs.SegTies.{SegId}
use Rattle.crossbeam_queue.specs.declared.seg_queue.Going.{Going}
use Rattle.osm_entity.specs.Items.{ItemValue}
use Rattle.osm_entity.specs.declared.stream.Message.{Message}
use Rattle.osm_entity.specs.declared.stream.Message.TheVariants as Says
use Rattle.osm_pipe.specs.Rule.{hand, SendsOnly, TakesOnly}
use Rattle.osm_pipe.specs.declared.rule.Hand.{Hand}
use Rattle.osm_pipe.specs.declared.store.Last.{Last}

-- which spool it is: its queue, and the table of its slot
pub record SpoolId : Type 0 where
  pub queue : SegId Global
  pub slot : TableId

-- a half of a spool: which spool, and what it sent or took
pub record SpoolValue : Type 0 where
  pub pipe : SpoolId
  pub list : List Message

-- a half of a spool, of its parts
abbrev pub spool_half : SpoolId → List Message → SpoolValue
spool_half pipe list = record { pipe = pipe; list = list }

-- a half of a spool, and one message more
abbrev pub spool_more : SpoolValue → Message → SpoolValue
spool_more h message = spool_half h.pipe (h.list ++ message ∷ [])

-- a pass of the queue of items
abbrev pub ItemPass : Type 0
ItemPass = Seat (Option ItemValue) (Going ItemValue (Hand ItemValue)) Global

-- what a pass of the queue of items knows
abbrev pub items_hand : ItemPass → Hand ItemValue
items_hand p = p.me.view.client

-- what a pass of the slot knows
abbrev pub ends_hand : Pass Last (Hand Last) → Hand Last
ends_hand p = view p

-- the spool that two passes are of
abbrev pub spool_of : ItemPass → Pass Last (Hand Last) → SpoolId
spool_of items ends = record { queue = record { web = items.web; heap = items.heap }; slot = ends.table_id }

-- the end of a spool as a message
abbrev pub last_message : Last → Message
last_message last = Says.End last.end

-- the messages that some items and then the ends of a spool are
abbrev pub spooled : List ItemValue → List Last → List Message
spooled items ends = map Says.Item items ++ map last_message ends

-- what was taken from the slot counts as taken once all items before it were
abbrev pub shown : Bool → List Last → List Last
shown true ends = ends
shown false ends = []

-- what was kept of the slot
abbrev pub kept_of : Option Last → List Last
kept_of None = []
kept_of (Some last) = last ∷ []

-- the giver of a spool sends, and each end that it sent counts its items
pub record GivesSpool (items : Hand ItemValue) (ends : Hand Last) (count : ℕ) : Type 0 where
  pub of_items : SendsOnly None items
  pub of_ends : SendsOnly None ends
  pub counted : count ≡ length items.sent
  pub each_counts : All (λ last. last.count ≡ length items.sent) ends.sent

-- the taker of a spool takes, keeps what it found in the slot, and has ended after the items that this counts
pub record TakesSpool (items : Hand ItemValue) (ends : Hand Last) (count : ℕ) (last : Option Last) (done : Bool)
    : Type 0 where
  pub of_items : TakesOnly None items
  pub of_ends : ends ≡ hand false true None [] (kept_of last)
  pub counted : count ≡ length items.taken
  pub ended : done ≡ true → (l : Last) × (last ≡ Some l) × (l.count ≡ length items.taken)
