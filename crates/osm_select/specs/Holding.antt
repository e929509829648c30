-- How the machine stands that holds its items.
-- Here all that passed its two ports is known; the code has the items that came, and the ids of those that it gives.
use Rattle.std.specs.Prelude.{◌≡◌, ℕ, ◌+◌, List, [], ◌++◌, length, map, filter, Bool, true, false, None}
use Rattle.osm_entity.specs.Items.{ItemValue}
use Rattle.osm_entity.specs.OneInput.{OneInput}
use Rattle.osm_entity.specs.Ports.{end_of, fixed, has_end, items_of, stream_of}
use Rattle.osm_entity.specs.Tasks.{verdict_as}
use Rattle.osm_entity.specs.declared.stream.End.{End}
use Rattle.osm_entity.specs.declared.stream.Message.{Message}
use Rattle.osm_entity.specs.declared.stream.Want.{Want}
use Rattle.osm_entity.specs.declared.stream.Want.TheVariants.{Take, Give, Ended}
use Rattle.osm_entity.specs.declared.verdict.Verdict.{Verdict}
use Rattle.osm_entity.specs.declared.verdict.Verdict.TheVariants.{Running, Memory}
use Rattle.osm_select.specs.Held.{stream_held}
use Rattle.osm_select.specs.Kept.{sets_of}
use Rattle.osm_select.specs.Kinds.{area_finish}
use Rattle.osm_select.specs.Order.{IsOrderOf, end_after, finish_in}
use Rattle.osm_select.specs.Parts.{clipped, has_item}
use Rattle.osm_select.specs.declared.choosing.Choice.{Choice}
use Rattle.osm_select.specs.declared.holding.Holding.{Holding}
use Rattle.osm_select.specs.declared.order.Order.{Order}
use Rattle.osm_select.specs.declared.phase.Phase.{Phase}
use Rattle.osm_select.specs.declared.phase.Phase.TheVariants.{Gathering, Giving, Closed, Stopped}

-- of some items those that a choice keeps, each clipped as it says
abbrev pub choice_gives : Bool → Choice → List ItemValue → List ItemValue
choice_gives clip choice items =
    map (clipped clip (sets_of choice.output)) (filter (has_item (sets_of choice.kept)) items)

-- while its input goes on it holds all items while no kind went back, and gave nothing
pub record GathersArea (h : Holding) (x y : List Message) : Type 0 where
  pub running : has_end x ≡ false
  pub order : IsOrderOf h.order (items_of x)
  pub items : h.order.fault ≡ None → h.items ≡ items_of x
  pub nothing : y ≡ []

-- once its input has ended so, its stream is what it gave and then what is left
pub record GivesArea (h : Holding) (end : End) (left x y : List Message) : Type 0 where
  pub over : has_end x ≡ true
  pub met : end_of x ≡ end
  pub order : IsOrderOf h.order (items_of x)
  pub all : fixed true (stream_held h.area h.complete h.clip (stream_of x)) ≡ y ++ left

-- what is left to give of the items that it holds, and then its end
abbrev pub holding_gives : Holding → End → List Message
holding_gives h end = fixed true (record { items = choice_gives h.clip h.choice h.items; end = end_after h.order end })

-- it stands by how far it is; out of memory it stands for nothing
abbrev pub holding_stands_at : Holding → Phase → List Message → List Message → Type 0
holding_stands_at h Gathering x y = GathersArea h x y
holding_stands_at h (Giving end) x y = GivesArea h end (holding_gives h end) x y
holding_stands_at h (Closed end) x y = GivesArea h end [] x y
holding_stands_at h Stopped x y = ⊥

-- it takes until its input has ended, and then gives
abbrev pub holding_wants : Phase → Want
holding_wants Gathering = Take 0
holding_wants (Giving end) = Give 0
holding_wants (Closed end) = Ended
holding_wants Stopped = Ended

-- it runs until it gave its end, and then tells how it ended
abbrev pub holding_verdict : Order → Phase → Verdict
holding_verdict order Gathering = Running
holding_verdict order (Giving end) = Running
holding_verdict order (Closed end) = verdict_as 0 0 (finish_in order end)
holding_verdict order Stopped = Memory

-- what it can still give: the items that it holds, and after them an end that came
abbrev pub holding_count : Phase → ℕ → ℕ
holding_count Gathering items = items
holding_count (Giving end) items = items + 1
holding_count (Closed end) items = 0
holding_count Stopped items = 0

-- the machine that holds its items until its input has ended
abbrev pub holding : OneInput Holding
holding = record {
  rule = λ h. stream_held h.area h.complete h.clip;
  finish = λ h. area_finish;
  stands = λ h x y. holding_stands_at h h.phase x y;
  wanted = λ h. holding_wants h.phase;
  verdict = λ h. holding_verdict h.order h.phase;
  holds = λ h. true;
  left = λ h. holding_count h.phase (length h.items);
}
