-- The machine of an area task: one that passes its items on, or one that holds them.
-- Here both are one machine; the code asks which it is at each call.
use Rattle.std.specs.Prelude.{ℕ, List, Bool}
use Rattle.osm_entity.specs.OneInput.{OneInput}
use Rattle.osm_entity.specs.Streams.{Stream}
use Rattle.osm_entity.specs.declared.stream.Message.{Message}
use Rattle.osm_entity.specs.declared.stream.Want.{Want}
use Rattle.osm_entity.specs.declared.verdict.Verdict.{Verdict}
use Rattle.osm_select.specs.Holding.{holding}
use Rattle.osm_select.specs.Kinds.{area_finish}
use Rattle.osm_select.specs.Passing.{passing}
use Rattle.osm_select.specs.declared.task.Course.{Course}
use Rattle.osm_select.specs.declared.task.Course.TheVariants.{Passes, Holds}

-- the rule of either
abbrev pub area_rule : Course → Stream → Stream
area_rule (Passes p) = passing.rule p
area_rule (Holds h) = holding.rule h

-- how either stands
abbrev pub area_stands : Course → List Message → List Message → Type 0
area_stands (Passes p) = passing.stands p
area_stands (Holds h) = holding.stands h

-- what either can do next
abbrev pub area_wants : Course → Want
area_wants (Passes p) = passing.wanted p
area_wants (Holds h) = holding.wanted h

-- how it stands with either
abbrev pub area_verdict : Course → Verdict
area_verdict (Passes p) = passing.verdict p
area_verdict (Holds h) = holding.verdict h

-- whether it holds its items
abbrev pub is_holding : Course → Bool
is_holding (Passes p) = passing.holds p
is_holding (Holds h) = holding.holds h

-- what either can still give
abbrev pub area_left : Course → ℕ
area_left (Passes p) = passing.left p
area_left (Holds h) = holding.left h

-- the machine of an area task
abbrev pub selecting : OneInput Course
selecting = record {
  rule = area_rule;
  finish = λ course. area_finish;
  stands = area_stands;
  wanted = area_wants;
  verdict = area_verdict;
  holds = is_holding;
  left = area_left;
}
