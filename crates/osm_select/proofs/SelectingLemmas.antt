-- The machine of an area task keeps its rule, since each of its two machines does.
use Rattle.std.proofs.Common.{◌≡◌, ℕ, List, Bool, true, false, ap, sym}
use Rattle.std.specs.Prelude.{◌≢◌, ◌↔◌, if◌then◌else◌}
use Rattle.osm_area.specs.declared.area.Area.{Area}
use Rattle.osm_entity.specs.Calls.{Gives, StopsInTake, Takes}
use Rattle.osm_entity.specs.Growth.{Grows, IsMonotone}
use Rattle.osm_entity.specs.Machines.{AreLawful, Given, IsNew, IsSameTask}
use Rattle.osm_entity.specs.OneInput.{GivesAtEnd, GivesAtOnce, KeepsItsRule, meanings_of}
use Rattle.osm_entity.specs.Ports.{has_end, stream_of}
use Rattle.osm_entity.specs.Streams.{IsBefore, Stream}
use Rattle.osm_entity.specs.Tasks.{verdict_as}
use Rattle.osm_entity.specs.declared.options.AreaOptions.{AreaOptions}
use Rattle.osm_entity.specs.declared.stream.Message.{Message}
use Rattle.osm_entity.specs.declared.stream.Want.TheVariants.{Pull, Take, Give, Ended}
use Rattle.osm_entity.specs.declared.verdict.Verdict.TheVariants.{Running}
use Rattle.osm_entity.proofs.GrowthLemmas.{monotone}
use Rattle.osm_entity.proofs.OneInputLemmas.{rule_is_lawful}
use Rattle.osm_select.specs.Held.{stream_held}
use Rattle.osm_select.specs.Holding.{holding}
use Rattle.osm_select.specs.Kinds.{area_finish}
use Rattle.osm_select.specs.Passed.{stream_passed}
use Rattle.osm_select.specs.Passing.{passing}
use Rattle.osm_select.specs.Selected.{area_holds, area_selected}
use Rattle.osm_select.specs.Selecting.{area_rule, area_stands, area_verdict, area_wants, selecting}
use Rattle.osm_select.specs.declared.holding.Holding.{Holding}
use Rattle.osm_select.specs.declared.passing.Passing.{Passing}
use Rattle.osm_select.specs.declared.task.Course.{Course}
use Rattle.osm_select.specs.declared.task.Course.TheVariants.{Passes, Holds}
use Rattle.osm_select.proofs.HeldLemmas.{held_grows}
use Rattle.osm_select.proofs.HoldingLemmas.{holding_gives_at_end, holding_keeps}
use Rattle.osm_select.proofs.OrderLemmas.{never_cut}
use Rattle.osm_select.proofs.PassedLemmas.{passed_grows}
use Rattle.osm_select.proofs.PassingLemmas.{passing_gives_at_once, passing_keeps}

selected_grows_by : (area : Area) (complete cascading clip : Bool) →
    Grows (area_selected area (record { complete_ways = complete; cascading_relations = cascading; clip = clip }))
selected_grows_by area true cascading clip = held_grows area true clip
selected_grows_by area false true clip = held_grows area false clip
selected_grows_by area false false clip = passed_grows area clip

pub selected_grows : (area : Area) (options : AreaOptions) → Grows (area_selected area options)
selected_grows area options =
    selected_grows_by area options.complete_ways options.cascading_relations options.clip

pub selected_is_monotone : (area : Area) (options : AreaOptions) → IsMonotone (area_selected area options)
selected_is_monotone area options = monotone (area_selected area options) (selected_grows area options)

before : (course : Course) → (x y : List Message) → area_stands course x y →
    IsBefore (stream_of y) (area_rule course (stream_of x))
before (Passes p) = passing_keeps.before p
before (Holds h) = holding_keeps.before h

ended : (course : Course) → (x y : List Message) → area_stands course x y → area_wants course ≡ Ended →
    (has_end x ≡ true) × (has_end y ≡ true)
ended (Passes p) = passing_keeps.ended p
ended (Holds h) = holding_keeps.ended h

whole : (course : Course) → (x y : List Message) → area_stands course x y → area_wants course ≡ Ended →
    stream_of y ≡ area_rule course (stream_of x)
whole (Passes p) = passing_keeps.whole p
whole (Holds h) = holding_keeps.whole h

judged : (course : Course) → (x y : List Message) → area_stands course x y → area_wants course ≡ Ended →
    area_verdict course ≡ verdict_as 0 0 (area_finish (stream_of x))
judged (Passes p) = passing_keeps.judged p
judged (Holds h) = holding_keeps.judged h

takes : (course : Course) → (x y : List Message) (port : ℕ) → area_stands course x y →
    area_wants course ≡ Take port → (port ≡ 0) × (has_end x ≡ false)
takes (Passes p) = passing_keeps.takes p
takes (Holds h) = holding_keeps.takes h

hands : (course : Course) → (x y : List Message) (port : ℕ) → area_stands course x y →
    area_wants course ≡ Give port → (port ≡ 0) × (has_end y ≡ false)
hands (Passes p) = passing_keeps.hands p
hands (Holds h) = holding_keeps.hands h

running : (course : Course) → (x y : List Message) → area_stands course x y →
    (area_verdict course ≡ Running) ↔ (area_wants course ≢ Ended)
running (Passes p) = passing_keeps.running p
running (Holds h) = holding_keeps.running h

never_pulls : (course : Course) → (x y : List Message) → area_stands course x y → area_wants course ≢ Pull
never_pulls (Passes p) = passing_keeps.never_pulls p
never_pulls (Holds h) = holding_keeps.never_pulls h

rule_monotone : (course : Course) → IsMonotone (area_rule course)
rule_monotone (Passes p) = passing_keeps.monotone p
rule_monotone (Holds h) = holding_keeps.monotone h

pub selecting_keeps : KeepsItsRule selecting
selecting_keeps = record {
  before = before;
  ended = ended;
  whole = whole;
  judged = judged;
  takes = takes;
  hands = hands;
  running = running;
  never_pulls = never_pulls;
  monotone = rule_monotone;
  never_cut = λ course. never_cut;
}

pub selecting_gives_at_once : GivesAtOnce selecting
selecting_gives_at_once (Passes p) = passing_gives_at_once p
selecting_gives_at_once (Holds h) = λ x y port passes s w. absurd cc

pub selecting_gives_at_end : GivesAtEnd selecting
selecting_gives_at_end (Passes p) = λ x y port holds s w. absurd cc
selecting_gives_at_end (Holds h) = holding_gives_at_end h

pub selecting_is_lawful : AreLawful (meanings_of selecting)
selecting_is_lawful =
    rule_is_lawful selecting selecting_keeps selecting_gives_at_once selecting_gives_at_end

-- ---- the calls

given_to : {M : Type 0} → M → Given Course → Given M
given_to m given = record { made = m; bytes = given.bytes; came = given.came; over = given.over }

-- what the machine keeps that passes its items on, the task does
pub passes_takes : (port : ℕ) (message : Message) (old new : Passing) →
    Takes (meanings_of passing) port message old new →
    Takes (meanings_of selecting) port message (Passes old) (Passes new)
passes_takes port message old new takes = record {
  stands = λ x y given stood. takes.stands x y (given_to old given) stood;
  left = takes.left;
}

pub passes_stops : (port : ℕ) (message : Message) (old new : Passing) →
    StopsInTake (meanings_of passing) port message old new →
    StopsInTake (meanings_of selecting) port message (Passes old) (Passes new)
passes_stops port message old new stops x y given stood =
    let stopped = stops x y (given_to old given) stood in
    record {
      behind = record { gave = stopped.behind.gave; wrote = tt; devices = tt };
      verdict = stopped.verdict;
    }

pub passes_gives : (port : ℕ) (message : Message) (old new : Passing) →
    Gives (meanings_of passing) port message old new →
    Gives (meanings_of selecting) port message (Passes old) (Passes new)
passes_gives port message old new gives = record {
  stands = λ x y given stood. gives.stands x y (given_to old given) stood;
  left = gives.left;
}

pub passes_same : (old new : Passing) → IsSameTask (meanings_of passing) old new →
    IsSameTask (meanings_of selecting) (Passes old) (Passes new)
passes_same old new same = same

pub passes_new : (new : Passing) → IsNew (meanings_of passing) new → IsNew (meanings_of selecting) (Passes new)
passes_new new is = is

-- what the machine keeps that holds its items, the task does
pub holds_takes : (port : ℕ) (message : Message) (old new : Holding) →
    Takes (meanings_of holding) port message old new →
    Takes (meanings_of selecting) port message (Holds old) (Holds new)
holds_takes port message old new takes = record {
  stands = λ x y given stood. takes.stands x y (given_to old given) stood;
  left = takes.left;
}

pub holds_stops : (port : ℕ) (message : Message) (old new : Holding) →
    StopsInTake (meanings_of holding) port message old new →
    StopsInTake (meanings_of selecting) port message (Holds old) (Holds new)
holds_stops port message old new stops x y given stood =
    let stopped = stops x y (given_to old given) stood in
    record {
      behind = record { gave = stopped.behind.gave; wrote = tt; devices = tt };
      verdict = stopped.verdict;
    }

pub holds_gives : (port : ℕ) (message : Message) (old new : Holding) →
    Gives (meanings_of holding) port message old new →
    Gives (meanings_of selecting) port message (Holds old) (Holds new)
holds_gives port message old new gives = record {
  stands = λ x y given stood. gives.stands x y (given_to old given) stood;
  left = gives.left;
}

pub holds_same : (old new : Holding) → IsSameTask (meanings_of holding) old new →
    IsSameTask (meanings_of selecting) (Holds old) (Holds new)
holds_same old new same = same

pub holds_new : (new : Holding) → IsNew (meanings_of holding) new → IsNew (meanings_of selecting) (Holds new)
holds_new new is = is

rule_by : Area → AreaOptions → Bool → Stream → Stream
rule_by area options holds s =
    if holds then stream_held area options.complete_ways options.clip s else stream_passed area options.clip s

-- a task that doesn't hold its items passes them on
pub rule_passes : (area : Area) (options : AreaOptions) → area_holds options ≡ false →
    stream_passed area options.clip ≡ area_selected area options
unfolding rule_by
rule_passes area options is = ap (rule_by area options) (sym is)

-- and one that does gives what it chooses
pub rule_holds : (area : Area) (options : AreaOptions) → area_holds options ≡ true →
    stream_held area options.complete_ways options.clip ≡ area_selected area options
unfolding rule_by
rule_holds area options is = ap (rule_by area options) (sym is)
