-- A machine wants a pull only where it has a source.
use Rattle.std.proofs.Common.{◌≡◌, ◌≢◌, ℕ, Bool, true, false, Option, Some, None, refl}
use Rattle.osm_change.specs.Simplifying.{simplify_wants}
use Rattle.osm_change.specs.declared.phase.Phase.{Phase as SimplifyPhase}
use Rattle.osm_change.specs.declared.phase.Phase.TheVariants.{Gathering as LayGathering, Giving as LayGiving, Closed as LayClosed, Stopped as LayStopped}
use Rattle.osm_entity.specs.Items.{ItemValue}
use Rattle.osm_entity.specs.declared.stream.End.{End}
use Rattle.osm_entity.specs.declared.stream.Message.{Message}
use Rattle.osm_entity.specs.declared.stream.Want.TheVariants.{Pull}
use Rattle.osm_filter.specs.Filtering.{filter_wants}
use Rattle.osm_merge.specs.Append.{append_want}
use Rattle.osm_merge.specs.Heads.{heads_want}
use Rattle.osm_select.specs.Holding.{holding_wants}
use Rattle.osm_select.specs.Passing.{passing_wants}
use Rattle.osm_select.specs.Selecting.{area_wants}
use Rattle.osm_select.specs.declared.phase.Phase.{Phase as AreaPhase}
use Rattle.osm_select.specs.declared.phase.Phase.TheVariants.{Gathering as AreaGathering, Giving as AreaGiving, Closed as AreaClosed, Stopped as AreaStopped}
use Rattle.osm_select.specs.declared.task.Course.{Course}
use Rattle.osm_select.specs.declared.task.Course.TheVariants.{Passes, Holds}
use Rattle.osm_sort.specs.SortMachine.{sort_wants}
use Rattle.osm_sort.specs.declared.phase.Phase.{Phase as SortPhase}
use Rattle.osm_sort.specs.declared.phase.Phase.TheVariants.{Gathering as SortGathering, Giving as SortGiving, Closed as SortClosed, Stopped as SortStopped}
use Rattle.osm_used.specs.Using.{used_wants}
use Rattle.osm_used.specs.declared.phase.Phase.{Phase as UsedPhase}
use Rattle.osm_used.specs.declared.phase.Phase.TheVariants.{Gathering as UsedGathering, Giving as UsedGiving, Closed as UsedClosed, Stopped as UsedStopped}
use Rattle.osm_machine.specs.Copying.{copying_wants}
use Rattle.osm_machine.specs.Emptying.{dropping_wants, empty_wants}
use Rattle.osm_machine.specs.MachineDevices.{has_source}
use Rattle.osm_machine.specs.MachineKinds.{machines}
use Rattle.osm_machine.specs.Making.{making_wants}
use Rattle.osm_machine.specs.Writing.{writing_wants}
use Rattle.osm_machine.specs.declared.kind.MachineKind.{MachineKind}
use Rattle.osm_machine.specs.declared.kind.MachineKind.TheVariants.{Read, Make, Nothing, Write, Drops, Copies, Filters, UsesNodes, UsesWays, Sorts, Merges, Appends, Applies, Selects, Simplifies}
use Rattle.osm_machine.specs.declared.making.Progress.{Progress}
use Rattle.osm_machine.specs.declared.making.Progress.TheVariants.{Going, Closed, Stopped}

making_never : (progress : Progress) → making_wants progress ≢ Pull
making_never Going = λ is. cc
making_never Closed = λ is. cc
making_never Stopped = λ is. cc

empty_never : (closed : Bool) → empty_wants closed ≢ Pull
empty_never true = λ is. cc
empty_never false = λ is. cc

writing_never : (end : Option End) → writing_wants end ≢ Pull
writing_never None = λ is. cc
writing_never (Some end) = λ is. cc

dropping_never : (end : Option End) → dropping_wants end ≢ Pull
dropping_never None = λ is. cc
dropping_never (Some end) = λ is. cc

copying_never : (held : Option Message) (next : ℕ) (end : Option End) → copying_wants held next end ≢ Pull
copying_never (Some message) next end = λ is. cc
copying_never None next None = λ is. cc
copying_never None next (Some end) = λ is. cc

filter_never : (held : Option Message) (end : Option End) → filter_wants held end ≢ Pull
filter_never (Some message) end = λ is. cc
filter_never None None = λ is. cc
filter_never None (Some end) = λ is. cc

used_never : (phase : UsedPhase) → used_wants phase ≢ Pull
used_never UsedGathering = λ is. cc
used_never (UsedGiving end) = λ is. cc
used_never (UsedClosed end) = λ is. cc
used_never UsedStopped = λ is. cc

sort_never : (phase : SortPhase) → sort_wants phase ≢ Pull
sort_never SortGathering = λ is. cc
sort_never (SortGiving end) = λ is. cc
sort_never (SortClosed end) = λ is. cc
sort_never SortStopped = λ is. cc

simplify_never : (phase : SimplifyPhase) → simplify_wants phase ≢ Pull
simplify_never LayGathering = λ is. cc
simplify_never (LayGiving end) = λ is. cc
simplify_never (LayClosed end) = λ is. cc
simplify_never LayStopped = λ is. cc

append_never : (held : Option Message) (first second : Option End) → append_want held first second ≢ Pull
append_never (Some message) first second = λ is. cc
append_never None None second = λ is. cc
append_never None (Some end) None = λ is. cc
append_never None (Some end) (Some last) = λ is. cc

heads_never : (ready : Option ItemValue) (closed first second : Bool) (waiting : Option ItemValue) →
    heads_want ready closed first second waiting ≢ Pull
heads_never (Some item) closed first second waiting = λ is. cc
heads_never None true first second waiting = λ is. cc
heads_never None false true true waiting = λ is. cc
heads_never None false true false waiting = λ is. cc
heads_never None false false second waiting = λ is. cc

passing_never : (held : Option Message) (end : Option End) → passing_wants held end ≢ Pull
passing_never (Some message) end = λ is. cc
passing_never None None = λ is. cc
passing_never None (Some end) = λ is. cc

holding_never : (phase : AreaPhase) → holding_wants phase ≢ Pull
holding_never AreaGathering = λ is. cc
holding_never (AreaGiving end) = λ is. cc
holding_never (AreaClosed end) = λ is. cc
holding_never AreaStopped = λ is. cc

selecting_never : (course : Course) → area_wants course ≢ Pull
selecting_never (Passes p) = passing_never p.held p.end
selecting_never (Holds h) = holding_never h.phase

-- of a machine that wants a pull
pub pulling_has_source : {S K : Type 0} (m : MachineKind S K) → machines.wanted m ≡ Pull → has_source m ≡ true
pulling_has_source (Read m) is = refl
pulling_has_source (Make m) is = absurd (making_never m.progress is)
pulling_has_source (Nothing m) is = absurd (empty_never m.closed is)
pulling_has_source (Write m) is = absurd (writing_never m.end is)
pulling_has_source (Drops m) is = absurd (dropping_never m.end is)
pulling_has_source (Copies m) is = absurd (copying_never m.held m.next m.end is)
pulling_has_source (Filters m) is = absurd (filter_never m.held m.end is)
pulling_has_source (UsesNodes m) is = absurd (used_never m.phase is)
pulling_has_source (UsesWays m) is = absurd (used_never m.phase is)
pulling_has_source (Sorts m) is = absurd (sort_never m.phase is)
pulling_has_source (Merges m) is =
    absurd (heads_never m.heads.ready m.heads.closed m.heads.first.ended m.heads.second.ended m.heads.first.waiting is)
pulling_has_source (Appends m) is = absurd (append_never m.held m.first m.second is)
pulling_has_source (Applies m) is =
    absurd (heads_never m.heads.ready m.heads.closed m.heads.first.ended m.heads.second.ended m.heads.first.waiting is)
pulling_has_source (Simplifies m) is = absurd (simplify_never m.phase is)
pulling_has_source (Selects m) is = absurd (selecting_never m is)
