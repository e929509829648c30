-- A machine without a sink never says that its sink failed.
use Rattle.std.proofs.Common.{◌≡◌, ◌≢◌, ℕ, List, ◌++◌, length, Bool, true, false, sym, ◌∙◌}
use Rattle.std.specs.Prelude.{nat_lt, if◌then◌else◌, Option, Some, None}
use Rattle.osm_entity.specs.Items.{ItemValue}
use Rattle.osm_entity.specs.Machines.{Given}
use Rattle.osm_entity.specs.Meaning.{Finish, Whole, Passed, Cut, Wrong, finish_after}
use Rattle.osm_entity.specs.OneInput.{OneInput, KeepsItsRule}
use Rattle.osm_entity.specs.Ports.{Ports, stream_of}
use Rattle.osm_entity.specs.Readings.{Ending, Whole as ReadWhole, Cut as ReadCut, Bad, verdict_read}
use Rattle.osm_entity.specs.Tasks.{verdict_as}
use Rattle.osm_entity.specs.declared.stream.End.{End}
use Rattle.osm_entity.specs.declared.stream.Message.{Message}
use Rattle.osm_entity.specs.declared.stream.Want.TheVariants.{Ended}
use Rattle.osm_entity.specs.declared.verdict.Verdict.TheVariants.{Running, Write, TooLong, Read as BadRead}
use Rattle.osm_change.specs.Applying.{applying}
use Rattle.osm_change.specs.Changes.{laid_over, laid_over_is_choice}
use Rattle.osm_change.specs.Simplifying.{simplifying}
use Rattle.osm_change.specs.declared.apply.Apply.{Apply}
use Rattle.osm_change.specs.declared.apply.Changes.{Changes}
use Rattle.osm_change.proofs.SimplifyMachine.{simplify_keeps}
use Rattle.osm_filter.specs.Filtering.{filtering}
use Rattle.osm_filter.proofs.FilterLemmas.{filtering_keeps}
use Rattle.osm_merge.specs.Append.{appending}
use Rattle.osm_merge.specs.Choices.{chosen_by, chosen_by_is_choice}
use Rattle.osm_merge.specs.Heads.{heads_of}
use Rattle.osm_merge.specs.Merging.{merging}
use Rattle.osm_merge.specs.TwoInputs.{TwoInputs}
use Rattle.osm_merge.specs.declared.merge.Merge.{Merge}
use Rattle.osm_merge.proofs.AppendMachine.{append_keeps}
use Rattle.osm_merge.proofs.HeadsMachine.{heads_keep}
use Rattle.osm_merge.proofs.TwoInputLemmas.{KeepsRuleOfTwo, within_keeps}
use Rattle.osm_select.specs.Selecting.{selecting}
use Rattle.osm_select.proofs.SelectingLemmas.{selecting_keeps}
use Rattle.osm_sort.specs.SortMachine.{sorting}
use Rattle.osm_sort.proofs.SortMachineLemmas.{sort_keeps}
use Rattle.osm_used.specs.Using.{keeping_used}
use Rattle.osm_used.proofs.UsingLemmas.{using_keeps}
use Rattle.osm_machine.specs.Copying.{copying_verdict}
use Rattle.osm_machine.specs.Emptying.{dropping_verdict, empty_verdict}
use Rattle.osm_machine.specs.MachineDevices.{sink_of}
use Rattle.osm_machine.specs.MachineKinds.{machines}
use Rattle.osm_machine.specs.Making.{making_verdict}
use Rattle.osm_machine.specs.Reading.{IsReady, reading_verdict, reading_wants, ready_items}
use Rattle.osm_machine.specs.ReadingFiles.{FileStands, file_verdict}
use Rattle.osm_machine.specs.declared.kind.MachineKind.{MachineKind}
use Rattle.osm_machine.specs.declared.kind.MachineKind.TheVariants.{Read, Make, Nothing, Write as Writes, Drops, Copies, Filters, UsesNodes, UsesWays, Sorts, Merges, Appends, Applies, Simplifies, Selects}
use Rattle.osm_machine.specs.declared.making.Progress.{Progress}
use Rattle.osm_machine.specs.declared.making.Progress.TheVariants.{Going, Closed as MadeClosed, Stopped as MadeStopped}
use Rattle.osm_machine.specs.declared.reader.FileReader.{FileReader}
use Rattle.osm_machine.specs.declared.reader.FileReader.TheVariants.{Opl, Pbf}
use Rattle.osm_machine.specs.declared.ready.Ready.{Ready}
use Rattle.osm_machine.specs.declared.ready.Ready.TheVariants.{Next, Nothing as NoneReady, AtTheEnd, Closed, Stopped}

cut_unwritten : (long : Bool) → (if long then TooLong else BadRead) ≢ Write
cut_unwritten true is = cc
cut_unwritten false is = cc

-- no ending is a failed put
pub as_unwritten : (limit count : ℕ) (finish : Finish) → verdict_as limit count finish ≢ Write
as_unwritten limit count Whole is = cc
as_unwritten limit count Passed is = cc
as_unwritten limit count Cut is = cut_unwritten (nat_lt limit count) is
as_unwritten limit count (Wrong cause spot) is = cc

read_unwritten : (limit count : ℕ) (ending : Ending) → verdict_read limit count ending ≢ Write
read_unwritten limit count ReadWhole is = cc
read_unwritten limit count ReadCut is = cut_unwritten (nat_lt limit count) is
read_unwritten limit count (Bad cause spot) is = cc

-- a reader that is ready for its end has its verdict
pub over_ready : (reader : FileReader) (ready : Ready) → IsReady reader ready → reading_wants ready ≡ Ended →
    file_verdict reader ≢ Running
over_ready reader (Next item) is want = cc
over_ready reader NoneReady is want = cc
over_ready reader AtTheEnd is want = cc
over_ready reader Closed is want = is
over_ready reader Stopped is want = absurd is

file_unwritten : (reader : FileReader) (bytes : List ℕ) (came : Bool) (items : List ItemValue) →
    FileStands reader bytes came items → file_verdict reader ≢ Running → file_verdict reader ≢ Write
file_unwritten (Opl r) bytes came items s over is =
    read_unwritten r.limit (length bytes) _ (sym (s.over over).verdict ∙ is)
file_unwritten (Pbf r) bytes came items s over is =
    read_unwritten r.limit (length bytes) _ (sym (s.over over).verdict ∙ is)

reading_unwritten : (reader : FileReader) (ready : Ready) → reading_wants ready ≡ Ended → IsReady reader ready →
    file_verdict reader ≢ Write → reading_verdict (file_verdict reader) ready ≢ Write
reading_unwritten reader (Next item) want is un = cc
reading_unwritten reader NoneReady want is un = cc
reading_unwritten reader AtTheEnd want is un = cc
reading_unwritten reader Closed want is un = un
reading_unwritten reader Stopped want is un = absurd is

made_unwritten : (progress : Progress) → making_verdict progress ≢ Write
made_unwritten Going is = cc
made_unwritten MadeClosed is = cc
made_unwritten MadeStopped is = cc

empty_unwritten : (closed : Bool) → empty_verdict closed ≢ Write
empty_unwritten true is = cc
empty_unwritten false is = cc

dropped_unwritten : (end : Option End) → dropping_verdict end ≢ Write
dropped_unwritten None is = cc
dropped_unwritten (Some end) is = as_unwritten 0 0 (finish_after end) is

copied_unwritten : (stopped : Bool) (held : Option Message) (end : Option End) →
    copying_verdict stopped held end ≢ Write
copied_unwritten true held end is = cc
copied_unwritten false (Some message) end is = cc
copied_unwritten false None None is = cc
copied_unwritten false None (Some end) is = as_unwritten 0 0 (finish_after end) is

one_unwritten : {M : Type 0} (of : OneInput M) → KeepsItsRule of → (m : M) (x y : List Message) → of.stands m x y →
    of.wanted m ≡ Ended → of.verdict m ≢ Write
one_unwritten of keeps m x y stands want is =
    as_unwritten 0 0 (of.finish m (stream_of x)) (sym (keeps.judged m x y stands want) ∙ is)

two_unwritten : {M : Type 0} (of : TwoInputs M) → KeepsRuleOfTwo of → (m : M) (x z y : List Message) →
    of.stands m x z y → of.wanted m ≡ Ended → of.verdict m ≢ Write
two_unwritten of keeps m x z y stands want is =
    as_unwritten 0 0 (of.finish m (stream_of x) (stream_of z)) (sym (keeps.judged m x z y stands want) ∙ is)

-- a machine without a sink that has ended says of no put that it failed
pub unwritten : {S K : Type 0} (m : MachineKind S K) (x y : Ports) (given : Given (MachineKind S K)) →
    machines.stands m x y given → machines.wanted m ≡ Ended → sink_of m ≡ None → machines.verdict m ≢ Write
unwritten (Read m) x y given s want none =
    reading_unwritten m.reader m.ready want s.stands.ready
    (file_unwritten m.reader s.own.bytes s.own.came (s.stands.items ++ ready_items m.ready) s.stands.read.stands
    (over_ready m.reader m.ready s.stands.ready want))
unwritten (Make m) x y given s want none = made_unwritten m.progress
unwritten (Nothing m) x y given s want none = empty_unwritten m.closed
unwritten (Writes m) x y given s want none = λ is. cc
unwritten (Drops m) x y given s want none = dropped_unwritten m.end
unwritten (Copies m) x y given s want none = copied_unwritten m.stopped m.held m.end
unwritten (Filters m) x y given s want none = one_unwritten filtering filtering_keeps m (x 0) (y 0) s.stands want
unwritten (UsesNodes m) x y given s want none = one_unwritten keeping_used using_keeps m (x 0) (y 0) s.stands want
unwritten (UsesWays m) x y given s want none = one_unwritten keeping_used using_keeps m (x 0) (y 0) s.stands want
unwritten (Sorts m) x y given s want none = one_unwritten sorting sort_keeps m (x 0) (y 0) s.stands want
unwritten (Merges m) x y given s want none =
    two_unwritten merging (within_keeps (λ (m : Merge). m.heads) (heads_of chosen_by)
    (heads_keep chosen_by chosen_by_is_choice)) m (x 0) (x 1) (y 0) s.stands want
unwritten (Appends m) x y given s want none = two_unwritten appending append_keeps m (x 0) (x 1) (y 0) s.stands want
unwritten (Applies m) x y given s want none =
    two_unwritten applying (within_keeps (λ (a : Apply). a.heads) (heads_of (λ (c : Changes). laid_over))
    (heads_keep (λ (c : Changes). laid_over) (λ c. laid_over_is_choice))) m (x 0) (x 1) (y 0) s.stands want
unwritten (Simplifies m) x y given s want none = one_unwritten simplifying simplify_keeps m (x 0) (y 0) s.stands want
unwritten (Selects m) x y given s want none = one_unwritten selecting selecting_keeps m (x 0) (y 0) s.stands want
