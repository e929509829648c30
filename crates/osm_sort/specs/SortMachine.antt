-- How the machine of a sort stands.
-- Here all that passed its two ports is known; the code has the items that are left to give.
use Rattle.std.specs.Prelude.{◌≡◌, ℕ, ◌+◌, List, [], ◌++◌, length, true, false}
use Rattle.osm_entity.specs.Items.{ItemValue}
use Rattle.osm_entity.specs.Meaning.{finish_after}
use Rattle.osm_entity.specs.OneInput.{OneInput}
use Rattle.osm_entity.specs.Ports.{end_of, fixed, has_end, items_of, stream_of}
use Rattle.osm_entity.specs.Tasks.{verdict_as}
use Rattle.osm_entity.specs.declared.stream.End.{End}
use Rattle.osm_entity.specs.declared.stream.Message.{Message}
use Rattle.osm_entity.specs.declared.stream.Want.{Want}
use Rattle.osm_entity.specs.declared.stream.Want.TheVariants.{Take, Give, Ended}
use Rattle.osm_entity.specs.declared.verdict.Verdict.{Verdict}
use Rattle.osm_entity.specs.declared.verdict.Verdict.TheVariants.{Running, Memory}
use Rattle.osm_sort.specs.Sorted.{stream_sorted}
use Rattle.osm_sort.specs.declared.phase.Phase.{Phase}
use Rattle.osm_sort.specs.declared.phase.Phase.TheVariants.{Gathering, Giving, Closed, Stopped}

-- a sort: the items that it holds, and how far it is
pub record SortValue : Type 0 where
  pub kept : List ItemValue
  pub phase : Phase

-- while its input goes on it holds all items that it took, and gave nothing
pub record GathersToSort (kept : List ItemValue) (x y : List Message) : Type 0 where
  pub running : has_end x ≡ false
  pub all : kept ≡ items_of x
  pub nothing : y ≡ []

-- once its input has ended so, its stream is what it gave and then what is left
pub record GivesSorted (end : End) (left x y : List Message) : Type 0 where
  pub over : has_end x ≡ true
  pub met : end_of x ≡ end
  pub all : fixed true (stream_sorted (stream_of x)) ≡ y ++ left

-- it stands by how far it is; out of memory it stands for nothing
abbrev pub sort_stands_at : List ItemValue → Phase → List Message → List Message → Type 0
sort_stands_at kept Gathering x y = GathersToSort kept x y
sort_stands_at kept (Giving end) x y = GivesSorted end (fixed true (record { items = kept; end = end })) x y
sort_stands_at kept (Closed end) x y = GivesSorted end [] x y
sort_stands_at kept Stopped x y = ⊥

-- it takes until its input has ended, and then gives
abbrev pub sort_wants : Phase → Want
sort_wants Gathering = Take 0
sort_wants (Giving end) = Give 0
sort_wants (Closed end) = Ended
sort_wants Stopped = Ended

-- it runs until it gave its end; then it is clean, or passed a broken end on
abbrev pub sort_verdict : Phase → Verdict
sort_verdict Gathering = Running
sort_verdict (Giving end) = Running
sort_verdict (Closed end) = verdict_as 0 0 (finish_after end)
sort_verdict Stopped = Memory

-- what it can still give: the items that it holds, and after them an end that came
abbrev pub sort_left : List ItemValue → Phase → ℕ
sort_left kept Gathering = length kept
sort_left kept (Giving end) = length kept + 1
sort_left kept (Closed end) = 0
sort_left kept Stopped = 0

-- the machine of a sort: it holds its items until its input has ended
abbrev pub sorting : OneInput SortValue
sorting = record {
  rule = λ s. stream_sorted;
  finish = λ s t. finish_after t.end;
  stands = λ s x y. sort_stands_at s.kept s.phase x y;
  wanted = λ s. sort_wants s.phase;
  verdict = λ s. sort_verdict s.phase;
  holds = λ s. true;
  left = λ s. sort_left s.kept s.phase;
}
