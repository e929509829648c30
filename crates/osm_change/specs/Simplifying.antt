-- How the machine of a simplify stands.
-- Here all that passed its two ports is known; the code has the items that are left to give.
use Rattle.std.specs.Prelude.{◌≡◌, ℕ, suc, ◌+◌, List, [], ◌∷◌, ◌++◌, length, true, false, if◌then◌else◌, Option, Some, None, ⊤}
use Rattle.std.specs.BTreeMap.{BTreeMap, get}
use Rattle.std.specs.Option.{option_map}
use Rattle.osm_change.specs.Simplified.{last_of_each, stream_simplified}
use Rattle.osm_change.specs.declared.phase.Phase.{Phase}
use Rattle.osm_change.specs.declared.phase.Phase.TheVariants.{Gathering, Giving, Closed, Stopped}
use Rattle.osm_entity.specs.Items.{ItemValue, key_of}
use Rattle.osm_entity.specs.Meaning.{finish_after}
use Rattle.osm_entity.specs.OneInput.{OneInput}
use Rattle.osm_entity.specs.Ports.{end_of, fixed, has_end, items_of, stream_of}
use Rattle.osm_entity.specs.Tasks.{verdict_as}
use Rattle.osm_entity.specs.contracts.kind.KeyOrd.TheImpl as compared
use Rattle.osm_entity.specs.declared.kind.Key.{Key}
use Rattle.osm_entity.specs.declared.stream.End.{End}
use Rattle.osm_entity.specs.declared.stream.Message.{Message}
use Rattle.osm_entity.specs.declared.stream.Want.{Want}
use Rattle.osm_entity.specs.declared.stream.Want.TheVariants.{Take, Give, Ended}
use Rattle.osm_entity.specs.declared.verdict.Verdict.{Verdict}
use Rattle.osm_entity.specs.declared.verdict.Verdict.TheVariants.{Running, Memory}
use Rattle.osm_merge.specs.Rules.{is_same_key}

-- a simplify: the items that it holds, and how far it is
pub record SimplifyValue : Type 0 where
  pub kept : List ItemValue
  pub phase : Phase

-- the place of the first of some items that has a key
abbrev pub place_of_key : Key → List ItemValue → Option ℕ
place_of_key key [] = None
place_of_key key (item ∷ more) =
    if is_same_key (key_of item) key then Some 0 else option_map suc (place_of_key key more)

-- a map has the place of each key
abbrev pub HasPlaces : BTreeMap Key ℕ → List ItemValue → Type 0
HasPlaces places kept = (key : Key) → get compared.ghosts.cmp places key ≡ place_of_key key kept

-- it has them while it takes its input
abbrev pub KeepsPlaces : Phase → BTreeMap Key ℕ → List ItemValue → Type 0
KeepsPlaces Gathering places kept = HasPlaces places kept
KeepsPlaces (Giving end) places kept = ⊤
KeepsPlaces (Closed end) places kept = ⊤
KeepsPlaces Stopped places kept = ⊤

-- while its input goes on it holds the last item of each key that it took, and gave nothing
pub record GathersLatest (kept : List ItemValue) (x y : List Message) : Type 0 where
  pub running : has_end x ≡ false
  pub all : kept ≡ last_of_each (items_of x)
  pub nothing : y ≡ []

-- once its input has ended so, its stream is what it gave and then what is left
pub record GivesLatest (end : End) (left x y : List Message) : Type 0 where
  pub over : has_end x ≡ true
  pub met : end_of x ≡ end
  pub all : fixed true (stream_simplified (stream_of x)) ≡ y ++ left

-- it stands by how far it is; out of memory it stands for nothing
abbrev pub simplify_stands_at : List ItemValue → Phase → List Message → List Message → Type 0
simplify_stands_at kept Gathering x y = GathersLatest kept x y
simplify_stands_at kept (Giving end) x y = GivesLatest end (fixed true (record { items = kept; end = end })) x y
simplify_stands_at kept (Closed end) x y = GivesLatest end [] x y
simplify_stands_at kept Stopped x y = ⊥

-- it takes until its input has ended, and then gives
abbrev pub simplify_wants : Phase → Want
simplify_wants Gathering = Take 0
simplify_wants (Giving end) = Give 0
simplify_wants (Closed end) = Ended
simplify_wants Stopped = Ended

-- it runs until it gave its end; then it is clean, or passed a broken end on
abbrev pub simplify_verdict : Phase → Verdict
simplify_verdict Gathering = Running
simplify_verdict (Giving end) = Running
simplify_verdict (Closed end) = verdict_as 0 0 (finish_after end)
simplify_verdict Stopped = Memory

-- what it can still give: the items that it holds, and after them an end that came
abbrev pub simplify_left : List ItemValue → Phase → ℕ
simplify_left kept Gathering = length kept
simplify_left kept (Giving end) = length kept + 1
simplify_left kept (Closed end) = 0
simplify_left kept Stopped = 0

-- machines of simplify-change: they hold their items until their input has ended
abbrev pub simplifying : OneInput SimplifyValue
simplifying = record {
  rule = λ s. stream_simplified;
  finish = λ s t. finish_after t.end;
  stands = λ s x y. simplify_stands_at s.kept s.phase x y;
  wanted = λ s. simplify_wants s.phase;
  verdict = λ s. simplify_verdict s.phase;
  holds = λ s. true;
  left = λ s. simplify_left s.kept s.phase;
}
