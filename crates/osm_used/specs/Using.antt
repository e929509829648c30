-- How the machines of used-node and used-way stand.
-- Here all that passed their two ports is known; the code has the items that it holds, and the ids that they name.
use Rattle.std.specs.Prelude.{◌≡◌, ℕ, ◌+◌, ℤ, List, [], ◌++◌, length, true, false}
use Rattle.osm_entity.specs.Items.{ItemValue}
use Rattle.osm_entity.specs.Meaning.{finish_after}
use Rattle.osm_entity.specs.OneInput.{OneInput}
use Rattle.osm_entity.specs.Ports.{end_of, fixed, has_end, items_of, stream_of}
use Rattle.osm_entity.specs.Tasks.{verdict_as}
use Rattle.osm_entity.specs.declared.kind.Kind.{Kind}
use Rattle.osm_entity.specs.declared.stream.End.{End}
use Rattle.osm_entity.specs.declared.stream.Message.{Message}
use Rattle.osm_entity.specs.declared.stream.Want.{Want}
use Rattle.osm_entity.specs.declared.stream.Want.TheVariants.{Take, Give, Ended}
use Rattle.osm_entity.specs.declared.verdict.Verdict.{Verdict}
use Rattle.osm_entity.specs.declared.verdict.Verdict.TheVariants.{Running, Memory}
use Rattle.osm_used.specs.Used.{has_id, is_used, items_left, used_only}
use Rattle.osm_used.specs.declared.phase.Phase.{Phase}
use Rattle.osm_used.specs.declared.phase.Phase.TheVariants.{Gathering, Giving, Closed, Stopped}

-- a machine: the kind of which it drops what isn't used, the items that it holds, the ids named, and how far it is
pub record UsedValue : Type 0 where
  pub kind : Kind
  pub kept : List ItemValue
  pub named : List ℤ
  pub phase : Phase

-- while its input goes on it holds all items, knows the ids of its kind that they name, and gave nothing
pub record GathersUsed (u : UsedValue) (x y : List Message) : Type 0 where
  pub running : has_end x ≡ false
  pub kept : u.kept ≡ items_of x
  pub named : (id : ℤ) → has_id u.named id ≡ is_used u.kind (items_of x) id
  pub nothing : y ≡ []

-- once its input has ended so, its stream is what it gave and then what is left
pub record GivesUsed (kind : Kind) (end : End) (left x y : List Message) : Type 0 where
  pub over : has_end x ≡ true
  pub met : end_of x ≡ end
  pub all : fixed true (used_only kind (stream_of x)) ≡ y ++ left

-- what is left to give of the items that it holds, and then its end
abbrev pub used_left : UsedValue → End → List Message
used_left u end = fixed true (record { items = items_left u.kind (has_id u.named) u.kept end; end = end })

-- it stands by how far it is; out of memory it stands for nothing
abbrev pub used_stands_at : UsedValue → Phase → List Message → List Message → Type 0
used_stands_at u Gathering x y = GathersUsed u x y
used_stands_at u (Giving end) x y = GivesUsed u.kind end (used_left u end) x y
used_stands_at u (Closed end) x y = GivesUsed u.kind end [] x y
used_stands_at u Stopped x y = ⊥

-- it takes until its input has ended, and then gives
abbrev pub used_wants : Phase → Want
used_wants Gathering = Take 0
used_wants (Giving end) = Give 0
used_wants (Closed end) = Ended
used_wants Stopped = Ended

-- it runs until it gave its end; then it is clean, or passed a broken end on
abbrev pub used_verdict : Phase → Verdict
used_verdict Gathering = Running
used_verdict (Giving end) = Running
used_verdict (Closed end) = verdict_as 0 0 (finish_after end)
used_verdict Stopped = Memory

-- what it can still give: the items that it holds, and after them an end that came
abbrev pub used_count : Phase → ℕ → ℕ
used_count Gathering kept = kept
used_count (Giving end) kept = kept + 1
used_count (Closed end) kept = 0
used_count Stopped kept = 0

-- the machines of used-node and used-way, by their kind: they hold all items until their input has ended
abbrev pub keeping_used : OneInput UsedValue
keeping_used = record {
  rule = λ u. used_only u.kind;
  finish = λ u s. finish_after s.end;
  stands = λ u x y. used_stands_at u u.phase x y;
  wanted = λ u. used_wants u.phase;
  verdict = λ u. used_verdict u.phase;
  holds = λ u. true;
  left = λ u. used_count u.phase (length u.kept);
}
