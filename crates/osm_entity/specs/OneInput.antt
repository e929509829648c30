-- Tasks of one input and one output: their rule is a function of a stream, and a record of laws by it.
-- Here the ports are two lists; the code is told the number of a port.
use Rattle.std.specs.Prelude.{◌≡◌, ◌≢◌, ◌↔◌, ℕ, List, [], Bool, true, false, None, ⊤}
use Rattle.osm_entity.specs.Growth.{IsMonotone}
use Rattle.osm_entity.specs.Machines.{Meanings}
use Rattle.osm_entity.specs.Meaning.{Finish, Cut}
use Rattle.osm_entity.specs.Ports.{items_of, has_end, stream_of}
use Rattle.osm_entity.specs.Streams.{Stream, IsBefore}
use Rattle.osm_entity.specs.Tasks.{verdict_as}
use Rattle.osm_entity.specs.declared.stream.Message.{Message}
use Rattle.osm_entity.specs.declared.stream.Want.{Want}
use Rattle.osm_entity.specs.declared.stream.Want.TheVariants.{Pull, Take, Give, Ended}
use Rattle.osm_entity.specs.declared.verdict.Verdict.{Verdict}
use Rattle.osm_entity.specs.declared.verdict.Verdict.TheVariants.{Running}

-- machines of one input and one output: their rule, how they end, and whether they hold all until then
pub record OneInput (M : Type 0) : Type 1 where
  pub rule : M → Stream → Stream
  pub finish : M → Stream → Finish
  pub stands : M → List Message → List Message → Type 0
  pub wanted : M → Want
  pub verdict : M → Verdict
  pub holds : M → Bool
  pub left : M → ℕ

-- their meanings as machines: port 0 in and port 0 out, no source and no sink
abbrev pub meanings_of : {M : Type 0} → OneInput M → Meanings M
meanings_of of = record {
  task = λ m. record {
    inputs = 1;
    outputs = 1;
    limit = 0;
    gives = λ bytes came f port. of.rule m (f 0);
    text = λ f. [];
    finish = λ bytes came f. of.finish m (f 0);
    turn = λ x port. true;
    holds = of.holds m;
  };
  stands = λ m x y given. of.stands m (x 0) (y 0);
  wanted = of.wanted;
  verdict = of.verdict;
  wrote = λ m. None;
  devices = λ m given. ⊤;
  left = of.left;
}

-- each keeps its rule: what it gave is before the rule of what it took, at its end all of it, and it wants what it may
pub record KeepsItsRule {M : Type 0} (of : OneInput M) : Type 0 where
  pub before : (m : M) (x y : List Message) → of.stands m x y → IsBefore (stream_of y) (of.rule m (stream_of x))
  pub ended : (m : M) (x y : List Message) → of.stands m x y → of.wanted m ≡ Ended →
      (has_end x ≡ true) × (has_end y ≡ true)
  pub whole : (m : M) (x y : List Message) → of.stands m x y → of.wanted m ≡ Ended →
      stream_of y ≡ of.rule m (stream_of x)
  pub judged : (m : M) (x y : List Message) → of.stands m x y → of.wanted m ≡ Ended →
      of.verdict m ≡ verdict_as 0 0 (of.finish m (stream_of x))
  pub takes : (m : M) (x y : List Message) (port : ℕ) → of.stands m x y → of.wanted m ≡ Take port →
      (port ≡ 0) × (has_end x ≡ false)
  pub hands : (m : M) (x y : List Message) (port : ℕ) → of.stands m x y → of.wanted m ≡ Give port →
      (port ≡ 0) × (has_end y ≡ false)
  pub running : (m : M) (x y : List Message) → of.stands m x y → (of.verdict m ≡ Running) ↔ (of.wanted m ≢ Ended)
  pub never_pulls : (m : M) (x y : List Message) → of.stands m x y → of.wanted m ≢ Pull
  pub never_cut : (m : M) (s : Stream) → of.finish m s ≢ Cut
  pub monotone : (m : M) → IsMonotone (of.rule m)

-- a machine that doesn't hold takes more only where it gave all items that its rule fixes
abbrev pub GivesAtOnce : {M : Type 0} → OneInput M → Type 0
GivesAtOnce of = (m : _) (x y : List Message) (port : ℕ) → of.holds m ≡ false → of.stands m x y →
    of.wanted m ≡ Take port → items_of y ≡ (of.rule m (stream_of x)).items

-- a machine that holds gives only where its input has ended
abbrev pub GivesAtEnd : {M : Type 0} → OneInput M → Type 0
GivesAtEnd of = (m : _) (x y : List Message) (port : ℕ) → of.holds m ≡ true → of.stands m x y →
    of.wanted m ≡ Give port → has_end x ≡ true
