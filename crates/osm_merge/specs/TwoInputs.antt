-- Tasks of two inputs and one output: their rule is a function of two streams.
-- Here the ports are three lists; the code is told the number of a port.
use Rattle.std.specs.Prelude.{ℕ, List, [], Bool, false, None, ⊤}
use Rattle.osm_entity.specs.Machines.{Meanings}
use Rattle.osm_entity.specs.Meaning.{Finish}
use Rattle.osm_entity.specs.Streams.{Stream}
use Rattle.osm_entity.specs.declared.stream.Message.{Message}
use Rattle.osm_entity.specs.declared.stream.Want.{Want}
use Rattle.osm_entity.specs.declared.verdict.Verdict.{Verdict}

-- machines of two inputs and one output: their rule, how they end, the messages stood for (of both inputs and then of
-- the output), and from which port they may take
pub record TwoInputs (M : Type 0) : Type 1 where
  pub rule : M → Stream → Stream → Stream
  pub finish : M → Stream → Stream → Finish
  pub stands : M → List Message → List Message → List Message → Type 0
  pub turn : List Message → List Message → ℕ → Bool
  pub wanted : M → Want
  pub verdict : M → Verdict
  pub left : M → ℕ

-- their meanings as machines: ports 0 and 1 in and port 0 out, no source and no sink, and they hold nothing
abbrev pub meanings_of_two : {M : Type 0} → TwoInputs M → Meanings M
meanings_of_two of = record {
  task = λ m. record {
    inputs = 2;
    outputs = 1;
    limit = 0;
    gives = λ bytes came f port. of.rule m (f 0) (f 1);
    text = λ f. [];
    finish = λ bytes came f. of.finish m (f 0) (f 1);
    turn = λ x port. of.turn (x 0) (x 1) port;
    holds = false;
  };
  stands = λ m x y given. of.stands m (x 0) (x 1) (y 0);
  wanted = of.wanted;
  verdict = of.verdict;
  wrote = λ m. None;
  devices = λ m given. ⊤;
  left = of.left;
}

-- machines that hold another machine of two inputs mean what that one means
abbrev pub two_within : {M N : Type 0} → (N → M) → TwoInputs M → TwoInputs N
two_within inner of = record {
  rule = λ n. of.rule (inner n);
  finish = λ n. of.finish (inner n);
  stands = λ n. of.stands (inner n);
  turn = of.turn;
  wanted = λ n. of.wanted (inner n);
  verdict = λ n. of.verdict (inner n);
  left = λ n. of.left (inner n);
}
