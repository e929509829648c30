-- The two tasks without a file: the one that gives no item, and the one that drops its input.
-- Here all that passed their ports is known; the code knows only whether an end passed.
use Rattle.std.specs.Prelude.{◌≡◌, ℕ, [], ◌∷◌, List, Bool, true, false, Option, Some, None, ⊤}
use Rattle.osm_entity.specs.Growth.{broken_after}
use Rattle.osm_entity.specs.Machines.{Meanings}
use Rattle.osm_entity.specs.Meaning.{Whole, finish_after}
use Rattle.osm_entity.specs.Tasks.{TaskMeaning, verdict_as}
use Rattle.osm_entity.specs.declared.stream.End.{End}
use Rattle.osm_entity.specs.declared.stream.End.TheVariants.{Done}
use Rattle.osm_entity.specs.declared.stream.Message.{Message}
use Rattle.osm_entity.specs.declared.stream.Message.TheVariants.{End as Last}
use Rattle.osm_entity.specs.declared.stream.Want.{Want}
use Rattle.osm_entity.specs.declared.stream.Want.TheVariants.{Take, Give, Ended}
use Rattle.osm_entity.specs.declared.verdict.Verdict.{Verdict}
use Rattle.osm_entity.specs.declared.verdict.Verdict.TheVariants.{Running, Clean}
use Rattle.osm_machine.specs.Copying.{end_taken}
use Rattle.osm_machine.specs.declared.emptying.Dropping.{Dropping}
use Rattle.osm_machine.specs.declared.emptying.Empty.{Empty}

-- the task that gives no item, and then its end
abbrev pub empty_task : TaskMeaning
empty_task = record {
  inputs = 0;
  outputs = 1;
  limit = 0;
  gives = λ bytes came f port. record { items = []; end = Done };
  text = λ f. [];
  finish = λ bytes came f. Whole;
  turn = λ x port. true;
  holds = false;
}

-- what it gave: its end, once it is closed
abbrev pub given_empty : Bool → List Message
given_empty false = []
given_empty true = Last Done ∷ []

-- it gives its end, and then has ended
abbrev pub empty_wants : Bool → Want
empty_wants false = Give 0
empty_wants true = Ended

-- it runs until it gave its end, and then is clean
abbrev pub empty_verdict : Bool → Verdict
empty_verdict false = Running
empty_verdict true = Clean

-- it can still give its end
abbrev pub empty_left : Bool → ℕ
empty_left false = 1
empty_left true = 0

-- the machine that gives no item
abbrev pub emptying : Meanings Empty
emptying = record {
  task = λ m. empty_task;
  stands = λ m x y given. y 0 ≡ given_empty m.closed;
  wanted = λ m. empty_wants m.closed;
  verdict = λ m. empty_verdict m.closed;
  wrote = λ m. None;
  devices = λ m given. ⊤;
  left = λ m. empty_left m.closed;
}

-- the task that drops its input, and writes nothing
abbrev pub dropping_task : TaskMeaning
dropping_task = record {
  inputs = 1;
  outputs = 0;
  limit = 0;
  gives = λ bytes came f port. broken_after [];
  text = λ f. [];
  finish = λ bytes came f. finish_after (f 0).end;
  turn = λ x port. true;
  holds = false;
}

-- it takes until the end came
abbrev pub dropping_wants : Option End → Want
dropping_wants None = Take 0
dropping_wants (Some end) = Ended

-- it runs until the end came, and then is as that end
abbrev pub dropping_verdict : Option End → Verdict
dropping_verdict None = Running
dropping_verdict (Some end) = verdict_as 0 0 (finish_after end)

-- the machine that drops its input
abbrev pub dropping : Meanings Dropping
dropping = record {
  task = λ m. dropping_task;
  stands = λ m x y given. m.end ≡ end_taken (x 0);
  wanted = λ m. dropping_wants m.end;
  verdict = λ m. dropping_verdict m.end;
  wrote = λ m. None;
  devices = λ m given. ⊤;
  left = λ m. 0;
}
