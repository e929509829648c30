-- A machine that makes items: how contracts see it, what it stands for, and what it means.
-- Here all that it makes is one list; the code makes an item when it is asked for one.
use Rattle.std.specs.Prelude.{◌≡◌, ℕ, ◌+◌, List, [], ◌++◌, Bool, true, false, None, ⊤}
use Rattle.osm_entity.specs.Items.{ItemValue}
use Rattle.osm_entity.specs.Machines.{Meanings}
use Rattle.osm_entity.specs.Meaning.{Whole}
use Rattle.osm_entity.specs.Ports.{fixed}
use Rattle.osm_entity.specs.Streams.{Stream}
use Rattle.osm_entity.specs.Tasks.{TaskMeaning}
use Rattle.osm_entity.specs.declared.stream.End.TheVariants.{Done}
use Rattle.osm_entity.specs.declared.stream.Message.{Message}
use Rattle.osm_entity.specs.declared.stream.Want.{Want}
use Rattle.osm_entity.specs.declared.stream.Want.TheVariants.{Give, Ended}
use Rattle.osm_entity.specs.declared.verdict.Verdict.{Verdict}
use Rattle.osm_entity.specs.declared.verdict.Verdict.TheVariants.{Running, Clean, Memory}
use Rattle.osm_made.specs.Generator.{made_list}
use Rattle.osm_made.specs.Maker.{MadeValue, count_to_come, items_to_come}
use Rattle.osm_machine.specs.declared.making.Progress.{Progress}
use Rattle.osm_machine.specs.declared.making.Progress.TheVariants.{Going, Closed, Stopped}

-- a machine that makes items: its generator, and how far it is
pub record MakingValue : Type 0 where
  pub made : MadeValue
  pub progress : Progress

-- a whole stream of items
abbrev pub done_after : List ItemValue → Stream
done_after items = record { items = items; end = Done }

-- the task that makes items: it has no input, gives the made items at its one output, and ends whole
abbrev pub made_task : ℕ → ℕ → TaskMeaning
made_task count seed = record {
  inputs = 0;
  outputs = 1;
  limit = 0;
  gives = λ bytes came f port. done_after (made_list count seed);
  text = λ f. [];
  finish = λ bytes came f. Whole;
  turn = λ x port. true;
  holds = false;
}

-- whether the end was given
abbrev pub is_making_closed : Progress → Bool
is_making_closed Going = false
is_making_closed Closed = true
is_making_closed Stopped = false

-- what a machine that makes items has yet to give: anything while it goes on, and nothing once its end was given
abbrev pub IsMakingAt : Progress → List ItemValue → Type 0
IsMakingAt Going items = ⊤
IsMakingAt Closed items = items ≡ []
IsMakingAt Stopped items = ⊥

-- what a machine that makes items wants: to give, until its end was given
abbrev pub making_wants : Progress → Want
making_wants Going = Give 0
making_wants Closed = Ended
making_wants Stopped = Ended

-- its verdict: clean once its end was given
abbrev pub making_verdict : Progress → Verdict
making_verdict Going = Running
making_verdict Closed = Clean
making_verdict Stopped = Memory

-- whether its end is still to be given, as a number
abbrev pub end_to_come : Progress → ℕ
end_to_come Going = 1
end_to_come Closed = 0
end_to_come Stopped = 0

-- a machine that makes items stands for the messages that it gave: the first of what it makes, and its end behind all
pub record MakingStands (m : MakingValue) (y : List Message) : Type 0 where
  pub items : List ItemValue
  pub gave : y ≡ fixed (is_making_closed m.progress) (done_after items)
  pub all : made_list m.made.count m.made.seed ≡ items ++ items_to_come m.made
  pub over : IsMakingAt m.progress (items_to_come m.made)

-- what machines that make items mean
abbrev pub making : Meanings MakingValue
making = record {
  task = λ m. made_task m.made.count m.made.seed;
  stands = λ m x y given. MakingStands m (y 0);
  wanted = λ m. making_wants m.progress;
  verdict = λ m. making_verdict m.progress;
  wrote = λ m. None;
  devices = λ m given. ⊤;
  left = λ m. count_to_come m.made + end_to_come m.progress;
}
