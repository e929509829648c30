-- A task that gives its input at each of its outputs, as tee, buffer and spool, and how its machine stands.
-- Here all that passed its ports is known; the code holds one message, and gives it output by output.
use Rattle.std.specs.Prelude.{◌≡◌, ◌≢◌, ℕ, ◌<◌, ◌≤◌, ◌-◌, nat_lt, List, [], ◌++◌, Bool, true, false, if◌then◌else◌, Option, Some, None, option_to_list, ⊤}
use Rattle.osm_entity.specs.Machines.{Meanings}
use Rattle.osm_entity.specs.Meaning.{finish_after}
use Rattle.osm_entity.specs.Ports.{Ports, end_of, has_end}
use Rattle.osm_entity.specs.Tasks.{TaskMeaning, verdict_as}
use Rattle.osm_entity.specs.declared.stream.End.{End}
use Rattle.osm_entity.specs.declared.stream.Message.{Message}
use Rattle.osm_entity.specs.declared.stream.Want.{Want}
use Rattle.osm_entity.specs.declared.stream.Want.TheVariants.{Take, Give, Ended}
use Rattle.osm_entity.specs.declared.verdict.Verdict.{Verdict}
use Rattle.osm_entity.specs.declared.verdict.Verdict.TheVariants.{Running, Memory}

-- the task that gives its input, whole, at each of its outputs
abbrev pub copying_task : ℕ → TaskMeaning
copying_task outputs = record {
  inputs = 1;
  outputs = outputs;
  limit = 0;
  gives = λ bytes came f port. f 0;
  text = λ f. [];
  finish = λ bytes came f. finish_after (f 0).end;
  turn = λ x port. true;
  holds = false;
}

-- its machine: how many outputs it has, the message that it still has to give, from which output on, and the end that
-- came; it may be out of memory
pub record CopyingValue : Type 0 where
  pub outputs : ℕ
  pub held : Option Message
  pub next : ℕ
  pub end : Option End
  pub stopped : Bool

-- the end that came among some messages
abbrev pub end_taken : List Message → Option End
end_taken x = if has_end x then Some (end_of x) else None

-- what an output still lacks of the message that is held: nothing where its turn is over
abbrev pub still_held : Option Message → ℕ → ℕ → List Message
still_held held next port = if nat_lt port next then [] else option_to_list held

-- each output gave all that was taken, but for the message that it has to give yet
pub record CopiesAll (c : CopyingValue) (x : List Message) (y : Ports) : Type 0 where
  pub runs : c.stopped ≡ false
  pub turn : c.next < c.outputs
  pub first : c.held ≡ None → c.next ≡ 0
  pub gave : (port : ℕ) → port < c.outputs → x ≡ y port ++ still_held c.held c.next port
  pub met : c.end ≡ end_taken x
  pub unended : c.held ≢ None → (port : ℕ) → c.next ≤ port → port < c.outputs → has_end (y port) ≡ false

-- it gives the message that it holds at the output whose turn it is; with none it takes until the end came
abbrev pub copying_wants : Option Message → ℕ → Option End → Want
copying_wants (Some message) next end = Give next
copying_wants None next None = Take 0
copying_wants None next (Some end) = Ended

-- it runs until it gave its end at each output; then it is clean, or passed a broken end on
abbrev pub copying_verdict : Bool → Option Message → Option End → Verdict
copying_verdict true held end = Memory
copying_verdict false (Some message) end = Running
copying_verdict false None None = Running
copying_verdict false None (Some end) = verdict_as 0 0 (finish_after end)

-- it can still give the message that it holds at the outputs from its turn on
abbrev pub copying_left : Option Message → ℕ → ℕ → ℕ
copying_left None next outputs = 0
copying_left (Some message) next outputs = outputs - next

-- the machine of tee, buffer and spool
abbrev pub copying : Meanings CopyingValue
copying = record {
  task = λ c. copying_task c.outputs;
  stands = λ c x y given. CopiesAll c (x 0) y;
  wanted = λ c. copying_wants c.held c.next c.end;
  verdict = λ c. copying_verdict c.stopped c.held c.end;
  wrote = λ c. None;
  devices = λ c given. ⊤;
  left = λ c. copying_left c.held c.next c.outputs;
}
