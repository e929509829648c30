-- One input after another, and when a machine of it stands for what it took and gave.
-- Here both inputs are whole; the code passes each message on.
use Rattle.std.specs.Prelude.{◌≡◌, ◌==◌, List, [], ◌++◌, false, if◌then◌else◌, Option, Some, None, is_some, option_to_list}
use Rattle.osm_entity.specs.Meaning.{Finish, finish_after}
use Rattle.osm_entity.specs.Ports.{end_of, has_end, stream_of, fixed}
use Rattle.osm_entity.specs.Streams.{Stream}
use Rattle.osm_entity.specs.Tasks.{verdict_as}
use Rattle.osm_entity.specs.declared.stream.End.{End}
use Rattle.osm_entity.specs.declared.stream.End.TheVariants.{Done, Broken}
use Rattle.osm_entity.specs.declared.stream.Message.{Message}
use Rattle.osm_entity.specs.declared.stream.Want.{Want}
use Rattle.osm_entity.specs.declared.stream.Want.TheVariants.{Take, Give, Ended}
use Rattle.osm_entity.specs.declared.verdict.Verdict.{Verdict}
use Rattle.osm_entity.specs.declared.verdict.Verdict.TheVariants.{Running}
use Rattle.osm_merge.specs.Heads.{one_if}
use Rattle.osm_merge.specs.Rules.{is_done}
use Rattle.osm_merge.specs.TwoInputs.{TwoInputs}
use Rattle.osm_merge.specs.declared.append.Append.{Append}

-- the end of two inputs one after the other: input 1's, and Broken where input 0 is
abbrev pub end_appended : End → End → End
end_appended Done second = second
end_appended Broken second = Broken

-- input 0 and then input 1; a broken input 0 alone
abbrev pub appended : Stream → Stream → Stream
appended s t = record {
  items = if is_done s.end then s.items ++ t.items else s.items;
  end = end_appended s.end t.end;
}

-- how an append ends: as its output does
abbrev pub finish_appended : Stream → Stream → Finish
finish_appended s t = finish_after (end_appended s.end t.end)

-- it gives what it holds; else it takes input 0 to its end, and then input 1
abbrev pub append_want : Option Message → Option End → Option End → Want
append_want (Some message) first second = Give 0
append_want None None second = Take 0
append_want None (Some end) None = Take 1
append_want None (Some end) (Some last) = Ended

-- its verdict: running until it has ended, and then by the end of its output
abbrev pub append_verdict : Option Message → Option End → Option End → Verdict
append_verdict (Some message) first second = Running
append_verdict None None second = Running
append_verdict None (Some end) None = Running
append_verdict None (Some end) (Some last) = verdict_as 0 0 (finish_after (end_appended end last))

-- the end that came among some messages, if one did
abbrev pub end_come : List Message → Option End
end_come x = if has_end x then Some (end_of x) else None

-- it gave all messages that its inputs fix but the one that it holds, and input 1 only after input 0's end
pub record AppendStands (a : Append) (x z y : List Message) : Type 0 where
  pub first : a.first ≡ end_come x
  pub second : a.second ≡ end_come z
  pub order : has_end x ≡ false → z ≡ []
  pub gave : fixed (has_end z) (appended (stream_of x) (stream_of z)) ≡ y ++ option_to_list a.held

-- machines of append-change: what is left to one is the message that it holds
abbrev pub appending : TwoInputs Append
appending = record {
  rule = λ a. appended;
  finish = λ a. finish_appended;
  stands = AppendStands;
  turn = λ x z port. port == (if has_end x then 1 else 0);
  wanted = λ a. append_want a.held a.first a.second;
  verdict = λ a. append_verdict a.held a.first a.second;
  left = λ a. one_if (is_some a.held);
}
