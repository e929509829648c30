-- A machine that writes a file: how contracts see it, what it stands for, and what it means.
-- Here all that it took is one list; the code keeps none of it but what the open run of a file needs.
use Rattle.std.specs.Prelude.{◌≡◌, ℕ, List, Option, Some, None, IsSome}
use Rattle.std.specs.Io.KnownBytes.{append_known}
use Rattle.osm_entity.specs.Machines.{Given, Meanings, WrotePrefix}
use Rattle.osm_entity.specs.Meaning.{finish_after}
use Rattle.osm_entity.specs.Ports.{items_of, stream_of}
use Rattle.osm_entity.specs.Tasks.{verdict_as}
use Rattle.osm_entity.specs.declared.stream.End.{End}
use Rattle.osm_entity.specs.declared.stream.Message.{Message}
use Rattle.osm_entity.specs.declared.stream.Want.{Want}
use Rattle.osm_entity.specs.declared.stream.Want.TheVariants.{Take, Ended}
use Rattle.osm_entity.specs.declared.verdict.Verdict.{Verdict}
use Rattle.osm_entity.specs.declared.verdict.Verdict.TheVariants.{Running, Write, Memory}
use Rattle.osm_machine.specs.Copying.{end_taken}
use Rattle.osm_machine.specs.Sinks.{FaultsOfPuts, SinkSeen, TookNothing}
use Rattle.osm_machine.specs.Writers.{FileWrote, form_of}
use Rattle.osm_machine.specs.Written.{form_text, writer_task}
use Rattle.osm_machine.specs.declared.puts.Puts.{Puts}
use Rattle.osm_machine.specs.declared.puts.Puts.TheVariants.{Good, Refused, Stopped}
use Rattle.osm_machine.specs.declared.writer.FileWriter.{FileWriter}

-- a machine that writes: its writer, its sink, how it stands with its puts, and the end that came
pub record WritingValue : Type 0 where
  pub writer : FileWriter
  pub sink : SinkSeen
  pub puts : Puts
  pub end : Option End

-- the text that is meant of some messages
abbrev pub text_taken : FileWriter → List Message → List ℕ
text_taken writer x = form_text (form_of writer) (stream_of x)

-- what a sink took, while no put failed: what is written of the items before their end, and with it all
abbrev pub HasWritten : Option End → FileWriter → (first now : Option (List ℕ)) → List Message → Type 0
HasWritten None writer first now x = FileWrote writer first now (items_of x)
HasWritten (Some end) writer first now x = now ≡ append_known first (text_taken writer x)

-- what a sink took by its puts: all of it, or a prefix once one failed
abbrev pub WroteBy : Puts → Option End → FileWriter → (first now : Option (List ℕ)) → List Message → Type 0
WroteBy Good end writer first now x = HasWritten end writer first now x
WroteBy Refused end writer first now x = WrotePrefix now (text_taken writer x)
WroteBy Stopped end writer first now x = ⊥

-- the count of its sink's faults rose where a put failed, and a sink that told what it took still does
pub record WritingDevices (m : WritingValue) (given : Given WritingValue) : Type 0 where
  pub faults : FaultsOfPuts m.puts given.made.sink.faults m.sink.faults
  pub told : IsSome given.made.sink.taken → IsSome m.sink.taken

-- a machine that writes stands for the messages that it took: its sink, which had taken nothing, took what is written
pub record WritingStands (m : WritingValue) (x : List Message) (given : Given WritingValue) : Type 0 where
  pub fresh : TookNothing given.made.sink.taken
  pub wrote : WroteBy m.puts m.end m.writer given.made.sink.taken m.sink.taken x
  pub met : m.end ≡ end_taken x
  pub devices : WritingDevices m given

-- it takes until the end came
abbrev pub writing_wants : Option End → Want
writing_wants None = Take 0
writing_wants (Some end) = Ended

-- it runs until the end came; then it is as the end, or says that its sink failed
abbrev pub writing_verdict : Puts → Option End → Verdict
writing_verdict Stopped end = Memory
writing_verdict Good None = Running
writing_verdict Refused None = Running
writing_verdict Good (Some end) = verdict_as 0 0 (finish_after end)
writing_verdict Refused (Some end) = Write

-- what machines that write mean
abbrev pub writing : Meanings WritingValue
writing = record {
  task = λ m. writer_task (form_of m.writer);
  stands = λ m x y given. WritingStands m (x 0) given;
  wanted = λ m. writing_wants m.end;
  verdict = λ m. writing_verdict m.puts m.end;
  wrote = λ m. m.sink.taken;
  devices = WritingDevices;
  left = λ m. 0;
}
