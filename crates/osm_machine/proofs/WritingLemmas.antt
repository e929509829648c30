-- The machine that writes a file is lawful, put by put.
use Rattle.std.proofs.Common.{◌≡◌, ℕ, ◌<◌, List, [], ◌∷◌, ◌++◌, length, take, Bool, true, false, Option, Some, None, refl, sym, ap, subst, ◌∙◌, arith}
use Rattle.std.specs.Prelude.{◌≢◌, ◌↔◌, Ok, Err, OnErr, OnOk, IsSome}
use Rattle.std.specs.declared.result.Result.{Result}
use Rattle.std.specs.Io.KnownBytes.{append_known}
use Rattle.std.specs.List.{flat_map}
use Rattle.std.proofs.lemmas.List.{length-append, take-append-le, take_all}
use Rattle.std.proofs.lemmas.List.Concat.{flat_map-append}
use Rattle.osm_entity.specs.Calls.{Takes, StopsInTake}
use Rattle.osm_entity.specs.Growth.{broken_after}
use Rattle.osm_entity.specs.Items.{ItemValue}
use Rattle.osm_entity.specs.Machines.{Given, AreLawful, IsBehind, HasEnded, IsNew, IsStopped, MayWant, WroteAll, WrotePrefix}
use Rattle.osm_entity.specs.Meaning.{finish_after}
use Rattle.osm_entity.specs.Ports.{Ports, added, end_of, has_end, items_of, stream_of}
use Rattle.osm_entity.specs.Prefixes.{IsPrefix}
use Rattle.osm_entity.specs.Streams.{Stream, IsBefore}
use Rattle.osm_entity.specs.Tasks.{verdict_as}
use Rattle.osm_entity.specs.declared.stream.End.{End}
use Rattle.osm_entity.specs.declared.stream.End.TheVariants.{Done, Broken}
use Rattle.osm_entity.specs.declared.stream.Message.{Message}
use Rattle.osm_entity.specs.declared.stream.Message.TheVariants.{Item as One, End as Last}
use Rattle.osm_entity.specs.declared.stream.Want.TheVariants.{Pull, Take, Give, Ended}
use Rattle.osm_entity.specs.declared.verdict.Verdict.TheVariants.{Running, Write}
use Rattle.osm_entity.proofs.PortLemmas.{items_of-item, prefix_before, stream_of-end, stream_of-item, stream_of-none}
use Rattle.osm_entity.proofs.PrefixLemmas.{prefix_append, prefix_itself, prefix_none, prefix_onward, prefix_take}
use Rattle.osm_entity.proofs.StreamLemmas.{before_itself}
use Rattle.osm_host.specs.Counts.{CountsRefusal, Rises}
use Rattle.osm_host.specs.Puts.{TakesPrefix}
use Rattle.osm_host.specs.declared.outside.HostError.{HostError}
use Rattle.osm_host.specs.declared.outside.HostError.TheVariants.{Failed, Memory}
use Rattle.osm_opl_line.specs.Writing.{line_text}
use Rattle.osm_made.proofs.SummaryLemmas.{summary_text-before}
use Rattle.osm_pbf.specs.WrittenFile.{pbf_text}
use Rattle.osm_pbf.proofs.WritingLemmas.{text-before}
use Rattle.osm_machine.specs.Copying.{end_taken}
use Rattle.osm_machine.specs.Sinks.{FaultsOfPuts, SinkSeen, TookNothing, puts_after}
use Rattle.osm_machine.specs.Writers.{FileWrote, PbfWrote, form_of}
use Rattle.osm_machine.specs.Writing.{HasWritten, WritingStands, WritingValue, WroteBy, text_taken, writing, writing_verdict, writing_wants}
use Rattle.osm_machine.specs.Written.{FileForm, OplForm, PbfForm, SummaryForm, form_text}
use Rattle.osm_machine.specs.declared.puts.Puts.{Puts}
use Rattle.osm_machine.specs.declared.puts.Puts.TheVariants.{Good, Refused, Stopped}
use Rattle.osm_machine.specs.declared.writer.FileWriter.{FileWriter}
use Rattle.osm_machine.specs.declared.writer.FileWriter.TheVariants.{Opl, Pbf, Summary}
use Rattle.osm_machine.proofs.CopyingLemmas.{came, end_taken-more, none_came, verdict_at_end}

-- ---- the bytes of files

-- the file of a stream that is before another is a prefix of the other's
pub text_onward : (form : FileForm) (s t : Stream) → IsBefore s t → IsPrefix (form_text form s) (form_text form t)
text_onward OplForm s t before = record {
  rest = flat_map line_text before.items.rest;
  joined = ap (flat_map line_text) before.items.joined ∙ flat_map-append line_text s.items before.items.rest;
}
text_onward (PbfForm options) s t before = by s.end refl where
  by : (end : End) → s.end ≡ end → IsPrefix (pbf_text options s) (pbf_text options t)
  by Done is = subst (λ u. IsPrefix (pbf_text options s) (pbf_text options u)) (before.done is)
      (prefix_itself (pbf_text options s))
  by Broken is = subst (λ e. IsPrefix (pbf_text options (record { items = s.items; end = e })) (pbf_text options t))
      (sym is) (subst (λ items. IsPrefix (pbf_text options (broken_after s.items))
      (pbf_text options (record { items = items; end = t.end }))) (sym before.items.joined)
      (text-before options s.items before.items.rest t.end))
text_onward SummaryForm s t before = summary_text-before s t before

-- ---- what a sink took

-- a prefix of some bytes is one of more
pub takes_more : (first now : Option (List ℕ)) (a b : List ℕ) → IsPrefix a b → TakesPrefix a first now →
    TakesPrefix b first now
takes_more first now a b prefix (k, fits, took) = subst (λ text. TakesPrefix text first now) (sym prefix.joined) (
  k,
  omega (arith, fits, length-append a prefix.rest),
  took ∙ ap (append_known first) (sym (take-append-le k a prefix.rest fits)),
)

-- all bytes are a prefix of them
pub takes_all : (first now : Option (List ℕ)) (a : List ℕ) → now ≡ append_known first a → TakesPrefix a first now
takes_all first now a took = (
  length a,
  omega arith,
  took ∙ ap (append_known first) (sym (take_all (length a) a (omega arith))),
)

-- a sink that had taken nothing took a prefix, or all
told_prefix : (first now : Option (List ℕ)) (text : List ℕ) → TookNothing first → TakesPrefix text first now →
    WrotePrefix now text
told_prefix None now text fresh (k, fits, took) = rw took tt
told_prefix (Some bytes) now text fresh (k, fits, took) = subst (λ taken. WrotePrefix taken text)
    (sym (took ∙ ap (λ b. Some (b ++ take k text)) fresh)) (prefix_take k text)

told_all : (first now : Option (List ℕ)) (text : List ℕ) → TookNothing first → now ≡ append_known first text →
    WroteAll now text
told_all None now text fresh took = rw took tt
told_all (Some bytes) now text fresh took =
    subst (λ taken. WroteAll taken text) (sym (took ∙ ap (λ b. Some (b ++ text)) fresh)) refl

told_none : (first now : Option (List ℕ)) (text : List ℕ) → TookNothing first → now ≡ first → WrotePrefix now text
told_none None now text fresh same = rw same tt
told_none (Some bytes) now text fresh same =
    subst (λ taken. WrotePrefix taken text) (sym (same ∙ ap Some fresh)) (prefix_none text)

-- a sink that told what it took still does
appended_told : (first now : Option (List ℕ)) (text : List ℕ) → now ≡ append_known first text → IsSome first → IsSome now
appended_told None now text took is = cc
appended_told (Some bytes) now text took is = subst IsSome (sym took) refl

taken_told : (first now : Option (List ℕ)) (text : List ℕ) → TakesPrefix text first now → IsSome first → IsSome now
taken_told first now text (k, fits, took) is = appended_told first now (take k text) took is

written_told : (end : Option End) (writer : FileWriter) (first now : Option (List ℕ)) (x : List Message) →
    HasWritten end writer first now x → IsSome first → IsSome now
written_told None (Opl writer) first now x took is = appended_told first now _ took is
written_told None (Pbf file) first now x took is = by file.begun took where
  by : (begun : Bool) → PbfWrote begun file.writer first now (items_of x) → IsSome now
  by true wrote = appended_told first now _ wrote.took is
  by false wrote = subst IsSome (sym wrote.1) is
written_told None (Summary summary) first now x took is = subst IsSome (sym took.0) is
written_told (Some end) writer first now x took is = appended_told first now (text_taken writer x) took is

-- what it took of the items before their end is a prefix of their file
wrote_prefix : (writer : FileWriter) (first now : Option (List ℕ)) (items : List ItemValue) → TookNothing first →
    FileWrote writer first now items → WrotePrefix now (form_text (form_of writer) (broken_after items))
wrote_prefix (Opl writer) first now items fresh took =
    let text = form_text OplForm (broken_after items) in
    told_prefix first now text fresh (takes_all first now text took)
wrote_prefix (Pbf file) first now items fresh took = by file.begun took where
  text : List ℕ
  text = pbf_text file.writer.options (broken_after items)

  by : (begun : Bool) → PbfWrote begun file.writer first now items → WrotePrefix now text
  by true wrote = told_prefix first now text fresh (takes_all first now text wrote.took)
  by false wrote = told_none first now text fresh wrote.1
wrote_prefix (Summary summary) first now items fresh took =
    told_none first now (form_text SummaryForm (broken_after items)) fresh took.0

-- a prefix of a text is one of a longer text
prefix_told : (now : Option (List ℕ)) (text more : List ℕ) → WrotePrefix now text → IsPrefix text more →
    WrotePrefix now more
prefix_told None text more took prefix = tt
prefix_told (Some bytes) text more took prefix = prefix_onward bytes text more took prefix

-- ---- what it stands for

wrote_by : (puts : Puts) (end : Option End) (writer : FileWriter) (first now : Option (List ℕ)) (x : List Message) →
    TookNothing first → end ≡ end_taken x → WroteBy puts end writer first now x →
    WrotePrefix now (text_taken writer x)
wrote_by Good None writer first now x fresh met took =
    subst (λ s. WrotePrefix now (form_text (form_of writer) s)) (sym (stream_of-none x (none_came x met)))
    (wrote_prefix writer first now (items_of x) fresh took)
wrote_by Good (Some end) writer first now x fresh met took =
    told_prefix first now (text_taken writer x) fresh (takes_all first now (text_taken writer x) took)
wrote_by Refused end writer first now x fresh met took = took
wrote_by Stopped end writer first now x fresh met took = absurd took

writing_behind : (m : WritingValue) (x y : Ports) (given : Given WritingValue) → WritingStands m (x 0) given →
    IsBehind writing m x y given
writing_behind m x y given s = record {
  gave = λ port known. absurd (omega (arith, known));
  wrote = wrote_by m.puts m.end m.writer given.made.sink.taken m.sink.taken (x 0) s.fresh s.met s.wrote;
  devices = s.devices;
}

first_port : (port : ℕ) → port < 1 → 0 ≡ port
first_port port known = omega arith

ends_with : (writer : FileWriter) (sink : SinkSeen) (puts : Puts) (e : End) (x y : Ports) (given : Given WritingValue) →
    WritingStands (record { writer = writer; sink = sink; puts = puts; end = Some e }) (x 0) given →
    (writing_verdict puts (Some e) ≢ Write → WroteAll sink.taken (text_taken writer (x 0))) →
    (writing_verdict puts (Some e) ≢ Write →
    writing_verdict puts (Some e) ≡ verdict_as 0 (length given.bytes) (finish_after (end_of (x 0)))) →
    HasEnded writing (record { writer = writer; sink = sink; puts = puts; end = Some e }) x y given
ends_with writer sink puts e x y given s wrote judged = record {
  took_ends = λ port known. subst (λ p. has_end (x p) ≡ true) (first_port port known) (came (x 0) e s.met).0;
  gave_ends = λ port known. absurd (omega (arith, known));
  whole = λ port known. absurd (omega (arith, known));
  wrote = wrote;
  judged = judged;
}

wants_by : (writer : FileWriter) (sink : SinkSeen) (puts : Puts) (end : Option End) (x y : Ports)
    (given : Given WritingValue) →
    WritingStands (record { writer = writer; sink = sink; puts = puts; end = end }) (x 0) given →
    MayWant writing (record { writer = writer; sink = sink; puts = puts; end = end }) x y given (writing_wants end)
wants_by writer sink puts None x y given s = record {
  its_own = omega arith;
  unended = none_came (x 0) s.met;
  turn = refl;
  gave = λ passes port known. absurd (omega (arith, known));
}
wants_by writer sink Good (Some e) x y given s = ends_with writer sink Good e x y given s
    (λ other. told_all given.made.sink.taken sink.taken (text_taken writer (x 0)) s.fresh s.wrote)
    (λ other. rw (came (x 0) e s.met).1 (verdict_at_end 0 (length given.bytes) e))
wants_by writer sink Refused (Some e) x y given s = ends_with writer sink Refused e x y given s
    (λ other. absurd (other refl)) (λ other. absurd (other refl))
wants_by writer sink Stopped (Some e) x y given s = absurd s.wrote

runs_by : (puts : Puts) (end : Option End) (writer : FileWriter) (first now : Option (List ℕ)) (x : List Message) →
    WroteBy puts end writer first now x → (writing_verdict puts end ≡ Running) ↔ (writing_wants end ≢ Ended)
runs_by Good None writer first now x took = (λ is w. cc, λ no. refl)
runs_by Good (Some Done) writer first now x took = (λ is w. cc, λ no. absurd (no refl))
runs_by Good (Some Broken) writer first now x took = (λ is w. cc, λ no. absurd (no refl))
runs_by Refused None writer first now x took = (λ is w. cc, λ no. refl)
runs_by Refused (Some e) writer first now x took = (λ is w. cc, λ no. absurd (no refl))
runs_by Stopped end writer first now x took = absurd took

pub writing_is_lawful : AreLawful writing
writing_is_lawful = record {
  behind = λ m x y given s. writing_behind m x y given s;
  wants = λ m x y given s. wants_by m.writer m.sink m.puts m.end x y given s;
  running = λ m x y given s. runs_by m.puts m.end m.writer given.made.sink.taken m.sink.taken (x 0) s.wrote;
  onward = λ m. record {
    gives = λ bytes came f g before port. before_itself (broken_after []);
    text = λ f g before. text_onward (form_of m.writer) (f 0) (g 0) (before 0);
  };
}

-- ---- the calls

pub empty : (end : Option End) (port : ℕ) → writing_wants end ≡ Take port → (port ≡ 0) × (end ≡ None)
empty None port w = (cc, refl)
empty (Some e) port w = absurd cc

pub writing_pulls_none : (end : Option End) → writing_wants end ≢ Pull
writing_pulls_none None = λ is. cc
writing_pulls_none (Some e) = λ is. cc

pub writing_gives_none : (end : Option End) (port : ℕ) → writing_wants end ≢ Give port
writing_gives_none None port = λ is. cc
writing_gives_none (Some e) port = λ is. cc

-- what a put of more did: what its writer stood for, it stands for with the message, or its sink took a prefix of that
pub record DidPut (end : Option End) (message : Message) (r : Result Unit HostError) (old new : FileWriter)
    (before now : SinkSeen) : Type 0 where
  pub wrote : OnOk r ((first : Option (List ℕ)) (x : List Message) → has_end x ≡ false →
      FileWrote old first before.taken (items_of x) → HasWritten end new first now.taken (x ++ message ∷ []))
  pub some : OnErr r ((first : Option (List ℕ)) (x : List Message) → has_end x ≡ false →
      FileWrote old first before.taken (items_of x) →
      TakesPrefix (text_taken old (x ++ message ∷ [])) first now.taken)
  pub form : form_of new ≡ form_of old
  pub faults : CountsRefusal r before.faults now.faults

-- the machine of such a put
abbrev pub after_put : (end : Option End) (r : Result Unit HostError) (new : FileWriter) (now : SinkSeen) → WritingValue
after_put end r new now = record { writer = new; sink = now; puts = puts_after r; end = end }

open_good : (m : WritingValue) (x : List Message) (given : Given WritingValue) → m.puts ≡ Good → m.end ≡ None →
    WritingStands m x given →
    (has_end x ≡ false) × FileWrote m.writer given.made.sink.taken m.sink.taken (items_of x)
    × (m.sink.faults ≡ given.made.sink.faults)
open_good m x given good open_end s = (
  none_came x (sym open_end ∙ s.met),
  subst (λ d. WroteBy Good d m.writer given.made.sink.taken m.sink.taken x) open_end
      (subst (λ p. WroteBy p m.end m.writer given.made.sink.taken m.sink.taken x) good s.wrote),
  subst (λ p. FaultsOfPuts p given.made.sink.faults m.sink.faults) good s.devices.faults,
)

module _ (m : WritingValue) (message : Message) (end : Option End) (new : FileWriter) (now : SinkSeen)
    (good : m.puts ≡ Good) (open_end : m.end ≡ None) (met : end ≡ end_taken (message ∷ [])) where
  took_good : (x : List Message) (given : Given WritingValue) (r : Result Unit HostError) →
      puts_after r ≢ Stopped → DidPut end message r m.writer new m.sink now → WritingStands m x given →
      WritingStands (after_put end r new now) (x ++ message ∷ []) given
  took_good x given (Ok u) runs did s =
      let stood = open_good m x given good open_end s in
      record {
        fresh = s.fresh;
        wrote = did.wrote given.made.sink.taken x stood.0 stood.1;
        met = met ∙ end_taken-more message x stood.0;
        devices = record {
          faults = did.faults ∙ stood.2;
          told = written_told end new given.made.sink.taken now.taken (x ++ message ∷ [])
              (did.wrote given.made.sink.taken x stood.0 stood.1);
        };
      }
  took_good x given (Err Failed) runs did s =
      let stood = open_good m x given good open_end s in
      let text = text_taken m.writer (x ++ message ∷ []) in
      record {
        fresh = s.fresh;
        wrote = subst (λ f. WrotePrefix now.taken (form_text f (stream_of (x ++ message ∷ [])))) (sym did.form)
            (told_prefix given.made.sink.taken now.taken text s.fresh
            (did.some given.made.sink.taken x stood.0 stood.1));
        met = met ∙ end_taken-more message x stood.0;
        devices = record {
          faults = subst (λ n. Rises n now.faults) stood.2 did.faults;
          told = taken_told given.made.sink.taken now.taken text (did.some given.made.sink.taken x stood.0 stood.1);
        };
      }
  took_good x given (Err Memory) runs did s = absurd (runs refl)

  pub put_takes : (r : Result Unit HostError) (puts : Puts) → puts ≡ puts_after r → puts ≢ Stopped →
      DidPut end message r m.writer new m.sink now →
      Takes writing 0 message m (record { writer = new; sink = now; puts = puts; end = end })
  put_takes r puts are runs did = rw are (record {
    stands = λ x y given s. took_good (x 0) given r (λ is. runs (are ∙ is)) did s;
    left = omega arith;
  })

  stopped_good : (x y : Ports) (given : Given WritingValue) (r : Result Unit HostError) → puts_after r ≡ Stopped →
      DidPut end message r m.writer new m.sink now → WritingStands m (x 0) given →
      IsStopped writing (after_put end r new now) (added x 0 message) y given
  stopped_good x y given (Ok u) stops did s = absurd cc
  stopped_good x y given (Err Failed) stops did s = absurd cc
  stopped_good x y given (Err Memory) stops did s =
      let stood = open_good m (x 0) given good open_end s in
      let text = text_taken m.writer (x 0 ++ message ∷ []) in
      record {
        behind = record {
          gave = λ port known. absurd (omega (arith, known));
          wrote = subst (λ f. WrotePrefix now.taken (form_text f (stream_of (x 0 ++ message ∷ [])))) (sym did.form)
              (told_prefix given.made.sink.taken now.taken text s.fresh
              (did.some given.made.sink.taken (x 0) stood.0 stood.1));
          devices = record {
            faults = did.faults ∙ stood.2;
            told = taken_told given.made.sink.taken now.taken text
                (did.some given.made.sink.taken (x 0) stood.0 stood.1);
          };
        };
        verdict = refl;
      }

  pub put_stops : (r : Result Unit HostError) (puts : Puts) → puts ≡ puts_after r → puts ≡ Stopped →
      DidPut end message r m.writer new m.sink now →
      StopsInTake writing 0 message m (record { writer = new; sink = now; puts = puts; end = end })
  put_stops r puts are stops did = rw are (λ x y given s. stopped_good x y given r (sym are ∙ stops) did s)

-- once a put failed the machine takes the rest of its input, and puts nothing
pub drop_takes : (m : WritingValue) (message : Message) (end : Option End) → m.puts ≢ Good → m.end ≡ None →
    end ≡ end_taken (message ∷ []) → Takes writing 0 message m (record m { end = end })
drop_takes m message end bad open_end met = record {
  stands = λ x y given s.
      let none = none_came (x 0) (sym open_end ∙ s.met) in
      record {
        fresh = s.fresh;
        wrote = dropped m.puts (x 0) given.made.sink.taken bad s.wrote;
        met = met ∙ end_taken-more message (x 0) none;
        devices = record { faults = s.devices.faults; told = s.devices.told };
      };
  left = omega arith;
} where
  dropped : (puts : Puts) (x : List Message) (first : Option (List ℕ)) → puts ≢ Good →
      WroteBy puts m.end m.writer first m.sink.taken x → WroteBy puts end m.writer first m.sink.taken (x ++ message ∷ [])
  dropped Good x first bad took = absurd (bad refl)
  dropped Refused x first bad took = prefix_told m.sink.taken (text_taken m.writer x)
      (text_taken m.writer (x ++ message ∷ [])) took (text_onward (form_of m.writer) (stream_of x)
      (stream_of (x ++ message ∷ [])) (prefix_before x (x ++ message ∷ []) (prefix_append x (message ∷ []))))
  dropped Stopped x first bad took = absurd took

pub writing_is_new : (writer : FileWriter) (sink : SinkSeen) → TookNothing sink.taken →
    FileWrote writer sink.taken sink.taken [] →
    IsNew writing (record { writer = writer; sink = sink; puts = Good; end = None })
writing_is_new writer sink fresh wrote = record {
  fresh = fresh;
  wrote = wrote;
  met = refl;
  devices = record { faults = refl; told = λ is. is };
}

-- ---- from items to messages

pub put_item : (item : ItemValue) (end : Option End) → end ≡ None → (r : Result Unit HostError) (old new : FileWriter) (before now : SinkSeen) →
    OnOk r ((first : Option (List ℕ)) (items : List ItemValue) → FileWrote old first before.taken items →
    FileWrote new first now.taken (items ++ item ∷ [])) →
    OnErr r ((first : Option (List ℕ)) (items : List ItemValue) → FileWrote old first before.taken items →
    TakesPrefix (form_text (form_of old) (broken_after (items ++ item ∷ []))) first now.taken) →
    form_of new ≡ form_of old → CountsRefusal r before.faults now.faults →
    DidPut end (One item) r old new before now
put_item item end open_end (Ok u) old new before now wrote some form faults = record {
  wrote = λ first x none stood. subst (λ e. HasWritten e new first now.taken (x ++ One item ∷ [])) (sym open_end)
      (subst (FileWrote new first now.taken) (sym (items_of-item x item none)) (wrote first (items_of x) stood));
  some = tt;
  form = form;
  faults = faults;
}
put_item item end open_end (Err e) old new before now wrote some form faults = record {
  wrote = tt;
  some = λ first x none stood. subst (λ s. TakesPrefix (form_text (form_of old) s) first now.taken)
      (sym (stream_of-item x item none)) (some first (items_of x) stood);
  form = form;
  faults = faults;
}

pub put_end : (end : End) (r : Result Unit HostError) (old new : FileWriter) (before now : SinkSeen) →
    OnOk r ((first : Option (List ℕ)) (items : List ItemValue) → FileWrote old first before.taken items →
    now.taken ≡ append_known first (form_text (form_of old) (record { items = items; end = end }))) →
    OnErr r ((first : Option (List ℕ)) (items : List ItemValue) → FileWrote old first before.taken items →
    TakesPrefix (form_text (form_of old) (record { items = items; end = end })) first now.taken) →
    form_of new ≡ form_of old → CountsRefusal r before.faults now.faults →
    DidPut (Some end) (Last end) r old new before now
put_end end (Ok u) old new before now wrote some form faults = record {
  wrote = λ first x none stood. wrote first (items_of x) stood
      ∙ ap (λ s. append_known first (form_text (form_of old) s)) (sym (stream_of-end x end none))
      ∙ ap (λ f. append_known first (form_text f (stream_of (x ++ Last end ∷ [])))) (sym form);
  some = tt;
  form = form;
  faults = faults;
}
put_end end (Err e) old new before now wrote some form faults = record {
  wrote = tt;
  some = λ first x none stood. subst (λ s. TakesPrefix (form_text (form_of old) s) first now.taken)
      (sym (stream_of-end x end none)) (some first (items_of x) stood);
  form = form;
  faults = faults;
}
