-- The laws of the machine that reads a file.
use Rattle.std.proofs.Common.{◌≡◌, ◌≢◌, ℕ, ◌<◌, List, [], ◌++◌, length, Bool, true, false, refl, sym, ap, subst, ◌∙◌, arith, append_assoc}
use Rattle.std.specs.Prelude.{◌↔◌, nat_lt}
use Rattle.std.proofs.lemmas.Bool.{cond_both}
use Rattle.std.proofs.lemmas.List.{append-nil}
use Rattle.osm_entity.specs.Growth.{broken_after}
use Rattle.osm_entity.specs.Items.{ItemValue}
use Rattle.osm_entity.specs.Machines.{AreLawful, Given, HasEnded, IsBehind, MayGive, MayPull, MayWant}
use Rattle.osm_entity.specs.Ports.{Ports, fixed, has_end, items_of, stream_of, streams}
use Rattle.osm_entity.specs.Readings.{Ending, Whole, Cut, Bad, end_read, stream_read, verdict_read}
use Rattle.osm_entity.specs.Streams.{Stream, IsBefore}
use Rattle.osm_entity.specs.declared.stream.End.TheVariants.{Broken}
use Rattle.osm_entity.specs.declared.stream.Message.{Message}
use Rattle.osm_entity.specs.declared.stream.Want.TheVariants.{Take, Ended}
use Rattle.osm_entity.specs.declared.verdict.Verdict.TheVariants.{Running, Read, TooLong}
use Rattle.osm_entity.proofs.MachineLemmas.{verdict_as-read}
use Rattle.osm_entity.proofs.PortLemmas.{has_end-fixed, items_of-fixed, stream_of-fixed, stream_of-none}
use Rattle.osm_entity.proofs.PrefixLemmas.{prefix_append, prefix_itself}
use Rattle.osm_entity.proofs.StreamLemmas.{before_itself, before_onward}
use Rattle.osm_host.specs.declared.feed.Feed.TheVariants.{Failed}
use Rattle.osm_machine.specs.Reading.{HasRead, IsReady, ReadingDevices, ReadingStands, ReadingValue, are_pulls_over, end_judged, is_closed, reading, reading_verdict, reading_wants, ready_items}
use Rattle.osm_machine.specs.ReadingFiles.{FileStands, file_fed, file_verdict}
use Rattle.osm_machine.specs.declared.reader.FileReader.{FileReader}
use Rattle.osm_machine.specs.declared.ready.Ready.{Ready}
use Rattle.osm_machine.specs.declared.ready.Ready.TheVariants.{Next, Nothing, AtTheEnd, Closed, Stopped}
use Rattle.osm_machine.proofs.ReadingFileLemmas.{file_all, file_before, file_failed, file_fed_by, file_open, file_over, file_said}

-- the items that were given, and how they would end
abbrev pub given_by : FileReader → List ItemValue → Stream
given_by r items = record { items = items; end = end_judged (file_verdict r) }

-- the one port
pub first_port : (port : ℕ) → port < 1 → 0 ≡ port
first_port port known = omega arith

-- ---- before its end

-- items alone are before what is read, where it is known of them and of more
pub unended_before : (r : FileReader) (bytes : List ℕ) (came : Bool) (items more : List ItemValue) (y : List Message) →
    y ≡ fixed false (given_by r items) → FileStands r bytes came (items ++ more) →
    IsBefore (stream_of y) (stream_read (file_said r bytes came))
unended_before r bytes came items more y gave stands =
    let none : has_end y ≡ false = ap has_end gave ∙ has_end-fixed false (given_by r items) in
    let same : stream_of y ≡ broken_after items =
    stream_of-none y none ∙ ap broken_after (ap items_of gave ∙ items_of-fixed false (given_by r items)) in
    rw same
    (before_onward (broken_after items) (broken_after (items ++ more)) (stream_read (file_said r bytes came))
    (record { items = prefix_append items more; done = λ is. cc }) (file_before r bytes came (items ++ more) stands))

-- what its source gave, where it doesn't say that it failed or does so rightly
pub read_devices : (m : ReadingValue) (items : List ItemValue) (given : Given ReadingValue) → HasRead m items given →
    (reading_verdict (file_verdict m.reader) m.ready ≡ Read → (file_fed m.reader).feed ≡ Failed) →
    ReadingDevices m given
read_devices m items given read blamed =
    let fits = file_fed_by m.reader given.bytes given.came (items ++ ready_items m.ready) read.stands in
    record {
      source = read.source;
      counted = fits.counted;
      few = read.few;
      clean = fits.clean;
      faults = read.faults;
      blamed = blamed;
    }

-- a machine that gave items alone is behind
pub unended_behind : (m : ReadingValue) (x y : Ports) (given : Given ReadingValue) (items more : List ItemValue) →
    y 0 ≡ fixed false (given_by m.reader items) → HasRead m (items ++ more) given →
    (reading_verdict (file_verdict m.reader) m.ready ≡ Read → (file_fed m.reader).feed ≡ Failed) →
    IsBehind reading m x y given
unended_behind m x y given items more gave read blamed = record {
  gave = λ port known. subst
      (λ p. IsBefore (streams y p) (stream_read (file_said m.reader given.bytes given.came))) (first_port port known)
      (unended_before m.reader given.bytes given.came items (more ++ ready_items m.ready) (y 0) gave
      (subst (FileStands m.reader given.bytes given.came) (append_assoc items more (ready_items m.ready)) read.stands));
  wrote = tt;
  devices = read_devices m (items ++ more) given read blamed;
}

-- ---- at its end

-- the end by a verdict is that of the reading
end_judged-read : (limit count : ℕ) (ending : Ending) → end_judged (verdict_read limit count ending) ≡ end_read ending
end_judged-read limit count Whole = refl
end_judged-read limit count Cut =
    cond_both (nat_lt limit count) TooLong Read (λ v. end_judged v ≡ Broken) (λ _. refl) (λ _. refl)
end_judged-read limit count (Bad cause spot) = refl

-- what was given with its end is all that is read
whole_by : (r : FileReader) (bytes : List ℕ) (came : Bool) (items : List ItemValue) (y : List Message) →
    y ≡ fixed true (given_by r items) → FileStands r bytes came items → file_verdict r ≢ Running →
    stream_of y ≡ stream_read (file_said r bytes came)
whole_by r bytes came items y gave stands stopped =
    let over = file_over r bytes came items stands stopped in
    let end : end_judged (file_verdict r) ≡ end_read (file_said r bytes came).ending =
    ap end_judged over.verdict
    ∙ end_judged-read (file_fed r).limit (length bytes) (file_said r bytes came).ending in
    ap stream_of gave ∙ stream_of-fixed (given_by r items)
    ∙ (λ i. record { items = (sym over.all) i; end = end i })

-- ---- the laws

-- before the end was given the verdict blames nobody
running_behind : (m : ReadingValue) (x y : Ports) (given : Given ReadingValue) → is_closed m.ready ≡ false →
    reading_verdict (file_verdict m.reader) m.ready ≡ Running → ReadingStands m (y 0) given → IsBehind reading m x y given
running_behind m x y given unclosed runs s =
    unended_behind m x y given s.items [] (s.gave ∙ ap (λ closed. fixed closed (given_by m.reader s.items)) unclosed)
    (subst (λ items. HasRead m items given) (sym (append-nil s.items)) s.read)
    (λ read. absurd (let same : Running ≡ Read = sym runs ∙ read in cc))

-- what a machine that gave its end stands for
closed_stands : (m : ReadingValue) (items : List ItemValue) (given : Given ReadingValue) → m.ready ≡ Closed →
    HasRead m items given → FileStands m.reader given.bytes given.came items
closed_stands m items given is read =
    subst (FileStands m.reader given.bytes given.came) (ap (λ ready. items ++ ready_items ready) is ∙ append-nil items)
    read.stands

closed_whole : (m : ReadingValue) (y : List Message) (given : Given ReadingValue) → m.ready ≡ Closed →
    ReadingStands m y given →
    (has_end y ≡ true) × (stream_of y ≡ stream_read (file_said m.reader given.bytes given.came))
closed_whole m y given is s =
    let gave : y ≡ fixed true (given_by m.reader s.items) =
    s.gave ∙ ap (λ ready. fixed (is_closed ready) (given_by m.reader s.items)) is in (
      ap has_end gave ∙ has_end-fixed true (given_by m.reader s.items),
      whole_by m.reader given.bytes given.came s.items y
          gave (closed_stands m s.items given is s.read) (subst (IsReady m.reader) is s.ready),
    )

behind_by : (m : ReadingValue) (ready : Ready) (x y : Ports) (given : Given ReadingValue) → m.ready ≡ ready →
    ReadingStands m (y 0) given → IsBehind reading m x y given
behind_by m (Next item) x y given is s =
    running_behind m x y given (ap is_closed is) (ap (reading_verdict (file_verdict m.reader)) is) s
behind_by m Nothing x y given is s =
    running_behind m x y given (ap is_closed is) (ap (reading_verdict (file_verdict m.reader)) is) s
behind_by m AtTheEnd x y given is s =
    running_behind m x y given (ap is_closed is) (ap (reading_verdict (file_verdict m.reader)) is) s
behind_by m Closed x y given is s = record {
  gave = λ port known. subst
      (λ p. IsBefore (streams y p) (stream_read (file_said m.reader given.bytes given.came))) (first_port port known)
      (rw (closed_whole m (y 0) given is s).1 (before_itself (stream_read (file_said m.reader given.bytes given.came))));
  wrote = tt;
  devices = read_devices m s.items given s.read (λ read. file_failed m.reader given.bytes given.came s.items
      (closed_stands m s.items given is s.read) (ap (reading_verdict (file_verdict m.reader)) (sym is) ∙ read));
}
behind_by m Stopped x y given is s = absurd (subst (IsReady m.reader) is s.ready)

-- before the end was given its port has none
unended : (m : ReadingValue) (y : List Message) (given : Given ReadingValue) → is_closed m.ready ≡ false →
    ReadingStands m y given → has_end y ≡ false
unended m y given unclosed s =
    ap has_end s.gave ∙ has_end-fixed (is_closed m.ready) (given_by m.reader s.items) ∙ unclosed

gives_by : (m : ReadingValue) (x y : Ports) (given : Given ReadingValue) → is_closed m.ready ≡ false →
    ReadingStands m (y 0) given → MayGive reading m x y 0
gives_by m x y given unclosed s = record {
  its_own = omega arith;
  unended = unended m (y 0) given unclosed s;
  held = λ holds. absurd cc;
}

pulls_by : (m : ReadingValue) (x y : Ports) (given : Given ReadingValue) → m.ready ≡ Nothing →
    ReadingStands m (y 0) given → MayPull reading m x y given
pulls_by m x y given is s =
    let wants = subst (IsReady m.reader) is s.ready in
    let stands : FileStands m.reader given.bytes given.came s.items =
    subst (FileStands m.reader given.bytes given.came)
    (ap (λ ready. s.items ++ ready_items ready) is ∙ append-nil s.items) s.read.stands in
    record {
      no_input = refl;
      one_output = refl;
      unended = unended m (y 0) given (ap is_closed is) s;
      goes_on = s.read.over ∙ ap are_pulls_over (file_open m.reader wants).1;
      gave = λ port known. subst
          (λ p. items_of (y p) ≡ (file_said m.reader given.bytes given.came).items) (first_port port known)
          (ap items_of s.gave ∙ items_of-fixed (is_closed m.ready) (given_by m.reader s.items)
          ∙ sym (file_all m.reader given.bytes given.came s.items stands wants));
    }

ended_by : (m : ReadingValue) (x y : Ports) (given : Given ReadingValue) → m.ready ≡ Closed →
    ReadingStands m (y 0) given → HasEnded reading m x y given
ended_by m x y given is s =
    let whole = closed_whole m (y 0) given is s in
    let over = file_over m.reader given.bytes given.came s.items (closed_stands m s.items given is s.read)
    (subst (IsReady m.reader) is s.ready) in
    record {
      took_ends = λ port known. absurd (omega arith);
      gave_ends = λ port known. subst (λ p. has_end (y p) ≡ true) (first_port port known) whole.0;
      whole = λ port known. subst
          (λ p. streams y p ≡ stream_read (file_said m.reader given.bytes given.came)) (first_port port known) whole.1;
      wrote = λ other. tt;
      judged = λ other. ap (reading_verdict (file_verdict m.reader)) is ∙ over.verdict
          ∙ sym (verdict_as-read (file_fed m.reader).limit (length given.bytes)
          (file_said m.reader given.bytes given.came).ending);
    }

wants_by : (m : ReadingValue) (ready : Ready) (x y : Ports) (given : Given ReadingValue) → m.ready ≡ ready →
    ReadingStands m (y 0) given → MayWant reading m x y given (reading_wants ready)
wants_by m (Next item) x y given is s = gives_by m x y given (ap is_closed is) s
wants_by m Nothing x y given is s = pulls_by m x y given is s
wants_by m AtTheEnd x y given is s = gives_by m x y given (ap is_closed is) s
wants_by m Closed x y given is s = ended_by m x y given is s
wants_by m Stopped x y given is s = absurd (subst (IsReady m.reader) is s.ready)

runs_by : (r : FileReader) (ready : Ready) → IsReady r ready →
    (reading_verdict (file_verdict r) ready ≡ Running) ↔ (reading_wants ready ≢ Ended)
runs_by r (Next item) may = (λ is w. cc, λ no. refl)
runs_by r Nothing may = (λ is w. cc, λ no. refl)
runs_by r AtTheEnd may = (λ is w. cc, λ no. refl)
runs_by r Closed may = (λ is w. may is, λ no. absurd (no refl))
runs_by r Stopped may = absurd may

-- machines that read are lawful
pub reading_is_lawful : AreLawful reading
reading_is_lawful = record {
  behind = λ m x y given s. behind_by m m.ready x y given refl s;
  wants = λ m x y given s. wants_by m m.ready x y given refl s;
  running = λ m x y given s. runs_by m.reader m.ready s.ready;
  onward = λ m. record {
    gives = λ bytes came f g before port. before_itself _;
    text = λ f g before. prefix_itself [];
  };
}

takes_none : (ready : Ready) (port : ℕ) → reading_wants ready ≢ Take port
takes_none (Next item) port = λ is. cc
takes_none Nothing port = λ is. cc
takes_none AtTheEnd port = λ is. cc
takes_none Closed port = λ is. cc
takes_none Stopped port = λ is. cc

-- a machine that reads takes no message
pub reading_takes_none : (m : ReadingValue) (port : ℕ) → reading.wanted m ≢ Take port
reading_takes_none m port = takes_none m.ready port
