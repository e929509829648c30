-- How a machine that reads stands with its source once it has ended.
use Rattle.std.proofs.Common.{◌≡◌, ◌≢◌, ℕ, List, ◌++◌, length, Bool, refl, sym, subst}
use Rattle.std.specs.Prelude.{Some, None}
use Rattle.osm_entity.specs.Items.{ItemValue}
use Rattle.osm_entity.specs.Machines.{Given}
use Rattle.osm_entity.specs.Meaning.{Cut as FinishCut, finish_read}
use Rattle.osm_entity.specs.Ports.{Ports}
use Rattle.osm_entity.specs.Readings.{Ending, Whole, Cut, Bad}
use Rattle.osm_entity.specs.Streams.{Stream}
use Rattle.osm_entity.specs.declared.stream.Want.TheVariants.{Ended as HasEnded}
use Rattle.osm_entity.specs.declared.verdict.Verdict.TheVariants.{Running}
use Rattle.osm_host.specs.Feeds.{FitsFeed, reached_end}
use Rattle.osm_host.specs.declared.feed.Feed.{Feed}
use Rattle.osm_host.specs.declared.feed.Feed.TheVariants.{Open}
use Rattle.osm_machine.specs.Devices.{SourceSeen}
use Rattle.osm_machine.specs.MachineDevices.{has_pull_failed, is_failed, source_of}
use Rattle.osm_machine.specs.MachineKinds.{machines}
use Rattle.osm_machine.specs.Reading.{ReadingStands, ReadingValue, reading_wants, ready_items}
use Rattle.osm_machine.specs.ReadingFiles.{FileStands, file_fed, file_format, file_verdict}
use Rattle.osm_machine.specs.ReadingFormats.{limited_reading}
use Rattle.osm_machine.specs.Sums.{given_as}
use Rattle.osm_machine.specs.declared.kind.MachineKind.{MachineKind}
use Rattle.osm_machine.specs.declared.kind.MachineKind.TheVariants.{Read, Make, Nothing, Write, Drops, Copies, Filters, UsesNodes, UsesWays, Sorts, Merges, Appends, Applies, Simplifies, Selects}
use Rattle.osm_machine.specs.declared.reader.FileReader.{FileReader}
use Rattle.osm_machine.specs.declared.reader.FileReader.TheVariants.{Opl, Pbf}
use Rattle.osm_machine.proofs.ReadingFileLemmas.{file_fed_by}
use Rattle.osm_run.proofs.UnwrittenLemmas.{over_ready}

-- how a machine that reads stands with its source once it has ended
pub record ReadOut {S K : Type 0} (m : MachineKind S K) (given : Given (MachineKind S K)) : Type 0 where
  pub feed : Feed
  pub fits : FitsFeed feed (machines.task m).limit (length given.bytes)
  pub clean : given.came ≡ reached_end feed
  pub failed : has_pull_failed m ≡ is_failed feed
  pub stopped : (f : ℕ → Stream) → (machines.task m).finish given.bytes given.came f ≡ FinishCut → feed ≢ Open

cut_off : (ending : Ending) → finish_read ending ≡ FinishCut → ending ≡ Cut
cut_off Whole is = cc
cut_off Cut is = refl
cut_off (Bad cause spot) is = cc

-- a reader whose file is cut off had a source that isn't open any more
file_stopped : (r : FileReader) (bytes : List ℕ) (came : Bool) (items : List ItemValue) →
    FileStands r bytes came items → file_verdict r ≢ Running →
    (limited_reading (file_format r) (file_fed r).limit bytes came).ending ≡ Cut → (file_fed r).feed ≢ Open
file_stopped (Opl r) bytes came items s over = (s.over over).stopped
file_stopped (Pbf r) bytes came items s over = (s.over over).stopped

own_read : {S K : Type 0} (m : ReadingValue) (x y : Ports) (own : Given ReadingValue) →
    ReadingStands m (y 0) own → reading_wants m.ready ≡ HasEnded →
    ReadOut {S = S} {K = K} (Read m) (given_as Read own)
own_read m x y own s want =
    let fed = file_fed_by m.reader own.bytes own.came (s.items ++ ready_items m.ready) s.read.stands in
    record {
      feed = (file_fed m.reader).feed;
      fits = fed.fits;
      clean = fed.clean;
      failed = refl;
      stopped = λ f cut. file_stopped m.reader own.bytes own.came (s.items ++ ready_items m.ready) s.read.stands
          (over_ready m.reader m.ready s.ready want)
          (cut_off (limited_reading (file_format m.reader) (file_fed m.reader).limit own.bytes own.came).ending cut);
    }

pub read_out : {S K : Type 0} (m : MachineKind S K) (source : SourceSeen) (x y : Ports)
    (given : Given (MachineKind S K)) → source_of m ≡ Some source → machines.stands m x y given →
    machines.wanted m ≡ HasEnded → ReadOut m given
read_out (Read m) source x y given is s want =
    subst (ReadOut (Read m)) (sym s.made) (own_read m x y s.own s.stands want)
read_out (Make m) source x y given is s want = absurd (let no : None ≡ Some source = is in cc)
read_out (Nothing m) source x y given is s want = absurd (let no : None ≡ Some source = is in cc)
read_out (Write m) source x y given is s want = absurd (let no : None ≡ Some source = is in cc)
read_out (Drops m) source x y given is s want = absurd (let no : None ≡ Some source = is in cc)
read_out (Copies m) source x y given is s want = absurd (let no : None ≡ Some source = is in cc)
read_out (Filters m) source x y given is s want = absurd (let no : None ≡ Some source = is in cc)
read_out (UsesNodes m) source x y given is s want = absurd (let no : None ≡ Some source = is in cc)
read_out (UsesWays m) source x y given is s want = absurd (let no : None ≡ Some source = is in cc)
read_out (Sorts m) source x y given is s want = absurd (let no : None ≡ Some source = is in cc)
read_out (Merges m) source x y given is s want = absurd (let no : None ≡ Some source = is in cc)
read_out (Appends m) source x y given is s want = absurd (let no : None ≡ Some source = is in cc)
read_out (Applies m) source x y given is s want = absurd (let no : None ≡ Some source = is in cc)
read_out (Simplifies m) source x y given is s want = absurd (let no : None ≡ Some source = is in cc)
read_out (Selects m) source x y given is s want = absurd (let no : None ≡ Some source = is in cc)
