-- What readers of files keep, in any format, and how many items a file has.
use Rattle.std.proofs.Common.{◌≡◌, ◌≢◌, ℕ, suc, ◌+◌, ◌-◌, ◌<◌, ◌≤◌, List, [], ◌∷◌, ◌++◌, length, take, Bool, true, false, refl, sym, ap, subst, ◌∙◌, arith}
use Rattle.std.specs.Prelude.{◌==◌, ◌||◌, nat_lt, if◌then◌else◌, ⊤, Result, Ok, Err, IsOk, OnOk}
use Rattle.std.specs.List.{slice_split, join_with_byte}
use Rattle.std.proofs.lemmas.Bool.{ltb-false, ltb-true}
use Rattle.std.proofs.lemmas.List.{append-nil, length-append, length-take, take-append-le}
use Rattle.std.proofs.lemmas.List.Splits.{join_with_byte-slice_split}
use Rattle.osm_entity.specs.Growth.{broken_after}
use Rattle.osm_entity.specs.Items.{ItemValue}
use Rattle.osm_entity.specs.Readings.{Reading, stream_read, verdict_read}
use Rattle.osm_entity.specs.Streams.{IsBefore}
use Rattle.osm_entity.specs.declared.kind.Flow.{Flow}
use Rattle.osm_entity.specs.declared.verdict.Verdict.TheVariants.{Running, Read}
use Rattle.osm_entity.specs.declared.sequence.NoMemory.{NoMemory}
use Rattle.osm_host.specs.Counts.{raised}
use Rattle.osm_host.specs.Feeds.{FitsFeed, reached_end}
use Rattle.osm_host.specs.Pulls.{FeedValue, PulledOnce, SourceValue}
use Rattle.osm_host.specs.declared.feed.Feed.TheVariants.{Open, Failed}
use Rattle.osm_host.proofs.FeedLemmas.{take-limit}
use Rattle.osm_opl_line.proofs.SettlingLemmas.{opl_reading-prefix}
use Rattle.osm_pbf.proofs.ReadingLemmas.{pbf_reading-prefix}
use Rattle.osm_opl_line.specs.Line.{LineValue, Skipped, Good, Bad, opl_line}
use Rattle.osm_opl_line.specs.Reading.{before, is_line, lines_of, read_lines, opl_reading}
use Rattle.osm_opl.specs.Reader.{ReaderValue, fed}
use Rattle.osm_opl.specs.Standing.{Stands}
use Rattle.osm_opl.proofs.StandingLemmas.{before_now, gives_all}
use Rattle.osm_opl.proofs.VerdictLemmas.{read_rightly}
use Rattle.osm_pbf.specs.Reader.{PbfReaderValue, pbf_fed}
use Rattle.osm_pbf.specs.Standing.{StandsForPbf}
use Rattle.osm_pbf.proofs.StandingLemmas.{before_now as pbf_before_now, gives_all as pbf_gives_all}
use Rattle.osm_pbf.proofs.VerdictLemmas.{read_rightly as pbf_read_rightly}
use Rattle.osm_machine.proofs.ReadingSizeLemmas.{pbf-few}
use Rattle.osm_machine.specs.ReadingFiles.{FileStands, FileWants, file_fed, file_format, file_verdict}
use Rattle.osm_machine.specs.ReadingFormats.{Format, OplFile, PbfFile, format_reading, limited_reading}
use Rattle.osm_machine.specs.declared.reader.FileReader.{FileReader}
use Rattle.osm_machine.specs.declared.reader.FileReader.TheVariants.{Opl, Pbf}

-- ---- how many items a file has

-- a last line has bytes
last_line : (clean : Bool) (rest : List ℕ) → is_line clean rest ≡ true → 0 < length rest
last_line true rest is = by (nat_lt 0 (length rest)) refl is where
  by : (some : Bool) → nat_lt 0 (length rest) ≡ some → (some || nat_lt 16777216 (length rest)) ≡ true →
      0 < length rest
  by true some is = ltb-true 0 (length rest) some
  by false none is = omega (arith, ltb-true 16777216 (length rest) is)
last_line false rest is = omega (arith, ltb-true 16777216 (length rest) is)

-- there are no more lines than bytes
lines-few : (clean : Bool) (parts : List (List ℕ)) → length (lines_of clean parts) ≤ length (join_with_byte 10 parts)
lines-few clean [] = omega arith
lines-few clean (rest ∷ []) = by (is_line clean rest) refl where
  by : (line : Bool) → is_line clean rest ≡ line → length (if line then rest ∷ [] else []) ≤ length rest
  by true line = last_line clean rest line
  by false line = omega arith
lines-few clean (line ∷ part ∷ parts) =
    omega (arith, lines-few clean (part ∷ parts), length-append line (10 ∷ join_with_byte 10 (part ∷ parts)))

-- a line says at most one item
before-few : (number : ℕ) (value : LineValue) (reading : Reading) (count : ℕ) → length reading.items ≤ count →
    length (before number value reading).items ≤ suc count
before-few number Skipped reading count few = omega (arith, few)
before-few number (Good item) reading count few = omega (arith, few)
before-few number (Bad cause) reading count few = omega arith

-- there are no more items than lines
items-few : (flow : Flow) (clean : Bool) (number : ℕ) (lines : List (List ℕ)) →
    length (read_lines flow clean number lines).items ≤ length lines
items-few flow clean number [] = omega arith
items-few flow clean number (line ∷ lines) = before-few number (opl_line flow line)
    (read_lines flow clean (number + 1) lines) (length lines) (items-few flow clean (number + 1) lines)

-- an OPL file has no more items than bytes
opl-few : (flow : Flow) (bytes : List ℕ) (clean : Bool) → length (opl_reading flow bytes clean).items ≤ length bytes
unfolding opl_reading
opl-few flow bytes clean =
    let parts : List (List ℕ) = slice_split (λ b. b == 10) bytes in
    omega (
      arith,
      items-few flow clean 1 (lines_of clean parts),
      lines-few clean parts,
      ap length (join_with_byte-slice_split 10 bytes),
    )

-- a file has no more items than bytes
pub format-few : (format : Format) (bytes : List ℕ) (clean : Bool) →
    length (format_reading format bytes clean).items ≤ length bytes
format-few (OplFile flow) bytes clean = opl-few flow bytes clean
format-few PbfFile bytes clean = pbf-few bytes clean

-- no more items are read than the limit
pub limited-few : (format : Format) (limit : ℕ) (bytes : List ℕ) (came : Bool) →
    length (limited_reading format limit bytes came).items ≤ limit
limited-few format limit bytes came =
    omega (arith, format-few format (take limit bytes) came, length-take limit bytes)

-- no more items are read than bytes came
pub came-few : (format : Format) (limit : ℕ) (bytes : List ℕ) (came : Bool) →
    length (limited_reading format limit bytes came).items ≤ length bytes
came-few format limit bytes came =
    omega (arith, format-few format (take limit bytes) came, length-take limit bytes)

-- ---- more bytes

-- the first of bytes and of more bytes behind them
take-parts : (n : ℕ) (bytes more : List ℕ) →
    take n (bytes ++ more) ≡ take n bytes ++ take (n - length bytes) more
take-parts n bytes more = by (nat_lt n (length bytes)) refl where
  by : (below : Bool) → nat_lt n (length bytes) ≡ below →
      take n (bytes ++ more) ≡ take n bytes ++ take (n - length bytes) more
  by false test = take-limit bytes more n (ltb-false n (length bytes) test)
  by true test =
      let none : n - length bytes ≡ 0 = omega (arith, ltb-true n (length bytes) test) in
      take-append-le n bytes more (omega (arith, ltb-true n (length bytes) test))
      ∙ sym (append-nil (take n bytes)) ∙ ap (λ k. take n bytes ++ take k more) (sym none)

format-prefix : (format : Format) (bytes more : List ℕ) (clean : Bool) → IsBefore
    (stream_read (format_reading format bytes false)) (stream_read (format_reading format (bytes ++ more) clean))
format-prefix (OplFile flow) bytes more clean = opl_reading-prefix flow bytes more clean
format-prefix PbfFile bytes more clean = pbf_reading-prefix bytes more clean

-- what is read of some bytes comes before what is read of more
pub limited-prefix : (format : Format) (limit : ℕ) (bytes more : List ℕ) (came : Bool) → IsBefore
    (stream_read (limited_reading format limit bytes false))
    (stream_read (limited_reading format limit (bytes ++ more) came))
limited-prefix format limit bytes more came =
    subst
    (λ all. IsBefore (stream_read (format_reading format (take limit bytes) false))
    (stream_read (format_reading format all came))) (sym (take-parts limit bytes more))
    (format-prefix format (take limit bytes) (take (limit - length bytes) more) came)

-- ---- what a reader stands for

-- the reading of what came of a reader's source
abbrev pub file_said : FileReader → List ℕ → Bool → Reading
file_said r bytes came = limited_reading (file_format r) (file_fed r).limit bytes came

-- what a reader keeps of its source fits these bytes, and whether their end came
pub record IsFedBy (fed : FeedValue) (bytes : List ℕ) (came : Bool) : Type 0 where
  pub counted : fed.given ≡ raised 0 (length bytes)
  pub clean : came ≡ reached_end fed.feed
  pub fits : FitsFeed fed.feed fed.limit (length bytes)

pub file_fed_by : (r : FileReader) (bytes : List ℕ) (came : Bool) (items : List ItemValue) →
    FileStands r bytes came items → IsFedBy (file_fed r) bytes came
file_fed_by (Opl r) bytes came items s = record { counted = s.count; clean = s.ended; fits = s.fits }
file_fed_by (Pbf r) bytes came items s = record { counted = s.count; clean = s.ended; fits = s.fits }

-- what it gave is before what is said
pub file_before : (r : FileReader) (bytes : List ℕ) (came : Bool) (items : List ItemValue) →
    FileStands r bytes came items → IsBefore (broken_after items) (stream_read (file_said r bytes came))
file_before (Opl r) bytes came items s = before_now r bytes came items s
file_before (Pbf r) bytes came items s = pbf_before_now r bytes came items s

-- where it wants a pull it runs, and more may come
pub file_open : (r : FileReader) → FileWants r → (file_verdict r ≡ Running) × ((file_fed r).feed ≡ Open)
file_open (Opl r) wants = (wants.can.running, wants.can.feeds)
file_open (Pbf r) wants = (wants.can.running, wants.can.feeds)

-- where it wants a pull it gave all that is said
pub file_all : (r : FileReader) (bytes : List ℕ) (came : Bool) (items : List ItemValue) → FileStands r bytes came items →
    FileWants r → (file_said r bytes came).items ≡ items
file_all (Opl r) bytes came items s wants = gives_all r bytes came items s wants
file_all (Pbf r) bytes came items s wants = pbf_gives_all r bytes came items s wants

-- all that is said was given, and the verdict is that of what is said
pub record IsFileOver (r : FileReader) (bytes : List ℕ) (came : Bool) (items : List ItemValue) : Type 0 where
  pub all : (file_said r bytes came).items ≡ items
  pub verdict : file_verdict r ≡ verdict_read (file_fed r).limit (length bytes) (file_said r bytes came).ending

-- where it doesn't run it is judged rightly
pub file_over : (r : FileReader) (bytes : List ℕ) (came : Bool) (items : List ItemValue) →
    FileStands r bytes came items → file_verdict r ≢ Running → IsFileOver r bytes came items
file_over (Opl r) bytes came items s stopped =
    let over = s.over stopped in record { all = over.all; verdict = over.verdict }
file_over (Pbf r) bytes came items s stopped =
    let over = s.over stopped in record { all = over.all; verdict = over.verdict }

-- it says that its source failed only where a pull did
pub file_failed : (r : FileReader) (bytes : List ℕ) (came : Bool) (items : List ItemValue) →
    FileStands r bytes came items → file_verdict r ≡ Read → (file_fed r).feed ≡ Failed
file_failed (Opl r) bytes came items s read = read_rightly r bytes came items s read
file_failed (Pbf r) bytes came items s read = pbf_read_rightly r bytes came items s read

-- it gave no more items than the limit
pub file-few : (r : FileReader) (bytes : List ℕ) (came : Bool) (items : List ItemValue) → FileStands r bytes came items →
    length items ≤ (file_fed r).limit
file-few r bytes came items s =
    let prefix = (file_before r bytes came items s).items in
    omega (
      arith,
      ap length prefix.joined,
      length-append items prefix.rest,
      limited-few (file_format r) (file_fed r).limit bytes came,
    )

-- ---- what a reader of one format did

-- what is so after an answer, where there was one
answered : {T E P : Type 0} (r : Result T E) → IsOk r → OnOk r P → P
answered (Ok x) is after = after
answered (Err e) is after = absurd cc

-- a pull of an OPL reader
pub opl_pulled : (before now : SourceValue) (old : FileReader) (reader new : ReaderValue) (answer : Result ⊤ NoMemory) →
    old ≡ Opl reader → FileWants old → (reader.unread.piece ≡ [] → IsOk answer) →
    OnOk answer (PulledOnce fed Stands before now reader new) →
    PulledOnce file_fed FileStands before now old (Opl new)
opl_pulled before now old reader new answer is wants ok pulled =
    let pull = answered answer (ok (subst FileWants is wants).passed) pulled in
    subst (λ r. PulledOnce file_fed FileStands before now r (Opl new)) (sym is)
    (record { bytes = pull.bytes; gave = pull.gave; stands = pull.stands })

-- a pull of a PBF reader
pub pbf_pulled : (before now : SourceValue) (old : FileReader) (reader new : PbfReaderValue)
    (answer : Result ⊤ NoMemory) → old ≡ Pbf reader → FileWants old → (reader.piece ≡ [] → IsOk answer) →
    OnOk answer (PulledOnce pbf_fed StandsForPbf before now reader new) →
    PulledOnce file_fed FileStands before now old (Pbf new)
pbf_pulled before now old reader new answer is wants ok pulled =
    let pull = answered answer (ok (subst FileWants is wants).holds.piece) pulled in
    subst (λ r. PulledOnce file_fed FileStands before now r (Pbf new)) (sym is)
    (record { bytes = pull.bytes; gave = pull.gave; stands = pull.stands })
