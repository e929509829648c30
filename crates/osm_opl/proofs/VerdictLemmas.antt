-- Whom a verdict blames.
use Rattle.std.proofs.Common.{◌≡◌, ℕ, ◌+◌, List, [], ◌∷◌, length, take, Bool, true, false, refl, sym, ◌∙◌, subst}
use Rattle.std.specs.Prelude.{◌==◌, ◌≢◌, nat_lt}
use Rattle.std.specs.List.{slice_split}
use Rattle.std.proofs.lemmas.Bool.{cond_both, ltb-false, ltb-true}
use Rattle.osm_entity.specs.Items.{ItemValue}
use Rattle.osm_entity.specs.declared.kind.Flow.{Flow}
use Rattle.osm_entity.specs.declared.verdict.Verdict.TheVariants.{Running, Clean, Read, TooLong as PastLimit}
use Rattle.osm_opl_line.specs.Line.{LineValue, Skipped, Good, Bad, opl_line}
use Rattle.osm_entity.specs.Readings.{Reading, Ending, Whole, Cut, Bad as BadAt, verdict_read}
use Rattle.osm_opl_line.specs.Reading.{before, lines_of, read_lines, opl_reading}
use Rattle.osm_host.specs.Feeds.{FitsFeed, reached_end}
use Rattle.osm_host.specs.declared.feed.Feed.{Feed}
use Rattle.osm_host.specs.declared.feed.Feed.TheVariants.{Open, Ended, Failed, TooLong}
use Rattle.osm_host.proofs.FeedLemmas.{failed_by, long_by, reached_end-true}
use Rattle.osm_opl.specs.Reader.{ReaderValue}
use Rattle.osm_opl.specs.Standing.{Stands, reader_reading}

-- how a reading may end: whole only where the end came, and cut off only where it didn't
abbrev pub EndsBy : Bool → Ending → Type 0
EndsBy clean Whole = clean ≡ true
EndsBy clean Cut = clean ≡ false
EndsBy clean (BadAt cause spot) = Unit {0}

-- a line more doesn't change that
ends_by-before : (clean : Bool) (number : ℕ) (value : LineValue) (reading : Reading) → EndsBy clean reading.ending →
    EndsBy clean (before number value reading).ending
ends_by-before clean number Skipped reading ends = ends
ends_by-before clean number (Good item) reading ends = ends
ends_by-before clean number (Bad cause) reading ends = tt

-- no lines more do
ends_by-lines : (flow : Flow) (clean : Bool) (number : ℕ) (lines : List (List ℕ)) →
    EndsBy clean (read_lines flow clean number lines).ending
ends_by-lines flow true number [] = refl
ends_by-lines flow false number [] = refl
ends_by-lines flow clean number (line ∷ lines) =
    ends_by-before clean number (opl_line flow line) (read_lines flow clean (number + 1) lines)
    (ends_by-lines flow clean (number + 1) lines)

-- the reading of a file ends so
pub ends_by : (flow : Flow) (bytes : List ℕ) (clean : Bool) → EndsBy clean (opl_reading flow bytes clean).ending
unfolding opl_reading
ends_by flow bytes clean = ends_by-lines flow clean 1 (lines_of clean (slice_split (λ b. b == 10) bytes))

-- a clean verdict is that of a whole file, whose end came
clean_by : (feed : Feed) (limit count : ℕ) (ending : Ending) → EndsBy (reached_end feed) ending →
    Clean ≡ verdict_read limit count ending → feed ≡ Ended
clean_by feed limit count Whole ends is = reached_end-true feed ends
clean_by feed limit count Cut ends is =
    cond_both (nat_lt limit count) PastLimit Read (λ v. Clean ≡ v → feed ≡ Ended) (λ _ e. cc) (λ _ e. cc) is
clean_by feed limit count (BadAt cause spot) ends is = cc

-- the verdict that a source failed is that of a file cut off within the limit
read_by : (feed : Feed) (limit count : ℕ) (ending : Ending) → EndsBy (reached_end feed) ending →
    FitsFeed feed limit count → (ending ≡ Cut → feed ≢ Open) → Read ≡ verdict_read limit count ending → feed ≡ Failed
read_by feed limit count Whole ends fits stopped is = cc
read_by feed limit count Cut ends fits stopped is =
    cond_both (nat_lt limit count) PastLimit Read (λ v. Read ≡ v → feed ≡ Failed) (λ _ e. cc)
    (λ within e. failed_by feed limit count ends fits (stopped refl) (ltb-false limit count within)) is
read_by feed limit count (BadAt cause spot) ends fits stopped is = cc

-- the verdict that a source gave too much is that of a file cut off past the limit
too_long_by : (feed : Feed) (limit count : ℕ) (ending : Ending) → FitsFeed feed limit count →
    PastLimit ≡ verdict_read limit count ending → feed ≡ TooLong
too_long_by feed limit count Whole fits is = cc
too_long_by feed limit count Cut fits is =
    cond_both (nat_lt limit count) PastLimit Read (λ v. PastLimit ≡ v → feed ≡ TooLong)
    (λ past e. long_by feed limit count fits (ltb-true limit count past)) (λ _ e. cc) is
too_long_by feed limit count (BadAt cause spot) fits is = cc

-- how the reading for which a reader stands may end
stands_ends : (r : ReaderValue) (bytes : List ℕ) (came : Bool) (items : List ItemValue) → Stands r bytes came items →
    EndsBy (reached_end r.feed) (reader_reading r bytes came).ending
stands_ends r bytes came items s =
    subst (λ clean. EndsBy clean (reader_reading r bytes came).ending) s.ended (ends_by r.flow
    (take r.limit bytes) came)

-- a clean reader's source ended
pub clean_rightly : (r : ReaderValue) (bytes : List ℕ) (came : Bool) (items : List ItemValue) →
    Stands r bytes came items → r.verdict ≡ Clean → r.feed ≡ Ended
clean_rightly r bytes came items s is =
    let over = s.over (λ run. let same : Clean ≡ Running = sym is ∙ run in cc) in
    clean_by r.feed r.limit (length bytes) (reader_reading r bytes came).ending (stands_ends r bytes came items s)
    (sym is ∙ over.verdict)

-- a reader that says that its source failed is right
pub read_rightly : (r : ReaderValue) (bytes : List ℕ) (came : Bool) (items : List ItemValue) →
    Stands r bytes came items → r.verdict ≡ Read → r.feed ≡ Failed
read_rightly r bytes came items s is =
    let over = s.over (λ run. let same : Read ≡ Running = sym is ∙ run in cc) in
    read_by r.feed r.limit (length bytes) (reader_reading r bytes came).ending (stands_ends r bytes came items s) s.fits
    over.stopped (sym is ∙ over.verdict)

-- a reader that says that its source gave too much is right
pub too_long_rightly : (r : ReaderValue) (bytes : List ℕ) (came : Bool) (items : List ItemValue) →
    Stands r bytes came items → r.verdict ≡ PastLimit → r.feed ≡ TooLong
too_long_rightly r bytes came items s is =
    let over = s.over (λ run. let same : PastLimit ≡ Running = sym is ∙ run in cc) in
    too_long_by r.feed r.limit (length bytes) (reader_reading r bytes came).ending s.fits (sym is ∙ over.verdict)
