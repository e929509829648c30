-- Whom a verdict blames.
use Rattle.std.proofs.Common.{◌≡◌, ℕ, List, [], ◌∷◌, length, take, Bool, true, false, refl, sym, ◌∙◌, subst}
use Rattle.std.specs.Prelude.{◌≢◌, Ok, Err, nat_lt}
use Rattle.std.specs.declared.result.Result.{Result}
use Rattle.std.proofs.lemmas.Bool.{cond_both, ltb-false, ltb-true}
use Rattle.osm_entity.specs.Items.{ItemValue}
use Rattle.osm_entity.specs.Readings.{Reading, Ending, Whole, Cut, Bad as BadAt, verdict_read}
use Rattle.osm_entity.specs.declared.verdict.Cause.{Cause}
use Rattle.osm_entity.specs.declared.verdict.Spot.{Spot}
use Rattle.osm_entity.specs.declared.verdict.Spot.TheVariants.{Blob}
use Rattle.osm_entity.specs.declared.verdict.Verdict.TheVariants.{Running, Clean, Read, TooLong as PastLimit}
use Rattle.osm_host.specs.Feeds.{FitsFeed, reached_end}
use Rattle.osm_host.specs.declared.feed.Feed.{Feed}
use Rattle.osm_host.specs.declared.feed.Feed.TheVariants.{Open, Ended, Failed, TooLong}
use Rattle.osm_host.proofs.FeedLemmas.{failed_by, long_by, reached_end-true}
use Rattle.osm_blob.specs.Frames.{FrameStart, FramesStop, More, Bad, frames_of}
use Rattle.osm_blob.specs.declared.reading.Frame.{Frame}
use Rattle.osm_pbf.specs.Reader.{PbfReaderValue}
use Rattle.osm_pbf.specs.Reading.{frame_said, frames_ending, header_came, pbf_reading, read_frames, said_before}
use Rattle.osm_pbf.specs.Standing.{StandsForPbf, pbf_reader_reading}

-- how a reading may end: whole only where the end came, and cut off only where it didn't
abbrev pub EndsBy : Bool → Ending → Type 0
EndsBy clean Whole = clean ≡ true
EndsBy clean Cut = clean ≡ false
EndsBy clean (BadAt cause spot) = Unit {0}

-- it ends so behind the last frame
ends_by-stop : (clean came : Bool) (next : FrameStart) (stop : FramesStop) →
    EndsBy clean (frames_ending clean came next stop)
ends_by-stop true true next (More []) = refl
ends_by-stop true false next (More []) = tt
ends_by-stop true true next (More (byte ∷ left)) = tt
ends_by-stop true false next (More (byte ∷ left)) = tt
ends_by-stop false true next (More left) = refl
ends_by-stop false false next (More left) = refl
ends_by-stop clean came next (Bad cause blamed) = tt

-- a frame more doesn't change that
ends_by-said : (clean : Bool) (spot : Spot) (said : Result (List ItemValue) Cause) (later : Reading) →
    EndsBy clean later.ending → EndsBy clean (said_before spot said later).ending
ends_by-said clean spot (Ok items) later ends = ends
ends_by-said clean spot (Err cause) later ends = tt

-- no frames more do
ends_by-frames : (clean came : Bool) (next : FrameStart) (stop : FramesStop) (frames : List Frame) →
    EndsBy clean (read_frames clean came next stop frames).ending
ends_by-frames clean came next stop [] = ends_by-stop clean came next stop
ends_by-frames clean came next stop (frame ∷ frames) =
    ends_by-said clean (Blob frame.number frame.byte) (frame_said came frame.what frame.raw)
    (read_frames clean (header_came came frame.what) next stop frames)
    (ends_by-frames clean (header_came came frame.what) next stop frames)

-- the reading of a file ends so
pub ends_by : (bytes : List ℕ) (clean : Bool) → EndsBy clean (pbf_reading bytes clean).ending
unfolding pbf_reading
ends_by bytes clean =
    ends_by-frames clean false (frames_of bytes).next (frames_of bytes).stop (frames_of bytes).frames

-- a clean verdict is that of a whole file, whose end came
clean_by : (feed : Feed) (limit count : ℕ) (ending : Ending) → EndsBy (reached_end feed) ending →
    Clean ≡ verdict_read limit count ending → feed ≡ Ended
clean_by feed limit count Whole ends is = reached_end-true feed ends
clean_by feed limit count Cut ends is =
    cond_both (nat_lt limit count) PastLimit Read (λ v. Clean ≡ v → feed ≡ Ended) (λ _ e. cc) (λ _ e. cc) is
clean_by feed limit count (BadAt cause spot) ends is = cc

-- the verdict that a source failed is that of a file cut off within the limit
read_by : (feed : Feed) (limit count : ℕ) (ending : Ending) → EndsBy (reached_end feed) ending →
    FitsFeed feed limit count → (ending ≡ Cut → feed ≢ Open) → Read ≡ verdict_read limit count ending → feed ≡ Failed
read_by feed limit count Whole ends fits stopped is = cc
read_by feed limit count Cut ends fits stopped is =
    cond_both (nat_lt limit count) PastLimit Read (λ v. Read ≡ v → feed ≡ Failed) (λ _ e. cc)
    (λ within e. failed_by feed limit count ends fits (stopped refl) (ltb-false limit count within)) is
read_by feed limit count (BadAt cause spot) ends fits stopped is = cc

-- the verdict that a source gave too much is that of a file cut off past the limit
too_long_by : (feed : Feed) (limit count : ℕ) (ending : Ending) → FitsFeed feed limit count →
    PastLimit ≡ verdict_read limit count ending → feed ≡ TooLong
too_long_by feed limit count Whole fits is = cc
too_long_by feed limit count Cut fits is =
    cond_both (nat_lt limit count) PastLimit Read (λ v. PastLimit ≡ v → feed ≡ TooLong)
    (λ past e. long_by feed limit count fits (ltb-true limit count past)) (λ _ e. cc) is
too_long_by feed limit count (BadAt cause spot) fits is = cc

-- how the reading for which a reader stands may end
stands_ends : (r : PbfReaderValue) (bytes : List ℕ) (came : Bool) (items : List ItemValue) →
    StandsForPbf r bytes came items → EndsBy (reached_end r.feed) (pbf_reader_reading r bytes came).ending
stands_ends r bytes came items s =
    subst (λ clean. EndsBy clean (pbf_reader_reading r bytes came).ending) s.ended (ends_by (take r.limit bytes) came)

-- a clean reader's source ended
pub clean_rightly : (r : PbfReaderValue) (bytes : List ℕ) (came : Bool) (items : List ItemValue) →
    StandsForPbf r bytes came items → r.verdict ≡ Clean → r.feed ≡ Ended
clean_rightly r bytes came items s is =
    let over = s.over (λ run. let same : Clean ≡ Running = sym is ∙ run in cc) in
    clean_by r.feed r.limit (length bytes) (pbf_reader_reading r bytes came).ending (stands_ends r bytes came items s)
    (sym is ∙ over.verdict)

-- a reader that says that its source failed is right
pub read_rightly : (r : PbfReaderValue) (bytes : List ℕ) (came : Bool) (items : List ItemValue) →
    StandsForPbf r bytes came items → r.verdict ≡ Read → r.feed ≡ Failed
read_rightly r bytes came items s is =
    let over = s.over (λ run. let same : Read ≡ Running = sym is ∙ run in cc) in
    read_by r.feed r.limit (length bytes) (pbf_reader_reading r bytes came).ending (stands_ends r bytes came items s)
    s.fits over.stopped (sym is ∙ over.verdict)

-- a reader that says that its source gave too much is right
pub too_long_rightly : (r : PbfReaderValue) (bytes : List ℕ) (came : Bool) (items : List ItemValue) →
    StandsForPbf r bytes came items → r.verdict ≡ PastLimit → r.feed ≡ TooLong
too_long_rightly r bytes came items s is =
    let over = s.over (λ run. let same : PastLimit ≡ Running = sym is ∙ run in cc) in
    too_long_by r.feed r.limit (length bytes) (pbf_reader_reading r bytes came).ending s.fits (sym is ∙ over.verdict)
