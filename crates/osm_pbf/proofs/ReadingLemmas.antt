-- How the reading of bytes goes on when more come.
use Rattle.std.proofs.Common.{◌≡◌, ℕ, List, [], ◌∷◌, ◌++◌, drop, Bool, false, refl, sym, ap, ◌∙◌, subst, append_assoc, append-nil}
use Rattle.std.specs.Prelude.{◌≢◌, Option, Ok, Err}
use Rattle.std.specs.declared.result.Result.{Result}
use Rattle.osm_entity.specs.Items.{ItemValue}
use Rattle.osm_entity.specs.Readings.{Reading, Ending, Whole, Cut, Bad as BadAt, after, end_read, stream_read}
use Rattle.osm_entity.specs.Streams.{IsBefore}
use Rattle.osm_entity.specs.declared.stream.End.TheVariants.{Done, Broken}
use Rattle.osm_entity.specs.declared.verdict.Cause.{Cause}
use Rattle.osm_entity.specs.declared.verdict.Spot.{Spot}
use Rattle.osm_entity.specs.declared.verdict.Spot.TheVariants.{Blob}
use Rattle.osm_blob.specs.Leading.{Short, Whole as IsWhole, Faulty, leading_frame}
use Rattle.osm_blob.specs.Frames.{FrameStart, Frames, FramesStop, More, Bad, first_start, frames_after_stop, frames_from, frames_of, next_start}
use Rattle.osm_blob.specs.declared.messages.What.{What}
use Rattle.osm_blob.specs.declared.reading.Frame.{Frame}
use Rattle.osm_blob.proofs.FramesLemmas.{frames_from-bad, frames_from-more, frames_from-short, frames_from-whole}
use Rattle.osm_pbf.specs.Reading.{blob_spot, cause_blamed, frame_said, frames_ending, frames_reading, header_came, only_ending, pbf_reading, pbf_reading_from, read_frames, said_before}

-- a reading before another: its items come first there, and it is the other where it isn't cut off
pub record ReadsBefore (a b : Reading) : Type 0 where
  pub rest : List ItemValue
  pub items : b.items ≡ a.items ++ rest
  pub settled : a.ending ≢ Cut → b ≡ a

-- a reading that is cut off is before every other that begins with its items
before-cut : (a b : Reading) (rest : List ItemValue) → a.ending ≡ Cut → b.items ≡ a.items ++ rest → ReadsBefore a b
before-cut a b rest cut is = record { rest = rest; items = is; settled = λ not. absurd (not cut) }

-- a reading is before itself
before-same : (a : Reading) → ReadsBefore a a
before-same a = record { rest = []; items = sym (append-nil a.items); settled = λ _. refl }

-- what a frame says, before both
before-said : (spot : Spot) (said : Result (List ItemValue) Cause) (a b : Reading) → ReadsBefore a b →
    ReadsBefore (said_before spot said a) (said_before spot said b)
before-said spot (Ok found) a b before = record {
  rest = before.rest;
  items = ap (λ more. found ++ more) before.items ∙ sym (append_assoc found a.items before.rest);
  settled = λ not. ap (after found) (before.settled not);
}
before-said spot (Err cause) a b before = before-same (only_ending (BadAt cause spot))

-- frames that are cut off, and more frames
before-more : (clean came : Bool) (next : FrameStart) (left : List ℕ) (frames : List Frame) (later : Frames) →
    ReadsBefore (read_frames false came next (More left) frames)
    (read_frames clean came later.next later.stop (frames ++ later.frames))
before-more clean came next left [] later =
    before-cut (only_ending Cut) (read_frames clean came later.next later.stop later.frames)
    (read_frames clean came later.next later.stop later.frames).items refl refl
before-more clean came next left (frame ∷ frames) later =
    before-said (Blob frame.number frame.byte) (frame_said came frame.what frame.raw)
    (read_frames false (header_came came frame.what) next (More left) frames)
    (read_frames clean (header_came came frame.what) later.next later.stop (frames ++ later.frames))
    (before-more clean (header_came came frame.what) next left frames later)

-- frames up to a bad one say the same at either end
before-bad : (clean came : Bool) (next : FrameStart) (cause : Cause) (blamed : Option What) (frames : List Frame) →
    ReadsBefore (read_frames false came next (Bad cause blamed) frames)
    (read_frames clean came next (Bad cause blamed) frames)
before-bad clean came next cause blamed [] =
    before-same (only_ending (BadAt (cause_blamed came cause blamed) (blob_spot next)))
before-bad clean came next cause blamed (frame ∷ frames) =
    before-said (Blob frame.number frame.byte) (frame_said came frame.what frame.raw)
    (read_frames false (header_came came frame.what) next (Bad cause blamed) frames)
    (read_frames clean (header_came came frame.what) next (Bad cause blamed) frames)
    (before-bad clean (header_came came frame.what) next cause blamed frames)

-- frames, by why no further one comes, when more bytes come
before-stop : (clean came : Bool) (file : Frames) (more : List ℕ) (stop : FramesStop) → file.stop ≡ stop →
    ReadsBefore (read_frames false came file.next stop file.frames)
    (frames_reading clean came (frames_after_stop file more stop))
before-stop clean came file more (More left) is =
    before-more clean came file.next left file.frames (frames_from file.next (left ++ more))
before-stop clean came file more (Bad cause blamed) is =
    subst
    (λ s. ReadsBefore (read_frames false came file.next (Bad cause blamed) file.frames)
    (read_frames clean came file.next s file.frames)) (sym is)
    (before-bad clean came file.next cause blamed file.frames)

-- the reading of the first bytes is before that of all
reads_before : (bytes more : List ℕ) (clean : Bool) →
    ReadsBefore (pbf_reading bytes false) (pbf_reading (bytes ++ more) clean)
unfolding pbf_reading
reads_before bytes more clean =
    subst (λ file. ReadsBefore (pbf_reading bytes false) (frames_reading clean false file))
    (sym (frames_from-more first_start bytes more))
    (before-stop clean false (frames_of bytes) more (frames_of bytes).stop refl)

-- a reading that is done isn't cut off
done-not_cut : (ending : Ending) → end_read ending ≡ Done → ending ≢ Cut
done-not_cut Whole done = λ cut. let no : Whole ≡ Cut = cut in cc
done-not_cut Cut done = let no : Broken ≡ Done = done in cc
done-not_cut (BadAt cause spot) done = let no : Broken ≡ Done = done in cc

-- a bad end isn't a cut
pub bad-not_cut : (ending : Ending) (cause : Cause) (spot : Spot) → ending ≡ BadAt cause spot → ending ≢ Cut
bad-not_cut ending cause spot bad = λ cut. let no : BadAt cause spot ≡ Cut = sym bad ∙ cut in cc

-- the stream of the first bytes is before that of all
pub pbf_reading-prefix : (bytes more : List ℕ) (clean : Bool) →
    IsBefore (stream_read (pbf_reading bytes false)) (stream_read (pbf_reading (bytes ++ more) clean))
pbf_reading-prefix bytes more clean =
    let before = reads_before bytes more clean in
    record {
      items = record { rest = before.rest; joined = before.items };
      done = λ done. ap stream_read (sym (before.settled (done-not_cut (pbf_reading bytes false).ending done)));
    }

-- behind a bad frame more bytes change nothing
pub pbf_reading-settled : (bytes more : List ℕ) (clean : Bool) (cause : Cause) (spot : Spot) →
    (pbf_reading bytes false).ending ≡ BadAt cause spot → pbf_reading (bytes ++ more) clean ≡ pbf_reading bytes false
pbf_reading-settled bytes more clean cause spot bad =
    (reads_before bytes more clean).settled (bad-not_cut (pbf_reading bytes false).ending cause spot bad)

-- the reading of bytes that begin with a whole frame
pub pbf_reading_from-whole : (came : Bool) (start : FrameStart) (bytes : List ℕ) (clean : Bool) (what : What)
    (raw : List ℕ) (size : ℕ) → leading_frame bytes ≡ IsWhole what raw size →
    pbf_reading_from came start bytes clean
    ≡ said_before (blob_spot start) (frame_said came what raw)
    (pbf_reading_from (header_came came what) (next_start start size) (drop size bytes) clean)
pbf_reading_from-whole came start bytes clean what raw size is =
    ap (frames_reading clean came) (frames_from-whole start bytes what raw size is)

-- the reading of bytes that are too few to tell a frame
pub pbf_reading_from-short : (came : Bool) (start : FrameStart) (bytes : List ℕ) (clean : Bool) →
    leading_frame bytes ≡ Short →
    pbf_reading_from came start bytes clean ≡ only_ending (frames_ending clean came start (More bytes))
pbf_reading_from-short came start bytes clean is = ap (frames_reading clean came) (frames_from-short start bytes is)

-- the reading of bytes that begin with a bad frame
pub pbf_reading_from-bad : (came : Bool) (start : FrameStart) (bytes : List ℕ) (clean : Bool) (cause : Cause)
    (blamed : Option What) → leading_frame bytes ≡ Faulty cause blamed →
    pbf_reading_from came start bytes clean
    ≡ only_ending (BadAt (cause_blamed came cause blamed) (blob_spot start))
pbf_reading_from-bad came start bytes clean cause blamed is =
    ap (frames_reading clean came) (frames_from-bad start bytes cause blamed is)
