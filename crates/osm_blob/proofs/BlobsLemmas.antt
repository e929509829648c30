-- The bytes and frames for which a reader of blobs stands, call by call.
use Rattle.std.proofs.Common.{◌≡◌, ℕ, List, [], ◌∷◌, ◌++◌, drop, refl, sym, ap, ◌∙◌, subst, append_assoc, append-nil}
use Rattle.std.specs.Prelude.{◌≢◌, Option, None}
use Rattle.std.proofs.lemmas.List.{drop-append-le}
use Rattle.osm_entity.specs.declared.verdict.Cause.{Cause}
use Rattle.osm_blob.specs.declared.reading.Frame.{Frame}
use Rattle.osm_blob.specs.declared.messages.What.{What}
use Rattle.osm_blob.specs.Blobs.{BlobsValue, GaveAllFrames, GaveFramesToBad, StandsForFrames, blobs_fed, blobs_passed, no_blobs}
use Rattle.osm_blob.specs.Leading.{Short, Whole, Faulty, leading_frame}
use Rattle.osm_blob.specs.Frames.{Frames, More, Bad, frames_before, next_start, frame_at, frames_from, frames_of, no_frames}
use Rattle.osm_blob.proofs.FramesLemmas.{frames_before-frames_before, frames_from-bad, frames_from-short, frames_from-whole}
use Rattle.osm_blob.proofs.LeadingLemmas.{leading_frame-size, leading_frame-stays}

-- a new reader of blobs stands for no bytes and no frames
pub new_stands : StandsForFrames no_blobs [] []
new_stands = record { goes = λ more. refl }

-- a reader of blobs that was fed bytes stands for them too
pub fed_stands : (b : BlobsValue) (bytes all : List ℕ) (frames : List Frame) → StandsForFrames b all frames →
    StandsForFrames (blobs_fed bytes b) (all ++ bytes) frames
fed_stands b bytes all frames s = record {
  goes = λ more.
      ap frames_of (append_assoc all bytes more)
      ∙ s.goes (bytes ++ more)
      ∙ ap (λ rest. frames_before frames (frames_from b.next rest)) (sym (append_assoc b.unread bytes more));
}

-- a reader of blobs that passed a frame stands for it too
pub took_stands : (b : BlobsValue) (what : What) (raw : List ℕ) (size : ℕ) →
    leading_frame b.unread ≡ Whole what raw size → (all : List ℕ) (frames : List Frame) → StandsForFrames b all frames →
    StandsForFrames (blobs_passed size b) all (frames ++ frame_at b.next what raw ∷ [])
took_stands b what raw size is all frames s =
    let fits = leading_frame-size b.unread what raw size is in
    let told : leading_frame b.unread ≢ Short = λ short. let same : Whole what raw size ≡ Short = sym is ∙ short in
    cc in
    record {
      goes = λ more.
          s.goes more
          ∙ ap (frames_before frames)
          (frames_from-whole b.next (b.unread ++ more) what raw size (leading_frame-stays b.unread more told ∙ is)
          ∙ ap (λ rest. frames_before (frame_at b.next what raw ∷ []) (frames_from (next_start b.next size) rest))
          (drop-append-le size b.unread more fits.1))
          ∙ frames_before-frames_before frames (frame_at b.next what raw ∷ [])
          (frames_from (next_start b.next size) (drop size b.unread ++ more));
    }

-- what a reader of blobs blames doesn't matter for what it stands for
pub blames_stands : (b : BlobsValue) (blamed : Option What) (all : List ℕ) (frames : List Frame) →
    StandsForFrames b all frames → StandsForFrames (record b { blamed = blamed }) all frames
blames_stands b blamed all frames s = record { goes = s.goes }

-- the frames of all that a reader of blobs was fed
frames_now : (b : BlobsValue) (all : List ℕ) (frames : List Frame) → StandsForFrames b all frames →
    frames_of all ≡ frames_before frames (frames_from b.next b.unread)
frames_now b all frames s =
    ap frames_of (sym (append-nil all))
    ∙ s.goes []
    ∙ ap (λ rest. frames_before frames (frames_from b.next rest)) (append-nil b.unread)

-- frames before no others
frames_before-no_frames : (frames : List Frame) (later : Frames) → later.frames ≡ [] →
    frames_before frames later ≡ record { frames = frames; next = later.next; stop = later.stop }
frames_before-no_frames frames later none =
    ap (λ all. let f : Frames = record { frames = all; next = later.next; stop = later.stop } in f)
    (ap (λ more. frames ++ more) none ∙ append-nil frames)

-- a reader of blobs that needs more bytes gave all frames
pub gave_all : (b : BlobsValue) → leading_frame b.unread ≡ Short → (all : List ℕ) (frames : List Frame) →
    StandsForFrames b all frames → GaveAllFrames b all frames
gave_all b is all frames s =
    frames_now b all frames s
    ∙ ap (frames_before frames) (frames_from-short b.next b.unread is)
    ∙ frames_before-no_frames frames (no_frames b.next (More b.unread)) refl

-- a reader of blobs that refused a frame gave all before it
pub gave_to_bad : (b : BlobsValue) (cause : Cause) (blamed : Option What) →
    leading_frame b.unread ≡ Faulty cause blamed →
    (all : List ℕ) (frames : List Frame) → StandsForFrames b all frames →
    GaveFramesToBad (record b { blamed = blamed }) cause all frames
gave_to_bad b cause blamed is all frames s =
    frames_now b all frames s
    ∙ ap (frames_before frames) (frames_from-bad b.next b.unread cause blamed is)
    ∙ frames_before-no_frames frames (no_frames b.next (Bad cause blamed)) refl

-- a reader of blobs that answers that more bytes are needed
pub none_stands : (old new : BlobsValue) → leading_frame old.unread ≡ Short → new ≡ record old { blamed = None } →
    (all : List ℕ) (frames : List Frame) → StandsForFrames old all frames →
    StandsForFrames new all frames × GaveAllFrames new all frames
none_stands old new is same all frames s =
    subst (λ b. StandsForFrames b all frames × GaveAllFrames b all frames) (sym same)
    (blames_stands old None all frames s, gave_all old is all frames s)

-- a reader of blobs that answers that a frame is bad
pub bad_stands : (old new : BlobsValue) (cause : Cause) (blamed : Option What) →
    leading_frame old.unread ≡ Faulty cause blamed → new ≡ record old { blamed = blamed } →
    (all : List ℕ) (frames : List Frame) → StandsForFrames old all frames →
    StandsForFrames new all frames × GaveFramesToBad new cause all frames
bad_stands old new cause blamed is same all frames s =
    subst (λ b. StandsForFrames b all frames × GaveFramesToBad b cause all frames) (sym same)
    (blames_stands old blamed all frames s, gave_to_bad old cause blamed is all frames s)

-- a reader of blobs that answers a frame
pub some_stands : (old new : BlobsValue) (what : What) (raw : List ℕ) (size : ℕ) (frame : Frame) →
    leading_frame old.unread ≡ Whole what raw size → frame ≡ frame_at old.next what raw → new ≡ blobs_passed size old →
    (all : List ℕ) (frames : List Frame) → StandsForFrames old all frames →
    StandsForFrames new all (frames ++ frame ∷ [])
some_stands old new what raw size frame is placed passes all frames s =
    subst (λ b. StandsForFrames b all (frames ++ frame ∷ [])) (sym passes)
    (subst (λ f. StandsForFrames (blobs_passed size old) all (frames ++ f ∷ [])) (sym placed)
    (took_stands old what raw size is all frames s))
