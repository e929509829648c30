-- How readings of files end, in any format: by whether their end came, and where they are bad for good.
use Rattle.std.proofs.Common.{◌≡◌, ℕ, ◌+◌, ◌-◌, List, [], ◌∷◌, ◌++◌, length, take, Bool, true, false, refl, sym, ap, subst, ◌∙◌, arith}
use Rattle.std.specs.Prelude.{◌==◌, nat_lt, Result, Ok, Err}
use Rattle.std.specs.List.{slice_split}
use Rattle.std.proofs.lemmas.Bool.{ltb-false, ltb-true}
use Rattle.std.proofs.lemmas.List.{append-nil, length-take, take-append-le, take_all}
use Rattle.osm_entity.specs.Items.{ItemValue}
use Rattle.osm_entity.specs.Meaning.{Wrong, finish_read}
use Rattle.osm_entity.specs.Readings.{Ending, Whole, Cut, Bad as BadAt, Reading, ending_of}
use Rattle.osm_entity.specs.declared.kind.Flow.{Flow}
use Rattle.osm_entity.specs.declared.verdict.Cause.{Cause}
use Rattle.osm_entity.specs.declared.verdict.Spot.{Spot}
use Rattle.osm_entity.specs.declared.verdict.Spot.TheVariants.{Blob, Line}
use Rattle.osm_blob.specs.Frames.{FrameStart, Frames, FramesStop, More, Bad as BadFrame, first_start, frames_from}
use Rattle.osm_blob.specs.declared.reading.Frame.{Frame}
use Rattle.osm_host.proofs.FeedLemmas.{take-limit}
use Rattle.osm_opl_line.specs.Line.{LineValue, Skipped, Good, Bad, opl_line}
use Rattle.osm_opl_line.specs.Reading.{before, lines_of, read_lines, opl_reading}
use Rattle.osm_opl_line.proofs.SettlingLemmas.{opl_reading-settled}
use Rattle.osm_pbf.specs.Reading.{frame_said, frames_ending, header_came, pbf_reading, read_frames, said_before}
use Rattle.osm_pbf.proofs.ReadingLemmas.{pbf_reading-settled}
use Rattle.osm_machine.specs.ReadingFormats.{Format, OplFile, PbfFile, format_reading, limited_reading}

-- ---- OPL

-- one more line gives no reading an ending that it hadn't, but a bad one
not_before : (ending : Ending) → ((cause : Cause) (spot : Spot) → BadAt cause spot ≡ ending → ⊥) → (number : ℕ)
    (value : LineValue) (reading : Reading) → (reading.ending ≡ ending → ⊥) →
    (before number value reading).ending ≡ ending → ⊥
not_before ending other number Skipped reading never is = never is
not_before ending other number (Good item) reading never is = never is
not_before ending other number (Bad cause) reading never is = other cause (Line number) is

not_lines : (ending : Ending) (flow : Flow) (clean : Bool) → ((cause : Cause) (spot : Spot) →
    BadAt cause spot ≡ ending → ⊥) → (ending_of clean ≡ ending → ⊥) → (number : ℕ) (lines : List (List ℕ)) →
    (read_lines flow clean number lines).ending ≡ ending → ⊥
not_lines ending flow clean other never number [] is = never is
not_lines ending flow clean other never number (line ∷ lines) is =
    not_before ending other number (opl_line flow line) (read_lines flow clean (number + 1) lines)
    (not_lines ending flow clean other never (number + 1) lines) is

opl_uncut : (flow : Flow) (bytes : List ℕ) → (opl_reading flow bytes true).ending ≡ Cut → ⊥
unfolding opl_reading
opl_uncut flow bytes =
    not_lines Cut flow true (λ cause spot is. cc) (λ is. cc) 1 (lines_of true (slice_split (λ b. b == 10) bytes))

opl_unwhole : (flow : Flow) (bytes : List ℕ) → (opl_reading flow bytes false).ending ≡ Whole → ⊥
unfolding opl_reading
opl_unwhole flow bytes =
    not_lines Whole flow false (λ cause spot is. cc) (λ is. cc) 1 (lines_of false (slice_split (λ b. b == 10) bytes))

-- ---- PBF

-- a frame before a reading gives it no ending that it hadn't, but a bad one
not_said : (ending : Ending) → ((cause : Cause) (spot : Spot) → BadAt cause spot ≡ ending → ⊥) → (spot : Spot)
    (said : Result (List ItemValue) Cause) (later : Reading) → (later.ending ≡ ending → ⊥) →
    (said_before spot said later).ending ≡ ending → ⊥
not_said ending other spot (Ok items) later never is = never is
not_said ending other spot (Err cause) later never is = other cause spot is

not_frames : (ending : Ending) (clean : Bool) (next : FrameStart) (stop : FramesStop) →
    ((cause : Cause) (spot : Spot) → BadAt cause spot ≡ ending → ⊥) →
    ((came : Bool) → frames_ending clean came next stop ≡ ending → ⊥) → (came : Bool) (frames : List Frame) →
    (read_frames clean came next stop frames).ending ≡ ending → ⊥
not_frames ending clean next stop other never came [] is = never came is
not_frames ending clean next stop other never came (frame ∷ frames) is =
    not_said ending other (Blob frame.number frame.byte) (frame_said came frame.what frame.raw)
    (read_frames clean (header_came came frame.what) next stop frames)
    (not_frames ending clean next stop other never (header_came came frame.what) frames) is

uncut_at : (next : FrameStart) (stop : FramesStop) (came : Bool) → frames_ending true came next stop ≡ Cut → ⊥
uncut_at next (BadFrame cause blamed) came is = cc
uncut_at next (More []) true is = cc
uncut_at next (More []) false is = cc
uncut_at next (More (byte ∷ left)) came is = cc

unwhole_at : (next : FrameStart) (stop : FramesStop) (came : Bool) → frames_ending false came next stop ≡ Whole → ⊥
unwhole_at next (BadFrame cause blamed) came is = cc
unwhole_at next (More left) came is = cc

pbf_uncut : (bytes : List ℕ) → (pbf_reading bytes true).ending ≡ Cut → ⊥
unfolding pbf_reading
pbf_uncut bytes =
    let file : Frames = frames_from first_start bytes in
    not_frames Cut true file.next file.stop (λ cause spot is. cc) (uncut_at file.next file.stop) false file.frames

pbf_unwhole : (bytes : List ℕ) → (pbf_reading bytes false).ending ≡ Whole → ⊥
unfolding pbf_reading
pbf_unwhole bytes =
    let file : Frames = frames_from first_start bytes in
    not_frames Whole false file.next file.stop (λ cause spot is. cc) (unwhole_at file.next file.stop) false file.frames

-- ---- any format

format_uncut : (format : Format) (bytes : List ℕ) → (format_reading format bytes true).ending ≡ Cut → ⊥
format_uncut (OplFile flow) bytes = opl_uncut flow bytes
format_uncut PbfFile bytes = pbf_uncut bytes

format_unwhole : (format : Format) (bytes : List ℕ) → (format_reading format bytes false).ending ≡ Whole → ⊥
format_unwhole (OplFile flow) bytes = opl_unwhole flow bytes
format_unwhole PbfFile bytes = pbf_unwhole bytes

-- a reading whose end came isn't cut off
pub came_uncut : (format : Format) (limit : ℕ) (bytes : List ℕ) (came : Bool) → came ≡ true →
    (limited_reading format limit bytes came).ending ≡ Cut → ⊥
came_uncut format limit bytes came is cut =
    format_uncut format (take limit bytes)
    (subst (λ c. (limited_reading format limit bytes c).ending ≡ Cut) is cut)

-- a reading whose end didn't come isn't whole
pub uncame_unwhole : (format : Format) (limit : ℕ) (bytes : List ℕ) (came : Bool) → came ≡ false →
    (limited_reading format limit bytes came).ending ≡ Whole → ⊥
uncame_unwhole format limit bytes came is whole =
    format_unwhole format (take limit bytes)
    (subst (λ c. (limited_reading format limit bytes c).ending ≡ Whole) is whole)

-- the first of bytes and of more bytes behind them
take_both : (n : ℕ) (bytes more : List ℕ) → take n (bytes ++ more) ≡ take n bytes ++ take (n - length bytes) more
take_both n bytes more = by (nat_lt n (length bytes)) refl where
  by : (below : Bool) → nat_lt n (length bytes) ≡ below →
      take n (bytes ++ more) ≡ take n bytes ++ take (n - length bytes) more
  by false test = take-limit bytes more n (ltb-false n (length bytes) test)
  by true test =
      let none : n - length bytes ≡ 0 = omega (arith, ltb-true n (length bytes) test) in
      take-append-le n bytes more (omega (arith, ltb-true n (length bytes) test))
      ∙ sym (append-nil (take n bytes)) ∙ ap (λ k. take n bytes ++ take k more) (sym none)

format_settled : (format : Format) (bytes more : List ℕ) (clean : Bool) (cause : Cause) (spot : Spot) →
    (format_reading format bytes false).ending ≡ BadAt cause spot →
    format_reading format (bytes ++ more) clean ≡ format_reading format bytes false
format_settled (OplFile flow) bytes more clean cause spot bad = opl_reading-settled flow bytes more clean cause spot bad
format_settled PbfFile bytes more clean cause spot bad = pbf_reading-settled bytes more clean cause spot bad

-- a reader that ends at a wrong spot read something bad there
pub wrong_is_bad : (ending : Ending) (cause : Cause) (spot : Spot) → finish_read ending ≡ Wrong cause spot →
    ending ≡ BadAt cause spot
wrong_is_bad Whole cause spot is = cc
wrong_is_bad Cut cause spot is = cc
wrong_is_bad (BadAt at where_at) cause spot is =
    let same_cause : at ≡ cause = cc in
    let same_spot : where_at ≡ spot = cc in
    ap (λ c. BadAt c where_at) same_cause ∙ ap (BadAt cause) same_spot

-- what comes after a bad place changes nothing
pub limited_settled : (format : Format) (limit : ℕ) (bytes more : List ℕ) (came end : Bool) (cause : Cause)
    (spot : Spot) → came ≡ false → finish_read (limited_reading format limit bytes came).ending ≡ Wrong cause spot →
    limited_reading format limit (bytes ++ more) end ≡ limited_reading format limit bytes came
limited_settled format limit bytes more came end cause spot is wrong =
    let bad : (limited_reading format limit bytes false).ending ≡ BadAt cause spot =
    wrong_is_bad (limited_reading format limit bytes false).ending cause spot
    (subst (λ c. finish_read (limited_reading format limit bytes c).ending ≡ Wrong cause spot) is wrong) in
    ap (λ all. format_reading format all end) (take_both limit bytes more)
    ∙ format_settled format (take limit bytes) (take (limit - length bytes) more) end cause spot bad
    ∙ ap (format_reading format (take limit bytes)) (sym is)

-- bytes that were cut at a limit are cut no further
pub take_twice : (n : ℕ) (bytes : List ℕ) → take n (take n bytes) ≡ take n bytes
take_twice n bytes = take_all n (take n bytes) (omega (arith, length-take n bytes))
