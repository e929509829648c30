-- How a PBF reader's standing is kept by a pull.
use Rattle.std.proofs.Common.{◌≡◌, ℕ, ◌+◌, ◌-◌, ◌^◌, ◌<◌, ◌≤◌, List, [], ◌++◌, length, take, false, refl, sym, ap, ◌∙◌, subst, arith, append_assoc, append-nil}
use Rattle.std.specs.Prelude.{Option, min}
use Rattle.std.specs.Io.KnownBytes.{IsAtEnd}
use Rattle.std.proofs.lemmas.List.{length-append, length-take}
use Rattle.osm_entity.specs.Items.{ItemValue}
use Rattle.osm_entity.specs.Readings.{after}
use Rattle.osm_host.specs.Counts.{Rises, last_count, raised}
use Rattle.osm_host.specs.Feeds.{FitsFeed, MayCome, feed_after, reached_end}
use Rattle.osm_host.specs.Pulls.{PulledOnce, piece_size, source_value}
use Rattle.osm_host.specs.declared.feed.Feed.{Feed}
use Rattle.osm_host.specs.declared.feed.Feed.TheVariants.{Open, Failed}
use Rattle.osm_host.proofs.FeedLemmas.{fits_after, given_is, open_after, take-limit}
use Rattle.osm_host.proofs.PullLemmas.{pull_failed, pull_gave}
use Rattle.osm_blob.proofs.LeadingLemmas.{leading_frame-few}
use Rattle.osm_pbf.specs.Pulled.{FilledPiece}
use Rattle.osm_pbf.specs.Reader.{CanPullPbf, IsPbfReader, PbfReaderValue, WantsPbf, pbf_fed, pbf_unread}
use Rattle.osm_pbf.specs.Reading.{pbf_reading, pbf_reading_from, said_before}
use Rattle.osm_pbf.specs.Standing.{StandsForPbf}
use Rattle.osm_pbf.specs.Steps.{pbf_handed}

-- a PBF reader with what a pull changed
abbrev pub pulled_into : ℕ → Feed → List ℕ → PbfReaderValue → PbfReaderValue
pulled_into given feed piece r = record (pbf_handed r) { given = given; feed = feed; piece = piece }

-- a reader kept what readers keep before it handed its piece over
pub kept_handed : (old : PbfReaderValue) → IsPbfReader (pbf_handed old) → IsPbfReader old
kept_handed old kept =
    let same = ap length (append-nil (pbf_unread old)) in
    record {
      sized = kept.sized;
      limited = omega (arith, same, kept.limited);
      counted = omega (arith, same, kept.counted);
      within = kept.within;
    }

-- a reader whose pull gave bytes stands for them too
stands_after : (old : PbfReaderValue) (piece bytes : List ℕ) → CanPullPbf old → old.given ≤ old.limit →
    old.limit < 2 ^ 64 → piece ≡ take (old.limit - old.given) bytes →
    (so_far : List ℕ) (items : List ItemValue) → StandsForPbf old so_far false items →
    StandsForPbf
    (pulled_into (raised old.given (length bytes)) (feed_after (length bytes) (old.limit - old.given)) piece old)
    (so_far ++ bytes) (reached_end (feed_after (length bytes) (old.limit - old.given))) items
stands_after old piece bytes pulls within sized is so_far items s =
    let fits : length so_far ≤ old.limit = subst (λ feed. FitsFeed feed old.limit (length so_far)) pulls.feeds s.fits in
    let counted : old.given ≡ length so_far = given_is old.given old.limit so_far s.count within sized fits in
    let size : old.given + length bytes ≡ length (so_far ++ bytes) = omega (arith, counted, length-append so_far bytes)
    in let kept : piece ≡ take (old.limit - length so_far) bytes = is ∙ ap (λ n. take (old.limit - n) bytes) counted in
    let some = take (old.limit - length so_far) bytes in
    record {
      count = omega (arith, s.count, length-append so_far bytes);
      ended = refl;
      fits = subst (FitsFeed (feed_after (length bytes) (old.limit - old.given)) old.limit) size
          (fits_after old.given old.limit (length bytes) within);
      running = λ _ more clean may.
          ap (λ all. pbf_reading (all ++ more) clean) (take-limit so_far bytes old.limit fits)
          ∙ ap (λ all. pbf_reading all clean) (append_assoc (take old.limit so_far) some more)
          ∙ s.running pulls.running (some ++ more) clean
          (subst (λ feed. MayCome feed (some ++ more) clean) (sym pulls.feeds) tt)
          ∙ ap
          (λ all. after items (said_before old.spot old.said (pbf_reading_from old.came old.blobs.next all clean)))
          (sym (append_assoc (pbf_unread old) some more) ∙ ap (λ p. (pbf_unread old ++ p) ++ more) (sym kept));
      over = λ not. absurd (not pulls.running);
    }

-- a reader whose pull failed stands for the bytes that came before
stands_failed : (old : PbfReaderValue) → CanPullPbf old → (so_far : List ℕ) (items : List ItemValue) →
    StandsForPbf old so_far false items →
    StandsForPbf (pulled_into old.given Failed [] old) (so_far ++ []) false items
stands_failed old pulls so_far items s =
    subst (λ all. StandsForPbf (pulled_into old.given Failed [] old) all false items) (sym (append-nil so_far))
    (record {
      count = s.count;
      ended = refl;
      fits = subst (λ feed. FitsFeed feed old.limit (length so_far)) pulls.feeds s.fits;
      running = λ _ more clean may.
          s.running pulls.running more clean (subst (λ feed. MayCome feed more clean) (sym pulls.feeds) tt)
          ∙ ap
          (λ all. after items
          (said_before old.spot old.said (pbf_reading_from old.came old.blobs.next (all ++ more) clean)))
          (sym (append-nil (pbf_unread old)));
      over = λ not. absurd (not pulls.running);
    })

-- the size of a piece
piece-size : {S : Type 0} (rest : S → Option (List ℕ)) (before now : S) (room count : ℕ) (piece : List ℕ) →
    FilledPiece rest before now room count piece → length piece ≡ min room count
piece-size rest before now room count piece filled =
    omega (arith, ap length filled.first, length-take room filled.bytes, filled.size)

-- a reader keeps what readers keep when its pull gave bytes
pub reader_after : {S : Type 0} (rest : S → Option (List ℕ)) (before now : S) (old : PbfReaderValue)
    (piece : List ℕ) (count sum : ℕ) (feed : Feed) → CanPullPbf old → IsPbfReader old →
    FilledPiece rest before now (old.limit - old.given) count piece → sum ≡ min (old.given + count) last_count →
    feed ≡ feed_after count (old.limit - old.given) → IsPbfReader (pulled_into sum feed piece old)
reader_after rest before now old piece count sum feed pulls kept filled is feed_is =
    let size = piece-size rest before now (old.limit - old.given) count piece filled in
    let within = kept.within pulls.feeds in
    let all = length-append (pbf_unread old) piece in
    record {
      sized = kept.sized;
      limited = omega (arith, all, size, within, kept.limited, kept.counted);
      counted = omega (arith, all, size, within, kept.sized, kept.limited, kept.counted, is);
      within = λ open_.
          omega (arith, is, within, (open_after count (old.limit - old.given) (sym feed_is ∙ open_)).1);
    }

-- a reader keeps what readers keep when its pull failed
pub reader_failed : (old : PbfReaderValue) → IsPbfReader old → IsPbfReader (pulled_into old.given Failed [] old)
reader_failed old kept = record {
  sized = kept.sized;
  limited = omega (arith, ap length (append-nil (pbf_unread old)), kept.limited);
  counted = omega (arith, ap length (append-nil (pbf_unread old)), kept.counted);
  within = λ open_. let no : Failed ≡ Open = open_ in cc;
}

-- a reader of which the source may have more counted some bytes
pub more_after : (old : PbfReaderValue) (count sum : ℕ) (feed : Feed) → CanPullPbf old → IsPbfReader old →
    sum ≡ min (old.given + count) last_count → feed ≡ feed_after count (old.limit - old.given) → feed ≡ Open →
    old.given < sum
more_after old count sum feed pulls kept is feed_is open_ =
    let some = open_after count (old.limit - old.given) (sym feed_is ∙ open_) in
    omega (arith, is, kept.sized, kept.within pulls.feeds, some.0, some.1)

-- a pull leaves at most a piece more to read
pub holds_after : {S : Type 0} (rest : S → Option (List ℕ)) (before now : S) (room count : ℕ) (unread piece : List ℕ) →
    count ≤ piece_size → FilledPiece rest before now room count piece →
    length (unread ++ piece) ≤ length unread + piece_size
holds_after rest before now room count unread piece small filled =
    omega (arith, small, length-append unread piece, piece-size rest before now room count piece filled)

-- a reader that wants a pull holds the beginning of one frame
pub holds_short : (old : PbfReaderValue) (left : ℕ) → left ≤ length (pbf_unread old) + piece_size → WantsPbf old →
    left < 33620995 + piece_size
holds_short old left more wants =
    omega (
      arith,
      more,
      leading_frame-few old.blobs.unread wants.holds.leading,
      length-append old.blobs.unread old.piece,
      ap length wants.holds.piece,
    )

-- a pull that gave bytes
pub pulled : {S : Type 0} (rest : S → Option (List ℕ)) (given faults : S → ℕ) (before now : S) (old : PbfReaderValue)
    (piece : List ℕ) (count sum : ℕ) (feed : Feed) → CanPullPbf old → IsPbfReader old → count ≤ piece_size →
    FilledPiece rest before now (old.limit - old.given) count piece → given now ≡ raised (given before) count →
    (count ≡ 0 → IsAtEnd (rest now)) → faults now ≡ faults before → sum ≡ min (old.given + count) last_count →
    feed ≡ feed_after count (old.limit - old.given) →
    PulledOnce pbf_fed StandsForPbf (source_value rest given faults before) (source_value rest given faults now) old
    (pulled_into sum feed piece old)
pulled rest given faults before now old piece count sum feed pulls kept small filled gave ended same is feed_is =
    let within = kept.within pulls.feeds in
    let sum_is : sum ≡ min (old.given + length filled.bytes) last_count =
    is ∙ ap (λ n. min (old.given + n) last_count) filled.size in
    let after_is : feed ≡ feed_after (length filled.bytes) (old.limit - old.given) =
    feed_is ∙ ap (λ n. feed_after n (old.limit - old.given)) filled.size in
    let gives = pull_gave (source_value rest given faults before) (source_value rest given faults now) (pbf_fed old)
    (pbf_fed (pulled_into sum feed piece old)) filled.bytes within kept.sized
    (omega (arith, small, filled.size)) filled.told (gave ∙ ap (raised (given before)) filled.size)
    (λ none. ended (filled.size ∙ none)) same sum_is after_is in
    record {
      bytes = filled.bytes;
      gave = gives;
      stands = λ so_far items s.
          subst
          (λ n. StandsForPbf (pulled_into n feed piece old) (so_far ++ filled.bytes) (reached_end feed) items)
          (sym gives.counted)
          (subst
          (λ f. StandsForPbf (pulled_into (raised old.given (length filled.bytes)) f piece old)
          (so_far ++ filled.bytes) (reached_end f) items) (sym after_is)
          (stands_after old piece filled.bytes pulls within kept.sized filled.first so_far items s));
    }

-- a pull that failed
pub pulled_none : {S : Type 0} (rest : S → Option (List ℕ)) (given faults : S → ℕ) (before now : S)
    (old : PbfReaderValue) → CanPullPbf old → rest now ≡ rest before → given now ≡ given before →
    Rises (faults before) (faults now) →
    PulledOnce pbf_fed StandsForPbf (source_value rest given faults before) (source_value rest given faults now) old
    (pulled_into old.given Failed [] old)
pulled_none rest given faults before now old pulls left idle rises = record {
  bytes = [];
  gave = pull_failed (source_value rest given faults before) (source_value rest given faults now) (pbf_fed old)
      (pbf_fed (pulled_into old.given Failed [] old)) left idle rises refl refl;
  stands = λ so_far items s. stands_failed old pulls so_far items s;
}
