-- How a reader's standing is kept by a pull.
use Rattle.std.proofs.Common.{◌≡◌, ℕ, ◌+◌, ◌-◌, ◌^◌, ◌<◌, ◌≤◌, List, [], ◌++◌, length, take, false, refl, sym, ap, ◌∙◌, subst, arith, append_assoc, append-nil}
use Rattle.std.specs.Prelude.{Option, min}
use Rattle.std.specs.Io.KnownBytes.{IsAtEnd}
use Rattle.std.proofs.lemmas.List.{length-append, length-take}
use Rattle.osm_entity.specs.Items.{ItemValue}
use Rattle.osm_host.specs.Counts.{Rises, last_count, raised}
use Rattle.osm_host.specs.Feeds.{FitsFeed, MayCome, feed_after, reached_end}
use Rattle.osm_host.specs.Pulls.{PulledOnce, piece_size, source_value}
use Rattle.osm_host.specs.declared.feed.Feed.{Feed}
use Rattle.osm_host.specs.declared.feed.Feed.TheVariants.{Open, Failed}
use Rattle.osm_host.proofs.FeedLemmas.{fits_after, given_is, open_after, take-limit}
use Rattle.osm_host.proofs.PullLemmas.{pull_failed, pull_gave}
use Rattle.osm_entity.specs.Readings.{after}
use Rattle.osm_opl_line.specs.Line.{longest_line}
use Rattle.osm_opl_line.specs.Reading.{opl_reading}
use Rattle.osm_opl.specs.Found.{Filled}
use Rattle.osm_opl.specs.Reader.{ReaderValue, CanPull, IsReader, WantsPull, fed}
use Rattle.osm_opl.specs.Standing.{Stands, reading_from}
use Rattle.osm_opl.specs.Unread.{UnreadValue, unread_bytes}

-- bytes that came behind what was unread
rest-more : (old new : UnreadValue) (bytes more : List ℕ) → new.held ≡ old.held → new.piece ≡ old.piece ++ bytes →
    unread_bytes old ++ (bytes ++ more) ≡ unread_bytes new ++ more
rest-more old new bytes more held piece =
    sym (append_assoc (unread_bytes old) bytes more)
    ∙ ap (λ all. all ++ more) (append_assoc old.held old.piece bytes)
    ∙ ap (λ all. (all ++ (old.piece ++ bytes)) ++ more) (sym held)
    ∙ ap (λ all. (new.held ++ all) ++ more) (sym piece)

-- a reader whose pull gave bytes stands for them too
pub stands_after : (old : ReaderValue) (unread : UnreadValue) (bytes : List ℕ) → CanPull old → old.given ≤ old.limit →
    old.limit < 2 ^ 64 → unread.held ≡ old.unread.held →
    unread.piece ≡ old.unread.piece ++ take (old.limit - old.given) bytes →
    (so_far : List ℕ) (items : List ItemValue) → Stands old so_far false items →
    Stands
    (record old {
      given = raised old.given (length bytes);
      feed = feed_after (length bytes) (old.limit - old.given);
      unread = unread;
    }) (so_far ++ bytes) (reached_end (feed_after (length bytes) (old.limit - old.given))) items
stands_after old unread bytes pulls within sized held piece so_far items s =
    let fits : length so_far ≤ old.limit = subst (λ feed. FitsFeed feed old.limit (length so_far)) pulls.feeds s.fits in
    let counted : old.given ≡ length so_far = given_is old.given old.limit so_far s.count within sized fits in
    let size : old.given + length bytes ≡ length (so_far ++ bytes) = omega (arith, counted, length-append so_far bytes)
    in let kept : unread.piece ≡ old.unread.piece ++ take (old.limit - length so_far) bytes =
    piece ∙ ap (λ n. old.unread.piece ++ take (old.limit - n) bytes) counted in
    record {
      count = omega (arith, s.count, length-append so_far bytes);
      ended = refl;
      fits = subst (FitsFeed (feed_after (length bytes) (old.limit - old.given)) old.limit) size
          (fits_after old.given old.limit (length bytes) within);
      running = λ _ more clean may.
          ap (λ all. opl_reading old.flow (all ++ more) clean) (take-limit so_far bytes old.limit fits)
          ∙ ap (λ all. opl_reading old.flow all clean)
          (append_assoc (take old.limit so_far) (take (old.limit - length so_far) bytes) more)
          ∙ s.running pulls.running (take (old.limit - length so_far) bytes ++ more) clean
          (subst (λ feed. MayCome feed (take (old.limit - length so_far) bytes ++ more) clean) (sym pulls.feeds) tt)
          ∙ ap (λ all. after items (reading_from old.flow (old.lines + 1) all clean))
          (rest-more old.unread unread (take (old.limit - length so_far) bytes) more held kept);
      over = λ not. absurd (not pulls.running);
    }

-- a reader whose pull failed stands for the bytes that came before
pub stands_failed : (old : ReaderValue) → CanPull old → (so_far : List ℕ) (items : List ItemValue) →
    Stands old so_far false items → Stands (record old { feed = Failed }) (so_far ++ []) false items
stands_failed old pulls so_far items s =
    subst (λ all. Stands (record old { feed = Failed }) all false items) (sym (append-nil so_far))
    (record {
      count = s.count;
      ended = refl;
      fits = subst (λ feed. FitsFeed feed old.limit (length so_far)) pulls.feeds s.fits;
      running = λ _ more clean may.
          s.running pulls.running more clean (subst (λ feed. MayCome feed more clean) (sym pulls.feeds) tt);
      over = λ not. absurd (not pulls.running);
    })

-- the sizes of what was unread and of what came
rest-size : {S : Type 0} (rest : S → Option (List ℕ)) (before now : S) (room count : ℕ) (old new : UnreadValue) →
    Filled rest before now room count old new →
    length (unread_bytes new) ≡ length (unread_bytes old) + min room count
rest-size rest before now room count old new filled =
    omega (
      arith,
      length-append new.held new.piece,
      length-append old.held old.piece,
      ap length filled.held,
      ap length filled.piece,
      length-append old.piece (take room filled.bytes),
      length-take room filled.bytes,
      filled.size,
    )

-- a reader keeps its counts when its pull gave bytes
pub reader_after : {S : Type 0} (rest : S → Option (List ℕ)) (before now : S) (old : ReaderValue)
    (unread : UnreadValue) (count sum : ℕ) (feed : Feed) → CanPull old → IsReader old →
    Filled rest before now (old.limit - old.given) count old.unread unread → sum ≡ min (old.given + count) last_count →
    feed ≡ feed_after count (old.limit - old.given) →
    IsReader (record old { given = sum; feed = feed; unread = unread })
reader_after rest before now old unread count sum feed pulls kept filled is feed_is =
    let size = rest-size rest before now (old.limit - old.given) count old.unread unread filled in
    let within = kept.within pulls.feeds in
    record {
      sized = kept.sized;
      limited = omega (arith, size, within, kept.limited, kept.counted);
      counted = omega (arith, size, within, kept.sized, kept.limited, kept.counted, is);
      within = λ open_.
          omega (arith, is, within, (open_after count (old.limit - old.given) (sym feed_is ∙ open_)).1);
    }

-- a reader of which the source may have more counted some bytes
pub more_after : (old : ReaderValue) (count sum : ℕ) (feed : Feed) → CanPull old → IsReader old →
    sum ≡ min (old.given + count) last_count → feed ≡ feed_after count (old.limit - old.given) → feed ≡ Open →
    old.given < sum
more_after old count sum feed pulls kept is feed_is open_ =
    let some = open_after count (old.limit - old.given) (sym feed_is ∙ open_) in
    omega (arith, is, kept.sized, kept.within pulls.feeds, some.0, some.1)

-- a pull leaves at most a piece more to read
pub holds_after : {S : Type 0} (rest : S → Option (List ℕ)) (before now : S) (room count : ℕ) (old new : UnreadValue) →
    count ≤ piece_size → Filled rest before now room count old new →
    length (unread_bytes new) ≤ length (unread_bytes old) + piece_size
holds_after rest before now room count old new small filled =
    omega (arith, small, rest-size rest before now room count old new filled)

-- a reader that wants a pull holds the beginning of one line
pub holds_short : (old : ReaderValue) (left : ℕ) → left ≤ length (unread_bytes old.unread) + piece_size →
    WantsPull old → left ≤ longest_line + piece_size
holds_short old left more wants =
    omega (
      arith,
      more,
      wants.holds.short,
      length-append old.unread.held old.unread.piece,
      ap length wants.passed,
    )

-- a pull that gave bytes
pub pulled : {S : Type 0} (rest : S → Option (List ℕ)) (given faults : S → ℕ) (before now : S) (old : ReaderValue)
    (unread : UnreadValue) (count sum : ℕ) (feed : Feed) → CanPull old → IsReader old → count ≤ piece_size →
    Filled rest before now (old.limit - old.given) count old.unread unread → given now ≡ raised (given before) count →
    (count ≡ 0 → IsAtEnd (rest now)) → faults now ≡ faults before → sum ≡ min (old.given + count) last_count →
    feed ≡ feed_after count (old.limit - old.given) →
    PulledOnce fed Stands (source_value rest given faults before) (source_value rest given faults now) old
    (record old { given = sum; feed = feed; unread = unread })
pulled rest given faults before now old unread count sum feed pulls kept small filled gave ended same is feed_is =
    let within = kept.within pulls.feeds in
    let sum_is : sum ≡ min (old.given + length filled.bytes) last_count =
    is ∙ ap (λ n. min (old.given + n) last_count) filled.size in
    let after_is : feed ≡ feed_after (length filled.bytes) (old.limit - old.given) =
    feed_is ∙ ap (λ n. feed_after n (old.limit - old.given)) filled.size in
    let gives = pull_gave (source_value rest given faults before) (source_value rest given faults now) (fed old)
    (fed (record old { given = sum; feed = feed; unread = unread })) filled.bytes within kept.sized
    (omega (arith, small, filled.size)) filled.told (gave ∙ ap (raised (given before)) filled.size)
    (λ none. ended (filled.size ∙ none)) same sum_is after_is in
    record {
      bytes = filled.bytes;
      gave = gives;
      stands = λ so_far items s.
          subst
          (λ n. Stands (record old { given = n; feed = feed; unread = unread }) (so_far ++ filled.bytes)
          (reached_end feed) items) (sym gives.counted)
          (subst
          (λ f. Stands (record old { given = raised old.given (length filled.bytes); feed = f; unread = unread })
          (so_far ++ filled.bytes) (reached_end f) items) (sym after_is)
          (stands_after old unread filled.bytes pulls within kept.sized filled.held filled.piece so_far items s));
    }

-- a pull that failed
pub pulled_none : {S : Type 0} (rest : S → Option (List ℕ)) (given faults : S → ℕ) (before now : S)
    (old : ReaderValue) (unread : UnreadValue) → CanPull old → unread ≡ old.unread → rest now ≡ rest before →
    given now ≡ given before → Rises (faults before) (faults now) →
    PulledOnce fed Stands (source_value rest given faults before) (source_value rest given faults now) old
    (record old { feed = Failed; unread = unread })
pulled_none rest given faults before now old unread pulls same left idle rises = record {
  bytes = [];
  gave = pull_failed (source_value rest given faults before) (source_value rest given faults now) (fed old)
      (fed (record old { feed = Failed; unread = unread })) left idle rises refl refl;
  stands = λ so_far items s.
      subst (λ u. Stands (record old { feed = Failed; unread = u }) (so_far ++ []) false items) (sym same)
      (stands_failed old pulls so_far items s);
}
