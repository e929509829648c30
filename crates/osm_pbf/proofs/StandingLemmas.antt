-- How a PBF reader's standing is kept while it gives items.
use Rattle.std.proofs.Common.{◌≡◌, ℕ, List, [], ◌∷◌, ◌++◌, length, take, Bool, true, false, refl, sym, ap, ◌∙◌, subst, arith, append_assoc, append-nil, inl, inr}
use Rattle.std.specs.Prelude.{◌-◌, ◌⊎◌, Ok, Err, OnErr, nat_lt}
use Rattle.std.specs.declared.result.Result.{Result}
use Rattle.std.proofs.lemmas.Bool.{cond_both, le-ltb, lt-ltb, ltb-false, ltb-true}
use Rattle.std.proofs.lemmas.List.{take-append-le, take_all}
use Rattle.osm_entity.specs.Items.{ItemValue}
use Rattle.osm_entity.specs.Prefixes.{IsPrefix}
use Rattle.osm_entity.specs.Readings.{Reading, Ending, Whole, Bad as BadAt, Cut, after, stream_read, verdict_read}
use Rattle.osm_entity.specs.Streams.{IsBefore}
use Rattle.osm_entity.specs.declared.stream.End.TheVariants.{Done, Broken}
use Rattle.osm_entity.specs.declared.verdict.Cause.{Cause}
use Rattle.osm_entity.specs.declared.verdict.Spot.{Spot}
use Rattle.osm_entity.specs.declared.verdict.Verdict.{Verdict}
use Rattle.osm_entity.specs.declared.verdict.Verdict.TheVariants.{Running, Clean, Passed, Input, Read, Write, Memory, TooLong as PastLimit}
use Rattle.osm_host.specs.Feeds.{FitsFeed, MayCome, reached_end}
use Rattle.osm_host.specs.declared.feed.Feed.{Feed}
use Rattle.osm_host.specs.declared.feed.Feed.TheVariants.{Open, Ended, Failed, TooLong}
use Rattle.osm_host.proofs.FeedLemmas.{may_end, take-limit}
use Rattle.osm_blob.specs.Blobs.{no_blobs}
use Rattle.osm_blob.specs.Frames.{FrameStart, More}
use Rattle.osm_pbf.specs.Reader.{HoldsNoItem, PbfReaderValue, WantsPbf, pbf_reading_left, pbf_unread}
use Rattle.osm_pbf.specs.Reading.{frames_ending, only_ending, pbf_reading, pbf_reading_from, said_before}
use Rattle.osm_pbf.specs.Standing.{GavePbfItems, IsOverPbf, StandsForPbf, pbf_items_left, pbf_reader_reading}
use Rattle.osm_pbf.specs.Steps.{ComesToRest, PassedItems, pbf_ending_left, pbf_verdict_left}
use Rattle.osm_pbf.proofs.PassingLemmas.{after-after, passed_more, passed_nothing, with_said}
use Rattle.osm_pbf.proofs.ReadingLemmas.{pbf_reading-prefix, pbf_reading-settled, pbf_reading_from-short}

-- a new reader stands for nothing
pub new_stands : (r : PbfReaderValue) → r.given ≡ 0 → r.feed ≡ Open → r.came ≡ false → r.said ≡ Ok [] →
    r.blobs ≡ no_blobs → r.piece ≡ [] → r.verdict ≡ Running → StandsForPbf r [] false []
unfolding pbf_reading
new_stands r given open_ came said blobs piece run = record {
  count = given;
  ended = rw open_ refl;
  fits = rw open_ (omega arith);
  running = λ _ more clean may.
      ap (λ bytes. pbf_reading (bytes ++ more) clean) (take_all r.limit [] (omega arith))
      ∙ rw (came, said, blobs, piece) refl;
  over = λ not. absurd (not run);
}

-- a verdict is running or not
pub runs_or_not : (verdict : Verdict) → (verdict ≡ Running) ⊎ (verdict ≡ Running → ⊥)
runs_or_not Running = inl refl
runs_or_not Clean = inr (λ e. cc)
runs_or_not Passed = inr (λ e. cc)
runs_or_not (Input cause spot) = inr (λ e. cc)
runs_or_not PastLimit = inr (λ e. cc)
runs_or_not Read = inr (λ e. cc)
runs_or_not Write = inr (λ e. cc)
runs_or_not Memory = inr (λ e. cc)

-- a running reader that passed items gave them
pub gave_some : (old new : PbfReaderValue) (more : List ItemValue) → old.verdict ≡ Running →
    PassedItems old new more → GavePbfItems old new more
gave_some old new more run passes = λ bytes came items s. record {
  count = passes.same.given ∙ s.count;
  ended = s.ended ∙ ap reached_end (sym passes.same.feed);
  fits = rw (passes.same.feed, passes.same.limit) s.fits;
  running = λ _ rest clean may.
      ap (λ limit. pbf_reading (take limit bytes ++ rest) clean) passes.same.limit
      ∙ s.running run rest clean (subst (λ feed. MayCome feed rest clean) passes.same.feed may)
      ∙ ap (after items) (passes.reads rest clean)
      ∙ after-after items more (pbf_reading_left new rest clean);
  over = λ not. absurd (not (passes.verdict ∙ run));
}

-- a reader that has a verdict keeps it
over_stays : (old new : PbfReaderValue) (bytes : List ℕ) (came : Bool) (items : List ItemValue) →
    PassedItems old new [] → IsOverPbf old bytes came items → IsOverPbf new bytes came (items ++ [])
over_stays old new bytes came items passes over = record {
  all = ap (λ limit. (pbf_reading (take limit bytes) came).items) passes.same.limit
      ∙ over.all
      ∙ sym (append-nil items);
  verdict = passes.verdict
      ∙ over.verdict
      ∙ ap (λ limit. verdict_read limit (length bytes) (pbf_reading (take limit bytes) came).ending)
      (sym passes.same.limit);
  stopped = λ cut still.
      over.stopped (ap (λ limit. (pbf_reading (take limit bytes) came).ending) (sym passes.same.limit) ∙ cut)
      (sym passes.same.feed ∙ still);
}

-- a reader that passed no item stands for what it stood for
pub gave_none : (old new : PbfReaderValue) → PassedItems old new [] → GavePbfItems old new []
gave_none old new passes =
    elim (runs_or_not old.verdict) as (λ _. GavePbfItems old new []) [
      | inl run ↦ gave_some old new [] run passes
      | inr not ↦ λ bytes came items s. record {
        count = passes.same.given ∙ s.count;
        ended = s.ended ∙ ap reached_end (sym passes.same.feed);
        fits = rw (passes.same.feed, passes.same.limit) s.fits;
        running = λ run. absurd (not (sym passes.verdict ∙ run));
        over = λ _. over_stays old new bytes came items passes (s.over not);
      }
    ]

-- what a reader gave stands, and what it gave then
pub gave_more : (old mid new : PbfReaderValue) (first more : List ItemValue) → GavePbfItems old mid first →
    GavePbfItems mid new more → GavePbfItems old new (first ++ more)
gave_more old mid new first more one two = λ bytes came items s.
    subst (λ all. StandsForPbf new bytes came all) (append_assoc items first more)
    (two bytes came (items ++ first) (one bytes came items s))

-- the reading of all that came, by what the reader holds
pub reading_now : (r : PbfReaderValue) (bytes : List ℕ) (came : Bool) (items : List ItemValue) →
    StandsForPbf r bytes came items → r.verdict ≡ Running →
    pbf_reader_reading r bytes came ≡ after items (pbf_reading_left r [] came)
reading_now r bytes came items s run =
    ap (λ all. pbf_reading all came) (sym (append-nil (take r.limit bytes)))
    ∙ s.running run [] came (may_end r.feed came s.ended)

-- a reading that ends at a bad frame isn't cut off
bad_not_cut : (cause : Cause) (spot : Spot) → BadAt cause spot ≡ Cut → ⊥
bad_not_cut cause spot cut = cc

-- a reader whose frame in hand is bad has its verdict
blames : (old : PbfReaderValue) (cause : Cause) → old.verdict ≡ Running → old.said ≡ Err cause →
    GavePbfItems old (record old { verdict = Input cause old.spot }) []
blames old cause run bad = λ bytes came items s.
    let later = pbf_reading_from old.came old.blobs.next (pbf_unread old ++ []) came in
    let is = reading_now old bytes came items s run
    ∙ ap (λ said. after items (said_before old.spot said later)) bad in
    record {
      count = s.count;
      ended = s.ended;
      fits = s.fits;
      running = λ runs. cc;
      over = λ not. record {
        all = ap (λ r. r.items) is;
        verdict = ap (λ r. verdict_read old.limit (length bytes) r.ending) (sym is);
        stopped = λ cut. absurd (bad_not_cut cause old.spot (sym (ap (λ r. r.ending) is) ∙ cut));
      };
    }

-- the same, by what is known of it
pub gave_blamed : (old new : PbfReaderValue) (cause : Cause) → old.verdict ≡ Running → old.said ≡ Err cause →
    new ≡ record old { verdict = Input cause old.spot } → GavePbfItems old new []
gave_blamed old new cause run bad is = subst (λ r. GavePbfItems old r []) (sym is) (blames old cause run bad)

-- the end of a file has one verdict, however many bytes it has
end_settled : (limit count : ℕ) (came : Bool) (next : FrameStart) (left : List ℕ) →
    verdict_read 0 0 (frames_ending true came next (More left))
    ≡ verdict_read limit count (frames_ending true came next (More left))
end_settled limit count true next [] = refl
end_settled limit count false next [] = refl
end_settled limit count true next (byte ∷ left) = refl
end_settled limit count false next (byte ∷ left) = refl

-- the verdict where nothing is left that gives an item
verdict_settled : (feed : Feed) (limit count : ℕ) (came : Bool) (next : FrameStart) (left : List ℕ) →
    (pbf_verdict_left feed (frames_ending true came next (More left)) ≡ Running → ⊥) → FitsFeed feed limit count →
    pbf_verdict_left feed (frames_ending true came next (More left))
    ≡ verdict_read limit count (frames_ending (reached_end feed) came next (More left))
verdict_settled Open limit count came next left not fits = absurd (not refl)
verdict_settled Ended limit count came next left not fits = end_settled limit count came next left
verdict_settled Failed limit count came next left not fits = rw (le-ltb limit count fits) refl
verdict_settled TooLong limit count came next left not fits = rw (lt-ltb limit count fits) refl

-- the reading of what a reader holds that gives no item
none_left : (r : PbfReaderValue) (clean : Bool) → HoldsNoItem r →
    pbf_reading_left r [] clean ≡ only_ending (frames_ending clean r.came r.blobs.next (More r.blobs.unread))
none_left r clean holds =
    ap (λ said. said_before r.spot said (pbf_reading_from r.came r.blobs.next (pbf_unread r ++ []) clean)) holds.said
    ∙ ap (λ all. pbf_reading_from r.came r.blobs.next all clean)
    (append-nil (pbf_unread r) ∙ ap (λ p. r.blobs.unread ++ p) holds.piece ∙ append-nil r.blobs.unread)
    ∙ pbf_reading_from-short r.came r.blobs.next r.blobs.unread clean holds.leading

-- a reader that holds no item has its verdict
settles : (old : PbfReaderValue) → old.verdict ≡ Running → HoldsNoItem old →
    GavePbfItems old (record old { verdict = pbf_verdict_left old.feed (pbf_ending_left old) }) []
settles old run holds = λ bytes came items s.
    let is = reading_now old bytes came items s run ∙ ap (after items) (none_left old came holds) in
    record {
      count = s.count;
      ended = s.ended;
      fits = s.fits;
      running = λ _ more clean may. rw (append-nil items) (s.running run more clean may);
      over = λ not. record {
        all = ap (λ r. r.items) is;
        verdict = verdict_settled old.feed old.limit (length bytes) old.came old.blobs.next old.blobs.unread not s.fits
            ∙ ap
            (λ end. verdict_read old.limit (length bytes)
            (frames_ending end old.came old.blobs.next (More old.blobs.unread))) (sym s.ended)
            ∙ ap (λ r. verdict_read old.limit (length bytes) r.ending) (sym is);
        stopped = λ cut still. not (ap (λ feed. pbf_verdict_left feed (pbf_ending_left old)) still);
      };
    }

-- the same, by what is known of it
pub gave_settled : (old new : PbfReaderValue) → old.verdict ≡ Running → HoldsNoItem old →
    new ≡ record old { verdict = pbf_verdict_left old.feed (pbf_ending_left old) } → GavePbfItems old new []
gave_settled old new run holds is = subst (λ r. GavePbfItems old r []) (sym is) (settles old run holds)

-- a reader at rest gives its verdict
pub gave_rest : (first old took mid new : PbfReaderValue) → PassedItems first old [] → old.said ≡ Ok [] →
    took.said ≡ Ok [] → took ≡ with_said took.said old → old.verdict ≡ Running → ComesToRest took mid →
    new ≡ record mid { verdict = pbf_verdict_left mid.feed (pbf_ending_left mid) } → GavePbfItems first new []
gave_rest first old took mid new passes none also same run rests is =
    let to_mid = passed_more old took mid [] [] (passed_nothing old took (also ∙ sym none) same) rests.passes in
    gave_more first mid new [] [] (gave_none first mid (passed_more first old mid [] [] passes to_mid))
    (gave_settled mid new (to_mid.verdict ∙ run) rests.holds is)

-- a reader whose frame in hand is bad gives its verdict
pub gave_bad : (first old took new : PbfReaderValue) (cause : Cause) → PassedItems first old [] →
    old.said ≡ Err cause → took.said ≡ old.said → took ≡ with_said took.said old → old.verdict ≡ Running →
    new ≡ record took { verdict = Input cause took.spot } → GavePbfItems first new []
gave_bad first old took new cause passes bad also same run is =
    let to_took = passed_nothing old took also same in
    gave_more first took new [] [] (gave_none first took (passed_more first old took [] [] passes to_took))
    (gave_blamed took new cause (to_took.verdict ∙ run) (also ∙ bad) is)

-- an item that was passed is no longer to come
pub left_falls : (old new : PbfReaderValue) (item : ItemValue) → PassedItems old new (item ∷ []) →
    pbf_items_left old ≡ item ∷ pbf_items_left new
left_falls old new item passes = ap (λ (reading : Reading). reading.items) (passes.reads [] false)

-- what holds anyway holds after an error
pub OnErr-always : {T E Q : Type 0} (r : Result T E) → Q → OnErr r Q
OnErr-always {Q = Q} r q = elim r as (λ r. OnErr r Q) [ Ok x ↦ tt | Err e ↦ q ]

-- what a reader gave comes first in the items
pub gives_first : (r : PbfReaderValue) (bytes : List ℕ) (came : Bool) (items : List ItemValue) →
    StandsForPbf r bytes came items → IsPrefix items (pbf_reader_reading r bytes came).items
gives_first r bytes came items s =
    elim (runs_or_not r.verdict) as (λ _. IsPrefix items (pbf_reader_reading r bytes came).items) [
      | inl run ↦ record {
        rest = (pbf_reading_left r [] came).items;
        joined = ap (λ (reading : Reading). reading.items) (reading_now r bytes came items s run);
      }
      | inr not ↦ record {
        rest = [];
        joined = (s.over not).all ∙ sym (append-nil items);
      }
    ]

-- a reader that wants a pull has given all items of the blobs that came whole
pub gives_all : (r : PbfReaderValue) (bytes : List ℕ) (came : Bool) (items : List ItemValue) →
    StandsForPbf r bytes came items → WantsPbf r → (pbf_reader_reading r bytes came).items ≡ items
gives_all r bytes came items s wants =
    ap (λ (reading : Reading). reading.items)
    (reading_now r bytes came items s wants.can.running ∙ ap (after items) (none_left r came wants.holds))
    ∙ append-nil items

-- what a reader gave is before the reading of what came
pub before_now : (r : PbfReaderValue) (bytes : List ℕ) (came : Bool) (items : List ItemValue) →
    StandsForPbf r bytes came items →
    IsBefore (record { items = items; end = Broken }) (stream_read (pbf_reader_reading r bytes came))
before_now r bytes came items s = record {
  items = gives_first r bytes came items s;
  done = λ done. let no : Broken ≡ Done = done in cc;
}

-- the first of bytes and more
take-parts : (n : ℕ) (bytes more : List ℕ) →
    take n (bytes ++ more) ≡ take n bytes ++ take (n - length bytes) more
take-parts n bytes more = by_test (nat_lt n (length bytes)) refl
  where
    by_test : (below : Bool) → nat_lt n (length bytes) ≡ below →
        take n (bytes ++ more) ≡ take n bytes ++ take (n - length bytes) more
    by_test false test = take-limit bytes more n (ltb-false n (length bytes) test)
    by_test true test =
        let none : n - length bytes ≡ 0 = omega (arith, ltb-true n (length bytes) test) in
        take-append-le n bytes more (omega (arith, ltb-true n (length bytes) test))
        ∙ sym (append-nil (take n bytes))
        ∙ ap (λ k. take n bytes ++ take k more) (sym none)

-- the reading of all that comes, by what came
reading-more : (r : PbfReaderValue) (bytes more : List ℕ) (clean : Bool) →
    pbf_reader_reading r (bytes ++ more) clean
    ≡ pbf_reading (take r.limit bytes ++ take (r.limit - length bytes) more) clean
reading-more r bytes more clean = ap (λ all. pbf_reading all clean) (take-parts r.limit bytes more)

-- what a reader gave is before the reading of all that comes
pub before_later : (r : PbfReaderValue) (bytes more : List ℕ) (items : List ItemValue) (clean : Bool) →
    StandsForPbf r bytes false items →
    IsBefore (record { items = items; end = Broken }) (stream_read (pbf_reader_reading r (bytes ++ more) clean))
before_later r bytes more items clean s =
    let first = gives_first r bytes false items s in
    let grows = pbf_reading-prefix (take r.limit bytes) (take (r.limit - length bytes) more) clean in
    record {
      items = record {
        rest = first.rest ++ grows.items.rest;
        joined = ap (λ (reading : Reading). reading.items) (reading-more r bytes more clean)
            ∙ grows.items.joined
            ∙ ap (λ all. all ++ grows.items.rest) first.joined
            ∙ append_assoc items first.rest grows.items.rest;
      };
      done = λ done. let no : Broken ≡ Done = done in cc;
    }

-- the verdict of a bad frame is that of a reading that ends there
bad_by : (limit count : ℕ) (ending : Ending) (cause : Cause) (spot : Spot) →
    Input cause spot ≡ verdict_read limit count ending → ending ≡ BadAt cause spot
bad_by limit count Whole cause spot is = cc
bad_by limit count Cut cause spot is =
    cond_both (nat_lt limit count) PastLimit Read (λ v. Input cause spot ≡ v → Cut ≡ BadAt cause spot) (λ _ e. cc)
    (λ _ e. cc) is
bad_by limit count (BadAt other place) cause spot is = cc

-- after a bad frame more bytes change nothing
pub bad_stays : (r : PbfReaderValue) (bytes more : List ℕ) (items : List ItemValue) (clean : Bool) (cause : Cause)
    (spot : Spot) → StandsForPbf r bytes false items → r.verdict ≡ Input cause spot →
    pbf_reader_reading r (bytes ++ more) clean ≡ pbf_reader_reading r bytes false
bad_stays r bytes more items clean cause spot s is =
    let over = s.over (λ run. let same : Input cause spot ≡ Running = sym is ∙ run in cc) in
    reading-more r bytes more clean
    ∙ pbf_reading-settled (take r.limit bytes) (take (r.limit - length bytes) more) clean cause spot
    (bad_by r.limit (length bytes) (pbf_reader_reading r bytes false).ending cause spot (sym is ∙ over.verdict))
