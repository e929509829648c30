-- How a reader's standing is kept while it gives items.
use Rattle.std.proofs.Common.{◌≡◌, ℕ, ◌+◌, List, [], ◌∷◌, ◌++◌, length, take, Bool, true, false, refl, sym, ap, ◌∙◌, subst, arith, append_assoc, append-nil, inl, inr}
use Rattle.std.specs.Prelude.{◌-◌, ◌⊎◌, OnErr, Ok, Err, nat_lt}
use Rattle.std.specs.declared.result.Result.{Result}
use Rattle.std.proofs.lemmas.Bool.{cond_both, ltb-false, ltb-true}
use Rattle.std.proofs.lemmas.List.{take_all, take-append-le}
use Rattle.osm_entity.specs.Items.{ItemValue}
use Rattle.osm_entity.specs.Prefixes.{IsPrefix}
use Rattle.osm_entity.specs.Streams.{IsBefore}
use Rattle.osm_entity.specs.declared.stream.End.TheVariants.{Done, Broken}
use Rattle.osm_opl_line.proofs.SettlingLemmas.{opl_reading-prefix, opl_reading-settled}
use Rattle.osm_entity.specs.declared.verdict.Cause.{Cause}
use Rattle.osm_entity.specs.declared.verdict.Verdict.{Verdict}
use Rattle.osm_entity.specs.declared.verdict.Verdict.TheVariants.{Running, Clean, Passed, Input, Read, Write, Memory, TooLong as PastLimit}
use Rattle.osm_opl_line.specs.Line.{LineValue, Skipped, Good, Bad}
use Rattle.osm_entity.specs.declared.verdict.Spot.{Spot}
use Rattle.osm_entity.specs.declared.verdict.Spot.TheVariants.{Line}
use Rattle.osm_entity.specs.Readings.{Reading, Ending, Whole, Bad as BadAt, Cut, after, ending_of, stream_read, verdict_read}
use Rattle.osm_opl_line.specs.Reading.{before, is_line, opl_reading}
use Rattle.osm_host.specs.Feeds.{MayCome, reached_end, verdict_after}
use Rattle.osm_host.specs.declared.feed.Feed.TheVariants.{Open}
use Rattle.osm_host.proofs.FeedLemmas.{may_end, take-limit, verdict_settled}
use Rattle.osm_opl.specs.Reader.{ReaderValue, WantsPull}
use Rattle.osm_opl.specs.Passing.{HasNoLine, SameRest, TakesLine, is_bad, passed}
use Rattle.osm_opl.specs.Standing.{GaveItems, Stands, reading_from, reader_reading}
use Rattle.osm_opl.specs.Unread.{UnreadValue, HasNoNewline, unread_bytes}
use Rattle.osm_opl.proofs.KeepingLemmas.{held_all, settled_is}
use Rattle.osm_opl.proofs.ReadingLemmas.{only, opl_reading-from, reading_from-none, is_line-open}

-- the items that a line says
abbrev pub items_in : LineValue → List ItemValue
items_in Skipped = []
items_in (Good item) = item ∷ []
items_in (Bad cause) = []

-- a new reader stands for nothing
pub new_stands : (r : ReaderValue) → r.given ≡ 0 → r.feed ≡ Open → r.lines ≡ 0 →
    r.unread ≡ record { held = []; piece = [] } → r.verdict ≡ Running → Stands r [] false []
new_stands r given open_ lines none run = record {
  count = given;
  ended = rw open_ refl;
  fits = rw open_ (omega arith);
  running = λ _ more clean may.
      ap (λ bytes. opl_reading r.flow (bytes ++ more) clean) (take_all r.limit [] (omega arith))
      ∙ opl_reading-from r.flow more clean
      ∙ rw (lines, none) refl;
  over = λ not. absurd (not run);
}

-- items before the reading of an item and more
after-cons : (items : List ItemValue) (item : ItemValue) (reading : Reading) →
    after items (record { items = item ∷ reading.items; ending = reading.ending })
    ≡ after (items ++ item ∷ []) reading
after-cons items item reading =
    ap (λ all. let r : Reading = record { items = all; ending = reading.ending } in r)
    (sym (append_assoc items (item ∷ []) reading.items))

-- the reading of all that came, by what is unread
pub reading_now : (r : ReaderValue) (bytes : List ℕ) (came : Bool) (items : List ItemValue) →
    Stands r bytes came items → r.verdict ≡ Running →
    reader_reading r bytes came ≡ after items (reading_from r.flow (r.lines + 1) (unread_bytes r.unread ++ []) came)
reading_now r bytes came items s run =
    ap (λ all. opl_reading r.flow all came) (sym (append-nil (take r.limit bytes)))
    ∙ s.running run [] came (may_end r.feed came s.ended)

-- a reading that ends at a bad line isn't cut off
bad_not_cut : (cause : Cause) (spot : Spot) → BadAt cause spot ≡ Cut → ⊥
bad_not_cut cause spot cut = cc

-- a line that came off is passed
passes : (old : ReaderValue) (unread : UnreadValue) (value : LineValue) → old.verdict ≡ Running →
    ((number : ℕ) (more : List ℕ) (clean : Bool) → MayCome old.feed more clean →
    (is_bad value ≡ true → more ≡ []) → reading_from old.flow number (unread_bytes old.unread ++ more) clean
    ≡ before number value (reading_from old.flow (number + 1) (unread_bytes unread ++ more) clean)) →
    GaveItems old (passed value (record old { unread = unread })) (items_in value)
passes old unread Skipped run reads = λ bytes came items s. record {
  count = s.count;
  ended = s.ended;
  fits = s.fits;
  running = λ _ more clean may.
      s.running run more clean may
      ∙ ap (after items) (reads (old.lines + 1) more clean may (λ bad. cc))
      ∙ ap (λ all. after all (reading_from old.flow (old.lines + 1 + 1) (unread_bytes unread ++ more) clean))
      (sym (append-nil items));
  over = λ not. absurd (not run);
}
passes old unread (Good item) run reads = λ bytes came items s. record {
  count = s.count;
  ended = s.ended;
  fits = s.fits;
  running = λ _ more clean may.
      s.running run more clean may
      ∙ ap (after items) (reads (old.lines + 1) more clean may (λ bad. cc))
      ∙ after-cons items item (reading_from old.flow (old.lines + 1 + 1) (unread_bytes unread ++ more) clean);
  over = λ not. absurd (not run);
}
passes old unread (Bad cause) run reads = λ bytes came items s.
    let is = reading_now old bytes came items s run
    ∙ ap (after items) (reads (old.lines + 1) [] came (may_end old.feed came s.ended) (λ bad. refl)) in
    record {
      count = s.count;
      ended = s.ended;
      fits = s.fits;
      running = λ runs. cc;
      over = λ not. record {
        all = ap (λ r. r.items) is;
        verdict = ap (λ r. verdict_read old.limit (length bytes) r.ending) (sym is);
        stopped = λ cut. absurd (bad_not_cut cause (Line (old.lines + 1)) (sym (ap (λ r. r.ending) is) ∙ cut));
      };
    }

-- a reader that passed the line which came off gave its item
pub gave_passed : (old mid : ReaderValue) (value : LineValue) → old.verdict ≡ Running → TakesLine old mid value →
    GaveItems old (passed value mid) (items_in value)
gave_passed old mid value run takes =
    subst (λ r. GaveItems old (passed value r) (items_in value)) (sym takes.same)
    (passes old mid.unread value run takes.reads)

-- a reader without a line left has its verdict
settles : (old : ReaderValue) (unread : UnreadValue) → old.verdict ≡ Running →
    unread_bytes unread ≡ unread_bytes old.unread →
    HasNoNewline (unread_bytes old.unread) → is_line (reached_end old.feed) (unread_bytes old.unread) ≡ false →
    GaveItems old (record old { unread = unread; verdict = verdict_after old.feed }) []
settles old unread run same free none = λ bytes came items s.
    let last : reading_from old.flow (old.lines + 1) (unread_bytes old.unread ++ []) came ≡ only (ending_of came) =
    rw (append-nil (unread_bytes old.unread), s.ended)
    (reading_from-none old.flow (old.lines + 1) (unread_bytes old.unread) (reached_end old.feed) free none) in
    let is = reading_now old bytes came items s run ∙ ap (after items) last in
    record {
      count = s.count;
      ended = s.ended;
      fits = s.fits;
      running = λ _ more clean may. rw (append-nil items, same) (s.running run more clean may);
      over = λ not. record {
        all = ap (λ r. r.items) is;
        verdict = verdict_settled old.feed old.limit (length bytes) not s.fits
            ∙ ap (λ end. verdict_read old.limit (length bytes) (ending_of end)) (sym s.ended)
            ∙ ap (λ r. verdict_read old.limit (length bytes) r.ending) (sym is);
        stopped = λ cut still. not (ap verdict_after still);
      };
    }

-- no byte was read, so all stands
keeps : (old : ReaderValue) (unread : UnreadValue) → unread_bytes unread ≡ unread_bytes old.unread →
    GaveItems old (record old { unread = unread }) []
keeps old unread same = λ bytes came items s. record {
  count = s.count;
  ended = s.ended;
  fits = s.fits;
  running = λ run more clean may. rw (append-nil items, same) (s.running run more clean may);
  over = λ not. record {
    all = rw (append-nil items) (s.over not).all;
    verdict = (s.over not).verdict;
    stopped = (s.over not).stopped;
  };
}

-- a reader that read no byte stands for what it stood for
pub gave_none : (old new : ReaderValue) → SameRest old new → GaveItems old new []
gave_none old new rest =
    subst (λ r. GaveItems old r []) (sym rest.same) (keeps old new.unread rest.rest)

-- what holds anyway holds after an error
pub OnErr-always : {T E Q : Type 0} (r : Result T E) → Q → OnErr r Q
OnErr-always {Q = Q} r q = elim r as (λ r. OnErr r Q) [ Ok x ↦ tt | Err e ↦ q ]

-- a reader without a line left gives its verdict
pub gave_verdict : (old mid new : ReaderValue) → old.verdict ≡ Running → HasNoLine old mid →
    new ≡ record mid { verdict = verdict_after mid.feed } → GaveItems old new []
gave_verdict old mid new run last is =
    let feed : reached_end old.feed ≡ reached_end mid.feed = ap (λ r. reached_end r.feed) (sym last.same) in
    let none : is_line (reached_end old.feed) (unread_bytes old.unread) ≡ false =
    ap (λ clean. is_line clean (unread_bytes old.unread)) feed
    ∙ ap (is_line (reached_end mid.feed)) (sym last.held)
    ∙ last.none in
    subst (λ r. GaveItems old r []) (sym (settled_is old mid new last is))
    (settles old mid.unread run (held_all old mid last) (subst HasNoNewline last.held last.kept.unended) none)

-- items given one after another
pub gave_more : (old mid new : ReaderValue) (first more : List ItemValue) → GaveItems old mid first →
    GaveItems mid new more → GaveItems old new (first ++ more)
gave_more old mid new first more one two = λ bytes came items s.
    subst (λ all. Stands new bytes came all) (append_assoc items first more)
    (two bytes came (items ++ first) (one bytes came items s))

-- a reader that passed a line after others without an item gave its items
pub gave_line : (first old mid new : ReaderValue) (value : LineValue) (items : List ItemValue) →
    old.verdict ≡ Running → GaveItems first old [] → TakesLine old mid value → new ≡ passed value mid →
    items_in value ≡ items → GaveItems first new items
gave_line first old mid new value items run gave takes is says =
    gave_more first old new [] items gave
    (subst (λ r. GaveItems old r items) (sym is)
    (subst (λ more. GaveItems old (passed value mid) more) says (gave_passed old mid value run takes)))

-- a verdict is running or not
pub runs_or_not : (verdict : Verdict) → (verdict ≡ Running) ⊎ (verdict ≡ Running → ⊥)
runs_or_not Running = inl refl
runs_or_not Clean = inr (λ e. cc)
runs_or_not Passed = inr (λ e. cc)
runs_or_not (Input cause spot) = inr (λ e. cc)
runs_or_not PastLimit = inr (λ e. cc)
runs_or_not Read = inr (λ e. cc)
runs_or_not Write = inr (λ e. cc)
runs_or_not Memory = inr (λ e. cc)

-- what a reader gave comes first in the items
pub gives_first : (r : ReaderValue) (bytes : List ℕ) (came : Bool) (items : List ItemValue) →
    Stands r bytes came items → IsPrefix items (reader_reading r bytes came).items
gives_first r bytes came items s =
    elim (runs_or_not r.verdict) as (λ _. IsPrefix items (reader_reading r bytes came).items) [
      | inl run ↦ record {
        rest = (reading_from r.flow (r.lines + 1) (unread_bytes r.unread ++ []) came).items;
        joined = ap (λ reading. reading.items) (reading_now r bytes came items s run);
      }
      | inr not ↦ record {
        rest = [];
        joined = (s.over not).all ∙ sym (append-nil items);
      }
    ]

-- a reader that wants a pull has given all items of the lines that came whole
pub gives_all : (r : ReaderValue) (bytes : List ℕ) (came : Bool) (items : List ItemValue) → Stands r bytes came items →
    WantsPull r → (reader_reading r bytes came).items ≡ items
gives_all r bytes came items s wants =
    let rest : unread_bytes r.unread ++ [] ≡ r.unread.held =
    append-nil (unread_bytes r.unread) ∙ ap (λ piece. r.unread.held ++ piece) wants.passed ∙ append-nil r.unread.held in
    let open_ : came ≡ false = s.ended ∙ ap reached_end wants.can.feeds in
    let none : reading_from r.flow (r.lines + 1) (unread_bytes r.unread ++ []) came ≡ only (ending_of false) =
    rw (rest, open_)
    (reading_from-none r.flow (r.lines + 1) r.unread.held false wants.holds.unended
    (is_line-open r.unread.held wants.holds.short)) in
    ap (λ reading. reading.items) (reading_now r bytes came items s wants.can.running ∙ ap (after items) none)
    ∙ append-nil items

-- what a reader gave is before the reading of what came
pub before_now : (r : ReaderValue) (bytes : List ℕ) (came : Bool) (items : List ItemValue) → Stands r bytes came items →
    IsBefore (record { items = items; end = Broken }) (stream_read (reader_reading r bytes came))
before_now r bytes came items s = record {
  items = gives_first r bytes came items s;
  done = λ done. let no : Broken ≡ Done = done in cc;
}

-- the first of bytes and more
take-parts : (n : ℕ) (bytes more : List ℕ) →
    take n (bytes ++ more) ≡ take n bytes ++ take (n - length bytes) more
take-parts n bytes more = by_test (nat_lt n (length bytes)) refl
  where
    by_test : (below : Bool) → nat_lt n (length bytes) ≡ below →
        take n (bytes ++ more) ≡ take n bytes ++ take (n - length bytes) more
    by_test false test = take-limit bytes more n (ltb-false n (length bytes) test)
    by_test true test =
        let none : n - length bytes ≡ 0 = omega (arith, ltb-true n (length bytes) test) in
        take-append-le n bytes more (omega (arith, ltb-true n (length bytes) test))
        ∙ sym (append-nil (take n bytes))
        ∙ ap (λ k. take n bytes ++ take k more) (sym none)

-- the reading of all that comes, by what came
reading-more : (r : ReaderValue) (bytes more : List ℕ) (clean : Bool) →
    reader_reading r (bytes ++ more) clean
    ≡ opl_reading r.flow (take r.limit bytes ++ take (r.limit - length bytes) more) clean
reading-more r bytes more clean = ap (λ all. opl_reading r.flow all clean) (take-parts r.limit bytes more)

-- what a reader gave is before the reading of all that comes
pub before_later : (r : ReaderValue) (bytes more : List ℕ) (items : List ItemValue) (clean : Bool) →
    Stands r bytes false items →
    IsBefore (record { items = items; end = Broken }) (stream_read (reader_reading r (bytes ++ more) clean))
before_later r bytes more items clean s =
    let first = gives_first r bytes false items s in
    let grows = opl_reading-prefix r.flow (take r.limit bytes) (take (r.limit - length bytes) more) clean in
    record {
      items = record {
        rest = first.rest ++ grows.items.rest;
        joined = ap (λ (reading : Reading). reading.items) (reading-more r bytes more clean) ∙ grows.items.joined
            ∙ ap (λ all. all ++ grows.items.rest) first.joined ∙ append_assoc items first.rest grows.items.rest;
      };
      done = λ done. let no : Broken ≡ Done = done in cc;
    }

-- the verdict of a wrong place is that of a reading that ends there
bad_by : (limit count : ℕ) (ending : Ending) (cause : Cause) (spot : Spot) →
    Input cause spot ≡ verdict_read limit count ending → ending ≡ BadAt cause spot
bad_by limit count Whole cause spot is = cc
bad_by limit count Cut cause spot is =
    cond_both (nat_lt limit count) PastLimit Read (λ v. Input cause spot ≡ v → Cut ≡ BadAt cause spot) (λ _ e. cc)
    (λ _ e. cc) is
bad_by limit count (BadAt other place) cause spot is = cc

-- after a bad line more bytes change nothing
pub bad_stays : (r : ReaderValue) (bytes more : List ℕ) (items : List ItemValue) (clean : Bool) (cause : Cause)
    (spot : Spot) → Stands r bytes false items → r.verdict ≡ Input cause spot →
    reader_reading r (bytes ++ more) clean ≡ reader_reading r bytes false
bad_stays r bytes more items clean cause spot s is =
    let over = s.over (λ run. let same : Input cause spot ≡ Running = sym is ∙ run in cc) in
    reading-more r bytes more clean
    ∙ opl_reading-settled r.flow (take r.limit bytes) (take (r.limit - length bytes) more) clean cause spot
    (bad_by r.limit (length bytes) (reader_reading r bytes false).ending cause spot (sym is ∙ over.verdict))
