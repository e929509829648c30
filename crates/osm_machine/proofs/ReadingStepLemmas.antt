-- What each call of the machine that reads a file keeps.
use Rattle.std.proofs.Common.{◌≡◌, ℕ, ◌+◌, ◌-◌, ◌^◌, ◌<◌, ◌≤◌, List, [], ◌∷◌, ◌++◌, length, map, false, refl, sym, ap, subst, ◌∙◌, arith}
use Rattle.std.specs.Prelude.{◌==◌, ◌||◌, nat_lt, Result, Ok, Err, OnOk, OnErr, ⊤}
use Rattle.std.proofs.Math.Bool.{or-true}
use Rattle.std.proofs.lemmas.Bool.{ne_eqb, lt-ltb, le-ltb}
use Rattle.std.proofs.lemmas.List.{append-nil, length-append, map-append}
use Rattle.osm_entity.specs.Calls.{Gives, Pulls, StopsInGive, StopsInPull}
use Rattle.osm_entity.specs.Items.{ItemValue}
use Rattle.osm_entity.specs.Machines.{Given, IsNew, IsSameTask, IsStopped, with_piece}
use Rattle.osm_entity.specs.Ports.{Ports, fixed}
use Rattle.osm_entity.specs.declared.sequence.NoMemory.{NoMemory}
use Rattle.osm_entity.specs.declared.stream.Message.{Message}
use Rattle.osm_entity.specs.declared.stream.Message.TheVariants.{Item as One, End as Last}
use Rattle.osm_entity.specs.declared.stream.Want.TheVariants.{Give, Pull}
use Rattle.osm_entity.specs.declared.verdict.Verdict.TheVariants.{Read, Memory}
use Rattle.osm_host.specs.Counts.{raised}
use Rattle.osm_host.specs.Feeds.{FaultsOfPull, FitsFeed, reached_end}
use Rattle.osm_host.specs.Pulls.{FeedValue, FitsPull, PulledOnce, SourceValue}
use Rattle.osm_host.specs.declared.feed.Feed.{Feed}
use Rattle.osm_host.specs.declared.feed.Feed.TheVariants.{Open, Ended, Failed, TooLong}
use Rattle.osm_host.proofs.FeedLemmas.{given_is, reached_end-true}
use Rattle.osm_host.proofs.PullLemmas.{source_gave-more, source_gave-nil}
use Rattle.osm_machine.specs.Devices.{SourceStands}
use Rattle.osm_machine.specs.Reading.{HasRead, IsReady, KeepsReading, ReadingStands, ReadingValue, are_pulls_over, end_judged, is_closed, pulls_left, reading, reading_left, reading_verdict, reading_wants, ready_items, ready_left}
use Rattle.osm_machine.specs.ReadingFiles.{FileGave, FileStands, FileWants, HasGiven, IsSameFile, file_fed, file_format, file_verdict}
use Rattle.osm_machine.specs.ReadingFormats.{reader_task}
use Rattle.osm_machine.specs.ReadingSteps.{AskedReader}
use Rattle.osm_machine.specs.declared.reader.FileReader.{FileReader}
use Rattle.osm_machine.specs.declared.ready.Ready.{Ready}
use Rattle.osm_machine.specs.declared.ready.Ready.TheVariants.{Next, Nothing, AtTheEnd, Closed, Stopped}
use Rattle.osm_machine.proofs.ReadingFileLemmas.{file-few, file_fed_by, file_open}
use Rattle.osm_machine.proofs.ReadingLaws.{given_by, unended_behind}

-- ---- one item more

-- what a reader gave of bytes for which it stands
pub given_more : (old new : FileReader) (made : ℕ) (more : List ItemValue) → HasGiven old made →
    FileGave old new more → (file_fed new).limit ≡ (file_fed old).limit → HasGiven new (made + length more)
given_more old new made more given gave limit = record {
  bytes = given.bytes;
  came = given.came;
  items = given.items ++ more;
  stands = gave given.bytes given.came given.items given.stands;
  counted = ap (λ n. n + length more) given.counted ∙ sym (length-append given.items more);
  sized = rw limit given.sized;
}

-- no more items are given than the limit of bytes
pub given_few : (r : FileReader) (made : ℕ) → HasGiven r made → (made ≤ (file_fed r).limit) × ((file_fed r).limit < 2 ^ 64)
given_few r made given =
    (omega (arith, given.counted, file-few r given.bytes given.came given.items given.stands), given.sized)

-- ---- a pull

-- a pull is the last where it brought no byte or passed the limit
over_by : (feed : Feed) (limit room : ℕ) (bytes piece : List ℕ) → FitsPull feed room piece →
    room ≡ limit - length bytes → length bytes ≤ limit →
    ((length piece == 0) || nat_lt limit (length (bytes ++ piece))) ≡ are_pulls_over feed
over_by Open limit room bytes piece fits is within =
    rw (
      ne_eqb (length piece) 0 (λ none. omega (arith, fits.0, none)),
      le-ltb limit (length (bytes ++ piece))
          (omega (arith, fits.1, is, within, length-append bytes piece)),
    ) refl
over_by Ended limit room bytes piece fits is within = rw fits refl
over_by Failed limit room bytes piece fits is within = rw fits refl
over_by TooLong limit room bytes piece fits is within =
    rw (lt-ltb limit (length (bytes ++ piece)) (omega (arith, fits, is, within, length-append bytes piece)))
    (or-true (length piece == 0))

-- what a machine that has no item ready stands for
unready : (m : ReadingValue) (items : List ItemValue) (given : Given ReadingValue) → ready_items m.ready ≡ [] →
    HasRead m items given → FileStands m.reader given.bytes given.came items
unready m items given none read =
    subst (FileStands m.reader given.bytes given.came) (ap (λ more. items ++ more) none ∙ append-nil items) read.stands

-- a machine asked its reader
pub record AskedThen (old new : ReadingValue) : Type 0 where
  pub reader : AskedReader old.reader new.reader old.made new.made new.ready
  pub source : new.source ≡ old.source

-- a machine that asked its reader has read as far as before
asked_read : (old new : ReadingValue) (items : List ItemValue) (given : Given ReadingValue) → ready_items old.ready ≡ [] →
    AskedThen old new → HasRead old items given → HasRead new items given
asked_read old new items given none asked read = record {
  stands = asked.reader.gave given.bytes given.came items (unready old items given none read);
  over = read.over ∙ ap (λ (fed : FeedValue). are_pulls_over fed.feed) (sym asked.reader.fed);
  source = subst (λ now. SourceStands given.made.source now given.bytes given.came) (sym asked.source) read.source;
  faults = rw (asked.reader.fed, asked.source) read.faults;
  few = rw asked.reader.fed read.few;
}

-- a machine that pulled has read what came
pulled_read : (old mid : ReadingValue) (items : List ItemValue) (given : Given ReadingValue) →
    ready_items old.ready ≡ [] → ready_items mid.ready ≡ [] → FileWants old.reader → (file_fed old.reader).limit < 2 ^ 64 →
    IsSameFile old.reader mid.reader →
    (pull : PulledOnce file_fed FileStands old.source.value mid.source.value old.reader mid.reader) →
    HasRead old items given →
    HasRead mid items
    (with_piece (file_fed old.reader).limit pull.bytes (reached_end (file_fed mid.reader).feed) given)
pulled_read old mid items given none none_then wants sized same pull read =
    let stood : FileStands old.reader given.bytes given.came items = unready old items given none read in
    let fits = file_fed_by old.reader given.bytes given.came items stood in
    let open_ : (file_fed old.reader).feed ≡ Open = (file_open old.reader wants).1 in
    let unended : given.came ≡ false = fits.clean ∙ ap reached_end open_ in
    let within : length given.bytes ≤ (file_fed old.reader).limit =
    subst (λ feed. FitsFeed feed (file_fed old.reader).limit (length given.bytes)) open_ fits.fits in
    let count : (file_fed old.reader).given ≡ length given.bytes =
    given_is (file_fed old.reader).given (file_fed old.reader).limit given.bytes fits.counted
    (omega (arith, fits.counted, within)) sized within in
    let calm : old.source.value.faults ≡ given.made.source.value.faults =
    subst (λ feed. FaultsOfPull feed given.made.source.value.faults old.source.value.faults) open_ read.faults in
    record {
      stands = subst (FileStands mid.reader (given.bytes ++ pull.bytes) (reached_end (file_fed mid.reader).feed))
          (sym (ap (λ more. items ++ more) none_then ∙ append-nil items))
          (pull.stands given.bytes items (subst (λ came. FileStands old.reader given.bytes came items) unended stood));
      over = over_by (file_fed mid.reader).feed (file_fed old.reader).limit
          ((file_fed old.reader).limit - (file_fed old.reader).given) given.bytes pull.bytes pull.gave.fits
          (ap (λ n. (file_fed old.reader).limit - n) count) within;
      source = record {
        gave = source_gave-more given.made.source.value old.source.value mid.source.value given.bytes pull.bytes
            read.source.gave pull.gave.source;
        ended = λ came. pull.gave.ended (reached_end-true (file_fed mid.reader).feed came);
        calm = λ came. subst (λ feed. FaultsOfPull feed old.source.value.faults mid.source.value.faults)
            (reached_end-true (file_fed mid.reader).feed came) pull.gave.faults ∙ calm;
      };
      faults = subst (λ before. FaultsOfPull (file_fed mid.reader).feed before mid.source.value.faults) calm
          pull.gave.faults;
      few = omega (arith, within, pull.gave.small, length-append given.bytes pull.bytes, same.limit);
    }

-- what a reader gave stays of bytes for which it stands, after a pull
pub given_pulled : (old mid : FileReader) (made : ℕ) (before now : SourceValue) → FileWants old → HasGiven old made →
    PulledOnce file_fed FileStands before now old mid → IsSameFile old mid → HasGiven mid made
given_pulled old mid made before now wants given pull same =
    let unended : given.came ≡ false =
    (file_fed_by old given.bytes given.came given.items given.stands).clean
    ∙ ap reached_end (file_open old wants).1 in
    record {
      bytes = given.bytes ++ pull.bytes;
      came = reached_end (file_fed mid).feed;
      items = given.items;
      stands = pull.stands given.bytes given.items
          (subst (λ came. FileStands old given.bytes came given.items) unended given.stands);
      counted = given.counted;
      sized = rw same.limit given.sized;
    }

-- ---- what is left to do

ready_few : (ready : Ready) → ready_left ready ≤ 1 + length (ready_items ready)
ready_few (Next item) = omega arith
ready_few Nothing = omega arith
ready_few AtTheEnd = omega arith
ready_few Closed = omega arith
ready_few Stopped = omega arith

-- a pull leaves fewer pulls
pulls_fall : (feed : Feed) (limit given now : ℕ) (piece : List ℕ) → FitsPull feed (limit - given) piece →
    now ≡ raised given (length piece) → limit < 2 ^ 64 → pulls_left feed limit now < limit - given + 1
pulls_fall Open limit given now piece fits is sized = omega (arith, fits.0, fits.1, is, sized)
pulls_fall Ended limit given now piece fits is sized = omega arith
pulls_fall Failed limit given now piece fits is sized = omega arith
pulls_fall TooLong limit given now piece fits is sized = omega arith

-- asking a reader leaves no more to do than a machine with one thing ready
asked_left : (old new : ReadingValue) → AskedThen old new →
    reading_left new ≤ ((file_fed old.reader).limit - old.made)
    + pulls_left (file_fed old.reader).feed (file_fed old.reader).limit (file_fed old.reader).given + 1
asked_left old new asked =
    let left : reading_left new ≡ ((file_fed old.reader).limit - new.made)
    + pulls_left (file_fed old.reader).feed (file_fed old.reader).limit (file_fed old.reader).given
    + ready_left new.ready =
    ap (λ (fed : FeedValue).
    (fed.limit - new.made) + pulls_left fed.feed fed.limit fed.given + ready_left new.ready) asked.reader.fed in
    omega (
      arith,
      left,
      asked.reader.counted,
      ready_few new.ready,
      asked.reader.within,
      ap (λ (fed : FeedValue). fed.limit) asked.reader.fed,
    )

-- ---- the calls

-- a machine that reads a file of the same format, up to the same limit, is of the same task
pub same_task : (old new : ReadingValue) → IsSameFile old.reader new.reader → IsSameTask reading old new
same_task old new same =
    ap (λ format. reader_task format (file_fed new.reader).limit) same.format
    ∙ ap (λ limit. reader_task (file_format old.reader) limit) same.limit

-- of the same file as one of the same file
pub same_file : (old mid new : FileReader) → IsSameFile old mid → IsSameFile mid new → IsSameFile old new
same_file old mid new one two = record { format = two.format ∙ one.format; limit = two.limit ∙ one.limit }

-- a machine that is out of memory, and gave these items alone, has stopped
stopped_by : (m : ReadingValue) (x y : Ports) (given : Given ReadingValue) (items more : List ItemValue) →
    m.ready ≡ Stopped → y 0 ≡ fixed false (given_by m.reader items) → HasRead m (items ++ more) given →
    IsStopped reading m x y given
stopped_by m x y given items more is gave read =
    let memory : reading_verdict (file_verdict m.reader) m.ready ≡ Memory =
    ap (reading_verdict (file_verdict m.reader)) is in
    record {
      behind = unended_behind m x y given items more gave read
          (λ failed. absurd (let same : Memory ≡ Read = sym memory ∙ failed in cc));
      verdict = memory;
    }

-- what a machine gave before its end are items alone, whoever would end them
items_alone : (m : ReadingValue) (r : FileReader) (y : List Message) (given : Given ReadingValue) →
    is_closed m.ready ≡ false → (s : ReadingStands m y given) → y ≡ fixed false (given_by r s.items)
items_alone m r y given unclosed s = s.gave ∙ ap (λ closed. fixed closed (given_by m.reader s.items)) unclosed

-- a machine that has nothing ready was pulled, and asked its reader
pub record PulledAndAsked (old mid new : ReadingValue) : Type 0 where
  pub nothing : old.ready ≡ Nothing
  pub nothing_yet : mid.ready ≡ Nothing
  pub made : mid.made ≡ old.made
  pub wants : FileWants old.reader
  pub sized : (file_fed old.reader).limit < 2 ^ 64
  pub pull : PulledOnce file_fed FileStands old.source.value mid.source.value old.reader mid.reader
  pub same : IsSameFile old.reader mid.reader
  pub asked : AskedThen mid new

-- it has read what came
pulled_asked : (old mid new : ReadingValue) (steps : PulledAndAsked old mid new) (items : List ItemValue)
    (given : Given ReadingValue) → HasRead old items given →
    HasRead new items
    (with_piece (file_fed old.reader).limit steps.pull.bytes (reached_end (file_fed mid.reader).feed) given)
pulled_asked old mid new steps items given read =
    asked_read mid new items
    (with_piece (file_fed old.reader).limit steps.pull.bytes (reached_end (file_fed mid.reader).feed) given)
    (ap ready_items steps.nothing_yet) steps.asked
    (pulled_read old mid items given (ap ready_items steps.nothing) (ap ready_items steps.nothing_yet) steps.wants
    steps.sized steps.same steps.pull read)

pulled_left : (old mid new : ReadingValue) → PulledAndAsked old mid new → reading_left new < reading_left old
pulled_left old mid new steps =
    let fed : FeedValue = file_fed old.reader in
    let open_ : fed.feed ≡ Open = (file_open old.reader steps.wants).1 in
    let before : reading_left old ≡ (fed.limit - old.made) + (fed.limit - fed.given + 1) + 1 =
    ap (λ feed. (fed.limit - old.made) + pulls_left feed fed.limit fed.given + ready_left old.ready) open_
    ∙ ap (λ ready. (fed.limit - old.made) + (fed.limit - fed.given + 1) + ready_left ready) steps.nothing in
    let falls = pulls_fall (file_fed mid.reader).feed fed.limit fed.given (file_fed mid.reader).given steps.pull.bytes
    steps.pull.gave.fits steps.pull.gave.counted steps.sized in
    let same : pulls_left (file_fed mid.reader).feed (file_fed mid.reader).limit (file_fed mid.reader).given
    ≡ pulls_left (file_fed mid.reader).feed fed.limit (file_fed mid.reader).given =
    ap (λ limit. pulls_left (file_fed mid.reader).feed limit (file_fed mid.reader).given) steps.same.limit in
    omega (arith, before, falls, same, asked_left mid new steps.asked, steps.made, steps.same.limit)

-- a pull that found memory
pub reading_pulls : (old mid new : ReadingValue) → PulledAndAsked old mid new → IsReady new.reader new.ready →
    is_closed new.ready ≡ false → Pulls reading old new
reading_pulls old mid new steps ready unclosed = record {
  piece = steps.pull.bytes;
  came = reached_end (file_fed mid.reader).feed;
  stands = λ x y given s. record {
    items = s.items;
    gave = items_alone old new.reader (y 0) given (ap is_closed steps.nothing) s
        ∙ ap (λ closed. fixed closed (given_by new.reader s.items)) (sym unclosed);
    read = pulled_asked old mid new steps s.items given s.read;
    ready = ready;
  };
  left = pulled_left old mid new steps;
}

-- a pull that was out of memory
pub reading_stops_in_pull : (old mid new : ReadingValue) → PulledAndAsked old mid new → new.ready ≡ Stopped →
    StopsInPull reading old new
reading_stops_in_pull old mid new steps stopped = record {
  piece = steps.pull.bytes;
  came = reached_end (file_fed mid.reader).feed;
  stopped = λ x y given s. stopped_by new x y
      (with_piece (file_fed old.reader).limit steps.pull.bytes (reached_end (file_fed mid.reader).feed) given) s.items []
      stopped (items_alone old new.reader (y 0) given (ap is_closed steps.nothing) s)
      (subst
      (λ items. HasRead new items
      (with_piece (file_fed old.reader).limit steps.pull.bytes (reached_end (file_fed mid.reader).feed) given))
      (sym (append-nil s.items)) (pulled_asked old mid new steps s.items given s.read));
}

-- a machine gave the item that was ready, and asked its reader
pub record GaveAndAsked (item : ItemValue) (old mid new : ReadingValue) : Type 0 where
  pub next : old.ready ≡ Next item
  pub none : ready_items mid.ready ≡ []
  pub reader : mid.reader ≡ old.reader
  pub source : mid.source ≡ old.source
  pub made : mid.made ≡ old.made
  pub asked : AskedThen mid new

gave_asked : (item : ItemValue) (old mid new : ReadingValue) (items : List ItemValue) (given : Given ReadingValue) →
    GaveAndAsked item old mid new → HasRead old items given → HasRead new (items ++ item ∷ []) given
gave_asked item old mid new items given steps read =
    asked_read mid new (items ++ item ∷ []) given steps.none steps.asked
    (record {
      stands = rw (steps.reader, steps.none)
          (subst (FileStands old.reader given.bytes given.came)
          (ap (λ ready. items ++ ready_items ready) steps.next ∙ sym (append-nil (items ++ item ∷ []))) read.stands);
      over = read.over ∙ ap (λ r. are_pulls_over (file_fed r).feed) (sym steps.reader);
      source = rw steps.source read.source;
      faults = rw (steps.reader, steps.source) read.faults;
      few = rw steps.reader read.few;
    })

gave_item : (y : List Message) (old : ReadingValue) (r : FileReader) (item : ItemValue) (given : Given ReadingValue) →
    is_closed old.ready ≡ false → (s : ReadingStands old y given) →
    y ++ One item ∷ [] ≡ fixed false (given_by r (s.items ++ item ∷ []))
gave_item y old r item given unclosed s =
    ap (λ ms. ms ++ One item ∷ []) (items_alone old r y given unclosed s ∙ append-nil (map One s.items))
    ∙ sym (map-append One s.items (item ∷ [])) ∙ sym (append-nil (map One (s.items ++ item ∷ [])))

-- a hand that gave an item
pub reading_gives_item : (item : ItemValue) (old mid new : ReadingValue) → GaveAndAsked item old mid new →
    IsReady new.reader new.ready → is_closed new.ready ≡ false → Gives reading 0 (One item) old new
reading_gives_item item old mid new steps ready unclosed = record {
  stands = λ x y given s. record {
    items = s.items ++ item ∷ [];
    gave = gave_item (y 0) old new.reader item given (ap is_closed steps.next) s
        ∙ ap (λ closed. fixed closed (given_by new.reader (s.items ++ item ∷ []))) (sym unclosed);
    read = gave_asked item old mid new s.items given steps s.read;
    ready = ready;
  };
  left =
      let fed : FeedValue = file_fed old.reader in
      let before : reading_left old ≡ (fed.limit - old.made) + pulls_left fed.feed fed.limit fed.given + 2 =
      ap (λ ready. (fed.limit - old.made) + pulls_left fed.feed fed.limit fed.given + ready_left ready) steps.next in
      let now : ((file_fed mid.reader).limit - mid.made)
      + pulls_left (file_fed mid.reader).feed (file_fed mid.reader).limit (file_fed mid.reader).given + 1
      ≡ (fed.limit - old.made) + pulls_left fed.feed fed.limit fed.given + 1 =
      ap (λ r. ((file_fed r).limit - mid.made) + pulls_left (file_fed r).feed (file_fed r).limit (file_fed r).given + 1)
      steps.reader
      ∙ ap (λ made. (fed.limit - made) + pulls_left fed.feed fed.limit fed.given + 1) steps.made in
      omega (arith, before, now, asked_left mid new steps.asked);
}

-- a hand that was out of memory
pub reading_stops_in_hand : (item : ItemValue) (old mid new : ReadingValue) → GaveAndAsked item old mid new →
    new.ready ≡ Stopped → StopsInGive reading old new
reading_stops_in_hand item old mid new steps stopped x y given s =
    stopped_by new x y given s.items (item ∷ []) stopped
    (items_alone old new.reader (y 0) given (ap is_closed steps.next) s)
    (gave_asked item old mid new s.items given steps s.read)

-- a machine gave the end that was ready
pub record GaveEnd (old new : ReadingValue) : Type 0 where
  pub ready : old.ready ≡ AtTheEnd
  pub closed : new.ready ≡ Closed
  pub reader : new.reader ≡ old.reader
  pub source : new.source ≡ old.source
  pub made : new.made ≡ old.made

gave_end : (y : List Message) (old new : ReadingValue) (given : Given ReadingValue) → GaveEnd old new →
    (s : ReadingStands old y given) →
    y ++ Last (end_judged (file_verdict old.reader)) ∷ [] ≡ fixed (is_closed new.ready) (given_by new.reader s.items)
gave_end y old new given steps s =
    ap (λ ms. ms ++ Last (end_judged (file_verdict old.reader)) ∷ [])
    (items_alone old old.reader y given (ap is_closed steps.ready) s ∙ append-nil (map One s.items))
    ∙ ap (λ r. map One s.items ++ Last (end_judged (file_verdict r)) ∷ []) (sym steps.reader)
    ∙ ap (λ ready. fixed (is_closed ready) (given_by new.reader s.items)) (sym steps.closed)

-- a hand that gave the end
pub reading_gives_end : (old new : ReadingValue) → GaveEnd old new →
    Gives reading 0 (Last (end_judged (file_verdict old.reader))) old new
reading_gives_end old new steps = record {
  stands = λ x y given s. record {
    items = s.items;
    gave = gave_end (y 0) old new given steps s;
    read = record {
      stands = rw (steps.reader, steps.closed)
          (subst (FileStands old.reader given.bytes given.came)
          (ap (λ ready. s.items ++ ready_items ready) steps.ready) s.read.stands);
      over = s.read.over ∙ ap (λ r. are_pulls_over (file_fed r).feed) (sym steps.reader);
      source = rw steps.source s.read.source;
      faults = rw (steps.reader, steps.source) s.read.faults;
      few = rw steps.reader s.read.few;
    };
    ready = rw (steps.reader, steps.closed) (subst (IsReady old.reader) steps.ready s.ready);
  };
  left =
      let fed : FeedValue = file_fed old.reader in
      let before : reading_left old ≡ (fed.limit - old.made) + pulls_left fed.feed fed.limit fed.given + 1 =
      ap (λ ready. (fed.limit - old.made) + pulls_left fed.feed fed.limit fed.given + ready_left ready) steps.ready in
      let now : reading_left new ≡ (fed.limit - old.made) + pulls_left fed.feed fed.limit fed.given + 0 =
      ap (λ r. ((file_fed r).limit - new.made) + pulls_left (file_fed r).feed (file_fed r).limit (file_fed r).given
      + ready_left new.ready) steps.reader
      ∙ ap (λ made. (fed.limit - made) + pulls_left fed.feed fed.limit fed.given + ready_left new.ready) steps.made
      ∙ ap (λ ready. (fed.limit - old.made) + pulls_left fed.feed fed.limit fed.given + ready_left ready) steps.closed in
      omega (arith, before, now);
}

-- a machine that is just made
pub reading_is_new : (m : ReadingValue) → m.ready ≡ Nothing → FileStands m.reader [] false [] → FileWants m.reader →
    IsNew reading m
reading_is_new m is stands wants = record {
  items = [];
  gave = rw is refl;
  read = record {
    stands = rw is stands;
    over = ap are_pulls_over (sym (file_open m.reader wants).1);
    source = record {
      gave = source_gave-nil m.source.value;
      ended = λ came. cc;
      calm = λ came. refl;
    };
    faults = rw (file_open m.reader wants).1 refl;
    few = omega arith;
  };
  ready = rw is wants;
}

port_is : (ready : Ready) (port : ℕ) → reading_wants ready ≡ Give port → 0 ≡ port
port_is (Next item) port is = cc
port_is Nothing port is = cc
port_is AtTheEnd port is = cc
port_is Closed port is = cc
port_is Stopped port is = cc

-- the port to which it gives
pub reading_port : (m : ReadingValue) (port : ℕ) → reading.wanted m ≡ Give port → 0 ≡ port
reading_port m port is = port_is m.ready port is

nothing_by : (ready : Ready) → reading_wants ready ≡ Pull → ready ≡ Nothing
nothing_by (Next item) is = cc
nothing_by Nothing is = refl
nothing_by AtTheEnd is = cc
nothing_by Closed is = cc
nothing_by Stopped is = cc

-- where it wants a pull it has nothing ready
pub reading_nothing : (m : ReadingValue) → reading.wanted m ≡ Pull → m.ready ≡ Nothing
reading_nothing m is = nothing_by m.ready is

-- a reader that was asked gave these items
pub asked_by : (old new : FileReader) (made now : ℕ) (ready : Ready) (more : List ItemValue) → ready_items ready ≡ more →
    FileGave old new more → IsSameFile old new → file_fed new ≡ file_fed old → HasGiven old made →
    now ≡ made + length more → AskedReader old new made now ready
asked_by old new made now ready more is gave same fed given counted = record {
  gave = rw is gave;
  counted = counted ∙ ap (λ items. made + length items) (sym is);
  within = rw counted (given_few new (made + length more) (given_more old new made more given gave same.limit)).0;
  same = same;
  fed = fed;
}

-- a machine whose reader was asked keeps what it keeps
pub keeps_asked : (old new : FileReader) (made now : ℕ) (ready : Ready) → HasGiven old made →
    AskedReader old new made now ready → (ready ≡ Nothing → IsReady new ready) → KeepsReading new now ready
keeps_asked old new made now ready given asked may = record {
  given = rw asked.counted (given_more old new made (ready_items ready) given asked.gave asked.same.limit);
  wants = λ is. subst (IsReady new) is (may is);
}

-- what is so after an answer gives what is so after it
pub on_ok : {T E : Type 0} {P Q : Type 0} (r : Result T E) → (P → Q) → OnOk r P → OnOk r Q
on_ok (Ok x) more is = more is
on_ok (Err e) more is = tt

-- the same after a refusal
pub on_err : {T E : Type 0} {P Q : Type 0} (r : Result T E) → (P → Q) → OnErr r P → OnErr r Q
on_err (Ok x) more is = tt
on_err (Err e) more is = more is

-- what is ready fits where there was memory, and else nothing is
pub ready_or_stopped : (answer : Result ⊤ NoMemory) (r : FileReader) (ready : Ready) → OnOk answer (IsReady r ready) →
    OnErr answer (ready ≡ Stopped) → ready ≡ Nothing → IsReady r ready
ready_or_stopped (Ok x) r ready fits stopped is = fits
ready_or_stopped (Err e) r ready fits stopped is = absurd (let same : Nothing ≡ Stopped = sym is ∙ stopped in cc)
