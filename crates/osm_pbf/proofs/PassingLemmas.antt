-- How a PBF reader passes items, frames and pieces.
use Rattle.std.proofs.Common.{◌≡◌, ℕ, ◌+◌, ◌<◌, ◌≤◌, List, [], ◌∷◌, ◌++◌, length, drop, Bool, true, false, refl, sym, ap, ◌∙◌, subst, arith, append_assoc, append-nil}
use Rattle.std.specs.Prelude.{◌≢◌, None, Ok, Err, OnOk, OnErr}
use Rattle.std.specs.declared.result.Result.{Result}
use Rattle.std.proofs.lemmas.List.{drop-append-le, length-append, length-drop}
use Rattle.osm_entity.specs.Items.{ItemValue}
use Rattle.osm_entity.specs.Readings.{Reading, after}
use Rattle.osm_entity.specs.declared.sequence.NoMemory.{NoMemory}
use Rattle.osm_entity.specs.declared.verdict.Cause.{Cause}
use Rattle.osm_entity.specs.declared.verdict.Spot.TheVariants.{Blob}
use Rattle.osm_blob.specs.Blobs.{BlobsValue, RefusedFrame, TookFrame, blobs_passed}
use Rattle.osm_blob.specs.Leading.{Short, Whole as IsWhole, Faulty, leading_frame}
use Rattle.osm_blob.specs.Frames.{next_start}
use Rattle.osm_blob.specs.declared.messages.What.{What}
use Rattle.osm_blob.specs.declared.reading.Frame.{Frame}
use Rattle.osm_blob.proofs.LeadingLemmas.{leading_frame-size, leading_frame-stays}
use Rattle.osm_pbf.specs.Reader.{IsPbfReader, PbfReaderValue, SamePbfSource, pbf_reading_left, pbf_unread}
use Rattle.osm_pbf.specs.Reading.{blob_spot, frame_said, header_came, pbf_reading_from, said_before}
use Rattle.osm_pbf.specs.Steps.{AnswersStep, PassedItems, StepsOn, one_while_good, pbf_handed, pbf_passed, pbf_refused, pbf_work_left}
use Rattle.osm_pbf.proofs.ReadingLemmas.{pbf_reading_from-bad, pbf_reading_from-whole}

-- a PBF reader with another reader of frames
abbrev pub with_blobs : BlobsValue → PbfReaderValue → PbfReaderValue
with_blobs blobs r = record r { blobs = blobs }

-- a PBF reader that says something else of the frame in hand
abbrev pub with_said : Result (List ItemValue) Cause → PbfReaderValue → PbfReaderValue
with_said said r = record r { said = said }

-- items before items before a reading
pub after-after : (a b : List ItemValue) (r : Reading) → after a (after b r) ≡ after (a ++ b) r
after-after a b r =
    ap (λ all. let x : Reading = record { items = all; ending = r.ending } in x) (sym (append_assoc a b r.items))

-- what stays, stays on
pub same_more : (a b c : PbfReaderValue) → SamePbfSource a b → SamePbfSource b c → SamePbfSource a c
same_more a b c one two = record {
  limit = two.limit ∙ one.limit;
  given = two.given ∙ one.given;
  feed = two.feed ∙ one.feed;
  left = omega (arith, one.left, two.left);
}

-- a reader that did nothing passed no item
pub passed_none : (r : PbfReaderValue) → PassedItems r r []
passed_none r = record {
  same = record { limit = refl; given = refl; feed = refl; left = omega arith };
  verdict = refl;
  reads = λ more clean. refl;
}

-- items that were passed one after another
pub passed_more : (a b c : PbfReaderValue) (first more : List ItemValue) → PassedItems a b first →
    PassedItems b c more → PassedItems a c (first ++ more)
passed_more a b c first more one two = record {
  same = same_more a b c one.same two.same;
  verdict = two.verdict ∙ one.verdict;
  reads = λ rest clean.
      one.reads rest clean
      ∙ ap (after first) (two.reads rest clean)
      ∙ after-after first more (pbf_reading_left c rest clean);
}

-- the next item of the frame in hand was passed
passed_one : (r : PbfReaderValue) (item : ItemValue) (rest : List ItemValue) → r.said ≡ Ok (item ∷ rest) →
    PassedItems r (with_said (Ok rest) r) (item ∷ [])
passed_one r item rest is = record {
  same = record { limit = refl; given = refl; feed = refl; left = omega arith };
  verdict = refl;
  reads = λ more clean.
      ap (λ said. said_before r.spot said (pbf_reading_from r.came r.blobs.next (pbf_unread r ++ more) clean)) is;
}

-- the same, by what is known of it
pub passed_item : (old new : PbfReaderValue) (item : ItemValue) (rest : List ItemValue) → old.said ≡ Ok (item ∷ rest) →
    new.said ≡ Ok rest → new ≡ with_said new.said old → PassedItems old new (item ∷ [])
passed_item old new item rest is then_ same =
    subst (λ r. PassedItems old r (item ∷ [])) (sym (same ∙ ap (λ said. with_said said old) then_))
    (passed_one old item rest is)

-- a frame that says what it said
pub passed_nothing : (old new : PbfReaderValue) → new.said ≡ old.said → new ≡ with_said new.said old →
    PassedItems old new []
passed_nothing old new also same =
    subst (λ r. PassedItems old r []) (sym (same ∙ ap (λ said. with_said said old) also)) (passed_none old)

-- a reader that holds the same bytes
pub passed_same : (r : PbfReaderValue) (blobs : BlobsValue) → blobs.next ≡ r.blobs.next →
    blobs.unread ≡ r.blobs.unread → PassedItems r (with_blobs blobs r) []
passed_same r blobs next unread = record {
  same = record {
    limit = refl;
    given = refl;
    feed = refl;
    left = omega (arith, ap (λ u. length (u ++ r.piece)) unread);
  };
  verdict = refl;
  reads = λ more clean.
      ap (λ u. said_before r.spot r.said (pbf_reading_from r.came r.blobs.next ((u ++ r.piece) ++ more) clean))
      (sym unread)
      ∙ ap
      (λ next. said_before r.spot r.said (pbf_reading_from r.came next ((blobs.unread ++ r.piece) ++ more) clean))
      (sym next);
}

-- a reader that handed its piece over holds the same bytes
pub passed_handed : (r : PbfReaderValue) → PassedItems r (pbf_handed r) []
passed_handed r = record {
  same = record {
    limit = refl;
    given = refl;
    feed = refl;
    left = omega (arith, ap length (append-nil (pbf_unread r)));
  };
  verdict = refl;
  reads = λ more clean.
      ap (λ all. said_before r.spot r.said (pbf_reading_from r.came r.blobs.next (all ++ more) clean))
      (sym (append-nil (pbf_unread r)));
}

-- what the frame in hand says no more
said_none : (r : PbfReaderValue) (more : List ℕ) (clean : Bool) → r.said ≡ Ok [] →
    pbf_reading_left r more clean ≡ pbf_reading_from r.came r.blobs.next (r.blobs.unread ++ (r.piece ++ more)) clean
said_none r more clean none =
    ap (λ said. said_before r.spot said (pbf_reading_from r.came r.blobs.next (pbf_unread r ++ more) clean)) none
    ∙ ap (λ all. pbf_reading_from r.came r.blobs.next all clean) (append_assoc r.blobs.unread r.piece more)

-- a reader that took a whole frame in hand
frame_taken : (r : PbfReaderValue) (what : What) (raw : List ℕ) (size : ℕ) → r.said ≡ Ok [] →
    leading_frame r.blobs.unread ≡ IsWhole what raw size →
    PassedItems r
    (record r {
      blobs = blobs_passed size r.blobs;
      came = header_came r.came what;
      spot = blob_spot r.blobs.next;
      said = frame_said r.came what raw;
    }) []
frame_taken r what raw size none is =
    let u = r.blobs.unread in
    let fits = leading_frame-size u what raw size is in
    let told : leading_frame u ≢ Short = λ short. let same : IsWhole what raw size ≡ Short = sym is ∙ short in cc in
    record {
      same = record {
        limit = refl;
        given = refl;
        feed = refl;
        left = omega (
          arith,
          length-append (drop size u) r.piece,
          length-append u r.piece,
          length-drop size u,
        );
      };
      verdict = refl;
      reads = λ more clean.
          said_none r more clean none
          ∙ pbf_reading_from-whole r.came r.blobs.next (u ++ (r.piece ++ more)) clean what raw size
          (leading_frame-stays u (r.piece ++ more) told ∙ is)
          ∙ ap
          (λ all. said_before (blob_spot r.blobs.next) (frame_said r.came what raw)
          (pbf_reading_from (header_came r.came what) (next_start r.blobs.next size) all clean))
          (drop-append-le size u (r.piece ++ more) fits.1 ∙ sym (append_assoc (drop size u) r.piece more));
    }

-- the same, by what is known of it
pub passed_frame : (old new : PbfReaderValue) (blobs : BlobsValue) (frame : Frame) → old.said ≡ Ok [] →
    TookFrame old.blobs blobs frame → new ≡ pbf_passed frame (with_blobs blobs old) → PassedItems old new []
passed_frame old new blobs frame none took is =
    let spot : Blob frame.number frame.byte ≡ blob_spot old.blobs.next =
    ap (λ (f : Frame). Blob f.number f.byte) took.placed in
    subst (λ r. PassedItems old r [])
    (sym
    (is
    ∙ ap (λ b. pbf_passed frame (with_blobs b old)) took.passes
    ∙ ap
    (λ at. let r : PbfReaderValue = record old {
      blobs = blobs_passed took.size old.blobs;
      came = header_came old.came frame.what;
      spot = at;
      said = frame_said old.came frame.what frame.raw;
    } in r) spot))
    (frame_taken old frame.what frame.raw took.size none took.leading)

-- a reader that has a bad frame in hand
pub passed_refused : (old new : PbfReaderValue) (blobs : BlobsValue) (cause : Cause) → old.said ≡ Ok [] →
    RefusedFrame old.blobs blobs cause → new ≡ pbf_refused cause (with_blobs blobs old) → PassedItems old new []
passed_refused old new blobs cause none refused is =
    let u = old.blobs.unread in
    let told : leading_frame u ≢ Short =
    λ short. let same : Faulty cause blobs.blamed ≡ Short = sym refused.leading ∙ short in cc in
    subst (λ r. PassedItems old r [])
    (sym (is ∙ ap (λ b. pbf_refused cause (with_blobs b old)) refused.same))
    (record {
      same = record { limit = refl; given = refl; feed = refl; left = omega arith };
      verdict = refl;
      reads = λ more clean.
          said_none old more clean none
          ∙ pbf_reading_from-bad old.came old.blobs.next (u ++ (old.piece ++ more)) clean cause blobs.blamed
          (leading_frame-stays u (old.piece ++ more) told ∙ refused.leading);
    })

-- the frame in hand is good for at most one
good_or_bad : (said : Result (List ItemValue) Cause) → one_while_good said ≤ 1
good_or_bad (Ok items) = omega arith
good_or_bad (Err cause) = omega arith

-- a reader that passed a frame keeps what readers keep
pub reader_passed : (r : PbfReaderValue) (blobs : BlobsValue) (frame : Frame) → IsPbfReader r →
    TookFrame r.blobs blobs frame → IsPbfReader (with_blobs blobs r)
reader_passed r blobs frame kept took =
    let fits = leading_frame-size r.blobs.unread frame.what frame.raw took.size took.leading in
    let size : (blobs_passed took.size r.blobs).next.byte
    + length ((blobs_passed took.size r.blobs).unread ++ r.piece)
    ≡ r.blobs.next.byte + length (pbf_unread r) =
    omega (
      arith,
      length-append (drop took.size r.blobs.unread) r.piece,
      length-append r.blobs.unread r.piece,
      length-drop took.size r.blobs.unread,
      fits.1,
    ) in
    subst (λ b. IsPbfReader (with_blobs b r)) (sym took.passes)
    (record {
      sized = kept.sized;
      limited = omega (arith, size, kept.limited);
      counted = omega (arith, size, kept.counted);
      within = kept.within;
    })

-- a reader that took a frame has less to do
pub steps_frame : (old new : PbfReaderValue) (blobs : BlobsValue) (frame : Frame) → old.said ≡ Ok [] →
    TookFrame old.blobs blobs frame → new ≡ pbf_passed frame (with_blobs blobs old) → StepsOn old new
steps_frame old new blobs frame none took is =
    let fits = leading_frame-size old.blobs.unread frame.what frame.raw took.size took.leading in
    record {
      passes = passed_frame old new blobs frame none took is;
      falls = omega (
        arith,
        ap pbf_work_left is,
        good_or_bad (frame_said old.came frame.what frame.raw),
        ap one_while_good none,
        ap (λ b. length b.unread) took.passes,
        length-drop took.size old.blobs.unread,
        fits.0,
        fits.1,
      );
    }

-- a reader that has a bad frame in hand has less to do
pub steps_refused : (old new : PbfReaderValue) (blobs : BlobsValue) (cause : Cause) → old.said ≡ Ok [] →
    RefusedFrame old.blobs blobs cause → new ≡ pbf_refused cause (with_blobs blobs old) → StepsOn old new
steps_refused old new blobs cause none refused is = record {
  passes = passed_refused old new blobs cause none refused is;
  falls = omega (
    arith,
    ap pbf_work_left is,
    ap one_while_good none,
    ap (λ b. length b.unread) refused.same,
  );
}

-- a reader that handed its piece over, or had none
pub steps_piece : (old mid new : PbfReaderValue) (result : Result Bool NoMemory) → old.said ≡ Ok [] →
    leading_frame old.blobs.unread ≡ Short → mid ≡ with_blobs (record old.blobs { blamed = None }) old →
    OnOk result (new ≡ pbf_handed mid) → (result ≡ Ok false → mid.piece ≡ []) →
    (result ≡ Ok true → 0 < length mid.piece) → OnErr result (new ≡ mid) → AnswersStep old new result
steps_piece old mid new (Ok true) none short same ok empty some err =
    let all = ok ∙ ap pbf_handed same in
    let unread : new.blobs.unread ≡ pbf_unread old = ap (λ r. r.blobs.unread) all in
    let piece : new.piece ≡ [] = ap (λ r. r.piece) all in
    let said : new.said ≡ old.said = ap (λ r. r.said) all in
    record {
      passes = subst (λ r. PassedItems old r []) (sym all)
          (passed_more old (with_blobs (record old.blobs { blamed = None }) old)
          (pbf_handed (with_blobs (record old.blobs { blamed = None }) old)) [] []
          (passed_same old (record old.blobs { blamed = None }) refl refl)
          (passed_handed (with_blobs (record old.blobs { blamed = None }) old)));
      falls = omega (
        arith,
        ap length unread,
        ap length piece,
        ap one_while_good said,
        length-append old.blobs.unread old.piece,
        some refl,
        ap (λ r. length r.piece) same,
      );
    }
steps_piece old mid new (Ok false) none short same ok empty some err =
    let all = ok ∙ ap pbf_handed same in
    let nothing : old.piece ≡ [] = sym (ap (λ r. r.piece) same) ∙ empty refl in
    record {
      passes = subst (λ r. PassedItems old r []) (sym all)
          (passed_more old (with_blobs (record old.blobs { blamed = None }) old)
          (pbf_handed (with_blobs (record old.blobs { blamed = None }) old)) [] []
          (passed_same old (record old.blobs { blamed = None }) refl refl)
          (passed_handed (with_blobs (record old.blobs { blamed = None }) old)));
      holds = record {
        said = ap (λ r. r.said) all ∙ none;
        piece = ap (λ r. r.piece) all;
        leading = ap (λ r. leading_frame r.blobs.unread) all
            ∙ ap leading_frame (ap (λ p. old.blobs.unread ++ p) nothing ∙ append-nil old.blobs.unread)
            ∙ short;
      };
    }
steps_piece old mid new (Err e) none short same ok empty some err =
    subst (λ r. PassedItems old r []) (sym (err ∙ same))
    (passed_same old (record old.blobs { blamed = None }) refl refl)
