-- Tasks that see only their inputs: bytes and their end mean nothing to them.
use Rattle.std.proofs.Common.{◌≡◌, ◌≢◌, ℕ, ◌+◌, ◌<◌, List, length, Bool, true, false, refl, sym, ap, ◌∙◌, arith}
use Rattle.std.specs.Prelude.{◌&&◌, cond, if◌then◌else◌, None}
use Rattle.osm_area.specs.declared.area.Area.{Area}
use Rattle.osm_entity.specs.Meaning.{Finish, Whole, Passed, Cut, Wrong, finish_after}
use Rattle.osm_entity.specs.Streams.{Stream}
use Rattle.osm_entity.specs.Tasks.{TaskMeaning}
use Rattle.osm_entity.specs.declared.options.AreaOptions.{AreaOptions}
use Rattle.osm_entity.specs.declared.stream.End.{End}
use Rattle.osm_entity.specs.declared.stream.End.TheVariants.{Done, Broken}
use Rattle.osm_entity.specs.declared.verdict.Cause.{Cause}
use Rattle.osm_entity.specs.declared.verdict.Cause.TheVariants.{Unordered}
use Rattle.osm_entity.specs.declared.verdict.Spot.{Spot}
use Rattle.osm_entity.specs.declared.verdict.Spot.TheVariants.{Item as AtItem}
use Rattle.osm_merge.specs.Append.{appended, appending, end_appended, finish_appended}
use Rattle.osm_merge.specs.Rules.{Choice, finish_at, finish_merged, is_behind, is_done, is_rising_from, is_whole, item_number, last_key, meets_first, rising_front}
use Rattle.osm_select.specs.Held.{stream_held}
use Rattle.osm_select.specs.Kinds.{are_kinds_ordered, kinds_prefix, kinds_stream, number_after}
use Rattle.osm_select.specs.Passed.{stream_passed}
use Rattle.osm_select.specs.Selected.{area_holds}
use Rattle.osm_machine.specs.Copying.{copying_task}
use Rattle.osm_machine.specs.Emptying.{dropping_task, empty_task}
use Rattle.osm_machine.specs.Making.{made_task}
use Rattle.osm_machine.specs.TaskMeanings.{area_task, merge_task, rule_task, two_task}

-- the streams at the inputs of a task are all done
abbrev pub InputsDone : TaskMeaning → (ℕ → Stream) → Type 0
InputsDone task f = (port : ℕ) → port < task.inputs → (f port).end ≡ Done

-- a task that sees only its inputs: bytes and their end mean nothing to it, it is never cut off, and where its inputs
-- are done and it finds nothing wrong it ends whole, and its outputs are done
pub record SeesInputs (task : TaskMeaning) : Type 0 where
  pub gives : (bytes more : List ℕ) (came end : Bool) (f : ℕ → Stream) (port : ℕ) →
      task.gives bytes came f port ≡ task.gives more end f port
  pub finish : (bytes more : List ℕ) (came end : Bool) (f : ℕ → Stream) →
      task.finish bytes came f ≡ task.finish more end f
  pub uncut : (bytes : List ℕ) (came : Bool) (f : ℕ → Stream) → task.finish bytes came f ≢ Cut
  pub whole : (bytes : List ℕ) (came : Bool) (f : ℕ → Stream) → InputsDone task f →
      ((cause : Cause) (spot : Spot) → task.finish bytes came f ≢ Wrong cause spot) →
      (task.finish bytes came f ≡ Whole)
      × ((port : ℕ) → port < task.outputs → (task.gives bytes came f port).end ≡ Done)

after_uncut : (end : End) → finish_after end ≢ Cut
after_uncut Done is = cc
after_uncut Broken is = cc

pub after_done : (end : End) → end ≡ Done → finish_after end ≡ Whole
after_done Done is = refl
after_done Broken is = cc

pub rule_sees : (holds : Bool) (rule : Stream → Stream) → ((s : Stream) → (rule s).end ≡ s.end) →
    SeesInputs (rule_task holds rule)
rule_sees holds rule ends = record {
  gives = λ bytes more came end f port. refl;
  finish = λ bytes more came end f. refl;
  uncut = λ bytes came f. after_uncut (f 0).end;
  whole = λ bytes came f done right.
      (after_done (f 0).end (done 0 (omega arith)), λ port known. ends (f 0) ∙ done 0 (omega arith));
}

-- how a task that merges two inputs ends, by whether the keys of each rise, and which end is met
merge_finish : (whole_s whole_t rising_s rising_t behind : Bool) (at_s at_t : Spot) → Finish
merge_finish whole_s whole_t rising_s rising_t behind at_s at_t =
    if whole_s && whole_t then Whole
    else if (if whole_s then false else if whole_t then true else behind)
    then (if rising_s then Passed else Wrong Unordered at_s)
    else (if rising_t then Passed else Wrong Unordered at_t)

merge_uncut : (whole_s whole_t rising_s rising_t behind : Bool) (at_s at_t : Spot) →
    merge_finish whole_s whole_t rising_s rising_t behind at_s at_t ≢ Cut
unfolding merge_finish
merge_uncut true true rising_s rising_t behind at_s at_t is = cc
merge_uncut true false rising_s true behind at_s at_t is = cc
merge_uncut true false rising_s false behind at_s at_t is = cc
merge_uncut false true true rising_t behind at_s at_t is = cc
merge_uncut false true false rising_t behind at_s at_t is = cc
merge_uncut false false true rising_t true at_s at_t is = cc
merge_uncut false false false rising_t true at_s at_t is = cc
merge_uncut false false rising_s true false at_s at_t is = cc
merge_uncut false false rising_s false false at_s at_t is = cc

merge_right : (rising_s rising_t behind : Bool) (at_s at_t : Spot) →
    ((cause : Cause) (spot : Spot) → merge_finish rising_s rising_t rising_s rising_t behind at_s at_t ≢ Wrong cause
    spot) →
    (rising_s && rising_t) ≡ true
unfolding merge_finish
merge_right true true behind at_s at_t right = refl
merge_right true false behind at_s at_t right = absurd (right Unordered at_t refl)
merge_right false true behind at_s at_t right = absurd (right Unordered at_s refl)
merge_right false false true at_s at_t right = absurd (right Unordered at_s refl)
merge_right false false false at_s at_t right = absurd (right Unordered at_t refl)

-- the place of the first item of an input that is out of order
abbrev spot_of : ℕ → Stream → Spot
spot_of port s = AtItem port (item_number (length (rising_front s) + 1))

merged_finish : (s t : Stream) → finish_merged s t ≡ merge_finish (is_whole s) (is_whole t)
    (is_rising_from None s.items) (is_rising_from None t.items) (is_behind (last_key s) (last_key t))
    (spot_of 0 s) (spot_of 1 t)
unfolding merge_finish
merged_finish s t = refl

-- an input that is done is whole where its keys rise
done_whole : (s : Stream) → s.end ≡ Done → is_whole s ≡ is_rising_from None s.items
done_whole s done = ap (λ end. is_rising_from None s.items && is_done end) done ∙ and_true (is_rising_from None s.items)
  where
    and_true : (b : Bool) → (b && true) ≡ b
    and_true true = refl
    and_true false = refl

both_whole : (s t : Stream) → s.end ≡ Done → t.end ≡ Done →
    ((cause : Cause) (spot : Spot) → finish_merged s t ≢ Wrong cause spot) → (is_whole s && is_whole t) ≡ true
both_whole s t done_s done_t right =
    let r : Bool = is_rising_from None s.items in
    let q : Bool = is_rising_from None t.items in
    let behind : Bool = is_behind (last_key s) (last_key t) in
    let is : finish_merged s t ≡ merge_finish r q r q behind (spot_of 0 s) (spot_of 1 t) =
    merged_finish s t
    ∙ ap (λ w. merge_finish w (is_whole t) r q behind (spot_of 0 s) (spot_of 1 t)) (done_whole s done_s)
    ∙ ap (λ w. merge_finish r w r q behind (spot_of 0 s) (spot_of 1 t)) (done_whole t done_t) in
    ap (λ w. w && is_whole t) (done_whole s done_s) ∙ ap (λ w. r && w) (done_whole t done_t)
    ∙ merge_right r q behind (spot_of 0 s) (spot_of 1 t) (λ cause spot wrong. right cause spot (is ∙ wrong))

pub merge_sees : (choose : Choice) → SeesInputs (merge_task choose)
merge_sees choose = record {
  gives = λ bytes more came end f port. refl;
  finish = λ bytes more came end f. refl;
  uncut = λ bytes came f cut. merge_uncut (is_whole (f 0)) (is_whole (f 1)) (is_rising_from None (f 0).items)
      (is_rising_from None (f 1).items) (is_behind (last_key (f 0)) (last_key (f 1))) (spot_of 0 (f 0))
      (spot_of 1 (f 1)) (sym (merged_finish (f 0) (f 1)) ∙ cut);
  whole = λ bytes came f done right.
      let both : (is_whole (f 0) && is_whole (f 1)) ≡ true =
      both_whole (f 0) (f 1) (done 0 (omega arith)) (done 1 (omega arith)) right in (
        ap (λ b. if b then Whole else if meets_first (f 0) (f 1) then finish_at 0 (f 0) else finish_at 1 (f 1)) both,
        λ port known. ap (λ b. if b then Done else Broken) both,
      );
}

pub append_sees : SeesInputs (two_task appended finish_appended appending.turn)
append_sees = record {
  gives = λ bytes more came end f port. refl;
  finish = λ bytes more came end f. refl;
  uncut = λ bytes came f. after_uncut (end_appended (f 0).end (f 1).end);
  whole = λ bytes came f done right.
      let end : end_appended (f 0).end (f 1).end ≡ Done =
      ap (λ e. end_appended e (f 1).end) (done 0 (omega arith)) ∙ done 1 (omega arith) in
      (after_done (end_appended (f 0).end (f 1).end) end, λ port known. end);
}

pub copying_sees : (outputs : ℕ) → SeesInputs (copying_task outputs)
copying_sees outputs = record {
  gives = λ bytes more came end f port. refl;
  finish = λ bytes more came end f. refl;
  uncut = λ bytes came f. after_uncut (f 0).end;
  whole = λ bytes came f done right.
      (after_done (f 0).end (done 0 (omega arith)), λ port known. done 0 (omega arith));
}

pub dropping_sees : SeesInputs dropping_task
dropping_sees = record {
  gives = λ bytes more came end f port. refl;
  finish = λ bytes more came end f. refl;
  uncut = λ bytes came f. after_uncut (f 0).end;
  whole = λ bytes came f done right.
      (after_done (f 0).end (done 0 (omega arith)), λ port known. absurd (omega (arith, known)));
}

pub empty_sees : SeesInputs empty_task
empty_sees = record {
  gives = λ bytes more came end f port. refl;
  finish = λ bytes more came end f. refl;
  uncut = λ bytes came f is. cc;
  whole = λ bytes came f done right. (refl, λ port known. refl);
}

pub made_sees : (count seed : ℕ) → SeesInputs (made_task count seed)
made_sees count seed = record {
  gives = λ bytes more came end f port. refl;
  finish = λ bytes more came end f. refl;
  uncut = λ bytes came f is. cc;
  whole = λ bytes came f done right. (refl, λ port known. refl);
}

-- where the kinds of a stream don't go back, an area task ends as it did
in_order : (ordered : Bool) (end : End) (spot : Spot) → end ≡ Done →
    ((cause : Cause) (wrong : Spot) → cond ordered (finish_after end) (Wrong Unordered spot) ≢ Wrong cause wrong) →
    (cond ordered (finish_after end) (Wrong Unordered spot) ≡ Whole) × (cond ordered end Broken ≡ Done)
in_order true end spot done right = (after_done end done, done)
in_order false end spot done right = absurd (right Unordered spot refl)

in_order_uncut : (ordered : Bool) (end : End) (spot : Spot) →
    cond ordered (finish_after end) (Wrong Unordered spot) ≢ Cut
in_order_uncut true end spot is = after_uncut end is
in_order_uncut false end spot is = cc

-- the stream of an area task ends as its kinds do
selected_end : (area : Area) (options : AreaOptions) (holds : Bool) (s : Stream) →
    (if holds then stream_held area options.complete_ways options.clip s else stream_passed area options.clip s).end
    ≡ (kinds_stream s).end
unfolding stream_held stream_passed
selected_end area options true s = refl
selected_end area options false s = refl

pub area_sees : (area : Area) (options : AreaOptions) → SeesInputs (area_task area options)
area_sees area options = record {
  gives = λ bytes more came end f port. refl;
  finish = λ bytes more came end f. refl;
  uncut = λ bytes came f. in_order_uncut (are_kinds_ordered 0 (f 0).items) (f 0).end
      (AtItem 0 (number_after (length (kinds_prefix 0 (f 0).items))));
  whole = λ bytes came f done right.
      let both = in_order (are_kinds_ordered 0 (f 0).items) (f 0).end
      (AtItem 0 (number_after (length (kinds_prefix 0 (f 0).items)))) (done 0 (omega arith)) right in
      (both.0, λ port known. selected_end area options (area_holds options) (f 0) ∙ both.1);
}
