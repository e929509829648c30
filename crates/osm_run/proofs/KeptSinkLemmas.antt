-- How the sinks of a plan are kept, one after the other.
use Rattle.std.proofs.Common.{◌≡◌, ℕ, ◌+◌, ◌<◌, ◌≤◌, List, [], ◌∷◌, length, get_or, set, false, refl, sym, ap, subst, ◌∙◌, arith}
use Rattle.std.specs.Prelude.{Some, None}
use Rattle.std.specs.List.{AllByRecursion}
use Rattle.std.proofs.lemmas.List.{get_or-set_other}
use Rattle.osm_host.specs.Moments.{Moment}
use Rattle.osm_machine.specs.Sinks.{SinkSeen}
use Rattle.osm_report.specs.declared.fault.Fault.TheVariants.{Clean}
use Rattle.osm_run.specs.Plan.{Plan, Sink}
use Rattle.osm_run.specs.Went.{DeviceSeen, NoDevice, SeenSink, SeenSource, device_at}
use Rattle.osm_run.specs.Opened.{ReadsOrWrites, sink_name}
use Rattle.osm_run.specs.Closed.{AreAnswered, AreSinksApart, CanClose, CanKeepAll, IsKeptSink, KeepAnswer, SinkWasKept, SinksWereKept, WasKept, WereClosed, kept_with}
use Rattle.osm_run.specs.declared.closing.Kept.{Kept}
use Rattle.osm_run.proofs.UsesLemmas.{plain_at, sink_files}
use Rattle.osm_run.proofs.ClosableLemmas.{can_keep_sink}
use Rattle.osm_run.proofs.ClosedCountLemmas.{answered_other, answers_with}
use Rattle.osm_run.proofs.ClosedSourceLemmas.{none_closed}
use Rattle.osm_run.proofs.KeptFaultLemmas.{answered_more, answered_skip, answered_unopened, none_answered}
use Rattle.osm_run.proofs.KeptFileLemmas.{sink_kept, sink_left, sink_unopened}

-- the sinks of no task were kept
pub sinks_before : (plan : Plan) (moment : Moment) (devices : List DeviceSeen) (kept : Kept) →
    kept ≡ record { fault = Clean; memory = false } → SinksWereKept plan 0 moment moment devices kept
sinks_before plan moment devices kept is = record {
  answers = λ t. WasKept;
  unasked = λ t past. refl;
  closed = none_closed plan moment devices (λ t. WasKept);
  answered = none_answered plan kept is;
}

-- and of one task more
pub sinks_more : (plan : Plan) (t : ℕ) (before middle now : Moment) (devices : List DeviceSeen) (answer : KeepAnswer)
    (name : List ℕ) (sink : SinkSeen) (kept after : Kept) → t < length plan → get_or plan t [] ≡ Sink name ∷ [] →
    device_at devices t ≡ SeenSink sink → AreSinksApart plan → AllByRecursion ReadsOrWrites plan →
    SinksWereKept plan t before middle devices kept → SinkWasKept name sink answer middle now →
    after ≡ kept_with t answer kept → SinksWereKept plan (t + 1) before now devices after
sinks_more plan t before middle now devices answer name sink kept after within file device apart plain were one is =
    record {
      answers = answers_with were.answers t answer;
      unasked = λ x past. answered_other were.answers t answer x (λ same. omega (arith, past, same))
          ∙ were.unasked x (omega (arith, past));
      closed = sink_kept plan t before middle now devices were.answers answer name sink within file device apart plain
          were.closed one;
      answered = answered_more plan t were.answers answer name kept after within file were.answered is;
    }

pub sinks_skip : (plan : Plan) (t : ℕ) (before now : Moment) (devices : List DeviceSeen) (kept : Kept) →
    t < length plan → sink_name (get_or plan t []) ≡ None → AllByRecursion ReadsOrWrites plan →
    SinksWereKept plan t before now devices kept → SinksWereKept plan (t + 1) before now devices kept
sinks_skip plan t before now devices kept within none plain were = record {
  answers = were.answers;
  unasked = λ x past. were.unasked x (omega (arith, past));
  closed = sink_left plan t before now devices were.answers within none plain were.closed;
  answered = answered_skip plan t were.answers kept within (plain_at plan t plain within) none
      (were.unasked t (omega arith)) were.answered;
}

-- the sinks of some tasks were taken out of their places and kept
pub record SinksSoFar (plan : Plan) (at : ℕ) (start now : Moment) (old new : List DeviceSeen) (kept : Kept) : Type 0
  where
    pub later : (t : ℕ) → at ≤ t → device_at new t ≡ device_at old t
    pub were : SinksWereKept plan at start now old kept

sink_turn_by : (plan : Plan) (t : ℕ) (known : List (List ℕ)) (start middle now : Moment) (old new : List DeviceSeen)
    (name : List ℕ) (d : DeviceSeen) (answer : KeepAnswer) (kept after : Kept) → t < length plan →
    get_or plan t [] ≡ Sink name ∷ [] → device_at old t ≡ d → CanClose known (Sink name ∷ []) d →
    AreSinksApart plan → AllByRecursion ReadsOrWrites plan → SinksSoFar plan t start middle old new kept →
    IsKeptSink name d answer middle now → after ≡ kept_with t answer kept →
    SinksSoFar plan (t + 1) start now old (set new t NoDevice) after
sink_turn_by plan t known start middle now old new name NoDevice answer kept after within file device can apart plain
    so_far one is =
    let unasked : so_far.were.answers t ≡ WasKept = so_far.were.unasked t (omega arith) in
    let same : after ≡ kept = is ∙ ap (λ a. kept_with t a kept) one.0 in
    record {
      later = λ x past. get_or-set_other new t x NoDevice NoDevice (λ same. omega (arith, past, same))
          ∙ so_far.later x (omega (arith, past));
      were = record {
        answers = so_far.were.answers;
        unasked = λ x past. so_far.were.unasked x (omega (arith, past));
        closed = subst (λ moment. WereClosed plan 0 (t + 1) start moment old so_far.were.answers) (sym one.1)
            (sink_unopened plan t start middle old so_far.were.answers name within file device unasked
            so_far.were.closed);
        answered = subst (AreAnswered plan (t + 1) so_far.were.answers) (sym same)
            (answered_unopened plan t so_far.were.answers name kept within file unasked so_far.were.answered);
      };
    }
sink_turn_by plan t known start middle now old new name (SeenSource source) answer kept after within file device can
    apart plain so_far one is =
    absurd can
sink_turn_by plan t known start middle now old new name (SeenSink sink) answer kept after within file device can apart
    plain so_far one is = record {
      later = λ x past. get_or-set_other new t x NoDevice NoDevice (λ same. omega (arith, past, same))
          ∙ so_far.later x (omega (arith, past));
      were = sinks_more plan t start middle now old answer name sink kept after within file device apart plain
          so_far.were
          one is;
    }

-- the sink of one task more was kept
pub sink_turn : (plan : Plan) (t : ℕ) (known : List (List ℕ)) (start middle now : Moment) (old new : List DeviceSeen)
    (name : List ℕ) (d : DeviceSeen) (answer : KeepAnswer) (kept after : Kept) → t < length plan →
    CanKeepAll plan known old → sink_name (get_or plan t []) ≡ Some name → device_at new t ≡ d → AreSinksApart plan →
    AllByRecursion ReadsOrWrites plan → SinksSoFar plan t start middle old new kept →
    IsKeptSink name d answer middle now → after ≡ kept_with t answer kept →
    SinksSoFar plan (t + 1) start now old (set new t NoDevice) after
sink_turn plan t known start middle now old new name d answer kept after within can named device apart plain so_far one
    is =
    let same : device_at new t ≡ device_at old t = so_far.later t (omega arith) in
    sink_turn_by plan t known start middle now old new name d answer kept after within
    (sink_files (get_or plan t []) name named) (sym same ∙ device)
    (can_keep_sink plan t known known old new name d within can refl same device named) apart plain so_far one is

-- the next task has no sink
pub no_sink_turn : (plan : Plan) (t : ℕ) (start now : Moment) (old new : List DeviceSeen) (kept : Kept) →
    t < length plan → sink_name (get_or plan t []) ≡ None → AllByRecursion ReadsOrWrites plan →
    SinksSoFar plan t start now old new kept → SinksSoFar plan (t + 1) start now old new kept
no_sink_turn plan t start now old new kept within none plain so_far = record {
  later = λ x past. so_far.later x (omega (arith, past));
  were = sinks_skip plan t start now old kept within none plain so_far.were;
}
