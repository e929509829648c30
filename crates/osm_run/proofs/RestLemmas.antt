-- Devices that were opened and of which nothing came: to close them changes nothing.
use Rattle.std.proofs.Common.{◌≡◌, ℕ, suc, List, [], ◌∷◌, length, take, get_or, Bool, true, false, cond, ◌&&◌, refl, sym, ap, subst, ◌∙◌, arith, inl, inr}
use Rattle.std.specs.Prelude.{Option, nat_lt, sum_by}
use Rattle.std.specs.List.{AllByRecursion}
use Rattle.std.specs.Str.{bytes_eq}
use Rattle.std.proofs.Math.Seq.{take-length}
use Rattle.std.proofs.lemmas.Bool.{cases_lt}
use Rattle.std.proofs.lemmas.List.{get_or_past}
use Rattle.osm_host.specs.Contents.{Files}
use Rattle.osm_host.specs.Counts.{SameCounts, raised}
use Rattle.osm_host.specs.Moments.{Moment}
use Rattle.osm_host.specs.declared.outside.Op.{Op}
use Rattle.osm_host.specs.declared.outside.Op.TheVariants.{Open as OpenOp, Make, Pull, Put, Keep}
use Rattle.osm_run.specs.Plan.{File, Plan, is_called, is_named}
use Rattle.osm_run.specs.OnHost.{CountsBy}
use Rattle.osm_run.specs.HowFar.{WhereTold}
use Rattle.osm_run.specs.Headline.{SameFiles}
use Rattle.osm_run.specs.Went.{DeviceSeen, NoDevice, SeenSink, SeenSource, device_at}
use Rattle.osm_run.specs.Opened.{IsOpenedWhere, IsSinkWhere, IsSourceWhere, ReadsOrWrites, WereOpened, opened_to}
use Rattle.osm_run.specs.Closed.{FilesKeptTo, WasKept, WereClosed, are_there, failed_by_devices, gave_under, pulls_failed, puts_failed}
use Rattle.osm_run.proofs.CallLemmas.{raised-none}
use Rattle.osm_run.proofs.CleanLemmas.{told_more}
use Rattle.osm_run.proofs.EachLemmas.{all_every, none_any}
use Rattle.osm_run.proofs.NothingGivenLemmas.{sum_of_none}
use Rattle.osm_run.proofs.UsesLemmas.{by_plain, plain_at}

-- nothing came of a device, and none of its calls failed
abbrev pub RestsYet : DeviceSeen → Type 0
RestsYet NoDevice = Unit {0}
RestsYet (SeenSource source) = (source.value.given ≡ 0) × (source.value.faults ≡ 0)
RestsYet (SeenSink sink) = sink.faults ≡ 0

-- so it is of each device that was opened
rests_as : (files : Option Files) (r w : Bool) (fs : List File) (d : DeviceSeen) → ReadsOrWrites fs →
    IsOpenedWhere files r w fs d → RestsYet d
rests_as files r w fs d plain = by_plain (λ gs. IsOpenedWhere files r w gs d → RestsYet d)
    (λ is. subst RestsYet (sym is) tt) (λ name. of_source r name d) (λ name. of_sink w name d) fs plain where
      of_source : (r : Bool) (name : List ℕ) (d : DeviceSeen) → IsSourceWhere files r name d → RestsYet d
      of_source false name d is = subst RestsYet (sym is) tt
      of_source true name NoDevice is = absurd is
      of_source true name (SeenSource source) is = (is.given, is.faults)
      of_source true name (SeenSink sink) is = absurd is

      of_sink : (w : Bool) (name : List ℕ) (d : DeviceSeen) → IsSinkWhere files w name d → RestsYet d
      of_sink false name d is = subst RestsYet (sym is) tt
      of_sink true name NoDevice is = absurd is
      of_sink true name (SeenSource source) is = absurd is
      of_sink true name (SeenSink sink) is = is.faults

pub rests_yet : (plan : Plan) (i j : ℕ) (before now : Moment) (devices : List DeviceSeen) →
    AllByRecursion ReadsOrWrites plan → WereOpened plan i j before now devices → (t : ℕ) →
    RestsYet (device_at devices t)
rests_yet plan i j before now devices plain were t = elim (cases_lt t (length plan)) [
  | inl within ↦ rests_as before.files (nat_lt t i) (nat_lt t j) (get_or plan t []) (device_at devices t)
      (plain_at plan t plain within) (were.each t within)
  | inr past ↦ subst RestsYet (sym (get_or_past devices t NoDevice (omega (arith, past, were.count)))) tt
]

-- nothing changed from one moment to another
pub record IsSameMoment (before now : Moment) : Type 0 where
  pub files : WhereTold before.files now.files SameFiles
  pub counts : SameCounts before.count now.count
  pub gave : (n : List ℕ) → now.gave n ≡ before.gave n
  pub known : now.known ≡ before.known

no_pulls : (d : DeviceSeen) → RestsYet d → pulls_failed d ≡ false
no_pulls NoDevice is = refl
no_pulls (SeenSource source) is = ap are_there is.1
no_pulls (SeenSink sink) is = refl

no_puts : (d : DeviceSeen) → RestsYet d → puts_failed d ≡ false
no_puts NoDevice is = refl
no_puts (SeenSource source) is = refl
no_puts (SeenSink sink) is = ap are_there is

no_call : (devices : List DeviceSeen) → ((t : ℕ) → RestsYet (device_at devices t)) → (o : Op) (t : ℕ) →
    failed_by_devices devices (λ x. WasKept) o t ≡ false
no_call devices rest OpenOp t = refl
no_call devices rest Make t = refl
no_call devices rest Pull t = no_pulls (device_at devices t) (rest t)
no_call devices rest Put t = no_puts (device_at devices t) (rest t)
no_call devices rest Keep t = refl

third_false : (a b c : Bool) → c ≡ false → (a && (b && c)) ≡ false
third_false true true c is = is
third_false true false c is = refl
third_false false b c is = refl

none_named : (n : List ℕ) (d : DeviceSeen) → RestsYet d → gave_under n d ≡ 0
none_named n NoDevice is = refl
none_named n (SeenSource source) is = by_name (bytes_eq n source.name) source.value.given is.0 where
  by_name : (b : Bool) (given : ℕ) → given ≡ 0 → cond b given 0 ≡ 0
  by_name true given none = none
  by_name false given none = refl
none_named n (SeenSink sink) is = refl

-- what holds of the device of each number holds of each device
pub each_device : (P : DeviceSeen → Type 0) (devices : List DeviceSeen) → ((t : ℕ) → P (device_at devices t)) →
    AllByRecursion P devices
each_device P [] each = tt
each_device P (d ∷ devices) each = (each 0, each_device P devices (λ t. each (suc t)))

-- sources of which nothing came are closed, and nothing changed
pub closed_at_rest : (plan : Plan) (before now : Moment) (devices : List DeviceSeen) → length devices ≡ length plan →
    ((t : ℕ) → RestsYet (device_at devices t)) →
    WereClosed plan (length plan) 0 before now devices (λ t. WasKept) → IsSameMoment before now
closed_at_rest plan before now devices count rest closed = record {
  files = told_more before.files now.files (FilesKeptTo plan 0 devices (λ t. WasKept)) SameFiles closed.files
      (λ was is kept n. kept.others n refl);
  counts = λ o n. subst (λ b. CountsBy b (before.count o n) (now.count o n))
      (none_any (λ u. is_named n u && (is_called o u && failed_by_devices devices (λ t. WasKept) o u.0))
      (opened_to plan (length plan) 0)
      (all_every (λ u. (is_named n u && (is_called o u && failed_by_devices devices (λ t. WasKept) o u.0)) ≡ false)
      (λ u. third_false (is_named n u) (is_called o u) (failed_by_devices devices (λ t. WasKept) o u.0)
      (no_call devices rest o u.0)) (opened_to plan (length plan) 0)))
      (closed.counts o n);
  gave = λ n. closed.gave n ∙ ap (raised (before.gave n))
      (ap (λ ds. sum_by (gave_under n) ds) (ap (λ k. take k devices) (sym count) ∙ take-length devices)
      ∙ sum_of_none (gave_under n) devices (each_device (λ d. gave_under n d ≡ 0) devices
      (λ t. none_named n (device_at devices t) (rest t)))) ∙ raised-none (before.gave n);
  known = closed.known;
}
