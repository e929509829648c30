-- A run that stopped without a failed call stopped at a polygon file that is too long or wrong.
use Rattle.std.proofs.Common.{◌≡◌, ◌≤◌, ℕ, List, [], ◌∷◌, ◌++◌, length, Bool, true, false, refl, sym, ap, subst, ◌∙◌, arith, inl, inr, length-append}
use Rattle.std.specs.Prelude.{◌⊎◌, nat_lt, if◌then◌else◌, Some}
use Rattle.std.specs.FinMap as finite
use Rattle.std.specs.List.{AllByRecursion}
use Rattle.std.proofs.lemmas.List.{append-nil}
use Rattle.std.proofs.lemmas.Bool.{ltb-false}
use Rattle.osm_entity.specs.Meaning.{Finish, Whole, Passed, Cut, Wrong}
use Rattle.osm_host.specs.Contents.{Files}
use Rattle.osm_host.specs.Moments.{Moment}
use Rattle.osm_host.specs.declared.outside.Op.TheVariants.{Open as OpenOp, Make, Pull}
use Rattle.osm_report.specs.declared.fault.Fault.{Fault}
use Rattle.osm_report.specs.declared.fault.Fault.TheVariants.{TooLong, Device}
use Rattle.osm_report.specs.declared.fault.DeviceCall.{DeviceCall}
use Rattle.osm_report.specs.declared.fault.DeviceCall.TheVariants.{Open, Read, Spill}
use Rattle.osm_run.specs.Plan.{Polygon, Source, Store, Sink, Use, uses}
use Rattle.osm_run.specs.Command.{Command}
use Rattle.osm_run.specs.Course.{Course, polygon_limit, call_fault, wrong_fault, opening_faults, first_fault}
use Rattle.osm_run.specs.OnHost.{IsAtRest, IsReadFrom, GivesFile}
use Rattle.osm_run.specs.HowFar.{WhereTold, HowRead, ReachedEnd, PassedLimit, PullFailed, WasWrong, WasOpened, FilesMade, AfterStop}
use Rattle.osm_run.specs.Outcome.{IsRun}
use Rattle.osm_run.specs.Headline.{NoneRose, IsUnspilled, IsCalmStop, WasTooLong, WasBad}
use Rattle.osm_run.specs.declared.status.Status.{Status}
use Rattle.osm_run.proofs.EachLemmas.{all_more, all_left}
use Rattle.osm_run.proofs.PlanLemmas.{all_openings}
use Rattle.osm_run.proofs.CleanLemmas.{told_by, no_bool}
use Rattle.osm_run.proofs.CountedLemmas.{IsCounted, IsUnfailed, opened_counted, calm_unfailed, last_opened}

pub no_call_fault : (task : ℕ) (call : DeviceCall) (b : Bool) (fault : Fault) (more : List Fault) → b ≡ false →
    call_fault task call b ≡ fault ∷ more → ⊥
no_call_fault task call true fault more unfailed is = no_bool true refl unfailed
no_call_fault task call false fault more unfailed is = cc

module _ (k : Command) (c : Course) (files : Files) where
  -- a polygon file that ended was within its limit
  within : (task : ℕ) → c.clean task ≡ true → HowRead c task polygon_limit Whole →
      length (c.given task) ≤ polygon_limit
  within task cut (ReachedEnd end unfailed small) = small
  within task cut (PassedLimit end unfailed past) = no_bool (c.clean task) cut end
  within task cut (PullFailed end failed small) = no_bool (c.clean task) cut end
  within task cut (WasWrong cause spot end wrong) = no_bool (c.clean task) cut end

  -- what was read of a polygon file at which no call failed
  polygon_stop : (task : ℕ) (name : List ℕ) (open_failed clean long : Bool) (finish : Finish) (fault : Fault)
      (more : List Fault) → c.failed Pull task ≡ false →
      IsReadFrom (c.given task) (c.clean task) (finite.get files name) → HowRead c task polygon_limit Whole →
      open_failed ≡ false → c.clean task ≡ clean → k.area (c.given task) ≡ finish →
      call_fault task Open open_failed
      ++ (if clean then [] else (if long then TooLong task else Device task Read) ∷ []) ++ wrong_fault task finish
      ≡ fault ∷ more → nat_lt polygon_limit (length (c.given task)) ≡ long →
      IsCalmStop k files (task, Polygon name) fault
  polygon_stop task name true clean long finish fault more pulls read how opens cut area is size =
      no_bool true refl opens
  polygon_stop task name false false long finish fault more pulls read (ReachedEnd end unfailed small) opens cut area is
      size = no_bool (c.clean task) end cut
  polygon_stop task name false false long finish fault more pulls read (PullFailed end failed small) opens cut area is
      size =
      no_bool (c.failed Pull task) failed pulls
  polygon_stop task name false false long finish fault more pulls read (WasWrong cause spot end wrong) opens cut area is
      size = absurd (let no : Whole ≡ Wrong cause spot = wrong in cc)
  polygon_stop task name false false true finish fault more pulls read (PassedLimit end unfailed past) opens cut area is
      size = WasTooLong task name (c.given task ++ read.rest) refl read.there
      (omega (arith, past, length-append (c.given task) read.rest)) (sym (ap first_fault is))
  polygon_stop task name false false false finish fault more pulls read (PassedLimit end unfailed past) opens cut area
      is size = absurd (omega (arith, past, ltb-false polygon_limit (length (c.given task)) size))
  polygon_stop task name false true long Whole fault more pulls read how opens cut area is size = cc
  polygon_stop task name false true long Passed fault more pulls read how opens cut area is size = cc
  polygon_stop task name false true long Cut fault more pulls read how opens cut area is size = cc
  polygon_stop task name false true long (Wrong cause spot) fault more pulls read how opens cut area is size =
      let all : c.given task ++ read.rest ≡ c.given task = ap (λ rest. c.given task ++ rest) (read.whole cut)
      ∙ append-nil (c.given task) in
      WasBad task name (c.given task) cause spot refl (read.there ∙ ap Some all) (within task cut how) area
      (sym (ap first_fault is))

  -- something came of a polygon file that was opened
  not_at_rest : (task : ℕ) → IsAtRest c task → c.failed Pull task ≡ false → HowRead c task polygon_limit Whole → ⊥
  not_at_rest task rest pulls (ReachedEnd end unfailed small) = no_bool (c.clean task) end rest.clean
  not_at_rest task rest pulls (PassedLimit end unfailed past) =
      omega (arith, past, ap (λ bytes. length bytes) rest.given)
  not_at_rest task rest pulls (PullFailed end failed small) = no_bool (c.failed Pull task) failed pulls
  not_at_rest task rest pulls (WasWrong cause spot end wrong) = let no : Whole ≡ Wrong cause spot = wrong in cc

  polygon_gives : (task : ℕ) (name : List ℕ) (fault : Fault) (more : List Fault) → IsUnfailed c (task, Polygon name) →
      HowRead c task polygon_limit Whole →
      IsAtRest c task ⊎ IsReadFrom (c.given task) (c.clean task) (finite.get files name) →
      opening_faults k c (task, Polygon name) ≡ fault ∷ more → IsCalmStop k files (task, Polygon name) fault
  polygon_gives task name fault more unfailed how (inl rest) is =
      absurd (not_at_rest task rest (unfailed.each Pull refl) how)
  polygon_gives task name fault more unfailed how (inr read) is =
      polygon_stop task name (c.failed OpenOp task) (c.clean task) (nat_lt polygon_limit (length (c.given task)))
      (k.area (c.given task)) fault more (unfailed.each Pull refl) read how (unfailed.each OpenOp refl) refl refl is
      refl

  calm_last : (u : Use) (fault : Fault) (more : List Fault) → IsUnfailed c u → IsUnspilled c u → WasOpened c u →
      GivesFile (Some files) c u → opening_faults k c u ≡ fault ∷ more → IsCalmStop k files u fault
  calm_last (task, Polygon name) fault more unfailed unspilled (inl unopened) gives is =
      no_bool (c.failed OpenOp task) unopened.0 (unfailed.each OpenOp refl)
  calm_last (task, Polygon name) fault more unfailed unspilled (inr how) gives is =
      polygon_gives task name fault more unfailed how gives is
  calm_last (task, Source name) fault more unfailed unspilled opened gives is =
      absurd (no_call_fault task Open (c.failed OpenOp task) fault more (unfailed.each OpenOp refl) is)
  calm_last (task, Store) fault more unfailed unspilled opened gives is =
      absurd (no_call_fault task Spill (c.failed OpenOp task) fault more unspilled.0 is)
  calm_last (task, Sink name) fault more unfailed unspilled opened gives is =
      absurd (no_call_fault task Open (c.failed Make task) fault more (unfailed.each Make refl) is)

-- where no call failed, a run stopped at a polygon file that is too long or wrong
pub complete_stop : (k : Command) (before after : Moment) (status : Status) (run : IsRun k before after status) →
    (stop : AfterStop k run.course before after status) → NoneRose before after →
    AllByRecursion (IsUnspilled run.course) (uses k.plan) → WhereTold before.files after.files
    (λ was now. IsCalmStop k was stop.last status.fault)
complete_stop k before after status run s calm unspilled =
    let c : Course = run.course in
    let last : (P : Use → Type 0) → AllByRecursion P c.opened → P s.last =
    λ P. last_opened k c before after status P s in
    let unspilled_opened : AllByRecursion (IsUnspilled c) c.opened =
    all_left (IsUnspilled c) c.opened run.is_course.order.0
    (subst (AllByRecursion (IsUnspilled c)) run.is_course.order.1 (all_openings (IsUnspilled c) k.plan unspilled)) in
    told_by before.files after.files (FilesMade s.earlier) (λ was now. IsCalmStop k was s.last status.fault) s.files
    (λ was now told made. calm_last k c was s.last status.fault s.fault.0
    (last (IsUnfailed c) (all_more (IsCounted k before after c) (IsUnfailed c) (calm_unfailed k c before after calm)
    c.opened (opened_counted k c before after run.is_course)))
    (last (IsUnspilled c) unspilled_opened) (last (WasOpened c) s.used)
    (last (GivesFile (Some was) c)
    (subst (λ f. AllByRecursion (GivesFile f c) c.opened) told run.is_course.gives)) s.fault.1)
