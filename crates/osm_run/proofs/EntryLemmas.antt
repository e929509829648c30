-- Why an entry of a run is not clean.
use Rattle.std.proofs.Common.{◌≡◌, ℕ, List, [], ◌∷◌, length, Bool, true, false, refl, sym, ap, subst}
use Rattle.std.specs.Prelude.{if◌then◌else◌}
use Rattle.std.specs.List.{AllByRecursion}
use Rattle.osm_host.specs.Moments.{Moment}
use Rattle.osm_host.specs.declared.outside.Op.TheVariants.{Make, Pull}
use Rattle.osm_report.specs.declared.fault.Fault.{Fault}
use Rattle.osm_report.specs.declared.fault.Fault.TheVariants.{Device}
use Rattle.osm_report.specs.declared.fault.DeviceCall.TheVariants.{Open}
use Rattle.osm_run.specs.Plan.{Polygon, Source, Store, Sink, Use, uses, is_sink}
use Rattle.osm_run.specs.Command.{Command}
use Rattle.osm_run.specs.Course.{Course, source_limit, meaning_of, call_fault, opening_faults, first_fault, entry, entries}
use Rattle.osm_run.specs.OnHost.{IsCourse}
use Rattle.osm_run.specs.HowFar.{HowRead, ReachedEnd, PassedLimit, PullFailed, WasWrong, WasUsed, HowFar, Stopped, Ran, OutOfMemory}
use Rattle.osm_run.specs.Outcome.{IsRun}
use Rattle.osm_run.specs.Causes.{RoseAt, UncleanBy, AtMemory, AtOpening, AtWrong, AtLimit, AtPull}
use Rattle.osm_run.specs.declared.status.SourceEnd.{SourceEnd}
use Rattle.osm_run.specs.declared.status.Status.{Status}
use Rattle.osm_run.proofs.EachLemmas.{all_both, all_every, flat_map_all}
use Rattle.osm_run.proofs.CleanLemmas.{no_bool}
use Rattle.osm_run.proofs.CountedLemmas.{bytes_eq-self, IsCounted, opened_counted, all_counted, last_opened, rose_at}

module _ (k : Command) (c : Course) (before after : Moment) (status : Status) where
  -- the end of the file behind an entry did not come because of this
  Unclean : SourceEnd → Type 0
  Unclean e = e.clean ≡ false → UncleanBy k c before after status.fault e

  -- the entry of a reader
  at : ℕ → SourceEnd
  at task = record { task = task; given = length (c.given task); clean = c.clean task }

  how_unclean : (task : ℕ) (name : List ℕ) → IsCounted k before after c (task, Source name) →
      HowRead c task source_limit ((meaning_of k c).finish task) → c.clean task ≡ false →
      UncleanBy k c before after status.fault (at task)
  unfolding at
  how_unclean task name counted (ReachedEnd clean unfailed within) cut = no_bool (c.clean task) clean cut
  how_unclean task name counted (PassedLimit clean unfailed past) cut = AtLimit past
  how_unclean task name counted (PullFailed clean failed small) cut =
      AtPull (rose_at k c before after Pull task (Source name) name counted (bytes_eq-self name) refl failed)
  how_unclean task name counted (WasWrong cause spot clean wrong) cut = AtWrong cause spot wrong

  entry_cause : (u : Use) → IsCounted k before after c u → WasUsed k c u → AllByRecursion Unclean (entry c u)
  unfolding Unclean at
  entry_cause (task, Polygon name) counted used = tt
  entry_cause (task, Source name) counted used = (how_unclean task name counted used, tt)
  entry_cause (task, Store) counted used = tt
  entry_cause (task, Sink name) counted used = tt

  -- all entries are unclean by one cause
  entries_by : ((e : SourceEnd) → UncleanBy k c before after status.fault e) → (es : List SourceEnd) →
      AllByRecursion Unclean es
  unfolding Unclean
  entries_by by es = all_every (λ e. e.clean ≡ false → UncleanBy k c before after status.fault e) (λ e cut. by e) es

  made_failed : (task : ℕ) (b : Bool) (more : List Fault) → call_fault task Open b ≡ status.fault ∷ more →
      (status.fault ≡ Device task Open) × (b ≡ true)
  made_failed task true more is = (sym (ap first_fault is), refl)
  made_failed task false more is = cc

  -- a sink that stopped the run was not opened
  sink_stops : (u : Use) (more : List Fault) → IsCounted k before after c u → is_sink u ≡ true →
      opening_faults k c u ≡ status.fault ∷ more →
      (at : ℕ) × (status.fault ≡ Device at Open) × RoseAt k.plan before after Make at
  sink_stops (task, Polygon name) more counted sink is = absurd (let no : false ≡ true = sink in cc)
  sink_stops (task, Source name) more counted sink is = absurd (let no : false ≡ true = sink in cc)
  sink_stops (task, Store) more counted sink is = absurd (let no : false ≡ true = sink in cc)
  sink_stops (task, Sink name) more counted sink is =
      let made = made_failed task (c.failed Make task) more is in
      (task, made.0, rose_at k c before after Make task (Sink name) name counted (bytes_eq-self name) refl made.1)

  stop_entries : (sink : Bool) (es : List SourceEnd) → status.ends ≡ (if sink then es else []) →
      (sink ≡ true → (at : ℕ) × (status.fault ≡ Device at Open) × RoseAt k.plan before after Make at) →
      AllByRecursion Unclean status.ends
  stop_entries true es ends at =
      entries_by (λ e. AtOpening (at refl).0 (at refl).1 (at refl).2) status.ends
  stop_entries false es ends at = subst (AllByRecursion Unclean) (sym ends) tt

  far_unclean : IsCourse k.plan c before after → HowFar k c before after status → AllByRecursion Unclean status.ends
  far_unclean course (OutOfMemory m) = entries_by (λ e. AtMemory m.fault) status.ends
  far_unclean course (Stopped s) = stop_entries (is_sink s.last) (entries k.plan c) s.ends
      (λ sink. sink_stops s.last s.fault.0
      (last_opened k c before after status (IsCounted k before after c) s (opened_counted k c before after course)) sink
      s.fault.1)
  far_unclean course (Ran t) =
      subst (AllByRecursion Unclean) (sym t.ends)
      (flat_map_all Unclean (entry c) (uses k.plan)
      (all_both (IsCounted k before after c) (WasUsed k c)
      (λ u. AllByRecursion Unclean (entry c u)) entry_cause (uses k.plan)
      (all_counted k c before after t.opened course) t.used))

-- each entry that is not clean has its own reason
pub unclean_cause : (k : Command) (before after : Moment) (status : Status) (run : IsRun k before after status) →
    AllByRecursion (λ e. e.clean ≡ false → UncleanBy k run.course before after status.fault e) status.ends
unfolding Unclean
unclean_cause k before after status run = far_unclean k run.course before after status run.is_course run.how_far
