-- What a run that was out of memory leaves: first bytes of its writers up to a place, and all else as it was.
use Rattle.std.proofs.Common.{◌≡◌, ℕ, ◌<◌, List, [], ◌∷◌, Bool, true, false, ◌&&◌, ◌||◌, refl, sym, ap, subst, ◌∙◌}
use Rattle.std.specs.Prelude.{nat_lt}
use Rattle.std.specs.List.{AllByRecursion}
use Rattle.std.specs.Str.{bytes_eq}
use Rattle.osm_host.specs.Contents.{Files}
use Rattle.osm_host.specs.Counts.{Rose}
use Rattle.osm_host.specs.Moments.{Moment}
use Rattle.osm_host.specs.declared.outside.Op.TheVariants.{Keep}
use Rattle.osm_report.specs.declared.fault.Fault.{Fault}
use Rattle.osm_report.specs.declared.fault.Fault.TheVariants.{Clean, Memory}
use Rattle.osm_run.specs.Plan.{Polygon, Sink, Source, Store, Use, uses}
use Rattle.osm_run.specs.Command.{Command}
use Rattle.osm_run.specs.Course.{Course, first_fault, run_faults}
use Rattle.osm_run.specs.OnHost.{IsCourse}
use Rattle.osm_run.specs.HowFar.{FilesAtMemory, HoldsPrefixBefore, HowFar, OutOfMemory, Ran, Stopped, WhereTold, may_change}
use Rattle.osm_run.specs.Headline.{HoldPrefixesBefore, HoldsPrefixUnlessRose, is_sink_before}
use Rattle.osm_run.specs.Outcome.{IsRun}
use Rattle.osm_run.specs.declared.status.Status.{Status}
use Rattle.osm_run.proofs.CleanLemmas.{told_more}
use Rattle.osm_run.proofs.CountedLemmas.{IsCounted, bytes_eq-self, opened_counted, unfailed_at}
use Rattle.osm_run.proofs.EachLemmas.{all_both, all_more, none_any}
use Rattle.osm_run.proofs.FirstFaultLemmas.{IsMet, faults_met, is_met, opening_met}
use Rattle.osm_run.proofs.StayLemmas.{none_opened}
use Rattle.osm_run.proofs.NothingGivenLemmas.{all_has}

-- a fault of a file or of a task's input is not that of memory
met_not_memory : (fault : Fault) → IsMet fault → fault ≡ Memory → ⊥
met_not_memory fault met is = let never : false ≡ true = sym (ap is_met is) ∙ met in
    let no : false ≡ true = never in absurd (no_truth no) where
      no_truth : false ≡ true → ⊥
      no_truth is = cc

first_not_memory : (faults : List Fault) → AllByRecursion IsMet faults → first_fault faults ≡ Memory → ⊥
first_not_memory [] met is = let no : Clean ≡ Memory = is in cc
first_not_memory (fault ∷ more) met is = met_not_memory fault met.0 is

module _ (k : Command) (c : Course) (before after : Moment) (status : Status) (course : IsCourse k.plan c before after)
  where
    held : (now : Files) (place : ℕ) (u : Use) → HoldsPrefixBefore k c place now u → u.0 < place →
        HoldsPrefixUnlessRose k c before after now u
    held now place (task, Polygon name) is less = tt
    held now place (task, Source name) is less = tt
    held now place (task, Store) is less = tt
    held now place (task, Sink name) is less = λ calm.
        let counted : IsCounted k before after c (task, Sink name) = all_has (IsCounted k before after c) c.opened
        (task, Sink name) (opened_counted k c before after course) (is less).opened in
        (is less).prefix
        (unfailed_at k c before after Keep (task, Sink name) name counted (bytes_eq-self name) refl calm)

    unchanged : (n : List ℕ) (place : ℕ) → (Rose (before.count Keep n) (after.count Keep n) → ⊥) → (u : Use) →
        IsCounted k before after c u → is_sink_before place n u ≡ false → may_change c place n u ≡ false
    unchanged n place calm (task, Polygon name) counted is = refl
    unchanged n place calm (task, Source name) counted is = refl
    unchanged n place calm (task, Store) counted is = refl
    unchanged n place calm (task, Sink name) counted is = by_name (bytes_eq n name) refl is where
      earlier : (a b : Bool) → a ≡ false → b ≡ false → (a || b) ≡ false
      earlier true b is no_more = is
      earlier false b is no_more = no_more

      by_name : (b : Bool) → bytes_eq n name ≡ b → (b && nat_lt task place) ≡ false →
          (b && (nat_lt task place || c.failed Keep task)) ≡ false
      by_name true same is = earlier (nat_lt task place) (c.failed Keep task) is
          (unfailed_at k c before after Keep (task, Sink name) n counted same refl calm)
      by_name false same is = refl

    memory_far : HowFar k c before after status → status.fault ≡ Memory →
        WhereTold before.files after.files (λ was now. (place : ℕ) × HoldPrefixesBefore k c before after place was now)
    memory_far (Stopped s) is = absurd (met_not_memory status.fault
        (subst (AllByRecursion IsMet) s.fault.1 (opening_met k c s.last)).0 is)
    memory_far (Ran t) is = absurd (first_not_memory (run_faults k c) (faults_met k c) (sym t.fault ∙ is))
    memory_far (OutOfMemory m) is = told_more before.files after.files (FilesAtMemory k c m.place)
        (λ was now. (place : ℕ) × HoldPrefixesBefore k c before after place was now) m.files
        (λ was now files. (
          m.place,
          record {
            written = all_more (HoldsPrefixBefore k c m.place now)
                (λ u. u.0 < m.place → HoldsPrefixUnlessRose k c before after now u) (held now m.place) (uses k.plan)
                files.written;
            others = λ n none calm. files.others n (none_any (may_change c m.place n) c.opened
                (all_both (IsCounted k before after c) (λ u. is_sink_before m.place n u ≡ false)
                (λ u. may_change c m.place n u ≡ false) (unchanged n m.place calm) c.opened
                (opened_counted k c before after course)
                (none_opened k c before after (is_sink_before m.place n) course none)));
          },
        ))

-- the files of a run that was out of memory
pub memory_prefixes : (k : Command) (before after : Moment) (status : Status) (run : IsRun k before after status) →
    status.fault ≡ Memory → WhereTold before.files after.files
    (λ was now. (place : ℕ) × HoldPrefixesBefore k run.course before after place was now)
memory_prefixes k before after status run = memory_far k run.course before after status run.is_course run.how_far
