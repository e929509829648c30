-- The run of a command whose first polygon file gives no area.
use Rattle.std.proofs.Common.{◌≡◌, ℕ, ◌+◌, ◌<◌, List, [], ◌∷◌, ◌++◌, length, Bool, true, false, ◌&&◌, ◌||◌, inl, inr, refl, sym, ap, subst, ◌∙◌, append-nil, arith}
use Rattle.std.specs.Prelude.{◌⊎◌, Contains, Option, Some, None, if◌then◌else◌, nat_lt}
use Rattle.std.specs.Str.{bytes_eq}
use Rattle.std.proofs.lemmas.Bool.{le-ltb, lt-ltb}
use Rattle.std.proofs.lemmas.List.Sums.{sum_by-cons}
use Rattle.osm_entity.specs.Meaning.{Whole}
use Rattle.osm_host.specs.Contents.{Files}
use Rattle.osm_host.specs.Counts.{is_at, raised}
use Rattle.osm_host.specs.Moments.{Moment}
use Rattle.osm_host.specs.declared.outside.HostError.{HostError}
use Rattle.osm_host.specs.declared.outside.HostError.TheVariants.{Failed, Memory as HostMemory}
use Rattle.osm_host.specs.declared.outside.Op.{Op}
use Rattle.osm_host.specs.declared.outside.Op.TheVariants.{Open as OpenOp, Make, Pull, Put, Keep}
use Rattle.osm_poly.specs.Poly.{poly}
use Rattle.osm_report.specs.declared.fault.Fault.{Fault}
use Rattle.osm_report.specs.declared.fault.Fault.TheVariants.{Device, Memory, TooLong}
use Rattle.osm_report.specs.declared.fault.DeviceCall.TheVariants.{Open, Read}
use Rattle.osm_run.specs.Command.{Command}
use Rattle.osm_run.specs.Commands.{finish_poly}
use Rattle.osm_run.specs.Course.{Course, any_failed, call_fault, given_under, opening_faults, polygon_limit, wrong_fault}
use Rattle.osm_run.specs.HowFar.{FilesAtMemory, FilesMade, HoldsPrefixBefore, HowRead, OutOfMemory, PassedLimit, PullFailed, ReachedEnd, Stopped, WhereTold}
use Rattle.osm_run.specs.OnHost.{CountsBy, GivesFile, IsCourse, SameNames}
use Rattle.osm_run.specs.Opened.{IsIdleRun, WasNotOpened, is_failure, refusal_fault}
use Rattle.osm_run.specs.Plan.{Polygon, Sink, Source, Store, Use, is_sink, openings, uses}
use Rattle.osm_run.specs.Polygons.{FileWasRead, IsReadWhereTold, NotOpened, NotPulled, PolygonWasRefused, RanOutOfMemory, SaidNoArea, WasLonger, has_ended, has_failed}
use Rattle.osm_run.specs.declared.areas.ReadEnd.{ReadEnd}
use Rattle.osm_run.specs.declared.areas.ReadEnd.TheVariants.{Ended, PastLimit, Refused}
use Rattle.osm_run.specs.declared.status.Status.{Status}
use Rattle.osm_run.proofs.EachLemmas.{all_every}
use Rattle.osm_run.proofs.PastLemmas.{HasFirst, later_files, openings_are_first}
use Rattle.osm_run.proofs.StoppedLemmas.{memory_run}

-- which calls of a polygon file failed
abbrev failed_as : (opening pull : Bool) → Op → Bool
failed_as opening pull OpenOp = opening
failed_as opening pull Make = false
failed_as opening pull Pull = pull
failed_as opening pull Put = false
failed_as opening pull Keep = false

-- the course of a run that stopped at its first polygon file
abbrev course_refused : ℕ → List ℕ → List ℕ → (clean opening pull : Bool) → Course
course_refused t name bytes clean opening pull = record {
  opened = (t, Polygon name) ∷ [];
  given = λ x. bytes;
  clean = λ x. clean;
  failed = λ op x. failed_as opening pull op;
  spilled = λ x. false;
}

-- the faults of opening, reading and looking at a polygon file
abbrev faults_as : Command → ℕ → List ℕ → (clean opening : Bool) → List Fault
faults_as k t bytes clean opening = call_fault t Open opening
    ++ (if clean then [] else (if nat_lt polygon_limit (length bytes) then TooLong t else Device t Read) ∷ [])
    ++ wrong_fault t (k.area bytes)

unfailed : (a b c : Bool) → ((c && (b && false)) || false) ≡ (a && (false && c))
unfailed true true true = refl
unfailed true true false = refl
unfailed true false true = refl
unfailed true false false = refl
unfailed false true true = refl
unfailed false true false = refl
unfailed false false true = refl
unfailed false false false = refl

swapped : (a b c : Bool) → ((c && (b && a)) || false) ≡ (a && (b && c))
swapped true true true = refl
swapped true true false = refl
swapped true false true = refl
swapped true false false = refl
swapped false true true = refl
swapped false true false = refl
swapped false false true = refl
swapped false false false = refl

-- a call failed on its name, by whether the opening did
at_open : (opening : Bool) (name : List ℕ) (t : ℕ) (o : Op) (n : List ℕ) →
    any_failed (course_refused t name [] false opening false) o n ≡ (opening && is_at OpenOp name o n)
at_open opening name t OpenOp n = swapped opening true (bytes_eq n name)
at_open opening name t Make n = unfailed opening false (bytes_eq n name)
at_open opening name t Pull n = unfailed opening true (bytes_eq n name)
at_open opening name t Put n = unfailed opening false (bytes_eq n name)
at_open opening name t Keep n = unfailed opening false (bytes_eq n name)

-- or by whether a pull did
at_pull : (pull clean : Bool) (name bytes : List ℕ) (t : ℕ) (o : Op) (n : List ℕ) →
    any_failed (course_refused t name bytes clean false pull) o n ≡ (pull && is_at Pull name o n)
at_pull pull clean name bytes t OpenOp n = unfailed pull true (bytes_eq n name)
at_pull pull clean name bytes t Make n = unfailed pull false (bytes_eq n name)
at_pull pull clean name bytes t Pull n = swapped pull true (bytes_eq n name)
at_pull pull clean name bytes t Put n = unfailed pull false (bytes_eq n name)
at_pull pull clean name bytes t Keep n = unfailed pull false (bytes_eq n name)

-- files that stayed are as they were made by none
stay_made : (before now : Option Files) (name : List ℕ) (t : ℕ) → now ≡ before → WhereTold before now (FilesMade [])
stay_made None now name t same = tt
stay_made (Some files) now name t same = (files, same, λ n. refl)

module _ (k : Command) (t : ℕ) (name : List ℕ) (has : HasFirst k t name) (before now : Moment) (status : Status)
    (ends : status.ends ≡ []) where
  order_first : (c : Course) → c.opened ≡ (t, Polygon name) ∷ [] →
      (later : List Use) × (openings k.plan ≡ c.opened ++ later)
  order_first c is = (
    later_files k t name has,
    openings_are_first k t name has
        ∙ ap (λ us. us ++ later_files k t name has) (sym is),
  )

  -- ---- a file that was read, and gives no area

  module _ (bytes : List ℕ) (end : ReadEnd) (read : FileWasRead name before now bytes end) where
    abbrev c : Course
    c = course_refused t name bytes (has_ended end) false (has_failed end)

    gives_first : (told : Option Files) → IsReadWhereTold told name bytes (has_ended end) →
        GivesFile told c (t, Polygon name)
    gives_first None is = tt
    gives_first (Some files) is = inr is

    gave_by : (b : Bool) (g len : ℕ) → (if b then raised g len else g) ≡ raised g ((if b then len else 0) + 0)
    gave_by true g len = omega arith
    gave_by false g len = omega arith

    is_course_of : IsCourse k.plan c before now
    is_course_of = record {
      order = order_first c refl;
      gives = (gives_first before.files read.told, tt);
      counts = λ o n. subst (λ b. CountsBy b (before.count o n) (now.count o n))
          (sym (at_pull (has_failed end) (has_ended end) name bytes t o n)) (read.counts o n);
      gave = λ n. read.gave n ∙ gave_by (bytes_eq n name) (before.gave n) (length bytes)
          ∙ ap (raised (before.gave n)) (sym (sum_by-cons (given_under c n) (t, Polygon name) []));
      known = read.known;
    }

    -- a run that stops there
    stops : HowRead c t polygon_limit Whole → (fault : (more : List Fault)
        × (opening_faults k c (t, Polygon name) ≡ status.fault ∷ more)) → IsIdleRun k before now status
    stops how fault = record {
      run = record {
        course = c;
        is_course = is_course_of;
        how_far = Stopped (record {
          earlier = [];
          last = (t, Polygon name);
          opened = refl;
          used = (inr how, tt);
          fine = refl;
          fault = fault;
          ends = ends;
          files = stay_made before.files now.files name t read.files;
        });
      };
      idle = λ none. none;
    }

    -- or is out of memory there
    nothing_held : (after : Files) (u : Use) → HoldsPrefixBefore k c 0 after u
    nothing_held after (x, Polygon n) = tt
    nothing_held after (x, Source n) = tt
    nothing_held after (x, Store) = tt
    nothing_held after (x, Sink n) = λ earlier. absurd (omega (arith, earlier))

    stay_at_memory : (was : Option Files) → now.files ≡ was → WhereTold was now.files (FilesAtMemory k c 0)
    stay_at_memory None same = tt
    stay_at_memory (Some files) same = (
      files,
      same,
      record {
        written = all_every (HoldsPrefixBefore k c 0 files) (nothing_held files) (uses k.plan);
        others = λ n none. refl;
      },
    )

    runs_out : status.fault ≡ Memory → IsIdleRun k before now status
    runs_out fault = record {
      run = record {
        course = c;
        is_course = is_course_of;
        how_far = OutOfMemory (record {
          place = 0;
          fault = fault;
          ends = inr (ends, (tt, tt));
          files = stay_at_memory before.files read.files;
        });
      };
      idle = λ none. none;
    }

  -- ---- a file that was not opened

  stop_unopened :
      (counts : (o : Op) (n : List ℕ) → CountsBy (is_at OpenOp name o n) (before.count o n) (now.count o n)) →
      now.files ≡ before.files → ((n : List ℕ) → now.gave n ≡ before.gave n) →
      SameNames now.known (before.known ++ name ∷ []) → status.fault ≡ Device t Open → IsIdleRun k before now status
  stop_unopened counts files gave known fault =
      let c : Course = course_refused t name [] false true false in
      record {
        run = record {
          course = c;
          is_course = record {
            order = order_first c refl;
            gives = (at_rest before.files, tt);
            counts = λ o n. subst (λ b. CountsBy b (before.count o n) (now.count o n))
                (sym (at_open true name t o n)) (counts o n);
            gave = λ n. gave n ∙ none_by (bytes_eq n name) (before.gave n)
                ∙ ap (raised (before.gave n)) (sym (sum_by-cons (given_under c n) (t, Polygon name) []));
            known = known;
          };
          how_far = Stopped (record {
            earlier = [];
            last = (t, Polygon name);
            opened = refl;
            used = (inl (refl, record { given = refl; clean = refl; pulled = refl }), tt);
            fine = refl;
            fault = (
              (Device t Read ∷ []) ++ wrong_fault t (k.area []),
              ap (λ f. f ∷ (Device t Read ∷ [])
                  ++ wrong_fault t (k.area [])) (sym fault),
            );
            ends = ends;
            files = stay_made before.files now.files name t files;
          });
        };
        idle = λ none. none;
      }
    where
      at_rest : (told : Option Files) →
          GivesFile told (course_refused t name [] false true false) (t, Polygon name)
      at_rest None = tt
      at_rest (Some m) = inl (record { given = refl; clean = refl; pulled = refl })

      none_by : (b : Bool) (g : ℕ) → g ≡ raised g ((if b then 0 else 0) + 0)
      none_by true g = omega arith
      none_by false g = omega arith

  memory_unopened : ((o : Op) (n : List ℕ) → now.count o n ≡ before.count o n) → now.files ≡ before.files →
      ((n : List ℕ) → now.gave n ≡ before.gave n) →
      ((SameNames now.known before.known) ⊎ SameNames now.known (before.known ++ name ∷ [])) →
      status.fault ≡ Memory → IsIdleRun k before now status
  memory_unopened counts files gave (inl known) fault =
      memory_run k before now [] [] (openings k.plan) 0 status refl (stay_made before.files now.files name t files) tt
      (all_every (λ v. is_sink v ≡ true → v.0 < 0 → Contains [] v) (λ v passes less. absurd (omega (arith, less)))
      (uses k.plan)) counts gave
      (λ n. (
        λ has. subst (λ ks. Contains ks n) (sym (append-nil before.known)) ((known n).0 has),
        λ has. (known n).1 (subst (λ ks. Contains ks n) (append-nil before.known) has),
      )) fault (inr (ends, tt))
  memory_unopened counts files gave (inr known) fault =
      memory_run k before now [] ((t, Polygon name) ∷ []) (later_files k t name has) 0 status
      (openings_are_first k t name has) (stay_made before.files now.files name t files) tt
      (all_every (λ v. is_sink v ≡ true → v.0 < 0 → Contains [] v) (λ v passes less. absurd (omega (arith, less)))
      (uses k.plan)) counts gave known fault (inr (ends, (refl, tt)))

  unopened : (fault : Fault) → status.fault ≡ fault → WasNotOpened OpenOp t name before now fault →
      IsIdleRun k before now status
  unopened fault is not = by_refusal not.refusal not.fault_is not.counts not.known
    where
      by_refusal : (refusal : HostError) → fault ≡ refusal_fault t refusal →
          ((o : Op) (n : List ℕ) → CountsBy (is_failure refusal && is_at OpenOp name o n) (before.count o n)
          (now.count o n)) → (SameNames now.known before.known × (refusal ≡ HostMemory))
          ⊎ SameNames now.known (before.known ++ name ∷ []) → IsIdleRun k before now status
      by_refusal Failed fault_is counts (inl known) = absurd (let no : Failed ≡ HostMemory = known.1 in cc)
      by_refusal Failed fault_is counts (inr known) = stop_unopened counts not.files not.gave known (is ∙ fault_is)
      by_refusal HostMemory fault_is counts (inl known) =
          memory_unopened counts not.files not.gave (inl known.0) (is ∙ fault_is)
      by_refusal HostMemory fault_is counts (inr known) =
          memory_unopened counts not.files not.gave (inr known) (is ∙ fault_is)

  -- ---- every case

  pub no_area : (area : (bytes : List ℕ) → k.area bytes ≡ finish_poly (poly bytes)) → (fault : Fault) →
      status.fault ≡ fault → PolygonWasRefused t name before now fault → IsIdleRun k before now status
  no_area area fault is (NotOpened not) = unopened fault is not
  no_area area fault is (NotPulled bytes read fault_is) =
      stops bytes Refused read (PullFailed refl refl read.fits) (
        wrong_fault t (k.area bytes),
        ap (λ b. (if b then TooLong t else Device t Read) ∷ wrong_fault t (k.area bytes))
            (le-ltb polygon_limit (length bytes) read.fits)
            ∙ ap (λ f. f ∷ wrong_fault t (k.area bytes)) (sym (is ∙ fault_is)),
      )
  no_area area fault is (WasLonger bytes read fault_is) =
      stops bytes PastLimit read (PassedLimit refl refl read.fits) (
        wrong_fault t (k.area bytes),
        ap (λ b. (if b then TooLong t else Device t Read) ∷ wrong_fault t (k.area bytes))
            (lt-ltb polygon_limit (length bytes) read.fits)
            ∙ ap (λ f. f ∷ wrong_fault t (k.area bytes)) (sym (is ∙ fault_is)),
      )
  no_area area fault is (SaidNoArea bytes line read says fault_is) =
      stops bytes Ended read (ReachedEnd refl refl read.fits) (
        [],
        ap (wrong_fault t) (area bytes ∙ ap finish_poly says)
            ∙ ap (λ f. f ∷ []) (sym (is ∙ fault_is)),
      )
  no_area area fault is (RanOutOfMemory bytes end read fault_is) = runs_out bytes end read (is ∙ fault_is)
