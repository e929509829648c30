-- The run of a command that ended before its tasks ran: at a file that was not opened, or out of memory.
use Rattle.std.proofs.Common.{◌≡◌, ℕ, ◌<◌, List, [], ◌∷◌, ◌++◌, Bool, true, false, cond, ◌&&◌, ◌||◌, refl, sym, ap, subst, ◌∙◌, inl, inr}
use Rattle.std.specs.Prelude.{◌⊎◌, ◌==◌, Contains, Some, flat_map, if◌then◌else◌, nat_lt}
use Rattle.std.specs.FinMap as finite
use Rattle.std.specs.List.{AllByRecursion}
use Rattle.std.specs.Str.{bytes_eq}
use Rattle.std.proofs.lemmas.Bool.{eq-eqb, lt-ltb, ne_eqb}
use Rattle.std.proofs.lemmas.List.Elements.{Contains-append_left}
use Rattle.std.proofs.lemmas.List.Folds.{list_any_at, list_any-append}
use Rattle.osm_host.specs.Contents.{Files}
use Rattle.osm_host.specs.Counts.{SameCounts, is_at, op_number}
use Rattle.osm_host.specs.Moments.{Moment}
use Rattle.osm_host.specs.declared.outside.Op.{Op}
use Rattle.osm_host.specs.declared.outside.Op.TheVariants.{Open as OpenOp, Make, Pull, Put, Keep}
use Rattle.osm_report.specs.declared.fault.Fault.TheVariants.{Device, Memory}
use Rattle.osm_report.specs.declared.fault.DeviceCall.TheVariants.{Open}
use Rattle.osm_run.specs.Plan.{Polygon, Sink, Source, Store, Use, is_called, is_named, is_sink, is_sink_named, names_of, openings, uses}
use Rattle.osm_run.specs.Command.{Command}
use Rattle.osm_run.specs.Course.{Course, any_failed, entries, opening_faults}
use Rattle.osm_run.specs.OnHost.{CountsBy, GivesFile, IsAtRest, SameNames}
use Rattle.osm_run.specs.HowFar.{FilesAtMemory, FilesMade, HoldsPrefixBefore, IsBeforeSinks, OthersAtMemory, OutOfMemory, Stopped, WasOpened, WhereTold, may_change}
use Rattle.osm_run.specs.Outcome.{IsRun}
use Rattle.osm_run.specs.Opened.{IsIdleRun, course_at_rest}
use Rattle.osm_run.specs.declared.status.Status.{Status}
use Rattle.osm_run.proofs.CallLemmas.{text_same}
use Rattle.osm_run.proofs.CleanLemmas.{told_more}
use Rattle.osm_run.proofs.EachLemmas.{all_append, all_both, all_every, all_left, all_more, any_none, none_any}
use Rattle.osm_run.proofs.NothingGivenLemmas.{entries_same, failing_course, gave_none, gives_nothing}

module _ (k : Command) (before after : Moment) (us more later : List Use) (place : ℕ) (status : Status)
    (order : openings k.plan ≡ (us ++ more) ++ later)
    (files : WhereTold before.files after.files (FilesMade us))
    (below : AllByRecursion (λ v. is_sink v ≡ true → v.0 < place) us)
    (all : AllByRecursion (λ v. is_sink v ≡ true → v.0 < place → Contains us v) (uses k.plan))
    (counts : SameCounts before.count after.count) (gave : (n : List ℕ) → after.gave n ≡ before.gave n)
    (known : SameNames after.known (before.known ++ flat_map names_of (us ++ more)))
    (fault : status.fault ≡ Memory)
    (ends : (status.ends ≡ entries k.plan (course_at_rest []))
    ⊎ ((status.ends ≡ []) × AllByRecursion (λ v. is_sink v ≡ false) (us ++ more))) where
  unfailed : (o : Op) (n : List ℕ) → any_failed (course_at_rest (us ++ more)) o n ≡ false
  unfailed o n = none_any (λ u. is_named n u && (is_called o u && false)) (us ++ more)
      (all_every (λ u. (is_named n u && (is_called o u && false)) ≡ false)
      (λ u. neither (is_named n u) (is_called o u)) (us ++ more)) where
        neither : (a b : Bool) → (a && (b && false)) ≡ false
        neither true true = refl
        neither true false = refl
        neither false b = refl

  made_so : (now : Files) (task : ℕ) (name : List ℕ) → Contains us (task, Sink name) → (was : Files) →
      FilesMade us was now → finite.get now name ≡ Some []
  made_so now task name has was made = made name
      ∙ ap (λ b. cond b (Some []) (finite.get was name))
      (list_any_at (is_sink_named name) us has.0 (task, Sink name) has.1
      (ap (is_sink_named name) has.2 ∙ text_same name))

  held : (was now : Files) → FilesMade us was now → (u : Use) → (is_sink u ≡ true → u.0 < place → Contains us u) →
      HoldsPrefixBefore k (course_at_rest (us ++ more)) place now u
  held was now made (task, Polygon name) has = tt
  held was now made (task, Source name) has = tt
  held was now made (task, Store) has = tt
  held was now made (task, Sink name) has = λ earlier. record {
    opened = Contains-append_left us more (task, Sink name) (has refl earlier);
    prefix = λ kept. (0, made_so now task name (has refl earlier) was made);
  }

  unmade : (n : List ℕ) (u : Use) → (is_sink u ≡ true → u.0 < place) →
      may_change (course_at_rest (us ++ more)) place n u ≡ false → is_sink_named n u ≡ false
  unmade n (task, Polygon name) less same = refl
  unmade n (task, Source name) less same = refl
  unmade n (task, Store) less same = refl
  unmade n (task, Sink name) less same =
      changed (bytes_eq n name) (nat_lt task place) (lt-ltb task place (less refl)) same where
        changed : (a b : Bool) → b ≡ true → (a && (b || false)) ≡ false → a ≡ false
        changed true true is stays = stays
        changed true false is stays = let never : false ≡ true = is in cc
        changed false b is stays = refl

  others_so : (was now : Files) → FilesMade us was now → OthersAtMemory (course_at_rest (us ++ more)) place was now
  others_so was now made n none = made n ∙ ap (λ b. cond b (Some []) (finite.get was n))
      (none_any (is_sink_named n) us
      (all_both (λ u. is_sink u ≡ true → u.0 < place)
      (λ u. may_change (course_at_rest (us ++ more)) place n u ≡ false)
      (λ u. is_sink_named n u ≡ false) (unmade n) us below
      (all_left (λ u. may_change (course_at_rest (us ++ more)) place n u ≡ false) us more
      (any_none (may_change (course_at_rest (us ++ more)) place n) (us ++ more) none))))

  no_sinks_yet : (u : Use) → is_sink u ≡ false → IsBeforeSinks (course_at_rest (us ++ more)) u
  no_sinks_yet (task, Polygon name) is = tt
  no_sinks_yet (task, Source name) is = record { given = refl; clean = refl; pulled = refl }
  no_sinks_yet (task, Store) is = tt
  no_sinks_yet (task, Sink name) is = let no : true ≡ false = is in cc

  abbrev memory_is_run : IsRun k before after status
  memory_is_run = record {
    course = course_at_rest (us ++ more);
    is_course = record {
      order = (later, order);
      gives = all_every (GivesFile before.files (course_at_rest (us ++ more)))
          (gives_nothing before.files (course_at_rest (us ++ more))
          (λ t. record { given = refl; clean = refl; pulled = refl })) (us ++ more);
      counts = λ o n. subst (λ b. CountsBy b (before.count o n) (after.count o n)) (sym (unfailed o n)) (counts o n);
      gave = λ n. gave_none (course_at_rest (us ++ more)) (us ++ more) (λ t. refl) n (before.gave n) (after.gave n)
          (gave n);
      known = known;
    };
    how_far = OutOfMemory (record {
      place = place;
      fault = fault;
      ends = elim ends [
        | inl rest ↦ inl (rest ∙ entries_same k.plan (course_at_rest []) (course_at_rest (us ++ more)) (λ t. refl)
            (λ t. refl))
        | inr none ↦ inr (
          none.0,
          all_more (λ v. is_sink v ≡ false) (IsBeforeSinks (course_at_rest (us ++ more)))
              no_sinks_yet (us ++ more) none.1,
        )
      ];
      files = told_more before.files after.files (FilesMade us)
          (FilesAtMemory k (course_at_rest (us ++ more)) place) files
          (λ was now made. record {
            written = all_more (λ v. is_sink v ≡ true → v.0 < place → Contains us v)
                (HoldsPrefixBefore k (course_at_rest (us ++ more)) place now) (held was now made) (uses k.plan) all;
            others = others_so was now made;
          });
    });
  }

  -- a run that was out of memory before its tasks ran
  pub memory_run : IsIdleRun k before after status
  memory_run = record { run = memory_is_run; idle = λ none. none }

-- the file of a task at which a run stopped: a sink or a source
abbrev pub stop_use : Bool → ℕ → List ℕ → Use
stop_use true t name = (t, Sink name)
stop_use false t name = (t, Source name)

-- the call by which it is opened
abbrev pub stop_op : Bool → Op
stop_op true = Make
stop_op false = OpenOp

-- a source or a sink of another task
abbrev pub IsOther : ℕ → Use → Type 0
IsOther t (x, Source name) = x ≡ t → ⊥
IsOther t (x, Sink name) = x ≡ t → ⊥
IsOther t (x, file) = ⊥

-- that call failed for that task
abbrev failed_at : Bool → ℕ → Op → ℕ → Bool
failed_at sink t o x = (op_number o == op_number (stop_op sink)) && (x == t)

last_false : (a b c d : Bool) → d ≡ false → (a && (b && (c && d))) ≡ false
last_false true true true d is = is
last_false true true false d is = refl
last_false true false c d is = refl
last_false false b c d is = refl

last_true : (a d : Bool) → d ≡ true → (a && d) ≡ a
last_true true d is = is
last_true false d is = refl

and_none : (a b : Bool) → (a && (b && false)) ≡ false
and_none true true = refl
and_none true false = refl
and_none false b = refl

flat_map_none : {X Y : Type 0} (f : X → List Y) (xs : List X) → AllByRecursion (λ x. f x ≡ []) xs → flat_map f xs ≡ []
flat_map_none f [] none = refl
flat_map_none f (x ∷ xs) none = ap (λ ys. ys ++ flat_map f xs) none.0 ∙ flat_map_none f xs none.1

module _ (k : Command) (before after : Moment) (sink : Bool) (t : ℕ) (name : List ℕ) (us later : List Use)
    (status : Status) (order : openings k.plan ≡ (us ++ stop_use sink t name ∷ []) ++ later)
    (others : AllByRecursion (IsOther t) us)
    (files : WhereTold before.files after.files (FilesMade us))
    (counts : (o : Op) (n : List ℕ) →
    CountsBy (is_at (stop_op sink) name o n) (before.count o n) (after.count o n))
    (gave : (n : List ℕ) → after.gave n ≡ before.gave n)
    (known : SameNames after.known (before.known ++ flat_map names_of (us ++ stop_use sink t name ∷ [])))
    (fault : status.fault ≡ Device t Open)
    (ends : status.ends ≡ (if sink then entries k.plan (course_at_rest []) else [])) where
  -- the course of such a run
  abbrev stopped : Course
  stopped = failing_course (us ++ stop_use sink t name ∷ []) (failed_at sink t)

  self : (t == t) ≡ true
  self = eq-eqb t t refl

  calm_other : (o : Op) (n : List ℕ) (v : Use) → IsOther t v →
      (is_named n v && (is_called o v && failed_at sink t o v.0)) ≡ false
  calm_other o n (x, Polygon other) is = absurd is
  calm_other o n (x, Store) is = absurd is
  calm_other o n (x, Source other) is = last_false (bytes_eq n other) (is_called o (x, Source other))
      (op_number o == op_number (stop_op sink)) (x == t) (ne_eqb x t is)
  calm_other o n (x, Sink other) is = last_false (bytes_eq n other) (is_called o (x, Sink other))
      (op_number o == op_number (stop_op sink)) (x == t) (ne_eqb x t is)

  failed_here : (b : Bool) (o : Op) (n : List ℕ) →
      (is_named n (stop_use b t name) && (is_called o (stop_use b t name) && failed_at b t o (stop_use b t name).0))
      ≡ is_at (stop_op b) name o n
  failed_here true OpenOp n = and_none (bytes_eq n name) false
  failed_here true Make n = last_true (bytes_eq n name) (t == t) self
  failed_here true Pull n = and_none (bytes_eq n name) false
  failed_here true Put n = and_none (bytes_eq n name) true
  failed_here true Keep n = and_none (bytes_eq n name) true
  failed_here false OpenOp n = last_true (bytes_eq n name) (t == t) self
  failed_here false Make n = and_none (bytes_eq n name) false
  failed_here false Pull n = and_none (bytes_eq n name) true
  failed_here false Put n = and_none (bytes_eq n name) false
  failed_here false Keep n = and_none (bytes_eq n name) false

  abbrev test : Op → List ℕ → Use → Bool
  test o n u = is_named n u && (is_called o u && failed_at sink t o u.0)

  any_is : (o : Op) (n : List ℕ) →
      any_failed (failing_course (us ++ stop_use sink t name ∷ []) (failed_at sink t)) o n
      ≡ is_at (stop_op sink) name o n
  any_is o n = list_any-append (test o n) us (stop_use sink t name ∷ [])
      ∙ ap (λ b. b || (test o n (stop_use sink t name) || false))
      (none_any (test o n) us (all_more (IsOther t) (λ u. test o n u ≡ false) (calm_other o n) us others))
      ∙ or_none (test o n (stop_use sink t name)) ∙ failed_here sink o n where
        or_none : (b : Bool) → (b || false) ≡ b
        or_none true = refl
        or_none false = refl

  at_rest : (b : Bool) (x : ℕ) → IsAtRest (failing_course (us ++ stop_use b t name ∷ []) (failed_at b t)) x
  at_rest true x = record { given = refl; clean = refl; pulled = refl }
  at_rest false x = record { given = refl; clean = refl; pulled = refl }

  was_opened : (b : Bool) (u : Use) → IsOther t u →
      WasOpened (failing_course (us ++ stop_use b t name ∷ []) (failed_at b t)) u
  was_opened b (x, Polygon other) is = absurd is
  was_opened b (x, Store) is = absurd is
  was_opened b (x, Source other) is = at_rest b x
  was_opened true (x, Sink other) is = (refl, refl)
  was_opened false (x, Sink other) is = (refl, refl)

  was_last : (b : Bool) → WasOpened (failing_course (us ++ stop_use b t name ∷ []) (failed_at b t)) (stop_use b t name)
  was_last true = (refl, refl)
  was_last false = at_rest false t

  no_fault : (b : Bool) (u : Use) → IsOther t u →
      opening_faults k (failing_course (us ++ stop_use b t name ∷ []) (failed_at b t)) u ≡ []
  no_fault b (x, Polygon other) is = absurd is
  no_fault b (x, Store) is = absurd is
  no_fault true (x, Source other) is = refl
  no_fault false (x, Source other) is = ap (λ b. if b then Device x Open ∷ [] else []) (ne_eqb x t is)
  no_fault true (x, Sink other) is = ap (λ b. if b then Device x Open ∷ [] else []) (ne_eqb x t is)
  no_fault false (x, Sink other) is = refl

  its_fault : (b : Bool) →
      opening_faults k (failing_course (us ++ stop_use b t name ∷ []) (failed_at b t)) (stop_use b t name)
      ≡ Device t Open ∷ []
  its_fault true = ap (λ b. if b then Device t Open ∷ [] else []) self
  its_fault false = ap (λ b. if b then Device t Open ∷ [] else []) self

  ends_are : (b : Bool) → status.ends ≡ (if b then entries k.plan (course_at_rest []) else []) →
      status.ends ≡ (if is_sink (stop_use b t name) then
      entries k.plan (failing_course (us ++ stop_use b t name ∷ []) (failed_at b t)) else [])
  ends_are true is = is ∙ entries_same k.plan (course_at_rest [])
      (failing_course (us ++ (t, Sink name) ∷ []) (failed_at true t)) (λ x. refl) (λ x. refl)
  ends_are false is = is

  abbrev stopped_is_run : IsRun k before after status
  stopped_is_run = record {
    course = stopped;
    is_course = record {
      order = (later, order);
      gives = all_every (GivesFile before.files stopped) (gives_nothing before.files stopped (at_rest sink))
          (us ++ stop_use sink t name ∷ []);
      counts = λ o n. subst (λ b. CountsBy b (before.count o n) (after.count o n)) (sym (any_is o n)) (counts o n);
      gave = λ n. gave_none stopped (us ++ stop_use sink t name ∷ []) (λ x. refl) n (before.gave n) (after.gave n)
          (gave n);
      known = known;
    };
    how_far = Stopped (record {
      earlier = us;
      last = stop_use sink t name;
      opened = refl;
      used = all_append (WasOpened stopped) us (stop_use sink t name ∷ [])
          (all_more (IsOther t) (WasOpened stopped) (was_opened sink) us others) (was_last sink, tt);
      fine = flat_map_none (opening_faults k stopped) us
          (all_more (IsOther t) (λ u. opening_faults k stopped u ≡ []) (no_fault sink) us others);
      fault = ([], its_fault sink ∙ ap (λ f. f ∷ []) (sym fault));
      ends = ends_are sink ends;
      files = files;
    });
  }

  -- a run that stopped at a file whose opening failed
  pub stopped_run : IsIdleRun k before after status
  stopped_run = record { run = stopped_is_run; idle = λ none. none }
