-- The run of a command whose first polygon file was read is, from there on, the run of a command without that file.
use Rattle.std.proofs.Common.{◌≡◌, ◌≢◌, ℕ, ◌+◌, ◌*◌, ◌<◌, ◌≤◌, List, [], ◌∷◌, ◌++◌, length, take, Bool, true, false, ◌&&◌, ◌||◌, inl, inr, refl, sym, ap, subst, ◌∙◌, append_assoc, arith}
use Rattle.std.specs.Prelude.{◌==◌, Contains, Option, Some, None, filter, flat_map, if◌then◌else◌, nat_lt, sum_by}
use Rattle.std.specs.FinMap as finite
use Rattle.std.specs.List.{AllByRecursion, list_any}
use Rattle.std.specs.Str.{bytes_eq}
use Rattle.std.proofs.lemmas.Bool.{eq-eqb, ne_eqb}
use Rattle.std.proofs.lemmas.Grind.{flat_map-append}
use Rattle.std.proofs.lemmas.List.Elements.{Contains-append_cases, Contains-append_left, Contains-append_right, filter-append}
use Rattle.std.proofs.lemmas.List.Folds.{list_any-append}
use Rattle.std.proofs.lemmas.List.Sums.{sum_by-cons}
use Rattle.osm_entity.specs.Meaning.{Finish, Meaning, Whole}
use Rattle.osm_host.specs.Contents.{Files}
use Rattle.osm_host.specs.Counts.{raised}
use Rattle.osm_host.specs.Moments.{Moment}
use Rattle.osm_host.specs.declared.outside.Op.{Op}
use Rattle.osm_host.specs.declared.outside.Op.TheVariants.{Open as OpenOp, Make, Pull, Put, Keep as KeepOp}
use Rattle.osm_report.specs.declared.fault.Fault.TheVariants.{Device, TooLong}
use Rattle.osm_report.specs.declared.fault.DeviceCall.TheVariants.{Open, Read, Write, Keep, Spill}
use Rattle.osm_run.specs.Command.{Command}
use Rattle.osm_run.specs.Course.{Course, any_failed, call_fault, entries, entry, file_faults, first_fault, given_under, is_cut_short, is_spilled, keep_faults, meaning_of, opening_faults, polygon_limit, run_faults, source_limit, task_faults, wrong_fault}
use Rattle.osm_run.specs.HowFar.{AfterMemory, AfterStop, AfterTasks, FilesAfter, FilesAtMemory, FilesMade, HoldsPrefixBefore, HowFar, HowRead, IsBeforeSinks, IsFileOf, IsWritten, OutOfMemory, PassedLimit, PullFailed, Ran, ReachedEnd, Stopped, WasOpened, WasUsed, WasWrong, WhereTold, may_change}
use Rattle.osm_run.specs.OnHost.{CountsBy, GivesFile, GivesFrom, IsAtRest, IsCourse, IsReadFrom, SameNames}
use Rattle.osm_run.specs.Plan.{File, Polygon, Sink, Source, Store, Use, is_called, is_named, is_polygon, is_sink, is_sink_named, is_source, is_store, names_of, numbered, openings, uses, uses_of}
use Rattle.osm_run.specs.Polygons.{FileWasRead, IsReadWhereTold}
use Rattle.osm_run.specs.Went.{messages_by, most_pulls_of}
use Rattle.osm_run.specs.WordsRun.{IsCountedRun, TakesSteps}
use Rattle.osm_run.specs.declared.areas.ReadEnd.TheVariants.{Ended}
use Rattle.osm_run.specs.declared.status.Status.{Status}
use Rattle.osm_run.proofs.AlikeLemmas.{all_alike, any_alike, flat_map_alike, none_left_filter, sum_alike}
use Rattle.osm_run.proofs.CallLemmas.{raised-raised}
use Rattle.osm_run.proofs.CleanLemmas.{told_more}
use Rattle.osm_run.proofs.EachLemmas.{all_append, all_every, all_left, all_more, all_right, flat_map_all, map_all}
use Rattle.osm_run.proofs.KnownLemmas.{same_names-trans}
use Rattle.osm_run.proofs.NothingGivenLemmas.{flat_map_same}
use Rattle.osm_run.proofs.PlanLemmas.{all_openings}

-- ---- lists whose elements are told alike
-- ---- a polygon file in a plan

-- the course of a run that first read a polygon file whole
abbrev pub course_past : ℕ → List ℕ → List ℕ → Course → Course
course_past t name bytes c = record {
  opened = (t, Polygon name) ∷ c.opened;
  given = λ x. if x == t then bytes else c.given x;
  clean = λ x. if x == t then true else c.clean x;
  failed = λ op x. if x == t then false else c.failed op x;
  spilled = c.spilled;
}

-- a file of another task
abbrev pub IsOfOther : ℕ → Use → Type 0
IsOfOther t u = u.0 ≢ t

-- the first polygon file of a command is that of a task
pub record HasFirst (k : Command) (t : ℕ) (name : List ℕ) : Type 0 where
  pub first : List (ℕ × List File)
  pub rest : List (ℕ × List File)
  pub numbers : numbered k.plan ≡ first ++ (t, Polygon name ∷ []) ∷ rest
  pub no_polygon : AllByRecursion (λ u. is_polygon u ≡ false) (flat_map uses_of first)

module _ (k : Command) (t : ℕ) (name : List ℕ) (has : HasFirst k t name) where
  abbrev pub front : List Use
  front = flat_map uses_of has.first

  abbrev pub back : List Use
  back = flat_map uses_of has.rest

  pub uses_are : uses k.plan ≡ front ++ (t, Polygon name) ∷ back
  uses_are = ap (flat_map uses_of) has.numbers ∙ flat_map-append uses_of has.first ((t, Polygon name ∷ []) ∷ has.rest)

  -- the files that are opened behind it
  abbrev pub later_files : List Use
  later_files = filter is_polygon (front ++ back) ++ filter is_source (front ++ back) ++ filter is_store (front ++ back)
      ++ filter is_sink (front ++ back)

  without : (test : Use → Bool) → test (t, Polygon name) ≡ false →
      filter test (uses k.plan) ≡ filter test (front ++ back)
  without test fails =
      ap (filter test) uses_are ∙ filter-append test front ((t, Polygon name) ∷ back)
      ∙ ap (λ b. filter test front ++ (if b then (t, Polygon name) ∷ filter test back else filter test back)) fails
      ∙ sym (filter-append test front back)

  polygons_are : filter is_polygon (uses k.plan) ≡ (t, Polygon name) ∷ filter is_polygon (front ++ back)
  polygons_are =
      let none : filter is_polygon front ≡ [] = none_left_filter is_polygon front has.no_polygon in
      ap (filter is_polygon) uses_are ∙ filter-append is_polygon front ((t, Polygon name) ∷ back)
      ∙ ap (λ us. us ++ (t, Polygon name) ∷ filter is_polygon back) none
      ∙ ap (λ us. (t, Polygon name) ∷ us) (sym (filter-append is_polygon front back
      ∙ ap (λ us. us ++ filter is_polygon back) none))

  -- it is opened first
  pub openings_are_first : openings k.plan ≡ (t, Polygon name) ∷ later_files
  openings_are_first =
      ap (λ us. us ++ filter is_source (uses k.plan) ++ filter is_store (uses k.plan) ++ filter is_sink (uses k.plan))
      polygons_are
      ∙ ap (λ us. ((t, Polygon name) ∷ filter is_polygon (front ++ back)) ++ us ++ filter is_store (uses k.plan)
      ++ filter is_sink (uses k.plan)) (without is_source refl)
      ∙ ap (λ us. ((t, Polygon name) ∷ filter is_polygon (front ++ back)) ++ filter is_source (front ++ back) ++ us
      ++ filter is_sink (uses k.plan)) (without is_store refl)
      ∙ ap (λ us. ((t, Polygon name) ∷ filter is_polygon (front ++ back)) ++ filter is_source (front ++ back)
      ++ filter is_store (front ++ back) ++ us) (without is_sink refl)

-- a command is another behind the reading of its first polygon file
pub record IsPast (k past : Command) (t : ℕ) (name bytes : List ℕ) : Type 0 where
  pub has : HasFirst k t name
  pub numbers : numbered past.plan ≡ has.first ++ (t, []) ∷ has.rest
  pub first_others : AllByRecursion (λ x. x.0 ≢ t) has.first
  pub rest_others : AllByRecursion (λ x. x.0 ≢ t) has.rest
  pub area : k.area bytes ≡ Whole
  pub same_area : past.area ≡ k.area
  pub leads : past.leads ≡ k.leads
  pub meant : (c : Course) → meaning_of k (course_past t name bytes c) ≡ meaning_of past c
  pub messages : (c : Course) → messages_by k (course_past t name bytes c) ≡ messages_by past c
  pub few : length bytes ≤ polygon_limit

others_of : (t : ℕ) (xs : List (ℕ × List File)) → AllByRecursion (λ x. x.0 ≢ t) xs →
    AllByRecursion (IsOfOther t) (flat_map uses_of xs)
others_of t xs others = flat_map_all (IsOfOther t) uses_of xs
    (all_more (λ x. x.0 ≢ t) (λ x. AllByRecursion (IsOfOther t) (uses_of x))
    (λ x other. map_all (IsOfOther t) (λ file. (x.0, file)) x.1 (all_every (λ file. x.0 ≢ t) (λ file. other) x.1)) xs
    others)

module _ (k past : Command) (t : ℕ) (name bytes : List ℕ) (is : IsPast k past t name bytes) (c : Course) where
  abbrev d : Course
  d = course_past t name bytes c

  abbrev fore : List Use
  fore = front k t name is.has

  abbrev aft : List Use
  aft = back k t name is.has

  uses_past : uses past.plan ≡ fore ++ aft
  uses_past = ap (flat_map uses_of) is.numbers ∙ flat_map-append uses_of is.has.first ((t, []) ∷ is.has.rest)

  fore_others : AllByRecursion (IsOfOther t) fore
  fore_others = others_of t is.has.first is.first_others

  aft_others : AllByRecursion (IsOfOther t) aft
  aft_others = others_of t is.has.rest is.rest_others

  all_others : AllByRecursion (IsOfOther t) (uses past.plan)
  all_others = subst (AllByRecursion (IsOfOther t)) (sym uses_past)
      (all_append (IsOfOther t) fore aft fore_others aft_others)

  -- ---- what is told of another task

  own : (t == t) ≡ true
  own = eq-eqb t t refl

  given_is : (x : ℕ) → x ≢ t → d.given x ≡ c.given x
  given_is x other = ap (λ b. if b then bytes else c.given x) (ne_eqb x t other)

  clean_is : (x : ℕ) → x ≢ t → d.clean x ≡ c.clean x
  clean_is x other = ap (λ b. if b then true else c.clean x) (ne_eqb x t other)

  failed_is : (op : Op) (x : ℕ) → x ≢ t → d.failed op x ≡ c.failed op x
  failed_is op x other = ap (λ b. if b then false else c.failed op x) (ne_eqb x t other)

  given_own : d.given t ≡ bytes
  given_own = ap (λ b. if b then bytes else c.given t) own

  clean_own : d.clean t ≡ true
  clean_own = ap (λ b. if b then true else c.clean t) own

  failed_own : (op : Op) → d.failed op t ≡ false
  failed_own op = ap (λ b. if b then false else c.failed op t) own

  entry_is : (u : Use) → IsOfOther t u → entry d u ≡ entry c u
  entry_is (x, Polygon n) other = refl
  entry_is (x, Source n) other =
      ap (λ b. record { task = x; given = length b; clean = d.clean x } ∷ []) (given_is x other)
      ∙ ap (λ b. record { task = x; given = length (c.given x); clean = b } ∷ []) (clean_is x other)
  entry_is (x, Store) other = refl
  entry_is (x, Sink n) other = refl

  rest_is : (x : ℕ) → x ≢ t → IsAtRest c x → IsAtRest d x
  rest_is x other rest = record {
    given = given_is x other ∙ rest.given;
    clean = clean_is x other ∙ rest.clean;
    pulled = failed_is Pull x other ∙ rest.pulled;
  }

  read_is : (x limit : ℕ) (finish : Finish) → x ≢ t → HowRead c x limit finish → HowRead d x limit finish
  read_is x limit finish other (ReachedEnd clean pulled few) = ReachedEnd (clean_is x other ∙ clean)
      (failed_is Pull x other ∙ pulled) (subst (λ b. length b ≤ limit) (sym (given_is x other)) few)
  read_is x limit finish other (PassedLimit clean pulled long) = PassedLimit (clean_is x other ∙ clean)
      (failed_is Pull x other ∙ pulled) (subst (λ b. limit < length b) (sym (given_is x other)) long)
  read_is x limit finish other (PullFailed clean pulled few) = PullFailed (clean_is x other ∙ clean)
      (failed_is Pull x other ∙ pulled) (subst (λ b. length b ≤ limit) (sym (given_is x other)) few)
  read_is x limit finish other (WasWrong cause spot clean wrong) =
      WasWrong cause spot (clean_is x other ∙ clean) wrong

  gives_from : (files : Files) (x : ℕ) (n : List ℕ) → x ≢ t → GivesFrom files c x n → GivesFrom files d x n
  gives_from files x n other (inl rest) = inl (rest_is x other rest)
  gives_from files x n other (inr read) =
      inr (subst (λ b. IsReadFrom b (d.clean x) (finite.get files n)) (sym (given_is x other))
      (subst (λ b. IsReadFrom (c.given x) b (finite.get files n)) (sym (clean_is x other)) read))

  gives_is : (told : Option Files) (u : Use) → IsOfOther t u → GivesFile told c u → GivesFile told d u
  gives_is None (x, Polygon n) other gives = tt
  gives_is None (x, Source n) other gives = tt
  gives_is None (x, Store) other gives = tt
  gives_is None (x, Sink n) other gives = tt
  gives_is (Some files) (x, Polygon n) other gives = gives_from files x n other gives
  gives_is (Some files) (x, Source n) other gives = gives_from files x n other gives
  gives_is (Some files) (x, Store) other gives = tt
  gives_is (Some files) (x, Sink n) other gives = tt

  under_is : (n : List ℕ) (u : Use) → IsOfOther t u → given_under d n u ≡ given_under c n u
  under_is n (x, Polygon m) other = ap (λ b. if bytes_eq n m then length b else 0) (given_is x other)
  under_is n (x, Source m) other = ap (λ b. if bytes_eq n m then length b else 0) (given_is x other)
  under_is n (x, Store) other = refl
  under_is n (x, Sink m) other = refl

  fails_is : (op : Op) (n : List ℕ) (u : Use) → IsOfOther t u →
      (is_named n u && (is_called op u && d.failed op u.0)) ≡ (is_named n u && (is_called op u && c.failed op u.0))
  fails_is op n u other = ap (λ b. is_named n u && (is_called op u && b)) (failed_is op u.0 other)

  opened_is : (u : Use) → IsOfOther t u → WasOpened c u → WasOpened d u
  opened_is (x, Polygon n) other (inl failed) = inl (failed_is OpenOp x other ∙ failed.0, rest_is x other failed.1)
  opened_is (x, Polygon n) other (inr read) = inr (read_is x polygon_limit Whole other read)
  opened_is (x, Source n) other rest = rest_is x other rest
  opened_is (x, Store) other spilled = spilled
  opened_is (x, Sink n) other both =
      (failed_is Put x other ∙ both.0, failed_is KeepOp x other ∙ both.1)

  cut_is : (x limit : ℕ) → x ≢ t →
      (if d.clean x then [] else (if nat_lt limit (length (d.given x)) then TooLong x else Device x Read) ∷ [])
      ≡ (if c.clean x then [] else (if nat_lt limit (length (c.given x)) then TooLong x else Device x Read) ∷ [])
  cut_is x limit other =
      ap (λ b. if d.clean x then [] else (if nat_lt limit (length b) then TooLong x else Device x Read) ∷ [])
      (given_is x other)
      ∙ ap (λ b. if b then [] else (if nat_lt limit (length (c.given x)) then TooLong x else Device x Read) ∷ [])
      (clean_is x other)

  opening_is : (u : Use) → IsOfOther t u → opening_faults k d u ≡ opening_faults past c u
  opening_is (x, Polygon n) other =
      ap (λ b. call_fault x Open b ++ (if d.clean x then [] else (if nat_lt polygon_limit (length (d.given x))
      then TooLong x else Device x Read) ∷ []) ++ wrong_fault x (k.area (d.given x))) (failed_is OpenOp x other)
      ∙ ap (λ fs. call_fault x Open (c.failed OpenOp x) ++ fs ++ wrong_fault x (k.area (d.given x)))
      (cut_is x polygon_limit other)
      ∙ ap (λ b. call_fault x Open (c.failed OpenOp x) ++ (if c.clean x then [] else
      (if nat_lt polygon_limit (length (c.given x)) then TooLong x else Device x Read) ∷ [])
      ++ wrong_fault x (k.area b)) (given_is x other)
      ∙ ap (λ area. call_fault x Open (c.failed OpenOp x) ++ (if c.clean x then [] else
      (if nat_lt polygon_limit (length (c.given x)) then TooLong x else Device x Read) ∷ [])
      ++ wrong_fault x (area (c.given x))) (sym is.same_area)
  opening_is (x, Source n) other = ap (call_fault x Open) (failed_is OpenOp x other)
  opening_is (x, Store) other = ap (call_fault x Spill) (failed_is OpenOp x other)
  opening_is (x, Sink n) other = ap (call_fault x Open) (failed_is Make x other)

  file_is : (x : ℕ) → x ≢ t → (file : File) → file_faults d x file ≡ file_faults c x file
  file_is x other (Polygon n) = refl
  file_is x other (Source n) = cut_is x source_limit other
  file_is x other Store = refl
  file_is x other (Sink n) = ap (call_fault x Write) (failed_is Put x other)

  keep_is : (u : Use) → IsOfOther t u → keep_faults d u ≡ keep_faults c u
  keep_is (x, Polygon n) other = refl
  keep_is (x, Source n) other = refl
  keep_is (x, Store) other = refl
  keep_is (x, Sink n) other = ap (call_fault x Keep) (failed_is KeepOp x other)

  -- ---- lists over all files

  listed : {Y : Type 0} (f g : Use → List Y) → f (t, Polygon name) ≡ [] →
      ((u : Use) → IsOfOther t u → f u ≡ g u) → flat_map f (uses k.plan) ≡ flat_map g (uses past.plan)
  listed f g none same =
      let left_out : flat_map f ((t, Polygon name) ∷ aft) ≡ flat_map f aft = ap (λ ys. ys ++ flat_map f aft) none in
      ap (flat_map f) (uses_are k t name is.has)
      ∙ flat_map-append f fore ((t, Polygon name) ∷ aft)
      ∙ ap (λ ys. flat_map f fore ++ ys) left_out
      ∙ sym (flat_map-append f fore aft)
      ∙ ap (flat_map f) (sym uses_past)
      ∙ flat_map_alike (IsOfOther t) f g same (uses past.plan) all_others

  found : (f g : Use → Bool) → f (t, Polygon name) ≡ false → ((u : Use) → f u ≡ g u) →
      list_any f (uses k.plan) ≡ list_any g (uses past.plan)
  found f g none same =
      ap (list_any f) (uses_are k t name is.has)
      ∙ list_any-append f fore ((t, Polygon name) ∷ aft)
      ∙ ap (λ b. list_any f fore || (b || list_any f aft)) none
      ∙ sym (list_any-append f fore aft)
      ∙ ap (list_any f) (sym uses_past)
      ∙ any_alike (IsOfOther t) f g (λ u other. same u) (uses past.plan) all_others

  each_file : (P Q : Use → Type 0) → Q (t, Polygon name) → ((u : Use) → IsOfOther t u → P u → Q u) →
      AllByRecursion P (uses past.plan) → AllByRecursion Q (uses k.plan)
  each_file P Q here more all =
      let parts : AllByRecursion Q (fore ++ aft) = subst (AllByRecursion Q) uses_past
      (all_alike (IsOfOther t) P Q more (uses past.plan) all_others all) in
      subst (AllByRecursion Q) (sym (uses_are k t name is.has))
      (all_append Q fore ((t, Polygon name) ∷ aft) (all_left Q fore aft parts) (here, all_right Q fore aft parts))

  entries_are : entries k.plan d ≡ entries past.plan c
  entries_are = listed (entry d) (entry c) refl entry_is

  meaning_is : meaning_of k d ≡ meaning_of past c
  meaning_is = is.meant c

  task_is : (x : ℕ × List File) → x.0 ≢ t → task_faults (meaning_of k d) d x ≡ task_faults (meaning_of past c) c x
  task_is x other =
      ap (λ (m : Meaning). wrong_fault x.0 (m.finish x.0) ++ flat_map (file_faults d x.0) x.1) meaning_is
      ∙ ap (λ fs. wrong_fault x.0 ((meaning_of past c).finish x.0) ++ fs)
      (flat_map_same (file_faults d x.0) (file_faults c x.0) (file_is x.0 other) x.1)

  faults_are : run_faults k d ≡ run_faults past c
  faults_are =
      let own_task : task_faults (meaning_of k d) d (t, Polygon name ∷ []) ≡ task_faults (meaning_of past c) c (t, []) =
      ap (λ (m : Meaning). wrong_fault t (m.finish t) ++ []) meaning_is in
      let behind : flat_map (task_faults (meaning_of k d) d) ((t, Polygon name ∷ []) ∷ is.has.rest)
      ≡ flat_map (task_faults (meaning_of past c) c) ((t, []) ∷ is.has.rest) =
      ap (λ fs. fs ++ flat_map (task_faults (meaning_of k d) d) is.has.rest) own_task
      ∙ ap (λ fs. task_faults (meaning_of past c) c (t, []) ++ fs)
      (flat_map_alike (λ x. x.0 ≢ t) (task_faults (meaning_of k d) d) (task_faults (meaning_of past c) c) task_is
      is.has.rest is.rest_others) in
      let tasks : flat_map (task_faults (meaning_of k d) d) (numbered k.plan)
      ≡ flat_map (task_faults (meaning_of past c) c) (numbered past.plan) =
      ap (flat_map (task_faults (meaning_of k d) d)) is.has.numbers
      ∙ flat_map-append (task_faults (meaning_of k d) d) is.has.first ((t, Polygon name ∷ []) ∷ is.has.rest)
      ∙ ap (λ fs. fs ++ flat_map (task_faults (meaning_of k d) d) ((t, Polygon name ∷ []) ∷ is.has.rest))
      (flat_map_alike (λ x. x.0 ≢ t) (task_faults (meaning_of k d) d) (task_faults (meaning_of past c) c) task_is
      is.has.first is.first_others)
      ∙ ap (λ fs. flat_map (task_faults (meaning_of past c) c) is.has.first ++ fs) behind
      ∙ sym (flat_map-append (task_faults (meaning_of past c) c) is.has.first ((t, []) ∷ is.has.rest))
      ∙ sym (ap (flat_map (task_faults (meaning_of past c) c)) is.numbers) in
      ap (λ fs. fs ++ flat_map (keep_faults d) (uses k.plan)) tasks
      ∙ ap (λ fs. flat_map (task_faults (meaning_of past c) c) (numbered past.plan) ++ fs)
      (listed (keep_faults d) (keep_faults c) refl keep_is)

  spilled_is : (x : ℕ) → is_spilled k d x ≡ is_spilled past c x
  spilled_is x =
      found (λ u. is_store u && (c.spilled u.0 && k.leads u.0 x))
      (λ u. is_store u && (c.spilled u.0 && past.leads u.0 x)) refl
      (λ u. ap (λ leads. is_store u && (c.spilled u.0 && leads u.0 x)) (sym is.leads))

  written_is : (now : Files) (u : Use) → IsOfOther t u → IsWritten past c now u → IsWritten k d now u
  written_is now (x, Polygon n) other written = tt
  written_is now (x, Source n) other written = tt
  written_is now (x, Store) other written = tt
  written_is now (x, Sink n) other written =
      subst (λ (m : Meaning). IsFileOf (m.bytes x) (is_cut_short k d x) (d.failed KeepOp x) (finite.get now n))
      (sym meaning_is)
      (subst (λ b. IsFileOf ((meaning_of past c).bytes x) b (d.failed KeepOp x) (finite.get now n))
      (sym (ap (λ b. b || is_spilled k d x) (failed_is Put x other)
      ∙ ap (λ b. c.failed Put x || b) (spilled_is x)))
      (subst (λ b. IsFileOf ((meaning_of past c).bytes x) (is_cut_short past c x) b (finite.get now n))
      (sym (failed_is KeepOp x other)) written))

  prefix_is : (place : ℕ) (now : Files) (u : Use) → IsOfOther t u → HoldsPrefixBefore past c place now u →
      HoldsPrefixBefore k d place now u
  prefix_is place now (x, Polygon n) other held = tt
  prefix_is place now (x, Source n) other held = tt
  prefix_is place now (x, Store) other held = tt
  prefix_is place now (x, Sink n) other held = λ earlier.
      let there = held earlier in record {
        opened = Contains-append_right ((t, Polygon name) ∷ []) c.opened (x, Sink n) there.opened;
        prefix = λ kept. subst (λ (m : Meaning). (size : ℕ) × (finite.get now n ≡ Some (take size (m.bytes x))))
            (sym meaning_is) (there.prefix (sym (failed_is KeepOp x other) ∙ kept));
      }

  change_is : (place : ℕ) (n : List ℕ) (u : Use) → IsOfOther t u → may_change d place n u ≡ may_change c place n u
  change_is place n (x, Polygon m) other = refl
  change_is place n (x, Source m) other = refl
  change_is place n (x, Store) other = refl
  change_is place n (x, Sink m) other =
      ap (λ b. bytes_eq n m && (nat_lt x place || b)) (failed_is KeepOp x other)

  before_is : (u : Use) → IsOfOther t u → IsBeforeSinks c u → IsBeforeSinks d u
  before_is (x, Polygon n) other none = tt
  before_is (x, Source n) other rest = rest_is x other rest
  before_is (x, Store) other none = tt
  before_is (x, Sink n) other none = none

  used_is : (u : Use) → IsOfOther t u → WasUsed past c u → WasUsed k d u
  used_is (x, Polygon n) other read = read_is x polygon_limit Whole other read
  used_is (x, Source n) other read =
      subst (λ (m : Meaning). HowRead d x source_limit (m.finish x)) (sym meaning_is)
      (read_is x source_limit ((meaning_of past c).finish x) other read)
  used_is (x, Store) other none = tt
  used_is (x, Sink n) other none = tt

  -- ---- the polygon file itself

  read_whole : HowRead d t polygon_limit Whole
  read_whole = ReachedEnd clean_own (failed_own Pull) (subst (λ b. length b ≤ polygon_limit) (sym given_own) is.few)

  fine_own : opening_faults k d (t, Polygon name) ≡ []
  fine_own =
      ap (λ b. call_fault t Open b ++ (if d.clean t then [] else (if nat_lt polygon_limit (length (d.given t))
      then TooLong t else Device t Read) ∷ []) ++ wrong_fault t (k.area (d.given t))) (failed_own OpenOp)
      ∙ ap (λ b. (if b then [] else (if nat_lt polygon_limit (length (d.given t)) then TooLong t
      else Device t Read) ∷ []) ++ wrong_fault t (k.area (d.given t))) clean_own
      ∙ ap (λ b. wrong_fault t (k.area b)) given_own
      ∙ ap (wrong_fault t) is.area

  module _ (before now after : Moment) (read : FileWasRead name before now bytes Ended)
      (course : IsCourse past.plan c now after) where
    others_opened : AllByRecursion (IsOfOther t) c.opened
    others_opened = all_left (IsOfOther t) c.opened course.order.0
        (subst (AllByRecursion (IsOfOther t)) course.order.1 (all_openings (IsOfOther t) past.plan all_others))

    first_given : (told : Option Files) → told ≡ before.files → GivesFile told d (t, Polygon name)
    first_given None here = tt
    first_given (Some files) here =
        inr (subst (λ b. IsReadFrom b (d.clean t) (finite.get files name)) (sym given_own)
        (subst (λ b. IsReadFrom bytes b (finite.get files name)) (sym clean_own)
        (subst (λ told. IsReadWhereTold told name bytes true) (sym here) read.told)))

    failed_alike : (op : Op) (n : List ℕ) → any_failed d op n ≡ any_failed c op n
    failed_alike op n =
        ap (λ b. (bytes_eq n name && (is_called op (t, Polygon name) && b))
        || list_any (λ u. is_named n u && (is_called op u && d.failed op u.0)) c.opened) (failed_own op)
        ∙ ap (λ b. b || list_any (λ u. is_named n u && (is_called op u && d.failed op u.0)) c.opened)
        (never (bytes_eq n name) (is_called op (t, Polygon name)))
        ∙ any_alike (IsOfOther t) (λ u. is_named n u && (is_called op u && d.failed op u.0))
        (λ u. is_named n u && (is_called op u && c.failed op u.0)) (fails_is op n) c.opened others_opened
      where
        never : (a b : Bool) → (a && (b && false)) ≡ false
        never true true = refl
        never true false = refl
        never false b = refl

    gave_then : (n : List ℕ) → after.gave n ≡ raised (before.gave n) (sum_by (given_under d n) d.opened)
    gave_then n =
        let more : ℕ = sum_by (given_under c n) c.opened in
        course.gave n
        ∙ ap (λ g. raised g more) (read.gave n)
        ∙ by_name (bytes_eq n name) (before.gave n) (length bytes) more
        ∙ ap (λ b. raised (before.gave n) ((if bytes_eq n name then length b else 0) + more)) (sym given_own)
        ∙ ap (λ s. raised (before.gave n) (given_under d n (t, Polygon name) + s))
        (sym (sum_alike (IsOfOther t) (given_under d n) (given_under c n) (under_is n) c.opened others_opened))
        ∙ ap (raised (before.gave n)) (sym (sum_by-cons (given_under d n) (t, Polygon name) c.opened))
      where
        by_name : (b : Bool) (g len more : ℕ) → raised (if b then raised g len else g) more
            ≡ raised g ((if b then len else 0) + more)
        by_name true g len more = raised-raised g len more
        by_name false g len more = ap (raised g) (let e : more ≡ 0 + more = omega arith in e)

    names_more : SameNames (now.known ++ flat_map names_of c.opened) (before.known ++ flat_map names_of d.opened)
    names_more n = (
      λ has. subst (λ ks. Contains ks n) (append_assoc before.known (name ∷ []) (flat_map names_of c.opened))
          (among now.known (before.known ++ name ∷ []) (flat_map names_of c.opened) (λ m. (read.known m).0) n has),
      λ has. among (before.known ++ name ∷ []) now.known (flat_map names_of c.opened) (λ m. (read.known m).1) n
          (subst (λ ks. Contains ks n) (sym (append_assoc before.known (name ∷ []) (flat_map names_of c.opened))) has),
    )
      where
        among : (xs ys zs : List (List ℕ)) → ((m : List ℕ) → Contains xs m → Contains ys m) → (n : List ℕ) →
            Contains (xs ++ zs) n → Contains (ys ++ zs) n
        among xs ys zs more n has = elim (Contains-append_cases xs zs n has) [
          | inl left ↦ Contains-append_left ys zs n (more n left)
          | inr right ↦ Contains-append_right ys zs n right
        ]

    pub course_then : IsCourse k.plan d before after
    course_then = record {
      order = (
        course.order.0,
        openings_are_first k t name is.has
            ∙ ap (λ us. (t, Polygon name) ∷ us)
            (sym (ap (λ us. filter is_polygon us ++ filter is_source us ++ filter is_store us ++ filter is_sink us)
            uses_past) ∙ course.order.1),
      );
      gives = (
        first_given before.files refl,
        all_alike (IsOfOther t) (GivesFile before.files c) (GivesFile before.files d) (gives_is before.files) c.opened
            others_opened (subst (λ told. AllByRecursion (GivesFile told c) c.opened) read.files course.gives),
      );
      counts = λ op n. subst (λ b. CountsBy b (before.count op n) (after.count op n)) (sym (failed_alike op n))
          (subst (λ m. CountsBy (any_failed c op n) m (after.count op n)) (read.counts op n) (course.counts op n));
      gave = gave_then;
      known = same_names-trans after.known (now.known ++ flat_map names_of c.opened)
          (before.known ++ flat_map names_of d.opened) course.known names_more;
    }

    stop_then : (status : Status) → AfterStop past c now after status → AfterStop k d before after status
    stop_then status stop =
        let parts : AllByRecursion (IsOfOther t) (stop.earlier ++ stop.last ∷ []) =
        subst (AllByRecursion (IsOfOther t)) stop.opened others_opened in
        let earlier_others : AllByRecursion (IsOfOther t) stop.earlier =
        all_left (IsOfOther t) stop.earlier (stop.last ∷ []) parts in
        let last_other : IsOfOther t stop.last =
        (all_right (IsOfOther t) stop.earlier (stop.last ∷ []) parts).0 in
        record {
          earlier = (t, Polygon name) ∷ stop.earlier;
          last = stop.last;
          opened = ap (λ us. (t, Polygon name) ∷ us) stop.opened;
          used = (
            inr read_whole,
            all_alike (IsOfOther t) (WasOpened c) (WasOpened d) opened_is c.opened others_opened
                stop.used,
          );
          fine = ap (λ fs. fs ++ flat_map (opening_faults k d) stop.earlier) fine_own
              ∙ flat_map_alike (IsOfOther t) (opening_faults k d) (opening_faults past c) opening_is stop.earlier
              earlier_others ∙ stop.fine;
          fault = (stop.fault.0, opening_is stop.last last_other ∙ stop.fault.1);
          ends = stop.ends ∙ ap (λ es. if is_sink stop.last then es else []) (sym entries_are);
          files = subst (λ told. WhereTold told after.files (FilesMade ((t, Polygon name) ∷ stop.earlier))) read.files
              stop.files;
        }

    tasks_then : (status : Status) → AfterTasks past c now after status → AfterTasks k d before after status
    tasks_then status ran = record {
      opened = ap (λ us. (t, Polygon name) ∷ us) ran.opened
          ∙ sym (openings_are_first k t name is.has
          ∙ ap (λ us. (t, Polygon name) ∷ us)
          (sym (ap (λ us. filter is_polygon us ++ filter is_source us ++ filter is_store us ++ filter is_sink us)
          uses_past)));
      fine = ap (λ fs. fs ++ flat_map (opening_faults k d) c.opened) fine_own
          ∙ flat_map_alike (IsOfOther t) (opening_faults k d) (opening_faults past c) opening_is c.opened others_opened
          ∙ ran.fine;
      used = each_file (WasUsed past c) (WasUsed k d) read_whole used_is ran.used;
      fault = ran.fault ∙ ap first_fault (sym faults_are);
      ends = ran.ends ∙ sym entries_are;
      files = subst (λ told. WhereTold told after.files (FilesAfter k d)) read.files
          (told_more now.files after.files (FilesAfter past c) (FilesAfter k d) ran.files
          (λ was later held. record {
            written = each_file (IsWritten past c later) (IsWritten k d later) tt (written_is later) held.written;
            others = λ n none. held.others n
                (sym (found (is_sink_named n) (is_sink_named n) refl (λ u. refl)) ∙ none);
          }));
    }

    memory_then : (status : Status) → AfterMemory past c now after status → AfterMemory k d before after status
    memory_then status out = record {
      place = out.place;
      fault = out.fault;
      ends = elim out.ends [
        | inl all ↦ inl (all ∙ sym entries_are)
        | inr none ↦ inr (
          none.0,
          (tt, all_alike (IsOfOther t) (IsBeforeSinks c) (IsBeforeSinks d) before_is c.opened others_opened none.1),
        )
      ];
      files = subst (λ told. WhereTold told after.files (FilesAtMemory k d out.place)) read.files
          (told_more now.files after.files (FilesAtMemory past c out.place) (FilesAtMemory k d out.place) out.files
          (λ was later held. record {
            written = each_file (HoldsPrefixBefore past c out.place later) (HoldsPrefixBefore k d out.place later) tt
                (prefix_is out.place later) held.written;
            others = λ n none. held.others n
                (sym (any_alike (IsOfOther t) (may_change d out.place n) (may_change c out.place n)
                (change_is out.place n) c.opened others_opened) ∙ none);
          }));
    }

    far_then : (status : Status) → HowFar past c now after status → HowFar k d before after status
    far_then status (Stopped stop) = Stopped (stop_then status stop)
    far_then status (Ran ran) = Ran (tasks_then status ran)
    far_then status (OutOfMemory out) = OutOfMemory (memory_then status out)

    steps_then : (status : Status) (steps : ℕ) (far : HowFar past c now after status) →
        TakesSteps past c status.ends far steps → TakesSteps k d status.ends (far_then status far) steps
    unfolding far_then
    steps_then status steps (Stopped stop) took = took
    steps_then status steps (Ran ran) took =
        subst (λ m. (2 * m ≤ steps) × (steps ≤ 2 * m + most_pulls_of status.ends)) (sym (is.messages c)) took
    steps_then status steps (OutOfMemory out) took =
        subst (λ m. steps ≤ 2 * m + most_pulls_of status.ends) (sym (is.messages c)) took

-- what runs behind the reading of the first polygon file of a command runs as the command
pub past_run : (k past : Command) (t : ℕ) (name bytes : List ℕ) (before now after : Moment) (status : Status)
    (steps : ℕ) → IsPast k past t name bytes → FileWasRead name before now bytes Ended →
    IsCountedRun past now after status steps → IsCountedRun k before after status steps
past_run k past t name bytes before now after status steps is read r = record {
  run = record {
    course = course_past t name bytes r.run.course;
    is_course = course_then k past t name bytes is r.run.course before now after read r.run.is_course;
    how_far = far_then k past t name bytes is r.run.course before now after read r.run.is_course status r.run.how_far;
  };
  counted = steps_then k past t name bytes is r.run.course before now after read r.run.is_course status steps
      r.run.how_far r.counted;
}
