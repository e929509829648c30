-- A call that failed raised its count, so where a count did not rise no call failed.
use Rattle.std.proofs.Common.{◌≡◌, ℕ, suc, List, [], ◌∷◌, Bool, true, false, ◌&&◌, refl, ap, subst, ◌∙◌, arith}
use Rattle.std.specs.Prelude.{Contains}
use Rattle.std.specs.List.{AllByRecursion}
use Rattle.std.specs.Str.{bytes_eq}
use Rattle.std.proofs.lemmas.Slice.Eq.{bytes_eq-Decides}
use Rattle.osm_host.specs.Counts.{Rose}
use Rattle.osm_host.specs.Moments.{Moment}
use Rattle.osm_host.specs.declared.outside.Op.{Op}
use Rattle.osm_host.specs.declared.outside.Op.TheVariants.{Open as OpenOp, Make, Pull, Put, Keep as KeepOp}
use Rattle.osm_run.specs.Plan.{File, Polygon, Source, Store, Sink, Use, uses, openings, is_named, is_called}
use Rattle.osm_run.specs.Command.{Command}
use Rattle.osm_run.specs.Course.{Course, any_failed}
use Rattle.osm_run.specs.OnHost.{CountsBy, IsCourse}
use Rattle.osm_run.specs.HowFar.{AfterStop}
use Rattle.osm_run.specs.Causes.{RoseAt}
use Rattle.osm_run.specs.Headline.{NoneRose}
use Rattle.osm_run.specs.declared.status.Status.{Status}
use Rattle.osm_run.proofs.EachLemmas.{all_more, all_both, all_left, all_right, each_any}
use Rattle.osm_run.proofs.PlanLemmas.{all_uses, all_openings}

pub bytes_eq-self : (n : List ℕ) → bytes_eq n n ≡ true
bytes_eq-self n = (bytes_eq-Decides n n).1 refl

three_true : (a b d : Bool) → a ≡ true → b ≡ true → d ≡ true → (a && (b && d)) ≡ true
three_true a b d p q r = ap (λ x. x && (b && d)) p ∙ ap (λ x. x && d) q ∙ r

-- a call of this kind on this name failed at a file
abbrev pub Failed : Course → Op → List ℕ → Use → Type 0
Failed c op n u = (is_named n u && (is_called op u && c.failed op u.0)) ≡ true

-- each element is among its list
among_more : {X : Type 0} (x : X) (xs : List X) (y : X) → Contains xs y → Contains (x ∷ xs) y
among_more x xs y is = (suc is.0, omega (arith, is.1), is.2)

pub all_among : {X : Type 0} (xs : List X) → AllByRecursion (Contains xs) xs
all_among [] = tt
all_among (x ∷ xs) =
    ((0, omega arith, refl), all_more (Contains xs) (Contains (x ∷ xs)) (among_more x xs) xs (all_among xs))

-- a file of the plan: each of its calls that failed raised its count
pub record IsCounted (k : Command) (before after : Moment) (c : Course) (u : Use) : Type 0 where
  pub among : Contains (uses k.plan) u
  pub rose : (op : Op) (n : List ℕ) → Failed c op n u → Rose (before.count op n) (after.count op n)

rose_by : (any : Bool) (before after : ℕ) → any ≡ true → CountsBy any before after → Rose before after
rose_by true before after is by = by.rose
rose_by false before after is by = absurd (let no : false ≡ true = is in cc)

-- what holds of each element by kind of call and name holds of it for all kinds and names
all_ops : (Q : Use → Op → List ℕ → Type 0) (us : List Use) →
    ((op : Op) (n : List ℕ) → AllByRecursion (λ u. Q u op n) us) →
    AllByRecursion (λ u. (op : Op) (n : List ℕ) → Q u op n) us
all_ops Q [] every = tt
all_ops Q (u ∷ us) every = (λ op n. (every op n).0, all_ops Q us (λ op n. (every op n).1))

-- the files that were opened are counted
pub opened_counted : (k : Command) (c : Course) (before after : Moment) → IsCourse k.plan c before after →
    AllByRecursion (IsCounted k before after c) c.opened
opened_counted k c before after course =
    all_both (Contains (uses k.plan))
    (λ u. (op : Op) (n : List ℕ) → Failed c op n u → Rose (before.count op n) (after.count op n))
    (IsCounted k before after c) (λ u a b. record { among = a; rose = b }) c.opened
    (all_left (Contains (uses k.plan)) c.opened course.order.0
    (subst (AllByRecursion (Contains (uses k.plan))) course.order.1
    (all_openings (Contains (uses k.plan)) k.plan (all_among (uses k.plan)))))
    (all_ops (λ u op n. Failed c op n u → Rose (before.count op n) (after.count op n)) c.opened
    (λ op n. all_more (λ u. Failed c op n u → any_failed c op n ≡ true)
    (λ u. Failed c op n u → Rose (before.count op n) (after.count op n))
    (λ u any failed. rose_by (any_failed c op n) (before.count op n) (after.count op n) (any failed)
    (course.counts op n)) c.opened
    (each_any (λ u. is_named n u && (is_called op u && c.failed op u.0)) c.opened)))

-- where all files were opened, all files are counted
pub all_counted : (k : Command) (c : Course) (before after : Moment) → c.opened ≡ openings k.plan →
    IsCourse k.plan c before after → AllByRecursion (IsCounted k before after c) (uses k.plan)
all_counted k c before after opened course = all_uses (IsCounted k before after c) k.plan
    (subst (AllByRecursion (IsCounted k before after c)) opened (opened_counted k c before after course))

-- the count of a call that failed rose
pub counted_rose : (k : Command) (c : Course) (before after : Moment) (op : Op) (u : Use) (n : List ℕ) →
    IsCounted k before after c u → is_named n u ≡ true → is_called op u ≡ true → c.failed op u.0 ≡ true →
    Rose (before.count op n) (after.count op n)
counted_rose k c before after op u n counted named called failed =
    counted.rose op n (three_true (is_named n u) (is_called op u) (c.failed op u.0) named called failed)

-- the same, with the file
pub rose_at : (k : Command) (c : Course) (before after : Moment) (op : Op) (task : ℕ) (file : File) (name : List ℕ) →
    IsCounted k before after c (task, file) → is_named name (task, file) ≡ true → is_called op (task, file) ≡ true →
    c.failed op task ≡ true → RoseAt k.plan before after op task
rose_at k c before after op task file name counted named called failed = record {
  file = file;
  name = name;
  among = counted.among;
  named = named;
  called = called;
  rose = counted_rose k c before after op (task, file) name counted named called failed;
}

pub not_true : (b : Bool) → (b ≡ true → ⊥) → b ≡ false
not_true true never = absurd (never refl)
not_true false never = refl

-- where a count did not rise, no call failed
pub unfailed_at : (k : Command) (c : Course) (before after : Moment) (op : Op) (u : Use) (n : List ℕ) →
    IsCounted k before after c u → is_named n u ≡ true → is_called op u ≡ true →
    (Rose (before.count op n) (after.count op n) → ⊥) → c.failed op u.0 ≡ false
unfailed_at k c before after op u n counted named called calm =
    not_true (c.failed op u.0) (λ failed. calm (counted_rose k c before after op u n counted named called failed))

-- no call of a file failed
pub record IsUnfailed (c : Course) (u : Use) : Type 0 where
  pub each : (op : Op) → is_called op u ≡ true → c.failed op u.0 ≡ false

no_store_call : (op : Op) (task : ℕ) → is_called op (task, Store) ≡ true → ⊥
no_store_call OpenOp task is = let no : false ≡ true = is in cc
no_store_call Make task is = let no : false ≡ true = is in cc
no_store_call Pull task is = let no : false ≡ true = is in cc
no_store_call Put task is = let no : false ≡ true = is in cc
no_store_call KeepOp task is = let no : false ≡ true = is in cc

-- where no count rose, no call of a counted file failed
pub calm_unfailed : (k : Command) (c : Course) (before after : Moment) → NoneRose before after → (u : Use) →
    IsCounted k before after c u → IsUnfailed c u
calm_unfailed k c before after calm (task, Polygon name) counted = record {
  each = λ op called. unfailed_at k c before after op (task, Polygon name) name counted (bytes_eq-self name) called
      (calm op name);
}
calm_unfailed k c before after calm (task, Source name) counted = record {
  each = λ op called. unfailed_at k c before after op (task, Source name) name counted (bytes_eq-self name) called
      (calm op name);
}
calm_unfailed k c before after calm (task, Store) counted = record {
  each = λ op called. absurd (no_store_call op task called);
}
calm_unfailed k c before after calm (task, Sink name) counted = record {
  each = λ op called. unfailed_at k c before after op (task, Sink name) name counted (bytes_eq-self name) called
      (calm op name);
}

-- the last file of a run that stopped
pub last_opened : (k : Command) (c : Course) (before after : Moment) (status : Status) (P : Use → Type 0) →
    (s : AfterStop k c before after status) → AllByRecursion P c.opened → P s.last
last_opened k c before after status P s all =
    (all_right P s.earlier (s.last ∷ []) (subst (AllByRecursion P) s.opened all)).0
