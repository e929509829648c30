-- What one file more that is opened, or a task without one, leaves of what was opened before.
use Rattle.std.proofs.Common.{◌≡◌, ℕ, ◌+◌, ◌<◌, List, [], ◌∷◌, ◌++◌, length, get_or, set, Bool, true, false, cond, ◌||◌, refl, sym, ap, subst, ◌∙◌, arith, inl, inr, append_assoc}
use Rattle.std.specs.Prelude.{Option, Some, None, flat_map, nat_lt}
use Rattle.std.specs.FinMap as finite
use Rattle.std.specs.List.{AllByRecursion, list_any}
use Rattle.std.specs.Str.{bytes_eq}
use Rattle.std.proofs.lemmas.Bool.{lt-ltb, le-ltb, cases_eq, cases_lt}
use Rattle.std.proofs.lemmas.Grind.{flat_map-append}
use Rattle.std.proofs.lemmas.List.{append-nil, get_or-set_other, get_or-set_same}
use Rattle.std.proofs.lemmas.List.Folds.{list_any-append}
use Rattle.osm_host.specs.Contents.{Files, IsContent, IsEmptyWhereTold, set_file}
use Rattle.osm_run.specs.Plan.{File, Plan, Sink, Use, is_sink, is_sink_named, names_of}
use Rattle.osm_run.specs.OnHost.{SameNames}
use Rattle.osm_run.specs.HowFar.{FilesMade, WhereTold}
use Rattle.osm_run.specs.Went.{DeviceSeen, NoDevice, device_at}
use Rattle.osm_run.specs.Opened.{IsOpenedWhere, ReadsOrWrites, sink_name, source_name}
use Rattle.osm_run.proofs.CallLemmas.{get-insert_named}
use Rattle.osm_run.proofs.CleanLemmas.{told_more}
use Rattle.osm_run.proofs.EachLemmas.{all_more}
use Rattle.osm_run.proofs.KnownLemmas.{same_names-push, same_names-trans}
use Rattle.osm_run.proofs.StayLemmas.{not_made, not_sink}
use Rattle.osm_run.proofs.UsesLemmas.{by_plain}

-- tests of a number below another, and below one more
pub below_more_other : (k t : ℕ) → (k ≡ t → ⊥) → nat_lt k (t + 1) ≡ nat_lt k t
below_more_other k t other = elim (cases_lt k t) [
  | inl less ↦ lt-ltb k (t + 1) (omega (arith, less)) ∙ sym (lt-ltb k t less)
  | inr more ↦ le-ltb k (t + 1) (omega (arith, more, other)) ∙ sym (le-ltb k t more)
]

pub below_next : (t : ℕ) → nat_lt t (t + 1) ≡ true
below_next t = lt-ltb t (t + 1) (omega arith)

pub not_below : (t : ℕ) → nat_lt t t ≡ false
not_below t = le-ltb t t (omega arith)

-- the same device of the same files at the same stage
pub opened_is : (files : Option Files) (r s w v : Bool) (fs gs : List File) (d e : DeviceSeen) → r ≡ s → w ≡ v → fs ≡ gs →
    d ≡ e → IsOpenedWhere files s v gs e → IsOpenedWhere files r w fs d
opened_is files r s w v fs gs d e read written file device is =
    subst (λ x. IsOpenedWhere files x w fs d) (sym read)
    (subst (λ x. IsOpenedWhere files s x fs d) (sym written)
    (subst (λ x. IsOpenedWhere files s v x d) (sym file)
    (subst (λ x. IsOpenedWhere files s v gs x) (sym device) is)))

-- one task more was looked at: all other devices are as they were
pub each_more : (plan : Plan) (files : Option Files) (i j k l t : ℕ) (old new : List DeviceSeen) →
    ((x : ℕ) → (x ≡ t → ⊥) → nat_lt x k ≡ nat_lt x i) → ((x : ℕ) → (x ≡ t → ⊥) → nat_lt x l ≡ nat_lt x j) →
    ((x : ℕ) → (x ≡ t → ⊥) → device_at new x ≡ device_at old x) →
    IsOpenedWhere files (nat_lt t k) (nat_lt t l) (get_or plan t []) (device_at new t) →
    ((x : ℕ) → x < length plan → IsOpenedWhere files (nat_lt x i) (nat_lt x j) (get_or plan x []) (device_at old x)) →
    (x : ℕ) → x < length plan → IsOpenedWhere files (nat_lt x k) (nat_lt x l) (get_or plan x []) (device_at new x)
each_more plan files i j k l t old new read written others here before x within = elim (cases_eq x t) [
  | inl same ↦ subst (λ y. IsOpenedWhere files (nat_lt y k) (nat_lt y l) (get_or plan y []) (device_at new y))
      (sym same) here
  | inr other ↦ opened_is files (nat_lt x k) (nat_lt x i) (nat_lt x l) (nat_lt x j) (get_or plan x [])
      (get_or plan x []) (device_at new x) (device_at old x) (read x other) (written x other) refl (others x other)
      (before x within)
]

-- a task without a source is as it was
pub skip_source : (files : Option Files) (w : Bool) (fs : List File) (d : DeviceSeen) → ReadsOrWrites fs →
    source_name fs ≡ None → IsOpenedWhere files false w fs d → IsOpenedWhere files true w fs d
skip_source files w fs d plain = by_plain
    (λ gs. source_name gs ≡ None → IsOpenedWhere files false w gs d → IsOpenedWhere files true w gs d)
    (λ none is. is) (λ name none is. absurd (let no : Some name ≡ None = none in cc)) (λ name none is. is) fs plain

-- a task without a sink is as it was
pub skip_sink : (files : Option Files) (r : Bool) (fs : List File) (d : DeviceSeen) → ReadsOrWrites fs →
    sink_name fs ≡ None → IsOpenedWhere files r false fs d → IsOpenedWhere files r true fs d
skip_sink files r fs d plain = by_plain
    (λ gs. sink_name gs ≡ None → IsOpenedWhere files r false gs d → IsOpenedWhere files r true gs d)
    (λ none is. is) (λ name none is. is) (λ name none is. absurd (let no : Some name ≡ None = none in cc)) fs plain

-- the name of one file more is known
pub known_more : (before middle now : List (List ℕ)) (us : List Use) (u : Use) (name : List ℕ) →
    names_of u ≡ name ∷ [] → SameNames middle (before ++ flat_map names_of us) → SameNames now (middle ++ name ∷ []) →
    SameNames now (before ++ flat_map names_of (us ++ u ∷ []))
known_more before middle now us u name named first more =
    subst (λ ns. SameNames now (before ++ ns)) (sym (flat_map-append names_of us (u ∷ [])))
    (subst (λ ns. SameNames now ns) (append_assoc before (flat_map names_of us) (flat_map names_of (u ∷ [])))
    (subst (λ ns. SameNames now ((before ++ flat_map names_of us) ++ ns)) (sym (append-nil (names_of u) ∙ named))
    (same_names-trans now (middle ++ name ∷ []) ((before ++ flat_map names_of us) ++ name ∷ []) more
    (same_names-push middle (before ++ flat_map names_of us) name first))))

-- a file that is no sink is made by no one
pub made_same : (us : List Use) (u : Use) (was now : Files) → is_sink u ≡ false → FilesMade us was now →
    FilesMade (us ++ u ∷ []) was now
made_same us u was now other made n = made n
    ∙ ap (λ b. cond b (Some []) (finite.get was n)) (sym (list_any-append (is_sink_named n) us (u ∷ [])
    ∙ ap (λ b. list_any (is_sink_named n) us || (b || false)) (not_sink n u other)
    ∙ or_none (list_any (is_sink_named n) us))) where
      or_none : (b : Bool) → (b || false) ≡ b
      or_none true = refl
      or_none false = refl

-- a sink is made by its opening
pub made_more : (us : List Use) (t : ℕ) (name : List ℕ) (was now : Files) → FilesMade us was now →
    FilesMade (us ++ (t, Sink name) ∷ []) was (finite.insert now name [])
made_more us t name was now made n =
    get-insert_named now name [] n ∙ ap (λ o. cond (bytes_eq n name) (Some []) o) (made n)
    ∙ either (list_any (is_sink_named n) us) (bytes_eq n name)
    ∙ ap (λ b. cond b (Some []) (finite.get was n)) (sym (list_any-append (is_sink_named n) us ((t, Sink name) ∷ [])))
  where
    either : (a b : Bool) → cond b (Some []) (cond a (Some []) (finite.get was n))
        ≡ cond (a || (b || false)) (Some []) (finite.get was n)
    either true true = refl
    either true false = refl
    either false true = refl
    either false false = refl

-- files that are as they were, or of which one was made empty
pub told_same : (before middle now : Option Files) (P Q : Files → Files → Type 0) → WhereTold before middle P →
    now ≡ middle → ((m n : Files) → P m n → Q m n) → WhereTold before now Q
told_same before middle now P Q told same more = subst (λ o. WhereTold before o Q) (sym same)
    (told_more before middle P Q told more)

pub told_set : (before middle now : Option Files) (name : List ℕ) (P Q : Files → Files → Type 0) →
    WhereTold before middle P → now ≡ set_file name [] middle →
    ((m n : Files) → P m n → Q m (finite.insert n name [])) → WhereTold before now Q
told_set None middle now name P Q told same more = tt
told_set (Some m) middle now name P Q told same more =
    (finite.insert told.0 name [], same ∙ ap (set_file name []) told.1, more m told.0 told.2)

-- a file that no sink was made of is as it was before all openings
pub content_before : (before middle : Option Files) (us : List Use) (name : List ℕ) (rest : Option (List ℕ)) →
    AllByRecursion (λ u. is_sink u ≡ false) us → WhereTold before middle (FilesMade us) →
    IsContent middle name rest → IsContent before name rest
content_before None middle us name rest none told content = tt
content_before (Some m) middle us name rest none told content =
    let now : IsContent (Some told.0) name rest = subst (λ o. IsContent o name rest) told.1 content in (
      now.0,
      sym (not_made us m told.0 name told.2
          (all_more (λ u. is_sink u ≡ false) (λ u. is_sink_named name u ≡ false) (not_sink name) us none)) ∙ now.1,
      now.2,
    )

empty_told : (m : Files) (middle : Option Files) (us : List Use) (taken : Option (List ℕ)) →
    WhereTold (Some m) middle (FilesMade us) → IsEmptyWhereTold middle taken → IsEmptyWhereTold (Some m) taken
empty_told m middle us taken told empty = subst (λ o. IsEmptyWhereTold o taken) told.1 empty

empty_untold : (middle : Option Files) (taken : Option (List ℕ)) → IsEmptyWhereTold middle taken →
    IsEmptyWhereTold None taken
empty_untold None taken empty = empty
empty_untold (Some n) taken empty = subst (λ o. IsEmptyWhereTold None o) (sym empty) refl

pub empty_before : (before middle : Option Files) (us : List Use) (taken : Option (List ℕ)) →
    WhereTold before middle (FilesMade us) → IsEmptyWhereTold middle taken → IsEmptyWhereTold before taken
empty_before None middle us taken told empty = empty_untold middle taken empty
empty_before (Some m) middle us taken told empty = empty_told m middle us taken told empty

-- the device that a task gets
pub device_got : (devices : List DeviceSeen) (t : ℕ) (device : DeviceSeen) → t < length devices →
    device_at (set devices t device) t ≡ device
device_got devices t device within = get_or-set_same devices t device NoDevice within

pub device_kept : (devices : List DeviceSeen) (t : ℕ) (device : DeviceSeen) (x : ℕ) → (x ≡ t → ⊥) →
    device_at (set devices t device) x ≡ device_at devices x
device_kept devices t device x other = get_or-set_other devices t x device NoDevice other
