-- The devices of a run that stopped at an opening can be given back.
use Rattle.std.proofs.Common.{◌≡◌, ℕ, ◌<◌, ◌≤◌, List, [], ◌∷◌, length, get_or, replicate, Bool, true, false, refl, sym, subst, arith, inl, inr}
use Rattle.std.specs.Prelude.{Contains, flat_map, nat_lt}
use Rattle.std.specs.List.{AllByRecursion}
use Rattle.std.proofs.lemmas.Bool.{cases_lt, ltb-true}
use Rattle.std.proofs.lemmas.List.{get_or-replicate, get_or_past, length-replicate}
use Rattle.std.proofs.lemmas.List.Elements.{Contains-append_left, Contains-append_right}
use Rattle.osm_host.specs.Moments.{Moment}
use Rattle.osm_host.specs.declared.outside.Op.{Op}
use Rattle.osm_host.specs.declared.outside.Op.TheVariants.{Open as OpenOp, Make}
use Rattle.osm_report.specs.declared.fault.Fault.{Fault}
use Rattle.osm_run.specs.Plan.{File, Plan, Sink, Source, Use, is_sink, is_source, names_of, uses_of}
use Rattle.osm_run.specs.Went.{DeviceSeen, NoDevice, SeenSink, SeenSource, device_at}
use Rattle.osm_run.specs.Opened.{IsOpenedWhere, IsSinkWhere, IsSourceWhere, ReadsOrWrites, StoppedAtSink, StoppedAtSource, WasNotOpened, WereOpened, opened_to}
use Rattle.osm_run.specs.Closed.{CanClose, CanCloseAll}
use Rattle.osm_run.proofs.CountedLemmas.{all_among}
use Rattle.osm_run.proofs.EachLemmas.{all_flat_map}
use Rattle.osm_run.proofs.NothingGivenLemmas.{all_has}
use Rattle.osm_run.proofs.UsesLemmas.{by_plain, plain_at, use_at}
use Rattle.osm_run.proofs.BeforeLemmas.{sinks_all, sources_all}

-- the names of files that a list has are among all names
name_of : (us : List Use) (u : Use) (name : List ℕ) → names_of u ≡ name ∷ [] → Contains us u →
    Contains (flat_map names_of us) name
name_of us u name named has =
    let all : AllByRecursion (λ v. AllByRecursion (Contains (flat_map names_of us)) (names_of v)) us =
    all_flat_map (Contains (flat_map names_of us)) names_of us (all_among (flat_map names_of us)) in
    (subst (AllByRecursion (Contains (flat_map names_of us))) named
    (all_has (λ v. AllByRecursion (Contains (flat_map names_of us)) (names_of v)) us u all has)).0

-- what is known stays known over a refused opening
pub known_stays : (op : Op) (t : ℕ) (name : List ℕ) (middle now : Moment) (fault : Fault) →
    WasNotOpened op t name middle now fault → (n : List ℕ) → Contains middle.known n → Contains now.known n
known_stays op t name middle now fault refused n has = elim refused.known [
  | inl same ↦ (same.0 n).1 has
  | inr more ↦ (more n).1 (Contains-append_left middle.known (name ∷ []) n has)
]

-- devices that were opened can be given back
pub can_close_opened : (plan : Plan) (i j : ℕ) (before middle : Moment) (known : List (List ℕ))
    (devices : List DeviceSeen) → i ≤ length plan → j ≤ length plan → AllByRecursion ReadsOrWrites plan →
    WereOpened plan i j before middle devices → ((n : List ℕ) → Contains middle.known n → Contains known n) →
    CanCloseAll plan known devices
can_close_opened plan i j before middle known devices few_sources few_sinks plain were stays = record {
  count = were.count;
  each = λ t within. each_can t within (get_or plan t []) (device_at devices t) refl (plain_at plan t plain within)
      (were.each t within);
} where
  is_known : (t : ℕ) (u : Use) (name : List ℕ) → names_of u ≡ name ∷ [] → Contains (opened_to plan i j) u →
      Contains known name
  is_known t u name named has = stays name ((were.known name).1
      (Contains-append_right before.known (flat_map names_of (opened_to plan i j)) name
      (name_of (opened_to plan i j) u name named has)))

  source_can : (t : ℕ) (name : List ℕ) (d : DeviceSeen) (b : Bool) → nat_lt t i ≡ b → t < length plan →
      get_or plan t [] ≡ Source name ∷ [] → IsSourceWhere before.files b name d → CanClose known (Source name ∷ []) d
  source_can t name d false less within file is = subst (CanClose known (Source name ∷ [])) (sym is) tt
  source_can t name NoDevice true less within file is = absurd is
  source_can t name (SeenSink sink) true less within file is = absurd is
  source_can t name (SeenSource source) true less within file is = (
    is.name_is,
    is_known t (t, Source name) name refl
        ((subst (λ fs. AllByRecursion (λ v. is_source v ≡ true → v.0 < i → Contains (opened_to plan i j) v)
        (uses_of (t, fs))) file
        (use_at (λ v. is_source v ≡ true → v.0 < i → Contains (opened_to plan i j) v) plan t within
        (sources_all plan i j few_sources))).0 refl (ltb-true t i less)),
  )

  sink_can : (t : ℕ) (name : List ℕ) (d : DeviceSeen) (b : Bool) → nat_lt t j ≡ b → t < length plan →
      get_or plan t [] ≡ Sink name ∷ [] → IsSinkWhere before.files b name d → CanClose known (Sink name ∷ []) d
  sink_can t name d false less within file is = subst (CanClose known (Sink name ∷ [])) (sym is) tt
  sink_can t name NoDevice true less within file is = absurd is
  sink_can t name (SeenSource source) true less within file is = absurd is
  sink_can t name (SeenSink sink) true less within file is = (
    is.name_is,
    is_known t (t, Sink name) name refl
        ((subst (λ fs. AllByRecursion (λ v. is_sink v ≡ true → v.0 < j → Contains (opened_to plan i j) v)
        (uses_of (t, fs))) file
        (use_at (λ v. is_sink v ≡ true → v.0 < j → Contains (opened_to plan i j) v) plan t within
        (sinks_all plan i j few_sinks))).0 refl (ltb-true t j less)),
  )

  each_can : (t : ℕ) → t < length plan → (fs : List File) (d : DeviceSeen) → get_or plan t [] ≡ fs → ReadsOrWrites fs →
      IsOpenedWhere before.files (nat_lt t i) (nat_lt t j) fs d → CanClose known fs d
  each_can t within fs d file plain_task = by_plain
      (λ gs. get_or plan t [] ≡ gs → IsOpenedWhere before.files (nat_lt t i) (nat_lt t j) gs d → CanClose known gs d)
      (λ none is. subst (CanClose known []) (sym is) tt)
      (λ name this is. source_can t name d (nat_lt t i) refl within this is)
      (λ name this is. sink_can t name d (nat_lt t j) refl within this is)
      fs plain_task file

-- the device of each task has its place
pub closed_room : (tasks : ℕ) (t : ℕ) → device_at (replicate tasks NoDevice) t ≡ NoDevice
closed_room tasks t = elim (cases_lt t tasks) [
  | inl within ↦ get_or-replicate tasks t NoDevice NoDevice within
  | inr past ↦ get_or_past (replicate tasks NoDevice) t NoDevice (omega (arith, past, length-replicate tasks NoDevice))
]

-- the devices of a run that stopped at a source can be given back, and those of one that stopped at a sink
pub can_close_at_source : (plan : Plan) (before now : Moment) (devices : List DeviceSeen) (fault : Fault) →
    AllByRecursion ReadsOrWrites plan → StoppedAtSource plan before now devices fault →
    CanCloseAll plan now.known devices
can_close_at_source plan before now devices fault plain stop =
    can_close_opened plan stop.place 0 before stop.middle now.known devices (omega (arith, stop.within)) (omega arith)
    plain stop.opened (known_stays OpenOp stop.place stop.name stop.middle now fault stop.refused)

pub can_close_at_sink : (plan : Plan) (before now : Moment) (devices : List DeviceSeen) (fault : Fault) →
    AllByRecursion ReadsOrWrites plan → StoppedAtSink plan before now devices fault →
    CanCloseAll plan now.known devices
can_close_at_sink plan before now devices fault plain stop =
    can_close_opened plan (length plan) stop.place before stop.middle now.known devices (omega arith)
    (omega (arith, stop.within)) plain stop.opened
    (known_stays Make stop.place stop.name stop.middle now fault stop.refused)
