-- What holds of devices that can be given back.
use Rattle.std.proofs.Common.{◌≡◌, ℕ, suc, ◌<◌, List, [], ◌∷◌, length, get_or, refl, sym, subst, ◌∙◌, arith}
use Rattle.std.specs.Prelude.{Contains, Some, None}
use Rattle.std.specs.List.{AllByRecursion}
use Rattle.osm_machine.specs.Devices.{SourceSeen}
use Rattle.osm_machine.specs.Sinks.{SinkSeen}
use Rattle.osm_run.specs.Plan.{File, Plan, Polygon, Sink, Source, Store}
use Rattle.osm_run.specs.Went.{DeviceSeen, NoDevice, SeenSink, SeenSource, device_at}
use Rattle.osm_run.specs.Opened.{ReadsOrWrites, sink_name, source_name}
use Rattle.osm_run.specs.Closed.{CanClose, CanCloseAll, CanKeepAll, gave_under, without_source}
use Rattle.osm_run.proofs.UsesLemmas.{sink_files, source_files}

-- what holds of a device that can be given back, by its task's file
pub by_closable : (known : List (List ℕ)) (P : List File → DeviceSeen → Type 0) → P [] NoDevice →
    ((name : List ℕ) → P (Source name ∷ []) NoDevice) → ((name : List ℕ) → P (Sink name ∷ []) NoDevice) →
    ((name : List ℕ) (source : SourceSeen) → source.name ≡ name → Contains known name →
    P (Source name ∷ []) (SeenSource source)) →
    ((name : List ℕ) (sink : SinkSeen) → sink.name ≡ name → Contains known name →
    P (Sink name ∷ []) (SeenSink sink)) → (files : List File) (d : DeviceSeen) → CanClose known files d → P files d
by_closable known P none no_source no_sink source sink [] NoDevice is = none
by_closable known P none no_source no_sink source sink [] (SeenSource s) is = absurd is
by_closable known P none no_source no_sink source sink [] (SeenSink k) is = absurd is
by_closable known P none no_source no_sink source sink (Source name ∷ []) NoDevice is = no_source name
by_closable known P none no_source no_sink source sink (Source name ∷ []) (SeenSource s) is = source name s is.0 is.1
by_closable known P none no_source no_sink source sink (Source name ∷ []) (SeenSink k) is = absurd is
by_closable known P none no_source no_sink source sink (Sink name ∷ []) NoDevice is = no_sink name
by_closable known P none no_source no_sink source sink (Sink name ∷ []) (SeenSource s) is = absurd is
by_closable known P none no_source no_sink source sink (Sink name ∷ []) (SeenSink k) is = sink name k is.0 is.1
by_closable known P none no_source no_sink source sink (Polygon name ∷ []) d is = absurd is
by_closable known P none no_source no_sink source sink (Store ∷ []) d is = absurd is
by_closable known P none no_source no_sink source sink (Source name ∷ g ∷ files) d is = absurd is
by_closable known P none no_source no_sink source sink (Sink name ∷ g ∷ files) d is = absurd is
by_closable known P none no_source no_sink source sink (Polygon name ∷ g ∷ files) d is = absurd is
by_closable known P none no_source no_sink source sink (Store ∷ g ∷ files) d is = absurd is

-- such a task reads or writes
pub closable_plain : (known : List (List ℕ)) (files : List File) (d : DeviceSeen) → CanClose known files d →
    ReadsOrWrites files
closable_plain known = by_closable known (λ files d. ReadsOrWrites files) tt (λ name. tt) (λ name. tt)
    (λ name s named has. tt) (λ name k named has. tt)

-- a device that is no source gives nothing
pub no_source_gives : (known : List (List ℕ)) (n : List ℕ) (files : List File) (d : DeviceSeen) →
    CanClose known files d →
    source_name files ≡ None → gave_under n d ≡ 0
no_source_gives known n = by_closable known (λ files d. source_name files ≡ None → gave_under n d ≡ 0)
    (λ none. refl) (λ name none. refl) (λ name none. refl)
    (λ name s named has none. absurd (let no : Some name ≡ None = none in cc))
    (λ name k named has none. refl)

-- a task without a source has a device that is none
pub not_a_source : (known : List (List ℕ)) (files : List File) (d : DeviceSeen) → CanClose known files d →
    source_name files ≡ None → without_source d ≡ d
not_a_source known = by_closable known (λ files d. source_name files ≡ None → without_source d ≡ d)
    (λ none. refl) (λ name none. refl) (λ name none. refl)
    (λ name s named has none. absurd (let no : Some name ≡ None = none in cc))
    (λ name k named has none. refl)

-- a source that can be given back: it is still in its place
pub can_close_source : (plan : Plan) (t : ℕ) (known now : List (List ℕ)) (old new : List DeviceSeen) (name : List ℕ)
    (d : DeviceSeen) → t < length plan → CanCloseAll plan known old → now ≡ known →
    device_at new t ≡ device_at old t → device_at new t ≡ d → source_name (get_or plan t []) ≡ Some name →
    CanClose now (Source name ∷ []) d
can_close_source plan t known now old new name d within can same place device named =
    subst (λ ks. CanClose ks (Source name ∷ []) d) (sym same)
    (subst (λ fs. CanClose known fs d) (source_files (get_or plan t []) name named)
    (subst (CanClose known (get_or plan t [])) (sym place ∙ device) (can.each t within)))

-- and a sink
pub can_keep_sink : (plan : Plan) (t : ℕ) (known now : List (List ℕ)) (old new : List DeviceSeen) (name : List ℕ)
    (d : DeviceSeen) → t < length plan → CanKeepAll plan known old → now ≡ known →
    device_at new t ≡ device_at old t → device_at new t ≡ d → sink_name (get_or plan t []) ≡ Some name →
    CanClose now (Sink name ∷ []) d
can_keep_sink plan t known now old new name d within can same place device named =
    subst (λ ks. CanClose ks (Sink name ∷ []) d) (sym same)
    (subst (CanClose known (Sink name ∷ [])) (sym place ∙ device)
    (can t name within (sink_files (get_or plan t []) name named)))

-- each task of which all devices can be given back reads or writes
pub all_plain : (plan : Plan) (known : List (List ℕ)) (devices : List DeviceSeen) → CanCloseAll plan known devices →
    AllByRecursion ReadsOrWrites plan
all_plain plan known devices can = each_task plan (λ t within.
    closable_plain known (get_or plan t []) (device_at devices t) (can.each t within)) where
      each_task : (tasks : Plan) → ((t : ℕ) → t < length tasks → ReadsOrWrites (get_or tasks t [])) →
          AllByRecursion ReadsOrWrites tasks
      each_task [] each = tt
      each_task (files ∷ tasks) each =
          (each 0 (omega arith), each_task tasks (λ t within. each (suc t) (omega (arith, within))))

-- sinks can be kept once sources were closed
pub can_keep_all : (plan : Plan) (known now : List (List ℕ)) (old new : List DeviceSeen) →
    CanCloseAll plan known old → now ≡ known →
    ((t : ℕ) → t < length plan → device_at new t ≡ without_source (device_at old t)) → CanKeepAll plan now new
can_keep_all plan known now old new can same left t name within file =
    subst (λ ks. CanClose ks (Sink name ∷ []) (device_at new t)) (sym same)
    (subst (CanClose known (Sink name ∷ [])) (sym (left t within))
    (still (device_at old t) (subst (λ fs. CanClose known fs (device_at old t)) file (can.each t within)))) where
      still : (d : DeviceSeen) → CanClose known (Sink name ∷ []) d → CanClose known (Sink name ∷ []) (without_source d)
      still NoDevice is = is
      still (SeenSource source) is = absurd is
      still (SeenSink sink) is = is
