-- How a refusal ends the run of words.
use Rattle.std.proofs.Common.{◌≡◌, ℕ, [], inl, inr, refl, sym, ap, subst, ◌∙◌}
use Rattle.std.specs.Prelude.{◌≢◌, ◌⊎◌, Result, Ok, Err, IfErr, IsErrAnd}
use Rattle.osm_graph.specs.Graphs.{GraphValue}
use Rattle.osm_host.specs.Moments.{Moment}
use Rattle.osm_report.specs.declared.fault.Fault.{Fault}
use Rattle.osm_report.specs.declared.fault.Fault.TheVariants.{Memory}
use Rattle.osm_run.specs.Asked.{HasNoCircle, IsRefusal, WasRefused, WasOutOfMemory}
use Rattle.osm_run.specs.Commands.{command_of_graph}
use Rattle.osm_run.specs.Outcome.{IsUnchanged}
use Rattle.osm_run.specs.WordsRun.{DidRun, IsCountedRun, IsRefusedOrCounted, WereRefused}
use Rattle.osm_run.specs.declared.status.Status.{Status}

-- nothing changed
unchanged : (m : Moment) → IsUnchanged m m
unchanged m = record { files = refl; counts = λ op n. refl; gave = λ n. refl; known = refl }

-- a refusal ends the run, before any step
pub refused_run : (asked : Result GraphValue Fault) (m : Moment) (status : Status) →
    IsRefusal asked status.fault → status.ends ≡ [] → IsRefusedOrCounted asked m m status 0
refused_run asked m status refusal ends = record {
  run = WereRefused (record { fault = refusal; ends = ends; same = unchanged m });
  counted = refl;
}

-- the run of the command of a graph that words ask for
pub command_run : (asked : Result GraphValue Fault) (graph : GraphValue) (before after : Moment) (status : Status)
    (steps : ℕ) → asked ≡ Ok graph → HasNoCircle graph →
    IsCountedRun (command_of_graph graph) before after status steps →
    IsRefusedOrCounted asked before after status steps
command_run asked graph before after status steps is bare r =
    record { run = DidRun graph is bare r.run; counted = r.counted }

-- a fault is out of memory or another
is_memory : (fault : Fault) → (fault ≡ Memory) ⊎ (fault ≢ Memory)
is_memory Memory = inl refl
is_memory fault = inr (λ is. cc)

-- a first refusal, or out of memory, is a refusal
pub first_refusal : (asked : Result GraphValue Fault) (fault : Fault) (status : Status) →
    (fault ≢ Memory → asked ≡ Err fault) → status.fault ≡ fault → IsRefusal asked status.fault
first_refusal asked fault status refused is = elim (is_memory fault) [
  | inl memory ↦ WasOutOfMemory (is ∙ memory)
  | inr other ↦ WasRefused (refused other ∙ ap (λ f. Err f) (sym is))
]

-- what holds of an error holds where it is handed on
pub handed_on : {T E : Type 0} (result : Result T E) (error : E) (P : E → Type 0) →
    IsErrAnd result (λ e. e ≡ error) → P error → IfErr result P
handed_on (Ok x) error P handed holds = absurd handed
handed_on (Err e) error P handed holds = subst P (sym handed) holds
