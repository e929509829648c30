-- Lemmas on starts that are made of machines, ports and gates, one more at a time.
use Rattle.std.proofs.Common.{◌≡◌, List, [], ◌∷◌, ◌++◌}
use Rattle.std.specs.Prelude.{All}
use Rattle.std.proofs.lemmas.List.{map-append}
use Rattle.std.proofs.lemmas.List.Elements.{All-push}
use Rattle.osm_threads.specs.Running.{machines_started, ports_started}
use Rattle.osm_threads.specs.Starts.{HasNewGate}
use Rattle.osm_threads.specs.declared.starts.Start.{Start}

pub machines_more : {M : Type 0} (starts : List (Start M)) (start : Start M) →
    machines_started (starts ++ start ∷ []) ≡ machines_started starts ++ start.job.machine ∷ []
machines_more starts start = map-append (λ (s : Start _). s.job.machine) starts (start ∷ [])

pub ports_more : {M : Type 0} (starts : List (Start M)) (start : Start M) →
    ports_started (starts ++ start ∷ []) ≡ ports_started starts ++ start.job.ports ∷ []
ports_more starts start = map-append (λ (s : Start _). s.job.ports) starts (start ∷ [])

pub new_more : {M : Type 0} (starts : List (Start M)) (start : Start M) → All HasNewGate starts → HasNewGate start →
    All HasNewGate (starts ++ start ∷ [])
new_more starts start new is = All-push HasNewGate starts start new is
