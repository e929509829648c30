-- The names that a host knows: those that were opened.
-- Here they are a list in any order; a host in memory keeps them with their counts.
use Rattle.std.specs.Prelude.{◌≡◌, ℕ, ◌⊎◌, List, Contains, ⊤, Ok, Err}
use Rattle.std.specs.declared.result.Result.{Result}
use Rattle.osm_host.specs.declared.outside.HostError.{HostError}
use Rattle.osm_host.specs.declared.outside.HostError.TheVariants.{Failed, Memory}

-- an open that answers Ok or Failed leaves its name among those known
abbrev pub IsKnownAfter : {T : Type 0} → Result T HostError → List ℕ → List (List ℕ) → Type 0
IsKnownAfter (Ok x) name now = Contains now name
IsKnownAfter (Err Failed) name now = Contains now name
IsKnownAfter (Err Memory) name now = ⊤

-- no name left
abbrev pub KeepsNames : List (List ℕ) → List (List ℕ) → Type 0
KeepsNames before now = (n : List ℕ) → Contains before n → Contains now n

-- no name came but this one
abbrev pub AddsOnly : List ℕ → List (List ℕ) → List (List ℕ) → Type 0
AddsOnly name before now = (n : List ℕ) → Contains now n → Contains before n ⊎ (n ≡ name)

-- an open adds at most its own name, and no name ever leaves
pub record KnownByCall {T : Type 0} (name : List ℕ) (before now : List (List ℕ))
    (result : Result T HostError) : Type 0 where
  pub keeps : KeepsNames before now
  pub only : AddsOnly name before now
  pub own : IsKnownAfter result name now
