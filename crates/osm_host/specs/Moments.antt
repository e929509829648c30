-- All that a host means at one moment, as one value, so that a definition names no host.
use Rattle.std.specs.Prelude.{ℕ, List, Option}
use Rattle.osm_host.specs.Contents.{Files}
use Rattle.osm_host.specs.Counts.{Counts}

-- the six meanings of a host at one moment
pub record Moment : Type 0 where
  pub files : Option Files
  pub said : Option (List ℕ)
  pub mute : ℕ
  pub count : Counts
  pub gave : List ℕ → ℕ
  pub known : List (List ℕ)

-- what this host means now, by the six meanings of its type
abbrev pub moment : {H : Type 0} → (H → Option Files) → (H → Option (List ℕ)) → (H → ℕ) → (H → Counts) →
    (H → List ℕ → ℕ) → (H → List (List ℕ)) → H → Moment
moment files said mute count gave known host = record {
  files = files host;
  said = said host;
  mute = mute host;
  count = count host;
  gave = gave host;
  known = known host;
}
