-- Errors of the reader against what a file says.
-- Here an error out of memory says nothing; the code answers the first that it meets.
use Rattle.std.specs.Prelude.{◌≡◌, ℕ, Option, None, Result, Err}
use Rattle.osm_entity.specs.declared.parts.Place.{Place}
use Rattle.osm_poly.specs.declared.poly.PolyError.{PolyError}
use Rattle.osm_poly.specs.declared.poly.PolyError.TheVariants.{Bad, Memory}

-- an error names the bad line of what is read
abbrev pub IsBlamed : {X : Type 0} → PolyError → Result X ℕ → Type 0
IsBlamed (Bad line) read = read ≡ Err line
IsBlamed Memory read = Unit {0}

-- an error names a line that is no point
abbrev pub IsNoPoint : PolyError → ℕ → Option Place → Type 0
IsNoPoint (Bad line) number place = (place ≡ None) × (line ≡ number)
IsNoPoint Memory number place = Unit {0}
