-- What a list of tallies says of counts, of bytes given and of names.
-- Here a name has the value of the first row of that name; the code finds that row and changes it.
use Rattle.std.specs.Prelude.{ℕ, List, [], ◌∷◌, map, if◌then◌else◌, ◌==◌}
use Rattle.std.specs.Str.{bytes_eq}
use Rattle.osm_host.specs.Counts.{Counts, raised, op_number}
use Rattle.osm_host.specs.declared.outside.Op.{Op}
use Rattle.osm_host.specs.declared.outside.Op.TheVariants.{Open, Make, Pull, Put, Keep}
use Rattle.osm_host.specs.declared.tallies.Faults.{Faults}
use Rattle.osm_host.specs.declared.tallies.Tally.{Tally}

-- the count of this kind of call
abbrev pub faults_of : Faults → Op → ℕ
faults_of faults Open = faults.opens
faults_of faults Make = faults.makes
faults_of faults Pull = faults.pulls
faults_of faults Put = faults.puts
faults_of faults Keep = faults.keeps

-- a count of the kind of call `o` after this many more faults of the kind `op`
abbrev pub raised_at : Op → Op → ℕ → ℕ → ℕ
raised_at op o count more = if op_number o == op_number op then raised count more else count

-- the value of the first element of this name, and the other value where there is none
abbrev pub first_named : {T V : Type 0} → (T → List ℕ) → (T → V) → V → List T → List ℕ → V
first_named name value other [] n = other
first_named name value other (t ∷ ts) n = if bytes_eq n (name t) then value t else first_named name value other ts n

-- no call failed
abbrev pub no_faults : Faults
no_faults = record { opens = 0; makes = 0; pulls = 0; puts = 0; keeps = 0 }

-- the row of a name that was just opened
abbrev pub new_row : List ℕ → Tally
new_row name = record { name = name; faults = no_faults; gave = 0 }

-- how many calls of a kind failed on a name
abbrev pub faults_in : List Tally → Counts
faults_in rows op name = first_named (λ t. t.name) (λ t. faults_of t.faults op) 0 rows name

-- how many bytes the closed sources of a name gave
abbrev pub given_in : List Tally → List ℕ → ℕ
given_in rows name = first_named (λ t. t.name) (λ t. t.gave) 0 rows name

-- the names of the rows
abbrev pub names_in : List Tally → List (List ℕ)
names_in rows = map (λ t. t.name) rows
