-- The runs into which a writer cuts the entities of a stream: each becomes one block.
-- Here a list of runs is known by what it is; the code closes one run after the other.
use Rattle.std.specs.Prelude.{◌≡◌, ◌≢◌, ℕ, ◌+◌, ◌≤◌, List, [], ◌∷◌, ◌++◌, length, Bool, ◌&&◌, ◌==◌, nat_lt, nat_le, if◌then◌else◌, sum_by, ⊤}
use Rattle.std.specs.List.{AllByRecursion, flat_map, list_all}
use Rattle.osm_entity.specs.Entities.{EntityValue, weight_of}
use Rattle.osm_entity.specs.Items.{kind_of}
use Rattle.osm_entity.specs.Keys.{kind_rank}
use Rattle.osm_entity.specs.declared.kind.Kind.{Kind}
use Rattle.osm_entity.specs.declared.stream.End.{End}
use Rattle.osm_entity.specs.declared.stream.End.TheVariants.{Done, Broken}

-- the most that the entities of a run weigh together
abbrev pub greatest_run : ℕ
greatest_run = 16777216

-- what entities weigh together
abbrev pub total_weight : List EntityValue → ℕ
total_weight run = sum_by weight_of run

-- entities are of this kind
abbrev pub AreOfKind : Kind → List EntityValue → Type 0
AreOfKind kind run = AllByRecursion (λ e. kind_of e.body ≡ kind) run

-- a run: some entities of one kind, no more than the limit, that aren't too heavy together
pub record IsBlockRun (limit : ℕ) (run : List EntityValue) : Type 0 where
  pub some : run ≢ []
  pub kind : Kind
  pub alike : AreOfKind kind run
  pub few : length run ≤ limit
  pub light : total_weight run ≤ greatest_run

-- a run with the first entity of the next one would be none
abbrev pub IsFullBefore : ℕ → List EntityValue → List EntityValue → Type 0
IsFullBefore limit run [] = ⊤
IsFullBefore limit run (entity ∷ next) = IsBlockRun limit (run ++ entity ∷ []) → ⊥

-- each run but the last is full before the next
abbrev pub AreFull : ℕ → List (List EntityValue) → Type 0
AreFull limit [] = ⊤
AreFull limit (run ∷ []) = ⊤
AreFull limit (run ∷ next ∷ runs) = IsFullBefore limit run next × AreFull limit (next ∷ runs)

-- the runs of entities: joined they are the entities, each is a run, and each but the last is full before the next
pub record AreRuns (limit : ℕ) (entities : List EntityValue) (runs : List (List EntityValue)) : Type 0 where
  pub joined : flat_map (λ run. run) runs ≡ entities
  pub good : AllByRecursion (IsBlockRun limit) runs
  pub full : AreFull limit runs

-- whether two entities have one kind
abbrev pub have_one_kind : EntityValue → EntityValue → Bool
have_one_kind a b = kind_rank (kind_of b.body) == kind_rank (kind_of a.body)

-- whether a run takes an entity more: one of its kind, where it is below the limit and doesn't get too heavy
abbrev pub takes : ℕ → List EntityValue → EntityValue → Bool
takes limit run entity =
    list_all (have_one_kind entity) run && nat_lt (length run) limit
    && nat_le (total_weight run + weight_of entity) greatest_run

-- closed runs, and the one that is open, which may be empty
pub record Runs : Type 0 where
  pub closed : List (List EntityValue)
  pub opened : List EntityValue

-- no run
abbrev pub no_runs : Runs
no_runs = record { closed = []; opened = [] }

-- runs with an entity more: the open one takes it, or is closed before it
abbrev pub with_entity : ℕ → Runs → EntityValue → Runs
with_entity limit runs entity =
    if takes limit runs.opened entity
    then record { closed = runs.closed; opened = runs.opened ++ entity ∷ [] }
    else record { closed = runs.closed ++ runs.opened ∷ []; opened = entity ∷ [] }

-- runs with entities more, one after the other
abbrev pub with_entities : ℕ → Runs → List EntityValue → Runs
with_entities limit runs [] = runs
with_entities limit runs (entity ∷ more) = with_entities limit (with_entity limit runs entity) more

-- the runs of entities, of which the last is open
unfoldable pub runs_of : ℕ → List EntityValue → Runs
runs_of limit entities = with_entities limit no_runs entities

-- the open run, where it has entities
abbrev pub open_run : List EntityValue → List (List EntityValue)
open_run [] = []
open_run (entity ∷ more) = (entity ∷ more) ∷ []

-- all runs, the open one too
abbrev pub all_runs : Runs → List (List EntityValue)
all_runs runs = runs.closed ++ open_run runs.opened

-- the runs that are written: all at the end of a stream that is done, all but the last where it broke off
abbrev pub written_runs : Runs → End → List (List EntityValue)
written_runs runs Done = all_runs runs
written_runs runs Broken = runs.closed

-- each entity alone is light enough for a run
abbrev pub AreLight : List EntityValue → Type 0
AreLight entities = AllByRecursion (λ e. weight_of e ≤ greatest_run) entities
