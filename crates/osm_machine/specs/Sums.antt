-- A machine that is one of several parts: what it means is what that part means.
-- Here a part is any type of machines that is put into the type of all; the code has one variant for each.
use Rattle.std.specs.Prelude.{◌≡◌, ℕ, List, Option}
use Rattle.osm_entity.specs.Machines.{Given, Meanings, StandsFor}
use Rattle.osm_entity.specs.Ports.{Ports}
use Rattle.osm_entity.specs.Tasks.{TaskMeaning}
use Rattle.osm_entity.specs.declared.stream.Want.{Want}
use Rattle.osm_entity.specs.declared.verdict.Verdict.{Verdict}

-- what came of a part's source, told of the machine that is this part
abbrev pub given_as : {P M : Type 0} → (P → M) → Given P → Given M
given_as all own = record { made = all own.made; bytes = own.bytes; came = own.came; over = own.over }

-- a machine stands as its part does, and was made as such a part
pub record StandsAs {P M : Type 0} (of : Meanings P) (all : P → M) (part : P) (x y : Ports) (given : Given M) : Type 0 where
  pub own : Given P
  pub made : given ≡ given_as all own
  pub stands : StandsFor of part x y own

-- its devices are as its part says, and it was made as such a part
pub record DevicesAs {P M : Type 0} (of : Meanings P) (all : P → M) (part : P) (given : Given M) : Type 0 where
  pub own : Given P
  pub made : given ≡ given_as all own
  pub devices : of.devices part own

-- what one machine means
pub record MeaningAt (M : Type 0) : Type 1 where
  pub task : TaskMeaning
  pub stands : Ports → Ports → Given M → Type 0
  pub wanted : Want
  pub verdict : Verdict
  pub wrote : Option (List ℕ)
  pub devices : Given M → Type 0
  pub left : ℕ

-- what a machine means that is this part
abbrev pub part_means : {P M : Type 0} → Meanings P → (P → M) → P → MeaningAt M
part_means of all part = record {
  task = of.task part;
  stands = StandsAs of all part;
  wanted = of.wanted part;
  verdict = of.verdict part;
  wrote = of.wrote part;
  devices = DevicesAs of all part;
  left = of.left part;
}

-- what machines mean, of which each means this
abbrev pub meanings_by : {M : Type 0} → (M → MeaningAt M) → Meanings M
meanings_by means = record {
  task = λ m. (means m).task;
  stands = λ m. (means m).stands;
  wanted = λ m. (means m).wanted;
  verdict = λ m. (means m).verdict;
  wrote = λ m. (means m).wrote;
  devices = λ m. (means m).devices;
  left = λ m. (means m).left;
}
