-- Counts of faults: what each call may do to them. A count never falls, and stops at 2^64 - 1.
-- Here a count is a function of a kind of call and a name; a host in memory keeps a row for each name.
use Rattle.std.specs.Prelude.{◌≡◌, ℕ, ◌+◌, ◌-◌, ◌^◌, ◌≤◌, min, max, List, Bool, false, ◌&&◌, if◌then◌else◌, ◌==◌, Ok, Err}
use Rattle.std.specs.Str.{bytes_eq}
use Rattle.std.specs.declared.result.Result.{Result}
use Rattle.osm_host.specs.declared.outside.Failed.{Failed as Failure}
use Rattle.osm_host.specs.declared.outside.HostError.{HostError}
use Rattle.osm_host.specs.declared.outside.HostError.TheVariants.{Failed, Memory}
use Rattle.osm_host.specs.declared.outside.Op.{Op}
use Rattle.osm_host.specs.declared.outside.Op.TheVariants.{Open, Make, Pull, Put, Keep}

-- the last value of a count
abbrev pub last_count : ℕ
last_count = 2 ^ 64 - 1

-- a count rose: it is greater than before, or stands at its last value
abbrev pub Rose : ℕ → ℕ → Type 0
Rose before now = min (before + 1) last_count ≤ now

-- a count raised by this much, up to its last value, and never lowered
abbrev pub raised : ℕ → ℕ → ℕ
raised count more = max count (min (count + more) last_count)

-- a count that rose and did not fall
pub record Rises (before now : ℕ) : Type 0 where
  pub later : before ≤ now
  pub rose : Rose before now

-- a call that can only fail raises its count where it failed, and else leaves it
abbrev pub CountsFailure : {T : Type 0} → Result T Failure → ℕ → ℕ → Type 0
CountsFailure (Ok x) before now = now ≡ before
CountsFailure (Err e) before now = Rises before now

-- a call that can fail or be out of memory raises its count where it failed, and else leaves it
abbrev pub CountsRefusal : {T : Type 0} → Result T HostError → ℕ → ℕ → Type 0
CountsRefusal (Ok x) before now = now ≡ before
CountsRefusal (Err Failed) before now = Rises before now
CountsRefusal (Err Memory) before now = now ≡ before

-- a number for each kind of call, to tell them apart
abbrev pub op_number : Op → ℕ
op_number Open = 0
op_number Make = 1
op_number Pull = 2
op_number Put = 3
op_number Keep = 4

-- the same kind of call on the same name
abbrev pub is_at : Op → List ℕ → Op → List ℕ → Bool
is_at op name o n = (op_number o == op_number op) && bytes_eq n name

-- the counts of every kind of call on every name
abbrev pub Counts : Type 0
Counts = Op → List ℕ → ℕ

-- no count changed
abbrev pub SameCounts : Counts → Counts → Type 0
SameCounts before now = (o : Op) (n : List ℕ) → now o n ≡ before o n

-- no count changed but that of this kind and name
abbrev pub SameCountsBut : Op → List ℕ → Counts → Counts → Type 0
SameCountsBut op name before now = (o : Op) (n : List ℕ) → is_at op name o n ≡ false → now o n ≡ before o n

-- a call raises at most the count of its kind and name
pub record CountsOfCall {T : Type 0} (op : Op) (name : List ℕ) (before now : Counts)
    (result : Result T HostError) : Type 0 where
  pub own : CountsRefusal result (before op name) (now op name)
  pub others : SameCountsBut op name before now

-- the count of this kind and name is raised by this much, and all others stay
abbrev pub Adds : Op → List ℕ → ℕ → Counts → Counts → Type 0
Adds op name more before now =
    (o : Op) (n : List ℕ) → now o n ≡ (if is_at op name o n then raised (before o n) more else before o n)

-- a keep raises its own count where it failed, and the count of puts by what failed of them
pub record KeepCounts {T : Type 0} (name : List ℕ) (faults : ℕ) (before now : Counts)
    (result : Result T HostError) : Type 0 where
  pub kept : CountsRefusal result (before Keep name) (now Keep name)
  pub puts : now Put name ≡ raised (before Put name) faults
  pub others : (o : Op) (n : List ℕ) → is_at Keep name o n ≡ false → is_at Put name o n ≡ false → now o n ≡ before o n

-- what was given under this name is raised by this much, and all else stays
abbrev pub GaveOnly : List ℕ → ℕ → (List ℕ → ℕ) → (List ℕ → ℕ) → Type 0
GaveOnly name more before now =
    (n : List ℕ) → now n ≡ (if bytes_eq n name then raised (before n) more else before n)
