-- Which output's pipe an input takes: the one of its name, or, without a name, the one that matches as brackets do.
-- Here an output without a name is an opening mark and an input without a name a closing mark, and marks are counted
-- between two places; the code goes back from an input with two counts.
use Rattle.std.specs.Prelude.{ℕ, zero, suc, ◌==◌, List, [], ◌∷◌, length, drop, Bool, false, ◌&&◌, not, if◌then◌else◌, Option, Some, None, is_none, count_by, position}
use Rattle.std.specs.Str.{bytes_eq}
use Rattle.osm_graph.specs.Ports.{PortValue}

-- an opening mark: an output without a name
abbrev pub is_opening : PortValue → Bool
is_opening port = port.gives && is_none port.name

-- a closing mark: an input without a name
abbrev pub is_closing : PortValue → Bool
is_closing port = not port.gives && is_none port.name

-- as many marks open as close
abbrev pub are_even : List PortValue → Bool
are_even ports = count_by is_opening ports == count_by is_closing ports

-- the first port is an opening mark, and after it as many marks open as close
abbrev pub is_still_open : List PortValue → Bool
is_still_open [] = false
is_still_open (port ∷ after) = is_opening port && are_even after

-- the latest number below this one that passes a test
abbrev pub latest : (ℕ → Bool) → ℕ → Option ℕ
latest test zero = None
latest test (suc n) = if test n then Some n else latest test n

-- the place of the opening mark that a closing mark after these ports matches: the latest that is still open
abbrev pub matching_place : List PortValue → Option ℕ
matching_place earlier = latest (λ place. is_still_open (drop place earlier)) (length earlier)

-- a name, where there is one, is this one
abbrev pub is_pipe_named : List ℕ → Option (List ℕ) → Bool
is_pipe_named name None = false
is_pipe_named name (Some other) = bytes_eq other name

-- an output that puts the pipe of this name
abbrev pub puts_named : List ℕ → PortValue → Bool
puts_named name port = port.gives && is_pipe_named name port.name

-- an input that takes the pipe of this name
abbrev pub takes_named : List ℕ → PortValue → Bool
takes_named name port = not port.gives && is_pipe_named name port.name

-- the place among the earlier ports of the output whose pipe an input takes, by the input's name
abbrev pub source_place : List PortValue → Option (List ℕ) → Option ℕ
source_place earlier None = matching_place earlier
source_place earlier (Some name) = position (puts_named name) earlier
