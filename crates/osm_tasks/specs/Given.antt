-- What the words of a task give: each option its value, each port the name of its pipe, and a tag filter its tests.
-- Here each is looked up among all words of the task; the code does the same once the words are known to be good.
use Rattle.std.specs.Prelude.{ℕ, ℤ, pos, suc, zero, List, [], ◌∷◌, ◌++◌, length, drop, map, filter, Bool, true, false, ◌||◌, ◌==◌, not, nat_eq, if◌then◌else◌, Option, Some, None, unwrap_or, codes}
use Rattle.std.specs.List.{find, slice_split, starts_with}
use Rattle.std.specs.Option.{option_map, option_and_then}
use Rattle.std.specs.Str.{bytes_eq}
use Rattle.osm_entity.specs.Ascii.{comma}
use Rattle.osm_entity.specs.declared.kind.Kind.TheVariants.{Node}
use Rattle.osm_entity.specs.declared.options.Resolution.{Resolution}
use Rattle.osm_entity.specs.declared.options.Resolution.TheVariants.{Version}
use Rattle.osm_entity.specs.declared.options.TagTest.{TagTest}
use Rattle.osm_words.specs.Words.{is_unnamed}
use Rattle.osm_words.specs.declared.list.OptionWord.{OptionWord}
use Rattle.osm_tasks.specs.Options.{option_row}
use Rattle.osm_tasks.specs.Values.{number_in, truth_in, nanodegrees_in, resolution_in, mode_in, port_in}
use Rattle.osm_tasks.specs.declared.naming.OptionName.{OptionName}
use Rattle.osm_tasks.specs.declared.naming.OptionName.TheVariants.{Mode as ModeOption, ConflictResolutionMethod}
use Rattle.osm_tasks.specs.declared.naming.Values.{Values}
use Rattle.osm_tasks.specs.declared.naming.Values.TheVariants.{Number, Truth, Degrees}
use Rattle.osm_tasks.specs.declared.reading.Mode.{Mode}

-- a word gives an option by its name, or without a name
abbrev pub gives : OptionName → OptionWord → Bool
gives option word =
    if is_unnamed word then (option_row option).unnamed else bytes_eq word.name (option_row option).name

-- the value of the first word that gives an option
abbrev pub value_given : OptionName → List OptionWord → Option (List ℕ)
value_given option words = option_map (λ word. word.value) (find (gives option) words)

-- a number option's value by what is given, or its default, where nothing is given or the text says none
abbrev pub number_by : Values → Option (List ℕ) → ℕ
number_by (Number least most default) None = default
number_by (Number least most default) (Some text) = unwrap_or (number_in least most text) default
number_by values given = 0

-- a truth option's value by what is given, or its default, where nothing is given or the text says none
abbrev pub truth_by : Values → Option (List ℕ) → Bool
truth_by (Truth default) None = default
truth_by (Truth default) (Some text) = unwrap_or (truth_in text) default
truth_by values given = false

-- an option's nanodegrees by what is given, or its default, where nothing is given or the text says none
abbrev pub degrees_by : Values → Option (List ℕ) → ℤ
degrees_by (Degrees default) None = default
degrees_by (Degrees default) (Some text) = unwrap_or (nanodegrees_in text) default
degrees_by values given = pos 0

-- the text that words give an option
abbrev pub text_said : OptionName → List OptionWord → List ℕ
text_said option words = unwrap_or (value_given option words) []

-- the number that words give an option, or its default
abbrev pub number_said : OptionName → List OptionWord → ℕ
number_said option words = number_by (option_row option).values (value_given option words)

-- the truth that words give an option, or its default
abbrev pub truth_said : OptionName → List OptionWord → Bool
truth_said option words = truth_by (option_row option).values (value_given option words)

-- the nanodegrees that words give an option, or its default
abbrev pub degrees_given : OptionName → List OptionWord → ℤ
degrees_given option words = degrees_by (option_row option).values (value_given option words)

-- how words have a merge resolve; by version where they don't say
abbrev pub resolution_said : List OptionWord → Resolution
resolution_said words =
    unwrap_or (option_and_then resolution_in (value_given ConflictResolutionMethod words)) Version

-- what words have a tag filter do; it accepts nodes where they don't say
abbrev pub mode_said : List OptionWord → Mode
mode_said words =
    unwrap_or (option_and_then mode_in (value_given ModeOption words)) (record { accept = true; kind = Node })

-- what stands before the number of an input in the name of an option
abbrev pub input_prefix : List ℕ
input_prefix = codes "inPipe."

-- what stands before the number of an output in the name of an option
abbrev pub output_prefix : List ℕ
output_prefix = codes "outPipe."

-- a word that names a pipe, also of a port that isn't there
abbrev pub is_pipe : OptionWord → Bool
is_pipe word = starts_with nat_eq word.name input_prefix || starts_with nat_eq word.name output_prefix

-- the port whose pipe a word names, after this prefix
abbrev pub port_after : List ℕ → OptionWord → Option ℕ
port_after prefix word =
    if starts_with nat_eq word.name prefix then port_in (drop (length prefix) word.name) else None

-- a port, where there is one, is this port
abbrev pub is_port : ℕ → Option ℕ → Bool
is_port n None = false
is_port n (Some port) = port == n

-- the name of the pipe at a port, where a word names it
abbrev pub pipe_name : List ℕ → List OptionWord → ℕ → Option (List ℕ)
pipe_name prefix words n = option_map (λ word. word.value) (find (λ word. is_port n (port_after prefix word)) words)

-- the names of the pipes at the first ports, up to this number of them
abbrev pub pipe_names : List ℕ → List OptionWord → ℕ → List (Option (List ℕ))
pipe_names prefix words zero = []
pipe_names prefix words (suc n) = pipe_names prefix words n ++ pipe_name prefix words n ∷ []

-- a word of a tag filter that is a test: it has a name, and names no pipe
abbrev pub is_tag_test : OptionWord → Bool
is_tag_test word = not (is_unnamed word || is_pipe word)

-- the values of a test: any for *, else the parts between commas
abbrev pub values_in : List ℕ → Option (List (List ℕ))
values_in text = if bytes_eq text (codes "*") then None else Some (slice_split (λ b. b == comma) text)

-- the test of a word
abbrev pub test_of : OptionWord → TagTest
test_of word = record { key = word.name; values = values_in word.value }

-- the tests that words give a tag filter
abbrev pub tests_said : List OptionWord → List TagTest
tests_said words = map test_of (filter is_tag_test words)
