-- One word of a command line: the task that it begins, or the option that it says, and what is wrong with it.
-- Here an option is looked at among all words up to the next task; the code goes from word to word.
use Rattle.std.specs.Prelude.{ℕ, ◌+◌, List, [], ◌∷◌, ◌++◌, length, take, drop, Bool, ◌&&◌, ◌==◌, not, if◌then◌else◌, Option, Some, None, slice_index}
use Rattle.std.specs.List.{list_any, position, take_while}
use Rattle.std.specs.Option.{option_or}
use Rattle.std.specs.Str.{bytes_eq}
use Rattle.osm_entity.specs.Ascii.{equals_sign, minus_sign}
use Rattle.osm_words.specs.declared.list.OptionWord.{OptionWord}
use Rattle.osm_words.specs.declared.list.WordsError.{WordsError}
use Rattle.osm_words.specs.declared.list.WordsError.TheVariants.{EmptyName, TwiceOption, TwoUnnamed}

-- a word begins a task by two minuses
abbrev pub begins_task : List ℕ → Bool
begins_task word = (slice_index word 0 == minus_sign) && (slice_index word 1 == minus_sign)

-- the words up to the next that begins a task
abbrev pub own_words : List (List ℕ) → List (List ℕ)
own_words words = take_while (λ word. not (begins_task word)) words

-- the sign at which an option is cut
abbrev pub is_cut_sign : ℕ → Bool
is_cut_sign b = b == equals_sign

-- an option cut at a place into name and value, or all value
abbrev pub option_cut : ℕ → List ℕ → Option ℕ → OptionWord
option_cut n word None = record { word = n; name = []; value = word }
option_cut n word (Some at) = record { word = n; name = take at word; value = drop (at + 1) word }

-- the option that the word with this number says: it is cut at its first =
abbrev pub option_at : ℕ → List ℕ → OptionWord
option_at n word = option_cut n word (position is_cut_sign word)

-- the options of words whose first has this number
abbrev pub options_at : ℕ → List (List ℕ) → List OptionWord
options_at n [] = []
options_at n (word ∷ words) = option_at n word ∷ options_at (n + 1) words

-- an option without a name
abbrev pub is_unnamed : OptionWord → Bool
is_unnamed option = length option.name == 0

-- an option of this name
abbrev pub is_option_named : List ℕ → OptionWord → Bool
is_option_named name option = bytes_eq option.name name

-- what is wrong with an option by where it is cut: first, an empty name; later, a name that an earlier one has;
-- nowhere, a second one without a name
abbrev pub fault_of_cut : ℕ → List OptionWord → List ℕ → Option ℕ → Option WordsError
fault_of_cut n earlier word None = if list_any is_unnamed earlier then Some (TwoUnnamed n) else None
fault_of_cut n earlier word (Some at) =
    if at == 0 then Some (EmptyName n)
    else if list_any (is_option_named (take at word)) earlier then Some (TwiceOption n) else None

-- what is wrong with the word of this number after the earlier options of its task
abbrev pub option_fault : ℕ → List OptionWord → List ℕ → Option WordsError
option_fault n earlier word = fault_of_cut n earlier word (position is_cut_sign word)

-- the first fault among words of a task, of which the first has this number, after the earlier options
abbrev pub options_fault : ℕ → List OptionWord → List (List ℕ) → Option WordsError
options_fault n earlier [] = None
options_fault n earlier (word ∷ words) =
    option_or (option_fault n earlier word) (options_fault (n + 1) (earlier ++ option_at n word ∷ []) words)
