-- With which code the program ends.
-- Here the code is that of some status of a run; the code of the program hands it on.
use Rattle.std.specs.Prelude.{ℕ, ◌≡◌, List, [], ◌∷◌, codes, if◌then◌else◌}
use Rattle.std.specs.Str.{bytes_eq}
use Rattle.osm_host.specs.Moments.{Moment}
use Rattle.osm_run.specs.WordsRun.{IsWordsRun}
use Rattle.osm_run.specs.declared.status.Status.{Status}

-- the words that are run: those behind a first -s, which asks for one thread, or all
abbrev pub words_to_run : List (List ℕ) → List (List ℕ)
words_to_run [] = []
words_to_run (word ∷ words) = if bytes_eq word (codes "-s") then words else word ∷ words

-- the exit code is that of the status of a run of the words that are run
pub record IsExitCode (words : List (List ℕ)) (before after : Moment) (code : ℕ) : Type 0 where
  pub status : Status
  pub run : IsWordsRun (words_to_run words) before after status
  pub is_code : code ≡ status.code
