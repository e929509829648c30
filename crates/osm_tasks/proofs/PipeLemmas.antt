-- Names that begin with a prefix, and the names of the first ports.
use Rattle.std.proofs.Common.{◌≡◌, ◌≤◌, ◌+◌, ℕ, suc, true, List, ◌∷◌, [], ◌++◌, length, take, Option, arith, refl, ap, nat_eq}
use Rattle.std.specs.List.{starts_with}
use Rattle.std.proofs.lemmas.List.{length-take}
use Rattle.std.proofs.lemmas.Slice.Eq.{bytes_eq-Decides}
use Rattle.osm_words.specs.declared.list.OptionWord.{OptionWord}
use Rattle.osm_tasks.specs.Given.{pipe_name, pipe_names}

-- a prefix is no longer than the name that begins with it
pub prefix_fits : (name prefix : List ℕ) → starts_with nat_eq name prefix ≡ true → length prefix ≤ length name
prefix_fits name prefix begins =
    let same : prefix ≡ take (length prefix) name = (bytes_eq-Decides prefix (take (length prefix) name)).0 begins in
    omega (arith, ap length same, length-take (length prefix) name)

-- the names with one port more
pub names-more : (prefix : List ℕ) (words : List OptionWord) (n : ℕ) (names pushed : List (Option (List ℕ)))
    (name : Option (List ℕ)) → names ≡ pipe_names prefix words n → name ≡ pipe_name prefix words n →
    pushed ≡ names ++ name ∷ [] → pushed ≡ pipe_names prefix words (n + 1)
names-more prefix words n names pushed name before is more =
    let next : n + 1 ≡ suc n = omega arith in
    rw (next, more, before, is) refl
