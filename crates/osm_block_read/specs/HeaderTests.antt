-- The tests of the required features of a header block, as the code makes them one after the other.
-- Here each goes through all features; the code makes both for each feature.
use Rattle.std.specs.Prelude.{ℕ, List, ◌&&◌, Bool}
use Rattle.std.specs.List.{list_all}
use Rattle.std.specs.Str.{is_utf8}
use Rattle.osm_block_read.specs.Header.{is_known_feature}

-- whether all features are UTF-8 and whether all are known, where both are so of the features before them
abbrev pub tests_of : Bool → Bool → List (List ℕ) → Bool × Bool
tests_of are_texts are_known features =
    (are_texts && list_all is_utf8 features, are_known && list_all is_known_feature features)
