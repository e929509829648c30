-- Texts and tags as they usually are: what is wrong with such tags, and what they weigh, is known without their texts.
-- Here each text is looked at; the code looks at the texts of a block once, and then at indexes alone.
use Rattle.std.specs.Prelude.{ℕ, ℤ, pos, negsuc, ◌==◌, ◌&&◌, not, nat_le, nat_lt, Bool, true, false, List, [], ◌∷◌, length}
use Rattle.std.specs.List.{list_all}
use Rattle.osm_block_read.specs.Entries.{EntryBody, At, Along, Having}
use Rattle.osm_block_read.specs.Faults.{is_index_below}
use Rattle.osm_block_read.specs.declared.entry.EntryTag.{EntryTag}

-- a text of at most 1,024 bytes
abbrev pub is_short_text : List ℕ → Bool
is_short_text text = nat_le (length text) 1024

-- a short text that isn't empty
abbrev pub is_usual_text : List ℕ → Bool
is_usual_text text = is_short_text text && not (length text == 0)

-- all texts are short, and only the first may be empty
abbrev pub are_usual_texts : List (List ℕ) → Bool
are_usual_texts [] = true
are_usual_texts (first ∷ more) = is_short_text first && list_all is_usual_text more

-- an index past the first and below this count
abbrev pub is_later_index : ℕ → ℤ → Bool
is_later_index count (pos n) = nat_lt 0 n && nat_lt n count
is_later_index count (negsuc n) = false

-- a tag whose indexes are below this count, where that of its key is not the first
abbrev pub is_usual_tag : ℕ → EntryTag → Bool
is_usual_tag count t = is_later_index count t.key && is_index_below count t.value

-- at most 500 such tags
abbrev pub are_usual_tags : ℕ → List EntryTag → Bool
are_usual_tags count tags = nat_le (length tags) 500 && list_all (is_usual_tag count) tags

-- the texts are usual, and so are the tags
abbrev pub are_usual : List (List ℕ) → List EntryTag → Bool
are_usual texts tags = are_usual_texts texts && are_usual_tags (length texts) tags

-- at most 2,000 refs, or 1,000 members
abbrev pub is_small_body : EntryBody → Bool
is_small_body (At lat lon) = true
is_small_body (Along refs) = nat_le (length refs) 2000
is_small_body (Having members) = nat_le (length members) 1000
