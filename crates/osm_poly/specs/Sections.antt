-- Sections of polygon files, from the lines that aren't empty.
-- Here the lines are cut at once into the parts between END lines; the code reads line after line.
use Rattle.std.specs.Prelude.{ℕ, List, [], ◌∷◌, Bool, not, ◌==◌, Option, Some, None, Result, Ok, Err, codes, slice_index}
use Rattle.std.specs.List.{slice_split}
use Rattle.std.specs.Str.{bytes_eq}
use Rattle.osm_entity.specs.Ascii.{exclamation_mark}
use Rattle.osm_entity.specs.declared.parts.Place.{Place}
use Rattle.osm_area.specs.declared.area.Section.{Section}
use Rattle.osm_poly.specs.Lines.{said_from}
use Rattle.osm_poly.specs.Points.{poly_place}

-- a line that ends a section, or the file
abbrev pub is_end : List ℕ → Bool
is_end line = bytes_eq line (codes "END")

-- a section is added unless its name begins with an exclamation mark
abbrev pub adds : List ℕ → Bool
adds name = not (slice_index name 0 == exclamation_mark)

-- the place of a line before those of later lines; the first line that is none is bad
abbrev pub with_point : ℕ → Option Place → Result (List Place) ℕ → Result (List Place) ℕ
with_point number None later = Err number
with_point number (Some place) (Ok places) = Ok (place ∷ places)
with_point number (Some place) (Err bad) = Err bad

-- the places of lines, or the first line that is none
abbrev pub points : List (ℕ × List ℕ) → Result (List Place) ℕ
points [] = Ok []
points (line ∷ lines) = with_point line.0 (poly_place line.1) (points lines)

-- the first bad line where the file ends within a section: one of its points, or else the line after the last
abbrev pub first_bad : ℕ → Result (List Place) ℕ → ℕ
first_bad end (Ok places) = end
first_bad end (Err bad) = bad

-- the ring of the first of the parts between END lines, where such a line follows it
abbrev pub ring_part : ℕ → List (List (ℕ × List ℕ)) → Result (List Place) ℕ
ring_part end [] = Err end
ring_part end (lines ∷ []) = Err (first_bad end (points lines))
ring_part end (lines ∷ part ∷ parts) = points lines

-- a section before later ones; its first bad line counts before theirs
abbrev pub with_section : Bool → Result (List Place) ℕ → Result (List Section) ℕ → Result (List Section) ℕ
with_section add (Err bad) later = Err bad
with_section add (Ok places) (Ok sections) = Ok (record { add = add; ring = places } ∷ sections)
with_section add (Ok places) (Err bad) = Err bad

-- the sections of the parts between END lines, each a name and points, up to the first empty part, which an END
-- follows; else the line after the last is bad
abbrev pub poly_sections : ℕ → List (List (ℕ × List ℕ)) → Result (List Section) ℕ
poly_sections end [] = Err end
poly_sections end ([] ∷ []) = Err end
poly_sections end ([] ∷ part ∷ parts) = Ok []
poly_sections end ((name ∷ lines) ∷ parts) =
    with_section (adds name.1) (ring_part end (lines ∷ parts)) (poly_sections end parts)

-- the parts between the END lines of bytes, where the first line has this number
abbrev pub parts_from : ℕ → List ℕ → List (List (ℕ × List ℕ))
parts_from first bytes = slice_split (λ line. is_end line.1) (said_from first bytes)
