-- What a polygon file says: an area, or its first bad line.
-- Here the whole file is cut into lines and parts; the code goes through it once.
use Rattle.std.specs.Prelude.{ℕ, ◌+◌, List, length, Result, Ok, Err}
use Rattle.std.specs.List.{slice_split}
use Rattle.osm_area.specs.declared.area.Section.{Section}
use Rattle.osm_area.specs.declared.area.Area.{Area}
use Rattle.osm_area.specs.declared.area.Area.TheVariants.{Rings}
use Rattle.osm_poly.specs.Lines.{poly_lines, said_after_name}
use Rattle.osm_poly.specs.Sections.{is_end, poly_sections}

-- the area of sections, or the same bad line
abbrev pub area_of : Result (List Section) ℕ → Result Area ℕ
area_of (Ok sections) = Ok (Rings sections)
area_of (Err bad) = Err bad

-- the area of a polygon file, or its first bad line, which is the one after the last where the file ends too early
unfoldable pub poly : List ℕ → Result Area ℕ
poly bytes =
    area_of (poly_sections (1 + length (poly_lines bytes))
    (slice_split (λ line. is_end line.1) (said_after_name bytes)))
