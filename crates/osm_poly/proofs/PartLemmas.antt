-- The parts between END lines, with one line more before them.
use Rattle.std.proofs.Common.{◌≡◌, ◌<◌, ◌∷◌, ◌++◌, [], ℕ, Bool, true, false, List, length, arith, refl, ap, sym, ◌∙◌, drop, Option, Some, None, Result, Ok, Err, append_assoc}
use Rattle.std.specs.List.{slice_split, onto_first}
use Rattle.std.specs.Option.{option_map}
use Rattle.std.proofs.lemmas.List.{append-nil}
use Rattle.std.proofs.lemmas.List.Splits.{length-slice_split, slice_split-cons_yes, slice_split-cons_no}
use Rattle.osm_entity.specs.declared.parts.Place.{Place}
use Rattle.osm_area.specs.declared.area.Section.{Section}
use Rattle.osm_poly.specs.Seen.{IsBlamed, IsNoPoint}
use Rattle.osm_poly.specs.declared.poly.PolyError.{PolyError}
use Rattle.osm_poly.specs.declared.poly.PolyError.TheVariants.{Bad, Memory}
use Rattle.osm_poly.specs.Points.{poly_place}
use Rattle.osm_poly.specs.Sections.{adds, is_end, poly_sections, points, ring_part, with_point, with_section, first_bad}

-- what was read before, and then what is read, unless that is bad
abbrev pub behind : {X : Type 0} → List X → Result (List X) ℕ → Result (List X) ℕ
behind before (Ok more) = Ok (before ++ more)
behind before (Err bad) = Err bad

-- nothing before
pub behind-none : {X : Type 0} (read : Result (List X) ℕ) → behind [] read ≡ read
behind-none (Ok more) = refl
behind-none (Err bad) = refl

-- one more before
pub behind-more : {X : Type 0} (before : List X) (x : X) (read : Result (List X) ℕ) →
    behind before (behind (x ∷ []) read) ≡ behind (before ++ x ∷ []) read
behind-more before x (Ok more) = ap Ok (sym (append_assoc before (x ∷ []) more))
behind-more before x (Err bad) = refl

-- the lines in parts, cut at END lines
abbrev pub parts : List (ℕ × List ℕ) → List (List (ℕ × List ℕ))
parts lines = slice_split (λ line. is_end line.1) lines

-- there is always a first part
pub length-parts : (lines : List (ℕ × List ℕ)) → 0 < length (parts lines)
length-parts lines = omega (arith, length-slice_split (λ line. is_end line.1) lines)

-- END ends a part
parts-end : (n : ℕ) (line : List ℕ) (later : List (ℕ × List ℕ)) → is_end line ≡ true →
    parts ((n, line) ∷ later) ≡ [] ∷ parts later
parts-end n line later ended = slice_split-cons_yes (λ l. is_end l.1) (n, line) later ended

-- another line begins one
parts-line : (n : ℕ) (line : List ℕ) (later : List (ℕ × List ℕ)) → is_end line ≡ false →
    parts ((n, line) ∷ later) ≡ onto_first (n, line) (parts later)
parts-line n line later other = slice_split-cons_no (λ l. is_end l.1) (n, line) later other

-- a part that is followed by another is whole
ring_part-whole : (end : ℕ) (lines : List (ℕ × List ℕ)) (others : List (List (ℕ × List ℕ))) → 0 < length others →
    ring_part end (lines ∷ others) ≡ points lines
ring_part-whole end lines [] some = absurd (omega arith)
ring_part-whole end lines (other ∷ others) some = refl

-- the first part that is followed by another ends the file where it is empty
poly_sections-whole : (end : ℕ) (others : List (List (ℕ × List ℕ))) → 0 < length others →
    poly_sections end ([] ∷ others) ≡ Ok []
poly_sections-whole end [] some = absurd (omega arith)
poly_sections-whole end (other ∷ others) some = refl

-- a point before those of lines that end within a section
first_bad-point : (end n : ℕ) (place : Place) (read : Result (List Place) ℕ) →
    first_bad end (with_point n (Some place) read) ≡ first_bad end read
first_bad-point end n place (Ok more) = refl
first_bad-point end n place (Err bad) = refl

-- a point before those of other lines
with_point-place : (n : ℕ) (place : Place) (read : Result (List Place) ℕ) →
    with_point n (Some place) read ≡ behind (place ∷ []) read
with_point-place n place (Ok more) = refl
with_point-place n place (Err bad) = refl

-- a point before those of a part
ring_part-point : (end n : ℕ) (line : List ℕ) (place : Place) (others : List (List (ℕ × List ℕ))) → 0 < length others →
    poly_place line ≡ Some place →
    ring_part end (onto_first (n, line) others) ≡ behind (place ∷ []) (ring_part end others)
ring_part-point end n line place [] some is = absurd (omega arith)
ring_part-point end n line place (lines ∷ []) some is = rw is (ap Err (first_bad-point end n place (points lines)))
ring_part-point end n line place (lines ∷ other ∷ others) some is = rw is (with_point-place n place (points lines))

-- a bad line before those of a part
ring_part-bad : (end n : ℕ) (line : List ℕ) (others : List (List (ℕ × List ℕ))) → 0 < length others →
    poly_place line ≡ None → ring_part end (onto_first (n, line) others) ≡ Err n
ring_part-bad end n line [] some is = absurd (omega arith)
ring_part-bad end n line (lines ∷ []) some is = rw is refl
ring_part-bad end n line (lines ∷ other ∷ others) some is = rw is refl

-- a line of the first part leaves the others
drop-onto_first : (line : ℕ × List ℕ) (others : List (List (ℕ × List ℕ))) → 0 < length others →
    drop 1 (onto_first line others) ≡ drop 1 others
drop-onto_first line [] some = absurd (omega arith)
drop-onto_first line (lines ∷ others) some = refl

-- a name before a ring and other sections
poly_sections-name : (end n : ℕ) (name : List ℕ) (others : List (List (ℕ × List ℕ))) → 0 < length others →
    poly_sections end (onto_first (n, name) others) ≡
    with_section (adds name) (ring_part end others) (poly_sections end (drop 1 others))
poly_sections-name end n name [] some = absurd (omega arith)
poly_sections-name end n name (lines ∷ others) some = refl

-- a section before others
with_section-ring : (add : Bool) (ring : List Place) (read : Result (List Section) ℕ) →
    with_section add (Ok ring) read ≡ behind (record { add = add; ring = ring } ∷ []) read
with_section-ring add ring (Ok more) = refl
with_section-ring add ring (Err bad) = refl

-- END after the points that were read
pub points-done : (end n : ℕ) (line : List ℕ) (corners : List Place) (lines later : List (ℕ × List ℕ))
    (read : Result (List Place) ℕ) → read ≡ behind corners (ring_part end (parts lines)) →
    lines ≡ (n, line) ∷ later → is_end line ≡ true → read ≡ Ok corners
points-done end n line corners lines later read so_far is ended =
    let whole = ring_part-whole end [] (parts later) (length-parts later) in
    so_far ∙ rw (is, parts-end n line later ended, whole) (ap Ok (append-nil corners))

-- the parts after END
pub drop-parts_end : (n : ℕ) (line : List ℕ) (lines later : List (ℕ × List ℕ)) → lines ≡ (n, line) ∷ later →
    is_end line ≡ true → drop 1 (parts lines) ≡ parts later
drop-parts_end n line lines later is ended = rw (is, parts-end n line later ended) refl

-- the parts after a line that isn't END
pub drop-parts_line : (n : ℕ) (line : List ℕ) (lines later : List (ℕ × List ℕ)) → lines ≡ (n, line) ∷ later →
    is_end line ≡ false → drop 1 (parts lines) ≡ drop 1 (parts later)
drop-parts_line n line lines later is other =
    rw (is, parts-line n line later other) (drop-onto_first (n, line) (parts later) (length-parts later))

-- the file ends within the points
pub points-end : (end : ℕ) (corners : List Place) (lines : List (ℕ × List ℕ)) (read : Result (List Place) ℕ) →
    read ≡ behind corners (ring_part end (parts lines)) → lines ≡ [] → read ≡ Err end
points-end end corners lines read so_far is = so_far ∙ rw is refl

-- a point more, by what its line says
point-read : (corners new : List Place) (said_place : Option Place) →
    option_map (λ place. corners ++ place ∷ []) said_place ≡ Some new →
    (place : Place) × (said_place ≡ Some place) × (new ≡ corners ++ place ∷ [])
point-read corners new None is = absurd (cc)
point-read corners new (Some place) is = (place, refl, kept is) where
  kept : Some (corners ++ place ∷ []) ≡ Some new → new ≡ corners ++ place ∷ []
  kept same = cc

-- a point more
pub points-more : (end next n : ℕ) (line : List ℕ) (corners new : List Place) (lines later : List (ℕ × List ℕ))
    (read : Result (List Place) ℕ) → end ≡ next → read ≡ behind corners (ring_part end (parts lines)) →
    lines ≡ (n, line) ∷ later → is_end line ≡ false →
    option_map (λ place. corners ++ place ∷ []) (poly_place line) ≡ Some new →
    read ≡ behind new (ring_part next (parts later))
points-more end next n line corners new lines later read same so_far is other added =
    let point = point-read corners new (poly_place line) added in
    let here = ring_part-point end n line point.0 (parts later) (length-parts later) point.1 in
    let step : behind corners (ring_part end (parts lines)) ≡
    behind (corners ++ point.0 ∷ []) (ring_part next (parts later)) =
    rw (is, parts-line n line later other, here, sym same)
    (behind-more corners point.0 (ring_part end (parts later))) in
    so_far ∙ step ∙ ap (λ all. behind all (ring_part next (parts later))) (sym point.2)

-- a line that is no point
pub points-bad : (end n : ℕ) (line : List ℕ) (corners : List Place) (lines later : List (ℕ × List ℕ))
    (read : Result (List Place) ℕ) (error : PolyError) → read ≡ behind corners (ring_part end (parts lines)) →
    lines ≡ (n, line) ∷ later → is_end line ≡ false → IsNoPoint error n (poly_place line) → IsBlamed error read
points-bad end n line corners lines later read (Bad at) so_far is other bad =
    let here = ring_part-bad end n line (parts later) (length-parts later) bad.0 in
    so_far ∙ rw (is, parts-line n line later other, here, bad.1) refl
points-bad end n line corners lines later read Memory so_far is other bad = tt

-- END where a name is due
pub sections-done : (end n : ℕ) (line : List ℕ) (sections : List Section) (lines later : List (ℕ × List ℕ))
    (read : Result (List Section) ℕ) → read ≡ behind sections (poly_sections end (parts lines)) →
    lines ≡ (n, line) ∷ later → is_end line ≡ true → read ≡ Ok sections
sections-done end n line sections lines later read so_far is ended =
    let whole = poly_sections-whole end (parts later) (length-parts later) in
    so_far ∙ rw (is, parts-end n line later ended, whole) (ap Ok (append-nil sections))

-- the file ends where a name is due
pub sections-end : (end : ℕ) (sections : List Section) (lines : List (ℕ × List ℕ)) (read : Result (List Section) ℕ) →
    read ≡ behind sections (poly_sections end (parts lines)) → lines ≡ [] → read ≡ Err end
sections-end end sections lines read so_far is = so_far ∙ rw is refl

-- a section more
pub sections-more : (end second third n : ℕ) (name : List ℕ) (ring : List Place) (sections : List Section)
    (lines later after : List (ℕ × List ℕ)) (read : Result (List Section) ℕ) → end ≡ second → second ≡ third →
    read ≡ behind sections (poly_sections end (parts lines)) → lines ≡ (n, name) ∷ later → is_end name ≡ false →
    ring_part second (parts later) ≡ Ok ring → drop 1 (parts later) ≡ parts after →
    read ≡ behind (sections ++ record { add = adds name; ring = ring } ∷ []) (poly_sections third (parts after))
sections-more end second third n name ring sections lines later after read one two so_far is other whole others =
    let here = poly_sections-name end n name (parts later) (length-parts later) in
    let read_ring : ring_part end (parts later) ≡ Ok ring = rw one whole in
    let section = with_section-ring (adds name) ring (poly_sections end (parts after)) in
    so_far ∙ rw (is, parts-line n name later other, here, read_ring, others, section, sym (one ∙ two))
    (behind-more sections (record { add = adds name; ring = ring }) (poly_sections end (parts after)))

-- a bad line within a section
pub sections-bad : (end n : ℕ) (name : List ℕ) (sections : List Section) (lines later : List (ℕ × List ℕ))
    (read : Result (List Section) ℕ) (error : PolyError) →
    read ≡ behind sections (poly_sections end (parts lines)) → lines ≡ (n, name) ∷ later → is_end name ≡ false →
    IsBlamed error (ring_part end (parts later)) → IsBlamed error read
sections-bad end n name sections lines later read (Bad at) so_far is other bad =
    let here = poly_sections-name end n name (parts later) (length-parts later) in
    so_far ∙ rw (is, parts-line n name later other, here, bad) refl
sections-bad end n name sections lines later read Memory so_far is other bad = tt
