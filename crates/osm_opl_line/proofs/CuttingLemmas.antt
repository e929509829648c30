-- What a line says, test by test.
use Rattle.std.proofs.Common.{◌≡◌, ◌∙◌, ◌<◌, ◌≤◌, ℕ, ℤ, true, false, List, [], ◌∷◌, length, Some, None, refl, ap, arith}
use Rattle.std.specs.Prelude.{◌==◌, if◌then◌else◌, not, slice_index}
use Rattle.std.specs.List.{list_any}
use Rattle.std.specs.Str.{is_utf8}
use Rattle.std.proofs.lemmas.Bool.{lt-ltb, le-ltb, ne_eqb}
use Rattle.osm_entity.specs.declared.kind.Flow.{Flow}
use Rattle.osm_entity.specs.declared.kind.Kind.{Kind}
use Rattle.osm_entity.specs.declared.verdict.Cause.{Cause}
use Rattle.osm_entity.specs.declared.verdict.Cause.TheVariants.{BadText, BadField, LineTooLong}
use Rattle.osm_text.specs.Numbers.{whole}
use Rattle.osm_opl_line.specs.Bytes.{byte_fault}
use Rattle.osm_opl_line.specs.Contents.{kind_by}
use Rattle.osm_opl_line.specs.Fields.{Fields, fields_from, fields_of, fault_among, pieces}
use Rattle.osm_opl_line.specs.Line.{Skipped, Bad, is_control, judged, longest_line, opl_line, said_of}
use Rattle.osm_opl_line.proofs.BytesLemmas.{said-fault, said-free}

-- a line that is too long is bad
pub opl_line-long : (flow : Flow) (line : List ℕ) → longest_line < length line →
    opl_line flow line ≡ Bad LineTooLong
unfolding opl_line
opl_line-long flow line long = rw (lt-ltb longest_line (length line) long) refl

-- a line that begins with # is skipped
pub opl_line-hash : (flow : Flow) (line : List ℕ) → length line ≤ longest_line → (slice_index line 0 == 35) ≡ true →
    opl_line flow line ≡ Skipped
unfolding opl_line
opl_line-hash flow line short hash = rw (le-ltb longest_line (length line) short, hash) refl

-- a line without pieces is skipped
pub opl_line-empty : (flow : Flow) (line : List ℕ) → length line ≤ longest_line → (slice_index line 0 == 35) ≡ false →
    pieces line ≡ [] → opl_line flow line ≡ Skipped
unfolding opl_line
opl_line-empty flow line short plain none = rw (le-ltb longest_line (length line) short, plain, none) refl

-- a line with a piece is judged by its bytes and its pieces
opl_line-pieces : (flow : Flow) (line : List ℕ) {first : List ℕ} {more : List (List ℕ)} → length line ≤ longest_line →
    (slice_index line 0 == 35) ≡ false → pieces line ≡ first ∷ more →
    opl_line flow line
    ≡ (if not (is_utf8 line) then Bad BadText
    else if list_any is_control line then Bad BadField
    else said_of flow (first ∷ more))
unfolding opl_line
opl_line-pieces flow line {first} {more} short plain some =
    let several : (length (first ∷ more) == 0) ≡ false = ne_eqb (length (first ∷ more)) 0 (λ e. absurd (omega arith)) in
    rw (le-ltb longest_line (length line) short, plain, some, several) refl

-- a line with a piece and a fault among its bytes is bad
pub opl_line-fault : (flow : Flow) (line : List ℕ) (cause : Cause) {first : List ℕ} {more : List (List ℕ)} →
    length line ≤ longest_line → (slice_index line 0 == 35) ≡ false → pieces line ≡ first ∷ more →
    Some cause ≡ byte_fault line → opl_line flow line ≡ Bad cause
opl_line-fault flow line cause {first} {more} short plain some fault =
    opl_line-pieces flow line short plain some ∙ said-fault line (said_of flow (first ∷ more)) cause fault

-- any other line says what its pieces say
pub opl_line-said : (flow : Flow) (line : List ℕ) {first : List ℕ} {more : List (List ℕ)} → length line ≤ longest_line →
    (slice_index line 0 == 35) ≡ false → pieces line ≡ first ∷ more → None ≡ byte_fault line →
    opl_line flow line ≡ said_of flow (first ∷ more)
opl_line-said flow line {first} {more} short plain some free =
    opl_line-pieces flow line short plain some ∙ (said-free line (said_of flow (first ∷ more)) free).1

-- pieces without a fault are judged by their fields
pub said_of-drafted : (flow : Flow) (kind : Kind) (letter : ℕ) (id : List ℕ) (n : ℤ) (parts : List (List ℕ))
    (f : Fields) →
    Some kind ≡ kind_by letter → Some n ≡ whole id → None ≡ fault_among kind [] parts →
    fields_from flow kind n parts ≡ f → said_of flow ((letter ∷ id) ∷ parts) ≡ judged f
said_of-drafted flow kind letter id n parts f is_kind is_id sound fields =
    rw (← is_kind, ← is_id, ← sound) (ap judged fields)

-- the fields of pieces, by their kind and id
pub fields_of-drafted : (flow : Flow) (kind : Kind) (letter : ℕ) (id : List ℕ) (n : ℤ) (parts : List (List ℕ))
    (f : Fields) →
    Some kind ≡ kind_by letter → Some n ≡ whole id → fields_from flow kind n parts ≡ f →
    fields_of flow ((letter ∷ id) ∷ parts) ≡ Some f
fields_of-drafted flow kind letter id n parts f is_kind is_id fields = rw (← is_kind, ← is_id, fields) refl
