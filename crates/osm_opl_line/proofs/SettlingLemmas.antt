-- What more bytes change of a reading: nothing before the last line, and nothing at all after a bad line.
use Rattle.std.proofs.Common.{◌≡◌, ◌+◌, ◌<◌, ℕ, List, [], ◌∷◌, ◌++◌, length, Bool, true, false, ◌&&◌, ◌||◌, refl, sym, ap, ◌∙◌, arith, length-append}
use Rattle.std.specs.Prelude.{nat_lt, ◌==◌, if◌then◌else◌}
use Rattle.std.specs.List.{slice_split}
use Rattle.std.proofs.lemmas.Bool.{ltb-true, lt-ltb}
use Rattle.osm_entity.specs.Items.{ItemValue}
use Rattle.osm_entity.specs.Readings.{Reading, Ending, Whole, Cut, Bad as BadAt, stream_read, end_read}
use Rattle.osm_entity.specs.Streams.{IsBefore}
use Rattle.osm_entity.specs.declared.kind.Flow.{Flow}
use Rattle.osm_entity.specs.declared.stream.End.TheVariants.{Done, Broken}
use Rattle.osm_entity.specs.declared.verdict.Cause.{Cause}
use Rattle.osm_entity.specs.declared.verdict.Cause.TheVariants.{LineTooLong}
use Rattle.osm_entity.specs.declared.verdict.Spot.{Spot}
use Rattle.osm_opl_line.specs.Line.{LineValue, Skipped, Good, Bad, opl_line, longest_line}
use Rattle.osm_opl_line.specs.Reading.{opl_reading, read_lines, lines_of, before}
use Rattle.osm_opl_line.proofs.CuttingLemmas.{opl_line-long}
use Rattle.osm_opl_line.proofs.PrefixLemmas.{ArePieces, are_pieces}

-- a reading ends at a bad line
IsBad : Ending → Type 0
IsBad ending = (cause : Cause) × (spot : Spot) × (ending ≡ BadAt cause spot)

-- a reading has the items of another first
abbrev IsBegun : Reading → Reading → Type 0
IsBegun x y = (rest : List ItemValue) × (y.items ≡ x.items ++ rest)

-- finished lines stay lines, whatever comes after them
lines_of-finished : (clean : Bool) (finished : List (List ℕ)) (line : List ℕ) (parts : List (List ℕ)) →
    lines_of clean (finished ++ line ∷ parts) ≡ finished ++ lines_of clean (line ∷ parts)
lines_of-finished clean [] line parts = refl
lines_of-finished clean (first ∷ []) line parts = refl
lines_of-finished clean (first ∷ second ∷ finished) line parts =
    ap (λ lines. first ∷ lines) (lines_of-finished clean (second ∷ finished) line parts)

-- the lines of pieces, by their finished ones
lines_of-pieces : (clean : Bool) (bytes : List ℕ) (finished : List (List ℕ)) (line : List ℕ)
    (parts : List (List ℕ)) → slice_split (λ b. b == 10) bytes ≡ finished ++ line ∷ parts →
    lines_of clean (slice_split (λ b. b == 10) bytes) ≡ finished ++ lines_of clean (line ∷ parts)
lines_of-pieces clean bytes finished line parts is =
    ap (lines_of clean) is ∙ lines_of-finished clean finished line parts

-- a bad line, or one before a bad reading: the reading after it may be another of the same value
settled-before : (number : ℕ) (value : LineValue) (x y : Reading) → IsBad (before number value x).ending →
    (IsBad x.ending → y ≡ x) → before number value y ≡ before number value x
settled-before number Skipped x y bad same = same bad
settled-before number (Good item) x y bad same = ap (λ reading. before number (Good item) reading) (same bad)
settled-before number (Bad cause) x y bad same = refl

-- where lines give the same after a bad reading, so they do after more finished lines
settled-lines : (flow : Flow) (clean any : Bool) (finished xs ys : List (List ℕ)) →
    ((number : ℕ) → IsBad (read_lines flow clean number xs).ending →
    read_lines flow any number ys ≡ read_lines flow clean number xs) →
    (number : ℕ) → IsBad (read_lines flow clean number (finished ++ xs)).ending →
    read_lines flow any number (finished ++ ys) ≡ read_lines flow clean number (finished ++ xs)
settled-lines flow clean any [] xs ys last number bad = last number bad
settled-lines flow clean any (line ∷ finished) xs ys last number bad =
    settled-before number (opl_line flow line) (read_lines flow clean (number + 1) (finished ++ xs))
    (read_lines flow any (number + 1) (finished ++ ys)) bad
    (settled-lines flow clean any finished xs ys last (number + 1))

-- one of two is enough
or-true : (b c : Bool) → c ≡ true → (b || c) ≡ true
or-true true c is = refl
or-true false c is = is

-- pieces of which the first is too long begin with it as a line
lines_of-long : (clean : Bool) (line : List ℕ) (parts : List (List ℕ)) → longest_line < length line →
    (more : List (List ℕ)) × (lines_of clean (line ∷ parts) ≡ line ∷ more)
lines_of-long clean line [] long = (
  [],
  ap (λ b. if b then line ∷ [] else [])
      (or-true (clean && nat_lt 0 (length line)) (nat_lt longest_line (length line))
      (lt-ltb longest_line (length line) long)),
)
lines_of-long clean line (part ∷ parts) long = (lines_of clean (part ∷ parts), refl)

-- a first line that is too long is all of a reading
read_lines-long : (flow : Flow) (clean : Bool) (line : List ℕ) (parts : List (List ℕ)) (number : ℕ) →
    longest_line < length line → (rest : Reading) ×
    (read_lines flow clean number (lines_of clean (line ∷ parts)) ≡ before number (Bad LineTooLong) rest)
read_lines-long flow clean line parts number long =
    let first = lines_of-long clean line parts long in (
      read_lines flow clean (number + 1) first.0,
      ap (read_lines flow clean number) first.1
          ∙ ap (λ value. before number value (read_lines flow clean (number + 1) first.0))
          (opl_line-long flow line long),
    )

-- an unfinished line of a file that was cut off is bad only where it is too long, and then it stays so
settled-last : (flow : Flow) (any long : Bool) (last ahead : List ℕ) (others : List (List ℕ)) (number : ℕ) →
    nat_lt longest_line (length last) ≡ long →
    IsBad (read_lines flow false number (if long then last ∷ [] else [])).ending →
    read_lines flow any number (lines_of any ((last ++ ahead) ∷ others))
    ≡ read_lines flow false number (if long then last ∷ [] else [])
unfolding IsBad
settled-last flow any false last ahead others number size bad =
    absurd (let no : Cut ≡ BadAt bad.0 bad.1 = bad.2 in cc)
settled-last flow any true last ahead others number size bad =
    let long : longest_line < length last = ltb-true longest_line (length last) size in
    let longer : longest_line < length (last ++ ahead) = omega (arith, long, length-append last ahead) in
    (read_lines-long flow any (last ++ ahead) others number longer).1
    ∙ sym (ap (λ value. before number value (read_lines flow false (number + 1) [])) (opl_line-long flow last long))

-- what comes after a bad line changes nothing
pub opl_reading-settled : (flow : Flow) (bytes more : List ℕ) (any : Bool) (cause : Cause) (spot : Spot) →
    (opl_reading flow bytes false).ending ≡ BadAt cause spot →
    opl_reading flow (bytes ++ more) any ≡ opl_reading flow bytes false
unfolding opl_reading IsBad
opl_reading-settled flow bytes more any cause spot bad =
    let p : ArePieces (λ b. b == 10) bytes more = are_pieces (λ b. b == 10) bytes more in
    let xs = lines_of-pieces false bytes p.finished p.last [] p.is in
    let ys = lines_of-pieces any (bytes ++ more) p.finished (p.last ++ p.ahead) p.others p.joined in
    ap (read_lines flow any 1) ys
    ∙ settled-lines flow false any p.finished (lines_of false (p.last ∷ []))
    (lines_of any ((p.last ++ p.ahead) ∷ p.others))
    (λ number. settled-last flow any (nat_lt longest_line (length p.last)) p.last p.ahead p.others number refl) 1
    (cause, spot, ap (λ lines. (read_lines flow false 1 lines).ending) (sym xs) ∙ bad)
    ∙ sym (ap (read_lines flow false 1) xs)

-- after a newline no line is unfinished, so a clean end adds none
lines_of-ended : (clean : Bool) (bytes : List ℕ) (p : ArePieces (λ b. b == 10) bytes (10 ∷ [])) →
    lines_of clean (slice_split (λ b. b == 10) (bytes ++ 10 ∷ [])) ≡ p.finished ++ (p.last ++ p.ahead) ∷ []
lines_of-ended clean bytes p =
    let others : p.others ≡ [] ∷ [] = let after : [] ∷ [] ∷ [] ≡ p.ahead ∷ p.others = p.after in cc in
    lines_of-pieces clean (bytes ++ 10 ∷ []) p.finished (p.last ++ p.ahead) p.others p.joined
    ∙ ap (λ parts. p.finished ++ lines_of clean ((p.last ++ p.ahead) ∷ parts)) others
    ∙ ap (λ lines. p.finished ++ (p.last ++ p.ahead) ∷ lines) (none clean)
  where
    none : (end : Bool) → lines_of end ([] ∷ []) ≡ []
    none true = refl
    none false = refl

-- a reading of lines that ends at a bad one is the same where the file was cut off
read_lines-bad : (flow : Flow) (lines : List (List ℕ)) (number : ℕ) →
    IsBad (read_lines flow true number lines).ending →
    read_lines flow false number lines ≡ read_lines flow true number lines
unfolding IsBad
read_lines-bad flow [] number bad = absurd (let no : Whole ≡ BadAt bad.0 bad.1 = bad.2 in cc)
read_lines-bad flow (line ∷ lines) number bad =
    settled-before number (opl_line flow line) (read_lines flow true (number + 1) lines)
    (read_lines flow false (number + 1) lines) bad (read_lines-bad flow lines (number + 1))

-- bytes that end with a newline and have a bad line are read alike where the file was cut off
opl_reading-ended : (flow : Flow) (bytes : List ℕ) (cause : Cause) (spot : Spot) →
    (opl_reading flow (bytes ++ 10 ∷ []) true).ending ≡ BadAt cause spot →
    opl_reading flow (bytes ++ 10 ∷ []) false ≡ opl_reading flow (bytes ++ 10 ∷ []) true
unfolding opl_reading IsBad
opl_reading-ended flow bytes cause spot bad =
    let p : ArePieces (λ b. b == 10) bytes (10 ∷ []) = are_pieces (λ b. b == 10) bytes (10 ∷ []) in
    let same = lines_of-ended false bytes p ∙ sym (lines_of-ended true bytes p) in
    ap (read_lines flow false 1) same
    ∙ read_lines-bad flow (lines_of true (slice_split (λ b. b == 10) (bytes ++ 10 ∷ []))) 1 (cause, spot, bad)

-- what comes after a bad line changes nothing, also at a clean end where a newline ends the bytes
pub opl_reading-settled_ended : (flow : Flow) (bytes more : List ℕ) (any : Bool) (cause : Cause) (spot : Spot) →
    (opl_reading flow (bytes ++ 10 ∷ []) true).ending ≡ BadAt cause spot →
    opl_reading flow ((bytes ++ 10 ∷ []) ++ more) any ≡ opl_reading flow (bytes ++ 10 ∷ []) true
opl_reading-settled_ended flow bytes more any cause spot bad =
    let same = opl_reading-ended flow bytes cause spot bad in
    opl_reading-settled flow (bytes ++ 10 ∷ []) more any cause spot
    (ap (λ (reading : Reading). reading.ending) same ∙ bad)
    ∙ same

-- a line before readings of which one begins the other
begun-before : (number : ℕ) (value : LineValue) (x y : Reading) → IsBegun x y →
    IsBegun (before number value x) (before number value y)
begun-before number Skipped x y begun = begun
begun-before number (Good item) x y begun = (begun.0, ap (λ items. item ∷ items) begun.1)
begun-before number (Bad cause) x y begun = ([], refl)

-- finished lines before readings of which one begins the other
begun-lines : (flow : Flow) (any : Bool) (finished xs ys : List (List ℕ)) →
    ((number : ℕ) → IsBegun (read_lines flow false number xs) (read_lines flow any number ys)) →
    (number : ℕ) → IsBegun (read_lines flow false number (finished ++ xs)) (read_lines flow any number (finished ++ ys))
begun-lines flow any [] xs ys last number = last number
begun-lines flow any (line ∷ finished) xs ys last number =
    begun-before number (opl_line flow line) (read_lines flow false (number + 1) (finished ++ xs))
    (read_lines flow any (number + 1) (finished ++ ys)) (begun-lines flow any finished xs ys last (number + 1))

-- an unfinished line of a file that was cut off gives no item
unfinished-gives_none : (flow : Flow) (long : Bool) (last : List ℕ) (number : ℕ) →
    nat_lt longest_line (length last) ≡ long →
    (read_lines flow false number (if long then last ∷ [] else [])).items ≡ []
unfinished-gives_none flow false last number size = refl
unfinished-gives_none flow true last number size =
    ap (λ value. (before number value (read_lines flow false (number + 1) [])).items)
    (opl_line-long flow last (ltb-true longest_line (length last) size))

-- a reading of lines that were cut off is never done
cut-isnt_done : (flow : Flow) (lines : List (List ℕ)) (number : ℕ) →
    end_read (read_lines flow false number lines).ending ≡ Done → ⊥
cut-isnt_done flow [] number done = let no : Broken ≡ Done = done in cc
cut-isnt_done flow (line ∷ lines) number done =
    by_value (opl_line flow line) (read_lines flow false (number + 1) lines)
    (cut-isnt_done flow lines (number + 1)) done
  where
    by_value : (value : LineValue) (rest : Reading) → (end_read rest.ending ≡ Done → ⊥) →
        end_read (before number value rest).ending ≡ Done → ⊥
    by_value Skipped rest isnt is = isnt is
    by_value (Good item) rest isnt is = isnt is
    by_value (Bad cause) rest isnt is = let no : Broken ≡ Done = is in cc

-- the reading of a prefix that isn't clean is before the reading of the whole
pub opl_reading-prefix : (flow : Flow) (bytes more : List ℕ) (any : Bool) →
    IsBefore (stream_read (opl_reading flow bytes false)) (stream_read (opl_reading flow (bytes ++ more) any))
unfolding opl_reading
opl_reading-prefix flow bytes more any =
    let p : ArePieces (λ b. b == 10) bytes more = are_pieces (λ b. b == 10) bytes more in
    let xs = lines_of-pieces false bytes p.finished p.last [] p.is in
    let ys = lines_of-pieces any (bytes ++ more) p.finished (p.last ++ p.ahead) p.others p.joined in
    let begun = begun-lines flow any p.finished (lines_of false (p.last ∷ []))
    (lines_of any ((p.last ++ p.ahead) ∷ p.others))
    (λ number. (
      (read_lines flow any number (lines_of any ((p.last ++ p.ahead) ∷ p.others))).items,
      ap (λ items. items ++ (read_lines flow any number (lines_of any ((p.last ++ p.ahead) ∷ p.others))).items)
          (sym (unfinished-gives_none flow (nat_lt longest_line (length p.last)) p.last number refl)),
    ))
    1 in
    record {
      items = record {
        rest = begun.0;
        joined = ap (λ lines. (read_lines flow any 1 lines).items) ys
            ∙ begun.1
            ∙ ap (λ lines. (read_lines flow false 1 lines).items ++ begun.0) (sym xs);
      };
      done = λ done. absurd (cut-isnt_done flow (lines_of false (slice_split (λ b. b == 10) bytes)) 1 done);
    }
