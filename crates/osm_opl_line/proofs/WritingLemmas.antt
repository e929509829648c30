-- Written lines: their parts one after another, and lists with commas.
use Rattle.std.proofs.Common.{◌≡◌, ◌<◌, ℕ, List, [], ◌∷◌, ◌++◌, length, drop, get_or, map, ap, sym, ◌∙◌, arith, append_assoc, Result}
use Rattle.std.specs.Prelude.{OnErr, OnOk, codes, decimal}
use Rattle.std.specs.List.{flat_map, join_with_byte}
use Rattle.std.proofs.lemmas.List.{append-nil}
use Rattle.std.proofs.lemmas.Result.{on_err_weaker, on_ok_weaker}
use Rattle.osm_entity.specs.Entities.{EntityValue}
use Rattle.osm_entity.specs.Items.{ItemValue}
use Rattle.osm_entity.specs.Prefixes.{IsPrefix}
use Rattle.osm_entity.specs.declared.sequence.NoMemory.{NoMemory}
use Rattle.osm_text.specs.Escapes.{escaped}
use Rattle.osm_opl_line.specs.LineParts.{author_text, head_text, lists_text}
use Rattle.osm_opl_line.specs.Writing.{body_text, line_text, tag_text, time_field}

-- three parts and an end, piece by piece
pieces-append : (out head t time i uid u user tags_name tags body end : List ℕ) →
    ((out ++ head) ++ (t ++ time ++ i ++ uid ++ u ++ user)) ++ (tags_name ++ tags ++ body) ++ end ≡
    out ++ (head ++ t ++ time ++ i ++ uid ++ u ++ user ++ tags_name ++ tags ++ body ++ end)
pieces-append out head t time i uid u user tags_name tags body end = simp append_assoc

-- the three parts of a line and a newline, after others, are the line after them
line_text-parts : (item : ItemValue) (out : List ℕ) →
    ((out ++ head_text item) ++ author_text item.entity) ++ lists_text item.entity ++ 10 ∷ [] ≡ out ++ line_text item
line_text-parts item out =
    pieces-append out (head_text item) (codes " t") (time_field item.entity.time) (codes " i") (decimal item.entity.uid)
    (codes " u") (escaped item.entity.user) (codes " T") (join_with_byte 44 (map tag_text item.entity.tags))
    (body_text item.entity.body) (10 ∷ [])

-- the three parts and a newline, appended one after another, append the line
pub append-line : (r : Result (Unit {0}) NoMemory) (item : ItemValue) (entity : EntityValue)
    (out first second third new : List ℕ) → item.entity ≡ entity → first ≡ out ++ head_text item →
    second ≡ first ++ author_text entity → third ≡ second ++ lists_text entity → OnOk r (new ≡ third ++ 10 ∷ []) →
    OnOk r (new ≡ out ++ line_text item)
append-line r item entity out first second third new same head author lists last =
    on_ok_weaker r (λ is. rw (lists, author, head, ← same) at is ∙ line_text-parts item out) last

-- what three appends leave begins with what was there
pub append-begins : (r : Result (Unit {0}) NoMemory) (out first second third new a b c : List ℕ) →
    first ≡ out ++ a → second ≡ first ++ b → third ≡ second ++ c → OnErr r (new ≡ third) →
    OnErr r (IsPrefix out new)
append-begins r out first second third new a b c one two three last =
    on_err_weaker r
    (λ is. record { rest = a ++ (b ++ c); joined = simp append_assoc at (rw (three, two, one) at is) }) last

-- a list with commas is its first element, and each other after a comma
join_with_byte-map : {T : Type 0} (text : T → List ℕ) (x : T) (parts : List T) →
    join_with_byte 44 (map text (x ∷ parts)) ≡ text x ++ flat_map (λ part. 44 ∷ text part) parts
join_with_byte-map text x [] = sym (append-nil (text x))
join_with_byte-map text x (y ∷ parts) = ap (λ t. text x ++ 44 ∷ t) (join_with_byte-map text y parts)

-- the same of a list that isn't empty
join_with_byte-first : {T : Type 0} (text : T → List ℕ) (first : T) (parts : List T) → 0 < length parts →
    first ≡ get_or parts 0 first →
    join_with_byte 44 (map text parts) ≡ text first ++ flat_map (λ part. 44 ∷ text part) (drop 1 parts)
join_with_byte-first text first [] some is = absurd (omega arith)
join_with_byte-first text first (x ∷ parts) some is = rw is (join_with_byte-map text x parts)

-- the first element and then the others, appended, append the list
pub append-list : {T : Type 0} (r : Result (Unit {0}) NoMemory) (text : T → List ℕ) (first : T) (parts : List T)
    (out one new : List ℕ) → 0 < length parts → first ≡ get_or parts 0 first → one ≡ out ++ text first →
    OnOk r (new ≡ one ++ flat_map (λ part. 44 ∷ text part) (drop 1 parts)) →
    OnOk r (new ≡ out ++ join_with_byte 44 (map text parts))
append-list r text first parts out one new some is first_is last =
    on_ok_weaker r (λ more. rw (join_with_byte-first text first parts some is)
    (simp append_assoc at (rw first_is at more))) last
