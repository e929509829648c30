use Rattle.std.proofs.Common.{◌≡◌, ◌<◌, ◌-◌, ◌+◌, ◌^◌, ◌∷◌, ◌==◌, ℕ, List, length, take, drop, arith, ap, add-one}
use Rattle.std.specs.List.{suffix_len}
use Rattle.std.proofs.lemmas.Bool.{ne_eqb}
use Rattle.std.proofs.lemmas.List.{take_all}
use Rattle.osm_text.specs.Numbers.{fraction_text, nine_digits, trimmed}
use Rattle.osm_text.proofs.FractionLemmas.{length-nine_digits}
use Rattle.osm_text.proofs.fraction.write_fraction.Goals as goal

-- the point and its digits without the zeros at their end are the text of the fraction
take-pointed : (n places : ℕ) (text : List ℕ) → (n ≡ 0 → ⊥) → n < 10 ^ 9 → text ≡ 46 ∷ nine_digits n →
    places ≡ length (take 9 (drop 1 text)) - suffix_len (λ c. c == 48) (take 9 (drop 1 text)) →
    take (places + 1) text ≡ fraction_text n
take-pointed n places text some small is count =
    let length_is = length-nine_digits n small in
    let nine : take 9 (drop 1 text) ≡ nine_digits n = rw is (take_all 9 (nine_digits n) (omega arith)) in
    let kept : take places (nine_digits n) ≡ trimmed (nine_digits n) = rw (count, nine) in
    rw (is, add-one, ne_eqb n 0 some) (ap (λ digits. 46 ∷ digits) kept)

pub returns-clause-ok : goal.returns-clause-ok
returns-clause-ok c =
    let text = take-pointed c.args.n c.trimmed_length-places.result c.pointed_digits-text.result
    c.if-n-eq0.false (omega arith)
    c.pointed_digits-text.ensures c.trimmed_length-places.ensures in
    rw text at c.append.ensures.ok
