use Rattle.std.proofs.Common.{◌≡◌, ◌≤◌, ◌-◌, ◌∷◌, ◌++◌, ℕ, List, length, take, drop, replicate, decimal, suc, arith, ap, ◌∙◌}
use Rattle.std.proofs.lemmas.Fmt.{length-decimal-le}
use Rattle.std.proofs.lemmas.List.{take-append-drop, take-replicate, append-nil}
use Rattle.osm_text.proofs.fraction.pointed_digits.Goals as goal

-- a list is what stands before a place and what stands from it on
joined : (bytes head back : List ℕ) (start : ℕ) →
    take start bytes ≡ head → drop start bytes ≡ back → bytes ≡ head ++ back
joined bytes head back start before after = let whole = take-append-drop start bytes in cc

pub write_digits-requires : goal.write_digits-requires
write_digits-requires c = (length-decimal-le 10 c.args.n (omega arith) (omega arith) (omega arith), omega arith)

pub returns : goal.returns
returns c =
    let fits : length (decimal c.args.n) ≤ 9 = length-decimal-le 9 c.args.n (omega arith) (omega arith) (omega arith) in
    let start : c.write_digits.result ≡ suc (9 - length (decimal c.args.n)) =
    omega (arith, c.write_digits.ensures.start) in
    let zeros = take-replicate (9 - length (decimal c.args.n)) 9 48 (omega arith) in
    joined c.write_digits.new.buf (46 ∷ replicate (9 - length (decimal c.args.n)) 48) (decimal c.args.n)
    c.write_digits.result
    (c.write_digits.ensures.before ∙ rw start (ap (λ digits. 46 ∷ digits) zeros))
    (c.write_digits.ensures.written ∙ append-nil _)
