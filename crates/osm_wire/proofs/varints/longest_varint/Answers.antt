use Rattle.std.proofs.Common.{◌≡◌, ◌∙◌, ◌+◌, ◌*◌, ◌^◌, ℕ, None, Ok, ap, sym, arith}
use Rattle.std.specs.List.{position}
use Rattle.std.proofs.lemmas.List.{take_all}
use Rattle.osm_wire.specs.Varints.{is_last_byte}
use Rattle.osm_wire.proofs.VarintLemmas.{leading_number-overlong, leading_number-short, leading_number-ten}
use Rattle.osm_wire.proofs.varints.longest_varint.Goals as goal

pub returns-then-bytes-lt10-clause-value : goal.returns-then-bytes-lt10-clause-value
returns-then-bytes-lt10-clause-value c =
    let none : position is_last_byte c.args.bytes.now ≡ None =
    rw (take_all 9 c.args.bytes.now (omega arith)) at c.requires.high in
    sym (leading_number-short c.args.bytes.now (omega arith) none)

pub returns-in-0-clause-value : goal.returns-in-0-clause-value
returns-in-0-clause-value c =
    let same : c.args.number ≡ c.args.number + 0 * 2 ^ 63 = omega arith in
    ap (λ (n : ℕ). Ok (n, 10)) same
    ∙ sym
    (leading_number-ten c.args.bytes.now c.args.number 0 (omega arith) c.requires.high c.requires.number
    c.requires.fits c.in-0.is (omega arith))

pub returns-in-1-clause-value : goal.returns-in-1-clause-value
returns-in-1-clause-value c =
    sym
    (leading_number-ten c.args.bytes.now c.args.number 1 (omega arith) c.requires.high c.requires.number
    c.requires.fits c.in-1.is (omega arith))

pub returns-in_default-clause-value : goal.returns-in_default-clause-value
returns-in_default-clause-value c =
    sym (leading_number-overlong c.args.bytes.now (omega arith) c.requires.high (omega arith))
