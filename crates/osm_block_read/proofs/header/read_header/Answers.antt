use Rattle.std.proofs.Common.{◌≡◌, ◌∙◌, true, false, Some, sym, ap, arith}
use Rattle.osm_wire.specs.Entries.{single_bytes}
use Rattle.osm_block_read.proofs.HeaderLemmas.{fault_of_tests, header_fault-box, header_fault-message, header_fault-tests}
use Rattle.osm_block_read.proofs.OptionLemmas.{none-found, some-found}
use Rattle.osm_block_read.proofs.header.read_header.Goals as goal

pub returns-in_default : goal.returns-in_default
returns-in_default c = sym (header_fault-message c.args.raw.now (sym c.new.ensures ∙ c.in_default.is))

pub returns-then-is_none : goal.returns-then-is_none
returns-then-is_none c =
    sym
    (header_fault-box c.args.raw.now c.in-Some.message (sym c.new.ensures ∙ c.in-Some.is)
    (none-found _ c.single.result (single_bytes 1 c.in-Some.message) c.is_none.result c.single.ensures c.is_none.ensures
    c.if-is_none.true))

pub returns-in_default-test_features : goal.returns-in_default-test_features
returns-in_default-test_features c =
    let box =
    some-found _ c.single.result (single_bytes 1 c.in-Some.message) c.is_none.result c.single.ensures c.is_none.ensures
    c.if-is_none.false in
    sym
    (header_fault-tests c.args.raw.now c.in-Some.message box.0 (sym c.new.ensures ∙ c.in-Some.is) box.1
    ∙ ap fault_of_tests (sym c.test_features.ensures ∙ c.in_default-test_features.is))

pub returns-then-not-are_texts : goal.returns-then-not-are_texts
returns-then-not-are_texts c =
    let box =
    some-found _ c.single.result (single_bytes 1 c.in-Some.message) c.is_none.result c.single.ensures c.is_none.ensures
    c.if-is_none.false in
    let bad : c.in-Some-test_features.are_texts ≡ false = grind (arith, c.if-not-are_texts.true) in
    sym
    (header_fault-tests c.args.raw.now c.in-Some.message box.0 (sym c.new.ensures ∙ c.in-Some.is) box.1
    ∙ ap fault_of_tests (sym c.test_features.ensures ∙ c.in-Some-test_features.is)
    ∙ ap (λ texts. fault_of_tests (Some (texts, c.in-Some-test_features.are_known))) bad)

pub returns-then-not-are_known : goal.returns-then-not-are_known
returns-then-not-are_known c =
    let box =
    some-found _ c.single.result (single_bytes 1 c.in-Some.message) c.is_none.result c.single.ensures c.is_none.ensures
    c.if-is_none.false in
    let texts : c.in-Some-test_features.are_texts ≡ true = grind (arith, c.if-not-are_texts.false) in
    let bad : c.in-Some-test_features.are_known ≡ false = grind (arith, c.if-not-are_known.true) in
    sym
    (header_fault-tests c.args.raw.now c.in-Some.message box.0 (sym c.new.ensures ∙ c.in-Some.is) box.1
    ∙ ap fault_of_tests (sym c.test_features.ensures ∙ c.in-Some-test_features.is)
    ∙ ap (λ texts. fault_of_tests (Some (texts, c.in-Some-test_features.are_known))) texts
    ∙ ap (λ known. fault_of_tests (Some (true, known))) bad)

pub returns-else-not-are_known : goal.returns-else-not-are_known
returns-else-not-are_known c =
    let box =
    some-found _ c.single.result (single_bytes 1 c.in-Some.message) c.is_none.result c.single.ensures c.is_none.ensures
    c.if-is_none.false in
    let texts : c.in-Some-test_features.are_texts ≡ true = grind (arith, c.if-not-are_texts.false) in
    let known : c.in-Some-test_features.are_known ≡ true = grind (arith, c.if-not-are_known.false) in
    sym
    (header_fault-tests c.args.raw.now c.in-Some.message box.0 (sym c.new.ensures ∙ c.in-Some.is) box.1
    ∙ ap fault_of_tests (sym c.test_features.ensures ∙ c.in-Some-test_features.is)
    ∙ ap (λ texts. fault_of_tests (Some (texts, c.in-Some-test_features.are_known))) texts
    ∙ ap (λ known. fault_of_tests (Some (true, known))) known)
