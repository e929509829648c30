use Rattle.std.proofs.Common.{◌≡◌, ◌∙◌, ◌<◌, ◌+◌, ◌++◌, ◌∷◌, [], List, None, ℕ, length, drop, ap, refl, sym, arith, rules}
use Rattle.std.proofs.lemmas.List.{drop-drop, length-drop}
use Rattle.osm_wire.proofs.PiecesLemmas.{pieces_of-next, pieces_of-refused}
use Rattle.osm_wire.specs.Entries.{whole_pieces}
use Rattle.osm_wire.specs.Messages.{packed_pieces}
use Rattle.osm_wire.specs.Varints.{leading_number}
use Rattle.osm_block_read.specs.Told.{behind}
use Rattle.osm_block_read.proofs.FieldLemmas.{whole_pieces-more}
use Rattle.osm_block_read.proofs.OptionLemmas.{behind-behind, map-none}
use Rattle.osm_block_read.proofs.codes.take_packed.Goals as goal

pub returns-in_default-clause-bad : goal.returns-in_default-clause-bad
returns-in_default-clause-bad c =
    let left : List ℕ = drop c.loop-at.at c.args.packed.now in
    let some : 0 < length left = omega (arith, c.loop-at-test.true, length-drop c.loop-at.at c.args.packed.now) in
    let none : whole_pieces (packed_pieces left) ≡ None =
    ap whole_pieces
    (pieces_of-refused leading_number left c.in_default.field-0 some
    (sym c.varint.ensures.value ∙ c.in_default.is)) in (
      refl,
      map-none (λ rest. c.args.codes.now.items ++ rest) (whole_pieces (packed_pieces c.args.packed.now))
          (sym c.loop-at.invariant.codes ∙ ap (behind c.loop-at.codes.items) none),
    )

pub loop-at-preserved : goal.loop-at-preserved
loop-at-preserved c =
    let left : List ℕ = drop c.loop-at.at c.args.packed.now in
    let next : List ℕ = drop (c.loop-at.at + c.in-Ok.size) c.args.packed.now in
    let some : 0 < length left = omega (arith, c.loop-at-test.true, length-drop c.loop-at.at c.args.packed.now) in
    let first : whole_pieces (packed_pieces left) ≡ behind (c.in-Ok.code ∷ []) (whole_pieces (packed_pieces next)) =
    ap whole_pieces
    (pieces_of-next leading_number left c.in-Ok.code c.in-Ok.size some c.in-Ok.ensures.within.0
    (sym c.varint.ensures.value ∙ c.in-Ok.is))
    ∙ whole_pieces-more c.in-Ok.code (packed_pieces (drop c.in-Ok.size left)).items
    (packed_pieces (drop c.in-Ok.size left)).fault
    ∙ ap (λ bytes. behind (c.in-Ok.code ∷ []) (whole_pieces (packed_pieces bytes)))
    (drop-drop c.in-Ok.size c.loop-at.at c.args.packed.now) in
    let got : c.push.new.self.items ≡ c.loop-at.codes.items ++ c.in-Ok.code ∷ [] = search rules in
    record {
      codes =
          ap (λ items. behind items (whole_pieces (packed_pieces next))) got
          ∙ sym (behind-behind c.loop-at.codes.items (c.in-Ok.code ∷ []) (whole_pieces (packed_pieces next)))
          ∙ ap (behind c.loop-at.codes.items) (sym first) ∙ c.loop-at.invariant.codes;
      within = omega (arith, c.in-Ok.ensures.within.1);
    }
