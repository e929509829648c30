-- What five fields one after the other say, each of which may be left out.
use Rattle.std.proofs.Common.{◌≡◌, ◌∙◌, ◌<◌, ◌++◌, [], ℕ, List, arith}
use Rattle.osm_wire.specs.Entries.{payloads_of}
use Rattle.osm_wire.specs.Messages.{FieldValue, Payload}
use Rattle.osm_block_write.specs.Columns.{packed_field}
use Rattle.osm_block_write.specs.Messages.{info_field}
use Rattle.osm_block_write.specs.declared.options.PbfOptions.{PbfOptions}
use Rattle.osm_pbf.proofs.FieldsBackLemmas.{packed-other, packed-own, packed_payload, payloads-before, payloads-behind, payloads-neither}
use Rattle.osm_pbf.proofs.PlainBackLemmas.{info-other, info-own, info_payload}

-- fields that have these payloads of one number, and none of another
pub record HasOnly (number : ℕ) (payloads : List Payload) (fields : List FieldValue) : Type 0 where
  pub own : payloads_of number fields ≡ payloads
  pub other : (k : ℕ) → (number ≡ k → ⊥) → payloads_of k fields ≡ []

-- a column
pub packed-only : (number : ℕ) (numbers : List ℕ) →
    HasOnly number (packed_payload numbers) (packed_field number numbers)
packed-only number numbers = record {
  own = packed-own number numbers;
  other = λ k differ. packed-other k number numbers differ;
}

-- metadata
pub info-only : (options : PbfOptions) (number : ℕ) (fields : List FieldValue) →
    HasOnly number (info_payload options.omitmetadata fields) (info_field options number fields)
info-only options number fields = record {
  own = info-own options number fields;
  other = λ k differ. info-other options k number fields differ;
}

-- five numbers in rising order
pub record AreRising (a b c d e : ℕ) : Type 0 where
  pub ab : a < b
  pub bc : b < c
  pub cd : c < d
  pub de : d < e

module _ (a b c d e : ℕ) (pa pb pc pd pe : List Payload) (fa fb fc fd fe : List FieldValue)
    (rising : AreRising a b c d e) (one : HasOnly a pa fa) (two : HasOnly b pb fb) (three : HasOnly c pc fc)
    (four : HasOnly d pd fd) (five : HasOnly e pe fe) where
  -- the fields of all five
  abbrev all : List FieldValue
  all = fa ++ fb ++ fc ++ fd ++ fe

  -- what is of the first number
  pub first-of : payloads_of a all ≡ pa
  first-of =
      payloads-before a (((fa ++ fb) ++ fc) ++ fd) fe
      (five.other a (λ is. omega (arith, is, rising.ab, rising.bc, rising.cd, rising.de)))
      ∙ payloads-before a ((fa ++ fb) ++ fc) fd
      (four.other a (λ is. omega (arith, is, rising.ab, rising.bc, rising.cd)))
      ∙ payloads-before a (fa ++ fb) fc (three.other a (λ is. omega (arith, is, rising.ab, rising.bc)))
      ∙ payloads-before a fa fb (two.other a (λ is. omega (arith, is, rising.ab))) ∙ one.own

  -- what is of the second number
  pub second-of : payloads_of b all ≡ pb
  second-of =
      payloads-before b (((fa ++ fb) ++ fc) ++ fd) fe
      (five.other b (λ is. omega (arith, is, rising.bc, rising.cd, rising.de)))
      ∙ payloads-before b ((fa ++ fb) ++ fc) fd (four.other b (λ is. omega (arith, is, rising.bc, rising.cd)))
      ∙ payloads-before b (fa ++ fb) fc (three.other b (λ is. omega (arith, is, rising.bc)))
      ∙ payloads-behind b fa fb (one.other b (λ is. omega (arith, is, rising.ab))) ∙ two.own

  -- what is of the third number
  pub third-of : payloads_of c all ≡ pc
  third-of =
      payloads-before c (((fa ++ fb) ++ fc) ++ fd) fe
      (five.other c (λ is. omega (arith, is, rising.cd, rising.de)))
      ∙ payloads-before c ((fa ++ fb) ++ fc) fd (four.other c (λ is. omega (arith, is, rising.cd)))
      ∙ payloads-behind c (fa ++ fb) fc
      (payloads-neither c fa fb (one.other c (λ is. omega (arith, is, rising.ab, rising.bc)))
      (two.other c (λ is. omega (arith, is, rising.bc)))) ∙ three.own

  -- what is of the fourth number
  pub fourth-of : payloads_of d all ≡ pd
  fourth-of =
      payloads-before d (((fa ++ fb) ++ fc) ++ fd) fe (five.other d (λ is. omega (arith, is, rising.de)))
      ∙ payloads-behind d ((fa ++ fb) ++ fc) fd
      (payloads-neither d (fa ++ fb) fc
      (payloads-neither d fa fb (one.other d (λ is. omega (arith, is, rising.ab, rising.bc, rising.cd)))
      (two.other d (λ is. omega (arith, is, rising.bc, rising.cd))))
      (three.other d (λ is. omega (arith, is, rising.cd)))) ∙ four.own

  -- none is of another number
  pub none-of : (k : ℕ) → (a ≡ k → ⊥) → (b ≡ k → ⊥) → (c ≡ k → ⊥) → (d ≡ k → ⊥) → (e ≡ k → ⊥) →
      payloads_of k all ≡ []
  none-of k na nb nc nd ne =
      payloads-neither k (((fa ++ fb) ++ fc) ++ fd) fe
      (payloads-neither k ((fa ++ fb) ++ fc) fd
      (payloads-neither k (fa ++ fb) fc (payloads-neither k fa fb (one.other k na) (two.other k nb)) (three.other k nc))
      (four.other k nd)) (five.other k ne)

  -- what is of the fifth number
  pub fifth-of : payloads_of e all ≡ pe
  fifth-of =
      payloads-behind e (((fa ++ fb) ++ fc) ++ fd) fe
      (payloads-neither e ((fa ++ fb) ++ fc) fd
      (payloads-neither e (fa ++ fb) fc
      (payloads-neither e fa fb (one.other e (λ is. omega (arith, is, rising.ab, rising.bc, rising.cd, rising.de)))
      (two.other e (λ is. omega (arith, is, rising.bc, rising.cd, rising.de))))
      (three.other e (λ is. omega (arith, is, rising.cd, rising.de))))
      (four.other e (λ is. omega (arith, is, rising.de)))) ∙ five.own
