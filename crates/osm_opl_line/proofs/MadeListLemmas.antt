-- Lists that are made from one comma to the next.
use Rattle.std.proofs.Common.{◌≡◌, ◌<◌, ◌≤◌, ◌+◌, ◌*◌, ◌∷◌, ◌++◌, [], ℕ, List, length, Result, Ok, Err, refl, arith, ap, sym, ◌∙◌, append_assoc}
use Rattle.std.specs.Prelude.{◌==◌}
use Rattle.std.specs.List.{slice_split, sum_by}
use Rattle.std.specs.Str.{IsUtf8}
use Rattle.std.proofs.lemmas.List.Sums.{sum_by_push}
use Rattle.osm_entity.specs.declared.verdict.Cause.{Cause}
use Rattle.osm_opl_line.specs.Contents.{all_in, before_all, parts_of}
use Rattle.osm_opl_line.proofs.WeighingLemmas.{length-split}
use Rattle.osm_text.proofs.SplitLemmas.{IsUtf8-parts}

-- the parts between commas
abbrev pub comma_parts : List ℕ → List (List ℕ)
comma_parts bytes = slice_split (λ b. b == 44) bytes

-- values before those of what follows, or its cause
abbrev pub values_before : {T : Type 0} → List T → Result (List T) Cause → Result (List T) Cause
values_before values (Ok more) = Ok (values ++ more)
values_before values (Err cause) = Err cause

-- no values before others
values_before-nil : {T : Type 0} (r : Result (List T) Cause) → values_before [] r ≡ r
values_before-nil (Ok more) = refl
values_before-nil (Err cause) = refl

-- the value of a part is the last of those before what follows
values_before-part : {T : Type 0} (values : List T) (value : T) (r : Result (List T) Cause) →
    values_before values (before_all (Ok value) r) ≡ values_before (values ++ value ∷ []) r
values_before-part values value (Ok more) = ap Ok (sym (append_assoc values (value ∷ []) more))
values_before-part values value (Err cause) = refl

-- the values of a content are those that were made, which have this weight, and those of the rest
pub record IsMadeTo {T : Type 0} (weight : T → ℕ) (says : List ℕ → Result T Cause) (content : List ℕ)
    (values : List T) (total : ℕ) (rest : List ℕ) : Type 0 where
  pub known : all_in says (parts_of content) ≡ values_before values (all_in says (comma_parts rest))
  pub sum : total ≡ sum_by weight values
  pub small : total + 33 * length rest ≤ 33 * length content
  pub utf8 : IsUtf8 rest

-- nothing is made before the first part
pub made-none : {T : Type 0} (weight : T → ℕ) (says : List ℕ → Result T Cause) (content : List ℕ) →
    0 < length content → IsUtf8 content → IsMadeTo weight says content [] 0 content
made-none weight says [] some utf8 = absurd (omega arith)
made-none weight says (b ∷ bs) some utf8 = record {
  known = sym (values_before-nil (all_in says (comma_parts (b ∷ bs))));
  sum = refl;
  small = omega arith;
  utf8 = utf8;
}

-- one part more is made
pub made-more : {T : Type 0} (weight : T → ℕ) (says : List ℕ → Result T Cause) (content : List ℕ)
    (values grown : List T) (value : T) (total n : ℕ) (rest part more : List ℕ) →
    IsMadeTo weight says content values total rest → comma_parts rest ≡ part ∷ comma_parts more →
    says part ≡ Ok value → n ≡ weight value → weight value ≤ 32 + length part → grown ≡ values ++ value ∷ [] →
    IsMadeTo weight says content grown (total + n) more
made-more weight says content values grown value total n rest part more made is said weighs light pushed = record {
  known =
      (rw (is, said) at made.known) ∙ values_before-part values value (all_in says (comma_parts more)) ∙
      ap (λ vs. values_before vs (all_in says (comma_parts more))) (sym pushed);
  sum = rw pushed (omega (arith, sum_by_push weight values value, made.sum, weighs));
  small = omega (arith, length-split rest part more is, made.small, weighs, light);
  utf8 = (IsUtf8-parts 44 rest part more (omega arith) is made.utf8).1;
}

-- a bad part was found
pub made-bad : {T : Type 0} (weight : T → ℕ) (says : List ℕ → Result T Cause) (content : List ℕ)
    (values : List T) (total : ℕ) (rest part : List ℕ) (parts : List (List ℕ)) (cause : Cause) →
    IsMadeTo weight says content values total rest → comma_parts rest ≡ part ∷ parts → says part ≡ Err cause →
    all_in says (parts_of content) ≡ Err cause
made-bad weight says content values total rest part parts cause made is said = rw (is, said) at made.known

-- the last part was made
pub made-last : {T : Type 0} (weight : T → ℕ) (says : List ℕ → Result T Cause) (content : List ℕ)
    (values grown : List T) (value : T) (total n : ℕ) (rest : List ℕ) →
    IsMadeTo weight says content values total rest → comma_parts rest ≡ rest ∷ [] → says rest ≡ Ok value →
    n ≡ weight value → grown ≡ values ++ value ∷ [] →
    (all_in says (parts_of content) ≡ Ok grown) × (total + n ≡ sum_by weight grown)
made-last weight says content values grown value total n rest made is said weighs pushed = (
  (rw (is, said) at made.known) ∙ ap Ok (sym pushed),
  rw pushed (omega (arith, sum_by_push weight values value, made.sum, weighs)),
)
