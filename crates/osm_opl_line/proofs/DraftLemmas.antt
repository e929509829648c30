-- What a weighed content says of the content itself, and how a draft goes on from piece to piece.
use Rattle.std.proofs.Common.{◌≡◌, ◌∙◌, ℕ, ℤ, Bool, true, false, List, [], ◌∷◌, Option, Some, None, Result, Ok, Err, inl, inr, refl, sym, subst}
use Rattle.std.specs.Prelude.{◌==◌, ◌⊎◌, IfSome, if◌then◌else◌, is_some, not}
use Rattle.std.specs.Option.{option_or}
use Rattle.std.specs.Result.{result_err, result_unwrap_or, IsOk}
use Rattle.std.proofs.lemmas.Bool.{cases_Bool, eqb-true, eqb-false, eq-eqb, ne_eqb}
use Rattle.osm_entity.specs.declared.kind.Flow.{Flow}
use Rattle.osm_entity.specs.declared.kind.Kind.{Kind}
use Rattle.osm_entity.specs.declared.kind.Kind.TheVariants.{Node as OfNode, Way as OfWay, Relation as OfRelation}
use Rattle.osm_entity.specs.declared.verdict.Cause.{Cause}
use Rattle.osm_entity.specs.declared.verdict.Cause.TheVariants.{BadField, TwiceField}
use Rattle.osm_opl_line.specs.Cut.{weighed}
use Rattle.osm_opl_line.specs.Draft.{Fills, draft_fault, fields_drafted, list_drafted, slot_of}
use Rattle.osm_opl_line.specs.Fields.{content_fault, fault_among, field, fields_from, is_letter_of, is_one_of, list_field, piece_fault}
use Rattle.osm_opl_line.specs.declared.draft.Draft.{Draft}

-- a slot has the content that its letter had among the pieces before `rest`, whose letters are the earlier ones
pub record IsSlot (letter : ℕ) (whole : List (List ℕ)) (earlier : List ℕ) (rest : List (List ℕ))
    (slot : Option (List ℕ)) : Type 0 where
  pub found : field letter whole ≡ option_or slot (field letter rest)
  pub taken : is_one_of earlier letter ≡ is_some slot

-- a draft has what the pieces before `rest` said, none of which had a fault
pub record IsDraft (kind : Kind) (whole : List (List ℕ)) (earlier : List ℕ) (rest : List (List ℕ)) (draft : Draft)
    : Type 0 where
  pub fault : fault_among kind [] whole ≡ fault_among kind earlier rest
  pub slots : (letter : ℕ) → IsSlot letter whole earlier rest (slot_of draft letter)

-- a content that can't be weighed has that fault
pub result_err-weighed : {T : Type 0} (weight : T → ℕ) (says : Result T Cause) (cause : Cause) →
    Err cause ≡ weighed weight says → result_err says ≡ Some cause
result_err-weighed weight (Ok value) cause is = cc
result_err-weighed weight (Err other) cause is = cc

-- what follows where a content was weighed: it has no fault, and its value has that weight
pub record IsWeighed {T : Type 0} (weight : T → ℕ) (says : Result T Cause) (n : ℕ) : Type 0 where
  pub sound : result_err says ≡ None
  pub fine : IsOk says
  pub value : (absent : T) → n ≡ weight (result_unwrap_or says absent)

-- a content that was weighed has no fault, and its value has that weight
pub IsWeighed-from_ok : {T : Type 0} (weight : T → ℕ) (says : Result T Cause) (n : ℕ) → Ok n ≡ weighed weight says →
    IsWeighed weight says n
IsWeighed-from_ok weight (Ok value) n is = record { sound = refl; fine = refl; value = λ absent. cc }
IsWeighed-from_ok weight (Err cause) n is = cc

-- what was made of a content is its value
pub made-value : {T : Type 0} (made : Option T) (said : Result T Cause) (absent : T) →
    IfSome made (λ value. said ≡ Ok value) → IfSome made (λ value. result_unwrap_or said absent ≡ value)
made-value None said absent is = tt
made-value (Some value) said absent is = rw is refl

-- a slot of another letter is passed by a piece
IsSlot-passed : (letter first : ℕ) (whole rest : List (List ℕ)) (earlier content : List ℕ) (slot : Option (List ℕ)) →
    (first == letter) ≡ false → IsSlot letter whole earlier ((first ∷ content) ∷ rest) slot →
    IsSlot letter whole (first ∷ earlier) rest slot
IsSlot-passed letter first whole rest earlier content slot other is = record {
  found = rw other at is.found;
  taken = rw other is.taken;
}

-- a free slot is filled by the first piece of its letter
IsSlot-filled : (letter : ℕ) (whole rest : List (List ℕ)) (earlier content : List ℕ) (slot : Option (List ℕ)) →
    slot ≡ None → IsSlot letter whole earlier ((letter ∷ content) ∷ rest) slot →
    IsSlot letter whole (letter ∷ earlier) rest (Some content)
IsSlot-filled letter whole rest earlier content slot free is = record {
  found = rw (free, eq-eqb letter letter refl) at is.found;
  taken = rw (eq-eqb letter letter refl) refl;
}

-- the fault of a piece is that of its field in the draft
piece_fault-drafted : (kind : Kind) (whole rest : List (List ℕ)) (earlier content : List ℕ) (letter : ℕ)
    (draft : Draft) → IsDraft kind whole earlier rest draft →
    piece_fault kind earlier (letter ∷ content) ≡ draft_fault kind letter content draft
piece_fault-drafted kind whole rest earlier content letter draft is = rw (is.slots letter).taken refl

-- a field is sound where its letter is allowed and free
free-from_sound : (allowed : Bool) (slot : Option (List ℕ)) (fault : Option Cause) →
    None ≡ (if not allowed then Some BadField else if is_some slot then Some TwiceField else fault) → slot ≡ None
free-from_sound true None fault sound = refl
free-from_sound true (Some content) fault sound = cc
free-from_sound false slot fault sound = cc

-- a taken field is in its slot, and passes the others
IsSlot-step : (whole rest : List (List ℕ)) (earlier content : List ℕ) (letter other : ℕ) (old new : Draft) →
    slot_of old letter ≡ None → Fills letter content old new →
    ((l : ℕ) → IsSlot l whole earlier ((letter ∷ content) ∷ rest) (slot_of old l)) →
    ((other == letter) ≡ true) ⊎ ((other == letter) ≡ false) →
    IsSlot other whole (letter ∷ earlier) rest (slot_of new other)
IsSlot-step whole rest earlier content letter other old new free fills slots (inl here) =
    let filled : IsSlot letter whole (letter ∷ earlier) rest (slot_of new letter) =
    subst (IsSlot letter whole (letter ∷ earlier) rest) (sym fills.filled)
    (IsSlot-filled letter whole rest earlier content (slot_of old letter) free (slots letter)) in
    subst (λ l. IsSlot l whole (letter ∷ earlier) rest (slot_of new l)) (sym (eqb-true other letter here)) filled
IsSlot-step whole rest earlier content letter other old new free fills slots (inr there) =
    let passed : (letter == other) ≡ false = ne_eqb letter other (λ e. eqb-false other letter there (sym e)) in
    subst (IsSlot other whole (letter ∷ earlier) rest) (sym (fills.others other there))
    (IsSlot-passed other letter whole rest earlier content (slot_of old other) passed (slots other))

-- a field that is taken goes into its slot, and no fault comes before the pieces after it
pub IsDraft-step : {kind : Kind} {whole rest : List (List ℕ)} {earlier content : List ℕ} {letter : ℕ}
    {old new : Draft} → None ≡ draft_fault kind letter content old → Fills letter content old new →
    IsDraft kind whole earlier ((letter ∷ content) ∷ rest) old → IsDraft kind whole (letter ∷ earlier) rest new
IsDraft-step {kind} {whole} {rest} {earlier} {content} {letter} {old} {new} sound fills is =
    let good : piece_fault kind earlier (letter ∷ content) ≡ None =
    piece_fault-drafted kind whole ((letter ∷ content) ∷ rest) earlier content letter old is ∙ sym sound in
    let free : slot_of old letter ≡ None =
    free-from_sound (is_letter_of kind letter) (slot_of old letter) (content_fault letter content) sound in
    let slots : (other : ℕ) → IsSlot other whole (letter ∷ earlier) rest (slot_of new other) =
    λ other.
    IsSlot-step whole rest earlier content letter other old new free fills is.slots (cases_Bool (other == letter)) in
    record { fault = rw good at is.fault; slots = slots }

-- nothing else is in a slot than its content
option_or-none : (slot : Option (List ℕ)) → option_or slot None ≡ slot
option_or-none None = refl
option_or-none (Some content) = refl

-- past the last piece a draft has the fields of all of them
field-drafted : (kind : Kind) (whole : List (List ℕ)) (earlier : List ℕ) (draft : Draft) →
    IsDraft kind whole earlier [] draft → (letter : ℕ) → field letter whole ≡ slot_of draft letter
field-drafted kind whole earlier draft is letter = (is.slots letter).found ∙ option_or-none (slot_of draft letter)

-- the list of all pieces is that of the draft
list_field-drafted : (kind : Kind) (whole : List (List ℕ)) (draft : Draft) →
    ((letter : ℕ) → field letter whole ≡ slot_of draft letter) → list_field kind whole ≡ list_drafted kind draft
list_field-drafted OfNode whole draft fields = refl
list_field-drafted OfWay whole draft fields = fields 78
list_field-drafted OfRelation whole draft fields = fields 77

-- the fields of all pieces are those of the draft
pub fields_from-drafted : (flow : Flow) (id : ℤ) {kind : Kind} {whole : List (List ℕ)} {earlier : List ℕ}
    {draft : Draft} → IsDraft kind whole earlier [] draft →
    fields_from flow kind id whole ≡ fields_drafted flow kind id draft
fields_from-drafted flow id {kind} {whole} {earlier} {draft} is =
    let fields : (letter : ℕ) → field letter whole ≡ slot_of draft letter = field-drafted kind whole earlier draft is in
    rw (
      fields 118,
      fields 100,
      fields 99,
      fields 116,
      fields 105,
      fields 117,
      fields 84,
      fields 120,
      fields 121,
      list_field-drafted kind whole draft fields,
    ) refl
