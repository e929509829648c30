-- What is wrong with a header block, by what was found of it.
use Rattle.std.proofs.Common.{◌≡◌, ℕ, Bool, true, List, Option, Some, None, refl}
use Rattle.std.specs.Prelude.{not, if◌then◌else◌}
use Rattle.std.specs.Option.{option_map}
use Rattle.osm_entity.specs.declared.verdict.Cause.{Cause}
use Rattle.osm_entity.specs.declared.verdict.Cause.TheVariants.{BadWire, BadText, BadFeature}
use Rattle.osm_wire.specs.Entries.{all_bytes, message_fields, single_bytes}
use Rattle.osm_wire.specs.Messages.{FieldValue}
use Rattle.osm_block_read.specs.Header.{features_fault, header_fault}
use Rattle.osm_block_read.specs.HeaderTests.{tests_of}

-- the fault of features by their tests
abbrev pub fault_of_tests : Option (Bool × Bool) → Option Cause
fault_of_tests None = Some BadWire
fault_of_tests (Some tests) =
    if not tests.0 then Some BadText
    else if not tests.1 then Some BadFeature
    else None

features_fault-tests : (features : Option (List (List ℕ))) →
    features_fault features ≡ fault_of_tests (option_map (tests_of true true) features)
features_fault-tests None = refl
features_fault-tests (Some features) = refl

-- a message that isn't well formed
pub header_fault-message : (raw : List ℕ) → message_fields raw ≡ None → header_fault raw ≡ Some BadWire
unfolding header_fault
header_fault-message raw none = rw none refl

-- a bounding box that isn't one message
pub header_fault-box : (raw : List ℕ) (fields : List FieldValue) → message_fields raw ≡ Some fields →
    single_bytes 1 fields ≡ None →
    header_fault raw ≡ Some BadWire
unfolding header_fault
header_fault-box raw fields is none = rw (is, none) refl

-- a header block by the tests of its features
pub header_fault-tests : (raw : List ℕ) (fields : List FieldValue) (box : Option (List ℕ)) →
    message_fields raw ≡ Some fields →
    single_bytes 1 fields ≡ Some box → header_fault raw ≡ fault_of_tests
    (option_map (tests_of true true) (all_bytes 4 fields))
unfolding header_fault
header_fault-tests raw fields box is one = rw (is, one) (features_fault-tests (all_bytes 4 fields))
