-- Values that are opened from the bytes of any version that is read.
use Rattle.std.specs.Prelude.{◌≡◌, ℕ, Bool, true, false, not, ◌&&◌, nat_eq, List}
use Rattle.bitcode_shapes.specs.Datum.{Datum}
use Rattle.bitcode_shapes.specs.Shape.{Shape}
use Rattle.bitcode_sealed.specs.declared.label.Label.{Label}
use Rattle.bitcode_sealed.specs.declared.label.Expected.{Expected}
use Rattle.bitcode_sealed.specs.declared.error.OpenError.{OpenError}
use Rattle.bitcode_sealed.specs.ErrorClasses.{IsOutOfMemory}
use Rattle.bitcode_sealed.specs.Faults.{IsHeadFault}
use Rattle.bitcode_sealed.specs.Front.{HasLabel}
use Rattle.bitcode_sealed.specs.Opening.{IsOpeningOf, IsRefusal}

-- what is expected, under another label
abbrev pub under : Label → Expected → Expected
under label expected = record { label = label; most_bytes = expected.most_bytes }

-- ---- one earlier version

-- the bytes are those of the version, and the value is made from the earlier one that `open` takes them for
pub record IsOpeningOfEarlier {B T : Type 0} (is_upgrade : B → T → Type 0) (is_value : B → Type 0) (makes : Datum → B → Type 0) (shape : Shape) (version : ℕ) (expected : Expected) (bytes : List ℕ) (t : T) : Type 0 where
  pub of_version : expected.label.version ≡ version
  pub before : B
  pub valid : is_value before
  pub opened : IsOpeningOf makes shape expected bytes before
  pub upgraded : is_upgrade before t

-- `open` refuses them for the earlier type, or memory ran out when the value was made
pub data IsRefusalOfEarlier (makes_free : Bool) (own shape : Shape) (version : ℕ) (expected : Expected) (bytes : List ℕ) (fault : OpenError) : Type 0 where
  earlier_not_opened : expected.label.version ≡ version → IsRefusal makes_free own shape expected bytes fault
      → IsRefusalOfEarlier makes_free own shape version expected bytes fault
  not_upgraded : expected.label.version ≡ version → IsOutOfMemory fault → IsRefusalOfEarlier makes_free own shape version expected bytes fault

-- the same, by whichever decoder of the earlier type
pub record IsRefusalOfVersion (shape : Shape) (version : ℕ) (expected : Expected) (bytes : List ℕ) (fault : OpenError) : Type 0 where
  pub makes_free : Bool
  pub own : Shape
  pub refusal : IsRefusalOfEarlier makes_free own shape version expected bytes fault

-- ---- all versions that are read

-- the label has the expected kind, and another version, which is read
abbrev pub names_earlier : (ℕ → Bool) → Label → Label → Bool
names_earlier includes expected label = nat_eq label.kind expected.kind && not (nat_eq label.version expected.version) && includes label.version

-- the value is opened under the expected label, or under one of an earlier version
pub data IsOpeningOfAny {T : Type 0} (makes : Datum → T → Type 0) (shape : Shape) (includes : ℕ → Bool) (opens : Expected → List ℕ → T → Type 0) (expected : Expected) (bytes : List ℕ) (t : T) : Type 0 where
  opens_newest : IsOpeningOf makes shape expected bytes t → IsOpeningOfAny makes shape includes opens expected bytes t
  opens_earlier : (label : Label) → HasLabel label bytes → names_earlier includes expected.label label ≡ true → opens (under label expected) bytes t
      → IsOpeningOfAny makes shape includes opens expected bytes t

-- the head is at fault, or the bytes are refused as those of the earlier version that it names, or else as those of the
-- expected one
pub data IsRefusalOfAny (makes_free : Bool) (own shape : Shape) (includes : ℕ → Bool) (refuses : Expected → List ℕ → OpenError → Type 0) (expected : Expected) (bytes : List ℕ) (fault : OpenError) : Type 0 where
  no_label : IsHeadFault bytes fault → IsRefusalOfAny makes_free own shape includes refuses expected bytes fault
  newest_refused : (label : Label) → HasLabel label bytes → names_earlier includes expected.label label ≡ false → IsRefusal makes_free own shape expected bytes fault
      → IsRefusalOfAny makes_free own shape includes refuses expected bytes fault
  earlier_refused : (label : Label) → HasLabel label bytes → names_earlier includes expected.label label ≡ true → refuses (under label expected) bytes fault
      → IsRefusalOfAny makes_free own shape includes refuses expected bytes fault
