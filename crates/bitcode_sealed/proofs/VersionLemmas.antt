-- What was sealed as an earlier version is opened as that version.
use Rattle.std.proofs.Common.{◌≡◌, ℕ, ◌+◌, ◌^◌, ◌<◌, ◌≤◌, Bool, true, false, not, ◌&&◌, nat_eq, eq-eqb, List, [], ◌++◌, length, refl, sym, ap, subst, ◌∙◌, arith, append-nil}
use Rattle.bitcode_shapes.specs.Datum.{Datum}
use Rattle.bitcode_shapes.specs.Shape.{Shape}
use Rattle.bitcode_shapes.specs.Lawful.{Lawful, Makeable}
use Rattle.bitcode_derive.specs.Whole.{IsDecodingOf, HasShortLengths}
use Rattle.bitcode_derive.proofs.RoundTripLemmas.{read_equal, refused_for_memory}
use Rattle.bitcode_sealed.specs.declared.label.Label.{Label}
use Rattle.bitcode_sealed.specs.declared.label.Expected.{Expected}
use Rattle.bitcode_sealed.specs.declared.error.OpenError.{OpenError}
use Rattle.bitcode_sealed.specs.ErrorClasses.{IsOutOfMemory}
use Rattle.bitcode_sealed.specs.Layout.{sealed}
use Rattle.bitcode_sealed.specs.Faults.{in_head}
use Rattle.bitcode_sealed.specs.Front.{HasLabel}
use Rattle.bitcode_sealed.specs.Sealing.{IsSealingOf}
use Rattle.bitcode_sealed.specs.Versions.{under, names_earlier, IsOpeningOfEarlier, IsRefusalOfEarlier, IsRefusalOfVersion, earlier_not_opened, not_upgraded, IsOpeningOfAny, opens_newest, opens_earlier, IsRefusalOfAny, no_label, newest_refused, earlier_refused}
use Rattle.bitcode_sealed.proofs.AgainLemmas.{same_head, only_value}
use Rattle.bitcode_sealed.proofs.NoFaultLemmas.{LabelFits, long, begins, no_fault}
use Rattle.bitcode_sealed.proofs.OpeningLemmas.{only_for_memory}

-- ---- labels

never_both : (a c : Bool) → ((a && not true) && c) ≡ true → ⊥
never_both true c h = cc h
never_both false c h = cc h

-- a label is not earlier than itself
not_own : (includes : ℕ → Bool) (label : Label) → names_earlier includes label label ≡ true → ⊥
not_own includes label h =
    never_both (nat_eq label.kind label.kind) (includes label.version)
    (subst (λ same. ((nat_eq label.kind label.kind && not same) && includes label.version) ≡ true) (eq-eqb label.version label.version refl) h)

not_true_and_false : (a : Bool) → a ≡ true → a ≡ false → ⊥
not_true_and_false a t f = let h : true ≡ false = sym t ∙ f in cc h

module _ (label : Label) (fits : LabelFits label) (encoding bytes : List ℕ) (below : length bytes < 256 ^ 8) (is : bytes ≡ sealed label encoding) where
  whole : bytes ≡ sealed label encoding ++ []
  whole = is ∙ sym (append-nil (sealed label encoding))

  -- the label of the bytes is the one that they were sealed under
  only_label : (other : Label) → HasLabel other bytes → other ≡ label
  only_label other has =
      ap (λ h. h.label) (same_head (record { label = other; size = has.size }) (record { label = label; size = length encoding }) bytes has.begins (begins label fits encoding [] bytes below whole))

  -- and they are not sealed under another one
  sealed_once : (other : Label) (value : List ℕ) → LabelFits other → bytes ≡ sealed other value ++ [] → other ≡ label
  sealed_once other value other_fits other_whole =
      only_label other (record { size = length value; begins = begins other other_fits value [] bytes below other_whole })

-- ---- values

module _ {B : Type 0} {shape : Shape} {is_value : B → Type 0} {lists : B → Datum → Type 0} {same : B → B → Type 0} {order : Bool} {makes : Datum → B → Type 0}
    (lawful : Lawful shape is_value lists same order) (makeable : Makeable shape is_value lists same makes) (version : ℕ) (label : Label) (expected : Expected) (fits : LabelFits label)
    (is_version : label.version ≡ version) (includes : ℕ → Bool) (named : names_earlier includes expected.label label ≡ true) (before : B) (valid : is_value before) (bytes : List ℕ) (below : length bytes < 256 ^ 8)
    (sealing : IsSealingOf lists shape label before bytes) (short : HasShortLengths lists shape before) where
  upgraded_earlier : {T : Type 0} (is_upgrade : B → T → Type 0) (t : T) → IsOpeningOfEarlier is_upgrade is_value makes shape version (under label expected) bytes t
      → (b : B) × (same before b × is_upgrade b t)
  upgraded_earlier is_upgrade t early =
      let value_is : early.opened.value ≡ sealing.encoding =
      only_value label label sealing.encoding early.opened.value [] bytes below sealing.whole early.opened.front.whole in (
        early.before,
        (
          read_equal lawful makeable before early.before sealing.encoding valid early.valid sealing.written (short sealing.written.datum sealing.written.listing)
              (subst (λ b. IsDecodingOf makes shape b early.before) value_is early.opened.decoded),
          early.upgraded,
        ),
      )

  pub upgraded_any : {T : Type 0} (is_upgrade : B → T → Type 0) (t_makes : Datum → T → Type 0) (t_shape : Shape) (opens : Expected → List ℕ → T → Type 0)
      → ((e : Expected) (b : List ℕ) (t : T) → e.label.version ≡ version → opens e b t → IsOpeningOfEarlier is_upgrade is_value makes shape version e b t)
      → LabelFits expected.label → (t : T) → IsOpeningOfAny t_makes t_shape includes opens expected bytes t → (b : B) × (same before b × is_upgrade b t)
  upgraded_any is_upgrade t_makes t_shape opens reads expected_fits t (opens_newest opened) =
      let own : expected.label ≡ label = sealed_once label fits sealing.encoding bytes below sealing.whole expected.label opened.value expected_fits opened.front.whole in
      absurd (not_own includes label (subst (λ l. names_earlier includes l label ≡ true) own named))
  upgraded_any is_upgrade t_makes t_shape opens reads expected_fits t (opens_earlier other has _ opened) =
      let own : other ≡ label = only_label label fits sealing.encoding bytes below sealing.whole other has in
      upgraded_earlier is_upgrade t (reads (under label expected) bytes t is_version (subst (λ l. opens (under l expected) bytes t) own opened))

  memory_earlier : (free : Bool) (own : Shape) → length bytes ≤ expected.most_bytes + 24 → (fault : OpenError) → IsRefusalOfEarlier free own shape version (under label expected) bytes fault → IsOutOfMemory fault
  memory_earlier free own room fault (earlier_not_opened _ refusal) =
      only_for_memory (under label expected) fits sealing.encoding bytes below sealing.whole room free own shape fault
      (λ reason none. refused_for_memory lawful before sealing.encoding valid sealing.written short reason none) refusal
  memory_earlier free own room fault (not_upgraded _ memory) = memory

  pub memory_any : (t_free : Bool) (t_own t_shape : Shape) (refuses : Expected → List ℕ → OpenError → Type 0)
      → ((e : Expected) (b : List ℕ) (fault : OpenError) → e.label.version ≡ version → refuses e b fault → IsRefusalOfVersion shape version e b fault)
      → length bytes ≤ expected.most_bytes + 24 → (fault : OpenError) → IsRefusalOfAny t_free t_own t_shape includes refuses expected bytes fault → IsOutOfMemory fault
  memory_any t_free t_own t_shape refuses reads room fault (no_label f) =
      let size = long label fits sealing.encoding [] bytes below (whole label fits sealing.encoding bytes below sealing.whole) in
      let fitting : length sealing.encoding ≤ expected.most_bytes = omega (arith, size, room) in
      absurd (no_fault label fits sealing.encoding [] bytes below (whole label fits sealing.encoding bytes below sealing.whole) (under label expected) fault refl fitting (in_head f))
  memory_any t_free t_own t_shape refuses reads room fault (newest_refused other has not_named _) =
      let own_label : other ≡ label = only_label label fits sealing.encoding bytes below sealing.whole other has in
      absurd (not_true_and_false (names_earlier includes expected.label label) named (subst (λ l. names_earlier includes expected.label l ≡ false) own_label not_named))
  memory_any t_free t_own t_shape refuses reads room fault (earlier_refused other has _ refused) =
      let own_label : other ≡ label = only_label label fits sealing.encoding bytes below sealing.whole other has in
      let earlier = reads (under label expected) bytes fault is_version (subst (λ l. refuses (under l expected) bytes fault) own_label refused) in
      memory_earlier earlier.makes_free earlier.own room fault earlier.refusal
