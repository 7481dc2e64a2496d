-- What an enum states about its variants, one by one: the payloads of each, the payload of a value, and the value of a
-- payload.
use Rattle.std.proofs.Common.{◌≡◌, ℕ, zero, suc, inl, inr, refl}
use Rattle.std.specs.Prelude.{◌⊎◌}
use Rattle.bitcode_shapes.specs.DataOf.{DataOf}
use Rattle.bitcode_shapes.specs.BareVariants.{AreSomeVariants}
use Rattle.bitcode_shapes.specs.Shape.{variant_count}
use Rattle.bitcode_enums.specs.VariantsOf.{VariantsOf, VariantLaws, first_variant_laws, first_variant, last_variant_laws, last_variant, laws_of, variants_of}

-- the payloads of several variants, that of the first one first
pub data Payloads : Type 1 where
  last_payload : {A : Type 0} → DataOf A → Payloads
  payload_and : {A : Type 0} → DataOf A → Payloads → Payloads

-- the payloads of the variant with a number
abbrev pub PayloadAt : Payloads → ℕ → Type 0
PayloadAt (last_payload {A} a) zero = A
PayloadAt (last_payload a) (suc number) = ⊥
PayloadAt (payload_and {A} a rest) zero = A
PayloadAt (payload_and a rest) (suc number) = PayloadAt rest number

-- a payload of one of them: of the first variant, or of one of the rest
abbrev pub SomePayload : Payloads → Type 0
SomePayload (last_payload {A} a) = A
SomePayload (payload_and {A} a rest) = A ⊎ SomePayload rest

abbrev pub payload_at : (payloads : Payloads) (number : ℕ) → PayloadAt payloads number → SomePayload payloads
payload_at (last_payload a) zero p = p
payload_at (last_payload a) (suc number) p = absurd p
payload_at (payload_and a rest) zero p = inl p
payload_at (payload_and a rest) (suc number) p = inr (payload_at rest number p)

abbrev pub variants_with : (payloads : Payloads) → VariantsOf (SomePayload payloads)
variants_with (last_payload a) = last_variant a
variants_with (payload_and a rest) = first_variant a (variants_with rest)

pub laws_with : (payloads : Payloads) → VariantLaws (variants_with payloads)
laws_with (last_payload a) = last_variant_laws a
laws_with (payload_and a rest) = first_variant_laws a (variants_with rest) (laws_with rest)

-- ---- an enum whose values correspond to such payloads

-- the value with a payload: for each variant a function of its payloads
abbrev pub HasEach : {T V : Type 0} → (T → V) → (payloads : Payloads) → (SomePayload payloads → V) → Type 0
HasEach {T = T} payload (last_payload {A} a) within = (p : A) → (t : T) × (payload t ≡ within p)
HasEach {T = T} payload (payload_and {A} a rest) within = ((p : A) → (t : T) × (payload t ≡ within (inl p))) × HasEach payload rest (λ r. within (inr r))

-- the value with a payload
abbrev pub value_of : {T V : Type 0} (payload : T → V) (payloads : Payloads) (within : SomePayload payloads → V) → HasEach payload payloads within → (p : SomePayload payloads) → (t : T) × (payload t ≡ within p)
value_of payload (last_payload a) within each p = each p
value_of payload (payload_and a rest) within each (inl p) = each.0 p
value_of payload (payload_and a rest) within each (inr r) = value_of payload rest (λ s. within (inr s)) each.1 r

-- this is not unfolded: the laws of two enums are compared by their arguments
pub each_laws : {T : Type 0} (payloads : Payloads) (payload : T → SomePayload payloads) (each : HasEach payload payloads (λ p. p))
    → ((t : T) → (value_of payload payloads (λ p. p) each (payload t)).0 ≡ t) → VariantLaws (variants_of (variants_with payloads) payload)
each_laws payloads payload each one_to_one = laws_of (variants_with payloads) payload (value_of payload payloads (λ p. p) each) one_to_one (laws_with payloads)

-- what an enum states: the payloads of its variants, the payload of a value, the value with a payload, and that a value
-- is told by its payload
pub record EachVariant (T : Type 0) : Type 1 where
  pub payloads : Payloads
  -- there are 2 to 256 variants
  pub sized : AreSomeVariants (variant_count (variants_with payloads).shapes)
  pub payload : T → SomePayload payloads
  pub value : HasEach payload payloads (λ p. p)
  pub one_to_one : (t : T) → (value_of payload payloads (λ p. p) value (payload t)).0 ≡ t
  -- how its values are written and read follows
  pub variants : VariantsOf T
  pub laws : VariantLaws variants
  pub variants_are : variants ≡ variants_of (variants_with payloads) payload

abbrev pub each_variant : {T : Type 0} (payloads : Payloads) → AreSomeVariants (variant_count (variants_with payloads).shapes)
    → (payload : ((number : ℕ) → PayloadAt payloads number → SomePayload payloads) → T → SomePayload payloads)
    → (each : HasEach (payload (payload_at payloads)) payloads (λ p. p))
    → ((t : T) → (value_of (payload (payload_at payloads)) payloads (λ p. p) each (payload (payload_at payloads) t)).0 ≡ t) → EachVariant T
each_variant payloads sized payload each one_to_one = record {
  payloads = payloads;
  sized = sized;
  payload = payload (payload_at payloads);
  value = each;
  one_to_one = one_to_one;
  variants = variants_of (variants_with payloads) (payload (payload_at payloads));
  laws = each_laws payloads (payload (payload_at payloads)) each one_to_one;
  variants_are = refl;
}
