-- What a value holds, by its case.
use Rattle.std.specs.Prelude.{◌≡◌, ℕ, Option, Some, None, List}
use Rattle.std.specs.List.{AllZip}
use Rattle.std.specs.declared.alloc.Global.{Global}
use Rattle.std.specs.declared.boxed.Box.{Box}
use Rattle.bitcode_untyped.specs.declared.value.Value.{Value, out-Value}
use Rattle.bitcode_untyped.specs.declared.value.Value.TheOpen.{Value-F}

-- ---- one level

abbrev pub seq_items : Value-F Value → Option (List Value)
seq_items (Value-F.Seq values) = Some values.items
seq_items _ = None

abbrev pub map_pairs : Value-F Value → Option (List (Value × Value))
map_pairs (Value-F.Map pairs) = Some pairs.items
map_pairs _ = None

abbrev pub tuple_fields : Value-F Value → Option (List Value)
tuple_fields (Value-F.Tuple values) = Some values.items
tuple_fields _ = None

abbrev pub boxed : Option (Box Value Global) → Option Value
boxed None = None
boxed (Some held) = Some held.value

abbrev pub option_held : Value-F Value → Option (Option Value)
option_held (Value-F.Option held) = Some (boxed held)
option_held _ = None

-- the index of a variant, and its payload
abbrev pub enum_held : Value-F Value → Option (ℕ × Value)
enum_held (Value-F.Enum i payload) = Some (i, payload.value)
enum_held _ = None

-- ---- of a value

-- the elements of a list
abbrev pub elements_of : Value → Option (List Value)
elements_of value = seq_items (out-Value value)

-- the keys and values of a map
abbrev pub pairs_of : Value → Option (List (Value × Value))
pairs_of value = map_pairs (out-Value value)

-- the fields of a tuple
abbrev pub fields_of : Value → Option (List Value)
fields_of value = tuple_fields (out-Value value)

-- what an option holds, if it holds a value
abbrev pub option_of : Value → Option (Option Value)
option_of value = option_held (out-Value value)

-- the variant of an enum
abbrev pub enum_of : Value → Option (ℕ × Value)
enum_of value = enum_held (out-Value value)

-- ---- the parts of pairs

abbrev pub key_in : Value × Value → Value
key_in entry = entry.0

abbrev pub value_in : Value × Value → Value
value_in entry = entry.1

abbrev pub variant_in : ℕ × Value → ℕ
variant_in choice = choice.0

abbrev pub payload_in : ℕ × Value → Value
payload_in choice = choice.1

-- ---- of each of several values

-- what is seen in what an item holds
abbrev pub under : {B C : Type 0} → Option B → (B → Option C) → Option C
under (Some b) f = f b
under None f = None

-- each value has what its place in the list says
abbrev pub Hold : {A B : Type 0} → (A → Option B) → List A → List B → Type 0
Hold view values held = AllZip (λ value one. view value ≡ Some one) values held

-- some value has another case
abbrev pub HasOther : {A B : Type 0} → (A → Option B) → List A → Type 0
HasOther {B = B} view values = (held : List B) → Hold view values held → ⊥
