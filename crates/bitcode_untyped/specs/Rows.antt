-- Worked rows: the columns of some data, and what is written for them, computed from the definitions.
use Rattle.std.specs.Prelude.{◌≡◌, ℕ, zero, suc, false, negsuc, List, [], ◌∷◌, ◌++◌, length, nat_le, replicate, refl}
use Rattle.std.proofs.lemmas.Bool.{false≢true}
use Rattle.std.specs.Float.{binary32, binary64}
use Rattle.bitcode_memory.specs.LittleEndian.{raw_text}
use Rattle.bitcode_memory.specs.declared.error.Reason.TheVariants.{InvalidArrayVec}
use Rattle.bitcode_columns.specs.Digits.{digits_text}
use Rattle.bitcode_columns.specs.Tagged.{tagged_text}
use Rattle.bitcode_columns.specs.ByteColumn.{byte_text}
use Rattle.bitcode_columns.specs.BoolColumn.{bool_text}
use Rattle.bitcode_columns.specs.IntColumn.{int_text}
use Rattle.bitcode_float_columns.specs.FloatColumn.{split_text}
use Rattle.bitcode_shapes.specs.Datum.{Datum, number, unit, text, list, tuple, choice, pair, data_of, elements_in}
use Rattle.bitcode_coder.specs.Columns.{bools, ints}
use Rattle.bitcode_coder.specs.LengthColumn.{length_bytes}
use Rattle.bitcode_coder.specs.TextColumn.{texts_bytes}
use Rattle.bitcode_coder.specs.Spelling.{natural}
use Rattle.bitcode_untyped.specs.ShapeTree.{any_order, admits, ShapeTree, IsOf, unit_tree, never_tree, seq_tree, map_tree, tuple_tree, choice_tree, noted_tree, bool_tree, natural_tree, integer_tree, float_tree, char_tree, text_tree, option_tree}
use Rattle.bitcode_untyped.specs.View.{trees_of}
use Rattle.bitcode_untyped.specs.Walk.{element, field, length_kind}
use Rattle.bitcode_untyped.specs.PlacedColumns.{columns_of}
use Rattle.bitcode_untyped.specs.Nodes.{node_count}
use Rattle.bitcode_untyped.specs.Spelling.{datum_text}

abbrev seq : List Datum → Datum
seq ds = list (data_of ds)

abbrev fields : List Datum → Datum
fields ds = tuple (data_of ds)

abbrev minus_one : Datum
minus_one = number (negsuc 0)

abbrev none : Datum
none = choice 0 unit

abbrev some : Datum → Datum
some d = choice 1 d

abbrev pair_tree : ShapeTree → ShapeTree → ShapeTree
pair_tree s t = tuple_tree (trees_of (s ∷ t ∷ []))

abbrev enum_tree : List ShapeTree → ShapeTree
enum_tree ss = choice_tree (trees_of ss)

-- ---- columns stand in the order of first use, and not in that of the shape

abbrev lists_and_bytes_tree : ShapeTree
lists_and_bytes_tree = seq_tree (pair_tree (seq_tree bool_tree) (natural_tree 1))

abbrev lists_and_bytes : Datum
lists_and_bytes = seq (pair (seq []) (natural 0) ∷ pair (seq (natural 1 ∷ [])) (natural 1) ∷ [])

first_uses : columns_of lists_and_bytes_tree lists_and_bytes
    ≡ record { place = []; kind = length_kind; entries = natural 2 ∷ [] }
    ∷ record { place = field 0 ∷ element ∷ []; kind = length_kind; entries = natural 0 ∷ natural 1 ∷ [] }
    ∷ record { place = field 1 ∷ element ∷ []; kind = ints 1 false; entries = natural 0 ∷ natural 1 ∷ [] }
    ∷ record { place = element ∷ field 0 ∷ element ∷ []; kind = bools; entries = natural 1 ∷ [] } ∷ []
first_uses = refl

lists_and_bytes_text : datum_text lists_and_bytes_tree lists_and_bytes ≡ 2 ∷ 0 ∷ 1 ∷ 0 ∷ 1 ∷ 1 ∷ []
unfolding bool_text length_bytes int_text byte_text tagged_text digits_text raw_text
lists_and_bytes_text = refl

-- a byte that every element uses stands before the payloads that one of them uses later
options_and_bytes_text : datum_text (seq_tree (pair_tree (option_tree (natural_tree 1)) (natural_tree 1)))
    (seq (pair none (natural 3) ∷ pair (some (natural 4)) (natural 5) ∷ [])) ≡ 2 ∷ 0 ∷ 1 ∷ 3 ∷ 5 ∷ 4 ∷ []
unfolding length_bytes int_text byte_text tagged_text digits_text raw_text
options_and_bytes_text = refl

-- variants come as they are met: the second one first
results_text : datum_text (seq_tree (enum_tree (bool_tree ∷ natural_tree 4 ∷ [])))
    (seq (choice 1 (natural 1) ∷ choice 0 (natural 0) ∷ [])) ≡ 2 ∷ 1 ∷ 0 ∷ 4 ∷ 1 ∷ 0 ∷ []
unfolding bool_text length_bytes int_text byte_text tagged_text digits_text raw_text
results_text = refl

-- ---- all elements of a place stand together, those of several lists too

lists_of_bytes_text : datum_text (seq_tree (seq_tree (natural_tree 1)))
    (seq (seq (natural 1 ∷ []) ∷ seq (natural 2 ∷ natural 3 ∷ []) ∷ [])) ≡ 2 ∷ 1 ∷ 2 ∷ 6 ∷ 57 ∷ []
unfolding length_bytes int_text byte_text tagged_text digits_text raw_text
lists_of_bytes_text = refl

signed_bytes_text : datum_text (seq_tree (integer_tree 1))
    (seq (natural 0 ∷ minus_one ∷ natural 0 ∷ minus_one ∷ natural 0 ∷ minus_one ∷ natural 0 ∷ [])) ≡ 7 ∷ 9 ∷ 255 ∷ 85 ∷ []
unfolding length_bytes int_text byte_text tagged_text digits_text raw_text
signed_bytes_text = refl

-- the three low bytes of each float, and then the top bytes: 1 and -2; as 8 bytes, 0 is packed like a number
floats_text : datum_text (seq_tree (float_tree binary32)) (seq (natural 1065353216 ∷ natural 3221225472 ∷ [])) ≡ 2 ∷ 0 ∷ 0 ∷ 128 ∷ 0 ∷ 0 ∷ 0 ∷ 63 ∷ 192 ∷ []
unfolding length_bytes split_text int_text byte_text tagged_text digits_text raw_text
floats_text = refl

long_zero_text : datum_text (float_tree binary64) (natural 0) ≡ 6 ∷ 0 ∷ []
unfolding int_text byte_text tagged_text digits_text raw_text
long_zero_text = refl

-- ---- maps, tuples, options, and the greatest index

map_text : datum_text (map_tree (natural_tree 1) text_tree) (seq (pair (natural 1) (text (97 ∷ [])) ∷ [])) ≡ 1 ∷ 1 ∷ 1 ∷ 97 ∷ []
unfolding texts_bytes length_bytes int_text byte_text tagged_text digits_text raw_text
map_text = refl

-- the field of a tuple of one stands at the tuple's own place
tuple_of_one : columns_of (tuple_tree (trees_of (bool_tree ∷ []))) (fields (natural 1 ∷ [])) ≡ columns_of bool_tree (natural 1)
tuple_of_one = refl

tuple_of_one_text : datum_text (tuple_tree (trees_of (bool_tree ∷ []))) (fields (natural 1 ∷ [])) ≡ 1 ∷ []
unfolding bool_text digits_text
tuple_of_one_text = refl

option_text : datum_text (option_tree bool_tree) (some (natural 1)) ≡ 1 ∷ 1 ∷ []
unfolding bool_text int_text byte_text tagged_text digits_text raw_text
option_text = refl

-- in the fewest bytes that hold its number: a strict reading takes no others
char_text : datum_text char_tree (natural 97) ≡ 4 ∷ 97 ∷ []
unfolding int_text byte_text tagged_text digits_text raw_text
char_text = refl

greatest_index_text : datum_text (enum_tree (replicate 256 unit_tree)) (choice 255 unit) ≡ 255 ∷ []
unfolding int_text byte_text tagged_text digits_text raw_text
greatest_index_text = refl

no_elements_text : datum_text (seq_tree (enum_tree [])) (seq []) ≡ 0 ∷ []
unfolding length_bytes int_text byte_text tagged_text digits_text raw_text
no_elements_text = refl

-- ---- notes: they say which data there are, and change nothing that is written

abbrev small_list_tree : ShapeTree
small_list_tree = noted_tree (admits (λ d. nat_le (length (elements_in d)) 2) InvalidArrayVec) (seq_tree (natural_tree 1))

noted_text : datum_text small_list_tree (seq (natural 1 ∷ natural 2 ∷ [])) ≡ datum_text (seq_tree (natural_tree 1)) (seq (natural 1 ∷ natural 2 ∷ []))
noted_text = refl

unordered_text : datum_text (noted_tree any_order (seq_tree (natural_tree 1))) (seq (natural 2 ∷ natural 1 ∷ []))
    ≡ datum_text (seq_tree (natural_tree 1)) (seq (natural 2 ∷ natural 1 ∷ []))
unordered_text = refl

-- at most two elements
past_the_check : IsOf small_list_tree (seq (natural 1 ∷ natural 2 ∷ natural 3 ∷ [])) → ⊥
past_the_check h = false≢true h.1

-- ---- elements without a column: a length, whatever the limit on reading is

fewer_units_text : datum_text (seq_tree unit_tree) (seq (replicate 65536 unit)) ≡ 255 ∷ 2 ∷ 0 ∷ 0 ∷ 1 ∷ 0 ∷ []
unfolding length_bytes int_text byte_text tagged_text digits_text raw_text
fewer_units_text = refl

units_text : datum_text (seq_tree unit_tree) (seq (replicate 65537 unit)) ≡ 255 ∷ 2 ∷ 1 ∷ 0 ∷ 1 ∷ 0 ∷ []
unfolding length_bytes int_text byte_text tagged_text digits_text raw_text
units_text = refl

lists_of_units_text : datum_text (seq_tree (seq_tree unit_tree)) (seq (seq [] ∷ seq (replicate 65537 unit) ∷ [])) ≡ 2 ∷ 0 ∷ 255 ∷ 2 ∷ 1 ∷ 0 ∷ 1 ∷ 0 ∷ []
unfolding length_bytes int_text byte_text tagged_text digits_text raw_text
lists_of_units_text = refl

-- ---- references, followed at most so often: each depth of a value has columns of its own

-- the table [Seq(Ref 0)]
abbrev nested_tree : ℕ → ShapeTree
nested_tree zero = never_tree
nested_tree (suc left) = seq_tree (nested_tree left)

nested_text : datum_text (nested_tree 129) (seq (seq [] ∷ seq (seq [] ∷ []) ∷ [])) ≡ 2 ∷ 0 ∷ 1 ∷ 0 ∷ []
unfolding length_bytes int_text byte_text tagged_text digits_text raw_text
nested_text = refl

-- the table [Seq(Ref 1), Option(Ref 0)]
abbrev turn_tree : ℕ → ShapeTree
turn_tree zero = never_tree
turn_tree (suc left) = seq_tree (option_tree (turn_tree left))

turn_text : datum_text (turn_tree 65) (seq (some (seq []) ∷ none ∷ [])) ≡ 2 ∷ 1 ∷ 0 ∷ 0 ∷ []
unfolding length_bytes int_text byte_text tagged_text digits_text raw_text
turn_text = refl

-- the table [Enum(Unit, Tuple(U8, Ref 0))]
abbrev chain_tree : ℕ → ShapeTree
chain_tree zero = never_tree
chain_tree (suc left) = enum_tree (unit_tree ∷ pair_tree (natural_tree 1) (chain_tree left) ∷ [])

chain_text : datum_text (chain_tree 129) (choice 1 (pair (natural 5) (choice 1 (pair (natural 6) (choice 0 unit))))) ≡ 1 ∷ 5 ∷ 1 ∷ 6 ∷ 0 ∷ []
unfolding int_text byte_text tagged_text digits_text raw_text
chain_text = refl

-- the table [Option(Ref 0)]
abbrev optional_tree : ℕ → ShapeTree
optional_tree zero = never_tree
optional_tree (suc left) = option_tree (optional_tree left)

abbrev some_in : ℕ → Datum
some_in zero = none
some_in (suc depth) = some (some_in depth)

-- 512 references on the path
deep_text : datum_text (optional_tree 513) (some_in 512) ≡ replicate 512 1 ++ 0 ∷ []
unfolding int_text byte_text tagged_text digits_text raw_text
deep_text = refl

-- one more is too many
too_deep : (left : ℕ) → IsOf (optional_tree left) (some_in left) → ⊥
too_deep zero h = h
too_deep (suc left) h = too_deep left h.2

-- ---- nodes

lists_in_lists_nodes : node_count (seq (seq [] ∷ seq (seq [] ∷ []) ∷ [])) ≡ 4
lists_in_lists_nodes = refl

some_nodes : node_count (some (natural 1)) ≡ 2
some_nodes = refl

none_nodes : node_count none ≡ 2
none_nodes = refl

unit_nodes : node_count unit ≡ 1
unit_nodes = refl

-- a map of one pair
pair_nodes : node_count (seq (pair (natural 1) (natural 6) ∷ [])) ≡ 4
pair_nodes = refl

-- a list of two bytes
bytes_nodes : node_count (seq (natural 7 ∷ natural 8 ∷ [])) ≡ 3
bytes_nodes = refl
