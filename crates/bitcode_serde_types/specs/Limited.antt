-- Lists and texts of a limited length: the shapes of vectors and texts of fixed capacity.
use Rattle.std.specs.Prelude.{ℕ, Bool, ◌&&◌, length, nat_le}
use Rattle.arrayvec.specs.ArrayString.{ArrayString}
use Rattle.bitcode_memory.specs.declared.error.Reason.{Reason}
use Rattle.bitcode_memory.specs.declared.error.Reason.TheVariants.{InvalidArrayVec, InvalidArrayString}
use Rattle.bitcode_shapes.specs.Datum.{Datum, text, elements_in, text_in}
use Rattle.bitcode_untyped.specs.ShapeTree.{Note, admits, ShapeTree, seq_tree, noted_tree, text_tree}

-- a number from the least to the most
abbrev pub is_within : ℕ → ℕ → ℕ → Bool
is_within least most n = nat_le least n && nat_le n most

-- a list of so many elements; others are refused for the reason
abbrev pub has_length : ℕ → ℕ → Reason → Note
has_length least most reason = admits (λ d. is_within least most (length (elements_in d))) reason

abbrev pub limited_tree : ℕ → ℕ → Reason → ShapeTree → ShapeTree
limited_tree least most reason s = noted_tree (has_length least most reason) (seq_tree s)

-- at most so many elements
abbrev pub array_vec_tree : ℕ → ShapeTree → ShapeTree
array_vec_tree capacity s = limited_tree 0 capacity InvalidArrayVec s

-- a text of at most so many bytes
abbrev pub fits_in : ℕ → Note
fits_in capacity = admits (λ d. nat_le (length (text_in d)) capacity) InvalidArrayString

abbrev pub array_string_tree : ℕ → ShapeTree
array_string_tree capacity = noted_tree (fits_in capacity) text_tree

abbrev pub array_string_datum : ArrayString → Datum
array_string_datum s = text s.bytes
