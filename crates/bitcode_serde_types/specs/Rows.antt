-- Worked rows: what the notes of types admit and refuse.
use Rattle.std.proofs.Common.{[], ◌∷◌, inl, inr, replicate, refl, arith}
use Rattle.std.proofs.lemmas.Bool.{false≢true}
use Rattle.bitcode_memory.specs.declared.error.Reason.TheVariants.{InvalidBitPattern, InvalidArrayVec}
use Rattle.bitcode_shapes.specs.Datum.{text}
use Rattle.bitcode_coder.specs.Spelling.{natural}
use Rattle.bitcode_untyped.specs.ShapeTree.{natural_tree, seq_tree, IsAdmitted}
use Rattle.bitcode_serde_types.specs.Heaps.{heap_tree}
use Rattle.bitcode_serde_types.specs.Limited.{has_length, array_vec_tree, fits_in, array_string_tree}
use Rattle.bitcode_serde_types.specs.Lists.{list_datum}
use Rattle.bitcode_serde_types.specs.Refusals.{IsReasonOf}
use Rattle.bitcode_serde_types.specs.Restates.{AreReordered, KeepsAll}
use Rattle.bitcode_serde_types.specs.Uuids.{uuid_datum, uuid_tree}

-- "hi" and "hey", in a text of two bytes
short_fits : IsAdmitted (fits_in 2) (text (104 ∷ 105 ∷ []))
short_fits = refl

long_does_not : IsAdmitted (fits_in 2) (text (104 ∷ 101 ∷ 121 ∷ [])) → ⊥
long_does_not h = false≢true h

sixteen_bytes : IsAdmitted (has_length 16 16 InvalidBitPattern) (uuid_datum (replicate 16 7))
sixteen_bytes = refl

fifteen_bytes : IsAdmitted (has_length 16 16 InvalidBitPattern) (uuid_datum (replicate 15 7)) → ⊥
fifteen_bytes h = false≢true h

seventeen_bytes : IsAdmitted (has_length 16 16 InvalidBitPattern) (uuid_datum (replicate 17 7)) → ⊥
seventeen_bytes h = false≢true h

-- a reason of its own, and no other type's
full_vector : IsReasonOf (seq_tree (array_vec_tree 4 (natural_tree 1))) InvalidArrayVec
full_vector = inl refl

no_full_vector : IsReasonOf (seq_tree (array_string_tree 4)) InvalidArrayVec → ⊥
no_full_vector (inl e) = cc
no_full_vector (inr h) = h

-- a heap keeps its elements, and not their order
reordered : AreReordered (list_datum natural (1 ∷ 2 ∷ [])) (list_datum natural (2 ∷ 1 ∷ []))
reordered = record {
  first = natural 1 ∷ natural 2 ∷ [];
  second = natural 2 ∷ natural 1 ∷ [];
  of_first = refl;
  of_second = refl;
  reordered = record { moves = (0, 1) ∷ []; below = (omega arith, omega arith, tt); is = refl };
}

not_all : KeepsAll (heap_tree (natural_tree 1)) → ⊥
not_all h = h

all_of_a_uuid : KeepsAll uuid_tree
all_of_a_uuid = tt
