-- The words that a user's types use in their ghost members, given out again in one place: docs/GUIDE.md.
-- Of std:
pub use Rattle.std.specs.Prelude.{[], ◌∷◌, ◌≡◌, refl}
-- What is known of a type, as a record, from the records of its parts:
pub use Rattle.bitcode_shapes.specs.DataOf.{DataOf, data_of, plain_data, data_as, pointed_data, key_as}
pub use Rattle.bitcode_shapes.specs.LeafData.{bool_data, unsigned_data, signed_data, unsigned_nonzero_data, signed_nonzero_data, char_data, nanosecond_data, duration_data, text_data, unit_data, never_data}
pub use Rattle.bitcode_shapes.specs.DataKinds.{pair_data, tuple_data, seq_data, array_data, array_vec_data, array_string_data, option_data, result_data, bare_data}
pub use Rattle.bitcode_shapes.specs.SetData.{heap_data, ordered_set_data, hashed_set_data, ordered_map_data, hashed_map_data}
pub use Rattle.bitcode_enums.specs.EnumData.{enum_data}
-- The same of a struct whose constructor checks its fields: the check of data from the check of fields, for which a datum
-- is read back.
pub use Rattle.bitcode_shapes.specs.Admitted.{admits, admits-takes, admitted_data, natural_back, integer_back, bool_back, pair_back, tuple_back}
pub use Rattle.bitcode_shapes.specs.Tuples.{split_3, split_4, split_5, split_6, split_7, split_8, joined_3, joined_4, joined_5, joined_6, joined_7, joined_8, again_3, again_4, again_5, again_6, again_7, again_8}
pub use Rattle.std.specs.Prelude.{nat_eq, nat_le, nat_lt}
-- The same of a struct with skipped fields, and the text and the list that these have:
pub use Rattle.bitcode_structs.specs.Skipped.{skipped_data, empty_vec, empty_string}
-- The laws that such a record holds, for a type of a kind of its own:
pub use Rattle.bitcode_shapes.specs.LawfulChoices.{choice_lawful, choice_makeable, first_lawful, first_makeable, last_lawful, last_makeable}
pub use Rattle.bitcode_shapes.specs.SameArrays.{one_datum_same_arrays, one_listing_same_arrays, choice_same_arrays, first_same_arrays, last_same_arrays}
pub use Rattle.bitcode_shapes.specs.SameData.{one_datum, undetermined, choices_same_data, first_same_data, last_same_data}
pub use Rattle.bitcode_shapes.specs.SameIsOne.{exactly, inexact, variants_exact}
-- The `==` and the order of keys that are written otherwise than those of the record:
pub use Rattle.bitcode_shapes.specs.FieldsInOrder.{ands_in_order, thens_in_order, ands_in_halves, thens_in_halves}
pub use Rattle.bitcode_shapes.specs.BareKeys.{bare_key}
-- What an enum with fields states about its variants, about its columns and about its payloads:
pub use Rattle.bitcode_enums.specs.VariantsOf.{VariantsOf, IsVariant, is_variant}
pub use Rattle.bitcode_enums.specs.EachVariant.{last_payload, payload_and, each_variant}
pub use Rattle.bitcode_enums.specs.OneOf.{of_one_of_2, of_one_of_3, of_one_of_4}
pub use Rattle.bitcode_enums.specs.HeldColumns.{columns_in, payloads_in}
pub use Rattle.bitcode_enums.specs.ByNumberLaws.{first_and}
-- That a struct and the nested pairs of its fields have the same listings:
pub use Rattle.bitcode_tuples.specs.FieldLaws.{field_alike, pair_alike}
-- The listings of some of its fields:
pub use Rattle.bitcode_structs.specs.FieldListings.{lists_both}
-- The columns that encoders hold, the data that decoders hold, and what containers are made of:
pub use Rattle.bitcode_coder.specs.Columns.{no_columns, two}
pub use Rattle.bitcode_tuples.specs.PairLaws.{both_of_shape}
pub use Rattle.bitcode_tuples.specs.Pairs.{pairs_of}
pub use Rattle.bitcode_parts.specs.Payloads.{choices_of}
pub use Rattle.bitcode_parts.specs.Variants.{variant_room, variants_left, variants_owned}
pub use Rattle.bitcode_parts.specs.Elements.{MakesOfElements}
-- What a struct with private fields is made from, and when more values surely pass the limit of arrays. What is written
-- and read of bytes, the values that are surely read back, and that a reason not other than want of memory is it:
pub use Rattle.bitcode_shapes.specs.Datum.{Datum, natural_in}
pub use Rattle.bitcode_coder.specs.Coder.{IsWritingRefusal, MakesToo, ReadsValue, SurelyOverflows}
pub use Rattle.bitcode_derive.specs.ShortLengths.{elements_have_entries, has_no_lengths}
pub use Rattle.bitcode_derive.specs.Within.{IsDecodingWithin, IsRefusalWithin}
pub use Rattle.bitcode_derive.specs.Whole.{IsEncodingOf, HasLongListing, HasShortLengths, IsDecodingOf, SpellsDatum, want_of_memory}
-- What is sealed, and what is opened and refused:
pub use Rattle.bitcode_sealed.specs.Sealing.{IsSealingOf, IsSealedBehind}
pub use Rattle.bitcode_sealed.specs.Opening.{IsOpeningOf, IsOpeningOfFront, IsRefusal, IsRefusalOfFront}
pub use Rattle.bitcode_sealed.specs.ErrorClasses.{IsDamage, IsOutOfMemory}
pub use Rattle.bitcode_sealed.specs.Layout.{BeginsAsSealed}
pub use Rattle.bitcode_sealed.specs.Front.{HasLabel, IsSkip, IsNextHead}
pub use Rattle.bitcode_sealed.specs.Next.{IsNextOf}
-- What is opened of any version that is read, and how a value is made from an earlier one:
pub use Rattle.bitcode_sealed.specs.Versions.{names_earlier, IsOpeningOfAny, IsRefusalOfAny, IsOpeningOfEarlier, IsRefusalOfEarlier, IsRefusalOfVersion}
pub use Rattle.bitcode_sealed.specs.Upgrades.{UpgradesOption, UpgradesMap}
-- What is read column by column: a front of the input, and the data or the lengths that it spells:
pub use Rattle.bitcode_columns.specs.Reading.{Reads}
pub use Rattle.bitcode_shapes.specs.Shape.{Shape}
pub use Rattle.bitcode_coder.specs.Spelling.{Spells}
pub use Rattle.bitcode_coder.specs.LengthColumn.{SpellsLengths}
