-- The text that an error with each reason prints, and the kind of its I/O error.
use Rattle.std.specs.Prelude.{ℕ, List, codes}
use Rattle.std.specs.declared.io.ErrorKind.{ErrorKind}
use Rattle.std.specs.declared.io.ErrorKind.TheVariants.{UnexpectedEof, InvalidData, OutOfMemory as NoMemory}
use Rattle.bitcode_memory.specs.declared.error.Reason.{Reason}
use Rattle.bitcode_memory.specs.declared.error.Reason.TheVariants.{Eof, ExpectedEof, InvalidPacking, LengthOverflow, HugeLength, InvalidUtf8, InvalidBitPattern, InvalidArrayVec, InvalidArrayString, InvalidEnumVariant, InvalidOption, InvalidChar, TooManyZeroSizedTypes, TooManyVariants, NotOfTheShape, NestedTooDeep, OutOfMemory, BadShape, NotTheWrittenText, TooManyNodes}

abbrev pub reason_text : Reason → List ℕ
reason_text Eof = codes "EOF"
reason_text ExpectedEof = codes "Expected EOF"
reason_text InvalidPacking = codes "invalid packing"
reason_text LengthOverflow = codes "length overflow"
reason_text HugeLength = codes "huge length"
reason_text InvalidUtf8 = codes "invalid utf8"
reason_text InvalidBitPattern = codes "invalid bit pattern"
reason_text InvalidArrayVec = codes "invalid ArrayVec"
reason_text InvalidArrayString = codes "invalid ArrayString"
reason_text InvalidEnumVariant = codes "invalid enum variant"
reason_text InvalidOption = codes "invalid option"
reason_text InvalidChar = codes "invalid char"
reason_text TooManyZeroSizedTypes = codes "too many zero sized types"
reason_text TooManyVariants = codes "enums with more than 256 variants are unsupported"
reason_text NotOfTheShape = codes "value is not of the shape"
reason_text NestedTooDeep = codes "nested too deep"
reason_text OutOfMemory = codes "out of memory"
reason_text BadShape = codes "bad shape"
reason_text NotTheWrittenText = codes "not the written text"
reason_text TooManyNodes = codes "too many nodes"

abbrev pub io_kind : Reason → ErrorKind
io_kind Eof = UnexpectedEof
io_kind OutOfMemory = NoMemory
io_kind _ = InvalidData
