-- The layout of sealed bytes: a head, the value's bytes, and their checksum.
use Rattle.std.specs.Prelude.{◌≡◌, ℕ, ◌^◌, ◌<◌, List, [], ◌∷◌, ◌++◌, length, take}
use Rattle.bitcode_memory.specs.LittleEndian.{number_bytes}
use Rattle.bitcode_sealed.specs.declared.label.Label.{Label}
use Rattle.bitcode_sealed.specs.declared.head.Head.{Head}
use Rattle.bitcode_sealed.specs.Crc.{crc_32}

-- What sealed bytes begin with. No text begins so: neither byte is ASCII, the first only goes on with a character of UTF-8,
-- and the second stands nowhere in UTF-8.
abbrev pub magic : List ℕ
magic = 0xBC ∷ 0xF5 ∷ []

-- a part, and behind it its checksum
unfoldable pub checked : List ℕ → List ℕ
checked bytes = bytes ++ number_bytes 4 (crc_32 bytes)

-- the fields of a head
abbrev pub head_fields : Head → List ℕ
head_fields head = magic ++ number_bytes 2 head.label.version ++ number_bytes 4 head.label.kind ++ number_bytes 8 head.size

-- a head: its fields, and their checksum
abbrev pub head_bytes : Head → List ℕ
head_bytes head = checked (head_fields head)

-- a value's bytes, sealed under a label
unfoldable pub sealed : Label → List ℕ → List ℕ
sealed label value = head_bytes (record { label = label; size = length value }) ++ checked value

-- the bytes are a value's, sealed
pub record IsSealed (bytes : List ℕ) : Type 0 where
  pub label : Label
  pub value : List ℕ
  pub whole : bytes ≡ sealed label value

-- ---- what an input begins with

-- as sealed bytes do, as far as it goes
abbrev pub BeginsAsSealed : List ℕ → Type 0
BeginsAsSealed input = take 2 input ≡ take (length input) magic

-- with a head whose fields fit in their bytes
pub record BeginsWithHead (head : Head) (input : List ℕ) : Type 0 where
  pub kind_fits : head.label.kind < 256 ^ 4
  pub version_fits : head.label.version < 256 ^ 2
  pub size_fits : head.size < 256 ^ 8
  pub behind : List ℕ
  pub whole : input ≡ head_bytes head ++ behind
