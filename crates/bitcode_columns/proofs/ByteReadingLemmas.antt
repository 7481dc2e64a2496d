-- A byte column is read by its form.
use Rattle.std.proofs.Common.{◌≡◌, ◌≢◌, ℕ, ◌+◌, ◌*◌, ◌/◌, ◌%◌, ◌<◌, ◌≤◌, List, [], ◌∷◌, ◌++◌, length, map, get_or, All, inr, refl, sym, ap, ◌∙◌, arith, append_assoc}
use Rattle.std.proofs.lemmas.Bool.Decides.{nat_tests}
use Rattle.std.proofs.lemmas.List.{nil_from_length, length-map, map-id}
use Rattle.std.proofs.lemmas.List.Elements.{All-head, All-tail}
use Rattle.std.proofs.Math.Nat.{pow-zero, div-one, mod-eq_of_lt}
use Rattle.bitcode_columns.specs.declared.pack.Base.{Base}
use Rattle.bitcode_columns.specs.declared.pack.Base.TheVariants.{Whole}
use Rattle.bitcode_columns.specs.ByteColumn.{base_at_level, SpellsBytes}
use Rattle.bitcode_columns.specs.ByteForm.{TellsForm}
use Rattle.bitcode_columns.specs.Digits.{SpellsDigits}
use Rattle.bitcode_memory.specs.LittleEndian.{little_endian}
use Rattle.bitcode_columns.specs.Reading.{Reads, IsEndOf}
use Rattle.bitcode_columns.specs.Tagged.{level_of_tag}

pub TellsForm-plain : (tag : ℕ) (input rest : List ℕ) (base : Base) → tag ≤ 10 → tag % 2 ≢ 1 → input ≡ tag ∷ rest
    → base ≡ base_at_level ((tag + 1) / 2) → TellsForm input base 0 rest
TellsForm-plain tag input rest base known even whole is = record {
  tag = tag;
  least_bytes = [];
  known = known;
  least_size = omega arith;
  whole = whole;
  base_is = is;
  least_is = refl;
}

pub TellsForm-shifted : (tag least : ℕ) (input behind rest : List ℕ) (base : Base) → tag ≤ 10 → tag % 2 ≡ 1 → input ≡ tag ∷ behind → behind ≡ least ∷ rest
    → base ≡ base_at_level ((tag + 1) / 2) → TellsForm input base least rest
TellsForm-shifted tag least input behind rest base known odd whole later is = record {
  tag = tag;
  least_bytes = least ∷ [];
  known = known;
  least_size = omega arith;
  whole = whole ∙ ap (λ xs. tag ∷ xs) later;
  base_is = is;
  least_is = omega arith;
}

-- whole bytes spell themselves
pub SpellsDigits-whole : (bytes : List ℕ) → All (λ b. b < 256) bytes → SpellsDigits Whole bytes bytes
SpellsDigits-whole bytes h = record {
  size = omega arith;
  each = λ i inside.
      let place : i / 1 ≡ i = omega arith in
      let first : i % 1 ≡ 0 = omega arith in
      let below : get_or bytes i 0 < 256 = h i 0 inside in
      rw (place, first, pow-zero, div-one) (sym (mod-eq_of_lt below));
}

pub base_at_level-whole : (level : ℕ) → base_at_level level ≡ Whole → level ≡ 0
base_at_level-whole level is = grind (arith, nat_tests)

-- no bytes are added to
pub add_none : (bytes : List ℕ) (least : ℕ) → least ≡ 0 → All (λ b. b < 256) bytes → map (λ n. (n + least) % 256) bytes ≡ bytes
add_none [] least none h = refl
add_none (b ∷ bytes) least none h =
    let below : b < 256 = All-head (λ x. x < 256) b bytes h in
    let here : (b + least) % 256 ≡ b = omega arith in
    rw (here, add_none bytes least none (All-tail (λ x. x < 256) b bytes h))

module _ (count : ℕ) (input rest : List ℕ) (base : Base) (least : ℕ) (many : 2 < count) (form : TellsForm input base least rest) where
  pub end_behind_form : (new : List ℕ) → IsEndOf rest new → IsEndOf input new
  end_behind_form new e = record {
    taken = form.tag ∷ (form.least_bytes ++ e.taken);
    whole = form.whole ∙ ap (λ xs. form.tag ∷ xs) (ap (λ xs. form.least_bytes ++ xs) e.whole ∙ sym (append_assoc form.least_bytes e.taken new));
  }

  pub whole_least : base ≡ Whole → least ≡ 0
  whole_least is =
      let level_is : (form.tag + 1) / 2 ≡ 0 = base_at_level-whole (level_of_tag form.tag) (sym form.base_is ∙ is) in
      let tag_is : form.tag ≡ 0 = omega arith in
      let none : form.least_bytes ≡ [] = nil_from_length form.least_bytes (form.least_size ∙ ap (λ tag. 1 * (tag % 2)) tag_is) in
      form.least_is ∙ ap little_endian none

  pub read_behind_form : (entries numbers new : List ℕ) → Reads (SpellsDigits base) count rest numbers new → entries ≡ map (λ n. (n + least) % 256) numbers
      → Reads SpellsBytes count input entries new
  read_behind_form entries numbers new read is =
      let size : length entries ≡ count = ap length is ∙ length-map numbers (λ n. (n + least) % 256) ∙ read.size in
      record {
        size = size;
        piece = form.tag ∷ (form.least_bytes ++ read.piece);
        whole = form.whole ∙ ap (λ xs. form.tag ∷ xs) (ap (λ xs. form.least_bytes ++ xs) read.whole ∙ sym (append_assoc form.least_bytes read.piece new));
        spelled = inr ((
          omega arith,
          record {
            tag = form.tag;
            least_bytes = form.least_bytes;
            body = read.piece;
            narrow = numbers;
            known = form.known;
            least_size = form.least_size;
            whole = refl;
            narrowed = rw form.base_is at read.spelled;
            widened = is ∙ ap (λ low. map (λ n. (n + low) % 256) numbers) form.least_is;
          },
        ));
      }

  pub whole_behind_form : (bytes new : List ℕ) → base ≡ Whole → All (λ b. b < 256) bytes → length bytes ≡ count → rest ≡ bytes ++ new
      → Reads SpellsBytes count input bytes new
  whole_behind_form bytes new is h size whole =
      let spelled : SpellsDigits base bytes bytes = rw is (SpellsDigits-whole bytes h) in
      read_behind_form bytes bytes new (record { size = size; piece = bytes; whole = whole; spelled = spelled }) (sym (add_none bytes least (whole_least is) h))

-- entries that are their own digits
pub Reads-plain : {base : Base} {count : ℕ} {old entries new : List ℕ} → Reads (λ bytes read. SpellsDigits base bytes (map (λ n. n) read)) count old entries new
    → Reads (SpellsDigits base) count old entries new
Reads-plain {base} {count} {old} {entries} {new} read =
    let spelled : SpellsDigits base read.piece entries = rw map-id at read.spelled in
    record { size = read.size; piece = read.piece; whole = read.whole; spelled = spelled }
