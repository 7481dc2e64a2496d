-- A tagged column of integers is read by its header.
use Rattle.std.proofs.Common.{◌≡◌, ◌≢◌, ℕ, zero, suc, ◌+◌, ◌*◌, ◌/◌, ◌%◌, ◌^◌, ◌<◌, ◌≤◌, ◌||◌, ◌&&◌, true, false, Bool, cond, eqb, List, [], ◌∷◌, ◌++◌, length, map, take, drop, All, Option, MatchBool, inl, inr, refl, sym, ap, ap₂, ◌∙◌, subst, arith, append_assoc, length-append}
use Rattle.std.proofs.Math.Nat.{mul-zero, mod-eq_of_lt, mod-lt, div-one}
use Rattle.std.proofs.lemmas.Bool.{cond-false, le-ltb, ne_eqb, eqb-true}
use Rattle.std.proofs.lemmas.List.{drop_at, get_or_append_left, length-map, nil_from_length, take_all}
use Rattle.std.proofs.lemmas.List.Elements.{All-head, All-tail, All-map}
use Rattle.std.specs.Simd.{first_chunks}
use Rattle.bitcode_memory.specs.declared.error.Reason.{Reason}
use Rattle.bitcode_columns.specs.declared.pack.Base.TheVariants.{Whole}
use Rattle.bitcode_columns.specs.ByteColumn.{SpellsBytes, base_at_level}
use Rattle.bitcode_columns.specs.ByteForm.{TellsForm}
use Rattle.bitcode_memory.specs.IntWidths.{IsWidth}
use Rattle.bitcode_columns.specs.IntColumn.{IntForm, bytes_form, bare_form, tagged_form, int_form, SpellsInts, SpellsIntsAs, SpellsNarrow, SpellsAtIntLevel, width_at_level, halvings}
use Rattle.bitcode_int_columns.specs.IntHeader.{TellsLevel, ReadsWidened}
use Rattle.bitcode_memory.specs.LittleEndian.{SpellsRaw, little_endian, number_bytes, raw_text}
use Rattle.bitcode_columns.specs.Reading.{Reads, IsEndOf, missing, tagged_fault, narrow_fault, has_raw_tag}
use Rattle.bitcode_columns.specs.Tagged.{SpellsTagged, level_of_tag}
use Rattle.bitcode_columns.proofs.ByteReadingLemmas.{TellsForm-plain, whole_behind_form}
use Rattle.bitcode_columns.proofs.IntColumnLemmas.{at_width}
use Rattle.bitcode_memory.proofs.UnalignedLemmas.{first_chunks_spell}
use Rattle.bitcode_int_columns.proofs.WideningLemmas.{some_numbers}

-- a byte is the number that it alone stands for
pub bytes_alone : (bytes : List ℕ) → map (λ byte. little_endian (byte ∷ [])) bytes ≡ bytes
bytes_alone [] = refl
bytes_alone (byte ∷ bytes) =
    let alone : byte + 256 * 0 ≡ byte = omega arith in
    ap₂ (λ b bs. b ∷ bs) alone (bytes_alone bytes)

module _ (width highest level least : ℕ) (input rest : List ℕ) (header : TellsLevel width highest input level least rest) where
  pub fault_behind_header : (narrow : ℕ → List ℕ → Option Reason) → tagged_fault width highest narrow input ≡ narrow level rest
  fault_behind_header narrow =
      let tail = header.least_bytes ++ rest in
      let taken : drop (width * (header.tag % 2)) tail ≡ rest = drop_at header.least_bytes rest (width * (header.tag % 2)) header.least_size in
      let enough : width * (header.tag % 2) ≤ length tail = omega (arith, length-append header.least_bytes rest, header.least_size) in
      ap (tagged_fault width highest narrow) header.whole
      ∙ cond-false _ _ _ (le-ltb highest header.tag header.known)
      ∙ cond-false _ _ _ (le-ltb (length tail) (width * (header.tag % 2)) enough)
      ∙ ap (narrow (level_of_tag header.tag)) taken
      ∙ ap (λ l. narrow l rest) (sym header.level_is)

  pub end_behind_header : (new : List ℕ) → IsEndOf rest new → IsEndOf input new
  end_behind_header new e = record {
    taken = header.tag ∷ (header.least_bytes ++ e.taken);
    whole = header.whole ∙ ap (λ xs. header.tag ∷ xs) (ap (λ xs. header.least_bytes ++ xs) e.whole ∙ sym (append_assoc header.least_bytes e.taken new));
  }

  pub read_behind_header : (SpellsNumbers : ℕ → List ℕ → List ℕ → Type 0) (count : ℕ) (entries numbers new : List ℕ)
      → Reads (SpellsNumbers level) count rest numbers new → entries ≡ map (λ n. (n + least) % 256 ^ width) numbers
      → Reads (SpellsTagged width highest SpellsNumbers) count input entries new
  read_behind_header SpellsNumbers count entries numbers new read is = record {
    size = ap length is ∙ length-map numbers (λ n. (n + least) % 256 ^ width) ∙ read.size;
    piece = header.tag ∷ (header.least_bytes ++ read.piece);
    whole = header.whole ∙ ap (λ xs. header.tag ∷ xs) (ap (λ xs. header.least_bytes ++ xs) read.whole ∙ sym (append_assoc header.least_bytes read.piece new));
    spelled = record {
      tag = header.tag;
      least_bytes = header.least_bytes;
      body = read.piece;
      narrow = numbers;
      known = header.known;
      least_size = header.least_size;
      whole = refl;
      narrowed = subst (λ l. SpellsNumbers l read.piece numbers) header.level_is read.spelled;
      widened = is ∙ ap (λ low. map (λ n. (n + low) % 256 ^ width) numbers) header.least_is;
    };
  }

length-first_chunks : {X : Type 0} (size k : ℕ) (xs : List X) → length (first_chunks size k xs) ≡ k
length-first_chunks size zero xs = refl
length-first_chunks size (suc k) xs = ap suc (length-first_chunks size k (drop size xs))

-- raw numbers, widened
pub ReadsWidened-raw : (width least narrow count : ℕ) (input bytes rest entries : List ℕ) → All (λ b. b < 256) bytes → length bytes ≡ count * narrow
    → input ≡ bytes ++ rest → entries ≡ map (λ n. (n + least) % 256 ^ width) (map little_endian (first_chunks narrow count bytes))
    → ReadsWidened width least (SpellsRaw narrow) count input entries rest
ReadsWidened-raw width least narrow count input bytes rest entries h size whole is =
    let numbers = map little_endian (first_chunks narrow count bytes) in
    let fits : count * narrow ≤ length bytes = omega arith in
    let all : take (count * narrow) bytes ≡ bytes = take_all (count * narrow) bytes (omega arith) in
    record {
      numbers = numbers;
      read = record {
        size = length-map (first_chunks narrow count bytes) little_endian ∙ length-first_chunks narrow count bytes;
        piece = bytes;
        whole = whole;
        spelled = subst (λ p. SpellsRaw narrow p numbers) all (first_chunks_spell narrow count bytes h fits);
      };
      widened = is;
    }

-- ---- the forms of a column

-- ---- entries that stand as they are

raw_byte : (n : ℕ) → n < 256 ^ 1 → number_bytes 1 n ≡ n ∷ []
raw_byte n h = let e : n % 256 ≡ n = omega arith in rw e

pub raw_text_of_bytes : (entries : List ℕ) → All (λ n. n < 256 ^ 1) entries → raw_text 1 entries ≡ entries
unfolding raw_text
raw_text_of_bytes [] h = refl
raw_text_of_bytes (n ∷ ns) h =
    let here : number_bytes 1 n ≡ n ∷ [] = raw_byte n (All-head (λ m. m < 256 ^ 1) n ns h) in
    let later : raw_text 1 ns ≡ ns = raw_text_of_bytes ns (All-tail (λ m. m < 256 ^ 1) n ns h) in
    ap (λ xs. xs ++ raw_text 1 ns) here ∙ ap (λ xs. n ∷ xs) later

-- numbers of a width are not changed by nothing added
pub add_nothing : (width least : ℕ) (numbers : List ℕ) → least ≡ 0 → All (λ n. n < 256 ^ width) numbers → numbers ≡ map (λ n. (n + least) % 256 ^ width) numbers
add_nothing width least [] none h = refl
add_nothing width least (n ∷ numbers) none h =
    let below : n < 256 ^ width = All-head (λ x. x < 256 ^ width) n numbers h in
    let same : n + least ≡ n = omega arith in
    let here : n ≡ (n + least) % 256 ^ width = sym (ap (λ x. x % 256 ^ width) same ∙ mod-eq_of_lt below) in
    ap (λ x. x ∷ numbers) here ∙ ap (λ xs. (n + least) % 256 ^ width ∷ xs) (add_nothing width least numbers none (All-tail (λ x. x < 256 ^ width) n numbers h))

pub Reads-bare_bytes : (width count : ℕ) (old entries new : List ℕ) → width ≡ 1 → count ≤ 2
    → Reads (SpellsRaw width) count old entries new → Reads SpellsBytes count old entries new
Reads-bare_bytes width count old entries new one few read =
    let raw : SpellsRaw 1 read.piece entries = subst (λ w. SpellsRaw w read.piece entries) one read.spelled in
    record {
      size = read.size;
      piece = read.piece;
      whole = read.whole;
      spelled = inl ((omega (arith, read.size), raw.whole ∙ raw_text_of_bytes entries raw.fit));
    }

pub Reads-raw_bytes : (width count tag : ℕ) (old behind entries new : List ℕ) → width ≡ 1 → 2 < count → old ≡ tag ∷ behind → tag ≡ 0
    → Reads (SpellsRaw width) count behind entries new → Reads SpellsBytes count old entries new
Reads-raw_bytes width count tag old behind entries new one many whole zero_tag read =
    let raw : SpellsRaw 1 read.piece entries = subst (λ w. SpellsRaw w read.piece entries) one read.spelled in
    let level : Whole ≡ base_at_level ((tag + 1) / 2) = ap (λ t. base_at_level ((t + 1) / 2)) (sym zero_tag) in
    let odd : tag % 2 ≢ 1 = λ e. absurd (omega arith) in
    let form : TellsForm old Whole 0 behind = TellsForm-plain tag old behind Whole (omega arith) odd whole level in
    whole_behind_form count old behind Whole 0 many form entries new refl raw.fit read.size
    (read.whole ∙ ap (λ p. p ++ new) (raw.whole ∙ raw_text_of_bytes entries raw.fit))

bytes_below : (piece entries : List ℕ) → 2 < length entries → SpellsBytes piece entries → All (λ n. n < 256 ^ 1) entries
bytes_below piece entries many (inl s) = absurd (omega (arith, s.0))
bytes_below piece entries many (inr s) =
    subst (All (λ n. n < 256 ^ 1)) (sym s.1.widened)
    (All-map (λ n. n < 256 ^ 1) (λ n. (n + little_endian s.1.least_bytes) % 256 ^ 1) s.1.narrow (λ k d inside. mod-lt _ (some_numbers 1)))

-- a byte column, widened by nothing
pub Reads-widened_bytes : (width least count : ℕ) (old entries new : List ℕ) → width ≡ 1 → least ≡ 0 → 2 < count
    → ReadsWidened width least SpellsBytes count old entries new → Reads SpellsBytes count old entries new
Reads-widened_bytes width least count old entries new one none many r =
    let below : All (λ n. n < 256 ^ 1) r.numbers = bytes_below r.read.piece r.numbers (omega (arith, r.read.size)) r.read.spelled in
    let widths : entries ≡ map (λ n. (n + least) % 256 ^ 1) r.numbers = r.widened ∙ ap (λ w. map (λ n. (n + least) % 256 ^ w) r.numbers) one in
    let same : r.numbers ≡ entries = add_nothing 1 least r.numbers none below ∙ sym widths in
    subst (λ es. Reads SpellsBytes count old es new) same r.read

-- ---- tagged columns

pub tag_from_raw : (input : List ℕ) (tag : ℕ) (behind : List ℕ) → has_raw_tag input ≡ true → input ≡ tag ∷ behind → tag ≡ 0
tag_from_raw input tag behind raw whole = eqb-true tag 0 (sym (ap has_raw_tag whole) ∙ raw)

module _ (width highest level least : ℕ) (input rest : List ℕ) (header : TellsLevel width highest input level least rest) (raw : has_raw_tag input ≡ true) where
  raw_tag : header.tag ≡ 0
  raw_tag = tag_from_raw input header.tag (header.least_bytes ++ rest) raw header.whole

  pub raw_level : level ≡ 0
  raw_level = header.level_is ∙ ap level_of_tag raw_tag

  pub raw_least : least ≡ 0
  raw_least =
      let none : width * (header.tag % 2) ≡ 0 = ap (λ t. width * (t % 2)) raw_tag ∙ mul-zero width in
      header.least_is ∙ ap little_endian (nil_from_length header.least_bytes (header.least_size ∙ none))

pub width_at_top : (width : ℕ) → width_at_level width 0 ≡ width
width_at_top width = div-one width

narrow_raw : (width : ℕ) (piece numbers : List ℕ) → 2 ≤ width → SpellsRaw width piece numbers → SpellsNarrow width piece numbers
narrow_raw width piece numbers many s =
    let P : Bool → Type 0 = λ b. MatchBool b (SpellsBytes piece numbers) (SpellsRaw width piece numbers) in
    subst P (sym (ne_eqb width 1 (λ e. absurd (omega arith)))) s

pub Reads-raw_tagged : (width highest level least count : ℕ) (input rest entries new : List ℕ) → TellsLevel width highest input level least rest
    → has_raw_tag input ≡ true → 2 ≤ width → Reads (SpellsRaw width) count rest entries new
    → Reads (SpellsTagged width highest (SpellsAtIntLevel width)) count input entries new
Reads-raw_tagged width highest level least count input rest entries new header raw many read =
    let top : width ≡ width_at_level width level = sym (ap (width_at_level width) (raw_level width highest level least input rest header raw) ∙ width_at_top width) in
    let narrow : Reads (SpellsAtIntLevel width level) count rest entries new = record {
      size = read.size;
      piece = read.piece;
      whole = read.whole;
      spelled = subst (λ w. SpellsNarrow w read.piece entries) top (narrow_raw width read.piece entries many read.spelled);
    } in
    read_behind_header width highest level least input rest header (SpellsAtIntLevel width) count entries entries new narrow
    (add_nothing width least entries (raw_least width highest level least input rest header raw) read.spelled.fit)

narrow_fault_raw : (count width : ℕ) (input : List ℕ) → 2 ≤ width → narrow_fault count width input ≡ missing (count * width) input
narrow_fault_raw count width input many = cond-false _ _ _ (ne_eqb width 1 (λ e. absurd (omega arith)))

pub fault_of_raw : (width highest level least count : ℕ) (input rest : List ℕ) → TellsLevel width highest input level least rest
    → has_raw_tag input ≡ true → 2 ≤ width
    → tagged_fault width highest (λ l. narrow_fault count (width_at_level width l)) input ≡ missing (count * width) rest
fault_of_raw width highest level least count input rest header raw many =
    fault_behind_header width highest level least input rest header (λ l. narrow_fault count (width_at_level width l))
    ∙ ap (λ l. narrow_fault count (width_at_level width l) rest) (raw_level width highest level least input rest header raw)
    ∙ ap (λ w. narrow_fault count w rest) (width_at_top width)
    ∙ narrow_fault_raw count width rest many

pub Reads-narrow_tagged : (width highest level least narrow count : ℕ) (input rest entries new : List ℕ) → TellsLevel width highest input level least rest
    → narrow ≡ width_at_level width level → ReadsWidened width least (SpellsNarrow narrow) count rest entries new
    → Reads (SpellsTagged width highest (SpellsAtIntLevel width)) count input entries new
Reads-narrow_tagged width highest level least narrow count input rest entries new header is r =
    read_behind_header width highest level least input rest header (SpellsAtIntLevel width) count entries r.numbers new
    (subst (λ w. Reads (SpellsNarrow w) count rest r.numbers new) is r.read) r.widened

-- ---- widths at the levels of a width

two_levels : (level : ℕ) → level ≤ 1 → IsWidth (2 / 2 ^ level)
two_levels zero h = inr (inl refl)
two_levels (suc zero) h = inl refl
two_levels (suc (suc level)) h = absurd (omega arith)

four_levels : (level : ℕ) → level ≤ 2 → IsWidth (4 / 2 ^ level)
four_levels zero h = inr (inr (inl refl))
four_levels (suc zero) h = inr (inl refl)
four_levels (suc (suc zero)) h = inl refl
four_levels (suc (suc (suc level))) h = absurd (omega arith)

eight_levels : (level : ℕ) → level ≤ 3 → IsWidth (8 / 2 ^ level)
eight_levels zero h = inr (inr (inr (inl refl)))
eight_levels (suc zero) h = inr (inr (inl refl))
eight_levels (suc (suc zero)) h = inr (inl refl)
eight_levels (suc (suc (suc zero))) h = inl refl
eight_levels (suc (suc (suc (suc level)))) h = absurd (omega arith)

sixteen_levels : (level : ℕ) → level ≤ 4 → IsWidth (16 / 2 ^ level)
sixteen_levels zero h = inr (inr (inr (inr refl)))
sixteen_levels (suc zero) h = inr (inr (inr (inl refl)))
sixteen_levels (suc (suc zero)) h = inr (inr (inl refl))
sixteen_levels (suc (suc (suc zero))) h = inr (inl refl)
sixteen_levels (suc (suc (suc (suc zero)))) h = inl refl
sixteen_levels (suc (suc (suc (suc (suc level))))) h = absurd (omega arith)

one_level : (level : ℕ) → level ≤ 0 → IsWidth (1 / 2 ^ level)
one_level zero h = inl refl
one_level (suc level) h = absurd (omega arith)

pub IsWidth-at_level : (width level : ℕ) → IsWidth width → level ≤ halvings width → IsWidth (width_at_level width level)
IsWidth-at_level width level known below =
    at_width (λ w. level ≤ halvings w → IsWidth (w / 2 ^ level)) (one_level level) (two_levels level) (four_levels level) (eight_levels level) (sixteen_levels level) width known below

-- ---- entries are numbers of the width

entries_as : (form : IntForm) (width : ℕ) (piece entries : List ℕ) → (form ≡ bytes_form → width ≡ 1) → All (λ b. b < 256) piece
    → SpellsIntsAs form width piece entries → All (λ n. n < 256 ^ width) entries
entries_as bytes_form width piece entries one bytes (inl s) =
    subst (λ w. All (λ n. n < 256 ^ w) entries) (sym (one refl)) (subst (All (λ n. n < 256 ^ 1)) s.1 bytes)
entries_as bytes_form width piece entries one bytes (inr s) =
    subst (λ w. All (λ n. n < 256 ^ w) entries) (sym (one refl)) (bytes_below piece entries s.0 (inr s))
entries_as bare_form width piece entries one bytes s = s.fit
entries_as tagged_form width piece entries one bytes s =
    subst (All (λ n. n < 256 ^ width)) (sym s.widened)
    (All-map (λ n. n < 256 ^ width) (λ n. (n + little_endian s.least_bytes) % 256 ^ width) s.narrow (λ k d inside. mod-lt _ (some_numbers width)))

bytes_chosen : (a b : Bool) → cond a bytes_form (cond b bare_form tagged_form) ≡ bytes_form → a ≡ true
bytes_chosen true b e = refl
bytes_chosen false true e = absurd cc
bytes_chosen false false e = absurd cc

bytes_width : (width count : ℕ) → int_form width count ≡ bytes_form → width ≡ 1
bytes_width width count is = eqb-true width 1 (bytes_chosen (eqb width 1) (eqb count 0 || (eqb width 2 && eqb count 1)) is)

all_front : (xs ys : List ℕ) → All (λ b. b < 256) (xs ++ ys) → All (λ b. b < 256) xs
all_front xs ys h = λ k d inside. subst (λ b. b < 256) (get_or_append_left xs ys d k inside) (h k d (omega (arith, length-append xs ys)))

pub entries_in_width : (width count : ℕ) (old entries new : List ℕ) → All (λ b. b < 256) old → Reads (SpellsInts width) count old entries new
    → All (λ n. n < 256 ^ width) entries
entries_in_width width count old entries new bytes read =
    let piece : All (λ b. b < 256) read.piece = all_front read.piece new (subst (All (λ b. b < 256)) read.whole bytes) in
    entries_as (int_form width (length entries)) width read.piece entries (bytes_width width (length entries)) piece read.spelled
