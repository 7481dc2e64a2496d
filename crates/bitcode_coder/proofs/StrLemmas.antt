-- What the coders of texts read and write, and why a reader of texts refuses.
use Rattle.std.proofs.Common.{◌≡◌, ◌≢◌, ℕ, ◌<◌, ◌≤◌, Option, None, List, [], ◌∷◌, ◌++◌, length, take, drop, map, All, sum, refl, sym, ◌∙◌, ap, ap₂, subst, arith, append_assoc, append-nil, length-append, Result, Ok, Err, OnOk, ⊎_elim}
use Rattle.std.specs.Prelude.{IsUtf8}
use Rattle.std.proofs.lemmas.Bool.{cases_lt}
use Rattle.std.proofs.lemmas.List.{length-map, map-id, map-append}
use Rattle.std.proofs.lemmas.List.Concat.{length-flat_map, flat_map-append}
use Rattle.std.proofs.lemmas.List.Elements.{All-map}
use Rattle.std.proofs.lemmas.List.Sums.{sum-map}
use Rattle.std.proofs.lemmas.Simd.{map-map}
use Rattle.bitcode_memory.specs.declared.error.Reason.{Reason}
use Rattle.bitcode_memory.specs.declared.error.Reason.TheVariants.{OutOfMemory}
use Rattle.bitcode_columns.specs.Reading.{Reads}
use Rattle.bitcode_columns.proofs.FrontLemmas.{append_split}
use Rattle.bitcode_shapes.specs.Datum.{Datum, text, text_in, natural_in}
use Rattle.bitcode_shapes.specs.Shape.{IsTextOf, text_shape}
use Rattle.bitcode_coder.specs.Coder.{IsReadingReason, IsReadingRefusal}
use Rattle.bitcode_coder.specs.Columns.{lengths as length_kind, texts as text_kind, one}
use Rattle.bitcode_coder.specs.Cutting.{cut}
use Rattle.bitcode_coder.specs.JoinedTexts.{join, lengths_of}
use Rattle.bitcode_coder.specs.LengthColumn.{SpellsLengths, length_bytes}
use Rattle.bitcode_coder.specs.Spelling.{Spells, natural}
use Rattle.bitcode_coder.specs.TextColumn.{SpellsTexts, texts_bytes}
use Rattle.bitcode_coder.specs.TextParts.{NamesTextFault, in_lengths, missing_bytes, not_texts}
use Rattle.bitcode_coder.proofs.OneColumnLemmas.{reads_of}
use Rattle.bitcode_coder.proofs.CuttingLemmas.{cut-enough, cut-few, cut-joined, joined-cut, lengths-cut}
use Rattle.bitcode_coder.proofs.LengthLemmas.{SpellsLengths-unambiguous}
use Rattle.bitcode_coder.proofs.LengthPartLemmas.{naturals_in}
use Rattle.bitcode_coder.proofs.LengthRefusalLemmas.{reads_once, lengths_refused, length_reason}

-- ---- pieces

join_more : (texts : List (List ℕ)) (piece : List ℕ) → join (texts ++ piece ∷ []) ≡ join texts ++ piece
join_more texts piece = flat_map-append (λ t. t) texts (piece ∷ []) ∙ ap (λ last. join texts ++ last) (append-nil piece)

-- one piece more
pub cut-pushed : (lengths bytes piece : List ℕ) → sum lengths ≡ length bytes
    → cut (lengths ++ length piece ∷ []) (bytes ++ piece) ≡ cut lengths bytes ++ piece ∷ []
cut-pushed lengths bytes piece all =
    let pieces = cut lengths bytes in
    let whole : join (pieces ++ piece ∷ []) ≡ bytes ++ piece = join_more pieces piece ∙ ap (λ front. front ++ piece) (joined-cut lengths bytes all) in
    let sizes : lengths_of (pieces ++ piece ∷ []) ≡ lengths ++ length piece ∷ [] =
    map-append (λ t. length t) pieces (piece ∷ []) ∙ ap (λ front. front ++ length piece ∷ []) (lengths-cut lengths bytes (omega arith)) in
    ap₂ cut (sym sizes) (sym whole) ∙ cut-joined (pieces ++ piece ∷ [])

pub pieces_pushed : (ns ms bytes more piece : List ℕ) → sum ns ≡ length bytes → ms ≡ ns ++ length piece ∷ [] → more ≡ bytes ++ piece
    → cut ms more ≡ cut ns bytes ++ piece ∷ []
pieces_pushed ns ms bytes more piece all sizes whole = ap₂ cut sizes whole ∙ cut-pushed ns bytes piece all

-- several pieces more
module _ (lengths bytes : List ℕ) (pieces : List (List ℕ)) (all : sum lengths ≡ length bytes) where
  lengths_with : lengths ++ lengths_of pieces ≡ lengths_of (cut lengths bytes ++ pieces)
  lengths_with =
      sym (map-append (λ t. length t) (cut lengths bytes) pieces ∙ ap (λ front. front ++ lengths_of pieces) (lengths-cut lengths bytes (omega arith)))

  bytes_with : bytes ++ join pieces ≡ join (cut lengths bytes ++ pieces)
  bytes_with = sym (flat_map-append (λ t. t) (cut lengths bytes) pieces ∙ ap (λ front. front ++ join pieces) (joined-cut lengths bytes all))

  pub each_pushed : (ns more : List ℕ) → ns ≡ lengths ++ lengths_of pieces → more ≡ bytes ++ join pieces → cut ns more ≡ cut lengths bytes ++ pieces
  each_pushed ns more sizes whole = ap₂ cut (sizes ∙ lengths_with) (whole ∙ bytes_with) ∙ cut-joined (cut lengths bytes ++ pieces)

  pub whole_with : (ns more : List ℕ) → ns ≡ lengths ++ lengths_of pieces → more ≡ bytes ++ join pieces → sum ns ≡ length more
  whole_with ns more sizes whole =
      let qs = cut lengths bytes ++ pieces in
      ap sum (sizes ∙ lengths_with) ∙ sum-map (λ t. length t) qs ∙ sym (length-flat_map (λ t. t) qs) ∙ sym (ap length (whole ∙ bytes_with))

-- the first of the pieces is taken
pub taken_piece : (ns bytes : List ℕ) (n : ℕ) (ms : List ℕ) → ns ≡ n ∷ ms → 0 < length (cut ns bytes) → cut ns bytes ≡ take n bytes ∷ cut ms (drop n bytes)
taken_piece ns bytes n ms taken some =
    let same : cut ns bytes ≡ cut (n ∷ ms) bytes = ap (λ sizes. cut sizes bytes) taken in
    let enough : n ≤ length bytes =
    ⊎_elim (λ few. absurd (omega (arith, ap length same, ap length (cut-few n ms bytes few)))) (λ h. h) (cases_lt (length bytes) n) in
    same ∙ cut-enough n ms bytes enough

-- it is among the bytes
pub piece_fits : (ns bytes : List ℕ) (n : ℕ) (ms : List ℕ) → ns ≡ n ∷ ms → 0 < length (cut ns bytes) → n ≤ length bytes
piece_fits ns bytes n ms taken some =
    ⊎_elim (λ few. absurd (omega (arith, ap length (ap (λ sizes. cut sizes bytes) taken), ap length (cut-few n ms bytes few)))) (λ h. h) (cases_lt (length bytes) n)

-- ---- written

pub OnOk-always : {T E : Type 0} {P : Type 0} (result : Result T E) → P → OnOk result P
OnOk-always (Ok value) p = p
OnOk-always (Err error) p = tt

-- a column of lengths tells its lengths
pub same_lengths : (ns ms : List ℕ) → one (length_kind None) (map natural ns) ≡ one (length_kind None) (map natural ms) → ns ≡ ms
same_lengths ns ms e =
    let entries : map natural ns ≡ map natural ms = cc in
    sym (naturals_in ns) ∙ (ap (map natural_in) entries ∙ naturals_in ms)

pub pieces_kept : (ns ms bytes : List ℕ) → one (length_kind None) (map natural ns) ≡ one (length_kind None) (map natural ms)
    → one (text_kind None) (map text (cut ns bytes)) ≡ one (text_kind None) (map text (cut ms bytes))
pieces_kept ns ms bytes e = ap (λ sizes. one (text_kind None) (map text (cut sizes bytes))) (same_lengths ns ms e)

pub no_pieces : (ns bytes : List ℕ) → one (length_kind None) (map natural ns) ≡ one (length_kind None) []
    → one (text_kind None) (map text (cut ns bytes)) ≡ one (text_kind None) []
no_pieces ns bytes e = pieces_kept ns [] bytes e

pub texts_in : (texts : List (List ℕ)) → map text_in (map text texts) ≡ texts
texts_in texts = map-map text_in text texts ∙ map-id texts

-- the text of the column of pieces
pub texts_bytes-cut : (lengths bytes : List ℕ) → sum lengths ≡ length bytes
    → texts_bytes (map text_in (map text (cut lengths bytes))) ≡ length_bytes lengths ++ bytes
unfolding texts_bytes
texts_bytes-cut lengths bytes all =
    ap (λ texts. length_bytes (lengths_of texts) ++ join texts) (texts_in (cut lengths bytes))
    ∙ ap₂ (λ ns whole. length_bytes ns ++ whole) (lengths-cut lengths bytes (omega arith)) (joined-cut lengths bytes all)

-- ---- read

module _ {count : ℕ} {old lengths : List ℕ} (bytes : List ℕ) {new : List ℕ} (read : Reads (SpellsLengths None) count old lengths (bytes ++ new)) (all : length bytes ≡ sum lengths)
    (utf8 : All IsUtf8 (cut lengths bytes)) where
  pieces_read : Reads (SpellsTexts None) count old (cut lengths bytes) new
  pieces_read =
      let sizes : lengths_of (cut lengths bytes) ≡ lengths = lengths-cut lengths bytes (omega arith) in
      record {
        size = sym (length-map (cut lengths bytes) (λ t. length t)) ∙ (ap length sizes ∙ read.size);
        piece = read.piece ++ bytes;
        whole = read.whole ∙ sym (append_assoc read.piece bytes new);
        spelled = record {
          lengths_piece = read.piece;
          whole = ap (λ whole. read.piece ++ whole) (sym (joined-cut lengths bytes (sym all)));
          lengths_spelled = subst (SpellsLengths None read.piece) (sym sizes) read.spelled;
          utf8 = utf8;
        };
      }

  pub texts_read : Reads (Spells (text_shape None)) count old (map text (cut lengths bytes)) new
  texts_read =
      reads_of (text_shape None) text (SpellsTexts None) count old (cut lengths bytes) new pieces_read (λ piece s. record {
        of_shape = All-map (IsTextOf None) text (cut lengths bytes) (λ k d h. record { bytes = _; is = refl; utf8 = s.utf8 k d h; within = tt });
        counts = tt;
        columns = record { entries = cut lengths bytes; are = refl; spelled = s };
      })

-- ---- refused

-- the lengths of a reading of texts
unfoldable pub lengths_of_reading : {limit : Option ℕ} {count : ℕ} {input rest : List ℕ} {texts : List (List ℕ)} (r : Reads (SpellsTexts limit) count input texts rest)
    → Reads (SpellsLengths limit) count input (lengths_of texts) (join texts ++ rest)
lengths_of_reading {rest = rest} {texts = texts} r = record {
  size = length-map texts (λ t. length t) ∙ r.size;
  piece = r.spelled.lengths_piece;
  whole = r.whole ∙ (ap (λ piece. piece ++ rest) r.spelled.whole ∙ append_assoc r.spelled.lengths_piece (join texts) rest);
  spelled = r.spelled.lengths_spelled;
}

-- the texts of a reading of their data
unfoldable pub texts_of_reading : {limit : Option ℕ} {count : ℕ} {input rest : List ℕ} {ds : List Datum} (r : Reads (Spells (text_shape limit)) count input ds rest)
    → Reads (SpellsTexts limit) count input r.spelled.columns.entries rest
texts_of_reading r =
    let column = r.spelled.columns in
    record {
      size = sym (length-map column.entries text) ∙ (sym (ap length column.are) ∙ r.size);
      piece = r.piece;
      whole = r.whole;
      spelled = column.spelled;
    }

module _ {count : ℕ} {input : List ℕ} {texts : List (List ℕ)} {rest : List ℕ} (r : Reads (SpellsTexts None) count input texts rest) where
  total : length (join texts) ≡ sum (lengths_of texts)
  total = length-flat_map (λ t. t) texts ∙ sym (sum-map (λ t. length t) texts)

  texts_refused : (reason : Reason) → reason ≢ OutOfMemory → NamesTextFault reason count input → ⊥
  texts_refused reason other (in_lengths fault) = lengths_refused None reason count input fault other (lengths_of texts) (join texts ++ rest) (lengths_of_reading r)
  texts_refused reason other (missing_bytes lengths middle is read few) =
      let same = reads_once (SpellsLengths-unambiguous None) read (lengths_of_reading r) in
      omega (arith, ap length same.1, ap sum same.0, total, length-append (join texts) rest)
  texts_refused reason other (not_texts lengths bytes behind is read all broken) =
      let same = reads_once (SpellsLengths-unambiguous None) read (lengths_of_reading r) in
      let front : bytes ≡ join texts = (append_split bytes (join texts) behind rest (all ∙ (ap sum same.0 ∙ sym total)) same.1).0 in
      broken (subst (All IsUtf8) (sym (ap₂ cut same.0 front ∙ cut-joined texts)) r.spelled.utf8)

text_reason : (reason : Reason) (count : ℕ) (input : List ℕ) → NamesTextFault reason count input → IsReadingReason reason
text_reason reason count input (in_lengths fault) = length_reason reason count input fault
text_reason reason count input (missing_bytes lengths middle is read few) = subst IsReadingReason (sym is) tt
text_reason reason count input (not_texts lengths bytes rest is read all broken) = subst IsReadingReason (sym is) tt

pub text_refusal : (reason : Reason) (count : ℕ) (input : List ℕ) → NamesTextFault reason count input → IsReadingRefusal (text_shape None) reason count input
text_refusal reason count input fault = (
  text_reason reason count input fault,
  λ other ds rest r. texts_refused (texts_of_reading r) reason other fault,
)
