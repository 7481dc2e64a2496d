-- Readings of texts of at most so many bytes each, and of the same texts with no limit.
use Rattle.std.proofs.Common.{◌≡◌, ℕ, ◌≤◌, Option, Some, None, List, length, get_or, map, All, refl, sym, ap, ◌∙◌, subst, arith}
use Rattle.std.proofs.lemmas.List.{length-map, get_or-map}
use Rattle.std.proofs.lemmas.List.Elements.{All-map}
use Rattle.bitcode_memory.specs.declared.error.Reason.{Reason}
use Rattle.bitcode_memory.specs.declared.error.Reason.TheVariants.{InvalidArrayString}
use Rattle.bitcode_columns.specs.Reading.{Reads}
use Rattle.bitcode_shapes.specs.Datum.{Datum, text, text_in}
use Rattle.bitcode_shapes.specs.Shape.{IsTextOf, text_shape}
use Rattle.bitcode_coder.specs.Coder.{IsReadingReason, IsReadingRefusal}
use Rattle.bitcode_coder.specs.JoinedTexts.{lengths_of}
use Rattle.bitcode_coder.specs.LengthColumn.{KeepsCap, lengths_from}
use Rattle.bitcode_coder.specs.LengthParts.{ReadsParts}
use Rattle.bitcode_coder.specs.Spelling.{Spells}
use Rattle.bitcode_coder.specs.TextParts.{NamesLimitedTextFault, in_texts, over_limit}
use Rattle.bitcode_coder.proofs.LengthLemmas.{other_limit, SpellsLengths-within}
use Rattle.bitcode_coder.proofs.LengthRefusalLemmas.{cap_kept, cap_refused}
use Rattle.bitcode_coder.proofs.StrLemmas.{lengths_of_reading, texts_of_reading, text_refusal}

-- a reading with a limit is one without
unlimited : {limit : Option ℕ} {count : ℕ} {input rest : List ℕ} {ds : List Datum} → Reads (Spells (text_shape limit)) count input ds rest
    → Reads (Spells (text_shape None)) count input ds rest
unlimited r =
    let column = r.spelled.columns in
    let piece = column.spelled in
    record {
      size = r.size;
      piece = r.piece;
      whole = r.whole;
      spelled = record {
        of_shape = λ k d inside. let t = r.spelled.of_shape k d inside in record { bytes = t.bytes; is = t.is; utf8 = t.utf8; within = tt };
        counts = tt;
        columns = record {
          entries = column.entries;
          are = column.are;
          spelled = record {
            lengths_piece = piece.lengths_piece;
            whole = piece.whole;
            lengths_spelled = other_limit None piece.lengths_spelled tt;
            utf8 = piece.utf8;
          };
        };
      };
    }

-- texts whose lengths are within a limit
each_within : (limit : ℕ) (texts : List (List ℕ)) → All (λ n. n ≤ limit) (lengths_of texts) → All (λ t. length t ≤ limit) texts
each_within limit texts within k d inside =
    subst (λ n. n ≤ limit) (get_or-map (λ t. length t) texts k d 0 inside) (within k 0 (omega (arith, length-map texts (λ t. length t))))

-- where the lengths that were read keep a limit, a reading without it is one with it
pub limited_read : (limit count : ℕ) (input short large behind : List ℕ) → ReadsParts count input short large behind
    → KeepsCap (Some limit) short (lengths_from short large) → {ds : List Datum} {rest : List ℕ} → Reads (Spells (text_shape None)) count input ds rest
    → Reads (Spells (text_shape (Some limit))) count input ds rest
unfolding lengths_of_reading texts_of_reading
limited_read limit count input short large behind parts keeps r =
    let column = r.spelled.columns in
    let piece = column.spelled in
    let spelled = cap_kept (Some limit) count input short large behind parts keeps (lengths_of_reading (texts_of_reading r)) in
    let within = each_within limit column.entries (SpellsLengths-within spelled) in
    record {
      size = r.size;
      piece = r.piece;
      whole = r.whole;
      spelled = record {
        of_shape = subst (All (IsTextOf (Some limit))) (sym column.are)
            (All-map (IsTextOf (Some limit)) text column.entries (λ k d inside. record {
              bytes = _;
              is = refl;
              utf8 = piece.utf8 k d inside;
              within = within k d inside;
            }));
        counts = tt;
        columns = record {
          entries = column.entries;
          are = column.are;
          spelled = record { lengths_piece = piece.lengths_piece; whole = piece.whole; lengths_spelled = spelled; utf8 = piece.utf8 };
        };
      };
    }

-- texts that were read with a limit are within it
pub texts_within : {limit count : ℕ} {input rest : List ℕ} (texts : List (List ℕ)) → Reads (Spells (text_shape (Some limit))) count input (map text texts) rest
    → All (λ t. length t ≤ limit) texts
texts_within {limit} texts r k d inside =
    let t = r.spelled.of_shape k (text d) (omega (arith, length-map texts text)) in
    let same : get_or texts k d ≡ t.bytes = ap text_in (sym (get_or-map text texts k d (text d) inside) ∙ t.is) in
    subst (λ bytes. length bytes ≤ limit) (sym same) t.within

-- texts were read whose lengths break a limit
pub limit_named : {limit count : ℕ} {input short large behind rest : List ℕ} {ds : List Datum} → Reads (Spells (text_shape None)) count input ds rest
    → ReadsParts count input short large behind → (KeepsCap (Some limit) short (lengths_from short large) → ⊥)
    → NamesLimitedTextFault limit InvalidArrayString count input
limit_named {short = short} {large = large} {behind = behind} {rest = rest} {ds = ds} read parts broken =
    over_limit refl (record { texts = ds; rest = rest; read = read; short = short; large = large; behind = behind; parts = parts; broken = broken })

-- what is refused can't be read with the limit
pub limited_refusal : (limit : ℕ) (reason : Reason) (count : ℕ) (input : List ℕ) → NamesLimitedTextFault limit reason count input
    → IsReadingRefusal (text_shape (Some limit)) reason count input
limited_refusal limit reason count input (in_texts fault) =
    let refusal = text_refusal reason count input fault in
    (refusal.0, λ other ds rest r. refusal.1 other ds rest (unlimited r))
limited_refusal limit reason count input (over_limit is over) = (
  subst IsReadingReason (sym is) tt,
  λ other ds rest r.
      cap_refused (Some limit) count input over.short over.large over.behind over.parts over.broken _ _ (lengths_of_reading (texts_of_reading r)),
)
