-- Texts are UTF-8 exactly where their joined bytes are and are cut at characters.
use Rattle.std.proofs.Common.{◌≡◌, ℕ, ◌+◌, ◌-◌, List, [], ◌∷◌, ◌++◌, length, take, drop, All, sum, Bool, true, false, MatchBool, refl, sym, ◌∙◌, ap, subst, arith, append_assoc, length-append}
use Rattle.std.specs.Prelude.{IsUtf8, nat_le, if◌then◌else◌}
use Rattle.std.specs.Str.{IsCharBoundary, IsAscii}
use Rattle.std.proofs.Math.Seq.{take-append_seam, drop-append_seam}
use Rattle.std.proofs.lemmas.List.Elements.{All-nil, All-cons, All-head, All-tail}
use Rattle.std.proofs.lemmas.Str.{IsUtf8-nil, IsUtf8-from_ascii, IsAscii-take, IsAscii-drop, IsUtf8-append, IsUtf8-between, IsCharBoundary-at_seam, IsCharBoundary-start}
use Rattle.bitcode_coder.specs.Cutting.{cut}
use Rattle.bitcode_coder.specs.JoinedTexts.{join, lengths_of, ends_from, IsCutAtChars, AreUtf8AsJoined}
use Rattle.bitcode_coder.proofs.CuttingLemmas.{joined-cut, lengths-cut}

IsUtf8-join : (texts : List (List ℕ)) → All IsUtf8 texts → IsUtf8 (join texts)
IsUtf8-join [] each = IsUtf8-nil
IsUtf8-join (text ∷ texts) each =
    IsUtf8-append text (join texts) (All-head IsUtf8 text texts each) (IsUtf8-join texts (All-tail IsUtf8 text texts each))

-- one text more stands in front
behind : (front text : List ℕ) (texts : List (List ℕ)) → front ++ join (text ∷ texts) ≡ (front ++ text) ++ join texts
behind front text texts = sym (append_assoc front text (join texts))

ends-join : (bytes front : List ℕ) (texts : List (List ℕ)) → bytes ≡ front ++ join texts → All IsUtf8 texts
    → All (IsCharBoundary bytes) (ends_from (length front) (lengths_of texts))
ends-join bytes front [] whole each = All-nil (IsCharBoundary bytes)
ends-join bytes front (text ∷ texts) whole each =
    let later = All-tail IsUtf8 text texts each in
    let seam : bytes ≡ (front ++ text) ++ join texts = whole ∙ behind front text texts in
    let end : length (front ++ text) ≡ length front + length text = length-append front text in
    subst (λ start. All (IsCharBoundary bytes) (start ∷ ends_from start (lengths_of texts))) end
    (All-cons (IsCharBoundary bytes) (length (front ++ text)) (ends_from (length (front ++ text)) (lengths_of texts))
    (IsCharBoundary-at_seam bytes (front ++ text) (join texts) seam (IsUtf8-join texts later)) (ends-join bytes (front ++ text) texts seam later))

each-cut : (bytes front : List ℕ) (texts : List (List ℕ)) → bytes ≡ front ++ join texts → IsUtf8 bytes → IsCharBoundary bytes (length front)
    → All (IsCharBoundary bytes) (ends_from (length front) (lengths_of texts)) → All IsUtf8 texts
each-cut bytes front [] whole utf8 start ends = All-nil IsUtf8
each-cut bytes front (text ∷ texts) whole utf8 start ends =
    let end = All-head (IsCharBoundary bytes) (length front + length text) (ends_from (length front + length text) (lengths_of texts)) ends in
    let later = All-tail (IsCharBoundary bytes) (length front + length text) (ends_from (length front + length text) (lengths_of texts)) ends in
    let seam : bytes ≡ (front ++ text) ++ join texts = whole ∙ behind front text texts in
    let same : length front + length text ≡ length (front ++ text) = sym (length-append front text) in
    let piece : take (length front + length text - length front) (drop (length front) bytes) ≡ text =
    ap (λ rest. take (length front + length text - length front) rest) (ap (drop (length front)) whole ∙ drop-append_seam front (text ++ join texts))
    ∙ (ap (λ n. take n (text ++ join texts)) (omega arith) ∙ take-append_seam text (join texts)) in
    All-cons IsUtf8 text texts
    (subst IsUtf8 piece (IsUtf8-between bytes (length front) (length front + length text) utf8 (omega arith) start end))
    (each-cut bytes (front ++ text) texts seam utf8 (subst (IsCharBoundary bytes) same end)
    (subst (λ n. All (IsCharBoundary bytes) (ends_from n (lengths_of texts))) same later))

pub are_utf8_as_joined : (texts : List (List ℕ)) → AreUtf8AsJoined texts
are_utf8_as_joined texts = (
  λ each. record { whole = IsUtf8-join texts each; ends = ends-join (join texts) [] texts refl each },
  λ cuts. each-cut (join texts) [] texts refl cuts.whole (IsCharBoundary-start (join texts) cuts.whole) cuts.ends,
)

-- the same of the pieces of bytes
pub pieces_are_utf8 : (lengths bytes : List ℕ) → sum lengths ≡ length bytes → IsCutAtChars bytes lengths → All IsUtf8 (cut lengths bytes)
pieces_are_utf8 lengths bytes all cuts =
    (are_utf8_as_joined (cut lengths bytes)).1
    (subst (λ whole. IsCutAtChars whole (lengths_of (cut lengths bytes))) (sym (joined-cut lengths bytes all))
    (subst (IsCutAtChars bytes) (sym (lengths-cut lengths bytes (omega arith))) cuts))

pub cut_at_chars : (lengths bytes : List ℕ) → sum lengths ≡ length bytes → All IsUtf8 (cut lengths bytes) → IsCutAtChars bytes lengths
cut_at_chars lengths bytes all each =
    subst (IsCutAtChars bytes) (lengths-cut lengths bytes (omega arith))
    (subst (λ whole. IsCutAtChars whole (lengths_of (cut lengths bytes))) (joined-cut lengths bytes all)
    ((are_utf8_as_joined (cut lengths bytes)).0 each))

-- a test for one of two statements that imply one another is a test for the other
pub same_answer : {P Q : Type 0} (answer : Bool) → (P → Q) → (Q → P) → MatchBool answer P (P → ⊥) → MatchBool answer Q (Q → ⊥)
same_answer true there back p = there p
same_answer false there back not_p = λ q. not_p (back q)

cut_or_none : (fits : Bool) (texts : List (List ℕ)) → All IsUtf8 texts → All IsUtf8 (if fits then texts else [])
cut_or_none true texts each = each
cut_or_none false texts each = All-nil IsUtf8

-- an ASCII text may be cut anywhere
pub ascii_pieces : (lengths bytes : List ℕ) → IsAscii bytes → All IsUtf8 (cut lengths bytes)
ascii_pieces [] bytes ascii = All-nil IsUtf8
ascii_pieces (n ∷ ns) bytes ascii =
    cut_or_none (nat_le n (length bytes)) (take n bytes ∷ cut ns (drop n bytes))
    (All-cons IsUtf8 (take n bytes) (cut ns (drop n bytes)) (IsUtf8-from_ascii (take n bytes) (IsAscii-take bytes n ascii)) (ascii_pieces ns (drop n bytes) (IsAscii-drop bytes n ascii)))
