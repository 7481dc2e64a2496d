-- A whole input is made one value.
use Rattle.std.proofs.Common.{◌≡◌, ◌≢◌, ◌+◌, arith, ℕ, Bool, Some, true, false, List, [], ◌∷◌, refl, sym, ap, subst, ◌∙◌}
use Rattle.std.proofs.lemmas.List.{append-nil}
use Rattle.std.proofs.lemmas.List.Elements.{All-cons, All-nil}
use Rattle.bitcode_memory.specs.declared.error.Reason.{Reason}
use Rattle.bitcode_memory.specs.declared.error.Reason.TheVariants.{OutOfMemory}
use Rattle.bitcode_columns.specs.Reading.{Reads}
use Rattle.bitcode_shapes.specs.Datum.{Datum, data_of}
use Rattle.bitcode_shapes.specs.Lawful.{Lawful}
use Rattle.bitcode_shapes.specs.Shape.{Shape, IsOf}
use Rattle.bitcode_coder.specs.ColumnFree.{saturated}
use Rattle.bitcode_coder.specs.Spelling.{Spells}
use Rattle.bitcode_coder.proofs.LawLemmas.{texts_of-spread}
use Rattle.bitcode_coder.proofs.LengthRefusalLemmas.{reads_once}
use Rattle.bitcode_coder.proofs.SpellingLemmas.{Spells-unambiguous, columns_bytes-spells}
use Rattle.bitcode_derive.specs.Strict.{StrictlySpellsDatum}
use Rattle.bitcode_derive.specs.Whole.{HasShortLengths, IsEncodingOf, SpellsDatum, NamesWholeFault, in_columns, bytes_left, in_making, want_of_memory}
use Rattle.bitcode_derive.proofs.DecodingLemmas.{spells_at_most_one}
use Rattle.bitcode_untyped.specs.Nodes.{node_count, node_counts}
use Rattle.bitcode_schema.specs.Counting.{CountsNodes}
use Rattle.bitcode_schema.specs.Decoding.{IsDecodingUnder, IsStrictDecodingUnder}
use Rattle.bitcode_derive.proofs.RoundTripLemmas.{written_spells}
use Rattle.bitcode_schema.specs.Depth.{has_few_variants}
use Rattle.bitcode_schema.specs.Encoding.{HasDatum, IsEncodingOf as IsEncodingUnder}
use Rattle.bitcode_schema.specs.Forms.{content_under, shape_of}
use Rattle.bitcode_schema.specs.Making.{MakesData}
use Rattle.bitcode_schema.specs.Views.{Hold}
use Rattle.bitcode_schema.specs.declared.schema.SchemaNode.{SchemaNode}
use Rattle.bitcode_schema.proofs.SoundLemmas.{sound_node}
use Rattle.bitcode_untyped.specs.declared.value.Value.{Value}

module _ (node : SchemaNode) (bytes : List ℕ) where
  -- the only value that is made holds the only datum
  pub one_made : (d : Datum) → SpellsDatum (shape_of node) bytes d → (rest : List ℕ) (values left : List Value) (value : Value)
      → MakesData (shape_of node) (content_under node) 1 bytes rest values → values ≡ value ∷ left → IsDecodingUnder node bytes value
  one_made d spelled rest values left value m first =
      let whole : Reads (Spells (shape_of node)) 1 bytes (d ∷ []) [] = record { size = refl; piece = bytes; whole = sym (append-nil bytes); spelled = spelled } in
      let same = reads_once (Spells-unambiguous (shape_of node)) m.read whole in
      let held : Hold (content_under node) (value ∷ left) (d ∷ []) = subst (λ vs. Hold (content_under node) vs (d ∷ [])) first
      (subst (Hold (content_under node) values) same.0 m.made) in
      record { datum = d; spelled = spelled; made = held.0 }

  pub strictly_made : (d : Datum) → StrictlySpellsDatum (shape_of node) bytes d → SpellsDatum (shape_of node) bytes d → (value : Value)
      → IsDecodingUnder node bytes value → IsStrictDecodingUnder node bytes value
  strictly_made d strict spelled value m =
      let same : m.datum ≡ d = spells_at_most_one (shape_of node) bytes m.datum d m.spelled spelled in
      record { datum = d; spelled = strict; made = subst (λ e. content_under node value ≡ Some e) same m.made }

  pub one_counted : (d : Datum) → SpellsDatum (shape_of node) bytes d → (rest : List ℕ) (nodes : ℕ) → CountsNodes (shape_of node) 1 bytes rest nodes
      → saturated nodes ≡ saturated (node_count d)
  one_counted d spelled rest nodes m =
      let whole : Reads (Spells (shape_of node)) 1 bytes (d ∷ []) [] = record { size = refl; piece = bytes; whole = sym (append-nil bytes); spelled = spelled } in
      let same = reads_once (Spells-unambiguous (shape_of node)) m.read whole in
      let one : node_counts (data_of m.found) ≡ node_count d + 0 = ap (λ ds. node_counts (data_of ds)) same.0 in
      m.counted ∙ ap saturated (let e : node_counts (data_of m.found) ≡ node_count d = omega (arith, one) in e)

-- a fault that a check names is a fault of decoding
pub named_in_decoding : (shape : Shape) (bytes : List ℕ) (reason : Reason) → NamesWholeFault true shape reason bytes → NamesWholeFault false shape reason bytes
named_in_decoding shape bytes reason (in_columns fault) = in_columns fault
named_in_decoding shape bytes reason (bytes_left is left) = bytes_left is left
named_in_decoding shape bytes reason (in_making is free d s) = absurd (free refl)

-- ---- what was written

module _ (node : SchemaNode) (few : has_few_variants node ≡ true) (value : Value) (bytes : List ℕ) (written : IsEncodingUnder node value bytes)
    (short : HasShortLengths (HasDatum node) (shape_of node) value) where
  spells_written : SpellsDatum (shape_of node) bytes written.datum
  spells_written =
      let shape = shape_of node in
      let d = written.datum in
      subst (λ b. Spells shape b (d ∷ [])) (texts_of-spread shape (d ∷ []) ∙ sym written.written)
      (columns_bytes-spells shape (sound_node node few) (d ∷ []) (All-cons (IsOf shape) d [] written.has.of_shape (All-nil (IsOf shape))) written.counts
      (short d written.has))

  pub same_content : (again : Value) → IsDecodingUnder node bytes again → content_under node again ≡ content_under node value
  same_content again m =
      let is : m.datum ≡ written.datum = spells_at_most_one (shape_of node) bytes m.datum written.datum m.spelled spells_written in
      m.made ∙ ap Some is ∙ sym written.has.content

  pub for_memory : (reason : Reason) → (reason ≢ OutOfMemory → (d : Datum) → SpellsDatum (shape_of node) bytes d → ⊥) → reason ≡ OutOfMemory
  for_memory reason none = want_of_memory reason (λ other. none other written.datum spells_written)

-- a value of a type was written, and is read by a schema
module _ {T : Type 0} {shape : Shape} {is_value : T → Type 0} {lists : T → Datum → Type 0} {same : T → T → Type 0} {in_order : Bool}
    (lawful : Lawful shape is_value lists same in_order) (t : T) (told : is_value t) (node : SchemaNode) (is : shape ≡ shape_of node) (bytes : List ℕ)
    (written : IsEncodingOf lists shape t bytes) (short : HasShortLengths lists shape t) where
  spells_listing : SpellsDatum (shape_of node) bytes written.datum
  spells_listing = subst (λ s. SpellsDatum s bytes written.datum) is (written_spells lawful t bytes told written (short written.datum written.listing))

  pub content_listed : (again : Value) → IsDecodingUnder node bytes again → (d : Datum) × (lists t d × (content_under node again ≡ Some d))
  content_listed again m =
      let one : m.datum ≡ written.datum = spells_at_most_one (shape_of node) bytes m.datum written.datum m.spelled spells_listing in
      (written.datum, (written.listing, m.made ∙ ap Some one))

  pub listing_for_memory : (reason : Reason) → (reason ≢ OutOfMemory → (d : Datum) → SpellsDatum (shape_of node) bytes d → ⊥) → reason ≡ OutOfMemory
  listing_for_memory reason none = want_of_memory reason (λ other. none other written.datum spells_listing)
