-- Options, results and enums as choices.
use Rattle.std.proofs.Common.{◌≡◌, ◌<◌, ◌≤◌, ◌+◌, ◌++◌, ℕ, zero, suc, Option, Some, None, List, [], ◌∷◌, length, map, slice_get, take, get_or, Global, true, All, refl, sym, ap, subst, ◌∙◌, ◌==◌, arith}
use Rattle.std.proofs.Math.ListN.{get_or-map}
use Rattle.std.proofs.lemmas.List.{length-map, length-take-le, map-append}
use Rattle.std.proofs.lemmas.List.Folds.{list_all-map}
use Rattle.std.proofs.lemmas.List.Sums.{AllPass-from_list_all}
use Rattle.std.proofs.lemmas.Option.{slice_get-map, slice_get_read}
use Rattle.std.specs.List.{list_all}
use Rattle.std.specs.declared.string.String.{String}
use Rattle.std.proofs.lemmas.List.Elements.{All-nil, All-cons, All-head, All-tail, All-map}
use Rattle.std.specs.Option.{option_map}
use Rattle.bitcode_columns.specs.VariantColumn.{variant_text}
use Rattle.bitcode_shapes.specs.Datum.{Datum, unit}
use Rattle.bitcode_shapes.specs.Shape.{Shape, IsOf, unit_shape, never_shape, choice_shape, no_shapes, shape_and}
use Rattle.bitcode_untyped.specs.declared.value.Value.{Value}
use Rattle.bitcode_schema.specs.Choosing.{Payload, shapes_from, payload_of, chosen, of_variant, WritesPayloads, option_variant, none_content, some_content}
use Rattle.bitcode_coder.proofs.EachLemmas.{parts_more}
use Rattle.bitcode_schema.specs.Depth.{depth, greatest, has_few_variants}
use Rattle.bitcode_schema.specs.Forms.{Content, choice_content, chosen_content, enum_content, enum_shape, parts_of, shape_of, shapes_of}
use Rattle.bitcode_schema.specs.Parts.{contents_of, option_content, payload_under, payloads_under}
use Rattle.bitcode_schema.specs.Views.{Hold, option_of, payload_in, variant_in, under}
use Rattle.bitcode_schema.specs.Writing.{Writes, HasStranger}
use Rattle.bitcode_schema.specs.declared.schema.SchemaNode.{SchemaNode}
use Rattle.bitcode_schema.proofs.ChoiceWritingLemmas.{writes_choices, stranger_of_variant, filter-first, is_itself}
use Rattle.bitcode_schema.proofs.HoldLemmas.{hold_map, map_hold}
use Rattle.bitcode_schema.proofs.SeenLemmas.{writes_seen, stranger_seen, writes_as, stranger_as, writes_mapped, stranger_mapped, writes_where, stranger_where}
use Rattle.bitcode_schema.proofs.UnitLemmas.{units_written}

-- ---- the payloads of variants, one after another

module _ {A : Type 0} (variant : A → ℕ) where
  pub one_more : (ps : List (Payload A)) (k : ℕ) (p : Payload A) (items : List A) (old middle new : List ℕ) → WritesPayloads variant ps k items old middle
      → Writes p.content p.shape (of_variant variant (k + length ps) items) middle new → WritesPayloads variant (ps ++ p ∷ []) k items old new
  one_more [] k p items old middle new w x =
      let here : k + 0 ≡ k = omega arith in
      (new, (subst (λ n. Writes p.content p.shape (of_variant variant n items) old new) here (subst (λ m. Writes p.content p.shape (of_variant variant (k + 0) items) m new) w x), refl))
  one_more (q ∷ ps) k p items old middle new w x =
      let next : k + suc (length ps) ≡ suc k + length ps = omega arith in
      (w.0, (w.1.0, one_more ps (suc k) p items w.0 middle new w.1.1 (subst (λ n. Writes p.content p.shape (of_variant variant n items) middle new) next x)))

-- ---- options

abbrev option_payloads : Content → Shape → List (Payload (Option Value))
option_payloads content s = record { content = none_content; shape = unit_shape } ∷ record { content = some_content content; shape = s } ∷ []

option_chosen : (content : Content) (s : Shape) (o : Option Value) → chosen option_variant (option_payloads content s) o ≡ option_content content o
option_chosen content s None = refl
option_chosen content s (Some v) = refl

nones_are : (os : List (Option Value)) → All (λ o. none_content o ≡ Some unit) (of_variant option_variant 0 os)
nones_are [] k d lt = absurd (omega (arith, lt))
nones_are (None ∷ os) zero d lt = refl
nones_are (None ∷ os) (suc k) d lt = nones_are os k d (let h : suc k < suc (length (of_variant option_variant 0 os)) = lt in omega arith)
nones_are (Some v ∷ os) k d lt = nones_are os k d lt

option_below : (o : Option Value) → option_variant o < 2
option_below None = omega arith
option_below (Some v) = omega arith

pub options_below : (os : List (Option Value)) → All (λ v. v < 2) (map option_variant os)
options_below os = All-map (λ v. v < 2) option_variant os (λ k d lt. option_below (get_or os k d))

module _ (content : Content) (s : Shape) (vs : List Value) (os : List (Option Value)) (h : Hold option_of vs os) (parts : List Value)
    (are : of_variant option_variant 1 os ≡ map (λ v. Some v) parts) where
  pub whole_options : (old middle new : List ℕ) → middle ≡ old ++ variant_text 2 (map option_variant os) → Writes content s parts middle new
      → Writes (λ v. under (option_of v) (option_content content)) (choice_shape (shape_and unit_shape (shape_and s no_shapes))) vs old new
  whole_options old middle new variants w =
      let first = units_written none_content (of_variant option_variant 0 os) middle (nones_are os) in
      let second = subst (λ xs. Writes (some_content content) s xs middle new) (sym are) (writes_some parts middle new w) in
      writes_seen option_of (option_content content) (choice_shape (shape_and unit_shape (shape_and s no_shapes))) vs os h old new
      (writes_as (chosen option_variant (option_payloads content s)) (option_content content) (option_chosen content s)
      (choice_shape (shapes_from (option_payloads content s))) (choice_shape (shape_and unit_shape (shape_and s no_shapes))) refl os old new
      (writes_choices option_variant (option_payloads content s) os old middle new (λ k d lt. option_below (get_or os k d)) variants
      (middle, (first, (new, (second, refl))))))
    where
      writes_some : (ps : List Value) (a b : List ℕ) → Writes content s ps a b → Writes (some_content content) s (map (λ v. Some v) ps) a b
      writes_some ps a b x = record {
        contents = x.contents;
        are = record { held = map_hold (some_content content) (λ v. Some v) ps x.contents x.are.held; of_shape = x.are.of_shape };
        counts = x.counts;
        written = x.written;
      }

  pub stranger_option : HasStranger content s parts
      → HasStranger (λ v. under (option_of v) (option_content content)) (choice_shape (shape_and unit_shape (shape_and s no_shapes))) vs
  stranger_option stranger =
      stranger_seen option_of (option_content content) (choice_shape (shape_and unit_shape (shape_and s no_shapes))) vs os h
      (stranger_as (chosen option_variant (option_payloads content s)) (option_content content) (option_chosen content s)
      (choice_shape (shapes_from (option_payloads content s))) (choice_shape (shape_and unit_shape (shape_and s no_shapes))) refl os
      (stranger_of_variant option_variant (option_payloads content s) os 1 (record { content = some_content content; shape = s }) refl
      (subst (HasStranger (some_content content) s) (sym are)
      (λ ds of. stranger ds (record { held = hold_map (some_content content) (λ v. Some v) parts ds of.held; of_shape = of.of_shape })))))

-- ---- enums

chosen_payload : (nodes : List SchemaNode) (i j : ℕ) (e : ℕ × Value) → payload_of (slice_get (payloads_under nodes) j) i e ≡ chosen_content (slice_get (contents_of nodes) j) i (payload_in e)
chosen_payload [] i j e = refl
chosen_payload (n ∷ nodes) i zero e = refl
chosen_payload (n ∷ nodes) i (suc j) e = chosen_payload nodes i j e

pub chosen_node : (nodes : List SchemaNode) (e : ℕ × Value) → chosen variant_in (payloads_under nodes) e ≡ choice_content (contents_of nodes) e.0 e.1
chosen_node nodes e = chosen_payload nodes (variant_in e) (variant_in e) e

pub node_shapes : (nodes : List SchemaNode) → shapes_from (payloads_under nodes) ≡ shapes_of (map shape_of nodes)
node_shapes [] = refl
node_shapes (n ∷ nodes) = ap (shape_and (shape_of n)) (node_shapes nodes)

pub payload_there : (nodes : List SchemaNode) (i : ℕ) (n : SchemaNode) → slice_get nodes i ≡ Some n → slice_get (payloads_under nodes) i ≡ Some (payload_under n)
payload_there [] i n e = cc
payload_there (m ∷ nodes) zero n e = ap (λ o. option_map payload_under o) e
payload_there (m ∷ nodes) (suc i) n e = payload_there nodes i n e

-- one variant
all_first : (items : List (ℕ × Value)) → All (λ e. variant_in e < 1) items → of_variant variant_in 0 items ≡ items
all_first [] each = refl
all_first (e ∷ items) each =
    let here : variant_in e ≡ 0 = let h = All-head (λ f. variant_in f < 1) e items each in omega (arith, h) in
    filter-first (λ f. variant_in f == 0) e items (ap (λ n. n == 0) here ∙ is_itself 0)
    ∙ ap (λ es. e ∷ es) (all_first items (All-tail (λ f. variant_in f < 1) e items each))

single_content : (content : Content) (e : ℕ × Value) → variant_in e < 1 → content (payload_in e) ≡ enum_content (content ∷ []) e.0 e.1
single_content content (zero, v) lt = refl
single_content content (suc i, v) lt = absurd (omega (arith, lt))

single_below : (content : Content) (e : ℕ × Value) (d : Datum) → enum_content (content ∷ []) e.0 e.1 ≡ Some d → variant_in e < 1
single_below content (zero, v) d is = omega arith
single_below content (suc i, v) d is = cc

module _ (content : Content) (s : Shape) (items : List (ℕ × Value)) where
  singles_below : (ds : List Datum) → Hold (λ e. enum_content (content ∷ []) e.0 e.1) items ds → All (λ e. variant_in e < 1) items
  singles_below ds h = below_each items ds h
    where
      below_each : (es : List (ℕ × Value)) (ds : List Datum) → Hold (λ e. enum_content (content ∷ []) e.0 e.1) es ds → All (λ e. variant_in e < 1) es
      below_each [] ds h = All-nil (λ e. variant_in e < 1)
      below_each (e ∷ es) [] h = absurd h
      below_each (e ∷ es) (d ∷ ds) h = All-cons (λ f. variant_in f < 1) e es (single_below content e d h.0) (below_each es ds h.1)

  pub stranger_single : (All (λ e. variant_in e < 1) items → ⊥) → HasStranger (λ e. enum_content (content ∷ []) e.0 e.1) s items
  stranger_single other ds are = other (singles_below ds are.held)

  module _ (below : All (λ e. variant_in e < 1) items) (parts : List Value) (are : parts ≡ map payload_in (of_variant variant_in 0 items)) where
    pub writes_single : (old new : List ℕ) → Writes content s parts old new → Writes (λ e. enum_content (content ∷ []) e.0 e.1) s items old new
    writes_single old new w =
        writes_where (λ e. content (payload_in e)) (λ e. enum_content (content ∷ []) e.0 e.1) s items
        (λ k d lt. single_content content (get_or items k d) (below k d lt)) old new
        (writes_mapped content payload_in s items parts (are ∙ ap (map payload_in) (all_first items below)) old new w)

    pub stranger_of_single : HasStranger content s parts → HasStranger (λ e. enum_content (content ∷ []) e.0 e.1) s items
    stranger_of_single stranger =
        stranger_where (λ e. content (payload_in e)) (λ e. enum_content (content ∷ []) e.0 e.1) s items
        (λ k d lt. single_content content (get_or items k d) (below k d lt))
        (stranger_mapped content payload_in s items parts (are ∙ ap (map payload_in) (all_first items below)) stranger)

-- no variant, and several
pub several : (nodes : List SchemaNode) → 2 ≤ length nodes → (e : ℕ × Value) → choice_content (contents_of nodes) e.0 e.1 ≡ enum_content (contents_of nodes) e.0 e.1
several [] most e = absurd (omega (arith, most))
several (n ∷ []) most e = absurd (omega (arith, most))
several (n ∷ m ∷ nodes) most e = refl

pub several_shape : (nodes : List SchemaNode) → 2 ≤ length nodes → choice_shape (shapes_of (map shape_of nodes)) ≡ enum_shape (map shape_of nodes)
several_shape [] most = absurd (omega (arith, most))
several_shape (n ∷ []) most = absurd (omega (arith, most))
several_shape (n ∷ m ∷ nodes) most = refl

-- ---- nodes

pub payloads_more : {R : Type 0} (seen : R → SchemaNode) (refs : List R) (i : ℕ) (r : R) → i < length refs → r ≡ get_or refs i r
    → payloads_under (map seen (take (i + 1) refs)) ≡ payloads_under (map seen (take i refs)) ++ payload_under (seen r) ∷ []
payloads_more seen refs i r here is = ap payloads_under (parts_more seen refs i r here is) ∙ map-append payload_under (map seen (take i refs)) (seen r ∷ [])

pub payloads_count : {R : Type 0} (seen : R → SchemaNode) (refs : List R) (i : ℕ) → i ≤ length refs → length (payloads_under (map seen (take i refs))) ≡ i
payloads_count seen refs i most = length-map (map seen (take i refs)) payload_under ∙ length-map (take i refs) seen ∙ length-take-le i refs most

pub payload_of_node : {R : Type 0} (seen : R → SchemaNode) (refs : List R) (i : ℕ) (r : R) → i < length refs → r ≡ get_or refs i r
    → slice_get (payloads_under (map seen refs)) i ≡ Some (payload_under (seen r))
payload_of_node seen refs i r here is =
    payload_there (map seen refs) i (seen r) (slice_get-map seen refs i ∙ ap (option_map seen) (slice_get_read refs (length refs) i r refl here is))

pub one_of : {R : Type 0} (seen : R → SchemaNode) (refs : List R) (i : ℕ) (r : R) → i < length refs → r ≡ get_or refs i r
    → get_or (map seen refs) i (seen r) ≡ seen r
one_of seen refs i r here is = get_or-map seen refs i r ∙ ap seen (sym is)

pub greatest_at : (ns : List ℕ) (i d : ℕ) → i < length ns → get_or ns i d ≤ greatest ns
greatest_at [] i d here = absurd (omega (arith, here))
greatest_at (n ∷ ns) zero d here = grind arith
greatest_at (n ∷ ns) (suc i) d here = let rest = greatest_at ns i d (let h : suc i < suc (length ns) = here in omega arith) in grind (arith, rest)

pub depth_at : {R : Type 0} (seen : R → SchemaNode) (refs : List R) (i : ℕ) (r : R) → i < length refs → r ≡ get_or refs i r
    → depth (seen r) ≤ greatest (map depth (map seen refs))
depth_at seen refs i r here is =
    let there : get_or (map depth (map seen refs)) i (depth (seen r)) ≡ depth (seen r) = get_or-map depth (map seen refs) i (seen r) ∙ ap depth (one_of seen refs i r here is) in
    let size : i < length (map depth (map seen refs)) = omega (arith, here, length-map (map seen refs) depth, length-map refs seen) in
    subst (λ n. n ≤ greatest (map depth (map seen refs))) there (greatest_at (map depth (map seen refs)) i (depth (seen r)) size)

pub few_nodes : (nodes : List SchemaNode) → list_all has_few_variants nodes ≡ true → All (λ n. has_few_variants n ≡ true) nodes
few_nodes nodes few = AllPass-from_list_all has_few_variants nodes few

pub few_parts : (named : List (String Global × SchemaNode)) → list_all (λ p. has_few_variants p.1) named ≡ true
    → All (λ n. has_few_variants n ≡ true) (parts_of named)
few_parts named few = few_nodes (parts_of named) (list_all-map has_few_variants (λ p. p.1) named ∙ few)

-- no value has a node without values
pub stranger_never : {A : Type 0} (content : A → Option Datum) (xs : List A) → 0 < length xs → HasStranger content never_shape xs
stranger_never content [] some ds are = absurd (omega (arith, some))
stranger_never content (x ∷ xs) some [] are = absurd are.held
stranger_never content (x ∷ xs) some (d ∷ ds) are = absurd (All-head (IsOf never_shape) d ds are.of_shape)
