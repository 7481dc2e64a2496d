-- The shape of a node whose enums have few variants is sound.
use Rattle.std.proofs.Common.{◌≡◌, ℕ, zero, suc, ◌/◌, ◌≤◌, ◌&&◌, Bool, true, false, List, [], ◌∷◌, length, map, take, drop, refl, sym, ap, ◌∙◌, arith}
use Rattle.std.specs.List.{list_all, AllByRecursion}
use Rattle.std.proofs.lemmas.Bool.{leb-true}
use Rattle.std.proofs.lemmas.List.{length-map}
use Rattle.std.specs.declared.alloc.Global.{Global}
use Rattle.std.specs.declared.string.String.{String}
use Rattle.bitcode_shapes.specs.LawfulInts.{width_1, width_2, width_4, width_8, width_16}
use Rattle.bitcode_shapes.specs.Shape.{Shape, IsSound, AreSound, IsNumberWidth, unit_shape, pair_shape}
use Rattle.bitcode_schema.specs.Depth.{has_few_variants, few_variants_step, most_variants}
use Rattle.bitcode_schema.specs.Forms.{Form, form_of, form_step, shape_of, shape_step, enum_shape, shapes_of, shapes_in, parts_of}
use Rattle.bitcode_schema.specs.Halves.{halved_within}
use Rattle.bitcode_schema.specs.Leaves.{width_of}
use Rattle.bitcode_schema.specs.declared.schema.IntKind.{IntKind}
use Rattle.bitcode_schema.specs.declared.schema.IntKind.TheVariants as int
use Rattle.bitcode_schema.specs.declared.schema.SchemaNode.{SchemaNode}
use Rattle.bitcode_schema.specs.declared.schema.SchemaNode.TheOpen.{SchemaNode-F}
use Rattle.bitcode_schema.specs.declared.schema.SchemaNode.TheViews.{roll-SchemaNode}
use Rattle.bitcode_schema.specs.declared.schema.SchemaNode.TheFolds.{fold-roll-SchemaNode, map-SchemaNode, ind-SchemaNode}
use Rattle.bitcode_schema.proofs.ChoiceLemmas.{count_shapes}

first_true : (a b : Bool) → (a && b) ≡ true → a ≡ true
first_true true b h = refl
first_true false b h = absurd cc

second_true : (a b : Bool) → (a && b) ≡ true → b ≡ true
second_true true b h = h
second_true false b h = absurd cc

-- ---- several shapes

all_take : (n : ℕ) (ss : List Shape) → AllByRecursion IsSound ss → AllByRecursion IsSound (take n ss)
all_take zero ss all = tt
all_take (suc n) [] all = tt
all_take (suc n) (s ∷ ss) all = (all.0, all_take n ss all.1)

all_drop : (n : ℕ) (ss : List Shape) → AllByRecursion IsSound ss → AllByRecursion IsSound (drop n ss)
all_drop zero ss all = all
all_drop (suc n) [] all = tt
all_drop (suc n) (s ∷ ss) all = all_drop n ss all.1

sound_halves : (ss : List Shape) (most : ℕ) → AllByRecursion IsSound ss → IsSound (halved_within unit_shape pair_shape ss most)
sound_halves [] most all = tt
sound_halves (s ∷ []) most all = all.0
sound_halves (s ∷ t ∷ ss) zero all = tt
sound_halves (s ∷ t ∷ ss) (suc most) all =
    let half = length (s ∷ t ∷ ss) / 2 in
    (sound_halves (take half (s ∷ t ∷ ss)) most (all_take half (s ∷ t ∷ ss) all), sound_halves (drop half (s ∷ t ∷ ss)) most (all_drop half (s ∷ t ∷ ss) all))

sound_shapes : (ss : List Shape) → AllByRecursion IsSound ss → AreSound (shapes_of ss)
sound_shapes [] all = tt
sound_shapes (s ∷ ss) all = (all.0, sound_shapes ss all.1)

sound_enum : (ss : List Shape) → length ss ≤ most_variants → AllByRecursion IsSound ss → IsSound (enum_shape ss)
sound_enum [] few all = tt
sound_enum (s ∷ []) few all = all.0
sound_enum (s ∷ t ∷ ss) few all = let e = count_shapes ss in (omega arith, omega (arith, e, few), sound_shapes (s ∷ t ∷ ss) all)

sound_width : (kind : IntKind) → IsNumberWidth (width_of kind)
sound_width int.U8 = width_1
sound_width int.U16 = width_2
sound_width int.U32 = width_4
sound_width int.U64 = width_8
sound_width int.U128 = width_16
sound_width int.I8 = width_1
sound_width int.I16 = width_2
sound_width int.I32 = width_4
sound_width int.I64 = width_8
sound_width int.I128 = width_16

-- ---- nodes

abbrev Sound : SchemaNode → Type 0
Sound n = has_few_variants n ≡ true → IsSound (shape_of n)

abbrev Known : Type 0
Known = (n : SchemaNode) × Sound n

abbrev node_of : Known → SchemaNode
node_of k = k.0

abbrev fews : List SchemaNode → List Bool
fews ns = map has_few_variants ns

abbrev forms : List SchemaNode → List Form
forms ns = map form_of ns

sound_each : (ks : List Known) → list_all (λ few. few) (fews (map node_of ks)) ≡ true → AllByRecursion IsSound (shapes_in (forms (map node_of ks)))
sound_each [] all = tt
sound_each (k ∷ ks) all = (k.1 (first_true _ _ all), sound_each ks (second_true _ _ all))

-- the named ones
abbrev named : {A B : Type 0} → (A → B) → List (String Global × A) → List (String Global × B)
named f parts = map (λ p. (p.0, f p.1)) parts

sound_parts : (ks : List (String Global × Known)) → list_all (λ few. few) (parts_of (named has_few_variants (named node_of ks))) ≡ true
    → AllByRecursion IsSound (shapes_in (parts_of (named form_of (named node_of ks))))
sound_parts [] all = tt
sound_parts (k ∷ ks) all = (k.1.1 (first_true _ _ all), sound_parts ks (second_true _ _ all))

abbrev layer : SchemaNode-F Known → SchemaNode-F SchemaNode
layer y = map-SchemaNode Known SchemaNode node_of y

sound_layer : (y : SchemaNode-F Known) → few_variants_step (map-SchemaNode SchemaNode Bool has_few_variants (layer y)) ≡ true
    → IsSound (shape_step (map-SchemaNode SchemaNode Form form_of (layer y)))
sound_layer SchemaNode-F.Unit few = tt
sound_layer SchemaNode-F.Never few = tt
sound_layer SchemaNode-F.Bool few = tt
sound_layer SchemaNode-F.Char few = width_4
sound_layer (SchemaNode-F.Int kind) few = sound_width kind
sound_layer (SchemaNode-F.NonZero kind) few = sound_width kind
sound_layer SchemaNode-F.F32 few = tt
sound_layer SchemaNode-F.F64 few = tt
sound_layer (SchemaNode-F.Str capacity) few = tt
sound_layer SchemaNode-F.Duration few = (width_8, width_4)
sound_layer SchemaNode-F.Uuid few = width_1
sound_layer (SchemaNode-F.List capacity element) few = element.value.1 few
sound_layer (SchemaNode-F.Map key value) few = (key.value.1 (first_true _ _ few), value.value.1 (second_true _ _ few))
sound_layer (SchemaNode-F.Array count element) few = element.value.1 few
sound_layer (SchemaNode-F.Tuple fields) few = sound_halves _ _ (sound_each fields.items few)
sound_layer (SchemaNode-F.Struct fields) few = sound_halves _ _ (sound_parts fields.items few)
sound_layer (SchemaNode-F.Option some) few = (omega arith, omega arith, (tt, (some.value.1 few, tt)))
sound_layer (SchemaNode-F.Result ok err) few =
    (omega arith, omega arith, (ok.value.1 (first_true _ _ few), (err.value.1 (second_true _ _ few), tt)))
sound_layer (SchemaNode-F.Enum variants) few =
    let ks = variants.items in
    let many : length (shapes_in (parts_of (named form_of (named node_of ks)))) ≡ length (named has_few_variants (named node_of ks)) =
    length-map _ _ ∙ length-map _ _ ∙ length-map _ _ ∙ sym (length-map _ _) in
    let most : length (named has_few_variants (named node_of ks)) ≤ most_variants = leb-true _ _ (first_true _ _ few) in
    sound_enum _ (omega (arith, many, most)) (sound_parts ks (second_true _ _ few))

pub sound_node : (n : SchemaNode) → has_few_variants n ≡ true → IsSound (shape_of n)
sound_node = ind-SchemaNode Sound (λ x y is few.
    let step : has_few_variants (roll-SchemaNode x) ≡ few_variants_step (map-SchemaNode SchemaNode Bool has_few_variants (layer y)) =
    fold-roll-SchemaNode Bool few_variants_step x ∙ ap (λ z. few_variants_step (map-SchemaNode SchemaNode Bool has_few_variants z)) (sym is) in
    let shape : shape_of (roll-SchemaNode x) ≡ shape_step (map-SchemaNode SchemaNode Form form_of (layer y)) =
    ap (λ (form : Form). form.shape) (fold-roll-SchemaNode Form form_step x) ∙ ap (λ z. shape_step (map-SchemaNode SchemaNode Form form_of z)) (sym is) in
    rw shape (sound_layer y (sym step ∙ few)))
