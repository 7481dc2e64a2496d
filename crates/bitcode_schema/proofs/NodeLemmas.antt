-- What each node has of few variants and of depth, by its variant.
use Rattle.std.proofs.Common.{◌≡◌, ℕ, ◌+◌, ◌-◌, ◌<◌, ◌&&◌, Bool, List, [], ◌∷◌, map, max, length, Vec, Global, sym, ap, ap₂, ◌∙◌, arith}
use Rattle.std.specs.Prelude.{nat_le}
use Rattle.std.specs.declared.string.String.{String}
use Rattle.std.specs.List.{list_all}
use Rattle.std.proofs.lemmas.List.{length-map}
use Rattle.std.proofs.lemmas.List.Folds.{list_all-map}
use Rattle.std.proofs.lemmas.Simd.{map-map}
use Rattle.bitcode_schema.specs.Depth.{depth, depth_step, has_few_variants, few_variants_step, greatest, most_variants}
use Rattle.bitcode_schema.specs.Forms.{parts_of}
use Rattle.bitcode_schema.specs.declared.schema.SchemaNode.{SchemaNode}
use Rattle.bitcode_schema.specs.declared.schema.SchemaNode.TheOpen.{SchemaNode-F}
use Rattle.bitcode_schema.specs.declared.schema.SchemaNode.TheFolds.{fold-roll-SchemaNode}
use Rattle.bitcode_schema.specs.declared.schema.SchemaNode.TheVariants as node

-- ---- few variants

pub few-Tuple : (v : Vec SchemaNode Global) → has_few_variants (node.Tuple v) ≡ list_all has_few_variants v.items
few-Tuple v =
    ap has_few_variants (sym (node.rolls-Tuple v)) ∙ fold-roll-SchemaNode Bool few_variants_step (SchemaNode-F.Tuple v)
    ∙ list_all-map (λ few. few) has_few_variants v.items

parts_few : (parts : List (String Global × SchemaNode)) → list_all (λ few. few) (parts_of (map (λ p. (p.0, has_few_variants p.1)) parts)) ≡ list_all (λ p. has_few_variants p.1) parts
parts_few parts = ap (list_all (λ few. few)) (map-map _ _ parts) ∙ list_all-map (λ few. few) (λ p. has_few_variants p.1) parts

pub few-Struct : (v : Vec (String Global × SchemaNode) Global) → has_few_variants (node.Struct v) ≡ list_all (λ p. has_few_variants p.1) v.items
few-Struct v =
    ap has_few_variants (sym (node.rolls-Struct v)) ∙ fold-roll-SchemaNode Bool few_variants_step (SchemaNode-F.Struct v)
    ∙ parts_few v.items

pub few-Enum : (v : Vec (String Global × SchemaNode) Global)
    → has_few_variants (node.Enum v) ≡ (nat_le (length v.items) most_variants && list_all (λ p. has_few_variants p.1) v.items)
few-Enum v =
    ap has_few_variants (sym (node.rolls-Enum v)) ∙ fold-roll-SchemaNode Bool few_variants_step (SchemaNode-F.Enum v)
    ∙ ap₂ (λ a b. nat_le a most_variants && b) (length-map v.items _) (parts_few v.items)

-- ---- depth

pub depth-Tuple : (v : Vec SchemaNode Global) → depth (node.Tuple v) ≡ greatest (map depth v.items) + 1
depth-Tuple v = ap depth (sym (node.rolls-Tuple v)) ∙ fold-roll-SchemaNode ℕ depth_step (SchemaNode-F.Tuple v)

pub depth-Struct : (v : Vec (String Global × SchemaNode) Global) → depth (node.Struct v) ≡ greatest (map (λ p. depth p.1) v.items) + 1
depth-Struct v =
    ap depth (sym (node.rolls-Struct v)) ∙ fold-roll-SchemaNode ℕ depth_step (SchemaNode-F.Struct v)
    ∙ ap (λ ns. greatest ns + 1) (map-map _ _ v.items)

pub depth-Enum : (v : Vec (String Global × SchemaNode) Global) → depth (node.Enum v) ≡ greatest (map (λ p. depth p.1) v.items) + 1
depth-Enum v =
    ap depth (sym (node.rolls-Enum v)) ∙ fold-roll-SchemaNode ℕ depth_step (SchemaNode-F.Enum v)
    ∙ ap (λ ns. greatest ns + 1) (map-map _ _ v.items)

both_within : (n most left : ℕ) → 0 < left → nat_le (max n most + 1) left ≡ (nat_le n (left - 1) && nat_le (most + 1) left)
both_within n most left some = grind arith

pub all_within : (ns : List ℕ) (left : ℕ) → 0 < left → nat_le (greatest ns + 1) left ≡ list_all (λ n. nat_le n (left - 1)) ns
all_within [] left some = grind arith
all_within (n ∷ ns) left some = both_within n (greatest ns) left some ∙ ap (λ b. nat_le n (left - 1) && b) (all_within ns left some)
