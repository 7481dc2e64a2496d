-- Pointers that own a value can be built on an allocator.
use Rattle.std.proofs.Common.{◌≡◌, ◌^◌, ◌<◌, List, length, refl, ◌∙◌, ap}
use Rattle.std.specs.declared.alloc.Global.{Global}
use Rattle.std.specs.declared.sync.Arc.{Arc}
use Rattle.std.specs.declared.boxed.Box.{Box}
use Rattle.std.specs.declared.boxed.BoxedSlice.{BoxedSlice}
use Rattle.std.specs.declared.rc.Rc.{Rc}
use Rattle.std.specs.declared.rc.RcSlice.{RcSlice}
use Rattle.std.specs.declared.sync.ArcSlice.{ArcSlice}
use Rattle.std.specs.Arc.{arc_value, arc_slice_items}
use Rattle.std.specs.Box.{box_value, boxed_slice_items}
use Rattle.std.specs.Rc.{rc_value, rc_slice_items}
use Rattle.std.specs.Vec.{vec_items}
use denote.RawPtr.{block_ptr}
use Rattle.bitcode_shapes.specs.LawfulLists.{vec_built}

pub box_built : {T : Type 0} → Global → (value : T) → (b : Box T Global) × (box_value b ≡ value)
box_built g value = (record { ptr = block_ptr 0 0; alloc = g; value = value }, refl)

pub rc_built : {T : Type 0} → Global → (value : T) → (r : Rc T Global) × (rc_value r ≡ value)
rc_built g value = (record { ptr = block_ptr 0 0; value = value }, refl)

pub arc_built : {T : Type 0} → Global → (value : T) → (a : Arc T Global) × (arc_value a ≡ value)
arc_built g value = (record { ptr = block_ptr 0 0; value = value }, refl)

pub boxed_slice_built : {T : Type 0} → Global → (values : List T) → length values < 2 ^ 63 → (b : BoxedSlice T Global) × (boxed_slice_items b ≡ values)
boxed_slice_built g values small = let built = vec_built g values small in (record { items = built.0 }, built.1)

pub rc_slice_built : {T : Type 0} → Global → (values : List T) → length values < 2 ^ 63 → (r : RcSlice T Global) × (rc_slice_items r ≡ values)
rc_slice_built g values small =
    let built = vec_built g values small in
    let shared = rc_built g built.0 in
    (record { items = shared.0 }, ap vec_items shared.1 ∙ built.1)

pub arc_slice_built : {T : Type 0} → Global → (values : List T) → length values < 2 ^ 63 → (a : ArcSlice T Global) × (arc_slice_items a ≡ values)
arc_slice_built g values small =
    let built = vec_built g values small in
    let shared = arc_built g built.0 in
    (record { items = shared.0 }, ap vec_items shared.1 ∙ built.1)
