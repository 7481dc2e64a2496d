-- What a value keeps of a datum: all of it, if no map or heap is in the shape.
use Rattle.std.proofs.Common.{◌≡◌, ℕ, zero, suc, refl, ap, sym, ◌∙◌}
use Rattle.std.proofs.lemmas.List.Elements.{same_from_all_zip}
use Rattle.bitcode_shapes.specs.Datum.{Datum, Data, list, tuple, choice, no_data, datum_and, data_of}
use Rattle.bitcode_untyped.specs.ShapeTree.{any_order, admits, ShapeTree, ShapeTrees, unit_tree, never_tree, leaf_tree, seq_tree, map_tree, tuple_tree, choice_tree, noted_tree, no_trees, tree_and}
use Rattle.bitcode_serde_types.specs.Restates.{Restates, RestatesFields, RestatesVariant, KeepsAll, KeepAll}

mutual
  pub kept_whole : (s : ShapeTree) → KeepsAll s → (d e : Datum) → Restates s d e → e ≡ d
  kept_whole unit_tree n d e h = h
  kept_whole never_tree n d e h = h
  kept_whole (leaf_tree kind allowed) n d e h = h
  kept_whole (seq_tree s) n d e h =
      h.3 ∙ ap (λ zs. list (data_of zs)) (same_from_all_zip (Restates s) h.0 h.1 h.4 (λ x y r. kept_whole s n x y r)) ∙ sym h.2
  kept_whole (map_tree k v) n d e h = absurd n
  kept_whole (tuple_tree ss) n d e h = h.3 ∙ ap tuple (fields_whole ss n h.0 h.1 h.4) ∙ sym h.2
  kept_whole (choice_tree ss) n d e h = h.4 ∙ ap (choice h.0) (payload_whole ss n h.0 h.1 h.2 h.5) ∙ sym h.3
  kept_whole (noted_tree any_order s) n d e h = absurd n
  kept_whole (noted_tree (admits check reason) s) n d e h = kept_whole s n d e h

  fields_whole : (ss : ShapeTrees) → KeepAll ss → (ds es : Data) → RestatesFields ss ds es → es ≡ ds
  fields_whole no_trees n no_data no_data h = refl
  fields_whole no_trees n no_data (datum_and e es) h = absurd h
  fields_whole no_trees n (datum_and d ds) no_data h = absurd h
  fields_whole no_trees n (datum_and d ds) (datum_and e es) h = absurd h
  fields_whole (tree_and s ss) n no_data no_data h = absurd h
  fields_whole (tree_and s ss) n no_data (datum_and e es) h = absurd h
  fields_whole (tree_and s ss) n (datum_and d ds) no_data h = absurd h
  fields_whole (tree_and s ss) n (datum_and d ds) (datum_and e es) h =
      ap (λ x. datum_and x es) (kept_whole s n.0 d e h.0) ∙ ap (datum_and d) (fields_whole ss n.1 ds es h.1)

  payload_whole : (ss : ShapeTrees) → KeepAll ss → (i : ℕ) (x y : Datum) → RestatesVariant ss i x y → y ≡ x
  payload_whole no_trees n i x y h = h
  payload_whole (tree_and s ss) n zero x y h = kept_whole s n.0 x y h
  payload_whole (tree_and s ss) n (suc i) x y h = payload_whole ss n.1 i x y h
