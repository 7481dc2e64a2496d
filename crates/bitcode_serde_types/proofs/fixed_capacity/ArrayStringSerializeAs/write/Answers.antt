-- The text fits.
use Rattle.std.proofs.Common.{[], length, subst}
use Rattle.std.proofs.lemmas.Bool.{le-leb}
use Rattle.bitcode_shapes.specs.Datum.{text}
use Rattle.bitcode_untyped.specs.ShapeTree.{text_tree}
use Rattle.bitcode_serde.specs.Serializing.{Outcome}
use Rattle.bitcode_serde.proofs.WalkLemmas.{noted_outcome}
use Rattle.bitcode_serde_types.specs.Limited.{fits_in, array_string_tree}
use Rattle.bitcode_serde_types.proofs.fixed_capacity.ArrayStringSerializeAs.write.Goals as goal

pub returns : goal.returns
returns g c =
    let old = c.args.writer.now in
    let new = c.write_text.new.writer in
    subst (λ bytes. Outcome old (array_string_tree g.row.N) c.args.place (text bytes) [] c.write_text.result new) c.as_str.ensures.value
    (noted_outcome (fits_in g.row.N) old new text_tree c.args.place (text c.as_str.result.now) [] c.write_text.result
    (le-leb (length c.as_str.result.now) g.row.N c.as_str.ensures.fits) c.write_text.ensures)
