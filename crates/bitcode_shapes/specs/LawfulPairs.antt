-- Pairs of lawful types are lawful.
use Rattle.std.proofs.Common.{◌≡◌, Bool, true, false, refl, sym, ◌∙◌, subst}
use Rattle.std.specs.Prelude.{◌&&◌, IsTrue}
use Rattle.bitcode_shapes.specs.Datum.{Datum, pair}
use Rattle.bitcode_shapes.specs.Shape.{Shape, pair_shape}
use Rattle.bitcode_shapes.specs.Lawful.{Lawful, Makeable}
use Rattle.bitcode_shapes.specs.Storable.{IsStorable}
use Rattle.bitcode_shapes.specs.Pairs.{IsPairValue, ListsPair, MakesPair, SamePair}

pub pair_once : (a b c d : Datum) → pair a b ≡ pair c d → (a ≡ c) × (b ≡ d)
pair_once a b c d e = (cc, cc)

pub both : (a b : Bool) → IsTrue (a && b) → IsTrue a × IsTrue b
both true b h = (refl, h)
both false b h = absurd cc

module _ {A B : Type 0} (shape_a shape_b : Shape) (is_a : A → Type 0) (is_b : B → Type 0) (lists_a : A → Datum → Type 0) (lists_b : B → Datum → Type 0)
    (same_a : A → A → Type 0) (same_b : B → B → Type 0) where
  pub pair_lawful : (order_a order_b : Bool) → Lawful shape_a is_a lists_a same_a order_a → Lawful shape_b is_b lists_b same_b order_b
      → Lawful (pair_shape shape_a shape_b) (IsPairValue is_a is_b) (ListsPair lists_a lists_b) (SamePair same_a same_b) (order_a && order_b)
  pair_lawful order_a order_b la lb = record {
    sound = (la.sound, lb.sound);
    listed = λ t h. let l = la.listed t.0 h.0 in let m = lb.listed t.1 h.1 in
        (pair l.0 m.0, record { first = l.0; second = m.0; is = refl; lists_first = l.1; lists_second = m.1 });
    of_shape = λ t d h l. record {
      first = l.first;
      second = l.second;
      is = l.is;
      is_first = la.of_shape t.0 l.first h.0 l.lists_first;
      is_second = lb.of_shape t.1 l.second h.1 l.lists_second;
    };
    one_listing = λ o t d e h l m.
        let f : l.first ≡ m.first = la.one_listing (both order_a order_b o).0 t.0 l.first m.first h.0 l.lists_first m.lists_first in
        let s : l.second ≡ m.second = lb.one_listing (both order_a order_b o).1 t.1 l.second m.second h.1 l.lists_second m.lists_second in
        cc (l.is, m.is, f, s);
    reflexive = λ t h. (la.reflexive t.0 h.0, lb.reflexive t.1 h.1);
    symmetric = λ t u h i s. (la.symmetric t.0 u.0 h.0 i.0 s.0, lb.symmetric t.1 u.1 h.1 i.1 s.1);
    transitive = λ t u v h i j s r. (la.transitive t.0 u.0 v.0 h.0 i.0 j.0 s.0 r.0, lb.transitive t.1 u.1 v.1 h.1 i.1 j.1 s.1 r.1);
  }

  pub pair_makeable : (makes_a : Datum → A → Type 0) (makes_b : Datum → B → Type 0)
      → Makeable shape_a is_a lists_a same_a makes_a → Makeable shape_b is_b lists_b same_b makes_b
      → Makeable (pair_shape shape_a shape_b) (IsPairValue is_a is_b) (ListsPair lists_a lists_b) (SamePair same_a same_b) (MakesPair makes_a makes_b)
  pair_makeable makes_a makes_b ma mb = record {
    made = λ g d o s.
        let stored = subst (IsStorable (pair_shape shape_a shape_b)) o.is s in
        let x = ma.made g o.first o.is_first stored.0 in
        let y = mb.made g o.second o.is_second stored.1 in
        ((x.0, y.0), ((x.1.0, y.1.0), record { first = o.first; second = o.second; is = o.is; makes_first = x.1.1; makes_second = y.1.1 }));
    unambiguous = λ d t u h i m n.
        let e = pair_once m.first m.second n.first n.second (sym m.is ∙ n.is) in (
          ma.unambiguous n.first t.0 u.0 h.0 i.0 (subst (λ x. makes_a x t.0) e.0 m.makes_first) n.makes_first,
          mb.unambiguous n.second t.1 u.1 h.1 i.1 (subst (λ x. makes_b x t.1) e.1 m.makes_second) n.makes_second,
        );
    remade = λ t u d h i l m.
        let e = pair_once l.first l.second m.first m.second (sym l.is ∙ m.is) in (
          ma.remade t.0 u.0 m.first h.0 i.0 (subst (λ x. lists_a t.0 x) e.0 l.lists_first) m.makes_first,
          mb.remade t.1 u.1 m.second h.1 i.1 (subst (λ x. lists_b t.1 x) e.1 l.lists_second) m.makes_second,
        );
  }
