-- What the walks of the functions that hold a pointer share. Assumes `Logic`.
--     word_had, word_made, mark_had, mark_made      a value of one pointer, and one of no bytes
--     forgotten, appended, items_seen, all_forgotten      the items behind the first ones are room; one item more; the first ones are seen; all are room
use mathlib.Core.Path.{◌≡◌, refl, sym, ap, subst, ◌∙◌}
use Prim.Native.Nat.{ℕ, zero, suc, ◌+◌, ◌-◌, ◌*◌, ◌≤◌}
use native.Mathlib.Omega.{arith}
use native.Mathlib.Nat.{add_comm}
use mathlib.Core.List.{List, [], ◌∷◌, ◌++◌}
use lib.ListN.{length, take, drop, take-append-drop, length-take, length-drop}
use seplogic.Ra.Ura.{Ura}
use base.Fraction.{full_share}
use mir.Syntax.{ty_array}
use mir.Val.{Val, vstruct, vcons, vnil, of_list}
use base.Logic.{ent, sep, emp, mono_r}
use base.Fml.{Fml, Lft, froom}
use types.Logic.{Logic, sem}
use types.Kit.{Item, Goal, Seq, Step, step, ‵, ◌⊛◌, ◌$◌, ◌∵◌, !, qed, by, move, keep, drop as skip, use1, use2, split, fsplit, fjoin, fpick, fpack, feq_i, feq_l, rewrite, done}
use denote.RattleType.{RattleType, Valss}
use denote.Laws.{Typed, Is, shows}
use denote.Param.Laws.{param_laws}
use denote.Memory.{part_at, shared_of}
use denote.Index.{row, place, place_is}
use denote.RawPtr.{Ptr, RawPtr, ptr_val}
use denote.Shadow.{makes_shadow}
use denote.Slice.{elements_shared}
use denote.Steps.{nothing, peeks}
use denote.Struct.Struct.{Shape, Struct, within}
use denote.Struct.Owning.{shape}
use denote.Struct.Declared as Declared
use denote.Struct.Tuple.{Tuple, tuple_type}
use Rattle.std.specs.Mem.{type_size}
use Rattle.std.proofs.Math.Nat.{add-mul}
use Rattle.core.proofs.mem.Param.{El, R, el_x, elτ}
use Rattle.std_alloc.proofs.VecSteps.El as of_vec
use Rattle.std_alloc.proofs.VecSteps.Rows.{row_cut, row_glue, row_room, glued}
use Rattle.std_alloc.proofs.RcSteps.{Good, word}
use Rattle.bitcode_memory.specs.Memory.{items_lent}
use Rattle.bitcode_memory.specs.contracts.fast.memory.Places as P-type
use Rattle.bitcode_memory.specs.contracts.fast.memory.Start as S-type

-- an item type, as the lemmas on the items of a `Vec` take it
abbrev pub vec_el : El → of_vec.El
vec_el E = record { row = E.row; laws = E.laws; al = of_vec.no_al }

module _ (E : El) where
  abbrev pub Ps : RattleType
  Ps = P-type.the_row (R E)

  abbrev pub St : RattleType
  St = S-type.the_row (R E)

  -- the one field of `Places`, which takes no bytes
  abbrev pub Mark : RattleType
  Mark = Struct (shape (P-type.the_type (R E)))

  abbrev pub sz : ℕ
  sz = type_size (R E)

abbrev one_field : Shape
one_field = record { name = []; args = []; types = []; fields = RawPtr ∷ [] }

abbrev pub Word : RattleType
Word = Struct one_field

abbrev pub mark : Val
mark = vstruct (vcons (vstruct vnil) vnil)

pub mark_made : (E : El) {M : Type 1} {𝓤 : Ura M} (𝓛 : Logic 𝓤) → ent 𝓤 (emp 𝓤) (sem 𝓛 ((Mark E).own_val (tt, tt) (mark ∷ [])))
mark_made E 𝓛 = makes_shadow 𝓛 ((Mark E).own_val (tt, tt) (mark ∷ [])) (λ vss. (tt, ((λ uss. (tt, tt)), tt))) ((vstruct vnil ∷ [], tt), (refl, ((tt, (refl, tt)), tt)))

module _ {M : Type 1} {𝓤 : Ura M} {𝓛 : Logic 𝓤} {K : Type 0} {Γ : List (Item 𝓤)} {G : Goal 𝓤 𝓛.H} where
  pub word_had : K → (c : Ptr) (vs : List Val) → (vs ≡ word c ∷ [] → Seq K 𝓛 Γ G) → Seq K 𝓛 (‵ (Word.own_val (c, tt) vs) ∷ Γ) G
  word_had t c vs k = fpick t (λ vss. fsplit t $ feq_l t (λ ev. fsplit t $ feq_l t (λ e. skip t $ k (subst (λ (ws : List Val). vs ≡ vstruct (of_list (ws ++ [])) ∷ []) e ev))))

  pub word_made : K → (c : Ptr) → Step K 𝓛 (‵ (Word.own_val (c, tt) (word c ∷ [])) ∷ Γ) G Γ G
  word_made t c = step (λ s.
      nothing t $ feq_i t (List Val) (ptr_val c ∷ []) (ptr_val c ∷ []) refl $ fjoin t $ feq_i t (List Val) (word c ∷ []) (word c ∷ []) refl $ fjoin t $
      fpack t (Valss (RawPtr ∷ [])) (within one_field (c, tt) (word c ∷ [])) (ptr_val c ∷ [], tt) $ s)

  pub mark_had : K → (E : El) (vs : List Val) → (vs ≡ mark ∷ [] → Seq K 𝓛 Γ G) → Seq K 𝓛 (‵ ((Mark E).own_val (tt, tt) vs) ∷ Γ) G
  mark_had t E vs k = fpick t (λ vss. fsplit t $ feq_l t (λ ev. fsplit t $ fpick t (λ uss. fsplit t $ feq_l t (λ e. skip t $ skip t $
      k (subst (λ (ws : List Val). vs ≡ vstruct (of_list (ws ++ [])) ∷ []) e ev)))))

abbrev pub three_val : Val → Val → Val → Val
three_val u v w = vstruct (vcons u (vcons v (vcons w vnil)))

pub three_of : {M : Type 1} {𝓤 : Ura M} (𝓛 : Logic 𝓤) (R S T : RattleType) (x : R.Denot) (y : S.Denot) (z : T.Denot) (u v w : Val)
    → ent 𝓤 (sep 𝓤 (sem 𝓛 (R.own_val x (u ∷ []))) (sep 𝓤 (sem 𝓛 (S.own_val y (v ∷ []))) (sem 𝓛 (T.own_val z (w ∷ []))))) (sem 𝓛 ((Tuple (R ∷ S ∷ T ∷ [])).own_val (x, y, z) (three_val u v w ∷ [])))
three_of 𝓛 R S T x y z u v w =
    qed 𝓛 (‵ (R.own_val x (u ∷ [])) ∷ ‵ (S.own_val y (v ∷ [])) ∷ ‵ (T.own_val z (w ∷ [])) ∷ []) ∵ nothing ! $ move ! (3 ∷ 0 ∷ []) $ fjoin ! $ move ! (2 ∷ 0 ∷ []) $ fjoin ! $ move ! (1 ∷ 0 ∷ []) $ fjoin ! $
    feq_i ! (List Val) (three_val u v w ∷ []) (three_val u v w ∷ []) refl $ fjoin ! $
    fpack ! (Valss (R ∷ S ∷ T ∷ [])) (within (Declared.shape (tuple_type (R ∷ S ∷ T ∷ []))) (x, (y, (z, tt))) (three_val u v w ∷ [])) (u ∷ [], (v ∷ [], (w ∷ [], tt))) $ done !

alone : (E : El) (vs : List Val) → Typed (elτ E ∷ []) vs → (v : Val) × ((vs ≡ v ∷ []) × Good (elτ E) v)
alone E [] t = absurd t
alone E (v ∷ []) t = (v, (refl, t.0))
alone E (v ∷ w ∷ vs) t = absurd t.1

module _ (E : El) {M : Type 1} {𝓤 : Ura M} {𝓛 : Logic 𝓤} {K : Type 0} {Γ : List (Item 𝓤)} {G : Goal 𝓤 𝓛.H} where
  -- what is owned of an item is one machine value, of its type
  pub tells : K → (x : el_x E) (vs : List Val) → ((v : Val) → vs ≡ v ∷ [] → Good (elτ E) v → Seq K 𝓛 (‵ (E.row.own_val x (v ∷ [])) ∷ Γ) G) → Seq K 𝓛 (‵ (E.row.own_val x vs) ∷ Γ) G
  tells t x vs k =
      peeks t (R E) (Is (R E)) (shows 𝓛 (R E)) x vs (λ is.
      let one = alone E vs (((param_laws 0 E.row E.laws).lawful 𝓛).typed x vs is) in
      rewrite t 0 (λ (us : List Val). ‵ (E.row.own_val x us)) one.1.0 refl $ k one.0 one.1.0 one.1.1)

further : (o i d s : ℕ) → o + (i + d) * s ≡ o + i * s + d * s
further o i d s = omega (arith, add-mul i d s)

module _ (E : El) {M : Type 1} {𝓤 : Ura M} (𝓛 : Logic 𝓤) (b : ℕ) where
  open 𝓛 use {H}

  abbrev s : ℕ
  s = sz E

  abbrev Row : List (el_x E) → ℕ → Fml
  Row xs o = row (R E) full_share xs b o

  abbrev pub Room : ℕ → ℕ → Fml
  Room n o = froom (ty_array (elτ E) n) b o

  pub forgotten : (xs : List (el_x E)) (i c o : ℕ) → i ≤ length xs → length xs ≤ c
      → ent 𝓤 (sep 𝓤 (sem 𝓛 (Row xs o)) (sem 𝓛 (Room (c - length xs) (o + length xs * s)))) (sep 𝓤 (sem 𝓛 (Row (take i xs) o)) (sem 𝓛 (Room (c - i) (o + i * s))))
  forgotten xs i c o le fits =
      let d = length (drop i xs) in
      let front : length (take i xs) ≡ i = omega (arith, length-take i xs) in
      let all : length xs ≡ i + d = omega (arith, length-drop i xs) in
      let rest : d + (c - length xs) ≡ c - i = omega arith in
      let at : place s o (length (take i xs)) ≡ o + i * s = ap (place s o) front ∙ place_is s o i ∙ add_comm (i * s) o in
      let end : o + length xs * s ≡ o + i * s + d * s = ap (λ k. o + k * s) all ∙ further o i d s in
      qed 𝓛 (‵ (Row xs o) ∷ ‵ (Room (c - length xs) (o + length xs * s)) ∷ []) ∵
      rewrite ! 1 (λ (k : ℕ). ‵ (Room (c - length xs) k)) end refl $
      rewrite ! 0 (λ (l : List (el_x E)). ‵ (Row l o)) (sym (take-append-drop i xs)) refl $
      use1 𝓛 (‵ (Row (take i xs) o) ⊛ ‵ (Row (drop i xs) (place s o (length (take i xs))))) (row_cut (vec_el E) 𝓛 full_share (take i xs) (drop i xs) b o) $ split ! $ move ! (1 ∷ []) $
      rewrite ! 0 (λ (k : ℕ). ‵ (Row (drop i xs) k)) at refl $
      use1 𝓛 (‵ (Room d (o + i * s))) (row_room (vec_el E) 𝓛 (drop i xs) b (o + i * s)) $ move ! (0 ∷ 2 ∷ []) $
      use2 𝓛 (‵ (Room (c - i) (o + i * s))) (glued (vec_el E) 𝓛 d (c - length xs) (c - i) b (o + i * s) rest) $ move ! (1 ∷ 0 ∷ []) $ done !

  pub all_forgotten : (xs : List (el_x E)) (c o : ℕ) → length xs ≤ c → ent 𝓤 (sep 𝓤 (sem 𝓛 (Row xs o)) (sem 𝓛 (Room (c - length xs) (o + length xs * s)))) (sem 𝓛 (Room c o))
  all_forgotten xs c o fits =
      let all : length xs + (c - length xs) ≡ c = omega arith in
      qed 𝓛 (‵ (Row xs o) ∷ ‵ (Room (c - length xs) (o + length xs * s)) ∷ []) ∵
      use1 𝓛 (‵ (Room (length xs) o)) (row_room (vec_el E) 𝓛 xs b o) $ by ! (glued (vec_el E) 𝓛 (length xs) (c - length xs) c b o all)

  pub appended : (ys : List (el_x E)) (x : el_x E) (o : ℕ) → ent 𝓤 (sep 𝓤 (sem 𝓛 (Row ys o)) (sem 𝓛 (part_at (R E) full_share x b (length ys * s + o)))) (sem 𝓛 (Row (ys ++ x ∷ []) o))
  appended ys x o =
      qed 𝓛 (‵ (Row ys o) ∷ ‵ (part_at (R E) full_share x b (length ys * s + o)) ∷ []) ∵ move ! (1 ∷ []) $
      rewrite ! 0 (λ (k : ℕ). ‵ (part_at (R E) full_share x b k)) (sym (place_is s o (length ys))) refl $ nothing ! $ move ! (1 ∷ 0 ∷ []) $ fjoin ! $ move ! (1 ∷ 0 ∷ []) $
      by ! (row_glue (vec_el E) 𝓛 full_share ys (x ∷ []) b o)

  pub items_seen : (κ : Lft) (n : ℕ) (xs : List (el_x E)) (o : ℕ) → ent 𝓤 (sem 𝓛 (items_lent (R E) b o xs κ)) (sem 𝓛 (elements_shared (R E) (take n xs) b o κ))
  items_seen κ zero xs o = qed 𝓛 (‵ (items_lent (R E) b o xs κ) ∷ []) ∵ keep ! [] $ done !
  items_seen κ (suc n) [] o = qed 𝓛 (‵ (items_lent (R E) b o [] κ) ∷ []) ∵ keep ! [] $ done !
  items_seen κ (suc n) (x ∷ xs) o = mono_r 𝓤 (sem 𝓛 (shared_of (R E) x b o κ)) (items_seen κ n xs (o + s))
