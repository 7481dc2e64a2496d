-- Payloads are dealt one by one, and each choice holds the datum of its variant's next payload.
use Rattle.std.proofs.Common.{◌≡◌, ℕ, zero, suc, ◌<◌, Some, List, [], ◌∷◌, ◌++◌, length, map, drop, get_or, slice_get, All, ◌≢◌, ◌⊎◌, ◌==◌, refl, sym, ap, subst, ◌∙◌, arith, append_assoc, inl, inr, get_or-set_same, length-set}
use Rattle.std.specs.Prelude.{slice_index_or, slice_set}
use Rattle.std.proofs.lemmas.Bool.{cases_Bool, false≢true}
use Rattle.std.proofs.lemmas.List.{append-nil, get_or-set_other}
use Rattle.std.proofs.lemmas.List.Elements.{All-head, All-tail}
use Rattle.bitcode_shapes.specs.Datum.{Datum}
use Rattle.bitcode_shapes.specs.Datum as datum
use Rattle.bitcode_parts.specs.Payloads.{payloads_of, next_choice, choices_of}
use Rattle.bitcode_schema.specs.Forms.{Content, changed, choice_content, chosen_content}
use Rattle.bitcode_schema.specs.Parts.{choice_under}
use Rattle.bitcode_schema.specs.Views.{Hold}
use Rattle.bitcode_schema.proofs.ChoiceWritingLemmas.{there_below, same_number, is_itself}
use Rattle.bitcode_schema.proofs.HoldLemmas.{some_same}
use Rattle.bitcode_schema.specs.Making.{Deals, AreDealt}
use Rattle.bitcode_untyped.specs.declared.value.Value.{Value}

-- choices were dealt to the first variants, and with choices for those that are left, to all
pub record DealtTo (all : List ℕ) (before : List (List Value)) (left : List ℕ) (now : List (List Value)) (choices : List (ℕ × Value)) : Type 0 where
  pub more : (behind : List (ℕ × Value)) → AreDealt left now behind → AreDealt all before (choices ++ behind)

pub dealt_next : (all : List ℕ) (before : List (List Value)) (old left : List ℕ) (now next : List (List Value)) (choices after : List (ℕ × Value)) (variant : ℕ) (value : Value)
    → DealtTo all before old now choices → old ≡ variant ∷ left → Deals variant value now next → after ≡ choices ++ (variant, value) ∷ []
    → DealtTo all before left next after
dealt_next all before old left now next choices after variant value done first is grown = record {
  more = λ behind each.
      let here : AreDealt old now ((variant, value) ∷ behind) = subst (λ vs. AreDealt vs now ((variant, value) ∷ behind)) (sym first) (next, (refl, (is, each))) in
      subst (AreDealt all before) (sym (ap (λ cs. cs ++ behind) grown ∙ append_assoc choices ((variant, value) ∷ []) behind)) (done.more ((variant, value) ∷ behind) here);
}

pub dealt_all : (all : List ℕ) (before : List (List Value)) (left : List ℕ) (now : List (List Value)) (choices : List (ℕ × Value))
    → DealtTo all before left now choices → left ≡ [] → AreDealt all before choices
dealt_all all before left now choices done none =
    subst (AreDealt all before) (append-nil choices) (done.more [] (subst (λ vs. AreDealt vs now []) (sym none) refl))

pub left_from : (xs : List ℕ) (i next d : ℕ) → next ≡ suc i → i < length xs → drop i xs ≡ get_or xs i d ∷ drop next xs
left_from xs i next d after below = from xs i below ∙ ap (λ n. get_or xs i d ∷ drop n xs) (sym after)
  where
    from : (ys : List ℕ) (j : ℕ) → j < length ys → drop j ys ≡ get_or ys j d ∷ drop (suc j) ys
    from [] j lt = absurd (omega (arith, lt))
    from (y ∷ ys) zero lt = refl
    from (y ∷ ys) (suc j) lt = from ys j (let h : suc j < suc (length ys) = lt in omega arith)

pub mapped_at : {A B : Type 0} (f : A → B) (xs : List A) (i : ℕ) (a : A) (b : B) → i < length xs → a ≡ get_or xs i a → slice_index_or (map f xs) i b ≡ f a
mapped_at f [] i a b lt e = absurd (omega (arith, lt))
mapped_at f (x ∷ xs) zero a b lt e = ap f (sym e)
mapped_at f (x ∷ xs) (suc i) a b lt e = mapped_at f xs i a b (let h : suc i < suc (length xs) = lt in omega arith) e

-- ---- what choices hold

pub cases_same : (i v : ℕ) → (i ≡ v) ⊎ (i ≢ v)
cases_same i v = elim (cases_Bool (i == v)) [
  | inl same ↦ inl (same_number i v same)
  | inr other ↦ inr (λ e. false≢true (sym other ∙ ap (λ n. n == v) e ∙ is_itself v))
]

module _ (contents : List Content) where
  -- the values and the data of each variant
  abbrev pub HoldEach : List (List Value) → List (List Datum) → Type 0
  HoldEach lists datas = (i : ℕ) (content : Content) → slice_get contents i ≡ Some content → Hold content (slice_index_or lists i []) (payloads_of i datas)

  set_both : (lists : List (List Value)) (datas : List (List Datum)) (v : ℕ) (left : List Value) (ds : List Datum) (c : Content)
      → v < length lists → v < length datas → slice_get contents v ≡ Some c → Hold c left ds → HoldEach lists datas
      → HoldEach (slice_set lists v left) (slice_set datas v ds)
  set_both lists datas v left ds c within among there h each i content is =
      elim (cases_same i v) [
        | inl same ↦
            let mine : c ≡ content = some_same (sym there ∙ ap (slice_get contents) (sym same) ∙ is) in
            subst (λ n. Hold content (slice_index_or (slice_set lists v left) n []) (payloads_of n (slice_set datas v ds))) (sym same)
            (subst (λ xs. Hold content xs (payloads_of v (slice_set datas v ds))) (sym (get_or-set_same lists v left [] within))
            (subst (Hold content left) (sym (get_or-set_same datas v ds [] among)) (subst (λ d. Hold d left ds) mine h)))
        | inr other ↦
            subst (λ xs. Hold content xs (payloads_of i (slice_set datas v ds))) (sym (get_or-set_other lists v i left [] other))
            (subst (Hold content (slice_index_or lists i [])) (sym (get_or-set_other datas v i ds [] other)) (each i content is))
      ]

  abbrev DealtHolds : List ℕ → List (List Datum) → List (ℕ × Value) → Type 0
  DealtHolds variants datas choices = Hold (choice_under contents) choices (choices_of variants datas)

  one_dealt : (v : ℕ) (variants : List ℕ) (datas : List (List Datum)) (c : Content) (choice : ℕ × Value) (choices : List (ℕ × Value)) (left : List Value)
      → choice.0 ≡ v → slice_get contents v ≡ Some c → (ds : List Datum) → Hold c (choice.1 ∷ left) ds
      → ((es : List Datum) → Hold c left es → DealtHolds variants (slice_set datas v es) choices)
      → Hold (choice_under contents) (choice ∷ choices) (next_choice v ds (λ es. choices_of variants (slice_set datas v es)))
  one_dealt v variants datas c choice choices left same there [] h later = absurd h
  one_dealt v variants datas c choice choices left same there (d ∷ ds) h later = (
    ap (λ n. choice_content contents n choice.1) same ∙ ap (λ o. chosen_content o v choice.1) there ∙ ap (changed (datum.choice v)) h.0,
    later ds h.1,
  )

  pub dealt_held : (variants : List ℕ) (lists : List (List Value)) (datas : List (List Datum)) (choices : List (ℕ × Value))
      → All (λ v. v < length contents) variants → length lists ≡ length contents → length datas ≡ length contents → HoldEach lists datas
      → AreDealt variants lists choices → Hold (choice_under contents) choices (choices_of variants datas)
  dealt_held [] lists datas choices below many few each dealt = subst (λ cs. Hold (choice_under contents) cs []) (sym dealt) tt
  dealt_held (v ∷ variants) lists datas [] below many few each dealt = absurd dealt
  dealt_held (v ∷ variants) lists datas (choice ∷ choices) below many few each dealt =
      let here : v < length contents = All-head (λ n. n < length contents) v variants below in
      let c = there_below contents v here in
      let deals = dealt.1.1.0 in
      let h : Hold c.0 (choice.1 ∷ deals.left) (payloads_of v datas) = subst (λ xs. Hold c.0 xs (payloads_of v datas)) deals.first (each v c.0 c.1) in
      one_dealt v variants datas c.0 choice choices deals.left dealt.1.0 c.1 (payloads_of v datas) h
      (λ es k.
      dealt_held variants dealt.0 (slice_set datas v es) choices (All-tail (λ n. n < length contents) v variants below)
      (ap length deals.rest ∙ length-set lists v deals.left ∙ many) (length-set datas v es ∙ few)
      (subst (λ ls. HoldEach ls (slice_set datas v es)) (sym deals.rest)
      (set_both lists datas v deals.left es c.0 (subst (λ n. v < n) (sym many) here) (subst (λ n. v < n) (sym few) here) c.1 k each))
      dealt.1.1.1)
